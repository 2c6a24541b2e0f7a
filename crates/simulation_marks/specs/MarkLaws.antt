-- How often marks are passed, and how many addresses they have.
use Rattle.std.specs.Prelude.{◌≡◌, ℕ, ◌+◌, ◌≤◌, pos, List, [], ◌∷◌, length, map, Option, Some, None, sum_by}
use Rattle.std.specs.List.{range_with_len}
use Rattle.frac128.specs.Terms.{int_sum_by}
use Rattle.rv_core.specs.Runs.{Setup, mrun}
use Rattle.code_flow_system.specs.KeptRuns.{visit_count}
use Rattle.low_ir.specs.declared.run.Began.{Began}
use Rattle.low_ir.specs.Code.{Block, Function, Low}
use Rattle.low_ir.specs.Effects.{World}
use Rattle.low_ir.specs.Places.{Assignment, Placed, placed}
use Rattle.low_ir.specs.Turns.{mark_count}
use Rattle.asm_program.specs.Marked.{functions_marked}
use Rattle.simulation_relation.specs.Following.{Ends}
use Rattle.image_frames.specs.Memories.{Placement}
use Rattle.simulation_loaded.specs.Layouts.{layout_of}
use Rattle.claims_definition.specs.Listed.{Laid, places_of}
use Rattle.claims_image.specs.Images.{laid_of}

-- the addresses of a mark are visited, all together, as often as the run over places passes the mark
abbrev pub MarksAreCounted : Type 0
MarksAreCounted = (pl : Placement) (p : Placed) (s : Setup) (v : ℕ) (u : World) (n : ℕ) → Ends (layout_of pl p) s v u n → (mark : ℕ) → int_sum_by (visit_count (mrun s n).visits) (places_of (laid_of pl p) mark) ≡ pos (mark_count p u.trace mark)

-- over places and over virtual registers the same blocks have the mark
abbrev pub PlacedKeepMarks : Type 0
PlacedKeepMarks = (a : Assignment) (low : Low) (trace : List Began) (mark : ℕ) → mark_count (placed a low) trace mark ≡ mark_count low trace mark

-- a mark has one address for each block that has it
abbrev pub PlacesAreFew : Type 0
PlacesAreFew = (l : Laid) (mark : ℕ) → length (places_of l mark) ≡ functions_marked mark l.program.functions

-- how many blocks have a mark, whichever it is
abbrev pub has_mark : Option ℕ → ℕ
has_mark None = 0
has_mark (Some m) = 1

abbrev pub blocks_standing : {R K : Type 0} → List (Block R K) → ℕ
blocks_standing [] = 0
blocks_standing (b ∷ bs) = has_mark b.mark + blocks_standing bs

abbrev pub functions_standing : {R K : Type 0} → List (Function R K) → ℕ
functions_standing [] = 0
functions_standing (fn ∷ fns) = blocks_standing fn.blocks + functions_standing fns

-- the marks below n have no more addresses together
abbrev pub AllPlacesAreFew : Type 0
AllPlacesAreFew = (l : Laid) (n : ℕ) → sum_by length (map (places_of l) (range_with_len 0 n)) ≤ functions_standing l.program.functions

-- and over virtual registers these are as many
abbrev pub PlacedStand : Type 0
PlacedStand = (a : Assignment) (low : Low) → functions_standing (placed a low).functions ≡ functions_standing low.functions
