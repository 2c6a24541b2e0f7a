-- The image of a program is laid as its layout says.
use Rattle.std.proofs.Common.{◌≡◌, ℕ, ◌+◌, ◌<◌, ◌≤◌, Bool, true, false, [], length, map, Contains, refl, sym, subst, arith, if◌then◌else◌}
use Rattle.std.specs.Prelude.{◌==◌, All, slice_index_or}
use Rattle.std.proofs.lemmas.Bool.{false≢true}
use Rattle.std.proofs.lemmas.Bool.Decides.{nat_tests}
use Rattle.std.proofs.lemmas.List.Elements.{All-contains_itself}
use Rattle.code_flow_system.specs.Claims.{Claims}
use Rattle.code_flow_system.specs.Moves.{Code, code_of}
use Rattle.asm_items.specs.Placings.{Placing, base_of, block_of, blocks_of}
use Rattle.asm_writing.specs.Forms.{AreLike}
use Rattle.asm_forms.proofs.LikeLemmas.{formed_like}
use Rattle.asm_placed.proofs.Alike.{block_alike}
use Rattle.asm_graphs.specs.Graphs.{Graph}
use Rattle.asm_graphs.specs.Laid.{IsImageOf}
use Rattle.asm_graphs.proofs.ReachedLemmas.{starts_next, ends_within}
use Rattle.low_ir.specs.Places.{Placed}
use Rattle.asm_program.specs.Formed.{IsProgram}
use Rattle.asm_program.specs.Functions.{function_in, at_once, graph_of}
use Rattle.asm_program.specs.Ranges.{InProgram}
use Rattle.claims_definition.specs.Lines.{items_accesses}
use Rattle.claims_definition.specs.Touches.{program_touches}
use Rattle.simulation_relation.specs.Noted.{noted_at}
use Rattle.simulation_relation.specs.Layouts.{Layout, HasCode, IsLaid}
use Rattle.simulation_loaded.specs.MemoryLaws.{KeepsRegisters}
use Rattle.simulation_loaded.proofs.PlanLemmas.{is_plan}
use Rattle.image_frames.specs.Memories.{Placement, memory_of}
use Rattle.image_definition.specs.Images.{rows_in, items_in, formed_in, placing_in, image_in, exits_in, FitsImage}
use Rattle.image_definition.proofs.LaidLemmas.{image_is, placed_even}
use Rattle.simulation_loaded.specs.Layouts.{layout_of}
use Rattle.simulation_loaded.proofs.BegunLemmas.{begins_alone, begins_none}
use Rattle.simulation_loaded.proofs.ExitLemmas.{exits_call}
use Rattle.simulation_loaded.proofs.NotedLemmas.{touch_of, items_are, touches_are}
use Rattle.simulation_loaded.proofs.CodeLemmas.{block_accesses, has_code}
use Rattle.simulation_loaded.proofs.OpenLemmas.{memory_open}

count_by : (t : Bool) (n k : ℕ) → t ≡ false → n ≤ (if t then 1 else n + k)
count_by true n k e = absurd (false≢true (sym e))
count_by false n k e = omega arith

module _ (pl : Placement) (p : Placed) (formed : IsProgram p) (sound : InProgram p) (keeps : KeepsRegisters p) (fits : FitsImage pl p) where
  abbrev l : Layout
  l = layout_of pl p

  abbrev g : Graph
  g = graph_of (memory_of pl p) p

  -- claims of the exits alone
  abbrev claims : Claims
  claims = record { exits = exits_in pl p; nevers = []; regions = []; loops = []; facts = [] }

  abbrev place : Placing
  place = placing_in pl p

  abbrev c : Code
  c = code_of (image_in pl p) claims

  here : IsImageOf g place (length p.functions) (image_in pl p) claims
  here = image_is pl p fits formed sound (image_in pl p) claims refl refl (placed_even pl p)

  few : (f : ℕ) → f < length p.functions → length (function_in p f).blocks ≤ g.blocks f
  few f less = count_by (f == length p.functions) (length (function_in p f).blocks) (if at_once (memory_of pl p) p f then 0 else 1) (grind (arith, nat_tests, less))

  -- what a block accesses is among the accesses of its function
  listed : (f b : ℕ) → f ≤ length p.functions → All (Contains (l.accesses f)) (items_accesses l.regions (l.starts f b) (map touch_of (noted_at (memory_of pl p) p f b)) (block_of place f b))
  listed f b there =
      subst (λ ts. All (Contains (l.accesses f)) (items_accesses l.regions (l.starts f b) ts (block_of place f b))) (sym (touches_are (memory_of pl p) p f b there))
      (block_accesses (Contains (l.accesses f)) l.regions (base_of place f) (slice_index_or (program_touches (memory_of pl p) p) f []) (blocks_of place f) b (All-contains_itself (l.accesses f)))

  code : (f b : ℕ) → f < g.functions → b < g.blocks f → HasCode l f (l.stops f b) (l.starts f b) (noted_at (memory_of pl p) p f b)
  code f b i j =
      let end = ends_within g place c here.shaped here.laid f b j in
      let room = here.laid.room f i in
      let there : f ≤ length p.functions = omega (arith, i) in
      has_code l f (l.stops f b) (l.starts f b) (noted_at (memory_of pl p) p f b) (block_of place f b) there
      (subst (λ xs. AreLike xs (block_of place f b)) (sym (items_are (memory_of pl p) p f b there)) (block_alike (items_in pl p) (formed_in pl p) f b (formed_like (rows_in pl p) (items_in pl p)))) (here.laid.stands f b i j) (listed f b there) (here.laid.places f b).aligned refl (omega (arith, end, room))

  pub is_laid : IsLaid l (image_in pl p)
  is_laid = record {
    formed = formed;
    plan = is_plan pl p formed sound keeps fits.memory;
    opens = memory_open pl p fits;
    fetches = λ a. refl;
    blocks = code;
    places = here.laid.places;
    next = λ f b i j. starts_next g place c here.shaped here.laid f b j;
    entry = here.entry;
    begins = begins_alone p g place c here.shaped here.laid refl few;
    quiet = begins_none p g place c here.shaped here.laid refl few;
    no_link = here.laid.no_link;
    exits = exits_call g place c here.laid;
  }
