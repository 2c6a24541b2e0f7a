-- How often the loops of a run started, and what a good run is.
use Rattle.std.specs.Prelude.{◌≡◌, ◌⊎◌, ℕ, suc, ◌≤◌, ◌==◌, ◌&&◌, Bool, true, false, if◌then◌else◌, List, [], ◌∷◌, Option, Some, None, All, slice_get, count_by}
use Rattle.std.specs.List.{flat_map}
use Rattle.std.specs.Option.{option_to_list}
use Rattle.low_ir.specs.Code.{Block, Loop, Function, Program}
use Rattle.low_ir.specs.declared.run.Began.{Began}
use Rattle.low_ir.specs.Effects.{World}
use Rattle.low_ir.specs.Runs.{Run, Done, block_in}

-- a trace as a loop sees it: whether its latch was passed since its last start, and the starts of each entry, the last entry first
pub record Turns : Type 0 where
  pub again : Bool
  pub starts : List ℕ

abbrev pub is_at : Began → ℕ → ℕ → Bool
is_at e f b = (e.function == f) && (e.block == b)

-- one start more of the last entry
abbrev pub once_more : List ℕ → List ℕ
once_more [] = 1 ∷ []
once_more (n ∷ ns) = suc n ∷ ns

-- a start from the latch is one more of the same entry, and any other one the first of a new entry
abbrev pub started : Bool → List ℕ → List ℕ
started true ns = once_more ns
started false ns = 1 ∷ ns

abbrev pub turn : ℕ → Loop → Turns → Began → Turns
turn f l t e =
    if is_at e f l.header then record { again = false; starts = started t.again t.starts }
    else if is_at e f l.latch then record { again = true; starts = t.starts } else t

abbrev pub turns : ℕ → Loop → Turns → List Began → Turns
turns f l t [] = t
turns f l t (e ∷ es) = turns f l (turn f l t e) es

abbrev pub no_turns : Turns
no_turns = record { again = false; starts = [] }

abbrev pub IsWithin : Loop → ℕ → Type 0
IsWithin l n = (l.least ≤ n) × (n ≤ l.most)

-- it has to start no more often than it may, or may not start
abbrev pub CanTurn : Loop → Type 0
CanTurn l = (l.least ≤ l.most) ⊎ (l.most ≡ 0)

-- each entry of the loop had from its least to its most starts
abbrev pub KeepsLoop : ℕ → List Began → Loop → Type 0
KeepsLoop f trace l = All (IsWithin l) (turns f l no_turns trace).starts

abbrev pub KeepsLoops : {R K : Type 0} → Program R K → List Began → Type 0
KeepsLoops {R} {K} p trace = (f : ℕ) (fn : Function R K) → slice_get p.functions f ≡ Some fn → All (KeepsLoop f trace) fn.loops

-- a good run, which has ended with this value in this world
pub record IsGood {R K S : Type 0} (p : Program R K) (r : Run R K S) (v : ℕ) (u : World) : Type 0 where
  pub done : r ≡ Done v u
  pub loops : KeepsLoops p u.trace

-- the mark with which a block begins
abbrev pub mark_in : {R K : Type 0} → Option (Block R K) → Option ℕ
mark_in None = None
mark_in (Some b) = b.mark

abbrev pub mark_at : {R K : Type 0} → Program R K → Began → Option ℕ
mark_at p e = mark_in (block_in (slice_get p.functions e.function) e.block)

-- the marks that a run passed, in order
abbrev pub marks_passed : {R K : Type 0} → Program R K → List Began → List ℕ
marks_passed p trace = flat_map (λ e. option_to_list (mark_at p e)) trace

-- how often a mark was passed
abbrev pub mark_count : {R K : Type 0} → Program R K → List Began → ℕ → ℕ
mark_count p trace m = count_by (λ x. x == m) (marks_passed p trace)
