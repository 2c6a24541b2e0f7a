-- Each function of what is made is one of the source, by its opening mark.
use Rattle.std.proofs.Common.{◌≡◌, ℕ, zero, suc, ◌<◌, List, [], ◌∷◌, length, map, Some, refl, sym, ap, ◌∙◌, subst, arith}
use Rattle.std.specs.Prelude.{slice_get}
use Rattle.std.proofs.lemmas.List.{length-map}
use Rattle.std.proofs.lemmas.Option.{get_or_from_slice_get, slice_get_within}
use Rattle.facts_definitions.specs.FlowFacts.{name_id}
use Rattle.types_tree.specs.Tree.{function_name}
use Rattle.facts_definitions.specs.declared.facts.Facts.{Facts}
use Rattle.facts_sources.specs.Sources.{IsSource, derived_for}
use Rattle.types_tree.specs.Tree as c
use Rattle.high_ir.specs.Tree.{Program}
use Rattle.plan_formed.proofs.Facts.{says}
use Rattle.low_ir.specs.Code.{Block, Function, Low, Note}
use Rattle.low_ir.specs.Formed.{opening}
use Rattle.low_ir.specs.Places.{Assignment, place_blocks, place_function, placed}
use Rattle.low_ir.specs.Turns.{mark_in}
use Rattle.asm_program.specs.Functions.{PlacedFunction, function_in, no_function}
use Rattle.lower_law.specs.Programs.{KeepsProgram}
use Rattle.register_places.proofs.Ways.{placed_function}

there : {A : Type 0} (xs : List A) (k : ℕ) → k < length xs → (x : A) × (slice_get xs k ≡ Some x)
there [] k lt = absurd (omega (arith, lt))
there (x ∷ xs) zero lt = (x, refl)
there (x ∷ xs) (suc k) lt = there xs k (omega (arith, lt))

-- over places a function begins with the same mark
same_opening : (a : Assignment) (f : ℕ) (fn : Function ℕ Note) → opening (place_function a f fn) ≡ opening fn
same_opening a f fn = of fn.blocks
  where
    of : (bs : List (Block ℕ Note)) → mark_in (slice_get (place_blocks (a.place f) (a.kept f) 0 bs) 0) ≡ mark_in (slice_get bs 0)
    of [] = refl
    of (b ∷ bs) = refl

-- a function with the mark of one of these
pub record Opens (fn : PlacedFunction) (count : ℕ) : Type 0 where
  pub number : ℕ
  pub below : number < count
  pub opens : opening fn ≡ Some number

lowered_opens : (p : Program) (q : Low) (a : Assignment) → KeepsProgram p q → (f : ℕ) → f < length q.functions → Opens (function_in (placed a q) f) (length p.functions)
lowered_opens p q a keeps f lt =
    let here = there q.functions f lt in
    let from = keeps.functions f here.0 here.1 in
    let is = get_or_from_slice_get (placed a q).functions f (place_function a f here.0) no_function (placed_function a q f here.0 here.1) in
    record {
      number = from.number;
      below = slice_get_within p.functions from.number from.function from.there;
      opens = ap (λ (fn : PlacedFunction). opening fn) is ∙ same_opening a f here.0 ∙ from.opens;
    }

-- the functions of a source are counted in its facts
pub functions_counted : (source : List ℕ) (names : List (List ℕ)) (program : c.Program) (facts : Facts) → IsSource source names program facts → length facts.functions ≡ length program.functions
functions_counted source names program facts is =
    let f = is.has_facts in
    ap (λ (x : Facts). length x.functions) (says program names f.ranks (derived_for is.derive program) facts f.facts_are).facts_are
    ∙ length-map (map function_name program.functions) name_id
    ∙ length-map program.functions function_name

pub made_opens : (source : List ℕ) (names : List (List ℕ)) (program : c.Program) (facts : Facts) (p : Program) (q : Low) (a : Assignment) → IsSource source names program facts → length p.functions ≡ length program.functions → KeepsProgram p q
    → (f : ℕ) → f < length q.functions → Opens (function_in (placed a q) f) (length facts.functions)
made_opens source names program facts p q a is as_many keeps f lt =
    let count = as_many ∙ sym (functions_counted source names program facts is) in
    subst (Opens (function_in (placed a q) f)) count (lowered_opens p q a keeps f lt)
