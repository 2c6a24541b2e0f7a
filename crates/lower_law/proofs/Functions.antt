-- The functions of a low program are those that calls reach from main.
use Rattle.std.proofs.Common.{◌≡◌, ℕ, ◌+◌, ◌*◌, ◌<◌, ◌≤◌, Bool, true, false, [], length, Option, Some, None, refl, sym, ap, ◌∙◌, subst, inl, arith, length-append}
use Rattle.std.specs.Prelude.{if◌then◌else◌, nat_lt, slice_get, slice_index_or}
use Rattle.std.proofs.lemmas.Bool.{ltb-true}
use Rattle.std.proofs.lemmas.Option.{same_Some, slice_get_within}
use Rattle.high_ir.specs.declared.object.Base.{Base as HighBase}
use Rattle.high_ir.specs.declared.object.Base.TheVariants.{Object, Parameter}
use Rattle.high_ir.specs.Formed.{IsHigh}
use Rattle.high_ir.specs.Size.{operations, operations_all}
use Rattle.high_ir.specs.Standing.{marks_of, marks_of_all}
use Rattle.high_ir.specs.Tree as high
use Rattle.low_ir.specs.Code.{Base, Fixed, Through, Function, Low, Note}
use Rattle.low_ir.specs.Effects.{is_member}
use Rattle.low_ir.specs.Formed.{mark_of}
use Rattle.low_ir.specs.Runs.{block_in}
use Rattle.low_ir.specs.Turns.{mark_in}
use Rattle.lower_definition.specs.Calls.{Passed, all_passed, numbered, order, place_in}
use Rattle.lower_definition.specs.Values.{Scope, base_of, first_free, pointer, through}
use Rattle.lower_definition.specs.Programs.{lowered, lowered_function, scope_of}
use Rattle.lower_origins.specs.Orders.{IsOrdered}
use Rattle.lower_origins.proofs.Visits.{ordered}
use Rattle.lower_origins.specs.Closed.{listed, listed_at}
use Rattle.lower_origins.proofs.Numbering.{Stood, all_there, length-numbered, listed_count, number_of, stood}
use Rattle.lower_budget.proofs.Distinct.{member_at}
use Rattle.lower_budget.proofs.FormedFunctions.{first_mark}
use Rattle.lower_budget.proofs.FormedPrograms.{function_at}
use Rattle.lower_budget.proofs.Loops.{loops_kept, marks_few}
use Rattle.lower_budget.proofs.Programs.{registers_few}
use Rattle.lower_origins.specs.Reached.{IsReached, ListsReached}
use Rattle.lower_origins.specs.Passing.{ListsPassed}
use Rattle.lower_origins.proofs.Reaching.{lists_reached}
use Rattle.lower_origins.proofs.Passings.{lists_passed}
use Rattle.lower_law.specs.Arrays.{IsAccess, IsOfParameter}
use Rattle.lower_law.specs.Functions.{ComesFrom}
use Rattle.lower_law.specs.Programs.{HasFunction}
use Rattle.lower_law.proofs.Bases.{function_begins}

-- each mark is an operation
mutual
  pub marks_less : (s : high.Statement) → length (marks_of s) ≤ operations s
  marks_less (high.Set x e) = omega arith
  marks_less (high.Put e) = omega arith
  marks_less (high.Get x) = omega arith
  marks_less (high.Keep array i e) = omega arith
  marks_less (high.Mark m) = omega arith
  marks_less (high.Seq parts) = let a = all_marks_less parts in omega (arith, a)
  marks_less (high.If test first other) = let a = marks_less first in let b = marks_less other in let e = length-append (marks_of first) (marks_of other) in omega (arith, a, b, e)
  marks_less (high.Loop id least starts body) = let a = marks_less body in omega (arith, a)
  marks_less (high.Block body) = let a = marks_less body in omega (arith, a)
  marks_less (high.Leave d) = omega arith
  marks_less (high.Call f values arrays into) = omega arith
  marks_less (high.Return e) = omega arith

  all_marks_less : (ss : high.Statements) → length (marks_of_all ss) ≤ operations_all ss
  all_marks_less high.End = omega arith
  all_marks_less (high.Then first rest) = let a = marks_less first in let b = all_marks_less rest in let e = length-append (marks_of first) (marks_of_all rest) in omega (arith, a, b, e)

module _ (p : high.Program) (is_high : IsHigh p) where
  abbrev q : Low
  q = lowered p

  abbrev table : Passed
  table = all_passed p

  order_is : IsOrdered p
  order_is = ordered p is_high

  reaches : ListsReached p
  reaches = lists_reached p is_high

  passes : ListsPassed p
  passes = lists_passed p is_high

  there : (f : ℕ) → is_member (order p) f ≡ true → (h : high.Function) × (slice_get p.functions f ≡ Some h)
  there f m = let a = order_is.places f m in (a.function, a.there)

  -- where a function comes from; for each of its loops it could have two registers more
  pub record Comes (fn : Function ℕ Note) : Type 0 where
    pub comes : ComesFrom p q fn
    pub spared : fn.size + 2 * length fn.loops ≤ comes.function.values + comes.function.locals + comes.function.arrays + 2 * operations comes.function.body

  -- a function of the low program
  module _ (i f : ℕ) (h : high.Function) (e : slice_get p.functions f ≡ Some h) (s : Stood p table q.claims q.functions i f h) where
    abbrev scope : Scope
    scope = scope_of p table h (numbered s.number (listed table f))

    abbrev fn : Function ℕ Note
    fn = lowered_function scope f h

    arrays : length scope.claims ≡ h.arrays
    arrays = length-numbered s.number (listed table f) ∙ listed_count p f h e

    parameter_is : (j claim : ℕ) → slice_get scope.claims j ≡ Some (Some claim) → IsOfParameter p q f h claim
    parameter_is j claim named =
        let low = slice_get_within scope.claims j (Some claim) named in
        let count = arrays in
        let inside : j < h.arrays = omega (arith, low, count) in
        let n = number_of s.number (listed table f) j claim named in
        let same : slice_index_or q.claims claim [] ≡ listed_at table f j = ap (λ c. slice_index_or q.claims c []) n.is ∙ s.claims n.place n.inside ∙ n.same in
        record {
          parameter = j;
          there = inside;
          passed = λ o m. passes.passed f j o (ap (λ l. is_member l o) (sym same) ∙ m);
          listed = λ o x. ap (λ l. is_member l o) same ∙ passes.listed f j o x;
        }

    named : (b : HighBase) (c : Base ℕ) → base_of scope b ≡ Some c → IsAccess p q f h c
    named (Object o) c k = by_test (nat_lt o scope.objects) refl k
      where
        by_test : (t : Bool) → nat_lt o scope.objects ≡ t → (if t then Some (Fixed o) else None) ≡ Some c → IsAccess p q f h c
        by_test true t k = subst (IsAccess p q f h) (same_Some (Fixed o) c k) (ltb-true o scope.objects t)
        by_test false t k = cc
    named (Parameter j) c k = by_claim (slice_get scope.claims j) refl k
      where
        by_claim : (o : Option (Option ℕ)) → slice_get scope.claims j ≡ o → through (pointer scope j) o ≡ Some c → IsAccess p q f h c
        by_claim None is k = cc
        by_claim (Some None) is k = cc
        by_claim (Some (Some claim)) is k = subst (IsAccess p q f h) (same_Some (Through (pointer scope j) claim) c k) (inl (parameter_is j claim is))

    function_comes : is_member (order p) f ≡ true → Comes fn
    function_comes m =
        let few = registers_few scope f h in
        let free : first_free scope ≡ h.values + h.locals + h.arrays = ap (λ n. h.values + h.locals + n) arrays in
        let marks = marks_few scope f h in
        let less = marks_less h.body in
        record {
          comes = record {
            number = f;
            function = h;
            there = e;
            reached = reaches.reached f m;
            opens = first_mark scope f h;
            loops = loops_kept scope f h;
            registers = omega (arith, few, free);
            marks = omega (arith, marks, less);
            accesses = function_begins (IsAccess p q f h) scope named f h;
          };
          spared = omega (arith, few, free);
        }

  pub functions_come : (i : ℕ) (fn : Function ℕ Note) → slice_get q.functions i ≡ Some fn → Comes fn
  functions_come i fn e =
      let a = function_at p is_high i fn e in
      subst Comes (sym a.same) (function_comes i a.number a.function a.there_is a.stands (member_at (order p) i a.number a.at))

  opens_at : (f : ℕ) → is_member (order p) f ≡ true → mark_of q (place_in (order p) f) 0 ≡ Some f
  opens_at f m =
      let a = order_is.places f m in
      let s = stood p table (order p) [] 0 (place_in (order p) f) f a.function (all_there p table (order p) there) refl a.number a.there in
      ap (λ o. mark_in (block_in o 0)) s.function ∙ first_mark (scope_of p table a.function (numbered s.number (listed table f))) f a.function

  pub reached_there : (f : ℕ) → IsReached p f → HasFunction q f
  reached_there f r = record { place = place_in (order p) f; opens = opens_at f (reaches.listed f r) }

  pub main_there : mark_of q q.main 0 ≡ Some p.main
  main_there = opens_at p.main order_is.main
