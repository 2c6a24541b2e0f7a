-- Each function of a plan keeps to the form.
use Rattle.std.proofs.Common.{◌≡◌, ℕ, zero, suc, ◌+◌, ◌<◌, ◌≤◌, true, false, List, [], ◌∷◌, length, get_or, refl, sym, ap, ◌∙◌, subst, arith, All}
use Rattle.std.specs.Prelude.{nat_lt, slice_index_or}
use Rattle.std.proofs.lemmas.Bool.{and_parts, ltb-true}
use Rattle.std.proofs.lemmas.List.Elements.{All-cons, All-nil}
use Rattle.types_tree.specs.Tree as c
use Rattle.types_tree.specs.declared.variable.Variable.{Variable}
use Rattle.high_ir.specs.Runs.{rank_or}
use Rattle.high_ir.specs.Standing.{blocks_needed, callees_of, marks_of}
use Rattle.high_ir.specs.Tree.{Function}
use Rattle.plan_definition.specs.Layouts.{frame_scalars}
use Rattle.plan_definition.specs.Programs.{between, end_of, function_planned, functions_planned}
use Rattle.plan_definition.specs.Statements.{Plan, body_planned}
use Rattle.plan_forms.specs.Forms.{ItemsAllowed}
use Rattle.plan_forms.specs.Programs.{BodiesAllowed, FunctionFormed, body_of, limits_in, may_call}
use Rattle.plan_forms.proofs.FormedPieces.{blocks-formed, callees-formed, marks-formed}
use Rattle.plan_forms.proofs.FormedStatements.{body_formed}

-- the ranks of a plan's functions are those that were given
pub rank_planned : (plan : Plan) (variables : List Variable) (ranks : List ℕ) (functions : List c.Function) (number g other : ℕ) → g < length functions → rank_or (functions_planned plan variables ranks number functions) g other ≡ slice_index_or ranks (number + g) 0
rank_planned plan variables ranks [] number g other lt = absurd (nothing_there g lt)
  where
    nothing_there : (g : ℕ) → g < 0 → ⊥
    nothing_there g lt = omega (arith, lt)
rank_planned plan variables ranks (c.Defined specifiers name name_at params first body body_at at ∷ rest) number zero other lt = ap (λ n. slice_index_or ranks n 0) (none number)
  where
    none : (n : ℕ) → n ≡ n + 0
    none n = omega arith
rank_planned plan variables ranks (c.Defined specifiers name name_at params first body body_at at ∷ rest) number (suc g) other lt =
    rank_planned plan variables ranks rest (number + 1) g other (fewer g (length rest) lt) ∙ ap (λ n. slice_index_or ranks n 0) (next number g)
  where
    fewer : (a b : ℕ) → suc a < suc b → a < b
    fewer a b lt = omega (arith, lt)

    next : (n g : ℕ) → n + 1 + g ≡ n + suc g
    next n g = omega arith

pub length_planned : (plan : Plan) (variables : List Variable) (ranks : List ℕ) (functions : List c.Function) (number : ℕ) → length (functions_planned plan variables ranks number functions) ≡ length functions
length_planned plan variables ranks [] number = refl
length_planned plan variables ranks (f ∷ rest) number = ap suc (length_planned plan variables ranks rest (number + 1))

module _ (plan : Plan) (variables : List Variable) (ranks : List ℕ) (all : List c.Function) (marks : ℕ) (functions_are : plan.functions ≡ length all) where
  abbrev planned_all : List Function
  planned_all = functions_planned plan variables ranks 0 all

  -- a call goes to a lower rank
  falls : (number g : ℕ) → may_call ranks (length all) number g ≡ true → rank_or planned_all g (slice_index_or ranks number 0) < slice_index_or ranks number 0
  falls number g may =
      let parts = and_parts (nat_lt g (length all)) (nat_lt (slice_index_or ranks g 0) (slice_index_or ranks number 0)) may in
      let lower : slice_index_or ranks g 0 < slice_index_or ranks number 0 = ltb-true (slice_index_or ranks g 0) (slice_index_or ranks number 0) parts.1 in
      subst (λ r. r < slice_index_or ranks number 0)
      (sym (rank_planned plan variables ranks all 0 g (slice_index_or ranks number 0) (ltb-true g (length all) parts.0) ∙ ap (λ n. slice_index_or ranks n 0) (none g))) lower
    where
      none : (n : ℕ) → 0 + n ≡ n
      none n = omega arith

  function_forms : (number behind : ℕ) (f : c.Function) → ItemsAllowed (limits_in ranks (length all) marks number) false false (body_of f) → FunctionFormed planned_all marks (function_planned plan variables behind (slice_index_or ranks number 0) f)
  function_forms number behind (c.Defined specifiers name name_at params first body body_at at) may =
      let l = limits_in ranks (length all) marks number in
      let code = body_planned plan body (frame_scalars (between variables first behind)) in
      let h = body_formed l refl plan functions_are body (frame_scalars (between variables first behind)) may in
      record {
        leaves = none_needed (blocks_needed code) (blocks-formed l 0 code h);
        ranks = λ i d lt. falls number (get_or (callees_of code) i d) (callees-formed l 0 code h i d lt);
        in_range = λ i d lt. let m = marks-formed l 0 code h i d lt in (subst (λ n. n ≤ get_or (marks_of code) i d) (sym (length_planned plan variables ranks all 0)) m.0, m.1);
      }
    where
      none_needed : (n : ℕ) → n ≤ 0 → n ≡ 0
      none_needed n le = omega (arith, le)

  from_one : (number : ℕ) (fs : List c.Function) → BodiesAllowed ranks (length all) marks number fs → All (FunctionFormed planned_all marks) (functions_planned plan variables ranks number fs)
  from_one number [] may = All-nil (FunctionFormed planned_all marks)
  from_one number (f ∷ rest) may =
      All-cons (FunctionFormed planned_all marks) (function_planned plan variables (end_of rest (length variables)) (slice_index_or ranks number 0) f) (functions_planned plan variables ranks (number + 1) rest)
      (function_forms number (end_of rest (length variables)) f (subst (λ n. ItemsAllowed (limits_in ranks (length all) marks n) false false (body_of f)) (none number) (may 0 f refl)))
      (from_one (number + 1) rest (λ i g is. subst (λ n. ItemsAllowed (limits_in ranks (length all) marks n) false false (body_of g)) (next number i) (may (suc i) g is)))
    where
      none : (n : ℕ) → n + 0 ≡ n
      none n = omega arith

      next : (n i : ℕ) → n + suc i ≡ n + 1 + i
      next n i = omega arith

  -- each function has its leaves' blocks, calls lower ranks and has its marks in range
  pub functions_form : BodiesAllowed ranks (length all) marks 0 all → All (FunctionFormed planned_all marks) planned_all
  functions_form may = from_one 0 all may
