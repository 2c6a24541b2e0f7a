-- The loops of a program are those of its plan, each once.
use Rattle.std.proofs.Common.{ℕ, ◌+◌, List, [], ◌∷◌, ◌++◌, length, map, sym, subst}
use Rattle.std.specs.Prelude.{IsPermutation}
use Rattle.std.proofs.lemmas.List.{map-append}
use Rattle.std.proofs.lemmas.List.Sorted.{IsPermutation-append, IsPermutation-refl}
use Rattle.types_tree.specs.Tree as c
use Rattle.types_tree.specs.declared.variable.Variable.{Variable}
use Rattle.high_ir.specs.Standing.{loops_in, loops_of}
use Rattle.plan_definition.specs.Layouts.{frame_scalars}
use Rattle.plan_definition.specs.Programs.{between, end_of, functions_planned}
use Rattle.plan_definition.specs.Statements.{Plan, body_planned}
use Rattle.plan_carried.specs.Loops.{functions_loops, in_plan, items_loops}
use Rattle.plan_carried.proofs.LoopStatements.{body_stands}

pub functions_stand : (plan : Plan) (variables : List Variable) (ranks : List ℕ) (number : ℕ) (fs : List c.Function) → IsPermutation (map in_plan (functions_loops plan.bounds fs)) (loops_in (functions_planned plan variables ranks number fs))
functions_stand plan variables ranks number [] = IsPermutation-refl []
functions_stand plan variables ranks number (c.Defined specifiers name name_at params first body body_at at ∷ rest) =
    let own = frame_scalars (between variables first (end_of rest (length variables))) in
    let others = loops_in (functions_planned plan variables ranks (number + 1) rest) in
    subst (λ l. IsPermutation l (loops_of (body_planned plan body own) ++ others)) (sym (map-append in_plan (items_loops plan.bounds body) (functions_loops plan.bounds rest)))
    (IsPermutation-append (map in_plan (items_loops plan.bounds body)) (loops_of (body_planned plan body own)) (map in_plan (functions_loops plan.bounds rest)) others (body_stands plan body own) (functions_stand plan variables ranks (number + 1) rest))
