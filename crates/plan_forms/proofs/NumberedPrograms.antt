-- The loops of all functions of a plan have the numbers from 0 on.
use Rattle.std.proofs.Common.{◌≡◌, ℕ, ◌+◌, List, [], ◌∷◌, ◌++◌, length, map, refl, sym, ap, ◌∙◌}
use Rattle.std.specs.List.{range_with_len}
use Rattle.std.proofs.lemmas.List.{map-append}
use Rattle.types_tree.specs.Tree as c
use Rattle.types_tree.specs.declared.variable.Variable.{Variable}
use Rattle.high_ir.specs.Standing.{loops_in, loops_of}
use Rattle.plan_definition.specs.Layouts.{frame_scalars}
use Rattle.plan_definition.specs.Programs.{between, end_of, functions_planned}
use Rattle.plan_definition.specs.Statements.{Plan, body_planned}
use Rattle.plan_forms.specs.Numbers.{FunctionsNumbered, functions_loops, items_loops}
use Rattle.plan_forms.proofs.Ids.{id_of, range-append}
use Rattle.plan_forms.proofs.NumberedStatements.{body_counts}

pub functions_count : (plan : Plan) (variables : List Variable) (ranks : List ℕ) (fs : List c.Function) (number from : ℕ) → FunctionsNumbered from fs → map id_of (loops_in (functions_planned plan variables ranks number fs)) ≡ range_with_len from (functions_loops fs)
functions_count plan variables ranks [] number from h = refl
functions_count plan variables ranks (c.Defined specifiers name name_at params first body body_at at ∷ rest) number from h =
    let own = frame_scalars (between variables first (end_of rest (length variables))) in
    let others = functions_planned plan variables ranks (number + 1) rest in
    map-append id_of (loops_of (body_planned plan body own)) (loops_in others)
    ∙ (ap (λ l. l ++ map id_of (loops_in others)) (body_counts plan body own from h.0)
    ∙ (ap (λ l. range_with_len from (items_loops body) ++ l) (functions_count plan variables ranks rest (number + 1) (from + items_loops body) h.1)
    ∙ sym (range-append from (items_loops body) (functions_loops rest))))
