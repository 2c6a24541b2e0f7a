use Rattle.std.proofs.Common.{◌<◌, ◌≤◌, ◌^◌, All, ap, map, subst, sym, ◌∙◌}
use Rattle.wcc_base.specs.Budgets.{most_depth}
use Rattle.high_ir.specs.Formed.{IsHigh}
use Rattle.high_ir.specs.Programs.{program_of}
use Rattle.high_ir.specs.Size.{depth, nodes}
use Rattle.high_ir.specs.View.{function_of, object_of, statement_of}
use Rattle.high_unrolled.proofs.Lawful.{unrolled_is_high}
use Rattle.unroller.specs.View.{progress_of}
use Rattle.unroller.proofs.Rows.{each_small}
use Rattle.unroller.proofs.Starting.{program_made, walk_made}
use Rattle.unroller.proofs.unroll.program.Goals as goal

pub functions-requires : goal.functions-requires
functions-requires c =
    subst (All (λ f. (depth (statement_of f.body) ≤ most_depth) × (nodes (statement_of f.body) < 2 ^ 26))) (sym c.deref-2.ensures.value)
    (each_small c.args.old.now.functions.items c.args.old.now.is_high.depth c.args.old.now.is_high.nodes)

pub invariant_of-program : goal.invariant_of-program
invariant_of-program c =
    let old = c.args.old.now in
    let same = program_made c.args.factor (program_of old) (map function_of c.deref-2.result.now) (map function_of c.in-Ok.functions.items) (map object_of c.in_ok-objects.objects.items) _ (progress_of c.functions.new.walk)
    c.begun-walk.ensures (ap (map function_of) c.deref-2.ensures.value) c.in-Ok.ensures.code c.in-Ok.ensures.progress (c.in_ok-objects.ensures ∙ ap (map object_of) c.deref.ensures.value) in
    record { is_high = subst IsHigh (sym same) (unrolled_is_high c.args.factor (program_of old) old.is_high c.requires) }

pub returns-in-Ok-clause-program : goal.returns-in-Ok-clause-program
returns-in-Ok-clause-program c =
    let old = c.args.old.now in
    program_made c.args.factor (program_of old) (map function_of c.deref-2.result.now) (map function_of c.in-Ok.functions.items) (map object_of c.in_ok-objects.objects.items) _ (progress_of c.functions.new.walk)
    c.begun-walk.ensures (ap (map function_of) c.deref-2.ensures.value) c.in-Ok.ensures.code c.in-Ok.ensures.progress (c.in_ok-objects.ensures ∙ ap (map object_of) c.deref.ensures.value)

pub returns-in-Ok-clause-progress : goal.returns-in-Ok-clause-progress
returns-in-Ok-clause-progress c =
    walk_made c.args.factor (program_of c.args.old.now) (map function_of c.deref-2.result.now) _ (progress_of c.functions.new.walk) c.begun-walk.ensures (ap (map function_of) c.deref-2.ensures.value) c.in-Ok.ensures.progress
