use Rattle.std.proofs.Common.{◌+◌, ◌<◌, ◌^◌, ap, subst, sum_by, sym, ◌∙◌}
use Rattle.high_ir.specs.Programs.{program_of}
use Rattle.high_ir.specs.View.{statement_of}
use Rattle.high_unrolled.specs.Programs.{busy}
use Rattle.unroller.proofs.Rows.{busy_as_seen, busy_small}
use Rattle.unroller.proofs.Starting.{begun_is}
use Rattle.unroller.proofs.unroll.begun.Goals as goal

pub busy_in-busy-requires : goal.busy_in-busy-requires
busy_in-busy-requires c = subst (λ fs. sum_by (λ f. busy (statement_of f.body) + 1) fs < 2 ^ 32) (sym c.deref.ensures.value) (busy_small c.args.old.now.functions.items c.args.old.now.is_high.nodes)

pub returns : goal.returns
returns c =
    let old = c.args.old.now in
    begun_is (program_of old) _ _ _ _ c.saturating_sub.ensures
    (c.busy_in-busy.ensures ∙ ap (sum_by (λ f. busy (statement_of f.body) + 1)) c.deref.ensures.value ∙ busy_as_seen old.functions.items)
    c.new.ensures.items c.new-2.ensures.items
