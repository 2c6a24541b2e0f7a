use Rattle.std.proofs.Common.{subst, ◌≡◌}
use Rattle.std.specs.Prelude.{IfSome, Some}
use Rattle.low_ir.specs.View.{address_of, base_of}
use Rattle.pass_dataflow_facts.specs.declared.forms.Form.{Form}
use Rattle.pass_dataflow_transfer.specs.Learning.{BaseIsFrom, Leads, Sure}
use Rattle.pass_dataflow_transfer.proofs.Teaching.{point_writes}
use Rattle.pass_dataflow_transfer.proofs.passing.pass_point.Goals as goal

pub returns-else-is_behind : goal.returns-else-is_behind
returns-else-is_behind c =
    let a = address_of c.args.address in
    point_writes c.args.size c.args.known.now.facts.items _ c.args.into a c.base_origin-origin.result c.form_there-form.result
    (subst (λ fs. Sure fs (BaseIsFrom (base_of c.args.address.base) c.base_origin-origin.result)) c.deref.ensures.value c.base_origin-origin.ensures)
    (λ (f : Form) (e : c.form_there-form.result ≡ Some f).
    subst (λ fs. Sure fs (Leads a f)) c.deref-else-is_behind.ensures.value (subst (λ o. IfSome o (λ g. Sure c.deref-else-is_behind.result.now (Leads a g))) e c.form_there-form.ensures))
    c.write.ensures
