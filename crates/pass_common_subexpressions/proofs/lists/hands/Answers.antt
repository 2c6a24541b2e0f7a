use Rattle.std.proofs.Common.{map, subst, sym}
use Rattle.low_ir.specs.View.{end_of, operand_of}
use Rattle.pass_common_subexpressions.specs.Making.{AreHanded, facts_of}
use Rattle.pass_common_subexpressions.proofs.Listing.{handed_branch, handed_jump}
use Rattle.pass_common_subexpressions.proofs.lists.hands.Goals as goal

pub returns-in-Jump : goal.returns-in-Jump
returns-in-Jump c = λ done.
    let lists = map facts_of c.args.lists.now in
    let known = c.args.known.now in
    subst (λ e. AreHanded lists (end_of e) known) (sym c.in-Jump.is) (handed_jump lists known c.in-Jump.block (c.leads_to.ensures done))

pub returns-then-leads_to : goal.returns-then-leads_to
returns-then-leads_to c = λ done.
    let lists = map facts_of c.args.lists.now in
    let known = c.args.known.now in
    let b = c.in-Branch in
    subst (λ e. AreHanded lists (end_of e) known) (sym b.is)
    (handed_branch lists known b.condition (operand_of b.left) (operand_of b.right) b.taken b.other (c.leads_to-in-Branch.ensures c.if-leads_to.true) (c.leads_to-then-leads_to.ensures done))
