use Rattle.std.proofs.Common.{List, ℕ, false, ◌≡◌, subst, sym, ◌∙◌}
use Rattle.low_ir.specs.Effects.{is_member}
use Rattle.low_ir.specs.View.{function_of}
use Rattle.register_allocation.proofs.Turning.{is_brief_by}
use Rattle.register_allocation.proofs.briefs.is_brief.Goals as goal

pub returns : goal.returns
returns c e =
    let other = subst (λ (vs : List ℕ). is_member vs c.args.each.register ≡ false) c.deref.ensures.value (sym c.is_among.ensures ∙ c.if-is_among.false) in
    is_brief_by (function_of c.args.function.now) c.args.turns.now c.args.each c.requires other (c.are_own.ensures e)
