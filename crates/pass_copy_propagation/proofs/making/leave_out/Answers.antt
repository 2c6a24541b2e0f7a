use Rattle.std.proofs.Common.{◌∷◌, subst, sym, ◌∙◌}
use Rattle.low_ir.specs.Code.{Do, Register, Set}
use Rattle.pass_copy_propagation.specs.Making.{Goes}
use Rattle.pass_copy_propagation.proofs.Going.{left_goes}
use Rattle.pass_copy_propagation.proofs.making.leave_out.Goals as goal

pub returns-then-place-source : goal.returns-then-place-source
returns-then-place-source c = λ done rest made.
    let k = c.args.known.now in
    let copy = Do (Set c.args.into (Register c.args.source)) in
    subst (λ n. Goes (copy ∷ rest) k made rest n made) (sym (c.copy.ensures.known done))
    (left_goes k c.args.into c.args.source c.in-Some.place rest made (sym c.is_lasting.ensures ∙ c.if-is_lasting.false) (c.copy.ensures.own done) (sym c.find.ensures ∙ c.in-Some.is))
