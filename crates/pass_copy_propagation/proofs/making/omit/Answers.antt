use Rattle.std.proofs.Common.{None, ◌≡◌, ◌∷◌, subst, sym}
use Rattle.low_ir.specs.View.{instr_of}
use Rattle.pass_copy_propagation.specs.Knowing.{stands}
use Rattle.pass_copy_propagation.specs.Making.{Goes}
use Rattle.pass_copy_propagation.proofs.Going.{unread_goes}
use Rattle.pass_copy_propagation.proofs.making.omit.Goals as goal

pub returns-in-Some : goal.returns-in-Some
returns-in-Some c = λ done rest made.
    let k = c.args.known.now in
    let i = instr_of c.args.instr.now in
    let d = c.in-Some.register in
    subst (λ n. Goes (i ∷ rest) k made rest n made) (sym c.forget.ensures.known)
    (unread_goes k d i rest made c.in-Some.ensures (subst (λ n. stands n d ≡ None) c.forget.ensures.known (c.forget.ensures.nowhere done)))
