use Rattle.std.proofs.Common.{map, ◌∷◌, subst, sym}
use Rattle.low_ir.specs.View.{instr_of}
use Rattle.pass_copy_propagation.specs.Making.{Goes}
use Rattle.pass_copy_propagation.proofs.Going.{kept}
use Rattle.pass_copy_propagation.proofs.making.put_writing.Goals as goal

pub returns-then-branch : goal.returns-then-branch
returns-then-branch c = λ done rest.
    let k = c.args.known.now in
    let i = instr_of c.args.instr.now in
    let made = map instr_of c.args.made.now.items in
    let more = map instr_of c.put.new.made.items in
    subst (λ n. Goes (i ∷ rest) k made rest n more) (sym (c.deliver.ensures.known done))
    (kept k c.args.register i rest made more c.requires (c.deliver.ensures.few done) (c.in_ok-put.ensures c.if-branch.true))
