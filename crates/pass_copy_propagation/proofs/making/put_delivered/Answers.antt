use Rattle.std.proofs.Common.{map, ◌∷◌, subst, sym, ◌∙◌}
use Rattle.low_ir.specs.Code.{Do, Register, Set}
use Rattle.low_ir.specs.View.{instr_of}
use Rattle.pass_copy_propagation.specs.Making.{Goes}
use Rattle.pass_copy_propagation.proofs.Going.{delivered_goes}
use Rattle.pass_copy_propagation.proofs.making.put_delivered.Goals as goal

pub returns-then-branch : goal.returns-then-branch
returns-then-branch c = λ done rest.
    let k = c.args.known.now in
    let i = instr_of c.args.instr.now in
    let made = map instr_of c.args.made.now.items in
    let more = map instr_of c.put.new.made.items in
    let brief = sym c.is_lasting.ensures ∙ c.if-not-is_lasting.true in
    subst (λ n. Goes (i ∷ Do (Set c.args.into (Register c.args.source)) ∷ rest) k made rest n more) (sym (c.deliver.ensures.known done))
    (delivered_goes k c.args.source c.args.into i rest made more (c.writes.ensures c.if-writes.true) c.if-into-source.true brief (c.deliver.ensures.few done) (c.deliver.ensures.own done) (c.in_ok-put.ensures c.if-branch.true))
