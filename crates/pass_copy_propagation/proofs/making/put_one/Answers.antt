use Rattle.std.proofs.Common.{map, sym, true, ◌≡◌, ◌∷◌, ◌∙◌}
use Rattle.std.proofs.lemmas.Result.{IfOk-weaker}
use Rattle.low_ir.specs.View.{instr_of}
use Rattle.pass_copy_propagation_law.specs.Copies.{Code}
use Rattle.pass_copy_propagation.specs.Making.{Goes, IsPut}
use Rattle.pass_copy_propagation.proofs.Going.{silent}
use Rattle.pass_copy_propagation.proofs.making.put_one.Goals as goal

pub returns-in-None : goal.returns-in-None
returns-in-None c =
    IfOk-weaker c.put.result
    (λ b. b ≡ true → IsPut c.args.known.now 0 (instr_of c.args.instr.now) (map instr_of c.args.made.now.items) (map instr_of c.put.new.made.items))
    (λ b. b ≡ true → (rest : Code) → Goes (instr_of c.args.instr.now ∷ rest) c.args.known.now (map instr_of c.args.made.now.items) rest c.args.known.now (map instr_of c.put.new.made.items))
    (λ b h done rest.
    silent c.args.known.now 0 (instr_of c.args.instr.now) rest (map instr_of c.args.made.now.items) (map instr_of c.put.new.made.items) (sym c.written.ensures ∙ c.in-None.is) (h done))
    c.put.ensures
