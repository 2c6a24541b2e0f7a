use Rattle.std.proofs.Common.{◌≡◌, IfOk, subst, sym}
use Rattle.high_code.specs.Code.{joined}
use Rattle.high_ir.specs.Tree.{End}
use Rattle.plan_definition.specs.Statements.{guarded}
use Rattle.make_pieces.proofs.Lists.{joined_end}
use Rattle.make_pieces.specs.View.{code_of}
use Rattle.make_statement.proofs.parts.Parts.ended.Goals as goal

pub returns : goal.returns
returns c =
    subst (λ s. IfOk c.with_part.result (λ x. code_of x ≡ joined (code_of c.args.self.done) (guarded c.args.noted c.args.self.number s End))) (sym (joined_end (code_of c.args.self.part))) c.with_part.ensures
