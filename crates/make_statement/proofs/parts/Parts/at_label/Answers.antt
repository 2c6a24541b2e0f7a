use Rattle.make_pieces.specs.View.{code_of}
use Rattle.make_statement.proofs.Items.{part_ends}
use Rattle.make_statement.proofs.parts.Parts.at_label.Goals as goal

pub returns-in_ok-with_part-in-Ok-clause-parts : goal.returns-in_ok-with_part-in-Ok-clause-parts
returns-in_ok-with_part-in-Ok-clause-parts c = λ left.
    part_ends c.args.noted c.args.self.number c.in-Ok.next (code_of c.args.self.done) (code_of c.args.self.part) (code_of c.in_ok-with_part-in-Ok.field-0) (code_of c.new.result) left
    c.in_ok-with_part-in-Ok.ensures c.new.ensures c.in-Ok.ensures
