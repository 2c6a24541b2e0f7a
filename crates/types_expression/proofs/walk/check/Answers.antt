use Rattle.std.proofs.Common.{◌∙◌, sym}
use Rattle.c_tree.specs.View.{expr_of as source_of}
use Rattle.types_expression.proofs.FirstFault.{first_in}
use Rattle.types_expression.proofs.walk.check.Goals as goal

pub returns : goal.returns
returns c =
    let h = c.in_ok-checked.ensures in
    record { expr = h.expr; kind = h.kind; fault = h.fault ∙ sym (first_in (source_of c.args.expr.now) c.args.as_array c.args.table.now) }
