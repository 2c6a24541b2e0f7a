use Rattle.std.proofs.Common.{◌∙◌, sym}
use Rattle.std.proofs.lemmas.Result.{MatchResult-weaker}
use Rattle.c_tree.specs.Tree.{NoItem}
use Rattle.c_tree.specs.View.{items_of as source_items}
use Rattle.types_statement.specs.Within.{within_said}
use Rattle.types_statement.proofs.FirstFault.{first_among}
use Rattle.types_statement.proofs.walk.check_body.Goals as goal

pub returns : goal.returns
returns c =
    MatchResult-weaker c.check_items.result c.check_items.ensures (λ r h.
    record { items = h.items; fault = h.fault ∙ sym (first_among (source_items NoItem c.args.given.now) c.args.table.now (within_said c.args.within)); after = h.after }) (λ memory none. none)
