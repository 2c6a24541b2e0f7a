use Rattle.std.proofs.Common.{◌∙◌}
use Rattle.std.specs.Vec.{vec_len}
use Rattle.make_pieces.proofs.Lists.{empty_view}
use Rattle.make_pieces.proofs.code.Code.is_empty.Goals as goal

pub returns : goal.returns
returns c =
    let v = c.args.self.now.statements in
    c.is_empty.ensures ∙ empty_view (vec_len v) v.items v.ok.0
