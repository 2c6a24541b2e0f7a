use Rattle.std.proofs.Common.{ap, ◌∙◌}
use Rattle.std.specs.Prelude.{not}
use Rattle.code_flow_lookup.proofs.LookLemmas.{is_nil, nil_is, has_moves-those}
use Rattle.code_flow_lookup.proofs.moves.has_moves.Goals as goal

pub returns : goal.returns
returns c = ap not (nil_is _ _ c.is_empty.ensures ∙ ap is_nil c.moves_at.ensures) ∙ has_moves-those c.args.moves.now c.args.at
