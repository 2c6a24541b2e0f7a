use Rattle.std.proofs.Common.{ap, ◌∙◌}
use Rattle.std.specs.Prelude.{not}
use Rattle.code_flow_lookup.proofs.LookLemmas.{is_nil, nil_is, is_given-those}
use Rattle.code_flow_lookup.proofs.cert.is_given.Goals as goal

pub returns : goal.returns
returns c = ap not (nil_is _ _ c.is_empty.ensures ∙ ap is_nil c.potentials_at.ensures) ∙ is_given-those c.args.potentials.now c.args.at
