use Rattle.std.proofs.Common.{◌^◌, ◌<◌, ap, ◌∙◌, sym, subst}
use Rattle.spm_placement.specs.Gains.{all_parts}
use Rattle.spm_placement.proofs.gaining.visits.Goals as goal

pub total-requires : goal.total-requires
total-requires c = subst (λ ps. all_parts ps < 2 ^ 100) (sym c.parts_at.ensures) c.requires.few

pub returns : goal.returns
returns c = c.total.ensures ∙ ap all_parts c.parts_at.ensures
