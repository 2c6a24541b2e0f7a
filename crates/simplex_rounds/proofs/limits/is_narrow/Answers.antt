use Rattle.std.proofs.Common.{◌∙◌, ◌/◌, ◌^◌, ap}
use Rattle.std.specs.Prelude.{nat_le}
use Rattle.simplex_rounds.proofs.NarrowLemmas.{narrow_is}
use Rattle.simplex_rounds.proofs.limits.is_narrow.Goals as goal

pub returns : goal.returns
returns c = ap (λ k. nat_le c.args.number (2 ^ 44 / k)) c.from.ensures ∙ narrow_is (2 ^ 44) c.args.number c.args.times c.requires
