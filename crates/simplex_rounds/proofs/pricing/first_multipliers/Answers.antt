use Rattle.std.proofs.Common.{◌∙◌, ap, length}
use Rattle.simplex_rounds.proofs.NarrowLemmas.{times-long}
use Rattle.simplex_rounds.proofs.StepLemmas.{tail_long}
use Rattle.simplex_rounds.proofs.pricing.first_multipliers.Goals as goal

pub returns-clause-long : goal.returns-clause-long
returns-clause-long c =
    let all = rw c.in-Some.is at c.in_ok-products.ensures.value in
    ap length (c.new.ensures ∙ all.0) ∙ (times-long _ _ ∙ tail_long _ _ _ c.deref.ensures.value c.in_ok-row.ensures.long)
