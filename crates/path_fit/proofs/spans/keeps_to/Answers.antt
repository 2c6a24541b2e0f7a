use Rattle.std.proofs.Common.{◌≡◌, false, sym, ◌∙◌, rules}
use Rattle.path_fit.proofs.spans.keeps_to.Goals as goal

pub returns-then-not-stays : goal.returns-then-not-stays
returns-then-not-stays c = (
  λ e. cc,
  λ k.
      let f : c.stays.result ≡ false = search rules in
      sym f ∙ c.stays.ensures.1 k.stays,
)

pub returns : goal.returns
returns c = (λ e. record { stays = c.stays.ensures.0 (search rules); calls = c.calls_before.ensures.0 e }, λ k. c.calls_before.ensures.1 k.calls)
