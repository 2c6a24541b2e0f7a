use Rattle.std.proofs.Common.{◌≡◌, false, sym, ◌∙◌, rules}
use Rattle.path_fit.proofs.CoverLemmas.{fit_from, keep_from}
use Rattle.path_fit.proofs.spans.fit.Goals as goal

pub returns-then-not-are_apart : goal.returns-then-not-are_apart
returns-then-not-are_apart c = (
  λ e. cc,
  λ h.
      let f : c.are_apart.result ≡ false = search rules in
      sym f ∙ c.are_apart.ensures.1 h.apart,
)

pub cover-requires : goal.cover-requires
cover-requires c = c.are_apart.ensures.0 (search rules)

pub returns-then-not-cover : goal.returns-then-not-cover
returns-then-not-cover c = (
  λ e. cc,
  λ h.
      let f : c.cover.result ≡ false = search rules in
      sym f ∙ c.cover.ensures.1 h.covered,
)

pub returns : goal.returns
returns c = (
  λ e. fit_from c.args.system.now c.args.spans.now (c.hold_firsts.ensures.0 (search rules)) (c.are_apart.ensures.0 (search rules)) (c.cover.ensures.0 (search rules)) (c.keep.ensures.0 e),
  λ h. c.keep.ensures.1 (keep_from c.args.system.now c.args.spans.now h),
)
