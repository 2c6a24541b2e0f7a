use Rattle.std.proofs.Common.{◌≡◌, sym, ◌∙◌, subst}
use Rattle.std.specs.List.{Any}
use Rattle.code_flow_system.specs.declared.shapes.Span.{Span}
use Rattle.path_fit.proofs.CoverLemmas.{same_some}
use Rattle.path_fit.proofs.spans.calls_before.Goals as goal

pub returns : goal.returns
returns c = (
  λ e target back to behind. subst (λ n. Any (λ (p : Span). p.first ≡ n) c.args.before.now) (same_some _ target (sym c.in-Some-to.is ∙ to)) (c.begins.ensures.0 e),
  λ h. c.begins.ensures.1 (h _ _ c.in-Some-to.is c.in-Some.is),
)
