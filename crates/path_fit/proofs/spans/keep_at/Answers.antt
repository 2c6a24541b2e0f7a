use Rattle.code_flow_system.specs.declared.shapes.Span.{Span}
use Rattle.path_fit.proofs.ApartLemmas.{order_take}
use Rattle.path_fit.proofs.CoverLemmas.{keep_at, at_keep}
use Rattle.path_fit.proofs.spans.keep_at.Goals as goal

abbrev first_span : Span
first_span = record { first = 0; end = 0 }

pub keep_to-requires : goal.keep_to-requires
keep_to-requires c = λ e. order_take c.args.spans.now 0 c.args.place (c.requires.order e)

pub returns : goal.returns
returns c = (
  λ e. keep_at c.args.spans.now c.args.moves.now c.moves_of.result.now c.args.place first_span c.requires.place c.moves_of.ensures (c.keep_to.ensures.0 e),
  λ h. c.keep_to.ensures.1 (at_keep c.args.spans.now c.args.moves.now c.moves_of.result.now c.args.place first_span c.moves_of.ensures h),
)
