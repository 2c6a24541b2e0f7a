use Rattle.std.proofs.Common.{sym, ◌∙◌}
use Rattle.c_lexer.specs.Forms.{prefixes}
use Rattle.c_lexer.proofs.TextLemmas.{one_spans, spans_one}
use Rattle.c_lexer.proofs.cut.is_prefix.Goals as goal

pub returns : goal.returns
returns c = (
  λ h. one_spans prefixes c.args.source.now c.args.at c.args.end c.requires.ordered c.requires.within (sym c.is_one.ensures ∙ h),
  λ h. c.is_one.ensures ∙ spans_one prefixes c.args.source.now c.args.at c.args.end c.requires.within h,
)
