use Rattle.std.proofs.Common.{sym, ◌∙◌}
use Rattle.std.specs.Prelude.{slice_range}
use Rattle.std.proofs.lemmas.Slice.Eq.{bytes_eq-Decides}
use Rattle.c_lexer.proofs.TextLemmas.{spans_text, text_spans}
use Rattle.c_lexer.proofs.texts.is_span.Goals as goal

pub returns : goal.returns
returns c =
    let decides = bytes_eq-Decides (slice_range c.args.source.now c.args.at c.args.end) c.args.text.now in (
      λ h. spans_text c.args.text.now c.args.source.now c.args.at c.args.end c.requires.ordered c.requires.within (decides.0 (sym c.eq.ensures ∙ h)),
      λ h. c.eq.ensures ∙ decides.1 (text_spans c.args.text.now c.args.source.now c.args.at c.args.end c.requires.within h),
    )
