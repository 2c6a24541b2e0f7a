use Rattle.std.proofs.Common.{ap, ◌∙◌}
use Rattle.rv_core.specs.Rows.{all_ops}
use Rattle.rv_core.specs.Words.{first_match, decode_of}
use Rattle.rv_core.proofs.Reencoding.{IfSome-decode_of}
use Rattle.rv_core.proofs.reading.decode.Goals as goal

pub returns-clause-value : goal.returns-clause-value
unfolding decode_of
returns-clause-value c = c.first_match.ensures ∙ ap (first_match all_ops) c.unpack.ensures.value

pub returns-clause-back : goal.returns-clause-back
returns-clause-back c = IfSome-decode_of c.args.word c.first_match.result c.ranges.word.fits (returns-clause-value c)
