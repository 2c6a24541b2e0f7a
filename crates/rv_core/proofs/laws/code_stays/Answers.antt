use Rattle.std.proofs.Common.{ap, subst}
use Rattle.rv_core.specs.Images.{AreLoadable}
use Rattle.rv_core.specs.Runs.{setup}
use Rattle.rv_core.specs.Code.{decoded}
use Rattle.rv_core.proofs.Constancy.{mrun-fetched, mrun-performs}
use Rattle.rv_core.proofs.laws.code_stays.Goals as goal

pub returns-clause-words : goal.returns-clause-words
returns-clause-words c = λ t input n at. mrun-fetched (setup c.args.image.now t input) n at (subst AreLoadable c.segments.ensures.value c.segments.ensures.valid)

pub returns-clause-instructions : goal.returns-clause-instructions
returns-clause-instructions c = λ t input n at. ap decoded (mrun-fetched (setup c.args.image.now t input) n at (subst AreLoadable c.segments.ensures.value c.segments.ensures.valid))

pub returns-clause-performs : goal.returns-clause-performs
returns-clause-performs c = λ t input n i running is. mrun-performs (setup c.args.image.now t input) n i (subst AreLoadable c.segments.ensures.value c.segments.ensures.valid) running is
