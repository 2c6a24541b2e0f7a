use Rattle.std.proofs.Common.{subst}
use Rattle.rv_core.specs.Images.{AreLoadable}
use Rattle.rv_core.specs.Runs.{setup}
use Rattle.rv_core.proofs.Framing.{mrun-frames, loaded-beside}
use Rattle.rv_core.proofs.laws.frames_stay.Goals as goal

pub returns-clause-frames : goal.returns-clause-frames
returns-clause-frames c = λ t input n. mrun-frames (setup c.args.image.now t input) n

pub returns-clause-beside : goal.returns-clause-beside
returns-clause-beside c = loaded-beside c.args.image.now.segments (subst AreLoadable c.segments.ensures.value c.segments.ensures.valid)
