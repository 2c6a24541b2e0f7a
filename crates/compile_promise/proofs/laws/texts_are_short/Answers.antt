use Rattle.compile_promise.proofs.Texts.{short}
use Rattle.compile_promise.proofs.laws.texts_are_short.Goals as goal

pub returns : goal.returns
returns c = short
