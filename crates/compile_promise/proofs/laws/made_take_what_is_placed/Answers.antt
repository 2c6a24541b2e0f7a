use Rattle.compile_promise.proofs.Images.{made_take}
use Rattle.compile_promise.proofs.laws.made_take_what_is_placed.Goals as goal

pub returns : goal.returns
returns c = λ source names program facts m is made. made_take names program facts m made
