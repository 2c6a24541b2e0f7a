use Rattle.compile_promise.proofs.Images.{reported_lined}
use Rattle.compile_promise.proofs.laws.reported_are_lined.Goals as goal

pub returns : goal.returns
returns c = λ source names program facts m t r s is made reported system. reported_lined names program facts m made t r s reported system
