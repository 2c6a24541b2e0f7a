use Rattle.compile_promise.proofs.Told.{told}
use Rattle.compile_promise.proofs.laws.reported_tell_facts.Goals as goal

pub returns : goal.returns
returns c = λ source names program facts m t r is made reported. told source names program facts m t r is made reported
