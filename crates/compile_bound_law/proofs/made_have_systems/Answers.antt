use Rattle.compile_bound_law.proofs.Bounds.{made_only_memory}
use Rattle.compile_bound_law.proofs.made_have_systems.Goals as goal

pub returns : goal.returns
returns c = λ source names program facts m lines claims fault is made told h. made_only_memory source names program facts m is made lines claims told fault h
