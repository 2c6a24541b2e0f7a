use Rattle.low_ir.specs.Live.{Enters}
use Rattle.register_places.proofs.Ways.{closed_covers}
use Rattle.register_places.proofs.laws.rounds_cover.Goals as goal

pub returns : goal.returns
returns c = λ bs v n closed m b h. closed_covers bs v (Enters bs n v) closed m b h
