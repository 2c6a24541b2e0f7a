use Rattle.low_ir.specs.Placings.{assignment_of}
use Rattle.low_ir.specs.Programs.{low_of}
use Rattle.register_places.proofs.Follow.{carried}
use Rattle.register_places.proofs.Ways.{all_safe}
use Rattle.register_places.proofs.laws.code_carries.Goals as goal

pub returns : goal.returns
returns c = carried (assignment_of c.args.code.now) (low_of c.args.code.now.low) (all_safe (assignment_of c.args.code.now) (low_of c.args.code.now.low) c.args.code.now.is_assignment)
