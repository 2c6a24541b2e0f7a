use Rattle.types_declaration.proofs.Types.{other_length}
use Rattle.types_declaration.proofs.routines.same_params.Goals as goal

pub returns-then-one-other : goal.returns-then-one-other
returns-then-one-other c = other_length c.args.one.now c.args.other.now c.if-one-other.true
