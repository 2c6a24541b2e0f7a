use Rattle.std.proofs.Common.{arith}
use Rattle.types_declaration.proofs.Types.{many_params}
use Rattle.types_declaration.proofs.routines.is_no_list.Goals as goal

pub returns-in_default : goal.returns-in_default
returns-in_default c = many_params c.args.given.now (omega (arith, c.in_default.len_at_least))
