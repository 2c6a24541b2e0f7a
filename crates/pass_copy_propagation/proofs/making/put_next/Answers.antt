use Rattle.std.proofs.Common.{map}
use Rattle.std.proofs.lemmas.Option.{IfSome_then}
use Rattle.low_ir.specs.View.{instr_of}
use Rattle.pass_copy_propagation.proofs.making.put_next.Goals as goal

pub returns-then-leaves_unread : goal.returns-then-leaves_unread
returns-then-leaves_unread c = IfSome_then c.leave_unread.result c.leave_unread.ensures (λ next h. h (map instr_of c.args.made.now.items))

pub returns-then-leaves_out : goal.returns-then-leaves_out
returns-then-leaves_out c = IfSome_then c.leave_copy.result c.leave_copy.ensures (λ next h. h (map instr_of c.args.made.now.items))
