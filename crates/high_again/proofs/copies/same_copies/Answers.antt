use Rattle.std.proofs.Common.{map}
use Rattle.high_ir.specs.Programs.{program_of}
use Rattle.high_pass.specs.Listing.{loop_entry, mark_entry}
use Rattle.high_again.proofs.Making.{listed}
use Rattle.high_again.proofs.copies.same_copies.Goals as goal

pub returns : goal.returns
returns c = listed (program_of c.args.program.now) (map mark_entry c.in_ok-marks.marks.items) (map loop_entry c.in_ok-loops.loops.items) c.new.result.items c.in_ok-marks.ensures c.in_ok-loops.ensures c.new.ensures.items
