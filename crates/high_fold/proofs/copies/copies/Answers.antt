use Rattle.std.proofs.Common.{map}
use Rattle.high_ir.specs.Programs.{program_of}
use Rattle.high_pass.specs.Listing.{loop_entry, mark_entry}
use Rattle.high_fold.proofs.Entries.{listed}
use Rattle.high_fold.proofs.copies.copies.Goals as goal

pub returns : goal.returns
returns c =
    listed (program_of c.args.old.now) c.args.kept.now (map mark_entry c.in_ok-marks.marks.items) (map loop_entry c.in_ok-loops.loops.items) c.new.result.items
    c.in_ok-marks.ensures c.in_ok-loops.ensures c.new.ensures.items c.requires
