use Rattle.high_ir.specs.Programs.{program_of}
use Rattle.high_pass.specs.Listing.{listing_of}
use Rattle.high_unrolled.proofs.Lawful.{made_lawful, made_unrolls}
use Rattle.unroller.specs.View.{progress_of}
use Rattle.unroller.proofs.Starting.{as_listed}
use Rattle.unroller.proofs.unroll.unrolled.Goals as goal

pub returns-in-Ok-clause-law : goal.returns-in-Ok-clause-law
returns-in-Ok-clause-law c =
    let old = c.args.old.now in
    made_lawful c.args.factor (program_of old) old.is_high c.requires.least (program_of c.in_ok-program.program) (listing_of c.in-Ok.copies) c.requires.most c.in_ok-program.ensures.program
    (as_listed c.args.factor (program_of old) (progress_of c.in_ok-program.walk) (listing_of c.in-Ok.copies) c.in-Ok.ensures c.in_ok-program.ensures.progress)

pub returns-in-Ok-clause-unrolls : goal.returns-in-Ok-clause-unrolls
returns-in-Ok-clause-unrolls c =
    let old = c.args.old.now in
    made_unrolls c.args.factor (program_of old) old.is_high c.requires.least (program_of c.in_ok-program.program) (listing_of c.in-Ok.copies) c.in_ok-program.ensures.program
    (as_listed c.args.factor (program_of old) (progress_of c.in_ok-program.walk) (listing_of c.in-Ok.copies) c.in-Ok.ensures c.in_ok-program.ensures.progress)
