use Rattle.std.proofs.Common.{sym, subst}
use Rattle.high_ir.specs.Programs.{program_of}
use Rattle.high_pass.specs.Composing.{Continues}
use Rattle.high_pass.specs.Listing.{listing_of}
use Rattle.high_pass.proofs.Continuing.{can_compose, continues}
use Rattle.high_pass.proofs.chaining.chain.Goals as goal

pub compose-requires : goal.compose-requires
compose-requires g c =
    can_compose (program_of c.args.old.now) (program_of c.in_ok-step.step.program) (listing_of c.args.whole.now) (listing_of c.in_ok-step.step.copies) c.args.old.now.is_high c.requires.lists c.in_ok-step.ensures.law c.requires.factors

pub returns-in-Ok-clause-continues : goal.returns-in-Ok-clause-continues
returns-in-Ok-clause-continues g c =
    subst (Continues (program_of c.args.old.now) (program_of c.in_ok-step.step.program) (listing_of c.args.whole.now)) (sym c.in-Ok.ensures)
    (continues (program_of c.args.old.now) (program_of c.in_ok-step.step.program) (listing_of c.args.whole.now) (listing_of c.in_ok-step.step.copies) c.args.old.now.is_high c.requires.lists c.in_ok-step.ensures.law)
