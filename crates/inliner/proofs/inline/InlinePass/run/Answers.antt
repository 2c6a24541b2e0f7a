use Rattle.high_ir.specs.Programs.{program_of}
use Rattle.inliner.proofs.Answered.{answered_did, answered_lawful}
use Rattle.inliner.proofs.inline.InlinePass.run.Goals as goal

pub returns-clause-law : goal.returns-clause-law
returns-clause-law c =
    answered_lawful c.args.self.now.limit (program_of c.args.old.now) _ _ c.in_ok-settled.settled.sweeps c.args.old.now.is_high c.in_ok-inlined.ensures.program c.in_ok-inlined.ensures.copies

pub returns-clause-did : goal.returns-clause-did
returns-clause-did c =
    answered_did c.args.self.now.limit (program_of c.args.old.now) _ _ c.in_ok-settled.settled.sweeps c.args.old.now.is_high c.in_ok-inlined.ensures.program c.in_ok-inlined.ensures.copies c.in_ok-settled.ensures.wanted c.in_ok-settled.ensures.done
