use Rattle.std.proofs.Common.{subst, sym}
use Rattle.high_ir.specs.Programs.{program_of}
use Rattle.high_pass.specs.Law.{IsLawful}
use Rattle.high_pass.specs.Listing.{listing_of}
use Rattle.high_again.proofs.Lawful.{lawful}
use Rattle.high_again.proofs.pass.made_again.Goals as goal

pub returns-in-Ok-clause-law : goal.returns-in-Ok-clause-law
returns-in-Ok-clause-law c =
    let old = c.args.old.now in
    let p = program_of old in
    subst (λ q. IsLawful p q (listing_of c.in-Ok.copies)) (sym c.in_ok-program.ensures) (subst (IsLawful p p) (sym c.in-Ok.ensures) (lawful p old.is_high))

pub returns-in-Ok-clause-same : goal.returns-in-Ok-clause-same
returns-in-Ok-clause-same c = record { program = c.in_ok-program.ensures; listed = c.in-Ok.ensures }
