use Rattle.std.proofs.Common.{subst, sym, ◌∙◌}
use Rattle.high_ir.specs.Programs.{program_of}
use Rattle.high_pass.specs.Law.{IsLawful}
use Rattle.high_pass.specs.Listing.{listing_of}
use Rattle.high_folded.specs.Done.{IsFolded}
use Rattle.high_folded.specs.Folded.{folded_program}
use Rattle.high_folded.proofs.Lawful.{as_folded, lawful}
use Rattle.high_fold.proofs.fold.folded_with_copies.Goals as goal

pub copies-requires : goal.copies-requires
copies-requires c = c.deref.ensures.value ∙ c.in_ok-program.ensures.kept

pub returns-in-Ok-clause-law : goal.returns-in-Ok-clause-law
returns-in-Ok-clause-law c =
    let old = c.args.old.now in
    let p = program_of old in
    subst (λ q. IsLawful p q (listing_of c.in-Ok.copies)) (sym c.in_ok-program.ensures.program)
    (subst (IsLawful p (folded_program p)) (sym c.in-Ok.ensures) (lawful p old.is_high))

pub returns-in-Ok-clause-folded : goal.returns-in-Ok-clause-folded
returns-in-Ok-clause-folded c =
    let old = c.args.old.now in
    let p = program_of old in
    subst (λ q. IsFolded p q (listing_of c.in-Ok.copies)) (sym c.in_ok-program.ensures.program)
    (subst (IsFolded p (folded_program p)) (sym c.in-Ok.ensures) (as_folded p))
