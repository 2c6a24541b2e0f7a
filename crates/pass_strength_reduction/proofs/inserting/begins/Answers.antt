use Rattle.std.proofs.Common.{◌++◌, ap, map, subst, sym}
use Rattle.low_ir.specs.View.{base_of, claim_of}
use Rattle.pass_strength_reduction_law.specs.Steps.{claims_of}
use Rattle.pass_strength_reduction.specs.Making.{HasBeginning}
use Rattle.pass_strength_reduction.proofs.Ways.{pointer_begins}
use Rattle.pass_strength_reduction.proofs.inserting.begins.Goals as goal

pub returns-in-Some : goal.returns-in-Some
returns-in-Some c = λ done s known.
    let news = map claim_of c.args.scope.now.claims.now ++ claims_of c.args.scope.now.alone.now in
    subst (λ b. HasBeginning news b s) (sym (ap base_of c.in-Pointer.is)) (pointer_begins news c.in-Pointer.register c.in-Pointer.claim c.in-Some.field-0 s (c.in-Some.ensures.points s known) c.in-Some.ensures.lists)
