use Rattle.std.proofs.Common.{◌++◌, map, subst}
use Rattle.low_ir.specs.View.{claim_of, instr_of}
use Rattle.pass_strength_reduction_law.specs.Steps.{claims_of}
use Rattle.pass_strength_reduction.specs.Making.{Stands}
use Rattle.pass_strength_reduction.proofs.Making.{stands}
use Rattle.pass_strength_reduction.proofs.editing.go_through.Goals as goal

pub returns : goal.returns
returns c = λ sc fits.
    let scope = c.args.scope.now in
    let i = instr_of c.args.instr.now in
    let j = instr_of c.in-Some.new in
    stands scope.claims.now scope.alone.now scope.objects scope.registers scope.spare.now sc fits i j c.args.known.now.facts.items c.pass.new.self.facts.items
    (subst (λ fs. Stands (map claim_of scope.claims.now ++ claims_of scope.alone.now) fs i j) c.deref.ensures.value c.in-Some.ensures)
    (c.in_ok-is_placed.ensures c.if-not-branch.false) c.pass.ensures
