use Rattle.std.proofs.Common.{◌++◌, map, subst}
use Rattle.low_ir.specs.View.{claim_of, instr_of}
use Rattle.pass_strength_reduction_law.specs.Steps.{claims_of}
use Rattle.pass_strength_reduction.specs.Making.{IsSure}
use Rattle.pass_strength_reduction.proofs.Making.{inserts}
use Rattle.pass_strength_reduction.proofs.editing.insert.Goals as goal

pub returns : goal.returns
returns c = λ sc fits.
    let scope = c.args.scope.now in
    let i = instr_of c.args.instr.now in
    inserts scope.claims.now scope.alone.now scope.objects scope.registers scope.spare.now sc fits i (instr_of c.in_ok-same.same) c.args.known.now.facts.items c.pass.new.self.facts.items c.in_ok-same.ensures
    (subst (λ fs. IsSure (map claim_of scope.claims.now ++ claims_of scope.alone.now) fs i) c.deref.ensures.value (c.is_sure.ensures c.if-not-is_sure.false))
    (c.writes_spare.ensures c.if-not-writes_spare.false)
    (c.in_ok-is_placed.ensures c.if-not-branch.false) c.pass.ensures
