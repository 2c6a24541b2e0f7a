use Rattle.std.proofs.Common.{subst, sym, map}
use Rattle.high_ir.specs.Programs.{program_of}
use Rattle.pass_constant_hoisting.proofs.Formed.{formed}
use Rattle.low_ir.specs.Formed.{IsLow}
use Rattle.low_ir.specs.View.{claim_of}
use Rattle.lower_definition.specs.Programs.{lowered}
use Rattle.lower_budget.proofs.FormedPrograms.{is_low}
use Rattle.lower_law.specs.Programs.{KeepsProgram, SparesRegisters}
use Rattle.lower_law.proofs.Law.{keeps, spares}
use Rattle.low_make.proofs.Holding.{parts_held}
use Rattle.low_make.proofs.lowering.lower.Goals as goal

pub invariant_of-result : goal.invariant_of-result
invariant_of-result c =
    let high = c.args.program.now in
    let p = program_of high in
    let words = c.deref-2.result.now in
    record { is_low = subst IsLow (sym (parts_held p c.in_ok-parts.parts words c.in_ok-functions.functions.items c.deref-3.result.now c.in_ok-parts.ensures c.deref-3.ensures.value c.in_ok-functions.ensures)) (formed (map claim_of words) (lowered p) (is_low p high.is_high)) }

pub returns-clause-lowered : goal.returns-clause-lowered
returns-clause-lowered c =
    let p = program_of c.args.program.now in
    let words = c.deref-2.result.now in
    record { words = map claim_of words; same = parts_held p c.in_ok-parts.parts words c.in_ok-functions.functions.items c.deref-3.result.now c.in_ok-parts.ensures c.deref-3.ensures.value c.in_ok-functions.ensures }

pub returns-clause-keeps : goal.returns-clause-keeps
returns-clause-keeps c =
    let high = c.args.program.now in
    let p = program_of high in
    let words = c.deref-2.result.now in
    subst (KeepsProgram p) (sym (parts_held p c.in_ok-parts.parts words c.in_ok-functions.functions.items c.deref-3.result.now c.in_ok-parts.ensures c.deref-3.ensures.value c.in_ok-functions.ensures)) (keeps p high.is_high (map claim_of words))

pub returns-clause-spares : goal.returns-clause-spares
returns-clause-spares c =
    let high = c.args.program.now in
    let p = program_of high in
    let words = c.deref-2.result.now in
    subst (SparesRegisters p) (sym (parts_held p c.in_ok-parts.parts words c.in_ok-functions.functions.items c.deref-3.result.now c.in_ok-parts.ensures c.deref-3.ensures.value c.in_ok-functions.ensures)) (spares p high.is_high (map claim_of words))
