use Rattle.std.proofs.Common.{◌≤◌, ◌*◌, subst, sym}
use Rattle.low_ir.specs.declared.low.Low.{Low}
use Rattle.low_ir.specs.Placings.{placings_of}
use Rattle.low_ir.specs.Programs.{low_of}
use Rattle.low_ir.specs.Room.{room}
use Rattle.high_ir.specs.Programs.{program_of}
use Rattle.register_allocation.specs.Spills.{HaveFewSlots, SpillWhereCrowded}
use Rattle.lower_law.specs.Programs.{KeepsProgram}
use Rattle.wcc_compile.specs.Lowered.{IsQuickened}
use Rattle.wcc_compile.proofs.Lowering.{code_keeps, code_room}
use Rattle.wcc_compile.proofs.low_passes.code_of.Goals as goal

pub returns-clause-lowered : goal.returns-clause-lowered
returns-clause-lowered c =
    let code = c.in_ok-code.code in
    let same = sym c.in_ok-code.ensures.low in
    let p = program_of c.args.program.now in
    let from = c.in_ok-plain.ensures in
    let kept = code_keeps p (low_of c.in_ok-plain.plain) (low_of c.in_ok-held.held) (low_of c.in_ok-brief.brief) (low_of c.in_ok-low.low) from.keeps from.spares c.in_ok-held.ensures c.in_ok-brief.ensures c.in_ok-low.ensures in
    record {
      keeps_program = subst (λ (l : Low). KeepsProgram p (low_of l)) same kept;
      spills = subst (λ (l : Low). SpillWhereCrowded (low_of l) (placings_of code)) same c.in_ok-code.ensures.spills;
      slots = subst (λ (l : Low). HaveFewSlots (low_of l) (placings_of code)) same c.in_ok-code.ensures.slots;
    }

pub returns-clause-passed : goal.returns-clause-passed
returns-clause-passed c =
    let same = sym c.in_ok-code.ensures.low in
    let p = program_of c.args.program.now in
    let from = c.in_ok-plain.ensures in
    let few = code_room p (low_of c.in_ok-plain.plain) (low_of c.in_ok-held.held) (low_of c.in_ok-brief.brief) (low_of c.in_ok-low.low) from.keeps from.spares c.in_ok-held.ensures c.in_ok-brief.ensures c.in_ok-low.ensures in
    record {
      plain = low_of c.in_ok-plain.plain;
      held = low_of c.in_ok-held.held;
      brief = low_of c.in_ok-brief.brief;
      lowers = from.lowered;
      promotes = c.in_ok-held.ensures;
      shortens = c.in_ok-brief.ensures;
      quickens = subst (λ (l : Low). IsQuickened (low_of c.in_ok-brief.brief) (low_of l)) same c.in_ok-low.ensures;
      room = subst (λ (l : Low). room (low_of l) ≤ 34 * room (low_of c.in_ok-plain.plain)) same few;
    }
