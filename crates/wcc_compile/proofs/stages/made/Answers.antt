use Rattle.std.proofs.Common.{length, sym, subst}
use Rattle.high_ir.specs.Programs.{program_of}
use Rattle.high_pass.specs.Listing.{listing_of}
use Rattle.low_ir.specs.Placings.{assignment_of, placed_of}
use Rattle.low_ir.specs.Programs.{low_of}
use Rattle.low_ir.specs.declared.places.LowReg.{LowReg}
use Rattle.compile_high_definitions.specs.Carried.{IsCarried}
use Rattle.compile_capacity.proofs.Sizes.{limited_fit}
use Rattle.compile_stages.specs.Made.{IsLowered}
use Rattle.compile_stages.specs.declared.made.Stages.{Stages}
use Rattle.wcc_compile.specs.Lowered.{IsCodeOf}
use Rattle.wcc_compile.specs.Passes.{AreStages, stages_of}
use Rattle.compile_report.specs.Sources.{names_of, tree_of}
use Rattle.wcc_compile.proofs.stages.made.Goals as goal

pub laid-requires : goal.laid-requires
laid-requires c =
    let p = program_of c.in_ok-stages.stages.last.program in
    let code = c.in_ok-lowered.lowered.code in
    let low = low_of code.low in
    let lowered = c.in_ok-lowered.ensures.code in
    c.nothing_can_be_placed.ensures (placed_of code) (limited_fit p low (assignment_of code) c.in_ok-stages.ensures.begun.carried.limited lowered.keeps_program lowered.slots)

pub returns-clause-stages : goal.returns-clause-stages
returns-clause-stages c =
    let s = c.args.source.now in
    subst (λ (st : Stages). AreStages c.args.options.now (names_of s) (tree_of s) s.facts (stages_of st)) (sym c.in_ok-made.ensures.stages)
    (subst (λ (st : Stages). AreStages c.args.options.now (names_of s) (tree_of s) s.facts (stages_of st)) (sym c.in_ok-lowered.ensures.stages) c.in_ok-stages.ensures.begun.stages)

pub returns-clause-code : goal.returns-clause-code
returns-clause-code c =
    let m = c.in_ok-made.made in
    let last = c.in_ok-made.ensures in
    let below = c.in_ok-lowered.ensures in
    subst (λ (st : Stages). IsCodeOf (program_of st.last.program) m.code) (sym last.stages)
    (subst (λ (st : Stages). IsCodeOf (program_of st.last.program) m.code) (sym below.stages) (subst (λ (code : LowReg). IsCodeOf (program_of c.in_ok-stages.stages.last.program) code) (sym last.code) below.passed))

pub returns-clause-made : goal.returns-clause-made
returns-clause-made c =
    let s = c.args.source.now in
    let m = c.in_ok-made.made in
    let first = c.in_ok-stages.stages in
    let last = c.in_ok-made.ensures in
    let below = c.in_ok-lowered.ensures in
    record {
      carried = subst (λ (st : Stages). IsCarried (names_of s) (tree_of s) s.facts (length st.before.items) (program_of st.last.program) (listing_of st.last.copies)) (sym last.stages)
          (subst (λ (st : Stages). IsCarried (names_of s) (tree_of s) s.facts (length st.before.items) (program_of st.last.program) (listing_of st.last.copies)) (sym below.stages) c.in_ok-stages.ensures.begun.carried);
      lowered = subst (λ (st : Stages). IsLowered (program_of st.last.program) m.code) (sym last.stages)
          (subst (λ (st : Stages). IsLowered (program_of st.last.program) m.code) (sym below.stages) (subst (λ (code : LowReg). IsLowered (program_of first.last.program) code) (sym last.code) below.code));
      in_memory = last.memory;
    }
