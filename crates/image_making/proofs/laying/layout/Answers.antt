use Rattle.std.proofs.Common.{ap, sym, subst, ◌∙◌}
use Rattle.low_ir.specs.Programs.{low_of}
use Rattle.low_ir.specs.Placings.{assignment_of, placed_of}
use Rattle.asm_forms.specs.Sound.{FunctionsSound}
use Rattle.asm_program.specs.Functions.{program_items}
use Rattle.asm_sound.proofs.Programs.{program_sound}
use Rattle.asm_code.proofs.Registers.{placed_there}
use Rattle.image_frames.specs.Memories.{memory_of}
use Rattle.image_frames.proofs.SavingLemmas.{saving}
use Rattle.image_making.proofs.laying.layout.Goals as goal

pub form-requires-clause-sound : goal.form-requires-clause-sound
form-requires-clause-sound c =
    let code = c.args.code.now in
    let pl = c.args.placement.now in
    let p = placed_of code in
    subst FunctionsSound (sym (c.deref-2.ensures.value ∙ (c.in_ok-items.ensures ∙ ap (λ m. program_items m p) c.requires.memory)))
    (program_sound (memory_of pl p) p (placed_there (assignment_of code) (low_of code.low) code.low.is_low code.is_assignment) (saving pl p))
