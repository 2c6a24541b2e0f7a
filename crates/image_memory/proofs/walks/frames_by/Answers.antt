use Rattle.std.proofs.Common.{ap, sym, ◌∙◌}
use Rattle.low_ir.specs.Placings.{assignment_of}
use Rattle.asm_program.specs.Frames.{Frame}
use Rattle.image_memory.proofs.FrameLemmas.{slots_are}
use Rattle.image_memory.proofs.walks.frames_by.Goals as goal

pub end_of-at-requires-clause-slots : goal.end_of-at-requires-clause-slots
end_of-at-requires-clause-slots c =
    ap (λ (f : Frame). f.slots) c.in_ok-frame.ensures ∙ (slots_are (assignment_of c.args.code.now) c.args.outlines.now c.loop-number.at c.loop-number.number ∙ sym c.slots.ensures)
