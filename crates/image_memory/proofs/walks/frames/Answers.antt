use Rattle.std.proofs.Common.{◌≡◌, ap, sym, subst, ◌∙◌, length}
use Rattle.std.specs.Prelude.{IfOk}
use Rattle.std.proofs.lemmas.List.{length-map}
use Rattle.low_ir.specs.View.{function_of}
use Rattle.low_ir.specs.Programs.{low_of}
use Rattle.low_ir.specs.Placings.{assignment_of}
use Rattle.image_memory.specs.Walks.{frames_by, end_by, HaveRoom}
use Rattle.image_memory.proofs.FrameLemmas.{frames_found, end_found, room_found, count_found}
use Rattle.image_memory.proofs.walks.frames.Goals as goal

pub frames_by-requires-clause-count : goal.frames_by-requires-clause-count
frames_by-requires-clause-count c =
    let low = low_of c.args.code.now.low in
    ap length (c.deref-2.ensures.value ∙ c.in_ok-outlines.ensures) ∙ (count_found (assignment_of c.args.code.now) low ∙ length-map c.args.code.now.low.functions.items function_of)

pub frames_by-requires-clause-room : goal.frames_by-requires-clause-room
frames_by-requires-clause-room c =
    let low = low_of c.args.code.now.low in
    subst (λ os. HaveRoom (assignment_of c.args.code.now) os 0x2000_0000 0 low.functions) (sym (c.deref-2.ensures.value ∙ c.in_ok-outlines.ensures)) (room_found (assignment_of c.args.code.now) low c.requires.room)

pub returns-clause-frames : goal.returns-clause-frames
returns-clause-frames c =
    let low = low_of c.args.code.now.low in
    subst (λ l. IfOk c.frames_by.result (λ f. f.frames.items ≡ l))
    (ap (λ os. frames_by (assignment_of c.args.code.now) os 0x2000_0000 0 low.functions) (c.deref-2.ensures.value ∙ c.in_ok-outlines.ensures) ∙ frames_found (assignment_of c.args.code.now) low) c.frames_by.ensures.frames

pub returns-clause-end : goal.returns-clause-end
returns-clause-end c =
    let low = low_of c.args.code.now.low in
    subst (λ l. IfOk c.frames_by.result (λ f. f.end ≡ l))
    (ap (λ os. end_by (assignment_of c.args.code.now) os 0x2000_0000 0 low.functions) (c.deref-2.ensures.value ∙ c.in_ok-outlines.ensures) ∙ end_found (assignment_of c.args.code.now) low) c.frames_by.ensures.end
