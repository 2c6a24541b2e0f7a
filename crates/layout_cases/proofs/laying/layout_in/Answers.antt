use Rattle.std.proofs.Common.{◌≡◌, true, ap, sym, subst, refl, ◌∙◌}
use Rattle.std.specs.Result.{IfOk}
use Rattle.std.proofs.lemmas.Result.{IfOk-weaker}
use Rattle.low_ir.specs.Programs.{low_of}
use Rattle.low_ir.specs.Placings.{assignment_of, placed_of}
use Rattle.asm_writing.specs.Targets.{starts_in, AreLow}
use Rattle.asm_forms.specs.declared.layouts.Layout.{Layout}
use Rattle.asm_forms.specs.Laid.{HasRoom, IsFormed}
use Rattle.asm_forms.specs.Layouts.{functions_fit}
use Rattle.asm_forms.specs.Regions.{Rows, RoomFrom}
use Rattle.asm_forms.specs.Sound.{FunctionsSound}
use Rattle.asm_program.specs.Functions.{program_items}
use Rattle.asm_sound.proofs.Programs.{program_sound}
use Rattle.asm_code.proofs.Registers.{placed_there}
use Rattle.image_frames.specs.Memories.{memory_of}
use Rattle.image_frames.proofs.SavingLemmas.{saving}
use Rattle.claims_lists.specs.Places.{IsRoomy}
use Rattle.layout_cases.proofs.Formed.{has_room_of, starts_low, bases_room, items_fit, is_roomy}
use Rattle.layout_cases.proofs.laying.layout_in.Goals as goal

pub form-requires-clause-sound : goal.form-requires-clause-sound
form-requires-clause-sound c =
    let code = c.args.code.now in
    let pl = c.args.placement.now in
    let p = placed_of code in
    subst FunctionsSound (sym (c.deref-3.ensures.value ∙ (c.in_ok-items.ensures ∙ ap (λ m. program_items m p) c.requires.memory)))
    (program_sound (memory_of pl p) p (placed_there (assignment_of code) (low_of code.low) code.low.is_low code.is_assignment) (saving pl p))

abbrev rows : goal.After-drop-items-2 → Rows
rows c = record { placed = c.deref-2.result.now; flash = 0; scratchpad = c.args.scratchpad }

has_room : (c : goal.After-drop-items-2) → HasRoom (rows c) c.deref-3.result.now
has_room c =
    has_room_of (rows c) c.deref-3.result.now c.in_ok-items.items.items c.deref.result.now c.deref-3.ensures.value c.deref.ensures.value refl
    c.requires.scratchpad (c.are_few.ensures c.if-not-are_few.false)

by_form : (c : goal.After-drop-items-2) (Q : Layout → Type 0) → ((l : Layout) → IsFormed (rows c) c.deref-3.result.now l → Q l) → IfOk c.form.result Q
by_form c Q all = IfOk-weaker c.form.result (IsFormed (rows c) c.deref-3.result.now) Q all c.form.ensures

pub returns-clause-low : goal.returns-clause-low
returns-clause-low c = by_form c (λ l. AreLow l.starts.items) (λ l f. starts_low (rows c) c.deref-3.result.now l (has_room c) f)

pub returns-clause-room : goal.returns-clause-room
returns-clause-room c = by_form c (λ l. RoomFrom l.bases.items 0 l.functions.items) (λ l f. bases_room (rows c) c.deref-3.result.now l (has_room c) f)

pub returns-clause-fit : goal.returns-clause-fit
returns-clause-fit c =
    by_form c (λ l. functions_fit (starts_in l.starts.items) l.bases.items 0 l.functions.items ≡ true)
    (λ l f. items_fit (rows c) c.deref-3.result.now l (has_room c) f)

pub returns-clause-roomy : goal.returns-clause-roomy
returns-clause-roomy c = by_form c (λ l. IsRoomy l) (λ l f. is_roomy (rows c) c.deref-3.result.now l (has_room c) f)
