use Rattle.std.proofs.Common.{ap, sym, ◌∙◌, subst}
use Rattle.asm_forms.specs.Laid.{HasRoom, rows_of}
use Rattle.asm_forms.specs.Layouts.{improved}
use Rattle.asm_forms.specs.Shorter.{functions_longest}
use Rattle.asm_forms.specs.Sound.{FunctionsSound}
use Rattle.asm_forms.proofs.Formed.{formed_from, improved_room, improved_sound, room_longest}
use Rattle.asm_forms.proofs.SizeLemmas.{longest_sound}
use Rattle.asm_forms.proofs.forms.form.Goals as goal

pub laid-requires : goal.laid-requires
laid-requires c = subst (HasRoom (rows_of c.args.regions)) (sym c.in_ok-longest.ensures) (room_longest (rows_of c.args.regions) c.args.functions.now c.requires.room)

pub improved-requires-clause-sound : goal.improved-requires-clause-sound
improved-requires-clause-sound c = subst FunctionsSound (sym (c.in_ok-first.ensures.functions ∙ c.in_ok-longest.ensures)) (longest_sound c.args.functions.now c.requires.sound)

pub improved-requires-clause-room : goal.improved-requires-clause-room
improved-requires-clause-room c =
    let r = rows_of c.args.regions in
    subst (HasRoom r) (sym (c.in_ok-first.ensures.functions ∙ c.in_ok-longest.ensures)) (room_longest r c.args.functions.now c.requires.room)

pub improved-requires-2-clause-sound : goal.improved-requires-2-clause-sound
improved-requires-2-clause-sound c =
    let r = rows_of c.args.regions in
    let fs = functions_longest c.args.functions.now in
    let first = c.in_ok-first.ensures.functions ∙ c.in_ok-longest.ensures in
    subst FunctionsSound (sym (c.in_ok-second.ensures.functions ∙ ap (improved r) first)) (improved_sound r fs (longest_sound c.args.functions.now c.requires.sound))

pub improved-requires-2-clause-room : goal.improved-requires-2-clause-room
improved-requires-2-clause-room c =
    let r = rows_of c.args.regions in
    let fs = functions_longest c.args.functions.now in
    let first = c.in_ok-first.ensures.functions ∙ c.in_ok-longest.ensures in
    subst (HasRoom r) (sym (c.in_ok-second.ensures.functions ∙ ap (improved r) first)) (improved_room r fs (room_longest r c.args.functions.now c.requires.room))

pub returns : goal.returns
returns c =
    let r = rows_of c.args.regions in
    let second = c.in_ok-second.ensures.functions ∙ ap (improved r) (c.in_ok-first.ensures.functions ∙ c.in_ok-longest.ensures) in
    formed_from r c.args.functions.now c.in_ok-second.second.functions.items c.improved-2.result second c.requires.sound c.requires.room c.improved-2.ensures
