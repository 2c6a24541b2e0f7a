use Rattle.std.proofs.Common.{sym, ◌∙◌, subst}
use Rattle.asm_writing.specs.Targets.{AreLow}
use Rattle.asm_forms.specs.Laid.{rows_of}
use Rattle.asm_forms.specs.Layouts.{starts_of}
use Rattle.asm_forms.specs.Regions.{bases_of, RoomFrom}
use Rattle.asm_forms.specs.Sound.{FunctionsSound}
use Rattle.asm_forms.proofs.Formed.{low, room, shorter_room, shortened-is}
use Rattle.asm_forms.proofs.SizeLemmas.{functions_sound}
use Rattle.asm_forms.proofs.layouts.improved.Goals as goal

pub shortened-requires-clause-low : goal.shortened-requires-clause-low
shortened-requires-clause-low c = subst AreLow (sym c.requires.laid.starts) (low (rows_of c.args.regions) c.args.layout.functions.items c.requires.room)

pub shortened-requires-clause-room : goal.shortened-requires-clause-room
shortened-requires-clause-room c = subst (λ b. RoomFrom b 0 c.args.layout.functions.items) (sym c.requires.laid.bases) (room (rows_of c.args.regions) c.args.layout.functions.items c.requires.room)

pub laid-requires : goal.laid-requires
laid-requires c =
    let l = c.args.layout in
    shorter_room (rows_of c.args.regions) l.functions.items c.in_ok-shortened.field-0.items l.starts.items l.bases.items c.requires.laid.starts c.requires.laid.bases c.in_ok-shortened.ensures c.requires.room

pub fits-requires-clause-low : goal.fits-requires-clause-low
fits-requires-clause-low c =
    let r = rows_of c.args.regions in
    subst AreLow (sym c.in_ok-shorter.ensures.starts) (low r c.in_ok-shortened.field-0.items (shorter_room r c.args.layout.functions.items c.in_ok-shortened.field-0.items c.args.layout.starts.items c.args.layout.bases.items c.requires.laid.starts c.requires.laid.bases c.in_ok-shortened.ensures c.requires.room))

pub fits-requires-clause-sound : goal.fits-requires-clause-sound
fits-requires-clause-sound c =
    let r = rows_of c.args.regions in
    let l = c.args.layout in
    let fs = l.functions.items in
    let is = c.in_ok-shorter.ensures.functions ∙ c.in_ok-shortened.ensures ∙ shortened-is r fs l.starts.items l.bases.items c.requires.laid.starts c.requires.laid.bases in
    subst FunctionsSound (sym is) (functions_sound (starts_of r fs) (bases_of r fs) 0 fs c.requires.sound)

pub fits-requires-clause-room : goal.fits-requires-clause-room
fits-requires-clause-room c =
    let r = rows_of c.args.regions in
    let gs = c.in_ok-shortened.field-0.items in
    let laid = c.in_ok-shorter.ensures in
    subst (λ b. RoomFrom b 0 c.in_ok-shorter.shorter.functions.items) (sym laid.bases) (subst (RoomFrom (bases_of r gs) 0) (sym laid.functions) (room r gs (shorter_room r c.args.layout.functions.items c.in_ok-shortened.field-0.items c.args.layout.starts.items c.args.layout.bases.items c.requires.laid.starts c.requires.laid.bases c.in_ok-shortened.ensures c.requires.room)))
