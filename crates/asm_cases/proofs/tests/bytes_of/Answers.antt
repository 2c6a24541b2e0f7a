use Rattle.std.proofs.Common.{sym, subst}
use Rattle.asm_forms.specs.Laid.{HasRoom}
use Rattle.asm_cases.proofs.Shapes.{rows, fits_rows, starts_low, bases_room}
use Rattle.asm_cases.proofs.tests.bytes_of.Goals as goal

pub row-requires-clause-low : goal.row-requires-clause-low
row-requires-clause-low c =
    starts_low rows c.as_slice.result.now c.in_ok-layout.layout (subst (HasRoom rows) (sym c.as_slice.ensures.value) (fits_rows c.in_ok-functions.functions.items c.in_ok-functions.ensures.room)) c.in_ok-layout.ensures

pub row-requires-clause-room : goal.row-requires-clause-room
row-requires-clause-room c =
    bases_room rows c.as_slice.result.now c.in_ok-layout.layout (subst (HasRoom rows) (sym c.as_slice.ensures.value) (fits_rows c.in_ok-functions.functions.items c.in_ok-functions.ensures.room)) c.in_ok-layout.ensures
