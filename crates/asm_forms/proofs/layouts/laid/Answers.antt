use Rattle.std.proofs.Common.{◌≡◌, ◌+◌, ◌^◌, ◌<◌, ap, sym, ◌∙◌, subst, arith}
use Rattle.asm_forms.specs.Laid.{rows_of}
use Rattle.asm_forms.specs.Regions.{bases_of, functions_size, RoomFrom}
use Rattle.asm_forms.proofs.Formed.{room}
use Rattle.asm_forms.proofs.SizeLemmas.{functions_most}
use Rattle.asm_forms.proofs.layouts.laid.Goals as goal

pub bases_of-requires-clause-flash : goal.bases_of-requires-clause-flash
bases_of-requires-clause-flash c =
    let most = functions_most c.args.functions.items in
    let has = c.requires.flash in
    subst (λ l. c.args.regions.flash + functions_size l < 2 ^ 30) (sym c.as_slice.ensures.value) (omega arith)

pub bases_of-requires-clause-scratchpad : goal.bases_of-requires-clause-scratchpad
bases_of-requires-clause-scratchpad c =
    let most = functions_most c.args.functions.items in
    let has = c.requires.scratchpad in
    subst (λ l. c.args.regions.scratchpad + functions_size l < 2 ^ 30) (sym c.as_slice.ensures.value) (omega arith)

pub tables_of-requires : goal.tables_of-requires
tables_of-requires c =
    let r = rows_of c.args.regions in
    let fs = c.args.functions.items in
    let bases : c.as_slice-2.result.now ≡ bases_of r fs = c.as_slice-2.ensures.value ∙ c.in_ok-bases.ensures ∙ ap (bases_of r) c.as_slice.ensures.value in
    subst (λ b. RoomFrom b 0 c.as_slice-3.result.now) (sym bases) (subst (RoomFrom (bases_of r fs) 0) (sym c.as_slice-3.ensures.value) (room r fs c.requires))
