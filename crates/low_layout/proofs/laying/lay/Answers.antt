use Rattle.std.proofs.Common.{arith}
use Rattle.low_ir.specs.Programs.{low_of}
use Rattle.low_ir.specs.Placings.{assignment_of, placed_of, placings_of}
use Rattle.image_definition.proofs.FitLemmas.{fits}
use Rattle.asm_program.proofs.FormedLemmas.{program}
use Rattle.layout_law.proofs.KeptLemmas.{keeps}
use Rattle.layout_law.proofs.RoomLemmas.{rooms_kept}
use Rattle.low_layout.proofs.SpotLemmas.{have_spots}
use Rattle.low_layout.proofs.laying.lay.Goals as goal

pub laid_whole-requires-clause-spots : goal.laid_whole-requires-clause-spots
laid_whole-requires-clause-spots c =
    let low = low_of c.args.code.now.low in
    let code = c.requires.room.code in
    let same = (rooms_kept (assignment_of c.args.code.now) low).room in
    have_spots low.functions (omega (arith, code, same))

pub laid_whole-requires-clause-fit : goal.laid_whole-requires-clause-fit
laid_whole-requires-clause-fit c =
    let code = c.args.code.now in
    fits (placed_of code) c.args.placement.now (program (assignment_of code) (low_of code.low) code.low.is_low) c.has_words.ensures c.requires

pub returns-clause-keeps : goal.returns-clause-keeps
returns-clause-keeps c =
    let code = c.args.code.now in
    keeps c.args.placement.now (placings_of code) (low_of code.low) code.low.is_low code.is_assignment c.has_words.ensures c.requires
