use Rattle.low_ir.specs.Places.{assignment, placed}
use Rattle.register_places.proofs.Ways.{all_safe}
use Rattle.register_places.proofs.Follow.{carried}
use Rattle.asm_program.proofs.FormedLemmas.{program}
use Rattle.asm_code.proofs.Registers.{placed_there}
use Rattle.simulation_loaded.proofs.PlacedLemmas.{placed_keeps}
use Rattle.simulation_law.proofs.Simulated.{simulated}
use Rattle.simulation_law.proofs.laws.assignments_simulate.Goals as goal

pub returns : goal.returns
returns c = λ pl ps low formed fits_all fits table input bytes i v u good.
    let a = assignment ps in
    let there = carried a low (all_safe a low fits_all) input i v u good in
    simulated pl (placed a low) (program a low formed) (placed_there a low formed fits_all) (placed_keeps ps low) fits table input bytes i v u there.done
