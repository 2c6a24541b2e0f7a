use Rattle.std.proofs.Common.{sym}
use Rattle.std.specs.Int.{w64}
use Rattle.std.proofs.lemmas.Int.{to_z-of_z}
use Rattle.frac128.proofs.SumLemmas.{coefficient_at, coefficient_in_gap}
use Rattle.frac128.proofs.sum.Sum.coefficient.Goals as goal

pub returns-in-Ok : goal.returns-in-Ok
returns-in-Ok c =
    let at_place = coefficient_at c.args.self.now c.in-Ok.ensures.canonical c.args.at c.in-Ok.i c.in-Ok.ensures.found in
    let held = to_z-of_z w64 c.number.result (record { sfits = c.number.type_inv }) in
    cc (held, at_place, c.number.ensures)

pub returns-in-Err : goal.returns-in-Err
returns-in-Err c = sym (coefficient_in_gap _ _ _ c.in-Err.ensures.absent)
