-- The loops of a program over the places of an assignment are those of the program over virtual registers.
use Rattle.std.proofs.Common.{ℕ, List, subst}
use Rattle.std.specs.Prelude.{All}
use Rattle.std.proofs.lemmas.Option.{slice_get-get_or}
use Rattle.low_ir.specs.Code.{Low}
use Rattle.low_ir.specs.Effects.{World}
use Rattle.low_ir.specs.Formed.{IsLow}
use Rattle.low_ir.specs.Runs.{lrun}
use Rattle.low_ir.specs.Turns.{IsGood}
use Rattle.low_ir.specs.Places.{Assignment, placed}
use Rattle.register_places.specs.Totals.{KeepsTotals}
use Rattle.register_places.proofs.Following.{all_totals}
use Rattle.register_places.proofs.Ways.{of_function}
use Rattle.asm_program.specs.Functions.{function_in, no_function}
use Rattle.simulation_kept.specs.Laws.{LoopsKeepTotals}

pub placed_totals : (a : Assignment) (low : Low) → IsLow low → (input : List ℕ) (i v : ℕ) (u : World) → IsGood low (lrun low input i) v u → LoopsKeepTotals (placed a low) u
placed_totals a low formed input i v u good f less =
    let p = placed a low in
    let h = of_function a 0 low.functions f (function_in p f) (slice_get-get_or p.functions f no_function less) in
    subst (All (KeepsTotals f u.trace)) h.loops (all_totals low formed input i v u good f h.fn h.there)
