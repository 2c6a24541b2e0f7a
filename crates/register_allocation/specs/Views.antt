-- A sweep of the code, without where it lies in memory.
use Rattle.std.specs.Prelude.{ℕ, List, Option, drop}
use Rattle.register_allocation.specs.declared.masks.Sweep as sweeps
use Rattle.register_allocation.specs.declared.order.Lasting.{Lasting}
use Rattle.register_allocation.specs.Masks.{Sweep}

-- of these, all but the first so many are still to begin
abbrev pub sweep_by : List Lasting → List (Option Lasting) → ℕ → Sweep
sweep_by order holders next = record { holders = holders; left = drop next order }

abbrev pub sweep_of : List Lasting → sweeps.Sweep → Sweep
sweep_of order s = sweep_by order s.holders.items s.next
