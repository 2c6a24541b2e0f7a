-- What the places of one function meet.
use Rattle.std.specs.Prelude.{◌≡◌, ℕ, ◌≤◌, List, [], ◌∷◌, Some, Option, slice_get, slice_index_or}
use Rattle.low_ir.specs.Code.{Function, Note}
use Rattle.low_ir.specs.Places.{Placing, assignment, no_placing}
use Rattle.low_ir.specs.Spacing.{Fits}
use Rattle.register_live_ranges.specs.declared.interval.Interval.{Interval}
use Rattle.register_live_ranges.specs.Intervals.{AreIntervalsOf}
use Rattle.register_allocation.specs.declared.order.Lasting.{Lasting}
use Rattle.register_allocation.specs.Spills.{SpillsWhereCrowded}
use Rattle.register_allocation.specs.Scans.{Scan, Scanned}
use Rattle.register_allocation.specs.Masks.{blocks_masks, unswept}

-- the placing alone, as that of function 0
pub record IsPlacing (fn : Function ℕ Note) (pl : Placing) : Type 0 where
  pub fits : Fits (assignment (pl ∷ [])) 0 fn
  pub spills : SpillsWhereCrowded fn pl
  pub slots : pl.slots ≤ fn.size

-- each of these functions has such a placing
abbrev pub ArePlacings : List (Function ℕ Note) → List Placing → Type 0
ArePlacings fns pls = (f : ℕ) (fn : Function ℕ Note) → slice_get fns f ≡ Some fn → IsPlacing fn (slice_index_or pls f no_placing)

-- the places of a scan with the masks of the calls, and what a scan gives
pub record IsMaskedPlacing (fn : Function ℕ Note) (order : List Lasting) (s : Scan) (pl : Placing) : Type 0 where
  pub places : pl.places ≡ s.places
  pub kept : pl.kept ≡ blocks_masks s.places 0 (unswept order) fn.blocks
  pub slots : pl.slots ≡ s.slots

pub record IsScannedPlacing (fn : Function ℕ Note) (order : List Lasting) (pl : Placing) : Type 0 where
  pub scan : Scan
  pub scanned : Scanned fn fn.size order order scan
  pub few : scan.slots ≤ fn.size
  pub masked : IsMaskedPlacing fn order scan pl

-- the intervals of each of these functions
abbrev pub HaveIntervals : List (Function ℕ Note) → List (List (Option Interval)) → Type 0
HaveIntervals fns rows = (f : ℕ) (fn : Function ℕ Note) → slice_get fns f ≡ Some fn → AreIntervalsOf fn (slice_index_or rows f [])
