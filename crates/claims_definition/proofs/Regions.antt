-- The accesses of all functions, in the order of their addresses.
use Rattle.std.proofs.Common.{◌≡◌, ℕ, suc, ◌%◌, ◌<◌, [], length}
use Rattle.std.specs.Prelude.{slice_index_or}
use Rattle.asm_items.specs.Placings.{base_of, blocks_of, end_of}
use Rattle.claims_definition.specs.AccessLaws.{AreLines}
use Rattle.claims_definition.specs.ClaimLaws.{IsSettled}
use Rattle.claims_definition.specs.Lines.{Access}
use Rattle.claims_definition.specs.Listed.{Laid, accesses_in, accesses_of, placing, regions_of}
use Rattle.claims_definition.specs.Touches.{program_touches}
use Rattle.claims_definition.proofs.Accesses.{AccessesBetween, IsGood, ascends, at_of, blocks_between, function_lies, program_lies}
use Rattle.claims_definition.proofs.Along.{along, last_end}
use Rattle.claims_definition.proofs.Rising.{lines_hold}

module _ (l : Laid) (is : IsSettled l) where
  one_between : (f : ℕ) → f < suc (length l.program.functions) → base_of (placing l) f % 4 ≡ 0 → AccessesBetween (base_of (placing l) f) (accesses_in l f) (end_of (placing l) f)
  one_between f there e =
      let touched = program_touches l.memory l.program in
      blocks_between l.regions (base_of (placing l) f) (slice_index_or touched f []) (blocks_of (placing l) f) e (function_lies l.regions touched f (program_lies l.regions l.memory l.program is.named))

  pub regions_hold : AreLines (accesses_of l) (regions_of l)
  regions_hold = lines_hold l.rows.flash (accesses_of l) (ascends l.rows.flash (accesses_of l) (last_end l) (along l is Access at_of IsGood (accesses_in l) one_between))
