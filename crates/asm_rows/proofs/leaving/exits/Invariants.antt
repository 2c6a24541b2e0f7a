use Rattle.std.proofs.Common.{◌≡◌, ◌++◌, drop}
use Rattle.asm_forms.specs.Regions.{RoomFrom}
use Rattle.asm_placed.specs.Exits.{functions_exits}
use Rattle.asm_rows.proofs.leaving.exits.Given as goal

abbrev pub invariant-loop-number : goal.invariant-loop-number
invariant-loop-number l = record {
  exits : l.exits.items ++ functions_exits l.layout.bases.items l.number (drop l.number l.layout.functions.items) ≡ functions_exits l.layout.bases.items 0 l.layout.functions.items;
  room : RoomFrom l.layout.bases.items l.number (drop l.number l.layout.functions.items);
}
