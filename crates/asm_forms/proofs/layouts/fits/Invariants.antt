use Rattle.std.proofs.Common.{◌≡◌, drop}
use Rattle.asm_writing.specs.Targets.{starts_in}
use Rattle.asm_forms.specs.Layouts.{functions_fit}
use Rattle.asm_forms.specs.Regions.{RoomFrom}
use Rattle.asm_forms.specs.Sound.{FunctionsSound}
use Rattle.asm_forms.proofs.layouts.fits.Given as goal

abbrev pub invariant-loop-number : goal.invariant-loop-number
invariant-loop-number l = record {
  rows : functions_fit (starts_in l.layout.starts.items) l.layout.bases.items l.number (drop l.number l.layout.functions.items) ≡ functions_fit (starts_in l.layout.starts.items) l.layout.bases.items 0 l.layout.functions.items;
  room : RoomFrom l.layout.bases.items l.number (drop l.number l.layout.functions.items);
  sound : FunctionsSound (drop l.number l.layout.functions.items);
}
