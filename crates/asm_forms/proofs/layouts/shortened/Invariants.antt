use Rattle.std.proofs.Common.{◌≡◌, ◌++◌, drop}
use Rattle.asm_writing.specs.Targets.{starts_in}
use Rattle.asm_forms.specs.Regions.{RoomFrom}
use Rattle.asm_forms.specs.Shorter.{functions_shorter}
use Rattle.asm_forms.proofs.layouts.shortened.Given as goal

abbrev pub invariant-loop-number : goal.invariant-loop-number
invariant-loop-number l = record {
  new : l.functions.items ++ functions_shorter (starts_in l.layout.starts.items) l.layout.bases.items l.number (drop l.number l.layout.functions.items) ≡ functions_shorter (starts_in l.layout.starts.items) l.layout.bases.items 0 l.layout.functions.items;
  room : RoomFrom l.layout.bases.items l.number (drop l.number l.layout.functions.items);
}
