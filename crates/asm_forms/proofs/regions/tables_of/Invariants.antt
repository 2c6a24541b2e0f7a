use Rattle.std.proofs.Common.{◌≡◌, ◌++◌, drop}
use Rattle.asm_forms.specs.Regions.{tables_from, RoomFrom}
use Rattle.asm_forms.proofs.regions.tables_of.Given as goal

abbrev pub invariant-loop-number : goal.invariant-loop-number
invariant-loop-number l = record {
  tables : l.tables.items ++ tables_from l.bases l.number (drop l.number l.functions) ≡ tables_from l.bases 0 l.functions;
  room : RoomFrom l.bases l.number (drop l.number l.functions);
}
