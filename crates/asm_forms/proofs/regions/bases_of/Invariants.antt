use Rattle.std.proofs.Common.{◌≡◌, ◌+◌, ◌++◌, ◌^◌, ◌<◌, drop}
use Rattle.asm_forms.specs.Regions.{bases_from, functions_size}
use Rattle.asm_forms.proofs.regions.bases_of.Given as goal

abbrev pub invariant-loop-number : goal.invariant-loop-number
invariant-loop-number l = record {
  bases : l.bases.items ++ bases_from l.regions.placed.now l.number l.flash l.scratchpad (drop l.number l.functions) ≡ bases_from l.regions.placed.now 0 l.regions.flash l.regions.scratchpad l.functions;
  flash : l.flash + functions_size (drop l.number l.functions) < 2 ^ 30;
  scratchpad : l.scratchpad + functions_size (drop l.number l.functions) < 2 ^ 30;
}
