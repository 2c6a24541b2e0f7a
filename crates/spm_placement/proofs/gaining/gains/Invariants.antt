use Rattle.std.proofs.Common.{◌≡◌, All, map, take}
use Rattle.rv_core.specs.Table.{table_of}
use Rattle.claims_definition.specs.Movables.{movable_of}
use Rattle.spm_placement.specs.Gains.{gained}
use Rattle.spm_placement.specs.Sets.{HasSmallGain}
use Rattle.spm_placement.proofs.gaining.gains.Given as goal

abbrev pub invariant-loop-item : goal.invariant-loop-item
invariant-loop-item l = record {
  values : l.gains.items ≡ map (λ i. gained (table_of l.costs) l.flow.parts (movable_of i)) (take l.item-index l.items);
  small : All HasSmallGain l.gains.items;
}
