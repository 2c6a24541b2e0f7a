use Rattle.std.proofs.Common.{◌≡◌, ◌++◌, drop}
use Rattle.asm_forms.specs.Shorter.{items_longest}
use Rattle.asm_forms.proofs.shorter.longest_items.Given as goal

abbrev pub invariant-loop-item : goal.invariant-loop-item
invariant-loop-item l = l.new.items ++ items_longest (drop l.item-index l.items) ≡ items_longest l.items
