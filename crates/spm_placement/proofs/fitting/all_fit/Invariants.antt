use Rattle.std.proofs.Common.{◌≡◌, ◌+◌, drop}
use Rattle.spm_placement.specs.Tops.{all_words}
use Rattle.spm_placement.proofs.fitting.all_fit.Given as goal

abbrev pub invariant-loop-item : goal.invariant-loop-item
invariant-loop-item l = all_words l.items + l.left ≡ l.words + all_words (drop l.item-index l.items)
