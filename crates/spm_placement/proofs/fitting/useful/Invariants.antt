use Rattle.std.proofs.Common.{◌≡◌, ◌++◌, drop}
use Rattle.spm_placement.specs.Tops.{useful}
use Rattle.spm_placement.proofs.fitting.useful.Given as goal

abbrev pub invariant-loop-item : goal.invariant-loop-item
invariant-loop-item l = l.kept.items ++ useful l.words (drop l.item-index l.items) ≡ useful l.words l.items
