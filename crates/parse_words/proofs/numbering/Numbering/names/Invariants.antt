use Rattle.std.proofs.Common.{◌≡◌, map, take}
use Rattle.parse_words.proofs.numbering.Numbering.names.Given as goal

abbrev pub invariant-loop-name : goal.invariant-loop-name
invariant-loop-name l = l.names.items ≡ map (λ key. key.now) (take l.name-index l.keys)
