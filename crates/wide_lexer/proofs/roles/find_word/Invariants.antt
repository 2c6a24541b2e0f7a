use Rattle.std.proofs.Common.{◌≡◌, drop, map}
use Rattle.wide_tree.specs.Words.{find_word}
use Rattle.wide_lexer.proofs.roles.find_word.Given as goal

abbrev pub invariant-loop-text : goal.invariant-loop-text
invariant-loop-text l = find_word l.bytes (map (λ row. (row.0.now, row.1)) (drop l.text-index l.spellings)) ≡ find_word l.bytes (map (λ row. (row.0.now, row.1)) l.spellings)
