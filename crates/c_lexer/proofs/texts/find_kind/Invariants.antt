use Rattle.std.proofs.Common.{◌≡◌, drop, map}
use Rattle.c_lexer.specs.Kinds.{find_kind}
use Rattle.c_lexer.proofs.texts.find_kind.Given as goal

abbrev pub invariant-loop-text : goal.invariant-loop-text
invariant-loop-text l = find_kind l.bytes (map (λ row. (row.0.now, row.1)) (drop l.text-index l.spellings)) ≡ find_kind l.bytes (map (λ row. (row.0.now, row.1)) l.spellings)
