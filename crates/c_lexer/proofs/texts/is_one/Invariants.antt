use Rattle.std.proofs.Common.{◌≡◌, drop, map}
use Rattle.c_lexer.specs.Kinds.{is_one}
use Rattle.c_lexer.proofs.texts.is_one.Given as goal

abbrev pub invariant-loop-text : goal.invariant-loop-text
invariant-loop-text l = is_one l.bytes (map (λ text. text.now) (drop l.text-index l.texts)) ≡ is_one l.bytes (map (λ text. text.now) l.texts)
