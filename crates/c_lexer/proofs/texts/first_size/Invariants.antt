use Rattle.std.proofs.Common.{◌≡◌, drop, map}
use Rattle.c_lexer.specs.Forms.{first_size}
use Rattle.c_lexer.proofs.texts.first_size.Given as goal

abbrev pub invariant-loop-text : goal.invariant-loop-text
invariant-loop-text l = first_size l.bytes (map (λ text. text.now) (drop l.text-index l.texts)) ≡ first_size l.bytes (map (λ text. text.now) l.texts)
