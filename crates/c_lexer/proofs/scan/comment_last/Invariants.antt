use Rattle.std.proofs.Common.{ℕ, ◌<◌, ◌≤◌}
use Rattle.c_lexer.specs.Comments.{EndsComment}
use Rattle.c_lexer.proofs.scan.comment_last.Given as goal

abbrev pub invariant-loop-last : goal.invariant-loop-last
invariant-loop-last l = (i : ℕ) → l.from ≤ i → i < l.last → EndsComment l.source i → ⊥
