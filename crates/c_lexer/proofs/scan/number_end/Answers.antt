use Rattle.std.proofs.Common.{rules, below_more, ◌≤◌}
use Rattle.c_lexer.specs.Forms.{GoesOn}
use Rattle.c_lexer.proofs.scan.number_end.Goals as goal

pub loop-end-preserved : goal.loop-end-preserved
loop-end-preserved c =
    let here : GoesOn c.args.source.now c.loop-end.end = search rules in
    λ i after before. below_more (λ k. c.args.from ≤ k → GoesOn c.args.source.now k) c.loop-end.end (λ k lt le. c.loop-end.invariant k le lt) (λ _. here) i before after
