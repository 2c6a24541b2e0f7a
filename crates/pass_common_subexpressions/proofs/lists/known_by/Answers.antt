use Rattle.pass_common_subexpressions.proofs.lists.known_by.Goals as goal

pub returns : goal.returns
returns c = c.learn.ensures (λ f knows. absurd (c.in_ok-known.ensures f knows))
