use Rattle.std.proofs.Common.{◌≡◌, ◌∙◌, ap, sym, ◌*◌, arith}
use Rattle.facts_definitions.specs.Most.{cut}
use Rattle.facts_most.proofs.Cut.{cut-mul}
use Rattle.facts_most.proofs.executed.for_most.Goals as goal

pub returns : goal.returns
returns c s t e f =
    let n = c.args.times in
    let turn : cut (n * c.args.turn) ≡ cut (n * t) = ap (λ x. cut (n * x)) f ∙ ap (λ m. cut (m * cut t)) (sym c.requires) ∙ cut-mul n t in
    omega arith
