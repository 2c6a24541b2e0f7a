use Rattle.std.proofs.Common.{◌∙◌, rules, pos, get_or, FitsSigned}
use Rattle.std.specs.Int.{w128}
use Rattle.std.proofs.lemmas.Int.{to_z-of_z}
use Rattle.dual_check.proofs.LookupLemmas.{fact_here, no_fact}
use Rattle.dual_check.proofs.multipliers.fact_multiplier.Goals as goal

pub returns-then-n-facts : goal.returns-then-n-facts
returns-then-n-facts c =
    let f : FitsSigned w128 (get_or c.args.facts.now c.args.n (pos 0)) = search rules in
    to_z-of_z w128 (get_or c.args.facts.now c.args.n (pos 0)) f ∙ fact_here c.args.facts.now c.args.n (pos 0) c.if-n-facts.true

pub returns : goal.returns
returns c = no_fact c.args.facts.now c.args.n c.if-n-facts.false
