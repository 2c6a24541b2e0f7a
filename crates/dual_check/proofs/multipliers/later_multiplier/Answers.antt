use Rattle.std.proofs.Common.{◌∙◌, ◌/◌, rules, pos, get_or, FitsSigned}
use Rattle.std.specs.Int.{w128}
use Rattle.std.proofs.lemmas.Int.{to_z-of_z}
use Rattle.dual_check.proofs.LookupLemmas.{even_here, odd_here, fact_later}
use Rattle.dual_check.proofs.multipliers.later_multiplier.Goals as goal

pub returns-then-n-eq0 : goal.returns-then-n-eq0
returns-then-n-eq0 c =
    let f : FitsSigned w128 (get_or c.args.loops.now (c.args.n / 2) (pos 0, pos 0)).0 = search rules in
    to_z-of_z w128 (get_or c.args.loops.now (c.args.n / 2) (pos 0, pos 0)).0 f ∙ even_here c.args.loops.now c.args.facts.now c.args.n (pos 0, pos 0) c.if-n-loops.true c.if-n-eq0.true

pub returns-then-n-loops : goal.returns-then-n-loops
returns-then-n-loops c =
    let f : FitsSigned w128 (get_or c.args.loops.now (c.args.n / 2) (pos 0, pos 0)).1 = search rules in
    to_z-of_z w128 (get_or c.args.loops.now (c.args.n / 2) (pos 0, pos 0)).1 f ∙ odd_here c.args.loops.now c.args.facts.now c.args.n (pos 0, pos 0) c.if-n-loops.true c.if-n-eq0.false

pub returns : goal.returns
returns c =
    let f : FitsSigned w128 c.fact_multiplier.result = record { sfits = c.fact_multiplier.type_inv } in
    to_z-of_z w128 c.fact_multiplier.result f ∙ c.fact_multiplier.ensures ∙ fact_later c.args.loops.now c.args.facts.now c.args.n c.if-n-loops.false
