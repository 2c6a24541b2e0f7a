use Rattle.std.proofs.Common.{◌∙◌, rules, pos, get_or, FitsSigned}
use Rattle.std.specs.Int.{w128}
use Rattle.std.proofs.lemmas.Int.{to_z-of_z}
use Rattle.dual_check.proofs.LookupLemmas.{never_here, never_later}
use Rattle.dual_check.proofs.multipliers.any_multiplier.Goals as goal

pub returns-then-n-nevers : goal.returns-then-n-nevers
returns-then-n-nevers c =
    let f : FitsSigned w128 (get_or c.args.nevers.now c.args.n (pos 0)) = search rules in
    to_z-of_z w128 (get_or c.args.nevers.now c.args.n (pos 0)) f ∙ never_here c.args.nevers.now c.args.loops.now c.args.facts.now c.args.n (pos 0) c.if-n-nevers.true

pub returns : goal.returns
returns c =
    let f : FitsSigned w128 c.later_multiplier.result = record { sfits = c.later_multiplier.type_inv } in
    to_z-of_z w128 c.later_multiplier.result f ∙ c.later_multiplier.ensures ∙ never_later c.args.nevers.now c.args.loops.now c.args.facts.now c.args.n c.if-n-nevers.false
