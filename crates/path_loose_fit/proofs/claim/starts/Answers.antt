use Rattle.std.proofs.Common.{rules, ◌∙◌, sym, FitsSigned}
use Rattle.std.specs.Int.{w128}
use Rattle.std.proofs.lemmas.Int.{to_z-of_z}
use Rattle.path_loose_fit.proofs.ClaimLemmas.{starts_none, starts_one}
use Rattle.path_loose_fit.proofs.claim.starts.Goals as goal

pub returns-in-Some-clause-value : goal.returns-in-Some-clause-value
returns-in-Some-clause-value c =
    let e = starts_one c.args.loops.now c.args.turns.now c.args.at c.in-Some.place c.requires.rises c.requires.long c.in-Some.ensures in
    let f : FitsSigned w128 c.start.result = search rules in
    to_z-of_z w128 c.start.result f ∙ (c.start.ensures.value ∙ sym e)

pub returns-in-None-clause-value : goal.returns-in-None-clause-value
returns-in-None-clause-value c = sym (starts_none c.args.loops.now c.args.turns.now c.args.at c.in-None.ensures)
