use Rattle.std.proofs.Common.{rules, ◌∙◌, sym, FitsSigned}
use Rattle.std.specs.Int.{w128}
use Rattle.std.proofs.lemmas.Int.{to_z-of_z}
use Rattle.path_loose_fit.proofs.ClaimLemmas.{from_none, from_back, from_other}
use Rattle.path_loose_fit.proofs.claim.starts_from.Goals as goal

pub returns-then-loops-place-clause-value : goal.returns-then-loops-place-clause-value
returns-then-loops-place-clause-value c = sym (from_back c.args.loops.now c.args.turns.now c.args.at c.in-Some.place c.requires.rises c.requires.long c.in-Some.ensures c.args.from c.if-loops-place.true)

pub returns-else-loops-place-clause-value : goal.returns-else-loops-place-clause-value
returns-else-loops-place-clause-value c =
    let e = from_other c.args.loops.now c.args.turns.now c.args.at c.in-Some.place c.requires.rises c.requires.long c.in-Some.ensures c.args.from c.if-loops-place.false in
    let f : FitsSigned w128 c.start.result = search rules in
    to_z-of_z w128 c.start.result f ∙ (c.start.ensures.value ∙ sym e)

pub returns-in-None-clause-value : goal.returns-in-None-clause-value
returns-in-None-clause-value c = sym (from_none c.args.loops.now c.args.turns.now c.args.from c.args.at c.in-None.ensures)
