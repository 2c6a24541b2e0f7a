use Rattle.std.proofs.Common.{drop}
use Rattle.path_places.specs.Places.{is_walked, steps_of}
use Rattle.path_places.specs.PlaceLaws.{function_steps}
use Rattle.path_walks.specs.Prices.{price_in}
use Rattle.path_walks.proofs.ListLemmas.{Adds}
use Rattle.path_walks.proofs.step.steps.Given as goal

abbrev pub invariant-loop-i : goal.invariant-loop-i
invariant-loop-i l =
    let s = l.priced.system.now in
    let price = price_in s.moves l.priced.prices.now in
    Adds l.steps.items (steps_of price s.moves l.worths (is_walked s.claims l.priced.shapes.now l.fn.span) (drop l.i s.moves)) (function_steps s l.priced.shapes.now price l.worths l.fn.span)
