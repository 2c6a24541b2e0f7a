use Rattle.std.proofs.Common.{◌≡◌, ◌++◌, drop, map}
use Rattle.rv_core.specs.Table.{table_of}
use Rattle.path_cert.specs.Priced.{fact_price}
use Rattle.path_fact_walks.proofs.pricing.prices.Given as goal

abbrev pub invariant-loop-i : goal.invariant-loop-i
invariant-loop-i l =
    let f = fact_price (table_of l.multiplied.costs.now) l.multiplied.system.now l.multiplied.scale l.multiplied.facts.now in
    l.prices.items ++ map f (drop l.i l.multiplied.system.now.moves) ≡ map f l.multiplied.system.now.moves
