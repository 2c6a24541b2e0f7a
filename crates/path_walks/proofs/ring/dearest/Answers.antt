use Rattle.std.proofs.Common.{rules, arith, FitsSigned, ◌≤◌, ◌∙◌, ◌-◌, sym, ap, ℤ, take, drop}
use Rattle.std.specs.Int.{w128}
use Rattle.std.proofs.lemmas.Int.{to_z-of_z}
use Rattle.path_walks.specs.Prices.{greatest}
use Rattle.path_walks.proofs.PriceLemmas.{dearest_is}
use Rattle.path_walks.proofs.ring.dearest.Goals as goal

pub returns : goal.returns
returns c =
    let f : FitsSigned w128 c.greatest.result = search rules in
    let n = c.place_of-first.result in
    let b = c.place_behind-end.result in
    let e = c.place_of-first.ensures.value in
    let g = c.place_behind-end.ensures.from in
    let le : n ≤ b = omega (arith, e, g) in
    to_z-of_z w128 c.greatest.result f
    ∙ (c.greatest.ensures ∙ (ap (λ (z : ℤ). greatest z (take (b - n) (drop n c.args.prices.now))) (to_z-of_z w128 c.args.low c.ranges.low)
    ∙ sym (dearest_is c.args.moves.now c.args.prices.now c.args.at c.args.low n b c.requires.ascending c.requires.prices le c.place_behind-end.ensures.bound c.place_of-first.ensures.point c.place_behind-end.ensures.point)))
