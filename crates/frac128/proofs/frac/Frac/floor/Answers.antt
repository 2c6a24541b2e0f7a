use Rattle.std.proofs.Common.{◌≡◌, subst, arith}
use mir.Val.{to_z, of_z}
use Rattle.std.specs.Int.{w128, int_div_euclid}
use Rattle.std.proofs.lemmas.Int.{to_z-of_z, ints}
use Rattle.frac128.specs.Frac.{IsFloor}
use Rattle.frac128.proofs.FracLemmas.{IsFloor-div_euclid}
use Rattle.frac128.proofs.frac.Frac.floor.Goals as goal

pub returns : goal.returns
returns c =
    let fraction = c.args.self.now in
    let num = to_z-of_z w128 fraction.num (omega (arith, ints, fraction.num_small)) in
    let den = to_z-of_z w128 fraction.den (omega (arith, ints, fraction.den_small)) in
    let quotient = to_z-of_z w128 c.div_euclid.result (record { sfits = c.div_euclid.type_inv }) in
    let same : int_div_euclid fraction.num fraction.den ≡ to_z w128 (of_z w128 c.div_euclid.result) = cc (num, den, quotient, c.div_euclid.ensures) in
    subst (IsFloor fraction.num fraction.den) same (IsFloor-div_euclid fraction.num fraction.den fraction.positive)
