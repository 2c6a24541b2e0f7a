use Rattle.std.proofs.Common.{◌≡◌, ℕ, ℤ, pos, ◌<ℤ◌, arith, unsigned_abs}
use Rattle.std.specs.Int.{IsGcd}
use Rattle.std.proofs.lemmas.Int.{ints}
use Rattle.frac128.specs.Frac.{IsSmall}
use Rattle.frac128.proofs.FracLemmas.{Divides, divides}
use Rattle.frac128.proofs.frac.Frac.reduced.Goals as goal

-- p and q are the absolute values, of which g is the greatest common divisor
divides_parts : (num den : ℤ) → record { positive : pos 0 <ℤ den; num_small : IsSmall num; den_small : IsSmall den } → (p q g : ℕ) → p ≡ unsigned_abs num → q ≡ unsigned_abs den → IsGcd p q g → Divides num den g
divides_parts num den parts p q g e f gcd = divides num den parts g (rw (← e, ← f) gcd)

division : (c : goal.After-gcd-divisor) → Divides c.args.num c.args.den c.gcd-divisor.result
division c = divides_parts c.args.num c.args.den c.requires c.unsigned_abs.result c.unsigned_abs-2.result _ (omega (arith, ints)) (omega (arith, ints)) c.gcd-divisor.ensures

pub overflow_cast-divisor : goal.overflow_cast-divisor
overflow_cast-divisor c = let small = (division c).small in omega (arith, ints)

pub nonzero_div-result : goal.nonzero_div-result
nonzero_div-result c = ((division c).positive, (division c).num_fits)

pub nonzero_div-result-2 : goal.nonzero_div-result-2
nonzero_div-result-2 c = ((division c).positive, (division c).den_fits)

pub invariant_of-result : goal.invariant_of-result
invariant_of-result c =
    let reduces = (division c).reduces in
    record { positive = reduces.positive; num_small = reduces.num_small; den_small = reduces.den_small; lowest = reduces.lowest }

pub returns : goal.returns
returns c = (divides_parts c.args.num c.args.den c.requires c.unsigned_abs.result c.unsigned_abs-2.result _ (omega (arith, ints)) (omega (arith, ints)) c.gcd-divisor.ensures).reduces.same
