-- The value of a flow that reaches a bound is small.
use Rattle.std.proofs.Common.{◌≡◌, ℕ, ◌+◌, ◌-◌, ◌*◌, ◌/◌, ◌%◌, ◌^◌, ◌<◌, ◌≤◌, ℤ, pos, negsuc, ◌*ℤ◌, ◌<ℤ◌, ap, ◌∙◌, subst, ⊎_elim, arith}
use Rattle.std.proofs.Math.Nat.{mod-lt, mul-le-mul_left, mul-le-mul_right}
use Rattle.std.proofs.Math.IntN.{*ℤ_comm}
use Rattle.std.proofs.lemmas.Bool.{cases_lt}
use Rattle.std.proofs.lemmas.Int.{ints}
use Rattle.std.proofs.lemmas.Nat.{div-add-mod'}
use Rattle.frac128.proofs.SignedLemmas.{mul-lt, mul_at_least}
use Rattle.rv_core.specs.Table.{Table}
use Rattle.code_flow_system.specs.Certificates.{Accepts, FitsMark, IsGreatest, IsInForm, KeepsMark, listed, potential, whole_part}
use Rattle.code_flow_system.specs.Claims.{Claims}
use Rattle.code_flow_system.specs.Flows.{value}
use Rattle.code_flow_system.specs.Systems.{System}
use Rattle.code_flow_system.specs.declared.cert.Cert.{Cert}
use Rattle.code_flow_system.specs.declared.cert.Mark.TheVariants.{Greatest}
use Rattle.report_shares.specs.Shares.{spent}
use Rattle.report_shares.proofs.AddUpLemmas.{value_spent}

-- a quotient below 2^63 is of a number below 2^63 times the divisor
below : (p d q : ℕ) → 0 < d → q ≡ p / d → q < 2 ^ 63 → p ≤ 2 ^ 63 * d
below p d q some is lt =
    let parts : p / d * d + p % d ≡ p = div-add-mod' p d in
    let rest : p % d < d = mod-lt p some in
    let short : p / d ≤ 2 ^ 63 - 1 = omega (arith, is, lt) in
    let few : p / d * d ≤ (2 ^ 63 - 1) * d = mul-le-mul_right d short in
    omega (arith, parts, rest, few)

-- d times n is u times p
quotient : (d n u p q : ℕ) → 0 < d → u ≤ 2 ^ 48 → q ≡ p / d → q < 2 ^ 63 → d * n ≡ u * p → n < 2 ^ 120
quotient d n u p q some most is lt same = ⊎_elim (λ (small : n < 2 ^ 120). small) (λ (large : 2 ^ 120 ≤ n). absurd (over large)) (cases_lt n (2 ^ 120))
  where
    over : 2 ^ 120 ≤ n → ⊥
    over large =
        let up : d * 2 ^ 120 ≤ d * n = mul-le-mul_left d large in
        let down : u * p ≤ 2 ^ 48 * p = mul-le-mul_right p most in
        let few = below p d q some is lt in
        omega (arith, some, same, up, down, few)

-- the same of whole numbers, where the potential may be negative
bounded : (d n u q : ℕ) (v z : ℤ) → 0 < d → 0 < u → u ≤ 2 ^ 48 → q < 2 ^ 63 → q ≡ whole_part z d → pos n ≡ v → (pos d *ℤ v) ≡ (pos u *ℤ z) → v <ℤ pos (2 ^ 120)
bounded d n u q v (pos p) some positive most lt is same reached =
    let inside : (pos d *ℤ pos n) ≡ (pos u *ℤ pos p) = ap (λ x. pos d *ℤ x) same ∙ reached in
    let small = quotient d n u p q some most is lt (naturals d n u p inside) in
    omega (arith, ints, small, same)
  where
    naturals : (a b c e : ℕ) → (pos a *ℤ pos b) ≡ (pos c *ℤ pos e) → a * b ≡ c * e
    naturals a b c e h = omega (arith, ints, h)
bounded d n u q v (negsuc k) some positive most lt is same reached =
    let below_zero = mul-lt (negsuc k) (pos 0) (pos u) (omega (arith, ints, positive)) (omega (arith, ints)) in
    let turned = *ℤ_comm (pos u) (negsuc k) in
    let at_least = mul_at_least (pos d) v (omega (arith, ints)) (omega (arith, ints, same)) in
    absurd (omega (arith, ints, below_zero, turned, at_least, reached))

pub value_small : (t : Table) (s : System) (claims : Claims) (c : Cert) → IsInForm claims c → Accepts t s c → c.mark ≡ Greatest → value t s (listed c.flow.parts) <ℤ pos (2 ^ 120)
value_small t s claims c form accepted marked =
    let unit = subst (λ m. FitsMark m c.flow.unit c.flow.parts) marked form.unit in
    let greatest : IsGreatest t s c = subst (λ m. KeepsMark m t s c) marked accepted.mark in
    bounded c.scale (spent t s c.flow.parts s.moves) c.flow.unit c.cycles (value t s (listed c.flow.parts)) (potential c s.entry) form.scale.0 unit.0 unit.1 form.cycles accepted.value (value_spent t s c.flow.parts s.moves) greatest.reached
