-- How long the lines of restrictions and columns are.
use Rattle.std.proofs.Common.{◌≡◌, ℕ, suc, ◌+◌, ◌*◌, ◌<◌, ◌≤◌, ℤ, pos, negsuc, ◌≤ℤ◌, ◌<ℤ◌, List, [], ◌∷◌, length, arith, All}
use Rattle.std.specs.Fmt.{signed_decimal}
use Rattle.std.proofs.Math.Nat.{mul-le-mul_right}
use Rattle.std.proofs.lemmas.Fmt.{length-decimal-le}
use Rattle.std.proofs.lemmas.Int.{ints}
use Rattle.std.proofs.lemmas.List.Elements.{All-head, All-tail}
use Rattle.frac128.specs.Terms.{Terms}
use Rattle.code_flow_system.specs.declared.claims.FactClaim.{FactClaim}
use Rattle.facts_definitions.specs.declared.facts.Facts.{Facts}
use Rattle.code_flow_answer.specs.declared.bounded.Column.{Column}
use Rattle.report_laws.specs.Room.{columns_room, facts_room, terms_room}
use Rattle.report_text.specs.Forms.{IsColumn, IsFact, IsTerm}
use Rattle.report_text.specs.declared.entries.CopyLine.{CopyLine}
use Rattle.compile_restrictions.specs.Laws.{AreFactClaims, AreLow}
use Rattle.compile_restrictions.specs.Told.{places_many}

-- a number has at most eight digits
number_length : (z : ℤ) → pos 0 <ℤ z → z ≤ℤ pos 64000000 → length (signed_decimal z) ≤ 8
number_length (pos n) some low = let few : n ≤ 64000000 = omega (arith, ints, low) in length-decimal-le 8 n (omega arith) (omega (arith, few)) (omega (arith, few))
number_length (negsuc n) some low = absurd (omega (arith, ints, some))

terms_few : (ts : Terms) → All IsTerm ts → AreLow ts → terms_room ts ≤ 20 * length ts
terms_few [] are low = omega arith
terms_few (t ∷ ts) are low =
    let one = number_length t.1 (All-head IsTerm t ts are).0 (All-head (λ u. u.1 ≤ℤ pos 64000000) t ts low) in
    let rest = terms_few ts (All-tail IsTerm t ts are) (All-tail (λ u. u.1 ≤ℤ pos 64000000) t ts low) in
    omega (arith, one, rest)

abbrev AreBothLow : FactClaim → Type 0
AreBothLow c = AreLow c.left × AreLow c.right

module _ (most : ℕ) where
  abbrev AreShort : FactClaim → Type 0
  AreShort c = (length c.left ≤ most) × (length c.right ≤ most)

  each_few : (cs : List FactClaim) → All IsFact cs → All AreBothLow cs → All AreShort cs → facts_room cs ≤ length cs * (51 + 40 * most)
  each_few [] form low short = omega arith
  each_few (c ∷ cs) form low short =
      let own = All-head IsFact c cs form in
      let both = All-head AreBothLow c cs low in
      let sides = All-head AreShort c cs short in
      let left = terms_few c.left own.left both.0 in
      let right = terms_few c.right own.right both.1 in
      let fewer = sides.0 in
      let few = sides.1 in
      let rest = each_few cs (All-tail IsFact c cs form) (All-tail AreBothLow c cs low) (All-tail AreShort c cs short) in
      let all : length (c ∷ cs) * (51 + 40 * most) ≡ length cs * (51 + 40 * most) + (51 + 40 * most) = suc_times (length cs) (51 + 40 * most) in
      omega (arith, left, right, fewer, few, rest, all)
    where
      suc_times : (n m : ℕ) → suc n * m ≡ n * m + m
      suc_times n m = omega arith

pub facts_few : (facts : Facts) (lines : List CopyLine) (cs : List FactClaim) → length facts.restrictions ≤ 32 → AreFactClaims facts lines cs → facts_room cs ≤ 1632 + 1280 * places_many lines
facts_few facts lines cs few are =
    let each = each_few (places_many lines) cs are.form are.low are.short in
    let count = are.count in
    let all : length cs * (51 + 40 * places_many lines) ≤ 32 * (51 + 40 * places_many lines) = mul-le-mul_right (51 + 40 * places_many lines) (omega (arith, few, count)) in
    omega (arith, each, all)

-- a column has a total for each restriction
pub columns_few : (count : ℕ) (cs : List Column) → count ≤ 32 → All (IsColumn count) cs → columns_room cs ≤ 1294 * length cs
columns_few count [] few are = omega arith
columns_few count (c ∷ cs) few are =
    let totals = (All-head (IsColumn count) c cs are).count in
    let rest = columns_few count cs few (All-tail (IsColumn count) c cs are) in
    omega (arith, totals, few, rest)
