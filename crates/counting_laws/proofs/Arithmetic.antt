-- How often a test holds of an object that counts.
use Rattle.std.proofs.Common.{◌≡◌, ◌⊎◌, ⊎_elim, refl, sym, ap, ◌∙◌, subst, ℕ, zero, suc, ◌+◌, ◌-◌, ◌*◌, ◌/◌, ◌%◌, ◌^◌, ◌<◌, ◌≤◌, ℤ, pos, negsuc, ◌+ℤ◌, ◌-ℤ◌, ◌≤ℤ◌, ◌<ℤ◌, Bool, true, false, arith, Result, Ok, Err}
use Rattle.std.specs.Prelude.{◌&&◌, int_le, int_lt, nat_lt, if◌then◌else◌}
use Rattle.std.proofs.lemmas.Bool.{and_parts, cases_lt, false≢true, ltb-false, ltb-true, not-false}
use Rattle.std.proofs.lemmas.Int.{ints}
use Rattle.std.proofs.lemmas.Nat.{div-add-mod', div-mul-add, mod_below}
use Rattle.types_value.specs.Operators.{computed, given, overflows, when, word_of}
use Rattle.types_value.specs.declared.kind.Kind.TheVariants.{Int}
use Rattle.types_value.specs.declared.operator.Operator.{Operator}
use Rattle.types_value.specs.declared.operator.Operator.TheVariants.{Less, Greater, LessEqual, GreaterEqual}
use Rattle.types_value.specs.declared.operator.Undefined.{Undefined as Cause}
use Rattle.types_value.specs.declared.operator.Undefined.TheVariants.{Overflow}
use Rattle.wcc_base.specs.Words.{difference_word, equal_word, signed_word, sum_word, truth_word}
use Rattle.facts_loops.specs.Counting.{distance, is_limit, is_strict, is_up, turns, turns_over}
use Rattle.facts_loops.specs.declared.form.Limit.{Limit}
use Rattle.counting_laws.proofs.Counted.{moves, tested_word}
use Rattle.plan_law.proofs.DerivedForms.{Positive}

-- quotients, a divisor further
divisor_more : (d s q r : ℕ) → s ≤ d → q * s + r ≡ d - s → d ≡ (q + 1) * s + r
divisor_more d s q r le parts =
    let more : (q + 1) * s ≡ q * s + s = omega arith in
    omega (arith, le, parts, more)

above_none : (s : ℕ) → 1 ≤ s → 0 < s
above_none s some = omega (arith, some)

quotient_step : (d s : ℕ) → 1 ≤ s → s ≤ d → d / s ≡ (d - s) / s + 1
quotient_step d s some le =
    let q = (d - s) / s in
    let r = (d - s) % s in
    ap (λ n. n / s) (divisor_more d s q r le (div-add-mod' (d - s) s)) ∙ div-mul-add (q + 1) s r (mod_below (d - s) s (above_none s some))

none_of : (d s : ℕ) → d ≡ 0 * s + d
none_of d s = omega arith

quotient_small : (d s : ℕ) → d < s → d / s ≡ 0
quotient_small d s lt = ap (λ n. n / s) (none_of d s) ∙ div-mul-add 0 s d lt

never_none : (q : ℕ) → q + 1 ≡ 0 → ⊥
never_none q e = omega (arith, e)

never_more : (n : ℕ) → 0 ≡ suc n → ⊥
never_more n e = omega (arith, e)

one_less : (n : ℕ) → suc n - 1 ≡ n
one_less n = omega arith

one_back : (n : ℕ) → n + 1 - 1 ≡ n
one_back n = omega arith

-- where a limit lies, and no more turns are left, or some are
abbrev pub Fails : (strict : Bool) → ℤ → Type 0
Fails true z = z ≤ℤ pos 0
Fails false z = z <ℤ pos 0

abbrev pub Goes : (strict : Bool) → ℤ → Type 0
Goes true z = pos 0 <ℤ z
Goes false z = pos 0 ≤ℤ z

none_left : (strict : Bool) (z : ℤ) (s : ℕ) → 1 ≤ s → turns_over strict z s ≡ 0 → Fails strict z
none_left true (pos zero) s some e = omega (arith, ints)
none_left true (pos (suc d)) s some e = absurd (never_none ((suc d + (s - 1) - s) / s) (sym (quotient_step (suc d + (s - 1)) s some (omega (arith, some))) ∙ e))
none_left true (negsuc d) s some e = omega (arith, ints)
none_left false (pos d) s some e = absurd (never_none (d / s) e)
none_left false (negsuc d) s some e = omega (arith, ints)

-- a step nearer to the limit
nearer : (strict : Bool) (z : ℤ) (s : ℕ) → 1 ≤ s → (d : ℕ) → z ≡ pos d → (s ≤ d → turns_over strict (pos (d - s)) s ≡ turns_over strict (pos d) s - 1) → (d < s → turns_over strict (pos d) s ≡ 1) → turns_over strict (z -ℤ pos s) s ≡ turns_over strict z s - 1
nearer strict z s some d is far near = ⊎_elim
    (λ (lt : d < s).
    let passed : z -ℤ pos s ≡ negsuc (s - d - 1) = ap (λ y. y -ℤ pos s) is ∙ omega (arith, ints, lt) in
    let last = near lt in
    ap (λ y. turns_over strict y s) passed ∙ (over strict (s - d - 1) ∙ sym (ap (λ y. turns_over strict y s - 1) is ∙ ap (λ n. n - 1) last)))
    (λ (le : s ≤ d).
    let before : z -ℤ pos s ≡ pos (d - s) = ap (λ y. y -ℤ pos s) is ∙ omega (arith, ints, le) in
    ap (λ y. turns_over strict y s) before ∙ (far le ∙ sym (ap (λ y. turns_over strict y s - 1) is)))
    (cases_lt d s)
  where
    over : (strict : Bool) (n : ℕ) → turns_over strict (negsuc n) s ≡ 0
    over true n = refl
    over false n = refl

some_left : (strict : Bool) (z : ℤ) (s n : ℕ) → 1 ≤ s → turns_over strict z s ≡ suc n → Goes strict z × (turns_over strict (z -ℤ pos s) s ≡ n)
some_left true (pos zero) s n some e = absurd (never_more n (sym (quotient_small (0 + (s - 1)) s (omega (arith, some))) ∙ e))
some_left true (pos (suc d)) s n some e =
    let less : suc d + (s - 1) - s ≡ d = omega (arith, some) in
    let this : (suc d + (s - 1)) / s ≡ d / s + 1 = quotient_step (suc d + (s - 1)) s some (omega (arith, some)) ∙ ap (λ m. m / s + 1) less in (
      omega (arith, ints),
      nearer true (pos (suc d)) s some (suc d) refl
          (λ le. let here : suc d - s + (s - 1) ≡ d = omega (arith, some, le) in ap (λ m. m / s) here ∙ sym (ap (λ m. m - 1) this ∙ one_back (d / s)))
          (λ lt. this ∙ ap (λ m. m + 1) (quotient_small d s (omega (arith, lt))))
          ∙ (ap (λ m. m - 1) e ∙ one_less n),
    )
some_left true (negsuc d) s n some e = absurd (never_more n e)
some_left false (pos d) s n some e = (
  omega (arith, ints),
  nearer false (pos d) s some d refl (λ le. sym (quotient_step d s some le) ∙ sym (one_back (d / s))) (λ lt. ap (λ m. m + 1) (quotient_small d s lt)) ∙ (ap (λ m. m - 1) e ∙ one_less n),
)
some_left false (negsuc d) s n some e = absurd (never_more n e)

-- tests of numbers with a sign
below_is : (a b : ℤ) → a <ℤ b → int_lt a b ≡ true
below_is a b h = grind (arith, ints)

above_is : (a b : ℤ) → b ≤ℤ a → int_lt a b ≡ false
above_is a b h = grind (arith, ints)

lt_true : (a b : ℤ) → pos 0 <ℤ (b -ℤ a) → int_lt a b ≡ true
lt_true a b h = below_is a b (omega (arith, ints, h))

lt_false : (a b : ℤ) → (b -ℤ a) ≤ℤ pos 0 → int_lt a b ≡ false
lt_false a b h = above_is a b (omega (arith, ints, h))

turned_lt : (a b : ℤ) → (b -ℤ a) <ℤ pos 0 → pos 0 <ℤ (a -ℤ b)
turned_lt a b h = omega (arith, ints, h)

turned_le : (a b : ℤ) → pos 0 ≤ℤ (b -ℤ a) → (a -ℤ b) ≤ℤ pos 0
turned_le a b h = omega (arith, ints, h)

none_at_zero : equal_word 1 0 ≡ 0
none_at_zero = refl

one_at_zero : equal_word 0 0 ≡ 1
one_at_zero = refl

tested_none : (operator : Operator) (v w : ℕ) → is_limit operator ≡ true → Fails (is_strict operator) (distance (is_up operator) v w) → word_of operator true v w ≡ 0
tested_none Less v w l h = ap truth_word (lt_false (signed_word v) (signed_word w) h)
tested_none Greater v w l h = ap truth_word (lt_false (signed_word w) (signed_word v) h)
tested_none LessEqual v w l h = ap (λ b. equal_word (truth_word b) 0) (lt_true (signed_word w) (signed_word v) (turned_lt (signed_word v) (signed_word w) h)) ∙ none_at_zero
tested_none GreaterEqual v w l h = ap (λ b. equal_word (truth_word b) 0) (lt_true (signed_word v) (signed_word w) (turned_lt (signed_word w) (signed_word v) h)) ∙ none_at_zero
tested_none other v w l h = absurd (false≢true l)

tested_one : (operator : Operator) (v w : ℕ) → is_limit operator ≡ true → Goes (is_strict operator) (distance (is_up operator) v w) → word_of operator true v w ≡ 1
tested_one Less v w l h = ap truth_word (lt_true (signed_word v) (signed_word w) h)
tested_one Greater v w l h = ap truth_word (lt_true (signed_word w) (signed_word v) h)
tested_one LessEqual v w l h = ap (λ b. equal_word (truth_word b) 0) (lt_false (signed_word w) (signed_word v) (turned_le (signed_word v) (signed_word w) h)) ∙ one_at_zero
tested_one GreaterEqual v w l h = ap (λ b. equal_word (truth_word b) 0) (lt_false (signed_word v) (signed_word w) (turned_le (signed_word w) (signed_word v) h)) ∙ one_at_zero
tested_one other v w l h = absurd (false≢true l)

-- a sum or a difference that is one
abbrev fine : ℕ → Result ℕ Cause
fine w = Ok w

abbrev failed : Cause → Result ℕ Cause
failed cause = Err cause

not_fine : (cause : Cause) (r : ℕ) → failed cause ≡ fine r → ⊥
not_fine cause r e = cc e

same_fine : (w r : ℕ) → fine w ≡ fine r → w ≡ r
same_fine w r e = cc e

given_fine : (b : Bool) (w r : ℕ) → given (when b Overflow) w ≡ fine r → (b ≡ false) × (w ≡ r)
given_fine true w r e = absurd (not_fine Overflow r e)
given_fine false w r e = (refl, same_fine w r e)

le_is : (a b : ℤ) → int_le a b ≡ true → a ≤ℤ b
le_is a b e = grind (arith, ints)

-- a number of 32 bits with a sign
pub record InRange (z : ℤ) : Type 0 where
  pub least : negsuc 2147483647 ≤ℤ z
  pub most : z ≤ℤ pos 2147483647

in_range : (z : ℤ) → overflows z ≡ false → InRange z
in_range z h =
    let a = and_parts (int_le (negsuc 2147483647) z) (int_le z (pos 2147483647)) (not-false (int_le (negsuc 2147483647) z && int_le z (pos 2147483647)) h) in
    record { least = le_is (negsuc 2147483647) z a.0; most = le_is z (pos 2147483647) a.1 }

-- the number of a word
abbrev by_test : Bool → ℕ → ℤ
by_test b w = if b then pos w else negsuc (4294967295 - w)

-- a word by its number
signed_is : (w : ℕ) (z : ℤ) → w < 2 ^ 32 → ((w < 2147483648 → pos w ≡ z)) → ((2147483648 ≤ w → negsuc (4294967295 - w) ≡ z)) → signed_word w ≡ z
signed_is w z lt low high = of (nat_lt w 2147483648) refl
  where
    of : (b : Bool) → nat_lt w 2147483648 ≡ b → by_test b w ≡ z
    of true e = low (ltb-true w 2147483648 e)
    of false e = high (ltb-false w 2147483648 e)

-- what is known of the number of a word
pub record Signed (w : ℕ) (z : ℤ) : Type 0 where
  pub low : w < 2147483648 → z ≡ pos w
  pub high : 2147483648 ≤ w → z ≡ negsuc (4294967295 - w)

signed_says : (w : ℕ) → Signed w (signed_word w)
signed_says w = of (nat_lt w 2147483648) refl
  where
    both : (a b : ℕ) → a < b → b ≤ a → ⊥
    both a b lt le = omega (arith, lt, le)

    of : (b : Bool) → nat_lt w 2147483648 ≡ b → Signed w (by_test b w)
    of true e = record { low = λ lt. refl; high = λ le. absurd (both w 2147483648 (ltb-true w 2147483648 e) le) }
    of false e = record { low = λ lt. absurd (both w 2147483648 lt (ltb-false w 2147483648 e)); high = λ le. refl }

signed_small : (s : ℕ) → s < 2 ^ 31 → signed_word s ≡ pos s
signed_small s lt = (signed_says s).low lt

sum_signed : (x s : ℕ) (z : ℤ) → Signed x z → x < 2 ^ 32 → s < 2 ^ 31 → InRange (z +ℤ pos s) → signed_word (sum_word x s) ≡ z +ℤ pos s
sum_signed x s z says lt small range = ⊎_elim
    (λ (low : x < 2147483648).
    let is = says.low low in
    let most = range.most in
    signed_is (sum_word x s) (z +ℤ pos s) (omega arith) (λ l. omega (arith, ints, is, most, low, small, l)) (λ h. absurd (omega (arith, ints, is, most, low, small, h))))
    (λ (high : 2147483648 ≤ x).
    let is = says.high high in
    signed_is (sum_word x s) (z +ℤ pos s) (omega arith) (λ l. omega (arith, ints, is, high, lt, small, l)) (λ h. omega (arith, ints, is, high, lt, small, h)))
    (cases_lt x 2147483648)

difference_signed : (x s : ℕ) (z : ℤ) → Signed x z → x < 2 ^ 32 → 1 ≤ s → s < 2 ^ 31 → InRange (z -ℤ pos s) → signed_word (difference_word x s) ≡ z -ℤ pos s
difference_signed x s z says lt some small range = ⊎_elim
    (λ (low : x < 2147483648).
    let is = says.low low in
    signed_is (difference_word x s) (z -ℤ pos s) (omega arith) (λ l. omega (arith, ints, is, low, some, small, l)) (λ h. omega (arith, ints, is, low, some, small, h)))
    (λ (high : 2147483648 ≤ x).
    let is = says.high high in
    let least = range.least in
    signed_is (difference_word x s) (z -ℤ pos s) (omega arith) (λ l. absurd (omega (arith, ints, is, least, high, lt, some, small, l))) (λ h. omega (arith, ints, is, least, high, lt, some, small, h)))
    (cases_lt x 2147483648)

abbrev moved : (up : Bool) → ℤ → ℕ → ℤ
moved true z s = z +ℤ pos s
moved false z s = z -ℤ pos s

-- the object's number behind a step
pub record Next (up : Bool) (x s r : ℕ) : Type 0 where
  pub number_is : signed_word r ≡ moved up (signed_word x) s
  pub fits : r < 2 ^ 32

next : (up : Bool) (x s r : ℕ) → x < 2 ^ 32 → Positive s → computed (moves up) Int x s ≡ Ok r → Next up x s r
unfolding computed
next true x s r lt p e =
    let a = given_fine (overflows (signed_word x +ℤ signed_word s)) (sum_word x s) r e in
    let small = signed_small s p.small in
    let range : InRange (signed_word x +ℤ pos s) = subst (λ z. InRange (signed_word x +ℤ z)) small (in_range (signed_word x +ℤ signed_word s) a.0) in
    record {
      number_is = ap signed_word (sym a.1) ∙ sum_signed x s (signed_word x) (signed_says x) lt p.small range;
      fits = subst (λ n. n < 2 ^ 32) a.1 (omega arith);
    }
next false x s r lt p e =
    let a = given_fine (overflows (signed_word x -ℤ signed_word s)) (difference_word x s) r e in
    let small = signed_small s p.small in
    let range : InRange (signed_word x -ℤ pos s) = subst (λ z. InRange (signed_word x -ℤ z)) small (in_range (signed_word x -ℤ signed_word s) a.0) in
    record {
      number_is = ap signed_word (sym a.1) ∙ difference_signed x s (signed_word x) (signed_says x) lt p.some p.small range;
      fits = subst (λ n. n < 2 ^ 32) a.1 (omega arith);
    }

-- a step comes nearer to the limit
up_nearer : (l z : ℤ) (s : ℕ) → l -ℤ (z +ℤ pos s) ≡ (l -ℤ z) -ℤ pos s
up_nearer l z s = omega (arith, ints)

down_nearer : (l z : ℤ) (s : ℕ) → (z -ℤ pos s) -ℤ l ≡ (z -ℤ l) -ℤ pos s
down_nearer l z s = omega (arith, ints)

distance_next : (up : Bool) (x s r w : ℕ) → Next up x s r → distance up r w ≡ distance up x w -ℤ pos s
distance_next true x s r w h = ap (λ z. signed_word w -ℤ z) h.number_is ∙ up_nearer (signed_word w) (signed_word x) s
distance_next false x s r w h = ap (λ z. z -ℤ signed_word w) h.number_is ∙ down_nearer (signed_word w) (signed_word x) s

-- the test holds so often from a word on, and then fails
abbrev pub Ahead : (limit : Limit) (by : ℕ) → ℕ → ℕ → Type 0
Ahead limit by zero v = tested_word limit v ≡ 0
Ahead limit by (suc n) v = (tested_word limit v ≡ 1) × ((r : ℕ) → computed (moves (is_up limit.operator)) Int v by ≡ Ok r → Ahead limit by n r)

pub ahead : (limit : Limit) (by : ℕ) → is_limit limit.operator ≡ true → Positive by → (n v : ℕ) → v < 2 ^ 32 → turns v limit by ≡ n → Ahead limit by n v
ahead limit by one p zero v lt e =
    tested_none limit.operator v limit.word one (none_left (is_strict limit.operator) (distance (is_up limit.operator) v limit.word) by p.some e)
ahead limit by one p (suc n) v lt e =
    let strict = is_strict limit.operator in
    let up = is_up limit.operator in
    let s = some_left strict (distance up v limit.word) by n p.some e in (
      tested_one limit.operator v limit.word one s.0,
      λ r is.
          let m = next up v by r lt p is in
          ahead limit by one p n r m.fits (ap (λ z. turns_over strict z by) (distance_next up v by r limit.word m) ∙ s.1),
    )
