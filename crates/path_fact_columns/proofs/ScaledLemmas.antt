-- A round's multipliers without their common divisor: positive scale, and the facts' signs.
use Rattle.std.proofs.Common.{◌≡◌, ℕ, suc, ◌+◌, ◌<◌, ℤ, pos, neg_ℤ, ◌*ℤ◌, ◌-ℤ◌, ◌≤ℤ◌, arith, refl, ap, ◌∙◌, subst, List, [], ◌∷◌, ◌++◌, length, All, Bool, true, false, unsigned_abs}
use Rattle.std.specs.Prelude.{◌&&◌}
use lib.IntN.{negsuc, *ℤ_comm, *ℤ-zero}
use Rattle.std.proofs.lemmas.Int.{ints}
use Rattle.std.proofs.lemmas.List.Elements.{All-cons, All-nil, All-head, All-tail}
use Rattle.frac128.specs.Terms.{applied}
use Rattle.frac128.proofs.SignedLemmas.{mul-neg, mul_at_most}
use Rattle.wcc_base.specs.declared.compare.Compare.{Compare}
use Rattle.wcc_base.specs.declared.compare.Compare.TheVariants.{AtMost, AtLeast, Equal}
use Rattle.code_flow_system.specs.declared.claims.FactClaim.{FactClaim}
use Rattle.code_flow_system.specs.Counts.{Compares, KeepsFact}
use Rattle.code_flow_system.specs.Certificates.{negated, fact_limits, FitsSign, IsSigned}
use Rattle.simplex_tables.specs.Rows.{Row, entry, divisor, reduced}
use Rattle.simplex_tables.proofs.RowLemmas.{Times, reduced_times, reduced-long, times_entry, divisor_positive, factor_positive, sign_of}
use Rattle.simplex_rounds.specs.Multiplied.{sides_in, duals, head_of, tail_of}
use Rattle.simplex_laws.specs.RoundLaws.{HasSign, HaveSigns}
use Rattle.path_cert.specs.Priced.{fact_total}
use Rattle.path_fact_kinds.specs.Columns.{ops_of}

-- ---- the numbers of a row behind the first

times_behind : (g : ℕ) (a : ℤ) (as' k : Row) → Times g (a ∷ as') k → Times g as' (tail_of k)
times_behind g a as' [] h = absurd h
times_behind g a as' (b ∷ bs) h = h.1

-- a row of a positive number and others behind it, without a common divisor
pub record IsScaled (a : ℤ) (as' : Row) (scale : ℕ) (ys : Row) : Type 0 where
  pub factor : ℕ
  pub positive : 0 < factor
  pub head : a ≡ pos factor *ℤ pos scale
  pub tail : Times factor as' ys
  pub some : 0 < scale
  pub long : length ys ≡ length as'

whole_size : (z : ℤ) → pos 1 ≤ℤ z → (z ≡ pos (unsigned_abs z)) × (0 < unsigned_abs z)
whole_size (pos n) h = (refl, omega (arith, ints))
whole_size (negsuc n) h = absurd (omega (arith, ints))

pub scaled_is : (a : ℤ) (as' : Row) → pos 1 ≤ℤ a → IsScaled a as' (unsigned_abs (head_of (reduced (a ∷ as')))) (tail_of (reduced (a ∷ as')))
scaled_is a as' h =
    let t = reduced_times (a ∷ as') in
    let e = times_entry (divisor (a ∷ as')) (a ∷ as') (reduced (a ∷ as')) 0 t in
    let p = factor_positive (divisor (a ∷ as')) (entry (reduced (a ∷ as')) 0) (subst (λ (z : ℤ). pos 1 ≤ℤ z) e h) in
    let w = whole_size (head_of (reduced (a ∷ as'))) p in record {
      factor = divisor (a ∷ as');
      positive = divisor_positive (a ∷ as') 0 (not_zero a h);
      head = e ∙ ap (λ (z : ℤ). pos (divisor (a ∷ as')) *ℤ z) w.0;
      tail = times_behind (divisor (a ∷ as')) a as' (reduced (a ∷ as')) t;
      some = w.1;
      long = behind (reduced (a ∷ as')) (reduced-long (a ∷ as'));
    }
  where
    not_zero : (a : ℤ) → pos 1 ≤ℤ a → ¬ (a ≡ pos 0)
    not_zero a h e = absurd (omega (arith, ints))

    behind : (r : Row) → length r ≡ length (a ∷ as') → length (tail_of r) ≡ length as'
    behind [] e = absurd (omega (arith, e))
    behind (b ∷ bs) e = omega (arith, e)

pub duals-long : (i : ℕ) (fs : List FactClaim) (r : Row) → length (duals i (ops_of fs) r) ≡ length fs
duals-long i [] r = refl
duals-long i (f ∷ fs) r = ap suc (duals-long (i + sides_in f.op) fs r)

-- ---- signs

at_most_zero : (g : ℕ) (z : ℤ) → 0 < g → (pos g *ℤ z) ≤ℤ pos 0 → z ≤ℤ pos 0
at_most_zero g z h le = let e = mul-neg (pos g) z in let s = sign_of g (neg_ℤ z) h (omega (arith, ints)) in omega (arith, ints)

has_sign : (g : ℕ) (o : Compare) (d y : ℤ) → 0 < g → d ≡ pos g *ℤ y → HasSign o d → HasSign o y
has_sign g AtMost d y h e s = sign_of g y h (subst (λ (z : ℤ). pos 0 ≤ℤ z) e s)
has_sign g AtLeast d y h e s = at_most_zero g y h (subst (λ (z : ℤ). z ≤ℤ pos 0) e s)
has_sign g Equal d y h e s = tt

pub have_signs : (g : ℕ) (os : List Compare) (ds ys : Row) → 0 < g → Times g ds ys → HaveSigns os ds → HaveSigns os ys
have_signs g [] ds ys h t s = tt
have_signs g (o ∷ os) [] ys h t s = absurd s
have_signs g (o ∷ os) (d ∷ ds) [] h t s = absurd t
have_signs g (o ∷ os) (d ∷ ds) (y ∷ ys) h t s = (has_sign g o d y h t.0 s.0, have_signs g os ds ys h t.1 s.1)

-- as a certificate has them
fits_sign : (o : Compare) (y : ℤ) → HasSign o y → FitsSign o y
fits_sign AtMost y s = s
fits_sign AtLeast y s = s
fits_sign Equal y s = s

pub limits_signed : (fs : List FactClaim) (ys : Row) → HaveSigns (ops_of fs) ys → All IsSigned (fact_limits fs ys)
limits_signed [] ys h = All-nil IsSigned
limits_signed (f ∷ fs) [] h = absurd h
limits_signed (f ∷ fs) (y ∷ ys) h = All-cons IsSigned (record { terms = f.left ++ negated f.right; op = f.op; by = y }) (fact_limits fs ys) (fits_sign f.op y h.0) (limits_signed fs ys h.1)

-- ---- multiplied totals of counts that keep the facts

product_low : (o : Compare) (y l r : ℤ) → HasSign o y → Compares o l r → (y *ℤ (l -ℤ r)) ≤ℤ pos 0
product_low AtMost y l r s k = mul_at_most y (l -ℤ r) s (omega (arith, ints))
product_low AtLeast y l r s k = subst (λ (z : ℤ). z ≤ℤ pos 0) (*ℤ_comm (l -ℤ r) y) (mul_at_most (l -ℤ r) y (omega (arith, ints)) s)
product_low Equal y l r s k = let e : l -ℤ r ≡ pos 0 = omega (arith, ints) in let f = ap (λ (z : ℤ). y *ℤ z) e in let z = *ℤ-zero y in omega (arith, ints)

pub total_low : (n : ℕ → ℤ) (fs : List FactClaim) (ys : Row) → HaveSigns (ops_of fs) ys → All (KeepsFact n) fs → fact_total fs ys n ≤ℤ pos 0
total_low n [] ys h k = omega (arith, ints)
total_low n (f ∷ fs) [] h k = absurd h
total_low n (f ∷ fs) (y ∷ ys) h k =
    let r = total_low n fs ys h.1 (All-tail (KeepsFact n) f fs k) in
    let p = product_low f.op y (applied f.left n) (applied f.right n) h.0 (All-head (KeepsFact n) f fs k) in omega (arith, ints)

-- both of two tests
pub both_true : (a b : Bool) → a && b ≡ true → (a ≡ true) × (b ≡ true)
both_true true b e = (refl, e)
both_true false b e = cc
