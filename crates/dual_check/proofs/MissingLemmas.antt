-- Where an address has moves and no potential, or the reverse, an element of a list is bad.
use Rattle.std.proofs.Common.{◌≡◌, ◌≢◌, ℕ, zero, suc, arith, refl, sym, ap, ◌∙◌, subst, ℤ, List, [], ◌∷◌, Contains, Bool, true, false, Option, ◌⊎◌, inl, inr}
use Rattle.std.specs.Prelude.{◌==◌, not, if◌then◌else◌}
use Rattle.std.proofs.lemmas.Bool.{cases_Bool}
use Rattle.std.proofs.lemmas.Bool.Decides.{eqb_tells}
use Rattle.frac128.specs.Terms.{Terms}
use Rattle.code_flow_system.specs.declared.moves.Move.{Move}
use Rattle.code_flow_system.specs.declared.cert.Cert.{Cert}
use Rattle.code_flow_system.specs.Systems.{System, has_moves}
use Rattle.code_flow_system.specs.Certificates.{is_given}
use Rattle.code_flow_lookup.proofs.RunLemmas.{same_test, other_test}
use Rattle.dual_check.specs.Rows.{FailsMissing}
use Rattle.dual_check.specs.Leasts.{IsLeastOf, IsAtBad, lesser}
use Rattle.dual_check.proofs.LeastLemmas.{least_either}

either_way : (b c : Bool) → c ≡ true → (if b then true else c) ≡ true
either_way true c e = refl
either_way false c e = e

has_of : (ms : List Move) (m : Move) (a : ℕ) → Contains ms m → m.at ≡ a → has_moves ms a ≡ true
has_of [] m a (i, lt, e) at = absurd (omega arith)
has_of (k ∷ ms) m a (zero, lt, e) at = ap (λ (b : Bool). if b then true else has_moves ms a) (same_test k.at a (ap (λ x. x.at) e ∙ at))
has_of (k ∷ ms) m a (suc i, lt, e) at = either_way (k.at == a) (has_moves ms a) (has_of ms m a (i, omega (arith, lt), e) at)

given_of : (ts : Terms) (t : ℕ × ℤ) (a : ℕ) → Contains ts t → t.0 ≡ a → is_given ts a ≡ true
given_of [] t a (i, lt, e) at = absurd (omega arith)
given_of (k ∷ ts) t a (zero, lt, e) at = ap (λ (b : Bool). if b then true else is_given ts a) (same_test k.0 a (ap (λ x. x.0) e ∙ at))
given_of (k ∷ ts) t a (suc i, lt, e) at = either_way (k.0 == a) (is_given ts a) (given_of ts t a (i, omega (arith, lt), e) at)

pub move_of : (ms : List Move) (a : ℕ) → has_moves ms a ≡ true → (m : Move) × Contains ms m × (m.at ≡ a)
move_of [] a h = cc
move_of (m ∷ ms) a h = elim (eqb_tells m.at a) [
  | inl e ↦ (m, (0, omega arith, refl), e.1)
  | inr e ↦
      let later : has_moves ms a ≡ true = subst (λ (b : Bool). (if b then true else has_moves ms a) ≡ true) (other_test m.at a e.1) h in
      let r = move_of ms a later in (r.0, (suc r.1.0, omega (arith, r.1.1), r.1.2), r.2)
]

term_of : (ts : Terms) (a : ℕ) → is_given ts a ≡ true → (t : ℕ × ℤ) × Contains ts t × (t.0 ≡ a)
term_of [] a h = cc
term_of (t ∷ ts) a h = elim (eqb_tells t.0 a) [
  | inl e ↦ (t, (0, omega arith, refl), e.1)
  | inr e ↦
      let later : is_given ts a ≡ true = subst (λ (b : Bool). (if b then true else is_given ts a) ≡ true) (other_test t.0 a e.1) h in
      let r = term_of ts a later in (r.0, (suc r.1.0, omega (arith, r.1.1), r.1.2), r.2)
]

abbrev pub IsUngiven : List Move → Terms → ℕ → Type 0
IsUngiven ms ts a = IsAtBad (λ m. m.at) (λ m. not (is_given ts m.at)) ms a

abbrev pub IsUnreached : List Move → Terms → ℕ → Type 0
IsUnreached ms ts a = IsAtBad (λ t. t.0) (λ t. not (has_moves ms t.0)) ts a

pub missing_by : (ms : List Move) (ts : Terms) (a : ℕ) → has_moves ms a ≢ is_given ts a → IsUngiven ms ts a ⊎ IsUnreached ms ts a
missing_by ms ts a differ = by_tests (cases_Bool (has_moves ms a)) (cases_Bool (is_given ts a))
  where
    by_tests : (has_moves ms a ≡ true) ⊎ (has_moves ms a ≡ false) → (is_given ts a ≡ true) ⊎ (is_given ts a ≡ false) → IsUngiven ms ts a ⊎ IsUnreached ms ts a
    by_tests (inl h) (inl g) = absurd (differ (h ∙ sym g))
    by_tests (inr h) (inr g) = absurd (differ (h ∙ sym g))
    by_tests (inl h) (inr g) = let r = move_of ms a h in inl (r.0, r.1, r.2, ap (λ k. not (is_given ts k)) r.2 ∙ ap not g)
    by_tests (inr h) (inl g) = let r = term_of ts a g in inr (r.0, r.1, r.2, ap (λ k. not (has_moves ms k)) r.2 ∙ ap not h)

differ_by : (p q : Bool) → p ≡ true → not q ≡ true → p ≢ q
differ_by true true e f = cc
differ_by true false e f = λ g. cc
differ_by false q e f = cc

pub ungiven_fails : (ms : List Move) (ts : Terms) (a : ℕ) → IsUngiven ms ts a → has_moves ms a ≢ is_given ts a
ungiven_fails ms ts a (m, among, at, is) = differ_by _ _ (has_of ms m a among at) (sym (ap (λ k. not (is_given ts k)) at) ∙ is)

pub unreached_fails : (ms : List Move) (ts : Terms) (a : ℕ) → IsUnreached ms ts a → has_moves ms a ≢ is_given ts a
unreached_fails ms ts a (t, among, at, is) = λ same. differ_by _ _ (given_of ts t a among at) (sym (ap (λ k. not (has_moves ms k)) at) ∙ is) (sym same)

pub least_missing : (s : System) (c : Cert) (ms : List Move) (ts : Terms) (x y : Option ℕ) → ms ≡ s.moves → ts ≡ c.potentials → IsLeastOf (IsUngiven ms ts) x → IsLeastOf (IsUnreached ms ts) y → IsLeastOf (FailsMissing s c) (lesser x y)
least_missing s c ms ts x y e f p q =
    let u = subst (λ us. IsLeastOf (IsUngiven s.moves us) x) f (subst (λ ks. IsLeastOf (IsUngiven ks ts) x) e p) in
    let v = subst (λ us. IsLeastOf (IsUnreached s.moves us) y) f (subst (λ ks. IsLeastOf (IsUnreached ks ts) y) e q) in
    least_either (IsUngiven s.moves c.potentials) (IsUnreached s.moves c.potentials) (FailsMissing s c) x y u v
    (missing_by s.moves c.potentials) (ungiven_fails s.moves c.potentials) (unreached_fails s.moves c.potentials)
