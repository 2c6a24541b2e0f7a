-- The listed flow at an address: what leaves, what arrives, and the least address where it fails.
use Rattle.std.proofs.Common.{◌≡◌, ◌≢◌, ℕ, zero, suc, ◌+◌, ◌≤◌, ◌<◌, ◌^◌, ℤ, pos, neg_ℤ, ◌+ℤ◌, ◌-ℤ◌, ◌*ℤ◌, ◌≤ℤ◌, arith, refl, sym, ap, ◌∙◌, subst, List, [], ◌∷◌, ◌++◌, All, Bool, true, false, Option, Some, None, unsigned_abs, ◌⊎◌, inl, inr}
use Rattle.std.specs.Ordering.{int_eq}
use Rattle.std.specs.Prelude.{is_some, ◌==◌, ◌&&◌, not, nat_lt, if◌then◌else◌}
use Rattle.std.proofs.lemmas.Int.{ints}
use Rattle.std.proofs.lemmas.Bool.{cases_Bool}
use Rattle.std.proofs.lemmas.Bool.Decides.{nat_tests, eqb_tells}
use Rattle.std.proofs.lemmas.List.Elements.{All-head, All-tail, All-cons, All-nil, All-contains}
use Rattle.frac128.specs.Terms.{int_sum_by, coefficient, when_same}
use Rattle.code_flow_system.specs.declared.moves.Move.{Move}
use Rattle.code_flow_system.specs.declared.index.Arrival.{Arrival}
use Rattle.code_flow_system.specs.declared.cert.Part.{Part}
use Rattle.code_flow_system.specs.declared.cert.Cert.{Cert}
use Rattle.code_flow_system.specs.Moves.{destinations, destinations_of}
use Rattle.code_flow_system.specs.Systems.{System, IsSystem, has_moves}
use Rattle.code_flow_system.specs.Counts.{Amounts, amount, each_with, arrivals, inflow}
use Rattle.code_flow_system.specs.Lookups.{amount_at, AddUpToArrivals}
use Rattle.code_flow_system.specs.Certificates.{size_by, listed, has_move, IsBalanced}
use Rattle.code_flow_lookup.specs.Runs.{those_at}
use Rattle.code_flow_lookup.proofs.RunLemmas.{other_test}
use Rattle.code_flow_lookup.proofs.LookLemmas.{is_nil, has_moves-those}
use Rattle.dual_check.specs.Rows.{counts, IsFlowAt, FailsFlow}
use Rattle.dual_check.specs.Leasts.{IsLeastOf, IsAtBad, lesser}
use Rattle.dual_check.proofs.LeastLemmas.{least_either}
use Rattle.dual_check.specs.Tests.{balances, is_balanced_at}
use Rattle.dual_check.proofs.SumLemmas.{sum-append, size_of_positive}
use Rattle.dual_check.proofs.LookupLemmas.{count-those, arriving-those}
use Rattle.dual_check.proofs.MissingLemmas.{move_of}

-- amounts aren't negative

amount_positive : (x : Amounts) (m : Move) → pos 0 ≤ℤ amount x m
amount_positive x m = omega (arith, ints)

amount_at-positive : (x : Amounts) (ms : List Move) (k : ℕ) → pos 0 ≤ℤ amount_at x ms k
amount_at-positive x [] k = omega (arith, ints)
amount_at-positive x (m ∷ ms) zero = amount_positive x m
amount_at-positive x (m ∷ ms) (suc k) = amount_at-positive x ms k

-- the inflow at an address
abbrev pub inflow_at : System → Cert → ℕ → ℤ
inflow_at s c a = coefficient (inflow s.entry c.flow.unit (listed c.flow.parts) s.moves) a

negated_sum : {X : Type 0} (f : X → ℤ) (xs : List X) → ((x : X) → pos 0 ≤ℤ f x) →
    (int_sum_by (λ x. neg_ℤ (f x)) xs ≡ neg_ℤ (int_sum_by f xs)) × (pos (size_by (λ x. neg_ℤ (f x)) xs) ≡ int_sum_by f xs)
negated_sum f [] h = (refl, refl)
negated_sum f (x ∷ xs) h = let r = negated_sum f xs h in let a = r.0 in let b = r.1 in let p = h x in (one (f x) _ _ a, size (f x) _ _ p b)
  where
    one : (z s t : ℤ) → s ≡ neg_ℤ t → neg_ℤ z +ℤ s ≡ neg_ℤ (z +ℤ t)
    one z s t e = omega (arith, ints)

    size : (z : ℤ) (n : ℕ) (t : ℤ) → pos 0 ≤ℤ z → pos n ≡ t → pos (unsigned_abs (neg_ℤ z) + n) ≡ z +ℤ t
    size z n t p e = omega (arith, ints)

-- what the code adds up for an address
pub record AddUp (s : System) (c : Cert) (rs : List Arrival) (a : ℕ) : Type 0 where
  pub leaves : int_sum_by (λ m. amount (listed c.flow.parts) m) (those_at (λ m. m.at) a s.moves) ≡ counts s c a
  pub leaves_size : pos (size_by (λ m. amount (listed c.flow.parts) m) (those_at (λ m. m.at) a s.moves)) ≡ counts s c a
  pub arrives : int_sum_by (λ r. neg_ℤ (amount_at (listed c.flow.parts) s.moves r.place)) (those_at (λ r. r.to) a rs) ≡ when_same s.entry a (pos c.flow.unit) -ℤ inflow_at s c a
  pub arrives_size : pos (size_by (λ r. neg_ℤ (amount_at (listed c.flow.parts) s.moves r.place)) (those_at (λ r. r.to) a rs)) ≡ inflow_at s c a -ℤ when_same s.entry a (pos c.flow.unit)
  pub unit : pos 0 ≤ℤ when_same s.entry a (pos c.flow.unit)

unit_positive : (b a n : ℕ) → pos 0 ≤ℤ when_same b a (pos n)
unit_positive b a n = by_test (b == a)
  where
    by_test : (t : Bool) → pos 0 ≤ℤ (if t then pos n else pos 0)
    by_test true = omega (arith, ints)
    by_test false = omega (arith, ints)

pub counts_positive : (s : System) (c : Cert) (a : ℕ) → pos 0 ≤ℤ counts s c a
counts_positive s c a =
    let e = count-those (listed c.flow.parts) s.moves a in
    let f = size_of_positive (amount (listed c.flow.parts)) (those_at (λ m. m.at) a s.moves) (amount_positive (listed c.flow.parts)) in
    by_size _ _ _ f e
  where
    by_size : (n : ℕ) (t z : ℤ) → pos n ≡ t → z ≡ t → pos 0 ≤ℤ z
    by_size n t z f e = omega (arith, ints)

pub adds_up : (s : System) (c : Cert) (rs : List Arrival) (a : ℕ) → AddUpToArrivals s.moves rs → AddUp s c rs a
adds_up s c rs a all =
    let x : Amounts = listed c.flow.parts in
    let e = count-those (listed c.flow.parts) s.moves a in
    let f = size_of_positive (amount (listed c.flow.parts)) (those_at (λ m. m.at) a s.moves) (amount_positive (listed c.flow.parts)) in
    let g = arriving-those (listed c.flow.parts) s.moves rs a in
    let h = all (listed c.flow.parts) a in
    let k = negated_sum (λ r. amount_at (listed c.flow.parts) s.moves r.place) (those_at (λ r. r.to) a rs) (λ r. amount_at-positive (listed c.flow.parts) s.moves r.place) in
    let k0 = k.0 in
    let k1 = k.1 in
    record {
      leaves = sym e;
      leaves_size = f ∙ sym e;
      arrives = total _ _ _ _ k0 (sym g ∙ h);
      arrives_size = size _ _ _ _ k1 (sym g ∙ h);
      unit = unit_positive s.entry a c.flow.unit;
    }
  where
    total : (t r i u : ℤ) → t ≡ neg_ℤ r → r ≡ i → t ≡ u -ℤ (u +ℤ i)
    total t r i u e f = omega (arith, ints)

    size : (n : ℕ) (r i u : ℤ) → pos n ≡ r → r ≡ i → pos n ≡ (u +ℤ i) -ℤ u
    size n r i u e f = omega (arith, ints)

-- the test of balance

and_true : (p q : Bool) → (p && q) ≡ true → (p ≡ true) × (q ≡ true)
and_true true q e = (refl, e)
and_true false q e = cc

both_true : (p q : Bool) → p ≡ true → q ≡ true → (p && q) ≡ true
both_true true q e f = f
both_true false q e f = cc

is_lt : (a b : ℕ) → nat_lt a b ≡ true → a < b
is_lt a b e = grind (arith, nat_tests)

lt_is : (a b : ℕ) → a < b → nat_lt a b ≡ true
lt_is a b h = grind (arith, nat_tests)

not_lt : (a b : ℕ) → b ≤ a → nat_lt a b ≡ false
not_lt a b h = grind (arith, nat_tests)

are_same : (a b : ℤ) → int_eq a b ≡ true → a ≡ b
are_same a b e = grind (arith, ints)

same_are : (a b : ℤ) → a ≡ b → int_eq a b ≡ true
same_are a b e = grind (arith, ints)

pub balanced_from : (u v : ℤ) → balances u v ≡ true → IsBalanced u v
balanced_from u v e =
    let t = and_true (nat_lt (unsigned_abs u + unsigned_abs v) (2 ^ 126)) (int_eq u v) e in
    record { equal = are_same u v t.1; narrow = is_lt _ _ t.0 }

pub from_balanced : (u v : ℤ) → IsBalanced u v → balances u v ≡ true
from_balanced u v b = both_true _ _ (lt_is _ _ b.narrow) (same_are u v b.equal)

-- the code's sum, as that test
pub balances_sum : (u v t : ℤ) → unsigned_abs u + unsigned_abs v < 2 ^ 126 → t ≡ u -ℤ v → int_eq t (pos 0) ≡ balances u v
balances_sum u v t h e = same_tests u v t e ∙ sym (ap (λ (b : Bool). b && int_eq u v) (lt_is _ _ h))
  where
    same_tests : (u v t : ℤ) → t ≡ u -ℤ v → int_eq t (pos 0) ≡ int_eq u v
    same_tests u v t e = grind (arith, ints)

pub balances_wide : (u v : ℤ) → 2 ^ 126 ≤ unsigned_abs u + unsigned_abs v → false ≡ balances u v
balances_wide u v h = sym (ap (λ (b : Bool). b && int_eq u v) (not_lt _ _ h))

-- an address without moves is balanced

each_with-none : (w : ℤ) (ds : List ℕ) (a : ℕ) → All (λ d. d ≢ a) ds → coefficient (each_with w ds) a ≡ pos 0
each_with-none w [] a h = refl
each_with-none w (d ∷ ds) a h =
    let r = each_with-none w ds a (All-tail (λ d. d ≢ a) d ds h) in
    let e = ap (λ (b : Bool). if b then w else pos 0) (other_test d a (All-head (λ d. d ≢ a) d ds h)) in omega (arith, ints)

append_right : {X : Type 0} (P : X → Type 0) (xs ys : List X) → All P (xs ++ ys) → All P ys
append_right P [] ys h = h
append_right P (x ∷ xs) ys h = append_right P xs ys (All-tail P x (xs ++ ys) h)

append_left : {X : Type 0} (P : X → Type 0) (xs ys : List X) → All P (xs ++ ys) → All P xs
append_left P [] ys h = All-nil P
append_left P (x ∷ xs) ys h = All-cons P x xs (All-head P x (xs ++ ys) h) (append_left P xs ys (All-tail P x (xs ++ ys) h))

arrivals-none : (x : Amounts) (ms : List Move) (a : ℕ) → All (λ d. d ≢ a) (destinations_of ms) → coefficient (arrivals x ms) a ≡ pos 0
arrivals-none x [] a h = refl
arrivals-none x (m ∷ ms) a h =
    let r = arrivals-none x ms a (append_right (λ d. d ≢ a) (destinations m) (destinations_of ms) h) in
    let e = each_with-none (amount x m) (destinations m) a (append_left (λ d. d ≢ a) (destinations m) (destinations_of ms) h) in
    let f = (sum-append (λ t. when_same t.0 a t.1) (each_with (amount x m) (destinations m)) (arrivals x ms)).0 in omega (arith, ints)

no_those : (s : System) (a : ℕ) → has_moves s.moves a ≡ false → those_at (λ m. m.at) a s.moves ≡ []
no_those s a e = nil (those_at (λ m. m.at) a s.moves) (has_moves-those s.moves a ∙ e)
  where
    nil : (ms : List Move) → not (is_nil ms) ≡ false → ms ≡ []
    nil [] e = refl
    nil (m ∷ ms) e = cc

other_than : (ms : List Move) (a d : ℕ) → has_moves ms a ≡ false → has_moves ms d ≡ true → d ≢ a
other_than ms a d e f same = let g : true ≡ false = sym f ∙ ap (has_moves ms) same ∙ e in cc

all_others : (ms : List Move) (a : ℕ) (ds : List ℕ) → has_moves ms a ≡ false → All (λ d. has_moves ms d ≡ true) ds → All (λ d. d ≢ a) ds
all_others ms a [] e h = All-nil _
all_others ms a (d ∷ ds) e h = All-cons (λ d. d ≢ a) d ds (other_than ms a d e (All-head (λ d. has_moves ms d ≡ true) d ds h)) (all_others ms a ds e (All-tail (λ d. has_moves ms d ≡ true) d ds h))

balanced_elsewhere : (s : System) (c : Cert) (a : ℕ) → IsSystem s → has_moves s.moves a ≡ false → IsBalanced (counts s c a) (inflow_at s c a)
balanced_elsewhere s c a is e =
    let out : counts s c a ≡ pos 0 = count-those (listed c.flow.parts) s.moves a ∙ ap (int_sum_by (amount (listed c.flow.parts))) (no_those s a e) in
    let unit = ap (λ (b : Bool). if b then pos c.flow.unit else pos 0) (other_test s.entry a (other_than s.moves a s.entry e is.entry)) in
    let rest = arrivals-none (listed c.flow.parts) s.moves a (all_others s.moves a (destinations_of s.moves) e is.closed) in
    let inn : inflow_at s c a ≡ pos 0 = both (when_same s.entry a (pos c.flow.unit)) _ unit rest in
    zeros (counts s c a) (inflow_at s c a) out inn
  where
    both : (u r : ℤ) → u ≡ pos 0 → r ≡ pos 0 → u +ℤ r ≡ pos 0
    both u r e f = omega (arith, ints)

    zeros : (u v : ℤ) → u ≡ pos 0 → v ≡ pos 0 → IsBalanced u v
    zeros u v e f = record { equal = e ∙ sym f; narrow = (let g = ap unsigned_abs e in let h = ap unsigned_abs f in omega arith) }

-- where the flow fails there is a strange part or an unbalanced move, and the reverse

abbrev pub is_strange : System → Part → Bool
is_strange s p = not (has_move s.moves p.at p.number)

abbrev pub is_unbalanced : System → Cert → Move → Bool
is_unbalanced s c m = not (is_balanced_at s c m.at)

same_or_other : (m n : ℕ) → (m ≡ n) ⊎ (m ≢ n)
same_or_other m n = elim (eqb_tells m n) [ inl e ↦ inl e.1 | inr e ↦ inr e.1 ]

strange_or_not : (s : System) (ps : List Part) (a : ℕ) → IsAtBad (λ p. p.at) (is_strange s) ps a ⊎ All (λ p. p.at ≡ a → has_move s.moves p.at p.number ≡ true) ps
strange_or_not s [] a = inr (All-nil _)
strange_or_not s (p ∷ ps) a = by_rest (strange_or_not s ps a) (same_or_other p.at a) (cases_Bool (has_move s.moves p.at p.number))
  where
    by_rest : IsAtBad (λ p. p.at) (is_strange s) ps a ⊎ All (λ p. p.at ≡ a → has_move s.moves p.at p.number ≡ true) ps → (p.at ≡ a) ⊎ (p.at ≢ a) → (has_move s.moves p.at p.number ≡ true) ⊎ (has_move s.moves p.at p.number ≡ false)
        → IsAtBad (λ p. p.at) (is_strange s) (p ∷ ps) a ⊎ All (λ p. p.at ≡ a → has_move s.moves p.at p.number ≡ true) (p ∷ ps)
    by_rest (inl (q, among, at, is)) t h = inl (q, (suc among.0, omega (arith, among.1), among.2), at, is)
    by_rest (inr all) t (inl h) = inr (All-cons (λ p. p.at ≡ a → has_move s.moves p.at p.number ≡ true) p ps (λ e. h) all)
    by_rest (inr all) (inl t) (inr h) = inl (p, (0, omega arith, refl), t, ap not h)
    by_rest (inr all) (inr t) (inr h) = inr (All-cons (λ p. p.at ≡ a → has_move s.moves p.at p.number ≡ true) p ps (λ e. absurd (t e)) all)

pub fails_by : (s : System) (c : Cert) → IsSystem s → (a : ℕ) → FailsFlow s c a → IsAtBad (λ p. p.at) (is_strange s) c.flow.parts a ⊎ IsAtBad (λ m. m.at) (is_unbalanced s c) s.moves a
fails_by s c is a fails = by_parts (strange_or_not s c.flow.parts a) (cases_Bool (is_balanced_at s c a)) (cases_Bool (has_moves s.moves a))
  where
    by_parts : IsAtBad (λ p. p.at) (is_strange s) c.flow.parts a ⊎ All (λ p. p.at ≡ a → has_move s.moves p.at p.number ≡ true) c.flow.parts → (is_balanced_at s c a ≡ true) ⊎ (is_balanced_at s c a ≡ false) → (has_moves s.moves a ≡ true) ⊎ (has_moves s.moves a ≡ false)
        → IsAtBad (λ p. p.at) (is_strange s) c.flow.parts a ⊎ IsAtBad (λ m. m.at) (is_unbalanced s c) s.moves a
    by_parts (inl h) b m = inl h
    by_parts (inr all) (inl b) m = absurd (fails (record { in_system = all; balanced = balanced_from _ _ b }))
    by_parts (inr all) (inr b) (inr m) = absurd (fails (record { in_system = all; balanced = balanced_elsewhere s c a is m }))
    by_parts (inr all) (inr b) (inl m) = let r = move_of s.moves a m in inr (r.0, r.1, r.2, ap (λ k. not (is_balanced_at s c k)) r.2 ∙ ap not b)

true_or_false : (b : Bool) → b ≡ true → not b ≡ true → ⊥
true_or_false true e f = cc
true_or_false false e f = cc

pub strange_fails : (s : System) (c : Cert) (a : ℕ) → IsAtBad (λ p. p.at) (is_strange s) c.flow.parts a → FailsFlow s c a
strange_fails s c a (p, among, at, is) holds = true_or_false _ (All-contains (λ p. p.at ≡ a → has_move s.moves p.at p.number ≡ true) c.flow.parts p holds.in_system among at) is

pub unbalanced_fails : (s : System) (c : Cert) (a : ℕ) → IsAtBad (λ m. m.at) (is_unbalanced s c) s.moves a → FailsFlow s c a
unbalanced_fails s c a (m, among, at, is) holds = true_or_false _ (ap (λ k. is_balanced_at s c k) at ∙ from_balanced _ _ holds.balanced) is

pub flow_everywhere : (s : System) (c : Cert) → IsSystem s → ((a : ℕ) → ¬ FailsFlow s c a) → (a : ℕ) → IsFlowAt s c a
flow_everywhere s c is none a = by_parts (strange_or_not s c.flow.parts a) (cases_Bool (is_balanced_at s c a)) (cases_Bool (has_moves s.moves a))
  where
    by_parts : IsAtBad (λ p. p.at) (is_strange s) c.flow.parts a ⊎ All (λ p. p.at ≡ a → has_move s.moves p.at p.number ≡ true) c.flow.parts → (is_balanced_at s c a ≡ true) ⊎ (is_balanced_at s c a ≡ false) → (has_moves s.moves a ≡ true) ⊎ (has_moves s.moves a ≡ false) → IsFlowAt s c a
    by_parts (inl h) b m = absurd (none a (strange_fails s c a h))
    by_parts (inr all) (inl b) m = record { in_system = all; balanced = balanced_from _ _ b }
    by_parts (inr all) (inr b) (inr m) = record { in_system = all; balanced = balanced_elsewhere s c a is m }
    by_parts (inr all) (inr b) (inl m) = let r = move_of s.moves a m in absurd (none a (unbalanced_fails s c a (r.0, r.1, r.2, ap (λ k. not (is_balanced_at s c k)) r.2 ∙ ap not b)))

abbrev pub IsStrange : List Move → List Part → ℕ → Type 0
IsStrange ms ps a = IsAtBad (λ p. p.at) (λ p. not (has_move ms p.at p.number)) ps a

abbrev pub IsUnbalanced : System → Cert → List Move → ℕ → Type 0
IsUnbalanced s c ms a = IsAtBad (λ m. m.at) (is_unbalanced s c) ms a

pub least_flow : (s : System) (c : Cert) (ms : List Move) (ps : List Part) (x y : Option ℕ) → IsSystem s → ms ≡ s.moves → ps ≡ c.flow.parts → IsLeastOf (IsStrange ms ps) x → IsLeastOf (IsUnbalanced s c ms) y → IsLeastOf (FailsFlow s c) (lesser x y)
least_flow s c ms ps x y is e f p q =
    let u = subst (λ us. IsLeastOf (IsStrange s.moves us) x) f (subst (λ ks. IsLeastOf (IsStrange ks ps) x) e p) in
    let v = subst (λ ks. IsLeastOf (IsUnbalanced s c ks) y) e q in
    least_either (IsStrange s.moves c.flow.parts) (IsUnbalanced s c s.moves) (FailsFlow s c) x y u v
    (fails_by s c is) (strange_fails s c) (unbalanced_fails s c)

none_is : {X : Type 0} (o : Option X) → is_some o ≡ false → o ≡ None
none_is None e = refl
none_is (Some x) e = cc

pub flow_if_none : (s : System) (c : Cert) (o : Option ℕ) → IsSystem s → IsLeastOf (FailsFlow s c) o → is_some o ≡ false → (a : ℕ) → IsFlowAt s c a
flow_if_none s c o is least e = flow_everywhere s c is (subst (IsLeastOf (FailsFlow s c)) (none_is o e) least)

-- what leaves an address
pub counts_sum : (s : System) (c : Cert) (a : ℕ) → (int_sum_by (λ m. amount (listed c.flow.parts) m) (those_at (λ m. m.at) a s.moves) ≡ counts s c a) × (pos (size_by (λ m. amount (listed c.flow.parts) m) (those_at (λ m. m.at) a s.moves)) ≡ counts s c a)
counts_sum s c a =
    let e = count-those (listed c.flow.parts) s.moves a in
    let f = size_of_positive (amount (listed c.flow.parts)) (those_at (λ m. m.at) a s.moves) (amount_positive (listed c.flow.parts)) in (sym e, f ∙ sym e)

-- the sizes of the unit, of what leaves and of what arrives
pub sizes_add : (u v unit : ℤ) (m n k : ℕ) → m ≡ unsigned_abs unit → pos n ≡ u → pos k ≡ v -ℤ unit → pos 0 ≤ℤ unit → (m + n) + k ≡ unsigned_abs u + unsigned_abs v
sizes_add u v unit m n k a b d e = omega (arith, ints)

-- the unit, as the code begins
pub first_size : (m : ℕ) (a unit : ℤ) → m ≡ 0 → a ≡ unit → m + unsigned_abs (neg_ℤ (pos 1) *ℤ a) ≡ unsigned_abs unit
first_size m a unit e f = omega (arith, ints)

pub first_total : (m a unit : ℤ) → m ≡ pos 0 → a ≡ unit → m +ℤ (neg_ℤ (pos 1) *ℤ a) ≡ neg_ℤ unit
first_total m a unit e f = omega (arith, ints)
