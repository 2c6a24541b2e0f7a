-- The least number with a property, and the passes that find it.
use Rattle.std.proofs.Common.{◌≡◌, ◌≢◌, ℕ, zero, suc, ◌+◌, ◌<◌, ◌≤◌, ◌⊎◌, inl, inr, arith, refl, sym, ap, ◌∙◌, subst, List, [], ◌∷◌, get_or, Contains, Bool, true, false, Option, Some, None}
use Rattle.std.specs.Prelude.{◌==◌, ◌&&◌, not, min, if◌then◌else◌}
use Rattle.std.specs.Option.{option_to_list}
use Rattle.std.proofs.lemmas.Bool.{and_parts}
use Rattle.std.proofs.lemmas.Bool.Decides.{nat_tests}
use Rattle.std.proofs.lemmas.List.Elements.{Contains-append_cases, Contains-append_left, Contains-append_right}
use Rattle.code_flow_system.specs.declared.moves.Move.{Move}
use Rattle.code_flow_system.specs.Moves.{Code, destinations}
use Rattle.code_flow_system.specs.Reach.{IsLeast, is_resolved}
use Rattle.code_flow.specs.Places.{address_at}
use Rattle.code_flow.specs.Walks.{way_at}
use Rattle.code_flow.specs.Faults.{first_from, lesser, IsLeastOf, is_stray, first_stray, crossing_to, crossing_of, crossing, entry_crossing}

-- properties that agree
pub least-by : (P Q : ℕ → Type 0) (o : Option ℕ) → ((k : ℕ) → P k → Q k) → ((k : ℕ) → ¬ P k → ¬ Q k) → IsLeastOf P o → IsLeastOf Q o
least-by P Q None f g h = λ k. g k (h k)
least-by P Q (Some n) f g h = record { holds = f n h.holds; before = λ k lt. g k (h.before k lt) }

min_left : (a b : ℕ) → a ≤ b → min a b ≡ a
min_left a b h = omega arith

min_right : (a b : ℕ) → b ≤ a → min a b ≡ b
min_right a b h = omega arith

order : (a b : ℕ) → (a ≤ b) ⊎ (b ≤ a)
order a b = grind arith

-- one of two properties
pub least-lesser : (P Q : ℕ → Type 0) (a b : Option ℕ) → IsLeastOf P a → IsLeastOf Q b → IsLeastOf (λ k. P k ⊎ Q k) (lesser a b)
least-lesser P Q None None h g = λ k e. elim e [ inl p ↦ h k p | inr q ↦ g k q ]
least-lesser P Q None (Some b) h g = record { holds = inr g.holds; before = λ k lt e. elim e [ inl p ↦ h k p | inr q ↦ g.before k lt q ] }
least-lesser P Q (Some a) None h g = record { holds = inl h.holds; before = λ k lt e. elim e [ inl p ↦ h.before k lt p | inr q ↦ g k q ] }
least-lesser P Q (Some a) (Some b) h g = elim (order a b) [
  | inl le ↦ subst (λ n. IsLeast (λ k. P k ⊎ Q k) n) (sym (min_left a b le)) (record { holds = inl h.holds; before = λ k lt e. elim e [ inl p ↦ h.before k lt p | inr q ↦ g.before k (omega arith) q ] })
  | inr le ↦ subst (λ n. IsLeast (λ k. P k ⊎ Q k) n) (sym (min_right a b le)) (record { holds = inr g.holds; before = λ k lt e. elim e [ inl p ↦ h.before k (omega arith) p | inr q ↦ g.before k lt q ] })
]

-- the first test that holds
abbrev pub HoldsFrom : ℕ → List Bool → ℕ → Type 0
HoldsFrom from bs n = (k : ℕ) × (n ≡ from + k) × (get_or bs k false ≡ true)

pub least-first_from : (from : ℕ) (bs : List Bool) → IsLeastOf (HoldsFrom from bs) (first_from from bs)
least-first_from from [] = λ k h. none h.0 h.2
  where
    none : (k : ℕ) → get_or [] k false ≡ true → ⊥
    none k h = cc
least-first_from from (true ∷ bs) = record { holds = (0, omega arith, refl); before = λ k lt h. let e = h.1 in omega arith }
least-first_from from (false ∷ bs) = least-by (HoldsFrom (from + 1) bs) (HoldsFrom from (false ∷ bs)) (first_from (from + 1) bs)
    (λ n h. (suc h.0, (let e = h.1 in omega arith), h.2))
    (λ n none h. later n h.0 h.1 h.2 none)
    (least-first_from (from + 1) bs)
  where
    later : (n k : ℕ) → n ≡ from + k → get_or (false ∷ bs) k false ≡ true → ¬ HoldsFrom (from + 1) bs n → ⊥
    later n zero e h none = cc
    later n (suc k) e h none = none (k, omega arith, h)

-- addresses ascend with their places
pub address_at-lt : (p q : ℕ) → p < q → address_at p < address_at q
address_at-lt p q lt = grind (arith, nat_tests)

-- a marked place without moves
pub record IsStrayAt (c : Code) (p : ℕ) (bs : List Bool) (a : ℕ) : Type 0 where
  pub place : ℕ
  pub marked : get_or bs place false ≡ true
  pub stray : is_stray (way_at c (address_at (p + place))) ≡ true
  pub is : a ≡ address_at (p + place)

pub least-first_stray : (c : Code) (p : ℕ) (bs : List Bool) → IsLeastOf (IsStrayAt c p bs) (first_stray c p bs)
least-first_stray c p [] = λ a h. none h.place h.marked
  where
    none : (k : ℕ) → get_or [] k false ≡ true → ⊥
    none k h = cc
least-first_stray c p (b ∷ bs) = by_test (b && is_stray (way_at c (address_at p))) refl (least-first_stray c (p + 1) bs)
  where
    shift : (k : ℕ) → p + 1 + k ≡ p + suc k
    shift k = omega arith

    here : (b && is_stray (way_at c (address_at p))) ≡ true → IsStrayAt c p (b ∷ bs) (address_at p)
    here e =
        let both = and_parts b (is_stray (way_at c (address_at p))) e in
        let z : p + 0 ≡ p = omega arith in
        record { place = 0; marked = both.0; stray = subst (λ q. is_stray (way_at c (address_at q)) ≡ true) (sym z) both.1; is = ap address_at (sym z) }

    not_before : (a k : ℕ) → a < address_at p → a ≡ address_at (p + k) → ⊥
    not_before a zero lt e = let z : p + 0 ≡ p = omega arith in let f = e ∙ ap address_at z in omega arith
    not_before a (suc k) lt e = let f = address_at-lt p (p + suc k) (omega arith) in omega arith

    first_false : (k : ℕ) → (b && is_stray (way_at c (address_at p))) ≡ false → get_or (b ∷ bs) k false ≡ true → is_stray (way_at c (address_at (p + k))) ≡ true → (j : ℕ) × (k ≡ suc j)
    first_false zero e m s =
        let z : p + 0 ≡ p = omega arith in
        let t = subst (λ q. is_stray (way_at c (address_at q)) ≡ true) z s in
        absurd (both b (is_stray (way_at c (address_at p))) e m t)
      where
        both : (x y : Bool) → (x && y) ≡ false → x ≡ true → y ≡ true → ⊥
        both true true e f g = cc
        both true false e f g = cc
        both false y e f g = cc
    first_false (suc j) e m s = (j, refl)

    lower : (a k : ℕ) → (b && is_stray (way_at c (address_at p))) ≡ false → get_or (b ∷ bs) k false ≡ true → is_stray (way_at c (address_at (p + k))) ≡ true → a ≡ address_at (p + k) → IsStrayAt c (p + 1) bs a
    lower a k e m s is =
        let j = first_false k e m s in
        let q : p + k ≡ p + 1 + j.0 = let f = j.1 in omega arith in
        record {
          place = j.0;
          marked = subst (λ i. get_or (b ∷ bs) i false ≡ true) j.1 m;
          stray = subst (λ q. is_stray (way_at c (address_at q)) ≡ true) q s;
          is = is ∙ ap address_at q;
        }

    by_test : (t : Bool) → (b && is_stray (way_at c (address_at p))) ≡ t → IsLeastOf (IsStrayAt c (p + 1) bs) (first_stray c (p + 1) bs) →
        IsLeastOf (IsStrayAt c p (b ∷ bs)) (if t then Some (address_at p) else first_stray c (p + 1) bs)
    by_test true e later = record { holds = here e; before = λ a lt h. not_before a h.place lt h.is }
    by_test false e later = least-by (IsStrayAt c (p + 1) bs) (IsStrayAt c p (b ∷ bs)) (first_stray c (p + 1) bs)
        (λ a h. record { place = suc h.place; marked = h.marked; stray = subst (λ q. is_stray (way_at c (address_at q)) ≡ true) (shift h.place) h.stray; is = h.is ∙ ap address_at (shift h.place) })
        (λ a none h. none (lower a h.place e h.marked h.stray h.is))
        later

-- crossings

pub record Crosses (c : Code) (from a : ℕ) (ds : List ℕ) : Type 0 where
  pub among : Contains ds a
  pub resolved : is_resolved c a ≡ true
  pub apart : from + 4 ≢ a

least-crossing_to : (c : Code) (from : ℕ) (o : Option ℕ) → IsLeastOf (λ a. Crosses c from a (option_to_list o)) (crossing_to c from o)
least-crossing_to c from None = λ a h. let k = h.among in omega (arith, k.1)
least-crossing_to c from (Some to) = by_test (is_resolved c to && not (from + 4 == to)) refl
  where
    differs : (x y : ℕ) → not (x == y) ≡ true → x ≢ y
    differs x y h e = grind (arith, nat_tests)

    apart_test : (x y : ℕ) → x ≢ y → not (x == y) ≡ true
    apart_test x y h = grind (arith, nat_tests)

    only : (a b : ℕ) → Contains (a ∷ []) b → a ≡ b
    only a b (zero, lt, e) = e
    only a b (suc k, lt, e) = absurd (omega arith)

    holds : (a : ℕ) → Crosses c from a (to ∷ []) → (is_resolved c to && not (from + 4 == to)) ≡ true
    holds a h =
        let e = only to a h.among in
        let r : is_resolved c to ≡ true = subst (λ x. is_resolved c x ≡ true) (sym e) h.resolved in
        let d : not (from + 4 == to) ≡ true = apart_test (from + 4) to (λ f. h.apart (f ∙ e)) in
        both (is_resolved c to) (not (from + 4 == to)) r d
      where
        both : (x y : Bool) → x ≡ true → y ≡ true → (x && y) ≡ true
        both true y e f = f
        both false y e f = cc

    by_test : (t : Bool) → (is_resolved c to && not (from + 4 == to)) ≡ t → IsLeastOf (λ a. Crosses c from a (to ∷ [])) (if t then Some to else None)
    by_test true e =
        let both = and_parts (is_resolved c to) (not (from + 4 == to)) e in
        record {
          holds = record { among = (0, omega arith, refl); resolved = both.0; apart = differs (from + 4) to both.1 };
          before = λ a lt h. let f = only to a h.among in omega arith;
        }
    by_test false e = λ a h. let f = sym e ∙ holds a h in cc

-- a move that enters a resolved JALR from elsewhere
pub record CrossesBy (c : Code) (ms : List Move) (a : ℕ) : Type 0 where
  pub by : Move
  pub in_moves : Contains ms by
  pub crosses : Crosses c by.at a (destinations by)

least-crossing_of : (c : Code) (m : Move) → IsLeastOf (λ a. Crosses c m.at a (destinations m)) (crossing_of c m)
least-crossing_of c m = least-by (λ a. Crosses c m.at a (option_to_list m.to) ⊎ Crosses c m.at a (option_to_list m.behind)) (λ a. Crosses c m.at a (destinations m)) (crossing_of c m)
    (λ a h. elim h [
      | inl k ↦ record { among = Contains-append_left (option_to_list m.to) (option_to_list m.behind) a k.among; resolved = k.resolved; apart = k.apart }
      | inr k ↦ record { among = Contains-append_right (option_to_list m.to) (option_to_list m.behind) a k.among; resolved = k.resolved; apart = k.apart }
    ])
    (λ a none h. none (elim (Contains-append_cases (option_to_list m.to) (option_to_list m.behind) a h.among) [
      | inl k ↦ inl (record { among = k; resolved = h.resolved; apart = h.apart })
      | inr k ↦ inr (record { among = k; resolved = h.resolved; apart = h.apart })
    ]))
    (least-lesser (λ a. Crosses c m.at a (option_to_list m.to)) (λ a. Crosses c m.at a (option_to_list m.behind)) (crossing_to c m.at m.to) (crossing_to c m.at m.behind) (least-crossing_to c m.at m.to) (least-crossing_to c m.at m.behind))

pub least-crossing : (c : Code) (ms : List Move) → IsLeastOf (CrossesBy c ms) (crossing c ms)
least-crossing c [] = λ a h. let k = h.in_moves in omega (arith, k.1)
least-crossing c (m ∷ ms) = least-by (λ a. Crosses c m.at a (destinations m) ⊎ CrossesBy c ms a) (CrossesBy c (m ∷ ms)) (crossing c (m ∷ ms))
    (λ a h. elim h [
      | inl k ↦ record { by = m; in_moves = (0, omega arith, refl); crosses = k }
      | inr k ↦ record { by = k.by; in_moves = later m ms k.by k.in_moves; crosses = k.crosses }
    ])
    (λ a none h. none (split a h.by h.in_moves h.crosses))
    (least-lesser (λ a. Crosses c m.at a (destinations m)) (CrossesBy c ms) (crossing_of c m) (crossing c ms) (least-crossing_of c m) (least-crossing c ms))
  where
    later : (m : Move) (ms : List Move) (n : Move) → Contains ms n → Contains (m ∷ ms) n
    later m ms n (k, lt, e) = (suc k, omega arith, e)

    split : (a : ℕ) (n : Move) → Contains (m ∷ ms) n → Crosses c n.at a (destinations n) → Crosses c m.at a (destinations m) ⊎ CrossesBy c ms a
    split a n (zero, lt, e) h = inl (subst (λ (x : Move). Crosses c x.at a (destinations x)) (sym e) h)
    split a n (suc k, lt, e) h = inr (record { by = n; in_moves = (k, omega arith, e); crosses = h })

pub least-entry : (c : Code) (entry : ℕ) → IsLeastOf (λ a. (a ≡ entry) × (is_resolved c a ≡ true)) (entry_crossing c entry)
least-entry c entry = by_test (is_resolved c entry) refl
  where
    by_test : (t : Bool) → is_resolved c entry ≡ t → IsLeastOf (λ a. (a ≡ entry) × (is_resolved c a ≡ true)) (if t then Some entry else None)
    by_test true e = record { holds = (refl, e); before = λ a lt h. let f = h.0 in omega arith }
    by_test false e = λ a h. let f = sym e ∙ subst (λ x. is_resolved c x ≡ true) h.0 h.1 in cc
