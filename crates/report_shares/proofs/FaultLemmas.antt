-- The first fault is none exactly where the shares fit.
use Rattle.std.proofs.Common.{◌≡◌, ◌≢◌, ℕ, zero, suc, ◌+◌, ◌<◌, ◌≤◌, arith, refl, sym, ap, ◌∙◌, subst, List, [], ◌∷◌, length, drop, get_or, All, Bool, true, false, Option, Some, None, inl, inr}
use Rattle.std.specs.Prelude.{min, IsNone, ◌↔◌, ◌==◌, pos, IfSome, if◌then◌else◌}
use Rattle.std.specs.Ordering.{int_eq}
use Rattle.std.proofs.lemmas.Bool.Decides.{eqb_tells, Decides-int_eq}
use Rattle.std.proofs.lemmas.List.{get_or_default}
use Rattle.std.proofs.lemmas.List.Elements.{All-head, All-tail, All-cons, All-nil, All-weaker}
use Rattle.rv_core.specs.Table.{Table}
use Rattle.code_flow_system.specs.declared.cert.Part.{Part}
use Rattle.code_flow_system.specs.Systems.{System}
use Rattle.report_text.specs.declared.entries.Share.{Share}
use Rattle.report_text.specs.Forms.{SharesAscend}
use Rattle.report_shares.specs.Shares.{IsProper, holders, call_target, begins, share_sum, SharesFit}
use Rattle.report_shares.specs.Faults.{lesser, least_by, or_else, first_by, unheld, unless_begun, unbegun, unequal, share_fault}
use Rattle.report_shares.proofs.PlaceLemmas.{held_once}

min-assoc : (a b c : ℕ) → min (min a b) c ≡ min a (min b c)
min-assoc a b c = omega arith

lesser-assoc : (a b c : Option ℕ) → lesser (lesser a b) c ≡ lesser a (lesser b c)
lesser-assoc None b c = refl
lesser-assoc (Some a) None c = refl
lesser-assoc (Some a) (Some b) None = refl
lesser-assoc (Some a) (Some b) (Some c) = ap (λ n. Some n) (min-assoc a b c)

lesser-none : (a : Option ℕ) → lesser a None ≡ a
lesser-none None = refl
lesser-none (Some a) = refl

module _ {X : Type 0} (f : X → Option ℕ) where
  least_turn : (xs : List X) (i : ℕ) (d : X) → i < length xs → least_by f (drop i xs) ≡ lesser (f (get_or xs i d)) (least_by f (drop (suc i) xs))
  least_turn [] i d h = absurd (omega arith)
  least_turn (x ∷ xs) zero d h = refl
  least_turn (x ∷ xs) (suc i) d h = least_turn xs i d (omega arith)

  -- a loop's turn
  pub least_next : (xs : List X) (i : ℕ) (d : X) (least next : Option ℕ) → i < length xs → next ≡ lesser least (f (get_or xs i d)) →
      lesser least (least_by f (drop i xs)) ≡ least_by f xs → lesser next (least_by f (drop (i + 1) xs)) ≡ least_by f xs
  least_next xs i d least next h e inv =
      let k : i + 1 ≡ suc i = omega arith in
      ap (λ n. lesser next (least_by f (drop n xs))) k
      ∙ ap (λ o. lesser o (least_by f (drop (suc i) xs))) e
      ∙ lesser-assoc least (f (get_or xs i d)) (least_by f (drop (suc i) xs))
      ∙ ap (lesser least) (sym (least_turn xs i d h))
      ∙ inv

  past : (xs : List X) (i : ℕ) → length xs ≤ i → (least_by f (drop i xs) ≡ None) × (first_by f (drop i xs) ≡ None)
  past [] zero h = (refl, refl)
  past [] (suc i) h = (refl, refl)
  past (x ∷ xs) zero h = absurd (omega arith)
  past (x ∷ xs) (suc i) h = past xs i (omega arith)

  pub least_end : (xs : List X) (i : ℕ) (least : Option ℕ) → length xs ≤ i → lesser least (least_by f (drop i xs)) ≡ least_by f xs → least ≡ least_by f xs
  least_end xs i least h inv = sym (lesser-none least) ∙ ap (lesser least) (sym (past xs i h).0) ∙ inv

  first_turn : (xs : List X) (i : ℕ) (d : X) → i < length xs → first_by f (drop i xs) ≡ or_else (f (get_or xs i d)) (first_by f (drop (suc i) xs))
  first_turn [] i d h = absurd (omega arith)
  first_turn (x ∷ xs) zero d h = refl
  first_turn (x ∷ xs) (suc i) d h = first_turn xs i d (omega arith)

  pub first_next : (xs : List X) (i : ℕ) (d : X) → i < length xs → f (get_or xs i d) ≡ None → first_by f (drop i xs) ≡ first_by f xs → first_by f (drop (i + 1) xs) ≡ first_by f xs
  first_next xs i d h e inv =
      let k : i + 1 ≡ suc i = omega arith in
      ap (λ n. first_by f (drop n xs)) k
      ∙ sym (ap (λ o. or_else o (first_by f (drop (suc i) xs))) e)
      ∙ sym (first_turn xs i d h)
      ∙ inv

  pub first_here : (xs : List X) (i : ℕ) (d : X) (a : ℕ) → i < length xs → f (get_or xs i d) ≡ Some a → first_by f (drop i xs) ≡ first_by f xs → Some a ≡ first_by f xs
  first_here xs i d a h e inv =
      sym (ap (λ o. or_else o (first_by f (drop (suc i) xs))) e) ∙ sym (first_turn xs i d h) ∙ inv

  pub first_end : (xs : List X) (i : ℕ) → length xs ≤ i → first_by f (drop i xs) ≡ first_by f xs → None ≡ first_by f xs
  first_end xs i h inv = sym (past xs i h).1 ∙ inv

  -- there is none exactly where no element has one

  lesser_none : (a b : Option ℕ) → lesser a b ≡ None → (a ≡ None) × (b ≡ None)
  lesser_none None b e = (refl, e)
  lesser_none (Some a) None e = cc
  lesser_none (Some a) (Some b) e = cc

  pub no_least : (xs : List X) → least_by f xs ≡ None → All (λ x. f x ≡ None) xs
  no_least [] e = All-nil (λ x. f x ≡ None)
  no_least (x ∷ xs) e = let n = lesser_none (f x) (least_by f xs) e in All-cons (λ x. f x ≡ None) x xs n.0 (no_least xs n.1)

  pub least_none : (xs : List X) → All (λ x. f x ≡ None) xs → least_by f xs ≡ None
  least_none [] a = refl
  least_none (x ∷ xs) a =
      ap (λ o. lesser o (least_by f xs)) (All-head (λ x. f x ≡ None) x xs a) ∙ least_none xs (All-tail (λ x. f x ≡ None) x xs a)

  pub no_first : (xs : List X) → first_by f xs ≡ None → All (λ x. f x ≡ None) xs
  no_first [] e = All-nil (λ x. f x ≡ None)
  no_first (x ∷ xs) e = let n = or_none (f x) (first_by f xs) e in All-cons (λ x. f x ≡ None) x xs n.0 (no_first xs n.1)
    where
      or_none : (a b : Option ℕ) → or_else a b ≡ None → (a ≡ None) × (b ≡ None)
      or_none None b e = (refl, e)
      or_none (Some a) b e = cc

  pub first_none : (xs : List X) → All (λ x. f x ≡ None) xs → first_by f xs ≡ None
  first_none [] a = refl
  first_none (x ∷ xs) a =
      ap (λ o. or_else o (first_by f xs)) (All-head (λ x. f x ≡ None) x xs a) ∙ first_none xs (All-tail (λ x. f x ≡ None) x xs a)

or_none : (a b : Option ℕ) → or_else a b ≡ None → (a ≡ None) × (b ≡ None)
or_none None b e = (refl, e)
or_none (Some a) b e = cc

both_none : (a b : Option ℕ) → a ≡ None → b ≡ None → or_else a b ≡ None
both_none None b e f = f
both_none (Some a) b e f = cc

-- each rule, at one element

not_zero : (n a : ℕ) → n ≤ 1 → (if n == 0 then Some a else None) ≡ None → n ≡ 1
not_zero n a le e = elim (eqb_tells n 0) [
  | inl z ↦ absurd (some_is (n == 0) a z.0 e)
  | inr z ↦ one n le z.1
]
  where
    some_is : (b : Bool) (a : ℕ) → b ≡ true → (if b then Some a else None) ≡ None → ⊥
    some_is true a t e = cc
    some_is false a t e = cc

    one : (n : ℕ) → n ≤ 1 → n ≢ 0 → n ≡ 1
    one n le h = grind arith

held : (hs : List Share) (p : Part) → All IsProper hs → SharesAscend hs → unheld hs p ≡ None → holders hs p.at ≡ 1
held hs p s u e = not_zero (holders hs p.at) p.at (held_once hs p.at s u) e

is_held : (hs : List Share) (p : Part) → holders hs p.at ≡ 1 → unheld hs p ≡ None
is_held hs p e = ap (λ n. if n == 0 then Some p.at else None) e

begun : (hs : List Share) (o : Option ℕ) → unless_begun hs o ≡ None → IfSome o (λ a. begins hs a ≡ true)
begun hs None e = tt
begun hs (Some a) e = by_test (begins hs a) e
  where
    by_test : (b : Bool) → (if b then None else Some a) ≡ None → b ≡ true
    by_test true e = refl
    by_test false e = cc

is_begun : (hs : List Share) (o : Option ℕ) → IfSome o (λ a. begins hs a ≡ true) → unless_begun hs o ≡ None
is_begun hs None e = refl
is_begun hs (Some a) e = ap (λ (b : Bool). if b then None else Some a) e

equal : (t : Table) (s : System) (parts : List Part) (h : Share) → unequal t s parts h ≡ None → h.part ≡ pos (share_sum t s parts h)
equal t s parts h e = (Decides-int_eq h.part (pos (share_sum t s parts h))).0 (by_test (int_eq h.part (pos (share_sum t s parts h))) e)
  where
    by_test : (b : Bool) → (if b then None else Some h.first) ≡ None → b ≡ true
    by_test true e = refl
    by_test false e = cc

is_equal : (t : Table) (s : System) (parts : List Part) (h : Share) → h.part ≡ pos (share_sum t s parts h) → unequal t s parts h ≡ None
is_equal t s parts h e = ap (λ (b : Bool). if b then None else Some h.first) ((Decides-int_eq h.part (pos (share_sum t s parts h))).1 e)

-- all rules

pub fit_where_none : (t : Table) (s : System) (parts : List Part) (hs : List Share) → All IsProper hs → SharesAscend hs → share_fault t s parts hs ≡ None → SharesFit t s parts hs
fit_where_none t s parts hs sh u e =
    let a = or_none (least_by (unheld hs) parts) (or_else (least_by (unbegun hs) s.moves) (first_by (unequal t s parts) hs)) e in
    let b = or_none (least_by (unbegun hs) s.moves) (first_by (unequal t s parts) hs) a.1 in
    record {
      held = All-weaker (λ p. unheld hs p ≡ None) (λ p. holders hs p.at ≡ 1) (λ p h. held hs p sh u h) parts (no_least (unheld hs) parts a.0);
      begun = All-weaker (λ m. unbegun hs m ≡ None) (λ m. IfSome (call_target m) (λ a. begins hs a ≡ true)) (λ m h. begun hs (call_target m) h) s.moves (no_least (unbegun hs) s.moves b.0);
      sums = All-weaker (λ h. unequal t s parts h ≡ None) (λ h. h.part ≡ pos (share_sum t s parts h)) (λ h e. equal t s parts h e) hs (no_first (unequal t s parts) hs b.1);
    }

pub none_where_fit : (t : Table) (s : System) (parts : List Part) (hs : List Share) → SharesFit t s parts hs → share_fault t s parts hs ≡ None
none_where_fit t s parts hs f =
    both_none (least_by (unheld hs) parts) (or_else (least_by (unbegun hs) s.moves) (first_by (unequal t s parts) hs))
    (least_none (unheld hs) parts (All-weaker (λ p. holders hs p.at ≡ 1) (λ p. unheld hs p ≡ None) (λ p h. is_held hs p h) parts f.held))
    (both_none (least_by (unbegun hs) s.moves) (first_by (unequal t s parts) hs)
    (least_none (unbegun hs) s.moves (All-weaker (λ m. IfSome (call_target m) (λ a. begins hs a ≡ true)) (λ m. unbegun hs m ≡ None) (λ m h. is_begun hs (call_target m) h) s.moves f.begun))
    (first_none (unequal t s parts) hs (All-weaker (λ h. h.part ≡ pos (share_sum t s parts h)) (λ h. unequal t s parts h ≡ None) (λ h e. is_equal t s parts h e) hs f.sums)))

-- the code's answer

pub none_is : (o : Option ℕ) → o ≡ None → IsNone o
none_is None e = refl
none_is (Some a) e = cc

is_none : (o : Option ℕ) → IsNone o → o ≡ None
is_none None e = refl
is_none (Some a) e = cc

pub fits : (t : Table) (s : System) (parts : List Part) (hs : List Share) (o : Option ℕ) → All IsProper hs → SharesAscend hs → o ≡ share_fault t s parts hs → IsNone o ↔ SharesFit t s parts hs
fits t s parts hs o sh u e =
    ((λ n. fit_where_none t s parts hs sh u (sym e ∙ is_none o n)), (λ f. none_is o (e ∙ none_where_fit t s parts hs f)))

-- a share that the code has tested
module _ (t : Table) (s : System) (parts : List Part) (hs : List Share) (i : ℕ) (h : Share) (r : Bool) where
  pub first_stop : (k : Share) → i < length hs → h ≡ get_or hs i h → r ≡ int_eq h.part (pos (share_sum t s parts h)) → r ≡ false →
      first_by (unequal t s parts) (drop i hs) ≡ first_by (unequal t s parts) hs → Some (get_or hs i k).first ≡ first_by (unequal t s parts) hs
  first_stop k long e f g inv =
      let one = ap (λ (b : Bool). if b then None else Some h.first) (sym f ∙ g) in
      let here : unequal t s parts (get_or hs i h) ≡ Some (get_or hs i h).first = subst (λ x. unequal t s parts x ≡ Some x.first) e one in
      ap (λ x. Some x.first) (get_or_default hs i k h long) ∙ first_here (unequal t s parts) hs i h (get_or hs i h).first long here inv

  pub first_go : i < length hs → h ≡ get_or hs i h → r ≡ int_eq h.part (pos (share_sum t s parts h)) → r ≡ true →
      first_by (unequal t s parts) (drop i hs) ≡ first_by (unequal t s parts) hs → first_by (unequal t s parts) (drop (i + 1) hs) ≡ first_by (unequal t s parts) hs
  first_go long e f g inv =
      let one = ap (λ (b : Bool). if b then None else Some h.first) (sym f ∙ g) in
      first_next (unequal t s parts) hs i h long (subst (λ x. unequal t s parts x ≡ None) e one) inv
