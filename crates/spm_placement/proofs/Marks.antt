-- Marks of listed numbers.
use Rattle.std.proofs.Common.{◌≡◌, ◌≢◌, ℕ, ◌+◌, ◌-◌, ◌<◌, ◌≤◌, inl, inr, slice_set, Bool, true, false, ◌||◌, ◌==◌, List, length, drop, get_or, replicate, refl, sym, ap, ◌∙◌, arith}
use Rattle.std.proofs.lemmas.Bool.{cases_eq, eq-eqb, ne_eqb}
use Rattle.std.proofs.lemmas.List.{drop_all, drop_more, get_or-replicate, get_or-set_other, get_or-set_same, length-replicate}
use Rattle.image_frames.specs.Placings.{HasPlaced, is_among, mark_at}

or_assoc : (a b c : Bool) → ((a || b) || c) ≡ (a || (b || c))
or_assoc true b c = refl
or_assoc false b c = refl

or_true : (a : Bool) → (a || true) ≡ true
or_true true = refl
or_true false = refl

or_none : (a : Bool) → (a || false) ≡ a
or_none true = refl
or_none false = refl

-- one more number is marked
pub mark_next : (ids : List ℕ) (i n : ℕ) (now next : Bool) → i < length ids → next ≡ (now || (get_or ids i 0 == n)) → (next || is_among (drop (i + 1) ids) n) ≡ (now || is_among (drop i ids) n)
mark_next ids i n now next lt e =
    let rest = is_among (drop (i + 1) ids) n in
    let cut : is_among (drop i ids) n ≡ ((get_or ids i 0 == n) || rest) = ap (λ xs. is_among xs n) (drop_more ids i 0 lt) in
    ap (λ b. b || rest) e ∙ (or_assoc now (get_or ids i 0 == n) rest ∙ ap (λ b. now || b) (sym cut))

pub marks_end : (ids : List ℕ) (i n : ℕ) (now : Bool) → length ids ≤ i → (now || is_among (drop i ids) n) ≡ is_among ids n → now ≡ is_among ids n
marks_end ids i n now le h = sym (ap (λ xs. now || is_among xs n) (drop_all i ids le) ∙ or_none now) ∙ h

pub marks_none : (marks : List Bool) (n : ℕ) → marks ≡ replicate n false → (k : ℕ) → k < length marks → mark_at marks k ≡ false
marks_none marks n e k lt =
    let long : k < n = (let a = ap length e in let b = length-replicate n false in omega (arith, lt, a, b)) in
    ap (λ m. mark_at m k) e ∙ get_or-replicate n k false false long

-- one number is marked, if it has a mark

open_or : (a : Bool) (m n : ℕ) → m ≢ n → a ≡ (a || (m == n))
open_or a m n d = sym (ap (λ b. a || b) (ne_eqb m n d) ∙ or_none a)

pub mark_below : (marks : List Bool) (first id k : ℕ) → id < first → mark_at marks k ≡ (mark_at marks k || (id == first + k))
mark_below marks first id k lt = open_or (mark_at marks k) id (first + k) (λ e. omega (arith, lt, e))

pub mark_above : (marks : List Bool) (first id k : ℕ) → first ≤ id → length marks ≤ id - first → k < length marks → mark_at marks k ≡ (mark_at marks k || (id == first + k))
mark_above marks first id k least le lt = open_or (mark_at marks k) id (first + k) (λ e. omega (arith, least, le, lt, e))

pub mark_there : (marks new : List Bool) (first id k : ℕ) → first ≤ id → id - first < length marks → new ≡ slice_set marks (id - first) true → mark_at new k ≡ (mark_at marks k || (id == first + k))
mark_there marks new first id k least lt e = elim (cases_eq k (id - first)) [
  | inl here ↦
      let same : id ≡ first + k = omega (arith, here, least) in
      ap (λ m. mark_at m k) e
      ∙ (ap (λ n. mark_at (slice_set marks (id - first) true) n) here
      ∙ (get_or-set_same marks (id - first) true false lt ∙ sym (ap (λ b. mark_at marks k || b) (eq-eqb id (first + k) same) ∙ or_true (mark_at marks k))))
  | inr other ↦
      ap (λ m. mark_at m k) e
      ∙ (get_or-set_other marks (id - first) k true false other ∙ open_or (mark_at marks k) id (first + k) (λ q. other (omega (arith, q, least))))
]

pub placed_is : (ids : List ℕ) (fs os : ℕ) (functions objects : List Bool) → length functions ≡ fs → ((k : ℕ) → k < fs → mark_at functions k ≡ is_among ids (0 + k)) → length objects ≡ os → ((k : ℕ) → k < os → mark_at objects k ≡ is_among ids (fs + k))
    → HasPlaced ids fs os (record { functions = functions; objects = objects })
placed_is ids fs os functions objects own_long own long marks = record {
  function_count = own_long;
  array_count = long;
  functions = λ f lt. let e : 0 + f ≡ f = omega arith in own f lt ∙ ap (is_among ids) e;
  arrays = marks;
}
