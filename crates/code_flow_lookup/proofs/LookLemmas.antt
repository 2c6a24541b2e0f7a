-- What a search by address finds is what the definitions say of the whole list.
use Rattle.std.proofs.Common.{◌≡◌, ℕ, zero, suc, ◌<◌, ◌≤◌, ℤ, pos, inl, inr, arith, refl, sym, ap, ◌∙◌, List, [], ◌∷◌, length, get_or, drop, All, Bool, true, false, Option, Some, None}
use Rattle.std.specs.Prelude.{◌==◌, ◌&&◌, ◌<ℤ◌, negsuc, ◌⊎◌, not, if◌then◌else◌}
use Rattle.std.proofs.lemmas.Int.{ints}
use Rattle.std.proofs.lemmas.Bool.Decides.{nat_tests, eqb_tells}
use Rattle.std.proofs.lemmas.List.Elements.{All-head, All-tail, All-weaker}
use Rattle.rv_core.specs.Instructions.{Instruction}
use Rattle.frac128.specs.Terms.{Terms, coefficient}
use Rattle.code_flow_system.specs.declared.moves.Move.{Move}
use Rattle.code_flow_system.specs.declared.cert.Part.{Part}
use Rattle.code_flow_system.specs.Systems.{has_moves}
use Rattle.code_flow_system.specs.MoveCosts.{instruction_among}
use Rattle.code_flow_system.specs.Certificates.{has_move, is_given, listed, whole, IsPart, AddressesAscend, PartsAscend}
use Rattle.code_flow_lookup.specs.Runs.{those_at}
use Rattle.code_flow_lookup.proofs.RunLemmas.{same_test, other_test}

abbrev pub is_nil : {X : Type 0} → List X → Bool
is_nil [] = true
is_nil (x ∷ xs) = false

more_than_none : (n : ℕ) → (suc n == 0) ≡ false
more_than_none n = grind (arith, nat_tests)

pub nil_is : {X : Type 0} (xs : List X) (b : Bool) → b ≡ (length xs == 0) → b ≡ is_nil xs
nil_is [] b e = e
nil_is (x ∷ xs) b e = e ∙ more_than_none (length xs)

pub has_moves-those : (ms : List Move) (a : ℕ) → not (is_nil (those_at (λ m. m.at) a ms)) ≡ has_moves ms a
has_moves-those [] a = refl
has_moves-those (m ∷ ms) a = by_test (m.at == a) (has_moves-those ms a)
  where
    by_test : (b : Bool) → not (is_nil (those_at (λ m. m.at) a ms)) ≡ has_moves ms a →
        not (is_nil (if b then m ∷ those_at (λ m. m.at) a ms else those_at (λ m. m.at) a ms)) ≡ (if b then true else has_moves ms a)
    by_test true r = refl
    by_test false r = r

pub is_given-those : (ts : Terms) (a : ℕ) → not (is_nil (those_at (λ t. t.0) a ts)) ≡ is_given ts a
is_given-those [] a = refl
is_given-those (t ∷ ts) a = by_test (t.0 == a) (is_given-those ts a)
  where
    by_test : (b : Bool) → not (is_nil (those_at (λ t. t.0) a ts)) ≡ is_given ts a →
        not (is_nil (if b then t ∷ those_at (λ t. t.0) a ts else those_at (λ t. t.0) a ts)) ≡ (if b then true else is_given ts a)
    by_test true r = refl
    by_test false r = r

abbrev pub first_instruction : List Move → Option Instruction
first_instruction [] = None
first_instruction (m ∷ ms) = Some m.instr

pub instruction-those : (ms : List Move) (a : ℕ) → first_instruction (those_at (λ m. m.at) a ms) ≡ instruction_among ms a
instruction-those [] a = refl
instruction-those (m ∷ ms) a = by_test (m.at == a) (instruction-those ms a)
  where
    by_test : (b : Bool) → first_instruction (those_at (λ m. m.at) a ms) ≡ instruction_among ms a →
        first_instruction (if b then m ∷ those_at (λ m. m.at) a ms else those_at (λ m. m.at) a ms) ≡ (if b then Some m.instr else instruction_among ms a)
    by_test true r = refl
    by_test false r = r

-- a move of that number
abbrev pub has_number : List Move → ℕ → Bool
has_number [] k = false
has_number (m ∷ ms) k = if m.number == k then true else has_number ms k

has_number-if : (b : Bool) (m : Move) (ms : List Move) (k : ℕ) → has_number (if b then m ∷ ms else ms) k ≡ (if b && (m.number == k) then true else has_number ms k)
has_number-if true m ms k = refl
has_number-if false m ms k = refl

pub has_move-those : (ms : List Move) (a k : ℕ) → has_number (those_at (λ m. m.at) a ms) k ≡ has_move ms a k
has_move-those [] a k = refl
has_move-those (m ∷ ms) a k =
    has_number-if (m.at == a) m (those_at (λ m. m.at) a ms) k
    ∙ ap (λ (c : Bool). if (m.at == a) && (m.number == k) then true else c) (has_move-those ms a k)

-- potentials

abbrev pub first_value : Terms → ℤ
first_value [] = pos 0
first_value (t ∷ ts) = t.1

coefficient-above : (ts : Terms) (a : ℕ) → All (λ u. a < u.0) ts → coefficient ts a ≡ pos 0
coefficient-above [] a h = refl
coefficient-above (t ∷ ts) a h =
    let r = coefficient-above ts a (All-tail (λ u. a < u.0) t ts h) in
    let l = All-head (λ u. a < u.0) t ts h in
    let e = ap (λ (b : Bool). if b then t.1 else pos 0) (other_test t.0 a (λ e. omega arith)) in
    omega (arith, ints)

those-if : {X : Type 0} (key : X → ℕ) (a : ℕ) (x : X) (xs : List X) (b : Bool) → (key x == a) ≡ b → those_at key a (x ∷ xs) ≡ (if b then x ∷ those_at key a xs else those_at key a xs)
those-if key a x xs b e = ap (λ (c : Bool). if c then x ∷ those_at key a xs else those_at key a xs) e

pub coefficient-those : (ts : Terms) (a : ℕ) → AddressesAscend ts → first_value (those_at (λ t. t.0) a ts) ≡ coefficient ts a
coefficient-those [] a h = refl
coefficient-those (t ∷ ts) a h = elim (eqb_tells t.0 a) [
  | inl e ↦
      let f = ap (λ (b : Bool). if b then t.1 else pos 0) (same_test t.0 a e.1) in
      let r = coefficient-above ts a (All-weaker (λ u. t.0 < u.0) (λ u. a < u.0) (λ u l. omega (arith, e.1)) ts h.0) in
      ap first_value (those-if (λ t. t.0) a t ts true (same_test t.0 a e.1)) ∙ omega (arith, ints)
  | inr e ↦
      let f = ap (λ (b : Bool). if b then t.1 else pos 0) (other_test t.0 a e.1) in
      let r = coefficient-those ts a h.1 in
      ap first_value (those-if (λ t. t.0) a t ts false (other_test t.0 a e.1)) ∙ omega (arith, ints)
]

-- parts

abbrev pub first_part : List Part → ℕ → ℤ
first_part [] k = pos 0
first_part (p ∷ ps) k = if p.number == k then p.part else first_part ps k

first_part-if : (b : Bool) (p : Part) (ps : List Part) (k : ℕ) → first_part (if b then p ∷ ps else ps) k ≡ (if b && (p.number == k) then p.part else first_part ps k)
first_part-if true p ps k = refl
first_part-if false p ps k = refl

abbrev IsBehind : ℕ → ℕ → Part → Type 0
IsBehind a k q = (a < q.at) ⊎ ((a ≡ q.at) × (k < q.number))

not_both : (a b k n : ℕ) → (a < b) ⊎ ((a ≡ b) × (k < n)) → ((b == a) && (n == k)) ≡ false
not_both a b k n h = elim h [
  | inl l ↦ ap (λ (c : Bool). c && (n == k)) (other_test b a (λ e. omega arith))
  | inr l ↦ right (b == a) (n == k) (other_test n k (λ e. omega (arith, l.1)))
]
  where
    right : (p q : Bool) → q ≡ false → (p && q) ≡ false
    right true q e = e
    right false q e = refl

listed-behind : (ps : List Part) (a k : ℕ) → All (IsBehind a k) ps → listed ps a k ≡ 0
listed-behind [] a k h = refl
listed-behind (p ∷ ps) a k h =
    let r = listed-behind ps a k (All-tail (IsBehind a k) p ps h) in
    let e = ap (λ (b : Bool). if b then whole p.part else 0) (not_both a p.at k p.number (All-head (IsBehind a k) p ps h)) in
    omega arith

whole-positive : (z : ℤ) → pos 0 <ℤ z → pos (whole z) ≡ z
whole-positive (pos n) h = refl
whole-positive (negsuc n) h = absurd (omega (arith, ints))

here_test : (a b k n : ℕ) → ((a ≡ b) × (k ≡ n)) ⊎ (((a == b) && (k == n)) ≡ false)
here_test a b k n = elim (eqb_tells a b) [
  | inl e ↦ elim (eqb_tells k n) [
    | inl f ↦ inl (e.1, f.1)
    | inr f ↦ inr (right (a == b) (k == n) (other_test k n f.1))
  ]
  | inr e ↦ inr (ap (λ (c : Bool). c && (k == n)) (other_test a b e.1))
]
  where
    right : (p q : Bool) → q ≡ false → (p && q) ≡ false
    right true q e = e
    right false q e = refl

both : (a b k n : ℕ) → a ≡ b → k ≡ n → ((a == b) && (k == n)) ≡ true
both a b k n e f = ap (λ (c : Bool). c && (k == n)) (same_test a b e) ∙ same_test k n f

pub listed-those : (ps : List Part) (a k : ℕ) → PartsAscend ps → All IsPart ps → first_part (those_at (λ p. p.at) a ps) k ≡ pos (listed ps a k)
listed-those [] a k h parts = refl
listed-those (p ∷ ps) a k h parts =
    first_part-if (p.at == a) p (those_at (λ p. p.at) a ps) k
    ∙ elim (here_test p.at a p.number k) [
      | inl e ↦
          let test = both p.at a p.number k e.0 e.1 in
          let f = ap (λ (b : Bool). if b then whole p.part else 0) test in
          let g = ap (λ (b : Bool). if b then p.part else first_part (those_at (λ p. p.at) a ps) k) test in
          let r = listed-behind ps a k (All-weaker (λ q. (p.at < q.at) ⊎ ((p.at ≡ q.at) × (p.number < q.number))) (IsBehind a k) (λ q l. elim l [ inl x ↦ inl (omega (arith, e.0)) | inr x ↦ inr (sym e.0 ∙ x.0, omega (arith, e.1, x.1)) ]) ps h.0) in
          let w = whole-positive p.part (All-head IsPart p ps parts).positive in
          g ∙ sym w ∙ ap pos (omega arith)
      | inr e ↦
          let f = ap (λ (b : Bool). if b then whole p.part else 0) e in
          let g = ap (λ (b : Bool). if b then p.part else first_part (those_at (λ p. p.at) a ps) k) e in
          let r = listed-those ps a k h.1 (All-tail IsPart p ps parts) in
          g ∙ r ∙ ap pos (omega arith)
    ]

-- the first of a list, as the code reads it

pub no_first : (ms : List Move) (b : Bool) → b ≡ (length ms == 0) → b ≡ true → None ≡ first_instruction ms
no_first [] b e t = refl
no_first (m ∷ ms) b e t = let f : false ≡ true = sym (e ∙ more_than_none (length ms)) ∙ t in cc

pub some_first : (ms : List Move) (d : Move) (b : Bool) → b ≡ (length ms == 0) → b ≡ false → Some (get_or ms 0 d).instr ≡ first_instruction ms
some_first [] d b e t = let f : true ≡ false = sym e ∙ t in cc
some_first (m ∷ ms) d b e t = refl

pub no_value : (ts : Terms) (b : Bool) → b ≡ (length ts == 0) → b ≡ true → pos 0 ≡ first_value ts
no_value [] b e t = refl
no_value (x ∷ ts) b e t = let f : false ≡ true = sym (e ∙ more_than_none (length ts)) ∙ t in cc

pub some_value : (ts : Terms) (d : ℕ × ℤ) (b : Bool) → b ≡ (length ts == 0) → b ≡ false → (get_or ts 0 d).1 ≡ first_value ts
some_value [] d b e t = let f : true ≡ false = sym e ∙ t in cc
some_value (x ∷ ts) d b e t = refl

-- the turns of loops

pub number_here : (ms : List Move) (i k : ℕ) (d : Move) → i < length ms → ((get_or ms i d).number == k) ≡ true → has_number (drop i ms) k ≡ true
number_here [] i k d h e = absurd (omega arith)
number_here (m ∷ ms) zero k d h e = ap (λ (b : Bool). if b then true else has_number ms k) e
number_here (m ∷ ms) (suc i) k d h e = number_here ms i k d (omega arith) e

pub no_number : (ms : List Move) (i k : ℕ) → length ms ≤ i → has_number (drop i ms) k ≡ false
no_number [] i k h = none i
  where
    none : (i : ℕ) → has_number (drop i []) k ≡ false
    none zero = refl
    none (suc i) = refl
no_number (m ∷ ms) zero k h = absurd (omega arith)
no_number (m ∷ ms) (suc i) k h = no_number ms i k (omega arith)

pub part_here : (ps : List Part) (i k : ℕ) (d : Part) → i < length ps → ((get_or ps i d).number == k) ≡ true → first_part (drop i ps) k ≡ (get_or ps i d).part
part_here [] i k d h e = absurd (omega arith)
part_here (p ∷ ps) zero k d h e = ap (λ (b : Bool). if b then p.part else first_part ps k) e
part_here (p ∷ ps) (suc i) k d h e = part_here ps i k d (omega arith) e

pub no_part : (ps : List Part) (i k : ℕ) → length ps ≤ i → first_part (drop i ps) k ≡ pos 0
no_part [] i k h = none i
  where
    none : (i : ℕ) → first_part (drop i []) k ≡ pos 0
    none zero = refl
    none (suc i) = refl
no_part (p ∷ ps) zero k h = absurd (omega arith)
no_part (p ∷ ps) (suc i) k h = no_part ps i k (omega arith)
