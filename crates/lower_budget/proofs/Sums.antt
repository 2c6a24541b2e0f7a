-- Blocks as often as loops start them.
use Rattle.std.proofs.Common.{◌≡◌, ℕ, ◌+◌, ◌*◌, ◌<◌, ◌≤◌, Bool, true, false, List, [], ◌∷◌, ◌++◌, length, Option, Some, None, refl, sym, ap, ◌∙◌, arith, length-append}
use Rattle.std.specs.Prelude.{◌&&◌, if◌then◌else◌, nat_le}
use Rattle.std.proofs.Math.Nat.{mul_assoc}
use Rattle.std.proofs.lemmas.Bool.{and_parts}
use Rattle.std.proofs.lemmas.Bool.Decides.{nat_tests}
use Rattle.low_ir.specs.Code.{Block, End, Jump, Branch, Return, Loop, Note}
use Rattle.lower_definition.specs.Operators.{Code}
use Rattle.lower_definition.specs.Statements.{Piece, landed, landed_by}
use Rattle.lower_nesting.specs.Segments.{AllInside}

mul-assoc : (a b c : ℕ) → a * (b * c) ≡ a * b * c
mul-assoc a b c = sym (mul_assoc a b c)

pub mul-add : (m x y : ℕ) → m * x + m * y ≡ m * (x + y)
mul-add m x y = omega arith

-- how often a block starts for each start of the code around it, by numbers from the end of a function
module _ (mult : ℕ → ℕ) where
  abbrev pub among : Loop → ℕ → Bool
  among l i = nat_le l.latch i && nat_le i l.header

  abbrev pub repeats : List Loop → ℕ → ℕ
  repeats [] i = 1
  repeats (l ∷ ls) i = (if among l i then mult l.most else 1) * repeats ls i

  le_true : (a b : ℕ) → nat_le a b ≡ true → a ≤ b
  le_true a b t = grind (arith, nat_tests, t)

  true_le : (a b : ℕ) → a ≤ b → nat_le a b ≡ true
  true_le a b h = grind (arith, nat_tests, h)

  pub repeats-append : (xs ys : List Loop) (i : ℕ) → repeats (xs ++ ys) i ≡ repeats xs i * repeats ys i
  repeats-append [] ys i = omega arith
  repeats-append (x ∷ xs) ys i =
      let h = repeats-append xs ys i in
      let a = if among x i then mult x.most else 1 in
      ap (λ n. a * n) h ∙ mul-assoc a (repeats xs i) (repeats ys i)

  one_apart : (l : Loop) (i : ℕ) → (l.latch ≤ i → i ≤ l.header → ⊥) → (if among l i then mult l.most else 1) ≡ 1
  one_apart l i apart = by_test (among l i) refl
    where
      by_test : (b : Bool) → among l i ≡ b → (if b then mult l.most else 1) ≡ 1
      by_test true e = let k = and_parts (nat_le l.latch i) (nat_le i l.header) e in absurd (apart (le_true l.latch i k.0) (le_true i l.header k.1))
      by_test false e = refl

  pub inside_one : (l : Loop) (i : ℕ) → l.latch ≤ i → i ≤ l.header → (if among l i then mult l.most else 1) ≡ mult l.most
  inside_one l i low high =
      ap (λ b. if b && nat_le i l.header then mult l.most else 1) (true_le l.latch i low)
      ∙ ap (λ b. if b then mult l.most else 1) (true_le i l.header high)

  pub repeats_behind : (n m i : ℕ) (ls : List Loop) → AllInside n m ls → i < n → repeats ls i ≡ 1
  repeats_behind n m i [] inside low = refl
  repeats_behind n m i (l ∷ ls) inside low =
      let a = inside.0.latch in
      let h = repeats_behind n m i ls inside.1 low in
      ap (λ x. x * repeats ls i) (one_apart l i (λ x y. omega (arith, a, low, x))) ∙ ap (λ x. 1 * x) h

  pub repeats_before : (n m i : ℕ) (ls : List Loop) → AllInside n m ls → n + m ≤ i → repeats ls i ≡ 1
  repeats_before n m i [] inside low = refl
  repeats_before n m i (l ∷ ls) inside low =
      let a = inside.0.header in
      let h = repeats_before n m i ls inside.1 low in
      ap (λ x. x * repeats ls i) (one_apart l i (λ x y. omega (arith, a, low, y))) ∙ ap (λ x. 1 * x) h

  module _ (W : Block ℕ Note → ℕ) where
    abbrev pub weighted : List Loop → ℕ → List (Block ℕ Note) → ℕ
    weighted ls n [] = 0
    weighted ls n (b ∷ bs) = repeats ls (n + length bs) * W b + weighted ls n bs

    pub weighted-append : (ls : List Loop) (n : ℕ) (xs ys : List (Block ℕ Note)) → weighted ls n (xs ++ ys) ≡ weighted ls (n + length ys) xs + weighted ls n ys
    weighted-append ls n [] ys = omega arith
    weighted-append ls n (x ∷ xs) ys =
        let h = weighted-append ls n xs ys in
        let total = length-append xs ys in
        let at : n + length (xs ++ ys) ≡ n + length ys + length xs = omega (arith, total) in
        let e = ap (λ i. repeats ls i * W x) at in
        omega (arith, h, e)

    pub weighted_same : (ls ms : List Loop) (n : ℕ) (bs : List (Block ℕ Note)) → ((i : ℕ) → n ≤ i → i < n + length bs → repeats ls i ≡ repeats ms i) → weighted ls n bs ≡ weighted ms n bs
    weighted_same ls ms n [] same = refl
    weighted_same ls ms n (b ∷ bs) same =
        let h = weighted_same ls ms n bs (λ i low high. same i low (omega (arith, high))) in
        let e = ap (λ x. x * W b) (same (n + length bs) (omega arith) (omega arith)) in
        omega (arith, h, e)

    pub weighted_times : (m : ℕ) (ls ms : List Loop) (n : ℕ) (bs : List (Block ℕ Note)) → ((i : ℕ) → n ≤ i → i < n + length bs → repeats ls i ≡ m * repeats ms i) → weighted ls n bs ≡ m * weighted ms n bs
    weighted_times m ls ms n [] same = omega arith
    weighted_times m ls ms n (b ∷ bs) same =
        let h = weighted_times m ls ms n bs (λ i low high. same i low (omega (arith, high))) in
        let r = repeats ms (n + length bs) in
        let e : repeats ls (n + length bs) * W b ≡ m * (r * W b) = ap (λ x. x * W b) (same (n + length bs) (omega arith) (omega arith)) ∙ sym (mul-assoc m r (W b)) in
        let d = mul-add m (r * W b) (weighted ms n bs) in
        omega (arith, h, e, d)

    pub weighted_landed : (n : ℕ) (p : Piece) → AllInside n (length p.new) p.loops → weighted p.loops n (landed n p).new ≤ W p.first + weighted p.loops n p.new
    weighted_landed n p inside = by_first p.first.mark p.first.code p.first.end
      where
        all : weighted p.loops n (p.first ∷ p.new) ≤ W p.first + weighted p.loops n p.new
        all =
            let one = repeats_before n (length p.new) (n + length p.new) p.loops inside (omega arith) in
            let e : repeats p.loops (n + length p.new) * W p.first ≡ 1 * W p.first = ap (λ x. x * W p.first) one in
            omega (arith, e)

        by_first : (m : Option ℕ) (c : Code) (e : End ℕ) → weighted p.loops n (landed_by m c e n p).new ≤ W p.first + weighted p.loops n p.new
        by_first (Some m) c e = all
        by_first None (i ∷ is) e = all
        by_first None [] (Branch c x y taken other) = all
        by_first None [] (Return x) = all
        by_first None [] (Jump b) = omega arith
