-- The words of a block one by one: what each costs, and what is left to pay from each on.
use Rattle.std.proofs.Common.{◌≡◌, ℕ, zero, suc, ◌+◌, ◌*◌, ◌<◌, ◌≤◌, Bool, true, false, inl, inr, List, [], ◌∷◌, ◌++◌, length, refl, ap, ◌∙◌, arith}
use Rattle.asm_items.specs.declared.item.Form.{Form}
use Rattle.asm_items.specs.declared.item.Form.TheVariants.{Short, Inverted, Far}
use Rattle.asm_items.specs.declared.item.Item.{Item}
use Rattle.asm_items.specs.declared.item.Item.TheVariants.{Single, Jump, Call, Branch, Return, Exit}
use Rattle.asm_items.specs.Items.{size, total}
use Rattle.asm_items.specs.Outcomes.{IsWordOf, IsWord}
use Rattle.asm_prices.specs.Worths.{item_price, items_price}

-- rows of numbers

abbrev pub pay : List ℕ → ℕ → ℕ
pay [] k = 0
pay (q ∷ qs) zero = q
pay (q ∷ qs) (suc k) = pay qs k

-- those from place k on, added
abbrev pub rest : List ℕ → ℕ → ℕ
rest [] k = 0
rest (q ∷ qs) zero = q + rest qs zero
rest (q ∷ qs) (suc k) = rest qs k

rest_le : (qs : List ℕ) (j : ℕ) → rest qs j ≤ rest qs 0
rest_le [] j = omega arith
rest_le (q ∷ qs) zero = omega arith
rest_le (q ∷ qs) (suc j) = let r = rest_le qs j in omega arith

pub rest_falls : (qs : List ℕ) (i j : ℕ) → i ≤ j → rest qs j ≤ rest qs i
rest_falls [] i j h = omega arith
rest_falls (q ∷ qs) zero j h = rest_le (q ∷ qs) j
rest_falls (q ∷ qs) (suc i) zero h = absurd (omega arith)
rest_falls (q ∷ qs) (suc i) (suc j) h = rest_falls qs i j (omega arith)

pub rest_next : (qs : List ℕ) (k : ℕ) → k < length qs → rest qs k ≡ pay qs k + rest qs (suc k)
rest_next [] k h = absurd (omega arith)
rest_next (q ∷ qs) zero h = refl
rest_next (q ∷ qs) (suc k) h = rest_next qs k (omega arith)

rest_append : (ps qs : List ℕ) → rest (ps ++ qs) 0 ≡ rest ps 0 + rest qs 0
rest_append [] qs = omega arith
rest_append (p ∷ ps) qs = let r = rest_append ps qs in omega arith

length_both : (ps qs : List ℕ) → length (ps ++ qs) ≡ length ps + length qs
length_both [] qs = omega arith
length_both (p ∷ ps) qs = let r = length_both ps qs in omega arith

pay_front : (ps qs : List ℕ) (k : ℕ) → k < length ps → pay (ps ++ qs) k ≡ pay ps k
pay_front [] qs k h = absurd (omega arith)
pay_front (p ∷ ps) qs zero h = refl
pay_front (p ∷ ps) qs (suc k) h = pay_front ps qs k (omega arith)

pay_behind : (ps qs : List ℕ) (k : ℕ) → pay (ps ++ qs) (length ps + k) ≡ pay qs k
pay_behind [] qs k = let e : 0 + k ≡ k = omega arith in ap (pay qs) e
pay_behind (p ∷ ps) qs k = let e : suc (length ps) + k ≡ suc (length ps + k) = omega arith in ap (pay (p ∷ (ps ++ qs))) e ∙ pay_behind ps qs k

-- the numbers of words

module _ (of worth : ℕ → ℕ) where
  -- a call's function is paid by its last word
  abbrev pub jump_prices : Bool → ℕ → ℕ → List ℕ
  jump_prices false a n = (of a + n) ∷ []
  jump_prices true a n = of a ∷ (of (a + 4) + n) ∷ []

  abbrev pub branch_prices : Form → ℕ → List ℕ
  branch_prices Short a = of a ∷ []
  branch_prices Inverted a = of a ∷ of (a + 4) ∷ []
  branch_prices Far a = of a ∷ of (a + 4) ∷ of (a + 4 + 4) ∷ []

  abbrev pub item_prices : ℕ → Item → List ℕ
  item_prices a (Single i) = of a ∷ []
  item_prices a (Jump far n) = jump_prices far a 0
  item_prices a (Call far f) = jump_prices far a (worth f)
  item_prices a (Branch form c x y n) = branch_prices form a
  item_prices a Return = of a ∷ []
  item_prices a Exit = of a ∷ []

  abbrev pub word_prices : ℕ → List Item → List ℕ
  word_prices a [] = []
  word_prices a (x ∷ xs) = item_prices a x ++ word_prices (a + size x) xs

  item_sum : (x : Item) (a : ℕ) → rest (item_prices a x) 0 ≡ item_price of worth a x
  item_sum (Single i) a = omega arith
  item_sum (Jump false n) a = omega arith
  item_sum (Jump true n) a = omega arith
  item_sum (Call false f) a = omega arith
  item_sum (Call true f) a = omega arith
  item_sum (Branch Short c x y n) a = omega arith
  item_sum (Branch Inverted c x y n) a = omega arith
  item_sum (Branch Far c x y n) a = omega arith
  item_sum Return a = omega arith
  item_sum Exit a = omega arith

  pub rest-word_prices : (xs : List Item) (a : ℕ) → rest (word_prices a xs) 0 ≡ items_price of worth a xs
  rest-word_prices [] a = refl
  rest-word_prices (x ∷ xs) a =
      let r = rest-word_prices xs (a + size x) in
      let e = item_sum x a in
      let s = rest_append (item_prices a x) (word_prices (a + size x) xs) in omega arith

  item_count : (x : Item) (a : ℕ) → 4 * length (item_prices a x) ≡ size x
  item_count (Single i) a = refl
  item_count (Jump false n) a = refl
  item_count (Jump true n) a = refl
  item_count (Call false f) a = refl
  item_count (Call true f) a = refl
  item_count (Branch Short c x y n) a = refl
  item_count (Branch Inverted c x y n) a = refl
  item_count (Branch Far c x y n) a = refl
  item_count Return a = refl
  item_count Exit a = refl

  pub length-word_prices : (xs : List Item) (a : ℕ) → 4 * length (word_prices a xs) ≡ total xs
  length-word_prices [] a = refl
  length-word_prices (x ∷ xs) a =
      let r = length-word_prices xs (a + size x) in
      let e = item_count x a in
      let s = length_both (item_prices a x) (word_prices (a + size x) xs) in omega arith

  -- a number of the row is that of the word at an address, and covers the price there and n beside
  pub record Covers (qs : List ℕ) (at a n : ℕ) : Type 0 where
    pub place : ℕ
    pub in_row : place < length qs
    pub is : a ≡ at + 4 * place
    pub paid : of a + n ≤ pay qs place

  pub covers_front : (x : Item) (xs : List Item) (at a n : ℕ) → Covers (item_prices at x) at a n → Covers (word_prices at (x ∷ xs)) at a n
  covers_front x xs at a n h =
      let s = length_both (item_prices at x) (word_prices (at + size x) xs) in
      let i = h.in_row in
      let e = pay_front (item_prices at x) (word_prices (at + size x) xs) h.place h.in_row in
      let q = h.paid in
      record { place = h.place; in_row = omega arith; is = h.is; paid = omega arith }

  pub covers_behind : (x : Item) (xs : List Item) (at a n : ℕ) → Covers (word_prices (at + size x) xs) (at + size x) a n → Covers (word_prices at (x ∷ xs)) at a n
  covers_behind x xs at a n h =
      let s = length_both (item_prices at x) (word_prices (at + size x) xs) in
      let c = item_count x at in
      let i = h.in_row in
      let d = h.is in
      let e = pay_behind (item_prices at x) (word_prices (at + size x) xs) h.place in
      let q = h.paid in
      record { place = length (item_prices at x) + h.place; in_row = omega arith; is = omega arith; paid = omega arith }

  first_covers : (qs : List ℕ) (at a q n : ℕ) → a ≡ at → of at + n ≤ q → Covers (q ∷ qs) at a n
  first_covers qs at a q n e h = let s = ap of e in record { place = 0; in_row = omega arith; is = omega arith; paid = omega arith }

  second_covers : (qs : List ℕ) (at a p q n : ℕ) → a ≡ at + 4 → of (at + 4) + n ≤ q → Covers (p ∷ q ∷ qs) at a n
  second_covers qs at a p q n e h = let s = ap of e in record { place = 1; in_row = omega arith; is = omega arith; paid = omega arith }

  third_covers : (at a o p q : ℕ) → a ≡ at + 4 + 4 → of (at + 4 + 4) ≤ q → Covers (o ∷ p ∷ q ∷ []) at a 0
  third_covers at a o p q e h = let s = ap of e in record { place = 2; in_row = omega arith; is = omega arith; paid = omega arith }

  pub near_call : (at a f : ℕ) → a ≡ at → Covers (jump_prices false at (worth f)) at a (worth f)
  near_call at a f e = first_covers [] at a (of at + worth f) (worth f) e (omega arith)

  pub far_call : (at a f : ℕ) → a ≡ at + 4 → Covers (jump_prices true at (worth f)) at a (worth f)
  far_call at a f e = second_covers [] at a (of at) (of (at + 4) + worth f) (worth f) e (omega arith)

  item_word : (x : Item) (at a : ℕ) (low : Bool) → IsWordOf x at a low → Covers (item_prices at x) at a 0
  item_word (Single i) at a false w = first_covers [] at a _ 0 w (omega arith)
  item_word (Single i) at a true w = absurd w
  item_word (Jump false n) at a false w = first_covers [] at a (of at + 0) 0 w (omega arith)
  item_word (Jump false n) at a true w = absurd w
  item_word (Jump true n) at a false w = first_covers _ at a (of at) 0 w (omega arith)
  item_word (Jump true n) at a true w = second_covers [] at a (of at) (of (at + 4) + 0) 0 w (omega arith)
  item_word (Call false f) at a false w = first_covers [] at a (of at + worth f) 0 w (omega arith)
  item_word (Call false f) at a true w = absurd w
  item_word (Call true f) at a false w = first_covers _ at a (of at) 0 w (omega arith)
  item_word (Call true f) at a true w = second_covers [] at a (of at) (of (at + 4) + worth f) 0 w (omega arith)
  item_word (Branch Short c x y n) at a false w = first_covers [] at a (of at) 0 w (omega arith)
  item_word (Branch Short c x y n) at a true w = absurd w
  item_word (Branch Inverted c x y n) at a false (inl w) = first_covers _ at a (of at) 0 w (omega arith)
  item_word (Branch Inverted c x y n) at a false (inr w) = second_covers [] at a (of at) (of (at + 4)) 0 w (omega arith)
  item_word (Branch Inverted c x y n) at a true (inl w) = absurd w
  item_word (Branch Inverted c x y n) at a true (inr w) = absurd w
  item_word (Branch Far c x y n) at a false (inl w) = first_covers _ at a (of at) 0 w (omega arith)
  item_word (Branch Far c x y n) at a false (inr w) = second_covers _ at a (of at) (of (at + 4)) 0 w (omega arith)
  item_word (Branch Far c x y n) at a true (inl w) = absurd w
  item_word (Branch Far c x y n) at a true (inr w) = third_covers at a (of at) (of (at + 4)) (of (at + 4 + 4)) w (omega arith)
  item_word Return at a false w = first_covers [] at a (of at) 0 w (omega arith)
  item_word Return at a true w = absurd w
  item_word Exit at a false w = first_covers [] at a (of at) 0 w (omega arith)
  item_word Exit at a true w = absurd w

  -- each word has its number
  pub word_covers : (xs : List Item) (at a : ℕ) (low : Bool) → IsWord at xs a low → Covers (word_prices at xs) at a 0
  word_covers [] at a low w = absurd w
  word_covers (x ∷ xs) at a low (inl w) = covers_front x xs at a 0 (item_word x at a low w)
  word_covers (x ∷ xs) at a low (inr w) = covers_behind x xs at a 0 (word_covers xs (at + size x) a low w)
