-- The most that items are worth: no part that fits is worth more, and it is small where gains are.
use Rattle.std.proofs.Common.{◌≡◌, ℕ, ◌+◌, ◌-◌, ◌*◌, ◌^◌, ◌<◌, ◌≤◌, max, inl, inr, if◌then◌else◌, ℤ, pos, negsuc, unsigned_abs, ◌≤ℤ◌, ◌<ℤ◌, List, [], ◌∷◌, length, All, refl, sym, ap, arith}
use Rattle.std.proofs.lemmas.Bool.{cases_lt, le-ltb, lt-ltb}
use Rattle.std.proofs.lemmas.Int.{ints}
use Rattle.std.proofs.lemmas.List.Elements.{All-head, All-tail}
use Rattle.code_flow_system.specs.Certificates.{whole}
use Rattle.spm_placement.specs.declared.item.Item.{Item}
use Rattle.spm_placement.specs.Sets.{HasSmallGain, IsPartOf}
use Rattle.spm_placement.specs.Tops.{all_words, all_worth, beside, top, words, worth}

-- the item is too large, or it fits
module _ (w g : ℕ) (f : ℕ → ℕ) (c : ℕ) where
  pub beside_below : c < w → beside w g f c ≡ f c
  beside_below h = ap (λ b. if b then f c else max (f c) (f (c - w) + g)) (lt-ltb c w h)

  pub beside_within : w ≤ c → beside w g f c ≡ max (f c) (f (c - w) + g)
  beside_within h = ap (λ b. if b then f c else max (f c) (f (c - w) + g)) (le-ltb c w h)

  -- it is worth what is without the item, and, where it fits, what is with it
  pub beside_without : f c ≤ beside w g f c
  beside_without = elim (cases_lt c w) [
    | inl h ↦ let e = beside_below h in omega (arith, e)
    | inr h ↦ let e = beside_within h in omega (arith, e)
  ]

  pub beside_with : w ≤ c → f (c - w) + g ≤ beside w g f c
  beside_with h = let e = beside_within h in omega (arith, e)

  -- and no more
  pub beside_most : (n : ℕ) → f c ≤ n → (w ≤ c → f (c - w) + g ≤ n) → beside w g f c ≤ n
  beside_most n less more = elim (cases_lt c w) [
    | inl h ↦ let e = beside_below h in omega (arith, e, less)
    | inr h ↦ let e = beside_within h in let m = more h in omega (arith, e, less, m)
  ]

-- no part that fits is worth more
pub worth_most : (xs s : List Item) (c : ℕ) → IsPartOf s xs → all_words s ≤ c → all_worth s ≤ top xs c
worth_most [] s c part fits = let e : all_worth s ≡ 0 = ap all_worth part in omega (arith, e)
worth_most (x ∷ xs) s c (inl part) fits =
    let less = worth_most xs s c part fits in
    let more : top xs c ≤ top (x ∷ xs) c = beside_without (words x) (worth x) (top xs) c in
    omega (arith, less, more)
worth_most (x ∷ xs) s c (inr p) fits =
    let t = p.0 in
    let takes : all_words s ≡ words x + all_words t = ap all_words p.1 in
    let is : all_worth s ≡ worth x + all_worth t = ap all_worth p.1 in
    let less = worth_most xs t (c - words x) p.2 (omega (arith, fits, takes)) in
    let more : top xs (c - words x) + worth x ≤ top (x ∷ xs) c = beside_with (words x) (worth x) (top xs) c (omega (arith, fits, takes)) in
    omega (arith, is, less, more)

-- gains as numbers

pub whole_none : (z : ℤ) → z ≤ℤ pos 0 → whole z ≡ 0
whole_none (pos n) h = omega (arith, ints, h)
whole_none (negsuc n) h = refl

pub whole_is : (z : ℤ) → pos 0 <ℤ z → z ≡ pos (whole z)
whole_is (pos n) h = refl
whole_is (negsuc n) h = absurd (omega (arith, ints, h))

pub whole_most : (z : ℤ) → z ≤ℤ pos (whole z)
whole_most (pos n) = omega (arith, ints)
whole_most (negsuc n) = omega (arith, ints)

pub whole_small : (z : ℤ) (m : ℕ) → unsigned_abs z < m → whole z < m
whole_small (pos n) m h = h
whole_small (negsuc n) m h = omega (arith, h)

-- as the code has them

pub none_worth : (z : ℤ) → z ≤ℤ pos 0 → 0 ≡ whole z
none_worth z h = sym (whole_none z h)

pub some_worth : (z : ℤ) (n : ℕ) → pos 0 <ℤ z → n ≡ unsigned_abs z → n ≡ whole z
some_worth (pos m) n h e = e
some_worth (negsuc m) n h e = absurd (omega (arith, ints, h))

pub top_small : (xs : List Item) (c : ℕ) → All HasSmallGain xs → top xs c ≤ length xs * 2 ^ 110
top_small [] c h = omega arith
top_small (x ∷ xs) c h =
    let one : worth x < 2 ^ 110 = whole_small x.gain (2 ^ 110) (All-head HasSmallGain x xs h) in
    let rest = All-tail HasSmallGain x xs h in
    let here = top_small xs c rest in
    let back = top_small xs (c - words x) rest in
    beside_most (words x) (worth x) (top xs) c (length (x ∷ xs) * 2 ^ 110) (omega (arith, here)) (λ _. omega (arith, one, back))

-- more capacity is worth no less, and all items are worth the most
pub top_grows : (xs : List Item) (a b : ℕ) → a ≤ b → top xs a ≤ top xs b
top_grows [] a b le = omega arith
top_grows (x ∷ xs) a b le =
    let here = top_grows xs a b le in
    let back = top_grows xs (a - words x) (b - words x) (omega (arith, le)) in
    let without : top xs b ≤ top (x ∷ xs) b = beside_without (words x) (worth x) (top xs) b in
    beside_most (words x) (worth x) (top xs) a (top (x ∷ xs) b) (omega (arith, here, without)) (λ w.
    let more : top xs (b - words x) + worth x ≤ top (x ∷ xs) b = beside_with (words x) (worth x) (top xs) b (omega (arith, w, le)) in
    omega (arith, back, more))

pub top_all : (xs : List Item) (c : ℕ) → top xs c ≤ all_worth xs
top_all [] c = omega arith
top_all (x ∷ xs) c =
    let here = top_all xs c in
    let back = top_all xs (c - words x) in
    beside_most (words x) (worth x) (top xs) c (all_worth (x ∷ xs)) (omega (arith, here)) (λ w. omega (arith, back))
