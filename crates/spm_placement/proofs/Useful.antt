-- Items that may be worth placing: the others change nothing.
use Rattle.std.proofs.Common.{◌≡◌, ◌⊎◌, ℕ, ◌+◌, ◌-◌, ◌<◌, ◌≤◌, true, false, inl, inr, nat_lt, if◌then◌else◌, ℤ, pos, negsuc, ◌<ℤ◌, List, [], ◌∷◌, length, All, refl, sym, ap, subst, ◌∙◌, arith}
use Rattle.std.proofs.lemmas.Bool.{cases_lt, le-ltb, lt-ltb}
use Rattle.std.proofs.lemmas.Int.{ints}
use Rattle.std.proofs.lemmas.List.Elements.{All-cons, All-head, All-nil, All-tail}
use Rattle.code_flow_system.specs.Certificates.{whole}
use Rattle.spm_placement.specs.declared.item.Item.{Item}
use Rattle.spm_placement.specs.Sets.{Gains, IsPartOf}
use Rattle.spm_placement.specs.Tops.{all_words, is_useful, top, useful, words, worth}
use Rattle.spm_placement.proofs.Tops.{beside_below, beside_most, beside_with, beside_without, top_grows}

-- as the code has it

module _ (x : Item) (c : ℕ) where
  pub too_large : c < words x → false ≡ is_useful c x
  too_large h = sym (ap (λ b. if b then false else nat_lt 0 (worth x)) (lt-ltb c (words x) h))

  fits_alone : words x ≤ c → is_useful c x ≡ nat_lt 0 (worth x)
  fits_alone h = ap (λ b. if b then false else nat_lt 0 (worth x)) (le-ltb c (words x) h)

  pub some_use : words x ≤ c → 0 < worth x → true ≡ is_useful c x
  some_use h g = sym (fits_alone h ∙ lt-ltb 0 (worth x) g)

  pub no_use : words x ≤ c → worth x ≤ 0 → false ≡ is_useful c x
  no_use h g = sym (fits_alone h ∙ le-ltb 0 (worth x) g)

-- what is told of an item

record IsUseful (c : ℕ) (x : Item) : Type 0 where
  pub told : is_useful c x ≡ true
  pub fits : words x ≤ c
  pub gains : 0 < worth x

record IsUseless (c : ℕ) (x : Item) : Type 0 where
  pub told : is_useful c x ≡ false
  pub either : (c < words x) ⊎ (worth x ≤ 0)

useful_or : (c : ℕ) (x : Item) → IsUseful c x ⊎ IsUseless c x
useful_or c x = elim (cases_lt c (words x)) [
  | inl h ↦ inr (record { told = sym (too_large x c h); either = inl h })
  | inr h ↦ elim (cases_lt 0 (worth x)) [
    | inl g ↦ inl (record { told = sym (some_use x c h g); fits = h; gains = g })
    | inr n ↦ inr (record { told = sym (no_use x c h n); either = inr n })
  ]
]

kept : (c : ℕ) (x : Item) (xs : List Item) → is_useful c x ≡ true → useful c (x ∷ xs) ≡ x ∷ useful c xs
kept c x xs h = ap (λ b. if b then x ∷ useful c xs else useful c xs) h

dropped : (c : ℕ) (x : Item) (xs : List Item) → is_useful c x ≡ false → useful c (x ∷ xs) ≡ useful c xs
dropped c x xs h = ap (λ b. if b then x ∷ useful c xs else useful c xs) h

-- each is one of the list, is worth something and fits
pub part_of_useful : (c : ℕ) (s xs : List Item) → IsPartOf s (useful c xs) → IsPartOf s xs
part_of_useful c s [] p = p
part_of_useful c s (x ∷ xs) p = elim (useful_or c x) [
  | inl u ↦ elim (subst (IsPartOf s) (kept c x xs u.told) p) [
    | inl q ↦ inl (part_of_useful c s xs q)
    | inr q ↦ inr (q.0, q.1, part_of_useful c q.0 xs q.2)
  ]
  | inr n ↦ inl (part_of_useful c s xs (subst (IsPartOf s) (dropped c x xs n.told) p))
]

pub part_itself : (xs : List Item) → IsPartOf xs xs
part_itself [] = refl
part_itself (x ∷ xs) = inr (xs, refl, part_itself xs)

pub part_all : (P : Item → Type 0) (s xs : List Item) → IsPartOf s xs → All P xs → All P s
part_all P s [] p h = subst (All P) (sym p) (All-nil P)
part_all P s (x ∷ xs) (inl p) h = part_all P s xs p (All-tail P x xs h)
part_all P s (x ∷ xs) (inr p) h = subst (All P) (sym p.1) (All-cons P x p.0 (All-head P x xs h) (part_all P p.0 xs p.2 (All-tail P x xs h)))

pub useful_part : (c : ℕ) (xs : List Item) → IsPartOf (useful c xs) xs
useful_part c xs = part_of_useful c (useful c xs) xs (part_itself (useful c xs))

whole_gains : (z : ℤ) → 0 < whole z → pos 0 <ℤ z
whole_gains (pos n) h = omega (arith, ints, h)
whole_gains (negsuc n) h = absurd (omega (arith, h))

all_by : (P : Item → Type 0) (c : ℕ) → ((x : Item) → IsUseful c x → P x) → (xs : List Item) → All P (useful c xs)
all_by P c h [] = All-nil P
all_by P c h (x ∷ xs) = elim (useful_or c x) [
  | inl u ↦ subst (All P) (sym (kept c x xs u.told)) (All-cons P x (useful c xs) (h x u) (all_by P c h xs))
  | inr n ↦ subst (All P) (sym (dropped c x xs n.told)) (all_by P c h xs)
]

pub useful_gains : (c : ℕ) (xs : List Item) → All Gains (useful c xs)
useful_gains c xs = all_by Gains c (λ x u. whole_gains x.gain u.gains) xs

pub useful_few : (c : ℕ) (xs : List Item) → length (useful c xs) ≤ length xs
useful_few c [] = omega arith
useful_few c (x ∷ xs) =
    let few = useful_few c xs in
    elim (useful_or c x) [
      | inl u ↦ let e = ap length (kept c x xs u.told) in omega (arith, e, few)
      | inr n ↦ let e = ap length (dropped c x xs n.told) in omega (arith, e, few)
    ]

-- where they don't fit together, there are several

abbrev Fits : ℕ → Item → Type 0
Fits c x = words x ≤ c

several : (c : ℕ) (xs : List Item) → All (Fits c) xs → c < all_words xs → 1 < length xs
several c [] h more = absurd (omega (arith, more))
several c (x ∷ []) h more = let one : words x ≤ c = All-head (Fits c) x [] h in absurd (omega (arith, more, one))
several c (x ∷ y ∷ zs) h more = omega arith

pub useful_several : (c : ℕ) (xs : List Item) → c < all_words (useful c xs) → 1 < length (useful c xs)
useful_several c xs more = several c (useful c xs) (all_by (Fits c) c (λ x u. u.fits) xs) more

-- the list is worth no more than they are
module _ (c : ℕ) (x : Item) (xs : List Item) (b : ℕ) (le : b ≤ c) (here : top xs b ≤ top (useful c xs) b) where
  top_kept : is_useful c x ≡ true → top xs (b - words x) ≤ top (useful c xs) (b - words x) → top (x ∷ xs) b ≤ top (useful c (x ∷ xs)) b
  top_kept told back =
      let e : top (useful c (x ∷ xs)) b ≡ top (x ∷ useful c xs) b = ap (λ ys. top ys b) (kept c x xs told) in
      let without : top (useful c xs) b ≤ top (x ∷ useful c xs) b = beside_without (words x) (worth x) (top (useful c xs)) b in
      beside_most (words x) (worth x) (top xs) b (top (useful c (x ∷ xs)) b) (omega (arith, e, without, here)) (λ w.
      let more : top (useful c xs) (b - words x) + worth x ≤ top (x ∷ useful c xs) b = beside_with (words x) (worth x) (top (useful c xs)) b w in
      omega (arith, e, more, back))

  top_dropped : IsUseless c x → top (x ∷ xs) b ≤ top (useful c (x ∷ xs)) b
  top_dropped n =
      let e : top (useful c (x ∷ xs)) b ≡ top (useful c xs) b = ap (λ ys. top ys b) (dropped c x xs n.told) in
      elim n.either [
        | inl large ↦
            let is : top (x ∷ xs) b ≡ top xs b = beside_below (words x) (worth x) (top xs) b (omega (arith, large, le)) in
            omega (arith, is, e, here)
        | inr none ↦
            beside_most (words x) (worth x) (top xs) b (top (useful c (x ∷ xs)) b) (omega (arith, e, here)) (λ w.
            let less = top_grows xs (b - words x) b (omega arith) in
            omega (arith, e, here, less, none))
      ]

pub useful_top : (c : ℕ) (xs : List Item) (b : ℕ) → b ≤ c → top xs b ≤ top (useful c xs) b
useful_top c [] b le = omega arith
useful_top c (x ∷ xs) b le = elim (useful_or c x) [
  | inl u ↦ top_kept c x xs b le (useful_top c xs b le) u.told (useful_top c xs (b - words x) (omega (arith, le)))
  | inr n ↦ top_dropped c x xs b le (useful_top c xs b le) n
]
