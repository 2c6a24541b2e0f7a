-- What holds of each new mark and its number.
use Rattle.std.proofs.Common.{◌≡◌, ℕ, zero, suc, ◌+◌, ◌*◌, List, [], ◌∷◌, ◌++◌, length, map, ap, ◌∙◌, subst, arith, length-append}
use Rattle.std.proofs.lemmas.List.{length-map, map-append}
use Rattle.high_unrolled.specs.declared.made.Made.{Made}
use Rattle.high_unrolled.specs.declared.made.Made.TheVariants.{CopyOf}
use Rattle.high_unrolled.specs.Starts.{repeated}

-- the numbers go from n on
abbrev pub Numbered : (R : Made → ℕ → Type 0) → ℕ → List Made → Type 0
Numbered R n [] = Unit {0}
Numbered R n (x ∷ xs) = R x n × Numbered R (n + 1) xs

pub numbered_weaker : (R S : Made → ℕ → Type 0) → ((x : Made) (k : ℕ) → R x k → S x k) → (n : ℕ) (xs : List Made) → Numbered R n xs → Numbered S n xs
numbered_weaker R S goes n [] h = tt
numbered_weaker R S goes n (x ∷ xs) h = (goes x n h.0, numbered_weaker R S goes (n + 1) xs h.1)

module _ (R : Made → ℕ → Type 0) where
  pub numbered_front : (n : ℕ) (xs ys : List Made) → Numbered R n (xs ++ ys) → Numbered R n xs
  numbered_front n [] ys h = tt
  numbered_front n (x ∷ xs) ys h = (h.0, numbered_front (n + 1) xs ys h.1)

  pub numbered_back : (n : ℕ) (xs ys : List Made) → Numbered R n (xs ++ ys) → Numbered R (n + length xs) ys
  numbered_back n [] ys h = let e : n ≡ n + 0 = omega arith in subst (λ m. Numbered R m ys) e h
  numbered_back n (x ∷ xs) ys h =
      let e : n + 1 + length xs ≡ n + suc (length xs) = omega arith in
      subst (λ m. Numbered R m ys) e (numbered_back (n + 1) xs ys h.1)

  pub copies_front : (n : ℕ) (xs ys : List ℕ) → Numbered R n (map CopyOf (xs ++ ys)) → Numbered R n (map CopyOf xs)
  copies_front n xs ys h = numbered_front n (map CopyOf xs) (map CopyOf ys) (subst (Numbered R n) (map-append CopyOf xs ys) h)

  pub copies_back : (n : ℕ) (xs ys : List ℕ) → Numbered R n (map CopyOf (xs ++ ys)) → Numbered R (n + length xs) (map CopyOf ys)
  copies_back n xs ys h =
      subst (λ l. Numbered R (n + l) (map CopyOf ys)) (length-map xs CopyOf)
      (numbered_back n (map CopyOf xs) (map CopyOf ys) (subst (Numbered R n) (map-append CopyOf xs ys) h))

pub length-repeated : (n : ℕ) (ms : List ℕ) → length (repeated n ms) ≡ n * length ms
length-repeated zero ms = let e : 0 ≡ zero * length ms = omega arith in e
length-repeated (suc n) ms =
    let e : length ms + n * length ms ≡ suc n * length ms = omega arith in
    length-append ms (repeated n ms) ∙ ap (λ l. length ms + l) (length-repeated n ms) ∙ e

-- behind so many copies
pub numbered_behind : (R : Made → ℕ → Type 0) (a n : ℕ) (ms : List ℕ) (ys : List Made) → Numbered R a (map CopyOf (repeated n ms) ++ ys) → Numbered R (a + n * length ms) ys
numbered_behind R a n ms ys h =
    subst (λ l. Numbered R (a + l) ys) (length-map (repeated n ms) CopyOf ∙ length-repeated n ms)
    (numbered_back R a (map CopyOf (repeated n ms)) ys h)
