-- In a list in which each name stands once, a name has one number.
use Rattle.std.proofs.Common.{◌≡◌, ℕ, ◌+◌, ◌<◌, inl, inr, Bool, true, false, ◌||◌, List, [], ◌∷◌, ◌++◌, length, refl, sym, ap, ◌∙◌, arith, true≢false}
use Rattle.std.specs.Prelude.{if◌then◌else◌, nat_eq}
use Rattle.std.specs.List.{list_any}
use Rattle.std.specs.Cmp.Lexicographic.{pointwise, bytes_decides}
use Rattle.std.proofs.lemmas.Bool.{cases_lt}
use Rattle.std.proofs.lemmas.List.{get_or_append_left, get_or_past, length-append}
use Rattle.std.proofs.Math.Seq.{get_or-append_seam}
use Rattle.c_tree.specs.Names.{name_of, with_name, with_names}

-- the number of a name in a list, or the list's length
abbrev pub number_of : List (List ℕ) → List ℕ → ℕ
number_of [] name = 0
number_of (first ∷ names) name = if pointwise nat_eq name first then 0 else number_of names name + 1

-- the number of each name is its own
abbrev pub AreOnce : List (List ℕ) → Type 0
AreOnce names = (n : ℕ) → n < length names → number_of names (name_of names n) ≡ n

same : (name : List ℕ) → pointwise nat_eq name name ≡ true
same name = (bytes_decides name name).1 refl

-- a name that is found in front has the same number
number_front : (names : List (List ℕ)) (last name : List ℕ) → number_of names name < length names → number_of (names ++ last ∷ []) name ≡ number_of names name
number_front [] last name h = absurd (omega (arith, h))
number_front (first ∷ names) last name h = by (pointwise nat_eq name first) (number_front names last name) h
  where
    by : (test : Bool) → (number_of names name < length names → number_of (names ++ last ∷ []) name ≡ number_of names name)
        → (if test then 0 else number_of names name + 1) < length (first ∷ names)
        → (if test then 0 else number_of (names ++ last ∷ []) name + 1) ≡ (if test then 0 else number_of names name + 1)
    by true rest h = refl
    by false rest h = ap (λ n. n + 1) (rest (omega (arith, h)))

-- a name that was not there has the last number
number_last : (names : List (List ℕ)) (name : List ℕ) → list_any (pointwise nat_eq name) names ≡ false → number_of (names ++ name ∷ []) name ≡ length names
number_last [] name h = rw (same name) refl
number_last (first ∷ names) name h = by (pointwise nat_eq name first) (number_last names name) h
  where
    by : (test : Bool) → (list_any (pointwise nat_eq name) names ≡ false → number_of (names ++ name ∷ []) name ≡ length names)
        → (test || list_any (pointwise nat_eq name) names) ≡ false
        → (if test then 0 else number_of (names ++ name ∷ []) name + 1) ≡ length (first ∷ names)
    by true rest h = absurd (true≢false h)
    by false rest h = let k = rest h in omega (arith, k)

once_push : (names : List (List ℕ)) (name : List ℕ) → AreOnce names → list_any (pointwise nat_eq name) names ≡ false → AreOnce (names ++ name ∷ [])
once_push names name once none n within = elim (cases_lt n (length names)) [
  | inl lt ↦ (
      let front = get_or_append_left names (name ∷ []) [] n lt in
      let own = once n lt in
      ap (number_of (names ++ name ∷ [])) front ∙ number_front names name (name_of names n) (omega (arith, own, lt)) ∙ own)
  | inr le ↦ (
      let size = length-append names (name ∷ []) in
      let last : n ≡ length names = omega (arith, le, within, size) in
      ap (λ n. number_of (names ++ name ∷ []) (name_of (names ++ name ∷ []) n)) last
      ∙ ap (number_of (names ++ name ∷ [])) (get_or-append_seam names name [] [])
      ∙ number_last names name none ∙ sym last)
]

once_with : (names : List (List ℕ)) (name : List ℕ) → AreOnce names → AreOnce (with_name names name)
once_with names name once = by (list_any (pointwise nat_eq name) names) refl
  where
    by : (test : Bool) → list_any (pointwise nat_eq name) names ≡ test → AreOnce (if test then names else names ++ name ∷ [])
    by true e = once
    by false e = once_push names name once e

pub once_all : (names more : List (List ℕ)) → AreOnce names → AreOnce (with_names names more)
once_all names [] once = once
once_all names (name ∷ more) once = once_all (with_name names name) more (once_with names name once)

pub once_none : AreOnce []
once_none n h = absurd (omega (arith, h))

-- a number whose name has bytes is that of a name in the list
pub within_names : (names : List (List ℕ)) (n : ℕ) → 0 < length (name_of names n) → n < length names
within_names names n some = elim (cases_lt n (length names)) [
  | inl lt ↦ lt
  | inr le ↦ (let past = ap length (get_or_past names n [] le) in absurd (omega (arith, some, past)))
]
