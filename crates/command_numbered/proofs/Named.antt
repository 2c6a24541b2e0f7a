-- The tree of a numbered source with the names in place of their numbers.
use Rattle.std.proofs.Common.{◌≡◌, ◌⊎◌, inl, inr, ℕ, zero, suc, ◌+◌, ◌<◌, ◌≤◌, List, [], ◌∷◌, ◌++◌, length, codes, length-append, refl, sym, ap, subst, ◌∙◌, arith}
use Rattle.std.specs.Prelude.{slice_index_or}
use Rattle.c_tree.specs.Names.{name_of}
use Rattle.c_tree.specs.Named.{map_row, named_external, named_items, named_unit}
use Rattle.command_numbered.proofs.Names.{name, names, own_names}
use Rattle.command_numbered.proofs.Trees.{Given, Places, calls, functions, start, unit}
use Rattle.command_numbered.proofs.TypedFunctions.{numbers}
use Rattle.command_numbered.proofs.Numbers.{number}

abbrev pub words : Given (List ℕ)
words = record { x = codes "x"; k = codes "k"; s = codes "s"; main = codes "main"; putchar = codes "putchar" }

own_long : (m : ℕ) → length (own_names (suc m)) ≡ m + 4
own_long zero = refl
own_long (suc m) = let l = length-append (own_names (suc m)) (name (suc (suc m)) ∷ []) in let rest = own_long m in omega (arith, l, rest)

front : (xs ys : List (List ℕ)) (i : ℕ) → i < length xs → slice_index_or (xs ++ ys) i [] ≡ slice_index_or xs i []
front [] ys i lt = absurd (omega (arith, lt))
front (x ∷ xs) ys zero lt = refl
front (x ∷ xs) ys (suc i) lt = front xs ys i (omega (arith, lt))

behind : (xs ys : List (List ℕ)) (i k : ℕ) → i ≡ length xs + k → slice_index_or (xs ++ ys) i [] ≡ slice_index_or ys k []
behind [] ys i k e = ap (λ j. slice_index_or ys j []) (omega (arith, e))
behind (x ∷ xs) ys zero k e = absurd (omega (arith, e))
behind (x ∷ xs) ys (suc i) k e = behind xs ys i k (omega (arith, e))

-- the three names behind the first
three_there : (m i : ℕ) → i < 4 → slice_index_or (own_names (suc m)) i [] ≡ slice_index_or (own_names 1) i []
three_there zero i lt = refl
three_there (suc m) i lt = front (own_names (suc m)) (name (suc (suc m)) ∷ []) i (let l = own_long m in omega (arith, lt, l)) ∙ three_there m i lt

pub split : (j m : ℕ) → j < suc m → (j ≡ m) ⊎ (j < m)
split j m lt = grind arith

number_four : (j m : ℕ) → j < suc m → number (suc j) < m + 4
number_four zero m lt = omega (arith, lt)
number_four (suc j) m lt = omega (arith, lt)

function_name_there : (m j : ℕ) → j < suc m → slice_index_or (own_names (suc m)) (number (suc j)) [] ≡ name (suc j)
function_name_there zero zero lt = refl
function_name_there zero (suc j) lt = absurd (omega (arith, lt))
function_name_there (suc m) j lt = elim (split j (suc m) lt) [
  | inl e ↦ subst (λ i. slice_index_or (own_names (suc (suc m))) (number (suc i)) [] ≡ name (suc i)) (sym e) (behind (own_names (suc m)) (name (suc (suc m)) ∷ []) (m + 4) 0 (let l = own_long m in omega (arith, l)))
  | inr k ↦ front (own_names (suc m)) (name (suc (suc m)) ∷ []) (number (suc j)) (let l = own_long m in let f = number_four j m k in omega (arith, l, f)) ∙ function_name_there m j k
]

module _ (m : ℕ) where
  abbrev n : ℕ
  n = suc m

  pub given_three : (i : ℕ) → i < 4 → name_of (names n) i ≡ slice_index_or (own_names 1) i []
  given_three i lt = front (own_names n) (codes "main" ∷ codes "putchar" ∷ []) i (let l = own_long m in omega (arith, lt, l)) ∙ three_there m i lt

  pub given_main : name_of (names n) (n + 3) ≡ codes "main"
  given_main = behind (own_names n) (codes "main" ∷ codes "putchar" ∷ []) (n + 3) 0 (let l = own_long m in omega (arith, l))

  pub given_putchar : name_of (names n) (n + 4) ≡ codes "putchar"
  given_putchar = behind (own_names n) (codes "main" ∷ codes "putchar" ∷ []) (n + 4) 1 (let l = own_long m in omega (arith, l))

  pub given_function : (j : ℕ) → j < n → name_of (names n) (number (suc j)) ≡ name (suc j)
  given_function j lt = front (own_names n) (codes "main" ∷ codes "putchar" ∷ []) (number (suc j)) (let l = own_long m in let f = number_four j m lt in omega (arith, l, f)) ∙ function_name_there m j lt

  functions_named : (q : ℕ → ℕ → ℕ) (i : ℕ) → i ≤ n → map_row (named_external (name_of (names n))) (functions (numbers (n + 3) (n + 4)) number q i) ≡ functions words name q i
  functions_named q zero le = refl
  functions_named q (suc i) le =
      let rest = functions_named q i (omega (arith, le)) in
      rw rest (rw (given_three 1 (omega arith)) (rw (given_three 2 (omega arith)) (rw (given_three 3 (omega arith)) (rw (given_function i (omega (arith, le))) refl))))

  calls_named : (h : ℕ → ℕ) (q : ℕ → ℕ → ℕ) (i : ℕ) → i ≤ n → named_items (name_of (names n)) (calls (numbers (n + 3) (n + 4)) number q (start (numbers (n + 3) (n + 4)) h) i) ≡ calls words name q (start words h) i
  calls_named h q zero le = rw (given_three 3 (omega arith)) refl
  calls_named h q (suc i) le =
      let rest = calls_named h q i (omega (arith, le)) in
      rw rest (rw (given_three 3 (omega arith)) (rw (given_function i (omega (arith, le))) refl))

  pub unit_named : (p : Places) → named_unit (name_of (names n)) (unit (numbers (n + 3) (n + 4)) number p n) ≡ unit words name p n
  unit_named p =
      let fs = functions_named p.function n (omega arith) in
      let cs = calls_named p.head p.call n (omega arith) in
      rw fs (rw cs (rw (given_three 3 (omega arith)) (rw given_main (rw given_putchar refl))))
