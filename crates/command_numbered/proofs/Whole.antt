-- The functions of a numbered source by their numbers, its sites, and how many nodes a run executes at most.
use Rattle.std.proofs.Common.{◌≡◌, inl, inr, ℕ, zero, suc, ◌+◌, ◌*◌, ◌^◌, ◌<◌, ◌≤◌, List, [], ◌∷◌, ◌++◌, length, Some, append_assoc, refl, sym, ap, subst, ◌∙◌, arith}
use Rattle.std.specs.Prelude.{slice_get, slice_index_or}
use Rattle.types_tree.specs.Tree.{External, Defining, Function, Items, NoItem, WithStatement}
use Rattle.facts_definitions.specs.Most.{bounds_at, function_most, items_most, most_within}
use Rattle.facts_definitions.specs.Sites.{externals_sites, external_sites, function_sites, sites_of}
use Rattle.command_numbered.proofs.Trees.{Places}
use Rattle.command_numbered.proofs.Numbers.{number}
use Rattle.command_numbered.proofs.Programs.{call, calls, function, give, main_function, put, typed_functions}
use Rattle.command_numbered.proofs.Typed.{defining, program}
use Rattle.command_numbered.proofs.Ranks.{functions_long, split}
use Rattle.command_numbered.proofs.Sites.{all_sites, main_sites, sites_at, tens}

get_front : {X : Type 0} (xs ys : List X) (i : ℕ) → i < length xs → slice_get (xs ++ ys) i ≡ slice_get xs i
get_front [] ys i lt = absurd (omega (arith, lt))
get_front (x ∷ xs) ys zero lt = refl
get_front (x ∷ xs) ys (suc i) lt = get_front xs ys i (omega (arith, lt))

get_behind : {X : Type 0} (xs : List X) (y : X) (ys : List X) (i : ℕ) → i ≡ length xs → slice_get (xs ++ y ∷ ys) i ≡ Some y
get_behind [] y ys zero e = refl
get_behind [] y ys (suc i) e = absurd (omega (arith, e))
get_behind (x ∷ xs) y ys zero e = absurd (omega (arith, e))
get_behind (x ∷ xs) y ys (suc i) e = get_behind xs y ys i (omega (arith, e))

abbrev pub own_function : (q : ℕ → ℕ → ℕ) → (j : ℕ) → Function
own_function q j = function (3 * j) (3 * j + 1) (3 * j + 2) (j + 1) (number (suc j)) (suc j) (q (suc j))

one_of : (q : ℕ → ℕ → ℕ) (m j : ℕ) → j < m → slice_get (typed_functions q m) j ≡ Some (own_function q j)
one_of q zero j lt = absurd (omega (arith, lt))
one_of q (suc m) j lt = elim (split j m lt) [
  | inl e ↦ subst (λ i. slice_get (typed_functions q (suc m)) i ≡ Some (own_function q i)) (sym e) (get_behind (typed_functions q m) (own_function q m) [] m (sym (functions_long q m)))
  | inr k ↦ get_front (typed_functions q m) (own_function q m ∷ []) j (let l = functions_long q m in omega (arith, k, l)) ∙ one_of q m j k
]

module _ (n : ℕ) (p : Places) where
  pub function_there : (j : ℕ) → j < n → slice_get (program n p).functions j ≡ Some (own_function p.function j)
  function_there j lt = get_front (typed_functions p.function n) (main_function (3 * n) (n + 3) p n ∷ []) j (let l = functions_long p.function n in omega (arith, lt, l)) ∙ one_of p.function n j lt

  pub main_there : slice_get (program n p).functions n ≡ Some (main_function (3 * n) (n + 3) p n)
  main_there = get_behind (typed_functions p.function n) (main_function (3 * n) (n + 3) p n) [] n (sym (functions_long p.function n))

  sites_append : (xs ys : List External) → externals_sites (program n p) (xs ++ ys) ≡ externals_sites (program n p) xs ++ externals_sites (program n p) ys
  sites_append [] ys = refl
  sites_append (x ∷ xs) ys = ap (λ zs. external_sites (program n p) x ++ zs) (sites_append xs ys) ∙ sym (append_assoc (external_sites (program n p) x) (externals_sites (program n p) xs) (externals_sites (program n p) ys))

  defining_sites : (m : ℕ) → m ≤ n → externals_sites (program n p) (defining 0 m) ≡ sites_at p.function m
  defining_sites zero le = refl
  defining_sites (suc m) le =
      let there : slice_get (program n p).functions (0 + m) ≡ Some (own_function p.function m) = ap (slice_get (program n p).functions) (omega arith) ∙ function_there m (omega (arith, le)) in
      sites_append (defining 0 m) (Defining (0 + m) ∷ [])
      ∙ ap (λ xs. xs ++ externals_sites (program n p) (Defining (0 + m) ∷ [])) (defining_sites m (omega (arith, le)))
      ∙ ap (λ o. sites_at p.function m ++ (function_sites (program n p).variables o ++ [])) there

  pub sites_are : sites_of (program n p) ≡ all_sites n p
  sites_are =
      sites_append (defining 0 n) (Defining n ∷ [])
      ∙ ap (λ xs. xs ++ externals_sites (program n p) (Defining n ∷ [])) (defining_sites n (omega arith))
      ∙ ap (λ o. sites_at p.function n ++ (function_sites (program n p).variables o ++ [])) main_there
      ∙ ap (λ xs. sites_at p.function n ++ (xs ++ [])) (main_sites (program n p).variables n p)

-- the bounds of a loop
get_ten : (n j : ℕ) → j < n → slice_index_or (tens n) j (record { min = 0; max = 0 }) ≡ record { min = 10; max = 10 }
get_ten zero j lt = absurd (omega (arith, lt))
get_ten (suc n) zero lt = refl
get_ten (suc n) (suc j) lt = get_ten n j (omega (arith, lt))

pub ten_there : (n j : ℕ) → j < n → bounds_at (tens n) (j + 1) ≡ record { min = 10; max = 10 }
ten_there n j lt = ap (λ i. slice_index_or (tens n) i (record { min = 0; max = 0 })) (omega arith) ∙ get_ten n j lt

module _ (n : ℕ) (le : n ≤ 100) (p : Places) where
  function_cost : (calls : ℕ → ℕ) (j : ℕ) → j < n → function_most (tens n) calls (Some (own_function p.function j)) ≤ 1000
  function_cost calls j lt = rw (ten_there n j lt) (omega arith)

  calls_cost : (depth : ℕ → ℕ) (limit : ℕ) → ((j : ℕ) → j < n → depth j ≤ limit) → (m : ℕ) → m ≤ n → (rest : Items) → items_most (tens n) depth (calls (3 * n) p.call m rest) ≤ m * (limit + 10) + items_most (tens n) depth rest
  calls_cost depth limit low zero m_le rest = omega arith
  calls_cost depth limit low (suc m) m_le rest =
      let more = calls_cost depth limit low m (omega (arith, m_le)) (WithStatement (call (3 * n) m (p.call (suc m))) rest) in
      let one = low m (omega (arith, m_le)) in
      let product : suc m * (limit + 10) ≡ m * (limit + 10) + (limit + 10) = omega arith in
      omega (arith, more, one, product)

  -- two levels of calls
  pub most_low : most_within (program n p) (tens n) 2 n < 2 ^ 40
  most_low =
      let own : (j : ℕ) → j < n → most_within (program n p) (tens n) 1 j ≤ 1000 = λ j lt. subst (λ o. function_most (tens n) (most_within (program n p) (tens n) 0) o ≤ 1000) (sym (function_there n p j lt)) (function_cost (most_within (program n p) (tens n) 0) j lt) in
      let cost = calls_cost (most_within (program n p) (tens n) 1) 1000 own n (omega arith) (WithStatement (put (3 * n) p.tail) (WithStatement (give (3 * n) p.tail) NoItem)) in
      subst (λ o. function_most (tens n) (most_within (program n p) (tens n) 1) o < 2 ^ 40) (sym (main_there n p)) (omega (arith, cost, le))
