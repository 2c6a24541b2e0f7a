-- A numbered source is within the limits of a unit.
use Rattle.std.proofs.Common.{◌≡◌, ℕ, zero, suc, ◌+◌, ◌*◌, ◌≤◌, Bool, true, false, List, [], ◌∷◌, ◌++◌, None, refl, ap, ◌∙◌, arith}
use Rattle.std.specs.Prelude.{nat_lt}
use Rattle.std.proofs.lemmas.Bool.{ltb-true}
use Rattle.c_tree.specs.Size.{size_external, size_items, size_row, size_unit}
use Rattle.types_tree.specs.declared.variable.Variable.{Variable}
use Rattle.types_rules.specs.Limits.{Tally, global_bytes, global_bytes_of, joined, limits_before, limits_behind, local_bytes, local_bytes_of, nothing_counted, object_bytes, one_function, tally_externals, tally_items, tally_unit}
use Rattle.command_numbered.proofs.Trees.{Given, Places, calls, functions, start, unit}
use Rattle.command_numbered.proofs.Numbers.{variable, variables_at}

module _ {N : Type 0} (g : Given N) (f : ℕ → N) where
  functions_nodes : (q : ℕ → ℕ → ℕ) (m : ℕ) → (size_row size_external (functions g f q m)).nodes ≡ 30 * m
  functions_nodes q zero = refl
  functions_nodes q (suc m) = let rest = functions_nodes q m in omega (arith, rest)

  functions_deep : (q : ℕ → ℕ → ℕ) (m : ℕ) → (size_row size_external (functions g f q m)).depth ≤ 20
  functions_deep q zero = omega arith
  functions_deep q (suc m) = let rest = functions_deep q m in omega (arith, rest)

  calls_nodes : (q : ℕ → ℕ) (p : ℕ → ℕ → ℕ) (m : ℕ) → (size_items (calls g f p (start g q) m)).nodes ≡ 5 * m + 3
  calls_nodes q p zero = refl
  calls_nodes q p (suc m) = let rest = calls_nodes q p m in omega (arith, rest)

  calls_deep : (q : ℕ → ℕ) (p : ℕ → ℕ → ℕ) (m : ℕ) → (size_items (calls g f p (start g q) m)).depth ≤ 20
  calls_deep q p zero = omega arith
  calls_deep q p (suc m) = let rest = calls_deep q p m in omega (arith, rest)

  pub unit_deep : (p : Places) (n : ℕ) → (size_unit (unit g f p n)).depth ≤ 256
  unit_deep p n = let fs = functions_deep p.function n in let cs = calls_deep p.head p.call n in omega (arith, fs, cs)

  pub unit_nodes_few : (p : Places) (n : ℕ) → n ≤ 100 → (size_unit (unit g f p n)).nodes ≤ 16384
  unit_nodes_few p n le = let fs = functions_nodes p.function n in let cs = calls_nodes p.head p.call n in omega (arith, fs, cs, le)

-- of the numbers that are counted
functions_counted : {N : Type 0} (g : Given N) (f : ℕ → N) (q : ℕ → ℕ → ℕ) (m : ℕ) → tally_externals (functions g f q m) ≡ record { functions = m; parameters = None; markers = 0; restrictions = 0 }
functions_counted g f q zero = refl
functions_counted g f q (suc m) = ap (λ t. joined t one_function) (functions_counted g f q m) ∙ ap (λ k. many k) (omega arith)
  where
    many : ℕ → Tally
    many k = record { functions = k; parameters = None; markers = 0; restrictions = 0 }

calls_counted : {N : Type 0} (g : Given N) (f : ℕ → N) (q : ℕ → ℕ) (p : ℕ → ℕ → ℕ) (m : ℕ) → tally_items (calls g f p (start g q) m) ≡ nothing_counted
calls_counted g f q p zero = refl
calls_counted g f q p (suc m) = ap (λ t. joined t nothing_counted) (calls_counted g f q p m)

tested : (a b : ℕ) → b ≤ a → nat_lt a b ≡ false
tested a b le = by_test (nat_lt a b) refl
  where
    by_test : (t : Bool) → nat_lt a b ≡ t → t ≡ false
    by_test true e = let lt = ltb-true a b e in absurd (omega (arith, lt, le))
    by_test false e = refl

pub limits_kept : {N : Type 0} (g : Given N) (f : ℕ → N) (p : Places) (n : ℕ) → n ≤ 100 → limits_before (size_unit (unit g f p n)).nodes (tally_unit (unit g f p n)) ≡ None
limits_kept g f p n le =
    let few = unit_nodes_few g f p n le in
    ap (λ t. limits_before (size_unit (unit g f p n)).nodes t) counted
    ∙ rw (tested 16384 (size_unit (unit g f p n)).nodes few) (rw (tested 256 (n + 1) (omega (arith, le))) refl)
  where
    counted : tally_unit (unit g f p n) ≡ record { functions = n + 1; parameters = None; markers = 0; restrictions = 0 }
    counted = rw (functions_counted g f p.function n) (rw (calls_counted g f p.head p.call n) refl)

-- of the bytes of objects
global_push : (vs : List Variable) (name : ℕ) → global_bytes (vs ++ variable name ∷ []) ≡ global_bytes vs
global_push [] name = refl
global_push (v ∷ vs) name = ap (λ b. global_bytes_of v.duration (object_bytes v.kind v.extent) + b) (global_push vs name)

local_push : (vs : List Variable) (name : ℕ) → local_bytes (vs ++ variable name ∷ []) ≡ local_bytes vs + 4
local_push [] name = refl
local_push (v ∷ vs) name = ap (λ b. local_bytes_of v.duration (object_bytes v.kind v.extent) + b) (local_push vs name) ∙ omega arith

globals_none : (m : ℕ) → global_bytes (variables_at m) ≡ 0
globals_none zero = refl
globals_none (suc m) =
    global_push ((variables_at m ++ variable 1 ∷ []) ++ variable 2 ∷ []) 3 ∙ global_push (variables_at m ++ variable 1 ∷ []) 2 ∙ global_push (variables_at m) 1 ∙ globals_none m

locals_few : (m : ℕ) → local_bytes (variables_at m) ≡ 12 * m
locals_few zero = refl
locals_few (suc m) =
    let a = local_push (variables_at m) 1 in
    let b = local_push (variables_at m ++ variable 1 ∷ []) 2 in
    let c = local_push ((variables_at m ++ variable 1 ∷ []) ++ variable 2 ∷ []) 3 in
    let rest = locals_few m in
    omega (arith, a, b, c, rest)

pub bytes_kept : (n : ℕ) → n ≤ 100 → limits_behind (variables_at n ++ variable 3 ∷ []) ≡ None
bytes_kept n le =
    let g : global_bytes (variables_at n ++ variable 3 ∷ []) ≡ 0 = global_push (variables_at n) 3 ∙ globals_none n in
    let l : local_bytes (variables_at n ++ variable 3 ∷ []) ≡ 12 * n + 4 = local_push (variables_at n) 3 ∙ ap (λ b. b + 4) (locals_few n) in
    rw (tested 262144 (global_bytes (variables_at n ++ variable 3 ∷ [])) (omega (arith, g))) (rw (tested 262144 (local_bytes (variables_at n ++ variable 3 ∷ [])) (omega (arith, l, le))) refl)
