-- The functions of a numbered source break no rule.
use Rattle.std.proofs.Common.{◌≡◌, ℕ, zero, suc, ◌+◌, ◌<◌, ◌≤◌, List, [], ◌∷◌, ◌++◌, Option, Some, None, refl, ap, ◌∙◌, arith}
use Rattle.types_rules.specs.Scope.{or_else, started, after_row}
use Rattle.types_rules.specs.Sights.{Node, after_external, external_nodes, externals_nodes, first_fault, node_fault}
use Rattle.types_rules.specs.declared.fault.Fault.{Fault}
use Rattle.command_numbered.proofs.Trees.{function, functions}
use Rattle.command_numbered.proofs.TypedFunctions.{function_after, function_passes, numbers}
use Rattle.command_numbered.proofs.Numbers.{above, around_at, definitions_at, definitions_none, loops_at, number, number_new, number_no_getchar, number_no_putchar, outline, routines_at, routines_none, scope_at, scope_none, variables_at}

pub fault_append : (xs ys : List Node) → first_fault (xs ++ ys) ≡ or_else (first_fault xs) (first_fault ys)
fault_append [] ys = refl
fault_append (x ∷ xs) ys = ap (or_else (node_fault x)) (fault_append xs ys) ∙ assoc (node_fault x) (first_fault xs) (first_fault ys)
  where
    assoc : (a b c : Option Fault) → or_else a (or_else b c) ≡ or_else (or_else a b) c
    assoc None b c = refl
    assoc (Some x) b c = refl

pub none_both : (xs ys : List Node) → first_fault xs ≡ None → first_fault ys ≡ None → first_fault (xs ++ ys) ≡ None
none_both xs ys a b = fault_append xs ys ∙ rw a b

pub started_at : (n : ℕ) → started (outline n) ≡ around_at n 0
started_at n = rw (above (n + 4) (n + 5) (omega arith)) refl

module _ (n : ℕ) (q : ℕ → ℕ → ℕ) where
  pub functions_after : (m : ℕ) → m ≤ n → after_row after_external (functions (numbers (n + 3) (n + 4)) number q m) (started (outline n)) ≡ around_at n m
  functions_after zero le = started_at n
  functions_after (suc m) le =
      let lt : m < n = omega (arith, le) in
      let g = number_no_getchar n m lt in
      let p = number_no_putchar n m lt in
      ap (after_external (function (numbers (n + 3) (n + 4)) (number (suc m)) (suc m) (q (suc m)))) (functions_after m (omega (arith, le)))
      ∙ function_after (n + 3) (n + 4) (outline n) (scope_at n m) (routines_at n m) (definitions_at m) (variables_at m) (loops_at m) (number (suc m)) (suc m) (q (suc m))
      (scope_none n (number (suc m)) g p m (number_new m)) (routines_none n (number (suc m)) g p m (number_new m)) (definitions_none (number (suc m)) m (number_new m))

  pub functions_pass : (m : ℕ) → m ≤ n → first_fault (externals_nodes (functions (numbers (n + 3) (n + 4)) number q m) (started (outline n))) ≡ None
  functions_pass zero le = refl
  functions_pass (suc m) le =
      let lt : m < n = omega (arith, le) in
      let g = number_no_getchar n m lt in
      let p = number_no_putchar n m lt in
      none_both (externals_nodes (functions (numbers (n + 3) (n + 4)) number q m) (started (outline n))) (external_nodes (function (numbers (n + 3) (n + 4)) (number (suc m)) (suc m) (q (suc m))) (after_row after_external (functions (numbers (n + 3) (n + 4)) number q m) (started (outline n))))
      (functions_pass m (omega (arith, le)))
      (ap (λ a. first_fault (external_nodes (function (numbers (n + 3) (n + 4)) (number (suc m)) (suc m) (q (suc m))) a)) (functions_after m (omega (arith, le)))
      ∙ function_passes (n + 3) (n + 4) (outline n) (scope_at n m) (routines_at n m) (definitions_at m) (variables_at m) (loops_at m) (number (suc m)) (suc m) (q (suc m))
      (scope_none n (number (suc m)) g p m (number_new m)) (routines_none n (number (suc m)) g p m (number_new m)) (definitions_none (number (suc m)) m (number_new m)) g p)
