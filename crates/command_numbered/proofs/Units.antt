-- A numbered source as a whole breaks no rule.
use Rattle.std.proofs.Common.{◌≡◌, ℕ, zero, suc, ◌+◌, ◌<◌, ◌≤◌, ◌||◌, true, false, nat_eq, [], ◌∷◌, ◌++◌, Some, None, refl, ap, ◌∙◌, arith}
use Rattle.std.specs.Map.{lookup}
use Rattle.std.proofs.lemmas.Bool.{or_left, or_right}
use Rattle.types_rules.specs.Scope.{after_row, bound, is_among, putchar_type, started}
use Rattle.types_rules.specs.Sights.{after_external, external_nodes, externals_nodes, first_fault, has_main, unit_nodes}
use Rattle.types_rules.specs.Types.{has_definition}
use Rattle.types_rules.specs.declared.scope.Binding.TheVariants.{Function as Called}
use Rattle.command_numbered.proofs.Trees.{Places, externals, functions, main_of, unit}
use Rattle.command_numbered.proofs.TypedFunctions.{numbers}
use Rattle.command_numbered.proofs.TypedMains.{body_passes, main_passes, main_type}
use Rattle.command_numbered.proofs.Numbers.{above, among_more, around_at, below, definitions_at, definitions_none, definitions_some, lookup_bound, lookup_push, loops_at, number, number_low, outline, own_type, routines_at, routines_none, routines_some, same, scope_at, scope_none, scope_some, variables_at, IsNone}
use Rattle.command_numbered.proofs.Rows.{functions_after, functions_pass, none_both}

-- the number of `main` and that of `putchar` are those of no function
pub high : (n m x : ℕ) → n + 3 ≤ x → m ≤ n → IsNone m x
high n m x le within j lt = let low = number_low j n (omega (arith, lt, within)) in below x (number (suc j)) (omega (arith, low, le))

pub putchar_scope : (n m : ℕ) → m ≤ n → lookup (nat_eq (n + 4)) (scope_at n m) ≡ Some Called
putchar_scope n zero le = rw (above (n + 4) (n + 5) (omega arith)) (rw (same (n + 4)) refl)
putchar_scope n (suc m) le = lookup_bound (n + 4) (number (suc m)) Called (scope_at n m) (high n (suc m) (n + 4) (omega arith) le m (omega arith)) ∙ putchar_scope n m (omega (arith, le))

pub putchar_routine : (n m : ℕ) → m ≤ n → lookup (nat_eq (n + 4)) (routines_at n m) ≡ Some putchar_type
putchar_routine n zero le = rw (above (n + 4) (n + 5) (omega arith)) (rw (same (n + 4)) refl)
putchar_routine n (suc m) le = lookup_push (n + 4) (routines_at n m) (number (suc m)) own_type (high n (suc m) (n + 4) (omega arith) le m (omega arith)) ∙ putchar_routine n m (omega (arith, le))

known_function : (n j : ℕ) → j < n → has_definition (number (suc j)) (outline n) ≡ true
known_function n j lt = or_right (nat_eq (number (suc j)) (n + 5) || nat_eq (number (suc j)) (n + 4)) _ (among_more (number (suc j)) (n + 3) (definitions_at n) (definitions_some j n lt))

known_putchar : (n : ℕ) → has_definition (n + 4) (outline n) ≡ true
known_putchar n = or_left (nat_eq (n + 4) (n + 5) || nat_eq (n + 4) (n + 4)) (is_among (n + 4) (outline n).definitions) (or_right (nat_eq (n + 4) (n + 5)) (nat_eq (n + 4) (n + 4)) (same (n + 4)))

module _ (n : ℕ) (p : Places) where
  main_fine : first_fault (external_nodes (main_of (numbers (n + 3) (n + 4)) number p n) (around_at n n)) ≡ None
  main_fine =
      let no_g : nat_eq (n + 3) (n + 5) ≡ false = above (n + 3) (n + 5) (omega arith) in
      let no_p : nat_eq (n + 3) (n + 4) ≡ false = above (n + 3) (n + 4) (omega arith) in
      let none : IsNone n (n + 3) = high n n (n + 3) (omega arith) (omega arith) in
      let other : nat_eq (n + 4) (n + 3) ≡ false = below (n + 4) (n + 3) (omega arith) in
      main_passes (n + 3) (n + 4) (outline n) (scope_at n n) (routines_at n n) (definitions_at n) (variables_at n) (loops_at n)
      (scope_none n (n + 3) no_g no_p n none) (routines_none n (n + 3) no_g no_p n none) (definitions_none (n + 3) n none) p n no_g no_p
      (body_passes (n + 3) (n + 4) (outline n) (bound (scope_at n n) (n + 3) Called) (routines_at n n ++ (n + 3, main_type) ∷ []) (definitions_at n ++ (n + 3) ∷ []) (variables_at n) (loops_at n) n
      (λ j lt. lookup_bound (number (suc j)) (n + 3) Called (scope_at n n) (above (number (suc j)) (n + 3) (number_low j n lt)) ∙ scope_some n j n lt)
      (λ j lt. lookup_push (number (suc j)) (routines_at n n) (n + 3) main_type (above (number (suc j)) (n + 3) (number_low j n lt)) ∙ routines_some n j n lt (omega arith))
      (known_function n) p.head p.tail p.call (below (n + 4) 3 (omega arith))
      (lookup_bound (n + 4) (n + 3) Called (scope_at n n) other ∙ putchar_scope n n (omega arith))
      (lookup_push (n + 4) (routines_at n n) (n + 3) main_type other ∙ putchar_routine n n (omega arith))
      (known_putchar n))

  externals_fine : first_fault (externals_nodes (externals (numbers (n + 3) (n + 4)) number p n) (started (outline n))) ≡ None
  externals_fine =
      none_both (externals_nodes (functions (numbers (n + 3) (n + 4)) number p.function n) (started (outline n)))
      (external_nodes (main_of (numbers (n + 3) (n + 4)) number p n) (after_row after_external (functions (numbers (n + 3) (n + 4)) number p.function n) (started (outline n))))
      (functions_pass n p.function n (omega arith))
      (ap (λ a. first_fault (external_nodes (main_of (numbers (n + 3) (n + 4)) number p n) a)) (functions_after n p.function n (omega arith)) ∙ main_fine)

  has_own_main : has_main (n + 3) (externals (numbers (n + 3) (n + 4)) number p n) ≡ true
  has_own_main = or_right (has_main (n + 3) (functions (numbers (n + 3) (n + 4)) number p.function n)) _ (rw (same (n + 3)) refl)

  pub unit_fine : first_fault (unit_nodes (outline n) (unit (numbers (n + 3) (n + 4)) number p n)) ≡ None
  unit_fine = rw has_own_main externals_fine
