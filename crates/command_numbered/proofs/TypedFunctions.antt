-- A function of a numbered source breaks no rule, and what it leaves visible.
use Rattle.std.proofs.Common.{◌≡◌, ℕ, ◌+◌, false, nat_eq, List, [], ◌∷◌, ◌++◌, None, refl}
use Rattle.std.specs.Map.{lookup}
use Rattle.types_tree.specs.declared.variable.Variable.{Variable}
use Rattle.types_rules.specs.Scope.{Outline, Scope, bound, is_among}
use Rattle.types_rules.specs.Sights.{after_external, external_nodes, first_fault}
use Rattle.types_rules.specs.declared.scope.Binding.TheVariants.{Function as Called}
use Rattle.types_rules.specs.declared.scope.Routine.{Routine}
use Rattle.command_numbered.proofs.Trees.{Given, function}
use Rattle.command_numbered.proofs.Numbers.{around, own_type, variable}

-- the numbers of the names
abbrev pub numbers : (main putchar : ℕ) → Given ℕ
numbers main putchar = record { x = 1; k = 2; s = 3; main = main; putchar = putchar }

module _ (main putchar : ℕ) (o : Outline) (scope : Scope) (routines : List (ℕ × Routine)) (defined : List ℕ) (variables : List Variable) (loops f i : ℕ) (q : ℕ → ℕ)
    (new : lookup (nat_eq f) scope ≡ None) (untyped : lookup (nat_eq f) routines ≡ None) (undefined : is_among f defined ≡ false) where
  pub function_passes : nat_eq f o.getchar ≡ false → nat_eq f o.putchar ≡ false → first_fault (external_nodes (function (numbers main putchar) f i q) (around o scope routines defined variables loops)) ≡ None
  function_passes no_getchar no_putchar = rw new (rw untyped (rw undefined (rw no_getchar (rw no_putchar refl))))

  pub function_after : after_external (function (numbers main putchar) f i q) (around o scope routines defined variables loops)
      ≡ around o (bound scope f Called) (routines ++ (f, own_type) ∷ []) (defined ++ f ∷ []) (((variables ++ variable 1 ∷ []) ++ variable 2 ∷ []) ++ variable 3 ∷ []) (loops + 1)
  function_after = rw untyped (rw undefined refl)
