-- The functions of a unit, behind those before them, and `main` among them.
use Rattle.std.proofs.Common.{◌≡◌, refl, ◌∙◌, sym, ℕ, List, [], ◌∷◌, ◌++◌, Bool, true, false, ◌||◌}
use Rattle.c_tree.specs.Tree.{Row, Then, External, Restriction, Declaring, Function}
use Rattle.c_tree.specs.View.{external_of, row_of}
use Rattle.c_tree.specs.declared.external.External as externals
use Rattle.types_tree.specs.Tree as typed
use Rattle.types_rules.specs.Scope.{Around}
use Rattle.types_rules.specs.Sights.{after_external, external_nodes, has_main, is_main}
use Rattle.types_rules.specs.Typing.{typed_function}
use Rattle.types_declaration.proofs.Rows.{Walk}

abbrev pub externals_walk : Walk externals.External (External ℕ)
externals_walk = record { view = external_of; step = after_external; nodes = external_nodes }

pub typed_function-before : (x : External ℕ) (a : Around) (rest : List typed.Function) → typed_function x a rest ≡ typed_function x a [] ++ rest
typed_function-before (Restriction pragma) a rest = refl
typed_function-before (Declaring declaration) a rest = refl
typed_function-before (Function specifiers name name_at params body body_at at) a rest = refl

abbrev pub main_among : ℕ → List externals.External → Bool
main_among main [] = false
main_among main (x ∷ xs) = is_main main (external_of x) || main_among main xs

or-false : (b : Bool) → (b || false) ≡ b
or-false true = refl
or-false false = refl

or-assoc : (a b c : Bool) → ((a || b) || c) ≡ (a || (b || c))
or-assoc true b c = refl
or-assoc false b c = refl

pub has_main-row : (main : ℕ) (front : Row (External ℕ)) (xs : List externals.External) → has_main main (row_of external_of front xs) ≡ (has_main main front || main_among main xs)
has_main-row main front [] = sym (or-false (has_main main front))
has_main-row main front (x ∷ xs) = has_main-row main (Then front (external_of x)) xs ∙ or-assoc (has_main main front) (is_main main (external_of x)) (main_among main xs)
