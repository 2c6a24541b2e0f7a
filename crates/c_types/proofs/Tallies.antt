-- What parts have of what is counted, one behind the other.
use Rattle.std.proofs.Common.{◌≡◌, refl, ap, ◌∙◌, sym, ℕ, ◌+◌, List, [], ◌∷◌, length, Option, Some, None, false, arith}
use Rattle.c_tree.specs.Tree.{Row, Nothing, Then, Items, External}
use Rattle.c_tree.specs.View.{and_item, external_of, items_of, param_of, row_of}
use Rattle.c_tree.specs.declared.external.External as externals
use Rattle.c_tree.specs.declared.declaration.Param as params
use Rattle.c_tree.specs.declared.statement.Item as items
use Rattle.types_rules.specs.DeclarationRules.{is_no_list}
use Rattle.types_rules.specs.Limits.{Tally, joined, nothing_counted, parameter_count, row_length, tally_external, tally_externals, tally_items}
use Rattle.types_rules.specs.Scope.{or_else}
use Rattle.c_types.specs.Tally.{tally_item}

abbrev pub tally_each : {A : Type 0} → (A → Tally) → List A → Tally → Tally
tally_each f [] t = t
tally_each f (x ∷ xs) t = tally_each f xs (joined t (f x))

or_else-none : {A : Type 0} (o : Option A) → or_else o None ≡ o
or_else-none (Some x) = refl
or_else-none None = refl

plus-zero : (n : ℕ) → n + 0 ≡ n
plus-zero n = omega arith

joined-nothing : (t : Tally) → joined t nothing_counted ≡ t
joined-nothing t =
    ap (λ n. record { functions = n; parameters = or_else t.parameters None; markers = t.markers + 0; restrictions = t.restrictions + 0 }) (plus-zero t.functions)
    ∙ ap (λ o. record { functions = t.functions; parameters = o; markers = t.markers + 0; restrictions = t.restrictions + 0 }) (or_else-none t.parameters)
    ∙ ap (λ n. record { functions = t.functions; parameters = t.parameters; markers = n; restrictions = t.restrictions + 0 }) (plus-zero t.markers)
    ∙ ap (λ n. record { functions = t.functions; parameters = t.parameters; markers = t.markers; restrictions = n }) (plus-zero t.restrictions)

tally_one : (front : Items ℕ) (x : items.Item) → tally_items (and_item front x) ≡ joined (tally_items front) (tally_item x)
tally_one front (items.Declaration declaration) = refl
tally_one front (items.Statement statement) = refl
tally_one front (items.Restriction pragma) = refl
tally_one front (items.Label label) = sym (joined-nothing (tally_items front))

pub tally_items-each : (front : Items ℕ) (xs : List items.Item) → tally_items (items_of front xs) ≡ tally_each tally_item xs (tally_items front)
tally_items-each front [] = refl
tally_items-each front (x ∷ xs) = tally_items-each (and_item front x) xs ∙ ap (tally_each tally_item xs) (tally_one front x)

abbrev pub external_tally : externals.External → Tally
external_tally x = tally_external (external_of x)

pub tally_externals-each : (front : Row (External ℕ)) (xs : List externals.External) → tally_externals (row_of external_of front xs) ≡ tally_each external_tally xs (tally_externals front)
tally_externals-each front [] = refl
tally_externals-each front (x ∷ xs) = tally_externals-each (Then front (external_of x)) xs

pub row_length-row : {A B : Type 0} (g : A → B) (front : Row B) (xs : List A) → row_length (row_of g front xs) ≡ row_length front + length xs
row_length-row g front [] = omega arith
row_length-row g front (x ∷ xs) = let h = row_length-row g (Then front (g x)) xs in omega (arith, h)

pub parameter_count-list : (xs : List params.Param) → is_no_list (row_of param_of Nothing xs) ≡ false → parameter_count (row_of param_of Nothing xs) ≡ length xs
parameter_count-list xs h = rw h (row_length-row param_of Nothing xs ∙ zero-plus (length xs))
  where
    zero-plus : (n : ℕ) → 0 + n ≡ n
    zero-plus n = omega arith
