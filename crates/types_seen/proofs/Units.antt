-- A typed tree is that of a unit at which no rule fails.
use Rattle.std.proofs.Common.{◌≡◌, refl, ap, sym, ℕ, List, Option, Some, None}
use Rattle.std.proofs.lemmas.Option.{none-some}
use Rattle.types_rules.specs.Limits.{broken, limits_before, limits_behind, tally_unit, variables_of}
use Rattle.types_rules.specs.Scope.{started}
use Rattle.types_rules.specs.Sights.{externals_nodes, first_fault, outline_of, unit_nodes, SeenUnit}
use Rattle.types_rules.specs.declared.fault.Fault.{Fault}
use Rattle.types_rules.specs.declared.fault.TypeFault.TheVariants.{Rule as BreaksRule}
use Rattle.c_tree.specs.Size.{size_unit}
use Rattle.c_tree.specs.Tree.{Row, External, TranslationUnit, Whole}
use Rattle.types_rules.specs.Typed.{fault_behind, fault_of, typed_of}
use Rattle.types_tree.specs.Tree as typed
use Rattle.types_seen.proofs.Rules.{none_first, none_second, parts_keep}
use Rattle.types_seen.specs.Units.{HasTree, IsUnit}

pub not_broken : (o : Option Fault) → broken o ≡ None → o ≡ None
not_broken None h = refl
not_broken (Some fault) h = absurd (none-some (BreaksRule fault.rule fault.at) (sym h))

-- the unit of a typed tree
pub record OfUnit (names : List (List ℕ)) (program : typed.Program) : Type 0 where
  pub items : Row (External ℕ)
  pub at : ℕ
  pub is_unit : IsUnit (outline_of names (Whole items at)) items program
  pub passes : fault_of names (Whole items at) ≡ None

pub of_tree : (names : List (List ℕ)) (program : typed.Program) → HasTree names program → OfUnit names program
of_tree names program tree = of tree.unit tree.passes tree.program_is
  where
    of : (unit : TranslationUnit ℕ) → fault_of names unit ≡ None → program ≡ typed_of names unit → OfUnit names program
    of (Whole items at) passes is =
        let unit = Whole items at in
        let outline = outline_of names unit in
        let behind = none_second (limits_before (size_unit unit).nodes (tally_unit unit)) (fault_behind outline unit) passes in
        let first = not_broken (first_fault (unit_nodes outline unit)) (none_first (broken (first_fault (unit_nodes outline unit))) (limits_behind (variables_of outline unit)) behind) in
        record {
          items = items;
          at = at;
          is_unit = record {
            faultless = parts_keep (SeenUnit unit outline) (externals_nodes items (started outline)) first;
            listed = refl;
            items_are = ap (λ p. p.items) is;
            functions_are = ap (λ p. p.functions) is;
            variables_are = ap (λ p. p.variables) is;
          };
          passes = passes;
        }
