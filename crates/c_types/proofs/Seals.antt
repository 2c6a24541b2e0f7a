-- What refuses a unit, and the typed program of one that isn't refused.
use Rattle.std.proofs.Common.{◌≡◌, ap, ◌∙◌, sym, ℕ, ◌≤◌, List, Some, None}
use Rattle.std.proofs.Math.Logic.{∥∥₁_elim, ∥∥₁_map, ∥∥₁_prop}
use Rattle.c_tree.specs.Formed.{IsFormedUnit}
use Rattle.c_tree.specs.Named.{named_unit}
use Rattle.c_tree.specs.Names.{AreDistinct, AreListed, AreNames, name_of, names_of_unit}
use Rattle.c_tree.specs.Size.{size_unit}
use Rattle.c_tree.specs.Tree.{Row, External, TranslationUnit, Whole}
use Rattle.types_tree.specs.Tree as typed
use Rattle.types_tree.specs.declared.variable.Variable.{Variable}
use Rattle.types_rules.specs.Limits.{limits_before, tally_unit}
use Rattle.types_rules.specs.Scope.{or_else}
use Rattle.types_rules.specs.Sights.{outline_of}
use Rattle.types_rules.specs.declared.fault.TypeFault.{TypeFault}
use Rattle.types_rules.specs.declared.fault.TypeFault.TheVariants.{Limit, Rule as BreaksRule, Memory}
use Rattle.types_rules.specs.Typed.{IsTypedTree, Refuses, fault_behind, fault_of, typed_of}

pub refuses : (fault : TypeFault) (names : List (List ℕ)) (unit : TranslationUnit ℕ) → fault_of names unit ≡ Some fault → Refuses fault names unit
refuses (Limit which found) names unit h = h
refuses (BreaksRule rule at) names unit h = h
refuses Memory names unit h = tt

-- what comes first decides
pub before_decides : (names : List (List ℕ)) (unit : TranslationUnit ℕ) (fault : TypeFault) → Some fault ≡ limits_before (size_unit unit).nodes (tally_unit unit) → fault_of names unit ≡ Some fault
before_decides names unit fault h = ap (λ o. or_else o (fault_behind (outline_of names unit) unit)) (sym h)

pub behind_decides : (names : List (List ℕ)) (unit : TranslationUnit ℕ) → None ≡ limits_before (size_unit unit).nodes (tally_unit unit) → fault_of names unit ≡ fault_behind (outline_of names unit) unit
behind_decides names unit h = ap (λ o. or_else o (fault_behind (outline_of names unit) unit)) (sym h)

-- a program from its parts
pub same_program : (names : List (List ℕ)) (items : Row (External ℕ)) (at : ℕ) (is : List typed.External) (fs : List typed.Function) (vs : List Variable)
    → is ≡ (typed_of names (Whole items at)).items → fs ≡ (typed_of names (Whole items at)).functions → vs ≡ (typed_of names (Whole items at)).variables
    → record { items = is; functions = fs; variables = vs; at = at } ≡ typed_of names (Whole items at)
same_program names items at is fs vs i f v =
    ap (λ x. record { items = x; functions = fs; variables = vs; at = at }) i
    ∙ ap (λ x. record { items = (typed_of names (Whole items at)).items; functions = x; variables = vs; at = at }) f
    ∙ ap (λ x. record { items = (typed_of names (Whole items at)).items; functions = (typed_of names (Whole items at)).functions; variables = x; at = at }) v

pub sealed : (names : List (List ℕ)) (unit : TranslationUnit ℕ) (program : typed.Program) → ∥ IsFormedUnit unit ∥₁ → (size_unit unit).depth ≤ 256 → ∥ AreListed names unit ∥₁ → ∥ AreNames names ∥₁ → AreDistinct names → names ≡ names_of_unit (named_unit (name_of names) unit) → fault_of names unit ≡ None → program ≡ typed_of names unit → ∥ IsTypedTree names program ∥₁
sealed names unit program formed shallow listed named distinct ordered passes is =
    ∥∥₁_elim formed ∥∥₁_prop (λ f. ∥∥₁_elim listed ∥∥₁_prop (λ l. ∥∥₁_map named (λ n. record { unit = unit; is_formed = f; shallow = shallow; are_listed = l; are_names = n; are_distinct = distinct; are_in_order = ordered; passes = passes; program_is = is })))
