-- The arrays of a plan have elements.
use Rattle.std.proofs.Common.{◌≡◌, ℕ, ◌<◌, List, [], ◌∷◌, None, refl, sym, subst, arith, All}
use Rattle.std.proofs.lemmas.List.Elements.{All-cons, All-head, All-nil, All-tail}
use Rattle.facts_definitions.specs.FlowFacts.{main_of}
use Rattle.facts_definitions.specs.declared.facts.Facts.{Facts}
use Rattle.c_tree.specs.Tree.{TranslationUnit, Whole}
use Rattle.types_rules.specs.Scope.{started}
use Rattle.types_rules.specs.Sights.{outline_of}
use Rattle.types_tree.specs.Tree as typed
use Rattle.types_tree.specs.declared.variable.Duration.{Duration}
use Rattle.types_tree.specs.declared.variable.Duration.TheVariants.{Automatic, Static}
use Rattle.types_tree.specs.declared.variable.Extent.{Extent}
use Rattle.types_tree.specs.declared.variable.Extent.TheVariants.{Array, Parameter, Scalar}
use Rattle.types_tree.specs.declared.variable.Variable.{Variable}
use Rattle.types_rules.specs.Typed.{fault_of, typed_of}
use Rattle.high_ir.specs.Tree as high
use Rattle.plan_formed.proofs.Memory.{rules_pass}
use Rattle.plan_definition.specs.Layouts.{Given, elements_of, first_given, given_object, givens, givens_behind, local_object, object_before, objects_from}
use Rattle.plan_definition.specs.Programs.{program_planned}
use Rattle.plan_formed.specs.Checked.{IsChecked}
use Rattle.plan_formed.specs.Elements.{HasSome, SomeBy}
use Rattle.high_ir.specs.Whole.{HasElements}
use Rattle.plan_formed.proofs.ElementSizes.{of_objects, of_parameters}
use Rattle.plan_formed.proofs.ElementWalk.{externals_keep}

abbrev Fills : high.Object → Type 0
Fills o = 0 < o.size

extent_some : (e : Extent) → SomeBy e → 0 < elements_of e
extent_some Scalar h = omega arith
extent_some (Array count) h = h
extent_some Parameter h = omega arith

object_some : (d : Duration) (e : Extent) (v : Variable) (given : Given) (behind : List high.Object) → e ≡ v.extent → SomeBy e → All Fills behind → All Fills (object_before d e v given behind)
object_some Static e v given behind is h rest = All-cons Fills (given_object v given) behind (subst (λ x. 0 < elements_of x) is (extent_some e h)) rest
object_some Automatic Scalar v given behind is h rest = rest
object_some Automatic (Array count) v given behind is h rest = All-cons Fills (local_object v count) behind h rest
object_some Automatic Parameter v given behind is h rest = rest

objects_some : (variables : List Variable) (given : List Given) → All HasSome variables → All Fills (objects_from variables given)
objects_some [] given h = All-nil Fills
objects_some (v ∷ rest) given h =
    object_some v.duration v.extent v (first_given given) (objects_from rest (givens_behind v.duration given)) refl (All-head HasSome v rest h) (objects_some rest (givens_behind v.duration given) (All-tail HasSome v rest h))

unit_some : (names : List (List ℕ)) (unit : TranslationUnit ℕ) → fault_of names unit ≡ None → All HasSome (typed_of names unit).variables
unit_some names (Whole items at) passes = externals_keep HasSome of_objects of_parameters items (started (outline_of names (Whole items at))) (rules_pass names items at passes) (All-nil HasSome)

pub plan_some : (names : List (List ℕ)) (program : typed.Program) (facts : Facts) → IsChecked names program facts → HasElements (program_planned program facts (main_of program names))
plan_some names program facts h = objects_some program.variables (givens program.items) (subst (λ (p : typed.Program). All HasSome p.variables) (sym h.program_is) (unit_some names h.unit h.passes))
