-- What is said of declarations.
use Rattle.std.specs.Prelude.{◌≡◌, ℕ, if◌then◌else◌, [], Option}
use Rattle.c_tree.specs.Tree.{Row, Param, Declaration}
use Rattle.types_tree.specs.View.{declaration_of}
use Rattle.types_rules.specs.DeclarationRules.{after_declaration, is_no_list}
use Rattle.types_rules.specs.Scope.{Around}
use Rattle.types_rules.specs.Sights.{declaration_nodes, first_fault, prototype_params_nodes}
use Rattle.types_rules.specs.Typing.{typed_declaration}
use Rattle.types_rules.specs.declared.fault.Fault.{Fault}
use Rattle.types_declaration.specs.declared.declarations.CheckedDeclaration.{CheckedDeclaration}

-- the first fault in the parameters of a mere declaration
abbrev pub prototype_fault : Row (Param ℕ) → Around → Option Fault
prototype_fault params a = first_fault (if is_no_list params then [] else prototype_params_nodes params a)

-- a declaration's typed form, the first fault in it, and what is visible behind it
pub record IsDeclaration (r : CheckedDeclaration) (d : Declaration ℕ) (a b : Around) : Type 0 where
  pub declaration : declaration_of r.declaration ≡ typed_declaration d a
  pub fault : r.fault ≡ first_fault (declaration_nodes d a)
  pub after : b ≡ after_declaration d a
