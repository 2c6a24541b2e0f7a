-- A declaration of objects, by what is known of its parts.
use Rattle.std.proofs.Common.{◌≡◌, ap, ◌∙◌, ℕ, false, map, Option}
use Rattle.std.specs.Prelude.{Vec}
use Rattle.std.specs.Global.{Global}
use Rattle.c_tree.specs.View.{declaration_of as source_declaration}
use Rattle.c_tree.specs.declared.declaration.Declaration.TheVariants as source
use Rattle.c_tree.specs.declared.declaration.Object as sources
use Rattle.c_tree.specs.declared.expression.Specifier.{Specifier}
use Rattle.types_tree.specs.Tree as typed
use Rattle.types_tree.specs.View.{object_of}
use Rattle.types_tree.specs.declared.declaration.Declaration.TheVariants as code
use Rattle.types_rules.specs.DeclarationRules.{base_of}
use Rattle.types_rules.specs.ExpressionRules.{when}
use Rattle.types_rules.specs.Scope.{Around, in_block, or_else}
use Rattle.types_rules.specs.Sights.{fault_at}
use Rattle.types_rules.specs.Specifiers.{are_wrong}
use Rattle.types_rules.specs.declared.fault.Fault.{Fault}
use Rattle.types_rules.specs.declared.fault.Rule.TheVariants as rules
use Rattle.types_declaration.specs.Declarations.{IsDeclaration}
use Rattle.types_declaration.specs.Objects.{AreObjects}
use Rattle.types_declaration.specs.declared.objects.CheckedObjects.{CheckedObjects}

pub objects_declared : (r : CheckedObjects) (specifiers copied : Vec Specifier Global) (objects : Vec sources.Object Global) (at : ℕ) (a b : Around) (fault : Option Fault)
    → copied.items ≡ specifiers.items → AreObjects r (base_of specifiers.items) objects.items a b
    → fault ≡ or_else (fault_at (when (are_wrong false (in_block a) specifiers.items) rules.Specifiers) at) r.fault
    → IsDeclaration (record { declaration = code.Objects copied r.objects at; fault = fault }) (source_declaration (source.Objects specifiers objects at)) a b
objects_declared r specifiers copied objects at a b fault c i f =
    record {
      declaration = ap (λ ws. typed.Objects ws (map object_of r.objects.items) at) c ∙ ap (λ xs. typed.Objects specifiers.items xs at) i.objects;
      fault = f ∙ ap (or_else (fault_at (when (are_wrong false (in_block a) specifiers.items) rules.Specifiers) at)) i.fault;
      after = i.after;
    }
