-- What is said of objects.
use Rattle.std.specs.Prelude.{◌≡◌, ℕ, ◌&&◌, ◌||◌, not, List, [], map, Option, is_some}
use Rattle.c_tree.specs.Tree.{Nothing, Object, Declared}
use Rattle.c_tree.specs.View.{object_of as source_object, row_of}
use Rattle.c_tree.specs.declared.declaration.Object as sources
use Rattle.types_tree.specs.View.{object_of}
use Rattle.types_rules.specs.DeclarationRules.{Base, after_object, after_objects, has_bad_size, has_no_constant_size, has_no_constant_value}
use Rattle.types_rules.specs.ExpressionRules.{when}
use Rattle.types_rules.specs.Scope.{Around, found_here, in_block, or_else}
use Rattle.types_rules.specs.Sights.{first_fault, object_nodes, objects_nodes}
use Rattle.types_rules.specs.Typing.{and_object, typed_object, typed_row}
use Rattle.types_rules.specs.declared.fault.Rule.{Rule}
use Rattle.types_rules.specs.declared.fault.Rule.TheVariants as rules
use Rattle.types_declaration.specs.declared.objects.Base as code
use Rattle.types_declaration.specs.declared.objects.CheckedObject.{CheckedObject}
use Rattle.types_declaration.specs.declared.objects.CheckedObjects.{CheckedObjects}

abbrev pub base_said : code.Base → Base
base_said base = record { kind = base.kind; const = base.is_const }

-- the rules on an object that come before that on void
abbrev pub early_rule : Object ℕ → Around → Option Rule
early_rule (Declared name shape initial at) a =
    or_else (when (is_some (found_here name a)) rules.Redeclared)
    (or_else (when (has_no_constant_size shape || (not (in_block a) && has_no_constant_value initial)) rules.Constant)
    (when (has_bad_size shape initial) rules.Size))

-- an object's typed form, the first fault in it, and what is visible behind it
pub record IsObject (r : CheckedObject) (base : Base) (o : Object ℕ) (a b : Around) : Type 0 where
  pub object : object_of r.object ≡ typed_object base o a
  pub fault : r.fault ≡ first_fault (object_nodes base o a)
  pub after : b ≡ after_object base o a

-- the same of the objects of a declaration
pub record AreObjects (r : CheckedObjects) (base : Base) (given : List sources.Object) (a b : Around) : Type 0 where
  pub objects : map object_of r.objects.items ≡ typed_row (after_object base) (and_object base) (row_of source_object Nothing given) a []
  pub fault : r.fault ≡ first_fault (objects_nodes base (row_of source_object Nothing given) a)
  pub after : b ≡ after_objects base (row_of source_object Nothing given) a
