-- An object, by what is known of its parts.
use Rattle.std.proofs.Common.{◌≡◌, ap, ◌∙◌, sym, ℕ, Bool, ◌||◌, ◌&&◌, not, Option}
use Rattle.std.specs.Prelude.{is_some}
use Rattle.c_tree.specs.Tree.{Initial, Object, Declared, Shape}
use Rattle.c_tree.specs.View.{object_of as source_object}
use Rattle.c_tree.specs.declared.declaration.Object as sources
use Rattle.types_value.specs.Kinds.{is_void}
use Rattle.types_rules.specs.DeclarationRules.{Base, after_object, has_bad_size, has_no_constant_size, has_no_constant_value, has_void_value, has_wrong_initial, object_rule}
use Rattle.types_rules.specs.ExpressionRules.{when}
use Rattle.types_rules.specs.Scope.{Around, found_here, in_block, or_else}
use Rattle.types_rules.specs.Sights.{fault_at, first_fault, initial_nodes, object_nodes, shape_nodes}
use Rattle.types_rules.specs.declared.fault.Fault.{Fault}
use Rattle.types_rules.specs.declared.fault.Rule.{Rule}
use Rattle.types_rules.specs.declared.fault.Rule.TheVariants as rules
use Rattle.types_expression.proofs.Choice.{or_else-assoc}
use Rattle.types_expression.proofs.FirstFault.{first_fault-append}
use Rattle.types_declaration.specs.Objects.{early_rule}
use Rattle.types_declaration.proofs.Rows.{Walk}

abbrev pub objects_walk : Base → Walk sources.Object (Object ℕ)
objects_walk base = record { view = source_object; step = after_object base; nodes = object_nodes base }

-- the rules on an object in two groups
object_rule-groups : (base : Base) (name : ℕ) (shape : Shape ℕ) (initial : Initial ℕ) (at : ℕ) (a : Around)
    → or_else (early_rule (Declared name shape initial at) a) (or_else (when (is_void base.kind || has_void_value initial (after_object base (Declared name shape initial at) a)) rules.Void) (when (has_wrong_initial shape initial base.const a) rules.Initial))
    ≡ object_rule base (Declared name shape initial at) a
object_rule-groups base name shape initial at a =
    let taken = when (is_some (found_here name a)) rules.Redeclared in
    let constant = when (has_no_constant_size shape || (not (in_block a) && has_no_constant_value initial)) rules.Constant in
    let size = when (has_bad_size shape initial) rules.Size in
    let void = when (is_void base.kind || has_void_value initial (after_object base (Declared name shape initial at) a)) rules.Void in
    let late = or_else void (when (has_wrong_initial shape initial base.const a) rules.Initial) in
    or_else-assoc taken (or_else constant size) late ∙ ap (or_else taken) (or_else-assoc constant size late)

pub object_fault : (base : Base) (name : ℕ) (shape : Shape ℕ) (initial : Initial ℕ) (at : ℕ) (a b : Around) (early : Option Rule) (void wrong : Bool) (in_shape in_initial : Option Fault)
    → b ≡ after_object base (Declared name shape initial at) a → early ≡ early_rule (Declared name shape initial at) a → void ≡ has_void_value initial b → wrong ≡ has_wrong_initial shape initial base.const a
    → in_shape ≡ first_fault (shape_nodes shape a) → in_initial ≡ first_fault (initial_nodes initial b)
    → or_else (fault_at (or_else early (or_else (when (is_void base.kind || void) rules.Void) (when wrong rules.Initial))) at) (or_else in_shape in_initial) ≡ first_fault (object_nodes base (Declared name shape initial at) a)
object_fault base name shape initial at a b early void wrong in_shape in_initial ab e v w s i =
    let behind = after_object base (Declared name shape initial at) a in
    let object = Declared name shape initial at in
    rw (e, v, w, s, i, ab)
    (ap (λ o. or_else (fault_at o at) (or_else (first_fault (shape_nodes shape a)) (first_fault (initial_nodes initial behind)))) (object_rule-groups base name shape initial at a)
    ∙ ap (or_else (fault_at (object_rule base object a) at)) (sym (first_fault-append (shape_nodes shape a) (initial_nodes initial behind))))
