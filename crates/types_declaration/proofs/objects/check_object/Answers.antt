use Rattle.std.proofs.Common.{◌≡◌, refl, ◌∙◌}
use Rattle.c_tree.specs.View.{initial_of as source_initial, object_of as source_object, shape_of as source_shape}
use Rattle.types_rules.specs.DeclarationRules.{after_object}
use Rattle.types_declaration.specs.Objects.{base_said}
use Rattle.types_declaration.proofs.ObjectFaults.{object_fault}
use Rattle.types_declaration.proofs.objects.check_object.Goals as goal

pub returns : goal.returns
returns c =
    let base = base_said c.args.base in
    let o = c.args.object.now in
    let a = c.args.table.now in
    let after : c.fill.new.table ≡ after_object base (source_object o) a = c.in-Ok-fill.ensures.after ∙ rw (c.in-Ok.ensures, c.in_ok-filled.ensures, c.in_ok-held.ensures) refl in
    let initial = c.in-Ok-check_initial.ensures in
    record {
      object = rw (c.in_ok-number.ensures, c.objects.ensures, c.in_ok-shape.ensures.shape, initial.initial, c.in-Ok-fill.ensures.filling, after, c.in-Ok.ensures, c.in_ok-filled.ensures) refl;
      fault = rw (c.first_of-2.ensures, c.first_of.ensures, c.fault_at-own.ensures, c.rule_or.ensures, c.rule_or-late.ensures, c.when.ensures, c.when-2.ensures, c.either-void.ensures, c.is_void.ensures)
          (object_fault base o.name.0 (source_shape o.shape) (source_initial o.initial) o.at a c.fill.new.table c.early_rule-early.result c.in-Ok-check_initial.initial.void c.has_wrong_initial-wrong.result c.in_ok-shape.shape.fault c.in-Ok-check_initial.initial.fault
          after c.early_rule-early.ensures initial.void c.has_wrong_initial-wrong.ensures c.in_ok-shape.ensures.fault initial.fault);
      after = after;
    }
