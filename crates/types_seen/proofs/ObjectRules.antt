-- What holds of objects at which no rule fails.
use Rattle.std.proofs.Common.{◌≡◌, ℕ, ◌≤◌, false, Option, Some, None, leb-true}
use Rattle.std.specs.Prelude.{◌&&◌, ◌||◌, ◌++◌, not, nat_le, is_none, is_some}
use Rattle.std.proofs.lemmas.Bool.{and_parts, not-false, true≢false}
use Rattle.c_tree.specs.Tree.{Shape, Initial, Declared}
use Rattle.types_value.specs.Kinds.{is_void}
use Rattle.types_rules.specs.DeclarationRules.{Base, after_object, has_bad_size, has_no_constant_size, has_no_constant_value, has_void_value, has_wrong_initial, is_bad_size, is_size, object_rule}
use Rattle.types_rules.specs.ExpressionRules.{when}
use Rattle.types_rules.specs.Scope.{Around, found_here, in_block, or_else, or_zero}
use Rattle.types_rules.specs.Sights.{fault_at, first_fault, initial_nodes, object_nodes, shape_nodes}
use Rattle.types_rules.specs.declared.fault.Rule.TheVariants as rules
use Rattle.types_seen.proofs.Rules.{NoFault, no_rule, none_first, none_second, not_when}

-- no rule fails at an object by itself
pub record KeepsObject (base : Base) (shape : Shape ℕ) (initial : Initial ℕ) (a : Around) : Type 0 where
  pub constant : (has_no_constant_size shape || (not (in_block a) && has_no_constant_value initial)) ≡ false
  pub size : has_bad_size shape initial ≡ false
  pub given : has_wrong_initial shape initial base.const a ≡ false

keeps_object : (base : Base) (name : ℕ) (shape : Shape ℕ) (initial : Initial ℕ) (at : ℕ) (a : Around) → object_rule base (Declared name shape initial at) a ≡ None → KeepsObject base shape initial a
keeps_object base name shape initial at a h =
    let constant = has_no_constant_size shape || (not (in_block a) && has_no_constant_value initial) in
    let void = is_void base.kind || has_void_value initial (after_object base (Declared name shape initial at) a) in
    let o5 = when (has_wrong_initial shape initial base.const a) rules.Initial in
    let o4 = or_else (when void rules.Void) o5 in
    let o3 = or_else (when (has_bad_size shape initial) rules.Size) o4 in
    let o2 = or_else (when constant rules.Constant) o3 in
    let h2 = none_second (when (is_some (found_here name a)) rules.Redeclared) o2 h in
    let h3 = none_second (when constant rules.Constant) o3 h2 in
    let h4 = none_second (when (has_bad_size shape initial) rules.Size) o4 h3 in
    let h5 = none_second (when void rules.Void) o5 h4 in
    record {
      constant = not_when constant rules.Constant (none_first (when constant rules.Constant) o3 h2);
      size = not_when (has_bad_size shape initial) rules.Size (none_first (when (has_bad_size shape initial) rules.Size) o4 h3);
      given = not_when (has_wrong_initial shape initial base.const a) rules.Initial h5;
    }

pub keeps_at : (base : Base) (name : ℕ) (shape : Shape ℕ) (initial : Initial ℕ) (at : ℕ) (a : Around) → NoFault (object_nodes base (Declared name shape initial at) a) → KeepsObject base shape initial a
keeps_at base name shape initial at a h =
    let o = Declared name shape initial at in
    let rest = shape_nodes shape a ++ initial_nodes initial (after_object base o a) in
    keeps_object base name shape initial at a (no_rule (object_rule base o a) at (none_first (fault_at (object_rule base o a) at) (first_fault rest) h))

-- an array's size
pub size_ok : (o : Option ℕ) (least : ℕ) → is_none o ≡ false → is_bad_size o least ≡ false → (least ≤ or_zero o) × (or_zero o ≤ 262144)
size_ok None least some good = absurd (true≢false some)
size_ok (Some n) least some good =
    let parts = and_parts (is_size n) (nat_le least n) (not-false (is_size n && nat_le least n) good) in
    let size = and_parts (nat_le 1 n) (nat_le n 262144) parts.0 in
    (leb-true least n parts.1, leb-true n 262144 size.1)

pub unsized_ok : (n : ℕ) → not (is_size n) ≡ false → n ≤ 262144
unsized_ok n good = let size = and_parts (nat_le 1 n) (nat_le n 262144) (not-false (is_size n) good) in leb-true n 262144 size.1
