-- An array at which no rule fails has elements.
use Rattle.std.proofs.Common.{◌≡◌, ℕ, ◌<◌, Bool, true, false, Option, Some, None, refl, arith}
use Rattle.std.specs.Prelude.{◌&&◌, ◌||◌, not, is_none, is_some, nat_le}
use Rattle.std.proofs.lemmas.Bool.{or_parts, true≢false}
use Rattle.std.proofs.lemmas.Bool.Decides.{nat_tests}
use Rattle.c_tree.specs.Tree.{Declared, Initial, Scalar, Shape, Sized, Unsized}
use Rattle.types_value.specs.Kinds.{is_void}
use Rattle.types_rules.specs.Constants.{constant_word}
use Rattle.types_rules.specs.DeclarationRules.{after_object, extent_of, has_bad_size, has_no_constant_size, has_no_constant_value, has_void_value, has_wrong_initial, is_bad_size, is_size, list_length}
use Rattle.types_rules.specs.ExpressionRules.{when}
use Rattle.types_rules.specs.Scope.{found_here, in_block, or_else, or_zero}
use Rattle.types_rules.specs.Sights.{SeenObject}
use Rattle.types_rules.specs.declared.fault.Rule.TheVariants as rules
use Rattle.plan_formed.proofs.Faults.{no_first, no_second, rule_of, when_none}
use Rattle.plan_formed.specs.Elements.{HasSome, SomeBy}
use Rattle.plan_formed.proofs.ElementWalk.{OfObjects, OfParameters}

size_some : (n : ℕ) (b : Bool) → not (is_size n && b) ≡ false → 0 < n
size_some n b h = by_test (nat_le 1 n) refl h
  where
    by_test : (t : Bool) → nat_le 1 n ≡ t → not ((t && nat_le n 262144) && b) ≡ false → 0 < n
    by_test true t h = grind (arith, nat_tests, t)
    by_test false t h = absurd (true≢false h)

own_size : (n : ℕ) → not (is_size n) ≡ false → 0 < n
own_size n h = by_test (nat_le 1 n) refl h
  where
    by_test : (t : Bool) → nat_le 1 n ≡ t → not (t && nat_le n 262144) ≡ false → 0 < n
    by_test true t h = grind (arith, nat_tests, t)
    by_test false t h = absurd (true≢false h)

written_size : (word : Option ℕ) (least : ℕ) → is_none word ≡ false → is_bad_size word least ≡ false → 0 < or_zero word
written_size None least constant h = absurd (true≢false constant)
written_size (Some n) least constant h = size_some n (nat_le least n) h

shape_some : (shape : Shape ℕ) (initial : Initial ℕ) → has_no_constant_size shape ≡ false → has_bad_size shape initial ≡ false → SomeBy (extent_of shape initial)
shape_some Scalar initial constant h = tt
shape_some Unsized initial constant h = own_size (list_length initial) h
shape_some (Sized size) initial constant h = written_size (constant_word size) (list_length initial) constant h

pub of_objects : OfObjects HasSome
of_objects base name shape initial at a rest h =
    let behind = after_object base (Declared name shape initial at) a in
    let void = is_void base.kind || has_void_value initial behind in
    let last = when (has_wrong_initial shape initial base.const a) rules.Initial in
    let kinds = or_else (when void rules.Void) last in
    let sizes = or_else (when (has_bad_size shape initial) rules.Size) kinds in
    let unwritten = not (in_block a) && has_no_constant_value initial in
    let constants = or_else (when (has_no_constant_size shape || unwritten) rules.Constant) sizes in
    let rule = rule_of (SeenObject base (Declared name shape initial at) a) rest h in
    let one = no_second (when (is_some (found_here name a)) rules.Redeclared) constants rule in
    let two = no_second (when (has_no_constant_size shape || unwritten) rules.Constant) sizes one in
    let constant = when_none (has_no_constant_size shape || unwritten) rules.Constant (no_first (when (has_no_constant_size shape || unwritten) rules.Constant) sizes one) in
    shape_some shape initial (or_parts (has_no_constant_size shape) unwritten constant).0 (when_none (has_bad_size shape initial) rules.Size (no_first (when (has_bad_size shape initial) rules.Size) kinds two))

pub of_parameters : OfParameters HasSome
of_parameters name kind Scalar a = tt
of_parameters name kind Unsized a = tt
of_parameters name kind (Sized size) a = tt
