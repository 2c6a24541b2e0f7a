-- The rules on declarations (C11 6.7, 6.9.1), and what a declaration leaves visible.
use Rattle.std.specs.Prelude.{ℕ, ◌==◌, nat_le, nat_lt, Bool, true, false, ◌&&◌, ◌||◌, not, if◌then◌else◌, List, [], ◌∷◌, Option, Some, None, is_some, is_none}
use Rattle.c_tree.specs.Tree.{Row, Nothing, Then, Exprs, NoExpr, AndExpr, Shape, Scalar, Unsized, Sized, Initial, Absent, Value, Listed, Object, Declared, Param, Parameter, Declaration, Objects, Prototype}
use Rattle.c_tree.specs.declared.expression.Specifier.{Specifier}
use Rattle.c_tree.specs.declared.expression.Specifier.TheVariants as words
use Rattle.types_tree.specs.declared.variable.Extent.{Extent}
use Rattle.types_tree.specs.declared.variable.Extent.TheVariants.{Array, Parameter as Handed, Scalar as Single}
use Rattle.types_value.specs.Kinds.{is_void}
use Rattle.types_value.specs.declared.kind.Kind.{Kind}
use Rattle.types_rules.specs.Constants.{constant_word}
use Rattle.types_rules.specs.ExpressionRules.{when}
use Rattle.types_rules.specs.Scope.{Around, after_row, found_here, in_block, is_among, or_else, or_zero, routine_of, same_type, with_definition, with_loop, with_object, with_routine, entered}
use Rattle.types_rules.specs.Specifiers.{are_wrong, is_const, kind_spelled}
use Rattle.types_rules.specs.Types.{any_void, count, kind_of, or_int}
use Rattle.types_rules.specs.declared.fault.Rule.{Rule}
use Rattle.types_rules.specs.declared.fault.Rule.TheVariants as rules
use Rattle.types_rules.specs.declared.scope.Binding.{Binding}
use Rattle.types_rules.specs.declared.scope.Binding.TheVariants.{Object as Thing}
use Rattle.types_rules.specs.declared.scope.ParamType.{ParamType}
use Rattle.types_rules.specs.declared.scope.Routine.{Routine}

-- what a declaration says of each of its objects
pub record Base : Type 0 where
  pub kind : Kind
  pub const : Bool

abbrev pub base_of : List Specifier → Base
base_of specifiers = record { kind = kind_spelled specifiers; const = is_const specifiers }

abbrev pub has_brackets : {N : Type 0} → Shape N → Bool
has_brackets Scalar = false
has_brackets _ = true

abbrev pub list_length : {N : Type 0} → Initial N → ℕ
list_length (Listed values comma) = count values
list_length _ = 0

-- how many values an object holds: an array's size is that which is written, or that of its list
abbrev pub extent_of : Shape ℕ → Initial ℕ → Extent
extent_of Scalar initial = Single
extent_of Unsized initial = Array (list_length initial)
extent_of (Sized size) initial = Array (or_zero (constant_word size))

abbrev pub elements : Extent → ℕ
elements (Array n) = n
elements _ = 1

-- a list within a block leaves elements of its array over
abbrev pub is_filled : Shape ℕ → Initial ℕ → Around → Bool
is_filled shape (Listed values comma) a = in_block a && has_brackets shape && nat_lt (count values) (elements (extent_of shape (Listed values comma)))
is_filled shape _ a = false

abbrev pub with_filling : Bool → Around → Around
with_filling true a = with_loop a
with_filling false a = a

-- behind an object: it is visible already in its own initial value
abbrev pub after_object : Base → Object ℕ → Around → Around
after_object base (Declared name shape initial at) a =
    with_filling (is_filled shape initial a) (with_object name base.kind base.const (extent_of shape initial) a)

abbrev pub after_objects : Base → Row (Object ℕ) → Around → Around
after_objects base objects a = after_row (after_object base) objects a

-- rule 4: a written size is a constant
abbrev pub has_no_constant_size : Shape ℕ → Bool
has_no_constant_size (Sized size) = is_none (constant_word size)
has_no_constant_size _ = false

abbrev pub any_not_constant : Exprs ℕ → Bool
any_not_constant NoExpr = false
any_not_constant (AndExpr front last) = any_not_constant front || is_none (constant_word last)

-- rule 4: initial values of file level are constants
abbrev pub has_no_constant_value : Initial ℕ → Bool
has_no_constant_value Absent = false
has_no_constant_value (Value value) = is_none (constant_word value)
has_no_constant_value (Listed values comma) = any_not_constant values

abbrev pub is_size : ℕ → Bool
is_size n = nat_le 1 n && nat_le n 262144

abbrev pub is_bad_size : Option ℕ → (least : ℕ) → Bool
is_bad_size None least = false
is_bad_size (Some n) least = not (is_size n && nat_le least n)

-- rule 5: an array has 1 to 262144 elements, and its list isn't longer
abbrev pub has_bad_size : Shape ℕ → Initial ℕ → Bool
has_bad_size Scalar initial = false
has_bad_size Unsized initial = not (is_size (list_length initial))
has_bad_size (Sized size) initial = is_bad_size (constant_word size) (list_length initial)

-- rule 5 on a parameter, whose size may be missing
abbrev pub has_bad_param_size : Shape ℕ → Bool
has_bad_param_size (Sized size) = is_bad_size (constant_word size) 0
has_bad_param_size _ = false

-- rule 8 on initial values
abbrev pub has_void_value : Initial ℕ → Around → Bool
has_void_value Absent a = false
has_void_value (Value value) a = is_void (kind_of value a)
has_void_value (Listed values comma) a = any_void values a

-- rule 15: a list initialises an array, an expression a scalar, and a const object of a block has an initial value
abbrev pub has_wrong_initial : Shape ℕ → Initial ℕ → (const : Bool) → Around → Bool
has_wrong_initial shape Absent const a = const && in_block a
has_wrong_initial shape (Value value) const a = has_brackets shape
has_wrong_initial shape (Listed values comma) const a = not (has_brackets shape)

-- the least rule that fails at an object
abbrev pub object_rule : Base → Object ℕ → Around → Option Rule
object_rule base (Declared name shape initial at) a =
    or_else (when (is_some (found_here name a)) rules.Redeclared)
    (or_else (when (has_no_constant_size shape || (not (in_block a) && has_no_constant_value initial)) rules.Constant)
    (or_else (when (has_bad_size shape initial) rules.Size)
    (or_else (when (is_void base.kind || has_void_value initial (after_object base (Declared name shape initial at) a)) rules.Void)
    (when (has_wrong_initial shape initial base.const a) rules.Initial))))

-- a lone `void` is no parameter
abbrev pub is_void_alone : List Specifier → Bool
is_void_alone (words.Void ∷ []) = true
is_void_alone _ = false

abbrev pub is_nameless : {N : Type 0} → Param N → Bool
is_nameless (Parameter specifiers None Scalar at) = is_void_alone specifiers
is_nameless _ = false

abbrev pub is_no_list : {N : Type 0} → Row (Param N) → Bool
is_no_list Nothing = true
is_no_list (Then Nothing last) = is_nameless last
is_no_list _ = false

abbrev pub param_type : {N : Type 0} → Param N → ParamType
param_type (Parameter specifiers name shape at) =
    record { kind = or_int (kind_spelled specifiers); is_array = has_brackets shape; is_const = has_brackets shape && is_const specifiers }

-- the types of parameters, before others
abbrev pub param_types : {N : Type 0} → Row (Param N) → List ParamType → List ParamType
param_types Nothing rest = rest
param_types (Then front last) rest = param_types front (param_type last ∷ rest)

abbrev pub types_of : {N : Type 0} → Row (Param N) → List ParamType
types_of params = if is_no_list params then [] else param_types params []

-- a function's type
abbrev pub routine : List Specifier → Row (Param ℕ) → Routine
routine specifiers params = record { result = kind_spelled specifiers; params = types_of params }

abbrev pub is_object : Option Binding → Bool
is_object (Some (Thing number kind const array)) = true
is_object _ = false

abbrev pub has_other_type : Option Routine → Routine → Bool
has_other_type None f = false
has_other_type (Some g) f = not (same_type g f)

-- rule 3: no object of this scope has the function's name, and the function has one type
abbrev pub redeclares : ℕ → Routine → Around → Bool
redeclares name f a = is_object (found_here name a) || has_other_type (routine_of name a) f

-- rule 3: a function is defined once, and not `getchar` or `putchar`
abbrev pub redefines : ℕ → Around → Bool
redefines name a = is_among name a.defined || (name == a.outline.getchar) || (name == a.outline.putchar)

-- the least rule that fails at a parameter of a mere declaration
abbrev pub prototype_param_rule : Param ℕ → Around → Option Rule
prototype_param_rule (Parameter specifiers name shape at) a =
    or_else (when (are_wrong false (in_block a) specifiers) rules.Specifiers)
    (or_else (when (has_no_constant_size shape) rules.Constant)
    (or_else (when (has_bad_param_size shape) rules.Size)
    (when (is_void (kind_spelled specifiers)) rules.Void)))

abbrev pub is_taken : Option ℕ → Around → Bool
is_taken None a = true
is_taken (Some name) a = is_some (found_here name a)

-- the least rule that fails at a parameter of a definition; it stands at file level, and its name is none of those before it
abbrev pub param_rule : Param ℕ → Around → Option Rule
param_rule (Parameter specifiers name shape at) a =
    or_else (when (are_wrong false false specifiers) rules.Specifiers)
    (or_else (when (has_no_constant_size shape) rules.Constant)
    (or_else (when (has_bad_param_size shape) rules.Size)
    (or_else (when (is_void (kind_spelled specifiers)) rules.Void)
    (when (is_taken name a) rules.Parameter))))

abbrev pub param_extent : {N : Type 0} → Shape N → Extent
param_extent Scalar = Single
param_extent _ = Handed

abbrev pub after_param : Param ℕ → Around → Around
after_param (Parameter specifiers None shape at) a = a
after_param (Parameter specifiers (Some name) shape at) a = with_object name (kind_spelled specifiers) (is_const specifiers) (param_extent shape) a

abbrev pub after_params : Row (Param ℕ) → Around → Around
after_params params a = after_row after_param params a

-- behind the parameters of a definition
abbrev pub after_list : Row (Param ℕ) → Around → Around
after_list params a = if is_no_list params then a else after_params params a

abbrev pub after_declaration : Declaration ℕ → Around → Around
after_declaration (Objects specifiers objects at) a = after_objects (base_of specifiers) objects a
after_declaration (Prototype specifiers name params at) a = with_routine name (routine specifiers params) a

-- the least rule that fails at a declaration
abbrev pub declaration_rule : Declaration ℕ → Around → Option Rule
declaration_rule (Objects specifiers objects at) a = when (are_wrong false (in_block a) specifiers) rules.Specifiers
declaration_rule (Prototype specifiers name params at) a =
    or_else (when (are_wrong true (in_block a) specifiers) rules.Specifiers)
    (when (redeclares name (routine specifiers params) a) rules.Redeclared)

-- the least rule that fails at a definition of a function
abbrev pub function_rule : List Specifier → ℕ → Row (Param ℕ) → Around → Option Rule
function_rule specifiers name params a =
    or_else (when (are_wrong true false specifiers) rules.Specifiers)
    (when (redeclares name (routine specifiers params) a || redefines name a) rules.Redeclared)

-- within a function, which is visible in itself; its parameters and its body's block are one scope
abbrev pub within_function : List Specifier → ℕ → Row (Param ℕ) → Around → Around
within_function specifiers name params a = entered (with_definition name (with_routine name (routine specifiers params) a))
