-- The types of expressions (C11 6.5). An expression that breaks a rule by itself counts as int, so that no node fails for
-- its part's fault.
use Rattle.std.specs.Prelude.{ℕ, ◌+◌, nat_eq, Bool, true, false, ◌&&◌, ◌||◌, not, if◌then◌else◌, List, length, Option, Some, None, slice_get}
use Rattle.c_tree.specs.Tree.{Expr, Number, Character, Name, Paren, Index, Call, Postfix, Prefix, Cast, Binary, Conditional, Assign, Exprs, NoExpr, AndExpr}
use Rattle.c_tree.specs.declared.expression.BinaryOperator.{BinaryOperator}
use Rattle.c_tree.specs.declared.expression.BinaryOperator.TheVariants as binary
use Rattle.types_value.specs.Kinds.{common, is_void, same_kind}
use Rattle.types_value.specs.declared.kind.Kind.{Kind}
use Rattle.types_value.specs.declared.kind.Kind.TheVariants.{Void, Int}
use Rattle.types_value.specs.declared.operator.Operator.{Operator}
use Rattle.types_value.specs.declared.operator.Sign.{Sign}
use Rattle.types_rules.specs.Operations.{constant_kind, operator_of, sign_of, value_kind, sign_kind}
use Rattle.types_rules.specs.Scope.{Around, Outline, found, in_block, is_among, params_of, result_of, routine_of}
use Rattle.types_rules.specs.Specifiers.{are_wrong, kind_spelled}
use Rattle.types_rules.specs.declared.scope.Binding.{Binding}
use Rattle.types_rules.specs.declared.scope.Binding.TheVariants.{Object, Function}
use Rattle.types_rules.specs.declared.scope.ParamType.{ParamType}
use Rattle.types_rules.specs.declared.scope.Routine.{Routine}

abbrev pub or_int : Kind → Kind
or_int Void = Int
or_int kind = kind

-- the type of a name that is used as a value: that of a scalar object
abbrev pub name_kind : Option Binding → Kind
name_kind (Some (Object number kind const false)) = kind
name_kind _ = Int

-- the type of an element
abbrev pub element_kind : Option Binding → Kind
element_kind (Some (Object number kind const true)) = kind
element_kind _ = Int

-- the function that a name stands for at a node
abbrev pub routine_bound : Option Binding → ℕ → Around → Option Routine
routine_bound (Some Function) name a = routine_of name a
routine_bound _ name a = None

abbrev pub callee : ℕ → Around → Option Routine
callee name a = routine_bound (found name a) name a

abbrev pub is_unknown : Option Binding → Bool
is_unknown None = true
is_unknown (Some binding) = false

-- the array parameter that an argument stands for
abbrev pub takes_array : Option ParamType → Bool
takes_array None = false
takes_array (Some param) = param.is_array

-- an array of the element type, and a const one only where the parameter is const
abbrev pub is_array_for : ParamType → Option Binding → Bool
is_array_for param (Some (Object number kind const true)) = same_kind kind param.kind && (not const || param.is_const)
is_array_for param (Some binding) = false
is_array_for param None = true

-- what stands as an argument for an array parameter is an array's name; an undeclared one is judged where it stands
abbrev pub is_array_argument : Expr ℕ → ParamType → Around → Bool
is_array_argument (Name name at) param a = is_array_for param (found name a)
is_array_argument _ param a = false

abbrev pub argument_fits : Expr ℕ → Option ParamType → Around → Bool
argument_fits e None a = true
argument_fits e (Some param) a = if param.is_array then is_array_argument e param a else true

abbrev pub count : {N : Type 0} → Exprs N → ℕ
count NoExpr = 0
count (AndExpr front last) = count front + 1

-- each argument fits the parameter of its number
abbrev pub arguments_fit : Exprs ℕ → List ParamType → Around → Bool
arguments_fit NoExpr params a = true
arguments_fit (AndExpr front last) params a = arguments_fit front params a && argument_fits last (slice_get params (count front)) a

-- rule 7 at a call: its name is a function, which takes as many arguments, and they fit
abbrev pub is_callable : Option Binding → Bool
is_callable (Some Function) = true
is_callable _ = false

abbrev pub calls_rightly : ℕ → Exprs ℕ → Around → Bool
calls_rightly name arguments a =
    is_callable (found name a)
    && (nat_eq (count arguments) (length (params_of (callee name a))) && arguments_fit arguments (params_of (callee name a)) a)

-- rule 14: a function that is called is defined in the unit, `getchar` and `putchar` aside
abbrev pub has_definition : ℕ → Outline → Bool
has_definition name outline = nat_eq name outline.getchar || nat_eq name outline.putchar || is_among name outline.definitions

abbrev pub is_undefined : Option Binding → ℕ → Outline → Bool
is_undefined (Some Function) name outline = not (has_definition name outline)
is_undefined _ name outline = false

abbrev pub conditional_kind : (test first second : Kind) → Kind
conditional_kind Void first second = Int
conditional_kind test Void Void = Void
conditional_kind test first second = common first second

abbrev pub operated_kind : Option Operator → Kind → Kind → Kind
operated_kind None a b = Int
operated_kind (Some operator) a b = value_kind operator a b

abbrev pub binary_kind : BinaryOperator → Kind → Kind → Kind
binary_kind binary.Comma a b = b
binary_kind operator a b = operated_kind (operator_of operator) a b

-- a step has the type of its operand
abbrev pub prefix_kind : Option Sign → Kind → Kind
prefix_kind None a = or_int a
prefix_kind (Some sign) a = sign_kind sign a

abbrev pub cast_kind : (wrong : Bool) → Kind → Kind
cast_kind true kind = Int
cast_kind false kind = kind

-- whether a call breaks a rule by itself
abbrev pub breaks_call : ℕ → Exprs ℕ → (void : Bool) → Around → Bool
breaks_call function arguments void a =
    is_unknown (found function a) || not (calls_rightly function arguments a) || void || is_undefined (found function a) function a.outline

abbrev mutual
  pub kind_of : Expr ℕ → Around → Kind
  kind_of (Number constant at) a = constant_kind constant.scalar
  kind_of (Character value at) a = Int
  kind_of (Name name at) a = name_kind (found name a)
  kind_of (Paren inner at) a = kind_of inner a
  kind_of (Index array index at) a = element_kind (found array a)
  kind_of (Call function arguments at) a = if breaks_call function arguments (any_void arguments a) a then Int else result_of (callee function a)
  kind_of (Postfix operator operand at) a = or_int (kind_of operand a)
  kind_of (Prefix operator operand at) a = prefix_kind (sign_of operator) (kind_of operand a)
  kind_of (Cast specifiers operand at) a = cast_kind (are_wrong false (in_block a) specifiers) (kind_spelled specifiers)
  kind_of (Binary operator left right at) a = binary_kind operator (kind_of left a) (kind_of right a)
  kind_of (Conditional test first second at) a = conditional_kind (kind_of test a) (kind_of first a) (kind_of second a)
  kind_of (Assign operator target value at) a = or_int (kind_of target a)

  -- whether one of these is void
  pub any_void : Exprs ℕ → Around → Bool
  any_void NoExpr a = false
  any_void (AndExpr front last) a = any_void front a || is_void (kind_of last a)
