-- The rules on expressions, each on one node and the declarations that are visible there (C11 6.5).
use Rattle.std.specs.Prelude.{ℕ, Bool, true, false, ◌&&◌, ◌||◌, not, Option, Some, None}
use Rattle.c_tree.specs.Tree.{Expr, Name, Paren, Index, Call, Postfix, Prefix, Cast, Binary, Conditional, Assign}
use Rattle.c_tree.specs.declared.expression.BinaryOperator.{BinaryOperator}
use Rattle.c_tree.specs.declared.expression.BinaryOperator.TheVariants as binary
use Rattle.c_tree.specs.declared.expression.PrefixOperator.{PrefixOperator}
use Rattle.c_tree.specs.declared.expression.PrefixOperator.TheVariants as prefix
use Rattle.types_value.specs.Kinds.{is_void}
use Rattle.types_rules.specs.Scope.{Around, found, in_block, or_else}
use Rattle.types_rules.specs.Specifiers.{are_wrong, kind_spelled}
use Rattle.types_rules.specs.Types.{any_void, calls_rightly, is_callable, is_undefined, is_unknown, kind_of}
use Rattle.types_rules.specs.declared.fault.Rule.{Rule}
use Rattle.types_rules.specs.declared.fault.Rule.TheVariants as rules
use Rattle.types_rules.specs.declared.scope.Binding.{Binding}
use Rattle.types_rules.specs.declared.scope.Binding.TheVariants.{Object, Function}

abbrev pub when : Bool → Rule → Option Rule
when true rule = Some rule
when false rule = None

abbrev pub differ : Bool → Bool → Bool
differ true b = not b
differ false b = b

-- rule 1: the words of a cast spell a type, and each stands there at most once
abbrev pub has_wrong_words : Expr ℕ → Around → Bool
has_wrong_words (Cast specifiers operand at) a = are_wrong false (in_block a) specifiers
has_wrong_words _ a = false

-- rule 2: a used name is declared
abbrev pub is_undeclared : Expr ℕ → Around → Bool
is_undeclared (Name name at) a = is_unknown (found name a)
is_undeclared (Index array index at) a = is_unknown (found array a)
is_undeclared (Call function arguments at) a = is_unknown (found function a)
is_undeclared _ a = false

abbrev pub names_array : Option Binding → Bool
names_array (Some (Object number kind const array)) = array
names_array _ = false

abbrev pub names_no_array : Option Binding → Bool
names_no_array None = false
names_no_array (Some (Object number kind const array)) = not array
names_no_array (Some Function) = true

-- rule 6: an array's name stands only before `[` or as an argument for an array parameter; what is indexed is an array
abbrev pub misuses_array : Expr ℕ → (as_array : Bool) → Around → Bool
misuses_array (Name name at) as_array a = not as_array && names_array (found name a)
misuses_array (Index array index at) as_array a = names_no_array (found array a)
misuses_array _ as_array a = false

-- rule 7: a function's name is called; a called name is a function, with arguments that fit
abbrev pub misuses_function : Expr ℕ → Around → Bool
misuses_function (Name name at) a = is_callable (found name a)
misuses_function (Call function arguments at) a = not (calls_rightly function arguments a)
misuses_function _ a = false

-- a comma drops its left value; every other operator uses both
abbrev pub uses_both : BinaryOperator → Bool
uses_both binary.Comma = false
uses_both _ = true

-- rule 8: no value of type void is used. Both parts of `?:` may be void, and a cast to void takes anything
abbrev pub uses_void : Expr ℕ → Around → Bool
uses_void (Index array index at) a = is_void (kind_of index a)
uses_void (Call function arguments at) a = any_void arguments a
uses_void (Postfix operator operand at) a = is_void (kind_of operand a)
uses_void (Prefix operator operand at) a = is_void (kind_of operand a)
uses_void (Cast specifiers operand at) a = not (is_void (kind_spelled specifiers)) && is_void (kind_of operand a)
uses_void (Binary operator left right at) a = uses_both operator && (is_void (kind_of left a) || is_void (kind_of right a))
uses_void (Conditional test first second at) a = is_void (kind_of test a) || differ (is_void (kind_of first a)) (is_void (kind_of second a))
uses_void (Assign operator target value at) a = is_void (kind_of target a) || is_void (kind_of value a)
uses_void _ a = false

-- an object that may be written; an undeclared name and a function's are judged where they stand
abbrev pub is_scalar_place : Option Binding → Bool
is_scalar_place (Some (Object number kind const array)) = not array && not const
is_scalar_place _ = true

-- an element that may be written; a name that is no array's is judged where it stands
abbrev pub is_element_place : Option Binding → Bool
is_element_place (Some (Object number kind const true)) = not const
is_element_place _ = true

-- what may be assigned or stepped; brackets change nothing
abbrev pub is_place : Expr ℕ → Around → Bool
is_place (Name name at) a = is_scalar_place (found name a)
is_place (Index array index at) a = is_element_place (found array a)
is_place (Paren inner at) a = is_place inner a
is_place _ a = false

abbrev pub is_step : PrefixOperator → Bool
is_step prefix.Increment = true
is_step prefix.Decrement = true
is_step _ = false

-- rule 9: what is assigned or stepped is an object or element that isn't const
abbrev pub writes_no_place : Expr ℕ → Around → Bool
writes_no_place (Postfix operator operand at) a = not (is_place operand a)
writes_no_place (Prefix operator operand at) a = is_step operator && not (is_place operand a)
writes_no_place (Assign operator target value at) a = not (is_place target a)
writes_no_place _ a = false

-- rule 14: a called function is defined
abbrev pub calls_undefined : Expr ℕ → Around → Bool
calls_undefined (Call function arguments at) a = is_undefined (found function a) function a.outline
calls_undefined _ a = false

-- the least rule that fails at an expression, by itself
abbrev pub expr_rule : Expr ℕ → (as_array : Bool) → Around → Option Rule
expr_rule e as_array a =
    or_else (when (has_wrong_words e a) rules.Specifiers)
    (or_else (when (is_undeclared e a) rules.Undeclared)
    (or_else (when (misuses_array e as_array a) rules.Array)
    (or_else (when (misuses_function e a) rules.Call)
    (or_else (when (uses_void e a) rules.Void)
    (or_else (when (writes_no_place e a) rules.Assigned)
    (when (calls_undefined e a) rules.Undefined))))))
