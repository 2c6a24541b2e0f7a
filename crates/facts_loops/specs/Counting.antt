-- Counting loops (C11 6.8.5.3): a `for` whose first part sets a local int to a constant, whose test compares it with a constant, and
-- whose last part steps it by a constant, while nothing in its body changes it. Such an object isn't const, since it is stepped.
use Rattle.std.specs.Prelude.{ℕ, ◌+◌, ◌-◌, ◌/◌, ◌^◌, ◌==◌, nat_le, nat_lt, min, Bool, true, false, not, ◌&&◌, ℤ, pos, negsuc, ◌-ℤ◌, List, [], ◌∷◌, Option, Some, None, slice_get}
use Rattle.facts_definitions.specs.Starts.{is_constant, leaves, word}
use Rattle.facts_definitions.specs.declared.facts.Bounds.{Bounds}
use Rattle.c_tree.specs.declared.expression.PostfixOperator.{PostfixOperator}
use Rattle.c_tree.specs.declared.expression.PostfixOperator.TheVariants.{Increment, Decrement}
use Rattle.types_tree.specs.Tree.{Place, Scalar, Element, Within, Expr, Read, Step, Convert, Operate, Assign, Update, Initial, Absent, Value, Listed, Object, Declared, Declaration, Objects, Prototype, ForStart, NoStart, StartValue, StartDeclaration, Statement}
use Rattle.types_tree.specs.declared.variable.Duration.{Duration}
use Rattle.types_tree.specs.declared.variable.Duration.TheVariants.{Automatic}
use Rattle.types_tree.specs.declared.variable.Extent.{Extent}
use Rattle.types_tree.specs.declared.variable.Extent.TheVariants.{Scalar as Single}
use Rattle.types_tree.specs.declared.variable.Variable.{Variable}
use Rattle.types_value.specs.Kinds.{same_kind}
use Rattle.types_value.specs.declared.kind.Kind.TheVariants.{Int}
use Rattle.types_value.specs.declared.operator.Operator.{Operator}
use Rattle.types_value.specs.declared.operator.Operator.TheVariants.{Add, Subtract, Less, Greater, LessEqual, GreaterEqual}
use Rattle.wcc_base.specs.Words.{signed_word}
use Rattle.facts_loops.specs.Changes.{statement_changes}
use Rattle.facts_loops.specs.declared.form.Limit.{Limit}

-- what comes of something that is there
abbrev pub on_some : {A B : Type 0} → Option A → (A → Option B) → Option B
on_some None f = None
on_some (Some x) f = f x

abbrev pub only_if : {A : Type 0} → Bool → Option A → Option A
only_if true x = x
only_if false x = None

-- a word of 32 bits
abbrev pub fitting : Option ℕ → Option ℕ
fitting None = None
fitting (Some w) = only_if (nat_lt w (2 ^ 32)) (Some w)

-- an expression that C converts, since it is of another type than is wanted
abbrev pub is_converted : Expr → Bool
is_converted (Convert to operand) = true
is_converted _ = false

-- where an int is wanted: the word of a constant of type int whose value is defined (C11 6.6)
abbrev pub int_constant : Expr → Option ℕ
int_constant e = only_if (not (is_converted e) && is_constant e) (fitting (word e))

-- a name alone, without brackets
abbrev pub scalar_of : Place → Option ℕ
scalar_of (Scalar object at) = Some object
scalar_of (Element array index at) = None
scalar_of (Within inner at) = None

abbrev pub same_object : Option ℕ → (object : ℕ) → Bool
same_object None object = false
same_object (Some own) object = own == object

abbrev pub is_scalar : (object : ℕ) → Place → Bool
is_scalar object place = same_object (scalar_of place) object

-- the only one of a list
abbrev pub only : {A : Type 0} → List A → Option A
only [] = None
only (x ∷ []) = Some x
only (x ∷ y ∷ rest) = None

-- the object that the first part of a `for` sets
abbrev pub assigned_object : Expr → Option ℕ
assigned_object (Assign target value at) = scalar_of target
assigned_object _ = None

abbrev pub number_of : Object → Option ℕ
number_of (Declared object shape initial at) = Some object

abbrev pub declared_object : Declaration → Option ℕ
declared_object (Objects specifiers objects at) = on_some (only objects) number_of
declared_object (Prototype specifiers name params at) = None

abbrev pub set_object : ForStart → Option ℕ
set_object NoStart = None
set_object (StartValue e) = assigned_object e
set_object (StartDeclaration declaration) = declared_object declaration

-- the constant that it sets it to
abbrev pub assigned_word : Expr → Option ℕ
assigned_word (Assign target value at) = int_constant value
assigned_word _ = None

abbrev pub initial_word : Initial → Option ℕ
initial_word Absent = None
initial_word (Value e) = int_constant e
initial_word (Listed es comma filling) = None

abbrev pub word_of : Object → Option ℕ
word_of (Declared object shape initial at) = initial_word initial

abbrev pub declared_word : Declaration → Option ℕ
declared_word (Objects specifiers objects at) = on_some (only objects) word_of
declared_word (Prototype specifiers name params at) = None

abbrev pub first_word : ForStart → Option ℕ
first_word NoStart = None
first_word (StartValue e) = assigned_word e
first_word (StartDeclaration declaration) = declared_word declaration

-- a local scalar, or a scalar parameter
abbrev pub is_local : Duration → Extent → Bool
is_local Automatic Single = true
is_local _ _ = false

-- of type int
abbrev pub is_counter : Option Variable → Bool
is_counter None = false
is_counter (Some v) = is_local v.duration v.extent && same_kind v.kind Int

-- the object that counts
abbrev pub counter_of : List Variable → ForStart → (body : Statement) → Option ℕ
counter_of variables start body =
    on_some (set_object start) (λ object. only_if (is_counter (slice_get variables object) && not (statement_changes object body)) (Some object))

abbrev pub reads : (object : ℕ) → Expr → Bool
reads object (Read place) = is_scalar object place
reads object _ = false

abbrev pub is_limit : Operator → Bool
is_limit Less = true
is_limit LessEqual = true
is_limit Greater = true
is_limit GreaterEqual = true
is_limit _ = false

abbrev pub limit_by : Operator → (word : ℕ) → Option Limit
limit_by operator word = Some (record { operator = operator; word = word })

-- the comparison of the object with a constant
abbrev pub compared : (object : ℕ) → Expr → Option Limit
compared object (Operate operator kind left right at) =
    only_if (is_limit operator && (same_kind kind Int && reads object left)) (on_some (int_constant right) (limit_by operator))
compared object _ = None

abbrev pub limit_of : (object : ℕ) → Option Expr → Option Limit
limit_of object test = on_some test (compared object)

-- towards a limit from below the object rises, towards one from above it falls
abbrev pub is_up : Operator → Bool
is_up Less = true
is_up LessEqual = true
is_up _ = false

abbrev pub steps_up : PostfixOperator → Bool
steps_up Increment = true
steps_up Decrement = false

abbrev pub adds : Operator → (up : Bool) → Bool
adds Add up = up
adds Subtract up = not up
adds _ up = false

abbrev pub goes : (own up : Bool) → Bool
goes true up = up
goes false up = not up

-- a number of type int that is at least 1
abbrev pub positive : ℕ → Option ℕ
positive w = only_if (nat_le 1 w && nat_lt w (2 ^ 31)) (Some w)

-- by how much an expression steps the object in this direction
abbrev pub stepped_by : (object : ℕ) → (up : Bool) → Expr → Option ℕ
stepped_by object up (Step fix operator kind target at) = only_if (is_scalar object target && (same_kind kind Int && goes (steps_up operator) up)) (Some 1)
stepped_by object up (Update operator kind to target value at) =
    only_if (is_scalar object target && (same_kind kind Int && (same_kind to Int && adds operator up))) (on_some (int_constant value) positive)
stepped_by object up _ = None

abbrev pub step_of : (object : ℕ) → (up : Bool) → Option Expr → Option ℕ
step_of object up step = on_some step (stepped_by object up)

-- how far the limit lies ahead
abbrev pub distance : (up : Bool) → (first limit : ℕ) → ℤ
distance true first limit = signed_word limit -ℤ signed_word first
distance false first limit = signed_word first -ℤ signed_word limit

-- whether a test fails at its limit
abbrev pub is_strict : Operator → Bool
is_strict Less = true
is_strict Greater = true
is_strict _ = false

-- how many steps come to the limit, or pass it
abbrev pub turns_over : (strict : Bool) → (distance : ℤ) → (step : ℕ) → ℕ
turns_over true (pos d) step = (d + (step - 1)) / step
turns_over false (pos d) step = d / step + 1
turns_over strict (negsuc d) step = 0

abbrev pub turns : (first : ℕ) → Limit → (step : ℕ) → ℕ
turns first limit step = turns_over (is_strict limit.operator) (distance (is_up limit.operator) first limit.word) step

-- a loop that may be left before has to turn once at most
abbrev pub least_turns : (left : Bool) → (turns : ℕ) → ℕ
least_turns true n = min 1 n
least_turns false n = n

abbrev pub bounds_by : (left : Bool) → (turns : ℕ) → Option Bounds
bounds_by left n = only_if (nat_le n 2147483647) (Some (record { min = least_turns left n; max = n }))

-- the bounds that the form of a `for` gives, where it is a counting loop
abbrev pub counting : List Variable → ForStart → (test step : Option Expr) → (body : Statement) → Option Bounds
counting variables start test step body =
    on_some (counter_of variables start body) (λ object.
    on_some (first_word start) (λ first.
    on_some (limit_of object test) (λ limit.
    on_some (step_of object (is_up limit.operator) step) (λ by.
    bounds_by (leaves true body) (turns first limit by)))))
