-- Where the objects of a program live: scalars of functions in frames, all else in arrays of the program.
use Rattle.std.specs.Prelude.{ℕ, ◌+◌, ◌==◌, nat_le, Bool, true, false, if◌then◌else◌, List, [], ◌∷◌, length, drop, count_by, Option, Some, None}
use Rattle.std.specs.List.{list_any}
use Rattle.facts_definitions.specs.Starts.{word}
use Rattle.c_tree.specs.declared.expression.Specifier.{Specifier}
use Rattle.c_tree.specs.declared.expression.Specifier.TheVariants.{Const}
use Rattle.types_tree.specs.Tree as c
use Rattle.types_tree.specs.declared.variable.Duration.{Duration}
use Rattle.types_tree.specs.declared.variable.Duration.TheVariants.{Static, Automatic}
use Rattle.types_tree.specs.declared.variable.Extent.{Extent}
use Rattle.types_tree.specs.declared.variable.Extent.TheVariants.{Scalar, Array as Elements, Parameter as Passed}
use Rattle.types_tree.specs.declared.variable.Variable.{Variable}
use Rattle.high_ir.specs.declared.object.Base.{Base}
use Rattle.high_ir.specs.declared.object.Base.TheVariants.{Object, Parameter}
use Rattle.high_ir.specs.declared.object.Storage.{Storage}
use Rattle.high_ir.specs.declared.object.Storage.TheVariants.{Constant, Global, Local}
use Rattle.high_ir.specs.Tree as high
use Rattle.plan_definition.specs.declared.home.Home.{Home}
use Rattle.plan_definition.specs.declared.home.Home.TheVariants.{Frame, Memory}
use Rattle.plan_definition.specs.Operators.{kind_of}

-- the next variable of the frame, the next array parameter, and the next array
pub record Next : Type 0 where
  pub variable : ℕ
  pub parameter : ℕ
  pub object : ℕ

abbrev pub in_array : Variable → Base → Home
in_array v base = Memory (record { kind = kind_of v.kind; base = base })

abbrev pub home_by : Duration → Extent → Variable → Next → Home
home_by Static extent v next = in_array v (Object next.object)
home_by Automatic Scalar v next = Frame next.variable
home_by Automatic (Elements count) v next = in_array v (Object next.object)
home_by Automatic Passed v next = in_array v (Parameter next.parameter)

abbrev pub one_object : Next → Next
one_object next = record { variable = next.variable; parameter = next.parameter; object = next.object + 1 }

abbrev pub next_by : Duration → Extent → Next → Next
next_by Static extent next = one_object next
next_by Automatic Scalar next = record { variable = next.variable + 1; parameter = next.parameter; object = next.object }
next_by Automatic (Elements count) next = one_object next
next_by Automatic Passed next = record { variable = next.variable; parameter = next.parameter + 1; object = next.object }

-- the functions whose objects begin behind this one
abbrev pub ahead : (firsts : List ℕ) → (number : ℕ) → List ℕ
ahead [] number = []
ahead (first ∷ rest) number = if nat_le first number then ahead rest number else first ∷ rest

-- a function has a frame of its own
abbrev pub begun : (same : Bool) → Next → Next
begun true next = next
begun false next = record { variable = 0; parameter = 0; object = next.object }

-- the homes of objects from a number on, where functions begin with the objects of these numbers
abbrev pub homes_from : (firsts : List ℕ) → List Variable → (number : ℕ) → Next → List Home
homes_from firsts [] number next = []
homes_from firsts (v ∷ rest) number next =
    let after = ahead firsts number in
    let here = begun (length after == length firsts) next in
    home_by v.duration v.extent v here ∷ homes_from after rest (number + 1) (next_by v.duration v.extent here)

abbrev pub first_of : c.Function → ℕ
first_of (c.Defined specifiers name name_at params first body body_at at) = first

abbrev pub firsts_of : List c.Function → List ℕ
firsts_of [] = []
firsts_of (f ∷ rest) = first_of f ∷ firsts_of rest

abbrev pub homes_of : c.Program → List Home
homes_of program = homes_from (firsts_of program.functions) program.variables 0 (record { variable = 0; parameter = 0; object = 0 })

-- what file level gives an object: its first values, and whether it is a constant
pub record Given : Type 0 where
  pub constant : Bool
  pub values : List ℕ

abbrev pub is_const : Specifier → Bool
is_const Const = true
is_const other = false

abbrev pub word_or_zero : Option ℕ → ℕ
word_or_zero None = 0
word_or_zero (Some word) = word

abbrev pub words_of : c.Exprs → List ℕ
words_of c.NoExpr = []
words_of (c.WithExpr e rest) = word_or_zero (word e) ∷ words_of rest

abbrev pub initial_words : c.Initial → List ℕ
initial_words c.Absent = []
initial_words (c.Value e) = word_or_zero (word e) ∷ []
initial_words (c.Listed values comma filling) = words_of values

abbrev pub givens_of : (constant : Bool) → List c.Object → List Given → List Given
givens_of constant [] behind = behind
givens_of constant (c.Declared object shape initial at ∷ rest) behind = record { constant = constant; values = initial_words initial } ∷ givens_of constant rest behind

abbrev pub givens_before : c.Declaration → List Given → List Given
givens_before (c.Objects specifiers objects at) behind = givens_of (list_any is_const specifiers) objects behind
givens_before (c.Prototype specifiers name params at) behind = behind

-- of the objects of file level, in their order
abbrev pub givens : List c.External → List Given
givens [] = []
givens (c.Restriction pragma ∷ rest) = givens rest
givens (c.Declaring declaration ∷ rest) = givens_before declaration (givens rest)
givens (c.Defining function ∷ rest) = givens rest

abbrev pub elements_of : Extent → ℕ
elements_of Scalar = 1
elements_of (Elements count) = count
elements_of Passed = 1

abbrev pub storage_of : (constant : Bool) → Storage
storage_of true = Constant
storage_of false = Global

abbrev pub given_object : Variable → Given → high.Object
given_object v given = record { kind = kind_of v.kind; storage = storage_of given.constant; size = elements_of v.extent; values = given.values }

abbrev pub local_object : Variable → ℕ → high.Object
local_object v count = record { kind = kind_of v.kind; storage = Local; size = count; values = [] }

-- what stands first, where there is any
abbrev pub first_given : List Given → Given
first_given [] = record { constant = false; values = [] }
first_given (given ∷ rest) = given

abbrev pub object_before : Duration → Extent → Variable → Given → List high.Object → List high.Object
object_before Static extent v given behind = given_object v given ∷ behind
object_before Automatic Scalar v given behind = behind
object_before Automatic (Elements count) v given behind = local_object v count ∷ behind
object_before Automatic Passed v given behind = behind

abbrev pub givens_behind : Duration → List Given → List Given
givens_behind Static given = drop 1 given
givens_behind Automatic given = given

-- the arrays of the program, in the order of its objects
abbrev pub objects_from : List Variable → List Given → List high.Object
objects_from [] given = []
objects_from (v ∷ rest) given = object_before v.duration v.extent v (first_given given) (objects_from rest (givens_behind v.duration given))

abbrev pub is_frame : Duration → Extent → Bool
is_frame Automatic Scalar = true
is_frame Automatic (Elements count) = false
is_frame Automatic Passed = false
is_frame Static extent = false

abbrev pub is_passed : Extent → Bool
is_passed Passed = true
is_passed Scalar = false
is_passed (Elements count) = false

-- how many of these objects live in a frame, and how many are arrays that are passed
abbrev pub frame_scalars : List Variable → ℕ
frame_scalars variables = count_by (λ v. is_frame v.duration v.extent) variables

abbrev pub passed_arrays : List Variable → ℕ
passed_arrays variables = count_by (λ v. is_passed v.extent) variables
