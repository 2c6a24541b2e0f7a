-- The layout of a program: where its objects live, whose they are, and what calls of its functions hand over.
use Rattle.std.specs.Prelude.{ℕ, ◌+◌, ◌-◌, nat_le, nat_lt, Bool, false, if◌then◌else◌, List, [], ◌∷◌, length, take, count_by, Option, Some, None, slice_get, slice_index_or}
use Rattle.facts_definitions.specs.Sites.{elements_of}
use Rattle.facts_definitions.specs.declared.facts.Facts.{Facts}
use Rattle.types_rules.specs.Specifiers.{is_const, kind_spelled}
use Rattle.c_tree.specs.declared.expression.Specifier.{Specifier}
use Rattle.types_tree.specs.Tree as c
use Rattle.types_tree.specs.declared.variable.Duration.{Duration}
use Rattle.types_tree.specs.declared.variable.Duration.TheVariants.{Static, Automatic}
use Rattle.types_tree.specs.declared.variable.Extent.{Extent}
use Rattle.types_tree.specs.declared.variable.Extent.TheVariants.{Scalar, Array as Elements, Parameter as Passed}
use Rattle.types_tree.specs.declared.variable.Variable.{Variable}
use Rattle.high_ir.specs.declared.object.Kind.{Kind}
use Rattle.high_ir.specs.declared.object.Kind.TheVariants.{Word}
use Rattle.plan_definition.specs.Layouts.{Given, first_of, firsts_of, givens, homes_of}
use Rattle.plan_definition.specs.Operators.{kind_of}
use Rattle.plan_runs.specs.ExpressionFits.{Formal, OfWord, OfArray, Signatures}
use Rattle.plan_runs.specs.Meets.{Layout}
use Rattle.plan_runs.specs.Flows.{Rest}
use Rattle.types_seen.specs.Growing.{statics}

-- what a call hands over for a parameter of a definition
abbrev pub formal_of : List Specifier → c.Shape → Formal
formal_of specifiers c.Single = OfWord (kind_of (kind_spelled specifiers))
formal_of specifiers c.Unsized = OfArray (kind_of (kind_spelled specifiers)) (is_const specifiers)
formal_of specifiers (c.Sized size) = OfArray (kind_of (kind_spelled specifiers)) (is_const specifiers)

-- a lone unnamed `void` is no parameter
abbrev pub formals_of : List c.Param → List Formal
formals_of [] = []
formals_of (c.Parameter specifiers None shape at ∷ rest) = formals_of rest
formals_of (c.Parameter specifiers (Some name) shape at ∷ rest) = formal_of specifiers shape ∷ formals_of rest

abbrev pub parameters_in : Option c.Function → List Formal
parameters_in None = []
parameters_in (Some (c.Defined specifiers name name_at params first body body_at at)) = formals_of params

abbrev pub result_in : Option c.Function → Kind
result_in None = Word
result_in (Some (c.Defined specifiers name name_at params first body body_at at)) = kind_of (kind_spelled specifiers)

abbrev pub signatures_of : c.Program → Signatures
signatures_of program = record { parameters = λ g. parameters_in (slice_get program.functions g); results = λ g. result_in (slice_get program.functions g) }

-- the function whose objects begin last before an object; one that the program doesn't have is of a function that it doesn't have either
abbrev pub owner_of : c.Program → ℕ → ℕ
owner_of program object =
    if nat_lt object (length program.variables) then count_by (λ first. nat_le first object) (firsts_of program.functions) - 1
    else length program.functions + object

abbrev pub first_in : Option c.Function → ℕ
first_in None = 0
first_in (Some f) = first_of f

abbrev pub is_constant_formal : Option Formal → Bool
is_constant_formal None = false
is_constant_formal (Some (OfWord kind)) = false
is_constant_formal (Some (OfArray kind constant)) = constant

abbrev pub is_constant_given : Option Given → Bool
is_constant_given None = false
is_constant_given (Some given) = given.constant

-- nothing is stored in const objects of file level, and through const array parameters; what a block declares is stored when it is initialised
abbrev pub constant_by : Duration → Extent → (given : Option Given) → (formal : Option Formal) → Bool
constant_by Static extent given formal = is_constant_given given
constant_by Automatic Scalar given formal = false
constant_by Automatic (Elements count) given formal = false
constant_by Automatic Passed given formal = is_constant_formal formal

abbrev pub constant_in : Option Variable → (given : Option Given) → (formal : Option Formal) → Bool
constant_in None given formal = false
constant_in (Some v) given formal = constant_by v.duration v.extent given formal

abbrev pub constant_of : c.Program → ℕ → Bool
constant_of program object =
    let owner = owner_of program object in
    constant_in (slice_get program.variables object) (slice_get (givens program.items) (statics (take object program.variables)))
    (slice_get (parameters_in (slice_get program.functions owner)) (object - first_in (slice_get program.functions owner)))

abbrev pub layout_of : c.Program → Facts → Layout
layout_of program facts = record {
  homes = homes_of program;
  variables = program.variables;
  sizes = λ object. elements_of (slice_get program.variables object);
  constant = constant_of program;
  owner = owner_of program;
  rank = λ g. slice_index_or facts.ranks.of_functions g 0;
  marks = length program.functions + length facts.markers;
}

abbrev pub rest_of : c.Program → Facts → Rest
rest_of program facts = record { items = program.items; functions = program.functions; at = program.at; bounds = facts.bounds }
