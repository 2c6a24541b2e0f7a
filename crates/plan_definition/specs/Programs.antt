-- The program in the high form that a typed program becomes.
use Rattle.std.specs.Prelude.{ℕ, ◌+◌, ◌-◌, max, List, [], ◌∷◌, length, take, drop, Some, None, slice_index_or}
use Rattle.facts_definitions.specs.declared.facts.Facts.{Facts}
use Rattle.types_tree.specs.Tree as c
use Rattle.types_tree.specs.declared.variable.Variable.{Variable}
use Rattle.high_ir.specs.Tree as high
use Rattle.high_code.specs.Code.{frame_needed}
use Rattle.plan_definition.specs.Layouts.{first_of, frame_scalars, givens, homes_of, objects_from, passed_arrays}
use Rattle.plan_definition.specs.Statements.{Plan, body_planned}

abbrev pub plan_of : c.Program → Facts → Plan
plan_of program facts = record { homes = homes_of program; bounds = facts.bounds; functions = length program.functions }

-- the objects from one number up to another
abbrev pub between : List Variable → (first behind : ℕ) → List Variable
between variables first behind = take (behind - first) (drop first variables)

-- its values and arrays are its parameters; its locals are its other scalars, and the temporaries that its body needs
abbrev pub function_by : (body : high.Statement) → (parameters own : List Variable) → (rank : ℕ) → high.Function
function_by body parameters own rank =
    record { values = frame_scalars parameters; arrays = passed_arrays parameters; locals = max (frame_scalars own) (frame_needed body) - frame_scalars parameters; rank = rank; body = body }

-- how many parameters are objects: a lone unnamed `void` is none (C11 6.7.6.3, paragraph 10)
abbrev pub named_params : List c.Param → ℕ
named_params [] = 0
named_params (c.Parameter specifiers None shape at ∷ rest) = named_params rest
named_params (c.Parameter specifiers (Some name) shape at ∷ rest) = named_params rest + 1

-- a function, whose objects end before this number
abbrev pub function_planned : Plan → List Variable → (behind rank : ℕ) → c.Function → high.Function
function_planned plan variables behind rank (c.Defined specifiers name name_at params first body body_at at) =
    let own = between variables first behind in
    function_by (body_planned plan body (frame_scalars own)) (between variables first (first + named_params params)) own rank

-- where the objects of functions end: at those of the next function
abbrev pub end_of : List c.Function → (all : ℕ) → ℕ
end_of [] all = all
end_of (f ∷ rest) all = first_of f

abbrev pub functions_planned : Plan → List Variable → (ranks : List ℕ) → (number : ℕ) → List c.Function → List high.Function
functions_planned plan variables ranks number [] = []
functions_planned plan variables ranks number (f ∷ rest) =
    function_planned plan variables (end_of rest (length variables)) (slice_index_or ranks number 0) f ∷ functions_planned plan variables ranks (number + 1) rest

-- `main` is the number of the function that is run
abbrev pub program_planned : c.Program → Facts → (main : ℕ) → high.Program
program_planned program facts main = record {
  functions = functions_planned (plan_of program facts) program.variables facts.ranks.of_functions 0 program.functions;
  objects = objects_from program.variables (givens program.items);
  main = main;
  marks = length program.functions + length facts.markers;
  loops = length facts.bounds;
}
