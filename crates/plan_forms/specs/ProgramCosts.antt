-- Typed programs whose plans are measured, and their nodes.
use Rattle.std.specs.Prelude.{ℕ, ◌+◌, List, [], ◌∷◌, Some}
use Rattle.facts_definitions.specs.Most.{function_most}
use Rattle.types_tree.specs.Tree as c
use Rattle.plan_forms.specs.Conversions.{ItemsSingle}

abbrev pub FunctionSingle : c.Function → Type 0
FunctionSingle (c.Defined specifiers name name_at params first body body_at at) = ItemsSingle body

abbrev pub FunctionsSingle : List c.Function → Type 0
FunctionsSingle [] = Unit {0}
FunctionsSingle (f ∷ rest) = FunctionSingle f × FunctionsSingle rest

-- the nodes of functions in the source: without bounds each of them counts once
abbrev pub functions_nodes : List c.Function → ℕ
functions_nodes [] = 0
functions_nodes (f ∷ rest) = function_most [] (λ g. 0) (Some f) + functions_nodes rest
