-- Typed programs whose objects can be counted.
use Rattle.std.specs.Prelude.{◌≡◌, ℕ, ◌≤◌, false, List, [], ◌∷◌}
use Rattle.types_tree.specs.Tree as c
use Rattle.types_tree.specs.declared.variable.Extent.{Extent}
use Rattle.types_tree.specs.declared.variable.Extent.TheVariants.{Scalar, Array, Parameter}
use Rattle.types_tree.specs.declared.variable.Variable.{Variable}
use Rattle.types_value.specs.Kinds.{is_void}
use Rattle.types_value.specs.declared.kind.Kind.{Kind}
use Rattle.plan_definition.specs.declared.home.Home.{Home}
use Rattle.plan_definition.specs.Layouts.{first_of, frame_scalars}
use Rattle.plan_definition.specs.Programs.{between, end_of}
use Rattle.plan_forms.specs.Programs.{body_of}
use Rattle.plan_formed.specs.Framed.{ItemsFramed}

-- an array has elements of a type with bytes
abbrev pub SolidBy : Extent → Kind → Type 0
SolidBy Scalar kind = Unit {0}
SolidBy (Array count) kind = is_void kind ≡ false
SolidBy Parameter kind = Unit {0}

abbrev pub AllSolid : List Variable → Type 0
AllSolid [] = Unit {0}
AllSolid (v ∷ rest) = SolidBy v.extent v.kind × AllSolid rest

-- functions begin one behind the other among so many objects
abbrev pub Rise : (all : ℕ) → List c.Function → Type 0
Rise all [] = Unit {0}
Rise all (f ∷ rest) = (first_of f ≤ end_of rest all) × Rise all rest

-- each function's scalars live in its frame, behind one another
abbrev pub FunctionsFramed : List Home → List Variable → (all : ℕ) → List c.Function → Type 0
FunctionsFramed homes variables all [] = Unit {0}
FunctionsFramed homes variables all (f ∷ rest) = ItemsFramed homes (frame_scalars (between variables (first_of f) (end_of rest all))) (body_of f) × FunctionsFramed homes variables all rest
