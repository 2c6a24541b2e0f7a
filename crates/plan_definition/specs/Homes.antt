-- Where objects live, and how they are read and stored there.
use Rattle.std.specs.Prelude.{ℕ, List, slice_index_or}
use Rattle.high_ir.specs.declared.object.Array.{Array}
use Rattle.high_ir.specs.declared.object.Base.{Base}
use Rattle.high_ir.specs.declared.object.Base.TheVariants.{Object}
use Rattle.high_ir.specs.declared.object.Kind.TheVariants.{Word}
use Rattle.high_ir.specs.Tree.{Expr, Constant, Variable, Element, Statement, Set, Keep}
use Rattle.plan_definition.specs.declared.home.Home.{Home}
use Rattle.plan_definition.specs.declared.home.Home.TheVariants.{Frame, Memory}

-- an element, or a variable, which has no index
pub data Target : Type 0 where
  InFrame : (variable : ℕ) → Target
  InMemory : (array : Array) (index : Expr) → Target

abbrev pub home_of : List Home → ℕ → Home
home_of homes object = slice_index_or homes object (Frame 0)

abbrev pub scalar_at : Home → Target
scalar_at (Frame x) = InFrame x
scalar_at (Memory array) = InMemory array (Constant 0)

-- an array, which lives in no frame
abbrev pub array_at : Home → Array
array_at (Frame x) = record { kind = Word; base = Object x }
array_at (Memory array) = array

abbrev pub base_at : Home → Base
base_at home = (array_at home).base

abbrev pub loaded : Target → Expr
loaded (InFrame x) = Variable x
loaded (InMemory array index) = Element array index

abbrev pub stored : Target → Expr → Statement
stored (InFrame x) e = Set x e
stored (InMemory array index) e = Keep array index e
