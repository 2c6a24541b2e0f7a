-- Functions of the high program that serve those of the source.
use Rattle.std.specs.Prelude.{◌≡◌, ℕ, ◌+◌, ◌≤◌, nat_le, nat_lt, ◌&&◌, Bool, true, List, [], ◌∷◌, length, Some, slice_get}
use Rattle.meaning_semantics.specs.Statements.{Source}
use Rattle.types_tree.specs.Tree as c
use Rattle.high_ir.specs.declared.object.Array.{Array}
use Rattle.high_ir.specs.declared.object.Base.TheVariants.{Parameter}
use Rattle.high_ir.specs.Tree as high
use Rattle.high_code.specs.Code.{AllWithin}
use Rattle.plan_definition.specs.declared.home.Home.TheVariants.{Frame, Memory}
use Rattle.plan_definition.specs.Statements.{Exits, Plan, all_planned, body_planned}
use Rattle.plan_runs.specs.ExpressionFits.{Formal, OfWord, OfArray, Function, Signatures}
use Rattle.plan_runs.specs.Meets.{Layout, home, kind_at}
use Rattle.plan_runs.specs.StatementFits.{FitItems, block_declares, with_live}
use Rattle.plan_runs.specs.Flows.{Rest}

-- how many parameters are words, and how many arrays
abbrev pub words_in : List Formal → ℕ
words_in [] = 0
words_in (OfWord kind ∷ rest) = words_in rest + 1
words_in (OfArray kind constant ∷ rest) = words_in rest

abbrev pub arrays_in : List Formal → ℕ
arrays_in [] = 0
arrays_in (OfWord kind ∷ rest) = arrays_in rest
arrays_in (OfArray kind constant ∷ rest) = arrays_in rest + 1

-- an array that a call hands over
pub record IsHanded (layout : Layout) (object parameter : ℕ) : Type 0 where
  pub array : Array
  pub lives : home layout object ≡ Memory array
  pub base_is : array.base ≡ Parameter parameter

-- the objects from one on are parameters, with the next variable and the next array that a call hands over
abbrev pub AreParameters : Layout → (object variable parameter : ℕ) → List Formal → Type 0
AreParameters layout object variable parameter [] = Unit {0}
AreParameters layout object variable parameter (OfWord kind ∷ rest) = (home layout object ≡ Frame variable) × (kind_at layout object ≡ kind) × AreParameters layout (object + 1) (variable + 1) parameter rest
AreParameters layout object variable parameter (OfArray kind constant ∷ rest) =
    IsHanded layout object parameter × (kind_at layout object ≡ kind) × (layout.constant object ≡ constant) × AreParameters layout (object + 1) variable (parameter + 1) rest

-- so many objects from one on
abbrev pub are_from : (first count : ℕ) → ℕ → Bool
are_from first count o = nat_le first o && nat_lt o (first + count)

-- a function where it is entered: only its parameters live
abbrev pub at_entry : Layout → Signatures → (number first variables : ℕ) → Function
at_entry layout signatures number first variables =
    record { number = number; live = are_from first (length (signatures.parameters number)); variables = variables; callable = λ g. nat_lt (layout.rank g) (layout.rank number) }

abbrev pub source_with : Layout → Rest → Source
source_with layout rest = record { program = record { items = rest.items; functions = rest.functions; variables = layout.variables; at = rest.at }; bounds = rest.bounds }

abbrev pub plan_with : Layout → Rest → Plan
plan_with layout rest = record { homes = layout.homes; bounds = rest.bounds; functions = length rest.functions }

abbrev pub out_of_body : Exits
out_of_body = record { out = 0; next = 0 }

-- a function of the source by its first object and its body, and one of the high program
pub record Serves (layout : Layout) (signatures : Signatures) (rest : Rest) (number first : ℕ) (body : c.Items) (h : high.Function) : Type 0 where
  pub variables : ℕ
  pub parameters : AreParameters layout first 0 0 (signatures.parameters number)
  pub owned : (o : ℕ) → are_from first (length (signatures.parameters number)) o ≡ true → layout.owner o ≡ number
  pub enough : words_in (signatures.parameters number) ≤ variables
  pub fits : FitItems layout signatures (signatures.results number) rest.bounds (with_live (at_entry layout signatures number first variables) (block_declares body)) body
  pub values_are : h.values ≡ words_in (signatures.parameters number)
  pub arrays_are : h.arrays ≡ arrays_in (signatures.parameters number)
  pub body_is : h.body ≡ body_planned (plan_with layout rest) body variables
  pub within : AllWithin (h.values + h.locals) (all_planned (plan_with layout rest) body variables out_of_body)

pub record IsServed (layout : Layout) (signatures : Signatures) (rest : Rest) (fs : List high.Function) (number first : ℕ) (body : c.Items) : Type 0 where
  pub function : high.Function
  pub there : slice_get fs number ≡ Some function
  pub serves : Serves layout signatures rest number first body function

abbrev pub FunctionServed : Layout → Signatures → Rest → List high.Function → (number : ℕ) → c.Function → Type 0
FunctionServed layout signatures rest fs number (c.Defined specifiers name name_at params first body body_at at) = IsServed layout signatures rest fs number first body

-- each function of the source is served
pub record AllServe (layout : Layout) (signatures : Signatures) (rest : Rest) (fs : List high.Function) : Type 0 where
  pub by : (number : ℕ) (f : c.Function) → slice_get rest.functions number ≡ Some f → FunctionServed layout signatures rest fs number f
