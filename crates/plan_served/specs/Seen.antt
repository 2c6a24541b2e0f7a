-- What the layout of a program says of the names that are seen at a place of its source.
use Rattle.std.specs.Prelude.{◌≡◌, ℕ, Bool, true, false, List, map}
use Rattle.types_calls.specs.Chains.{Among}
use Rattle.types_rules.specs.Scope.{Around, Outline}
use Rattle.types_tree.specs.declared.expression.Callee.{Callee}
use Rattle.types_seen.specs.Seen as seen
use Rattle.types_rules.specs.Typing.{callee_of}
use Rattle.types_rules.specs.declared.scope.Binding.{Binding}
use Rattle.types_rules.specs.declared.scope.Binding.TheVariants.{Object as Thing, Function as Routine}
use Rattle.types_rules.specs.declared.scope.ParamType.{ParamType}
use Rattle.types_rules.specs.declared.scope.Routine.{Routine as Signature}
use Rattle.types_value.specs.declared.kind.Kind.{Kind as CType}
use Rattle.plan_definition.specs.Operators.{kind_of}
use Rattle.plan_runs.specs.ExpressionFits.{Formal, OfWord, OfArray, Function, IsArrayHome, IsScalar, Signatures, Suits, call_kind, parameters_of}
use Rattle.plan_runs.specs.Meets.{Layout, home, kind_at}

-- the functions that code calls may be called there
abbrev pub Callable : Function → List ℕ → Type 0
Callable f calls = (g : ℕ) → Among g calls → f.callable g ≡ true

-- what a call hands over for a parameter of this type
abbrev pub formal_by : (array : Bool) → ParamType → Formal
formal_by true p = OfArray (kind_of p.kind) p.is_const
formal_by false p = OfWord (kind_of p.kind)

abbrev pub formal : ParamType → Formal
formal p = formal_by p.is_array p

abbrev pub formals : List ParamType → List Formal
formals params = map formal params

-- an object that is used as a scalar, or as an array
abbrev pub LivesAs : (array : Bool) → Layout → Function → (object : ℕ) → Type 0
LivesAs false layout f object = IsScalar layout f object (home layout object)
LivesAs true layout f object = IsArrayHome layout f object (home layout object)

-- an object of this type, to which nothing is stored where its name is const
pub record IsObjectSeen (layout : Layout) (f : Function) (object : ℕ) (kind : CType) (const array : Bool) : Type 0 where
  pub kind_is : kind_at layout object ≡ kind_of kind
  pub stores : const ≡ false → layout.constant object ≡ false
  pub lives : LivesAs array layout f object

abbrev pub IsSeen : Layout → Function → Binding → Type 0
IsSeen layout f (Thing number kind const array) = IsObjectSeen layout f number.0 kind const array
IsSeen layout f Routine = Unit {0}

-- what each name stands for, in the innermost scope and in those around it
abbrev pub Sees : Layout → Function → Around → Type 0
Sees layout f a = seen.Sees (IsSeen layout f) a

-- a function of this type, as it is called
pub record IsKnownAs (signatures : Signatures) (callee : Callee) (r : Signature) : Type 0 where
  pub parameters_are : parameters_of signatures callee ≡ formals r.params
  pub result_is : Suits (call_kind signatures callee) (kind_of r.result)

abbrev pub IsKnown : Signatures → Outline → (name : ℕ) → Signature → Type 0
IsKnown signatures outline name r = IsKnownAs signatures (callee_of name outline) r

-- each function that was declared so far and is defined somewhere
abbrev pub Knows : Signatures → Around → Type 0
Knows signatures a = seen.Knows (IsKnown signatures) a
