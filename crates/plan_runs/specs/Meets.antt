-- What a state of the source and one of the high program have in common.
use Rattle.std.specs.Prelude.{◌≡◌, ℕ, ◌<◌, Bool, true, false, List, length, Option, Some, None, slice_get, slice_index_or}
use Rattle.meaning_semantics.specs.State as source
use Rattle.types_tree.specs.declared.variable.Variable.{Variable}
use Rattle.types_value.specs.declared.kind.Kind.{Kind as CType}
use Rattle.types_value.specs.declared.kind.Kind.TheVariants.{Int}
use Rattle.high_ir.specs.declared.object.Array.{Array}
use Rattle.high_ir.specs.declared.object.Base.{Base}
use Rattle.high_ir.specs.declared.object.Base.TheVariants.{Object, Parameter}
use Rattle.high_ir.specs.declared.object.Kind.{Kind}
use Rattle.high_ir.specs.Meaning.{Contents, World, Variables, State, can_store, element}
use Rattle.high_ir.specs.Runs.{count_of}
use Rattle.high_ir.specs.Words.{converted}
use Rattle.plan_definition.specs.declared.home.Home.{Home}
use Rattle.plan_definition.specs.declared.home.Home.TheVariants.{Frame, Memory}
use Rattle.plan_definition.specs.Homes.{home_of}
use Rattle.plan_definition.specs.Operators.{kind_of}
use Rattle.plan_runs.specs.Cells.{Cells, cell, size}

-- what a plan says of a program's objects and functions
pub record Layout : Type 0 where
  pub homes : List Home
  pub variables : List Variable
  -- the elements of an array
  pub sizes : ℕ → ℕ
  -- whether nothing is stored in an object
  pub constant : ℕ → Bool
  -- whose an object is
  pub owner : ℕ → ℕ
  pub rank : ℕ → ℕ
  -- how many functions and markers are counted
  pub marks : ℕ

abbrev pub home : Layout → ℕ → Home
home layout object = home_of layout.homes object

abbrev pub type_in : Option Variable → CType
type_in None = Int
type_in (Some variable) = variable.kind

-- what the elements of an object are
abbrev pub kind_at : Layout → ℕ → Kind
kind_at layout object = kind_of (type_in (slice_get layout.variables object))

abbrev pub is_passed_base : Base → Bool
is_passed_base (Object n) = false
is_passed_base (Parameter j) = true

-- whether an object stands for an array that the caller passed
abbrev pub is_passed : Home → Bool
is_passed (Frame x) = false
is_passed (Memory array) = is_passed_base array.base

-- whether an object is of one function alone
abbrev pub is_own : Home → Bool
is_own (Frame x) = true
is_own (Memory array) = is_passed_base array.base

pub record IsLayout (layout : Layout) : Type 0 where
  -- no two objects live at one place
  pub frames : (o p x : ℕ) → home layout o ≡ Frame x → home layout p ≡ Frame x → layout.owner o ≡ layout.owner p → o ≡ p
  pub arrays : (o p n : ℕ) (a b : Array) → home layout o ≡ Memory a → home layout p ≡ Memory b → a.base ≡ Object n → b.base ≡ Object n → o ≡ p
  pub kinds : (o : ℕ) (a : Array) → home layout o ≡ Memory a → a.kind ≡ kind_at layout o
  -- an array is what its name means, and an array parameter holds the number of the array
  pub named : (o n at : ℕ) (a : Array) (st : source.State) → home layout o ≡ Memory a → a.base ≡ Object n → source.array_number layout.variables o at st ≡ source.Fine o st
  pub handed : (o j at : ℕ) (a : Array) (st : source.State) → home layout o ≡ Memory a → a.base ≡ Parameter j → source.array_number layout.variables o at st ≡ source.read (record { object = o; index = 0; at = at }) st

-- an object, and the array where it lives
pub record Holds (objects : Cells) (object : ℕ) (kind : Kind) (constant : Bool) (found : Option Contents) : Type 0 where
  pub contents : Contents
  pub there : found ≡ Some contents
  pub kind_is : contents.kind ≡ kind
  pub writable : constant ≡ false → can_store contents.storage ≡ true
  pub size_is : length contents.elements ≡ size objects object
  pub words : (i w : ℕ) → cell objects object i ≡ Some w → element contents i ≡ Some w

-- what functions share
pub record MeetsWorld (layout : Layout) (st : source.State) (w : World) (trace : List ℕ) : Type 0 where
  pub input : w.input ≡ st.input
  pub output : w.output ≡ st.output
  pub counts : (m : ℕ) → m < length st.counts → slice_index_or st.counts m 0 ≡ count_of m trace
  pub marks_are : length st.counts ≡ layout.marks
  pub memory : (o n : ℕ) (a : Array) → home layout o ≡ Memory a → a.base ≡ Object n → Holds st.objects o a.kind (layout.constant o) (slice_get w.objects n)
  pub sizes_are : (o n : ℕ) (a : Array) → home layout o ≡ Memory a → a.base ≡ Object n → size st.objects o ≡ layout.sizes o
  -- each word is one of its object's type
  pub ranged : (o i v : ℕ) → is_passed (home layout o) ≡ false → cell st.objects o i ≡ Some v → converted (kind_at layout o) v ≡ v

-- a number of the source that means an array, and the same array of the high program; it is a constant only where it is named as one
pub record IsArray (layout : Layout) (q : ℕ) (kind : Kind) (constant : Bool) (number : Option ℕ) : Type 0 where
  pub array : Array
  pub object : ℕ
  pub lives : home layout q ≡ Memory array
  pub base_is : array.base ≡ Object object
  pub kind_is : array.kind ≡ kind
  pub number_is : number ≡ Some object
  pub stores : constant ≡ false → layout.constant q ≡ false

-- what is a function's own: the variables of those of its objects that live now, and the arrays that were passed
pub record MeetsFrame (layout : Layout) (live : ℕ → Bool) (passed : List ℕ) (objects : Cells) (vars : Variables) : Type 0 where
  pub words : (o x w : ℕ) → home layout o ≡ Frame x → live o ≡ true → cell objects o 0 ≡ Some w → slice_index_or vars x None ≡ Some w
  pub passes : (o j q : ℕ) (a : Array) → home layout o ≡ Memory a → a.base ≡ Parameter j → live o ≡ true → cell objects o 0 ≡ Some q → IsArray layout q a.kind (layout.constant o) (slice_get passed j)

-- within a function, whose frame has so many variables
pub record Meets (layout : Layout) (live : ℕ → Bool) (passed : List ℕ) (room : ℕ) (st : source.State) (hs : State) : Type 0 where
  pub world : MeetsWorld layout st hs.world hs.trace
  pub frame : MeetsFrame layout live passed st.objects hs.variables
  pub room_is : length hs.variables ≡ room

-- what functions of a greater rank have of their own is as it was
pub record Untouched (layout : Layout) (rank : ℕ) (before behind : Cells) : Type 0 where
  pub by : (o : ℕ) → is_own (home layout o) ≡ true → rank < layout.rank (layout.owner o) → slice_get behind o ≡ slice_get before o
