-- What a function's layout says of the objects that its definition declares.
use Rattle.std.specs.Prelude.{◌≡◌, ℕ, ◌+◌, ◌<◌, ◌≤◌, Bool, false, List, length, Some, slice_get}
use Rattle.facts_definitions.specs.FlowFacts.{bounds_at_site, gathered}
use Rattle.facts_definitions.specs.Sites.{elements}
use Rattle.facts_definitions.specs.declared.facts.Bounds.{Bounds}
use Rattle.facts_definitions.specs.declared.facts.Derived.{Derived}
use Rattle.facts_definitions.specs.declared.site.Site.{Site}
use Rattle.types_rules.specs.Scope.{Around}
use Rattle.types_tree.specs.declared.variable.Duration.{Duration}
use Rattle.types_tree.specs.declared.variable.Duration.TheVariants.{Static, Automatic}
use Rattle.types_tree.specs.declared.variable.Extent.{Extent}
use Rattle.types_tree.specs.declared.variable.Extent.TheVariants.{Scalar, Array as Elements, Parameter as Passed}
use Rattle.types_tree.specs.declared.variable.Variable.{Variable}
use Rattle.high_ir.specs.declared.object.Base.{Base}
use Rattle.high_ir.specs.declared.object.Base.TheVariants.{Object, Parameter}
use Rattle.plan_definition.specs.declared.home.Home.{Home}
use Rattle.plan_definition.specs.declared.home.Home.TheVariants.{Frame, Memory}
use Rattle.plan_runs.specs.ExpressionFits.{Signatures}
use Rattle.plan_runs.specs.Meets.{Layout, home}
use Rattle.plan_served.specs.Seen.{Knows}

abbrev pub IsObjectBase : Base → Type 0
IsObjectBase (Object n) = Unit {0}
IsObjectBase (Parameter j) = ⊥

abbrev pub IsParameterBase : Base → Type 0
IsParameterBase (Object n) = ⊥
IsParameterBase (Parameter j) = Unit {0}

abbrev pub IsInFrame : Home → Type 0
IsInFrame (Frame x) = Unit {0}
IsInFrame (Memory array) = ⊥

abbrev pub IsInMemory : Home → Type 0
IsInMemory (Frame x) = ⊥
IsInMemory (Memory array) = IsObjectBase array.base

abbrev pub IsHandedOver : Home → Type 0
IsHandedOver (Frame x) = ⊥
IsHandedOver (Memory array) = IsParameterBase array.base

-- where an object lives
abbrev pub IsHome : Duration → Extent → Home → Type 0
IsHome Static extent home = IsInMemory home
IsHome Automatic Scalar home = IsInFrame home
IsHome Automatic (Elements count) home = IsInMemory home
IsHome Automatic Passed home = IsHandedOver home

-- whether nothing is stored in an object of a function
abbrev pub IsStored : (constant : Bool) → Duration → Extent → Type 0
IsStored constant Static extent = Unit {0}
IsStored constant Automatic Scalar = constant ≡ false
IsStored constant Automatic (Elements count) = constant ≡ false
IsStored constant Automatic Passed = Unit {0}

-- what a layout says of an object
pub record IsLaid (layout : Layout) (object : ℕ) (v : Variable) : Type 0 where
  pub variable_is : slice_get layout.variables object ≡ Some v
  pub lives : IsHome v.duration v.extent (home layout object)
  pub size_is : layout.sizes object ≡ elements v.extent
  pub stored : IsStored (layout.constant object) v.duration v.extent

-- the objects up to the end of a function, whose own begin at `first`
pub record IsPlan (layout : Layout) (signatures : Signatures) (number first variables : ℕ) (last : Around) : Type 0 where
  pub knows : Knows signatures last
  pub laid : (object : ℕ) (v : Variable) → slice_get last.variables object ≡ Some v → IsLaid layout object v
  pub owned : (object : ℕ) → first ≤ object → object < length last.variables → layout.owner object ≡ number
  pub framed : (object x : ℕ) → first ≤ object → object < length last.variables → home layout object ≡ Frame x → x < variables

-- the bounds of the loops from a number on are those that these sites give
pub record AreBounds (derived : List Derived) (bounds : List Bounds) (loops : ℕ) (sites : List Site) : Type 0 where
  pub by : (i : ℕ) (b : Bounds) → slice_get (gathered (bounds_at_site derived) sites) i ≡ Some b → slice_get bounds (loops + i) ≡ Some b
