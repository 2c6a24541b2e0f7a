-- The bounds of the loops of a source leave room for one start more.
use Rattle.std.proofs.Common.{◌≡◌, ℕ, zero, suc, ◌+◌, ◌*◌, ◌/◌, ◌≤◌, List, [], ◌∷◌, Option, Some, None, sym, subst, ap, arith, All, false}
use Rattle.std.specs.Prelude.{slice_get}
use Rattle.std.proofs.Math.Nat.{mul-le-mul_left}
use Rattle.std.proofs.lemmas.Bool.{true≢false}
use Rattle.std.proofs.lemmas.List.Elements.{All-cons, All-head, All-nil, All-tail}
use Rattle.facts_definitions.specs.FlowFacts.{AreFacts, IsDerived, and_one, bounds_at_site, gathered}
use Rattle.facts_definitions.specs.Sites.{elements, elements_of, sites_of}
use Rattle.facts_definitions.specs.declared.facts.Bounds.{Bounds}
use Rattle.facts_definitions.specs.declared.facts.Derived.{Derived}
use Rattle.facts_definitions.specs.declared.facts.Facts.{Facts}
use Rattle.facts_definitions.specs.declared.site.Site.{Site}
use Rattle.facts_definitions.specs.declared.site.Site.TheVariants as sites
use Rattle.c_tree.specs.Tree.{TranslationUnit, Whole}
use Rattle.types_tree.specs.Tree.{Program}
use Rattle.types_tree.specs.declared.variable.Duration.{Duration}
use Rattle.types_tree.specs.declared.variable.Duration.TheVariants.{Static, Automatic}
use Rattle.types_tree.specs.declared.variable.Extent.{Extent}
use Rattle.types_tree.specs.declared.variable.Extent.TheVariants.{Scalar, Array, Parameter}
use Rattle.types_tree.specs.declared.variable.Variable.{Variable}
use Rattle.types_value.specs.Kinds.{bytes, is_void}
use Rattle.types_value.specs.declared.kind.Kind.{Kind}
use Rattle.types_value.specs.declared.kind.Kind.TheVariants as types
use Rattle.types_rules.specs.Limits.{global_bytes, global_bytes_of, local_bytes, local_bytes_of, object_bytes}
use Rattle.types_rules.specs.Scope.{started}
use Rattle.types_rules.specs.Sights.{outline_of}
use Rattle.types_rules.specs.Typed.{IsTypedTree, fault_of, typed_of}
use Rattle.plan_formed.proofs.Facts.{says}
use Rattle.plan_formed.specs.Memory.{AllSolid, SolidBy}
use Rattle.plan_formed.proofs.Growing.{externals_grow}
use Rattle.plan_formed.proofs.Memory.{few_globals, few_locals, rules_pass}
use Rattle.plan_formed.specs.Small.{Small}
use Rattle.plan_formed.proofs.BoundSites.{Fits, externals_fit}
use Rattle.plan_formed.proofs.Texts.{derived_small, written_small}

-- an array has no more elements than bytes
some_bytes : (kind : Kind) → is_void kind ≡ false → 1 ≤ bytes kind
some_bytes types.Void h = absurd (true≢false h)
some_bytes types.Char h = omega arith
some_bytes types.SignedChar h = omega arith
some_bytes types.UnsignedChar h = omega arith
some_bytes types.Short h = omega arith
some_bytes types.UnsignedShort h = omega arith
some_bytes types.Int h = omega arith
some_bytes types.Unsigned h = omega arith
some_bytes types.Long h = omega arith
some_bytes types.UnsignedLong h = omega arith

array_few : (kind : Kind) (count others : ℕ) → is_void kind ≡ false → (count * bytes kind + 3) / 4 * 4 + others ≤ 262144 → count ≤ 262144
array_few kind count others solid h =
    let more : count * 1 ≤ count * bytes kind = mul-le-mul_left count (some_bytes kind solid) in
    omega (arith, more, h)

object_few : (d : Duration) (e : Extent) (kind : Kind) (globals locals : ℕ) → SolidBy e kind → global_bytes_of d (object_bytes kind e) + globals ≤ 262144 → local_bytes_of d (object_bytes kind e) + locals ≤ 262144 → elements e ≤ 262144
object_few d Scalar kind globals locals solid g l = omega arith
object_few d Parameter kind globals locals solid g l = omega arith
object_few Static (Array count) kind globals locals solid g l = array_few kind count globals solid g
object_few Automatic (Array count) kind globals locals solid g l = array_few kind count locals solid l

objects_few : (vs : List Variable) → AllSolid vs → global_bytes vs ≤ 262144 → local_bytes vs ≤ 262144 → (object : ℕ) → elements_of (slice_get vs object) ≤ 262144
objects_few [] solid g l object = omega arith
objects_few (v ∷ rest) solid g l zero = object_few v.duration v.extent v.kind (global_bytes rest) (local_bytes rest) solid.0 g l
objects_few (v ∷ rest) solid g l (suc object) = objects_few rest solid.1 (omega (arith, g)) (omega (arith, l)) object

unit_few : (names : List (List ℕ)) (unit : TranslationUnit ℕ) → fault_of names unit ≡ None → (object : ℕ) → elements_of (slice_get (typed_of names unit).variables object) ≤ 262144
unit_few names (Whole items at) passes =
    let solid : AllSolid (typed_of names (Whole items at)).variables = (externals_grow items (started (outline_of names (Whole items at))) (rules_pass names items at passes)).solid tt in
    objects_few (typed_of names (Whole items at)).variables solid (few_globals names items at passes) (few_locals names items at passes)

-- what is gathered at sites
abbrev SmallOrNone : Option Bounds → Type 0
SmallOrNone None = Unit {0}
SmallOrNone (Some b) = Small b

module _ (program : Program) (derived : List Derived) (are : All (IsDerived program) derived) where
  at_site : (site : Site) → Fits site → SmallOrNone (bounds_at_site derived site)
  at_site (sites.Bounded number pragma) h = written_small pragma.text
  at_site (sites.Unbounded number at) h = derived_small program derived are number
  at_site (sites.Filling number count) h = (omega (arith, h), omega (arith, h))
  at_site (sites.Marker pragma) h = tt
  at_site (sites.Restriction pragma) h = tt
  at_site (sites.Function name) h = tt

  gathered_small : (all : List Site) → All Fits all → All Small (gathered (bounds_at_site derived) all)
  gathered_small [] h = All-nil Small
  gathered_small (site ∷ rest) h = of (bounds_at_site derived site) (at_site site (All-head Fits site rest h)) (gathered_small rest (All-tail Fits site rest h))
    where
      of : (o : Option Bounds) → SmallOrNone o → All Small (gathered (bounds_at_site derived) rest) → All Small (and_one o (gathered (bounds_at_site derived) rest))
      of None small others = others
      of (Some b) small others = All-cons Small b (gathered (bounds_at_site derived) rest) small others

pub bounds_small : (names : List (List ℕ)) (program : Program) (facts : Facts) → IsTypedTree names program → AreFacts program names facts → All Small facts.bounds
bounds_small names program facts tree are =
    let few = subst (λ p. (object : ℕ) → elements_of (slice_get p.variables object) ≤ 262144) (sym tree.program_is) (unit_few names tree.unit tree.passes) in
    let said = says program names facts.ranks are.derived facts are.whole in
    subst (λ bounds. All Small bounds) (sym (ap (λ f. f.bounds) said.facts_are)) (gathered_small program are.derived are.are_derived (sites_of program) (externals_fit program few program.items))
