-- The bounds of the loops of a source are in order.
use Rattle.std.proofs.Common.{◌≡◌, ℕ, ◌-◌, ◌≤◌, Bool, true, false, ◌&&◌, List, [], ◌∷◌, Option, Some, None, refl, sym, ap, subst, arith, All}
use Rattle.std.specs.Prelude.{if◌then◌else◌, nat_eq, nat_le, codes}
use Rattle.std.proofs.lemmas.Bool.{leb-true}
use Rattle.std.proofs.lemmas.List.Elements.{All-cons, All-head, All-nil, All-tail}
use Rattle.facts_definitions.specs.FlowFacts.{AreFacts, IsDerived, and_one, bounds_at_site, derived_bounds, gathered, or_none}
use Rattle.facts_definitions.specs.Most.{bounds_at, no_bounds}
use Rattle.facts_definitions.specs.PragmaTexts.{at_most, bounded, bounds_among, number, pragma_runs, same_bytes}
use Rattle.facts_definitions.specs.Sites.{sites_of}
use Rattle.facts_definitions.specs.declared.facts.Bounds.{Bounds}
use Rattle.facts_definitions.specs.declared.facts.Derived.{Derived}
use Rattle.facts_definitions.specs.declared.facts.Facts.{Facts}
use Rattle.facts_definitions.specs.declared.site.Site.{Site}
use Rattle.facts_definitions.specs.declared.site.Site.TheVariants as sites
use Rattle.types_tree.specs.Tree.{Program}
use Rattle.high_pass.proofs.Elements.{at_or}
use Rattle.plan_formed.proofs.Facts.{says}

abbrev pub AreOrdered : Bounds → Type 0
AreOrdered b = b.min ≤ b.max

none_ordered : AreOrdered no_bounds
none_ordered = omega arith

-- written ones
bounded_ordered : (a b : Option ℕ) → AreOrdered (or_none (bounded a b))
bounded_ordered None None = none_ordered
bounded_ordered None (Some n) = none_ordered
bounded_ordered (Some m) None = none_ordered
bounded_ordered (Some m) (Some n) = of (nat_le m n) refl
  where
    of : (t : Bool) → nat_le m n ≡ t → AreOrdered (or_none (if t then Some (record { min = m; max = n }) else None))
    of true e = leb-true m n e
    of false e = none_ordered

among_ordered : (runs : List (List ℕ)) → AreOrdered (or_none (bounds_among runs))
among_ordered [] = none_ordered
among_ordered (min ∷ []) = none_ordered
among_ordered (min ∷ a ∷ []) = none_ordered
among_ordered (min ∷ a ∷ max ∷ []) = none_ordered
among_ordered (min ∷ a ∷ max ∷ b ∷ []) = of (same_bytes min (codes "min") && same_bytes max (codes "max"))
  where
    of : (t : Bool) → AreOrdered (or_none (if t then bounded (at_most 2147483647 (number a)) (at_most 2147483647 (number b)) else None))
    of true = bounded_ordered (at_most 2147483647 (number a)) (at_most 2147483647 (number b))
    of false = none_ordered
among_ordered (min ∷ a ∷ max ∷ b ∷ other ∷ rest) = none_ordered

-- derived ones
derived_ordered : (program : Program) (ds : List Derived) → All (IsDerived program) ds → (loop : ℕ) → AreOrdered (or_none (derived_bounds ds loop))
derived_ordered program [] all loop = none_ordered
derived_ordered program (d ∷ rest) all loop = of (nat_eq d.number loop) (derived_ordered program rest (All-tail (IsDerived program) d rest all) loop)
  where
    of : (t : Bool) → AreOrdered (or_none (derived_bounds rest loop)) → AreOrdered (or_none (if t then Some d.bounds else derived_bounds rest loop))
    of true others = (All-head (IsDerived program) d rest all).ordered
    of false others = others

abbrev OrderedOrNone : Option Bounds → Type 0
OrderedOrNone None = Unit {0}
OrderedOrNone (Some b) = AreOrdered b

module _ (program : Program) (derived : List Derived) (are : All (IsDerived program) derived) where
  at_site : (site : Site) → OrderedOrNone (bounds_at_site derived site)
  at_site (sites.Bounded number pragma) = among_ordered (pragma_runs pragma.text)
  at_site (sites.Unbounded number at) = derived_ordered program derived are number
  at_site (sites.Filling number count) = omega arith
  at_site (sites.Marker pragma) = tt
  at_site (sites.Restriction pragma) = tt
  at_site (sites.Function name) = tt

  gathered_ordered : (all : List Site) → All AreOrdered (gathered (bounds_at_site derived) all)
  gathered_ordered [] = All-nil AreOrdered
  gathered_ordered (site ∷ rest) = of (bounds_at_site derived site) (at_site site) (gathered_ordered rest)
    where
      of : (o : Option Bounds) → OrderedOrNone o → All AreOrdered (gathered (bounds_at_site derived) rest) → All AreOrdered (and_one o (gathered (bounds_at_site derived) rest))
      of None own others = others
      of (Some b) own others = All-cons AreOrdered b (gathered (bounds_at_site derived) rest) own others

-- of all loops
pub facts_ordered : (program : Program) (names : List (List ℕ)) (facts : Facts) → AreFacts program names facts → All AreOrdered facts.bounds
facts_ordered program names facts are =
    let said = says program names facts.ranks are.derived facts are.whole in
    subst (λ bounds. All AreOrdered bounds) (sym (ap (λ f. f.bounds) said.facts_are)) (gathered_ordered program are.derived are.are_derived (sites_of program))

-- by number
pub ordered_at : (bounds : List Bounds) (number : ℕ) → All AreOrdered bounds → AreOrdered (bounds_at bounds number)
ordered_at bounds number all = at_or AreOrdered bounds (number - 1) no_bounds all none_ordered
