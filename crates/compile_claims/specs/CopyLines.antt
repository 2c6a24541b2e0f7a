-- The copy lines of functions or markers.
use Rattle.std.specs.Prelude.{◌≡◌, ℕ, List, [], ◌∷◌, IsPermutation}
use Rattle.std.specs.List.{flat_map}
use Rattle.std.specs.List.Sorted.{IsSorted}
use Rattle.std.specs.Ordering.{nat_cmp}
use Rattle.c_tree.specs.Names.{name_of}
use Rattle.c_tree.specs.declared.expression.NameId.{NameId}
use Rattle.high_pass.specs.Listing.{MarkEntry}
use Rattle.report_text.specs.declared.entries.CopyLine.{CopyLine}
use Rattle.compile_claims.specs.Places.{places_at}

module _ (names : List (List ℕ)) (places : List (List ℕ)) where
  -- a name, and the addresses of all these copies in ascending order
  pub record IsLineOf (id : NameId) (copies : List ℕ) (c : CopyLine) : Type 0 where
    pub name : c.name ≡ name_of names id.0
    pub places_are : IsPermutation (flat_map (places_at places) copies) c.places
    pub sorted : IsSorted nat_cmp c.places

  -- one for each name, by the copies of its mark
  abbrev pub AreLinesOf : List NameId → List MarkEntry → List CopyLine → Type 0
  AreLinesOf [] es [] = Unit {0}
  AreLinesOf [] es (c ∷ cs) = ⊥
  AreLinesOf (id ∷ ids) [] cs = ⊥
  AreLinesOf (id ∷ ids) (e ∷ es) [] = ⊥
  AreLinesOf (id ∷ ids) (e ∷ es) (c ∷ cs) = IsLineOf id e.new c × AreLinesOf ids es cs
