-- How long the copy lines of a source are.
use Rattle.std.proofs.Common.{◌≡◌, ℕ, ◌+◌, ◌*◌, ◌≤◌, List, [], ◌∷◌, length, refl, ap, arith, All}
use Rattle.std.specs.Prelude.{sum_by}
use Rattle.std.specs.List.{flat_map}
use Rattle.std.proofs.lemmas.List.Elements.{All-head, All-tail}
use Rattle.std.proofs.lemmas.List.Sorted.{length_permutation}
use Rattle.std.proofs.lemmas.List.Sums.{sum_by-cons}
use Rattle.c_tree.specs.declared.expression.NameId.{NameId}
use Rattle.high_pass.specs.Listing.{HasEachBelow, Listing, MarkEntry, listed_marks}
use Rattle.compile_claims.specs.Named.{nevers_at}
use Rattle.compile_claims.specs.Places.{places_at}
use Rattle.compile_restrictions.specs.Told.{places_many}
use Rattle.compile_claims.specs.CopyLines.{AreLinesOf}
use Rattle.compile_names.specs.Laws.{IsNamed}
use Rattle.report_laws.specs.Room.{copies_room}
use Rattle.report_text.specs.declared.entries.CopyLine.{CopyLine}
use Rattle.compile_claim_limits.proofs.Marks.{entry_places, marks_few, marks_places}
use Rattle.compile_promise.proofs.Names.{ids_length}

-- their names

abbrev names_in : List CopyLine → ℕ
names_in [] = 0
names_in (c ∷ cs) = length c.name + names_in cs

room_split : (cs : List CopyLine) → copies_room cs ≡ 6 * length cs + (names_in cs + 9 * places_many cs)
room_split [] = omega arith
room_split (c ∷ cs) = let rest = room_split cs in let all = sum_by-cons (λ (x : CopyLine). length x.places) c cs in omega (arith, rest, all)

module _ (names : List (List ℕ)) (places : List (List ℕ)) where
  names_same : (ids : List NameId) (es : List MarkEntry) (cs : List CopyLine) → AreLinesOf names places ids es cs → names_in cs ≡ ids_length names ids
  names_same [] es [] h = refl
  names_same [] es (c ∷ cs) h = absurd h
  names_same (id ∷ ids) [] cs h = absurd h
  names_same (id ∷ ids) (e ∷ es) [] h = absurd h
  names_same (id ∷ ids) (e ∷ es) (c ∷ cs) h = let one = ap (λ (n : List ℕ). length n) h.0.name in let rest = names_same ids es cs h.1 in omega (arith, one, rest)

  -- each has a name, which isn't empty
  lines_few : (ids : List NameId) (es : List MarkEntry) (cs : List CopyLine) → AreLinesOf names places ids es cs → All (IsNamed names) ids → length cs ≤ ids_length names ids
  lines_few [] es [] h named = omega arith
  lines_few [] es (c ∷ cs) h named = absurd h
  lines_few (id ∷ ids) [] cs h named = absurd h
  lines_few (id ∷ ids) (e ∷ es) [] h named = absurd h
  lines_few (id ∷ ids) (e ∷ es) (c ∷ cs) h named =
      let some = (All-head (IsNamed names) id ids named).some in
      let rest = lines_few ids es cs h.1 (All-tail (IsNamed names) id ids named) in
      omega (arith, some, rest)

  places_few : (ids : List NameId) (es : List MarkEntry) (cs : List CopyLine) → AreLinesOf names places ids es cs → places_many cs ≤ sum_by (entry_places places) es
  places_few [] es [] h = omega arith
  places_few [] es (c ∷ cs) h = absurd h
  places_few (id ∷ ids) [] cs h = absurd h
  places_few (id ∷ ids) (e ∷ es) [] h = absurd h
  places_few (id ∷ ids) (e ∷ es) (c ∷ cs) h =
      let one = length_permutation (flat_map (places_at places) e.new) c.places h.0.places_are in
      let own = marks_places places e.new in
      let rest = places_few ids es cs h.1 in
      let line = sum_by-cons (λ (x : CopyLine). length x.places) c cs in
      let all = sum_by-cons (entry_places places) e es in
      omega (arith, one, own, rest, line, all)

  -- the addresses of copies and of never marks, together
  pub addresses_few : (c : Listing) (n : ℕ) → HasEachBelow n (listed_marks c) → (ids : List NameId) (cs : List CopyLine) → AreLinesOf names places ids c.marks cs
      → places_many cs + length (flat_map (nevers_at places) c.nevers) ≤ sum_by (λ (l : List ℕ). length l) places
  addresses_few c n each ids cs h =
      let few = places_few ids c.marks cs h in
      let all = marks_few places c n each in
      omega (arith, few, all)

  pub copies_few : (ids : List NameId) (es : List MarkEntry) (cs : List CopyLine) → AreLinesOf names places ids es cs → All (IsNamed names) ids → copies_room cs ≤ 7 * ids_length names ids + 9 * places_many cs
  copies_few ids es cs h named =
      let split = room_split cs in
      let own = names_same ids es cs h in
      let many = lines_few ids es cs h named in
      omega (arith, split, own, many)
