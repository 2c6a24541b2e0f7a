-- What is counted by the addresses of a copy line is counted by those of each copy.
use Rattle.std.proofs.Common.{◌≡◌, ℕ, zero, suc, ℤ, ◌+ℤ◌, List, [], ◌∷◌, length, Some, refl, sym, ap, ◌∙◌}
use Rattle.std.specs.Prelude.{slice_get}
use Rattle.std.specs.List.{flat_map}
use Rattle.std.proofs.lemmas.List.Concat.{flat_map-cons}
use Rattle.frac128.specs.Terms.{int_sum_by}
use Rattle.frac128.proofs.TermsLemmas.{int_sum_by-append}
use Rattle.code_flow_system.proofs.PermutedSums.{int_sum_by-permutation}
use Rattle.c_tree.specs.declared.expression.NameId.{NameId}
use Rattle.high_pass.specs.Listing.{MarkEntry}
use Rattle.report_text.specs.declared.entries.CopyLine.{CopyLine}
use Rattle.compile_claims.specs.Places.{places_at}
use Rattle.compile_claims.specs.CopyLines.{AreLinesOf, IsLineOf}

int_sum_by-flat_map : (f : ℕ → ℤ) (g : ℕ → List ℕ) (xs : List ℕ) → int_sum_by f (flat_map g xs) ≡ int_sum_by (λ x. int_sum_by f (g x)) xs
int_sum_by-flat_map f g [] = refl
int_sum_by-flat_map f g (x ∷ xs) =
    ap (int_sum_by f) (flat_map-cons g x xs)
    ∙ int_sum_by-append f (g x) (flat_map g xs)
    ∙ ap (λ z. int_sum_by f (g x) +ℤ z) (int_sum_by-flat_map f g xs)

module _ (names places : List (List ℕ)) where
  -- there are as many lines as names
  pub lines_many : (ids : List NameId) (es : List MarkEntry) (cs : List CopyLine) → AreLinesOf names places ids es cs → length cs ≡ length ids
  lines_many [] es [] h = refl
  lines_many [] es (c ∷ cs) h = absurd h
  lines_many (id ∷ ids) [] cs h = absurd h
  lines_many (id ∷ ids) (x ∷ es) [] h = absurd h
  lines_many (id ∷ ids) (x ∷ es) (c ∷ cs) h = ap suc (lines_many ids es cs h.1)

module _ (names places : List (List ℕ)) (f : ℕ → ℤ) where
  -- over all the addresses of a mark
  abbrev pub at_mark : ℕ → ℤ
  at_mark k = int_sum_by f (places_at places k)

  pub line_sum : (id : NameId) (copies : List ℕ) (c : CopyLine) → IsLineOf names places id copies c → int_sum_by f c.places ≡ int_sum_by at_mark copies
  line_sum id copies c h = int_sum_by-permutation f (flat_map (places_at places) copies) c.places h.places_are ∙ int_sum_by-flat_map f (places_at places) copies

  -- a line by its number, and the copies of its mark
  pub record IsSummed (es : List MarkEntry) (n : ℕ) (c : CopyLine) : Type 0 where
    pub entry : MarkEntry
    pub there : slice_get es n ≡ Some entry
    pub sum : int_sum_by f c.places ≡ int_sum_by at_mark entry.new

  pub lines_summed : (ids : List NameId) (es : List MarkEntry) (cs : List CopyLine) → AreLinesOf names places ids es cs → (n : ℕ) (c : CopyLine) → slice_get cs n ≡ Some c → IsSummed es n c
  lines_summed [] es [] h n c e = cc
  lines_summed [] es (d ∷ cs) h n c e = absurd h
  lines_summed (id ∷ ids) [] cs h n c e = absurd h
  lines_summed (id ∷ ids) (x ∷ es) [] h n c e = absurd h
  lines_summed (id ∷ ids) (x ∷ es) (d ∷ cs) h zero c e = let same : d ≡ c = cc in record { entry = x; there = refl; sum = ap (λ (l : CopyLine). int_sum_by f l.places) (sym same) ∙ line_sum id x.new d h.0 }
  lines_summed (id ∷ ids) (x ∷ es) (d ∷ cs) h (suc n) c e = let rest = lines_summed ids es cs h.1 n c e in record { entry = rest.entry; there = rest.there; sum = rest.sum }
