-- Copy lines: their names, and the line of a function.
use Rattle.std.proofs.Common.{◌≡◌, ℕ, zero, suc, List, [], ◌∷◌, map, Some, refl, subst}
use Rattle.std.specs.Prelude.{slice_get}
use Rattle.std.proofs.Math.Path.{ap₂}
use Rattle.std.proofs.lemmas.Option.{none-some, same_Some}
use Rattle.c_tree.specs.Names.{name_of}
use Rattle.c_tree.specs.declared.expression.NameId.{NameId}
use Rattle.high_pass.specs.Listing.{MarkEntry}
use Rattle.compile_claims.specs.CopyLines.{AreLinesOf, IsLineOf}
use Rattle.report_text.specs.declared.entries.CopyLine.{CopyLine}

module _ (names : List (List ℕ)) (places : List (List ℕ)) where
  pub names_told : (ids : List NameId) (es : List MarkEntry) (cs : List CopyLine) → AreLinesOf names places ids es cs → map (λ (c : CopyLine). c.name) cs ≡ map (λ (n : NameId). name_of names n.0) ids
  names_told [] es [] h = refl
  names_told [] es (c ∷ cs) h = absurd h
  names_told (id ∷ ids) [] cs h = absurd h
  names_told (id ∷ ids) (e ∷ es) [] h = absurd h
  names_told (id ∷ ids) (e ∷ es) (c ∷ cs) h = ap₂ (λ x xs. x ∷ xs) h.0.name (names_told ids es cs h.1)

  -- the line of a name, by its number
  pub record HasLine (n : ℕ) (id : NameId) (es : List MarkEntry) (cs : List CopyLine) : Type 0 where
    pub entry : MarkEntry
    pub line : CopyLine
    pub listed : slice_get es n ≡ Some entry
    pub there : slice_get cs n ≡ Some line
    pub is : IsLineOf names places id entry.new line

  pub line_at : (ids : List NameId) (es : List MarkEntry) (cs : List CopyLine) (n : ℕ) (id : NameId) → AreLinesOf names places ids es cs → slice_get ids n ≡ Some id → HasLine n id es cs
  line_at [] es cs n id h e = absurd (none-some id e)
  line_at (i ∷ ids) [] cs n id h e = absurd h
  line_at (i ∷ ids) (x ∷ es) [] n id h e = absurd h
  line_at (i ∷ ids) (x ∷ es) (c ∷ cs) zero id h e = record { entry = x; line = c; listed = refl; there = refl; is = subst (λ j. IsLineOf names places j x.new c) (same_Some i id e) h.0 }
  line_at (i ∷ ids) (x ∷ es) (c ∷ cs) (suc n) id h e =
      let r = line_at ids es cs n id h.1 e in
      record { entry = r.entry; line = r.line; listed = r.listed; there = r.there; is = r.is }
