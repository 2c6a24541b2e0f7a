-- A source has one cut.
use Rattle.std.proofs.Common.{◌≡◌, ◌≢◌, ℕ, ◌≤◌, ◌⊎◌, inl, inr, Bool, true, List, [], ◌∷◌, length, refl, sym, ap, subst, ◌∙◌, arith}
use Rattle.c_lexer.specs.Cut.{StandsAt, fresh_after}
use Rattle.c_lexer.specs.Forms.{IsPiece}
use Rattle.c_lexer.specs.declared.LexFault.{LexFault}
use Rattle.c_lexer.specs.declared.LexFault.TheVariants as faults
use Rattle.c_lexer.specs.declared.pieces.Piece.{Piece}
use Rattle.c_lexer.proofs.Unique.{same_piece}
use Rattle.wide_lexer.specs.declared.roles.Role.TheVariants as roles
use Rattle.wide_lexer.specs.declared.token.Token.{Token}
use Rattle.wide_lexer.specs.Cut.{HasTokens, IsCut, StopsAt, tokens_of}
use Rattle.wide_lexer.proofs.Cuts.{role_at}

cut_grows : (pieces : List Piece) (fresh : Bool) (source : List ℕ) (from to : ℕ) → IsCut pieces fresh source from to → from ≤ to
cut_grows [] fresh source from to c = omega (arith, c)
cut_grows (p ∷ pieces) fresh source from to c = omega (arith, c.0.longest.piece.some, cut_grows pieces p.fresh source p.end to c.2)

-- a cut goes no further there
abbrev Halts : Bool → List ℕ → ℕ → Type 0
Halts fresh source at = (piece : Piece) → StandsAt piece fresh source at → role_at piece source at ≢ roles.Refused → ⊥

-- a cut that goes no further is all of one that is at least as long
halted : (ps qs : List Piece) (fresh : Bool) (source : List ℕ) (from to further : ℕ) → IsCut ps fresh source from to → IsCut qs fresh source from further → to ≤ further → Halts (fresh_after ps fresh) source to → (ps ≡ qs) × (to ≡ further)
halted [] [] fresh source from to further c d le halts = (refl, sym c ∙ d)
halted [] (q ∷ qs) fresh source from to further c d le halts =
    absurd (halts q (subst (λ n. StandsAt q fresh source n) c d.0) (subst (λ n. role_at q source n ≢ roles.Refused) c d.1))
halted (p ∷ ps) [] fresh source from to further c d le halts = absurd (omega (arith, d, c.0.longest.piece.some, cut_grows ps p.fresh source p.end to c.2))
halted (p ∷ ps) (q ∷ qs) fresh source from to further c d le halts =
    let same = same_piece p q fresh source from c.0 d.0 in
    let rest = halted ps qs p.fresh source p.end to further c.2 (subst (λ r. IsCut qs r.fresh source r.end further) (sym same) d.2) le halts in
    (joined p q ps qs same rest.0, rest.1)
  where
    joined : (p q : Piece) (ps qs : List Piece) → p ≡ q → ps ≡ qs → p ∷ ps ≡ q ∷ qs
    joined p q ps qs e h = cc

-- how a cut ends, and where
record Ending (source : List ℕ) : Type 0 where
  pieces : List Piece
  place : ℕ
  cut : IsCut pieces true source 0 place
  halts : Halts (fresh_after pieces true) source place

one_ending : (source : List ℕ) (a b : Ending source) → (a.pieces ≡ b.pieces) × (a.place ≡ b.place)
one_ending source a b = elim (order a.place b.place) [
  | inl le ↦ halted a.pieces b.pieces true source 0 a.place b.place a.cut b.cut le a.halts
  | inr le ↦ (let h = halted b.pieces a.pieces true source 0 b.place a.place b.cut a.cut le b.halts in (sym h.0, sym h.1))
]
  where
    order : (m n : ℕ) → (m ≤ n) ⊎ (n ≤ m)
    order m n = grind arith

abbrev whole_ending : (source : List ℕ) (tokens : List Token) → HasTokens source tokens → Ending source
whole_ending source tokens h = record { pieces = h.0; place = length source; cut = h.1; halts = λ piece s k. absurd (omega (arith, s.longest.piece.some, s.longest.piece.within)) }

abbrev bad_ending : (source : List ℕ) (at : ℕ) → StopsAt (faults.Bad at) source → Ending source
bad_ending source at h = record { pieces = h.0; place = at; cut = h.1; halts = λ piece s k. h.3 piece.form piece.end s.longest.piece }

abbrev outside_ending : (source : List ℕ) (at : ℕ) → StopsAt (faults.Outside at) source → Ending source
outside_ending source at h = record {
  pieces = h.0;
  place = at;
  cut = h.1;
  halts = λ piece s k. k (ap (λ p. role_at p source at) (same_piece piece h.2 (fresh_after h.0 true) source at s h.3) ∙ h.4);
}

-- a source has one list of tokens
pub one_list : (source : List ℕ) (tokens others : List Token) → HasTokens source tokens → HasTokens source others → tokens ≡ others
one_list source tokens others h k = h.2 ∙ ap (λ pieces. tokens_of pieces source 0) (one_ending source (whole_ending source tokens h) (whole_ending source others k)).0 ∙ sym k.2

-- a source that has tokens is not refused
pub tokens_or_fault : (source : List ℕ) (tokens : List Token) (fault : LexFault) → HasTokens source tokens → StopsAt fault source → fault ≡ faults.Memory
tokens_or_fault source tokens (faults.Bad at) h k = absurd (omega (arith, k.2, (one_ending source (whole_ending source tokens h) (bad_ending source at k)).1))
tokens_or_fault source tokens (faults.Outside at) h k = absurd (omega (arith, k.3.longest.piece.some, k.3.longest.piece.within, (one_ending source (whole_ending source tokens h) (outside_ending source at k)).1))
tokens_or_fault source tokens faults.Memory h k = refl

-- a source is refused at one place and for one cause
pub one_fault : (source : List ℕ) (fault other : LexFault) → StopsAt fault source → StopsAt other source → fault ≢ faults.Memory → other ≢ faults.Memory → fault ≡ other
one_fault source (faults.Bad at) (faults.Bad place) h k m n = ap faults.Bad (one_ending source (bad_ending source at h) (bad_ending source place k)).1
one_fault source (faults.Outside at) (faults.Outside place) h k m n = ap faults.Outside (one_ending source (outside_ending source at h) (outside_ending source place k)).1
one_fault source (faults.Bad at) (faults.Outside place) h k m n =
    let same = one_ending source (bad_ending source at h) (outside_ending source place k) in
    absurd (h.3 k.2.form k.2.end (subst (λ f. IsPiece k.2.form f source at k.2.end) (ap (λ pieces. fresh_after pieces true) (sym same.0)) (subst (λ n. IsPiece k.2.form (fresh_after k.0 true) source n k.2.end) (sym same.1) k.3.longest.piece)))
one_fault source (faults.Outside at) (faults.Bad place) h k m n =
    let same = one_ending source (outside_ending source at h) (bad_ending source place k) in
    absurd (k.3 h.2.form h.2.end (subst (λ f. IsPiece h.2.form f source place h.2.end) (ap (λ pieces. fresh_after pieces true) same.0) (subst (λ n. IsPiece h.2.form (fresh_after h.0 true) source n h.2.end) same.1 h.3.longest.piece)))
one_fault source faults.Memory other h k m n = absurd (m refl)
one_fault source fault faults.Memory h k m n = absurd (n refl)
