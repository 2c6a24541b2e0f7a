-- A source has one cut.
use Rattle.std.proofs.Common.{◌≡◌, ◌≢◌, ℕ, ◌+◌, ◌≤◌, ◌⊎◌, inl, inr, Bool, true, false, ◌&&◌, not, nat_eq, List, [], ◌∷◌, length, refl, sym, ap, subst, ◌∙◌, arith}
use Rattle.std.specs.Prelude.{slice_index}
use Rattle.std.proofs.lemmas.Bool.{true≢false, eq-eqb}
use Rattle.c_tree.specs.declared.token.Token.{Token}
use Rattle.c_tree.specs.Bytes.{Spans}
use Rattle.c_tree.specs.Pragmas.{IsPragmaWord, behind_hash}
use Rattle.c_lexer.specs.declared.pieces.Form.{Form}
use Rattle.c_lexer.specs.declared.pieces.Form.TheVariants as forms
use Rattle.c_lexer.specs.declared.pieces.Kind.{Kind}
use Rattle.c_lexer.specs.declared.pieces.Kind.TheVariants as kinds
use Rattle.c_lexer.specs.declared.pieces.Piece.{Piece}
use Rattle.c_lexer.specs.declared.LexFault.{LexFault}
use Rattle.c_lexer.specs.declared.LexFault.TheVariants as faults
use Rattle.c_lexer.specs.Forms.{IsPiece, IsLongest, punctuators}
use Rattle.c_lexer.specs.Kinds.{IsKind, IsLineKind, IsMarker}
use Rattle.c_lexer.specs.Cut.{IsFresh, StandsAt, IsCut, fresh_after, tokens_of, HasTokens, StopsAt}
use Rattle.c_lexer.proofs.TextLemmas.{picked}
use Rattle.c_lexer.proofs.Comments.{three, comment_first}
use Rattle.c_lexer.proofs.FirstBytes.{class, class_of, clash, digit_class, form_class, is_number}
use Rattle.c_lexer.proofs.Operators.{operator_after}
use Rattle.c_lexer.proofs.Longest.{runs_same, word_run, prefixed_run, prefixed_short, operator_piece_run, point_alone, alone_point}

-- no punctuator begins as a comment to the end of a line does
abbrev not_slashes : List ℕ → Bool
not_slashes (b ∷ c ∷ bytes) = not (nat_eq b 47 && nat_eq c 47)
not_slashes _ = true

slashes_short : (bytes source : List ℕ) (at end : ℕ) → not_slashes bytes ≡ true → Spans source at end bytes → slice_index source at ≡ 47 → slice_index source (at + 1) ≡ 47 → end ≤ at + 1
slashes_short [] source at end test spans first second = omega (arith, spans.1)
slashes_short (b ∷ []) source at end test spans first second = omega (arith, spans.1)
slashes_short (b ∷ c ∷ bytes) source at end test spans first second = absurd (both (nat_eq b 47) (nat_eq c 47) (eq-eqb b 47 (sym spans.0.0 ∙ first)) (eq-eqb c 47 (sym spans.0.1.0 ∙ second)) test)
  where
    both : (x y : Bool) → x ≡ true → y ≡ true → not (x && y) ≡ true → ⊥
    both true true e f h = true≢false (sym h)
    both true false e f h = true≢false (sym f)
    both false y e f h = true≢false (sym e)

module _ (fresh : Bool) (source : List ℕ) (at end : ℕ) where
  number_apart : (form : Form) → is_number form ≡ false → IsPiece forms.Number fresh source at end → IsPiece form fresh source at end → ⊥
  number_apart forms.Comment n p q = elim p.has.first [ inl h ↦ absurd (omega (arith, h, comment_first source at end q.has)) | inr h ↦ absurd (omega (arith, h.0, comment_first source at end q.has)) ]
  number_apart forms.Directive n p q = elim p.has.first [ inl h ↦ absurd (omega (arith, h, q.has.hash)) | inr h ↦ absurd (omega (arith, h.0, q.has.hash)) ]
  number_apart forms.Number n p q = absurd (true≢false n)
  number_apart forms.Punctuator n p q = elim p.has.first [
    | inl h ↦ clash forms.Punctuator fresh source at end 2 (digit_class _ h) refl refl q
    | inr h ↦ (let t = picked point_alone punctuators source at end refl q.has.text in absurd (omega (arith, h.2, alone_point t.text source at end t.passes t.spans h.0 h.1)))
  ]
  number_apart form n p q = elim p.has.first [ inl h ↦ clash form fresh source at end 2 (digit_class _ h) refl refl q | inr h ↦ clash form fresh source at end 5 (ap class h.0) refl refl q ]

  word_operator : IsPiece forms.Word fresh source at end → IsPiece forms.Operator fresh source at end → ⊥
  word_operator p q = absurd (omega (arith, operator_after source at end q.has, runs_same source at (at + 7) end (operator_piece_run fresh source at end q) (word_run source at end p.some p.within p.has)))

  word_prefixed : IsPiece forms.Word fresh source at end → IsPiece forms.PrefixedQuote fresh source at end → ⊥
  word_prefixed p q = absurd (omega (arith, q.has.ends, runs_same source at q.has.quote_at end (prefixed_run source at end q.within q.has) (word_run source at end p.some p.within p.has)))

  operator_prefixed : IsPiece forms.Operator fresh source at end → IsPiece forms.PrefixedQuote fresh source at end → ⊥
  operator_prefixed p q = absurd (omega (arith, prefixed_short source at end q.has, runs_same source at (at + 7) q.has.quote_at (operator_piece_run fresh source at end p) (prefixed_run source at end q.within q.has)))

  comment_punctuator : IsPiece forms.Comment fresh source at end → IsPiece forms.Punctuator fresh source at end → ⊥
  comment_punctuator p q = elim p.has.1 [
    | inl h ↦ q.has.no_comment h.begins
    | inr h ↦ (let t = picked not_slashes punctuators source at end refl q.has.text in absurd (omega (arith, h.after, slashes_short t.text source at end t.passes t.spans h.begins.0 h.begins.1.0)))
  ]

  same_form : (form other : Form) → IsPiece form fresh source at end → IsPiece other fresh source at end → form ≡ other
  same_form forms.Blank forms.Blank p q = refl
  same_form forms.Comment forms.Comment p q = refl
  same_form forms.Directive forms.Directive p q = refl
  same_form forms.Operator forms.Operator p q = refl
  same_form forms.Word forms.Word p q = refl
  same_form forms.Number forms.Number p q = refl
  same_form forms.Character forms.Character p q = refl
  same_form forms.String forms.String p q = refl
  same_form forms.PrefixedQuote forms.PrefixedQuote p q = refl
  same_form forms.Punctuator forms.Punctuator p q = refl
  same_form forms.Number other p q = absurd (number_apart other refl p q)
  same_form form forms.Number p q = absurd (number_apart form refl q p)
  same_form forms.Word forms.Operator p q = absurd (word_operator p q)
  same_form forms.Operator forms.Word p q = absurd (word_operator q p)
  same_form forms.Word forms.PrefixedQuote p q = absurd (word_prefixed p q)
  same_form forms.PrefixedQuote forms.Word p q = absurd (word_prefixed q p)
  same_form forms.Operator forms.PrefixedQuote p q = absurd (operator_prefixed p q)
  same_form forms.PrefixedQuote forms.Operator p q = absurd (operator_prefixed q p)
  same_form forms.Comment forms.Directive p q = absurd (omega (arith, comment_first source at end p.has, q.has.hash))
  same_form forms.Directive forms.Comment p q = absurd (omega (arith, p.has.hash, comment_first source at end q.has))
  same_form forms.Comment forms.Punctuator p q = absurd (comment_punctuator p q)
  same_form forms.Punctuator forms.Comment p q = absurd (comment_punctuator q p)
  same_form forms.Directive forms.Punctuator p q = absurd (q.has.no_directive p.has.begins_line p.has.hash)
  same_form forms.Punctuator forms.Directive p q = absurd (p.has.no_directive q.has.begins_line q.has.hash)
  same_form form other p q = absurd (elim (class_of form fresh source at end p) [ inl h ↦ clash other fresh source at end (form_class form) h refl refl q | inr h ↦ true≢false (sym h.1) ])

pub same_longest : (form other : Form) (fresh : Bool) (source : List ℕ) (at end further : ℕ) → IsLongest form fresh source at end → IsLongest other fresh source at further → (form ≡ other) × (end ≡ further)
same_longest form other fresh source at end further l m = (same_form fresh source at end form other l.piece (subst (λ n. IsPiece other fresh source at n) (sym same) m.piece), same)
  where
    same : end ≡ further
    same = elim (three end further) [ inl e ↦ e | inr h ↦ elim h [ inl lt ↦ absurd (l.longest other further lt m.piece) | inr lt ↦ absurd (m.longest form end lt l.piece) ] ]

pragma_no_marker : (line : List ℕ) → IsPragmaWord line → IsMarker line → ⊥
pragma_no_marker line p (inl h) = absurd (omega (arith, p.0.0, ap (λ bytes. slice_index bytes 0) h))
pragma_no_marker line p (inr (inl h)) = absurd (omega (arith, p.0.0, h))
pragma_no_marker line p (inr (inr h)) = absurd (omega (arith, p.0.0, h.0))

line_kind_same : (line : List ℕ) (kind other : Kind) → IsLineKind kind line → IsLineKind other line → kind ≡ other
line_kind_same line kind other (inl h) (inl k) = h.1 ∙ sym k.1
line_kind_same line kind other (inl h) (inr (inl k)) = absurd (pragma_no_marker line h.0 k.0)
line_kind_same line kind other (inl h) (inr (inr k)) = absurd (k.0 h.0)
line_kind_same line kind other (inr (inl h)) (inl k) = absurd (pragma_no_marker line k.0 h.0)
line_kind_same line kind other (inr (inl h)) (inr (inl k)) = h.1 ∙ sym k.1
line_kind_same line kind other (inr (inl h)) (inr (inr k)) = absurd (k.1 h.0)
line_kind_same line kind other (inr (inr h)) (inl k) = absurd (h.0 k.0)
line_kind_same line kind other (inr (inr h)) (inr (inl k)) = absurd (h.1 k.0)
line_kind_same line kind other (inr (inr h)) (inr (inr k)) = h.2 ∙ sym k.2

pub same_kind : (form : Form) (kind other : Kind) (source : List ℕ) (at end : ℕ) → IsKind form kind source at end → IsKind form other source at end → kind ≡ other
same_kind forms.Directive kind other source at end h k = line_kind_same (behind_hash source at end) kind other h k
same_kind forms.Operator kind other source at end h k = h ∙ sym k
same_kind forms.Number kind other source at end (inl h) (inl k) = h.1 ∙ sym k.1
same_kind forms.Number kind other source at end (inl h) (inr k) = absurd (k.0 h.0)
same_kind forms.Number kind other source at end (inr h) (inl k) = absurd (h.0 k.0)
same_kind forms.Number kind other source at end (inr h) (inr k) = h.1 ∙ sym k.1
same_kind forms.Character kind other source at end (inl h) (inl k) = h.1 ∙ sym k.1
same_kind forms.Character kind other source at end (inl h) (inr k) = absurd (k.0 h.0)
same_kind forms.Character kind other source at end (inr h) (inl k) = absurd (h.0 k.0)
same_kind forms.Character kind other source at end (inr h) (inr k) = h.1 ∙ sym k.1
same_kind forms.Blank kind other source at end h k = h ∙ sym k
same_kind forms.Comment kind other source at end h k = h ∙ sym k
same_kind forms.Word kind other source at end h k = h ∙ sym k
same_kind forms.String kind other source at end h k = h ∙ sym k
same_kind forms.PrefixedQuote kind other source at end h k = h ∙ sym k
same_kind forms.Punctuator kind other source at end h k = h ∙ sym k

same_fresh : (form : Form) (before after other : Bool) (source : List ℕ) (at end : ℕ) → IsFresh form before after source at end → IsFresh form before other source at end → after ≡ other
same_fresh forms.Blank before after other source at end (inl h) (inl k) = h.1 ∙ sym k.1
same_fresh forms.Blank before after other source at end (inl h) (inr k) = absurd (k.0 h.0)
same_fresh forms.Blank before after other source at end (inr h) (inl k) = absurd (h.0 k.0)
same_fresh forms.Blank before after other source at end (inr h) (inr k) = h.1 ∙ sym k.1
same_fresh _ before after other source at end h k = h ∙ sym k

-- one piece stands at a place
pub same_piece : (p q : Piece) (fresh : Bool) (source : List ℕ) (at : ℕ) → StandsAt p fresh source at → StandsAt q fresh source at → p ≡ q
same_piece p q fresh source at s t = parts p.form q.form p.kind q.kind p.end q.end p.fresh q.fresh form kind end line
  where
    both : (p.form ≡ q.form) × (p.end ≡ q.end)
    both = same_longest p.form q.form fresh source at p.end q.end s.longest t.longest

    form : p.form ≡ q.form
    form = both.0

    end : p.end ≡ q.end
    end = both.1

    kind : p.kind ≡ q.kind
    kind = same_kind p.form p.kind q.kind source at p.end s.kind (subst (λ f. IsKind f q.kind source at p.end) (sym form) (subst (λ n. IsKind q.form q.kind source at n) (sym end) t.kind))

    line : p.fresh ≡ q.fresh
    line = same_fresh p.form fresh p.fresh q.fresh source at p.end s.line (subst (λ f. IsFresh f fresh q.fresh source at p.end) (sym form) (subst (λ n. IsFresh q.form fresh q.fresh source at n) (sym end) t.line))

    parts : (f g : Form) (k l : Kind) (m n : ℕ) (a b : Bool) → f ≡ g → k ≡ l → m ≡ n → a ≡ b → ◌≡◌ {A = Piece} (record { form = f; kind = k; end = m; fresh = a }) (record { form = g; kind = l; end = n; fresh = b })
    parts f g k l m n a b e h i j = cc

cut_grows : (pieces : List Piece) (fresh : Bool) (source : List ℕ) (from to : ℕ) → IsCut pieces fresh source from to → from ≤ to
cut_grows [] fresh source from to c = omega (arith, c)
cut_grows (p ∷ pieces) fresh source from to c = omega (arith, c.0.longest.piece.some, cut_grows pieces p.fresh source p.end to c.2)

-- a cut goes no further there
abbrev Halts : Bool → List ℕ → ℕ → Type 0
Halts fresh source at = (piece : Piece) → StandsAt piece fresh source at → piece.kind ≢ kinds.Outside → ⊥

-- a cut that goes no further is all of one that is at least as long
halted : (ps qs : List Piece) (fresh : Bool) (source : List ℕ) (from to further : ℕ) → IsCut ps fresh source from to → IsCut qs fresh source from further → to ≤ further → Halts (fresh_after ps fresh) source to → (ps ≡ qs) × (to ≡ further)
halted [] [] fresh source from to further c d le halts = (refl, sym c ∙ d)
halted [] (q ∷ qs) fresh source from to further c d le halts = absurd (halts q (subst (λ n. StandsAt q fresh source n) c d.0) d.1)
halted (p ∷ ps) [] fresh source from to further c d le halts = absurd (omega (arith, d, c.0.longest.piece.some, cut_grows ps p.fresh source p.end to c.2))
halted (p ∷ ps) (q ∷ qs) fresh source from to further c d le halts =
    let same = same_piece p q fresh source from c.0 d.0 in
    let rest = halted ps qs p.fresh source p.end to further c.2 (subst (λ r. IsCut qs r.fresh source r.end further) (sym same) d.2) le halts in
    (joined p q ps qs same rest.0, rest.1)
  where
    joined : (p q : Piece) (ps qs : List Piece) → p ≡ q → ps ≡ qs → p ∷ ps ≡ q ∷ qs
    joined p q ps qs e h = cc

-- how a cut ends, and where
record Ending (source : List ℕ) : Type 0 where
  pieces : List Piece
  place : ℕ
  cut : IsCut pieces true source 0 place
  halts : Halts (fresh_after pieces true) source place

one_ending : (source : List ℕ) (a b : Ending source) → (a.pieces ≡ b.pieces) × (a.place ≡ b.place)
one_ending source a b = elim (order a.place b.place) [
  | inl le ↦ halted a.pieces b.pieces true source 0 a.place b.place a.cut b.cut le a.halts
  | inr le ↦ (let h = halted b.pieces a.pieces true source 0 b.place a.place b.cut a.cut le b.halts in (sym h.0, sym h.1))
]
  where
    order : (m n : ℕ) → (m ≤ n) ⊎ (n ≤ m)
    order m n = grind arith

abbrev whole_ending : (source : List ℕ) (tokens : List Token) → HasTokens source tokens → Ending source
whole_ending source tokens h = record { pieces = h.0; place = length source; cut = h.1; halts = λ piece s k. absurd (omega (arith, s.longest.piece.some, s.longest.piece.within)) }

abbrev bad_ending : (source : List ℕ) (at : ℕ) → StopsAt (faults.Bad at) source → Ending source
bad_ending source at h = record { pieces = h.0; place = at; cut = h.1; halts = λ piece s k. h.3 piece.form piece.end s.longest.piece }

abbrev outside_ending : (source : List ℕ) (at : ℕ) → StopsAt (faults.Outside at) source → Ending source
outside_ending source at h = record {
  pieces = h.0;
  place = at;
  cut = h.1;
  halts = λ piece s k. k (ap (λ p. p.kind) (same_piece piece h.2 (fresh_after h.0 true) source at s h.3) ∙ h.4);
}

-- a source has one list of tokens
pub one_list : (source : List ℕ) (tokens others : List Token) → HasTokens source tokens → HasTokens source others → tokens ≡ others
one_list source tokens others h k = h.2 ∙ ap (λ pieces. tokens_of pieces 0) (one_ending source (whole_ending source tokens h) (whole_ending source others k)).0 ∙ sym k.2

-- a source that has tokens is not refused
pub tokens_or_fault : (source : List ℕ) (tokens : List Token) (fault : LexFault) → HasTokens source tokens → StopsAt fault source → fault ≡ faults.Memory
tokens_or_fault source tokens (faults.Bad at) h k = absurd (omega (arith, k.2, (one_ending source (whole_ending source tokens h) (bad_ending source at k)).1))
tokens_or_fault source tokens (faults.Outside at) h k = absurd (omega (arith, k.3.longest.piece.some, k.3.longest.piece.within, (one_ending source (whole_ending source tokens h) (outside_ending source at k)).1))
tokens_or_fault source tokens faults.Memory h k = refl

-- a source is refused at one place and for one cause
pub one_fault : (source : List ℕ) (fault other : LexFault) → StopsAt fault source → StopsAt other source → fault ≢ faults.Memory → other ≢ faults.Memory → fault ≡ other
one_fault source (faults.Bad at) (faults.Bad place) h k m n = ap faults.Bad (one_ending source (bad_ending source at h) (bad_ending source place k)).1
one_fault source (faults.Outside at) (faults.Outside place) h k m n = ap faults.Outside (one_ending source (outside_ending source at h) (outside_ending source place k)).1
one_fault source (faults.Bad at) (faults.Outside place) h k m n =
    let same = one_ending source (bad_ending source at h) (outside_ending source place k) in
    absurd (h.3 k.2.form k.2.end (subst (λ f. IsPiece k.2.form f source at k.2.end) (ap (λ pieces. fresh_after pieces true) (sym same.0)) (subst (λ n. IsPiece k.2.form (fresh_after k.0 true) source n k.2.end) (sym same.1) k.3.longest.piece)))
one_fault source (faults.Outside at) (faults.Bad place) h k m n =
    let same = one_ending source (outside_ending source at h) (bad_ending source place k) in
    absurd (k.3 h.2.form h.2.end (subst (λ f. IsPiece h.2.form f source place h.2.end) (ap (λ pieces. fresh_after pieces true) same.0) (subst (λ n. IsPiece h.2.form (fresh_after h.0 true) source n h.2.end) same.1 h.3.longest.piece)))
one_fault source faults.Memory other h k m n = absurd (m refl)
one_fault source fault faults.Memory h k m n = absurd (n refl)
