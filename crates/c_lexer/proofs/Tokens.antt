-- A piece that counts as a token has the form of its kind.
use Rattle.std.proofs.Common.{◌≡◌, ℕ, ◌<◌, ◌≤◌, ◌⊎◌, inl, inr, Bool, true, false, if◌then◌else◌, Option, Some, None, List, [], ◌∷◌, ◌++◌, map, length, drop, codes, refl, sym, ap, subst, ◌∙◌, arith}
use Rattle.std.specs.Prelude.{slice_range}
use Rattle.std.specs.Str.{bytes_eq}
use Rattle.std.proofs.lemmas.Bool.{true≢false}
use Rattle.std.proofs.lemmas.Slice.Eq.{bytes_eq-Decides}
use Rattle.c_tree.specs.declared.token.TokenKind.{TokenKind}
use Rattle.c_tree.specs.declared.token.TokenKind.TheVariants as tokens
use Rattle.c_tree.specs.Bytes.{Spans, SpansOne}
use Rattle.c_tree.specs.Words.{text, keywords, outside_words, reserved_words}
use Rattle.c_tree.specs.Said.{IsToken}
use Rattle.c_lexer.specs.declared.pieces.Form.{Form}
use Rattle.c_lexer.specs.declared.pieces.Form.TheVariants as forms
use Rattle.c_lexer.specs.declared.pieces.Piece.{Piece}
use Rattle.c_lexer.specs.declared.pieces.Kind.{Kind}
use Rattle.c_lexer.specs.declared.pieces.Kind.TheVariants as kinds
use Rattle.c_tree.specs.Pragmas.{IsPragma, first_word, pragma_text, string_text, without_return, behind_hash}
use Rattle.c_tree.specs.Pragmas as tree
use Rattle.c_lexer.specs.Forms.{IsWord, IsPiece}
use Rattle.c_lexer.specs.Kinds.{find_kind, spellings, is_one, signs, token_or, word_kind, sign_kind, pragma_kind, IsKind}
use Rattle.c_lexer.specs.Cut.{StandsAt}
use Rattle.c_lexer.proofs.TextLemmas.{spans_text, text_spans, spans_one}

-- what is found among spellings is spelled so
found_text : (list : List TokenKind) (bytes : List ℕ) (kind : TokenKind) → find_kind bytes (spellings list) ≡ Some kind → bytes ≡ text kind
found_text [] bytes kind e = absurd (cc)
found_text (other ∷ list) bytes kind e = elim (cases (bytes_eq bytes (text other)) e) [
  | inl h ↦ (bytes_eq-Decides bytes (text other)).0 h.0 ∙ ap text h.1
  | inr h ↦ found_text list bytes kind h
]
  where
    cases : (x : Bool) → (if x then Some other else find_kind bytes (spellings list)) ≡ Some kind → ((x ≡ true) × (other ≡ kind)) ⊎ (find_kind bytes (spellings list) ≡ Some kind)
    cases true h = inl (refl, cc)
    cases false h = inr h

not_found : (list : List TokenKind) (source : List ℕ) (at end : ℕ) → end ≤ length source → find_kind (slice_range source at end) (spellings list) ≡ None → SpansOne source at end (map text list) → ⊥
not_found [] source at end within e h = h
not_found (other ∷ list) source at end within e (inl h) = first ((bytes_eq-Decides (slice_range source at end) (text other)).1 (text_spans (text other) source at end within h)) e
  where
    first : bytes_eq (slice_range source at end) (text other) ≡ true → (if bytes_eq (slice_range source at end) (text other) then Some other else find_kind (slice_range source at end) (spellings list)) ≡ None → ⊥
    first t k = let some : Some other ≡ None = rw t at k in cc
not_found (other ∷ list) source at end within e (inr h) = not_found list source at end within (rest (bytes_eq (slice_range source at end) (text other)) e) h
  where
    rest : (x : Bool) → (if x then Some other else find_kind (slice_range source at end) (spellings list)) ≡ None → find_kind (slice_range source at end) (spellings list) ≡ None
    rest true k = absurd (cc)
    rest false k = k

-- a span that is written as a kind is a token of that kind
text_token : (kind : TokenKind) (source : List ℕ) (at end : ℕ) → at < end → end ≤ length source → Spans source at end (text kind) → IsToken kind source at end
text_token tokens.Name source at end some within h = absurd (omega (arith, h.1))
text_token tokens.Number source at end some within h = absurd (omega (arith, h.1))
text_token tokens.Character source at end some within h = absurd (omega (arith, h.1))
text_token tokens.LoopBound source at end some within h = absurd (omega (arith, h.1))
text_token tokens.Marker source at end some within h = absurd (omega (arith, h.1))
text_token tokens.FlowRestriction source at end some within h = absurd (omega (arith, h.1))
text_token kind source at end some within h = record { some = some; within = within; form = h }

spans_append : (xs ys : List (List ℕ)) (source : List ℕ) (at end : ℕ) → SpansOne source at end (xs ++ ys) → SpansOne source at end xs ⊎ SpansOne source at end ys
spans_append [] ys source at end h = inr h
spans_append (x ∷ xs) ys source at end (inl h) = inl (inl h)
spans_append (x ∷ xs) ys source at end (inr h) = elim (spans_append xs ys source at end h) [ inl k ↦ inl (inr k) | inr k ↦ inr k ]

-- a span that is found among spellings is a token of the kind
module _ (source : List ℕ) (at end : ℕ) (some : at < end) (within : end ≤ length source) where
  found_token : (list : List TokenKind) (kind : TokenKind) → find_kind (slice_range source at end) (spellings list) ≡ Some kind → IsToken kind source at end
  found_token list kind e = text_token kind source at end some within (spans_text (text kind) source at end (omega arith) within (found_text list (slice_range source at end) kind e))

  token_found : (list : List TokenKind) (otherwise : Kind) (kind : TokenKind) → (o : Option TokenKind) → find_kind (slice_range source at end) (spellings list) ≡ o → (find_kind (slice_range source at end) (spellings list) ≡ None → otherwise ≡ kinds.Token kind → IsToken kind source at end) → token_or o otherwise ≡ kinds.Token kind → IsToken kind source at end
  token_found list otherwise kind (Some other) e none h = let same : other ≡ kind = cc in found_token list kind (e ∙ ap Some same)
  token_found list otherwise kind None e none h = none e h

  pub sign_token : (kind : TokenKind) → sign_kind (slice_range source at end) ≡ kinds.Token kind → IsToken kind source at end
  sign_token kind h = token_found signs kinds.Outside kind (find_kind (slice_range source at end) (spellings signs)) refl (λ e k. absurd (cc)) h

  name_token : IsWord source at end → find_kind (slice_range source at end) (spellings keywords) ≡ None → is_one (slice_range source at end) outside_words ≡ false → IsToken tokens.Name source at end
  name_token w none out = record { some = some; within = within; form = record { first = w.first; bytes = w.word; free = free } }
    where
      free : SpansOne source at end reserved_words → ⊥
      free h = elim (spans_append (map text keywords) (outside_words ++ codes "_Pragma" ∷ []) source at end h) [
        | inl k ↦ not_found keywords source at end within none k
        | inr k ↦ elim (spans_append outside_words (codes "_Pragma" ∷ []) source at end k) [
          | inl j ↦ true≢false (sym (spans_one outside_words source at end within j) ∙ out)
          | inr j ↦ elim j [ inl i ↦ w.other i | inr i ↦ i ]
        ]
      ]

  pub word_token : (kind : TokenKind) → IsWord source at end → word_kind (slice_range source at end) ≡ kinds.Token kind → IsToken kind source at end
  word_token kind w h = token_found keywords (if is_one (slice_range source at end) outside_words then kinds.Outside else kinds.Token tokens.Name) kind (find_kind (slice_range source at end) (spellings keywords)) refl (λ none k. name none (is_one (slice_range source at end) outside_words) refl k) h
    where
      name : find_kind (slice_range source at end) (spellings keywords) ≡ None → (x : Bool) → is_one (slice_range source at end) outside_words ≡ x → (if x then kinds.Outside else kinds.Token tokens.Name) ≡ kinds.Token kind → IsToken kind source at end
      name none true e k = absurd (cc)
      name none false e k = let same : tokens.Name ≡ kind = cc in subst (λ k. IsToken k source at end) same (name_token w none e)

-- a pragma with this text is a token of the kind that its first word names
pragma_token : (source : List ℕ) (at end : ℕ) (bytes : List ℕ) (kind : TokenKind) → at < end → end ≤ length source → tree.IsDirective source at end ⊎ tree.IsOperator source at end → pragma_text source at end ≡ bytes → pragma_kind bytes ≡ kinds.Token kind → IsToken kind source at end
pragma_token source at end bytes kind some within form e h = bound (bytes_eq (first_word bytes) (codes "loopbound")) refl h
  where
    token : (other : TokenKind) (word : List ℕ) → bytes_eq (first_word bytes) word ≡ true → kinds.Token other ≡ kinds.Token kind → (IsPragma word source at end → IsToken other source at end) → IsToken kind source at end
    token other word t k make =
        let same : other ≡ kind = cc in
        subst (λ k. IsToken k source at end) same (make (form, ap first_word e ∙ (bytes_eq-Decides (first_word bytes) word).0 t))

    restriction : (x : Bool) → bytes_eq (first_word bytes) (codes "flowrestriction") ≡ x → (if x then kinds.Token tokens.FlowRestriction else kinds.Dropped) ≡ kinds.Token kind → IsToken kind source at end
    restriction true t k = token tokens.FlowRestriction (codes "flowrestriction") t k (λ p. record { some = some; within = within; form = p })
    restriction false t k = absurd (cc)

    marker : (x : Bool) → bytes_eq (first_word bytes) (codes "marker") ≡ x → (if x then kinds.Token tokens.Marker else (if bytes_eq (first_word bytes) (codes "flowrestriction") then kinds.Token tokens.FlowRestriction else kinds.Dropped)) ≡ kinds.Token kind → IsToken kind source at end
    marker true t k = token tokens.Marker (codes "marker") t k (λ p. record { some = some; within = within; form = p })
    marker false t k = restriction (bytes_eq (first_word bytes) (codes "flowrestriction")) refl k

    bound : (x : Bool) → bytes_eq (first_word bytes) (codes "loopbound") ≡ x → (if x then kinds.Token tokens.LoopBound else (if bytes_eq (first_word bytes) (codes "marker") then kinds.Token tokens.Marker else (if bytes_eq (first_word bytes) (codes "flowrestriction") then kinds.Token tokens.FlowRestriction else kinds.Dropped))) ≡ kinds.Token kind → IsToken kind source at end
    bound true t k = token tokens.LoopBound (codes "loopbound") t k (λ p. record { some = some; within = within; form = p })
    bound false t k = marker (bytes_eq (first_word bytes) (codes "marker")) refl k

token_same : {kind other : TokenKind} → kinds.Token kind ≡ kinds.Token other → kind ≡ other
token_same h = cc

-- a piece that counts as a token is one
pub stands_token : (piece : Piece) (fresh : Bool) (source : List ℕ) (at : ℕ) (kind : TokenKind) → StandsAt piece fresh source at → piece.kind ≡ kinds.Token kind → IsToken kind source at piece.end
stands_token piece fresh source at kind s e = by_form piece.form piece.kind e s.longest.piece s.kind
  where
    by_form : (form : Form) (other : Kind) → other ≡ kinds.Token kind → IsPiece form fresh source at piece.end → IsKind form other source at piece.end → IsToken kind source at piece.end
    by_form forms.Blank other same p k = absurd (let no : kinds.Blank ≡ kinds.Token kind = sym k ∙ same in cc)
    by_form forms.Comment other same p k = absurd (let no : kinds.Comment ≡ kinds.Token kind = sym k ∙ same in cc)
    by_form forms.Directive other same p k = elim k [
      | inl h ↦ pragma_token source at piece.end (without_return (drop 6 (behind_hash source at piece.end))) kind p.some p.within (inl (record { hash = p.has.hash; line = p.has.line; word = h.0 })) (rw p.has.hash refl) (sym h.1 ∙ same)
      | inr h ↦ elim h [
        | inl j ↦ absurd (let no : kinds.Dropped ≡ kinds.Token kind = sym j.1 ∙ same in cc)
        | inr j ↦ absurd (let no : kinds.Outside ≡ kinds.Token kind = sym j.2 ∙ same in cc)
      ]
    ]
    by_form forms.Operator other same p k = pragma_token source at piece.end (string_text source at) kind p.some p.within (inr p.has) (rw p.has.word.0 refl) (sym k ∙ same)
    by_form forms.Word other same p k = word_token source at piece.end p.some p.within kind p.has (sym k ∙ same)
    by_form forms.Number other same p k = elim k [
      | inl h ↦ (let is : tokens.Number ≡ kind = token_same (sym h.1 ∙ same) in subst (λ t. IsToken t source at piece.end) is (record { some = p.some; within = p.within; form = h.0 }))
      | inr h ↦ absurd (let no : kinds.Outside ≡ kinds.Token kind = sym h.1 ∙ same in cc)
    ]
    by_form forms.Character other same p k = elim k [
      | inl h ↦ (let is : tokens.Character ≡ kind = token_same (sym h.1 ∙ same) in subst (λ t. IsToken t source at piece.end) is (record { some = p.some; within = p.within; form = h.0 }))
      | inr h ↦ absurd (let no : kinds.Outside ≡ kinds.Token kind = sym h.1 ∙ same in cc)
    ]
    by_form forms.String other same p k = absurd (let no : kinds.Outside ≡ kinds.Token kind = sym k ∙ same in cc)
    by_form forms.PrefixedQuote other same p k = absurd (let no : kinds.Outside ≡ kinds.Token kind = sym k ∙ same in cc)
    by_form forms.Punctuator other same p k = sign_token source at piece.end p.some p.within kind (sym k ∙ same)
