-- When a piece is the longest at its place.
use Rattle.std.proofs.Common.{◌≡◌, ◌≢◌, ℕ, ◌+◌, ◌<◌, ◌≤◌, ◌⊎◌, inl, inr, Bool, true, false, ◌&&◌, ◌||◌, not, nat_eq, nat_le, List, [], ◌∷◌, length, codes, refl, sym, ap, subst, ◌∙◌, arith}
use Rattle.std.specs.Prelude.{slice_index}
use Rattle.std.proofs.lemmas.Bool.{true≢false, leb-true, eq-eqb}
use Rattle.c_tree.specs.Bytes.{IsDigit, IsNameByte, IsBlankByte, Each, Stands, Spans, SpansOne}
use Rattle.c_tree.specs.Pragmas.{IsOperator}
use Rattle.c_lexer.specs.declared.pieces.Form.{Form}
use Rattle.c_lexer.specs.declared.pieces.Form.TheVariants as forms
use Rattle.c_lexer.specs.Bytes.{IsOnLine, EndsBefore}
use Rattle.c_lexer.specs.Comments.{IsComment}
use Rattle.c_lexer.specs.Forms.{GoesOn, BeginsNumber, IsWord, IsNumber, IsQuoted, IsPrefixed, IsPunctuator, IsLine, IsPiece, IsLongest, NoPiece, prefixes, punctuators}
use Rattle.c_lexer.proofs.TextLemmas.{picked}
use Rattle.c_lexer.proofs.Comments.{three, comment_same, comment_first, comment_after}
use Rattle.c_lexer.proofs.Quotes.{quoted_same}
use Rattle.c_lexer.proofs.Operators.{operator_after, operator_same, operator_word}
use Rattle.c_lexer.proofs.FirstBytes.{class, blank_class, letter_class, digit_class, prefixed_class, punctuator_class, clash, no_name, are_names, names_stand}

-- a run of bytes that goes as far as it can ends at one place
run_same : (P : ℕ → Type 0) (source : List ℕ) (at end further : ℕ) → at ≤ end → at ≤ further → end ≤ length source → further ≤ length source → Each P source at end → EndsBefore P source end → Each P source at further → EndsBefore P source further → end ≡ further
run_same P source at end further after after' within within' run stop run' stop' = elim (three end further) [
  | inl e ↦ e
  | inr h ↦ elim h [ inl lt ↦ absurd (stop (omega arith) (run' end after lt)) | inr lt ↦ absurd (stop' (omega arith) (run further after' lt)) ]
]

-- the word behind which a prefixed quote stands
pub record Run (source : List ℕ) (at end : ℕ) : Type 0 where
  pub after : at ≤ end
  pub within : end ≤ length source
  pub run : Each IsNameByte source at end
  pub stop : EndsBefore IsNameByte source end

pub runs_same : (source : List ℕ) (at end further : ℕ) → Run source at end → Run source at further → end ≡ further
runs_same source at end further a b = run_same IsNameByte source at end further a.after b.after a.within b.within a.run a.stop b.run b.stop

pub word_run : (source : List ℕ) (at end : ℕ) → at < end → end ≤ length source → IsWord source at end → Run source at end
word_run source at end some within w = record { after = omega arith; within = within; run = w.word; stop = w.whole }

text_run : (text source : List ℕ) (at : ℕ) → are_names text ≡ true → at + length text ≤ length source → Stands source at text → (IsNameByte (slice_index source (at + length text)) → ⊥) → Run source at (at + length text)
text_run text source at names within stands stop = record { after = omega arith; within = within; run = names_stand text source at names stands; stop = λ _. stop }

quote_class : (source : List ℕ) (at end : ℕ) → (p : IsPrefixed source at end) → IsNameByte (slice_index source p.quote_at) → ⊥
quote_class source at end p = elim p.quote [ inl h ↦ no_name _ 3 (ap class h) refl refl | inr h ↦ no_name _ 4 (ap class h) refl refl ]

pub prefixed_run : (source : List ℕ) (at end : ℕ) → end ≤ length source → (p : IsPrefixed source at end) → Run source at p.quote_at
prefixed_run source at end within p =
    let t = picked are_names prefixes source at p.quote_at refl p.prefix in
    let e : p.quote_at ≡ at + length t.text = t.spans.1 in
    subst (Run source at) (sym e) (text_run t.text source at t.passes (omega (arith, p.ends, within, e)) t.spans.0 (subst (λ n. IsNameByte (slice_index source n) → ⊥) e (quote_class source at end p)))

-- a prefix has at most two letters
pub prefixed_short : (source : List ℕ) (at end : ℕ) → (p : IsPrefixed source at end) → p.quote_at ≤ at + 2
prefixed_short source at end p =
    let t = picked (λ text. nat_le (length text) 2) prefixes source at p.quote_at refl p.prefix in
    omega (arith, t.spans.1, leb-true _ _ t.passes)

operator_run : (source : List ℕ) (at end : ℕ) → at + 7 ≤ length source → IsOperator source at end → Run source at (at + 7)
operator_run source at end within o = text_run (codes "_Pragma") source at refl within o.word (operator_word source at end o)

pub operator_piece_run : (fresh : Bool) (source : List ℕ) (at end : ℕ) → IsPiece forms.Operator fresh source at end → Run source at (at + 7)
operator_piece_run fresh source at end p = operator_run source at end (omega (arith, operator_after source at end p.has, p.within)) p.has

pub longest_blank : (fresh : Bool) (source : List ℕ) (at end : ℕ) → at < end → end ≤ length source → Each IsBlankByte source at end → EndsBefore IsBlankByte source end → IsLongest forms.Blank fresh source at end
longest_blank fresh source at end some within blanks whole = record { piece = record { some = some; within = within; has = blanks }; longest = no_longer }
  where
    first : class (slice_index source at) ≡ 0
    first = blank_class _ (blanks at (omega arith) some)

    no_longer : (other : Form) (further : ℕ) → end < further → IsPiece other fresh source at further → ⊥
    no_longer forms.Blank further lt p = whole (omega (arith, p.within)) (p.has end (omega arith) lt)
    no_longer other further lt p = clash other fresh source at further 0 first refl refl p

pub longest_word : (fresh : Bool) (source : List ℕ) (at end : ℕ) → at < end → end ≤ length source → IsWord source at end → (SpansOne source at end prefixes → (slice_index source end ≡ 39) ⊎ (slice_index source end ≡ 34) → ⊥) → IsLongest forms.Word fresh source at end
longest_word fresh source at end some within w free = record { piece = record { some = some; within = within; has = w }; longest = no_longer }
  where
    run : Run source at end
    run = word_run source at end some within w

    no_longer : (other : Form) (further : ℕ) → end < further → IsPiece other fresh source at further → ⊥
    no_longer forms.Word further lt p = absurd (omega (arith, lt, runs_same source at end further run (word_run source at further p.some p.within p.has)))
    no_longer forms.Operator further lt p = w.other (p.has.word, sym (runs_same source at (at + 7) end (operator_piece_run fresh source at further p) run) ∙ refl)
    no_longer forms.PrefixedQuote further lt p =
        let e : p.has.quote_at ≡ end = runs_same source at p.has.quote_at end (prefixed_run source at further p.within p.has) run in
        free (subst (λ n. SpansOne source at n prefixes) e p.has.prefix) (subst (λ n. (slice_index source n ≡ 39) ⊎ (slice_index source n ≡ 34)) e p.has.quote)
    no_longer other further lt p = clash other fresh source at further 1 (letter_class _ w.first) refl refl p

pub longest_prefixed : (fresh : Bool) (source : List ℕ) (at end : ℕ) → end ≤ length source → IsPrefixed source at end → IsLongest forms.PrefixedQuote fresh source at end
longest_prefixed fresh source at end within q = record { piece = record { some = omega (arith, run.after, q.ends); within = within; has = q }; longest = no_longer }
  where
    run : Run source at q.quote_at
    run = prefixed_run source at end within q

    no_longer : (other : Form) (further : ℕ) → end < further → IsPiece other fresh source at further → ⊥
    no_longer forms.Word further lt p = absurd (omega (arith, lt, q.ends, runs_same source at q.quote_at further run (word_run source at further p.some p.within p.has)))
    no_longer forms.Operator further lt p = absurd (omega (arith, prefixed_short source at end q, runs_same source at (at + 7) q.quote_at (operator_piece_run fresh source at further p) run))
    no_longer forms.PrefixedQuote further lt p = absurd (omega (arith, lt, q.ends, p.has.ends, runs_same source at q.quote_at p.has.quote_at run (prefixed_run source at further p.within p.has)))
    no_longer other further lt p = clash other fresh source at further 1 (prefixed_class source at end q) refl refl p

pub longest_operator : (fresh : Bool) (source : List ℕ) (at end : ℕ) → end ≤ length source → IsOperator source at end → IsLongest forms.Operator fresh source at end
longest_operator fresh source at end within o = record { piece = piece; longest = no_longer }
  where
    piece : IsPiece forms.Operator fresh source at end
    piece = record { some = omega (arith, operator_after source at end o); within = within; has = o }

    run : Run source at (at + 7)
    run = operator_piece_run fresh source at end piece

    no_longer : (other : Form) (further : ℕ) → end < further → IsPiece other fresh source at further → ⊥
    no_longer forms.Word further lt p = p.has.other (o.word, sym (runs_same source at (at + 7) further run (word_run source at further p.some p.within p.has)) ∙ refl)
    no_longer forms.Operator further lt p = absurd (omega (arith, lt, operator_same source at end further o p.has))
    no_longer forms.PrefixedQuote further lt p = absurd (omega (arith, prefixed_short source at further p.has, runs_same source at (at + 7) p.has.quote_at run (prefixed_run source at further p.within p.has)))
    no_longer other further lt p = clash other fresh source at further 1 (ap class o.word.0) refl refl p

-- a pragma operator without its string in brackets
pub no_operator : (fresh : Bool) (source : List ℕ) (at : ℕ) → at + 7 ≤ length source → Stands source at (codes "_Pragma") → EndsBefore IsNameByte source (at + 7) → ((end : ℕ) → end ≤ length source → IsOperator source at end → ⊥) → NoPiece fresh source at
no_operator fresh source at within word whole none = no_piece
  where
    run : Run source at (at + 7)
    run = record { after = omega arith; within = within; run = names_stand (codes "_Pragma") source at refl word; stop = whole }

    no_piece : (form : Form) (end : ℕ) → IsPiece form fresh source at end → ⊥
    no_piece forms.Word end p = p.has.other (word, sym (runs_same source at (at + 7) end run (word_run source at end p.some p.within p.has)) ∙ refl)
    no_piece forms.Operator end p = none end p.within p.has
    no_piece forms.PrefixedQuote end p = absurd (omega (arith, prefixed_short source at end p.has, runs_same source at (at + 7) p.has.quote_at run (prefixed_run source at end p.within p.has)))
    no_piece other end p = clash other fresh source at end 1 (ap class word.0) refl refl p

pub longest_string : (fresh : Bool) (source : List ℕ) (at end : ℕ) → end ≤ length source → IsQuoted 34 source at end → IsLongest forms.String fresh source at end
longest_string fresh source at end within q = record { piece = record { some = omega (arith, q.ends); within = within; has = q }; longest = no_longer }
  where
    no_longer : (other : Form) (further : ℕ) → end < further → IsPiece other fresh source at further → ⊥
    no_longer forms.String further lt p = absurd (omega (arith, lt, quoted_same 34 source at end further q p.has))
    no_longer other further lt p = clash other fresh source at further 4 (ap class q.opens) refl refl p

pub longest_character : (fresh : Bool) (source : List ℕ) (at end : ℕ) → end ≤ length source → IsQuoted 39 source at end → at + 2 < end → IsLongest forms.Character fresh source at end
longest_character fresh source at end within q some = record { piece = record { some = omega (arith, q.ends); within = within; has = (q, some) }; longest = no_longer }
  where
    no_longer : (other : Form) (further : ℕ) → end < further → IsPiece other fresh source at further → ⊥
    no_longer forms.Character further lt p = absurd (omega (arith, lt, quoted_same 39 source at end further q p.has.0))
    no_longer other further lt p = clash other fresh source at further 3 (ap class q.opens) refl refl p

pub no_string : (fresh : Bool) (source : List ℕ) (at : ℕ) → slice_index source at ≡ 34 → ((end : ℕ) → end ≤ length source → IsQuoted 34 source at end → ⊥) → NoPiece fresh source at
no_string fresh source at first none = no_piece
  where
    no_piece : (form : Form) (end : ℕ) → IsPiece form fresh source at end → ⊥
    no_piece forms.String end p = none end p.within p.has
    no_piece other end p = clash other fresh source at end 4 (ap class first) refl refl p

pub no_character : (fresh : Bool) (source : List ℕ) (at : ℕ) → slice_index source at ≡ 39 → ((end : ℕ) → end ≤ length source → IsQuoted 39 source at end → at + 2 < end → ⊥) → NoPiece fresh source at
no_character fresh source at first none = no_piece
  where
    no_piece : (form : Form) (end : ℕ) → IsPiece form fresh source at end → ⊥
    no_piece forms.Character end p = none end p.within p.has.0 p.has.1
    no_piece other end p = clash other fresh source at end 3 (ap class first) refl refl p

abbrev pub slash_short : List ℕ → Bool
slash_short [] = true
slash_short (b ∷ bytes) = not (nat_eq b 47) || nat_le (length bytes) 1

pub short_slash : (text source : List ℕ) (at end : ℕ) → slash_short text ≡ true → Spans source at end text → slice_index source at ≡ 47 → end ≤ at + 2
short_slash [] source at end test spans first = omega (arith, spans.1)
short_slash (b ∷ bytes) source at end test spans first = omega (arith, spans.1, leb-true _ _ (short (nat_eq b 47) _ (eq-eqb b 47 (sym spans.0.0 ∙ first)) test))
  where
    short : (x y : Bool) → x ≡ true → (not x || y) ≡ true → y ≡ true
    short true y e h = h
    short false y e h = absurd (true≢false (sym e))

pub longest_comment : (fresh : Bool) (source : List ℕ) (at end : ℕ) → IsComment source at end → IsLongest forms.Comment fresh source at end
longest_comment fresh source at end c = record { piece = record { some = omega (arith, comment_after source at end c); within = c.0; has = c }; longest = no_longer }
  where
    first : slice_index source at ≡ 47
    first = comment_first source at end c

    no_longer : (other : Form) (further : ℕ) → end < further → IsPiece other fresh source at further → ⊥
    no_longer forms.Comment further lt p = absurd (omega (arith, lt, comment_same source at end further c p.has))
    no_longer forms.Directive further lt p = absurd (omega (arith, first, p.has.hash))
    no_longer forms.Number further lt p = elim p.has.first [ inl h ↦ absurd (omega (arith, first, h)) | inr h ↦ absurd (omega (arith, first, h.0)) ]
    no_longer forms.Punctuator further lt p = elim c.1 [
      | inl h ↦ p.has.no_comment h.begins
      | inr h ↦ let t = picked slash_short punctuators source at further refl p.has.text in absurd (omega (arith, lt, h.after, short_slash t.text source at further t.passes t.spans first))
    ]
    no_longer other further lt p = clash other fresh source at further 5 (ap class first) refl refl p

-- a line goes on from its number sign
pub line_from : (source : List ℕ) (at end : ℕ) → slice_index source at ≡ 35 → Each IsOnLine source (at + 1) end → Each IsOnLine source at end
line_from source at end hash line i after before = elim (three at i) [
  | inl e ↦ (λ k. omega (arith, hash, k, ap (slice_index source) e))
  | inr h ↦ elim h [ inl lt ↦ line i (omega arith) before | inr lt ↦ absurd (omega arith) ]
]

pub longest_directive : (fresh : Bool) (source : List ℕ) (at end : ℕ) → at < end → end ≤ length source → IsLine fresh source at end → IsLongest forms.Directive fresh source at end
longest_directive fresh source at end some within l = record { piece = record { some = some; within = within; has = l }; longest = no_longer }
  where
    no_longer : (other : Form) (further : ℕ) → end < further → IsPiece other fresh source at further → ⊥
    no_longer forms.Comment further lt p = absurd (omega (arith, l.hash, comment_first source at further p.has))
    no_longer forms.Directive further lt p = absurd (omega (arith, lt, run_same IsOnLine source at end further (omega (arith, some)) (omega (arith, p.some)) within p.within l.line l.whole p.has.line p.has.whole))
    no_longer forms.Number further lt p = elim p.has.first [ inl h ↦ absurd (omega (arith, l.hash, h)) | inr h ↦ absurd (omega (arith, l.hash, h.0)) ]
    no_longer forms.Punctuator further lt p = absurd (p.has.no_directive l.begins_line l.hash)
    no_longer other further lt p = clash other fresh source at further 5 (ap class l.hash) refl refl p

pub longest_punctuator : (fresh : Bool) (source : List ℕ) (at end : ℕ) → at < end → end ≤ length source → IsPunctuator fresh source at end → ((further : ℕ) → IsComment source at further → ⊥) → ((further : ℕ) → BeginsNumber source at further → ⊥) → ((further : ℕ) → further ≤ length source → SpansOne source at further punctuators → further ≤ end) → IsLongest forms.Punctuator fresh source at end
longest_punctuator fresh source at end some within q no_comment no_number most = record { piece = record { some = some; within = within; has = q }; longest = no_longer }
  where
    no_longer : (other : Form) (further : ℕ) → end < further → IsPiece other fresh source at further → ⊥
    no_longer forms.Comment further lt p = no_comment further p.has
    no_longer forms.Directive further lt p = absurd (q.no_directive p.has.begins_line p.has.hash)
    no_longer forms.Number further lt p = no_number further p.has.first
    no_longer forms.Punctuator further lt p = absurd (omega (arith, lt, most further p.within p.has.text))
    no_longer other further lt p = clash other fresh source at further 5 (punctuator_class source at end q.text) refl refl p

pub no_mark : (fresh : Bool) (source : List ℕ) (at : ℕ) → class (slice_index source at) ≡ 5 → (fresh ≡ true → slice_index source at ≢ 35) → ((further : ℕ) → IsComment source at further → ⊥) → ((further : ℕ) → BeginsNumber source at further → ⊥) → ((further : ℕ) → further ≤ length source → IsPunctuator fresh source at further → ⊥) → NoPiece fresh source at
no_mark fresh source at first no_line no_comment no_number none = no_piece
  where
    no_piece : (form : Form) (end : ℕ) → IsPiece form fresh source at end → ⊥
    no_piece forms.Comment end p = no_comment end p.has
    no_piece forms.Directive end p = no_line p.has.begins_line p.has.hash
    no_piece forms.Number end p = no_number end p.has.first
    no_piece forms.Punctuator end p = none end p.within p.has
    no_piece other end p = clash other fresh source at end 5 first refl refl p

-- a point, if any, with a digit behind it is no punctuator
abbrev pub point_alone : List ℕ → Bool
point_alone [] = true
point_alone (b ∷ []) = true
point_alone (b ∷ c ∷ bytes) = not (nat_eq b 46 && nat_eq (class c) 2)

pub alone_point : (text source : List ℕ) (at end : ℕ) → point_alone text ≡ true → Spans source at end text → slice_index source at ≡ 46 → IsDigit (slice_index source (at + 1)) → end ≤ at + 1
alone_point [] source at end test spans first digit = omega (arith, spans.1)
alone_point (b ∷ []) source at end test spans first digit = omega (arith, spans.1)
alone_point (b ∷ c ∷ bytes) source at end test spans first digit = absurd (clashing (nat_eq b 46) (nat_eq (class c) 2) (eq-eqb b 46 (sym spans.0.0 ∙ first)) (eq-eqb (class c) 2 (sym (ap class spans.0.1.0) ∙ digit_class _ digit)) test)
  where
    clashing : (x y : Bool) → x ≡ true → y ≡ true → not (x && y) ≡ true → ⊥
    clashing true true e f h = true≢false (sym h)
    clashing true false e f h = true≢false (sym f)
    clashing false y e f h = true≢false (sym e)

pub longest_number : (fresh : Bool) (source : List ℕ) (at end : ℕ) → at < end → end ≤ length source → IsNumber source at end → (end < length source → GoesOn source end → ⊥) → IsLongest forms.Number fresh source at end
longest_number fresh source at end some within n stop = elim n.first [ inl h ↦ record { piece = piece; longest = digit h } | inr h ↦ record { piece = piece; longest = point h.0 h.1 h.2 } ]
  where
    piece : IsPiece forms.Number fresh source at end
    piece = record { some = some; within = within; has = n }

    digit : IsDigit (slice_index source at) → (other : Form) (further : ℕ) → end < further → IsPiece other fresh source at further → ⊥
    digit first forms.Number further lt p = stop (omega (arith, p.within)) (p.has.goes_on end some lt)
    digit first other further lt p = clash other fresh source at further 2 (digit_class _ first) refl refl p

    point : slice_index source at ≡ 46 → IsDigit (slice_index source (at + 1)) → at + 1 < end → (other : Form) (further : ℕ) → end < further → IsPiece other fresh source at further → ⊥
    point first next after forms.Comment further lt p = absurd (omega (arith, first, comment_first source at further p.has))
    point first next after forms.Directive further lt p = absurd (omega (arith, first, p.has.hash))
    point first next after forms.Number further lt p = stop (omega (arith, p.within)) (p.has.goes_on end some lt)
    point first next after forms.Punctuator further lt p = let t = picked point_alone punctuators source at further refl p.has.text in absurd (omega (arith, lt, after, alone_point t.text source at further t.passes t.spans first next))
    point first next after other further lt p = clash other fresh source at further 5 (ap class first) refl refl p

-- a number that goes as far as it can
pub number_longest : (fresh : Bool) (source : List ℕ) (at end : ℕ) → at + 1 ≤ end → end ≤ length source → IsDigit (slice_index source at) ⊎ ((slice_index source at ≡ 46) × IsDigit (slice_index source (at + 1)) × (at + 1 < length source)) → ((i : ℕ) → at + 1 ≤ i → i < end → GoesOn source i) → (end < length source → GoesOn source end → ⊥) → IsLongest forms.Number fresh source at end
number_longest fresh source at end some within first goes_on stop = longest_number fresh source at end (omega arith) within (record { first = begins first; goes_on = λ i after before. goes_on i (omega arith) before }) stop
  where
    begins : IsDigit (slice_index source at) ⊎ ((slice_index source at ≡ 46) × IsDigit (slice_index source (at + 1)) × (at + 1 < length source)) → BeginsNumber source at end
    begins (inl h) = inl h
    begins (inr h) = inr (
      h.0,
      h.1,
      elim (three (at + 1) end) [
        | inl e ↦ absurd (stop (omega (arith, e, h.2)) (inl (inr (subst (λ n. IsDigit (slice_index source n)) e h.1))))
        | inr k ↦ elim k [ inl lt ↦ lt | inr lt ↦ absurd (omega arith) ]
      ],
    )

-- a run whose first byte is there has a byte
pub run_some : (P : ℕ → Type 0) (source : List ℕ) (at end : ℕ) → at < length source → P (slice_index source at) → at ≤ end → EndsBefore P source end → at < end
run_some P source at end inside first after stop = elim (three at end) [
  | inl e ↦ absurd (stop (omega (arith, e)) (subst (λ n. P (slice_index source n)) e first))
  | inr h ↦ elim h [ inl lt ↦ lt | inr lt ↦ absurd (omega arith) ]
]
