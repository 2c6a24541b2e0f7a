-- The pragma operator with a loop bound is a piece.
use Rattle.std.proofs.Common.{◌≡◌, ℕ, zero, suc, ◌+◌, ◌<◌, ◌≤◌, Bool, false, nat_eq, if◌then◌else◌, List, [], ◌∷◌, ◌++◌, length, drop, codes, length-drop, refl, sym, ap, subst, ◌∙◌, arith}
use Rattle.std.specs.Prelude.{slice_index_or}
use Rattle.std.specs.List.{IsAmong}
use Rattle.std.proofs.lemmas.Bool.{eq-eqb, or_parts, true≢false}
use Rattle.c_tree.specs.Bytes.{Stands}
use Rattle.c_tree.specs.Pragmas.{Blanks, IsOperator, before_quote, behind_blanks, behind_hash, from_close, from_quote, from_string, from_string_end, pragma_text, string_text, without_return}
use Rattle.c_tree.specs.declared.token.TokenKind.TheVariants as tokens
use Rattle.c_lexer.specs.declared.pieces.Form.TheVariants as forms
use Rattle.c_lexer.specs.declared.pieces.Kind.TheVariants as kinds
use Rattle.c_lexer.specs.Cut.{StandsAt}
use Rattle.c_lexer.specs.Kinds.{pragma_kind}
use Rattle.c_lexer.proofs.Longest.{longest_operator}
use Rattle.command_numbered.proofs.Blanks.{has_feed}
use Rattle.command_numbered.proofs.Standing.{ends_inside, rest_is, stands}

-- the text of a loop bound of ten
abbrev pub tens : List ℕ
tens = codes "loopbound min 10 max 10"

abbrev behind_word : List ℕ
behind_word = codes "(\"loopbound min 10 max 10\")"

abbrev pub pragma : List ℕ
pragma = codes "_Pragma(\"loopbound min 10 max 10\")"

none_at : (bytes : List ℕ) → has_feed bytes ≡ false → (i : ℕ) → i < length bytes → 10 ≡ slice_index_or bytes i 10 → ⊥
none_at [] h i lt e = omega (arith, lt)
none_at (b ∷ bytes) h zero lt e = true≢false (sym (eq-eqb b 10 (sym e)) ∙ (or_parts (nat_eq b 10) (has_feed bytes) h).0)
none_at (b ∷ bytes) h (suc i) lt e = none_at bytes (or_parts (nat_eq b 10) (has_feed bytes) h).1 i (omega (arith, lt)) e

module _ (fresh : Bool) (source : List ℕ) (at : ℕ) (inside : at ≤ length source) (rest : List ℕ) (there : drop at source ≡ pragma ++ rest) where
  abbrev end : ℕ
  end = at + 34

  own : Stands source at pragma
  own = stands source at inside pragma rest there

  within : end ≤ length source
  within = ends_inside source at inside pragma rest there

  open_is : drop (at + 7) source ≡ behind_word ++ rest
  open_is = rest_is source at (codes "_Pragma") (behind_word ++ rest) there

  string_is : from_string source at ≡ codes "\"loopbound min 10 max 10\")" ++ rest
  string_is = ap (λ xs. behind_blanks Blanks (drop 1 (behind_blanks Blanks xs))) open_is

  string_end_is : from_string_end source at ≡ codes "\")" ++ rest
  string_end_is = ap (λ xs. from_quote false (drop 1 xs)) string_is

  close_is : from_close source at ≡ codes ")" ++ rest
  close_is = ap (λ xs. behind_blanks Blanks (drop 1 xs)) string_end_is

  text_is : string_text source at ≡ tens
  text_is = ap (λ xs. before_quote false (drop 1 xs)) string_is

  long : length source ≡ end + length rest
  long = let e = ap length there in omega (arith, e, length-drop at source, within)

  is_operator : IsOperator source at end
  is_operator = record {
    word = stands source at inside (codes "_Pragma") (behind_word ++ rest) there;
    opens = subst (λ xs. Stands (behind_blanks Blanks xs) 0 (codes "(")) (sym open_is) (refl, tt);
    string = subst (λ xs. Stands xs 0 (codes "\"")) (sym string_is) (refl, tt);
    line = λ among. let among_tens = subst (λ xs. IsAmong xs 10) text_is among in none_at tens refl among_tens.0 among_tens.1.0 among_tens.1.1;
    string_ends = subst (λ xs. Stands xs 0 (codes "\"")) (sym string_end_is) (refl, tt);
    closes = subst (λ xs. Stands xs 0 (codes ")")) (sym close_is) (refl, tt);
    ends = let e : length (from_close source at) ≡ suc (length rest) = ap length close_is in omega (arith, e, long);
  }

  pub pragma_stands : StandsAt (record { form = forms.Operator; kind = kinds.Token tokens.LoopBound; end = end; fresh = false }) fresh source at
  pragma_stands = record {
    longest = longest_operator fresh source at end within is_operator;
    kind = sym (ap pragma_kind text_is);
    line = refl;
  }

  pub pragma_says : pragma_text source at end ≡ tens
  pragma_says = ap (λ b. if nat_eq b 35 then without_return (drop 6 (behind_hash source at end)) else string_text source at) own.0 ∙ text_is
