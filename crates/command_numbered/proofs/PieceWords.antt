-- A text of letters and digits is a piece where none of them and no quote follows it.
use Rattle.std.proofs.Common.{◌≡◌, ◌⊎◌, inl, inr, ℕ, ◌+◌, ◌≤◌, Bool, true, false, ◌||◌, nat_eq, List, ◌∷◌, ◌++◌, length, drop, refl, sym, ap, subst, ◌∙◌, arith}
use Rattle.std.specs.Prelude.{slice_index}
use Rattle.std.proofs.lemmas.Bool.{eqb-true, eqb-false, or_cases}
use Rattle.std.proofs.lemmas.Bool.Decides.{nat_tests}
use Rattle.c_tree.specs.Bytes.{IsLetter, IsNameByte, is_letter}
use Rattle.c_lexer.specs.declared.pieces.Form.TheVariants as forms
use Rattle.c_lexer.specs.declared.pieces.Kind.{Kind}
use Rattle.c_lexer.specs.Cut.{StandsAt}
use Rattle.c_lexer.specs.Forms.{IsWord}
use Rattle.c_lexer.specs.Kinds.{word_kind}
use Rattle.c_lexer.proofs.FirstBytes.{are_names, class, names_stand, no_name}
use Rattle.c_lexer.proofs.Longest.{longest_word}
use Rattle.command_numbered.proofs.Standing.{ends_inside, next_is, range_is, stands}

-- a blank or a mark
abbrev pub ends_word : (class : ℕ) → Bool
ends_word c = nat_eq c 0 || nat_eq c 5

pub record Ends (b : ℕ) : Type 0 where
  pub apart : IsNameByte b → ⊥
  pub unquoted : (b ≡ 39) ⊎ (b ≡ 34) → ⊥

pub ends : (b : ℕ) → ends_word (class b) ≡ true → Ends b
ends b h = elim (or_cases (nat_eq (class b) 0) (nat_eq (class b) 5) h) [ inl k ↦ of 0 (eqb-true (class b) 0 k) refl refl refl refl | inr k ↦ of 5 (eqb-true (class b) 5 k) refl refl refl refl ]
  where
    of : (n : ℕ) → class b ≡ n → nat_eq n 1 ≡ false → nat_eq n 2 ≡ false → nat_eq n 3 ≡ false → nat_eq n 4 ≡ false → Ends b
    of n e one two three four = record {
      apart = λ k. no_name b n e one two k;
      unquoted = λ k. elim k [ inl q ↦ eqb-false n 3 three (sym e ∙ ap class q) | inr q ↦ eqb-false n 4 four (sym e ∙ ap class q) ];
    }

pub letter : (b : ℕ) → is_letter b ≡ true → IsLetter b
letter b h = grind (arith, nat_tests)

module _ (fresh : Bool) (source : List ℕ) (at : ℕ) (inside : at ≤ length source) (b : ℕ) (bytes rest : List ℕ) (there : drop at source ≡ (b ∷ bytes) ++ rest) where
  abbrev end : ℕ
  end = at + length (b ∷ bytes)

  is_word : IsLetter b → nat_eq b 95 ≡ false → are_names (b ∷ bytes) ≡ true → Ends (slice_index rest 0) → IsWord source at end
  is_word first other names stop = record {
    first = subst IsLetter (sym (stands source at inside (b ∷ bytes) rest there).0) first;
    word = names_stand (b ∷ bytes) source at names (stands source at inside (b ∷ bytes) rest there);
    whole = λ _ h. stop.apart (subst IsNameByte (next_is source at (b ∷ bytes) rest there) h);
    other = λ spans. eqb-false b 95 other (sym (stands source at inside (b ∷ bytes) rest there).0 ∙ spans.0.0);
  }

  pub word_stands : IsLetter b → nat_eq b 95 ≡ false → are_names (b ∷ bytes) ≡ true → Ends (slice_index rest 0) → (kind : Kind) → word_kind (b ∷ bytes) ≡ kind
      → StandsAt (record { form = forms.Word; kind = kind; end = end; fresh = false }) fresh source at
  word_stands first other names stop kind is = record {
    longest = longest_word fresh source at end (omega arith) (ends_inside source at inside (b ∷ bytes) rest there) (is_word first other names stop)
        (λ _ quote. stop.unquoted (subst (λ n. (n ≡ 39) ⊎ (n ≡ 34)) (next_is source at (b ∷ bytes) rest there) quote));
    kind = sym (ap word_kind (range_is source at inside (b ∷ bytes) rest there) ∙ is);
    line = refl;
  }
