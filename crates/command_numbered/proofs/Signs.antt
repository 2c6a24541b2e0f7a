-- The longest punctuator with which a text begins is a piece, where no comment, directive or number begins.
use Rattle.std.proofs.Common.{◌≡◌, inl, inr, ℕ, ◌+◌, ◌-◌, ◌≤◌, Bool, false, nat_eq, List, ◌∷◌, ◌++◌, length, drop, take, Some, length-drop, refl, sym, ap, ◌∙◌, arith}
use Rattle.std.specs.Prelude.{slice_index}
use Rattle.std.proofs.lemmas.Bool.{eqb-false}
use Rattle.std.proofs.lemmas.List.{take_all}
use Rattle.c_lexer.specs.declared.pieces.Form.TheVariants as forms
use Rattle.c_lexer.specs.declared.pieces.Kind.{Kind}
use Rattle.c_lexer.specs.Cut.{StandsAt}
use Rattle.c_lexer.specs.Forms.{BeginsNumber, IsPunctuator, first_size, punctuators}
use Rattle.c_lexer.specs.Kinds.{sign_kind}
use Rattle.c_lexer.proofs.Comments.{comment_first}
use Rattle.c_lexer.proofs.FirstBytes.{class, digit_class, punctuator_class}
use Rattle.c_lexer.proofs.Longest.{longest_punctuator}
use Rattle.c_lexer.proofs.TextLemmas.{punctuator_longest, punctuator_spans}
use Rattle.command_numbered.proofs.Standing.{ends_inside, range_is, stands}

module _ (fresh : Bool) (source : List ℕ) (at : ℕ) (inside : at ≤ length source) (b : ℕ) (bytes rest : List ℕ) (there : drop at source ≡ (b ∷ bytes) ++ rest) (size : first_size ((b ∷ bytes) ++ rest) punctuators ≡ Some (length (b ∷ bytes)))
    (no_slash : nat_eq b 47 ≡ false) (no_point : nat_eq b 46 ≡ false) (no_hash : nat_eq b 35 ≡ false) where
  abbrev end : ℕ
  end = at + length (b ∷ bytes)

  found : first_size (take (length source - at) (drop at source)) punctuators ≡ Some (length (b ∷ bytes))
  found = ap (λ xs. first_size xs punctuators) (take_all (length source - at) (drop at source) (omega (arith, length-drop at source)) ∙ there) ∙ size

  first : slice_index source at ≡ b
  first = (stands source at inside (b ∷ bytes) rest there).0

  marks : class (slice_index source at) ≡ 5
  marks = punctuator_class source at end (punctuator_spans source at (length (b ∷ bytes)) inside found).0

  no_number : (further : ℕ) → BeginsNumber source at further → ⊥
  no_number further (inl h) = absurd (omega (arith, marks, digit_class _ h))
  no_number further (inr h) = eqb-false b 46 no_point (sym first ∙ h.0)

  is_sign : IsPunctuator fresh source at end
  is_sign = record {
    text = (punctuator_spans source at (length (b ∷ bytes)) inside found).0;
    no_comment = λ comment. eqb-false b 47 no_slash (sym first ∙ comment.0);
    no_directive = λ _ hash. eqb-false b 35 no_hash (sym first ∙ hash);
  }

  pub sign_stands : (kind : Kind) → sign_kind (b ∷ bytes) ≡ kind → StandsAt (record { form = forms.Punctuator; kind = kind; end = end; fresh = false }) fresh source at
  sign_stands kind is = record {
    longest = longest_punctuator fresh source at end (omega arith) (ends_inside source at inside (b ∷ bytes) rest there) is_sign
        (λ further comment. eqb-false b 47 no_slash (sym first ∙ comment_first source at further comment)) no_number
        (punctuator_longest source at (length (b ∷ bytes)) inside found);
    kind = sym (ap sign_kind (range_is source at inside (b ∷ bytes) rest there) ∙ is);
    line = refl;
  }
