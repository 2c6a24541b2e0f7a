-- What form a piece may have by its first byte.
use Rattle.std.proofs.Common.{◌≡◌, ◌≢◌, ℕ, ◌+◌, ◌≤◌, ◌⊎◌, inl, inr, Bool, true, false, ◌&&◌, ◌||◌, nat_le, nat_eq, if◌then◌else◌, List, [], ◌∷◌, length, refl, sym, ap, subst, ◌∙◌, arith}
use Rattle.std.specs.Prelude.{slice_index}
use Rattle.std.proofs.lemmas.Bool.{true≢false, eqb-false, eq-eqb}
use Rattle.std.proofs.lemmas.Bool.Decides.{nat_tests}
use Rattle.c_tree.specs.Bytes.{IsDigit, IsLetter, IsNameByte, IsBlankByte, Each, Stands, Spans, SpansOne}
use Rattle.c_lexer.specs.declared.pieces.Form.{Form}
use Rattle.c_lexer.specs.declared.pieces.Form.TheVariants as forms
use Rattle.c_lexer.specs.Forms.{IsPiece, IsPrefixed, prefixes, punctuators}
use Rattle.c_lexer.proofs.TextLemmas.{and_parts, picked}
use Rattle.c_lexer.proofs.Comments.{comment_first}

-- 0 blank, 1 letter, 2 digit, 3 quote, 4 double quote, 5 other
abbrev pub class : ℕ → ℕ
class b =
    if (nat_le 9 b && nat_le b 13) || nat_eq b 32 then 0
    else (if (nat_le 65 b && nat_le b 90) || ((nat_le 97 b && nat_le b 122) || nat_eq b 95) then 1
    else (if nat_le 48 b && nat_le b 57 then 2 else (if nat_eq b 39 then 3 else (if nat_eq b 34 then 4 else 5))))

abbrev pub form_class : Form → ℕ
form_class forms.Blank = 0
form_class forms.Comment = 5
form_class forms.Directive = 5
form_class forms.Operator = 1
form_class forms.Word = 1
form_class forms.Number = 2
form_class forms.Character = 3
form_class forms.String = 4
form_class forms.PrefixedQuote = 1
form_class forms.Punctuator = 5

pub blank_class : (b : ℕ) → IsBlankByte b → class b ≡ 0
blank_class b h = grind (arith, nat_tests)

pub letter_class : (b : ℕ) → IsLetter b → class b ≡ 1
letter_class b h = grind (arith, nat_tests)

pub digit_class : (b : ℕ) → IsDigit b → class b ≡ 2
digit_class b h = grind (arith, nat_tests)

abbrev first_is : ℕ → List ℕ → Bool
first_is n [] = false
first_is n (b ∷ bytes) = nat_eq (class b) n

first_class : (n : ℕ) (source : List ℕ) (at end : ℕ) (text : List ℕ) → first_is n text ≡ true → Spans source at end text → class (slice_index source at) ≡ n
first_class n source at end [] test spans = absurd (cc)
first_class n source at end (b ∷ bytes) test spans = ap class spans.0.0 ∙ grind (arith, nat_tests, test)

pub punctuator_class : (source : List ℕ) (at end : ℕ) → SpansOne source at end punctuators → class (slice_index source at) ≡ 5
punctuator_class source at end h = let p = picked (first_is 5) punctuators source at end refl h in first_class 5 source at end p.text p.passes p.spans

pub prefixed_class : (source : List ℕ) (at end : ℕ) → IsPrefixed source at end → class (slice_index source at) ≡ 1
prefixed_class source at end h = let p = picked (first_is 1) prefixes source at h.quote_at refl h.prefix in first_class 1 source at h.quote_at p.text p.passes p.spans

abbrev pub is_number : Form → Bool
is_number forms.Number = true
is_number _ = false

-- the class of the first byte of a piece, unless a number begins with a point
pub class_of : (form : Form) (fresh : Bool) (source : List ℕ) (at end : ℕ) → IsPiece form fresh source at end → (class (slice_index source at) ≡ form_class form) ⊎ ((class (slice_index source at) ≡ 5) × (is_number form ≡ true))
class_of forms.Blank fresh source at end p = inl (blank_class _ (p.has at (omega arith) p.some))
class_of forms.Comment fresh source at end p = inl (ap class (comment_first source at end p.has))
class_of forms.Directive fresh source at end p = inl (ap class p.has.hash)
class_of forms.Operator fresh source at end p = inl (ap class p.has.word.0)
class_of forms.Word fresh source at end p = inl (letter_class _ p.has.first)
class_of forms.Number fresh source at end p = elim p.has.first [ inl h ↦ inl (digit_class _ h) | inr h ↦ inr (ap class h.0, refl) ]
class_of forms.Character fresh source at end p = inl (ap class p.has.0.opens)
class_of forms.String fresh source at end p = inl (ap class p.has.opens)
class_of forms.PrefixedQuote fresh source at end p = inl (prefixed_class source at end p.has)
class_of forms.Punctuator fresh source at end p = inl (punctuator_class source at end p.has.text)

-- no piece of that form begins with a byte of that class
pub clash : (form : Form) (fresh : Bool) (source : List ℕ) (at end n : ℕ) → class (slice_index source at) ≡ n → nat_eq n (form_class form) ≡ false → (nat_eq n 5 && is_number form) ≡ false → IsPiece form fresh source at end → ⊥
clash form fresh source at end n e differ other p = elim (class_of form fresh source at end p) [
  | inl h ↦ eqb-false n (form_class form) differ (sym e ∙ h)
  | inr h ↦ true≢false (sym (both (eq-eqb n 5 (sym e ∙ h.0)) h.1) ∙ other)
]
  where
    both : nat_eq n 5 ≡ true → is_number form ≡ true → (nat_eq n 5 && is_number form) ≡ true
    both a b = rw a b

abbrev is_name : ℕ → Bool
is_name b = (nat_le 65 b && nat_le b 90) || ((nat_le 97 b && nat_le b 122) || (nat_eq b 95 || (nat_le 48 b && nat_le b 57)))

name_byte : (b : ℕ) → is_name b ≡ true → IsNameByte b
name_byte b h = grind (arith, nat_tests)

name_class : (b : ℕ) → IsNameByte b → (class b ≡ 1) ⊎ (class b ≡ 2)
name_class b (inl h) = inl (letter_class b h)
name_class b (inr h) = inr (digit_class b h)

-- a byte of another class is none of a name
pub no_name : (b n : ℕ) → class b ≡ n → nat_eq n 1 ≡ false → nat_eq n 2 ≡ false → IsNameByte b → ⊥
no_name b n e one two h = elim (name_class b h) [ inl k ↦ eqb-false n 1 one (sym e ∙ k) | inr k ↦ eqb-false n 2 two (sym e ∙ k) ]

abbrev pub are_names : List ℕ → Bool
are_names [] = true
are_names (b ∷ bytes) = is_name b && are_names bytes

-- a text of letters and digits stands there
pub names_stand : (text source : List ℕ) (at : ℕ) → are_names text ≡ true → Stands source at text → Each IsNameByte source at (at + length text)
names_stand [] source at e h i after before = absurd (omega (arith, after, before))
names_stand (b ∷ text) source at e h i after before = elim (here i after) [
  | inl k ↦ subst IsNameByte (sym h.0 ∙ ap (slice_index source) (sym k)) (name_byte b (and_parts _ _ e).0)
  | inr k ↦ names_stand text source (at + 1) (and_parts _ _ e).1 h.1 i k (omega (arith, before))
]
  where
    here : (j : ℕ) → at ≤ j → (j ≡ at) ⊎ (at + 1 ≤ j)
    here j le = grind arith

-- a byte that begins none of these has the class of the other marks
pub other_class : (b : ℕ) → (IsBlankByte b → ⊥) → (IsLetter b → ⊥) → (IsDigit b → ⊥) → b ≢ 39 → b ≢ 34 → class b ≡ 5
other_class b blank letter digit quote double = grind (arith, nat_tests)
