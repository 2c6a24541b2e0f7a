-- A piece that is fine before what follows it stands where its bytes stand, and says what it says.
use Rattle.std.proofs.Common.{◌≡◌, inl, inr, ℕ, ◌+◌, ◌<◌, ◌≤◌, Bool, true, false, ◌&&◌, ◌||◌, not, nat_eq, nat_le, nat_lt, if◌then◌else◌, List, [], ◌∷◌, ◌++◌, length, drop, codes, Option, Some, None, refl, sym, ap, subst, ◌∙◌, arith}
use Rattle.std.specs.Prelude.{slice_index}
use Rattle.std.proofs.lemmas.Bool.{and_parts, eqb-false, eqb-true, leb-true, ltb-true, ne_eqb, not-true, true≢false, eq-eqb}
use Rattle.std.proofs.lemmas.Bool.Decides.{nat_tests}
use Rattle.c_tree.specs.Bytes.{IsDigit, IsNameByte}
use Rattle.c_tree.specs.Constants.{base_of, digit, is_hexadecimal}
use Rattle.c_tree.specs.Said.{Plain, Name, Integer, Pragma, lexeme}
use Rattle.c_tree.specs.Words.{text}
use Rattle.c_tree.specs.declared.token.TokenKind.{TokenKind}
use Rattle.c_tree.specs.declared.token.TokenKind.TheVariants as tokens
use Rattle.c_lexer.specs.declared.pieces.Form.TheVariants as forms
use Rattle.c_lexer.specs.declared.pieces.Kind.{Kind}
use Rattle.c_lexer.specs.declared.pieces.Kind.TheVariants as kinds
use Rattle.c_lexer.specs.Cut.{StandsAt}
use Rattle.c_lexer.specs.Forms.{first_size, punctuators}
use Rattle.c_lexer.specs.Kinds.{sign_kind, word_kind}
use Rattle.c_lexer.proofs.FirstBytes.{are_names, blank_class, class}
use Rattle.command_numbered.proofs.Blanks.{are_blanks, blanks_stand}
use Rattle.command_numbered.proofs.Numerals.{Stops, numeral_stands, says, spelled}
use Rattle.command_numbered.proofs.Pragmas.{pragma_says, pragma_stands}
use Rattle.command_numbered.proofs.Signs.{sign_stands}
use Rattle.command_numbered.proofs.Standing.{Have, next_is, range_is, stands}
use Rattle.command_numbered.proofs.PieceWords.{Ends, ends, ends_word, letter, word_stands}
use Rattle.command_numbered.proofs.Names.{name}
use Rattle.command_numbered.proofs.Trees.{int}
use Rattle.command_numbered.proofs.Bits.{Bit, Gap, Key, Sign, Word, Numeral, Nought, Own, Index, Bound, IsLow, are_digits, bytes_of, ends_number, fine, has_size, is_key, is_name_kind, is_name_token, is_numeral_text, is_sign, is_sign_text, is_word_text, lexeme_of, piece_of, token_of}
use Rattle.command_numbered.proofs.Decimals.{IsDecimal, decimal_is}

-- what the tests say

key_kind : (kind : TokenKind) → is_key kind ≡ true → word_kind (text kind) ≡ kinds.Token kind
key_kind tokens.For h = refl
key_kind tokens.Int h = refl
key_kind tokens.Return h = refl
key_kind tokens.Void h = refl
key_kind other h = absurd (true≢false (sym h))

key_says : (kind : TokenKind) → is_key kind ≡ true → (source : List ℕ) (at end : ℕ) → lexeme kind source at end ≡ Plain kind
key_says tokens.For h source at end = refl
key_says tokens.Int h source at end = refl
key_says tokens.Return h source at end = refl
key_says tokens.Void h source at end = refl
key_says other h source at end = absurd (true≢false (sym h))

kind_signs : (kind : TokenKind) → is_sign kind ≡ true → sign_kind (text kind) ≡ kinds.Token kind
kind_signs tokens.LeftParen h = refl
kind_signs tokens.RightParen h = refl
kind_signs tokens.LeftBrace h = refl
kind_signs tokens.RightBrace h = refl
kind_signs tokens.PlusPlus h = refl
kind_signs tokens.Star h = refl
kind_signs tokens.Plus h = refl
kind_signs tokens.Percent h = refl
kind_signs tokens.LessThan h = refl
kind_signs tokens.Semicolon h = refl
kind_signs tokens.Equal h = refl
kind_signs other h = absurd (true≢false (sym h))

sign_says : (kind : TokenKind) → is_sign kind ≡ true → (source : List ℕ) (at end : ℕ) → lexeme kind source at end ≡ Plain kind
sign_says tokens.LeftParen h source at end = refl
sign_says tokens.RightParen h source at end = refl
sign_says tokens.LeftBrace h source at end = refl
sign_says tokens.RightBrace h source at end = refl
sign_says tokens.PlusPlus h source at end = refl
sign_says tokens.Star h source at end = refl
sign_says tokens.Plus h source at end = refl
sign_says tokens.Percent h source at end = refl
sign_says tokens.LessThan h source at end = refl
sign_says tokens.Semicolon h source at end = refl
sign_says tokens.Equal h source at end = refl
sign_says other h source at end = absurd (true≢false (sym h))

name_token : (kind : TokenKind) → is_name_token kind ≡ true → kind ≡ tokens.Name
name_token tokens.Name h = refl
name_token other h = absurd (true≢false (sym h))

name_kind : (kind : Kind) → is_name_kind kind ≡ true → kind ≡ kinds.Token tokens.Name
name_kind (kinds.Token kind) h = ap (λ k. kinds.Token k) (name_token kind h)
name_kind other h = absurd (true≢false (sym h))

size_is : (o : Option ℕ) (n : ℕ) → has_size o n ≡ true → o ≡ Some n
size_is None n h = absurd (true≢false (sym h))
size_is (Some m) n h = ap Some (eqb-true m n h)

digit_byte : (b : ℕ) → (nat_le 48 b && nat_le b 57) ≡ true → IsDigit b
digit_byte b h = grind (arith, nat_tests)

digits_have : (bytes : List ℕ) → are_digits bytes ≡ true → Have IsDigit bytes
digits_have [] h = tt
digits_have (b ∷ bytes) h = let p = and_parts (nat_le 48 b && nat_le b 57) (are_digits bytes) h in (digit_byte b p.0, digits_have bytes p.1)

digit_ten : (b : ℕ) → IsDigit b → digit b < 10
digit_ten b h = grind (arith, nat_tests)

have_tens : (bytes : List ℕ) → Have IsDigit bytes → Have (λ d. digit d < 10) bytes
have_tens [] h = tt
have_tens (b ∷ bytes) h = (digit_ten b h.0, have_tens bytes h.1)

digit_name : (b : ℕ) → IsDigit b → are_names (b ∷ []) ≡ true
digit_name b h = grind (arith, nat_tests)

digits_names : (bytes : List ℕ) → Have IsDigit bytes → are_names bytes ≡ true
digits_names [] h = refl
digits_names (b ∷ bytes) h = joined _ _ (digit_name b h.0) (digits_names bytes h.1)
  where
    joined : (x y : Bool) → (x && true) ≡ true → y ≡ true → (x && y) ≡ true
    joined true y e f = f
    joined false y e f = e

pub stops : (b : ℕ) → ends_word (class b) ≡ true → ends_number b ≡ true → Stops b
stops b word number =
    let p = and_parts (not (nat_eq b 46)) (not (nat_eq b 43) && not (nat_eq b 45)) number in
    let q = and_parts (not (nat_eq b 43)) (not (nat_eq b 45)) p.1 in
    record {
      apart = (ends b word).apart;
      no_point = eqb-false b 46 (not-true (nat_eq b 46) p.0);
      no_sign = λ h. elim h [ inl e ↦ eqb-false b 43 (not-true (nat_eq b 43) q.0) e | inr e ↦ eqb-false b 45 (not-true (nat_eq b 45) q.1) e ];
    }

-- what a token says
abbrev pub IsSaid : Bit → (source : List ℕ) (at : ℕ) → Type 0
IsSaid (Gap bytes) source at = Unit {0}
IsSaid b source at = lexeme (token_of b) source at (at + length (bytes_of b)) ≡ lexeme_of b

pub record Standing (b : Bit) (fresh : Bool) (source : List ℕ) (at : ℕ) : Type 0 where
  pub cuts : StandsAt (piece_of b fresh at) fresh source at
  pub said : IsSaid b source at

module _ (fresh : Bool) (source : List ℕ) (at : ℕ) (inside : at ≤ length source) (rest : List ℕ) where
  word_text : (bytes : List ℕ) → drop at source ≡ bytes ++ rest → is_word_text bytes ≡ true → Ends (slice_index rest 0) → (kind : Kind) → word_kind bytes ≡ kind
      → StandsAt (record { form = forms.Word; kind = kind; end = at + length bytes; fresh = false }) fresh source at
  word_text [] there test stop kind is = absurd (true≢false (sym test))
  word_text (b ∷ bytes) there test stop kind is =
      let p = and_parts _ _ test in
      let q = and_parts (not (nat_eq b 95)) (are_names (b ∷ bytes)) p.1 in
      word_stands fresh source at inside b bytes rest there (letter b p.0) (not-true (nat_eq b 95) q.0) q.1 stop kind is

  sign_text : (bytes : List ℕ) → drop at source ≡ bytes ++ rest → is_sign_text bytes ≡ true → first_size (bytes ++ rest) punctuators ≡ Some (length bytes) → (kind : Kind) → sign_kind bytes ≡ kind
      → StandsAt (record { form = forms.Punctuator; kind = kind; end = at + length bytes; fresh = false }) fresh source at
  sign_text [] there test size kind is = absurd (true≢false (sym test))
  sign_text (b ∷ bytes) there test size kind is =
      let p = and_parts (not (nat_eq b 47)) (not (nat_eq b 46) && not (nat_eq b 35)) test in
      let q = and_parts (not (nat_eq b 46)) (not (nat_eq b 35)) p.1 in
      sign_stands fresh source at inside b bytes rest there size (not-true (nat_eq b 47) p.0) (not-true (nat_eq b 46) q.0) (not-true (nat_eq b 35) q.1) kind is

  -- a number in base ten
  pub record Counted (bytes : List ℕ) (value : ℕ) : Type 0 where
    pub counts : StandsAt (record { form = forms.Number; kind = kinds.Token tokens.Number; end = at + length bytes; fresh = false }) fresh source at
    pub is : lexeme tokens.Number source at (at + length bytes) ≡ Integer (int value)

  in_tens : (b : ℕ) (bytes : List ℕ) (value : ℕ) → drop at source ≡ (b ∷ bytes) ++ rest → Have IsDigit (b ∷ bytes) → nat_eq b 48 ≡ false → spelled 10 0 (b ∷ bytes) ≡ value → value ≤ 2147483647 → Stops (slice_index rest 0) → Counted (b ∷ bytes) value
  in_tens b bytes value there digits no_zero spells low stop =
      let end = at + length (b ∷ bytes) in
      let zero : nat_eq (slice_index source at) 48 ≡ false = ap (λ n. nat_eq n 48) (stands source at inside (b ∷ bytes) rest there).0 ∙ no_zero in
      let hexadecimal : is_hexadecimal source at end ≡ false = ap (λ t. t && (nat_eq (slice_index source (at + 1)) 120 || nat_eq (slice_index source (at + 1)) 88) && nat_le (at + 2) end) zero in
      let base : base_of source at end ≡ 10 = λ i. if hexadecimal i then 16 else (if zero i then 8 else 10) in
      record {
        counts = numeral_stands fresh source at inside b bytes rest there digits stop 10 value hexadecimal base spells low (omega arith) (have_tens (b ∷ bytes) digits);
        is = ap Integer (says fresh source at inside b bytes rest there digits stop 10 value hexadecimal base spells low (omega arith) (have_tens (b ∷ bytes) digits));
      }

  numeral_text : (bytes : List ℕ) (value : ℕ) → drop at source ≡ bytes ++ rest → is_numeral_text bytes value ≡ true → Stops (slice_index rest 0) → Counted bytes value
  numeral_text [] value there test stop = absurd (true≢false (sym test))
  numeral_text (b ∷ bytes) value there test stop =
      let p = and_parts (not (nat_eq b 48)) _ test in
      let q = and_parts (are_digits (b ∷ bytes)) _ p.1 in
      let r = and_parts (nat_eq (spelled 10 0 (b ∷ bytes)) value) (nat_le value 2147483647) q.1 in
      in_tens b bytes value there (digits_have (b ∷ bytes) q.0) (not-true (nat_eq b 48) p.0) (eqb-true _ _ r.0) (leb-true _ _ r.1) stop

  index : (i : ℕ) → (d : IsDecimal i) → i ≤ 100 → (bytes : List ℕ) → bytes ≡ d.first ∷ d.rest → drop at source ≡ bytes ++ rest → Stops (slice_index rest 0) → Counted bytes i
  index i d low bytes e there stop =
      subst (λ xs. Counted xs i) (sym e) (in_tens d.first d.rest i (there ∙ ap (λ xs. xs ++ rest) e) d.digits d.no_zero d.spells (omega (arith, low)) stop)

  nought : drop at source ≡ codes "0" ++ rest → Stops (slice_index rest 0) → Counted (codes "0") 0
  nought there stop =
      let zero : nat_eq (slice_index source at) 48 ≡ true = eq-eqb _ _ (stands source at inside (codes "0") rest there).0 in
      let behind = next_is source at (codes "0") rest there in
      let no_x : nat_eq (slice_index source (at + 1)) 120 ≡ false = ap (λ n. nat_eq n 120) behind ∙ ne_eqb _ _ (λ e. stop.apart (subst IsNameByte (sym e) (inl (inr (inl (omega arith, omega arith)))))) in
      let no_X : nat_eq (slice_index source (at + 1)) 88 ≡ false = ap (λ n. nat_eq n 88) behind ∙ ne_eqb _ _ (λ e. stop.apart (subst IsNameByte (sym e) (inl (inl (omega arith, omega arith))))) in
      let hexadecimal : is_hexadecimal source at (at + 1) ≡ false = (λ i. zero i && (no_x i || no_X i) && nat_le (at + 2) (at + 1)) in
      let base : base_of source at (at + 1) ≡ 8 = λ i. if hexadecimal i then 16 else (if zero i then 8 else 10) in
      let digits : Have IsDigit (codes "0") = ((omega arith, omega arith), tt) in
      record {
        counts = numeral_stands fresh source at inside 48 [] rest there digits stop 8 0 hexadecimal base refl (omega arith) (omega arith) (omega arith, tt);
        is = ap Integer (says fresh source at inside 48 [] rest there digits stop 8 0 hexadecimal base refl (omega arith) (omega arith) (omega arith, tt));
      }

  own_kind : (i : ℕ) → IsDecimal i → word_kind (name i) ≡ kinds.Token tokens.Name
  own_kind i d = ap (λ xs. word_kind (102 ∷ xs)) d.is ∙ of d.first d.rest (ne_eqb _ _ (λ e. omega (arith, e, d.digits.0))) (ne_eqb _ _ (λ e. omega (arith, e, d.digits.0)))
    where
      of : (b : ℕ) (bytes : List ℕ) → nat_eq b 111 ≡ false → nat_eq b 108 ≡ false → word_kind (102 ∷ b ∷ bytes) ≡ kinds.Token tokens.Name
      of b bytes no_o no_l = rw no_o (rw no_l refl)

  own_word : (i : ℕ) → IsDecimal i → is_word_text (name i) ≡ true
  own_word i d = ap (λ xs. are_names xs) d.is ∙ digits_names (d.first ∷ d.rest) d.digits

  pub bit_stands : (b : Bit) → drop at source ≡ bytes_of b ++ rest → (c : ℕ) → class (slice_index rest 0) ≡ c → fine b c rest ≡ true → IsLow b → Standing b fresh source at
  bit_stands (Gap bytes) there c is test low =
      let p = and_parts (nat_lt 0 (length bytes)) _ test in
      let q = and_parts (are_blanks bytes) (not (nat_eq c 0)) p.1 in
      record { cuts = blanks_stand fresh source at inside bytes rest there (ltb-true 0 (length bytes) p.0) q.0 (λ h. eqb-false c 0 (not-true (nat_eq c 0) q.1) (sym is ∙ blank_class _ h)); said = tt }
  bit_stands (Key kind) there c is test low =
      let p = and_parts (is_key kind) _ test in
      let q = and_parts (is_word_text (text kind)) (ends_word c) p.1 in
      record { cuts = word_text (text kind) there q.0 (ends _ (ap ends_word is ∙ q.1)) (kinds.Token kind) (key_kind kind p.0); said = key_says kind p.0 source at _ }
  bit_stands (Sign kind) there c is test low =
      let p = and_parts (is_sign kind) _ test in
      let q = and_parts (is_sign_text (text kind)) _ p.1 in
      record { cuts = sign_text (text kind) there q.0 (size_is (first_size (text kind ++ rest) punctuators) (length (text kind)) q.1) (kinds.Token kind) (kind_signs kind p.0); said = sign_says kind p.0 source at _ }
  bit_stands (Word bytes) there c is test low =
      let p = and_parts (is_word_text bytes) _ test in
      let q = and_parts (is_name_kind (word_kind bytes)) (ends_word c) p.1 in
      record { cuts = word_text bytes there p.0 (ends _ (ap ends_word is ∙ q.1)) (kinds.Token tokens.Name) (name_kind (word_kind bytes) q.0); said = ap Name (range_is source at inside bytes rest there) }
  bit_stands (Numeral bytes value) there c is test low =
      let p = and_parts (is_numeral_text bytes value) _ test in
      let q = and_parts (ends_word c) (ends_number (slice_index rest 0)) p.1 in
      let n = numeral_text bytes value there p.0 (stops _ (ap ends_word is ∙ q.0) q.1) in
      record { cuts = n.counts; said = n.is }
  bit_stands Nought there c is test low =
      let q = and_parts (ends_word c) (ends_number (slice_index rest 0)) test in
      let n = nought there (stops _ (ap ends_word is ∙ q.0) q.1) in
      record { cuts = n.counts; said = n.is }
  bit_stands (Own i) there c is test low =
      let d = decimal_is i low.0 low.1 in
      record { cuts = word_text (name i) there (own_word i d) (ends _ (ap ends_word is ∙ test)) (kinds.Token tokens.Name) (own_kind i d); said = ap Name (range_is source at inside (name i) rest there) }
  bit_stands (Index i) there c is test low =
      let q = and_parts (ends_word c) (ends_number (slice_index rest 0)) test in
      let d = decimal_is i low.0 low.1 in
      let n = index i d low.1 _ d.is there (stops _ (ap ends_word is ∙ q.0) q.1) in
      record { cuts = n.counts; said = n.is }
  bit_stands Bound there c is test low =
      record { cuts = pragma_stands fresh source at inside rest there; said = ap (λ bytes. Pragma tokens.LoopBound bytes) (pragma_says fresh source at inside rest there) }
