-- A text of digits is a number where nothing follows it that goes on with one, and what it says.
use Rattle.std.proofs.Common.{◌≡◌, ◌≢◌, inl, inr, ℕ, suc, ◌+◌, ◌*◌, ◌-◌, ◌<◌, ◌≤◌, Bool, true, false, ◌&&◌, ◌||◌, nat_le, if◌then◌else◌, List, [], ◌∷◌, ◌++◌, length, drop, refl, sym, ap, subst, ◌∙◌, arith}
use Rattle.std.specs.Prelude.{slice_index}
use Rattle.std.proofs.lemmas.Bool.{lt-leb}
use Rattle.std.proofs.lemmas.Bool.Decides.{nat_tests}
use Rattle.c_tree.specs.Bytes.{IsDigit, IsNameByte, Each, Stands}
use Rattle.c_tree.specs.Constants.{IsInteger, base_of, digit, digits_end, digits_start, has_l, has_u, integer, integer_value, is_hexadecimal, is_l, is_u, most, number, one_if, type_of}
use Rattle.c_tree.specs.declared.token.Constant.{Constant}
use Rattle.c_tree.specs.declared.token.ConstantType.{ConstantType}
use Rattle.c_tree.specs.declared.token.ConstantType.TheVariants as types
use Rattle.c_tree.specs.declared.token.TokenKind.TheVariants as tokens
use Rattle.c_lexer.specs.declared.pieces.Form.TheVariants as forms
use Rattle.c_lexer.specs.declared.pieces.Kind.TheVariants as kinds
use Rattle.c_lexer.specs.Bytes.{IsSign}
use Rattle.c_lexer.specs.Cut.{StandsAt}
use Rattle.c_lexer.specs.Forms.{GoesOn, IsNumber}
use Rattle.c_lexer.proofs.Longest.{longest_number}
use Rattle.command_numbered.proofs.Standing.{Have, each_there, ends_inside, next_is, stands}

-- the number that digits spell behind another
abbrev pub spelled : (base n : ℕ) → List ℕ → ℕ
spelled base n [] = n
spelled base n (b ∷ bytes) = spelled base (n * base + digit b) bytes

number_from : (base : ℕ) (bytes source : List ℕ) (at count : ℕ) → Stands source (at + count) bytes → number base source at (count + length bytes) ≡ spelled base (number base source at count) bytes
number_from base [] source at count stands = let none : count + 0 ≡ count = omega arith in ap (number base source at) none
number_from base (b ∷ bytes) source at count stands =
    let next : at + count + 1 ≡ at + suc count = omega arith in
    let more : count + length (b ∷ bytes) ≡ suc count + length bytes = omega arith in
    ap (number base source at) more
    ∙ number_from base bytes source at (suc count) (subst (λ n. Stands source n bytes) next stands.1)
    ∙ ap (λ d. spelled base (number base source at count * base + digit d) bytes) stands.0

no_u : (b : ℕ) → IsDigit b → is_u b ≡ false
no_u b h = grind (arith, nat_tests)

no_l : (b : ℕ) → IsDigit b → is_l b ≡ false
no_l b h = grind (arith, nat_tests)

no_suffix : (x y z w : Bool) → x ≡ false → y ≡ false → (x || (y && z)) ≡ false
no_suffix x y z w e f = rw (e, f) refl

abbrev constant : ℕ → ConstantType → Constant
constant value scalar = record { value = value; scalar = scalar }

abbrev pub int_constant : ℕ → Constant
int_constant value = constant value types.Int

pub record Stops (b : ℕ) : Type 0 where
  pub apart : IsNameByte b → ⊥
  pub no_point : b ≢ 46
  pub no_sign : IsSign b → ⊥

module _ (fresh : Bool) (source : List ℕ) (at : ℕ) (inside : at ≤ length source) (b : ℕ) (bytes rest : List ℕ) (there : drop at source ≡ (b ∷ bytes) ++ rest) (are_digits : Have IsDigit (b ∷ bytes)) (stop : Stops (slice_index rest 0)) where
  abbrev end : ℕ
  end = at + length (b ∷ bytes)

  own : Stands source at (b ∷ bytes)
  own = stands source at inside (b ∷ bytes) rest there

  each : Each IsDigit source at end
  each = each_there IsDigit (b ∷ bytes) source at are_digits own

  first : IsDigit (slice_index source at)
  first = subst IsDigit (sym own.0) are_digits.0

  last : IsDigit (slice_index source (end - 1))
  last = each (end - 1) (omega arith) (omega arith)

  u_is : has_u source end ≡ false
  u_is = no_suffix (is_u (slice_index source (end - 1))) (is_l (slice_index source (end - 1))) (is_u (slice_index source (end - 2))) true (no_u _ last) (no_l _ last)

  l_is : has_l source end ≡ false
  l_is = no_suffix (is_l (slice_index source (end - 1))) (is_u (slice_index source (end - 1))) (is_l (slice_index source (end - 2))) true (no_l _ last) (no_u _ last)

  end_is : digits_end source end ≡ end
  end_is = let none : end - 0 ≡ end = omega arith in (λ i. end - (one_if (u_is i) + one_if (l_is i))) ∙ none

  is_number : IsNumber source at end
  is_number = record { first = inl first; goes_on = λ i after before. inl (inr (each i (omega (arith, after)) before)) }

  next : GoesOn source end → ⊥
  next (inl h) = stop.apart (subst IsNameByte (next_is source at (b ∷ bytes) rest there) h)
  next (inr (inl h)) = stop.no_point (sym (next_is source at (b ∷ bytes) rest there) ∙ h)
  next (inr (inr h)) = stop.no_sign (subst IsSign (next_is source at (b ∷ bytes) rest there) h.0)

  module _ (base value : ℕ) (no_hexadecimal : is_hexadecimal source at end ≡ false) (base_is : base_of source at end ≡ base) (value_is : spelled base 0 (b ∷ bytes) ≡ value) (low : value ≤ 2147483647) (typed : 2147483647 ≤ most false base) (digits : Have (λ d. digit d < base) (b ∷ bytes)) where
    start_is : digits_start source at end ≡ at
    start_is = ap (λ t. if t then at + 2 else at) no_hexadecimal

    number_is : integer_value source at end ≡ value
    number_is =
        let long : end - at ≡ 0 + length (b ∷ bytes) = omega arith in
        let here : at ≡ at + 0 = omega arith in
        (λ i. number (base_is i) source (start_is i) (end_is i - start_is i))
        ∙ ap (number base source at) long
        ∙ number_from base (b ∷ bytes) source at 0 (subst (λ n. Stands source n (b ∷ bytes)) here own)
        ∙ value_is

    is_integer : IsInteger source at end
    is_integer = record {
      first = first;
      some = omega (arith, start_is, end_is);
      digits = λ i after before. subst (λ k. digit (slice_index source i) < k) (sym base_is)
          (each_there (λ d. digit d < base) (b ∷ bytes) source at digits own i (omega (arith, after, start_is)) (omega (arith, before, end_is)));
      typed = subst (λ n. n ≤ most (has_u source end) (base_of source at end)) (sym number_is) (subst (λ n. value ≤ n) (sym (λ i. most (u_is i) (base_is i))) (omega (arith, low, typed)));
    }

    int_type : nat_le 2147483648 value ≡ false
    int_type = lt-leb 2147483648 value (omega (arith, low))

    pub says : integer source at end ≡ int_constant value
    says = (λ i. constant (number_is i) (type_of (u_is i) (l_is i) (number_is i))) ∙ ap (λ t. constant value (if t then types.Unsigned else types.Int)) int_type

    pub numeral_stands : StandsAt (record { form = forms.Number; kind = kinds.Token tokens.Number; end = end; fresh = false }) fresh source at
    numeral_stands = record {
      longest = longest_number fresh source at end (omega arith) (ends_inside source at inside (b ∷ bytes) rest there) is_number (λ _ h. next h);
      kind = inl (is_integer, refl);
      line = refl;
    }
