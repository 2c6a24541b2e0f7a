-- Operators and conversions compute what the source's do.
use Rattle.std.proofs.Common.{◌≡◌, ℕ, ◌-◌, ◌%◌, ◌^◌, Bool, true, false, nat_lt, List, pos, negsuc, Option, Some, None, Result, Ok, Err, refl, ap, ◌∙◌, arith}
use Rattle.std.specs.Prelude.{◌==◌, ◌&&◌, if◌then◌else◌}
use Rattle.types_value.specs.Kinds as c
use Rattle.types_value.specs.Operators.{computed, given, signed_by, undefined, word_of, when}
use Rattle.types_value.specs.declared.kind.Kind.{Kind as CType}
use Rattle.types_value.specs.declared.kind.Kind.TheVariants as types
use Rattle.types_value.specs.declared.operator.Operator.{Operator}
use Rattle.types_value.specs.declared.operator.Operator.TheVariants as operators
use Rattle.types_value.specs.declared.operator.Sign.{Sign}
use Rattle.types_value.specs.declared.operator.Sign.TheVariants as signs
use Rattle.types_value.specs.declared.operator.Undefined.{Undefined}
use Rattle.types_value.specs.declared.operator.Undefined.TheVariants.{Overflow}
use Rattle.wcc_base.specs.Signs.{signed_of}
use Rattle.wcc_base.specs.Words.{wrapped, sign_filled, difference_word, xor_word, equal_word}
use Rattle.high_ir.specs.declared.object.Kind.{Kind}
use Rattle.high_ir.specs.declared.object.Kind.TheVariants.{Unsigned8, Signed8, Unsigned16, Signed16, Word}
use Rattle.high_ir.specs.declared.expression.UnaryOperator.{UnaryOperator}
use Rattle.high_ir.specs.declared.expression.UnaryOperator.TheVariants as unary
use Rattle.high_ir.specs.declared.expression.BinaryOperator.{BinaryOperator}
use Rattle.high_ir.specs.declared.expression.BinaryOperator.TheVariants as binary
use Rattle.high_ir.specs.Meaning.{Variables, World, at_value, value_of}
use Rattle.high_ir.specs.Tree.{Expr, Unary, Binary}
use Rattle.high_ir.specs.Words.{converted, unary_word, binary_word}
use Rattle.plan_definition.specs.Operators.{kind_of, convert, operated, signed}

-- a conversion to a type is one to its kind
pub converted-kind_of : (to : CType) (w : ℕ) → converted (kind_of to) w ≡ c.converted to w
unfolding converted
converted-kind_of types.Void w = refl
converted-kind_of types.Char w = refl
converted-kind_of types.SignedChar w = refl
converted-kind_of types.UnsignedChar w = refl
converted-kind_of types.Short w = refl
converted-kind_of types.UnsignedShort w = refl
converted-kind_of types.Int w = refl
converted-kind_of types.Unsigned w = refl
converted-kind_of types.Long w = refl
converted-kind_of types.UnsignedLong w = refl

-- what is promoted is a whole word
pub converted-promoted : (kind : CType) (w : ℕ) → c.converted (c.promoted kind) w ≡ w
converted-promoted types.Void w = refl
converted-promoted types.Char w = refl
converted-promoted types.SignedChar w = refl
converted-promoted types.UnsignedChar w = refl
converted-promoted types.Short w = refl
converted-promoted types.UnsignedShort w = refl
converted-promoted types.Int w = refl
converted-promoted types.Unsigned w = refl
converted-promoted types.Long w = refl
converted-promoted types.UnsignedLong w = refl

low8 : (w : ℕ) → w % 256 % 256 ≡ w % 256
low8 w = omega arith

low16 : (w : ℕ) → w % 65536 % 65536 ≡ w % 65536
low16 w = omega arith

above8 : (w : ℕ) → w % 256 % 4294967296 % 256 ≡ w % 256
above8 w = omega arith

below8 : (w : ℕ) → (4294967295 - (255 - w % 256) % 4294967296) % 256 ≡ w % 256
below8 w = omega arith

above16 : (w : ℕ) → w % 65536 % 4294967296 % 65536 ≡ w % 65536
above16 w = omega arith

below16 : (w : ℕ) → (4294967295 - (65535 - w % 65536) % 4294967296) % 65536 ≡ w % 65536
below16 w = omega arith

sign_filled8 : (w : ℕ) → sign_filled 8 (sign_filled 8 w) ≡ sign_filled 8 w
sign_filled8 w = ap (λ m. wrapped (signed_of 8 m)) (of (nat_lt (w % 256) 128))
  where
    of : (b : Bool) → wrapped (if b then pos (w % 256) else negsuc (255 - w % 256)) % 256 ≡ w % 256
    of true = above8 w
    of false = below8 w

sign_filled16 : (w : ℕ) → sign_filled 16 (sign_filled 16 w) ≡ sign_filled 16 w
sign_filled16 w = ap (λ m. wrapped (signed_of 16 m)) (of (nat_lt (w % 65536) 32768))
  where
    of : (b : Bool) → wrapped (if b then pos (w % 65536) else negsuc (65535 - w % 65536)) % 65536 ≡ w % 65536
    of true = above16 w
    of false = below16 w

-- what was converted is of its kind
pub converted-converted : (kind : Kind) (w : ℕ) → converted kind (converted kind w) ≡ converted kind w
unfolding converted
converted-converted Unsigned8 w = low8 w
converted-converted Signed8 w = sign_filled8 w
converted-converted Unsigned16 w = low16 w
converted-converted Signed16 w = sign_filled16 w
converted-converted Word w = refl

pub converted-Word : (w : ℕ) → converted Word w ≡ w
unfolding converted
converted-Word w = refl

-- an operator has a value only where it gives its word
pub computed_cases : (C : Result ℕ Undefined → Type 0) (operator : Operator) (kind : CType) (x y : ℕ) → ((cause : Undefined) → C (Err cause)) → C (Ok (word_of operator (c.is_signed kind) x y)) → C (computed operator kind x y)
unfolding computed
computed_cases C operator kind x y stops fine = of (undefined operator (c.is_signed kind) x y)
  where
    of : (o : Option Undefined) → C (given o (word_of operator (c.is_signed kind) x y))
    of None = fine
    of (Some cause) = stops cause

-- the word of an operator before a word
abbrev pub sign_word : Sign → ℕ → ℕ
sign_word signs.Negate x = difference_word 0 x
sign_word signs.Plus x = x
sign_word signs.Complement x = xor_word x (2 ^ 32 - 1)
sign_word signs.Not x = equal_word x 0

pub signed_cases : (C : Result ℕ Undefined → Type 0) (operator : Sign) (kind : CType) (x : ℕ) → ((cause : Undefined) → C (Err cause)) → C (Ok (sign_word operator x)) → C (signed_by operator kind x)
unfolding signed_by
signed_cases C signs.Negate kind x stops fine = of (when (c.is_signed kind && x == 2 ^ 31) Overflow)
  where
    of : (o : Option Undefined) → C (given o (difference_word 0 x))
    of None = fine
    of (Some cause) = stops cause
signed_cases C signs.Plus kind x stops fine = fine
signed_cases C signs.Complement kind x stops fine = fine
signed_cases C signs.Not kind x stops fine = fine

module _ (passed : List ℕ) (vars : Variables) (w : World) where
  value_of-Unary : (operator : UnaryOperator) (e : Expr) (v : ℕ) → value_of passed vars w e ≡ Some v → value_of passed vars w (Unary operator e) ≡ Some (unary_word operator v)
  value_of-Unary operator e v is = ap (λ o. at_value o (λ u. Some (unary_word operator u))) is

  value_of-Binary : (operator : BinaryOperator) (l r : Expr) (x y : ℕ) → value_of passed vars w l ≡ Some x → value_of passed vars w r ≡ Some y → value_of passed vars w (Binary operator l r) ≡ Some (binary_word operator x y)
  value_of-Binary operator l r x y is_l is_r =
      ap (λ o. at_value o (λ u. at_value (value_of passed vars w r) (λ v. Some (binary_word operator u v)))) is_l ∙ ap (λ o. at_value o (λ v. Some (binary_word operator x v))) is_r

  pub value_of-convert : (to : CType) (e : Expr) (v : ℕ) → value_of passed vars w e ≡ Some v → value_of passed vars w (convert to e) ≡ Some (c.converted to v)
  unfolding unary_word converted
  value_of-convert types.Void e v is = is
  value_of-convert types.Char e v is = value_of-Unary (unary.Convert Unsigned8) e v is
  value_of-convert types.SignedChar e v is = value_of-Unary (unary.Convert Signed8) e v is
  value_of-convert types.UnsignedChar e v is = value_of-Unary (unary.Convert Unsigned8) e v is
  value_of-convert types.Short e v is = value_of-Unary (unary.Convert Signed16) e v is
  value_of-convert types.UnsignedShort e v is = value_of-Unary (unary.Convert Unsigned16) e v is
  value_of-convert types.Int e v is = is
  value_of-convert types.Unsigned e v is = is
  value_of-convert types.Long e v is = is
  value_of-convert types.UnsignedLong e v is = is

  pub value_of-signed : (operator : Sign) (e : Expr) (v : ℕ) → value_of passed vars w e ≡ Some v → value_of passed vars w (signed operator e) ≡ Some (sign_word operator v)
  unfolding unary_word
  value_of-signed signs.Negate e v is = value_of-Unary unary.Negate e v is
  value_of-signed signs.Plus e v is = is
  value_of-signed signs.Complement e v is = value_of-Unary unary.Complement e v is
  value_of-signed signs.Not e v is = value_of-Unary unary.IsZero e v is

  pub value_of-operated : (operator : Operator) (s : Bool) (l r : Expr) (x y : ℕ) → value_of passed vars w l ≡ Some x → value_of passed vars w r ≡ Some y → value_of passed vars w (operated operator s l r) ≡ Some (word_of operator s x y)
  unfolding binary_word
  value_of-operated operators.Multiply s l r x y p q = value_of-Binary binary.Multiply l r x y p q
  value_of-operated operators.Divide true l r x y p q = value_of-Binary binary.Divide l r x y p q
  value_of-operated operators.Divide false l r x y p q = value_of-Binary binary.DivideUnsigned l r x y p q
  value_of-operated operators.Remainder true l r x y p q = value_of-Binary binary.Remainder l r x y p q
  value_of-operated operators.Remainder false l r x y p q = value_of-Binary binary.RemainderUnsigned l r x y p q
  value_of-operated operators.Add s l r x y p q = value_of-Binary binary.Add l r x y p q
  value_of-operated operators.Subtract s l r x y p q = value_of-Binary binary.Subtract l r x y p q
  value_of-operated operators.ShiftLeft s l r x y p q = value_of-Binary binary.ShiftLeft l r x y p q
  value_of-operated operators.ShiftRight true l r x y p q = value_of-Binary binary.ShiftRight l r x y p q
  value_of-operated operators.ShiftRight false l r x y p q = value_of-Binary binary.ShiftRightUnsigned l r x y p q
  value_of-operated operators.Less true l r x y p q = value_of-Binary binary.Less l r x y p q
  value_of-operated operators.Less false l r x y p q = value_of-Binary binary.LessUnsigned l r x y p q
  value_of-operated operators.Greater true l r x y p q = value_of-Binary binary.Less r l y x q p
  value_of-operated operators.Greater false l r x y p q = value_of-Binary binary.LessUnsigned r l y x q p
  value_of-operated operators.LessEqual true l r x y p q = value_of-Binary binary.AtLeast r l y x q p
  value_of-operated operators.LessEqual false l r x y p q = value_of-Binary binary.AtLeastUnsigned r l y x q p
  value_of-operated operators.GreaterEqual true l r x y p q = value_of-Binary binary.AtLeast l r x y p q
  value_of-operated operators.GreaterEqual false l r x y p q = value_of-Binary binary.AtLeastUnsigned l r x y p q
  value_of-operated operators.Equal s l r x y p q = value_of-Binary binary.Equal l r x y p q
  value_of-operated operators.NotEqual s l r x y p q = value_of-Binary binary.NotEqual l r x y p q
  value_of-operated operators.BitAnd s l r x y p q = value_of-Binary binary.And l r x y p q
  value_of-operated operators.BitXor s l r x y p q = value_of-Binary binary.Xor l r x y p q
  value_of-operated operators.BitOr s l r x y p q = value_of-Binary binary.Or l r x y p q
