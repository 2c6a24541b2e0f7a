-- Operators that give back a side, and those that always give words.
use Rattle.std.proofs.Common.{◌≡◌, ℕ, zero, suc, ◌+◌, ◌-◌, ◌*◌, ◌%◌, ◌^◌, ◌<◌, Bool, true, false, nat_lt, pos, negsuc, refl, ap, ◌∙◌, arith}
use Rattle.std.specs.Prelude.{◌==◌, int_div, int_lt, if◌then◌else◌}
use Rattle.std.specs.Int.Bits.{or_zero_r, xor_zero_r}
use Rattle.std.proofs.Math.Nat.{div-one, mul_comm}
use Rattle.std.proofs.lemmas.Bool.{eqb-true, false≢true}
use Rattle.std.proofs.lemmas.Nat.{and_comm, and_mask, mod_below, or_comm, xor_comm}
use Rattle.wcc_base.specs.Words.{equal_word, floor_shift, less_word, signed_less_word, signed_quotient_word, signed_word, wrapped}
use Rattle.high_ir.specs.declared.expression.UnaryOperator.{UnaryOperator}
use Rattle.high_ir.specs.declared.expression.UnaryOperator.TheVariants.{Negate, Complement, IsZero, Convert}
use Rattle.high_ir.specs.declared.expression.BinaryOperator.{BinaryOperator}
use Rattle.high_ir.specs.declared.expression.BinaryOperator.TheVariants.{Add, Subtract, Multiply, Divide, DivideUnsigned, Remainder, RemainderUnsigned, And, Or, Xor, ShiftLeft, ShiftRight, ShiftRightUnsigned, Equal, NotEqual, Less, LessUnsigned, AtLeast, AtLeastUnsigned}
use Rattle.high_ir.specs.Words.{binary_word, unary_word}
use Rattle.high_ir.proofs.Words.{truth_below, wrapped_below}
use Rattle.high_folded.specs.Ranges.{is_commutative, is_neutral, is_word_neutral, operator_is_word, unary_is_word}
use Rattle.high_folded.proofs.Fitting.{narrow_word}

-- a constant that is told by a test
told : {A : Type 0} (f : ℕ → A) (word n : ℕ) → (word == n) ≡ true → f word ≡ f n
told f word n t = ap f (eqb-true word n t)

pub gives_back : (operator : BinaryOperator) (a word : ℕ) → is_neutral operator word ≡ true → binary_word operator a word ≡ a
unfolding binary_word
gives_back Or a word t = told (binary_word Or a) word 0 t ∙ or_zero_r a
gives_back Xor a word t = told (binary_word Xor a) word 0 t ∙ xor_zero_r a
gives_back ShiftRightUnsigned a word t = told (binary_word ShiftRightUnsigned a) word 0 t ∙ div-one a
gives_back DivideUnsigned a word t = told (binary_word DivideUnsigned a) word 1 t ∙ div-one a
gives_back Add a word t = absurd (false≢true t)
gives_back Subtract a word t = absurd (false≢true t)
gives_back Multiply a word t = absurd (false≢true t)
gives_back Divide a word t = absurd (false≢true t)
gives_back Remainder a word t = absurd (false≢true t)
gives_back RemainderUnsigned a word t = absurd (false≢true t)
gives_back And a word t = absurd (false≢true t)
gives_back ShiftLeft a word t = absurd (false≢true t)
gives_back ShiftRight a word t = absurd (false≢true t)
gives_back Equal a word t = absurd (false≢true t)
gives_back NotEqual a word t = absurd (false≢true t)
gives_back Less a word t = absurd (false≢true t)
gives_back LessUnsigned a word t = absurd (false≢true t)
gives_back AtLeast a word t = absurd (false≢true t)
gives_back AtLeastUnsigned a word t = absurd (false≢true t)

-- a shift by nothing
unshifted : (b : Bool) (a : ℕ) → a < 2 ^ 32 → nat_lt a 2147483648 ≡ b → wrapped (floor_shift (if b then pos a else negsuc (4294967295 - a)) 0) ≡ a
unshifted true a lt t = ap (λ n. n % 4294967296) (div-one a) ∙ (let same : a % 4294967296 ≡ a = omega (arith, lt) in same)
unshifted false a lt t =
    ap (λ n. 4294967295 - n % 4294967296) (div-one (4294967295 - a))
    ∙ (let same : 4294967295 - (4294967295 - a) % 4294967296 ≡ a = omega (arith, lt) in same)

sum_none : (a : ℕ) → a < 2 ^ 32 → (a + 0) % 4294967296 ≡ a
sum_none a lt = omega (arith, lt)

less_none : (a : ℕ) → a < 2 ^ 32 → (a + 4294967296) % 4294967296 ≡ a
less_none a lt = omega (arith, lt)

times_one : (a : ℕ) → a < 2 ^ 32 → a * 1 % 4294967296 ≡ a
times_one a lt = omega (arith, lt)

all_bits : (a : ℕ) → a < 2 ^ 32 → a % 2 ^ 32 ≡ a
all_bits a lt = omega (arith, lt)

pub gives_back_word : (operator : BinaryOperator) (a word : ℕ) → a < 2 ^ 32 → is_word_neutral operator word ≡ true → binary_word operator a word ≡ a
unfolding binary_word
gives_back_word Add a word lt t = told (binary_word Add a) word 0 t ∙ sum_none a lt
gives_back_word Subtract a word lt t = told (binary_word Subtract a) word 0 t ∙ less_none a lt
gives_back_word Multiply a word lt t = told (binary_word Multiply a) word 1 t ∙ times_one a lt
gives_back_word ShiftLeft a word lt t = told (binary_word ShiftLeft a) word 0 t ∙ times_one a lt
gives_back_word ShiftRight a word lt t = told (binary_word ShiftRight a) word 0 t ∙ unshifted (nat_lt a 2147483648) a lt refl
gives_back_word And a word lt t = told (binary_word And a) word 4294967295 t ∙ and_mask a 32 ∙ all_bits a lt
gives_back_word Or a word lt t = absurd (false≢true t)
gives_back_word Xor a word lt t = absurd (false≢true t)
gives_back_word ShiftRightUnsigned a word lt t = absurd (false≢true t)
gives_back_word DivideUnsigned a word lt t = absurd (false≢true t)
gives_back_word Divide a word lt t = absurd (false≢true t)
gives_back_word Remainder a word lt t = absurd (false≢true t)
gives_back_word RemainderUnsigned a word lt t = absurd (false≢true t)
gives_back_word Equal a word lt t = absurd (false≢true t)
gives_back_word NotEqual a word lt t = absurd (false≢true t)
gives_back_word Less a word lt t = absurd (false≢true t)
gives_back_word LessUnsigned a word lt t = absurd (false≢true t)
gives_back_word AtLeast a word lt t = absurd (false≢true t)
gives_back_word AtLeastUnsigned a word lt t = absurd (false≢true t)

sum_turned : (a b : ℕ) → (a + b) % 4294967296 ≡ (b + a) % 4294967296
sum_turned a b = omega arith

-- sides that may be turned
pub turned : (operator : BinaryOperator) (a b : ℕ) → is_commutative operator ≡ true → binary_word operator a b ≡ binary_word operator b a
unfolding binary_word
turned Add a b t = sum_turned a b
turned Multiply a b t = ap (λ n. n % 4294967296) (mul_comm a b)
turned And a b t = and_comm a b
turned Or a b t = or_comm a b
turned Xor a b t = xor_comm a b
turned Subtract a b t = absurd (false≢true t)
turned Divide a b t = absurd (false≢true t)
turned DivideUnsigned a b t = absurd (false≢true t)
turned Remainder a b t = absurd (false≢true t)
turned RemainderUnsigned a b t = absurd (false≢true t)
turned ShiftLeft a b t = absurd (false≢true t)
turned ShiftRight a b t = absurd (false≢true t)
turned ShiftRightUnsigned a b t = absurd (false≢true t)
turned Equal a b t = absurd (false≢true t)
turned NotEqual a b t = absurd (false≢true t)
turned Less a b t = absurd (false≢true t)
turned LessUnsigned a b t = absurd (false≢true t)
turned AtLeast a b t = absurd (false≢true t)
turned AtLeastUnsigned a b t = absurd (false≢true t)

-- words
quotient_below : (a b : ℕ) → signed_quotient_word a b < 2 ^ 32
quotient_below a zero = omega arith
quotient_below a (suc b) = wrapped_below (int_div (signed_word a) (signed_word (suc b)))

low_below : (n : ℕ) → n % 2 ^ 32 < 2 ^ 32
low_below n = mod_below n (2 ^ 32) (omega arith)

pub operator_word : (operator : BinaryOperator) (a b : ℕ) → operator_is_word operator ≡ true → binary_word operator a b < 2 ^ 32
unfolding binary_word
operator_word Add a b t = low_below (a + b)
operator_word Subtract a b t = low_below (a + (2 ^ 32 - b))
operator_word Multiply a b t = low_below (a * b)
operator_word Divide a b t = quotient_below a b
operator_word ShiftLeft a b t = low_below (a * 2 ^ (b % 32))
operator_word ShiftRight a b t = wrapped_below (floor_shift (signed_word a) (b % 32))
operator_word Equal a b t = truth_below (a == b)
operator_word NotEqual a b t = truth_below (equal_word a b == 0)
operator_word Less a b t = truth_below (int_lt (signed_word a) (signed_word b))
operator_word LessUnsigned a b t = truth_below (nat_lt a b)
operator_word AtLeast a b t = truth_below (signed_less_word a b == 0)
operator_word AtLeastUnsigned a b t = truth_below (less_word a b == 0)
operator_word DivideUnsigned a b t = absurd (false≢true t)
operator_word Remainder a b t = absurd (false≢true t)
operator_word RemainderUnsigned a b t = absurd (false≢true t)
operator_word And a b t = absurd (false≢true t)
operator_word Or a b t = absurd (false≢true t)
operator_word Xor a b t = absurd (false≢true t)
operator_word ShiftRightUnsigned a b t = absurd (false≢true t)

pub unary_operator_word : (operator : UnaryOperator) (a : ℕ) → unary_is_word operator ≡ true → unary_word operator a < 2 ^ 32
unfolding unary_word
unary_operator_word Negate a t = low_below (0 + (2 ^ 32 - a))
unary_operator_word IsZero a t = truth_below (a == 0)
unary_operator_word (Convert kind) a t = narrow_word kind a t
unary_operator_word Complement a t = absurd (false≢true t)
