-- The instructions of an operator put what it computes into their register.
use Rattle.std.proofs.Common.{◌≡◌, ℕ, ◌+◌, ◌-◌, ◌^◌, ◌<◌, ◌≤◌, Bool, true, false, List, ◌∷◌, length, Option, Some, None, refl, sym, ap, ◌∙◌, subst, arith, get_or-set_same, length-set}
use Rattle.std.specs.Prelude.{int_lt, nat_lt, slice_set}
use Rattle.rv_core.specs.declared.row.Alu.{Alu}
use Rattle.rv_core.specs.declared.row.Alu.TheVariants as alu
use Rattle.rv_core.specs.Arithmetic.{alu_value}
use Rattle.wcc_base.specs.Words.{signed_word, sum_word, difference_word, signed_quotient_word, xor_word, right_shift_word, signed_right_shift_word, less_word, signed_less_word}
use Rattle.high_ir.specs.declared.object.Kind.{Kind as HighKind}
use Rattle.high_ir.specs.declared.object.Kind.TheVariants as kinds
use Rattle.high_ir.specs.declared.expression.UnaryOperator.{UnaryOperator}
use Rattle.high_ir.specs.declared.expression.UnaryOperator.TheVariants.{Negate, Complement, IsZero, Convert}
use Rattle.high_ir.specs.declared.expression.BinaryOperator.{BinaryOperator}
use Rattle.high_ir.specs.declared.expression.BinaryOperator.TheVariants.{Add, Subtract, Multiply, Divide, DivideUnsigned, Remainder, RemainderUnsigned, And, Or, Xor, ShiftLeft, ShiftRight, ShiftRightUnsigned, Equal, NotEqual, Less, LessUnsigned, AtLeast, AtLeastUnsigned}
use Rattle.high_ir.specs.Words.{converted, unary_word, binary_word}
use Rattle.low_ir.specs.declared.run.Value.TheVariants.{Word}
use Rattle.low_ir.specs.Code.{Operand, Register, Constant, Set}
use Rattle.low_ir.specs.Effects.{World}
use Rattle.low_ir.specs.Runs.{Bank, virtual, operand_value}
use Rattle.lower_definition.specs.Operators.{only, operate, negated, exponent_of, divisor_exponent, in_order, difference, by_bias, divided, quotient, shifted, masked, times, product, quotient_unsigned, remainder_unsigned, binary_code, binary_needs, convert_code, convert_needs, unary_code, unary_needs}
use Rattle.lower_values.specs.Computing.{Has, Puts}
use Rattle.lower_values.specs.Meeting.{IsBelow}
use Rattle.lower_values.proofs.Quotients.{quotient-bias}
use Rattle.lower_values.proofs.Words.{IsDivisor, divisor_found, sum-negated, negated_below, sum_sides, product_sides, exponent_found, product-shift, quotient-shift, remainder-mask, equal-xor, not_equal-xor, zero-less, untrue-xor}
use Rattle.low_parts.proofs.Narrow.{low8-mask, low16-shifts, fill8-shifts, fill16-shifts}
use Rattle.std.proofs.lemmas.Nat.{and_comm, or_comm, xor_comm}
use Rattle.lower_values.proofs.Writing.{has_word, has_constant, has_behind, operate_behind, puts_one, puts_operate, puts_operates, puts_operates_right, set_after}

-- operators that take their operands in any order
record Commutes (operator : Alu) : Type 0 where
  swaps : (a b : ℕ) → alu_value operator a b ≡ alu_value operator b a

sum_commutes : Commutes alu.Sum
unfolding alu_value
sum_commutes = record { swaps = sum_sides }

and_commutes : Commutes alu.BitAnd
unfolding alu_value
and_commutes = record { swaps = and_comm }

or_commutes : Commutes alu.BitOr
unfolding alu_value
or_commutes = record { swaps = or_comm }

xor_commutes : Commutes alu.BitXor
unfolding alu_value
xor_commutes = record { swaps = xor_comm }

-- small constants
one_small : 1 < 2 ^ 32
one_small = omega arith

module _ (claims : List (List ℕ)) (u : World) (s : Bank) (t d : ℕ) (inside : d < length s) where
  ordered_puts : (operator : Alu) (x y : Operand ℕ) (a b v : ℕ) → Commutes operator → operand_value virtual s x ≡ Some (Word a) → operand_value virtual s y ≡ Some (Word b) → alu_value operator a b ≡ v → Puts claims u (only (in_order operator d x y)) s t d v
  ordered_puts operator (Register r) y a b v swaps ex ey is = puts_operate claims u s operator t d (Register r) y a b v inside ex ey is
  ordered_puts operator (Constant w) y a b v swaps ex ey is = puts_operate claims u s operator t d y (Constant w) b a v inside ey ex (swaps.swaps b a ∙ is)

  difference_puts : (x y : Operand ℕ) (a b : ℕ) → b < 2 ^ 32 → operand_value virtual s x ≡ Some (Word a) → Has s y b → Puts claims u (only (difference d x y)) s t d (difference_word a b)
  unfolding alu_value
  difference_puts x (Register r) a b small ex h = puts_operate claims u s alu.Difference t d x (Register r) a b (difference_word a b) inside ex h refl
  difference_puts x (Constant w) a b small ex h =
      puts_operate claims u s alu.Sum t d x (Constant (negated w)) a (negated w) (difference_word a b) inside ex (has_constant s (negated w) (negated_below w))
      (ap (λ n. sum_word a (negated n)) h ∙ sum-negated a b small)

  -- by a power of two, or not
  shifted_puts : (operator shift : Alu) (x : Operand ℕ) (w a v : ℕ) (o : Option ℕ) → w < 2 ^ 32 → operand_value virtual s x ≡ Some (Word a) → alu_value operator a w ≡ v → ((k : ℕ) → o ≡ Some k → (k < 32) × (alu_value shift a k ≡ v)) → Puts claims u (only (shifted operator shift d x w o)) s t d v
  shifted_puts operator shift x w a v None small ex is by = puts_operate claims u s operator t d x (Constant w) a w v inside ex (has_constant s w small) is
  shifted_puts operator shift x w a v (Some k) small ex is by =
      let h = by k refl in
      puts_operate claims u s shift t d x (Constant k) a k v inside ex (has_constant s k (omega (arith, h.0))) h.1

  masked_puts : (x : Operand ℕ) (w a v : ℕ) (o : Option ℕ) → w < 2 ^ 32 → operand_value virtual s x ≡ Some (Word a) → alu_value alu.RemainderUnsigned a w ≡ v → ((k : ℕ) → o ≡ Some k → alu_value alu.BitAnd a (w - 1) ≡ v) → Puts claims u (only (masked d x w o)) s t d v
  masked_puts x w a v None small ex is by = puts_operate claims u s alu.RemainderUnsigned t d x (Constant w) a w v inside ex (has_constant s w small) is
  masked_puts x w a v (Some k) small ex is by = puts_operate claims u s alu.BitAnd t d x (Constant (w - 1)) a (w - 1) v inside ex (has_constant s (w - 1) (omega (arith, small))) (by k refl)

  times_puts : (x : Operand ℕ) (w a : ℕ) → w < 2 ^ 32 → operand_value virtual s x ≡ Some (Word a) → Puts claims u (only (times d x w)) s t d (binary_word Multiply a w)
  unfolding alu_value binary_word
  times_puts x w a small ex =
      shifted_puts alu.Product alu.ShiftLeft x w a (binary_word Multiply a w) (exponent_of w) small ex refl (λ k e. let p = exponent_found w k e in (p.below, product-shift a w k p))

  product_puts : (x y : Operand ℕ) (a b : ℕ) → a < 2 ^ 32 → b < 2 ^ 32 → Has s x a → Has s y b → Puts claims u (only (product d x y)) s t d (binary_word Multiply a b)
  unfolding alu_value binary_word
  product_puts (Register q) (Register r) a b ha hb x y = puts_operate claims u s alu.Product t d (Register q) (Register r) a b (binary_word Multiply a b) inside x y refl
  product_puts (Register q) (Constant w) a b ha hb x y =
      subst (λ n. Puts claims u (only (times d (Register q) w)) s t d (binary_word Multiply a n)) y (times_puts (Register q) w a (subst (λ n. n < 2 ^ 32) (sym y) hb) x)
  product_puts (Constant w) y a b ha hb x hy =
      subst (λ n. Puts claims u (only (times d y w)) s t d n) (product_sides b w ∙ ap (λ n. binary_word Multiply n b) x) (times_puts y w b (subst (λ n. n < 2 ^ 32) (sym x) ha) (has_word s y b hb hy))

  quotient_puts : (x y : Operand ℕ) (a b : ℕ) → b < 2 ^ 32 → operand_value virtual s x ≡ Some (Word a) → Has s y b → Puts claims u (only (quotient_unsigned d x y)) s t d (binary_word DivideUnsigned a b)
  unfolding alu_value binary_word
  quotient_puts x (Register r) a b hb ex y = puts_operate claims u s alu.QuotientUnsigned t d x (Register r) a b (binary_word DivideUnsigned a b) inside ex y refl
  quotient_puts x (Constant w) a b hb ex y =
      subst (λ n. Puts claims u (only (quotient_unsigned d x (Constant w))) s t d (binary_word DivideUnsigned a n)) y
      (shifted_puts alu.QuotientUnsigned alu.ShiftRight x w a (binary_word DivideUnsigned a w) (exponent_of w) (subst (λ n. n < 2 ^ 32) (sym y) hb) ex refl
      (λ k e. let p = exponent_found w k e in (p.below, quotient-shift a w k p)))

  remainder_puts : (x y : Operand ℕ) (a b : ℕ) → b < 2 ^ 32 → operand_value virtual s x ≡ Some (Word a) → Has s y b → Puts claims u (only (remainder_unsigned d x y)) s t d (binary_word RemainderUnsigned a b)
  unfolding alu_value binary_word
  remainder_puts x (Register r) a b hb ex y = puts_operate claims u s alu.RemainderUnsigned t d x (Register r) a b (binary_word RemainderUnsigned a b) inside ex y refl
  remainder_puts x (Constant w) a b hb ex y =
      subst (λ n. Puts claims u (only (remainder_unsigned d x (Constant w))) s t d (binary_word RemainderUnsigned a n)) y
      (masked_puts x w a (binary_word RemainderUnsigned a w) (exponent_of w) (subst (λ n. n < 2 ^ 32) (sym y) hb) ex refl (λ k e. remainder-mask a w k (exponent_found w k e)))

  -- a quotient with a sign by a power of two, by way of t
  bias_puts : (x : Operand ℕ) (w a k : ℕ) → d < t → t < length s → a < 2 ^ 32 → IsBelow t x → Has s x a → IsDivisor w k → Puts claims u (by_bias k d t x) s t d (signed_quotient_word a w)
  unfolding alu_value
  bias_puts x w a k low room small below hx is =
      let some = is.some in
      let few = is.few in
      let sign = signed_right_shift_word a 31 in
      let bias = right_shift_word sign (32 - k) in
      let sum = sum_word a bias in
      let s1 = slice_set s t (Some (Word sign)) in
      let s2 = slice_set s1 t (Some (Word bias)) in
      let s3 = slice_set s2 t (Some (Word sum)) in
      let same1 = length-set s t (Some (Word sign)) in
      let same2 = length-set s1 t (Some (Word bias)) in
      let same3 = length-set s2 t (Some (Word sum)) in
      let room1 : t < length s1 = omega (arith, room, same1) in
      let room2 : t < length s2 = omega (arith, room1, same2) in
      let has2 = has_behind s1 t x a (Word bias) below (has_behind s t x a (Word sign) below hx) in
      operate_behind claims u _ s alu.ShiftRightSigned t d x (Constant 31) a 31 sign _ room (has_word s x a small hx) (has_constant s 31 (omega arith)) refl
      (operate_behind claims u _ s1 alu.ShiftRight t d (Register t) (Constant (32 - k)) sign (32 - k) bias _ room1 (get_or-set_same s t (Some (Word sign)) None room) (has_constant s1 (32 - k) (omega arith)) refl
      (operate_behind claims u _ s2 alu.Sum t d x (Register t) a bias sum _ room2 (has_word s2 x a small has2) (get_or-set_same s1 t (Some (Word bias)) None room1) refl
      (puts_operate claims u s3 alu.ShiftRightSigned t d (Register t) (Constant k) sum k _ (omega (arith, low, room2, same3)) (get_or-set_same s2 t (Some (Word sum)) None room2) (has_constant s3 k (omega (arith, few)))
      (quotient-bias a k small some few ∙ ap (signed_quotient_word a) is.power))))

  divided_puts : (x : Operand ℕ) (w a : ℕ) (o : Option ℕ) → d < t → t < length s → w < 2 ^ 32 → a < 2 ^ 32 → IsBelow t x → Has s x a → ((k : ℕ) → o ≡ Some k → IsDivisor w k) → Puts claims u (divided d t x w o) s t d (signed_quotient_word a w)
  unfolding alu_value
  divided_puts x w a None low room divisor small below hx by = puts_operate claims u s alu.Quotient t d x (Constant w) a w _ inside (has_word s x a small hx) (has_constant s w divisor) refl
  divided_puts x w a (Some k) low room divisor small below hx by = bias_puts x w a k low room small below hx (by k refl)

  signed_puts : (shifts : Bool) (x y : Operand ℕ) (a b : ℕ) → d < t → t < length s → a < 2 ^ 32 → b < 2 ^ 32 → IsBelow t x → Has s x a → Has s y b → Puts claims u (quotient shifts d t x y) s t d (signed_quotient_word a b)
  unfolding alu_value
  signed_puts false x y a b low room ha hb below hx hy = puts_operate claims u s alu.Quotient t d x y a b _ inside (has_word s x a ha hx) (has_word s y b hb hy) refl
  signed_puts true x (Register r) a b low room ha hb below hx hy = puts_operate claims u s alu.Quotient t d x (Register r) a b _ inside (has_word s x a ha hx) hy refl
  signed_puts true x (Constant w) a b low room ha hb below hx hy =
      subst (λ n. Puts claims u (quotient true d t x (Constant w)) s t d (signed_quotient_word a n)) hy
      (divided_puts x w a (divisor_exponent w) low room (subst (λ n. n < 2 ^ 32) (sym hy) hb) ha below hx (divisor_found w))

  -- two words that are compared by their bits
  xor_then : (second : Alu) (x y : Operand ℕ) (a b c v : ℕ) → d < t → t < length s → c < 2 ^ 32 → operand_value virtual s x ≡ Some (Word a) → operand_value virtual s y ≡ Some (Word b) → alu_value second (xor_word a b) c ≡ v → Puts claims u (in_order alu.BitXor t x y ∷ only (operate second d (Register t) (Constant c))) s t d v
  unfolding alu_value
  xor_then second (Register r) y a b c v low there small ex ey is = puts_operates claims u s alu.BitXor second t d (Register r) y a b c (xor_word a b) v low there small ex ey refl is
  xor_then second (Constant w) y a b c v low there small ex ey is = puts_operates claims u s alu.BitXor second t d y (Constant w) b a c (xor_word a b) v low there small ey ex (xor_comm b a) is

  xor_before : (second : Alu) (x y : Operand ℕ) (a b c v : ℕ) → d < t → t < length s → c < 2 ^ 32 → operand_value virtual s x ≡ Some (Word a) → operand_value virtual s y ≡ Some (Word b) → alu_value second c (xor_word a b) ≡ v → Puts claims u (in_order alu.BitXor t x y ∷ only (operate second d (Constant c) (Register t))) s t d v
  unfolding alu_value
  xor_before second (Register r) y a b c v low there small ex ey is = puts_operates_right claims u s alu.BitXor second t d (Register r) y a b c (xor_word a b) v low there small ex ey refl is
  xor_before second (Constant w) y a b c v low there small ex ey is = puts_operates_right claims u s alu.BitXor second t d y (Constant w) b a c (xor_word a b) v low there small ey ex (xor_comm b a) is

  pub binary_puts : (shifts : Bool) (operator : BinaryOperator) (x y : Operand ℕ) (a b : ℕ) → d < t → t + binary_needs operator ≤ length s → a < 2 ^ 32 → b < 2 ^ 32 → IsBelow t x → Has s x a → Has s y b → Puts claims u (binary_code shifts operator d t x y) s t d (binary_word operator a b)
  unfolding alu_value binary_word
  binary_puts shifts Add x y a b low room ha hb below hx hy = ordered_puts alu.Sum x y a b _ sum_commutes (has_word s x a ha hx) (has_word s y b hb hy) refl
  binary_puts shifts Subtract x y a b low room ha hb below hx hy = difference_puts x y a b hb (has_word s x a ha hx) hy
  binary_puts shifts Multiply x y a b low room ha hb below hx hy = product_puts x y a b ha hb hx hy
  binary_puts shifts Divide x y a b low room ha hb below hx hy = signed_puts shifts x y a b low (omega (arith, room)) ha hb below hx hy
  binary_puts shifts DivideUnsigned x y a b low room ha hb below hx hy = quotient_puts x y a b hb (has_word s x a ha hx) hy
  binary_puts shifts Remainder x y a b low room ha hb below hx hy = puts_operate claims u s alu.Remainder t d x y a b _ inside (has_word s x a ha hx) (has_word s y b hb hy) refl
  binary_puts shifts RemainderUnsigned x y a b low room ha hb below hx hy = remainder_puts x y a b hb (has_word s x a ha hx) hy
  binary_puts shifts And x y a b low room ha hb below hx hy = ordered_puts alu.BitAnd x y a b _ and_commutes (has_word s x a ha hx) (has_word s y b hb hy) refl
  binary_puts shifts Or x y a b low room ha hb below hx hy = ordered_puts alu.BitOr x y a b _ or_commutes (has_word s x a ha hx) (has_word s y b hb hy) refl
  binary_puts shifts Xor x y a b low room ha hb below hx hy = ordered_puts alu.BitXor x y a b _ xor_commutes (has_word s x a ha hx) (has_word s y b hb hy) refl
  binary_puts shifts ShiftLeft x y a b low room ha hb below hx hy = puts_operate claims u s alu.ShiftLeft t d x y a b _ inside (has_word s x a ha hx) (has_word s y b hb hy) refl
  binary_puts shifts ShiftRight x y a b low room ha hb below hx hy = puts_operate claims u s alu.ShiftRightSigned t d x y a b _ inside (has_word s x a ha hx) (has_word s y b hb hy) refl
  binary_puts shifts ShiftRightUnsigned x y a b low room ha hb below hx hy = puts_operate claims u s alu.ShiftRight t d x y a b _ inside (has_word s x a ha hx) (has_word s y b hb hy) refl
  binary_puts shifts Equal x y a b low room ha hb below hx hy = xor_then alu.IsLessUnsigned x y a b 1 _ low (omega (arith, room)) one_small (has_word s x a ha hx) (has_word s y b hb hy) (equal-xor a b)
  binary_puts shifts NotEqual x y a b low room ha hb below hx hy = xor_before alu.IsLessUnsigned x y a b 0 _ low (omega (arith, room)) (omega arith) (has_word s x a ha hx) (has_word s y b hb hy) (not_equal-xor a b)
  binary_puts shifts Less x y a b low room ha hb below hx hy = puts_operate claims u s alu.IsLess t d x y a b _ inside (has_word s x a ha hx) (has_word s y b hb hy) refl
  binary_puts shifts LessUnsigned x y a b low room ha hb below hx hy = puts_operate claims u s alu.IsLessUnsigned t d x y a b _ inside (has_word s x a ha hx) (has_word s y b hb hy) refl
  binary_puts shifts AtLeast x y a b low room ha hb below hx hy =
      puts_operates claims u s alu.IsLess alu.BitXor t d x y a b 1 (signed_less_word a b) _ low (omega (arith, room)) one_small (has_word s x a ha hx) (has_word s y b hb hy) refl (untrue-xor (int_lt (signed_word a) (signed_word b)))
  binary_puts shifts AtLeastUnsigned x y a b low room ha hb below hx hy =
      puts_operates claims u s alu.IsLessUnsigned alu.BitXor t d x y a b 1 (less_word a b) _ low (omega (arith, room)) one_small (has_word s x a ha hx) (has_word s y b hb hy) refl (untrue-xor (nat_lt a b))

  convert_puts : (kind : HighKind) (x : Operand ℕ) (a : ℕ) → d < t → t + convert_needs kind ≤ length s → operand_value virtual s x ≡ Some (Word a) → Puts claims u (convert_code kind d t x) s t d (converted kind a)
  unfolding alu_value converted
  convert_puts kinds.Unsigned8 x a low room ex = puts_operate claims u s alu.BitAnd t d x (Constant 255) a 255 _ inside ex (has_constant s 255 (omega arith)) (low8-mask a)
  convert_puts kinds.Signed8 x a low room ex =
      puts_operates claims u s alu.ShiftLeft alu.ShiftRightSigned t d x (Constant 24) a 24 24 _ _ low (omega (arith, room)) (omega arith) ex (has_constant s 24 (omega arith)) refl (fill8-shifts a)
  convert_puts kinds.Unsigned16 x a low room ex =
      puts_operates claims u s alu.ShiftLeft alu.ShiftRight t d x (Constant 16) a 16 16 _ _ low (omega (arith, room)) (omega arith) ex (has_constant s 16 (omega arith)) refl (low16-shifts a)
  convert_puts kinds.Signed16 x a low room ex =
      puts_operates claims u s alu.ShiftLeft alu.ShiftRightSigned t d x (Constant 16) a 16 16 _ _ low (omega (arith, room)) (omega arith) ex (has_constant s 16 (omega arith)) refl (fill16-shifts a)
  convert_puts kinds.Word x a low room ex = puts_one claims u (Set d x) s t d a inside (set_after claims u s d x (Word a) inside ex)

  pub unary_puts : (operator : UnaryOperator) (x : Operand ℕ) (a : ℕ) → d < t → t + unary_needs operator ≤ length s → operand_value virtual s x ≡ Some (Word a) → Puts claims u (unary_code operator d t x) s t d (unary_word operator a)
  unfolding alu_value unary_word
  unary_puts Negate x a low room ex = puts_operate claims u s alu.Difference t d (Constant 0) x 0 a _ inside (has_constant s 0 (omega arith)) ex refl
  unary_puts Complement x a low room ex = puts_operate claims u s alu.BitXor t d x (Constant (2 ^ 32 - 1)) a (2 ^ 32 - 1) _ inside ex (has_constant s (2 ^ 32 - 1) (omega arith)) refl
  unary_puts IsZero x a low room ex = puts_operate claims u s alu.IsLessUnsigned t d x (Constant 1) a 1 _ inside ex (has_constant s 1 one_small) (zero-less a)
  unary_puts (Convert kind) x a low room ex = convert_puts kind x a low room ex
