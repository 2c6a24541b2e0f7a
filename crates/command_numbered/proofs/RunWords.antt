-- What the operators give for small numbers.
use Rattle.std.proofs.Common.{◌≡◌, ℕ, suc, ◌+◌, ◌*◌, ◌-◌, ◌%◌, ◌^◌, ◌<◌, ◌&&◌, Bool, true, false, nat_eq, not, pos, negsuc, ◌+ℤ◌, ◌*ℤ◌, Some, Ok, refl, ap, ◌∙◌, arith}
use Rattle.std.specs.Prelude.{◌==◌, int_lt, int_rem, nat_lt, if◌then◌else◌}
use Rattle.std.proofs.lemmas.Bool.{le-leb, lt-ltb, ne_eqb}
use Rattle.std.proofs.lemmas.Nat.{mod_below}
use Rattle.wcc_base.specs.Words.{signed_remainder_word, signed_word, truth_word, wrapped}
use Rattle.types_value.specs.Operators.{computed, given, overflows, when}
use Rattle.types_value.specs.declared.kind.Kind.TheVariants.{Int}
use Rattle.types_value.specs.declared.operator.Operator.TheVariants.{Multiply, Remainder, Add, Less}
use Rattle.types_value.specs.declared.operator.Undefined.{Undefined}
use Rattle.types_value.specs.declared.operator.Undefined.TheVariants.{Overflow, Quotient, ZeroDivisor}

signed_small : (x : ℕ) → x < 2 ^ 31 → signed_word x ≡ pos x
signed_small x h = ap (λ t. if t then pos x else negsuc (2 ^ 32 - 1 - x)) (lt-ltb x (2 ^ 31) h)

no_overflow : (n : ℕ) → n < 2 ^ 31 → overflows (pos n) ≡ false
no_overflow n h = ap (λ t. not t) (le-leb n 2147483647 (omega (arith, h)))

small : (n : ℕ) → n < 2 ^ 31 → n % 2 ^ 32 ≡ n
small n h = omega (arith, h)

fine : (t : Bool) (cause : Undefined) (w v : ℕ) → t ≡ false → w ≡ v → given (when t cause) w ≡ Ok v
fine t cause w v e f = (λ i. given (when (e i) cause) (f i))

module _ (x y : ℕ) (x_small : x < 2 ^ 31) (y_small : y < 2 ^ 31) where
  pub product_is : x * y < 2 ^ 31 → computed Multiply Int x y ≡ Ok (x * y)
  unfolding computed
  product_is h = fine _ Overflow _ (x * y) ((λ i. overflows (signed_small x x_small i *ℤ signed_small y y_small i)) ∙ no_overflow (x * y) h) (small (x * y) h)

  pub sum_is : x + y < 2 ^ 31 → computed Add Int x y ≡ Ok (x + y)
  unfolding computed
  sum_is h = fine _ Overflow _ (x + y) ((λ i. overflows (signed_small x x_small i +ℤ signed_small y y_small i)) ∙ no_overflow (x + y) h) (small (x + y) h)

  pub less_is : computed Less Int x y ≡ Ok (truth_word (nat_lt x y))
  unfolding computed
  less_is = λ i. Ok (truth_word (int_lt (signed_small x x_small i) (signed_small y y_small i)))

-- a remainder by a number that is not 0
pub remainder_is : (x d : ℕ) → x < 2 ^ 31 → suc d < 2 ^ 31 → computed Remainder Int x (suc d) ≡ Ok (x % suc d)
unfolding computed
remainder_is x d x_small d_small =
    ap (λ t. given (if t then Some ZeroDivisor else when (true && (x == 2 ^ 31) && (suc d == 2 ^ 32 - 1)) Quotient) (signed_remainder_word x (suc d))) some
    ∙ fine _ Quotient _ (x % suc d) (first (suc d == 2 ^ 32 - 1) (ne_eqb x (2 ^ 31) (λ e. omega (arith, e, x_small))))
    ((λ i. wrapped (int_rem (signed_small x x_small i) (signed_small (suc d) d_small i))) ∙ small (x % suc d) low)
  where
    some : nat_eq (suc d) 0 ≡ false
    some = ne_eqb (suc d) 0 (λ e. omega (arith, e))

    first : (t : Bool) → nat_eq x (2 ^ 31) ≡ false → (true && (x == 2 ^ 31) && t) ≡ false
    first t e = rw e refl

    low : x % suc d < 2 ^ 31
    low = let lt = mod_below x (suc d) (omega arith) in omega (arith, lt, d_small)
