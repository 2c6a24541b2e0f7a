-- Words in the immediates of instructions, and addresses by a register and what is added to it.
use Rattle.std.proofs.Common.{◌≡◌, ℕ, ◌+◌, ◌-◌, ◌%◌, ◌^◌, ◌<◌, Bool, true, false, pos, negsuc, ◌-ℤ◌, sym, ap, ◌∙◌, arith}
use Rattle.std.specs.Prelude.{nat_lt, ◌==◌, if◌then◌else◌}
use Rattle.std.proofs.lemmas.Bool.Decides.{nat_tests}
use Rattle.wcc_base.specs.Signs.{signed_of}
use Rattle.rv_core.specs.Arithmetic.{word, displaced}
use Rattle.asm_items.proofs.OffsetLemmas.{word-difference}
use Rattle.asm_program.specs.Numbers.{base_address, upper_of, lower_of}

-- a word as a number with a sign, and back
pub word-signed : (u : ℕ) → u < 2 ^ 32 → word (signed_of 32 u) ≡ u
word-signed u h = by_sign (nat_lt u (2 ^ 31))
  where
    by_sign : (b : Bool) → word (if b then pos u else negsuc (2 ^ 32 - 1 - u)) ≡ u
    by_sign true = omega arith
    by_sign false = omega arith

pub word-lower : (w : ℕ) → word (lower_of w) ≡ ((w + 2 ^ 11) % 2 ^ 12 + 2 ^ 32 - 2 ^ 11) % 2 ^ 32
word-lower w = word-difference ((w + 2 ^ 11) % 2 ^ 12) (2 ^ 11) (omega arith) (omega arith)

pub upper-small : (w : ℕ) → upper_of w < 2 ^ 32
upper-small w = omega arith

-- the two parts of a word together
pub parts-joined : (w : ℕ) → w < 2 ^ 32 → (upper_of w + word (lower_of w)) % 2 ^ 32 ≡ w
parts-joined w h = ap (λ x. (upper_of w + x) % 2 ^ 32) (word-lower w) ∙ omega arith

-- a word whose upper part is 0 is its lower part
pub short-joined : (w : ℕ) → w < 2 ^ 32 → upper_of w ≡ 0 → (0 + word (lower_of w)) % 2 ^ 32 ≡ w
short-joined w h e = ap (λ u. (u + word (lower_of w)) % 2 ^ 32) (sym e) ∙ parts-joined w h

-- and one whose low 12 bits are 0 is its upper part
pub upper-even : (w : ℕ) → w < 2 ^ 32 → w % 2 ^ 12 ≡ 0 → upper_of w ≡ w
upper-even w h e = omega arith

-- an address by its distance from another one
pub distance-joined : (from a : ℕ) → from < 2 ^ 32 → a < 2 ^ 32 → displaced from (pos a -ℤ pos from) ≡ a
distance-joined from a low h = ap (λ x. (from + x) % 2 ^ 32) (word-difference a from h low) ∙ omega arith

-- an address near the base
pub near-joined : (a : ℕ) → a < 2 ^ 32 → displaced base_address (pos a -ℤ pos base_address) ≡ a
near-joined a h = distance-joined base_address a (omega arith) h

pub word-plus-none : (w : ℕ) → w < 2 ^ 32 → (w + word (pos 0)) % 2 ^ 32 ≡ w
word-plus-none w h = omega arith

pub zero-test : (n : ℕ) → n ≡ 0 → (n == 0) ≡ true
zero-test n e = ap (λ x. x == 0) e

pub test-zero : (n : ℕ) → (n == 0) ≡ true → n ≡ 0
test-zero n e = grind (arith, nat_tests)

pub test-same : (a b : ℕ) → (a == b) ≡ true → a ≡ b
test-same a b e = grind (arith, nat_tests)
