-- What shifts and masks make of words of which few bits are kept.
use Rattle.std.proofs.Common.{◌≡◌, ℕ, ◌-◌, ◌*◌, ◌/◌, ◌%◌, ◌^◌, ◌<◌, ◌≤◌, true, false, nat_lt, pos, negsuc, sym, ap, ◌∙◌, ⊎_elim, arith}
use Rattle.std.specs.Prelude.{if◌then◌else◌}
use Rattle.std.proofs.lemmas.Nat.{and_mask}
use Rattle.std.proofs.lemmas.Bool.{cases_lt}
use Rattle.std.proofs.lemmas.Bool.Decides.{nat_tests}
use Rattle.wcc_base.specs.Signs.{signed_of}
use Rattle.wcc_base.specs.Words.{signed_word, wrapped, sign_filled, and_word, left_shift_word, right_shift_word, floor_shift, signed_right_shift_word}

pub low8-mask : (w : ℕ) → and_word w 255 ≡ w % 2 ^ 8
low8-mask w = and_mask w 8

pub low16-shifts : (w : ℕ) → right_shift_word (left_shift_word w 16) 16 ≡ w % 2 ^ 16
low16-shifts w = omega arith

filled8 : (x : ℕ) → x < 2 ^ 8 → wrapped (floor_shift (signed_word (x * 2 ^ 24)) 24) ≡ wrapped (signed_of 8 x)
filled8 x h = ⊎_elim
    (λ (less : x < 2 ^ 7).
    let low : nat_lt (x * 2 ^ 24) (2 ^ 31) ≡ true = grind (arith, nat_tests, less) in
    let low8 : nat_lt x (2 ^ 7) ≡ true = grind (arith, nat_tests, less) in
    let back : x * 2 ^ 24 / 2 ^ 24 ≡ x = omega arith in
    ap (λ b. wrapped (floor_shift (if b then pos (x * 2 ^ 24) else negsuc (2 ^ 32 - 1 - x * 2 ^ 24)) 24)) low ∙ ap (λ n. wrapped (pos n)) back ∙ sym (ap (λ b. wrapped (if b then pos x else negsuc (2 ^ 8 - 1 - x))) low8))
    (λ (more : 2 ^ 7 ≤ x).
    let low : nat_lt (x * 2 ^ 24) (2 ^ 31) ≡ false = grind (arith, nat_tests, more) in
    let low8 : nat_lt x (2 ^ 7) ≡ false = grind (arith, nat_tests, more) in
    let back : (2 ^ 32 - 1 - x * 2 ^ 24) / 2 ^ 24 ≡ 2 ^ 8 - 1 - x = omega (arith, h) in
    ap (λ b. wrapped (floor_shift (if b then pos (x * 2 ^ 24) else negsuc (2 ^ 32 - 1 - x * 2 ^ 24)) 24)) low ∙ ap (λ n. wrapped (negsuc n)) back ∙ sym (ap (λ b. wrapped (if b then pos x else negsuc (2 ^ 8 - 1 - x))) low8))
    (cases_lt x (2 ^ 7))

filled16 : (x : ℕ) → x < 2 ^ 16 → wrapped (floor_shift (signed_word (x * 2 ^ 16)) 16) ≡ wrapped (signed_of 16 x)
filled16 x h = ⊎_elim
    (λ (less : x < 2 ^ 15).
    let low : nat_lt (x * 2 ^ 16) (2 ^ 31) ≡ true = grind (arith, nat_tests, less) in
    let low16 : nat_lt x (2 ^ 15) ≡ true = grind (arith, nat_tests, less) in
    let back : x * 2 ^ 16 / 2 ^ 16 ≡ x = omega arith in
    ap (λ b. wrapped (floor_shift (if b then pos (x * 2 ^ 16) else negsuc (2 ^ 32 - 1 - x * 2 ^ 16)) 16)) low ∙ ap (λ n. wrapped (pos n)) back ∙ sym (ap (λ b. wrapped (if b then pos x else negsuc (2 ^ 16 - 1 - x))) low16))
    (λ (more : 2 ^ 15 ≤ x).
    let low : nat_lt (x * 2 ^ 16) (2 ^ 31) ≡ false = grind (arith, nat_tests, more) in
    let low16 : nat_lt x (2 ^ 15) ≡ false = grind (arith, nat_tests, more) in
    let back : (2 ^ 32 - 1 - x * 2 ^ 16) / 2 ^ 16 ≡ 2 ^ 16 - 1 - x = omega (arith, h) in
    ap (λ b. wrapped (floor_shift (if b then pos (x * 2 ^ 16) else negsuc (2 ^ 32 - 1 - x * 2 ^ 16)) 16)) low ∙ ap (λ n. wrapped (negsuc n)) back ∙ sym (ap (λ b. wrapped (if b then pos x else negsuc (2 ^ 16 - 1 - x))) low16))
    (cases_lt x (2 ^ 15))

pub fill8-shifts : (w : ℕ) → signed_right_shift_word (left_shift_word w 24) 24 ≡ sign_filled 8 w
fill8-shifts w =
    let up : left_shift_word w 24 ≡ w % 2 ^ 8 * 2 ^ 24 = omega arith in
    ap (λ n. wrapped (floor_shift (signed_word n) 24)) up ∙ filled8 (w % 2 ^ 8) (omega arith)

pub fill16-shifts : (w : ℕ) → signed_right_shift_word (left_shift_word w 16) 16 ≡ sign_filled 16 w
fill16-shifts w =
    let up : left_shift_word w 16 ≡ w % 2 ^ 16 * 2 ^ 16 = omega arith in
    ap (λ n. wrapped (floor_shift (signed_word n) 16)) up ∙ filled16 (w % 2 ^ 16) (omega arith)
