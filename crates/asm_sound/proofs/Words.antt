-- Instructions for words and addresses keep their ranges.
use Rattle.std.proofs.Common.{◌≡◌, ℕ, ◌+◌, ◌-◌, ◌%◌, ◌^◌, ◌<◌, ◌≤◌, ◌==◌, ℤ, pos, negsuc, ◌-ℤ◌, Bool, true, false, ◌&&◌, List, [], ◌∷◌, refl, ap, ◌∙◌, arith, if◌then◌else◌}
use Rattle.std.specs.Prelude.{nat_lt, nat_le}
use Rattle.std.proofs.lemmas.Bool.{and_parts, and_from, lt-ltb}
use Rattle.std.proofs.lemmas.Bool.Decides.{nat_tests}
use Rattle.wcc_base.specs.Signs.{signed_of}
use Rattle.rv_core.specs.Arithmetic.{word}
use Rattle.rv_core.specs.Instructions.{Instruction, in_row, is_within, is_multiple, addi}
use Rattle.asm_items.specs.Items.{in_rows}
use Rattle.asm_items.proofs.OffsetLemmas.{is_within-difference}
use Rattle.asm_program.specs.Numbers.{ram, base, second_base, base_address, is_near, is_beside, upper_of, lower_of, load_upper, is_short, constant_code, reach_code, reach_register, reach_offset, object_code, object_register, object_offset, load_word, store_word, move_code}

pub alone : (i : Instruction) → in_row i ≡ true → in_rows (i ∷ []) ≡ true
alone i h = and_from (in_row i) true h refl

pub before : (i : Instruction) (is : List Instruction) → in_row i ≡ true → in_rows is ≡ true → in_rows (i ∷ is) ≡ true
before i is h k = and_from (in_row i) (in_rows is) h k

pub rows_if : (b : Bool) (is js : List Instruction) → in_rows is ≡ true → in_rows js ≡ true → in_rows (if b then is else js) ≡ true
rows_if true is js h k = h
rows_if false is js h k = k

pub small_if : (b : Bool) (x y : ℕ) → x < 32 → y < 32 → (if b then x else y) < 32
small_if true x y h k = h
small_if false x y h k = k

-- the word of a number with a sign
signed_by : (k : ℕ) (b : Bool) → nat_lt k (2 ^ 31) ≡ b → k < 2 ^ 32 → (is_within (2 ^ 31) (if b then pos k else negsuc (2 ^ 32 - 1 - k)) ≡ true) × (word (if b then pos k else negsuc (2 ^ 32 - 1 - k)) ≡ k)
signed_by k true t h = (t, omega arith)
signed_by k false t h = let far : nat_lt (2 ^ 32 - 1 - k) (2 ^ 31) ≡ true = grind (arith, nat_tests) in (far, omega arith)

pub upper_row : (r n : ℕ) → r < 32 → in_row (load_upper r n) ≡ true
upper_row r n h =
    let k = upper_of n in
    let s = signed_by k (nat_lt k (2 ^ 31)) refl (omega arith) in
    let none : k % 2 ^ 12 ≡ 0 = omega arith in
    let multiple : is_multiple 12 (signed_of 32 k) ≡ true = ap (λ w. w % 2 ^ 12 == 0) s.1 ∙ ap (λ m. m == 0) none in
    and_from (nat_lt r 32) (is_within (2 ^ 31) (signed_of 32 k) && is_multiple 12 (signed_of 32 k)) (lt-ltb r 32 h) (and_from (is_within (2 ^ 31) (signed_of 32 k)) (is_multiple 12 (signed_of 32 k)) s.0 multiple)

pub addi_row : (r s : ℕ) (o : ℤ) → r < 32 → s < 32 → is_within (2 ^ 11) o ≡ true → in_row (addi r s o) ≡ true
addi_row r s o h k w = and_from (nat_lt r 32) (nat_lt s 32 && is_within (2 ^ 11) o) (lt-ltb r 32 h) (and_from (nat_lt s 32) (is_within (2 ^ 11) o) (lt-ltb s 32 k) w)

pub load_row : (r s : ℕ) (o : ℤ) → r < 32 → s < 32 → is_within (2 ^ 11) o ≡ true → in_row (load_word r s o) ≡ true
load_row r s o h k w = and_from (nat_lt r 32) (nat_lt s 32 && is_within (2 ^ 11) o) (lt-ltb r 32 h) (and_from (nat_lt s 32) (is_within (2 ^ 11) o) (lt-ltb s 32 k) w)

pub store_row : (r s : ℕ) (o : ℤ) → r < 32 → s < 32 → is_within (2 ^ 11) o ≡ true → in_row (store_word r s o) ≡ true
store_row r s o h k w = and_from (nat_lt s 32) (nat_lt r 32 && is_within (2 ^ 11) o) (lt-ltb s 32 k) (and_from (nat_lt r 32) (is_within (2 ^ 11) o) (lt-ltb r 32 h) w)

pub lower_in : (n : ℕ) → is_within (2 ^ 11) (lower_of n) ≡ true
lower_in n = is_within-difference (2 ^ 11) ((n + 2 ^ 11) % 2 ^ 12) (2 ^ 11) (omega arith) (omega arith)

pub near_in : (a : ℕ) → is_near a ≡ true → is_within (2 ^ 11) (pos a -ℤ pos base_address) ≡ true
near_in a h =
    let b = and_parts (nat_le ram a) (nat_lt a (ram + 2 ^ 12)) h in
    let from = b.0 in
    let to = b.1 in
    let low : ram ≤ a = grind (arith, nat_tests) in
    let high : a < ram + 2 ^ 12 = grind (arith, nat_tests) in
    is_within-difference (2 ^ 11) a base_address (omega arith) (omega arith)

offset_by : (a : ℕ) (b : Bool) → is_near a ≡ b → is_within (2 ^ 11) (if b then pos a -ℤ pos base_address else lower_of a) ≡ true
offset_by a true t = near_in a t
offset_by a false t = lower_in a

pub reach_in : (a : ℕ) → is_within (2 ^ 11) (reach_offset a) ≡ true
reach_in a = offset_by a (is_near a) refl

pub reach_small : (t a : ℕ) → t < 32 → reach_register t a < 32
reach_small t a h = small_if (is_near a) base t (omega arith) h

pub reach_rows : (t a : ℕ) → t < 32 → in_rows (reach_code t a) ≡ true
reach_rows t a h = rows_if (is_near a) [] (load_upper t a ∷ []) refl (alone (load_upper t a) (upper_row t a h))

-- the same for addresses of arrays
pub beside_in : (second a : ℕ) → is_beside second a ≡ true → is_within (2 ^ 11) (pos a -ℤ pos second) ≡ true
beside_in second a h =
    let b = and_parts (nat_le second (a + 2 ^ 11)) (nat_lt a (second + 2 ^ 11)) h in
    let from = b.0 in
    let to = b.1 in
    let low : second ≤ a + 2 ^ 11 = grind (arith, nat_tests) in
    let high : a < second + 2 ^ 11 = grind (arith, nat_tests) in
    is_within-difference (2 ^ 11) a second (omega arith) (omega arith)

object_by : (second a : ℕ) (b : Bool) → is_beside second a ≡ b → is_within (2 ^ 11) (if b then pos a -ℤ pos second else reach_offset a) ≡ true
object_by second a true t = beside_in second a t
object_by second a false t = reach_in a

pub object_in : (second a : ℕ) → is_within (2 ^ 11) (object_offset second a) ≡ true
object_in second a = object_by second a (is_beside second a) refl

pub object_small : (second t a : ℕ) → t < 32 → object_register second t a < 32
object_small second t a h = small_if (is_beside second a) second_base (reach_register t a) (omega arith) (reach_small t a h)

pub object_rows : (second t a : ℕ) → t < 32 → in_rows (object_code second t a) ≡ true
object_rows second t a h = rows_if (is_beside second a) [] (reach_code t a) refl (reach_rows t a h)

pub constant_rows : (r n : ℕ) → r < 32 → in_rows (constant_code r n) ≡ true
constant_rows r n h =
    rows_if (is_short n) (addi r 0 (lower_of n) ∷ []) (if n % 2 ^ 12 == 0 then load_upper r n ∷ [] else load_upper r n ∷ addi r r (lower_of n) ∷ []) (alone (addi r 0 (lower_of n)) (addi_row r 0 (lower_of n) h (omega arith) (lower_in n)))
    (rows_if (n % 2 ^ 12 == 0) (load_upper r n ∷ []) (load_upper r n ∷ addi r r (lower_of n) ∷ []) (alone (load_upper r n) (upper_row r n h))
    (before (load_upper r n) (addi r r (lower_of n) ∷ []) (upper_row r n h) (alone (addi r r (lower_of n)) (addi_row r r (lower_of n) h h (lower_in n)))))

pub move_rows : (r s : ℕ) → r < 32 → s < 32 → in_rows (move_code r s) ≡ true
move_rows r s h k = rows_if (r == s) [] (addi r s (pos 0) ∷ []) refl (alone (addi r s (pos 0)) (addi_row r s (pos 0) h k refl))
