-- Offsets lead to their targets, and fit their fields where the target is near.
use Rattle.std.proofs.Common.{◌≡◌, ℕ, ◌+◌, ◌-◌, ◌*◌, ◌/◌, ◌%◌, ◌^◌, ◌<◌, ◌≤◌, ◌⊎◌, ⊎_elim, inl, inr, pos, negsuc, ◌-ℤ◌, true, ap, ◌∙◌, arith}
use Rattle.std.proofs.lemmas.Int.{ints}
use Rattle.std.proofs.lemmas.Bool.Decides.{leb_tells}
use Rattle.rv_core.specs.Arithmetic.{word, displaced}
use Rattle.rv_core.specs.Instructions.{is_within}
use Rattle.asm_items.specs.Offsets.{IsCodeAddress, offset, raised, upper_part, lower_part}

less_or : (m n : ℕ) → (m ≤ n) ⊎ (n < m)
less_or m n = ⊎_elim (λ h. inl h.1) (λ h. let k = h.1 in inr (omega arith)) (leb_tells m n)

-- the word of a difference
pub word-difference : (x y : ℕ) → x < 2 ^ 32 → y < 2 ^ 32 → word (pos x -ℤ pos y) ≡ (x + 2 ^ 32 - y) % 2 ^ 32
word-difference x y h k =
    ⊎_elim
    (λ (c : y ≤ x). let e : pos x -ℤ pos y ≡ pos (x - y) = omega (arith, ints) in ap word e ∙ omega arith)
    (λ (c : x < y). let e : pos x -ℤ pos y ≡ negsuc (y - x - 1) = omega (arith, ints) in ap word e ∙ omega arith)
    (less_or y x)

pub is_within-difference : (h x y : ℕ) → x < y + h → y ≤ x + h → is_within h (pos x -ℤ pos y) ≡ true
is_within-difference h x y a b = grind (arith, ints)

pub displaced-offset : (a to : ℕ) → IsCodeAddress a → IsCodeAddress to → displaced a (offset a to) ≡ to
displaced-offset a to h k =
    let small = h.low in
    let little = k.low in
    ap (λ w. (a + w) % 2 ^ 32) (word-difference to a (omega arith) (omega arith)) ∙ omega arith

-- the two parts of an offset lead to the target
pub displaced-parts : (a to : ℕ) → IsCodeAddress a → IsCodeAddress to → displaced (displaced a (upper_part a to)) (lower_part a to) / 2 * 2 ≡ to
displaced-parts a to h k =
    let small = h.low in
    let little = k.low in
    let even = k.aligned in
    let n = raised a to in
    let up : word (upper_part a to) ≡ (n / 2 ^ 12 * 2 ^ 12 + 2 ^ 32 - 2 ^ 30) % 2 ^ 32 = word-difference (n / 2 ^ 12 * 2 ^ 12) (2 ^ 30) (omega arith) (omega arith) in
    let low : word (lower_part a to) ≡ (n % 2 ^ 12 + 2 ^ 32 - 2 ^ 11) % 2 ^ 32 = word-difference (n % 2 ^ 12) (2 ^ 11) (omega arith) (omega arith) in
    ap (λ w. ((a + w) % 2 ^ 32 + word (lower_part a to)) % 2 ^ 32 / 2 * 2) up
    ∙ ap (λ w. ((a + (n / 2 ^ 12 * 2 ^ 12 + 2 ^ 32 - 2 ^ 30) % 2 ^ 32) % 2 ^ 32 + w) % 2 ^ 32 / 2 * 2) low
    ∙ omega arith
