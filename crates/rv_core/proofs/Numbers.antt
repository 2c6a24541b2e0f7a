-- What is read of some bytes behind a write.
use Rattle.std.proofs.Common.{◌≡◌, ◌≢◌, ◌⊎◌, ℕ, ◌+◌, ◌*◌, ◌/◌, ◌%◌, ◌^◌, ◌<◌, ◌≤◌, arith, ◌∙◌, List, length, inl, inr}
use Rattle.std.specs.Prelude.{slice_index, slice_set}
use Rattle.std.proofs.lemmas.List.{get_or-set_same, get_or-set_other, length-set}
use Rattle.rv_core.specs.declared.row.Width.{Width}
use Rattle.rv_core.specs.declared.row.Width.TheVariants.{Byte, Half, Word}
use Rattle.rv_core.specs.Arithmetic.{byte_count}
use Rattle.rv_core.specs.Memory.{number_at, with_number}

pub length-with_number : (w : Width) (bytes : List ℕ) (k v : ℕ) → length (with_number w bytes k v) ≡ length bytes
unfolding with_number
length-with_number Byte bytes k v = length-set bytes k (v % 2 ^ 8)
length-with_number Half bytes k v = length-set (slice_set bytes k (v % 2 ^ 8)) (k + 1) (v / 2 ^ 8 % 2 ^ 8) ∙ length-set bytes k (v % 2 ^ 8)
length-with_number Word bytes k v =
    let b1 = slice_set bytes k (v % 2 ^ 8) in
    let b2 = slice_set b1 (k + 1) (v / 2 ^ 8 % 2 ^ 8) in
    let b3 = slice_set b2 (k + 2) (v / 2 ^ 16 % 2 ^ 8) in
    length-set b3 (k + 3) (v / 2 ^ 24 % 2 ^ 8) ∙ length-set b2 (k + 2) (v / 2 ^ 16 % 2 ^ 8) ∙ length-set b1 (k + 1) (v / 2 ^ 8 % 2 ^ 8) ∙ length-set bytes k (v % 2 ^ 8)

-- a place outside the n bytes from k on is none of them
outside : (n k j i : ℕ) → (j < k) ⊎ (k + n ≤ j) → i < n → j ≢ k + i
outside n k j i (inl below) less e = omega (arith, below, e)
outside n k j i (inr above) less e = omega (arith, above, less, e)

other : (bytes : List ℕ) (k j v : ℕ) → j ≢ k → slice_index (slice_set bytes k v) j ≡ slice_index bytes j
other bytes k j v h = get_or-set_other bytes k j v 0 h

at_zero : (n k j : ℕ) → (j < k) ⊎ (k + n ≤ j) → 0 < n → j ≢ k
at_zero n k j (inl below) less e = omega (arith, below, e)
at_zero n k j (inr above) less e = omega (arith, above, less, e)

-- a byte outside a write
pub byte-outside : (w : Width) (bytes : List ℕ) (k v j : ℕ) → (j < k) ⊎ (k + byte_count w ≤ j) → slice_index (with_number w bytes k v) j ≡ slice_index bytes j
unfolding with_number
byte-outside Byte bytes k v j h = other bytes k j (v % 2 ^ 8) (at_zero 1 k j h (omega arith))
byte-outside Half bytes k v j h =
    other (slice_set bytes k (v % 2 ^ 8)) (k + 1) j (v / 2 ^ 8 % 2 ^ 8) (outside 2 k j 1 h (omega arith))
    ∙ other bytes k j (v % 2 ^ 8) (at_zero 2 k j h (omega arith))
byte-outside Word bytes k v j h =
    let b1 = slice_set bytes k (v % 2 ^ 8) in
    let b2 = slice_set b1 (k + 1) (v / 2 ^ 8 % 2 ^ 8) in
    let b3 = slice_set b2 (k + 2) (v / 2 ^ 16 % 2 ^ 8) in
    other b3 (k + 3) j (v / 2 ^ 24 % 2 ^ 8) (outside 4 k j 3 h (omega arith))
    ∙ other b2 (k + 2) j (v / 2 ^ 16 % 2 ^ 8) (outside 4 k j 2 h (omega arith))
    ∙ other b1 (k + 1) j (v / 2 ^ 8 % 2 ^ 8) (outside 4 k j 1 h (omega arith))
    ∙ other bytes k j (v % 2 ^ 8) (at_zero 4 k j h (omega arith))

-- the bytes of a number that is read outside a write are outside
byte-of : (n m k j i : ℕ) → (j + m ≤ k) ⊎ (k + n ≤ j) → i < m → (j + i < k) ⊎ (k + n ≤ j + i)
byte-of n m k j i (inl below) less = inl (omega (arith, below, less))
byte-of n m k j i (inr above) less = inr (omega (arith, above))

first-of : (n m k j : ℕ) → (j + m ≤ k) ⊎ (k + n ≤ j) → 0 < m → (j < k) ⊎ (k + n ≤ j)
first-of n m k j (inl below) less = inl (omega (arith, below, less))
first-of n m k j (inr above) less = inr above

-- a number outside a write
pub number_at-beside : (w r : Width) (bytes : List ℕ) (k v j : ℕ) → (j + byte_count r ≤ k) ⊎ (k + byte_count w ≤ j) → number_at r (with_number w bytes k v) j ≡ number_at r bytes j
unfolding number_at
number_at-beside w Byte bytes k v j h = byte-outside w bytes k v j (first-of (byte_count w) 1 k j h (omega arith))
number_at-beside w Half bytes k v j h =
    let e0 = byte-outside w bytes k v j (first-of (byte_count w) 2 k j h (omega arith)) in
    let e1 = byte-outside w bytes k v (j + 1) (byte-of (byte_count w) 2 k j 1 h (omega arith)) in
    omega (arith, e0, e1)
number_at-beside w Word bytes k v j h =
    let e0 = byte-outside w bytes k v j (first-of (byte_count w) 4 k j h (omega arith)) in
    let e1 = byte-outside w bytes k v (j + 1) (byte-of (byte_count w) 4 k j 1 h (omega arith)) in
    let e2 = byte-outside w bytes k v (j + 2) (byte-of (byte_count w) 4 k j 2 h (omega arith)) in
    let e3 = byte-outside w bytes k v (j + 3) (byte-of (byte_count w) 4 k j 3 h (omega arith)) in
    omega (arith, e0, e1, e2, e3)

same : (bytes : List ℕ) (k v : ℕ) → k < length bytes → slice_index (slice_set bytes k v) k ≡ v
same bytes k v h = get_or-set_same bytes k v 0 h

apart : (k i j : ℕ) → i ≢ j → k + i ≢ k + j
apart k i j h e = h (omega (arith, e))

apart_zero : (k j : ℕ) → 0 < j → k ≢ k + j
apart_zero k j h e = omega (arith, e)

-- the number that was put is found
pub number_at-with_number : (w : Width) (bytes : List ℕ) (k v : ℕ) → k + byte_count w ≤ length bytes → number_at w (with_number w bytes k v) k ≡ v % 2 ^ (8 * byte_count w)
unfolding number_at with_number
number_at-with_number Byte bytes k v h = same bytes k (v % 2 ^ 8) (omega arith)
number_at-with_number Half bytes k v h =
    let b1 = slice_set bytes k (v % 2 ^ 8) in
    let l1 = length-set bytes k (v % 2 ^ 8) in
    let e0 = other b1 (k + 1) k (v / 2 ^ 8 % 2 ^ 8) (apart_zero k 1 (omega arith)) ∙ same bytes k (v % 2 ^ 8) (omega arith) in
    let e1 = same b1 (k + 1) (v / 2 ^ 8 % 2 ^ 8) (omega (arith, l1)) in
    omega (arith, e0, e1)
number_at-with_number Word bytes k v h =
    let b1 = slice_set bytes k (v % 2 ^ 8) in
    let b2 = slice_set b1 (k + 1) (v / 2 ^ 8 % 2 ^ 8) in
    let b3 = slice_set b2 (k + 2) (v / 2 ^ 16 % 2 ^ 8) in
    let v3 = v / 2 ^ 24 % 2 ^ 8 in
    let v2 = v / 2 ^ 16 % 2 ^ 8 in
    let v1 = v / 2 ^ 8 % 2 ^ 8 in
    let l1 = length-set bytes k (v % 2 ^ 8) in
    let l2 = length-set b1 (k + 1) v1 in
    let l3 = length-set b2 (k + 2) v2 in
    let e0 =
    other b3 (k + 3) k v3 (apart_zero k 3 (omega arith)) ∙ other b2 (k + 2) k v2 (apart_zero k 2 (omega arith))
    ∙ other b1 (k + 1) k v1 (apart_zero k 1 (omega arith)) ∙ same bytes k (v % 2 ^ 8) (omega arith) in
    let e1 =
    other b3 (k + 3) (k + 1) v3 (apart k 1 3 (λ e. omega (arith, e))) ∙ other b2 (k + 2) (k + 1) v2 (apart k 1 2 (λ e. omega (arith, e)))
    ∙ same b1 (k + 1) v1 (omega (arith, l1)) in
    let e2 = other b3 (k + 3) (k + 2) v3 (apart k 2 3 (λ e. omega (arith, e))) ∙ same b2 (k + 2) v2 (omega (arith, l1, l2)) in
    let e3 = same b3 (k + 3) v3 (omega (arith, l1, l2, l3)) in
    omega (arith, e0, e1, e2, e3)
