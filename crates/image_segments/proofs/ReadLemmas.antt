-- What is read at an address of segments that lie one behind the other.
use Rattle.std.proofs.Common.{◌≡◌, ℕ, zero, suc, ◌+◌, ◌-◌, ◌<◌, ◌≤◌, Bool, true, false, List, [], ◌∷◌, length, replicate, refl, sym, ap, ◌∙◌, subst, arith, if◌then◌else◌}
use Rattle.std.specs.Prelude.{Some, ◌&&◌, nat_le, slice_index_or}
use Rattle.std.proofs.lemmas.Bool.Decides.{nat_tests}
use Rattle.std.proofs.lemmas.List.{length-append, length-replicate}
use Rattle.rv_core.specs.declared.image.Segment.{Segment}
use Rattle.rv_core.specs.declared.row.Width.{Width}
use Rattle.rv_core.specs.declared.row.Width.TheVariants.{Byte, Half, Word}
use Rattle.rv_core.specs.Arithmetic.{byte_count}
use Rattle.rv_core.specs.Memory.{Block, block_of, loaded, number_at, read_from}
use Rattle.rv_core.specs.Images.{IsSegment}
use Rattle.image_segments.proofs.OrderLemmas.{AreOrdered}

some_bytes : (w : Width) → 0 < byte_count w
some_bytes Byte = omega arith
some_bytes Half = omega arith
some_bytes Word = omega arith

block_size : (s : Segment) → IsSegment s → length (block_of s).bytes ≡ s.size
block_size s h =
    let filled = h.filled in
    let zeros = length-replicate {A = ℕ} (s.size - length s.bytes) 0 in
    length-append s.bytes (replicate (s.size - length s.bytes) 0) ∙ omega (arith, filled, zeros)

-- a block before the address, and the block that holds it
skips : (w : Width) (b : Block) (bs : List Block) (a : ℕ) → b.at + length b.bytes ≤ a → read_from (λ c. c.read) w (b ∷ bs) a ≡ read_from (λ c. c.read) w bs a
skips w b bs a h = by (b.read && (nat_le b.at a && nat_le (a + byte_count w) (b.at + length b.bytes))) (none b.read (nat_le b.at a) (nat_le (a + byte_count w) (b.at + length b.bytes)) past)
  where
    past : nat_le (a + byte_count w) (b.at + length b.bytes) ≡ false
    past = let s = some_bytes w in grind (arith, nat_tests, h, s)

    none : (x y z : Bool) → z ≡ false → (x && (y && z)) ≡ false
    none true true z e = e
    none true false z e = refl
    none false y z e = refl

    by : (t : Bool) → t ≡ false → (if t then Some (number_at w b.bytes (a - b.at)) else read_from (λ c. c.read) w bs a) ≡ read_from (λ c. c.read) w bs a
    by true e = cc
    by false e = refl

finds : (w : Width) (b : Block) (bs : List Block) (a : ℕ) → b.read ≡ true → b.at ≤ a → a + byte_count w ≤ b.at + length b.bytes → read_from (λ c. c.read) w (b ∷ bs) a ≡ Some (number_at w b.bytes (a - b.at))
finds w b bs a r low high = by (b.read && (nat_le b.at a && nat_le (a + byte_count w) (b.at + length b.bytes))) (all b.read (nat_le b.at a) (nat_le (a + byte_count w) (b.at + length b.bytes)) r (grind (arith, nat_tests, low)) (grind (arith, nat_tests, high)))
  where
    all : (x y z : Bool) → x ≡ true → y ≡ true → z ≡ true → (x && (y && z)) ≡ true
    all true true true e f g = refl
    all true true false e f g = g
    all true false z e f g = cc
    all false y z e f g = cc

    by : (t : Bool) → t ≡ true → (if t then Some (number_at w b.bytes (a - b.at)) else read_from (λ c. c.read) w bs a) ≡ Some (number_at w b.bytes (a - b.at))
    by true e = refl
    by false e = cc

pub start_behind : (low : ℕ) (ss : List Segment) (k : ℕ) (s : Segment) → AreOrdered low ss → k < length ss → slice_index_or ss k s ≡ s → low ≤ s.at
start_behind low [] k s o less e = absurd (omega (arith, less))
start_behind low (t ∷ ss) zero s o less e = subst (λ (x : Segment). low ≤ x.at) e o.0
start_behind low (t ∷ ss) (suc k) s o less e = let h = start_behind (t.at + t.size) ss k s o.2 (omega (arith, less)) e in let a = o.0 in omega (arith, h, a)

pub read_in : (w : Width) (low : ℕ) (ss : List Segment) (k : ℕ) (s : Segment) (a : ℕ) → AreOrdered low ss → k < length ss → slice_index_or ss k s ≡ s → s.read ≡ true → s.at ≤ a → a + byte_count w ≤ s.at + s.size
    → read_from (λ b. b.read) w (loaded ss) a ≡ Some (number_at w (block_of s).bytes (a - s.at))
read_in w low [] k s a o less e r from to = absurd (omega (arith, less))
read_in w low (t ∷ ss) zero s a o less e r from to =
    let size = block_size t o.1 in
    let same : t ≡ s = e in
    let r2 = subst (λ (x : Segment). x.read ≡ true) (sym same) r in
    let f2 = subst (λ (x : Segment). x.at ≤ a) (sym same) from in
    let t2 = subst (λ (x : Segment). a + byte_count w ≤ x.at + x.size) (sym same) to in
    finds w (block_of t) (loaded ss) a r2 f2 (subst (λ n. a + byte_count w ≤ t.at + n) (sym size) t2) ∙ ap (λ (x : Segment). Some (number_at w (block_of x).bytes (a - x.at))) same
read_in w low (t ∷ ss) (suc k) s a o less e r from to =
    let size = block_size t o.1 in
    let behind = start_behind (t.at + t.size) ss k s o.2 (omega (arith, less)) e in
    skips w (block_of t) (loaded ss) a (subst (λ n. t.at + n ≤ a) (sym size) (omega (arith, behind, from))) ∙ read_in w (t.at + t.size) ss k s a o.2 (omega (arith, less)) e r from to
