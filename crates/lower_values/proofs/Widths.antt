-- Kinds of elements in both forms.
use Rattle.std.proofs.Common.{◌≡◌, ℕ, ◌+◌, ◌-◌, ◌*◌, ◌/◌, ◌%◌, ◌^◌, ◌<◌, ◌≤◌, Bool, true, false, nat_lt, pos, negsuc, refl, sym, ap, ◌∙◌, arith}
use Rattle.std.specs.Prelude.{◌==◌, if◌then◌else◌}
use Rattle.std.proofs.lemmas.Int.{ints}
use Rattle.std.specs.Int.{w32, cast_unsigned}
use Rattle.rv_core.specs.Arithmetic.{extended}
use Rattle.wcc_base.specs.Signs.{signed_of}
use Rattle.wcc_base.specs.Words.{wrapped, left_shift_word}
use Rattle.high_ir.specs.declared.object.Kind.{Kind as HighKind}
use Rattle.high_ir.specs.declared.object.Kind.TheVariants as kinds
use Rattle.high_ir.specs.Words as high
use Rattle.low_ir.specs.Kinds.{converted, kind_bytes, kind_number, same_kind}
use Rattle.lower_definition.specs.Objects.{kind_of, scale_of}
use Rattle.lower_definition.specs.Values.{bytes}
use Rattle.lower_values.proofs.Kept.{keeps, converted-keeps}

kind_number-kind_of : (k : HighKind) → kind_number (kind_of k) ≡ high.kind_number k
kind_number-kind_of kinds.Unsigned8 = refl
kind_number-kind_of kinds.Signed8 = refl
kind_number-kind_of kinds.Unsigned16 = refl
kind_number-kind_of kinds.Signed16 = refl
kind_number-kind_of kinds.Word = refl

pub same_kind-kind_of : (a b : HighKind) → same_kind (kind_of a) (kind_of b) ≡ high.same_kind a b
same_kind-kind_of a b = ap (λ n. n == kind_number (kind_of b)) (kind_number-kind_of a) ∙ ap (λ n. high.kind_number a == n) (kind_number-kind_of b)

pub kind_bytes-kind_of : (k : HighKind) → kind_bytes (kind_of k) ≡ 2 ^ scale_of k
kind_bytes-kind_of kinds.Unsigned8 = refl
kind_bytes-kind_of kinds.Signed8 = refl
kind_bytes-kind_of kinds.Unsigned16 = refl
kind_bytes-kind_of kinds.Signed16 = refl
kind_bytes-kind_of kinds.Word = refl

cast_positive : (n : ℕ) → n < 2 ^ 31 → cast_unsigned w32 (pos n) ≡ wrapped (pos n)
cast_positive n small = omega (arith, ints, small)

cast_negative : (n : ℕ) → n < 2 ^ 31 → cast_unsigned w32 (negsuc n) ≡ wrapped (negsuc n)
cast_negative n small = omega (arith, ints, small)

cast_either : (b : Bool) (m n : ℕ) → m < 2 ^ 31 → n < 2 ^ 31 → cast_unsigned w32 (if b then pos m else negsuc n) ≡ wrapped (if b then pos m else negsuc n)
cast_either true m n hm hn = cast_positive m hm
cast_either false m n hm hn = cast_negative n hn

cast_filled8 : (x : ℕ) → x < 2 ^ 8 → cast_unsigned w32 (signed_of 8 x) ≡ wrapped (signed_of 8 x)
cast_filled8 x h = cast_either (nat_lt x (2 ^ 7)) x (2 ^ 8 - 1 - x) (omega (arith, h)) (omega (arith, h))

cast_filled16 : (x : ℕ) → x < 2 ^ 16 → cast_unsigned w32 (signed_of 16 x) ≡ wrapped (signed_of 16 x)
cast_filled16 x h = cast_either (nat_lt x (2 ^ 15)) x (2 ^ 16 - 1 - x) (omega (arith, h)) (omega (arith, h))

low_keeps : (k : HighKind) (w : ℕ) → w < 2 ^ 32 → converted (kind_of k) w ≡ keeps k w
unfolding converted extended
low_keeps kinds.Unsigned8 w small = refl
low_keeps kinds.Signed8 w small = cast_filled8 (w % 2 ^ 8) (omega arith)
low_keeps kinds.Unsigned16 w small = refl
low_keeps kinds.Signed16 w small = cast_filled16 (w % 2 ^ 16) (omega arith)
low_keeps kinds.Word w small = omega (arith, small)

pub converted-kind_of : (k : HighKind) (w : ℕ) → w < 2 ^ 32 → converted (kind_of k) w ≡ high.converted k w
converted-kind_of k w small = low_keeps k w small ∙ sym (converted-keeps k w)

-- the offset of an element, from the parts of its index
pub bytes_sum : (k : HighKind) (a c v : ℕ) → (a + c) % 2 ^ 32 ≡ v → (bytes (scale_of k) a + bytes (scale_of k) c) % 2 ^ 32 ≡ bytes (scale_of k) v
bytes_sum kinds.Unsigned8 a c v e = omega (arith, e)
bytes_sum kinds.Signed8 a c v e = omega (arith, e)
bytes_sum kinds.Unsigned16 a c v e = omega (arith, e)
bytes_sum kinds.Signed16 a c v e = omega (arith, e)
bytes_sum kinds.Word a c v e = omega (arith, e)

pub bytes_whole : (k : HighKind) (a v : ℕ) → a % 2 ^ 32 ≡ v → bytes (scale_of k) a % 2 ^ 32 ≡ bytes (scale_of k) v
bytes_whole kinds.Unsigned8 a v e = omega (arith, e)
bytes_whole kinds.Signed8 a v e = omega (arith, e)
bytes_whole kinds.Unsigned16 a v e = omega (arith, e)
bytes_whole kinds.Signed16 a v e = omega (arith, e)
bytes_whole kinds.Word a v e = omega (arith, e)

-- an element that is there has an offset of its own
pub record IsAt (k : HighKind) (n i : ℕ) : Type 0 where
  pub whole : n % 2 ^ scale_of k ≡ 0
  pub place : n / 2 ^ scale_of k ≡ i

pub bytes_at : (k : HighKind) (i size : ℕ) → i < size → 2 ^ scale_of k * size ≤ 2 ^ 32 → IsAt k (bytes (scale_of k) i) i
bytes_at kinds.Unsigned8 i size inside fits = record { whole = omega arith; place = omega (arith, inside, fits) }
bytes_at kinds.Signed8 i size inside fits = record { whole = omega arith; place = omega (arith, inside, fits) }
bytes_at kinds.Unsigned16 i size inside fits = record { whole = omega (arith, inside, fits); place = omega (arith, inside, fits) }
bytes_at kinds.Signed16 i size inside fits = record { whole = omega (arith, inside, fits); place = omega (arith, inside, fits) }
bytes_at kinds.Word i size inside fits = record { whole = omega (arith, inside, fits); place = omega (arith, inside, fits) }

-- a shift by the scale
pub shift_bytes : (k : ℕ) (v : ℕ) → k < 32 → left_shift_word v k ≡ bytes k v
shift_bytes k v small =
    let same : k % 32 ≡ k = omega (arith, small) in
    let turned : v * 2 ^ k ≡ 2 ^ k * v = omega arith in
    ap (λ n. v * 2 ^ n % 2 ^ 32) same ∙ ap (λ n. n % 2 ^ 32) turned

pub scale_small : (k : HighKind) → scale_of k < 32
scale_small kinds.Unsigned8 = omega arith
scale_small kinds.Signed8 = omega arith
scale_small kinds.Unsigned16 = omega arith
scale_small kinds.Signed16 = omega arith
scale_small kinds.Word = omega arith
