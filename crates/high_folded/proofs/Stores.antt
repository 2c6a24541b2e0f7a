-- Conversions before a store, which keeps the low bits alone.
use Rattle.std.proofs.Common.{◌≡◌, ℕ, ◌-◌, ◌%◌, Bool, true, false, nat_lt, List, [], ◌∷◌, ◌++◌, length, pos, negsuc, Option, Some, None, refl, sym, ap, subst, arith}
use Rattle.std.specs.Prelude.{nat_le, ◌&&◌, if◌then◌else◌, slice_get, slice_set}
use Rattle.std.proofs.lemmas.Bool.{false≢true}
use Rattle.wcc_base.specs.Signs.{signed_of}
use Rattle.wcc_base.specs.Words.{wrapped}
use Rattle.high_ir.specs.declared.object.Array.{Array}
use Rattle.high_ir.specs.declared.object.Kind.{Kind}
use Rattle.high_ir.specs.declared.object.Kind.TheVariants.{Unsigned8, Signed8, Unsigned16, Signed16, Word}
use Rattle.high_ir.specs.Meaning.{Contents, World, at_value, can_store, keep, object_number, only_if, put, stored, with_array}
use Rattle.high_ir.specs.Words.{converted, same_kind}
use Rattle.high_folded.specs.Ranges.{bits}
use Rattle.high_folded.proofs.Fitting.{one_kind}

above8 : (w : ℕ) → w % 256 % 4294967296 % 256 ≡ w % 256
above8 w = omega arith

below8 : (w : ℕ) → (4294967295 - (255 - w % 256) % 4294967296) % 256 ≡ w % 256
below8 w = omega arith

above16 : (w : ℕ) → w % 65536 % 4294967296 % 65536 ≡ w % 65536
above16 w = omega arith

below16 : (w : ℕ) → (4294967295 - (65535 - w % 65536) % 4294967296) % 65536 ≡ w % 65536
below16 w = omega arith

byte_of_half : (x w : ℕ) → x % 65536 ≡ w % 65536 → x % 256 ≡ w % 256
byte_of_half x w same = omega (arith, same)

filled8 : (b : Bool) (w : ℕ) → wrapped (if b then pos (w % 256) else negsuc (255 - w % 256)) % 256 ≡ w % 256
filled8 true w = above8 w
filled8 false w = below8 w

filled16 : (b : Bool) (w : ℕ) → wrapped (if b then pos (w % 65536) else negsuc (65535 - w % 65536)) % 65536 ≡ w % 65536
filled16 true w = above16 w
filled16 false w = below16 w

byte_same : (w : ℕ) → w % 256 % 256 ≡ w % 256
byte_same w = omega arith

half_same : (w : ℕ) → w % 65536 % 65536 ≡ w % 65536
half_same w = omega arith

-- a conversion leaves the low byte, and one to two bytes leaves these
pub low_byte : (kind : Kind) (w : ℕ) → converted kind w % 256 ≡ w % 256
unfolding converted
low_byte Unsigned8 w = byte_same w
low_byte Signed8 w = filled8 (nat_lt (w % 256) 128) w
low_byte Unsigned16 w = byte_of_half (w % 65536) w (half_same w)
low_byte Signed16 w = byte_of_half (wrapped (signed_of 16 (w % 65536))) w (filled16 (nat_lt (w % 65536) 32768) w)
low_byte Word w = refl

low_half : (kind : Kind) (w : ℕ) → nat_le 16 (bits kind) ≡ true → converted kind w % 65536 ≡ w % 65536
unfolding converted
low_half Unsigned8 w t = absurd (false≢true t)
low_half Signed8 w t = absurd (false≢true t)
low_half Unsigned16 w t = half_same w
low_half Signed16 w t = filled16 (nat_lt (w % 65536) 32768) w
low_half Word w t = refl

whole_word : (kind : Kind) (w : ℕ) → nat_le 32 (bits kind) ≡ true → converted kind w ≡ w
unfolding converted
whole_word Unsigned8 w t = absurd (false≢true t)
whole_word Signed8 w t = absurd (false≢true t)
whole_word Unsigned16 w t = absurd (false≢true t)
whole_word Signed16 w t = absurd (false≢true t)
whole_word Word w t = refl

-- a kind keeps the same of a number that was converted to one of as many bits
pub converted_before : (kind wide : Kind) (w : ℕ) → nat_le (bits kind) (bits wide) ≡ true → converted kind (converted wide w) ≡ converted kind w
unfolding converted
converted_before Unsigned8 wide w t = low_byte wide w
converted_before Signed8 wide w t = ap (λ n. wrapped (signed_of 8 n)) (low_byte wide w)
converted_before Unsigned16 wide w t = low_half wide w t
converted_before Signed16 wide w t = ap (λ n. wrapped (signed_of 16 n)) (low_half wide w t)
converted_before Word wide w t = whole_word wide w t

pub put_converted : (kind : Kind) (w : World) (v : ℕ) → put w (converted kind v) ≡ put w v
put_converted kind w v = ap (λ c. record { objects = w.objects; input = w.input; output = w.output ++ c ∷ [] }) (low_byte kind v)

-- a store into an array of a kind
stored_converted : (c : Contents) (kind wide : Kind) (i v : ℕ) → same_kind c.kind kind ≡ true → nat_le (bits kind) (bits wide) ≡ true → stored c i (converted wide v) ≡ stored c i v
stored_converted c kind wide i v same t =
    let one : c.kind ≡ kind = one_kind c.kind kind same in
    let kept : converted c.kind (converted wide v) ≡ converted c.kind v = converted_before c.kind wide v (subst (λ k. nat_le (bits k) (bits wide) ≡ true) (sym one) t) in
    ap (λ x. only_if (can_store c.storage && nat_lt i (length c.elements)) (Some (record { kind = c.kind; storage = c.storage; elements = slice_set c.elements i (Some x) }))) kept

module _ (passed : List ℕ) (w : World) (array : Array) (wide : Kind) (i v : ℕ) (t : nat_le (bits array.kind) (bits wide) ≡ true) where
  abbrev kept_in : ℕ → Option Contents → ℕ → Option World
  kept_in n o x = at_value o (λ c. at_value (stored c i x) (λ d. Some (with_array w n d)))

  by_kind : (n : ℕ) (c : Contents) (b : Bool) → same_kind c.kind array.kind ≡ b → kept_in n (only_if b (Some c)) (converted wide v) ≡ kept_in n (only_if b (Some c)) v
  by_kind n c false is = refl
  by_kind n c true is = ap (λ o. at_value o (λ d. Some (with_array w n d))) (stored_converted c array.kind wide i v is t)

  by_object : (n : ℕ) (o : Option Contents) → kept_in n (at_value o (λ c. only_if (same_kind c.kind array.kind) (Some c))) (converted wide v) ≡ kept_in n (at_value o (λ c. only_if (same_kind c.kind array.kind) (Some c))) v
  by_object n None = refl
  by_object n (Some c) = by_kind n c (same_kind c.kind array.kind) refl

  by_number : (o p : Option ℕ) →
      at_value o (λ n. kept_in n (at_value p (λ m. at_value (slice_get w.objects m) (λ c. only_if (same_kind c.kind array.kind) (Some c)))) (converted wide v))
      ≡ at_value o (λ n. kept_in n (at_value p (λ m. at_value (slice_get w.objects m) (λ c. only_if (same_kind c.kind array.kind) (Some c)))) v)
  by_number None p = refl
  by_number (Some n) None = refl
  by_number (Some n) (Some m) = by_object n (slice_get w.objects m)

  pub keep_converted : keep passed w array i (converted wide v) ≡ keep passed w array i v
  keep_converted = by_number (object_number passed array.base) (object_number passed array.base)
