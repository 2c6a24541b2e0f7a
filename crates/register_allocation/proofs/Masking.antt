-- The mask of a call.
use Rattle.std.proofs.Common.{◌≡◌, ◌≢◌, ◌⊎◌, inl, inr, ℕ, zero, suc, ◌+◌, ◌*◌, ◌/◌, ◌%◌, ◌^◌, ◌<◌, ◌≤◌, Bool, true, false, List, ◌∷◌, Option, None, refl, sym, ap, ◌∙◌, arith, w32, if◌then◌else◌}
use Rattle.std.specs.Prelude.{◌==◌, bit_or, slice_index_or}
use Rattle.std.specs.Int.{bit_at}
use Rattle.std.proofs.lemmas.Bool.{cases_eq}
use Rattle.std.proofs.lemmas.Nat.Bits.{bit_at_set_same, bit_at_set_other}
use Rattle.low_ir.specs.Effects.{is_member}
use Rattle.low_ir.specs.Places.{machine_registers, registers_of}
use Rattle.register_allocation.specs.declared.order.Lasting.{Lasting}
use Rattle.register_allocation.specs.Masks.{keeps, mask_below}

pub mask_next : (p : ℕ) (d : Option ℕ) (hs : List (Option Lasting)) (n : ℕ) → mask_below p d hs (n + 1) ≡ (if keeps p d (slice_index_or hs n None) then bit_or (mask_below p d hs n) (1 * 2 ^ n % 2 ^ 32) else mask_below p d hs n)
unfolding mask_below
mask_next p d hs n = let e : n + 1 ≡ suc n = omega arith in ap (mask_below p d hs) e

bit_kept : (p : ℕ) (d : Option ℕ) (hs : List (Option Lasting)) (m q : ℕ) → q < m → m ≤ 32 → keeps p d (slice_index_or hs q None) ≡ true → bit_at (mask_below p d hs m) q ≡ 1
unfolding mask_below
bit_kept p d hs zero q lt few k = absurd (omega (arith, lt))
bit_kept p d hs (suc m) q lt few k = by (cases_eq q m) (keeps p d (slice_index_or hs m None)) refl (λ l. bit_kept p d hs m q l (omega (arith, few)) k)
  where
    by : (q ≡ m) ⊎ (q ≢ m) → (b : Bool) → keeps p d (slice_index_or hs m None) ≡ b → (q < m → bit_at (mask_below p d hs m) q ≡ 1) →
        bit_at (if b then bit_or (mask_below p d hs m) (1 * 2 ^ m % 2 ^ 32) else mask_below p d hs m) q ≡ 1
    by (inl e) true h go =
        ap (bit_at (bit_or (mask_below p d hs m) (1 * 2 ^ m % 2 ^ 32))) e ∙ bit_at_set_same w32 (mask_below p d hs m) m (omega (arith, few))
    by (inl e) false h go = let t : false ≡ true = sym h ∙ (ap (λ r. keeps p d (slice_index_or hs r None)) (sym e) ∙ k) in cc
    by (inr n) true h go = bit_at_set_other w32 (mask_below p d hs m) m (omega (arith, few)) q n ∙ go (omega (arith, lt, n))
    by (inr n) false h go = go (omega (arith, lt, n))

-- a register whose bit is set is in the mask
has : (n mask q : ℕ) → q < n → (mask / 2 ^ q % 2 == 1) ≡ true → is_member (registers_of n mask) q ≡ true
has zero mask q h e = absurd (omega (arith, h))
has (suc n) mask q h e = by (cases_eq n q) (mask / 2 ^ n % 2 == 1) refl (λ l. has n mask q l e)
  where
    by : (n ≡ q) ⊎ (n ≢ q) → (b : Bool) → (mask / 2 ^ n % 2 == 1) ≡ b → (q < n → is_member (registers_of n mask) q ≡ true) → is_member (if b then n ∷ registers_of n mask else registers_of n mask) q ≡ true
    by (inl s) true k go = let t : (n == q) ≡ true = grind (arith, s) in ap (λ (c : Bool). if c then true else is_member (registers_of n mask) q) t
    by (inl s) false k go = let t : false ≡ true = sym k ∙ (ap (λ y. mask / 2 ^ y % 2 == 1) s ∙ e) in cc
    by (inr d) true k go = let t : (n == q) ≡ false = grind (arith, d) in ap (λ (c : Bool). if c then true else is_member (registers_of n mask) q) t ∙ go (omega (arith, h, d))
    by (inr d) false k go = go (omega (arith, h, d))

pub kept : (p : ℕ) (d : Option ℕ) (hs : List (Option Lasting)) (q : ℕ) → q < machine_registers → keeps p d (slice_index_or hs q None) ≡ true → is_member (registers_of machine_registers (mask_below p d hs machine_registers)) q ≡ true
kept p d hs q lt k =
    has machine_registers (mask_below p d hs machine_registers) q lt (ap (λ (b : ℕ). b == 1) (bit_kept p d hs machine_registers q lt (omega arith) k))
