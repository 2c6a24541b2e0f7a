-- The registers of a mask, one by one.
use Rattle.std.proofs.Common.{◌≡◌, ℕ, suc, ◌+◌, Bool, true, false, List, ◌∷◌, Option, None, refl, sym, ap, ◌∙◌, arith}
use Rattle.std.specs.Prelude.{◌/◌, ◌%◌, ◌^◌, ◌==◌, if◌then◌else◌, slice_index_or, slice_set}
use Rattle.low_ir.specs.declared.run.Value.{Value}
use Rattle.low_ir.specs.Places.{kept_of, registers_of}
use Rattle.low_ir.specs.Runs.{Bank}

module _ (mask n : ℕ) (s : Bank) where
  by_bit : (b : Bool) → kept_of (if b then n ∷ registers_of n mask else registers_of n mask) s ≡ (if b then slice_set (kept_of (registers_of n mask) s) n (slice_index_or s n None) else kept_of (registers_of n mask) s)
  by_bit true = refl
  by_bit false = refl

  pub one_more : (kept new : List (Option Value)) → kept ≡ kept_of (registers_of n mask) s → new ≡ (if mask / 2 ^ n % 2 == 1 then slice_set kept n (slice_index_or s n None) else kept) → new ≡ kept_of (registers_of (n + 1) mask) s
  one_more kept new before set =
      let e : suc n ≡ n + 1 = omega arith in
      set
      ∙ ap (λ k. if mask / 2 ^ n % 2 == 1 then slice_set k n (slice_index_or s n None) else k) before
      ∙ sym (by_bit (mask / 2 ^ n % 2 == 1))
      ∙ ap (λ k. kept_of (registers_of k mask) s) e
