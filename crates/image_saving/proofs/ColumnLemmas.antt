-- Columns of needs, and one step of a choice of registers.
use Rattle.std.proofs.Common.{◌≡◌, ℕ, zero, suc, ◌+◌, ◌-◌, ◌<◌, Bool, true, List, [], ◌∷◌, ◌++◌, map, sym, ap, ◌∙◌, arith, if◌then◌else◌}
use Rattle.std.specs.Prelude.{slice_index_or}
use Rattle.std.specs.List.{range_with_len}
use Rattle.std.proofs.lemmas.List.{append_assoc}
use Rattle.std.proofs.lemmas.List.FromFn.{map-range_with_len_more}
use Rattle.low_ir.specs.Places.{machine_registers}
use Rattle.image_frames.specs.Registers.{chosen}
use Rattle.image_frames.specs.Needs.{Outline, needing}
use Rattle.image_saving.specs.Saved.{columns_of}

in_range : (f : ℕ → List Bool) (n k q : ℕ) → q < n → slice_index_or (map f (range_with_len k n)) q [] ≡ f (k + q)
in_range f zero k q h = absurd (omega (arith, h))
in_range f (suc n) k zero h = let e : k ≡ k + 0 = omega arith in ap f e
in_range f (suc n) k (suc q) h =
    let e : k + 1 + q ≡ k + suc q = omega arith in
    in_range f n (k + 1) q (omega (arith, h)) ∙ ap f e

pub column_is : (os : List Outline) (q : ℕ) → q < machine_registers → slice_index_or (columns_of os) q [] ≡ needing os q
column_is os q h =
    let e : 0 + q ≡ q = omega arith in
    in_range (needing os) machine_registers 0 q h ∙ ap (needing os) e

pub chosen_down : (test : ℕ → Bool) (n : ℕ) → 0 < n → chosen test n ≡ (if test (n - 1) then (n - 1) ∷ chosen test (n - 1) else chosen test (n - 1))
chosen_down test zero h = absurd (omega (arith, h))
chosen_down test (suc n) h =
    let e : n ≡ suc n - 1 = omega arith in
    ap (λ m. if test m then m ∷ chosen test m else chosen test m) e

pub columns_more : (f : ℕ → List Bool) (i : ℕ) (before after : List (List Bool)) (x : List Bool) → before ≡ map f (range_with_len 0 i) → after ≡ before ++ x ∷ [] → x ≡ f i → after ≡ map f (range_with_len 0 (i + 1))
columns_more f i before after x h push e =
    push ∙ (ap (λ l. l ++ x ∷ []) h ∙ (ap (λ y. map f (range_with_len 0 i) ++ y ∷ []) e ∙ sym (map-range_with_len_more f 0 i i (omega arith))))

pub chosen_push : (test : ℕ → Bool) (n : ℕ) (before after all : List ℕ) → 0 < n → test (n - 1) ≡ true → after ≡ before ++ (n - 1) ∷ [] → before ++ chosen test n ≡ all → after ++ chosen test (n - 1) ≡ all
chosen_push test n before after all some passes push h =
    let next : chosen test n ≡ (n - 1) ∷ chosen test (n - 1) = chosen_down test n some ∙ ap (λ b. if b then (n - 1) ∷ chosen test (n - 1) else chosen test (n - 1)) passes in
    ap (λ l. l ++ chosen test (n - 1)) push ∙ (append_assoc before ((n - 1) ∷ []) (chosen test (n - 1)) ∙ (ap (λ l. before ++ l) (sym next) ∙ h))
