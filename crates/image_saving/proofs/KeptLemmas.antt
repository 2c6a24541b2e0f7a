-- The registers in a mask, and one step of spreading needs.
use Rattle.std.proofs.Common.{◌≡◌, ◌≢◌, ◌⊎◌, inl, inr, ℕ, zero, suc, ◌-◌, ◌/◌, ◌%◌, ◌^◌, ◌<◌, ◌≤◌, Bool, true, false, List, [], ◌∷◌, length, refl, sym, ap, ◌∙◌, subst, arith, if◌then◌else◌}
use Rattle.std.specs.Prelude.{◌==◌, replicate, slice_index_or, slice_set}
use Rattle.std.proofs.lemmas.Bool.{cases_eq}
use Rattle.low_ir.specs.Effects.{is_member}
use Rattle.low_ir.specs.Places.{machine_registers, registers_of}
use Rattle.image_frames.specs.Registers.{holds}
use Rattle.image_saving.specs.Tables.{kept_list}
use Rattle.image_frames.specs.Needs.{Site, Outline, outline_at, spread_sites, spread}
use Rattle.image_frames.proofs.TableLemmas.{member_first}

-- numbers from n on are no members
no_member : (n mask q : ℕ) → n ≤ q → is_member (registers_of n mask) q ≡ false
no_member zero mask q h = refl
no_member (suc n) mask q h = by (mask / 2 ^ n % 2 == 1) (no_member n mask q (omega (arith, h)))
  where
    by : (b : Bool) → is_member (registers_of n mask) q ≡ false → is_member (if b then n ∷ registers_of n mask else registers_of n mask) q ≡ false
    by true r = let t : (n == q) ≡ false = grind (arith, h) in ap (λ (c : Bool). if c then true else is_member (registers_of n mask) q) t ∙ r
    by false r = r

pub registers_has : (n mask q : ℕ) → q < n → is_member (registers_of n mask) q ≡ (mask / 2 ^ q % 2 == 1)
registers_has zero mask q h = absurd (omega (arith, h))
registers_has (suc n) mask q h = by (cases_eq n q) (mask / 2 ^ n % 2 == 1) refl (λ l. registers_has n mask q l)
  where
    by : (n ≡ q) ⊎ (n ≢ q) → (b : Bool) → (mask / 2 ^ n % 2 == 1) ≡ b → (q < n → is_member (registers_of n mask) q ≡ (mask / 2 ^ q % 2 == 1)) → is_member (if b then n ∷ registers_of n mask else registers_of n mask) q ≡ (mask / 2 ^ q % 2 == 1)
    by (inl e) true k go = subst (λ y. is_member (n ∷ registers_of n mask) y ≡ true) e (member_first n (registers_of n mask)) ∙ (sym k ∙ ap (λ y. mask / 2 ^ y % 2 == 1) e)
    by (inl e) false k go = no_member n mask q (omega (arith, e)) ∙ (sym k ∙ ap (λ y. mask / 2 ^ y % 2 == 1) e)
    by (inr d) true k go = let t : (n == q) ≡ false = grind (arith, d) in ap (λ (c : Bool). if c then true else is_member (registers_of n mask) q) t ∙ go (omega (arith, h, d))
    by (inr d) false k go = go (omega (arith, h, d))

pub spread_down : (os : List Outline) (q n : ℕ) (needs : List Bool) → 0 < n → spread os q n needs ≡ spread os q (n - 1) (spread_sites os q (slice_index_or needs (n - 1) false) (holds (outline_at os (n - 1)).written q) (outline_at os (n - 1)).sites needs)
spread_down os q zero needs h = absurd (omega (arith, h))
spread_down os q (suc n) needs h =
    let e : n ≡ suc n - 1 = omega arith in
    ap (λ m. spread os q m (spread_sites os q (slice_index_or needs m false) (holds (outline_at os m).written q) (outline_at os m).sites needs)) e

pub set_past : (t : List Bool) (i : ℕ) (b : Bool) → length t ≤ i → slice_set t i b ≡ t
set_past [] i b h = refl
set_past (x ∷ t) zero b h = absurd (omega (arith, h))
set_past (x ∷ t) (suc i) b h = ap (λ r. x ∷ r) (set_past t i b (omega (arith, h)))

nothing : (n q : ℕ) → false ≡ holds (replicate n false) q
nothing zero q = refl
nothing (suc n) zero = refl
nothing (suc n) (suc q) = nothing n q

pub passed_past : (os : List Outline) (f q : ℕ) → length os ≤ f → holds (outline_at os f).passed q ≡ false
passed_past [] f q e = sym (nothing machine_registers q)
passed_past (o ∷ os) zero q e = absurd (omega (arith, e))
passed_past (o ∷ os) (suc f) q e = passed_past os f q (omega (arith, e))

pub written_past : (os : List Outline) (f q : ℕ) → length os ≤ f → holds (outline_at os f).written q ≡ false
written_past [] f q e = sym (nothing machine_registers q)
written_past (o ∷ os) zero q e = absurd (omega (arith, e))
written_past (o ∷ os) (suc f) q e = written_past os f q (omega (arith, e))

pub kept_below : (s : Site) (callee mask q : ℕ) → s ≡ record { callee = callee; kept = kept_list mask } → q < machine_registers → (mask / 2 ^ q % 2 == 1) ≡ is_member s.kept q
unfolding kept_list
kept_below s callee mask q e h = sym (ap (λ (x : Site). is_member x.kept q) e ∙ registers_has machine_registers mask q h)

pub kept_past : (s : Site) (callee mask q : ℕ) → s ≡ record { callee = callee; kept = kept_list mask } → machine_registers ≤ q → false ≡ is_member s.kept q
unfolding kept_list
kept_past s callee mask q e h = sym (ap (λ (x : Site). is_member x.kept q) e ∙ no_member machine_registers mask q h)
