-- Where addresses lead.
use Rattle.std.proofs.Common.{◌≡◌, ℕ, ◌+◌, Bool, true, false, List, [], ◌∷◌, Option, Some, None, refl, ap, ◌∙◌}
use Rattle.std.specs.Prelude.{◌%◌, ◌^◌, slice_index_or}
use Rattle.low_ir.specs.Code.{Base, Fixed, Through, Address}
use Rattle.low_ir.specs.declared.run.Value.{Value}
use Rattle.low_ir.specs.declared.run.Value.TheVariants.{Word, Pointer}
use Rattle.low_ir.specs.Effects.{Did, by_offset, from_base, is_member, only_if, resolved, there}
use Rattle.pass_common_subexpressions_law.specs.Facts.{Touches}

-- an address leads into an object, so many bytes behind its first, whatever is done there
pub record Leads (claims : List (List ℕ)) (a : Address ℕ) (os : Option (List Value)) (object bytes : ℕ) : Type 0 where
  pub goes : (go : ℕ → ℕ → Option Did) → there os (λ xs. resolved claims a xs go) ≡ go object bytes
  pub touches : Touches claims a.base object

-- or nowhere
pub data Way (claims : List (List ℕ)) (a : Address ℕ) (os : Option (List Value)) : Type 0 where
  Nowhere : (none : (go : ℕ → ℕ → Option Did) → there os (λ xs. resolved claims a xs go) ≡ None) → Way claims a os
  Somewhere : (object bytes : ℕ) (leads : Leads claims a os object bytes) → Way claims a os

data OffsetWay (offset : Option ℕ) (xs : List Value) : Type 0 where
  NoOffset : (none : (go : ℕ → Option Did) → by_offset offset xs go ≡ None) → OffsetWay offset xs
  ByOffset : (w : ℕ) (goes : (go : ℕ → Option Did) → by_offset offset xs go ≡ go w) → OffsetWay offset xs

offset_way : (offset : Option ℕ) (xs : List Value) → OffsetWay offset xs
offset_way None [] = ByOffset 0 (λ go. refl)
offset_way None (x ∷ xs) = NoOffset (λ go. refl)
offset_way (Some r) [] = NoOffset (λ go. refl)
offset_way (Some r) (Word w ∷ []) = ByOffset w (λ go. refl)
offset_way (Some r) (Pointer o n ∷ []) = NoOffset (λ go. refl)
offset_way (Some r) (x ∷ y ∷ xs) = NoOffset (λ go. refl)

data BaseWay (claims : List (List ℕ)) (base : Base ℕ) (xs : List Value) : Type 0 where
  NoBase : (none : (go : ℕ → ℕ → List Value → Option Did) → from_base claims base xs go ≡ None) → BaseWay claims base xs
  FromBase : (object bytes : ℕ) (rest : List Value) (goes : (go : ℕ → ℕ → List Value → Option Did) → from_base claims base xs go ≡ go object bytes rest) (touches : Touches claims base object) → BaseWay claims base xs

base_way : (claims : List (List ℕ)) (base : Base ℕ) (xs : List Value) → BaseWay claims base xs
base_way claims (Fixed o) xs = FromBase o 0 xs (λ go. refl) refl
base_way claims (Through r claim) [] = NoBase (λ go. refl)
base_way claims (Through r claim) (Word w ∷ xs) = NoBase (λ go. refl)
base_way claims (Through r claim) (Pointer o n ∷ xs) = by_member (is_member (slice_index_or claims claim []) o) refl
  where
    by_member : (b : Bool) → is_member (slice_index_or claims claim []) o ≡ b → BaseWay claims (Through r claim) (Pointer o n ∷ xs)
    by_member false e = NoBase (λ go. ap (λ b. only_if b (go o n xs)) e)
    by_member true e = FromBase o n xs (λ go. ap (λ b. only_if b (go o n xs)) e) e

module _ (claims : List (List ℕ)) (a : Address ℕ) (xs : List Value) where
  -- what is done behind the base
  behind_base : (go : ℕ → ℕ → Option Did) → ℕ → ℕ → List Value → Option Did
  behind_base go o n rest = by_offset a.offset rest (λ w. go o ((n + w + a.displacement) % 2 ^ 32))

  way_of : BaseWay claims a.base xs → Way claims a (Some xs)
  unfolding behind_base
  way_of (NoBase none) = Nowhere (λ go. none (behind_base go))
  way_of (FromBase o n rest goes touches) = by_way (offset_way a.offset rest)
    where
      by_way : OffsetWay a.offset rest → Way claims a (Some xs)
      by_way (NoOffset none) = Nowhere (λ go. goes (behind_base go) ∙ none (λ w. go o ((n + w + a.displacement) % 2 ^ 32)))
      by_way (ByOffset w goes2) = Somewhere o ((n + w + a.displacement) % 2 ^ 32) (record { goes = λ go. goes (behind_base go) ∙ goes2 (λ w. go o ((n + w + a.displacement) % 2 ^ 32)); touches = touches })

pub way : (claims : List (List ℕ)) (a : Address ℕ) (os : Option (List Value)) → Way claims a os
way claims a None = Nowhere (λ go. refl)
way claims a (Some xs) = way_of claims a xs (base_way claims a.base xs)
