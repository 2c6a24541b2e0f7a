-- What renamed instructions read, write and do.
use Rattle.std.proofs.Common.{◌≡◌, ℕ, ◌+◌, List, [], ◌∷◌, ◌++◌, Option, Some, None, refl, ap}
use Rattle.std.specs.Prelude.{◌%◌, ◌^◌, map, option_map}
use Rattle.low_ir.specs.Code.{Base, Fixed, Through, Address, Plain, Set, Operate, Point, Load, Store, Put, Get}
use Rattle.low_ir.specs.declared.run.Value.{Value}
use Rattle.low_ir.specs.declared.run.Value.TheVariants.{Word, Pointer}
use Rattle.low_ir.specs.Effects.{World, Did, reads, dest, effect, effect_of, base_reads, offset_reads, from_base, resolved, nothing_more, with_one, word, gives, changes, there, loaded, stored, with_objects}
use Rattle.pass_copy_propagation_law.specs.Renaming.{renamed_address, renamed_base, renamed_into, renamed_operand, renamed_plain}

module _ (name : ℕ → ℕ) where
  reads_in_address : (base : Base ℕ) (offset : Option ℕ) → base_reads (renamed_base name base) ++ offset_reads (option_map name offset) ≡ map (renamed_operand name) (base_reads base ++ offset_reads offset)
  reads_in_address (Fixed o) None = refl
  reads_in_address (Fixed o) (Some r) = refl
  reads_in_address (Through r claim) None = refl
  reads_in_address (Through r claim) (Some q) = refl

  base_renamed : (claims : List (List ℕ)) (base : Base ℕ) (xs : List Value) (go : ℕ → ℕ → List Value → Option Did) → from_base claims (renamed_base name base) xs go ≡ from_base claims base xs go
  base_renamed claims (Fixed o) xs go = refl
  base_renamed claims (Through r claim) xs go = refl

  address_renamed : (claims : List (List ℕ)) (base : Base ℕ) (offset : Option ℕ) (n : ℕ) (xs : List Value) (go : ℕ → ℕ → Option Did) → resolved claims (renamed_address name (record { base = base; offset = offset; displacement = n })) xs go ≡ resolved claims (record { base = base; offset = offset; displacement = n }) xs go
  address_renamed claims base None n xs go = base_renamed claims base xs (λ o m rest. nothing_more rest (go o ((m + 0 + n) % 2 ^ 32)))
  address_renamed claims base (Some r) n xs go = base_renamed claims base xs (λ o m rest. with_one rest (λ x. word x (λ w. go o ((m + w + n) % 2 ^ 32))))

  resolved_renamed : (claims : List (List ℕ)) (a : Address ℕ) (xs : List Value) (go : ℕ → ℕ → Option Did) → resolved claims (renamed_address name a) xs go ≡ resolved claims a xs go
  resolved_renamed claims a xs go = address_renamed claims a.base a.offset a.displacement xs go

  pub reads_renamed : (into : ℕ) (i : Plain ℕ) → reads (renamed_plain name into i) ≡ map (renamed_operand name) (reads i)
  reads_renamed into (Set d x) = refl
  reads_renamed into (Operate operator d x y) = refl
  reads_renamed into (Point d a) = reads_in_address a.base a.offset
  reads_renamed into (Load kind d a) = reads_in_address a.base a.offset
  reads_renamed into (Store kind a x) = ap (λ xs. renamed_operand name x ∷ xs) (reads_in_address a.base a.offset)
  reads_renamed into (Put x) = refl
  reads_renamed into (Get d) = refl

  pub dest_renamed : (into : ℕ) (i : Plain ℕ) → dest (renamed_plain name into i) ≡ renamed_into into (dest i)
  dest_renamed into (Set d x) = refl
  dest_renamed into (Operate operator d x y) = refl
  dest_renamed into (Point d a) = refl
  dest_renamed into (Load kind d a) = refl
  dest_renamed into (Store kind a x) = refl
  dest_renamed into (Put x) = refl
  dest_renamed into (Get d) = refl

  effect_renamed : (into : ℕ) (claims : List (List ℕ)) (i : Plain ℕ) (xs : List Value) (u : World) → effect claims (renamed_plain name into i) xs u ≡ effect claims i xs u
  effect_renamed into claims (Set d x) xs u = refl
  effect_renamed into claims (Operate operator d x y) xs u = refl
  effect_renamed into claims (Point d a) xs u = resolved_renamed claims a xs (λ o n. gives u (Pointer o n))
  effect_renamed into claims (Load kind d a) xs u = resolved_renamed claims a xs (λ o n. there (loaded u.objects kind o n) (λ w. gives u (Word w)))
  effect_renamed into claims (Store kind a x) [] u = refl
  effect_renamed into claims (Store kind a x) (Word w ∷ xs) u = resolved_renamed claims a xs (λ o n. there (stored u.objects kind o n w) (λ objects. changes (with_objects u objects)))
  effect_renamed into claims (Store kind a x) (Pointer o n ∷ xs) u = refl
  effect_renamed into claims (Put x) xs u = refl
  effect_renamed into claims (Get d) xs u = refl

  pub effects_renamed : (into : ℕ) (claims : List (List ℕ)) (i : Plain ℕ) (os : Option (List Value)) (u : World) → effect_of claims (renamed_plain name into i) os u ≡ effect_of claims i os u
  effects_renamed into claims i None u = refl
  effects_renamed into claims i (Some xs) u = effect_renamed into claims i xs u
