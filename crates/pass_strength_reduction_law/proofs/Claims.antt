-- Behind some claims there may be more: what an instruction does, it does still.
use Rattle.std.proofs.Common.{◌≡◌, ℕ, zero, suc, ◌+◌, Bool, true, false, List, [], ◌∷◌, ◌++◌, Option, Some, None, refl, ap, ◌∙◌}
use Rattle.std.specs.Prelude.{◌%◌, ◌^◌, slice_index_or}
use Rattle.low_ir.specs.declared.run.Value.{Value}
use Rattle.low_ir.specs.declared.run.Value.TheVariants.{Word, Pointer}
use Rattle.low_ir.specs.Code.{Base, Fixed, Through, Address, Plain, Set, Operate, Point, Load, Store, Put, Get}
use Rattle.low_ir.specs.Effects.{Did, World, by_offset, changes, effect, effect_of, from_base, gives, is_member, loaded, only_if, resolved, stored, there, with_objects}

-- the objects of a claim are those of the same claim
member_still : (claims more : List (List ℕ)) (c o : ℕ) → is_member (slice_index_or claims c []) o ≡ true → is_member (slice_index_or (claims ++ more) c []) o ≡ true
member_still [] more c o e = cc
member_still (x ∷ claims) more zero o e = e
member_still (x ∷ claims) more (suc c) o e = member_still claims more c o e

module _ (claims more : List (List ℕ)) where
  only_still : (c o : ℕ) (x : Option Did) (y : Did) → only_if (is_member (slice_index_or claims c []) o) x ≡ Some y → only_if (is_member (slice_index_or (claims ++ more) c []) o) x ≡ Some y
  only_still c o x y e = by_test (is_member (slice_index_or claims c []) o) refl e
    where
      by_test : (b : Bool) → is_member (slice_index_or claims c []) o ≡ b → only_if b x ≡ Some y → only_if (is_member (slice_index_or (claims ++ more) c []) o) x ≡ Some y
      by_test false t k = cc
      by_test true t k = ap (λ b. only_if b x) (member_still claims more c o t) ∙ k

  resolved_still : (a : Address ℕ) (xs : List Value) (go : ℕ → ℕ → Option Did) (y : Did) → resolved claims a xs go ≡ Some y → resolved (claims ++ more) a xs go ≡ Some y
  resolved_still a xs go y e = by_base a.base xs e
    where
      go_on : ℕ → ℕ → List Value → Option Did
      go_on o n rest = by_offset a.offset rest (λ w. go o ((n + w + a.displacement) % 2 ^ 32))

      by_base : (b : Base ℕ) (xs : List Value) → from_base claims b xs go_on ≡ Some y → from_base (claims ++ more) b xs go_on ≡ Some y
      by_base (Fixed o) xs e = e
      by_base (Through r c) [] e = e
      by_base (Through r c) (Word w ∷ rest) e = e
      by_base (Through r c) (Pointer o n ∷ rest) e = only_still c o (go_on o n rest) y e

  effect_still : (i : Plain ℕ) (xs : List Value) (u : World) (y : Did) → effect claims i xs u ≡ Some y → effect (claims ++ more) i xs u ≡ Some y
  effect_still (Set d x) xs u y e = e
  effect_still (Operate operator d x z) xs u y e = e
  effect_still (Point d a) xs u y e = resolved_still a xs (λ o n. gives u (Pointer o n)) y e
  effect_still (Load kind d a) xs u y e = resolved_still a xs (λ o n. there (loaded u.objects kind o n) (λ w. gives u (Word w))) y e
  effect_still (Store kind a x) [] u y e = e
  effect_still (Store kind a x) (Word w ∷ rest) u y e = resolved_still a rest (λ o n. there (stored u.objects kind o n w) (λ objects. changes (with_objects u objects))) y e
  effect_still (Store kind a x) (Pointer o n ∷ rest) u y e = e
  effect_still (Put x) xs u y e = e
  effect_still (Get d) xs u y e = e

  pub done_still : (i : Plain ℕ) (os : Option (List Value)) (u : World) (y : Did) → effect_of claims i os u ≡ Some y → effect_of (claims ++ more) i os u ≡ Some y
  done_still i None u y e = e
  done_still i (Some xs) u y e = effect_still i xs u y e
