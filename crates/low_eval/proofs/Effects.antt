-- An instruction does the same from its operands as from the list of their values.
use Rattle.std.proofs.Common.{◌≡◌, ℕ, ◌+◌, Bool, true, false, List, [], ◌++◌, Option, Some, None, refl, ◌∙◌}
use Rattle.std.specs.Prelude.{slice_index_or, ◌%◌, ◌^◌}
use Rattle.rv_core.specs.declared.row.Alu.{Alu}
use Rattle.rv_core.specs.Arithmetic.{alu_value}
use Rattle.low_ir.specs.Code.{Base, Fixed, Through, Address, Plain, Set, Operate, Point, Load, Store, Put, Get}
use Rattle.low_ir.specs.declared.run.Value.{Value}
use Rattle.low_ir.specs.declared.run.Value.TheVariants.{Word, Pointer}
use Rattle.low_ir.specs.Effects.{World, Did, gives, changes, there, only_if, is_member, loaded, stored, with_objects, put, reads, base_reads, offset_reads, effect_of, resolved, word, with_one, with_next}
use Rattle.low_ir.specs.Runs.{Registers, operand_value, values, values_cons}
use Rattle.low_eval.specs.declared.bank.Located.{Located}
use Rattle.low_eval.specs.Direct.{word_of, pointer_within, base_value, offset_value, address_value, direct}

set_direct : (o : Option Value) (u : World) → there (values_cons o (Some [])) (λ xs. with_one xs (gives u)) ≡ there o (gives u)
set_direct None u = refl
set_direct (Some x) u = refl

put_direct : (o : Option Value) (u : World) → there (values_cons o (Some [])) (λ xs. with_one xs (λ p. word p (λ w. changes (put u w)))) ≡ there (word_of o) (λ w. changes (put u w))
put_direct None u = refl
put_direct (Some (Word w)) u = refl
put_direct (Some (Pointer o n)) u = refl

operate_direct : (operator : Alu) (o1 o2 : Option Value) (u : World) → there (values_cons o1 (values_cons o2 (Some []))) (λ xs. with_next xs (λ p rest. with_one rest (λ q. word p (λ m. word q (λ n. gives u (Word (alu_value operator m n))))))) ≡ there (word_of o1) (λ m. there (word_of o2) (λ n. gives u (Word (alu_value operator m n))))
operate_direct operator None o2 u = refl
operate_direct operator (Some (Word m)) None u = refl
operate_direct operator (Some (Word m)) (Some (Word n)) u = refl
operate_direct operator (Some (Word m)) (Some (Pointer o k)) u = refl
operate_direct operator (Some (Pointer o k)) None u = refl
operate_direct operator (Some (Pointer o k)) (Some (Word n)) u = refl
operate_direct operator (Some (Pointer o k)) (Some (Pointer p j)) u = refl

-- an address from its base, the bytes of its register and its displacement
abbrev located : Option Located → Option ℕ → ℕ → (ℕ → ℕ → Option Did) → Option Did
located base offset displacement go = there base (λ l. there offset (λ w. go l.object ((l.bytes + w + displacement) % 2 ^ 32)))

-- so many bytes further on
abbrev further : Located → ℕ → ℕ → Located
further l w displacement = record { object = l.object; bytes = (l.bytes + w + displacement) % 2 ^ 32 }

there-located : (base : Option Located) (offset : Option ℕ) (displacement : ℕ) (go : ℕ → ℕ → Option Did) → located base offset displacement go ≡ there (there base (λ l. there offset (λ w. Some (further l w displacement)))) (λ l. go l.object l.bytes)
there-located None offset displacement go = refl
there-located (Some l) None displacement go = refl
there-located (Some l) (Some w) displacement go = refl

module _ {R : Type 0} (claims : List (List ℕ)) (displacement : ℕ) (go : ℕ → ℕ → Option Did) where
  abbrev from : Base R → Option R → List Value → Option Did
  from base offset xs = resolved claims (record { base = base; offset = offset; displacement = displacement }) xs go

  offset_direct : (r : R) (o : ℕ) (v : Option Value) → there (values_cons v (Some [])) (from (Fixed o) (Some r)) ≡ located (Some (record { object = o; bytes = 0 })) (word_of v) displacement go
  offset_direct r o None = refl
  offset_direct r o (Some (Word w)) = refl
  offset_direct r o (Some (Pointer p k)) = refl

  base_direct : (r : R) (claim : ℕ) (v : Option Value) → there (values_cons v (Some [])) (from (Through r claim) None) ≡ located (pointer_within (slice_index_or claims claim []) v) (Some 0) displacement go
  base_direct r claim None = refl
  base_direct r claim (Some (Word w)) = refl
  base_direct r claim (Some (Pointer o n)) = by_member (is_member (slice_index_or claims claim []) o)
    where
      by_member : (m : Bool) → only_if m (go o ((n + 0 + displacement) % 2 ^ 32)) ≡ located (only_if m (Some (record { object = o; bytes = n }))) (Some 0) displacement go
      by_member true = refl
      by_member false = refl

  both_direct : (r q : R) (claim : ℕ) (v w : Option Value) → there (values_cons v (values_cons w (Some []))) (from (Through r claim) (Some q)) ≡ located (pointer_within (slice_index_or claims claim []) v) (word_of w) displacement go
  both_direct r q claim None w = refl
  both_direct r q claim (Some (Word m)) None = refl
  both_direct r q claim (Some (Word m)) (Some w) = refl
  both_direct r q claim (Some (Pointer o n)) None = by_member (is_member (slice_index_or claims claim []) o)
    where
      by_member : (m : Bool) → None ≡ located (only_if m (Some (record { object = o; bytes = n }))) None displacement go
      by_member true = refl
      by_member false = refl
  both_direct r q claim (Some (Pointer o n)) (Some (Word w)) = by_member (is_member (slice_index_or claims claim []) o)
    where
      by_member : (m : Bool) → only_if m (go o ((n + w + displacement) % 2 ^ 32)) ≡ located (only_if m (Some (record { object = o; bytes = n }))) (Some w) displacement go
      by_member true = refl
      by_member false = refl
  both_direct r q claim (Some (Pointer o n)) (Some (Pointer p k)) = by_member (is_member (slice_index_or claims claim []) o)
    where
      by_member : (m : Bool) → only_if m None ≡ located (only_if m (Some (record { object = o; bytes = n }))) None displacement go
      by_member true = refl
      by_member false = refl

module _ {R K S : Type 0} (a : Registers R K S) (claims : List (List ℕ)) (s : S) where
  parts_direct : (base : Base R) (offset : Option R) (displacement : ℕ) (go : ℕ → ℕ → Option Did) → there (values a s (base_reads base ++ offset_reads offset)) (from claims displacement go base offset) ≡ located (base_value a claims s base) (offset_value a s offset) displacement go
  parts_direct (Fixed o) None displacement go = refl
  parts_direct (Fixed o) (Some r) displacement go = offset_direct claims displacement go r o (a.read s r)
  parts_direct (Through r claim) None displacement go = base_direct claims displacement go r claim (a.read s r)
  parts_direct (Through r claim) (Some q) displacement go = both_direct claims displacement go r q claim (a.read s r) (a.read s q)

  address_direct : (x : Address R) (go : ℕ → ℕ → Option Did) → there (values a s (base_reads x.base ++ offset_reads x.offset)) (λ xs. resolved claims x xs go) ≡ there (address_value a claims s x) (λ l. go l.object l.bytes)
  address_direct x go =
      parts_direct x.base x.offset x.displacement go
      ∙ there-located (base_value a claims s x.base) (offset_value a s x.offset) x.displacement go

  store_direct : (x : Address R) (go : ℕ → ℕ → ℕ → Option Did) (o : Option Value) → there (values_cons o (values a s (base_reads x.base ++ offset_reads x.offset))) (λ xs. with_next xs (λ p rest. word p (λ w. resolved claims x rest (go w)))) ≡ there (word_of o) (λ w. there (address_value a claims s x) (λ l. go w l.object l.bytes))
  store_direct x go None = refl
  store_direct x go (Some (Word w)) = by_values (values a s (base_reads x.base ++ offset_reads x.offset)) ∙ address_direct x (go w)
    where
      by_values : (os : Option (List Value)) → there (values_cons (Some (Word w)) os) (λ xs. with_next xs (λ p rest. word p (λ w. resolved claims x rest (go w)))) ≡ there os (λ xs. resolved claims x xs (go w))
      by_values None = refl
      by_values (Some xs) = refl
  store_direct x go (Some (Pointer o n)) = by_values (values a s (base_reads x.base ++ offset_reads x.offset))
    where
      by_values : (os : Option (List Value)) → there (values_cons (Some (Pointer o n)) os) (λ xs. with_next xs (λ p rest. word p (λ w. resolved claims x rest (go w)))) ≡ None
      by_values None = refl
      by_values (Some xs) = refl

  pub effect-direct : (i : Plain R) (u : World) → effect_of claims i (values a s (reads i)) u ≡ direct a claims s u i
  effect-direct (Set d x) u = set_direct (operand_value a s x) u
  effect-direct (Operate operator d x y) u = operate_direct operator (operand_value a s x) (operand_value a s y) u
  effect-direct (Point d x) u = address_direct x (λ o n. gives u (Pointer o n))
  effect-direct (Load kind d x) u = address_direct x (λ o n. there (loaded u.objects kind o n) (λ w. gives u (Word w)))
  effect-direct (Store kind x y) u = store_direct x (λ w o n. there (stored u.objects kind o n w) (λ objects. changes (with_objects u objects))) (operand_value a s y)
  effect-direct (Put x) u = put_direct (operand_value a s x) u
  effect-direct (Get d) u = refl
