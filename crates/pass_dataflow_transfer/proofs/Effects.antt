-- What instructions do, and what they teach by it.
use Rattle.std.proofs.Common.{◌≡◌, ℕ, ◌+◌, Bool, true, false, List, [], Option, Some, None, refl, sym, ap, ◌∙◌}
use Rattle.std.specs.Prelude.{◌%◌, ◌^◌, slice_index_or}
use Rattle.std.proofs.lemmas.Option.{same_Some}
use Rattle.rv_core.specs.declared.row.Alu.{Alu}
use Rattle.rv_core.specs.Arithmetic.{alu_value}
use Rattle.low_ir.specs.declared.object.Kind.{Kind}
use Rattle.low_ir.specs.declared.run.Value.{Value}
use Rattle.low_ir.specs.declared.run.Value.TheVariants.{Word, Pointer}
use Rattle.low_ir.specs.Code.{Address, Base, Fixed, Through, Operand, Set, Operate, Load, Store}
use Rattle.low_ir.specs.Effects.{Did, World, address_reads, changes, effect_of, gives, is_member, loaded, only_if, resolved, stored, there, with_objects, word}
use Rattle.low_ir.specs.Runs.{Bank, operand_value, values, values_cons, virtual}
use Rattle.pass_strength_reduction_law.specs.Knowing.{done_by}
use Rattle.pass_dataflow_transfer.specs.Learning.{Adds, Begins}

-- an operation found two words
pub record Operated (op : Alu) (x y : Operand ℕ) (s : Bank) (did : Did) : Type 0 where
  pub first : ℕ
  pub second : ℕ
  pub left : operand_value virtual s x ≡ Some (Word first)
  pub right : operand_value virtual s y ≡ Some (Word second)
  pub is : did.value ≡ Word (alu_value op first second)

pub operated : (claims : List (List ℕ)) (op : Alu) (d : ℕ) (x y : Operand ℕ) (s : Bank) (u : World) (did : Did) → done_by claims (Operate op d x y) s u ≡ Some did → Operated op x y s did
operated claims op d x y s u did e = by_values (operand_value virtual s x) (operand_value virtual s y) refl refl e
  where
    by_values : (o p : Option Value) → operand_value virtual s x ≡ o → operand_value virtual s y ≡ p → effect_of claims (Operate op d x y) (values_cons o (values_cons p (Some []))) u ≡ Some did → Operated op x y s did
    by_values None p ex ey h = cc
    by_values (Some a) None ex ey h = cc
    by_values (Some (Pointer o n)) (Some b) ex ey h = cc
    by_values (Some (Word m)) (Some (Pointer o n)) ex ey h = cc
    by_values (Some (Word m)) (Some (Word n)) ex ey h =
        record { first = m; second = n; left = ex; right = ey; is = ap (λ (z : Did). z.value) (sym (same_Some (record { world = u; value = Word (alu_value op m n) }) did h)) }

-- a register was set to what an operand holds
pub was_set : (claims : List (List ℕ)) (d : ℕ) (x : Operand ℕ) (s : Bank) (u : World) (did : Did) → done_by claims (Set d x) s u ≡ Some did → operand_value virtual s x ≡ Some did.value
was_set claims d x s u did e = by_value (operand_value virtual s x) refl e
  where
    by_value : (o : Option Value) → operand_value virtual s x ≡ o → effect_of claims (Set d x) (values_cons o (Some [])) u ≡ Some did → operand_value virtual s x ≡ Some did.value
    by_value None ex h = cc
    by_value (Some v) ex h = ex ∙ ap (λ (z : Did). Some z.value) (same_Some (record { world = u; value = v }) did h)

-- an address led to a byte of an array
pub record Resolved (claims : List (List ℕ)) (a : Address ℕ) (s : Bank) (go : ℕ → ℕ → Option Did) (did : Did) : Type 0 where
  pub object : ℕ
  pub bytes : ℕ
  pub more : ℕ
  pub begins : Begins claims a.base s object bytes
  pub adds : Adds a.offset s more
  pub is : go object ((bytes + more + a.displacement) % 2 ^ 32) ≡ Some did

abbrev pub lead : List (List ℕ) → Address ℕ → Option (List Value) → (ℕ → ℕ → Option Did) → Option Did
lead claims a os go = there os (λ xs. resolved claims a xs go)

abbrev address : Base ℕ → Option ℕ → ℕ → Address ℕ
address b o n = record { base = b; offset = o; displacement = n }

module _ (claims : List (List ℕ)) (s : Bank) (n : ℕ) (go : ℕ → ℕ → Option Did) (did : Did) where
  resolve_parts : (b : Base ℕ) (off : Option ℕ) → lead claims (address b off n) (values virtual s (address_reads (address b off n))) go ≡ Some did → Resolved claims (address b off n) s go did
  resolve_parts (Fixed o) None e = record { object = o; bytes = 0; more = 0; begins = record { is = (refl, refl); may = tt }; adds = refl; is = e }
  resolve_parts (Fixed o) (Some r) e = by_value (slice_index_or s r None) refl e
    where
      by_value : (v : Option Value) → slice_index_or s r None ≡ v → lead claims (address (Fixed o) (Some r) n) (values_cons v (Some [])) go ≡ Some did → Resolved claims (address (Fixed o) (Some r) n) s go did
      by_value None k h = cc
      by_value (Some (Pointer p m)) k h = cc
      by_value (Some (Word w)) k h = record { object = o; bytes = 0; more = w; begins = record { is = (refl, refl); may = tt }; adds = k; is = h }
  resolve_parts (Through r c) None e = by_value (slice_index_or s r None) refl e
    where
      by_value : (v : Option Value) → slice_index_or s r None ≡ v → lead claims (address (Through r c) None n) (values_cons v (Some [])) go ≡ Some did → Resolved claims (address (Through r c) None n) s go did
      by_value None k h = cc
      by_value (Some (Word w)) k h = cc
      by_value (Some (Pointer o m)) k h = by_member (is_member (slice_index_or claims c []) o) refl h
        where
          by_member : (b : Bool) → is_member (slice_index_or claims c []) o ≡ b → only_if b (go o ((m + 0 + n) % 2 ^ 32)) ≡ Some did → Resolved claims (address (Through r c) None n) s go did
          by_member false i h = cc
          by_member true i h = record { object = o; bytes = m; more = 0; begins = record { is = k; may = i }; adds = refl; is = h }
  resolve_parts (Through r c) (Some q) e = by_values (slice_index_or s r None) (slice_index_or s q None) refl refl e
    where
      by_values : (v w : Option Value) → slice_index_or s r None ≡ v → slice_index_or s q None ≡ w → lead claims (address (Through r c) (Some q) n) (values_cons v (values_cons w (Some []))) go ≡ Some did → Resolved claims (address (Through r c) (Some q) n) s go did
      by_values None w k l h = cc
      by_values (Some v) None k l h = cc
      by_values (Some (Word v)) (Some w) k l h = cc
      by_values (Some (Pointer o m)) (Some w) k l h = by_member (is_member (slice_index_or claims c []) o) w refl l h
        where
          by_member : (b : Bool) (w : Value) → is_member (slice_index_or claims c []) o ≡ b → slice_index_or s q None ≡ Some w → only_if b (word w (λ x. go o ((m + x + n) % 2 ^ 32))) ≡ Some did → Resolved claims (address (Through r c) (Some q) n) s go did
          by_member false w i l h = cc
          by_member true (Pointer p x) i l h = cc
          by_member true (Word x) i l h = record { object = o; bytes = m; more = x; begins = record { is = k; may = i }; adds = l; is = h }

pub resolve : (claims : List (List ℕ)) (a : Address ℕ) (s : Bank) (go : ℕ → ℕ → Option Did) (did : Did) → lead claims a (values virtual s (address_reads a)) go ≡ Some did → Resolved claims a s go did
resolve claims a s go did e = resolve_parts claims s a.displacement go did a.base a.offset e

-- and what leads there does the same
module _ (claims : List (List ℕ)) (s : Bank) (o k m n : ℕ) (go : ℕ → ℕ → Option Did) where
  reach_parts : (b : Base ℕ) (off : Option ℕ) → Begins claims b s o k → Adds off s m → lead claims (address b off n) (values virtual s (address_reads (address b off n))) go ≡ go o ((k + m + n) % 2 ^ 32)
  reach_parts (Fixed p) None begins adds =
      ap (λ x. go x ((0 + 0 + n) % 2 ^ 32)) begins.is.0 ∙ ap (λ x. go o ((x + 0 + n) % 2 ^ 32)) (sym begins.is.1) ∙ ap (λ x. go o ((k + x + n) % 2 ^ 32)) (sym adds)
  reach_parts (Fixed p) (Some r) begins adds =
      ap (λ v. lead claims (address (Fixed p) (Some r) n) (values_cons v (Some [])) go) adds
      ∙ ap (λ x. go x ((0 + m + n) % 2 ^ 32)) begins.is.0
      ∙ ap (λ x. go o ((x + m + n) % 2 ^ 32)) (sym begins.is.1)
  reach_parts (Through r c) None begins adds =
      ap (λ v. lead claims (address (Through r c) None n) (values_cons v (Some [])) go) begins.is
      ∙ ap (λ b. only_if b (go o ((k + 0 + n) % 2 ^ 32))) begins.may
      ∙ ap (λ x. go o ((k + x + n) % 2 ^ 32)) (sym adds)
  reach_parts (Through r c) (Some q) begins adds =
      ap (λ v. lead claims (address (Through r c) (Some q) n) (values_cons v (values_cons (slice_index_or s q None) (Some []))) go) begins.is
      ∙ ap (λ v. lead claims (address (Through r c) (Some q) n) (values_cons (Some (Pointer o k)) (values_cons v (Some []))) go) adds
      ∙ ap (λ b. only_if b (go o ((k + m + n) % 2 ^ 32))) begins.may

pub reach : (claims : List (List ℕ)) (a : Address ℕ) (s : Bank) (o k m : ℕ) (go : ℕ → ℕ → Option Did) → Begins claims a.base s o k → Adds a.offset s m → lead claims a (values virtual s (address_reads a)) go ≡ go o ((k + m + a.displacement) % 2 ^ 32)
reach claims a s o k m go begins adds = reach_parts claims s o k m a.displacement go a.base a.offset begins adds

-- a load gives a word
pub loaded_word : (claims : List (List ℕ)) (kind : Kind) (d : ℕ) (a : Address ℕ) (s : Bank) (u : World) (did : Did) → done_by claims (Load kind d a) s u ≡ Some did → (w : ℕ) × (did.value ≡ Word w)
loaded_word claims kind d a s u did e =
    let h = resolve claims a s (λ o n. there (loaded u.objects kind o n) (λ w. gives u (Word w))) did e in
    by_word (loaded u.objects kind h.object ((h.bytes + h.more + a.displacement) % 2 ^ 32)) h.is
  where
    by_word : (o : Option ℕ) → there o (λ w. gives u (Word w)) ≡ Some did → (w : ℕ) × (did.value ≡ Word w)
    by_word None k = cc
    by_word (Some w) k = (w, ap (λ (z : Did). z.value) (sym (same_Some (record { world = u; value = Word w }) did k)))

-- what stores do with the word that they found
abbrev pub storing : World → Kind → ℕ → ℕ → ℕ → Option Did
storing u kind w o n = there (stored u.objects kind o n w) (λ objects. changes (with_objects u objects))

pub record Stored (claims : List (List ℕ)) (kind : Kind) (a : Address ℕ) (x : Operand ℕ) (s : Bank) (u : World) (did : Did) : Type 0 where
  pub word : ℕ
  pub is : operand_value virtual s x ≡ Some (Word word)
  pub leads : lead claims a (values virtual s (address_reads a)) (storing u kind word) ≡ Some did

pub was_stored : (claims : List (List ℕ)) (kind : Kind) (a : Address ℕ) (x : Operand ℕ) (s : Bank) (u : World) (did : Did) → done_by claims (Store kind a x) s u ≡ Some did → Stored claims kind a x s u did
was_stored claims kind a x s u did e = by_values (operand_value virtual s x) (values virtual s (address_reads a)) refl refl e
  where
    by_values : (o : Option Value) (os : Option (List Value)) → operand_value virtual s x ≡ o → values virtual s (address_reads a) ≡ os → effect_of claims (Store kind a x) (values_cons o os) u ≡ Some did → Stored claims kind a x s u did
    by_values None os ex ey h = cc
    by_values (Some v) None ex ey h = cc
    by_values (Some (Pointer o n)) (Some xs) ex ey h = cc
    by_values (Some (Word w)) (Some xs) ex ey h = record { word = w; is = ex; leads = ap (λ os. lead claims a os (storing u kind w)) ey ∙ h }

pub stores : (claims : List (List ℕ)) (kind : Kind) (a : Address ℕ) (x : Operand ℕ) (s : Bank) (u : World) (did : Did) (w : ℕ) → operand_value virtual s x ≡ Some (Word w) → lead claims a (values virtual s (address_reads a)) (storing u kind w) ≡ Some did → done_by claims (Store kind a x) s u ≡ Some did
stores claims kind a x s u did w is e = ap (λ o. effect_of claims (Store kind a x) (values_cons o (values virtual s (address_reads a))) u) is ∙ by_values (values virtual s (address_reads a)) e
  where
    by_values : (os : Option (List Value)) → lead claims a os (storing u kind w) ≡ Some did → effect_of claims (Store kind a x) (values_cons (Some (Word w)) os) u ≡ Some did
    by_values None h = cc
    by_values (Some xs) h = h
