-- What instructions teach.
use Rattle.std.proofs.Common.{◌≡◌, ◌<◌, ℕ, zero, suc, ◌+◌, true, List, [], ◌∷◌, length, Option, Some, None, refl, sym, ap, ◌∙◌, subst, arith}
use Rattle.std.specs.Prelude.{◌%◌, ◌^◌, slice_index_or, slice_set}
use Rattle.std.proofs.Math.Nat.{mod-mod}
use Rattle.std.proofs.lemmas.Option.{same_Some}
use Rattle.std.proofs.lemmas.Bool.{false≢true, ltb-true}
use Rattle.std.proofs.lemmas.Bool.Decides.{nat_tests}
use Rattle.rv_core.specs.declared.row.Alu.{Alu}
use Rattle.rv_core.specs.Arithmetic.{alu_value}
use Rattle.low_ir.specs.declared.object.Kind.{Kind}
use Rattle.low_ir.specs.declared.run.Value.{Value}
use Rattle.low_ir.specs.declared.run.Value.TheVariants.{Word, Pointer}
use Rattle.low_ir.specs.Code.{Address, Through, Operand, Set, Operate, Point, Load, Get}
use Rattle.low_ir.specs.Effects.{Did, gives, got, next_byte}
use Rattle.low_ir.specs.Runs.{Bank, operand_value, virtual}
use Rattle.pass_dataflow_facts.specs.declared.facts.Fact.{Fact}
use Rattle.pass_dataflow_facts.specs.declared.facts.Origin.{Origin}
use Rattle.pass_dataflow_facts.specs.declared.facts.Origin.TheVariants.{Any, Word as AnyWord, Small, Object}
use Rattle.pass_dataflow_facts.specs.declared.forms.Form.{Form}
use Rattle.pass_dataflow_facts.specs.Facts.{all_true, is_from, number}
use Rattle.pass_dataflow_facts.proofs.Modulo.{same_numbers}
use Rattle.pass_dataflow_transfer.specs.Learning.{Adds, BaseIsFrom, Begins, BeginsAt, CallPasses, Comes, Counts, GivesFrom, GivesHere, HoldsSmall, HoldsWord, IsBehind, Leads, LearnsStep, LearnsValue, LearnsWord, MayMeasure, Passes, StepsBy, Sure}
use Rattle.pass_dataflow_transfer.proofs.Effects.{loaded_word, operated, resolve, was_set}

-- a register that holds something is there
pub there_within : (s : Bank) (d : ℕ) (v : Value) → slice_index_or s d None ≡ Some v → d < length s
there_within [] d v e = cc
there_within (x ∷ s) zero v e = omega arith
there_within (x ∷ s) (suc d) v e = let low = there_within s d v e in omega (arith, low)

-- what is known to be a word is one
pub word_held : (x : Operand ℕ) (s : Bank) (o : Option Value) (origin : Origin) → operand_value virtual s x ≡ o → origin ≡ AnyWord → is_from origin o ≡ true → HoldsWord x s
word_held x s o origin is e from = by_value o is (ap (λ q. is_from q o) (sym e) ∙ from)
  where
    by_value : (o : Option Value) → operand_value virtual s x ≡ o → is_from AnyWord o ≡ true → HoldsWord x s
    by_value None k h = absurd (false≢true h)
    by_value (Some (Word w)) k h = record { word = w; is = k }
    by_value (Some (Pointer p n)) k h = absurd (false≢true h)

pub small_held : (x : Operand ℕ) (s : Bank) (o : Option Value) (origin : Origin) → operand_value virtual s x ≡ o → origin ≡ Small → is_from origin o ≡ true → HoldsWord x s
small_held x s o origin is e from = by_value o is (ap (λ q. is_from q o) (sym e) ∙ from)
  where
    by_value : (o : Option Value) → operand_value virtual s x ≡ o → is_from Small o ≡ true → HoldsWord x s
    by_value None k h = absurd (false≢true h)
    by_value (Some (Word w)) k h = record { word = w; is = k }
    by_value (Some (Pointer p n)) k h = absurd (false≢true h)

-- and below 2^32
pub held_below : (x : Operand ℕ) (s : Bank) (o : Option Value) (origin : Origin) → operand_value virtual s x ≡ o → origin ≡ Small → is_from origin o ≡ true → HoldsSmall x s
held_below x s o origin is e from n k =
    let one : o ≡ Some (Word n) = sym is ∙ k in
    ltb-true n (2 ^ 32) (ap (is_from Small) (sym one) ∙ ap (λ q. is_from q o) (sym e) ∙ from)

pub below_from : (n : ℕ) → n < 2 ^ 32 → is_from Small (Some (Word n)) ≡ true
below_from n low = grind (arith, nat_tests)

module _ (size : ℕ) (old new : List Fact) where
  pub set_passes : (d : ℕ) (x : Operand ℕ) (origin : Origin) (form : Form) → Sure old (Comes x origin) → Sure old (Counts x form) → LearnsValue size d origin (Some form) old new → Passes size (Set d x) old new
  set_passes d x origin form comes counts learns claims s u did keeps e =
      let k = was_set claims d x s u did e in
      learns s did.value keeps.0 (record { from = comes s keeps.1 did.value k; measures = counts s keeps.1 did.value k }) keeps.1

  pub operate_steps : (op : Alu) (d : ℕ) (x y : Operand ℕ) (by : ℕ) → Sure old (StepsBy op d x y by) → LearnsStep d by old new → Passes size (Operate op d x y) old new
  operate_steps op d x y by steps learns claims s u did keeps e =
      let h = operated claims op d x y s u did e in
      let g = steps s keeps.1 h.first h.second h.left h.right in
      subst (λ v. all_true new (slice_set s d (Some v)) ≡ true) (sym h.is)
      (learns s (Word (alu_value op h.first h.second))
      (record {
        there = there_within s d (Word g.was) g.is;
        more = g.more ∙ same_numbers _ _ (ap (λ o. number o + by) (sym g.is));
        origin = λ o from. word_from (alu_value op h.first h.second) g.was g.small o (ap (is_from o) (sym g.is) ∙ from);
      })
      keeps.1)
    where
      word_from : (n m : ℕ) → n < 2 ^ 32 → (o : Origin) → is_from o (Some (Word m)) ≡ true → is_from o (Some (Word n)) ≡ true
      word_from n m low Any h = refl
      word_from n m low AnyWord h = refl
      word_from n m low Small h = below_from n low
      word_from n m low (Object object) h = absurd (false≢true h)

  pub operate_writes : (op : Alu) (d : ℕ) (x y : Operand ℕ) (origin : Origin) (form : Option Form) → GivesFrom op origin → ((f : Form) → form ≡ Some f → Sure old (GivesHere op x y f)) → LearnsValue size d origin form old new → Passes size (Operate op d x y) old new
  operate_writes op d x y origin form from says learns claims s u did keeps e =
      let h = operated claims op d x y s u did e in
      subst (λ v. all_true new (slice_set s d (Some v)) ≡ true) (sym h.is)
      (learns s (Word (alu_value op h.first h.second)) keeps.0
      (record { from = from h.first h.second; measures = by_form form refl s keeps.1 h.first h.second h.left h.right })
      keeps.1)
    where
      by_form : (o : Option Form) → form ≡ o → (s : Bank) → all_true old s ≡ true → (m n : ℕ) → operand_value virtual s x ≡ Some (Word m) → operand_value virtual s y ≡ Some (Word n) → MayMeasure s (alu_value op m n) o
      by_form None k s known m n l r = tt
      by_form (Some f) k s known m n l r = says f k s known m n l r

  pub word_passes : (d : ℕ) → LearnsValue size d AnyWord None old new → LearnsWord size d old new
  word_passes d learns s w wide known = learns s (Word w) wide (record { from = refl; measures = tt }) known

  pub load_passes : (kind : Kind) (d : ℕ) (a : Address ℕ) → LearnsWord size d old new → Passes size (Load kind d a) old new
  load_passes kind d a learns claims s u did keeps e =
      let h = loaded_word claims kind d a s u did e in
      subst (λ v. all_true new (slice_set s d (Some v)) ≡ true) (sym h.1) (learns s h.0 keeps.0 keeps.1)

  pub get_passes : (d : ℕ) → LearnsWord size d old new → Passes size (Get d) old new
  get_passes d learns claims s u did keeps e =
      subst (λ v. all_true new (slice_set s d (Some v)) ≡ true) (ap (λ (z : Did). z.value) (same_Some (record { world = got u; value = Word (next_byte u.input) }) did e)) (learns s (next_byte u.input) keeps.0 keeps.1)

  pub call_passes : (d : ℕ) → LearnsWord size d old new → CallPasses size (Some d) old new
  call_passes d learns s v keeps = learns s v keeps.0 keeps.1

  pub point_steps : (d : ℕ) (a : Address ℕ) → IsBehind a d → LearnsStep d a.displacement old new → Passes size (Point d a) old new
  point_steps d a behind learns claims s u did keeps e =
      let h = resolve claims a s (λ o n. gives u (Pointer o n)) did e in
      let base : Begins claims (Through d behind.claim) s h.object h.bytes = subst (λ b. Begins claims b s h.object h.bytes) behind.base h.begins in
      let nothing : Adds None s h.more = subst (λ o. Adds o s h.more) behind.offset h.adds in
      let n = (h.bytes + h.more + a.displacement) % 2 ^ 32 in
      let value : did.value ≡ Pointer h.object n = ap (λ (z : Did). z.value) (sym (same_Some (record { world = u; value = Pointer h.object n }) did h.is)) in
      let sum : h.bytes + h.more + a.displacement ≡ h.bytes + a.displacement = omega (arith, nothing) in
      subst (λ v. all_true new (slice_set s d (Some v)) ≡ true) (sym value)
      (learns s (Pointer h.object n)
      (record {
        there = there_within s d (Pointer h.object h.bytes) base.is;
        more = mod-mod (h.bytes + h.more + a.displacement) (2 ^ 32) ∙ same_numbers _ _ sum ∙ same_numbers _ _ (ap (λ o. number o + a.displacement) (sym base.is));
        origin = λ o from. pointer_from h.object n h.bytes o (ap (is_from o) (sym base.is) ∙ from);
      })
      keeps.1)
    where
      pointer_from : (object n m : ℕ) (o : Origin) → is_from o (Some (Pointer object m)) ≡ true → is_from o (Some (Pointer object n)) ≡ true
      pointer_from object n m Any h = refl
      pointer_from object n m AnyWord h = absurd (false≢true h)
      pointer_from object n m Small h = absurd (false≢true h)
      pointer_from object n m (Object other) h = h

  pub point_writes : (d : ℕ) (a : Address ℕ) (origin : Origin) (form : Option Form) → Sure old (BaseIsFrom a.base origin) → ((f : Form) → form ≡ Some f → Sure old (Leads a f)) → LearnsValue size d origin form old new → Passes size (Point d a) old new
  point_writes d a origin form from leads learns claims s u did keeps e =
      let h = resolve claims a s (λ o n. gives u (Pointer o n)) did e in
      let n = (h.bytes + h.more + a.displacement) % 2 ^ 32 in
      let value : did.value ≡ Pointer h.object n = ap (λ (z : Did). z.value) (sym (same_Some (record { world = u; value = Pointer h.object n }) did h.is)) in
      subst (λ v. all_true new (slice_set s d (Some v)) ≡ true) (sym value)
      (learns s (Pointer h.object n) keeps.0
      (record { from = from s keeps.1 h.object h.bytes n h.begins.is; measures = by_form form refl s keeps.1 h.object h.bytes h.more h.begins.is h.adds })
      keeps.1)
    where
      by_form : (o : Option Form) → form ≡ o → (s : Bank) → all_true old s ≡ true → (object bytes more : ℕ) → BeginsAt a.base s object bytes → Adds a.offset s more → MayMeasure s ((bytes + more + a.displacement) % 2 ^ 32) o
      by_form None k s known object bytes more begins adds = tt
      by_form (Some f) k s known object bytes more begins adds = mod-mod (bytes + more + a.displacement) (2 ^ 32) ∙ leads f k s known object bytes more begins adds
