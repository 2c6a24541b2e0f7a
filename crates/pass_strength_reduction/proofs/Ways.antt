-- Accesses that go another way, and instructions that surely give a value.
use Rattle.std.proofs.Common.{◌≡◌, ℕ, zero, suc, ◌+◌, true, false, List, [], ◌∷◌, Option, Some, None, refl, sym, ap, ◌∙◌, subst, arith}
use Rattle.std.specs.Prelude.{◌%◌, ◌^◌, ◌==◌, if◌then◌else◌, slice_index_or}
use Rattle.std.proofs.lemmas.Bool.{eqb-true, false≢true}
use Rattle.std.proofs.lemmas.Bool.Decides.{nat_tests}
use Rattle.rv_core.specs.declared.row.Alu.{Alu}
use Rattle.rv_core.specs.Arithmetic.{alu_value}
use Rattle.low_ir.specs.declared.object.Kind.{Kind}
use Rattle.low_ir.specs.declared.run.Value.{Value}
use Rattle.low_ir.specs.declared.run.Value.TheVariants.{Word, Pointer}
use Rattle.low_ir.specs.Code.{Address, Through, Operand, Set, Operate, Point, Load, Store}
use Rattle.low_ir.specs.Effects.{Did, World, address_reads, effect_of, gives, is_member, loaded, there}
use Rattle.low_ir.specs.Runs.{Bank, operand_value, values, values_cons, virtual}
use Rattle.pass_strength_reduction_law.specs.Knowing.{DoesTheSame}
use Rattle.pass_dataflow_facts.specs.declared.facts.Fact.{Fact}
use Rattle.pass_dataflow_facts.specs.declared.facts.Origin.{Origin}
use Rattle.pass_dataflow_facts.specs.declared.facts.Origin.TheVariants.{Object, Small, Word as AnyWord}
use Rattle.pass_dataflow_facts.specs.Facts.{all_true, is_from}
use Rattle.pass_dataflow_transfer.specs.Learning.{BaseIsFrom, HoldsWord, Sure}
use Rattle.pass_dataflow_transfer.proofs.Effects.{lead, reach, resolve, storing, stores, was_stored}
use Rattle.pass_strength_reduction.specs.Making.{GivesValue, HasBeginning, HoldsValue, IsAdded, LeadAlike, Serves}
use Rattle.pass_strength_reduction.specs.Scenes.{ListsAlone}

equal : (a b : ℕ) → a ≡ b → (a == b) ≡ true
equal a b e = grind (arith, nat_tests)

-- an address that serves another one does the same
module _ (claims others : List (List ℕ)) (a b : Address ℕ) (s : Bank) (serves : Serves claims a b s) where
  pub leads_too : (go : ℕ → ℕ → Option Did) (did : Did) → lead others a (values virtual s (address_reads a)) go ≡ Some did → lead claims b (values virtual s (address_reads b)) go ≡ Some did
  leads_too go did e =
      let h = resolve others a s go did e in
      let k = serves h.object h.bytes h.more h.begins.is h.adds in
      reach claims b s h.object k.bytes k.more go k.begins k.adds ∙ ap (go h.object) k.same ∙ h.is

pub loads : (size : ℕ) (facts : List Fact) (claims others : List (List ℕ)) (kind : Kind) (d : ℕ) (a b : Address ℕ) → Sure facts (Serves claims a b) → DoesTheSame size (all_true facts) others (Load kind d a) claims (Load kind d b)
loads size facts claims others kind d a b serves s u did keeps e = leads_too claims others a b s (serves s keeps.1) (λ o n. there (loaded u.objects kind o n) (λ w. gives u (Word w))) did e

pub points : (size : ℕ) (facts : List Fact) (claims others : List (List ℕ)) (d : ℕ) (a b : Address ℕ) → Sure facts (Serves claims a b) → DoesTheSame size (all_true facts) others (Point d a) claims (Point d b)
points size facts claims others d a b serves s u did keeps e = leads_too claims others a b s (serves s keeps.1) (λ o n. gives u (Pointer o n)) did e

pub stores_too : (size : ℕ) (facts : List Fact) (claims others : List (List ℕ)) (kind : Kind) (a b : Address ℕ) (x : Operand ℕ) → Sure facts (Serves claims a b) → DoesTheSame size (all_true facts) others (Store kind a x) claims (Store kind b x)
stores_too size facts claims others kind a b x serves s u did keeps e =
    let h = was_stored others kind a x s u did e in
    stores claims kind b x s u did h.word h.is (leads_too claims others a b s (serves s keeps.1) (storing u kind h.word) did h.leads)

-- a claim that lists an array alone has it
pub listed : (claims : List (List ℕ)) (claim o : ℕ) → ListsAlone claims claim o → is_member (slice_index_or claims claim []) o ≡ true
listed [] claim o e = cc
listed (c ∷ cs) zero o e = by_list c e
  where
    by_list : (c : List ℕ) → Some c ≡ Some (o ∷ []) → is_member c o ≡ true
    by_list c e = ap (λ x. is_member (list_in x) o) e ∙ ap (λ b. if b then true else false) (equal o o refl)
      where
        list_in : Option (List ℕ) → List ℕ
        list_in None = []
        list_in (Some x) = x
listed (c ∷ cs) (suc claim) o e = listed cs claim o e

-- where a pointer points
pub record PointsIn (s : Bank) (r o : ℕ) : Type 0 where
  pub bytes : ℕ
  pub is : slice_index_or s r None ≡ Some (Pointer o bytes)

pub points_in : (s : Bank) (r o : ℕ) → is_from (Object o) (slice_index_or s r None) ≡ true → PointsIn s r o
points_in s r o e = by_value (slice_index_or s r None) refl e
  where
    by_value : (v : Option Value) → slice_index_or s r None ≡ v → is_from (Object o) v ≡ true → PointsIn s r o
    by_value None k h = absurd (false≢true h)
    by_value (Some (Word w)) k h = absurd (false≢true h)
    by_value (Some (Pointer p n)) k h = let same : p ≡ o = eqb-true p o h in record { bytes = n; is = k ∙ ap (λ x. Some (Pointer x n)) same }

-- a way through a pointer serves
pub by_pointer : (facts : List Fact) (claims : List (List ℕ)) (a : Address ℕ) (r claim m o : ℕ) (origin : Origin) → origin ≡ Object o → Sure facts (BaseIsFrom a.base origin) → Sure facts (λ s. is_from (Object o) (slice_index_or s r None) ≡ true) → ListsAlone claims claim o → LeadAlike facts a (record { base = Through r claim; offset = None; displacement = m })
    → Sure facts (Serves claims a (record { base = Through r claim; offset = None; displacement = m }))
by_pointer facts claims a r claim m o origin is from held lists alike s known p n k begins adds =
    let h = points_in s r o (held s known) in
    let same : o ≡ p = sym (eqb-true p o (subst (λ q. is_from q (Some (Pointer p n)) ≡ true) is (from s known p n n begins))) in
    let there : slice_index_or s r None ≡ Some (Pointer p h.bytes) = h.is ∙ ap (λ x. Some (Pointer x h.bytes)) same in
    record {
      bytes = h.bytes;
      more = 0;
      begins = record { is = there; may = ap (is_member (slice_index_or claims claim [])) (sym same) ∙ listed claims claim o lists };
      adds = refl;
      same = alike s known p p n h.bytes k 0 begins adds there refl;
    }

-- instructions that surely give a value
pub operates : (claims : List (List ℕ)) (op : Alu) (d : ℕ) (x y : Operand ℕ) (s : Bank) (u : World) → HoldsWord x s → HoldsWord y s → GivesValue claims (Operate op d x y) s u
operates claims op d x y s u l r =
    record {
      value = Word (alu_value op l.word r.word);
      is =
          ap (λ o. effect_of claims (Operate op d x y) (values_cons o (values_cons (operand_value virtual s y) (Some []))) u) l.is
          ∙ ap (λ o. effect_of claims (Operate op d x y) (values_cons (Some (Word l.word)) (values_cons o (Some []))) u) r.is;
    }

pub sets : (claims : List (List ℕ)) (d : ℕ) (x : Operand ℕ) (s : Bank) (u : World) → HoldsValue x s → GivesValue claims (Set d x) s u
sets claims d x s u h = record { value = h.value; is = ap (λ o. effect_of claims (Set d x) (values_cons o (Some [])) u) h.is }

pub points_there : (claims : List (List ℕ)) (d : ℕ) (a : Address ℕ) (s : Bank) (u : World) → HasBeginning claims a.base s → IsAdded a.offset s → GivesValue claims (Point d a) s u
points_there claims d a s u h k =
    record {
      value = Pointer h.object ((h.bytes + k.more + a.displacement) % 2 ^ 32);
      is = reach claims a s h.object h.bytes k.more (λ o n. gives u (Pointer o n)) h.begins k.adds;
    }

-- a word below 2^32 is a word
pub small_is_word : (v : Option Value) → is_from Small v ≡ true → is_from AnyWord v ≡ true
small_is_word None h = absurd (false≢true h)
small_is_word (Some (Word w)) h = refl
small_is_word (Some (Pointer o n)) h = absurd (false≢true h)

-- what is known to be something is
pub value_held : (x : Operand ℕ) (s : Bank) (o : Option Value) (origin known : Origin) → operand_value virtual s x ≡ o → origin ≡ known → is_from known None ≡ false → is_from origin o ≡ true → HoldsValue x s
value_held x s None origin known k e none h = absurd (false≢true (sym none ∙ ap (λ q. is_from q None) (sym e) ∙ h))
value_held x s (Some v) origin known k e none h = record { value = v; is = k }

-- an address that begins at a pointer begins somewhere
pub pointer_begins : (claims : List (List ℕ)) (r claim o : ℕ) (s : Bank) → is_from (Object o) (slice_index_or s r None) ≡ true → ListsAlone claims claim o → HasBeginning claims (Through r claim) s
pointer_begins claims r claim o s held lists =
    let h = points_in s r o held in
    record { object = o; bytes = h.bytes; begins = record { is = h.is; may = listed claims claim o lists } }
