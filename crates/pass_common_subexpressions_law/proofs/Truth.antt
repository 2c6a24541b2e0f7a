-- Facts are true as a block goes on.
use Rattle.std.proofs.Common.{◌≡◌, ◌≢◌, ◌<◌, ⊎_elim, ℕ, Bool, true, false, List, [], ◌∷◌, length, Option, Some, None, refl, sym, ap, ◌∙◌, subst, get_or-set_same, get_or-set_other}
use Rattle.std.specs.Prelude.{◌%◌, ◌^◌, nat_lt, slice_index_or, slice_set}
use Rattle.std.proofs.lemmas.Bool.{ltb-true}
use Rattle.rv_core.specs.declared.row.Alu.{Alu}
use Rattle.rv_core.specs.Arithmetic.{alu_value}
use Rattle.low_ir.specs.declared.object.Kind.{Kind}
use Rattle.low_ir.specs.declared.object.Kind.TheVariants.{Word as WordKind}
use Rattle.low_ir.specs.Code.{Operand, Register, Constant, Address, Plain, Set, Operate, Point, Load, Store, Put, Get, Do}
use Rattle.low_ir.specs.declared.run.Value.{Value}
use Rattle.low_ir.specs.declared.run.Value.TheVariants.{Word, Pointer}
use Rattle.low_ir.specs.Effects.{Did, World, address_reads, began, changes, dest, effect_of, gives, loaded, reads, resolved, stored, there, with_objects}
use Rattle.low_ir.specs.Runs.{Bank, set_in, values, values_cons, virtual, write_to}
use Rattle.pass_common_subexpressions_law.specs.Facts.{Loads, Fact, Keeps, Known, Knows, KnowsNothing, Learns, Computes, Source, Spares, SparesElement, SparesFact, Teaches, giving, source_reads}
use Rattle.pass_common_subexpressions_law.proofs.Places.{Leads, Nowhere, Somewhere, Way, way}
use Rattle.pass_common_subexpressions_law.proofs.Effects.{effect_stays, load_from, none_some, some_same, store_to, stored_loads, there_is}
use Rattle.pass_common_subexpressions_law.proofs.Small.{SmallBank, held_small}
use Rattle.pass_common_subexpressions_law.proofs.Words.{converted_word}

-- a register holds what is at an element
pub record HoldsElement (claims : List (List ℕ)) (s : Bank) (u : World) (kind : Kind) (a : Address ℕ) (r : ℕ) : Type 0 where
  pub object : ℕ
  pub bytes : ℕ
  pub word : ℕ
  pub leads : Leads claims a (values virtual s (address_reads a)) object bytes
  pub element : loaded u.objects kind object bytes ≡ Some word
  pub held : slice_index_or s r None ≡ Some (Word word)

-- or what an operation gives
pub record HoldsResult (s : Bank) (operator : Alu) (x y : Operand ℕ) (r : ℕ) : Type 0 where
  pub left : ℕ
  pub right : ℕ
  pub both : values virtual s (x ∷ y ∷ []) ≡ Some (Word left ∷ Word right ∷ [])
  pub held : slice_index_or s r None ≡ Some (Word (alu_value operator left right))

abbrev pub Holds : List (List ℕ) → Bank → World → Source → ℕ → Type 0
Holds claims s u (Loads kind a) r = HoldsElement claims s u kind a r
Holds claims s u (Computes operator x y) r = HoldsResult s operator x y r

-- the register of a fact holds what its source would give
abbrev pub IsTrue : List (List ℕ) → Bank → World → Fact → Type 0
IsTrue claims s u f = Holds claims s u f.source f.register

abbrev pub AreTrue : List (List ℕ) → Known → Bank → World → Type 0
AreTrue claims known s u = (f : Fact) → Knows known f → IsTrue claims s u f

pub none_true : (claims : List (List ℕ)) (known : Known) (s : Bank) (u : World) → KnowsNothing known → AreTrue claims known s u
none_true claims known s u nothing f k = absurd (nothing f k)

-- so a copy does what the source would do
pub copy_gives : (claims : List (List ℕ)) (s : Bank) (u : World) (from : Source) (r d : ℕ) → Holds claims s u from r → effect_of claims (Set d (Register r)) (values virtual s (Register r ∷ [])) u ≡ effect_of claims (giving d from) (values virtual s (reads (giving d from))) u
copy_gives claims s u (Loads kind a) r d t =
    ap (λ o. effect_of claims (Set d (Register r)) (values_cons o (Some [])) u) t.held
    ∙ sym (t.leads.goes (load_from u kind) ∙ ap (λ o. there o (λ w. gives u (Word w))) t.element)
copy_gives claims s u (Computes operator x y) r d t =
    ap (λ o. effect_of claims (Set d (Register r)) (values_cons o (Some [])) u) t.held
    ∙ sym (ap (λ os. effect_of claims (Operate operator d x y) os u) t.both)

source_traced : (claims : List (List ℕ)) (s : Bank) (u : World) (g b : ℕ) (from : Source) (r : ℕ) → Holds claims s u from r → Holds claims s (began u g b) from r
source_traced claims s u g b (Loads kind a) r t = record { object = t.object; bytes = t.bytes; word = t.word; leads = t.leads; element = t.element; held = t.held }
source_traced claims s u g b (Computes operator x y) r t = record { left = t.left; right = t.right; both = t.both; held = t.held }

-- a fact is true once a block was entered
pub traced : (claims : List (List ℕ)) (s : Bank) (u : World) (g b : ℕ) (f : Fact) → IsTrue claims s u f → IsTrue claims s (began u g b) f
traced claims s u g b f t = source_traced claims s u g b f.source f.register t

-- a register that was written
record Written (s now : Bank) (d : ℕ) (x : Value) : Type 0 where
  few : d < length s
  is : slice_set s d (Some x) ≡ now

written : (s now : Bank) (d : ℕ) (x : Value) → write_to virtual s (Some d) x ≡ Some now → Written s now d x
written s now d x e = by_test (nat_lt d (length s)) refl e
  where
    by_test : (c : Bool) → nat_lt d (length s) ≡ c → set_in s d x c ≡ Some now → Written s now d x
    by_test false g k = cc
    by_test true g k = record { few = ltb-true d (length s) g; is = some_same (slice_set s d (Some x)) now k }

values_spared : (s : Bank) (d : ℕ) (x : Option Value) (xs : List (Operand ℕ)) → Spares d xs → values virtual s xs ≡ values virtual (slice_set s d x) xs
values_spared s d x [] h = refl
values_spared s d x (Register r ∷ xs) h =
    ap (λ o. values_cons o (values virtual s xs)) (sym (get_or-set_other s d r x None h.0))
    ∙ ap (λ o. values_cons (slice_index_or (slice_set s d x) r None) o) (values_spared s d x xs h.1)
values_spared s d x (Constant w ∷ xs) h = ap (λ o. values_cons (Some (Word (w % 2 ^ 32))) o) (values_spared s d x xs h)

source_spared : (claims : List (List ℕ)) (s : Bank) (u : World) (d : ℕ) (x : Value) (from : Source) (r : ℕ) → r ≢ d → Spares d (source_reads from) → Holds claims s u from r → Holds claims (slice_set s d (Some x)) u from r
source_spared claims s u d x (Loads kind a) r other spares t =
    record {
      object = t.object;
      bytes = t.bytes;
      word = t.word;
      leads = subst (λ os. Leads claims a os t.object t.bytes) (values_spared s d (Some x) (address_reads a) spares) t.leads;
      element = t.element;
      held = get_or-set_other s d r (Some x) None other ∙ t.held;
    }
source_spared claims s u d x (Computes operator y z) r other spares t =
    record {
      left = t.left;
      right = t.right;
      both = sym (values_spared s d (Some x) (y ∷ z ∷ []) spares) ∙ t.both;
      held = get_or-set_other s d r (Some x) None other ∙ t.held;
    }

-- a fact that doesn't name a register is true once that was written
fact_spared : (claims : List (List ℕ)) (s now : Bank) (u : World) (f : Fact) (d : Option ℕ) (x : Value) → write_to virtual s d x ≡ Some now → SparesFact d f → IsTrue claims s u f → IsTrue claims now u f
fact_spared claims s now u f None x e h t = subst (λ b. IsTrue claims b u f) (some_same s now e) t
fact_spared claims s now u f (Some d) x e h t =
    let w = written s now d x e in
    subst (λ b. IsTrue claims b u f) w.is (source_spared claims s u d x f.source f.register h.0 h.1 t)

module _ (claims : List (List ℕ)) (s now : Bank) (u : World) (did : Did) where
  -- what was loaded stands in the register
  loaded_true : (kind : Kind) (d : ℕ) (a : Address ℕ) → Way claims a (values virtual s (address_reads a)) → effect_of claims (Load kind d a) (values virtual s (address_reads a)) u ≡ Some did → write_to virtual s (Some d) did.value ≡ Some now → Spares d (address_reads a) → HoldsElement claims now did.world kind a d
  loaded_true kind d a (Nowhere none) e k spares = absurd (none_some did (sym (none (load_from u kind)) ∙ e))
  loaded_true kind d a (Somewhere o n l) e k spares =
      let t = there_is (loaded u.objects kind o n) (λ w. gives u (Word w)) did (sym (l.goes (load_from u kind)) ∙ e) in
      let is : record { world = u; value = Word t.value } ≡ did = some_same (record { world = u; value = Word t.value }) did t.goes in
      let w = written s now d did.value k in
      subst (λ b. HoldsElement claims b did.world kind a d) w.is
      (record {
        object = o;
        bytes = n;
        word = t.value;
        leads = subst (λ os. Leads claims a os o n) (values_spared s d (Some did.value) (address_reads a) spares) l;
        element = ap (λ (z : Did). loaded z.world.objects kind o n) (sym is) ∙ t.is;
        held = get_or-set_same s d (Some did.value) None w.few ∙ ap (λ (z : Did). Some z.value) (sym is);
      })

  -- so does what was computed
  computed_true : (operator : Alu) (d : ℕ) (x y : Operand ℕ) (os : Option (List Value)) → values virtual s (x ∷ y ∷ []) ≡ os → effect_of claims (Operate operator d x y) os u ≡ Some did → write_to virtual s (Some d) did.value ≡ Some now → Spares d (x ∷ y ∷ []) → HoldsResult now operator x y d
  computed_true operator d x y None is e k spares = cc
  computed_true operator d x y (Some []) is e k spares = cc
  computed_true operator d x y (Some (a ∷ [])) is e k spares = cc
  computed_true operator d x y (Some (Word m ∷ Word n ∷ [])) is e k spares =
      let given : record { world = u; value = Word (alu_value operator m n) } ≡ did = some_same (record { world = u; value = Word (alu_value operator m n) }) did e in
      let w = written s now d did.value k in
      subst (λ b. HoldsResult b operator x y d) w.is
      (record {
        left = m;
        right = n;
        both = sym (values_spared s d (Some did.value) (x ∷ y ∷ []) spares) ∙ is;
        held = get_or-set_same s d (Some did.value) None w.few ∙ ap (λ (z : Did). Some z.value) (sym given);
      })
  computed_true operator d x y (Some (Word m ∷ Pointer o n ∷ [])) is e k spares = cc
  computed_true operator d x y (Some (Pointer o n ∷ b ∷ [])) is e k spares = cc
  computed_true operator d x y (Some (a ∷ b ∷ c ∷ xs)) is e k spares = cc

  -- what was stored stands in the register still, as words are below 2^32
  stores_true : (r : ℕ) (a : Address ℕ) (w : ℕ) (os : Option (List Value)) → values virtual s (address_reads a) ≡ os → w < 2 ^ 32 → slice_index_or s r None ≡ Some (Word w) → Way claims a os → there os (λ xs. resolved claims a xs (store_to u WordKind w)) ≡ Some did → HoldsElement claims s did.world WordKind a r
  stores_true r a w os is small held (Nowhere none) e = absurd (none_some did (sym (none (store_to u WordKind w)) ∙ e))
  stores_true r a w os is small held (Somewhere o n l) e =
      let t = there_is (stored u.objects WordKind o n w) (λ objects. changes (with_objects u objects)) did (sym (l.goes (store_to u WordKind w)) ∙ e) in
      let world : with_objects u t.value ≡ did.world = ap (λ (z : Did). z.world) (some_same (record { world = with_objects u t.value; value = Word 0 }) did t.goes) in
      record {
        object = o;
        bytes = n;
        word = w;
        leads = subst (λ os. Leads claims a os o n) (sym is) l;
        element = ap (λ (z : World). loaded z.objects WordKind o n) (sym world) ∙ stored_loads u.objects t.value WordKind o n w t.is ∙ ap Some (converted_word w small);
        held = held;
      }

  stored_true : (r : ℕ) (a : Address ℕ) → SmallBank s → (o : Option Value) → slice_index_or s r None ≡ o → (os : Option (List Value)) → values virtual s (address_reads a) ≡ os → effect_of claims (Store WordKind a (Register r)) (values_cons o os) u ≡ Some did → HoldsElement claims s did.world WordKind a r
  stored_true r a small None h os is e = cc
  stored_true r a small (Some x) h None is e = cc
  stored_true r a small (Some (Pointer o n)) h (Some xs) is e = cc
  stored_true r a small (Some (Word w)) h (Some xs) is e = stores_true r a w (Some xs) is (held_small s r (Word w) small h) h (way claims a (Some xs)) e

  store_teaches : (kind : Kind) (r : ℕ) (a : Address ℕ) (f : Fact) → SmallBank s → effect_of claims (Store kind a (Register r)) (values virtual s (Register r ∷ address_reads a)) u ≡ Some did → s ≡ now → (kind ≡ WordKind) × (f ≡ record { source = Loads kind a; register = r }) → IsTrue claims now did.world f
  store_teaches kind r a f small e same h =
      let word = subst (λ k. effect_of claims (Store k a (Register r)) (values virtual s (Register r ∷ address_reads a)) u ≡ Some did) h.0 e in
      let is : record { source = Loads WordKind a; register = r } ≡ f = sym (h.1 ∙ ap (λ k. record { source = Loads k a; register = r }) h.0) in
      subst (IsTrue claims now did.world) is
      (subst (λ b. HoldsElement claims b did.world WordKind a r) same
      (stored_true r a small (slice_index_or s r None) refl (values virtual s (address_reads a)) refl word))

  -- what an instruction teaches
  taught : (i : Plain ℕ) (f : Fact) → SmallBank s → effect_of claims i (values virtual s (reads i)) u ≡ Some did → write_to virtual s (dest i) did.value ≡ Some now → Teaches (Do i) f → IsTrue claims now did.world f
  taught (Set d x) f small e k h = absurd h
  taught (Operate operator d x y) f small e k h = subst (IsTrue claims now did.world) (sym h.0) (computed_true operator d x y (values virtual s (x ∷ y ∷ [])) refl e k h.1)
  taught (Point d a) f small e k h = absurd h
  taught (Load kind d a) f small e k h = subst (IsTrue claims now did.world) (sym h.0) (loaded_true kind d a (way claims a (values virtual s (address_reads a))) e k h.1)
  taught (Store kind a (Register r)) f small e k h = store_teaches kind r a f small e (some_same s now k) h
  taught (Store kind a (Constant w)) f small e k h = absurd h
  taught (Put x) f small e k h = absurd h
  taught (Get d) f small e k h = absurd h

  -- what it keeps
  source_kept : (i : Plain ℕ) (from : Source) (r : ℕ) → effect_of claims i (values virtual s (reads i)) u ≡ Some did → SparesElement claims i (record { source = from; register = r }) → Holds claims s u from r → Holds claims s did.world from r
  source_kept i (Loads kind a) r e h t =
      record {
        object = t.object;
        bytes = t.bytes;
        word = t.word;
        leads = t.leads;
        element = effect_stays claims u did kind a r t.object t.bytes t.word t.leads.touches t.element i (values virtual s (reads i)) h e;
        held = t.held;
      }
  source_kept i (Computes operator x y) r e h t = record { left = t.left; right = t.right; both = t.both; held = t.held }

  kept : (i : Plain ℕ) (f : Fact) → effect_of claims i (values virtual s (reads i)) u ≡ Some did → write_to virtual s (dest i) did.value ≡ Some now → Keeps claims (Do i) f → IsTrue claims s u f → IsTrue claims now did.world f
  kept i f e k h t =
      fact_spared claims s now did.world f (dest i) did.value k h.0 (source_kept i f.source f.register e h.1 t)

  -- what is known behind an instruction is true
  pub learned : (known later : Known) (i : Plain ℕ) → SmallBank s → effect_of claims i (values virtual s (reads i)) u ≡ Some did → write_to virtual s (dest i) did.value ≡ Some now → Learns claims known (Do i) later → AreTrue claims known s u → AreTrue claims later now did.world
  learned known later i small e k learns all f knows =
      ⊎_elim (λ (h : Knows known f × Keeps claims (Do i) f). kept i f e k h.1 (all f h.0)) (λ (h : Teaches (Do i) f). taught i f small e k h) (learns f knows)
