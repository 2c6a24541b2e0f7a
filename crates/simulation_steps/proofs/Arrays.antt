-- Behind instructions that read and write arrays.
use Rattle.std.proofs.Common.{◌≡◌, ◌≢◌, ◌⊎◌, ⊎_elim, inl, inr, ℕ, zero, suc, ◌+◌, ◌*◌, ◌/◌, ◌%◌, ◌^◌, ◌<◌, ◌≤◌, Bool, true, false, List, [], ◌∷◌, ◌++◌, length, Option, Some, None, Contains, refl, sym, ap, ◌∙◌, subst, arith, get_or-set_same, get_or-set_other, length-set}
use Rattle.std.specs.Prelude.{slice_get, slice_set, slice_index, slice_index_or}
use Rattle.std.proofs.lemmas.Bool.{cases_eq}
use Rattle.rv_core.specs.Regions.{region_of}
use Rattle.rv_core.specs.declared.row.Width.{Width}
use Rattle.rv_core.specs.declared.row.Width.TheVariants.{Word as Whole}
use Rattle.rv_core.specs.Arithmetic.{byte_count, extended}
use Rattle.rv_core.specs.Machine as machine
use Rattle.rv_core.specs.Memory.{loaded as loaded_blocks, read_from}
use Rattle.rv_core.specs.Stores as stores
use Rattle.rv_steps.specs.Steps.{Later}
use Rattle.rv_steps.proofs.LaterLemmas.{now}
use Rattle.low_ir.specs.Arrays.{bytes_of}
use Rattle.low_ir.specs.declared.object.Kind.{Kind}
use Rattle.low_ir.specs.declared.places.Place.{Place}
use Rattle.low_ir.specs.declared.places.Place.TheVariants.{Register as InRegister, Slot}
use Rattle.low_ir.specs.declared.run.Value.{Value}
use Rattle.low_ir.specs.declared.run.Value.TheVariants.{Word, Pointer}
use Rattle.low_ir.specs.Kinds.{width_of, has_sign, kind_bytes, converted}
use Rattle.low_ir.specs.Code.{Operand, Address, Point, Load, Store, Put, Instr, Do, Object}
use Rattle.low_ir.specs.Effects.{World, Contents, Did, address_reads, there, with_one, word, gives, changes, put, with_objects, resolved, loaded, can_store, stored}
use Rattle.low_ir.specs.Runs.{operand_value, values_cons, values, goes_on, finish}
use Rattle.low_ir.specs.Places.{read_place, unset_if, write_place, places}
use Rattle.asm_program.specs.Numbers.{base, second_base, machine_register}
use Rattle.asm_program.specs.Frames.{Memory, object_at}
use Rattle.claims_definition.specs.Touches.{OfArrays, named}
use Rattle.simulation_relation.specs.Noted.{Noted}
use Rattle.simulation_relation.specs.Plans.{frame_size}
use Rattle.asm_program.specs.Functions.{function_in, is_leaf}
use Rattle.simulation_relation.specs.Positions.{Course}
use Rattle.simulation_relation.specs.Layouts.{IsOpen}
use Rattle.simulation_relation.specs.Views.{view_of, Shows, HasElements, IsArray, HasArrays}
use Rattle.simulation_relation.specs.Waiting.{IsIn, IsLinked}
use Rattle.simulation_relation.specs.Following.{PlacedRunning, Holds}
use Rattle.simulation_steps.proofs.Given.{Given, state, reg, read, At}
use Rattle.simulation_steps.proofs.Touching.{region_of-part}
use Rattle.simulation_steps.proofs.Places.{IsSteady, steady_is, lasting_apart, open-part, within}
use Rattle.simulation_steps.proofs.Unsetting.{Spared, place_spared, unset_read}
use Rattle.simulation_steps.proofs.Operands.{frame, code, Gave}
use Rattle.simulation_steps.proofs.Plain.{put_lays}
use Rattle.simulation_steps.proofs.Accesses.{IsBase, IsOffset, Kept, point_lays, load_lays, store_lays}
use Rattle.simulation_steps.proofs.Apart.{SameObject, SameWords, SameHead, head_of_words, saved_kept, return_kept, slot_kept, waits_kept, arrays_kept, array_kept, element_within}
use Rattle.simulation_steps.proofs.Holding.{forgets, forgotten, in_rest}
use Rattle.simulation_steps.proofs.Elements.{offset_is, aligned_sum, elements_apart, converted-as, converted-small, converted-low, converted-again, region-small, width-some, is_resolved, IsElement, is_loaded, is_stored}
use Rattle.simulation_steps.proofs.Plains.{Runs, Going_at, ready_of, body, course_in, outcome, give, code_at}

module _ (g : Given) where
  -- what a run shows, behind an instruction that gave no place a value
  pub holds_led : (called : Bool) (r : PlacedRunning) (n m : ℕ) (is : List (Instr Place (List ℕ))) (u : World) (returns : List ℕ) → r.top.func < length g.layout.program.functions → ((q : ℕ) → IsSteady q → Spared called q → reg g m q ≡ reg g n q)
      → ((q : ℕ) (y : Value) → read_place r.top.store (InRegister q) ≡ Some y → Spared called (machine_register q))
      → ((h : ℕ) → h < length g.layout.program.functions → SameWords g.layout h (view_of (state g n)) (view_of (state g m))) → HasArrays g.layout.memory g.layout.program.objects u.objects (view_of (state g m))
      → Holds g.layout r (view_of (state g n)) returns → Holds g.layout (record r { top = record r.top { code = is }; world = u }) (view_of (state g m)) returns
  holds_led called r n m is u returns inside registers spared words arrays h =
      let f = r.top.func in
      let v = view_of (state g n) in
      let v2 = view_of (state g m) in
      let head = head_of_words g.layout f v v2 (words f inside) in
      record {
        based = registers base (record { five = λ z. omega (arith, z); six = λ z. omega (arith, z); seventeen = λ z. omega (arith, z) }) (λ s z. omega (arith, z)) ∙ h.based;
        second = registers second_base (record { five = λ z. omega (arith, z); six = λ z. omega (arith, z); seventeen = λ z. omega (arith, z) }) (λ s z. omega (arith, z)) ∙ h.second;
        room = h.room;
        shows = shows;
        arrays = arrays;
        linked = linked (is_leaf (function_in g.layout.program f)) (slice_index returns 0) head h.linked;
        after = h.after;
        keeps =
            record {
              saved = λ q saved word. saved_kept g.layout f v v2 head q saved ∙ h.keeps.saved q saved word;
              other = λ q need unsaved word. registers (machine_register q) (steady_is q) (λ s. lasting_apart q (g.laid.plan.lasting f q inside need)) ∙ h.keeps.other q need unsaved word;
            };
        waits = waits_kept g.layout r.below f v v2 h.after returns (λ x more below. words x below) h.waits;
      }
    where
      shows : Shows g.layout.memory (frame g r.top.func) r.top.store (view_of (state g m))
      shows (InRegister q) x e = registers (machine_register q) (steady_is q) (spared q x e) ∙ h.shows (InRegister q) x e
      shows (Slot j) x e =
          let less = within r.top.store.slots j x e in
          let few = h.room.slots in
          slot_kept g.layout r.top.func j (view_of (state g n)) (view_of (state g m)) (words r.top.func inside) (omega arith) ∙ h.shows (Slot j) x e

      linked : (leaf : Bool) (at : ℕ) → SameHead g.layout r.top.func (view_of (state g n)) (view_of (state g m)) → IsLinked leaf (frame g r.top.func) (view_of (state g n)) at → IsLinked leaf (frame g r.top.func) (view_of (state g m)) at
      linked true at head e = registers 1 (record { five = λ z. omega (arith, z); six = λ z. omega (arith, z); seventeen = λ z. omega (arith, z) }) (λ s z. omega (arith, z)) ∙ e
      linked false at head e = return_kept g.layout r.top.func (view_of (state g n)) (view_of (state g m)) head ∙ e

  abbrev objects : List Object
  objects = g.layout.program.objects

  abbrev mem : Memory
  mem = g.layout.memory

  -- a byte is written
  pub put_follows : (r : PlacedRunning) (n : ℕ) (is : List (Instr Place (List ℕ))) (x : Operand Place) (h : Going_at g r n) → r.top.code ≡ Do (Put x) ∷ is → (o : Option Value) → operand_value places r.top.store x ≡ o
      → Later (Runs g (finish places (forgotten g true r) is None (there (values_cons o (Some [])) (λ xs. with_one xs (λ p. word p (λ w. changes (put r.world w))))))) n
  put_follows r n is x h code_is None e = now (Runs g (finish places (forgotten g true r) is None None)) n tt
  put_follows r n is x h code_is (Some (Pointer a b)) e = now (Runs g (finish places (forgotten g true r) is None None)) n tt
  put_follows r n is x h code_is (Some (Word w)) e =
      let u = put r.world w in
      let goal = Runs g (goes_on (forgotten g true r) is u (Some (unset_if true r.top.store))) in
      let inside = subst (λ c. IsIn g.layout.program r.top.func h.block c r.top.end) code_is h.inside in
      put_lays g (course_in g r r.world h.block h.returns) goal n r.top.func r.top.store (body g r h.block is) x w (ready_of g r n h) e (code_at g r n (Do (Put x)) is h code_is)
      (λ m a.
      let same : (y : Width) (b : ℕ) → read g m y b ≡ read g n y b = λ y b. ap (λ (z : machine.World). read_from (λ c. c.read) y z.memory b) a.world_is in
      now goal m
      (record {
        block = h.block;
        inside = in_rest g.layout.program r.top.func h.block (Do (Put x)) is r.top.end inside;
        returns = h.returns;
        holds = holds_led true (forgotten g true r) n m is u h.returns h.inside.there (λ q s spare. a.others q (spare refl) s.seventeen)
            (λ q y z. place_spared true q (unset_read true r.top.store (InRegister q) y z).1) (λ f below b from to. same Whole b) (arrays_kept g.layout r.world.objects (view_of (state g n)) (view_of (state g m)) (λ q y found z b from to. same z b) h.holds.arrays) (forgets g true r n h.returns h.holds);
        exchanges =
            record {
              input = ap (λ (z : machine.World). z.input) a.world_is ∙ h.exchanges.input;
              bytes = h.exchanges.bytes;
              output = ap (λ (z : machine.World). z.output) a.world_is ∙ ap (λ bs. bs ++ w % 256 ∷ []) h.exchanges.output;
            };
        at = a.at;
      }))

  -- a pointer comes into a place
  pub point_follows : (r : PlacedRunning) (n : ℕ) (is : List (Instr Place (List ℕ))) (d : Place) (a : Address Place) (h : Going_at g r n) → r.top.code ≡ Do (Point d a) ∷ is → (did : Option Did)
      → there (values places r.top.store (address_reads a)) (λ xs. resolved g.layout.program.claims a xs (λ o k. gives r.world (Pointer o k))) ≡ did → Later (Runs g (finish places r is (Some d) did)) n
  point_follows r n is d a h code_is None e = now (Runs g (finish places r is (Some d) None)) n tt
  point_follows r n is d a h code_is (Some did) e =
      let t = is_resolved g r.top.store a.displacement (λ o k. gives r.world (Pointer o k)) did a.base a.offset e in
      let k = (t.start + t.offset + a.displacement) % 2 ^ 32 in
      let is_did : record { world = r.world; value = Pointer t.object k } ≡ did = let z = t.goes in cc in
      subst (λ x. Later (Runs g (finish places r is (Some d) (Some x))) n) is_did
      (give g false r n (Point d a) is d (Pointer t.object k) r.world h code_is refl (omega arith) refl
      (λ P inside go. point_lays g (course_in g r r.world h.block h.returns) P n r.top.func t.object t.start t.offset a.displacement r.top.store (body g r h.block is) a.base a.offset d (ready_of g r n h) t.based t.moved inside (code_at g r n (Do (Point d a)) is h code_is)
      (λ m z. go m (outcome g r n m h.block h.returns is d (code g (Pointer t.object k)) h.exchanges z)))
      (λ q y z e s. cc) (write_place r.top.store d (Pointer t.object k)) refl)

  -- an element of an array, k bytes behind its first
  pub record Element (n q k w : ℕ) (kind : Kind) : Type 0 where
    pub lands : (object_at mem q + k) % 2 ^ 32 ≡ object_at mem q + k
    pub aligned : (object_at mem q + k) % byte_count (width_of kind) ≡ 0
    pub region : region_of (object_at mem q + k) ≡ Some (g.layout.regions q)
    pub found : read g n (width_of kind) (object_at mem q + k) ≡ Some (w % 2 ^ (8 * kind_bytes kind))
    pub keeps : converted kind w ≡ w

  -- where the bytes of an element lie
  record Lies (q k : ℕ) (kind : Kind) (x : Object) : Type 0 where
    inside : k + byte_count (width_of kind) ≤ bytes_of x
    lands : (object_at mem q + k) % 2 ^ 32 ≡ object_at mem q + k
    aligned : (object_at mem q + k) % byte_count (width_of kind) ≡ 0
    region : region_of (object_at mem q + k) ≡ Some (g.layout.regions q)

  lies : (q k : ℕ) (kind : Kind) (x : Object) → slice_get objects q ≡ Some x → kind ≡ x.kind → k % kind_bytes kind ≡ 0 → k / kind_bytes kind < x.size → Lies q k kind x
  lies q k kind x found same even less =
      let whole = offset_is kind k even in
      let within_it = element_within g.layout kind (k / kind_bytes kind) x.size less in
      let kinds : kind_bytes kind * x.size ≡ bytes_of x = ap (λ z. kind_bytes z * x.size) same in
      let top = (g.laid.plan.objects q x found).to in
      let most = region-small (g.layout.regions q) in
      let some = width-some (width_of kind) in
      let small : object_at mem q + bytes_of x ≤ 2 ^ 32 = omega arith in
      let there : k + byte_count (width_of kind) ≤ bytes_of x = omega arith in
      record {
        inside = there;
        lands = omega arith;
        aligned = ap (λ z. (object_at mem q + z) % byte_count (width_of kind)) (sym whole) ∙ aligned_sum kind (object_at mem q) (k / kind_bytes kind) (g.laid.plan.aligned q x found);
        region = region_of-part (g.layout.regions q) (object_at mem q) (bytes_of x) (object_at mem q + k) (g.laid.plan.objects q x found) (omega arith) (omega arith);
      }

  element_of : (n q k w : ℕ) (c : Contents) (x : Object) → slice_get objects q ≡ Some x → IsArray mem q x c (view_of (state g n)) → k % kind_bytes c.kind ≡ 0 → slice_index_or c.elements (k / kind_bytes c.kind) None ≡ Some w → Element n q k w c.kind
  element_of n q k w c x found array even value =
      let less = within c.elements (k / kind_bytes c.kind) w value in
      let size = array.size in
      let l = lies q k c.kind x found array.kind even (omega arith) in
      let e = array.elements (k / kind_bytes c.kind) w value in
      record {
        lands = l.lands;
        aligned = l.aligned;
        region = l.region;
        found = ap (λ z. read g n (width_of c.kind) (object_at mem q + z)) (sym (offset_is c.kind k even)) ∙ e.0;
        keeps = e.1;
      }

  pub element_at : (r : PlacedRunning) (n q k w : ℕ) (kind : Kind) → Going_at g r n → IsElement r.world.objects kind q k w → Element n q k w kind
  element_at r n q k w kind h e =
      let found = h.holds.arrays q e.contents e.there in
      subst (λ z. Element n q k w z) e.kind_is
      (element_of n q k w e.contents found.0 found.1 found.2 (subst (λ z. k % kind_bytes z ≡ 0) (sym e.kind_is) e.aligned)
      (subst (λ z. slice_index_or e.contents.elements (k / kind_bytes z) None ≡ Some w) (sym e.kind_is) e.value))

  pub load_follows : (r : PlacedRunning) (n : ℕ) (is : List (Instr Place (List ℕ))) (kind : Kind) (d : Place) (a : Address Place) (h : Going_at g r n) → r.top.code ≡ Do (Load kind d a) ∷ is → (did : Option Did)
      → there (values places r.top.store (address_reads a)) (λ xs. resolved g.layout.program.claims a xs (λ o k. there (loaded r.world.objects kind o k) (λ w. gives r.world (Word w)))) ≡ did → Later (Runs g (finish places r is (Some d) did)) n
  load_follows r n is kind d a h code_is None e = now (Runs g (finish places r is (Some d) None)) n tt
  load_follows r n is kind d a h code_is (Some did) e =
      let t = is_resolved g r.top.store a.displacement (λ o k. there (loaded r.world.objects kind o k) (λ w. gives r.world (Word w))) did a.base a.offset e in
      by_value t.object t.start t.offset t.based t.claimed t.moved (loaded r.world.objects kind t.object ((t.start + t.offset + a.displacement) % 2 ^ 32)) refl t.goes
    where
      by_value : (q b x : ℕ) → IsBase g r.top.store a.base q b → Contains (named g.layout.program a.base) q → IsOffset g r.top.store a.offset x → (o : Option ℕ) → loaded r.world.objects kind q ((b + x + a.displacement) % 2 ^ 32) ≡ o → there o (λ w. gives r.world (Word w)) ≡ Some did
          → Later (Runs g (finish places r is (Some d) (Some did))) n
      by_value q b x based has moved None found z = absurd cc
      by_value q b x based has moved (Some w) found z =
          let k = (b + x + a.displacement) % 2 ^ 32 in
          let same : record { world = r.world; value = Word w } ≡ did = cc in
          let el = element_at r n q k w kind h (is_loaded r.world.objects kind q k w (slice_get r.world.objects q) refl found) in
          let value : extended (width_of kind) (has_sign kind) (w % 2 ^ (8 * kind_bytes kind)) ≡ w = converted-as kind w ∙ el.keeps in
          let small : w < 2 ^ 32 = subst (λ u. u < 2 ^ 32) el.keeps (converted-small kind w) in
          subst (λ u. Later (Runs g (finish places r is (Some d) (Some u))) n) same
          (give g false r n (Load kind d a) is d (Word w) r.world h code_is refl small refl
          (λ P inside go. load_lays g (course_in g r r.world h.block h.returns) P n r.top.func q b x a.displacement (object_at mem q + k) (w % 2 ^ (8 * kind_bytes kind)) r.top.store (body g r h.block is) (OfArrays (named g.layout.program a.base)) kind a.base a.offset d (ready_of g r n h) based moved inside
          el.lands el.aligned (q, has, el.region) el.found (subst (λ u. u < 2 ^ 32) (sym value) small) (code_at g r n (Do (Load kind d a)) is h code_is)
          (λ m y. go m (outcome g r n m h.block h.returns is d w h.exchanges (subst (λ u. Gave g (course_in g r r.world h.block h.returns) n m r.top.func d u (body g r h.block is)) value y))))
          (λ q y z e s. cc) (write_place r.top.store d (Word w)) refl)

  -- an array behind a store to one of its elements
  array_stored : (k : Course) (n m q b v : ℕ) (c : Contents) (x : Object) (xs : List Noted) → IsArray mem q x c (view_of (state g n)) → b % kind_bytes c.kind ≡ 0 → b / kind_bytes c.kind < length c.elements
      → Kept g k n m (width_of c.kind) (object_at mem q + b) v xs
      → IsArray mem q x (record { kind = c.kind; storage = c.storage; elements = slice_set c.elements (b / kind_bytes c.kind) (Some (converted c.kind v)) }) (view_of (state g m))
  array_stored k n m q b v c x xs array even less kept =
      record {
        kind = array.kind;
        storage = array.storage;
        size = length-set c.elements (b / kind_bytes c.kind) (Some (converted c.kind v)) ∙ array.size;
        elements = elements;
      }
    where
      elements : HasElements (object_at mem q) (record { kind = c.kind; storage = c.storage; elements = slice_set c.elements (b / kind_bytes c.kind) (Some (converted c.kind v)) }) (view_of (state g m))
      elements i w e =
          ⊎_elim
          (λ (same : i ≡ b / kind_bytes c.kind).
          let value : converted c.kind v ≡ w =
          let both : Some (converted c.kind v) ≡ Some w = sym (get_or-set_same c.elements (b / kind_bytes c.kind) (Some (converted c.kind v)) None less) ∙ ap (λ z. slice_index_or (slice_set c.elements (b / kind_bytes c.kind) (Some (converted c.kind v))) z None) (sym same) ∙ e in
          cc in (
            ap (λ z. read g m (width_of c.kind) (object_at mem q + kind_bytes c.kind * z)) same
                ∙ ap (λ z. read g m (width_of c.kind) (object_at mem q + z)) (offset_is c.kind b even)
                ∙ kept.same
                ∙ ap Some (sym (converted-low c.kind v) ∙ ap (λ z. z % 2 ^ (8 * kind_bytes c.kind)) value),
            ap (converted c.kind) (sym value) ∙ converted-again c.kind v ∙ value,
          ))
          (λ (other : i ≢ b / kind_bytes c.kind).
          let old = array.elements i w (sym (get_or-set_other c.elements (b / kind_bytes c.kind) i (Some (converted c.kind v)) None other) ∙ e) in
          let apart = elements_apart c.kind (object_at mem q) i (b / kind_bytes c.kind) other in
          let whole = offset_is c.kind b even in (
            kept.beside (width_of c.kind) (object_at mem q + kind_bytes c.kind * i)
                (⊎_elim
                (λ (low : object_at mem q + kind_bytes c.kind * i + byte_count (width_of c.kind) ≤ object_at mem q + kind_bytes c.kind * (b / kind_bytes c.kind)). inl (omega arith))
                (λ (high : object_at mem q + kind_bytes c.kind * (b / kind_bytes c.kind) + byte_count (width_of c.kind) ≤ object_at mem q + kind_bytes c.kind * i). inr (omega arith))
                apart)
                ∙ old.0,
            old.1,
          ))
          (cases_eq i (b / kind_bytes c.kind))

  -- what a store to array q leaves of the others
  others_stored : (k : Course) (n m q b v : ℕ) (kind : Kind) (x : Object) (xs : List Noted) → slice_get objects q ≡ Some x → b + byte_count (width_of kind) ≤ bytes_of x → Kept g k n m (width_of kind) (object_at mem q + b) v xs
      → (o : ℕ) (y : Object) → o ≢ q → slice_get objects o ≡ Some y → SameObject g.layout o y (view_of (state g n)) (view_of (state g m))
  others_stored k n m q b v kind x xs found inside kept o y other found2 w a from to =
      kept.beside w a
      (⊎_elim
      (λ (low : object_at mem o + bytes_of y ≤ object_at mem q). inl (omega arith))
      (λ (high : object_at mem q + bytes_of x ≤ object_at mem o). inr (omega arith))
      (g.laid.plan.objects_apart o q y x other found2 found))

  words_stored : (k : Course) (n m q b v : ℕ) (kind : Kind) (x : Object) (xs : List Noted) → slice_get objects q ≡ Some x → b + byte_count (width_of kind) ≤ bytes_of x → Kept g k n m (width_of kind) (object_at mem q + b) v xs
      → (f : ℕ) → f < length g.layout.program.functions → SameWords g.layout f (view_of (state g n)) (view_of (state g m))
  words_stored k n m q b v kind x xs found inside kept f below a from to =
      kept.beside Whole a
      (⊎_elim
      (λ (low : object_at mem q + bytes_of x ≤ (frame g f).at). inr (omega arith))
      (λ (high : (frame g f).at + frame_size (frame g f) ≤ object_at mem q). inl (omega arith))
      (g.laid.plan.beside_frames q f x found below))

  got_set : {A : Type 0} (xs : List A) (n i : ℕ) (x y : A) → slice_get (slice_set xs n x) i ≡ Some y → ((i ≡ n) × (x ≡ y)) ⊎ ((i ≢ n) × (slice_get xs i ≡ Some y))
  got_set [] n i x y e = absurd cc
  got_set (z ∷ xs) zero zero x y e = inl (refl, cc)
  got_set (z ∷ xs) zero (suc i) x y e = inr (λ s. omega (arith, s), e)
  got_set (z ∷ xs) (suc n) zero x y e = inr (λ s. omega (arith, s), e)
  got_set (z ∷ xs) (suc n) (suc i) x y e =
      ⊎_elim (λ (h : (i ≡ n) × (x ≡ y)). inl (ap suc h.0, h.1)) (λ (h : (i ≢ n) × (slice_get xs i ≡ Some y)). inr (λ s. h.0 (omega (arith, s)), h.1)) (got_set xs n i x y e)

  arrays_stored : (k : Course) (n m q b v : ℕ) (cs : List Contents) (c : Contents) (xs : List Noted) → HasArrays mem objects cs (view_of (state g n)) → slice_get cs q ≡ Some c → b % kind_bytes c.kind ≡ 0 → b / kind_bytes c.kind < length c.elements
      → Kept g k n m (width_of c.kind) (object_at mem q + b) v xs
      → HasArrays mem objects (slice_set cs q (record { kind = c.kind; storage = c.storage; elements = slice_set c.elements (b / kind_bytes c.kind) (Some (converted c.kind v)) })) (view_of (state g m))
  arrays_stored k n m q b v cs c xs arrays there_is even less kept o e is =
      let new : Contents = record { kind = c.kind; storage = c.storage; elements = slice_set c.elements (b / kind_bytes c.kind) (Some (converted c.kind v)) } in
      let found = arrays q c there_is in
      let size = found.2.size in
      let l = lies q b c.kind found.0 found.1 found.2.kind even (omega arith) in
      ⊎_elim
      (λ (h : (o ≡ q) × (new ≡ e)). (
        found.0,
        subst (λ z. slice_get objects z ≡ Some found.0) (sym h.0) found.1,
        subst (λ z. IsArray mem o found.0 z (view_of (state g m))) h.1 (subst (λ z. IsArray mem z found.0 new (view_of (state g m))) (sym h.0) (array_stored k n m q b v c found.0 xs found.2 even less kept)),
      ))
      (λ (h : (o ≢ q) × (slice_get cs o ≡ Some e)).
      let old = arrays o e h.1 in
      (old.0, old.1, array_kept g.layout o old.0 e (view_of (state g n)) (view_of (state g m)) (others_stored k n m q b v c.kind found.0 xs found.1 l.inside kept o old.0 h.0 old.1) old.2))
      (got_set cs q o new e is)

  pub store_follows : (r : PlacedRunning) (n : ℕ) (is : List (Instr Place (List ℕ))) (kind : Kind) (a : Address Place) (x : Operand Place) (h : Going_at g r n) → r.top.code ≡ Do (Store kind a x) ∷ is → (v : ℕ) → operand_value places r.top.store x ≡ Some (Word v) → (did : Option Did)
      → there (values places r.top.store (address_reads a)) (λ xs. resolved g.layout.program.claims a xs (λ o k. there (stored r.world.objects kind o k v) (λ cs. changes (with_objects r.world cs)))) ≡ did → Later (Runs g (finish places r is None did)) n
  store_follows r n is kind a x h code_is v value None e = now (Runs g (finish places r is None None)) n tt
  store_follows r n is kind a x h code_is v value (Some did) e =
      let t = is_resolved g r.top.store a.displacement (λ o k. there (stored r.world.objects kind o k v) (λ cs. changes (with_objects r.world cs))) did a.base a.offset e in
      by_objects t.object t.start t.offset t.based t.claimed t.moved (stored r.world.objects kind t.object ((t.start + t.offset + a.displacement) % 2 ^ 32) v) refl t.goes
    where
      goal_of : World → ℕ → Type 0
      goal_of u m = Runs g (goes_on r is u (Some r.top.store)) m

      by_contents : (q b y : ℕ) → IsBase g r.top.store a.base q b → Contains (named g.layout.program a.base) q → IsOffset g r.top.store a.offset y → (z : Kind) (c : Contents) → c.kind ≡ z → z ≡ kind → slice_get r.world.objects q ≡ Some c → ((b + y + a.displacement) % 2 ^ 32) % kind_bytes c.kind ≡ 0
          → can_store c.storage ≡ true → (b + y + a.displacement) % 2 ^ 32 / kind_bytes c.kind < length c.elements
          → Later (Runs g (goes_on r is (with_objects r.world (slice_set r.world.objects q (record { kind = c.kind; storage = c.storage; elements = slice_set c.elements ((b + y + a.displacement) % 2 ^ 32 / kind_bytes c.kind) (Some (converted c.kind v)) }))) (Some r.top.store))) n
      by_contents q b y based has moved z c is_z is_kind there_is even may less =
          let k = (b + y + a.displacement) % 2 ^ 32 in
          let kinds : c.kind ≡ kind = is_z ∙ is_kind in
          let cs = slice_set r.world.objects q (record { kind = c.kind; storage = c.storage; elements = slice_set c.elements (k / kind_bytes c.kind) (Some (converted c.kind v)) }) in
          let u = with_objects r.world cs in
          let found = h.holds.arrays q c there_is in
          let size = found.2.size in
          let l = lies q k c.kind found.0 found.1 found.2.kind even (omega arith) in
          let inside_it = l.inside in
          let some = width-some (width_of c.kind) in
          let may_store : can_store found.0.storage ≡ true = ap can_store (sym found.2.storage) ∙ may in
          let opens : IsOpen g.image (object_at mem q + k) (byte_count (width_of c.kind)) = open-part (stores.frames_of (loaded_blocks g.image.segments)) (object_at mem q) (bytes_of found.0) (object_at mem q + k) (byte_count (width_of c.kind)) (omega arith) (omega arith) (g.laid.opens.objects q found.0 found.1 may_store (omega (arith, some, inside_it))) in
          let inside = subst (λ s. IsIn g.layout.program r.top.func h.block s r.top.end) code_is h.inside in
          let goal = Runs g (goes_on r is u (Some r.top.store)) in
          let place = course_in g r r.world h.block h.returns in
          store_lays g place goal n r.top.func q b y a.displacement (object_at mem q + k) v r.top.store (body g r h.block is) (OfArrays (named g.layout.program a.base)) c.kind a.base a.offset x (ready_of g r n h) based moved value l.lands l.aligned (q, has, l.region) opens
          (subst (λ s. At g place n (body g r h.block (Do (Store s a x) ∷ is))) (sym kinds) (code_at g r n (Do (Store kind a x)) is h code_is))
          (λ m w. now goal m
          (record {
            block = h.block;
            inside = in_rest g.layout.program r.top.func h.block (Do (Store kind a x)) is r.top.end inside;
            returns = h.returns;
            holds = holds_led false r n m is u h.returns h.inside.there (λ q s spare. w.registers q s) (λ q y z e s. cc) (words_stored place n m q k v c.kind found.0 (body g r h.block is) found.1 l.inside w) (arrays_stored place n m q k v r.world.objects c (body g r h.block is) h.holds.arrays there_is even less w) h.holds;
            exchanges = record { input = w.input ∙ h.exchanges.input; bytes = h.exchanges.bytes; output = w.output ∙ h.exchanges.output };
            at = w.at;
          }))

      by_objects : (q b y : ℕ) → IsBase g r.top.store a.base q b → Contains (named g.layout.program a.base) q → IsOffset g r.top.store a.offset y → (o : Option (List Contents)) → stored r.world.objects kind q ((b + y + a.displacement) % 2 ^ 32) v ≡ o → there o (λ cs. changes (with_objects r.world cs)) ≡ Some did
          → Later (Runs g (finish places r is None (Some did))) n
      by_objects q b y based has moved None found z = absurd cc
      by_objects q b y based has moved (Some cs) found z =
          let k = (b + y + a.displacement) % 2 ^ 32 in
          let same : record { world = with_objects r.world cs; value = Word 0 } ≡ did = cc in
          let t = is_stored r.world.objects kind q k v cs (slice_get r.world.objects q) refl found in
          let new : cs ≡ slice_set r.world.objects q (record { kind = t.contents.kind; storage = t.contents.storage; elements = slice_set t.contents.elements (k / kind_bytes t.contents.kind) (Some (converted t.contents.kind v)) }) =
          t.is ∙ ap (λ s. slice_set r.world.objects q (record { kind = t.contents.kind; storage = t.contents.storage; elements = slice_set t.contents.elements (k / kind_bytes s) (Some (converted s v)) })) (sym t.kind_is) in
          subst (λ u. Later (Runs g (finish places r is None (Some u))) n) same
          (subst (λ s. Later (Runs g (goes_on r is (with_objects r.world s) (Some r.top.store))) n) (sym new)
          (by_contents q b y based has moved kind t.contents t.kind_is refl t.there (subst (λ s. k % kind_bytes s ≡ 0) (sym t.kind_is) t.aligned) t.may_store (subst (λ s. k / kind_bytes s < length t.contents.elements) (sym t.kind_is) t.inside)))
