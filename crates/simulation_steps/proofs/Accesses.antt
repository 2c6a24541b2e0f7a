-- Addresses come into registers, and elements of arrays are read and written.
use Rattle.std.proofs.Common.{◌≡◌, ◌≢◌, ◌⊎◌, ℕ, ◌+◌, ◌*◌, ◌%◌, ◌^◌, ◌<◌, ◌≤◌, Bool, true, false, List, [], ◌∷◌, ◌++◌, Option, Some, None, ℤ, pos, ◌-ℤ◌, refl, sym, ap, ◌∙◌, arith}
use Rattle.std.specs.Prelude.{◌==◌, if◌then◌else◌}
use Rattle.rv_core.specs.declared.op.Op.TheVariants.{Add}
use Rattle.rv_core.specs.declared.row.Effect.TheVariants.{Read, Write}
use Rattle.rv_core.specs.declared.row.Width.{Width}
use Rattle.rv_core.specs.declared.row.Width.TheVariants.{Word as Whole}
use Rattle.rv_core.specs.Rows.{row_of}
use Rattle.rv_core.specs.Arithmetic.{word, displaced, alu_value, byte_count, extended}
use Rattle.rv_core.specs.Instructions.{instruction, addi}
use Rattle.rv_core.specs.Memory.{read_from}
use Rattle.rv_core.specs.Machine.{World, sets}
use Rattle.rv_steps.specs.Steps.{Later}
use Rattle.low_ir.specs.declared.object.Kind.{Kind}
use Rattle.low_ir.specs.declared.object.Kind.TheVariants.{Unsigned8, Signed8, Unsigned16, Signed16, Word as Word'}
use Rattle.low_ir.specs.declared.places.Place.{Place}
use Rattle.low_ir.specs.declared.places.Place.TheVariants.{Register as InRegister, Slot}
use Rattle.low_ir.specs.declared.run.Value.{Value}
use Rattle.low_ir.specs.declared.run.Value.TheVariants.{Word, Pointer}
use Rattle.low_ir.specs.Kinds.{width_of, has_sign}
use Rattle.low_ir.specs.Code.{Operand, Register, Base, Fixed, Through}
use Rattle.low_ir.specs.Runs.{operand_value}
use Rattle.low_ir.specs.Places.{File, read_place, places}
use Rattle.asm_program.specs.Numbers.{base, second_base, base_address, first_free, second_free, machine_register, is_near, is_beside, is_short, upper_of, lower_of, load_upper, reach_code, reach_register, reach_offset, object_code, object_register, object_offset}
use Rattle.asm_program.specs.Frames.{Memory, object_at, slot_at}
use Rattle.asm_program.specs.Operands.{place_register, operand_register, operand_code, fetch_code, result_code, offset_code, offset_register, far_code, far_register, code_to, register_to, offset_to}
use Rattle.asm_program.specs.Emission.{load_op, store_op}
use Rattle.claims_definition.specs.Touches.{Touch}
use Rattle.simulation_relation.specs.Noted.{Noted, single, singles, touching}
use Rattle.simulation_relation.specs.Layouts.{IsOpen}
use Rattle.simulation_relation.specs.Positions.{Course}
use Rattle.simulation_relation.specs.Views.{view_of, Shows}
use Rattle.simulation_steps.proofs.Given.{Given, state, reg, read, At}
use Rattle.simulation_steps.proofs.Words.{parts-joined, short-joined, distance-joined, near-joined, test-zero}
use Rattle.simulation_steps.proofs.Places.{IsSteady, value_is}
use Rattle.simulation_steps.proofs.Touching.{Allows}
use Rattle.simulation_steps.proofs.Stepping.{Wrote, set_one}
use Rattle.simulation_steps.proofs.Moving.{add_immediate, upper, load_any, store_any}
use Rattle.simulation_steps.proofs.Operands.{frame, first_is_free, second_is_free, in_parts, Ready, ready_kept, register_inside, operand, IsThere, Gave, gave_behind}
use Rattle.simulation_steps.proofs.Plain.{target_some, target_less, computed}

-- how a kind is loaded
abbrev load_sign : Kind → Bool
load_sign Unsigned8 = false
load_sign Signed8 = true
load_sign Unsigned16 = false
load_sign Signed16 = true
load_sign Word' = true

load_row : (kind : Kind) → (row_of (load_op kind)).effect ≡ Read (width_of kind) (load_sign kind)
load_row Unsigned8 = refl
load_row Signed8 = refl
load_row Unsigned16 = refl
load_row Signed16 = refl
load_row Word' = refl

store_row : (kind : Kind) → (row_of (store_op kind)).effect ≡ Write (width_of kind)
store_row Unsigned8 = refl
store_row Signed8 = refl
store_row Unsigned16 = refl
store_row Signed16 = refl
store_row Word' = refl

extended-as : (kind : Kind) (n : ℕ) → extended (width_of kind) (load_sign kind) n ≡ extended (width_of kind) (has_sign kind) n
unfolding extended
extended-as Unsigned8 n = refl
extended-as Signed8 n = refl
extended-as Unsigned16 n = refl
extended-as Signed16 n = refl
extended-as Word' n = refl

-- sums modulo 2^32
sum-behind : (u x a w : ℕ) → (u + x) % 2 ^ 32 ≡ a → ((u + w) % 2 ^ 32 + x) % 2 ^ 32 ≡ (a + w) % 2 ^ 32
sum-behind u x a w e = omega (arith, e)

sum-upper : (u p x n : ℕ) → (p + x) % 2 ^ 32 ≡ n → ((u + p) % 2 ^ 32 + x) % 2 ^ 32 ≡ (u + n) % 2 ^ 32
sum-upper u p x n e = omega (arith, e)

sum-short : (u x n : ℕ) → (0 + x) % 2 ^ 32 ≡ n → (u + x) % 2 ^ 32 ≡ (u + n) % 2 ^ 32
sum-short u x n e = omega (arith, e)

sum-none : (u : ℕ) → u < 2 ^ 32 → (u + 0) % 2 ^ 32 ≡ u
sum-none u h = omega arith

fixed-sum : (a d w : ℕ) → ((a + d) % 2 ^ 32 + w) % 2 ^ 32 ≡ (a + (0 + w + d) % 2 ^ 32) % 2 ^ 32
fixed-sum a d w = omega arith

through-sum : (a n w d : ℕ) → (((a + n) % 2 ^ 32 + w) % 2 ^ 32 + d % 2 ^ 32) % 2 ^ 32 ≡ (a + (n + w + d) % 2 ^ 32) % 2 ^ 32
through-sum a n w d = omega arith

module _ (g : Given) where
  -- a register has a number; x5 and x6 may have been written for it, and x6 isn't that register
  pub record Leads (k : Course) (n m r u : ℕ) (xs : List Noted) : Type 0 where
    pub at : At g k m xs
    pub world : (state g m).world ≡ (state g n).world
    pub value : reg g m r ≡ u
    pub others : (q : ℕ) → q ≢ first_free → q ≢ second_free → reg g m q ≡ reg g n q
    pub apart : r ≢ second_free

  leads_on : (k : Course) (n m j r t u v : ℕ) (xs ys : List Noted) → Leads k n m r u xs → Leads k m j t v ys → Leads k n j t v ys
  leads_on k n m j r t u v xs ys a b = record { at = b.at; world = b.world ∙ a.world; value = b.value; others = λ q o p. b.others q o p ∙ a.others q o p; apart = b.apart }

  pub ready_led : (f n m : ℕ) (file : File) → Ready g f file n → (state g m).world ≡ (state g n).world → ((q : ℕ) → q ≢ first_free → q ≢ second_free → reg g m q ≡ reg g n q) → Ready g f file m
  ready_led f n m file r world others =
      record {
        there = r.there;
        based = others base (λ e. omega (arith, e)) (λ e. omega (arith, e)) ∙ r.based;
        second = others second_base (λ e. omega (arith, e)) (λ e. omega (arith, e)) ∙ r.second;
        room = r.room;
        shows = kept;
      }
    where
      kept : Shows g.layout.memory (frame g f) file (view_of (state g m))
      kept (InRegister q) v e =
          let steady = (value_is q (register_inside g f n q file v r e)).steady in
          others (machine_register q) steady.five steady.six ∙ r.shows (InRegister q) v e
      kept (Slot j) v e = ap (λ (x : World). read_from (λ b. b.read) Whole x.memory (slot_at (frame g f) j)) world ∙ r.shows (Slot j) v e

  pub add_registers : (k : Course) (P : ℕ → Type 0) (n : ℕ) (xs : List Noted) (rd r t u v : ℕ) → 0 < rd → rd < 32 → reg g n r ≡ u → reg g n t ≡ v → At g k n (single (instruction Add rd r t (pos 0)) ∷ xs) → ((m : ℕ) → Wrote g k n m rd ((u + v) % 2 ^ 32) xs → Later P m) → Later P n
  unfolding alu_value
  add_registers k P n xs rd r t u v some less left right h go =
      set_one g k P n (instruction Add rd r t (pos 0)) xs rd ((u + v) % 2 ^ 32) some less h tt refl (ap (λ x. sets rd ((x + reg g n t) % 2 ^ 32) (state g n)) left ∙ ap (λ x. sets rd ((u + x) % 2 ^ 32) (state g n)) right) go

  -- what leads to an address of memory
  record Nears (k : Course) (n m r a : ℕ) (imm : ℤ) (xs : List Noted) : Type 0 where
    at : At g k m xs
    world : (state g m).world ≡ (state g n).world
    number : ℕ
    value : reg g m r ≡ number
    small : number < 2 ^ 32
    lands : displaced number imm ≡ a
    others : (q : ℕ) → q ≢ first_free → reg g m q ≡ reg g n q
    apart : r ≢ second_free

  nears_by : (k : Course) (P : ℕ → Type 0) (n a : ℕ) (xs : List Noted) (near : Bool) → a < 2 ^ 32 → reg g n base ≡ base_address → At g k n (singles (if near then [] else load_upper first_free a ∷ []) ++ xs)
      → ((m : ℕ) → Nears k n m (if near then base else first_free) a (if near then pos a -ℤ pos base_address else lower_of a) xs → Later P m) → Later P n
  nears_by k P n a xs true small based h go =
      go n (record { at = h; world = refl; number = base_address; value = based; small = omega arith; lands = near-joined a small; others = λ q o. refl; apart = λ e. omega (arith, e) })
  nears_by k P n a xs false small based h go =
      upper g k P n xs first_free a (omega arith) (omega arith) h
      (λ m w. go m (record { at = w.at; world = w.world; number = upper_of a; value = w.value; small = omega arith; lands = parts-joined a small; others = w.others; apart = λ e. omega (arith, e) }))

  nears : (k : Course) (P : ℕ → Type 0) (n a : ℕ) (xs : List Noted) → a < 2 ^ 32 → reg g n base ≡ base_address → At g k n (singles (reach_code first_free a) ++ xs) → ((m : ℕ) → Nears k n m (reach_register first_free a) a (reach_offset a) xs → Later P m) → Later P n
  nears k P n a xs small based h go = nears_by k P n a xs (is_near a) small based h go

  abbrev mem : Memory
  mem = g.layout.memory

  object_nears_by : (k : Course) (P : ℕ → Type 0) (n a : ℕ) (xs : List Noted) (beside : Bool) → a < 2 ^ 32 → reg g n base ≡ base_address → reg g n second_base ≡ mem.second → At g k n (singles (if beside then [] else reach_code first_free a) ++ xs)
      → ((m : ℕ) → Nears k n m (if beside then second_base else reach_register first_free a) a (if beside then pos a -ℤ pos mem.second else reach_offset a) xs → Later P m) → Later P n
  object_nears_by k P n a xs true small based second h go =
      let low = g.laid.plan.second in
      go n (record { at = h; world = refl; number = mem.second; value = second; small = low; lands = distance-joined mem.second a low small; others = λ q o. refl; apart = λ e. omega (arith, e) })
  object_nears_by k P n a xs false small based second h go = nears k P n a xs small based h go

  -- what leads to an address of an array
  object_nears : (k : Course) (P : ℕ → Type 0) (n a : ℕ) (xs : List Noted) → a < 2 ^ 32 → reg g n base ≡ base_address → reg g n second_base ≡ mem.second → At g k n (singles (object_code mem.second first_free a) ++ xs)
      → ((m : ℕ) → Nears k n m (object_register mem.second first_free a) a (object_offset mem.second a) xs → Later P m) → Later P n
  object_nears k P n a xs small based second h go = object_nears_by k P n a xs (is_beside mem.second a) small based second h go

  -- the number that an offset adds
  abbrev pub IsOffset : File → Option Place → ℕ → Type 0
  IsOffset file None w = w ≡ 0
  IsOffset file (Some p) w = read_place file p ≡ Some (Word w)

  offsets : (k : Course) (P : ℕ → Type 0) (n f r u w : ℕ) (file : File) (xs : List Noted) (o : Option Place) → Ready g f file n → r ≢ second_free → u < 2 ^ 32 → reg g n r ≡ u → IsOffset file o w
      → At g k n (singles (offset_code (frame g f) mem r o) ++ xs) → ((m : ℕ) → Leads k n m (offset_register (frame g f) mem r o) ((u + w) % 2 ^ 32) xs → Later P m) → Later P n
  offsets k P n f r u w file xs None ready apart small is e h go =
      go n (record { at = h; world = refl; value = is ∙ sym (ap (λ x. (u + x) % 2 ^ 32) e ∙ sum-none u small); others = λ q o p. refl; apart = apart })
  offsets k P n f r u w file xs (Some p) ready apart small is e h go =
      let rp = place_register (frame g f) second_free p in
      let last = instruction Add first_free r rp (pos 0) ∷ [] in
      operand g k P n f second_free file (singles last ++ xs) (Register p) (Word w) second_is_free ready e (in_parts g k n (fetch_code (frame g f) second_free p) last xs h)
      (λ m a. add_registers k P m xs first_free r rp u w (omega arith) (omega arith) (a.others r apart ∙ is) a.value a.at
      (λ j b. go j (record { at = b.at; world = b.world ∙ a.world; value = b.value; others = λ q o p. b.others q o ∙ a.others q p; apart = λ z. omega (arith, z) })))

  -- a register with a number, and what is still to be added, lead to an address
  pub record Reaches (k : Course) (n m r a : ℕ) (imm : ℤ) (xs : List Noted) : Type 0 where
    pub at : At g k m xs
    pub world : (state g m).world ≡ (state g n).world
    pub lands : displaced (reg g m r) imm ≡ a
    pub others : (q : ℕ) → q ≢ first_free → q ≢ second_free → reg g m q ≡ reg g n q
    pub apart : r ≢ second_free

  far_by : (k : Course) (P : ℕ → Type 0) (n f r u d : ℕ) (xs : List Noted) (short : Bool) → r ≢ second_free → d < 2 ^ 32 → reg g n r ≡ u → (upper_of d == 0) ≡ short
      → At g k n (singles (far_code (frame g f) mem short r d) ++ xs) → ((m : ℕ) → Reaches k n m (far_register (frame g f) mem short r) ((u + d) % 2 ^ 32) (lower_of d) xs → Later P m) → Later P n
  far_by k P n f r u d xs true apart small is short h go =
      go n
      (record {
        at = h;
        world = refl;
        lands = ap (λ x. displaced x (lower_of d)) is ∙ sum-short u (word (lower_of d)) d (short-joined d small (test-zero (upper_of d) short));
        others = λ q o p. refl;
        apart = apart;
      })
  far_by k P n f r u d xs false apart small is short h go =
      let last = single (instruction Add first_free r second_free (pos 0)) ∷ xs in
      upper g k P n last second_free d (omega arith) (omega arith) h
      (λ m a. add_registers k P m xs first_free r second_free u (upper_of d) (omega arith) (omega arith) (a.others r apart ∙ is) a.value a.at
      (λ j b. go j
      (record {
        at = b.at;
        world = b.world ∙ a.world;
        lands = ap (λ x. displaced x (lower_of d)) b.value ∙ sum-upper u (upper_of d) (word (lower_of d)) d (parts-joined d small);
        others = λ q o p. b.others q o ∙ a.others q p;
        apart = λ z. omega (arith, z);
      })))

  -- the object and the bytes behind its first to which a base leads
  abbrev pub IsBase : File → Base Place → ℕ → ℕ → Type 0
  IsBase file (Fixed o) q n = (q ≡ o) × (n ≡ 0)
  IsBase file (Through p claim) q n = read_place file p ≡ Some (Pointer q n)

  -- an address comes into a register
  pub address_runs : (k : Course) (P : ℕ → Type 0) (n f q b w d : ℕ) (file : File) (xs : List Noted) (y : Base Place) (o : Option Place) → Ready g f file n → IsBase file y q b → IsOffset file o w
      → At g k n (singles (code_to (frame g f) mem y o d) ++ xs) → ((m : ℕ) → Reaches k n m (register_to (frame g f) mem y o d) ((object_at mem q + (b + w + d) % 2 ^ 32) % 2 ^ 32) (offset_to (frame g f) mem y d) xs → Later P m) → Later P n
  address_runs k P n f q b w d file xs (Fixed p) o ready is e h go =
      let a = (object_at mem p + d) % 2 ^ 32 in
      let r = object_register mem.second first_free a in
      let imm = object_offset mem.second a in
      object_nears k P n a (singles (offset_code (frame g f) mem r o) ++ xs) (omega arith) ready.based ready.second (in_parts g k n (object_code mem.second first_free a) (offset_code (frame g f) mem r o) xs h)
      (λ m c. offsets k P m f r c.number w file xs o (ready_kept g f n m first_free file first_is_free ready c.world c.others) c.apart c.small c.value e c.at
      (λ j z. go j
      (record {
        at = z.at;
        world = z.world ∙ c.world;
        lands =
            ap (λ x. displaced x imm) z.value
            ∙ sum-behind c.number (word imm) a w c.lands
            ∙ fixed-sum (object_at mem p) d w
            ∙ ap (λ x. (object_at mem x + (0 + w + d) % 2 ^ 32) % 2 ^ 32) (sym is.0)
            ∙ ap (λ x. (object_at mem q + (x + w + d) % 2 ^ 32) % 2 ^ 32) (sym is.1);
        others = λ x first second. z.others x first second ∙ c.others x first;
        apart = z.apart;
      })))
  address_runs k P n f q b w d file xs (Through p claim) o ready is e h go =
      let fr = frame g f in
      let r = place_register fr first_free p in
      let t = offset_register fr mem r o in
      let u = (object_at mem q + b) % 2 ^ 32 in
      let small = d % 2 ^ 32 in
      let far = far_code fr mem (is_short small) t small in
      let rest = offset_code fr mem r o ++ far in
      operand g k P n f first_free file (singles rest ++ xs) (Register p) (Pointer q b) first_is_free ready is (in_parts g k n (fetch_code fr first_free p) rest xs h)
      (λ m a.
      let ready2 = ready_kept g f n m first_free file first_is_free ready a.world a.others in
      offsets k P m f r u w file (singles far ++ xs) o ready2 (place_apart f n p file (Pointer q b) ready is) (omega arith) a.value e (in_parts g k m (offset_code fr mem r o) far xs a.at)
      (λ j c. far_by k P j f t ((u + w) % 2 ^ 32) small xs (is_short small) c.apart (omega arith) c.value refl c.at
      (λ i z. go i
      (record {
        at = z.at;
        world = z.world ∙ c.world ∙ a.world;
        lands = z.lands ∙ through-sum (object_at mem q) b w d;
        others = λ x first second. z.others x first second ∙ c.others x first second ∙ a.others x first;
        apart = z.apart;
      }))))
    where
      place_apart : (f n : ℕ) (p : Place) (file : File) (v : Value) → Ready g f file n → read_place file p ≡ Some v → place_register (frame g f) first_free p ≢ second_free
      place_apart f n (InRegister x) file v ready e = (value_is x (register_inside g f n x file v ready e)).steady.six
      place_apart f n (Slot j) file v ready e = λ z. omega (arith, z)

  -- the address itself is a value
  pub point_lays : (k : Course) (P : ℕ → Type 0) (n f q b w d : ℕ) (file : File) (xs : List Noted) (y : Base Place) (o : Option Place) (to : Place) → Ready g f file n → IsBase file y q b → IsOffset file o w → IsThere g f to
      → At g k n (singles (code_to (frame g f) mem y o d ++ addi (place_register (frame g f) first_free to) (register_to (frame g f) mem y o d) (offset_to (frame g f) mem y d) ∷ result_code (frame g f) first_free second_free to) ++ xs)
      → ((m : ℕ) → Gave g k n m f to ((object_at mem q + (b + w + d) % 2 ^ 32) % 2 ^ 32) xs → Later P m) → Later P n
  point_lays k P n f q b w d file xs y o to ready is e inside h go =
      let fr = frame g f in
      let a = (object_at mem q + (b + w + d) % 2 ^ 32) % 2 ^ 32 in
      let rd = place_register fr first_free to in
      let r = register_to fr mem y o d in
      let imm = offset_to fr mem y d in
      let last = result_code fr first_free second_free to in
      address_runs k P n f q b w d file (singles (addi rd r imm ∷ last) ++ xs) y o ready is e (in_parts g k n (code_to fr mem y o d) (addi rd r imm ∷ last) xs h)
      (λ m c. add_immediate g k P m (singles last ++ xs) rd r imm (target_some g f to inside) (target_less g f to inside) c.at
      (λ j z. computed g k P m j f a xs to ready.there inside (omega arith) (ready_led f n m file ready c.world c.others).based
      (record { at = z.at; world = z.world; value = z.value ∙ c.lands; others = z.others })
      (λ i x. go i (gave_behind g k n m i f to a xs c.world (λ t s other. c.others t s.five s.six) x))))

  -- an element is loaded
  pub load_lays : (k : Course) (P : ℕ → Type 0) (n f q b w d a v : ℕ) (file : File) (xs : List Noted) (touch : Touch) (kind : Kind) (y : Base Place) (o : Option Place) (to : Place) → Ready g f file n → IsBase file y q b → IsOffset file o w → IsThere g f to
      → (object_at mem q + (b + w + d) % 2 ^ 32) % 2 ^ 32 ≡ a → a % byte_count (width_of kind) ≡ 0 → Allows g.layout touch a → read g n (width_of kind) a ≡ Some v → extended (width_of kind) (has_sign kind) v < 2 ^ 32
      → At g k n (singles (code_to (frame g f) mem y o d) ++ (touching touch (instruction (load_op kind) (place_register (frame g f) first_free to) (register_to (frame g f) mem y o d) 0 (offset_to (frame g f) mem y d)) ∷ (singles (result_code (frame g f) first_free second_free to) ++ xs)))
      → ((m : ℕ) → Gave g k n m f to (extended (width_of kind) (has_sign kind) v) xs → Later P m) → Later P n
  load_lays k P n f q b w d a v file xs touch kind y o to ready is e inside lands aligned allowed found small h go =
      let fr = frame g f in
      let rd = place_register fr first_free to in
      let r = register_to fr mem y o d in
      let imm = offset_to fr mem y d in
      let i = instruction (load_op kind) rd r 0 imm in
      let last = result_code fr first_free second_free to in
      let x = extended (width_of kind) (has_sign kind) v in
      address_runs k P n f q b w d file (touching touch i ∷ (singles last ++ xs)) y o ready is e h
      (λ m c. load_any g k P m (singles last ++ xs) touch (load_op kind) (width_of kind) (load_sign kind) rd r imm a v (load_row kind) (target_some g f to inside) (target_less g f to inside)
      (c.lands ∙ lands) aligned allowed (ap (λ (u : World). read_from (λ z. z.read) (width_of kind) u.memory a) c.world ∙ found) c.at
      (λ j z. computed g k P m j f x xs to ready.there inside small (ready_led f n m file ready c.world c.others).based
      (record { at = z.at; world = z.world; value = z.value ∙ extended-as kind v; others = z.others })
      (λ t u. go t (gave_behind g k n m t f to x xs c.world (λ p s other. c.others p s.five s.six) u))))

  -- an element was stored
  pub record Kept (k : Course) (n m : ℕ) (w : Width) (a v : ℕ) (xs : List Noted) : Type 0 where
    pub at : At g k m xs
    pub registers : (q : ℕ) → IsSteady q → reg g m q ≡ reg g n q
    pub input : (state g m).world.input ≡ (state g n).world.input
    pub output : (state g m).world.output ≡ (state g n).world.output
    pub same : read g m w a ≡ Some (v % 2 ^ (8 * byte_count w))
    pub beside : (y : Width) (b : ℕ) → (b + byte_count y ≤ a) ⊎ (a + byte_count w ≤ b) → read g m y b ≡ read g n y b

  pub store_lays : (k : Course) (P : ℕ → Type 0) (n f q b w d a v : ℕ) (file : File) (xs : List Noted) (touch : Touch) (kind : Kind) (y : Base Place) (o : Option Place) (x : Operand Place) → Ready g f file n → IsBase file y q b → IsOffset file o w → operand_value places file x ≡ Some (Word v)
      → (object_at mem q + (b + w + d) % 2 ^ 32) % 2 ^ 32 ≡ a → a % byte_count (width_of kind) ≡ 0 → Allows g.layout touch a → IsOpen g.image a (byte_count (width_of kind))
      → At g k n (singles (code_to (frame g f) mem y o d) ++ (singles (operand_code (frame g f) second_free x) ++ (touching touch (instruction (store_op kind) 0 (register_to (frame g f) mem y o d) (operand_register (frame g f) second_free x) (offset_to (frame g f) mem y d)) ∷ xs)))
      → ((m : ℕ) → Kept k n m (width_of kind) a v xs → Later P m) → Later P n
  store_lays k P n f q b w d a v file xs touch kind y o x ready is e value lands aligned allowed opens h go =
      let fr = frame g f in
      let r = register_to fr mem y o d in
      let rx = operand_register fr second_free x in
      let imm = offset_to fr mem y d in
      let i = instruction (store_op kind) 0 r rx imm in
      address_runs k P n f q b w d file (singles (operand_code fr second_free x) ++ (touching touch i ∷ xs)) y o ready is e h
      (λ m c. operand g k P m f second_free file (touching touch i ∷ xs) x (Word v) second_is_free (ready_led f n m file ready c.world c.others) value c.at
      (λ j z. store_any g k P j second_free xs touch (store_op kind) (width_of kind) r rx imm a v (store_row kind) (ap (λ t. displaced t imm) (z.others r c.apart) ∙ c.lands ∙ lands) aligned allowed z.value opens z.at
      (λ t u. go t
      (record {
        at = u.at;
        registers = λ p s. u.registers p s.six ∙ z.others p s.six ∙ c.others p s.five s.six;
        input = u.input ∙ ap (λ (l : World). l.input) (z.world ∙ c.world);
        output = u.output ∙ ap (λ (l : World). l.output) (z.world ∙ c.world);
        same = u.same;
        beside = λ l p beside. u.beside l p beside ∙ ap (λ (s : World). read_from (λ b. b.read) l s.memory p) (z.world ∙ c.world);
      }))))
