-- The relation holds behind an instruction that gives a place a value.
use Rattle.std.proofs.Common.{◌≡◌, ◌≢◌, ◌⊎◌, ⊎_elim, inl, inr, ℕ, zero, suc, ◌+◌, ◌^◌, ◌<◌, ◌≤◌, Bool, true, false, List, [], ◌∷◌, ◌++◌, length, Contains, Some, None, refl, sym, ap, ◌∙◌, subst, arith, get_or-set_same, get_or-set_other, length-set}
use Rattle.std.specs.Prelude.{nat_lt, slice_get, slice_index, slice_set, option_map}
use Rattle.std.specs.List.{flat_map}
use Rattle.std.proofs.lemmas.Bool.{cases_eq, ltb-true}
use Rattle.std.proofs.lemmas.Bool.Decides.{leb_tells}
use Rattle.std.proofs.lemmas.List.{append_assoc}
use Rattle.std.proofs.lemmas.List.Elements.{Contains-append_left, Contains-append_right}
use Rattle.rv_core.specs.declared.row.Width.{Width}
use Rattle.rv_core.specs.declared.row.Width.TheVariants.{Word as Whole}
use Rattle.rv_core.specs.Arithmetic.{byte_count}
use Rattle.low_ir.specs.Arrays.{bytes_of}
use Rattle.low_ir.specs.declared.places.Place.{Place}
use Rattle.low_ir.specs.declared.places.Place.TheVariants.{Register as InRegister, Slot}
use Rattle.low_ir.specs.declared.run.Value.{Value}
use Rattle.low_ir.specs.Code.{Instr, End, Object}
use Rattle.low_ir.specs.Effects.{World, is_member}
use Rattle.low_ir.specs.Runs.{set_in}
use Rattle.low_ir.specs.Places.{File, Placed, read_place, result_register, unset_if, write_place, with_registers, with_slots}
use Rattle.asm_program.specs.Numbers.{base, second_base, machine_register}
use Rattle.asm_program.specs.Frames.{slot_at, object_at}
use Rattle.asm_program.specs.Functions.{PlacedBlock, function_in, is_leaf}
use Rattle.simulation_relation.specs.Plans.{writes_of, block_writes, function_writes, frame_size}
use Rattle.simulation_relation.specs.Views.{view_of, IsLocated, HasRoom, Shows, HasArrays}
use Rattle.simulation_relation.specs.Waiting.{IsIn, IsLinked}
use Rattle.simulation_relation.specs.Following.{PlacedRunning, Holds}
use Rattle.simulation_steps.proofs.Given.{Given, state, reg, read}
use Rattle.simulation_steps.proofs.Places.{IsSteady, value_is, steady_is, lasting_apart, machine_register-same, within}
use Rattle.simulation_steps.proofs.Unsetting.{Spared, unset_read, unset_room}
use Rattle.simulation_steps.proofs.Operands.{frame, code, IsThere, IsOther, IsBeside}
use Rattle.simulation_steps.proofs.Apart.{SameWords, SameHead, SameObject, saved_kept, return_kept, waits_kept, arrays_kept}

-- elements of joined lists
pub in_flat_map : {A B : Type 0} (f : A → List B) (xs : List A) (x : A) (y : B) → Contains xs x → Contains (f x) y → Contains (flat_map f xs) y
in_flat_map f [] x y (k, less, e) h = absurd (omega arith)
in_flat_map f (z ∷ xs) x y (zero, less, e) h = Contains-append_left (f z) (flat_map f xs) y (subst (λ u. Contains (f u) y) (sym e) h)
in_flat_map f (z ∷ xs) x y (suc k, less, e) h = Contains-append_right (f z) (flat_map f xs) y (in_flat_map f xs x y (k, omega arith, e) h)

pub got_contains : {A : Type 0} (xs : List A) (n : ℕ) (x : A) → slice_get xs n ≡ Some x → Contains xs x
got_contains [] n x e = cc
got_contains (y ∷ xs) zero x e = let same : y ≡ x = cc in (0, omega arith, same)
got_contains (y ∷ xs) (suc n) x e = let h = got_contains xs n x e in (suc h.0, omega (arith, h.1), h.2)

-- an instruction that is left is one of its block
pub left_contains : {A : Type 0} (before : List A) (x : A) (rest all : List A) → before ++ x ∷ rest ≡ all → Contains all x
left_contains before x rest all e = subst (λ ys. Contains ys x) e (Contains-append_right before (x ∷ rest) x (0, omega arith, refl))

-- what is left behind it
pub in_rest : (p : Placed) (f b : ℕ) (i : Instr Place (List ℕ)) (is : List (Instr Place (List ℕ))) (end : End Place) → IsIn p f b (i ∷ is) end → IsIn p f b is end
in_rest p f b i is end h =
    record { there = h.there; block = h.block; has = h.has; before = h.before ++ i ∷ []; code = append_assoc h.before (i ∷ []) is ∙ h.code; ends = h.ends }

-- the registers that it writes are among those of its function
pub writes_known : (p : Placed) (f b : ℕ) (i : Instr Place (List ℕ)) (is : List (Instr Place (List ℕ))) (end : End Place) (q : ℕ) → IsIn p f b (i ∷ is) end → Contains (writes_of p i) q → Contains (function_writes p (function_in p f)) q
writes_known p f b i is end q h w =
    in_flat_map (λ (x : PlacedBlock). block_writes p x.code) (function_in p f).blocks h.block q (got_contains (function_in p f).blocks b h.block h.has)
    (in_flat_map (writes_of p) h.block.code i q (left_contains h.before i is h.block.code h.code) w)

-- a written place
pub record Written (t u : File) (d : Place) (x : Value) : Type 0 where
  pub registers : length u.registers ≡ length t.registers
  pub slots : length u.slots ≡ length t.slots
  pub same : read_place u d ≡ Some x
  pub others : (p : Place) → p ≢ d → read_place u p ≡ read_place t p

pub place_written : (t u : File) (d : Place) (x : Value) → write_place t d x ≡ Some u → Written t u d x
place_written t u (InRegister q) x e = by_test (nat_lt q (length t.registers)) refl e
  where
    others : (p : Place) → p ≢ InRegister q → read_place (with_registers t (slice_set t.registers q (Some x))) p ≡ read_place t p
    others (InRegister k) n = get_or-set_other t.registers q k (Some x) None (λ z. n (ap InRegister z))
    others (Slot k) n = refl

    by_test : (b : Bool) → nat_lt q (length t.registers) ≡ b → option_map (with_registers t) (set_in t.registers q x b) ≡ Some u → Written t u (InRegister q) x
    by_test false test e = cc
    by_test true test e =
        let is : with_registers t (slice_set t.registers q (Some x)) ≡ u = cc in
        subst (λ z. Written t z (InRegister q) x) is
        (record {
          registers = length-set t.registers q (Some x);
          slots = refl;
          same = get_or-set_same t.registers q (Some x) None (ltb-true q (length t.registers) test);
          others = others;
        })
place_written t u (Slot q) x e = by_test (nat_lt q (length t.slots)) refl e
  where
    others : (p : Place) → p ≢ Slot q → read_place (with_slots t (slice_set t.slots q (Some x))) p ≡ read_place t p
    others (InRegister k) n = refl
    others (Slot k) n = get_or-set_other t.slots q k (Some x) None (λ z. n (ap Slot z))

    by_test : (b : Bool) → nat_lt q (length t.slots) ≡ b → option_map (with_slots t) (set_in t.slots q x b) ≡ Some u → Written t u (Slot q) x
    by_test false test e = cc
    by_test true test e =
        let is : with_slots t (slice_set t.slots q (Some x)) ≡ u = cc in
        subst (λ z. Written t z (Slot q) x) is
        (record {
          registers = refl;
          slots = length-set t.slots q (Some x);
          same = get_or-set_same t.slots q (Some x) None (ltb-true q (length t.slots) test);
          others = others;
        })

pub strict : (a b : ℕ) → a ≢ b → (a < b) ⊎ (b < a)
strict a b n = ⊎_elim (λ h. ⊎_elim (λ k. let x = h.1 in let y = k.1 in absurd (n (omega arith))) (λ k. let y = k.1 in inl (omega arith)) (leb_tells b a)) (λ h. let x = h.1 in inr (omega arith)) (leb_tells a b)

pub same_place : (p q : Place) → (p ≡ q) ⊎ (p ≢ q)
same_place (InRegister q) (InRegister r) = ⊎_elim (λ (e : q ≡ r). inl (ap InRegister e)) (λ (n : q ≢ r). inr (λ e. n cc)) (cases_eq q r)
same_place (InRegister q) (Slot k) = inr (λ e. cc)
same_place (Slot k) (InRegister q) = inr (λ e. cc)
same_place (Slot k) (Slot j) = ⊎_elim (λ (e : k ≡ j). inl (ap Slot e)) (λ (n : k ≢ j). inr (λ e. n cc)) (cases_eq k j)

module _ (g : Given) where
  -- a place that was written is one that the activation has
  pub written_there : (f : ℕ) (t u : File) (d : Place) (x : Value) → HasRoom g.layout.memory (frame g f) t → write_place t d x ≡ Some u → IsThere g f d
  written_there f t u (InRegister q) x room e =
      let w = place_written t u (InRegister q) x e in
      let less = within u.registers q x w.same in
      let long = w.registers in
      let most = room.registers in
      omega arith
  written_there f t u (Slot q) x room e =
      let w = place_written t u (Slot q) x e in
      let less = within u.slots q x w.same in
      let long = w.slots in
      let most = room.slots in
      omega arith

  -- what is beside a place in function f's frame
  beside_head : (f : ℕ) (d : Place) (a : ℕ) → a + 4 ≤ slot_at (frame g f) 0 → IsBeside g f d a 4
  beside_head f (InRegister q) a h = tt
  beside_head f (Slot j) a h = inl (omega arith)

  beside_slot : (f j k : ℕ) → j ≢ k → IsBeside g f (Slot j) (slot_at (frame g f) k) 4
  beside_slot f j k other = ⊎_elim (λ (less : j < k). inr (omega arith)) (λ (less : k < j). inl (omega arith)) (strict j k other)

  beside_words : (f h : ℕ) (d : Place) (a n : ℕ) → f < length g.layout.program.functions → IsThere g f d
      → ((a + n ≤ (frame g f).at) ⊎ ((frame g f).at + frame_size (frame g f) ≤ a)) → IsBeside g f d a n
  beside_words f h (InRegister q) a n there inside apart = tt
  beside_words f h (Slot j) a n there inside (inl low) = inl (omega arith)
  beside_words f h (Slot j) a n there inside (inr high) = inr (omega arith)

  -- registers of values and arrays are no part of what others have
  pub record Keeps (b : Bool) (n m f : ℕ) (d : Place) : Type 0 where
    pub registers : (r : ℕ) → IsSteady r → Spared b r → IsOther g d r → reg g m r ≡ reg g n r
    pub reads : (y : Width) (a : ℕ) → IsBeside g f d a (byte_count y) → read g m y a ≡ read g n y a

  same_head : (b : Bool) (n m f : ℕ) (d : Place) → Keeps b n m f d → SameHead g.layout f (view_of (state g n)) (view_of (state g m))
  same_head b n m f d k a from to = k.reads Whole a (beside_head f d a to)

  same_words : (b : Bool) (n m f : ℕ) (d : Place) → f < length g.layout.program.functions → IsThere g f d → Keeps b n m f d → (h : ℕ) → f < h → h < length g.layout.program.functions → SameWords g.layout h (view_of (state g n)) (view_of (state g m))
  same_words b n m f d there inside k h more below a from to =
      k.reads Whole a (beside_words f h d a 4 there inside
      (⊎_elim
      (λ (low : (frame g h).at + frame_size (frame g h) ≤ (frame g f).at). inl (omega arith))
      (λ (high : (frame g f).at + frame_size (frame g f) ≤ (frame g h).at). inr (omega arith))
      (g.laid.plan.frames_apart h f (λ e. omega (arith, e)) below there)))

  same_object : (b : Bool) (n m f : ℕ) (d : Place) → f < length g.layout.program.functions → IsThere g f d → Keeps b n m f d → (o : ℕ) (x : Object) → slice_get g.layout.program.objects o ≡ Some x → SameObject g.layout o x (view_of (state g n)) (view_of (state g m))
  same_object b n m f d there inside k o x e y a from to =
      k.reads y a (beside_words f f d a (byte_count y) there inside
      (⊎_elim
      (λ (low : object_at g.layout.memory o + bytes_of x ≤ (frame g f).at). inl (omega arith))
      (λ (high : (frame g f).at + frame_size (frame g f) ≤ object_at g.layout.memory o). inr (omega arith))
      (g.laid.plan.beside_frames o f x e there)))

  -- a register that holds no value is not that of a place
  pub no_value : (f : ℕ) (d : Place) → IsThere g f d → (r : ℕ) → ((q : ℕ) → q ≤ result_register → machine_register q ≢ r) → IsOther g d r
  no_value f (InRegister q) inside r never = λ e. never q inside (sym e)
  no_value f (Slot j) inside r never = tt

  linked_kept : (b : Bool) (n m f : ℕ) (d : Place) (leaf : Bool) (at : ℕ) → IsThere g f d → Keeps b n m f d → IsLinked leaf (frame g f) (view_of (state g n)) at → IsLinked leaf (frame g f) (view_of (state g m)) at
  linked_kept b n m f d true at inside k h = k.registers 1 (record { five = λ e. omega (arith, e); six = λ e. omega (arith, e); seventeen = λ e. omega (arith, e) }) (λ s e. omega (arith, e)) (no_value f d inside 1 (λ q less e. (value_is q less).link_not e)) ∙ h
  linked_kept b n m f d false at inside k h = return_kept g.layout f (view_of (state g n)) (view_of (state g m)) (same_head b n m f d k) ∙ h

  -- a register that others need and the function doesn't save is not written by it
  not_written : (b : Bool) (n m f : ℕ) (d : Place) → f < length g.layout.program.functions → IsThere g f d → Keeps b n m f d → ((q : ℕ) → d ≡ InRegister q → Contains (function_writes g.layout.program (function_in g.layout.program f)) q)
      → (q : ℕ) → is_member (g.layout.needs f) q ≡ true → is_member (frame g f).saved q ≡ false → reg g m (machine_register q) ≡ reg g n (machine_register q)
  not_written b n m f (Slot j) there inside k written q need unsaved = k.registers (machine_register q) (steady_is q) (λ s. lasting_apart q (g.laid.plan.lasting f q there need)) tt
  not_written b n m f (InRegister p) there inside k written q need unsaved =
      k.registers (machine_register q) (steady_is q) (λ s. lasting_apart q (g.laid.plan.lasting f q there need))
      (λ e.
      let same : q ≡ p = machine_register-same q p e in
      let saved = (g.laid.plan.saves f there).writes q (subst (λ z. Contains (function_writes g.layout.program (function_in g.layout.program f)) z) (sym same) (written p refl)) need in
      let no : true ≡ false = sym saved ∙ unsaved in
      cc)

  shows_kept : (b : Bool) (n m f : ℕ) (t u : File) (d : Place) (x : Value) → Written t u d x → HasRoom g.layout.memory (frame g f) t → Keeps b n m f d → IsLocated (frame g f) (view_of (state g m)) d (code g x)
      → ((q : ℕ) (y : Value) → read_place t (InRegister q) ≡ Some y → Spared b (machine_register q))
      → Shows g.layout.memory (frame g f) t (view_of (state g n)) → Shows g.layout.memory (frame g f) u (view_of (state g m))
  shows_kept b n m f t u d x w room k located spared shows p y e = ⊎_elim (λ (same : p ≡ d). at_place same) (λ (other : p ≢ d). elsewhere p other e) (same_place p d)
    where
      at_place : p ≡ d → IsLocated (frame g f) (view_of (state g m)) p (code g y)
      at_place same =
          let value : x ≡ y = let both : Some x ≡ Some y = sym w.same ∙ ap (read_place u) (sym same) ∙ e in cc in
          subst (λ z. IsLocated (frame g f) (view_of (state g m)) z (code g y)) (sym same) (subst (λ z. IsLocated (frame g f) (view_of (state g m)) d (code g z)) value located)

      register_apart : (c : Place) (q : ℕ) → InRegister q ≢ c → IsOther g c (machine_register q)
      register_apart (InRegister j) q other = λ z. other (ap InRegister (machine_register-same q j z))
      register_apart (Slot j) q other = tt

      slot_apart : (c : Place) (q : ℕ) → Slot q ≢ c → IsBeside g f c (slot_at (frame g f) q) 4
      slot_apart (InRegister j) q other = tt
      slot_apart (Slot j) q other = beside_slot f j q (λ z. other (ap Slot (sym z)))

      elsewhere : (c : Place) → c ≢ d → read_place u c ≡ Some y → IsLocated (frame g f) (view_of (state g m)) c (code g y)
      elsewhere (InRegister q) other found =
          let was = sym (w.others (InRegister q) other) ∙ found in
          k.registers (machine_register q) (steady_is q) (spared q y was) (register_apart d q other) ∙ shows (InRegister q) y was
      elsewhere (Slot q) other found = k.reads Whole (slot_at (frame g f) q) (slot_apart d q other) ∙ shows (Slot q) y (sym (w.others (Slot q) other) ∙ found)

  room_kept : (f : ℕ) (t u : File) (d : Place) (x : Value) → Written t u d x → code g x < 2 ^ 32 → HasRoom g.layout.memory (frame g f) t → HasRoom g.layout.memory (frame g f) u
  room_kept f t u d x w small room =
      record {
        registers = w.registers ∙ room.registers;
        slots = let long = w.slots in let most = room.slots in omega arith;
        words = λ p y e.
            ⊎_elim
            (λ (same : p ≡ d). let value : x ≡ y = let both : Some x ≡ Some y = sym w.same ∙ ap (read_place u) (sym same) ∙ e in cc in subst (λ z. code g z < 2 ^ 32) value small)
            (λ (other : p ≢ d). room.words p y (sym (w.others p other) ∙ e))
            (same_place p d);
      }

  -- what a run shows, behind an instruction that gave a place a value
  pub holds_kept : (b : Bool) (r : PlacedRunning) (n m : ℕ) (d : Place) (x : Value) (u : File) (is : List (Instr Place (List ℕ))) (world : World) (returns : List ℕ) → r.top.func < length g.layout.program.functions
      → write_place r.top.store d x ≡ Some u → code g x < 2 ^ 32 → Keeps b n m r.top.func d → IsLocated (frame g r.top.func) (view_of (state g m)) d (code g x) → world.objects ≡ r.world.objects
      → ((q : ℕ) → d ≡ InRegister q → Contains (function_writes g.layout.program (function_in g.layout.program r.top.func)) q)
      → ((q : ℕ) (y : Value) → read_place r.top.store (InRegister q) ≡ Some y → Spared b (machine_register q))
      → Holds g.layout r (view_of (state g n)) returns → Holds g.layout (record r { top = record r.top { code = is; store = u }; world = world }) (view_of (state g m)) returns
  holds_kept b r n m d x u is world returns there e small k located objects written spared h =
      let f = r.top.func in
      let w = place_written r.top.store u d x e in
      let inside = written_there f r.top.store u d x h.room e in
      let v = view_of (state g n) in
      let v2 = view_of (state g m) in
      record {
        based = k.registers base (record { five = λ z. omega (arith, z); six = λ z. omega (arith, z); seventeen = λ z. omega (arith, z) }) (λ s z. omega (arith, z)) (no_value f d inside base (λ q less z. (value_is q less).base_not z)) ∙ h.based;
        second = k.registers second_base (record { five = λ z. omega (arith, z); six = λ z. omega (arith, z); seventeen = λ z. omega (arith, z) }) (λ s z. omega (arith, z)) (no_value f d inside second_base (λ q less z. (value_is q less).second_not z)) ∙ h.second;
        room = room_kept f r.top.store u d x w small h.room;
        shows = shows_kept b n m f r.top.store u d x w h.room k located spared h.shows;
        arrays = subst (λ cs. HasArrays g.layout.memory g.layout.program.objects cs v2) (sym objects) (arrays_kept g.layout r.world.objects v v2 (same_object b n m f d there inside k) h.arrays);
        linked = linked_kept b n m f d (is_leaf (function_in g.layout.program f)) (slice_index returns 0) inside k h.linked;
        after = h.after;
        keeps =
            record {
              saved = λ q saved word. saved_kept g.layout f v v2 (same_head b n m f d k) q saved ∙ h.keeps.saved q saved word;
              other = λ q need unsaved word. not_written b n m f d there inside k written q need unsaved ∙ h.keeps.other q need unsaved word;
            };
        waits = waits_kept g.layout r.below f v v2 h.after returns (same_words b n m f d there inside k) h.waits;
      }

  -- where the environment was called, nothing is asked of the result register
  abbrev pub forgotten : Bool → PlacedRunning → PlacedRunning
  forgotten b r = record r { top = record r.top { store = unset_if b r.top.store } }

  pub forgets : (b : Bool) (r : PlacedRunning) (n : ℕ) (returns : List ℕ) → Holds g.layout r (view_of (state g n)) returns → Holds g.layout (forgotten b r) (view_of (state g n)) returns
  forgets b r n returns h =
      record {
        based = h.based;
        second = h.second;
        room = unset_room g.layout.memory (frame g r.top.func) b r.top.store h.room;
        shows = λ p x e. h.shows p x (unset_read b r.top.store p x e).0;
        arrays = h.arrays;
        linked = h.linked;
        after = h.after;
        keeps = h.keeps;
        waits = h.waits;
      }
