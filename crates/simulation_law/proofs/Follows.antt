-- The machine follows a run over places through a call.
use Rattle.std.proofs.Common.{◌≡◌, ⊎_elim, inl, inr, ℕ, ◌+◌, ◌%◌, ◌^◌, ◌<◌, ◌≤◌, Bool, true, false, List, [], ◌∷◌, ◌++◌, length, Option, Some, None, refl, sym, ap, ◌∙◌, subst, arith}
use Rattle.std.specs.Prelude.{nat_lt, slice_get, slice_index}
use Rattle.std.specs.Option.{option_to_list}
use Rattle.std.proofs.lemmas.Bool.{ltb-true}
use Rattle.std.proofs.lemmas.List.{append_assoc}
use Rattle.std.proofs.lemmas.Option.{get_or_from_slice_get, slice_get_within}
use Rattle.rv_core.specs.declared.row.Width.{Width}
use Rattle.rv_core.specs.declared.row.Width.TheVariants.{Word as Whole}
use Rattle.rv_core.specs.Arithmetic.{byte_count}
use Rattle.rv_steps.specs.Steps.{Later}
use Rattle.rv_steps.proofs.LaterLemmas.{now}
use Rattle.low_ir.specs.Arrays.{bytes_of}
use Rattle.low_ir.specs.declared.places.Place.{Place}
use Rattle.low_ir.specs.declared.places.Place.TheVariants.{Register as InRegister, Slot}
use Rattle.low_ir.specs.declared.run.Value.{Value}
use Rattle.low_ir.specs.Code.{Operand, Instr, Call, Jump, Object}
use Rattle.low_ir.specs.Effects.{is_member, began}
use Rattle.low_ir.specs.Runs.{values, write_all, enter, begin, only_where, waiting, call, at_instr}
use Rattle.low_ir.specs.Places.{File, places}
use Rattle.asm_program.specs.Numbers.{base, second_base, machine_register}
use Rattle.asm_program.specs.Frames.{saved_at, home_at, slot_at, return_at, object_at}
use Rattle.asm_program.specs.Emission.{registers_among}
use Rattle.asm_program.specs.Functions.{PlacedBlock, PlacedFunction, no_function, function_in, is_leaf, entry_code}
use Rattle.simulation_relation.specs.Noted.{Noted, noted_body}
use Rattle.simulation_relation.specs.Plans.{parameters_of, frame_size, SavesAt}
use Rattle.simulation_relation.specs.Positions.{Course, Rest}
use Rattle.simulation_relation.specs.Views.{view_of, Shows}
use Rattle.simulation_relation.specs.Waiting.{IsIn, Returns, Rests, IsLinked}
use Rattle.simulation_relation.specs.Following.{PlacedRunning, Holds, Goes}
use Rattle.simulation_steps.proofs.Given.{Given, run_of, state, reg, read, At}
use Rattle.simulation_steps.proofs.Places.{steady_is, slot_word, within}
use Rattle.simulation_steps.proofs.Noting.{noted_singles}
use Rattle.simulation_steps.proofs.Operands.{frame, code}
use Rattle.simulation_steps.proofs.Apart.{position-below, waits_kept, arrays_kept}
use Rattle.simulation_steps.proofs.Elements.{member_contains}
use Rattle.simulation_steps.proofs.Holding.{got_contains, left_contains, writes_known}
use Rattle.simulation_steps.proofs.Plains.{Runs, Going_at}
use Rattle.simulation_steps.proofs.Homes.{NoHome, home_word}
use Rattle.simulation_steps.proofs.Saved.{saved_word}
use Rattle.simulation_steps.proofs.Arrivals.{block_course}
use Rattle.simulation_steps.proofs.Entries.{Opened, opens}
use Rattle.simulation_steps.proofs.Members.{kept_member, among_append, calls_some}
use Rattle.simulation_law.proofs.Passing.{IsOutside}
use Rattle.simulation_law.proofs.Stores.{empty_file, kept_value, kept_room}
use Rattle.simulation_law.proofs.Calls.{behind, Begins, frame_outside, no_home_outside, call_runs}

module _ (g : Given) where
  abbrev params : ℕ → List Place
  params c = parameters_of g.layout.program c

  -- the run behind a call, in the callee's first block
  abbrev called : PlacedRunning → List (Instr Place (List ℕ)) → Option Place → List ℕ → ℕ → PlacedBlock → File → PlacedRunning
  called r is d note c block u = record { top = record { func = c; code = block.code; end = block.end; store = u }; below = waiting places r.top is d note ∷ r.below; world = began r.world c 0 }

  -- what the registers hold where the callee begins
  abbrev at_entry : ℕ → ℕ → ℕ
  at_entry m q = reg g m (machine_register q)

  -- an array is outside each frame
  object_outside : (o c a n : ℕ) (x : Object) → slice_get g.layout.program.objects o ≡ Some x → c < length g.layout.program.functions → object_at g.layout.memory o ≤ a → a + n ≤ object_at g.layout.memory o + bytes_of x → IsOutside g c a n
  object_outside o c a n x found there from to =
      ⊎_elim
      (λ (low : object_at g.layout.memory o + bytes_of x ≤ (frame g c).at). inl (omega arith))
      (λ (high : (frame g c).at + frame_size (frame g c) ≤ object_at g.layout.memory o). inr (omega arith))
      (g.laid.plan.beside_frames o c x found there)

  -- a call by the activation on top, of function c with these values, that enters it
  record Calls (r : PlacedRunning) (n c : ℕ) (d : Option Place) (args : List (Operand Place)) (note : List ℕ) (is : List (Instr Place (List ℕ))) : Type 0 where
    goes : Going_at g r n
    left : IsIn g.layout.program r.top.func goes.block (Call d c args note ∷ is) r.top.end
    callee : c < length g.layout.program.functions
    below : c < r.top.func
    saves : SavesAt g.layout.program g.layout.memory g.layout.needs r.top.func c note

  module _ (r : PlacedRunning) (n m o c back : ℕ) (d : Option Place) (args : List (Operand Place)) (note : List ℕ) (is : List (Instr Place (List ℕ))) (u : File) (kc : Course) (xs : List Noted) (h : Calls r n c d args note is) (b : Begins g n m r.top.func c back note r.top.store u)
      (opened : Opened g kc m o c back (is_leaf (function_in g.layout.program c)) xs) where
    -- what neither the callee's frame nor the caller's homes have is as before
    outer : (y : Width) (a : ℕ) → IsOutside g c a (byte_count y) → NoHome g r.top.func a (byte_count y) → read g o y a ≡ read g n y a
    outer y a outside no_home =
        opened.beside y a (⊎_elim (λ (low : a + byte_count y ≤ (frame g c).at). inl low) (λ (high : (frame g c).at + frame_size (frame g c) ≤ a). inr (omega arith)) outside) ∙ b.beside y a outside no_home

    own_outside : (a : ℕ) → (frame g r.top.func).at ≤ a → a + 4 ≤ (frame g r.top.func).at + frame_size (frame g r.top.func) → IsOutside g c a 4
    own_outside a from to = let low = h.below in frame_outside g r.top.func c a 4 (λ e. omega (arith, e)) h.left.there h.callee from to

    register_kept : (q : ℕ) → reg g o (machine_register q) ≡ at_entry m q
    register_kept q = opened.registers (machine_register q) (steady_is q).five

    shows_opened : Shows g.layout.memory (frame g c) u (view_of (state g o))
    shows_opened (InRegister q) x e = register_kept q ∙ b.shows (InRegister q) x e
    shows_opened (Slot s) x e = opened.beside Whole (slot_at (frame g c) s) (inr (omega arith)) ∙ b.shows (Slot s) x e

    -- what others need of the caller and it doesn't save is no parameter's
    not_parameter : (q : ℕ) → is_member (g.layout.needs r.top.func) q ≡ true → is_member (frame g r.top.func).saved q ≡ false → (own : Bool) → is_member (registers_among (params c)) q ≡ own → own ≡ false
    not_parameter q need unsaved false e = refl
    not_parameter q need unsaved true e =
        let p = g.layout.program in
        let saved = (g.laid.plan.saves r.top.func h.left.there).writes q (writes_known p r.top.func h.goes.block (Call d c args note) is r.top.end q h.left (among_append (option_to_list d) (params c) q (member_contains (registers_among (params c)) q e))) need in
        let both : true ≡ false = sym saved ∙ unsaved in
        cc

    caller_rests : Rest g.layout r.top.func (g.layout.stops r.top.func h.goes.block) back (behind g r h.goes.block d c note is) → Rests g.layout (waiting places r.top is d note) c (view_of (state g o)) (at_entry m) back
    caller_rests rest =
        let f = r.top.func in
        let t = r.top.store in
        let holds = h.goes.holds in
        let left = h.left in
        record {
          called = h.below;
          room = kept_room g.layout.memory (frame g f) note t holds.room;
          slots = λ k x e.
              let less = within t.slots k x e in
              let few = holds.room.slots in
              let word = slot_word g.layout g.image g.laid f k left.there (omega arith) in
              outer Whole (slot_at (frame g f) k) (own_outside (slot_at (frame g f) k) word.from word.to) (inr (omega arith)) ∙ holds.shows (Slot k) x e;
          registers = λ q x e outside.
              let kept = kept_value note t.registers q x e in
              (h.saves.kept q kept.0 outside, b.registers q outside ∙ holds.shows (InRegister q) x kept.1);
          parameters = b.inside;
          args = args;
          note = note;
          homes = λ q x e own.
              let kept = kept_value note t.registers q x e in
              let member = kept_member (params c) note q own kept.0 in
              let home = h.saves.homes q member in
              let word = home_word g f q left.there home in
              let small = holds.room.words (InRegister q) x kept.1 in
              let whole : code g x % 2 ^ 32 ≡ code g x = omega arith in (
                kept.0,
                home,
                opened.beside Whole (home_at (frame g f) q) (⊎_elim (λ (low : home_at (frame g f) q + 4 ≤ (frame g c).at). inl low) (λ (high : (frame g c).at + frame_size (frame g c) ≤ home_at (frame g f) q). inr (omega arith)) (own_outside (home_at (frame g f) q) word.from word.to))
                    ∙ b.homes q member
                    ∙ ap (λ z. Some (z % 2 ^ 32)) (holds.shows (InRegister q) x kept.1)
                    ∙ ap Some whole,
              );
          block = h.goes.block;
          inside = record { there = left.there; block = left.block; has = left.has; before = left.before ++ Call d c args note ∷ []; code = append_assoc left.before (Call d c args note ∷ []) is ∙ left.code; ends = left.ends };
          call = left_contains left.before (Call d c args note) is left.block.code left.code;
          rest = rest;
        }

    caller_returns : Returns g.layout r.top.func (at_entry m) (view_of (state g o)) h.goes.holds.after
    caller_returns =
        let f = r.top.func in
        let keeps = h.goes.holds.keeps in
        record {
          saved = λ q e small.
              let word = saved_word g f q h.left.there e in
              let less = position-below (frame g f).saved q e in
              outer Whole (saved_at (frame g f) q) (own_outside (saved_at (frame g f) q) word.from word.to) (inl (omega arith)) ∙ keeps.saved q e small;
          other = λ q need unsaved small. b.registers q (not_parameter q need unsaved (is_member (registers_among (params c)) q) refl) ∙ keeps.other q need unsaved small;
        }

    return_word : read g o Whole (return_at (frame g r.top.func)) ≡ Some (slice_index h.goes.returns 0)
    return_word =
        let f = r.top.func in
        let left = h.left in
        let some = calls_some (function_in g.layout.program f).blocks h.goes.block left.block d c args note left.has (left_contains left.before (Call d c args note) is left.block.code left.code) in
        outer Whole (return_at (frame g f)) (own_outside (return_at (frame g f)) (omega arith) (omega arith)) (inl (omega arith))
        ∙ subst (λ leaf. IsLinked leaf (frame g f) (view_of (state g n)) (slice_index h.goes.returns 0)) some h.goes.holds.linked

    callee_holds : (block : PlacedBlock) → Rest g.layout r.top.func (g.layout.stops r.top.func h.goes.block) back (behind g r h.goes.block d c note is) → Holds g.layout (called r is d note c block u) (view_of (state g o)) (back ∷ h.goes.returns)
    callee_holds block rest =
        let l = g.layout in
        let f = r.top.func in
        let holds = h.goes.holds in
        let there = h.left.there in
        let low = h.below in
        record {
          based = opened.registers base (λ e. omega (arith, e)) ∙ b.based;
          second = opened.registers second_base (λ e. omega (arith, e)) ∙ b.second;
          room = b.room;
          shows = shows_opened;
          arrays = arrays_kept l r.world.objects (view_of (state g n)) (view_of (state g o))
              (λ e x found y a from to. outer y a (object_outside e c a (byte_count y) x found h.callee from to) (no_home_outside g f a (byte_count y) (object_outside e f a (byte_count y) x found there from to))) holds.arrays;
          linked = opened.linked;
          after = at_entry m;
          keeps =
              record {
                saved = λ q e small. let whole : at_entry m q % 2 ^ 32 ≡ at_entry m q = omega arith in opened.words q e ∙ ap Some whole;
                other = λ q need unsaved small. register_kept q;
              };
          waits = (
            caller_rests rest,
            (
              holds.after,
              caller_returns,
              return_word,
              waits_kept l r.below f (view_of (state g n)) (view_of (state g o)) holds.after h.goes.returns
                  (λ x more few a from to. outer Whole a (frame_outside g x c a 4 (λ e. omega (arith, e)) few h.callee from to) (no_home_outside g f a 4 (frame_outside g x f a 4 (λ e. omega (arith, e)) few there from to))) holds.waits,
            ),
          );
        }

  -- a call that enters its callee
  enters : (r : PlacedRunning) (n c : ℕ) (d : Option Place) (args : List (Operand Place)) (note : List ℕ) (is : List (Instr Place (List ℕ))) (block : PlacedBlock) (vs : List Value) (u : File) → r.top.code ≡ Call d c args note ∷ is → Calls r n c d args note is
      → slice_get (function_in g.layout.program c).blocks 0 ≡ Some block → values places r.top.store args ≡ Some vs → write_all places (Some (empty_file (function_in g.layout.program c).size)) (params c) vs ≡ Some u → Later (Goes g.layout (run_of g) (called r is d note c block u)) n
  enters r n c d args note is block vs u code_is h first values_are written =
      let l = g.layout in
      let goal = Goes l (run_of g) (called r is d note c block u) in
      let trace = r.world.trace ++ record { function = c; block = 0 } ∷ [] in
      let xs = noted_body l.memory l.program c 0 block.code block.end in
      call_runs g r goal n c d args note is block vs u h.goes code_is h.callee h.below h.saves first values_are written
      (λ back m rest b at.
      let high = rest.room in
      opens g (block_course g c 0 trace (back ∷ h.goes.returns)) goal m c back (is_leaf (function_in l.program c)) xs h.callee b.based b.link_is (omega arith)
      (subst (λ ys. At g (block_course g c 0 trace (back ∷ h.goes.returns)) m (ys ++ xs)) (noted_singles (entry_code (is_leaf (function_in l.program c)) (frame g c))) at)
      (λ o opened. now goal o
      (record {
        block = 0;
        inside = record { there = h.callee; block = block; has = first; before = []; code = refl; ends = refl };
        returns = back ∷ h.goes.returns;
        holds = callee_holds r n m o c back d args note is u (block_course g c 0 trace (back ∷ h.goes.returns)) xs h b opened block rest;
        exchanges = record { input = opened.input ∙ b.input ∙ h.goes.exchanges.input; bytes = h.goes.exchanges.bytes; output = opened.output ∙ b.output ∙ h.goes.exchanges.output };
        at = opened.at;
      })))

  -- the activation on top calls a function
  calls : (r : PlacedRunning) (n c : ℕ) (d : Option Place) (args : List (Operand Place)) (note : List ℕ) (is : List (Instr Place (List ℕ))) (h : Going_at g r n) → r.top.code ≡ Call d c args note ∷ is → c < length g.layout.program.functions → c < r.top.func → Calls r n c d args note is
  calls r n c d args note is h code_is callee below =
      let p = g.layout.program in
      let left : IsIn p r.top.func h.block (Call d c args note ∷ is) r.top.end = subst (λ z. IsIn p r.top.func h.block z r.top.end) code_is h.inside in
      record {
        goes = h;
        left = left;
        callee = callee;
        below = below;
        saves = g.laid.plan.calls r.top.func c left.block d args note left.there (got_contains (function_in p r.top.func).blocks h.block left.block left.has) (left_contains left.before (Call d c args note) is left.block.code left.code);
      }

  call_by : (r : PlacedRunning) (n : ℕ) (d : Option Place) (c : ℕ) (args : List (Operand Place)) (note : List ℕ) (is : List (Instr Place (List ℕ))) (h : Going_at g r n) → r.top.code ≡ Call d c args note ∷ is → (fn : Option PlacedFunction) → slice_get g.layout.program.functions c ≡ fn
      → (vs : Option (List Value)) → values places r.top.store args ≡ vs → Later (Runs g (call places r is d c note fn vs)) n
  call_by r n d c args note is h code_is None found vs e = now (Runs g (call places r is d c note None vs)) n tt
  call_by r n d c args note is h code_is (Some fn) found None e = now (Runs g (call places r is d c note (Some fn) None)) n tt
  call_by r n d c args note is h code_is (Some fn) found (Some vs) e = by_number (nat_lt c r.top.func) refl (write_all places (Some (places.empty fn.size)) fn.parameters vs) refl
    where
      top : File → PlacedRunning
      top u = record { top = record { func = c; code = []; end = Jump 0; store = u }; below = waiting places r.top is d note ∷ r.below; world = r.world }

      by_block : c < r.top.func → (u : File) → write_all places (Some (places.empty fn.size)) fn.parameters vs ≡ Some u → (block : Option PlacedBlock) → slice_get fn.blocks 0 ≡ block → Later (Runs g (enter (top u) 0 block)) n
      by_block below u written None first = now (Runs g (enter (top u) 0 None)) n tt
      by_block below u written (Some block) first =
          let p = g.layout.program in
          let is_fn : function_in p c ≡ fn = get_or_from_slice_get p.functions c fn no_function found in
          enters r n c d args note is block vs u code_is (calls r n c d args note is h code_is (slice_get_within p.functions c fn found) below) (ap (λ (x : PlacedFunction). slice_get x.blocks 0) is_fn ∙ first) e
          (subst (λ (x : PlacedFunction). write_all places (Some (empty_file x.size)) x.parameters vs ≡ Some u) (sym is_fn) written)

      by_number : (lower : Bool) → nat_lt c r.top.func ≡ lower → (o : Option File) → write_all places (Some (places.empty fn.size)) fn.parameters vs ≡ o → Later (Runs g (only_where lower (begin (waiting places r.top is d note ∷ r.below) r.world c fn o))) n
      by_number false l o written = now (Runs g (only_where false (begin (waiting places r.top is d note ∷ r.below) r.world c fn o))) n tt
      by_number true l None written = now (Runs g (begin (waiting places r.top is d note ∷ r.below) r.world c fn None)) n tt
      by_number true l (Some u) written = by_block (ltb-true c r.top.func l) u written (slice_get fn.blocks 0) refl

  -- from where the run is to where its call leads
  pub call_follows : (r : PlacedRunning) (n : ℕ) (d : Option Place) (c : ℕ) (args : List (Operand Place)) (note : List ℕ) (is : List (Instr Place (List ℕ))) (h : Going_at g r n) → r.top.code ≡ Call d c args note ∷ is
      → Later (Runs g (at_instr places g.layout.program r (Call d c args note) is)) n
  call_follows r n d c args note is h code_is = call_by r n d c args note is h code_is (slice_get g.layout.program.functions c) refl (values places r.top.store args) refl
