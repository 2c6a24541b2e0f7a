-- The machine makes a call.
use Rattle.std.proofs.Common.{◌≡◌, ◌≢◌, ⊎_elim, inl, inr, ℕ, ◌+◌, ◌%◌, ◌^◌, ◌<◌, ◌≤◌, Bool, true, false, List, [], ◌∷◌, ◌++◌, length, map, Option, Some, refl, sym, ap, ◌∙◌, subst, arith}
use Rattle.std.specs.Prelude.{slice_get}
use Rattle.rv_core.specs.declared.row.Width.{Width}
use Rattle.rv_core.specs.declared.row.Width.TheVariants.{Word as Whole}
use Rattle.rv_core.specs.Arithmetic.{byte_count}
use Rattle.rv_core.specs.Memory.{read_from}
use Rattle.rv_core.specs.Machine as machine
use Rattle.asm_items.specs.declared.item.Item.TheVariants as items
use Rattle.rv_steps.specs.Steps.{Later}
use Rattle.low_ir.specs.declared.places.Place.{Place}
use Rattle.low_ir.specs.declared.places.Place.TheVariants.{Register as InRegister, Slot}
use Rattle.low_ir.specs.declared.run.Value.{Value}
use Rattle.low_ir.specs.declared.run.Began.{Began}
use Rattle.low_ir.specs.Code.{Operand, Instr, Call}
use Rattle.low_ir.specs.Effects.{is_member}
use Rattle.low_ir.specs.Runs.{values, write_all}
use Rattle.low_ir.specs.Places.{File, places, result_register}
use Rattle.asm_program.specs.Numbers.{base, second_base, base_address, link, machine_register}
use Rattle.asm_program.specs.Frames.{home_at, slot_at}
use Rattle.asm_program.specs.Emission.{registers_among, kept_among, home_code, pass_code, late_code, before_call, behind_call}
use Rattle.asm_program.specs.Functions.{PlacedBlock, function_in, opening_items}
use Rattle.simulation_relation.specs.Noted.{Noted, noted, singles, noted_body}
use Rattle.simulation_relation.specs.Plans.{parameters_of, frame_size, SavesAt}
use Rattle.simulation_relation.specs.Positions.{Course, Rest}
use Rattle.simulation_relation.specs.Views.{view_of, HasRoom, Shows}
use Rattle.simulation_relation.specs.Following.{PlacedRunning}
use Rattle.simulation_steps.proofs.Given.{Given, state, reg, read, At}
use Rattle.simulation_steps.proofs.Places.{value_is, steady_is, machine_register-same}
use Rattle.simulation_steps.proofs.Operands.{frame, code, in_parts, Ready}
use Rattle.simulation_steps.proofs.Plains.{Going_at, ready_of, course_in, code_at, body}
use Rattle.simulation_steps.proofs.Homes.{home_word, NoHome, Homed, homes_run, Unhomed, unhomes_run}
use Rattle.simulation_steps.proofs.Calls.{Called, call_lays}
use Rattle.simulation_steps.proofs.Arrivals.{Entered, block_course, at_block, enter_filled}
use Rattle.simulation_steps.proofs.Members.{link_apart}
use Rattle.simulation_law.proofs.Late.{late_registers, late_is, late_parameter, told}
use Rattle.simulation_law.proofs.Passing.{IsPassed, Awaits, IsOutside, Between, Passed, pass_runs}
use Rattle.simulation_law.proofs.Stores.{empty_file, empty_reads, empty_room, all_taken}

module _ (g : Given) where
  abbrev params : ℕ → List Place
  params c = parameters_of g.layout.program c

  -- what stands behind the call itself
  abbrev pub behind : PlacedRunning → ℕ → Option Place → ℕ → List ℕ → List (Instr Place (List ℕ)) → List Noted
  behind r b d c note is = singles (behind_call (frame g r.top.func) d (params c) note) ++ body g r b is

  -- where function c begins, called by function f with its own values in t, and with u in its places
  pub record Begins (n m f c back : ℕ) (note : List ℕ) (t u : File) : Type 0 where
    pub link_is : reg g m link ≡ back
    pub based : reg g m base ≡ base_address
    pub second : reg g m second_base ≡ g.layout.memory.second
    pub registers : (q : ℕ) → is_member (registers_among (params c)) q ≡ false → reg g m (machine_register q) ≡ reg g n (machine_register q)
    pub homes : (q : ℕ) → is_member (kept_among (params c) note) q ≡ true → read g m Whole (home_at (frame g f) q) ≡ Some (reg g n (machine_register q) % 2 ^ 32)
    pub beside : (y : Width) (a : ℕ) → IsOutside g c a (byte_count y) → NoHome g f a (byte_count y) → read g m y a ≡ read g n y a
    pub input : (state g m).world.input ≡ (state g n).world.input
    pub output : (state g m).world.output ≡ (state g n).world.output
    pub room : HasRoom g.layout.memory (frame g c) u
    pub shows : Shows g.layout.memory (frame g c) u (view_of (state g m))
    pub inside : (q : ℕ) → is_member (registers_among (params c)) q ≡ true → q ≤ result_register

  -- another function's frame is outside
  pub frame_outside : (f c a n : ℕ) → f ≢ c → f < length g.layout.program.functions → c < length g.layout.program.functions → (frame g f).at ≤ a → a + n ≤ (frame g f).at + frame_size (frame g f) → IsOutside g c a n
  frame_outside f c a n other there callee from to =
      ⊎_elim
      (λ (h : (frame g f).at + frame_size (frame g f) ≤ (frame g c).at). inl (omega arith))
      (λ (h : (frame g c).at + frame_size (frame g c) ≤ (frame g f).at). inr (omega arith))
      (g.laid.plan.frames_apart f c other there callee)

  pub no_home_outside : (f a n : ℕ) → IsOutside g f a n → NoHome g f a n
  no_home_outside f a n (inl low) = inl (omega arith)
  no_home_outside f a n (inr high) = inr (omega arith)

  -- the caller's values while its registers are at home too
  ready_homed : (k : Course) (n m f : ℕ) (qs : List ℕ) (t : File) (ys : List Noted) → Ready g f t n → Homed g k n m f qs ys → Ready g f t m
  ready_homed k n m f qs t ys ready a =
      record {
        there = ready.there;
        based = a.registers base (λ e. omega (arith, e)) ∙ ready.based;
        second = a.registers second_base (λ e. omega (arith, e)) ∙ ready.second;
        room = ready.room;
        shows = shows;
      }
    where
      shows : Shows g.layout.memory (frame g f) t (view_of (state g m))
      shows (InRegister q) x e = a.registers (machine_register q) (steady_is q).five ∙ ready.shows (InRegister q) x e
      shows (Slot j) x e = a.beside Whole (slot_at (frame g f) j) (inr (omega arith)) ∙ ready.shows (Slot j) x e

  -- a register that isn't a parameter's is none of these
  apart_from : (ps : List Place) (q p : ℕ) → is_member (registers_among ps) q ≡ false → is_member (registers_among ps) p ≡ true → machine_register q ≢ machine_register p
  apart_from ps q p outside own e = let same : q ≡ p = machine_register-same q p e in let both : true ≡ false = sym own ∙ ap (is_member (registers_among ps)) (sym same) ∙ outside in cc

  base_apart : (q : ℕ) → q ≤ result_register → base ≢ machine_register q
  base_apart q less e = (value_is q less).base_not (sym e)

  second_apart : (q : ℕ) → q ≤ result_register → second_base ≢ machine_register q
  second_apart q less e = (value_is q less).second_not (sym e)

  -- the arguments in the places of the callee, once the late ones are loaded
  shows_loaded : (k : Course) (j i c : ℕ) (late : List ℕ) (u : File) (ys : List Noted) → Awaits g j c late u → Unhomed g k j i c late ys → Shows g.layout.memory (frame g c) u (view_of (state g i))
  shows_loaded k j i c late u ys awaits d (Slot s) x e = ap (λ (z : machine.World). read_from (λ b. b.read) Whole z.memory (slot_at (frame g c) s)) d.world ∙ awaits.slots s x e
  shows_loaded k j i c late u ys awaits d (InRegister q) x e = by_late (is_member late q) refl (awaits.registers q x e)
    where
      by_late : (b : Bool) → is_member late q ≡ b → IsPassed g j c b q (code g x) → reg g i (machine_register q) ≡ code g x
      by_late true l z = d.loads q (code g x) z (inl l)
      by_late false l z = d.others (machine_register q) (λ p own s. let same : q ≡ p = machine_register-same q p s in let both : true ≡ false = sym own ∙ ap (is_member late) (sym same) ∙ l in cc) ∙ z

  shows_after : (i m c : ℕ) (u : File) → ((q : ℕ) → q ≢ 1 → q ≢ 5 → reg g m q ≡ reg g i q) → (state g m).world ≡ (state g i).world → Shows g.layout.memory (frame g c) u (view_of (state g i)) → Shows g.layout.memory (frame g c) u (view_of (state g m))
  shows_after i m c u registers world shows (Slot s) x e = ap (λ (z : machine.World). read_from (λ b. b.read) Whole z.memory (slot_at (frame g c) s)) world ∙ shows (Slot s) x e
  shows_after i m c u registers world shows (InRegister q) x e = registers (machine_register q) (link_apart q) (steady_is q).five ∙ shows (InRegister q) x e

  -- from the call on to where the callee begins
  begins : (k : Course) (n m j i v y f c back : ℕ) (note : List ℕ) (t u : File) (late : List ℕ) (ws xs ys zs : List Noted) (trace : List Began) (kc : Course) → f < length g.layout.program.functions → Between g f c late → ((q : ℕ) → is_member late q ≡ true → is_member (registers_among (params c)) q ≡ true)
      → ((q : ℕ) → is_member (kept_among (params c) note) q ≡ true → is_member (frame g f).homes q ≡ true) → Ready g f t n → Homed g k n m f (kept_among (params c) note) ws → Passed g k m j c (params c) late u xs → Unhomed g k j i c late ys → Called g i v (g.layout.starts c 0) back trace k.returns
      → Entered g kc v y zs → Begins n y f c back note t u
  begins k n m j i v y f c back note t u late ws xs ys zs trace kc there between among homes ready a b d called entered =
      record {
        link_is = entered.registers link ∙ called.link;
        based = still base (λ e. omega (arith, e)) (λ e. omega (arith, e)) (λ e. omega (arith, e)) (λ q own. base_apart q (b.inside q own)) ∙ ready.based;
        second = still second_base (λ e. omega (arith, e)) (λ e. omega (arith, e)) (λ e. omega (arith, e)) (λ q own. second_apart q (b.inside q own)) ∙ ready.second;
        registers = λ q outside. still (machine_register q) (link_apart q) (steady_is q).five (steady_is q).six (λ p own. apart_from (params c) q p outside own);
        homes = λ q own.
            let word = home_word g f q there (homes q own) in
            let from = word.from in
            let to = word.to in
            later Whole (home_at (frame g f) q) ∙ b.beside Whole (home_at (frame g f) q) (frame_outside f c (home_at (frame g f) q) 4 between.other there between.callee from to) ∙ a.homes q (homes q own) (inl own);
        beside = λ w x outside no_home. later w x ∙ b.beside w x outside ∙ a.beside w x no_home;
        input = ap (λ (z : machine.World). z.input) world ∙ b.input ∙ a.input;
        output = ap (λ (z : machine.World). z.output) world ∙ b.output ∙ a.output;
        room = b.room;
        shows = shows_after i y c u (λ q one five. entered.registers q ∙ called.registers q one five) (entered.world ∙ called.world) (shows_loaded k j i c late u ys b.awaits d);
        inside = b.inside;
      }
    where
      world : (state g y).world ≡ (state g j).world
      world = entered.world ∙ called.world ∙ d.world

      later : (w : Width) (x : ℕ) → read g y w x ≡ read g j w x
      later w x = ap (λ (z : machine.World). read_from (λ s. s.read) w z.memory x) world

      still : (r : ℕ) → r ≢ 1 → r ≢ 5 → r ≢ 6 → ((q : ℕ) → is_member (registers_among (params c)) q ≡ true → r ≢ machine_register q) → reg g y r ≡ reg g n r
      still r one five six others = entered.registers r ∙ called.registers r one five ∙ d.others r (λ q own. others q (among q own)) ∙ b.registers r five six others ∙ a.registers r five

  -- the arguments are passed and the callee is entered
  pub call_runs : (r : PlacedRunning) (P : ℕ → Type 0) (n c : ℕ) (d : Option Place) (args : List (Operand Place)) (note : List ℕ) (is : List (Instr Place (List ℕ))) (block : PlacedBlock) (vs : List Value) (u : File) (h : Going_at g r n) → r.top.code ≡ Call d c args note ∷ is
      → c < length g.layout.program.functions → c < r.top.func → SavesAt g.layout.program g.layout.memory g.layout.needs r.top.func c note → slice_get (function_in g.layout.program c).blocks 0 ≡ Some block
      → values places r.top.store args ≡ Some vs → write_all places (Some (empty_file (function_in g.layout.program c).size)) (params c) vs ≡ Some u
      → ((back m : ℕ) → Rest g.layout r.top.func (g.layout.stops r.top.func h.block) back (behind r h.block d c note is) → Begins n m r.top.func c back note r.top.store u
      → At g (block_course g c 0 (r.world.trace ++ record { function = c; block = 0 } ∷ []) (back ∷ h.returns)) m (map noted (opening_items g.layout.memory g.layout.program c 0) ++ noted_body g.layout.memory g.layout.program c 0 block.code block.end) → Later P m) → Later P n
  call_runs r P n c d args note is block vs u h code_is callee below saves first values_are written go =
      let l = g.layout in
      let f = r.top.func in
      let t = r.top.store in
      let fr = frame g f in
      let fc = frame g c in
      let k = course_in g r r.world h.block h.returns in
      let ps = params c in
      let late = late_registers ps args ps in
      let qs = kept_among ps note in
      let rest = behind r h.block d c note is in
      let xs = noted (items.Call true c) ∷ rest in
      let ready = ready_of g r n h in
      let size = (function_in l.program c).size in
      let taken = all_taken t u args ps vs (Some (empty_file size)) values_are written in
      let start : At g k n (singles (before_call fr fc ps note args) ++ xs) =
      subst (λ z. At g k n (singles (before_call fr fc z note args) ++ (noted (items.Call true c) ∷ (singles (behind_call fr d z note) ++ body g r h.block is)))) taken (code_at g r n (Call d c args note) is h code_is) in
      let pass = pass_code fr fc ps args ps in
      let loads = late_code fr fc ps args ps in
      let among : (q : ℕ) → is_member late q ≡ true → is_member (registers_among ps) q ≡ true = λ q e. late_parameter ps q args ps e in
      let between : Between g f c late = record { callee = callee; other = λ e. omega (arith, e); homes = λ q e. saves.arguments q (among q e) } in
      let trace = r.world.trace ++ record { function = c; block = 0 } ∷ [] in
      homes_run g k P n f qs (singles (pass ++ loads) ++ xs) ready.there ready.based saves.homes (in_parts g k n (home_code fr qs) (pass ++ loads) xs start)
      (λ m a. pass_runs g k P m f c late ps args ps (singles loads ++ xs) vs t (empty_file size) u between (ready_homed k n m f qs t (singles (pass ++ loads) ++ xs) ready a) values_are (empty_room l.memory fc size (g.laid.plan.slots c callee))
      (record { registers = λ q x e. absurd (empty_reads size (InRegister q) x e); slots = λ s x e. absurd (empty_reads size (Slot s) x e) }) (told ps args) written (in_parts g k m pass loads xs a.at)
      (λ j b. unhomes_run g k P j c late xs callee (b.registers base (λ e. omega (arith, e)) (λ e. omega (arith, e)) (λ q own. base_apart q (b.inside q own)) ∙ a.registers base (λ e. omega (arith, e)) ∙ ready.based)
      (λ q e. (between.homes q e, b.inside q (among q e))) (subst (λ z. At g k j (singles z ++ xs)) (late_is fr fc ps args ps) b.at)
      (λ i e. call_lays g k P i c true rest e.at
      (λ back v stands called. enter_filled g (block_course g c 0 trace (back ∷ h.returns)) P v (map noted (opening_items l.memory l.program c 0) ++ noted_body l.memory l.program c 0 block.code block.end)
      (at_block g v c 0 block r.world.trace (back ∷ h.returns) callee first called.stood)
      (λ y s. go back y stands
      (begins k n m j i v y f c back note t u late (singles (pass ++ loads) ++ xs) (singles loads ++ xs) xs (map noted (opening_items l.memory l.program c 0) ++ noted_body l.memory l.program c 0 block.code block.end) r.world.trace (block_course g c 0 trace (back ∷ h.returns)) ready.there between among saves.homes ready a b e called s)
      s.at)))))
