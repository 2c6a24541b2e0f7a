-- An activation that waited goes on.
use Rattle.std.proofs.Common.{◌≡◌, inl, ℕ, ◌^◌, ◌<◌, Bool, true, false, List, ◌∷◌, ◌++◌, length, Contains, Option, Some, None, refl, sym, ap, ◌∙◌, subst, arith}
use Rattle.std.specs.Prelude.{slice_index}
use Rattle.std.specs.Option.{option_to_list}
use Rattle.rv_core.specs.declared.row.Width.{Width}
use Rattle.rv_core.specs.declared.row.Width.TheVariants.{Word as Whole}
use Rattle.rv_core.specs.Memory.{read_from}
use Rattle.rv_core.specs.Machine as machine
use Rattle.rv_steps.specs.Steps.{Later}
use Rattle.rv_steps.proofs.LaterLemmas.{now}
use Rattle.low_ir.specs.declared.places.Place.{Place}
use Rattle.low_ir.specs.declared.places.Place.TheVariants.{Register as InRegister, Slot}
use Rattle.low_ir.specs.declared.run.Value.TheVariants.{Word}
use Rattle.low_ir.specs.Code.{Operand, Call}
use Rattle.low_ir.specs.Effects.{is_member}
use Rattle.low_ir.specs.Runs.{goes_on, write_to}
use Rattle.low_ir.specs.Places.{File, places}
use Rattle.asm_program.specs.Numbers.{base, second_base, base_address, result, machine_register}
use Rattle.asm_program.specs.Frames.{slot_at, saved_at, home_at, return_at}
use Rattle.asm_program.specs.Emission.{registers_among, kept_among, return_code, value_code, behind_call}
use Rattle.asm_program.specs.Functions.{PlacedBlock, function_in, is_leaf}
use Rattle.simulation_relation.specs.Noted.{Noted, singles, noted_body}
use Rattle.simulation_relation.specs.Plans.{parameters_of, writes_of, block_writes, function_writes, SavesAt}
use Rattle.simulation_relation.specs.Positions.{Course}
use Rattle.simulation_relation.specs.Views.{View, view_of, Shows}
use Rattle.simulation_relation.specs.Waiting.{IsIn, PlacedWaiting, Rests, AreWaiting, IsLinked}
use Rattle.simulation_relation.specs.Following.{PlacedRunning, Holds, Exchanges, Goes}
use Rattle.simulation_steps.proofs.Given.{Given, run_of, state, reg, read, At}
use Rattle.simulation_steps.proofs.Places.{value_is, steady_is, machine_register-same, lasting_apart, lasts}
use Rattle.simulation_steps.proofs.Operands.{frame, code, in_parts}
use Rattle.simulation_steps.proofs.Operands as operands
use Rattle.simulation_steps.proofs.Apart.{waits_kept, arrays_kept}
use Rattle.simulation_steps.proofs.Elements.{member_contains}
use Rattle.simulation_steps.proofs.Holding.{in_flat_map, got_contains, holds_kept, written_there}
use Rattle.simulation_steps.proofs.Plains.{Runs}
use Rattle.simulation_steps.proofs.Homes.{Unhomed, unhomes_run}
use Rattle.simulation_steps.proofs.Members.{kept_member, kept_parameter, among_append, calls_some, link_apart, kept_noted}
use Rattle.simulation_steps.proofs.Standing.{to_run}
use Rattle.simulation_steps.proofs.Entries.{Left}

among_first : (d : Place) (qs : List Place) (q : ℕ) → d ≡ InRegister q → Contains (registers_among (d ∷ qs)) q
among_first (InRegister r) qs q e = let same : r ≡ q = cc in (0, omega arith, same)
among_first (Slot j) qs q e = absurd cc

module _ (g : Given) where
  -- what a run shows of the activation that goes on
  abbrev resumed : PlacedRunning → PlacedWaiting → List PlacedWaiting → PlacedRunning
  resumed r w ws = record { top = w.frame; below = ws; world = r.world }

  -- the place of the value that a call gives
  gives_value : (r : PlacedRunning) (w : PlacedWaiting) (ws : List PlacedWaiting) (n v block : ℕ) (rest : List ℕ) → v < 2 ^ 32 → (inside : IsIn g.layout.program w.frame.func block w.frame.code w.frame.end)
      → ((q : ℕ) → w.into ≡ Some (InRegister q) → Contains (function_writes g.layout.program (function_in g.layout.program w.frame.func)) q)
      → Holds g.layout (resumed r w ws) (view_of (state g n)) rest → Exchanges g.layout (run_of g) r.world n → reg g n result ≡ v
      → (d : Option Place) → w.into ≡ d → At g (record { function = w.frame.func; stop = g.layout.stops w.frame.func block; trace = r.world.trace; returns = rest }) n (singles (value_code (frame g w.frame.func) d) ++ noted_body g.layout.memory g.layout.program w.frame.func block w.frame.code w.frame.end)
      → (o : Option File) → write_to places w.frame.store d (Word v) ≡ o → Later (Runs g (goes_on (resumed r w ws) w.frame.code r.world o)) n
  gives_value r w ws n v block rest small inside writes holds exchanges value None is at None e = absurd cc
  gives_value r w ws n v block rest small inside writes holds exchanges value None is at (Some file) e =
      let same : w.frame.store ≡ file = cc in
      now (Runs g (goes_on (resumed r w ws) w.frame.code r.world (Some file))) n
      (subst (λ s. Goes g.layout (run_of g) (record { top = record w.frame { store = s }; below = ws; world = r.world }) n) same
      (record { block = block; inside = inside; returns = rest; holds = holds; exchanges = exchanges; at = at }))
  gives_value r w ws n v block rest small inside writes holds exchanges value (Some d) is at None e = now (Runs g (goes_on (resumed r w ws) w.frame.code r.world None)) n tt
  gives_value r w ws n v block rest small inside writes holds exchanges value (Some d) is at (Some file) e =
      let f = w.frame.func in
      let k : Course = record { function = f; stop = g.layout.stops f block; trace = r.world.trace; returns = rest } in
      let goal = Runs g (goes_on (resumed r w ws) w.frame.code r.world (Some file)) in
      let there = written_there g f w.frame.store file d (Word v) holds.room e in
      operands.put g k goal n f result v (noted_body g.layout.memory g.layout.program f block w.frame.code w.frame.end) d (λ z. omega (arith, z)) inside.there there small holds.based value at
      (λ m a. now goal m
      (record {
        block = block;
        inside = inside;
        returns = rest;
        holds = holds_kept g false (resumed r w ws) n m d (Word v) file w.frame.code r.world rest inside.there e small (record { registers = λ q s spare o. a.registers q s o; reads = a.reads }) a.located refl (λ q same. writes q (is ∙ ap Some same)) (λ q y z e s. cc) holds;
        exchanges = record { input = a.input ∙ exchanges.input; bytes = exchanges.bytes; output = a.output ∙ exchanges.output };
        at = a.at;
      }))

  -- what a register that others need holds, once the function has left
  promised : (r : PlacedRunning) (n m at : ℕ) (ats returns : List ℕ) (h : Holds g.layout r (view_of (state g n)) returns) → Left g n m r.top.func at r.world.trace ats → (q : ℕ) → is_member (g.layout.needs r.top.func) q ≡ true → h.after q < 2 ^ 32 → reg g m (machine_register q) ≡ h.after q
  promised r n m at ats returns h left q need less = by_saved (is_member (frame g r.top.func).saved q) refl
    where
      by_saved : (b : Bool) → is_member (frame g r.top.func).saved q ≡ b → reg g m (machine_register q) ≡ h.after q
      by_saved true s = left.loads q (h.after q) s (h.keeps.saved q s less)
      by_saved false s =
          left.others (machine_register q) (link_apart q) (steady_is q).five
          (λ p saved e. let same : q ≡ p = machine_register-same q p e in let both : true ≡ false = sym saved ∙ ap (is_member (frame g r.top.func).saved) (sym same) ∙ s in cc)
          ∙ h.keeps.other q need s less

  -- the call that an activation waits for writes these registers
  call_writes : (w : PlacedWaiting) (f : ℕ) (v : View) (after : ℕ → ℕ) (at : ℕ) (rests : Rests g.layout w f v after at) (q : ℕ) → Contains (writes_of g.layout.program (Call w.into f rests.args rests.note)) q → Contains (function_writes g.layout.program (function_in g.layout.program w.frame.func)) q
  call_writes w f v after at rests q c =
      let p = g.layout.program in
      let inside = rests.inside in
      in_flat_map (λ (x : PlacedBlock). block_writes p x.code) (function_in p w.frame.func).blocks inside.block q (got_contains (function_in p w.frame.func).blocks rests.block inside.block inside.has)
      (in_flat_map (writes_of p) inside.block.code (Call w.into f rests.args rests.note) q rests.call c)

  value_written : (f q : ℕ) (into : Option Place) (args : List (Operand Place)) (note : List ℕ) → into ≡ Some (InRegister q) → Contains (writes_of g.layout.program (Call into f args note)) q
  value_written f q into args note e = subst (λ o. Contains (registers_among (option_to_list o ++ parameters_of g.layout.program f)) q) (sym e) (among_first (InRegister q) (parameters_of g.layout.program f) q refl)

  not_leaf : (w : PlacedWaiting) (f : ℕ) (v : View) (after : ℕ → ℕ) (at : ℕ) → Rests g.layout w f v after at → is_leaf (function_in g.layout.program w.frame.func) ≡ false
  not_leaf w f v after at rests =
      let p = g.layout.program in
      let inside = rests.inside in
      calls_some (function_in p w.frame.func).blocks rests.block inside.block w.into f rests.args rests.note inside.has rests.call

  saves_at : (w : PlacedWaiting) (f : ℕ) (v : View) (after : ℕ → ℕ) (at : ℕ) (rests : Rests g.layout w f v after at) → SavesAt g.layout.program g.layout.memory g.layout.needs w.frame.func f rests.note
  saves_at w f v after at rests =
      let p = g.layout.program in
      let inside = rests.inside in
      g.laid.plan.calls w.frame.func f inside.block w.into rests.args rests.note inside.there (got_contains (function_in p w.frame.func).blocks rests.block inside.block inside.has) rests.call

  -- what others need of the waiting one and it doesn't save is no parameter
  not_parameter : (w : PlacedWaiting) (f : ℕ) (v : View) (after : ℕ → ℕ) (at : ℕ) (rests : Rests g.layout w f v after at) (q : ℕ) → is_member (g.layout.needs w.frame.func) q ≡ true → is_member (frame g w.frame.func).saved q ≡ false
      → (b : Bool) → is_member (registers_among (parameters_of g.layout.program f)) q ≡ b → b ≡ false
  not_parameter w f v after at rests q need unsaved false e = refl
  not_parameter w f v after at rests q need unsaved true e =
      let saved = (g.laid.plan.saves w.frame.func rests.inside.there).writes q (call_writes w f v after at rests q (among_append (option_to_list w.into) (parameters_of g.layout.program f) q (member_contains (registers_among (parameters_of g.layout.program f)) q e))) need in
      let both : true ≡ false = sym saved ∙ unsaved in
      cc

  -- registers that aren't kept by the call are as they came back
  not_kept : (k : Course) (m j e : ℕ) (ps : List Place) (note : List ℕ) (xs : List Noted) → Unhomed g k m j e (kept_among ps note) xs → (q : ℕ) → is_member (registers_among ps) q ≡ false → reg g j (machine_register q) ≡ reg g m (machine_register q)
  not_kept k m j e ps note xs a q outside =
      a.others (machine_register q) (λ p c z. let same : q ≡ p = machine_register-same q p z in let both : true ≡ false = sym (kept_parameter ps note p c) ∙ ap (is_member (registers_among ps)) (sym same) ∙ outside in cc)

  shown : (w : PlacedWaiting) (f n m j : ℕ) (after : ℕ → ℕ) (at : ℕ) (k : Course) (xs : List Noted) (rests : Rests g.layout w f (view_of (state g n)) after at) → Unhomed g k m j w.frame.func (kept_among (parameters_of g.layout.program f) rests.note) xs
      → (state g m).world ≡ (state g n).world → ((q : ℕ) → is_member (g.layout.needs f) q ≡ true → after q < 2 ^ 32 → reg g m (machine_register q) ≡ after q) → Shows g.layout.memory (frame g w.frame.func) w.frame.store (view_of (state g j))
  shown w f n m j after at k xs rests a world promise (Slot s) x e = ap (λ (z : machine.World). read_from (λ b. b.read) Whole z.memory (slot_at (frame g w.frame.func) s)) (a.world ∙ world) ∙ rests.slots s x e
  shown w f n m j after at k xs rests a world promise (InRegister q) x e = by_parameter (is_member (registers_among (parameters_of g.layout.program f)) q) refl
    where
      by_parameter : (b : Bool) → is_member (registers_among (parameters_of g.layout.program f)) q ≡ b → reg g j (machine_register q) ≡ code g x
      by_parameter true parameter =
          let home = rests.homes q x e parameter in
          a.loads q (code g x) (ap (λ (z : machine.World). read_from (λ b. b.read) Whole z.memory (home_at (frame g w.frame.func) q)) world ∙ home.2) (inl (kept_member (parameters_of g.layout.program f) rests.note q parameter home.0))
      by_parameter false outside =
          let known = rests.registers q x e outside in
          let small : after q < 2 ^ 32 = subst (λ z. z < 2 ^ 32) (sym known.1) (rests.room.words (InRegister q) x e) in
          not_kept k m j w.frame.func (parameters_of g.layout.program f) rests.note xs a q outside ∙ promise q known.0 small ∙ known.1

  -- the activation that waited goes on, where a function has left to it
  pub resumes : (r : PlacedRunning) (w : PlacedWaiting) (ws : List PlacedWaiting) (n m at v : ℕ) (ats : List ℕ) → r.below ≡ w ∷ ws → r.top.func < length g.layout.program.functions → v < 2 ^ 32 → Holds g.layout r (view_of (state g n)) (at ∷ ats) → Exchanges g.layout (run_of g) r.world n
      → Left g n m r.top.func at r.world.trace ats → reg g m result ≡ v → Later (Runs g (goes_on (resumed r w ws) w.frame.code r.world (write_to places w.frame.store w.into (Word v)))) m
  resumes r w ws n m at v ats below there small h exchanges left value =
      let l = g.layout in
      let f = r.top.func in
      let seen_at = view_of (state g n) in
      let waits : AreWaiting l (w ∷ ws) f seen_at h.after (at ∷ ats) = subst (λ x. AreWaiting l x f seen_at h.after (at ∷ ats)) below h.waits in
      let rests : Rests l w f seen_at h.after at = waits.0 in
      let later = waits.1.0 in
      let returns = waits.1.1 in
      let back = waits.1.2 in
      let others = waits.1.3 in
      let e = w.frame.func in
      let inside = rests.inside in
      let ps = parameters_of l.program f in
      let qs = kept_among ps rests.note in
      let k : Course = record { function = e; stop = l.stops e rests.block; trace = r.world.trace; returns = ats } in
      let body = noted_body l.memory l.program e rests.block w.frame.code w.frame.end in
      let goal = Runs g (goes_on (resumed r w ws) w.frame.code r.world (write_to places w.frame.store w.into (Word v))) in
      let at_call = saves_at w f seen_at h.after at rests in
      let promise = promised r n m at ats (at ∷ ats) h left in
      let based_m : reg g m base ≡ base_address = left.others base (λ z. omega (arith, z)) (λ z. omega (arith, z)) (λ q s z. (value_is q (lasts q ((g.laid.plan.frames f there).saved q s))).base_not (sym z)) ∙ h.based in
      let second_m : reg g m second_base ≡ l.memory.second = left.others second_base (λ z. omega (arith, z)) (λ z. omega (arith, z)) (λ q s z. (value_is q (lasts q ((g.laid.plan.frames f there).saved q s))).second_not (sym z)) ∙ h.second in
      let start = to_run g k m at (singles (behind_call (frame g e) w.into ps rests.note) ++ body) left.stood rests.rest.code rests.rest.quiet in
      unhomes_run g k goal m e qs (singles (value_code (frame g e) w.into) ++ body) inside.there based_m (λ q c. (at_call.homes q c, rests.parameters q (kept_parameter ps rests.note q c)))
      (in_parts g k m (return_code (frame g e) qs) (value_code (frame g e) w.into) body start)
      (λ j a.
      let world : (state g j).world ≡ (state g n).world = a.world ∙ left.world in
      let reads : (y : Width) (x : ℕ) → read g j y x ≡ read g n y x = λ y x. ap (λ (z : machine.World). read_from (λ b. b.read) y z.memory x) world in
      let holds : Holds l (resumed r w ws) (view_of (state g j)) ats = record {
        based = a.others base (λ q c z. (value_is q (rests.parameters q (kept_parameter ps rests.note q c))).base_not (sym z)) ∙ based_m;
        second = a.others second_base (λ q c z. (value_is q (rests.parameters q (kept_parameter ps rests.note q c))).second_not (sym z)) ∙ second_m;
        room = rests.room;
        shows = shown w f n m j h.after at k (singles (value_code (frame g e) w.into) ++ body) rests a left.world promise;
        arrays = arrays_kept l r.world.objects seen_at (view_of (state g j)) (λ o x found y b from to. reads y b) h.arrays;
        linked = subst (λ b. IsLinked b (frame g e) (view_of (state g j)) (slice_index ats 0)) (sym (not_leaf w f seen_at h.after at rests)) (reads Whole (return_at (frame g e)) ∙ back);
        after = later;
        keeps = record {
          saved = λ q s less. reads Whole (saved_at (frame g e) q) ∙ returns.saved q s less;
          other = λ q need unsaved less.
              let same = returns.other q need unsaved less in
              let outside = not_parameter w f seen_at h.after at rests q need unsaved (is_member (registers_among ps) q) refl in
              not_kept k m j e ps rests.note (singles (value_code (frame g e) w.into) ++ body) a q outside ∙ promise q (at_call.passed q need unsaved) (subst (λ x. x < 2 ^ 32) (sym same) less) ∙ same;
        };
        waits = waits_kept l ws e seen_at (view_of (state g j)) later ats (λ x more low b from to. reads Whole b) others;
      } in
      gives_value r w ws j v rests.block ats small inside (λ q same. call_writes w f seen_at h.after at rests q (value_written f q w.into rests.args rests.note same)) holds
      (record { input = ap (λ (z : machine.World). z.input) world ∙ exchanges.input; bytes = exchanges.bytes; output = ap (λ (z : machine.World). z.output) world ∙ exchanges.output })
      (a.others result (λ q c z. lasting_apart q (at_call.lasting q (kept_noted ps rests.note q c)) (sym z)) ∙ value) w.into refl a.at (write_to places w.frame.store w.into (Word v)) refl)
