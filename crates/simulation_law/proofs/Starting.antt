-- The start code leads to main's first block.
use Rattle.std.proofs.Common.{◌≡◌, ⊎_elim, inl, inr, ℕ, zero, suc, ◌+◌, ◌%◌, ◌^◌, ◌<◌, ◌≤◌, Bool, true, false, List, [], ◌∷◌, ◌++◌, length, map, replicate, Option, Some, None, pos, refl, sym, ap, ◌∙◌, subst, arith}
use Rattle.std.specs.Prelude.{All, ◌==◌, if◌then◌else◌, slice_get, slice_index_or}
use Rattle.std.proofs.lemmas.Bool.Decides.{nat_tests}
use Rattle.std.proofs.lemmas.List.{length-replicate}
use Rattle.std.proofs.lemmas.List.Elements.{All-nil}
use Rattle.std.proofs.lemmas.Option.{get_or_from_slice_get}
use Rattle.rv_core.specs.Arithmetic.{word}
use Rattle.rv_core.specs.Instructions.{addi}
use Rattle.rv_core.specs.Memory.{read_from}
use Rattle.rv_core.specs.Machine as machine
use Rattle.rv_core.specs.Runs.{Visit}
use Rattle.asm_items.specs.declared.item.Item.TheVariants as items
use Rattle.rv_steps.specs.Steps.{Later}
use Rattle.rv_steps.proofs.LaterLemmas.{now, and_then}
use Rattle.low_ir.specs.Arrays.{bytes_of}
use Rattle.low_ir.specs.declared.places.Place.{Place}
use Rattle.low_ir.specs.declared.places.Place.TheVariants.{Register as InRegister, Slot}
use Rattle.low_ir.specs.declared.run.Value.{Value}
use Rattle.low_ir.specs.Code.{Jump}
use Rattle.low_ir.specs.Effects.{World, contents, start, began}
use Rattle.low_ir.specs.Runs.{Bank, Done, Bad, write_all, enter, begin, first_in, first, run}
use Rattle.low_ir.specs.Places.{Placed, result_register, read_place, places}
use Rattle.asm_program.specs.Numbers.{link, base, second_base, base_address, service, machine_register, upper_of, lower_of}
use Rattle.asm_program.specs.Frames.{object_at}
use Rattle.asm_program.specs.Functions.{PlacedBlock, PlacedFunction, no_function, function_in, is_leaf, entry_code, at_once, block_count, opening_items}
use Rattle.asm_program.specs.Functions as plain
use Rattle.asm_program.proofs.ItemLemmas.{of_start}
use Rattle.simulation_relation.specs.Noted.{Noted, noted, single, singles, noted_body, noted_by, noted_at}
use Rattle.simulation_relation.specs.Plans.{frame_size}
use Rattle.simulation_relation.specs.Layouts.{HasCode, started_in, started}
use Rattle.simulation_relation.specs.Positions.{Touches, Course}
use Rattle.simulation_relation.specs.Views.{view_of, HasArrays}
use Rattle.simulation_relation.specs.Waiting.{IsHome}
use Rattle.simulation_relation.specs.Following.{PlacedRunning}
use Rattle.simulation_steps.proofs.Given.{Given, state, reg, At}
use Rattle.simulation_steps.proofs.Words.{parts-joined, test-zero}
use Rattle.simulation_steps.proofs.Places.{steady_is}
use Rattle.simulation_steps.proofs.Moving.{wrote_again, add_immediate, upper}
use Rattle.simulation_steps.proofs.Stepping.{Wrote}
use Rattle.simulation_steps.proofs.Noting.{noted_code, noted_singles}
use Rattle.simulation_steps.proofs.Operands.{frame}
use Rattle.simulation_steps.proofs.Apart.{arrays_kept}
use Rattle.simulation_steps.proofs.Plains.{Runs, Going_at}
use Rattle.simulation_steps.proofs.Standing.{Stood}
use Rattle.simulation_steps.proofs.Calls.{call_lays}
use Rattle.simulation_steps.proofs.Arrivals.{at_block, enter_filled, block_course}
use Rattle.simulation_steps.proofs.Entries.{opens}
use Rattle.simulation_law.proofs.Running.{run_ends}

behind_all : (fns : List PlacedFunction) → slice_index_or fns (length fns) no_function ≡ no_function
behind_all [] = refl
behind_all (fn ∷ fns) = behind_all fns

same_test : (a : ℕ) → (a == a) ≡ true
same_test a = grind (arith, nat_tests)

-- a new activation has no values
abbrev unset : ℕ → Bank
unset n = replicate n None

none_there : (n i : ℕ) (x : Value) → slice_index_or (unset n) i None ≡ Some x → ⊥
none_there zero i x e = cc
none_there (suc n) zero x e = cc
none_there (suc n) (suc i) x e = none_there n i x e

none_read : (n : ℕ) (q : Place) (x : Value) → read_place (places.empty n) q ≡ Some x → ⊥
none_read n (InRegister q) x e = none_there (suc result_register) q x e
none_read n (Slot k) x e = none_there n k x e

module _ (g : Given) where
  abbrev p : Placed
  p = g.layout.program

  abbrev home : ℕ
  home = length p.functions

  abbrev first_course : Course
  first_course = record { function = home; stop = g.layout.stops home 0; trace = []; returns = [] }

  abbrev ending : List Noted
  ending = single (addi service 0 (pos 0)) ∷ noted items.Exit ∷ []

  abbrev calling : List Noted
  calling = noted (items.Call true p.main) ∷ ending

  abbrev second_address : ℕ
  second_address = g.layout.memory.second

  abbrev opening : List Noted
  opening = singles (plain.bases_code second_address) ++ calling

  one_block : 0 < block_count g.layout.memory p home
  one_block = subst (λ (b : Bool). 0 < (if b then 1 else (length (function_in p home).blocks + (if at_once g.layout.memory p home then 0 else 1)))) (sym (same_test home)) (omega arith)

  none_started : started p home 0 ≡ []
  none_started = ap (λ (fn : PlacedFunction). started_in home 0 (slice_get fn.blocks 0)) (behind_all p.functions)

  -- the machine begins with the start code
  at_first : At g first_course 0 opening
  at_first =
      let l = g.layout in
      let entry = g.laid.entry in
      let is : noted_at l.memory p home 0 ≡ opening =
      ap (noted_by l.memory p home 0) (ap (λ (fn : PlacedFunction). slice_get fn.blocks 0) (behind_all p.functions))
      ∙ ap (λ bs. map noted (slice_index_or bs 0 [])) (of_start l.memory p)
      ∙ noted_code (plain.bases_code second_address) (plain.main_items p.main) in
      let code = subst (λ xs. HasCode l home (l.stops home 0) (l.starts home 0) xs) is (g.laid.blocks home 0 (omega arith) one_block) in
      record {
        running = refl;
        count = refl;
        code = subst (λ a. HasCode l home (l.stops home 0) a opening) (sym entry) code;
        quiet = λ b past before. g.laid.quiet home 0 b (omega arith) one_block (omega (arith, past, entry)) before;
        events = ap l.begins entry ∙ g.laid.begins home 0 (omega arith) one_block ∙ none_started;
        returns = refl;
        straight = refl;
        touches = All-nil (Touches l);
        inside = All-nil (λ (v : Visit). l.code.exit v.at ≡ false);
      }

  -- the start code has called main
  record Called (back m : ℕ) : Type 0 where
    home_is : IsHome g.layout back
    stood : Stood g m (g.layout.starts p.main 0) [] (back ∷ [])
    link_is : reg g m link ≡ back
    based : reg g m base ≡ base_address
    second_is : reg g m second_base ≡ second_address
    world : (state g m).world ≡ (state g 0).world

  -- an address comes into a base
  based_runs : (P : ℕ → Type 0) (n r a : ℕ) (xs : List Noted) → 0 < r → r < 32 → a < 2 ^ 32 → At g first_course n (singles (plain.based r a) ++ xs) → ((m : ℕ) → Wrote g first_course n m r a xs → Later P m) → Later P n
  based_runs P n r a xs some less small h go =
      let rest = single (addi r r (lower_of a)) ∷ xs in
      upper g first_course P n rest r a some less h
      (λ m b. add_immediate g first_course P m xs r r (lower_of a) some less b.at
      (λ j c. go j (wrote_again g first_course n m j r (upper_of a) a rest xs b
      (record { at = c.at; world = c.world; value = c.value ∙ ap (λ x. (x + word (lower_of a)) % 2 ^ 32) b.value ∙ parts-joined a small; others = c.others }))))

  -- x7 has 0 already, where nothing is reached from it
  second_by : (P : ℕ → Type 0) (n : ℕ) (xs : List Noted) (unused : Bool) → (second_address == 0) ≡ unused → reg g n second_base ≡ 0 → At g first_course n (singles (if unused then [] else plain.based second_base second_address) ++ xs) → ((m : ℕ) → Wrote g first_course n m second_base second_address xs → Later P m) → Later P n
  second_by P n xs true is none h go = go n (record { at = h; world = refl; value = none ∙ sym (test-zero second_address is); others = λ q o. refl })
  second_by P n xs false is none h go = based_runs P n second_base second_address xs (omega arith) (omega arith) g.laid.plan.second h go

  calls_main : (P : ℕ → Type 0) → ((back m : ℕ) → Called back m → Later P m) → Later P 0
  calls_main P go =
      let none : reg g 0 second_base ≡ 0 = refl in
      based_runs P 0 base base_address (singles (plain.second_code second_address) ++ calling) (omega arith) (omega arith) (omega arith) at_first
      (λ n a. second_by P n calling (second_address == 0) refl (a.others second_base (λ e. omega (arith, e)) ∙ none) a.at
      (λ m b. call_lays g first_course P m p.main true ending b.at
      (λ back j rest c. go back j
      (record {
        home_is = rest;
        stood = c.stood;
        link_is = c.link;
        based = c.registers base (λ e. omega (arith, e)) (λ e. omega (arith, e)) ∙ b.others base (λ e. omega (arith, e)) ∙ a.value;
        second_is = c.registers second_base (λ e. omega (arith, e)) (λ e. omega (arith, e)) ∙ b.value;
        world = c.world ∙ b.world ∙ a.world;
      }))))

  abbrev first_running : PlacedBlock → ℕ → PlacedRunning
  first_running block size = record { top = record { func = p.main; code = block.code; end = block.end; store = places.empty size }; below = []; world = began (start p.objects g.input) p.main 0 }

  -- arrays stand in the loaded memory as the run has them, and the input has bytes
  module _ (arrays : HasArrays g.layout.memory p.objects (map contents p.objects) (view_of (state g 0))) (bytes : All (λ b. b < 256) g.input) where
    begins : (back m : ℕ) (block : PlacedBlock) (size : ℕ) → slice_get (function_in p p.main).blocks 0 ≡ Some block → size ≤ (frame g p.main).slots → Called back m → Later (Going_at g (first_running block size)) m
    begins back m block size has most c =
        let l = g.layout in
        let there = g.laid.formed.main in
        let fr = frame g p.main in
        let leaf = is_leaf (function_in p p.main) in
        let xs = noted_body l.memory p p.main 0 block.code block.end in
        let k = block_course g p.main 0 (record { function = p.main; block = 0 } ∷ []) (back ∷ []) in
        let goal = Going_at g (first_running block size) in
        let low = c.home_is.room in
        enter_filled g k goal m (map noted (opening_items l.memory p p.main 0) ++ xs) (at_block g m p.main 0 block [] (back ∷ []) there has c.stood)
        (λ n a. opens g k goal n p.main back leaf xs there (a.registers base ∙ c.based) (a.registers link ∙ c.link_is) (omega (arith, low)) (subst (λ ys. At g k n (ys ++ xs)) (noted_singles (entry_code leaf fr)) a.at)
        (λ j o.
        let world : (state g n).world ≡ (state g 0).world = a.world ∙ c.world in
        let slots_are = length-replicate {A = Option Value} size None in
        now goal j
        (record {
          block = 0;
          inside = record { there = there; block = block; has = has; before = []; code = refl; ends = refl };
          returns = back ∷ [];
          holds =
              record {
                based = o.registers base (λ e. omega (arith, e)) ∙ a.registers base ∙ c.based;
                second = o.registers second_base (λ e. omega (arith, e)) ∙ a.registers second_base ∙ c.second_is;
                room = record { registers = refl; slots = omega (arith, slots_are, most); words = λ q x e. absurd (none_read size q x e) };
                shows = λ q x e. absurd (none_read size q x e);
                arrays =
                    arrays_kept l (map contents p.objects) (view_of (state g 0)) (view_of (state g j))
                    (λ i x found y b from to.
                    o.beside y b
                    (⊎_elim (λ (low : object_at l.memory i + bytes_of x ≤ fr.at). inl (omega (arith, low, to))) (λ (high : fr.at + frame_size fr ≤ object_at l.memory i). inr (omega (arith, high, from))) (g.laid.plan.beside_frames i p.main x found there))
                    ∙ ap (λ (u : machine.World). read_from (λ d. d.read) y u.memory b) world) arrays;
                linked = o.linked;
                after = λ q. reg g n (machine_register q);
                keeps =
                    record {
                      saved = λ q is small. o.words q is ∙ (let whole : reg g n (machine_register q) % 2 ^ 32 ≡ reg g n (machine_register q) = omega (arith, small) in ap Some whole);
                      other = λ q needed free small. o.registers (machine_register q) (steady_is q).five;
                    };
                waits = (c.home_is, refl);
              };
          exchanges = record { input = o.input ∙ ap (λ (u : machine.World). u.input) world; bytes = bytes; output = o.output ∙ ap (λ (u : machine.World). u.output) world };
          at = o.at;
        })))

    by_block : (fn : PlacedFunction) → slice_get p.functions p.main ≡ Some fn → (o : Option PlacedBlock) → slice_get fn.blocks 0 ≡ o
        → Later (Runs g (enter (record { top = record { func = p.main; code = []; end = Jump 0; store = places.empty fn.size }; below = []; world = start p.objects g.input }) 0 o)) 0
    by_block fn is None e = now (Runs g Bad) 0 tt
    by_block fn is (Some block) e =
        let own : function_in p p.main ≡ fn = get_or_from_slice_get p.functions p.main fn no_function is in
        let there = g.laid.formed.main in
        calls_main (Going_at g (first_running block fn.size))
        (λ back m c. begins back m block fn.size (subst (λ (f : PlacedFunction). slice_get f.blocks 0 ≡ Some block) (sym own) e) (subst (λ (f : PlacedFunction). f.size ≤ (frame g p.main).slots) own (g.laid.plan.slots p.main there)) c)

    by_parameters : (fn : PlacedFunction) → slice_get p.functions p.main ≡ Some fn → (ps : List Place) → Later (Runs g (begin [] (start p.objects g.input) p.main fn (write_all places (Some (places.empty fn.size)) ps []))) 0
    by_parameters fn is [] = by_block fn is (slice_get fn.blocks 0) refl
    by_parameters fn is (q ∷ ps) = now (Runs g Bad) 0 tt

    by_function : (o : Option PlacedFunction) → slice_get p.functions p.main ≡ o → Later (Runs g (first_in places (start p.objects g.input) p.main o)) 0
    by_function None e = now (Runs g Bad) 0 tt
    by_function (Some fn) e = by_parameters fn e fn.parameters

    -- the machine comes to follow the run
    pub first_follows : Later (Runs g (first places p g.input)) 0
    first_follows = by_function (slice_get p.functions p.main) refl

    -- and it ends as the run does
    pub ends_alike : (i v : ℕ) (u : World) → run places p i (first places p g.input) ≡ Done v u → Later (Runs g (Done v u)) 0
    ends_alike i v u e = and_then (Runs g (first places p g.input)) (Runs g (Done v u)) 0 first_follows (λ m h. run_ends g i (first places p g.input) m v u h e)
