-- A block that returns.
use Rattle.std.proofs.Common.{◌≡◌, ◌≢◌, ⊎_elim, ℕ, suc, ◌+◌, ◌%◌, ◌^◌, ◌<◌, ◌≤◌, Bool, true, false, List, [], ◌∷◌, ◌++◌, length, map, Option, Some, None, refl, sym, ap, ◌∙◌, subst, arith}
use Rattle.std.specs.Prelude.{◌==◌, if◌then◌else◌, slice_index, slice_index_or}
use Rattle.std.proofs.lemmas.Bool.{cases_eq}
use Rattle.std.proofs.lemmas.Bool.Decides.{nat_tests}
use Rattle.std.proofs.lemmas.Option.{slice_get_past}
use Rattle.std.proofs.lemmas.List.{append-nil}
use Rattle.rv_core.specs.declared.row.Width.{Width}
use Rattle.rv_core.specs.declared.row.Width.TheVariants.{Word as Whole}
use Rattle.rv_core.specs.Memory.{read_from}
use Rattle.rv_core.specs.Machine as machine
use Rattle.asm_items.specs.declared.item.Item.TheVariants as items
use Rattle.rv_steps.specs.Steps.{Later}
use Rattle.rv_steps.proofs.LaterLemmas.{now}
use Rattle.low_ir.specs.declared.places.Place.{Place}
use Rattle.low_ir.specs.declared.run.Value.{Value}
use Rattle.low_ir.specs.declared.run.Value.TheVariants.{Word, Pointer}
use Rattle.low_ir.specs.declared.run.Began.{Began}
use Rattle.low_ir.specs.Code.{Operand, Return}
use Rattle.low_ir.specs.Runs.{Done, operand_value, come_back, give_back}
use Rattle.low_ir.specs.Places.{Placed, places}
use Rattle.asm_program.specs.Numbers.{result}
use Rattle.asm_program.specs.Frames.{Memory}
use Rattle.asm_program.specs.Operands.{into_code}
use Rattle.asm_program.specs.Functions.{function_in, is_leaf, at_once, block_count, exit_code, jump_items, leave_items, leaving_blocks, function_items, blocks_from, items_at}
use Rattle.asm_program.proofs.ItemLemmas.{of_function, blocks_length}
use Rattle.simulation_relation.specs.Noted.{Noted, noted, singles, noted_body, noted_by, noted_at}
use Rattle.simulation_relation.specs.Layouts.{HasCode, started_in}
use Rattle.simulation_relation.specs.Positions.{Course}
use Rattle.simulation_relation.specs.Views.{view_of}
use Rattle.simulation_relation.specs.Waiting.{PlacedWaiting, AreWaiting, IsLinked}
use Rattle.simulation_relation.specs.Following.{PlacedRunning, Holds, Exchanges}
use Rattle.simulation_steps.proofs.Given.{Given, run_of, state, reg, read, At}
use Rattle.simulation_steps.proofs.Places.{IsSteady, lasting_apart}
use Rattle.simulation_steps.proofs.Noting.{noted_code}
use Rattle.simulation_steps.proofs.Operands.{frame, into}
use Rattle.simulation_steps.proofs.Apart.{arrays_kept}
use Rattle.simulation_steps.proofs.Holding.{strict, forgets, forgotten}
use Rattle.simulation_steps.proofs.Plains.{Runs, Going_at, ready_of, body, course_in, operand-small, going_on}
use Rattle.simulation_steps.proofs.Arrays.{holds_led}
use Rattle.simulation_steps.proofs.Standing.{Stood, to_run}
use Rattle.simulation_steps.proofs.Jumps.{jump_lays}
use Rattle.simulation_steps.proofs.Entries.{Left, leaves}
use Rattle.simulation_law.proofs.Home.{home_ends}
use Rattle.simulation_law.proofs.Resuming.{resumes}
use Rattle.simulation_steps.proofs.Unsetting.{Spared, place_spared, unset_read}
use Rattle.low_ir.specs.declared.places.Place.TheVariants.{Register as InRegister}

test_is : (a b : ℕ) → (a == b) ≡ true → a ≡ b
test_is a b e = grind (arith, nat_tests)

behind_all : {A : Type 0} (xs ys : List A) (d : A) → slice_index_or (xs ++ ys) (length xs) d ≡ slice_index_or ys 0 d
behind_all [] ys d = refl
behind_all (x ∷ xs) ys d = behind_all xs ys d

-- the block that leaves a function behind its others
leaving_items : (m : Memory) (p : Placed) (f : ℕ) → f < length p.functions → at_once m p f ≡ false → items_at m p f (length (function_in p f).blocks) ≡ leave_items m p f true 0
leaving_items m p f h e =
    ap (λ bs. slice_index_or bs (length (function_in p f).blocks) []) (of_function m p f h)
    ∙ ap (λ n. slice_index_or (function_items m p f) n []) (sym (blocks_length m p f 0 (function_in p f).blocks))
    ∙ behind_all (blocks_from m p f 0 (function_in p f).blocks) (leaving_blocks m p f (at_once m p f)) []
    ∙ ap (λ o. slice_index_or (leaving_blocks m p f o) 0 []) e

last_below : (m : Memory) (p : Placed) (f : ℕ) → f < length p.functions → at_once m p f ≡ false → length (function_in p f).blocks < block_count m p f
last_below m p f there e = by_number (f == length p.functions) refl
  where
    by_number : (same : Bool) → (f == length p.functions) ≡ same → length (function_in p f).blocks < (if same then 1 else (length (function_in p f).blocks + (if at_once m p f then 0 else 1)))
    by_number true t = let is : f ≡ length p.functions = grind (arith, nat_tests) in absurd (omega arith)
    by_number false t = subst (λ b. length (function_in p f).blocks < length (function_in p f).blocks + (if b then 0 else 1)) (sym e) (omega arith)

even_of : (a : ℕ) → a % 4 ≡ 0 → a % 2 ≡ 0
even_of a e = omega arith

module _ (g : Given) where
  abbrev exit_items : ℕ → List Noted
  exit_items f = singles (exit_code (is_leaf (function_in g.layout.program f)) (frame g f)) ++ noted items.Return ∷ []

  -- the value is in x10, and the exit is to be run
  leaves_with : (r : PlacedRunning) (m v : ℕ) (k : Course) (returns : List ℕ) → r.top.func < length g.layout.program.functions → v < 2 ^ 32 → Holds g.layout r (view_of (state g m)) returns → Exchanges g.layout (run_of g) r.world m → reg g m result ≡ v
      → k.trace ≡ r.world.trace → k.returns ≡ returns → At g k m (exit_items r.top.func) → Later (Runs g (come_back places r.world r.below v)) m
  leaves_with r m v k returns there small h exchanges value trace same at = by_waiting r.below returns refl refl h.waits
    where
      result_kept : (j to : ℕ) (ts : List Began) (ats : List ℕ) → Left g m j r.top.func to ts ats → reg g j result ≡ v
      result_kept j to ts ats left = left.others result (λ e. omega (arith, e)) (λ e. omega (arith, e)) (λ q s e. lasting_apart q ((g.laid.plan.frames r.top.func there).saved q s) (sym e)) ∙ value

      by_waiting : (below : List PlacedWaiting) (ats : List ℕ) → r.below ≡ below → returns ≡ ats → AreWaiting g.layout r.below r.top.func (view_of (state g m)) h.after returns → Later (Runs g (come_back places r.world below v)) m
      by_waiting below [] is empty waits = absurd (nobody r.below (subst (λ x. AreWaiting g.layout r.below r.top.func (view_of (state g m)) h.after x) empty waits))
        where
          nobody : (ys : List PlacedWaiting) → AreWaiting g.layout ys r.top.func (view_of (state g m)) h.after [] → ⊥
          nobody [] e = e
          nobody (y ∷ ys) e = e
      by_waiting [] (to ∷ ats) is places_are waits =
          let w : AreWaiting g.layout [] r.top.func (view_of (state g m)) h.after (to ∷ ats) = subst (λ x. AreWaiting g.layout x r.top.func (view_of (state g m)) h.after (to ∷ ats)) is (subst (λ x. AreWaiting g.layout r.below r.top.func (view_of (state g m)) h.after x) places_are waits) in
          let linked = subst (λ x. IsLinked (is_leaf (function_in g.layout.program r.top.func)) (frame g r.top.func) (view_of (state g m)) (slice_index x 0)) places_are h.linked in
          leaves g k (Runs g (Done v r.world)) m r.top.func to (is_leaf (function_in g.layout.program r.top.func)) ats there h.based (same ∙ places_are) linked w.0.room (even_of to w.0.aligned) at
          (λ j left.
          let kept : Exchanges g.layout (run_of g) r.world j = record { input = ap (λ (z : machine.World). z.input) left.world ∙ exchanges.input; bytes = exchanges.bytes; output = ap (λ (z : machine.World). z.output) left.world ∙ exchanges.output } in
          let e = home_ends g j to v r.world w.0 (subst (λ x. Stood g j to r.world.trace x) w.1 (subst (λ t. Stood g j to t ats) trace left.stood)) (result_kept j to k.trace ats left) kept in
          (e.0, e.1))
      by_waiting (w ∷ ws) (to ∷ ats) is places_are waits =
          let all : AreWaiting g.layout (w ∷ ws) r.top.func (view_of (state g m)) h.after (to ∷ ats) = subst (λ x. AreWaiting g.layout x r.top.func (view_of (state g m)) h.after (to ∷ ats)) is (subst (λ x. AreWaiting g.layout r.below r.top.func (view_of (state g m)) h.after x) places_are waits) in
          let rest = all.0.rest in
          let linked = subst (λ x. IsLinked (is_leaf (function_in g.layout.program r.top.func)) (frame g r.top.func) (view_of (state g m)) (slice_index x 0)) places_are h.linked in
          leaves g k (Runs g (come_back places r.world (w ∷ ws) v)) m r.top.func to (is_leaf (function_in g.layout.program r.top.func)) ats there h.based (same ∙ places_are) linked rest.room (even_of to rest.aligned) at
          (λ j left. resumes g r w ws m j to v ats is there small (subst (λ x. Holds g.layout r (view_of (state g m)) x) places_are h) exchanges (subst (λ t. Left g m j r.top.func to t ats) trace left) (result_kept j to k.trace ats left))

  leaving_noted : (f : ℕ) → f < length g.layout.program.functions → at_once g.layout.memory g.layout.program f ≡ false → noted_at g.layout.memory g.layout.program f (length (function_in g.layout.program f).blocks) ≡ exit_items f
  leaving_noted f there once =
      let l = g.layout in
      let last = length (function_in l.program f).blocks in
      ap (noted_by l.memory l.program f last) (slice_get_past (function_in l.program f).blocks last (omega arith))
      ∙ ap (λ xs. map noted xs) (leaving_items l.memory l.program f there once)
      ∙ noted_code (exit_code (is_leaf (function_in l.program f)) (frame g f)) (items.Return ∷ [])

  -- the machine has come to the block that leaves
  leaving_at : (n f : ℕ) (trace : List Began) (returns : List ℕ) → f < length g.layout.program.functions → at_once g.layout.memory g.layout.program f ≡ false → Stood g n (g.layout.starts f (length (function_in g.layout.program f).blocks)) trace returns
      → At g (record { function = f; stop = g.layout.stops f (length (function_in g.layout.program f).blocks); trace = trace; returns = returns }) n (exit_items f)
  leaving_at n f trace returns there once h =
      let l = g.layout in
      let last = length (function_in l.program f).blocks in
      let below = last_below l.memory l.program f there once in
      let k : Course = record { function = f; stop = l.stops f last; trace = trace; returns = returns } in
      let code = subst (λ xs. HasCode l f (l.stops f last) (l.starts f last) xs) (leaving_noted f there once) (g.laid.blocks f last (omega arith) below) in
      let none : l.begins (l.starts f last) ≡ [] = g.laid.begins f last (omega arith) below ∙ ap (started_in f last) (slice_get_past (function_in l.program f).blocks last (omega arith)) in
      to_run g k n (l.starts f last) (exit_items f) h code (λ b from before. quiet f last none below there b from before)
    where
      quiet : (f last : ℕ) → g.layout.begins (g.layout.starts f last) ≡ [] → last < block_count g.layout.memory g.layout.program f → f < length g.layout.program.functions → (b : ℕ) → g.layout.starts f last ≤ b → b < g.layout.stops f last → g.layout.begins b ≡ []
      quiet f last none below there b from before =
          ⊎_elim
          (λ (same : g.layout.starts f last ≡ b). ap g.layout.begins (sym same) ∙ none)
          (λ (other : g.layout.starts f last ≢ b). g.laid.quiet f last b (omega arith) below (⊎_elim (λ (less : g.layout.starts f last < b). less) (λ (more : b < g.layout.starts f last). absurd (omega arith)) (strict (g.layout.starts f last) b other)) before)
          (cases_eq (g.layout.starts f last) b)

  -- what a block that returns ends with, where the exit stands at the return or behind the other blocks
  abbrev leave_by : ℕ → Bool → Bool → List Noted
  leave_by f true next = exit_items f
  leave_by f false next = map noted (jump_items g.layout.memory g.layout.program f next (length (function_in g.layout.program f).blocks))

  leave_is : (f b : ℕ) (once : Bool) → map noted (leave_items g.layout.memory g.layout.program f once b) ≡ leave_by f once (length (function_in g.layout.program f).blocks == suc b)
  leave_is f b true = noted_code (exit_code (is_leaf (function_in g.layout.program f)) (frame g f)) (items.Return ∷ [])
  leave_is f b false = refl

  -- registers of values and memory are as before; x10 where it holds none
  still_holds : (called : Bool) (r : PlacedRunning) (n m : ℕ) (returns : List ℕ) (h : Holds g.layout r (view_of (state g n)) returns) → r.top.func < length g.layout.program.functions → ((q : ℕ) → IsSteady q → Spared called q → reg g m q ≡ reg g n q) → (state g m).world ≡ (state g n).world → Holds g.layout (forgotten g called r) (view_of (state g m)) returns
  still_holds called r n m returns h there registers world =
      let reads : (y : Width) (x : ℕ) → read g m y x ≡ read g n y x = λ y x. ap (λ (z : machine.World). read_from (λ b. b.read) y z.memory x) world in
      holds_led g called (forgotten g called r) n m r.top.code r.world returns there registers (λ q y z. place_spared called q (unset_read called r.top.store (InRegister q) y z).1) (λ f below b from to. reads Whole b) (arrays_kept g.layout r.world.objects (view_of (state g n)) (view_of (state g m)) (λ o x found y b from to. reads y b) h.arrays) (forgets g called r n returns h)

  still_exchanges : (r : PlacedRunning) (n m : ℕ) → Exchanges g.layout (run_of g) r.world n → (state g m).world ≡ (state g n).world → Exchanges g.layout (run_of g) r.world m
  still_exchanges r n m x world = record { input = ap (λ (z : machine.World). z.input) world ∙ x.input; bytes = x.bytes; output = ap (λ (z : machine.World). z.output) world ∙ x.output }

  -- where the exit is to be run, at the return itself or in the block behind the others
  exits_by : (r : PlacedRunning) (n m v : ℕ) (h : Going_at g r n) (once next : Bool) → at_once g.layout.memory g.layout.program r.top.func ≡ once → (length (function_in g.layout.program r.top.func).blocks == suc h.block) ≡ next → v < 2 ^ 32
      → Holds g.layout r (view_of (state g m)) h.returns → Exchanges g.layout (run_of g) r.world m → reg g m result ≡ v → At g (course_in g r r.world h.block h.returns) m (leave_by r.top.func once next) → Later (Runs g (come_back places r.world r.below v)) m
  exits_by r n m v h true next once is small holds exchanges value at = leaves_with r m v (course_in g r r.world h.block h.returns) h.returns h.inside.there small holds exchanges value refl refl at
  exits_by r n m v h false true once is small holds exchanges value at =
      let l = g.layout in
      let f = r.top.func in
      let last = length (function_in l.program f).blocks in
      let same : last ≡ suc h.block = test_is last (suc h.block) is in
      let below = last_below l.memory l.program f h.inside.there once in
      let there = h.inside.there in
      let next : l.stops f h.block ≡ l.starts f (suc h.block) = g.laid.next f h.block (omega arith) (subst (λ x. x < block_count l.memory l.program f) same below) in
      let stood : Stood g m (l.stops f h.block) r.world.trace h.returns = record { running = at.running; count = at.count; here = at.code; events = sym (append-nil _) ∙ at.events; returns_are = at.returns; straight = at.straight; inside = at.inside; touches = at.touches } in
      leaves_with r m v (record { function = f; stop = l.stops f last; trace = r.world.trace; returns = h.returns }) h.returns there small holds exchanges value refl refl
      (leaving_at m f r.world.trace h.returns there once (subst (λ a. Stood g m a r.world.trace h.returns) (next ∙ ap (l.starts f) (sym same)) stood))
  exits_by r n m v h false false once is small holds exchanges value at =
      let l = g.layout in
      let f = r.top.func in
      let last = length (function_in l.program f).blocks in
      jump_lays g (course_in g r r.world h.block h.returns) (Runs g (come_back places r.world r.below v)) m last true [] at
      (λ j c. leaves_with r j v (record { function = f; stop = l.stops f last; trace = r.world.trace; returns = h.returns }) h.returns h.inside.there small
      (still_holds false r m j h.returns holds h.inside.there (λ q s spare. c.registers q s.five) c.world) (still_exchanges r m j exchanges c.world) (c.registers result (λ e. omega (arith, e)) ∙ value) refl refl
      (leaving_at j f r.world.trace h.returns h.inside.there once c.stood))

  -- a block that returns a value
  pub return_follows : (r : PlacedRunning) (n : ℕ) (x : Operand Place) (h : Going_at g r n) → r.top.code ≡ [] → r.top.end ≡ Return x → (o : Option Value) → operand_value places r.top.store x ≡ o → Later (Runs g (give_back places r o)) n
  return_follows r n x h code_is end_is None e = now (Runs g (give_back places r None)) n tt
  return_follows r n x h code_is end_is (Some (Pointer a b)) e = now (Runs g (give_back places r (Some (Pointer a b)))) n tt
  return_follows r n x h code_is end_is (Some (Word v)) e =
      let l = g.layout in
      let f = r.top.func in
      let k = course_in g r r.world h.block h.returns in
      let once = at_once l.memory l.program f in
      let next = length (function_in l.program f).blocks == suc h.block in
      let goal = Runs g (come_back places r.world r.below v) in
      let at = subst (λ z. At g k n (noted_body l.memory l.program f h.block [] z)) end_is (subst (λ z. At g k n (body g r h.block z)) code_is h.at) in
      into g k goal n f result r.top.store (map noted (leave_items l.memory l.program f once h.block)) x (Word v) (omega arith) (omega arith) (ready_of g r n h) e (subst (λ z. At g k n z) (noted_code (into_code (frame g f) result x) (leave_items l.memory l.program f once h.block)) at)
      (λ m a. exits_by (forgotten g true r) n m v (going_on g true r n h) once next refl refl (operand-small g f r.top.store x (Word v) h.holds.room e) (still_holds true r n m h.returns h.holds h.inside.there (λ q s spare. a.others q (spare refl)) a.world) (still_exchanges r n m h.exchanges a.world) a.value
      (subst (λ xs. At g k m xs) (leave_is f h.block once) a.at))
