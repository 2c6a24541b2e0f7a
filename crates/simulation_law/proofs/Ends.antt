-- Jumps and branches at the ends of blocks.
use Rattle.std.proofs.Common.{◌≡◌, ◌≢◌, ⊎_elim, ℕ, zero, suc, ◌<◌, Bool, true, false, [], ◌++◌, length, map, Contains, Option, Some, None, refl, sym, ap, ◌∙◌, subst, arith}
use Rattle.std.specs.Prelude.{◌==◌, not, if◌then◌else◌, slice_get}
use Rattle.std.proofs.lemmas.Bool.Decides.{nat_tests}
use Rattle.std.proofs.lemmas.List.{append-nil}
use Rattle.std.proofs.lemmas.Option.{get_or_from_slice_get, slice_get_within}
use Rattle.rv_core.specs.declared.row.Condition.{Condition}
use Rattle.rv_core.specs.declared.row.Width.{Width}
use Rattle.rv_core.specs.declared.row.Width.TheVariants.{Word as Whole}
use Rattle.rv_core.specs.Arithmetic.{holds}
use Rattle.rv_core.specs.Machine as machine
use Rattle.rv_core.specs.Memory.{read_from}
use Rattle.asm_items.specs.declared.item.Form.TheVariants.{Far}
use Rattle.asm_items.specs.Items.{opposite}
use Rattle.rv_steps.specs.Steps.{Later}
use Rattle.rv_steps.proofs.LaterLemmas.{now}
use Rattle.asm_graphs.specs.Graphs as graphs
use Rattle.low_ir.specs.declared.places.Place.{Place}
use Rattle.low_ir.specs.declared.run.Value.{Value}
use Rattle.low_ir.specs.declared.run.Value.TheVariants.{Word, Pointer}
use Rattle.low_ir.specs.Code.{Operand, End, Jump, Branch}
use Rattle.low_ir.specs.Effects.{began}
use Rattle.low_ir.specs.Runs.{operand_value, block_in, enter, went_to, branches, chosen}
use Rattle.low_ir.specs.Places.{places}
use Rattle.asm_program.specs.Numbers.{first_free, second_free}
use Rattle.asm_program.specs.Operands.{operand_register, operand_code}
use Rattle.asm_program.specs.Functions.{PlacedBlock, PlacedFunction, no_function, function_in, at_once, block_count, ends_at, ends_by, graph_of, two_way_items, jump_items}
use Rattle.asm_program.proofs.GraphLemmas.{shaped}
use Rattle.simulation_relation.specs.Noted.{noted, singles, noted_body}
use Rattle.simulation_relation.specs.Positions.{Course}
use Rattle.simulation_relation.specs.Views.{view_of}
use Rattle.simulation_relation.specs.Following.{PlacedRunning}
use Rattle.simulation_steps.proofs.Given.{Given, state, reg, read, At}
use Rattle.simulation_steps.proofs.Places.{IsSteady}
use Rattle.simulation_steps.proofs.Noting.{noted_code}
use Rattle.simulation_steps.proofs.Operands.{frame, first_is_free, second_is_free, in_parts, ready_kept, operand, operand_apart}
use Rattle.simulation_steps.proofs.Apart.{arrays_kept}
use Rattle.simulation_steps.proofs.Plains.{Runs, Going_at, ready_of, body, course_in}
use Rattle.simulation_steps.proofs.Arrays.{holds_led}
use Rattle.simulation_steps.proofs.Standing.{Stood}
use Rattle.simulation_steps.proofs.Jumps.{jump_lays}
use Rattle.simulation_steps.proofs.Branches.{not_not, opposite_holds, branch_lays}
use Rattle.simulation_steps.proofs.Arrivals.{block_below, arrive}

module _ (g : Given) where
  -- the block of a function's number
  block_there : (f t : ℕ) (block : PlacedBlock) (o : Option PlacedFunction) → slice_get g.layout.program.functions f ≡ o → block_in o t ≡ Some block → slice_get (function_in g.layout.program f).blocks t ≡ Some block
  block_there f t block None e h = absurd cc
  block_there f t block (Some fn) e h = ap (λ (x : PlacedFunction). slice_get x.blocks t) (get_or_from_slice_get g.layout.program.functions f fn no_function e) ∙ h

  -- what is read of the same memory is the same
  same_reads : (n m : ℕ) → (state g m).world ≡ (state g n).world → (y : Width) (a : ℕ) → read g m y a ≡ read g n y a
  same_reads n m same y a = ap (λ (x : machine.World). read_from (λ b. b.read) y x.memory a) same

  -- the machine has come to a block that the run enters
  enters : (r : PlacedRunning) (n m t : ℕ) (h : Going_at g r n) (block : PlacedBlock) → slice_get (function_in g.layout.program r.top.func).blocks (suc t) ≡ Some block → Stood g m (g.layout.starts r.top.func (suc t)) r.world.trace h.returns
      → ((q : ℕ) → IsSteady q → reg g m q ≡ reg g n q) → (state g m).world ≡ (state g n).world → Later (Runs g (enter r (suc t) (Some block))) m
  enters r n m t h block e stood registers world =
      let f = r.top.func in
      let u = began r.world f (suc t) in
      let goal = Runs g (enter r (suc t) (Some block)) in
      arrive g goal m f t block r.world.trace h.returns h.inside.there e stood
      (λ j a.
      let same : (state g j).world ≡ (state g n).world = a.world ∙ world in
      let reads = same_reads n j same in
      let held =
      holds_led g false r n j block.code u h.returns h.inside.there (λ q s spare. a.registers q ∙ registers q s) (λ q y z e s. cc) (λ x below b from to. reads Whole b)
      (arrays_kept g.layout r.world.objects (view_of (state g n)) (view_of (state g j)) (λ o x found y b from to. reads y b) h.holds.arrays) h.holds in
      now goal j
      (record {
        block = suc t;
        inside = record { there = h.inside.there; block = block; has = e; before = []; code = refl; ends = refl };
        returns = h.returns;
        holds = record { based = held.based; second = held.second; room = held.room; shows = held.shows; arrays = held.arrays; linked = held.linked; after = held.after; keeps = held.keeps; waits = held.waits };
        exchanges =
            record {
              input = ap (λ (x : machine.World). x.input) same ∙ h.exchanges.input;
              bytes = h.exchanges.bytes;
              output = ap (λ (x : machine.World). x.output) same ∙ h.exchanges.output;
            };
        at = a.at;
      }))

  -- blocks lead to no function's first block
  not_first : (f b : ℕ) → Contains ((graph_of g.layout.memory g.layout.program).follows f b) zero → ⊥
  not_first f b h =
      let s = shaped g.layout.memory g.layout.program g.laid.formed in
      ⊎_elim (λ (less : b < zero). omega arith) (λ (x : (k : graphs.Loop) × Contains ((graph_of g.layout.memory g.layout.program).loops f) k × (b ≡ k.latch) × (zero ≡ k.header)). let some = s.first f x.0 x.1 in let is = x.3 in omega arith) (s.up f b zero h)

  -- where a block goes on, a block of the run begins
  enters_any : (r : PlacedRunning) (n m t : ℕ) (h : Going_at g r n) → (t ≡ zero → ⊥) → (o : Option PlacedBlock) → block_in (slice_get g.layout.program.functions r.top.func) t ≡ o → (slice_get (function_in g.layout.program r.top.func).blocks t ≢ None → Stood g m (g.layout.starts r.top.func t) r.world.trace h.returns)
      → ((q : ℕ) → IsSteady q → reg g m q ≡ reg g n q) → (state g m).world ≡ (state g n).world → Later (Runs g (enter r t o)) m
  enters_any r n m t h some None e stood registers world = now (Runs g (enter r t None)) m tt
  enters_any r n m zero h some (Some block) e stood registers world = absurd (some refl)
  enters_any r n m (suc t) h some (Some block) e stood registers world =
      let there = block_there r.top.func (suc t) block (slice_get g.layout.program.functions r.top.func) refl e in
      enters r n m t h block there (stood (λ none. let both : Some block ≡ None = sym there ∙ none in absurd cc)) registers world

  -- the end of the block's items, where the next block begins
  falls : (k : Course) (n : ℕ) → At g k n [] → Stood g n k.stop k.trace k.returns
  falls k n h = record { running = h.running; count = h.count; here = h.code; events = sym (append-nil _) ∙ h.events; returns_are = h.returns; straight = h.straight; inside = h.inside; touches = h.touches }

  -- jump_items
  jump_by : (r : PlacedRunning) (n m t : ℕ) (h : Going_at g r n) (next : Bool) → (t == suc h.block) ≡ next → (t ≡ zero → ⊥) → At g (course_in g r r.world h.block h.returns) m (map noted (jump_items g.layout.memory g.layout.program r.top.func next t))
      → ((q : ℕ) → IsSteady q → reg g m q ≡ reg g n q) → (state g m).world ≡ (state g n).world → Later (Runs g (went_to g.layout.program r t)) m
  jump_by r n m t h true is some at registers world =
      let l = g.layout in
      let f = r.top.func in
      let same : t ≡ suc h.block = grind (arith, nat_tests) in
      enters_any r n m t h some (block_in (slice_get l.program.functions f) t) refl
      (λ there.
      let below = there_below f t there in
      let inside = h.inside.there in
      let next : l.stops f h.block ≡ l.starts f (suc h.block) = g.laid.next f h.block (omega arith) (subst (λ x. x < block_count l.memory l.program f) same (block_below l.memory l.program f t inside below)) in
      subst (λ a. Stood g m a r.world.trace h.returns) (next ∙ ap (l.starts f) (sym same)) (falls (course_in g r r.world h.block h.returns) m at))
      registers world
    where
      there_below : (f t : ℕ) → slice_get (function_in g.layout.program f).blocks t ≢ None → t < length (function_in g.layout.program f).blocks
      there_below f t there = by_option (slice_get (function_in g.layout.program f).blocks t) refl
        where
          by_option : (o : Option PlacedBlock) → slice_get (function_in g.layout.program f).blocks t ≡ o → t < length (function_in g.layout.program f).blocks
          by_option None e = absurd (there e)
          by_option (Some block) e = slice_get_within (function_in g.layout.program f).blocks t block e
  jump_by r n m t h false is some at registers world =
      let goal = Runs g (went_to g.layout.program r t) in
      jump_lays g (course_in g r r.world h.block h.returns) goal m t true [] at
      (λ j c. enters_any r n j t h some (block_in (slice_get g.layout.program.functions r.top.func) t) refl (λ there. c.stood) (λ q s. c.registers q s.five ∙ registers q s) (c.world ∙ world))

  leads_on : (r : PlacedRunning) (n t : ℕ) (h : Going_at g r n) → Contains ((graph_of g.layout.memory g.layout.program).follows r.top.func h.block) t → t ≡ zero → ⊥
  leads_on r n t h c same = not_first r.top.func h.block (subst (λ x. Contains ((graph_of g.layout.memory g.layout.program).follows r.top.func h.block) x) same c)

  -- where the block leads, by its end
  followed : (r : PlacedRunning) (n t : ℕ) (h : Going_at g r n) (end : End Place) → r.top.end ≡ end → Contains (ends_at (at_once g.layout.memory g.layout.program r.top.func) (length (function_in g.layout.program r.top.func).blocks) end) t
      → Contains ((graph_of g.layout.memory g.layout.program).follows r.top.func h.block) t
  followed r n t h end e c =
      let f = r.top.func in
      let once = at_once g.layout.memory g.layout.program f in
      let last = length (function_in g.layout.program f).blocks in
      subst (λ o. Contains (ends_by once last o) t) (sym h.inside.has) (subst (λ x. Contains (ends_at once last x) t) (sym (h.inside.ends ∙ e)) c)

  -- the blocks to which two_way_items lead
  two_ways : (r : PlacedRunning) (n m : ℕ) (c : Condition) (x y u v taken other : ℕ) (h : Going_at g r n) (next : Bool) → (taken == suc h.block) ≡ next → (taken ≡ zero → ⊥) → (other ≡ zero → ⊥)
      → At g (course_in g r r.world h.block h.returns) m (map noted (two_way_items g.layout.memory g.layout.program r.top.func next h.block c x y taken other)) → reg g m x ≡ u → reg g m y ≡ v
      → ((q : ℕ) → IsSteady q → reg g m q ≡ reg g n q) → (state g m).world ≡ (state g n).world → Later (Runs g (branches g.layout.program r (Some (if holds c u v then taken else other)))) m
  two_ways r n m c x y u v taken other h true is some some_other at left right registers world =
      let l = g.layout in
      let f = r.top.func in
      let b = holds c u v in
      branch_lays g (course_in g r r.world h.block h.returns) (Runs g (branches l.program r (Some (if b then taken else other)))) m other Far (opposite c) x y u v [] (not b) at left right (opposite_holds c u v b refl)
      (λ failing i z.
      subst (λ w. Later (Runs g (branches l.program r (Some (if w then taken else other)))) i) (sym (not_not b true failing))
      (enters_any r n i other h some_other (block_in (slice_get l.program.functions f) other) refl (λ there. z.stood) (λ q s. z.registers q s.five ∙ registers q s) (z.world ∙ world)))
      (λ holding i z.
      subst (λ w. Later (Runs g (branches l.program r (Some (if w then taken else other)))) i) (sym (not_not b false holding))
      (jump_by r n i taken h true is some z.at (λ q s. z.registers q s.five ∙ registers q s) (z.world ∙ world)))
  two_ways r n m c x y u v taken other h false is some some_other at left right registers world =
      let l = g.layout in
      let f = r.top.func in
      let b = holds c u v in
      branch_lays g (course_in g r r.world h.block h.returns) (Runs g (branches l.program r (Some (if b then taken else other)))) m taken Far c x y u v (map noted (jump_items l.memory l.program f (other == suc h.block) other)) b at left right refl
      (λ holding i z.
      subst (λ w. Later (Runs g (branches l.program r (Some (if w then taken else other)))) i) (sym holding)
      (enters_any r n i taken h some (block_in (slice_get l.program.functions f) taken) refl (λ there. z.stood) (λ q s. z.registers q s.five ∙ registers q s) (z.world ∙ world)))
      (λ failing i z.
      subst (λ w. Later (Runs g (branches l.program r (Some (if w then taken else other)))) i) (sym failing)
      (jump_by r n i other h (other == suc h.block) refl some_other z.at (λ q s. z.registers q s.five ∙ registers q s) (z.world ∙ world)))

  pub jump_follows : (r : PlacedRunning) (n t : ℕ) (h : Going_at g r n) → r.top.code ≡ [] → r.top.end ≡ Jump t → Later (Runs g (went_to g.layout.program r t)) n
  jump_follows r n t h code_is end_is =
      let at = subst (λ e. At g (course_in g r r.world h.block h.returns) n (noted_body g.layout.memory g.layout.program r.top.func h.block [] e)) end_is (subst (λ c. At g (course_in g r r.world h.block h.returns) n (body g r h.block c)) code_is h.at) in
      jump_by r n n t h (t == suc h.block) refl (leads_on r n t h (followed r n t h (Jump t) end_is (0, omega arith, refl))) at (λ q s. refl) refl

  pub branch_follows : (r : PlacedRunning) (n : ℕ) (c : Condition) (x y : Operand Place) (taken other : ℕ) (h : Going_at g r n) → r.top.code ≡ [] → r.top.end ≡ Branch c x y taken other
      → (o p : Option Value) → operand_value places r.top.store x ≡ o → operand_value places r.top.store y ≡ p → Later (Runs g (branches g.layout.program r (chosen c taken other o p))) n
  branch_follows r n c x y taken other h code_is end_is None p e1 e2 = now (Runs g (branches g.layout.program r None)) n tt
  branch_follows r n c x y taken other h code_is end_is (Some (Pointer a b)) p e1 e2 = now (Runs g (branches g.layout.program r None)) n tt
  branch_follows r n c x y taken other h code_is end_is (Some (Word u)) None e1 e2 = now (Runs g (branches g.layout.program r None)) n tt
  branch_follows r n c x y taken other h code_is end_is (Some (Word u)) (Some (Pointer a b)) e1 e2 = now (Runs g (branches g.layout.program r None)) n tt
  branch_follows r n c x y taken other h code_is end_is (Some (Word u)) (Some (Word v)) e1 e2 =
      let l = g.layout in
      let f = r.top.func in
      let fr = frame g f in
      let k = course_in g r r.world h.block h.returns in
      let rx = operand_register fr first_free x in
      let ry = operand_register fr second_free y in
      let ways = two_way_items l.memory l.program f (taken == suc h.block) h.block c rx ry taken other in
      let behind = map noted ways in
      let goal = Runs g (branches l.program r (Some (if holds c u v then taken else other))) in
      let ready = ready_of g r n h in
      let branch = operand_code fr first_free x ++ operand_code fr second_free y in
      let at = subst (λ e. At g k n (noted_body l.memory l.program f h.block [] e)) end_is (subst (λ z. At g k n (body g r h.block z)) code_is h.at) in
      let start = subst (λ z. At g k n z) (noted_code branch ways) at in
      operand g k goal n f first_free r.top.store (singles (operand_code fr second_free y) ++ behind) x (Word u) first_is_free ready e1 (in_parts g k n (operand_code fr first_free x) (operand_code fr second_free y) behind start)
      (λ m a.
      let ready2 = ready_kept g f n m first_free r.top.store first_is_free ready a.world a.others in
      operand g k goal m f second_free r.top.store behind y (Word v) second_is_free ready2 e2 a.at
      (λ j b.
      let left : reg g j rx ≡ u = b.others rx (operand_apart g f n r.top.store x (Word u) ready e1) ∙ a.value in
      two_ways r n j c rx ry u v taken other h (taken == suc h.block) refl
      (leads_on r n taken h (followed r n taken h (Branch c x y taken other) end_is (0, omega arith, refl)))
      (leads_on r n other h (followed r n other h (Branch c x y taken other) end_is (1, omega arith, refl)))
      b.at left b.value (λ q s. b.others q s.six ∙ a.others q s.five) (b.world ∙ a.world)))
