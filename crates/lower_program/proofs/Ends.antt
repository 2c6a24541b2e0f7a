-- Runs that go on from where a statement ended.
use Rattle.std.proofs.Common.{◌≡◌, ℕ, zero, suc, ◌+◌, ◌-◌, ◌≤◌, List, [], ◌∷◌, ◌++◌, refl, sym, ap, ◌∙◌, subst, arith}
use Rattle.std.specs.Prelude.{slice_index_or}
use Rattle.high_ir.specs.Meaning as high
use Rattle.high_ir.specs.Meaning.{Outcome, Goes, Leaves, Returns, Bad}
use Rattle.low_ir.specs.declared.run.Began.{Began}
use Rattle.low_ir.specs.Code.{Block, Jump, Loop, Low, Note}
use Rattle.low_ir.specs.Formed.{only_jump}
use Rattle.low_ir.specs.Runs.{Going}
use Rattle.low_ir.specs.Turns.{IsWithin}
use Rattle.lower_definition.specs.Statements.{landed, one_block}
use Rattle.lower_nesting.specs.Segments.{AllInside}
use Rattle.lower_nesting.proofs.Rounds.{IsRound, Rounds, back, first_round, head, last_round, next_round}
use Rattle.lower_program.specs.Following.{Goer, Place, IsPlace, Activation, After, Extent, IsAt, Stand, Begun, Here, Inside, Ahead, Reached, Returning, Does}
use Rattle.lower_program.proofs.Steps.{after_map, now}
use Rattle.lower_program.proofs.Parts.{InPart, after_ends, reach_then, reached_in, then_ends}
use Rattle.lower_program.proofs.Jumps.{at_block, comes, end_same, jump_step, landing}

module _ (q : Low) (at : Place) (is_place : IsPlace q at) (act : Activation) where
  abbrev pub At : Block ℕ Note → high.State → List Began → Goer → Type 0
  At k st so_far r = Here q at act k st so_far r

  abbrev pub Ends : Extent → List Began → Goer → Block ℕ Note → List ℕ → Outcome → Type 0
  Ends x so_far r k exits o = Does q at act x so_far (Going r) k exits o

  -- one statement and then another
  pub then_does : (x : Extent) (so_far : List Began) (r : Goer) (mid k : Block ℕ Note) (exits : List ℕ) (o : Outcome) (next : high.State → Outcome) → Ends x so_far r mid exits o → ((st : high.State) (t : List Began) (z : Goer) → At mid st t z → Ends x t z k exits (next st)) → Ends x so_far r k exits (high.then_do o next)
  then_does x so_far r mid k exits (Goes st) next h go = then_ends q at act x so_far (Going r) (Here q at act mid st) k exits (next st) h (λ t z a. go st t z a)
  then_does x so_far r mid k exits (Leaves d st) next h go = h
  then_does x so_far r mid k exits (Returns v w t) next h go = h
  then_does x so_far r mid k exits Bad next h go = tt

  -- at code that only jumps, or at its goal, one comes to the goal
  pub to_goal : (n : ℕ) (st : high.State) (so_far : List Began) (r : Goer) → n ≤ at.last → At (only_jump n) st so_far r → After q (Going r) (Begun q at act n st so_far)
  to_goal n st so_far r low (Inside h t) = subst (λ a. After q (Going r) (Begun q at act n st a)) t (jump_step q at is_place act st n r low h.meets h.code h.end)
  to_goal n st so_far r low (Ahead m e h) =
      let same : m ≡ n = end_same (Jump n) m n (ap (λ (b : Block ℕ Note). b.end) e) refl in
      now q r (Begun q at act n st so_far) (subst (λ i. Begun q at act i st so_far r) same h)

  -- what is behind a statement, in a part x
  module _ (x : Extent) (n t : ℕ) (k : Block ℕ Note) (low : (landed n (one_block k t)).goal ≤ at.last) (stand : Stand q at n (landed n (one_block k t)).new) (into : InPart q at (landing q at is_place act n (one_block k t)) x) where
    joins : (st : high.State) (so_far : List Began) (y : Goer) → Begun q at act (landed n (one_block k t)).goal st so_far y → Reached q at act x so_far (Here q at act k st) y
    joins st so_far y g = reached_in q at act (landing q at is_place act n (one_block k t)) x so_far (Here q at act k st) y into (comes q at is_place act n (one_block k t) st so_far y tt stand g)

    -- a jump to what has landed comes to it
    pub to_join : (exits : List ℕ) (so_far : List Began) (r : Goer) (o : Outcome) → Ends x so_far r (only_jump (landed n (one_block k t)).goal) exits o → Ends x so_far r k exits o
    to_join exits so_far r (Goes st) h =
        let goal = (landed n (one_block k t)).goal in
        reach_then q at act x so_far (Going r) (Here q at act (only_jump goal) st) (Here q at act k st) h
        (λ a z here. after_map q (Going z) (Begun q at act goal st a) (Reached q at act x a (Here q at act k st)) (to_goal goal st a z low here) (λ y g. joins st a y g))
    to_join exits so_far r (Leaves d st) h = h
    to_join exits so_far r (Returns v w tr) h = h
    to_join exits so_far r Bad h = tt

    -- the end of a block
    pub out_does : (exits : List ℕ) (so_far : List Began) (r : Goer) (o : Outcome) → Ends x so_far r (only_jump (landed n (one_block k t)).goal) ((landed n (one_block k t)).goal ∷ exits) o → Ends x so_far r k exits (high.out_of_block o)
    out_does exits so_far r (Goes st) h = to_join exits so_far r (Goes st) h
    out_does exits so_far r (Leaves zero st) h =
        let goal = (landed n (one_block k t)).goal in
        reach_then q at act x so_far (Going r) (Begun q at act goal st) (Here q at act k st) h (λ a y g. now q y (Reached q at act x a (Here q at act k st)) (joins st a y g))
    out_does exits so_far r (Leaves (suc d) st) h = h
    out_does exits so_far r (Returns v w tr) h = h
    out_does exits so_far r Bad h = tt

  -- the starts of a loop's body, from its header on, since the loop was entered with the trace `since`
  module _ (n size : ℕ) (l : Loop) (ls : List Loop) (round : IsRound at.last n size l) (inside : AllInside (suc n) size ls) (x : Extent) (into : InPart q at (record { from = n; count = size + 2; loops = l ∷ ls }) x) (k : Block ℕ Note) (exits : List ℕ) (b : Block ℕ Note) (body : high.State → Outcome) (low : n ≤ at.last) (is_header : IsAt q at l.header b) (is_latch : IsAt q at n (only_jump l.header)) (follows : (st : high.State) (so_far : List Began) (r : Goer) → At b st so_far r → Ends (record { from = suc n; count = size; loops = ls }) so_far r (only_jump n) exits (body st)) (since : List Began) where
    abbrev inner : Extent
    inner = record { from = suc n; count = size; loops = ls }

    abbrev Round : ℕ → List Began → Type 0
    Round i t = Rounds at.number at.last q n size l ls round inside i since t

    abbrev started : List Began → List Began
    started t = t ++ head at.number at.last q n size l ls round inside ∷ []

    abbrev turned_back : List Began → List Began
    turned_back t = t ++ back at.number at.last q n size l ls round inside ∷ []

    -- an exit of the loop
    exits_by : (i : ℕ) (t : List Began) (r : Goer) (P : List Began → Goer → Type 0) → Round i t → IsWithin l (suc i) → After q (Going r) (Reached q at act inner (started t) P) → After q (Going r) (Reached q at act x since P)
    exits_by i t r P rounds within h = after_map q (Going r) (Reached q at act inner (started t) P) (Reached q at act x since P) h (λ y a. record {
      now = a.now;
      part = into since a.now (last_round at.number at.last q n size l ls round inside i since t a.now rounds a.part within);
      holds = a.holds;
    })

    leaves : (owed i : ℕ) (t : List Began) (r : Goer) (d : ℕ) (st : high.State) → Round i t → (owed ≡ 0 → IsWithin l (suc i)) → Ends inner (started t) r (only_jump n) exits (Leaves d st) → Ends x since r k exits (high.if_met owed (Leaves d st))
    leaves zero i t r d st rounds within h = exits_by i t r (Begun q at act (slice_index_or exits d 0) st) rounds (within refl) h
    leaves (suc m) i t r d st rounds within h = tt

    returns : (owed i : ℕ) (t : List Began) (r : Goer) (v : ℕ) (w : high.World) (tr : List ℕ) → Round i t → (owed ≡ 0 → IsWithin l (suc i)) → Ends inner (started t) r (only_jump n) exits (Returns v w tr) → Ends x since r k exits (high.if_met owed (Returns v w tr))
    returns zero i t r v w tr rounds within h = exits_by i t r (Returning q at act v w tr) rounds (within refl) h
    returns (suc m) i t r v w tr rounds within h = tt

    around : (i : ℕ) (t : List Began) (st : high.State) (r : Goer) (next : Outcome) → Round i t → Reached q at act inner (started t) (Here q at act (only_jump n) st) r → ((u : List Began) (z : Goer) → Round (suc i) u → Begun q at act l.header st u z → Ends x since z k exits next) → Ends x since r k exits next
    around i t st r next rounds h go =
        after_ends q at act x since (Going r) (Begun q at act n st h.now) k exits next (to_goal n st h.now r low h.holds)
        (λ y g.
        let e = at_block q at is_place act (only_jump l.header) n st h.now y is_latch g in
        after_ends q at act x since (Going y) (Begun q at act l.header st y.world.trace) k exits next (jump_step q at is_place act st l.header y round.there e.meets e.code e.end)
        (λ z c.
        let latch : y.world.trace ≡ turned_back h.now = g.began ∙ ap (λ m. h.now ++ record { function = at.number; block = at.last - m } ∷ []) (sym round.latch) in
        go (turned_back h.now) z (next_round at.number at.last q n size l ls round inside i since t h.now rounds h.part) (subst (λ a. Begun q at act l.header st a z) latch c)))

    again_does : (owed i : ℕ) (t : List Began) (next : high.State → Outcome) (r : Goer) (o : Outcome) → Round i t → (owed ≡ 0 → IsWithin l (suc i)) → Ends inner (started t) r (only_jump n) exits o → ((st : high.State) (u : List Began) (z : Goer) → Round (suc i) u → Begun q at act l.header st u z → Ends x since z k exits (next st)) → Ends x since r k exits (high.again owed next o)
    again_does owed i t next r (Goes st) rounds within h go =
        after_ends q at act x since (Going r) (Reached q at act inner (started t) (Here q at act (only_jump n) st)) k exits (next st) h (λ z a. around i t st z (next st) rounds a (λ u w c d. go st u w c d))
    again_does owed i t next r (Leaves d st) rounds within h go = leaves owed i t r d st rounds within h
    again_does owed i t next r (Returns v w tr) rounds within h go = returns owed i t r v w tr rounds within h
    again_does owed i t next r Bad rounds within h go = tt

    pub turns_do : (left owed i : ℕ) (t : List Began) (st : high.State) (r : Goer) → left + i ≡ l.most → owed ≡ l.least - i → Round i t → Begun q at act l.header st t r → Ends x since r k exits (high.turns left owed body st)
    turns_do zero owed i t st r total owes rounds h = tt
    turns_do (suc left) owed i t st r total owes rounds h =
        let e = at_block q at is_place act b l.header st t r is_header h in
        again_does (owed - 1) i t (high.turns left (owed - 1) body) r (body st) rounds (λ met. (omega (arith, owes, met), omega (arith, total))) (follows st (started t) r (Inside e h.began))
        (λ st2 u z more g. turns_do left (owed - 1) (suc i) u st2 z (omega (arith, total)) (omega (arith, owes)) more g)

    pub loop_does : (st : high.State) (r : Goer) → Begun q at act l.header st since r → Ends x since r k exits (high.turns l.most l.least body st)
    loop_does st r h = turns_do l.most l.least 0 since st r (omega arith) (omega arith) (first_round at.number at.last q n size l ls round inside since) h
