-- The code of a statement does what the statement does.
use Rattle.std.proofs.Common.{◌≡◌, ℕ, zero, suc, ◌+◌, ◌-◌, ◌≤◌, Bool, true, false, List, [], ◌∷◌, ◌++◌, length, Option, Some, None, refl, sym, ap, ◌∙◌, subst, arith, length-append}
use Rattle.std.specs.Prelude.{◌==◌, not, if◌then◌else◌, nat_lt, slice_index_or, slice_set}
use Rattle.std.proofs.lemmas.Bool.{ltb-true}
use Rattle.std.proofs.lemmas.Bool.Decides.{nat_tests}
use Rattle.std.proofs.lemmas.List.{append-nil}
use Rattle.high_ir.specs.declared.object.Array.{Array}
use Rattle.high_ir.specs.Meaning as high
use Rattle.high_ir.specs.Meaning.{Outcome, Goes, Returns}
use Rattle.high_ir.specs.Tree.{Expr, Element, Statement, Set, Put, Get, Keep, Mark, If, Loop, Block, Leave, Return, Statements, Then}
use Rattle.high_ir.specs.Whole.{IsWordy}
use Rattle.low_ir.specs.declared.run.Began.{Began}
use Rattle.low_ir.specs.Code.{Base, Store, Jump, Branch, Do, Note, Low}
use Rattle.low_ir.specs.Code as code
use Rattle.low_ir.specs.Formed.{only_jump}
use Rattle.low_ir.specs.Runs.{Going, went_to}
use Rattle.lower_definition.specs.Objects.{kind_of, scale_of}
use Rattle.lower_definition.specs.Operators.{only}
use Rattle.lower_definition.specs.Values.{Share, Coded, Valued, Tested, address, coded, index_of, offset_of, operand, scaled_in, share_code, tested, value_into}
use Rattle.lower_definition.specs.Statements.{Piece, Landed, landed, before, marked_by, one_block, parted, set_code, put_code, get_code, keep_code, test_code, return_block, kept_value, shares_of, only_if, piece, pieces}
use Rattle.lower_values.proofs.Writing.{has_word}
use Rattle.lower_values.specs.Meeting.{MeetsFrame, MeetsWorld, is_true}
use Rattle.lower_values.proofs.Standing.{based, computed_then, stands_after}
use Rattle.lower_values.proofs.Values.{works, operand_found, operand_free}
use Rattle.lower_values.proofs.Shares.{begun, scaled_written}
use Rattle.lower_values.proofs.Tests.{tests, tested_free}
use Rattle.lower_nesting.specs.Segments.{AllInside}
use Rattle.lower_nesting.proofs.Free.{before_free, get_free, landed_free, landed_length, piece_free, pieces_free, test_free}
use Rattle.lower_nesting.proofs.Loops.{all_loops_inside, inside_append, inside_wider, landed_inside, loops_inside}
use Rattle.lower_program.specs.Claims.{Around, Fits, IsFollowed, whole}
use Rattle.lower_program.specs.Following.{Goer, Place, IsPlace, Activation, After, Extent, IsAt, Stand, Meets, Entered, Begun, Here, Inside, Ahead, Reached, Returning, Does, extent}
use Rattle.lower_program.proofs.Steps.{after_map, step_to, steps_to, computed_runs}
use Rattle.lower_program.proofs.Steps as runs
use Rattle.lower_program.proofs.Parts.{InPart, after_ends, does_in, in_back, in_front, in_join, in_landed, in_larger, reached_now, reaches, then_ends}
use Rattle.lower_program.proofs.Filled.{Filled, filled_some, filled_behind, into_filled}
use Rattle.lower_program.proofs.Plain.{Passes, before_goes, set_by, set_inner, set_passes, set_state, put_passes, put_state, get_passes, get_state}
use Rattle.lower_program.proofs.Stores.{stores}
use Rattle.lower_program.proofs.Keeping.{keep_inner, keep_state, store_passes}
use Rattle.lower_program.proofs.Ends.{loop_does, out_does, then_does, to_goal, to_join}
use Rattle.lower_program.proofs.Jumps.{arrives, branch_step, enters, jump_step, landing, stand_back, stand_front, stand_landed, stand_one}
use Rattle.lower_program.proofs.Growing.{all_lead_within, exits_more, landed_goal, leads_within, room_back, room_front}

module _ (q : Low) (at : Place) (is_place : IsPlace q at) (act : Activation) (call : high.Calls) where
  abbrev Stands : ℕ → List (code.Block ℕ Note) → Type 0
  Stands n bs = Stand q at n bs

  abbrev Is : code.Block ℕ Note → high.State → List Began → Goer → Type 0
  Is k st so_far r = Here q at act k st so_far r

  abbrev Goes_on : Extent → List Began → Goer → code.Block ℕ Note → List ℕ → Outcome → Type 0
  Goes_on x so_far r k exits o = Does q at act x so_far (Going r) k exits o

  -- the claim on a statement, and on statements
  abbrev pub Followed : Statement → Type 0
  Followed s = IsFollowed q at act call s

  abbrev pub AllFollowed : Statements → Type 0
  AllFollowed ss =
      (exits : List ℕ) (n t : ℕ) (k : code.Block ℕ Note) (st : high.State) (so_far : List Began) (r : Goer)
      → Around at exits t k → Fits q at n (pieces at.scope ss exits n t k) → Is (pieces at.scope ss exits n t k).first st so_far r
      → Goes_on (whole n (pieces at.scope ss exits n t k)) so_far r k exits (high.run_all Some call act.passed ss st)

  -- a mark that was passed
  pass_mark : (m : ℕ) (st : high.State) (r : Goer) → Meets q at act st (Some m) r → Meets q at act (record { variables = st.variables; world = st.world; trace = st.trace ++ m ∷ [] }) None r
  pass_mark m st r h = record { function = h.function; below = h.below; size = h.size; world = h.world; frame = h.frame; marks = h.marks ∙ sym (append-nil (st.trace ++ m ∷ [])) }

  pub mark_follows : (m : ℕ) → Followed (Mark m)
  mark_follows m exits n t k st so_far r around fits here = by_mark k.mark refl fits here
    where
      st2 : high.State
      st2 = record { variables = st.variables; world = st.world; trace = st.trace ++ m ∷ [] }

      by_mark : (o : Option ℕ) → k.mark ≡ o → Fits q at n (marked_by o m n k t) → Is (marked_by o m n k t).first st so_far r → After q (Going r) (Reached q at act (whole n (marked_by o m n k t)) so_far (Here q at act k st2))
      by_mark None e fits (Ahead b j g) = let same : Some m ≡ None = ap (λ (b : code.Block ℕ Note). b.mark) j in cc
      by_mark None e fits (Inside h a) =
          reaches q at act (extent n [] []) so_far (Here q at act k st2) r (Inside (record { meets = subst (λ o. Meets q at act st2 o r) (sym e) (pass_mark m st r h.meets); code = h.code; end = h.end }) a)
      by_mark (Some l) e fits (Ahead b j g) = let same : Some m ≡ None = ap (λ (b : code.Block ℕ Note). b.mark) j in cc
      by_mark (Some l) e fits (Inside h a) =
          let room = fits.blocks in
          let x : Extent = extent n (k ∷ []) [] in
          let jump = jump_step q at is_place act st2 n r (omega (arith, room)) (pass_mark m st r h.meets) h.code h.end in
          after_map q (Going r) (Begun q at act n st2 so_far) (Reached q at act x so_far (Here q at act k st2)) (subst (λ z. After q (Going r) (Begun q at act n st2 z)) a jump)
          (λ y g. enters q at is_place act x n st2 k so_far y (omega arith) (omega arith) tt (stand_one q at is_place n k fits.stand) g)

  pub leave_follows : (d : ℕ) → Followed (Leave d)
  leave_follows d exits n t k st so_far r around fits here =
      let goal = slice_index_or exits d 0 in
      after_map q (Going r) (Begun q at act goal st so_far) (Reached q at act (extent n [] []) so_far (Begun q at act goal st)) (to_goal q at is_place act goal st so_far r (around.outs d) here)
      (λ y g. reached_now q at act (extent n [] []) so_far (Begun q at act goal st) y g)

  pub block_follows : (body : Statement) → Followed body → Followed (Block body)
  block_follows body follows exits n t k st so_far r around fits here =
      let join = landed n (one_block k t) in
      let p = piece at.scope body (join.goal ∷ exits) (n + length join.new) t (only_jump join.goal) in
      let s_join = stand_back q at is_place n p.new join.new fits.stand in
      let goal = landed_goal q at is_place n (one_block k t) s_join around.behind in
      let x = extent n (p.new ++ join.new) p.loops in
      let room = fits.blocks in
      let total = length-append p.new join.new in
      let inside = loops_inside at.scope body (join.goal ∷ exits) (n + length join.new) t (only_jump join.goal) in
      out_does q at is_place act x n t k goal s_join
      (in_join q at n t k (n + length join.new) (length p.new) (length (p.new ++ join.new)) p.loops (omega arith) (omega (arith, room, total)) (omega (arith, total)) inside) exits so_far r (high.run Some call act.passed body st)
      (does_in q at act (whole (n + length join.new) p) x so_far (Going r) (only_jump join.goal) (join.goal ∷ exits) (high.run Some call act.passed body st)
      (in_larger q at (n + length join.new) (length p.new) n (length (p.new ++ join.new)) p.loops (omega arith) (omega (arith, total)))
      (follows (join.goal ∷ exits) (n + length join.new) t (only_jump join.goal) st so_far r
      (record { free = around.free; outs = exits_more at.last join.goal exits goal around.outs; behind = goal })
      (record { registers = fits.registers; blocks = room_front q at is_place n p.new join.new fits.blocks; stand = stand_front q at is_place n p.new join.new fits.stand }) here))

  pub loop_follows : (id least most : ℕ) (body : Statement) → Followed body → Followed (Loop id least most body)
  loop_follows id least most body follows exits n t k st so_far r around fits here =
      let b = piece at.scope body exits (suc n) t (only_jump n) in
      let header = suc n + length b.new in
      let latch = only_jump header ∷ [] in
      let l : code.Loop = record { id = id; least = least; most = most; header = header; latch = n } in
      let x = extent n (b.first ∷ (b.new ++ latch)) (l ∷ b.loops) in
      let room = fits.blocks in
      let total = length-append b.new latch in
      let low : n ≤ at.last = omega (arith, room, total) in
      let low_header : header ≤ at.last = omega (arith, room, total) in
      let first : n + length (b.new ++ latch) ≡ header = omega (arith, total) in
      let is_header : IsAt q at header b.first = subst (λ i. IsAt q at i b.first) first fits.stand.0 in
      let last = stand_back q at is_place n b.new latch fits.stand.1 in
      let is_latch = stand_one q at is_place n (only_jump header) last in
      let one : n + length latch ≡ suc n = omega arith in
      let s_body : Stands (suc n) b.new = subst (λ i. Stands i b.new) one (stand_front q at is_place n b.new latch fits.stand.1) in
      let inside = loops_inside at.scope body exits (suc n) t (only_jump n) in
      let run = high.run Some call act.passed body in
      after_ends q at act x so_far (Going r) (Begun q at act header st so_far) k exits (high.turns most least run st) (to_goal q at is_place act header st so_far r low_header here)
      (λ z g. loop_does q at is_place act n (length b.new) l b.loops (record { latch = refl; header = refl; there = low_header }) inside x
      (in_larger q at n (length b.new + 2) n (length (b.first ∷ (b.new ++ latch))) (l ∷ b.loops) (omega arith) (omega (arith, total))) k exits b.first run low is_header is_latch
      (λ st2 u y a. follows exits (suc n) t (only_jump n) st2 u y (record { free = around.free; outs = around.outs; behind = low }) (record { registers = fits.registers; blocks = omega (arith, room, total); stand = s_body }) a) so_far st z g)

  pub then_follows : (first : Statement) (rest : Statements) → Followed first → AllFollowed rest → AllFollowed (Then first rest)
  then_follows first rest f g exits n t k st so_far r around fits here =
      let b = pieces at.scope rest exits n t k in
      let p = piece at.scope first exits (n + length b.new) b.free b.first in
      let s_rest = stand_back q at is_place n p.new b.new fits.stand in
      let room_rest = room_back q at is_place n p.new b.new fits.blocks in
      let up = piece_free at.scope first exits (n + length b.new) b.free b.first in
      let more = pieces_free at.scope rest exits n t k in
      let registers = fits.registers in
      let room = fits.blocks in
      let free = around.free in
      let total = length-append p.new b.new in
      let x = extent n (p.new ++ b.new) (p.loops ++ b.loops) in
      let in_first = loops_inside at.scope first exits (n + length b.new) b.free b.first in
      let in_rest = all_loops_inside at.scope rest exits n t k in
      then_does q at is_place act x so_far r b.first k exits (high.run Some call act.passed first st) (high.run_all Some call act.passed rest)
      (does_in q at act (whole (n + length b.new) p) x so_far (Going r) b.first exits (high.run Some call act.passed first st)
      (in_front q at (n + length b.new) (length p.new) n (length b.new) n (length (p.new ++ b.new)) p.loops b.loops (omega arith) (omega arith) (omega (arith, total)) in_rest)
      (f exits (n + length b.new) b.free b.first st so_far r
      (record { free = omega (arith, free, more); outs = around.outs; behind = all_lead_within q at is_place rest exits n t k room_rest around.outs around.behind s_rest })
      (record { registers = registers; blocks = room_front q at is_place n p.new b.new fits.blocks; stand = stand_front q at is_place n p.new b.new fits.stand }) here))
      (λ st2 u z a.
      does_in q at act (whole n b) x u (Going z) k exits (high.run_all Some call act.passed rest st2)
      (in_back q at n (length b.new) (n + length b.new) (length p.new) n (length (p.new ++ b.new)) b.loops p.loops (omega arith) (omega (arith, room, total)) (omega arith) (omega (arith, total)) in_first)
      (g exits n t k st2 u z around (record { registers = omega (arith, registers, up); blocks = room_rest; stand = s_rest }) a))

  -- what a state at code has
  has_count : (b : code.Block ℕ Note) (st : high.State) (so_far : List Began) (r : Goer) → Is b st so_far r → length st.variables ≡ at.scope.variables
  has_count b st so_far r (Inside h a) = h.meets.frame.count
  has_count b st so_far r (Ahead n j h) = h.entered.meets.frame.count

  has_world : (b : code.Block ℕ Note) (st : high.State) (so_far : List Began) (r : Goer) → Is b st so_far r → MeetsWorld at.scope st.world r.world
  has_world b st so_far r (Inside h a) = h.meets.world
  has_world b st so_far r (Ahead n j h) = h.entered.meets.world

  has_frame : (b : code.Block ℕ Note) (st : high.State) (so_far : List Began) (r : Goer) → Is b st so_far r → MeetsFrame at.scope q.claims act.passed st.variables r.top.store
  has_frame b st so_far r (Inside h a) = h.meets.frame
  has_frame b st so_far r (Ahead n j h) = h.entered.meets.frame

  -- a statement that is code alone
  pub code_follows : (c : Coded) (n : ℕ) (k : code.Block ℕ Note) (st st2 : high.State) (so_far : List Began) (r : Goer) → Filled c.code → (c.free ≤ at.code.size → Passes q at is_place act c.code st st2) → Fits q at n (before n k c) → Is (before n k c).first st so_far r → After q (Going r) (Reached q at act (whole n (before n k c)) so_far (Here q at act k st2))
  code_follows c n k st st2 so_far r filled passes fits here =
      let room = fits.blocks in
      let registers = fits.registers in
      let same = before_free n k c in
      before_goes q at is_place act n k c st st2 so_far r (filled_some c.code filled) (passes (omega (arith, registers, same))) (omega (arith, room)) fits.stand here

  pub set_follows : (x : ℕ) (e : Expr) → IsWordy e → Followed (Set x e)
  set_follows x e wordy exits n t k st so_far r around fits here = by_value (high.value_of act.passed st.variables st.world e) refl
    where
      c : Coded
      c = set_code at.scope x e t

      shares : List Share
      shares = shares_of at.scope (scaled_in at.scope e) t

      by_test : (v : ℕ) (b : Bool) → high.value_of act.passed st.variables st.world e ≡ Some v → nat_lt x (length st.variables) ≡ b → Goes_on (whole n (before n k (set_code at.scope x e t))) so_far r k exits (set_by q at is_place act st x v b)
      by_test v false is test = tt
      by_test v true is test =
          let inside = ltb-true x (length st.variables) test in
          let known : nat_lt x at.scope.variables ≡ true = ap (λ m. nat_lt x m) (sym (has_count (before n k c).first st so_far r here)) ∙ test in
          let same : set_inner q at is_place act x e t ≡ c = sym (ap (λ b. only_if b t (set_inner q at is_place act x e t)) known) in
          code_follows c n k st (set_state q at is_place act st x v) so_far r
          (subst (λ d. Filled d.code) same (filled_behind (share_code shares) (value_into at.scope shares e x (t + length shares)).code (into_filled at.scope shares e x (t + length shares))))
          (λ enough. subst (λ d. Passes q at is_place act d.code st (set_state q at is_place act st x v)) same
          (set_passes q at is_place act x e t v st wordy around.free is inside (subst (λ d. d.free ≤ at.code.size) (sym same) enough))) fits here

      by_value : (o : Option ℕ) → high.value_of act.passed st.variables st.world e ≡ o → Goes_on (whole n (before n k (set_code at.scope x e t))) so_far r k exits (high.with_value o (λ v. high.with_value (high.written st.variables x v) (high.set_variables st)))
      by_value None is = tt
      by_value (Some v) is = by_test v (nat_lt x (length st.variables)) is refl

  pub put_follows : (e : Expr) → IsWordy e → Followed (Put e)
  put_follows e wordy exits n t k st so_far r around fits here = by_value (high.value_of act.passed st.variables st.world e) refl
    where
      by_value : (o : Option ℕ) → high.value_of act.passed st.variables st.world e ≡ o → Goes_on (whole n (before n k (put_code at.scope e t))) so_far r k exits (high.with_value o (λ v. high.set_world st (high.put st.world v)))
      by_value None is = tt
      by_value (Some v) is =
          let shares = shares_of at.scope (scaled_in at.scope e) t in
          let x = operand at.scope shares e (t + length shares) in
          let own = only (Do (code.Put x.value)) in
          code_follows (put_code at.scope e t) n k st (put_state q at is_place act st v) so_far r (filled_behind (share_code shares) (x.code ++ own) (filled_behind x.code own tt))
          (λ enough. put_passes q at is_place act e t v st wordy around.free is enough) fits here

  pub get_follows : (x : ℕ) → Followed (Get x)
  get_follows x exits n t k st so_far r around fits here = by_test (nat_lt x (length st.variables)) refl
    where
      by_test : (b : Bool) → nat_lt x (length st.variables) ≡ b → Goes_on (whole n (before n k (get_code at.scope x t))) so_far r k exits (high.with_value (high.only_if b (Some (slice_set st.variables x (Some (high.next_byte st.world.input))))) (λ vs. Goes (record { variables = vs; world = high.got st.world; trace = st.trace })))
      by_test false test = tt
      by_test true test =
          let c = get_code at.scope x t in
          let inside = ltb-true x (length st.variables) test in
          let known : nat_lt x at.scope.variables ≡ true = ap (λ m. nat_lt x m) (sym (has_count (before n k c).first st so_far r here)) ∙ test in
          let inner = coded (Do (code.Get x)) t in
          let same : inner ≡ c = sym (ap (λ b. only_if b t inner) known) in
          let registers = fits.registers in
          let total = before_free n k c in
          let free = around.free in
          let up = get_free at.scope x t in
          code_follows c n k st (get_state q at is_place act st x) so_far r (subst (λ d. Filled d.code) same tt)
          (λ enough. subst (λ d. Passes q at is_place act d.code st (get_state q at is_place act st x)) same (get_passes q at is_place act x st inside (omega (arith, registers, total, free, up)))) fits here

  kept_filled : (array : Array) (b : Base ℕ) (i e : Expr) (t : ℕ) → Filled (keep_inner q at is_place act array (Some b) i e t).code
  kept_filled array b i e t =
      let shares = shares_of at.scope (scaled_in at.scope (Element array i) ++ scaled_in at.scope e) t in
      let u = t + length shares in
      let o = offset_of shares (scale_of array.kind) (index_of at.scope shares i u) in
      let x = operand at.scope shares e o.free in
      let own = only (Do (Store (kind_of array.kind) (address b o) x.value)) in
      filled_behind (share_code shares) (o.code ++ (x.code ++ own)) (filled_behind o.code (x.code ++ own) (filled_behind x.code own tt))

  pub keep_follows : (array : Array) (i e : Expr) → IsWordy i → IsWordy e → Followed (Keep array i e)
  keep_follows array i e wi we exits n t k st so_far r around fits here = by_index (high.value_of act.passed st.variables st.world i) refl
    where
      c : Coded
      c = keep_code at.scope array i (kept_value array.kind e) t

      by_world : (m v : ℕ) (o : Option high.World) → high.value_of act.passed st.variables st.world i ≡ Some m → high.value_of act.passed st.variables st.world e ≡ Some v → high.keep act.passed st.world array m v ≡ o → Goes_on (whole n (before n k (keep_code at.scope array i (kept_value array.kind e) t))) so_far r k exits (high.with_value o (high.set_world st))
      by_world m v None is_m is_v is = tt
      by_world m v (Some w2) is_m is_v is =
          let h2 = stores act.passed st.world array m v w2 is in
          let frame = has_frame (before n k c).first st so_far r here in
          let world = has_world (before n k c).first st so_far r here in
          let bas = based at.scope q.claims act.passed st.variables st.world r.world r.top.store array.base h2.object h2.contents world frame h2.number h2.there_is in
          let value = works at.scope [] q.claims r.world act.passed st.variables st.world world e we v frame.words is_v in
          code_follows c n k st (keep_state q at is_place act st w2) so_far r
          (subst (λ o. Filled (keep_inner q at is_place act array o i (kept_value array.kind e) t).code) (sym bas.is) (kept_filled array bas.base i (kept_value array.kind e) t))
          (λ enough. store_passes q at is_place act array i e t m v st w2 wi we around.free is_m is_v value.small h2 enough) fits here

      by_value : (m : ℕ) (o : Option ℕ) → high.value_of act.passed st.variables st.world i ≡ Some m → high.value_of act.passed st.variables st.world e ≡ o → Goes_on (whole n (before n k (keep_code at.scope array i (kept_value array.kind e) t))) so_far r k exits (high.with_value o (λ v. high.with_value (high.keep act.passed st.world array m v) (high.set_world st)))
      by_value m None is_m is = tt
      by_value m (Some v) is_m is = by_world m v (high.keep act.passed st.world array m v) is_m is refl

      by_index : (o : Option ℕ) → high.value_of act.passed st.variables st.world i ≡ o → Goes_on (whole n (before n k (keep_code at.scope array i (kept_value array.kind e) t))) so_far r k exits (high.with_value o (λ m. high.with_value (high.value_of act.passed st.variables st.world e) (λ v. high.with_value (high.keep act.passed st.world array m v) (high.set_world st))))
      by_index None is = tt
      by_index (Some m) is = by_value m (high.value_of act.passed st.variables st.world e) is refl

  pub return_follows : (e : Expr) → IsWordy e → Followed (Return e)
  return_follows e wordy exits n t k st so_far r around fits here = by_value (high.value_of act.passed st.variables st.world e) refl here
    where
      shares : List Share
      shares = shares_of at.scope (scaled_in at.scope e) t

      x : Valued
      x = operand at.scope shares e (t + length shares)

      by_value : (o : Option ℕ) → high.value_of act.passed st.variables st.world e ≡ o → Is (return_block at.scope e t).first st so_far r → Goes_on (whole n (return_block at.scope e t)) so_far r k exits (high.with_value o (λ v. Returns v st.world st.trace))
      by_value None is here = tt
      by_value (Some v) is (Ahead b j g) = let same : code.Return x.value ≡ Jump b = ap (λ (b : code.Block ℕ Note). b.end) j in cc
      by_value (Some v) is (Inside h began) =
          let u = t + length shares in
          let meets = h.meets in
          let size = meets.size in
          let registers = fits.registers in
          let up = operand_free at.scope shares e u in
          let b = begun at.scope q.claims r.world act.passed st.variables (scaled_in at.scope e) r.top.store t meets.frame around.free (scaled_written at.scope act.passed st.variables st.world e v is) (omega (arith, size, registers, up)) in
          let size1 = b.size in
          let w = works at.scope shares q.claims r.world act.passed st.variables st.world meets.world e wordy v meets.frame.words is in
          let f = operand_found at.scope shares q.claims r.world act.passed st.variables st.world meets.world e v b.store u is w b.stands (omega (arith, size, size1, registers)) in
          let s2 = f.finds.store in
          let z = runs.behind r [] s2 in
          steps_to q (length (share_code shares ++ x.code)) (Going r) (Going z) (Reached q at act (extent n [] []) so_far (Returning q at act v st.world st.trace))
          (computed_runs q (share_code shares ++ x.code) [] r s2 (h.code ∙ sym (append-nil (share_code shares ++ x.code))) (computed_then q.claims r.world (share_code shares) x.code r.top.store b.store s2 b.does f.finds.does))
          (reaches q at act (extent n [] []) so_far (Returning q at act v st.world st.trace) z (record {
            small = w.small;
            below = meets.below;
            code = refl;
            operand = x.value;
            end = h.end;
            value = has_word s2 x.value v w.small f.finds.value;
            world = meets.world;
            marks = meets.marks ∙ append-nil st.trace;
            began = began;
          }))

  -- which way a test goes
  is_true_suc : (m : ℕ) → is_true (suc m) ≡ true
  is_true_suc m = let e : (suc m == 0) ≡ false = grind (arith, nat_tests) in ap not e

  pub if_follows : (test : Expr) (first other : Statement) → IsWordy test → Followed first → Followed other → Followed (If test first other)
  if_follows test first other wordy f g exits n t k st so_far r around fits here = by_value (high.value_of act.passed st.variables st.world test) refl here
    where
      join : Landed
      join = landed n (one_block k t)

      m : ℕ
      m = n + length join.new

      p_other : Piece
      p_other = piece at.scope other exits m t (only_jump join.goal)

      l_other : Landed
      l_other = landed m p_other

      p_first : Piece
      p_first = piece at.scope first exits (m + length l_other.new) l_other.free (only_jump join.goal)

      l_first : Landed
      l_first = landed (m + length l_other.new) p_first

      tested_code : Tested
      tested_code = test_code at.scope test l_first.free

      behind : List (code.Block ℕ Note)
      behind = l_other.new ++ join.new

      s_tail : Stands n behind
      s_tail = stand_back q at is_place n l_first.new behind fits.stand

      s_join : Stands n join.new
      s_join = stand_back q at is_place n l_other.new join.new s_tail

      s_other : Stands m l_other.new
      s_other = stand_front q at is_place n l_other.new join.new s_tail

      same : n + length behind ≡ m + length l_other.new
      same = let e = length-append l_other.new join.new in omega (arith, e)

      s_first : Stands (m + length l_other.new) l_first.new
      s_first = subst (λ i. Stands i l_first.new) same (stand_front q at is_place n l_first.new behind fits.stand)

      room : n + length l_first.new + length behind ≤ at.last
      room = let e = length-append l_first.new behind in let h = fits.blocks in omega (arith, e, h)

      goal : join.goal ≤ at.last
      goal = landed_goal q at is_place n (one_block k t) s_join around.behind

      up_other : t ≤ p_other.free
      up_other = piece_free at.scope other exits m t (only_jump join.goal)

      up_first : l_other.free ≤ p_first.free
      up_first = piece_free at.scope first exits (m + length l_other.new) l_other.free (only_jump join.goal)

      up_test : l_first.free ≤ tested_code.free
      up_test = test_free at.scope test l_first.free

      free_other : l_other.free ≡ p_other.free
      free_other = landed_free m p_other

      free_first : l_first.free ≡ p_first.free
      free_first = landed_free (m + length l_other.new) p_first

      around_other : Around at exits t (only_jump join.goal)
      around_other = record { free = around.free; outs = around.outs; behind = goal }

      around_first : Around at exits l_other.free (only_jump join.goal)
      around_first = let h = around.free in record { free = omega (arith, h, up_other, free_other); outs = around.outs; behind = goal }

      fits_other : Fits q at m p_other
      fits_other =
          let registers = fits.registers in
          let a = landed_length m p_other in
          let e = length-append l_other.new join.new in
          record { registers = omega (arith, registers, up_test, up_first, free_other, free_first); blocks = omega (arith, room, a, e); stand = stand_landed q at is_place act m p_other s_other }

      fits_first : Fits q at (m + length l_other.new) p_first
      fits_first =
          let registers = fits.registers in
          let a = landed_length (m + length l_other.new) p_first in
          record { registers = omega (arith, registers, up_test, free_first); blocks = omega (arith, room, a, same); stand = stand_landed q at is_place act (m + length l_other.new) p_first s_first }

      goal_other : l_other.goal ≤ at.last
      goal_other = landed_goal q at is_place m p_other s_other (leads_within q at is_place other exits m t (only_jump join.goal) fits_other.blocks around.outs goal fits_other.stand)

      goal_first : l_first.goal ≤ at.last
      goal_first = landed_goal q at is_place (m + length l_other.new) p_first s_first (leads_within q at is_place first exits (m + length l_other.new) l_other.free (only_jump join.goal) fits_first.blocks around.outs goal fits_first.stand)

      in_other : AllInside m (length p_other.new) p_other.loops
      in_other = loops_inside at.scope other exits m t (only_jump join.goal)

      in_first : AllInside (m + length l_other.new) (length p_first.new) p_first.loops
      in_first = loops_inside at.scope first exits (m + length l_other.new) l_other.free (only_jump join.goal)

      landed_other : AllInside m (length l_other.new) l_other.loops
      landed_other = landed_inside m p_other in_other

      landed_first : AllInside (m + length l_other.new) (length l_first.new) l_first.loops
      landed_first = landed_inside (m + length l_other.new) p_first in_first

      size : ℕ
      size = length (l_first.new ++ behind)

      sizes : size ≡ length l_first.new + length l_other.new + length join.new
      sizes = let a = length-append l_first.new behind in let b = length-append l_other.new join.new in omega (arith, a, b)

      both : AllInside m (length l_other.new + length l_first.new) (l_first.loops ++ l_other.loops)
      both =
          let all = length l_other.new + length l_first.new in
          inside_append m all l_first.loops l_other.loops (inside_wider (m + length l_other.new) (length l_first.new) m all l_first.loops (omega arith) (omega arith) landed_first) (inside_wider m (length l_other.new) m all l_other.loops (omega arith) (omega arith) landed_other)

      x : Extent
      x = record { from = n; count = size; loops = l_first.loops ++ l_other.loops }

      joins : InPart q at (landing q at is_place act n (one_block k t)) x
      joins = in_join q at n t k m (length l_other.new + length l_first.new) size (l_first.loops ++ l_other.loops) (omega arith) (omega (arith, room, same)) (omega (arith, sizes)) both

      of_other : InPart q at (landing q at is_place act m p_other) x
      of_other = in_back q at m (length l_other.new) (m + length l_other.new) (length l_first.new) n size l_other.loops l_first.loops (omega arith) (omega (arith, room, same)) (omega arith) (omega (arith, sizes)) landed_first

      of_first : InPart q at (landing q at is_place act (m + length l_other.new) p_first) x
      of_first = in_front q at (m + length l_other.new) (length l_first.new) m (length l_other.new) n size l_first.loops l_other.loops (omega arith) (omega arith) (omega (arith, sizes)) landed_other

      to_side : (v : ℕ) (b : Bool) → high.value_of act.passed st.variables st.world test ≡ Some v → is_true v ≡ b → Entered q at act (parted tested_code l_first l_other join).first st r → (P : Goer → Type 0) → ((z : Goer) → Meets q at act st None z → z.world.trace ≡ r.world.trace → After q (went_to q z (if b then at.last - l_first.goal else at.last - l_other.goal)) P) → After q (Going r) P
      to_side v b is way h P go =
          let shares = shares_of at.scope (scaled_in at.scope test) l_first.free in
          let u = l_first.free + length shares in
          let d = tested at.scope shares test u in
          let meets = h.meets in
          let size = meets.size in
          let registers = fits.registers in
          let up = tested_free at.scope shares test u in
          let free = around.free in
          let bg = begun at.scope q.claims r.world act.passed st.variables (scaled_in at.scope test) r.top.store l_first.free meets.frame (omega (arith, free, up_other, free_other, up_first, free_first)) (scaled_written at.scope act.passed st.variables st.world test v is) (omega (arith, size, registers, up)) in
          let size1 = bg.size in
          let c = tests at.scope shares q.claims r.world act.passed st.variables st.world meets.world meets.frame.words test v bg.store u wordy is bg.stands (omega (arith, size, size1, registers)) in
          let s2 = c.store in
          let z = runs.behind r [] s2 in
          let stands = stands_after at.scope q.claims act.passed st.variables shares bg.store s2 u u bg.stands c.others (omega arith) in
          let meets_z : Meets q at act st None z = record { function = meets.function; below = meets.below; size = c.size ∙ size1 ∙ size; world = meets.world; frame = stands.frame; marks = meets.marks } in
          steps_to q (length (share_code shares ++ d.code)) (Going r) (Going z) P
          (computed_runs q (share_code shares ++ d.code) [] r s2 (h.code ∙ sym (append-nil (share_code shares ++ d.code))) (computed_then q.claims r.world (share_code shares) d.code r.top.store bg.store s2 bg.does c.does))
          (step_to q (Going z) (went_to q z (if b then at.last - l_first.goal else at.last - l_other.goal)) P
          (branch_step q at is_place act z d.condition d.left d.right (at.last - l_first.goal) (at.last - l_other.goal) c.left c.right refl h.end (has_word s2 d.left c.left c.small_left c.has_left) (has_word s2 d.right c.right c.small_right c.has_right)
          ∙ ap (λ x. went_to q z (if x then at.last - l_first.goal else at.last - l_other.goal)) (c.decides ∙ way))
          (go z meets_z refl))

      by_value : (o : Option ℕ) → high.value_of act.passed st.variables st.world test ≡ o → Is (parted tested_code l_first l_other join).first st so_far r → Goes_on x so_far r k exits (high.with_value o (λ v. high.choose v (high.run Some call act.passed first st) (high.run Some call act.passed other st)))
      by_value None is here = tt
      by_value (Some v) is (Ahead b j e) = let same : code.Branch tested_code.condition tested_code.left tested_code.right l_first.goal l_other.goal ≡ Jump b = ap (λ (b : code.Block ℕ Note). b.end) j in cc
      by_value (Some zero) is (Inside h began) =
          let y = landing q at is_place act m p_other in
          let side : After q (Going r) (Reached q at act y so_far (Here q at act p_other.first st)) =
          to_side zero false is refl h (Reached q at act y so_far (Here q at act p_other.first st))
          (λ z meets e. subst (λ a. After q (went_to q z (at.last - l_other.goal)) (Reached q at act y a (Here q at act p_other.first st))) (e ∙ began) (arrives q at is_place act m p_other st z in_other goal_other s_other meets)) in
          to_join q at is_place act x n t k goal s_join joins exits so_far r (high.run Some call act.passed other st)
          (does_in q at act y x so_far (Going r) (only_jump join.goal) exits (high.run Some call act.passed other st) of_other
          (then_ends q at act y so_far (Going r) (Here q at act p_other.first st) (only_jump join.goal) exits (high.run Some call act.passed other st) side
          (λ u z a. does_in q at act (whole m p_other) y u (Going z) (only_jump join.goal) exits (high.run Some call act.passed other st) (in_landed q at m p_other) (g exits m t (only_jump join.goal) st u z around_other fits_other a))))
      by_value (Some (suc v)) is (Inside h began) =
          let y = landing q at is_place act (m + length l_other.new) p_first in
          let side : After q (Going r) (Reached q at act y so_far (Here q at act p_first.first st)) =
          to_side (suc v) true is (is_true_suc v) h (Reached q at act y so_far (Here q at act p_first.first st))
          (λ z meets e. subst (λ a. After q (went_to q z (at.last - l_first.goal)) (Reached q at act y a (Here q at act p_first.first st))) (e ∙ began) (arrives q at is_place act (m + length l_other.new) p_first st z in_first goal_first s_first meets)) in
          to_join q at is_place act x n t k goal s_join joins exits so_far r (high.run Some call act.passed first st)
          (does_in q at act y x so_far (Going r) (only_jump join.goal) exits (high.run Some call act.passed first st) of_first
          (then_ends q at act y so_far (Going r) (Here q at act p_first.first st) (only_jump join.goal) exits (high.run Some call act.passed first st) side
          (λ u z a. does_in q at act (whole (m + length l_other.new) p_first) y u (Going z) (only_jump join.goal) exits (high.run Some call act.passed first st) (in_landed q at (m + length l_other.new) p_first) (f exits (m + length l_other.new) l_other.free (only_jump join.goal) st u z around_first fits_first a))))
