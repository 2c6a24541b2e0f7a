-- Statements that are code alone.
use Rattle.std.proofs.Common.{◌≡◌, ◌≢◌, ℕ, suc, ◌+◌, ◌%◌, ◌^◌, ◌<◌, ◌≤◌, Bool, List, [], ◌∷◌, ◌++◌, length, Option, Some, None, refl, sym, ap, ◌∙◌, subst, ⊎_elim, arith, get_or-set_same, get_or-set_other, length-set}
use Rattle.std.specs.Prelude.{slice_get, slice_index_or, slice_set}
use Rattle.std.proofs.lemmas.Bool.{cases_eq}
use Rattle.std.proofs.lemmas.List.{append-nil}
use Rattle.std.proofs.lemmas.Option.{same_Some, slice_get_within}
use Rattle.high_ir.specs.Meaning as high
use Rattle.high_ir.specs.Meaning.{Outcome}
use Rattle.high_ir.specs.Tree.{Expr}
use Rattle.high_ir.specs.Whole.{IsWordy}
use Rattle.low_ir.specs.declared.run.Began.{Began}
use Rattle.low_ir.specs.declared.run.Value.TheVariants.{Word}
use Rattle.low_ir.specs.Code.{Operand, End, Jump, Block, Do, Put, Get, Low, Note}
use Rattle.low_ir.specs.Effects.{effect_of, put, got, next_byte, after_byte}
use Rattle.low_ir.specs.Formed.{only_jump}
use Rattle.low_ir.specs.Runs.{Going, Bank, virtual, operand_value, values_cons, goes_on, finish, at_code, step}
use Rattle.lower_definition.specs.Operators.{Code, only}
use Rattle.lower_definition.specs.Values.{Scope, Coded, first_free, pointer, operand, value_into, scaled_in, share_code}
use Rattle.lower_definition.specs.Statements.{before, before_by, block, sharing, shares_of, put_code}
use Rattle.lower_values.specs.Computing.{computed}
use Rattle.lower_values.proofs.Writing.{has_word, write_inside}
use Rattle.lower_nesting.specs.Segments.{Quiet}
use Rattle.lower_nesting.proofs.Pieces.{part_quiet}
use Rattle.lower_nesting.proofs.Quiets.{quiet_nothing}
use Rattle.lower_values.specs.Meeting.{MeetsFrame, MeetsWorld}
use Rattle.lower_values.proofs.Elements.{index_within}
use Rattle.lower_values.proofs.Standing.{stands_after, computed_then}
use Rattle.lower_values.proofs.Values.{works, grows, operand_found, operand_free}
use Rattle.lower_values.proofs.Shares.{begun, scaled_written}
use Rattle.lower_program.specs.Following.{Goer, Place, IsPlace, Activation, After, Extent, Stand, Meets, Begun, Here, Inside, Ahead, Onward, Reached, extent}
use Rattle.lower_program.proofs.Steps.{after_map, now, and_then, step_to, steps_to, computed_runs}
use Rattle.lower_program.proofs.Steps as steps
use Rattle.lower_program.proofs.Parts.{part_of_two}
use Rattle.lower_program.proofs.Jumps.{enters, jump_step, stand_one}

-- a frame with a variable written
pub frame_set : (scope : Scope) (claims : List (List ℕ)) (passed : List ℕ) (vars : high.Variables) (s s2 : Bank) (x v : ℕ) → MeetsFrame scope claims passed vars s → x < length vars → v < 2 ^ 32 → slice_index_or s2 x None ≡ Some (Word v) → ((q : ℕ) → q < first_free scope → q ≢ x → slice_index_or s2 q None ≡ slice_index_or s q None) → MeetsFrame scope claims passed (slice_set vars x (Some v)) s2
frame_set scope claims passed vars s s2 x v h inside small new others =
    let count = h.count in
    record {
      variables = λ y z e. ⊎_elim
          (λ (same : y ≡ x).
          let is : Some v ≡ Some z = sym (get_or-set_same vars x (Some v) None inside) ∙ ap (λ i. slice_index_or (slice_set vars x (Some v)) i None) (sym same) ∙ e in
          ap (λ i. slice_index_or s2 i None) same ∙ new ∙ ap (λ m. Some (Word m)) (same_Some v z is))
          (λ (other : y ≢ x).
          let was : slice_index_or vars y None ≡ Some z = sym (get_or-set_other vars x y (Some v) None other) ∙ e in
          let within = index_within vars y z was in
          others y (omega (arith, within, count)) other ∙ h.variables y z was)
          (cases_eq y x);
      words = λ y z e. ⊎_elim
          (λ (same : y ≡ x).
          let is : Some v ≡ Some z = sym (get_or-set_same vars x (Some v) None inside) ∙ ap (λ i. slice_index_or (slice_set vars x (Some v)) i None) (sym same) ∙ e in
          subst (λ n. n < 2 ^ 32) (same_Some v z is) small)
          (λ (other : y ≢ x). h.words y z (sym (get_or-set_other vars x y (Some v) None other) ∙ e))
          (cases_eq y x);
      count = length-set vars x (Some v) ∙ count;
      arrays = h.arrays;
      pointers = λ j o e.
          let p = h.pointers j o e in
          let within = slice_get_within passed j o e in
          let arrays = h.arrays in
          record { held = others (pointer scope j) (omega (arith, within, arrays)) (λ d. omega (arith, d, inside, count)) ∙ p.held; claimed = p.claimed };
    }

module _ (q : Low) (at : Place) (is_place : IsPlace q at) (act : Activation) where
  -- code that some state is behind
  abbrev pub Passes : Code → high.State → high.State → Type 0
  Passes code st st2 = (rest : Code) (r : Goer) → Meets q at act st None r → r.top.code ≡ code ++ rest → After q (Going r) (Onward q at act st2 rest r)

  not_only_jump : (code more : Code) (end : End ℕ) (n : ℕ) → code ≢ [] → block (code ++ more) end ≢ only_jump n
  not_only_jump [] more end n some e = some refl
  not_only_jump (i ∷ is) more end n some e = let same : i ∷ (is ++ more) ≡ [] = ap (λ (b : Block ℕ Note). b.code) e in cc

  abbrev pub before_extent : ℕ → Block ℕ Note → Coded → Extent
  before_extent n k c = extent n (before n k c).new (before n k c).loops

  -- code before a block, and then that block
  pub before_goes : (n : ℕ) (k : Block ℕ Note) (c : Coded) (st st2 : high.State) (so_far : List Began) (r : Goer) → c.code ≢ [] → Passes c.code st st2 → n ≤ at.last → Stand q at n (before n k c).new → Here q at act (before n k c).first st so_far r → After q (Going r) (Reached q at act (before_extent n k c) so_far (Here q at act k st2))
  before_goes n k c st st2 so_far r some passes within stand here = by_mark k.mark refl stand here
    where
      by_mark : (m : Option ℕ) → k.mark ≡ m → Stand q at n (before_by m c.code n k c.free).new → Here q at act (before_by m c.code n k c.free).first st so_far r → After q (Going r) (Reached q at act (extent n (before_by m c.code n k c.free).new (before_by m c.code n k c.free).loops) so_far (Here q at act k st2))
      by_mark None e stand (Ahead b jumps begun) = absurd (not_only_jump c.code k.code k.end b some jumps)
      by_mark None e stand (Inside h t) =
          and_then q (Going r) (Onward q at act st2 k.code r) (Reached q at act (extent n [] []) so_far (Here q at act k st2)) (passes k.code r h.meets h.code)
          (λ z o. now q z (Reached q at act (extent n [] []) so_far (Here q at act k st2)) (record {
            now = z.world.trace;
            part = part_quiet at.number at.last q n 0 [] so_far z.world.trace (subst (λ a. Quiet q at.number a z.world.trace) t o.quiet);
            holds = Inside (record { meets = subst (λ m. Meets q at act st2 m z) (sym e) o.meets; code = o.code; end = o.end ∙ h.end }) refl;
          }))
      by_mark (Some m) e stand (Ahead b jumps begun) = absurd (not_only_jump c.code [] (Jump n) b some (ap (λ x. block x (Jump n)) (append-nil c.code) ∙ jumps))
      by_mark (Some m) e stand (Inside h t) =
          let x : Extent = extent n (k ∷ []) [] in
          and_then q (Going r) (Onward q at act st2 [] r) (Reached q at act x so_far (Here q at act k st2)) (passes [] r h.meets (h.code ∙ sym (append-nil c.code)))
          (λ z o. after_map q (Going z) (Begun q at act n st2 z.world.trace) (Reached q at act x so_far (Here q at act k st2)) (jump_step q at is_place act st2 n z within o.meets o.code (o.end ∙ h.end))
          (λ y b.
          let g = enters q at is_place act x n st2 k z.world.trace y (omega arith) (omega arith) tt (stand_one q at is_place n k stand) b in
          let quiet = part_quiet at.number at.last q n 1 [] so_far z.world.trace (subst (λ a. Quiet q at.number a z.world.trace) t o.quiet) in
          record { now = g.now; part = part_of_two q at x so_far z.world.trace g.now quiet g.part; holds = g.holds }))

  -- code that computes, and then leaves a frame
  pub computes : (code rest : Code) (st st2 : high.State) (r : Goer) (s : Bank) → Meets q at act st None r → r.top.code ≡ code ++ rest → computed q.claims r.world code r.top.store ≡ Some s → length s ≡ length r.top.store → st2.world ≡ st.world → st2.trace ≡ st.trace → MeetsFrame at.scope q.claims act.passed st2.variables s → After q (Going r) (Onward q at act st2 rest r)
  computes code rest st st2 r s h e does size world trace frame =
      let z = steps.behind r rest s in
      steps_to q (length code) (Going r) (Going z) (Onward q at act st2 rest r) (computed_runs q code rest r s e does)
      (now q z (Onward q at act st2 rest r) (record {
        meets = record {
          function = h.function;
          below = h.below;
          size = size ∙ h.size;
          world = subst (λ w. MeetsWorld at.scope w r.world) (sym world) h.world;
          frame = frame;
          marks = h.marks ∙ ap (λ t. t ++ []) (sym trace);
        };
        code = refl;
        end = refl;
        quiet = quiet_nothing q at.number r.world.trace;
      }))

  -- a set variable
  abbrev pub set_state : high.State → ℕ → ℕ → high.State
  set_state st x v = record { variables = slice_set st.variables x (Some v); world = st.world; trace = st.trace }

  abbrev pub set_by : high.State → ℕ → ℕ → Bool → Outcome
  set_by st x v b = high.with_value (high.only_if b (Some (slice_set st.variables x (Some v)))) (high.set_variables st)

  abbrev pub set_inner : ℕ → Expr → ℕ → Coded
  set_inner x e t = sharing at.scope t (shares_of at.scope (scaled_in at.scope e) t) (λ shares u. value_into at.scope shares e x u)

  pub set_passes : (x : ℕ) (e : Expr) (t v : ℕ) (st : high.State) → IsWordy e → first_free at.scope ≤ t → high.value_of act.passed st.variables st.world e ≡ Some v → x < length st.variables → (set_inner x e t).free ≤ at.code.size → Passes (set_inner x e t).code st (set_state st x v)
  set_passes x e t v st wordy free is inside room rest r h code =
      let scope = at.scope in
      let shares = shares_of scope (scaled_in scope e) t in
      let u = t + length shares in
      let c = value_into scope shares e x u in
      let size = h.size in
      let count = h.frame.count in
      let g = grows scope shares e in
      let up = g.into x u in
      let b = begun scope q.claims r.world act.passed st.variables (scaled_in scope e) r.top.store t h.frame free (scaled_written scope act.passed st.variables st.world e v is) (omega (arith, size, room, up)) in
      let s1 = b.store in
      let size1 = b.size in
      let k = works scope shares q.claims r.world act.passed st.variables st.world h.world e wordy v h.frame.words is in
      let p = k.into s1 x u b.stands (omega (arith, inside, count, free)) (omega (arith, size, size1, room)) in
      computes (share_code shares ++ c.code) rest st (set_state st x v) r p.store h code
      (computed_then q.claims r.world (share_code shares) c.code r.top.store s1 p.store b.does p.does) (p.size ∙ size1) refl refl
      (frame_set scope q.claims act.passed st.variables r.top.store p.store x v h.frame inside k.small p.value
      (λ i low other. p.others i (omega (arith, low, free)) other ∙ b.others i (omega (arith, low, free))))

  abbrev pub put_state : high.State → ℕ → high.State
  put_state st v = record { variables = st.variables; world = high.put st.world v; trace = st.trace }

  put_step : (z : Goer) (rest : Code) (x : Operand ℕ) (v : ℕ) → z.top.code ≡ Do (Put x) ∷ rest → operand_value virtual z.top.store x ≡ Some (Word v) → step virtual q (Going z) ≡ Going (record z { top = record z.top { code = rest; store = z.top.store }; world = put z.world v })
  put_step z rest x v code e =
      ap (at_code virtual q z) code
      ∙ ap (λ o. finish virtual z rest None (effect_of q.claims (Put x) (values_cons o (Some [])) z.world)) e

  pub put_passes : (e : Expr) (t v : ℕ) (st : high.State) → IsWordy e → first_free at.scope ≤ t → high.value_of act.passed st.variables st.world e ≡ Some v → (put_code at.scope e t).free ≤ at.code.size → Passes (put_code at.scope e t).code st (put_state st v)
  put_passes e t v st wordy free is room rest r h code =
      let scope = at.scope in
      let shares = shares_of scope (scaled_in scope e) t in
      let u = t + length shares in
      let x = operand scope shares e u in
      let size = h.size in
      let up = operand_free scope shares e u in
      let b = begun scope q.claims r.world act.passed st.variables (scaled_in scope e) r.top.store t h.frame free (scaled_written scope act.passed st.variables st.world e v is) (omega (arith, size, room, up)) in
      let s1 = b.store in
      let size1 = b.size in
      let k = works scope shares q.claims r.world act.passed st.variables st.world h.world e wordy v h.frame.words is in
      let f = operand_found scope shares q.claims r.world act.passed st.variables st.world h.world e v s1 u is k b.stands (omega (arith, size, size1, room)) in
      let s2 = f.finds.store in
      let z = steps.behind r (Do (Put x.value) ∷ rest) s2 in
      let y : Goer = record z { top = record z.top { code = rest; store = s2 }; world = put r.world v } in
      let frame = stands_after scope q.claims act.passed st.variables shares s1 s2 u u b.stands f.finds.others (omega arith) in
      steps_to q (length (share_code shares ++ x.code)) (Going r) (Going z) (Onward q at act (put_state st v) rest r)
      (computed_runs q (share_code shares ++ x.code) (Do (Put x.value) ∷ rest) r s2 (code ∙ steps.three (share_code shares) x.code (only (Do (Put x.value))) rest)
      (computed_then q.claims r.world (share_code shares) x.code r.top.store s1 s2 b.does f.finds.does))
      (step_to q (Going z) (Going y) (Onward q at act (put_state st v) rest r) (put_step z rest x.value v refl (has_word s2 x.value v k.small f.finds.value))
      (now q y (Onward q at act (put_state st v) rest r) (record {
        meets = record {
          function = h.function;
          below = h.below;
          size = f.finds.size ∙ size1 ∙ h.size;
          world = record { objects = h.world.objects; count = h.world.count; sound = h.world.sound; input = h.world.input; input_words = h.world.input_words; output = ap (λ o. o ++ v % 256 ∷ []) h.world.output };
          frame = frame.frame;
          marks = h.marks;
        };
        code = refl;
        end = refl;
        quiet = quiet_nothing q at.number r.world.trace;
      })))

  -- a byte of the input
  abbrev pub get_state : high.State → ℕ → high.State
  get_state st x = record { variables = slice_set st.variables x (Some (high.next_byte st.world.input)); world = high.got st.world; trace = st.trace }

  next_small : (input : List ℕ) → ((i b : ℕ) → slice_get input i ≡ Some b → b < 2 ^ 32) → high.next_byte input < 2 ^ 32
  next_small [] h = omega arith
  next_small (c ∷ rest) h = h 0 c refl

  after_small : (input : List ℕ) → ((i b : ℕ) → slice_get input i ≡ Some b → b < 2 ^ 32) → (i b : ℕ) → slice_get (high.after_byte input) i ≡ Some b → b < 2 ^ 32
  after_small [] h i b e = h i b e
  after_small (c ∷ rest) h i b e = h (suc i) b e

  next_same : (input : List ℕ) → next_byte input ≡ high.next_byte input
  next_same [] = refl
  next_same (c ∷ rest) = refl

  after_same : (input : List ℕ) → after_byte input ≡ high.after_byte input
  after_same [] = refl
  after_same (c ∷ rest) = refl

  pub get_passes : (x : ℕ) (st : high.State) → x < length st.variables → first_free at.scope ≤ at.code.size → Passes (only (Do (Get x))) st (get_state st x)
  get_passes x st inside room rest r h code =
      let count = h.frame.count in
      let size = h.size in
      let low : x < length r.top.store = omega (arith, inside, count, size, room) in
      let v = high.next_byte st.world.input in
      let is : next_byte r.world.input ≡ v = ap next_byte h.world.input ∙ next_same st.world.input in
      let s2 = slice_set r.top.store x (Some (Word v)) in
      let y : Goer = record r { top = record r.top { code = rest; store = s2 }; world = got r.world } in
      step_to q (Going r) (Going y) (Onward q at act (get_state st x) rest r)
      (ap (at_code virtual q r) code ∙ ap (λ n. goes_on r rest (got r.world) (virtual.write r.top.store x (Word n))) is ∙ ap (goes_on r rest (got r.world)) (write_inside r.top.store x (Word v) low))
      (now q y (Onward q at act (get_state st x) rest r) (record {
        meets = record {
          function = h.function;
          below = h.below;
          size = length-set r.top.store x (Some (Word v)) ∙ size;
          world = record { objects = h.world.objects; count = h.world.count; sound = h.world.sound; input = ap after_byte h.world.input ∙ after_same st.world.input; input_words = after_small st.world.input h.world.input_words; output = h.world.output };
          frame = frame_set at.scope q.claims act.passed st.variables r.top.store s2 x v h.frame inside (next_small st.world.input h.world.input_words) (get_or-set_same r.top.store x (Some (Word v)) None low) (λ i below other. get_or-set_other r.top.store x i (Some (Word v)) None other);
          marks = h.marks;
        };
        code = refl;
        end = refl;
        quiet = quiet_nothing q at.number r.world.trace;
      }))
