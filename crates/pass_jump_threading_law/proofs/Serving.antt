-- The run on shorter ways follows the run of the program, step by step; it waits where the program passes a block.
use Rattle.std.proofs.Common.{◌≡◌, ◌≢◌, ◌⊎◌, ℕ, zero, suc, ◌+◌, Bool, true, false, not, List, [], ◌∷◌, ◌++◌, Option, Some, None, refl, sym, ap, ◌∙◌, subst, ⊎_elim, inl, inr, arith}
use Rattle.std.specs.Prelude.{All, if◌then◌else◌, nat_lt, slice_get, slice_index_or, ◌==◌}
use Rattle.std.proofs.lemmas.Bool.{eqb-true}
use Rattle.rv_core.specs.declared.row.Condition.{Condition}
use Rattle.rv_core.specs.declared.row.Condition.TheVariants.{AtLeast, AtLeastUnsigned, Equal, Less, LessUnsigned, NotEqual}
use Rattle.rv_core.specs.Arithmetic.{holds}
use Rattle.low_ir.specs.Code.{Operand, Register, Constant, Plain, Do, Call, End, Jump, Branch, Return, Block, Low, Note}
use Rattle.low_ir.specs.declared.run.Began.{Began}
use Rattle.low_ir.specs.declared.run.Value.{Value}
use Rattle.low_ir.specs.declared.run.Value.TheVariants.{Word, Pointer}
use Rattle.low_ir.specs.Effects.{World, Did, start, reads, dest, effect_of, began}
use Rattle.low_ir.specs.Runs.{Going, Done, Bad, Bank, operand_value, values, write_to, goes_on, finish, enter, block_in, went_to, write_all, begin, only_where, waiting, call, at_instr, come_back, give_back, chosen, branches, at_end, at_code, step, run, first, first_in, lrun, virtual}
use Rattle.low_ir.specs.Turns.{IsGood, mark_at, mark_in}
use Rattle.pass_jump_threading_law.specs.Known.{Becomes, Code, Equals, Known, Knows, Tells, decided, goal, tells, word_of, word_written}
use Rattle.pass_jump_threading_law.specs.Threads.{Comes, EndThreaded, IsThreaded, Parts, Passes, Plan, Settles, Stays}
use Rattle.pass_jump_threading_law.specs.Laws.{RunsOn}
use Rattle.pass_jump_threading_law.proofs.Effects.{did_traced, effects_traced, trace_kept, traced}
use Rattle.pass_jump_threading_law.proofs.Numbers.{inside_at, left_at, some_same}
use Rattle.pass_jump_threading_law.proofs.Stores.{Shows, did_known, fewer_shows, word_shown, written_shows}
use Rattle.pass_jump_threading_law.proofs.Traces.{IsWithinBlocks, LowFunction, Shorter, Two, both, loops_kept, marks_kept, skip, two, two_is}
use Rattle.low_parts.proofs.Runs.{LowRun, LowRunning, LowWaiting, run_more}

-- an activation with nothing left of its block
abbrev resting : ℕ → Bank → List LowWaiting → World → LowRunning
resting f s ws u = record { top = record { func = f; code = []; end = Jump 0; store = s }; below = ws; world = u }

-- the same activation with another end of its block, other activations below it and another trace
abbrev other : LowRunning → End ℕ → List LowWaiting → List Began → LowRunning
other r end ws t = record { top = record { func = r.top.func; code = r.top.code; end = end; store = r.top.store }; below = ws; world = traced r.world t }

-- where a jump goes depends on nothing but the function, the store and the world
enter_rests : (r : LowRunning) (end : End ℕ) (ws : List LowWaiting) (t : List Began) (b : ℕ) (o : Option (Block ℕ Note)) → enter (other r end ws t) b o ≡ enter (resting r.top.func r.top.store ws (traced r.world t)) b o
enter_rests r end ws t b None = refl
enter_rests r end ws t b (Some block) = refl

goes_rests : (q : Low) (r : LowRunning) (end : End ℕ) (ws : List LowWaiting) (t : List Began) (b : ℕ) → went_to q (other r end ws t) b ≡ went_to q (resting r.top.func r.top.store ws (traced r.world t)) b
goes_rests q r end ws t b = enter_rests r end ws t b (block_in (slice_get q.functions r.top.func) b)

-- an end goes where it is known to go
goal_goes : (p : Low) (r : LowRunning) (known : Known) → Shows known r.top.store → (end : End ℕ) (b : ℕ) → goal known end ≡ Some b → at_end virtual p r end ≡ went_to p r b
goal_goes p r known h (Jump c) b e = ap (went_to p r) (some_same c b e)
goal_goes p r known h (Return x) b e = cc
goal_goes p r known h (Branch c x y taken else_to) b e = by_words (word_of known x) (word_of known y) refl refl e
  where
    by_words : (o1 o2 : Option ℕ) → word_of known x ≡ o1 → word_of known y ≡ o2 → decided c taken else_to o1 o2 ≡ Some b → at_end virtual p r (Branch c x y taken else_to) ≡ went_to p r b
    by_words None o2 e1 e2 d = cc
    by_words (Some m) None e1 e2 d = cc
    by_words (Some m) (Some n) e1 e2 d =
        ap (λ o. branches p r (chosen c taken else_to o (operand_value virtual r.top.store y))) (word_shown known r.top.store h x m e1)
        ∙ ap (λ o. branches p r (chosen c taken else_to (Some (Word m)) o)) (word_shown known r.top.store h y n e2)
        ∙ ap (went_to p r) (some_same (if holds c m n then taken else else_to) b d)

-- what a branch tells
equal_told : (c : Condition) (b : Bool) (m n : ℕ) → holds c m n ≡ b → tells c b ≡ true → m ≡ n
unfolding holds
equal_told Equal true m n h t = eqb-true m n h
equal_told Equal false m n h t = cc
equal_told NotEqual true m n h t = cc
equal_told NotEqual false m n h t = eqb-true m n (by_test (m == n) refl h)
  where
    by_test : (x : Bool) → (m == n) ≡ x → not x ≡ false → (m == n) ≡ true
    by_test true e k = e
    by_test false e k = cc
equal_told Less b m n h t = cc
equal_told AtLeast b m n h t = cc
equal_told LessUnsigned b m n h t = cc
equal_told AtLeastUnsigned b m n h t = cc

word_same : (m n : ℕ) → Some (Word m) ≡ Some (Word n) → m ≡ n
word_same m n e = cc

told_equals : (known : Known) (s : Bank) (x y : Operand ℕ) (m n : ℕ) → Shows known s → operand_value virtual s x ≡ Some (Word m) → operand_value virtual s y ≡ Some (Word n) → m ≡ n → (r w : ℕ) → Equals known x y r w → virtual.read s r ≡ Some (Word w)
told_equals known s (Register d) y m n h ex ey same r w e =
    let value = word_shown known s h y w e.1 in
    ap (virtual.read s) e.0 ∙ ex ∙ ap (λ k. Some (Word k)) (same ∙ word_same n w (sym ey ∙ value))
told_equals known s (Constant c) y m n h ex ey same r w e = absurd e

told_shows : (known now : Known) (s : Bank) (c : Condition) (x y : Operand ℕ) (b : Bool) (m n : ℕ) → Shows known s → operand_value virtual s x ≡ Some (Word m) → operand_value virtual s y ≡ Some (Word n) → holds c m n ≡ b → Tells known c x y b now → Shows now s
told_shows known now s c x y b m n h ex ey test told r w e =
    ⊎_elim
    (λ (old : known r ≡ Some w). h r w old)
    (λ (new : (tells c b ≡ true) × Equals known x y r w). told_equals known s x y m n h ex ey (equal_told c b m n test new.0) r w new.1)
    (told r w e)

module _ (p q : Low) (threaded : IsThreaded p q) where
  -- the activation on top; what is known, and what at the end of its block
  record Top (func : ℕ) (code : Code) (end : End ℕ) (store : Bank) (end2 : End ℕ) : Type 0 where
    two : Two p q threaded func
    known : Known
    out : Known
    shows : Shows known store
    knows : Knows known code out
    ends : EndThreaded two.fn two.same.plan out end end2

  -- an activation that waits
  record Pending (w u : LowWaiting) : Type 0 where
    two : Two p q threaded w.frame.func
    known : Known
    now : Known
    out : Known
    end : End ℕ
    is : u ≡ record { frame = record { func = w.frame.func; code = w.frame.code; end = end; store = w.frame.store }; into = w.into }
    shows : Shows known w.frame.store
    becomes : (r n : ℕ) → now r ≡ Some n → ((w.into ≡ Some r) × (None ≡ Some n)) ⊎ ((w.into ≢ Some r) × (known r ≡ Some n))
    knows : Knows now w.frame.code out
    ends : EndThreaded two.fn two.same.plan out w.frame.end end

  abbrev Waits : List LowWaiting → List LowWaiting → Type 0
  Waits [] [] = Unit {0}
  Waits [] (u ∷ us) = ⊥
  Waits (w ∷ ws) [] = ⊥
  Waits (w ∷ ws) (u ∷ us) = Pending w u × Waits ws us

  -- both are at the same place
  record Rel (r : LowRunning) (s : LowRun) : Type 0 where
    end : End ℕ
    below : List LowWaiting
    trace : List Began
    is : s ≡ Going (other r end below trace)
    top : Top r.top.func r.top.code r.top.end r.top.store end
    waits : Waits r.below below
    shorter : Shorter p q threaded r.world.trace trace

  -- the program is in a block that is passed, and the other is about to go to where that leads
  record Passing (r : LowRunning) (s : LowRun) : Type 0 where
    two : Two p q threaded r.top.func
    known : Known
    next : ℕ
    past : ℕ
    old : ℕ
    block : ℕ
    below : List LowWaiting
    trace : List Began
    code : r.top.code ≡ []
    shows : Shows known r.top.store
    goes : goal known r.top.end ≡ Some next
    comes : Comes two.fn known past next old
    named : two.same.plan.name old ≡ Some block
    begins : Shows (two.same.plan.at old) r.top.store
    moves : step virtual q s ≡ went_to q (resting r.top.func r.top.store below (traced r.world trace)) block
    waits : Waits r.below below
    shorter : Shorter p q threaded r.world.trace trace

  record Ended (v : ℕ) (u : World) (s : LowRun) : Type 0 where
    trace : List Began
    is : s ≡ Done v (traced u trace)
    shorter : Shorter p q threaded u.trace trace

  abbrev Serves : LowRun → LowRun → Type 0
  Serves (Going r) s = Rel r s ⊎ Passing r s
  Serves (Done v u) s = Ended v u s
  Serves Bad s = Unit {0}

  -- after some steps
  record Later (r s : LowRun) : Type 0 where
    steps : ℕ
    serves : Serves r (run virtual q steps s)

  at_once : (r s t : LowRun) → s ≡ t → Serves r t → Serves r s
  at_once r s t e h = subst (λ x. Serves r x) (sym e) h

  one_step : (r s : LowRun) → Serves r (step virtual q s) → Later r s
  one_step r s h = record { steps = 1; serves = h }

  mark_there : (l : Low) (f b : ℕ) (fn : LowFunction) (bl : Block ℕ Note) → slice_get l.functions f ≡ Some fn → slice_get fn.blocks b ≡ Some bl → mark_at l (record { function = f; block = b }) ≡ bl.mark
  mark_there l f b fn bl e e2 = ap (λ o. mark_in (block_in o b)) e ∙ ap mark_in e2

  -- a block that is left is entered
  enter_serves : (r : LowRunning) (ws : List LowWaiting) (t : List Began) (b c : ℕ) (w : Two p q threaded r.top.func) → w.same.plan.name b ≡ Some c → Shows (w.same.plan.at b) r.top.store → Waits r.below ws → Shorter p q threaded r.world.trace t → (o : Option (Block ℕ Note)) → slice_get w.fn.blocks b ≡ o → Serves (enter r b o) (enter (resting r.top.func r.top.store ws (traced r.world t)) c (slice_get w.gn.blocks c))
  enter_serves r ws t b c w named shows waits shorter None e = tt
  enter_serves r ws t b c w named shows waits shorter (Some bl) e =
      let k = left_at w.fn w.same.plan w.fn.blocks 0 0 w.gn.blocks w.same.blocks b b c bl (omega arith) e named in
      let is : c ≡ 0 + k.place = k.is in
      let place : k.place ≡ c = omega (arith, is) in
      let there : slice_get w.gn.blocks c ≡ Some k.it = subst (λ n. slice_get w.gn.blocks n ≡ Some k.it) place k.there in
      let f = r.top.func in
      inl (record {
        end = k.it.end;
        below = ws;
        trace = t ++ record { function = f; block = c } ∷ [];
        is = ap (enter (resting f r.top.store ws (traced r.world t)) c) there
            ∙ ap (λ code. Going (record { top = record { func = f; code = code; end = k.it.end; store = r.top.store }; below = ws; world = began (traced r.world t) f c })) k.same.code;
        top = record { two = w; known = w.same.plan.at b; out = k.same.out; shows = shows; knows = k.same.knows; ends = k.same.end };
        waits = waits;
        shorter = both p q threaded r.world.trace t (record { function = f; block = b }) (record { function = f; block = c }) shorter (record {
          function = refl;
          named = ap (λ (pl : Plan). pl.name b) (sym w.planned) ∙ named;
          fn = w.fn;
          there = w.there;
          inside = inside_at w.fn.blocks b bl e;
          mark = mark_there q f c w.gn k.it w.other there ∙ k.same.mark ∙ sym (mark_there p f b w.fn bl w.there e);
        });
      })

  jump_serves : (r : LowRunning) (ws : List LowWaiting) (t : List Began) (b c : ℕ) (w : Two p q threaded r.top.func) → w.same.plan.name b ≡ Some c → Shows (w.same.plan.at b) r.top.store → Waits r.below ws → Shorter p q threaded r.world.trace t → Serves (went_to p r b) (went_to q (resting r.top.func r.top.store ws (traced r.world t)) c)
  jump_serves r ws t b c w named shows waits shorter =
      let s = resting r.top.func r.top.store ws (traced r.world t) in
      subst (λ o. Serves (enter r b (block_in o b)) (went_to q s c)) (sym w.there)
      (at_once (enter r b (slice_get w.fn.blocks b)) (went_to q s c) (enter s c (slice_get w.gn.blocks c)) (ap (λ o. enter s c (block_in o c)) w.other)
      (enter_serves r ws t b c w named shows waits shorter (slice_get w.fn.blocks b) refl))

  -- a block is entered that leads to one that is left
  arrives : (r : LowRunning) (s : LowRun) (ws : List LowWaiting) (t : List Began) (w : Two p q threaded r.top.func) (known : Known) → Shows known r.top.store → (n b old c : ℕ) → Comes w.fn known n b old → w.same.plan.name old ≡ Some c → Shows (w.same.plan.at old) r.top.store → step virtual q s ≡ went_to q (resting r.top.func r.top.store ws (traced r.world t)) c → Waits r.below ws → Shorter p q threaded r.world.trace t → Later (went_to p r b) s
  arrives r s ws t w known shows zero b old c comes named begins moves waits shorter =
      one_step (went_to p r b) s (at_once (went_to p r b) (step virtual q s) _ moves
      (jump_serves r ws t b c w (ap w.same.plan.name comes ∙ named) (subst (λ n. Shows (w.same.plan.at n) r.top.store) (sym comes) begins) waits shorter))
  arrives r s ws t w known shows (suc n) b old c comes named begins moves waits shorter =
      let k : Passes w.fn known b comes.0 = comes.1 in
      record {
        steps = 0;
        serves = subst (λ o. Serves (enter r b (block_in o b)) s) (sym w.there)
            (subst (λ o. Serves (enter r b o) s) (sym k.there)
            (inr (record {
              two = w;
              known = known;
              next = comes.0;
              past = n;
              old = old;
              block = c;
              below = ws;
              trace = t;
              code = k.code;
              shows = shows;
              goes = k.goes;
              comes = comes.2;
              named = named;
              begins = begins;
              moves = moves;
              waits = waits;
              shorter = skip p q threaded r.world.trace t (record { function = r.top.func; block = b }) shorter (record {
                fn = w.fn;
                there = w.there;
                apart = k.apart;
                mark = mark_there p r.top.func b w.fn k.block w.there k.there ∙ k.mark;
              });
            })));
      }

  -- a step in a block that is passed
  passing_serves : (r : LowRunning) (s : LowRun) → Passing r s → Later (at_code virtual p r r.top.code) s
  passing_serves r s k =
      subst (λ x. Later x s) (sym (ap (at_code virtual p r) k.code ∙ goal_goes p r k.known k.shows r.top.end k.next k.goes))
      (arrives r s k.below k.trace k.two k.known k.shows k.past k.next k.old k.block k.comes k.named k.begins k.moves k.waits k.shorter)

  -- a function is entered with these arguments
  begin_serves : (ws us : List LowWaiting) (u : World) (t : List Began) (f : ℕ) (w : Two p q threaded f) (xs : List Value) → Waits ws us → Shorter p q threaded u.trace t → (o : Option Bank) → write_all virtual (Some (virtual.empty w.fn.size)) w.fn.parameters xs ≡ o → Serves (begin ws u f w.fn o) (begin us (traced u t) f w.gn (write_all virtual (Some (virtual.empty w.gn.size)) w.gn.parameters xs))
  begin_serves ws us u t f w xs waits shorter None e = tt
  begin_serves ws us u t f w xs waits shorter (Some s) e =
      at_once (begin ws u f w.fn (Some s)) _ _
      (ap (λ n. begin us (traced u t) f w.gn (write_all virtual (Some (virtual.empty n)) w.gn.parameters xs)) w.same.size
      ∙ ap (λ rs. begin us (traced u t) f w.gn (write_all virtual (Some (virtual.empty w.fn.size)) rs xs)) w.same.parameters
      ∙ ap (begin us (traced u t) f w.gn) e)
      (enter_serves (resting f s ws u) us t 0 0 w w.same.first (λ r n h. by_none r n (w.same.begins r) h) waits shorter (slice_get w.fn.blocks 0) refl)
    where
      by_none : (r n : ℕ) → w.same.plan.at 0 r ≡ None → w.same.plan.at 0 r ≡ Some n → slice_index_or s r None ≡ Some (Word n)
      by_none r n none some = cc

  -- an instruction that goes on behind itself
  do_serves : (r : LowRunning) (i : Plain ℕ) (is : Code) (end : End ℕ) (ws : List LowWaiting) (t : List Began) (w : Two p q threaded r.top.func) (known now out : Known) → Shows known r.top.store → Becomes known (Do i) now → Knows now is out → EndThreaded w.fn w.same.plan out r.top.end end → Waits r.below ws → Shorter p q threaded r.world.trace t → (o : Option Did) → effect_of p.claims i (values virtual r.top.store (reads i)) r.world ≡ o → Serves (finish virtual r is (dest i) o) (finish virtual (other r end ws t) is (dest i) (did_traced t o))
  do_serves r i is end ws t w known now out shows becomes knows ends waits shorter None e = tt
  do_serves r i is end ws t w known now out shows becomes knows ends waits shorter (Some did) e = by_write (write_to virtual r.top.store (dest i) did.value) refl
    where
      by_write : (o : Option Bank) → write_to virtual r.top.store (dest i) did.value ≡ o → Serves (goes_on r is did.world o) (goes_on (other r end ws t) is (traced did.world t) o)
      by_write None h = tt
      by_write (Some s) h =
          inl (record {
            end = end;
            below = ws;
            trace = t;
            is = refl;
            top = record {
              two = w;
              known = now;
              out = out;
              shows = written_shows known now (dest i) (word_written known (Do i)) r.top.store s did.value becomes shows (did_known known r.top.store p.claims r.world i did shows e) h;
              knows = knows;
              ends = ends;
            };
            waits = waits;
            shorter = subst (λ l. Shorter p q threaded l t) (sym (trace_kept p.claims i (values virtual r.top.store (reads i)) r.world did e)) shorter;
          })

  plain_serves : (r : LowRunning) (i : Plain ℕ) (is : Code) (end : End ℕ) (ws : List LowWaiting) (t : List Began) (w : Two p q threaded r.top.func) (known now out : Known) → Shows known r.top.store → Becomes known (Do i) now → Knows now is out → EndThreaded w.fn w.same.plan out r.top.end end → Waits r.below ws → Shorter p q threaded r.world.trace t → Serves (at_instr virtual p r (Do i) is) (at_instr virtual q (other r end ws t) (Do i) is)
  plain_serves r i is end ws t w known now out shows becomes knows ends waits shorter =
      let os = values virtual r.top.store (reads i) in
      let s = other r end ws t in
      at_once (at_instr virtual p r (Do i) is) _ _
      (ap (λ claims. finish virtual s is (dest i) (effect_of claims i os (traced r.world t))) threaded.claims
      ∙ ap (finish virtual s is (dest i)) (effects_traced t p.claims i os r.world))
      (do_serves r i is end ws t w known now out shows becomes knows ends waits shorter (effect_of p.claims i os r.world) refl)

  -- a function gives its value back
  back_serves : (u : World) (t : List Began) (v : ℕ) (ws us : List LowWaiting) → Waits ws us → Shorter p q threaded u.trace t → Serves (come_back virtual u ws v) (come_back virtual (traced u t) us v)
  back_serves u t v [] [] waits shorter = record { trace = t; is = refl; shorter = shorter }
  back_serves u t v [] (y ∷ us) waits shorter = absurd waits
  back_serves u t v (w ∷ ws) [] waits shorter = absurd waits
  back_serves u t v (w ∷ ws) (y ∷ us) waits shorter = by_write (write_to virtual w.frame.store w.into (Word v)) refl
    where
      k : Pending w y
      k = waits.0

      y_is : LowWaiting
      y_is = record { frame = record { func = w.frame.func; code = w.frame.code; end = k.end; store = w.frame.store }; into = w.into }

      by_write : (o : Option Bank) → write_to virtual w.frame.store w.into (Word v) ≡ o → Serves (goes_on (record { top = w.frame; below = ws; world = u }) w.frame.code u o) (come_back virtual (traced u t) (y ∷ us) v)
      by_write None h = tt
      by_write (Some s) h =
          inl (record {
            end = k.end;
            below = us;
            trace = t;
            is = ap (λ x. come_back virtual (traced u t) (x ∷ us) v) k.is ∙ ap (goes_on (record { top = y_is.frame; below = us; world = traced u t }) w.frame.code (traced u t)) h;
            top = record {
              two = k.two;
              known = k.now;
              out = k.out;
              shows = written_shows k.known k.now w.into None w.frame.store s (Word v) k.becomes k.shows (λ n e. cc) h;
              knows = k.knows;
              ends = k.ends;
            };
            waits = waits.1;
            shorter = shorter;
          })

  -- a call
  call_serves : (r : LowRunning) (d : Option ℕ) (f : ℕ) (args : List (Operand ℕ)) (note : Note) (is : Code) (end : End ℕ) (ws : List LowWaiting) (t : List Began) (w : Two p q threaded r.top.func) (known now out : Known) → Shows known r.top.store → Becomes known (Call d f args note) now → Knows now is out → EndThreaded w.fn w.same.plan out r.top.end end → Waits r.below ws → Shorter p q threaded r.world.trace t → (os : Option (List Value)) → (o : Option LowFunction) → slice_get p.functions f ≡ o → Serves (call virtual r is d f note o os) (call virtual (other r end ws t) is d f note (slice_get q.functions f) os)
  call_serves r d f args note is end ws t w known now out shows becomes knows ends waits shorter os None e = tt
  call_serves r d f args note is end ws t w known now out shows becomes knows ends waits shorter None (Some fn) e = tt
  call_serves r d f args note is end ws t w known now out shows becomes knows ends waits shorter (Some xs) (Some fn) e =
      let z = two p q threaded f fn e in
      let s = other r end ws t in
      subst (λ (g : LowFunction). Serves (call virtual r is d f note (Some g) (Some xs)) (call virtual s is d f note (slice_get q.functions f) (Some xs))) (two_is p q threaded f fn z e)
      (at_once (call virtual r is d f note (Some z.fn) (Some xs)) _ _ (ap (λ o. call virtual s is d f note o (Some xs)) z.other) (by_test z (nat_lt f r.top.func)))
    where
      by_test : (z : Two p q threaded f) (b : Bool) → Serves (only_where b (begin (waiting virtual r.top is d note ∷ r.below) r.world f z.fn (write_all virtual (Some (virtual.empty z.fn.size)) z.fn.parameters xs))) (only_where b (begin (waiting virtual (other r end ws t).top is d note ∷ ws) (traced r.world t) f z.gn (write_all virtual (Some (virtual.empty z.gn.size)) z.gn.parameters xs)))
      by_test z false = tt
      by_test z true =
          begin_serves (waiting virtual r.top is d note ∷ r.below) (waiting virtual (other r end ws t).top is d note ∷ ws) r.world t f z xs (
            record {
              two = w;
              known = known;
              now = now;
              out = out;
              end = end;
              is = refl;
              shows = shows;
              becomes = becomes;
              knows = knows;
              ends = ends;
            },
            waits,
          )
          shorter (write_all virtual (Some (virtual.empty z.fn.size)) z.fn.parameters xs) refl

  return_serves : (r : LowRunning) (end : End ℕ) (ws : List LowWaiting) (t : List Began) → Waits r.below ws → Shorter p q threaded r.world.trace t → (o : Option Value) → Serves (give_back virtual r o) (give_back virtual (other r end ws t) o)
  return_serves r end ws t waits shorter None = tt
  return_serves r end ws t waits shorter (Some (Pointer o n)) = tt
  return_serves r end ws t waits shorter (Some (Word v)) = back_serves r.world t v r.below ws waits shorter

  -- a branch
  module _ (r : LowRunning) (end : End ℕ) (ws : List LowWaiting) (t : List Began) (w : Two p q threaded r.top.func) (out : Known) (shows : Shows out r.top.store) (waits : Waits r.below ws) (shorter : Shorter p q threaded r.world.trace t) (c : Condition) (x y : Operand ℕ) (taken else_to : ℕ) (k : Parts w.fn w.same.plan out c x y taken else_to end) (s : LowRun) where
    goes_by : (m n : ℕ) → operand_value virtual r.top.store x ≡ Some (Word m) → operand_value virtual r.top.store y ≡ Some (Word n) → (b : Bool) → holds c m n ≡ b → step virtual q s ≡ went_to q (other r end ws t) (if b then k.first else k.second) → Later (went_to p r (if b then taken else else_to)) s
    goes_by m n ex ey true test moves =
        arrives r s ws t w out shows k.lands.past taken k.lands.old k.first k.lands.comes k.lands.named
        (told_shows out (w.same.plan.at k.lands.old) r.top.store c x y true m n shows ex ey test k.begins) (moves ∙ goes_rests q r end ws t k.first) waits shorter
    goes_by m n ex ey false test moves =
        arrives r s ws t w out shows k.lands_other.past else_to k.lands_other.old k.second k.lands_other.comes k.lands_other.named
        (told_shows out (w.same.plan.at k.lands_other.old) r.top.store c x y false m n shows ex ey test k.begins_other) (moves ∙ goes_rests q r end ws t k.second) waits shorter

    branch_serves : (o1 o2 : Option Value) → operand_value virtual r.top.store x ≡ o1 → operand_value virtual r.top.store y ≡ o2 → step virtual q s ≡ branches q (other r end ws t) (chosen c k.first k.second o1 o2) → Later (branches p r (chosen c taken else_to o1 o2)) s
    branch_serves None o2 ex ey moves = record { steps = 0; serves = tt }
    branch_serves (Some (Pointer o n)) o2 ex ey moves = record { steps = 0; serves = tt }
    branch_serves (Some (Word m)) None ex ey moves = record { steps = 0; serves = tt }
    branch_serves (Some (Word m)) (Some (Pointer o n)) ex ey moves = record { steps = 0; serves = tt }
    branch_serves (Some (Word m)) (Some (Word n)) ex ey moves = goes_by m n ex ey (holds c m n) refl moves

  -- the end of a block, in an activation whose code is done
  end_serves : (r : LowRunning) (end : End ℕ) (ws : List LowWaiting) (t : List Began) (w : Two p q threaded r.top.func) (out : Known) → Shows out r.top.store → Waits r.below ws → Shorter p q threaded r.world.trace t → (s : LowRun) → step virtual q s ≡ at_end virtual q (other r end ws t) end → (old : End ℕ) → EndThreaded w.fn w.same.plan out old end → Later (at_end virtual p r old) s
  end_serves r end ws t w out shows waits shorter s moves old ends =
      ⊎_elim
      (λ (k : Settles w.fn w.same.plan out old end).
      subst (λ z. Later z s) (sym (goal_goes p r out shows old k.next k.goes))
      (arrives r s ws t w out shows k.lands.past k.next k.lands.old k.block k.lands.comes k.lands.named (fewer_shows out (w.same.plan.at k.lands.old) r.top.store k.begins shows)
      (moves ∙ ap (at_end virtual q (other r end ws t)) k.is ∙ goes_rests q r end ws t k.block) waits shorter))
      (λ (k : Stays w.fn w.same.plan out old end). stays old k)
      ends
    where
      stays : (old : End ℕ) → Stays w.fn w.same.plan out old end → Later (at_end virtual p r old) s
      stays (Jump b) k = absurd k
      stays (Return x) k =
          one_step (at_end virtual p r (Return x)) s
          (at_once (at_end virtual p r (Return x)) (step virtual q s) _ (moves ∙ ap (at_end virtual q (other r end ws t)) k)
          (return_serves r end ws t waits shorter (operand_value virtual r.top.store x)))
      stays (Branch c x y taken else_to) k =
          branch_serves r end ws t w out shows waits shorter c x y taken else_to k s (operand_value virtual r.top.store x) (operand_value virtual r.top.store y) refl refl
          (moves ∙ ap (at_end virtual q (other r end ws t)) k.is)

  code_serves : (r : LowRunning) (end : End ℕ) (ws : List LowWaiting) (t : List Began) (w : Two p q threaded r.top.func) (known out : Known) → Shows known r.top.store → Waits r.below ws → Shorter p q threaded r.world.trace t → EndThreaded w.fn w.same.plan out r.top.end end → (s : LowRun) → (code : Code) → Knows known code out → step virtual q s ≡ at_code virtual q (other r end ws t) code → Later (at_code virtual p r code) s
  code_serves r end ws t w known out shows waits shorter ends s [] knows moves =
      end_serves r end ws t w out (fewer_shows known out r.top.store knows shows) waits shorter s moves r.top.end ends
  code_serves r end ws t w known out shows waits shorter ends s (Do i ∷ is) knows moves =
      one_step (at_instr virtual p r (Do i) is) s (at_once (at_instr virtual p r (Do i) is) (step virtual q s) _ moves
      (plain_serves r i is end ws t w known knows.0 out shows knows.1 knows.2 ends waits shorter))
  code_serves r end ws t w known out shows waits shorter ends s (Call d f args note ∷ is) knows moves =
      one_step (at_instr virtual p r (Call d f args note) is) s (at_once (at_instr virtual p r (Call d f args note) is) (step virtual q s) _ moves
      (call_serves r d f args note is end ws t w known knows.0 out shows knows.1 knows.2 ends waits shorter (values virtual r.top.store args) (slice_get p.functions f) refl))

  rel_serves : (r : LowRunning) (s : LowRun) → Rel r s → Later (at_code virtual p r r.top.code) s
  rel_serves r s h =
      code_serves r h.end h.below h.trace h.top.two h.top.known h.top.out h.top.shows h.waits h.shorter h.top.ends s r.top.code h.top.knows (ap (step virtual q) h.is)

  -- one step
  step_serves : (r s : LowRun) → Serves r s → Later (step virtual p r) s
  step_serves (Going r) s h = ⊎_elim (λ (k : Rel r s). rel_serves r s k) (λ (k : Passing r s). passing_serves r s k) h
  step_serves (Done v u) s h = record { steps = 0; serves = h }
  step_serves Bad s h = record { steps = 0; serves = tt }

  run_serves : (n : ℕ) (r s : LowRun) → Serves r s → Later (run virtual p n r) s
  run_serves zero r s h = record { steps = 0; serves = h }
  run_serves (suc n) r s h =
      let one = step_serves r s h in
      let more = run_serves n (step virtual p r) (run virtual q one.steps s) one.serves in
      record {
        steps = one.steps + more.steps;
        serves = subst (λ x. Serves (run virtual p n (step virtual p r)) x) (run_more q more.steps one.steps s) more.serves;
      }

  first_serves : (input : List ℕ) → Serves (first virtual p input) (first virtual q input)
  first_serves input = by_main (slice_get p.functions p.main) refl
    where
      by_main : (o : Option LowFunction) → slice_get p.functions p.main ≡ o → Serves (first_in virtual (start p.objects input) p.main o) (first virtual q input)
      by_main None e = tt
      by_main (Some fn) e =
          let w = two p q threaded p.main fn e in
          subst (λ (g : LowFunction). Serves (first_in virtual (start p.objects input) p.main (Some g)) (first virtual q input)) (two_is p q threaded p.main fn w e)
          (at_once (first_in virtual (start p.objects input) p.main (Some w.fn)) _ _
          (ap (λ objects. first_in virtual (start objects input) q.main (slice_get q.functions q.main)) threaded.objects
          ∙ ap (λ m. first_in virtual (start p.objects input) m (slice_get q.functions m)) threaded.main
          ∙ ap (first_in virtual (start p.objects input) p.main) w.other)
          (begin_serves [] [] (start p.objects input) [] p.main w [] tt refl (write_all virtual (Some (virtual.empty w.fn.size)) w.fn.parameters []) refl))

  -- each good run is served
  pub served : ((f : ℕ) (fn : LowFunction) → slice_get p.functions f ≡ Some fn → All (IsWithinBlocks fn) fn.loops) → (input : List ℕ) (n v : ℕ) (u : World) → IsGood p (lrun p input n) v u → RunsOn p q input v u
  served inside input n v u good =
      let k = run_serves n (first virtual p input) (first virtual q input) (first_serves input) in
      let h : Ended v u (lrun q input k.steps) = subst (λ r. Serves r (lrun q input k.steps)) good.done k.serves in
      record {
        steps = k.steps;
        world = traced u h.trace;
        good = record { done = h.is; loops = loops_kept p q threaded inside u.trace h.trace h.shorter good.loops };
        objects = refl;
        unread = refl;
        output = refl;
        marks = marks_kept p q threaded u.trace h.trace h.shorter;
      }
