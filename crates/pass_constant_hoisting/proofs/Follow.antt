-- The run over words in registers follows the run over constants.
use Rattle.std.proofs.Common.{◌≡◌, ◌<◌, ◌≤◌, ℕ, zero, suc, ◌+◌, Bool, true, false, List, [], ◌∷◌, ◌++◌, length, Option, Some, None, refl, sym, ap, ◌∙◌, subst, arith, get_or-set_same, get_or-set_other, length-set}
use Rattle.std.specs.Prelude.{◌%◌, ◌^◌, map, slice_get, slice_index_or, slice_set, nat_lt, if◌then◌else◌, All}
use Rattle.rv_core.specs.declared.row.Condition.{Condition}
use Rattle.rv_core.specs.Arithmetic.{holds}
use Rattle.low_ir.specs.Code.{Operand, Plain, Instr, Do, Call, End, Jump, Branch, Return, Block, Function, Low, Note}
use Rattle.low_ir.specs.declared.run.Began.{Began}
use Rattle.low_ir.specs.declared.run.Value.{Value}
use Rattle.low_ir.specs.declared.run.Value.TheVariants.{Word, Pointer}
use Rattle.low_ir.specs.Effects.{World, Did, start, reads, dest, effect, effect_of, began}
use Rattle.low_ir.specs.Runs.{Going, Done, Bad, Bank, operand_value, values, write_to, goes_on, finish, enter, block_in, went_to, write_all, begin, only_where, waiting, call, at_instr, come_back, give_back, chosen, branches, at_end, at_code, set_in, step, run, first, first_in, virtual}
use Rattle.low_ir.specs.Turns.{KeepsLoop, KeepsLoops}
use Rattle.pass_constant_hoisting.specs.Carried.{HeldCarries}
use Rattle.pass_constant_hoisting.specs.Holding.{fills, held, held_end, held_function, held_instr, held_plain, held_program, words_at, words_in}
use Rattle.pass_constant_hoisting.proofs.Stores.{AllHold, Shows, all_written, empty_shows, lt_test, within, written}
use Rattle.pass_constant_hoisting.proofs.Instructions.{all_stand, dest_held, effect_held, held_stands, reads_stand, values_stand}
use Rattle.pass_constant_hoisting.proofs.Tables.{block_held, function_held, of_function}
use Rattle.low_parts.proofs.Runs.{LowRun, LowRunning, LowWaiting}

abbrev LowCode : Type 0
LowCode = List (Instr ℕ Note)

run_add : (q : Low) (n m : ℕ) (z : LowRun) → run virtual q (n + m) z ≡ run virtual q m (run virtual q n z)
run_add q zero m z = let e : 0 + m ≡ m = omega arith in ap (λ k. run virtual q k z) e
run_add q (suc n) m z = let e : suc n + m ≡ suc (n + m) = omega arith in ap (λ k. run virtual q k z) e ∙ run_add q n m (step virtual q z)

-- an activation with this code and this store
abbrev running : ℕ → LowCode → End ℕ → Bank → List LowWaiting → World → LowRunning
running f is end t below u = record { top = record { func = f; code = is; end = end; store = t }; below = below; world = u }

-- registers are filled
record Filled (q : Low) (f : ℕ) (is : LowCode) (end : End ℕ) (t : Bank) (below : List LowWaiting) (u : World) (r : ℕ) (ws : List ℕ) : Type 0 where
  bank : Bank
  runs : run virtual q (length ws) (Going (running f (fills r ws ++ is) end t below u)) ≡ Going (running f is end bank below u)
  size : length bank ≡ length t
  below_same : (s : ℕ) → s < r → slice_index_or bank s None ≡ slice_index_or t s None
  holds : AllHold bank r ws

filled : (q : Low) (f : ℕ) (is : LowCode) (end : End ℕ) (t : Bank) (below : List LowWaiting) (u : World) (r : ℕ) (ws : List ℕ) → r + length ws ≤ length t → Filled q f is end t below u r ws
filled q f is end t below u r [] room = record { bank = t; runs = refl; size = refl; below_same = λ s low. refl; holds = tt }
filled q f is end t below u r (w ∷ ws) room =
    let x : Value = Word (w % 2 ^ 32) in
    let lt : r < length t = omega (arith, room) in
    let t2 = slice_set t r (Some x) in
    let size = length-set t r (Some x) in
    let a = filled q f is end t2 below u (suc r) ws (omega (arith, room, size)) in
    let z : LowRunning = running f (fills r (w ∷ ws) ++ is) end t below u in
    record {
      bank = a.bank;
      runs = ap (λ b. run virtual q (length ws) (goes_on z (fills (suc r) ws ++ is) u (set_in t r x b))) (lt_test r (length t) lt) ∙ a.runs;
      size = a.size ∙ size;
      below_same = λ s low. a.below_same s (omega (arith, low)) ∙ get_or-set_other t r s (Some x) None (λ e. absurd (omega (arith, low, e)));
      holds = (a.below_same r (omega arith) ∙ get_or-set_same t r (Some x) None lt, a.holds);
    }

module _ (wss : List (List ℕ)) (q : Low) where
  abbrev q2 : Low
  q2 = held_program wss q

  -- the words of a function
  abbrev own : ℕ → Function ℕ Note → List ℕ
  own f fn = words_in (words_at wss f) fn

  abbrev code_of : ℕ → Function ℕ Note → LowCode → LowCode
  code_of f fn is = map (held_instr fn.size (own f fn)) is

  abbrev end_of : ℕ → Function ℕ Note → End ℕ → End ℕ
  end_of f fn end = held_end fn.size (own f fn) end

  abbrev to : Function ℕ Note → LowRunning → Bank → List LowWaiting → LowRunning
  to fn r t ws = running r.top.func (code_of r.top.func fn r.top.code) (end_of r.top.func fn r.top.end) t ws r.world

  -- a store with the words of its function
  record Store (f : ℕ) (fn : Function ℕ Note) (s t : Bank) : Type 0 where
    shows : Shows fn.size (length (own f fn)) s t
    holds : AllHold t fn.size (own f fn)

  record Pending (w x : LowWaiting) : Type 0 where
    fn : Function ℕ Note
    there : slice_get q.functions w.frame.func ≡ Some fn
    bank : Bank
    is : x ≡ record { frame = record { func = w.frame.func; code = code_of w.frame.func fn w.frame.code; end = end_of w.frame.func fn w.frame.end; store = bank }; into = w.into }
    store : Store w.frame.func fn w.frame.store bank

  abbrev Waits : List LowWaiting → List LowWaiting → Type 0
  Waits [] [] = Unit {0}
  Waits [] (x ∷ xs) = ⊥
  Waits (w ∷ ws) [] = ⊥
  Waits (w ∷ ws) (x ∷ xs) = Pending w x × Waits ws xs

  record Rel (r : LowRunning) (z : LowRun) : Type 0 where
    fn : Function ℕ Note
    there : slice_get q.functions r.top.func ≡ Some fn
    bank : Bank
    below : List LowWaiting
    is : z ≡ Going (to fn r bank below)
    store : Store r.top.func fn r.top.store bank
    waits : Waits r.below below

  abbrev Follows : LowRun → LowRun → Type 0
  Follows (Going r) z = Rel r z
  Follows (Done v u) z = z ≡ Done v u
  Follows Bad z = Unit {0}

  -- after some steps
  record Leads (y z : LowRun) : Type 0 where
    steps : ℕ
    follows : Follows y (run virtual q2 steps z)

  at_once : (y z : LowRun) → Follows y z → Leads y z
  at_once y z h = record { steps = 0; follows = h }

  from : (y z x : LowRun) → z ≡ x → Leads y x → Leads y z
  from y z x e h = subst (λ a. Leads y a) (sym e) h

  -- the first block is entered, which fills the registers
  first_leads : (r : LowRunning) (t : Bank) (xs : List LowWaiting) (fn : Function ℕ Note) → slice_get q.functions r.top.func ≡ Some fn → Shows fn.size (length (own r.top.func fn)) r.top.store t → Waits r.below xs → (is : LowCode) (end : End ℕ) (o : Option (Block ℕ Note)) → slice_get fn.blocks 0 ≡ o → Leads (enter r 0 o) (enter (running r.top.func is end t xs r.world) 0 (slice_get (held_function (words_at wss r.top.func) fn).blocks 0))
  first_leads r t xs fn there shows waits is end None e = at_once Bad _ tt
  first_leads r t xs fn there shows waits is end (Some bl) e =
      let f = r.top.func in
      let u = began r.world f 0 in
      let ws = own f fn in
      let larger = shows.larger in
      let a = filled q2 f (code_of f fn bl.code) (end_of f fn bl.end) t xs u fn.size ws (omega (arith, larger)) in
      from (enter r 0 (Some bl)) _ (Going (running f (fills fn.size ws ++ code_of f fn bl.code) (end_of f fn bl.end) t xs u))
      (ap (enter (running f is end t xs r.world) 0) (block_held ws fn 0 bl e))
      (record {
        steps = length ws;
        follows = record {
          fn = fn;
          there = there;
          bank = a.bank;
          below = xs;
          is = a.runs;
          store = record {
            shows = record {
              size = shows.size;
              larger = a.size ∙ shows.larger;
              same = λ v x g. let low = within r.top.store v x g in let size = shows.size in a.below_same v (omega (arith, low, size)) ∙ shows.same v x g;
            };
            holds = a.holds;
          };
          waits = waits;
        };
      })

  -- a jump
  enter_leads : (r : LowRunning) (t : Bank) (xs : List LowWaiting) (fn : Function ℕ Note) → slice_get q.functions r.top.func ≡ Some fn → Store r.top.func fn r.top.store t → Waits r.below xs → (is : LowCode) (end : End ℕ) (b : ℕ) (o : Option (Block ℕ Note)) → slice_get fn.blocks b ≡ o → Leads (enter r b o) (enter (running r.top.func is end t xs r.world) b (slice_get (held_function (words_at wss r.top.func) fn).blocks b))
  enter_leads r t xs fn there store waits is end zero o e = first_leads r t xs fn there store.shows waits is end o e
  enter_leads r t xs fn there store waits is end (suc b) None e = at_once Bad _ tt
  enter_leads r t xs fn there store waits is end (suc b) (Some bl) e =
      at_once (enter r (suc b) (Some bl)) _ (record {
        fn = fn;
        there = there;
        bank = t;
        below = xs;
        is = ap (enter (running r.top.func is end t xs r.world) (suc b)) (block_held (own r.top.func fn) fn (suc b) bl e);
        store = store;
        waits = waits;
      })

  jump_leads : (r : LowRunning) (t : Bank) (xs : List LowWaiting) (fn : Function ℕ Note) → slice_get q.functions r.top.func ≡ Some fn → Store r.top.func fn r.top.store t → Waits r.below xs → (is : LowCode) (end : End ℕ) (b : ℕ) → Leads (went_to q r b) (went_to q2 (running r.top.func is end t xs r.world) b)
  jump_leads r t xs fn there store waits is end b =
      let z = running r.top.func is end t xs r.world in
      subst (λ o. Leads (enter r b (block_in o b)) (went_to q2 z b)) (sym there)
      (from (enter r b (slice_get fn.blocks b)) (went_to q2 z b) (enter z b (slice_get (held_function (words_at wss r.top.func) fn).blocks b))
      (ap (λ o. enter z b (block_in o b)) (function_held wss q r.top.func fn there))
      (enter_leads r t xs fn there store waits is end b (slice_get fn.blocks b) refl))

  -- a function is entered with these arguments
  begin_leads : (ws xs : List LowWaiting) (u : World) (f : ℕ) (fn : Function ℕ Note) (vs : List Value) → Waits ws xs → slice_get q.functions f ≡ Some fn → (o : Option Bank) → write_all virtual (Some (virtual.empty fn.size)) fn.parameters vs ≡ o → Leads (begin ws u f fn o) (begin xs u f (held_function (words_at wss f) fn) (write_all virtual (Some (virtual.empty (fn.size + length (own f fn)))) fn.parameters vs))
  begin_leads ws xs u f fn vs waits there None e = at_once Bad _ tt
  begin_leads ws xs u f fn vs waits there (Some s) e =
      let k = length (own f fn) in
      let a = all_written fn.size k fn.parameters vs (virtual.empty fn.size) s (virtual.empty (fn.size + k)) (empty_shows fn.size k) e in
      from (begin ws u f fn (Some s)) _ _ (ap (begin xs u f (held_function (words_at wss f) fn)) a.is)
      (first_leads (running f [] (Jump 0) s ws u) a.bank xs fn there a.shows waits [] (Jump 0) (slice_get fn.blocks 0) refl)

  -- an instruction that goes on behind itself
  do_leads : (r : LowRunning) (t : Bank) (xs : List LowWaiting) (fn : Function ℕ Note) → slice_get q.functions r.top.func ≡ Some fn → Store r.top.func fn r.top.store t → Waits r.below xs → (is : LowCode) (d : Option ℕ) (o : Option Did) → Leads (finish virtual r is d o) (finish virtual (to fn r t xs) (code_of r.top.func fn is) d o)
  do_leads r t xs fn there store waits is d None = at_once Bad _ tt
  do_leads r t xs fn there store waits is d (Some did) = by_write (write_to virtual r.top.store d did.value) refl
    where
      by_write : (o : Option Bank) → write_to virtual r.top.store d did.value ≡ o → Leads (goes_on r is did.world o) (goes_on (to fn r t xs) (code_of r.top.func fn is) did.world (write_to virtual t d did.value))
      by_write None e = at_once Bad _ tt
      by_write (Some s) e =
          let w = written fn.size (length (own r.top.func fn)) r.top.store s t d did.value store.shows e in
          at_once (goes_on r is did.world (Some s)) _ (record {
            fn = fn;
            there = there;
            bank = w.bank;
            below = xs;
            is = ap (goes_on (to fn r t xs) (code_of r.top.func fn is) did.world) w.is;
            store = record { shows = w.shows; holds = w.holds (own r.top.func fn) store.holds };
            waits = waits;
          })

  plain_leads : (r : LowRunning) (t : Bank) (xs : List LowWaiting) (fn : Function ℕ Note) → slice_get q.functions r.top.func ≡ Some fn → Store r.top.func fn r.top.store t → Waits r.below xs → (i : Plain ℕ) (is : LowCode) (os : Option (List Value)) → values virtual r.top.store (reads i) ≡ os → Leads (finish virtual r is (dest i) (effect_of q.claims i os r.world)) (at_instr virtual q2 (to fn r t xs) (Do (held_plain fn.size (own r.top.func fn) i)) (code_of r.top.func fn is))
  plain_leads r t xs fn there store waits i is None e = at_once Bad _ tt
  plain_leads r t xs fn there store waits i is (Some vs) e =
      let n = fn.size in
      let ws = own r.top.func fn in
      let z = to fn r t xs in
      let js = code_of r.top.func fn is in
      let j = held_plain n ws i in
      from (finish virtual r is (dest i) (effect q.claims i vs r.world)) _ _
      (ap (λ d. finish virtual z js d (effect_of q.claims j (values virtual t (reads j)) r.world)) (dest_held n ws i)
      ∙ ap (λ o. finish virtual z js (dest i) (effect_of q.claims j o r.world)) (values_stand r.top.store t (reads i) (reads j) vs (reads_stand r.top.store t n (length ws) store.shows ws store.holds i) e)
      ∙ ap (λ o. finish virtual z js (dest i) o) (effect_held n ws q.claims i vs r.world))
      (do_leads r t xs fn there store waits is (dest i) (effect q.claims i vs r.world))

  -- a function gives its value back
  back_leads : (u : World) (v : ℕ) (ws xs : List LowWaiting) → Waits ws xs → Leads (come_back virtual u ws v) (come_back virtual u xs v)
  back_leads u v [] [] waits = at_once (Done v u) _ refl
  back_leads u v [] (x ∷ xs) waits = absurd waits
  back_leads u v (w ∷ ws) [] waits = absurd waits
  back_leads u v (w ∷ ws) (x ∷ xs) waits = by_write (write_to virtual w.frame.store w.into (Word v)) refl
    where
      by_write : (o : Option Bank) → write_to virtual w.frame.store w.into (Word v) ≡ o → Leads (goes_on (record { top = w.frame; below = ws; world = u }) w.frame.code u o) (come_back virtual u (x ∷ xs) v)
      by_write None e = at_once Bad _ tt
      by_write (Some s) e =
          let pend = waits.0 in
          let fn = pend.fn in
          let f = w.frame.func in
          let b = written fn.size (length (own f fn)) w.frame.store s pend.bank w.into (Word v) pend.store.shows e in
          let y : LowWaiting = record { frame = record { func = f; code = code_of f fn w.frame.code; end = end_of f fn w.frame.end; store = pend.bank }; into = w.into } in
          at_once (goes_on (record { top = w.frame; below = ws; world = u }) w.frame.code u (Some s)) _ (record {
            fn = fn;
            there = pend.there;
            bank = b.bank;
            below = xs;
            is = ap (λ a. come_back virtual u (a ∷ xs) v) pend.is ∙ ap (goes_on (record { top = y.frame; below = xs; world = u }) y.frame.code u) b.is;
            store = record { shows = b.shows; holds = b.holds (own f fn) pend.store.holds };
            waits = waits.1;
          })

  call_leads : (r : LowRunning) (t : Bank) (xs : List LowWaiting) (fn : Function ℕ Note) → slice_get q.functions r.top.func ≡ Some fn → Store r.top.func fn r.top.store t → Waits r.below xs → (d : Option ℕ) (f : ℕ) (args : List (Operand ℕ)) (note : Note) (is : LowCode) (o : Option (Function ℕ Note)) → slice_get q.functions f ≡ o → (os : Option (List Value)) → values virtual r.top.store args ≡ os → Leads (call virtual r is d f note o os) (call virtual (to fn r t xs) (code_of r.top.func fn is) d f note (slice_get q2.functions f) (values virtual t args))
  call_leads r t xs fn there store waits d f args note is None e os e2 = at_once Bad _ tt
  call_leads r t xs fn there store waits d f args note is (Some g) e None e2 = at_once Bad _ tt
  call_leads r t xs fn there store waits d f args note is (Some g) e (Some vs) e2 =
      let z = to fn r t xs in
      let js = code_of r.top.func fn is in
      from (call virtual r is d f note (Some g) (Some vs)) _ _
      (ap (λ o. call virtual z js d f note o (values virtual t args)) (function_held wss q f g e)
      ∙ ap (λ o. call virtual z js d f note (Some (held_function (words_at wss f) g)) o) (values_stand r.top.store t args args vs (all_stand r.top.store t fn.size (length (own r.top.func fn)) store.shows args) e2))
      (by_test (nat_lt f r.top.func))
    where
      by_test : (b : Bool) → Leads (only_where b (begin (waiting virtual r.top is d note ∷ r.below) r.world f g (write_all virtual (Some (virtual.empty g.size)) g.parameters vs))) (only_where b (begin (waiting virtual (to fn r t xs).top (code_of r.top.func fn is) d note ∷ xs) r.world f (held_function (words_at wss f) g) (write_all virtual (Some (virtual.empty (g.size + length (own f g)))) g.parameters vs)))
      by_test false = at_once Bad _ tt
      by_test true =
          begin_leads (waiting virtual r.top is d note ∷ r.below) (waiting virtual (to fn r t xs).top (code_of r.top.func fn is) d note ∷ xs) r.world f g vs
          (record { fn = fn; there = there; bank = t; is = refl; store = store }, waits) e (write_all virtual (Some (virtual.empty g.size)) g.parameters vs) refl

  -- the end of a block
  branch_leads : (r : LowRunning) (t : Bank) (xs : List LowWaiting) (fn : Function ℕ Note) → slice_get q.functions r.top.func ≡ Some fn → Store r.top.func fn r.top.store t → Waits r.below xs → (is : LowCode) (end : End ℕ) (c : Condition) (x y : Operand ℕ) (b1 b2 : ℕ) (o1 o2 : Option Value) → operand_value virtual r.top.store x ≡ o1 → operand_value virtual r.top.store y ≡ o2
      → Leads (branches q r (chosen c b1 b2 o1 o2)) (branches q2 (running r.top.func is end t xs r.world) (chosen c b1 b2 (operand_value virtual t (held fn.size (own r.top.func fn) x)) (operand_value virtual t (held fn.size (own r.top.func fn) y))))
  branch_leads r t xs fn there store waits is end c x y b1 b2 None o2 e1 e2 = at_once Bad _ tt
  branch_leads r t xs fn there store waits is end c x y b1 b2 (Some (Pointer o n)) o2 e1 e2 = at_once Bad _ tt
  branch_leads r t xs fn there store waits is end c x y b1 b2 (Some (Word m)) None e1 e2 = at_once Bad _ tt
  branch_leads r t xs fn there store waits is end c x y b1 b2 (Some (Word m)) (Some (Pointer o n)) e1 e2 = at_once Bad _ tt
  branch_leads r t xs fn there store waits is end c x y b1 b2 (Some (Word m)) (Some (Word n)) e1 e2 =
      let z = running r.top.func is end t xs r.world in
      let ws = own r.top.func fn in
      let k = length ws in
      from (went_to q r (if holds c m n then b1 else b2)) _ _
      (ap (λ o. branches q2 z (chosen c b1 b2 o (operand_value virtual t (held fn.size ws y)))) (held_stands r.top.store t fn.size k store.shows ws store.holds x (Word m) e1)
      ∙ ap (λ o. branches q2 z (chosen c b1 b2 (Some (Word m)) o)) (held_stands r.top.store t fn.size k store.shows ws store.holds y (Word n) e2))
      (jump_leads r t xs fn there store waits is end (if holds c m n then b1 else b2))

  return_leads : (r : LowRunning) (t : Bank) (xs : List LowWaiting) (fn : Function ℕ Note) → Store r.top.func fn r.top.store t → Waits r.below xs → (is : LowCode) (end : End ℕ) (x : Operand ℕ) (o : Option Value) → operand_value virtual r.top.store x ≡ o → Leads (give_back virtual r o) (give_back virtual (running r.top.func is end t xs r.world) (operand_value virtual t x))
  return_leads r t xs fn store waits is end x None e = at_once Bad _ tt
  return_leads r t xs fn store waits is end x (Some (Pointer o n)) e = at_once Bad _ tt
  return_leads r t xs fn store waits is end x (Some (Word v)) e =
      from (come_back virtual r.world r.below v) _ _
      (ap (give_back virtual (running r.top.func is end t xs r.world)) ((all_stand r.top.store t fn.size (length (own r.top.func fn)) store.shows (x ∷ [])).0 (Word v) e))
      (back_leads r.world v r.below xs waits)

  end_leads : (r : LowRunning) (t : Bank) (xs : List LowWaiting) (fn : Function ℕ Note) → slice_get q.functions r.top.func ≡ Some fn → Store r.top.func fn r.top.store t → Waits r.below xs → (is : LowCode) (behind end : End ℕ) → Leads (at_end virtual q r end) (at_end virtual q2 (running r.top.func is behind t xs r.world) (end_of r.top.func fn end))
  end_leads r t xs fn there store waits is behind (Jump b) = jump_leads r t xs fn there store waits is behind b
  end_leads r t xs fn there store waits is behind (Branch c x y b1 b2) = branch_leads r t xs fn there store waits is behind c x y b1 b2 (operand_value virtual r.top.store x) (operand_value virtual r.top.store y) refl refl
  end_leads r t xs fn there store waits is behind (Return x) = return_leads r t xs fn store waits is behind x (operand_value virtual r.top.store x) refl

  code_leads : (r : LowRunning) (t : Bank) (xs : List LowWaiting) (fn : Function ℕ Note) → slice_get q.functions r.top.func ≡ Some fn → Store r.top.func fn r.top.store t → Waits r.below xs → (is : LowCode) → Leads (at_code virtual q r is) (at_code virtual q2 (to fn r t xs) (code_of r.top.func fn is))
  code_leads r t xs fn there store waits [] = end_leads r t xs fn there store waits (code_of r.top.func fn r.top.code) (end_of r.top.func fn r.top.end) r.top.end
  code_leads r t xs fn there store waits (Do i ∷ is) = plain_leads r t xs fn there store waits i is (values virtual r.top.store (reads i)) refl
  code_leads r t xs fn there store waits (Call d f args note ∷ is) = call_leads r t xs fn there store waits d f args note is (slice_get q.functions f) refl (values virtual r.top.store args) refl

  -- one step is some
  step_leads : (y z : LowRun) → Follows y z → Leads (step virtual q y) z
  step_leads (Going r) z h =
      let a = code_leads r h.bank h.below h.fn h.there h.store h.waits r.top.code in
      record {
        steps = suc a.steps;
        follows = subst (λ x. Follows (at_code virtual q r r.top.code) (run virtual q2 a.steps (step virtual q2 x))) (sym h.is) a.follows;
      }
  step_leads (Done v u) z h = at_once (Done v u) z h
  step_leads Bad z h = at_once Bad z tt

  run_leads : (n : ℕ) (y z : LowRun) → Follows y z → Leads (run virtual q n y) z
  run_leads zero y z h = at_once y z h
  run_leads (suc n) y z h =
      let a = step_leads y z h in
      let b = run_leads n (step virtual q y) (run virtual q2 a.steps z) a.follows in
      record { steps = a.steps + b.steps; follows = subst (λ x. Follows (run virtual q n (step virtual q y)) x) (sym (run_add q2 a.steps b.steps z)) b.follows }

  main_leads : (input : List ℕ) → Leads (first virtual q input) (first virtual q2 input)
  main_leads input = by_main (slice_get q.functions q.main) refl
    where
      by_main : (o : Option (Function ℕ Note)) → slice_get q.functions q.main ≡ o → Leads (first_in virtual (start q.objects input) q.main o) (first virtual q2 input)
      by_main None e = at_once Bad _ tt
      by_main (Some fn) e =
          from (first_in virtual (start q.objects input) q.main (Some fn)) _ _
          (ap (first_in virtual (start q.objects input) q.main) (function_held wss q q.main fn e))
          (begin_leads [] [] (start q.objects input) q.main fn [] tt e (write_all virtual (Some (virtual.empty fn.size)) fn.parameters []) refl)

  loops_follow : (trace : List Began) → KeepsLoops q trace → KeepsLoops q2 trace
  loops_follow trace kept f g e =
      let h = of_function wss q f g e in
      subst (λ (fn : Function ℕ Note). All (KeepsLoop f trace) fn.loops) h.is (kept f h.fn h.there)

-- each good run is carried
pub carried : HeldCarries
carried wss q input n v u good =
    let a = main_leads wss q input in
    let b = run_leads wss q n (first virtual q input) (run virtual (held_program wss q) a.steps (first virtual (held_program wss q) input)) a.follows in
    record {
      steps = a.steps + b.steps;
      good = record {
        done = run_add (held_program wss q) a.steps b.steps (first virtual (held_program wss q) input) ∙ subst (λ y. Follows wss q y (run virtual (held_program wss q) b.steps (run virtual (held_program wss q) a.steps (first virtual (held_program wss q) input)))) good.done b.follows;
        loops = loops_follow wss q u.trace good.loops;
      };
    }
