-- The run with copies in place of loads is the same run, step by step.
use Rattle.std.proofs.Common.{◌≡◌, ◌<◌, ℕ, zero, suc, Bool, true, false, List, [], ◌∷◌, Option, Some, None, refl, sym, ap, ◌∙◌, subst, ⊎_elim, inl, inr}
use Rattle.std.specs.Prelude.{All, ◌^◌, if◌then◌else◌, nat_lt, slice_get}
use Rattle.rv_core.specs.declared.row.Condition.{Condition}
use Rattle.rv_core.specs.Arithmetic.{holds}
use Rattle.low_ir.specs.Code.{Operand, Register, Plain, Set, Instr, Do, Call, End, Jump, Branch, Return, Block, Low, Note}
use Rattle.low_ir.specs.declared.run.Began.{Began}
use Rattle.low_ir.specs.declared.run.Value.{Value}
use Rattle.low_ir.specs.declared.run.Value.TheVariants.{Word, Pointer}
use Rattle.low_ir.specs.Effects.{World, Did, start, reads, dest, effect_of}
use Rattle.low_ir.specs.Runs.{Going, Done, Bad, Bank, operand_value, values, write_to, goes_on, finish, enter, block_in, went_to, write_all, begin, only_where, waiting, call, at_instr, come_back, give_back, chosen, branches, at_end, at_code, step, run, first, first_in, lrun, virtual}
use Rattle.low_ir.specs.Turns.{IsGood, KeepsLoop, KeepsLoops}
use Rattle.low_parts.proofs.Lists.{before, found}
use Rattle.pass_common_subexpressions_law.proofs.Giving.{dest_giving}
use Rattle.pass_common_subexpressions_law.proofs.Blocks.{found_block}
use Rattle.pass_common_subexpressions_law.specs.Facts.{Fact, Known, Knows, KnowsNothing, Learns, giving}
use Rattle.pass_common_subexpressions_law.specs.Reloads.{Becomes, Code, Follows, FunctionReloaded, Hands, IsReload, IsReloaded, Steps}
use Rattle.pass_common_subexpressions_law.proofs.Small.{SmallBank, SmallRun, first_small, step_small}
use Rattle.low_parts.proofs.Runs.{LowFunction, LowRun, LowRunning, LowWaiting}
use Rattle.pass_common_subexpressions_law.proofs.Truth.{AreTrue, copy_gives, learned, none_true, traced}

-- the same activation, world and trace with other code
abbrev running : LowRunning → Code → List LowWaiting → LowRunning
running r code ws = record { top = record { func = r.top.func; code = code; end = r.top.end; store = r.top.store }; below = ws; world = r.world }

module _ (p q : Low) (reloaded : IsReloaded p q) where
  -- a function, and what became of it
  record Two (func : ℕ) : Type 0 where
    fn : LowFunction
    gn : LowFunction
    there : slice_get p.functions func ≡ Some fn
    other : slice_get q.functions func ≡ Some gn
    same : FunctionReloaded p.claims fn gn

  two : (f : ℕ) (fn : LowFunction) → slice_get p.functions f ≡ Some fn → Two f
  two f fn e =
      let k = found (FunctionReloaded p.claims) p.functions q.functions f fn reloaded.functions e in
      record { fn = fn; gn = k.it; there = e; other = k.there; same = k.related }

  -- an activation that waits; nothing is known when its call comes back
  record Pending (w u : LowWaiting) : Type 0 where
    two : Two w.frame.func
    code : Code
    known : Known
    nothing : KnowsNothing known
    is : u ≡ record { frame = record { func = w.frame.func; code = code; end = w.frame.end; store = w.frame.store }; into = w.into }
    follows : Follows p.claims two.same.out w.frame.end w.frame.code known code

  abbrev Waits : List LowWaiting → List LowWaiting → Type 0
  Waits [] [] = Unit {0}
  Waits [] (u ∷ us) = ⊥
  Waits (w ∷ ws) [] = ⊥
  Waits (w ∷ ws) (u ∷ us) = Pending w u × Waits ws us

  record Rel (r : LowRunning) (s : LowRun) : Type 0 where
    two : Two r.top.func
    code : Code
    below : List LowWaiting
    known : Known
    is : s ≡ Going (running r code below)
    all_true : AreTrue p.claims known r.top.store r.world
    follows : Follows p.claims two.same.out r.top.end r.top.code known code
    waits : Waits r.below below

  abbrev Serves : LowRun → LowRun → Type 0
  Serves (Going r) s = Rel r s
  Serves (Done v u) s = s ≡ Done v u
  Serves Bad s = Unit {0}

  at_once : (r s t : LowRun) → s ≡ t → Serves r t → Serves r s
  at_once r s t e h = subst (λ x. Serves r x) (sym e) h

  -- a block is entered, and what is known at its beginning is true
  enter_serves : (r : LowRunning) (code : Code) (ws : List LowWaiting) (b : ℕ) (w : Two r.top.func) → AreTrue p.claims (w.same.out b) r.top.store r.world → Waits r.below ws → (o : Option (Block ℕ Note)) → slice_get w.fn.blocks b ≡ o → Serves (enter r b o) (enter (running r code ws) b (slice_get w.gn.blocks b))
  enter_serves r code ws b w all waits None e = tt
  enter_serves r code ws b w all waits (Some bl) e =
      let k = found_block p.claims w.fn w.gn w.same b bl e in
      let entered : Block ℕ Note → LowRun = λ c. enter (running r code ws) b (Some c) in
      record {
        two = w;
        code = k.it.code;
        below = ws;
        known = w.same.out b;
        is = ap (enter (running r code ws) b) k.there ∙ ap (λ end. entered (record { mark = k.it.mark; code = k.it.code; end = end })) k.reloaded.end;
        all_true = λ f knows. traced p.claims r.top.store r.world r.top.func b f (all f knows);
        follows = k.reloaded.code;
        waits = waits;
      }

  -- a jump to a block
  jump_serves : (r : LowRunning) (code : Code) (ws : List LowWaiting) (b : ℕ) (w : Two r.top.func) → AreTrue p.claims (w.same.out b) r.top.store r.world → Waits r.below ws → Serves (went_to p r b) (went_to q (running r code ws) b)
  jump_serves r code ws b w all waits =
      let s = running r code ws in
      subst (λ o. Serves (enter r b (block_in o b)) (went_to q s b)) (sym w.there)
      (at_once (enter r b (slice_get w.fn.blocks b)) (went_to q s b) (enter s b (slice_get w.gn.blocks b))
      (ap (λ o. enter s b (block_in o b)) w.other)
      (enter_serves r code ws b w all waits (slice_get w.fn.blocks b) refl))

  -- a function is entered with these arguments
  begin_serves : (ws us : List LowWaiting) (u : World) (f : ℕ) (w : Two f) (xs : List Value) → Waits ws us → Serves (begin ws u f w.fn (write_all virtual (Some (virtual.empty w.fn.size)) w.fn.parameters xs)) (begin us u f w.gn (write_all virtual (Some (virtual.empty w.gn.size)) w.gn.parameters xs))
  begin_serves ws us u f w xs waits =
      at_once _ _ _
      (ap (λ n. begin us u f w.gn (write_all virtual (Some (virtual.empty n)) w.gn.parameters xs)) w.same.size
      ∙ ap (λ rs. begin us u f w.gn (write_all virtual (Some (virtual.empty w.fn.size)) rs xs)) w.same.parameters)
      (by_store (write_all virtual (Some (virtual.empty w.fn.size)) w.fn.parameters xs))
    where
      by_store : (o : Option Bank) → Serves (begin ws u f w.fn o) (begin us u f w.gn o)
      by_store None = tt
      by_store (Some s) =
          enter_serves (record { top = record { func = f; code = []; end = Jump 0; store = s }; below = ws; world = u }) [] us 0 w (none_true p.claims (w.same.out 0) s u w.same.nothing) waits (slice_get w.fn.blocks 0) refl

  -- an instruction that goes on behind itself
  finish_serves : (r : LowRunning) (i : Plain ℕ) (is : Code) (code behind : Code) (ws : List LowWaiting) (w : Two r.top.func) (known now : Known) → SmallBank r.top.store → AreTrue p.claims known r.top.store r.world → Learns p.claims known (Do i) now → Follows p.claims w.same.out r.top.end is now behind → Waits r.below ws → (o : Option Did) → effect_of p.claims i (values virtual r.top.store (reads i)) r.world ≡ o → Serves (finish virtual r is (dest i) o) (finish virtual (running r code ws) behind (dest i) o)
  finish_serves r i is code behind ws w known now small all learns follows waits None e = tt
  finish_serves r i is code behind ws w known now small all learns follows waits (Some did) e = by_write (write_to virtual r.top.store (dest i) did.value) refl
    where
      by_write : (o : Option Bank) → write_to virtual r.top.store (dest i) did.value ≡ o → Serves (goes_on r is did.world o) (goes_on (running r code ws) behind did.world o)
      by_write None h = tt
      by_write (Some s) h =
          record {
            two = w;
            code = behind;
            below = ws;
            known = now;
            is = refl;
            all_true = learned p.claims r.top.store s r.world did known now i small e h learns all;
            follows = follows;
            waits = waits;
          }

  -- what an instruction became does the same
  same_effect : (r : LowRunning) (i : Plain ℕ) (new : Instr ℕ Note) (code behind : Code) (ws : List LowWaiting) (known : Known) → AreTrue p.claims known r.top.store r.world → Becomes known (Do i) new → at_instr virtual q (running r code ws) new behind ≡ finish virtual (running r code ws) behind (dest i) (effect_of p.claims i (values virtual r.top.store (reads i)) r.world)
  same_effect r i new code behind ws known all becomes =
      ⊎_elim
      (λ (same : new ≡ Do i).
      ap (λ j. at_instr virtual q (running r code ws) j behind) same
      ∙ ap (λ claims. finish virtual (running r code ws) behind (dest i) (effect_of claims i (values virtual r.top.store (reads i)) r.world)) reloaded.claims)
      (λ (c : IsReload known (Do i) new).
      let source : i ≡ giving c.into c.fact.source = cc in
      ap (λ j. at_instr virtual q (running r code ws) j behind) c.becomes
      ∙ ap (λ claims. finish virtual (running r code ws) behind (Some c.into) (effect_of claims (Set c.into (Register c.fact.register)) (values virtual r.top.store (Register c.fact.register ∷ [])) r.world)) reloaded.claims
      ∙ ap (finish virtual (running r code ws) behind (Some c.into)) (copy_gives p.claims r.top.store r.world c.fact.source c.fact.register c.into (all c.fact c.knows))
      ∙ ap (λ d. finish virtual (running r code ws) behind d (effect_of p.claims (giving c.into c.fact.source) (values virtual r.top.store (reads (giving c.into c.fact.source))) r.world)) (sym (dest_giving c.into c.fact.source))
      ∙ ap (λ j. finish virtual (running r code ws) behind (dest j) (effect_of p.claims j (values virtual r.top.store (reads j)) r.world)) (sym source))
      becomes

  plain_serves : (r : LowRunning) (i : Plain ℕ) (is : Code) (code : Code) (ws : List LowWaiting) (w : Two r.top.func) (known : Known) → SmallBank r.top.store → AreTrue p.claims known r.top.store r.world → Steps p.claims (Follows p.claims w.same.out r.top.end is) (Do i) known code → Waits r.below ws → Serves (at_instr virtual p r (Do i) is) (at_code virtual q (running r code ws) code)
  plain_serves r i is code ws w known small all c waits =
      at_once (at_instr virtual p r (Do i) is) _ _
      (ap (at_code virtual q (running r code ws)) c.is ∙ same_effect r i c.new code c.behind ws known all c.becomes)
      (finish_serves r i is code c.behind ws w known c.now small all c.learns c.goes_on waits (effect_of p.claims i (values virtual r.top.store (reads i)) r.world) refl)

  -- a function gives its value back
  back_serves : (u : World) (v : ℕ) (ws us : List LowWaiting) → Waits ws us → Serves (come_back virtual u ws v) (come_back virtual u us v)
  back_serves u v [] [] waits = refl
  back_serves u v [] (y ∷ us) waits = absurd waits
  back_serves u v (w ∷ ws) [] waits = absurd waits
  back_serves u v (w ∷ ws) (y ∷ us) waits =
      let k = waits.0 in
      at_once (come_back virtual u (w ∷ ws) v) _ _ (ap (λ x. come_back virtual u (x ∷ us) v) k.is) (by_write (write_to virtual w.frame.store w.into (Word v)))
    where
      by_write : (o : Option Bank) → Serves (goes_on (record { top = w.frame; below = ws; world = u }) w.frame.code u o) (goes_on (running (record { top = w.frame; below = ws; world = u }) waits.0.code us) waits.0.code u o)
      by_write None = tt
      by_write (Some s) =
          let k = waits.0 in
          record {
            two = k.two;
            code = k.code;
            below = us;
            known = k.known;
            is = refl;
            all_true = none_true p.claims k.known s u k.nothing;
            follows = k.follows;
            waits = waits.1;
          }

  -- a call stays as it is
  call_stays : (d : Option ℕ) (f : ℕ) (args : List (Operand ℕ)) (note : Note) (known : Known) (new : Instr ℕ Note) → Becomes known (Call d f args note) new → new ≡ Call d f args note
  call_stays d f args note known new becomes =
      ⊎_elim (λ (same : new ≡ Call d f args note). same) (λ (c : IsReload known (Call d f args note) new). absurd (unlike c.fact c.into c.is)) becomes
    where
      unlike : (fact : Fact) (into : ℕ) → Call d f args note ≡ Do (giving into fact.source) → ⊥
      unlike fact into e = cc

  -- nothing is known behind it
  call_forgets : (d : Option ℕ) (f : ℕ) (args : List (Operand ℕ)) (note : Note) (known now : Known) → Learns p.claims known (Call d f args note) now → KnowsNothing now
  call_forgets d f args note known now learns fact knows = ⊎_elim (λ (h : Knows known fact × ⊥). h.1) (λ (h : ⊥). h) (learns fact knows)

  call_serves : (r : LowRunning) (d : Option ℕ) (f : ℕ) (args : List (Operand ℕ)) (note : Note) (is : Code) (code : Code) (ws : List LowWaiting) (w : Two r.top.func) (known : Known) → Steps p.claims (Follows p.claims w.same.out r.top.end is) (Call d f args note) known code → Waits r.below ws → (o : Option LowFunction) → slice_get p.functions f ≡ o → (os : Option (List Value)) → values virtual r.top.store args ≡ os → Serves (call virtual r is d f note o os) (at_code virtual q (running r code ws) code)
  unfolding two
  call_serves r d f args note is code ws w known c waits None e os e2 = tt
  call_serves r d f args note is code ws w known c waits (Some fn) e None e2 = tt
  call_serves r d f args note is code ws w known c waits (Some fn) e (Some xs) e2 =
      let s = running r code ws in
      at_once (call virtual r is d f note (Some fn) (Some xs)) _ _
      (ap (at_code virtual q s) c.is
      ∙ ap (λ j. at_instr virtual q s j c.behind) (call_stays d f args note known c.new c.becomes)
      ∙ ap (λ o. call virtual s c.behind d f note o (values virtual r.top.store args)) (two f fn e).other
      ∙ ap (λ o. call virtual s c.behind d f note (Some (two f fn e).gn) o) e2)
      (by_test (nat_lt f r.top.func))
    where
      by_test : (b : Bool) → Serves (only_where b (begin (waiting virtual r.top is d note ∷ r.below) r.world f fn (write_all virtual (Some (virtual.empty fn.size)) fn.parameters xs))) (only_where b (begin (waiting virtual (running r code ws).top c.behind d note ∷ ws) r.world f (two f fn e).gn (write_all virtual (Some (virtual.empty (two f fn e).gn.size)) (two f fn e).gn.parameters xs)))
      by_test false = tt
      by_test true =
          begin_serves (waiting virtual r.top is d note ∷ r.below) (waiting virtual (running r code ws).top c.behind d note ∷ ws) r.world f (two f fn e) xs (
            record { two = w; code = c.behind; known = c.now; nothing = call_forgets d f args note known c.now c.learns; is = refl; follows = c.goes_on },
            waits,
          )

  -- one of two blocks
  either_true : (func : ℕ) (w : Two func) (s : Bank) (u : World) (b1 b2 : ℕ) → AreTrue p.claims (w.same.out b1) s u → AreTrue p.claims (w.same.out b2) s u → (b : Bool) → AreTrue p.claims (w.same.out (if b then b1 else b2)) s u
  either_true func w s u b1 b2 one two true = one
  either_true func w s u b1 b2 one two false = two

  -- the end of a block
  branch_serves : (r : LowRunning) (code : Code) (ws : List LowWaiting) (c : Condition) (b1 b2 : ℕ) (w : Two r.top.func) → AreTrue p.claims (w.same.out b1) r.top.store r.world → AreTrue p.claims (w.same.out b2) r.top.store r.world → Waits r.below ws → (o1 o2 : Option Value) → Serves (branches p r (chosen c b1 b2 o1 o2)) (branches q (running r code ws) (chosen c b1 b2 o1 o2))
  branch_serves r code ws c b1 b2 w one other waits None o2 = tt
  branch_serves r code ws c b1 b2 w one other waits (Some (Pointer o n)) o2 = tt
  branch_serves r code ws c b1 b2 w one other waits (Some (Word m)) None = tt
  branch_serves r code ws c b1 b2 w one other waits (Some (Word m)) (Some (Pointer o n)) = tt
  branch_serves r code ws c b1 b2 w one other waits (Some (Word m)) (Some (Word n)) = jump_serves r code ws (if holds c m n then b1 else b2) w (either_true r.top.func w r.top.store r.world b1 b2 one other (holds c m n)) waits

  return_serves : (r : LowRunning) (code : Code) (ws : List LowWaiting) → Waits r.below ws → (o : Option Value) → Serves (give_back virtual r o) (give_back virtual (running r code ws) o)
  return_serves r code ws waits None = tt
  return_serves r code ws waits (Some (Pointer o n)) = tt
  return_serves r code ws waits (Some (Word v)) = back_serves r.world v r.below ws waits

  end_serves : (r : LowRunning) (code : Code) (ws : List LowWaiting) (w : Two r.top.func) (known : Known) → AreTrue p.claims known r.top.store r.world → Waits r.below ws → (end : End ℕ) → Hands w.same.out end known → Serves (at_end virtual p r end) (at_end virtual q (running r code ws) end)
  end_serves r code ws w known all waits (Jump b) hands = jump_serves r code ws b w (λ f knows. all f (hands b refl f knows)) waits
  end_serves r code ws w known all waits (Branch c x y b1 b2) hands =
      branch_serves r code ws c b1 b2 w (λ f knows. all f (hands b1 (inl refl) f knows)) (λ f knows. all f (hands b2 (inr refl) f knows)) waits (operand_value virtual r.top.store x) (operand_value virtual r.top.store y)
  end_serves r code ws w known all waits (Return x) hands = return_serves r code ws waits (operand_value virtual r.top.store x)

  instr_serves : (r : LowRunning) (i : Instr ℕ Note) (is : Code) (code : Code) (ws : List LowWaiting) (w : Two r.top.func) (known : Known) → SmallBank r.top.store → AreTrue p.claims known r.top.store r.world → Steps p.claims (Follows p.claims w.same.out r.top.end is) i known code → Waits r.below ws → Serves (at_instr virtual p r i is) (at_code virtual q (running r code ws) code)
  instr_serves r (Do i) is code ws w known small all c waits = plain_serves r i is code ws w known small all c waits
  instr_serves r (Call d f args note) is code ws w known small all c waits =
      call_serves r d f args note is code ws w known c waits (slice_get p.functions f) refl (values virtual r.top.store args) refl

  code_serves : (r : LowRunning) (code2 : Code) (ws : List LowWaiting) (w : Two r.top.func) (known : Known) → SmallBank r.top.store → AreTrue p.claims known r.top.store r.world → Waits r.below ws → (code : Code) → Follows p.claims w.same.out r.top.end code known code2 → Serves (at_code virtual p r code) (at_code virtual q (running r code2 ws) code2)
  code_serves r code2 ws w known small all waits [] follows =
      at_once (at_end virtual p r r.top.end) _ _ (ap (at_code virtual q (running r code2 ws)) follows.0) (end_serves r code2 ws w known all waits r.top.end follows.1)
  code_serves r code2 ws w known small all waits (i ∷ is) follows = instr_serves r i is code2 ws w known small all follows waits

  -- one step
  step_serves : (r s : LowRun) → SmallRun r → Serves r s → Serves (step virtual p r) (step virtual q s)
  step_serves (Going r) s small h =
      at_once (at_code virtual p r r.top.code) _ _ (ap (step virtual q) h.is) (code_serves r h.code h.below h.two h.known small.bank h.all_true h.waits r.top.code h.follows)
  step_serves (Done v u) s small h = ap (step virtual q) h
  step_serves Bad s small h = tt

  run_serves : (n : ℕ) (r s : LowRun) → SmallRun r → Serves r s → Serves (run virtual p n r) (run virtual q n s)
  run_serves zero r s small h = h
  run_serves (suc n) r s small h = run_serves n (step virtual p r) (step virtual q s) (step_small p r small) (step_serves r s small h)

  first_serves : (input : List ℕ) → Serves (first virtual p input) (first virtual q input)
  unfolding two
  first_serves input = by_main (slice_get p.functions p.main) refl
    where
      by_main : (o : Option LowFunction) → slice_get p.functions p.main ≡ o → Serves (first_in virtual (start p.objects input) p.main o) (first virtual q input)
      by_main None e = tt
      by_main (Some fn) e =
          let w = two p.main fn e in
          at_once (first_in virtual (start p.objects input) p.main (Some fn)) _ _
          (ap (λ objects. first_in virtual (start objects input) q.main (slice_get q.functions q.main)) reloaded.objects
          ∙ ap (λ m. first_in virtual (start p.objects input) m (slice_get q.functions m)) reloaded.main
          ∙ ap (first_in virtual (start p.objects input) p.main) w.other)
          (begin_serves [] [] (start p.objects input) p.main w [] tt)

  -- the loops are the same
  loops_serve : (trace : List Began) → KeepsLoops p trace → KeepsLoops q trace
  loops_serve trace kept f g e =
      let k = before (FunctionReloaded p.claims) p.functions q.functions f g reloaded.functions e in
      subst (All (KeepsLoop f trace)) (sym k.related.loops) (kept f k.it k.there)

  -- each good run is served
  pub served : (input : List ℕ) (n v : ℕ) (u : World) → All (λ c. c < 2 ^ 8) input → IsGood p (lrun p input n) v u → IsGood q (lrun q input n) v u
  served input n v u bytes good =
      record {
        done = subst (λ r. Serves r (lrun q input n)) good.done (run_serves n (first virtual p input) (first virtual q input) (first_small p input bytes) (first_serves input));
        loops = loops_serve u.trace good.loops;
      }
