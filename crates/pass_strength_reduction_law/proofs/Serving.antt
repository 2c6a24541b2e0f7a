-- The run through pointers that step follows the run of the program, step by step; it goes ahead where it has an instruction more.
use Rattle.std.proofs.Common.{◌≡◌, ◌<◌, ℕ, zero, suc, ◌+◌, Bool, true, false, List, [], ◌∷◌, length, Option, Some, None, refl, sym, ap, ◌∙◌, subst, ⊎_elim, inl, inr}
use Rattle.std.specs.Prelude.{All, if◌then◌else◌, nat_lt, option_to_list, slice_get, slice_set}
use Rattle.std.proofs.lemmas.List.{length-replicate}
use Rattle.std.proofs.lemmas.List.Elements.{All-cons, All-head, All-nil, All-tail}
use Rattle.rv_core.specs.declared.row.Condition.{Condition}
use Rattle.rv_core.specs.Arithmetic.{holds}
use Rattle.low_ir.specs.Code.{Operand, Register, Constant, Plain, Instr, Do, Call, End, Jump, Branch, Return, Block, Low, Note}
use Rattle.low_ir.specs.declared.run.Began.{Began}
use Rattle.low_ir.specs.declared.run.Value.{Value}
use Rattle.low_ir.specs.declared.run.Value.TheVariants.{Word, Pointer}
use Rattle.low_ir.specs.Effects.{World, Did, start, reads, dest, effect_of}
use Rattle.low_ir.specs.Formed.{LeadsOn, end_reads, registers_in}
use Rattle.low_ir.specs.Runs.{Going, Done, Bad, Bank, operand_value, values, write_to, goes_on, finish, enter, block_in, went_to, write_all, begin, only_where, waiting, call, at_instr, come_back, give_back, chosen, branches, at_end, at_code, step, run, first, first_in, lrun, virtual}
use Rattle.low_ir.specs.Turns.{IsGood, KeepsLoop, KeepsLoops}
use Rattle.pass_constant_hoisting.specs.Carried.{Ends as EndsSo}
use Rattle.pass_strength_reduction_law.specs.Knowing.{AlwaysGives, CallTeaches, DoesTheSame, InstrTeaches, Knowing, Teaches, with_value}
use Rattle.pass_strength_reduction_law.specs.Steps.{Entries, Passes, BlockNamesNoSpare, Carries, Code, Follows, FunctionStepped, Inserts, IsNamed, IsStepped, NamesNoSpare, Passes, Replaces, claims_of}
use Rattle.pass_strength_reduction_law.proofs.Blocks.{before_function, found_block, found_function}
use Rattle.pass_strength_reduction_law.proofs.Claims.{done_still}
use Rattle.pass_strength_reduction_law.proofs.Stores.{Alike, all_length, both_written, spare_written, value_same, values_same}
use Rattle.low_parts.proofs.Runs.{LowFunction, LowRun, LowRunning, LowWaiting, run_more, running}

all_at : {A : Type 0} (P : A → Type 0) (xs : List A) (n : ℕ) (x : A) → All P xs → slice_get xs n ≡ Some x → P x
all_at P [] n x all e = cc
all_at P (y ∷ xs) zero x all e = let same : y ≡ x = cc in subst P same (All-head P y xs all)
all_at P (y ∷ xs) (suc n) x all e = all_at P xs n x (All-tail P y xs all) e

-- of two operands
first_named : (spare : ℕ → Bool) (x y : Operand ℕ) → All (IsNamed spare) (registers_in (x ∷ y ∷ [])) → All (IsNamed spare) (registers_in (x ∷ []))
first_named spare (Register r) y all = All-cons (IsNamed spare) r [] (All-head (IsNamed spare) r (registers_in (y ∷ [])) all) (All-nil (IsNamed spare))
first_named spare (Constant w) y all = All-nil (IsNamed spare)

second_named : (spare : ℕ → Bool) (x y : Operand ℕ) → All (IsNamed spare) (registers_in (x ∷ y ∷ [])) → All (IsNamed spare) (registers_in (y ∷ []))
second_named spare (Register r) y all = All-tail (IsNamed spare) r (registers_in (y ∷ [])) all
second_named spare (Constant w) y all = all

module _ (p q : Low) (stepped : IsStepped p q) where
  abbrev entry : Entries
  entry = stepped.entry

  -- a function, and what became of it
  record Two (func : ℕ) : Type 0 where
    fn : LowFunction
    gn : LowFunction
    there : slice_get p.functions func ≡ Some fn
    other : slice_get q.functions func ≡ Some gn
    same : FunctionStepped p q entry func fn gn

  two : (f : ℕ) (fn : LowFunction) → slice_get p.functions f ≡ Some fn → Two f
  two f fn e =
      let k = found_function p q entry p.functions q.functions stepped.functions f fn e in
      record { fn = fn; gn = k.it; there = e; other = k.there; same = k.stepped }

  -- the two stores of an activation
  record Stand (func : ℕ) (w : Two func) (s t : Bank) : Type 0 where
    wide : length s ≡ w.fn.size
    long : length t ≡ w.fn.size
    alike : Alike w.same.spare s t

  -- the rest of a block names nothing spare, and is followed
  record Rest (func : ℕ) (w : Two func) (code : Code) (end : End ℕ) (code2 : Code) (end2 : End ℕ) (at : Knowing) : Type 0 where
    own : All (NamesNoSpare w.same.spare) code
    last : All (IsNamed w.same.spare) (end_reads end)
    follows : Follows p q entry w.same.spare w.same.out w.fn end end2 code2 at code

  -- the activation on top
  record Top (func : ℕ) (code : Code) (end : End ℕ) (store : Bank) (code2 : Code) (end2 : End ℕ) (t : Bank) : Type 0 where
    two : Two func
    at : Knowing
    stand : Stand func two store t
    knows : at t ≡ true
    rest : Rest func two code end code2 end2 at

  -- an activation that waits
  record Pending (w u : LowWaiting) : Type 0 where
    two : Two w.frame.func
    now : Knowing
    code : Code
    end : End ℕ
    store : Bank
    is : u ≡ record { frame = record { func = w.frame.func; code = code; end = end; store = store }; into = w.into }
    stand : Stand w.frame.func two w.frame.store store
    teaches : (v : ℕ) → now (with_value store w.into (Word v)) ≡ true
    rest : Rest w.frame.func two w.frame.code w.frame.end code end now

  abbrev Waits : List LowWaiting → List LowWaiting → Type 0
  Waits [] [] = Unit {0}
  Waits [] (u ∷ us) = ⊥
  Waits (w ∷ ws) [] = ⊥
  Waits (w ∷ ws) (u ∷ us) = Pending w u × Waits ws us

  record Rel (r : LowRunning) (s : LowRun) : Type 0 where
    code : Code
    end : End ℕ
    store : Bank
    below : List LowWaiting
    is : s ≡ Going (running r code end store below)
    top : Top r.top.func r.top.code r.top.end r.top.store code end store
    waits : Waits r.below below

  abbrev Serves : LowRun → LowRun → Type 0
  Serves (Going r) s = Rel r s
  Serves (Done v u) s = s ≡ Done v u
  Serves Bad s = Unit {0}

  -- after some steps
  record Later (r s : LowRun) : Type 0 where
    steps : ℕ
    serves : Serves r (run virtual q steps s)

  at_once : (r s t : LowRun) → s ≡ t → Serves r t → Serves r s
  at_once r s t e h = subst (λ x. Serves r x) (sym e) h

  -- a block is entered
  enter_serves : (r : LowRunning) (code : Code) (end : End ℕ) (t : Bank) (ws : List LowWaiting) (b : ℕ) (w : Two r.top.func) → Stand r.top.func w r.top.store t → w.same.out b t ≡ true → Waits r.below ws → (o : Option (Block ℕ Note)) → slice_get w.fn.blocks b ≡ o → Serves (enter r b o) (enter (running r code end t ws) b (slice_get w.gn.blocks b))
  enter_serves r code end t ws b w stand knows waits None e = tt
  enter_serves r code end t ws b w stand knows waits (Some bl) e =
      let k = found_block p q entry w.same.spare w.same.out w.fn w.fn.blocks w.gn.blocks w.same.blocks b bl e in
      let own = all_at (BlockNamesNoSpare w.same.spare) w.fn.blocks b bl w.same.unnamed e in
      record {
        code = k.it.code;
        end = k.it.end;
        store = t;
        below = ws;
        is = ap (enter (running r code end t ws) b) k.there;
        top = record { two = w; at = w.same.out b; stand = stand; knows = knows; rest = record { own = own.0; last = own.1; follows = k.stepped.code } };
        waits = waits;
      }

  -- a jump to a block from an end
  jump_serves : (r : LowRunning) (code : Code) (end : End ℕ) (t : Bank) (ws : List LowWaiting) (b : ℕ) (w : Two r.top.func) → Stand r.top.func w r.top.store t → w.same.out b t ≡ true → Waits r.below ws → Serves (went_to p r b) (went_to q (running r code end t ws) b)
  jump_serves r code end t ws b w stand knows waits =
      let s = running r code end t ws in
      subst (λ o. Serves (enter r b (block_in o b)) (went_to q s b)) (sym w.there)
      (at_once (enter r b (slice_get w.fn.blocks b)) (went_to q s b) (enter s b (slice_get w.gn.blocks b))
      (ap (λ o. enter s b (block_in o b)) w.other)
      (enter_serves r code end t ws b w stand knows waits (slice_get w.fn.blocks b) refl))

  -- a function is entered with these arguments
  begin_serves : (ws us : List LowWaiting) (u : World) (f : ℕ) (w : Two f) (xs : List Value) → entry f xs ≡ true → Waits ws us → (o : Option Bank) → write_all virtual (Some (virtual.empty w.fn.size)) w.fn.parameters xs ≡ o → Serves (begin ws u f w.fn o) (begin us u f w.gn (write_all virtual (Some (virtual.empty w.gn.size)) w.gn.parameters xs))
  begin_serves ws us u f w xs may waits None e = tt
  begin_serves ws us u f w xs may waits (Some s) e =
      let r : LowRunning = record { top = record { func = f; code = []; end = Jump 0; store = s }; below = ws; world = u } in
      let long = all_length w.fn.parameters xs (virtual.empty w.fn.size) s e ∙ length-replicate {A = Option Value} w.fn.size None in
      at_once (begin ws u f w.fn (Some s)) _ _
      (ap (λ n. begin us u f w.gn (write_all virtual (Some (virtual.empty n)) w.gn.parameters xs)) w.same.size
      ∙ ap (λ rs. begin us u f w.gn (write_all virtual (Some (virtual.empty w.fn.size)) rs xs)) w.same.parameters
      ∙ ap (begin us u f w.gn) e)
      (enter_serves r [] (Jump 0) s us 0 w (record { wide = long; long = long; alike = λ v named. refl }) (w.same.first xs s may e) waits (slice_get w.fn.blocks 0) refl)

  -- an instruction that goes on behind itself, and what stands in its place
  do_serves : (r : LowRunning) (is : Code) (code : Code) (end : End ℕ) (t : Bank) (ws : List LowWaiting) (behind : Code) (w : Two r.top.func) (now : Knowing) (d : Option ℕ) → Stand r.top.func w r.top.store t → Rest r.top.func w is r.top.end behind end now → Waits r.below ws → (o o2 : Option Did) → ((did : Did) → o ≡ Some did → o2 ≡ Some did) → ((did : Did) → o ≡ Some did → now (with_value t d did.value) ≡ true) → Serves (finish virtual r is d o) (finish virtual (running r code end t ws) behind d o2)
  do_serves r is code end t ws behind w now d stand rest waits None o2 same teaches = tt
  do_serves r is code end t ws behind w now d stand rest waits (Some did) o2 same teaches =
      let s = running r code end t ws in
      at_once (finish virtual r is d (Some did)) (finish virtual s behind d o2) (finish virtual s behind d (Some did)) (ap (finish virtual s behind d) (same did refl)) (by_write (write_to virtual r.top.store d did.value) refl)
    where
      by_write : (o : Option Bank) → write_to virtual r.top.store d did.value ≡ o → Serves (goes_on r is did.world o) (goes_on (running r code end t ws) behind did.world (write_to virtual t d did.value))
      by_write None h = tt
      by_write (Some s) h =
          let b = both_written w.same.spare w.fn.size r.top.store s t d did.value stand.wide stand.long stand.alike h in
          record {
            code = behind;
            end = end;
            store = with_value t d did.value;
            below = ws;
            is = ap (goes_on (running r code end t ws) behind did.world) b.is;
            top = record { two = w; at = now; stand = record { wide = b.wide; long = b.long; alike = b.alike }; knows = teaches did refl; rest = rest };
            waits = waits;
          }

  -- more claims
  still : (i : Plain ℕ) (os : Option (List Value)) (u : World) (did : Did) → effect_of p.claims i os u ≡ Some did → effect_of q.claims i os u ≡ Some did
  still i os u did e = subst (λ claims. effect_of claims i os u ≡ Some did) (sym stepped.claims) (done_still p.claims (claims_of stepped.alone) i os u did e)

  -- an instruction of both
  plain_serves : (r : LowRunning) (i : Plain ℕ) (is : Code) (end : End ℕ) (t : Bank) (ws : List LowWaiting) (js : Code) (w : Two r.top.func) (at now : Knowing) → Stand r.top.func w r.top.store t → at t ≡ true → NamesNoSpare w.same.spare (Do i) → Teaches w.fn.size p.claims i at now → Rest r.top.func w is r.top.end js end now → Waits r.below ws → Serves (at_instr virtual p r (Do i) is) (at_instr virtual q (running r (Do i ∷ js) end t ws) (Do i) js)
  plain_serves r i is end t ws js w at now stand knows named teaches rest waits =
      let os = values virtual r.top.store (reads i) in
      let same = values_same w.same.spare r.top.store t stand.alike (reads i) named.0 in
      do_serves r is (Do i ∷ js) end t ws js w now (dest i) stand rest waits (effect_of p.claims i os r.world) (effect_of q.claims i (values virtual t (reads i)) r.world)
      (λ did e. ap (λ o. effect_of q.claims i o r.world) same ∙ still i os r.world did e)
      (λ did e. teaches t r.world did (stand.long, knows) (ap (λ o. effect_of p.claims i o r.world) same ∙ e))

  -- one in place of another
  replaced_serves : (r : LowRunning) (i j : Plain ℕ) (is : Code) (end : End ℕ) (t : Bank) (ws : List LowWaiting) (js : Code) (w : Two r.top.func) (at now : Knowing) → Stand r.top.func w r.top.store t → at t ≡ true → NamesNoSpare w.same.spare (Do i) → dest j ≡ dest i → DoesTheSame w.fn.size at p.claims i q.claims j → Teaches w.fn.size p.claims i at now → Rest r.top.func w is r.top.end js end now → Waits r.below ws → Serves (at_instr virtual p r (Do i) is) (at_instr virtual q (running r (Do j ∷ js) end t ws) (Do j) js)
  replaced_serves r i j is end t ws js w at now stand knows named into alike teaches rest waits =
      let os = values virtual r.top.store (reads i) in
      let same = values_same w.same.spare r.top.store t stand.alike (reads i) named.0 in
      subst (λ d. Serves (at_instr virtual p r (Do i) is) (finish virtual (running r (Do j ∷ js) end t ws) js d (effect_of q.claims j (values virtual t (reads j)) r.world))) (sym into)
      (do_serves r is (Do j ∷ js) end t ws js w now (dest i) stand rest waits (effect_of p.claims i os r.world) (effect_of q.claims j (values virtual t (reads j)) r.world)
      (λ did e. alike t r.world did (stand.long, knows) (ap (λ o. effect_of p.claims i o r.world) same ∙ e))
      (λ did e. teaches t r.world did (stand.long, knows) (ap (λ o. effect_of p.claims i o r.world) same ∙ e)))

  -- a function gives its value back
  back_serves : (u : World) (v : ℕ) (ws us : List LowWaiting) → Waits ws us → Serves (come_back virtual u ws v) (come_back virtual u us v)
  back_serves u v [] [] waits = refl
  back_serves u v [] (y ∷ us) waits = absurd waits
  back_serves u v (w ∷ ws) [] waits = absurd waits
  back_serves u v (w ∷ ws) (y ∷ us) waits = by_write (write_to virtual w.frame.store w.into (Word v)) refl
    where
      by_write : (o : Option Bank) → write_to virtual w.frame.store w.into (Word v) ≡ o → Serves (goes_on (record { top = w.frame; below = ws; world = u }) w.frame.code u o) (come_back virtual u (y ∷ us) v)
      by_write None h = tt
      by_write (Some s) h =
          let k = waits.0 in
          let b = both_written k.two.same.spare k.two.fn.size w.frame.store s k.store w.into (Word v) k.stand.wide k.stand.long k.stand.alike h in
          let z : LowWaiting = record { frame = record { func = w.frame.func; code = k.code; end = k.end; store = k.store }; into = w.into } in
          record {
            code = k.code;
            end = k.end;
            store = with_value k.store w.into (Word v);
            below = us;
            is = ap (λ x. come_back virtual u (x ∷ us) v) k.is ∙ ap (goes_on (record { top = z.frame; below = us; world = u }) z.frame.code u) b.is;
            top = record { two = k.two; at = k.now; stand = record { wide = b.wide; long = b.long; alike = b.alike }; knows = k.teaches v; rest = k.rest };
            waits = waits.1;
          }

  -- a call
  call_serves : (r : LowRunning) (d : Option ℕ) (f : ℕ) (args : List (Operand ℕ)) (note : Note) (is : Code) (end : End ℕ) (t : Bank) (ws : List LowWaiting) (js : Code) (w : Two r.top.func) (at now : Knowing) → Stand r.top.func w r.top.store t → at t ≡ true → NamesNoSpare w.same.spare (Call d f args note) → CallTeaches w.fn.size d at now → Passes w.fn.size entry (Call d f args note) at → Rest r.top.func w is r.top.end js end now → Waits r.below ws → (o : Option LowFunction) → slice_get p.functions f ≡ o → (os : Option (List Value)) → values virtual r.top.store args ≡ os → Serves (call virtual r is d f note o os) (at_instr virtual q (running r (Call d f args note ∷ js) end t ws) (Call d f args note) js)
  unfolding two
  call_serves r d f args note is end t ws js w at now stand knows named teaches passes rest waits None e os e2 = tt
  call_serves r d f args note is end t ws js w at now stand knows named teaches passes rest waits (Some fn) e None e2 = tt
  call_serves r d f args note is end t ws js w at now stand knows named teaches passes rest waits (Some fn) e (Some xs) e2 =
      let s = running r (Call d f args note ∷ js) end t ws in
      at_once (call virtual r is d f note (Some fn) (Some xs)) _ _
      (ap (λ o. call virtual s js d f note o (values virtual t args)) (two f fn e).other
      ∙ ap (call virtual s js d f note (Some (two f fn e).gn)) (values_same w.same.spare r.top.store t stand.alike args named.0 ∙ e2))
      (by_test (nat_lt f r.top.func))
    where
      by_test : (b : Bool) → Serves (only_where b (begin (waiting virtual r.top is d note ∷ r.below) r.world f fn (write_all virtual (Some (virtual.empty fn.size)) fn.parameters xs))) (only_where b (begin (waiting virtual (running r (Call d f args note ∷ js) end t ws).top js d note ∷ ws) r.world f (two f fn e).gn (write_all virtual (Some (virtual.empty (two f fn e).gn.size)) (two f fn e).gn.parameters xs)))
      by_test false = tt
      by_test true =
          begin_serves (waiting virtual r.top is d note ∷ r.below) (waiting virtual (running r (Call d f args note ∷ js) end t ws).top js d note ∷ ws) r.world f (two f fn e) xs (passes t xs (stand.long, knows) (values_same w.same.spare r.top.store t stand.alike args named.0 ∙ e2)) (
            record {
              two = w;
              now = now;
              code = js;
              end = end;
              store = t;
              is = refl;
              stand = stand;
              teaches = λ v. teaches t v (stand.long, knows);
              rest = rest;
            },
            waits,
          )
          (write_all virtual (Some (virtual.empty fn.size)) fn.parameters xs) refl

  carry_serves : (r : LowRunning) (i : Instr ℕ Note) (is : Code) (end : End ℕ) (t : Bank) (ws : List LowWaiting) (js : Code) (w : Two r.top.func) (at now : Knowing) → Stand r.top.func w r.top.store t → at t ≡ true → NamesNoSpare w.same.spare i → InstrTeaches w.fn.size p.claims i at now → Passes w.fn.size entry i at → Rest r.top.func w is r.top.end js end now → Waits r.below ws → Serves (at_instr virtual p r i is) (at_instr virtual q (running r (i ∷ js) end t ws) i js)
  carry_serves r (Do i) is end t ws js w at now stand knows named teaches passes rest waits = plain_serves r i is end t ws js w at now stand knows named teaches rest waits
  carry_serves r (Call d f args note) is end t ws js w at now stand knows named teaches passes rest waits =
      call_serves r d f args note is end t ws js w at now stand knows named teaches passes rest waits (slice_get p.functions f) refl (values virtual r.top.store args) refl

  -- the end of a block
  branch_serves : (r : LowRunning) (code : Code) (end2 : End ℕ) (t : Bank) (ws : List LowWaiting) (c : Condition) (b1 b2 : ℕ) (w : Two r.top.func) → Stand r.top.func w r.top.store t → w.same.out b1 t ≡ true → w.same.out b2 t ≡ true → Waits r.below ws → (o1 o2 : Option Value) → Serves (branches p r (chosen c b1 b2 o1 o2)) (branches q (running r code end2 t ws) (chosen c b1 b2 o1 o2))
  branch_serves r code end2 t ws c b1 b2 w stand one other waits None o2 = tt
  branch_serves r code end2 t ws c b1 b2 w stand one other waits (Some (Pointer o n)) o2 = tt
  branch_serves r code end2 t ws c b1 b2 w stand one other waits (Some (Word m)) None = tt
  branch_serves r code end2 t ws c b1 b2 w stand one other waits (Some (Word m)) (Some (Pointer o n)) = tt
  branch_serves r code end2 t ws c b1 b2 w stand one other waits (Some (Word m)) (Some (Word n)) = jump_serves r code end2 t ws (if holds c m n then b1 else b2) w stand (either (holds c m n)) waits
    where
      either : (b : Bool) → w.same.out (if b then b1 else b2) t ≡ true
      either true = one
      either false = other

  return_serves : (r : LowRunning) (code : Code) (end2 : End ℕ) (t : Bank) (ws : List LowWaiting) → Waits r.below ws → (o : Option Value) → Serves (give_back virtual r o) (give_back virtual (running r code end2 t ws) o)
  return_serves r code end2 t ws waits None = tt
  return_serves r code end2 t ws waits (Some (Pointer o n)) = tt
  return_serves r code end2 t ws waits (Some (Word v)) = back_serves r.world v r.below ws waits

  end_serves : (r : LowRunning) (end2 : End ℕ) (t : Bank) (ws : List LowWaiting) (w : Two r.top.func) → Stand r.top.func w r.top.store t → Waits r.below ws → (end : End ℕ) → ((n : ℕ) → LeadsOn end n → w.same.out n t ≡ true) → All (IsNamed w.same.spare) (end_reads end) → Serves (at_end virtual p r end) (at_end virtual q (running r [] end2 t ws) end)
  end_serves r end2 t ws w stand waits (Jump b) known named = jump_serves r [] end2 t ws b w stand (known b refl) waits
  end_serves r end2 t ws w stand waits (Branch c x y b1 b2) known named =
      let s = running r [] end2 t ws in
      at_once (at_end virtual p r (Branch c x y b1 b2)) _ _
      (ap (λ o. branches q s (chosen c b1 b2 o (operand_value virtual t y))) (value_same w.same.spare r.top.store t stand.alike x (first_named w.same.spare x y named))
      ∙ ap (λ o. branches q s (chosen c b1 b2 (operand_value virtual r.top.store x) o)) (value_same w.same.spare r.top.store t stand.alike y (second_named w.same.spare x y named)))
      (branch_serves r [] end2 t ws c b1 b2 w stand (known b1 (inl refl)) (known b2 (inr refl)) waits (operand_value virtual r.top.store x) (operand_value virtual r.top.store y))
  end_serves r end2 t ws w stand waits (Return x) known named =
      at_once (at_end virtual p r (Return x)) _ _
      (ap (give_back virtual (running r [] end2 t ws)) (value_same w.same.spare r.top.store t stand.alike x named))
      (return_serves r [] end2 t ws waits (operand_value virtual r.top.store x))

  one_step : (r s : LowRun) → Serves r (step virtual q s) → Later r s
  one_step r s h = record { steps = 1; serves = h }

  -- one step ahead
  ahead : (r s : LowRun) → Later r (step virtual q s) → Later r s
  ahead r s h = record { steps = suc h.steps; serves = h.serves }

  -- what follows an instruction of the first program
  behind_own : (spare : ℕ → Bool) (code : Code) (i : Instr ℕ Note) (is : Code) → code ≡ i ∷ is → All (NamesNoSpare spare) code → NamesNoSpare spare i × All (NamesNoSpare spare) is
  behind_own spare code i is e all =
      let h = subst (All (NamesNoSpare spare)) e all in
      (All-head (NamesNoSpare spare) i is h, All-tail (NamesNoSpare spare) i is h)

  -- the second program has done what it has more
  record Done_more (r : LowRunning) (j : Instr ℕ Note) (js : Code) (end2 : End ℕ) (ws : List LowWaiting) (w : Two r.top.func) (t : Bank) (now : Knowing) : Type 0 where
    store : Bank
    stand : Stand r.top.func w r.top.store store
    knows : now store ≡ true
    is : step virtual q (Going (running r (j ∷ js) end2 t ws)) ≡ Going (running r js end2 store ws)

  does_more : (r : LowRunning) (i : Plain ℕ) (register : ℕ) (js : Code) (end2 : End ℕ) (ws : List LowWaiting) (w : Two r.top.func) (t : Bank) (at now : Knowing) → Stand r.top.func w r.top.store t → at t ≡ true → dest i ≡ Some register → w.same.spare register ≡ true → All (λ x. x < w.fn.size) (option_to_list (dest i)) → AlwaysGives w.fn.size q.claims i register at now → Done_more r (Do i) js end2 ws w t now
  does_more r i register js end2 ws w t at now stand knows into spared within gives =
      let g = gives t r.world (stand.long, knows) in
      let low = All-head (λ x. x < w.fn.size) register [] (subst (λ o. All (λ x. x < w.fn.size) (option_to_list o)) into within) in
      let k = spare_written w.same.spare w.fn.size r.top.store t register g.value spared low stand.long stand.alike in
      let s = running r (Do i ∷ js) end2 t ws in
      record {
        store = slice_set t register (Some g.value);
        stand = record { wide = stand.wide; long = k.long; alike = k.alike };
        knows = g.known;
        is =
            ap (finish virtual s js (dest i)) g.is
            ∙ ap (λ d. goes_on s js r.world (write_to virtual t d g.value)) into
            ∙ ap (goes_on s js r.world) k.is;
      }

  code_serves : (r : LowRunning) (end2 : End ℕ) (ws : List LowWaiting) (w : Two r.top.func) → Waits r.below ws → (code : Code) → All (NamesNoSpare w.same.spare) code → All (IsNamed w.same.spare) (end_reads r.top.end) → (code2 : Code) (t : Bank) (at : Knowing) → Stand r.top.func w r.top.store t → at t ≡ true → Follows p q entry w.same.spare w.same.out w.fn r.top.end end2 code2 at code → Later (at_code virtual p r code) (Going (running r code2 end2 t ws))
  code_serves r end2 ws w waits code own last [] t at stand knows h =
      subst (λ is. Later (at_code virtual p r is) (Going (running r [] end2 t ws))) (sym h.done)
      (one_step (at_end virtual p r r.top.end) (Going (running r [] end2 t ws))
      (at_once (at_end virtual p r r.top.end) _ _ (ap (at_end virtual q (running r [] end2 t ws)) h.is)
      (end_serves r end2 t ws w stand waits r.top.end (λ n to. h.known n t to (stand.long, knows)) last)))
  code_serves r end2 ws w waits code own last (j ∷ js) t at stand knows h =
      let so = Follows p q entry w.same.spare w.same.out w.fn r.top.end end2 js in
      let s = running r (j ∷ js) end2 t ws in
      ⊎_elim
      (λ (c : Carries p q entry w.same.spare w.same.out w.fn so j at code).
      let b = behind_own w.same.spare code j c.behind c.is own in
      subst (λ is. Later (at_code virtual p r is) (Going s)) (sym c.is)
      (one_step (at_instr virtual p r j c.behind) (Going s) (carry_serves r j c.behind end2 t ws js w at c.now stand knows b.0 c.teaches c.passes (record { own = b.1; last = last; follows = c.goes_on }) waits)))
      (⊎_elim
      (λ (c : Replaces p q entry w.same.spare w.same.out w.fn so j at code).
      let b = behind_own w.same.spare code (Do c.old) c.behind c.is own in
      subst (λ x. Later (at_code virtual p r code) (Going (running r (x ∷ js) end2 t ws))) (sym c.becomes)
      (subst (λ is. Later (at_code virtual p r is) (Going (running r (Do c.new ∷ js) end2 t ws))) (sym c.is)
      (one_step (at_instr virtual p r (Do c.old) c.behind) (Going (running r (Do c.new ∷ js) end2 t ws))
      (replaced_serves r c.old c.new c.behind end2 t ws js w at c.now stand knows b.0 c.into c.same c.teaches (record { own = b.1; last = last; follows = c.goes_on }) waits))))
      (λ (c : Inserts p q entry w.same.spare w.same.out w.fn so j at code).
      let m = does_more r c.new c.register js end2 ws w t at c.now stand knows c.into c.spared c.placed.registers.1 c.gives in
      subst (λ x. Later (at_code virtual p r code) (Going (running r (x ∷ js) end2 t ws))) (sym c.becomes)
      (ahead (at_code virtual p r code) (Going (running r (Do c.new ∷ js) end2 t ws))
      (subst (Later (at_code virtual p r code)) (sym m.is)
      (code_serves r end2 ws w waits code own last js m.store c.now m.stand m.knows c.goes_on)))))
      h

  -- one step
  step_serves : (r s : LowRun) → Serves r s → Later (step virtual p r) s
  step_serves (Going r) s h =
      subst (λ x. Later (at_code virtual p r r.top.code) x) (sym h.is)
      (code_serves r h.end h.below h.top.two h.waits r.top.code h.top.rest.own h.top.rest.last h.code h.store h.top.at h.top.stand h.top.knows h.top.rest.follows)
  step_serves (Done v u) s h = record { steps = 0; serves = h }
  step_serves Bad s h = record { steps = 0; serves = tt }

  run_serves : (n : ℕ) (r s : LowRun) → Serves r s → Later (run virtual p n r) s
  run_serves zero r s h = record { steps = 0; serves = h }
  run_serves (suc n) r s h =
      let one = step_serves r s h in
      let more = run_serves n (step virtual p r) (run virtual q one.steps s) one.serves in
      record {
        steps = one.steps + more.steps;
        serves = subst (λ x. Serves (run virtual p n (step virtual p r)) x) (run_more q more.steps one.steps s) more.serves;
      }

  first_serves : (input : List ℕ) → Serves (first virtual p input) (first virtual q input)
  unfolding two
  first_serves input = by_main (slice_get p.functions p.main) refl
    where
      by_main : (o : Option LowFunction) → slice_get p.functions p.main ≡ o → Serves (first_in virtual (start p.objects input) p.main o) (first virtual q input)
      by_main None e = tt
      by_main (Some fn) e =
          let w = two p.main fn e in
          at_once (first_in virtual (start p.objects input) p.main (Some fn)) _ _
          (ap (λ objects. first_in virtual (start objects input) q.main (slice_get q.functions q.main)) stepped.objects
          ∙ ap (λ m. first_in virtual (start p.objects input) m (slice_get q.functions m)) stepped.main
          ∙ ap (first_in virtual (start p.objects input) p.main) w.other)
          (begin_serves [] [] (start p.objects input) p.main w [] stepped.first tt (write_all virtual (Some (virtual.empty fn.size)) fn.parameters []) refl)

  -- the loops are the same
  loops_serve : (trace : List Began) → KeepsLoops p trace → KeepsLoops q trace
  loops_serve trace kept f g e =
      let k = before_function p q entry p.functions q.functions stepped.functions f g e in
      subst (All (KeepsLoop f trace)) (sym k.stepped.loops) (kept f k.it k.there)

  -- each good run is served
  pub served : (input : List ℕ) (n v : ℕ) (u : World) → IsGood p (lrun p input n) v u → EndsSo q input v u
  served input n v u good =
      let k = run_serves n (first virtual p input) (first virtual q input) (first_serves input) in
      record {
        steps = k.steps;
        good = record { done = subst (λ r. Serves r (lrun q input k.steps)) good.done k.serves; loops = loops_serve u.trace good.loops };
      }
