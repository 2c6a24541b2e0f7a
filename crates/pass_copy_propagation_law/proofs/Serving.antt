-- The run of a program without copies follows the run of the program, step by step; it waits at a copy.
use Rattle.std.proofs.Common.{◌≡◌, ℕ, zero, suc, ◌+◌, Bool, true, false, List, [], ◌∷◌, length, Option, Some, None, refl, sym, ap, ◌∙◌, subst, ⊎_elim, inl, inr, arith}
use Rattle.std.specs.Prelude.{All, if◌then◌else◌, map, nat_lt, slice_get, slice_index_or}
use Rattle.std.proofs.lemmas.List.{length-replicate}
use Rattle.rv_core.specs.declared.row.Condition.{Condition}
use Rattle.rv_core.specs.Arithmetic.{holds}
use Rattle.low_ir.specs.Code.{Operand, Plain, Set, Instr, Do, Call, End, Jump, Branch, Return, Block, Low, Note}
use Rattle.low_ir.specs.declared.run.Began.{Began}
use Rattle.low_ir.specs.declared.run.Value.{Value}
use Rattle.low_ir.specs.declared.run.Value.TheVariants.{Word, Pointer}
use Rattle.low_ir.specs.Effects.{World, Did, start, reads, dest, effect_of}
use Rattle.low_ir.specs.Formed.{LeadsOn, end_operands}
use Rattle.low_ir.specs.Runs.{Going, Done, Bad, Bank, operand_value, values, values_cons, write_to, goes_on, finish, enter, block_in, went_to, write_all, begin, only_where, waiting, call, at_instr, come_back, give_back, chosen, branches, at_end, at_code, step, run, first, first_in, lrun, virtual}
use Rattle.low_ir.specs.Turns.{IsGood, KeepsLoop, KeepsLoops}
use Rattle.pass_copy_propagation_law.specs.Renaming.{renamed_end, renamed_into, renamed_operand, renamed_plain}
use Rattle.pass_copy_propagation_law.specs.Copies.{Becomes, Carries, Code, Copied, Ends, Fewer, Finds, Follows, Forgets, FunctionCopied, IsCopied, LeavesOut, Omits, Standing, WritesOnly}
use Rattle.pass_copy_propagation_law.specs.Laws.{RunsOn}
use Rattle.pass_copy_propagation_law.proofs.Blocks.{found_block}
use Rattle.low_parts.proofs.Lists.{before, found}
use Rattle.pass_copy_propagation_law.proofs.Renamed.{dest_renamed, effects_renamed, reads_renamed}
use Rattle.pass_copy_propagation_law.proofs.Omitted.{value_forgotten, world_stays, writes_dest}
use Rattle.pass_copy_propagation_law.proofs.Stores.{Shows, both_written, copy_written, empties_alike, finds_rest, value_found, values_found, written_longer}
use Rattle.low_parts.proofs.Runs.{LowFunction, LowRun, LowRunning, LowWaiting, run_more, running}

module _ (p q : Low) (copied : IsCopied p q) where
  -- a function, and what became of it
  record Two (func : ℕ) : Type 0 where
    fn : LowFunction
    gn : LowFunction
    there : slice_get p.functions func ≡ Some fn
    other : slice_get q.functions func ≡ Some gn
    same : FunctionCopied fn gn

  two : (f : ℕ) (fn : LowFunction) → slice_get p.functions f ≡ Some fn → Two f
  two f fn e =
      let k = found FunctionCopied p.functions q.functions f fn copied.functions e in
      record { fn = fn; gn = k.it; there = e; other = k.there; same = k.related }

  -- the activation on top
  record Top (func : ℕ) (code : Code) (end : End ℕ) (store : Bank) (code2 : Code) (end2 : End ℕ) (t : Bank) : Type 0 where
    two : Two func
    at : Standing
    long : length t ≡ two.gn.size
    shows : Shows at store t
    follows : Follows two.gn.size two.same.out end end2 code at code2

  -- an activation that waits
  record Pending (w u : LowWaiting) : Type 0 where
    two : Two w.frame.func
    at : Standing
    now : Standing
    into : ℕ
    code : Code
    end : End ℕ
    store : Bank
    is : u ≡ record { frame = record { func = w.frame.func; code = code; end = end; store = store }; into = renamed_into into w.into }
    long : length store ≡ two.gn.size
    shows : Shows at w.frame.store store
    becomes : Becomes two.gn.size w.into into at now
    follows : Follows two.gn.size two.same.out w.frame.end end w.frame.code now code

  abbrev Waits : List LowWaiting → List LowWaiting → Type 0
  Waits [] [] = Unit {0}
  Waits [] (u ∷ us) = ⊥
  Waits (w ∷ ws) [] = ⊥
  Waits (w ∷ ws) (u ∷ us) = Pending w u × Waits ws us

  record Rel (r : LowRunning) (s : LowRun) : Type 0 where
    code : Code
    end : End ℕ
    store : Bank
    below : List LowWaiting
    is : s ≡ Going (running r code end store below)
    top : Top r.top.func r.top.code r.top.end r.top.store code end store
    waits : Waits r.below below

  abbrev Serves : LowRun → LowRun → Type 0
  Serves (Going r) s = Rel r s
  Serves (Done v u) s = s ≡ Done v u
  Serves Bad s = Unit {0}

  -- after some steps
  record Later (r s : LowRun) : Type 0 where
    steps : ℕ
    serves : Serves r (run virtual q steps s)

  at_once : (r s t : LowRun) → s ≡ t → Serves r t → Serves r s
  at_once r s t e h = subst (λ x. Serves r x) (sym e) h

  -- a block is entered
  enter_serves : (r : LowRunning) (code : Code) (end : End ℕ) (t : Bank) (ws : List LowWaiting) (b : ℕ) (w : Two r.top.func) → length t ≡ w.gn.size → Shows (w.same.out b) r.top.store t → Waits r.below ws → (o : Option (Block ℕ Note)) → slice_get w.fn.blocks b ≡ o → Serves (enter r b o) (enter (running r code end t ws) b (slice_get w.gn.blocks b))
  enter_serves r code end t ws b w long shows waits None e = tt
  enter_serves r code end t ws b w long shows waits (Some bl) e =
      let k = found_block w.fn w.gn w.same b bl e in
      record {
        code = k.it.code;
        end = k.it.end;
        store = t;
        below = ws;
        is = ap (enter (running r code end t ws) b) k.there;
        top = record { two = w; at = w.same.out b; long = long; shows = shows; follows = k.copied.code };
        waits = waits;
      }

  -- a jump to a block from an end
  jump_serves : (r : LowRunning) (code : Code) (end : End ℕ) (t : Bank) (ws : List LowWaiting) (b : ℕ) (w : Two r.top.func) → length t ≡ w.gn.size → Shows (w.same.out b) r.top.store t → Waits r.below ws → Serves (went_to p r b) (went_to q (running r code end t ws) b)
  jump_serves r code end t ws b w long shows waits =
      let s = running r code end t ws in
      subst (λ o. Serves (enter r b (block_in o b)) (went_to q s b)) (sym w.there)
      (at_once (enter r b (slice_get w.fn.blocks b)) (went_to q s b) (enter s b (slice_get w.gn.blocks b))
      (ap (λ o. enter s b (block_in o b)) w.other)
      (enter_serves r code end t ws b w long shows waits (slice_get w.fn.blocks b) refl))

  -- a function is entered with these arguments
  begin_serves : (ws us : List LowWaiting) (u : World) (f : ℕ) (w : Two f) (xs : List Value) → Waits ws us → (o : Option Bank) → write_all virtual (Some (virtual.empty w.fn.size)) w.fn.parameters xs ≡ o → Serves (begin ws u f w.fn o) (begin us u f w.gn (write_all virtual (Some (virtual.empty w.gn.size)) w.gn.parameters xs))
  begin_serves ws us u f w xs waits None e = tt
  begin_serves ws us u f w xs waits (Some s) e =
      let r : LowRunning = record { top = record { func = f; code = []; end = Jump 0; store = s }; below = ws; world = u } in
      let least = length-replicate {A = Option Value} w.fn.size None in
      let most = length-replicate {A = Option Value} w.gn.size None in
      let grows = w.same.size.least in
      let t = written_longer w.fn.parameters xs (virtual.empty w.fn.size) (virtual.empty w.gn.size) s (omega arith) (empties_alike w.fn.size w.gn.size) e in
      at_once (begin ws u f w.fn (Some s)) _ _
      (ap (λ rs. begin us u f w.gn (write_all virtual (Some (virtual.empty w.gn.size)) rs xs)) w.same.parameters ∙ ap (begin us u f w.gn) t.is)
      (enter_serves r [] (Jump 0) t.store us 0 w (t.long ∙ most) (λ v n h. t.alike v ∙ ap (λ m. slice_index_or t.store m None) (sym (w.same.own 0 v n h))) waits (slice_get w.fn.blocks 0) refl)

  -- an instruction that goes on behind itself
  do_serves : (r : LowRunning) (is : Code) (code : Code) (end : End ℕ) (t : Bank) (ws : List LowWaiting) (behind : Code) (w : Two r.top.func) (at now : Standing) (d : Option ℕ) (into : ℕ) → length t ≡ w.gn.size → Shows at r.top.store t → Becomes w.gn.size d into at now → Follows w.gn.size w.same.out r.top.end end is now behind → Waits r.below ws → (o : Option Did) → Serves (finish virtual r is d o) (finish virtual (running r code end t ws) behind (renamed_into into d) o)
  do_serves r is code end t ws behind w at now d into long shows becomes follows waits None = tt
  do_serves r is code end t ws behind w at now d into long shows becomes follows waits (Some did) = by_write (write_to virtual r.top.store d did.value) refl
    where
      by_write : (o : Option Bank) → write_to virtual r.top.store d did.value ≡ o → Serves (goes_on r is did.world o) (goes_on (running r code end t ws) behind did.world (write_to virtual t (renamed_into into d) did.value))
      by_write None h = tt
      by_write (Some s) h =
          let b = both_written w.gn.size at now r.top.store s t d into did.value long becomes shows h in
          record {
            code = behind;
            end = end;
            store = b.store;
            below = ws;
            is = ap (goes_on (running r code end t ws) behind did.world) b.is;
            top = record { two = w; at = now; long = b.long; shows = b.shows; follows = follows };
            waits = waits;
          }

  plain_serves : (r : LowRunning) (i : Plain ℕ) (is : Code) (code : Code) (end : End ℕ) (t : Bank) (ws : List LowWaiting) (w : Two r.top.func) (at : Standing) → length t ≡ w.gn.size → Shows at r.top.store t → Carries w.gn.size (Follows w.gn.size w.same.out r.top.end end is) (Do i) at code → Waits r.below ws → Serves (at_instr virtual p r (Do i) is) (at_code virtual q (running r code end t ws) code)
  plain_serves r i is code end t ws w at long shows c waits =
      let s = running r code end t ws in
      let j = renamed_plain c.name c.into i in
      let os = values virtual r.top.store (reads i) in
      at_once (at_instr virtual p r (Do i) is) _ _
      (ap (at_code virtual q s) c.is
      ∙ ap (λ d. finish virtual s c.behind d (effect_of q.claims j (values virtual t (reads j)) r.world)) (dest_renamed c.name c.into i)
      ∙ ap (λ xs. finish virtual s c.behind (renamed_into c.into (dest i)) (effect_of q.claims j (values virtual t xs) r.world)) (reads_renamed c.name c.into i)
      ∙ ap (λ o. finish virtual s c.behind (renamed_into c.into (dest i)) (effect_of q.claims j o r.world)) (values_found at c.name r.top.store t shows (reads i) c.finds)
      ∙ ap (λ claims. finish virtual s c.behind (renamed_into c.into (dest i)) (effect_of claims j os r.world)) copied.claims
      ∙ ap (λ o. finish virtual s c.behind (renamed_into c.into (dest i)) o) (effects_renamed c.name c.into p.claims i os r.world))
      (do_serves r is code end t ws c.behind w at c.now (dest i) c.into long shows c.becomes c.goes_on waits (effect_of p.claims i os r.world))

  -- a copy is left out
  copy_serves : (r : LowRunning) (d : ℕ) (x : Operand ℕ) (is : Code) (code : Code) (end : End ℕ) (t : Bank) (ws : List LowWaiting) (w : Two r.top.func) (at now : Standing) → length t ≡ w.gn.size → Shows at r.top.store t → Copied d x at now → Follows w.gn.size w.same.out r.top.end end is now code → Waits r.below ws → Serves (at_instr virtual p r (Do (Set d x)) is) (Going (running r code end t ws))
  copy_serves r d x is code end t ws w at now long shows copies follows waits = by_value (operand_value virtual r.top.store x) refl
    where
      by_value : (o : Option Value) → operand_value virtual r.top.store x ≡ o → Serves (finish virtual r is (Some d) (effect_of p.claims (Set d x) (values_cons o (Some [])) r.world)) (Going (running r code end t ws))
      by_value None e = tt
      by_value (Some y) e = by_write (write_to virtual r.top.store (Some d) y) refl
        where
          by_write : (o : Option Bank) → write_to virtual r.top.store (Some d) y ≡ o → Serves (goes_on r is r.world o) (Going (running r code end t ws))
          by_write None h = tt
          by_write (Some s) h =
              record {
                code = code;
                end = end;
                store = t;
                below = ws;
                is = refl;
                top = record { two = w; at = now; long = long; shows = copy_written at now r.top.store s t d x y copies shows e h; follows = follows };
                waits = waits;
              }

  -- what nothing needs is left out
  omit_serves : (r : LowRunning) (i : Instr ℕ Note) (is : Code) (code : Code) (end : End ℕ) (t : Bank) (ws : List LowWaiting) (w : Two r.top.func) (at now : Standing) (d : ℕ) → length t ≡ w.gn.size → Shows at r.top.store t → WritesOnly i d → Forgets d at now → Follows w.gn.size w.same.out r.top.end end is now code → Waits r.below ws → Serves (at_instr virtual p r i is) (Going (running r code end t ws))
  omit_serves r (Call into f args note) is code end t ws w at now d long shows only forgets follows waits = absurd only
  omit_serves r (Do i) is code end t ws w at now d long shows only forgets follows waits =
      let into = writes_dest i d only in
      subst (λ e. Serves (finish virtual r is e (effect_of p.claims i (values virtual r.top.store (reads i)) r.world)) (Going (running r code end t ws))) (sym into)
      (by_effect (effect_of p.claims i (values virtual r.top.store (reads i)) r.world) refl)
    where
      by_effect : (o : Option Did) → effect_of p.claims i (values virtual r.top.store (reads i)) r.world ≡ o → Serves (finish virtual r is (Some d) o) (Going (running r code end t ws))
      by_effect None e = tt
      by_effect (Some did) e = by_write (write_to virtual r.top.store (Some d) did.value) refl
        where
          by_write : (o : Option Bank) → write_to virtual r.top.store (Some d) did.value ≡ o → Serves (goes_on r is did.world o) (Going (running r code end t ws))
          by_write None h = tt
          by_write (Some s) h =
              record {
                code = code;
                end = end;
                store = t;
                below = ws;
                is = ap (λ u. Going (record { top = (running r code end t ws).top; below = ws; world = u })) (sym (world_stays p.claims i (values virtual r.top.store (reads i)) r.world did d only e));
                top = record { two = w; at = now; long = long; shows = value_forgotten at now r.top.store s t d did.value forgets shows h; follows = follows };
                waits = waits;
              }

  -- a function gives its value back
  back_serves : (u : World) (v : ℕ) (ws us : List LowWaiting) → Waits ws us → Serves (come_back virtual u ws v) (come_back virtual u us v)
  back_serves u v [] [] waits = refl
  back_serves u v [] (y ∷ us) waits = absurd waits
  back_serves u v (w ∷ ws) [] waits = absurd waits
  back_serves u v (w ∷ ws) (y ∷ us) waits = by_write (write_to virtual w.frame.store w.into (Word v)) refl
    where
      by_write : (o : Option Bank) → write_to virtual w.frame.store w.into (Word v) ≡ o → Serves (goes_on (record { top = w.frame; below = ws; world = u }) w.frame.code u o) (come_back virtual u (y ∷ us) v)
      by_write None h = tt
      by_write (Some s) h =
          let k = waits.0 in
          let b = both_written k.two.gn.size k.at k.now w.frame.store s k.store w.into k.into (Word v) k.long k.becomes k.shows h in
          let z : LowWaiting = record { frame = record { func = w.frame.func; code = k.code; end = k.end; store = k.store }; into = renamed_into k.into w.into } in
          record {
            code = k.code;
            end = k.end;
            store = b.store;
            below = us;
            is = ap (λ x. come_back virtual u (x ∷ us) v) k.is ∙ ap (goes_on (record { top = z.frame; below = us; world = u }) z.frame.code u) b.is;
            top = record { two = k.two; at = k.now; long = b.long; shows = b.shows; follows = k.follows };
            waits = waits.1;
          }

  -- a call
  call_serves : (r : LowRunning) (d : Option ℕ) (f : ℕ) (args : List (Operand ℕ)) (note : Note) (is : Code) (code : Code) (end : End ℕ) (t : Bank) (ws : List LowWaiting) (w : Two r.top.func) (at : Standing) → length t ≡ w.gn.size → Shows at r.top.store t → Carries w.gn.size (Follows w.gn.size w.same.out r.top.end end is) (Call d f args note) at code → Waits r.below ws → (o : Option LowFunction) → slice_get p.functions f ≡ o → (os : Option (List Value)) → values virtual r.top.store args ≡ os → Serves (call virtual r is d f note o os) (at_code virtual q (running r code end t ws) code)
  unfolding two
  call_serves r d f args note is code end t ws w at long shows c waits None e os e2 = tt
  call_serves r d f args note is code end t ws w at long shows c waits (Some fn) e None e2 = tt
  call_serves r d f args note is code end t ws w at long shows c waits (Some fn) e (Some xs) e2 =
      let s = running r code end t ws in
      at_once (call virtual r is d f note (Some fn) (Some xs)) _ _
      (ap (at_code virtual q s) c.is
      ∙ ap (λ o. call virtual s c.behind (renamed_into c.into d) f note o (values virtual t (map (renamed_operand c.name) args))) (two f fn e).other
      ∙ ap (λ o. call virtual s c.behind (renamed_into c.into d) f note (Some (two f fn e).gn) o) (values_found at c.name r.top.store t shows args c.finds ∙ e2))
      (by_test (nat_lt f r.top.func))
    where
      by_test : (b : Bool) → Serves (only_where b (begin (waiting virtual r.top is d note ∷ r.below) r.world f fn (write_all virtual (Some (virtual.empty fn.size)) fn.parameters xs))) (only_where b (begin (waiting virtual (running r code end t ws).top c.behind (renamed_into c.into d) note ∷ ws) r.world f (two f fn e).gn (write_all virtual (Some (virtual.empty (two f fn e).gn.size)) (two f fn e).gn.parameters xs)))
      by_test false = tt
      by_test true =
          begin_serves (waiting virtual r.top is d note ∷ r.below) (waiting virtual (running r code end t ws).top c.behind (renamed_into c.into d) note ∷ ws) r.world f (two f fn e) xs (
            record {
              two = w;
              at = at;
              now = c.now;
              into = c.into;
              code = c.behind;
              end = end;
              store = t;
              is = refl;
              long = long;
              shows = shows;
              becomes = c.becomes;
              follows = c.goes_on;
            },
            waits,
          )
          (write_all virtual (Some (virtual.empty fn.size)) fn.parameters xs) refl

  -- one of two blocks
  either_shows : (func : ℕ) (w : Two func) (s t : Bank) (b1 b2 : ℕ) → Shows (w.same.out b1) s t → Shows (w.same.out b2) s t → (b : Bool) → Shows (w.same.out (if b then b1 else b2)) s t
  either_shows func w s t b1 b2 one two true = one
  either_shows func w s t b1 b2 one two false = two

  -- the end of a block
  branch_serves : (r : LowRunning) (code : Code) (end2 : End ℕ) (t : Bank) (ws : List LowWaiting) (c : Condition) (b1 b2 : ℕ) (w : Two r.top.func) → length t ≡ w.gn.size → Shows (w.same.out b1) r.top.store t → Shows (w.same.out b2) r.top.store t → Waits r.below ws → (o1 o2 : Option Value) → Serves (branches p r (chosen c b1 b2 o1 o2)) (branches q (running r code end2 t ws) (chosen c b1 b2 o1 o2))
  branch_serves r code end2 t ws c b1 b2 w long shows other waits None o2 = tt
  branch_serves r code end2 t ws c b1 b2 w long shows other waits (Some (Pointer o n)) o2 = tt
  branch_serves r code end2 t ws c b1 b2 w long shows other waits (Some (Word m)) None = tt
  branch_serves r code end2 t ws c b1 b2 w long shows other waits (Some (Word m)) (Some (Pointer o n)) = tt
  branch_serves r code end2 t ws c b1 b2 w long shows other waits (Some (Word m)) (Some (Word n)) = jump_serves r code end2 t ws (if holds c m n then b1 else b2) w long (either_shows r.top.func w r.top.store t b1 b2 shows other (holds c m n)) waits

  return_serves : (r : LowRunning) (code : Code) (end2 : End ℕ) (t : Bank) (ws : List LowWaiting) → Waits r.below ws → (o : Option Value) → Serves (give_back virtual r o) (give_back virtual (running r code end2 t ws) o)
  return_serves r code end2 t ws waits None = tt
  return_serves r code end2 t ws waits (Some (Pointer o n)) = tt
  return_serves r code end2 t ws waits (Some (Word v)) = back_serves r.world v r.below ws waits

  fewer_shows : (at out : Standing) (s t : Bank) → Fewer at out → Shows at s t → Shows out s t
  fewer_shows at out s t fewer h v w e = h v w (fewer v w e)

  end_serves : (r : LowRunning) (code : Code) (end2 : End ℕ) (t : Bank) (ws : List LowWaiting) (w : Two r.top.func) (at : Standing) (name : ℕ → ℕ) → length t ≡ w.gn.size → Shows at r.top.store t → Waits r.below ws → (end : End ℕ) → ((n : ℕ) → LeadsOn end n → Fewer at (w.same.out n)) → Finds at name (end_operands end) → Serves (at_end virtual p r end) (at_end virtual q (running r code end2 t ws) (renamed_end name end))
  end_serves r code end2 t ws w at name long shows waits (Jump b) fewer finds = jump_serves r code end2 t ws b w long (fewer_shows at (w.same.out b) r.top.store t (fewer b refl) shows) waits
  end_serves r code end2 t ws w at name long shows waits (Branch c x y b1 b2) fewer finds =
      let s = running r code end2 t ws in
      at_once (at_end virtual p r (Branch c x y b1 b2)) _ _
      (ap (λ o. branches q s (chosen c b1 b2 o (operand_value virtual t (renamed_operand name y)))) (value_found at name r.top.store t shows x (y ∷ []) finds)
      ∙ ap (λ o. branches q s (chosen c b1 b2 (operand_value virtual r.top.store x) o)) (value_found at name r.top.store t shows y [] (finds_rest at name x (y ∷ []) finds)))
      (branch_serves r code end2 t ws c b1 b2 w long (fewer_shows at (w.same.out b1) r.top.store t (fewer b1 (inl refl)) shows) (fewer_shows at (w.same.out b2) r.top.store t (fewer b2 (inr refl)) shows) waits (operand_value virtual r.top.store x) (operand_value virtual r.top.store y))
  end_serves r code end2 t ws w at name long shows waits (Return x) fewer finds =
      at_once (at_end virtual p r (Return x)) _ _
      (ap (give_back virtual (running r code end2 t ws)) (value_found at name r.top.store t shows x [] finds))
      (return_serves r code end2 t ws waits (operand_value virtual r.top.store x))

  ends_serve : (r : LowRunning) (code : Code) (end2 : End ℕ) (t : Bank) (ws : List LowWaiting) (w : Two r.top.func) (at : Standing) → length t ≡ w.gn.size → Shows at r.top.store t → Ends w.same.out r.top.end end2 at code → Waits r.below ws → Serves (at_end virtual p r r.top.end) (at_code virtual q (running r code end2 t ws) code)
  ends_serve r code end2 t ws w at long shows e waits =
      let s = running r code end2 t ws in
      at_once (at_end virtual p r r.top.end) _ _ (ap (at_code virtual q s) e.done ∙ ap (at_end virtual q s) e.is)
      (end_serves r code end2 t ws w at e.name long shows waits r.top.end e.stands e.finds)

  one_step : (r s : LowRun) → Serves r (step virtual q s) → Later r s
  one_step r s h = record { steps = 1; serves = h }

  carry_serves : (r : LowRunning) (i : Instr ℕ Note) (is : Code) (code : Code) (end2 : End ℕ) (t : Bank) (ws : List LowWaiting) (w : Two r.top.func) (at : Standing) → length t ≡ w.gn.size → Shows at r.top.store t → Carries w.gn.size (Follows w.gn.size w.same.out r.top.end end2 is) i at code → Waits r.below ws → Serves (at_instr virtual p r i is) (at_code virtual q (running r code end2 t ws) code)
  carry_serves r (Do i) is code end2 t ws w at long shows c waits = plain_serves r i is code end2 t ws w at long shows c waits
  carry_serves r (Call d f args note) is code end2 t ws w at long shows c waits =
      call_serves r d f args note is code end2 t ws w at long shows c waits (slice_get p.functions f) refl (values virtual r.top.store args) refl

  leave_serves : (r : LowRunning) (i : Instr ℕ Note) (is : Code) (code : Code) (end2 : End ℕ) (t : Bank) (ws : List LowWaiting) (w : Two r.top.func) (at : Standing) → length t ≡ w.gn.size → Shows at r.top.store t → LeavesOut (Follows w.gn.size w.same.out r.top.end end2 is) i at code → Waits r.below ws → Serves (at_instr virtual p r i is) (Going (running r code end2 t ws))
  leave_serves r i is code end2 t ws w at long shows c waits =
      subst (λ x. Serves (at_instr virtual p r x is) (Going (running r code end2 t ws))) (sym c.is)
      (copy_serves r c.into c.value is code end2 t ws w at c.now long shows c.copied c.goes_on waits)

  code_serves : (r : LowRunning) (code2 : Code) (end2 : End ℕ) (t : Bank) (ws : List LowWaiting) (w : Two r.top.func) (at : Standing) → length t ≡ w.gn.size → Shows at r.top.store t → Waits r.below ws → (code : Code) → Follows w.gn.size w.same.out r.top.end end2 code at code2 → Later (at_code virtual p r code) (Going (running r code2 end2 t ws))
  code_serves r code2 end2 t ws w at long shows waits [] follows =
      one_step (at_end virtual p r r.top.end) (Going (running r code2 end2 t ws)) (ends_serve r code2 end2 t ws w at long shows follows waits)
  code_serves r code2 end2 t ws w at long shows waits (i ∷ is) follows =
      ⊎_elim
      (λ (c : Carries w.gn.size (Follows w.gn.size w.same.out r.top.end end2 is) i at code2).
      one_step (at_instr virtual p r i is) (Going (running r code2 end2 t ws)) (carry_serves r i is code2 end2 t ws w at long shows c waits))
      (⊎_elim
      (λ (c : LeavesOut (Follows w.gn.size w.same.out r.top.end end2 is) i at code2).
      record { steps = 0; serves = leave_serves r i is code2 end2 t ws w at long shows c waits })
      (λ (c : Omits (Follows w.gn.size w.same.out r.top.end end2 is) i at code2).
      record { steps = 0; serves = omit_serves r i is code2 end2 t ws w at c.now c.into long shows c.only c.forgets c.goes_on waits }))
      follows

  -- one step
  step_serves : (r s : LowRun) → Serves r s → Later (step virtual p r) s
  step_serves (Going r) s h =
      subst (λ x. Later (at_code virtual p r r.top.code) x) (sym h.is)
      (code_serves r h.code h.end h.store h.below h.top.two h.top.at h.top.long h.top.shows h.waits r.top.code h.top.follows)
  step_serves (Done v u) s h = record { steps = 0; serves = h }
  step_serves Bad s h = record { steps = 0; serves = tt }

  run_serves : (n : ℕ) (r s : LowRun) → Serves r s → Later (run virtual p n r) s
  run_serves zero r s h = record { steps = 0; serves = h }
  run_serves (suc n) r s h =
      let one = step_serves r s h in
      let more = run_serves n (step virtual p r) (run virtual q one.steps s) one.serves in
      record {
        steps = one.steps + more.steps;
        serves = subst (λ x. Serves (run virtual p n (step virtual p r)) x) (run_more q more.steps one.steps s) more.serves;
      }

  first_serves : (input : List ℕ) → Serves (first virtual p input) (first virtual q input)
  unfolding two
  first_serves input = by_main (slice_get p.functions p.main) refl
    where
      by_main : (o : Option LowFunction) → slice_get p.functions p.main ≡ o → Serves (first_in virtual (start p.objects input) p.main o) (first virtual q input)
      by_main None e = tt
      by_main (Some fn) e =
          let w = two p.main fn e in
          at_once (first_in virtual (start p.objects input) p.main (Some fn)) _ _
          (ap (λ objects. first_in virtual (start objects input) q.main (slice_get q.functions q.main)) copied.objects
          ∙ ap (λ m. first_in virtual (start p.objects input) m (slice_get q.functions m)) copied.main
          ∙ ap (first_in virtual (start p.objects input) p.main) w.other)
          (begin_serves [] [] (start p.objects input) p.main w [] tt (write_all virtual (Some (virtual.empty fn.size)) fn.parameters []) refl)

  -- the loops are the same
  loops_serve : (trace : List Began) → KeepsLoops p trace → KeepsLoops q trace
  loops_serve trace kept f g e =
      let k = before FunctionCopied p.functions q.functions f g copied.functions e in
      subst (All (KeepsLoop f trace)) (sym k.related.loops) (kept f k.it k.there)

  -- each good run is served
  pub served : (input : List ℕ) (n v : ℕ) (u : World) → IsGood p (lrun p input n) v u → RunsOn q input v u
  served input n v u good =
      let k = run_serves n (first virtual p input) (first virtual q input) (first_serves input) in
      record {
        steps = k.steps;
        good = record { done = subst (λ r. Serves r (lrun q input k.steps)) good.done k.serves; loops = loops_serve u.trace good.loops };
      }
