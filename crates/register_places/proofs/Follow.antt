-- The run over places follows the run over registers, step by step.
use Rattle.std.proofs.Common.{◌≡◌, ◌≢◌, ◌<◌, ℕ, zero, suc, ◌+◌, Bool, true, false, List, [], ◌∷◌, length, Option, Some, None, refl, sym, ap, ◌∙◌, subst, ⊎_elim, inl, inr, arith}
use Rattle.std.specs.Prelude.{map, option_map, slice_get, slice_index_or, replicate, nat_lt, if◌then◌else◌, All}
use Rattle.std.proofs.lemmas.List.{length-replicate}
use Rattle.rv_core.specs.declared.row.Condition.{Condition}
use Rattle.rv_core.specs.Arithmetic.{holds}
use Rattle.low_ir.specs.declared.places.Place.{Place}
use Rattle.low_ir.specs.Code.{Operand, Register, Constant, Plain, Instr, Do, Call, End, Jump, Branch, Return, Block, Function, Low, Note}
use Rattle.low_ir.specs.declared.run.Began.{Began}
use Rattle.low_ir.specs.declared.run.Value.{Value}
use Rattle.low_ir.specs.declared.run.Value.TheVariants.{Word, Pointer}
use Rattle.low_ir.specs.Effects.{World, Did, start, reads, dest, is_served, effect, effect_of}
use Rattle.low_ir.specs.Formed.{LeadsOn, registers_in, end_operands}
use Rattle.low_ir.specs.Runs.{Frame, Waiting, Running, Run, Going, Done, Bad, Bank, operand_value, values, values_cons, write_to, goes_on, finish, enter, block_in, went_to, write_all, begin, only_where, waiting, call, at_instr, come_back, give_back, chosen, branches, at_end, at_code, step, run, first, first_in, virtual}
use Rattle.low_ir.specs.Turns.{KeepsLoop, KeepsLoops}
use Rattle.low_ir.specs.Live.{Has, Live, place_of, Spot}
use Rattle.low_ir.specs.Places.{File, Assignment, result_register, unset_if, places, prun, place_operand, place_plain, place_end, place_code, place_blocks, place_function, placed}
use Rattle.low_ir.specs.Spacing.{IsSafe, Carries}
use Rattle.register_places.proofs.Stores.{Shows, Roomy, left_read, left_roomy, both_written, has_member, keeps, keeps_room, all_written, none_in_replicate, within}
use Rattle.register_places.proofs.Ways.{spot_next, spot_block, placed_block, placed_function, of_function, live_next, live_read, live_end, live_into, has_first, has_next, reads_placed, dest_placed, served_placed, effect_placed}
use Rattle.low_parts.proofs.Runs.{LowRun, LowRunning, LowWaiting}

abbrev PlaceRunning : Type 0
PlaceRunning = Running Place (List ℕ) File

abbrev PlaceRun : Type 0
PlaceRun = Run Place (List ℕ) File

abbrev PlaceWaiting : Type 0
PlaceWaiting = Waiting Place (List ℕ) File

values_parts : (o : Option Value) (os : Option (List Value)) (xs : List Value) → values_cons o os ≡ Some xs → (x : Value) × (ys : List Value) × (o ≡ Some x) × (os ≡ Some ys) × (xs ≡ x ∷ ys)
values_parts None os xs e = cc
values_parts (Some x) None xs e = cc
values_parts (Some x) (Some ys) xs e = (x, ys, refl, refl, cc)

-- an operand that is read from registers is read from their places
operand_placed : (P : ℕ → Type 0) (pl : ℕ → Place) (s : Bank) (t : File) (x : Operand ℕ) (y : Value) → Shows P pl s t → ((r : ℕ) → x ≡ Register r → P r) → operand_value virtual s x ≡ Some y → operand_value places t (place_operand pl x) ≡ Some y
operand_placed P pl s t (Register r) y h part e = h r y (part r refl) e
operand_placed P pl s t (Constant w) y h part e = e

values_placed : (P : ℕ → Type 0) (pl : ℕ → Place) (s : Bank) (t : File) (xs : List (Operand ℕ)) (ys : List Value) → Shows P pl s t → ((v : ℕ) → Has v (registers_in xs) → P v) → values virtual s xs ≡ Some ys → values places t (map (place_operand pl) xs) ≡ Some ys
values_placed P pl s t [] ys h part e = e
values_placed P pl s t (x ∷ xs) ys h part e =
    let k = values_parts (operand_value virtual s x) (values virtual s xs) ys e in
    ap (λ o. values_cons o (values places t (map (place_operand pl) xs))) (operand_placed P pl s t x k.0 h (λ r q. part r (has_first x xs r q)) k.2)
    ∙ ap (λ o. values_cons (Some k.0) o) (values_placed P pl s t xs k.1 h (λ w q. part w (has_next x xs w q)) k.3)
    ∙ ap (λ l. Some l) (sym k.4)

length-none : (n : ℕ) → length (replicate {A = Option Value} n None) ≡ n
length-none n = length-replicate {A = Option Value} n None

module _ (a : Assignment) (p : Low) (safe : IsSafe a p) where
  -- an activation of the low run as one over places, at the place pos of its function, with this store
  abbrev place_frame : ℕ → Frame ℕ Note Bank → File → Frame Place (List ℕ) File
  place_frame pos f t =
      record { func = f.func; code = place_code (a.place f.func) (a.kept f.func) pos f.code; end = place_end (a.place f.func) f.end; store = t }

  abbrev place_running : LowRunning → ℕ → File → List PlaceWaiting → PlaceRunning
  place_running r pos t ws = record { top = place_frame pos r.top t; below = ws; world = r.world }

  abbrev place_waiting : ℕ → LowWaiting → File → PlaceWaiting
  place_waiting pos w t = record { frame = place_frame pos w.frame t; into = option_map (a.place w.frame.func) w.into }

  -- the activation on top: what is live stands in its place
  record Top (func : ℕ) (code : List (Instr ℕ Note)) (end : End ℕ) (store : Bank) (pos : ℕ) (t : File) : Type 0 where
    fn : Function ℕ Note
    there : slice_get p.functions func ≡ Some fn
    spot : Spot fn.blocks pos code end
    size : length store ≡ fn.size
    roomy : Roomy (a.slots func) t
    shows : Shows (Live fn.blocks code end) (a.place func) store t

  -- an activation that waits: what is live behind the call, but for its result, stands in its place
  record Pending (w : LowWaiting) (u : PlaceWaiting) : Type 0 where
    fn : Function ℕ Note
    there : slice_get p.functions w.frame.func ≡ Some fn
    pos : ℕ
    file : File
    is : u ≡ place_waiting pos w file
    spot : Spot fn.blocks pos w.frame.code w.frame.end
    size : length w.frame.store ≡ fn.size
    roomy : Roomy (a.slots w.frame.func) file
    apart : (v d : ℕ) → v < fn.size → d < fn.size → w.into ≡ Some d → Live fn.blocks w.frame.code w.frame.end v → v ≢ d → a.place w.frame.func v ≢ a.place w.frame.func d
    shows : Shows (λ v. Live fn.blocks w.frame.code w.frame.end v × (w.into ≢ Some v)) (a.place w.frame.func) w.frame.store file

  abbrev Waits : List LowWaiting → List PlaceWaiting → Type 0
  Waits [] [] = Unit {0}
  Waits [] (u ∷ us) = ⊥
  Waits (w ∷ ws) [] = ⊥
  Waits (w ∷ ws) (u ∷ us) = Pending w u × Waits ws us

  record Rel (r : LowRunning) (s : PlaceRun) : Type 0 where
    pos : ℕ
    file : File
    below : List PlaceWaiting
    is : s ≡ Going (place_running r pos file below)
    top : Top r.top.func r.top.code r.top.end r.top.store pos file
    waits : Waits r.below below

  abbrev Follows : LowRun → PlaceRun → Type 0
  Follows (Going r) s = Rel r s
  Follows (Done v u) s = s ≡ Done v u
  Follows Bad s = Unit {0}

  to_place : (r : LowRun) (s t : PlaceRun) → s ≡ t → Follows r t → Follows r s
  to_place r s t e h = subst (λ x. Follows r x) (sym e) h

  -- a block is entered
  enter_follows : (r : LowRunning) (pos : ℕ) (t : File) (ws : List PlaceWaiting) (b : ℕ) (fn : Function ℕ Note) → slice_get p.functions r.top.func ≡ Some fn → length r.top.store ≡ fn.size → Roomy (a.slots r.top.func) t → Waits r.below ws → ((bl : Block ℕ Note) → slice_get fn.blocks b ≡ Some bl → Shows (Live fn.blocks bl.code bl.end) (a.place r.top.func) r.top.store t) → (o : Option (Block ℕ Note)) → slice_get fn.blocks b ≡ o → Follows (enter r b o) (enter (place_running r pos t ws) b (slice_get (place_blocks (a.place r.top.func) (a.kept r.top.func) 0 fn.blocks) b))
  enter_follows r pos t ws b fn there size roomy waits shows None e = tt
  enter_follows r pos t ws b fn there size roomy waits shows (Some bl) e =
      record {
        pos = 0 + place_of fn.blocks b;
        file = t;
        below = ws;
        is = ap (enter (place_running r pos t ws) b) (placed_block (a.place r.top.func) (a.kept r.top.func) 0 fn.blocks b bl e);
        top = record { fn = fn; there = there; spot = spot_block fn.blocks b bl e; size = size; roomy = roomy; shows = shows bl e };
        waits = waits;
      }

  -- a jump to a block from an end that leads there
  jump_follows : (r : LowRunning) (pos : ℕ) (t : File) (ws : List PlaceWaiting) (end : End ℕ) (b : ℕ) → LeadsOn end b → Top r.top.func [] end r.top.store pos t → Waits r.below ws → Follows (went_to p r b) (went_to (placed a p) (place_running r pos t ws) b)
  jump_follows r pos t ws end b to top waits =
      let pl = a.place r.top.func in
      let s = place_running r pos t ws in
      subst (λ o. Follows (enter r b (block_in o b)) (went_to (placed a p) s b)) (sym top.there)
      (to_place (enter r b (slice_get top.fn.blocks b)) (went_to (placed a p) s b) (enter s b (slice_get (place_blocks pl (a.kept r.top.func) 0 top.fn.blocks) b))
      (ap (λ o. enter s b (block_in o b)) (placed_function a p r.top.func top.fn top.there))
      (enter_follows r pos t ws b top.fn top.there top.size top.roomy waits
      (λ bl e v x live q. top.shows v x (live_into top.fn.blocks end b v bl to e live) q)
      (slice_get top.fn.blocks b) refl))

  -- a function is entered with these arguments
  begin_follows : (lows : List LowWaiting) (ws : List PlaceWaiting) (u : World) (f : ℕ) (fn : Function ℕ Note) (xs : List Value) → Waits lows ws → slice_get p.functions f ≡ Some fn → (o : Option Bank) → write_all virtual (Some (virtual.empty fn.size)) fn.parameters xs ≡ o → Follows (begin lows u f fn o) (begin ws u f (place_function a f fn) (write_all places (Some (places.empty (a.slots f))) (map (a.place f) fn.parameters) xs))
  begin_follows lows ws u f fn xs waits there None e = tt
  begin_follows lows ws u f fn xs waits there (Some s) e =
      let k = safe f fn there in
      let long : length (virtual.empty fn.size) ≡ fn.size = length-none fn.size in
      let w = all_written (a.place f) (a.slots f) fn.parameters fn.parameters xs (virtual.empty fn.size) s (places.empty (a.slots f))
      (λ v lt. k.inside v (omega arith)) (λ v w l1 l2. k.parameters v w (omega arith) (omega arith)) (λ v h. h)
      (length-none (suc result_register), length-none (a.slots f))
      (λ v x h q. absurd (none_in_replicate fn.size v x q)) e in
      let r2 : LowRunning = record { top = record { func = f; code = []; end = Jump 0; store = s }; below = lows; world = u } in
      to_place (begin lows u f fn (Some s)) _ _ (ap (begin ws u f (place_function a f fn)) w.is)
      (enter_follows r2 0 w.file ws 0 fn there (w.size ∙ long) w.roomy waits
      (λ bl e2 v x live q.
      ⊎_elim (λ (has : Has v fn.parameters). w.shows v x has q) (λ (none : slice_index_or (virtual.empty fn.size) v None ≡ Some x). absurd (none_in_replicate fn.size v x none)) (w.only v x q))
      (slice_get fn.blocks 0) refl)

  -- an instruction that goes on behind itself
  do_follows : (r : LowRunning) (pos : ℕ) (t : File) (ws : List PlaceWaiting) (i : Plain ℕ) (is : List (Instr ℕ Note)) → Top r.top.func (Do i ∷ is) r.top.end r.top.store pos t → Waits r.below ws → (d : Option ℕ) → dest i ≡ d → (o : Option Did) → Follows (finish virtual r is d o) (finish places (place_running r pos (unset_if (is_served (place_plain (a.place r.top.func) i)) t) ws) (place_code (a.place r.top.func) (a.kept r.top.func) (suc pos) is) (option_map (a.place r.top.func) d) o)
  do_follows r pos t ws i is top waits d e None = tt
  do_follows r pos t ws i is top waits d e (Some did) = by_write (write_to virtual r.top.store d did.value) refl
    where
      left : File
      left = unset_if (is_served (place_plain (a.place r.top.func) i)) t

      -- nothing that is live behind it was in the result register, but for its value
      shows : Shows (λ v. Live top.fn.blocks is r.top.end v × (dest i ≢ Some v)) (a.place r.top.func) r.top.store left
      shows v x h q =
          let k = safe r.top.func top.fn top.there in
          let small = within r.top.store v x q in
          let size = top.size in
          left_read (is_served (place_plain (a.place r.top.func) i)) t (a.place r.top.func v)
          (λ s. k.served pos v i is r.top.end (omega (arith, small, size)) top.spot (sym (served_placed (a.place r.top.func) i) ∙ s) h.0 h.1)
          ∙ top.shows v x (live_next top.fn.blocks (Do i) is r.top.end v h.1 h.0) q

      by_write : (o : Option Bank) → write_to virtual r.top.store d did.value ≡ o → Follows (goes_on r is did.world o) (goes_on (place_running r pos left ws) (place_code (a.place r.top.func) (a.kept r.top.func) (suc pos) is) did.world (write_to places left (option_map (a.place r.top.func) d) did.value))
      by_write None h = tt
      by_write (Some s) h =
          let k = safe r.top.func top.fn top.there in
          let size = top.size in
          let b = both_written (λ v. Live top.fn.blocks is r.top.end v × (dest i ≢ Some v)) (Live top.fn.blocks is r.top.end) (a.place r.top.func) (a.slots r.top.func) r.top.store s left d did.value
          (λ v lt. k.inside v (omega arith)) (left_roomy (a.slots r.top.func) (is_served (place_plain (a.place r.top.func) i)) t top.roomy)
          (λ v l1 live n. (
            (live, λ h2. n (sym e ∙ h2)),
            λ w l2 at. k.apart pos w v (Do i) is r.top.end (omega arith) (omega arith) top.spot (e ∙ at) live (λ same. n (at ∙ ap Some (sym same))),
          ))
          shows h in
          record {
            pos = suc pos;
            file = b.file;
            below = ws;
            is = ap (goes_on (place_running r pos left ws) (place_code (a.place r.top.func) (a.kept r.top.func) (suc pos) is) did.world) b.is;
            top = record {
              fn = top.fn;
              there = top.there;
              spot = spot_next top.fn.blocks pos (Do i) is r.top.end top.spot;
              size = b.size ∙ top.size;
              roomy = b.roomy;
              shows = b.shows;
            };
            waits = waits;
          }

  -- a function gives its value back
  back_follows : (u : World) (v : ℕ) (ws : List LowWaiting) (us : List PlaceWaiting) → Waits ws us → Follows (come_back virtual u ws v) (come_back places u us v)
  back_follows u v [] [] waits = refl
  back_follows u v [] (y ∷ us) waits = absurd waits
  back_follows u v (w ∷ ws) [] waits = absurd waits
  back_follows u v (w ∷ ws) (y ∷ us) waits = by_write (write_to virtual w.frame.store w.into (Word v)) refl
    where
      by_write : (o : Option Bank) → write_to virtual w.frame.store w.into (Word v) ≡ o → Follows (goes_on (record { top = w.frame; below = ws; world = u }) w.frame.code u o) (come_back places u (y ∷ us) v)
      by_write None h = tt
      by_write (Some s) h =
          let pend = waits.0 in
          let k = safe w.frame.func pend.fn pend.there in
          let size = pend.size in
          let b = both_written (λ x. Live pend.fn.blocks w.frame.code w.frame.end x × (w.into ≢ Some x)) (Live pend.fn.blocks w.frame.code w.frame.end) (a.place w.frame.func) (a.slots w.frame.func) w.frame.store s pend.file w.into (Word v)
          (λ x lt. k.inside x (omega arith)) pend.roomy
          (λ x l1 live n. ((live, n), λ d l2 at. pend.apart x d (omega arith) (omega arith) at live (λ same. n (at ∙ ap Some (sym same)))))
          pend.shows h in
          let z : PlaceWaiting = place_waiting pend.pos w pend.file in
          record {
            pos = pend.pos;
            file = b.file;
            below = us;
            is = ap (λ x. come_back places u (x ∷ us) v) pend.is
                ∙ ap (goes_on (record { top = z.frame; below = us; world = u }) z.frame.code u) b.is;
            top = record { fn = pend.fn; there = pend.there; spot = pend.spot; size = b.size ∙ pend.size; roomy = b.roomy; shows = b.shows };
            waits = waits.1;
          }

  -- a call
  call_follows : (r : LowRunning) (pos : ℕ) (t : File) (ws : List PlaceWaiting) (d : Option ℕ) (f : ℕ) (args : List (Operand ℕ)) (note : Note) (is : List (Instr ℕ Note)) → Top r.top.func (Call d f args note ∷ is) r.top.end r.top.store pos t → Waits r.below ws → (o : Option (Function ℕ Note)) → slice_get p.functions f ≡ o → (os : Option (List Value)) → values virtual r.top.store args ≡ os → Follows (call virtual r is d f note o os) (call places (place_running r pos t ws) (place_code (a.place r.top.func) (a.kept r.top.func) (suc pos) is) (option_map (a.place r.top.func) d) f (a.kept r.top.func pos) (slice_get (placed a p).functions f) (values places t (map (place_operand (a.place r.top.func)) args)))
  call_follows r pos t ws d f args note is top waits None e os e2 = tt
  call_follows r pos t ws d f args note is top waits (Some fn) e None e2 = tt
  call_follows r pos t ws d f args note is top waits (Some fn) e (Some xs) e2 =
      let pl = a.place r.top.func in
      let s = place_running r pos t ws in
      let pis = place_code pl (a.kept r.top.func) (suc pos) is in
      let live = Live top.fn.blocks (Call d f args note ∷ is) r.top.end in
      to_place (call virtual r is d f note (Some fn) (Some xs)) _ _
      (ap (λ o. call places s pis (option_map pl d) f (a.kept r.top.func pos) o (values places t (map (place_operand pl) args))) (placed_function a p f fn e)
      ∙ ap (λ o. call places s pis (option_map pl d) f (a.kept r.top.func pos) (Some (place_function a f fn)) o)
      (values_placed live pl r.top.store t args xs top.shows (λ v h. live_read top.fn.blocks (Call d f args note) is r.top.end v h) e2))
      (by_test (nat_lt f r.top.func))
    where
      by_test : (b : Bool) → Follows (only_where b (begin (waiting virtual r.top is d note ∷ r.below) r.world f fn (write_all virtual (Some (virtual.empty fn.size)) fn.parameters xs))) (only_where b (begin (waiting places (place_frame pos r.top t) (place_code (a.place r.top.func) (a.kept r.top.func) (suc pos) is) (option_map (a.place r.top.func) d) (a.kept r.top.func pos) ∷ ws) r.world f (place_function a f fn) (write_all places (Some (places.empty (a.slots f))) (map (a.place f) fn.parameters) xs)))
      by_test false = tt
      by_test true =
          let k = safe r.top.func top.fn top.there in
          let bs = top.fn.blocks in
          begin_follows (waiting virtual r.top is d note ∷ r.below)
          (waiting places (place_frame pos r.top t) (place_code (a.place r.top.func) (a.kept r.top.func) (suc pos) is) (option_map (a.place r.top.func) d) (a.kept r.top.func pos) ∷ ws)
          r.world f fn xs (
            record {
              fn = top.fn;
              there = top.there;
              pos = suc pos;
              file = places.keep (a.kept r.top.func pos) t;
              is = refl;
              spot = spot_next bs pos (Call d f args note) is r.top.end top.spot;
              size = top.size;
              roomy = keeps_room (a.slots r.top.func) (a.kept r.top.func pos) t top.roomy;
              apart = λ v w l1 l2 at live n. k.apart pos w v (Call d f args note) is r.top.end l1 l2 top.spot at live n;
              shows = λ v x h q.
                  keeps (a.kept r.top.func pos) t (a.place r.top.func v) x (λ n e3. has_member (a.kept r.top.func pos) n (k.kept pos v n f d args note is r.top.end (let l = within r.top.store v x q in let n = top.size in omega arith) top.spot h.0 h.1 e3))
                  (top.shows v x (live_next bs (Call d f args note) is r.top.end v h.1 h.0) q);
            },
            waits,
          )
          e (write_all virtual (Some (virtual.empty fn.size)) fn.parameters xs) refl

  taken : (c : Condition) (x y : Operand ℕ) (b1 b2 : ℕ) (t : Bool) → LeadsOn (Branch c x y b1 b2) (if t then b1 else b2)
  taken c x y b1 b2 true = inl refl
  taken c x y b1 b2 false = inr refl

  -- an operand at the end of a block
  end_operand : (r : LowRunning) (pos : ℕ) (t : File) (end : End ℕ) (x : Operand ℕ) (y : Value) → Top r.top.func [] end r.top.store pos t → ((v : ℕ) → x ≡ Register v → Has v (registers_in (end_operands end))) → operand_value virtual r.top.store x ≡ Some y → operand_value places t (place_operand (a.place r.top.func) x) ≡ Some y
  end_operand r pos t end x y top part e =
      operand_placed (Live top.fn.blocks [] end) (a.place r.top.func) r.top.store t x y top.shows (λ v q. live_end top.fn.blocks end v (part v q)) e

  -- the end of a block
  branch_follows : (r : LowRunning) (pos : ℕ) (t : File) (ws : List PlaceWaiting) (c : Condition) (x y : Operand ℕ) (b1 b2 : ℕ) → Top r.top.func [] (Branch c x y b1 b2) r.top.store pos t → Waits r.below ws → (o1 o2 : Option Value) → operand_value virtual r.top.store x ≡ o1 → operand_value virtual r.top.store y ≡ o2 → Follows (branches p r (chosen c b1 b2 o1 o2)) (branches (placed a p) (place_running r pos t ws) (chosen c b1 b2 (operand_value places t (place_operand (a.place r.top.func) x)) (operand_value places t (place_operand (a.place r.top.func) y))))
  branch_follows r pos t ws c x y b1 b2 top waits None o2 e1 e2 = tt
  branch_follows r pos t ws c x y b1 b2 top waits (Some (Pointer o n)) o2 e1 e2 = tt
  branch_follows r pos t ws c x y b1 b2 top waits (Some (Word m)) None e1 e2 = tt
  branch_follows r pos t ws c x y b1 b2 top waits (Some (Word m)) (Some (Pointer o n)) e1 e2 = tt
  branch_follows r pos t ws c x y b1 b2 top waits (Some (Word m)) (Some (Word n)) e1 e2 =
      let s = place_running r pos t ws in
      let pl = a.place r.top.func in
      let end = Branch c x y b1 b2 in
      to_place (went_to p r (if holds c m n then b1 else b2)) _ _
      (ap (λ o. branches (placed a p) s (chosen c b1 b2 o (operand_value places t (place_operand pl y)))) (end_operand r pos t end x (Word m) top (λ v q. has_first x (y ∷ []) v q) e1)
      ∙ ap (λ o. branches (placed a p) s (chosen c b1 b2 (Some (Word m)) o)) (end_operand r pos t end y (Word n) top (λ v q. has_next x (y ∷ []) v (has_first y [] v q)) e2))
      (jump_follows r pos t ws end (if holds c m n then b1 else b2) (taken c x y b1 b2 (holds c m n)) top waits)

  return_follows : (r : LowRunning) (pos : ℕ) (t : File) (ws : List PlaceWaiting) (x : Operand ℕ) → Top r.top.func [] (Return x) r.top.store pos t → Waits r.below ws → (o : Option Value) → operand_value virtual r.top.store x ≡ o → Follows (give_back virtual r o) (give_back places (place_running r pos t ws) (operand_value places t (place_operand (a.place r.top.func) x)))
  return_follows r pos t ws x top waits None e = tt
  return_follows r pos t ws x top waits (Some (Pointer o n)) e = tt
  return_follows r pos t ws x top waits (Some (Word v)) e =
      to_place (come_back virtual r.world r.below v) _ _
      (ap (give_back places (place_running r pos t ws)) (end_operand r pos t (Return x) x (Word v) top (λ w q. has_first x [] w q) e))
      (back_follows r.world v r.below ws waits)

  end_follows : (r : LowRunning) (pos : ℕ) (t : File) (ws : List PlaceWaiting) (end : End ℕ) → Top r.top.func [] end r.top.store pos t → Waits r.below ws → Follows (at_end virtual p r end) (at_end places (placed a p) (place_running r pos t ws) (place_end (a.place r.top.func) end))
  end_follows r pos t ws (Jump b) top waits = jump_follows r pos t ws (Jump b) b refl top waits
  end_follows r pos t ws (Branch c x y b1 b2) top waits = branch_follows r pos t ws c x y b1 b2 top waits (operand_value virtual r.top.store x) (operand_value virtual r.top.store y) refl refl
  end_follows r pos t ws (Return x) top waits = return_follows r pos t ws x top waits (operand_value virtual r.top.store x) refl

  plain_follows : (r : LowRunning) (pos : ℕ) (t : File) (ws : List PlaceWaiting) (i : Plain ℕ) (is : List (Instr ℕ Note)) → Top r.top.func (Do i ∷ is) r.top.end r.top.store pos t → Waits r.below ws → (os : Option (List Value)) → values virtual r.top.store (reads i) ≡ os → Follows (finish virtual r is (dest i) (effect_of p.claims i os r.world)) (at_instr places (placed a p) (place_running r pos t ws) (Do (place_plain (a.place r.top.func) i)) (place_code (a.place r.top.func) (a.kept r.top.func) (suc pos) is))
  plain_follows r pos t ws i is top waits None e = tt
  plain_follows r pos t ws i is top waits (Some xs) e =
      let pl = a.place r.top.func in
      let pis = place_code pl (a.kept r.top.func) (suc pos) is in
      let pi = place_plain pl i in
      let s = place_running r pos (unset_if (is_served pi) t) ws in
      let live = Live top.fn.blocks (Do i ∷ is) r.top.end in
      to_place (finish virtual r is (dest i) (effect p.claims i xs r.world)) _ _
      (ap (λ d. finish places s pis d (effect_of p.claims pi (values places t (reads pi)) r.world)) (dest_placed pl i)
      ∙ ap (λ vs. finish places s pis (option_map pl (dest i)) (effect_of p.claims pi (values places t vs) r.world)) (reads_placed pl i)
      ∙ ap (λ o. finish places s pis (option_map pl (dest i)) (effect_of p.claims pi o r.world)) (values_placed live pl r.top.store t (reads i) xs top.shows (λ v h. live_read top.fn.blocks (Do i) is r.top.end v h) e)
      ∙ ap (λ o. finish places s pis (option_map pl (dest i)) o) (effect_placed pl p.claims i xs r.world))
      (do_follows r pos t ws i is top waits (dest i) refl (effect p.claims i xs r.world))

  code_follows : (r : LowRunning) (pos : ℕ) (t : File) (ws : List PlaceWaiting) (code : List (Instr ℕ Note)) → Top r.top.func code r.top.end r.top.store pos t → Waits r.below ws → Follows (at_code virtual p r code) (at_code places (placed a p) (place_running r pos t ws) (place_code (a.place r.top.func) (a.kept r.top.func) pos code))
  code_follows r pos t ws [] top waits = end_follows r pos t ws r.top.end top waits
  code_follows r pos t ws (Do i ∷ is) top waits = plain_follows r pos t ws i is top waits (values virtual r.top.store (reads i)) refl
  code_follows r pos t ws (Call d f args note ∷ is) top waits =
      call_follows r pos t ws d f args note is top waits (slice_get p.functions f) refl (values virtual r.top.store args) refl

  -- one step
  step_follows : (r : LowRun) (s : PlaceRun) → Follows r s → Follows (step virtual p r) (step places (placed a p) s)
  step_follows (Going r) s h =
      to_place (at_code virtual p r r.top.code) _ _ (ap (step places (placed a p)) h.is)
      (code_follows r h.pos h.file h.below r.top.code h.top h.waits)
  step_follows (Done v u) s h = ap (step places (placed a p)) h
  step_follows Bad s h = tt

  run_follows : (n : ℕ) (r : LowRun) (s : PlaceRun) → Follows r s → Follows (run virtual p n r) (run places (placed a p) n s)
  run_follows zero r s h = h
  run_follows (suc n) r s h = run_follows n (step virtual p r) (step places (placed a p) s) (step_follows r s h)

  first_follows : (input : List ℕ) → Follows (first virtual p input) (first places (placed a p) input)
  first_follows input = by_main (slice_get p.functions p.main) refl
    where
      by_main : (o : Option (Function ℕ Note)) → slice_get p.functions p.main ≡ o → Follows (first_in virtual (start p.objects input) p.main o) (first places (placed a p) input)
      by_main None e = tt
      by_main (Some fn) e =
          to_place (first_in virtual (start p.objects input) p.main (Some fn)) _ _
          (ap (first_in places (start p.objects input) p.main) (placed_function a p p.main fn e))
          (begin_follows [] [] (start p.objects input) p.main fn [] tt e (write_all virtual (Some (virtual.empty fn.size)) fn.parameters []) refl)

  -- the loops are the same
  loops_follow : (trace : List Began) → KeepsLoops p trace → KeepsLoops (placed a p) trace
  loops_follow trace kept f g e =
      let h = of_function a 0 p.functions f g e in
      subst (All (KeepsLoop f trace)) h.loops (kept f h.fn h.there)

  -- each good run is carried
  pub carried : Carries a p
  carried input n v u good =
      record {
        done = subst (λ r. Follows r (prun (placed a p) input n)) good.done (run_follows n (first virtual p input) (first places (placed a p) input) (first_follows input));
        loops = loops_follow u.trace good.loops;
      }
