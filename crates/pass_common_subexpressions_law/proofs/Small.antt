-- In each run on bytes, registers and elements hold words below 2^32.
use Rattle.std.proofs.Common.{◌≡◌, ⊎_elim, ℕ, ◌<◌, ◌≤◌, ◌^◌, Bool, true, false, List, [], ◌∷◌, ◌++◌, length, map, Option, Some, None, refl, sym, ◌∙◌, subst, arith}
use Rattle.std.specs.Prelude.{All, ◌/◌, nat_lt, replicate, slice_get, slice_index_or, slice_set, take}
use Rattle.std.proofs.lemmas.Bool.{cases_lt}
use Rattle.std.proofs.lemmas.List.{get_or_past}
use Rattle.std.proofs.lemmas.List.Elements.{All-append, All-cons, All-get_or, All-head, All-map, All-nil, All-replicate, All-set, All-tail, All-take}
use Rattle.std.proofs.lemmas.Option.{get_or_from_slice_get, slice_get_within}
use Rattle.rv_core.specs.declared.row.Alu.{Alu}
use Rattle.rv_core.specs.Arithmetic.{alu_value}
use Rattle.low_ir.specs.declared.object.Kind.{Kind}
use Rattle.low_ir.specs.declared.object.Storage.{Storage}
use Rattle.low_ir.specs.declared.object.Storage.TheVariants.{Constant as Fixed', Global, Local}
use Rattle.low_ir.specs.Kinds.{converted, kind_bytes}
use Rattle.low_ir.specs.Code.{Address, Operand, Register, Constant, Plain, Set, Operate, Point, Load, Store, Put, Get, Instr, Do, Call, End, Jump, Branch, Return, Block, Function, Low, Note, Object}
use Rattle.low_ir.specs.declared.run.Value.{Value}
use Rattle.low_ir.specs.declared.run.Value.TheVariants.{Word, Pointer}
use Rattle.low_ir.specs.Effects.{Contents, Did, World, after_byte, changes, contents, dest, effect, effect_of, element, first_elements, gives, got, is_element, loaded, next_byte, put, reads, resolved, start, stored, there, with_objects}
use Rattle.low_ir.specs.Runs.{Going, Done, Bad, Bank, operand_value, values, values_cons, write_to, goes_on, finish, enter, block_in, went_to, write_all, begin, only_where, waiting, call, come_back, give_back, chosen, branches, at_end, at_code, step, first, first_in, set_in, virtual}
use Rattle.pass_common_subexpressions_law.proofs.Effects.{is_met, is_stored, load_from, none_some, some_same, store_to, there_is}
use Rattle.pass_common_subexpressions_law.proofs.Places.{Nowhere, Somewhere, Way, way}
use Rattle.pass_common_subexpressions_law.proofs.Words.{converted-small}
use Rattle.low_parts.proofs.Words.{alu-small}
use Rattle.low_parts.proofs.Runs.{LowRun, LowRunning, LowWaiting}

abbrev pub SmallValue : Value → Type 0
SmallValue (Word w) = w < 2 ^ 32
SmallValue (Pointer o n) = Unit {0}

abbrev pub SmallSlot : Option Value → Type 0
SmallSlot None = Unit {0}
SmallSlot (Some x) = SmallValue x

abbrev pub SmallBank : Bank → Type 0
SmallBank s = All SmallSlot s

abbrev pub SmallElement : Option ℕ → Type 0
SmallElement None = Unit {0}
SmallElement (Some w) = w < 2 ^ 32

abbrev pub SmallContents : Contents → Type 0
SmallContents c = All SmallElement c.elements

pub record SmallWorld (u : World) : Type 0 where
  pub objects : All SmallContents u.objects
  pub input : All (λ c. c < 2 ^ 8) u.input

abbrev pub SmallWaits : List LowWaiting → Type 0
SmallWaits [] = Unit {0}
SmallWaits (w ∷ ws) = SmallBank w.frame.store × SmallWaits ws

pub record SmallRunning (r : LowRunning) : Type 0 where
  pub bank : SmallBank r.top.store
  pub waits : SmallWaits r.below
  pub world : SmallWorld r.world

abbrev pub SmallRun : LowRun → Type 0
SmallRun (Going r) = SmallRunning r
SmallRun (Done v u) = Unit {0}
SmallRun Bad = Unit {0}

-- what registers hold
slot_small : (s : Bank) (r : ℕ) → SmallBank s → SmallSlot (slice_index_or s r None)
slot_small s r h =
    ⊎_elim (λ (lt : r < length s). All-get_or SmallSlot s r None lt h) (λ (past : length s ≤ r). subst SmallSlot (sym (get_or_past s r None past)) tt) (cases_lt r (length s))

pub held_small : (s : Bank) (r : ℕ) (x : Value) → SmallBank s → slice_index_or s r None ≡ Some x → SmallValue x
held_small s r x h e = subst SmallSlot e (slot_small s r h)

operand_small : (s : Bank) (x : Operand ℕ) → SmallBank s → SmallSlot (operand_value virtual s x)
operand_small s (Register r) h = slot_small s r h
operand_small s (Constant w) h = omega arith

abbrev SmallList : List Value → Type 0
SmallList [] = Unit {0}
SmallList (x ∷ xs) = SmallValue x × SmallList xs

abbrev SmallValues : Option (List Value) → Type 0
SmallValues None = Unit {0}
SmallValues (Some xs) = SmallList xs

cons_small : (o : Option Value) (os : Option (List Value)) → SmallSlot o → SmallValues os → SmallValues (values_cons o os)
cons_small None os h hs = tt
cons_small (Some x) None h hs = tt
cons_small (Some x) (Some xs) h hs = (h, hs)

values_small : (s : Bank) (xs : List (Operand ℕ)) → SmallBank s → SmallValues (values virtual s xs)
values_small s [] h = tt
values_small s (x ∷ xs) h = cons_small (operand_value virtual s x) (values virtual s xs) (operand_small s x h) (values_small s xs h)

set_small : (s now : Bank) (d : ℕ) (x : Value) (b : Bool) → SmallBank s → SmallValue x → set_in s d x b ≡ Some now → SmallBank now
set_small s now d x false h v e = cc
set_small s now d x true h v e = subst SmallBank (some_same (slice_set s d (Some x)) now e) (All-set SmallSlot s d (Some x) v h)

write_small : (s now : Bank) (d : Option ℕ) (x : Value) → SmallBank s → SmallValue x → write_to virtual s d x ≡ Some now → SmallBank now
write_small s now None x h v e = subst SmallBank (some_same s now e) h
write_small s now (Some d) x h v e = set_small s now d x (nat_lt d (length s)) h v e

none_all : (rs : List ℕ) (xs : List Value) (now : Bank) → write_all virtual None rs xs ≡ Some now → ⊥
none_all [] xs now e = cc
none_all (r ∷ rs) xs now e = cc

all_small : (rs : List ℕ) (xs : List Value) (s now : Bank) → SmallBank s → SmallList xs → write_all virtual (Some s) rs xs ≡ Some now → SmallBank now
all_small [] [] s now h hs e = subst SmallBank (some_same s now e) h
all_small [] (x ∷ xs) s now h hs e = cc
all_small (r ∷ rs) [] s now h hs e = cc
all_small (r ∷ rs) (x ∷ xs) s now h hs e = by_write (λ t k m. all_small rs xs t now k hs.1 m) (virtual.write s r x) refl e
  where
    by_write : ((t : Bank) → SmallBank t → write_all virtual (Some t) rs xs ≡ Some now → SmallBank now) → (o : Option Bank) → virtual.write s r x ≡ o → write_all virtual o rs xs ≡ Some now → SmallBank now
    by_write rest None g k = absurd (none_all rs xs now k)
    by_write rest (Some t) g k = rest t (set_small s t r x (nat_lt r (length s)) h hs.0 g) k

-- what arrays hold
element_small : (c : Contents) (i : ℕ) → SmallContents c → SmallElement (slice_index_or c.elements i None)
element_small c i h =
    ⊎_elim
    (λ (lt : i < length c.elements). All-get_or SmallElement c.elements i None lt h)
    (λ (past : length c.elements ≤ i). subst SmallElement (sym (get_or_past c.elements i None past)) tt)
    (cases_lt i (length c.elements))

contents_small : (objects : List Contents) (o : ℕ) (c : Contents) → All SmallContents objects → slice_get objects o ≡ Some c → SmallContents c
contents_small objects o c h e = subst SmallContents (get_or_from_slice_get objects o c c e) (All-get_or SmallContents objects o c (slice_get_within objects o c e) h)

loaded_small : (objects : List Contents) (kind : Kind) (o n w : ℕ) → All SmallContents objects → loaded objects kind o n ≡ Some w → w < 2 ^ 32
loaded_small objects kind o n w h e =
    let t = there_is (slice_get objects o) (element kind n) w e in
    let m = is_met (is_element kind n t.value) (slice_index_or t.value.elements (n / kind_bytes kind) None) w t.goes in
    subst SmallElement m.goes (element_small t.value (n / kind_bytes kind) (contents_small objects o t.value h t.is))

stored_small : (objects now : List Contents) (kind : Kind) (o n w : ℕ) → All SmallContents objects → stored objects kind o n w ≡ Some now → All SmallContents now
stored_small objects now kind o n w h e =
    let s = is_stored objects now kind o n w e in
    let new : SmallContents s.new = subst SmallContents (sym s.new_is) (All-set SmallElement s.contents.elements (n / kind_bytes kind) (Some (converted kind w)) (converted-small kind w) (contents_small objects o s.contents h s.there)) in
    subst (All SmallContents) (sym s.is) (All-set SmallContents objects o s.new new h)

next_small : (xs : List ℕ) → All (λ c. c < 2 ^ 8) xs → next_byte xs < 2 ^ 32
next_small [] h = omega arith
next_small (c ∷ xs) h = let k = All-head (λ c. c < 2 ^ 8) c xs h in omega arith

after_small : (xs : List ℕ) → All (λ c. c < 2 ^ 8) xs → All (λ c. c < 2 ^ 8) (after_byte xs)
after_small [] h = h
after_small (c ∷ xs) h = All-tail (λ c. c < 2 ^ 8) c xs h

-- what an instruction did
record SmallDid (did : Did) : Type 0 where
  value : SmallValue did.value
  world : SmallWorld did.world

module _ (claims : List (List ℕ)) (u : World) (did : Did) (world : SmallWorld u) where
  given : (now : World) (x : Value) → SmallWorld now → SmallValue x → gives now x ≡ Some did → SmallDid did
  given now x w v e = subst SmallDid (some_same (record { world = now; value = x }) did e) (record { value = v; world = w })

  set_did : (d : ℕ) (x : Operand ℕ) (xs : List Value) → SmallList xs → effect claims (Set d x) xs u ≡ Some did → SmallDid did
  set_did d x [] h e = cc
  set_did d x (a ∷ []) h e = given u a world h.0 e
  set_did d x (a ∷ b ∷ xs) h e = cc

  operate_did : (operator : Alu) (d : ℕ) (x y : Operand ℕ) (xs : List Value) → SmallList xs → effect claims (Operate operator d x y) xs u ≡ Some did → SmallDid did
  operate_did operator d x y [] h e = cc
  operate_did operator d x y (a ∷ []) h e = cc
  operate_did operator d x y (Word m ∷ Word k ∷ []) h e = given u (Word (alu_value operator m k)) world (alu-small operator m k h.0 h.1.0) e
  operate_did operator d x y (Word m ∷ Pointer k l ∷ []) h e = cc
  operate_did operator d x y (Pointer m l ∷ b ∷ []) h e = cc
  operate_did operator d x y (a ∷ b ∷ c ∷ xs) h e = cc

  point_did : (a : Address ℕ) (os : Option (List Value)) → Way claims a os → there os (λ xs. resolved claims a xs (λ o n. gives u (Pointer o n))) ≡ Some did → SmallDid did
  point_did a os (Nowhere none) e = absurd (none_some did (sym (none (λ o n. gives u (Pointer o n))) ∙ e))
  point_did a os (Somewhere x m l) e = given u (Pointer x m) world tt (sym (l.goes (λ o n. gives u (Pointer o n))) ∙ e)

  load_did : (kind : Kind) (a : Address ℕ) (os : Option (List Value)) → Way claims a os → there os (λ xs. resolved claims a xs (load_from u kind)) ≡ Some did → SmallDid did
  load_did kind a os (Nowhere none) e = absurd (none_some did (sym (none (load_from u kind)) ∙ e))
  load_did kind a os (Somewhere x m l) e =
      let t = there_is (loaded u.objects kind x m) (λ v. gives u (Word v)) did (sym (l.goes (load_from u kind)) ∙ e) in
      given u (Word t.value) world (loaded_small u.objects kind x m t.value world.objects t.is) t.goes

  store_did : (kind : Kind) (a : Address ℕ) (v : ℕ) (os : Option (List Value)) → Way claims a os → there os (λ xs. resolved claims a xs (store_to u kind v)) ≡ Some did → SmallDid did
  store_did kind a v os (Nowhere none) e = absurd (none_some did (sym (none (store_to u kind v)) ∙ e))
  store_did kind a v os (Somewhere x m l) e =
      let t = there_is (stored u.objects kind x m v) (λ objects. changes (with_objects u objects)) did (sym (l.goes (store_to u kind v)) ∙ e) in
      given (with_objects u t.value) (Word 0) (record { objects = stored_small u.objects t.value kind x m v world.objects t.is; input = world.input }) (omega arith) t.goes

  stores_did : (kind : Kind) (a : Address ℕ) (x : Operand ℕ) (xs : List Value) → effect claims (Store kind a x) xs u ≡ Some did → SmallDid did
  stores_did kind a x [] e = cc
  stores_did kind a x (Word v ∷ xs) e = store_did kind a v (Some xs) (way claims a (Some xs)) e
  stores_did kind a x (Pointer m l ∷ xs) e = cc

  put_did : (x : Operand ℕ) (xs : List Value) → effect claims (Put x) xs u ≡ Some did → SmallDid did
  put_did x [] e = cc
  put_did x (Word v ∷ []) e = given (put u v) (Word 0) (record { objects = world.objects; input = world.input }) (omega arith) e
  put_did x (Pointer m l ∷ []) e = cc
  put_did x (a ∷ b ∷ xs) e = cc

  effect_small : (i : Plain ℕ) (os : Option (List Value)) → SmallValues os → effect_of claims i os u ≡ Some did → SmallDid did
  effect_small i None h e = cc
  effect_small (Set d x) (Some xs) h e = set_did d x xs h e
  effect_small (Operate operator d x y) (Some xs) h e = operate_did operator d x y xs h e
  effect_small (Point d a) (Some xs) h e = point_did a (Some xs) (way claims a (Some xs)) e
  effect_small (Load kind d a) (Some xs) h e = load_did kind a (Some xs) (way claims a (Some xs)) e
  effect_small (Store kind a x) (Some xs) h e = stores_did kind a x xs e
  effect_small (Put x) (Some xs) h e = put_did x xs e
  effect_small (Get d) (Some xs) h e = given (got u) (Word (next_byte u.input)) (record { objects = world.objects; input = after_small u.input world.input }) (next_small u.input world.input) e

-- a step
enter_small : (r : LowRunning) (b : ℕ) (o : Option (Block ℕ Note)) → SmallRunning r → SmallRun (enter r b o)
enter_small r b None h = tt
enter_small r b (Some block) h = record { bank = h.bank; waits = h.waits; world = record { objects = h.world.objects; input = h.world.input } }

went_small : (p : Low) (r : LowRunning) (b : ℕ) → SmallRunning r → SmallRun (went_to p r b)
went_small p r b h = enter_small r b (block_in (slice_get p.functions r.top.func) b) h

finish_small : (r : LowRunning) (is : List (Instr ℕ Note)) (d : Option ℕ) (o : Option Did) → SmallRunning r → ((did : Did) → o ≡ Some did → SmallDid did) → SmallRun (finish virtual r is d o)
finish_small r is d None h k = tt
finish_small r is d (Some did) h k = by_write (write_to virtual r.top.store d did.value) refl
  where
    by_write : (o : Option Bank) → write_to virtual r.top.store d did.value ≡ o → SmallRun (goes_on r is did.world o)
    by_write None e = tt
    by_write (Some s) e = let small = k did refl in record { bank = write_small r.top.store s d did.value h.bank small.value e; waits = h.waits; world = small.world }

begin_small : (ws : List LowWaiting) (u : World) (f : ℕ) (fn : Function ℕ Note) (xs : List Value) → SmallWaits ws → SmallWorld u → SmallList xs → SmallRun (begin ws u f fn (write_all virtual (Some (virtual.empty fn.size)) fn.parameters xs))
begin_small ws u f fn xs waits world hs = by_store (write_all virtual (Some (virtual.empty fn.size)) fn.parameters xs) refl
  where
    by_store : (o : Option Bank) → write_all virtual (Some (virtual.empty fn.size)) fn.parameters xs ≡ o → SmallRun (begin ws u f fn o)
    by_store None e = tt
    by_store (Some s) e =
        enter_small (record { top = record { func = f; code = []; end = Jump 0; store = s }; below = ws; world = u }) 0 (slice_get fn.blocks 0)
        (record { bank = all_small fn.parameters xs (virtual.empty fn.size) s (All-replicate SmallSlot fn.size None tt) hs e; waits = waits; world = world })

call_small : (r : LowRunning) (is : List (Instr ℕ Note)) (d : Option ℕ) (f : ℕ) (note : Note) (o : Option (Function ℕ Note)) (os : Option (List Value)) → SmallRunning r → SmallValues os → SmallRun (call virtual r is d f note o os)
call_small r is d f note None os h hs = tt
call_small r is d f note (Some fn) None h hs = tt
call_small r is d f note (Some fn) (Some xs) h hs = by_test (nat_lt f r.top.func)
  where
    by_test : (b : Bool) → SmallRun (only_where b (begin (waiting virtual r.top is d note ∷ r.below) r.world f fn (write_all virtual (Some (virtual.empty fn.size)) fn.parameters xs)))
    by_test false = tt
    by_test true = begin_small (waiting virtual r.top is d note ∷ r.below) r.world f fn xs (h.bank, h.waits) h.world hs

back_small : (u : World) (v : ℕ) (ws : List LowWaiting) → SmallWorld u → v < 2 ^ 32 → SmallWaits ws → SmallRun (come_back virtual u ws v)
back_small u v [] world small waits = tt
back_small u v (w ∷ ws) world small waits = by_write (write_to virtual w.frame.store w.into (Word v)) refl
  where
    by_write : (o : Option Bank) → write_to virtual w.frame.store w.into (Word v) ≡ o → SmallRun (goes_on (record { top = w.frame; below = ws; world = u }) w.frame.code u o)
    by_write None e = tt
    by_write (Some s) e = record { bank = write_small w.frame.store s w.into (Word v) waits.0 small e; waits = waits.1; world = world }

give_small : (r : LowRunning) (o : Option Value) → SmallRunning r → SmallSlot o → SmallRun (give_back virtual r o)
give_small r None h k = tt
give_small r (Some (Pointer o n)) h k = tt
give_small r (Some (Word v)) h k = back_small r.world v r.below h.world k h.waits

branch_small : (p : Low) (r : LowRunning) (o : Option ℕ) → SmallRunning r → SmallRun (branches p r o)
branch_small p r None h = tt
branch_small p r (Some b) h = went_small p r b h

end_small : (p : Low) (r : LowRunning) (end : End ℕ) → SmallRunning r → SmallRun (at_end virtual p r end)
end_small p r (Jump b) h = went_small p r b h
end_small p r (Branch c x y taken other) h = branch_small p r (chosen c taken other (operand_value virtual r.top.store x) (operand_value virtual r.top.store y)) h
end_small p r (Return x) h = give_small r (operand_value virtual r.top.store x) h (operand_small r.top.store x h.bank)

code_small : (p : Low) (r : LowRunning) (code : List (Instr ℕ Note)) → SmallRunning r → SmallRun (at_code virtual p r code)
code_small p r [] h = end_small p r r.top.end h
code_small p r (Do i ∷ is) h =
    finish_small r is (dest i) (effect_of p.claims i (values virtual r.top.store (reads i)) r.world) h
    (λ did e. effect_small p.claims r.world did h.world i (values virtual r.top.store (reads i)) (values_small r.top.store (reads i) h.bank) e)
code_small p r (Call d f args note ∷ is) h = call_small r is d f note (slice_get p.functions f) (values virtual r.top.store args) h (values_small r.top.store args h.bank)

pub step_small : (p : Low) (r : LowRun) → SmallRun r → SmallRun (step virtual p r)
step_small p (Going r) h = code_small p r r.top.code h
step_small p (Done v u) h = tt
step_small p Bad h = tt

-- the start
given_all : (P : ℕ → Type 0) → ((n : ℕ) → P n) → (xs : List ℕ) → All P xs
given_all P f [] = All-nil P
given_all P f (x ∷ xs) = All-cons P x xs (f x) (given_all P f xs)

values_first : (o : Object) → All SmallElement (take o.size (map (λ v. Some (converted o.kind v)) o.values ++ replicate o.size (Some 0)))
values_first o =
    All-take SmallElement o.size (map (λ v. Some (converted o.kind v)) o.values ++ replicate o.size (Some 0))
    (All-append SmallElement (map (λ v. Some (converted o.kind v)) o.values) (replicate o.size (Some 0))
    (All-map SmallElement (λ v. Some (converted o.kind v)) o.values (given_all (λ v. converted o.kind v < 2 ^ 32) (converted-small o.kind) o.values))
    (All-replicate SmallElement o.size (Some 0) (omega arith)))

first_elements_small : (storage : Storage) (o : Object) → All SmallElement (first_elements storage o)
first_elements_small Fixed' o = values_first o
first_elements_small Global o = values_first o
first_elements_small Local o = All-replicate SmallElement o.size None tt

objects_small : (objects : List Object) → All SmallContents (map contents objects)
objects_small [] = All-nil SmallContents
objects_small (o ∷ objects) = All-cons SmallContents (contents o) (map contents objects) (first_elements_small o.storage o) (objects_small objects)

pub first_small : (p : Low) (input : List ℕ) → All (λ c. c < 2 ^ 8) input → SmallRun (first virtual p input)
first_small p input bytes = by_main (slice_get p.functions p.main)
  where
    by_main : (o : Option (Function ℕ Note)) → SmallRun (first_in virtual (start p.objects input) p.main o)
    by_main None = tt
    by_main (Some fn) = begin_small [] (start p.objects input) p.main fn [] tt (record { objects = objects_small p.objects; input = bytes }) tt
