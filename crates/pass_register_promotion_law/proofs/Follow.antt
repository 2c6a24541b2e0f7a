-- The run with scalars in registers follows the run without.
use Rattle.std.proofs.Common.{◌≡◌, ◌<◌, ◌≤◌, ℕ, zero, suc, ◌+◌, Bool, true, false, List, [], ◌∷◌, ◌++◌, length, Option, Some, None, refl, sym, ap, ◌∙◌, subst, inl, inr, arith}
use Rattle.std.specs.Prelude.{◌%◌, ◌^◌, ◌⊎◌, slice_get, slice_index_or, slice_set, nat_lt, if◌then◌else◌, All}
use Rattle.std.proofs.lemmas.Bool.{cases_eq}
use Rattle.std.proofs.lemmas.List.{append_assoc}
use Rattle.std.proofs.lemmas.List.Elements.{All-head, All-tail}
use Rattle.std.proofs.lemmas.Option.{slice_get_within}
use Rattle.rv_core.specs.declared.row.Condition.{Condition}
use Rattle.rv_core.specs.Arithmetic.{holds}
use Rattle.low_ir.specs.declared.object.Kind.{Kind}
use Rattle.low_ir.specs.Kinds.{converted}
use Rattle.low_ir.specs.Code.{Operand, Register, Constant, Base, Fixed, Through, Address, Plain, Set, Operate, Point, Load, Store, Put, Get, Instr, Do, Call, End, Jump, Branch, Return, Block, Low, Note}
use Rattle.low_ir.specs.declared.run.Began.{Began}
use Rattle.low_ir.specs.declared.run.Value.{Value}
use Rattle.low_ir.specs.declared.run.Value.TheVariants.{Word, Pointer}
use Rattle.low_ir.specs.Effects.{Contents, World, Did, start, reads, dest, effect, effect_of, began, element, loaded, stored, there, gives, changes, with_element, with_objects}
use Rattle.low_ir.specs.Formed.{IsLow, LeadsOn}
use Rattle.low_ir.specs.Runs.{Going, Done, Bad, Bank, operand_value, values, values_cons, write_to, goes_on, finish, enter, block_in, went_to, write_all, begin, only_where, waiting, call, at_instr, come_back, give_back, chosen, branches, at_end, at_code, step, run, first, first_in, lrun, virtual}
use Rattle.low_ir.specs.Turns.{IsGood, KeepsLoop, KeepsLoops}
use Rattle.pass_constant_hoisting.specs.Carried.{Ends}
use Rattle.pass_constant_hoisting.proofs.Stores.{Shows, all_written, empty_shows, within, written}
use Rattle.pass_constant_hoisting.proofs.Instructions.{all_stand, plain_stands, values_stand}
use Rattle.pass_common_subexpressions_law.specs.Facts.{Touches}
use Rattle.pass_common_subexpressions_law.proofs.Effects.{get-set_other, get-set_same, some_same}
use Rattle.pass_common_subexpressions_law.proofs.Small.{SmallBank, SmallRun, first_small, held_small, step_small}
use Rattle.low_parts.proofs.Runs.{LowFunction, LowRun, LowRunning, LowWaiting}
use Rattle.pass_register_promotion_law.specs.Promoting.{Resident, closing, load_by, keeping, promoted_code, promoted_function, promoted_instr, promoted_program, register_of, resident_at, residents_at, scalar_address, store_by}
use Rattle.pass_register_promotion_law.specs.Suiting.{AllMayReside, AreScalars, BaseSuits, BlockKept, InstrSuits, InstrTold, IsKept, IsScalar, IsTold, IsWhole, PlainSuits, PlainTold, StoreSuits, Table, is_only_read, is_resident, kind_in}
use Rattle.pass_register_promotion_law.proofs.Memory.{AreAlike, BaseSees, PlainSees, effect_alongside}
use Rattle.pass_register_promotion_law.proofs.Scalars.{Absent, AllHeld, Found, HasWord, Present, above, first_resident, found, held_kept, later_resident, only_element, only_stored, rewritten, scalar, unlike}
use Rattle.pass_register_promotion_law.proofs.Keeps.{kept}
use Rattle.pass_register_promotion_law.proofs.Narrow.{converted_again}
use Rattle.pass_register_promotion_law.proofs.Filling.{AreReady, LowCode, filled, running, stored_back}
use Rattle.pass_register_promotion_law.proofs.Starting.{all_at, first_word, not_first, same_lists}
use Rattle.pass_register_promotion_law.proofs.Tables.{block_promoted, function_promoted, of_function}

run_add : (q : Low) (n m : ℕ) (z : LowRun) → run virtual q (n + m) z ≡ run virtual q m (run virtual q n z)
run_add q zero m z = let e : 0 + m ≡ m = omega arith in ap (λ k. run virtual q k z) e
run_add q (suc n) m z = let e : suc n + m ≡ suc (n + m) = omega arith in ap (λ k. run virtual q k z) e ∙ run_add q n m (step virtual q z)

else_false : (b c : Bool) → (if b then true else c) ≡ false → c ≡ false
else_false true c e = cc
else_false false c e = e

if_false : (b c : Bool) → b ≡ false → c ≡ false → (if b then true else c) ≡ false
if_false true c e f = cc
if_false false c e f = f

else_true : (b c : Bool) → c ≡ true → (if b then true else c) ≡ true
else_true true c e = refl
else_true false c e = e

not_true : (b : Bool) → (b ≡ true → ⊥) → b ≡ false
not_true true h = absurd (h refl)
not_true false h = refl

-- an address of a whole scalar
whole_address : (a : Address ℕ) (o : ℕ) → a.base ≡ Fixed o → a.offset ≡ None → a.displacement ≡ 0 → a ≡ scalar_address o
whole_address a o e f g =
    ap (λ b. record { base = b; offset = a.offset; displacement = a.displacement }) e
    ∙ ap (λ x. record { base = Fixed o; offset = x; displacement = a.displacement }) f
    ∙ ap (λ n. record { base = Fixed o; offset = None; displacement = n }) g

operand_small : (s : Bank) (x : Operand ℕ) (w : ℕ) → SmallBank s → operand_value virtual s x ≡ Some (Word w) → w < 2 ^ 32
operand_small s (Register r) w h e = held_small s r (Word w) h e
operand_small s (Constant c) w h e = let same : c % 2 ^ 32 ≡ w = cc in omega (arith, same)

module _ (hss : List (List Resident)) (table : Table) (q : Low) (low : IsLow q) (may : AllMayReside q table hss) where
  abbrev q2 : Low
  q2 = promoted_program hss q

  -- the scalars of a function
  abbrev own : ℕ → List Resident
  own f = residents_at hss f

  abbrev code_of : ℕ → LowFunction → LowCode → End ℕ → LowCode
  code_of f fn is end = promoted_code fn.size (own f) is ++ closing fn.size (own f) end

  abbrev to : LowFunction → LowRunning → Bank → List LowWaiting → List Contents → LowRunning
  to fn r t ws others = running r.top.func (code_of r.top.func fn r.top.code r.top.end) r.top.end t ws (with_objects r.world others)

  -- an activation that waits has a register for an object
  abbrev is_waiting : List LowWaiting → ℕ → Bool
  is_waiting [] o = false
  is_waiting (w ∷ ws) o = if is_resident (own w.frame.func) o then true else is_waiting ws o

  -- or one of function f above them
  abbrev hides : ℕ → List LowWaiting → ℕ → Bool
  hides f ws o = if is_resident (own f) o then true else is_waiting ws o

  -- what function f may touch has no register below it
  abbrev Clear : ℕ → List LowWaiting → Type 0
  Clear f ws = (o : ℕ) → is_waiting ws o ≡ true → table f o ≡ false

  -- scalars hold words
  abbrev AllWords : List Contents → Type 0
  AllWords objects = (o : ℕ) (kind : Kind) → IsScalar q.objects o kind → HasWord objects o kind

  -- an activation of function f, its store beside that of the other run
  record Acts (f : ℕ) (fn : LowFunction) (code : LowCode) (end : End ℕ) (s t : Bank) (objects others : List Contents) : Type 0 where
    there : slice_get q.functions f ≡ Some fn
    shows : Shows fn.size (length (own f)) s t
    holds : AllHeld t fn.size (own f) objects others
    kept : All (IsKept q.claims table f (own f)) code
    later : LeadsOn end 0 → ⊥

  record Pending (objects others : List Contents) (ws : List LowWaiting) (w x : LowWaiting) : Type 0 where
    fn : LowFunction
    bank : Bank
    is : x ≡ record { frame = record { func = w.frame.func; code = code_of w.frame.func fn w.frame.code w.frame.end; end = w.frame.end; store = bank }; into = w.into }
    acts : Acts w.frame.func fn w.frame.code w.frame.end w.frame.store bank objects others
    clear : Clear w.frame.func ws

  abbrev Waits : List Contents → List Contents → List LowWaiting → List LowWaiting → Type 0
  Waits objects others [] [] = Unit {0}
  Waits objects others [] (x ∷ xs) = ⊥
  Waits objects others (w ∷ ws) [] = ⊥
  Waits objects others (w ∷ ws) (x ∷ xs) = Pending objects others ws w x × Waits objects others ws xs

  record Rel (r : LowRunning) (z : LowRun) : Type 0 where
    fn : LowFunction
    bank : Bank
    below : List LowWaiting
    others : List Contents
    is : z ≡ Going (to fn r bank below others)
    acts : Acts r.top.func fn r.top.code r.top.end r.top.store bank r.world.objects others
    clear : Clear r.top.func r.below
    alike : AreAlike (hides r.top.func r.below) r.world.objects others
    words : AllWords r.world.objects
    waits : Waits r.world.objects others r.below below

  abbrev Follows : LowRun → LowRun → Type 0
  Follows (Going r) z = Rel r z
  Follows (Done v u) z = z ≡ Done v u
  Follows Bad z = Unit {0}

  -- after some steps
  record Leads (y z : LowRun) : Type 0 where
    steps : ℕ
    follows : Follows y (run virtual q2 steps z)

  at_once : (y z : LowRun) → Follows y z → Leads y z
  at_once y z h = record { steps = 0; follows = h }

  from : (y z x : LowRun) → z ≡ x → Leads y x → Leads y z
  from y z x e h = subst (λ a. Leads y a) (sym e) h

  after_step : (y z : LowRun) → Leads y (step virtual q2 z) → Leads y z
  after_step y z a = record { steps = suc a.steps; follows = a.follows }

  after : (n : ℕ) (y z x : LowRun) → run virtual q2 n z ≡ x → Leads y x → Leads y z
  after n y z x e h =
      let a = from y (run virtual q2 n z) x e h in
      record { steps = n + a.steps; follows = subst (Follows y) (sym (run_add q2 n a.steps z)) a.follows }

  -- memories may change elsewhere
  waits_kept : (objects others objects2 others2 : List Contents) (ws xs : List LowWaiting) → ((o : ℕ) → is_waiting ws o ≡ true → slice_get objects2 o ≡ slice_get objects o) → ((o : ℕ) → is_waiting ws o ≡ true → slice_get others2 o ≡ slice_get others o) → Waits objects others ws xs → Waits objects2 others2 ws xs
  waits_kept objects others objects2 others2 [] [] first second h = tt
  waits_kept objects others objects2 others2 [] (x ∷ xs) first second h = absurd h
  waits_kept objects others objects2 others2 (w ∷ ws) [] first second h = absurd h
  waits_kept objects others objects2 others2 (w ∷ ws) (x ∷ xs) first second h =
      let k = h.0 in
      let a = k.acts in
      let here : (o : ℕ) → is_resident (own w.frame.func) o ≡ true → is_waiting (w ∷ ws) o ≡ true = λ o e. ap (λ b. if b then true else is_waiting ws o) e in
      let more : (o : ℕ) → is_waiting ws o ≡ true → is_waiting (w ∷ ws) o ≡ true = λ o e. else_true (is_resident (own w.frame.func) o) (is_waiting ws o) e in (
        record {
          fn = k.fn;
          bank = k.bank;
          is = k.is;
          acts = record {
            there = a.there;
            shows = a.shows;
            holds = held_kept k.bank k.bank k.fn.size (own w.frame.func) objects others objects2 others2 (λ s n. refl) (λ o e. first o (here o e)) (λ o e. second o (here o e)) a.holds;
            kept = a.kept;
            later = a.later;
          };
          clear = k.clear;
        },
        waits_kept objects others objects2 others2 ws xs (λ o e. first o (more o e)) (λ o e. second o (more o e)) h.1,
      )

  -- what a function has a register for, none below it has
  resident_free : (f : ℕ) (fn : LowFunction) (ws : List LowWaiting) (o : ℕ) → slice_get q.functions f ≡ Some fn → Clear f ws → is_resident (own f) o ≡ true → is_waiting ws o ≡ false
  resident_free f fn ws o there clear e = not_true (is_waiting ws o) (λ w. unlike (table f o) ((may f fn there).told o e) (clear o w))

  ready : (objects others : List Contents) (hs : List Resident) → AreScalars q.objects hs → AllWords objects → ((o : ℕ) → is_resident hs o ≡ true → slice_get objects o ≡ slice_get others o) → AreReady objects others hs
  ready objects others [] scalars words alike = tt
  ready objects others (h ∷ hs) scalars words alike =
      let w = words h.object h.kind scalars.0 in
      (record { word = w.word; kept = w.kept; here = w.is; there = sym (alike h.object (first_resident h hs)) ∙ w.is }, ready objects others hs scalars.1 words (λ o e. alike o (later_resident h hs o e)))

  -- the first block is entered, which loads the scalars
  first_leads : (r : LowRunning) (t : Bank) (xs : List LowWaiting) (others : List Contents) (fn : LowFunction) → slice_get q.functions r.top.func ≡ Some fn → Shows fn.size (length (own r.top.func)) r.top.store t → Clear r.top.func r.below → AreAlike (is_waiting r.below) r.world.objects others → AllWords r.world.objects → Waits r.world.objects others r.below xs
      → (is : LowCode) (end : End ℕ) (o : Option (Block ℕ Note)) → slice_get fn.blocks 0 ≡ o → Leads (enter r 0 o) (enter (running r.top.func is end t xs (with_objects r.world others)) 0 (slice_get (promoted_function (own r.top.func) fn).blocks 0))
  first_leads r t xs others fn there shows clear alike words waits is end None e = at_once Bad _ tt
  first_leads r t xs others fn there shows clear alike words waits is end (Some bl) e =
      let f = r.top.func in
      let hs = own f in
      let u = began r.world f 0 in
      let m = may f fn there in
      let larger = shows.larger in
      let a = filled q2 f (code_of f fn bl.code bl.end) bl.end t xs (with_objects u others) r.world.objects fn.size hs (omega (arith, larger))
      (ready r.world.objects others hs m.scalars words (λ o k. alike o (resident_free f fn r.below o there clear k))) in
      from (enter r 0 (Some bl)) _ _
      (ap (enter (running f is end t xs (with_objects r.world others)) 0) (block_promoted hs fn 0 bl e))
      (record {
        steps = length hs;
        follows = record {
          fn = fn;
          bank = a.bank;
          below = xs;
          others = others;
          is = a.runs;
          acts = record {
            there = there;
            shows = record {
              size = shows.size;
              larger = a.size ∙ shows.larger;
              same = λ v x g. let low = within r.top.store v x g in let size = shows.size in a.below_same v (omega (arith, low, size)) ∙ shows.same v x g;
            };
            holds = a.holds;
            kept = all_at (BlockKept q.claims table f hs) fn.blocks 0 bl m.blocks e;
            later = not_first q f fn low there 0 bl e;
          };
          clear = clear;
          alike = λ o h. alike o (else_false (is_resident hs o) (is_waiting r.below o) h);
          words = words;
          waits = waits;
        };
      })

  -- a jump to a later block
  enter_leads : (r : LowRunning) (t : Bank) (xs : List LowWaiting) (others : List Contents) (fn : LowFunction) → Acts r.top.func fn r.top.code r.top.end r.top.store t r.world.objects others → Clear r.top.func r.below → AreAlike (hides r.top.func r.below) r.world.objects others → AllWords r.world.objects → Waits r.world.objects others r.below xs
      → (is : LowCode) (end : End ℕ) (b : ℕ) (o : Option (Block ℕ Note)) → slice_get fn.blocks (suc b) ≡ o → Leads (enter r (suc b) o) (enter (running r.top.func is end t xs (with_objects r.world others)) (suc b) (slice_get (promoted_function (own r.top.func) fn).blocks (suc b)))
  enter_leads r t xs others fn acts clear alike words waits is end b None e = at_once Bad _ tt
  enter_leads r t xs others fn acts clear alike words waits is end b (Some bl) e =
      let f = r.top.func in
      at_once (enter r (suc b) (Some bl)) _ (record {
        fn = fn;
        bank = t;
        below = xs;
        others = others;
        is = ap (enter (running f is end t xs (with_objects r.world others)) (suc b)) (block_promoted (own f) fn (suc b) bl e);
        acts = record { there = acts.there; shows = acts.shows; holds = acts.holds; kept = all_at (BlockKept q.claims table f (own f)) fn.blocks (suc b) bl (may f fn acts.there).blocks e; later = not_first q f fn low acts.there (suc b) bl e };
        clear = clear;
        alike = alike;
        words = words;
        waits = waits;
      })

  jump_leads : (r : LowRunning) (t : Bank) (xs : List LowWaiting) (others : List Contents) (fn : LowFunction) → Acts r.top.func fn r.top.code r.top.end r.top.store t r.world.objects others → Clear r.top.func r.below → AreAlike (hides r.top.func r.below) r.world.objects others → AllWords r.world.objects → Waits r.world.objects others r.below xs
      → (is : LowCode) (end : End ℕ) (b : ℕ) → (b ≡ 0 → ⊥) → Leads (went_to q r b) (went_to q2 (running r.top.func is end t xs (with_objects r.world others)) b)
  jump_leads r t xs others fn acts clear alike words waits is end zero later = absurd (later refl)
  jump_leads r t xs others fn acts clear alike words waits is end (suc b) later =
      let z = running r.top.func is end t xs (with_objects r.world others) in
      subst (λ o. Leads (enter r (suc b) (block_in o (suc b))) (went_to q2 z (suc b))) (sym acts.there)
      (from (enter r (suc b) (slice_get fn.blocks (suc b))) (went_to q2 z (suc b)) (enter z (suc b) (slice_get (promoted_function (own r.top.func) fn).blocks (suc b)))
      (ap (λ o. enter z (suc b) (block_in o (suc b))) (function_promoted hss q r.top.func fn acts.there))
      (enter_leads r t xs others fn acts clear alike words waits is end b (slice_get fn.blocks (suc b)) refl))

  -- a function is entered with these arguments
  begin_leads : (ws xs : List LowWaiting) (u : World) (others : List Contents) (f : ℕ) (fn : LowFunction) (vs : List Value) → Waits u.objects others ws xs → slice_get q.functions f ≡ Some fn → Clear f ws → AreAlike (is_waiting ws) u.objects others → AllWords u.objects
      → (o : Option Bank) → write_all virtual (Some (virtual.empty fn.size)) fn.parameters vs ≡ o → Leads (begin ws u f fn o) (begin xs (with_objects u others) f (promoted_function (own f) fn) (write_all virtual (Some (virtual.empty (fn.size + length (own f)))) fn.parameters vs))
  begin_leads ws xs u others f fn vs waits there clear alike words None e = at_once Bad _ tt
  begin_leads ws xs u others f fn vs waits there clear alike words (Some s) e =
      let k = length (own f) in
      let a = all_written fn.size k fn.parameters vs (virtual.empty fn.size) s (virtual.empty (fn.size + k)) (empty_shows fn.size k) e in
      from (begin ws u f fn (Some s)) _ _ (ap (begin xs (with_objects u others) f (promoted_function (own f) fn)) a.is)
      (first_leads (running f [] (Jump 0) s ws u) a.bank xs others fn there a.shows clear alike words waits [] (Jump 0) (slice_get fn.blocks 0) refl)

  -- an activation and what it goes by
  record Going2 (r : LowRunning) (t : Bank) (xs : List LowWaiting) (others : List Contents) (fn : LowFunction) (is : LowCode) : Type 0 where
    acts : Acts r.top.func fn is r.top.end r.top.store t r.world.objects others
    clear : Clear r.top.func r.below
    alike : AreAlike (hides r.top.func r.below) r.world.objects others
    words : AllWords r.world.objects
    waits : Waits r.world.objects others r.below xs

  -- what was changed by an instruction that touches no scalar with a register
  record Changes (r : LowRunning) (others : List Contents) (u : World) (now : List Contents) : Type 0 where
    alike : AreAlike (hides r.top.func r.below) u.objects now
    still : (o : ℕ) → hides r.top.func r.below o ≡ true → slice_get u.objects o ≡ slice_get r.world.objects o
    still_there : (o : ℕ) → hides r.top.func r.below o ≡ true → slice_get now o ≡ slice_get others o
    words : AllWords u.objects

  -- and then a value is written
  goes_leads : (r : LowRunning) (t : Bank) (xs : List LowWaiting) (others : List Contents) (fn : LowFunction) (is : LowCode) → Going2 r t xs others fn is → (u : World) (now : List Contents) → Changes r others u now → (d : Option ℕ) (x : Value) → Leads (goes_on r is u (write_to virtual r.top.store d x)) (goes_on (to fn r t xs others) (code_of r.top.func fn is r.top.end) (with_objects u now) (write_to virtual t d x))
  goes_leads r t xs others fn is g u now c d x = by_write (write_to virtual r.top.store d x) refl
    where
      by_write : (o : Option Bank) → write_to virtual r.top.store d x ≡ o → Leads (goes_on r is u o) (goes_on (to fn r t xs others) (code_of r.top.func fn is r.top.end) (with_objects u now) (write_to virtual t d x))
      by_write None e = at_once Bad _ tt
      by_write (Some s) e =
          let f = r.top.func in
          let hs = own f in
          let a = g.acts in
          let w = written fn.size (length hs) r.top.store s t d x a.shows e in
          at_once (goes_on r is u (Some s)) _ (record {
            fn = fn;
            bank = w.bank;
            below = xs;
            others = now;
            is = ap (goes_on (to fn r t xs others) (code_of f fn is r.top.end) (with_objects u now)) w.is;
            acts = record {
              there = a.there;
              shows = w.shows;
              holds = held_kept t w.bank fn.size hs r.world.objects others u.objects now (above fn.size r.top.store s t w.bank d x a.shows.size e w.is)
                  (λ o k. c.still o (ap (λ b. if b then true else is_waiting r.below o) k)) (λ o k. c.still_there o (ap (λ b. if b then true else is_waiting r.below o) k)) a.holds;
              kept = a.kept;
              later = a.later;
            };
            clear = g.clear;
            alike = c.alike;
            words = c.words;
            waits = waits_kept r.world.objects others u.objects now r.below xs (λ o k. c.still o (else_true (is_resident hs o) (is_waiting r.below o) k)) (λ o k. c.still_there o (else_true (is_resident hs o) (is_waiting r.below o) k)) g.waits;
          })

  nothing_changes : (r : LowRunning) (t : Bank) (xs : List LowWaiting) (others : List Contents) (fn : LowFunction) (is : LowCode) → Going2 r t xs others fn is → Changes r others r.world others
  nothing_changes r t xs others fn is g = record { alike = g.alike; still = λ o h. refl; still_there = λ o h. refl; words = g.words }

  -- the code into which an instruction was made leads to where it leads
  abbrev PlainLeads : LowRunning → Bank → List LowWaiting → List Contents → LowFunction → LowCode → Plain ℕ → LowCode → Type 0
  PlainLeads r t xs others fn is i js =
      Leads (finish virtual r is (dest i) (effect_of q.claims i (values virtual r.top.store (reads i)) r.world))
      (Going (running r.top.func (js ++ code_of r.top.func fn is r.top.end) r.top.end t xs (with_objects r.world others)))

  -- an instruction that touches no scalar with a register
  stays_leads : (r : LowRunning) (t : Bank) (xs : List LowWaiting) (others : List Contents) (fn : LowFunction) (is : LowCode) → Going2 r t xs others fn is → (i : Plain ℕ) → PlainSees q.claims (hides r.top.func r.below) i → PlainLeads r t xs others fn is i (Do i ∷ [])
  stays_leads r t xs others fn is g i sees = after_step _ _ (by_values (values virtual r.top.store (reads i)) refl)
    where
      z : LowRunning
      z = running r.top.func (Do i ∷ code_of r.top.func fn is r.top.end) r.top.end t xs (with_objects r.world others)

      by_effect : (vs : List Value) → (o : Option Did) → effect q.claims i vs r.world ≡ o → Leads (finish virtual r is (dest i) o) (finish virtual (running r.top.func (Do i ∷ code_of r.top.func fn is r.top.end) r.top.end t xs (with_objects r.world others)) (code_of r.top.func fn is r.top.end) (dest i) (effect q.claims i vs (with_objects r.world others)))
      by_effect vs None e = at_once Bad _ tt
      by_effect vs (Some did) e =
          let a = effect_alongside q.claims (hides r.top.func r.below) r.world others g.alike did i vs sees e in
          from (goes_on r is did.world (write_to virtual r.top.store (dest i) did.value)) _ _
          (ap (finish virtual (running r.top.func (Do i ∷ code_of r.top.func fn is r.top.end) r.top.end t xs (with_objects r.world others)) (code_of r.top.func fn is r.top.end) (dest i)) a.is)
          (goes_leads r t xs others fn is g did.world a.now (record { alike = a.alike; still = a.still; still_there = a.still_there; words = λ o k x. a.words o k (g.words o k x) }) (dest i) did.value)

      by_values : (os : Option (List Value)) → values virtual r.top.store (reads i) ≡ os → Leads (finish virtual r is (dest i) (effect_of q.claims i os r.world)) (finish virtual (running r.top.func (Do i ∷ code_of r.top.func fn is r.top.end) r.top.end t xs (with_objects r.world others)) (code_of r.top.func fn is r.top.end) (dest i) (effect_of q.claims i (values virtual t (reads i)) (with_objects r.world others)))
      by_values None e = at_once Bad _ tt
      by_values (Some vs) e =
          from (finish virtual r is (dest i) (effect q.claims i vs r.world)) _ _
          (ap (λ o. finish virtual (running r.top.func (Do i ∷ code_of r.top.func fn is r.top.end) r.top.end t xs (with_objects r.world others)) (code_of r.top.func fn is r.top.end) (dest i) (effect_of q.claims i o (with_objects r.world others))) (values_stand r.top.store t (reads i) (reads i) vs (all_stand r.top.store t fn.size (length (own r.top.func)) g.acts.shows (reads i)) e))
          (by_effect vs (effect q.claims i vs r.world) refl)

  -- a load from a register
  load_leads : (r : LowRunning) (t : Bank) (xs : List LowWaiting) (others : List Contents) (fn : LowFunction) (is : LowCode) → Going2 r t xs others fn is → (kind : Kind) (d o s word : ℕ) → slice_get r.world.objects o ≡ Some (scalar kind (Some word)) → slice_index_or t s None ≡ Some (Word word) → PlainLeads r t xs others fn is (Load kind d (scalar_address o)) (Do (Set d (Register s)) ∷ [])
  load_leads r t xs others fn is g kind d o s word here register =
      let loads_it : loaded r.world.objects kind o 0 ≡ Some word = ap (λ c. there c (element kind 0)) here ∙ only_element kind (Some word) in
      let js = code_of r.top.func fn is r.top.end in
      let z = running r.top.func (Do (Set d (Register s)) ∷ js) r.top.end t xs (with_objects r.world others) in
      subst (λ x. Leads (finish virtual r is (Some d) (there x (λ w. gives r.world (Word w)))) (Going z)) (sym loads_it)
      (after_step (goes_on r is r.world (write_to virtual r.top.store (Some d) (Word word))) (Going z)
      (from (goes_on r is r.world (write_to virtual r.top.store (Some d) (Word word))) _ _
      (ap (λ x. finish virtual z js (Some d) (effect_of q.claims (Set d (Register s)) (values_cons x (Some [])) (with_objects r.world others))) register)
      (goes_leads r t xs others fn is g r.world others (nothing_changes r t xs others fn is g) (Some d) (Word word))))

  -- a store to a register, behind which that holds what the element keeps
  store_leads : (r : LowRunning) (t : Bank) (xs : List LowWaiting) (others : List Contents) (fn : LowFunction) (is : LowCode) → SmallBank r.top.store → Going2 r t xs others fn is → (kind : Kind) (x : Operand ℕ) (o s old : ℕ) → slice_get r.world.objects o ≡ Some (scalar kind (Some old)) → is_resident (own r.top.func) o ≡ true → kind_in (own r.top.func) o ≡ Some kind → is_only_read (own r.top.func) o ≡ false → register_of fn.size (own r.top.func) o ≡ Some s → fn.size ≤ s → s < fn.size + length (own r.top.func)
      → PlainLeads r t xs others fn is (Store kind (scalar_address o) x) (keeping kind s x)
  store_leads r t xs others fn is small g kind x o s old here resident kind_is both some low high = by_value (operand_value virtual r.top.store x) refl
    where
      js : LowCode
      js = code_of r.top.func fn is r.top.end

      by_value : (v : Option Value) → operand_value virtual r.top.store x ≡ v → Leads (finish virtual r is None (effect_of q.claims (Store kind (scalar_address o) x) (values_cons v (Some [])) r.world))
          (Going (running r.top.func (keeping kind s x ++ code_of r.top.func fn is r.top.end) r.top.end t xs (with_objects r.world others)))
      by_value None e = at_once Bad _ tt
      by_value (Some (Pointer p n)) e = at_once Bad _ tt
      by_value (Some (Word w)) e =
          let f = r.top.func in
          let hs = own f in
          let a = g.acts in
          let n = fn.size in
          let objects = r.world.objects in
          let less = operand_small r.top.store x w small e in
          let v = converted kind w in
          let new = slice_set objects o (scalar kind (Some v)) in
          let inside : o < length objects = slice_get_within objects o (scalar kind (Some old)) here in
          let size = a.shows.size in
          let larger = a.shows.larger in
          let few : s < length t = omega (arith, high, larger) in
          let k = kept q2 f (code_of f fn is r.top.end) r.top.end xs (with_objects r.world others) t kind s x w few less (plain_stands r.top.store t n (length hs) a.shows x (Word w) e) in
          let free = resident_free f fn r.below o a.there g.clear resident in
          let apart : (y : ℕ) → is_waiting r.below y ≡ true → y ≡ o → ⊥ = λ y h z. unlike (is_waiting r.below o) (ap (is_waiting r.below) (sym z) ∙ h) free in
          let stored_it : stored objects kind o 0 w ≡ Some new = ap (λ c. there c (λ c. there (with_element kind 0 w c) (λ d. Some (slice_set objects o d)))) here ∙ ap (λ c. there c (λ d. Some (slice_set objects o d))) (only_stored kind w (Some old)) in
          subst (λ y. Leads (finish virtual r is None (there y (λ os. changes (with_objects r.world os)))) (Going (running f (keeping kind s x ++ code_of f fn is r.top.end) r.top.end t xs (with_objects r.world others)))) (sym stored_it)
          (after k.steps (Going (record r { top = record r.top { code = is }; world = with_objects r.world new })) _ _ k.runs
          (at_once _ _ (record {
            fn = fn;
            bank = k.bank;
            below = xs;
            others = others;
            is = refl;
            acts = record {
              there = a.there;
              shows = record {
                size = size;
                larger = k.written.size ∙ larger;
                same = λ y c m. let in_it = within r.top.store y c m in k.written.other y (λ d. omega (arith, in_it, d, size, low)) ∙ a.shows.same y c m;
              };
              holds = rewritten t k.bank n hs objects others o s v kind (converted_again kind w) k.written inside (may f fn a.there).distinct kind_is both some a.holds;
              kept = a.kept;
              later = a.later;
            };
            clear = g.clear;
            alike = λ y h. get-set_other objects o y (scalar kind (Some v)) (λ m. unlike (is_resident hs o) resident (ap (is_resident hs) (sym m) ∙ first_false (is_resident hs y) (is_waiting r.below y) h)) ∙ g.alike y h;
            words = λ y k2 c. by_same y k2 (g.words y k2 c) (cases_eq y o) inside;
            waits = waits_kept objects others new others r.below xs (λ y h. get-set_other objects o y (scalar kind (Some v)) (apart y h)) (λ y h. refl) g.waits;
          })))
        where
          first_false : (b c : Bool) → (if b then true else c) ≡ false → b ≡ false
          first_false true c e = cc
          first_false false c e = refl

          by_same : (y : ℕ) (k2 : Kind) → HasWord r.world.objects y k2 → (y ≡ o) ⊎ (y ≡ o → ⊥) → o < length r.world.objects → HasWord (slice_set r.world.objects o (scalar kind (Some (converted kind w)))) y k2
          by_same y k2 c (inl m) inside =
              let one : scalar k2 (Some c.word) ≡ scalar kind (Some old) = some_same (scalar k2 (Some c.word)) (scalar kind (Some old)) (sym c.is ∙ ap (slice_get r.world.objects) m ∙ here) in
              let alike : k2 ≡ kind = ap (λ (x : Contents). x.kind) one in
              subst (HasWord (slice_set r.world.objects o (scalar kind (Some (converted kind w)))) y) (sym alike)
              (record { word = converted kind w; kept = converted_again kind w; is = ap (slice_get (slice_set r.world.objects o (scalar kind (Some (converted kind w))))) m ∙ get-set_same r.world.objects o (scalar kind (Some (converted kind w))) inside })
          by_same y k2 c (inr m) inside = record { word = c.word; kept = c.kept; is = get-set_other r.world.objects o y (scalar kind (Some (converted kind w))) m ∙ c.is }

  -- what a base touches isn't hidden, where it has no register
  sees : (f : ℕ) (fn : LowFunction) (ws : List LowWaiting) (base : Base ℕ) → Clear f ws → IsTold q.claims (table f) base → ((o : ℕ) → Touches q.claims base o → is_resident (own f) o ≡ false) → BaseSees q.claims (hides f ws) base
  sees f fn ws base clear told apart o touches = if_false (is_resident (own f) o) (is_waiting ws o) (apart o touches) (not_true (is_waiting ws o) (λ w. unlike (table f o) (told o touches) (clear o w)))

  -- a load
  loads_leads : (r : LowRunning) (t : Bank) (xs : List LowWaiting) (others : List Contents) (fn : LowFunction) (is : LowCode) → Going2 r t xs others fn is → (kind : Kind) (d : ℕ) (a : Address ℕ) (base : Base ℕ) → a.base ≡ base → IsTold q.claims (table r.top.func) base → BaseSuits q.claims (own r.top.func) kind a base
      → PlainLeads r t xs others fn is (Load kind d a) (promoted_instr fn.size (own r.top.func) (Do (Load kind d a)))
  loads_leads r t xs others fn is g kind d a (Through p claim) e told suits =
      subst (λ b. PlainLeads r t xs others fn is (Load kind d a) (load_by b kind d a)) (none_through e)
      (stays_leads r t xs others fn is g (Load kind d a) (subst (BaseSees q.claims (hides r.top.func r.below)) (sym e) (sees r.top.func fn r.below (Through p claim) g.clear told suits)))
    where
      none_through : a.base ≡ Through p claim → None ≡ resident_at fn.size (own r.top.func) a.base
      none_through e = ap (resident_at fn.size (own r.top.func)) (sym e)
  loads_leads r t xs others fn is g kind d a (Fixed o) e told suits = by_found (found t fn.size (own r.top.func) o r.world.objects others g.acts.holds) suits
    where
      by_found : Found t fn.size (own r.top.func) o r.world.objects others → (is_resident (own r.top.func) o ≡ false) ⊎ IsWhole (own r.top.func) o kind a → PlainLeads r t xs others fn is (Load kind d a) (promoted_instr fn.size (own r.top.func) (Do (Load kind d a)))
      by_found (Absent none stays) suits =
          subst (λ b. PlainLeads r t xs others fn is (Load kind d a) (load_by b kind d a)) (sym (ap (resident_at fn.size (own r.top.func)) e ∙ none))
          (stays_leads r t xs others fn is g (Load kind d a) (subst (BaseSees q.claims (hides r.top.func r.below)) (sym e) (sees r.top.func fn r.below (Fixed o) g.clear told (λ y touches. ap (is_resident (own r.top.func)) (sym touches) ∙ stays))))
      by_found (Present s h some resident of_kind low high same held) (inl stays) = absurd (unlike (is_resident (own r.top.func) o) resident stays)
      by_found (Present s h some resident of_kind low high same held) (inr whole) =
          let is_it : Load kind d a ≡ Load kind d (scalar_address o) = ap (Load kind d) (whole_address a o e whole.offset whole.displacement) in
          let alike : h.kind ≡ kind = some_same h.kind kind (sym of_kind ∙ whole.kind_is) in
          subst (λ i. PlainLeads r t xs others fn is i (promoted_instr fn.size (own r.top.func) (Do i))) (sym is_it)
          (subst (λ b. PlainLeads r t xs others fn is (Load kind d (scalar_address o)) (load_by b kind d (scalar_address o))) (sym some)
          (load_leads r t xs others fn is g kind d o s held.word (ap (slice_get r.world.objects) (sym same) ∙ held.here ∙ ap (λ k. Some (scalar k (Some held.word))) alike) held.register))

  -- a store
  stores_leads : (r : LowRunning) (t : Bank) (xs : List LowWaiting) (others : List Contents) (fn : LowFunction) (is : LowCode) → SmallBank r.top.store → Going2 r t xs others fn is → (kind : Kind) (a : Address ℕ) (x : Operand ℕ) (base : Base ℕ) → a.base ≡ base → IsTold q.claims (table r.top.func) base → BaseSuits q.claims (own r.top.func) kind a base → StoreSuits (own r.top.func) base
      → PlainLeads r t xs others fn is (Store kind a x) (promoted_instr fn.size (own r.top.func) (Do (Store kind a x)))
  stores_leads r t xs others fn is small g kind a x (Through p claim) e told suits both =
      subst (λ b. PlainLeads r t xs others fn is (Store kind a x) (store_by b kind a x)) (none_through e)
      (stays_leads r t xs others fn is g (Store kind a x) (subst (BaseSees q.claims (hides r.top.func r.below)) (sym e) (sees r.top.func fn r.below (Through p claim) g.clear told suits)))
    where
      none_through : a.base ≡ Through p claim → None ≡ resident_at fn.size (own r.top.func) a.base
      none_through e = ap (resident_at fn.size (own r.top.func)) (sym e)
  stores_leads r t xs others fn is small g kind a x (Fixed o) e told suits both = by_found (found t fn.size (own r.top.func) o r.world.objects others g.acts.holds) suits
    where
      by_found : Found t fn.size (own r.top.func) o r.world.objects others → (is_resident (own r.top.func) o ≡ false) ⊎ IsWhole (own r.top.func) o kind a → PlainLeads r t xs others fn is (Store kind a x) (promoted_instr fn.size (own r.top.func) (Do (Store kind a x)))
      by_found (Absent none stays) suits =
          subst (λ b. PlainLeads r t xs others fn is (Store kind a x) (store_by b kind a x)) (sym (ap (resident_at fn.size (own r.top.func)) e ∙ none))
          (stays_leads r t xs others fn is g (Store kind a x) (subst (BaseSees q.claims (hides r.top.func r.below)) (sym e) (sees r.top.func fn r.below (Fixed o) g.clear told (λ y touches. ap (is_resident (own r.top.func)) (sym touches) ∙ stays))))
      by_found (Present s h some resident of_kind low high same held) (inl stays) = absurd (unlike (is_resident (own r.top.func) o) resident stays)
      by_found (Present s h some resident of_kind low high same held) (inr whole) =
          let is_it : Store kind a x ≡ Store kind (scalar_address o) x = ap (λ b. Store kind b x) (whole_address a o e whole.offset whole.displacement) in
          let alike : h.kind ≡ kind = some_same h.kind kind (sym of_kind ∙ whole.kind_is) in
          subst (λ i. PlainLeads r t xs others fn is i (promoted_instr fn.size (own r.top.func) (Do i))) (sym is_it)
          (subst (λ b. PlainLeads r t xs others fn is (Store kind (scalar_address o) x) (store_by b kind (scalar_address o) x)) (sym some)
          (store_leads r t xs others fn is small g kind x o s held.word (ap (slice_get r.world.objects) (sym same) ∙ held.here ∙ ap (λ k. Some (scalar k (Some held.word))) alike) resident whole.kind_is both some low high))

  plain_leads : (r : LowRunning) (t : Bank) (xs : List LowWaiting) (others : List Contents) (fn : LowFunction) (is : LowCode) → SmallBank r.top.store → Going2 r t xs others fn is → (i : Plain ℕ) → PlainTold q.claims (table r.top.func) i → PlainSuits q.claims (own r.top.func) i
      → PlainLeads r t xs others fn is i (promoted_instr fn.size (own r.top.func) (Do i))
  plain_leads r t xs others fn is small g (Set d x) told suits = stays_leads r t xs others fn is g (Set d x) tt
  plain_leads r t xs others fn is small g (Operate operator d x y) told suits = stays_leads r t xs others fn is g (Operate operator d x y) tt
  plain_leads r t xs others fn is small g (Point d a) told suits = stays_leads r t xs others fn is g (Point d a) tt
  plain_leads r t xs others fn is small g (Load kind d a) told suits = loads_leads r t xs others fn is g kind d a a.base refl told suits
  plain_leads r t xs others fn is small g (Store kind a x) told suits = stores_leads r t xs others fn is small g kind a x a.base refl told suits.0 suits.1
  plain_leads r t xs others fn is small g (Put x) told suits = stays_leads r t xs others fn is g (Put x) tt
  plain_leads r t xs others fn is small g (Get d) told suits = stays_leads r t xs others fn is g (Get d) tt

  -- a function gives its value back
  back_leads : (u : World) (others : List Contents) (v : ℕ) (ws xs : List LowWaiting) → AreAlike (is_waiting ws) u.objects others → AllWords u.objects → Waits u.objects others ws xs → Leads (come_back virtual u ws v) (come_back virtual (with_objects u others) xs v)
  back_leads u others v [] [] alike words waits = at_once (Done v u) _ (ap (λ os. Done v (with_objects u os)) (sym (same_lists u.objects others (λ n. alike n refl))))
  back_leads u others v [] (x ∷ xs) alike words waits = absurd waits
  back_leads u others v (w ∷ ws) [] alike words waits = absurd waits
  back_leads u others v (w ∷ ws) (x ∷ xs) alike words waits =
      let k = waits.0 in
      let r : LowRunning = record { top = w.frame; below = ws; world = u } in
      from (come_back virtual u (w ∷ ws) v) _ _ (ap (λ y. come_back virtual (with_objects u others) (y ∷ xs) v) k.is)
      (goes_leads r k.bank xs others k.fn w.frame.code (record { acts = k.acts; clear = k.clear; alike = alike; words = words; waits = waits.1 }) u others (record { alike = alike; still = λ o h. refl; still_there = λ o h. refl; words = words }) w.into (Word v))

  -- a call
  call_leads : (r : LowRunning) (t : Bank) (xs : List LowWaiting) (others : List Contents) (fn : LowFunction) (is : LowCode) → Going2 r t xs others fn is → (d : Option ℕ) (f : ℕ) (args : List (Operand ℕ)) (note : Note) → InstrTold q.claims table r.top.func (Call d f args note) → InstrSuits q.claims table (own r.top.func) (Call d f args note)
      → (o : Option LowFunction) → slice_get q.functions f ≡ o → (os : Option (List Value)) → values virtual r.top.store args ≡ os → Leads (call virtual r is d f note o os) (call virtual (to fn r t xs others) (code_of r.top.func fn is r.top.end) d f note (slice_get q2.functions f) (values virtual t args))
  call_leads r t xs others fn is c d f args note told suits None e os e2 = at_once Bad _ tt
  call_leads r t xs others fn is c d f args note told suits (Some g) e None e2 = at_once Bad _ tt
  call_leads r t xs others fn is c d f args note told suits (Some g) e (Some vs) e2 =
      let z = to fn r t xs others in
      let js = code_of r.top.func fn is r.top.end in
      from (call virtual r is d f note (Some g) (Some vs)) _ _
      (ap (λ o. call virtual z js d f note o (values virtual t args)) (function_promoted hss q f g e)
      ∙ ap (λ o. call virtual z js d f note (Some (promoted_function (own f) g)) o) (values_stand r.top.store t args args vs (all_stand r.top.store t fn.size (length (own r.top.func)) c.acts.shows args) e2))
      (by_test (nat_lt f r.top.func))
    where
      ws : List LowWaiting
      ws = waiting virtual r.top is d note ∷ r.below

      clear : Clear f ws
      clear o h = not_true (table f o) (λ touched. by_resident o touched (is_resident (own r.top.func) o) refl h)
        where
          by_resident : (o : ℕ) → table f o ≡ true → (b : Bool) → is_resident (own r.top.func) o ≡ b → (if b then true else is_waiting r.below o) ≡ true → ⊥
          by_resident o touched true e h = unlike (table f o) touched (suits o e)
          by_resident o touched false e h = unlike (table r.top.func o) (told o touched) (c.clear o h)

      by_test : (b : Bool) → Leads (only_where b (begin (waiting virtual r.top is d note ∷ r.below) r.world f g (write_all virtual (Some (virtual.empty g.size)) g.parameters vs))) (only_where b (begin (waiting virtual (to fn r t xs others).top (code_of r.top.func fn is r.top.end) d note ∷ xs) (with_objects r.world others) f (promoted_function (own f) g) (write_all virtual (Some (virtual.empty (g.size + length (own f)))) g.parameters vs)))
      by_test false = at_once Bad _ tt
      by_test true =
          begin_leads ws (waiting virtual (to fn r t xs others).top (code_of r.top.func fn is r.top.end) d note ∷ xs) r.world others f g vs
          (record { fn = fn; bank = t; is = refl; acts = c.acts; clear = c.clear }, c.waits) e clear c.alike c.words (write_all virtual (Some (virtual.empty g.size)) g.parameters vs) refl

  -- the end of a block
  branch_leads : (r : LowRunning) (t : Bank) (xs : List LowWaiting) (others : List Contents) (fn : LowFunction) → Going2 r t xs others fn r.top.code → (is : LowCode) (end : End ℕ) (c : Condition) (x y : Operand ℕ) (b1 b2 : ℕ) → ((b1 ≡ 0) ⊎ (b2 ≡ 0) → ⊥) → (o1 o2 : Option Value) → operand_value virtual r.top.store x ≡ o1 → operand_value virtual r.top.store y ≡ o2
      → Leads (branches q r (chosen c b1 b2 o1 o2)) (branches q2 (running r.top.func is end t xs (with_objects r.world others)) (chosen c b1 b2 (operand_value virtual t x) (operand_value virtual t y)))
  branch_leads r t xs others fn g is end c x y b1 b2 later None o2 e1 e2 = at_once Bad _ tt
  branch_leads r t xs others fn g is end c x y b1 b2 later (Some (Pointer o n)) o2 e1 e2 = at_once Bad _ tt
  branch_leads r t xs others fn g is end c x y b1 b2 later (Some (Word m)) None e1 e2 = at_once Bad _ tt
  branch_leads r t xs others fn g is end c x y b1 b2 later (Some (Word m)) (Some (Pointer o n)) e1 e2 = at_once Bad _ tt
  branch_leads r t xs others fn g is end c x y b1 b2 later (Some (Word m)) (Some (Word n)) e1 e2 =
      let z = running r.top.func is end t xs (with_objects r.world others) in
      let k = length (own r.top.func) in
      let shows = g.acts.shows in
      from (went_to q r (if holds c m n then b1 else b2)) _ _
      (ap (λ o. branches q2 z (chosen c b1 b2 o (operand_value virtual t y))) (plain_stands r.top.store t fn.size k shows x (Word m) e1)
      ∙ ap (λ o. branches q2 z (chosen c b1 b2 (Some (Word m)) o)) (plain_stands r.top.store t fn.size k shows y (Word n) e2))
      (jump_leads r t xs others fn g.acts g.clear g.alike g.words g.waits is end (if holds c m n then b1 else b2) (neither (holds c m n)))
    where
      neither : (b : Bool) → (if b then b1 else b2) ≡ 0 → ⊥
      neither true e = later (inl e)
      neither false e = later (inr e)

  return_leads : (r : LowRunning) (t : Bank) (xs : List LowWaiting) (others : List Contents) (fn : LowFunction) → Going2 r t xs others fn r.top.code → (x : Operand ℕ) (o : Option Value) → operand_value virtual r.top.store x ≡ o
      → Leads (give_back virtual r o) (Going (running r.top.func (closing fn.size (own r.top.func) (Return x)) (Return x) t xs (with_objects r.world others)))
  return_leads r t xs others fn g x None e = at_once Bad _ tt
  return_leads r t xs others fn g x (Some (Pointer o n)) e = at_once Bad _ tt
  return_leads r t xs others fn g x (Some (Word v)) e =
      let f = r.top.func in
      let hs = own f in
      let u = with_objects r.world others in
      let s = stored_back q2 f (Return x) t xs u r.world.objects fn.size hs (may f fn g.acts.there).distinct g.acts.holds in
      let z = running f [] (Return x) t xs (with_objects r.world s.others) in
      let same : (o : ℕ) → is_waiting r.below o ≡ true → slice_get s.others o ≡ slice_get others o = λ o h. s.still o (not_true (is_resident hs o) (λ k. unlike (is_waiting r.below o) h (resident_free f fn r.below o g.acts.there g.clear k))) in
      after s.steps (come_back virtual r.world r.below v) _ (Going z) s.runs
      (after_step (come_back virtual r.world r.below v) (Going z)
      (from (come_back virtual r.world r.below v) _ _
      (ap (give_back virtual z) (plain_stands r.top.store t fn.size (length hs) g.acts.shows x (Word v) e))
      (back_leads r.world s.others v r.below xs (λ o h. by_resident s.others s.back s.still o (is_resident hs o) refl h) g.words
      (waits_kept r.world.objects others r.world.objects s.others r.below xs (λ o h. refl) same g.waits))))
    where
      by_resident : (now : List Contents) → ((o : ℕ) → is_resident (own r.top.func) o ≡ true → slice_get now o ≡ slice_get r.world.objects o) → ((o : ℕ) → is_resident (own r.top.func) o ≡ false → slice_get now o ≡ slice_get others o) → (o : ℕ) (b : Bool) → is_resident (own r.top.func) o ≡ b → is_waiting r.below o ≡ false → slice_get r.world.objects o ≡ slice_get now o
      by_resident now back still o true e h = sym (back o e)
      by_resident now back still o false e h = g.alike o (if_false (is_resident (own r.top.func) o) (is_waiting r.below o) e h) ∙ sym (still o e)

  end_leads : (r : LowRunning) (t : Bank) (xs : List LowWaiting) (others : List Contents) (fn : LowFunction) → Going2 r t xs others fn r.top.code → (end : End ℕ) → (LeadsOn end 0 → ⊥) → Leads (at_end virtual q r end) (Going (running r.top.func (closing fn.size (own r.top.func) end) end t xs (with_objects r.world others)))
  end_leads r t xs others fn g (Jump b) later = after_step (went_to q r b) _ (jump_leads r t xs others fn g.acts g.clear g.alike g.words g.waits [] (Jump b) b later)
  end_leads r t xs others fn g (Branch c x y b1 b2) later =
      after_step (branches q r (chosen c b1 b2 (operand_value virtual r.top.store x) (operand_value virtual r.top.store y))) _
      (branch_leads r t xs others fn g [] (Branch c x y b1 b2) c x y b1 b2 later (operand_value virtual r.top.store x) (operand_value virtual r.top.store y) refl refl)
  end_leads r t xs others fn g (Return x) later = return_leads r t xs others fn g x (operand_value virtual r.top.store x) refl

  instr_leads : (r : LowRunning) (t : Bank) (xs : List LowWaiting) (others : List Contents) (fn : LowFunction) (is : LowCode) → SmallBank r.top.store → Going2 r t xs others fn is → (i : Instr ℕ Note) → InstrTold q.claims table r.top.func i → InstrSuits q.claims table (own r.top.func) i
      → Leads (at_instr virtual q r i is) (Going (running r.top.func (promoted_instr fn.size (own r.top.func) i ++ code_of r.top.func fn is r.top.end) r.top.end t xs (with_objects r.world others)))
  instr_leads r t xs others fn is small g (Do i) told suits = plain_leads r t xs others fn is small g i told suits
  instr_leads r t xs others fn is small g (Call d f args note) told suits =
      after_step (call virtual r is d f note (slice_get q.functions f) (values virtual r.top.store args)) _
      (call_leads r t xs others fn is g d f args note told suits (slice_get q.functions f) refl (values virtual r.top.store args) refl)

  code_leads : (r : LowRunning) (t : Bank) (xs : List LowWaiting) (others : List Contents) (fn : LowFunction) (code : LowCode) → SmallBank r.top.store → r.top.code ≡ code → Going2 r t xs others fn code → Leads (at_code virtual q r code) (Going (running r.top.func (code_of r.top.func fn code r.top.end) r.top.end t xs (with_objects r.world others)))
  code_leads r t xs others fn [] small e g = end_leads r t xs others fn (subst (Going2 r t xs others fn) (sym e) g) r.top.end g.acts.later
  code_leads r t xs others fn (i ∷ is) small e g =
      let k = All-head (IsKept q.claims table r.top.func (own r.top.func)) i is g.acts.kept in
      let rest : Going2 r t xs others fn is = record { acts = record { there = g.acts.there; shows = g.acts.shows; holds = g.acts.holds; kept = All-tail (IsKept q.claims table r.top.func (own r.top.func)) i is g.acts.kept; later = g.acts.later }; clear = g.clear; alike = g.alike; words = g.words; waits = g.waits } in
      from (at_instr virtual q r i is) _ _
      (ap (λ js. Going (running r.top.func js r.top.end t xs (with_objects r.world others))) (append_assoc (promoted_instr fn.size (own r.top.func) i) (promoted_code fn.size (own r.top.func) is) (closing fn.size (own r.top.func) r.top.end)))
      (instr_leads r t xs others fn is small rest i k.0 k.1)

  -- one step is some
  step_leads : (y z : LowRun) → SmallRun y → Follows y z → Leads (step virtual q y) z
  step_leads (Going r) z small h =
      from (at_code virtual q r r.top.code) _ _ h.is
      (code_leads r h.bank h.below h.others h.fn r.top.code small.bank refl (record { acts = h.acts; clear = h.clear; alike = h.alike; words = h.words; waits = h.waits }))
  step_leads (Done v u) z small h = at_once (Done v u) z h
  step_leads Bad z small h = at_once Bad z tt

  run_leads : (n : ℕ) (y z : LowRun) → SmallRun y → Follows y z → Leads (run virtual q n y) z
  run_leads zero y z small h = at_once y z h
  run_leads (suc n) y z small h =
      let a = step_leads y z small h in
      let b = run_leads n (step virtual q y) (run virtual q2 a.steps z) (step_small q y small) a.follows in
      record { steps = a.steps + b.steps; follows = subst (Follows (run virtual q n (step virtual q y))) (sym (run_add q2 a.steps b.steps z)) b.follows }

  main_leads : (input : List ℕ) → Leads (first virtual q input) (first virtual q2 input)
  main_leads input = by_main (slice_get q.functions q.main) refl
    where
      nothing_waits : (o : ℕ) → false ≡ true → table q.main o ≡ false
      nothing_waits o h = cc

      by_main : (o : Option LowFunction) → slice_get q.functions q.main ≡ o → Leads (first_in virtual (start q.objects input) q.main o) (first virtual q2 input)
      by_main None e = at_once Bad _ tt
      by_main (Some fn) e =
          from (first_in virtual (start q.objects input) q.main (Some fn)) _ _
          (ap (first_in virtual (start q.objects input) q.main) (function_promoted hss q q.main fn e))
          (begin_leads [] [] (start q.objects input) (start q.objects input).objects q.main fn [] tt e (λ o h. nothing_waits o h) (λ o h. refl) (first_word q.objects) (write_all virtual (Some (virtual.empty fn.size)) fn.parameters []) refl)

  loops_follow : (trace : List Began) → KeepsLoops q trace → KeepsLoops q2 trace
  loops_follow trace kept f g e =
      let h = of_function hss q f g e in
      subst (λ (fn : LowFunction). All (KeepsLoop f trace) fn.loops) h.is (kept f h.fn h.there)

-- each good run is carried
pub carried : (hss : List (List Resident)) (table : Table) (q : Low) → IsLow q → AllMayReside q table hss → (input : List ℕ) (n v : ℕ) (u : World) → All (λ c. c < 2 ^ 8) input → IsGood q (lrun q input n) v u → Ends (promoted_program hss q) input v u
carried hss table q low may input n v u bytes good =
    let q2 = promoted_program hss q in
    let a = main_leads hss table q low may input in
    let b = run_leads hss table q low may n (first virtual q input) (run virtual q2 a.steps (first virtual q2 input)) (first_small q input bytes) a.follows in
    record {
      steps = a.steps + b.steps;
      good = record {
        done = run_add q2 a.steps b.steps (first virtual q2 input) ∙ subst (λ y. Follows hss table q low may y (run virtual q2 b.steps (run virtual q2 a.steps (first virtual q2 input)))) good.done b.follows;
        loops = loops_follow hss table q low may u.trace good.loops;
      };
    }
