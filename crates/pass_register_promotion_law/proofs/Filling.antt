-- Scalars are loaded into registers, and stored from them.
use Rattle.std.proofs.Common.{◌≡◌, ◌<◌, ◌≤◌, ℕ, suc, ◌+◌, Bool, true, false, List, [], ◌∷◌, ◌++◌, length, Some, None, refl, sym, ap, ◌∙◌, arith, get_or-set_same, get_or-set_other, length-set}
use Rattle.std.specs.Prelude.{◌==◌, slice_get, slice_index_or, slice_set, if◌then◌else◌}
use Rattle.std.proofs.lemmas.Bool.{eqb-false, eqb-true}
use Rattle.std.proofs.lemmas.Option.{slice_get_within}
use Rattle.low_ir.specs.Code.{Register, Plain, Store, Instr, Do, End, Low, Note}
use Rattle.low_ir.specs.declared.run.Value.{Value}
use Rattle.low_ir.specs.declared.run.Value.TheVariants.{Word}
use Rattle.low_ir.specs.Kinds.{converted}
use Rattle.low_ir.specs.Effects.{Contents, World, effect_of, element, loaded, stored, there, gives, changes, with_element, with_objects}
use Rattle.low_ir.specs.Runs.{Going, Bank, values_cons, goes_on, finish, run, set_in, virtual}
use Rattle.pass_constant_hoisting.proofs.Stores.{lt_test}
use Rattle.pass_common_subexpressions_law.proofs.Effects.{get-set_other, get-set_same}
use Rattle.low_parts.proofs.Runs.{LowRunning, LowWaiting}
use Rattle.pass_register_promotion_law.specs.Promoting.{Resident, loads, scalar_address, stores}
use Rattle.pass_register_promotion_law.specs.Suiting.{AreDistinct, is_resident}
use Rattle.pass_register_promotion_law.proofs.Scalars.{AllHeld, IsHeld, held_kept, only_element, only_stored, scalar, unlike}

abbrev pub LowCode : Type 0
LowCode = List (Instr ℕ Note)

-- an activation with this code and this store
abbrev pub running : ℕ → LowCode → End ℕ → Bank → List LowWaiting → World → LowRunning
running f is end t below u = record { top = record { func = f; code = is; end = end; store = t }; below = below; world = u }

-- scalars that hold the same word in both memories
pub record IsReady (objects others : List Contents) (h : Resident) : Type 0 where
  pub word : ℕ
  pub kept : converted h.kind word ≡ word
  pub here : slice_get objects h.object ≡ Some (scalar h.kind (Some word))
  pub there : slice_get others h.object ≡ Some (scalar h.kind (Some word))

abbrev pub AreReady : List Contents → List Contents → List Resident → Type 0
AreReady objects others [] = Unit {0}
AreReady objects others (h ∷ hs) = IsReady objects others h × AreReady objects others hs

-- scalars are loaded
pub record Filled (q : Low) (f : ℕ) (is : LowCode) (end : End ℕ) (t : Bank) (below : List LowWaiting) (u : World) (objects : List Contents) (r : ℕ) (hs : List Resident) : Type 0 where
  pub bank : Bank
  pub runs : run virtual q (length hs) (Going (running f (loads r hs ++ is) end t below u)) ≡ Going (running f is end bank below u)
  pub size : length bank ≡ length t
  pub below_same : (s : ℕ) → s < r → slice_index_or bank s None ≡ slice_index_or t s None
  pub holds : AllHeld bank r hs objects u.objects

pub filled : (q : Low) (f : ℕ) (is : LowCode) (end : End ℕ) (t : Bank) (below : List LowWaiting) (u : World) (objects : List Contents) (r : ℕ) (hs : List Resident) → r + length hs ≤ length t → AreReady objects u.objects hs → Filled q f is end t below u objects r hs
filled q f is end t below u objects r [] room ready = record { bank = t; runs = refl; size = refl; below_same = λ s low. refl; holds = tt }
filled q f is end t below u objects r (h ∷ hs) room ready =
    let k = ready.0 in
    let x : Value = Word k.word in
    let lt : r < length t = omega (arith, room) in
    let t2 = slice_set t r (Some x) in
    let size = length-set t r (Some x) in
    let a = filled q f is end t2 below u objects (suc r) hs (omega (arith, room, size)) ready.1 in
    let z : LowRunning = running f (loads r (h ∷ hs) ++ is) end t below u in
    let loads_it : loaded u.objects h.kind h.object 0 ≡ Some k.word = ap (λ c. there c (element h.kind 0)) k.there ∙ only_element h.kind (Some k.word) in
    record {
      bank = a.bank;
      runs = ap (λ o. run virtual q (length hs) (finish virtual z (loads (suc r) hs ++ is) (Some r) (there o (λ w. gives u (Word w))))) loads_it
          ∙ ap (λ b. run virtual q (length hs) (goes_on z (loads (suc r) hs ++ is) u (set_in t r x b))) (lt_test r (length t) lt) ∙ a.runs;
      size = a.size ∙ size;
      below_same = λ s low. a.below_same s (omega (arith, low)) ∙ get_or-set_other t r s (Some x) None (λ e. absurd (omega (arith, low, e)));
      holds = (
        record {
          word = k.word;
          element = Some k.word;
          kept = k.kept;
          here = k.here;
          there = k.there;
          same = λ e. refl;
          register = a.below_same r (omega arith) ∙ get_or-set_same t r (Some x) None lt;
        },
        a.holds,
      );
    }

-- scalars are stored back
pub record StoredBack (q : Low) (f : ℕ) (code : LowCode) (end : End ℕ) (t : Bank) (below : List LowWaiting) (u : World) (objects : List Contents) (hs : List Resident) : Type 0 where
  pub steps : ℕ
  pub others : List Contents
  pub runs : run virtual q steps (Going (running f code end t below u)) ≡ Going (running f [] end t below (with_objects u others))
  pub back : (o : ℕ) → is_resident hs o ≡ true → slice_get others o ≡ slice_get objects o
  pub still : (o : ℕ) → is_resident hs o ≡ false → slice_get others o ≡ slice_get u.objects o

module _ (q : Low) (f : ℕ) (end : End ℕ) (t : Bank) (below : List LowWaiting) (u : World) (objects : List Contents) (r : ℕ) (h : Resident) (hs : List Resident) (distinct : AreDistinct (h ∷ hs)) (held : IsHeld t r h objects u.objects) where
  -- the first scalar was only read: the others are stored
  only_read : h.written ≡ false → StoredBack q f (stores (suc r) hs) end t below u objects hs → StoredBack q f (stores (suc r) hs) end t below u objects (h ∷ hs)
  only_read w a = record { steps = a.steps; others = a.others; runs = a.runs; back = λ o e. by_test o (h.object == o) refl e; still = λ o e. rest_still o (h.object == o) e }
    where
      by_test : (o : ℕ) (b : Bool) → (h.object == o) ≡ b → (if b then true else is_resident hs o) ≡ true → slice_get a.others o ≡ slice_get objects o
      by_test o true t e =
          let same : h.object ≡ o = eqb-true h.object o t in
          ap (slice_get a.others) (sym same) ∙ a.still h.object distinct.0 ∙ held.there ∙ ap (λ x. Some (scalar h.kind x)) (held.same w) ∙ sym held.here ∙ ap (slice_get objects) same
      by_test o false t e = a.back o e

      rest_still : (o : ℕ) (b : Bool) → (if b then true else is_resident hs o) ≡ false → slice_get a.others o ≡ slice_get u.objects o
      rest_still o true e = cc
      rest_still o false e = a.still o e

  -- the first scalar is stored
  abbrev new : List Contents
  new = slice_set u.objects h.object (scalar h.kind (Some held.word))

  -- it isn't one of the others
  other : (o : ℕ) → is_resident hs o ≡ true → o ≡ h.object → ⊥
  other o e z = unlike (is_resident hs h.object) (ap (is_resident hs) (sym z) ∙ e) distinct.0

  abbrev rest : LowCode
  rest = stores (suc r) hs

  abbrev first : Plain ℕ
  first = Store h.kind (scalar_address h.object) (Register r)

  was_written : StoredBack q f rest end t below (with_objects u new) objects hs → StoredBack q f (Do first ∷ rest) end t below u objects (h ∷ hs)
  was_written a =
      let z : LowRunning = running f (Do first ∷ rest) end t below u in
      let there_it : h.object < length u.objects = slice_get_within u.objects h.object (scalar h.kind held.element) held.there in
      let stored_it : stored u.objects h.kind h.object 0 held.word ≡ Some new = ap (λ c. there c (λ c. there (with_element h.kind 0 held.word c) (λ d. Some (slice_set u.objects h.object d)))) held.there ∙ ap (λ c. there c (λ d. Some (slice_set u.objects h.object d))) (only_stored h.kind held.word held.element) ∙ ap (λ n. Some (slice_set u.objects h.object (scalar h.kind (Some n)))) held.kept in
      record {
        steps = suc a.steps;
        others = a.others;
        runs = ap (λ o. run virtual q a.steps (finish virtual z rest None (effect_of q.claims first (values_cons o (Some [])) u))) held.register
            ∙ ap (λ o. run virtual q a.steps (finish virtual z rest None (there o (λ os. changes (with_objects u os))))) stored_it ∙ a.runs;
        back = λ o e. by_test o there_it (h.object == o) refl e;
        still = λ o e. rest_still o (h.object == o) refl e;
      }
    where
      by_test : (o : ℕ) → h.object < length u.objects → (b : Bool) → (h.object == o) ≡ b → (if b then true else is_resident hs o) ≡ true → slice_get a.others o ≡ slice_get objects o
      by_test o lt true t e =
          let same : h.object ≡ o = eqb-true h.object o t in
          ap (slice_get a.others) (sym same) ∙ a.still h.object distinct.0 ∙ get-set_same u.objects h.object (scalar h.kind (Some held.word)) lt ∙ sym held.here ∙ ap (slice_get objects) same
      by_test o lt false t e = a.back o e

      rest_still : (o : ℕ) (b : Bool) → (h.object == o) ≡ b → (if b then true else is_resident hs o) ≡ false → slice_get a.others o ≡ slice_get u.objects o
      rest_still o true t e = cc
      rest_still o false t e = a.still o e ∙ get-set_other u.objects h.object o (scalar h.kind (Some held.word)) (λ z. eqb-false h.object o t (sym z))

pub stored_back : (q : Low) (f : ℕ) (end : End ℕ) (t : Bank) (below : List LowWaiting) (u : World) (objects : List Contents) (r : ℕ) (hs : List Resident) → AreDistinct hs → AllHeld t r hs objects u.objects → StoredBack q f (stores r hs) end t below u objects hs
stored_back q f end t below u objects r [] distinct all = record { steps = 0; others = u.objects; runs = refl; back = λ o e. none_resident e; still = λ o e. refl }
  where
    none_resident : {A : Type 0} → false ≡ true → A
    none_resident e = cc
stored_back q f end t below u objects r (h ∷ hs) distinct all =
    by_flag h.written refl (λ o2. stored_back q f end t below u objects (suc r) hs distinct.1 all.1)
    (λ h2. stored_back q f end t below (with_objects u (slice_set u.objects h.object (scalar h.kind (Some all.0.word)))) objects (suc r) hs distinct.1 h2)
  where
    by_flag : (b : Bool) → h.written ≡ b → (Unit {0} → StoredBack q f (stores (suc r) hs) end t below u objects hs)
        → (AllHeld t (suc r) hs objects (slice_set u.objects h.object (scalar h.kind (Some all.0.word))) → StoredBack q f (stores (suc r) hs) end t below (with_objects u (slice_set u.objects h.object (scalar h.kind (Some all.0.word)))) objects hs)
        → StoredBack q f (if b then Do (Store h.kind (scalar_address h.object) (Register r)) ∷ stores (suc r) hs else stores (suc r) hs) end t below u objects (h ∷ hs)
    by_flag false w same changed = only_read q f end t below u objects r h hs distinct all.0 w (same tt)
    by_flag true w same changed =
        was_written q f end t below u objects r h hs distinct all.0
        (changed (held_kept t t (suc r) hs objects u.objects objects (slice_set u.objects h.object (scalar h.kind (Some all.0.word))) (λ s more. refl) (λ o e. refl) (λ o e. get-set_other u.objects h.object o (scalar h.kind (Some all.0.word)) (other q f end t below u objects r h hs distinct all.0 o e)) all.1))
