-- Ways past blocks, in a function that keeps to the low form.
use Rattle.std.proofs.Common.{◌≡◌, ◌+◌, ◌<◌, ◌≤◌, ◌==◌, ◌&&◌, ◌||◌, ◌⊎◌, ℕ, Bool, true, false, zero, suc, List, [], ◌∷◌, length, Option, Some, None, refl, sym, ◌∙◌, subst, ⊎_elim, inl, inr, arith}
use Rattle.std.specs.Prelude.{All, if◌then◌else◌, slice_get}
use Rattle.std.proofs.lemmas.Bool.{eqb-true, eqb-false}
use Rattle.std.proofs.lemmas.List.Elements.{All-head, All-tail}
use Rattle.rv_core.specs.Arithmetic.{holds}
use Rattle.low_ir.specs.Code.{End, Jump, Branch, Return, Block, Loop, Low, Note}
use Rattle.low_ir.specs.Formed.{IsFunction, IsIn, IsLoop, LeadsOn, LeadsTo, LeadsTo_as, is_back}
use Rattle.pass_jump_threading_law.specs.Known.{Known, decided, goal, word_of}
use Rattle.pass_jump_threading_law.specs.Threads.{Blocks, Comes, EndThreaded, IsApart, Lands, Passes, Plan, Settles, Stays}
use Rattle.pass_jump_threading_law.proofs.Numbers.{from_at, inside_at, order, some_same}
use Rattle.low_parts.proofs.Runs.{LowFunction}

goal_leads : (known : Known) (end : End ℕ) (c : ℕ) → goal known end ≡ Some c → LeadsOn end c
goal_leads known (Jump b) c e = some_same b c e
goal_leads known (Return x) c e = cc
goal_leads known (Branch k x y taken other) c e = by_words (word_of known x) (word_of known y) e
  where
    by_test : (b : Bool) → Some (if b then taken else other) ≡ Some c → (taken ≡ c) ⊎ (other ≡ c)
    by_test true e = inl (some_same taken c e)
    by_test false e = inr (some_same other c e)

    by_words : (o1 o2 : Option ℕ) → decided k taken other o1 o2 ≡ Some c → (taken ≡ c) ⊎ (other ≡ c)
    by_words None o2 e = cc
    by_words (Some m) None e = cc
    by_words (Some m) (Some n) e = by_test (holds k m n) e

leads_from : (fn : LowFunction) (b c : ℕ) (bl : Block ℕ Note) → slice_get fn.blocks b ≡ Some bl → LeadsOn bl.end c → LeadsTo fn b c
leads_from fn b c bl e l = subst (λ o. LeadsTo_as o c) (sym e) l

passes_lead : (fn : LowFunction) (known : Known) (b c : ℕ) → Passes fn known b c → LeadsTo fn b c
passes_lead fn known b c k = leads_from fn b c k.block k.there (goal_leads known k.block.end c k.goes)

both_true : (x y : Bool) → (x && y) ≡ true → (x ≡ true) × (y ≡ true)
both_true true y e = (refl, e)
both_true false y e = cc

pub same_test : (a b : ℕ) → a ≡ b → (a == b) ≡ true
same_test a b e = by_test (a == b) refl
  where
    by_test : (x : Bool) → (a == b) ≡ x → (a == b) ≡ true
    by_test true k = k
    by_test false k = absurd (eqb-false a b k e)

-- the loop that a jump back belongs to
record Back (P : Loop → Type 0) (b n : ℕ) : Type 0 where
  loop : Loop
  latch : loop.latch ≡ b
  header : loop.header ≡ n
  has : P loop

back_by : (P : Loop → Type 0) (ls : List Loop) (b n : ℕ) → All P ls → is_back ls b n ≡ true → Back P b n
back_by P [] b n all e = cc
back_by P (l ∷ ls) b n all e = by_test (λ f. back_by P ls b n (All-tail P l ls all) f) ((l.latch == b) && (l.header == n)) refl e
  where
    by_test : (is_back ls b n ≡ true → Back P b n) → (c : Bool) → ((l.latch == b) && (l.header == n)) ≡ c → (c || is_back ls b n) ≡ true → Back P b n
    by_test rest true k e =
        let both = both_true (l.latch == b) (l.header == n) k in
        record { loop = l; latch = eqb-true l.latch b both.0; header = eqb-true l.header n both.1; has = All-head P l ls all }
    by_test rest false k e = rest e

-- a way from a block to another one: a step, and then past blocks
pub record Way (fn : LowFunction) (a c : ℕ) : Type 0 where
  pub known : Known
  pub past : ℕ
  pub b : ℕ
  pub leads : LeadsTo fn a b
  pub comes : Comes fn known past b c

module _ (p : Low) (f : ℕ) (fn : LowFunction) (k : IsFunction p f fn) where
  passed_ahead : (known : Known) (b c : ℕ) → Passes fn known b c → b < c
  passed_ahead known b c h =
      ⊎_elim
      (λ (lt : b < c). lt)
      (λ (ge : (b ≡ c) ⊎ (c < b)).
      let le : c ≤ b = ⊎_elim (λ (e : b ≡ c). omega (arith, e)) (λ (g : c < b). omega (arith, g)) ge in
      let back = back_by (IsApart b) fn.loops b c h.apart (k.forward b c (passes_lead fn known b c h) le) in
      absurd (back.has.1 (sym back.latch)))
      (order b c)

  comes_ahead : (known : Known) (n b c : ℕ) → Comes fn known n b c → b ≤ c
  comes_ahead known zero b c h = omega (arith, h)
  comes_ahead known (suc n) b c h =
      let one = passed_ahead known b h.0 h.1 in
      let more = comes_ahead known n h.0 c h.2 in
      omega (arith, one, more)

  -- one that goes back is a jump back
  pub way_back : (a c : ℕ) → Way fn a c → c ≤ a → is_back fn.loops a c ≡ true
  way_back a c way le = by_past way.past way.b way.leads way.comes
    where
      by_past : (n b : ℕ) → LeadsTo fn a b → Comes fn way.known n b c → is_back fn.loops a c ≡ true
      by_past zero b leads comes = subst (λ x. is_back fn.loops a x ≡ true) comes (k.forward a b leads (subst (λ x. x ≤ a) (sym comes) le))
      by_past (suc n) b leads comes =
          ⊎_elim
          (λ (lt : a < b).
          let more = comes_ahead way.known (suc n) b c comes in
          absurd (omega (arith, lt, more, le)))
          (λ (ge : (a ≡ b) ⊎ (b < a)).
          let le2 : b ≤ a = ⊎_elim (λ (e : a ≡ b). omega (arith, e)) (λ (g : b < a). omega (arith, g)) ge in
          let back = back_by (IsApart b) fn.loops a b comes.1.apart (k.forward a b leads le2) in
          absurd (back.has.0 (sym back.header)))
          (order a b)

  stays_on : (known : Known) (n a b c : ℕ) → LeadsTo fn a b → Comes fn known n b c → c < length fn.blocks
  stays_on known zero a b c leads comes = subst (λ x. x < length fn.blocks) comes (k.stays a b leads)
  stays_on known (suc n) a b c leads comes = stays_on known n b comes.0 c (passes_lead fn known b comes.0 comes.1) comes.2

  pub way_stays : (a c : ℕ) → Way fn a c → c < length fn.blocks
  way_stays a c way = stays_on way.known way.past a way.b c way.leads way.comes

-- one that comes into a loop comes to its header
module _ (fn : LowFunction) (l : Loop) (loop : IsLoop fn l) (apart : (b : ℕ) → All (IsApart b) fn.loops → IsApart b l) where
  abbrev IsOut : ℕ → Type 0
  IsOut b = (b < l.header) ⊎ (l.latch < b)

  still_out : (a b : ℕ) → LeadsTo fn a b → IsOut a → IsApart b l → IsOut b
  still_out a b leads out away =
      ⊎_elim
      (λ (lt : b < l.header). inl lt)
      (λ (ge : (b ≡ l.header) ⊎ (l.header < b)).
      ⊎_elim
      (λ (e : b ≡ l.header). absurd (away.0 e))
      (λ (g : l.header < b).
      ⊎_elim
      (λ (lt : b < l.latch). absurd (away.0 (loop.entered a b leads (omega (arith, g), omega (arith, lt)) out)))
      (λ (ge2 : (b ≡ l.latch) ⊎ (l.latch < b)). ⊎_elim (λ (e : b ≡ l.latch). absurd (away.1 e)) (λ (lt : l.latch < b). inr lt) ge2)
      (order b l.latch))
      ge)
      (order b l.header)

  enters : (known : Known) (n a b c : ℕ) → LeadsTo fn a b → Comes fn known n b c → IsOut a → IsIn l c → c ≡ l.header
  enters known zero a b c leads comes out inside = sym comes ∙ loop.entered a b leads (subst (IsIn l) (sym comes) inside) out
  enters known (suc n) a b c leads comes out inside =
      enters known n b comes.0 c (passes_lead fn known b comes.0 comes.1) comes.2 (still_out a b leads out (apart b comes.1.apart)) inside

  pub way_enters : (a c : ℕ) → Way fn a c → IsOut a → IsIn l c → c ≡ l.header
  way_enters a c way out inside = enters way.known way.past a way.b c way.leads way.comes out inside

-- where a block leads in the second program, a way leads in the first
record EndWay (fn : LowFunction) (plan : Plan) (known : Known) (old : End ℕ) (n : ℕ) : Type 0 where
  b : ℕ
  leads : LeadsOn old b
  lands : Lands fn plan known b n

end_way : (fn : LowFunction) (plan : Plan) (known : Known) (old new : End ℕ) (n : ℕ) → EndThreaded fn plan known old new → LeadsOn new n → EndWay fn plan known old n
end_way fn plan known old new n ends l =
    ⊎_elim
    (λ (s : Settles fn plan known old new).
    let to : s.block ≡ n = subst (λ e. LeadsOn e n) s.is l in
    record { b = s.next; leads = goal_leads known old s.next s.goes; lands = subst (Lands fn plan known s.next) to s.lands })
    (λ (s : Stays fn plan known old new). stays old s)
    ends
  where
    stays : (old : End ℕ) → Stays fn plan known old new → EndWay fn plan known old n
    stays (Jump b) s = absurd s
    stays (Return x) s = absurd (subst (λ e. LeadsOn e n) s l)
    stays (Branch c x y taken other) s =
        let to : LeadsOn (Branch c x y s.first s.second) n = subst (λ e. LeadsOn e n) s.is l in
        ⊎_elim
        (λ (e : s.first ≡ n). record { b = taken; leads = inl refl; lands = subst (Lands fn plan known taken) e s.lands })
        (λ (e : s.second ≡ n). record { b = other; leads = inr refl; lands = subst (Lands fn plan known other) e s.lands_other })
        to

pub record NewWay (fn : LowFunction) (plan : Plan) (k n : ℕ) : Type 0 where
  pub from : ℕ
  pub to : ℕ
  pub from_named : plan.name from ≡ Some k
  pub to_named : plan.name to ≡ Some n
  pub from_inside : from < length fn.blocks
  pub way : Way fn from to

pub new_way : (fn gn : LowFunction) (plan : Plan) → Blocks fn plan 0 0 fn.blocks gn.blocks → (k n : ℕ) → LeadsTo gn k n → NewWay fn plan k n
new_way fn gn plan blocks k n leads = by_block (slice_get gn.blocks k) refl leads
  where
    by_block : (o : Option (Block ℕ Note)) → slice_get gn.blocks k ≡ o → LeadsTo_as o n → NewWay fn plan k n
    by_block None e l = absurd l
    by_block (Some c) e l =
        let h = from_at fn plan fn.blocks 0 0 gn.blocks blocks k k c (omega arith) e in
        let at : h.number ≡ 0 + h.place = h.at in
        let place : h.place ≡ h.number = omega (arith, at) in
        let there : slice_get fn.blocks h.number ≡ Some h.it = subst (λ i. slice_get fn.blocks i ≡ Some h.it) place h.there in
        let w = end_way fn plan h.same.out h.it.end c.end n h.same.end l in
        record {
          from = h.number;
          to = w.lands.old;
          from_named = h.named;
          to_named = w.lands.named;
          from_inside = inside_at fn.blocks h.number h.it there;
          way = record { known = h.same.out; past = w.lands.past; b = w.b; leads = leads_from fn h.number w.b h.it there w.leads; comes = w.lands.comes };
        }
