-- Values that are kept while other code runs.
use Rattle.std.proofs.Common.{◌≡◌, ⊎_elim, ℕ, ◌+◌, ◌<◌, ◌≤◌, Bool, true, false, not, List, length, Some, None, refl, sym, ap, ◌∙◌, subst, arith}
use Rattle.std.specs.Prelude.{◌&&◌, ◌||◌, slice_set}
use Rattle.std.proofs.lemmas.Bool.{true≢false, false≢true, lt-ltb, eqb-false, and_cases, or_parts, not-false}
use Rattle.std.proofs.lemmas.List.{get_or-set_same, get_or-set_other}
use Rattle.meaning_semantics.specs.State as source
use Rattle.high_ir.specs.Tree.{Expr, Constant, Variable, Element, Unary, Binary, Set, Statements, End, Then}
use Rattle.high_ir.specs.Meaning.{World, State, Outcome, Goes, Leaves, Returns, Bad, only_if, value_of, with_value, written, set_variables, then_do, run, run_all, Calls}
use Rattle.high_code.specs.Code.{joined, is_empty, AllWithin}
use Rattle.high_code.proofs.Joined.{run_all-joined, AllWithin-joined}
use Rattle.high_code.proofs.Staying.{Stays, stays_all}
use Rattle.plan_definition.specs.Values.{Valued, is_changed, is_leaf, is_variable, held, firm, leaf}
use Rattle.plan_runs.specs.Cells.{Cells}
use Rattle.plan_runs.specs.Meets.{Layout, Untouched}
use Rattle.plan_runs.specs.Claims.{Setting, IsSetting, MeetsIn, Reached, Went, HasValue}
use Rattle.plan_runs.proofs.Stores.{alike, put_variable, temporary_meets}

-- the state that a run has come to
abbrev state_or : State → Outcome → State
state_or other (Goes st) = st
state_or other (Leaves d st) = other
state_or other (Returns v w t) = other
state_or other Bad = other

pub same_Goes : (a b : State) → Goes a ≡ Goes b → a ≡ b
same_Goes a b e = ap (state_or a) e

pub untouched_then : (layout : Layout) (rank : ℕ) (a b c : Cells) → Untouched layout rank a b → Untouched layout rank b c → Untouched layout rank a c
untouched_then layout rank a b c h k = record { by = λ o own above. k.by o own above ∙ h.by o own above }

pub untouched_same : (layout : Layout) (rank : ℕ) (a : Cells) → Untouched layout rank a a
untouched_same layout rank a = record { by = λ o own above. refl }

-- a variable is set
pub run_Set : (call : Calls) (passed : List ℕ) (x v : ℕ) (e : Expr) (hs : State) → value_of passed hs.variables hs.world e ≡ Some v → x < length hs.variables → run Some call passed (Set x e) hs ≡ Goes (put_variable hs x v)
run_Set call passed x v e hs is lt =
    ap (λ o. with_value o (λ u. with_value (written hs.variables x u) (set_variables hs))) is
    ∙ ap (λ b. with_value (only_if b (Some (slice_set hs.variables x (Some v)))) (set_variables hs)) (lt-ltb x (length hs.variables) lt)

module _ (s : Setting) (ok : IsSetting s) where
  pub reached_same : (k : ℕ) (st : source.State) (hs : State) → MeetsIn s st hs → Reached s k st hs st hs
  reached_same k st hs m = record { meets = m; keeps = λ j le lt. refl; untouched = untouched_same s.layout (s.layout.rank s.function.number) st.objects }

  pub reached_then : (k : ℕ) (st : source.State) (hs : State) (st1 : source.State) (hs1 : State) (st2 : source.State) (hs2 : State) → Reached s k st hs st1 hs1 → Reached s k st1 hs1 st2 hs2 → Reached s k st hs st2 hs2
  reached_then k st hs st1 hs1 st2 hs2 a b = record {
    meets = b.meets;
    keeps = λ j le lt. b.keeps j le lt ∙ a.keeps j le lt;
    untouched = untouched_then s.layout (s.layout.rank s.function.number) st.objects st1.objects st2.objects a.untouched b.untouched;
  }

  pub reached_below : (j k : ℕ) (st : source.State) (hs : State) (st1 : source.State) (hs1 : State) → j ≤ k → Reached s k st hs st1 hs1 → Reached s j st hs st1 hs1
  reached_below j k st hs st1 hs1 le a = record { meets = a.meets; keeps = λ i from lt. a.keeps i from (omega (arith, le, lt)); untouched = a.untouched }

  pub went_below : (j k : ℕ) (code : Statements) (st : source.State) (hs : State) (st1 : source.State) (P : State → Type 0) → j ≤ k → Went s code k st hs st1 P → Went s code j st hs st1 P
  went_below j k code st hs st1 P le w = record { behind = w.behind; runs = w.runs; reached = reached_below j k st hs st1 w.behind le w.reached; has = w.has }

  pub went_with : (code : Statements) (k : ℕ) (st : source.State) (hs : State) (st1 : source.State) (P Q : State → Type 0) → Went s code k st hs st1 P → ((h : State) → P h → Q h) → Went s code k st hs st1 Q
  went_with code k st hs st1 P Q w more = record { behind = w.behind; runs = w.runs; reached = w.reached; has = more w.behind w.has }

  pub went_nothing : (k : ℕ) (st : source.State) (hs : State) (P : State → Type 0) → MeetsIn s st hs → P hs → Went s End k st hs st P
  went_nothing k st hs P m h = record { behind = hs; runs = refl; reached = reached_same k st hs m; has = h }

  -- code, and then other code where it has come to
  pub went_at : (a b : Statements) (k : ℕ) (st : source.State) (hs : State) (st1 st2 : source.State) (P Q : State → Type 0) (first : Went s a k st hs st1 P) → Went s b k st1 first.behind st2 Q → Went s (joined a b) k st hs st2 Q
  went_at a b k st hs st1 st2 P Q first second = record {
    behind = second.behind;
    runs = run_all-joined Some s.high_call s.passed a b hs ∙ ap (λ o. then_do o (run_all Some s.high_call s.passed b)) first.runs ∙ second.runs;
    reached = reached_then k st hs st1 first.behind st2 second.behind first.reached second.reached;
    has = second.has;
  }

  pub went_then : (a b : Statements) (k : ℕ) (st : source.State) (hs : State) (st1 st2 : source.State) (P Q : State → Type 0) → Went s a k st hs st1 P → ((h : State) → MeetsIn s st1 h → P h → Went s b k st1 h st2 Q) → Went s (joined a b) k st hs st2 Q
  went_then a b k st hs st1 st2 P Q first next = went_at a b k st hs st1 st2 P Q first (next first.behind first.reached.meets first.has)

  -- a temporary is set before other code
  pub went_Set : (k : ℕ) (e : Expr) (v : ℕ) (after : Statements) (st : source.State) (hs : State) (st1 : source.State) (P : State → Type 0) → s.function.variables ≤ k → k < s.room → MeetsIn s st hs → HasValue s e v hs →
      (MeetsIn s st (put_variable hs k v) → HasValue s (Variable k) v (put_variable hs k v) → Went s after (k + 1) st (put_variable hs k v) st1 P) → Went s (Then (Set k e) after) k st hs st1 (λ h. HasValue s (Variable k) v h × P h)
  went_Set k e v after st hs st1 P le room m has next =
      let lt : k < length hs.variables = subst (λ n. k < n) (sym m.room_is) room in
      let h1 = put_variable hs k v in
      let m1 : MeetsIn s st h1 = temporary_meets s.layout ok.placed s.function.live (alike s ok) s.passed s.room st hs m k v (λ o here own. no_room k le (ok.below o k here own)) in
      let v1 : HasValue s (Variable k) v h1 = get_or-set_same hs.variables k (Some v) None lt in
      let w = next m1 v1 in
      record {
        behind = w.behind;
        runs = ap (λ o. then_do o (run_all Some s.high_call s.passed after)) (run_Set s.high_call s.passed k v e hs has lt) ∙ w.runs;
        reached = record {
          meets = w.reached.meets;
          keeps = λ j from below. w.reached.keeps j from (omega (arith, below)) ∙ get_or-set_other hs.variables k j (Some v) None (λ same. absurd (omega (arith, same, below)));
          untouched = w.reached.untouched;
        };
        has = (w.reached.keeps k le (omega arith) ∙ v1, w.has);
      }
    where
      no_room : (k : ℕ) → s.function.variables ≤ k → k < s.function.variables → ⊥
      no_room k le lt = omega (arith, le, lt)

  -- other code leaves a value as it is
  abbrev pub Stable : Expr → ℕ → Statements → Type 0
  Stable e v after = (h h1 : State) → run_all Some s.high_call s.passed after h ≡ Goes h1 → HasValue s e v h → HasValue s e v h1

  pub within_held : (needed : Bool) (k : ℕ) (p : Valued) (after : Statements) → AllWithin s.room (held needed k p after).code → AllWithin s.room p.code × AllWithin s.room after × (needed ≡ true → k < s.room)
  within_held false k p after h = let parts = AllWithin-joined s.room p.code after h in (parts.0, parts.1, λ e. absurd (false≢true e))
  within_held true k p after h = let parts = AllWithin-joined s.room p.code (Then (Set k p.value) after) h in (parts.0, parts.1.1, λ e. parts.1.0)

  pub held_went : (needed : Bool) (k : ℕ) (p : Valued) (after : Statements) (st : source.State) (hs : State) (st1 st2 : source.State) (v : ℕ) (Q : State → Type 0) → s.function.variables ≤ k → (needed ≡ true → k < s.room) →
      Went s p.code k st hs st1 (HasValue s p.value v) → ((h : State) → MeetsIn s st1 h → Went s after (k + 1) st1 h st2 Q) → (needed ≡ false → Stable p.value v after) → Went s (held needed k p after).code k st hs st2 (λ h. HasValue s (held needed k p after).value v h × Q h)
  held_went false k p after st hs st1 st2 v Q le room first next stable =
      went_then p.code after k st hs st1 st2 (HasValue s p.value v) (λ h. HasValue s p.value v h × Q h) first
      (λ h m has.
      let w = went_below k (k + 1) after st1 h st2 Q (omega arith) (next h m) in
      record { behind = w.behind; runs = w.runs; reached = w.reached; has = (stable refl h w.behind w.runs has, w.has) })
  held_went true k p after st hs st1 st2 v Q le room first next stable =
      went_then p.code (Then (Set k p.value) after) k st hs st1 st2 (HasValue s p.value v) (λ h. HasValue s (Variable k) v h × Q h) first
      (λ h m has. went_Set k p.value v after st1 h st2 Q le (room refl) m has (λ m1 is. next (put_variable h k v) m1))

  pub stable_empty : (e : Expr) (v : ℕ) (after : Statements) → is_empty after ≡ true → Stable e v after
  stable_empty e v End empty = λ h h1 runs has. subst (HasValue s e v) (same_Goes h h1 runs) has
  stable_empty e v (Then first rest) empty = absurd (false≢true empty)

  stable_unchanged : (e : Expr) (v : ℕ) (after : Statements) → is_changed e after ≡ false → Stable e v after
  stable_unchanged (Constant word) v after other = λ h h1 runs has. has
  stable_unchanged (Variable x) v after other = λ h h1 runs has.
      let stays : Stays x h.variables (Goes h1) = subst (Stays x h.variables) runs (stays_all Some s.high_call s.passed x after other h) in
      stays ∙ has
  stable_unchanged (Element array index) v after other = absurd (true≢false other)
  stable_unchanged (Unary operator operand) v after other = absurd (true≢false other)
  stable_unchanged (Binary operator left right) v after other = absurd (true≢false other)

  pub kept_stable : (k : ℕ) (p : Valued) (v : ℕ) (after : Statements) → (not (is_empty after) && is_changed p.value after) ≡ false → Stable p.value v after
  kept_stable k p v after e = ⊎_elim
      (λ (empty : not (is_empty after) ≡ false). stable_empty p.value v after (not-false (is_empty after) empty))
      (λ (unchanged : is_changed p.value after ≡ false). stable_unchanged p.value v after unchanged)
      (and_cases (not (is_empty after)) (is_changed p.value after) e)

  pub firm_stable : (k : ℕ) (p : Valued) (v : ℕ) (after : Statements) → (not (is_leaf p.value) || (is_changed p.value after || is_variable (k + 1) p.value)) ≡ false → Stable p.value v after
  firm_stable k p v after e =
      let parts = or_parts (not (is_leaf p.value)) (is_changed p.value after || is_variable (k + 1) p.value) e in
      stable_unchanged p.value v after (or_parts (is_changed p.value after) (is_variable (k + 1) p.value) parts.1).0

  -- a leaf is not changed by what is written elsewhere
  leaf_elsewhere : (e : Expr) (x v u : ℕ) (h : State) → is_leaf e ≡ true → is_variable x e ≡ false → HasValue s e v h → HasValue s e v (put_variable h x u)
  leaf_elsewhere (Constant word) x v u h is other has = has
  leaf_elsewhere (Variable y) x v u h is other has = get_or-set_other h.variables x y (Some u) None (eqb-false y x other) ∙ has
  leaf_elsewhere (Element array index) x v u h is other has = absurd (false≢true is)
  leaf_elsewhere (Unary operator operand) x v u h is other has = absurd (false≢true is)
  leaf_elsewhere (Binary operator left right) x v u h is other has = absurd (false≢true is)

  firm_by : (needed : Bool) (k : ℕ) (p : Valued) (after : Statements) (v u : ℕ) (h : State) → (needed ≡ false → (is_leaf p.value ≡ true) × (is_variable (k + 1) p.value ≡ false)) → HasValue s (held needed k p after).value v h → HasValue s (held needed k p after).value v (put_variable h (k + 1) u)
  firm_by false k p after v u h parts has = leaf_elsewhere p.value (k + 1) v u h (parts refl).0 (parts refl).1 has
  firm_by true k p after v u h parts has = get_or-set_other h.variables (k + 1) k (Some u) None (λ e. absurd (omega (arith, e))) ∙ has

  pub firm_elsewhere : (k : ℕ) (p : Valued) (after : Statements) (v u : ℕ) (h : State) → HasValue s (firm k p after).value v h → HasValue s (firm k p after).value v (put_variable h (k + 1) u)
  firm_elsewhere k p after v u h has = firm_by (not (is_leaf p.value) || (is_changed p.value after || is_variable (k + 1) p.value)) k p after v u h
      (λ e.
      let parts = or_parts (not (is_leaf p.value)) (is_changed p.value after || is_variable (k + 1) p.value) e in
      (not-false (is_leaf p.value) parts.0, (or_parts (is_changed p.value after) (is_variable (k + 1) p.value) parts.1).1))
      has

  -- a leaf has its value in each world
  leaf_in : (e : Expr) (v : ℕ) (h : State) (w : World) (t : List ℕ) → is_leaf e ≡ true → HasValue s e v h → HasValue s e v (record { variables = h.variables; world = w; trace = t })
  leaf_in (Constant word) v h w t is has = has
  leaf_in (Variable y) v h w t is has = has
  leaf_in (Element array index) v h w t is has = absurd (false≢true is)
  leaf_in (Unary operator operand) v h w t is has = absurd (false≢true is)
  leaf_in (Binary operator left right) v h w t is has = absurd (false≢true is)

  leaf_by : (needed : Bool) (k : ℕ) (p : Valued) (v : ℕ) (h : State) (w : World) (t : List ℕ) → (needed ≡ false → is_leaf p.value ≡ true) → HasValue s (held needed k p End).value v h → HasValue s (held needed k p End).value v (record { variables = h.variables; world = w; trace = t })
  leaf_by false k p v h w t is has = leaf_in p.value v h w t (is refl) has
  leaf_by true k p v h w t is has = has

  pub leaf_anywhere : (k : ℕ) (p : Valued) (v : ℕ) (h : State) (w : World) (t : List ℕ) → HasValue s (leaf k p).value v h → HasValue s (leaf k p).value v (record { variables = h.variables; world = w; trace = t })
  leaf_anywhere k p v h w t has = leaf_by (not (is_leaf p.value)) k p v h w t (not-false (is_leaf p.value)) has
