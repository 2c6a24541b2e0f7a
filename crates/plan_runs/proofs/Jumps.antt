-- `&&`, `||` and `?:`: their jumps go where their values say.
use Rattle.std.proofs.Common.{◌≡◌, ℕ, zero, suc, ◌+◌, ◌<◌, ◌≤◌, Bool, true, false, length, Some, None, refl, sym, ap, ◌∙◌, subst, arith}
use Rattle.std.specs.Prelude.{slice_index_or}
use Rattle.std.proofs.lemmas.Bool.{false≢true, true≢false}
use Rattle.std.proofs.lemmas.List.{get_or-set_same, get_or-set_other}
use Rattle.meaning_semantics.specs.State as source
use Rattle.high_ir.specs.declared.object.Kind.{Kind}
use Rattle.high_ir.specs.declared.object.Kind.TheVariants.{Word}
use Rattle.high_ir.specs.Tree.{Constant, Variable, Set, Seq, If, Block, Leave, Statements, End, Then}
use Rattle.high_ir.specs.Meaning.{State, Outcome, Goes, Leaves, with_value, choose, then_do, out_of_block, run_all}
use Rattle.high_code.specs.Code.{joined, alone, AllWithin}
use Rattle.high_code.proofs.Joined.{run_all-joined, run_all-alone, AllWithin-joined}
use Rattle.plan_definition.specs.declared.purpose.Purpose.{Purpose}
use Rattle.plan_definition.specs.declared.purpose.Purpose.TheVariants.{Value, Effect, Unless, When}
use Rattle.plan_definition.specs.Values.{Valued, finished, noted, only_code, in_block, chosen, chosen_by_jumps, choice, placed}
use Rattle.plan_runs.specs.Claims.{Setting, IsSetting, MeetsIn, Reached, Went, HasValue, Ends, Gives}
use Rattle.plan_runs.proofs.Operators.{converted-Word}
use Rattle.plan_runs.proofs.Stores.{alike, put_variable, temporary_meets}
use Rattle.plan_runs.proofs.Holding.{run_Set, reached_then, went_nothing, went_then, went_with, went_Set}
use Rattle.plan_runs.proofs.Finishing.{ended_Effect, value_gives, went}

truth_way : (y : ℕ) (a b : Outcome) → choose y a b ≡ choose (source.truth y) a b
truth_way zero a b = refl
truth_way (suc n) a b = refl

truth_bit : (y : ℕ) → source.truth y ≤ 1
truth_bit zero = omega arith
truth_bit (suc n) = omega arith

block_when : (y depth : ℕ) (h : State) → out_of_block (choose y (Leaves (suc depth) h) (Goes h)) ≡ choose (source.truth y) (Leaves depth h) (Goes h)
block_when zero depth h = refl
block_when (suc n) depth h = refl

block_unless : (y depth : ℕ) (h : State) → out_of_block (choose y (Goes h) (Leaves (suc depth) h)) ≡ choose (source.truth y) (Goes h) (Leaves depth h)
block_unless zero depth h = refl
block_unless (suc n) depth h = refl

-- what `left && right` and `left || right` mean
abbrev pub both_hold : source.Outcome ℕ → (source.State → source.Outcome ℕ) → source.Outcome ℕ
both_hold o go = source.then_do o (λ x st1. source.choose x (source.then_do (go st1) (λ y st2. source.Fine (source.truth y) st2)) (source.Fine 0 st1))

abbrev pub one_holds : source.Outcome ℕ → (source.State → source.Outcome ℕ) → source.Outcome ℕ
one_holds o go = source.then_do o (λ x st1. source.choose x (source.Fine 1 st1) (source.then_do (go st1) (λ y st2. source.Fine (source.truth y) st2)))

module _ (s : Setting) (ok : IsSetting s) (k : ℕ) where
  -- the same as what code gives, where it is 0 or 1
  abbrev pub GivesBit : Purpose → Valued → source.State → State → source.Outcome ℕ → Type 0
  GivesBit purpose p st hs (source.Stopped stop) = Unit {0}
  GivesBit purpose p st hs (source.Fine v st1) = Ends s purpose p k st hs Word v st1 × (v ≤ 1)

  pub of_bit : (purpose : Purpose) (p : Valued) (st : source.State) (hs : State) (o : source.Outcome ℕ) → GivesBit purpose p st hs o → Gives s purpose p k st hs Word o
  of_bit purpose p st hs (source.Stopped stop) g = tt
  of_bit purpose p st hs (source.Fine v st1) g = g.0

  abbrev pub Second : Purpose → Valued → Kind → source.State → source.Outcome ℕ → Type 0
  Second purpose right range st1 o = (h : State) → MeetsIn s st1 h → Gives s purpose right k st1 h range o

  run_two : (a b : Statements) (hs : State) (o : Outcome) → run_all Some s.high_call s.passed a hs ≡ o → run_all Some s.high_call s.passed (joined a b) hs ≡ then_do o (run_all Some s.high_call s.passed b)
  run_two a b hs o e = run_all-joined Some s.high_call s.passed a b hs ∙ ap (λ o. then_do o (run_all Some s.high_call s.passed b)) e

  pub run_block : (code : Statements) (hs : State) (o : Outcome) → run_all Some s.high_call s.passed code hs ≡ o → run_all Some s.high_call s.passed (in_block code) hs ≡ out_of_block o
  run_block code hs o e = run_all-alone Some s.high_call s.passed (Block (Seq code)) hs ∙ ap out_of_block e

  module _ (st : source.State) (hs : State) (left right : Valued) (range range_right : Kind) where
    abbrev two : Statements
    two = joined left.code right.code

    -- one after the other leaves the same block
    pub and_unless : (depth : ℕ) (o : source.Outcome ℕ) (go : source.State → source.Outcome ℕ) → Gives s (Unless depth) left k st hs range o → ((st1 : source.State) → Second (Unless depth) right range_right st1 (go st1)) → GivesBit (Unless depth) (only_code (joined left.code right.code)) st hs (both_hold o go)
    and_unless depth (source.Stopped stop) go g next = tt
    and_unless depth (source.Fine zero st1) go g next =
        (record { behind = g.behind; runs = run_two left.code right.code hs (Leaves depth g.behind) g.runs; reached = g.reached; value = tt; range_is = converted-Word 0 }, omega arith)
    and_unless depth (source.Fine (suc n) st1) go g next = of (go st1) (next st1 g.behind g.reached.meets)
      where
        of : (o : source.Outcome ℕ) → Gives s (Unless depth) right k st1 g.behind range_right o → GivesBit (Unless depth) (only_code (joined left.code right.code)) st hs (source.then_do o (λ y st2. source.Fine (source.truth y) st2))
        of (source.Stopped stop) e = tt
        of (source.Fine y st2) e = (
          record {
            behind = e.behind;
            runs = run_two left.code right.code hs (Goes g.behind) g.runs ∙ e.runs ∙ truth_way y (Goes e.behind) (Leaves depth e.behind);
            reached = reached_then s ok k st hs st1 g.behind st2 e.behind g.reached e.reached;
            value = tt;
            range_is = converted-Word (source.truth y);
          },
          truth_bit y,
        )

    pub or_when : (depth : ℕ) (o : source.Outcome ℕ) (go : source.State → source.Outcome ℕ) → Gives s (When depth) left k st hs range o → ((st1 : source.State) → Second (When depth) right range_right st1 (go st1)) → GivesBit (When depth) (only_code (joined left.code right.code)) st hs (one_holds o go)
    or_when depth (source.Stopped stop) go g next = tt
    or_when depth (source.Fine (suc n) st1) go g next =
        (record { behind = g.behind; runs = run_two left.code right.code hs (Leaves depth g.behind) g.runs; reached = g.reached; value = tt; range_is = converted-Word 1 }, omega arith)
    or_when depth (source.Fine zero st1) go g next = of (go st1) (next st1 g.behind g.reached.meets)
      where
        of : (o : source.Outcome ℕ) → Gives s (When depth) right k st1 g.behind range_right o → GivesBit (When depth) (only_code (joined left.code right.code)) st hs (source.then_do o (λ y st2. source.Fine (source.truth y) st2))
        of (source.Stopped stop) e = tt
        of (source.Fine y st2) e = (
          record {
            behind = e.behind;
            runs = run_two left.code right.code hs (Goes g.behind) g.runs ∙ e.runs ∙ truth_way y (Leaves depth e.behind) (Goes e.behind);
            reached = reached_then s ok k st hs st1 g.behind st2 e.behind g.reached e.reached;
            value = tt;
            range_is = converted-Word (source.truth y);
          },
          truth_bit y,
        )

    -- in a block, the first jump comes behind it
    pub and_when : (depth : ℕ) (o : source.Outcome ℕ) (go : source.State → source.Outcome ℕ) → Gives s (Unless 0) left k st hs range o → ((st1 : source.State) → Second (When (suc depth)) right range_right st1 (go st1)) → Gives s (When depth) (only_code (in_block (joined left.code right.code))) k st hs Word (both_hold o go)
    and_when depth (source.Stopped stop) go g next = tt
    and_when depth (source.Fine zero st1) go g next =
        record { behind = g.behind; runs = run_block two hs (Leaves 0 g.behind) (run_two left.code right.code hs (Leaves 0 g.behind) g.runs); reached = g.reached; value = tt; range_is = converted-Word 0 }
    and_when depth (source.Fine (suc n) st1) go g next = of (go st1) (next st1 g.behind g.reached.meets)
      where
        of : (o : source.Outcome ℕ) → Gives s (When (suc depth)) right k st1 g.behind range_right o → Gives s (When depth) (only_code (in_block (joined left.code right.code))) k st hs Word (source.then_do o (λ y st2. source.Fine (source.truth y) st2))
        of (source.Stopped stop) e = tt
        of (source.Fine y st2) e = record {
          behind = e.behind;
          runs = run_block two hs (choose y (Leaves (suc depth) e.behind) (Goes e.behind)) (run_two left.code right.code hs (Goes g.behind) g.runs ∙ e.runs) ∙ block_when y depth e.behind;
          reached = reached_then s ok k st hs st1 g.behind st2 e.behind g.reached e.reached;
          value = tt;
          range_is = converted-Word (source.truth y);
        }

    pub or_unless : (depth : ℕ) (o : source.Outcome ℕ) (go : source.State → source.Outcome ℕ) → Gives s (When 0) left k st hs range o → ((st1 : source.State) → Second (Unless (suc depth)) right range_right st1 (go st1)) → Gives s (Unless depth) (only_code (in_block (joined left.code right.code))) k st hs Word (one_holds o go)
    or_unless depth (source.Stopped stop) go g next = tt
    or_unless depth (source.Fine (suc n) st1) go g next =
        record { behind = g.behind; runs = run_block two hs (Leaves 0 g.behind) (run_two left.code right.code hs (Leaves 0 g.behind) g.runs); reached = g.reached; value = tt; range_is = converted-Word 1 }
    or_unless depth (source.Fine zero st1) go g next = of (go st1) (next st1 g.behind g.reached.meets)
      where
        of : (o : source.Outcome ℕ) → Gives s (Unless (suc depth)) right k st1 g.behind range_right o → Gives s (Unless depth) (only_code (in_block (joined left.code right.code))) k st hs Word (source.then_do o (λ y st2. source.Fine (source.truth y) st2))
        of (source.Stopped stop) e = tt
        of (source.Fine y st2) e = record {
          behind = e.behind;
          runs = run_block two hs (choose y (Goes e.behind) (Leaves (suc depth) e.behind)) (run_two left.code right.code hs (Goes g.behind) g.runs ∙ e.runs) ∙ block_unless y depth e.behind;
          reached = reached_then s ok k st hs st1 g.behind st2 e.behind g.reached e.reached;
          value = tt;
          range_is = converted-Word (source.truth y);
        }

    pub and_effect : (o : source.Outcome ℕ) (go : source.State → source.Outcome ℕ) → Gives s (Unless 0) left k st hs range o → ((st1 : source.State) → Second Effect right range_right st1 (go st1)) → Gives s Effect (only_code (in_block (joined left.code right.code))) k st hs Word (both_hold o go)
    and_effect (source.Stopped stop) go g next = tt
    and_effect (source.Fine zero st1) go g next =
        record { behind = g.behind; runs = run_block two hs (Leaves 0 g.behind) (run_two left.code right.code hs (Leaves 0 g.behind) g.runs); reached = g.reached; value = tt; range_is = converted-Word 0 }
    and_effect (source.Fine (suc n) st1) go g next = of (go st1) (next st1 g.behind g.reached.meets)
      where
        of : (o : source.Outcome ℕ) → Gives s Effect right k st1 g.behind range_right o → Gives s Effect (only_code (in_block (joined left.code right.code))) k st hs Word (source.then_do o (λ y st2. source.Fine (source.truth y) st2))
        of (source.Stopped stop) e = tt
        of (source.Fine y st2) e = record {
          behind = e.behind;
          runs = run_block two hs (Goes e.behind) (run_two left.code right.code hs (Goes g.behind) g.runs ∙ e.runs);
          reached = reached_then s ok k st hs st1 g.behind st2 e.behind g.reached e.reached;
          value = tt;
          range_is = converted-Word (source.truth y);
        }

    pub or_effect : (o : source.Outcome ℕ) (go : source.State → source.Outcome ℕ) → Gives s (When 0) left k st hs range o → ((st1 : source.State) → Second Effect right range_right st1 (go st1)) → Gives s Effect (only_code (in_block (joined left.code right.code))) k st hs Word (one_holds o go)
    or_effect (source.Stopped stop) go g next = tt
    or_effect (source.Fine (suc n) st1) go g next =
        record { behind = g.behind; runs = run_block two hs (Leaves 0 g.behind) (run_two left.code right.code hs (Leaves 0 g.behind) g.runs); reached = g.reached; value = tt; range_is = converted-Word 1 }
    or_effect (source.Fine zero st1) go g next = of (go st1) (next st1 g.behind g.reached.meets)
      where
        of : (o : source.Outcome ℕ) → Gives s Effect right k st1 g.behind range_right o → Gives s Effect (only_code (in_block (joined left.code right.code))) k st hs Word (source.then_do o (λ y st2. source.Fine (source.truth y) st2))
        of (source.Stopped stop) e = tt
        of (source.Fine y st2) e = record {
          behind = e.behind;
          runs = run_block two hs (Goes e.behind) (run_two left.code right.code hs (Goes g.behind) g.runs ∙ e.runs);
          reached = reached_then s ok k st hs st1 g.behind st2 e.behind g.reached e.reached;
          value = tt;
          range_is = converted-Word (source.truth y);
        }

module _ (s : Setting) (ok : IsSetting s) (k : ℕ) (le : s.function.variables ≤ k) (room : k < s.room) (st : source.State) (hs : State) (m : MeetsIn s st hs) where
  within_frame : k < length hs.variables
  within_frame = subst (λ n. k < n) (sym m.room_is) room

  no_object : (n : ℕ) → s.function.variables ≤ n → n < s.function.variables → ⊥
  no_object n from lt = omega (arith, from, lt)

  temporary : (st1 : source.State) (h : State) (v : ℕ) → MeetsIn s st1 h → MeetsIn s st1 (put_variable h k v)
  temporary st1 h v m1 = temporary_meets s.layout ok.placed s.function.live (alike s ok) s.passed s.room st1 h m1 k v (λ o here own. no_object k le (ok.below o k here own))

  noted_runs : (before behind : ℕ) (jumps : Statements) (o : Outcome) → run_all Some s.high_call s.passed jumps (put_variable hs k before) ≡ o →
      run_all Some s.high_call s.passed (noted k before behind jumps).code hs ≡ out_of_block (then_do o (run_all Some s.high_call s.passed (alone (Set k (Constant behind)))))
  noted_runs before behind jumps o e =
      ap (λ o. then_do o (run_all Some s.high_call s.passed (in_block (joined jumps (alone (Set k (Constant behind))))))) (run_Set s.high_call s.passed k before (Constant before) hs refl within_frame)
      ∙ run_block s ok k (joined jumps (alone (Set k (Constant behind)))) (put_variable hs k before) (then_do o (run_all Some s.high_call s.passed (alone (Set k (Constant behind)))))
      (run_all-joined Some s.high_call s.passed jumps (alone (Set k (Constant behind))) (put_variable hs k before) ∙ ap (λ o. then_do o (run_all Some s.high_call s.passed (alone (Set k (Constant behind))))) e)

  -- the temporaries below k are those before the first note
  since : (before : ℕ) (st1 : source.State) (h1 : State) → Reached s (k + 1) st (put_variable hs k before) st1 h1 → (j : ℕ) → s.function.variables ≤ j → j < k → slice_index_or h1.variables j None ≡ slice_index_or hs.variables j None
  since before st1 h1 r j from lt = r.keeps j from (omega (arith, lt)) ∙ get_or-set_other hs.variables k j (Some before) None (λ same. absurd (omega (arith, same, lt)))

  -- where a jump leaves the block the first note stays
  noted_left : (before behind : ℕ) (jumps : Statements) (st1 : source.State) (h1 : State) → run_all Some s.high_call s.passed jumps (put_variable hs k before) ≡ Leaves 0 h1 → Reached s (k + 1) st (put_variable hs k before) st1 h1 → Went s (noted k before behind jumps).code k st hs st1 (HasValue s (Variable k) before)
  noted_left before behind jumps st1 h1 e r = record {
    behind = h1;
    runs = noted_runs before behind jumps (Leaves 0 h1) e;
    reached = record { meets = r.meets; keeps = since before st1 h1 r; untouched = r.untouched };
    has = r.keeps k le (omega arith) ∙ get_or-set_same hs.variables k (Some before) None within_frame;
  }

  noted_through : (before behind : ℕ) (jumps : Statements) (st1 : source.State) (h1 : State) → run_all Some s.high_call s.passed jumps (put_variable hs k before) ≡ Goes h1 → Reached s (k + 1) st (put_variable hs k before) st1 h1 → Went s (noted k before behind jumps).code k st hs st1 (HasValue s (Variable k) behind)
  noted_through before behind jumps st1 h1 e r =
      let lt : k < length h1.variables = subst (λ n. k < n) (sym r.meets.room_is) room in
      record {
        behind = put_variable h1 k behind;
        runs = noted_runs before behind jumps (Goes h1) e ∙ ap out_of_block (run_all-alone Some s.high_call s.passed (Set k (Constant behind)) h1 ∙ run_Set s.high_call s.passed k behind (Constant behind) h1 refl lt);
        reached = record {
          meets = temporary st1 h1 behind r.meets;
          keeps = λ j from below. get_or-set_other h1.variables k j (Some behind) None (λ same. absurd (omega (arith, same, below))) ∙ since before st1 h1 r j from below;
          untouched = r.untouched;
        };
        has = get_or-set_same h1.variables k (Some behind) None lt;
      }

  one : (n : ℕ) → suc n ≤ 1 → 1 ≡ suc n
  one n h = omega (arith, h)

  pub noted_and : (jumps : Statements) (o : source.Outcome ℕ) → ((h : State) → MeetsIn s st h → GivesBit s ok (k + 1) (Unless 0) (only_code jumps) st h o) → Gives s Value (noted k 0 1 jumps) k st hs Word o
  noted_and jumps (source.Stopped stop) g = tt
  noted_and jumps (source.Fine zero st1) g =
      let e = (g (put_variable hs k 0) (temporary st hs 0 m)).0 in
      let w = noted_left 0 1 jumps st1 e.behind e.runs e.reached in
      record { behind = w.behind; runs = w.runs; reached = w.reached; value = w.has; range_is = converted-Word 0 }
  noted_and jumps (source.Fine (suc n) st1) g =
      let b = g (put_variable hs k 0) (temporary st hs 0 m) in
      let w = noted_through 0 1 jumps st1 b.0.behind b.0.runs b.0.reached in
      record { behind = w.behind; runs = w.runs; reached = w.reached; value = w.has ∙ ap Some (one n b.1); range_is = converted-Word (suc n) }

  pub noted_or : (jumps : Statements) (o : source.Outcome ℕ) → ((h : State) → MeetsIn s st h → GivesBit s ok (k + 1) (When 0) (only_code jumps) st h o) → Gives s Value (noted k 1 0 jumps) k st hs Word o
  noted_or jumps (source.Stopped stop) g = tt
  noted_or jumps (source.Fine zero st1) g =
      let e = (g (put_variable hs k 1) (temporary st hs 1 m)).0 in
      let w = noted_through 1 0 jumps st1 e.behind e.runs e.reached in
      record { behind = w.behind; runs = w.runs; reached = w.reached; value = w.has; range_is = converted-Word 0 }
  noted_or jumps (source.Fine (suc n) st1) g =
      let b = g (put_variable hs k 1) (temporary st hs 1 m) in
      let w = noted_left 1 0 jumps st1 b.0.behind b.0.runs b.0.reached in
      record { behind = w.behind; runs = w.runs; reached = w.reached; value = w.has ∙ ap Some (one n b.1); range_is = converted-Word (suc n) }

-- a choice between two ways
module _ (s : Setting) (ok : IsSetting s) (k : ℕ) (P : ℕ → State → Type 0) where
  -- a way that comes to its value
  abbrev pub Comes : Statements → source.State → State → source.Outcome ℕ → Type 0
  Comes code st hs (source.Stopped stop) = Unit {0}
  Comes code st hs (source.Fine v st1) = Went s code k st hs st1 (P v)

  came : (code : Statements) (st : source.State) (hs : State) (st1 : source.State) (h1 : State) (first : Statements) (o : source.Outcome ℕ) → Reached s k st hs st1 h1 → ((h2 : State) → run_all Some s.high_call s.passed first h1 ≡ Goes h2 → run_all Some s.high_call s.passed code hs ≡ Goes h2) → Comes first st1 h1 o → Comes code st hs o
  came code st hs st1 h1 first (source.Stopped stop) r runs w = tt
  came code st hs st1 h1 first (source.Fine v st2) r runs w = record { behind = w.behind; runs = runs w.behind w.runs; reached = reached_then s ok k st hs st1 h1 st2 w.behind r w.reached; has = w.has }

  module _ (st : source.State) (hs : State) (first other : Statements) (go go_other : source.State → source.Outcome ℕ)
      (firsts : (st1 : source.State) (h : State) → MeetsIn s st1 h → Comes first st1 h (go st1)) (others : (st1 : source.State) (h : State) → MeetsIn s st1 h → Comes other st1 h (go_other st1)) where
    test_runs : (test : Valued) (range : Kind) (x : ℕ) (st1 : source.State) (e : Ends s Value test k st hs range x st1) → run_all Some s.high_call s.passed (chosen test first other) hs ≡ choose x (run_all Some s.high_call s.passed first e.behind) (run_all Some s.high_call s.passed other e.behind)
    test_runs test range x st1 e =
        run_all-joined Some s.high_call s.passed test.code (alone (If test.value (Seq first) (Seq other))) hs
        ∙ ap (λ o. then_do o (run_all Some s.high_call s.passed (alone (If test.value (Seq first) (Seq other))))) e.runs
        ∙ run_all-alone Some s.high_call s.passed (If test.value (Seq first) (Seq other)) e.behind
        ∙ ap (λ o. with_value o (λ u. choose u (run_all Some s.high_call s.passed first e.behind) (run_all Some s.high_call s.passed other e.behind))) e.value

    chosen_comes : (test : Valued) (range : Kind) (o : source.Outcome ℕ) → Gives s Value test k st hs range o → Comes (chosen test first other) st hs (source.then_do o (λ x st1. source.choose x (go st1) (go_other st1)))
    chosen_comes test range (source.Stopped stop) e = tt
    chosen_comes test range (source.Fine zero st1) e =
        came (chosen test first other) st hs st1 e.behind other (go_other st1) e.reached (λ h2 runs. test_runs test range 0 st1 e ∙ runs) (others st1 e.behind e.reached.meets)
    chosen_comes test range (source.Fine (suc n) st1) e =
        came (chosen test first other) st hs st1 e.behind first (go st1) e.reached (λ h2 runs. test_runs test range (suc n) st1 e ∙ runs) (firsts st1 e.behind e.reached.meets)

    jumps_run : (jumps : Statements) (o o1 : Outcome) → run_all Some s.high_call s.passed jumps hs ≡ o → then_do o (run_all Some s.high_call s.passed (joined first (alone (Leave 1)))) ≡ o1 →
        run_all Some s.high_call s.passed (chosen_by_jumps jumps first other) hs ≡ out_of_block (then_do (out_of_block o1) (run_all Some s.high_call s.passed other))
    jumps_run jumps o o1 e then_is =
        run_block s ok k (Then (Block (Seq (joined jumps (joined first (alone (Leave 1)))))) other) hs (then_do (out_of_block o1) (run_all Some s.high_call s.passed other))
        (ap (λ o. then_do (out_of_block o) (run_all Some s.high_call s.passed other))
        (run_all-joined Some s.high_call s.passed jumps (joined first (alone (Leave 1))) hs ∙ ap (λ o. then_do o (run_all Some s.high_call s.passed (joined first (alone (Leave 1))))) e ∙ then_is))

    first_runs : (h1 h2 : State) → run_all Some s.high_call s.passed first h1 ≡ Goes h2 → run_all Some s.high_call s.passed (joined first (alone (Leave 1))) h1 ≡ Leaves 1 h2
    first_runs h1 h2 e = run_all-joined Some s.high_call s.passed first (alone (Leave 1)) h1 ∙ ap (λ o. then_do o (run_all Some s.high_call s.passed (alone (Leave 1)))) e

    jumps_comes : (jumps : Valued) (range : Kind) (o : source.Outcome ℕ) → Gives s (Unless 0) jumps k st hs range o → Comes (chosen_by_jumps jumps.code first other) st hs (source.then_do o (λ x st1. source.choose x (go st1) (go_other st1)))
    jumps_comes jumps range (source.Stopped stop) e = tt
    jumps_comes jumps range (source.Fine zero st1) e =
        came (chosen_by_jumps jumps.code first other) st hs st1 e.behind other (go_other st1) e.reached (λ h2 runs. jumps_run jumps.code (Leaves 0 e.behind) (Leaves 0 e.behind) e.runs refl ∙ ap out_of_block runs) (others st1 e.behind e.reached.meets)
    jumps_comes jumps range (source.Fine (suc n) st1) e =
        came (chosen_by_jumps jumps.code first other) st hs st1 e.behind first (go st1) e.reached (λ h2 runs. jumps_run jumps.code (Goes e.behind) (Leaves 1 h2) e.runs (first_runs e.behind h2 runs)) (firsts st1 e.behind e.reached.meets)

    pub choice_comes : (joint : Bool) (test jumps : Valued) (range : Kind) (o : source.Outcome ℕ) → (joint ≡ false → Gives s Value test k st hs range o) → (joint ≡ true → Gives s (Unless 0) jumps k st hs range o) →
        Comes (choice joint test jumps.code first other) st hs (source.then_do o (λ x st1. source.choose x (go st1) (go_other st1)))
    choice_comes false test jumps range o by_value by_jumps = chosen_comes test range o (by_value refl)
    choice_comes true test jumps range o by_value by_jumps = jumps_comes jumps range o (by_jumps refl)

-- what the code of a choice assigns
pub within_choice : (room : ℕ) (joint : Bool) (test : Valued) (jumps first other : Statements) → AllWithin room (choice joint test jumps first other) → (joint ≡ false → AllWithin room test.code) × (joint ≡ true → AllWithin room jumps) × AllWithin room first × AllWithin room other
within_choice room false test jumps first other h =
    let parts = AllWithin-joined room test.code (alone (If test.value (Seq first) (Seq other))) h in
    (λ e. parts.0, λ e. absurd (false≢true e), parts.1.0.0, parts.1.0.1)
within_choice room true test jumps first other h =
    let inner = AllWithin-joined room jumps (joined first (alone (Leave 1))) h.0.0 in
    let ways = AllWithin-joined room first (alone (Leave 1)) inner.1 in
    (λ e. absurd (true≢false e), λ e. inner.0, ways.0, h.0.1)

module _ (s : Setting) (ok : IsSetting s) (k : ℕ) (le : s.function.variables ≤ k) where
  -- a value in the temporary k
  pub placed_comes : (p : Valued) (range : Kind) (st : source.State) (hs : State) (o : source.Outcome ℕ) → AllWithin s.room (placed k p) → Gives s Value p k st hs range o → Comes s ok k (λ v h. HasValue s (Variable k) v h) (placed k p) st hs o
  placed_comes p range st hs (source.Stopped stop) within g = tt
  placed_comes p range st hs (source.Fine v st1) within g =
      let parts = AllWithin-joined s.room p.code (alone (Set k p.value)) within in
      went_then s ok p.code (alone (Set k p.value)) k st hs st1 st1 (HasValue s p.value v) (HasValue s (Variable k) v) (went s k st hs range p v st1 g)
      (λ h m has.
      went_with s ok (alone (Set k p.value)) k st1 h st1 (λ h. HasValue s (Variable k) v h × Unit {0}) (HasValue s (Variable k) v)
      (went_Set s ok k p.value v End st1 h st1 (λ h. Unit {0}) le parts.1.0 m has (λ m1 is. went_nothing s ok (k + 1) st1 (put_variable h k v) (λ h. Unit {0}) m1 tt))
      (λ h has. has.0))

  pub effect_comes : (p : Valued) (range : Kind) (st : source.State) (hs : State) (o : source.Outcome ℕ) → Gives s Effect p k st hs range o → Comes s ok k (λ v h. Unit {0}) p.code st hs o
  effect_comes p range st hs (source.Stopped stop) g = tt
  effect_comes p range st hs (source.Fine v st1) g = record { behind = g.behind; runs = g.runs; reached = g.reached; has = tt }

  pub chosen_value : (purpose : Purpose) (code : Statements) (st : source.State) (hs : State) (o : source.Outcome ℕ) → Comes s ok k (λ v h. HasValue s (Variable k) v h) code st hs o → Gives s purpose (finished purpose (record { code = code; value = Variable k })) k st hs Word o
  chosen_value purpose code st hs (source.Stopped stop) w = tt
  chosen_value purpose code st hs (source.Fine v st1) w = value_gives s k st hs Word purpose (record { code = code; value = Variable k }) v st1 w (converted-Word v)

  pub chosen_effect : (code : Statements) (st : source.State) (hs : State) (o : source.Outcome ℕ) → Comes s ok k (λ v h. Unit {0}) code st hs o → Gives s Effect (only_code code) k st hs Word o
  chosen_effect code st hs (source.Stopped stop) w = tt
  chosen_effect code st hs (source.Fine v st1) w = ended_Effect s k st hs Word (only_code code) v st1 (λ h. Unit {0}) w (converted-Word v)
