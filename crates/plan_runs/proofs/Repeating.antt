-- `while`, `do` and `for`.
use Rattle.std.proofs.Common.{◌≡◌, ◌⊎◌, inl, inr, ⊎_elim, ℕ, zero, suc, ◌+◌, ◌-◌, ◌<◌, ◌≤◌, max, Bool, true, false, Option, Some, None, refl, sym, ap, ◌∙◌, subst, arith, add-one}
use Rattle.std.proofs.lemmas.Bool.{cases_lt}
use Rattle.facts_definitions.specs.Most.{bounds_at}
use Rattle.facts_definitions.specs.Starts.{is_always, is_always_or_absent, least_starts, leaves, most_starts, starts_by}
use Rattle.facts_definitions.specs.declared.facts.Bounds.{Bounds}
use Rattle.meaning_semantics.specs.State as source
use Rattle.meaning_semantics.specs.Statements as statements
use Rattle.meaning_semantics.specs.Statements.{Loop, behind, evaluated, run, while_holds}
use Rattle.meaning_semantics.specs.Values.{value}
use Rattle.meaning_semantics.specs.declared.outcome.Flow.{Flow}
use Rattle.meaning_semantics.specs.declared.outcome.Flow.TheVariants.{Onward, Break, Continue, Return}
use Rattle.c_tree.specs.declared.pragma.Pragma.{Pragma}
use Rattle.types_tree.specs.Tree.{Expr, ForStart, Statement, While, Do, For}
use Rattle.high_ir.specs.declared.object.Kind.{Kind}
use Rattle.high_ir.specs.Tree as high
use Rattle.high_ir.specs.Tree.{Statements, End, Seq, Block}
use Rattle.high_ir.specs.Meaning as meaning
use Rattle.high_ir.specs.Meaning.{State, Outcome, Goes, then_do, out_of_block, run_all}
use Rattle.high_code.specs.Code.{joined, alone, AllWithin}
use Rattle.high_code.proofs.Joined.{run_all-joined, run_all-alone, AllWithin-joined}
use Rattle.plan_definition.specs.declared.purpose.Purpose.TheVariants.{Effect, Unless}
use Rattle.plan_definition.specs.Statements.{Exits, leaving_unless, looped, planned, round_of, started, stepped, tested, loops_before}
use Rattle.plan_definition.specs.Values.{Valued, made}
use Rattle.plan_runs.specs.ExpressionFits.{range_of}
use Rattle.plan_runs.specs.Claims.{Setting, IsSetting, MeetsIn, Gives, Simulates}
use Rattle.plan_runs.proofs.Holding.{reached_same}
use Rattle.plan_runs.specs.Flows.{Rest, source_in, plan_in, Does, Follows}
use Rattle.plan_runs.proofs.Constants.{always_value}
use Rattle.plan_runs.proofs.Leaving as leaving
use Rattle.plan_runs.proofs.Leaving.{behind_within, within, onwards_within, stepped_onwards, started_onwards}
use Rattle.plan_runs.proofs.Loops.{Owes, LoopEnds, Tests, Rounds, starts_left, turns_end}
use Rattle.plan_runs.proofs.Sequences.{does_behind}
use Rattle.plan_runs.proofs.Turns.{Turns, body_rounds, last_rounds}

-- what both sides owe at first
owes_at_first : (always breaks : Bool) (min : ℕ) → Owes breaks min (least_starts always breaks min)
owes_at_first true true min = at_least_one min
  where
    at_least_one : (n : ℕ) → (max 1 n ≤ 1) ⊎ (max 1 n ≤ n)
    at_least_one n = ⊎_elim (λ (lt : n < 1). inl (omega (arith, lt))) (λ (le : 1 ≤ n). inr (omega (arith, le))) (cases_lt n 1)
owes_at_first false true min = at_least_one min
  where
    at_least_one : (n : ℕ) → (max 1 n ≤ 1) ⊎ (max 1 n ≤ n)
    at_least_one n = ⊎_elim (λ (lt : n < 1). inl (omega (arith, lt))) (λ (le : 1 ≤ n). inr (omega (arith, le))) (cases_lt n 1)
owes_at_first true false min = omega arith
owes_at_first false false min = omega arith

-- where each start may end the loop
owes_one : (breaks : Bool) (min : ℕ) → Owes true min (least_starts true breaks min)
owes_one true min = owes_at_first true true min
owes_one false min = owes_at_first true true min

starts_are : (always : Bool) (most : ℕ) → most_starts always most ≡ starts_left always most
starts_are true most = refl
starts_are false most = add-one most

module _ (s : Setting) (ok : IsSetting s) (result : Kind) (k : ℕ) where
  -- a loop in its block
  loop_does : (exits : Exits) (id least most : ℕ) (round : Statements) (st : source.State) (hs : State) (o : source.Outcome Flow) → LoopEnds s ok result k st hs o (meaning.turns most least (λ h. run_all Some s.high_call s.passed round h) hs) →
      Does s result exits (alone (Block (high.Loop id least most (Seq round)))) k st hs o
  loop_does exits id least most round st hs (source.Stopped stop) e = tt
  loop_does exits id least most round st hs (source.Fine Onward st1) e =
      record { behind = e.behind; runs = run_all-alone Some s.high_call s.passed (Block (high.Loop id least most (Seq round))) hs ∙ ap out_of_block e.is; reached = e.reached }
  loop_does exits id least most round st hs (source.Fine Break st1) e = absurd e
  loop_does exits id least most round st hs (source.Fine Continue st1) e = absurd e
  loop_does exits id least most round st hs (source.Fine (Return value) st1) e = record {
    world = e.world;
    trace = e.trace;
    runs = run_all-alone Some s.high_call s.passed (Block (high.Loop id least most (Seq round))) hs ∙ ap out_of_block e.is;
    meets = e.meets;
    untouched = e.untouched;
    range_is = e.range_is;
  }

  run_two : (a b : Statements) (hs : State) (o : Outcome) → run_all Some s.high_call s.passed a hs ≡ o → run_all Some s.high_call s.passed (joined a b) hs ≡ then_do o (run_all Some s.high_call s.passed b)
  run_two a b hs o e = run_all-joined Some s.high_call s.passed a b hs ∙ ap (λ o. then_do o (run_all Some s.high_call s.passed b)) e

  -- a body that does not leave its loop
  rounds_by : (breaks : Bool) (code : Statements) (st : source.State) (hs : State) (o : source.Outcome Flow) → (breaks ≡ false → leaving.Within true o) → Rounds s ok result k true code st hs o → Rounds s ok result k breaks code st hs o
  rounds_by breaks code st hs (source.Stopped stop) h e = tt
  rounds_by breaks code st hs (source.Fine Onward st1) h e = e
  rounds_by breaks code st hs (source.Fine Continue st1) h e = e
  rounds_by true code st hs (source.Fine Break st1) h e = e
  rounds_by false code st hs (source.Fine Break st1) h e = absurd (h refl)
  rounds_by true code st hs (source.Fine (Return value) st1) h e = e
  rounds_by false code st hs (source.Fine (Return value) st1) h e = absurd (h refl)

  nothing_round : (st : source.State) (hs : State) → MeetsIn s st hs → Rounds s ok result k true End st hs (source.Fine Onward st)
  nothing_round st hs m = record { behind = hs; runs = refl; reached = reached_same s ok k st hs m }

  -- the test of a loop by its jumps
  jumps_test : (p : Valued) (range : Kind) (st : source.State) (hs : State) (o : source.Outcome ℕ) → Gives s (Unless 0) p k st hs range o → Tests s ok result k false p.code st hs o
  jumps_test p range st hs (source.Stopped stop) g = tt
  jumps_test p range st hs (source.Fine zero st1) g = record { behind = g.behind; runs = g.runs; reached = g.reached }
  jumps_test p range st hs (source.Fine (suc n) st1) g = record { behind = g.behind; runs = g.runs; reached = g.reached }

  nothing_test : (n : ℕ) (st : source.State) (hs : State) → MeetsIn s st hs → Tests s ok result k true End st hs (source.Fine (suc n) st)
  nothing_test n st hs m = record { behind = hs; runs = refl; reached = reached_same s ok k st hs m }

  -- behind a `do`
  while_round : (p : Valued) (range : Kind) (st : source.State) (hs : State) (o : source.Outcome ℕ) → Gives s (Unless 0) p k st hs range o → Rounds s ok result k true p.code st hs (source.then_do o (λ word st1. source.Fine (source.choose word Onward Break) st1))
  while_round p range st hs (source.Stopped stop) g = tt
  while_round p range st hs (source.Fine zero st1) g = record { behind = g.behind; runs = g.runs; reached = g.reached }
  while_round p range st hs (source.Fine (suc n) st1) g = record { behind = g.behind; runs = g.runs; reached = g.reached }

  effect_round : (p : Valued) (range : Kind) (st : source.State) (hs : State) (o : source.Outcome ℕ) → Gives s Effect p k st hs range o → Rounds s ok result k true p.code st hs (source.then_do o (λ word st1. source.Fine Onward st1))
  effect_round p range st hs (source.Stopped stop) g = tt
  effect_round p range st hs (source.Fine v st1) g = record { behind = g.behind; runs = g.runs; reached = g.reached }

  -- a whole loop, whose starts are those of its bounds
  whole_loop : (exits : Exits) (id : ℕ) (bounds : Bounds) (always left breaks : Bool) (loop : Loop) (test round : Statements) → Owes breaks bounds.min (least_starts always left bounds.min) →
      ((st : source.State) (h : State) → MeetsIn s st h → Tests s ok result k always test st h (loop.test st)) → ((st : source.State) (h : State) → MeetsIn s st h → Rounds s ok result k breaks round st h (loop.round st)) →
      (st : source.State) (hs : State) → MeetsIn s st hs → Does s result exits (looped id (starts_by always left bounds) (joined test round)) k st hs (statements.looped bounds loop st)
  whole_loop exits id bounds always left breaks loop test round owes tests rounds st hs m =
      loop_does exits id (least_starts always left bounds.min) (most_starts always bounds.max) (joined test round) st hs (statements.looped bounds loop st)
      (subst (λ n. LoopEnds s ok result k st hs (statements.looped bounds loop st) (meaning.turns n (least_starts always left bounds.min) (λ h. run_all Some s.high_call s.passed (joined test round) h) hs)) (sym (starts_are always bounds.max))
      (turns_end s ok result k loop always breaks test round tests rounds bounds.max bounds.min (least_starts always left bounds.min) owes st hs m))

module _ (s : Setting) (ok : IsSetting s) (result : Kind) (rest : Rest) where
  -- the test of a `while` or a `for`
  test_of : (test : Expr) → Simulates s test → (b : Bool) → is_always test ≡ b → (k : ℕ) → s.function.variables ≤ k → AllWithin s.room (leaving_unless b (made s.layout.homes (Unless 0) test k).code) → (st : source.State) (h : State) → MeetsIn s st h →
      Tests s ok result k b (leaving_unless b (made s.layout.homes (Unless 0) test k).code) st h (value s.layout.variables s.call test true st)
  test_of test sim false e k le within st h m = jumps_test s ok result k (made s.layout.homes (Unless 0) test k) (range_of s.layout s.signatures test) st h (value s.layout.variables s.call test true st) (sim.by true (Unless 0) k le st h m within)
  test_of test sim true e k le within st h m =
      let a = always_value s.layout.variables s.call test e in
      subst (λ o. Tests s ok result k true End st h o) (sym (a.1 true st)) (nothing_test s ok result k a.0 st h m)

  pub of_While : (number : ℕ) (bound : Option Pragma) (test : Expr) (body : Statement) (at : ℕ) → Simulates s test → Turns s ok result rest body → Follows s result rest (While number bound test body at)
  of_While number bound test body at sim turns = record {
    by = λ k exits le st hs m inside.
        let jumps = leaving_unless (is_always test) (made s.layout.homes (Unless 0) test k).code in
        let code = round_of body (planned (plan_in s rest) body k) in
        let parts = AllWithin-joined s.room jumps code inside.0 in
        let loop : Loop = record { at = at; test = evaluated (source_in s rest) s.call test true; round = λ st1. source.then_do (run (source_in s rest) s.call body st1) (behind (source.Fine Onward)) } in
        whole_loop s ok result k exits (number - 1) (bounds_at rest.bounds number) (is_always test) (leaves true body) (leaves true body) loop jumps code (owes_at_first (is_always test) (leaves true body) (bounds_at rest.bounds number).min)
        (λ st1 h m1. test_of test sim (is_always test) refl k le parts.0 st1 h m1)
        (λ st1 h m1. rounds_by s ok result k (leaves true body) code st1 h (source.then_do (run (source_in s rest) s.call body st1) (behind (source.Fine Onward)))
        (λ e. behind_within true (run (source_in s rest) s.call body st1) (source.Fine Onward) (within (source_in s rest) s.call true body e st1) (λ st2. tt))
        (last_rounds s ok result k code st1 h (run (source_in s rest) s.call body st1) (turns.by k le st1 h m1 parts.1)))
        st hs m;
  }

  pub of_Do : (number : ℕ) (bound : Option Pragma) (body : Statement) (test : Expr) (at : ℕ) → Simulates s test → Turns s ok result rest body → Follows s result rest (Do number bound body test at)
  of_Do number bound body test at sim turns = record {
    by = λ k exits le st hs m within.
        let p = made s.layout.homes (Unless 0) test k in
        let code = round_of body (planned (plan_in s rest) body k) in
        let parts = AllWithin-joined s.room code p.code within.0 in
        let loop : Loop = record { at = at; test = source.Fine 1; round = λ st1. source.then_do (run (source_in s rest) s.call body st1) (behind (while_holds (source_in s rest) s.call test)) } in
        whole_loop s ok result k exits (number - 1) (bounds_at rest.bounds number) true (leaves true body) true loop End (joined code p.code) (owes_one (leaves true body) (bounds_at rest.bounds number).min)
        (λ st1 h m1. nothing_test s ok result k 0 st1 h m1)
        (λ st1 h m1. body_rounds s ok result k code p.code st1 h (run (source_in s rest) s.call body st1) (while_holds (source_in s rest) s.call test) (turns.by k le st1 h m1 parts.0)
        (λ st2 h2 m2. while_round s ok result k p (range_of s.layout s.signatures test) st2 h2 (value s.layout.variables s.call test true st2) (sim.by true (Unless 0) k le st2 h2 m2 parts.1)))
        st hs m;
  }

  -- the test of a `for`, which may be absent
  for_test : (test : Option Expr) → ((e : Expr) → test ≡ Some e → Simulates s e) → (k : ℕ) → s.function.variables ≤ k → AllWithin s.room (tested (plan_in s rest) test k) → (st : source.State) (h : State) → MeetsIn s st h →
      Tests s ok result k (is_always_or_absent test) (tested (plan_in s rest) test k) st h (statements.tested (source_in s rest) s.call test st)
  for_test None sim k le inside st h m = nothing_test s ok result k 0 st h m
  for_test (Some e) sim k le inside st h m = test_of e (sim e refl) (is_always e) refl k le inside st h m

  for_step : (step : Option Expr) → ((e : Expr) → step ≡ Some e → Simulates s e) → (k : ℕ) → s.function.variables ≤ k → AllWithin s.room (stepped (plan_in s rest) step k) → (st : source.State) (h : State) → MeetsIn s st h →
      Rounds s ok result k true (stepped (plan_in s rest) step k) st h (statements.stepped (source_in s rest) s.call step st)
  for_step None sim k le inside st h m = nothing_round s ok result k st h m
  for_step (Some e) sim k le inside st h m =
      effect_round s ok result k (made s.layout.homes Effect e k) (range_of s.layout s.signatures e) st h (value s.layout.variables s.call e false st) ((sim e refl).by false Effect k le st h m inside)

  -- code that goes on, and then other code
  pub goes_on : (exits : Exits) (k : ℕ) (a b : Statements) (st : source.State) (hs : State) (o : source.Outcome Flow) (go : source.State → source.Outcome Flow) → leaving.Onwards o → Does s result exits a k st hs o → ((st1 : source.State) (h : State) → MeetsIn s st1 h → Does s result exits b k st1 h (go st1)) →
      Does s result exits (joined a b) k st hs (source.then_do o (λ flow st1. go st1))
  goes_on exits k a b st hs (source.Stopped stop) go on d next = tt
  goes_on exits k a b st hs (source.Fine Onward st1) go on d next = does_behind s ok result exits k (joined a b) b st hs st1 d.behind d.reached (run_two s ok result k a b hs (Goes d.behind) d.runs) (go st1) (next st1 d.behind d.reached.meets)
  goes_on exits k a b st hs (source.Fine Break st1) go on d next = absurd on
  goes_on exits k a b st hs (source.Fine Continue st1) go on d next = absurd on
  goes_on exits k a b st hs (source.Fine (Return value) st1) go on d next = absurd on

  -- a `for` whose head does what it is
  pub for_does : (number : ℕ) (bound : Option Pragma) (start : ForStart) (test step : Option Expr) (body : Statement) (at : ℕ) → ((e : Expr) → test ≡ Some e → Simulates s e) → ((e : Expr) → step ≡ Some e → Simulates s e) → Turns s ok result rest body →
      (k : ℕ) (exits : Exits) → s.function.variables ≤ k → (st : source.State) (hs : State) → AllWithin s.room (planned (plan_in s rest) (For number bound start test step body at) k exits) →
      (AllWithin s.room (started (plan_in s rest) start k) → Does s result exits (started (plan_in s rest) start k) k st hs (statements.started (source_in s rest) s.call start st)) →
      Does s result exits (planned (plan_in s rest) (For number bound start test step body at) k exits) k st hs (run (source_in s rest) s.call (For number bound start test step body at) st)
  for_does number bound start test step body at test_sim step_sim turns k exits le st hs inside begins =
      let code = round_of body (planned (plan_in s rest) body k) in
      let tests = tested (plan_in s rest) test k in
      let steps = stepped (plan_in s rest) step k in
      let always = is_always_or_absent test in
      let left = leaves true body in
      let bounds = bounds_at rest.bounds number in
      let whole = looped (number - 1 + loops_before start) (starts_by always left bounds) (joined tests (joined code steps)) in
      let both = AllWithin-joined s.room (started (plan_in s rest) start k) whole inside in
      let parts = AllWithin-joined s.room tests (joined code steps) both.1.0 in
      let inner = AllWithin-joined s.room code steps parts.1 in
      let loop : Loop = record { at = at; test = statements.tested (source_in s rest) s.call test; round = λ st2. source.then_do (run (source_in s rest) s.call body st2) (behind (statements.stepped (source_in s rest) s.call step)) } in
      goes_on exits k (started (plan_in s rest) start k) whole st hs (statements.started (source_in s rest) s.call start st) (statements.looped bounds loop) (started_onwards (source_in s rest) s.call start st) (begins both.0)
      (λ st1 h m1.
      whole_loop s ok result k exits (number - 1 + loops_before start) bounds always left left loop tests (joined code steps) (owes_at_first always left bounds.min)
      (λ st2 h2 m2. for_test test test_sim k le parts.0 st2 h2 m2)
      (λ st2 h2 m2. rounds_by s ok result k left (joined code steps) st2 h2 (source.then_do (run (source_in s rest) s.call body st2) (behind (statements.stepped (source_in s rest) s.call step)))
      (λ e. behind_within true (run (source_in s rest) s.call body st2) (statements.stepped (source_in s rest) s.call step) (within (source_in s rest) s.call true body e st2) (λ st3. onwards_within true (statements.stepped (source_in s rest) s.call step st3) (stepped_onwards (source_in s rest) s.call step st3)))
      (body_rounds s ok result k code steps st2 h2 (run (source_in s rest) s.call body st2) (statements.stepped (source_in s rest) s.call step) (turns.by k le st2 h2 m2 inner.0) (λ st3 h3 m3. for_step step step_sim k le inner.1 st3 h3 m3)))
      st1 h m1)
