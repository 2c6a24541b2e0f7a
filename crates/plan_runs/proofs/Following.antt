-- The code of each statement goes where the statement goes.
use Rattle.std.proofs.Common.{◌≡◌, ℕ, ◌+◌, Bool, true, false, length, Option, Some, None, refl, sym, ap, ◌∙◌, subst}
use Rattle.std.proofs.lemmas.Bool.{false≢true, true≢false}
use Rattle.std.proofs.lemmas.Option.{none-some, same_Some}
use Rattle.meaning_semantics.specs.State as source
use Rattle.meaning_semantics.specs.Statements.{run}
use Rattle.meaning_semantics.specs.Values.{value}
use Rattle.meaning_semantics.specs.declared.outcome.Flow.{Flow}
use Rattle.meaning_semantics.specs.declared.outcome.Flow.TheVariants.{Onward, Return}
use Rattle.c_tree.specs.declared.pragma.Pragma.{Pragma}
use Rattle.types_tree.specs.Tree as tree
use Rattle.types_tree.specs.Tree.{Expr, Statement, Empty, Evaluate, Marker, If, IfElse, Switch, Items}
use Rattle.high_ir.specs.declared.object.Kind.{Kind}
use Rattle.high_ir.specs.Tree.{Seq, Block as BlockHigh, Leave, Return as ReturnHigh, Statements, Then}
use Rattle.high_ir.specs.Meaning.{State, Returns, with_value, then_do, run_all}
use Rattle.high_code.specs.Code.{joined, alone}
use Rattle.high_code.proofs.Joined.{run_all-joined, run_all-alone, AllWithin-joined}
use Rattle.plan_definition.specs.declared.purpose.Purpose.TheVariants.{Value, Effect, Unless}
use Rattle.plan_definition.specs.Statements.{Exits, chosen_else, deeper, ends_in_block, in_loop, last_in_block, planned}
use Rattle.plan_definition.specs.Values.{Valued, is_joint, made}
use Rattle.plan_runs.specs.ExpressionFits.{Suits, range_of}
use Rattle.plan_runs.specs.Claims.{Setting, IsSetting, Gives, Simulates}
use Rattle.plan_runs.proofs.Changes.{suits_range}
use Rattle.plan_runs.proofs.Expressions.{simulates}
use Rattle.plan_runs.proofs.Holding.{reached_same, untouched_same}
use Rattle.plan_runs.specs.Flows.{Rest, source_in, plan_in, in_scope, Does, Follows}
use Rattle.plan_runs.proofs.Branches.{within_if, within_else, if_does, else_does}
use Rattle.plan_runs.specs.StatementFits.{IsDeclared, FitReturn, FitOption, FitStart, FitStatement, FitItems, block_declares, declares as declares_of, start_declares, with_live}
use Rattle.plan_runs.proofs.Entering.{block_own, declares_own, does_out, scope_ok}
use Rattle.plan_runs.proofs.Declaring.{zero_range, declares, starts_of}
use Rattle.plan_runs.proofs.Items.{Each, all_follow, of_Block}
use Rattle.plan_runs.proofs.Marks.{marked}
use Rattle.plan_runs.proofs.Repeating.{of_While, of_Do, for_does}
use Rattle.plan_runs.proofs.Loops.{Rounds}
use Rattle.plan_runs.proofs.Switching.{of_Switch, turns_Switch}
use Rattle.plan_runs.proofs.Turns.{Turns, around_rounds, turns_by, turns_plain}
use Rattle.plan_runs.proofs.Sequences.{nothing_does}

module _ (s : Setting) (ok : IsSetting s) (result : Kind) (rest : Rest) where
  of_Empty : (at : ℕ) → Follows s result rest (Empty at)
  of_Empty at = record { by = λ k exits le st hs m inside. nothing_does s ok result exits k st hs m }

  of_Evaluate : (e : Expr) (at : ℕ) → Simulates s e → Follows s result rest (Evaluate e at)
  of_Evaluate e at sim = record { by = λ k exits le st hs m inside. of k exits st hs (value s.layout.variables s.call e false st) (sim.by false Effect k le st hs m inside) }
    where
      of : (k : ℕ) (exits : Exits) (st : source.State) (hs : State) (o : source.Outcome ℕ) → Gives s Effect (made s.layout.homes Effect e k) k st hs (range_of s.layout s.signatures e) o → Does s result exits (made s.layout.homes Effect e k).code k st hs (source.then_do o (λ word st1. source.Fine Onward st1))
      of k exits st hs (source.Stopped stop) g = tt
      of k exits st hs (source.Fine v st1) g = record { behind = g.behind; runs = g.runs; reached = g.reached }

  of_Marker : (number : ℕ) (pragma : Pragma) → Follows s result rest (Marker number pragma)
  of_Marker number pragma = record {
    by = λ k exits le st hs m inside.
        let w = marked s ok (length rest.functions + number) k st hs m in
        record { behind = w.behind; runs = w.runs; reached = w.reached };
  }

  of_If : (test : Expr) (first : Statement) (at : ℕ) → Simulates s test → Follows s result rest first → Follows s result rest (If test first at)
  of_If test first at sim follows = record {
    by = λ k exits le st hs m inside.
        let by_value = made s.layout.homes Value test k in
        let by_jumps = made s.layout.homes (Unless 0) test k in
        let parts = within_if s.room (is_joint test) by_value by_jumps.code (planned (plan_in s rest) first k exits) (planned (plan_in s rest) first k (deeper exits)) inside in
        if_does s ok result exits k st hs (is_joint test) by_value by_jumps (range_of s.layout s.signatures test) (planned (plan_in s rest) first k exits) (planned (plan_in s rest) first k (deeper exits)) (value s.layout.variables s.call test true st) (run (source_in s rest) s.call first)
        (λ e. sim.by true Value k le st hs m (parts.0 e).0) (λ e. sim.by true (Unless 0) k le st hs m (parts.1 e).0)
        (λ e st1 h m1. follows.by k exits le st1 h m1 (parts.0 e).1) (λ e st1 h m1. follows.by k (deeper exits) le st1 h m1 (parts.1 e).1);
  }

  of_IfElse : (test : Expr) (first second : Statement) (at : ℕ) → Simulates s test → Follows s result rest first → Follows s result rest second → Follows s result rest (IfElse test first second at)
  of_IfElse test first second at sim follows follows_second = record {
    by = λ k exits le st hs m inside.
        let plan = plan_in s rest in
        let by_value = made s.layout.homes Value test k in
        let by_jumps = made s.layout.homes (Unless 0) test k in
        let parts = within_else s.room (is_joint test) by_value by_jumps.code (planned plan first k exits) (planned plan second k exits) (planned plan first k (deeper (deeper exits))) (planned plan second k (deeper exits)) inside in
        else_does s ok result exits k st hs (is_joint test) by_value by_jumps (range_of s.layout s.signatures test) (planned plan first k exits) (planned plan second k exits) (planned plan first k (deeper (deeper exits))) (planned plan second k (deeper exits))
        (value s.layout.variables s.call test true st) (run (source_in s rest) s.call first) (run (source_in s rest) s.call second)
        (λ e. sim.by true Value k le st hs m (parts.0 e).0) (λ e. sim.by true (Unless 0) k le st hs m (parts.1 e).0)
        (λ e st1 h m1. follows.by k exits le st1 h m1 (parts.0 e).1) (λ e st1 h m1. follows_second.by k exits le st1 h m1 (parts.0 e).2)
        (λ e st1 h m1. follows.by k (deeper (deeper exits)) le st1 h m1 (parts.1 e).1) (λ e st1 h m1. follows_second.by k (deeper exits) le st1 h m1 (parts.1 e).2);
  }

  -- of two ways by jumps only the second of their blocks is left
  last_way : (joint : Bool) (test : Valued) (jumps first other first_within other_within : Statements) (k : ℕ) (st : source.State) (hs : State) (o : source.Outcome Flow) → joint ≡ true →
      Does s result (in_loop true) (chosen_else joint test jumps first other first_within other_within) k st hs o → Rounds s ok result k true (last_in_block (chosen_else joint test jumps first other first_within other_within)) st hs o
  last_way false test jumps first other first_within other_within k st hs o is d = absurd (true≢false (sym is))
  last_way true test jumps first other first_within other_within k st hs o is d =
      around_rounds s ok result k (BlockHigh (Seq (Then (BlockHigh (Seq (joined jumps (joined first_within (alone (Leave 1)))))) other_within))) st hs o d

  turns_IfElse : (test : Expr) (first second : Statement) (at : ℕ) → Follows s result rest (IfElse test first second at) → Turns s ok result rest (IfElse test first second at)
  turns_IfElse test first second at whole =
      turns_by s ok result rest (IfElse test first second at) whole
      (λ e k le st hs m inside.
      let plan = plan_in s rest in
      let exits = in_loop true in
      last_way (is_joint test) (made s.layout.homes Value test k) (made s.layout.homes (Unless 0) test k).code (planned plan first k exits) (planned plan second k exits) (planned plan first k (deeper (deeper exits))) (planned plan second k (deeper exits))
      k st hs (run (source_in s rest) s.call (IfElse test first second at) st) e (whole.by k exits le st hs m inside))

  of_Break : (at : ℕ) → Follows s result rest (tree.Break at)
  of_Break at = record { by = λ k exits le st hs m inside. record { behind = hs; runs = refl; reached = reached_same s ok k st hs m } }

  of_Continue : (at : ℕ) → Follows s result rest (tree.Continue at)
  of_Continue at = record { by = λ k exits le st hs m inside. record { behind = hs; runs = refl; reached = reached_same s ok k st hs m } }

  of_Return_None : (at : ℕ) → Follows s result rest (tree.Return None at)
  of_Return_None at = record {
    by = λ k exits le st hs m inside. record { world = hs.world; trace = hs.trace; runs = refl; meets = m.world; untouched = untouched_same s.layout (s.layout.rank s.function.number) st.objects; range_is = zero_range result };
  }

  of_Return_Some : (e : Expr) (at : ℕ) → Suits (range_of s.layout s.signatures e) result → Simulates s e → Follows s result rest (tree.Return (Some e) at)
  of_Return_Some e at suits sim = record {
    by = λ k exits le st hs m inside.
        let p = made s.layout.homes Value e k in
        let parts = AllWithin-joined s.room p.code (alone (ReturnHigh p.value)) inside in
        of k exits st hs (value s.layout.variables s.call e true st) (sim.by true Value k le st hs m parts.0);
  }
    where
      of : (k : ℕ) (exits : Exits) (st : source.State) (hs : State) (o : source.Outcome ℕ) → Gives s Value (made s.layout.homes Value e k) k st hs (range_of s.layout s.signatures e) o →
          Does s result exits (joined (made s.layout.homes Value e k).code (alone (ReturnHigh (made s.layout.homes Value e k).value))) k st hs (source.then_do o (λ word st1. source.Fine (Return (Some word)) st1))
      of k exits st hs (source.Stopped stop) g = tt
      of k exits st hs (source.Fine v st1) g =
          let p = made s.layout.homes Value e k in
          record {
            world = g.behind.world;
            trace = g.behind.trace;
            runs = run_all-joined Some s.high_call s.passed p.code (alone (ReturnHigh p.value)) hs
                ∙ ap (λ o. then_do o (run_all Some s.high_call s.passed (alone (ReturnHigh p.value)))) g.runs
                ∙ run_all-alone Some s.high_call s.passed (ReturnHigh p.value) g.behind
                ∙ ap (λ o. with_value o (λ u. Returns u g.behind.world g.behind.trace)) g.value;
            meets = g.reached.meets.world;
            untouched = g.reached.untouched;
            range_is = suits_range (range_of s.layout s.signatures e) result v suits g.range_is;
          }

  of_Return : (value : Option Expr) (at : ℕ) → FitReturn s.layout s.signatures result rest.bounds s.function value → Follows s result rest (tree.Return value at)
  of_Return None at fit = of_Return_None at
  of_Return (Some e) at fit = of_Return_Some e at fit.1 (simulates s ok e fit.0)

  -- an expression that may be absent
  option_simulates : (o : Option Expr) → FitOption s.layout s.signatures result rest.bounds s.function o → (e : Expr) → o ≡ Some e → Simulates s e
  option_simulates None fit e is = absurd (none-some e is)
  option_simulates (Some x) fit e is = subst (Simulates s) (same_Some x e is) (simulates s ok x fit)

module _ (result : Kind) (rest : Rest) where
  -- the objects in the head of a `for` are those of the function
  start_own : (s : Setting) (start : tree.ForStart) → FitStart s.layout s.signatures result rest.bounds (with_live s.function (start_declares start)) start → (o : ℕ) → start_declares start o ≡ true → IsDeclared s.layout s.function o
  start_own s tree.NoStart fit o there = absurd (false≢true there)
  start_own s (tree.StartValue e) fit o there = absurd (false≢true there)
  start_own s (tree.StartDeclaration declaration) fit o there = declares_own s.layout s.signatures result rest.bounds s.function (declares_of declaration) declaration fit o there

  -- a `for`, within whose head its objects live
  of_For : (s : Setting) (ok : IsSetting s) (number : ℕ) (bound : Option Pragma) (start : tree.ForStart) (test step : Option Expr) (body : Statement) (at : ℕ) → FitStatement s.layout s.signatures result rest.bounds s.function (tree.For number bound start test step body at) →
      (inner : IsSetting (in_scope s (start_declares start))) → Turns (in_scope s (start_declares start)) inner result rest body → Follows s result rest (tree.For number bound start test step body at)
  of_For s ok number bound start test step body at fit inner turns =
      let within = in_scope s (start_declares start) in
      record {
        by = λ k exits le st hs m inside.
            does_out s (start_declares start) result exits k (planned (plan_in s rest) (tree.For number bound start test step body at) k exits) st hs (run (source_in s rest) s.call (tree.For number bound start test step body at) st)
            (for_does within inner result rest number bound start test step body at (option_simulates within inner result rest test fit.1) (option_simulates within inner result rest step fit.2) turns k exits le st hs inside
            (λ head. starts_of s ok result rest k exits le st hs m start inner fit.0 head));
      }

  -- a statement, and the same as the body of a loop
  abbrev pub Both : (s : Setting) → IsSetting s → Statement → Type 0
  Both s ok statement = Follows s result rest statement × Turns s ok result rest statement

  plainly : (s : Setting) (ok : IsSetting s) (statement : Statement) → ends_in_block statement ≡ false → Follows s result rest statement → Both s ok statement
  plainly s ok statement none follows = (follows, turns_plain s ok result rest statement none follows)

  both_IfElse : (s : Setting) (ok : IsSetting s) (test : Expr) (first second : Statement) (at : ℕ) → Follows s result rest (IfElse test first second at) → Both s ok (IfElse test first second at)
  both_IfElse s ok test first second at follows = (follows, turns_IfElse s ok result rest test first second at follows)

  mutual
    -- the code of a statement goes where the statement goes
    pub both : (s : Setting) (ok : IsSetting s) (statement : Statement) → FitStatement s.layout s.signatures result rest.bounds s.function statement → Both s ok statement
    both s ok (tree.Block items at) fit =
        let more = block_declares items in
        let inner = scope_ok s ok more (block_own s.layout s.signatures result rest.bounds s.function more items fit) in
        plainly s ok (tree.Block items at) refl (of_Block s ok result rest items at fit (all_follow (in_scope s more) inner result rest items (each (in_scope s more) inner items fit)))
    both s ok (Empty at) fit = plainly s ok (Empty at) refl (of_Empty s ok result rest at)
    both s ok (Evaluate e at) fit = plainly s ok (Evaluate e at) refl (of_Evaluate s ok result rest e at (simulates s ok e fit))
    both s ok (Marker number pragma) fit = plainly s ok (Marker number pragma) refl (of_Marker s ok result rest number pragma)
    both s ok (If test first at) fit = plainly s ok (If test first at) refl (of_If s ok result rest test first at (simulates s ok test fit.0) (both s ok first fit.1).0)
    both s ok (IfElse test first second at) fit =
        both_IfElse s ok test first second at (of_IfElse s ok result rest test first second at (simulates s ok test fit.0) (both s ok first fit.1).0 (both s ok second fit.2).0)
    both s ok (tree.While number bound test body at) fit =
        plainly s ok (tree.While number bound test body at) refl (of_While s ok result rest number bound test body at (simulates s ok test fit.0) (both s ok body fit.1).1)
    both s ok (tree.Do number bound body test at) fit =
        plainly s ok (tree.Do number bound body test at) refl (of_Do s ok result rest number bound body test at (simulates s ok test fit.0) (both s ok body fit.1).1)
    both s ok (tree.For number bound start test step body at) fit =
        let more = start_declares start in
        let within = in_scope s more in
        let inner = scope_ok s ok more (start_own s start fit.0) in
        plainly s ok (tree.For number bound start test step body at) refl (of_For s ok number bound start test step body at fit inner (both within inner body fit.3).1)
    both s ok (Switch test items at) fit =
        let more = block_declares items in
        let inner = scope_ok s ok more (block_own s.layout s.signatures result rest.bounds s.function more items fit.1) in
        let sim = simulates s ok test fit.0 in
        let all = each (in_scope s more) inner items fit.1 in
        (of_Switch s ok result rest test items at sim inner all fit.1, turns_Switch s ok result rest test items at sim inner all fit.1)
    both s ok (tree.Break at) fit = plainly s ok (tree.Break at) refl (of_Break s ok result rest at)
    both s ok (tree.Continue at) fit = plainly s ok (tree.Continue at) refl (of_Continue s ok result rest at)
    both s ok (tree.Return value at) fit = plainly s ok (tree.Return value at) refl (of_Return s ok result rest value at fit)

    pub each : (s : Setting) (ok : IsSetting s) (items : Items) → FitItems s.layout s.signatures result rest.bounds s.function items → Each s ok result rest items
    each s ok tree.NoItem fit = tt
    each s ok (tree.WithDeclaration declaration items) fit = (declares s ok result rest declaration 0 fit.0, each s ok items fit.1)
    each s ok (tree.WithStatement statement items) fit = ((both s ok statement fit.0).0, each s ok items fit.1)
    each s ok (tree.WithRestriction pragma items) fit = each s ok items fit
    each s ok (tree.WithLabel label items) fit = each s ok items fit

  pub follows : (s : Setting) (ok : IsSetting s) (statement : Statement) → FitStatement s.layout s.signatures result rest.bounds s.function statement → Follows s result rest statement
  follows s ok statement fit = (both s ok statement fit).0
