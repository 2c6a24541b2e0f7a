-- The bodies of loops, in a block that their continues leave, where they have any.
use Rattle.std.proofs.Common.{◌≡◌, ℕ, ◌≤◌, Bool, true, false, Some, refl, sym, ap, ◌∙◌}
use Rattle.std.proofs.lemmas.Bool.{true≢false}
use Rattle.meaning_semantics.specs.Runs.{or_zero}
use Rattle.meaning_semantics.specs.State as source
use Rattle.meaning_semantics.specs.Statements.{behind, run}
use Rattle.meaning_semantics.specs.declared.outcome.Flow.{Flow}
use Rattle.meaning_semantics.specs.declared.outcome.Flow.TheVariants.{Onward, Break, Continue, Return}
use Rattle.types_tree.specs.Tree as tree
use Rattle.high_ir.specs.declared.object.Kind.{Kind}
use Rattle.high_ir.specs.Tree.{Statement, Block, Statements, End, Then}
use Rattle.high_ir.specs.Meaning.{State, Outcome, Goes, Leaves, Returns, then_do, out_of_block, run_all}
use Rattle.high_code.specs.Code.{joined, alone, AllWithin}
use Rattle.high_code.proofs.Joined.{run_all-joined, run_all-alone}
use Rattle.plan_definition.specs.Statements.{continues, ends_in_block, in_loop, last_in_block, planned, round_of, rounded}
use Rattle.plan_definition.specs.Values.{in_block}
use Rattle.plan_runs.specs.Claims.{Setting, IsSetting, MeetsIn, Reached, Went}
use Rattle.plan_runs.proofs.Holding.{reached_then, untouched_then}
use Rattle.plan_runs.proofs.Jumps.{run_block}
use Rattle.plan_runs.specs.Flows.{Rest, source_in, plan_in, Does, Follows}
use Rattle.plan_runs.proofs.Continuing.{NoContinue, never_continues}
use Rattle.plan_runs.proofs.Loops.{Rounds}

pub within_last : (room : ℕ) (code : Statements) → AllWithin room (last_in_block code) → AllWithin room code
within_last room End h = h
within_last room (Then first End) h = h
within_last room (Then first (Then second rest)) h = (h.0, within_last room (Then second rest) h.1)

pub last_in_block-joined : (a : Statements) (s : Statement) → last_in_block (joined a (alone s)) ≡ joined a (alone (Block s))
last_in_block-joined End s = refl
last_in_block-joined (Then first End) s = refl
last_in_block-joined (Then first (Then second rest)) s = ap (Then first) (last_in_block-joined (Then second rest) s)

module _ (s : Setting) (ok : IsSetting s) (result : Kind) (k : ℕ) where
  run_two : (a b : Statements) (hs : State) (o : Outcome) → run_all Some s.high_call s.passed a hs ≡ o → run_all Some s.high_call s.passed (joined a b) hs ≡ then_do o (run_all Some s.high_call s.passed b)
  run_two a b hs o e = run_all-joined Some s.high_call s.passed a b hs ∙ ap (λ o. then_do o (run_all Some s.high_call s.passed b)) e

  -- a round goes on behind its body
  round_behind : (whole code : Statements) (st : source.State) (hs : State) (st1 : source.State) (h1 : State) → Reached s k st hs st1 h1 → run_all Some s.high_call s.passed whole hs ≡ run_all Some s.high_call s.passed code h1 → (o : source.Outcome Flow) → Rounds s ok result k true code st1 h1 o → Rounds s ok result k true whole st hs o
  round_behind whole code st hs st1 h1 r same (source.Stopped stop) e = tt
  round_behind whole code st hs st1 h1 r same (source.Fine Onward st2) e = record { behind = e.behind; runs = same ∙ e.runs; reached = reached_then s ok k st hs st1 h1 st2 e.behind r e.reached }
  round_behind whole code st hs st1 h1 r same (source.Fine Continue st2) e = record { behind = e.behind; runs = same ∙ e.runs; reached = reached_then s ok k st hs st1 h1 st2 e.behind r e.reached }
  round_behind whole code st hs st1 h1 r same (source.Fine Break st2) e = record { behind = e.behind; runs = same ∙ e.runs; reached = reached_then s ok k st hs st1 h1 st2 e.behind r e.reached }
  round_behind whole code st hs st1 h1 r same (source.Fine (Return value) st2) e = record {
    world = e.world;
    trace = e.trace;
    runs = same ∙ e.runs;
    meets = e.meets;
    untouched = untouched_then s.layout (s.layout.rank s.function.number) st.objects st1.objects st2.objects r.untouched e.untouched;
    range_is = e.range_is;
  }

  pub went_rounds : (a b : Statements) (st : source.State) (hs : State) (st1 : source.State) (P : State → Type 0) (o : source.Outcome Flow) → Went s a k st hs st1 P → ((h : State) → MeetsIn s st1 h → P h → Rounds s ok result k true b st1 h o) → Rounds s ok result k true (joined a b) st hs o
  went_rounds a b st hs st1 P o w next = round_behind (joined a b) b st hs st1 w.behind w.reached (run_two a b hs (Goes w.behind) w.runs) o (next w.behind w.reached.meets w.has)

  -- a body, and what stands behind it
  pub body_rounds : (body next_code : Statements) (st : source.State) (hs : State) (o : source.Outcome Flow) (next : source.State → source.Outcome Flow) → Rounds s ok result k true body st hs o →
      ((st1 : source.State) (h : State) → MeetsIn s st1 h → Rounds s ok result k true next_code st1 h (next st1)) → Rounds s ok result k true (joined body next_code) st hs (source.then_do o (behind next))
  body_rounds body next_code st hs (source.Stopped stop) next d goes = tt
  body_rounds body next_code st hs (source.Fine Onward st1) next d goes = round_behind (joined body next_code) next_code st hs st1 d.behind d.reached (run_two body next_code hs (Goes d.behind) d.runs) (next st1) (goes st1 d.behind d.reached.meets)
  body_rounds body next_code st hs (source.Fine Continue st1) next d goes = round_behind (joined body next_code) next_code st hs st1 d.behind d.reached (run_two body next_code hs (Goes d.behind) d.runs) (next st1) (goes st1 d.behind d.reached.meets)
  body_rounds body next_code st hs (source.Fine Break st1) next d goes = record { behind = d.behind; runs = run_two body next_code hs (Leaves 0 d.behind) d.runs; reached = d.reached }
  body_rounds body next_code st hs (source.Fine (Return value) st1) next d goes = record { world = d.world; trace = d.trace; runs = run_two body next_code hs (Returns (or_zero value) d.world d.trace) d.runs; meets = d.meets; untouched = d.untouched; range_is = d.range_is }

  -- a body, and nothing behind it
  pub last_rounds : (code : Statements) (st : source.State) (hs : State) (o : source.Outcome Flow) → Rounds s ok result k true code st hs o → Rounds s ok result k true code st hs (source.then_do o (behind (source.Fine Onward)))
  last_rounds code st hs (source.Stopped stop) d = tt
  last_rounds code st hs (source.Fine Onward st1) d = d
  last_rounds code st hs (source.Fine Continue st1) d = d
  last_rounds code st hs (source.Fine Break st1) d = d
  last_rounds code st hs (source.Fine (Return value) st1) d = d

  -- a body without a `continue` of its own
  spliced_rounds : (code : Statements) (st : source.State) (hs : State) (o : source.Outcome Flow) → NoContinue o → Does s result (in_loop false) code k st hs o → Rounds s ok result k true code st hs o
  spliced_rounds code st hs (source.Stopped stop) none d = tt
  spliced_rounds code st hs (source.Fine Onward st1) none d = d
  spliced_rounds code st hs (source.Fine Continue st1) none d = absurd none
  spliced_rounds code st hs (source.Fine Break st1) none d = d
  spliced_rounds code st hs (source.Fine (Return value) st1) none d = d

  -- a body in a block
  block_rounds : (code : Statements) (st : source.State) (hs : State) (o : source.Outcome Flow) → Does s result (in_loop true) code k st hs o → Rounds s ok result k true (in_block code) st hs o
  block_rounds code st hs (source.Stopped stop) d = tt
  block_rounds code st hs (source.Fine Onward st1) d = record { behind = d.behind; runs = run_block s ok k code hs (Goes d.behind) d.runs; reached = d.reached }
  block_rounds code st hs (source.Fine Continue st1) d = record { behind = d.behind; runs = run_block s ok k code hs (Leaves 0 d.behind) d.runs; reached = d.reached }
  block_rounds code st hs (source.Fine Break st1) d = record { behind = d.behind; runs = run_block s ok k code hs (Leaves 1 d.behind) d.runs; reached = d.reached }
  block_rounds code st hs (source.Fine (Return value) st1) d = record { world = d.world; trace = d.trace; runs = run_block s ok k code hs (Returns (or_zero value) d.world d.trace) d.runs; meets = d.meets; untouched = d.untouched; range_is = d.range_is }

  -- a block around one statement
  run_around : (statement : Statement) (hs : State) (o : Outcome) → run_all Some s.high_call s.passed (alone statement) hs ≡ o → run_all Some s.high_call s.passed (alone (Block statement)) hs ≡ out_of_block o
  run_around statement hs o e = run_all-alone Some s.high_call s.passed (Block statement) hs ∙ ap out_of_block (sym (run_all-alone Some s.high_call s.passed statement hs) ∙ e)

  pub around_rounds : (statement : Statement) (st : source.State) (hs : State) (o : source.Outcome Flow) → Does s result (in_loop true) (alone statement) k st hs o → Rounds s ok result k true (alone (Block statement)) st hs o
  around_rounds statement st hs (source.Stopped stop) d = tt
  around_rounds statement st hs (source.Fine Onward st1) d = record { behind = d.behind; runs = run_around statement hs (Goes d.behind) d.runs; reached = d.reached }
  around_rounds statement st hs (source.Fine Continue st1) d = record { behind = d.behind; runs = run_around statement hs (Leaves 0 d.behind) d.runs; reached = d.reached }
  around_rounds statement st hs (source.Fine Break st1) d = record { behind = d.behind; runs = run_around statement hs (Leaves 1 d.behind) d.runs; reached = d.reached }
  around_rounds statement st hs (source.Fine (Return value) st1) d = record { world = d.world; trace = d.trace; runs = run_around statement hs (Returns (or_zero value) d.world d.trace) d.runs; meets = d.meets; untouched = d.untouched; range_is = d.range_is }

module _ (s : Setting) (ok : IsSetting s) (result : Kind) (rest : Rest) where
  -- a statement as the body of a loop
  pub record Turns (body : tree.Statement) : Type 0 where
    pub by : (k : ℕ) → s.function.variables ≤ k → (st : source.State) (hs : State) → MeetsIn s st hs → AllWithin s.room (round_of body (planned (plan_in s rest) body k)) →
        Rounds s ok result k true (round_of body (planned (plan_in s rest) body k)) st hs (run (source_in s rest) s.call body st)

  -- by the code among blocks, and by the code whose last statement is in a block
  pub turns_by : (body : tree.Statement) → Follows s result rest body →
      (ends_in_block body ≡ true → (k : ℕ) → s.function.variables ≤ k → (st : source.State) (hs : State) → MeetsIn s st hs → AllWithin s.room (planned (plan_in s rest) body k (in_loop true)) →
      Rounds s ok result k true (last_in_block (planned (plan_in s rest) body k (in_loop true))) st hs (run (source_in s rest) s.call body st)) →
      Turns body
  turns_by body follows last = record { by = λ k le st hs m within. of k le st hs m (continues body) refl (ends_in_block body) refl within }
    where
      of : (k : ℕ) → s.function.variables ≤ k → (st : source.State) (hs : State) → MeetsIn s st hs → (again : Bool) → continues body ≡ again → (ends : Bool) → ends_in_block body ≡ ends → AllWithin s.room (rounded again ends (planned (plan_in s rest) body k (in_loop again))) →
          Rounds s ok result k true (rounded again ends (planned (plan_in s rest) body k (in_loop again))) st hs (run (source_in s rest) s.call body st)
      of k le st hs m false is ends ends_is within =
          spliced_rounds s ok result k (planned (plan_in s rest) body k (in_loop false)) st hs (run (source_in s rest) s.call body st) (never_continues (source_in s rest) s.call body is st) (follows.by k (in_loop false) le st hs m within)
      of k le st hs m true is false ends_is within =
          block_rounds s ok result k (planned (plan_in s rest) body k (in_loop true)) st hs (run (source_in s rest) s.call body st) (follows.by k (in_loop true) le st hs m within.0)
      of k le st hs m true is true ends_is within = last ends_is k le st hs m (within_last s.room (planned (plan_in s rest) body k (in_loop true)) within)

  -- a body that is all in one block, or ends in none
  pub turns_plain : (body : tree.Statement) → ends_in_block body ≡ false → Follows s result rest body → Turns body
  turns_plain body none follows = turns_by body follows (λ e. absurd (true≢false (sym e ∙ none)))
