-- One statement after another, and statements in blocks.
use Rattle.std.proofs.Common.{◌≡◌, ℕ, suc, ◌≤◌, Some, refl, ap, ◌∙◌}
use Rattle.meaning_semantics.specs.State as source
use Rattle.meaning_semantics.specs.Runs.{or_zero}
use Rattle.meaning_semantics.specs.Statements.{if_onward}
use Rattle.meaning_semantics.specs.declared.outcome.Flow.{Flow}
use Rattle.meaning_semantics.specs.declared.outcome.Flow.TheVariants.{Onward, Break, Continue, Return}
use Rattle.high_ir.specs.declared.object.Kind.{Kind}
use Rattle.high_ir.specs.Tree.{Statements, End}
use Rattle.high_ir.specs.Meaning.{State, Outcome, Goes, Leaves, Returns, then_do, run_all}
use Rattle.high_code.specs.Code.{joined}
use Rattle.high_code.proofs.Joined.{run_all-joined}
use Rattle.plan_definition.specs.Statements.{Exits, deeper}
use Rattle.plan_definition.specs.Values.{in_block}
use Rattle.plan_runs.specs.Claims.{Setting, IsSetting, MeetsIn, Reached, Went}
use Rattle.plan_runs.proofs.Holding.{reached_below, reached_same, reached_then, untouched_then}
use Rattle.plan_runs.proofs.Jumps.{run_block}
use Rattle.plan_runs.specs.Flows.{Comes, GoesBy, Does}

module _ (s : Setting) (ok : IsSetting s) (result : Kind) (exits : Exits) (k : ℕ) where
  run_two : (a b : Statements) (hs : State) (o : Outcome) → run_all Some s.high_call s.passed a hs ≡ o → run_all Some s.high_call s.passed (joined a b) hs ≡ then_do o (run_all Some s.high_call s.passed b)
  run_two a b hs o e = run_all-joined Some s.high_call s.passed a b hs ∙ ap (λ o. then_do o (run_all Some s.high_call s.passed b)) e

  -- code that goes on where other code has come to, which ran before it
  module _ (whole code : Statements) (st : source.State) (hs : State) (st1 : source.State) (h1 : State) (r : Reached s k st hs st1 h1) (runs : run_all Some s.high_call s.passed whole hs ≡ run_all Some s.high_call s.passed code h1) where
    comes_behind : (st2 : source.State) (way : State → Outcome) → Comes s result code k st1 h1 st2 way → Comes s result whole k st hs st2 way
    comes_behind st2 way c = record { behind = c.behind; runs = runs ∙ c.runs; reached = reached_then s ok k st hs st1 h1 st2 c.behind r c.reached }

    flow_behind : (flow : Flow) (st2 : source.State) → GoesBy s result exits code k st1 h1 flow st2 → GoesBy s result exits whole k st hs flow st2
    flow_behind Onward st2 g = comes_behind st2 Goes g
    flow_behind Break st2 g = comes_behind st2 (Leaves exits.out) g
    flow_behind Continue st2 g = comes_behind st2 (Leaves exits.next) g
    flow_behind (Return value) st2 g = record {
      world = g.world;
      trace = g.trace;
      runs = runs ∙ g.runs;
      meets = g.meets;
      untouched = untouched_then s.layout (s.layout.rank s.function.number) st.objects st1.objects st2.objects r.untouched g.untouched;
      range_is = g.range_is;
    }

    pub does_behind : (o : source.Outcome Flow) → Does s result exits code k st1 h1 o → Does s result exits whole k st hs o
    does_behind (source.Stopped stop) d = tt
    does_behind (source.Fine flow st2) d = flow_behind flow st2 d

  -- code for a value, and then a statement
  pub went_does : (a b : Statements) (st : source.State) (hs : State) (st1 : source.State) (P : State → Type 0) (o : source.Outcome Flow) → Went s a k st hs st1 P → ((h : State) → MeetsIn s st1 h → P h → Does s result exits b k st1 h o) → Does s result exits (joined a b) k st hs o
  went_does a b st hs st1 P o w next =
      does_behind (joined a b) b st hs st1 w.behind w.reached (run_two a b hs (Goes w.behind) w.runs) o (next w.behind w.reached.meets w.has)

  -- one statement, and then another where it goes on
  pub joined_does : (a b : Statements) (st : source.State) (hs : State) (o : source.Outcome Flow) (go : source.State → source.Outcome Flow) → Does s result exits a k st hs o → ((st1 : source.State) (h : State) → Reached s k st hs st1 h → Does s result exits b k st1 h (go st1)) →
      Does s result exits (joined a b) k st hs (source.then_do o (if_onward go))
  joined_does a b st hs (source.Stopped stop) go d next = tt
  joined_does a b st hs (source.Fine Onward st1) go d next = does_behind (joined a b) b st hs st1 d.behind d.reached (run_two a b hs (Goes d.behind) d.runs) (go st1) (next st1 d.behind d.reached)
  joined_does a b st hs (source.Fine Break st1) go d next = record { behind = d.behind; runs = run_two a b hs (Leaves exits.out d.behind) d.runs; reached = d.reached }
  joined_does a b st hs (source.Fine Continue st1) go d next = record { behind = d.behind; runs = run_two a b hs (Leaves exits.next d.behind) d.runs; reached = d.reached }
  joined_does a b st hs (source.Fine (Return value) st1) go d next = record { world = d.world; trace = d.trace; runs = run_two a b hs (Returns (or_zero value) d.world d.trace) d.runs; meets = d.meets; untouched = d.untouched; range_is = d.range_is }

  pub nothing_does : (st : source.State) (hs : State) → MeetsIn s st hs → Does s result exits End k st hs (source.Fine Onward st)
  nothing_does st hs m = record { behind = hs; runs = refl; reached = reached_same s ok k st hs m }

  -- a value that is dropped
  pub effect_does : (code : Statements) (st : source.State) (hs : State) (st1 : source.State) (P : State → Type 0) → Went s code k st hs st1 P → Does s result exits code k st hs (source.Fine Onward st1)
  effect_does code st hs st1 P w = record { behind = w.behind; runs = w.runs; reached = w.reached }

  -- a block around code that leaves one block more
  pub block_does : (code : Statements) (st : source.State) (hs : State) (o : source.Outcome Flow) → Does s result (deeper exits) code k st hs o → Does s result exits (in_block code) k st hs o
  block_does code st hs (source.Stopped stop) d = tt
  block_does code st hs (source.Fine Onward st1) d = record { behind = d.behind; runs = run_block s ok k code hs (Goes d.behind) d.runs; reached = d.reached }
  block_does code st hs (source.Fine Break st1) d = record { behind = d.behind; runs = run_block s ok k code hs (Leaves (suc exits.out) d.behind) d.runs; reached = d.reached }
  block_does code st hs (source.Fine Continue st1) d = record { behind = d.behind; runs = run_block s ok k code hs (Leaves (suc exits.next) d.behind) d.runs; reached = d.reached }
  block_does code st hs (source.Fine (Return value) st1) d = record { world = d.world; trace = d.trace; runs = run_block s ok k code hs (Returns (or_zero value) d.world d.trace) d.runs; meets = d.meets; untouched = d.untouched; range_is = d.range_is }

-- what keeps more temporaries keeps fewer
module _ (s : Setting) (ok : IsSetting s) (result : Kind) (exits : Exits) (j k : ℕ) (le : j ≤ k) (code : Statements) (st : source.State) (hs : State) where
  comes_below : (st1 : source.State) (way : State → Outcome) → Comes s result code k st hs st1 way → Comes s result code j st hs st1 way
  comes_below st1 way c = record { behind = c.behind; runs = c.runs; reached = reached_below s ok j k st hs st1 c.behind le c.reached }

  flow_below : (flow : Flow) (st1 : source.State) → GoesBy s result exits code k st hs flow st1 → GoesBy s result exits code j st hs flow st1
  flow_below Onward st1 g = comes_below st1 Goes g
  flow_below Break st1 g = comes_below st1 (Leaves exits.out) g
  flow_below Continue st1 g = comes_below st1 (Leaves exits.next) g
  flow_below (Return value) st1 g = g

  pub does_below : (o : source.Outcome Flow) → Does s result exits code k st hs o → Does s result exits code j st hs o
  does_below (source.Stopped stop) d = tt
  does_below (source.Fine flow st1) d = flow_below flow st1 d
