-- How the code of statements ends, wherever they end well.
use Rattle.std.specs.Prelude.{◌≡◌, ℕ, ◌≤◌, Bool, List, length, Option, Some}
use Rattle.facts_definitions.specs.declared.facts.Bounds.{Bounds}
use Rattle.meaning_semantics.specs.State as source
use Rattle.meaning_semantics.specs.Runs.{or_zero}
use Rattle.meaning_semantics.specs.Statements.{Source, run, run_items}
use Rattle.meaning_semantics.specs.declared.outcome.Flow.{Flow}
use Rattle.meaning_semantics.specs.declared.outcome.Flow.TheVariants.{Onward, Break, Continue, Return}
use Rattle.types_tree.specs.Tree as c
use Rattle.high_ir.specs.declared.object.Kind.{Kind}
use Rattle.high_ir.specs.Tree as high
use Rattle.high_ir.specs.Meaning.{World, State, Outcome, Goes, Leaves, Returns, run_all}
use Rattle.high_ir.specs.Words.{converted}
use Rattle.high_code.specs.Code.{AllWithin}
use Rattle.plan_definition.specs.Statements.{Plan, Exits, planned, all_planned}
use Rattle.plan_runs.specs.StatementFits.{with_live}
use Rattle.plan_runs.specs.Claims.{Setting, MeetsIn, Reached}
use Rattle.plan_runs.specs.Meets.{MeetsWorld, Untouched}

-- what a source has beside its objects
pub record Rest : Type 0 where
  pub items : List c.External
  pub functions : List c.Function
  pub at : ℕ
  pub bounds : List Bounds

abbrev pub source_in : Setting → Rest → Source
source_in s rest = record { program = record { items = rest.items; functions = rest.functions; variables = s.layout.variables; at = rest.at }; bounds = rest.bounds }

abbrev pub plan_in : Setting → Rest → Plan
plan_in s rest = record { homes = s.layout.homes; bounds = rest.bounds; functions = length rest.functions }

-- the same run of the function, at a place where more of its objects live
abbrev pub in_scope : Setting → (ℕ → Bool) → Setting
in_scope s more = record { layout = s.layout; signatures = s.signatures; function = with_live s.function more; passed = s.passed; room = s.room; call = s.call; high_call = s.high_call }

-- `result` is the kind of what the function gives
module _ (s : Setting) (result : Kind) where
  -- code that ends within its function
  pub record Comes (code : high.Statements) (k : ℕ) (st : source.State) (hs : State) (st1 : source.State) (way : State → Outcome) : Type 0 where
    pub behind : State
    pub runs : run_all Some s.high_call s.passed code hs ≡ way behind
    pub reached : Reached s k st hs st1 behind

  -- code that ends its function
  pub record GivesUp (code : high.Statements) (st : source.State) (hs : State) (value : Option ℕ) (st1 : source.State) : Type 0 where
    pub world : World
    pub trace : List ℕ
    pub runs : run_all Some s.high_call s.passed code hs ≡ Returns (or_zero value) world trace
    pub meets : MeetsWorld s.layout st1 world trace
    pub untouched : Untouched s.layout (s.layout.rank s.function.number) st.objects st1.objects
    pub range_is : converted result (or_zero value) ≡ or_zero value

  abbrev pub GoesBy : Exits → high.Statements → (k : ℕ) → source.State → State → Flow → source.State → Type 0
  GoesBy exits code k st hs Onward st1 = Comes code k st hs st1 Goes
  GoesBy exits code k st hs Break st1 = Comes code k st hs st1 (Leaves exits.out)
  GoesBy exits code k st hs Continue st1 = Comes code k st hs st1 (Leaves exits.next)
  GoesBy exits code k st hs (Return value) st1 = GivesUp code st hs value st1

  abbrev pub Does : Exits → high.Statements → (k : ℕ) → source.State → State → source.Outcome Flow → Type 0
  Does exits code k st hs (source.Stopped stop) = Unit {0}
  Does exits code k st hs (source.Fine flow st1) = GoesBy exits code k st hs flow st1

  -- a statement, with the temporaries from k on, among blocks
  pub record Follows (rest : Rest) (statement : c.Statement) : Type 0 where
    pub by : (k : ℕ) (exits : Exits) → s.function.variables ≤ k → (st : source.State) (hs : State) → MeetsIn s st hs → AllWithin s.room (planned (plan_in s rest) statement k exits) →
        Does exits (planned (plan_in s rest) statement k exits) k st hs (run (source_in s rest) s.call statement st)

  pub record FollowsAll (rest : Rest) (items : c.Items) : Type 0 where
    pub by : (k : ℕ) (exits : Exits) → s.function.variables ≤ k → (st : source.State) (hs : State) → MeetsIn s st hs → AllWithin s.room (all_planned (plan_in s rest) items k exits) →
        Does exits (all_planned (plan_in s rest) items k exits) k st hs (run_items (source_in s rest) s.call items st)
