-- `if` and `else`: the code goes the way of the test.
use Rattle.std.proofs.Common.{◌≡◌, ℕ, zero, suc, Bool, true, false, Some, refl, ap, ◌∙◌}
use Rattle.std.proofs.lemmas.Bool.{false≢true, true≢false}
use Rattle.meaning_semantics.specs.Runs.{or_zero}
use Rattle.meaning_semantics.specs.State as source
use Rattle.meaning_semantics.specs.declared.outcome.Flow.{Flow}
use Rattle.meaning_semantics.specs.declared.outcome.Flow.TheVariants.{Onward, Break, Continue, Return}
use Rattle.high_ir.specs.declared.object.Kind.{Kind}
use Rattle.high_ir.specs.Tree.{Seq, If, Block, Leave, Statements, End, Then}
use Rattle.high_ir.specs.Meaning.{State, Outcome, Goes, Leaves, Returns, with_value, choose, then_do, out_of_block, run_all}
use Rattle.high_code.specs.Code.{joined, alone, AllWithin}
use Rattle.high_code.proofs.Joined.{run_all-joined, run_all-alone, AllWithin-joined}
use Rattle.plan_definition.specs.declared.purpose.Purpose.TheVariants.{Value, Unless}
use Rattle.plan_definition.specs.Statements.{Exits, deeper, chosen_if, chosen_else}
use Rattle.plan_definition.specs.Values.{Valued, chosen, chosen_by_jumps, in_block}
use Rattle.plan_runs.specs.Claims.{Setting, IsSetting, MeetsIn, Reached, Ends, Gives}
use Rattle.plan_runs.proofs.Holding.{reached_then, untouched_then}
use Rattle.plan_runs.proofs.Jumps.{run_block}
use Rattle.plan_runs.specs.Flows.{Comes, GoesBy, Does}
use Rattle.plan_runs.proofs.Sequences.{does_behind, nothing_does, block_does}

-- what the code of a choice assigns
pub within_if : (room : ℕ) (joint : Bool) (test : Valued) (jumps first inner : Statements) → AllWithin room (chosen_if joint test jumps first inner) →
    (joint ≡ false → AllWithin room test.code × AllWithin room first) × (joint ≡ true → AllWithin room jumps × AllWithin room inner)
within_if room false test jumps first inner h =
    let parts = AllWithin-joined room test.code (alone (If test.value (Seq first) (Seq End))) h in
    (λ e. (parts.0, parts.1.0.0), λ e. absurd (false≢true e))
within_if room true test jumps first inner h = (λ e. absurd (true≢false e), λ e. AllWithin-joined room jumps inner h.0)

pub within_else : (room : ℕ) (joint : Bool) (test : Valued) (jumps first other first_inner other_inner : Statements) → AllWithin room (chosen_else joint test jumps first other first_inner other_inner) →
    (joint ≡ false → AllWithin room test.code × AllWithin room first × AllWithin room other) × (joint ≡ true → AllWithin room jumps × AllWithin room first_inner × AllWithin room other_inner)
within_else room false test jumps first other first_inner other_inner h =
    let parts = AllWithin-joined room test.code (alone (If test.value (Seq first) (Seq other))) h in
    (λ e. (parts.0, parts.1.0.0, parts.1.0.1), λ e. absurd (false≢true e))
within_else room true test jumps first other first_inner other_inner h =
    let inner = AllWithin-joined room jumps (joined first_inner (alone (Leave 1))) h.0.0 in
    let ways = AllWithin-joined room first_inner (alone (Leave 1)) inner.1 in
    (λ e. absurd (true≢false e), λ e. (inner.0, ways.0, h.0.1))

module _ (s : Setting) (ok : IsSetting s) (result : Kind) (exits : Exits) (k : ℕ) (st : source.State) (hs : State) where
  -- the two ways of the source
  abbrev pub ways : source.Outcome ℕ → (go go_other : source.State → source.Outcome Flow) → source.Outcome Flow
  ways o go go_other = source.then_do o (λ x st1. source.choose x (go st1) (go_other st1))

  test_runs : (test : Valued) (range : Kind) (first other : Statements) (x : ℕ) (st1 : source.State) (e : Ends s Value test k st hs range x st1) →
      run_all Some s.high_call s.passed (chosen test first other) hs ≡ choose x (run_all Some s.high_call s.passed first e.behind) (run_all Some s.high_call s.passed other e.behind)
  test_runs test range first other x st1 e =
      run_all-joined Some s.high_call s.passed test.code (alone (If test.value (Seq first) (Seq other))) hs
      ∙ ap (λ o. then_do o (run_all Some s.high_call s.passed (alone (If test.value (Seq first) (Seq other))))) e.runs
      ∙ run_all-alone Some s.high_call s.passed (If test.value (Seq first) (Seq other)) e.behind
      ∙ ap (λ o. with_value o (λ u. choose u (run_all Some s.high_call s.passed first e.behind) (run_all Some s.high_call s.passed other e.behind))) e.value

  chosen_does : (test : Valued) (range : Kind) (first other : Statements) (o : source.Outcome ℕ) (go go_other : source.State → source.Outcome Flow) → Gives s Value test k st hs range o →
      ((st1 : source.State) (h : State) → MeetsIn s st1 h → Does s result exits first k st1 h (go st1)) → ((st1 : source.State) (h : State) → MeetsIn s st1 h → Does s result exits other k st1 h (go_other st1)) → Does s result exits (chosen test first other) k st hs (ways o go go_other)
  chosen_does test range first other (source.Stopped stop) go go_other e firsts others = tt
  chosen_does test range first other (source.Fine zero st1) go go_other e firsts others =
      does_behind s ok result exits k (chosen test first other) other st hs st1 e.behind e.reached (test_runs test range first other 0 st1 e) (go_other st1) (others st1 e.behind e.reached.meets)
  chosen_does test range first other (source.Fine (suc n) st1) go go_other e firsts others =
      does_behind s ok result exits k (chosen test first other) first st hs st1 e.behind e.reached (test_runs test range first other (suc n) st1 e) (go st1) (firsts st1 e.behind e.reached.meets)

  run_two : (a b : Statements) (h : State) (o : Outcome) → run_all Some s.high_call s.passed a h ≡ o → run_all Some s.high_call s.passed (joined a b) h ≡ then_do o (run_all Some s.high_call s.passed b)
  run_two a b h o e = run_all-joined Some s.high_call s.passed a b h ∙ ap (λ o. then_do o (run_all Some s.high_call s.passed b)) e

  -- where jumps leave the block around the first way
  if_by_jumps : (jumps : Valued) (range : Kind) (within : Statements) (o : source.Outcome ℕ) (go : source.State → source.Outcome Flow) → Gives s (Unless 0) jumps k st hs range o →
      ((st1 : source.State) (h : State) → MeetsIn s st1 h → Does s result (deeper exits) within k st1 h (go st1)) → Does s result exits (in_block (joined jumps.code within)) k st hs (ways o go (λ st1. source.Fine Onward st1))
  if_by_jumps jumps range within (source.Stopped stop) go e firsts = tt
  if_by_jumps jumps range within (source.Fine zero st1) go e firsts =
      record { behind = e.behind; runs = run_block s ok k (joined jumps.code within) hs (Leaves 0 e.behind) (run_two jumps.code within hs (Leaves 0 e.behind) e.runs); reached = e.reached }
  if_by_jumps jumps range within (source.Fine (suc n) st1) go e firsts =
      block_does s ok result exits k (joined jumps.code within) st hs (go st1)
      (does_behind s ok result (deeper exits) k (joined jumps.code within) within st hs st1 e.behind e.reached (run_two jumps.code within hs (Goes e.behind) e.runs) (go st1) (firsts st1 e.behind e.reached.meets))

  pub if_does : (joint : Bool) (test jumps : Valued) (range : Kind) (first within : Statements) (o : source.Outcome ℕ) (go : source.State → source.Outcome Flow) → (joint ≡ false → Gives s Value test k st hs range o) → (joint ≡ true → Gives s (Unless 0) jumps k st hs range o) →
      (joint ≡ false → (st1 : source.State) (h : State) → MeetsIn s st1 h → Does s result exits first k st1 h (go st1)) → (joint ≡ true → (st1 : source.State) (h : State) → MeetsIn s st1 h → Does s result (deeper exits) within k st1 h (go st1)) →
      Does s result exits (chosen_if joint test jumps.code first within) k st hs (ways o go (λ st1. source.Fine Onward st1))
  if_does false test jumps range first within o go by_value by_jumps firsts withins =
      chosen_does test range first End o go (λ st1. source.Fine Onward st1) (by_value refl) (firsts refl) (λ st1 h m. nothing_does s ok result exits k st1 h m)
  if_does true test jumps range first within o go by_value by_jumps firsts withins = if_by_jumps jumps range within o go (by_jumps refl) (withins refl)

  jumps_run : (jumps first other : Statements) (o o1 : Outcome) → run_all Some s.high_call s.passed jumps hs ≡ o → then_do o (run_all Some s.high_call s.passed (joined first (alone (Leave 1)))) ≡ o1 →
      run_all Some s.high_call s.passed (Then (Block (Seq (joined jumps (joined first (alone (Leave 1)))))) other) hs ≡ then_do (out_of_block o1) (run_all Some s.high_call s.passed other)
  jumps_run jumps first other o o1 e then_is =
      ap (λ o. then_do (out_of_block o) (run_all Some s.high_call s.passed other))
      (run_all-joined Some s.high_call s.passed jumps (joined first (alone (Leave 1))) hs ∙ ap (λ o. then_do o (run_all Some s.high_call s.passed (joined first (alone (Leave 1))))) e ∙ then_is)

  -- the first way, which leaves both blocks
  first_does : (jumps first other : Statements) (st1 : source.State) (h : State) (o : source.Outcome Flow) → Reached s k st hs st1 h → run_all Some s.high_call s.passed jumps hs ≡ Goes h → Does s result (deeper (deeper exits)) first k st1 h o →
      Does s result exits (chosen_by_jumps jumps first other) k st hs o
  first_does jumps first other st1 h (source.Stopped stop) r e d = tt
  first_does jumps first other st1 h (source.Fine flow st2) r e d = of flow d
    where
      whole : (o1 : Outcome) → run_all Some s.high_call s.passed first h ≡ o1 → run_all Some s.high_call s.passed (chosen_by_jumps jumps first other) hs ≡ out_of_block (then_do (out_of_block (then_do o1 (run_all Some s.high_call s.passed (alone (Leave 1))))) (run_all Some s.high_call s.passed other))
      whole o1 is = run_block s ok k (Then (Block (Seq (joined jumps (joined first (alone (Leave 1)))))) other) hs (then_do (out_of_block (then_do o1 (run_all Some s.high_call s.passed (alone (Leave 1))))) (run_all Some s.high_call s.passed other))
          (jumps_run jumps first other (Goes h) (then_do o1 (run_all Some s.high_call s.passed (alone (Leave 1)))) e (run_two first (alone (Leave 1)) h o1 is))

      inner : (st2 : source.State) (way outer : State → Outcome) (c : Comes s result first k st1 h st2 way) → out_of_block (then_do (out_of_block (then_do (way c.behind) (run_all Some s.high_call s.passed (alone (Leave 1))))) (run_all Some s.high_call s.passed other)) ≡ outer c.behind →
          Comes s result (chosen_by_jumps jumps first other) k st hs st2 outer
      inner st2 way outer c is = record { behind = c.behind; runs = whole (way c.behind) c.runs ∙ is; reached = reached_then s ok k st hs st1 h st2 c.behind r c.reached }

      of : (flow : Flow) → GoesBy s result (deeper (deeper exits)) first k st1 h flow st2 → GoesBy s result exits (chosen_by_jumps jumps first other) k st hs flow st2
      of Onward c = inner st2 Goes Goes c refl
      of Break c = inner st2 (Leaves (suc (suc exits.out))) (Leaves exits.out) c refl
      of Continue c = inner st2 (Leaves (suc (suc exits.next))) (Leaves exits.next) c refl
      of (Return value) g = record {
        world = g.world;
        trace = g.trace;
        runs = whole (Returns (or_zero value) g.world g.trace) g.runs;
        meets = g.meets;
        untouched = untouched_then s.layout (s.layout.rank s.function.number) st.objects st1.objects st2.objects r.untouched g.untouched;
        range_is = g.range_is;
      }

  else_by_jumps : (jumps : Valued) (range : Kind) (first other : Statements) (o : source.Outcome ℕ) (go go_other : source.State → source.Outcome Flow) → Gives s (Unless 0) jumps k st hs range o →
      ((st1 : source.State) (h : State) → MeetsIn s st1 h → Does s result (deeper (deeper exits)) first k st1 h (go st1)) → ((st1 : source.State) (h : State) → MeetsIn s st1 h → Does s result (deeper exits) other k st1 h (go_other st1)) →
      Does s result exits (chosen_by_jumps jumps.code first other) k st hs (ways o go go_other)
  else_by_jumps jumps range first other (source.Stopped stop) go go_other e firsts others = tt
  else_by_jumps jumps range first other (source.Fine zero st1) go go_other e firsts others =
      block_does s ok result exits k (Then (Block (Seq (joined jumps.code (joined first (alone (Leave 1)))))) other) st hs (go_other st1)
      (does_behind s ok result (deeper exits) k (Then (Block (Seq (joined jumps.code (joined first (alone (Leave 1)))))) other) other st hs st1 e.behind e.reached
      (jumps_run jumps.code first other (Leaves 0 e.behind) (Leaves 0 e.behind) e.runs refl) (go_other st1) (others st1 e.behind e.reached.meets))
  else_by_jumps jumps range first other (source.Fine (suc n) st1) go go_other e firsts others = first_does jumps.code first other st1 e.behind (go st1) e.reached e.runs (firsts st1 e.behind e.reached.meets)

  pub else_does : (joint : Bool) (test jumps : Valued) (range : Kind) (first other first_within other_within : Statements) (o : source.Outcome ℕ) (go go_other : source.State → source.Outcome Flow) →
      (joint ≡ false → Gives s Value test k st hs range o) → (joint ≡ true → Gives s (Unless 0) jumps k st hs range o) →
      (joint ≡ false → (st1 : source.State) (h : State) → MeetsIn s st1 h → Does s result exits first k st1 h (go st1)) → (joint ≡ false → (st1 : source.State) (h : State) → MeetsIn s st1 h → Does s result exits other k st1 h (go_other st1)) →
      (joint ≡ true → (st1 : source.State) (h : State) → MeetsIn s st1 h → Does s result (deeper (deeper exits)) first_within k st1 h (go st1)) → (joint ≡ true → (st1 : source.State) (h : State) → MeetsIn s st1 h → Does s result (deeper exits) other_within k st1 h (go_other st1)) →
      Does s result exits (chosen_else joint test jumps.code first other first_within other_within) k st hs (ways o go go_other)
  else_does false test jumps range first other first_within other_within o go go_other by_value by_jumps firsts others withins others_within = chosen_does test range first other o go go_other (by_value refl) (firsts refl) (others refl)
  else_does true test jumps range first other first_within other_within o go go_other by_value by_jumps firsts others withins others_within = else_by_jumps jumps range first_within other_within o go go_other (by_jumps refl) (withins refl) (others_within refl)
