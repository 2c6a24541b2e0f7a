-- Code for a value serves each purpose.
use Rattle.std.proofs.Common.{◌≡◌, ℕ, Some, ap, ◌∙◌}
use Rattle.meaning_semantics.specs.State as source
use Rattle.high_ir.specs.declared.object.Kind.{Kind}
use Rattle.high_ir.specs.Tree.{Statement, If, Leave}
use Rattle.high_ir.specs.Meaning.{State, with_value, choose, then_do, run, run_all}
use Rattle.high_ir.specs.Words.{converted}
use Rattle.high_code.specs.Code.{joined, alone, nothing, AllWithin}
use Rattle.high_code.proofs.Joined.{run_all-joined, run_all-alone, AllWithin-joined}
use Rattle.plan_definition.specs.declared.purpose.Purpose.{Purpose}
use Rattle.plan_definition.specs.declared.purpose.Purpose.TheVariants.{Value, Effect, Unless, When}
use Rattle.plan_definition.specs.Values.{Valued, finished, plain}
use Rattle.plan_runs.specs.Claims.{Setting, Went, HasValue, Ends, Gives}

pub within_finished : (room : ℕ) (purpose : Purpose) (p : Valued) → AllWithin room (finished purpose p).code → AllWithin room p.code
within_finished room Value p h = h
within_finished room Effect p h = h
within_finished room (Unless depth) p h = (AllWithin-joined room p.code (alone (If p.value nothing (Leave depth))) h).0
within_finished room (When depth) p h = (AllWithin-joined room p.code (alone (If p.value (Leave depth) nothing)) h).0

module _ (s : Setting) (k : ℕ) (st : source.State) (hs : State) (range : Kind) where
  -- a value that went well
  pub ended : (p : Valued) (v : ℕ) (st1 : source.State) → Went s p.code k st hs st1 (HasValue s p.value v) → converted range v ≡ v → Ends s Value p k st hs range v st1
  ended p v st1 w is = record { behind = w.behind; runs = w.runs; reached = w.reached; value = w.has; range_is = is }

  pub went : (p : Valued) (v : ℕ) (st1 : source.State) → Ends s Value p k st hs range v st1 → Went s p.code k st hs st1 (HasValue s p.value v)
  went p v st1 e = record { behind = e.behind; runs = e.runs; reached = e.reached; has = e.value }

  pub went_Effect : (p : Valued) (v : ℕ) (st1 : source.State) → Ends s Effect p k st hs range v st1 → Went s p.code k st hs st1 (λ h. Unit {0})
  went_Effect p v st1 e = record { behind = e.behind; runs = e.runs; reached = e.reached; has = tt }

  pub ended_Effect : (p : Valued) (v : ℕ) (st1 : source.State) (P : State → Type 0) → Went s p.code k st hs st1 P → converted range v ≡ v → Ends s Effect p k st hs range v st1
  ended_Effect p v st1 P w is = record { behind = w.behind; runs = w.runs; reached = w.reached; value = tt; range_is = is }

  -- what has a value has an effect
  pub ends_plain : (purpose : Purpose) (p : Valued) (v : ℕ) (st1 : source.State) → Ends s Value p k st hs range v st1 → Ends s (plain purpose) p k st hs range v st1
  ends_plain Value p v st1 e = e
  ends_plain Effect p v st1 e = record { behind = e.behind; runs = e.runs; reached = e.reached; value = tt; range_is = e.range_is }
  ends_plain (Unless depth) p v st1 e = e
  ends_plain (When depth) p v st1 e = e

  -- a jump by a value
  jumps : (p : Valued) (first other : Statement) (v : ℕ) (st1 : source.State) (e : Ends s Value p k st hs range v st1) →
      run_all Some s.high_call s.passed (joined p.code (alone (If p.value first other))) hs ≡ choose v (run Some s.high_call s.passed first e.behind) (run Some s.high_call s.passed other e.behind)
  jumps p first other v st1 e =
      run_all-joined Some s.high_call s.passed p.code (alone (If p.value first other)) hs
      ∙ ap (λ o. then_do o (run_all Some s.high_call s.passed (alone (If p.value first other)))) e.runs
      ∙ run_all-alone Some s.high_call s.passed (If p.value first other) e.behind
      ∙ ap (λ o. with_value o (λ u. choose u (run Some s.high_call s.passed first e.behind) (run Some s.high_call s.passed other e.behind))) e.value

  pub finished_ends : (purpose : Purpose) (p : Valued) (v : ℕ) (st1 : source.State) → Ends s (plain purpose) p k st hs range v st1 → Ends s purpose (finished purpose p) k st hs range v st1
  finished_ends Value p v st1 e = e
  finished_ends Effect p v st1 e = e
  finished_ends (Unless depth) p v st1 e = record { behind = e.behind; runs = jumps p nothing (Leave depth) v st1 e; reached = e.reached; value = tt; range_is = e.range_is }
  finished_ends (When depth) p v st1 e = record { behind = e.behind; runs = jumps p (Leave depth) nothing v st1 e; reached = e.reached; value = tt; range_is = e.range_is }

  pub finished_gives : (purpose : Purpose) (p : Valued) (o : source.Outcome ℕ) → Gives s (plain purpose) p k st hs range o → Gives s purpose (finished purpose p) k st hs range o
  finished_gives purpose p (source.Stopped stop) g = tt
  finished_gives purpose p (source.Fine v st1) g = finished_ends purpose p v st1 g

  -- the same, of code that has the value for each purpose
  pub value_gives : (purpose : Purpose) (p : Valued) (v : ℕ) (st1 : source.State) → Went s p.code k st hs st1 (HasValue s p.value v) → converted range v ≡ v → Ends s purpose (finished purpose p) k st hs range v st1
  value_gives purpose p v st1 w is = finished_ends purpose p v st1 (ends_plain purpose p v st1 (ended p v st1 w is))
