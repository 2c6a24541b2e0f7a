-- Loops: the starts of the high loop are those of the source's, and the last test is one more.
use Rattle.std.proofs.Common.{◌≡◌, ◌⊎◌, inl, inr, ⊎_elim, ℕ, zero, suc, ◌+◌, ◌-◌, ◌≤◌, Bool, true, false, List, Option, Some, refl, sym, ap, ◌∙◌, subst, arith}
use Rattle.meaning_semantics.specs.Runs.{or_zero}
use Rattle.meaning_semantics.specs.State as source
use Rattle.meaning_semantics.specs.Statements as statements
use Rattle.meaning_semantics.specs.Statements.{Loop}
use Rattle.meaning_semantics.specs.declared.outcome.Stop.TheVariants.{Broken}
use Rattle.meaning_semantics.specs.declared.outcome.Flow.{Flow}
use Rattle.meaning_semantics.specs.declared.outcome.Flow.TheVariants.{Onward, Break, Continue, Return}
use Rattle.high_ir.specs.declared.object.Kind.{Kind}
use Rattle.high_ir.specs.Tree.{Statements}
use Rattle.high_ir.specs.Meaning.{World, State, Outcome, Goes, Leaves, Returns, then_do, if_met, again, turns, run_all}
use Rattle.high_ir.specs.Words.{converted}
use Rattle.high_code.specs.Code.{joined}
use Rattle.high_code.proofs.Joined.{run_all-joined}
use Rattle.plan_runs.specs.Claims.{Setting, IsSetting, MeetsIn, Reached}
use Rattle.plan_runs.specs.Meets.{MeetsWorld, Untouched}
use Rattle.plan_runs.proofs.Holding.{reached_then, untouched_then}
use Rattle.plan_runs.specs.Flows.{Comes, GivesUp}

-- what is owed on both sides: where the body may leave the loop, and where only the test does
abbrev pub Owes : (breaks : Bool) → (owed high : ℕ) → Type 0
Owes true owed high = (high ≤ 1) ⊎ (high ≤ owed)
Owes false owed high = high ≤ owed + 1

owes_less : (breaks : Bool) (owed high : ℕ) → Owes breaks owed high → Owes breaks (owed - 1) (high - 1)
owes_less true owed high h = ⊎_elim (λ (a : high ≤ 1). inl (omega (arith, a))) (λ (b : high ≤ owed). inr (omega (arith, b))) h
owes_less false owed high h = omega (arith, h)

-- where the source owes nothing, the last start is enough
last_start : (breaks : Bool) (high : ℕ) → Owes breaks 0 high → high - 1 ≡ 0
last_start true high h = ⊎_elim (λ (a : high ≤ 1). omega (arith, a)) (λ (b : high ≤ 0). omega (arith, b)) h
last_start false high h = omega (arith, h)

this_start : (owed high : ℕ) → owed - 1 ≡ 0 → Owes true owed high → high - 1 ≡ 0
this_start owed high none h = ⊎_elim (λ (a : high ≤ 1). omega (arith, a)) (λ (b : high ≤ owed). omega (arith, b, none)) h

-- how many starts of the high loop are left: the last test is one
abbrev pub starts_left : (always : Bool) → ℕ → ℕ
starts_left true left = left
starts_left false left = suc left

more : (always : Bool) (left : ℕ) → starts_left always (suc left) ≡ suc (starts_left always left)
more true left = refl
more false left = refl

if_met_none : (n : ℕ) (o : Outcome) → n ≡ 0 → if_met n o ≡ o
if_met_none n o none = ap (λ m. if_met m o) none

module _ (s : Setting) (ok : IsSetting s) (result : Kind) (k : ℕ) where
  -- how a run of a whole loop ends, by an outcome of the high loop
  pub record Left (st : source.State) (hs : State) (st1 : source.State) (o : Outcome) : Type 0 where
    pub behind : State
    pub is : o ≡ Leaves 0 behind
    pub reached : Reached s k st hs st1 behind

  pub record Gave (st : source.State) (hs : State) (value : Option ℕ) (st1 : source.State) (o : Outcome) : Type 0 where
    pub world : World
    pub trace : List ℕ
    pub is : o ≡ Returns (or_zero value) world trace
    pub meets : MeetsWorld s.layout st1 world trace
    pub untouched : Untouched s.layout (s.layout.rank s.function.number) st.objects st1.objects
    pub range_is : converted result (or_zero value) ≡ or_zero value

  abbrev pub LoopEnds : source.State → State → source.Outcome Flow → Outcome → Type 0
  LoopEnds st hs (source.Stopped stop) o = Unit {0}
  LoopEnds st hs (source.Fine Onward st1) o = Left st hs st1 o
  LoopEnds st hs (source.Fine Break st1) o = ⊥
  LoopEnds st hs (source.Fine Continue st1) o = ⊥
  LoopEnds st hs (source.Fine (Return value) st1) o = Gave st hs value st1 o

  -- one start: its test, and then its body with what stands behind it
  abbrev pub Tests : (always : Bool) → Statements → source.State → State → source.Outcome ℕ → Type 0
  Tests always code st hs (source.Stopped stop) = Unit {0}
  Tests always code st hs (source.Fine (suc n) st1) = Comes s result code k st hs st1 Goes
  Tests true code st hs (source.Fine zero st1) = ⊥
  Tests false code st hs (source.Fine zero st1) = Comes s result code k st hs st1 (Leaves 0)

  abbrev pub Rounds : (breaks : Bool) → Statements → source.State → State → source.Outcome Flow → Type 0
  Rounds breaks code st hs (source.Stopped stop) = Unit {0}
  Rounds breaks code st hs (source.Fine Onward st1) = Comes s result code k st hs st1 Goes
  Rounds breaks code st hs (source.Fine Continue st1) = Comes s result code k st hs st1 Goes
  Rounds true code st hs (source.Fine Break st1) = Comes s result code k st hs st1 (Leaves 0)
  Rounds false code st hs (source.Fine Break st1) = ⊥
  Rounds true code st hs (source.Fine (Return value) st1) = GivesUp s result code st hs value st1
  Rounds false code st hs (source.Fine (Return value) st1) = ⊥

  run_two : (a b : Statements) (hs : State) (o : Outcome) → run_all Some s.high_call s.passed a hs ≡ o → run_all Some s.high_call s.passed (joined a b) hs ≡ then_do o (run_all Some s.high_call s.passed b)
  run_two a b hs o e = run_all-joined Some s.high_call s.passed a b hs ∙ ap (λ o. then_do o (run_all Some s.high_call s.passed b)) e

  -- the end of what goes on behind a start
  ends_behind : (st : source.State) (hs : State) (st1 : source.State) (h1 : State) (o : source.Outcome Flow) (p q : Outcome) → Reached s k st hs st1 h1 → q ≡ p → LoopEnds st1 h1 o p → LoopEnds st hs o q
  ends_behind st hs st1 h1 (source.Stopped stop) p q r same e = tt
  ends_behind st hs st1 h1 (source.Fine Onward st2) p q r same e = record { behind = e.behind; is = same ∙ e.is; reached = reached_then s ok k st hs st1 h1 st2 e.behind r e.reached }
  ends_behind st hs st1 h1 (source.Fine Break st2) p q r same e = e
  ends_behind st hs st1 h1 (source.Fine Continue st2) p q r same e = e
  ends_behind st hs st1 h1 (source.Fine (Return value) st2) p q r same e = record {
    world = e.world;
    trace = e.trace;
    is = same ∙ e.is;
    meets = e.meets;
    untouched = untouched_then s.layout (s.layout.rank s.function.number) st.objects st1.objects st2.objects r.untouched e.untouched;
    range_is = e.range_is;
  }

  module _ (loop : Loop) (always breaks : Bool) (test round : Statements)
      (tests : (st : source.State) (h : State) → MeetsIn s st h → Tests always test st h (loop.test st))
      (rounds : (st : source.State) (h : State) → MeetsIn s st h → Rounds breaks round st h (loop.round st)) where
    abbrev whole : State → Outcome
    whole h = run_all Some s.high_call s.passed (joined test round) h

    -- the loop is left by its test
    left_by_test : (owed high left : ℕ) (st : source.State) (hs : State) (st1 : source.State) → Owes breaks owed high → Comes s result test k st hs st1 (Leaves 0) → LoopEnds st hs (statements.left_with owed loop.at Onward st1) (turns (suc left) high whole hs)
    left_by_test zero high left st hs st1 owes c = record {
      behind = c.behind;
      is = ap (again (high - 1) (turns left (high - 1) whole)) (run_two test round hs (Leaves 0 c.behind) c.runs) ∙ if_met_none (high - 1) (Leaves 0 c.behind) (last_start breaks high owes);
      reached = c.reached;
    }
    left_by_test (suc owed) high left st hs st1 owes c = tt

    -- what follows one start of the body
    round_ends : (owed high left : ℕ) (st : source.State) (hs : State) (st1 : source.State) (o : source.Outcome Flow) (next : source.State → source.Outcome Flow) → Owes breaks owed high → (c : Comes s result test k st hs st1 Goes) → Rounds breaks round st1 c.behind o →
        ((st2 : source.State) (h : State) → MeetsIn s st2 h → LoopEnds st2 h (next st2) (turns left (high - 1) whole h)) →
        LoopEnds st hs (source.then_do o (statements.again (owed - 1) loop.at next)) (turns (suc left) high whole hs)
    round_ends owed high left st hs st1 (source.Stopped stop) next owes c r goes = tt
    round_ends owed high left st hs st1 (source.Fine Onward st2) next owes c r goes =
        ends_behind st hs st2 r.behind (next st2) (turns left (high - 1) whole r.behind) (turns (suc left) high whole hs) (reached_then s ok k st hs st1 c.behind st2 r.behind c.reached r.reached)
        (ap (again (high - 1) (turns left (high - 1) whole)) (run_two test round hs (Goes c.behind) c.runs ∙ r.runs)) (goes st2 r.behind r.reached.meets)
    round_ends owed high left st hs st1 (source.Fine Continue st2) next owes c r goes =
        ends_behind st hs st2 r.behind (next st2) (turns left (high - 1) whole r.behind) (turns (suc left) high whole hs) (reached_then s ok k st hs st1 c.behind st2 r.behind c.reached r.reached)
        (ap (again (high - 1) (turns left (high - 1) whole)) (run_two test round hs (Goes c.behind) c.runs ∙ r.runs)) (goes st2 r.behind r.reached.meets)
    round_ends owed high left st hs st1 (source.Fine Break st2) next owes c r goes = of breaks owes r (owed - 1) refl
      where
        of : (breaks : Bool) → Owes breaks owed high → Rounds breaks round st1 c.behind (source.Fine Break st2) → (n : ℕ) → owed - 1 ≡ n → LoopEnds st hs (statements.left_with n loop.at Onward st2) (turns (suc left) high whole hs)
        of true due r zero none = record {
          behind = r.behind;
          is = ap (again (high - 1) (turns left (high - 1) whole)) (run_two test round hs (Goes c.behind) c.runs ∙ r.runs) ∙ if_met_none (high - 1) (Leaves 0 r.behind) (this_start owed high none due);
          reached = reached_then s ok k st hs st1 c.behind st2 r.behind c.reached r.reached;
        }
        of true due r (suc n) none = tt
        of false due r n none = absurd r
    round_ends owed high left st hs st1 (source.Fine (Return value) st2) next owes c r goes = of breaks owes r (owed - 1) refl
      where
        of : (breaks : Bool) → Owes breaks owed high → Rounds breaks round st1 c.behind (source.Fine (Return value) st2) → (n : ℕ) → owed - 1 ≡ n → LoopEnds st hs (statements.left_with n loop.at (Return value) st2) (turns (suc left) high whole hs)
        of true due r zero none = record {
          world = r.world;
          trace = r.trace;
          is = ap (again (high - 1) (turns left (high - 1) whole)) (run_two test round hs (Goes c.behind) c.runs ∙ r.runs) ∙ if_met_none (high - 1) (Returns (or_zero value) r.world r.trace) (this_start owed high none due);
          meets = r.meets;
          untouched = untouched_then s.layout (s.layout.rank s.function.number) st.objects st1.objects st2.objects c.reached.untouched r.untouched;
          range_is = r.range_is;
        }
        of true due r (suc n) none = tt
        of false due r n none = absurd r

    no_more : (always : Bool) (owed high : ℕ) (st : source.State) (hs : State) (o : source.Outcome ℕ) → Owes breaks owed high → Tests always test st hs o →
        LoopEnds st hs (source.then_do o (λ word st1. source.choose word (source.Stopped (Broken loop.at)) (statements.left_with owed loop.at Onward st1))) (turns (starts_left always 0) high whole hs)
    no_more always owed high st hs (source.Stopped stop) owes t = tt
    no_more true owed high st hs (source.Fine zero st1) owes t = absurd t
    no_more false owed high st hs (source.Fine zero st1) owes t = left_by_test owed high 0 st hs st1 owes t
    no_more always owed high st hs (source.Fine (suc n) st1) owes t = tt

    one_more : (always : Bool) (owed high left : ℕ) (st : source.State) (hs : State) (o : source.Outcome ℕ) (next : source.State → source.Outcome Flow) → Owes breaks owed high → Tests always test st hs o →
        ((st2 : source.State) (h : State) → MeetsIn s st2 h → LoopEnds st2 h (next st2) (turns left (high - 1) whole h)) →
        LoopEnds st hs (source.then_do o (λ word st1. source.choose word (source.then_do (loop.round st1) (statements.again (owed - 1) loop.at next)) (statements.left_with owed loop.at Onward st1))) (turns (suc left) high whole hs)
    one_more always owed high left st hs (source.Stopped stop) next owes t goes = tt
    one_more true owed high left st hs (source.Fine zero st1) next owes t goes = absurd t
    one_more false owed high left st hs (source.Fine zero st1) next owes t goes = left_by_test owed high left st hs st1 owes t
    one_more always owed high left st hs (source.Fine (suc n) st1) next owes t goes = round_ends owed high left st hs st1 (loop.round st1) next owes t (rounds st1 t.behind t.reached.meets) goes

    pub turns_end : (left owed high : ℕ) → Owes breaks owed high → (st : source.State) (hs : State) → MeetsIn s st hs → LoopEnds st hs (statements.turns loop left owed st) (turns (starts_left always left) high whole hs)
    turns_end zero owed high owes st hs m = no_more always owed high st hs (loop.test st) owes (tests st hs m)
    turns_end (suc left) owed high owes st hs m =
        subst (λ n. LoopEnds st hs (statements.turns loop (suc left) owed st) (turns n high whole hs)) (sym (more always left))
        (one_more always owed high (starts_left always left) st hs (loop.test st) (statements.turns loop left (owed - 1)) owes (tests st hs m) (λ st2 h m2. turns_end left (owed - 1) (high - 1) (owes_less breaks owed high owes) st2 h m2))
