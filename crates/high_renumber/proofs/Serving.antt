-- Calls that serve for others.
use Rattle.std.proofs.Common.{◌≡◌, ℕ, zero, suc, List, [], ◌∷◌, ◌++◌, Option, Some, None, refl, sym, ap, ◌∙◌, subst}
use Rattle.std.specs.Prelude.{slice_get}
use Rattle.high_ir.specs.Meaning.{World, State, Outcome, Goes, Leaves, Returns, Bad, Given, Calls, Labels, run}
use Rattle.high_ir.specs.Runs.{calls, enter, given}
use Rattle.high_ir.specs.Tree.{Statement, Function}
use Rattle.high_renumber.specs.Keeping.{CallsServe, FunctionsServe, ServesCall}
use Rattle.high_renumber.proofs.Following.{CallsFollow, Follows, FollowsCall, LabelsFollow, enter_follows, run_follows}

-- a good outcome is the same in the second
abbrev pub Serves : Outcome → Outcome → Type 0
Serves Bad y = Unit {0}
Serves (Goes st) y = y ≡ Goes st
Serves (Leaves d st) y = y ≡ Leaves d st
Serves (Returns v w t) y = y ≡ Returns v w t

abbrev Same : List ℕ → List ℕ → Type 0
Same s t = s ≡ t

follows_serves : (x y : Outcome) → Follows Same x y → Serves x y
follows_serves (Goes st) y h = h.1 ∙ ap (λ t. Goes (record { variables = st.variables; world = st.world; trace = t })) (sym h.2)
follows_serves (Leaves d st) y h = h.1 ∙ ap (λ t. Leaves d (record { variables = st.variables; world = st.world; trace = t })) (sym h.2)
follows_serves (Returns v w s) y h = h.1 ∙ ap (λ t. Returns v w t) (sym h.2)
follows_serves Bad y h = tt

call_follows : (o p : Option Given) → ServesCall o p → FollowsCall Same o p
call_follows None p h = tt
call_follows (Some g) p h = (g.trace, h, refl)

calls_follow_same : (c d : Calls) → CallsServe c d → CallsFollow Same c d
calls_follow_same c d h = record { by = λ f values arrays w s t e. call_follows (c f values arrays w s) (d f values arrays w t) (subst (λ u. ServesCall (c f values arrays w s) (d f values arrays w u)) e (h.by f values arrays w s)) }

same_label : (o : Option ℕ) → LabelsFollow Same o o
same_label None = tt
same_label (Some x) = (x, refl, λ s t e. ap (λ u. u ++ x ∷ []) e)

-- a statement where calls serve
pub run_serves : (l : Labels) (c d : Calls) → CallsServe c d → (passed : List ℕ) (s : Statement) (st : State) → Serves (run l c passed s st) (run l d passed s st)
run_serves l c d h passed s st =
    follows_serves (run l c passed s st) (run l d passed s st)
    (run_follows Same l l (λ k. same_label (l k)) c d (calls_follow_same c d h) passed s st.variables st.world st.trace st.trace refl)

pub serves_given : (x y : Outcome) → Serves x y → ServesCall (given x) (given y)
serves_given (Goes st) y h = tt
serves_given (Leaves d st) y h = tt
serves_given (Returns v w t) y h = ap given h
serves_given Bad y h = tt

pub serves_call_refl : (o : Option Given) → ServesCall o o
serves_call_refl None = tt
serves_call_refl (Some g) = refl

pub serves_call_trans : (o p q : Option Given) → ServesCall o p → ServesCall p q → ServesCall o q
serves_call_trans None p q h k = tt
serves_call_trans (Some g) p q h k = subst (λ x. ServesCall x q) h k

call_served : (o p : Option Given) → FollowsCall Same o p → ServesCall o p
call_served None p h = tt
call_served (Some g) p h = h.1 ∙ ap (λ t. Some (record { value = g.value; world = g.world; trace = t })) (sym h.2)

pub enter_serves : (l : Labels) (c d : Calls) → CallsServe c d → (o : Option Function) (f : ℕ) (values arrays : List ℕ) (w : World) (t : List ℕ) → ServesCall (enter l o c f values arrays w t) (enter l o d f values arrays w t)
enter_serves l c d h o f values arrays w t =
    call_served (enter l o c f values arrays w t) (enter l o d f values arrays w t)
    (enter_follows Same l l (λ k. same_label (l k)) c d (calls_follow_same c d h) o f values arrays w t t refl)

-- calls that may nest deeper
pub deeper : (l : Labels) (fs : List Function) (n : ℕ) → CallsServe (calls l fs n) (calls l fs (suc n))
deeper l fs zero = record { by = λ f values arrays w t. tt }
deeper l fs (suc n) = record { by = λ f values arrays w t. enter_serves l (calls l fs n) (calls l fs (suc n)) (deeper l fs n) (slice_get fs f) f values arrays w t }

pub calls_refl : (d : Calls) → CallsServe d d
calls_refl d = record { by = λ f values arrays w t. serves_call_refl (d f values arrays w t) }

pub calls_trans : (c d e : Calls) → CallsServe c d → CallsServe d e → CallsServe c e
calls_trans c d e h k = record { by = λ f values arrays w t. serves_call_trans (c f values arrays w t) (d f values arrays w t) (e f values arrays w t) (h.by f values arrays w t) (k.by f values arrays w t) }

-- a call may be opened to the body of its function, as these functions have it
pub record Opens (l : Labels) (fs : List Function) (c d : Calls) : Type 0 where
  pub by : (f : ℕ) (values arrays : List ℕ) (w : World) (t : List ℕ) → ServesCall (c f values arrays w t) (enter l (slice_get fs f) d f values arrays w t)

-- a function serves for another, where calls serve and may be opened to the old functions
pub record FunctionServes (l : Labels) (fs : List Function) (f : ℕ) (o p : Option Function) : Type 0 where
  pub by : (c d : Calls) → CallsServe c d → Opens l fs c d → (values arrays : List ℕ) (w : World) (t : List ℕ) → ServesCall (enter l o c f values arrays w t) (enter l p d f values arrays w t)

-- a function that stays
pub stays : (l : Labels) (fs : List Function) (f : ℕ) (o : Option Function) → FunctionServes l fs f o o
stays l fs f o = record { by = λ c d calls opens values arrays w t. enter_serves l c d calls o f values arrays w t }

pub opens_by : (l : Labels) (fs : List Function) (d : Calls) (n : ℕ) → CallsServe (calls l fs n) d → Opens l fs (calls l fs n) d
opens_by l fs d zero h = record { by = λ f values arrays w t. tt }
opens_by l fs d (suc n) h = record {
  by = λ f values arrays w t.
      enter_serves l (calls l fs n) d (calls_trans (calls l fs n) (calls l fs (suc n)) d (deeper l fs n) h) (slice_get fs f) f values arrays w t;
}

-- a program is served by serving each of its functions
pub each_serves : (fs gs : List Function) → ((l : Labels) (f : ℕ) → FunctionServes l fs f (slice_get fs f) (slice_get gs f)) → FunctionsServe fs gs
each_serves fs gs each l zero = record { by = λ f values arrays w t. tt }
each_serves fs gs each l (suc n) =
    let ih = each_serves fs gs each l n in
    record { by = λ f values arrays w t. (each l f).by (calls l fs n) (calls l gs n) ih (opens_by l fs (calls l gs n) n ih) values arrays w t }

pub functions_refl : (fs : List Function) → FunctionsServe fs fs
functions_refl fs l n = calls_refl (calls l fs n)

pub functions_trans : (fs gs hs : List Function) → FunctionsServe fs gs → FunctionsServe gs hs → FunctionsServe fs hs
functions_trans fs gs hs h k l n = calls_trans (calls l fs n) (calls l gs n) (calls l hs n) (h l n) (k l n)
