-- Calls and loops, one step of each.
use Rattle.std.proofs.Common.{◌≡◌, ℕ, zero, suc, ◌-◌, ◌<◌, true, List, length, get_or, map, Option, Some, None, refl, sym, ap, ◌∙◌, subst, arith}
use Rattle.std.specs.Prelude.{◌≢◌, option_map, slice_get}
use Rattle.std.proofs.lemmas.Option.{slice_get-get_or, slice_get-map}
use Rattle.std.proofs.lemmas.List.{get_or-map, length-map}
use Rattle.high_ir.specs.declared.high.Function.{Function}
use Rattle.high_ir.specs.Meaning.{Goes, Outcome, State, World, again, pass, run, then_do, turns}
use Rattle.high_ir.specs.Runs.{enter, frame, given, only_good, rank_or, takes}
use Rattle.high_ir.specs.View.{function_of}
use Rattle.high_eval.specs.Ends.{calls_of, given_of}

-- one start of a loop's body that goes on
pub turns_step : (left n owed owed' : ℕ) (body : State → Outcome) (st st' : State) → left ≡ suc n → owed' ≡ owed - 1 → body st ≡ Goes st' → turns left owed body st ≡ turns n owed' body st'
turns_step left n owed owed' body st st' one less goes =
    ap (λ k. turns k owed body st) one ∙ ap (again (owed - 1) (turns n (owed - 1) body)) goes ∙ ap (λ o. turns n o body st') (sym less)

-- a call of a function that is there and takes what it is given
pub call_is : (fs : List Function) (n f : ℕ) (h : Function) (values arrays : List ℕ) (w : World) (t : List ℕ) → n ≢ 0 → f < length fs → h ≡ get_or fs f h → takes (function_of h) values arrays ≡ true →
    calls_of fs n f values arrays w t ≡ given (then_do (pass (Some f) (record { variables = frame (function_of h) values; world = w; trace = t })) (run Some (calls_of fs (n - 1)) arrays (function_of h).body))
call_is fs zero f h values arrays w t some lt read fits = absurd (some refl)
call_is fs (suc n) f h values arrays w t some lt read fits =
    let there : slice_get (map function_of fs) f ≡ Some (function_of h) = slice_get-map function_of fs f ∙ ap (option_map function_of) (slice_get-get_or fs f h lt ∙ ap Some (sym read)) in
    let less : suc n - 1 ≡ n = omega arith in
    ap (λ o. enter Some o (calls_of fs n) f values arrays w t) there
    ∙ ap (λ b. given (only_good b (then_do (pass (Some f) (record { variables = frame (function_of h) values; world = w; trace = t })) (run Some (calls_of fs n) arrays (function_of h).body)))) fits
    ∙ ap (λ k. given (then_do (pass (Some f) (record { variables = frame (function_of h) values; world = w; trace = t })) (run Some (calls_of fs k) arrays (function_of h).body))) (sym less)

pub rank_at : (fs : List Function) (f : ℕ) (h : Function) → f < length fs → h ≡ get_or fs f h → rank_or (map function_of fs) f 0 ≡ h.rank
rank_at fs f h lt read =
    get_or-map (λ g. g.rank) (map function_of fs) f (function_of h) 0 (subst (λ n. f < n) (sym (length-map fs function_of)) lt)
    ∙ ap (λ g. g.rank) (get_or-map function_of fs f h (function_of h) lt)
    ∙ ap (λ g. g.rank) (sym read)

-- what a call gave doesn't hang on the variables
pub given_of-same : (g : Option ℕ) (s s' : State) → s'.world ≡ s.world → s'.trace ≡ s.trace → given_of g s ≡ given_of g s'
given_of-same None s s' world trace = refl
given_of-same (Some v) s s' world trace =
    ap (λ w. Some (record { value = v; world = w; trace = s.trace })) (sym world) ∙ ap (λ t. Some (record { value = v; world = s'.world; trace = t })) (sym trace)
