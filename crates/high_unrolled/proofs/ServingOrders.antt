-- Every construct keeps the order of outcomes.
use Rattle.std.proofs.Common.{◌≡◌, ℕ, zero, suc, ◌-◌, Bool, true, false, Option, Some, None, refl, sym, ap, subst, arith}
use Rattle.high_ir.specs.Meaning.{Outcome, Goes, Leaves, Returns, Bad, State, Given, Variables, then_do, out_of_block, if_met, again, turns, with_value, choose, pass, after_call}
use Rattle.high_ir.specs.Runs.{given, only_good}
use Rattle.high_unrolled.specs.Serving.{Serves, ServesCall, ServesLabel}

pub serves_same : (x : Outcome) → Serves x x
serves_same (Goes st) = refl
serves_same (Leaves d st) = refl
serves_same (Returns v w t) = refl
serves_same Bad = tt

pub serves_through : (x y z : Outcome) → Serves x y → Serves y z → Serves x z
serves_through (Goes st) y z h k = subst (λ o. Serves o z) h k
serves_through (Leaves d st) y z h k = subst (λ o. Serves o z) h k
serves_through (Returns v w t) y z h k = subst (λ o. Serves o z) h k
serves_through Bad y z h k = tt

pub serves_then : (x y : Outcome) (f g : State → Outcome) → Serves x y → ((st : State) → Serves (f st) (g st)) → Serves (then_do x f) (then_do y g)
serves_then (Goes st) y f g h k = subst (λ o. Serves (f st) (then_do o g)) (sym h) (k st)
serves_then (Leaves d st) y f g h k = ap (λ o. then_do o g) h
serves_then (Returns v w t) y f g h k = ap (λ o. then_do o g) h
serves_then Bad y f g h k = tt

pub serves_block : (x y : Outcome) → Serves x y → Serves (out_of_block x) (out_of_block y)
serves_block (Goes st) y h = ap out_of_block h
serves_block (Leaves zero st) y h = ap out_of_block h
serves_block (Leaves (suc d) st) y h = ap out_of_block h
serves_block (Returns v w t) y h = ap out_of_block h
serves_block Bad y h = tt

pub serves_met : (o p : ℕ) (x y : Outcome) → (o ≡ 0 → p ≡ 0) → Serves x y → Serves (if_met o x) (if_met p y)
serves_met zero zero x y z h = h
serves_met zero (suc p) x y z h = let e = z refl in absurd (omega arith)
serves_met (suc o) p x y z h = tt

pub serves_again : (o p : ℕ) (x y : Outcome) (f g : State → Outcome) → (o ≡ 0 → p ≡ 0) → Serves x y → ((st : State) → Serves (f st) (g st)) → Serves (again o f x) (again p g y)
serves_again o p (Goes st) y f g z h k = subst (λ e. Serves (f st) (again p g e)) (sym h) (k st)
serves_again o p (Leaves d st) y f g z h k = subst (λ e. Serves (if_met o (Leaves d st)) (again p g e)) (sym h) (serves_met o p (Leaves d st) (Leaves d st) z refl)
serves_again o p (Returns v w t) y f g z h k = subst (λ e. Serves (if_met o (Returns v w t)) (again p g e)) (sym h) (serves_met o p (Returns v w t) (Returns v w t) z refl)
serves_again o p Bad y f g z h k = tt

pub serves_turns : (n owed : ℕ) (f g : State → Outcome) → ((st : State) → Serves (f st) (g st)) → (st : State) → Serves (turns n owed f st) (turns n owed g st)
serves_turns zero owed f g k st = tt
serves_turns (suc n) owed f g k st = serves_again (owed - 1) (owed - 1) (f st) (g st) (turns n (owed - 1) f) (turns n (owed - 1) g) (λ e. e) (k st) (serves_turns n (owed - 1) f g k)

pub serves_value : {A : Type 0} (o : Option A) (f g : A → Outcome) → ((v : A) → Serves (f v) (g v)) → Serves (with_value o f) (with_value o g)
serves_value None f g k = tt
serves_value (Some v) f g k = k v

pub serves_choose : (v : ℕ) (a b c d : Outcome) → Serves a c → Serves b d → Serves (choose v a b) (choose v c d)
serves_choose zero a b c d h k = k
serves_choose (suc v) a b c d h k = h

pub serves_pass : (a b : Option ℕ) (st : State) → ServesLabel a b → Serves (pass a st) (pass b st)
serves_pass None b st h = tt
serves_pass (Some x) b st h = ap (λ o. pass o st) h

pub serves_call : (vars : Variables) (into : Option ℕ) (o p : Option Given) → ServesCall o p → Serves (after_call vars into o) (after_call vars into p)
serves_call vars into None p h = tt
serves_call vars into (Some g) p h = subst (λ q. Serves (after_call vars into (Some g)) (after_call vars into q)) (sym h) (serves_same (after_call vars into (Some g)))

pub serves_given : (x y : Outcome) → Serves x y → ServesCall (given x) (given y)
serves_given (Goes st) y h = tt
serves_given (Leaves d st) y h = tt
serves_given (Returns v w t) y h = ap given h
serves_given Bad y h = tt

pub serves_good : (b : Bool) (x y : Outcome) → Serves x y → Serves (only_good b x) (only_good b y)
serves_good false x y h = tt
serves_good true x y h = h
