-- One statement, run from two states that differ in their traces alone, under two labellings.
use Rattle.std.proofs.Common.{◌≡◌, ℕ, zero, suc, ◌-◌, Bool, true, false, List, [], ◌∷◌, ◌++◌, Option, Some, None, refl, sym, ap, subst}
use Rattle.std.specs.Prelude.{slice_get}
use Rattle.high_ir.specs.Meaning.{World, Variables, State, Outcome, Goes, Leaves, Returns, Bad, Given, Calls, Labels, after_call, again, choose, if_met, keep, next_byte, objects_of, out_of_block, pass, run, run_all, taken, then_do, turns, value_of, values_of, with_value, written}
use Rattle.high_ir.specs.Runs.{calls, enter, frame, given, only_good, takes}
use Rattle.high_ir.specs.Tree.{Statement, Set, Put, Get, Keep, Mark, Seq, If, Loop, Block, Leave, Call, Return, Statements, End, Then, Function}

module _ (T : List ℕ → List ℕ → Type 0) where
  -- a good outcome is the second but for its trace
  abbrev pub Follows : Outcome → Outcome → Type 0
  Follows (Goes st) y = (t : List ℕ) × (y ≡ Goes (record { variables = st.variables; world = st.world; trace = t })) × T st.trace t
  Follows (Leaves d st) y = (t : List ℕ) × (y ≡ Leaves d (record { variables = st.variables; world = st.world; trace = t })) × T st.trace t
  Follows (Returns v w s) y = (t : List ℕ) × (y ≡ Returns v w t) × T s t
  Follows Bad y = Unit {0}

  abbrev pub FollowsCall : Option Given → Option Given → Type 0
  FollowsCall None y = Unit {0}
  FollowsCall (Some g) y = (t : List ℕ) × (y ≡ Some (record { value = g.value; world = g.world; trace = t })) × T g.trace t

  pub record CallsFollow (c d : Calls) : Type 0 where
    pub by : (f : ℕ) (values arrays : List ℕ) (w : World) (s t : List ℕ) → T s t → FollowsCall (c f values arrays w s) (d f values arrays w t)

  -- two labels of one mark
  abbrev pub LabelsFollow : Option ℕ → Option ℕ → Type 0
  LabelsFollow None o = Unit {0}
  LabelsFollow (Some x) o = (y : ℕ) × (o ≡ Some y) × ((s t : List ℕ) → T s t → T (s ++ x ∷ []) (t ++ y ∷ []))

  -- two continuations
  abbrev GoesOn : (f g : State → Outcome) → Type 0
  GoesOn f g = (vars : Variables) (w : World) (s t : List ℕ) → T s t → Follows (f (record { variables = vars; world = w; trace = s })) (g (record { variables = vars; world = w; trace = t }))

  follows_then : (x y : Outcome) (f g : State → Outcome) → Follows x y → GoesOn f g → Follows (then_do x f) (then_do y g)
  follows_then (Goes st) y f g h k = subst (λ o. Follows (f st) (then_do o g)) (sym h.1) (k st.variables st.world st.trace h.0 h.2)
  follows_then (Leaves d st) y f g h k = (h.0, ap (λ o. then_do o g) h.1, h.2)
  follows_then (Returns v w s) y f g h k = (h.0, ap (λ o. then_do o g) h.1, h.2)
  follows_then Bad y f g h k = tt

  follows_block : (x y : Outcome) → Follows x y → Follows (out_of_block x) (out_of_block y)
  follows_block (Goes st) y h = (h.0, ap out_of_block h.1, h.2)
  follows_block (Leaves zero st) y h = (h.0, ap out_of_block h.1, h.2)
  follows_block (Leaves (suc d) st) y h = (h.0, ap out_of_block h.1, h.2)
  follows_block (Returns v w s) y h = (h.0, ap out_of_block h.1, h.2)
  follows_block Bad y h = tt

  follows_met : (o : ℕ) (x y : Outcome) → Follows x y → Follows (if_met o x) (if_met o y)
  follows_met zero x y h = h
  follows_met (suc o) x y h = tt

  follows_again : (o : ℕ) (x y : Outcome) (f g : State → Outcome) → Follows x y → GoesOn f g → Follows (again o f x) (again o g y)
  follows_again o (Goes st) y f g h k = subst (λ e. Follows (f st) (again o g e)) (sym h.1) (k st.variables st.world st.trace h.0 h.2)
  follows_again o (Leaves d st) y f g h k = subst (λ e. Follows (if_met o (Leaves d st)) (again o g e)) (sym h.1) (follows_met o (Leaves d st) (Leaves d (record { variables = st.variables; world = st.world; trace = h.0 })) (h.0, refl, h.2))
  follows_again o (Returns v w s) y f g h k = subst (λ e. Follows (if_met o (Returns v w s)) (again o g e)) (sym h.1) (follows_met o (Returns v w s) (Returns v w h.0) (h.0, refl, h.2))
  follows_again o Bad y f g h k = tt

  follows_turns : (n owed : ℕ) (f g : State → Outcome) → GoesOn f g → GoesOn (turns n owed f) (turns n owed g)
  follows_turns zero owed f g k vars w s t r = tt
  follows_turns (suc n) owed f g k vars w s t r = follows_again (owed - 1) _ _ _ _ (k vars w s t r) (follows_turns n (owed - 1) f g k)

  follows_value : {A : Type 0} (o : Option A) (f g : A → Outcome) → ((v : A) → Follows (f v) (g v)) → Follows (with_value o f) (with_value o g)
  follows_value None f g k = tt
  follows_value (Some v) f g k = k v

  follows_choose : (v : ℕ) (a b c d : Outcome) → Follows a c → Follows b d → Follows (choose v a b) (choose v c d)
  follows_choose zero a b c d h k = k
  follows_choose (suc v) a b c d h k = h

  follows_call : (vars : Variables) (into : Option ℕ) (o p : Option Given) → FollowsCall o p → Follows (after_call vars into o) (after_call vars into p)
  follows_call vars into None p h = tt
  follows_call vars into (Some g) p h =
      subst (λ o. Follows (after_call vars into (Some g)) (after_call vars into o)) (sym h.1) (follows_value (taken vars into g.value) _ _ (λ vs. (h.0, refl, h.2)))

  follows_pass : (a b : Option ℕ) (vars : Variables) (w : World) (s t : List ℕ) → LabelsFollow a b → T s t → Follows (pass a (record { variables = vars; world = w; trace = s })) (pass b (record { variables = vars; world = w; trace = t }))
  follows_pass None b vars w s t h r = tt
  follows_pass (Some x) b vars w s t h r = (t ++ h.0 ∷ [], ap (λ o. pass o (record { variables = vars; world = w; trace = t })) h.1, h.2 s t r)

  module _ (l m : Labels) (labels : (k : ℕ) → LabelsFollow (l k) (m k)) (c d : Calls) (cs : CallsFollow c d) (passed : List ℕ) where
    mutual
      pub run_follows : (s : Statement) → GoesOn (run l c passed s) (run m d passed s)
      run_follows (Set x e) vars w s t r = follows_value (value_of passed vars w e) _ _ (λ v. follows_value (written vars x v) _ _ (λ vs. (t, refl, r)))
      run_follows (Put e) vars w s t r = follows_value (value_of passed vars w e) _ _ (λ v. (t, refl, r))
      run_follows (Get x) vars w s t r = follows_value (written vars x (next_byte w.input)) _ _ (λ vs. (t, refl, r))
      run_follows (Keep array i e) vars w s t r = follows_value (value_of passed vars w i) _ _ (λ n. follows_value (value_of passed vars w e) _ _ (λ v. follows_value (keep passed w array n v) _ _ (λ u. (t, refl, r))))
      run_follows (Mark k) vars w s t r = follows_pass (l k) (m k) vars w s t (labels k) r
      run_follows (Seq parts) vars w s t r = all_follow parts vars w s t r
      run_follows (If test a b) vars w s t r = follows_value (value_of passed vars w test) _ _ (λ v. follows_choose v _ _ _ _ (run_follows a vars w s t r) (run_follows b vars w s t r))
      run_follows (Loop id least most body) vars w s t r = follows_turns most least (run l c passed body) (run m d passed body) (λ vars' w' s' t' r'. run_follows body vars' w' s' t' r') vars w s t r
      run_follows (Block body) vars w s t r = follows_block _ _ (run_follows body vars w s t r)
      run_follows (Leave e) vars w s t r = (t, refl, r)
      run_follows (Call f values arrays into) vars w s t r = follows_value (values_of passed vars w values) _ _ (λ vs. follows_value (objects_of passed arrays) _ _ (λ ns. follows_call vars into _ _ (cs.by f vs ns w s t r)))
      run_follows (Return e) vars w s t r = follows_value (value_of passed vars w e) _ _ (λ v. (t, refl, r))

      all_follow : (ss : Statements) → GoesOn (run_all l c passed ss) (run_all m d passed ss)
      all_follow End vars w s t r = (t, refl, r)
      all_follow (Then q rest) vars w s t r = follows_then _ _ _ _ (run_follows q vars w s t r) (λ vars' w' s' t' r'. all_follow rest vars' w' s' t' r')

  follows_given : (x y : Outcome) → Follows x y → FollowsCall (given x) (given y)
  follows_given (Goes st) y h = tt
  follows_given (Leaves d st) y h = tt
  follows_given (Returns v w s) y h = (h.0, ap given h.1, h.2)
  follows_given Bad y h = tt

  follows_good : (b : Bool) (x y : Outcome) → Follows x y → Follows (only_good b x) (only_good b y)
  follows_good false x y h = tt
  follows_good true x y h = h

  module _ (l m : Labels) (labels : (k : ℕ) → LabelsFollow (l k) (m k)) where
    pub enter_follows : (c d : Calls) → CallsFollow c d → (o : Option Function) (f : ℕ) (values arrays : List ℕ) (w : World) (s t : List ℕ) → T s t → FollowsCall (enter l o c f values arrays w s) (enter m o d f values arrays w t)
    enter_follows c d cs None f values arrays w s t r = tt
    enter_follows c d cs (Some h) f values arrays w s t r =
        follows_given _ _ (follows_good (takes h values arrays) _ _ (follows_then _ _ _ _ (follows_pass (l f) (m f) (frame h values) w s t (labels f) r) (λ vars' w' s' t' r'. run_follows l m labels c d cs arrays h.body vars' w' s' t' r')))

    -- the calls of a program under two labellings
    pub calls_follow : (fs : List Function) (n : ℕ) → CallsFollow (calls l fs n) (calls m fs n)
    calls_follow fs zero = record { by = λ f values arrays w s t r. tt }
    calls_follow fs (suc n) = record { by = λ f values arrays w s t r. enter_follows (calls l fs n) (calls m fs n) (calls_follow fs n) (slice_get fs f) f values arrays w s t r }
