-- The runs of a program under labels, and its runs under its own marks: they differ in what is noted at the marks.
use Rattle.std.proofs.Common.{◌≡◌, ℕ, zero, suc, ◌-◌, Bool, true, false, List, [], ◌∷◌, ◌++◌, map, Option, Some, None, refl, sym, ap, ◌∙◌, subst}
use Rattle.std.specs.Prelude.{slice_get}
use Rattle.high_ir.specs.Meaning.{Outcome, Goes, Leaves, Returns, Bad, World, Given, Variables, State, Calls, Labels, then_do, out_of_block, if_met, again, turns, with_value, choose, after_call, taken, pass, put, got, keep, written, next_byte, run, run_all, value_of, values_of, objects_of}
use Rattle.high_ir.specs.Runs.{given, enter, calls, frame, only_good, takes}
use Rattle.high_ir.specs.Tree.{Statement, Set, Put, Get, Keep, Mark, Seq, If, Loop, Block, Leave, Call, Return, Statements, End, Then, Function}

-- what a run noted, by the labels of the marks that another run noted
abbrev pub Marked : Labels → List ℕ → List ℕ → Type 0
Marked m s t = map Some s ≡ map m t

module _ (m : Labels) where
  -- a good outcome is the second one but for what was noted
  abbrev pub Follows : Outcome → Outcome → Type 0
  Follows (Goes st) o = (t : List ℕ) × (o ≡ Goes (record { variables = st.variables; world = st.world; trace = t })) × Marked m st.trace t
  Follows (Leaves d st) o = (t : List ℕ) × (o ≡ Leaves d (record { variables = st.variables; world = st.world; trace = t })) × Marked m st.trace t
  Follows (Returns v w s) o = (t : List ℕ) × (o ≡ Returns v w t) × Marked m s t
  Follows Bad o = Unit {0}

  abbrev pub FollowsCall : Option Given → Option Given → Type 0
  FollowsCall None o = Unit {0}
  FollowsCall (Some g) o = (t : List ℕ) × (o ≡ Some (record { value = g.value; world = g.world; trace = t })) × Marked m g.trace t

  pub record CallsFollow (c d : Calls) : Type 0 where
    pub by : (f : ℕ) (values arrays : List ℕ) (w : World) (s t : List ℕ) → Marked m s t → FollowsCall (c f values arrays w s) (d f values arrays w t)

  -- what goes on from a state, and what goes on from one that noted the marks
  abbrev GoesAlike : (f g : State → Outcome) → Type 0
  GoesAlike f g = (vars : Variables) (w : World) (s t : List ℕ) → Marked m s t → Follows (f (record { variables = vars; world = w; trace = s })) (g (record { variables = vars; world = w; trace = t }))

  follows_then : (x y : Outcome) (f g : State → Outcome) → Follows x y → GoesAlike f g → Follows (then_do x f) (then_do y g)
  follows_then (Goes st) y f g h k = subst (λ o. Follows (f st) (then_do o g)) (sym h.1) (k st.variables st.world st.trace h.0 h.2)
  follows_then (Leaves d st) y f g h k = (h.0, ap (λ o. then_do o g) h.1, h.2)
  follows_then (Returns v w s) y f g h k = (h.0, ap (λ o. then_do o g) h.1, h.2)
  follows_then Bad y f g h k = tt

  follows_block : (x y : Outcome) → Follows x y → Follows (out_of_block x) (out_of_block y)
  follows_block (Goes st) y h = (h.0, ap out_of_block h.1, h.2)
  follows_block (Leaves zero st) y h = (h.0, ap out_of_block h.1, h.2)
  follows_block (Leaves (suc d) st) y h = (h.0, ap out_of_block h.1, h.2)
  follows_block (Returns v w s) y h = (h.0, ap out_of_block h.1, h.2)
  follows_block Bad y h = tt

  follows_met : (o : ℕ) (x y : Outcome) → Follows x y → Follows (if_met o x) (if_met o y)
  follows_met zero x y h = h
  follows_met (suc o) x y h = tt

  follows_again : (o : ℕ) (x y : Outcome) (f g : State → Outcome) → Follows x y → GoesAlike f g → Follows (again o f x) (again o g y)
  follows_again o (Goes st) y f g h k = subst (λ e. Follows (f st) (again o g e)) (sym h.1) (k st.variables st.world st.trace h.0 h.2)
  follows_again o (Leaves d st) y f g h k = subst (λ e. Follows (if_met o (Leaves d st)) (again o g e)) (sym h.1) (follows_met o (Leaves d st) (Leaves d (record { variables = st.variables; world = st.world; trace = h.0 })) (h.0, refl, h.2))
  follows_again o (Returns v w s) y f g h k = subst (λ e. Follows (if_met o (Returns v w s)) (again o g e)) (sym h.1) (follows_met o (Returns v w s) (Returns v w h.0) (h.0, refl, h.2))
  follows_again o Bad y f g h k = tt

  follows_turns : (n owed : ℕ) (f g : State → Outcome) → GoesAlike f g → GoesAlike (turns n owed f) (turns n owed g)
  follows_turns zero owed f g k vars w s t r = tt
  follows_turns (suc n) owed f g k vars w s t r =
      follows_again (owed - 1) (f (record { variables = vars; world = w; trace = s })) (g (record { variables = vars; world = w; trace = t })) (turns n (owed - 1) f) (turns n (owed - 1) g) (k vars w s t r) (follows_turns n (owed - 1) f g k)

  follows_value : {A : Type 0} (o : Option A) (f g : A → Outcome) → ((v : A) → Follows (f v) (g v)) → Follows (with_value o f) (with_value o g)
  follows_value None f g k = tt
  follows_value (Some v) f g k = k v

  follows_choose : (v : ℕ) (a b c d : Outcome) → Follows a c → Follows b d → Follows (choose v a b) (choose v c d)
  follows_choose zero a b c d h k = k
  follows_choose (suc v) a b c d h k = h

  follows_call : (vars : Variables) (into : Option ℕ) (o p : Option Given) → FollowsCall o p → Follows (after_call vars into o) (after_call vars into p)
  follows_call vars into None p h = tt
  follows_call vars into (Some g) p h =
      subst (λ q. Follows (after_call vars into (Some g)) (after_call vars into q)) (sym h.1)
      (follows_value (taken vars into g.value) (λ vs. Goes (record { variables = vs; world = g.world; trace = g.trace })) (λ vs. Goes (record { variables = vs; world = g.world; trace = h.0 })) (λ vs. (h.0, refl, h.2)))

  map-last : {A B : Type 0} (f : A → B) (xs : List A) (x : A) → map f (xs ++ x ∷ []) ≡ map f xs ++ f x ∷ []
  map-last f [] x = refl
  map-last f (y ∷ ys) x = ap (λ l. f y ∷ l) (map-last f ys x)

  -- a mark is noted here, and its label there
  follows_pass : (k : ℕ) (label : Option ℕ) → m k ≡ label → (vars : Variables) (w : World) (s t : List ℕ) → Marked m s t →
      Follows (pass label (record { variables = vars; world = w; trace = s })) (pass (Some k) (record { variables = vars; world = w; trace = t }))
  follows_pass k None is vars w s t r = tt
  follows_pass k (Some x) is vars w s t r =
      (t ++ k ∷ [], refl, map-last Some s x ∙ ap (λ l. l ++ Some x ∷ []) r ∙ ap (λ o. map m t ++ o ∷ []) (sym is) ∙ sym (map-last m t k))

  module _ (c d : Calls) (alike : CallsFollow c d) (passed : List ℕ) where
    mutual
      pub run_follows : (s : Statement) → GoesAlike (run m c passed s) (run Some d passed s)
      run_follows (Set x e) vars w s t r =
          follows_value (value_of passed vars w e) (λ v. with_value (written vars x v) (λ vs. Goes (record { variables = vs; world = w; trace = s }))) (λ v. with_value (written vars x v) (λ vs. Goes (record { variables = vs; world = w; trace = t })))
          (λ v. follows_value (written vars x v) (λ vs. Goes (record { variables = vs; world = w; trace = s })) (λ vs. Goes (record { variables = vs; world = w; trace = t })) (λ vs. (t, refl, r)))
      run_follows (Put e) vars w s t r =
          follows_value (value_of passed vars w e) (λ v. Goes (record { variables = vars; world = put w v; trace = s })) (λ v. Goes (record { variables = vars; world = put w v; trace = t })) (λ v. (t, refl, r))
      run_follows (Get x) vars w s t r =
          follows_value (written vars x (next_byte w.input)) (λ vs. Goes (record { variables = vs; world = got w; trace = s })) (λ vs. Goes (record { variables = vs; world = got w; trace = t })) (λ vs. (t, refl, r))
      run_follows (Keep array i e) vars w s t r =
          follows_value (value_of passed vars w i)
          (λ n. with_value (value_of passed vars w e) (λ v. with_value (keep passed w array n v) (λ u. Goes (record { variables = vars; world = u; trace = s }))))
          (λ n. with_value (value_of passed vars w e) (λ v. with_value (keep passed w array n v) (λ u. Goes (record { variables = vars; world = u; trace = t }))))
          (λ n. follows_value (value_of passed vars w e)
          (λ v. with_value (keep passed w array n v) (λ u. Goes (record { variables = vars; world = u; trace = s })))
          (λ v. with_value (keep passed w array n v) (λ u. Goes (record { variables = vars; world = u; trace = t })))
          (λ v. follows_value (keep passed w array n v) (λ u. Goes (record { variables = vars; world = u; trace = s })) (λ u. Goes (record { variables = vars; world = u; trace = t })) (λ u. (t, refl, r))))
      run_follows (Mark k) vars w s t r = follows_pass k (m k) refl vars w s t r
      run_follows (Seq parts) vars w s t r = all_follow parts vars w s t r
      run_follows (If test first other) vars w s t r =
          follows_value (value_of passed vars w test)
          (λ v. choose v (run m c passed first (record { variables = vars; world = w; trace = s })) (run m c passed other (record { variables = vars; world = w; trace = s })))
          (λ v. choose v (run Some d passed first (record { variables = vars; world = w; trace = t })) (run Some d passed other (record { variables = vars; world = w; trace = t })))
          (λ v. follows_choose v
          (run m c passed first (record { variables = vars; world = w; trace = s })) (run m c passed other (record { variables = vars; world = w; trace = s }))
          (run Some d passed first (record { variables = vars; world = w; trace = t })) (run Some d passed other (record { variables = vars; world = w; trace = t }))
          (run_follows first vars w s t r) (run_follows other vars w s t r))
      run_follows (Loop id least most body) vars w s t r = follows_turns most least (run m c passed body) (run Some d passed body) (λ vars' w' s' t' r'. run_follows body vars' w' s' t' r') vars w s t r
      run_follows (Block body) vars w s t r =
          follows_block (run m c passed body (record { variables = vars; world = w; trace = s })) (run Some d passed body (record { variables = vars; world = w; trace = t })) (run_follows body vars w s t r)
      run_follows (Leave e) vars w s t r = (t, refl, r)
      run_follows (Call f values arrays into) vars w s t r =
          follows_value (values_of passed vars w values)
          (λ vs. with_value (objects_of passed arrays) (λ ns. after_call vars into (c f vs ns w s)))
          (λ vs. with_value (objects_of passed arrays) (λ ns. after_call vars into (d f vs ns w t)))
          (λ vs. follows_value (objects_of passed arrays) (λ ns. after_call vars into (c f vs ns w s)) (λ ns. after_call vars into (d f vs ns w t))
          (λ ns. follows_call vars into (c f vs ns w s) (d f vs ns w t) (alike.by f vs ns w s t r)))
      run_follows (Return e) vars w s t r = follows_value (value_of passed vars w e) (λ v. Returns v w s) (λ v. Returns v w t) (λ v. (t, refl, r))

      all_follow : (parts : Statements) → GoesAlike (run_all m c passed parts) (run_all Some d passed parts)
      all_follow End vars w s t r = (t, refl, r)
      all_follow (Then first rest) vars w s t r =
          follows_then (run m c passed first (record { variables = vars; world = w; trace = s })) (run Some d passed first (record { variables = vars; world = w; trace = t })) (run_all m c passed rest) (run_all Some d passed rest)
          (run_follows first vars w s t r) (λ vars' w' s' t' r'. all_follow rest vars' w' s' t' r')

  follows_given : (x y : Outcome) → Follows x y → FollowsCall (given x) (given y)
  follows_given (Goes st) y h = tt
  follows_given (Leaves d st) y h = tt
  follows_given (Returns v w s) y h = (h.0, ap given h.1, h.2)
  follows_given Bad y h = tt

  follows_good : (b : Bool) (x y : Outcome) → Follows x y → Follows (only_good b x) (only_good b y)
  follows_good false x y h = tt
  follows_good true x y h = h

  entered_follows : (o : Option Function) (c d : Calls) → CallsFollow c d → (f : ℕ) (values arrays : List ℕ) (w : World) (s t : List ℕ) → Marked m s t → FollowsCall (enter m o c f values arrays w s) (enter Some o d f values arrays w t)
  entered_follows None c d alike f values arrays w s t r = tt
  entered_follows (Some h) c d alike f values arrays w s t r =
      follows_given
      (only_good (takes h values arrays) (then_do (pass (m f) (record { variables = frame h values; world = w; trace = s })) (run m c arrays h.body)))
      (only_good (takes h values arrays) (then_do (pass (Some f) (record { variables = frame h values; world = w; trace = t })) (run Some d arrays h.body)))
      (follows_good (takes h values arrays)
      (then_do (pass (m f) (record { variables = frame h values; world = w; trace = s })) (run m c arrays h.body))
      (then_do (pass (Some f) (record { variables = frame h values; world = w; trace = t })) (run Some d arrays h.body))
      (follows_then (pass (m f) (record { variables = frame h values; world = w; trace = s })) (pass (Some f) (record { variables = frame h values; world = w; trace = t })) (run m c arrays h.body) (run Some d arrays h.body)
      (follows_pass f (m f) refl (frame h values) w s t r)
      (λ vars' w' s' t' r'. run_follows c d alike arrays h.body vars' w' s' t' r')))

  pub calls_follow : (fs : List Function) (n : ℕ) → CallsFollow (calls m fs n) (calls Some fs n)
  calls_follow fs zero = record { by = λ f values arrays w s t r. tt }
  calls_follow fs (suc n) = record { by = λ f values arrays w s t r. entered_follows (slice_get fs f) (calls m fs n) (calls Some fs n) (calls_follow fs n) f values arrays w s t r }
