-- A program runs in the same way whatever its marks and loops are called, where the marks have the same labels.
use Rattle.std.proofs.Common.{◌≡◌, ℕ, zero, suc, ◌+◌, ◌-◌, List, [], ◌∷◌, ◌++◌, length, Option, Some, None, refl, ap, ◌∙◌, subst, arith}
use Rattle.std.specs.Prelude.{slice_get}
use Rattle.std.proofs.lemmas.List.Concat.{flat_map-cons}
use Rattle.high_ir.specs.Meaning.{World, State, Outcome, Goes, Leaves, Returns, Bad, Calls, Labels, after_call, again, choose, objects_of, out_of_block, pass, run, run_all, then_do, turns, value_of, values_of, with_value}
use Rattle.high_ir.specs.Runs.{calls, enter, frame, given, only_good, takes}
use Rattle.high_ir.specs.Standing.{loops_of, marks_in, marks_of, marks_of_all}
use Rattle.high_ir.specs.Tree.{Statement, Set, Put, Get, Keep, Mark, Seq, If, Loop, Block, Leave, Call, Return, Statements, End, Then, Function}
use Rattle.high_renumber.specs.Numbered.{functions_numbered, numbered, numbered_all}

same_value : {A : Type 0} (o : Option A) (f g : A → Outcome) → ((v : A) → f v ≡ g v) → with_value o f ≡ with_value o g
same_value None f g h = refl
same_value (Some v) f g h = h v

same_then : (x y : Outcome) (f g : State → Outcome) → x ≡ y → ((st : State) → f st ≡ g st) → then_do x f ≡ then_do y g
same_then x y f g e h = ap (λ o. then_do o f) e ∙ go y
  where
    go : (o : Outcome) → then_do o f ≡ then_do o g
    go (Goes st) = h st
    go (Leaves d st) = refl
    go (Returns v w t) = refl
    go Bad = refl

same_again : (owed : ℕ) (f g : State → Outcome) (x : Outcome) → ((st : State) → f st ≡ g st) → again owed f x ≡ again owed g x
same_again owed f g (Goes st) h = h st
same_again owed f g (Leaves d st) h = refl
same_again owed f g (Returns v w t) h = refl
same_again owed f g Bad h = refl

same_turns : (n owed : ℕ) (f g : State → Outcome) → ((st : State) → f st ≡ g st) → (st : State) → turns n owed f st ≡ turns n owed g st
same_turns zero owed f g h st = refl
same_turns (suc n) owed f g h st =
    same_again (owed - 1) (turns n (owed - 1) f) (turns n (owed - 1) g) (f st) (same_turns n (owed - 1) f g h)
    ∙ ap (again (owed - 1) (turns n (owed - 1) g)) (h st)

module _ (l q : Labels) where
  -- the marks from a number on have the labels of these
  abbrev pub Labelled : ℕ → List ℕ → Type 0
  Labelled m [] = Unit {0}
  Labelled m (k ∷ ks) = (q m ≡ l k) × Labelled (m + 1) ks

  pub labelled_front : (m : ℕ) (xs ys : List ℕ) → Labelled m (xs ++ ys) → Labelled m xs
  labelled_front m [] ys h = tt
  labelled_front m (x ∷ xs) ys h = (h.0, labelled_front (m + 1) xs ys h.1)

  pub labelled_back : (m : ℕ) (xs ys : List ℕ) → Labelled m (xs ++ ys) → Labelled (m + length xs) ys
  labelled_back m [] ys h = let z : m ≡ m + 0 = omega arith in subst (λ k. Labelled k ys) z h
  labelled_back m (x ∷ xs) ys h =
      let z : m + 1 + length xs ≡ m + length (x ∷ xs) = omega arith in
      subst (λ k. Labelled k ys) z (labelled_back (m + 1) xs ys h.1)

  module _ (c d : Calls) (same : (f : ℕ) (values arrays : List ℕ) (w : World) (t : List ℕ) → d f values arrays w t ≡ c f values arrays w t) (passed : List ℕ) where
    mutual
      pub run-numbered : (m n : ℕ) (s : Statement) → Labelled m (marks_of s) → (st : State) → run q d passed (numbered m n s) st ≡ run l c passed s st
      run-numbered m n (Mark k) h st = ap (λ o. pass o st) h.0
      run-numbered m n (Seq parts) h st = run-numbered_all m n parts h st
      run-numbered m n (If test a b) h st =
          let one = run-numbered m n a (labelled_front m (marks_of a) (marks_of b) h) st in
          let two = run-numbered (m + length (marks_of a)) (n + length (loops_of a)) b (labelled_back m (marks_of a) (marks_of b) h) st in
          same_value (value_of passed st.variables st.world test) _ _ (λ v. ap (λ o. choose v o (run q d passed (numbered (m + length (marks_of a)) (n + length (loops_of a)) b) st)) one ∙ ap (λ o. choose v (run l c passed a st) o) two)
      run-numbered m n (Loop id least most body) h st = same_turns most least (run q d passed (numbered m (n + 1) body)) (run l c passed body) (λ su. run-numbered m (n + 1) body h su) st
      run-numbered m n (Block body) h st = ap out_of_block (run-numbered m n body h st)
      run-numbered m n (Set x e) h st = refl
      run-numbered m n (Put e) h st = refl
      run-numbered m n (Get x) h st = refl
      run-numbered m n (Keep array i e) h st = refl
      run-numbered m n (Leave j) h st = refl
      run-numbered m n (Call f values arrays into) h st =
          same_value (values_of passed st.variables st.world values) _ _ (λ vs. same_value (objects_of passed arrays) _ _ (λ ns. ap (after_call st.variables into) (same f vs ns st.world st.trace)))
      run-numbered m n (Return e) h st = refl

      run-numbered_all : (m n : ℕ) (ss : Statements) → Labelled m (marks_of_all ss) → (st : State) → run_all q d passed (numbered_all m n ss) st ≡ run_all l c passed ss st
      run-numbered_all m n End h st = refl
      run-numbered_all m n (Then s rest) h st =
          same_then _ _ _ _ (run-numbered m n s (labelled_front m (marks_of s) (marks_of_all rest) h) st)
          (λ su. run-numbered_all (m + length (marks_of s)) (n + length (loops_of s)) rest (labelled_back m (marks_of s) (marks_of_all rest) h) su)

  module _ (c d : Calls) (same : (f : ℕ) (values arrays : List ℕ) (w : World) (t : List ℕ) → d f values arrays w t ≡ c f values arrays w t) where
    pub enter-numbered : (fs : List Function) (m n : ℕ) → Labelled m (marks_in fs) → (g f : ℕ) → ((h : Function) → slice_get fs g ≡ Some h → q f ≡ l f) → (values arrays : List ℕ) (w : World) (t : List ℕ) →
        enter q (slice_get (functions_numbered m n fs) g) d f values arrays w t ≡ enter l (slice_get fs g) c f values arrays w t
    enter-numbered [] m n h g f label values arrays w t = refl
    enter-numbered (k ∷ fs) m n h zero f label values arrays w t =
        let marks = subst (Labelled m) (flat_map-cons (λ j. marks_of j.body) k fs) h in
        ap (λ o. given (only_good (takes k values arrays) o))
        (same_then _ _ _ _ (ap (λ o. pass o (record { variables = frame k values; world = w; trace = t })) (label k refl))
        (λ st. run-numbered c d same arrays m n k.body (labelled_front m (marks_of k.body) (marks_in fs) marks) st))
    enter-numbered (k ∷ fs) m n h (suc g) f label values arrays w t =
        let marks = subst (Labelled m) (flat_map-cons (λ j. marks_of j.body) k fs) h in
        enter-numbered fs (m + length (marks_of k.body)) (n + length (loops_of k.body)) (labelled_back m (marks_of k.body) (marks_in fs) marks) g f label values arrays w t

  -- the calls of a program
  pub calls-numbered : (fs : List Function) (m n : ℕ) → Labelled m (marks_in fs) → ((f : ℕ) (h : Function) → slice_get fs f ≡ Some h → q f ≡ l f) → (depth f : ℕ) (values arrays : List ℕ) (w : World) (t : List ℕ) →
      calls q (functions_numbered m n fs) depth f values arrays w t ≡ calls l fs depth f values arrays w t
  calls-numbered fs m n h label zero f values arrays w t = refl
  calls-numbered fs m n h label (suc depth) f values arrays w t =
      enter-numbered (calls l fs depth) (calls q (functions_numbered m n fs) depth) (λ g vs ns u s. calls-numbered fs m n h label depth g vs ns u s) fs m n h f f (label f) values arrays w t
