-- Blocks are entered: the objects that they declare hold nothing, and what is kept stays.
use Rattle.std.proofs.Common.{◌≡◌, ⊎_elim, sym, ◌∙◌, subst, ℕ, ◌<◌, Bool, true, false, List, [], ◌∷◌, arith}
use Rattle.std.specs.Prelude.{◌==◌, ◌||◌}
use Rattle.std.proofs.lemmas.Bool.{eq-eqb, eqb-true, false≢true, or_cases, or_left, or_right}
use Rattle.facts_definitions.specs.declared.facts.Bounds.{Bounds}
use Rattle.meaning_semantics.specs.State.{State, Outcome, unwritten}
use Rattle.meaning_semantics.specs.Statements.{begun, entered, unwritten_all}
use Rattle.meaning_semantics.specs.Values.{Calls}
use Rattle.types_tree.specs.Tree.{Object, Declared, Declaration, Objects, Prototype, ForStart, NoStart, StartValue, StartDeclaration, Items, NoItem, WithDeclaration, WithStatement, WithRestriction, WithLabel}
use Rattle.plan_runs.proofs.Entering.{block_own, declares_own}
use Rattle.plan_runs.specs.StatementFits.{FitDeclaration, FitItems, FitStart, among, block_declares, declares, start_declares, with_live}
use Rattle.high_ir.specs.declared.object.Kind.{Kind}
use Rattle.plan_runs.specs.ExpressionFits.{Function, Signatures}
use Rattle.plan_runs.specs.Meets.{Layout}
use Rattle.facts_loops.specs.Changes.{declaration_changes, initial_changes, items_changes, objects_changes, start_changes, statement_changes}
use Rattle.counting_laws.proofs.Alike.{Alike, alike_weaken}
use Rattle.counting_laws.proofs.Objects.{Blank, Names, Stays, blank_here, blank_still, names_fewer, names_more, stays_same, stays_then, stays_unwritten}
use Rattle.counting_laws.proofs.Settings.{IsRun, Keeps, Spares}

-- what is declared is changed
among_changes : (objects : List Object) (p : ℕ) → among objects p ≡ true → objects_changes p objects ≡ true
among_changes [] p m = absurd (false≢true m)
among_changes (Declared object shape initial at ∷ rest) p m = ⊎_elim
    (λ (here : (object == p) ≡ true). or_left ((object == p) || initial_changes p initial) (objects_changes p rest) (or_left (object == p) (initial_changes p initial) here))
    (λ (later : among rest p ≡ true). or_right ((object == p) || initial_changes p initial) (objects_changes p rest) (among_changes rest p later))
    (or_cases (object == p) (among rest p) m)

declares_changes : (declaration : Declaration) (p : ℕ) → declares declaration p ≡ true → declaration_changes p declaration ≡ true
declares_changes (Objects specifiers objects at) p m = among_changes objects p m
declares_changes (Prototype specifiers name params at) p m = absurd (false≢true m)

block_changes : (items : Items) (p : ℕ) → block_declares items p ≡ true → items_changes p items ≡ true
block_changes NoItem p m = absurd (false≢true m)
block_changes (WithDeclaration declaration rest) p m = ⊎_elim
    (λ (here : declares declaration p ≡ true). or_left (declaration_changes p declaration) (items_changes p rest) (declares_changes declaration p here))
    (λ (later : block_declares rest p ≡ true). or_right (declaration_changes p declaration) (items_changes p rest) (block_changes rest p later))
    (or_cases (declares declaration p) (block_declares rest p) m)
block_changes (WithStatement statement rest) p m = or_right (statement_changes p statement) (items_changes p rest) (block_changes rest p m)
block_changes (WithRestriction pragma rest) p m = block_changes rest p m
block_changes (WithLabel label rest) p m = block_changes rest p m

pub head_changes : (start : ForStart) (p : ℕ) → start_declares start p ≡ true → start_changes p start ≡ true
head_changes NoStart p m = absurd (false≢true m)
head_changes (StartValue e) p m = absurd (false≢true m)
head_changes (StartDeclaration declaration) p m = declares_changes declaration p m

-- objects without a word stay so, and those that are declared become so
all_still : (objects : List Object) (p : ℕ) (st : State) → Blank p st.objects → Blank p (unwritten_all objects st).objects
all_still [] p st blank = blank
all_still (Declared object shape initial at ∷ rest) p st blank = all_still rest p (unwritten object st) (blank_still object p st blank)

all_blank : (objects : List Object) (p : ℕ) (st : State) → among objects p ≡ true → Blank p (unwritten_all objects st).objects
all_blank [] p st m = absurd (false≢true m)
all_blank (Declared object shape initial at ∷ rest) p st m = ⊎_elim
    (λ (here : (object == p) ≡ true). all_still rest p (unwritten object st) (subst (λ q. Blank q (unwritten object st).objects) (eqb-true object p here) (blank_here object st)))
    (λ (later : among rest p ≡ true). all_blank rest p (unwritten object st) later)
    (or_cases (object == p) (among rest p) m)

begun_still : (declaration : Declaration) (p : ℕ) (st : State) → Blank p st.objects → Blank p (begun declaration st).objects
begun_still (Objects specifiers objects at) p st blank = all_still objects p st blank
begun_still (Prototype specifiers name params at) p st blank = blank

begun_blank : (declaration : Declaration) (p : ℕ) (st : State) → declares declaration p ≡ true → Blank p (begun declaration st).objects
begun_blank (Objects specifiers objects at) p st m = all_blank objects p st m
begun_blank (Prototype specifiers name params at) p st m = absurd (false≢true m)

entered_still : (items : Items) (p : ℕ) (st : State) → Blank p st.objects → Blank p (entered items st).objects
entered_still NoItem p st blank = blank
entered_still (WithDeclaration declaration rest) p st blank = entered_still rest p (begun declaration st) (begun_still declaration p st blank)
entered_still (WithStatement statement rest) p st blank = entered_still rest p st blank
entered_still (WithRestriction pragma rest) p st blank = entered_still rest p st blank
entered_still (WithLabel label rest) p st blank = entered_still rest p st blank

entered_blank : (items : Items) (p : ℕ) (st : State) → block_declares items p ≡ true → Blank p (entered items st).objects
entered_blank NoItem p st m = absurd (false≢true m)
entered_blank (WithDeclaration declaration rest) p st m = ⊎_elim
    (λ (here : declares declaration p ≡ true). entered_still rest p (begun declaration st) (begun_blank declaration p st here))
    (λ (later : block_declares rest p ≡ true). entered_blank rest p (begun declaration st) later)
    (or_cases (declares declaration p) (block_declares rest p) m)
entered_blank (WithStatement statement rest) p st m = entered_blank rest p st m
entered_blank (WithRestriction pragma rest) p st m = entered_blank rest p st m
entered_blank (WithLabel label rest) p st m = entered_blank rest p st m

-- what is kept stays where none of it is declared
module _ (layout : Layout) (live : ℕ → Bool) (kept : ℕ → Type 0) where
  abbrev Stay : State → State → Type 0
  Stay st st1 = Stays layout live kept st st1

  all_stays : (objects : List Object) → ((p : ℕ) → kept p → among objects p ≡ true → ⊥) → (st : State) → Names layout live st.objects → Stay st (unwritten_all objects st)
  all_stays [] free st n = stays_same layout live kept st n
  all_stays (Declared object shape initial at ∷ rest) free st n =
      let a = stays_unwritten layout live kept object st n (λ p k same. free p k (or_left (object == p) (among rest p) (eq-eqb object p (sym same)))) in
      stays_then layout live kept st (unwritten object st) (unwritten_all rest (unwritten object st)) a
      (all_stays rest (λ p k m. free p k (or_right (object == p) (among rest p) m)) (unwritten object st) a.names)

  begun_stays : (declaration : Declaration) → ((p : ℕ) → kept p → declares declaration p ≡ true → ⊥) → (st : State) → Names layout live st.objects → Stay st (begun declaration st)
  begun_stays (Objects specifiers objects at) free st n = all_stays objects free st n
  begun_stays (Prototype specifiers name params at) free st n = stays_same layout live kept st n

  entered_stays : (items : Items) → ((p : ℕ) → kept p → block_declares items p ≡ true → ⊥) → (st : State) → Names layout live st.objects → Stay st (entered items st)
  entered_stays NoItem free st n = stays_same layout live kept st n
  entered_stays (WithDeclaration declaration rest) free st n =
      let a = begun_stays declaration (λ p k m. free p k (or_left (declares declaration p) (block_declares rest p) m)) st n in
      stays_then layout live kept st (begun declaration st) (entered rest (begun declaration st)) a
      (entered_stays rest (λ p k m. free p k (or_right (declares declaration p) (block_declares rest p) m)) (begun declaration st) a.names)
  entered_stays (WithStatement statement rest) free st n = entered_stays rest free st n
  entered_stays (WithRestriction pragma rest) free st n = entered_stays rest free st n
  entered_stays (WithLabel label rest) free st n = entered_stays rest free st n

below_itself : (n : ℕ) → n < n → ⊥
below_itself n lt = omega (arith, lt)

module _ (layout : Layout) (signatures : Signatures) (blamed kept : ℕ → Type 0) (f : Function) (narrow wide : Calls) (ok : IsRun layout signatures blamed kept f narrow wide) where
  -- what a part declares that changes nothing that is kept isn't kept
  pub undeclared : (changes declared : ℕ → Bool) → ((p : ℕ) → declared p ≡ true → layout.owner p ≡ f.number) → ((p : ℕ) → declared p ≡ true → changes p ≡ true) → Spares layout kept f changes → (p : ℕ) → kept p → declared p ≡ true → ⊥
  undeclared changes declared own change clear p k m = ⊎_elim
      (λ (up : layout.rank f.number < layout.rank (layout.owner p)). below_itself (layout.rank f.number) (subst (λ g. layout.rank f.number < layout.rank g) (own p m) up))
      (λ (none : changes p ≡ false). false≢true (sym none ∙ change p m))
      (clear p k)

  -- a place where more objects of the function live
  pub scope_run : (more : ℕ → Bool) → ((o : ℕ) → more o ≡ true → layout.owner o ≡ f.number) → IsRun layout signatures blamed kept (with_live f more) narrow wide
  scope_run more own = record {
    placed = ok.placed;
    owned = λ o lives. ⊎_elim (λ (old : f.live o ≡ true). ok.owned o old) (λ (new : more o ≡ true). own o new) (or_cases (f.live o) (more o) lives);
    falls = ok.falls;
    own = ok.own;
    above = ok.above;
    calls = ok.calls;
  }

  pub left_scope : {A : Type 0} (more : ℕ → Bool) (st : State) (a b : Outcome A) → Alike blamed (λ x st1. Stays layout (with_live f more).live kept st st1) a b → Keeps layout f.live kept blamed st a b
  left_scope more st a b h =
      alike_weaken blamed (λ x st1. Stays layout (with_live f more).live kept st st1) (λ x st1. Stays layout f.live kept st st1) a b h (λ x st1 s. record { names = names_fewer layout f.live more st1.objects s.names; same = s.same })

  -- where no more live
  pub nothing_more : (more : ℕ → Bool) → ((o : ℕ) → more o ≡ true → ⊥) → (st : State) → Names layout f.live st.objects → Names layout (with_live f more).live st.objects
  nothing_more more none st n = names_more layout f.live more st.objects n (λ o m. absurd (none o m))

  module _ (result : Kind) (bounds : List Bounds) where
    pub block_owned : (items : Items) → FitItems layout signatures result bounds (with_live f (block_declares items)) items → (o : ℕ) → block_declares items o ≡ true → layout.owner o ≡ f.number
    block_owned items fit o m = (block_own layout signatures result bounds f (block_declares items) items fit o m).0

    pub declaration_owned : (declaration : Declaration) → FitDeclaration layout signatures result bounds (with_live f (declares declaration)) declaration → (o : ℕ) → declares declaration o ≡ true → layout.owner o ≡ f.number
    declaration_owned declaration fit o m = (declares_own layout signatures result bounds f (declares declaration) declaration fit o m).0

    pub start_owned : (start : ForStart) → FitStart layout signatures result bounds (with_live f (start_declares start)) start → (o : ℕ) → start_declares start o ≡ true → layout.owner o ≡ f.number
    start_owned NoStart fit o m = absurd (false≢true m)
    start_owned (StartValue e) fit o m = absurd (false≢true m)
    start_owned (StartDeclaration declaration) fit o m = declaration_owned declaration fit o m

    -- a block is entered
    pub block_entered : (items : Items) → FitItems layout signatures result bounds (with_live f (block_declares items)) items → Spares layout kept f (λ o. items_changes o items) → (st : State) → Names layout f.live st.objects →
        Stays layout (with_live f (block_declares items)).live kept st (entered items st)
    block_entered items fit clear st n =
        let s = entered_stays layout f.live kept items (undeclared (λ o. items_changes o items) (block_declares items) (block_owned items fit) (block_changes items) clear) st n in
        record { names = names_more layout f.live (block_declares items) (entered items st).objects s.names (λ o m. entered_blank items o st m); same = s.same }

    -- the head of a `for` declares
    pub head_begun : (declaration : Declaration) → FitDeclaration layout signatures result bounds (with_live f (declares declaration)) declaration → Spares layout kept f (λ o. declaration_changes o declaration) → (st : State) → Names layout f.live st.objects →
        Stays layout (with_live f (declares declaration)).live kept st (begun declaration st)
    head_begun declaration fit clear st n =
        let s = begun_stays layout f.live kept declaration (undeclared (λ o. declaration_changes o declaration) (declares declaration) (declaration_owned declaration fit) (declares_changes declaration) clear) st n in
        record { names = names_more layout f.live (declares declaration) (begun declaration st).objects s.names (λ o m. begun_blank declaration o st m); same = s.same }
