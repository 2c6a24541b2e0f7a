-- The facts of a program give a counting loop the bounds that are derived for it.
use Rattle.std.proofs.Common.{◌≡◌, refl, ap, ◌∙◌, subst, ℕ, ◌+◌, ◌-◌, ◌<◌, ◌≤◌, Bool, List, [], ◌∷◌, ◌++◌, Option, Some, None, arith}
use Rattle.std.specs.Prelude.{if◌then◌else◌, slice_get}
use Rattle.std.proofs.lemmas.Bool.{eq-eqb, ne_eqb}
use Rattle.std.proofs.lemmas.Option.{get_or_from_slice_get}
use Rattle.facts_definitions.specs.FlowFacts.{and_one, derived_bounds, or_none}
use Rattle.facts_definitions.specs.Most.{bounds_at, no_bounds}
use Rattle.facts_definitions.specs.Sites.{declaration_sites, items_sites, loop_site, start_sites, statement_sites}
use Rattle.facts_definitions.specs.declared.facts.Bounds.{Bounds}
use Rattle.facts_definitions.specs.declared.facts.Derived.{Derived}
use Rattle.facts_definitions.specs.declared.site.Site.{Site}
use Rattle.c_tree.specs.declared.pragma.Pragma.{Pragma}
use Rattle.types_tree.specs.Tree as c
use Rattle.types_tree.specs.declared.variable.Variable.{Variable}
use Rattle.plan_served.proofs.Loops.{bounds_behind, bounds_first, bounds_second, loops_of}
use Rattle.plan_served.specs.Places.{AreBounds}
use Rattle.plan_forms.specs.Numbers as numbers
use Rattle.plan_forms.specs.Numbers.{FunctionsNumbered, ItemsNumbered, StatementNumbered}
use Rattle.plan_definition.specs.Statements.{loops_before}
use Rattle.plan_formed.proofs.SourceSites.{declaration_bounds, statement_bounds}
use Rattle.facts_loops.specs.Counting.{counting}
use Rattle.facts_loops.specs.CountingLoops.{derived_among, derived_by, functions_loops, items_loops, statement_loops, unless_written}
use Rattle.facts_loops.specs.declared.form.LoopForm.{LoopForm}
use Rattle.counting_laws.specs.Wider.{HasOwn}
use Rattle.plan_law.proofs.DerivedLists.{Each, each_append, each_both, each_weaken}

own_number : (number n : ℕ) → number ≡ n + 1 → number - 1 ≡ n + 0
own_number number n e = omega (arith, e)

module _ (derived : List Derived) (bounds : List Bounds) (variables : List Variable) where
  -- a loop for which bounds are derived has the bounds that stand for its number
  abbrev pub Gets : (own : Option Bounds) (number : ℕ) → Type 0
  Gets None number = Unit {0}
  Gets (Some own) number = bounds_at bounds number ≡ or_none (derived_bounds derived number)

  abbrev pub FormGets : LoopForm → Type 0
  FormGets l = Gets l.derived l.number

  abbrev Are : ℕ → List Site → Type 0
  Are n sites = AreBounds derived bounds n sites

  loop_gets : (number : ℕ) (bound : Option Pragma) (at : ℕ) (rest : List Site) (n : ℕ) (counted : Option Bounds) → number ≡ n + 1 → Are n (loop_site number bound at ∷ rest) → Gets (unless_written bound counted) number
  loop_gets number (Some pragma) at rest n counted e h = tt
  loop_gets number None at rest n None e h = tt
  loop_gets number None at rest n (Some own) e h =
      let there : slice_get bounds (number - 1) ≡ Some (or_none (derived_bounds derived number)) = ap (slice_get bounds) (own_number number n e) ∙ h.by 0 (or_none (derived_bounds derived number)) refl in
      get_or_from_slice_get bounds (number - 1) (or_none (derived_bounds derived number)) no_bounds there

  start_count : (start : c.ForStart) → loops_of derived (start_sites variables start) ≡ loops_before start
  start_count c.NoStart = refl
  start_count (c.StartValue e) = refl
  start_count (c.StartDeclaration (c.Objects specifiers objects at)) = declaration_bounds derived variables (c.Objects specifiers objects at)
  start_count (c.StartDeclaration (c.Prototype specifiers name params at)) = refl

  further : (n k : ℕ) (m : ℕ) → k ≡ m → n + k ≡ n + m
  further n k m e = ap (λ x. n + x) e

  mutual
    statement_gets : (s : c.Statement) (n : ℕ) → StatementNumbered n s → Are n (statement_sites variables s) → Each FormGets (statement_loops variables s)
    statement_gets (c.Block items at) n h k = items_get items n h k
    statement_gets (c.Empty at) n h k = tt
    statement_gets (c.Evaluate e at) n h k = tt
    statement_gets (c.Marker number pragma) n h k = tt
    statement_gets (c.If test first at) n h k = statement_gets first n h k
    statement_gets (c.IfElse test first second at) n h k =
        let xs = statement_sites variables first in
        let ys = statement_sites variables second in
        each_append FormGets (statement_loops variables first) (statement_loops variables second) (statement_gets first n h.0 (bounds_first derived bounds n xs ys k))
        (statement_gets second (n + numbers.statement_loops first) h.1 (bounds_second derived bounds n (n + numbers.statement_loops first) xs ys (further n (loops_of derived xs) (numbers.statement_loops first) (statement_bounds derived variables first)) k))
    statement_gets (c.While number bound test body at) n h k = (tt, statement_gets body (n + 1) h.1 (bounds_behind derived bounds n number bound at (statement_sites variables body) k))
    statement_gets (c.Do number bound body test at) n h k = (tt, statement_gets body (n + 1) h.1 (bounds_behind derived bounds n number bound at (statement_sites variables body) k))
    statement_gets (c.For number bound start test step body at) n h k =
        let xs = start_sites variables start in
        let ys = statement_sites variables body in
        let inner = bounds_behind derived bounds n number bound at (xs ++ ys) k in (
          loop_gets number bound at (xs ++ ys) n (counting variables start test step body) h.0 k,
          statement_gets body (n + 1 + loops_before start) h.2 (bounds_second derived bounds (n + 1) (n + 1 + loops_before start) xs ys (further (n + 1) (loops_of derived xs) (loops_before start) (start_count start)) inner),
        )
    statement_gets (c.Switch test items at) n h k = items_get items n h k
    statement_gets (c.Break at) n h k = tt
    statement_gets (c.Continue at) n h k = tt
    statement_gets (c.Return value at) n h k = tt

    pub items_get : (items : c.Items) (n : ℕ) → ItemsNumbered n items → Are n (items_sites variables items) → Each FormGets (items_loops variables items)
    items_get c.NoItem n h k = tt
    items_get (c.WithDeclaration declaration rest) n h k =
        let xs = declaration_sites variables declaration in
        items_get rest (n + numbers.declaration_loops declaration) h.1
        (bounds_second derived bounds n (n + numbers.declaration_loops declaration) xs (items_sites variables rest) (further n (loops_of derived xs) (numbers.declaration_loops declaration) (declaration_bounds derived variables declaration)) k)
    items_get (c.WithStatement statement rest) n h k =
        let xs = statement_sites variables statement in
        let ys = items_sites variables rest in
        each_append FormGets (statement_loops variables statement) (items_loops variables rest) (statement_gets statement n h.0 (bounds_first derived bounds n xs ys k))
        (items_get rest (n + numbers.statement_loops statement) h.1 (bounds_second derived bounds n (n + numbers.statement_loops statement) xs ys (further n (loops_of derived xs) (numbers.statement_loops statement) (statement_bounds derived variables statement)) k))
    items_get (c.WithRestriction pragma rest) n h k = items_get rest n h (record { by = k.by })
    items_get (c.WithLabel label rest) n h k = items_get rest n h k

-- loops stand in the order of their numbers
abbrev pub Ascends : (from : ℕ) → List LoopForm → (to : ℕ) → Type 0
Ascends from [] to = from ≤ to
Ascends from (l ∷ rest) to = (from < l.number) × Ascends l.number rest to

ascends_lower : (a b : ℕ) (ls : List LoopForm) (to : ℕ) → a ≤ b → Ascends b ls to → Ascends a ls to
ascends_lower a b [] to le h = omega (arith, le, h)
ascends_lower a b (l ∷ rest) to le h = let lt = h.0 in (omega (arith, le, lt), h.1)

ascends_append : (a b to : ℕ) (xs ys : List LoopForm) → Ascends a xs b → Ascends b ys to → Ascends a (xs ++ ys) to
ascends_append a b to [] ys h k = ascends_lower a b ys to h k
ascends_append a b to (l ∷ rest) ys h k = (h.0, ascends_append l.number b to rest ys h.1 k)

itself : (n : ℕ) → n ≤ n + 0
itself n = omega arith

just_above : (number n : ℕ) → number ≡ n + 1 → n < number
just_above number n e = omega (arith, e)

itself_one : (n : ℕ) → n + 1 ≤ n + 1
itself_one n = omega arith

up : (n k : ℕ) → n + 1 ≤ n + 1 + k
up n k = omega arith

more : (n k : ℕ) → n ≤ n + k
more n k = omega arith

one_more : (n count : ℕ) → n + 1 + count ≡ n + (1 + count)
one_more n count = omega arith

with_fillings : (n fillings count : ℕ) → n + 1 + fillings + count ≡ n + (1 + fillings + count)
with_fillings n fillings count = omega arith

regroup : (n a b : ℕ) → n + a + b ≡ n + (a + b)
regroup n a b = omega arith

-- a loop, and those within it
loop_ascends : (l : LoopForm) (inner : List LoopForm) (n low count to : ℕ) → l.number ≡ n + 1 → n + 1 ≤ low → low + count ≡ to → Ascends low inner (low + count) → Ascends n (l ∷ inner) to
loop_ascends l inner n low count to e le same h =
    (just_above l.number n e, subst (λ m. Ascends l.number inner m) same (ascends_lower l.number low inner (low + count) (omega (arith, e, le)) h))

module _ (variables : List Variable) where
  mutual
    statement_ascends : (s : c.Statement) (n : ℕ) → StatementNumbered n s → Ascends n (statement_loops variables s) (n + numbers.statement_loops s)
    statement_ascends (c.Block items at) n h = items_ascend items n h
    statement_ascends (c.Empty at) n h = itself n
    statement_ascends (c.Evaluate e at) n h = itself n
    statement_ascends (c.Marker number pragma) n h = itself n
    statement_ascends (c.If test first at) n h = statement_ascends first n h
    statement_ascends (c.IfElse test first second at) n h =
        let a = numbers.statement_loops first in
        let b = numbers.statement_loops second in
        subst (λ m. Ascends n (statement_loops variables first ++ statement_loops variables second) m) (regroup n a b)
        (ascends_append n (n + a) (n + a + b) (statement_loops variables first) (statement_loops variables second) (statement_ascends first n h.0) (statement_ascends second (n + a) h.1))
    statement_ascends (c.While number bound test body at) n h =
        let count = numbers.statement_loops body in
        loop_ascends (record { number = number; at = at; derived = None }) (statement_loops variables body) n (n + 1) count (n + (1 + count)) h.0 (itself_one n) (one_more n count) (statement_ascends body (n + 1) h.1)
    statement_ascends (c.Do number bound body test at) n h =
        let count = numbers.statement_loops body in
        loop_ascends (record { number = number; at = at; derived = None }) (statement_loops variables body) n (n + 1) count (n + (1 + count)) h.0 (itself_one n) (one_more n count) (statement_ascends body (n + 1) h.1)
    statement_ascends (c.For number bound start test step body at) n h =
        let count = numbers.statement_loops body in
        let fillings = loops_before start in
        loop_ascends (record { number = number; at = at; derived = unless_written bound (counting variables start test step body) }) (statement_loops variables body) n (n + 1 + fillings) count (n + (1 + fillings + count)) h.0 (up n fillings) (with_fillings n fillings count)
        (statement_ascends body (n + 1 + fillings) h.2)
    statement_ascends (c.Switch test items at) n h = items_ascend items n h
    statement_ascends (c.Break at) n h = itself n
    statement_ascends (c.Continue at) n h = itself n
    statement_ascends (c.Return value at) n h = itself n

    items_ascend : (items : c.Items) (n : ℕ) → ItemsNumbered n items → Ascends n (items_loops variables items) (n + numbers.items_loops items)
    items_ascend c.NoItem n h = itself n
    items_ascend (c.WithDeclaration declaration rest) n h =
        let a = numbers.declaration_loops declaration in
        let b = numbers.items_loops rest in
        subst (λ m. Ascends n (items_loops variables rest) m) (regroup n a b) (ascends_lower n (n + a) (items_loops variables rest) (n + a + b) (more n a) (items_ascend rest (n + a) h.1))
    items_ascend (c.WithStatement statement rest) n h =
        let a = numbers.statement_loops statement in
        let b = numbers.items_loops rest in
        subst (λ m. Ascends n (statement_loops variables statement ++ items_loops variables rest) m) (regroup n a b)
        (ascends_append n (n + a) (n + a + b) (statement_loops variables statement) (items_loops variables rest) (statement_ascends statement n h.0) (items_ascend rest (n + a) h.1))
    items_ascend (c.WithRestriction pragma rest) n h = items_ascend rest n h
    items_ascend (c.WithLabel label rest) n h = items_ascend rest n h

  pub functions_ascend : (fs : List c.Function) (n : ℕ) → FunctionsNumbered n fs → Ascends n (functions_loops variables fs) (n + numbers.functions_loops fs)
  functions_ascend [] n h = itself n
  functions_ascend (c.Defined specifiers name name_at params first body body_at at ∷ rest) n h =
      let a = numbers.items_loops body in
      let b = numbers.functions_loops rest in
      subst (λ m. Ascends n (items_loops variables body ++ functions_loops variables rest) m) (regroup n a b)
      (ascends_append n (n + a) (n + a + b) (items_loops variables body) (functions_loops variables rest) (items_ascend body n h.0) (functions_ascend rest (n + a) h.1))

-- so each loop finds the bounds that are derived for it by its number
not_same : (a b : ℕ) → a < b → a ≡ b → ⊥
not_same a b lt e = omega (arith, lt, e)

passed_over : (n : ℕ) (own : Option Bounds) (rest : List Derived) (m : ℕ) → (n ≡ m → ⊥) → derived_bounds (and_one (derived_by n own) rest) m ≡ derived_bounds rest m
passed_over n None rest m other = refl
passed_over n (Some own) rest m other = ap (λ (t : Bool). if t then Some own else derived_bounds rest m) (ne_eqb n m other)

found_here : (n : ℕ) (own : Bounds) (rest : List Derived) → derived_bounds (and_one (derived_by n (Some own)) rest) n ≡ Some own
found_here n own rest = ap (λ (t : Bool). if t then Some own else derived_bounds rest n) (eq-eqb n n refl)

-- no loop before them is among them
none_found : (n m : ℕ) (ls : List LoopForm) (to : ℕ) → n ≤ m → Ascends m ls to → derived_bounds (derived_among ls) n ≡ None
none_found n m [] to le h = refl
none_found n m (l ∷ rest) to le h =
    let lt = h.0 in
    passed_over l.number l.derived (derived_among rest) n (λ e. omega (arith, le, lt, e)) ∙ none_found n l.number rest to (omega (arith, le, lt)) h.1

all_above : (n : ℕ) (ls : List LoopForm) (to : ℕ) → Ascends n ls to → Each (λ l. n < l.number) ls
all_above n [] to h = tt
all_above n (l ∷ rest) to h = let lt = h.0 in (lt, each_weaken (λ k. l.number < k.number) (λ k. n < k.number) (λ k up. omega (arith, lt, up)) rest (all_above l.number rest to h.1))

abbrev pub Found : List Derived → LoopForm → Type 0
Found derived l = derived_bounds derived l.number ≡ l.derived

found_first : (l : LoopForm) (rest : List Derived) → derived_bounds rest l.number ≡ None → Found (and_one (derived_by l.number l.derived) rest) l
found_first l rest none = of l.derived
  where
    of : (own : Option Bounds) → derived_bounds (and_one (derived_by l.number own) rest) l.number ≡ own
    of None = none
    of (Some own) = found_here l.number own rest

found_later : (l : LoopForm) (rest : List Derived) (k : LoopForm) → l.number < k.number → Found rest k → Found (and_one (derived_by l.number l.derived) rest) k
found_later l rest k lt h = passed_over l.number l.derived rest k.number (not_same l.number k.number lt) ∙ h

no_higher : (n : ℕ) → n ≤ n
no_higher n = omega arith

pub all_found : (from : ℕ) (ls : List LoopForm) (to : ℕ) → Ascends from ls to → Each (Found (derived_among ls)) ls
all_found from [] to h = tt
all_found from (l ∷ rest) to h =
    let others = derived_among rest in (
      found_first l others (none_found l.number l.number rest to (no_higher l.number) h.1),
      each_both (λ k. l.number < k.number) (Found others) (Found (and_one (derived_by l.number l.derived) others)) (λ k lt f. found_later l others k lt f) rest (all_above l.number rest to h.1) (all_found l.number rest to h.1),
    )

-- and has them in the facts
pub own_of : (bounds : List Bounds) (derived : List Derived) (variables : List Variable) (l : LoopForm) → FormGets derived bounds variables l → Found derived l → HasOwn l.derived (bounds_at bounds l.number)
own_of bounds derived variables l gets found = of l.derived gets found
  where
    of : (own : Option Bounds) → Gets derived bounds variables own l.number → derived_bounds derived l.number ≡ own → HasOwn own (bounds_at bounds l.number)
    of None gets found = tt
    of (Some own) gets found = gets ∙ ap or_none found
