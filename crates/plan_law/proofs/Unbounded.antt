-- A loop for which bounds are derived is one without a pragma.
use Rattle.std.proofs.Common.{◌≡◌, ◌⊎◌, inl, inr, ⊎_elim, refl, sym, ap, ◌∙◌, subst, ℕ, suc, ◌≤◌, Bool, true, false, List, [], ◌∷◌, ◌++◌, Option, Some, None, All, arith}
use Rattle.std.specs.Prelude.{◌||◌, nat_eq, nat_le, slice_get}
use Rattle.std.proofs.lemmas.Bool.{eq-eqb, false≢true, leb-true}
use Rattle.std.proofs.lemmas.Option.{none-some, same_Some}
use Rattle.facts_definitions.specs.FlowFacts.{IsDerived, and_one, is_among, unbounded, unbounded_at}
use Rattle.facts_definitions.specs.Sites.{declaration_sites, external_sites, externals_sites, function_sites, items_sites, loop_site, sites_of, start_sites, statement_sites}
use Rattle.facts_definitions.specs.Starts.{leaves}
use Rattle.facts_definitions.specs.declared.facts.Bounds.{Bounds}
use Rattle.facts_definitions.specs.declared.site.Site.{Site}
use Rattle.types_rules.specs.Scope.{Outline, started}
use Rattle.types_rules.specs.Sights.{after_external, outline_of}
use Rattle.types_rules.specs.Specifiers.{kind_spelled}
use Rattle.types_rules.specs.Typing.{and_external, typed_external, typed_items, typed_row}
use Rattle.c_tree.specs.Tree.{Row, Nothing, Then, External, Whole}
use Rattle.c_tree.specs.declared.pragma.Pragma.{Pragma}
use Rattle.types_tree.specs.Tree as c
use Rattle.types_tree.specs.declared.variable.Variable.{Variable}
use Rattle.types_seen.proofs.Fronts.{defined, is_nothing}
use Rattle.types_seen.specs.Fronts.{Definition, IsDefined, IsFront, begun_by, behind, external_by}
use Rattle.types_seen.specs.Units.{HasTree, IsUnit}
use Rattle.types_seen.proofs.Units.{of_tree}
use Rattle.plan_served.proofs.Fronts.{function_at}
use Rattle.facts_loops.specs.Counting.{bounds_by, counting, least_turns, turns}
use Rattle.facts_loops.specs.CountingLoops.{derived_among, derived_by, derived_of, function_loops, functions_loops, items_loops, loops_of, statement_loops, unless_written}
use Rattle.facts_loops.specs.declared.form.LoopForm.{LoopForm}
use Rattle.plan_law.proofs.DerivedForms.{only_if_parts, parts}
use Rattle.plan_law.proofs.DerivedLists.{Each, all_of, each_append, each_weaken}

-- a loop of this number without a pragma is among sites
abbrev pub Has : (number : ℕ) → List Site → Type 0
Has number [] = ⊥
Has number (x ∷ xs) = (unbounded_at x ≡ Some number) ⊎ Has number xs

has_left : (number : ℕ) (xs ys : List Site) → Has number xs → Has number (xs ++ ys)
has_left number [] ys h = absurd h
has_left number (x ∷ xs) ys h = ⊎_elim (λ (e : unbounded_at x ≡ Some number). inl e) (λ (m : Has number xs). inr (has_left number xs ys m)) h

has_right : (number : ℕ) (xs ys : List Site) → Has number ys → Has number (xs ++ ys)
has_right number [] ys h = h
has_right number (x ∷ xs) ys h = inr (has_right number xs ys h)

or_true : (b : Bool) → (b || true) ≡ true
or_true true = refl
or_true false = refl

has_among : (number : ℕ) (xs : List Site) → Has number xs → is_among number (unbounded xs) ≡ true
has_among number [] h = absurd h
has_among number (x ∷ xs) h = of (unbounded_at x) h (λ m. has_among number xs m)
  where
    of : (o : Option ℕ) → (o ≡ Some number) ⊎ Has number xs → (Has number xs → is_among number (unbounded xs) ≡ true) → is_among number (and_one o (unbounded xs)) ≡ true
    of None here later = ⊎_elim (λ (e : None ≡ Some number). absurd (none-some number e)) (λ (m : Has number xs). later m) here
    of (Some own) here later = ⊎_elim
        (λ (e : Some own ≡ Some number). ap (λ b. b || is_among number (unbounded xs)) (eq-eqb number own (sym (same_Some own number e))))
        (λ (m : Has number xs). ap (λ b. nat_eq number own || b) (later m) ∙ or_true (nat_eq number own))
        here

-- bounds for such a loop
pub record Stands (sites : List Site) (number : ℕ) (bounds : Bounds) : Type 0 where
  pub there : Has number sites
  pub ordered : bounds.min ≤ bounds.max
  pub limited : bounds.max ≤ 2147483647

abbrev pub Own : List Site → Option Bounds → (number : ℕ) → Type 0
Own sites None number = Unit {0}
Own sites (Some bounds) number = Stands sites number bounds

abbrev pub FormStands : List Site → LoopForm → Type 0
FormStands sites l = Own sites l.derived l.number

own_more : (xs ys : List Site) → ((number : ℕ) → Has number xs → Has number ys) → (own : Option Bounds) (number : ℕ) → Own xs own number → Own ys own number
own_more xs ys more None number h = tt
own_more xs ys more (Some bounds) number h = record { there = more number h.there; ordered = h.ordered; limited = h.limited }

each_more : (xs ys : List Site) → ((number : ℕ) → Has number xs → Has number ys) → (ls : List LoopForm) → Each (FormStands xs) ls → Each (FormStands ys) ls
each_more xs ys more ls h = each_weaken (FormStands xs) (FormStands ys) (λ l s. own_more xs ys more l.derived l.number s) ls h

-- bounds that are derived are bounds
abbrev Within : Bounds → Type 0
Within bounds = (bounds.min ≤ bounds.max) × (bounds.max ≤ 2147483647)

least_below : (left : Bool) (n : ℕ) → least_turns left n ≤ n
least_below true n = omega arith
least_below false n = omega arith

by_within : (left : Bool) (n : ℕ) (bounds : Bounds) → bounds_by left n ≡ Some bounds → Within bounds
by_within left n bounds h =
    let made : Bounds = record { min = least_turns left n; max = n } in
    let a = only_if_parts (nat_le n 2147483647) (Some made) bounds h in
    subst Within (same_Some made bounds a.1) (least_below left n, leb-true n 2147483647 a.0)

counting_within : (variables : List Variable) (start : c.ForStart) (test step : Option c.Expr) (body : c.Statement) (bounds : Bounds) → counting variables start test step body ≡ Some bounds → Within bounds
counting_within variables start test step body bounds e =
    let p = parts variables start test step body bounds e in
    by_within (leaves true body) (turns p.first p.limit p.by) bounds p.bounds_are

own_loop : (number : ℕ) (bound : Option Pragma) (at : ℕ) (rest : List Site) (counted : Option Bounds) → ((bounds : Bounds) → counted ≡ Some bounds → Within bounds) → Own (loop_site number bound at ∷ rest) (unless_written bound counted) number
own_loop number (Some pragma) at rest counted within = tt
own_loop number None at rest None within = tt
own_loop number None at rest (Some bounds) within = let w = within bounds refl in record { there = inl refl; ordered = w.0; limited = w.1 }

module _ (variables : List Variable) where
  mutual
    statement_stands : (s : c.Statement) → Each (FormStands (statement_sites variables s)) (statement_loops variables s)
    statement_stands (c.Block items at) = items_stand items
    statement_stands (c.Empty at) = tt
    statement_stands (c.Evaluate e at) = tt
    statement_stands (c.Marker number pragma) = tt
    statement_stands (c.If test first at) = statement_stands first
    statement_stands (c.IfElse test first second at) =
        let xs = statement_sites variables first in
        let ys = statement_sites variables second in
        each_append (FormStands (xs ++ ys)) (statement_loops variables first) (statement_loops variables second) (each_more xs (xs ++ ys) (λ n h. has_left n xs ys h) (statement_loops variables first) (statement_stands first))
        (each_more ys (xs ++ ys) (λ n h. has_right n xs ys h) (statement_loops variables second) (statement_stands second))
    statement_stands (c.While number bound test body at) =
        let ys = statement_sites variables body in
        (tt, each_more ys (loop_site number bound at ∷ ys) (λ n h. inr h) (statement_loops variables body) (statement_stands body))
    statement_stands (c.Do number bound body test at) =
        let ys = statement_sites variables body in
        (tt, each_more ys (loop_site number bound at ∷ ys) (λ n h. inr h) (statement_loops variables body) (statement_stands body))
    statement_stands (c.For number bound start test step body at) =
        let xs = start_sites variables start in
        let ys = statement_sites variables body in (
          own_loop number bound at (xs ++ ys) (counting variables start test step body) (λ bounds e. counting_within variables start test step body bounds e),
          each_more ys (loop_site number bound at ∷ (xs ++ ys)) (λ n h. inr (has_right n xs ys h)) (statement_loops variables body) (statement_stands body),
        )
    statement_stands (c.Switch test items at) = items_stand items
    statement_stands (c.Break at) = tt
    statement_stands (c.Continue at) = tt
    statement_stands (c.Return value at) = tt

    items_stand : (items : c.Items) → Each (FormStands (items_sites variables items)) (items_loops variables items)
    items_stand c.NoItem = tt
    items_stand (c.WithDeclaration declaration rest) =
        let xs = declaration_sites variables declaration in
        let ys = items_sites variables rest in
        each_more ys (xs ++ ys) (λ n h. has_right n xs ys h) (items_loops variables rest) (items_stand rest)
    items_stand (c.WithStatement statement rest) =
        let xs = statement_sites variables statement in
        let ys = items_sites variables rest in
        each_append (FormStands (xs ++ ys)) (statement_loops variables statement) (items_loops variables rest) (each_more xs (xs ++ ys) (λ n h. has_left n xs ys h) (statement_loops variables statement) (statement_stands statement))
        (each_more ys (xs ++ ys) (λ n h. has_right n xs ys h) (items_loops variables rest) (items_stand rest))
    items_stand (c.WithRestriction pragma rest) =
        let ys = items_sites variables rest in
        each_more ys (items_sites variables (c.WithRestriction pragma rest)) (λ n h. inr h) (items_loops variables rest) (items_stand rest)
    items_stand (c.WithLabel label rest) = items_stand rest

-- what holds of the loops of each function holds of all
pub each_of_functions : (P : LoopForm → Type 0) (variables : List Variable) (fs : List c.Function) → ((g : ℕ) (f : c.Function) → slice_get fs g ≡ Some f → Each P (function_loops variables f)) → Each P (functions_loops variables fs)
each_of_functions P variables [] h = tt
each_of_functions P variables (f ∷ rest) h = each_append P (function_loops variables f) (functions_loops variables rest) (h 0 f refl) (each_of_functions P variables rest (λ g x e. h (suc g) x e))

module _ (outline : Outline) (items : Row (External ℕ)) (program : c.Program) (unit : IsUnit outline items program) where
  has_before : (row : Row (External ℕ)) (number : ℕ) (rest : List c.External) → Has number (externals_sites program rest) → Has number (externals_sites program (typed_row after_external and_external row (started outline) rest))
  has_before Nothing number rest h = h
  has_before (Then front last) number rest h =
      let made = typed_external last (behind outline front) in
      has_before front number (made ∷ rest) (has_right number (external_sites program made) (externals_sites program rest) h)

  has_part : (row : Row (External ℕ)) (number : ℕ) (rest : List c.External) (front : Row (External ℕ)) (x : External ℕ) → IsFront (Then front x) row → Has number (external_sites program (typed_external x (behind outline front))) →
      Has number (externals_sites program (typed_row after_external and_external row (started outline) rest))
  has_part Nothing number rest front x part h = absurd (false≢true (ap is_nothing part))
  has_part (Then before last) number rest front x part h =
      let made = typed_external last (behind outline before) in
      ⊎_elim
      (λ (e : Then front x ≡ Then before last). has_before before number (made ∷ rest) (has_left number (external_sites program made) (externals_sites program rest) (subst AtPart e h)))
      (λ (m : IsFront (Then front x) before). has_part before number (made ∷ rest) front x m h)
      part
    where
      AtPart : Row (External ℕ) → Type 0
      AtPart Nothing = Unit {0}
      AtPart (Then front x) = Has number (external_sites program (typed_external x (behind outline front)))

  -- the loops of a body are loops of the program
  has_body : (front : Row (External ℕ)) (d : Definition) → IsFront (Then front (external_by d)) items → (number : ℕ) → Has number (items_sites program.variables (typed_items (kind_spelled d.specifiers) d.body (begun_by d (behind outline front)) c.NoItem)) → Has number (sites_of program)
  has_body front d part number h =
      let now = behind outline front in
      let own : Has number (external_sites program (typed_external (external_by d) now)) = subst (λ o. Has number (function_sites program.variables o)) (sym (function_at outline items program unit front d part)) (inr h) in
      subst (λ l. Has number (externals_sites program l)) (sym unit.items_are) (has_part items number [] front (external_by d) part own)

  all_stand : Each (FormStands (sites_of program)) (loops_of program)
  all_stand = each_of_functions (FormStands (sites_of program)) program.variables program.functions (λ g f e. of g f (defined outline items g f (ap (λ l. slice_get l g) (sym unit.functions_are) ∙ e)))
    where
      of : (g : ℕ) (f : c.Function) → IsDefined outline items g f → Each (FormStands (sites_of program)) (function_loops program.variables f)
      of g f x =
          let body = typed_items (kind_spelled x.definition.specifiers) x.definition.body (begun_by x.definition (behind outline x.front)) c.NoItem in
          subst (λ y. Each (FormStands (sites_of program)) (function_loops program.variables y)) (sym x.function_is)
          (each_more (items_sites program.variables body) (sites_of program) (λ number h. has_body x.front x.definition x.part number h) (items_loops program.variables body) (items_stand program.variables body))

-- so each is derived
each_derived : (program : c.Program) (ls : List LoopForm) → Each (FormStands (sites_of program)) ls → Each (IsDerived program) (derived_among ls)
each_derived program [] h = tt
each_derived program (l ∷ rest) h = of l.derived h.0 (each_derived program rest h.1)
  where
    of : (own : Option Bounds) → Own (sites_of program) own l.number → Each (IsDerived program) (derived_among rest) → Each (IsDerived program) (and_one (derived_by l.number own) (derived_among rest))
    of None s others = others
    of (Some bounds) s others = (record { loop = has_among l.number (sites_of program) s.there; ordered = s.ordered; limited = s.limited }, others)

-- of a typed program
pub all_derived : (names : List (List ℕ)) (program : c.Program) → HasTree names program → All (IsDerived program) (derived_of program)
all_derived names program tree =
    let u = of_tree names program tree in
    all_of (IsDerived program) (derived_of program) (each_derived program (loops_of program) (all_stand (outline_of names (Whole u.items u.at)) u.items program u.is_unit))
