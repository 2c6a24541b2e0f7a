-- The facts of a program have a bound for each loop of its typed tree, and a name for each marker.
use Rattle.std.proofs.Common.{◌≡◌, ℕ, ◌+◌, List, [], ◌∷◌, ◌++◌, length, Option, Some, None, refl, sym, ◌∙◌, arith}
use Rattle.std.specs.Prelude.{slice_get}
use Rattle.std.proofs.lemmas.Option.{none-some}
use Rattle.facts_definitions.specs.FlowFacts.{Known, and_one, bounds_at_site, first_fault, gathered, is_marker, marker_at, numbered, or_else, site_fault, when_not}
use Rattle.facts_definitions.specs.PragmaTexts.{marker_name}
use Rattle.facts_definitions.specs.Sites.{declaration_sites, elements_of, initial_sites, items_sites, loop_site, object_sites, objects_sites, start_sites, statement_sites}
use Rattle.facts_definitions.specs.declared.facts.Derived.{Derived}
use Rattle.facts_definitions.specs.declared.facts.FlowFault.{FlowFault}
use Rattle.facts_definitions.specs.declared.facts.FlowFault.TheVariants.{BadPragma}
use Rattle.facts_definitions.specs.declared.site.Site.{Site}
use Rattle.facts_definitions.specs.declared.site.Site.TheVariants as sites
use Rattle.c_tree.specs.declared.pragma.Pragma.{Pragma}
use Rattle.types_tree.specs.Tree as c
use Rattle.types_tree.specs.declared.variable.Variable.{Variable}
use Rattle.plan_definition.specs.Statements.{fillings_in, fillings_of, loops_before}
use Rattle.plan_forms.specs.Numbers.{declaration_loops, items_loops, statement_loops}
use Rattle.plan_formed.specs.Placed.{items_markers, statement_markers}

-- how much sites give
abbrev pub given : {A : Type 0} → (Site → Option A) → List Site → ℕ
given f all = length (gathered f all)

and_one_length : {A : Type 0} (o : Option A) (xs ys : List A) (n : ℕ) → length xs ≡ length ys + n → length (and_one o xs) ≡ length (and_one o ys) + n
and_one_length None xs ys n e = e
and_one_length (Some x) xs ys n e = omega (arith, e)

pub given-append : {A : Type 0} (f : Site → Option A) (xs ys : List Site) → given f (xs ++ ys) ≡ given f xs + given f ys
given-append f [] ys = zero_plus (given f ys)
  where
    zero_plus : (n : ℕ) → n ≡ 0 + n
    zero_plus n = omega arith
given-append f (x ∷ xs) ys = and_one_length (f x) (gathered f (xs ++ ys)) (gathered f xs) (given f ys) (given-append f xs ys)

-- bounds
module _ (derived : List Derived) (variables : List Variable) where
  abbrev pub bounds : List Site → ℕ
  bounds all = given (bounds_at_site derived) all

  initial_bounds : (elements : ℕ) (initial : c.Initial) → bounds (initial_sites elements initial) ≡ fillings_of initial
  initial_bounds elements c.Absent = refl
  initial_bounds elements (c.Value e) = refl
  initial_bounds elements (c.Listed values comma None) = refl
  initial_bounds elements (c.Listed values comma (Some number)) = refl

  objects_bounds : (objects : List c.Object) → bounds (objects_sites variables objects) ≡ fillings_in objects
  objects_bounds [] = refl
  objects_bounds (c.Declared object shape initial at ∷ rest) =
      let here = object_sites variables (c.Declared object shape initial at) in
      omega (arith, given-append (bounds_at_site derived) here (objects_sites variables rest), initial_bounds (elements_of (slice_get variables object)) initial, objects_bounds rest)

  pub declaration_bounds : (declaration : c.Declaration) → bounds (declaration_sites variables declaration) ≡ declaration_loops declaration
  declaration_bounds (c.Objects specifiers objects at) = objects_bounds objects
  declaration_bounds (c.Prototype specifiers name params at) = refl

  start_bounds : (start : c.ForStart) → bounds (start_sites variables start) ≡ loops_before start
  start_bounds c.NoStart = refl
  start_bounds (c.StartValue e) = refl
  start_bounds (c.StartDeclaration (c.Objects specifiers objects at)) = objects_bounds objects
  start_bounds (c.StartDeclaration (c.Prototype specifiers name params at)) = refl

  loop_bounds : (number : ℕ) (pragma : Option Pragma) (at : ℕ) (rest : List Site) → bounds (loop_site number pragma at ∷ rest) ≡ 1 + bounds rest
  loop_bounds number None at rest = omega arith
  loop_bounds number (Some pragma) at rest = omega arith

  mutual
    pub statement_bounds : (s : c.Statement) → bounds (statement_sites variables s) ≡ statement_loops s
    statement_bounds (c.Block items at) = items_bounds items
    statement_bounds (c.Empty at) = refl
    statement_bounds (c.Evaluate e at) = refl
    statement_bounds (c.Marker number pragma) = refl
    statement_bounds (c.If test first at) = statement_bounds first
    statement_bounds (c.IfElse test first second at) = omega (arith, given-append (bounds_at_site derived) (statement_sites variables first) (statement_sites variables second), statement_bounds first, statement_bounds second)
    statement_bounds (c.While number bound test body at) = omega (arith, loop_bounds number bound at (statement_sites variables body), statement_bounds body)
    statement_bounds (c.Do number bound body test at) = omega (arith, loop_bounds number bound at (statement_sites variables body), statement_bounds body)
    statement_bounds (c.For number bound start test step body at) =
        omega (arith, loop_bounds number bound at (start_sites variables start ++ statement_sites variables body), given-append (bounds_at_site derived) (start_sites variables start) (statement_sites variables body), start_bounds start, statement_bounds body)
    statement_bounds (c.Switch test items at) = items_bounds items
    statement_bounds (c.Break at) = refl
    statement_bounds (c.Continue at) = refl
    statement_bounds (c.Return value at) = refl

    pub items_bounds : (items : c.Items) → bounds (items_sites variables items) ≡ items_loops items
    items_bounds c.NoItem = refl
    items_bounds (c.WithDeclaration declaration rest) = omega (arith, given-append (bounds_at_site derived) (declaration_sites variables declaration) (items_sites variables rest), declaration_bounds declaration, items_bounds rest)
    items_bounds (c.WithStatement statement rest) = omega (arith, given-append (bounds_at_site derived) (statement_sites variables statement) (items_sites variables rest), statement_bounds statement, items_bounds rest)
    items_bounds (c.WithRestriction pragma rest) = items_bounds rest
    items_bounds (c.WithLabel label rest) = items_bounds rest

-- where no site is at fault none of them is
no_first : (a b : Option FlowFault) → or_else a b ≡ None → a ≡ None
no_first None b h = refl
no_first (Some x) b h = h

no_second : (a b : Option FlowFault) → or_else a b ≡ None → b ≡ None
no_second None b h = h
no_second (Some x) b h = absurd (none-some x (sym h))

module _ (known : Known) where
  pub rest_passes : (site : Site) (rest : List Site) → first_fault known (site ∷ rest) ≡ None → first_fault known rest ≡ None
  rest_passes site rest h = no_second (site_fault known site) (first_fault known rest) h

  pub front_passes : (xs ys : List Site) → first_fault known (xs ++ ys) ≡ None → first_fault known xs ≡ None
  front_passes [] ys h = refl
  front_passes (x ∷ xs) ys h = of (site_fault known x) (front_passes xs ys (no_second (site_fault known x) (first_fault known (xs ++ ys)) h)) (no_first (site_fault known x) (first_fault known (xs ++ ys)) h)
    where
      of : (o : Option FlowFault) → first_fault known xs ≡ None → o ≡ None → or_else o (first_fault known xs) ≡ None
      of None f h = f
      of (Some fault) f h = h

  pub behind_passes : (xs ys : List Site) → first_fault known (xs ++ ys) ≡ None → first_fault known ys ≡ None
  behind_passes [] ys h = h
  behind_passes (x ∷ xs) ys h = behind_passes xs ys (no_second (site_fault known x) (first_fault known (xs ++ ys)) h)

-- markers
module _ (known : Known) (names : List (List ℕ)) (variables : List Variable) where
  abbrev pub markers : List Site → ℕ
  markers all = given (marker_at names) all

  -- a marker that is not at fault has a name
  named : (name : Option (List ℕ)) (at : ℕ) → when_not (is_marker known name) (BadPragma at) ≡ None → length (and_one (numbered names name) []) ≡ 1
  named None at h = absurd (none-some (BadPragma at) (sym h))
  named (Some name) at h = refl

  marker_named : (pragma : Pragma) → first_fault known (sites.Marker pragma ∷ []) ≡ None → markers (sites.Marker pragma ∷ []) ≡ 1
  marker_named pragma h = named (marker_name pragma.text) pragma.at (no_first (when_not (is_marker known (marker_name pragma.text)) (BadPragma pragma.at)) None h)

  initial_markers : (elements : ℕ) (initial : c.Initial) → markers (initial_sites elements initial) ≡ 0
  initial_markers elements c.Absent = refl
  initial_markers elements (c.Value e) = refl
  initial_markers elements (c.Listed values comma None) = refl
  initial_markers elements (c.Listed values comma (Some number)) = refl

  objects_markers : (objects : List c.Object) → markers (objects_sites variables objects) ≡ 0
  objects_markers [] = refl
  objects_markers (c.Declared object shape initial at ∷ rest) =
      let here = object_sites variables (c.Declared object shape initial at) in
      omega (arith, given-append (marker_at names) here (objects_sites variables rest), initial_markers (elements_of (slice_get variables object)) initial, objects_markers rest)

  pub declaration_markers : (declaration : c.Declaration) → markers (declaration_sites variables declaration) ≡ 0
  declaration_markers (c.Objects specifiers objects at) = objects_markers objects
  declaration_markers (c.Prototype specifiers name params at) = refl

  start_markers : (start : c.ForStart) → markers (start_sites variables start) ≡ 0
  start_markers c.NoStart = refl
  start_markers (c.StartValue e) = refl
  start_markers (c.StartDeclaration declaration) = declaration_markers declaration

  loop_markers : (number : ℕ) (pragma : Option Pragma) (at : ℕ) (rest : List Site) → markers (loop_site number pragma at ∷ rest) ≡ markers rest
  loop_markers number None at rest = refl
  loop_markers number (Some pragma) at rest = refl

  mutual
    pub statement_named : (s : c.Statement) → first_fault known (statement_sites variables s) ≡ None → markers (statement_sites variables s) ≡ statement_markers s
    statement_named (c.Block items at) h = items_named items h
    statement_named (c.Empty at) h = refl
    statement_named (c.Evaluate e at) h = refl
    statement_named (c.Marker number pragma) h = marker_named pragma h
    statement_named (c.If test first at) h = statement_named first h
    statement_named (c.IfElse test first second at) h =
        let xs = statement_sites variables first in
        let ys = statement_sites variables second in
        omega (arith, given-append (marker_at names) xs ys, statement_named first (front_passes known xs ys h), statement_named second (behind_passes known xs ys h))
    statement_named (c.While number bound test body at) h =
        let xs = statement_sites variables body in
        loop_markers number bound at xs ∙ statement_named body (rest_passes known (loop_site number bound at) xs h)
    statement_named (c.Do number bound body test at) h =
        let xs = statement_sites variables body in
        loop_markers number bound at xs ∙ statement_named body (rest_passes known (loop_site number bound at) xs h)
    statement_named (c.For number bound start test step body at) h =
        let xs = start_sites variables start in
        let ys = statement_sites variables body in
        omega (arith, loop_markers number bound at (xs ++ ys), given-append (marker_at names) xs ys, start_markers start, statement_named body (behind_passes known xs ys (rest_passes known (loop_site number bound at) (xs ++ ys) h)))
    statement_named (c.Switch test items at) h = items_named items h
    statement_named (c.Break at) h = refl
    statement_named (c.Continue at) h = refl
    statement_named (c.Return value at) h = refl

    pub items_named : (items : c.Items) → first_fault known (items_sites variables items) ≡ None → markers (items_sites variables items) ≡ items_markers items
    items_named c.NoItem h = refl
    items_named (c.WithDeclaration declaration rest) h =
        let xs = declaration_sites variables declaration in
        let ys = items_sites variables rest in
        omega (arith, given-append (marker_at names) xs ys, declaration_markers declaration, items_named rest (behind_passes known xs ys h))
    items_named (c.WithStatement statement rest) h =
        let xs = statement_sites variables statement in
        let ys = items_sites variables rest in
        omega (arith, given-append (marker_at names) xs ys, statement_named statement (front_passes known xs ys h), items_named rest (behind_passes known xs ys h))
    items_named (c.WithRestriction pragma rest) h = items_named rest (rest_passes known (sites.Restriction pragma) (items_sites variables rest) h)
    items_named (c.WithLabel label rest) h = items_named rest h
