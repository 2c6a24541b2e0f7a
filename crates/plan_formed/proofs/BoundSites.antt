-- The fillings in a program whose arrays have few elements.
use Rattle.std.proofs.Common.{ℕ, ◌-◌, ◌≤◌, List, [], ◌∷◌, ◌++◌, Option, Some, None, arith, All}
use Rattle.std.specs.Prelude.{slice_get}
use Rattle.std.proofs.lemmas.List.Elements.{All-append, All-cons, All-nil}
use Rattle.facts_definitions.specs.Sites.{count_exprs, declaration_sites, elements_of, external_sites, externals_sites, filling_sites, function_sites, initial_sites, items_sites, loop_site, object_sites, objects_sites, start_sites, statement_sites}
use Rattle.facts_definitions.specs.declared.site.Site.{Site}
use Rattle.facts_definitions.specs.declared.site.Site.TheVariants as sites
use Rattle.c_tree.specs.declared.pragma.Pragma.{Pragma}
use Rattle.types_tree.specs.Tree as c
use Rattle.types_tree.specs.declared.variable.Variable.{Variable}

abbrev pub Fits : Site → Type 0
Fits (sites.Bounded number pragma) = Unit {0}
Fits (sites.Unbounded number at) = Unit {0}
Fits (sites.Filling number count) = count ≤ 262144
Fits (sites.Marker pragma) = Unit {0}
Fits (sites.Restriction pragma) = Unit {0}
Fits (sites.Function name) = Unit {0}

filling_fits : (left : ℕ) (number : Option ℕ) → left ≤ 262144 → All Fits (filling_sites left number)
filling_fits left None h = All-nil Fits
filling_fits left (Some number) h = All-cons Fits (sites.Filling number left) [] h (All-nil Fits)

initial_fits : (n : ℕ) (initial : c.Initial) → n ≤ 262144 → All Fits (initial_sites n initial)
initial_fits n c.Absent h = All-nil Fits
initial_fits n (c.Value e) h = All-nil Fits
initial_fits n (c.Listed values comma number) h = filling_fits (n - count_exprs values) number (omega (arith, h))

loop_fits : (number : ℕ) (bound : Option Pragma) (at : ℕ) → Fits (loop_site number bound at)
loop_fits number None at = tt
loop_fits number (Some pragma) at = tt

module _ (variables : List Variable) (few : (object : ℕ) → elements_of (slice_get variables object) ≤ 262144) where
  object_fits : (o : c.Object) → All Fits (object_sites variables o)
  object_fits (c.Declared object shape initial at) = initial_fits (elements_of (slice_get variables object)) initial (few object)

  objects_fit : (objects : List c.Object) → All Fits (objects_sites variables objects)
  objects_fit [] = All-nil Fits
  objects_fit (o ∷ rest) = All-append Fits (object_sites variables o) (objects_sites variables rest) (object_fits o) (objects_fit rest)

  declaration_fits : (declaration : c.Declaration) → All Fits (declaration_sites variables declaration)
  declaration_fits (c.Objects specifiers objects at) = objects_fit objects
  declaration_fits (c.Prototype specifiers name params at) = All-cons Fits (sites.Function (record { 0 = name })) [] tt (All-nil Fits)

  start_fits : (start : c.ForStart) → All Fits (start_sites variables start)
  start_fits c.NoStart = All-nil Fits
  start_fits (c.StartValue e) = All-nil Fits
  start_fits (c.StartDeclaration declaration) = declaration_fits declaration

  mutual
    statement_fits : (s : c.Statement) → All Fits (statement_sites variables s)
    statement_fits (c.Block items at) = items_fit items
    statement_fits (c.Empty at) = All-nil Fits
    statement_fits (c.Evaluate e at) = All-nil Fits
    statement_fits (c.Marker number pragma) = All-cons Fits (sites.Marker pragma) [] tt (All-nil Fits)
    statement_fits (c.If test first at) = statement_fits first
    statement_fits (c.IfElse test first second at) = All-append Fits (statement_sites variables first) (statement_sites variables second) (statement_fits first) (statement_fits second)
    statement_fits (c.While number bound test body at) = All-cons Fits (loop_site number bound at) (statement_sites variables body) (loop_fits number bound at) (statement_fits body)
    statement_fits (c.Do number bound body test at) = All-cons Fits (loop_site number bound at) (statement_sites variables body) (loop_fits number bound at) (statement_fits body)
    statement_fits (c.For number bound start test step body at) =
        All-cons Fits (loop_site number bound at) (start_sites variables start ++ statement_sites variables body) (loop_fits number bound at)
        (All-append Fits (start_sites variables start) (statement_sites variables body) (start_fits start) (statement_fits body))
    statement_fits (c.Switch test items at) = items_fit items
    statement_fits (c.Break at) = All-nil Fits
    statement_fits (c.Continue at) = All-nil Fits
    statement_fits (c.Return value at) = All-nil Fits

    items_fit : (items : c.Items) → All Fits (items_sites variables items)
    items_fit c.NoItem = All-nil Fits
    items_fit (c.WithDeclaration declaration rest) = All-append Fits (declaration_sites variables declaration) (items_sites variables rest) (declaration_fits declaration) (items_fit rest)
    items_fit (c.WithStatement statement rest) = All-append Fits (statement_sites variables statement) (items_sites variables rest) (statement_fits statement) (items_fit rest)
    items_fit (c.WithRestriction pragma rest) = All-cons Fits (sites.Restriction pragma) (items_sites variables rest) tt (items_fit rest)
    items_fit (c.WithLabel label rest) = items_fit rest

  function_fits : (f : Option c.Function) → All Fits (function_sites variables f)
  function_fits None = All-nil Fits
  function_fits (Some (c.Defined specifiers name name_at params first body body_at at)) = All-cons Fits (sites.Function (record { 0 = name })) (items_sites variables body) tt (items_fit body)

module _ (program : c.Program) (few : (object : ℕ) → elements_of (slice_get program.variables object) ≤ 262144) where
  external_fits : (e : c.External) → All Fits (external_sites program e)
  external_fits (c.Restriction pragma) = All-cons Fits (sites.Restriction pragma) [] tt (All-nil Fits)
  external_fits (c.Declaring declaration) = declaration_fits program.variables few declaration
  external_fits (c.Defining number) = function_fits program.variables few (slice_get program.functions number)

  pub externals_fit : (es : List c.External) → All Fits (externals_sites program es)
  externals_fit [] = All-nil Fits
  externals_fit (e ∷ rest) = All-append Fits (external_sites program e) (externals_sites program rest) (external_fits e) (externals_fit rest)
