-- How many loops stand in typed trees, fillings included, and the trees that number them in the order of the source, from 1 on.
use Rattle.std.specs.Prelude.{◌≡◌, ℕ, ◌+◌, List, [], ◌∷◌, Some, None}
use Rattle.types_tree.specs.Tree as c
use Rattle.plan_definition.specs.Statements.{fillings_in, fillings_of, loops_before}
use Rattle.plan_forms.specs.Programs.{body_of}

abbrev pub declaration_loops : c.Declaration → ℕ
declaration_loops (c.Objects specifiers objects at) = fillings_in objects
declaration_loops (c.Prototype specifiers name params at) = 0

abbrev mutual
  pub statement_loops : c.Statement → ℕ
  statement_loops (c.Block items at) = items_loops items
  statement_loops (c.Empty at) = 0
  statement_loops (c.Evaluate e at) = 0
  statement_loops (c.Marker number pragma) = 0
  statement_loops (c.If test first at) = statement_loops first
  statement_loops (c.IfElse test first second at) = statement_loops first + statement_loops second
  statement_loops (c.While number bound test body at) = 1 + statement_loops body
  statement_loops (c.Do number bound body test at) = 1 + statement_loops body
  statement_loops (c.For number bound start test step body at) = 1 + loops_before start + statement_loops body
  statement_loops (c.Switch test items at) = items_loops items
  statement_loops (c.Break at) = 0
  statement_loops (c.Continue at) = 0
  statement_loops (c.Return value at) = 0

  pub items_loops : c.Items → ℕ
  items_loops c.NoItem = 0
  items_loops (c.WithDeclaration declaration rest) = declaration_loops declaration + items_loops rest
  items_loops (c.WithStatement statement rest) = statement_loops statement + items_loops rest
  items_loops (c.WithRestriction pragma rest) = items_loops rest
  items_loops (c.WithLabel label rest) = items_loops rest

-- where so many loops stand before
abbrev pub InitialNumbered : (before : ℕ) → c.Initial → Type 0
InitialNumbered before c.Absent = Unit {0}
InitialNumbered before (c.Value e) = Unit {0}
InitialNumbered before (c.Listed values comma None) = Unit {0}
InitialNumbered before (c.Listed values comma (Some number)) = number ≡ before + 1

abbrev pub ObjectsNumbered : (before : ℕ) → List c.Object → Type 0
ObjectsNumbered before [] = Unit {0}
ObjectsNumbered before (c.Declared object shape initial at ∷ rest) = InitialNumbered before initial × ObjectsNumbered (before + fillings_of initial) rest

abbrev pub DeclarationNumbered : (before : ℕ) → c.Declaration → Type 0
DeclarationNumbered before (c.Objects specifiers objects at) = ObjectsNumbered before objects
DeclarationNumbered before (c.Prototype specifiers name params at) = Unit {0}

abbrev pub StartNumbered : (before : ℕ) → c.ForStart → Type 0
StartNumbered before c.NoStart = Unit {0}
StartNumbered before (c.StartValue e) = Unit {0}
StartNumbered before (c.StartDeclaration declaration) = DeclarationNumbered before declaration

abbrev mutual
  pub StatementNumbered : (before : ℕ) → c.Statement → Type 0
  StatementNumbered before (c.Block items at) = ItemsNumbered before items
  StatementNumbered before (c.Empty at) = Unit {0}
  StatementNumbered before (c.Evaluate e at) = Unit {0}
  StatementNumbered before (c.Marker number pragma) = Unit {0}
  StatementNumbered before (c.If test first at) = StatementNumbered before first
  StatementNumbered before (c.IfElse test first second at) = StatementNumbered before first × StatementNumbered (before + statement_loops first) second
  StatementNumbered before (c.While number bound test body at) = (number ≡ before + 1) × StatementNumbered (before + 1) body
  StatementNumbered before (c.Do number bound body test at) = (number ≡ before + 1) × StatementNumbered (before + 1) body
  StatementNumbered before (c.For number bound start test step body at) = (number ≡ before + 1) × StartNumbered (before + 1) start × StatementNumbered (before + 1 + loops_before start) body
  StatementNumbered before (c.Switch test items at) = ItemsNumbered before items
  StatementNumbered before (c.Break at) = Unit {0}
  StatementNumbered before (c.Continue at) = Unit {0}
  StatementNumbered before (c.Return value at) = Unit {0}

  pub ItemsNumbered : (before : ℕ) → c.Items → Type 0
  ItemsNumbered before c.NoItem = Unit {0}
  ItemsNumbered before (c.WithDeclaration declaration rest) = DeclarationNumbered before declaration × ItemsNumbered (before + declaration_loops declaration) rest
  ItemsNumbered before (c.WithStatement statement rest) = StatementNumbered before statement × ItemsNumbered (before + statement_loops statement) rest
  ItemsNumbered before (c.WithRestriction pragma rest) = ItemsNumbered before rest
  ItemsNumbered before (c.WithLabel label rest) = ItemsNumbered before rest

abbrev pub functions_loops : List c.Function → ℕ
functions_loops [] = 0
functions_loops (f ∷ rest) = items_loops (body_of f) + functions_loops rest

abbrev pub FunctionsNumbered : (before : ℕ) → List c.Function → Type 0
FunctionsNumbered before [] = Unit {0}
FunctionsNumbered before (f ∷ rest) = ItemsNumbered before (body_of f) × FunctionsNumbered (before + items_loops (body_of f)) rest
