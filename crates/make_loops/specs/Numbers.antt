-- The loops of a typed program in the order of the source, fillings included, with the numbers that they have in the plan.
use Rattle.std.specs.Prelude.{ℕ, ◌+◌, ◌-◌, List, [], ◌∷◌, ◌++◌, Option, Some, None}
use Rattle.types_tree.specs.Tree as c
use Rattle.types_tree.specs.View.{declaration_of, statement_of}
use Rattle.types_tree.specs.declared.statement.Item.{Item}
use Rattle.types_tree.specs.declared.statement.Item.TheVariants as item
use Rattle.plan_definition.specs.Statements.{loops_before}
use Rattle.make_loops.specs.declared.renumbered.Renumbered.{Renumbered}

abbrev pub renumbered : (old new : ℕ) → Renumbered
renumbered old new = record { old = old; new = new }

-- a filling stands before `shift` loops whose keywords come first
abbrev pub filling_numbers : (shift : ℕ) → Option ℕ → List Renumbered
filling_numbers shift None = []
filling_numbers shift (Some number) = renumbered (number - 1) (number - 1 - shift) ∷ []

abbrev pub initial_numbers : (shift : ℕ) → c.Initial → List Renumbered
initial_numbers shift c.Absent = []
initial_numbers shift (c.Value e) = []
initial_numbers shift (c.Listed values comma number) = filling_numbers shift number

abbrev pub objects_numbers : (shift : ℕ) → List c.Object → List Renumbered
objects_numbers shift [] = []
objects_numbers shift (c.Declared object shape initial at ∷ rest) = initial_numbers shift initial ++ objects_numbers shift rest

abbrev pub declaration_numbers : (shift : ℕ) → c.Declaration → List Renumbered
declaration_numbers shift (c.Objects specifiers objects at) = objects_numbers shift objects
declaration_numbers shift (c.Prototype specifiers name params at) = []

abbrev pub start_numbers : c.ForStart → List Renumbered
start_numbers c.NoStart = []
start_numbers (c.StartValue e) = []
start_numbers (c.StartDeclaration declaration) = declaration_numbers 1 declaration

-- the loop of a `for` stands behind the fillings in its head
abbrev pub for_numbers : (number : ℕ) → c.ForStart → List Renumbered
for_numbers number start = renumbered (number - 1) (number - 1 + loops_before start) ∷ start_numbers start

abbrev mutual
  pub statement_numbers : c.Statement → List Renumbered
  statement_numbers (c.Block items at) = items_numbers items
  statement_numbers (c.Empty at) = []
  statement_numbers (c.Evaluate e at) = []
  statement_numbers (c.Marker number pragma) = []
  statement_numbers (c.If test first at) = statement_numbers first
  statement_numbers (c.IfElse test first second at) = statement_numbers first ++ statement_numbers second
  statement_numbers (c.While number bound test body at) = renumbered (number - 1) (number - 1) ∷ statement_numbers body
  statement_numbers (c.Do number bound body test at) = renumbered (number - 1) (number - 1) ∷ statement_numbers body
  statement_numbers (c.For number bound start test step body at) = for_numbers number start ++ statement_numbers body
  statement_numbers (c.Switch test items at) = items_numbers items
  statement_numbers (c.Break at) = []
  statement_numbers (c.Continue at) = []
  statement_numbers (c.Return value at) = []

  pub items_numbers : c.Items → List Renumbered
  items_numbers c.NoItem = []
  items_numbers (c.WithDeclaration declaration rest) = declaration_numbers 0 declaration ++ items_numbers rest
  items_numbers (c.WithStatement statement rest) = statement_numbers statement ++ items_numbers rest
  items_numbers (c.WithRestriction pragma rest) = items_numbers rest
  items_numbers (c.WithLabel label rest) = items_numbers rest

-- of an item, as the code has it
abbrev pub item_numbers : Item → List Renumbered
item_numbers (item.Declaration declaration) = declaration_numbers 0 (declaration_of declaration)
item_numbers (item.Statement statement) = statement_numbers (statement_of statement)
item_numbers (item.Restriction pragma) = []
item_numbers (item.Label label) = []

abbrev pub functions_numbers : List c.Function → List Renumbered
functions_numbers [] = []
functions_numbers (c.Defined specifiers name name_at params first body body_at at ∷ rest) = items_numbers body ++ functions_numbers rest
