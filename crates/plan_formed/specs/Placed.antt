-- Typed trees whose markers have numbers below a number, and whose jumps have somewhere to go.
use Rattle.std.specs.Prelude.{◌≡◌, ℕ, ◌+◌, ◌<◌, Bool, true}
use Rattle.types_tree.specs.Tree as c

abbrev mutual
  pub StatementPlaced : (markers : ℕ) (out next : Bool) → c.Statement → Type 0
  StatementPlaced markers out next (c.Block items at) = ItemsPlaced markers out next items
  StatementPlaced markers out next (c.Empty at) = Unit {0}
  StatementPlaced markers out next (c.Evaluate e at) = Unit {0}
  StatementPlaced markers out next (c.Marker number pragma) = number < markers
  StatementPlaced markers out next (c.If test first at) = StatementPlaced markers out next first
  StatementPlaced markers out next (c.IfElse test first second at) = StatementPlaced markers out next first × StatementPlaced markers out next second
  StatementPlaced markers out next (c.While number bound test body at) = StatementPlaced markers true true body
  StatementPlaced markers out next (c.Do number bound body test at) = StatementPlaced markers true true body
  StatementPlaced markers out next (c.For number bound start test step body at) = StatementPlaced markers true true body
  StatementPlaced markers out next (c.Switch test items at) = ItemsPlaced markers true next items
  StatementPlaced markers out next (c.Break at) = out ≡ true
  StatementPlaced markers out next (c.Continue at) = next ≡ true
  StatementPlaced markers out next (c.Return value at) = Unit {0}

  pub ItemsPlaced : (markers : ℕ) (out next : Bool) → c.Items → Type 0
  ItemsPlaced markers out next c.NoItem = Unit {0}
  ItemsPlaced markers out next (c.WithDeclaration declaration rest) = ItemsPlaced markers out next rest
  ItemsPlaced markers out next (c.WithStatement statement rest) = StatementPlaced markers out next statement × ItemsPlaced markers out next rest
  ItemsPlaced markers out next (c.WithRestriction pragma rest) = ItemsPlaced markers out next rest
  ItemsPlaced markers out next (c.WithLabel label rest) = ItemsPlaced markers out next rest

-- how many markers stand in typed trees
abbrev mutual
  pub statement_markers : c.Statement → ℕ
  statement_markers (c.Block items at) = items_markers items
  statement_markers (c.Empty at) = 0
  statement_markers (c.Evaluate e at) = 0
  statement_markers (c.Marker number pragma) = 1
  statement_markers (c.If test first at) = statement_markers first
  statement_markers (c.IfElse test first second at) = statement_markers first + statement_markers second
  statement_markers (c.While number bound test body at) = statement_markers body
  statement_markers (c.Do number bound body test at) = statement_markers body
  statement_markers (c.For number bound start test step body at) = statement_markers body
  statement_markers (c.Switch test items at) = items_markers items
  statement_markers (c.Break at) = 0
  statement_markers (c.Continue at) = 0
  statement_markers (c.Return value at) = 0

  pub items_markers : c.Items → ℕ
  items_markers c.NoItem = 0
  items_markers (c.WithDeclaration declaration rest) = items_markers rest
  items_markers (c.WithStatement statement rest) = statement_markers statement + items_markers rest
  items_markers (c.WithRestriction pragma rest) = items_markers rest
  items_markers (c.WithLabel label rest) = items_markers rest
