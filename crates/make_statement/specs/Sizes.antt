-- How many statements stand within others.
use Rattle.std.specs.Prelude.{ℕ, ◌+◌}
use Rattle.types_tree.specs.Tree.{Statement, Block, Empty, Evaluate, Marker, If, IfElse, While, Do, For, Switch, Break, Continue, Return, Items, NoItem, WithDeclaration, WithStatement, WithRestriction, WithLabel}
use Rattle.types_tree.specs.View.{statement_of}
use Rattle.types_tree.specs.declared.statement.Item.{Item}
use Rattle.types_tree.specs.declared.statement.Item.TheVariants as item

abbrev mutual
  pub statement_size : Statement → ℕ
  statement_size (Block items at) = items_size items + 1
  statement_size (Empty at) = 1
  statement_size (Evaluate value at) = 1
  statement_size (Marker number pragma) = 1
  statement_size (If test first at) = statement_size first + 1
  statement_size (IfElse test first second at) = statement_size first + statement_size second + 1
  statement_size (While number bound test body at) = statement_size body + 1
  statement_size (Do number bound body test at) = statement_size body + 1
  statement_size (For number bound start test step body at) = statement_size body + 1
  statement_size (Switch test items at) = items_size items + 1
  statement_size (Break at) = 1
  statement_size (Continue at) = 1
  statement_size (Return value at) = 1

  pub items_size : Items → ℕ
  items_size NoItem = 0
  items_size (WithDeclaration declaration rest) = items_size rest
  items_size (WithStatement statement rest) = statement_size statement + items_size rest
  items_size (WithRestriction pragma rest) = items_size rest
  items_size (WithLabel label rest) = items_size rest

abbrev pub item_size : Item → ℕ
item_size (item.Declaration declaration) = 0
item_size (item.Statement statement) = statement_size (statement_of statement)
item_size (item.Restriction pragma) = 0
item_size (item.Label label) = 0
