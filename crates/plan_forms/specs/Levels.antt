-- How deep typed trees are, as their plans are measured: a node of an expression takes two levels, a statement four; a conversion
-- that C implies takes one only where it stands over another.
use Rattle.std.specs.Prelude.{ℕ, ◌+◌, ◌*◌, max, List, [], ◌∷◌, Option, Some, None}
use Rattle.types_tree.specs.Tree as c

-- a conversion that C implies
abbrev pub slack : c.Expr → ℕ
slack (c.Convert to operand) = 1
slack other = 0

abbrev mutual
  pub place_levels : c.Place → ℕ
  place_levels (c.Scalar object at) = 2
  place_levels (c.Element array index at) = 2 + levels index
  place_levels (c.Within inner at) = 2 + place_levels inner

  pub levels : c.Expr → ℕ
  levels (c.Number constant at) = 2
  levels (c.Character value at) = 2
  levels (c.Read place) = place_levels place
  levels (c.Array object at) = 2
  levels (c.Paren inner at) = 2 + levels inner
  levels (c.Call callee arguments at) = 2 + all_levels arguments
  levels (c.Step fix operator kind target at) = 2 + place_levels target
  levels (c.Signed operator kind operand at) = 2 + levels operand
  levels (c.Cast specifiers to operand at) = 2 + levels operand
  levels (c.Convert to operand) = slack operand + levels operand
  levels (c.Operate operator kind left right at) = 2 + max (levels left) (levels right)
  levels (c.And left right at) = 2 + max (levels left) (levels right)
  levels (c.Or left right at) = 2 + max (levels left) (levels right)
  levels (c.Comma left right at) = 2 + max (levels left) (levels right)
  levels (c.Conditional test first second at) = 2 + max (levels test) (max (levels first) (levels second))
  levels (c.Assign target value at) = 2 + max (place_levels target) (levels value)
  levels (c.Update operator kind to target value at) = 2 + max (place_levels target) (levels value)

  pub all_levels : c.Exprs → ℕ
  all_levels c.NoExpr = 0
  all_levels (c.WithExpr first rest) = max (levels first) (all_levels rest)

-- the code of an expression is at most twice as deep as its value
abbrev pub code_levels : c.Expr → ℕ
code_levels e = 2 * levels e

abbrev pub option_levels : Option c.Expr → ℕ
option_levels None = 0
option_levels (Some e) = code_levels e

abbrev pub initial_levels : c.Initial → ℕ
initial_levels c.Absent = 0
initial_levels (c.Value e) = code_levels e
initial_levels (c.Listed values comma filling) = 2 * all_levels values

abbrev pub objects_levels : List c.Object → ℕ
objects_levels [] = 0
objects_levels (c.Declared object shape initial at ∷ rest) = max (4 + initial_levels initial) (objects_levels rest)

abbrev pub declaration_levels : c.Declaration → ℕ
declaration_levels (c.Objects specifiers objects at) = 4 + objects_levels objects
declaration_levels (c.Prototype specifiers name params at) = 4

abbrev pub start_levels : c.ForStart → ℕ
start_levels c.NoStart = 0
start_levels (c.StartValue e) = code_levels e
start_levels (c.StartDeclaration declaration) = declaration_levels declaration

abbrev mutual
  pub statement_levels : c.Statement → ℕ
  statement_levels (c.Block items at) = 4 + items_levels items
  statement_levels (c.Empty at) = 4
  statement_levels (c.Evaluate e at) = 4 + code_levels e
  statement_levels (c.Marker number pragma) = 4
  statement_levels (c.If test first at) = 4 + max (code_levels test) (statement_levels first)
  statement_levels (c.IfElse test first second at) = 4 + max (code_levels test) (max (statement_levels first) (statement_levels second))
  statement_levels (c.While number bound test body at) = 4 + max (code_levels test) (statement_levels body)
  statement_levels (c.Do number bound body test at) = 4 + max (statement_levels body) (code_levels test)
  statement_levels (c.For number bound start test step body at) = 4 + max (start_levels start) (max (option_levels test) (max (option_levels step) (statement_levels body)))
  statement_levels (c.Switch test items at) = 4 + max (code_levels test) (items_levels items)
  statement_levels (c.Break at) = 4
  statement_levels (c.Continue at) = 4
  statement_levels (c.Return value at) = 4 + option_levels value

  pub items_levels : c.Items → ℕ
  items_levels c.NoItem = 0
  items_levels (c.WithDeclaration declaration rest) = max (declaration_levels declaration) (items_levels rest)
  items_levels (c.WithStatement statement rest) = max (statement_levels statement) (items_levels rest)
  items_levels (c.WithRestriction pragma rest) = items_levels rest
  items_levels (c.WithLabel label rest) = items_levels rest
