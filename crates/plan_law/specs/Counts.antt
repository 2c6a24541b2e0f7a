-- Typed trees whose labels and elements are fewer than words count.
use Rattle.std.specs.Prelude.{ℕ, ◌+◌, ◌<◌, ◌^◌, List, [], ◌∷◌, Option, Some, None}
use Rattle.facts_definitions.specs.Most.{bounds_at}
use Rattle.facts_definitions.specs.Sites.{count_exprs}
use Rattle.facts_definitions.specs.declared.facts.Bounds.{Bounds}
use Rattle.types_tree.specs.Tree as c
use Rattle.plan_definition.specs.Statements.{label_count}

-- among loops with these bounds
module _ (bounds : List Bounds) where
  -- a list of so many values, and the elements that it leaves over
  abbrev pub FillingCounted : (count : ℕ) → Option ℕ → Type 0
  FillingCounted count None = Unit {0}
  FillingCounted count (Some number) = count + (bounds_at bounds number).max < 2 ^ 32

  abbrev pub InitialCounted : c.Initial → Type 0
  InitialCounted c.Absent = Unit {0}
  InitialCounted (c.Value e) = Unit {0}
  InitialCounted (c.Listed values comma filling) = (count_exprs values < 2 ^ 32) × FillingCounted (count_exprs values) filling

  abbrev pub ObjectsCounted : List c.Object → Type 0
  ObjectsCounted [] = Unit {0}
  ObjectsCounted (c.Declared object shape initial at ∷ rest) = InitialCounted initial × ObjectsCounted rest

  abbrev pub DeclarationCounted : c.Declaration → Type 0
  DeclarationCounted (c.Objects specifiers objects at) = ObjectsCounted objects
  DeclarationCounted (c.Prototype specifiers name params at) = Unit {0}

  abbrev pub StartCounted : c.ForStart → Type 0
  StartCounted c.NoStart = Unit {0}
  StartCounted (c.StartValue e) = Unit {0}
  StartCounted (c.StartDeclaration declaration) = DeclarationCounted declaration

  abbrev mutual
    pub StatementCounted : c.Statement → Type 0
    StatementCounted (c.Block items at) = ItemsCounted items
    StatementCounted (c.Empty at) = Unit {0}
    StatementCounted (c.Evaluate e at) = Unit {0}
    StatementCounted (c.Marker number pragma) = Unit {0}
    StatementCounted (c.If test first at) = StatementCounted first
    StatementCounted (c.IfElse test first second at) = StatementCounted first × StatementCounted second
    StatementCounted (c.While number bound test body at) = StatementCounted body
    StatementCounted (c.Do number bound body test at) = StatementCounted body
    StatementCounted (c.For number bound start test step body at) = StartCounted start × StatementCounted body
    StatementCounted (c.Switch test items at) = (1 + label_count items < 2 ^ 32) × ItemsCounted items
    StatementCounted (c.Break at) = Unit {0}
    StatementCounted (c.Continue at) = Unit {0}
    StatementCounted (c.Return value at) = Unit {0}

    pub ItemsCounted : c.Items → Type 0
    ItemsCounted c.NoItem = Unit {0}
    ItemsCounted (c.WithDeclaration declaration rest) = DeclarationCounted declaration × ItemsCounted rest
    ItemsCounted (c.WithStatement statement rest) = StatementCounted statement × ItemsCounted rest
    ItemsCounted (c.WithRestriction pragma rest) = ItemsCounted rest
    ItemsCounted (c.WithLabel label rest) = ItemsCounted rest
