-- What holds everywhere in a typed tree: a condition is a function of a node and of what holds of its parts.
use Rattle.std.specs.Prelude.{List, [], ◌∷◌, Option, Some, None}
use Rattle.types_tree.specs.Tree as c

-- where a node asks for nothing itself

abbrev pub plain_place : c.Place → Type 0 → Type 0
plain_place node parts = parts

abbrev pub plain : c.Expr → Type 0 → Type 0
plain node parts = parts

-- of an object there is its initial value, and what is declared behind it
abbrev pub plain_object : c.Object → Type 0 → Type 0 → Type 0
plain_object node initial rest = initial × rest

abbrev pub plain_label : c.Label → Type 0 → Type 0
plain_label node rest = rest

module _ (at_place : c.Place → Type 0 → Type 0) (at : c.Expr → Type 0 → Type 0) where
  abbrev mutual
    pub PlaceHolds : c.Place → Type 0
    PlaceHolds (c.Scalar object place) = at_place (c.Scalar object place) (Unit {0})
    PlaceHolds (c.Element array index place) = at_place (c.Element array index place) (Holds index)
    PlaceHolds (c.Within inner place) = at_place (c.Within inner place) (PlaceHolds inner)

    pub Holds : c.Expr → Type 0
    Holds (c.Number constant place) = at (c.Number constant place) (Unit {0})
    Holds (c.Character word place) = at (c.Character word place) (Unit {0})
    Holds (c.Read place) = at (c.Read place) (PlaceHolds place)
    Holds (c.Array object place) = at (c.Array object place) (Unit {0})
    Holds (c.Paren inner place) = at (c.Paren inner place) (Holds inner)
    Holds (c.Call callee arguments place) = at (c.Call callee arguments place) (AllHold arguments)
    Holds (c.Step fix operator kind target place) = at (c.Step fix operator kind target place) (PlaceHolds target)
    Holds (c.Signed operator kind operand place) = at (c.Signed operator kind operand place) (Holds operand)
    Holds (c.Cast specifiers to operand place) = at (c.Cast specifiers to operand place) (Holds operand)
    Holds (c.Convert to operand) = at (c.Convert to operand) (Holds operand)
    Holds (c.Operate operator kind left right place) = at (c.Operate operator kind left right place) (Holds left × Holds right)
    Holds (c.And left right place) = at (c.And left right place) (Holds left × Holds right)
    Holds (c.Or left right place) = at (c.Or left right place) (Holds left × Holds right)
    Holds (c.Comma left right place) = at (c.Comma left right place) (Holds left × Holds right)
    Holds (c.Conditional test first second place) = at (c.Conditional test first second place) (Holds test × Holds first × Holds second)
    Holds (c.Assign target value place) = at (c.Assign target value place) (PlaceHolds target × Holds value)
    Holds (c.Update operator kind to target value place) = at (c.Update operator kind to target value place) (PlaceHolds target × Holds value)

    pub AllHold : c.Exprs → Type 0
    AllHold c.NoExpr = Unit {0}
    AllHold (c.WithExpr first rest) = Holds first × AllHold rest

  abbrev pub OptionHolds : Option c.Expr → Type 0
  OptionHolds None = Unit {0}
  OptionHolds (Some e) = Holds e

  abbrev pub InitialHolds : c.Initial → Type 0
  InitialHolds c.Absent = Unit {0}
  InitialHolds (c.Value e) = Holds e
  InitialHolds (c.Listed values comma filling) = AllHold values

  module _ (at_object : c.Object → Type 0 → Type 0 → Type 0) (at_label : c.Label → Type 0 → Type 0) where
    abbrev pub ObjectsHold : List c.Object → Type 0
    ObjectsHold [] = Unit {0}
    ObjectsHold (c.Declared object shape initial place ∷ rest) = at_object (c.Declared object shape initial place) (InitialHolds initial) (ObjectsHold rest)

    abbrev pub DeclarationHolds : c.Declaration → Type 0
    DeclarationHolds (c.Objects specifiers objects place) = ObjectsHold objects
    DeclarationHolds (c.Prototype specifiers name params place) = Unit {0}

    abbrev pub StartHolds : c.ForStart → Type 0
    StartHolds c.NoStart = Unit {0}
    StartHolds (c.StartValue e) = Holds e
    StartHolds (c.StartDeclaration declaration) = DeclarationHolds declaration

    abbrev mutual
      pub StatementHolds : c.Statement → Type 0
      StatementHolds (c.Block items place) = ItemsHold items
      StatementHolds (c.Empty place) = Unit {0}
      StatementHolds (c.Evaluate e place) = Holds e
      StatementHolds (c.Marker number pragma) = Unit {0}
      StatementHolds (c.If test first place) = Holds test × StatementHolds first
      StatementHolds (c.IfElse test first second place) = Holds test × StatementHolds first × StatementHolds second
      StatementHolds (c.While number bound test body place) = Holds test × StatementHolds body
      StatementHolds (c.Do number bound body test place) = StatementHolds body × Holds test
      StatementHolds (c.For number bound start test step body place) = StartHolds start × OptionHolds test × OptionHolds step × StatementHolds body
      StatementHolds (c.Switch test items place) = Holds test × ItemsHold items
      StatementHolds (c.Break place) = Unit {0}
      StatementHolds (c.Continue place) = Unit {0}
      StatementHolds (c.Return value place) = OptionHolds value

      pub ItemsHold : c.Items → Type 0
      ItemsHold c.NoItem = Unit {0}
      ItemsHold (c.WithDeclaration declaration rest) = DeclarationHolds declaration × ItemsHold rest
      ItemsHold (c.WithStatement statement rest) = StatementHolds statement × ItemsHold rest
      ItemsHold (c.WithRestriction pragma rest) = ItemsHold rest
      ItemsHold (c.WithLabel label rest) = at_label label (ItemsHold rest)
