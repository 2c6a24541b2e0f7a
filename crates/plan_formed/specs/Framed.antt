-- Typed trees whose scalars live in the frame below a number, or in memory.
use Rattle.std.specs.Prelude.{ℕ, ◌<◌, List, Option}
use Rattle.types_tree.specs.Tree as c
use Rattle.plan_definition.specs.declared.home.Home.{Home}
use Rattle.plan_definition.specs.declared.home.Home.TheVariants.{Frame, Memory}
use Rattle.plan_definition.specs.Homes.{home_of}
use Rattle.plan_forms.specs.Everywhere.{AllHold, DeclarationHolds, Holds, InitialHolds, ItemsHold, ObjectsHold, OptionHolds, PlaceHolds, StartHolds, StatementHolds, plain, plain_label}

abbrev pub LivesBelow : ℕ → Home → Type 0
LivesBelow n (Frame x) = x < n
LivesBelow n (Memory array) = Unit {0}

module _ (homes : List Home) (n : ℕ) where
  -- a scalar that is named or declared
  abbrev pub framed_place : c.Place → Type 0 → Type 0
  framed_place (c.Scalar object at) parts = LivesBelow n (home_of homes object)
  framed_place (c.Element array index at) parts = parts
  framed_place (c.Within inner at) parts = parts

  abbrev pub framed_object : c.Object → Type 0 → Type 0 → Type 0
  framed_object (c.Declared object shape initial at) own rest = LivesBelow n (home_of homes object) × own × rest

  abbrev pub PlaceFramed : c.Place → Type 0
  PlaceFramed = PlaceHolds framed_place plain

  abbrev pub Framed : c.Expr → Type 0
  Framed = Holds framed_place plain

  abbrev pub AllFramed : c.Exprs → Type 0
  AllFramed = AllHold framed_place plain

  abbrev pub OptionFramed : Option c.Expr → Type 0
  OptionFramed = OptionHolds framed_place plain

  abbrev pub InitialFramed : c.Initial → Type 0
  InitialFramed = InitialHolds framed_place plain

  abbrev pub ObjectsFramed : List c.Object → Type 0
  ObjectsFramed = ObjectsHold framed_place plain framed_object plain_label

  abbrev pub DeclarationFramed : c.Declaration → Type 0
  DeclarationFramed = DeclarationHolds framed_place plain framed_object plain_label

  abbrev pub StartFramed : c.ForStart → Type 0
  StartFramed = StartHolds framed_place plain framed_object plain_label

  abbrev pub StatementFramed : c.Statement → Type 0
  StatementFramed = StatementHolds framed_place plain framed_object plain_label

  abbrev pub ItemsFramed : c.Items → Type 0
  ItemsFramed = ItemsHold framed_place plain framed_object plain_label
