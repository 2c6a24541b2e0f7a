-- Typed trees in which no conversion that C implies stands right over another or right under `&&` or `||`, and in which arrays that are
-- filled have written sizes.
use Rattle.std.specs.Prelude.{◌≡◌, List, Option, Some, None}
use Rattle.types_tree.specs.Tree as c
use Rattle.plan_forms.specs.Levels.{slack}
use Rattle.plan_forms.specs.Everywhere.{AllHold, DeclarationHolds, Holds, InitialHolds, ItemsHold, ObjectsHold, OptionHolds, PlaceHolds, StartHolds, StatementHolds, plain_label, plain_place}

abbrev pub single_at : c.Expr → Type 0 → Type 0
single_at (c.Convert to operand) parts = (slack operand ≡ 0) × parts
single_at (c.And left right at) parts = parts × (slack left ≡ 0) × (slack right ≡ 0)
single_at (c.Or left right at) parts = parts × (slack left ≡ 0) × (slack right ≡ 0)
single_at node parts = parts

abbrev pub IsSized : c.Shape → Type 0
IsSized c.Single = ⊥
IsSized c.Unsized = ⊥
IsSized (c.Sized size) = Unit {0}

abbrev pub FillingSized : c.Shape → c.Initial → Type 0
FillingSized shape c.Absent = Unit {0}
FillingSized shape (c.Value e) = Unit {0}
FillingSized shape (c.Listed values comma None) = Unit {0}
FillingSized shape (c.Listed values comma (Some number)) = IsSized shape

abbrev pub sized_object : c.Object → Type 0 → Type 0 → Type 0
sized_object (c.Declared object shape initial at) own rest = own × rest × FillingSized shape initial

abbrev pub PlaceSingle : c.Place → Type 0
PlaceSingle = PlaceHolds plain_place single_at

abbrev pub Single : c.Expr → Type 0
Single = Holds plain_place single_at

abbrev pub AllSingle : c.Exprs → Type 0
AllSingle = AllHold plain_place single_at

abbrev pub OptionSingle : Option c.Expr → Type 0
OptionSingle = OptionHolds plain_place single_at

abbrev pub InitialSingle : c.Initial → Type 0
InitialSingle = InitialHolds plain_place single_at

abbrev pub ObjectsSingle : List c.Object → Type 0
ObjectsSingle = ObjectsHold plain_place single_at sized_object plain_label

abbrev pub DeclarationSingle : c.Declaration → Type 0
DeclarationSingle = DeclarationHolds plain_place single_at sized_object plain_label

abbrev pub StartSingle : c.ForStart → Type 0
StartSingle = StartHolds plain_place single_at sized_object plain_label

abbrev pub StatementSingle : c.Statement → Type 0
StatementSingle = StatementHolds plain_place single_at sized_object plain_label

abbrev pub ItemsSingle : c.Items → Type 0
ItemsSingle = ItemsHold plain_place single_at sized_object plain_label
