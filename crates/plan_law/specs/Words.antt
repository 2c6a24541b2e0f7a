-- Typed programs whose constants are words.
use Rattle.std.specs.Prelude.{◌<◌, ◌^◌, List, [], ◌∷◌, Option}
use Rattle.types_tree.specs.Tree as c
use Rattle.plan_forms.specs.Everywhere.{AllHold, DeclarationHolds, Holds, InitialHolds, ItemsHold, ObjectsHold, OptionHolds, PlaceHolds, StartHolds, StatementHolds, plain_object, plain_place}

abbrev pub words_at : c.Expr → Type 0 → Type 0
words_at (c.Number constant at) parts = constant.value < 2 ^ 32
words_at (c.Character value at) parts = value < 2 ^ 32
words_at node parts = parts

-- of a label counts the word that it stands for
abbrev pub LabelWords : c.Label → Type 0
LabelWords (c.Case value word at) = word < 2 ^ 32
LabelWords (c.Default at) = Unit {0}

abbrev pub label_words : c.Label → Type 0 → Type 0
label_words label rest = LabelWords label × rest

abbrev pub PlaceWords : c.Place → Type 0
PlaceWords = PlaceHolds plain_place words_at

abbrev pub ExprWords : c.Expr → Type 0
ExprWords = Holds plain_place words_at

abbrev pub ExprsWords : c.Exprs → Type 0
ExprsWords = AllHold plain_place words_at

abbrev pub OptionWords : Option c.Expr → Type 0
OptionWords = OptionHolds plain_place words_at

abbrev pub InitialWords : c.Initial → Type 0
InitialWords = InitialHolds plain_place words_at

abbrev pub ObjectsWords : List c.Object → Type 0
ObjectsWords = ObjectsHold plain_place words_at plain_object label_words

abbrev pub DeclarationWords : c.Declaration → Type 0
DeclarationWords = DeclarationHolds plain_place words_at plain_object label_words

abbrev pub StartWords : c.ForStart → Type 0
StartWords = StartHolds plain_place words_at plain_object label_words

abbrev pub StatementWords : c.Statement → Type 0
StatementWords = StatementHolds plain_place words_at plain_object label_words

abbrev pub ItemsWords : c.Items → Type 0
ItemsWords = ItemsHold plain_place words_at plain_object label_words

abbrev pub FunctionsWords : List c.Function → Type 0
FunctionsWords [] = Unit {0}
FunctionsWords (c.Defined specifiers name name_at params first body body_at at ∷ rest) = ItemsWords body × FunctionsWords rest

-- of file level the first values of its objects
abbrev pub ExternalsWords : List c.External → Type 0
ExternalsWords [] = Unit {0}
ExternalsWords (c.Restriction pragma ∷ rest) = ExternalsWords rest
ExternalsWords (c.Declaring declaration ∷ rest) = DeclarationWords declaration × ExternalsWords rest
ExternalsWords (c.Defining function ∷ rest) = ExternalsWords rest

-- the constants of a program are words
pub record ProgramWords (program : c.Program) : Type 0 where
  pub functions : FunctionsWords program.functions
  pub externals : ExternalsWords program.items
