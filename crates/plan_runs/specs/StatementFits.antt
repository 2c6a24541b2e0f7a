-- Statements that a plan serves: the objects that they declare are the function's own, and their values are of the objects' types.
use Rattle.std.specs.Prelude.{◌≡◌, ℕ, ◌+◌, ◌^◌, ◌<◌, ◌≤◌, ◌==◌, ◌||◌, Bool, false, List, [], ◌∷◌, Option, Some, None}
use Rattle.facts_definitions.specs.Most.{bounds_at}
use Rattle.facts_definitions.specs.Sites.{count_exprs}
use Rattle.facts_definitions.specs.declared.facts.Bounds.{Bounds}
use Rattle.types_tree.specs.Tree.{Expr, Exprs, NoExpr, WithExpr, Initial, Absent, Value, Listed, Object, Declared, Declaration, Objects, Prototype, ForStart, NoStart, StartValue, StartDeclaration, Statement, Block, Empty, Evaluate, Marker, If, IfElse, While, Do, For, Switch, Break, Continue, Return, Items, NoItem, WithDeclaration, WithStatement, WithRestriction, WithLabel}
use Rattle.high_ir.specs.declared.object.Array.{Array}
use Rattle.high_ir.specs.declared.object.Base.TheVariants.{Object as Own}
use Rattle.high_ir.specs.declared.object.Kind.{Kind}
use Rattle.plan_definition.specs.declared.home.Home.TheVariants.{Frame, Memory}
use Rattle.plan_runs.specs.ExpressionFits.{Function, Signatures, Suits, IsScalar, Fit, range_of}
use Rattle.plan_runs.specs.Meets.{Layout, home, kind_at}

-- an object of the function, with its variable among the function's
abbrev pub IsDeclared : Layout → Function → (object : ℕ) → Type 0
IsDeclared layout f object = (layout.owner object ≡ f.number) × ((x : ℕ) → home layout object ≡ Frame x → x < f.variables)

-- the objects that are declared
abbrev pub among : List Object → ℕ → Bool
among [] o = false
among (Declared object shape initial at ∷ rest) o = (object == o) || among rest o

abbrev pub declares : Declaration → ℕ → Bool
declares (Objects specifiers objects at) o = among objects o
declares (Prototype specifiers name params at) o = false

abbrev pub block_declares : Items → ℕ → Bool
block_declares NoItem o = false
block_declares (WithDeclaration declaration rest) o = declares declaration o || block_declares rest o
block_declares (WithStatement statement rest) o = block_declares rest o
block_declares (WithRestriction pragma rest) o = block_declares rest o
block_declares (WithLabel label rest) o = block_declares rest o

abbrev pub start_declares : ForStart → ℕ → Bool
start_declares NoStart o = false
start_declares (StartValue e) o = false
start_declares (StartDeclaration declaration) o = declares declaration o

-- a place of the function where more objects live
abbrev pub with_live : Function → (ℕ → Bool) → Function
with_live f more = record { number = f.number; live = λ o. f.live o || more o; variables = f.variables; callable = f.callable }

-- an array that lives as long as the program, and is stored to
pub record IsArrayObject (layout : Layout) (object : ℕ) : Type 0 where
  pub array : Array
  pub number : ℕ
  pub lives : home layout object ≡ Memory array
  pub base_is : array.base ≡ Own number
  pub writable : layout.constant object ≡ false

-- the elements that a list of so many values leaves over
abbrev pub FillingFits : List Bounds → (elements count : ℕ) → Option ℕ → Type 0
FillingFits bounds elements count None = count ≡ elements
FillingFits bounds elements count (Some number) = (count + (bounds_at bounds number).max ≡ elements) × (1 ≤ (bounds_at bounds number).max) × (elements < 2 ^ 32)

-- of a function whose value is of the kind `result`, among loops with these bounds
module _ (layout : Layout) (signatures : Signatures) (result : Kind) (bounds : List Bounds) where
  abbrev pub FitValue : Function → Expr → (kind : Kind) → Type 0
  FitValue f e kind = Fit layout signatures f e × Suits (range_of layout signatures e) kind

  abbrev pub FitValues : Function → Exprs → (kind : Kind) → Type 0
  FitValues f NoExpr kind = Unit {0}
  FitValues f (WithExpr e rest) kind = FitValue f e kind × FitValues f rest kind

  abbrev pub FitInitial : Function → (object : ℕ) → Initial → Type 0
  FitInitial f object Absent = Unit {0}
  FitInitial f object (Value e) = IsScalar layout f object (home layout object) × FitValue f e (kind_at layout object) × (layout.constant object ≡ false)
  FitInitial f object (Listed es comma filling) = IsArrayObject layout object × FitValues f es (kind_at layout object) × FillingFits bounds (layout.sizes object) (count_exprs es) filling

  abbrev pub FitObjects : Function → List Object → Type 0
  FitObjects f [] = Unit {0}
  FitObjects f (Declared object shape initial at ∷ rest) = IsDeclared layout f object × FitInitial f object initial × FitObjects f rest

  abbrev pub FitDeclaration : Function → Declaration → Type 0
  FitDeclaration f (Objects specifiers objects at) = FitObjects f objects
  FitDeclaration f (Prototype specifiers name params at) = Unit {0}

  abbrev pub FitStart : Function → ForStart → Type 0
  FitStart f NoStart = Unit {0}
  FitStart f (StartValue e) = Fit layout signatures f e
  FitStart f (StartDeclaration declaration) = FitDeclaration f declaration

  abbrev pub FitOption : Function → Option Expr → Type 0
  FitOption f None = Unit {0}
  FitOption f (Some e) = Fit layout signatures f e

  abbrev pub FitReturn : Function → Option Expr → Type 0
  FitReturn f None = Unit {0}
  FitReturn f (Some e) = FitValue f e result

  abbrev mutual
    pub FitStatement : Function → Statement → Type 0
    FitStatement f (Block items at) = FitItems (with_live f (block_declares items)) items
    FitStatement f (Empty at) = Unit {0}
    FitStatement f (Evaluate e at) = Fit layout signatures f e
    FitStatement f (Marker number pragma) = Unit {0}
    FitStatement f (If test first at) = Fit layout signatures f test × FitStatement f first
    FitStatement f (IfElse test first second at) = Fit layout signatures f test × FitStatement f first × FitStatement f second
    FitStatement f (While number bound test body at) = Fit layout signatures f test × FitStatement f body
    FitStatement f (Do number bound body test at) = Fit layout signatures f test × FitStatement f body
    FitStatement f (For number bound start test step body at) =
        FitStart (with_live f (start_declares start)) start × FitOption (with_live f (start_declares start)) test × FitOption (with_live f (start_declares start)) step × FitStatement (with_live f (start_declares start)) body
    FitStatement f (Switch test items at) = Fit layout signatures f test × FitItems (with_live f (block_declares items)) items
    FitStatement f (Break at) = Unit {0}
    FitStatement f (Continue at) = Unit {0}
    FitStatement f (Return value at) = FitReturn f value

    pub FitItems : Function → Items → Type 0
    FitItems f NoItem = Unit {0}
    FitItems f (WithDeclaration declaration rest) = FitDeclaration f declaration × FitItems f rest
    FitItems f (WithStatement statement rest) = FitStatement f statement × FitItems f rest
    FitItems f (WithRestriction pragma rest) = FitItems f rest
    FitItems f (WithLabel label rest) = FitItems f rest
