-- Expressions that a plan serves: their names are those of the function, and what is stored is of the type of its place, which is no constant.
use Rattle.std.specs.Prelude.{◌≡◌, ◌⊎◌, ℕ, Bool, true, false, List, [], ◌∷◌, Option, Some, None}
use Rattle.types_tree.specs.declared.expression.Callee.{Callee}
use Rattle.types_tree.specs.declared.expression.Callee.TheVariants.{Getchar, Putchar, Function as Own}
use Rattle.types_tree.specs.Tree.{Place, Scalar, Element, Within, Expr, Number, Character, Read, Array, Paren, Call, Step, Signed, Cast, Convert, Operate, And, Or, Comma, Conditional, Assign, Update, Exprs, NoExpr, WithExpr}
use Rattle.high_ir.specs.declared.object.Base.{Base}
use Rattle.high_ir.specs.declared.object.Base.TheVariants.{Object, Parameter}
use Rattle.high_ir.specs.declared.object.Kind.{Kind}
use Rattle.high_ir.specs.declared.object.Kind.TheVariants.{Word}
use Rattle.plan_definition.specs.declared.home.Home.{Home}
use Rattle.plan_definition.specs.declared.home.Home.TheVariants.{Frame, Memory}
use Rattle.plan_definition.specs.Operators.{kind_of}
use Rattle.plan_definition.specs.Values.{array_named}
use Rattle.plan_runs.specs.Meets.{Layout, home, kind_at}

-- what a call hands over for a parameter: a word of a kind, or an array of elements of a kind, which may be constant
pub data Formal : Type 0 where
  OfWord : (kind : Kind) → Formal
  OfArray : (kind : Kind) (constant : Bool) → Formal

-- what is known of the functions that are called: their parameters, and the kinds of their values
pub record Signatures : Type 0 where
  pub parameters : ℕ → List Formal
  pub results : ℕ → Kind

-- the kind of an object or of the elements of an array
abbrev pub place_kind : Layout → Place → Kind
place_kind layout (Scalar object at) = kind_at layout object
place_kind layout (Element array index at) = kind_at layout array
place_kind layout (Within inner at) = place_kind layout inner

-- whether a place is in a constant
abbrev pub place_constant : Layout → Place → Bool
place_constant layout (Scalar object at) = layout.constant object
place_constant layout (Element array index at) = layout.constant array
place_constant layout (Within inner at) = place_constant layout inner

abbrev pub call_kind : Signatures → Callee → Kind
call_kind signatures Getchar = Word
call_kind signatures Putchar = Word
call_kind signatures (Own function) = signatures.results function.0

-- a kind of which the value of an expression is
abbrev pub range_of : Layout → Signatures → Expr → Kind
range_of layout signatures (Read place) = place_kind layout place
range_of layout signatures (Paren inner at) = range_of layout signatures inner
range_of layout signatures (Call callee arguments at) = call_kind signatures callee
range_of layout signatures (Step fix operator kind target at) = place_kind layout target
range_of layout signatures (Cast specifiers to operand at) = kind_of to
range_of layout signatures (Convert to operand) = kind_of to
range_of layout signatures (Comma left right at) = range_of layout signatures right
range_of layout signatures (Assign target value at) = place_kind layout target
range_of layout signatures (Update operator kind to target value at) = place_kind layout target
range_of layout signatures other = Word

-- a value of the one kind is of the other
abbrev pub Suits : (from to : Kind) → Type 0
Suits from to = (to ≡ Word) ⊎ (to ≡ from)

-- a place of a function: which of its objects live there, those that its calls and blocks have entered; below which number
-- its variables stand; and which functions it may call
pub record Function : Type 0 where
  pub number : ℕ
  pub live : ℕ → Bool
  pub variables : ℕ
  pub callable : ℕ → Bool

abbrev pub IsScalar : Layout → Function → (object : ℕ) → Home → Type 0
IsScalar layout f object (Frame x) = f.live object ≡ true
IsScalar layout f object (Memory array) = (n : ℕ) × (array.base ≡ Object n)

abbrev pub IsNamed : Layout → Function → (object : ℕ) → Base → Type 0
IsNamed layout f object (Object n) = Unit {0}
IsNamed layout f object (Parameter j) = f.live object ≡ true

abbrev pub IsArrayHome : Layout → Function → (object : ℕ) → Home → Type 0
IsArrayHome layout f object (Frame x) = ⊥
IsArrayHome layout f object (Memory array) = IsNamed layout f object array.base

-- the array that an argument names
abbrev pub IsArgument : Layout → Function → Option ℕ → (kind : Kind) → (constant : Bool) → Type 0
IsArgument layout f None kind constant = ⊥
IsArgument layout f (Some object) kind constant = IsArrayHome layout f object (home layout object) × (kind_at layout object ≡ kind) × (constant ≡ false → layout.constant object ≡ false)

-- the parameters of what is called
abbrev pub parameters_of : Signatures → Callee → List Formal
parameters_of signatures Getchar = []
parameters_of signatures Putchar = OfWord Word ∷ []
parameters_of signatures (Own function) = signatures.parameters function.0

abbrev pub IsCallable : Function → Callee → Type 0
IsCallable f Getchar = Unit {0}
IsCallable f Putchar = Unit {0}
IsCallable f (Own function) = f.callable function.0 ≡ true

module _ (layout : Layout) (signatures : Signatures) (f : Function) where
  abbrev mutual
    pub FitPlace : Place → Type 0
    FitPlace (Scalar object at) = IsScalar layout f object (home layout object)
    FitPlace (Element array index at) = IsArrayHome layout f array (home layout array) × Fit index
    FitPlace (Within inner at) = FitPlace inner

    pub Fit : Expr → Type 0
    Fit (Number constant at) = Unit {0}
    Fit (Character value at) = Unit {0}
    Fit (Read place) = FitPlace place
    Fit (Array object at) = ⊥
    Fit (Paren inner at) = Fit inner
    Fit (Call callee arguments at) = FitArguments arguments (parameters_of signatures callee) × IsCallable f callee
    Fit (Step fix operator kind target at) = FitPlace target × (kind_of kind ≡ place_kind layout target) × (place_constant layout target ≡ false)
    Fit (Signed operator kind operand at) = Fit operand
    Fit (Cast specifiers to operand at) = Fit operand
    Fit (Convert to operand) = Fit operand
    Fit (Operate operator kind left right at) = Fit left × Fit right
    Fit (And left right at) = Fit left × Fit right
    Fit (Or left right at) = Fit left × Fit right
    Fit (Comma left right at) = Fit left × Fit right
    Fit (Conditional test first second at) = Fit test × Fit first × Fit second
    Fit (Assign target value at) = FitPlace target × Fit value × Suits (range_of layout signatures value) (place_kind layout target) × (place_constant layout target ≡ false)
    Fit (Update operator kind to target value at) = FitPlace target × Fit value × (kind_of to ≡ place_kind layout target) × (place_constant layout target ≡ false)

    pub FitArguments : Exprs → List Formal → Type 0
    FitArguments NoExpr [] = Unit {0}
    FitArguments NoExpr (parameter ∷ parameters) = ⊥
    FitArguments (WithExpr e rest) [] = ⊥
    FitArguments (WithExpr e rest) (OfWord kind ∷ parameters) =
        Fit e × (array_named e ≡ None) × Suits (range_of layout signatures e) kind × FitArguments rest parameters
    FitArguments (WithExpr e rest) (OfArray kind constant ∷ parameters) = IsArgument layout f (array_named e) kind constant × FitArguments rest parameters
