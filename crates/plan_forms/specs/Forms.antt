-- What code keeps to, and the typed trees whose plans do.
use Rattle.std.specs.Prelude.{◌≡◌, ℕ, suc, ◌+◌, ◌≤◌, ◌<◌, Bool, true, List, [], ◌∷◌, Option}
use Rattle.types_tree.specs.declared.expression.Callee.{Callee}
use Rattle.types_tree.specs.declared.expression.Callee.TheVariants.{Getchar, Putchar, Function as Own}
use Rattle.types_tree.specs.Tree as c
use Rattle.plan_forms.specs.Everywhere.{AllHold, Holds, InitialHolds, OptionHolds, PlaceHolds, plain_place}
use Rattle.high_ir.specs.Tree.{Statement, Set, Put, Get, Keep, Mark, Seq, If, Loop, Block, Leave, Call, Return, Statements, End, Then}

-- what may be called, the marks from which number on up to which, and whether there may be loops
pub record Limits : Type 0 where
  pub callable : ℕ → Bool
  pub first : ℕ
  pub marks : ℕ
  pub loops : Bool

-- among so many blocks
module _ (limits : Limits) where
  abbrev mutual
    pub Formed : (blocks : ℕ) → Statement → Type 0
    Formed blocks (Set x e) = Unit {0}
    Formed blocks (Put e) = Unit {0}
    Formed blocks (Get x) = Unit {0}
    Formed blocks (Keep array i e) = Unit {0}
    Formed blocks (Mark m) = (limits.first ≤ m) × (m < limits.marks)
    Formed blocks (Seq parts) = AllFormed blocks parts
    Formed blocks (If test first other) = Formed blocks first × Formed blocks other
    Formed blocks (Loop id least most body) = (limits.loops ≡ true) × Formed blocks body
    Formed blocks (Block body) = Formed (suc blocks) body
    Formed blocks (Leave depth) = depth < blocks
    Formed blocks (Call f values arrays into) = limits.callable f ≡ true
    Formed blocks (Return e) = Unit {0}

    pub AllFormed : (blocks : ℕ) → Statements → Type 0
    AllFormed blocks End = Unit {0}
    AllFormed blocks (Then first rest) = Formed blocks first × AllFormed blocks rest

abbrev pub CalleeAllowed : Limits → Callee → Type 0
CalleeAllowed limits Getchar = Unit {0}
CalleeAllowed limits Putchar = Unit {0}
CalleeAllowed limits (Own function) = limits.callable function.0 ≡ true

-- typed trees that call and mark what they may
module _ (limits : Limits) where
  abbrev pub allowed_at : c.Expr → Type 0 → Type 0
  allowed_at (c.Call callee arguments at) parts = parts × CalleeAllowed limits callee
  allowed_at node parts = parts

  abbrev pub PlaceAllowed : c.Place → Type 0
  PlaceAllowed = PlaceHolds plain_place allowed_at

  abbrev pub Allowed : c.Expr → Type 0
  Allowed = Holds plain_place allowed_at

  abbrev pub AllAllowed : c.Exprs → Type 0
  AllAllowed = AllHold plain_place allowed_at

  abbrev pub OptionAllowed : Option c.Expr → Type 0
  OptionAllowed = OptionHolds plain_place allowed_at

  abbrev pub InitialAllowed : c.Initial → Type 0
  InitialAllowed = InitialHolds plain_place allowed_at

  abbrev pub ObjectsAllowed : List c.Object → Type 0
  ObjectsAllowed [] = Unit {0}
  ObjectsAllowed (c.Declared object shape initial at ∷ rest) = InitialAllowed initial × ObjectsAllowed rest

  abbrev pub DeclarationAllowed : c.Declaration → Type 0
  DeclarationAllowed (c.Objects specifiers objects at) = ObjectsAllowed objects
  DeclarationAllowed (c.Prototype specifiers name params at) = Unit {0}

  abbrev pub StartAllowed : c.ForStart → Type 0
  StartAllowed c.NoStart = Unit {0}
  StartAllowed (c.StartValue e) = Allowed e
  StartAllowed (c.StartDeclaration declaration) = DeclarationAllowed declaration

  -- a `break` stands within a loop or a switch, and a `continue` within a loop
  abbrev mutual
    pub StatementAllowed : (out next : Bool) → c.Statement → Type 0
    StatementAllowed out next (c.Block items at) = ItemsAllowed out next items
    StatementAllowed out next (c.Empty at) = Unit {0}
    StatementAllowed out next (c.Evaluate e at) = Allowed e
    StatementAllowed out next (c.Marker number pragma) = limits.first + number < limits.marks
    StatementAllowed out next (c.If test first at) = Allowed test × StatementAllowed out next first
    StatementAllowed out next (c.IfElse test first second at) = Allowed test × StatementAllowed out next first × StatementAllowed out next second
    StatementAllowed out next (c.While number bound test body at) = Allowed test × StatementAllowed true true body
    StatementAllowed out next (c.Do number bound body test at) = StatementAllowed true true body × Allowed test
    StatementAllowed out next (c.For number bound start test step body at) = StartAllowed start × OptionAllowed test × OptionAllowed step × StatementAllowed true true body
    StatementAllowed out next (c.Switch test items at) = Allowed test × ItemsAllowed true next items
    StatementAllowed out next (c.Break at) = out ≡ true
    StatementAllowed out next (c.Continue at) = next ≡ true
    StatementAllowed out next (c.Return value at) = OptionAllowed value

    pub ItemsAllowed : (out next : Bool) → c.Items → Type 0
    ItemsAllowed out next c.NoItem = Unit {0}
    ItemsAllowed out next (c.WithDeclaration declaration rest) = DeclarationAllowed declaration × ItemsAllowed out next rest
    ItemsAllowed out next (c.WithStatement statement rest) = StatementAllowed out next statement × ItemsAllowed out next rest
    ItemsAllowed out next (c.WithRestriction pragma rest) = ItemsAllowed out next rest
    ItemsAllowed out next (c.WithLabel label rest) = ItemsAllowed out next rest
