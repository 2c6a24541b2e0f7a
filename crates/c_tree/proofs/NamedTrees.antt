-- Other names change neither the level nor the place of an expression.
use Rattle.std.proofs.Common.{◌≡◌, refl}
use Rattle.c_tree.specs.Formed.{level, place}
use Rattle.c_tree.specs.Named.{named}
use Rattle.c_tree.specs.Tree.{Expr, Number, Character, Name, Paren, Index, Call, Postfix, Prefix, Cast, Binary, Conditional, Assign}

pub level_named : {M N : Type 0} (f : M → N) (t : Expr M) → level (named f t) ≡ level t
level_named f (Number constant at) = refl
level_named f (Character value at) = refl
level_named f (Name name at) = refl
level_named f (Paren inner at) = refl
level_named f (Index array index at) = refl
level_named f (Call function arguments at) = refl
level_named f (Postfix operator operand at) = refl
level_named f (Prefix operator operand at) = refl
level_named f (Cast specifiers operand at) = refl
level_named f (Binary operator left right at) = refl
level_named f (Conditional test first second at) = refl
level_named f (Assign operator target value at) = refl

pub place_named : {M N : Type 0} (f : M → N) (t : Expr M) → place (named f t) ≡ place t
place_named f (Number constant at) = refl
place_named f (Character value at) = refl
place_named f (Name name at) = refl
place_named f (Paren inner at) = refl
place_named f (Index array index at) = refl
place_named f (Call function arguments at) = refl
place_named f (Postfix operator operand at) = refl
place_named f (Prefix operator operand at) = refl
place_named f (Cast specifiers operand at) = refl
place_named f (Binary operator left right at) = refl
place_named f (Conditional test first second at) = refl
place_named f (Assign operator target value at) = refl
