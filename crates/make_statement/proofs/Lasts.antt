-- Code with its last statement in a block.
use Rattle.std.proofs.Common.{◌≡◌, List, [], ◌∷◌, ◌++◌, refl, ap}
use Rattle.high_ir.specs.Tree.{Block, Then}
use Rattle.high_ir.specs.View.{statement_of, statements_of}
use Rattle.high_ir.specs.declared.statement.Statement as statements
use Rattle.high_code.specs.Code.{joined, alone}
use Rattle.plan_definition.specs.Statements.{last_in_block}

pub last_view : (xs : List statements.Statement) (x : statements.Statement) → last_in_block (statements_of (xs ++ x ∷ [])) ≡ joined (statements_of xs) (alone (Block (statement_of x)))
last_view [] x = refl
last_view (y ∷ []) x = refl
last_view (y ∷ z ∷ zs) x = ap (Then (statement_of y)) (last_view (z ∷ zs) x)
