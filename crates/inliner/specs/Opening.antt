-- A call with the body of its function in its place.
use Rattle.std.specs.Prelude.{ℕ, ◌+◌, List, [], ◌∷◌, Option}
use Rattle.high_ir.specs.declared.object.Base.{Base}
use Rattle.high_ir.specs.Tree.{Expr, Statement, Set, Mark, Seq, Block, Call, Statements, End, Then}
use Rattle.inliner.specs.Moving.{moved}

-- what a call says
pub record Site : Type 0 where
  pub function : ℕ
  pub values : List Expr
  pub arrays : List Base
  pub into : Option ℕ

abbrev pub call_of : Site → Statement
call_of s = Call s.function s.values s.arrays s.into

-- values, written to variables from a number on, and then what follows
abbrev pub assigned : ℕ → List Expr → Statements → Statements
assigned x [] after = after
assigned x (e ∷ es) after = Then (Set x e) (assigned (x + 1) es after)

-- the opening mark of the function, the values as its first variables, which stand from a number on, and its body in a block
abbrev pub opening : Site → (base : ℕ) → (body : Statement) → Statement
opening s base body = Seq (Then (Mark s.function) (assigned base s.values (Then (Block (moved (record { base = base; arrays = s.arrays; into = s.into }) 0 body)) End)))
