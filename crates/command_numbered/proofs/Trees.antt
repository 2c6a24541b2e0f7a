-- The trees of numbered sources, over any kind of name, with the places of their tokens by number.
use Rattle.std.proofs.Common.{ℕ, zero, suc, [], ◌∷◌, Option, Some, None, codes}
use Rattle.c_tree.specs.declared.token.Constant.{Constant}
use Rattle.c_tree.specs.declared.token.ConstantType.TheVariants as types
use Rattle.c_tree.specs.declared.pragma.Pragma.{Pragma}
use Rattle.c_tree.specs.declared.expression.Specifier.TheVariants as words
use Rattle.c_tree.specs.declared.expression.PostfixOperator.TheVariants as postfix
use Rattle.c_tree.specs.declared.expression.BinaryOperator.TheVariants as binary
use Rattle.c_tree.specs.declared.expression.AssignOperator.TheVariants as assign
use Rattle.c_tree.specs.Tree.{Row, Nothing, Then, Expr, Number, Name, Paren, Call, Postfix, Binary, Assign, NoExpr, AndExpr, Scalar, Absent, Value, Declared, Parameter, Declaration, Objects, StartValue, Statement, Evaluate, For, Return, Items, NoItem, AndDeclaration, AndStatement, External, Function, TranslationUnit, Whole}

-- the names that stand in each function, and those of `main`
pub record Given (N : Type 0) : Type 0 where
  pub x : N
  pub k : N
  pub s : N
  pub main : N
  pub putchar : N

-- where the tokens stand, by number: of each function, of `main` up to its calls, of each call, and of what stands behind the calls
pub record Places : Type 0 where
  pub function : ℕ → ℕ → ℕ
  pub head : ℕ → ℕ
  pub call : ℕ → ℕ → ℕ
  pub tail : ℕ → ℕ

abbrev pub int : ℕ → Constant
int n = record { value = n; scalar = types.Int }

abbrev pub bound_at : ℕ → Pragma
bound_at at = record { text = codes "loopbound min 10 max 10"; at = at }

module _ {N : Type 0} (g : Given N) where
  abbrev pub one_object : N → Option (Expr N) → (at name_at : ℕ) → Declaration N
  one_object name None at name_at = Objects (words.Int ∷ []) (Then Nothing (Declared name Scalar Absent name_at)) at
  one_object name (Some value) at name_at = Objects (words.Int ∷ []) (Then Nothing (Declared name Scalar (Value value) name_at)) at

  -- (s * 5 + i) % 1000
  abbrev pub step : (i : ℕ) → (q : ℕ → ℕ) → Expr N
  step i q =
      Binary binary.Remainder
      (Paren (Binary binary.Add (Binary binary.Multiply (Name g.s (q 32)) (Number (int 5) (q 34)) (q 32)) (Number (int i) (q 36)) (q 32)) (q 31))
      (Number (int 1000) (q 39)) (q 31)

  abbrev pub loop : (i : ℕ) → (q : ℕ → ℕ) → Statement N
  loop i q =
      For (Some (bound_at (q 15)))
      (StartValue (Assign assign.Assign (Name g.k (q 18)) (Number (int 0) (q 20)) (q 18)))
      (Some (Binary binary.Less (Name g.k (q 22)) (Number (int 10) (q 24)) (q 22)))
      (Some (Postfix postfix.Increment (Name g.k (q 26)) (q 26)))
      (Evaluate (Assign assign.Assign (Name g.s (q 29)) (step i q) (q 29)) (q 29))
      (q 16)

  abbrev pub body : (i : ℕ) → (q : ℕ → ℕ) → Items N
  body i q =
      AndStatement
      (AndStatement (AndDeclaration (AndDeclaration NoItem (one_object g.k None (q 7) (q 8))) (one_object g.s (Some (Name g.x (q 13))) (q 10) (q 11))) (loop i q))
      (Return (Some (Name g.s (q 42))) (q 41))

  abbrev pub function : (f : N) (i : ℕ) → (q : ℕ → ℕ) → External N
  function f i q = Function (words.Int ∷ []) f (q 1) (Then Nothing (Parameter (words.Int ∷ []) (Some g.x) Scalar (q 3))) (body i q) (q 6) (q 0)

  -- the functions from 1 to n
  abbrev pub functions : (f : ℕ → N) (q : ℕ → ℕ → ℕ) → (n : ℕ) → Row (External N)
  functions f q zero = Nothing
  functions f q (suc n) = Then (functions f q n) (function (f (suc n)) (suc n) (q (suc n)))

  abbrev pub call : N → (q : ℕ → ℕ) → Statement N
  call f q = Evaluate (Assign assign.Assign (Name g.s (q 0)) (Call f (AndExpr NoExpr (Name g.s (q 4))) (q 2)) (q 0)) (q 0)

  abbrev pub start : (q : ℕ → ℕ) → Items N
  start q = AndDeclaration NoItem (one_object g.s (Some (Number (int 1) (q 9))) (q 6) (q 7))

  -- behind these, a call of each function
  abbrev pub calls : (f : ℕ → N) (q : ℕ → ℕ → ℕ) → Items N → (n : ℕ) → Items N
  calls f q front zero = front
  calls f q front (suc n) = AndStatement (calls f q front n) (call (f (suc n)) (q (suc n)))

  abbrev pub end : (q : ℕ → ℕ) → Items N → Items N
  end q front =
      AndStatement
      (AndStatement front (Evaluate (Call g.putchar (AndExpr NoExpr (Binary binary.Add (Number (int 65) (q 2)) (Binary binary.Remainder (Name g.s (q 4)) (Number (int 26) (q 6)) (q 4)) (q 2))) (q 0)) (q 0)))
      (Return (Some (Binary binary.Remainder (Name g.s (q 10)) (Number (int 256) (q 12)) (q 10))) (q 9))

  abbrev pub main_of : (f : ℕ → N) → Places → (n : ℕ) → External N
  main_of f p n = Function (words.Int ∷ []) g.main (p.head 1) (Then Nothing (Parameter (words.Void ∷ []) None Scalar (p.head 3))) (end p.tail (calls f p.call (start p.head) n)) (p.head 5) (p.head 0)

  abbrev pub externals : (f : ℕ → N) → Places → (n : ℕ) → Row (External N)
  externals f p n = Then (functions f p.function n) (main_of f p n)

  abbrev pub unit : (f : ℕ → N) → Places → (n : ℕ) → TranslationUnit N
  unit f p n = Whole (externals f p n) (p.function 1 0)
