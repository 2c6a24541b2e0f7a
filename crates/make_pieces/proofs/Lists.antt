-- Statements one after another, as the code keeps them and as the views have them.
use Rattle.std.proofs.Common.{◌≡◌, ℕ, suc, List, [], ◌∷◌, ◌++◌, length, true, false, refl, sym, ap, ◌∙◌, subst, arith}
use Rattle.std.specs.Prelude.{Vec, ◌==◌}
use Rattle.std.specs.Global.{Global}
use Rattle.high_ir.proofs.Rows.{statement_of-Seq}
use Rattle.high_ir.specs.Tree.{Statement, Seq, Statements, End, Then}
use Rattle.high_ir.specs.View.{statement_of, statements_of}
use Rattle.high_ir.specs.declared.statement.Statement as statements
use Rattle.high_code.specs.Code.{joined, alone, is_empty, assigns, assigns_any}

pub statements_append : (xs ys : List statements.Statement) → statements_of (xs ++ ys) ≡ joined (statements_of xs) (statements_of ys)
statements_append [] ys = refl
statements_append (x ∷ xs) ys = ap (Then (statement_of x)) (statements_append xs ys)

pub statements_push : (xs : List statements.Statement) (x : statements.Statement) → statements_of (xs ++ x ∷ []) ≡ joined (statements_of xs) (alone (statement_of x))
statements_push xs x = statements_append xs (x ∷ [])

pub joined_then : (a : Statements) (s : Statement) (b : Statements) → joined (joined a (alone s)) b ≡ joined a (Then s b)
joined_then End s b = refl
joined_then (Then first rest) s b = ap (Then first) (joined_then rest s b)

pub joined_joined : (a b c : Statements) → joined (joined a b) c ≡ joined a (joined b c)
joined_joined End b c = refl
joined_joined (Then first rest) b c = ap (Then first) (joined_joined rest b c)

pub joined_end : (a : Statements) → joined a End ≡ a
joined_end End = refl
joined_end (Then first rest) = ap (Then first) (joined_end rest)

pub seq_view : (v : Vec statements.Statement Global) → statement_of (statements.Seq v) ≡ Seq (statements_of v.items)
seq_view v = statement_of-Seq v

pub nothing_view : (v : Vec statements.Statement Global) → v.items ≡ [] → statement_of (statements.Seq v) ≡ Seq End
nothing_view v empty = seq_view v ∙ ap (λ xs. Seq (statements_of xs)) empty

pub empty_view : (n : ℕ) (xs : List statements.Statement) → n ≡ length xs → (n == 0) ≡ is_empty (statements_of xs)
empty_view n [] same = subst (λ m. (m == 0) ≡ true) (sym same) refl
empty_view n (x ∷ xs) same = subst (λ m. (m == 0) ≡ false) (sym same) (not_zero (length xs))
  where
    not_zero : (m : ℕ) → (suc m == 0) ≡ false
    not_zero m = grind arith

pub assigns_seq : (x : ℕ) (s : statements.Statement) (v : Vec statements.Statement Global) → s ≡ statements.Seq v → assigns x (statement_of s) ≡ assigns_any x (statements_of v.items)
assigns_seq x s v is = ap (λ s. assigns x (statement_of s)) is ∙ ap (assigns x) (seq_view v)
