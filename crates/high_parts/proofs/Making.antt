-- What the code of a pass makes, in the words of the views.
use Rattle.std.proofs.Common.{◌≡◌, ℕ, ◌+◌, ◌<◌, ◌≤◌, List, [], ◌∷◌, ◌++◌, length, get_or, map, refl, sym, ap, ◌∙◌, subst, arith}
use Rattle.std.specs.Prelude.{Vec}
use Rattle.std.specs.Global.{Global}
use Rattle.std.specs.List.{range_with_len}
use Rattle.std.proofs.lemmas.List.{map_push}
use Rattle.std.proofs.lemmas.List.FromFn.{map-range_with_len_more}
use Rattle.std.proofs.lemmas.List.Sums.{get_or-le-sum_by}
use Rattle.high_ir.specs.declared.statement.Statement as statements
use Rattle.high_ir.specs.Size.{nodes, nodes_all}
use Rattle.high_ir.specs.Tree.{End, Statement, Statements, Then}
use Rattle.high_ir.specs.View.{statement_of, statements_of}
use Rattle.high_ir.proofs.Rows.{statement_of-Seq}
use Rattle.high_ir.proofs.Sizes.{nodes_all-statements_of}
use Rattle.high_code.specs.Code.{alone, joined}

-- the size of a sequence, and of one of its parts
pub size_of_seq : (s : statements.Statement) (v : Vec statements.Statement Global) (xs : List statements.Statement) → s ≡ statements.Seq v → xs ≡ v.items → nodes (statement_of s) ≡ nodes_all (statements_of xs) + 1
size_of_seq s v xs is read = ap (λ s. nodes (statement_of s)) is ∙ ap nodes (statement_of-Seq v) ∙ ap (λ ys. nodes_all (statements_of ys) + 1) (sym read)

pub part_size : (xs : List statements.Statement) (i : ℕ) (x : statements.Statement) → i < length xs → x ≡ get_or xs i x → nodes (statement_of x) ≤ nodes_all (statements_of xs)
part_size xs i x lt is =
    subst (λ y. nodes (statement_of y) ≤ nodes_all (statements_of xs)) (sym is)
    (subst (λ n. nodes (statement_of (get_or xs i x)) ≤ n) (sym (nodes_all-statements_of xs)) (get_or-le-sum_by (λ s. nodes (statement_of s)) xs i x lt))

-- one statement more, and those behind it
statements_append : (xs ys : List statements.Statement) → statements_of (xs ++ ys) ≡ joined (statements_of xs) (statements_of ys)
statements_append [] ys = refl
statements_append (x ∷ xs) ys = ap (Then (statement_of x)) (statements_append xs ys)

pub statements_push : (xs : List statements.Statement) (x : statements.Statement) → statements_of (xs ++ x ∷ []) ≡ joined (statements_of xs) (alone (statement_of x))
statements_push xs x = statements_append xs (x ∷ [])

pub joined_then : (a : Statements) (s : Statement) (b : Statements) → joined (joined a (alone s)) b ≡ joined a (Then s b)
joined_then End s b = refl
joined_then (Then first rest) s b = ap (Then first) (joined_then rest s b)

pub joined_end : (a : Statements) → joined a End ≡ a
joined_end End = refl
joined_end (Then first rest) = ap (Then first) (joined_end rest)

-- one entry more
pub one_more : {A B : Type 0} (f : A → B) (g : ℕ → B) (xs : List A) (x : A) (n : ℕ) → map f xs ≡ map g (range_with_len 0 n) → f x ≡ g n → map f (xs ++ x ∷ []) ≡ map g (range_with_len 0 (n + 1))
one_more f g xs x n before is =
    map_push f xs x ∙ ap (λ ys. ys ++ f x ∷ []) before ∙ ap (λ y. map g (range_with_len 0 n) ++ y ∷ []) is ∙ sym (map-range_with_len_more g 0 n n (omega arith))
