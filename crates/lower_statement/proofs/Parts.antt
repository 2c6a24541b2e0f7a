-- The parts of a statement, as the code has them.
use Rattle.std.proofs.Common.{◌≡◌, ℕ, suc, ◌+◌, ◌<◌, ◌≤◌, List, ◌∷◌, length, get_or, drop, sym, ap, ◌∙◌, subst, add-one, drop-cons}
use Rattle.std.specs.Prelude.{Vec}
use Rattle.std.specs.Global.{Global}
use Rattle.std.proofs.lemmas.List.Sums.{get_or-le-sum_by}
use Rattle.high_ir.specs.declared.statement.Statement as statements
use Rattle.high_ir.specs.Size.{nodes, nodes_all}
use Rattle.high_ir.specs.View.{statement_of, statements_of}
use Rattle.high_ir.proofs.Rows.{statement_of-Seq}
use Rattle.high_ir.proofs.Sizes.{nodes_all-statements_of}
use Rattle.lower_definition.specs.Statements.{Piece}
use Rattle.lower_definition.specs.Values.{Scope}
use Rattle.lower_statement.specs.Whole.{run, run_all}
use Rattle.lower_statement.proofs.Whole.{run_then}

pub size_of_seq : (s : statements.Statement) (v : Vec statements.Statement Global) (xs : List statements.Statement) → s ≡ statements.Seq v → xs ≡ v.items → nodes (statement_of s) ≡ nodes_all (statements_of xs) + 1
size_of_seq s v xs is read = ap (λ s. nodes (statement_of s)) is ∙ ap nodes (statement_of-Seq v) ∙ ap (λ ys. nodes_all (statements_of ys) + 1) (sym read)

-- the parts of a list are no larger than it
pub part_size : (xs : List statements.Statement) (i : ℕ) (x : statements.Statement) → i < length xs → x ≡ get_or xs i x → nodes (statement_of x) ≤ nodes_all (statements_of xs)
part_size xs i x lt is =
    subst (λ y. nodes (statement_of y) ≤ nodes_all (statements_of xs)) (sym is)
    (subst (λ n. nodes (statement_of (get_or xs i x)) ≤ n) (sym (nodes_all-statements_of xs)) (get_or-le-sum_by (λ s. nodes (statement_of s)) xs i x lt))

-- a sequence runs its parts
pub seq_runs : (scope : Scope) (s : statements.Statement) (v : Vec statements.Statement Global) (xs : List statements.Statement) (exits : List ℕ) (p : Piece) → s ≡ statements.Seq v → xs ≡ v.items → run_all scope (statements_of xs) exits p ≡ run scope (statement_of s) exits p
seq_runs scope s v xs exits p is read =
    ap (λ ys. run_all scope (statements_of ys) exits p) read
    ∙ ap (λ x. run scope x exits p) (sym (statement_of-Seq v))
    ∙ ap (λ x. run scope (statement_of x) exits p) (sym is)

-- one part more before those behind it
pub part_runs : (scope : Scope) (xs : List statements.Statement) (i j : ℕ) (x : statements.Statement) (exits : List ℕ) (p q r : Piece) → i < length xs → j ≡ i + 1 → x ≡ get_or xs i x →
    q ≡ run_all scope (statements_of (drop j xs)) exits p → r ≡ run scope (statement_of x) exits q → r ≡ run_all scope (statements_of (drop i xs)) exits p
part_runs scope xs i j x exits p q r lt next is behind made =
    let whole : drop i xs ≡ get_or xs i x ∷ drop (suc i) xs = drop-cons xs i x lt in
    let here : j ≡ suc i = next ∙ add-one i in
    made
    ∙ ap (run scope (statement_of x) exits) (behind ∙ ap (λ k. run_all scope (statements_of (drop k xs)) exits p) here)
    ∙ ap (λ y. run scope (statement_of y) exits (run_all scope (statements_of (drop (suc i) xs)) exits p)) is
    ∙ sym (run_then scope (statement_of (get_or xs i x)) (statements_of (drop (suc i) xs)) exits p)
    ∙ ap (λ ys. run_all scope (statements_of ys) exits p) (sym whole)
