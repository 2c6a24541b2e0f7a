-- What is left to do where calls may nest so deep.
use Rattle.std.proofs.Common.{◌≡◌, ℕ, ◌+◌, ◌*◌, ◌<◌, ◌≤◌, List, length, get_or, ap, sym, ◌∙◌, subst}
use Rattle.std.specs.Prelude.{Vec, sum_by}
use Rattle.std.specs.Global.{Global}
use Rattle.std.proofs.lemmas.List.Sums.{get_or-le-sum_by}
use Rattle.high_ir.specs.declared.high.Function.{Function}
use Rattle.high_ir.specs.declared.statement.Statement as statements
use Rattle.high_ir.specs.Size.{nodes, nodes_all}
use Rattle.high_ir.specs.View.{statement_of, statements_of}
use Rattle.high_ir.proofs.Rows.{statement_of-Seq}
use Rattle.high_ir.proofs.Sizes.{nodes_all-statements_of}

-- more than what any body needs
abbrev pub room : List Function → ℕ
room fs = sum_by (λ f. 2 * nodes (statement_of f.body)) fs + 2

pub nodes-Seq : (s : statements.Statement) (v : Vec statements.Statement Global) (xs : List statements.Statement) → s ≡ statements.Seq v → xs ≡ v.items → nodes (statement_of s) ≡ nodes_all (statements_of xs) + 1
nodes-Seq s v xs same read = ap (λ s. nodes (statement_of s)) same ∙ ap nodes (statement_of-Seq v) ∙ ap (λ ys. nodes_all (statements_of ys) + 1) (sym read)

pub nodes_within : (xs : List statements.Statement) (i : ℕ) (x : statements.Statement) → i < length xs → x ≡ get_or xs i x → nodes (statement_of x) ≤ nodes_all (statements_of xs)
nodes_within xs i x lt read =
    subst (λ y. nodes (statement_of y) ≤ nodes_all (statements_of xs)) (sym read)
    (subst (λ n. nodes (statement_of (get_or xs i x)) ≤ n) (sym (nodes_all-statements_of xs)) (get_or-le-sum_by (λ s. nodes (statement_of s)) xs i x lt))
