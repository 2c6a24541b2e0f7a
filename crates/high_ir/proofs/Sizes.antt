-- The nodes of lists.
use Rattle.std.proofs.Common.{◌≡◌, ℕ, ◌+◌, List, [], ◌∷◌, map, refl, sym, ap, ◌∙◌}
use Rattle.std.specs.Prelude.{Vec, sum_by}
use Rattle.std.specs.Global.{Global}
use Rattle.std.proofs.lemmas.List.Sums.{sum_by-cons}
use Rattle.high_ir.specs.declared.statement.Statement as statements
use Rattle.high_ir.specs.Size.{nodes, nodes_all}
use Rattle.high_ir.specs.View.{statement_of, statements_of}
use Rattle.high_ir.proofs.Rows.{statement_of-Seq}

pub sum_by-map : {A B : Type 0} (f : B → ℕ) (g : A → B) (xs : List A) → sum_by f (map g xs) ≡ sum_by (λ x. f (g x)) xs
sum_by-map f g [] = refl
sum_by-map f g (x ∷ xs) = sum_by-cons f (g x) (map g xs) ∙ ap (λ n. f (g x) + n) (sum_by-map f g xs) ∙ sym (sum_by-cons (λ y. f (g y)) x xs)

pub nodes_all-statements_of : (xs : List statements.Statement) → nodes_all (statements_of xs) ≡ sum_by (λ s. nodes (statement_of s)) xs
nodes_all-statements_of [] = refl
nodes_all-statements_of (x ∷ xs) = ap (λ n. nodes (statement_of x) + n) (nodes_all-statements_of xs) ∙ sym (sum_by-cons (λ s. nodes (statement_of s)) x xs)

pub nodes-Seq : (s : statements.Statement) (v : Vec statements.Statement Global) → s ≡ statements.Seq v → nodes (statement_of s) ≡ sum_by (λ s. nodes (statement_of s)) v.items + 1
nodes-Seq s v same = ap (λ s. nodes (statement_of s)) same ∙ ap nodes (statement_of-Seq v) ∙ ap (λ n. n + 1) (nodes_all-statements_of v.items)
