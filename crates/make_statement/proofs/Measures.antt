-- How large statements are, as the code has them.
use Rattle.std.proofs.Common.{◌≡◌, ℕ, ◌+◌, ◌<◌, ◌≤◌, List, [], ◌∷◌, length, get_or, refl, sym, ap, ◌∙◌, subst, arith}
use Rattle.std.specs.Prelude.{Vec, sum_by}
use Rattle.std.specs.Global.{Global}
use Rattle.std.proofs.lemmas.List.Sums.{get_or-le-sum_by, sum_by-cons}
use Rattle.types_tree.proofs.Rows.{block_view, switch_view}
use Rattle.types_tree.specs.Tree.{Items}
use Rattle.types_tree.specs.View.{items_of, statement_of, with_item}
use Rattle.types_tree.specs.declared.expression.Expr as exprs
use Rattle.types_tree.specs.declared.statement.Item.{Item}
use Rattle.types_tree.specs.declared.statement.Item.TheVariants as item
use Rattle.types_tree.specs.declared.statement.Statement as statements
use Rattle.make_statement.specs.Sizes.{item_size, items_size, statement_size}

pub size_of_block : (s : statements.Statement) (v : Vec Item Global) (at : ℕ) (xs : List Item) → s ≡ statements.Block v at → xs ≡ v.items → statement_size (statement_of s) ≡ items_size (items_of xs) + 1
size_of_block s v at xs is read = ap (λ s. statement_size (statement_of s)) is ∙ ap statement_size (block_view v at) ∙ ap (λ ys. items_size (items_of ys) + 1) (sym read)

pub size_of_switch : (s : statements.Statement) (test : exprs.Expr) (v : Vec Item Global) (at : ℕ) (xs : List Item) → s ≡ statements.Switch test v at → xs ≡ v.items → statement_size (statement_of s) ≡ items_size (items_of xs) + 1
size_of_switch s test v at xs is read = ap (λ s. statement_size (statement_of s)) is ∙ ap statement_size (switch_view test v at) ∙ ap (λ ys. items_size (items_of ys) + 1) (sym read)

size_first : (x : Item) (rest : Items) → items_size (with_item x rest) ≡ item_size x + items_size rest
size_first (item.Declaration declaration) rest = omega arith
size_first (item.Statement statement) rest = refl
size_first (item.Restriction pragma) rest = omega arith
size_first (item.Label label) rest = omega arith

size_sum : (xs : List Item) → items_size (items_of xs) ≡ sum_by item_size xs
size_sum [] = refl
size_sum (x ∷ xs) = size_first x (items_of xs) ∙ ap (λ n. item_size x + n) (size_sum xs) ∙ sym (sum_by-cons item_size x xs)

-- the items of a list are no larger than it
pub size_at : (xs : List Item) (i : ℕ) (x : Item) → i < length xs → x ≡ get_or xs i x → item_size x ≤ items_size (items_of xs)
size_at xs i x lt is =
    subst (λ y. item_size y ≤ items_size (items_of xs)) (sym is)
    (subst (λ n. item_size (get_or xs i x) ≤ n) (sym (size_sum xs)) (get_or-le-sum_by item_size xs i x lt))
