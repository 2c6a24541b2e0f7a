-- The labels of a switch, one after another.
use Rattle.std.proofs.Common.{◌≡◌, ℕ, zero, suc, ◌+◌, ◌<◌, ◌≤◌, List, [], ◌∷◌, length, drop, get_or, sym, ap, ◌∙◌, arith}
use Rattle.std.proofs.lemmas.List.{drop_more}
use Rattle.types_tree.specs.Tree.{Items}
use Rattle.types_tree.specs.View.{items_of, with_item}
use Rattle.types_tree.specs.declared.statement.Item.{Item}
use Rattle.types_tree.specs.declared.statement.Item.TheVariants as item
use Rattle.types_tree.specs.declared.statement.Label.TheVariants as label
use Rattle.high_ir.specs.Tree.{Expr, Statements}
use Rattle.high_code.specs.Code.{joined}
use Rattle.plan_definition.specs.Statements.{label_count, label_tests}
use Rattle.make_pieces.proofs.Lists.{joined_end}
use Rattle.make_statement.specs.Parts.{labels_in}
use Rattle.make_statement.specs.Planned.{item_tests}

-- the tests of an item come behind those of later ones
tests_first : (word : Expr) (noted number next : ℕ) (x : Item) (rest : Items) → next ≡ number + labels_in x →
    label_tests word noted (with_item x rest) number ≡ joined (label_tests word noted rest next) (item_tests word noted x number)
tests_first word noted number next (item.Declaration declaration) rest same = let e : number ≡ next = omega (arith, same) in ap (label_tests word noted rest) e ∙ sym (joined_end (label_tests word noted rest next))
tests_first word noted number next (item.Statement statement) rest same = let e : number ≡ next = omega (arith, same) in ap (label_tests word noted rest) e ∙ sym (joined_end (label_tests word noted rest next))
tests_first word noted number next (item.Restriction pragma) rest same = let e : number ≡ next = omega (arith, same) in ap (label_tests word noted rest) e ∙ sym (joined_end (label_tests word noted rest next))
tests_first word noted number next (item.Label (label.Case value own at)) rest same =
    let e : suc number ≡ next = omega (arith, same) in ap (λ n. joined (label_tests word noted rest n) (item_tests word noted (item.Label (label.Case value own at)) number)) e
tests_first word noted number next (item.Label (label.Default at)) rest same =
    let e : suc number ≡ next = omega (arith, same) in ap (label_tests word noted rest) e ∙ sym (joined_end (label_tests word noted rest next))

-- one test more, of the item before those whose tests are made
pub one_test : (word : Expr) (noted number next : ℕ) (xs : List Item) (i j : ℕ) (x : Item) (a b : Statements) → i < length xs → j ≡ i + 1 → x ≡ get_or xs i x → next ≡ number + labels_in x →
    a ≡ label_tests word noted (items_of (drop j xs)) next → b ≡ joined a (item_tests word noted x number) → b ≡ label_tests word noted (items_of (drop i xs)) number
one_test word noted number next xs i j x a b lt behind is same made one =
    one
    ∙ ap (λ c. joined c (item_tests word noted x number)) (made ∙ ap (λ n. label_tests word noted (items_of (drop n xs)) next) behind)
    ∙ sym (tests_first word noted number next x (items_of (drop (i + 1) xs)) same)
    ∙ sym (ap (λ items. label_tests word noted items number) (ap items_of (drop_more xs i x lt ∙ ap (λ y. y ∷ drop (i + 1) xs) (sym is))))

count_first : (x : Item) (rest : Items) → label_count (with_item x rest) ≡ labels_in x + label_count rest
count_first (item.Declaration declaration) rest = omega arith
count_first (item.Statement statement) rest = omega arith
count_first (item.Restriction pragma) rest = omega arith
count_first (item.Label label) rest = omega arith

-- the labels from a place on
pub count_from : (xs : List Item) (i : ℕ) (x : Item) → i < length xs → x ≡ get_or xs i x → label_count (items_of (drop i xs)) ≡ labels_in x + label_count (items_of (drop (i + 1) xs))
count_from xs i x lt is = ap (λ ys. label_count (items_of ys)) (drop_more xs i x lt ∙ ap (λ y. y ∷ drop (i + 1) xs) (sym is)) ∙ count_first x (items_of (drop (i + 1) xs))

pub count_fewer : (i : ℕ) (xs : List Item) → label_count (items_of (drop i xs)) ≤ label_count (items_of xs)
count_fewer zero xs = omega arith
count_fewer (suc i) [] = omega arith
count_fewer (suc i) (x ∷ xs) = omega (arith, count_fewer i xs, count_first x (items_of xs))
