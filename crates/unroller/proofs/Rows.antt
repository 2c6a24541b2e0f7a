-- Statements one after another, as the code keeps them and as the views have them.
use Rattle.std.proofs.Common.{◌≡◌, ℕ, zero, suc, ◌+◌, ◌<◌, ◌≤◌, ◌^◌, max, List, [], ◌∷◌, drop, get_or, length, map, refl, sym, ap, ◌∙◌, arith, All}
use Rattle.std.specs.Prelude.{Vec, sum_by}
use Rattle.std.specs.Global.{Global}
use Rattle.std.proofs.lemmas.List.{drop_all, drop_more}
use Rattle.std.proofs.lemmas.List.Elements.{All-cons, All-nil}
use Rattle.std.proofs.lemmas.List.Sums.{sum_by-cons}
use Rattle.wcc_base.specs.Budgets.{most_depth}
use Rattle.high_ir.proofs.Rows.{statement_of-Seq}
use Rattle.high_ir.specs.Size.{depth, depth_all, expr_depth, function_nodes, greatest, nodes}
use Rattle.high_ir.specs.Tree.{Function, Seq}
use Rattle.high_ir.specs.View.{expr_of, function_of, statement_of, statements_of}
use Rattle.high_ir.specs.declared.expression.Expr as exprs
use Rattle.high_ir.specs.declared.high.Function as functions
use Rattle.high_ir.specs.declared.statement.Statement as statements
use Rattle.high_unrolled.proofs.Sizes.{busy_few}
use Rattle.high_unrolled.specs.Factor.{has_loop, has_loop_any}
use Rattle.high_unrolled.specs.Programs.{busy, busy_all}

pub seq_view : (v : Vec statements.Statement Global) → statement_of (statements.Seq v) ≡ Seq (statements_of v.items)
seq_view v = statement_of-Seq v

-- a sequence, as the code reads it
pub seq_seen : (s : statements.Statement) (v : Vec statements.Statement Global) (xs : List statements.Statement) → s ≡ statements.Seq v → xs ≡ v.items → statement_of s ≡ Seq (statements_of xs)
seq_seen s v xs is read = ap statement_of is ∙ statement_of-Seq v ∙ ap (λ ys. Seq (statements_of ys)) (sym read)

-- the elements from one on
pub from_place : {A : Type 0} (xs : List A) (i : ℕ) (x : A) → i < length xs → x ≡ get_or xs i x → drop i xs ≡ x ∷ drop (i + 1) xs
from_place xs i x lt is = drop_more xs i x lt ∙ ap (λ y. y ∷ drop (i + 1) xs) (sym is)

pub part_depth : (xs : List statements.Statement) (i : ℕ) (x : statements.Statement) → i < length xs → x ≡ get_or xs i x → depth (statement_of x) ≤ depth_all (statements_of xs)
part_depth [] i x lt is = absurd (omega (arith, lt))
part_depth (y ∷ ys) zero x lt is = let e : depth (statement_of x) ≡ depth (statement_of y) = ap (λ s. depth (statement_of s)) is in omega (arith, e)
part_depth (y ∷ ys) (suc i) x lt is = let h = part_depth ys i x (omega (arith, lt)) is in omega (arith, h)

-- the greatest depth, as a loop finds it
pub deepest_more : (xs : List statements.Statement) (i : ℕ) (x : statements.Statement) (d next : ℕ) → i < length xs → x ≡ get_or xs i x → next ≡ max d (depth (statement_of x)) →
    max next (depth_all (statements_of (drop (i + 1) xs))) ≡ max d (depth_all (statements_of (drop i xs)))
deepest_more xs i x d next lt is one =
    let e : depth_all (statements_of (drop i xs)) ≡ max (depth (statement_of x)) (depth_all (statements_of (drop (i + 1) xs))) = ap (λ l. depth_all (statements_of l)) (from_place xs i x lt is) in
    omega (arith, e, one)

pub deepest_all : (xs : List statements.Statement) (i d whole : ℕ) → length xs ≤ i → max d (depth_all (statements_of (drop i xs))) ≡ whole → d ≡ whole
deepest_all xs i d whole le h =
    let e : depth_all (statements_of (drop i xs)) ≡ 0 = ap (λ l. depth_all (statements_of l)) (drop_all i xs le) in
    omega (arith, e, h)

abbrev pub depths_of : List exprs.Expr → ℕ
depths_of xs = greatest expr_depth (map expr_of xs)

pub value_depth : (xs : List exprs.Expr) (i : ℕ) (x : exprs.Expr) → i < length xs → x ≡ get_or xs i x → expr_depth (expr_of x) ≤ depths_of xs
value_depth [] i x lt is = absurd (omega (arith, lt))
value_depth (y ∷ ys) zero x lt is = let e : expr_depth (expr_of x) ≡ expr_depth (expr_of y) = ap (λ v. expr_depth (expr_of v)) is in omega (arith, e)
value_depth (y ∷ ys) (suc i) x lt is = let h = value_depth ys i x (omega (arith, lt)) is in omega (arith, h)

pub values_more : (xs : List exprs.Expr) (i : ℕ) (x : exprs.Expr) (d next : ℕ) → i < length xs → x ≡ get_or xs i x → next ≡ max d (expr_depth (expr_of x)) → max next (depths_of (drop (i + 1) xs)) ≡ max d (depths_of (drop i xs))
values_more xs i x d next lt is one =
    let e : depths_of (drop i xs) ≡ max (expr_depth (expr_of x)) (depths_of (drop (i + 1) xs)) = ap depths_of (from_place xs i x lt is) in
    omega (arith, e, one)

pub values_all : (xs : List exprs.Expr) (i d whole : ℕ) → length xs ≤ i → max d (depths_of (drop i xs)) ≡ whole → d ≡ whole
values_all xs i d whole le h =
    let e : depths_of (drop i xs) ≡ 0 = ap depths_of (drop_all i xs le) in
    omega (arith, e, h)

-- arrays that are passed
pub none_deep : {A : Type 0} (xs : List A) → length xs ≡ 0 → greatest (λ b. 1) xs ≡ 0
none_deep [] e = refl
none_deep (x ∷ xs) e = absurd (omega (arith, e))

most_one : {A : Type 0} (xs : List A) → greatest (λ b. 1) xs ≤ 1
most_one [] = omega arith
most_one (x ∷ xs) = let h = most_one xs in omega (arith, h)

pub one_deep : {A : Type 0} (xs : List A) → 0 < length xs → greatest (λ b. 1) xs ≡ 1
one_deep [] lt = absurd (omega (arith, lt))
one_deep (x ∷ xs) lt = let h = most_one xs in omega (arith, h)

-- the operations of several statements
pub busy_sum : (xs : List statements.Statement) → busy_all (statements_of xs) ≡ sum_by (λ s. busy (statement_of s)) xs
busy_sum [] = refl
busy_sum (x ∷ xs) = ap (λ n. busy (statement_of x) + n) (busy_sum xs) ∙ sym (sum_by-cons (λ s. busy (statement_of s)) x xs)

pub busy_seq : (s : statements.Statement) (v : Vec statements.Statement Global) (xs : List statements.Statement) → s ≡ statements.Seq v → xs ≡ v.items → busy (statement_of s) ≡ sum_by (λ s. busy (statement_of s)) xs + 1
busy_seq s v xs is read = ap busy (seq_seen s v xs is read) ∙ ap (λ n. n + 1) (busy_sum xs)

pub depth_seq : (s : statements.Statement) (v : Vec statements.Statement Global) (xs : List statements.Statement) → s ≡ statements.Seq v → xs ≡ v.items → depth (statement_of s) ≡ depth_all (statements_of xs) + 1
depth_seq s v xs is read = ap depth (seq_seen s v xs is read)

pub loop_seq : (s : statements.Statement) (v : Vec statements.Statement Global) (xs : List statements.Statement) → s ≡ statements.Seq v → xs ≡ v.items → has_loop_any (statements_of xs) ≡ has_loop (statement_of s)
loop_seq s v xs is read = sym (ap has_loop (seq_seen s v xs is read))

-- each function of a program is small
functions_small : (fs : List functions.Function) (n : ℕ) → greatest (λ f. depth f.body) (map function_of fs) ≤ most_depth → sum_by function_nodes (map function_of fs) < n → All (λ f. (depth (statement_of f.body) ≤ most_depth) × (nodes (statement_of f.body) < n)) fs
functions_small [] n deep few = All-nil (λ f. (depth (statement_of f.body) ≤ most_depth) × (nodes (statement_of f.body) < n))
functions_small (f ∷ fs) n deep few =
    let c = sum_by-cons function_nodes (function_of f) (map function_of fs) in
    All-cons (λ f. (depth (statement_of f.body) ≤ most_depth) × (nodes (statement_of f.body) < n)) f fs (omega (arith, deep), omega (arith, few, c)) (functions_small fs n (omega (arith, deep)) (omega (arith, few, c)))

pub each_small : (fs : List functions.Function) → greatest (λ f. depth f.body) (map function_of fs) ≤ most_depth → sum_by function_nodes (map function_of fs) < 2 ^ 26 → All (λ f. (depth (statement_of f.body) ≤ most_depth) × (nodes (statement_of f.body) < 2 ^ 26)) fs
each_small fs deep few = functions_small fs (2 ^ 26) deep few

-- the operations of a program are a number
functions_busy : (fs : List functions.Function) → sum_by (λ f. busy (statement_of f.body) + 1) fs ≤ sum_by function_nodes (map function_of fs)
functions_busy [] = omega arith
functions_busy (f ∷ fs) =
    let a = sum_by-cons (λ (f : functions.Function). busy (statement_of f.body) + 1) f fs in
    let b = sum_by-cons function_nodes (function_of f) (map function_of fs) in
    let c = busy_few (statement_of f.body) in
    let d = functions_busy fs in
    omega (arith, a, b, c, d)

pub busy_small : (fs : List functions.Function) → sum_by function_nodes (map function_of fs) < 2 ^ 26 → sum_by (λ f. busy (statement_of f.body) + 1) fs < 2 ^ 32
busy_small fs few = let a = functions_busy fs in omega (arith, a, few)

pub busy_as_seen : (fs : List functions.Function) → sum_by (λ f. busy (statement_of f.body) + 1) fs ≡ sum_by (λ f. busy f.body + 1) (map function_of fs)
busy_as_seen [] = refl
busy_as_seen (f ∷ fs) =
    let a = sum_by-cons (λ (f : functions.Function). busy (statement_of f.body) + 1) f fs in
    let b = sum_by-cons (λ (f : Function). busy f.body + 1) (function_of f) (map function_of fs) in
    let c = busy_as_seen fs in
    omega (arith, a, b, c)
