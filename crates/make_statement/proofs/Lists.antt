-- Elements and objects, one after another.
use Rattle.std.proofs.Common.{◌≡◌, ℕ, ◌+◌, ◌<◌, List, [], ◌∷◌, length, drop, get_or, map, refl, sym, ap, ◌∙◌, arith}
use Rattle.std.proofs.lemmas.List.{drop_more}
use Rattle.facts_definitions.specs.Sites.{count_exprs}
use Rattle.types_tree.specs.declared.declaration.Object.{Object}
use Rattle.types_tree.specs.declared.expression.Expr as exprs
use Rattle.types_tree.specs.View.{expr_of, exprs_of, object_of}
use Rattle.high_ir.specs.Tree.{Constant, Statement, Statements}
use Rattle.high_code.specs.Code.{alone, joined}
use Rattle.plan_definition.specs.declared.home.Home.{Home}
use Rattle.plan_definition.specs.declared.purpose.Purpose.TheVariants.{Value}
use Rattle.plan_definition.specs.Statements as plans
use Rattle.plan_definition.specs.Statements.{all_declared, listed, stored_at}
use Rattle.plan_definition.specs.Values.{made}
use Rattle.make_pieces.proofs.Lists.{joined_joined}
use Rattle.make_statement.specs.Planned.{element_planned, object_planned}

-- one element more of a list
pub one_element : (plan : plans.Plan) (home : Home) (xs : List exprs.Expr) (i at : ℕ) (x : exprs.Expr) (k : ℕ) (a b : Statements) → i < length xs → x ≡ get_or xs i x → at ≡ i → b ≡ joined a (element_planned plan home (expr_of x) at k) →
    joined b (listed plan home (exprs_of (drop (i + 1) xs)) (i + 1) k) ≡ joined a (listed plan home (exprs_of (drop i xs)) i k)
one_element plan home xs i at x k a b lt is same added =
    ap (λ c. joined c rest) added
    ∙ joined_joined a (element_planned plan home (expr_of x) at k) rest
    ∙ ap (λ n. joined a (joined (element_planned plan home (expr_of x) n k) rest)) same
    ∙ ap (joined a) (joined_joined (made plan.homes Value (expr_of x) k).code (alone stored) rest)
    ∙ sym (ap (λ ys. joined a (listed plan home (exprs_of ys) i k)) (drop_more xs i x lt ∙ ap (λ y. y ∷ drop (i + 1) xs) (sym is)))
  where
    rest : Statements
    rest = listed plan home (exprs_of (drop (i + 1) xs)) (i + 1) k

    stored : Statement
    stored = stored_at home (Constant i) (made plan.homes Value (expr_of x) k).value

-- one object more of a declaration
pub one_object : (plan : plans.Plan) (xs : List Object) (i : ℕ) (x : Object) (shift k : ℕ) (a b : Statements) → i < length xs → x ≡ get_or xs i x → b ≡ joined a (object_planned plan (object_of x) shift k) →
    joined b (all_declared plan (map object_of (drop (i + 1) xs)) shift k) ≡ joined a (all_declared plan (map object_of (drop i xs)) shift k)
one_object plan xs i x shift k a b lt is added =
    ap (λ c. joined c (all_declared plan (map object_of (drop (i + 1) xs)) shift k)) added
    ∙ joined_joined a (object_planned plan (object_of x) shift k) (all_declared plan (map object_of (drop (i + 1) xs)) shift k)
    ∙ sym (ap (λ ys. joined a (all_declared plan (map object_of ys) shift k)) (drop_more xs i x lt ∙ ap (λ y. y ∷ drop (i + 1) xs) (sym is)))

pub count_length : (xs : List exprs.Expr) → count_exprs (exprs_of xs) ≡ length xs
count_length [] = refl
count_length (x ∷ xs) = omega (arith, count_length xs)
