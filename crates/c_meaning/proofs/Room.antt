-- How much of a tree is left to be walked over.
use Rattle.std.proofs.Common.{◌≡◌, ℕ, ◌+◌, ◌*◌, ◌<◌, ◌≤◌, List, [], ◌∷◌, length, get_or, drop, map, Option, Some, None, refl, ap, sym, ◌∙◌, subst, arith}
use Rattle.std.specs.Prelude.{Vec, sum_by}
use Rattle.std.specs.Global.{Global}
use Rattle.std.proofs.lemmas.List.Sums.{get_or-le-sum_by, sum_by-cons, sum_by-take-drop}
use Rattle.types_tree.specs.Tree.{Place, Scalar, Element, Within, Expr, Number, Character, Read, Array, Paren, Call, Step, Signed, Cast, Convert, Operate, And, Or, Comma, Conditional, Assign, Update, Exprs, NoExpr, WithExpr, Initial, Absent, Value, Listed, Object, Declared, Declaration, Objects, Prototype, ForStart, NoStart, StartValue, StartDeclaration, Statement, Block, Empty, Evaluate, Marker, If, IfElse, While, Do, For, Switch, Break, Continue, Return, Items, NoItem, WithDeclaration, WithStatement, WithRestriction, WithLabel}
use Rattle.types_tree.specs.View.{declaration_of, expr_of, exprs_of, items_of, object_of, statement_of, with_item}
use Rattle.types_tree.specs.declared.declaration.Object as objects
use Rattle.types_tree.specs.declared.expression.Callee.{Callee}
use Rattle.types_tree.specs.declared.expression.Expr as exprs
use Rattle.types_tree.specs.declared.external.Function.{Function}
use Rattle.types_tree.specs.declared.statement.Item as items
use Rattle.types_tree.specs.declared.statement.Statement as statements
use Rattle.types_tree.proofs.Rows.{block_view, call_view, switch_view}

abbrev mutual
  pub place_size : Place → ℕ
  place_size (Scalar object at) = 1
  place_size (Element array index at) = 1 + expr_size index
  place_size (Within inner at) = 1 + place_size inner

  pub expr_size : Expr → ℕ
  expr_size (Number constant at) = 1
  expr_size (Character value at) = 1
  expr_size (Read place) = 1 + place_size place
  expr_size (Array object at) = 1
  expr_size (Paren inner at) = 1 + expr_size inner
  expr_size (Call callee arguments at) = 1 + exprs_size arguments
  expr_size (Step fix operator kind target at) = 1 + place_size target
  expr_size (Signed operator kind operand at) = 1 + expr_size operand
  expr_size (Cast specifiers to operand at) = 1 + expr_size operand
  expr_size (Convert to operand) = 1 + expr_size operand
  expr_size (Operate operator kind left right at) = 1 + (expr_size left + expr_size right)
  expr_size (And left right at) = 1 + (expr_size left + expr_size right)
  expr_size (Or left right at) = 1 + (expr_size left + expr_size right)
  expr_size (Comma left right at) = 1 + (expr_size left + expr_size right)
  expr_size (Conditional test first second at) = 1 + (expr_size test + (expr_size first + expr_size second))
  expr_size (Assign target value at) = 1 + (place_size target + expr_size value)
  expr_size (Update operator kind to target value at) = 1 + (place_size target + expr_size value)

  pub exprs_size : Exprs → ℕ
  exprs_size NoExpr = 0
  exprs_size (WithExpr e rest) = expr_size e + exprs_size rest

abbrev pub initial_size : Initial → ℕ
initial_size Absent = 1
initial_size (Value e) = 1 + expr_size e
initial_size (Listed es comma filling) = 1 + exprs_size es

abbrev pub object_size : Object → ℕ
object_size (Declared object shape initial at) = 1 + initial_size initial

abbrev pub objects_size : List Object → ℕ
objects_size [] = 0
objects_size (object ∷ rest) = object_size object + objects_size rest

abbrev pub declaration_size : Declaration → ℕ
declaration_size (Objects specifiers objects at) = 1 + objects_size objects
declaration_size (Prototype specifiers name params at) = 1

abbrev pub start_size : ForStart → ℕ
start_size NoStart = 1
start_size (StartValue e) = 1 + expr_size e
start_size (StartDeclaration declaration) = 1 + declaration_size declaration

abbrev pub option_size : Option Expr → ℕ
option_size None = 0
option_size (Some e) = expr_size e

abbrev mutual
  pub statement_size : Statement → ℕ
  statement_size (Block items at) = 1 + items_size items
  statement_size (Empty at) = 1
  statement_size (Evaluate e at) = 1 + expr_size e
  statement_size (Marker number pragma) = 1
  statement_size (If test first at) = 1 + (expr_size test + statement_size first)
  statement_size (IfElse test first second at) = 1 + (expr_size test + (statement_size first + statement_size second))
  statement_size (While number bound test body at) = 1 + (expr_size test + statement_size body)
  statement_size (Do number bound body test at) = 1 + (expr_size test + statement_size body)
  statement_size (For number bound start test step body at) = 1 + (start_size start + (option_size test + (option_size step + statement_size body)))
  statement_size (Switch test items at) = 1 + (expr_size test + items_size items)
  statement_size (Break at) = 1
  statement_size (Continue at) = 1
  statement_size (Return e at) = 1 + option_size e

  pub items_size : Items → ℕ
  items_size NoItem = 0
  items_size (WithDeclaration declaration rest) = 1 + declaration_size declaration + items_size rest
  items_size (WithStatement statement rest) = 1 + statement_size statement + items_size rest
  items_size (WithRestriction pragma rest) = 1 + items_size rest
  items_size (WithLabel label rest) = 1 + items_size rest

-- of one item
abbrev pub item_size : items.Item → ℕ
item_size (items.Declaration declaration) = 1 + declaration_size (declaration_of declaration)
item_size (items.Statement statement) = 1 + statement_size (statement_of statement)
item_size (items.Restriction pragma) = 1
item_size (items.Label label) = 1

with_item_size : (item : items.Item) (rest : Items) → items_size (with_item item rest) ≡ item_size item + items_size rest
with_item_size (items.Declaration declaration) rest = refl
with_item_size (items.Statement statement) rest = refl
with_item_size (items.Restriction pragma) rest = refl
with_item_size (items.Label label) rest = refl

-- more than what any body needs
abbrev pub room : List Function → ℕ
room fs = sum_by (λ f. 8 * items_size (items_of f.body.items)) fs + 8

pub exprs_size-sum : (xs : List exprs.Expr) → exprs_size (exprs_of xs) ≡ sum_by (λ e. expr_size (expr_of e)) xs
exprs_size-sum [] = refl
exprs_size-sum (x ∷ xs) = ap (λ n. expr_size (expr_of x) + n) (exprs_size-sum xs) ∙ sym (sum_by-cons (λ e. expr_size (expr_of e)) x xs)

pub expr_within : (xs : List exprs.Expr) (i : ℕ) (x : exprs.Expr) → i < length xs → x ≡ get_or xs i x → expr_size (expr_of x) ≤ exprs_size (exprs_of xs)
expr_within xs i x lt read =
    subst (λ y. expr_size (expr_of y) ≤ exprs_size (exprs_of xs)) (sym read)
    (subst (λ n. expr_size (expr_of (get_or xs i x)) ≤ n) (sym (exprs_size-sum xs)) (get_or-le-sum_by (λ e. expr_size (expr_of e)) xs i x lt))

pub objects_size-sum : (xs : List objects.Object) → objects_size (map object_of xs) ≡ sum_by (λ o. object_size (object_of o)) xs
objects_size-sum [] = refl
objects_size-sum (x ∷ xs) = ap (λ n. object_size (object_of x) + n) (objects_size-sum xs) ∙ sym (sum_by-cons (λ o. object_size (object_of o)) x xs)

pub object_within : (xs : List objects.Object) (i : ℕ) (x : objects.Object) → i < length xs → x ≡ get_or xs i x → object_size (object_of x) ≤ objects_size (map object_of xs)
object_within xs i x lt read =
    subst (λ y. object_size (object_of y) ≤ objects_size (map object_of xs)) (sym read)
    (subst (λ n. object_size (object_of (get_or xs i x)) ≤ n) (sym (objects_size-sum xs)) (get_or-le-sum_by (λ o. object_size (object_of o)) xs i x lt))

pub items_size-sum : (xs : List items.Item) → items_size (items_of xs) ≡ sum_by item_size xs
items_size-sum [] = refl
items_size-sum (x ∷ xs) = with_item_size x (items_of xs) ∙ ap (λ n. item_size x + n) (items_size-sum xs) ∙ sym (sum_by-cons item_size x xs)

pub item_within : (xs : List items.Item) (i : ℕ) (x : items.Item) → i < length xs → x ≡ get_or xs i x → item_size x ≤ items_size (items_of xs)
item_within xs i x lt read =
    subst (λ y. item_size y ≤ items_size (items_of xs)) (sym read)
    (subst (λ n. item_size (get_or xs i x) ≤ n) (sym (items_size-sum xs)) (get_or-le-sum_by item_size xs i x lt))

pub items_behind : (xs : List items.Item) (n : ℕ) → items_size (items_of (drop n xs)) ≤ items_size (items_of xs)
items_behind xs n = omega (arith, items_size-sum xs, items_size-sum (drop n xs), sum_by-take-drop item_size xs n)

pub body_within : (fs : List Function) (i : ℕ) (f : Function) → i < length fs → f ≡ get_or fs i f → 8 * items_size (items_of f.body.items) + 8 ≤ room fs
body_within fs i f lt read =
    let le = get_or-le-sum_by (λ f. 8 * items_size (items_of f.body.items)) fs i f lt in
    omega (arith, ap (λ f. 8 * items_size (items_of f.body.items)) read, le)

-- the parts that the code keeps in lists
pub call_size : (e : exprs.Expr) (callee : Callee) (v : Vec exprs.Expr Global) (at : ℕ) (xs : List exprs.Expr) → e ≡ exprs.Call callee v at → xs ≡ v.items → expr_size (expr_of e) ≡ 1 + exprs_size (exprs_of xs)
call_size e callee v at xs same read = ap (λ e. expr_size (expr_of e)) same ∙ ap expr_size (call_view callee v at) ∙ ap (λ ys. 1 + exprs_size (exprs_of ys)) (sym read)

pub block_size : (s : statements.Statement) (v : Vec items.Item Global) (at : ℕ) (xs : List items.Item) → s ≡ statements.Block v at → xs ≡ v.items → statement_size (statement_of s) ≡ 1 + items_size (items_of xs)
block_size s v at xs same read = ap (λ s. statement_size (statement_of s)) same ∙ ap statement_size (block_view v at) ∙ ap (λ ys. 1 + items_size (items_of ys)) (sym read)

pub switch_size : (s : statements.Statement) (test : exprs.Expr) (v : Vec items.Item Global) (at : ℕ) (xs : List items.Item) → s ≡ statements.Switch test v at → xs ≡ v.items → statement_size (statement_of s) ≡ 1 + (expr_size (expr_of test) + items_size (items_of xs))
switch_size s test v at xs same read = ap (λ s. statement_size (statement_of s)) same ∙ ap statement_size (switch_view test v at) ∙ ap (λ ys. 1 + (expr_size (expr_of test) + items_size (items_of ys))) (sym read)
