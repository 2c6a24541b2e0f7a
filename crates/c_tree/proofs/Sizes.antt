-- Sizes of lists of trees.
use Rattle.std.proofs.Common.{◌≡◌, ℕ, suc, ◌+◌, ◌<◌, ◌≤◌, List, [], ◌∷◌, length, get_or, drop, refl, ap, ◌∙◌, sym, subst, arith}
use Rattle.std.proofs.Math.Seq.{drop-cons}
use Rattle.std.proofs.lemmas.List.{drop_all}
use Rattle.c_tree.specs.declared.size.Size.{Size}
use Rattle.c_tree.specs.declared.expression.Expr as exprs
use Rattle.c_tree.specs.Size.{Fits, beside, over, size, size_all, size_items, size_row, size_statement}
use Rattle.c_tree.specs.Tree.{Exprs, NoExpr, AndExpr, Items, NoItem, AndDeclaration, AndStatement, AndRestriction, AndLabel, Row, Then}
use Rattle.std.specs.Prelude.{Vec}
use Rattle.std.specs.Global.{Global}
use Rattle.c_tree.specs.declared.expression.NameId.{NameId}
use Rattle.c_tree.specs.declared.statement.Item as items
use Rattle.c_tree.specs.declared.statement.Statement as statements
use Rattle.c_tree.proofs.Rows.{call_view, block_view, switch_view}
use Rattle.c_tree.specs.View.{declaration_of, expr_of, exprs_of, item_size, items_of, label_of, row_of, statement_of}

-- the size of a list, behind what comes before
abbrev pub sizes : {A : Type 0} → (A → Size) → Size → List A → Size
sizes f s [] = s
sizes f s (x ∷ xs) = sizes f (beside s (f x)) xs

pub size_all-exprs_of : (front : Exprs ℕ) (es : List exprs.Expr) → size_all (exprs_of front es) ≡ sizes (λ e. size (expr_of e)) (size_all front) es
size_all-exprs_of front [] = refl
size_all-exprs_of front (e ∷ es) = size_all-exprs_of (AndExpr front (expr_of e)) es

pub size_row-row_of : {A B : Type 0} (f : B → Size) (g : A → B) (front : Row B) (xs : List A) → size_row f (row_of g front xs) ≡ sizes (λ x. f (g x)) (size_row f front) xs
size_row-row_of f g front [] = refl
size_row-row_of f g front (x ∷ xs) = size_row-row_of f g (Then front (g x)) xs

pub fits_left : (a b : Size) → Fits (beside a b) → Fits a
fits_left a b h = record { nodes = omega (arith, h.nodes); depth = omega (arith, h.depth) }

pub fits_right : (a b : Size) → Fits (beside a b) → Fits b
fits_right a b h = record { nodes = omega (arith, h.nodes); depth = omega (arith, h.depth) }

pub fits_before : {A : Type 0} (f : A → Size) (s : Size) (xs : List A) → Fits (sizes f s xs) → Fits s
fits_before f s [] h = h
fits_before f s (x ∷ xs) h = fits_left s (f x) (fits_before f (beside s (f x)) xs h)

pub fits_under : (s : Size) → Fits (over s) → Fits s
fits_under s h = record { nodes = omega (arith, h.nodes); depth = omega (arith, h.depth) }

-- the next of a list, where a list is measured
pub fits_next : {A : Type 0} (f : A → Size) (s : Size) (x : A) (xs : List A) → Fits (sizes f s (x ∷ xs)) → Fits (beside s (f x))
fits_next f s x xs h = fits_before f (beside s (f x)) xs h

nodes_before : {A : Type 0} (f : A → Size) (s : Size) (xs : List A) → s.nodes ≤ (sizes f s xs).nodes
nodes_before f s [] = omega arith
nodes_before f s (x ∷ xs) = omega (arith, nodes_before f (beside s (f x)) xs)

-- where a list is measured: what comes before the next, the next, and the rest
pub record HasNext {A : Type 0} (f : A → Size) (s : Size) (x : A) (xs : List A) (whole : Size) : Type 0 where
  pub fits : Fits (f x)
  pub both : Fits (beside s (f x))
  pub fewer : (f x).nodes ≤ whole.nodes
  pub more : sizes f (beside s (f x)) xs ≡ whole

pub has_next : {A : Type 0} (f : A → Size) (s : Size) (x : A) (xs : List A) (whole : Size) → Fits whole → sizes f s (x ∷ xs) ≡ whole → HasNext f s x xs whole
has_next f s x xs whole h same =
    let both = fits_next f s x xs (subst Fits (sym same) h) in
    record { fits = fits_right s (f x) both; both = both; fewer = omega (arith, nodes_before f (beside s (f x)) xs, ap (λ t. t.nodes) same); more = same }

pub call_size : (e : exprs.Expr) (function : NameId) (v : Vec exprs.Expr Global) (at : ℕ) → e ≡ exprs.Call function v at → size (expr_of e) ≡ over (size_all (exprs_of NoExpr v.items))
call_size e function v at same = ap (λ e. size (expr_of e)) same ∙ ap size (call_view function v at)

-- within a loop over a list
pub loop_next : {A : Type 0} (f : A → Size) (s : Size) (xs : List A) (i : ℕ) (x : A) (whole : Size) → i < length xs → x ≡ get_or xs i x → Fits whole → sizes f s (drop i xs) ≡ whole → HasNext f s x (drop (i + 1) xs) whole
loop_next f s xs i x whole within is h same =
    let e : i + 1 ≡ suc i = omega arith in
    let split : drop i xs ≡ x ∷ drop (i + 1) xs = drop-cons xs i x within ∙ ap (λ y. y ∷ drop (suc i) xs) (sym is) ∙ ap (λ n. x ∷ drop n xs) (sym e) in
    has_next f s x (drop (i + 1) xs) whole h (ap (sizes f s) (sym split) ∙ same)

-- behind it
pub loop_end : {A : Type 0} (f : A → Size) (s : Size) (xs : List A) (i : ℕ) (whole : Size) → length xs ≤ i → sizes f s (drop i xs) ≡ whole → s ≡ whole
loop_end f s xs i whole all same = ap (sizes f s) (sym (drop_all i xs all)) ∙ same

pub size_items-items_of : (front : Items ℕ) (xs : List items.Item) → size_items (items_of front xs) ≡ sizes item_size (size_items front) xs
size_items-items_of front [] = refl
size_items-items_of front (items.Declaration declaration ∷ xs) = size_items-items_of (AndDeclaration front (declaration_of declaration)) xs
size_items-items_of front (items.Statement statement ∷ xs) = size_items-items_of (AndStatement front (statement_of statement)) xs
size_items-items_of front (items.Restriction pragma ∷ xs) = size_items-items_of (AndRestriction front pragma) xs
size_items-items_of front (items.Label label ∷ xs) = size_items-items_of (AndLabel front (label_of label)) xs

pub block_size : (s : statements.Statement) (v : Vec items.Item Global) (at : ℕ) → s ≡ statements.Block v at → size_statement (statement_of s) ≡ over (size_items (items_of NoItem v.items))
block_size s v at same = ap (λ s. size_statement (statement_of s)) same ∙ ap size_statement (block_view v at)

pub switch_size : (s : statements.Statement) (test : exprs.Expr) (v : Vec items.Item Global) (at : ℕ) → s ≡ statements.Switch test v at → size_statement (statement_of s) ≡ over (beside (size (expr_of test)) (size_items (items_of NoItem v.items)))
switch_size s test v at same = ap (λ s. size_statement (statement_of s)) same ∙ ap size_statement (switch_view test v at)
