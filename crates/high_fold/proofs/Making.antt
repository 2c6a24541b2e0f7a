-- The folded statements that the code makes.
use Rattle.std.proofs.Common.{◌≡◌, ℕ, zero, suc, ◌+◌, ◌<◌, ◌≤◌, List, [], ◌∷◌, ◌++◌, length, get_or, drop, map, Option, Some, None, refl, sym, ap, ◌∙◌}
use Rattle.std.specs.Prelude.{Vec}
use Rattle.std.specs.Global.{Global}
use Rattle.std.proofs.lemmas.List.{append_assoc, drop_all, drop_more, length-append, length_push}
use Rattle.high_ir.specs.declared.high.Function as functions
use Rattle.high_ir.specs.declared.statement.Statement as statements
use Rattle.high_ir.specs.Tree.{Expr, Statement, Seq, If, Loop, Statements, Function}
use Rattle.high_ir.specs.View.{function_of, statement_of, statements_of}
use Rattle.high_ir.proofs.Rows.{statement_of-Seq}
use Rattle.high_code.specs.Code.{alone, joined}
use Rattle.high_parts.proofs.Making.{joined_end, joined_then, statements_push}
use Rattle.high_folded.specs.Folded.{constant_of, decided, folded, folded_all, folded_expr, folded_function, folded_functions, kept_all, kept_in, kept_loops}

-- a sequence is folded part by part
pub seq_folded : (n : ℕ) (s : statements.Statement) (v : Vec statements.Statement Global) (xs : List statements.Statement) (w : Vec statements.Statement Global) → s ≡ statements.Seq v → xs ≡ v.items → statements_of w.items ≡ folded_all n (statements_of xs) → statement_of (statements.Seq w) ≡ folded n (statement_of s)
seq_folded n s v xs w is read made =
    statement_of-Seq w ∙ ap Seq (made ∙ ap (λ ys. folded_all n (statements_of ys)) read) ∙ ap (folded n) (sym (statement_of-Seq v)) ∙ ap (λ x. folded n (statement_of x)) (sym is)

pub seq_kept : (s : statements.Statement) (v : Vec statements.Statement Global) (xs : List statements.Statement) (before after : List ℕ) → s ≡ statements.Seq v → xs ≡ v.items → after ≡ before ++ kept_all (statements_of xs) → after ≡ before ++ kept_loops (statement_of s)
seq_kept s v xs before after is read made =
    made ∙ ap (λ ys. before ++ kept_all (statements_of ys)) read ∙ ap (λ x. before ++ kept_loops x) (sym (statement_of-Seq v)) ∙ ap (λ x. before ++ kept_loops (statement_of x)) (sym is)

-- one element of a list, and those behind it
from_place : {A : Type 0} (xs : List A) (i : ℕ) (x : A) → i < length xs → x ≡ get_or xs i x → drop i xs ≡ x ∷ drop (i + 1) xs
from_place xs i x lt read = drop_more xs i x lt ∙ ap (λ y. y ∷ drop (i + 1) xs) (sym read)

-- one part more is folded
pub part_folded : (xs made made' : List statements.Statement) (i : ℕ) (x y : statements.Statement) (kept kept' : List ℕ) → i < length xs → x ≡ get_or xs i x →
    statement_of y ≡ folded (length kept) (statement_of x) → kept' ≡ kept ++ kept_loops (statement_of x) → made' ≡ made ++ y ∷ [] →
    joined (statements_of made') (folded_all (length kept') (statements_of (drop (i + 1) xs))) ≡ joined (statements_of made) (folded_all (length kept) (statements_of (drop i xs)))
part_folded xs made made' i x y kept kept' lt read same grown pushed =
    let rest : Statements = statements_of (drop (i + 1) xs) in
    let behind : Statements = folded_all (length kept + length (kept_loops (statement_of x))) rest in
    ap (λ k. joined (statements_of made') (folded_all k rest)) (ap length grown ∙ length-append kept (kept_loops (statement_of x)))
    ∙ ap (λ l. joined l behind) (ap statements_of pushed ∙ statements_push made y ∙ ap (λ s. joined (statements_of made) (alone s)) same)
    ∙ joined_then (statements_of made) (folded (length kept) (statement_of x)) behind
    ∙ sym (ap (λ l. joined (statements_of made) (folded_all (length kept) (statements_of l))) (from_place xs i x lt read))

-- and no part is left
pub all_folded : (xs made : List statements.Statement) (i k : ℕ) → length xs ≤ i → statements_of made ≡ joined (statements_of made) (folded_all k (statements_of (drop i xs)))
all_folded xs made i k le =
    sym (joined_end (statements_of made)) ∙ ap (λ l. joined (statements_of made) (folded_all k (statements_of l))) (sym (drop_all i xs le))

pub part_kept : (xs : List statements.Statement) (i : ℕ) (x : statements.Statement) (kept kept' : List ℕ) → i < length xs → x ≡ get_or xs i x → kept' ≡ kept ++ kept_loops (statement_of x) →
    kept' ++ kept_all (statements_of (drop (i + 1) xs)) ≡ kept ++ kept_all (statements_of (drop i xs))
part_kept xs i x kept kept' lt read grown =
    ap (λ l. l ++ kept_all (statements_of (drop (i + 1) xs))) grown
    ∙ append_assoc kept (kept_loops (statement_of x)) (kept_all (statements_of (drop (i + 1) xs)))
    ∙ sym (ap (λ l. kept ++ kept_all (statements_of l)) (from_place xs i x lt read))

-- one function more is folded
pub function_folded : (xs : List functions.Function) (made : List Function) (made' : List Function) (i : ℕ) (x : functions.Function) (y : Function) (kept kept' : List ℕ) → i < length xs → x ≡ get_or xs i x →
    y ≡ folded_function (length kept) (function_of x) → kept' ≡ kept ++ kept_loops (statement_of x.body) → made' ≡ made ++ y ∷ [] →
    made' ++ folded_functions (length kept') (map function_of (drop (i + 1) xs)) ≡ made ++ folded_functions (length kept) (map function_of (drop i xs))
function_folded xs made made' i x y kept kept' lt read same grown pushed =
    let rest : List Function = map function_of (drop (i + 1) xs) in
    let behind : List Function = folded_functions (length kept + length (kept_loops (statement_of x.body))) rest in
    ap (λ k. made' ++ folded_functions k rest) (ap length grown ∙ length-append kept (kept_loops (statement_of x.body)))
    ∙ ap (λ l. l ++ behind) (pushed ∙ ap (λ f. made ++ f ∷ []) same)
    ∙ append_assoc made (folded_function (length kept) (function_of x) ∷ []) behind
    ∙ sym (ap (λ l. made ++ folded_functions (length kept) (map function_of l)) (from_place xs i x lt read))

pub function_kept : (xs : List functions.Function) (i : ℕ) (x : functions.Function) (kept kept' : List ℕ) → i < length xs → x ≡ get_or xs i x → kept' ≡ kept ++ kept_loops (statement_of x.body) →
    kept' ++ kept_in (map function_of (drop (i + 1) xs)) ≡ kept ++ kept_in (map function_of (drop i xs))
function_kept xs i x kept kept' lt read grown =
    ap (λ l. l ++ kept_in (map function_of (drop (i + 1) xs))) grown
    ∙ append_assoc kept (kept_loops (statement_of x.body)) (kept_in (map function_of (drop (i + 1) xs)))
    ∙ sym (ap (λ l. kept ++ kept_in (map function_of l)) (from_place xs i x lt read))

-- a choice whose test is no constant
module _ (test t : Expr) (first other : Statement) (n : ℕ) (same : t ≡ folded_expr test) where
  known_is : (known : Option ℕ) → known ≡ constant_of t → constant_of (folded_expr test) ≡ known
  known_is known is = ap constant_of (sym same) ∙ sym is

  pub both_made : (f o : Statement) (known : Option ℕ) → known ≡ constant_of t → known ≡ None → f ≡ folded n first → o ≡ folded (n + length (kept_loops first)) other → If t f o ≡ folded n (If test first other)
  both_made f o known is none one two =
      ap (λ e. If e f o) same ∙ ap (λ s. If (folded_expr test) s o) one ∙ ap (If (folded_expr test) (folded n first)) two
      ∙ sym (ap (λ k. decided k (folded n first) (folded n other) (If (folded_expr test) (folded n first) (folded (n + length (kept_loops first)) other))) (known_is known is ∙ none))

  pub both_kept : (before after : List ℕ) (known : Option ℕ) → known ≡ constant_of t → known ≡ None → after ≡ before ++ (kept_loops first ++ kept_loops other) → after ≡ before ++ kept_loops (If test first other)
  both_kept before after known is none made =
      made ∙ sym (ap (λ k. before ++ decided k (kept_loops first) (kept_loops other) (kept_loops first ++ kept_loops other)) (known_is known is ∙ none))

  -- one whose test is 0
  pub other_made : (o : Statement) (known : Option ℕ) → known ≡ constant_of t → known ≡ Some 0 → o ≡ folded n other → o ≡ folded n (If test first other)
  other_made o known is naught two =
      two ∙ sym (ap (λ k. decided k (folded n first) (folded n other) (If (folded_expr test) (folded n first) (folded (n + length (kept_loops first)) other))) (known_is known is ∙ naught))

  pub other_kept : (before after : List ℕ) (known : Option ℕ) → known ≡ constant_of t → known ≡ Some 0 → after ≡ before ++ kept_loops other → after ≡ before ++ kept_loops (If test first other)
  other_kept before after known is naught made =
      made ∙ sym (ap (λ k. before ++ decided k (kept_loops first) (kept_loops other) (kept_loops first ++ kept_loops other)) (known_is known is ∙ naught))

  -- and one whose test is another constant
  pub first_made : (f : Statement) (known : Option ℕ) (word : ℕ) → known ≡ constant_of t → known ≡ Some word → (word ≡ 0 → ⊥) → f ≡ folded n first → f ≡ folded n (If test first other)
  first_made f known zero is some some_word one = absurd (some_word refl)
  first_made f known (suc k) is some some_word one =
      one ∙ sym (ap (λ k. decided k (folded n first) (folded n other) (If (folded_expr test) (folded n first) (folded (n + length (kept_loops first)) other))) (known_is known is ∙ some))

  pub first_kept : (before after : List ℕ) (known : Option ℕ) (word : ℕ) → known ≡ constant_of t → known ≡ Some word → (word ≡ 0 → ⊥) → after ≡ before ++ kept_loops first → after ≡ before ++ kept_loops (If test first other)
  first_kept before after known zero is some some_word made = absurd (some_word refl)
  first_kept before after known (suc k) is some some_word made =
      made ∙ sym (ap (λ k. before ++ decided k (kept_loops first) (kept_loops other) (kept_loops first ++ kept_loops other)) (known_is known is ∙ some))

-- both ways, one behind the other
pub other_behind : (first other : Statement) (o : Statement) (before between : List ℕ) → between ≡ before ++ kept_loops first → o ≡ folded (length between) other → o ≡ folded (length before + length (kept_loops first)) other
other_behind first other o before between grown made = made ∙ ap (λ k. folded k other) (ap length grown ∙ length-append before (kept_loops first))

pub ways_kept : (first other : Statement) (before between after : List ℕ) → between ≡ before ++ kept_loops first → after ≡ between ++ kept_loops other → after ≡ before ++ (kept_loops first ++ kept_loops other)
ways_kept first other before between after grown more = more ∙ ap (λ l. l ++ kept_loops other) grown ∙ append_assoc before (kept_loops first) (kept_loops other)

-- a loop
pub loop_made : (id least most number : ℕ) (body b r : Statement) (before between : List ℕ) → number ≡ length before → between ≡ before ++ id ∷ [] → b ≡ folded (length between) body → r ≡ Loop number least most b → r ≡ folded (length before) (Loop id least most body)
loop_made id least most number body b r before between count pushed same made =
    made ∙ ap (λ k. Loop k least most b) count ∙ ap (Loop (length before) least most) (same ∙ ap (λ k. folded k body) (ap length pushed ∙ length_push before id))

pub loop_kept : (id least most : ℕ) (body : Statement) (before between after : List ℕ) → between ≡ before ++ id ∷ [] → after ≡ between ++ kept_loops body → after ≡ before ++ kept_loops (Loop id least most body)
loop_kept id least most body before between after pushed more = more ∙ ap (λ l. l ++ kept_loops body) pushed ∙ append_assoc before (id ∷ []) (kept_loops body)
