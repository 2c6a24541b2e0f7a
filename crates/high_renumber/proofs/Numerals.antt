-- What a choice, a loop and a sequence become when they are numbered, from what their parts become.
use Rattle.std.proofs.Common.{◌≡◌, ℕ, suc, ◌+◌, ◌<◌, List, [], ◌∷◌, ◌++◌, length, drop, get_or, map, sym, ap, ◌∙◌, add-one, append_assoc, drop-cons}
use Rattle.std.specs.Prelude.{Vec}
use Rattle.std.proofs.Common.{Box}
use Rattle.std.specs.Global.{Global}
use Rattle.std.proofs.lemmas.List.{length-map, map-append}
use Rattle.std.proofs.lemmas.List.Concat.{flat_map-cons}
use Rattle.high_ir.specs.declared.high.Function as functions
use Rattle.high_ir.specs.declared.statement.Statement as statements
use Rattle.high_ir.specs.declared.statement.Statement.TheViews as views
use Rattle.high_ir.proofs.Rows.{statement_of-Seq}
use Rattle.high_ir.specs.Standing.{loops_in, loops_of, loops_of_all, marks_in, marks_of, marks_of_all}
use Rattle.high_ir.specs.Tree.{Expr, Function, Statement, If, Loop, Seq}
use Rattle.high_ir.specs.View.{expr_of, function_of, statement_of, statements_of}
use Rattle.high_renumber.specs.Numbered.{function_numbered, functions_numbered, ids, numbered, numbered_all}
use Rattle.high_renumber.proofs.Walks.{length_behind}

module _ (s : statements.Statement) (v : Vec statements.Statement Global) (xs : List statements.Statement) (is : s ≡ statements.Seq v) (read : xs ≡ v.items) where
  pub seq_numbered : (m n : ℕ) → Seq (numbered_all m n (statements_of xs)) ≡ numbered m n (statement_of s)
  seq_numbered m n = ap (λ ys. Seq (numbered_all m n (statements_of ys))) read ∙ ap (numbered m n) (sym (statement_of-Seq v)) ∙ ap (λ x. numbered m n (statement_of x)) (sym is)

  pub seq_marks : marks_of_all (statements_of xs) ≡ marks_of (statement_of s)
  seq_marks = ap (λ ys. marks_of_all (statements_of ys)) read ∙ ap marks_of (sym (statement_of-Seq v)) ∙ ap (λ x. marks_of (statement_of x)) (sym is)

  pub seq_loops : loops_of_all (statements_of xs) ≡ loops_of (statement_of s)
  seq_loops = ap (λ ys. loops_of_all (statements_of ys)) read ∙ ap loops_of (sym (statement_of-Seq v)) ∙ ap (λ x. loops_of (statement_of x)) (sym is)

-- a choice, whose first way is numbered, and whose other way is numbered behind it
pub choice_made : (whole : statements.Statement) (t x : Statement) (test : Expr) (a b : Statement) (marks loops now further : List ℕ) → statement_of whole ≡ If test a b → t ≡ If test x (numbered (length now) (length further) b) → x ≡ numbered (length marks) (length loops) a → now ≡ marks ++ marks_of a → further ≡ loops ++ ids (loops_of a) →
    t ≡ numbered (length marks) (length loops) (statement_of whole)
choice_made whole t x test a b marks loops now further is made first counted counted' =
    made
    ∙ ap (λ y. If test y (numbered (length now) (length further) b)) first
    ∙ ap (λ k. If test (numbered (length marks) (length loops) a) (numbered k (length further) b)) (length_behind marks now (marks_of a) counted)
    ∙ ap (λ k. If test (numbered (length marks) (length loops) a) (numbered (length marks + length (marks_of a)) k b)) (length_behind loops further (ids (loops_of a)) counted' ∙ ap (λ n. length loops + n) (length-map (loops_of a) (λ l. l.id)))
    ∙ ap (numbered (length marks) (length loops)) (sym is)

pub choice_marks : (whole : statements.Statement) (test : Expr) (a b : Statement) (marks now behind : List ℕ) → statement_of whole ≡ If test a b → now ≡ marks ++ marks_of a → behind ≡ now ++ marks_of b → behind ≡ marks ++ marks_of (statement_of whole)
choice_marks whole test a b marks now behind is first second =
    second ∙ ap (λ l. l ++ marks_of b) first ∙ append_assoc marks (marks_of a) (marks_of b) ∙ ap (λ s. marks ++ marks_of s) (sym is)

pub choice_loops : (whole : statements.Statement) (test : Expr) (a b : Statement) (loops now behind : List ℕ) → statement_of whole ≡ If test a b → now ≡ loops ++ ids (loops_of a) → behind ≡ now ++ ids (loops_of b) → behind ≡ loops ++ ids (loops_of (statement_of whole))
choice_loops whole test a b loops now behind is first second =
    second ∙ ap (λ l. l ++ ids (loops_of b)) first ∙ append_assoc loops (ids (loops_of a)) (ids (loops_of b)) ∙ ap (λ l. loops ++ l) (sym (map-append (λ l. l.id) (loops_of a) (loops_of b))) ∙ ap (λ s. loops ++ ids (loops_of s)) (sym is)

-- a choice as the code has it
pub choice_view : (whole : statements.Statement) (test : _) (p q : Box statements.Statement Global) (a b : statements.Statement) → whole ≡ views.If test p q → a ≡ p.value → b ≡ q.value → statement_of whole ≡ If (expr_of test) (statement_of a) (statement_of b)
choice_view whole test p q a b is first other = ap statement_of is ∙ ap (λ x. If (expr_of test) (statement_of x) (statement_of q.value)) (sym first) ∙ ap (λ x. If (expr_of test) (statement_of a) (statement_of x)) (sym other)

-- a loop, which has the next number
pub loop_made : (whole : statements.Statement) (t x : Statement) (id least most n : ℕ) (body : Statement) (marks loops more : List ℕ) → statement_of whole ≡ Loop id least most body → t ≡ Loop n least most x → x ≡ numbered (length marks) (length more) body → n ≡ length loops → more ≡ loops ++ id ∷ [] →
    t ≡ numbered (length marks) (length loops) (statement_of whole)
loop_made whole t x id least most n body marks loops more is made inside number counted =
    made
    ∙ ap (λ k. Loop k least most x) number
    ∙ ap (Loop (length loops) least most) (inside ∙ ap (λ k. numbered (length marks) k body) (length_behind loops more (id ∷ []) counted))
    ∙ ap (numbered (length marks) (length loops)) (sym is)

pub loop_loops : (whole : statements.Statement) (id least most : ℕ) (body : Statement) (loops more behind : List ℕ) → statement_of whole ≡ Loop id least most body → more ≡ loops ++ id ∷ [] → behind ≡ more ++ ids (loops_of body) → behind ≡ loops ++ ids (loops_of (statement_of whole))
loop_loops whole id least most body loops more behind is first second =
    second ∙ ap (λ l. l ++ ids (loops_of body)) first ∙ append_assoc loops (id ∷ []) (ids (loops_of body)) ∙ ap (λ s. loops ++ ids (loops_of s)) (sym is)

-- functions, one after another
functions_at : (fs : List functions.Function) (i : ℕ) (x : functions.Function) → i < length fs → x ≡ get_or fs i x → map function_of (drop i fs) ≡ function_of x ∷ map function_of (drop (i + 1) fs)
functions_at fs i x lt is =
    ap (map function_of) (drop-cons fs i x lt)
    ∙ ap (λ y. function_of y ∷ map function_of (drop (suc i) fs)) (sym is)
    ∙ ap (λ k. function_of x ∷ map function_of (drop k fs)) (sym (add-one i))

pub functions_more : (before now : List Function) (fs : List functions.Function) (i : ℕ) (x : functions.Function) (g : Function) (m n m' n' : ℕ) → i < length fs → x ≡ get_or fs i x → g ≡ function_numbered m n (function_of x) → now ≡ before ++ g ∷ [] → m' ≡ m + length (marks_of (function_of x).body) → n' ≡ n + length (loops_of (function_of x).body) →
    now ++ functions_numbered m' n' (map function_of (drop (i + 1) fs)) ≡ before ++ functions_numbered m n (map function_of (drop i fs))
functions_more before now fs i x g m n m' n' lt is made pushed marks loops =
    let rest = map function_of (drop (i + 1) fs) in
    ap (λ l. l ++ functions_numbered m' n' rest) pushed
    ∙ append_assoc before (g ∷ []) (functions_numbered m' n' rest)
    ∙ ap (λ h. before ++ h ∷ functions_numbered m' n' rest) made
    ∙ ap (λ k. before ++ function_numbered m n (function_of x) ∷ functions_numbered k n' rest) marks
    ∙ ap (λ k. before ++ function_numbered m n (function_of x) ∷ functions_numbered (m + length (marks_of (function_of x).body)) k rest) loops
    ∙ ap (λ l. before ++ functions_numbered m n l) (sym (functions_at fs i x lt is))

pub all_marks_more : (found now : List ℕ) (fs : List functions.Function) (i : ℕ) (x : functions.Function) → i < length fs → x ≡ get_or fs i x → now ≡ found ++ marks_of (function_of x).body → now ++ marks_in (map function_of (drop (i + 1) fs)) ≡ found ++ marks_in (map function_of (drop i fs))
all_marks_more found now fs i x lt is made =
    let rest = map function_of (drop (i + 1) fs) in
    ap (λ l. l ++ marks_in rest) made
    ∙ append_assoc found (marks_of (function_of x).body) (marks_in rest)
    ∙ ap (λ l. found ++ l) (sym (flat_map-cons (λ f. marks_of f.body) (function_of x) rest))
    ∙ ap (λ l. found ++ marks_in l) (sym (functions_at fs i x lt is))

pub all_loops_more : (found now : List ℕ) (fs : List functions.Function) (i : ℕ) (x : functions.Function) → i < length fs → x ≡ get_or fs i x → now ≡ found ++ ids (loops_of (function_of x).body) → now ++ ids (loops_in (map function_of (drop (i + 1) fs))) ≡ found ++ ids (loops_in (map function_of (drop i fs)))
all_loops_more found now fs i x lt is made =
    let rest = map function_of (drop (i + 1) fs) in
    ap (λ l. l ++ ids (loops_in rest)) made
    ∙ append_assoc found (ids (loops_of (function_of x).body)) (ids (loops_in rest))
    ∙ ap (λ l. found ++ l) (sym (map-append (λ l. l.id) (loops_of (function_of x).body) (loops_in rest)) ∙ ap ids (sym (flat_map-cons (λ f. loops_of f.body) (function_of x) rest)))
    ∙ ap (λ l. found ++ ids (loops_in l)) (sym (functions_at fs i x lt is))
