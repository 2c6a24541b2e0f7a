-- In a folded program no operator stands over constants, and no choice has a constant test.
use Rattle.std.proofs.Common.{ℕ, ◌+◌, List, [], ◌∷◌, length, get_or, All}
use Rattle.std.proofs.lemmas.List.Elements.{All-cons, All-map, All-nil}
use Rattle.high_ir.specs.declared.object.Kind.{Kind}
use Rattle.high_ir.specs.declared.object.Kind.TheVariants.{Unsigned8}
use Rattle.high_ir.specs.Tree.{Expr, Constant, Variable, Element, Unary, Binary, Statement, Set, Put, Get, Keep, Mark, Seq, If, Loop, Block, Leave, Call, Return, Statements, End, Then, Function}
use Rattle.high_folded.specs.Done.{AreDone, IsComputed, IsDone}
use Rattle.high_folded.specs.Folded.{constant_of, folded, folded_all, folded_expr, folded_function, folded_functions, kept_loops, stored_expr}
use Rattle.high_folded.proofs.Cases.{binary_cases, decided_cases, stored_cases, unary_cases}

computed : (e : Expr) → IsComputed (folded_expr e)
computed (Constant word) = tt
computed (Variable x) = tt
computed (Element array index) = computed index
computed (Unary operator e) = let h = computed e in unary_cases IsComputed operator (folded_expr e) (λ word is. tt) (λ idle. h) (λ none plain. (none, plain, h))
computed (Binary operator left right) =
    let h = computed left in
    let k = computed right in
    binary_cases IsComputed operator (folded_expr left) (folded_expr right) (λ u v is is'. tt) (λ v is t. h) (λ u is t. k) (λ plain. (plain, h, k))

computed_stored : (kind : Kind) (e : Expr) → IsComputed (stored_expr kind e)
computed_stored kind e = stored_cases (λ old new. IsComputed new) kind computed (λ operator e new h. h) e

mutual
  done : (s : Statement) (n : ℕ) → IsDone (folded n s)
  done (Set x e) n = computed e
  done (Put e) n = computed_stored Unsigned8 e
  done (Get x) n = tt
  done (Keep array i e) n = (computed i, computed_stored array.kind e)
  done (Mark m) n = tt
  done (Seq parts) n = all_done parts n
  done (If test first other) n =
      let m = n + length (kept_loops first) in
      decided_cases IsDone (constant_of (folded_expr test)) (folded n first) (folded n other) (If (folded_expr test) (folded n first) (folded m other))
      (done first n) (done other n) (λ none. (none, computed test, done first n, done other m))
  done (Loop id least most body) n = done body (n + 1)
  done (Block body) n = done body n
  done (Leave d) n = tt
  done (Call f values arrays into) n = All-map IsComputed folded_expr values (λ k d lt. computed (get_or values k d))
  done (Return e) n = computed e

  all_done : (parts : Statements) (n : ℕ) → AreDone (folded_all n parts)
  all_done End n = tt
  all_done (Then first rest) n = (done first n, all_done rest (n + length (kept_loops first)))

pub functions_done : (fs : List Function) (n : ℕ) → All (λ f. IsDone f.body) (folded_functions n fs)
functions_done [] n = All-nil (λ f. IsDone f.body)
functions_done (f ∷ fs) n =
    let m = n + length (kept_loops f.body) in
    All-cons (λ f. IsDone f.body) (folded_function n f) (folded_functions m fs) (done f.body n) (functions_done fs m)
