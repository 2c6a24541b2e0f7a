-- What stands in a folded statement stood there before: its marks, the functions that it calls, its loops.
use Rattle.std.proofs.Common.{◌≡◌, inl, ℕ, zero, suc, ◌+◌, List, [], ◌∷◌, ◌++◌, length, map, Option, Some, None, refl, sym, ap, ◌∙◌, arith}
use Rattle.std.specs.List.{range_with_len}
use Rattle.std.proofs.lemmas.List.{length-map, map-append}
use Rattle.high_ir.specs.Standing.{Bounded, callees_of, callees_of_all, loops_in, loops_of, loops_of_all, marks_in, marks_of, marks_of_all}
use Rattle.high_ir.specs.Tree.{Statement, Set, Put, Get, Keep, Mark, Seq, If, Loop, Block, Leave, Call, Return, Statements, End, Then, Function}
use Rattle.high_parts.proofs.Numbers.{number_of}
use Rattle.high_folded.specs.Folded.{constant_of, decided, folded, folded_all, folded_expr, folded_functions, kept_all, kept_in, kept_loops}
use Rattle.high_folded.proofs.Cases.{decided_cases}
use Rattle.high_folded.proofs.Holds.{Holds, holds-append, holds_behind, holds_front, holds_itself}

mutual
  marks-folded : (s : Statement) (n : ℕ) → Holds (marks_of s) (marks_of (folded n s))
  marks-folded (Set x e) n = tt
  marks-folded (Put e) n = tt
  marks-folded (Get x) n = tt
  marks-folded (Keep array i e) n = tt
  marks-folded (Mark m) n = holds_itself (m ∷ [])
  marks-folded (Seq parts) n = marks_all-folded parts n
  marks-folded (If test first other) n =
      let m = n + length (kept_loops first) in
      decided_cases (λ s. Holds (marks_of first ++ marks_of other) (marks_of s)) (constant_of (folded_expr test)) (folded n first) (folded n other) (If (folded_expr test) (folded n first) (folded m other))
      (holds_front (marks_of first) (marks_of other) (marks_of (folded n first)) (marks-folded first n))
      (holds_behind (marks_of first) (marks_of other) (marks_of (folded n other)) (marks-folded other n))
      (λ none. holds-append (marks_of first) (marks_of (folded n first)) (marks_of other) (marks_of (folded m other)) (marks-folded first n) (marks-folded other m))
  marks-folded (Loop id least most body) n = marks-folded body (n + 1)
  marks-folded (Block body) n = marks-folded body n
  marks-folded (Leave d) n = tt
  marks-folded (Call f values arrays into) n = tt
  marks-folded (Return e) n = tt

  marks_all-folded : (parts : Statements) (n : ℕ) → Holds (marks_of_all parts) (marks_of_all (folded_all n parts))
  marks_all-folded End n = tt
  marks_all-folded (Then first rest) n =
      let m = n + length (kept_loops first) in
      holds-append (marks_of first) (marks_of (folded n first)) (marks_of_all rest) (marks_of_all (folded_all m rest)) (marks-folded first n) (marks_all-folded rest m)

mutual
  pub callees-folded : (s : Statement) (n : ℕ) → Holds (callees_of s) (callees_of (folded n s))
  callees-folded (Set x e) n = tt
  callees-folded (Put e) n = tt
  callees-folded (Get x) n = tt
  callees-folded (Keep array i e) n = tt
  callees-folded (Mark m) n = tt
  callees-folded (Seq parts) n = callees_all-folded parts n
  callees-folded (If test first other) n =
      let m = n + length (kept_loops first) in
      decided_cases (λ s. Holds (callees_of first ++ callees_of other) (callees_of s)) (constant_of (folded_expr test)) (folded n first) (folded n other) (If (folded_expr test) (folded n first) (folded m other))
      (holds_front (callees_of first) (callees_of other) (callees_of (folded n first)) (callees-folded first n))
      (holds_behind (callees_of first) (callees_of other) (callees_of (folded n other)) (callees-folded other n))
      (λ none. holds-append (callees_of first) (callees_of (folded n first)) (callees_of other) (callees_of (folded m other)) (callees-folded first n) (callees-folded other m))
  callees-folded (Loop id least most body) n = callees-folded body (n + 1)
  callees-folded (Block body) n = callees-folded body n
  callees-folded (Leave d) n = tt
  callees-folded (Call f values arrays into) n = holds_itself (f ∷ [])
  callees-folded (Return e) n = tt

  callees_all-folded : (parts : Statements) (n : ℕ) → Holds (callees_of_all parts) (callees_of_all (folded_all n parts))
  callees_all-folded End n = tt
  callees_all-folded (Then first rest) n =
      let m = n + length (kept_loops first) in
      holds-append (callees_of first) (callees_of (folded n first)) (callees_of_all rest) (callees_of_all (folded_all m rest)) (callees-folded first n) (callees_all-folded rest m)

-- the loops that stay, as they were
abbrev mutual
  pub stayed : Statement → List Bounded
  stayed (Loop id least most body) = (record { id = id; bounds = record { least = least; most = most } }) ∷ stayed body
  stayed (Seq parts) = stayed_all parts
  stayed (If test first other) = decided (constant_of (folded_expr test)) (stayed first) (stayed other) (stayed first ++ stayed other)
  stayed (Block body) = stayed body
  stayed (Set x e) = []
  stayed (Put e) = []
  stayed (Get x) = []
  stayed (Keep array i e) = []
  stayed (Mark m) = []
  stayed (Leave d) = []
  stayed (Call f values arrays into) = []
  stayed (Return e) = []

  pub stayed_all : Statements → List Bounded
  stayed_all End = []
  stayed_all (Then first rest) = stayed first ++ stayed_all rest

abbrev pub stayed_in : List Function → List Bounded
stayed_in [] = []
stayed_in (f ∷ rest) = stayed f.body ++ stayed_in rest

-- their numbers are those that are kept
chosen_numbers : (known : Option ℕ) (first other : List Bounded) (first' other' : List ℕ) → map number_of first ≡ first' → map number_of other ≡ other' → map number_of (first ++ other) ≡ first' ++ other' →
    map number_of (decided known first other (first ++ other)) ≡ decided known first' other' (first' ++ other')
chosen_numbers None first other first' other' f o b = b
chosen_numbers (Some zero) first other first' other' f o b = o
chosen_numbers (Some (suc n)) first other first' other' f o b = f

both_numbers : (first other : List Bounded) (first' other' : List ℕ) → map number_of first ≡ first' → map number_of other ≡ other' → map number_of (first ++ other) ≡ first' ++ other'
both_numbers first other first' other' f o = map-append number_of first other ∙ ap (λ l. l ++ map number_of other) f ∙ ap (λ l. first' ++ l) o

mutual
  numbers-stayed : (s : Statement) → map number_of (stayed s) ≡ kept_loops s
  numbers-stayed (Set x e) = refl
  numbers-stayed (Put e) = refl
  numbers-stayed (Get x) = refl
  numbers-stayed (Keep array i e) = refl
  numbers-stayed (Mark m) = refl
  numbers-stayed (Seq parts) = numbers-stayed_all parts
  numbers-stayed (If test first other) =
      let f = numbers-stayed first in
      let o = numbers-stayed other in
      chosen_numbers (constant_of (folded_expr test)) (stayed first) (stayed other) (kept_loops first) (kept_loops other) f o (both_numbers (stayed first) (stayed other) (kept_loops first) (kept_loops other) f o)
  numbers-stayed (Loop id least most body) = ap (λ l. id ∷ l) (numbers-stayed body)
  numbers-stayed (Block body) = numbers-stayed body
  numbers-stayed (Leave d) = refl
  numbers-stayed (Call f values arrays into) = refl
  numbers-stayed (Return e) = refl

  numbers-stayed_all : (parts : Statements) → map number_of (stayed_all parts) ≡ kept_all parts
  numbers-stayed_all End = refl
  numbers-stayed_all (Then first rest) = both_numbers (stayed first) (stayed_all rest) (kept_loops first) (kept_all rest) (numbers-stayed first) (numbers-stayed_all rest)

pub numbers-stayed_in : (fs : List Function) → map number_of (stayed_in fs) ≡ kept_in fs
numbers-stayed_in [] = refl
numbers-stayed_in (f ∷ fs) = both_numbers (stayed f.body) (stayed_in fs) (kept_loops f.body) (kept_in fs) (numbers-stayed f.body) (numbers-stayed_in fs)

as_many : (s : Statement) → length (kept_loops s) ≡ length (stayed s)
as_many s = sym (ap length (numbers-stayed s)) ∙ length-map (stayed s) number_of

-- they stand in the statement, in order
mutual
  loops_hold : (s : Statement) → Holds (loops_of s) (stayed s)
  loops_hold (Set x e) = tt
  loops_hold (Put e) = tt
  loops_hold (Get x) = tt
  loops_hold (Keep array i e) = tt
  loops_hold (Mark m) = tt
  loops_hold (Seq parts) = loops_all_hold parts
  loops_hold (If test first other) =
      decided_cases (λ l. Holds (loops_of first ++ loops_of other) l) (constant_of (folded_expr test)) (stayed first) (stayed other) (stayed first ++ stayed other)
      (holds_front (loops_of first) (loops_of other) (stayed first) (loops_hold first))
      (holds_behind (loops_of first) (loops_of other) (stayed other) (loops_hold other))
      (λ none. holds-append (loops_of first) (stayed first) (loops_of other) (stayed other) (loops_hold first) (loops_hold other))
  loops_hold (Loop id least most body) = inl (refl, loops_hold body)
  loops_hold (Block body) = loops_hold body
  loops_hold (Leave d) = tt
  loops_hold (Call f values arrays into) = tt
  loops_hold (Return e) = tt

  loops_all_hold : (parts : Statements) → Holds (loops_of_all parts) (stayed_all parts)
  loops_all_hold End = tt
  loops_all_hold (Then first rest) = holds-append (loops_of first) (stayed first) (loops_of_all rest) (stayed_all rest) (loops_hold first) (loops_all_hold rest)

-- loops with other numbers, from one on
abbrev pub numbered : ℕ → List Bounded → List Bounded
numbered n [] = []
numbered n (l ∷ ls) = (record { id = n; bounds = l.bounds }) ∷ numbered (n + 1) ls

pub numbers-numbered : (n : ℕ) (ls : List Bounded) → map number_of (numbered n ls) ≡ range_with_len n (length ls)
numbers-numbered n [] = refl
numbers-numbered n (l ∷ ls) = ap (λ r. n ∷ r) (numbers-numbered (n + 1) ls)

numbered-append : (n : ℕ) (ls ms : List Bounded) → numbered n (ls ++ ms) ≡ numbered n ls ++ numbered (n + length ls) ms
numbered-append n [] ms = ap (λ k. numbered k ms) (same n)
  where
    same : (n : ℕ) → n ≡ n + 0
    same n = omega arith
numbered-append n (l ∷ ls) ms =
    ap (λ r. (record { id = n; bounds = l.bounds }) ∷ r) (numbered-append (n + 1) ls ms ∙ ap (λ k. numbered (n + 1) ls ++ numbered k ms) (further n (length ls)))
  where
    further : (n k : ℕ) → n + 1 + k ≡ n + suc k
    further n k = omega arith

both_loops : (n m : ℕ) (a b ls ms : List Bounded) → a ≡ numbered n ls → b ≡ numbered m ms → m ≡ n + length ls → a ++ b ≡ numbered n (ls ++ ms)
both_loops n m a b ls ms e f behind =
    ap (λ l. l ++ b) e ∙ ap (λ l. numbered n ls ++ l) f ∙ ap (λ k. numbered n ls ++ numbered k ms) behind ∙ sym (numbered-append n ls ms)

chosen_loops : (known : Option ℕ) (n : ℕ) (first other both : Statement) (ls ms : List Bounded) → loops_of first ≡ numbered n ls → loops_of other ≡ numbered n ms → loops_of both ≡ numbered n (ls ++ ms) →
    loops_of (decided known first other both) ≡ numbered n (decided known ls ms (ls ++ ms))
chosen_loops None n first other both ls ms f o b = b
chosen_loops (Some zero) n first other both ls ms f o b = o
chosen_loops (Some (suc k)) n first other both ls ms f o b = f

-- the loops of a folded statement are those that stay, with new numbers
mutual
  loops-folded : (s : Statement) (n : ℕ) → loops_of (folded n s) ≡ numbered n (stayed s)
  loops-folded (Set x e) n = refl
  loops-folded (Put e) n = refl
  loops-folded (Get x) n = refl
  loops-folded (Keep array i e) n = refl
  loops-folded (Mark m) n = refl
  loops-folded (Seq parts) n = loops_all-folded parts n
  loops-folded (If test first other) n =
      let m = n + length (kept_loops first) in
      chosen_loops (constant_of (folded_expr test)) n (folded n first) (folded n other) (If (folded_expr test) (folded n first) (folded m other)) (stayed first) (stayed other)
      (loops-folded first n) (loops-folded other n)
      (both_loops n m (loops_of (folded n first)) (loops_of (folded m other)) (stayed first) (stayed other) (loops-folded first n) (loops-folded other m) (ap (λ k. n + k) (as_many first)))
  loops-folded (Loop id least most body) n = ap (λ l. (record { id = n; bounds = record { least = least; most = most } }) ∷ l) (loops-folded body (n + 1))
  loops-folded (Block body) n = loops-folded body n
  loops-folded (Leave d) n = refl
  loops-folded (Call f values arrays into) n = refl
  loops-folded (Return e) n = refl

  loops_all-folded : (parts : Statements) (n : ℕ) → loops_of_all (folded_all n parts) ≡ numbered n (stayed_all parts)
  loops_all-folded End n = refl
  loops_all-folded (Then first rest) n =
      let m = n + length (kept_loops first) in
      both_loops n m (loops_of (folded n first)) (loops_of_all (folded_all m rest)) (stayed first) (stayed_all rest) (loops-folded first n) (loops_all-folded rest m) (ap (λ k. n + k) (as_many first))

-- the same of all functions
pub marks_in-folded : (n : ℕ) (fs : List Function) → Holds (marks_in fs) (marks_in (folded_functions n fs))
marks_in-folded n [] = tt
marks_in-folded n (f ∷ fs) =
    let m = n + length (kept_loops f.body) in
    holds-append (marks_of f.body) (marks_of (folded n f.body)) (marks_in fs) (marks_in (folded_functions m fs)) (marks-folded f.body n) (marks_in-folded m fs)

pub loops_in_hold : (fs : List Function) → Holds (loops_in fs) (stayed_in fs)
loops_in_hold [] = tt
loops_in_hold (f ∷ fs) = holds-append (loops_of f.body) (stayed f.body) (loops_in fs) (stayed_in fs) (loops_hold f.body) (loops_in_hold fs)

pub loops_in-folded : (n : ℕ) (fs : List Function) → loops_in (folded_functions n fs) ≡ numbered n (stayed_in fs)
loops_in-folded n [] = refl
loops_in-folded n (f ∷ fs) =
    let m = n + length (kept_loops f.body) in
    both_loops n m (loops_of (folded n f.body)) (loops_in (folded_functions m fs)) (stayed f.body) (stayed_in fs) (loops-folded f.body n) (loops_in-folded m fs) (ap (λ k. n + k) (as_many f.body))
