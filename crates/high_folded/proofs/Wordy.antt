-- The constants of a folded program are words, where those of the program are.
use Rattle.std.proofs.Common.{◌≡◌, ℕ, ◌+◌, ◌<◌, ◌^◌, List, [], ◌∷◌, length, map, subst, All}
use Rattle.std.proofs.lemmas.List.Elements.{All-cons, All-head, All-nil, All-tail}
use Rattle.high_ir.specs.declared.object.Kind.{Kind}
use Rattle.high_ir.specs.declared.object.Kind.TheVariants.{Unsigned8}
use Rattle.high_ir.specs.Tree.{Expr, Constant, Variable, Element, Unary, Binary, Statement, Set, Put, Get, Keep, Mark, Seq, If, Loop, Block, Leave, Call, Return, Statements, End, Then, Function, Program}
use Rattle.high_ir.specs.Whole.{AllHaveWords, AreWordy, HasWords, IsWhole, IsWordy}
use Rattle.high_ir.proofs.Words.{binary_below, unary_below}
use Rattle.high_folded.specs.Folded.{constant_of, folded, folded_all, folded_expr, folded_function, folded_functions, folded_program, kept_loops, stored_expr}
use Rattle.high_folded.proofs.Cases.{binary_cases, decided_cases, stored_cases, unary_cases}

-- the word of a constant
word_of : (e : Expr) (word : ℕ) → e ≡ Constant word → IsWordy e → word < 2 ^ 32
word_of e word is h = subst IsWordy is h

wordy-folded : (e : Expr) → IsWordy e → IsWordy (folded_expr e)
wordy-folded (Constant word) h = h
wordy-folded (Variable x) h = tt
wordy-folded (Element array index) h = wordy-folded index h
wordy-folded (Unary operator e) h =
    let k = wordy-folded e h in
    unary_cases IsWordy operator (folded_expr e) (λ word is. unary_below operator word (word_of (folded_expr e) word is k)) (λ idle. k) (λ none plain. k)
wordy-folded (Binary operator left right) h =
    let k = wordy-folded left h.0 in
    let l = wordy-folded right h.1 in
    binary_cases IsWordy operator (folded_expr left) (folded_expr right)
    (λ u v is is'. binary_below operator u v (word_of (folded_expr left) u is k) (word_of (folded_expr right) v is' l)) (λ v is t. k) (λ u is t. l) (λ plain. (k, l))

wordy-stored : (kind : Kind) (e : Expr) → IsWordy e → IsWordy (stored_expr kind e)
wordy-stored kind e = stored_cases (λ old new. IsWordy old → IsWordy new) kind wordy-folded (λ operator e new h. h) e

are_wordy-folded : (es : List Expr) → AreWordy es → AreWordy (map folded_expr es)
are_wordy-folded [] h = tt
are_wordy-folded (e ∷ es) h = (wordy-folded e h.0, are_wordy-folded es h.1)

mutual
  words-folded : (s : Statement) (n : ℕ) → HasWords s → HasWords (folded n s)
  words-folded (Set x e) n h = wordy-folded e h
  words-folded (Put e) n h = wordy-stored Unsigned8 e h
  words-folded (Get x) n h = tt
  words-folded (Keep array i e) n h = (wordy-folded i h.0, wordy-stored array.kind e h.1)
  words-folded (Mark m) n h = tt
  words-folded (Seq parts) n h = all_words-folded parts n h
  words-folded (If test first other) n h =
      let m = n + length (kept_loops first) in
      decided_cases HasWords (constant_of (folded_expr test)) (folded n first) (folded n other) (If (folded_expr test) (folded n first) (folded m other))
      (words-folded first n h.1.0) (words-folded other n h.1.1) (λ none. (wordy-folded test h.0, (words-folded first n h.1.0, words-folded other m h.1.1)))
  words-folded (Loop id least most body) n h = words-folded body (n + 1) h
  words-folded (Block body) n h = words-folded body n h
  words-folded (Leave d) n h = tt
  words-folded (Call f values arrays into) n h = are_wordy-folded values h
  words-folded (Return e) n h = wordy-folded e h

  all_words-folded : (parts : Statements) (n : ℕ) → AllHaveWords parts → AllHaveWords (folded_all n parts)
  all_words-folded End n h = tt
  all_words-folded (Then first rest) n h = (words-folded first n h.0, all_words-folded rest (n + length (kept_loops first)) h.1)

functions_words : (fs : List Function) (n : ℕ) → All (λ (f : Function). HasWords f.body) fs → All (λ (f : Function). HasWords f.body) (folded_functions n fs)
functions_words [] n h = All-nil (λ (f : Function). HasWords f.body)
functions_words (f ∷ fs) n h =
    let m = n + length (kept_loops f.body) in
    All-cons (λ (f : Function). HasWords f.body) (folded_function n f) (folded_functions m fs)
    (words-folded f.body n (All-head (λ (f : Function). HasWords f.body) f fs h)) (functions_words fs m (All-tail (λ (f : Function). HasWords f.body) f fs h))

pub folded_whole : (p : Program) → IsWhole p → IsWhole (folded_program p)
folded_whole p h = record { words = functions_words p.functions 0 h.words; objects = h.objects }
