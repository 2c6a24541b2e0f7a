-- The names of a numbered source in the order in which they first stand, and that its tree is well formed.
use Rattle.std.proofs.Common.{◌≡◌, ◌≢◌, inl, inr, ℕ, zero, suc, ◌^◌, ◌<◌, ◌≤◌, ◌||◌, Bool, true, false, nat_eq, List, [], ◌∷◌, ◌++◌, map, codes, Some, append_assoc, append-nil, refl, sym, ap, subst, ◌∙◌, arith}
use Rattle.std.specs.Prelude.{if◌then◌else◌}
use Rattle.std.specs.Fmt.{decimal}
use Rattle.std.specs.List.{list_any}
use Rattle.std.specs.Cmp.Lexicographic.{pointwise}
use Rattle.std.proofs.lemmas.Bool.{or_right}
use Rattle.std.proofs.lemmas.Fmt.{decimal_injective}
use Rattle.std.proofs.lemmas.List.{map-append}
use Rattle.std.proofs.lemmas.Slice.Eq.{bytes_eq-Decides}
use Rattle.c_tree.specs.Names.{names_among, names_of_unit, names_said, with_name, with_names}
use Rattle.c_tree.specs.Said.{Lexeme}
use Rattle.c_tree.specs.declared.token.TokenKind.TheVariants as kinds
use Rattle.c_tree.specs.declared.expression.BinaryOperator.TheVariants as binary
use Rattle.c_tree.specs.Tree.{Statement, Evaluate, Call, Binary, Number, Name, Return, NoExpr, AndExpr}
use Rattle.c_tree.specs.Spelling.{Mark, free, mark_said, spell_external, spell_externals, spell_items, spell_statement}
use Rattle.command_numbered.proofs.Names.{name, names, own_names}
use Rattle.command_numbered.proofs.Trees.{Places, call, calls, function, functions, int, main_of, start, unit}
use Rattle.command_numbered.proofs.Named.{split, words}

abbrev among : List ℕ → List (List ℕ) → Bool
among name names = list_any (pointwise nat_eq name) names

among_push : (x y : List ℕ) (xs : List (List ℕ)) → among x (xs ++ y ∷ []) ≡ (among x xs || pointwise nat_eq x y)
among_push x y [] = either (pointwise nat_eq x y)
  where
    either : (t : Bool) → (t || false) ≡ (false || t)
    either true = refl
    either false = refl
among_push x y (z ∷ xs) = ap (λ t. pointwise nat_eq x z || t) (among_push x y xs) ∙ assoc (pointwise nat_eq x z) (among x xs) (pointwise nat_eq x y)
  where
    assoc : (a b c : Bool) → (a || (b || c)) ≡ ((a || b) || c)
    assoc true b c = refl
    assoc false b c = refl

-- two functions have different names
names_differ : (i j : ℕ) → i < 2 ^ 32 → j < 2 ^ 32 → i ≢ j → pointwise nat_eq (name i) (name j) ≡ false
names_differ i j a b h = by_test (pointwise nat_eq (decimal i) (decimal j)) refl
  where
    by_test : (t : Bool) → pointwise nat_eq (decimal i) (decimal j) ≡ t → t ≡ false
    by_test true e = absurd (h (decimal_injective i j (omega (arith, a)) (omega (arith, b)) ((bytes_eq-Decides (decimal i) (decimal j)).0 e)))
    by_test false e = refl

-- a new function's name is none of those before it
new_name : (i m : ℕ) → suc m < i → i < 2 ^ 32 → among (name i) (own_names (suc m)) ≡ false
new_name i zero lt low = rw (names_differ i 1 low (omega arith) (λ e. omega (arith, lt, e))) refl
new_name i (suc m) lt low =
    among_push (name i) (name (suc (suc m))) (own_names (suc m))
    ∙ rw (new_name i m (omega (arith, lt)) low) (names_differ i (suc (suc m)) low (omega (arith, lt, low)) (λ e. omega (arith, lt, e)))

-- the three names of each function stand among the first four
kept_name : (b : List ℕ) (m : ℕ) → among b (own_names 1) ≡ true → among b (own_names (suc m)) ≡ true
kept_name b zero h = h
kept_name b (suc m) h = among_push b (name (suc (suc m))) (own_names (suc m)) ∙ rw (kept_name b m h) refl

with_old : (x : List ℕ) (xs : List (List ℕ)) → among x xs ≡ true → with_name xs x ≡ xs
with_old x xs h = ap (λ t. if t then xs else xs ++ x ∷ []) h

with_new : (x : List ℕ) (xs : List (List ℕ)) → among x xs ≡ false → with_name xs x ≡ xs ++ x ∷ []
with_new x xs h = ap (λ t. if t then xs else xs ++ x ∷ []) h

with_more : (acc xs ys : List (List ℕ)) → with_names acc (xs ++ ys) ≡ with_names (with_names acc xs) ys
with_more acc [] ys = refl
with_more acc (x ∷ xs) ys = with_more (with_name acc x) xs ys

among_append : (xs ys : List Lexeme) → names_among (xs ++ ys) ≡ names_among xs ++ names_among ys
among_append [] ys = refl
among_append (x ∷ xs) ys = ap (λ zs. names_said x ++ zs) (among_append xs ys) ∙ sym (append_assoc (names_said x) (names_among xs) (names_among ys))

-- what marks say of names
abbrev said : List Mark → List (List ℕ)
said marks = names_among (map mark_said marks)

said_append : (xs ys : List Mark) → said (xs ++ ys) ≡ said xs ++ said ys
said_append xs ys = ap names_among (map-append mark_said xs ys) ∙ among_append (map mark_said xs) (map mark_said ys)

-- the names that a function says, and a call
abbrev spoken_by : ℕ → List (List ℕ)
spoken_by i =
    name i ∷ codes "x" ∷ codes "k" ∷ codes "s" ∷ codes "x" ∷ codes "k" ∷ codes "k" ∷ codes "k" ∷ codes "s" ∷ codes "s" ∷ codes "s" ∷ []

function_says : (i : ℕ) (q : ℕ → ℕ) → said (spell_external (function words (name i) i q)) ≡ spoken_by i
function_says i q = refl

-- names that stand there already add nothing
abbrev AllAmong : List (List ℕ) → List (List ℕ) → Type 0
AllAmong [] acc = Unit {0}
AllAmong (y ∷ ys) acc = (among y acc ≡ true) × AllAmong ys acc

all_old : (acc ys : List (List ℕ)) → AllAmong ys acc → with_names acc ys ≡ acc
all_old acc [] h = refl
all_old acc (y ∷ ys) h = ap (λ a. with_names a ys) (with_old y acc h.0) ∙ all_old acc ys h.1

all_append : (xs ys acc : List (List ℕ)) → AllAmong xs acc → AllAmong ys acc → AllAmong (xs ++ ys) acc
all_append [] ys acc a b = b
all_append (x ∷ xs) ys acc a b = (a.0, all_append xs ys acc a.1 b)

-- with those of one function more
one_more : (m : ℕ) → suc (suc m) < 2 ^ 32 → with_names (own_names (suc m)) (spoken_by (suc (suc m))) ≡ own_names (suc (suc m))
one_more m low =
    let x = kept_name (codes "x") (suc m) refl in
    let k = kept_name (codes "k") (suc m) refl in
    let s = kept_name (codes "s") (suc m) refl in
    let rest = codes "x" ∷ codes "k" ∷ codes "s" ∷ codes "x" ∷ codes "k" ∷ codes "k" ∷ codes "k" ∷ codes "s" ∷ codes "s" ∷ codes "s" ∷ [] in
    ap (λ acc. with_names acc rest) (with_new (name (suc (suc m))) (own_names (suc m)) (new_name (suc (suc m)) m (omega arith) low))
    ∙ all_old (own_names (suc (suc m))) rest (x, (k, (s, (x, (k, (k, (k, (s, (s, (s, tt))))))))))

functions_say : (q : ℕ → ℕ → ℕ) (m : ℕ) → m < 2 ^ 32 → with_names [] (said (spell_externals (functions words name q m))) ≡ own_names m
functions_say q zero low = refl
functions_say q (suc zero) low = refl
functions_say q (suc (suc m)) low =
    ap (with_names []) (said_append (spell_externals (functions words name q (suc m))) (spell_external (function words (name (suc (suc m))) (suc (suc m)) (q (suc (suc m))))))
    ∙ with_more [] (said (spell_externals (functions words name q (suc m)))) (spoken_by (suc (suc m)))
    ∙ ap (λ acc. with_names acc (spoken_by (suc (suc m)))) (functions_say q (suc m) (omega (arith, low)))
    ∙ one_more m low

abbrev main_before : List (List ℕ) → List (List ℕ)
main_before zs = codes "main" ∷ zs

-- what stands behind the calls
abbrev put : (q : ℕ → ℕ) → Statement (List ℕ)
put q = Evaluate (Call (codes "putchar") (AndExpr NoExpr (Binary binary.Add (Number (int 65) (q 2)) (Binary binary.Remainder (Name (codes "s") (q 4)) (Number (int 26) (q 6)) (q 4)) (q 2))) (q 0)) (q 0)

abbrev give : (q : ℕ → ℕ) → Statement (List ℕ)
give q = Return (Some (Binary binary.Remainder (Name (codes "s") (q 10)) (Number (int 256) (q 12)) (q 10))) (q 9)

-- the names that the calls say
abbrev called : ℕ → List (List ℕ)
called zero = codes "s" ∷ []
called (suc m) = called m ++ codes "s" ∷ name (suc m) ∷ codes "s" ∷ []

calls_say : (h : ℕ → ℕ) (q : ℕ → ℕ → ℕ) (m : ℕ) → said (spell_items (calls words name q (start words h) m)) ≡ called m
calls_say h q zero = refl
calls_say h q (suc m) =
    said_append (spell_items (calls words name q (start words h) m)) (spell_statement (call words (name (suc m)) (q (suc m)))) ∙ ap (λ xs. xs ++ codes "s" ∷ name (suc m) ∷ codes "s" ∷ []) (calls_say h q m)

-- a function's name stands among them
own_there : (j m : ℕ) → j < suc m → among (name (suc j)) (own_names (suc m)) ≡ true
own_there zero zero lt = ap (λ t. t || among (name 1) (codes "x" ∷ codes "k" ∷ codes "s" ∷ [])) ((bytes_eq-Decides (name 1) (name 1)).1 refl)
own_there (suc j) zero lt = absurd (omega (arith, lt))
own_there j (suc m) lt = elim (split j (suc m) lt) [
  | inl e ↦ subst (λ i. among (name (suc i)) (own_names (suc (suc m))) ≡ true) (sym e) (among_push (name (suc (suc m))) (name (suc (suc m))) (own_names (suc m)) ∙ or_right (among (name (suc (suc m))) (own_names (suc m))) _ ((bytes_eq-Decides (name (suc (suc m))) (name (suc (suc m)))).1 refl))
  | inr k ↦ among_push (name (suc j)) (name (suc (suc m))) (own_names (suc m)) ∙ rw (own_there j m k) refl
]

-- other letters stand not
main_new : (m : ℕ) → among (codes "main") (own_names (suc m)) ≡ false
main_new zero = refl
main_new (suc m) = among_push (codes "main") (name (suc (suc m))) (own_names (suc m)) ∙ rw (main_new m) refl

putchar_new : (m : ℕ) → among (codes "putchar") (own_names (suc m)) ≡ false
putchar_new zero = refl
putchar_new (suc m) = among_push (codes "putchar") (name (suc (suc m))) (own_names (suc m)) ∙ rw (putchar_new m) refl

module _ (m : ℕ) where
  abbrev n : ℕ
  n = suc m

  abbrev with_main : List (List ℕ)
  with_main = own_names n ++ codes "main" ∷ []

  s_there : among (codes "s") with_main ≡ true
  s_there = among_push (codes "s") (codes "main") (own_names n) ∙ rw (kept_name (codes "s") m refl) refl

  all_called : (i : ℕ) → i ≤ n → AllAmong (called i) with_main
  all_called zero le = (s_there, tt)
  all_called (suc i) le =
      all_append (called i) (codes "s" ∷ name (suc i) ∷ codes "s" ∷ []) with_main (all_called i (omega (arith, le)))
      (s_there, (among_push (name (suc i)) (codes "main") (own_names n) ∙ rw (own_there i m le) refl, (s_there, tt)))

  main_says : (p : Places) → said (spell_external (main_of words name p n)) ≡ codes "main" ∷ (called n ++ codes "putchar" ∷ codes "s" ∷ codes "s" ∷ [])
  main_says p =
      let xs = spell_items (calls words name p.call (start words p.head) n) in
      let a = spell_statement (put p.tail) in
      let b = spell_statement (give p.tail) in
      let c = free kinds.RightBrace ∷ [] in
      ap (λ zs. main_before zs)
      (said_append ((xs ++ a) ++ b) c
      ∙ append-nil (said ((xs ++ a) ++ b))
      ∙ said_append (xs ++ a) b
      ∙ ap (λ z. z ++ said b) (said_append xs a ∙ ap (λ z. z ++ said a) (calls_say p.head p.call n))
      ∙ append_assoc (called n) (said a) (said b))

  pub in_order : (p : Places) → n < 2 ^ 32 → names n ≡ names_of_unit (unit words name p n)
  in_order p low = sym (
      ap (with_names []) (said_append (spell_externals (functions words name p.function n)) (spell_external (main_of words name p n)))
      ∙ with_more [] (said (spell_externals (functions words name p.function n))) (said (spell_external (main_of words name p n)))
      ∙ ap (λ acc. with_names acc (said (spell_external (main_of words name p n)))) (functions_say p.function n low)
      ∙ ap (with_names (own_names n)) (main_says p)
      ∙ ap (λ acc. with_names acc (called n ++ codes "putchar" ∷ codes "s" ∷ codes "s" ∷ [])) (with_new (codes "main") (own_names n) (main_new m))
      ∙ with_more with_main (called n) (codes "putchar" ∷ codes "s" ∷ codes "s" ∷ [])
      ∙ ap (λ acc. with_names acc (codes "putchar" ∷ codes "s" ∷ codes "s" ∷ [])) (all_old with_main (called n) (all_called n (omega arith)))
      ∙ ap (λ acc. with_names acc (codes "s" ∷ codes "s" ∷ [])) (with_new (codes "putchar") with_main (among_push (codes "putchar") (codes "main") (own_names n) ∙ rw (putchar_new m) refl))
      ∙ all_old (with_main ++ codes "putchar" ∷ []) (codes "s" ∷ codes "s" ∷ []) (s_last, (s_last, tt))
      ∙ append_assoc (own_names n) (codes "main" ∷ []) (codes "putchar" ∷ []))
    where
      s_last : among (codes "s") (with_main ++ codes "putchar" ∷ []) ≡ true
      s_last = among_push (codes "s") (codes "putchar") with_main ∙ rw s_there refl
