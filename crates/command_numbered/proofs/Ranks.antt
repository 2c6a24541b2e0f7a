-- The calls of a numbered source, and their ranks: `main` calls each function, and no function calls another.
use Rattle.std.proofs.Common.{◌≡◌, ◌⊎◌, inl, inr, ℕ, zero, suc, ◌+◌, ◌*◌, ◌<◌, ◌≤◌, cond, List, [], ◌∷◌, ◌++◌, length, map, append_assoc, length-append, refl, sym, ap, subst, ◌∙◌, arith}
use Rattle.std.specs.Prelude.{nat_lt}
use Rattle.std.proofs.Math.ListN.{get_or}
use Rattle.std.proofs.lemmas.Bool.{lt-ltb}
use Rattle.std.proofs.lemmas.List.{append-nil, get_or_append_left, get_or_past, get_or_push, map-append}
use Rattle.std.proofs.lemmas.List.Elements.{filter-append}
use Rattle.types_tree.specs.Tree.{Items, NoItem, WithStatement}
use Rattle.types_calls.specs.Calls.{Graph, calls_below, function_calls, graph_of, items_calls}
use Rattle.types_calls.specs.Chains.{Among, AreRanks, IsChain, IsRank, callees}
use Rattle.command_numbered.proofs.Trees.{Places}
use Rattle.command_numbered.proofs.Numbers.{number}
use Rattle.command_numbered.proofs.Programs.{call, calls, function, give, main_function, put, typed_functions}
use Rattle.command_numbered.proofs.Typed.{program}

-- the numbers below n
abbrev pub first : ℕ → List ℕ
first zero = []
first (suc m) = first m ++ m ∷ []

-- so many functions that call none
abbrev pub none : ℕ → Graph
none zero = []
none (suc m) = none m ++ [] ∷ []

abbrev pub graph : ℕ → Graph
graph n = none n ++ first n ∷ []

abbrev pub zeros : ℕ → List ℕ
zeros zero = []
zeros (suc m) = zeros m ++ 0 ∷ []

abbrev pub ranks : ℕ → List ℕ
ranks n = zeros n ++ 1 ∷ []

none_long : (m : ℕ) → length (none m) ≡ m
none_long zero = refl
none_long (suc m) = let l = length-append (none m) ([] ∷ []) in let rest = none_long m in omega (arith, l, rest)

zeros_long : (m : ℕ) → length (zeros m) ≡ m
zeros_long zero = refl
zeros_long (suc m) = let l = length-append (zeros m) (0 ∷ []) in let rest = zeros_long m in omega (arith, l, rest)

pub functions_long : (q : ℕ → ℕ → ℕ) (m : ℕ) → length (typed_functions q m) ≡ m
functions_long q zero = refl
functions_long q (suc m) = let l = length-append (typed_functions q m) (function (3 * m) (3 * m + 1) (3 * m + 2) (m + 1) (number (suc m)) (suc m) (q (suc m)) ∷ []) in let rest = functions_long q m in omega (arith, l, rest)

functions_call : (count : ℕ) (q : ℕ → ℕ → ℕ) (m : ℕ) → map (λ f. calls_below count (function_calls f)) (typed_functions q m) ≡ none m
functions_call count q zero = refl
functions_call count q (suc m) = map-append (λ f. calls_below count (function_calls f)) (typed_functions q m) _ ∙ ap (λ g. g ++ [] ∷ []) (functions_call count q m)

calls_are : (s : ℕ) (q : ℕ → ℕ → ℕ) (m : ℕ) (rest : Items) → items_calls (calls s q m rest) ≡ first m ++ items_calls rest
calls_are s q zero rest = refl
calls_are s q (suc m) rest = calls_are s q m (WithStatement (call s m (q (suc m))) rest) ∙ sym (append_assoc (first m) (m ∷ []) (items_calls rest))

below : (count m : ℕ) → m ≤ count → calls_below count (first m) ≡ first m
below count zero le = refl
below count (suc m) le =
    filter-append (λ g. nat_lt g count) (first m) (m ∷ []) ∙ ap (λ t. calls_below count (first m) ++ cond t (m ∷ []) []) (lt-ltb m count (omega (arith, le))) ∙ ap (λ xs. xs ++ m ∷ []) (below count m (omega (arith, le)))

main_calls : (n : ℕ) (p : Places) (count : ℕ) → n ≤ count → calls_below count (function_calls (main_function (3 * n) (n + 3) p n)) ≡ first n
main_calls n p count le = ap (calls_below count) (calls_are (3 * n) p.call n (WithStatement (put (3 * n) p.tail) (WithStatement (give (3 * n) p.tail) NoItem)) ∙ append-nil (first n)) ∙ below count n le

pub graph_is : (n : ℕ) (p : Places) → graph_of (program n p) ≡ graph n
graph_is n p =
    let count = length (program n p).functions in
    let long = length-append (typed_functions p.function n) (main_function (3 * n) (n + 3) p n ∷ []) in
    let own = functions_long p.function n in
    map-append (λ f. calls_below count (function_calls f)) (typed_functions p.function n) (main_function (3 * n) (n + 3) p n ∷ [])
    ∙ ap (λ g. g ++ calls_below count (function_calls (main_function (3 * n) (n + 3) p n)) ∷ []) (functions_call count p.function n)
    ∙ ap (λ c. none n ++ c ∷ []) (main_calls n p count (omega (arith, long, own)))

pub split : (f m : ℕ) → f < suc m → (f ≡ m) ⊎ (f < m)
split f m lt = grind arith

-- what a function calls
none_called : (m f : ℕ) → f < m → get_or (none m) f [] ≡ []
none_called zero f lt = absurd (omega (arith, lt))
none_called (suc m) f lt = elim (split f m lt) [
  | inl e ↦ get_or_push (none m) [] [] f (none_long m ∙ sym e)
  | inr k ↦ get_or_append_left (none m) ([] ∷ []) [] f (let l = none_long m in omega (arith, k, l)) ∙ none_called m f k
]

zero_there : (m f : ℕ) → f < m → get_or (zeros m) f 0 ≡ 0
zero_there zero f lt = absurd (omega (arith, lt))
zero_there (suc m) f lt = elim (split f m lt) [
  | inl e ↦ get_or_push (zeros m) 0 0 f (zeros_long m ∙ sym e)
  | inr k ↦ get_or_append_left (zeros m) (0 ∷ []) 0 f (let l = zeros_long m in omega (arith, k, l)) ∙ zero_there m f k
]

among_append : (g : ℕ) (xs ys : List ℕ) → Among g (xs ++ ys) → Among g xs ⊎ Among g ys
among_append g [] ys h = inr h
among_append g (x ∷ xs) ys (inl h) = inl (inl h)
among_append g (x ∷ xs) ys (inr h) = elim (among_append g xs ys h) [ inl k ↦ inl (inr k) | inr k ↦ inr k ]

among_low : (g m : ℕ) → Among g (first m) → g < m
among_low g zero h = absurd h
among_low g (suc m) h = elim (among_append g (first m) (m ∷ []) h) [
  | inl k ↦ let lt = among_low g m k in omega (arith, lt)
  | inr k ↦ elim k [ inl e ↦ omega (arith, e) | inr never ↦ absurd never ]
]

among_front : (g : ℕ) (xs ys : List ℕ) → Among g xs → Among g (xs ++ ys)
among_front g [] ys h = absurd h
among_front g (x ∷ xs) ys (inl h) = inl h
among_front g (x ∷ xs) ys (inr h) = inr (among_front g xs ys h)

zero_among : (m : ℕ) → Among 0 (first (suc m))
zero_among zero = inl refl
zero_among (suc m) = among_front 0 (first (suc m)) (suc m ∷ []) (zero_among m)

module _ (m : ℕ) where
  abbrev n : ℕ
  n = suc m

  low_calls : (f : ℕ) → f < n → callees (graph n) f ≡ []
  low_calls f lt = get_or_append_left (none n) (first n ∷ []) [] f (let l = none_long n in omega (arith, lt, l)) ∙ none_called n f lt

  main_callees : callees (graph n) n ≡ first n
  main_callees = get_or_push (none n) (first n) [] n (none_long n)

  past_calls : (f : ℕ) → n < f → callees (graph n) f ≡ []
  past_calls f lt = get_or_past (graph n) f [] (let l = length-append (none n) (first n ∷ []) in let own = none_long n in omega (arith, lt, l, own))

  -- a call is one of `main`
  only_main : (f g : ℕ) → Among g (callees (graph n) f) → (f ≡ n) × (g < n)
  only_main f g h = elim (three f n) [
    | inl e ↦ (e, among_low g n (subst (Among g) (ap (callees (graph n)) e ∙ main_callees) h))
    | inr k ↦ elim k [ inl lt ↦ absurd (subst (Among g) (low_calls f lt) h) | inr lt ↦ absurd (subst (Among g) (past_calls f lt) h) ]
  ]
    where
      three : (a b : ℕ) → (a ≡ b) ⊎ ((a < b) ⊎ (b < a))
      three a b = grind arith

  low_rank : (f : ℕ) → f < n → get_or (ranks n) f 0 ≡ 0
  low_rank f lt = get_or_append_left (zeros n) (1 ∷ []) 0 f (let l = zeros_long n in omega (arith, lt, l)) ∙ zero_there n f lt

  pub main_rank : get_or (ranks n) n 0 ≡ 1
  main_rank = get_or_push (zeros n) 1 0 n (zeros_long n)

  chain_short : (f : ℕ) (gs : List ℕ) → IsChain (graph n) f gs → length gs ≤ 1
  chain_short f [] c = omega arith
  chain_short f (g ∷ []) c = omega arith
  chain_short f (g ∷ h ∷ gs) c = let one = only_main f g c.0 in let two = only_main g h c.1.0 in absurd (omega (arith, one.1, two.0))

  low_chain : (f : ℕ) (gs : List ℕ) → f < n → IsChain (graph n) f gs → length gs ≤ 0
  low_chain f [] lt c = omega arith
  low_chain f (g ∷ gs) lt c = let one = only_main f g c.0 in absurd (omega (arith, one.0, lt))

  pub are_ranks : AreRanks (graph n) (ranks n)
  are_ranks = record {
    size = (let a = length-append (zeros n) (1 ∷ []) in let b = length-append (none n) (first n ∷ []) in let c = zeros_long n in let d = none_long n in omega (arith, a, b, c, d));
    each = λ f lt. each f (let b = length-append (none n) (first n ∷ []) in let d = none_long n in omega (arith, lt, b, d));
    falls = λ f g h. (let one = only_main f g h in subst (λ r. get_or (ranks n) g 0 < r) (sym (ap (λ i. get_or (ranks n) i 0) one.0 ∙ main_rank)) (subst (λ r. r < 1) (sym (low_rank g one.1)) (omega arith)));
  }
    where
      each : (f : ℕ) → f < suc n → IsRank (graph n) f (get_or (ranks n) f 0)
      each f lt = elim (split f n lt) [
        | inl e ↦ subst (λ i. IsRank (graph n) i (get_or (ranks n) i 0)) (sym e) (subst (IsRank (graph n) n) (sym main_rank) (record { chain = 0 ∷ []; is_chain = (subst (Among 0) (sym main_callees) (zero_among m), tt); attained = refl; greatest = chain_short n }))
        | inr k ↦ subst (IsRank (graph n) f) (sym (low_rank f k)) (record { chain = []; is_chain = tt; attained = refl; greatest = λ gs c. low_chain f gs k c })
      ]
