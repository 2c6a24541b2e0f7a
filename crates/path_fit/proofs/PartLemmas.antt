-- What passes a test in a list, where two searches enclose it, and where an index names it.
use Rattle.std.proofs.Common.{◌≡◌, ℕ, ◌+◌, ◌-◌, ◌<◌, ◌≤◌, ltb, leb, arith, refl, sym, ap, ◌∙◌, subst, List, [], ◌∷◌, ◌++◌, take, drop, length, get_or, All, Bool, true, false}
use Rattle.std.specs.Prelude.{◌&&◌, ◌==◌, nat_le, nat_lt, filter, if◌then◌else◌}
use Rattle.std.specs.List.Sorted.{IsPartitionPoint}
use Rattle.std.proofs.lemmas.Bool.Decides.{nat_tests}
use Rattle.std.proofs.lemmas.List.{append-nil, take-append-drop, length-take-le, length-drop, get_or-take, get_or-drop}
use Rattle.std.proofs.lemmas.List.Elements.{All-head, All-tail, All-cons, All-nil, filter-append}
use Rattle.code_flow_lookup.specs.Runs.{those_at}
use Rattle.code_flow_lookup.proofs.RunLemmas.{rest_is, same_test}
use Rattle.code_flow_system.specs.declared.moves.Move.{Move}
use Rattle.code_flow_system.specs.declared.shapes.Span.{Span}
use Rattle.code_flow_system.specs.declared.index.Arrival.{Arrival}
use Rattle.path_fit.specs.Loops.{arrives_in}
use Rattle.path_fit.specs.Spans.{lies_within}

module _ {X : Type 0} (test : X → Bool) where
  filter-none : (xs : List X) → All (λ x. test x ≡ false) xs → filter test xs ≡ []
  filter-none [] h = refl
  filter-none (x ∷ xs) h =
      ap (λ (b : Bool). if b then x ∷ filter test xs else filter test xs) (All-head (λ x. test x ≡ false) x xs h)
      ∙ filter-none xs (All-tail (λ x. test x ≡ false) x xs h)

  filter-all : (xs : List X) → All (λ x. test x ≡ true) xs → filter test xs ≡ xs
  filter-all [] h = refl
  filter-all (x ∷ xs) h =
      ap (λ (b : Bool). if b then x ∷ filter test xs else filter test xs) (All-head (λ x. test x ≡ true) x xs h)
      ∙ ap (λ zs. x ∷ zs) (filter-all xs (All-tail (λ x. test x ≡ true) x xs h))

  -- what passes lies behind the first i elements, and has n
  enclosed : (xs : List X) (i n : ℕ) → i ≤ length xs → n ≤ length (drop i xs)
      → ((k : ℕ) (d : X) → k < i → test (get_or xs k d) ≡ false)
      → ((k : ℕ) (d : X) → k < n → test (get_or (drop i xs) k d) ≡ true)
      → ((k : ℕ) (d : X) → n ≤ k → k < length (drop i xs) → test (get_or (drop i xs) k d) ≡ false)
      → take n (drop i xs) ≡ filter test xs
  enclosed xs i n le most p q r =
      let front : All (λ x. test x ≡ false) (take i xs) = λ k d less.
      let e = length-take-le i xs le in
      ap test (get_or-take i xs k d (omega arith)) ∙ p k d (omega arith) in
      let middle : All (λ x. test x ≡ true) (take n (drop i xs)) = λ k d less.
      let e = length-take-le n (drop i xs) most in
      ap test (get_or-take n (drop i xs) k d (omega arith)) ∙ q k d (omega arith) in
      let back : All (λ x. test x ≡ false) (drop n (drop i xs)) = λ k d less.
      let e = length-drop n (drop i xs) in
      ap test (get_or-drop n (drop i xs) k d) ∙ r (n + k) d (omega arith) (omega arith) in
      sym (
      ap (filter test) (sym (take-append-drop i xs))
      ∙ filter-append test (take i xs) (drop i xs)
      ∙ ap (λ zs. zs ++ filter test (drop i xs)) (filter-none (take i xs) front)
      ∙ ap (filter test) (sym (take-append-drop n (drop i xs)))
      ∙ filter-append test (take n (drop i xs)) (drop n (drop i xs))
      ∙ ap (λ zs. filter test (take n (drop i xs)) ++ zs) (filter-none (drop n (drop i xs)) back)
      ∙ append-nil _
      ∙ filter-all (take n (drop i xs)) middle
      )

  module _ (P : X → Type 0) where
    pub filter_from : (xs : List X) → All (λ x. test x ≡ true → P x) xs → All P (filter test xs)
    filter_from [] h = All-nil P
    filter_from (x ∷ xs) h =
        by_test (test x) (All-head (λ x. test x ≡ true → P x) x xs h) (filter_from xs (All-tail (λ x. test x ≡ true → P x) x xs h))
      where
        by_test : (b : Bool) → (b ≡ true → P x) → All P (filter test xs) → All P (if b then x ∷ filter test xs else filter test xs)
        by_test true p r = All-cons P x (filter test xs) (p refl) r
        by_test false p r = r

    pub from_filter : (xs : List X) → All P (filter test xs) → All (λ x. test x ≡ true → P x) xs
    from_filter [] h = All-nil _
    from_filter (x ∷ xs) h = by_test (from_filter xs) (test x) refl h
      where
        by_test : (All P (filter test xs) → All (λ x. test x ≡ true → P x) xs) → (b : Bool) → test x ≡ b → All P (if b then x ∷ filter test xs else filter test xs) → All (λ x. test x ≡ true → P x) (x ∷ xs)
        by_test rest true e h = All-cons (λ x. test x ≡ true → P x) x xs (λ t. All-head P x (filter test xs) h) (rest (All-tail P x (filter test xs) h))
        by_test rest false e h = All-cons (λ x. test x ≡ true → P x) x xs (λ t. let f : false ≡ true = sym e ∙ t in cc) (rest h)

module _ {X : Type 0} (key : X → ℕ) (a : ℕ) (P : X → Type 0) where
  pub those_from : (xs : List X) → All (λ x. key x ≡ a → P x) xs → All P (those_at key a xs)
  those_from [] h = All-nil P
  those_from (x ∷ xs) h =
      by_test (key x == a) refl (All-head (λ x. key x ≡ a → P x) x xs h) (those_from xs (All-tail (λ x. key x ≡ a → P x) x xs h))
    where
      same : (m n : ℕ) → (m == n) ≡ true → m ≡ n
      same m n e = grind (arith, nat_tests)

      by_test : (b : Bool) → (key x == a) ≡ b → (key x ≡ a → P x) → All P (those_at key a xs) → All P (if b then x ∷ those_at key a xs else those_at key a xs)
      by_test true e p r = All-cons P x (those_at key a xs) (p (same (key x) a e)) r
      by_test false e p r = r

  pub from_those : (xs : List X) → All P (those_at key a xs) → All (λ x. key x ≡ a → P x) xs
  from_those [] h = All-nil _
  from_those (x ∷ xs) h = by_test (from_those xs) (key x == a) refl h
    where
      by_test : (All P (those_at key a xs) → All (λ x. key x ≡ a → P x) xs) → (b : Bool) → (key x == a) ≡ b → All P (if b then x ∷ those_at key a xs else those_at key a xs) → All (λ x. key x ≡ a → P x) (x ∷ xs)
      by_test rest true e h = All-cons (λ x. key x ≡ a → P x) x xs (λ t. All-head P x (those_at key a xs) h) (rest (All-tail P x (those_at key a xs) h))
      by_test rest false e h = All-cons (λ x. key x ≡ a → P x) x xs (λ t. let f : false ≡ true = sym e ∙ same_test (key x) a t in cc) (rest h)

-- a range by its two ends

not_begun : (first last a : ℕ) → ltb a first ≡ true → (nat_le first a && nat_le a last) ≡ false
not_begun first last a h = grind (arith, nat_tests)

inside : (first last a : ℕ) → ltb a first ≡ false → leb a last ≡ true → (nat_le first a && nat_le a last) ≡ true
inside first last a h g = grind (arith, nat_tests)

ended : (first last a : ℕ) → leb a last ≡ false → (nat_le first a && nat_le a last) ≡ false
ended first last a h = grind (arith, nat_tests)

not_begun_below : (first end a : ℕ) → ltb a first ≡ true → (nat_le first a && nat_lt a end) ≡ false
not_begun_below first end a h = grind (arith, nat_tests)

inside_below : (first end a : ℕ) → ltb a first ≡ false → ltb a end ≡ true → (nat_le first a && nat_lt a end) ≡ true
inside_below first end a h g = grind (arith, nat_tests)

ended_below : (first end a : ℕ) → ltb a end ≡ false → (nat_le first a && nat_lt a end) ≡ false
ended_below first end a h = grind (arith, nat_tests)

-- behind the first i elements nothing is below
not_below : {X : Type 0} (key : X → ℕ) (first : ℕ) (xs : List X) (i : ℕ) → i ≤ length xs
    → IsPartitionPoint (λ x. ltb (key x) first ≡ true) (λ x. ltb (key x) first ≡ false) xs i
    → (k : ℕ) (d : X) → k < length (drop i xs) → ltb (key (get_or (drop i xs) k d)) first ≡ false
not_below key first xs i le p k d lt =
    let l = length-drop i xs in
    ap (λ x. ltb (key x) first) (get_or-drop i xs k d) ∙ p.1 (i + k) d (omega arith) (omega arith)

pub arrivals_found : (first last : ℕ) (xs : List Arrival) (i n : ℕ) → i ≤ length xs → n ≤ length (take (length xs - i) (drop i xs))
    → IsPartitionPoint (λ r. ltb r.to first ≡ true) (λ r. ltb r.to first ≡ false) xs i
    → IsPartitionPoint (λ r. leb r.to last ≡ true) (λ r. leb r.to last ≡ false) (take (length xs - i) (drop i xs)) n
    → take n (take (length xs - i) (drop i xs)) ≡ filter (arrives_in first last) xs
arrivals_found first last xs i n le most p q =
    let e = rest_is i xs in
    let most' : n ≤ length (drop i xs) = subst (λ ys. n ≤ length ys) e most in
    let q' : IsPartitionPoint (λ r. leb r.to last ≡ true) (λ r. leb r.to last ≡ false) (drop i xs) n = subst (λ ys. IsPartitionPoint (λ r. leb r.to last ≡ true) (λ r. leb r.to last ≡ false) ys n) e q in
    ap (take n) e ∙ enclosed (arrives_in first last) xs i n le most'
    (λ k d lt. not_begun first last (get_or xs k d).to (p.0 k d (omega arith) lt))
    (λ k d lt. inside first last (get_or (drop i xs) k d).to (not_below (λ r. r.to) first xs i le p k d (omega arith)) (q'.0 k d (omega arith) lt))
    (λ k d behind lt. ended first last (get_or (drop i xs) k d).to (q'.1 k d behind lt))

pub moves_found : (p : Span) (xs : List Move) (i n : ℕ) → i ≤ length xs → n ≤ length (take (length xs - i) (drop i xs))
    → IsPartitionPoint (λ m. ltb m.at p.first ≡ true) (λ m. ltb m.at p.first ≡ false) xs i
    → IsPartitionPoint (λ m. ltb m.at p.end ≡ true) (λ m. ltb m.at p.end ≡ false) (take (length xs - i) (drop i xs)) n
    → take n (take (length xs - i) (drop i xs)) ≡ filter (λ m. lies_within p m.at) xs
moves_found s xs i n le most p q =
    let e = rest_is i xs in
    let most' : n ≤ length (drop i xs) = subst (λ ys. n ≤ length ys) e most in
    let q' : IsPartitionPoint (λ m. ltb m.at s.end ≡ true) (λ m. ltb m.at s.end ≡ false) (drop i xs) n = subst (λ ys. IsPartitionPoint (λ m. ltb m.at s.end ≡ true) (λ m. ltb m.at s.end ≡ false) ys n) e q in
    ap (take n) e ∙ enclosed (λ m. lies_within s m.at) xs i n le most'
    (λ k d lt. not_begun_below s.first s.end (get_or xs k d).at (p.0 k d (omega arith) lt))
    (λ k d lt. inside_below s.first s.end (get_or (drop i xs) k d).at (not_below (λ m. m.at) s.first xs i le p k d (omega arith)) (q'.0 k d (omega arith) lt))
    (λ k d behind lt. ended_below s.first s.end (get_or (drop i xs) k d).at (q'.1 k d behind lt))
