-- The moves from one address up to another are what two searches enclose.
use Rattle.std.proofs.Common.{◌≡◌, ℕ, ◌+◌, ◌-◌, ◌<◌, ◌≤◌, ltb, arith, refl, sym, ap, ◌∙◌, subst, List, [], ◌∷◌, ◌++◌, take, drop, length, get_or, All, Bool, true, false}
use Rattle.std.specs.Prelude.{◌&&◌, nat_le, nat_lt, if◌then◌else◌}
use Rattle.std.specs.List.Sorted.{IsPartitionPoint}
use Rattle.std.proofs.lemmas.Bool.Decides.{nat_tests}
use Rattle.std.proofs.lemmas.List.{append-nil, take-append-drop, length-take-le, length-drop, get_or-take, get_or-drop}
use Rattle.std.proofs.lemmas.List.Elements.{All-head, All-tail}
use Rattle.code_flow_lookup.proofs.RunLemmas.{rest_is}
use Rattle.code_flow_system.specs.declared.moves.Move.{Move}
use Rattle.report_shares.specs.Shares.{moves_between}

not_below : (a b : ℕ) → ltb a b ≡ false → b ≤ a
not_below a b h = grind (arith, nat_tests)

below : (a b : ℕ) → ltb a b ≡ true → a < b
below a b h = grind (arith, nat_tests)

abbrev is_between : ℕ → ℕ → Move → Bool
is_between first end m = nat_le first m.at && nat_lt m.at end

is_before : (first end a : ℕ) → a < first → (nat_le first a && nat_lt a end) ≡ false
is_before first end a h = grind (arith, nat_tests)

is_behind : (first end a : ℕ) → end ≤ a → (nat_le first a && nat_lt a end) ≡ false
is_behind first end a h = grind (arith, nat_tests)

is_inside : (first end a : ℕ) → first ≤ a → a < end → (nat_le first a && nat_lt a end) ≡ true
is_inside first end a h g = grind (arith, nat_tests)

between-append : (first end : ℕ) (xs ys : List Move) → moves_between first end (xs ++ ys) ≡ moves_between first end xs ++ moves_between first end ys
between-append first end [] ys = refl
between-append first end (x ∷ xs) ys = by_test (is_between first end x) (between-append first end xs ys)
  where
    by_test : (b : Bool) → moves_between first end (xs ++ ys) ≡ moves_between first end xs ++ moves_between first end ys →
        (if b then x ∷ moves_between first end (xs ++ ys) else moves_between first end (xs ++ ys)) ≡ (if b then x ∷ moves_between first end xs else moves_between first end xs) ++ moves_between first end ys
    by_test true e = ap (λ zs. x ∷ zs) e
    by_test false e = e

between-none : (first end : ℕ) (xs : List Move) → All (λ m. is_between first end m ≡ false) xs → moves_between first end xs ≡ []
between-none first end [] h = refl
between-none first end (x ∷ xs) h =
    ap (λ (b : Bool). if b then x ∷ moves_between first end xs else moves_between first end xs) (All-head (λ m. is_between first end m ≡ false) x xs h)
    ∙ between-none first end xs (All-tail (λ m. is_between first end m ≡ false) x xs h)

between-all : (first end : ℕ) (xs : List Move) → All (λ m. is_between first end m ≡ true) xs → moves_between first end xs ≡ xs
between-all first end [] h = refl
between-all first end (x ∷ xs) h =
    ap (λ (b : Bool). if b then x ∷ moves_between first end xs else moves_between first end xs) (All-head (λ m. is_between first end m ≡ true) x xs h)
    ∙ ap (λ zs. x ∷ zs) (between-all first end xs (All-tail (λ m. is_between first end m ≡ true) x xs h))

enclosed : (first end : ℕ) (xs : List Move) (i n : ℕ) → i ≤ length xs → n ≤ length (drop i xs)
    → IsPartitionPoint (λ m. ltb m.at first ≡ true) (λ m. ltb m.at first ≡ false) xs i
    → IsPartitionPoint (λ m. ltb m.at end ≡ true) (λ m. ltb m.at end ≡ false) (drop i xs) n
    → take n (drop i xs) ≡ moves_between first end xs
enclosed first end xs i n le most p q =
    let front : All (λ m. is_between first end m ≡ false) (take i xs) = λ k d less.
    let e = length-take-le i xs le in
    let f = ap (λ m. m.at) (get_or-take i xs k d (omega arith)) in
    let g = below _ _ (p.0 k d (omega arith) (omega arith)) in is_before first end (get_or (take i xs) k d).at (omega arith) in
    let middle : All (λ m. is_between first end m ≡ true) (take n (drop i xs)) = λ k d less.
    let e = length-take-le n (drop i xs) most in
    let l = length-drop i xs in
    let f = ap (λ m. m.at) (get_or-take n (drop i xs) k d (omega arith)) in
    let h = ap (λ m. m.at) (get_or-drop i xs k d) in
    let g = below _ _ (q.0 k d (omega arith) (omega arith)) in
    let u = not_below _ _ (p.1 (i + k) d (omega arith) (omega arith)) in is_inside first end (get_or (take n (drop i xs)) k d).at (omega arith) (omega arith) in
    let back : All (λ m. is_between first end m ≡ false) (drop n (drop i xs)) = λ k d less.
    let e = length-drop n (drop i xs) in
    let f = ap (λ m. m.at) (get_or-drop n (drop i xs) k d) in
    let g = not_below _ _ (q.1 (n + k) d (omega arith) (omega arith)) in is_behind first end (get_or (drop n (drop i xs)) k d).at (omega arith) in
    let cut = take-append-drop i xs in
    let again = take-append-drop n (drop i xs) in
    sym (
    ap (moves_between first end) (sym cut)
    ∙ between-append first end (take i xs) (drop i xs)
    ∙ ap (λ zs. zs ++ moves_between first end (drop i xs)) (between-none first end (take i xs) front)
    ∙ ap (moves_between first end) (sym again)
    ∙ between-append first end (take n (drop i xs)) (drop n (drop i xs))
    ∙ ap (λ zs. moves_between first end (take n (drop i xs)) ++ zs) (between-none first end (drop n (drop i xs)) back)
    ∙ append-nil _
    ∙ between-all first end (take n (drop i xs)) middle
    )

pub found_between : (first end : ℕ) (xs : List Move) (i n : ℕ) → i ≤ length xs → n ≤ length (take (length xs - i) (drop i xs))
    → IsPartitionPoint (λ m. ltb m.at first ≡ true) (λ m. ltb m.at first ≡ false) xs i
    → IsPartitionPoint (λ m. ltb m.at end ≡ true) (λ m. ltb m.at end ≡ false) (take (length xs - i) (drop i xs)) n
    → take n (take (length xs - i) (drop i xs)) ≡ moves_between first end xs
found_between first end xs i n le most p q =
    let e = rest_is i xs in
    ap (take n) e ∙ enclosed first end xs i n le (subst (λ ys. n ≤ length ys) e most) p (subst (λ ys. IsPartitionPoint (λ m. ltb m.at end ≡ true) (λ m. ltb m.at end ≡ false) ys n) e q)
