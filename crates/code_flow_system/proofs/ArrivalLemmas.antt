-- The arrivals of the index at an address add up to what arrives there.
use Rattle.std.proofs.Common.{◌≡◌, ℕ, ◌+◌, ℤ, arith, refl, sym, ap, ◌∙◌, List, [], ◌∷◌, ◌++◌, length, append_assoc, length-append}
use Rattle.std.proofs.lemmas.Int.{ints}
use Rattle.frac128.specs.Terms.{coefficient, when_same}
use Rattle.frac128.proofs.TermsLemmas.{int_sum_by-append, coefficient-append}
use Rattle.code_flow_system.specs.declared.index.Arrival.{Arrival}
use Rattle.code_flow_system.specs.declared.moves.Move.{Move}
use Rattle.code_flow_system.specs.Moves.{destinations}
use Rattle.code_flow_system.specs.Counts.{Amounts, amount, each_with, arrivals}
use Rattle.code_flow_system.specs.Indexes.{arrivals_by, arrivals_from, AreArrivals}
use Rattle.code_flow_system.specs.Lookups.{amount_at, arriving}
use Rattle.code_flow_system.proofs.PermutedSums.{int_sum_by-permutation}

amount_at-behind : (x : Amounts) (pre : List Move) (m : Move) (ms : List Move) → amount_at x (pre ++ m ∷ ms) (length pre) ≡ amount x m
amount_at-behind x [] m ms = refl
amount_at-behind x (p ∷ pre) m ms = amount_at-behind x pre m ms

of_move : (x : Amounts) (ms : List Move) (place a : ℕ) (n : ℤ) (ds : List ℕ) → amount_at x ms place ≡ n → arriving x ms (arrivals_by place ds) a ≡ coefficient (each_with n ds) a
of_move x ms place a n [] e = refl
of_move x ms place a n (d ∷ ds) e =
    let r = of_move x ms place a n ds e in
    let h = ap (λ z. when_same d a z) e in omega (arith, ints)

of_moves : (x : Amounts) (pre ms : List Move) (place a : ℕ) → place ≡ length pre → arriving x (pre ++ ms) (arrivals_from place ms) a ≡ coefficient (arrivals x ms) a
of_moves x pre [] place a e = refl
of_moves x pre (m ∷ ms) place a e =
    let whole = pre ++ m ∷ ms in
    let here : amount_at x (pre ++ m ∷ ms) place ≡ amount x m = ap (amount_at x (pre ++ m ∷ ms)) e ∙ amount_at-behind x pre m ms in
    let first = of_move x (pre ++ m ∷ ms) place a (amount x m) (destinations m) here in
    let long : place + 1 ≡ length (pre ++ m ∷ []) = let l = length-append pre (m ∷ []) in omega arith in
    let cut : pre ++ m ∷ ms ≡ (pre ++ m ∷ []) ++ ms = sym (append_assoc pre (m ∷ []) ms) in
    let rest : arriving x (pre ++ m ∷ ms) (arrivals_from (place + 1) ms) a ≡ coefficient (arrivals x ms) a =
    ap (λ l. arriving x l (arrivals_from (place + 1) ms) a) cut ∙ of_moves x (pre ++ m ∷ []) ms (place + 1) a long in
    let split = int_sum_by-append (λ (r : Arrival). when_same r.to a (amount_at x (pre ++ m ∷ ms) r.place)) (arrivals_by place (destinations m)) (arrivals_from (place + 1) ms) in
    let both = coefficient-append (each_with (amount x m) (destinations m)) (arrivals x ms) a in
    omega (arith, ints)

pub arriving_is : (x : Amounts) (ms : List Move) (index : List Arrival) (a : ℕ) → AreArrivals ms index → arriving x ms index a ≡ coefficient (arrivals x ms) a
arriving_is x ms index a h =
    int_sum_by-permutation (λ (r : Arrival). when_same r.to a (amount_at x ms r.place)) (arrivals_from 0 ms) index h.all ∙ of_moves x [] ms 0 a refl
