-- What is found by address and by number is what the definitions say.
use Rattle.std.proofs.Common.{◌≡◌, ◌≢◌, ℕ, zero, suc, ◌+◌, ◌-◌, ◌*◌, ◌/◌, ◌%◌, ◌≤◌, ◌<◌, ℤ, pos, ◌+ℤ◌, ◌*ℤ◌, arith, refl, sym, ap, ◌∙◌, List, [], ◌∷◌, ◌++◌, length, get_or, unsigned_abs, Bool, true, false, inl, inr}
use Rattle.std.specs.Prelude.{◌==◌, if◌then◌else◌}
use lib.IntN.{*ℤ-zero}
use Rattle.std.proofs.lemmas.Int.{ints}
use Rattle.std.proofs.lemmas.Bool.Decides.{eqb_tells}
use Rattle.frac128.specs.Terms.{int_sum_by, when_same}
use Rattle.code_flow_system.specs.declared.claims.Never.{Never}
use Rattle.code_flow_system.specs.declared.claims.LoopClaim.{LoopClaim}
use Rattle.code_flow_system.specs.declared.claims.FactClaim.{FactClaim}
use Rattle.code_flow_system.specs.declared.moves.Move.{Move}
use Rattle.code_flow_system.specs.declared.index.Arrival.{Arrival}
use Rattle.code_flow_system.specs.declared.index.Mention.{Mention}
use Rattle.code_flow_system.specs.Counts.{Amounts, amount, count}
use Rattle.code_flow_system.specs.Lookups.{by_at, amount_at, arriving, holding, sizes}
use Rattle.code_flow_system.specs.Certificates.{Limit, never_limits, loop_limits, fact_limits, size_by}
use Rattle.code_flow_lookup.specs.Runs.{those_at}
use Rattle.code_flow_lookup.proofs.RunLemmas.{same_test, other_test}
use Rattle.dual_check.specs.Multipliers.{fact_by, loop_by, never_by}

-- multipliers by the numbers of limits

pub fact_by-at : (cs : List FactClaim) (ws : List ℤ) (n : ℕ) → length ws ≡ length cs → fact_by ws n ≡ by_at (fact_limits cs ws) n
fact_by-at [] [] n e = refl
fact_by-at [] (w ∷ ws) n e = absurd (omega (arith, e))
fact_by-at (c ∷ cs) [] n e = absurd (omega (arith, e))
fact_by-at (c ∷ cs) (w ∷ ws) zero e = refl
fact_by-at (c ∷ cs) (w ∷ ws) (suc n) e = fact_by-at cs ws n (omega (arith, e))

pub loop_by-at : (cs : List LoopClaim) (ws : List (ℤ × ℤ)) (fs : List FactClaim) (us : List ℤ) (n : ℕ) → length ws ≡ length cs → length us ≡ length fs →
    loop_by ws us n ≡ by_at (loop_limits cs ws ++ fact_limits fs us) n
loop_by-at [] [] fs us n e f = fact_by-at fs us n f
loop_by-at [] (w ∷ ws) fs us n e f = absurd (omega (arith, e))
loop_by-at (c ∷ cs) [] fs us n e f = absurd (omega (arith, e))
loop_by-at (c ∷ cs) (w ∷ ws) fs us zero e f = refl
loop_by-at (c ∷ cs) (w ∷ ws) fs us (suc zero) e f = refl
loop_by-at (c ∷ cs) (w ∷ ws) fs us (suc (suc n)) e f = loop_by-at cs ws fs us n (omega (arith, e)) f

pub never_by-at : (cs : List Never) (vs : List ℤ) (ls : List LoopClaim) (ws : List (ℤ × ℤ)) (fs : List FactClaim) (us : List ℤ) (n : ℕ) → length vs ≡ length cs → length ws ≡ length ls → length us ≡ length fs →
    never_by vs ws us n ≡ by_at (never_limits cs vs ++ (loop_limits ls ws ++ fact_limits fs us)) n
never_by-at [] [] ls ws fs us n e f g = loop_by-at ls ws fs us n f g
never_by-at [] (v ∷ vs) ls ws fs us n e f g = absurd (omega (arith, e))
never_by-at (c ∷ cs) [] ls ws fs us n e f g = absurd (omega (arith, e))
never_by-at (c ∷ cs) (v ∷ vs) ls ws fs us zero e f g = refl
never_by-at (c ∷ cs) (v ∷ vs) ls ws fs us (suc n) e f g = never_by-at cs vs ls ws fs us n (omega (arith, e)) f g

pub never_same : (a a' : List ℤ) (b b' : List (ℤ × ℤ)) (d d' : List ℤ) (n : ℕ) → a ≡ a' → b ≡ b' → d ≡ d' → never_by a b d n ≡ never_by a' b' d' n
never_same a a' b b' d d' n e f g = ap (λ x. never_by x b d n) e ∙ ap (λ x. never_by a' x d n) f ∙ ap (λ x. never_by a' b' x n) g

pub never_here : (vs : List ℤ) (ws : List (ℤ × ℤ)) (us : List ℤ) (n : ℕ) (d : ℤ) → n < length vs → get_or vs n d ≡ never_by vs ws us n
never_here [] ws us n d h = absurd (omega arith)
never_here (v ∷ vs) ws us zero d h = refl
never_here (v ∷ vs) ws us (suc n) d h = never_here vs ws us n d (omega arith)

behind_nevers : (vs : List ℤ) (ws : List (ℤ × ℤ)) (us : List ℤ) (n m : ℕ) → n ≡ length vs + m → loop_by ws us m ≡ never_by vs ws us n
behind_nevers [] ws us n m e = let f : m ≡ n = omega (arith, e) in ap (loop_by ws us) f
behind_nevers (v ∷ vs) ws us zero m e = absurd (omega (arith, e))
behind_nevers (v ∷ vs) ws us (suc n) m e = behind_nevers vs ws us n m (omega (arith, e))

pub never_later : (vs : List ℤ) (ws : List (ℤ × ℤ)) (us : List ℤ) (n : ℕ) → length vs ≤ n → loop_by ws us (n - length vs) ≡ never_by vs ws us n
never_later vs ws us n h = behind_nevers vs ws us n (n - length vs) (omega arith)

-- a loop's two, and what is behind the loops

least_here : (ws : List (ℤ × ℤ)) (us : List ℤ) (k n : ℕ) (d : ℤ × ℤ) → k < length ws → n ≡ 2 * k → (get_or ws k d).0 ≡ loop_by ws us n
least_here [] us k n d h e = absurd (omega arith)
least_here (w ∷ ws) us zero zero d h e = refl
least_here (w ∷ ws) us zero (suc n) d h e = absurd (omega (arith, e))
least_here (w ∷ ws) us (suc k) zero d h e = absurd (omega (arith, e))
least_here (w ∷ ws) us (suc k) (suc zero) d h e = absurd (omega (arith, e))
least_here (w ∷ ws) us (suc k) (suc (suc n)) d h e = least_here ws us k n d (omega arith) (omega (arith, e))

most_here : (ws : List (ℤ × ℤ)) (us : List ℤ) (k n : ℕ) (d : ℤ × ℤ) → k < length ws → n ≡ 2 * k + 1 → (get_or ws k d).1 ≡ loop_by ws us n
most_here [] us k n d h e = absurd (omega arith)
most_here (w ∷ ws) us zero zero d h e = absurd (omega (arith, e))
most_here (w ∷ ws) us zero (suc zero) d h e = refl
most_here (w ∷ ws) us zero (suc (suc n)) d h e = absurd (omega (arith, e))
most_here (w ∷ ws) us (suc k) zero d h e = absurd (omega (arith, e))
most_here (w ∷ ws) us (suc k) (suc zero) d h e = absurd (omega (arith, e))
most_here (w ∷ ws) us (suc k) (suc (suc n)) d h e = most_here ws us k n d (omega arith) (omega (arith, e))

pub even_here : (ws : List (ℤ × ℤ)) (us : List ℤ) (n : ℕ) (d : ℤ × ℤ) → n / 2 < length ws → n % 2 ≡ 0 → (get_or ws (n / 2) d).0 ≡ loop_by ws us n
even_here ws us n d h e = least_here ws us (n / 2) n d h (omega (arith, e))

pub odd_here : (ws : List (ℤ × ℤ)) (us : List ℤ) (n : ℕ) (d : ℤ × ℤ) → n / 2 < length ws → n % 2 ≢ 0 → (get_or ws (n / 2) d).1 ≡ loop_by ws us n
odd_here ws us n d h e = most_here ws us (n / 2) n d h (omega (arith, e))

behind_loops : (ws : List (ℤ × ℤ)) (us : List ℤ) (n m : ℕ) → n ≡ 2 * length ws + m → fact_by us m ≡ loop_by ws us n
behind_loops [] us n m e = let f : m ≡ n = omega (arith, e) in ap (fact_by us) f
behind_loops (w ∷ ws) us zero m e = absurd (omega (arith, e))
behind_loops (w ∷ ws) us (suc zero) m e = absurd (omega (arith, e))
behind_loops (w ∷ ws) us (suc (suc n)) m e = behind_loops ws us n m (omega (arith, e))

pub fact_later : (ws : List (ℤ × ℤ)) (us : List ℤ) (n : ℕ) → length ws ≤ n / 2 → fact_by us (n - 2 * length ws) ≡ loop_by ws us n
fact_later ws us n h = behind_loops ws us n (n - 2 * length ws) (omega arith)

pub fact_here : (us : List ℤ) (n : ℕ) (d : ℤ) → n < length us → get_or us n d ≡ fact_by us n
fact_here [] n d h = absurd (omega arith)
fact_here (u ∷ us) zero d h = refl
fact_here (u ∷ us) (suc n) d h = fact_here us n d (omega arith)

pub no_fact : (us : List ℤ) (n : ℕ) → length us ≤ n → pos 0 ≡ fact_by us n
no_fact [] n h = refl
no_fact (u ∷ us) zero h = absurd (omega arith)
no_fact (u ∷ us) (suc n) h = no_fact us n (omega arith)

-- sums over a list of what stands at one address are sums over those that stand there

module _ {X : Type 0} (key : X → ℕ) (f g : X → ℤ) (a : ℕ) (here : (x : X) → key x ≡ a → f x ≡ g x) (elsewhere : (x : X) → key x ≢ a → f x ≡ pos 0) where
  pub sum-those : (xs : List X) → (int_sum_by f xs ≡ int_sum_by g (those_at key a xs)) × (size_by f xs ≡ size_by g (those_at key a xs))
  sum-those [] = (refl, refl)
  sum-those (x ∷ xs) = elim (eqb_tells (key x) a) [
    | inl e ↦
        let r = sum-those xs in
        let u = r.0 in
        let v = r.1 in
        let t = those-if x xs true (same_test (key x) a e.1) in
        let h = here x e.1 in
        let k = ap unsigned_abs h in
        (add_head (f x) (g x) _ _ h u ∙ ap (int_sum_by g) (sym t), add_size _ _ _ _ k v ∙ ap (size_by g) (sym t))
    | inr e ↦
        let r = sum-those xs in
        let u = r.0 in
        let v = r.1 in
        let t = those-if x xs false (other_test (key x) a e.1) in
        let h = elsewhere x e.1 in
        (add_none (f x) _ _ h u ∙ ap (int_sum_by g) (sym t), size_none (f x) _ _ h v ∙ ap (size_by g) (sym t))
  ]
    where
      those-if : (x : X) (xs : List X) (b : Bool) → (key x == a) ≡ b → those_at key a (x ∷ xs) ≡ (if b then x ∷ those_at key a xs else those_at key a xs)
      those-if x xs b e = ap (λ (c : Bool). if c then x ∷ those_at key a xs else those_at key a xs) e

      add_head : (y z s t : ℤ) → y ≡ z → s ≡ t → y +ℤ s ≡ z +ℤ t
      add_head y z s t h u = omega (arith, ints)

      add_size : (y z s t : ℕ) → y ≡ z → s ≡ t → y + s ≡ z + t
      add_size y z s t h u = omega arith

      add_none : (y s t : ℤ) → y ≡ pos 0 → s ≡ t → y +ℤ s ≡ t
      add_none y s t h u = omega (arith, ints)

      size_none : (y : ℤ) (s t : ℕ) → y ≡ pos 0 → s ≡ t → unsigned_abs y + s ≡ t
      size_none y s t h u = let e = ap unsigned_abs h in omega arith

same_number : (b a : ℕ) (z : ℤ) → b ≡ a → when_same b a z ≡ z
same_number b a z e = ap (λ (c : Bool). if c then z else pos 0) (same_test b a e)

other_number : (b a : ℕ) (z : ℤ) → b ≢ a → when_same b a z ≡ pos 0
other_number b a z e = ap (λ (c : Bool). if c then z else pos 0) (other_test b a e)

-- mentions
pub holding-those : (ls : List Limit) (ms : List Mention) (a : ℕ) →
    (holding ls ms a ≡ int_sum_by (λ m. by_at ls m.limit *ℤ m.coefficient) (those_at (λ m. m.at) a ms))
    × (sizes ls ms a ≡ size_by (λ m. by_at ls m.limit *ℤ m.coefficient) (those_at (λ m. m.at) a ms))
holding-those ls ms a = sum-those (λ m. m.at) (λ m. by_at ls m.limit *ℤ when_same m.at a m.coefficient) (λ m. by_at ls m.limit *ℤ m.coefficient) a
    (λ m e. ap (λ (z : ℤ). by_at ls m.limit *ℤ z) (same_number m.at a m.coefficient e))
    (λ m e. ap (λ (z : ℤ). by_at ls m.limit *ℤ z) (other_number m.at a m.coefficient e) ∙ *ℤ-zero (by_at ls m.limit)) ms

-- arrivals
pub arriving-those : (x : Amounts) (ms : List Move) (rs : List Arrival) (a : ℕ) → arriving x ms rs a ≡ int_sum_by (λ r. amount_at x ms r.place) (those_at (λ r. r.to) a rs)
arriving-those x ms rs a = (sum-those (λ r. r.to) (λ r. when_same r.to a (amount_at x ms r.place)) (λ r. amount_at x ms r.place) a
    (λ r e. same_number r.to a (amount_at x ms r.place) e)
    (λ r e. other_number r.to a (amount_at x ms r.place) e) rs).0

-- counts
count_is : (x : Amounts) (ms : List Move) (a : ℕ) → count x ms a ≡ int_sum_by (λ m. when_same m.at a (amount x m)) ms
count_is x [] a = refl
count_is x (m ∷ ms) a = ap (λ (z : ℤ). when_same m.at a (amount x m) +ℤ z) (count_is x ms a)

pub count-those : (x : Amounts) (ms : List Move) (a : ℕ) → count x ms a ≡ int_sum_by (amount x) (those_at (λ m. m.at) a ms)
count-those x ms a = count_is x ms a ∙ (sum-those (λ m. m.at) (λ m. when_same m.at a (amount x m)) (amount x) a
    (λ m e. same_number m.at a (amount x m) e)
    (λ m e. other_number m.at a (amount x m) e) ms).0

-- the move at a place
pub amount_here : (x : Amounts) (ms : List Move) (k : ℕ) (d : Move) → k < length ms → amount x (get_or ms k d) ≡ amount_at x ms k
amount_here x [] k d h = absurd (omega arith)
amount_here x (m ∷ ms) zero d h = refl
amount_here x (m ∷ ms) (suc k) d h = amount_here x ms k d (omega arith)

pub no_amount : (x : Amounts) (ms : List Move) (k : ℕ) → length ms ≤ k → pos 0 ≡ amount_at x ms k
no_amount x [] k h = refl
no_amount x (m ∷ ms) zero h = absurd (omega arith)
no_amount x (m ∷ ms) (suc k) h = no_amount x ms k (omega arith)
