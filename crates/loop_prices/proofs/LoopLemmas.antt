-- Prices over a nest of loops bound every loose flow.
use Rattle.std.proofs.Common.{◌≡◌, ℕ, ◌*◌, ℤ, pos, ◌+ℤ◌, ◌*ℤ◌, ◌≤ℤ◌, arith, refl, sym, ap, ◌∙◌, List, [], ◌∷◌, All, Bool, true, false}
use Rattle.std.specs.Prelude.{◌==◌, if◌then◌else◌}
use lib.IntN.{*ℤ-zero, *ℤ_comm}
use Rattle.std.proofs.lemmas.Int.{ints}
use Rattle.std.proofs.lemmas.List.Elements.{All-head, All-tail}
use Rattle.frac128.specs.Terms.{Terms, int_sum_by, coefficient, applied, when_same}
use Rattle.frac128.proofs.SignedLemmas.{mul-add, mul-le, mul_assoc, mul-le-mul_right}
use Rattle.frac128.proofs.TermsLemmas.{applied-coefficient, int_sum_by-add, coefficient-append}
use Rattle.code_flow_system.specs.declared.claims.LoopClaim.{LoopClaim}
use Rattle.code_flow_system.specs.declared.moves.Move.{Move}
use Rattle.code_flow_system.specs.Moves.{destinations}
use Rattle.code_flow_system.specs.Systems.{System}
use Rattle.code_flow_system.specs.Counts.{Amounts, amount, departures, each_with, arrivals, count, inflow, total}
use Rattle.code_flow_system.specs.Loose.{moves_elsewhere, most_turns, KeepsTurns}
use Rattle.code_flow_system.proofs.DualityLemmas.{applied-each_with}
use Rattle.loop_prices.specs.LoopPrices.{Worths, turns_at, starts, starts_from, IsPaid, BoundsLooseFlows}

-- sums

-- a product of a number that stands where a test holds
swap : (b : Bool) (w z : ℤ) → (w *ℤ (if b then z else pos 0)) ≡ (z *ℤ (if b then w else pos 0))
swap true w z = *ℤ_comm w z
swap false w z = *ℤ-zero w ∙ sym (*ℤ-zero z)

-- what moves cost at their addresses, and what they start where they arrive

abbrev at_heads : Amounts → (ℕ → ℤ) → List Move → ℤ
at_heads x f ms = int_sum_by (λ m. amount x m *ℤ f m.at) ms

abbrev by_starts : Amounts → (ℕ → ℕ → ℤ) → List Move → ℤ
by_starts x f ms = int_sum_by (λ m. amount x m *ℤ int_sum_by (λ d. f m.at d) (destinations m)) ms

heads-add : (x : Amounts) (f g : ℕ → ℤ) (ms : List Move) → at_heads x (λ a. f a +ℤ g a) ms ≡ at_heads x f ms +ℤ at_heads x g ms
heads-add x f g [] = refl
heads-add x f g (m ∷ ms) = let r = heads-add x f g ms in let e = mul-add (amount x m) (f m.at) (g m.at) in omega (arith, ints)

starts-add : (x : Amounts) (f g : ℕ → ℕ → ℤ) (ms : List Move) → by_starts x (λ a d. f a d +ℤ g a d) ms ≡ by_starts x f ms +ℤ by_starts x g ms
starts-add x f g [] = refl
starts-add x f g (m ∷ ms) =
    let r = starts-add x f g ms in
    let s = ap (λ (z : ℤ). amount x m *ℤ z) (int_sum_by-add (λ d. f m.at d) (λ d. g m.at d) (destinations m)) in
    let e = mul-add (amount x m) (int_sum_by (λ d. f m.at d) (destinations m)) (int_sum_by (λ d. g m.at d) (destinations m)) in
    omega (arith, ints)

-- one loop

head_sum : (x : Amounts) (h : ℕ) (z : ℤ) (ms : List Move) → at_heads x (λ a. when_same a h z) ms ≡ z *ℤ count x ms h
head_sum x h z [] = sym (*ℤ-zero z)
head_sum x h z (m ∷ ms) =
    let r = head_sum x h z ms in
    let s = swap (m.at == h) (amount x m) z in
    let e = mul-add z (when_same m.at h (amount x m)) (count x ms h) in omega (arith, ints)

destination_sum : (w z : ℤ) (h : ℕ) (ds : List ℕ) → (w *ℤ int_sum_by (λ d. when_same d h z) ds) ≡ z *ℤ coefficient (each_with w ds) h
destination_sum w z h [] = *ℤ-zero w ∙ sym (*ℤ-zero z)
destination_sum w z h (d ∷ ds) =
    let r = destination_sum w z h ds in
    let s = swap (d == h) w z in
    let e = mul-add w (when_same d h z) (int_sum_by (λ d. when_same d h z) ds) in
    let f = mul-add z (when_same d h w) (coefficient (each_with w ds) h) in omega (arith, ints)

none : (w : ℤ) (ds : List ℕ) → (w *ℤ int_sum_by (λ d. pos 0) ds) ≡ pos 0
none w ds = ap (λ (z : ℤ). w *ℤ z) (zeros ds) ∙ *ℤ-zero w
  where
    zeros : (ds : List ℕ) → int_sum_by (λ d. pos 0) ds ≡ pos 0
    zeros [] = refl
    zeros (d ∷ ds) = let r = zeros ds in omega (arith, ints)

-- a loop's start by a move from the address
abbrev start_of : ℕ → ℕ → ℤ → ℕ → ℕ → ℤ
start_of back h z from d = if from == back then pos 0 else when_same d h z

start_sum : (x : Amounts) (back h : ℕ) (z : ℤ) (ms : List Move) → by_starts x (start_of back h z) ms ≡ z *ℤ coefficient (arrivals x (moves_elsewhere back ms)) h
start_sum x back h z [] = sym (*ℤ-zero z)
start_sum x back h z (m ∷ ms) = by_test (m.at == back) (start_sum x back h z ms)
  where
    by_test : (b : Bool) → by_starts x (start_of back h z) ms ≡ z *ℤ coefficient (arrivals x (moves_elsewhere back ms)) h →
        ((amount x m *ℤ int_sum_by (λ d. if b then pos 0 else when_same d h z) (destinations m)) +ℤ by_starts x (start_of back h z) ms)
        ≡ z *ℤ coefficient (arrivals x (if b then moves_elsewhere back ms else m ∷ moves_elsewhere back ms)) h
    by_test true r = let e = none (amount x m) (destinations m) in omega (arith, ints)
    by_test false r =
        let e = destination_sum (amount x m) z h (destinations m) in
        let f = coefficient-append (each_with (amount x m) (destinations m)) (arrivals x (moves_elsewhere back ms)) h in
        let g = ap (λ (y : ℤ). z *ℤ y) f in
        let k = mul-add z (coefficient (each_with (amount x m) (destinations m)) h) (coefficient (arrivals x (moves_elsewhere back ms)) h) in omega (arith, ints)

-- the turns of a loop, by its claim
turn_row : (z k : ℕ) (n u a : ℤ) → n ≤ℤ (pos k *ℤ (u +ℤ a)) → (pos z *ℤ n) ≤ℤ ((pos (k * z) *ℤ u) +ℤ (pos (k * z) *ℤ a))
turn_row z k n u a h =
    let e = mul-le z n (pos k *ℤ (u +ℤ a)) h in
    let f = product z k (u +ℤ a) in
    let g = mul-add (pos (k * z)) u a in omega (arith, ints)
  where
    product : (z k : ℕ) (y : ℤ) → (pos z *ℤ (pos k *ℤ y)) ≡ (pos (k * z) *ℤ y)
    product z k y = sym (mul_assoc (pos z) (pos k) y) ∙ ap (λ (w : ℤ). w *ℤ y) (scaled z k)
      where
        scaled : (z k : ℕ) → (pos z *ℤ pos k) ≡ pos (k * z)
        scaled z k = omega (arith, ints)

-- all loops

zero_heads : (x : Amounts) (ms : List Move) → at_heads x (λ a. pos 0) ms ≡ pos 0
zero_heads x [] = refl
zero_heads x (m ∷ ms) = let r = zero_heads x ms in let z = *ℤ-zero (amount x m) in omega (arith, ints)

zero_starts : (x : Amounts) (ms : List Move) → by_starts x (λ a d. pos 0) ms ≡ pos 0
zero_starts x [] = refl
zero_starts x (m ∷ ms) = let r = zero_starts x ms in let z = none (amount x m) (destinations m) in omega (arith, ints)

nothing_paid : (x : Amounts) (ms : List Move) (u : ℤ) → at_heads x (λ a. pos 0) ms ≤ℤ ((u *ℤ pos 0) +ℤ by_starts x (λ a d. pos 0) ms)
nothing_paid x ms u = let a = zero_heads x ms in let b = zero_starts x ms in let e = *ℤ-zero u in omega (arith, ints)

loops_paid : (s : System) (unit : ℕ) (x : Amounts) (cs : List LoopClaim) (zs : List ℕ) → All (KeepsTurns s unit x) cs →
    at_heads x (turns_at cs zs) s.moves ≤ℤ ((pos unit *ℤ starts cs zs s.entry) +ℤ by_starts x (starts_from cs zs) s.moves)
loops_paid s unit x [] zs h = nothing_paid x s.moves (pos unit)
loops_paid s unit x (c ∷ cs) [] h = nothing_paid x s.moves (pos unit)
loops_paid s unit x (c ∷ cs) (z ∷ zs) h =
    let r = loops_paid s unit x cs zs (All-tail (KeepsTurns s unit x) c cs h) in
    let t = turn_row z (most_turns c) (count x s.moves c.header) (when_same s.entry c.header (pos unit)) (coefficient (arrivals x (moves_elsewhere c.back s.moves)) c.header) (All-head (KeepsTurns s unit x) c cs h) in
    let a = heads-add x (λ a. when_same a c.header (pos z)) (turns_at cs zs) s.moves in
    let b = head_sum x c.header (pos z) s.moves in
    let d = starts-add x (start_of c.back c.header (pos (most_turns c * z))) (starts_from cs zs) s.moves in
    let e = start_sum x c.back c.header (pos (most_turns c * z)) s.moves in
    let f = swap (s.entry == c.header) (pos (most_turns c * z)) (pos unit) in
    let g = mul-add (pos unit) (when_same s.entry c.header (pos (most_turns c * z))) (starts cs zs s.entry) in
    omega (arith, ints)

-- all moves

moves_paid : (price : Move → ℤ) (w : Worths) (cs : List LoopClaim) (x : Amounts) (ms : List Move) → All (IsPaid price cs w) ms →
    (total price x ms +ℤ (applied (arrivals x ms) (coefficient w.places) +ℤ by_starts x (starts_from cs w.turns) ms)) ≤ℤ (applied (departures x ms) (coefficient w.places) +ℤ at_heads x (turns_at cs w.turns) ms)
moves_paid price w cs x [] h = omega (arith, ints)
moves_paid price w cs x (m ∷ ms) h =
    let r = moves_paid price w cs x ms (All-tail (IsPaid price cs w) m ms h) in
    let row : (pos (x m.at m.number) *ℤ (price m +ℤ int_sum_by (λ d. coefficient w.places d +ℤ starts_from cs w.turns m.at d) (destinations m))) ≤ℤ (pos (x m.at m.number) *ℤ (coefficient w.places m.at +ℤ turns_at cs w.turns m.at)) = mul-le (x m.at m.number) _ _ (All-head (IsPaid price cs w) m ms h) in
    let s = ap (λ (z : ℤ). amount x m *ℤ z) (int_sum_by-add (coefficient w.places) (λ d. starts_from cs w.turns m.at d) (destinations m)) in
    let e1 = mul-add (amount x m) (price m) (int_sum_by (λ d. coefficient w.places d +ℤ starts_from cs w.turns m.at d) (destinations m)) in
    let e2 = mul-add (amount x m) (int_sum_by (coefficient w.places) (destinations m)) (int_sum_by (λ d. starts_from cs w.turns m.at d) (destinations m)) in
    let e3 = mul-add (amount x m) (coefficient w.places m.at) (turns_at cs w.turns m.at) in
    let e4 = applied-each_with (amount x m) (destinations m) (arrivals x ms) (coefficient w.places) in
    omega (arith, ints)

-- what leaves the addresses is worth no more than what arrives

times : (z a b : ℤ) → pos 0 ≤ℤ z → a ≤ℤ b → (z *ℤ a) ≤ℤ (z *ℤ b)
times z a b h le = let e = mul-le-mul_right a b z h le in let f = *ℤ_comm a z in let g = *ℤ_comm b z in omega (arith, ints)

applied-mono : (ps : Terms) (f g : ℕ → ℤ) → All (λ t. pos 0 ≤ℤ t.1) ps → ((a : ℕ) → f a ≤ℤ g a) → applied ps f ≤ℤ applied ps g
applied-mono [] f g h le = omega (arith, ints)
applied-mono (p ∷ ps) f g h le =
    let r = applied-mono ps f g (All-tail (λ t. pos 0 ≤ℤ t.1) p ps h) le in
    let e = times p.1 (f p.0) (g p.0) (All-head (λ t. pos 0 ≤ℤ t.1) p ps h) (le p.0) in omega (arith, ints)

pub bounds_loose_flows : (s : System) → BoundsLooseFlows s
bounds_loose_flows s price w prices unit x loose =
    let rows = moves_paid price w s.claims.loops x s.moves prices.moves in
    let loops = loops_paid s unit x s.claims.loops w.turns loose.loops in
    let out = applied-coefficient (departures x s.moves) w.places in
    let arriving = applied-coefficient (inflow s.entry unit x s.moves) w.places in
    let less = applied-mono w.places (coefficient (departures x s.moves)) (coefficient (inflow s.entry unit x s.moves)) prices.positive loose.kept in
    let e = mul-add (pos unit) (coefficient w.places s.entry) (starts s.claims.loops w.turns s.entry) in
    omega (arith, ints)
