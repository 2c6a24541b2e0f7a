-- Each flow is a loose one.
use Rattle.std.proofs.Common.{◌≡◌, ℕ, ℤ, pos, ◌+ℤ◌, ◌-ℤ◌, ◌*ℤ◌, ◌≤ℤ◌, arith, refl, ap, subst, List, [], ◌∷◌, ◌++◌, All, Bool, true, false}
use Rattle.std.specs.Prelude.{◌==◌, if◌then◌else◌}
use Rattle.std.proofs.lemmas.Int.{ints}
use Rattle.std.proofs.lemmas.Bool.Decides.{nat_tests}
use Rattle.std.proofs.lemmas.List.Elements.{All-head, All-tail, All-cons, All-nil}
use Rattle.frac128.specs.Terms.{coefficient, when_same}
use Rattle.frac128.proofs.TermsLemmas.{coefficient-append, when_same-here}
use Rattle.code_flow_system.specs.declared.claims.LoopClaim.{LoopClaim}
use Rattle.code_flow_system.specs.declared.moves.Move.{Move}
use Rattle.code_flow_system.specs.Moves.{destinations}
use Rattle.code_flow_system.specs.Systems.{System}
use Rattle.code_flow_system.specs.Counts.{Amounts, amount, each_with, arrivals, count, inflow, KeepsLoop}
use Rattle.code_flow_system.specs.Flows.{IsFlow}
use Rattle.code_flow_system.specs.Loose.{moves_elsewhere, KeepsTurns, GoesBack, FlowsAreLoose}
use Rattle.code_flow_system.specs.declared.shapes.LoopShape.{LoopShape}
use Rattle.code_flow_system.specs.Shapes.{AreShapesOf, IsLoop}

-- what arrives at the header comes from elsewhere, or by the back jump
arrivals_split : (x : Amounts) (h b : ℕ) (ms : List Move) → All (λ m. m.at ≡ b → destinations m ≡ h ∷ []) ms →
    coefficient (arrivals x ms) h ≡ coefficient (arrivals x (moves_elsewhere b ms)) h +ℤ count x ms b
arrivals_split x h b [] back = refl
arrivals_split x h b (m ∷ ms) back =
    let r = arrivals_split x h b ms (All-tail (λ m. m.at ≡ b → destinations m ≡ h ∷ []) m ms back) in
    let e = coefficient-append (each_with (amount x m) (destinations m)) (arrivals x ms) h in
    by_place (m.at == b) refl (All-head (λ m. m.at ≡ b → destinations m ≡ h ∷ []) m ms back) r e
  where
    same : (a b : ℕ) → (a == b) ≡ true → a ≡ b
    same a b e = grind (arith, nat_tests)

    by_place : (here : Bool) → (m.at == b) ≡ here → (m.at ≡ b → destinations m ≡ h ∷ []) →
        coefficient (arrivals x ms) h ≡ coefficient (arrivals x (moves_elsewhere b ms)) h +ℤ count x ms b →
        coefficient (each_with (amount x m) (destinations m) ++ arrivals x ms) h ≡ coefficient (each_with (amount x m) (destinations m)) h +ℤ coefficient (arrivals x ms) h →
        coefficient (each_with (amount x m) (destinations m) ++ arrivals x ms) h ≡ coefficient (arrivals x (if here then moves_elsewhere b ms else m ∷ moves_elsewhere b ms)) h +ℤ count x (m ∷ ms) b
    by_place true is back r e =
        let d = ap (λ ds. coefficient (each_with (amount x m) ds) h) (back (same m.at b is)) in
        let f = when_same-here h (amount x m) in
        let g : when_same m.at b (amount x m) ≡ amount x m = ap (λ (t : Bool). if t then amount x m else pos 0) is in
        omega (arith, ints)
    by_place false is back r e =
        let f = coefficient-append (each_with (amount x m) (destinations m)) (arrivals x (moves_elsewhere b ms)) h in
        let g : when_same m.at b (amount x m) ≡ pos 0 = ap (λ (t : Bool). if t then amount x m else pos 0) is in
        omega (arith, ints)

-- nothing negative arrives

at_least-when : (a b : ℕ) (n : ℕ) → pos 0 ≤ℤ when_same a b (pos n)
at_least-when a b n = grind (arith, ints, nat_tests)

at_least-each : (n : ℕ) (ds : List ℕ) (a : ℕ) → pos 0 ≤ℤ coefficient (each_with (pos n) ds) a
at_least-each n [] a = omega (arith, ints)
at_least-each n (d ∷ ds) a = let r = at_least-each n ds a in let e = at_least-when d a n in omega (arith, ints)

at_least-arrivals : (x : Amounts) (ms : List Move) (a : ℕ) → pos 0 ≤ℤ coefficient (arrivals x ms) a
at_least-arrivals x [] a = omega (arith, ints)
at_least-arrivals x (m ∷ ms) a =
    let r = at_least-arrivals x ms a in
    let e = at_least-each (x m.at m.number) (destinations m) a in
    let f = coefficient-append (each_with (amount x m) (destinations m)) (arrivals x ms) a in omega (arith, ints)

turns_of : (k : ℕ) (h from : ℤ) → h ≤ℤ (pos k *ℤ from) → pos 0 ≤ℤ from → h ≤ℤ (pos (if k == 0 then 1 else k) *ℤ from)
turns_of k h from most least = by_zero (k == 0) refl
  where
    zero_is : (k : ℕ) → (k == 0) ≡ true → k ≡ 0
    zero_is k e = grind (arith, nat_tests)

    by_zero : (b : Bool) → (k == 0) ≡ b → h ≤ℤ (pos (if b then 1 else k) *ℤ from)
    by_zero true e = let f = ap (λ n. pos n *ℤ from) (zero_is k e) in omega (arith, ints)
    by_zero false e = most

turns_kept : (s : System) (unit : ℕ) (x : Amounts) → IsFlow s unit x → (cs : List LoopClaim) → All (GoesBack s.moves) cs → All (KeepsLoop (count x s.moves)) cs → All (KeepsTurns s unit x) cs
turns_kept s unit x flow [] back keeps = All-nil _
turns_kept s unit x flow (c ∷ cs) back keeps =
    let split = arrivals_split x c.header c.back s.moves (All-head (GoesBack s.moves) c cs back) in
    let all = flow.conserved c.header in
    let from = coefficient (inflow s.entry unit x (moves_elsewhere c.back s.moves)) c.header in
    let most = (All-head (KeepsLoop (count x s.moves)) c cs keeps).most in
    let e1 = at_least-when s.entry c.header unit in
    let e2 = at_least-arrivals x (moves_elsewhere c.back s.moves) c.header in
    let is : (count x s.moves c.header -ℤ count x s.moves c.back) ≡ coefficient (inflow s.entry unit x (moves_elsewhere c.back s.moves)) c.header = omega (arith, ints) in
    let kept : KeepsTurns s unit x c = turns_of c.max (count x s.moves c.header) (coefficient (inflow s.entry unit x (moves_elsewhere c.back s.moves)) c.header)
    (subst (λ (z : ℤ). count x s.moves c.header ≤ℤ (pos c.max *ℤ z)) is most) (omega (arith, ints)) in
    All-cons (KeepsTurns s unit x) c cs kept
    (turns_kept s unit x flow cs (All-tail (GoesBack s.moves) c cs back) (All-tail (KeepsLoop (count x s.moves)) c cs keeps))

pub flows_are_loose : (s : System) → FlowsAreLoose s
flows_are_loose s back unit x flow = record {
  positive = flow.positive;
  kept = λ a. let e = flow.conserved a in omega (arith, ints);
  loops = turns_kept s unit x flow s.claims.loops back flow.claims.loops;
}

-- each claim's jump back goes to its header alone
pub goes_back : (s : System) (cs : List LoopClaim) (ks : List LoopShape) → AreShapesOf cs ks → All (IsLoop s) ks → All (GoesBack s.moves) cs
goes_back s [] ks are h = All-nil (GoesBack s.moves)
goes_back s (c ∷ cs) [] are h = absurd are
goes_back s (c ∷ cs) (l ∷ ks) are h = All-cons (GoesBack s.moves) c cs
    (subst (λ a. All (λ m. m.at ≡ c.back → destinations m ≡ a ∷ []) s.moves) are.0 (subst (λ b. All (λ m. m.at ≡ b → destinations m ≡ l.header ∷ []) s.moves) are.1 (All-head (IsLoop s) l ks h).goes_back))
    (goes_back s cs ks are.2 (All-tail (IsLoop s) l ks h))
