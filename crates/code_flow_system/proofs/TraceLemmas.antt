-- The moves of a run, one behind the other: their tally is conserved where calls and returns match, and its value is their cost.
use Rattle.std.proofs.Common.{◌≡◌, ℕ, zero, suc, ◌+◌, ◌<◌, ◌⊎◌, ℤ, pos, ◌+ℤ◌, ◌*ℤ◌, arith, refl, sym, ap, ◌∙◌, List, [], ◌∷◌, ◌++◌, All, Contains, Bool, true, false, Option, Some, None, subst, length, get_or, inl, inr}
use Rattle.std.specs.Prelude.{◌==◌, ◌&&◌, if◌then◌else◌}
use Rattle.std.specs.Option.{option_to_list}
use Rattle.std.proofs.lemmas.Int.{ints}
use Rattle.std.proofs.lemmas.Bool.Decides.{nat_tests}
use Rattle.std.proofs.lemmas.List.Elements.{All-head, All-tail, All-cons, All-nil, All-contains}
use lib.IntN.{zero-*ℤ}
use Rattle.frac128.specs.Terms.{Terms, int_sum_by, coefficient, when_same}
use Rattle.frac128.proofs.SignedLemmas.{add-mul}
use Rattle.frac128.proofs.TermsLemmas.{coefficient-append}
use Rattle.rv_core.specs.Runs.{Visit}
use Rattle.code_flow_system.specs.declared.moves.Move.{Move}
use Rattle.code_flow_system.specs.Moves.{destinations}
use Rattle.code_flow_system.specs.Systems.{ComesBefore, AreAscending}
use Rattle.code_flow_system.specs.Counts.{Amounts, amount, departures, each_with, arrivals, count, IsConserved, total}
use Rattle.code_flow_system.specs.KeptRuns.{visit_count, tally}

-- the visits made these moves of the system
abbrev pub Traces : List Move → List Move → List Visit → Type 0
Traces ms [] [] = Unit {0}
Traces ms [] (v ∷ vs) = ⊥
Traces ms (m ∷ trace) [] = ⊥
Traces ms (m ∷ trace) (v ∷ vs) = Contains ms m × (m.at ≡ v.at) × (m.number ≡ v.move) × Traces ms trace vs

-- the addresses that the moves left, and those at which they arrived
abbrev pub places : List Move → Terms
places [] = []
places (m ∷ ms) = (m.at, pos 1) ∷ places ms

abbrev pub arrived : List Move → Terms
arrived [] = []
arrived (m ∷ ms) = each_with (pos 1) (destinations m) ++ arrived ms

-- with the pc and the return places, what was left and what arrived are equal
abbrev pub IsBalanced : ℕ → List Move → ℕ → List ℕ → Type 0
IsBalanced entry trace pc stack = (a : ℕ) → coefficient (places trace) a +ℤ coefficient (each_with (pos 1) (pc ∷ stack)) a ≡ when_same entry a (pos 1) +ℤ coefficient (arrived trace) a

-- a move leads to a pc and return places: a call pushes the place behind it, and a return takes one
abbrev pub Leads : Option ℕ → Option ℕ → List ℕ → ℕ → List ℕ → Type 0
Leads (Some d) None stack pc after = (pc ≡ d) × (after ≡ stack)
Leads (Some d) (Some b) stack pc after = (pc ≡ d) × (after ≡ b ∷ stack)
Leads None None stack pc after = stack ≡ pc ∷ after
Leads None (Some b) stack pc after = ⊥

pub balanced_start : (entry : ℕ) → IsBalanced entry [] entry []
balanced_start entry a = start (when_same entry a (pos 1)) where
  start : (x : ℤ) → pos 0 +ℤ (x +ℤ pos 0) ≡ x +ℤ pos 0
  start x = omega (arith, ints)

-- what a step adds on both sides
step_adds : (to behind : Option ℕ) (stack after : List ℕ) (pc a : ℕ) → Leads to behind stack pc after →
    coefficient (each_with (pos 1) (pc ∷ after)) a ≡ coefficient (each_with (pos 1) (option_to_list to ++ option_to_list behind)) a +ℤ coefficient (each_with (pos 1) stack) a
step_adds (Some d) None stack after pc a (e, f) =
    let p = ap (λ b. when_same b a (pos 1)) e in
    let q = ap (λ ds. coefficient (each_with (pos 1) ds) a) f in omega (arith, ints)
step_adds (Some d) (Some b) stack after pc a (e, f) =
    let p = ap (λ b. when_same b a (pos 1)) e in
    let q = ap (λ ds. coefficient (each_with (pos 1) ds) a) f in omega (arith, ints)
step_adds None None stack after pc a e =
    let q = ap (λ ds. coefficient (each_with (pos 1) ds) a) e in omega (arith, ints)
step_adds None (Some b) stack after pc a e = absurd e

pub balanced_step : (entry : ℕ) (trace : List Move) (pc to : ℕ) (stack after : List ℕ) (m : Move) → IsBalanced entry trace pc stack → m.at ≡ pc → Leads m.to m.behind stack to after → IsBalanced entry (m ∷ trace) to after
balanced_step entry trace pc to stack after m h at leads a =
    let e3 = step_adds m.to m.behind stack after to a leads in
    let e4 = ap (λ b. when_same b a (pos 1)) at in
    let e5 = h a in
    let e6 = coefficient-append (each_with (pos 1) (destinations m)) (arrived trace) a in
    omega (arith, ints)

-- the flow of a trace

abbrev is_same : ℕ → ℕ → ℕ → ℕ → Bool
is_same a k b j = (a == b) && (k == j)

is_same-self : (a k : ℕ) → is_same a k a k ≡ true
is_same-self a k = grind (arith, nat_tests)

is_same-sym : (a k b j : ℕ) → is_same a k b j ≡ is_same b j a k
is_same-sym a k b j = grind (arith, nat_tests)

-- no two moves have one address and number
abbrev AreDistinct : List Move → Type 0
AreDistinct [] = Unit {0}
AreDistinct (m ∷ ms) = All (λ k. is_same m.at m.number k.at k.number ≡ false) ms × AreDistinct ms

before_distinct : (a k b j : ℕ) → (a < b) ⊎ ((a ≡ b) × (k < j)) → is_same a k b j ≡ false
before_distinct a k b j (inl lt) = grind (arith, nat_tests)
before_distinct a k b j (inr (e, lt)) = grind (arith, nat_tests)

all_before : (m : Move) (ms : List Move) → All (ComesBefore m) ms → All (λ k. is_same m.at m.number k.at k.number ≡ false) ms
all_before m [] h = All-nil _
all_before m (k ∷ ms) h = All-cons (λ k. is_same m.at m.number k.at k.number ≡ false) k ms (before_distinct m.at m.number k.at k.number (All-head (ComesBefore m) k ms h)) (all_before m ms (All-tail (ComesBefore m) k ms h))

ascending_distinct : (ms : List Move) → AreAscending ms → AreDistinct ms
ascending_distinct [] h = tt
ascending_distinct (m ∷ ms) h = (all_before m ms h.0, ascending_distinct ms h.1)

abbrev once : ℕ → ℕ → Amounts
once b j a k = if is_same b j a k then 1 else 0

abbrev summed : (Move → ℤ → ℤ) → Amounts → List Move → ℤ
summed g x ms = int_sum_by (λ m. g m (amount x m)) ms

module _ (g : Move → ℤ → ℤ) (none : (m : Move) → g m (pos 0) ≡ pos 0) (add : (m : Move) (j k : ℕ) → g m (pos (j + k)) ≡ g m (pos j) +ℤ g m (pos k)) where
  summed-add : (x y : Amounts) (ms : List Move) → summed g (λ a k. x a k + y a k) ms ≡ summed g x ms +ℤ summed g y ms
  summed-add x y [] = refl
  summed-add x y (m ∷ ms) = let r = summed-add x y ms in let e = add m (x m.at m.number) (y m.at m.number) in omega (arith, ints)

  summed-nothing : (ms : List Move) → summed g (λ a k. 0) ms ≡ pos 0
  summed-nothing [] = refl
  summed-nothing (m ∷ ms) = let r = summed-nothing ms in let e = none m in omega (arith, ints)

  once_other : (m : Move) (ms : List Move) → All (λ k. is_same m.at m.number k.at k.number ≡ false) ms → summed g (once m.at m.number) ms ≡ pos 0
  once_other m [] h = refl
  once_other m (k ∷ ms) h =
      let r = once_other m ms (All-tail (λ k. is_same m.at m.number k.at k.number ≡ false) k ms h) in
      let n : once m.at m.number k.at k.number ≡ 0 = ap (λ (b : Bool). if b then 1 else 0) (All-head (λ k. is_same m.at m.number k.at k.number ≡ false) k ms h) in
      let e = ap (λ i. g k (pos i)) n in
      let f = none k in omega (arith, ints)

  once_summed : (m : Move) (ms : List Move) (i : ℕ) → AreDistinct ms → i < length ms → get_or ms i m ≡ m → summed g (once m.at m.number) ms ≡ g m (pos 1)
  once_summed m [] i d lt e = absurd (omega arith)
  once_summed m (k ∷ ms) zero d lt e = subst (λ (n : Move). summed g (once n.at n.number) (k ∷ ms) ≡ g n (pos 1)) e (
      let r = once_other k ms d.0 in
      let n : once k.at k.number k.at k.number ≡ 1 = ap (λ (b : Bool). if b then 1 else 0) (is_same-self k.at k.number) in
      let f = ap (λ j. g k (pos j)) n in omega (arith, ints))
  once_summed m (k ∷ ms) (suc i) d lt e =
      let r = once_summed m ms i d.1 (omega arith) e in
      let differs = is_same-sym m.at m.number k.at k.number ∙ All-contains (λ j. is_same k.at k.number j.at j.number ≡ false) ms m d.0 (i, omega arith, e) in
      let n : once m.at m.number k.at k.number ≡ 0 = ap (λ (b : Bool). if b then 1 else 0) differs in
      let f = ap (λ j. g k (pos j)) n in
      let h = none k in omega (arith, ints)

  -- a sum over the moves, each as often as it was made, is the sum over the trace
  traced : (ms trace : List Move) (vs : List Visit) → AreDistinct ms → Traces ms trace vs → summed g (tally vs) ms ≡ int_sum_by (λ m. g m (pos 1)) trace
  traced ms [] [] d t = summed-nothing ms
  traced ms [] (v ∷ vs) d t = absurd t
  traced ms (m ∷ trace) [] d t = absurd t
  traced ms (m ∷ trace) (v ∷ vs) d t =
      let r = traced ms trace vs d t.3 in
      let c = t.0 in
      let e = once_summed m ms c.0 d c.1 c.2 in
      let a = ap (λ b. summed g (once b m.number) ms) t.1 in
      let b = ap (λ j. summed g (once v.at j) ms) t.2 in
      let f = summed-add (once v.at v.move) (tally vs) ms in omega (arith, ints)

when_same-zero : (b a : ℕ) → when_same b a (pos 0) ≡ pos 0
when_same-zero b a = grind arith

when_same-add : (b a j k : ℕ) → when_same b a (pos (j + k)) ≡ when_same b a (pos j) +ℤ when_same b a (pos k)
when_same-add b a j k = grind (arith, ints)

departures_summed : (x : Amounts) (ms : List Move) (a : ℕ) → coefficient (departures x ms) a ≡ summed (λ m w. when_same m.at a w) x ms
departures_summed x [] a = refl
departures_summed x (m ∷ ms) a = let r = departures_summed x ms a in omega (arith, ints)

arrivals_summed : (x : Amounts) (ms : List Move) (a : ℕ) → coefficient (arrivals x ms) a ≡ summed (λ m w. coefficient (each_with w (destinations m)) a) x ms
arrivals_summed x [] a = refl
arrivals_summed x (m ∷ ms) a = let r = arrivals_summed x ms a in let e = coefficient-append (each_with (amount x m) (destinations m)) (arrivals x ms) a in omega (arith, ints)

places_summed : (ms : List Move) (a : ℕ) → coefficient (places ms) a ≡ int_sum_by (λ m. when_same m.at a (pos 1)) ms
places_summed [] a = refl
places_summed (m ∷ ms) a = let r = places_summed ms a in omega (arith, ints)

arrived_summed : (ms : List Move) (a : ℕ) → coefficient (arrived ms) a ≡ int_sum_by (λ m. coefficient (each_with (pos 1) (destinations m)) a) ms
arrived_summed [] a = refl
arrived_summed (m ∷ ms) a = let r = arrived_summed ms a in let e = coefficient-append (each_with (pos 1) (destinations m)) (arrived ms) a in omega (arith, ints)

each_with-zero : (ds : List ℕ) (a : ℕ) → coefficient (each_with (pos 0) ds) a ≡ pos 0
each_with-zero [] a = refl
each_with-zero (d ∷ ds) a = let r = each_with-zero ds a in let e = when_same-zero d a in omega (arith, ints)

each_with-add : (j k : ℕ) (ds : List ℕ) (a : ℕ) → coefficient (each_with (pos (j + k)) ds) a ≡ coefficient (each_with (pos j) ds) a +ℤ coefficient (each_with (pos k) ds) a
each_with-add j k [] a = refl
each_with-add j k (d ∷ ds) a = let r = each_with-add j k ds a in let e = when_same-add d a j k in omega (arith, ints)

-- the tally's counts are those of the trace
tally_places : (ms trace : List Move) (vs : List Visit) → AreAscending ms → Traces ms trace vs → (a : ℕ) → count (tally vs) ms a ≡ coefficient (places trace) a
tally_places ms trace vs ascending t a =
    departures_summed (tally vs) ms a
    ∙ (traced (λ m w. when_same m.at a w) (λ m. when_same-zero m.at a) (λ m j k. when_same-add m.at a j k) ms trace vs (ascending_distinct ms ascending) t
    ∙ sym (places_summed trace a))

visits_places : (ms trace : List Move) (vs : List Visit) → Traces ms trace vs → (a : ℕ) → visit_count vs a ≡ coefficient (places trace) a
visits_places ms [] [] t a = refl
visits_places ms [] (v ∷ vs) t a = absurd t
visits_places ms (m ∷ trace) [] t a = absurd t
visits_places ms (m ∷ trace) (v ∷ vs) t a =
    let r = visits_places ms trace vs t.3 a in
    let e = ap (λ b. when_same b a (pos 1)) t.1 in omega (arith, ints)

pub tally_visits : (ms trace : List Move) (vs : List Visit) → AreAscending ms → Traces ms trace vs → (a : ℕ) → visit_count vs a ≡ count (tally vs) ms a
tally_visits ms trace vs ascending t a = visits_places ms trace vs t a ∙ sym (tally_places ms trace vs ascending t a)

-- a run that ends by the first move of the trace, with no call left, is conserved
pub tally_conserved : (entry : ℕ) (ms trace : List Move) (m : Move) (vs : List Visit) (pc : ℕ) → AreAscending ms → Traces ms (m ∷ trace) vs → IsBalanced entry trace pc [] → m.at ≡ pc → destinations m ≡ [] → IsConserved entry 1 (tally vs) ms
tally_conserved entry ms trace m vs pc ascending t b at ends a =
    let distinct = ascending_distinct ms ascending in
    let out = tally_places ms (m ∷ trace) vs ascending t a in
    let in0 = arrivals_summed (tally vs) ms a in
    let in1 = traced (λ m w. coefficient (each_with w (destinations m)) a) (λ m. each_with-zero (destinations m) a) (λ m j k. each_with-add j k (destinations m) a) ms (m ∷ trace) vs distinct t in
    let in2 = arrived_summed (m ∷ trace) a in
    let e0 = b a in
    let e1 = ap (λ b. when_same b a (pos 1)) at in
    let e3 = ap (λ ds. coefficient (each_with (pos 1) ds) a) ends in
    let e4 = coefficient-append (each_with (pos 1) (destinations m)) (arrived trace) a in
    omega (arith, ints)

-- the price of a trace
abbrev pub trace_cost : (Move → ℕ) → List Move → ℕ
trace_cost price [] = 0
trace_cost price (m ∷ ms) = price m + trace_cost price ms

trace_costs : (price : Move → ℕ) (ms : List Move) → int_sum_by (λ m. pos 1 *ℤ pos (price m)) ms ≡ pos (trace_cost price ms)
trace_costs price [] = refl
trace_costs price (m ∷ ms) = let r = trace_costs price ms in omega (arith, ints)

-- the value of the tally is the cost of the trace
pub tally_value : (price : Move → ℕ) (ms trace : List Move) (vs : List Visit) → AreAscending ms → Traces ms trace vs → total (λ m. pos (price m)) (tally vs) ms ≡ pos (trace_cost price trace)
tally_value price ms trace vs ascending t =
    traced (λ m w. w *ℤ pos (price m)) (λ m. zero-*ℤ (pos (price m))) (λ m j k. add-mul (pos j) (pos k) (pos (price m))) ms trace vs (ascending_distinct ms ascending) t
    ∙ trace_costs price trace
