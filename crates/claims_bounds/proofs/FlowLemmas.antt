-- A settled program with its claims is a laid program, whose loose flows have bounds.
use Rattle.std.proofs.Common.{◌≢◌, ℕ, zero, suc, ◌+◌, ◌^◌, ◌<◌, ◌≤◌, ℤ, pos, ◌+ℤ◌, ◌*ℤ◌, ◌≤ℤ◌, ◌<ℤ◌, Bool, true, false, List, [], ◌∷◌, map, All, Contains, ap, arith}
use lib.IntN.{*ℤ_comm}
use Rattle.std.specs.Prelude.{◌==◌, max, AllPairs, if◌then◌else◌}
use Rattle.std.proofs.lemmas.List.Elements.{All-nil, All-cons, All-weaker}
use Rattle.std.proofs.lemmas.List.Kept.{AllPairs-cons}
use Rattle.std.proofs.lemmas.Int.{ints}
use Rattle.frac128.proofs.SignedLemmas.{mul-lt}
use Rattle.rv_core.specs.declared.costs.Costs.{Costs}
use Rattle.rv_core.specs.Images.{Image}
use Rattle.rv_core.specs.Table.{table_of}
use Rattle.code_flow_system.specs.declared.claims.LoopClaim.{LoopClaim}
use Rattle.code_flow_system.specs.declared.moves.Move.{Move}
use Rattle.code_flow_system.specs.Counts.{Amounts, amount, count, total}
use Rattle.code_flow_system.specs.Systems.{System}
use Rattle.code_flow_system.specs.Loose.{most_turns}
use Rattle.asm_items.specs.Placings.{start_of}
use Rattle.asm_prices.specs.Worths.{LoopBound, BoundsLoop, AreBounds}
use Rattle.low_ir.specs.Code.{Loop}
use Rattle.low_ir.specs.Room.{weight}
use Rattle.asm_program.specs.Functions.{function_in, graph_of}
use Rattle.asm_program.proofs.GraphLemmas.{in_map, with_loops}
use Rattle.claims_definition.specs.Listed.{Laid, placing, loop_claim, loops_of, claims_of, places_of}
use Rattle.claims_definition.specs.ClaimLaws.{IsSettled, IsClaimOf, IsPlaceOf, Rise}
use Rattle.claims_definition.proofs.Claimed.{are_claims}
use Rattle.claims_definition.proofs.Marks.{places_hold}
use Rattle.asm_prices.specs.Bounds.{bound_of, bounds_of, IsLaidProgram, IsMarked, AreMarked}
use Rattle.asm_prices.proofs.ChosenLemmas.{chosen_has_code}
use Rattle.asm_prices.proofs.CountLemmas.{counts_below_weight}
use Rattle.asm_prices.proofs.ReachLemmas.{counts_below_reach}
use Rattle.asm_prices.proofs.ProgramValueLemmas.{moves_cost_few, values_below_weight}
use Rattle.claims_bounds.specs.Flows.{LoopsAreBounded, HasFlows, FlowsKeepBounds}

-- a header counts at least once
most_is : (n : ℕ) → (if n == 0 then 1 else n) ≤ max 1 n
most_is n = either (n == 0)
  where
    either : (b : Bool) → (if b then 1 else n) ≤ max 1 n
    either true = omega arith
    either false = omega arith

bound_among : (ls : List Loop) (k : Loop) → Contains ls k → Contains (map bound_of ls) (bound_of k)
bound_among [] k (n, lt, e) = absurd (omega arith)
bound_among (x ∷ ls) k (zero, lt, e) = (zero, omega arith, ap bound_of e)
bound_among (x ∷ ls) k (suc n, lt, e) = let r = bound_among ls k (n, omega arith, e) in (suc r.0, (let i = r.1 in omega arith), r.2)

module _ (l : Laid) (settled : IsSettled l) where
  bounds_loop : (c : LoopClaim) → IsClaimOf l c → BoundsLoop (graph_of l.memory l.program) (placing l) (bounds_of l.program) c
  bounds_loop c h =
      let f = h.function in
      let k = h.loop in
      let less = with_loops l.memory l.program settled.program f k h.there in
      let turns = ap most_turns h.is in
      let most = most_is k.most in
      record {
        function = f;
        bound = bound_of k;
        there = omega arith;
        among = bound_among (function_in l.program f).loops k h.there;
        header = ap (λ (x : LoopClaim). x.header) h.is;
        back = ap (λ (x : LoopClaim). x.back) h.is;
        most = omega arith;
      }

  pub bounded : AreBounds (graph_of l.memory l.program) (placing l) (bounds_of l.program) (loops_of l)
  bounded =
      let are = are_claims l settled in
      record {
        each = All-weaker (IsClaimOf l) (BoundsLoop (graph_of l.memory l.program) (placing l) (bounds_of l.program)) bounds_loop (loops_of l) are.each;
        every = λ f k less has.
            let x = in_map bound_of (function_in l.program f).loops k has in
            (loop_claim l f x.0, are.every f x.0 x.1, ap (λ (y : LoopBound). start_of (placing l) f y.loop.header) x.2);
      }

  is_marked : (mark a : ℕ) → IsPlaceOf l mark a → IsMarked l.program (placing l) mark a
  is_marked mark a h = record { function = h.function; block = h.block; marked = h.marked; is = h.is }

  pub marked : (mark : ℕ) → AreMarked l.program (placing l) mark (places_of l mark)
  marked mark =
      let h = places_hold l mark settled in
      record {
        each = All-weaker (IsPlaceOf l mark) (IsMarked l.program (placing l) mark) (is_marked mark) (places_of l mark) h.each;
        apart = apart 0 (places_of l mark) h.rise;
      }
    where
      above : (a b : ℕ) (xs : List ℕ) → a < b → Rise b xs → All (λ x. a ≢ x) xs
      above a b [] less h = All-nil (λ x. a ≢ x)
      above a b (x ∷ xs) less h = let from = h.0 in All-cons (λ x. a ≢ x) x xs (λ e. let z : ⊥ = omega arith in z) (above a (x + 4) xs (omega arith) h.1.1)

      apart : (a : ℕ) (xs : List ℕ) → Rise a xs → AllPairs (λ (b : ℕ) (c : ℕ). b ≢ c) xs
      apart a [] h = λ i j d p q. absurd (omega arith)
      apart a (x ∷ xs) h = AllPairs-cons (λ (b : ℕ) (c : ℕ). b ≢ c) x xs (above x (x + 4) xs (omega arith) h.1.1) (apart (x + 4) xs h.1.1)

pub loops_are_bounded : LoopsAreBounded
loops_are_bounded l settled = bounded l settled

is_laid : (l : Laid) (image : Image) (s : System) → HasFlows l image s → IsLaidProgram l.memory l.program (placing l) image (claims_of l) s
is_laid l image s h = record {
  code = chosen_has_code l.memory l.program l.rows h.settled.program h.words h.saved;
  laid = h.laid;
  system = h.system;
  bounds = bounded l h.settled;
}

-- the count of an address is a part of all counts
count_part : (x : Amounts) (ms : List Move) (a : ℕ) → count x ms a ≤ℤ total (λ k. pos 1) x ms
count_part x [] a = omega (arith, ints)
count_part x (m ∷ ms) a = by_test (m.at == a) (count_part x ms a)
  where
    by_test : (t : Bool) → count x ms a ≤ℤ total (λ k. pos 1) x ms → ((if t then amount x m else pos 0) +ℤ count x ms a) ≤ℤ ((amount x m *ℤ pos 1) +ℤ total (λ k. pos 1) x ms)
    by_test true r = omega (arith, ints)
    by_test false r = omega (arith, ints)

below : (unit w most : ℕ) (z sum : ℤ) → 0 < unit → w < most → z ≤ℤ sum → sum ≤ℤ (pos unit *ℤ pos w) → z <ℤ (pos unit *ℤ pos most)
below unit w most z sum some less part all =
    let a = mul-lt (pos w) (pos most) (pos unit) (omega (arith, ints, some)) (omega (arith, ints, less)) in
    let b = *ℤ_comm (pos w) (pos unit) in
    let c = *ℤ_comm (pos most) (pos unit) in omega (arith, ints, a, b, c, part, all)

pub flows_keep_bounds : (c : Costs) → FlowsKeepBounds (table_of c)
flows_keep_bounds c l image s h unit x loose =
    let laid = is_laid l image s h in
    let counts = counts_below_weight l.memory l.program (placing l) image (claims_of l) s laid unit x loose in
    let values = values_below_weight (table_of c) (moves_cost_few c) l.memory l.program (placing l) image (claims_of l) s laid unit x loose in
    record {
      counts = counts;
      few = λ light a. below unit (weight l.program) (2 ^ 49) (count x s.moves a) (total (λ k. pos 1) x s.moves) loose.positive light (count_part x s.moves a) counts;
      marks = λ mark. counts_below_reach l.memory l.program (placing l) image (claims_of l) s laid unit x loose mark (places_of l mark) (marked l h.settled mark);
      cycles = values.0;
      below = values.1;
    }
