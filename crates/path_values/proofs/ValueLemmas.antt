-- What is left beside a certificate without multipliers of never claims is what is left beside those of loops.
use Rattle.std.proofs.Common.{◌≡◌, ℕ, zero, suc, ◌*◌, ◌^◌, ◌<◌, ℤ, pos, ◌+ℤ◌, ◌-ℤ◌, ◌*ℤ◌, arith, refl, ap, ◌∙◌, List, [], ◌∷◌, ◌++◌, length, get_or, All, Option, Some, None, Bool, true, false}
use Rattle.std.specs.Prelude.{◌==◌, nat_le, if◌then◌else◌}
use Rattle.std.proofs.Math.ListN.{replicate}
use Rattle.std.proofs.Math.IntN.{zero-*ℤ}
use Rattle.std.proofs.lemmas.Bool.Decides.{nat_tests}
use Rattle.std.proofs.lemmas.Int.{ints}
use Rattle.std.proofs.lemmas.List.Elements.{All-head, All-tail}
use Rattle.frac128.specs.Terms.{Terms, int_sum_by, coefficient}
use Rattle.frac128.proofs.TermsLemmas.{int_sum_by-append}
use Rattle.rv_core.specs.Table.{Table}
use Rattle.code_flow_lookup.specs.Runs.{those_at}
use Rattle.code_flow_system.specs.declared.claims.Never.{Never}
use Rattle.code_flow_system.specs.declared.claims.LoopClaim.{LoopClaim}
use Rattle.code_flow_system.specs.declared.claims.FactClaim.{FactClaim}
use Rattle.code_flow_system.specs.declared.moves.Move.{Move}
use Rattle.code_flow_system.specs.Claims.{Claims}
use Rattle.code_flow_system.specs.Systems.{System}
use Rattle.code_flow_system.specs.Certificates.{Limit, never_limits, loop_limits, fact_limits, limits, held, fall, row_size, potential, scaled_price, IsNarrow}
use Rattle.loop_walks.specs.declared.step.Pair.{Pair}
use Rattle.loop_walks.specs.Walks.{larger}
use Rattle.path_places.specs.Duals.{Values, owed, most_owed, both_of, potentials_of, owe_of, never_bounds, loop_bounds}
use Rattle.path_values.specs.Owed.{owed_by, larger_of, most_by, owe_at, cons_of, nevers_by, and_more, loops_by}
use Rattle.path_values.specs.Plain.{plain_of}
use Rattle.path_values.specs.Laws.{plain_by, MultipliersAre}
use Rattle.code_flow_system.specs.Flows.{price}
use Rattle.code_flow_system.specs.MoveCosts.{move_cost}

-- never claims hold nothing
nothing_held : (cs : List Never) (n : ℕ) (a : ℕ) → held (never_limits cs (replicate n (pos 0))) a ≡ pos 0
nothing_held [] n a = refl
nothing_held (c ∷ cs) zero a = refl
nothing_held (c ∷ cs) (suc n) a = let r = nothing_held cs n a in let z = zero-*ℤ (coefficient ((c.at, pos 1) ∷ []) a) in omega (arith, ints)

no_facts : (fs : List FactClaim) → fact_limits fs [] ≡ []
no_facts [] = refl
no_facts (f ∷ fs) = refl

pub plain_holds : (claims : Claims) (ts : Terms) (ps : List Pair) (a : ℕ) → held (limits claims (plain_of claims ts ps)) a ≡ held (loop_limits claims.loops (both_of ps)) a
plain_holds claims ts ps a =
    let f : Limit → ℤ = λ l. l.by *ℤ coefficient l.terms a in
    let x = int_sum_by-append f (never_limits claims.nevers (replicate (length claims.nevers) (pos 0))) (loop_limits claims.loops (both_of ps) ++ fact_limits claims.facts []) in
    let y = int_sum_by-append f (loop_limits claims.loops (both_of ps)) (fact_limits claims.facts []) in
    let z = ap (int_sum_by f) (no_facts claims.facts) in
    let n = nothing_held claims.nevers (length claims.nevers) a in
    omega (arith, ints)

module _ (price price' : Move → ℤ) (p : ℕ → ℤ) (ls ls' : List Limit) (same : (a : ℕ) → held ls a ≡ held ls' a) where
  owed_same : (m : Move) → price m ≡ price' m → owed price p ls m ≡ owed price' p ls' m
  owed_same m e = ap (λ (z : ℤ). z -ℤ (fall p m +ℤ held ls m.at)) e ∙ ap (λ (z : ℤ). price' m -ℤ (fall p m +ℤ z)) (same m.at)

  -- where no row is wide
  most_same : (ms : List Move) (a : ℕ) → All (λ m. IsNarrow (row_size price p ls m)) ms → All (λ m. price m ≡ price' m) ms → most_by price p ls (those_at (λ (m : Move). m.at) a ms) ≡ Some (most_owed price' p ls' ms a)
  most_same [] a n e = refl
  most_same (m ∷ ms) a n e = by_test (m.at == a) (most_same ms a (All-tail (λ k. IsNarrow (row_size price p ls k)) m ms n) (All-tail (λ k. price k ≡ price' k) m ms e))
    where
      here : owed_by price p ls m ≡ Some (owed price' p ls' m)
      here = ap (λ (t : Bool). if t then None else Some (owed price p ls m)) (narrow (2 ^ 126) (row_size price p ls m) (All-head (λ k. IsNarrow (row_size price p ls k)) m ms n)) ∙ ap Some (owed_same m (All-head (λ k. price k ≡ price' k) m ms e))
        where
          narrow : (w size : ℕ) → size < w → nat_le w size ≡ false
          narrow w size h = grind (arith, nat_tests)

      by_test : (t : Bool) → most_by price p ls (those_at (λ (k : Move). k.at) a ms) ≡ Some (most_owed price' p ls' ms a) →
          most_by price p ls (if t then m ∷ those_at (λ (k : Move). k.at) a ms else those_at (λ (k : Move). k.at) a ms) ≡ Some (if t then larger (owed price' p ls' m) (most_owed price' p ls' ms a) else most_owed price' p ls' ms a)
      by_test true r = ap (λ (o : Option ℤ). larger_of o (most_by price p ls (those_at (λ (k : Move). k.at) a ms))) here ∙ ap (larger_of (Some (owed price' p ls' m))) r
      by_test false r = r

-- what is left at an address, at any prices that are the costs of the moves
pub owe_is : (t : Table) (s : System) (price : Move → ℤ) (x : Values) → let c = plain_of s.claims (potentials_of s.moves x.worths s.moves) x.pairs in
    All (λ m. IsNarrow (row_size (scaled_price t s c) (potential c) (limits s.claims c) m)) s.moves → All (λ m. scaled_price t s c m ≡ price m) s.moves → (a : ℕ) → owe_at t s c a ≡ Some (owe_of s price x a)
owe_is t s price x narrow same a =
    let c = plain_of s.claims (potentials_of s.moves x.worths s.moves) x.pairs in
    most_same (scaled_price t s c) price (potential c) (limits s.claims c) (loop_limits s.claims.loops (both_of x.pairs)) (plain_holds s.claims (potentials_of s.moves x.worths s.moves) x.pairs) s.moves a narrow same

module _ (owe : ℕ → Option ℤ) (left : ℕ → ℤ) (is : (a : ℕ) → owe a ≡ Some (left a)) where
  pub nevers_are : (cs : List Never) → nevers_by owe cs ≡ Some (never_bounds left cs)
  nevers_are [] = refl
  nevers_are (c ∷ cs) = ap (λ (o : Option ℤ). cons_of o (nevers_by owe cs)) (is c.at) ∙ ap (cons_of (Some (left c.at))) (nevers_are cs)

  pub loops_are : (cs : List LoopClaim) (ps : List Pair) → loops_by owe cs ps ≡ Some (loop_bounds left cs ps)
  loops_are [] ps = refl
  loops_are (c ∷ cs) [] = refl
  loops_are (c ∷ cs) (p ∷ ps) = ap (λ (o : Option (ℤ × ℤ)). cons_of o (loops_by owe cs ps)) (by_test (c.max == 0)) ∙ ap (cons_of (Some (p.least, p.most +ℤ (if c.max == 0 then left c.header else pos 0)))) (loops_are cs ps)
    where
      by_test : (t : Bool) → (if t then and_more p (owe c.header) else Some (p.least, p.most)) ≡ Some (p.least, p.most +ℤ (if t then left c.header else pos 0))
      by_test true = ap (and_more p) (is c.header)
      by_test false = let e : p.most ≡ p.most +ℤ pos 0 = omega (arith, ints) in ap (λ (z : ℤ). Some (p.least, z)) e

pub multipliers_of : (t : Table) (s : System) → MultipliersAre t s
multipliers_of t s x narrow =
    let is = owe_is t s (price t s) x narrow (λ k d lt. one_times (move_cost t s (get_or s.moves k d))) in (
      nevers_are (owe_at t s (plain_by s x)) (owe_of s (price t s) x) is s.claims.nevers,
      loops_are (owe_at t s (plain_by s x)) (owe_of s (price t s) x) is s.claims.loops x.pairs,
    )
  where
    one_times : (n : ℕ) → pos (n * 1) ≡ pos n
    one_times n = ap pos (omega arith)
