-- Addresses that a flow counts alike are visited alike: a run keeps the restriction that says how its counts are to that of the entry.
use Rattle.std.proofs.Common.{◌≡◌, ℕ, zero, suc, inl, inr, ℤ, pos, ◌+ℤ◌, ◌*ℤ◌, ◌≤ℤ◌, ◌<ℤ◌, Bool, true, false, List, [], ◌∷◌, ◌++◌, None, refl, sym, ap, ◌∙◌, subst, arith}
use Rattle.std.specs.Prelude.{◌&&◌, not, slice_index_or}
use Rattle.std.proofs.lemmas.Int.{ints}
use Rattle.std.proofs.lemmas.Bool.{false≢true}
use Rattle.std.proofs.lemmas.Bool.Decides.{nat_tests}
use Rattle.std.proofs.lemmas.List.Elements.{All-head, All-tail, All-cons, All-nil}
use Rattle.frac128.specs.Terms.{coefficient, when_same}
use Rattle.frac128.proofs.SignedLemmas.{le_of_mul-le}
use Rattle.frac128.proofs.TermsLemmas.{coefficient-append, when_same-here}
use Rattle.wcc_base.specs.declared.compare.Compare.TheVariants.{Equal}
use Rattle.rv_core.specs.Images.{Image, AreLoadable}
use Rattle.rv_core.specs.Table.{Table}
use Rattle.rv_core.specs.Code.{decoded}
use Rattle.rv_core.specs.Runs.{Run, setup, mrun}
use Rattle.rv_core.proofs.Constancy.{mrun-fetched}
use Rattle.code_flow_system.specs.declared.claims.FactClaim.{FactClaim}
use Rattle.code_flow_system.specs.declared.moves.Move.{Move}
use Rattle.code_flow_system.specs.Claims.{Claims, is_aligned, exit_flaws, never_flaws, region_flaws, loop_flaws, fact_flaws}
use Rattle.code_flow_system.specs.Moves.{destinations}
use Rattle.code_flow_system.specs.Systems.{System, IsBad, IsSystemOf}
use Rattle.code_flow_system.specs.Counts.{Amounts, amount, each_with, arrivals, count, IsConserved, KeepsFact}
use Rattle.code_flow_system.specs.KeptRuns.{visit_count, tally, KeepsClaims, RunsAsFlow}
use Rattle.code_flow_system.proofs.RunLemmas.{runs_are_flows}
use Rattle.asm_backs.specs.Laws.{HasEnded}

-- the count of a is to that of the entry as these numbers are
abbrev in_ratio : (ℕ → ℤ) → ℕ → ℕ → FactClaim
in_ratio v e a = record { left = (a, v e) ∷ []; op = Equal; right = (e, v a) ∷ [] }

keeps_own : (v : ℕ → ℤ) (e a : ℕ) → KeepsFact v (in_ratio v e a)
keeps_own v e a = swapped (v e) (v a) where
  swapped : (x y : ℤ) → (x *ℤ y) +ℤ pos 0 ≡ (y *ℤ x) +ℤ pos 0
  swapped x y = omega (arith, ints)

cancelled : (x y c : ℤ) → pos 0 <ℤ c → x *ℤ c ≡ y *ℤ c → x ≡ y
cancelled x y c some same =
    let low = le_of_mul-le x y c some (subst (λ z. (x *ℤ c) ≤ℤ z) same (self (x *ℤ c))) in
    let high = le_of_mul-le y x c some (subst (λ z. (y *ℤ c) ≤ℤ z) (sym same) (self (y *ℤ c))) in
    omega (arith, ints, low, high)
  where
    self : (z : ℤ) → z ≤ℤ z
    self z = omega (arith, ints)

without_zero : (x y : ℤ) → x +ℤ pos 0 ≡ y +ℤ pos 0 → x ≡ y
without_zero x y e = omega (arith, ints, e)

-- what keeps both ratios, and is alike at both, has them alike
alike : (v n : ℕ → ℤ) (e a b : ℕ) → pos 0 <ℤ n e → KeepsFact n (in_ratio v e a) → KeepsFact n (in_ratio v e b) → n a ≡ n b → v a ≡ v b
alike v n e a b some first second same =
    cancelled (v a) (v b) (n e) some (without_zero (v a *ℤ n e) (v b *ℤ n e) (sym first ∙ ap (λ z. (v e *ℤ z) +ℤ pos 0) same ∙ second))

-- nothing negative arrives

at_least-when : (a b n : ℕ) → pos 0 ≤ℤ when_same a b (pos n)
at_least-when a b n = grind (arith, ints, nat_tests)

at_least-each : (n : ℕ) (ds : List ℕ) (a : ℕ) → pos 0 ≤ℤ coefficient (each_with (pos n) ds) a
at_least-each n [] a = omega (arith, ints)
at_least-each n (d ∷ ds) a = let r = at_least-each n ds a in let e = at_least-when d a n in omega (arith, ints)

at_least-arrivals : (x : Amounts) (ms : List Move) (a : ℕ) → pos 0 ≤ℤ coefficient (arrivals x ms) a
at_least-arrivals x [] a = omega (arith, ints)
at_least-arrivals x (m ∷ ms) a =
    let r = at_least-arrivals x ms a in
    let e = at_least-each (x m.at m.number) (destinations m) a in
    let f = coefficient-append (each_with (amount x m) (destinations m)) (arrivals x ms) a in
    omega (arith, ints)

-- the entry is counted
entry_counted : (entry : ℕ) (x : Amounts) (ms : List Move) → IsConserved entry 1 x ms → pos 0 <ℤ count x ms entry
entry_counted entry x ms conserved =
    let all = conserved entry in
    let here = when_same-here entry (pos 1) in
    let rest = at_least-arrivals x ms entry in
    omega (arith, ints)

-- with other claims behind the first ones, none is bad
no_flaw : (xs ys zs : List Bool) → ((m : ℕ) → slice_index_or (xs ++ zs) m false ≡ true → ⊥) → ((m : ℕ) → slice_index_or ys m false ≡ true → ⊥) → (m : ℕ) → slice_index_or (xs ++ ys) m false ≡ true → ⊥
no_flaw [] ys zs h k m e = k m e
no_flaw (x ∷ xs) ys zs h k zero e = h 0 e
no_flaw (x ∷ xs) ys zs h k (suc m) e = no_flaw xs ys zs (λ i. h (suc i)) k m e

-- whether each claim but an exit is bad by itself
abbrev behind_exits : Claims → List Bool
behind_exits c = never_flaws None c.nevers ++ (region_flaws None c.regions ++ (loop_flaws None c.loops ++ fact_flaws c.facts))

even_fact : (e a : ℕ) → is_aligned e ≡ true → is_aligned a ≡ true → not ((is_aligned a && true) && (is_aligned e && true)) ≡ false
even_fact e a even_e even_a = by_tests (is_aligned a) (is_aligned e) even_a even_e where
  by_tests : (x y : Bool) → x ≡ true → y ≡ true → not ((x && true) && (y && true)) ≡ false
  by_tests true true p q = refl
  by_tests true false p q = absurd (false≢true q)
  by_tests false y p q = absurd (false≢true p)

two_flaws : (x y : Bool) → x ≡ false → y ≡ false → (m : ℕ) → slice_index_or (x ∷ y ∷ []) m false ≡ true → ⊥
two_flaws x y p q zero e = false≢true (sym p ∙ e)
two_flaws x y p q (suc zero) e = false≢true (sym q ∙ e)
two_flaws x y p q (suc (suc m)) e = false≢true e

module _ (image : Image) (claims : Claims) (s : System) (sys : IsSystemOf image claims s) (loadable : AreLoadable image.segments) (t : Table) (input : List ℕ) (n : ℕ) (ended : HasEnded claims.exits (mrun (setup image t input) n)) (a b : ℕ) (even : is_aligned s.entry ≡ true)
    (even_a : is_aligned a ≡ true) (even_b : is_aligned b ≡ true) where
  abbrev run : Run
  run = mrun (setup image t input) n

  abbrev v : ℕ → ℤ
  v = visit_count run.visits

  -- the exits, and how the counts of both addresses are to that of the entry
  abbrev ratios : Claims
  ratios = record { exits = claims.exits; nevers = []; regions = []; loops = []; facts = in_ratio v s.entry a ∷ in_ratio v s.entry b ∷ [] }

  abbrev other : System
  other = record { entry = s.entry; claims = ratios; moves = s.moves }

  no_bad : (m : ℕ) → IsBad image ratios m → ⊥
  no_bad m (inl e) =
      no_flaw (exit_flaws None claims.exits) (fact_flaws ratios.facts) (behind_exits claims) (λ i h. sys.no_bad i (inl h))
      (two_flaws (flaw_of a) (flaw_of b) (even_fact s.entry a even even_a) (even_fact s.entry b even even_b)) m e
    where
      flaw_of : ℕ → Bool
      flaw_of c = not ((is_aligned c && true) && (is_aligned s.entry && true))
  no_bad m (inr h) = sys.no_bad m (inr (record { listed = h.listed; reached = h.reached; other = h.other }))

  is_system : IsSystemOf image ratios other
  is_system = record { same_entry = sys.same_entry; same_claims = refl; no_bad = no_bad; code = sys.code; ascending = sys.ascending; reached = sys.reached; own = sys.own }

  kept : KeepsClaims ratios run
  kept = record {
    value = ended.value;
    finished = ended.finished;
    counts = record {
      nevers = All-nil _;
      loops = All-nil _;
      facts = All-cons (KeepsFact v) (in_ratio v s.entry a) (in_ratio v s.entry b ∷ []) (keeps_own v s.entry a) (All-cons (KeepsFact v) (in_ratio v s.entry b) [] (keeps_own v s.entry b) (All-nil (KeepsFact v)));
    };
    accesses = λ i d less. All-nil _;
    returns = ended.returns;
    exit = ended.exit;
    none_left = ended.none_left;
  }

  abbrev flows : RunsAsFlow t other run
  flows = runs_are_flows image t other is_system (λ u i m at. ap decoded (mrun-fetched (setup image u i) m at loadable)) input n kept

  pub conserved : IsConserved s.entry 1 (tally run.visits) s.moves
  conserved = flows.flow.conserved

  pub visited_alike : count (tally run.visits) s.moves a ≡ count (tally run.visits) s.moves b → v a ≡ v b
  visited_alike same =
      let counts = count (tally run.visits) s.moves in
      let facts = flows.flow.claims.facts in
      let one = in_ratio v s.entry a in
      let two = in_ratio v s.entry b ∷ [] in
      alike v counts s.entry a b (entry_counted s.entry (tally run.visits) s.moves conserved) (All-head (KeepsFact counts) one two facts)
      (All-head (KeepsFact counts) (in_ratio v s.entry b) [] (All-tail (KeepsFact counts) one two facts)) same
