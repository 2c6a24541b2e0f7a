-- The claims on the loops of a program can be kept, and none of their headers is a jump back.
use Rattle.std.proofs.Common.{◌≡◌, ◌≢◌, ⊎_elim, ℕ, zero, suc, ◌<◌, ◌≤◌, Bool, true, false, List, [], ◌∷◌, map, Contains, refl, sym, ap, ◌∙◌, subst, arith}
use Rattle.std.specs.Prelude.{◌==◌, ◌||◌, All, AllPairs, slice_index_or}
use Rattle.std.proofs.lemmas.Bool.{cases_eq, cases_lt, false≢true}
use Rattle.std.proofs.lemmas.Bool.Decides.{nat_tests}
use Rattle.std.proofs.lemmas.List.{get_or_default}
use Rattle.std.proofs.lemmas.List.Elements.{All-contains, All-head, All-tail, All-weaker}
use Rattle.rv_core.specs.Images.{Image}
use Rattle.code_flow_system.specs.declared.claims.LoopClaim.{LoopClaim}
use Rattle.code_flow_system.specs.declared.shapes.LoopShape.{LoopShape}
use Rattle.code_flow_system.specs.Moves.{Code, code_of}
use Rattle.code_flow_system.specs.Shapes.{is_back}
use Rattle.code_flow_system.specs.Systems.{System}
use Rattle.asm_graphs.specs.Graphs.{Graph}
use Rattle.asm_graphs.specs.Laid.{last_of}
use Rattle.asm_items.specs.Placings.{start_of}
use Rattle.asm_graphs.proofs.RangeLemmas.{behind, header_in, is_long, known_start, latch_in, ranged, upward}
use Rattle.low_ir.specs.Code.{Loop}
use Rattle.low_ir.specs.Formed.{AreNested, IsIn, IsLoop}
use Rattle.asm_program.specs.Functions.{function_in, graph_of, loop_of, no_function}
use Rattle.asm_program.proofs.GraphLemmas.{function_at, with_loops}
use Rattle.claims_definition.specs.ClaimLaws.{IsClaimOf}
use Rattle.claims_definition.specs.Listed.{Laid, claims_of, loops_of, placing}
use Rattle.claims_definition.proofs.Claimed.{are_claims}
use Rattle.claims_bounds.specs.Flows.{HasFlows}
use Rattle.claims_definition.specs.Shapes.{AreShaped}
use Rattle.path_fit.specs.Loops.{HeadsOwnLoop}
use Rattle.path_places.proofs.FunctionLemmas.{is_back_at}
use Rattle.path_flows.specs.CountLaws.{HasBounds}
use Rattle.claims_bounds.specs.Bounds.{IsBounded}
use Rattle.low_ir.specs.Turns.{CanTurn}

same_test : (a b : ℕ) → (a == b) ≡ true → a ≡ b
same_test a b t = grind (arith, nat_tests, t)

contains_map : {A B : Type 0} (f : A → B) (xs : List A) (x : A) → Contains xs x → Contains (map f xs) (f x)
contains_map f [] x (n, lt, e) = absurd (omega arith)
contains_map f (y ∷ xs) x (zero, lt, e) = (0, omega arith, ap f e)
contains_map f (y ∷ xs) x (suc n, lt, e) = let r = contains_map f xs x (n, omega arith, e) in (suc r.0, omega (arith, r.1), r.2)

-- where a loop's header lies in another one, or in the loop itself, it is no latch
below_latch : (ks : List Loop) → AllPairs AreNested ks → (k m : Loop) → Contains ks k → Contains ks m → k.header < k.latch → IsIn m k.header → k.header < m.latch
below_latch ks pairs k m (i, il, ie) (j, jl, je) less inside =
    ⊎_elim
    (λ (same : i ≡ j).
    let one : k ≡ m = sym ie ∙ ap (λ n. slice_index_or ks n k) same ∙ get_or_default ks j k m jl ∙ je in
    let at : k.latch ≡ m.latch = ap (λ (x : Loop). x.latch) one in
    omega (arith, less, at))
    (λ (other : i ≢ j).
    ⊎_elim
    (λ (first : i < j).
    let nested : AreNested k m = subst (λ x. AreNested x m) ie (subst (AreNested (slice_index_or ks i k)) (get_or_default ks j k m jl ∙ je) (pairs i j k first jl)) in
    let whole = nested.1 inside in
    let inner = whole.1 in
    omega (arith, less, inner))
    (λ (later : j ≤ i).
    let nested : AreNested m k = subst (λ x. AreNested x k) je (subst (AreNested (slice_index_or ks j m)) (get_or_default ks i m k il ∙ ie) (pairs j i m (omega (arith, later, other)) il)) in
    let whole = nested.0 inside in
    let inner = whole.1 in
    omega (arith, less, inner))
    (cases_lt i j))
    (cases_eq i j)

-- a jump back is that of a claim
back_claim : (P : LoopClaim → Type 0) (cs : List LoopClaim) (ss : List LoopShape) (a : ℕ) → All P cs → AreShaped cs ss → is_back ss a ≡ true → (d : LoopClaim) × P d × (d.back ≡ a)
back_claim P [] [] a all h e = absurd (false≢true e)
back_claim P [] (s ∷ ss) a all h e = absurd h
back_claim P (c ∷ cs) [] a all h e = absurd h
back_claim P (c ∷ cs) (s ∷ ss) a all h e = by_test (s.back == a) refl e (back_claim P cs ss a (All-tail P c cs all) h.1)
  where
    Found : Type 0
    Found = (d : LoopClaim) × P d × (d.back ≡ a)

    by_test : (t : Bool) → (s.back == a) ≡ t → (t || is_back ss a) ≡ true → (is_back ss a ≡ true → Found) → Found
    by_test true t e later = let k = h.0 in (c, All-head P c cs all, sym k.back ∙ same_test s.back a t)
    by_test false t e later = later e

-- a shape is that of a claim
claim_at : (cs : List LoopClaim) (ss : List LoopShape) (s : LoopShape) → AreShaped cs ss → Contains ss s → (c : LoopClaim) × Contains cs c × (s.header ≡ c.header)
claim_at cs [] s h (i, lt, e) = absurd (omega (arith, lt))
claim_at [] (x ∷ ss) s h i = absurd h
claim_at (c ∷ cs) (x ∷ ss) s h (zero, lt, e) = (c, (zero, omega arith, refl), sym (ap (λ (y : LoopShape). y.header) e) ∙ h.0.header)
claim_at (c ∷ cs) (x ∷ ss) s h (suc i, lt, e) = later (claim_at cs ss s h.1 (i, omega (arith, lt), e))
  where
    later : ((d : LoopClaim) × Contains cs d × (s.header ≡ d.header)) → (d : LoopClaim) × Contains (c ∷ cs) d × (s.header ≡ d.header)
    later r = (r.0, (suc r.1.0, omega (arith, r.1.1), r.1.2), r.2)

module _ (l : Laid) (image : Image) (s : System) (has : HasFlows l image s) where
  abbrev g : Graph
  g = graph_of l.memory l.program

  abbrev code : Code
  code = code_of image (claims_of l)

  -- the header of a loop is no jump back
  apart : (f h : ℕ) (k m : Loop) → Contains (function_in l.program f).loops k → Contains (function_in l.program h).loops m → start_of (placing l) f k.header ≡ last_of (placing l) h m.latch → ⊥
  apart f h k m here there same =
      let program = has.settled.program in
      let sh = has.laid.shaped in
      let laid = has.laid.laid in
      let f_low = with_loops l.memory l.program program f k here in
      let h_low = with_loops l.memory l.program program h m there in
      let here_g = contains_map loop_of (function_in l.program f).loops k here in
      let there_g = contains_map loop_of (function_in l.program h).loops m there in
      let in_f : f < g.functions = omega (arith, f_low) in
      let in_h : h < g.functions = omega (arith, h_low) in
      let header = header_in g (placing l) code sh laid f (loop_of k) here_g in
      let latch = latch_in g (placing l) code sh laid h (loop_of m) there_g in
      let range = sh.range h (loop_of m) there_g in
      let up = upward g (placing l) code sh laid h m.header m.latch in_h range latch in
      let latch_long = is_long g (placing l) code sh laid h m.latch in_h latch in
      let known = known_start g (placing l) code sh laid f k.header in_f header in
      let r = ranged g (placing l) code sh laid (start_of (placing l) f k.header) false f k.header h (loop_of m) in_h there_g known (omega (arith, up, latch_long, same)) (omega (arith, same)) in
      let there_f : Contains (function_in l.program f).loops m = subst (λ n. Contains (function_in l.program n).loops m) (sym r.0) there in
      let formed = function_at l.memory l.program program f f_low in
      let loop = All-contains (IsLoop (function_in l.program f)) (function_in l.program f).loops k formed.loops here in
      let below = below_latch (function_in l.program f).loops formed.nested k m here there_f loop.latch (r.1, r.2) in
      let latch_f : m.latch < g.blocks f = subst (λ n. m.latch < g.blocks n) (sym r.0) latch in
      let before = behind g (placing l) code sh laid f k.header m.latch in_f below latch_f in
      let long = is_long g (placing l) code sh laid f k.header in_f header in
      let at : last_of (placing l) f m.latch ≡ last_of (placing l) h m.latch = ap (λ n. last_of (placing l) n m.latch) r.0 in
      let long_f = is_long g (placing l) code sh laid f m.latch in_f latch_f in
      omega (arith, before, long, same, at, long_f)

  no_back : (ls : List LoopShape) → AreShaped (loops_of l) ls → (c : LoopClaim) → Contains (loops_of l) c → is_back ls c.header ≡ true → ⊥
  no_back ls shaped c among e =
      let each = (are_claims l has.settled).each in
      let own = All-contains (IsClaimOf l) (loops_of l) c each among in
      let d = back_claim (IsClaimOf l) (loops_of l) ls c.header each shaped e in
      let other = d.1 in
      let header : c.header ≡ start_of (placing l) own.function own.loop.header = ap (λ (x : LoopClaim). x.header) own.is in
      let back : d.0.back ≡ last_of (placing l) other.function other.loop.latch = ap (λ (x : LoopClaim). x.back) other.is in
      apart own.function other.function own.loop other.loop own.there other.there (sym header ∙ sym d.2 ∙ back)

  pub backs_apart : (ls : List LoopShape) → AreShaped (loops_of l) ls → All (λ (k : LoopShape). HeadsOwnLoop ls k.back) ls
  backs_apart ls shaped = λ i d lt j e below shared.
      let c = claim_at (loops_of l) ls (slice_index_or ls j e) shaped (j, below, get_or_default ls j (slice_index_or ls j e) e below) in
      absurd (no_back ls shaped c.0 c.1 (subst (λ a. is_back ls a ≡ true) (sym shared ∙ c.2) (is_back_at ls (slice_index_or ls i d) (i, lt, get_or_default ls i (slice_index_or ls i d) d lt))))

  one_bound : IsBounded l.program → (c : LoopClaim) → IsClaimOf l c → HasBounds c
  one_bound h c own =
      let f = own.function in
      let f_low = with_loops l.memory l.program has.settled.program f own.loop own.there in
      let turns : All CanTurn (function_in l.program f).loops = h.turns f no_function f_low in
      let can = All-contains CanTurn (function_in l.program f).loops own.loop turns own.there in
      subst HasBounds (sym own.is) can

  pub bounds : IsBounded l.program → All HasBounds (loops_of l)
  bounds h = All-weaker (IsClaimOf l) HasBounds (one_bound h) (loops_of l) (are_claims l has.settled).each
