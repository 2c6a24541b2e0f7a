-- No loose flow of an image of laid code has a total above its unit times what the code is worth.
use Rattle.std.proofs.Common.{◌≡◌, ℕ, ℤ, pos, ◌+ℤ◌, ◌*ℤ◌, ◌≤ℤ◌, Bool, true, false, List, [], ◌∷◌, All, Contains, zero, suc, inl, sym, ap, ◌∙◌, subst, arith}
use Rattle.std.specs.Prelude.{◌==◌, if◌then◌else◌}
use Rattle.std.proofs.lemmas.Bool.Decides.{nat_tests}
use Rattle.std.proofs.lemmas.Int.{ints}
use Rattle.std.proofs.lemmas.List.Elements.{All-weaker, All-contains, All-contains_itself}
use Rattle.frac128.specs.Terms.{coefficient}
use Rattle.frac128.proofs.SignedLemmas.{mul-le}
use Rattle.rv_core.specs.Images.{Image}
use Rattle.code_flow_system.specs.declared.moves.Move.{Move}
use Rattle.code_flow_system.specs.Claims.{Claims, flaws}
use Rattle.code_flow_system.specs.Moves.{Code, code_of}
use Rattle.code_flow_system.specs.Reach.{IsReached}
use Rattle.code_flow_system.specs.Systems.{System, moves_from}
use Rattle.code_flow_system.specs.Counts.{Amounts, total}
use Rattle.code_flow_system.specs.Loose.{IsLoose}
use Rattle.asm_items.specs.Placings.{Placing, start_of}
use Rattle.asm_graphs.specs.Graphs.{Graph}
use Rattle.asm_graphs.proofs.ReachedLemmas.{reached}
use Rattle.loop_prices.specs.LoopPrices.{Worths, IsPaid, starts, BoundsLooseFlows}
use Rattle.loop_prices.proofs.LoopLemmas.{bounds_loose_flows}
use Rattle.asm_prices.specs.Worths.{Prices, AreBounds, IsPriced, LooseFlowsAreBounded}
use Rattle.asm_prices.proofs.ValueLemmas.{places, places_positive}
use Rattle.asm_prices.proofs.TurnLemmas.{Ascend, no_flaws, claims_ascend, starts_none}
use Rattle.asm_prices.proofs.PaidLemmas.{turns, is_paid, entry_starts}

-- a move is among those of its address
among_own : (ms : List Move) (m : Move) → Contains ms m → Contains (moves_from ms m.at) m
among_own [] m (n, lt, e) = absurd (omega arith)
among_own (x ∷ ms) m (zero, lt, e) =
    let at : x.at ≡ m.at = ap (λ (y : Move). y.at) e in
    let test : (x.at == m.at) ≡ true = grind (arith, nat_tests) in
    subst (λ b. Contains (if b then x ∷ moves_from ms m.at else moves_from ms m.at) m) (sym test) (0, omega arith, e)
among_own (x ∷ ms) m (suc n, lt, e) = by_test (x.at == m.at) (among_own ms m (n, omega arith, e))
  where
    by_test : (b : Bool) → Contains (moves_from ms m.at) m → Contains (if b then x ∷ moves_from ms m.at else moves_from ms m.at) m
    by_test true (j, less, f) = (suc j, omega arith, f)
    by_test false h = h

all_of : {A : Type 0} (P : A → Type 0) (xs : List A) → ((x : A) → Contains xs x → P x) → All P xs
all_of P xs f = All-weaker (Contains xs) P f xs (All-contains_itself xs)

module _ (g : Graph) (l : Placing) (main : ℕ) (image : Image) (claims : Claims) (s : System) (p : Prices) (h : IsPriced g l main image claims s p) where
  abbrev c : Code
  c = code_of image claims

  bounds : AreBounds g l p.bounds s.claims.loops
  bounds = subst (λ (d : Claims). AreBounds g l p.bounds d.loops) (sym h.system.same_claims) h.bounds

  up : Ascend s.claims.loops
  up = subst (λ (d : Claims). Ascend d.loops) (sym h.system.same_claims) (claims_ascend claims (no_flaws (flaws claims) (λ n e. h.system.no_bad n (inl e))))

  abbrev worths : Worths
  worths = record { places = places g l p; turns = turns g l (code_of image claims) h.laid.shaped h.laid.laid p h.worths s.claims.loops bounds up }

  move_paid : (price : Move → ℤ) (m : Move) → Contains s.moves m → price m ≤ℤ pos (p.of m.at) → IsPaid price s.claims.loops worths m
  move_paid price m has cheap =
      let r = subst (λ e. IsReached (code_of image claims) e m.at) h.laid.entry (h.system.reached m has) in
      let w = reached g l (code_of image claims) h.laid.shaped h.laid.laid main h.laid.there r.0 m.at r.1 in
      let own = subst (λ ms. Contains ms m) (h.system.own m.at (h.system.reached m has)) (among_own s.moves m has) in
      is_paid g l (code_of image claims) h.laid.shaped h.laid.laid p h.worths s.claims.loops bounds up (price m) m.at w.low w.f w.b m w.known own cheap

  pub bounded : BoundsLooseFlows s → (price : Move → ℤ) → All (λ m. price m ≤ℤ pos (p.of m.at)) s.moves → (unit : ℕ) (x : Amounts) → IsLoose s unit x → total price x s.moves ≤ℤ (pos unit *ℤ pos (p.worth main))
  bounded law price cheap unit x loose =
      let at : s.entry ≡ start_of l main 0 = h.system.same_entry ∙ h.laid.entry in
      let e = entry_starts g l (code_of image claims) h.laid.shaped h.laid.laid p h.worths s.claims.loops bounds up main h.laid.there in
      let none = starts_none s.claims.loops worths.turns (start_of l main 0) e.1 in
      let place = e.0 in
      let q = ap (coefficient (places g l p)) at in
      let t = ap (starts s.claims.loops worths.turns) at in
      let r = law price worths
      (record {
        positive = places_positive g l p;
        moves = all_of (IsPaid price s.claims.loops worths) s.moves (λ m has. move_paid price m has (All-contains (λ m. price m ≤ℤ pos (p.of m.at)) s.moves m cheap has));
      })
      unit x loose in
      let k = mul-le unit (coefficient (places g l p) s.entry +ℤ starts s.claims.loops worths.turns s.entry) (pos (p.worth main)) (omega (arith, ints)) in
      omega (arith, ints)

pub loose_flows_bounded : LooseFlowsAreBounded
loose_flows_bounded g l main image claims s p h = bounded g l main image claims s p h (bounds_loose_flows s)
