-- The listed flow has the amounts of the list, and is conserved.
use Rattle.std.proofs.Common.{◌≡◌, ◌≢◌, ℕ, zero, suc, ◌+◌, ◌<◌, ℤ, pos, ◌≤ℤ◌, arith, refl, sym, ap, ◌∙◌, subst, List, [], ◌∷◌, ◌++◌, length, Contains, All, inl, inr, Bool, true, false, cond, Option, Some, None, length-append}
use Rattle.std.specs.Prelude.{◌==◌, ◌&&◌}
use Rattle.std.proofs.lemmas.Int.{ints}
use Rattle.std.proofs.Math.ListN.{replicate}
use Rattle.std.proofs.lemmas.List.{length-replicate}
use Rattle.std.proofs.lemmas.Bool.Decides.{eqb_tells}
use Rattle.std.proofs.lemmas.List.Elements.{All-head, All-tail, All-contains}
use Rattle.frac128.specs.Terms.{coefficient, when_same}
use Rattle.code_flow_system.specs.declared.cert.Part.{Part}
use Rattle.code_flow_system.specs.declared.moves.Move.{Move}
use Rattle.code_flow_system.specs.declared.shapes.LoopShape.{LoopShape}
use Rattle.code_flow_system.specs.declared.shapes.Span.{Span}
use Rattle.code_flow_system.specs.Systems.{System, ComesBefore, AreAscending, has_moves}
use Rattle.code_flow_system.specs.Counts.{Amounts, count, inflow, IsConserved}
use Rattle.code_flow_system.specs.Certificates.{whole, listed}
use Rattle.code_flow_system.specs.Shapes.{onward, IsInOne}
use Rattle.loop_walks.specs.Walks.{worth_at}
use Rattle.path_places.specs.Places.{place_of}
use Rattle.path_places.specs.PlaceLaws.{IsReachedWhole}
use Rattle.path_places.proofs.PlaceLemmas.{place_below}
use Rattle.path_places.proofs.LoopLemmas.{has_of, onward_arrives, first_or}
use Rattle.path_places.proofs.FunctionLemmas.{move_of}
use Rattle.path_places.specs.Driver.{Prices, blank, functions_level}
use Rattle.path_places.proofs.DriverLemmas.{closed, numbered, zero_at}
use Rattle.path_flows.specs.Flows.{amounts_of, parts_of, first_flow, flow_from}
use Rattle.path_flows.specs.Opens.{AreOpenFunctions}
use Rattle.path_flows.specs.FlowLaws.{FlowsAreConserved}
use Rattle.path_flows.proofs.SumLemmas.{sum_if, begins_at, is_first, goes_to, calls_by, calls_to, AreAmounts, count_sum, arrivals_sum}
use Rattle.path_flows.proofs.AtLemmas.{target_reached}
use Rattle.path_flows.proofs.SystemLemmas.{IsGoing, flow_goes}

-- ---- the amounts of the listed flow

later_test : (m y : Move) → ComesBefore m y → (y.at == m.at) && (y.number == m.number) ≡ false
later_test m y h = elim (eqb_tells y.at m.at) [
  | inl e ↦ elim (eqb_tells y.number m.number) [
    | inl f ↦ absurd (elim h [ inl k ↦ let e1 = e.1 in omega (arith, k, e1) | inr k ↦ let k1 = k.1 in let f1 = f.1 in omega (arith, k1, f1) ])
    | inr f ↦ rw (e.0, f.0) refl
  ]
  | inr e ↦ rw e.0 refl
]

earlier_test : (m y : Move) → ComesBefore m y → (m.at == y.at) && (m.number == y.number) ≡ false
earlier_test m y h = elim (eqb_tells m.at y.at) [
  | inl e ↦ elim (eqb_tells m.number y.number) [
    | inl f ↦ absurd (elim h [ inl k ↦ let e1 = e.1 in omega (arith, k, e1) | inr k ↦ let k1 = k.1 in let f1 = f.1 in omega (arith, k1, f1) ])
    | inr f ↦ rw (e.0, f.0) refl
  ]
  | inr e ↦ rw e.0 refl
]

self_test : (a k : ℕ) → (a == a) && (k == k) ≡ true
self_test a k = elim (eqb_tells a a) [
  | inl e ↦ elim (eqb_tells k k) [ inl f ↦ rw (e.0, f.0) refl | inr f ↦ absurd (f.1 refl) ]
  | inr e ↦ absurd (e.1 refl)
]

-- the amount of a move that is listed before or isn't
listed_one : (m : Move) (u : ℕ) (ps : List Part) (a k : ℕ) (t : Bool) → ((m.at == a) && (m.number == k)) ≡ t → listed (cond (u == 0) ps (record { at = m.at; number = m.number; part = pos u } ∷ ps)) a k ≡ cond t u 0 + listed ps a k
listed_one m u ps a k t e = elim (eqb_tells u 0) [
  | inl z ↦ rw z.0 (nothing t z.1)
  | inr z ↦ rw z.0 (ap (λ b. cond b u 0 + listed ps a k) e)
]
  where
    nothing : (t : Bool) → u ≡ 0 → listed ps a k ≡ cond t u 0 + listed ps a k
    nothing true z = omega (arith, z)
    nothing false z = omega arith

listed_none : (ms : List Move) (us : List ℕ) (m : Move) → All (ComesBefore m) ms → listed (parts_of ms us) m.at m.number ≡ 0
listed_none [] us m h = refl
listed_none (x ∷ ms) [] m h = refl
listed_none (x ∷ ms) (u ∷ us) m h =
    let r = listed_none ms us m (All-tail (ComesBefore m) x ms h) in
    let e = listed_one x u (parts_of ms us) m.at m.number false (later_test m x (All-head (ComesBefore m) x ms h)) in omega (arith, r, e)

same_amounts : (x y : Amounts) (ms : List Move) (us : List ℕ) → ((m : Move) → Contains ms m → y m.at m.number ≡ x m.at m.number) → AreAmounts x ms us → AreAmounts y ms us
same_amounts x y [] us h a = tt
same_amounts x y (m ∷ ms) [] h a = absurd a
same_amounts x y (m ∷ ms) (u ∷ us) h a = (h m (zero, omega arith, refl) ∙ a.0, same_amounts x y ms us (λ k i. h k (suc i.0, omega (arith, i.1), i.2)) a.1)

pub listed_amounts : (ms : List Move) (us : List ℕ) → length us ≡ length ms → AreAscending ms → AreAmounts (listed (parts_of ms us)) ms us
listed_amounts [] us h up = tt
listed_amounts (m ∷ ms) [] h up = absurd (omega (arith, h))
listed_amounts (m ∷ ms) (u ∷ us) h up = (
  (let e = listed_one m u (parts_of ms us) m.at m.number true (self_test m.at m.number) in let z = listed_none ms us m up.0 in omega (arith, e, z)),
  same_amounts (listed (parts_of ms us)) (listed (parts_of (m ∷ ms) (u ∷ us))) ms us
      (λ k i. let e = listed_one m u (parts_of ms us) k.at k.number false (earlier_test m k (All-contains (ComesBefore m) ms k up.0 i)) in omega (arith, e))
      (listed_amounts ms us (omega (arith, h)) up.1),
)

-- ---- addresses that aren't reached

pub no_sum : (t : Move → Bool) (ms : List Move) (us : List ℕ) → ((m : Move) → Contains ms m → t m ≡ false) → sum_if t ms us ≡ 0
no_sum t [] us h = refl
no_sum t (m ∷ ms) [] h = refl
no_sum t (m ∷ ms) (u ∷ us) h = let r = no_sum t ms us (λ k i. h k (suc i.0, omega (arith, i.1), i.2)) in let e = ap (λ b. cond b u 0) (h m (zero, omega arith, refl)) in omega (arith, r, e)

not_equal : (a b : ℕ) → a ≢ b → (a == b) ≡ false
not_equal a b d = elim (eqb_tells a b) [ inl k ↦ absurd (d k.1) | inr k ↦ k.0 ]

differ : (t : Bool) → t ≡ true → t ≡ false → ⊥
differ true e f = cc
differ false e f = cc

module _ (s : System) (ls : List LoopShape) (ps : List Span) (whole : IsReachedWhole s ls ps) (q : Prices) where
  reached_not : (a b : ℕ) → has_moves s.moves a ≡ false → has_moves s.moves b ≡ true → b ≢ a
  reached_not a b h k e = differ (has_moves s.moves b) k (subst (λ c. has_moves s.moves c ≡ false) (sym e) h)

  goes_nowhere : (a : ℕ) → has_moves s.moves a ≡ false → (m : Move) → Contains s.moves m → goes_to a m ≡ false
  goes_nowhere a h m im = elim (first_or (onward m)) [
    | inl e ↦ ap (λ ds. is_first ds a) e
    | inr e ↦
        let there = closed s ls ps whole q m e.0 im (onward_arrives m.to m.behind e.0 (subst (λ ds. Contains ds e.0) (sym e.2) (zero, omega arith, refl))) in
        ap (λ ds. is_first ds a) e.2 ∙ not_equal e.0 a (reached_not a e.0 h there)
  ]

  calls_nothing : (a : ℕ) → has_moves s.moves a ≡ false → (m : Move) → Contains s.moves m → (to back : Option ℕ) → m.to ≡ to → m.behind ≡ back → calls_by to back a ≡ false
  calls_nothing a h m im None back e f = refl
  calls_nothing a h m im (Some t) None e f = refl
  calls_nothing a h m im (Some t) (Some b) e f = not_equal t a (reached_not a t h (target_reached s ls ps whole q m im t b e f))

  -- the functions of a system, done from nothing
  pub going : (least : ℤ) → AreOpenFunctions least s ls q (blank (length s.moves) q.low) ps → least ≤ℤ worth_at (functions_level s ls q (blank (length s.moves) q.low) ps).worths (place_of s.moves s.entry) →
      IsGoing s ls ps whole q least (blank (length s.moves) q.low) ps (functions_level s ls q (blank (length s.moves) q.low) ps) (flow_from s ls q (blank (length s.moves) q.low) ps (first_flow s))
  going least code wide = flow_goes s ls ps whole q least 0 (blank (length s.moves) q.low) ps (numbered s ls ps whole q 0 ps whole.fits.apart (λ x i. omega arith)) (λ r h. h) whole.fits.apart
      (λ x h o. zero_at (length s.moves + 1) (place_of s.moves x))
      (λ x h o. low_at (length s.moves) q.low (place_of s.moves x) (place_below s.moves x h))
      (let a = length-append (replicate (length s.moves) q.low) (pos 0 ∷ []) in let b = length-replicate (length s.moves) q.low in omega (arith, a, b))
      (let b = length-replicate (length s.moves + 1) (pos 0) in omega (arith, b)) code wide
    where
      low_at : (n : ℕ) (low : ℤ) (a : ℕ) → a < n → worth_at (replicate n low ++ pos 0 ∷ []) a ≡ low
      low_at zero low a lt = absurd (omega (arith, lt))
      low_at (suc n) low zero lt = refl
      low_at (suc n) low (suc a) lt = low_at n low a (omega (arith, lt))

  pub conserved : (us : List ℕ) (x : Amounts) → AreAmounts x s.moves us → ((a : ℕ) → has_moves s.moves a ≡ true → sum_if (begins_at a) s.moves us ≡ cond (s.entry == a) 1 0 + (sum_if (goes_to a) s.moves us + sum_if (calls_to a) s.moves us)) → IsConserved s.entry 1 x s.moves
  conserved us x are done a = by_has (has_moves s.moves a) refl
    where
      when : (t : Bool) → cond t (pos 1) (pos 0) ≡ pos (cond t 1 0)
      when true = refl
      when false = refl

      by_has : (t : Bool) → has_moves s.moves a ≡ t → count x s.moves a ≡ coefficient (inflow s.entry 1 x s.moves) a
      by_has true h =
          let c = count_sum x s.moves us a are in
          let d = arrivals_sum x s.moves us a are in
          let e = done a h in
          let w = when (s.entry == a) in omega (arith, ints)
      by_has false h =
          let c = count_sum x s.moves us a are in
          let d = arrivals_sum x s.moves us a are in
          let z0 = no_sum (begins_at a) s.moves us (λ m im. not_equal m.at a (reached_not a m.at h (has_of s.moves m im))) in
          let z1 = no_sum (goes_to a) s.moves us (goes_nowhere a h) in
          let z2 = no_sum (calls_to a) s.moves us (λ m im. calls_nothing a h m im m.to m.behind refl refl) in
          let w : when_same s.entry a (pos 1) ≡ pos 0 = ap (λ t. cond t (pos 1) (pos 0)) (not_equal s.entry a (reached_not a s.entry h whole.system.entry)) in
          omega (arith, ints)

pub all_conserved : (s : System) (ls : List LoopShape) (ps : List Span) → IsReachedWhole s ls ps → FlowsAreConserved s ls ps
all_conserved s ls ps whole q least code wide =
    let g = going s ls ps whole q least code wide in
    conserved s ls ps whole q (amounts_of s ls ps q) (listed (parts_of s.moves (amounts_of s ls ps q))) (listed_amounts s.moves (amounts_of s ls ps q) g.long_amounts whole.system.ascending)
    (λ a h. g.done a h (let m = move_of s.moves a h in subst (λ b. IsInOne ps b) m.2 (All-contains (λ (y : Move). IsInOne ps y.at) s.moves m.0 whole.fits.covered m.1)))
