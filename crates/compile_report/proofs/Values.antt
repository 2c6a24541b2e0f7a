-- The value of the listed flow is small, and so are the cycles that are reported.
use Rattle.std.proofs.Common.{◌≡◌, ℕ, suc, ◌*◌, ◌^◌, ◌<◌, ◌≤◌, ℤ, pos, negsuc, ◌*ℤ◌, ◌<ℤ◌, List, [], ap, subst, arith}
use Rattle.std.specs.Prelude.{unsigned_abs}
use Rattle.std.proofs.Math.Nat.{div-lt_iff_lt-mul, lt_of_mul-lt-mul_left, mul-lt-mul_of_pos_left}
use Rattle.std.proofs.lemmas.Int.{ints}
use Rattle.rv_core.specs.Table.{Table}
use Rattle.code_flow_system.specs.declared.cert.Cert.{Cert}
use Rattle.code_flow_system.specs.declared.cert.Mark.TheVariants.{Greatest}
use Rattle.code_flow_system.specs.declared.shapes.LoopShape.{LoopShape}
use Rattle.code_flow_system.specs.declared.shapes.Span.{Span}
use Rattle.code_flow_system.specs.Bounds.{KeepsPromise}
use Rattle.code_flow_system.specs.Certificates.{Accepts, FitsMark, IsInForm, KeepsMark, listed, potential, whole_part}
use Rattle.code_flow_system.specs.Flows.{value}
use Rattle.code_flow_system.specs.Systems.{System}
use Rattle.code_flow_system.proofs.LooseLemmas.{flows_are_loose, goes_back}
use Rattle.code_flow_answer.specs.declared.bounded.Column.{Column}
use Rattle.code_flow_answer.specs.declared.bounded.Kind.{Kind}
use Rattle.code_flow_answer.specs.declared.bounded.Kind.TheVariants as kinds
use Rattle.path_flows.specs.Free.{free}
use Rattle.path_fact_kinds.specs.Columns.{IsBest}
use Rattle.path_conditions.specs.Searching.{CanSearch}
use Rattle.path_fact_kinds.specs.Kinds.{HasKind, IsBoundAlone}
use Rattle.path_fact_kinds.specs.Searched.{AreSearched}
use Rattle.simplex_laws.specs.RoundLaws.{column_at}

scaled : (s w u n : ℕ) → 0 < s → s * w ≡ u * n → w < u * 2 ^ 60 → n < 2 ^ 60 * s
scaled s w u n some e lt =
    let more : s * w < s * (u * 2 ^ 60) = mul-lt-mul_of_pos_left lt some in
    lt_of_mul-lt-mul_left u (moved e more)
  where
    moved : s * w ≡ u * n → s * w < s * (u * 2 ^ 60) → u * n < u * (2 ^ 60 * s)
    moved e more = omega (arith, e, more)

-- the whole part of what a flow of a small value reaches
few : (v p : ℤ) (s u : ℕ) → 0 < s → (pos s *ℤ v) ≡ (pos u *ℤ p) → v <ℤ (pos u *ℤ pos (2 ^ 60)) → whole_part p s < 2 ^ 60
few v (negsuc n) s u some e lt = omega arith
few (pos w) (pos n) s u some e lt =
    let same : s * w ≡ u * n = ap unsigned_abs e in
    let less : w < u * 2 ^ 60 = omega (arith, ints, lt) in
    (div-lt_iff_lt-mul some).1 (scaled s w u n some same less)
few (negsuc w) (pos n) s u some e lt = absurd (below s w (u * n) some e)
  where
    below : (s w m : ℕ) → 0 < s → (pos s *ℤ negsuc w) ≡ pos m → ⊥
    below s w m some e =
        let less : s * 0 < s * suc w = mul-lt-mul_of_pos_left (omega arith) some in
        omega (arith, ints, e, less)

nothing : (p : ℤ) (s : ℕ) → p <ℤ pos 0 → whole_part p s < 2 ^ 60
nothing (pos n) s lt = absurd (omega (arith, ints, lt))
nothing (negsuc n) s lt = omega arith

-- the first column is a flow of the system without its restrictions
column_below : (t : Table) (s : System) (ls : List LoopShape) (ps : List Span) (cs : List Column) → CanSearch t s ls ps → IsBest t s 1 [] (column_at cs 0) → (column_at cs 0).value <ℤ pos (2 ^ 60)
column_below t s ls ps cs can best =
    let x = best.column.amounts in
    let loose = flows_are_loose (free s) (goes_back s s.claims.loops ls can.fit.fits.shapes can.fit.fits.loops) 1 x best.column.flow in
    let is = ap (λ (c : Column). c.value) best.column.is in
    let less = can.loose 1 x (record { positive = loose.positive; kept = loose.kept; loops = loose.loops }) in
    omega (arith, ints, is, less)

module _ (t : Table) (s : System) (c : Cert) (ls : List LoopShape) (ps : List Span) (can : CanSearch t s ls ps) (form : IsInForm s.claims c) (accepted : Accepts t s c) (promise : KeepsPromise t s c) where
  value_below : c.mark ≡ Greatest → value t s (listed c.flow.parts) <ℤ (pos c.flow.unit *ℤ pos (2 ^ 60))
  value_below e =
      can.loose c.flow.unit (listed c.flow.parts) (flows_are_loose s (goes_back s s.claims.loops ls can.fit.fits.shapes can.fit.fits.loops) c.flow.unit (listed c.flow.parts) (promise.greatest e).flow)

  pub value_small : c.mark ≡ Greatest → value t s (listed c.flow.parts) <ℤ pos (2 ^ 120)
  value_small e =
      let unit = subst (λ m. FitsMark m c.flow.unit c.flow.parts) e form.unit in
      within (value t s (listed c.flow.parts)) c.flow.unit (value_below e) unit.1
    where
      within : (v : ℤ) (u : ℕ) → v <ℤ (pos u *ℤ pos (2 ^ 60)) → u ≤ 2 ^ 48 → v <ℤ pos (2 ^ 120)
      within v u lt le = omega (arith, ints, lt, le)

  -- a bound alone is no more than the value of the first column
  bound_below : (cs : List Column) → IsBoundAlone s cs c → AreSearched t s cs → c.cycles < 2 ^ 60
  bound_below cs alone searched =
      let below = column_below t s ls ps cs can searched.first in
      let most = alone.cycles in
      omega (arith, ints, below, most)

  by_kind : (cs : List Column) (k : Kind) → HasKind t s cs c k → c.cycles < 2 ^ 60
  by_kind cs kinds.Greatest h =
      let less = few (value t s (listed c.flow.parts)) (potential c s.entry) c.scale c.flow.unit form.scale.0 (promise.greatest h).value (value_below h) in
      let is = accepted.value in
      omega (arith, less, is)
  by_kind cs kinds.Empty h =
      let less = nothing (potential c s.entry) c.scale (subst (λ m. KeepsMark m t s c) h accepted.mark) in
      let is = accepted.value in
      omega (arith, less, is)
  by_kind cs (kinds.Wide pivot) h = bound_below cs h.0 h.1.searched
  by_kind cs (kinds.Spent columns pivots) h = bound_below cs h.0 h.1.searched

  pub cycles_below : (cs : List Column) (k : Kind) → HasKind t s cs c k → c.cycles ≤ 2 ^ 62
  cycles_below cs k h =
      let less = by_kind cs k h in
      omega (arith, less)
