-- No count of a loose flow is larger than its value, and the terms of limits are narrow.
use Rattle.std.proofs.Common.{◌≡◌, ℕ, zero, suc, ◌+◌, ◌*◌, ◌-◌, ◌≤◌, ◌<◌, ◌^◌, ℤ, pos, neg_ℤ, ◌-ℤ◌, ◌*ℤ◌, ◌≤ℤ◌, ◌<ℤ◌, arith, refl, ap, ◌∙◌, subst, List, [], ◌∷◌, ◌++◌, Contains, All, inl, inr, Some, None, unsigned_abs}
use Rattle.std.specs.Prelude.{◌==◌}
use lib.IntN.{negsuc, *ℤ_comm}
use Rattle.std.proofs.lemmas.Int.{ints}
use Rattle.std.proofs.lemmas.List.Elements.{All-head, All-tail, All-contains, All-cons, All-nil}
use Rattle.std.proofs.Math.Nat.{mul-le-mul_left}
use Rattle.frac128.specs.Terms.{when_same}
use Rattle.frac128.proofs.SignedLemmas.{mul-le, mul-neg}
use Rattle.frac128.proofs.TermsLemmas.{when_same-here}
use Rattle.wcc_base.specs.declared.compare.Compare.TheVariants.{AtMost}
use Rattle.rv_core.specs.declared.regions.Region.TheVariants.{Flash, Spm}
use Rattle.rv_core.specs.Regions.{region_of}
use Rattle.rv_core.specs.Table.{Table}
use Rattle.rv_core.specs.Machine.{cost_at}
use Rattle.code_flow_system.specs.declared.claims.Never.{Never}
use Rattle.code_flow_system.specs.declared.claims.LoopClaim.{LoopClaim}
use Rattle.code_flow_system.specs.declared.moves.Move.{Move}
use Rattle.code_flow_system.specs.Claims.{Claims}
use Rattle.code_flow_system.specs.Systems.{System, IsPlaced}
use Rattle.code_flow_system.specs.Counts.{Amounts, amount, count, total}
use Rattle.code_flow_system.specs.Flows.{price}
use Rattle.code_flow_system.specs.MoveCosts.{move_cost}
use Rattle.code_flow_system.specs.Certificates.{never_limits, least_limit, most_limit, loop_limits, size_by, IsNarrow}
use Rattle.path_ranges.proofs.TotalLemmas.{leaves, count-total, total_least}
use Rattle.path_ranges.proofs.PartLemmas.{same_least, same_most}
use Rattle.path_ranges.specs.Narrow.{FetchesCost, LooseCountsBelow, HasShortBounds, LimitsAreNarrow}

-- ---- counts

total_mono : (f g : Move → ℤ) (x : Amounts) (ms : List Move) → ((m : Move) → Contains ms m → f m ≤ℤ g m) → total f x ms ≤ℤ total g x ms
total_mono f g x [] h = omega (arith, ints)
total_mono f g x (m ∷ ms) h =
    let r = total_mono f g x ms (λ k i. h k (suc i.0, (let j = i.1 in omega (arith, j)), i.2)) in
    let e = mul-le (x m.at m.number) (f m) (g m) (h m (zero, omega arith, refl)) in omega (arith, ints)

-- what each move adds is a part of the sum
part_of_total : (f : Move → ℤ) (x : Amounts) (ms : List Move) (m : Move) → ((k : Move) → Contains ms k → pos 0 ≤ℤ f k) → Contains ms m → (amount x m *ℤ f m) ≤ℤ total f x ms
part_of_total f x [] m h (i, lt, e) = absurd (omega (arith, lt))
part_of_total f x (k ∷ ms) m h (zero, lt, e) =
    subst (λ (y : Move). (amount x y *ℤ f y) ≤ℤ total f x (k ∷ ms)) e (let r = total_least f x ms (λ y i. h y (suc i.0, (let j = i.1 in omega (arith, j)), i.2)) in omega (arith, ints))
part_of_total f x (k ∷ ms) m h (suc i, lt, e) =
    let r = part_of_total f x ms m (λ y j. h y (suc j.0, (let z = j.1 in omega (arith, z)), j.2)) (i, omega (arith, lt), e) in
    let p = mul-le (x k.at k.number) (pos 0) (f k) (h k (zero, omega arith, refl)) in
    let z : pos (x k.at k.number) *ℤ pos 0 ≡ pos 0 = omega (arith, ints) in omega (arith, ints)

-- a move costs a cycle at least
costs_one : (t : Table) (s : System) (m : Move) → FetchesCost t → IsPlaced m.at → 1 ≤ move_cost t s m
costs_one t s m fetches placed = elim placed.region [
  | inl e ↦ let f = fetches.flash in let g : cost_at t m.instr (region_of m.at) None (m.number == 1) ≡ cost_at t m.instr (Some Flash) None (m.number == 1) = ap (λ r. cost_at t m.instr r None (m.number == 1)) e in omega (arith, f, g)
  | inr e ↦ let f = fetches.spm in let g : cost_at t m.instr (region_of m.at) None (m.number == 1) ≡ cost_at t m.instr (Some Spm) None (m.number == 1) = ap (λ r. cost_at t m.instr r None (m.number == 1)) e in omega (arith, f, g)
]

pub counts_below : (t : Table) (s : System) → LooseCountsBelow t s
counts_below t s fetches is most values unit x loose = (
  count_below,
  λ m im.
      let p = part_of_total (leaves m.at) x s.moves m (λ k i. same_least k.at m.at) im in
      let o : amount x m *ℤ when_same m.at m.at (pos 1) ≡ amount x m = ap (λ (y : ℤ). amount x m *ℤ y) (when_same-here m.at (pos 1)) ∙ one (amount x m) in
      let c = count_below m.at in let e = count-total x s.moves m.at in omega (arith, ints),
)
  where
    one : (z : ℤ) → z *ℤ pos 1 ≡ z
    one z = omega (arith, ints)

    leaves_cheap : (a : ℕ) (m : Move) → Contains s.moves m → when_same m.at a (pos 1) ≤ℤ price t s m
    leaves_cheap a m im = let w = same_most m.at a in let c = costs_one t s m fetches (All-contains (λ k. IsPlaced k.at) s.moves m is.placed im) in omega (arith, ints, c)

    count_below : (a : ℕ) → count x s.moves a <ℤ (pos unit *ℤ pos most)
    count_below a =
        let e = count-total x s.moves a in
        let m = total_mono (leaves a) (price t s) x s.moves (leaves_cheap a) in
        let v = values unit x loose in omega (arith, ints)

-- ---- limits

-- a number of a claim, times a count
product_small : (most k : ℕ) (z : ℤ) → most ≤ 2 ^ 93 → k ≤ 2 ^ 32 → pos 0 ≤ℤ z → z <ℤ pos most → (unsigned_abs (pos k *ℤ z) < 2 ^ 125) × (unsigned_abs (neg_ℤ (pos k) *ℤ z) < 2 ^ 125)
product_small most k (negsuc n) up few h lt = absurd (omega (arith, ints))
product_small most k (pos n) up few h lt =
    let p : pos k *ℤ pos n ≡ pos (k * n) = product k n in
    let m : neg_ℤ (pos k) *ℤ pos n ≡ neg_ℤ (pos (k * n)) = *ℤ_comm (neg_ℤ (pos k)) (pos n) ∙ (mul-neg (pos n) (pos k) ∙ ap neg_ℤ (*ℤ_comm (pos n) (pos k) ∙ p)) in
    let l : n < most = omega (arith, ints) in
    let s : n ≤ 2 ^ 93 - 1 = omega (arith, l, up) in
    let b : k * n < 2 ^ 125 = bounded s in
    let a : unsigned_abs (neg_ℤ (pos (k * n))) ≡ k * n = negated (k * n) in
    let c : unsigned_abs (pos k *ℤ pos n) ≡ unsigned_abs (pos (k * n)) = ap unsigned_abs p in
    let d : unsigned_abs (neg_ℤ (pos k) *ℤ pos n) ≡ k * n = ap unsigned_abs m ∙ a in
    let f : unsigned_abs (pos (k * n)) ≡ k * n = refl in
    (omega (arith, b, c, f), omega (arith, b, d))
  where
    product : (a b : ℕ) → pos a *ℤ pos b ≡ pos (a * b)
    product a b = omega (arith, ints)

    negated : (a : ℕ) → unsigned_abs (neg_ℤ (pos a)) ≡ a
    negated a = omega (arith, ints)

    bounded : n ≤ 2 ^ 93 - 1 → k * n < 2 ^ 125
    bounded s = let e : k * n ≤ k * (2 ^ 93 - 1) = mul-le-mul_left k s in omega (arith, e, few)

module _ (most : ℕ) (up : most ≤ 2 ^ 93) (n : ℕ → ℤ) (small : (a : ℕ) → (pos 0 ≤ℤ n a) × (n a <ℤ pos most)) where
  least_narrow : (c : LoopClaim) (w : ℤ) → HasShortBounds c → IsNarrow (size_by (λ t. t.1 *ℤ n t.0) (least_limit c w).terms)
  least_narrow c w h =
      let k = h.0 in
      let b = product_small most c.min (n c.back) up (omega (arith, k)) (small c.back).0 (small c.back).1 in
      let b1 = b.1 in
      let a = first c.min k in omega (arith, a, b1)
    where
      first : (k : ℕ) → k < 2 ^ 32 → unsigned_abs ((pos k -ℤ pos 1) *ℤ n c.header) < 2 ^ 125
      first zero lt =
          let e : (pos 0 -ℤ pos 1) ≡ neg_ℤ (pos 1) = omega (arith, ints) in
          let p = (product_small most 1 (n c.header) up (omega arith) (small c.header).0 (small c.header).1).1 in
          let g : unsigned_abs ((pos 0 -ℤ pos 1) *ℤ n c.header) ≡ unsigned_abs (neg_ℤ (pos 1) *ℤ n c.header) = ap (λ (y : ℤ). unsigned_abs (y *ℤ n c.header)) e in omega (arith, g, p)
      first (suc k) lt =
          let e : (pos (suc k) -ℤ pos 1) ≡ pos k = omega (arith, ints) in
          let p = (product_small most k (n c.header) up (omega (arith, lt)) (small c.header).0 (small c.header).1).0 in
          let g : unsigned_abs ((pos (suc k) -ℤ pos 1) *ℤ n c.header) ≡ unsigned_abs (pos k *ℤ n c.header) = ap (λ (y : ℤ). unsigned_abs (y *ℤ n c.header)) e in omega (arith, g, p)

  most_narrow : (c : LoopClaim) (w : ℤ) → HasShortBounds c → IsNarrow (size_by (λ t. t.1 *ℤ n t.0) (most_limit c w).terms)
  most_narrow c w h =
      let k = h.1 in
      let b = product_small most c.max (n c.back) up (omega (arith, k)) (small c.back).0 (small c.back).1 in
      let b0 = b.0 in
      let a = first c.max k in omega (arith, a, b0)
    where
      first : (k : ℕ) → k < 2 ^ 32 → unsigned_abs ((pos 1 -ℤ pos k) *ℤ n c.header) < 2 ^ 125
      first zero lt =
          let e : (pos 1 -ℤ pos 0) ≡ pos 1 = omega (arith, ints) in
          let p = (product_small most 1 (n c.header) up (omega arith) (small c.header).0 (small c.header).1).0 in
          let g : unsigned_abs ((pos 1 -ℤ pos 0) *ℤ n c.header) ≡ unsigned_abs (pos 1 *ℤ n c.header) = ap (λ (y : ℤ). unsigned_abs (y *ℤ n c.header)) e in omega (arith, g, p)
      first (suc k) lt =
          let e : (pos 1 -ℤ pos (suc k)) ≡ neg_ℤ (pos k) = omega (arith, ints) in
          let p = (product_small most k (n c.header) up (omega (arith, lt)) (small c.header).0 (small c.header).1).1 in
          let g : unsigned_abs ((pos 1 -ℤ pos (suc k)) *ℤ n c.header) ≡ unsigned_abs (neg_ℤ (pos k) *ℤ n c.header) = ap (λ (y : ℤ). unsigned_abs (y *ℤ n c.header)) e in omega (arith, g, p)

  loops_narrow : (cs : List LoopClaim) (us : List (ℤ × ℤ)) → All HasShortBounds cs → All (λ l. IsNarrow (size_by (λ t. t.1 *ℤ n t.0) l.terms)) (loop_limits cs us)
  loops_narrow [] us h = All-nil (λ l. IsNarrow (size_by (λ t. t.1 *ℤ n t.0) l.terms))
  loops_narrow (c ∷ cs) [] h = All-nil (λ l. IsNarrow (size_by (λ t. t.1 *ℤ n t.0) l.terms))
  loops_narrow (c ∷ cs) (u ∷ us) h =
      let k = All-head HasShortBounds c cs h in
      All-cons (λ l. IsNarrow (size_by (λ t. t.1 *ℤ n t.0) l.terms)) (least_limit c u.0) (most_limit c u.1 ∷ loop_limits cs us) (least_narrow c u.0 k)
      (All-cons (λ l. IsNarrow (size_by (λ t. t.1 *ℤ n t.0) l.terms)) (most_limit c u.1) (loop_limits cs us) (most_narrow c u.1 k) (loops_narrow cs us (All-tail HasShortBounds c cs h)))

  pub limits_narrow : (ks : List Never) (ws : List ℤ) (cs : List LoopClaim) (us : List (ℤ × ℤ)) → All HasShortBounds cs → All (λ l. IsNarrow (size_by (λ t. t.1 *ℤ n t.0) l.terms)) (never_limits ks ws ++ loop_limits cs us)
  limits_narrow [] ws cs us h = loops_narrow cs us h
  limits_narrow (k ∷ ks) [] cs us h = loops_narrow cs us h
  limits_narrow (k ∷ ks) (w ∷ ws) cs us h =
      All-cons (λ l. IsNarrow (size_by (λ t. t.1 *ℤ n t.0) l.terms)) (record { terms = (k.at, pos 1) ∷ []; op = AtMost; by = w }) (never_limits ks ws ++ loop_limits cs us)
      (let p = (product_small most 1 (n k.at) up (omega arith) (small k.at).0 (small k.at).1).0 in omega (arith, p)) (limits_narrow ks ws cs us h)

pub narrow_limits : (c : Claims) → LimitsAreNarrow c
narrow_limits c short most up n small ws us = limits_narrow most up n small c.nevers ws c.loops us short
