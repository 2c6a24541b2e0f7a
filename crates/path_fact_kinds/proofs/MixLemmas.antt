-- Flows, so often each, are a flow where they keep the facts together.
use Rattle.std.proofs.Common.{◌≡◌, ℕ, ◌+◌, ℤ, pos, ◌+ℤ◌, ◌-ℤ◌, ◌*ℤ◌, ◌≤ℤ◌, arith, refl, sym, ap, ◌∙◌, subst, List, [], ◌∷◌, All, Bool, true, false, cond}
use Rattle.std.specs.Prelude.{◌==◌}
use lib.IntN.{*ℤ-zero}
use Rattle.std.proofs.lemmas.Int.{ints}
use Rattle.std.proofs.lemmas.List.Elements.{All-head, All-tail, All-cons, All-nil, All-weaker}
use Rattle.frac128.specs.Terms.{Terms, int_sum_by, coefficient, applied, when_same}
use Rattle.frac128.proofs.SignedLemmas.{mul-add, mul-sub, mul-mul_swap, mul-le}
use Rattle.frac128.proofs.TermsLemmas.{applied-same, applied-add, applied-zero, int_sum_by-same, int_sum_by-mul}
use Rattle.wcc_base.specs.declared.compare.Compare.{Compare}
use Rattle.wcc_base.specs.declared.compare.Compare.TheVariants.{AtMost, AtLeast, Equal}
use Rattle.rv_core.specs.Table.{Table}
use Rattle.code_flow_system.specs.declared.claims.Never.{Never}
use Rattle.code_flow_system.specs.declared.claims.LoopClaim.{LoopClaim}
use Rattle.code_flow_system.specs.declared.claims.FactClaim.{FactClaim}
use Rattle.code_flow_system.specs.declared.moves.Move.{Move}
use Rattle.code_flow_system.specs.Systems.{System}
use Rattle.code_flow_system.specs.Counts.{arrivals, count, IsConserved, total, KeepsNever, KeepsLoop, Compares, KeepsFact}
use Rattle.code_flow_system.specs.Flows.{IsFlow, price}
use Rattle.path_ranges.proofs.TotalLemmas.{leaves, comes, count-total, arrivals-total, total-added, total-times, total-none}
use Rattle.path_flows.specs.Free.{free}
use Rattle.path_fact_kinds.specs.Mixes.{times, nothing, Share, mix, often}
use Rattle.path_fact_kinds.specs.MixLaws.{total_of, MixesAreFlows}

-- ---- sums over the moves

module _ (f : Move → ℤ) (ms : List Move) where
  pub total-mix : (hs : List Share) → total f (mix hs) ms ≡ int_sum_by (λ h. pos h.often *ℤ total f h.flow ms) hs
  total-mix [] = total-none f ms
  total-mix (h ∷ hs) =
      let a = total-added f (times h.often h.flow) (mix hs) ms in
      let b = total-times f h.often h.flow ms in
      let r = total-mix hs in omega (arith, ints)

-- ---- counts and arrivals

module _ (ms : List Move) (a : ℕ) where
  count-none : count nothing ms a ≡ pos 0
  count-none = count-total nothing ms a ∙ total-none (leaves a) ms

  count-more : (h : Share) (hs : List Share) → count (mix (h ∷ hs)) ms a ≡ (pos h.often *ℤ count h.flow ms a) +ℤ count (mix hs) ms a
  count-more h hs =
      let e = count-total (mix (h ∷ hs)) ms a in
      let f = total-added (leaves a) (times h.often h.flow) (mix hs) ms in
      let g = total-times (leaves a) h.often h.flow ms in
      let i = ap (λ (z : ℤ). pos h.often *ℤ z) (count-total h.flow ms a) in
      let j = count-total (mix hs) ms a in omega (arith, ints)

  arrivals-none : coefficient (arrivals nothing ms) a ≡ pos 0
  arrivals-none = arrivals-total nothing ms a ∙ total-none (comes a) ms

  arrivals-more : (h : Share) (hs : List Share) → coefficient (arrivals (mix (h ∷ hs)) ms) a ≡ (pos h.often *ℤ coefficient (arrivals h.flow ms) a) +ℤ coefficient (arrivals (mix hs) ms) a
  arrivals-more h hs =
      let e = arrivals-total (mix (h ∷ hs)) ms a in
      let f = total-added (comes a) (times h.often h.flow) (mix hs) ms in
      let g = total-times (comes a) h.often h.flow ms in
      let i = ap (λ (z : ℤ). pos h.often *ℤ z) (arrivals-total h.flow ms a) in
      let j = arrivals-total (mix hs) ms a in omega (arith, ints)

-- ---- conservation

none_same : (t : Bool) → cond t (pos 0) (pos 0) ≡ pos 0
none_same true = refl
none_same false = refl

more_same : (t : Bool) (m n : ℕ) → cond t (pos (m + n)) (pos 0) ≡ (pos m *ℤ cond t (pos 1) (pos 0)) +ℤ cond t (pos n) (pos 0)
more_same true m n = omega (arith, ints)
more_same false m n = let z = *ℤ-zero (pos m) in omega (arith, ints)

mix_conserved : (e : ℕ) (ms : List Move) (hs : List Share) → All (λ h. IsConserved e 1 h.flow ms) hs → IsConserved e (often hs) (mix hs) ms
mix_conserved e ms [] h a =
    let x = count-none ms a in let y = arrivals-none ms a in let z = none_same (e == a) in omega (arith, ints)
mix_conserved e ms (k ∷ hs) h a =
    let r = mix_conserved e ms hs (All-tail (λ h. IsConserved e 1 h.flow ms) k hs h) a in
    let one = ap (λ (z : ℤ). pos k.often *ℤ z) (All-head (λ h. IsConserved e 1 h.flow ms) k hs h a) in
    let two = mul-add (pos k.often) (when_same e a (pos 1)) (coefficient (arrivals k.flow ms) a) in
    let x = count-more ms a k hs in
    let y = arrivals-more ms a k hs in
    let z = more_same (e == a) k.often (often hs) in omega (arith, ints)

-- ---- claims

module _ (ms : List Move) where
  never_kept : (c : Never) (hs : List Share) → All (λ h. KeepsNever (count h.flow ms) c) hs → KeepsNever (count (mix hs) ms) c
  never_kept c [] h = count-none ms c.at
  never_kept c (k ∷ hs) h =
      let r = never_kept c hs (All-tail (λ h. KeepsNever (count h.flow ms) c) k hs h) in
      let e = ap (λ (z : ℤ). pos k.often *ℤ z) (All-head (λ h. KeepsNever (count h.flow ms) c) k hs h) in
      let z = *ℤ-zero (pos k.often) in
      let x = count-more ms c.at k hs in omega (arith, ints)

  -- m times the difference of two sums, each with n times a number
  spread : (m n h j h' j' : ℤ) → (m *ℤ (((n *ℤ h) +ℤ h') -ℤ ((n *ℤ j) +ℤ j'))) ≡ ((n *ℤ (m *ℤ (h -ℤ j))) +ℤ (m *ℤ (h' -ℤ j')))
  spread m n h j h' j' =
      let e = mul-sub n h j in
      let f : (((n *ℤ h) +ℤ h') -ℤ ((n *ℤ j) +ℤ j')) ≡ ((n *ℤ (h -ℤ j)) +ℤ (h' -ℤ j')) = omega (arith, ints) in
      let g = mul-add m (n *ℤ (h -ℤ j)) (h' -ℤ j') in
      let i = mul-mul_swap m n (h -ℤ j) in
      ap (λ (z : ℤ). m *ℤ z) f ∙ omega (arith, ints)

  least_kept : (c : LoopClaim) (n : ℕ) (h j h' j' : ℤ) → (pos c.min *ℤ (h -ℤ j)) ≤ℤ h → (pos c.min *ℤ (h' -ℤ j')) ≤ℤ h' → (pos c.min *ℤ (((pos n *ℤ h) +ℤ h') -ℤ ((pos n *ℤ j) +ℤ j'))) ≤ℤ ((pos n *ℤ h) +ℤ h')
  least_kept c n h j h' j' le r =
      let e = spread (pos c.min) (pos n) h j h' j' in
      let f = mul-le n (pos c.min *ℤ (h -ℤ j)) h le in omega (arith, ints)

  most_kept : (c : LoopClaim) (n : ℕ) (h j h' j' : ℤ) → h ≤ℤ (pos c.max *ℤ (h -ℤ j)) → h' ≤ℤ (pos c.max *ℤ (h' -ℤ j')) → ((pos n *ℤ h) +ℤ h') ≤ℤ (pos c.max *ℤ (((pos n *ℤ h) +ℤ h') -ℤ ((pos n *ℤ j) +ℤ j')))
  most_kept c n h j h' j' le r =
      let e = spread (pos c.max) (pos n) h j h' j' in
      let f = mul-le n h (pos c.max *ℤ (h -ℤ j)) le in omega (arith, ints)

  nothing_least : (m : ℤ) → (m *ℤ (pos 0 -ℤ pos 0)) ≡ pos 0
  nothing_least m = let e : (pos 0 -ℤ pos 0) ≡ pos 0 = omega (arith, ints) in ap (λ (z : ℤ). m *ℤ z) e ∙ *ℤ-zero m

  loop_kept : (c : LoopClaim) (hs : List Share) → All (λ h. KeepsLoop (count h.flow ms) c) hs → KeepsLoop (count (mix hs) ms) c
  loop_kept c [] h =
      let x = count-none ms c.header in let y = count-none ms c.back in record {
        least = (let e = ap (λ (z : ℤ). pos c.min *ℤ (z -ℤ count nothing ms c.back)) x in let f = ap (λ (z : ℤ). pos c.min *ℤ (pos 0 -ℤ z)) y in let g = nothing_least (pos c.min) in omega (arith, ints));
        most = (let e = ap (λ (z : ℤ). pos c.max *ℤ (z -ℤ count nothing ms c.back)) x in let f = ap (λ (z : ℤ). pos c.max *ℤ (pos 0 -ℤ z)) y in let g = nothing_least (pos c.max) in omega (arith, ints));
      }
  loop_kept c (k ∷ hs) h =
      let r = loop_kept c hs (All-tail (λ h. KeepsLoop (count h.flow ms) c) k hs h) in
      let one = All-head (λ h. KeepsLoop (count h.flow ms) c) k hs h in
      let x = sym (count-more ms c.header k hs) in
      let y = sym (count-more ms c.back k hs) in record {
        least = subst (λ (z : ℤ). (pos c.min *ℤ (z -ℤ count (mix (k ∷ hs)) ms c.back)) ≤ℤ z) x
            (subst (λ (z : ℤ). (pos c.min *ℤ (((pos k.often *ℤ count k.flow ms c.header) +ℤ count (mix hs) ms c.header) -ℤ z)) ≤ℤ ((pos k.often *ℤ count k.flow ms c.header) +ℤ count (mix hs) ms c.header)) y
            (least_kept c k.often (count k.flow ms c.header) (count k.flow ms c.back) (count (mix hs) ms c.header) (count (mix hs) ms c.back) one.least r.least));
        most = subst (λ (z : ℤ). z ≤ℤ (pos c.max *ℤ (z -ℤ count (mix (k ∷ hs)) ms c.back))) x
            (subst (λ (z : ℤ). ((pos k.often *ℤ count k.flow ms c.header) +ℤ count (mix hs) ms c.header) ≤ℤ (pos c.max *ℤ (((pos k.often *ℤ count k.flow ms c.header) +ℤ count (mix hs) ms c.header) -ℤ z))) y
            (most_kept c k.often (count k.flow ms c.header) (count k.flow ms c.back) (count (mix hs) ms c.header) (count (mix hs) ms c.back) one.most r.most));
      }

  -- each of all claims is kept by each of all flows
  nevers_kept : (cs : List Never) (hs : List Share) → All (λ h. All (KeepsNever (count h.flow ms)) cs) hs → All (KeepsNever (count (mix hs) ms)) cs
  nevers_kept [] hs h = All-nil (KeepsNever (count (mix hs) ms))
  nevers_kept (c ∷ cs) hs h = All-cons (KeepsNever (count (mix hs) ms)) c cs
      (never_kept c hs (All-weaker (λ h. All (KeepsNever (count h.flow ms)) (c ∷ cs)) (λ h. KeepsNever (count h.flow ms) c) (λ h k. All-head (KeepsNever (count h.flow ms)) c cs k) hs h))
      (nevers_kept cs hs (All-weaker (λ h. All (KeepsNever (count h.flow ms)) (c ∷ cs)) (λ h. All (KeepsNever (count h.flow ms)) cs) (λ h k. All-tail (KeepsNever (count h.flow ms)) c cs k) hs h))

  loops_kept : (cs : List LoopClaim) (hs : List Share) → All (λ h. All (KeepsLoop (count h.flow ms)) cs) hs → All (KeepsLoop (count (mix hs) ms)) cs
  loops_kept [] hs h = All-nil (KeepsLoop (count (mix hs) ms))
  loops_kept (c ∷ cs) hs h = All-cons (KeepsLoop (count (mix hs) ms)) c cs
      (loop_kept c hs (All-weaker (λ h. All (KeepsLoop (count h.flow ms)) (c ∷ cs)) (λ h. KeepsLoop (count h.flow ms) c) (λ h k. All-head (KeepsLoop (count h.flow ms)) c cs k) hs h))
      (loops_kept cs hs (All-weaker (λ h. All (KeepsLoop (count h.flow ms)) (c ∷ cs)) (λ h. All (KeepsLoop (count h.flow ms)) cs) (λ h k. All-tail (KeepsLoop (count h.flow ms)) c cs k) hs h))

  -- ---- sides of facts

  applied-times : (ts : Terms) (k : ℤ) (f : ℕ → ℤ) → applied ts (λ a. k *ℤ f a) ≡ k *ℤ applied ts f
  applied-times ts k f = int_sum_by-same (λ t. t.1 *ℤ (k *ℤ f t.0)) (λ t. k *ℤ (t.1 *ℤ f t.0)) ts (λ t. mul-mul_swap t.1 k (f t.0)) ∙ int_sum_by-mul k (λ t. t.1 *ℤ f t.0) ts

  pub applied-mix : (ts : Terms) (hs : List Share) → applied ts (count (mix hs) ms) ≡ int_sum_by (λ h. pos h.often *ℤ applied ts (count h.flow ms)) hs
  applied-mix ts [] = applied-same ts (count nothing ms) (λ a. pos 0) (λ a. count-none ms a) ∙ applied-zero ts
  applied-mix ts (h ∷ hs) =
      let e = applied-same ts (count (mix (h ∷ hs)) ms) (λ a. (pos h.often *ℤ count h.flow ms a) +ℤ count (mix hs) ms a) (λ a. count-more ms a h hs) in
      let f = applied-add ts (λ a. pos h.often *ℤ count h.flow ms a) (count (mix hs) ms) in
      let g = applied-times ts (pos h.often) (count h.flow ms) in
      let r = applied-mix ts hs in omega (arith, ints)

  pub total_of-mix : (f : FactClaim) (hs : List Share) → total_of f (count (mix hs) ms) ≡ int_sum_by (λ h. pos h.often *ℤ total_of f (count h.flow ms)) hs
  total_of-mix f hs =
      let l = applied-mix f.left hs in
      let r = applied-mix f.right hs in
      let d = differences hs in omega (arith, ints)
    where
      differences : (hs : List Share) → int_sum_by (λ h. pos h.often *ℤ total_of f (count h.flow ms)) hs ≡ int_sum_by (λ h. pos h.often *ℤ applied f.left (count h.flow ms)) hs -ℤ int_sum_by (λ h. pos h.often *ℤ applied f.right (count h.flow ms)) hs
      differences [] = omega (arith, ints)
      differences (h ∷ hs) =
          let r = differences hs in
          let e = mul-sub (pos h.often) (applied f.left (count h.flow ms)) (applied f.right (count h.flow ms)) in omega (arith, ints)

compared : (op : Compare) (l r z : ℤ) → l -ℤ r ≡ z → Compares op z (pos 0) → Compares op l r
compared AtMost l r z e h = omega (arith, ints)
compared AtLeast l r z e h = omega (arith, ints)
compared Equal l r z e h = omega (arith, ints)

facts_kept : (ms : List Move) (fs : List FactClaim) (hs : List Share) → All (λ f. Compares f.op (int_sum_by (λ h. pos h.often *ℤ total_of f (count h.flow ms)) hs) (pos 0)) fs → All (KeepsFact (count (mix hs) ms)) fs
facts_kept ms [] hs h = All-nil (KeepsFact (count (mix hs) ms))
facts_kept ms (f ∷ fs) hs h = All-cons (KeepsFact (count (mix hs) ms)) f fs
    (compared f.op (applied f.left (count (mix hs) ms)) (applied f.right (count (mix hs) ms)) (int_sum_by (λ h. pos h.often *ℤ total_of f (count h.flow ms)) hs) (total_of-mix ms f hs) (All-head (λ f. Compares f.op (int_sum_by (λ h. pos h.often *ℤ total_of f (count h.flow ms)) hs) (pos 0)) f fs h))
    (facts_kept ms fs hs (All-tail (λ f. Compares f.op (int_sum_by (λ h. pos h.often *ℤ total_of f (count h.flow ms)) hs) (pos 0)) f fs h))

-- ---- all together

module _ (t : Table) (s : System) where
  abbrev each : Share → Type 0
  each h = IsFlow (free s) 1 h.flow

  pub all_flows : MixesAreFlows t s
  all_flows hs some flows facts = (
    record {
      positive = some;
      conserved = mix_conserved s.entry s.moves hs (All-weaker each (λ h. IsConserved s.entry 1 h.flow s.moves) (λ h k. k.conserved) hs flows);
      claims = record {
        nevers = nevers_kept s.moves s.claims.nevers hs (All-weaker each (λ h. All (KeepsNever (count h.flow s.moves)) s.claims.nevers) (λ h k. k.claims.nevers) hs flows);
        loops = loops_kept s.moves s.claims.loops hs (All-weaker each (λ h. All (KeepsLoop (count h.flow s.moves)) s.claims.loops) (λ h k. k.claims.loops) hs flows);
        facts = facts_kept s.moves s.claims.facts hs facts;
      };
    },
    total-mix (price t s) s.moves hs,
  )
