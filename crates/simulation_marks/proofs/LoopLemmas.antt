-- The claim on a loop, by how often its header and its latch begin.
use Rattle.std.proofs.Common.{◌≡◌, ℕ, ◌-◌, ◌*◌, ◌<◌, ◌≤◌, ℤ, pos, ◌-ℤ◌, ◌*ℤ◌, ◌≤ℤ◌, length, sym, ap, ◌∙◌, subst, arith}
use Rattle.std.proofs.Math.IntN.{pos-*ℤ-pos}
use Rattle.std.proofs.lemmas.Int.{ints}
use Rattle.rv_core.specs.Runs.{Setup, mrun}
use Rattle.code_flow_system.specs.declared.claims.LoopClaim.{LoopClaim}
use Rattle.code_flow_system.specs.Counts.{KeepsLoop}
use Rattle.code_flow_system.specs.KeptRuns.{visit_count}
use Rattle.low_ir.specs.Code.{Loop}
use Rattle.low_ir.specs.Effects.{World}
use Rattle.low_ir.specs.Places.{Placed}
use Rattle.register_places.specs.Totals.{began_count, KeepsTotals}
use Rattle.asm_program.specs.Functions.{function_in}
use Rattle.simulation_relation.specs.Following.{Ends}
use Rattle.image_frames.specs.Memories.{Placement}
use Rattle.simulation_loaded.specs.Layouts.{layout_of}
use Rattle.simulation_marks.specs.VisitLaws.{IsClaimOn}
use Rattle.simulation_marks.proofs.CountLemmas.{starts_counted}

as_ints : (a b : ℕ) → a ≤ b → pos a ≤ℤ pos b
as_ints a b h = omega (arith, ints, h)

product : (m heads backs : ℕ) → backs ≤ heads → (pos m *ℤ (pos heads -ℤ pos backs)) ≡ pos (m * (heads - backs))
product m heads backs low = let d : (pos heads -ℤ pos backs) ≡ pos (heads - backs) = omega (arith, ints, low) in ap (λ z. pos m *ℤ z) d ∙ pos-*ℤ-pos m (heads - backs)

keeps : (n : ℕ → ℤ) (c : LoopClaim) (heads backs : ℕ) → n c.header ≡ pos heads → n c.back ≡ pos backs → backs ≤ heads → c.min * (heads - backs) ≤ heads → heads ≤ c.max * (heads - backs) → KeepsLoop n c
keeps n c heads backs head back low least most = record {
  least =
      subst (λ z. (pos c.min *ℤ (z -ℤ n c.back)) ≤ℤ z) (sym head)
      (subst (λ z. (pos c.min *ℤ (pos heads -ℤ z)) ≤ℤ pos heads) (sym back) (subst (λ z. z ≤ℤ pos heads) (sym (product c.min heads backs low)) (as_ints (c.min * (heads - backs)) heads least)));
  most =
      subst (λ z. z ≤ℤ (pos c.max *ℤ (z -ℤ n c.back))) (sym head)
      (subst (λ z. pos heads ≤ℤ (pos c.max *ℤ (pos heads -ℤ z))) (sym back) (subst (λ z. pos heads ≤ℤ z) (sym (product c.max heads backs low)) (as_ints heads (c.max * (heads - backs)) most)));
}

pub loop_kept : (pl : Placement) (p : Placed) (s : Setup) (v : ℕ) (u : World) (n : ℕ) → Ends (layout_of pl p) s v u n → (f : ℕ) (k : Loop) (c : LoopClaim) → f < length p.functions → k.header < length (function_in p f).blocks → k.latch < length (function_in p f).blocks
    → KeepsTotals f u.trace k → IsClaimOn (layout_of pl p) f k c → visit_count (mrun s n).visits c.back ≡ visit_count (mrun s n).visits ((layout_of pl p).starts f k.latch) → KeepsLoop (visit_count (mrun s n).visits) c
loop_kept pl p s v u n ends f k c there header latch totals on back =
    let heads = began_count f k.header u.trace in
    let backs = began_count f k.latch u.trace in
    keeps (visit_count (mrun s n).visits) c heads backs (ap (visit_count (mrun s n).visits) on.header ∙ starts_counted pl p s v u n f k.header ends there header) (back ∙ starts_counted pl p s v u n f k.latch ends there latch) totals.backs
    (subst (λ m. m * (heads - backs) ≤ heads) (sym on.least) totals.least) (subst (λ m. heads ≤ m * (heads - backs)) (sym on.most) totals.most)
