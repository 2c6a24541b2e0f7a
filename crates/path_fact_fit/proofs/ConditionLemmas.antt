-- Where a search can be made, its numbers keep to what answers ask.
use Rattle.std.proofs.Common.{◌≡◌, ◌<◌, ◌^◌, arith, ap, ◌∙◌, subst, List, All}
use Rattle.rv_core.specs.Table.{Table}
use Rattle.code_flow_system.specs.declared.claims.LoopClaim.{LoopClaim}
use Rattle.code_flow_system.specs.declared.shapes.LoopShape.{LoopShape}
use Rattle.code_flow_system.specs.declared.shapes.Span.{Span}
use Rattle.code_flow_system.specs.Claims.{Claims, claim_count}
use Rattle.code_flow_system.specs.Systems.{System, IsSystem}
use Rattle.path_places.specs.Reached.{AreReached}
use Rattle.path_ranges.specs.Narrow.{FetchesCost, HasShortBounds}
use Rattle.path_conditions.proofs.Holding.{backs_free, within_all}
use Rattle.path_conditions.specs.Searching.{CanSearch}
use Rattle.path_conditions.specs.Walking.{IsSearchable}

pub conditions_hold : (t : Table) (s : System) (ls : List LoopShape) (ps : List Span) → IsSystem s → AreReached s → CanSearch t s ls ps → FetchesCost t → All HasShortBounds s.claims.loops → claim_count s.claims < 2 ^ 32 → IsSearchable t s ls ps
conditions_hold t s ls ps system reached can fetches short few = record {
  limited = record {
    limited = record {
      whole = record { system = system; fits = can.fit.fits; filled = can.fit.filled; reached = reached };
      values = can.loose;
      loops = within_all s.claims.loops can.bounds short;
      few = omega (arith, few);
    };
    counts = can.counts;
    natural = can.natural;
    totals = can.totals;
  };
  fetches = fetches;
  short = short;
  backs = backs_free s ls can.fit.fits.shapes can.fit.apart;
  few = can.few;
}

-- the same, of what a system's list of loops says
pub searchable : (t : Table) (s : System) (ls : List LoopShape) (ps : List Span) → IsSystem s → AreReached s → CanSearch t s ls ps → FetchesCost t → (claims : Claims) (loops : List LoopClaim) → claims ≡ s.claims → loops ≡ claims.loops → All HasShortBounds loops → claim_count claims < 2 ^ 32 → IsSearchable t s ls ps
searchable t s ls ps system reached can fetches claims loops same all short few =
    conditions_hold t s ls ps system reached can fetches (subst (All HasShortBounds) (all ∙ ap (λ (x : Claims). x.loops) same) short) (subst (λ x. claim_count x < 2 ^ 32) same few)
