-- A laid program keeps to what a search for the greatest flow rests on.
use Rattle.std.proofs.Common.{ℕ, zero, suc, ◌+◌, ◌<◌, ◌≤◌, length, sym, ap, subst, arith}
use Rattle.std.specs.Prelude.{All}
use Rattle.std.proofs.lemmas.List.Elements.{All-cons, All-nil}
use Rattle.rv_core.specs.declared.costs.Costs.{Costs}
use Rattle.rv_core.specs.Images.{Image}
use Rattle.rv_core.specs.Table.{table_of}
use Rattle.code_flow_system.specs.declared.shapes.Span.{Span}
use Rattle.code_flow_system.specs.Claims.{Claims}
use Rattle.code_flow_system.specs.Moves.{Code, code_of}
use Rattle.code_flow_system.specs.Systems.{System}
use Rattle.asm_items.specs.Placings.{end_of, start_of}
use Rattle.asm_graphs.specs.Graphs.{Graph}
use Rattle.asm_graphs.specs.Laid.{span_of, spans_from}
use Rattle.asm_graphs.proofs.RangeLemmas.{is_long}
use Rattle.asm_graphs.proofs.ReachedLemmas.{ends_within}
use Rattle.asm_program.specs.Functions.{graph_of}
use Rattle.claims_definition.specs.Listed.{Laid, claims_of, placing}
use Rattle.claims_bounds.specs.Flows.{HasFlows}
use Rattle.claims_bounds.proofs.FlowLemmas.{flows_keep_bounds}
use Rattle.claims_definition.proofs.Fitting.{claims_fit}
use Rattle.path_places.specs.Reached.{AreFilled}
use Rattle.path_flows.specs.CountLaws.{HasBounds}
use Rattle.claims_bounds.specs.Bounds.{LaidCanBound}
use Rattle.claims_bounds.proofs.LoopLemmas.{bounds, backs_apart}

module _ (l : Laid) (image : Image) (s : System) (has : HasFlows l image s) where
  abbrev g : Graph
  g = graph_of l.memory l.program

  abbrev code : Code
  code = code_of image (claims_of l)

  span_filled : (f : ℕ) → f < g.functions → start_of (placing l) f 0 < end_of (placing l) f
  span_filled f low =
      let some = has.laid.shaped.some f low in
      let long = is_long g (placing l) code has.laid.shaped has.laid.laid f 0 low some in
      let within = ends_within g (placing l) code has.laid.shaped has.laid.laid f 0 some in
      omega (arith, long, within)

  spans_filled : (f n : ℕ) → f + n ≤ g.functions → AreFilled (spans_from (placing l) f n)
  spans_filled f zero low = All-nil (λ (p : Span). p.first < p.end)
  spans_filled f (suc n) low =
      All-cons (λ (p : Span). p.first < p.end) (span_of (placing l) f) (spans_from (placing l) (suc f) n) (span_filled f (omega (arith, low))) (spans_filled (suc f) n (omega (arith, low)))

pub laid_can_bound : (c : Costs) → LaidCanBound (table_of c)
laid_can_bound c l image s ls has shaped h =
    let claims = has.system.same_claims in
    record {
      fit = record {
        fits = claims_fit l has.settled (length l.program.functions) image s ls has.laid has.system shaped;
        apart = backs_apart l image s has ls shaped;
        filled = spans_filled l image s has 0 (suc (length l.program.functions)) (omega arith);
      };
      facts = ap (λ (d : Claims). d.facts) claims;
      bounds = subst (λ (d : Claims). All HasBounds d.loops) (sym claims) (bounds l image s has h);
      loose = λ unit x loose. (flows_keep_bounds c l image s has unit x loose).below h.light;
      counts = λ unit x loose. (flows_keep_bounds c l image s has unit x loose).few (let light = h.light in omega (arith, light));
    }
