-- A search can be made and a run keeps the claims that are handed on.
use Rattle.std.proofs.Common.{◌≡◌, ℕ, ℤ, List, [], ◌∷◌, map, sym, subst, All}
use Rattle.std.proofs.lemmas.List.Elements.{All-map, All-weaker}
use Rattle.rv_core.specs.Runs.{Run}
use Rattle.rv_core.specs.Table.{Table}
use Rattle.code_flow_system.specs.declared.claims.FactClaim.{FactClaim}
use Rattle.code_flow_system.specs.declared.claims.LoopClaim.{LoopClaim}
use Rattle.code_flow_system.specs.declared.claims.Never.{Never}
use Rattle.code_flow_system.specs.declared.shapes.LoopShape.{LoopShape}
use Rattle.code_flow_system.specs.declared.shapes.Span.{Span}
use Rattle.code_flow_system.specs.Claims.{Claims}
use Rattle.code_flow_system.specs.Counts.{Amounts, KeepsFact, KeepsLoop, KeepsNever}
use Rattle.code_flow_system.specs.KeptRuns.{KeepsClaims, visit_count}
use Rattle.code_flow_system.specs.Loose.{IsLoose, KeepsTurns}
use Rattle.code_flow_system.specs.Shapes.{AreShapesOf, Fits, IsLoop}
use Rattle.code_flow_system.specs.Systems.{System}
use Rattle.path_flows.specs.CountLaws.{HasBounds}
use Rattle.path_conditions.specs.Searching.{CanSearch}
use Rattle.path_conditions.specs.Bounding.{CanBound}
use Rattle.high_pass.specs.Listing.{LoopEntry}
use Rattle.high_pass.proofs.Elements.{All-map_back}
use Rattle.compile_claims.specs.ClaimLaws.{AreLightFacts, under}
use Rattle.compile_claims.specs.Named.{by_entries, named}

module _ (es : List LoopEntry) (ns : List Never) (fs : List FactClaim) where
  shapes_named : (cs : List LoopClaim) (ls : List LoopShape) → AreShapesOf cs ls → AreShapesOf (map (by_entries es) cs) ls
  shapes_named [] [] h = h
  shapes_named [] (l ∷ ls) h = h
  shapes_named (c ∷ cs) [] h = h
  shapes_named (c ∷ cs) (l ∷ ls) h = (h.0, h.1, shapes_named cs ls h.2)

  keeps_loop : (n : ℕ → ℤ) (c : LoopClaim) → KeepsLoop n c → KeepsLoop n (by_entries es c)
  keeps_loop n c h = record { least = h.least; most = h.most }

  pub run_keeps : (c : Claims) (r : Run) → All (KeepsNever (visit_count r.visits)) ns → All (KeepsFact (visit_count r.visits)) fs → KeepsClaims c r → KeepsClaims (named es ns fs c) r
  run_keeps c r nevers facts h = record {
    value = h.value;
    finished = h.finished;
    counts = record {
      nevers = nevers;
      loops = let n = visit_count r.visits in All-map (KeepsLoop n) (by_entries es) c.loops (All-weaker (KeepsLoop n) (λ x. KeepsLoop n (by_entries es x)) (keeps_loop n) c.loops h.counts.loops);
      facts = facts;
    };
    accesses = h.accesses;
    returns = h.returns;
    exit = h.exit;
    none_left = h.none_left;
  }

  module _ (c : Claims) (s : System) where
    loop_under : (l : LoopShape) → IsLoop (under c s) l → IsLoop (under (named es ns fs c) s) l
    loop_under l h = record { header = h.header; back = h.back; entry = h.entry; goes_back = h.goes_back; entered = h.entered }

    fits_named : (ls : List LoopShape) (ps : List Span) → Fits (under c s) ls ps → Fits (under (named es ns fs c) s) ls ps
    fits_named ls ps h = record {
      shapes = shapes_named c.loops ls h.shapes;
      nested = h.nested;
      loops = All-weaker (IsLoop (under c s)) (IsLoop (under (named es ns fs c) s)) loop_under ls h.loops;
      up = h.up;
      apart = h.apart;
      covered = h.covered;
      stays = h.stays;
      calls = h.calls;
    }

    loose_plain : (unit : ℕ) (x : Amounts) → IsLoose (under (named es ns fs c) s) unit x → IsLoose (under c s) unit x
    loose_plain unit x h = record {
      positive = h.positive;
      kept = h.kept;
      loops = All-map_back (KeepsTurns (under c s) unit x) (by_entries es) c.loops h.loops;
    }

    bound_named : (t : Table) (ls : List LoopShape) (ps : List Span) → CanBound t (under c s) ls ps → AreLightFacts (under c s) fs → CanSearch t (under (named es ns fs c) s) ls ps
    bound_named t ls ps h facts = record {
      fit = record { fits = fits_named ls ps h.fit.fits; apart = h.fit.apart; filled = h.fit.filled };
      bounds = All-map HasBounds (by_entries es) c.loops h.bounds;
      loose = λ unit x loose. h.loose unit x (loose_plain unit x loose);
      counts = λ unit x loose. h.counts unit x (loose_plain unit x loose);
      few = facts.few;
      natural = facts.natural;
      totals = λ x loose. facts.totals x (loose_plain 1 x loose);
    }

  pub bound_same : (t : Table) (c : Claims) (s : System) (ls : List LoopShape) (ps : List Span) → s.claims ≡ named es ns fs c → CanBound t (under c s) ls ps → AreLightFacts (under c s) fs → CanSearch t s ls ps
  bound_same t c s ls ps e h facts = subst (λ d. CanSearch t (under d s) ls ps) (sym e) (bound_named c s t ls ps h facts)
