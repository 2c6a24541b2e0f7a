-- The laid program of what is made, and the flow system of its image.
use Rattle.std.proofs.Common.{◌≡◌, ℕ, suc, List, length, refl, ap, ◌∙◌, subst, inl}
use Rattle.rv_core.specs.Images.{Image}
use Rattle.rv_core.specs.Table.{Table}
use Rattle.code_flow_system.specs.Claims.{AreSound, Claims, flaws}
use Rattle.code_flow_system.specs.declared.claims.FactClaim.{FactClaim}
use Rattle.code_flow_system.specs.declared.claims.Never.{Never}
use Rattle.code_flow_system.specs.Shapes.{Fits}
use Rattle.code_flow_system.specs.Systems.{IsSystemOf, System}
use Rattle.facts_definitions.specs.declared.facts.Facts.{Facts}
use Rattle.types_tree.specs.Tree.{Program}
use Rattle.high_pass.specs.Listing.{LoopEntry}
use Rattle.claims_definition.specs.Listed.{Laid, claims_of, placing}
use Rattle.asm_graphs.specs.Laid.{spans_from}
use Rattle.claims_image.specs.Images.{laid_of}
use Rattle.asm_prices.proofs.TurnLemmas.{no_flaws}
use Rattle.image_definition.specs.Images.{image_in}
use Rattle.low_ir.specs.Places.{Placed}
use Rattle.low_ir.specs.Placings.{placed_of}
use Rattle.report_text.specs.Reports.{Report}
use Rattle.compile_claims.specs.ClaimLaws.{under}
use Rattle.compile_claims.specs.Named.{named}
use Rattle.compile_claims.proofs.Systems.{system_same}
use Rattle.compile_stages.specs.Made.{IsMade, copies_of}
use Rattle.compile_stages.specs.declared.made.Made.{Made}
use Rattle.compile_report_law.specs.Reported.{IsReported}

-- the claims of a system are sound
pub system_sound : (image : Image) (claims : Claims) (s : System) → IsSystemOf image claims s → AreSound claims
system_sound image claims s h = no_flaws (flaws claims) (λ n flaw. h.no_bad n (inl flaw))

module _ (names : List (List ℕ)) (program : Program) (facts : Facts) (m : Made) (t : Table) (r : Report) (made : IsMade names program facts m) (reported : IsReported t names facts m r) where
  abbrev pub over : Placed
  over = placed_of m.code

  abbrev pub laid : Laid
  laid = laid_of m.placement over

  abbrev pub es : List LoopEntry
  es = (copies_of m).loops

  abbrev pub ns : List Never
  ns = r.claims.nevers

  abbrev pub fs : List FactClaim
  fs = r.claims.facts

  pub claims_named : r.claims ≡ named es ns fs (claims_of laid)
  claims_named = reported.claims.claims ∙ ap (named es ns fs) made.in_memory.laid.claimed.claims

  system_named : IsSystemOf (image_in m.placement over) (named es ns fs (claims_of laid)) reported.system
  system_named =
      subst (λ image. IsSystemOf image (named es ns fs (claims_of laid)) reported.system) made.in_memory.laid.image
      (subst (λ claims. IsSystemOf m.laid.image claims reported.system) claims_named reported.is_system)

  -- functions fit the system
  pub spans_fit : Fits (under (claims_of laid) reported.system) m.laid.claimed.shapes.items (spans_from (placing laid) 0 (suc (length over.functions)))
  spans_fit =
      made.in_memory.keeps_low.claims.fits (under (claims_of laid) reported.system) m.laid.claimed.shapes.items
      (system_same es ns fs (image_in m.placement over) (claims_of laid) reported.system refl refl system_named) made.in_memory.laid.claimed.shapes
