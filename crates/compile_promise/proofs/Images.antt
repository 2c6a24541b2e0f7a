-- The image of a source: its scratchpad has what is placed there, and its loads and stores lie in lines.
use Rattle.std.proofs.Common.{◌≡◌, ℕ, ◌<◌, ◌≤◌, List, refl, sym, ap, ◌∙◌, subst, true, Contains, All}
use Rattle.std.specs.Prelude.{slice_get}
use Rattle.std.proofs.lemmas.List.Elements.{All-contains_itself, All-weaker}
use Rattle.rv_core.specs.Images.{Image}
use Rattle.rv_core.specs.Rows.{row_of}
use Rattle.rv_core.specs.Table.{Table, accesses}
use Rattle.code_flow_system.specs.declared.claims.FactClaim.{FactClaim}
use Rattle.code_flow_system.specs.declared.claims.Never.{Never}
use Rattle.code_flow_system.specs.declared.claims.Within.{Within}
use Rattle.code_flow_system.specs.declared.moves.Move.{Move}
use Rattle.code_flow_system.specs.Claims.{Claims}
use Rattle.code_flow_system.specs.Systems.{IsSystemOf, System}
use Rattle.facts_definitions.specs.declared.facts.Facts.{Facts}
use Rattle.types_tree.specs.Tree.{Program}
use Rattle.high_ir.specs.Tree as high
use Rattle.high_pass.specs.Listing.{LoopEntry}
use Rattle.low_ir.specs.Code.{Object}
use Rattle.low_ir.specs.Places.{Placed, assignment, placed}
use Rattle.low_ir.specs.Placings.{placings_of}
use Rattle.low_ir.specs.Programs.{low_of}
use Rattle.lower_definition.specs.Objects.{object_of}
use Rattle.image_definition.specs.Images.{image_in}
use Rattle.claims_definition.specs.Listed.{Laid, claims_of, regions_of}
use Rattle.claims_image.specs.Images.{laid_of}
use Rattle.layout_relation.specs.Items.{HasElements}
use Rattle.report_text.specs.Reports.{Report}
use Rattle.compile_claims.specs.ClaimLaws.{under}
use Rattle.compile_claims.specs.Named.{named}
use Rattle.compile_claims.proofs.Systems.{system_same}
use Rattle.compile_stages.specs.declared.made.Made.{Made}
use Rattle.compile_stages.specs.Placed.{placed_bytes}
use Rattle.compile_stages.specs.Made.{IsMade, copies_of, high_of}
use Rattle.promise_report.specs.Compiled.{AreLined, IsLined, scratchpad_taken}
use Rattle.compile_report_law.specs.Reported.{IsReported}
use Rattle.compile_promise.proofs.Lined.{move_lined}
use Rattle.compile_names.proofs.Lists.{all_got, map_got}
use Rattle.compile_promise.proofs.Placed.{taken_few}

module _ (names : List (List ℕ)) (program : Program) (facts : Facts) (m : Made) (made : IsMade names program facts m) where
  abbrev over : Placed
  over = placed (assignment (placings_of m.code)) (low_of m.code.low)

  abbrev own : Laid
  own = laid_of m.placement over

  image_is : m.laid.image ≡ image_in m.placement over
  image_is = made.in_memory.laid.image

  pub made_take : scratchpad_taken m.laid.image.segments ≤ placed_bytes m.placement over
  made_take = subst (λ (i : Image). scratchpad_taken i.segments ≤ placed_bytes m.placement over) (sym image_is) (taken_few m.placement over (made.in_memory.keeps_low.small made.in_memory.moves))

  pub elements : HasElements over
  elements o x e =
      let from = map_got object_of (high_of m).objects o x (sym (ap (λ l. slice_get l o) made.lowered.keeps_program.objects) ∙ e) in
      subst (λ (z : Object). 0 < z.size) from.2 (all_got (λ (y : high.Object). 0 < y.size) (high_of m).objects o from.0 made.carried.elements from.1)

  module _ (t : Table) (r : Report) (s : System) (reported : IsReported t names facts m r) (system : IsSystemOf m.laid.image r.claims s) where
    abbrev es : List LoopEntry
    es = (copies_of m).loops

    abbrev ns : List Never
    ns = r.claims.nevers

    abbrev fs : List FactClaim
    fs = r.claims.facts

    claims_are : r.claims ≡ named es ns fs (claims_of own)
    claims_are = reported.claims.claims ∙ ap (named es ns fs) made.in_memory.laid.claimed.claims

    -- under the claims on the image, whose loops have numbers of their own
    own_system : IsSystemOf (image_in m.placement over) (claims_of own) (under (claims_of own) s)
    own_system =
        system_same es ns fs (image_in m.placement over) (claims_of own) s refl refl
        (subst (λ (c : Claims). IsSystemOf (image_in m.placement over) c s) claims_are (subst (λ (i : Image). IsSystemOf i r.claims s) image_is system))

    pub reported_lined : AreLined m.laid.image r s
    reported_lined =
        let kept = made.in_memory.keeps_low in
        let filled = kept.filled made.in_memory.moves elements in
        let Lined : Image → List Within → Move → Type 0 = λ image lines move. accesses (row_of move.instr.op).class ≡ true → IsLined image lines move in
        let each : All (Lined (image_in m.placement over) (regions_of own)) s.moves =
        All-weaker (Contains s.moves) (Lined (image_in m.placement over) (regions_of own)) (λ move there loads. move_lined own (image_in m.placement over) kept.claims (under (claims_of own) s) own_system kept.listed kept.lines filled move there loads) s.moves
        (All-contains_itself s.moves) in
        subst (λ (i : Image). All (Lined i r.claims.regions) s.moves) (sym image_is)
        (subst (λ (lines : List Within). All (Lined (image_in m.placement over) lines) s.moves) (sym (ap (λ (c : Claims). c.regions) claims_are)) each)
