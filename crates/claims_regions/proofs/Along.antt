-- The lines of a laid program.
use Rattle.std.proofs.Common.{◌≡◌, ℕ, List, [], length, map, ap, ◌∙◌}
use Rattle.std.specs.Prelude.{Option, slice_index_or}
use Rattle.std.specs.List.{flat_map}
use Rattle.asm_items.specs.Placings.{base_of, blocks_of}
use Rattle.claims_definition.specs.Lines.{line_of}
use Rattle.claims_definition.specs.Touches.{program_touches}
use Rattle.claims_definition.specs.Listed.{Laid, accesses_in, accesses_of, by_address, placing, regions_of}
use Rattle.claims_lists.specs.declared.laying.Laying.{Laying}
use Rattle.claims_lists.specs.Lists.{IsOf}
use Rattle.claims_lists.specs.Places.{blocks_in}
use Rattle.claims_lists.specs.Rows.{ordered}
use Rattle.claims_lists.proofs.Listing.{base_same, blocks_same, order_same}
use Rattle.claims_regions.specs.declared.walks.Touched.{Touched}
use Rattle.claims_regions.specs.Merging.{merged}
use Rattle.claims_regions.specs.Seen.{AreSeen}
use Rattle.claims_regions.specs.Singles.{blocks_singles, singles_in}
use Rattle.claims_regions.proofs.Merged.{merged_lines}
use Rattle.claims_regions.proofs.Walked.{all_are, blocks_are, function_is}

pub regions_same : (y : Laying) (l : Laid) (all : List (List (List (Option Touched)))) → IsOf y l → AreSeen l all → merged (flat_map (singles_in all y.layout.now) (ordered y.placed.now (length y.layout.now.functions.items))) ≡ regions_of l
regions_same y l all is seen =
    ap merged (ap (flat_map (singles_in all y.layout.now)) (order_same y l is) ∙ all_are (singles_in all y.layout.now) (accesses_in l) each (by_address l))
    ∙ merged_lines (accesses_of l)
  where
    each : (f : ℕ) → singles_in all y.layout.now f ≡ map line_of (accesses_in l f)
    each f =
        let ts = slice_index_or all f [] in
        let us = slice_index_or (program_touches l.memory l.program) f [] in
        ap (λ a. blocks_singles a ts 0 (blocks_in y.layout.now f)) (base_same y l is f)
        ∙ ap (λ bs. blocks_singles (base_of (placing l) f) ts 0 bs) (blocks_same y l is f)
        ∙ blocks_are l.regions (base_of (placing l) f) ts us (blocks_of (placing l) f) (function_is l.regions all (program_touches l.memory l.program) f seen)
