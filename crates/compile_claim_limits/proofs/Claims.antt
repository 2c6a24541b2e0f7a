-- How many claims what is made has.
use Rattle.std.proofs.Common.{◌≡◌, ℕ, ◌+◌, ◌^◌, ◌<◌, ◌≤◌, List, length, sym, ap, subst, arith}
use Rattle.std.specs.Prelude.{sum_by}
use Rattle.std.specs.List.{flat_map}
use Rattle.wcc_base.specs.Budgets.{most_operations}
use Rattle.code_flow_system.specs.Claims.{Claims, claim_count}
use Rattle.facts_definitions.specs.declared.facts.Facts.{Facts}
use Rattle.types_tree.specs.Tree.{Program}
use Rattle.low_ir.specs.Placings.{placed_of}
use Rattle.claims_image.specs.Images.{laid_of}
use Rattle.claims_definition.specs.Listed.{places_below}
use Rattle.compile_claims.specs.Named.{nevers_at}
use Rattle.compile_stages.specs.declared.made.Made.{Made}
use Rattle.compile_stages.specs.Made.{IsMade, copies_of, high_of}
use Rattle.compile_claim_limits.proofs.Counts.{claims_loops, exits_few, places_few, regions_few}
use Rattle.compile_claim_limits.proofs.Marks.{nevers_few}

module _ (names : List (List ℕ)) (program : Program) (facts : Facts) (m : Made) (made : IsMade names program facts m) where
  -- one for each address of a never mark
  pub nevers_counted : length (flat_map (nevers_at m.laid.lists.places.items) (copies_of m).nevers) ≤ most_operations
  nevers_counted =
      let places = m.laid.lists.places.items in
      let few = nevers_few places (copies_of m) (high_of m).marks made.carried.carries.lists.marks in
      let standing = places_few (high_of m) made.carried.is_high made.carried.limited m.code made.lowered m.placement m.laid made.in_memory m.code.low.marks in
      let same : sum_by (λ (l : List ℕ). length l) places ≡ sum_by (λ (l : List ℕ). length l) (places_below (laid_of m.placement (placed_of m.code)) m.code.low.marks) = ap (λ ls. sum_by (λ (l : List ℕ). length l) ls) made.in_memory.laid.lists.places in
      omega (arith, few, standing, same)

  pub claims_counted : claim_count m.laid.claimed.claims + length (flat_map (nevers_at m.laid.lists.places.items) (copies_of m).nevers) + 32 < 2 ^ 32
  claims_counted =
      let nevers = nevers_counted in
      let exits = exits_few (high_of m) made.carried.is_high made.carried.limited m.code made.lowered m.placement m.laid made.in_memory in
      let regions = regions_few (high_of m) made.carried.is_high made.carried.limited m.code made.lowered m.placement m.laid made.in_memory in
      let loops = claims_loops (high_of m) made.carried.is_high made.carried.limited m.code made.lowered m.placement m.laid made.in_memory in
      subst (λ (c : Claims). claim_count c + length (flat_map (nevers_at m.laid.lists.places.items) (copies_of m).nevers) + 32 < 2 ^ 32) (sym made.in_memory.laid.claimed.claims) (omega (arith, nevers, exits, regions, loops))
