-- The loops of what is made of a source have numbers below how many there are, and those of the source have small ones.
use Rattle.std.proofs.Common.{ℕ, ◌^◌, ◌<◌, List, map, sym, ap, subst, All}
use Rattle.std.proofs.lemmas.List.Elements.{All-contains, All-map, All-nil, All-same, All-weaker}
use Rattle.code_flow_system.specs.Claims.{Claims}
use Rattle.code_flow_system.specs.declared.claims.LoopClaim.{LoopClaim}
use Rattle.facts_definitions.specs.declared.facts.Facts.{Facts}
use Rattle.facts_sources.specs.Sources.{IsSource}
use Rattle.types_tree.specs.Tree as c
use Rattle.plan_carried.specs.Sources.{source_behaviour}
use Rattle.high_ir.specs.Formed.{IsHigh}
use Rattle.high_ir.specs.Standing.{Bounded, loops_in}
use Rattle.high_ir.specs.Tree.{Program}
use Rattle.high_ir.specs.declared.copies.LoopCopies.{LoopCopies}
use Rattle.high_ir.specs.declared.copies.NeverMark.{NeverMark}
use Rattle.high_pass.specs.Carries.{StartsFewer, bounds_of}
use Rattle.high_pass.specs.Listing.{Listing, LoopEntry, listed_loops, loop_entry as entry_of}
use Rattle.high_pass.proofs.Continuing.{each_loop, loops_below}
use Rattle.high_pass.proofs.Counting.{all_below}
use Rattle.high_pass.proofs.Elements.{All-map_back, at_or}
use Rattle.high_pass.proofs.Origins.{StartsFewer-there}
use Rattle.low_ir.specs.Code.{Loop}
use Rattle.low_ir.specs.declared.places.LowReg.{LowReg}
use Rattle.low_ir.specs.Placings.{assignment_of, placed_of}
use Rattle.low_ir.specs.Programs.{low_of}
use Rattle.asm_program.specs.Functions.{PlacedFunction, function_in, no_function}
use Rattle.layout_program.specs.declared.laid.Laid as lays
use Rattle.claims_definition.specs.ClaimLaws.{AreLoopClaims, IsClaimOf}
use Rattle.claims_definition.specs.Listed.{Laid, loops_of}
use Rattle.claims_image.specs.Images.{laid_of}
use Rattle.compile_stages.specs.declared.made.Made.{Made}
use Rattle.compile_stages.specs.Made.{IsInMemory, IsLowered, IsMade, copies_of, high_of}
use Rattle.image_frames.specs.Memories.{Placement}
use Rattle.plan_law.proofs.Sources.{checked}
use Rattle.compile_capacity.proofs.Few.{source_loops_few}
use Rattle.compile_capacity.proofs.Lowering.{EachLoop, lowered_each, placed_each}
use Rattle.compile_bound_law.specs.Laws.{CanBeNamed}

-- loops with numbers below one
module _ (n : ℕ) where
  abbrev IsBelow : Bounded → Type 0
  IsBelow l = l.id < n

  abbrev IsThere : LoopClaim → Type 0
  IsThere c = c.source < n

  -- of a laid program, so are those of its claims
  module _ (l : Laid) (each : EachLoop IsBelow l.program) where
    claim_there : (c : LoopClaim) → IsClaimOf l c → IsThere c
    claim_there c own =
        let loops = at_or (λ (fn : PlacedFunction). All (λ (k : Loop). k.id < n) fn.loops) l.program.functions own.function no_function each (All-nil (λ (k : Loop). k.id < n)) in
        subst IsThere (sym own.is) (All-contains (λ (k : Loop). k.id < n) (function_in l.program own.function).loops own.loop loops own.there)

    claims_there : AreLoopClaims l → All IsThere (loops_of l)
    claims_there claims = All-weaker (IsClaimOf l) IsThere claim_there (loops_of l) claims.each

-- of a program in memory
memory_there : (p : Program) (pl : Placement) (code : LowReg) (y : lays.Laid) → IsHigh p → IsLowered p code → IsInMemory pl code y → All (IsThere p.loops) y.claimed.claims.loops
memory_there p pl code y high lowered h =
    let below = All-map_back (λ x. x < p.loops) (λ l. l.id) (loops_in p.functions) (loops_below p high) in
    let low = lowered_each (IsBelow p.loops) p (low_of code.low) lowered.keeps_program below in
    let each = placed_each (IsBelow p.loops) (assignment_of code) (low_of code.low) low in
    subst (λ (c : Claims). All (IsThere p.loops) c.loops) (sym h.laid.claimed.claims) (claims_there p.loops (laid_of pl (placed_of code)) each h.keeps_low.loops)

abbrev number_of : Bounded → ℕ
number_of l = l.id

module _ (source : List ℕ) (names : List (List ℕ)) (program : c.Program) (facts : Facts) (m : Made) (is : IsSource source names program facts) (made : IsMade names program facts m) where
  abbrev p : Program
  p = high_of m

  abbrev listing : Listing
  listing = copies_of m

  abbrev loops : List Bounded
  loops = (source_behaviour program names facts).loops

  few : All (λ x. x < 2 ^ 26) (map number_of loops)
  few = All-map (λ x. x < 2 ^ 26) number_of loops (source_loops_few names program facts (checked source names program facts is))

  -- copies are listed by the loops of the source
  old_small : All (λ (e : LoopCopies). e.old < 2 ^ 26) m.stages.last.copies.loops.items
  old_small =
      let olds = All-same (λ x. x < 2 ^ 26) (map (λ (e : LoopEntry). e.old) listing.loops) (map number_of loops) made.carried.carries.loops few in
      All-map_back (λ (e : LoopEntry). e.old < 2 ^ 26) entry_of m.stages.last.copies.loops.items (All-map_back (λ x. x < 2 ^ 26) (λ (e : LoopEntry). e.old) listing.loops olds)

  -- a loop that makes fewer starts is one of the source
  nevers_small : All (λ (v : NeverMark). v.old < 2 ^ 26) m.stages.last.copies.nevers.items
  nevers_small = All-weaker (λ (v : NeverMark). StartsFewer (bounds_of loops v.old) v.factor) (λ (v : NeverMark). v.old < 2 ^ 26)
      (λ v fewer. StartsFewer-there loops (2 ^ 26) v.factor v.old few fewer) m.stages.last.copies.nevers.items made.carried.carries.nevers

  pub can_be_named : CanBeNamed m
  can_be_named =
      record {
        there = memory_there p m.placement m.code m.laid made.carried.is_high made.lowered made.in_memory;
        listed = each_loop (λ x. x < p.loops) listing (all_below p.loops (listed_loops listing) made.carried.carries.lists.loops);
        old = old_small;
        nevers = nevers_small;
        plain = ap (λ (c : Claims). c.nevers) made.in_memory.laid.claimed.claims;
        facts = ap (λ (c : Claims). c.facts) made.in_memory.laid.claimed.claims;
      }
