-- The flow system of what is made of a source, and the search for its greatest flow.
use Rattle.std.proofs.Common.{◌≡◌, ℕ, ◌≤◌, ℤ, pos, ◌*ℤ◌, ◌≤ℤ◌, false, List, None, refl, sym, subst, All, arith}
use Rattle.std.proofs.lemmas.Int.{ints}
use Rattle.frac128.specs.Terms.{int_sum_by}
use Rattle.rv_core.specs.declared.costs.Costs.{Costs}
use Rattle.rv_core.specs.Images.{Image}
use Rattle.rv_core.specs.Table.{table_of}
use Rattle.code_flow_system.specs.Claims.{Claims, fact_flaws, never_flaws}
use Rattle.code_flow_system.specs.declared.claims.FactClaim.{FactClaim}
use Rattle.code_flow_system.specs.declared.claims.Never.{Never}
use Rattle.code_flow_system.specs.Counts.{Amounts, count}
use Rattle.code_flow_system.specs.Loose.{IsLoose}
use Rattle.code_flow_system.specs.Systems.{IsSystemOf, System}
use Rattle.code_flow.specs.CodeFaults.{IsFault}
use Rattle.code_flow.specs.declared.finding.CodeFault.{CodeFault}
use Rattle.code_flow.specs.declared.finding.CodeFault.TheVariants.{Memory}
use Rattle.facts_definitions.specs.FlowFacts.{AreFacts}
use Rattle.facts_definitions.specs.declared.facts.Facts.{Facts}
use Rattle.facts_sources.specs.Sources.{IsSource}
use Rattle.facts_limits.specs.Limits.{AreLimited}
use Rattle.facts_limits.proofs.Limited.{are_limited}
use Rattle.types_tree.specs.Tree as c
use Rattle.plan_law.proofs.Sources.{checked}
use Rattle.high_ir.specs.Weight.{reach}
use Rattle.high_pass.specs.Listing.{LoopEntry}
use Rattle.low_ir.specs.Code.{Low}
use Rattle.low_ir.specs.declared.places.LowReg.{LowReg}
use Rattle.low_ir.specs.Placings.{placed_of}
use Rattle.low_ir.specs.Programs.{low_of}
use Rattle.low_ir.specs.Room.{reach as low_reach}
use Rattle.layout_program.specs.declared.laid.Laid as lays
use Rattle.claims_definition.specs.Listed.{Laid, claims_of, places_of}
use Rattle.claims_image.specs.Images.{HasClaims, laid_of}
use Rattle.image_definition.specs.Images.{image_in}
use Rattle.layout_relation.specs.Kept.{IsLight}
use Rattle.path_conditions.specs.Searching.{CanSearch}
use Rattle.path_conditions.specs.Bounding.{CanBound}
use Rattle.report_text.specs.declared.entries.CopyLine.{CopyLine}
use Rattle.compile_claims.specs.ClaimLaws.{AreLightFacts, under}
use Rattle.compile_claims.specs.Named.{named}
use Rattle.compile_claims.proofs.Bounds.{bound_same}
use Rattle.compile_claims.proofs.Systems.{system_same}
use Rattle.compile_restrictions.specs.Laws.{AreFactClaims}
use Rattle.compile_restrictions.proofs.Forms.{told-claims}
use Rattle.compile_stages.specs.declared.made.Made.{Made}
use Rattle.compile_stages.specs.Made.{IsInMemory, IsMade, copies_of, high_of}
use Rattle.image_frames.specs.Memories.{Placement}
use Rattle.compile_source_claims.proofs.Standing.{nevers_fine}
use Rattle.compile_capacity.proofs.Light.{most_limited, source_light}
use Rattle.compile_capacity.proofs.Whole.{all_kept}
use Rattle.compile_bound_law.specs.Laws.{AreTold}
use Rattle.compile_bound_law.proofs.Faults.{only_memory}
use Rattle.compile_bound_law.proofs.Lines.{lines_aligned, lines_ascend, lines_light}
use Rattle.compile_bound_law.proofs.Restrictions.{facts_fine, facts_light}

-- of a program in memory, under the claims that are handed on
module _ (pl : Placement) (code : LowReg) (y : lays.Laid) (h : IsInMemory pl code y) (es : List LoopEntry) (ns : List Never) (fs : List FactClaim) where
  abbrev low : Low
  low = low_of code.low

  abbrev laid : Laid
  laid = laid_of pl (placed_of code)

  abbrev claims : Claims
  claims = claims_of laid

  has_claims : HasClaims laid y.image
  has_claims = subst (λ (i : Image). HasClaims laid i) (sym h.laid.image) h.keeps_low.claims

  has_system : All (λ flaw. flaw ≡ false) (never_flaws None ns) → All (λ flaw. flaw ≡ false) (fact_flaws fs) → (fault : CodeFault) → IsFault y.image (named es ns fs y.claimed.claims) fault → fault ≡ Memory
  has_system own facts fault is = only_memory laid y.image has_claims es ns fs own facts fault (subst (λ (c : Claims). IsFault y.image (named es ns fs c) fault) h.laid.claimed.claims is)

  module _ (s : System) (is : IsSystemOf y.image (named es ns fs y.claimed.claims) s) where
    own_system : IsSystemOf y.image (named es ns fs claims) s
    own_system = subst (λ (k : Claims). IsSystemOf y.image (named es ns fs k) s) h.laid.claimed.claims is

    -- the system under the claims of the program alone
    pub plain_system : IsSystemOf (image_in pl (placed_of code)) claims (under claims s)
    plain_system = subst (λ (i : Image). IsSystemOf i claims (under claims s)) h.laid.image (system_same es ns fs y.image claims s refl refl own_system)

    pub can_bound : IsLight low → (c : Costs) → AreLightFacts (under claims s) fs → CanSearch (table_of c) s y.claimed.shapes.items y.lists.spans.items
    can_bound light c facts =
        let shapes = y.claimed.shapes.items in
        let can = h.keeps_low.bounded c (under claims s) shapes plain_system h.laid.claimed.shapes light in
        bound_same es ns fs (table_of c) claims s shapes y.lists.spans.items own_system.same_claims (subst (λ ps. CanBound (table_of c) (under claims s) shapes ps) (sym h.laid.lists.spans) can) facts

module _ (source : List ℕ) (names : List (List ℕ)) (program : c.Program) (facts : Facts) (m : Made) (is : IsSource source names program facts) (made : IsMade names program facts m) where
  abbrev q : Low
  q = low_of m.code.low

  are : AreFacts program names facts
  are = (checked source names program facts is).facts_are

  pub light : IsLight q
  light =
      let carried = made.carried in
      let keeps = made.lowered.keeps_program in
      record {
        turns = all_kept program names facts (high_of m) (copies_of m) q are carried.carries carried.is_high keeps;
        light = source_light program names facts (high_of m) q are carried.weight keeps;
      }

  limited : AreLimited facts
  limited = are_limited source names program facts is

  -- whatever is handed on
  module _ (lines : List CopyLine) (told : Claims) (h : AreTold names facts m lines told) where
    abbrev es : List LoopEntry
    es = (copies_of m).loops

    are_claims : AreFactClaims facts lines told.facts
    are_claims = told-claims facts lines told.facts limited (lines_ascend names program facts m made lines h.lined) h.restricted

    pub made_only_memory : (fault : CodeFault) → IsFault m.laid.image told fault → fault ≡ Memory
    made_only_memory fault faulty =
        has_system m.placement m.code m.laid made.in_memory es told.nevers told.facts (nevers_fine names program facts m made told h.handed)
        (facts_fine lines (lines_aligned names program facts m made lines h.lined) told.facts are_claims.standing)
        fault (subst (λ (c : Claims). IsFault m.laid.image c fault) h.handed.claims faulty)

    module _ (c : Costs) (s : System) (system : IsSystemOf m.laid.image told s) where
      named_system : IsSystemOf m.laid.image (named es told.nevers told.facts m.laid.claimed.claims) s
      named_system = subst (λ (k : Claims). IsSystemOf m.laid.image k s) h.handed.claims system

      abbrev own : System
      own = under (claims_of (laid_of m.placement (placed_of m.code))) s

      -- per unit the addresses of a mark are visited at most as often as the program may reach it
      mark_within : (x : Amounts) → IsLoose own 1 x → (mark : ℕ) → int_sum_by (count x s.moves) (places_of (laid_of m.placement (placed_of m.code)) mark) ≤ℤ pos (reach (high_of m) mark)
      mark_within x loose mark =
          let kept = made.in_memory.keeps_low in
          let bounds = kept.flows c own (plain_system m.placement m.code m.laid made.in_memory es told.nevers told.facts s named_system) 1 x loose in
          let some = bounds.marks mark in
          let same = kept.rooms.reach mark in
          let few = made.lowered.keeps_program.reach mark in
          below (int_sum_by (count x s.moves) (places_of (laid_of m.placement (placed_of m.code)) mark)) (low_reach (placed_of m.code) mark) (low_reach q mark) (reach (high_of m) mark) some same few
        where
          below : (z : ℤ) (a b d : ℕ) → z ≤ℤ (pos 1 *ℤ pos a) → a ≡ b → b ≤ d → z ≤ℤ pos d
          below z a b d h e k = omega (arith, ints)

      light_facts : AreLightFacts own told.facts
      light_facts = record {
        few = let many = are_claims.count in let most = limited.few in omega (arith, many, most);
        natural = are_claims.natural;
        totals = λ x loose. facts_light facts lines told.facts (count x s.moves) limited h.restricted (most_limited program names facts are)
            (lines_light names program facts m made lines h.lined (count x s.moves) (mark_within x loose));
      }

      pub made_bounded : CanSearch (table_of c) s m.laid.claimed.shapes.items m.laid.lists.spans.items
      made_bounded = can_bound m.placement m.code m.laid made.in_memory es told.nevers told.facts s named_system light c light_facts
