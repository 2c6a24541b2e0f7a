-- What the lists of claims are of a laid program.
use Rattle.std.proofs.Common.{◌≡◌, ℕ, List, [], map, sym, ap, ◌∙◌}
use Rattle.std.specs.Prelude.{Option}
use Rattle.rv_core.specs.declared.regions.Region.{Region}
use Rattle.code_flow_system.specs.declared.claims.LoopClaim.{LoopClaim}
use Rattle.code_flow_system.specs.declared.claims.Within.{Within}
use Rattle.code_flow_system.specs.Claims.{Claims}
use Rattle.asm_forms.specs.Regions.{bases_of}
use Rattle.asm_placed.specs.Exits.{exits_of, functions_exits}
use Rattle.low_ir.specs.Placings.{placed_of}
use Rattle.asm_program.specs.Frames.{Memory}
use Rattle.claims_definition.specs.Touches.{program_touches}
use Rattle.claims_definition.specs.Listed.{Laid, claims_of, functions_of, loops_of, regions_of}
use Rattle.claims_lists.specs.declared.laying.Laying.{Laying}
use Rattle.claims_regions.specs.declared.walks.Touched.{Touched}
use Rattle.claims_regions.specs.Seen.{AreSeen, seen, view}
use Rattle.claims_touches.specs.declared.touch.Touch as names
use Rattle.claims_touches.specs.Named.{AreTouches}
use Rattle.claims_making.specs.Sights.{region_in}
use Rattle.claims_making.specs.Whole.{IsWhole}
use Rattle.claims_making.proofs.Sighted.{all_same}

module _ (y : Laying) (regions : List Region) (touches : List (List (List names.Touch))) (l : Laid) (whole : IsWhole y regions touches l) where
  -- the regions of what is touched
  pub are_seen : (all : List (List (List (Option Touched)))) → ((m : Memory) → AreTouches y.code.now m touches → map (map (map view)) all ≡ map (map (map (seen (region_in regions)))) (program_touches m (placed_of y.code.now))) → AreSeen l all
  are_seen all e =
      e l.memory whole.touches
      ∙ ap (λ p. map (map (map (seen (region_in regions)))) (program_touches l.memory p)) (sym whole.is.program)
      ∙ sym (all_same l.regions (region_in regions) whole.regions (program_touches l.memory l.program))

  pub exits_same : functions_exits y.layout.now.bases.items 0 y.layout.now.functions.items ≡ exits_of l.rows (functions_of l)
  exits_same =
      ap (λ b. functions_exits b 0 y.layout.now.functions.items) whole.is.laid.bases
      ∙ ap (functions_exits (bases_of l.rows (functions_of l)) 0) whole.is.laid.functions

  pub claims_same : (exits : List ℕ) (lines : List Within) (loops : List LoopClaim) (claims : Claims) → claims ≡ record { exits = exits; nevers = []; regions = lines; loops = loops; facts = [] } → exits ≡ functions_exits y.layout.now.bases.items 0 y.layout.now.functions.items → lines ≡ regions_of l → loops ≡ loops_of l → claims ≡ claims_of l
  claims_same exits lines loops claims made e ls ks =
      let build : List ℕ → List Within → List LoopClaim → Claims = λ es rs cs. record { exits = es; nevers = []; regions = rs; loops = cs; facts = [] } in
      made
      ∙ ap (λ es. build es lines loops) (e ∙ exits_same)
      ∙ ap (λ rs. build (exits_of l.rows (functions_of l)) rs loops) ls
      ∙ ap (λ cs. build (exits_of l.rows (functions_of l)) (regions_of l) cs) ks
