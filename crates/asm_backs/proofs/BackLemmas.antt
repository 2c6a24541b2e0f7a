-- The last instruction of a latch is visited as often as its first.
use Rattle.std.proofs.Common.{◌≡◌, ℕ, ◌+◌, ◌-◌, ◌<◌, Bool, true, false, List, [], ◌∷◌, Contains, sym, ◌∙◌, subst, arith}
use Rattle.std.specs.Prelude.{◌%◌}
use Rattle.std.proofs.lemmas.Bool.Decides.{nat_tests}
use Rattle.rv_core.specs.Images.{Image, AreLoadable}
use Rattle.rv_core.specs.Table.{Table}
use Rattle.rv_core.specs.Runs.{Run, setup, mrun}
use Rattle.code_flow_system.specs.Claims.{Claims, is_aligned}
use Rattle.code_flow_system.specs.Systems.{System, IsSystemOf}
use Rattle.code_flow_system.specs.KeptRuns.{visit_count, tally}
use Rattle.asm_items.specs.declared.item.Item.TheVariants.{Jump}
use Rattle.asm_items.specs.Items.{total}
use Rattle.asm_items.specs.Placings.{Placing, start_of}
use Rattle.asm_graphs.specs.Graphs.{Loop, Graph}
use Rattle.asm_graphs.specs.Laid.{IsImageOf, last_of}
use Rattle.asm_backs.proofs.LatchLemmas.{latch_counted}
use Rattle.asm_backs.specs.Laws.{HasEnded}
use Rattle.asm_backs.proofs.RatioLemmas.{conserved, visited_alike}

even : (a : ℕ) → a % 4 ≡ 0 → is_aligned a ≡ true
even a h = grind (arith, nat_tests, h)

-- also the second instruction of a far jump
even_last : (a to : ℕ) (far : Bool) → a % 4 ≡ 0 → (a + total (Jump far to ∷ []) - 4) % 4 ≡ 0
even_last a to false h = omega (arith, h)
even_last a to true h = omega (arith, h)

module _ (g : Graph) (l : Placing) (main : ℕ) (image : Image) (claims : Claims) (s : System) (here : IsImageOf g l main image claims) (sys : IsSystemOf image claims s) (loadable : AreLoadable image.segments) (t : Table) (input : List ℕ) (n : ℕ) (ended : HasEnded claims.exits (mrun (setup image t input) n)) where
  abbrev run : Run
  run = mrun (setup image t input) n

  pub latch_visited : (f : ℕ) (k : Loop) → f < g.functions → Contains (g.loops f) k → visit_count run.visits (last_of l f k.latch) ≡ visit_count run.visits (start_of l f k.latch)
  latch_visited f k i r =
      let last = last_of l f k.latch in
      let start = start_of l f k.latch in
      let form = here.laid.latch f k i r in
      let at : s.entry ≡ start_of l main 0 = sys.same_entry ∙ here.entry in
      let entry : is_aligned s.entry ≡ true = even s.entry (subst (λ a. a % 4 ≡ 0) (sym at) (here.laid.places main 0).aligned) in
      let first : start % 4 ≡ 0 = (here.laid.places f k.latch).aligned in
      let second : last % 4 ≡ 0 = subst (λ xs. (start + total xs - 4) % 4 ≡ 0) (sym form.1) (even_last start k.header form.0 first) in
      visited_alike image claims s sys loadable t input n ended last start entry (even last second) (even start first)
      (latch_counted g l main image claims s here sys 1 (tally run.visits) (conserved image claims s sys loadable t input n ended last start entry (even last second) (even start first)) f k i r)
