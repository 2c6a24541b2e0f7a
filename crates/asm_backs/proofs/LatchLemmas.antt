-- The last instruction of a latch is counted as often as its first.
use Rattle.std.proofs.Common.{◌≡◌, ℕ, ◌+◌, ◌-◌, ◌<◌, Bool, true, false, [], ◌∷◌, Contains, Some, None, refl, sym, ap, ◌∙◌, subst, arith}
use Rattle.std.specs.Prelude.{nat_le, if◌then◌else◌}
use Rattle.std.proofs.lemmas.Bool.Decides.{nat_tests}
use Rattle.rv_core.specs.declared.op.Op.TheVariants.{Auipc, Jalr}
use Rattle.rv_core.specs.Instructions.{Instruction, instruction}
use Rattle.rv_core.specs.Images.{Image}
use Rattle.rv_core.specs.Machine.{behind as next}
use Rattle.code_flow_system.specs.declared.moves.Way.TheVariants.{Next}
use Rattle.code_flow_system.specs.Claims.{Claims}
use Rattle.code_flow_system.specs.Moves.{Code, code_of, fetch_before, move, moves_at}
use Rattle.code_flow_system.specs.Reach.{resolves, is_resolved}
use Rattle.code_flow_system.specs.Systems.{System, IsSystemOf}
use Rattle.code_flow_system.specs.Counts.{Amounts, count, IsConserved}
use Rattle.asm_items.specs.declared.item.Item.TheVariants.{Jump}
use Rattle.asm_items.specs.Offsets.{upper_part, lower_part}
use Rattle.asm_items.specs.Items.{total}
use Rattle.asm_items.specs.Placings.{Placing, start_of}
use Rattle.asm_items.specs.Standing.{HasItems}
use Rattle.asm_graphs.specs.Graphs.{Loop, Graph}
use Rattle.asm_graphs.specs.Laid.{IsImageOf, last_of}
use Rattle.asm_graphs.proofs.WayLemmas.{moves_of_way}
use Rattle.asm_graphs.proofs.RangeLemmas.{latch_in}
use Rattle.asm_backs.proofs.PairLemmas.{pair_counted}

-- the instruction behind another one
before_is : (c : Code) (a : ℕ) (i : Instruction) → c.fetch a ≡ Some i → fetch_before c (a + 4) ≡ Some i
before_is c a i there =
    let test : nat_le 4 (a + 4) ≡ true = grind (arith, nat_tests) in
    let at : a + 4 - 4 ≡ a = omega arith in
    ap (λ (b : Bool). if b then c.fetch (a + 4 - 4) else None) test ∙ ap c.fetch at ∙ there

module _ (g : Graph) (l : Placing) (main : ℕ) (image : Image) (claims : Claims) (s : System) (here : IsImageOf g l main image claims) (sys : IsSystemOf image claims s) (unit : ℕ) (x : Amounts) (conserved : IsConserved s.entry unit x s.moves) where
  abbrev c : Code
  c = code_of image claims

  abbrev counted : ℕ → ℕ → Type 0
  counted b a = count x s.moves b ≡ count x s.moves a

  by_form : (f : ℕ) (k : Loop) (far : Bool) → HasItems (start_of l) c f (start_of l f k.latch) (Jump far k.header ∷ []) → counted (start_of l f k.latch + total (Jump far k.header ∷ []) - 4) (start_of l f k.latch)
  by_form f k false h = let e : start_of l f k.latch + 4 - 4 ≡ start_of l f k.latch = omega arith in ap (count x s.moves) e
  by_form f k true h =
      let at = start_of l f k.latch in
      let to = start_of l f k.header in
      let first = instruction Auipc 5 0 0 (upper_part at to) in
      let second = instruction Jalr 0 5 0 (lower_part at to) in
      let low = (here.laid.places f k.latch).low in
      let behind_it : next at ≡ at + 4 = omega (arith, low) in
      let moves : moves_at c at ≡ move at 0 first (Some (at + 4)) None ∷ [] = moves_of_way c at first Next h.0.0 refl ∙ ap (λ n. move at 0 first (Some n) None ∷ []) behind_it in
      let resolved : is_resolved c (at + 4) ≡ true = ap (λ o. resolves o (c.fetch (at + 4))) (before_is c at first h.0.0) ∙ ap (λ o. resolves (Some first) o) h.0.1.0 in
      let e : at + 8 - 4 ≡ at + 4 = omega arith in
      ap (count x s.moves) e ∙ pair_counted image claims s sys at first resolved moves unit x conserved

  pub latch_counted : (f : ℕ) (k : Loop) → f < g.functions → Contains (g.loops f) k → counted (last_of l f k.latch) (start_of l f k.latch)
  latch_counted f k i r =
      let b = here.laid.latch f k i r in
      subst (λ xs. counted (start_of l f k.latch + total xs - 4) (start_of l f k.latch)) (sym b.1)
      (by_form f k b.0 (subst (HasItems (start_of l) c f (start_of l f k.latch)) b.1 (here.laid.stands f k.latch i (latch_in g l c here.shaped here.laid f k r))))
