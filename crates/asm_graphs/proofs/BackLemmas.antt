-- Jumps back: the last instruction of a latch alone goes back, and to its header.
use Rattle.std.proofs.Common.{◌≡◌, ◌⊎◌, ⊎_elim, inl, inr, ℕ, ◌+◌, ◌-◌, ◌^◌, ◌<◌, Bool, true, false, [], ◌∷◌, Contains, Some, None, refl, sym, ap, ◌∙◌, subst, arith}
use Rattle.rv_core.specs.declared.op.Op.TheVariants.{Auipc, Jal, Jalr}
use Rattle.rv_core.specs.Instructions.{Instruction, instruction}
use Rattle.rv_core.specs.Machine.{behind as next}
use Rattle.code_flow_system.specs.declared.moves.Move.{Move}
use Rattle.code_flow_system.specs.declared.moves.Way.TheVariants.{Next, Jumps}
use Rattle.code_flow_system.specs.Moves.{Code, move, moves_on, moves_at}
use Rattle.code_flow_system.specs.Shapes.{onward}
use Rattle.asm_items.specs.declared.item.Item.TheVariants.{Jump}
use Rattle.asm_items.specs.Offsets.{offset, upper_part, lower_part}
use Rattle.asm_items.specs.Items.{total}
use Rattle.asm_items.specs.Placings.{Placing, start_of}
use Rattle.asm_items.specs.Standing.{HasItems}
use Rattle.asm_items.specs.Outcomes.{IsWord}
use Rattle.asm_items.proofs.OffsetLemmas.{displaced-offset}
use Rattle.asm_items.proofs.MoveLemmas.{register_is}
use Rattle.asm_graphs.specs.Graphs.{Loop, Graph, IsShaped}
use Rattle.asm_graphs.specs.Laid.{IsLaid, last_of}
use Rattle.asm_graphs.proofs.WayLemmas.{one_of, moves_of_way}
use Rattle.asm_graphs.proofs.ReachedLemmas.{moves_good, is_small}
use Rattle.asm_graphs.proofs.RangeLemmas.{Known, Well, upto, behind, latch_in}

module _ (g : Graph) (l : Placing) (c : Code) (sh : IsShaped g) (laid : IsLaid g l c) where
  abbrev JumpsBack : ℕ → ℕ → Type 0
  JumpsBack a to = (i : Instruction) × (moves_at c a ≡ moves_on (Jumps to) a i)

  back_by : (f : ℕ) (k : Loop) (far : Bool) → HasItems (start_of l) c f (start_of l f k.latch) (Jump far k.header ∷ []) → JumpsBack (start_of l f k.latch + total (Jump far k.header ∷ []) - 4) (start_of l f k.header)
  back_by f k false h =
      let at = start_of l f k.latch in
      let to = start_of l f k.header in
      let i = instruction Jal 0 0 0 (offset at to) in
      let e : at + 4 - 4 ≡ at = omega arith in
      subst (λ n. JumpsBack n to) (sym e) (i, moves_of_way c at i (Jumps to) h.0.0 (ap Jumps (displaced-offset at to (laid.places f k.latch) (laid.places f k.header))))
  back_by f k true h =
      let at = start_of l f k.latch in
      let to = start_of l f k.header in
      let i = instruction Jalr 0 5 0 (lower_part at to) in
      let e : at + 8 - 4 ≡ at + 4 = omega arith in
      subst (λ n. JumpsBack n to) (sym e) (i, moves_of_way c (at + 4) i (Jumps to) h.0.1.0 (register_is c at to 0 (laid.places f k.latch) (laid.places f k.header) h.0))

  -- the moves of a jump back
  pub jumps_back : (f : ℕ) (k : Loop) → f < g.functions → Contains (g.loops f) k → JumpsBack (last_of l f k.latch) (start_of l f k.header)
  jumps_back f k i r =
      let b = laid.latch f k i r in
      subst (λ xs. JumpsBack (start_of l f k.latch + total xs - 4) (start_of l f k.header)) (sym b.1)
      (back_by f k b.0 (subst (HasItems (start_of l) c f (start_of l f k.latch)) b.1 (laid.stands f k.latch i (latch_in g l c sh laid f k r))))

  latch_by : (f : ℕ) (k : Loop) (a : ℕ) (low far : Bool) → a + 4 < 2 ^ 32 → HasItems (start_of l) c f (start_of l f k.latch) (Jump far k.header ∷ []) → IsWord (start_of l f k.latch) (Jump far k.header ∷ []) a low
      → (m : Move) (t : ℕ) → Contains (moves_at c a) m → Contains (onward m) t → (a < t) ⊎ (a ≡ start_of l f k.latch + total (Jump far k.header ∷ []) - 4)
  latch_by f k a low far small h (inr w) m t has on = absurd w
  latch_by f k a true false small h (inl w) m t has on = absurd w
  latch_by f k a false false small h (inl w) m t has on = inr (omega arith)
  latch_by f k a true true small h (inl w) m t has on = inr (omega arith)
  latch_by f k a false true small h (inl w) m t has on =
      let i = instruction Auipc 5 0 0 (upper_part (start_of l f k.latch) (start_of l f k.header)) in
      let moves = moves_of_way c a i Next (ap c.fetch w ∙ h.0.0) refl in
      let same : move a 0 i (Some (next a)) None ≡ m = one_of _ m (subst (λ ms. Contains ms m) moves has) in
      let e : next a ≡ t = one_of (next a) t (subst (λ n. Contains (onward n) t) (sym same) on) in
      inl (omega arith)

  latch_word : (f : ℕ) (k : Loop) (a t : ℕ) (low : Bool) (m : Move) → Contains (g.loops f) k → Known g l c sh laid a low f k.latch → Contains (moves_at c a) m → Contains (onward m) t → (a < t) ⊎ (a ≡ last_of l f k.latch)
  latch_word f k a t low m r n has on =
      let b = laid.latch f k n.function r in
      subst (λ xs. (a < t) ⊎ (a ≡ start_of l f k.latch + total xs - 4)) (sym b.1)
      (latch_by f k a low b.0 (is_small g l c sh laid a low f k.latch n)
      (subst (HasItems (start_of l) c f (start_of l f k.latch)) b.1 (laid.stands f k.latch n.function n.block))
      (subst (λ xs. IsWord (start_of l f k.latch) xs a low) b.1 n.word)
      m t has on)

  -- but for jumps back, what goes on within a function goes up
  pub goes_up : (a t : ℕ) (low : Bool) (f b : ℕ) (m : Move) → Known g l c sh laid a low f b → Contains (moves_at c a) m → Contains (onward m) t → (a < t) ⊎ ((k : Loop) × Contains (g.loops f) k × (a ≡ last_of l f k.latch))
  goes_up a t low f b m n has on =
      let good = moves_good g l c sh laid a low f b n m has in by_way (good.onward t on)
    where
      by_latch : (d : ℕ) → t ≡ start_of l f d → d < g.blocks f → (b < d) ⊎ ((k : Loop) × Contains (g.loops f) k × (b ≡ k.latch) × (d ≡ k.header)) → (a < t) ⊎ ((k : Loop) × Contains (g.loops f) k × (a ≡ last_of l f k.latch))
      by_latch d e j (inl less) = let u = upto g l c sh laid a low f b n in let v = behind g l c sh laid f b d n.function less j in inl (omega arith)
      by_latch d e j (inr z) =
          ⊎_elim
          (λ (less : a < t). inl less)
          (λ (last : a ≡ last_of l f z.0.latch). inr (z.0, z.1, last))
          (latch_word f z.0 a t low m z.1 (subst (λ x. Known g l c sh laid a low f x) z.2 n) has on)

      by_way : Well g l c sh laid f b a t → (a < t) ⊎ ((k : Loop) × Contains (g.loops f) k × (a ≡ last_of l f k.latch))
      by_way (inl q) = inl q.0
      by_way (inr (inl q)) = let e = q.0 in inl (omega arith)
      by_way (inr (inr q)) = by_latch q.0 q.2 (sh.stays f b q.0 q.1) (sh.up f b q.0 q.1)
