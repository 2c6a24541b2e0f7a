-- Jumps, by one instruction or by two.
use Rattle.std.proofs.Common.{◌≡◌, ◌≢◌, ℕ, ◌+◌, ◌*◌, ◌/◌, ◌^◌, ◌<◌, ◌≤◌, Bool, true, false, List, [], ◌∷◌, ◌++◌, Some, ℤ, refl, sym, ap, ◌∙◌, subst, arith}
use Rattle.std.proofs.lemmas.List.{append-nil}
use Rattle.rv_core.specs.declared.op.Op.TheVariants.{Auipc, Jal, Jalr, Ecall}
use Rattle.rv_core.specs.Arithmetic.{displaced}
use Rattle.rv_core.specs.Instructions.{instruction}
use Rattle.rv_core.specs.Machine.{GoesTo, behind, register_of, with_register}
use Rattle.rv_core.specs.Code.{instruction_before}
use Rattle.rv_core.specs.Runs.{Stays, mrun, sets_upper, linkage_of_register}
use Rattle.asm_items.specs.declared.item.Item.TheVariants as items
use Rattle.asm_items.specs.Offsets.{IsCodeAddress, offset, upper_part, lower_part}
use Rattle.asm_items.specs.Items.{jump_words, words, size, jump_size}
use Rattle.asm_items.specs.Standing.{HasWords, is_exit}
use Rattle.asm_items.proofs.OffsetLemmas.{displaced-offset, displaced-parts}
use Rattle.rv_steps.specs.Steps.{Later}
use Rattle.rv_steps.proofs.StepLemmas.{register-written, register-other, length-written}
use Rattle.low_ir.specs.declared.run.Began.{Began}
use Rattle.simulation_relation.specs.Noted.{Noted, noted}
use Rattle.simulation_relation.specs.Positions.{seen, Course}
use Rattle.simulation_steps.proofs.Given.{Given, run_of, state, reg, At}
use Rattle.simulation_steps.proofs.Stepping.{code_from}
use Rattle.simulation_steps.proofs.Standing.{op_of, Stood, step_to, stands_there}

-- a jump through x5 to which nothing links
far_stays : (resolved : Bool) (imm : ℤ) → linkage_of_register resolved (instruction Jalr 0 5 0 imm) ≡ Stays
far_stays true imm = refl
far_stays false imm = refl

pub behind_is : (a : ℕ) → a < 2 ^ 30 → behind a ≡ a + 4
behind_is a h = omega arith

pub no_more : (trace : List Began) (b : List Began) → b ≡ [] → trace ++ b ≡ trace
no_more trace b e = ap (λ x. trace ++ x) e ∙ append-nil trace

module _ (g : Given) where
  -- the machine has come to an address; x5 may have been written
  pub record Came (n m to : ℕ) (trace : List Began) (returns : List ℕ) : Type 0 where
    pub stood : Stood g m to trace returns
    pub registers : (q : ℕ) → q ≢ 5 → reg g m q ≡ reg g n q
    pub world : (state g m).world ≡ (state g n).world

  not_exit : (a : ℕ) (imm : ℤ) → g.layout.code.fetch a ≡ Some (instruction Jalr 0 5 0 imm) → (b : Bool) → g.layout.code.exit a ≡ b → b ≡ false
  not_exit a imm fetched false e = refl
  not_exit a imm fetched true e = absurd (let same : Jalr ≡ Ecall = ap op_of (sym fetched ∙ g.laid.exits a e) in cc)

  -- the words of a jump
  pub jump_runs : (P : ℕ → Type 0) (n a to : ℕ) (trace : List Began) (returns : List ℕ) (far : Bool) → Stood g n a trace returns → IsCodeAddress a → IsCodeAddress to → a + jump_size far ≤ 2 ^ 30 → HasWords g.layout.code a (jump_words far 0 a to) → g.layout.code.exit a ≡ false
      → (far ≡ true → g.layout.begins (a + 4) ≡ []) → ((m : ℕ) → Came n m to (trace ++ g.layout.begins a) returns → Later P m) → Later P n
  jump_runs P n a to trace returns false h from target room words_are exit quiet go =
      let s = state g n in
      let count = h.count in
      step_to g P n a trace returns (instruction Jal 0 0 0 (offset a to)) to s.registers h words_are.0 exit refl refl
      (ap (λ x. GoesTo (displaced x (offset a to)) s.registers s.world) h.here ∙ ap (λ x. GoesTo x s.registers s.world) (displaced-offset a to from target)) count
      (λ m w. go m (record { stood = w.stood; registers = λ q other. ap (λ r. register_of r q) w.registers_are; world = w.world }))
  jump_runs P n a to trace returns true h from target room words_are exit quiet go =
      let s = state g n in
      let count = h.count in
      let low = from.low in
      let u = displaced a (upper_part a to) in
      step_to g P n a trace returns (instruction Auipc 5 0 0 (upper_part a to)) (a + 4) (with_register s.registers 5 u) h words_are.0 exit refl refl
      (ap (λ x. GoesTo (behind x) (with_register s.registers 5 (displaced x (upper_part a to))) s.world) h.here ∙ ap (λ x. GoesTo x (with_register s.registers 5 u) s.world) (behind_is a low))
      (length-written s.registers 5 u ∙ count)
      (λ m w.
      let t = state g m in
      let i = instruction Jalr 0 5 0 (lower_part a to) in
      let five : reg g m 5 ≡ u = ap (λ r. register_of r 5) w.registers_are ∙ register-written s.registers 5 u (omega arith) (omega arith) in
      let later_count = w.stood.count in
      let done = trace ++ g.layout.begins a in
      step_to g P m (a + 4) done returns i to t.registers w.stood words_are.1.0 (not_exit (a + 4) (lower_part a to) words_are.1.0 (g.layout.code.exit (a + 4)) refl) refl
      (far_stays (sets_upper (instruction_before t.world.memory t.pc) 5) (lower_part a to))
      (ap (λ x. GoesTo (displaced x (lower_part a to) / 2 * 2) t.registers t.world) five ∙ ap (λ x. GoesTo x t.registers t.world) (displaced-parts a to from target))
      later_count
      (λ j z. go j
      (record {
        stood = subst (λ x. Stood g j to x returns) (no_more done (g.layout.begins (a + 4)) (quiet refl)) z.stood;
        registers = λ q other. ap (λ r. register_of r q) z.registers_are ∙ ap (λ r. register_of r q) w.registers_are ∙ register-other s.registers 5 u q other;
        world = z.world ∙ w.world;
      })))

  -- a jump to a block
  pub jump_lays : (k : Course) (P : ℕ → Type 0) (n t : ℕ) (far : Bool) (xs : List Noted) → At g k n (noted (items.Jump far t) ∷ xs) → ((m : ℕ) → Came n m (g.layout.starts k.function t) k.trace k.returns → Later P m) → Later P n
  jump_lays k P n t far xs h go =
      let l = g.layout in
      let a = (state g n).pc in
      let stands = h.code.1 in
      let form = stands.like.0 in
      let like : stands.form ≡ items.Jump form t = stands.like.1 in
      let words_are = subst (λ x. HasWords l.code a (words l.starts k.function a x)) like stands.words in
      let exit = stands.exit ∙ ap is_exit like in
      let ends : h.code.0 ≡ a + jump_size form = stands.ends ∙ ap (λ x. a + size x) like in
      let room = stands.room in
      let rest = code_from l k.function k.stop h.code.0 xs h.code.2 in
      let target = l.starts k.function t in
      jump_runs P n a target (seen l (mrun (run_of g) n).visits) k.returns form (stands_there g k n (noted (items.Jump far t)) xs h) stands.address (g.laid.places k.function t) (omega arith) words_are exit
      (λ is_far. h.quiet (a + 4) (omega arith) (let eight : jump_size form ≡ 8 = ap jump_size is_far in omega arith))
      (λ m c. go m (subst (λ x. Came n m target x k.returns) h.events c))
