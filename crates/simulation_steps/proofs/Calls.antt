-- Calls and returns.
use Rattle.std.proofs.Common.{◌≡◌, ◌≢◌, ℕ, ◌+◌, ◌-◌, ◌*◌, ◌/◌, ◌%◌, ◌^◌, ◌≤◌, Bool, true, false, List, [], ◌∷◌, ◌++◌, Some, None, ℤ, pos, refl, sym, ap, ◌∙◌, subst, arith}
use Rattle.std.specs.Prelude.{◌==◌, not, nat_le, if◌then◌else◌}
use Rattle.std.proofs.lemmas.Bool.Decides.{nat_tests}
use Rattle.rv_core.specs.declared.op.Op.TheVariants.{Auipc, Jal, Jalr, Ecall}
use Rattle.rv_core.specs.Arithmetic.{displaced}
use Rattle.rv_core.specs.Instructions.{instruction}
use Rattle.rv_core.specs.Machine.{GoesTo, behind, register_of, with_register}
use Rattle.rv_core.specs.Code.{decoded, instruction_before, instruction_at}
use Rattle.rv_core.specs.Runs.{Calls, Returns, mrun, sets_upper, linkage_of_register, places_after, astray_after}
use Rattle.rv_core.proofs.Constancy.{mrun-fetched}
use Rattle.asm_items.specs.declared.item.Item.TheVariants as items
use Rattle.asm_items.specs.Offsets.{IsCodeAddress, offset, upper_part, lower_part}
use Rattle.asm_items.specs.Items.{jump_words, words, size, jump_size, return_word}
use Rattle.asm_items.specs.Standing.{HasWords, is_exit}
use Rattle.asm_items.proofs.OffsetLemmas.{displaced-offset, displaced-parts}
use Rattle.rv_steps.specs.Steps.{Later}
use Rattle.rv_steps.proofs.StepLemmas.{register-written, register-other, length-written}
use Rattle.low_ir.specs.declared.run.Began.{Began}
use Rattle.simulation_relation.specs.Noted.{Noted, noted}
use Rattle.simulation_relation.specs.Positions.{seen, Course, Rest}
use Rattle.simulation_steps.proofs.Given.{Given, run_of, state, reg, At}
use Rattle.simulation_steps.proofs.Stepping.{code_from}
use Rattle.simulation_steps.proofs.Standing.{op_of, Stood, step_to, step_linked, stands_there}
use Rattle.simulation_steps.proofs.Jumps.{behind_is, no_more}

-- a far call links to x1
far_calls : (resolved : Bool) (imm : ℤ) → linkage_of_register resolved (instruction Jalr 1 5 0 imm) ≡ Calls
far_calls resolved imm = refl

-- a jump through x1 that nothing resolves is a return
plain_returns : (resolved : Bool) → resolved ≡ false → linkage_of_register resolved return_word ≡ Returns
plain_returns resolved e = ap (λ b. linkage_of_register b return_word) e

same_test : (a : ℕ) → (a == a) ≡ true
same_test a = grind (arith, nat_tests)

module _ (g : Given) where
  -- the machine has come to an address with a return place; x1 has it, and x5 may have been written
  pub record Called (n m to back : ℕ) (trace : List Began) (returns : List ℕ) : Type 0 where
    pub stood : Stood g m to trace (back ∷ returns)
    pub link : reg g m 1 ≡ back
    pub registers : (q : ℕ) → q ≢ 1 → q ≢ 5 → reg g m q ≡ reg g n q
    pub world : (state g m).world ≡ (state g n).world

  not_exit : (a : ℕ) (imm : ℤ) → g.layout.code.fetch a ≡ Some (instruction Jalr 1 5 0 imm) → (b : Bool) → g.layout.code.exit a ≡ b → b ≡ false
  not_exit a imm fetched false e = refl
  not_exit a imm fetched true e = absurd (let same : Jalr ≡ Ecall = ap op_of (sym fetched ∙ g.laid.exits a e) in cc)

  call_runs : (P : ℕ → Type 0) (n a to back : ℕ) (trace : List Began) (returns : List ℕ) (far : Bool) → Stood g n a trace returns → IsCodeAddress a → IsCodeAddress to → back ≡ a + jump_size far → back ≤ 2 ^ 30 → HasWords g.layout.code a (jump_words far 1 a to) → g.layout.code.exit a ≡ false
      → (far ≡ true → g.layout.begins (a + 4) ≡ []) → ((m : ℕ) → Called n m to back (trace ++ g.layout.begins a) returns → Later P m) → Later P n
  call_runs P n a to back trace returns false h from target ends room words_are exit quiet go =
      let s = state g n in
      let count = h.count in
      let low = from.low in
      let next : behind a ≡ back = behind_is a low ∙ sym ends in
      step_linked g P n a trace returns (instruction Jal 1 0 0 (offset a to)) to (with_register s.registers 1 back) Calls h words_are.0 exit refl refl refl
      (ap (λ x. GoesTo (displaced x (offset a to)) (with_register s.registers 1 (behind x)) s.world) h.here
      ∙ ap (λ x. GoesTo x (with_register s.registers 1 (behind a)) s.world) (displaced-offset a to from target)
      ∙ ap (λ x. GoesTo to (with_register s.registers 1 x) s.world) next)
      (length-written s.registers 1 back ∙ count)
      (λ m w. go m
      (record {
        stood = subst (λ x. Stood g m to (trace ++ g.layout.begins a) (x ∷ returns)) next w.stood;
        link = ap (λ r. register_of r 1) w.registers_are ∙ register-written s.registers 1 back (omega arith) (omega arith);
        registers = λ q one five. ap (λ r. register_of r q) w.registers_are ∙ register-other s.registers 1 back q one;
        world = w.world;
      }))
  call_runs P n a to back trace returns true h from target ends room words_are exit quiet go =
      let s = state g n in
      let count = h.count in
      let low = from.low in
      let u = displaced a (upper_part a to) in
      step_to g P n a trace returns (instruction Auipc 5 0 0 (upper_part a to)) (a + 4) (with_register s.registers 5 u) h words_are.0 exit refl refl
      (ap (λ x. GoesTo (behind x) (with_register s.registers 5 (displaced x (upper_part a to))) s.world) h.here ∙ ap (λ x. GoesTo x (with_register s.registers 5 u) s.world) (behind_is a low))
      (length-written s.registers 5 u ∙ count)
      (λ m w.
      let t = state g m in
      let i = instruction Jalr 1 5 0 (lower_part a to) in
      let five : reg g m 5 ≡ u = ap (λ r. register_of r 5) w.registers_are ∙ register-written s.registers 5 u (omega arith) (omega arith) in
      let later_count = w.stood.count in
      let done = trace ++ g.layout.begins a in
      let here = w.stood.here in
      let next : behind (a + 4) ≡ back = omega arith in
      step_linked g P m (a + 4) done returns i to (with_register t.registers 1 back) Calls w.stood words_are.1.0 (not_exit (a + 4) (lower_part a to) words_are.1.0 (g.layout.code.exit (a + 4)) refl) refl
      (far_calls (sets_upper (instruction_before t.world.memory t.pc) 5) (lower_part a to)) refl
      (ap (λ x. GoesTo (displaced x (lower_part a to) / 2 * 2) (with_register t.registers 1 (behind t.pc)) t.world) five
      ∙ ap (λ x. GoesTo x (with_register t.registers 1 (behind t.pc)) t.world) (displaced-parts a to from target)
      ∙ ap (λ x. GoesTo to (with_register t.registers 1 (behind x)) t.world) here
      ∙ ap (λ x. GoesTo to (with_register t.registers 1 x) t.world) next)
      (length-written t.registers 1 back ∙ later_count)
      (λ j z. go j
      (record {
        stood = subst (λ x. Stood g j to done (x ∷ returns)) next (subst (λ x. Stood g j to x (behind (a + 4) ∷ returns)) (no_more done (g.layout.begins (a + 4)) (quiet refl)) z.stood);
        link = ap (λ r. register_of r 1) z.registers_are ∙ register-written t.registers 1 back (omega arith) (omega arith);
        registers = λ q one five_not. ap (λ r. register_of r q) z.registers_are ∙ register-other t.registers 1 back q one ∙ ap (λ r. register_of r q) w.registers_are ∙ register-other s.registers 5 u q five_not;
        world = z.world ∙ w.world;
      })))

  -- a call of a function, behind which the rest of the block goes on
  pub call_lays : (k : Course) (P : ℕ → Type 0) (n f : ℕ) (far : Bool) (xs : List Noted) → At g k n (noted (items.Call far f) ∷ xs)
      → ((back m : ℕ) → Rest g.layout k.function k.stop back xs → Called n m (g.layout.starts f 0) back k.trace k.returns → Later P m) → Later P n
  call_lays k P n f far xs h go =
      let l = g.layout in
      let a = (state g n).pc in
      let stands = h.code.1 in
      let form = stands.like.0 in
      let like : stands.form ≡ items.Call form f = stands.like.1 in
      let back = h.code.0 in
      let words_are = subst (λ x. HasWords l.code a (words l.starts k.function a x)) like stands.words in
      let ends : back ≡ a + jump_size form = stands.ends ∙ ap (λ x. a + size x) like in
      let rest = code_from l k.function k.stop back xs h.code.2 in
      let some = jump_some form in
      let even = stands.address.aligned in
      let fours = jump_fours form in
      call_runs P n a (l.starts f 0) back (seen l (mrun (run_of g) n).visits) k.returns form (stands_there g k n (noted (items.Call far f)) xs h) stands.address (g.laid.places f 0) ends stands.room words_are (stands.exit ∙ ap is_exit like)
      (λ is_far. h.quiet (a + 4) (omega arith) (let eight : jump_size form ≡ 8 = ap jump_size is_far in omega arith))
      (λ m c. go back m (record { aligned = omega arith; room = stands.room; code = h.code.2; quiet = λ b past less. h.quiet b (omega arith) less }) (subst (λ x. Called n m (l.starts f 0) back x k.returns) h.events c))
    where
      jump_some : (far : Bool) → 4 ≤ jump_size far
      jump_some false = omega arith
      jump_some true = omega arith

      jump_fours : (far : Bool) → jump_size far % 4 ≡ 0
      jump_fours false = refl
      jump_fours true = refl

  -- no return is resolved by what stands before it
  before_none : (n : ℕ) → sets_upper (instruction_before (state g n).world.memory (state g n).pc) 1 ≡ false
  before_none n = by_place (nat_le 4 (state g n).pc)
    where
      by_place : (b : Bool) → sets_upper (if b then instruction_at (state g n).world.memory ((state g n).pc - 4) else None) 1 ≡ false
      by_place false = refl
      by_place true =
          ap (λ o. sets_upper o 1) (ap decoded (mrun-fetched (run_of g) n ((state g n).pc - 4) g.loadable) ∙ sym (g.laid.fetches ((state g n).pc - 4))) ∙ g.laid.no_link ((state g n).pc - 4)

  pub record Returned (n m to : ℕ) (trace : List Began) (returns : List ℕ) : Type 0 where
    pub stood : Stood g m to trace returns
    pub registers : (q : ℕ) → reg g m q ≡ reg g n q
    pub world : (state g m).world ≡ (state g n).world

  -- a return to the latest place
  pub return_lays : (k : Course) (P : ℕ → Type 0) (n to : ℕ) (returns : List ℕ) (xs : List Noted) → At g k n (noted items.Return ∷ xs) → k.returns ≡ to ∷ returns → reg g n 1 ≡ to → to ≤ 2 ^ 30 → to % 2 ≡ 0
      → ((m : ℕ) → Returned n m to k.trace returns → Later P m) → Later P n
  return_lays k P n to returns xs h places link small even go =
      let l = g.layout in
      let s = state g n in
      let a = s.pc in
      let stands = h.code.1 in
      let like : stands.form ≡ items.Return = stands.like in
      let words_are = subst (λ x. HasWords l.code a (words l.starts k.function a x)) like stands.words in
      let count = h.count in
      let lands : displaced to (pos 0) / 2 * 2 ≡ to = omega arith in
      let fine : astray_after Returns to k.returns ≡ false = ap (astray_after Returns to) places ∙ ap not (same_test to) in
      step_linked g P n a (seen l (mrun (run_of g) n).visits) k.returns return_word to s.registers Returns (stands_there g k n (noted items.Return) xs h) words_are.0 (stands.exit ∙ ap is_exit like) refl
      (plain_returns (sets_upper (instruction_before s.world.memory s.pc) 1) (before_none n)) fine
      (ap (λ x. GoesTo (displaced x (pos 0) / 2 * 2) s.registers s.world) link ∙ ap (λ x. GoesTo x s.registers s.world) lands)
      count
      (λ m w. go m
      (record {
        stood = subst (λ t. Stood g m to t returns) h.events (subst (λ r. Stood g m to (seen l (mrun (run_of g) n).visits ++ l.begins a) r) (ap (places_after Returns a) places) w.stood);
        registers = λ q. ap (λ r. register_of r q) w.registers_are;
        world = w.world;
      }))
