-- Branches, by themselves or with the opposite condition over a jump.
use Rattle.std.proofs.Common.{◌≡◌, ◌≢◌, ℕ, ◌+◌, ◌^◌, ◌<◌, ◌≤◌, Bool, true, false, List, [], ◌∷◌, ◌++◌, Some, ℤ, pos, refl, sym, ap, ◌∙◌, subst, arith}
use Rattle.std.specs.Prelude.{not, nat_lt, int_lt, ◌==◌, if◌then◌else◌}
use Rattle.rv_core.specs.declared.op.Op.TheVariants.{Auipc, Jal, Ecall}
use Rattle.rv_core.specs.declared.row.Condition.{Condition}
use Rattle.rv_core.specs.declared.row.Condition.TheVariants.{Equal, NotEqual, Less, AtLeast, LessUnsigned, AtLeastUnsigned}
use Rattle.rv_core.specs.declared.row.Effect.TheVariants.{BranchIf}
use Rattle.rv_core.specs.Rows.{row_of}
use Rattle.rv_core.specs.Arithmetic.{signed, displaced, holds}
use Rattle.rv_core.specs.Instructions.{instruction, ecall}
use Rattle.rv_core.specs.Machine.{State, GoesTo, access_by, behind, branches, performed_by, register_of}
use Rattle.rv_core.specs.Code.{instruction_before}
use Rattle.rv_core.specs.Runs.{mrun, linkage_by}
use Rattle.asm_items.specs.declared.item.Form.{Form}
use Rattle.asm_items.specs.declared.item.Form.TheVariants.{Short, Inverted, Far}
use Rattle.asm_items.specs.declared.item.Item.TheVariants as items
use Rattle.asm_items.specs.Offsets.{IsCodeAddress, offset}
use Rattle.asm_items.specs.Items.{branch_op, opposite, jump_words, branch_words, words, size, jump_size, form_size}
use Rattle.asm_items.specs.Standing.{HasWords, is_exit}
use Rattle.asm_items.proofs.OffsetLemmas.{displaced-offset}
use Rattle.rv_steps.specs.Steps.{Later}
use Rattle.low_ir.specs.declared.run.Began.{Began}
use Rattle.simulation_relation.specs.Noted.{Noted, noted}
use Rattle.simulation_relation.specs.Layouts.{HasCode}
use Rattle.simulation_relation.specs.Positions.{seen, Course}
use Rattle.simulation_steps.proofs.Given.{Given, run_of, state, reg, At}
use Rattle.simulation_steps.proofs.Stepping.{code_from}
use Rattle.simulation_steps.proofs.Standing.{op_of, Stood, Moved, step_to, stands_there, to_run}
use Rattle.simulation_steps.proofs.Jumps.{Came, behind_is, no_more, jump_runs}

branch_row : (c : Condition) → (row_of (branch_op c)).effect ≡ BranchIf c
branch_row Equal = refl
branch_row NotEqual = refl
branch_row Less = refl
branch_row AtLeast = refl
branch_row LessUnsigned = refl
branch_row AtLeastUnsigned = refl

pub not_not : (a b : Bool) → not a ≡ b → a ≡ not b
not_not true b e = ap not e
not_not false b e = ap not e

pub opposite_holds : (c : Condition) (x y : ℕ) (b : Bool) → holds c x y ≡ b → holds (opposite c) x y ≡ not b
unfolding holds
opposite_holds Equal x y b e = ap not e
opposite_holds NotEqual x y b e = not_not (x == y) b e
opposite_holds Less x y b e = ap not e
opposite_holds AtLeast x y b e = not_not (int_lt (signed x) (signed y)) b e
opposite_holds LessUnsigned x y b e = ap not e
opposite_holds AtLeastUnsigned x y b e = not_not (nat_lt x y) b e

jump_some : (far : Bool) → 4 ≤ jump_size far
jump_some false = omega arith
jump_some true = omega arith

-- where a branch goes
branches_to : (imm : ℤ) (b : Bool) (s : State) → branches imm b s ≡ GoesTo (if b then displaced s.pc imm else behind s.pc) s.registers s.world
branches_to imm true s = refl
branches_to imm false s = refl

module _ (g : Given) where
  -- the machine goes on behind a branch; x5 may have been written
  pub record Passed (k : Course) (n m : ℕ) (xs : List Noted) : Type 0 where
    pub at : At g k m xs
    pub registers : (q : ℕ) → q ≢ 5 → reg g m q ≡ reg g n q
    pub world : (state g m).world ≡ (state g n).world

  not_exit : (a : ℕ) (b : Bool) → g.layout.code.exit a ≡ b → (g.layout.code.fetch a ≡ Some ecall → ⊥) → b ≡ false
  not_exit a false e other = refl
  not_exit a true e other = absurd (other (g.laid.exits a e))

  jump_exit : (a to : ℕ) (far : Bool) → HasWords g.layout.code a (jump_words far 0 a to) → g.layout.code.exit a ≡ false
  jump_exit a to false h = not_exit a (g.layout.code.exit a) refl (λ e. let same : Jal ≡ Ecall = ap op_of (sym h.0 ∙ e) in cc)
  jump_exit a to true h = not_exit a (g.layout.code.exit a) refl (λ e. let same : Auipc ≡ Ecall = ap op_of (sym h.0 ∙ e) in cc)

  -- the branch itself
  branch_step : (P : ℕ → Type 0) (n a : ℕ) (trace : List Began) (returns : List ℕ) (c : Condition) (x y : ℕ) (imm : ℤ) (u v : ℕ) (b : Bool) → Stood g n a trace returns → a < 2 ^ 30 → g.layout.code.fetch a ≡ Some (instruction (branch_op c) 0 x y imm) → g.layout.code.exit a ≡ false
      → reg g n x ≡ u → reg g n y ≡ v → holds c u v ≡ b → ((m : ℕ) → Moved g n m (if b then displaced a imm else (a + 4)) (trace ++ g.layout.begins a) returns (state g n).registers → Later P m) → Later P n
  branch_step P n a trace returns c x y imm u v b h low fetched exit left right is go =
      let s = state g n in
      let i = instruction (branch_op c) 0 x y imm in
      let count = h.count in
      step_to g P n a trace returns i (if b then displaced a imm else (a + 4)) s.registers h fetched exit
      (ap (λ e. access_by e i s) (branch_row c))
      (ap (λ e. linkage_by e (instruction_before s.world.memory s.pc) i) (branch_row c))
      (ap (λ e. performed_by e i s) (branch_row c)
      ∙ ap (λ z. branches imm (holds c z (reg g n y)) s) left
      ∙ ap (λ z. branches imm (holds c u z) s) right
      ∙ ap (λ z. branches imm z s) is
      ∙ branches_to imm b s
      ∙ ap (λ z. GoesTo (if b then displaced z imm else behind z) s.registers s.world) h.here
      ∙ ap (λ z. GoesTo (if b then displaced a imm else z) s.registers s.world) (behind_is a low))
      count go

  -- a jump behind the opposite branch
  over_jump : (P : ℕ → Type 0) (n a to : ℕ) (trace : List Began) (returns : List ℕ) (c : Condition) (x y : ℕ) (imm : ℤ) (u v : ℕ) (far : Bool) → Stood g n a trace returns → IsCodeAddress a → IsCodeAddress to → a + 4 + jump_size far ≤ 2 ^ 30
      → HasWords g.layout.code a (instruction (branch_op (opposite c)) 0 x y imm ∷ jump_words far 0 (a + 4) to) → g.layout.code.exit a ≡ false → ((b : ℕ) → a < b → b < a + 4 + jump_size far → g.layout.begins b ≡ [])
      → reg g n x ≡ u → reg g n y ≡ v → holds c u v ≡ true → ((m : ℕ) → Came g n m to (trace ++ g.layout.begins a) returns → Later P m) → Later P n
  over_jump P n a to trace returns c x y imm u v far h from target room words_are exit quiet left right is go =
      let low = from.low in
      let even = from.aligned in
      let done = trace ++ g.layout.begins a in
      let some = jump_some far in
      branch_step P n a trace returns (opposite c) x y imm u v false h low words_are.0 exit left right (opposite_holds c u v true is)
      (λ m w. jump_runs g P m (a + 4) to done returns far w.stood (record { low = omega arith; aligned = omega arith }) target room words_are.1 (jump_exit (a + 4) to far words_are.1)
      (λ is_far. quiet (a + 4 + 4) (omega arith) (let eight : jump_size far ≡ 8 = ap jump_size is_far in omega arith))
      (λ j z. go j
      (record {
        stood = subst (λ t. Stood g j to t returns) (no_more done (g.layout.begins (a + 4)) (quiet (a + 4) (omega arith) (omega arith))) z.stood;
        registers = λ q other. z.registers q other ∙ ap (λ r. register_of r q) w.registers_are;
        world = z.world ∙ w.world;
      })))

  -- the opposite branch over a jump
  past_jump : (P : ℕ → Type 0) (n a : ℕ) (trace : List Began) (returns : List ℕ) (c : Condition) (x y : ℕ) (imm : ℤ) (u v : ℕ) → Stood g n a trace returns → a < 2 ^ 30 → g.layout.code.fetch a ≡ Some (instruction (branch_op (opposite c)) 0 x y imm) → g.layout.code.exit a ≡ false
      → reg g n x ≡ u → reg g n y ≡ v → holds c u v ≡ false → ((m : ℕ) → Moved g n m (displaced a imm) (trace ++ g.layout.begins a) returns (state g n).registers → Later P m) → Later P n
  past_jump P n a trace returns c x y imm u v h low fetched exit left right is go = branch_step P n a trace returns (opposite c) x y imm u v true h low fetched exit left right (opposite_holds c u v false is) go

  -- the rest of the block behind a branch
  goes_past : (k : Course) (n m a : ℕ) (to : ℕ) (xs : List Noted) (trace : List Began) → trace ≡ k.trace → HasCode g.layout k.function k.stop to xs → ((b : ℕ) → to ≤ b → b < k.stop → g.layout.begins b ≡ []) → Moved g n m to trace k.returns (state g n).registers → Passed k n m xs
  goes_past k n m a to xs trace same code quiet w =
      record {
        at = to_run g k m to xs (subst (λ t. Stood g m to t k.returns) same w.stood) code quiet;
        registers = λ q other. ap (λ r. register_of r q) w.registers_are;
        world = w.world;
      }

  by_form : (k : Course) (P : ℕ → Type 0) (n a to next : ℕ) (form : Form) (c : Condition) (x y u v : ℕ) (xs : List Noted) (trace : List Began) (b : Bool) → trace ++ g.layout.begins a ≡ k.trace → Stood g n a trace k.returns → IsCodeAddress a → IsCodeAddress to
      → HasWords g.layout.code a (branch_words form c x y a to) → g.layout.code.exit a ≡ false → next ≡ a + form_size form → next ≤ 2 ^ 30 → next ≤ k.stop → HasCode g.layout k.function k.stop next xs → ((e : ℕ) → a < e → e < k.stop → g.layout.begins e ≡ [])
      → reg g n x ≡ u → reg g n y ≡ v → holds c u v ≡ b → (b ≡ true → (m : ℕ) → Came g n m to k.trace k.returns → Later P m) → (b ≡ false → (m : ℕ) → Passed k n m xs → Later P m) → Later P n
  by_form k P n a to next Short c x y u v xs trace true done h from target words_are exit ends room inside code quiet left right is taken other =
      branch_step P n a trace k.returns c x y (offset a to) u v true h from.low words_are.0 exit left right is
      (λ m w. taken refl m
      (record {
        stood = subst (λ t. Stood g m to t k.returns) done (subst (λ z. Stood g m z (trace ++ g.layout.begins a) k.returns) (displaced-offset a to from target) w.stood);
        registers = λ q apart. ap (λ r. register_of r q) w.registers_are;
        world = w.world;
      }))
  by_form k P n a to next Short c x y u v xs trace false done h from target words_are exit ends room inside code quiet left right is taken other =
      branch_step P n a trace k.returns c x y (offset a to) u v false h from.low words_are.0 exit left right is
      (λ m w. other refl m
      (goes_past k n m a next xs (trace ++ g.layout.begins a) done code (λ e past less. quiet e (omega arith) less)
      (subst (λ z. Moved g n m z (trace ++ g.layout.begins a) k.returns (state g n).registers) (sym ends) w)))
  by_form k P n a to next Inverted c x y u v xs trace true done h from target words_are exit ends room inside code quiet left right is taken other =
      over_jump P n a to trace k.returns c x y (pos 8) u v false h from target (omega arith) words_are exit (λ e past less. quiet e past (omega arith)) left right is
      (λ m z. taken refl m (subst (λ t. Came g n m to t k.returns) done z))
  by_form k P n a to next Inverted c x y u v xs trace false done h from target words_are exit ends room inside code quiet left right is taken other =
      let eight : displaced a (pos 8) ≡ next = let low = from.low in omega arith in
      past_jump P n a trace k.returns c x y (pos 8) u v h from.low words_are.0 exit left right is
      (λ m w. other refl m
      (goes_past k n m a next xs (trace ++ g.layout.begins a) done code (λ e past less. quiet e (omega arith) less)
      (subst (λ z. Moved g n m z (trace ++ g.layout.begins a) k.returns (state g n).registers) eight w)))
  by_form k P n a to next Far c x y u v xs trace true done h from target words_are exit ends room inside code quiet left right is taken other =
      over_jump P n a to trace k.returns c x y (pos 12) u v true h from target (omega arith) words_are exit (λ e past less. quiet e past (omega arith)) left right is
      (λ m z. taken refl m (subst (λ t. Came g n m to t k.returns) done z))
  by_form k P n a to next Far c x y u v xs trace false done h from target words_are exit ends room inside code quiet left right is taken other =
      let twelve : displaced a (pos 12) ≡ next = let low = from.low in omega arith in
      past_jump P n a trace k.returns c x y (pos 12) u v h from.low words_are.0 exit left right is
      (λ m w. other refl m
      (goes_past k n m a next xs (trace ++ g.layout.begins a) done code (λ e past less. quiet e (omega arith) less)
      (subst (λ z. Moved g n m z (trace ++ g.layout.begins a) k.returns (state g n).registers) twelve w)))

  -- a branch to a block, where the condition holds of two registers, or on
  pub branch_lays : (k : Course) (P : ℕ → Type 0) (n t : ℕ) (form : Form) (c : Condition) (x y u v : ℕ) (xs : List Noted) (b : Bool) → At g k n (noted (items.Branch form c x y t) ∷ xs) → reg g n x ≡ u → reg g n y ≡ v → holds c u v ≡ b
      → (b ≡ true → (m : ℕ) → Came g n m (g.layout.starts k.function t) k.trace k.returns → Later P m) → (b ≡ false → (m : ℕ) → Passed k n m xs → Later P m) → Later P n
  branch_lays k P n t form c x y u v xs b h left right is taken other =
      let l = g.layout in
      let a = (state g n).pc in
      let stands = h.code.1 in
      let shape = stands.like.0 in
      let like : stands.form ≡ items.Branch shape c x y t = stands.like.1 in
      by_form k P n a (l.starts k.function t) h.code.0 shape c x y u v xs (seen l (mrun (run_of g) n).visits) b h.events (stands_there g k n (noted (items.Branch form c x y t)) xs h) stands.address (g.laid.places k.function t)
      (subst (λ z. HasWords l.code a (words l.starts k.function a z)) like stands.words) (stands.exit ∙ ap is_exit like) (stands.ends ∙ ap (λ z. a + size z) like) stands.room
      (code_from l k.function k.stop h.code.0 xs h.code.2) h.code.2 h.quiet left right is taken other
