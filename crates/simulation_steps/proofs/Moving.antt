-- Constants come into registers, and words go between registers and memory.
use Rattle.std.proofs.Common.{◌≡◌, ◌≢◌, ◌⊎◌, ℕ, ◌+◌, ◌*◌, ◌%◌, ◌^◌, ◌<◌, ◌≤◌, Bool, true, false, List, [], ◌∷◌, ◌++◌, Some, ℤ, pos, ◌-ℤ◌, refl, sym, ap, ◌∙◌, subst}
use Rattle.std.specs.Prelude.{◌==◌, if◌then◌else◌}
use Rattle.rv_core.specs.declared.op.Op.{Op}
use Rattle.rv_core.specs.declared.op.Op.TheVariants.{Lw, Sw}
use Rattle.rv_core.specs.declared.row.Effect.TheVariants.{Read, Write}
use Rattle.rv_core.specs.declared.row.Width.{Width}
use Rattle.rv_core.specs.declared.row.Width.TheVariants.{Word as Whole}
use Rattle.rv_core.specs.Rows.{row_of}
use Rattle.rv_core.specs.Arithmetic.{word, displaced, alu_value, byte_count, extended}
use Rattle.rv_core.specs.Instructions.{instruction, addi}
use Rattle.rv_core.specs.declared.regions.Region.TheVariants.{Ram}
use Rattle.rv_core.specs.Regions.{region_of}
use Rattle.rv_core.specs.Memory.{loaded, read_from, written_to}
use Rattle.rv_core.specs.Stores.{frames_of, AreBeside}
use Rattle.rv_core.specs.Machine.{World, Traps, access_by, access_of, performed_by, sets, reads, reads_at, writes, writes_at, register_of}
use Rattle.rv_core.specs.Code.{instruction_before}
use Rattle.rv_core.specs.Runs.{linkage_by}
use Rattle.rv_core.proofs.Storing.{read-stored, read-beside_store}
use Rattle.rv_core.proofs.Framing.{mrun-frames, loaded-beside}
use Rattle.rv_steps.specs.Steps.{Later}
use Rattle.asm_program.specs.Numbers.{base, base_address, is_near, upper_of, lower_of, load_upper, constant_code, load_word, store_word, move_code}
use Rattle.asm_program.specs.Operands.{load_code, store_code}
use Rattle.claims_definition.specs.Touches.{Touch, OfFrame}
use Rattle.simulation_relation.specs.Noted.{Noted, single, singles, touching}
use Rattle.simulation_relation.specs.Layouts.{AreOpen, IsOpen}
use Rattle.simulation_relation.specs.Positions.{Course}
use Rattle.simulation_steps.proofs.Given.{Given, run_of, state, reg, read, memory, At}
use Rattle.simulation_steps.proofs.Words.{word-signed, upper-small, parts-joined, short-joined, upper-even, near-joined, word-plus-none, zero-test, test-zero, test-same}
use Rattle.simulation_steps.proofs.Opened.{can_read, can_write}
use Rattle.simulation_steps.proofs.Touching.{Allows, touched, touches_at}
use Rattle.simulation_steps.proofs.Stepping.{Wrote, go_on, set_one}

module _ (g : Given) where
  -- a register was written twice
  pub wrote_again : (k : Course) (n m j rd u v : ℕ) (xs ys : List Noted) → Wrote g k n m rd u xs → Wrote g k m j rd v ys → Wrote g k n j rd v ys
  wrote_again k n m j rd u v xs ys a b = record { at = b.at; world = b.world ∙ a.world; value = b.value; others = λ q other. b.others q other ∙ a.others q other }

  pub add_immediate : (k : Course) (P : ℕ → Type 0) (n : ℕ) (xs : List Noted) (rd rs : ℕ) (imm : ℤ) → 0 < rd → rd < 32 → At g k n (single (addi rd rs imm) ∷ xs) → ((m : ℕ) → Wrote g k n m rd ((reg g n rs + word imm) % 2 ^ 32) xs → Later P m) → Later P n
  unfolding alu_value
  add_immediate k P n xs rd rs imm some less h go = set_one g k P n (addi rd rs imm) xs rd ((reg g n rs + word imm) % 2 ^ 32) some less h tt refl refl go

  pub upper : (k : Course) (P : ℕ → Type 0) (n : ℕ) (xs : List Noted) (r w : ℕ) → 0 < r → r < 32 → At g k n (single (load_upper r w) ∷ xs) → ((m : ℕ) → Wrote g k n m r (upper_of w) xs → Later P m) → Later P n
  upper k P n xs r w some less h go = set_one g k P n (load_upper r w) xs r (upper_of w) some less h tt refl (ap (λ x. sets r x (state g n)) (word-signed (upper_of w) (upper-small w))) go

  constant_by : (k : Course) (P : ℕ → Type 0) (n : ℕ) (xs : List Noted) (r w : ℕ) (short even : Bool) → 0 < r → r < 32 → w < 2 ^ 32 → (upper_of w == 0) ≡ short → (w % 2 ^ 12 == 0) ≡ even
      → At g k n (singles (if short then addi r 0 (lower_of w) ∷ [] else (if even then load_upper r w ∷ [] else load_upper r w ∷ addi r r (lower_of w) ∷ [])) ++ xs) → ((m : ℕ) → Wrote g k n m r w xs → Later P m) → Later P n
  constant_by k P n xs r w true even some less small is_short is_even h go =
      add_immediate k P n xs r 0 (lower_of w) some less h
      (λ m a. go m (record { at = a.at; world = a.world; value = a.value ∙ short-joined w small (test-zero (upper_of w) is_short); others = a.others }))
  constant_by k P n xs r w false true some less small is_short is_even h go =
      upper k P n xs r w some less h
      (λ m a. go m (record { at = a.at; world = a.world; value = a.value ∙ upper-even w small (test-zero (w % 2 ^ 12) is_even); others = a.others }))
  constant_by k P n xs r w false false some less small is_short is_even h go =
      upper k P n (single (addi r r (lower_of w)) ∷ xs) r w some less h
      (λ m a. add_immediate k P m xs r r (lower_of w) some less a.at
      (λ j b. go j (wrote_again k n m j r (upper_of w) w (single (addi r r (lower_of w)) ∷ xs) xs a
      (record { at = b.at; world = b.world; value = b.value ∙ ap (λ x. (x + word (lower_of w)) % 2 ^ 32) a.value ∙ parts-joined w small; others = b.others }))))

  -- a word comes into a register
  pub constant : (k : Course) (P : ℕ → Type 0) (n : ℕ) (xs : List Noted) (r w : ℕ) → 0 < r → r < 32 → w < 2 ^ 32 → At g k n (singles (constant_code r w) ++ xs) → ((m : ℕ) → Wrote g k n m r w xs → Later P m) → Later P n
  constant k P n xs r w some less small h go = constant_by k P n xs r w (upper_of w == 0) (w % 2 ^ 12 == 0) some less small refl refl h go

  move_by : (k : Course) (P : ℕ → Type 0) (n : ℕ) (xs : List Noted) (r from w : ℕ) (same : Bool) → 0 < r → r < 32 → w < 2 ^ 32 → reg g n from ≡ w → (r == from) ≡ same
      → At g k n (singles (if same then [] else addi r from (pos 0) ∷ []) ++ xs) → ((m : ℕ) → Wrote g k n m r w xs → Later P m) → Later P n
  move_by k P n xs r from w true some less small is same h go = go n (record { at = h; world = refl; value = ap (reg g n) (test-same r from same) ∙ is; others = λ q other. refl })
  move_by k P n xs r from w false some less small is same h go =
      add_immediate k P n xs r from (pos 0) some less h
      (λ m a. go m (record { at = a.at; world = a.world; value = a.value ∙ ap (λ x. (x + word (pos 0)) % 2 ^ 32) is ∙ word-plus-none w small; others = a.others }))

  -- a register comes into another one
  pub move : (k : Course) (P : ℕ → Type 0) (n : ℕ) (xs : List Noted) (r from w : ℕ) → 0 < r → r < 32 → w < 2 ^ 32 → reg g n from ≡ w → At g k n (singles (move_code r from) ++ xs) → ((m : ℕ) → Wrote g k n m r w xs → Later P m) → Later P n
  move k P n xs r from w some less small is h go = move_by k P n xs r from w (r == from) some less small is refl h go

  -- a load of what is read at its address
  pub load_any : (k : Course) (P : ℕ → Type 0) (n : ℕ) (xs : List Noted) (t : Touch) (op : Op) (w : Width) (sign : Bool) (rd rs : ℕ) (imm : ℤ) (a v : ℕ) → (row_of op).effect ≡ Read w sign → 0 < rd → rd < 32
      → displaced (reg g n rs) imm ≡ a → a % byte_count w ≡ 0 → Allows g.layout t a → read g n w a ≡ Some v → At g k n (touching t (instruction op rd rs 0 imm) ∷ xs) → ((m : ℕ) → Wrote g k n m rd (extended w sign v) xs → Later P m) → Later P n
  load_any k P n xs t op w sign rd rs imm a v effect some less lands aligned allowed found h go =
      let i = instruction op rd rs 0 imm in
      let s = state g n in
      set_one g k P n i xs rd (extended w sign v) some less h
      (touches_at g.layout s.pc a (access_of i s) (ap (λ e. access_by e i s) effect ∙ ap Some lands) (touched g.layout k.function s.pc h.code.0 a (touching t i) h.code.1 allowed))
      (ap (λ e. linkage_by e (instruction_before s.world.memory s.pc) i) effect)
      (ap (λ e. performed_by e i s) effect
      ∙ ap (λ x. reads_at rd (w, sign) x s) lands
      ∙ ap (λ b. if b then reads rd (w, sign) (read g n w a) s else Traps 5) (zero-test (a % byte_count w) aligned)
      ∙ ap (λ o. reads rd (w, sign) o s) found)
      go

  pub load_one : (k : Course) (P : ℕ → Type 0) (n : ℕ) (xs : List Noted) (rd rs : ℕ) (imm : ℤ) (a v : ℕ) → 0 < rd → rd < 32 → displaced (reg g n rs) imm ≡ a → a % 4 ≡ 0 → region_of a ≡ Some Ram → read g n Whole a ≡ Some v
      → At g k n (single (load_word rd rs imm) ∷ xs) → ((m : ℕ) → Wrote g k n m rd v xs → Later P m) → Later P n
  unfolding extended
  load_one k P n xs rd rs imm a v some less lands aligned inside found h go = load_any k P n xs OfFrame Lw Whole true rd rs imm a v refl some less lands aligned inside found h go

  load_by : (k : Course) (P : ℕ → Type 0) (n : ℕ) (xs : List Noted) (r a v : ℕ) (near : Bool) → 0 < r → r < 32 → reg g n base ≡ base_address → a < 2 ^ 32 → a % 4 ≡ 0 → region_of a ≡ Some Ram → read g n Whole a ≡ Some v
      → At g k n (singles ((if near then [] else load_upper r a ∷ []) ++ load_word r (if near then base else r) (if near then pos a -ℤ pos base_address else lower_of a) ∷ []) ++ xs)
      → ((m : ℕ) → Wrote g k n m r v xs → Later P m) → Later P n
  load_by k P n xs r a v true some less based small aligned inside found h go =
      load_one k P n xs r base (pos a -ℤ pos base_address) a v some less (ap (λ x. displaced x (pos a -ℤ pos base_address)) based ∙ near-joined a small) aligned inside found h go
  load_by k P n xs r a v false some less based small aligned inside found h go =
      let rest = single (load_word r r (lower_of a)) ∷ xs in
      upper k P n rest r a some less h
      (λ m b. load_one k P m xs r r (lower_of a) a v some less (ap (λ x. displaced x (lower_of a)) b.value ∙ parts-joined a small) aligned inside (ap (λ (x : World). read_from (λ c. c.read) Whole x.memory a) b.world ∙ found) b.at
      (λ j c. go j (wrote_again k n m j r (upper_of a) v rest xs b c)))

  -- a word of memory comes into a register
  pub load : (k : Course) (P : ℕ → Type 0) (n : ℕ) (xs : List Noted) (r a v : ℕ) → 0 < r → r < 32 → reg g n base ≡ base_address → a < 2 ^ 32 → a % 4 ≡ 0 → region_of a ≡ Some Ram → read g n Whole a ≡ Some v
      → At g k n (singles (load_code r a) ++ xs) → ((m : ℕ) → Wrote g k n m r v xs → Later P m) → Later P n
  load k P n xs r a v some less based small aligned inside found h go = load_by k P n xs r a v (is_near a) some less based small aligned inside found h go

  -- a number was stored; t is a register that may have been written for its address
  pub record Stored (k : Course) (n m t : ℕ) (w : Width) (a v : ℕ) (xs : List Noted) : Type 0 where
    pub at : At g k m xs
    pub registers : (q : ℕ) → q ≢ t → reg g m q ≡ reg g n q
    pub input : (state g m).world.input ≡ (state g n).world.input
    pub output : (state g m).world.output ≡ (state g n).world.output
    pub same : read g m w a ≡ Some (v % 2 ^ (8 * byte_count w))
    pub beside : (r : Width) (b : ℕ) → (b + byte_count r ≤ a) ⊎ (a + byte_count w ≤ b) → read g m r b ≡ read g n r b

  pub frames_are : (n : ℕ) → frames_of (memory g n) ≡ frames_of (loaded g.image.segments)
  frames_are n = mrun-frames (run_of g) n

  pub store_any : (k : Course) (P : ℕ → Type 0) (n t : ℕ) (xs : List Noted) (touch : Touch) (op : Op) (w : Width) (rs rv : ℕ) (imm : ℤ) (a v : ℕ) → (row_of op).effect ≡ Write w
      → displaced (reg g n rs) imm ≡ a → a % byte_count w ≡ 0 → Allows g.layout touch a → reg g n rv ≡ v → IsOpen g.image a (byte_count w) → At g k n (touching touch (instruction op 0 rs rv imm) ∷ xs) → ((m : ℕ) → Stored k n m t w a v xs → Later P m) → Later P n
  store_any k P n t xs touch op w rs rv imm a v effect lands aligned allowed is opened h go =
      let i = instruction op 0 rs rv imm in
      let s = state g n in
      let mem = memory g n in
      let opens = subst (λ fs. AreOpen fs a (byte_count w)) (sym (frames_are n)) opened in
      let before = can_read w mem a opens in
      let after = can_write w mem a v opens in
      let world = record s.world { memory = after.0 } in
      let count = h.count in
      go_on g k P n i xs s.registers world h
      (touches_at g.layout s.pc a (access_of i s) (ap (λ e. access_by e i s) effect ∙ ap Some lands) (touched g.layout k.function s.pc h.code.0 a (touching touch i) h.code.1 allowed))
      (ap (λ e. linkage_by e (instruction_before s.world.memory s.pc) i) effect)
      (ap (λ e. performed_by e i s) effect
      ∙ ap (λ x. writes_at w (reg g n rv) x s) lands
      ∙ ap (λ b. if b then writes (written_to w mem a (reg g n rv)) s else Traps 5) (zero-test (a % byte_count w) aligned)
      ∙ ap (λ x. writes (written_to w mem a x) s) is
      ∙ ap (λ o. writes o s) after.1)
      count
      (λ m next. go m
      (record {
        at = next.at;
        registers = λ q other. ap (λ r. register_of r q) next.registers_are;
        input = ap (λ (x : World). x.input) next.world_is;
        output = ap (λ (x : World). x.output) next.world_is;
        same = ap (λ (x : World). read_from (λ b. b.read) w x.memory a) next.world_is ∙ read-stored w mem a v before.0 after.0 (subst AreBeside (sym (frames_are n)) (loaded-beside g.image.segments g.loadable)) after.1 before.1;
        beside = λ r b apart. ap (λ (x : World). read_from (λ c. c.read) r x.memory b) next.world_is ∙ read-beside_store w r mem a v b after.0 apart after.1;
      }))

  store_by : (k : Course) (P : ℕ → Type 0) (n : ℕ) (xs : List Noted) (t r a v : ℕ) (near : Bool) → 0 < t → t < 32 → r ≢ t → reg g n base ≡ base_address → a < 2 ^ 32 → a % 4 ≡ 0 → region_of a ≡ Some Ram → reg g n r ≡ v → IsOpen g.image a 4
      → At g k n (singles ((if near then [] else load_upper t a ∷ []) ++ store_word r (if near then base else t) (if near then pos a -ℤ pos base_address else lower_of a) ∷ []) ++ xs)
      → ((m : ℕ) → Stored k n m t Whole a v xs → Later P m) → Later P n
  store_by k P n xs t r a v true some less other based small aligned inside is opened h go =
      store_any k P n t xs OfFrame Sw Whole base r (pos a -ℤ pos base_address) a v refl (ap (λ x. displaced x (pos a -ℤ pos base_address)) based ∙ near-joined a small) aligned inside is opened h go
  store_by k P n xs t r a v false some less other based small aligned inside is opened h go =
      let rest = single (store_word r t (lower_of a)) ∷ xs in
      upper k P n rest t a some less h
      (λ m b. store_any k P m t xs OfFrame Sw Whole t r (lower_of a) a v refl (ap (λ x. displaced x (lower_of a)) b.value ∙ parts-joined a small) aligned inside (b.others r other ∙ is) opened b.at
      (λ j c. go j
      (record {
        at = c.at;
        registers = λ q apart. c.registers q apart ∙ b.others q apart;
        input = c.input ∙ ap (λ (x : World). x.input) b.world;
        output = c.output ∙ ap (λ (x : World). x.output) b.world;
        same = c.same;
        beside = λ y e apart. c.beside y e apart ∙ ap (λ (x : World). read_from (λ d. d.read) y x.memory e) b.world;
      })))

  -- a word goes to memory, with t for its address
  pub store : (k : Course) (P : ℕ → Type 0) (n : ℕ) (xs : List Noted) (t r a v : ℕ) → 0 < t → t < 32 → r ≢ t → reg g n base ≡ base_address → a < 2 ^ 32 → a % 4 ≡ 0 → region_of a ≡ Some Ram → reg g n r ≡ v → IsOpen g.image a 4
      → At g k n (singles (store_code t r a) ++ xs) → ((m : ℕ) → Stored k n m t Whole a v xs → Later P m) → Later P n
  store k P n xs t r a v some less other based small aligned inside is opened h go = store_by k P n xs t r a v (is_near a) some less other based small aligned inside is opened h go
