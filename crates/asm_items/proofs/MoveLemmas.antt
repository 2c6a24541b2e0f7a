-- Each word of a block's items goes a way that the block promises.
use Rattle.std.proofs.Common.{◌≡◌, ℕ, suc, ◌+◌, ◌-◌, ◌*◌, ◌/◌, ◌%◌, ◌^◌, ◌<◌, ◌≤◌, inl, inr, ℤ, pos, Bool, true, false, List, [], ◌∷◌, Contains, Option, Some, None, refl, sym, ap, ◌∙◌, subst, arith}
use Rattle.std.specs.Prelude.{nat_le, if◌then◌else◌}
use Rattle.std.proofs.lemmas.Bool.Decides.{nat_tests}
use Rattle.rv_core.specs.declared.op.Op.TheVariants.{Auipc, Jal, Jalr}
use Rattle.rv_core.specs.declared.row.Effect.{Effect}
use Rattle.rv_core.specs.declared.row.Effect.TheVariants.{SetUpper, AddUpper, Link, LinkRegister, BranchIf, Read, Write, WithImmediate, WithRegister, CallEnvironment}
use Rattle.rv_core.specs.declared.row.Condition.{Condition}
use Rattle.rv_core.specs.declared.row.Condition.TheVariants.{Equal, NotEqual, Less, AtLeast, LessUnsigned, AtLeastUnsigned}
use Rattle.rv_core.specs.Rows.{row_of}
use Rattle.rv_core.specs.Arithmetic.{displaced}
use Rattle.rv_core.specs.Instructions.{Instruction, instruction, ecall}
use Rattle.rv_core.specs.Runs.{sets_upper}
use Rattle.code_flow_system.specs.declared.moves.Way.TheVariants.{Next, Branches, Jumps, Calls, Ends}
use Rattle.code_flow_system.specs.Moves.{Code, fetch_before, way_by, way_of, jump_way, register_way}
use Rattle.code_flow_system.specs.Reach.{resolves_by, resolves}
use Rattle.asm_items.specs.declared.item.Form.TheVariants.{Short, Inverted, Far}
use Rattle.asm_items.specs.declared.item.Item.{Item}
use Rattle.asm_items.specs.declared.item.Item.TheVariants.{Single, Jump, Call, Branch, Return, Exit}
use Rattle.asm_items.specs.Offsets.{IsCodeAddress, offset, upper_part, lower_part}
use Rattle.asm_items.specs.Items.{branch_op, opposite, far_jump, return_word, size, total}
use Rattle.asm_items.specs.Promises.{goes_on, GoesOn, Keeps}
use Rattle.asm_items.specs.Standing.{HasWords, HasItems}
use Rattle.asm_items.specs.Outcomes.{IsWordOf, IsWord, Around, beginning, Within, GoesWell, CallsWell, Outcome, KeepsPromises}
use Rattle.asm_items.proofs.OffsetLemmas.{displaced-offset, displaced-parts}

-- the first word of an item stands where the item does
pub head_word : (x : Item) (at : ℕ) → IsWordOf x at at false
head_word (Single i) at = refl
head_word (Jump false block) at = refl
head_word (Jump true block) at = refl
head_word (Call false function) at = refl
head_word (Call true function) at = refl
head_word (Branch Short c x y block) at = refl
head_word (Branch Inverted c x y block) at = inl refl
head_word (Branch Far c x y block) at = inl refl
head_word Return at = refl
head_word Exit at = refl

next_way : (e : Effect) (before : Option Instruction) (a : ℕ) (i : Instruction) → goes_on e ≡ true → way_by e false before a i ≡ Next
next_way SetUpper before a i h = refl
next_way AddUpper before a i h = cc
next_way Link before a i h = cc
next_way LinkRegister before a i h = cc
next_way (BranchIf c) before a i h = cc
next_way (Read w signed) before a i h = refl
next_way (Write w) before a i h = refl
next_way (WithImmediate f) before a i h = refl
next_way (WithRegister f) before a i h = refl
next_way CallEnvironment before a i h = refl

never_resolved : (e : Effect) (before : Option Instruction) (i : Instruction) → goes_on e ≡ true → resolves_by e before i ≡ false
never_resolved SetUpper before i h = refl
never_resolved AddUpper before i h = cc
never_resolved Link before i h = cc
never_resolved LinkRegister before i h = cc
never_resolved (BranchIf c) before i h = cc
never_resolved (Read w signed) before i h = refl
never_resolved (Write w) before i h = refl
never_resolved (WithImmediate f) before i h = refl
never_resolved (WithRegister f) before i h = refl
never_resolved CallEnvironment before i h = refl

branch_effect : (c : Condition) → (row_of (branch_op c)).effect ≡ BranchIf c
branch_effect Equal = refl
branch_effect NotEqual = refl
branch_effect Less = refl
branch_effect AtLeast = refl
branch_effect LessUnsigned = refl
branch_effect AtLeastUnsigned = refl

before_next : (c : Code) (a : ℕ) → fetch_before c (a + 4) ≡ c.fetch a
before_next c a =
    let low : nat_le 4 (a + 4) ≡ true = grind (arith, nat_tests) in
    let back : a + 4 - 4 ≡ a = omega arith in
    ap (λ b. if b then c.fetch (a + 4 - 4) else None) low ∙ ap c.fetch back

unlinked : (b : Bool) (o : Option Instruction) → sets_upper o 1 ≡ false → sets_upper (if b then o else None) 1 ≡ false
unlinked true o h = h
unlinked false o h = refl

-- a code address behind some words of code that ends below 2^30
further : (a n : ℕ) → IsCodeAddress a → n % 4 ≡ 0 → a + n < 2 ^ 30 → IsCodeAddress (a + n)
further a n h m s = let e = h.aligned in record { low = s; aligned = omega arith }

displaced_on : (a n : ℕ) → a + n < 2 ^ 32 → displaced a (pos n) ≡ a + n
displaced_on a n h = omega arith

pub size_aligned : (x : Item) → size x % 4 ≡ 0
size_aligned (Single i) = refl
size_aligned (Jump false block) = refl
size_aligned (Jump true block) = refl
size_aligned (Call false function) = refl
size_aligned (Call true function) = refl
size_aligned (Branch Short c x y block) = refl
size_aligned (Branch Inverted c x y block) = refl
size_aligned (Branch Far c x y block) = refl
size_aligned Return = refl
size_aligned Exit = refl

pub size_some : (x : Item) → 4 ≤ size x
size_some (Single i) = omega arith
size_some (Jump false block) = omega arith
size_some (Jump true block) = omega arith
size_some (Call false function) = omega arith
size_some (Call true function) = omega arith
size_some (Branch Short c x y block) = omega arith
size_some (Branch Inverted c x y block) = omega arith
size_some (Branch Far c x y block) = omega arith
size_some Return = omega arith
size_some Exit = omega arith

-- the second word of a far jump
pub register_is : (c : Code) (at to link : ℕ) → IsCodeAddress at → IsCodeAddress to → HasWords c at (far_jump link at to) → way_of (c.exit (at + 4)) (fetch_before c (at + 4)) (at + 4) (instruction Jalr link 5 0 (lower_part at to)) ≡ jump_way link to
register_is c at to link h g there =
    let i = instruction Jalr link 5 0 (lower_part at to) in
    let back : at + 4 - 4 ≡ at = omega arith in
    ap (λ o. register_way (sets_upper o 5) o (at + 4) i) (before_next c at ∙ there.0)
    ∙ ap (λ n. jump_way link (displaced (displaced n (upper_part at to)) (lower_part at to) / 2 * 2)) back
    ∙ ap (jump_way link) (displaced-parts at to h g)

module _ (c : Code) (k : Around) (places : (f n : ℕ) → IsCodeAddress (k.starts f n)) (no_link : (a : ℕ) → sets_upper (c.fetch a) 1 ≡ false) where
  abbrev Falls : ℕ → List Item → Type 0
  Falls at xs = Contains k.follows (suc k.block) → at + total xs ≡ k.starts k.function (suc k.block)

  abbrev Lies : ℕ → List Item → Type 0
  Lies at xs = (a : ℕ) (low : Bool) → IsWord at xs a low → Within k a low

  next_word : (xs : List Item) (a at : ℕ) → a < at → Keeps k.follows k.calls k.block xs → Falls at xs → Lies at xs → GoesWell k a at
  next_word [] a at less keeps falls lies = let e = falls keeps in inr (inr (suc k.block, keeps, omega arith))
  next_word (x ∷ xs) a at less keeps falls lies = inl (less, lies at false (inl (head_word x at)))

  to_block : (a n : ℕ) → Contains k.follows n → GoesWell k a (k.starts k.function n)
  to_block a n follows = inr (inr (n, follows, refl))

  single_out : (i : Instruction) (at : ℕ) → GoesOn i → c.fetch at ≡ Some i → c.exit at ≡ false → GoesWell k at (at + 4) → Outcome c k at false
  single_out i at on there exit well = record {
    instr = i;
    way = Next;
    there = there;
    is = ap (λ e. way_of e (fetch_before c at) at i) exit ∙ next_way (row_of i.op).effect (fetch_before c at) at i on;
    fine = well;
    alone = ap (λ o. resolves (fetch_before c at) o) there ∙ never_resolved (row_of i.op).effect (fetch_before c at) i on;
  }

  near_out : (at to : ℕ) → IsCodeAddress at → IsCodeAddress to → c.fetch at ≡ Some (instruction Jal 0 0 0 (offset at to)) → GoesWell k at to → Outcome c k at false
  near_out at to h g there well = record {
    instr = instruction Jal 0 0 0 (offset at to);
    way = Jumps to;
    there = there;
    is = ap Jumps (displaced-offset at to h g);
    fine = well;
    alone = ap (λ o. resolves (fetch_before c at) o) there;
  }

  near_call_out : (at to : ℕ) → IsCodeAddress at → IsCodeAddress to → c.fetch at ≡ Some (instruction Jal 1 0 0 (offset at to)) → CallsWell k to → GoesWell k at (at + 4) → Outcome c k at false
  near_call_out at to h g there called well = record {
    instr = instruction Jal 1 0 0 (offset at to);
    way = Calls to;
    there = there;
    is = ap Calls (displaced-offset at to h g);
    fine = (called, well);
    alone = ap (λ o. resolves (fetch_before c at) o) there;
  }

  upper_out : (at to : ℕ) → c.fetch at ≡ Some (instruction Auipc 5 0 0 (upper_part at to)) → Within k (at + 4) true → Outcome c k at false
  upper_out at to there second = record {
    instr = instruction Auipc 5 0 0 (upper_part at to);
    way = Next;
    there = there;
    is = refl;
    fine = inr (inl (refl, second));
    alone = ap (λ o. resolves (fetch_before c at) o) there;
  }

  far_out : (at to : ℕ) → IsCodeAddress at → IsCodeAddress to → HasWords c at (far_jump 0 at to) → GoesWell k (at + 4) to → Outcome c k (at + 4) true
  far_out at to h g there well = record {
    instr = instruction Jalr 0 5 0 (lower_part at to);
    way = Jumps to;
    there = there.1.0;
    is = register_is c at to 0 h g there;
    fine = well;
    alone = tt;
  }

  far_call_out : (at to : ℕ) → IsCodeAddress at → IsCodeAddress to → HasWords c at (far_jump 1 at to) → CallsWell k to → GoesWell k (at + 4) (at + 4 + 4) → Outcome c k (at + 4) true
  far_call_out at to h g there called well = record {
    instr = instruction Jalr 1 5 0 (lower_part at to);
    way = Calls to;
    there = there.1.0;
    is = register_is c at to 1 h g there;
    fine = (called, well);
    alone = tt;
  }

  branch_out : (at to x y : ℕ) (cond : Condition) (imm : ℤ) → c.fetch at ≡ Some (instruction (branch_op cond) 0 x y imm) → displaced at imm ≡ to → GoesWell k at (at + 4) → GoesWell k at to → Outcome c k at false
  branch_out at to x y cond imm there leads well other =
      let i = instruction (branch_op cond) 0 x y imm in record {
        instr = i;
        way = Branches to;
        there = there;
        is = ap (λ e. way_by e (c.exit at) (fetch_before c at) at i) (branch_effect cond) ∙ ap Branches leads;
        fine = (well, other);
        alone = ap (λ o. resolves (fetch_before c at) o) there ∙ ap (λ e. resolves_by e (fetch_before c at) i) (branch_effect cond);
      }

  return_out : (at : ℕ) → c.fetch at ≡ Some return_word → Outcome c k at false
  return_out at there =
      let e : sets_upper (fetch_before c at) 1 ≡ false = unlinked (nat_le 4 at) (c.fetch (at - 4)) (no_link (at - 4)) in
      record {
        instr = return_word;
        way = Ends;
        there = there;
        is = ap (λ u. register_way u (fetch_before c at) at return_word) e;
        fine = tt;
        alone = ap (λ o. resolves (fetch_before c at) o) there ∙ e;
      }

  exit_out : (at : ℕ) → c.fetch at ≡ Some ecall → c.exit at ≡ true → Outcome c k at false
  exit_out at there exit = record {
    instr = ecall;
    way = Ends;
    there = there;
    is = ap (λ e. way_of e (fetch_before c at) at ecall) exit;
    fine = tt;
    alone = ap (λ o. resolves (fetch_before c at) o) there;
  }

  out_at : (a at : ℕ) (low : Bool) → a ≡ at → Outcome c k at low → Outcome c k a low
  out_at a at low e o = subst (λ n. Outcome c k n low) (sym e) o

  rest_keeps : (x y : Item) (ys : List Item) → Keeps k.follows k.calls k.block (x ∷ y ∷ ys) → Keeps k.follows k.calls k.block (y ∷ ys)
  rest_keeps (Single i) y ys h = h.1
  rest_keeps (Jump far n) y ys h = let e = h.1 in cc
  rest_keeps (Call far g) y ys h = h.1
  rest_keeps (Branch form cond u v n) y ys h = h.1
  rest_keeps Return y ys h = let e = h in cc
  rest_keeps Exit y ys h = let e = h in cc

  -- items that stand here, below 2^30
  record Here (at : ℕ) (xs : List Item) : Type 0 where
    at_code : IsCodeAddress at
    room : at + total xs ≤ 2 ^ 30
    stands : HasItems k.starts c k.function at xs
    keeps : Keeps k.follows k.calls k.block xs
    falls : Falls at xs
    lies : Lies at xs

  -- what stands behind the first item
  behind : (x : Item) (xs : List Item) (at : ℕ) → Here at (x ∷ xs) → Keeps k.follows k.calls k.block xs → (a : ℕ) → a < at + size x → GoesWell k a (at + size x)
  behind x xs at h keeps a less = next_word xs a (at + size x) less keeps (λ s. let e = h.falls s in omega arith) (λ t low w. h.lies t low (inr w))

  inside : (x : Item) (xs : List Item) (at n : ℕ) → Here at (x ∷ xs) → n % 4 ≡ 0 → n < size x → IsCodeAddress (at + n)
  inside x xs at n h aligned less = let r = h.room in further at n h.at_code aligned (omega arith)

  branch_over : (x : Item) (xs : List Item) (at n y z : ℕ) (cond : Condition) → Here at (x ∷ xs) → Keeps k.follows k.calls k.block xs → size x ≡ n → 4 < n → n ≤ 12 → c.fetch at ≡ Some (instruction (branch_op cond) 0 y z (pos n)) → Within k (at + 4) false → Outcome c k at false
  branch_over x xs at n y z cond h keeps long some few there second =
      let r = h.room in
      let e : at + size x ≡ at + n = omega arith in
      branch_out at (at + n) y z cond (pos n) there (displaced_on at n (omega arith)) (inl (omega arith, second))
      (subst (GoesWell k at) e (behind x xs at h keeps at (omega arith)))

  -- the words of the first item
  item_out : (x : Item) (xs : List Item) (at : ℕ) → Here at (x ∷ xs) → (a : ℕ) (low : Bool) → IsWordOf x at a low → Outcome c k a low
  item_out (Single i) xs at h a true w = absurd w
  item_out (Single i) xs at h a false w = out_at a at false w (single_out i at h.keeps.0 h.stands.0.0 h.stands.1 (behind (Single i) xs at h h.keeps.1 at (omega arith)))
  item_out (Jump false n) xs at h a true w = absurd w
  item_out (Jump false n) xs at h a false w = out_at a at false w (near_out at (k.starts k.function n) h.at_code (places k.function n) h.stands.0.0 (to_block at n h.keeps.0))
  item_out (Jump true n) xs at h a false w = out_at a at false w (upper_out at (k.starts k.function n) h.stands.0.0 (h.lies (at + 4) true (inl refl)))
  item_out (Jump true n) xs at h a true w = out_at a (at + 4) true w (far_out at (k.starts k.function n) h.at_code (places k.function n) h.stands.0 (to_block (at + 4) n h.keeps.0))
  item_out (Call false g) xs at h a true w = absurd w
  item_out (Call false g) xs at h a false w =
      out_at a at false w (near_call_out at (k.starts g 0) h.at_code (places g 0) h.stands.0.0 (g, h.keeps.0, refl) (behind (Call false g) xs at h h.keeps.1 at (omega arith)))
  item_out (Call true g) xs at h a false w = out_at a at false w (upper_out at (k.starts g 0) h.stands.0.0 (h.lies (at + 4) true (inl refl)))
  item_out (Call true g) xs at h a true w =
      let e : at + 8 ≡ at + 4 + 4 = omega arith in
      out_at a (at + 4) true w (far_call_out at (k.starts g 0) h.at_code (places g 0) h.stands.0 (g, h.keeps.0, refl)
      (subst (GoesWell k (at + 4)) e (behind (Call true g) xs at h h.keeps.1 (at + 4) (omega arith))))
  item_out (Branch Short cond u v n) xs at h a true w = absurd w
  item_out (Branch Short cond u v n) xs at h a false w =
      out_at a at false w (branch_out at (k.starts k.function n) u v cond (offset at (k.starts k.function n)) h.stands.0.0 (displaced-offset at (k.starts k.function n) h.at_code (places k.function n))
      (behind (Branch Short cond u v n) xs at h h.keeps.1 at (omega arith)) (to_block at n h.keeps.0))
  item_out (Branch Inverted cond u v n) xs at h a true (inl w) = absurd w
  item_out (Branch Inverted cond u v n) xs at h a true (inr w) = absurd w
  item_out (Branch Inverted cond u v n) xs at h a false (inl w) =
      out_at a at false w (branch_over (Branch Inverted cond u v n) xs at 8 u v (opposite cond) h h.keeps.1 refl (omega arith) (omega arith) h.stands.0.0 (h.lies (at + 4) false (inl (inr refl))))
  item_out (Branch Inverted cond u v n) xs at h a false (inr w) =
      out_at a (at + 4) false w (near_out (at + 4) (k.starts k.function n) (inside (Branch Inverted cond u v n) xs at 4 h refl (omega arith)) (places k.function n) h.stands.0.1.0 (to_block (at + 4) n h.keeps.0))
  item_out (Branch Far cond u v n) xs at h a true (inl w) = absurd w
  item_out (Branch Far cond u v n) xs at h a true (inr w) =
      out_at a (at + 4 + 4) true w (far_out (at + 4) (k.starts k.function n) (inside (Branch Far cond u v n) xs at 4 h refl (omega arith)) (places k.function n) h.stands.0.1 (to_block (at + 4 + 4) n h.keeps.0))
  item_out (Branch Far cond u v n) xs at h a false (inl w) =
      out_at a at false w (branch_over (Branch Far cond u v n) xs at 12 u v (opposite cond) h h.keeps.1 refl (omega arith) (omega arith) h.stands.0.0 (h.lies (at + 4) false (inl (inr refl))))
  item_out (Branch Far cond u v n) xs at h a false (inr w) =
      out_at a (at + 4) false w (upper_out (at + 4) (k.starts k.function n) h.stands.0.1.0 (h.lies (at + 4 + 4) true (inl (inr refl))))
  item_out Return xs at h a true w = absurd w
  item_out Return xs at h a false w = out_at a at false w (return_out at h.stands.0.0)
  item_out Exit xs at h a true w = absurd w
  item_out Exit xs at h a false w = out_at a at false w (exit_out at h.stands.0.0 h.stands.1)

  -- the words of all
  block_out : (xs : List Item) (at : ℕ) → Here at xs → (a : ℕ) (low : Bool) → IsWord at xs a low → Outcome c k a low
  block_out [] at h a low w = absurd w
  block_out (x ∷ xs) at h a low (inl w) = item_out x xs at h a low w
  block_out (x ∷ []) at h a low (inr w) = absurd w
  block_out (x ∷ y ∷ ys) at h a low (inr w) =
      let r = h.room in
      let some = size_some y in
      block_out (y ∷ ys) (at + size x)
      (record {
        at_code = further at (size x) h.at_code (size_aligned x) (omega arith);
        room = omega arith;
        stands = h.stands.2;
        keeps = rest_keeps x y ys h.keeps;
        falls = λ s. let e = h.falls s in omega arith;
        lies = λ t l v. h.lies t l (inr v);
      })
      a low w

pub keeps_promises : (c : Code) → KeepsPromises c
keeps_promises c k h a low w =
    block_out c k h.places h.no_link k.items (beginning k)
    (record {
      at_code = h.places k.function k.block;
      room = h.room;
      stands = h.stands;
      keeps = h.keeps;
      falls = h.falls;
      lies = λ t l v. v;
    })
    a low w
