-- A move that comes back behind itself is that of a call, which the row of its block pays.
use Rattle.std.proofs.Common.{◌≡◌, ◌⊎◌, inl, inr, ℕ, ◌+◌, ◌%◌, ◌^◌, ◌≤◌, ℤ, pos, Bool, true, false, List, [], ◌∷◌, Contains, Option, Some, None, refl, sym, ap, subst, arith}
use Rattle.rv_core.specs.declared.op.Op.TheVariants.{Auipc, Jal, Jalr}
use Rattle.rv_core.specs.declared.row.Effect.{Effect}
use Rattle.rv_core.specs.declared.row.Effect.TheVariants.{SetUpper, AddUpper, Link, LinkRegister, BranchIf, Read, Write, WithImmediate, WithRegister, CallEnvironment}
use Rattle.rv_core.specs.declared.row.Condition.{Condition}
use Rattle.rv_core.specs.declared.row.Condition.TheVariants.{Equal, NotEqual, Less, AtLeast, LessUnsigned, AtLeastUnsigned}
use Rattle.rv_core.specs.Rows.{row_of}
use Rattle.rv_core.specs.Instructions.{Instruction, instruction, ecall}
use Rattle.rv_core.specs.Machine.{behind}
use Rattle.rv_core.specs.Runs.{sets_upper}
use Rattle.code_flow_system.specs.declared.moves.Move.{Move}
use Rattle.code_flow_system.specs.declared.moves.Way.{Way}
use Rattle.code_flow_system.specs.declared.moves.Way.TheVariants.{Next, Branches, Jumps, Calls, Ends, Strays}
use Rattle.code_flow_system.specs.Moves.{Code, fetch_before, way_by, way_of, register_way, move, moves_on, moves_at}
use Rattle.asm_items.specs.declared.item.Form.TheVariants.{Short, Inverted, Far}
use Rattle.asm_items.specs.declared.item.Item.{Item}
use Rattle.asm_items.specs.declared.item.Item.TheVariants.{Single, Jump, Call, Branch, Return, Exit}
use Rattle.asm_items.specs.Offsets.{IsCodeAddress, offset, upper_part, lower_part}
use Rattle.asm_items.specs.Items.{Starts, branch_op, opposite, far_jump, return_word, size, total, words}
use Rattle.asm_items.specs.Promises.{goes_on, GoesOn, Keeps}
use Rattle.asm_items.specs.Standing.{HasWords, HasItems}
use Rattle.asm_items.specs.Outcomes.{IsWordOf, IsWord}
use Rattle.asm_items.proofs.OffsetLemmas.{displaced-offset}
use Rattle.asm_items.proofs.MoveLemmas.{size_aligned, size_some, register_is}
use Rattle.asm_graphs.proofs.WayLemmas.{one_of, two_of, moves_of_way}
use Rattle.asm_prices.proofs.RowLemmas.{item_prices, word_prices, Covers, covers_front, covers_behind, near_call, far_call}

-- a way that comes back to nowhere
abbrev IsQuiet : Way → Type 0
IsQuiet Next = Unit {0}
IsQuiet (Branches to) = Unit {0}
IsQuiet (Jumps to) = Unit {0}
IsQuiet (Calls to) = ⊥
IsQuiet Ends = Unit {0}
IsQuiet Strays = Unit {0}

quiet_moves : (w : Way) (a : ℕ) (i : Instruction) (m : Move) → IsQuiet w → Contains (moves_on w a i) m → m.behind ≡ None
quiet_moves Next a i m q has = sym (ap (λ (n : Move). n.behind) (one_of _ m has))
quiet_moves (Branches to) a i m q has = by_one (two_of _ _ m has)
  where
    by_one : (move a 0 i (Some (behind a)) None ≡ m) ⊎ (move a 1 i (Some to) None ≡ m) → m.behind ≡ None
    by_one (inl e) = sym (ap (λ (n : Move). n.behind) e)
    by_one (inr e) = sym (ap (λ (n : Move). n.behind) e)
quiet_moves (Jumps to) a i m q has = sym (ap (λ (n : Move). n.behind) (one_of _ m has))
quiet_moves (Calls to) a i m q has = absurd q
quiet_moves Ends a i m q has = sym (ap (λ (n : Move). n.behind) (one_of _ m has))
quiet_moves Strays a i m q (n, lt, e) = absurd (omega arith)

single_quiet : (e : Effect) (exit : Bool) (before : Option Instruction) (a : ℕ) (i : Instruction) → goes_on e ≡ true → IsQuiet (way_by e exit before a i)
single_quiet SetUpper exit before a i h = tt
single_quiet AddUpper exit before a i h = cc
single_quiet Link exit before a i h = cc
single_quiet LinkRegister exit before a i h = cc
single_quiet (BranchIf c) exit before a i h = cc
single_quiet (Read w signed) exit before a i h = tt
single_quiet (Write w) exit before a i h = tt
single_quiet (WithImmediate f) exit before a i h = tt
single_quiet (WithRegister f) exit before a i h = tt
single_quiet CallEnvironment true before a i h = tt
single_quiet CallEnvironment false before a i h = tt

branch_quiet : (c : Condition) (exit : Bool) (before : Option Instruction) (a x y : ℕ) (imm : ℤ) → IsQuiet (way_of exit before a (instruction (branch_op c) 0 x y imm))
branch_quiet Equal exit before a x y imm = tt
branch_quiet NotEqual exit before a x y imm = tt
branch_quiet Less exit before a x y imm = tt
branch_quiet AtLeast exit before a x y imm = tt
branch_quiet LessUnsigned exit before a x y imm = tt
branch_quiet AtLeastUnsigned exit before a x y imm = tt

-- a far jump that keeps no return address, and a return
far_quiet : (upper : Bool) (before : Option Instruction) (a : ℕ) (imm : ℤ) → IsQuiet (register_way upper before a (instruction Jalr 0 5 0 imm))
far_quiet true before a imm = tt
far_quiet false before a imm = tt

return_quiet : (upper : Bool) (before : Option Instruction) (a : ℕ) → IsQuiet (register_way upper before a return_word)
return_quiet true before a = tt
return_quiet false before a = tt

exit_quiet : (exit : Bool) (before : Option Instruction) (a : ℕ) → IsQuiet (way_of exit before a ecall)
exit_quiet true before a = tt
exit_quiet false before a = tt

module _ (c : Code) (p : Starts) (f : ℕ) (calls : List ℕ) (places : (h n : ℕ) → IsCodeAddress (p h n)) (of worth : ℕ → ℕ) where
  -- a move of a call, which the row pays
  pub record IsCall (qs : List ℕ) (at a : ℕ) (m : Move) : Type 0 where
    pub callee : ℕ
    pub called : Contains calls callee
    pub to : m.to ≡ Some (p callee 0)
    pub covers : Covers of worth qs at a (worth callee)

  abbrev pub Comes : List ℕ → ℕ → ℕ → Move → Type 0
  Comes qs at a m = (m.behind ≡ None) ⊎ IsCall qs at a m

  -- the word of this instruction, which goes a quiet way
  quiet_word : (a at : ℕ) (i : Instruction) (m : Move) → a ≡ at → c.fetch at ≡ Some i → IsQuiet (way_of (c.exit at) (fetch_before c at) at i) → Contains (moves_at c a) m → m.behind ≡ None
  quiet_word a at i m e there q has =
      quiet_moves (way_of (c.exit at) (fetch_before c at) at i) at i m q
      (subst (λ ms. Contains ms m) (moves_of_way c at i (way_of (c.exit at) (fetch_before c at) at i) there refl) (subst (λ n. Contains (moves_at c n) m) e has))

  call_word : (a at to : ℕ) (i : Instruction) (m : Move) → a ≡ at → c.fetch at ≡ Some i → way_of (c.exit at) (fetch_before c at) at i ≡ Calls to → Contains (moves_at c a) m → m.to ≡ Some to
  call_word a at to i m e there is has =
      sym (ap (λ (n : Move). n.to) (one_of _ m (subst (λ ms. Contains ms m) (moves_of_way c at i (Calls to) there is) (subst (λ n. Contains (moves_at c n) m) e has))))

  upper_word : (a at to : ℕ) (m : Move) → a ≡ at → c.fetch at ≡ Some (instruction Auipc 5 0 0 (upper_part at to)) → Contains (moves_at c a) m → m.behind ≡ None
  upper_word a at to m e there has = quiet_word a at (instruction Auipc 5 0 0 (upper_part at to)) m e there tt has

  near_word : (a at to : ℕ) (m : Move) → a ≡ at → c.fetch at ≡ Some (instruction Jal 0 0 0 (offset at to)) → Contains (moves_at c a) m → m.behind ≡ None
  near_word a at to m e there has = quiet_word a at (instruction Jal 0 0 0 (offset at to)) m e there tt has

  far_word : (a at to : ℕ) (m : Move) → a ≡ at + 4 → HasWords c at (far_jump 0 at to) → Contains (moves_at c a) m → m.behind ≡ None
  far_word a at to m e there has =
      quiet_word a (at + 4) (instruction Jalr 0 5 0 (lower_part at to)) m e there.1.0
      (far_quiet (sets_upper (fetch_before c (at + 4)) 5) (fetch_before c (at + 4)) (at + 4) (lower_part at to)) has

  branch_word : (a at x y : ℕ) (cond : Condition) (imm : ℤ) (m : Move) → a ≡ at → c.fetch at ≡ Some (instruction (branch_op cond) 0 x y imm) → Contains (moves_at c a) m → m.behind ≡ None
  branch_word a at x y cond imm m e there has =
      quiet_word a at (instruction (branch_op cond) 0 x y imm) m e there (branch_quiet cond (c.exit at) (fetch_before c at) at x y imm) has

  abbrev IsSound : Item → Type 0
  IsSound (Single i) = GoesOn i
  IsSound (Jump far n) = Unit {0}
  IsSound (Call far g) = Contains calls g
  IsSound (Branch form cond x y n) = Unit {0}
  IsSound Return = Unit {0}
  IsSound Exit = Unit {0}

  item_comes : (x : Item) (at a : ℕ) (low : Bool) (m : Move) → IsCodeAddress at → HasWords c at (words p f at x) → IsSound x → IsWordOf x at a low → Contains (moves_at c a) m → Comes (item_prices of worth at x) at a m
  item_comes (Single i) at a true m here h s w has = absurd w
  item_comes (Single i) at a false m here h s w has = inl (quiet_word a at i m w h.0 (single_quiet (row_of i.op).effect (c.exit at) (fetch_before c at) at i s) has)
  item_comes (Jump false n) at a true m here h s w has = absurd w
  item_comes (Jump false n) at a false m here h s w has = inl (near_word a at (p f n) m w h.0 has)
  item_comes (Jump true n) at a false m here h s w has = inl (upper_word a at (p f n) m w h.0 has)
  item_comes (Jump true n) at a true m here h s w has = inl (far_word a at (p f n) m w h has)
  item_comes (Call false g) at a true m here h s w has = absurd w
  item_comes (Call false g) at a false m here h s w has =
      inr (record { callee = g; called = s; to = call_word a at (p g 0) (instruction Jal 1 0 0 (offset at (p g 0))) m w h.0 (ap Calls (displaced-offset at (p g 0) here (places g 0))) has; covers = near_call of worth at a g w })
  item_comes (Call true g) at a false m here h s w has = inl (upper_word a at (p g 0) m w h.0 has)
  item_comes (Call true g) at a true m here h s w has =
      inr (record { callee = g; called = s; to = call_word a (at + 4) (p g 0) (instruction Jalr 1 5 0 (lower_part at (p g 0))) m w h.1.0 (register_is c at (p g 0) 1 here (places g 0) h) has; covers = far_call of worth at a g w })
  item_comes (Branch Short cond x y n) at a true m here h s w has = absurd w
  item_comes (Branch Short cond x y n) at a false m here h s w has = inl (branch_word a at x y cond (offset at (p f n)) m w h.0 has)
  item_comes (Branch Inverted cond x y n) at a true m here h s (inl w) has = absurd w
  item_comes (Branch Inverted cond x y n) at a true m here h s (inr w) has = absurd w
  item_comes (Branch Inverted cond x y n) at a false m here h s (inl w) has = inl (branch_word a at x y (opposite cond) (pos 8) m w h.0 has)
  item_comes (Branch Inverted cond x y n) at a false m here h s (inr w) has = inl (near_word a (at + 4) (p f n) m w h.1.0 has)
  item_comes (Branch Far cond x y n) at a true m here h s (inl w) has = absurd w
  item_comes (Branch Far cond x y n) at a true m here h s (inr w) has = inl (far_word a (at + 4) (p f n) m w h.1 has)
  item_comes (Branch Far cond x y n) at a false m here h s (inl w) has = inl (branch_word a at x y (opposite cond) (pos 12) m w h.0 has)
  item_comes (Branch Far cond x y n) at a false m here h s (inr w) has = inl (upper_word a (at + 4) (p f n) m w h.1.0 has)
  item_comes Return at a true m here h s w has = absurd w
  item_comes Return at a false m here h s w has = inl (quiet_word a at return_word m w h.0 (return_quiet (sets_upper (fetch_before c at) 1) (fetch_before c at) at) has)
  item_comes Exit at a true m here h s w has = absurd w
  item_comes Exit at a false m here h s w has = inl (quiet_word a at ecall m w h.0 (exit_quiet (c.exit at) (fetch_before c at) at) has)

  front : (x : Item) (xs : List Item) (at a : ℕ) (m : Move) → Comes (item_prices of worth at x) at a m → Comes (word_prices of worth at (x ∷ xs)) at a m
  front x xs at a m (inl e) = inl e
  front x xs at a m (inr h) = inr (record { callee = h.callee; called = h.called; to = h.to; covers = covers_front of worth x xs at a (worth h.callee) h.covers })

  later : (x : Item) (xs : List Item) (at a : ℕ) (m : Move) → Comes (word_prices of worth (at + size x) xs) (at + size x) a m → Comes (word_prices of worth at (x ∷ xs)) at a m
  later x xs at a m (inl e) = inl e
  later x xs at a m (inr h) = inr (record { callee = h.callee; called = h.called; to = h.to; covers = covers_behind of worth x xs at a (worth h.callee) h.covers })

  -- items at an address of code, which keep to what their block promises
  pub record Stand (follows : List ℕ) (b at : ℕ) (xs : List Item) : Type 0 where
    pub aligned : at % 4 ≡ 0
    pub room : at + total xs ≤ 2 ^ 30
    pub stands : HasItems p c f at xs
    pub keeps : Keeps follows calls b xs

  code_at : (follows : List ℕ) (b at : ℕ) (x : Item) (xs : List Item) → Stand follows b at (x ∷ xs) → IsCodeAddress at
  code_at follows b at x xs h = let r = h.room in let s = size_some x in record { low = omega arith; aligned = h.aligned }

  tail_stands : (follows : List ℕ) (b at : ℕ) (x : Item) (xs : List Item) → Stand follows b at (x ∷ xs) → Keeps follows calls b xs → Stand follows b (at + size x) xs
  tail_stands follows b at x xs h k = let r = h.room in let al = h.aligned in let s = size_aligned x in record { aligned = omega arith; room = omega arith; stands = h.stands.2; keeps = k }

  none_behind : (xs : List Item) (at a : ℕ) (low : Bool) → xs ≡ [] → IsWord at xs a low → ⊥
  none_behind xs at a low e w = subst (λ ys. IsWord at ys a low) e w

  -- a move of a word comes back to nowhere, or is that of a call which the block's row pays
  pub block_comes : (follows : List ℕ) (b : ℕ) (xs : List Item) (at a : ℕ) (low : Bool) (m : Move) → Stand follows b at xs → IsWord at xs a low → Contains (moves_at c a) m → Comes (word_prices of worth at xs) at a m
  block_comes follows b [] at a low m h w has = absurd w
  block_comes follows b (Single i ∷ xs) at a low m h (inl w) has = front (Single i) xs at a m (item_comes (Single i) at a low m (code_at follows b at (Single i) xs h) h.stands.0 h.keeps.0 w has)
  block_comes follows b (Single i ∷ xs) at a low m h (inr w) has = later (Single i) xs at a m (block_comes follows b xs (at + size (Single i)) a low m (tail_stands follows b at (Single i) xs h h.keeps.1) w has)
  block_comes follows b (Jump far n ∷ xs) at a low m h (inl w) has = front (Jump far n) xs at a m (item_comes (Jump far n) at a low m (code_at follows b at (Jump far n) xs h) h.stands.0 tt w has)
  block_comes follows b (Jump far n ∷ xs) at a low m h (inr w) has = absurd (none_behind xs (at + size (Jump far n)) a low h.keeps.1 w)
  block_comes follows b (Call far g ∷ xs) at a low m h (inl w) has = front (Call far g) xs at a m (item_comes (Call far g) at a low m (code_at follows b at (Call far g) xs h) h.stands.0 h.keeps.0 w has)
  block_comes follows b (Call far g ∷ xs) at a low m h (inr w) has = later (Call far g) xs at a m (block_comes follows b xs (at + size (Call far g)) a low m (tail_stands follows b at (Call far g) xs h h.keeps.1) w has)
  block_comes follows b (Branch form cond x y n ∷ xs) at a low m h (inl w) has = front (Branch form cond x y n) xs at a m (item_comes (Branch form cond x y n) at a low m (code_at follows b at (Branch form cond x y n) xs h) h.stands.0 tt w has)
  block_comes follows b (Branch form cond x y n ∷ xs) at a low m h (inr w) has = later (Branch form cond x y n) xs at a m (block_comes follows b xs (at + size (Branch form cond x y n)) a low m (tail_stands follows b at (Branch form cond x y n) xs h h.keeps.1) w has)
  block_comes follows b (Return ∷ xs) at a low m h (inl w) has = front Return xs at a m (item_comes Return at a low m (code_at follows b at Return xs h) h.stands.0 tt w has)
  block_comes follows b (Return ∷ xs) at a low m h (inr w) has = absurd (none_behind xs (at + size Return) a low h.keeps w)
  block_comes follows b (Exit ∷ xs) at a low m h (inl w) has = front Exit xs at a m (item_comes Exit at a low m (code_at follows b at Exit xs h) h.stands.0 tt w has)
  block_comes follows b (Exit ∷ xs) at a low m h (inr w) has = absurd (none_behind xs (at + size Exit) a low h.keeps w)
