-- In their longest forms items reach every target.
use Rattle.std.proofs.Common.{◌≡◌, ℕ, suc, ◌+◌, ◌-◌, ◌*◌, ◌/◌, ◌%◌, ◌^◌, ◌<◌, ◌≤◌, ◌==◌, pos, Bool, true, false, ◌&&◌, List, [], ◌∷◌, ◌++◌, refl, ap, ◌∙◌, arith, nat_lt}
use Rattle.std.specs.Prelude.{slice_index}
use Rattle.std.proofs.lemmas.Bool.{and_parts, and_from, lt-ltb, true≢false}
use Rattle.std.proofs.lemmas.List.Elements.{All-head, All-tail}
use Rattle.rv_core.specs.Instructions.{Instruction, instruction, in_row, is_within, is_multiple}
use Rattle.rv_core.specs.declared.op.Op.TheVariants.{Auipc, Jalr}
use Rattle.rv_core.specs.declared.row.Condition.{Condition}
use Rattle.rv_core.specs.declared.row.Condition.TheVariants.{Equal, NotEqual, Less, AtLeast, LessUnsigned, AtLeastUnsigned}
use Rattle.asm_items.specs.declared.item.Item.{Item}
use Rattle.asm_items.specs.declared.item.Item.TheVariants.{Single, Jump, Call, Branch, Return, Exit}
use Rattle.asm_items.specs.Offsets.{raised, upper_part, lower_part}
use Rattle.asm_items.specs.Items.{Starts, branch_op, opposite, far_jump, words, size, total, all_words, in_rows}
use Rattle.asm_items.specs.Placings.{Blocks, blocks_size, blocks_words}
use Rattle.asm_items.proofs.OffsetLemmas.{is_within-difference, word-difference}
use Rattle.asm_forms.specs.Layouts.{functions_fit}
use Rattle.asm_forms.specs.Regions.{RoomFrom}
use Rattle.asm_forms.specs.Shorter.{longest, items_longest, blocks_longest, functions_longest}
use Rattle.asm_forms.specs.Sound.{IsSound, AreSound, BlocksSound, FunctionsSound}

pub rows-append : (is js : List Instruction) → in_rows is ≡ true → in_rows js ≡ true → in_rows (is ++ js) ≡ true
rows-append [] js h k = k
rows-append (i ∷ is) js h k = let b = and_parts (in_row i) (in_rows is) h in and_from (in_row i) (in_rows (is ++ js)) b.0 (rows-append is js b.1 k)

stops : (b c d : Bool) → (c ≡ false → d ≡ false) → (b && c) ≡ false → (b && d) ≡ false
stops true c d go h = go h
stops false c d go h = refl

rows-stop : (is js : List Instruction) → in_rows is ≡ false → in_rows (is ++ js) ≡ false
rows-stop [] js h = absurd (true≢false h)
rows-stop (i ∷ is) js h = stops (in_row i) (in_rows is) (in_rows (is ++ js)) (rows-stop is js) h

rows-onward : (is js : List Instruction) → in_rows is ≡ true → in_rows (is ++ js) ≡ in_rows js
rows-onward [] js h = refl
rows-onward (i ∷ is) js h = let b = and_parts (in_row i) (in_rows is) h in ap (λ t. t && in_rows (is ++ js)) b.0 ∙ rows-onward is js b.1

-- a block that doesn't fit, and one that does, in front of others
pub block-stops : (p : Starts) (f a : ℕ) (bs : Blocks) (b : List Item) (rest : Blocks) → bs ≡ b ∷ rest → in_rows (all_words p f a b) ≡ false → in_rows (blocks_words p f a bs) ≡ false
block-stops p f a bs b rest e h = ap (λ l. in_rows (blocks_words p f a l)) e ∙ rows-stop (all_words p f a b) (blocks_words p f (a + total b) rest) h

pub block-onward : (p : Starts) (f a : ℕ) (bs : Blocks) (b : List Item) (rest : Blocks) → bs ≡ b ∷ rest → in_rows (all_words p f a b) ≡ true → in_rows (blocks_words p f a bs) ≡ in_rows (blocks_words p f (a + total b) rest)
block-onward p f a bs b rest e h = ap (λ l. in_rows (blocks_words p f a l)) e ∙ rows-onward (all_words p f a b) (blocks_words p f (a + total b) rest) h

upper_within : (a to : ℕ) → a ≤ 2 ^ 30 → to < 2 ^ 30 → is_within (2 ^ 31) (upper_part a to) ≡ true
upper_within a to h k = is_within-difference (2 ^ 31) (raised a to / 2 ^ 12 * 2 ^ 12) (2 ^ 30) (omega arith) (omega arith)

upper_multiple : (a to : ℕ) → a ≤ 2 ^ 30 → to < 2 ^ 30 → is_multiple 12 (upper_part a to) ≡ true
upper_multiple a to h k =
    let n = raised a to in
    let none : (n / 2 ^ 12 * 2 ^ 12 + 2 ^ 32 - 2 ^ 30) % 2 ^ 32 % 2 ^ 12 ≡ 0 = omega arith in
    ap (λ w. w % 2 ^ 12 == 0) (word-difference (n / 2 ^ 12 * 2 ^ 12) (2 ^ 30) (omega arith) (omega arith)) ∙ ap (λ m. m == 0) none

lower_within : (a to : ℕ) → is_within (2 ^ 11) (lower_part a to) ≡ true
lower_within a to = is_within-difference (2 ^ 11) (raised a to % 2 ^ 12) (2 ^ 11) (omega arith) (omega arith)

-- AUIPC and JALR lead from anywhere to anywhere
pub far_rows : (link a to : ℕ) → link < 32 → a ≤ 2 ^ 30 → to < 2 ^ 30 → in_rows (far_jump link a to) ≡ true
far_rows link a to l h k =
    let upper : in_row (instruction Auipc 5 0 0 (upper_part a to)) ≡ true = and_from (is_within (2 ^ 31) (upper_part a to)) (is_multiple 12 (upper_part a to)) (upper_within a to h k) (upper_multiple a to h k) in
    let lower : in_row (instruction Jalr link 5 0 (lower_part a to)) ≡ true = and_from (nat_lt link 32) (is_within (2 ^ 11) (lower_part a to)) (lt-ltb link 32 l) (lower_within a to) in
    and_from (in_row (instruction Auipc 5 0 0 (upper_part a to))) (in_row (instruction Jalr link 5 0 (lower_part a to)) && true) upper (and_from (in_row (instruction Jalr link 5 0 (lower_part a to))) true lower refl)

-- a branch over what stands behind it
branch_row : (c : Condition) (x y : ℕ) → x < 32 → y < 32 → in_row (instruction (branch_op c) 0 x y (pos 12)) ≡ true
branch_row c x y h k =
    by c
  where
    regs : (nat_lt x 32 && (nat_lt y 32 && true)) ≡ true
    regs = and_from (nat_lt x 32) (nat_lt y 32 && true) (lt-ltb x 32 h) (and_from (nat_lt y 32) true (lt-ltb y 32 k) refl)

    by : (d : Condition) → in_row (instruction (branch_op d) 0 x y (pos 12)) ≡ true
    by Equal = regs
    by NotEqual = regs
    by Less = regs
    by AtLeast = regs
    by LessUnsigned = regs
    by AtLeastUnsigned = regs

item_rows : (p : Starts) (f a : ℕ) (x : Item) → ((g b : ℕ) → p g b < 2 ^ 30) → IsSound x → a + size (longest x) ≤ 2 ^ 30 → in_rows (words p f a (longest x)) ≡ true
item_rows p f a (Single i) low s r = and_from (in_row i) true s refl
item_rows p f a (Jump far n) low s r = far_rows 0 a (p f n) (omega arith) (omega arith) (low f n)
item_rows p f a (Call far g) low s r = far_rows 1 a (p g 0) (omega arith) (omega arith) (low g 0)
item_rows p f a (Branch form c x y n) low s r =
    and_from (in_row (instruction (branch_op (opposite c)) 0 x y (pos 12))) (in_rows (far_jump 0 (a + 4) (p f n))) (branch_row (opposite c) x y s.0 s.1) (far_rows 0 (a + 4) (p f n) (omega arith) (omega arith) (low f n))
item_rows p f a Return low s r = refl
item_rows p f a Exit low s r = refl

items_rows : (p : Starts) (f a : ℕ) (xs : List Item) → ((g b : ℕ) → p g b < 2 ^ 30) → AreSound xs → a + total (items_longest xs) ≤ 2 ^ 30 → in_rows (all_words p f a (items_longest xs)) ≡ true
items_rows p f a [] low s r = refl
items_rows p f a (x ∷ xs) low s r =
    rows-append (words p f a (longest x)) (all_words p f (a + size (longest x)) (items_longest xs)) (item_rows p f a x low (All-head IsSound x xs s) (omega arith)) (items_rows p f (a + size (longest x)) xs low (All-tail IsSound x xs s) (omega arith))

blocks_rows : (p : Starts) (f a : ℕ) (bs : Blocks) → ((g b : ℕ) → p g b < 2 ^ 30) → BlocksSound bs → a + blocks_size (blocks_longest bs) ≤ 2 ^ 30 → in_rows (blocks_words p f a (blocks_longest bs)) ≡ true
blocks_rows p f a [] low s r = refl
blocks_rows p f a (xs ∷ bs) low s r =
    rows-append (all_words p f a (items_longest xs)) (blocks_words p f (a + total (items_longest xs)) (blocks_longest bs)) (items_rows p f a xs low (All-head AreSound xs bs s) (omega arith)) (blocks_rows p f (a + total (items_longest xs)) bs low (All-tail AreSound xs bs s) (omega arith))

pub longest_fit : (p : Starts) (bases : List ℕ) (f : ℕ) (fs : List Blocks) → ((g b : ℕ) → p g b < 2 ^ 30) → FunctionsSound fs → RoomFrom bases f (functions_longest fs) → functions_fit p bases f (functions_longest fs) ≡ true
longest_fit p bases f [] low s r = refl
longest_fit p bases f (bs ∷ fs) low s r =
    let room = r.1 in
    and_from (in_rows (blocks_words p f (slice_index bases f) (blocks_longest bs))) (functions_fit p bases (suc f) (functions_longest fs)) (blocks_rows p f (slice_index bases f) bs low (All-head BlocksSound bs fs s) (omega arith)) (longest_fit p bases (suc f) fs low (All-tail BlocksSound bs fs s) r.2)
