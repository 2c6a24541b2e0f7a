-- The loads and stores of laid code are items of their own.
use Rattle.std.proofs.Common.{◌≡◌, ℕ, zero, suc, ◌+◌, ◌<◌, Bool, true, false, List, [], ◌∷◌, length, Option, Some, None, inl, inr, refl, sym, ap, ◌∙◌, subst, arith, Contains}
use Rattle.std.specs.Prelude.{◌==◌, if◌then◌else◌, slice_get, slice_index_or, take}
use Rattle.std.proofs.lemmas.Bool.{false≢true}
use Rattle.std.proofs.lemmas.Bool.Decides.{nat_tests}
use Rattle.rv_core.specs.declared.op.Op.TheVariants.{Auipc, Jal, Jalr}
use Rattle.rv_core.specs.declared.row.Condition.{Condition}
use Rattle.rv_core.specs.declared.row.Condition.TheVariants.{Equal, NotEqual, Less, AtLeast, LessUnsigned, AtLeastUnsigned}
use Rattle.rv_core.specs.Instructions.{Instruction, ecall, instruction}
use Rattle.rv_core.specs.Rows.{row_of}
use Rattle.rv_core.specs.Table.{accesses}
use Rattle.code_flow_system.specs.declared.moves.Move.{Move}
use Rattle.code_flow_system.specs.declared.moves.Way.{Way}
use Rattle.code_flow_system.specs.declared.moves.Way.TheVariants.{Next, Branches, Jumps, Calls, Ends, Strays}
use Rattle.code_flow_system.specs.Moves.{Code, fetch_before, moves_by, moves_on, way_of}
use Rattle.code_flow_system.specs.Systems.{moves_from}
use Rattle.asm_items.specs.declared.item.Form.{Form}
use Rattle.asm_items.specs.declared.item.Form.TheVariants.{Short, Inverted, Far}
use Rattle.asm_items.specs.declared.item.Item.{Item}
use Rattle.asm_items.specs.declared.item.Item.TheVariants.{Single, Jump, Call, Branch, Return, Exit}
use Rattle.asm_items.specs.Items.{Starts, branch_op, branch_words, jump_words, opposite, return_word, size, total, words}
use Rattle.asm_items.specs.Offsets.{lower_part, offset, upper_part}
use Rattle.asm_items.specs.Outcomes.{BranchWord, IsWord, IsWordOf, JumpWord}
use Rattle.asm_items.specs.Placings.{Blocks}
use Rattle.asm_items.specs.Standing.{HasItems, HasWords}
use Rattle.asm_writing.specs.Forms.{AreLike, IsLike}
use Rattle.asm_graphs.specs.Promised.{block_in, blocks_in}
use Rattle.claims_definition.specs.AccessLaws.{AreTouched, BlocksTouched, FunctionsTouched}
use Rattle.claims_definition.specs.Touches.{Touch, frame_touch, item_touch, touches_memory}

-- an instruction that is a load or a store
abbrev pub Loads : Instruction → Type 0
Loads i = accesses (row_of i.op).class ≡ true

abbrev loads : Option Instruction → Bool
loads None = false
loads (Some i) = accesses (row_of i.op).class

-- the moves of an address have its instruction
on_instr : (w : Way) (a : ℕ) (i : Instruction) (m : Move) → Contains (moves_on w a i) m → i ≡ m.instr
on_instr Next a i m (zero, lt, e) = ap (λ (y : Move). y.instr) e
on_instr Next a i m (suc n, lt, e) = absurd (omega arith)
on_instr (Branches to) a i m (zero, lt, e) = ap (λ (y : Move). y.instr) e
on_instr (Branches to) a i m (suc zero, lt, e) = ap (λ (y : Move). y.instr) e
on_instr (Branches to) a i m (suc (suc n), lt, e) = absurd (omega arith)
on_instr (Jumps to) a i m (zero, lt, e) = ap (λ (y : Move). y.instr) e
on_instr (Jumps to) a i m (suc n, lt, e) = absurd (omega arith)
on_instr (Calls to) a i m (zero, lt, e) = ap (λ (y : Move). y.instr) e
on_instr (Calls to) a i m (suc n, lt, e) = absurd (omega arith)
on_instr Ends a i m (zero, lt, e) = ap (λ (y : Move). y.instr) e
on_instr Ends a i m (suc n, lt, e) = absurd (omega arith)
on_instr Strays a i m (n, lt, e) = absurd (omega arith)

-- an item that touches memory, and its address
pub record IsAt (ts : List Touch) (xs : List Item) (at a : ℕ) : Type 0 where
  pub number : ℕ
  pub touch : Touch
  pub low : number < length xs
  pub there : slice_get ts number ≡ Some touch
  pub is : at + total (take number xs) ≡ a
  pub touches : touches_memory touch ≡ true

later : (t : Touch) (x : Item) (ts : List Touch) (xs : List Item) (at a : ℕ) → IsAt ts xs (at + size x) a → IsAt (t ∷ ts) (x ∷ xs) at a
later t x ts xs at a h =
    let low = h.low in
    let is = h.is in
    let more : total (take (suc h.number) (x ∷ xs)) ≡ size x + total (take h.number xs) = refl in
    record { number = suc h.number; touch = h.touch; low = omega (arith, low); there = h.there; is = omega (arith, is, more); touches = h.touches }

module _ (c : Code) where
  abbrev pub LoadsAt : ℕ → Type 0
  LoadsAt a = loads (c.fetch a) ≡ true

  pub loads_by : (a : ℕ) (o : Option Instruction) (m : Move) → Contains (moves_by c a o) m → Loads m.instr → loads o ≡ true
  loads_by a None m (n, lt, e) h = absurd (omega arith)
  loads_by a (Some i) m has h = subst Loads (sym (on_instr (way_of (c.exit a) (fetch_before c a) a i) a i m has)) h

  -- another instruction
  other : (a b : ℕ) (i : Instruction) → a ≡ b → c.fetch b ≡ Some i → accesses (row_of i.op).class ≡ false → LoadsAt a → ⊥
  other a b i same fetched quiet h = false≢true (sym quiet ∙ sym (ap loads fetched) ∙ ap (λ n. loads (c.fetch n)) (sym same) ∙ h)

  jump_quiet : (far : Bool) (link at to a : ℕ) (low : Bool) → HasWords c at (jump_words far link at to) → JumpWord far at a low → LoadsAt a → ⊥
  jump_quiet false link at to a false h w q = other a at (instruction Jal link 0 0 (offset at to)) w h.0 refl q
  jump_quiet false link at to a true h w q = absurd w
  jump_quiet true link at to a false h w q = other a at (instruction Auipc 5 0 0 (upper_part at to)) w h.0 refl q
  jump_quiet true link at to a true h w q = other a (at + 4) (instruction Jalr link 5 0 (lower_part at to)) w h.1.0 refl q

  condition_quiet : (k : Condition) → accesses (row_of (branch_op k)).class ≡ false
  condition_quiet Equal = refl
  condition_quiet NotEqual = refl
  condition_quiet Less = refl
  condition_quiet AtLeast = refl
  condition_quiet LessUnsigned = refl
  condition_quiet AtLeastUnsigned = refl

  branch_quiet : (form : Form) (k : Condition) (x y at to a : ℕ) (low : Bool) → HasWords c at (branch_words form k x y at to) → BranchWord form at a low → LoadsAt a → ⊥
  branch_quiet Short k x y at to a false h w q = other a at _ w h.0 (condition_quiet k) q
  branch_quiet Short k x y at to a true h w q = absurd w
  branch_quiet Inverted k x y at to a false h (inl w) q = other a at _ w h.0 (condition_quiet (opposite k)) q
  branch_quiet Inverted k x y at to a true h (inl w) q = absurd w
  branch_quiet Inverted k x y at to a low h (inr w) q = jump_quiet false 0 (at + 4) to a low h.1 w q
  branch_quiet Far k x y at to a false h (inl w) q = other a at _ w h.0 (condition_quiet (opposite k)) q
  branch_quiet Far k x y at to a true h (inl w) q = absurd w
  branch_quiet Far k x y at to a low h (inr w) q = jump_quiet true 0 (at + 4) to a low h.1 w q

  module _ (p : Starts) (f : ℕ) where
    -- an item of which a word loads or stores
    at_item : (x : Item) (t : Touch) (at a : ℕ) (low : Bool) → touches_memory t ≡ touches_memory (item_touch x) → HasWords c at (words p f at x) → IsWordOf x at a low → LoadsAt a → (at ≡ a) × (touches_memory t ≡ true)
    at_item (Single i) t at a false e h w q =
        let own : Loads i = sym (ap loads h.0) ∙ ap (λ n. loads (c.fetch n)) (sym w) ∙ q in
        (sym w, e ∙ ap (λ b. touches_memory (frame_touch b)) own)
    at_item (Single i) t at a true e h w q = absurd w
    at_item (Jump far n) t at a low e h w q = absurd (jump_quiet far 0 at (p f n) a low h w q)
    at_item (Call far g) t at a low e h w q = absurd (jump_quiet far 1 at (p g 0) a low h w q)
    at_item (Branch form k x y n) t at a low e h w q = absurd (branch_quiet form k x y at (p f n) a low h w q)
    at_item Return t at a false e h w q = absurd (other a at return_word w h.0 refl q)
    at_item Return t at a true e h w q = absurd w
    at_item Exit t at a false e h w q = absurd (other a at ecall w h.0 refl q)
    at_item Exit t at a true e h w q = absurd w

    pub found : (ts : List Touch) (xs : List Item) (at a : ℕ) (low : Bool) → AreTouched ts xs → HasItems p c f at xs → IsWord at xs a low → LoadsAt a → IsAt ts xs at a
    found [] [] at a low e h w q = absurd w
    found [] (x ∷ xs) at a low e h w q = absurd e
    found (t ∷ ts) [] at a low e h w q = absurd w
    found (t ∷ ts) (x ∷ xs) at a low e h (inl w) q =
        let k = at_item x t at a low e.0 h.0 w q in
        let same = k.0 in
        record { number = 0; touch = t; low = omega arith; there = refl; is = omega (arith, same); touches = k.1 }
    found (t ∷ ts) (x ∷ xs) at a low e h (inr w) q = later t x ts xs at a (found ts xs (at + size x) a low e.1 h.2 w q)

-- a move is among those of its address
pub among_own : (ms : List Move) (m : Move) → Contains ms m → Contains (moves_from ms m.at) m
among_own [] m (n, lt, e) = absurd (omega arith)
among_own (x ∷ ms) m (zero, lt, e) =
    let at : x.at ≡ m.at = ap (λ (y : Move). y.at) e in
    let test : (x.at == m.at) ≡ true = grind (arith, nat_tests) in
    subst (λ b. Contains (if b then x ∷ moves_from ms m.at else moves_from ms m.at) m) (sym test) (0, omega arith, e)
among_own (x ∷ ms) m (suc n, lt, e) = by_test (x.at == m.at) (among_own ms m (n, omega arith, e))
  where
    by_test : (b : Bool) → Contains (moves_from ms m.at) m → Contains (if b then x ∷ moves_from ms m.at else moves_from ms m.at) m
    by_test true (j, less, f) = (suc j, omega arith, f)
    by_test false h = h

-- what items touch, they touch in other forms
like_touch : (x y : Item) → IsLike x y → item_touch x ≡ item_touch y
like_touch (Single i) y h = sym (ap item_touch h)
like_touch (Jump far n) y h = sym (ap item_touch h.1)
like_touch (Call far g) y h = sym (ap item_touch h.1)
like_touch (Branch form k u v n) y h = sym (ap item_touch h.1)
like_touch Return y h = sym (ap item_touch h)
like_touch Exit y h = sym (ap item_touch h)

pub touched_like : (ts : List Touch) (xs ys : List Item) → AreTouched ts xs → AreLike xs ys → AreTouched ts ys
touched_like [] [] ys h k = subst (AreTouched []) (sym k) tt
touched_like [] (x ∷ xs) ys h k = absurd h
touched_like (t ∷ ts) [] ys h k = absurd h
touched_like (t ∷ ts) (x ∷ xs) [] h k = absurd k
touched_like (t ∷ ts) (x ∷ xs) (y ∷ ys) h k = (h.0 ∙ ap touches_memory (like_touch x y k.0), touched_like ts xs ys h.1 k.1)

-- by number
blocks_at : (tss : List (List (List Touch))) (fs : List Blocks) (f : ℕ) → FunctionsTouched tss fs → BlocksTouched (slice_index_or tss f []) (blocks_in fs f)
blocks_at [] [] zero h = tt
blocks_at [] [] (suc f) h = tt
blocks_at [] (x ∷ fs) f h = absurd h
blocks_at (ts ∷ tss) [] f h = absurd h
blocks_at (ts ∷ tss) (x ∷ fs) zero h = h.0
blocks_at (ts ∷ tss) (x ∷ fs) (suc f) h = blocks_at tss fs f h.1

items_at : (tss : List (List Touch)) (bs : Blocks) (b : ℕ) → BlocksTouched tss bs → AreTouched (slice_index_or tss b []) (slice_index_or bs b [])
items_at [] [] zero h = tt
items_at [] [] (suc b) h = tt
items_at [] (x ∷ bs) b h = absurd h
items_at (ts ∷ tss) [] b h = absurd h
items_at (ts ∷ tss) (x ∷ bs) zero h = h.0
items_at (ts ∷ tss) (x ∷ bs) (suc b) h = items_at tss bs b h.1

pub touched_at : (tss : List (List (List Touch))) (fs : List Blocks) (f b : ℕ) → FunctionsTouched tss fs → AreTouched (slice_index_or (slice_index_or tss f []) b []) (block_in fs f b)
touched_at tss fs f b h = items_at (slice_index_or tss f []) (blocks_in fs f) b (blocks_at tss fs f h)
