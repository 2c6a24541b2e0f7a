-- No instruction of items that keep their promise is an AUIPC of x1.
use Rattle.std.proofs.Common.{◌≡◌, ℕ, suc, ◌+◌, ◌<◌, Bool, true, false, not, List, [], ◌∷◌, ◌++◌, length, Some, refl, ap, arith, if◌then◌else◌}
use Rattle.std.specs.Prelude.{slice_index, slice_index_or}
use Rattle.std.proofs.lemmas.Bool.{and_parts, and_from}
use Rattle.rv_core.specs.declared.row.Condition.{Condition}
use Rattle.rv_core.specs.declared.row.Condition.TheVariants.{Equal, NotEqual, Less, AtLeast, LessUnsigned, AtLeastUnsigned}
use Rattle.rv_core.specs.declared.row.Effect.{Effect}
use Rattle.rv_core.specs.declared.row.Effect.TheVariants.{SetUpper, AddUpper, Link, LinkRegister, BranchIf, Read, Write, WithImmediate, WithRegister, CallEnvironment}
use Rattle.rv_core.specs.Instructions.{Instruction, instruction}
use Rattle.rv_core.specs.Rows.{row_of}
use Rattle.rv_core.specs.Runs.{sets_upper, sets_upper_by}
use Rattle.std.specs.Prelude.{ℤ, pos}
use Rattle.asm_items.specs.Offsets.{offset}
use Rattle.asm_items.specs.declared.item.Form.{Form}
use Rattle.asm_items.specs.declared.item.Form.TheVariants.{Short, Inverted, Far}
use Rattle.asm_items.specs.declared.item.Item.{Item}
use Rattle.asm_items.specs.declared.item.Item.TheVariants.{Single, Jump, Call, Branch, Return, Exit}
use Rattle.asm_items.specs.Items.{Starts, branch_op, opposite, jump_words, branch_words, size, total, all_words}
use Rattle.asm_items.specs.Placings.{Blocks, blocks_words}
use Rattle.asm_items.specs.Promises.{goes_on, Keeps}
use Rattle.asm_items.specs.Standing.{links_none}
use Rattle.asm_placed.specs.Written.{row_words}

links-append : (is js : List Instruction) → links_none is ≡ true → links_none js ≡ true → links_none (is ++ js) ≡ true
links-append [] js h k = k
links-append (i ∷ is) js h k =
    let b = and_parts (not (sets_upper (Some i) 1)) (links_none is) h in
    and_from (not (sets_upper (Some i) 1)) (links_none (is ++ js)) b.0 (links-append is js b.1 k)

upper_none : (e : Effect) (rd : ℕ) → goes_on e ≡ true → not (sets_upper_by e rd 1) ≡ true
upper_none SetUpper rd h = refl
upper_none AddUpper rd h = absurd (let no : false ≡ true = h in cc)
upper_none Link rd h = refl
upper_none LinkRegister rd h = refl
upper_none (BranchIf c) rd h = refl
upper_none (Read w signed) rd h = refl
upper_none (Write w) rd h = refl
upper_none (WithImmediate f) rd h = refl
upper_none (WithRegister f) rd h = refl
upper_none CallEnvironment rd h = refl

jump_links : (far : Bool) (link a to : ℕ) → links_none (jump_words far link a to) ≡ true
jump_links false link a to = refl
jump_links true link a to = refl

branch_links : (c : Condition) (x y : ℕ) (o : ℤ) (is : List Instruction) → links_none is ≡ true → links_none (instruction (branch_op c) 0 x y o ∷ is) ≡ true
branch_links Equal x y o is h = h
branch_links NotEqual x y o is h = h
branch_links Less x y o is h = h
branch_links AtLeast x y o is h = h
branch_links LessUnsigned x y o is h = h
branch_links AtLeastUnsigned x y o is h = h

form_links : (form : Form) (c : Condition) (x y a to : ℕ) → links_none (branch_words form c x y a to) ≡ true
form_links Short c x y a to = branch_links c x y (offset a to) [] refl
form_links Inverted c x y a to = branch_links (opposite c) x y (pos 8) (jump_words false 0 (a + 4) to) refl
form_links Far c x y a to = branch_links (opposite c) x y (pos 12) (jump_words true 0 (a + 4) to) refl

nothing_behind : (p : Starts) (f a : ℕ) (xs : List Item) → xs ≡ [] → links_none (all_words p f a xs) ≡ true
nothing_behind p f a xs e = ap (λ l. links_none (all_words p f a l)) e

items_links : (p : Starts) (f a : ℕ) (follows calls : List ℕ) (b : ℕ) (xs : List Item) → Keeps follows calls b xs → links_none (all_words p f a xs) ≡ true
items_links p f a follows calls b [] k = refl
items_links p f a follows calls b (Single i ∷ xs) k = and_from (not (sets_upper (Some i) 1)) (links_none (all_words p f (a + 4) xs)) (upper_none (row_of i.op).effect i.rd k.0) (items_links p f (a + 4) follows calls b xs k.1)
items_links p f a follows calls b (Jump far n ∷ xs) k = links-append (jump_words far 0 a (p f n)) (all_words p f (a + size (Jump far n)) xs) (jump_links far 0 a (p f n)) (nothing_behind p f (a + size (Jump far n)) xs k.1)
items_links p f a follows calls b (Call far g ∷ xs) k = links-append (jump_words far 1 a (p g 0)) (all_words p f (a + size (Call far g)) xs) (jump_links far 1 a (p g 0)) (items_links p f (a + size (Call far g)) follows calls b xs k.1)
items_links p f a follows calls b (Branch form c x y n ∷ xs) k = links-append (branch_words form c x y a (p f n)) (all_words p f (a + size (Branch form c x y n)) xs) (form_links form c x y a (p f n)) (items_links p f (a + size (Branch form c x y n)) follows calls b xs k.1)
items_links p f a follows calls b (Return ∷ xs) k = nothing_behind p f (a + 4) xs k
items_links p f a follows calls b (Exit ∷ xs) k = nothing_behind p f (a + 4) xs k

-- each block of a function keeps some promise
abbrev pub BlocksKeep : Blocks → Type 0
BlocksKeep bs = (b : ℕ) → b < length bs → (follows calls : List ℕ) × (n : ℕ) × Keeps follows calls n (slice_index_or bs b [])

blocks_links : (p : Starts) (f a : ℕ) (bs : Blocks) → BlocksKeep bs → links_none (blocks_words p f a bs) ≡ true
blocks_links p f a [] h = refl
blocks_links p f a (xs ∷ bs) h =
    let k = h 0 (omega arith) in
    links-append (all_words p f a xs) (blocks_words p f (a + total xs) bs) (items_links p f a k.0 k.1 k.2 xs k.3) (blocks_links p f (a + total xs) bs (λ b less. h (suc b) (omega arith)))

either : (b : Bool) (ws rest : List Instruction) → links_none ws ≡ true → links_none rest ≡ true → links_none (if b then ws ++ rest else rest) ≡ true
either true ws rest h k = links-append ws rest h k
either false ws rest h k = k

pub row_links : (p : Starts) (bases : List ℕ) (here : ℕ → Bool) (k : ℕ) (fs : List Blocks) → ((f : ℕ) → f < length fs → BlocksKeep (slice_index_or fs f [])) → links_none (row_words p bases here k fs) ≡ true
row_links p bases here k [] h = refl
row_links p bases here k (bs ∷ fs) h =
    either (here k) (blocks_words p k (slice_index bases k) bs) (row_words p bases here (suc k) fs) (blocks_links p k (slice_index bases k) bs (h 0 (omega arith))) (row_links p bases here (suc k) fs (λ f less. h (suc f) (omega arith)))
