-- The items of a program are in their longest forms, and take at most its room.
use Rattle.std.proofs.Common.{◌≡◌, ℕ, zero, suc, ◌+◌, ◌*◌, ◌≤◌, Bool, true, false, List, [], ◌∷◌, ◌++◌, length, map, All, Some, refl, sym, ap, ◌∙◌, subst, arith}
use Rattle.std.specs.Prelude.{slice_get, slice_index_or, sum_by}
use Rattle.std.proofs.lemmas.List.Elements.{All-head, All-tail}
use Rattle.std.proofs.lemmas.List.Sums.{sum_by-cons}
use Rattle.asm_items.specs.declared.item.Item.{Item}
use Rattle.asm_items.specs.declared.item.Item.TheVariants.{Single, Jump, Call, Branch, Return, Exit}
use Rattle.asm_items.specs.Placings.{Blocks, blocks_size}
use Rattle.asm_forms.specs.Regions.{functions_size}
use Rattle.asm_forms.specs.Shorter.{longest, items_longest, blocks_longest, functions_longest}
use Rattle.asm_forms.specs.Layouts.{formed}
use Rattle.asm_forms.proofs.Formed.{formed_longest}
use Rattle.asm_forms.proofs.SizeLemmas.{functions_most}
use Rattle.low_ir.specs.Places.{Placed}
use Rattle.low_ir.specs.Room.{block_room, function_room, room}
use Rattle.asm_program.specs.Frames.{Memory, frame_of}
use Rattle.asm_program.specs.Functions.{PlacedBlock, PlacedFunction, no_function, function_in, at_once, blocks_from, leaving_blocks, function_items, start_items, functions_from, program_items}
use Rattle.asm_program.specs.Laws.{AreWords}
use Rattle.asm_sound.proofs.LongLemmas.{IsLong, AreLong}
use Rattle.asm_sound.proofs.EmissionLemmas.{start_long, start_total, block_long, block_total, leaving_long, leaving_total}
use Rattle.asm_sound.specs.Sizes.{IsSmall, LongestHasRoom, ChosenHasRoom}

-- longest forms stay as they are

item_same : (x : Item) → IsLong x → longest x ≡ x
item_same (Single i) h = refl
item_same (Jump far n) h = ap (λ b. Jump b n) (sym h)
item_same (Call far f) h = ap (λ b. Call b f) (sym h)
item_same (Branch form c x y n) h = ap (λ k. Branch k c x y n) (sym h)
item_same Return h = refl
item_same Exit h = refl

items_same : (xs : List Item) → AreLong xs → items_longest xs ≡ xs
items_same [] h = refl
items_same (x ∷ xs) h = ap (λ y. y ∷ map longest xs) (item_same x h.0) ∙ ap (λ ys. x ∷ ys) (items_same xs h.1)

abbrev AllLong : Blocks → Type 0
AllLong [] = Unit {0}
AllLong (xs ∷ bs) = AreLong xs × AllLong bs

blocks_same : (bs : Blocks) → AllLong bs → blocks_longest bs ≡ bs
blocks_same [] h = refl
blocks_same (xs ∷ bs) h = ap (λ ys. ys ∷ map items_longest bs) (items_same xs h.0) ∙ ap (λ cs. xs ∷ cs) (blocks_same bs h.1)

abbrev EachLong : List Blocks → Type 0
EachLong [] = Unit {0}
EachLong (bs ∷ fs) = AllLong bs × EachLong fs

functions_same : (fs : List Blocks) → EachLong fs → functions_longest fs ≡ fs
functions_same [] h = refl
functions_same (bs ∷ fs) h = ap (λ cs. cs ∷ map blocks_longest fs) (blocks_same bs h.0) ∙ ap (λ gs. bs ∷ gs) (functions_same fs h.1)

both_long : (bs cs : Blocks) → AllLong bs → AllLong cs → AllLong (bs ++ cs)
both_long [] cs h k = k
both_long (xs ∷ bs) cs h k = (h.0, both_long bs cs h.1 k)

each_long : (fs gs : List Blocks) → EachLong fs → EachLong gs → EachLong (fs ++ gs)
each_long [] gs h k = k
each_long (bs ∷ fs) gs h k = (h.0, each_long fs gs h.1 k)

both_size : (bs cs : Blocks) → blocks_size (bs ++ cs) ≡ blocks_size bs + blocks_size cs
both_size [] cs = omega arith
both_size (xs ∷ bs) cs = let r = both_size bs cs in omega arith

each_size : (fs gs : List Blocks) → functions_size (fs ++ gs) ≡ functions_size fs + functions_size gs
each_size [] gs = omega arith
each_size (bs ∷ fs) gs = let r = each_size fs gs in omega arith

abbrev WordsIn : List PlacedBlock → Type 0
WordsIn bs = All (λ (b : PlacedBlock). All AreWords b.code) bs

module _ (m : Memory) (p : Placed) (saved : (f : ℕ) → length (frame_of m f).saved ≤ 24) where
  -- a function

  from_long : (f b : ℕ) (bs : List PlacedBlock) → AllLong (blocks_from m p f b bs)
  from_long f b [] = tt
  from_long f b (x ∷ bs) = (block_long m p f b x, from_long f (suc b) bs)

  leaving_all : (f : ℕ) (o : Bool) → AllLong (leaving_blocks m p f o)
  leaving_all f true = tt
  leaving_all f false = (leaving_long m p f, tt)

  function_long : (f : ℕ) → AllLong (function_items m p f)
  function_long f = both_long (blocks_from m p f 0 (function_in p f).blocks) (leaving_blocks m p f (at_once m p f)) (from_long f 0 (function_in p f).blocks) (leaving_all f (at_once m p f))

  later_size : (f b : ℕ) (bs : List PlacedBlock) → WordsIn bs → blocks_size (blocks_from m p f (suc b) bs) ≤ 4 * sum_by block_room bs
  later_size f b [] h = omega arith
  later_size f b (x ∷ bs) h =
      let e = block_total m p f (suc b) x (saved f) (All-head (λ (y : PlacedBlock). All AreWords y.code) x bs h) in
      let r = later_size f (suc b) bs (All-tail (λ (y : PlacedBlock). All AreWords y.code) x bs h) in
      let s = sum_by-cons block_room x bs in omega arith

  blocks_few : (f : ℕ) (bs : List PlacedBlock) → WordsIn bs → blocks_size (blocks_from m p f 0 bs) ≤ 4 * (27 + sum_by block_room bs)
  blocks_few f [] h = omega arith
  blocks_few f (x ∷ bs) h =
      let e = block_total m p f 0 x (saved f) (All-head (λ (y : PlacedBlock). All AreWords y.code) x bs h) in
      let r = later_size f 0 bs (All-tail (λ (y : PlacedBlock). All AreWords y.code) x bs h) in
      let s = sum_by-cons block_room x bs in omega arith

  leaving_few : (f : ℕ) (o : Bool) → blocks_size (leaving_blocks m p f o) ≤ 4 * 28
  leaving_few f true = omega arith
  leaving_few f false = let e = leaving_total m p f (saved f) in omega arith

  -- nine instructions of a frame's room are left
  function_few : (f : ℕ) → WordsIn (function_in p f).blocks → blocks_size (function_items m p f) + 36 ≤ 4 * function_room (function_in p f)
  function_few f h =
      let a = blocks_few f (function_in p f).blocks h in
      let b = leaving_few f (at_once m p f) in
      let e = both_size (blocks_from m p f 0 (function_in p f).blocks) (leaving_blocks m p f (at_once m p f)) in omega arith

  -- all functions

  functions_long : (k : ℕ) (fns : List PlacedFunction) → EachLong (functions_from m p k fns)
  functions_long k [] = tt
  functions_long k (fn ∷ fns) = (function_long k, functions_long (suc k) fns)

  program_long : EachLong (program_items m p)
  program_long = each_long (functions_from m p 0 p.functions) (start_items m.second p.main ∷ []) (functions_long 0 p.functions) ((start_long m.second p.main, tt), tt)

  functions_few : (k : ℕ) (fns : List PlacedFunction) → ((i : ℕ) (fn : PlacedFunction) → slice_get fns i ≡ Some fn → function_in p (k + i) ≡ fn) → All (λ (fn : PlacedFunction). WordsIn fn.blocks) fns → functions_size (functions_from m p k fns) + 36 * length fns ≤ 4 * sum_by function_room fns
  functions_few k [] is h = omega arith
  functions_few k (fn ∷ fns) is h =
      let n : k + 0 ≡ k = omega arith in
      let here : fn ≡ function_in p k = sym (is zero fn refl) ∙ ap (function_in p) n in
      let own = function_few k (subst (λ (x : PlacedFunction). WordsIn x.blocks) here (All-head (λ (x : PlacedFunction). WordsIn x.blocks) fn fns h)) in
      let room_is = ap function_room here in
      let r = functions_few (suc k) fns (λ i x e. let s : suc k + i ≡ k + suc i = omega arith in ap (function_in p) s ∙ is (suc i) x e) (All-tail (λ (x : PlacedFunction). WordsIn x.blocks) fn fns h) in
      let s = sum_by-cons function_room fn fns in omega arith

found_is : {A : Type 0} (xs : List A) (i : ℕ) (d x : A) → slice_get xs i ≡ Some x → slice_index_or xs i d ≡ x
found_is [] i d x e = cc
found_is (y ∷ xs) zero d x e = cc
found_is (y ∷ xs) (suc i) d x e = found_is xs i d x e

program_few : (m : Memory) (p : Placed) → IsSmall m p → functions_size (program_items m p) ≤ 4 * room p
program_few m p h =
    let zero_is : (i : ℕ) → 0 + i ≡ i = λ i. omega arith in
    let a = functions_few m p h.saved 0 p.functions (λ i fn e. ap (function_in p) (zero_is i) ∙ found_is p.functions i no_function fn e) h.words in
    let e = each_size (functions_from m p 0 p.functions) (start_items m.second p.main ∷ []) in
    let s = start_total m.second p.main in
    let some = h.program.main in omega arith

pub longest_has_room : LongestHasRoom
longest_has_room m p h = let e = ap functions_size (functions_same (program_items m p) (program_long m p h.saved)) in let r = program_few m p h in omega arith

pub chosen_has_room : ChosenHasRoom
chosen_has_room m p r h =
    let most = functions_most (formed r (program_items m p)) in
    let e = ap functions_size (formed_longest r (program_items m p)) in
    let q = longest_has_room m p h in omega arith
