-- How many bytes the rows of code have.
use Rattle.std.proofs.Common.{◌≡◌, ℕ, suc, ◌+◌, ◌*◌, ◌≤◌, Bool, true, false, List, [], ◌∷◌, ◌++◌, map, length, refl, ap, ◌∙◌, arith, if◌then◌else◌}
use Rattle.std.specs.Prelude.{slice_index}
use Rattle.std.proofs.lemmas.List.{length-append, length-map}
use Rattle.rv_core.specs.Bytes.{le_words}
use Rattle.rv_core.specs.Instructions.{Instruction}
use Rattle.rv_core.specs.Words.{word_of}
use Rattle.asm_items.specs.declared.item.Form.TheVariants.{Short, Inverted, Far}
use Rattle.asm_items.specs.declared.item.Item.{Item}
use Rattle.asm_items.specs.declared.item.Item.TheVariants.{Single, Jump, Call, Branch, Return, Exit}
use Rattle.asm_items.specs.Items.{Starts, all_words, size, total}
use Rattle.asm_items.specs.Placings.{Blocks, blocks_size, blocks_words}
use Rattle.asm_items.proofs.PlacedLemmas.{all_words_count}
use Rattle.asm_forms.specs.Shorter.{longest, items_longest, blocks_longest, functions_longest}
use Rattle.asm_forms.specs.Regions.{functions_size}
use Rattle.asm_placed.specs.Written.{row_words}
use Rattle.image_definition.specs.Images.{row_size}

pub bytes_count : (ws : List ℕ) → length (le_words ws) ≡ 4 * length ws
bytes_count [] = refl
bytes_count (w ∷ ws) = let h = bytes_count ws in omega arith

blocks_count : (p : Starts) (f a : ℕ) (bs : Blocks) → 4 * length (blocks_words p f a bs) ≡ blocks_size bs
blocks_count p f a [] = omega arith
blocks_count p f a (xs ∷ bs) =
    let here = all_words_count p f a xs in
    let rest = blocks_count p f (a + total xs) bs in
    let both = length-append (all_words p f a xs) (blocks_words p f (a + total xs) bs) in
    omega (arith, here, rest, both)

row_count : (p : Starts) (bases : List ℕ) (here : ℕ → Bool) (f : ℕ) (fs : List Blocks) → 4 * length (row_words p bases here f fs) ≡ row_size here f fs
row_count p bases here f [] = omega arith
row_count p bases here f (bs ∷ fs) = by (here f) (row_count p bases here (suc f) fs)
  where
    by : (b : Bool) → 4 * length (row_words p bases here (suc f) fs) ≡ row_size here (suc f) fs
        → 4 * length (if b then blocks_words p f (slice_index bases f) bs ++ row_words p bases here (suc f) fs else row_words p bases here (suc f) fs) ≡ (if b then blocks_size bs else 0) + row_size here (suc f) fs
    by true h =
        let one = blocks_count p f (slice_index bases f) bs in
        let both = length-append (blocks_words p f (slice_index bases f) bs) (row_words p bases here (suc f) fs) in
        omega (arith, h, one, both)
    by false h = omega (arith, h)

pub row_bytes_count : (p : Starts) (bases : List ℕ) (here : ℕ → Bool) (fs : List Blocks) → length (le_words (map word_of (row_words p bases here 0 fs))) ≡ row_size here 0 fs
row_bytes_count p bases here fs =
    bytes_count (map word_of (row_words p bases here 0 fs)) ∙ (ap (λ n. 4 * n) (length-map (row_words p bases here 0 fs) word_of) ∙ row_count p bases here 0 fs)

-- items in their longest forms take no less
item_most : (x : Item) → size x ≤ size (longest x)
item_most (Single i) = omega arith
item_most (Jump true n) = omega arith
item_most (Jump false n) = omega arith
item_most (Call true g) = omega arith
item_most (Call false g) = omega arith
item_most (Branch Short c x y n) = omega arith
item_most (Branch Inverted c x y n) = omega arith
item_most (Branch Far c x y n) = omega arith
item_most Return = omega arith
item_most Exit = omega arith

total_most : (xs : List Item) → total xs ≤ total (items_longest xs)
total_most [] = omega arith
total_most (x ∷ xs) = let a = item_most x in let b = total_most xs in omega (arith, a, b)

blocks_most : (bs : Blocks) → blocks_size bs ≤ blocks_size (blocks_longest bs)
blocks_most [] = omega arith
blocks_most (xs ∷ bs) = let a = total_most xs in let b = blocks_most bs in omega (arith, a, b)

pub row_most : (here : ℕ → Bool) (f : ℕ) (fs : List Blocks) → row_size here f fs ≤ row_size here f (functions_longest fs)
row_most here f [] = omega arith
row_most here f (bs ∷ fs) = by (here f) (row_most here (suc f) fs)
  where
    by : (b : Bool) → row_size here (suc f) fs ≤ row_size here (suc f) (functions_longest fs) → (if b then blocks_size bs else 0) + row_size here (suc f) fs ≤ (if b then blocks_size (blocks_longest bs) else 0) + row_size here (suc f) (functions_longest fs)
    by true h = let a = blocks_most bs in omega (arith, h, a)
    by false h = omega (arith, h)

-- a row takes no more than all functions
pub row_part : (here : ℕ → Bool) (f : ℕ) (fs : List Blocks) → row_size here f fs ≤ functions_size fs
row_part here f [] = omega arith
row_part here f (bs ∷ fs) = by (here f) (row_part here (suc f) fs)
  where
    by : (b : Bool) → row_size here (suc f) fs ≤ functions_size fs → (if b then blocks_size bs else 0) + row_size here (suc f) fs ≤ blocks_size bs + functions_size fs
    by true h = omega (arith, h)
    by false h = omega (arith, h)

pub no_bytes : (is : List Instruction) → length (le_words (map word_of is)) ≡ 0 → is ≡ []
no_bytes [] e = refl
no_bytes (i ∷ is) e = let h = bytes_count (map word_of (i ∷ is)) in absurd (omega (arith, h, e))
