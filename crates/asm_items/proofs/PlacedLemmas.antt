-- Items stand where their instructions do.
use Rattle.std.proofs.Common.{◌≡◌, ℕ, zero, suc, ◌+◌, ◌-◌, ◌*◌, ◌<◌, true, false, List, [], ◌∷◌, ◌++◌, length, refl, subst, arith, length-append}
use Rattle.std.specs.Prelude.{slice_index, slice_index_or}
use Rattle.rv_core.specs.Instructions.{Instruction}
use Rattle.code_flow_system.specs.Moves.{Code}
use Rattle.asm_items.specs.declared.item.Form.TheVariants.{Short, Inverted, Far}
use Rattle.asm_items.specs.declared.item.Item.{Item}
use Rattle.asm_items.specs.declared.item.Item.TheVariants.{Single, Jump, Call, Branch, Return, Exit}
use Rattle.asm_items.specs.Items.{Starts, words, size, total, all_words}
use Rattle.asm_items.specs.Placings.{Blocks, starts_from, blocks_words}
use Rattle.asm_items.specs.Standing.{HasWords, HasItems, ListsExits}

pub words_count : (p : Starts) (f a : ℕ) (x : Item) → 4 * length (words p f a x) ≡ size x
words_count p f a (Single i) = refl
words_count p f a (Jump false n) = refl
words_count p f a (Jump true n) = refl
words_count p f a (Call false g) = refl
words_count p f a (Call true g) = refl
words_count p f a (Branch Short c x y n) = refl
words_count p f a (Branch Inverted c x y n) = refl
words_count p f a (Branch Far c x y n) = refl
words_count p f a Return = refl
words_count p f a Exit = refl

pub all_words_count : (p : Starts) (f a : ℕ) (xs : List Item) → 4 * length (all_words p f a xs) ≡ total xs
all_words_count p f a [] = refl
all_words_count p f a (x ∷ xs) =
    let one = words_count p f a x in
    let rest = all_words_count p f (a + size x) xs in
    let both = length-append (words p f a x) (all_words p f (a + size x) xs) in omega arith

module _ (c : Code) where
  pub first_words : (a : ℕ) (is js : List Instruction) → HasWords c a (is ++ js) → HasWords c a is
  first_words a [] js h = tt
  first_words a (i ∷ is) js h = (h.0, first_words (a + 4) is js h.1)

  pub later_words : (a : ℕ) (is js : List Instruction) → HasWords c a (is ++ js) → HasWords c (a + 4 * length is) js
  later_words a [] js h = let e : a ≡ a + 4 * 0 = omega arith in subst (λ n. HasWords c n js) e h
  later_words a (i ∷ is) js h =
      let e : a + 4 + 4 * length is ≡ a + 4 * length (i ∷ is) = omega arith in
      subst (λ n. HasWords c n js) e (later_words (a + 4) is js h.1)

  -- items whose instructions stand in a row
  pub items_stand : (p : Starts) (f a : ℕ) (xs : List Item) → HasWords c a (all_words p f a xs) → ListsExits c a xs → HasItems p c f a xs
  items_stand p f a [] h e = tt
  items_stand p f a (x ∷ xs) h e =
      let rest = later_words a (words p f a x) (all_words p f (a + size x) xs) h in
      let n = words_count p f a x in
      let place : a + 4 * length (words p f a x) ≡ a + size x = omega arith in (
        first_words a (words p f a x) (all_words p f (a + size x) xs) h,
        e.0,
        items_stand p f (a + size x) xs (subst (λ k. HasWords c k (all_words p f (a + size x) xs)) place rest) e.1,
      )

  -- the items of one block of a function
  pub block_stands : (p : Starts) (f a b : ℕ) (bs : Blocks) → b < length bs → HasWords c a (blocks_words p f a bs) → HasWords c (slice_index (starts_from a bs) b) (all_words p f (slice_index (starts_from a bs) b) (slice_index_or bs b []))
  block_stands p f a b [] less h = absurd (omega arith)
  block_stands p f a zero (xs ∷ bs) less h = first_words a (all_words p f a xs) (blocks_words p f (a + total xs) bs) h
  block_stands p f a (suc b) (xs ∷ bs) less h =
      let n = all_words_count p f a xs in
      let place : a + 4 * length (all_words p f a xs) ≡ a + total xs = omega arith in
      block_stands p f (a + total xs) b bs (omega arith)
      (subst (λ k. HasWords c k (blocks_words p f (a + total xs) bs)) place (later_words a (all_words p f a xs) (blocks_words p f (a + total xs) bs) h))
