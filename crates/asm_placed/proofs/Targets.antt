-- Tables of addresses say what the placing says.
use Rattle.std.proofs.Common.{◌≡◌, ℕ, zero, suc, ◌+◌, List, [], ◌∷◌, ◌++◌, refl, ap, ◌∙◌, arith}
use Rattle.std.specs.Prelude.{slice_index, slice_index_or}
use Rattle.asm_items.specs.declared.item.Item.{Item}
use Rattle.asm_items.specs.declared.item.Item.TheVariants.{Single, Jump, Call, Branch, Return, Exit}
use Rattle.asm_items.specs.Items.{Starts, jump_words, branch_words, words, size, total, all_words}
use Rattle.asm_items.specs.Placings.{Blocks, start_of, starts_from, blocks_words}
use Rattle.asm_forms.specs.Layouts.{starts_of}
use Rattle.asm_forms.specs.Regions.{Rows, bases_of, tables_from}
use Rattle.asm_placed.specs.Written.{placing_of}

no_table : (a f : ℕ) → slice_index_or [] f [] ≡ starts_from a (slice_index_or [] f [])
no_table a zero = refl
no_table a (suc f) = refl

table_at : (bases : List ℕ) (k : ℕ) (fs : List Blocks) (f : ℕ) → slice_index_or (tables_from bases k fs) f [] ≡ starts_from (slice_index bases (k + f)) (slice_index_or fs f [])
table_at bases k [] f = no_table (slice_index bases (k + f)) f
table_at bases k (bs ∷ fs) zero = let e : k ≡ k + 0 = omega arith in ap (λ n. starts_from (slice_index bases n) bs) e
table_at bases k (bs ∷ fs) (suc f) = let e : suc k + f ≡ k + suc f = omega arith in table_at bases (suc k) fs f ∙ ap (λ n. starts_from (slice_index bases n) (slice_index_or fs f [])) e

pub start_same : (r : Rows) (fs : List Blocks) (f b : ℕ) → starts_of r fs f b ≡ start_of (placing_of r fs) f b
start_same r fs f b =
    let z : 0 + f ≡ f = omega arith in
    ap (λ l. slice_index l b) (table_at (bases_of r fs) 0 fs f) ∙ ap (λ n. slice_index (starts_from (slice_index (bases_of r fs) n) (slice_index_or fs f [])) b) z

-- the same addresses give the same instructions
module _ (p q : Starts) (same : (f b : ℕ) → p f b ≡ q f b) where
  item_words : (f a : ℕ) (x : Item) → words p f a x ≡ words q f a x
  item_words f a (Single i) = refl
  item_words f a (Jump far n) = ap (jump_words far 0 a) (same f n)
  item_words f a (Call far g) = ap (jump_words far 1 a) (same g 0)
  item_words f a (Branch form c x y n) = ap (branch_words form c x y a) (same f n)
  item_words f a Return = refl
  item_words f a Exit = refl

  items_words : (f a : ℕ) (xs : List Item) → all_words p f a xs ≡ all_words q f a xs
  items_words f a [] = refl
  items_words f a (x ∷ xs) = ap (λ l. l ++ all_words p f (a + size x) xs) (item_words f a x) ∙ ap (λ l. words q f a x ++ l) (items_words f (a + size x) xs)

  pub blocks_same : (f a : ℕ) (bs : Blocks) → blocks_words p f a bs ≡ blocks_words q f a bs
  blocks_same f a [] = refl
  blocks_same f a (xs ∷ bs) = ap (λ l. l ++ blocks_words p f (a + total xs) bs) (items_words f a xs) ∙ ap (λ l. all_words q f a xs ++ l) (blocks_same f (a + total xs) bs)
