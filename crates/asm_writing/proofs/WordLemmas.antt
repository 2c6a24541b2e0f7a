-- The words of items and of blocks, one after another.
use Rattle.std.proofs.Common.{◌≡◌, ℕ, ◌+◌, ◌<◌, true, List, [], ◌∷◌, ◌++◌, length, map, drop, get_or, refl, sym, ap, ◌∙◌, subst, arith, add-one, drop-cons, append_assoc}
use Rattle.std.proofs.lemmas.Bool.{and_parts, and_from}
use Rattle.std.proofs.lemmas.List.{map-append}
use Rattle.rv_core.specs.Instructions.{Instruction, in_row}
use Rattle.rv_core.specs.Words.{word_of}
use Rattle.asm_items.specs.declared.item.Item.{Item}
use Rattle.asm_items.specs.declared.item.Item.TheVariants.{Single, Jump, Call, Branch, Return, Exit}
use Rattle.asm_items.specs.Items.{Starts, words, size, total, all_words, in_rows}
use Rattle.asm_items.specs.Placings.{Blocks, blocks_words}
use Rattle.asm_writing.specs.Targets.{target, words_to}

words-target : (p : Starts) (f a : ℕ) (x : Item) → words_to a (target p f x) x ≡ words p f a x
words-target p f a (Single i) = refl
words-target p f a (Jump far n) = refl
words-target p f a (Call far g) = refl
words-target p f a (Branch form c x y n) = refl
words-target p f a Return = refl
words-target p f a Exit = refl

in_rows-parts : (is js : List Instruction) → in_rows (is ++ js) ≡ true → (in_rows is ≡ true) × (in_rows js ≡ true)
in_rows-parts [] js h = (refl, h)
in_rows-parts (i ∷ is) js h =
    let b = and_parts (in_row i) (in_rows (is ++ js)) h in
    let r = in_rows-parts is js b.1 in
    (and_from (in_row i) (in_rows is) b.0 r.0, r.1)

-- the element at a place, and those behind it
pub drop-at : {A : Type 0} (xs : List A) (k : ℕ) (x : A) → k < length xs → x ≡ get_or xs k x → drop k xs ≡ x ∷ drop (k + 1) xs
drop-at xs k x less is = rw add-one (drop-cons xs k x less) ∙ ap (λ y. y ∷ drop (k + 1) xs) (sym is)

-- some words behind others, and more behind those
joined : (start new ws : List ℕ) (is js : List Instruction) → new ≡ ws ++ map word_of is → new ++ map word_of js ≡ ws ++ map word_of (is ++ js)
joined start new ws is js e =
    ap (λ l. l ++ map word_of js) e ∙ append_assoc ws (map word_of is) (map word_of js) ∙ ap (λ l. ws ++ l) (sym (map-append word_of is js))

-- one item behind others: its words, and what is left
pub record Next (p : Starts) (f a to s : ℕ) (xs : List Item) (x : Item) (rest : List Item) : Type 0 where
  pub split : xs ≡ x ∷ rest
  pub target_is : to ≡ target p f x
  pub size_is : s ≡ size x

pub item-rows : (p : Starts) (f a to s : ℕ) (xs : List Item) (x : Item) (rest : List Item) → Next p f a to s xs x rest → in_rows (all_words p f a xs) ≡ true → in_rows (words_to a to x) ≡ true
item-rows p f a to s xs x rest n h =
    let parts = in_rows-parts (words p f a x) (all_words p f (a + size x) rest) (subst (λ l. in_rows (all_words p f a l) ≡ true) n.split h) in
    ap (λ t. in_rows (words_to a t x)) n.target_is ∙ ap in_rows (words-target p f a x) ∙ parts.0

pub rest-rows : (p : Starts) (f a to s : ℕ) (xs : List Item) (x : Item) (rest : List Item) → Next p f a to s xs x rest → in_rows (all_words p f a xs) ≡ true → in_rows (all_words p f (a + s) rest) ≡ true
rest-rows p f a to s xs x rest n h =
    let parts = in_rows-parts (words p f a x) (all_words p f (a + size x) rest) (subst (λ l. in_rows (all_words p f a l) ≡ true) n.split h) in
    ap (λ k. in_rows (all_words p f (a + k) rest)) n.size_is ∙ parts.1

pub rest-words : (p : Starts) (f a to s : ℕ) (xs : List Item) (x : Item) (rest : List Item) (new ws start : List ℕ) → Next p f a to s xs x rest → new ≡ ws ++ map word_of (words_to a to x) → ws ++ map word_of (all_words p f a xs) ≡ start
    → new ++ map word_of (all_words p f (a + s) rest) ≡ start
rest-words p f a to s xs x rest new ws start n e h =
    let is = ap (λ t. words_to a t x) n.target_is ∙ words-target p f a x in
    ap (λ k. new ++ map word_of (all_words p f (a + k) rest)) n.size_is
    ∙ joined start new ws (words p f a x) (all_words p f (a + size x) rest) (e ∙ ap (λ l. ws ++ map word_of l) is)
    ∙ ap (λ l. ws ++ map word_of (all_words p f a l)) (sym n.split)
    ∙ h

pub rest-room : (p : Starts) (f a to s : ℕ) (xs : List Item) (x : Item) (rest : List Item) (m : ℕ) → Next p f a to s xs x rest → a + total xs ≡ m → a + s + total rest ≡ m
rest-room p f a to s xs x rest m n h = let e = ap total n.split in let k = n.size_is in omega arith

-- one block behind others
pub block-rows : (p : Starts) (f a : ℕ) (bs : Blocks) (b : List Item) (rest : Blocks) → bs ≡ b ∷ rest → in_rows (blocks_words p f a bs) ≡ true → (in_rows (all_words p f a b) ≡ true) × (in_rows (blocks_words p f (a + total b) rest) ≡ true)
block-rows p f a bs b rest e h = in_rows-parts (all_words p f a b) (blocks_words p f (a + total b) rest) (subst (λ l. in_rows (blocks_words p f a l) ≡ true) e h)

pub block-words : (p : Starts) (f a : ℕ) (bs : Blocks) (b : List Item) (rest : Blocks) (new ws start : List ℕ) → bs ≡ b ∷ rest → new ≡ ws ++ map word_of (all_words p f a b) → ws ++ map word_of (blocks_words p f a bs) ≡ start
    → new ++ map word_of (blocks_words p f (a + total b) rest) ≡ start
block-words p f a bs b rest new ws start e n h =
    joined start new ws (all_words p f a b) (blocks_words p f (a + total b) rest) n ∙ ap (λ l. ws ++ map word_of (blocks_words p f a l)) (sym e) ∙ h
