-- Other forms of items: their sizes, their soundness, and where they lead.
use Rattle.std.proofs.Common.{◌≡◌, ℕ, suc, ◌+◌, ◌≤◌, Bool, true, false, List, [], ◌∷◌, refl, ap, ◌∙◌, arith}
use Rattle.std.specs.Prelude.{slice_index}
use Rattle.std.proofs.lemmas.List.Elements.{All-cons, All-head, All-nil, All-tail}
use Rattle.asm_items.specs.declared.item.Form.{Form}
use Rattle.asm_items.specs.declared.item.Form.TheVariants.{Short, Inverted, Far}
use Rattle.asm_items.specs.declared.item.Item.{Item}
use Rattle.asm_items.specs.declared.item.Item.TheVariants.{Single, Jump, Call, Branch, Return, Exit}
use Rattle.asm_items.specs.Items.{Starts, jump_size, form_size, size, total}
use Rattle.asm_items.specs.Placings.{Blocks, blocks_size}
use Rattle.asm_writing.specs.Targets.{target}
use Rattle.asm_forms.specs.Regions.{functions_size}
use Rattle.asm_forms.specs.Shorter.{longest, items_longest, blocks_longest, functions_longest, shorter, items_shorter, blocks_shorter, functions_shorter}
use Rattle.asm_forms.specs.Sound.{IsSound, AreSound, BlocksSound, FunctionsSound}

both : {A : Type 0} (x y : A) (xs ys : List A) → x ≡ y → xs ≡ ys → (x ∷ xs) ≡ (y ∷ ys)
both x y xs ys e f = ap (λ z. z ∷ xs) e ∙ ap (λ zs. y ∷ zs) f

-- the longest form of a shorter item is that of the item
longest-shorter : (a to : ℕ) (x : Item) → longest (shorter a to x) ≡ longest x
longest-shorter a to (Single i) = refl
longest-shorter a to (Jump far n) = refl
longest-shorter a to (Call far f) = refl
longest-shorter a to (Branch form c x y n) = refl
longest-shorter a to Return = refl
longest-shorter a to Exit = refl

longest-longest : (x : Item) → longest (longest x) ≡ longest x
longest-longest (Single i) = refl
longest-longest (Jump far n) = refl
longest-longest (Call far f) = refl
longest-longest (Branch form c x y n) = refl
longest-longest Return = refl
longest-longest Exit = refl

items-shorter : (p : Starts) (f a : ℕ) (xs : List Item) → items_longest (items_shorter p f a xs) ≡ items_longest xs
items-shorter p f a [] = refl
items-shorter p f a (x ∷ xs) = both (longest (shorter a (target p f x) x)) (longest x) (items_longest (items_shorter p f (a + size x) xs)) (items_longest xs) (longest-shorter a (target p f x) x) (items-shorter p f (a + size x) xs)

blocks-shorter : (p : Starts) (f a : ℕ) (bs : Blocks) → blocks_longest (blocks_shorter p f a bs) ≡ blocks_longest bs
blocks-shorter p f a [] = refl
blocks-shorter p f a (xs ∷ bs) = both (items_longest (items_shorter p f a xs)) (items_longest xs) (blocks_longest (blocks_shorter p f (a + total xs) bs)) (blocks_longest bs) (items-shorter p f a xs) (blocks-shorter p f (a + total xs) bs)

pub functions-shorter : (p : Starts) (bases : List ℕ) (f : ℕ) (fs : List Blocks) → functions_longest (functions_shorter p bases f fs) ≡ functions_longest fs
functions-shorter p bases f [] = refl
functions-shorter p bases f (bs ∷ fs) = both (blocks_longest (blocks_shorter p f (slice_index bases f) bs)) (blocks_longest bs) (functions_longest (functions_shorter p bases (suc f) fs)) (functions_longest fs) (blocks-shorter p f (slice_index bases f) bs) (functions-shorter p bases (suc f) fs)

items-longest : (xs : List Item) → items_longest (items_longest xs) ≡ items_longest xs
items-longest [] = refl
items-longest (x ∷ xs) = both (longest (longest x)) (longest x) (items_longest (items_longest xs)) (items_longest xs) (longest-longest x) (items-longest xs)

blocks-longest : (bs : Blocks) → blocks_longest (blocks_longest bs) ≡ blocks_longest bs
blocks-longest [] = refl
blocks-longest (xs ∷ bs) = both (items_longest (items_longest xs)) (items_longest xs) (blocks_longest (blocks_longest bs)) (blocks_longest bs) (items-longest xs) (blocks-longest bs)

pub functions-longest : (fs : List Blocks) → functions_longest (functions_longest fs) ≡ functions_longest fs
functions-longest [] = refl
functions-longest (bs ∷ fs) = both (blocks_longest (blocks_longest bs)) (blocks_longest bs) (functions_longest (functions_longest fs)) (functions_longest fs) (blocks-longest bs) (functions-longest fs)

-- no form takes more bytes than the longest
jump_most : (far : Bool) → jump_size far ≤ 8
jump_most true = omega arith
jump_most false = omega arith

form_most : (form : Form) → form_size form ≤ 12
form_most Short = omega arith
form_most Inverted = omega arith
form_most Far = omega arith

size_most : (x : Item) → size x ≤ size (longest x)
size_most (Single i) = omega arith
size_most (Jump far n) = jump_most far
size_most (Call far f) = jump_most far
size_most (Branch form c x y n) = form_most form
size_most Return = omega arith
size_most Exit = omega arith

total_most : (xs : List Item) → total xs ≤ total (items_longest xs)
total_most [] = omega arith
total_most (x ∷ xs) = let h = size_most x in let k = total_most xs in omega arith

blocks_most : (bs : Blocks) → blocks_size bs ≤ blocks_size (blocks_longest bs)
blocks_most [] = omega arith
blocks_most (xs ∷ bs) = let h = total_most xs in let k = blocks_most bs in omega arith

pub functions_most : (fs : List Blocks) → functions_size fs ≤ functions_size (functions_longest fs)
functions_most [] = omega arith
functions_most (bs ∷ fs) = let h = blocks_most bs in let k = functions_most fs in omega arith

-- other forms of sound items are sound
sound_shorter : (a to : ℕ) (x : Item) → IsSound x → IsSound (shorter a to x)
sound_shorter a to (Single i) s = s
sound_shorter a to (Jump far n) s = tt
sound_shorter a to (Call far f) s = tt
sound_shorter a to (Branch form c x y n) s = s
sound_shorter a to Return s = tt
sound_shorter a to Exit s = tt

sound_longest : (x : Item) → IsSound x → IsSound (longest x)
sound_longest (Single i) s = s
sound_longest (Jump far n) s = tt
sound_longest (Call far f) s = tt
sound_longest (Branch form c x y n) s = s
sound_longest Return s = tt
sound_longest Exit s = tt

items_sound : (p : Starts) (f a : ℕ) (xs : List Item) → AreSound xs → AreSound (items_shorter p f a xs)
items_sound p f a [] s = All-nil IsSound
items_sound p f a (x ∷ xs) s = All-cons IsSound (shorter a (target p f x) x) (items_shorter p f (a + size x) xs) (sound_shorter a (target p f x) x (All-head IsSound x xs s)) (items_sound p f (a + size x) xs (All-tail IsSound x xs s))

blocks_sound : (p : Starts) (f a : ℕ) (bs : Blocks) → BlocksSound bs → BlocksSound (blocks_shorter p f a bs)
blocks_sound p f a [] s = All-nil AreSound
blocks_sound p f a (xs ∷ bs) s = All-cons AreSound (items_shorter p f a xs) (blocks_shorter p f (a + total xs) bs) (items_sound p f a xs (All-head AreSound xs bs s)) (blocks_sound p f (a + total xs) bs (All-tail AreSound xs bs s))

pub functions_sound : (p : Starts) (bases : List ℕ) (f : ℕ) (fs : List Blocks) → FunctionsSound fs → FunctionsSound (functions_shorter p bases f fs)
functions_sound p bases f [] s = All-nil BlocksSound
functions_sound p bases f (bs ∷ fs) s = All-cons BlocksSound (blocks_shorter p f (slice_index bases f) bs) (functions_shorter p bases (suc f) fs) (blocks_sound p f (slice_index bases f) bs (All-head BlocksSound bs fs s)) (functions_sound p bases (suc f) fs (All-tail BlocksSound bs fs s))

items_longest_sound : (xs : List Item) → AreSound xs → AreSound (items_longest xs)
items_longest_sound [] s = All-nil IsSound
items_longest_sound (x ∷ xs) s = All-cons IsSound (longest x) (items_longest xs) (sound_longest x (All-head IsSound x xs s)) (items_longest_sound xs (All-tail IsSound x xs s))

blocks_longest_sound : (bs : Blocks) → BlocksSound bs → BlocksSound (blocks_longest bs)
blocks_longest_sound [] s = All-nil AreSound
blocks_longest_sound (xs ∷ bs) s = All-cons AreSound (items_longest xs) (blocks_longest bs) (items_longest_sound xs (All-head AreSound xs bs s)) (blocks_longest_sound bs (All-tail AreSound xs bs s))

pub longest_sound : (fs : List Blocks) → FunctionsSound fs → FunctionsSound (functions_longest fs)
longest_sound [] s = All-nil BlocksSound
longest_sound (bs ∷ fs) s = All-cons BlocksSound (blocks_longest bs) (functions_longest fs) (blocks_longest_sound bs (All-head BlocksSound bs fs s)) (longest_sound fs (All-tail BlocksSound bs fs s))
