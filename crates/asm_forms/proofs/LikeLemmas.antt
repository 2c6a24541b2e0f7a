-- Items in other forms lead where they led.
use Rattle.std.proofs.Common.{ℕ, suc, ◌+◌, Bool, true, false, List, [], ◌∷◌, refl, subst, if◌then◌else◌}
use Rattle.std.specs.Prelude.{slice_index}
use Rattle.asm_items.specs.declared.item.Form.TheVariants.{Far}
use Rattle.asm_items.specs.declared.item.Item.{Item}
use Rattle.asm_items.specs.declared.item.Item.TheVariants.{Single, Jump, Call, Branch, Return, Exit}
use Rattle.asm_items.specs.Items.{Starts, jump_size, form_size, size, total}
use Rattle.asm_items.specs.Placings.{Blocks}
use Rattle.asm_writing.specs.Forms.{IsLike, AreLike}
use Rattle.asm_writing.specs.Targets.{target}
use Rattle.asm_forms.specs.Distances.{is_far, form_of}
use Rattle.asm_forms.specs.Laid.{BlocksLike, FunctionsLike}
use Rattle.asm_forms.specs.Layouts.{fit, shortened, improved, formed, starts_of}
use Rattle.asm_forms.specs.Regions.{Rows, bases_of}
use Rattle.asm_forms.specs.Shorter.{longest, items_longest, blocks_longest, functions_longest, shorter, items_shorter, blocks_shorter, functions_shorter}

like_shorter : (a to : ℕ) (x : Item) → IsLike x (shorter a to x)
like_shorter a to (Single i) = refl
like_shorter a to (Jump far n) = (is_far a (a + jump_size far) to, refl)
like_shorter a to (Call far f) = (is_far a (a + jump_size far) to, refl)
like_shorter a to (Branch form c x y n) = (form_of a (a + form_size form) to, refl)
like_shorter a to Return = refl
like_shorter a to Exit = refl

like_longest : (x : Item) → IsLike x (longest x)
like_longest (Single i) = refl
like_longest (Jump far n) = (true, refl)
like_longest (Call far f) = (true, refl)
like_longest (Branch form c x y n) = (Far, refl)
like_longest Return = refl
like_longest Exit = refl

items_like : (p : Starts) (f a : ℕ) (xs : List Item) → AreLike xs (items_shorter p f a xs)
items_like p f a [] = refl
items_like p f a (x ∷ xs) = (like_shorter a (target p f x) x, items_like p f (a + size x) xs)

blocks_like : (p : Starts) (f a : ℕ) (bs : Blocks) → BlocksLike bs (blocks_shorter p f a bs)
blocks_like p f a [] = refl
blocks_like p f a (xs ∷ bs) = (items_like p f a xs, blocks_like p f (a + total xs) bs)

functions_like : (p : Starts) (bases : List ℕ) (f : ℕ) (fs : List Blocks) → FunctionsLike fs (functions_shorter p bases f fs)
functions_like p bases f [] = refl
functions_like p bases f (bs ∷ fs) = (blocks_like p f (slice_index bases f) bs, functions_like p bases (suc f) fs)

items_like_longest : (xs : List Item) → AreLike xs (items_longest xs)
items_like_longest [] = refl
items_like_longest (x ∷ xs) = (like_longest x, items_like_longest xs)

blocks_like_longest : (bs : Blocks) → BlocksLike bs (blocks_longest bs)
blocks_like_longest [] = refl
blocks_like_longest (xs ∷ bs) = (items_like_longest xs, blocks_like_longest bs)

functions_like_longest : (fs : List Blocks) → FunctionsLike fs (functions_longest fs)
functions_like_longest [] = refl
functions_like_longest (bs ∷ fs) = (blocks_like_longest bs, functions_like_longest fs)

-- a form of a form is a form
item_on : (x y z : Item) → IsLike x y → IsLike y z → IsLike x z
item_on (Single i) y z h k = subst (λ w. IsLike w z) h k
item_on (Jump far n) y z h k = subst (λ w. IsLike w z) h.1 k
item_on (Call far f) y z h k = subst (λ w. IsLike w z) h.1 k
item_on (Branch form c u v n) y z h k = subst (λ w. IsLike w z) h.1 k
item_on Return y z h k = subst (λ w. IsLike w z) h k
item_on Exit y z h k = subst (λ w. IsLike w z) h k

items_on : (xs ys zs : List Item) → AreLike xs ys → AreLike ys zs → AreLike xs zs
items_on [] ys zs h k = subst (λ w. AreLike w zs) h k
items_on (x ∷ xs) [] zs h k = absurd h
items_on (x ∷ xs) (y ∷ ys) [] h k = absurd k
items_on (x ∷ xs) (y ∷ ys) (z ∷ zs) h k = (item_on x y z h.0 k.0, items_on xs ys zs h.1 k.1)

blocks_on : (bs cs ds : Blocks) → BlocksLike bs cs → BlocksLike cs ds → BlocksLike bs ds
blocks_on [] cs ds h k = subst (λ w. BlocksLike w ds) h k
blocks_on (b ∷ bs) [] ds h k = absurd h
blocks_on (b ∷ bs) (c ∷ cs) [] h k = absurd k
blocks_on (b ∷ bs) (c ∷ cs) (d ∷ ds) h k = (items_on b c d h.0 k.0, blocks_on bs cs ds h.1 k.1)

functions_on : (fs gs hs : List Blocks) → FunctionsLike fs gs → FunctionsLike gs hs → FunctionsLike fs hs
functions_on [] gs hs h k = subst (λ w. FunctionsLike w hs) h k
functions_on (f ∷ fs) [] hs h k = absurd h
functions_on (f ∷ fs) (g ∷ gs) [] h k = absurd k
functions_on (f ∷ fs) (g ∷ gs) (x ∷ hs) h k = (blocks_on f g x h.0 k.0, functions_on fs gs hs h.1 k.1)

either : (fs gs hs : List Blocks) (b : Bool) → FunctionsLike fs gs → FunctionsLike gs hs → FunctionsLike fs (if b then hs else gs)
either fs gs hs true h k = functions_on fs gs hs h k
either fs gs hs false h k = h

improved_like : (r : Rows) (fs gs : List Blocks) → FunctionsLike fs gs → FunctionsLike fs (improved r gs)
improved_like r fs gs h = either fs gs (shortened r gs) (fit r (shortened r gs)) h (functions_like (starts_of r gs) (bases_of r gs) 0 gs)

-- the chosen forms
pub formed_like : (r : Rows) (fs : List Blocks) → FunctionsLike fs (formed r fs)
formed_like r fs = improved_like r fs (improved r (functions_longest fs)) (improved_like r fs (functions_longest fs) (functions_like_longest fs))
