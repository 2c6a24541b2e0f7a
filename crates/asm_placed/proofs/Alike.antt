-- What holds of items holds of them in other forms.
use Rattle.std.proofs.Common.{◌≡◌, ◌≢◌, ℕ, zero, suc, Bool, List, [], ◌∷◌, length, refl, sym, ap, ◌∙◌, subst, arith}
use Rattle.std.specs.Prelude.{slice_index_or}
use Rattle.asm_items.specs.declared.item.Item.{Item}
use Rattle.asm_items.specs.declared.item.Item.TheVariants.{Jump}
use Rattle.asm_items.specs.Placings.{Blocks}
use Rattle.asm_writing.specs.Forms.{AreLike}
use Rattle.asm_forms.specs.Laid.{BlocksLike, FunctionsLike}
use Rattle.asm_graphs.specs.Promised.{blocks_in, block_in}

pub functions_long : (fs gs : List Blocks) → FunctionsLike fs gs → length gs ≡ length fs
functions_long [] gs h = ap length h
functions_long (f ∷ fs) [] h = absurd h
functions_long (f ∷ fs) (g ∷ gs) h = ap suc (functions_long fs gs h.1)

pub blocks_long : (bs cs : Blocks) → BlocksLike bs cs → length cs ≡ length bs
blocks_long [] cs h = ap length h
blocks_long (b ∷ bs) [] h = absurd h
blocks_long (b ∷ bs) (c ∷ cs) h = ap suc (blocks_long bs cs h.1)

none_like : (f : ℕ) (gs : List Blocks) → gs ≡ [] → BlocksLike (slice_index_or [] f []) (slice_index_or gs f [])
none_like zero gs e = subst (λ l. BlocksLike [] (slice_index_or l zero [])) (sym e) refl
none_like (suc f) gs e = subst (λ l. BlocksLike [] (slice_index_or l (suc f) [])) (sym e) refl

pub blocks_alike : (fs gs : List Blocks) (f : ℕ) → FunctionsLike fs gs → BlocksLike (blocks_in fs f) (blocks_in gs f)
blocks_alike [] gs f h = none_like f gs h
blocks_alike (x ∷ fs) [] f h = absurd h
blocks_alike (x ∷ fs) (y ∷ gs) zero h = h.0
blocks_alike (x ∷ fs) (y ∷ gs) (suc f) h = blocks_alike fs gs f h.1

no_items : (b : ℕ) (cs : Blocks) → cs ≡ [] → AreLike (slice_index_or [] b []) (slice_index_or cs b [])
no_items zero cs e = subst (λ l. AreLike [] (slice_index_or l zero [])) (sym e) refl
no_items (suc b) cs e = subst (λ l. AreLike [] (slice_index_or l (suc b) [])) (sym e) refl

items_alike : (bs cs : Blocks) (b : ℕ) → BlocksLike bs cs → AreLike (slice_index_or bs b []) (slice_index_or cs b [])
items_alike [] cs b h = no_items b cs h
items_alike (x ∷ bs) [] b h = absurd h
items_alike (x ∷ bs) (y ∷ cs) zero h = h.0
items_alike (x ∷ bs) (y ∷ cs) (suc b) h = items_alike bs cs b h.1

pub block_alike : (fs gs : List Blocks) (f b : ℕ) → FunctionsLike fs gs → AreLike (block_in fs f b) (block_in gs f b)
block_alike fs gs f b h = items_alike (blocks_in fs f) (blocks_in gs f) b (blocks_alike fs gs f h)

pub some_alike : (xs ys : List Item) → AreLike xs ys → xs ≢ [] → ys ≢ []
some_alike [] ys h some = absurd (some refl)
some_alike (x ∷ xs) [] h some = absurd h
some_alike (x ∷ xs) (y ∷ ys) h some = λ e. let n = ap length e in omega arith

pub jump_alike : (xs ys : List Item) (far : Bool) (n : ℕ) → AreLike xs ys → xs ≡ Jump far n ∷ [] → (g : Bool) × (ys ≡ Jump g n ∷ [])
jump_alike xs ys far n h e = alone ys (subst (λ l. AreLike l ys) e h)
  where
    alone : (zs : List Item) → AreLike (Jump far n ∷ []) zs → (g : Bool) × (zs ≡ Jump g n ∷ [])
    alone [] k = absurd k
    alone (z ∷ zs) k = (k.0.0, ap (λ w. w ∷ zs) k.0.1 ∙ ap (λ l. Jump k.0.0 n ∷ l) k.1)
