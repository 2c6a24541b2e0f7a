-- Items in other forms keep what their block promises.
use Rattle.std.proofs.Common.{◌≡◌, ℕ, List, [], ◌∷◌, sym, subst}
use Rattle.asm_items.specs.declared.item.Item.{Item}
use Rattle.asm_items.specs.declared.item.Item.TheVariants.{Single, Jump, Call, Branch, Return, Exit}
use Rattle.asm_items.specs.Promises.{Keeps}
use Rattle.asm_writing.specs.Forms.{AreLike}

none_left : (xs ys : List Item) → xs ≡ [] → AreLike xs ys → ys ≡ []
none_left xs ys e a = let none = subst (λ zs. AreLike zs ys) e a in none

pub forms-keep : (follows calls : List ℕ) (b : ℕ) (xs ys : List Item) → AreLike xs ys → Keeps follows calls b xs → Keeps follows calls b ys
forms-keep follows calls b [] ys a h = subst (Keeps follows calls b) (sym a) h
forms-keep follows calls b (x ∷ xs) [] a h = absurd a
forms-keep follows calls b (Single i ∷ xs) (y ∷ ys) a h = subst (λ z. Keeps follows calls b (z ∷ ys)) (sym a.0) (h.0, forms-keep follows calls b xs ys a.1 h.1)
forms-keep follows calls b (Jump far n ∷ xs) (y ∷ ys) a h = subst (λ z. Keeps follows calls b (z ∷ ys)) (sym a.0.1) (h.0, none_left xs ys h.1 a.1)
forms-keep follows calls b (Call far f ∷ xs) (y ∷ ys) a h = subst (λ z. Keeps follows calls b (z ∷ ys)) (sym a.0.1) (h.0, forms-keep follows calls b xs ys a.1 h.1)
forms-keep follows calls b (Branch form c u v n ∷ xs) (y ∷ ys) a h = subst (λ z. Keeps follows calls b (z ∷ ys)) (sym a.0.1) (h.0, forms-keep follows calls b xs ys a.1 h.1)
forms-keep follows calls b (Return ∷ xs) (y ∷ ys) a h = subst (λ z. Keeps follows calls b (z ∷ ys)) (sym a.0) (none_left xs ys h a.1)
forms-keep follows calls b (Exit ∷ xs) (y ∷ ys) a h = subst (λ z. Keeps follows calls b (z ∷ ys)) (sym a.0) (none_left xs ys h a.1)
