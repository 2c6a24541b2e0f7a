-- What items cost, by the same items in their longest forms.
use Rattle.std.proofs.Common.{◌≡◌, ℕ, ◌+◌, ◌*◌, ◌<◌, ◌≤◌, Bool, true, false, List, [], ◌∷◌, refl, sym, ap, subst, arith}
use Rattle.asm_items.specs.declared.item.Form.{Form}
use Rattle.asm_items.specs.declared.item.Form.TheVariants.{Short, Inverted, Far}
use Rattle.asm_items.specs.declared.item.Item.{Item}
use Rattle.asm_items.specs.declared.item.Item.TheVariants.{Single, Jump, Call, Branch, Return, Exit}
use Rattle.asm_items.specs.Items.{jump_size, form_size, size, total}
use Rattle.asm_writing.specs.Forms.{IsLike, AreLike}
use Rattle.asm_sound.proofs.LongLemmas.{AreLong, IsLong, call_of, calls_in}
use Rattle.asm_prices.specs.Worths.{jump_price, branch_price, item_price, items_price}

module _ (worth : ℕ → ℕ) where
  abbrev Once : ℕ → Item → Item → Type 0
  Once a x y = 4 * item_price (λ b. 1) worth a y ≤ size x + 4 * call_of worth x

  jump_once : (far : Bool) (a n : ℕ) → 4 * (jump_price (λ b. 1) far a + n) ≤ 8 + 4 * n
  jump_once false a n = omega arith
  jump_once true a n = omega arith

  branch_once : (form : Form) (a : ℕ) → 4 * branch_price (λ b. 1) form a ≤ 12
  branch_once Short a = omega arith
  branch_once Inverted a = omega arith
  branch_once Far a = omega arith

  item_once : (a : ℕ) (x y : Item) → IsLong x → IsLike x y → Once a x y
  item_once a (Single i) y h e = subst (Once a (Single i)) (sym e) (omega arith)
  item_once a (Jump far n) y h (g, e) = let s = ap jump_size h in subst (Once a (Jump far n)) (sym e) (let q = jump_once g a 0 in omega arith)
  item_once a (Call far f) y h (g, e) = let s = ap jump_size h in subst (Once a (Call far f)) (sym e) (let q = jump_once g a (worth f) in omega arith)
  item_once a (Branch form c u v n) y h (k, e) = let s = ap form_size h in subst (Once a (Branch form c u v n)) (sym e) (let q = branch_once k a in omega arith)
  item_once a Return y h e = subst (Once a Return) (sym e) (omega arith)
  item_once a Exit y h e = subst (Once a Exit) (sym e) (omega arith)

  -- a word costs 1, and a call its function's worth
  pub like_once : (xs ys : List Item) (a : ℕ) → AreLong xs → AreLike xs ys → 4 * items_price (λ b. 1) worth a ys ≤ total xs + 4 * calls_in worth xs
  like_once [] ys a h e = let q = ap (λ zs. 4 * items_price (λ b. 1) worth a zs) e in omega arith
  like_once (x ∷ xs) [] a h e = absurd e
  like_once (x ∷ xs) (y ∷ ys) a h e =
      let q = item_once a x y h.0 e.0 in
      let r = like_once xs ys (a + size y) h.1 e.1 in omega arith

  like_call : (x y : Item) → IsLike x y → call_of worth y ≡ call_of worth x
  like_call (Single i) y e = ap (call_of worth) e
  like_call (Jump far n) y (g, e) = ap (call_of worth) e
  like_call (Call far f) y (g, e) = ap (call_of worth) e
  like_call (Branch form c u v n) y (k, e) = ap (call_of worth) e
  like_call Return y e = ap (call_of worth) e
  like_call Exit y e = ap (call_of worth) e

  pub like_calls : (xs ys : List Item) → AreLike xs ys → calls_in worth ys ≡ calls_in worth xs
  like_calls [] ys e = ap (calls_in worth) e
  like_calls (x ∷ xs) [] e = absurd e
  like_calls (x ∷ xs) (y ∷ ys) e = let q = like_call x y e.0 in let r = like_calls xs ys e.1 in omega arith

  module _ (of : ℕ → ℕ) where
    -- no address from a up to b costs anything
    abbrev Free : ℕ → ℕ → Type 0
    Free a b = (k : ℕ) → a ≤ k → k < b → of k ≡ 0

    jump_free : (far : Bool) (a : ℕ) → Free (a + 1) (a + jump_size far) → jump_price of far a ≡ of a
    jump_free false a h = refl
    jump_free true a h = let e = h (a + 4) (omega arith) (omega arith) in omega arith

    branch_free : (form : Form) (a : ℕ) → Free (a + 1) (a + form_size form) → branch_price of form a ≡ of a
    branch_free Short a h = refl
    branch_free Inverted a h = let e = h (a + 4) (omega arith) (omega arith) in omega arith
    branch_free Far a h = let e = h (a + 4) (omega arith) (omega arith) in let f = h (a + 4 + 4) (omega arith) (omega arith) in omega arith

    item_free : (x : Item) (a : ℕ) → Free (a + 1) (a + size x) → item_price of worth a x ≡ of a + call_of worth x
    item_free (Single i) a h = omega arith
    item_free (Jump far n) a h = let e = jump_free far a h in omega arith
    item_free (Call far f) a h = let e = jump_free far a h in omega arith
    item_free (Branch form c x y n) a h = let e = branch_free form a h in omega arith
    item_free Return a h = omega arith
    item_free Exit a h = omega arith

    some_size : (x : Item) → 4 ≤ size x
    some_size (Single i) = omega arith
    some_size (Jump false n) = omega arith
    some_size (Jump true n) = omega arith
    some_size (Call false f) = omega arith
    some_size (Call true f) = omega arith
    some_size (Branch Short c x y n) = omega arith
    some_size (Branch Inverted c x y n) = omega arith
    some_size (Branch Far c x y n) = omega arith
    some_size Return = omega arith
    some_size Exit = omega arith

    all_free : (xs : List Item) (a : ℕ) → Free a (a + total xs) → items_price of worth a xs ≡ calls_in worth xs
    all_free [] a h = refl
    all_free (x ∷ xs) a h =
        let s = some_size x in
        let e = item_free x a (λ k low high. h k (omega arith) (omega arith)) in
        let z = h a (omega arith) (omega arith) in
        let r = all_free xs (a + size x) (λ k low high. h k (omega arith) (omega arith)) in omega arith

    -- where only the first address costs
    pub first_free : (xs : List Item) (a : ℕ) → Free (a + 1) (a + total xs) → items_price of worth a xs ≤ of a + calls_in worth xs
    first_free [] a h = omega arith
    first_free (x ∷ xs) a h =
        let s = some_size x in
        let e = item_free x a (λ k low high. h k (omega arith) (omega arith)) in
        let r = all_free xs (a + size x) (λ k low high. h k (omega arith) (omega arith)) in omega arith
