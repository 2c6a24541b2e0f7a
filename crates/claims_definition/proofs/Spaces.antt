-- Things in the order of their addresses, at least 4 bytes apart.
use Rattle.std.proofs.Common.{◌≡◌, ℕ, ◌+◌, ◌%◌, ◌≤◌, List, [], ◌∷◌, ◌++◌, refl, arith}
use Rattle.asm_items.specs.declared.item.Item.{Item}
use Rattle.asm_items.specs.Items.{total}
use Rattle.asm_items.proofs.MoveLemmas.{size_aligned}

module _ (A : Type 0) (at : A → ℕ) (Good : A → Type 0) where
  -- good things between two addresses
  abbrev pub Between : ℕ → List A → ℕ → Type 0
  Between a [] end = a ≤ end
  Between a (x ∷ xs) end = (a ≤ at x) × (Good x × Between (at x + 4) xs end)

  pub wider : (a b : ℕ) (xs : List A) (end far : ℕ) → b ≤ a → end ≤ far → Between a xs end → Between b xs far
  wider a b [] end far low high h = omega (arith, low, high, h)
  wider a b (x ∷ xs) end far low high h = let k = h.0 in (omega (arith, low, k), (h.1.0, wider (at x + 4) (at x + 4) xs end far (omega arith) high h.1.1))

  pub append : (a : ℕ) (xs ys : List A) (mid end : ℕ) → Between a xs mid → Between mid ys end → Between a (xs ++ ys) end
  append a [] ys mid end h k = wider mid a ys end end h (omega arith) k
  append a (x ∷ xs) ys mid end h k = (h.0, (h.1.0, append (at x + 4) xs ys mid end h.1.1 k))

-- items take whole instructions
pub items_fours : (xs : List Item) → total xs % 4 ≡ 0
items_fours [] = refl
items_fours (x ∷ xs) = let h = size_aligned x in let k = items_fours xs in omega (arith, h, k)
