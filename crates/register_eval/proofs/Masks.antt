-- The masks behind so many blocks.
use Rattle.std.proofs.Common.{◌≡◌, ℕ, zero, suc, ◌+◌, ◌-◌, ◌<◌, List, [], ◌∷◌, length, drop, map, refl, sym, ap, ◌∙◌, arith}
use Rattle.std.proofs.lemmas.List.{drop-drop, length-map}
use Rattle.low_ir.specs.declared.low.Block.{Block}
use Rattle.low_ir.specs.Live.{place_of}
use Rattle.low_ir.specs.View.{block_of, instr_of}

place_of-nil : (n : ℕ) → place_of [] n ≡ 0
place_of-nil zero = refl
place_of-nil (suc n) = refl

-- no masks, behind whatever
pub none_behind : (ms : List ℕ) (n : ℕ) → ms ≡ [] → ms ≡ drop n ms
none_behind [] zero none = refl
none_behind [] (suc n) none = refl
none_behind (m ∷ ms) n none = cc

module _ (ms all : List ℕ) (bs : List Block) (n k : ℕ) where
  -- one block more
  pub behind_block : (b : Block) (rest : List Block) → bs ≡ b ∷ rest → k < n → drop (place_of (map block_of bs) (n - k)) ms ≡ all → drop (place_of (map block_of rest) (n - (k + 1))) (drop (length b.code.items + 1) ms) ≡ all
  behind_block b rest more lt before =
      let one : n - k ≡ suc (n - (k + 1)) = omega arith in
      let m = n - (k + 1) in
      let sum : suc (length (map instr_of b.code.items)) + place_of (map block_of rest) m ≡ length b.code.items + 1 + place_of (map block_of rest) m = omega (arith, length-map b.code.items instr_of) in
      drop-drop (place_of (map block_of rest) m) (length b.code.items + 1) ms
      ∙ sym (ap (λ i. drop i ms) sum)
      ∙ sym (ap (λ i. drop (place_of (map block_of (b ∷ rest)) i) ms) one)
      ∙ sym (ap (λ l. drop (place_of (map block_of l) (n - k)) ms) more)
      ∙ before

  -- no more blocks
  pub behind_none : bs ≡ [] → drop (place_of (map block_of bs) (n - k)) ms ≡ all → ms ≡ all
  behind_none none before =
      sym (ap (λ i. drop i ms) (place_of-nil (n - k))) ∙ sym (ap (λ l. drop (place_of (map block_of l) (n - k)) ms) none) ∙ before

  -- as many blocks as wanted
  pub behind_all : n ≡ k → drop (place_of (map block_of bs) (n - k)) ms ≡ all → ms ≡ all
  behind_all same before =
      let none : n - k ≡ 0 = omega (arith, same) in
      sym (ap (λ i. drop (place_of (map block_of bs) i) ms) none) ∙ before
