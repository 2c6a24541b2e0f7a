-- Blocks beside each other.
use Rattle.std.proofs.Common.{◌≡◌, ℕ, zero, suc, ◌+◌, List, [], ◌∷◌, Some, refl, subst, arith}
use Rattle.std.specs.Prelude.{slice_get}
use Rattle.std.specs.List.{AllZip}
use Rattle.low_ir.specs.Code.{Block, Function, Note}
use Rattle.pass_copy_propagation_law.specs.Copies.{Beginnings, BlockCopied, BlocksCopied, FunctionCopied}

-- one block, of some number
pub record SomeCopied (size : ℕ) (out : Beginnings) (b c : Block ℕ Note) : Type 0 where
  pub number : ℕ
  pub copied : BlockCopied size out number b c

all_copied : (size : ℕ) (out : Beginnings) (n : ℕ) (bs cs : List (Block ℕ Note)) → BlocksCopied size out n bs cs → AllZip (SomeCopied size out) bs cs
all_copied size out n [] [] h = tt
all_copied size out n [] (c ∷ cs) h = absurd h
all_copied size out n (b ∷ bs) [] h = absurd h
all_copied size out n (b ∷ bs) (c ∷ cs) h = (record { number = n; copied = h.0 }, all_copied size out (suc n) bs cs h.1)

pub copied_blocks : (fn gn : Function ℕ Note) (h : FunctionCopied fn gn) → AllZip (SomeCopied gn.size h.out) fn.blocks gn.blocks
copied_blocks fn gn h = all_copied gn.size h.out 0 fn.blocks gn.blocks h.blocks

-- the block of a number
pub record FoundBlock (size : ℕ) (out : Beginnings) (cs : List (Block ℕ Note)) (place n : ℕ) (b : Block ℕ Note) : Type 0 where
  pub it : Block ℕ Note
  pub there : slice_get cs place ≡ Some it
  pub copied : BlockCopied size out n b it

found_from : (size : ℕ) (out : Beginnings) (n : ℕ) (bs cs : List (Block ℕ Note)) (k : ℕ) (b : Block ℕ Note) → BlocksCopied size out n bs cs → slice_get bs k ≡ Some b → FoundBlock size out cs k (n + k) b
found_from size out n [] cs k b h e = cc
found_from size out n (x ∷ bs) [] k b h e = absurd h
found_from size out n (x ∷ bs) (y ∷ cs) zero b h e =
    let same : x ≡ b = cc in
    let here : n ≡ n + 0 = omega arith in
    record { it = y; there = refl; copied = subst (λ m. BlockCopied size out m b y) here (subst (λ z. BlockCopied size out n z y) same h.0) }
found_from size out n (x ∷ bs) (y ∷ cs) (suc k) b h e =
    let f = found_from size out (suc n) bs cs k b h.1 e in
    let here : suc n + k ≡ n + suc k = omega arith in
    record { it = f.it; there = f.there; copied = subst (λ m. BlockCopied size out m b f.it) here f.copied }

pub found_block : (fn gn : Function ℕ Note) (h : FunctionCopied fn gn) (k : ℕ) (b : Block ℕ Note) → slice_get fn.blocks k ≡ Some b → FoundBlock gn.size h.out gn.blocks k k b
found_block fn gn h k b e =
    let f = found_from gn.size h.out 0 fn.blocks gn.blocks k b h.blocks e in
    let here : 0 + k ≡ k = omega arith in
    record { it = f.it; there = f.there; copied = subst (λ m. BlockCopied gn.size h.out m b f.it) here f.copied }
