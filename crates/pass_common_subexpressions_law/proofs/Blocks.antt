-- Blocks beside each other.
use Rattle.std.proofs.Common.{◌≡◌, ℕ, zero, suc, ◌+◌, List, [], ◌∷◌, Some, refl, subst, arith}
use Rattle.std.specs.Prelude.{slice_get}
use Rattle.std.specs.List.{AllZip}
use Rattle.low_ir.specs.Code.{Block, Function, Note}
use Rattle.pass_common_subexpressions_law.specs.Reloads.{Beginnings, BlockReloaded, BlocksReloaded, FunctionReloaded}

-- one block, of some number
pub record SomeReloaded (claims : List (List ℕ)) (out : Beginnings) (b c : Block ℕ Note) : Type 0 where
  pub number : ℕ
  pub reloaded : BlockReloaded claims out number b c

all_reloaded : (claims : List (List ℕ)) (out : Beginnings) (n : ℕ) (bs cs : List (Block ℕ Note)) → BlocksReloaded claims out n bs cs → AllZip (SomeReloaded claims out) bs cs
all_reloaded claims out n [] [] h = tt
all_reloaded claims out n [] (c ∷ cs) h = absurd h
all_reloaded claims out n (b ∷ bs) [] h = absurd h
all_reloaded claims out n (b ∷ bs) (c ∷ cs) h = (record { number = n; reloaded = h.0 }, all_reloaded claims out (suc n) bs cs h.1)

pub reloaded_blocks : (claims : List (List ℕ)) (fn gn : Function ℕ Note) (h : FunctionReloaded claims fn gn) → AllZip (SomeReloaded claims h.out) fn.blocks gn.blocks
reloaded_blocks claims fn gn h = all_reloaded claims h.out 0 fn.blocks gn.blocks h.blocks

-- the block of a number
pub record FoundBlock (claims : List (List ℕ)) (out : Beginnings) (cs : List (Block ℕ Note)) (place n : ℕ) (b : Block ℕ Note) : Type 0 where
  pub it : Block ℕ Note
  pub there : slice_get cs place ≡ Some it
  pub reloaded : BlockReloaded claims out n b it

found_from : (claims : List (List ℕ)) (out : Beginnings) (n : ℕ) (bs cs : List (Block ℕ Note)) (k : ℕ) (b : Block ℕ Note) → BlocksReloaded claims out n bs cs → slice_get bs k ≡ Some b → FoundBlock claims out cs k (n + k) b
found_from claims out n [] cs k b h e = cc
found_from claims out n (x ∷ bs) [] k b h e = absurd h
found_from claims out n (x ∷ bs) (y ∷ cs) zero b h e =
    let same : x ≡ b = cc in
    let here : n ≡ n + 0 = omega arith in
    record { it = y; there = refl; reloaded = subst (λ m. BlockReloaded claims out m b y) here (subst (λ z. BlockReloaded claims out n z y) same h.0) }
found_from claims out n (x ∷ bs) (y ∷ cs) (suc k) b h e =
    let f = found_from claims out (suc n) bs cs k b h.1 e in
    let here : suc n + k ≡ n + suc k = omega arith in
    record { it = f.it; there = f.there; reloaded = subst (λ m. BlockReloaded claims out m b f.it) here f.reloaded }

pub found_block : (claims : List (List ℕ)) (fn gn : Function ℕ Note) (h : FunctionReloaded claims fn gn) (k : ℕ) (b : Block ℕ Note) → slice_get fn.blocks k ≡ Some b → FoundBlock claims h.out gn.blocks k k b
found_block claims fn gn h k b e =
    let f = found_from claims h.out 0 fn.blocks gn.blocks k b h.blocks e in
    let here : 0 + k ≡ k = omega arith in
    record { it = f.it; there = f.there; reloaded = subst (λ m. BlockReloaded claims h.out m b f.it) here f.reloaded }
