-- The first test that holds, in one list behind another.
use Rattle.std.proofs.Common.{◌≡◌, ℕ, suc, ◌+◌, arith, refl, ap, List, [], ◌∷◌, ◌++◌, length, Bool, true, false, Option, Some, None}
use Rattle.code_flow_system.specs.declared.claims.Never.{Never}
use Rattle.code_flow_system.specs.declared.claims.Within.{Within}
use Rattle.code_flow_system.specs.declared.claims.LoopClaim.{LoopClaim}
use Rattle.code_flow_system.specs.Claims.{exit_flaws, never_flaws, region_flaws, loop_flaws}
use Rattle.code_flow.specs.Faults.{first_from}

pub first_from-here : (xs ys : List Bool) (n k : ℕ) → Some k ≡ first_from n xs → Some k ≡ first_from n (xs ++ ys)
first_from-here [] ys n k h = cc
first_from-here (true ∷ xs) ys n k h = h
first_from-here (false ∷ xs) ys n k h = first_from-here xs ys (n + 1) k h

pub first_from-later : (xs ys : List Bool) (n m : ℕ) → None ≡ first_from n xs → m ≡ n + length xs → first_from m ys ≡ first_from n (xs ++ ys)
first_from-later [] ys n m h e = let s : m ≡ n = omega (arith, e) in ap (λ k. first_from k ys) s
first_from-later (true ∷ xs) ys n m h e = cc
first_from-later (false ∷ xs) ys n m h e = first_from-later xs ys (n + 1) m h (omega (arith, e))

pub length-exit_flaws : (before : Option ℕ) (xs : List ℕ) → length (exit_flaws before xs) ≡ length xs
length-exit_flaws before [] = refl
length-exit_flaws before (x ∷ xs) = ap suc (length-exit_flaws (Some x) xs)

pub length-never_flaws : (before : Option ℕ) (xs : List Never) → length (never_flaws before xs) ≡ length xs
length-never_flaws before [] = refl
length-never_flaws before (x ∷ xs) = ap suc (length-never_flaws (Some x.at) xs)

pub length-region_flaws : (before : Option ℕ) (xs : List Within) → length (region_flaws before xs) ≡ length xs
length-region_flaws before [] = refl
length-region_flaws before (x ∷ xs) = ap suc (length-region_flaws (Some x.end) xs)

pub length-loop_flaws : (before : Option ℕ) (xs : List LoopClaim) → length (loop_flaws before xs) ≡ length xs
length-loop_flaws before [] = refl
length-loop_flaws before (x ∷ xs) = ap suc (length-loop_flaws (Some x.header) xs)
