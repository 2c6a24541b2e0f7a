-- Loop claims are those of the loops of the program.
use Rattle.std.proofs.Common.{◌≡◌, ⊎_elim, ℕ, zero, suc, ◌+◌, ◌<◌, ◌≤◌, Bool, true, false, List, [], ◌∷◌, length, map, refl, sym, ap, ◌∙◌, subst, arith, Contains}
use Rattle.std.specs.Prelude.{◌==◌, All, if◌then◌else◌, slice_index_or}
use Rattle.std.specs.List.{flat_map}
use Rattle.std.proofs.lemmas.Bool.{cases_lt}
use Rattle.std.proofs.lemmas.Bool.Decides.{nat_tests}
use Rattle.std.proofs.lemmas.List.{get_or-map, get_or_past, length-map}
use Rattle.std.proofs.lemmas.List.Concat.{flat_map-cons}
use Rattle.std.proofs.lemmas.List.Elements.{All-append, All-cons, All-contains_itself, All-head, All-nil, All-tail, Contains-append_left, Contains-append_right}
use Rattle.std.proofs.lemmas.Option.{slice_get-get_or, slice_get_within}
use Rattle.low_ir.specs.Code.{Loop}
use Rattle.low_ir.specs.Formed.{IsLoop, only_jump}
use Rattle.asm_program.specs.Functions.{PlacedBlock, PlacedFunction, function_in, no_function}
use Rattle.claims_definition.specs.ClaimLaws.{AreLoopClaims, IsClaimOf, IsSettled}
use Rattle.claims_definition.specs.Listed.{Laid, by_address, loop_claim, loops_at, loops_from, loops_in, loops_of}
use Rattle.claims_definition.proofs.Blocks.{all_in_order}
use Rattle.claims_definition.proofs.Marks.{there_flat}

-- the loops with a header are among all loops
module _ (P : Loop → Type 0) where
  at_all : (b : ℕ) (ks : List Loop) → All P ks → All P (loops_at b ks)
  at_all b [] h = All-nil P
  at_all b (k ∷ ks) h = by_test (k.header == b) (at_all b ks (All-tail P k ks h))
    where
      by_test : (t : Bool) → All P (loops_at b ks) → All P (if t then k ∷ loops_at b ks else loops_at b ks)
      by_test true go = All-cons P k (loops_at b ks) (All-head P k ks h) go
      by_test false go = go

  from_all : (ks : List Loop) (b : ℕ) (xs : List PlacedBlock) → All P ks → All P (loops_from ks b xs)
  from_all ks b [] h = All-nil P
  from_all ks b (x ∷ xs) h = All-append P (loops_at b ks) (loops_from ks (suc b) xs) (at_all b ks h) (from_all ks (suc b) xs h)

at_there : (ks : List Loop) (b : ℕ) (k : Loop) (n : ℕ) → n < length ks → slice_index_or ks n k ≡ k → k.header ≡ b → Contains (loops_at b ks) k
at_there [] b k n low e is = absurd (omega (arith, low))
at_there (x ∷ ks) b k zero low e is =
    let test : (k.header == b) ≡ true = grind (arith, nat_tests, is) in
    let same : (x.header == b) ≡ true = ap (λ (l : Loop). l.header == b) e ∙ test in
    subst (λ t. Contains (if t then x ∷ loops_at b ks else loops_at b ks) k) (sym same) (0, omega arith, e)
at_there (x ∷ ks) b k (suc n) low e is = by_test (x.header == b) (at_there ks b k n (omega (arith, low)) e is)
  where
    by_test : (t : Bool) → Contains (loops_at b ks) k → Contains (if t then x ∷ loops_at b ks else loops_at b ks) k
    by_test true h = let less = h.1 in (suc h.0, omega (arith, less), h.2)
    by_test false h = h

from_there : (ks : List Loop) (b : ℕ) (xs : List PlacedBlock) (j : ℕ) (k : Loop) → j < length xs → k.header ≡ b + j → Contains ks k → Contains (loops_from ks b xs) k
from_there ks b [] j k low is h = absurd (omega (arith, low))
from_there ks b (x ∷ xs) zero k low is h = Contains-append_left (loops_at b ks) (loops_from ks (suc b) xs) k (at_there ks b k h.0 h.1 h.2 (omega (arith, is)))
from_there ks b (x ∷ xs) (suc j) k low is h = Contains-append_right (loops_at b ks) (loops_from ks (suc b) xs) k (from_there ks (suc b) xs j k (omega (arith, low)) (omega (arith, is)) h)

module _ (l : Laid) where
  claims_all : (f : ℕ) (ks : List Loop) → All (Contains (function_in l.program f).loops) ks → All (IsClaimOf l) (map (loop_claim l f) ks)
  claims_all f [] h = All-nil (IsClaimOf l)
  claims_all f (k ∷ ks) h =
      let own = (function_in l.program f).loops in
      All-cons (IsClaimOf l) (loop_claim l f k) (map (loop_claim l f) ks) (record { function = f; loop = k; there = All-head (Contains own) k ks h; is = refl }) (claims_all f ks (All-tail (Contains own) k ks h))

  each_claimed : (fs : List ℕ) → All (IsClaimOf l) (flat_map (loops_in l) fs)
  each_claimed [] = All-nil (IsClaimOf l)
  each_claimed (f ∷ fs) =
      let fn = function_in l.program f in
      subst (All (IsClaimOf l)) (sym (flat_map-cons (loops_in l) f fs))
      (All-append (IsClaimOf l) (loops_in l f) (flat_map (loops_in l) fs) (claims_all f (loops_from fn.loops 0 fn.blocks) (from_all (Contains fn.loops) fn.loops 0 fn.blocks (All-contains_itself fn.loops))) (each_claimed fs))

  module _ (is : IsSettled l) where
    every_claimed : (f : ℕ) (k : Loop) → Contains (function_in l.program f).loops k → Contains (loops_of l) (loop_claim l f k)
    every_claimed f k h =
        ⊎_elim
        (λ (low : f < length l.program.functions).
        let fn = function_in l.program f in
        let g = is.program.functions f fn (slice_get-get_or l.program.functions f no_function low) in
        let loop : IsLoop fn k = subst (IsLoop fn) h.2 (g.loops h.0 k h.1) in
        let less = loop.latch in
        let inside = slice_get_within fn.blocks k.latch (only_jump k.header) loop.back in
        let there = from_there fn.loops 0 fn.blocks k.header k (omega (arith, less, inside)) (omega arith) h in
        there_flat (loops_in l) (by_address l) f (loop_claim l f k) (all_in_order l is f (omega (arith, low))) (mapped (loops_from fn.loops 0 fn.blocks) there))
        (λ (past : length l.program.functions ≤ f).
        let none : function_in l.program f ≡ no_function = get_or_past l.program.functions f no_function past in
        let low : h.0 < length {A = Loop} [] = subst (λ (fn : PlacedFunction). h.0 < length fn.loops) none h.1 in
        absurd (omega (arith, low)))
        (cases_lt f (length l.program.functions))
      where
        mapped : (ks : List Loop) → Contains ks k → Contains (map (loop_claim l f) ks) (loop_claim l f k)
        mapped ks c =
            let size = length-map ks (loop_claim l f) in
            let low = c.1 in
            (c.0, omega (arith, size, low), get_or-map (loop_claim l f) ks c.0 k (loop_claim l f k) low ∙ ap (loop_claim l f) c.2)

    pub are_claims : AreLoopClaims l
    are_claims = record { each = each_claimed (by_address l); every = every_claimed }
