-- All marks together.
use Rattle.std.proofs.Common.{◌≡◌, ◌≢◌, ℕ, zero, suc, ◌+◌, ◌<◌, ◌≤◌, true, false, List, [], ◌∷◌, length, map, Option, Some, None, refl, ap, ◌∙◌, subst, ⊎_elim, arith}
use Rattle.std.specs.Prelude.{◌==◌, if◌then◌else◌, sum_by}
use Rattle.std.specs.List.{range_with_len}
use Rattle.std.proofs.lemmas.Bool.{cases_lt}
use Rattle.std.proofs.lemmas.Bool.Decides.{nat_tests}
use Rattle.std.proofs.lemmas.List.Sums.{sum_by-cons}
use Rattle.low_ir.specs.declared.places.Place.{Place}
use Rattle.low_ir.specs.Code.{Block, Function, Low, Note}
use Rattle.low_ir.specs.Places.{Assignment, place_blocks, place_functions, placed}
use Rattle.low_ir.specs.Room.{marks_once}
use Rattle.asm_program.specs.Functions.{PlacedBlock, PlacedFunction}
use Rattle.asm_program.specs.Marked.{blocks_marked, functions_marked}
use Rattle.claims_definition.specs.Listed.{Laid, places_of}
use Rattle.simulation_marks.specs.MarkLaws.{blocks_standing, functions_standing, has_mark}
use Rattle.simulation_marks.proofs.Sums.{summed, summed-add, summed-same, summed-zero, upto, none_counts, one_counts}
use Rattle.simulation_marks.proofs.Places.{places_many}

module _ (n : ℕ) where
  -- a block has one of the marks below n at most
  one_mark : (o : Option ℕ) → summed (marks_once o) (upto 0 n) ≤ has_mark o
  one_mark None = let none = summed-zero (marks_once None) (upto 0 n) (λ m. refl) in omega (arith, none)
  one_mark (Some k) =
      ⊎_elim
      (λ (low : k < n). let one = one_counts (marks_once (Some k)) k others 0 n (omega arith) (omega (arith, low)) in let is = own in omega (arith, one, is))
      (λ (past : n ≤ k). let none = none_counts (marks_once (Some k)) k others 0 n (omega (arith, past)) in omega (arith, none))
      (cases_lt k n)
    where
      own : marks_once (Some k) k ≡ 1
      own = let same : (k == k) ≡ true = grind (arith, nat_tests) in ap (λ t. if t then 1 else 0) same

      others : (m : ℕ) → m ≢ k → marks_once (Some k) m ≡ 0
      others m h = let other : (k == m) ≡ false = grind (arith, nat_tests, h) in ap (λ t. if t then 1 else 0) other

  blocks_few : (bs : List PlacedBlock) → summed (λ m. blocks_marked m bs) (upto 0 n) ≤ blocks_standing bs
  blocks_few [] = let none = summed-zero (λ m. blocks_marked m []) (upto 0 n) (λ m. refl) in omega (arith, none)
  blocks_few (b ∷ bs) =
      let both = summed-add (marks_once b.mark) (λ m. blocks_marked m bs) (upto 0 n) in
      let one = one_mark b.mark in
      let rest = blocks_few bs in
      omega (arith, both, one, rest)

  functions_few : (fns : List PlacedFunction) → summed (λ m. functions_marked m fns) (upto 0 n) ≤ functions_standing fns
  functions_few [] = let none = summed-zero (λ m. functions_marked m []) (upto 0 n) (λ m. refl) in omega (arith, none)
  functions_few (fn ∷ fns) =
      let both = summed-add (λ m. blocks_marked m fn.blocks) (λ m. functions_marked m fns) (upto 0 n) in
      let one = blocks_few fn.blocks in
      let rest = functions_few fns in
      omega (arith, both, one, rest)

listed : (l : Laid) (a n : ℕ) → sum_by length (map (places_of l) (range_with_len a n)) ≡ summed (λ m. length (places_of l m)) (upto a n)
listed l a zero = refl
listed l a (suc n) =
    sum_by-cons length (places_of l a) (map (places_of l) (range_with_len (a + 1) n))
    ∙ ap (λ k. length (places_of l a) + k) (subst (λ k. sum_by length (map (places_of l) (range_with_len k n)) ≡ summed (λ m. length (places_of l m)) (upto (suc a) n)) (next a) (listed l (suc a) n))
  where
    next : (k : ℕ) → suc k ≡ k + 1
    next k = omega arith

pub all_few : (l : Laid) (n : ℕ) → sum_by length (map (places_of l) (range_with_len 0 n)) ≤ functions_standing l.program.functions
all_few l n =
    let each = listed l 0 n ∙ summed-same (λ m. length (places_of l m)) (λ m. functions_marked m l.program.functions) (upto 0 n) (λ m. places_many m l) in
    let few = functions_few n l.program.functions in
    omega (arith, each, few)

-- places keep marks
blocks_same : (pl : ℕ → Place) (kept : ℕ → List ℕ) (q : ℕ) (bs : List (Block ℕ Note)) → blocks_standing (place_blocks pl kept q bs) ≡ blocks_standing bs
blocks_same pl kept q [] = refl
blocks_same pl kept q (b ∷ bs) = ap (λ k. has_mark b.mark + k) (blocks_same pl kept (q + suc (length b.code)) bs)

functions_same : (a : Assignment) (k : ℕ) (fns : List (Function ℕ Note)) → functions_standing (place_functions a k fns) ≡ functions_standing fns
functions_same a k [] = refl
functions_same a k (fn ∷ fns) = let one = blocks_same (a.place k) (a.kept k) 0 fn.blocks in let rest = functions_same a (suc k) fns in omega (arith, one, rest)

pub all_stand : (a : Assignment) (low : Low) → functions_standing (placed a low).functions ≡ functions_standing low.functions
all_stand a low = functions_same a 0 low.functions
