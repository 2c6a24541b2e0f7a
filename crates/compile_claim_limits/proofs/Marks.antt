-- How many addresses marks have, when no mark is listed twice.
use Rattle.std.proofs.Common.{◌≡◌, ℕ, zero, suc, ◌+◌, ◌≤◌, List, [], ◌∷◌, ◌++◌, length, map, length-append, refl, ap, ◌∙◌, subst, arith}
use Rattle.std.specs.Prelude.{slice_index_or, sum_by}
use Rattle.std.specs.List.{flat_map, range_with_len}
use Rattle.std.proofs.lemmas.List.{length-map}
use Rattle.std.proofs.lemmas.List.Concat.{flat_map-cons}
use Rattle.std.proofs.lemmas.List.Sums.{sum_by-append, sum_by-cons}
use Rattle.code_flow_system.specs.declared.claims.Never.{Never}
use Rattle.high_ir.specs.declared.copies.NeverMark.{NeverMark}
use Rattle.high_pass.specs.Listing.{HasEachBelow, Listing, MarkEntry, listed_marks}
use Rattle.high_pass.proofs.Counting.{sum_by-HasEachBelow, sum_by-flat_map}
use Rattle.compile_claims.specs.Named.{never_at, nevers_at}
use Rattle.compile_claims.specs.Places.{places_at}
use Rattle.simulation_marks.proofs.Sums.{summed, upto}
use Rattle.compile_claim_limits.proofs.Sums.{first_numbers}

-- a row of numbers, by two names
ranged : (g : ℕ → ℕ) (a n : ℕ) → sum_by g (range_with_len a n) ≡ summed g (upto a n)
ranged g a zero = refl
ranged g a (suc n) =
    let rest : sum_by g (range_with_len (a + 1) n) ≡ summed g (upto (suc a) n) = subst (λ k. sum_by g (range_with_len k n) ≡ summed g (upto (suc a) n)) (next a) (ranged g (suc a) n) in
    let all : sum_by g (range_with_len a (suc n)) ≡ g a + sum_by g (range_with_len (a + 1) n) = sum_by-cons g a (range_with_len (a + 1) n) in
    all ∙ ap (λ s. g a + s) rest
  where
    next : (k : ℕ) → suc k ≡ k + 1
    next k = omega arith

module _ (places : List (List ℕ)) where
  -- how many addresses a mark has
  abbrev pub places_of : ℕ → ℕ
  places_of k = length (slice_index_or places k [])

  pub marks_places : (ms : List ℕ) → length (flat_map (places_at places) ms) ≡ sum_by places_of ms
  marks_places [] = refl
  marks_places (m ∷ ms) =
      let parts : length (flat_map (places_at places) (m ∷ ms)) ≡ length (places_at places m ++ flat_map (places_at places) ms) = ap (λ (l : List ℕ). length l) (flat_map-cons (places_at places) m ms) in
      let both = length-append (places_at places m) (flat_map (places_at places) ms) in
      let own : length (places_at places m) ≡ places_of m = refl in
      let rest = marks_places ms in
      let all = sum_by-cons places_of m ms in
      omega (arith, parts, both, own, rest, all)

  abbrev pub entry_places : MarkEntry → ℕ
  entry_places e = sum_by places_of e.new

  -- one for each address of a never mark
  all_nevers : (vs : List NeverMark) → length (flat_map (nevers_at places) vs) ≡ sum_by places_of (map (λ (v : NeverMark). v.mark) vs)
  all_nevers [] = refl
  all_nevers (v ∷ vs) =
      let parts : length (flat_map (nevers_at places) (v ∷ vs)) ≡ length (nevers_at places v ++ flat_map (nevers_at places) vs) = ap (λ (l : List Never). length l) (flat_map-cons (nevers_at places) v vs) in
      let both = length-append (nevers_at places v) (flat_map (nevers_at places) vs) in
      let own = length-map (places_at places v.mark) (never_at v) in
      let rest = all_nevers vs in
      let all = sum_by-cons places_of v.mark (map (λ (x : NeverMark). x.mark) vs) in
      omega (arith, parts, both, own, rest, all)

  -- no mark is listed twice
  pub marks_few : (c : Listing) (n : ℕ) → HasEachBelow n (listed_marks c) → sum_by entry_places c.marks + length (flat_map (nevers_at places) c.nevers) ≤ sum_by (λ (l : List ℕ). length l) places
  marks_few c n each =
      let copies = flat_map (λ (e : MarkEntry). e.new) c.marks in
      let nevers = map (λ (v : NeverMark). v.mark) c.nevers in
      let flat = sum_by-flat_map places_of (λ (e : MarkEntry). e.new) c.marks in
      let same = all_nevers c.nevers in
      let both = sum_by-append places_of copies nevers in
      let once = sum_by-HasEachBelow places_of n (listed_marks c) each in
      let row = ranged places_of 0 n in
      let all : summed places_of (upto 0 n) ≤ sum_by (λ (l : List ℕ). length l) places = first_numbers (λ (l : List ℕ). length l) [] refl n places in
      omega (arith, flat, same, both, once, row, all)

  pub nevers_few : (c : Listing) (n : ℕ) → HasEachBelow n (listed_marks c) → length (flat_map (nevers_at places) c.nevers) ≤ sum_by (λ (l : List ℕ). length l) places
  nevers_few c n each = let few = marks_few c n each in omega (arith, few)
