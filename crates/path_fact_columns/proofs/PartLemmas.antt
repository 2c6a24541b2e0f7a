-- Parts of a flow of one unit: their amounts are small, and the listed ones of walks are such.
use Rattle.std.proofs.Common.{ℕ, ◌<◌, ◌≤◌, ◌^◌, ℤ, pos, ◌<ℤ◌, arith, subst, List, [], ◌∷◌, All, Bool, true, false, cond}
use Rattle.std.specs.Prelude.{◌==◌}
use lib.IntN.{negsuc}
use Rattle.std.proofs.lemmas.Int.{ints}
use Rattle.std.proofs.lemmas.List.Elements.{All-head, All-tail, All-cons, All-nil}
use Rattle.code_flow_lookup.specs.Runs.{those_at}
use Rattle.code_flow_lookup.proofs.LookLemmas.{first_part, listed-those}
use Rattle.code_flow_system.specs.declared.cert.Part.{Part}
use Rattle.code_flow_system.specs.declared.moves.Move.{Move}
use Rattle.code_flow_system.specs.Systems.{AreAscending}
use Rattle.code_flow_system.specs.Certificates.{listed, IsPart, IsSmall}
use Rattle.path_flows.specs.Flows.{parts_of}
use Rattle.path_cert.proofs.PartLemmas.{parts_ascend, parts_positive, parts_are}
use Rattle.path_fact_columns.specs.Answers.{AreParts}

those_all : (P : Part → Type 0) (a : ℕ) (ps : List Part) → All P ps → All P (those_at (λ (p : Part). p.at) a ps)
those_all P a [] h = All-nil P
those_all P a (p ∷ ps) h = by_test (p.at == a) (those_all P a ps (All-tail P p ps h))
  where
    by_test : (t : Bool) → All P (those_at (λ (p : Part). p.at) a ps) → All P (cond t (p ∷ those_at (λ (p : Part). p.at) a ps) (those_at (λ (p : Part). p.at) a ps))
    by_test true r = All-cons P p (those_at (λ (p : Part). p.at) a ps) (All-head P p ps h) r
    by_test false r = r

first_below : (m k : ℕ) → 0 < m → (ps : List Part) → All (λ (p : Part). p.part <ℤ pos m) ps → first_part ps k <ℤ pos m
first_below m k some [] h = omega (arith, ints, some)
first_below m k some (p ∷ ps) h = by_test (p.number == k) (first_below m k some ps (All-tail (λ (p : Part). p.part <ℤ pos m) p ps h))
  where
    by_test : (t : Bool) → first_part ps k <ℤ pos m → cond t p.part (first_part ps k) <ℤ pos m
    by_test true r = All-head (λ (p : Part). p.part <ℤ pos m) p ps h
    by_test false r = r

-- an amount that parts list
pub listed_below : (ps : List Part) → AreParts ps → (a k : ℕ) → listed ps a k < 2 ^ 60
listed_below ps are a k =
    let f = first_below (2 ^ 60) k (omega arith) (those_at (λ (p : Part). p.at) a ps) (those_all (λ (p : Part). p.part <ℤ pos (2 ^ 60)) a ps are.small) in
    below (listed ps a k) (subst (λ (z : ℤ). z <ℤ pos (2 ^ 60)) (listed-those ps a k are.ascending are.parts) f)
  where
    below : (n : ℕ) → pos n <ℤ pos (2 ^ 60) → n < 2 ^ 60
    below n h = omega (arith, ints)

-- parts of small amounts

parts_below : (n : ℕ) (ms : List Move) (us : List ℕ) → All (λ u. u < n) us → All (λ (p : Part). p.part <ℤ pos n) (parts_of ms us)
parts_below n [] us h = All-nil (λ (p : Part). p.part <ℤ pos n)
parts_below n (m ∷ ms) [] h = All-nil (λ (p : Part). p.part <ℤ pos n)
parts_below n (m ∷ ms) (u ∷ us) h = with_part (parts_below n ms us (All-tail (λ u. u < n) u us h)) (u == 0)
  where
    one : u < n → pos u <ℤ pos n
    one lt = omega (arith, ints, lt)

    with_part : All (λ (p : Part). p.part <ℤ pos n) (parts_of ms us) → (t : Bool) → All (λ (p : Part). p.part <ℤ pos n) (cond t (parts_of ms us) (record { at = m.at; number = m.number; part = pos u } ∷ parts_of ms us))
    with_part rest true = rest
    with_part rest false = All-cons (λ (p : Part). p.part <ℤ pos n) (record { at = m.at; number = m.number; part = pos u }) (parts_of ms us) (one (All-head (λ u. u < n) u us h)) rest

small_of : (n : ℕ) → n ≤ 2 ^ 120 → (ps : List Part) → All (λ (p : Part). pos 0 <ℤ p.part) ps → All (λ (p : Part). p.part <ℤ pos n) ps → All (λ (p : Part). IsSmall p.part) ps
small_of n most [] g h = All-nil (λ (p : Part). IsSmall p.part)
small_of n most (p ∷ ps) g h = All-cons (λ (p : Part). IsSmall p.part) p ps (one p.part (All-head (λ (p : Part). pos 0 <ℤ p.part) p ps g) (All-head (λ (p : Part). p.part <ℤ pos n) p ps h)) (small_of n most ps (All-tail (λ (p : Part). pos 0 <ℤ p.part) p ps g) (All-tail (λ (p : Part). p.part <ℤ pos n) p ps h))
  where
    one : (z : ℤ) → pos 0 <ℤ z → z <ℤ pos n → IsSmall z
    one (pos k) g h = let l : k < n = omega (arith, ints) in omega (arith, l, most)
    one (negsuc k) g h = absurd (omega (arith, ints))

pub small_parts : (n : ℕ) → n ≤ 2 ^ 120 → (ms : List Move) (us : List ℕ) → All (λ u. u < n) us → All IsPart (parts_of ms us)
small_parts n most ms us small = parts_are (parts_of ms us) (parts_positive ms us) (small_of n most (parts_of ms us) (parts_positive ms us) (parts_below n ms us small))

pub are_parts : (ms : List Move) (us : List ℕ) → AreAscending ms → All (λ u. u < 2 ^ 60) us → AreParts (parts_of ms us)
are_parts ms us ascending small = record {
  ascending = parts_ascend ms us ascending;
  parts = small_parts (2 ^ 60) (omega arith) ms us small;
  small = parts_below (2 ^ 60) ms us small;
}
