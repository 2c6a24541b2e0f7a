-- All through a walk: worths lie between those at first and those at last, and ways between a block and the loose ones.
use Rattle.std.proofs.Common.{◌≡◌, ℕ, zero, suc, ◌+◌, ◌-◌, ◌≤◌, ◌<◌, ℤ, pos, ◌+ℤ◌, ◌≤ℤ◌, arith, refl, List, [], ◌∷◌, length, drop, get_or, Option, Some, None, inl, inr, get_or-set_other}
use Rattle.std.proofs.lemmas.Int.{ints}
use Rattle.std.proofs.lemmas.Grind.{get_or-set_at}
use Rattle.std.proofs.lemmas.Bool.Decides.{eqb_tells, leb_tells}
use Rattle.std.proofs.lemmas.List.{length-replicate, get_or-replicate}
use Rattle.std.proofs.Math.ListN.{replicate, get_or-eq_default}
use Rattle.loop_walks.specs.declared.step.Step.{Step}
use Rattle.loop_walks.specs.declared.step.Loop.{Loop}
use Rattle.loop_walks.specs.Walks.{worth_at, cost, relaxed}
use Rattle.loop_walks.specs.Turns.{greater, further, way_at, turned, with_back, turn_start}
use Rattle.loop_walks.specs.Rows.{IsStep, Each}
use Rattle.loop_walks.proofs.LargerLemmas.{larger_left}
use Rattle.loop_walks.proofs.WalkLemmas.{taken_at, taken_other, within}
use Rattle.loop_walks.proofs.TurnLemmas.{turn_at, turn_other, turned-long, turn_start-long}

taken_grows : (weights ws : List ℤ) (n : ℕ) (m : Step) (ms : List Step) (a : ℕ) → IsStep n m → n < length ws → worth_at (relaxed weights ws ms) a ≤ℤ worth_at (relaxed weights ws (m ∷ ms)) a
taken_grows weights ws n m ms a i long = elim (eqb_tells a m.at) [
  | inl k ↦ let e = taken_at weights (relaxed weights ws ms) m a (within weights ws n m ms i long) k.1 in rw e (larger_left _ _)
  | inr k ↦ let e = taken_other weights (relaxed weights ws ms) m a k.1 in rw e (omega (arith, ints))
]

-- what is walked over later only adds
pub relaxed_suffix : (weights ws : List ℤ) (n i : ℕ) (ms : List Step) (a : ℕ) → n < length ws → Each (IsStep n) ms → worth_at (relaxed weights ws (drop i ms)) a ≤ℤ worth_at (relaxed weights ws ms) a
relaxed_suffix weights ws n zero ms a long h = omega (arith, ints)
relaxed_suffix weights ws n (suc i) [] a long h = omega (arith, ints)
relaxed_suffix weights ws n (suc i) (m ∷ ms) a long h =
    let r = relaxed_suffix weights ws n i ms a long h.1 in
    let g = taken_grows weights ws n m ms a h.0 long in omega (arith, ints)

-- ways that are no less than a block

abbrev pub IsLeastWay : ℤ → Option ℤ → Type 0
IsLeastWay low None = Unit {0}
IsLeastWay low (Some v) = low ≤ℤ v

greater_least : (low : ℤ) (o p : Option ℤ) → IsLeastWay low o → IsLeastWay low p → IsLeastWay low (greater o p)
greater_least low None p h k = k
greater_least low (Some x) None h k = h
greater_least low (Some x) (Some y) h k = let l = larger_left x y in omega (arith, ints)

further_least : (low c : ℤ) (o : Option ℤ) → IsLeastWay low (further low c o)
further_least low c None = tt
further_least low c (Some t) = larger_left low (c +ℤ t)

none_at : (n i : ℕ) → get_or (replicate {A = Option ℤ} n None) i None ≡ None
none_at n i = elim (leb_tells n i) [
  | inl e ↦ let e1 = e.1 in let k = length-replicate {A = Option ℤ} n None in get_or-eq_default (replicate n None) None (omega (arith, k, e1))
  | inr e ↦ get_or-replicate n i None None e.1
]

module _ (low : ℤ) (h : low ≤ℤ pos 0) (l : Loop) where
  start_least : (o : Option ℕ) → ((b : ℕ) → o ≡ Some b → (l.header ≤ b) × (b < l.end)) → (i : ℕ) → IsLeastWay low (way_at (with_back o l.header (replicate (l.end - l.header) None)) i)
  start_least None inside i = rw (none_at (l.end - l.header) i) tt
  start_least (Some b) inside i = elim (eqb_tells i (b - l.header)) [
    | inl q ↦
        let w = inside b refl in let w0 = w.0 in let w1 = w.1 in
        let e = get_or-set_at (replicate (l.end - l.header) None) (b - l.header) i (Some (pos 0)) None q.1 (let n = length-replicate {A = Option ℤ} (l.end - l.header) None in omega (arith, n, w0, w1)) in rw e h
    | inr q ↦
        let e = get_or-set_other (replicate (l.end - l.header) None) (b - l.header) i (Some (pos 0)) None q.1 in
        rw e (rw (none_at (l.end - l.header) i) tt)
  ]

  turned_least : (weights : List ℤ) (ts : List (Option ℤ)) (ms : List Step) → length ts ≡ l.end - l.header → Each (λ m. (m.at - l.header) < (l.end - l.header)) ms → ((i : ℕ) → IsLeastWay low (way_at ts i)) → (i : ℕ) → IsLeastWay low (way_at (turned low weights l.header ts ms) i)
  turned_least weights ts [] long steps least i = least i
  turned_least weights ts (m ∷ ms) long steps least i = by_place (turned_least weights ts ms long steps.1 least)
    where
      by_place : ((j : ℕ) → IsLeastWay low (way_at (turned low weights l.header ts ms) j)) → IsLeastWay low (way_at (turned low weights l.header ts (m ∷ ms)) i)
      by_place r = elim (eqb_tells i (m.at - l.header)) [
        | inl q ↦
            let s0 = steps.0 in let v = turned-long low weights l.header ts ms in
            let e = turn_at low weights l.header (turned low weights l.header ts ms) m i (omega (arith, v, long, s0)) q.1 in
            rw e (greater_least low (way_at (turned low weights l.header ts ms) i) (further low (cost weights m) (way_at (turned low weights l.header ts ms) (m.on - l.header))) (r i) (further_least low (cost weights m) (way_at (turned low weights l.header ts ms) (m.on - l.header))))
        | inr q ↦ let e = turn_other low weights l.header (turned low weights l.header ts ms) m i q.1 in rw e (r i)
      ]

  pub ways_least : (weights : List ℤ) (ms : List Step) → ((b : ℕ) → l.back ≡ Some b → (l.header ≤ b) × (b < l.end)) → Each (λ m. (m.at - l.header) < (l.end - l.header)) ms → (i : ℕ) → IsLeastWay low (way_at (turned low weights l.header (turn_start l) ms) i)
  ways_least weights ms inside steps = turned_least weights (turn_start l) ms (turn_start-long l) steps (start_least l.back inside)
