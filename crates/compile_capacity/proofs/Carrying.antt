-- A program that carries on loops that can be kept has such loops.
use Rattle.std.proofs.Common.{◌≡◌, ℕ, zero, suc, ◌+◌, ◌-◌, ◌*◌, ◌/◌, ◌%◌, ◌<◌, ◌≤◌, ⊎_elim, inl, inr, Bool, true, false, List, [], ◌∷◌, Option, Some, None, refl, sym, ap, ◌∙◌, subst, arith, All}
use Rattle.std.specs.Prelude.{◌==◌, if◌then◌else◌, max, nat_lt}
use Rattle.std.proofs.Math.Nat.{div-lt_iff_lt-mul, div-mul-le_self, max-le, mod-eq-sub-div-mul, zero-div}
use Rattle.std.proofs.lemmas.Bool.Decides.{nat_tests}
use Rattle.std.proofs.lemmas.List.Elements.{All-head, All-tail}
use Rattle.high_ir.specs.Formed.{IsHigh}
use Rattle.high_ir.specs.Runs.{count_of}
use Rattle.high_ir.specs.Splitting.{by_factor, split}
use Rattle.high_ir.specs.Standing.{Bounded, Bounds, loops_in}
use Rattle.high_ir.specs.Tree.{Program}
use Rattle.high_pass.specs.Carries.{AreBy, Behaviour, Carries, bounds_of}
use Rattle.high_pass.specs.Composing.{no_origin, origin_among}
use Rattle.high_pass.specs.Listing.{Listing, listed_loops}
use Rattle.high_pass.specs.declared.origin.Origin.{Origin}
use Rattle.high_pass.proofs.Continuing.{loops_below}
use Rattle.high_pass.proofs.Elements.{All-map_back}
use Rattle.high_pass.proofs.Origins.{finds_among}
use Rattle.plan_carried.proofs.Numbers.{bounds_found}
use Rattle.compile_capacity.specs.Turns.{CanKeep, IsKeepable, HighTurns}

next_multiple : (n k : ℕ) → (n + 1) * k ≡ n * k + k
next_multiple n k = omega arith

-- behind the peeled starts
split_kept : (b : Bounds) (k q : ℕ) → 1 ≤ k → b.least ≤ b.most → b.most / k ≡ q → CanKeep (max 1 ((b.least - b.most % k + k - 1) / k)) q
split_kept b k zero some low e = inr refl
split_kept b k (suc q) some low e =
    let rest : b.most % k ≡ b.most - b.most / k * k = mod-eq-sub-div-mul b.most k in
    let whole : b.most / k * k ≤ b.most = div-mul-le_self b.most k in
    let same : b.most / k * k ≡ suc q * k = ap (λ n. n * k) e in
    let next = next_multiple (suc q) k in
    let fewer : (b.least - b.most % k + k - 1) / k < suc q + 1 = (div-lt_iff_lt-mul (omega (arith, some))).1 (omega (arith, some, low, rest, whole, same, next)) in
    inl (max-le (omega arith) (omega (arith, fewer)))

factor_kept : (b : Bounds) (k : ℕ) → 1 ≤ k → CanKeep b.least b.most → CanKeep (by_factor b k).least (by_factor b k).most
factor_kept b k some h = of (k == 1)
  where
    of : (t : Bool) → CanKeep (if t then b else split b k).least (if t then b else split b k).most
    of true = h
    of false = ⊎_elim (λ (low : b.least ≤ b.most). split_kept b k (b.most / k) some low refl) (λ (none : b.most ≡ 0). inr (ap (λ n. n / k) none ∙ zero-div k)) h

abbrev KeepsIf : Option Bounds → Type 0
KeepsIf None = Unit {0}
KeepsIf (Some b) = CanKeep b.least b.most

found_kept : (ls : List Bounded) → All IsKeepable ls → (j : ℕ) → KeepsIf (bounds_of ls j)
found_kept [] all j = tt
found_kept (l ∷ ls) all j = of (l.id == j) (found_kept ls (All-tail IsKeepable l ls all) j)
  where
    of : (t : Bool) → KeepsIf (bounds_of ls j) → KeepsIf (if t then Some l.bounds else bounds_of ls j)
    of true others = All-head IsKeepable l ls all
    of false others = others

by_kept : (old : Option Bounds) (k : ℕ) (new : Option Bounds) → 1 ≤ k → AreBy old k new → KeepsIf old → KeepsIf new
by_kept None k new some h kept = absurd h
by_kept (Some b) k new some h kept = subst KeepsIf (sym h) (factor_kept b k some kept)

below : (j n : ℕ) → j < n → nat_lt j n ≡ true
below j n less = grind (arith, nat_tests, less)

module _ (old : Behaviour) (p : Program) (c : Listing) (carries : Carries old p c) (high : IsHigh p) (all : All IsKeepable old.loops) where
  -- each loop is a copy of one
  number_kept : (j : ℕ) → j < p.loops → KeepsIf (bounds_of (loops_in p.functions) j)
  number_kept j less =
      let once : count_of j (listed_loops c) ≡ 1 = carries.lists.loops j ∙ ap (λ (b : Bool). if b then 1 else 0) (below j p.loops less) in
      let o : Origin = origin_among c.loops j no_origin in
      let is = finds_among (λ i x. (1 ≤ x.factor) × AreBy (bounds_of old.loops x.old) x.factor (bounds_of (loops_in p.functions) i)) j c.loops no_origin carries.bounds (omega (arith, once)) in
      by_kept (bounds_of old.loops o.old) o.factor (bounds_of (loops_in p.functions) j) is.0 is.1 (found_kept old.loops all o.old)

  pub carried_kept : HighTurns p
  carried_kept k d lt =
      let own = bounds_found (loops_in p.functions) 0 p.loops high.loops in
      let low = All-map_back (λ x. x < p.loops) (λ l. l.id) (loops_in p.functions) (loops_below p high) in
      subst KeepsIf (own k d lt) (number_kept _ (low k d lt))
