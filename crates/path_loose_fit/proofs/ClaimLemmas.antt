-- The claim of a header is the one that adds to it.
use Rattle.std.proofs.Common.{◌≡◌, ◌≢◌, ℕ, zero, suc, ◌*◌, ◌<◌, ◌≤◌, ℤ, pos, ◌+ℤ◌, arith, refl, sym, ap, ◌∙◌, List, [], ◌∷◌, length, get_or, All, inl, inr, Bool, true, false, cond}
use Rattle.std.specs.Prelude.{◌==◌, nat_lt, nat_le}
use Rattle.std.specs.List.Sorted.{IsNonDecreasingBy, IsPartitionPoint}
use Rattle.std.proofs.lemmas.Int.{ints}
use Rattle.std.proofs.lemmas.Bool.Decides.{nat_tests, eqb_tells}
use Rattle.std.proofs.lemmas.List.Elements.{All-weaker}
use Rattle.code_flow_lookup.proofs.RunLemmas.{Rises, non_decreasing, same_test, other_test}
use Rattle.frac128.specs.Terms.{when_same}
use Rattle.code_flow_system.specs.declared.claims.LoopClaim.{LoopClaim}
use Rattle.code_flow_system.specs.Loose.{most_turns}
use Rattle.loop_prices.specs.LoopPrices.{turns_at, starts, starts_from}
use Rattle.path_walks.specs.Opens.{AddressesRise}
use Rattle.path_loose_fit.specs.Rows.{no_claim, IsClaimOf}

-- ---- two searches enclose the claims of a header

abbrev IsBegin : List LoopClaim → ℕ → ℕ → Type 0
IsBegin cs a n = IsPartitionPoint (λ (c : LoopClaim). nat_lt c.header a ≡ true) (λ (c : LoopClaim). nat_lt c.header a ≡ false) cs n

abbrev IsEnd : List LoopClaim → ℕ → ℕ → Type 0
IsEnd cs a n = IsPartitionPoint (λ (c : LoopClaim). nat_le c.header a ≡ true) (λ (c : LoopClaim). nat_le c.header a ≡ false) cs n

pub enclosed : (cs : List LoopClaim) (a first end : ℕ) → IsBegin cs a first → IsEnd cs a end → first < end → end ≤ length cs → IsClaimOf cs a first
enclosed cs a first end p q lt le =
    let low = p.1 first no_claim (omega arith) (omega (arith, lt, le)) in
    let high = q.0 first no_claim (omega arith) lt in
    (omega (arith, lt, le), same (get_or cs first no_claim).header low high)
  where
    same : (h : ℕ) → nat_lt h a ≡ false → nat_le h a ≡ true → h ≡ a
    same h l m = let x : a ≤ h = grind (arith, nat_tests) in let y : h ≤ a = grind (arith, nat_tests) in omega (arith, x, y)

pub missing : (cs : List LoopClaim) (a first end : ℕ) → IsBegin cs a first → IsEnd cs a end → end ≤ first → All (λ (c : LoopClaim). c.header ≢ a) cs
missing cs a first end p q le k d lt = by_place (nat_lt k first) refl
  where
    by_place : (t : Bool) → nat_lt k first ≡ t → (get_or cs k d).header ≢ a
    by_place true e = below (get_or cs k d).header (p.0 k d (omega arith) (before e))
      where
        before : nat_lt k first ≡ true → k < first
        before e = grind (arith, nat_tests)

        below : (h : ℕ) → nat_lt h a ≡ true → h ≢ a
        below h l = let x : h < a = grind (arith, nat_tests) in λ f. omega (arith, x, f)
    by_place false e = above (get_or cs k d).header (q.1 k d (behind e) lt)
      where
        behind : nat_lt k first ≡ false → end ≤ k
        behind e = let x : first ≤ k = grind (arith, nat_tests) in omega (arith, x, le)

        above : (h : ℕ) → nat_le h a ≡ false → h ≢ a
        above h l = let x : a < h = grind (arith, nat_tests) in λ f. omega (arith, x, f)

rising : (cs : List LoopClaim) → AddressesRise (λ (c : LoopClaim). c.header) cs → Rises (λ (c : LoopClaim). c.header) cs
rising [] h = tt
rising (c ∷ cs) h = (All-weaker (λ (d : LoopClaim). c.header < d.header) (λ (d : LoopClaim). c.header ≤ d.header) (λ d k. omega (arith, k)) cs h.0, rising cs h.1)

pub rises : (cs : List LoopClaim) → AddressesRise (λ (c : LoopClaim). c.header) cs → IsNonDecreasingBy (λ (c : LoopClaim). c.header) cs
rises cs h = non_decreasing (λ (c : LoopClaim). c.header) cs (rising cs h)

-- ---- headers differ

rise_from : (cs : List LoopClaim) (j k : ℕ) → AddressesRise (λ (c : LoopClaim). c.header) cs → j < k → k < length cs → (get_or cs j no_claim).header < (get_or cs k no_claim).header
rise_from [] j k up lt le = absurd (omega (arith, le))
rise_from (c ∷ cs) j zero up lt le = absurd (omega (arith, lt))
rise_from (c ∷ cs) zero (suc k) up lt le = up.0 k no_claim (omega (arith, le))
rise_from (c ∷ cs) (suc j) (suc k) up lt le = rise_from cs j k up.1 (omega (arith, lt)) (omega (arith, le))

pub apart : (cs : List LoopClaim) (j k : ℕ) → AddressesRise (λ (c : LoopClaim). c.header) cs → j < length cs → k < length cs → j ≢ k → (get_or cs j no_claim).header ≢ (get_or cs k no_claim).header
apart cs j k up lj lk differ = by_order (nat_lt j k) refl
  where
    by_order : (t : Bool) → nat_lt j k ≡ t → (get_or cs j no_claim).header ≢ (get_or cs k no_claim).header
    by_order true e = let r = rise_from cs j k up (before e) lk in λ f. omega (arith, r, f)
      where
        before : nat_lt j k ≡ true → j < k
        before e = grind (arith, nat_tests)
    by_order false e = let r = rise_from cs k j up (behind e) lj in λ f. omega (arith, r, f)
      where
        behind : nat_lt j k ≡ false → k < j
        behind e = let x : k ≤ j = grind (arith, nat_tests) in omega (arith, x, differ)

-- ---- sums to which one claim adds

abbrev added : (LoopClaim → ℕ → ℤ) → List LoopClaim → List ℕ → ℤ
added f [] zs = pos 0
added f (c ∷ cs) [] = pos 0
added f (c ∷ cs) (z ∷ zs) = f c z +ℤ added f cs zs

added_none : (f : LoopClaim → ℕ → ℤ) (cs : List LoopClaim) (zs : List ℕ) → ((k z : ℕ) → k < length cs → f (get_or cs k no_claim) z ≡ pos 0) → added f cs zs ≡ pos 0
added_none f [] zs h = refl
added_none f (c ∷ cs) [] h = refl
added_none f (c ∷ cs) (z ∷ zs) h =
    let a = h zero z (omega arith) in
    let b = added_none f cs zs (λ k y lt. h (suc k) y (omega (arith, lt))) in omega (arith, ints)

added_one : (f : LoopClaim → ℕ → ℤ) (cs : List LoopClaim) (zs : List ℕ) (k : ℕ) → length zs ≡ length cs → k < length cs → ((j z : ℕ) → j < length cs → j ≢ k → f (get_or cs j no_claim) z ≡ pos 0) → added f cs zs ≡ f (get_or cs k no_claim) (get_or zs k 0)
added_one f [] zs k long lt h = absurd (omega (arith, lt))
added_one f (c ∷ cs) [] k long lt h = absurd (omega (arith, long))
added_one f (c ∷ cs) (z ∷ zs) zero long lt h =
    let b = added_none f cs zs (λ j y l. h (suc j) y (omega (arith, l)) (λ e. omega (arith, e))) in omega (arith, ints)
added_one f (c ∷ cs) (z ∷ zs) (suc k) long lt h =
    let a = h zero z (omega arith) (λ e. omega (arith, e)) in
    let b = added_one f cs zs k (omega (arith, long)) (omega (arith, lt)) (λ j y l d. h (suc j) y (omega (arith, l)) (λ e. d (omega (arith, e)))) in omega (arith, ints)

turns_added : (cs : List LoopClaim) (zs : List ℕ) (a : ℕ) → turns_at cs zs a ≡ added (λ c z. when_same a c.header (pos z)) cs zs
turns_added [] zs a = refl
turns_added (c ∷ cs) [] a = refl
turns_added (c ∷ cs) (z ∷ zs) a = ap (λ (y : ℤ). when_same a c.header (pos z) +ℤ y) (turns_added cs zs a)

starts_added : (cs : List LoopClaim) (zs : List ℕ) (a : ℕ) → starts cs zs a ≡ added (λ c z. when_same a c.header (pos (most_turns c * z))) cs zs
starts_added [] zs a = refl
starts_added (c ∷ cs) [] a = refl
starts_added (c ∷ cs) (z ∷ zs) a = ap (λ (y : ℤ). when_same a c.header (pos (most_turns c * z)) +ℤ y) (starts_added cs zs a)

from_added : (cs : List LoopClaim) (zs : List ℕ) (from a : ℕ) → starts_from cs zs from a ≡ added (λ c z. cond (from == c.back) (pos 0) (when_same a c.header (pos (most_turns c * z)))) cs zs
from_added [] zs from a = refl
from_added (c ∷ cs) [] from a = refl
from_added (c ∷ cs) (z ∷ zs) from a = ap (λ (y : ℤ). cond (from == c.back) (pos 0) (when_same a c.header (pos (most_turns c * z))) +ℤ y) (from_added cs zs from a)

here : (a b : ℕ) (z : ℤ) → b ≡ a → when_same a b z ≡ z
here a b z e = elim (eqb_tells a b) [ inl k ↦ rw k.0 refl | inr k ↦ absurd (k.1 (sym e)) ]

elsewhere : (a b : ℕ) (z : ℤ) → b ≢ a → when_same a b z ≡ pos 0
elsewhere a b z d = elim (eqb_tells a b) [ inl k ↦ absurd (d (sym k.1)) | inr k ↦ rw k.0 refl ]

none_of : (t : Bool) (z : ℤ) → z ≡ pos 0 → cond t (pos 0) z ≡ pos 0
none_of true z e = refl
none_of false z e = e

-- no claim has the header

pub turns_none : (cs : List LoopClaim) (zs : List ℕ) (a : ℕ) → All (λ (c : LoopClaim). c.header ≢ a) cs → turns_at cs zs a ≡ pos 0
turns_none cs zs a h = turns_added cs zs a ∙ added_none (λ c z. when_same a c.header (pos z)) cs zs (λ k z lt. elsewhere a (get_or cs k no_claim).header (pos z) (h k no_claim lt))

pub starts_none : (cs : List LoopClaim) (zs : List ℕ) (a : ℕ) → All (λ (c : LoopClaim). c.header ≢ a) cs → starts cs zs a ≡ pos 0
starts_none cs zs a h = starts_added cs zs a ∙ added_none (λ c z. when_same a c.header (pos (most_turns c * z))) cs zs (λ k z lt. elsewhere a (get_or cs k no_claim).header (pos (most_turns (get_or cs k no_claim) * z)) (h k no_claim lt))

pub from_none : (cs : List LoopClaim) (zs : List ℕ) (from a : ℕ) → All (λ (c : LoopClaim). c.header ≢ a) cs → starts_from cs zs from a ≡ pos 0
from_none cs zs from a h = from_added cs zs from a ∙ added_none (λ c z. cond (from == c.back) (pos 0) (when_same a c.header (pos (most_turns c * z)))) cs zs
    (λ k z lt. none_of (from == (get_or cs k no_claim).back) _ (elsewhere a (get_or cs k no_claim).header (pos (most_turns (get_or cs k no_claim) * z)) (h k no_claim lt)))

-- one has

module _ (cs : List LoopClaim) (zs : List ℕ) (a k : ℕ) (up : AddressesRise (λ (c : LoopClaim). c.header) cs) (long : length zs ≡ length cs) (is : IsClaimOf cs a k) where
  other : (j : ℕ) → j < length cs → j ≢ k → (get_or cs j no_claim).header ≢ a
  other j lt d = let f = apart cs j k up lt is.0 d in λ e. f (e ∙ sym is.1)

  pub turns_one : turns_at cs zs a ≡ pos (get_or zs k 0)
  turns_one = turns_added cs zs a
      ∙ (added_one (λ c z. when_same a c.header (pos z)) cs zs k long is.0 (λ j z lt d. elsewhere a (get_or cs j no_claim).header (pos z) (other j lt d))
      ∙ here a (get_or cs k no_claim).header (pos (get_or zs k 0)) is.1)

  pub starts_one : starts cs zs a ≡ pos (most_turns (get_or cs k no_claim) * get_or zs k 0)
  starts_one = starts_added cs zs a
      ∙ (added_one (λ c z. when_same a c.header (pos (most_turns c * z))) cs zs k long is.0 (λ j z lt d. elsewhere a (get_or cs j no_claim).header (pos (most_turns (get_or cs j no_claim) * z)) (other j lt d))
      ∙ here a (get_or cs k no_claim).header (pos (most_turns (get_or cs k no_claim) * get_or zs k 0)) is.1)

  pub from_one : (from : ℕ) → starts_from cs zs from a ≡ cond (from == (get_or cs k no_claim).back) (pos 0) (pos (most_turns (get_or cs k no_claim) * get_or zs k 0))
  from_one from = from_added cs zs from a
      ∙ (added_one (λ c z. cond (from == c.back) (pos 0) (when_same a c.header (pos (most_turns c * z)))) cs zs k long is.0
      (λ j z lt d. none_of (from == (get_or cs j no_claim).back) _ (elsewhere a (get_or cs j no_claim).header (pos (most_turns (get_or cs j no_claim) * z)) (other j lt d)))
      ∙ ap (λ (y : ℤ). cond (from == (get_or cs k no_claim).back) (pos 0) y) (here a (get_or cs k no_claim).header (pos (most_turns (get_or cs k no_claim) * get_or zs k 0)) is.1))

  pub from_back : (from : ℕ) → (get_or cs k no_claim).back ≡ from → starts_from cs zs from a ≡ pos 0
  from_back from e = from_one from ∙ ap (λ t. cond t (pos 0) (pos (most_turns (get_or cs k no_claim) * get_or zs k 0))) (same_test from (get_or cs k no_claim).back (sym e))

  pub from_other : (from : ℕ) → (get_or cs k no_claim).back ≢ from → starts_from cs zs from a ≡ pos (most_turns (get_or cs k no_claim) * get_or zs k 0)
  from_other from d = from_one from ∙ ap (λ t. cond t (pos 0) (pos (most_turns (get_or cs k no_claim) * get_or zs k 0))) (other_test from (get_or cs k no_claim).back (λ e. d (sym e)))
