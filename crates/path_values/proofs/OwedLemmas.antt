-- What is left of prices, by sums that are tested.
use Rattle.std.proofs.Common.{◌≡◌, ℕ, ◌+◌, ◌-◌, ◌<◌, ◌≤◌, ℤ, neg_ℤ, ◌+ℤ◌, ◌-ℤ◌, arith, refl, sym, ap, ◌∙◌, List, [], ◌∷◌, length, drop, get_or, All, Option, Some, None, Bool, true, false}
use Rattle.std.specs.Prelude.{◌==◌, nat_le, if◌then◌else◌}
use Rattle.std.proofs.lemmas.Bool.Decides.{nat_tests}
use Rattle.std.proofs.lemmas.Int.{ints}
use Rattle.std.proofs.lemmas.List.Elements.{All-head, All-tail, All-cons, All-nil}
use Rattle.code_flow_lookup.specs.Runs.{those_at}
use Rattle.code_flow_system.specs.declared.moves.Move.{Move}
use Rattle.code_flow_system.specs.Certificates.{Limit}
use Rattle.loop_worths.proofs.CodeLemmas.{back_step}
use Rattle.path_values.specs.Owed.{owed_by, larger_of, most_by}

pub wide_none : (n size : ℕ) (o : ℤ) → n ≤ size → None ≡ (if nat_le n size then None else Some o)
wide_none n size o h = sym (ap (λ (t : Bool). if t then None else Some o) (is_wide n size h))
  where
    is_wide : (n size : ℕ) → n ≤ size → nat_le n size ≡ true
    is_wide n size h = grind (arith, nat_tests)

pub narrow_some : (n size : ℕ) (o z : ℤ) → (n ≤ size → true ≡ false) → z ≡ o → Some z ≡ (if nat_le n size then None else Some o)
narrow_some n size o z h e = ap Some e ∙ sym (ap (λ (t : Bool). if t then None else Some o) (by_test (nat_le n size) refl))
  where
    is_wide : nat_le n size ≡ true → n ≤ size
    is_wide t = grind (arith, nat_tests)

    by_test : (t : Bool) → nat_le n size ≡ t → nat_le n size ≡ false
    by_test true t = let f : true ≡ false = h (is_wide t) in cc
    by_test false t = t

pub owed_is : (price fall held total : ℤ) → total ≡ (fall +ℤ held) -ℤ price → neg_ℤ total ≡ price -ℤ (fall +ℤ held)
owed_is price fall held total e = omega (arith, ints)

pub those_all : {X : Type 0} (key : X → ℕ) (a : ℕ) (P : X → Type 0) (xs : List X) → All P xs → All P (those_at key a xs)
those_all key a P [] h = All-nil P
those_all key a P (x ∷ xs) h = by_test (key x == a) (those_all key a P xs (All-tail P x xs h))
  where
    by_test : (t : Bool) → All P (those_at key a xs) → All P (if t then x ∷ those_at key a xs else those_at key a xs)
    by_test true r = All-cons P x (those_at key a xs) (All-head P x xs h) r
    by_test false r = r

pub most_on : (price : Move → ℤ) (p : ℕ → ℤ) (ls : List Limit) (ms : List Move) (k : ℕ) (d m : Move) (most most' : Option ℤ) → k < length ms → m ≡ get_or ms (length ms - 1 - k) d → most ≡ most_by price p ls (drop (length ms - k) ms) → most' ≡ larger_of (owed_by price p ls m) most → most' ≡ most_by price p ls (drop (length ms - (k + 1)) ms)
most_on price p ls ms k d m most most' h is e f =
    f ∙ (ap (λ (x : Move). larger_of (owed_by price p ls x) most) is ∙ (ap (λ (o : Option ℤ). larger_of (owed_by price p ls (get_or ms (length ms - 1 - k) d)) o) e ∙ sym (ap (λ ks. most_by price p ls ks) (back_step ms k d h))))
