-- A mark that a run doesn't pass has no address that it visits.
use Rattle.std.proofs.Common.{◌≡◌, ℕ, ◌+◌, ℤ, pos, ◌+ℤ◌, Bool, true, false, List, [], ◌∷◌, refl, sym, ap, ◌∙◌, subst, All, arith}
use Rattle.std.specs.Prelude.{◌==◌, if◌then◌else◌}
use Rattle.std.specs.List.{flat_map}
use Rattle.std.proofs.Math.IntN.{pos-+ℤ-pos}
use Rattle.std.proofs.lemmas.Int.{ints}
use Rattle.std.proofs.lemmas.List.Concat.{flat_map-cons}
use Rattle.std.proofs.lemmas.List.Elements.{All-append, All-cons, All-head, All-map, All-nil, All-tail}
use Rattle.std.proofs.lemmas.List.Sorted.{All-permutation}
use Rattle.frac128.specs.Terms.{int_sum_by, when_same}
use Rattle.rv_core.specs.Runs.{Visit}
use Rattle.code_flow_system.specs.declared.claims.Never.{Never}
use Rattle.code_flow_system.specs.Counts.{KeepsNever}
use Rattle.code_flow_system.specs.KeptRuns.{visit_count}
use Rattle.high_ir.specs.declared.copies.NeverMark.{NeverMark}
use Rattle.compile_claims.specs.Places.{places_at}
use Rattle.compile_claims.specs.Named.{AreNevers, never_at, nevers_at}

-- counts that are numbers
abbrev AreNumbers : (ℕ → ℤ) → Type 0
AreNumbers f = (a : ℕ) → (n : ℕ) × (f a ≡ pos n)

abbrev IsNone : (ℕ → ℤ) → ℕ → Type 0
IsNone f a = f a ≡ pos 0

one_or_none : (b : Bool) → (n : ℕ) × ((if b then pos 1 else pos 0) ≡ pos n)
one_or_none true = (1, refl)
one_or_none false = (0, refl)

one_visit : (v : Visit) (a : ℕ) → (n : ℕ) × (when_same v.at a (pos 1) ≡ pos n)
one_visit v a = one_or_none (v.at == a)

pub visits_some : (vs : List Visit) → AreNumbers (visit_count vs)
visits_some [] a = (0, refl)
visits_some (v ∷ vs) a =
    let here = one_visit v a in
    let rest = visits_some vs a in
    (here.0 + rest.0, ap (λ z. z +ℤ visit_count vs a) here.1 ∙ ap (λ z. pos here.0 +ℤ z) rest.1 ∙ pos-+ℤ-pos here.0 rest.0)

sums_some : (f : ℕ → ℤ) → AreNumbers f → (xs : List ℕ) → (n : ℕ) × (int_sum_by f xs ≡ pos n)
sums_some f some [] = (0, refl)
sums_some f some (x ∷ xs) =
    let here = some x in
    let rest = sums_some f some xs in
    (here.0 + rest.0, ap (λ z. z +ℤ int_sum_by f xs) here.1 ∙ ap (λ z. pos here.0 +ℤ z) rest.1 ∙ pos-+ℤ-pos here.0 rest.0)

-- where they add up to none, each is none
none_each : (f : ℕ → ℤ) → AreNumbers f → (xs : List ℕ) → int_sum_by f xs ≡ pos 0 → All (IsNone f) xs
none_each f some [] none = All-nil (IsNone f)
none_each f some (x ∷ xs) none =
    let here = some x in
    let rest = sums_some f some xs in
    let first = here.1 in
    let others = rest.1 in
    All-cons (IsNone f) x xs (omega (arith, ints, none, first, others)) (none_each f some xs (omega (arith, ints, none, first, others)))

module _ (f : ℕ → ℤ) (places : List (List ℕ)) (some : AreNumbers f) where
  abbrev IsUnpassed : NeverMark → Type 0
  IsUnpassed v = int_sum_by f (places_at places v.mark) ≡ pos 0

  own_kept : (v : NeverMark) → IsUnpassed v → All (KeepsNever f) (nevers_at places v)
  own_kept v none = All-map (KeepsNever f) (never_at v) (places_at places v.mark) (none_each f some (places_at places v.mark) none)

  all_kept : (vs : List NeverMark) → All IsUnpassed vs → All (KeepsNever f) (flat_map (nevers_at places) vs)
  all_kept [] none = All-nil (KeepsNever f)
  all_kept (v ∷ vs) none =
      subst (All (KeepsNever f)) (sym (flat_map-cons (nevers_at places) v vs))
      (All-append (KeepsNever f) (nevers_at places v) (flat_map (nevers_at places) vs) (own_kept v (All-head IsUnpassed v vs none)) (all_kept vs (All-tail IsUnpassed v vs none)))

pub nevers_kept : (f : ℕ → ℤ) (places : List (List ℕ)) (vs : List NeverMark) (ns : List Never) → AreNevers places vs ns → AreNumbers f → All (λ (v : NeverMark). int_sum_by f (places_at places v.mark) ≡ pos 0) vs → All (KeepsNever f) ns
nevers_kept f places vs ns h some none = All-permutation (KeepsNever f) (flat_map (nevers_at places) vs) ns h.all (all_kept f places some vs none)
