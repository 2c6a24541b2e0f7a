-- The loop that a copy is of.
use Rattle.std.proofs.Common.{◌≡◌, ℕ, ◌<◌, ◌≤◌, ◌==◌, cond, List, [], ◌∷◌, map, Some, sym, ap, ◌∙◌, subst, ⊎_elim, arith, All}
use Rattle.std.specs.List.{flat_map}
use Rattle.std.proofs.lemmas.Bool.{cases_lt, cases_eq, cond-true, cond-false, eq-eqb, ne_eqb}
use Rattle.std.proofs.lemmas.List.Concat.{flat_map-cons}
use Rattle.std.proofs.lemmas.List.Elements.{All-head, All-tail}
use Rattle.std.proofs.lemmas.List.Sums.{sum_by-append, sum_by-cons}
use Rattle.high_ir.specs.Runs.{count_of}
use Rattle.high_ir.specs.Standing.{Bounded}
use Rattle.high_ir.specs.declared.copies.LoopCopy.{LoopCopy}
use Rattle.high_pass.specs.Carries.{StartsFewer, bounds_of}
use Rattle.high_pass.specs.Composing.{origin_among, origin_within}
use Rattle.high_pass.specs.Listing.{LoopEntry}
use Rattle.high_pass.specs.declared.origin.Origin.{Origin}

-- the origin that a copy of a loop has
abbrev origin_by : ℕ → LoopCopy → Origin
origin_by old l = record { old = old; factor = l.factor }

-- what holds of the origin of each copy that is listed, and of what is known, holds of what is found
module _ (P : ℕ → Origin → Type 0) (j : ℕ) where
  abbrev Listed : ℕ → LoopCopy → Type 0
  Listed old l = P l.id (origin_by old l)

  next_origin : (old : ℕ) (l : LoopCopy) (known : Origin) → Listed old l → P j known → P j (cond (l.id == j) (origin_by old l) known)
  next_origin old l known here stands = ⊎_elim
      (λ (e : l.id ≡ j). subst (P j) (sym (cond-true (l.id == j) (origin_by old l) known (eq-eqb l.id j e))) (subst (λ k. P k (origin_by old l)) e here))
      (λ (other : l.id ≡ j → ⊥). subst (P j) (sym (cond-false (l.id == j) (origin_by old l) known (ne_eqb l.id j other))) stands)
      (cases_eq l.id j)

  keeps_within : (old : ℕ) (ls : List LoopCopy) (known : Origin) → All (Listed old) ls → P j known → P j (origin_within old ls j known)
  keeps_within old [] known all stands = stands
  keeps_within old (l ∷ ls) known all stands =
      keeps_within old ls (cond (l.id == j) (origin_by old l) known) (All-tail (Listed old) l ls all) (next_origin old l known (All-head (Listed old) l ls all) stands)

  pub keeps_among : (es : List LoopEntry) (known : Origin) → All (λ e. All (Listed e.old) e.new) es → P j known → P j (origin_among es j known)
  keeps_among [] known all stands = stands
  keeps_among (e ∷ es) known all stands =
      keeps_among es (origin_within e.old e.new j known) (All-tail (λ e. All (Listed e.old) e.new) e es all)
      (keeps_within e.old e.new known (All-head (λ e. All (Listed e.old) e.new) e es all) stands)

  finds_within : (old : ℕ) (ls : List LoopCopy) (known : Origin) → All (Listed old) ls → 1 ≤ count_of j (map (λ l. l.id) ls) → P j (origin_within old ls j known)
  finds_within old [] known all some = absurd (omega (arith, some))
  finds_within old (l ∷ ls) known all some = ⊎_elim
      (λ (e : l.id ≡ j).
      keeps_within old ls (cond (l.id == j) (origin_by old l) known) (All-tail (Listed old) l ls all)
      (subst (P j) (sym (cond-true (l.id == j) (origin_by old l) known (eq-eqb l.id j e))) (subst (λ k. P k (origin_by old l)) e (All-head (Listed old) l ls all))))
      (λ (other : l.id ≡ j → ⊥).
      let miss : cond (l.id == j) 1 0 ≡ 0 = cond-false {A = ℕ} (l.id == j) 1 0 (ne_eqb l.id j other) in
      let sum = sum_by-cons (λ x. cond (x == j) 1 0) l.id (map (λ l. l.id) ls) in
      finds_within old ls (cond (l.id == j) (origin_by old l) known) (All-tail (Listed old) l ls all) (omega (arith, some, sum, miss)))
      (cases_eq l.id j)

  pub finds_among : (es : List LoopEntry) (known : Origin) → All (λ e. All (Listed e.old) e.new) es → 1 ≤ count_of j (flat_map (λ e. map (λ l. l.id) e.new) es) → P j (origin_among es j known)
  finds_among [] known all some = absurd (omega (arith, some))
  finds_among (e ∷ es) known all some =
      let here = All-head (λ e. All (Listed e.old) e.new) e es all in
      let rest = All-tail (λ e. All (Listed e.old) e.new) e es all in
      let sum = ap (count_of j) (flat_map-cons (λ e. map (λ l. l.id) e.new) e es) ∙ sum_by-append (λ x. cond (x == j) 1 0) (map (λ l. l.id) e.new) (flat_map (λ e. map (λ l. l.id) e.new) es) in
      ⊎_elim
      (λ (none : count_of j (map (λ l. l.id) e.new) < 1). finds_among es (origin_within e.old e.new j known) rest (omega (arith, some, sum, none)))
      (λ (some : 1 ≤ count_of j (map (λ l. l.id) e.new)). keeps_among es (origin_within e.old e.new j known) rest (finds_within e.old e.new known here some))
      (cases_lt (count_of j (map (λ l. l.id) e.new)) 1)

-- a loop whose bounds are known is one of the list
pub StartsFewer-there : (ls : List Bounded) (n k j : ℕ) → All (λ x. x < n) (map (λ l. l.id) ls) → StartsFewer (bounds_of ls j) k → j < n
StartsFewer-there [] n k j below few = absurd few
StartsFewer-there (l ∷ ls) n k j below few = ⊎_elim
    (λ (e : l.id ≡ j). subst (λ x. x < n) e (All-head (λ x. x < n) l.id (map (λ l. l.id) ls) below))
    (λ (other : l.id ≡ j → ⊥).
    StartsFewer-there ls n k j (All-tail (λ x. x < n) l.id (map (λ l. l.id) ls) below)
    (subst (λ b. StartsFewer b k) (cond-false (l.id == j) (Some l.bounds) (bounds_of ls j) (ne_eqb l.id j other)) few))
    (cases_eq l.id j)
