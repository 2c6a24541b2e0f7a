-- The intervals of all registers of a function.
use Rattle.std.proofs.Common.{◌≡◌, ◌≢◌, ◌⊎◌, inl, inr, ℕ, ◌+◌, ◌<◌, List, [], ◌∷◌, ◌++◌, length, Option, Some, None, refl, sym, ap, ◌∙◌, subst, arith, get_or-set_other}
use Rattle.std.specs.Prelude.{slice_index_or, slice_set}
use Rattle.std.proofs.lemmas.Bool.{cases_eq}
use Rattle.std.proofs.lemmas.List.{get_or-append-add, get_or-set_same, get_or_append_left, length-set}
use Rattle.low_ir.specs.Code.{Function, Note}
use Rattle.low_ir.specs.Live.{Behind, BehindEnd, Has, IsPlace, Parameter, Written}
use Rattle.register_live_ranges.specs.declared.interval.Interval.{Interval}
use Rattle.register_live_ranges.specs.declared.reading.Reading.{Reading}
use Rattle.register_live_ranges.specs.Found.{AreFound, IsFound}
use Rattle.register_live_ranges.specs.Intervals.{AreIntervalsOf, IsHull, LivesAt, interval_in, parameters_widened, widened}
use Rattle.register_live_ranges.proofs.Hulls.{greatest, least}

-- the same numbers have the same hull
hull_map : (P Q : ℕ → Type 0) (o : Option Interval) → ((p : ℕ) → P p → Q p) → ((p : ℕ) → Q p → P p) → IsHull P o → IsHull Q o
hull_map P Q None f g h = λ p x. h p (g p x)
hull_map P Q (Some i) f g h = record { begins = f i.first h.begins; ends = f i.last h.ends; above = λ p x. h.above p (g p x); below = λ p x. h.below p (g p x) }

-- with one number more
hull_more : (P : ℕ → Type 0) (o : Option Interval) (n : ℕ) → IsHull P o → IsHull (λ p. P p ⊎ (p ≡ n)) (Some (widened o n))
hull_more P None n h = record {
  begins = inr refl;
  ends = inr refl;
  above = λ p x. elim x [ inl y ↦ absurd (h p y) | inr e ↦ omega (arith, e) ];
  below = λ p x. elim x [ inl y ↦ absurd (h p y) | inr e ↦ omega (arith, e) ];
}
hull_more P (Some i) n h = record {
  begins = least (λ p. P p ⊎ (p ≡ n)) i.first n (inl h.begins) (inr refl);
  ends = greatest (λ p. P p ⊎ (p ≡ n)) i.last n (inl h.ends) (inr refl);
  above = λ p x. elim x [ inl y ↦ (let a = h.above p y in omega (arith, a)) | inr e ↦ omega (arith, e) ];
  below = λ p x. elim x [ inl y ↦ (let a = h.below p y in omega (arith, a)) | inr e ↦ omega (arith, e) ];
}

module _ (P : ℕ → Type 0) (v : ℕ) where
  -- where F, v is written at the first place
  abbrev Or : Type 0 → ℕ → Type 0
  Or F p = P p ⊎ ((p ≡ 0) × F)

  or_map : (F G : Type 0) → (F → G) → (p : ℕ) → Or F p → Or G p
  or_map F G f p (inl x) = inl x
  or_map F G f p (inr x) = inr (x.0, f x.1)

  parameters : (rs : List ℕ) (row : List (Option Interval)) (F : Type 0) → v < length row → IsHull (Or F) (interval_in row v) → IsHull (Or (F ⊎ Has v rs)) (interval_in (parameters_widened row rs) v)
  parameters [] row F lt h = hull_map (Or F) (Or (F ⊎ ⊥)) (interval_in row v) (λ p x. or_map F (F ⊎ ⊥) (λ f. inl f) p x) (λ p x. or_map (F ⊎ ⊥) F (λ f. elim f [ inl y ↦ y | inr y ↦ absurd y ]) p x) h
  parameters (r ∷ rs) row F lt h = by (cases_eq v r) (λ list G l k. parameters rs list G l k)
    where
      new : Option Interval
      new = Some (widened (interval_in row r) 0)

      size : v < length (slice_set row r new)
      size = let e = length-set row r new in omega (arith, e, lt)

      by : (v ≡ r) ⊎ (v ≢ r) → ((list : List (Option Interval)) (G : Type 0) → v < length list → IsHull (Or G) (interval_in list v) → IsHull (Or (G ⊎ Has v rs)) (interval_in (parameters_widened list rs) v)) → IsHull (Or (F ⊎ Has v (r ∷ rs))) (interval_in (parameters_widened (slice_set row r new) rs) v)
      by (inl e) go =
          let here : interval_in (slice_set row r new) v ≡ Some (widened (interval_in row v) 0) =
          subst (λ (u : ℕ). slice_index_or (slice_set row u (Some (widened (interval_in row u) 0))) v None ≡ Some (widened (interval_in row v) 0)) e (get_or-set_same row v (Some (widened (interval_in row v) 0)) None lt) in
          let more = hull_more (Or F) (interval_in row v) 0 h in
          let both = hull_map (λ p. Or F p ⊎ (p ≡ 0)) (Or (Unit {0})) (Some (widened (interval_in row v) 0))
          (λ p x. elim x [ inl y ↦ or_map F (Unit {0}) (λ f. tt) p y | inr z ↦ inr (z, tt) ])
          (λ p x. elim x [ inl y ↦ inl (inl y) | inr z ↦ inr z.0 ]) more in
          let next = go (slice_set row r new) (Unit {0}) size (subst (IsHull (Or (Unit {0}))) (sym here) both) in
          hull_map (Or (Unit {0} ⊎ Has v rs)) (Or (F ⊎ Has v (r ∷ rs))) (interval_in (parameters_widened (slice_set row r new) rs) v)
          (λ p x. or_map (Unit {0} ⊎ Has v rs) (F ⊎ Has v (r ∷ rs)) (λ f. inr (inl e)) p x) (λ p x. or_map (F ⊎ Has v (r ∷ rs)) (Unit {0} ⊎ Has v rs) (λ f. inl tt) p x) next
      by (inr d) go =
          let there : interval_in (slice_set row r new) v ≡ interval_in row v = get_or-set_other row r v new None d in
          let next = go (slice_set row r new) F size (subst (IsHull (Or F)) (sym there) h) in
          hull_map (Or (F ⊎ Has v rs)) (Or (F ⊎ Has v (r ∷ rs))) (interval_in (parameters_widened (slice_set row r new) rs) v)
          (λ p x. or_map (F ⊎ Has v rs) (F ⊎ Has v (r ∷ rs)) (λ f. elim f [ inl y ↦ inl y | inr y ↦ inr (inr y) ]) p x)
          (λ p x. or_map (F ⊎ Has v (r ∷ rs)) (F ⊎ Has v rs) (λ f. elim f [ inl y ↦ inl y | inr y ↦ elim y [ inl z ↦ absurd (d z) | inr z ↦ inr z ] ]) p x) next

-- parameters keep the length
widened_length : (rs : List ℕ) (row : List (Option Interval)) → length (parameters_widened row rs) ≡ length row
widened_length [] row = refl
widened_length (r ∷ rs) row = widened_length rs (slice_set row r (Some (widened (interval_in row r) 0))) ∙ length-set row r (Some (widened (interval_in row r) 0))

place_from : (fn : Function ℕ Note) (v p : ℕ) → IsPlace fn p v → LivesAt fn.blocks p v ⊎ ((p ≡ 0) × (⊥ ⊎ Has v fn.parameters))
place_from fn v p (Written i is end s e) = inl (Written i is end s e)
place_from fn v p (Behind i is end s e) = inl (Behind i is end s e)
place_from fn v p (BehindEnd n end s e) = inl (BehindEnd n end s e)
place_from fn v p (Parameter e has) = inr (e, inr has)

lives_place : (fn : Function ℕ Note) (v p : ℕ) → LivesAt fn.blocks p v → IsPlace fn p v
lives_place fn v p (Written i is end s e) = Written i is end s e
lives_place fn v p (Behind i is end s e) = Behind i is end s e
lives_place fn v p (BehindEnd n end s e) = BehindEnd n end s e
lives_place fn v p (Parameter e has) = absurd has

place_to : (fn : Function ℕ Note) (v p : ℕ) → LivesAt fn.blocks p v ⊎ ((p ≡ 0) × (⊥ ⊎ Has v fn.parameters)) → IsPlace fn p v
place_to fn v p (inl x) = lives_place fn v p x
place_to fn v p (inr x) = elim x.1 [ inl y ↦ absurd y | inr y ↦ Parameter x.0 y ]

pub intervals_are : (fn : Function ℕ Note) (found row : List (Option Interval)) → length found ≡ fn.size → ((v : ℕ) → v < fn.size → IsHull (λ p. LivesAt fn.blocks p v) (interval_in found v)) → row ≡ parameters_widened found fn.parameters → AreIntervalsOf fn row
intervals_are fn found row size hulls is = record {
  size = ap length is ∙ (widened_length fn.parameters found ∙ size);
  each = λ v lt.
      let P = λ (p : ℕ). LivesAt fn.blocks p v in
      let start = hull_map P (Or P v ⊥) (interval_in found v) (λ p x. inl x) (λ p x. elim x [ inl y ↦ y | inr y ↦ absurd y.1 ]) (hulls v lt) in
      let all = parameters P v fn.parameters found ⊥ (omega (arith, size, lt)) start in
      subst (λ (r : List (Option Interval)). IsHull (λ p. IsPlace fn p v) (interval_in r v)) (sym is)
      (hull_map (Or P v (⊥ ⊎ Has v fn.parameters)) (λ p. IsPlace fn p v) (interval_in (parameters_widened found fn.parameters) v) (λ p x. place_to fn v p x) (λ p x. place_from fn v p x) all);
}

-- one register more is found
pub found_more : (r : Reading) (found new : List (Option Interval)) (n : ℕ) (o : Option Interval) → length found ≡ n → new ≡ found ++ o ∷ [] → IsFound r n o → AreFound r n found → AreFound r (n + 1) new
found_more r found new n o long pushed here before v lt = by (cases_eq v n)
  where
    by : (v ≡ n) ⊎ (v ≢ n) → IsFound r v (interval_in new v)
    by (inl e) =
        let at : n ≡ length found + 0 = omega (arith, long) in
        let read : interval_in new n ≡ o = ap (λ l. interval_in l n) pushed ∙ (ap (λ m. interval_in (found ++ o ∷ []) m) at ∙ get_or-append-add found (o ∷ []) 0 None) in
        subst (λ u. IsFound r u (interval_in new u)) (sym e) (subst (IsFound r n) (sym read) here)
    by (inr d) =
        let small : v < length found = omega (arith, long, lt, d) in
        subst (IsFound r v) (sym (ap (λ l. interval_in l v) pushed ∙ get_or_append_left found (o ∷ []) None v small)) (before v (omega (arith, lt, d)))
