-- What stands as a block begins, and where it leads.
use Rattle.std.proofs.Common.{◌≡◌, ◌≢◌, ◌<◌, ℕ, zero, suc, Bool, true, false, List, [], ◌∷◌, length, Some, None, refl, sym, ap, ◌∙◌, subst, ⊎_elim, arith}
use Rattle.std.specs.Prelude.{All, ◌==◌, if◌then◌else◌, slice_index_or}
use Rattle.std.proofs.lemmas.Bool.{cases_eq, eq-eqb, eqb-true}
use Rattle.std.proofs.lemmas.List.Elements.{All-head, All-tail}
use Rattle.low_ir.specs.Code.{End}
use Rattle.low_ir.specs.Effects.{is_member}
use Rattle.low_ir.specs.Formed.{LeadsOn}
use Rattle.pass_copy_propagation_law.specs.Copies.{Fewer}
use Rattle.pass_copy_propagation.specs.Knowing.{IsKnown, Knowing, copied, counted, counted_by, lasts, opened, stands}
use Rattle.pass_copy_propagation.specs.Making.{Begins, IsReady}
use Rattle.pass_copy_propagation.proofs.Standing.{known_copied, known_opened, lasts_stands, opened_lasts, others_copied, own_copied}

-- what a list has at a place is one of it
pub listed : (xs : List ℕ) (i d : ℕ) → i < length xs → is_member xs (slice_index_or xs i d) ≡ true
listed [] i d h = absurd (omega arith)
listed (x ∷ xs) zero d h = ap (λ b. if b then true else is_member xs x) (eq-eqb x x refl)
listed (x ∷ xs) (suc i) d h = later (x == slice_index_or xs i d) (is_member xs (slice_index_or xs i d)) (listed xs i d (omega arith))
  where
    later : (b c : Bool) → c ≡ true → (if b then true else c) ≡ true
    later true c e = refl
    later false c e = e

-- what holds of each register of a list holds of one
all_listed : (P : ℕ → Type 0) (xs : List ℕ) (r : ℕ) → All P xs → is_member xs r ≡ true → P r
all_listed P [] r all e = cc
all_listed P (x ∷ xs) r all e = by_test (all_listed P xs r (All-tail P x xs all)) (x == r) refl e
  where
    by_test : (is_member xs r ≡ true → P r) → (b : Bool) → (x == r) ≡ b → (if b then true else is_member xs r) ≡ true → P r
    by_test rest true t q = subst P (eqb-true x r t) (All-head P x xs all)
    by_test rest false t q = rest q

lasts_counted : (lasting : List Bool) (list : List ℕ) (v w : ℕ) → lasts lasting v ≡ Some w → counted lasting list v ≡ Some w
lasts_counted lasting list v w e = by_test (slice_index_or lasting v false) e
  where
    by_test : (b : Bool) → (if b then Some v else None) ≡ Some w → (if b then Some v else (if is_member list v then Some v else None)) ≡ Some w
    by_test true q = q
    by_test false q = cc

listed_counted : (lasting : List Bool) (list : List ℕ) (r : ℕ) → is_member list r ≡ true → counted lasting list r ≡ Some r
listed_counted lasting list r e = by_test (slice_index_or lasting r false)
  where
    by_test : (b : Bool) → (if b then Some r else (if is_member list r then Some r else None)) ≡ Some r
    by_test true = refl
    by_test false = ap (λ b. if b then Some r else None) e

-- what a block counts on stands in its own place
pub counted_own : (lasting : List Bool) (list : List ℕ) (v w : ℕ) → counted lasting list v ≡ Some w → w ≡ v
counted_own lasting list v w e = by_test (slice_index_or lasting v false) (is_member list v) e
  where
    by_test : (a b : Bool) → (if a then Some v else (if b then Some v else None)) ≡ Some w → w ≡ v
    by_test true b q = cc
    by_test false true q = cc
    by_test false false q = cc

-- a block begins
pub begins_opened : (list : List ℕ) (k : Knowing) → Begins list k (opened k)
begins_opened list k = record { by = λ size lasting known. (known_opened size lasting k known, λ v w q. lasts_counted lasting list v w (opened_lasts size lasting k known v w q)) }

-- with one register of its list more
pub begins_copied : (list : List ℕ) (k l : Knowing) (r : ℕ) → Begins list k l → is_member list r ≡ true → r < length l.places → Begins list k (copied l r r)
begins_copied list k l r h member few =
    record {
      by = λ size lasting known.
          let b = h.by size lasting known in (
            known_copied size lasting l r r b.0,
            λ v w q.
                ⊎_elim
                (λ (same : v ≡ r).
                let own = own_copied l r w few (subst (λ x. stands (copied l r r) x ≡ Some w) same q) in
                ap (counted lasting list) same ∙ listed_counted lasting list r member ∙ ap Some (sym own))
                (λ (other : v ≢ r). b.1 v w (others_copied l r r v w other q))
                (cases_eq v r),
          );
    }

-- where a block leads, what is counted on stands
pub ready_stands : (size : ℕ) (lasting : List Bool) (lists : List (List ℕ)) (k : Knowing) (end : End ℕ) → IsKnown size lasting k → IsReady lists k end → (n : ℕ) → LeadsOn end n → Fewer (stands k) (counted_by lasting lists n)
ready_stands size lasting lists k end known ready n leads v w e = by_test (slice_index_or lasting v false) (is_member (slice_index_or lists n []) v) refl refl e
  where
    by_test : (a b : Bool) → slice_index_or lasting v false ≡ a → is_member (slice_index_or lists n []) v ≡ b → (if a then Some v else (if b then Some v else None)) ≡ Some w → stands k v ≡ Some w
    by_test true b s t q = lasts_stands size lasting k known v w (ap (λ a. if a then Some v else None) s ∙ q)
    by_test false true s t q = all_listed (λ r. stands k r ≡ Some r) (slice_index_or lists n []) v (ready.by n leads) t ∙ q
    by_test false false s t q = cc
