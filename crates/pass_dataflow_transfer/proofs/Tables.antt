-- Facts in a table.
use Rattle.std.proofs.Common.{◌≡◌, ◌<◌, ◌≤◌, ℕ, zero, suc, true, List, [], ◌∷◌, ◌++◌, length, refl, ap, subst, arith}
use Rattle.std.specs.Prelude.{slice_index_or, slice_set}
use Rattle.std.specs.List.{AllZip}
use Rattle.low_ir.specs.Runs.{Bank}
use Rattle.pass_dataflow_facts.specs.declared.facts.Fact.{Fact}
use Rattle.pass_dataflow_facts.specs.Facts.{all_true, is_true}
use Rattle.pass_dataflow_transfer.proofs.Facts.{both_true, first_true, second_true}

-- so many facts have become others
abbrev pub Turned : (Fact → Fact → Type 0) → ℕ → List Fact → List Fact → Type 0
Turned R zero before now = now ≡ before
Turned R (suc n) [] now = now ≡ []
Turned R (suc n) (b ∷ bs) [] = ⊥
Turned R (suc n) (b ∷ bs) (c ∷ cs) = R b c × Turned R n bs cs

pub turned_long : (R : Fact → Fact → Type 0) (n : ℕ) (before now : List Fact) → Turned R n before now → length now ≡ length before
turned_long R zero before now h = ap length h
turned_long R (suc n) [] now h = ap length h
turned_long R (suc n) (b ∷ bs) [] h = absurd h
turned_long R (suc n) (b ∷ bs) (c ∷ cs) h = ap suc (turned_long R n bs cs h.1)

pub turned_more : (R : Fact → Fact → Type 0) (n : ℕ) (before now : List Fact) (old new : Fact) → n < length now → old ≡ slice_index_or now n old → R old new → Turned R n before now → Turned R (suc n) before (slice_set now n new)
turned_more R zero before [] old new lt is r h = absurd (none lt)
  where
    none : 0 < 0 → ⊥
    none h = omega arith
turned_more R zero before (c ∷ cs) old new lt is r h = subst (λ bs. Turned R 1 bs (new ∷ cs)) h (subst (λ f. R f new) is r, refl)
turned_more R (suc n) before [] old new lt is r h = absurd (none lt)
  where
    none : suc n < 0 → ⊥
    none h = omega arith
turned_more R (suc n) [] (c ∷ cs) old new lt is r h = cc
turned_more R (suc n) (b ∷ bs) (c ∷ cs) old new lt is r h = (h.0, turned_more R n bs cs old new (less lt) is r h.1)
  where
    less : suc n < suc (length cs) → n < length cs
    less h = omega arith

pub turned_all : (R : Fact → Fact → Type 0) (n : ℕ) (before now : List Fact) → length now ≤ n → Turned R n before now → AllZip R before now
turned_all R zero [] [] le h = tt
turned_all R zero [] (c ∷ cs) le h = cc
turned_all R zero (b ∷ bs) [] le h = cc
turned_all R zero (b ∷ bs) (c ∷ cs) le h = absurd (none le)
  where
    none : suc (length cs) ≤ 0 → ⊥
    none h = omega arith
turned_all R (suc n) [] [] le h = tt
turned_all R (suc n) [] (c ∷ cs) le h = cc
turned_all R (suc n) (b ∷ bs) [] le h = absurd h
turned_all R (suc n) (b ∷ bs) (c ∷ cs) le h = (h.0, turned_all R n bs cs (less le) h.1)
  where
    less : suc (length cs) ≤ suc n → length cs ≤ n
    less h = omega arith

-- facts that became others are true once these are
pub all_become : (R : Fact → Fact → Type 0) (s t : Bank) (before now : List Fact) → ((f g : Fact) → R f g → is_true s f ≡ true → is_true t g ≡ true) → AllZip R before now → all_true before s ≡ true → all_true now t ≡ true
all_become R s t [] [] become h known = refl
all_become R s t [] (c ∷ cs) become h known = absurd h
all_become R s t (b ∷ bs) [] become h known = absurd h
all_become R s t (b ∷ bs) (c ∷ cs) become h known = both_true _ _ (become b c h.0 (first_true _ (all_true bs s) known)) (all_become R s t bs cs become h.1 (second_true (is_true s b) _ known))

-- a fact in place of another
pub all_with : (s : Bank) (fs : List Fact) (at : ℕ) (f : Fact) → all_true fs s ≡ true → is_true s f ≡ true → all_true (slice_set fs at f) s ≡ true
all_with s [] at f known is = refl
all_with s (g ∷ gs) zero f known is = both_true _ _ is (second_true (is_true s g) _ known)
all_with s (g ∷ gs) (suc at) f known is = both_true _ _ (first_true _ (all_true gs s) known) (all_with s gs at f (second_true (is_true s g) _ known) is)

-- one more behind them
pub all_behind : (s : Bank) (fs : List Fact) (f : Fact) → all_true fs s ≡ true → is_true s f ≡ true → all_true (fs ++ f ∷ []) s ≡ true
all_behind s [] f known is = both_true _ _ is refl
all_behind s (g ∷ gs) f known is = both_true _ _ (first_true _ (all_true gs s) known) (all_behind s gs f (second_true (is_true s g) _ known) is)

-- one of them
pub true_at : (s : Bank) (fs : List Fact) (i : ℕ) (d : Fact) → i < length fs → all_true fs s ≡ true → is_true s (slice_index_or fs i d) ≡ true
true_at s [] i d lt known = absurd (none lt)
  where
    none : i < 0 → ⊥
    none h = omega arith
true_at s (g ∷ gs) zero d lt known = first_true _ (all_true gs s) known
true_at s (g ∷ gs) (suc i) d lt known = true_at s gs i d (less lt) (second_true (is_true s g) _ known)
  where
    less : suc i < suc (length gs) → i < length gs
    less h = omega arith

pub all_true_of : (s : Bank) (fs gs : List Fact) → fs ≡ gs → all_true fs s ≡ true → all_true gs s ≡ true
all_true_of s fs gs e known = subst (λ xs. all_true xs s ≡ true) e known
