-- Facts that follow from others.
use Rattle.std.proofs.Common.{◌≡◌, ◌<◌, ◌≤◌, ℕ, ◌+◌, true, List, [], ◌∷◌, drop, length, zero, suc, Some, None, refl, sym, ap, subst, arith}
use Rattle.std.specs.Prelude.{slice_get, slice_index_or}
use Rattle.std.proofs.lemmas.List.{drop_all, drop_more}
use Rattle.low_ir.specs.Runs.{Bank}
use Rattle.pass_dataflow_facts.specs.declared.facts.Fact.{Fact}
use Rattle.pass_dataflow_facts.specs.declared.proposals.Change.{Change}
use Rattle.pass_dataflow_facts.specs.Facts.{all_true, is_true}
use Rattle.pass_dataflow_transfer.proofs.Facts.{both_true}
use Rattle.pass_strength_reduction.specs.Scenes.{facts_at, facts_of}

-- one more
pub all_more : (s : Bank) (fs : List Fact) (i : ℕ) (d : Fact) → i < length fs → is_true s (slice_index_or fs i d) ≡ true → all_true (drop (i + 1) fs) s ≡ true → all_true (drop i fs) s ≡ true
all_more s fs i d lt is rest = subst (λ xs. all_true xs s ≡ true) (sym (drop_more fs i d lt)) (both_true _ _ is rest)

pub none_left : (s : Bank) (fs : List Fact) (i : ℕ) → length fs ≤ i → all_true (drop i fs) s ≡ true
none_left s fs i all = subst (λ xs. all_true xs s ≡ true) (sym (drop_all i fs all)) refl

-- what is to be known as a block begins
pub facts_there : (changes : List Change) (n : ℕ) (c : Change) → slice_get changes n ≡ Some c → facts_at changes n ≡ c.facts.items
facts_there changes n c e = ap facts_of e

pub past_none : {X : Type 0} (xs : List X) (n : ℕ) → length xs ≤ n → slice_get xs n ≡ None
past_none [] n le = refl
past_none (x ∷ xs) zero le = absurd (none le)
  where
    none : suc (length xs) ≤ 0 → ⊥
    none h = omega arith
past_none (x ∷ xs) (suc n) le = past_none xs n (less le)
  where
    less : suc (length xs) ≤ suc n → length xs ≤ n
    less h = omega arith

pub facts_past : (changes : List Change) (n : ℕ) → length changes ≤ n → facts_at changes n ≡ []
facts_past changes n le = ap facts_of (past_none changes n le)

-- a list of no elements
pub none_in : {X : Type 0} (xs : List X) → length xs ≤ 0 → xs ≡ []
none_in [] le = refl
none_in (x ∷ xs) le = absurd (none le)
  where
    none : suc (length xs) ≤ 0 → ⊥
    none h = omega arith
