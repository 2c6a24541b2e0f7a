-- The table of facts.
use Rattle.std.proofs.Common.{◌≡◌, ⊎_elim, inl, inr, ℕ, zero, suc, ◌+◌, ◌<◌, ◌≤◌, List, length, Option, Some, None, refl, sym, ap, ◌∙◌, subst, arith, length-set}
use Rattle.std.specs.Prelude.{IfSome, option_map, replicate, slice_get, slice_index_or, slice_set}
use Rattle.std.proofs.lemmas.Bool.{cases_eq, cases_lt}
use Rattle.std.proofs.lemmas.Option.{slice_get-get_or, slice_get-map, slice_get_within}
use Rattle.low_ir.specs.Code.{Instr, Note}
use Rattle.pass_common_subexpressions_law.specs.Facts.{Fact, Keeps, Knows, KnowsNothing}
use Rattle.pass_common_subexpressions_law.proofs.Effects.{get-set_other, get-set_same, some_same}
use Rattle.pass_common_subexpressions.specs.declared.facts.Fact.{Fact as Fact'}
use Rattle.pass_common_subexpressions.specs.Making.{AreKept, IsAdded, fact_of, known_of}

abbrev Slots : Type 0
Slots = List (Option Fact')

-- a fact as the code has it, at a place
record Placed (facts : Slots) (n : ℕ) (f : Fact) : Type 0 where
  fact : Fact'
  there : slice_get facts n ≡ Some (Some fact)
  is : fact_of fact ≡ f

placed : (facts : Slots) (n : ℕ) (f : Fact) → slice_get (known_of facts) n ≡ Some (Some f) → Placed facts n f
placed facts n f e = by_slot (slice_get facts n) refl (sym (slice_get-map (option_map fact_of) facts n) ∙ e)
  where
    by_slot : (o : Option (Option Fact')) → slice_get facts n ≡ o → option_map (option_map fact_of) o ≡ Some (Some f) → Placed facts n f
    by_slot None q k = cc
    by_slot (Some None) q k = cc
    by_slot (Some (Some fact)) q k = record { fact = fact; there = q; is = some_same (fact_of fact) f (some_same (Some (fact_of fact)) (Some f) k) }

pub knows_placed : (facts : Slots) (n : ℕ) (fact : Fact') → slice_get facts n ≡ Some (Some fact) → Knows (known_of facts) (fact_of fact)
knows_placed facts n fact e = (n, slice_get-map (option_map fact_of) facts n ∙ ap (option_map (option_map fact_of)) e)

none_there : (n k : ℕ) (fact : Fact') → slice_get (replicate n None) k ≡ Some (Some fact) → ⊥
none_there zero k fact e = cc
none_there (suc n) zero fact e = cc
none_there (suc n) (suc k) fact e = none_there n k fact e

-- nothing is known at first
pub nothing_known : (facts : Slots) (n : ℕ) → facts ≡ replicate n None → KnowsNothing (known_of facts)
nothing_known facts n e f knows =
    let p = placed facts knows.0 f knows.1 in
    none_there n knows.0 p.fact (ap (λ xs. slice_get xs knows.0) (sym e) ∙ p.there)

-- facts before an instruction, and those of them that are known behind it, once the places below one were tried
pub record Forgets (claims : List (List ℕ)) (i : Instr ℕ Note) (before now : Slots) (at : ℕ) : Type 0 where
  pub long : length now ≡ length before
  pub kept : (n : ℕ) (fact : Fact') → slice_get now n ≡ Some (Some fact) → slice_get before n ≡ Some (Some fact)
  pub left : (n : ℕ) (fact : Fact') → n < at → slice_get now n ≡ Some (Some fact) → Keeps claims i (fact_of fact)

module _ (claims : List (List ℕ)) (i : Instr ℕ Note) where
  pub forgets_none : (facts : Slots) → Forgets claims i facts facts 0
  forgets_none facts = record { long = refl; kept = λ n fact e. e; left = λ n fact lt e. absurd (none_below n lt) }
    where
      none_below : (n : ℕ) → n < 0 → ⊥
      none_below n lt = omega arith

  pub forgets_next : (before now later : Slots) (at : ℕ) (slot new : Option Fact') → at < length now → slot ≡ slice_index_or now at slot → IfSome new (λ f. (slot ≡ Some f) × Keeps claims i (fact_of f)) → later ≡ slice_set now at new → Forgets claims i before now at → Forgets claims i before later (at + 1)
  forgets_next before now later at slot new lt is h set f =
      subst (λ l. Forgets claims i before l (at + 1)) (sym set)
      (record {
        long = length-set now at new ∙ f.long;
        kept = λ n fact e. ⊎_elim (λ (same : n ≡ at). f.kept n fact (at_place n fact same e).0) (λ (other : n ≡ at → ⊥). f.kept n fact (sym (get-set_other now at n new other) ∙ e)) (cases_eq n at);
        left = λ n fact below e.
            ⊎_elim (λ (same : n ≡ at). (at_place n fact same e).1) (λ (other : n ≡ at → ⊥). f.left n fact (less n below other) (sym (get-set_other now at n new other) ∙ e)) (cases_eq n at);
      })
    where
      less : (n : ℕ) → n < at + 1 → (n ≡ at → ⊥) → n < at
      less n below other = ⊎_elim (λ (lt : n < at). lt) (λ (le : at ≤ n). let e : n ≡ at = omega arith in absurd (other e)) (cases_lt n at)

      at_place : (n : ℕ) (fact : Fact') → n ≡ at → slice_get (slice_set now at new) n ≡ Some (Some fact) → (slice_get now n ≡ Some (Some fact)) × Keeps claims i (fact_of fact)
      at_place n fact same e =
          let put : slice_get (slice_set now at new) n ≡ Some new = ap (slice_get (slice_set now at new)) same ∙ get-set_same now at new lt in
          let new_is : new ≡ Some fact = some_same new (Some fact) (sym put ∙ e) in
          let k : (slot ≡ Some fact) × Keeps claims i (fact_of fact) = subst (λ o. IfSome o (λ f. (slot ≡ Some f) × Keeps claims i (fact_of f))) new_is h in
          (ap (slice_get now) same ∙ slice_get-get_or now at slot lt ∙ ap Some (sym is ∙ k.0), k.1)

  pub forgets_all : (before now : Slots) (at : ℕ) → length now ≤ at → Forgets claims i before now at → AreKept claims i (known_of before) (known_of now)
  forgets_all before now at all f fact knows =
      let p = placed now knows.0 fact knows.1 in
      let within = slice_get_within now knows.0 (Some p.fact) p.there in
      (subst (Knows (known_of before)) p.is (knows_placed before knows.0 p.fact (f.kept knows.0 p.fact p.there)), subst (Keeps claims i) p.is (f.left knows.0 p.fact (omega arith) p.there))

-- a fact more
pub added : (facts now : Slots) (at : ℕ) (fact : Fact') → now ≡ slice_set facts at (Some fact) → IsAdded (fact_of fact) (known_of facts) (known_of now)
added facts now at fact set f knows =
    let p = placed now knows.0 f knows.1 in
    let there : slice_get (slice_set facts at (Some fact)) knows.0 ≡ Some (Some p.fact) = ap (λ xs. slice_get xs knows.0) (sym set) ∙ p.there in
    ⊎_elim
    (λ (same : knows.0 ≡ at).
    let within : knows.0 < length (slice_set facts at (Some fact)) = slice_get_within (slice_set facts at (Some fact)) knows.0 (Some p.fact) there in
    let long = length-set facts at (Some fact) in
    let put : slice_get (slice_set facts at (Some fact)) knows.0 ≡ Some (Some fact) = ap (slice_get (slice_set facts at (Some fact))) same ∙ get-set_same facts at (Some fact) (omega arith) in
    let is : fact ≡ p.fact = some_same fact p.fact (some_same (Some fact) (Some p.fact) (sym put ∙ there)) in
    inr (sym p.is ∙ ap fact_of (sym is)))
    (λ (other : knows.0 ≡ at → ⊥). inl (subst (Knows (known_of facts)) p.is (knows_placed facts knows.0 p.fact (sym (get-set_other facts at knows.0 (Some fact) other) ∙ there))))
    (cases_eq knows.0 at)
