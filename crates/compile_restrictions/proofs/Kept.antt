-- Claims on restrictions are kept where no restriction is violated.
use Rattle.std.proofs.Common.{◌≡◌, ℕ, suc, ◌+◌, ◌*◌, ◌<◌, ◌≤◌, ℤ, pos, ◌+ℤ◌, ◌*ℤ◌, arith, refl, sym, ap, ap₂, ◌∙◌, subst, Bool, true, false, cond, nat_eq, nat_lt, List, [], ◌∷◌, ◌++◌, length, map, get_or, Some, None, All, inl, inr, ⊎_elim}
use Rattle.std.specs.Prelude.{slice_get, slice_index_or}
use Rattle.std.proofs.lemmas.Int.{ints}
use Rattle.std.proofs.lemmas.Bool.{cases_lt, cond-true, cond-false, le-ltb, lt-ltb}
use Rattle.std.proofs.lemmas.Bool.Decides.{eqb_tells, leb_tells}
use Rattle.std.proofs.lemmas.List.{drop-map, get_or-drop, get_or-map, get_or-take, take-map}
use Rattle.std.proofs.lemmas.List.Elements.{All-cons, All-head, All-nil, All-tail}
use Rattle.std.proofs.lemmas.Option.{none-some, slice_get-get_or}
use Rattle.c_tree.specs.declared.expression.NameId.{NameId}
use Rattle.wcc_base.specs.declared.compare.Compare.{Compare}
use Rattle.wcc_base.specs.declared.compare.Compare.TheVariants.{AtMost, AtLeast, Equal}
use Rattle.frac128.specs.Terms.{applied, int_sum_by}
use Rattle.code_flow_system.specs.declared.claims.FactClaim.{FactClaim}
use Rattle.code_flow_system.specs.Counts.{Compares, KeepsFact}
use Rattle.facts_definitions.specs.FlowFacts.{index_of}
use Rattle.facts_definitions.specs.declared.facts.Facts.{Facts}
use Rattle.facts_definitions.specs.declared.facts.Restriction.{Restriction}
use Rattle.facts_definitions.specs.declared.facts.Term.{Term}
use Rattle.flow_facts.specs.Translating.{index_in, places_of}
use Rattle.flow_facts.specs.declared.places.Places.{Places}
use Rattle.meaning_semantics.specs.Runs.{compared, count_of, first_violated, holds, sum_of}
use Rattle.promise_report.specs.Facts.{AreFactLines, IsFactLine, places_by, places_in}
use Rattle.report_text.specs.declared.entries.CopyLine.{CopyLine}
use Rattle.facts_limits.specs.Limits.{AreLimited, IsCountedTerm, IsLimited}
use Rattle.compile_restrictions.specs.Told.{AreFactsTold}
use Rattle.compile_restrictions.proofs.Totals.{left_total, right_total, term_total}

-- where names stand in lists of names

same_turned : (a b : ℕ) → nat_eq a b ≡ nat_eq b a
same_turned a b = grind arith

-- the meaning and the report look a name up alike
index_same : (id : ℕ) (xs : List NameId) → index_of id (map (λ n. n.0) xs) ≡ index_in xs id
index_same id [] = refl
index_same id (x ∷ xs) = ap₂ (λ b k. cond b 0 (k + 1)) (same_turned id x.0) (index_same id xs)

index_front : (xs ys : List NameId) (id : ℕ) → index_in xs id < length xs → index_in (xs ++ ys) id ≡ index_in xs id
index_front [] ys id lt = absurd (omega arith)
index_front (x ∷ xs) ys id lt = by_test (nat_eq x.0 id) (index_front xs ys id) lt
  where
    by_test : (b : Bool) → (index_in xs id < length xs → index_in (xs ++ ys) id ≡ index_in xs id) → cond b 0 (index_in xs id + 1) < suc (length xs) → cond b 0 (index_in (xs ++ ys) id + 1) ≡ cond b 0 (index_in xs id + 1)
    by_test true rest lt = refl
    by_test false rest lt = ap (λ k. k + 1) (rest (omega (arith, lt)))

index_behind : (xs ys : List NameId) (id : ℕ) → length xs ≤ index_in xs id → index_in (xs ++ ys) id ≡ length xs + index_in ys id
index_behind [] ys id le = omega arith
index_behind (x ∷ xs) ys id le = by_test (nat_eq x.0 id) (index_behind xs ys id) le
  where
    by_test : (b : Bool) → (length xs ≤ index_in xs id → index_in (xs ++ ys) id ≡ length xs + index_in ys id) → suc (length xs) ≤ cond b 0 (index_in xs id + 1) → cond b 0 (index_in (xs ++ ys) id + 1) ≡ suc (length xs) + index_in ys id
    by_test true rest le = absurd (omega (arith, le))
    by_test false rest le = let r = rest (omega (arith, le)) in omega (arith, r)

-- comparisons of counts are those of sums

compares : (op : Compare) (x y : ℕ) → compared op x y ≡ true → Compares op (pos x) (pos y)
compares AtMost x y h = elim (leb_tells x y) [
  | inl e ↦ let le = e.1 in omega (arith, ints, le)
  | inr e ↦ absurd (let no = e.0 in cc)
]
compares AtLeast x y h = elim (leb_tells y x) [
  | inl e ↦ let le = e.1 in omega (arith, ints, le)
  | inr e ↦ absurd (let no = e.0 in cc)
]
compares Equal x y h = elim (eqb_tells x y) [
  | inl e ↦ ap pos e.1
  | inr e ↦ absurd (let no = e.0 in cc)
]

module _ (facts : Facts) (lines : List CopyLine) (n : ℕ → ℤ) (counts : List ℕ) (many : length lines ≡ length (facts.functions ++ facts.markers)) (each : (k : ℕ) (c : CopyLine) → slice_get lines k ≡ Some c → int_sum_by n c.places ≡ pos (slice_index_or counts k 0)) where
  abbrev places : Places
  places = places_by facts lines

  abbrev names : List NameId
  names = facts.functions ++ facts.markers

  abbrev split : ℕ
  split = length facts.functions

  abbrev own : CopyLine → List ℕ
  own c = c.places

  -- the addresses of a line come to a count
  line_total : (k : ℕ) → k < length lines → int_sum_by n (get_or (places_in lines) k []) ≡ pos (slice_index_or counts k 0)
  line_total k lt =
      let no : CopyLine = record { name = []; places = [] } in
      ap (int_sum_by n) (get_or-map own lines k no [] lt) ∙ each k (get_or lines k no) (slice_get-get_or lines k no lt)

  front : (k : ℕ) → k < split → get_or places.of_functions k [] ≡ get_or (places_in lines) k []
  front k lt = ap (λ xs. get_or xs k []) (sym (take-map own split lines)) ∙ get_or-take split (places_in lines) k [] lt

  behind : (k : ℕ) → get_or places.of_markers k [] ≡ get_or (places_in lines) (split + k) []
  behind k = ap (λ xs. get_or xs k []) (sym (drop-map own split lines)) ∙ get_or-drop split (places_in lines) k []

  abbrev first : ℕ → ℕ
  first id = index_in facts.functions id

  abbrev second : ℕ → ℕ
  second id = index_in facts.markers id

  -- the addresses of a name are those of the line at its place
  by_line : (id : ℕ) → places_of facts places id ≡ get_or (places_in lines) (index_in names id) []
  by_line id = ⊎_elim
      (λ (lt : first id < split).
      cond-true (nat_lt (first id) split) (get_or places.of_functions (first id) []) (get_or places.of_markers (second id) []) (lt-ltb (first id) split lt)
      ∙ front (first id) lt
      ∙ ap (λ k. get_or (places_in lines) k []) (sym (index_front facts.functions facts.markers id lt)))
      (λ (le : split ≤ first id).
      cond-false (nat_lt (first id) split) (get_or places.of_functions (first id) []) (get_or places.of_markers (second id) []) (le-ltb (first id) split le)
      ∙ behind (second id)
      ∙ ap (λ k. get_or (places_in lines) k []) (sym (index_behind facts.functions facts.markers id le)))
      (cases_lt (first id) split)

  name_total : (id : ℕ) → index_in names id < length names → int_sum_by n (places_of facts places id) ≡ pos (count_of names counts id)
  name_total id lt =
      ap (int_sum_by n) (by_line id) ∙ line_total (index_in names id) (subst (λ k. index_in names id < k) (sym many) lt)
      ∙ ap (λ k. pos (slice_index_or counts k 0)) (sym (index_same id names))

  -- a side comes to the sum of the source
  side_total : (ts : List Term) → All (IsCountedTerm facts) ts → int_sum_by (term_total facts places n) ts ≡ pos (sum_of names counts ts)
  side_total [] all = refl
  side_total (t ∷ ts) all = ap₂ (λ x y. (pos t.coef *ℤ x) +ℤ y) (name_total t.name.0 (All-head (IsCountedTerm facts) t ts all).counted) (side_total ts (All-tail (IsCountedTerm facts) t ts all))

  one_kept : (r : Restriction) (c : FactClaim) → IsLimited facts r → IsFactLine facts places r c → holds names counts r ≡ true → KeepsFact n c
  one_kept r c limited h true_is =
      let x : applied c.left n ≡ pos (sum_of names counts r.left) = left_total facts places n r c h ∙ side_total r.left limited.left in
      let y : applied c.right n ≡ pos (sum_of names counts r.right) = right_total facts places n r c h ∙ side_total r.right limited.right in
      let e = compares r.op (sum_of names counts r.left) (sum_of names counts r.right) true_is in
      subst (λ op. Compares op (applied c.left n) (applied c.right n)) (sym h.op)
      (subst (λ z. Compares r.op z (applied c.right n)) (sym x) (subst (λ z. Compares r.op (pos (sum_of names counts r.left)) z) (sym y) e))

  all_kept : (rs : List Restriction) (cs : List FactClaim) → All (IsLimited facts) rs → AreFactLines facts places rs cs → first_violated names counts rs ≡ None → All (KeepsFact n) cs
  all_kept [] [] limited h none = All-nil (KeepsFact n)
  all_kept [] (c ∷ cs) limited h none = absurd h
  all_kept (r ∷ rs) [] limited h none = absurd h
  all_kept (r ∷ rs) (c ∷ cs) limited h none = by_test (holds names counts r) refl (all_kept rs cs (All-tail (IsLimited facts) r rs limited) h.1) none
    where
      by_test : (b : Bool) → holds names counts r ≡ b → (first_violated names counts rs ≡ None → All (KeepsFact n) cs) → cond b (first_violated names counts rs) (Some r.at) ≡ None → All (KeepsFact n) (c ∷ cs)
      by_test true e rest none = All-cons (KeepsFact n) c cs (one_kept r c (All-head (IsLimited facts) r rs limited) h.0 e) (rest none)
      by_test false e rest none = absurd (none-some r.at (sym none))

  pub told_kept : (claims : List FactClaim) → AreLimited facts → AreFactsTold facts lines claims → first_violated names counts facts.restrictions ≡ None → All (KeepsFact n) claims
  told_kept claims limited told none = all_kept facts.restrictions claims limited.each told.each none
