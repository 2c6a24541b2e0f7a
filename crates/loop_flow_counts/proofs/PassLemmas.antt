-- What is left of a pass, and of counts that are added up.
use Rattle.std.proofs.Common.{◌≡◌, ◌≢◌, ℕ, suc, ◌+◌, ◌*◌, ◌%◌, ◌<◌, ◌≤◌, ◌^◌, arith, refl, sym, ap, ◌∙◌, List, [], ◌∷◌, ◌++◌, length, take, drop, get_or, inl, inr, Bool, true, append_assoc, append-nil}
use Rattle.std.specs.Prelude.{slice_set}
use Rattle.std.proofs.Math.Seq.{drop-cons}
use Rattle.std.proofs.Math.Nat.{mod-eq_of_lt}
use Rattle.std.proofs.lemmas.Nat.{mul-mod_second}
use Rattle.std.proofs.lemmas.List.{drop_all, length-drop, take-append-drop}
use Rattle.std.proofs.lemmas.Bool.Decides.{eqb_tells}
use Rattle.loop_walks.specs.declared.step.Step.{Step}
use Rattle.loop_flows.specs.Passes.{amount_at, made, handed, spread}
use Rattle.loop_flows.specs.Flows.{together}
use Rattle.loop_flows.proofs.SpreadLemmas.{set_at, set_other}
use Rattle.loop_flow_counts.specs.Wraps.{wrapped, all_wrapped, SameCounts}
use Rattle.loop_walks.specs.Rows.{Each}
use Rattle.loop_flow_counts.specs.Made.{total, NotChosen}
use Rattle.loop_flow_counts.proofs.WrapLemmas.{sum_same, set_same, cons_same, append_same, twice}
use Rattle.loop_flow_counts.proofs.SpreadLemmas.{spread_same, skipped, none_made, put_same}

next : (i : ℕ) → suc i ≡ i + 1
next i = omega arith

cut : (ms : List Step) (k : ℕ) (d : Step) → k < length ms → drop k ms ≡ get_or ms k d ∷ drop (k + 1) ms
cut ms k d lt = drop-cons ms k d lt ∙ ap (λ j. get_or ms k d ∷ drop j ms) (next k)

-- a step is made, if what is added fits or not
pub handed_by : (us vs ws : List ℕ) (m : Step) (all : ℕ) → m.at < m.on → vs ≡ slice_set us m.at 0 → all ≡ amount_at us m.at → ws ≡ slice_set vs m.on (wrapped (amount_at vs m.on + all)) → SameCounts ws (handed true us m)
handed_by us vs ws m all h e f g =
    let on : amount_at vs m.on ≡ amount_at us m.on = ap (λ xs. amount_at xs m.on) e ∙ set_other us m.at m.on 0 (λ q. absurd (omega (arith, q, h))) in
    ap all_wrapped g ∙ set_same vs (slice_set us m.at 0) m.on (wrapped (amount_at vs m.on + all)) (amount_at us m.on + amount_at us m.at) (ap all_wrapped e)
    (twice (amount_at vs m.on + all) ∙ (ap (λ x. wrapped (x + all)) on ∙ ap (λ x. wrapped (amount_at us m.on + x)) f))

-- the pass to the ends
module _ (chosen : Step → Bool) (ms : List Step) (out us : List ℕ) (k : ℕ) (whole : List ℕ) where
  pub pass_next : (d : Step) → k < length ms → SameCounts (out ++ spread chosen us (drop k ms)) whole → (out' us' : List ℕ) (t : Bool) (x : ℕ) → t ≡ chosen (get_or ms k d) → SameCounts us' (handed t us (get_or ms k d)) → x ≡ made t us (get_or ms k d) → out' ≡ out ++ x ∷ [] →
      SameCounts (out' ++ spread chosen us' (drop (k + 1) ms)) whole
  pass_next d lt h out' us' t x is hands makes adds =
      let m = get_or ms k d in
      let rest = drop (k + 1) ms in
      ap all_wrapped (ap (λ xs. xs ++ spread chosen us' rest) adds ∙ append_assoc out (x ∷ []) (spread chosen us' rest))
      ∙ (append_same out out (x ∷ spread chosen us' rest) (made (chosen m) us m ∷ spread chosen (handed (chosen m) us m) rest) refl
      (cons_same x (made (chosen m) us m) (spread chosen us' rest) (spread chosen (handed (chosen m) us m) rest) (ap wrapped (makes ∙ ap (λ u. made u us m) is))
      (spread_same chosen us' (handed (chosen m) us m) rest (hands ∙ ap (λ u. all_wrapped (handed u us m)) is)))
      ∙ (sym (ap (λ ks. all_wrapped (out ++ spread chosen us ks)) (cut ms k d lt)) ∙ h))

  pub pass_end : length ms ≤ k → SameCounts (out ++ spread chosen us (drop k ms)) whole → SameCounts out whole
  pass_end le h = sym (ap all_wrapped (ap (λ ks. out ++ spread chosen us ks) (drop_all k ms le) ∙ append-nil out)) ∙ h

-- the pass of a loop's turns adds to counts
module _ (chosen : Step → Bool) (ms : List Step) (counts us : List ℕ) (k : ℕ) (whole : List ℕ) where
  pub turn_next : (d : Step) → k < length ms → length counts ≡ length ms → SameCounts (take k counts ++ together (drop k counts) (spread chosen us (drop k ms))) whole → (counts' us' : List ℕ) (t : Bool) (x : ℕ) → t ≡ chosen (get_or ms k d) → SameCounts us' (handed t us (get_or ms k d)) → x ≡ made t us (get_or ms k d) →
      counts' ≡ slice_set counts k (wrapped (amount_at counts k + x)) → SameCounts (take (k + 1) counts' ++ together (drop (k + 1) counts') (spread chosen us' (drop (k + 1) ms))) whole
  turn_next d lt long h counts' us' t x is hands makes adds =
      let m = get_or ms k d in
      let rest = drop (k + 1) ms in
      let y = wrapped (amount_at counts k + x) in
      ap (λ cs. all_wrapped (take (k + 1) cs ++ together (drop (k + 1) cs) (spread chosen us' rest))) adds
      ∙ (sym (ap (λ j. all_wrapped (take j (slice_set counts k y) ++ together (drop j (slice_set counts k y)) (spread chosen us' rest))) (next k))
      ∙ (put_same counts k y (made (chosen m) us m) (spread chosen (handed (chosen m) us m) rest) (spread chosen us' rest) (omega (arith, lt, long))
      (twice (amount_at counts k + x) ∙ ap (λ z. wrapped (amount_at counts k + z)) (makes ∙ ap (λ u. made u us m) is))
      (spread_same chosen us' (handed (chosen m) us m) rest (hands ∙ ap (λ u. all_wrapped (handed u us m)) is))
      ∙ (sym (ap (λ ks. all_wrapped (take k counts ++ together (drop k counts) (spread chosen us ks))) (cut ms k d lt)) ∙ h)))

pub turn_start : (chosen : Step → Bool) (ms : List Step) (counts us : List ℕ) (k : ℕ) → length counts ≡ length ms → Each (NotChosen chosen) (take k ms) → SameCounts (take k counts ++ together (drop k counts) (spread chosen us (drop k ms))) (together counts (spread chosen us ms))
turn_start chosen ms counts us k long h = ap all_wrapped (skipped chosen us counts ms k long h)

pub turn_end : (chosen : Step → Bool) (ms : List Step) (counts us : List ℕ) (k : ℕ) (whole : List ℕ) → length counts ≡ length ms → Each (NotChosen chosen) (drop k ms) → SameCounts (take k counts ++ together (drop k counts) (spread chosen us (drop k ms))) whole → SameCounts counts whole
turn_end chosen ms counts us k whole long h is =
    let p = length-drop k counts in let q = length-drop k ms in
    sym (ap all_wrapped (ap (λ xs. take k counts ++ xs) (none_made chosen us (drop k counts) (drop k ms) (omega (arith, p, q, long)) h) ∙ take-append-drop k counts)) ∙ is

-- a sum of counts

pub total_next : (us : List ℕ) (k all all' whole : ℕ) → k < length us → wrapped (all + total (drop k us)) ≡ wrapped whole → all' ≡ wrapped (all + amount_at us k) → wrapped (all' + total (drop (k + 1) us)) ≡ wrapped whole
total_next us k all all' whole lt h e =
    let c = drop-cons us k 0 lt ∙ ap (λ j. get_or us k 0 ∷ drop j us) (next k) in
    let rest = total (drop (k + 1) us) in
    let s : (all + amount_at us k) + rest ≡ all + (amount_at us k + rest) = omega arith in
    ap (λ x. wrapped (x + rest)) e ∙ (sum_same (wrapped (all + amount_at us k)) (all + amount_at us k) rest rest (twice (all + amount_at us k)) refl ∙ (ap wrapped s ∙ (sym (ap (λ xs. wrapped (all + total xs)) c) ∙ h)))

pub total_end : (us : List ℕ) (k all whole : ℕ) → length us ≤ k → wrapped (all + total (drop k us)) ≡ wrapped whole → all < 2 ^ 128 → all ≡ wrapped whole
total_end us k all whole le h small =
    let e : all + 0 ≡ all = omega arith in
    sym (mod-eq_of_lt small) ∙ (sym (ap (λ xs. wrapped (all + total xs)) (drop_all k us le) ∙ ap wrapped e) ∙ h)

pub times_by : (number all whole : ℕ) → all ≡ wrapped whole → (number * all) % 2 ^ 128 ≡ wrapped (number * whole)
times_by number all whole e = ap (λ x. (number * x) % 2 ^ 128) e ∙ mul-mod_second number whole (2 ^ 128)

-- nothing is left

pub clear_next : (us us' : List ℕ) (from to place : ℕ) → place < length us → ((a : ℕ) → from ≤ a → a < place → amount_at us a ≡ 0) → us' ≡ slice_set us place 0 → (a : ℕ) → from ≤ a → a < place + 1 → amount_at us' a ≡ 0
clear_next us us' from to place lt h e a ge below = elim (eqb_tells a place) [
  | inl i ↦ ap (λ xs. amount_at xs a) e ∙ (ap (λ b. amount_at (slice_set us place 0) b) i.1 ∙ set_at us place 0 lt)
  | inr d ↦ let n = d.1 in ap (λ xs. amount_at xs a) e ∙ (set_other us place a 0 d.1 ∙ h a ge (below_of n))
]
  where
    below_of : a ≢ place → a < place
    below_of d = omega (arith, below, d)
