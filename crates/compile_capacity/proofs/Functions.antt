-- The functions of a low program come from functions that differ, so that sums over them are no greater.
use Rattle.std.proofs.Common.{◌≡◌, ℕ, suc, ◌+◌, ◌*◌, ◌≤◌, Bool, true, false, List, [], ◌∷◌, length, map, Option, Some, None, refl, sym, ap, ◌∙◌, subst, arith}
use Rattle.std.specs.Prelude.{◌==◌, if◌then◌else◌, slice_get, slice_index_or, sum_by}
use Rattle.std.proofs.lemmas.List.{get_or-map}
use Rattle.std.proofs.lemmas.List.Sums.{sum_by-cons}
use Rattle.std.proofs.lemmas.Option.{get_or_from_slice_get, slice_get_within}
use Rattle.high_ir.specs.Size.{frame_bytes, operations}
use Rattle.high_ir.specs.Tree as high
use Rattle.low_ir.specs.Code.{Function, Low, Note}
use Rattle.low_ir.specs.Effects.{is_member}
use Rattle.low_ir.specs.Formed.{mark_of, opening}
use Rattle.low_ir.specs.Places.{Assignment, place_functions}
use Rattle.low_ir.specs.Runs.{block_in}
use Rattle.low_ir.specs.Turns.{mark_in}
use Rattle.lower_origins.proofs.Members.{same_test}
use Rattle.lower_budget.proofs.Distinct.{Distinct}
use Rattle.lower_budget.proofs.Programs.{distinct_less, total, total_at}
use Rattle.lower_law.specs.Functions.{ComesFrom}
use Rattle.lower_law.specs.Programs.{KeepsProgram}
use Rattle.image_definition.specs.Sizes.{frames_room}

-- the number that the opening mark of a function is
abbrev number_in : Option ℕ → ℕ
number_in None = 0
number_in (Some m) = m

abbrev origin : Function ℕ Note → ℕ
origin fn = number_in (opening fn)

record Found (fns : List (Function ℕ Note)) (m : ℕ) : Type 0 where
  place : ℕ
  function : Function ℕ Note
  there : slice_get fns place ≡ Some function
  same : origin function ≡ m

found : (fns : List (Function ℕ Note)) (m : ℕ) → is_member (map origin fns) m ≡ true → Found fns m
found [] m e = cc
found (fn ∷ rest) m e = by_test (origin fn == m) refl e (λ k. found rest m k)
  where
    by_test : (b : Bool) → (origin fn == m) ≡ b → (if b then true else is_member (map origin rest) m) ≡ true → (is_member (map origin rest) m ≡ true → Found rest m) → Found (fn ∷ rest) m
    by_test true t e go = record { place = 0; function = fn; there = refl; same = same_test (origin fn) m t }
    by_test false t e go = let f = go e in record { place = suc f.place; function = f.function; there = f.there; same = f.same }

-- where no two functions come from the same
distinct_origins : (fns : List (Function ℕ Note)) → ((i j : ℕ) (f g : Function ℕ Note) → slice_get fns i ≡ Some f → slice_get fns j ≡ Some g → origin g ≡ origin f → j ≡ i) → Distinct (map origin fns)
distinct_origins [] h = tt
distinct_origins (fn ∷ rest) h = (
  no_member (is_member (map origin rest) (origin fn)) (λ m. let f = found rest (origin fn) m in later f.place (h 0 (suc f.place) fn f.function refl f.there f.same)),
  distinct_origins rest (λ i j f g e k same. before i j (h (suc i) (suc j) f g e k same)),
)
  where
    no_member : (b : Bool) → (b ≡ true → ⊥) → b ≡ false
    no_member true h = absurd (h refl)
    no_member false h = refl

    later : (n : ℕ) → suc n ≡ 0 → ⊥
    later n e = omega (arith, e)

    before : (i j : ℕ) → suc j ≡ suc i → j ≡ i
    before i j e = omega (arith, e)

-- what a function of the high form is worth: its frame, and its temporaries
abbrev pub measure : high.Function → ℕ
measure h = frame_bytes h + 8 * operations h.body

abbrev single : high.Function → ℕ
single h = 1

total_ones : (fs : List high.Function) → total (map single fs) ≡ length fs
total_ones [] = refl
total_ones (h ∷ fs) = let rest = total_ones fs in omega (arith, rest)

total_measures : (fs : List high.Function) → total (map measure fs) ≤ sum_by frame_bytes fs + 8 * sum_by (λ (f : high.Function). operations f.body + 1) fs
total_measures [] = omega arith
total_measures (h ∷ fs) =
    let rest = total_measures fs in
    let frames = sum_by-cons frame_bytes h fs in
    let all = sum_by-cons (λ (f : high.Function). operations f.body + 1) h fs in
    omega (arith, rest, frames, all)

module _ (p : high.Program) (q : Low) (keeps : KeepsProgram p q) where
  -- an opening mark stands nowhere else
  alone : (i j : ℕ) (f g : Function ℕ Note) → slice_get q.functions i ≡ Some f → slice_get q.functions j ≡ Some g → origin g ≡ origin f → j ≡ i
  alone i j f g e k same =
      let from = keeps.functions i f e in
      let other = keeps.functions j g k in
      let number : other.number ≡ from.number = sym (ap number_in other.opens) ∙ (same ∙ ap number_in from.opens) in
      let there : mark_of q j 0 ≡ Some from.number = ap (λ fn. mark_in (block_in fn 0)) k ∙ (other.opens ∙ ap (λ n. Some n) number) in
      ((keeps.is_low.functions i f e).alone from.number j 0 from.opens there).0

  distinct : Distinct (map origin q.functions)
  distinct = distinct_origins q.functions alone

  -- what is counted of the function that one comes from
  worth : (own : high.Function → ℕ) (fn : Function ℕ Note) → (from : ComesFrom p q fn) → slice_index_or (map own p.functions) (origin fn) 0 ≡ own from.function
  worth own fn from =
      let inside = slice_get_within p.functions from.number from.function from.there in
      ap (λ n. slice_index_or (map own p.functions) n 0) (ap number_in from.opens)
      ∙ (get_or-map own p.functions from.number from.function 0 inside ∙ ap own (get_or_from_slice_get p.functions from.number from.function from.function from.there))

  counted : (fns : List (Function ℕ Note)) → ((i : ℕ) (fn : Function ℕ Note) → slice_get fns i ≡ Some fn → ComesFrom p q fn) → length fns ≡ total_at (map single p.functions) (map origin fns)
  counted [] come = refl
  counted (fn ∷ rest) come =
      let one = worth single fn (come 0 fn refl) in
      let behind = counted rest (λ i f e. come (suc i) f e) in
      omega (arith, one, behind)

  pub functions_few : length q.functions ≤ length p.functions
  functions_few =
      let all = counted q.functions keeps.functions in
      let less = distinct_less (map single p.functions) (map origin q.functions) distinct in
      let ones = total_ones p.functions in
      omega (arith, all, less, ones)

  frames : (a : Assignment) (k : ℕ) (fns : List (Function ℕ Note)) → ((i : ℕ) (fn : Function ℕ Note) → slice_get fns i ≡ Some fn → ComesFrom p q fn) → ((i : ℕ) (fn : Function ℕ Note) → slice_get fns i ≡ Some fn → a.slots (k + i) ≤ fn.size) →
      frames_room (place_functions a k fns) ≤ 1220 * length fns + total_at (map measure p.functions) (map origin fns)
  frames a k [] come few = omega arith
  frames a k (fn ∷ rest) come few =
      let from = come 0 fn refl in
      let own = worth measure fn from in
      let registers = from.registers in
      let slots = subst (λ n. a.slots n ≤ fn.size) (here k) (few 0 fn refl) in
      let behind = frames a (suc k) rest (λ i f e. come (suc i) f e) (λ i f e. subst (λ n. a.slots n ≤ f.size) (next k i) (few (suc i) f e)) in
      omega (arith, own, registers, slots, behind)
    where
      here : (k : ℕ) → k + 0 ≡ k
      here k = omega arith

      next : (k i : ℕ) → k + suc i ≡ suc k + i
      next k i = omega arith

  pub frames_few : (a : Assignment) → ((i : ℕ) (fn : Function ℕ Note) → slice_get q.functions i ≡ Some fn → a.slots i ≤ fn.size) →
      frames_room (place_functions a 0 q.functions) ≤ 1220 * length q.functions + sum_by frame_bytes p.functions + 8 * sum_by (λ (f : high.Function). operations f.body + 1) p.functions
  frames_few a few =
      let all = frames a 0 q.functions keeps.functions (λ i fn e. subst (λ n. a.slots n ≤ fn.size) (first i) (few i fn e)) in
      let less = distinct_less (map measure p.functions) (map origin q.functions) distinct in
      let sums = total_measures p.functions in
      omega (arith, all, less, sums)
    where
      first : (n : ℕ) → n ≡ 0 + n
      first n = omega arith
