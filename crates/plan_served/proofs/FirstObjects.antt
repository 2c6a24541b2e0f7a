-- What an initial value of file level leaves in its object.
use Rattle.std.proofs.Common.{◌≡◌, refl, ap, ◌∙◌, sym, subst, ℕ, ◌+◌, ◌-◌, ◌<◌, ◌≤◌, zero, suc, true, false, List, [], ◌∷◌, ◌++◌, length, map, replicate, take, Option, Some, None, arith, append-nil, append_assoc, add-zero, lt-ltb, ltb-true, length-append, zero-add}
use Rattle.std.specs.Prelude.{if◌then◌else◌, nat_lt, slice_get, slice_set}
use Rattle.std.proofs.Math.Seq.{take-append-add, take-append_seam}
use Rattle.std.proofs.lemmas.Bool.{false_from_ne_true}
use Rattle.std.proofs.lemmas.List.{length-map, length-replicate}
use Rattle.std.proofs.lemmas.Option.{slice_get_within}
use Rattle.facts_definitions.specs.Starts.{is_constant, word}
use Rattle.meaning_semantics.specs.State.{State, Outcome, Fine, Stopped, stored, then_do, with_objects, write, zeros, zeros_in}
use Rattle.meaning_semantics.specs.Statements.{Source, evaluated, filled, initialised, listed}
use Rattle.meaning_semantics.specs.Values.{Calls, value}
use Rattle.meaning_semantics.specs.declared.outcome.Flow.{Flow}
use Rattle.meaning_semantics.specs.declared.outcome.Flow.TheVariants.{Onward}
use Rattle.meaning_semantics.specs.declared.outcome.Stop.{Stop}
use Rattle.meaning_semantics.specs.declared.outcome.Stop.TheVariants.{Undefined as IsUndefined}
use Rattle.types_tree.specs.Tree.{Expr, Exprs, NoExpr, WithExpr, Initial, Absent, Value, Listed}
use Rattle.plan_definition.specs.Layouts.{initial_words, word_or_zero, words_of}
use Rattle.plan_served.specs.Rows.{Changes, row_of}
use Rattle.plan_served.proofs.Constants.{Gives, constant_gives}

abbrev Zero : Option ℕ
Zero = Some 0

abbrev words : List ℕ → List (Option ℕ)
words ws = map Some ws

abbrev zeros_row : ℕ → List (Option ℕ)
zeros_row m = replicate m Zero

slice_get-set_same : {A : Type 0} (xs : List A) (i : ℕ) (x : A) → i < length xs → slice_get (slice_set xs i x) i ≡ Some x
slice_get-set_same [] i x lt = absurd (omega (arith, lt))
slice_get-set_same (y ∷ ys) zero x lt = refl
slice_get-set_same (y ∷ ys) (suc i) x lt = slice_get-set_same ys i x (omega (arith, lt))

slice_get-set_other : {A : Type 0} (xs : List A) (i j : ℕ) (x : A) → (j ≡ i → ⊥) → slice_get (slice_set xs i x) j ≡ slice_get xs j
slice_get-set_other [] i j x other = refl
slice_get-set_other (y ∷ ys) zero zero x other = absurd (other refl)
slice_get-set_other (y ∷ ys) zero (suc j) x other = refl
slice_get-set_other (y ∷ ys) (suc i) zero x other = refl
slice_get-set_other (y ∷ ys) (suc i) (suc j) x other = slice_get-set_other ys i j x (λ e. other (ap suc e))

set_seam : (xs : List (Option ℕ)) (x y : Option ℕ) (ys : List (Option ℕ)) → slice_set (xs ++ x ∷ ys) (length xs) y ≡ xs ++ y ∷ ys
set_seam [] x y ys = refl
set_seam (z ∷ xs) x y ys = ap (λ l. z ∷ l) (set_seam xs x y ys)

pub changes_same : (object : ℕ) (st : State) → Changes object st st
changes_same object st = record { input = refl; output = refl; counts = refl; others = λ o other. refl }

changes_then : (object : ℕ) (a b c : State) → Changes object a b → Changes object b c → Changes object a c
changes_then object a b c g h = record { input = h.input ∙ g.input; output = h.output ∙ g.output; counts = h.counts ∙ g.counts; others = λ o other. h.others o other ∙ g.others o other }

changes_set : (object : ℕ) (row : List (Option ℕ)) (st : State) → Changes object st (with_objects st (slice_set st.objects object row))
changes_set object row st = record { input = refl; output = refl; counts = refl; others = λ o other. slice_get-set_other st.objects object o row other }

-- so many words are written before zeros
record Writes (object : ℕ) (before : State) (done : List (Option ℕ)) (m : ℕ) (given : List ℕ) (next : ℕ) (st : State) : Type 0 where
  few : length given ≤ m
  next_is : next ≡ length done + length given
  there : slice_get st.objects object ≡ Some ((done ++ words given) ++ zeros_row (m - length given))
  changes : Changes object before st

abbrev WritesIf : ℕ → State → List (Option ℕ) → ℕ → List ℕ → Outcome ℕ → Type 0
WritesIf object before done m given (Stopped stop) = Unit {0}
WritesIf object before done m given (Fine next st) = Writes object before done m given next st

-- a word is written behind others
write_seam : (object index at w m : ℕ) (done : List (Option ℕ)) (st : State) (C : Outcome ℕ → Type 0) → slice_get st.objects object ≡ Some (done ++ zeros_row m) → index ≡ length done → ((stop : Stop) → C (Stopped stop)) →
    ((k : ℕ) → m ≡ suc k → C (Fine w (with_objects st (slice_set st.objects object (done ++ Some w ∷ zeros_row k))))) → C (write (record { object = object; index = index; at = at }) w st)
write_seam object index at w zero done st C there is stops go =
    let long = length-append done (zeros_row 0) in
    let full : nat_lt index (length (done ++ zeros_row 0)) ≡ false = false_from_ne_true (nat_lt index (length (done ++ zeros_row 0))) (λ e. below index (length (done ++ zeros_row 0)) (length done) (ltb-true index (length (done ++ zeros_row 0)) e) is long) in
    subst C (sym (ap (λ o. stored o (record { object = object; index = index; at = at }) w st) there
    ∙ ap (λ b. if b then Fine w (with_objects st (slice_set st.objects object (slice_set (done ++ zeros_row 0) index (Some w)))) else Stopped (IsUndefined 0 at)) full)) (stops (IsUndefined 0 at))
  where
    below : (i l d : ℕ) → i < l → i ≡ d → l ≡ d + 0 → ⊥
    below i l d lt e h = omega (arith, lt, e, h)
write_seam object index at w (suc k) done st C there is stops go =
    let long = length-append done (zeros_row (suc k)) in
    let size = length-replicate k Zero in
    let room : nat_lt index (length (done ++ zeros_row (suc k))) ≡ true = lt-ltb index (length (done ++ zeros_row (suc k))) (above index (length (done ++ zeros_row (suc k))) (length done) (length (zeros_row k)) is long) in
    let row_is : slice_set (done ++ zeros_row (suc k)) index (Some w) ≡ done ++ Some w ∷ zeros_row k = ap (λ i. slice_set (done ++ Zero ∷ zeros_row k) i (Some w)) is ∙ set_seam done Zero (Some w) (zeros_row k) in
    subst C (sym (ap (λ o. stored o (record { object = object; index = index; at = at }) w st) there
    ∙ ap (λ b. if b then Fine w (with_objects st (slice_set st.objects object (slice_set (done ++ zeros_row (suc k)) index (Some w)))) else Stopped (IsUndefined 0 at)) room
    ∙ ap (λ r. Fine w (with_objects st (slice_set st.objects object r))) row_is)) (go k refl)
  where
    above : (i l d r : ℕ) → i ≡ d → l ≡ d + suc r → i < l
    above i l d r e h = omega (arith, e, h)

none_less : (m : ℕ) → m ≡ m - 0
none_less m = omega arith

abbrev pub AreConstant : Exprs → Type 0
AreConstant NoExpr = Unit {0}
AreConstant (WithExpr e rest) = (is_constant e ≡ true) × AreConstant rest

abbrev pub IsConstantInitial : Initial → Type 0
IsConstantInitial Absent = Unit {0}
IsConstantInitial (Value e) = is_constant e ≡ true
IsConstantInitial (Listed es comma filling) = AreConstant es

module _ (source : Source) (call : Calls) where
  -- a constant is evaluated
  evaluated_cases : (C : Outcome ℕ → Type 0) (e : Expr) (st : State) → is_constant e ≡ true → ((stop : Stop) → C (Stopped stop)) → ((w : ℕ) → word e ≡ Some w → C (Fine w st)) → C (evaluated source call e true st)
  evaluated_cases C e st h stops go = of (word e) refl (constant_gives source.program.variables call e h true st)
    where
      of : (o : Option ℕ) → word e ≡ o → Gives o (value source.program.variables call e true st) st → C (evaluated source call e true st)
      of None is g = subst C (sym g.1) (stops g.0)
      of (Some w) is g = subst C (sym g) (go w is)

  list_writes : (es : Exprs) (object at index m : ℕ) (done : List (Option ℕ)) (st : State) → AreConstant es → index ≡ length done → slice_get st.objects object ≡ Some (done ++ zeros_row m) → WritesIf object st done m (words_of es) (listed source call es object at index st)
  list_writes NoExpr object at index m done st h is there = record {
    few = omega arith;
    next_is = is ∙ sym (add-zero (length done));
    there = there ∙ ap (λ l. Some (l ++ zeros_row m)) (sym (append-nil done)) ∙ ap (λ j. Some ((done ++ words (words_of NoExpr)) ++ zeros_row j)) (none_less m);
    changes = changes_same object st;
  }
  list_writes (WithExpr e rest) object at index m done st h is there =
      let all = word_or_zero (word e) ∷ words_of rest in
      evaluated_cases (λ o. WritesIf object st done m all (then_do o (λ x st1. then_do (write (record { object = object; index = index; at = at }) x st1) (λ written st2. listed source call rest object at (index + 1) st2)))) e st h.0 (λ stop. tt)
      (λ w found.
      write_seam object index at w m done st (λ o. WritesIf object st done m all (then_do o (λ written st2. listed source call rest object at (index + 1) st2))) there is (λ stop. tt)
      (λ k more.
      let row = done ++ Some w ∷ zeros_row k in
      let next = with_objects st (slice_set st.objects object row) in
      let lt = slice_get_within st.objects object (done ++ zeros_row m) there in
      let now : slice_get next.objects object ≡ Some ((done ++ Some w ∷ []) ++ zeros_row k) = slice_get-set_same st.objects object row lt ∙ ap Some (sym (append_assoc done (Some w ∷ []) (zeros_row k))) in
      let long = length-append done (Some w ∷ []) in
      let along : index + 1 ≡ length (done ++ Some w ∷ []) = omega (arith, is, long) in
      written (listed source call rest object at (index + 1) next) k w found more next (changes_set object row st) (list_writes rest object at (index + 1) k (done ++ Some w ∷ []) next h.1 along now)))
    where
      written : (o : Outcome ℕ) (k w : ℕ) → word e ≡ Some w → m ≡ suc k → (next : State) → Changes object st next → WritesIf object next (done ++ Some w ∷ []) k (words_of rest) o → WritesIf object st done m (word_or_zero (word e) ∷ words_of rest) o
      written (Stopped stop) k w found more next c r = tt
      written (Fine n st1) k w found more next c r =
          let few = r.few in
          let long = length-append done (Some w ∷ []) in
          let next_is = r.next_is in
          let same : word_or_zero (word e) ≡ w = ap word_or_zero found in
          let left : m - suc (length (words_of rest)) ≡ k - length (words_of rest) = omega (arith, more) in
          record {
            few = omega (arith, few, more);
            next_is = omega (arith, next_is, long);
            there =
                r.there
                ∙ ap (λ l. Some (l ++ zeros_row (k - length (words_of rest)))) (append_assoc done (Some w ∷ []) (words (words_of rest)))
                ∙ ap (λ v. Some ((done ++ Some v ∷ words (words_of rest)) ++ zeros_row (k - length (words_of rest)))) (sym same)
                ∙ ap (λ j. Some ((done ++ words (word_or_zero (word e) ∷ words_of rest)) ++ zeros_row j)) (sym left);
            changes = changes_then object st next st1 c r.changes;
          }

  -- an object that held zeros
  pub record Initialises (object size : ℕ) (before : State) (given : List ℕ) (st : State) : Type 0 where
    pub there : slice_get st.objects object ≡ Some (row_of given size)
    pub changes : Changes object before st

  abbrev pub InitialisesIf : ℕ → ℕ → State → List ℕ → Outcome Flow → Type 0
  InitialisesIf object size before given (Stopped stop) = Unit {0}
  InitialisesIf object size before given (Fine flow st) = Initialises object size before given st

  take-replicate : (k m : ℕ) → k ≤ m → take k (zeros_row m) ≡ zeros_row k
  take-replicate zero m le = refl
  take-replicate (suc k) zero le = absurd (omega (arith, le))
  take-replicate (suc k) (suc m) le = ap (λ l. Zero ∷ l) (take-replicate k m (omega (arith, le)))

  row_is : (given : List ℕ) (m : ℕ) → length given ≤ m → row_of given m ≡ words given ++ zeros_row (m - length given)
  row_is given m le =
      let long = length-map given Some in
      let split : m ≡ length (words given) + (m - length given) = omega (arith, le, long) in
      ap (λ n. take n (words given ++ zeros_row m)) split ∙ take-append-add (words given) (zeros_row m) (m - length given)
      ∙ ap (λ l. words given ++ l) (take-replicate (m - length given) m (omega arith))

  filled_row : (given : List ℕ) (m next : ℕ) → next ≡ length given → length given ≤ m →
      take next (words given ++ zeros_row (m - length given)) ++ zeros_row (length (words given ++ zeros_row (m - length given)) - next) ≡ words given ++ zeros_row (m - length given)
  filled_row given m next is le =
      let long = length-map given Some in
      let sum = length-append (words given) (zeros_row (m - length given)) in
      let rest = length-replicate (m - length given) Zero in
      let count : next ≡ length (words given) = omega (arith, is, long) in
      let left : length (words given ++ zeros_row (m - length given)) - next ≡ m - length given = omega (arith, is, long, sum, rest) in
      ap (λ n. take n (words given ++ zeros_row (m - length given)) ++ zeros_row (length (words given ++ zeros_row (m - length given)) - next)) count
      ∙ ap (λ l. l ++ zeros_row (length (words given ++ zeros_row (m - length given)) - next)) (take-append_seam (words given) (zeros_row (m - length given)))
      ∙ ap (λ j. words given ++ zeros_row j) left

  pub initialises : (initial : Initial) (object at size : ℕ) (st : State) → IsConstantInitial initial → slice_get st.objects object ≡ Some (zeros_row size) → InitialisesIf object size st (initial_words initial) (initialised source call initial object at st)
  initialises Absent object at size st h there = record { there = there ∙ ap Some (sym (take-replicate size size (omega arith))); changes = changes_same object st }
  initialises (Value e) object at size st h there =
      evaluated_cases (λ o. InitialisesIf object size st (word_or_zero (word e) ∷ []) (then_do o (λ x st1. then_do (write (record { object = object; index = 0; at = at }) x st1) (λ written st2. Fine Onward st2)))) e st h (λ stop. tt)
      (λ w found.
      write_seam object 0 at w size [] st (λ o. InitialisesIf object size st (word_or_zero (word e) ∷ []) (then_do o (λ written st2. Fine Onward st2))) there refl (λ stop. tt)
      (λ k more.
      let row = Some w ∷ zeros_row k in
      let lt = slice_get_within st.objects object (zeros_row size) there in
      let few : 1 ≤ size = omega (arith, more) in
      let left : size - 1 ≡ k = omega (arith, more) in
      record {
        there = slice_get-set_same st.objects object row lt ∙ ap Some (sym (ap (λ v. row_of (v ∷ []) size) (ap word_or_zero found) ∙ row_is (w ∷ []) size few ∙ ap (λ j. Some w ∷ zeros_row j) left));
        changes = changes_set object row st;
      }))
  initialises (Listed es comma filling) object at size st h there = of (listed source call es object at 0 st) (list_writes es object at 0 size [] st h refl there)
    where
      of : (o : Outcome ℕ) → WritesIf object st [] size (words_of es) o → InitialisesIf object size st (words_of es) (then_do o (filled object))
      of (Stopped stop) r = tt
      of (Fine next st1) r =
          let given = words_of es in
          let row = words given ++ zeros_row (size - length given) in
          let is : next ≡ length given = r.next_is ∙ zero-add (length given) in
          let lt = slice_get_within st1.objects object row r.there in
          let zeros_is : zeros object next st1 ≡ with_objects st1 (slice_set st1.objects object (take next row ++ zeros_row (length row - next))) = ap (λ o. zeros_in o object next st1) r.there in
          subst (Initialises object size st given) (sym zeros_is)
          (record {
            there = slice_get-set_same st1.objects object (take next row ++ zeros_row (length row - next)) lt ∙ ap Some (filled_row given size next is r.few ∙ sym (row_is given size r.few));
            changes = changes_then object st st1 (with_objects st1 (slice_set st1.objects object (take next row ++ zeros_row (length row - next)))) r.changes (changes_set object (take next row ++ zeros_row (length row - next)) st1);
          })
