-- What is done to a state leaves its objects as their variables say, and stops by a rule where it stops.
use Rattle.std.proofs.Common.{◌≡◌, refl, ap, ◌∙◌, sym, subst, ℕ, zero, suc, ◌+◌, ◌<◌, Bool, true, false, if◌then◌else◌, List, [], ◌∷◌, ◌++◌, length, Option, Some, None, arith, length-append, lt-ltb, ltb-true}
use Rattle.std.specs.Prelude.{◌-◌, nat_lt, replicate, slice_get, slice_set, take, Result, Ok, Err}
use Rattle.std.proofs.lemmas.Bool.{false≢true}
use Rattle.std.proofs.lemmas.List.{length-replicate, length-set, length-take}
use Rattle.std.proofs.lemmas.Option.{none-some, same_Some}
use Rattle.types_tree.specs.declared.variable.Extent.{Extent}
use Rattle.types_tree.specs.declared.variable.Extent.TheVariants.{Scalar, Array, Parameter}
use Rattle.types_tree.specs.declared.variable.Variable.{Variable}
use Rattle.types_value.specs.Kinds.{converted}
use Rattle.types_value.specs.Operators.{computed}
use Rattle.types_value.specs.declared.kind.Kind.{Kind}
use Rattle.types_value.specs.declared.operator.Operator.{Operator}
use Rattle.types_value.specs.declared.operator.Undefined.{Undefined as Cause}
use Rattle.types_value.specs.declared.operator.Undefined.TheVariants.{Overflow, ZeroDivisor, Quotient, ShiftCount, LeftShift}
use Rattle.meaning_semantics.specs.Runs.{size_of}
use Rattle.meaning_semantics.specs.State.{State, Outcome, Fine, Stopped, then_do, with_objects, element, held, read, stored, write, placed_in, placed, number_by, number_held, array_number, settled, changed, counted, unwritten_in, unwritten, zeros_in, zeros, bound, needed}
use Rattle.meaning_semantics.specs.declared.outcome.Found.{Found}
use Rattle.meaning_semantics.specs.declared.outcome.Stop.{Stop}
use Rattle.meaning_semantics.specs.declared.outcome.Stop.TheVariants.{Undefined, Broken}
use Rattle.types_rules.specs.Scope.{is_array}
use Rattle.meaning_laws.specs.Scoped.{ArePassed, HasRoom, HasRoomIn, IsObject, IsOfExtent, IsPassed, IsPassedAs}
use Rattle.meaning_laws.specs.Told.{IsRule}

-- a number that an array parameter may hold: that of an array
abbrev pub IsArrayNumber : List Variable → ℕ → Type 0
IsArrayNumber variables number = HasRoomIn (slice_get variables number) 0

abbrev pub Accepts : List Variable → Extent → (word : ℕ) → Type 0
Accepts variables Scalar word = Unit {0}
Accepts variables (Array size) word = Unit {0}
Accepts variables Parameter word = IsArrayNumber variables word

-- the elements of an object
pub record AreCells (variables : List Variable) (extent : Extent) (cells : List (Option ℕ)) : Type 0 where
  pub size_is : length cells ≡ size_of extent
  pub accepted : (i word : ℕ) → slice_get cells i ≡ Some (Some word) → Accepts variables extent word

abbrev pub IsHeld : List Variable → Extent → Option (List (Option ℕ)) → Type 0
IsHeld variables extent None = ⊥
IsHeld variables extent (Some cells) = AreCells variables extent cells

-- each object has as many elements as its variable, and array parameters hold numbers of arrays
pub record IsLaidOut (variables : List Variable) (st : State) : Type 0 where
  pub by : (o : ℕ) (v : Variable) → slice_get variables o ≡ Some v → IsHeld variables v.extent (slice_get st.objects o)

abbrev pub IsStop : Stop → Type 0
IsStop (Undefined rule at) = IsRule rule
IsStop (Broken at) = Unit {0}

-- ends well in a state that is laid out, or by a rule
abbrev pub Safe : {A : Type 0} → List Variable → (A → Type 0) → Outcome A → Type 0
Safe variables P (Fine value st) = IsLaidOut variables st × P value
Safe variables P (Stopped stop) = IsStop stop

abbrev pub Any : {A : Type 0} → A → Type 0
Any a = Unit {0}

-- an element that is there
pub record InPlace (variables : List Variable) (found : Found) : Type 0 where
  pub variable : Variable
  pub variable_is : slice_get variables found.object ≡ Some variable
  pub within : found.index < size_of variable.extent
  pub free : (word : ℕ) → Accepts variables variable.extent word

pub set_cases : {X : Type 0} (xs : List X) (i j : ℕ) (y : X) (P : Option X → Type 0) → (j ≡ i → P (Some y)) → P (slice_get xs j) → P (slice_get (slice_set xs i y) j)
set_cases [] i j y P new old = old
set_cases (x ∷ xs) zero zero y P new old = new refl
set_cases (x ∷ xs) zero (suc j) y P new old = old
set_cases (x ∷ xs) (suc i) zero y P new old = old
set_cases (x ∷ xs) (suc i) (suc j) y P new old = set_cases xs i j y P (λ e. new (ap suc e)) old

no_word : (n i word : ℕ) → slice_get (replicate n None) i ≡ Some (Some word) → ⊥
no_word zero i word e = none-some _ e
no_word (suc n) zero word e = none-some word (same_Some None (Some word) e)
no_word (suc n) (suc i) word e = no_word n i word e

abbrev passed_as : (array : Bool) → Extent
passed_as true = Parameter
passed_as false = Scalar

passed_extent : (array : Bool) (extent : Extent) → IsPassedAs array extent → extent ≡ passed_as array
passed_extent true extent is = is
passed_extent false extent is = is

one : (array : Bool) → 0 < size_of (passed_as array)
one true = omega arith
one false = omega arith

element_there : (i : ℕ) (cells : List (Option ℕ)) → i < length cells → slice_get cells i ≡ None → ⊥
element_there i [] lt e = omega (arith, lt)
element_there zero (x ∷ xs) lt e = none-some x (sym e)
element_there (suc i) (x ∷ xs) lt e = element_there i xs (omega (arith, lt)) e

abbrev nought : Option ℕ
nought = Some 0

room_accepts : (variables : List Variable) (extent : Extent) → HasRoom extent 0 → (word : ℕ) → Accepts variables extent word
room_accepts variables Scalar room word = tt
room_accepts variables (Array size) room word = tt
room_accepts variables Parameter room word = absurd room

module _ (variables : List Variable) where
  pub then_safe : {A B : Type 0} (P : A → Type 0) (Q : B → Type 0) (o : Outcome A) (go : A → State → Outcome B) → Safe variables P o → ((a : A) (st : State) → IsLaidOut variables st → P a → Safe variables Q (go a st)) → Safe variables Q (then_do o go)
  then_safe P Q (Fine a st) go h k = k a st h.0 h.1
  then_safe P Q (Stopped stop) go h k = h

  pub set_laid : (st : State) (o : ℕ) (cells : List (Option ℕ)) → IsLaidOut variables st → ((v : Variable) → slice_get variables o ≡ Some v → AreCells variables v.extent cells) → IsLaidOut variables (with_objects st (slice_set st.objects o cells))
  set_laid st o cells l new = record {
    by = λ p v e. set_cases st.objects o p cells (IsHeld variables v.extent) (λ same. new v (ap (slice_get variables) (sym same) ∙ e)) (l.by p v e);
  }

  -- what is there is read
  held_safe : (extent : Extent) (cells : List (Option ℕ)) (i at : ℕ) (st : State) → IsLaidOut variables st → AreCells variables extent cells → i < size_of extent → Safe variables (Accepts variables extent) (held (slice_get cells i) at st)
  held_safe extent cells i at st l h lt = of (slice_get cells i) refl
    where
      of : (o : Option (Option ℕ)) → slice_get cells i ≡ o → Safe variables (Accepts variables extent) (held o at st)
      of None e = absurd (element_there i cells (omega (arith, lt, h.size_is)) e)
      of (Some None) e = (omega arith, omega arith)
      of (Some (Some word)) e = (l, h.accepted i word e)

  pub read_in : (v : Variable) (found : Found) (st : State) → IsLaidOut variables st → slice_get variables found.object ≡ Some v → found.index < size_of v.extent → Safe variables (Accepts variables v.extent) (read found st)
  read_in v found st l is lt = of (slice_get st.objects found.object) (l.by found.object v is)
    where
      of : (o : Option (List (Option ℕ))) → IsHeld variables v.extent o → Safe variables (Accepts variables v.extent) (held (element o found.index) found.at st)
      of None h = absurd h
      of (Some cells) h = held_safe v.extent cells found.index found.at st l h lt

  pub weaken : {A : Type 0} (P : A → Type 0) (o : Outcome A) → Safe variables P o → Safe variables Any o
  weaken P (Fine a st) h = (h.0, tt)
  weaken P (Stopped stop) h = h

  pub read_safe : (found : Found) (st : State) → IsLaidOut variables st → InPlace variables found → Safe variables Any (read found st)
  read_safe found st l p = weaken (Accepts variables p.variable.extent) (read found st) (read_in p.variable found st l p.variable_is p.within)

  pub write_in : (v : Variable) (found : Found) (word : ℕ) (st : State) → IsLaidOut variables st → slice_get variables found.object ≡ Some v → found.index < size_of v.extent → Accepts variables v.extent word → Safe variables Any (write found word st)
  write_in v found word st l is lt may = of (slice_get st.objects found.object) (l.by found.object v is)
    where
      in_cells : (cells : List (Option ℕ)) → AreCells variables v.extent cells → (w : Variable) → slice_get variables found.object ≡ Some w → AreCells variables w.extent (slice_set cells found.index (Some word))
      in_cells cells h w e = subst (λ x. AreCells variables x.extent (slice_set cells found.index (Some word))) (same_Some v w (sym is ∙ e)) (record {
        size_is = length-set cells found.index (Some word) ∙ h.size_is;
        accepted = λ i x. set_cases cells found.index i (Some word) (λ o. o ≡ Some (Some x) → Accepts variables v.extent x)
            (λ same e. subst (Accepts variables v.extent) (same_Some word x (same_Some (Some word) (Some x) e)) may)
            (h.accepted i x);
      })

      inside : (cells : List (Option ℕ)) (b : Bool) → nat_lt found.index (length cells) ≡ b → AreCells variables v.extent cells →
          Safe variables Any (if b then Fine word (with_objects st (slice_set st.objects found.object (slice_set cells found.index (Some word)))) else Stopped (Undefined 0 found.at))
      inside cells true e h = (set_laid st found.object (slice_set cells found.index (Some word)) l (in_cells cells h), tt)
      inside cells false e h = absurd (false≢true (sym e ∙ lt-ltb found.index (length cells) (omega (arith, lt, h.size_is))))

      of : (o : Option (List (Option ℕ))) → IsHeld variables v.extent o → Safe variables Any (stored o found word st)
      of None h = absurd h
      of (Some cells) h = inside cells (nat_lt found.index (length cells)) refl h

  pub write_safe : (found : Found) (word : ℕ) (st : State) → IsLaidOut variables st → InPlace variables found → Safe variables Any (write found word st)
  write_safe found word st l p = write_in p.variable found word st l p.variable_is p.within (p.free word)

  -- an array that is named
  pub array_safe : (array at : ℕ) (st : State) → IsLaidOut variables st → IsObject variables true array → Safe variables (IsArrayNumber variables) (array_number variables array at st)
  array_safe array at st l is = of (slice_get variables array) refl is
    where
      by_extent : (v : Variable) (extent : Extent) → v.extent ≡ extent → slice_get variables array ≡ Some v → is_array extent ≡ true → Safe variables (IsArrayNumber variables) (number_held extent array at st)
      by_extent v Scalar e there is = absurd (false≢true is)
      by_extent v (Array size) e there is = (l, subst (λ o. HasRoomIn o 0) (sym there) (subst (λ x. HasRoom x 0) (sym e) (omega arith)))
      by_extent v Parameter e there is =
          let found : Found = record { object = array; index = 0; at = at } in
          subst (λ x. Safe variables (Accepts variables x) (read found st)) e (read_in v found st l there (subst (λ x. 0 < size_of x) (sym e) (omega arith)))

      of : (o : Option Variable) → slice_get variables array ≡ o → IsOfExtent true o → Safe variables (IsArrayNumber variables) (number_by o array at st)
      of None e is = absurd is
      of (Some v) e is = by_extent v v.extent refl e is

  -- an array's element, where it is there
  pub placed_safe : (found : Found) (st : State) → IsLaidOut variables st → IsArrayNumber variables found.object → Safe variables (InPlace variables) (placed found st)
  placed_safe found st l is = of (slice_get variables found.object) refl is
    where
      inside : (v : Variable) (cells : List (Option ℕ)) (b : Bool) → slice_get variables found.object ≡ Some v → HasRoom v.extent 0 → nat_lt found.index (length cells) ≡ b → AreCells variables v.extent cells → Safe variables (InPlace variables) (if b then Fine found st else Stopped (Undefined 6 found.at))
      inside v cells false there room lt h = (omega arith, omega arith)
      inside v cells true there room lt h = (
        l,
        record {
          variable = v;
          variable_is = there;
          within = subst (λ n. found.index < n) h.size_is (ltb-true found.index (length cells) lt);
          free = λ word. room_accepts variables v.extent room word;
        },
      )

      held_by : (v : Variable) (o : Option (List (Option ℕ))) → slice_get variables found.object ≡ Some v → HasRoom v.extent 0 → IsHeld variables v.extent o → Safe variables (InPlace variables) (placed_in o found st)
      held_by v None there room h = absurd h
      held_by v (Some cells) there room h = inside v cells (nat_lt found.index (length cells)) there room refl h

      of : (o : Option Variable) → slice_get variables found.object ≡ o → HasRoomIn o 0 → Safe variables (InPlace variables) (placed found st)
      of None e is = absurd is
      of (Some v) e is = held_by v (slice_get st.objects found.object) e is (l.by found.object v e)

  -- a scalar that is named
  pub scalar_place : (object at : ℕ) → IsObject variables false object → InPlace variables (record { object = object; index = 0; at = at })
  scalar_place object at is = of (slice_get variables object) refl is
    where
      by_extent : (v : Variable) (extent : Extent) → v.extent ≡ extent → slice_get variables object ≡ Some v → is_array extent ≡ false → InPlace variables (record { object = object; index = 0; at = at })
      by_extent v Scalar e there is = record {
        variable = v;
        variable_is = there;
        within = subst (λ x. 0 < size_of x) (sym e) (omega arith);
        free = λ word. subst (λ x. Accepts variables x word) (sym e) tt;
      }
      by_extent v (Array size) e there is = absurd (false≢true (sym is))
      by_extent v Parameter e there is = absurd (false≢true (sym is))

      of : (o : Option Variable) → slice_get variables object ≡ o → IsOfExtent false o → InPlace variables (record { object = object; index = 0; at = at })
      of None e is = absurd is
      of (Some v) e is = by_extent v v.extent refl e is

  pub settled_safe : (answer : Result ℕ Cause) (at : ℕ) (st : State) → IsLaidOut variables st → Safe variables Any (settled answer at st)
  settled_safe (Ok word) at st l = (l, tt)
  settled_safe (Err Overflow) at st l = (omega arith, omega arith)
  settled_safe (Err ZeroDivisor) at st l = (omega arith, omega arith)
  settled_safe (Err Quotient) at st l = (omega arith, omega arith)
  settled_safe (Err ShiftCount) at st l = (omega arith, omega arith)
  settled_safe (Err LeftShift) at st l = (omega arith, omega arith)

  pub changed_safe : (found : Found) (operator : Operator) (kind to : Kind) (word : ℕ) (st : State) → IsLaidOut variables st → InPlace variables found → Safe variables Any (changed found operator kind to word st)
  changed_safe found operator kind to word st l p =
      then_safe Any Any (read found st) (λ before st1.
      then_do (settled (computed operator kind (converted kind before) word) found.at st1) (λ result st2.
      then_do (write found (converted to result) st2) (λ behind st3. Fine (record { before = before; behind = behind }) st3)))
      (read_safe found st l p)
      (λ before st1 l1 any. then_safe Any Any (settled (computed operator kind (converted kind before) word) found.at st1) (λ result st2.
      then_do (write found (converted to result) st2) (λ behind st3. Fine (record { before = before; behind = behind }) st3))
      (settled_safe (computed operator kind (converted kind before) word) found.at st1 l1)
      (λ result st2 l2 any. then_safe Any Any (write found (converted to result) st2) (λ behind st3. Fine (record { before = before; behind = behind }) st3)
      (write_safe found (converted to result) st2 l2 p)
      (λ behind st3 l3 any. (l3, tt))))

  pub needed_safe : (used : Bool) (at : ℕ) (given : Option ℕ) (st : State) → IsLaidOut variables st → Safe variables Any (needed used at given st)
  needed_safe used at (Some word) st l = (l, tt)
  needed_safe true at None st l = (omega arith, omega arith)
  needed_safe false at None st l = (l, tt)

  pub counted_laid : (number : ℕ) (st : State) → IsLaidOut variables st → IsLaidOut variables (counted number st)
  counted_laid number st l = record { by = l.by }

  pub unwritten_laid : (object : ℕ) (st : State) → IsLaidOut variables st → IsLaidOut variables (unwritten object st)
  unwritten_laid object st l = of (slice_get st.objects object) refl
    where
      of : (o : Option (List (Option ℕ))) → slice_get st.objects object ≡ o → IsLaidOut variables (unwritten_in o object st)
      of None e = l
      of (Some cells) e = set_laid st object (replicate (length cells) None) l (λ v there. record {
        size_is = length-replicate (length cells) None ∙ (subst (IsHeld variables v.extent) e (l.by object v there)).size_is;
        accepted = λ i word is. absurd (no_word (length cells) i word is);
      })

  -- the rest of an array is 0
  pub zeros_laid : (object from : ℕ) (st : State) → IsLaidOut variables st → IsArrayNumber variables object → IsLaidOut variables (zeros object from st)
  zeros_laid object from st l is = of (slice_get st.objects object) refl
    where
      free : (o : Option Variable) (v : Variable) → o ≡ Some v → HasRoomIn o 0 → (word : ℕ) → Accepts variables v.extent word
      free None v e room word = absurd room
      free (Some w) v e room word = subst (λ x. Accepts variables x.extent word) (same_Some w v e) (room_accepts variables w.extent room word)

      of : (o : Option (List (Option ℕ))) → slice_get st.objects object ≡ o → IsLaidOut variables (zeros_in o object from st)
      of None e = l
      of (Some cells) e = set_laid st object (take from cells ++ replicate (length cells - from) nought) l (λ v there. record {
        size_is =
            (let a = length-append (take from cells) (replicate (length cells - from) nought) in
            let b = length-take from cells in
            let c = length-replicate {A = Option ℕ} (length cells - from) nought in
            omega (arith, a, b, c))
            ∙ (subst (IsHeld variables v.extent) e (l.by object v there)).size_is;
        accepted = λ i word e. free (slice_get variables object) v there is word;
      })

  -- what a call hands over
  abbrev pub AreWords : (words : List ℕ) (arrays : List Bool) → Type 0
  AreWords [] [] = Unit {0}
  AreWords [] (array ∷ arrays) = ⊥
  AreWords (word ∷ words) [] = ⊥
  AreWords (word ∷ words) (true ∷ arrays) = IsArrayNumber variables word × AreWords words arrays
  AreWords (word ∷ words) (false ∷ arrays) = AreWords words arrays

  pub bound_safe : (object at : ℕ) (words : List ℕ) (arrays : List Bool) (st : State) → IsLaidOut variables st → AreWords words arrays → ArePassed variables object arrays → Safe variables Any (bound object at words st)
  bound_safe object at [] arrays st l given passed = (l, tt)
  bound_safe object at (word ∷ words) [] st l given passed = absurd given
  bound_safe object at (word ∷ words) (array ∷ arrays) st l given passed = of array given passed.0 (λ later st1 l1. bound_safe (object + 1) at words arrays st1 l1 later passed.1)
    where
      found : Found
      found = record { object = object; index = 0; at = at }

      written : (array : Bool) (o : Option Variable) → slice_get variables object ≡ o → IsPassed array o → ((v : Variable) → v.extent ≡ passed_as array → Accepts variables v.extent word) → Safe variables Any (write found word st)
      written array None e is may = absurd is
      written array (Some v) e is may =
          let extent_is = passed_extent array v.extent is in
          write_in v found word st l e (subst (λ x. 0 < size_of x) (sym extent_is) (one array)) (may v extent_is)

      of : (array : Bool) → AreWords (word ∷ words) (array ∷ arrays) → IsPassed array (slice_get variables object) → (AreWords words arrays → (st1 : State) → IsLaidOut variables st1 → Safe variables Any (bound (object + 1) at words st1)) → Safe variables Any (bound object at (word ∷ words) st)
      of true given is more =
          then_safe Any Any (write found word st) (λ w st1. bound (object + 1) at words st1)
          (written true (slice_get variables object) refl is (λ v e. subst (λ x. Accepts variables x word) (sym e) given.0))
          (λ w st1 l1 any. more given.1 st1 l1)
      of false given is more =
          then_safe Any Any (write found word st) (λ w st1. bound (object + 1) at words st1)
          (written false (slice_get variables object) refl is (λ v e. subst (λ x. Accepts variables x word) (sym e) tt))
          (λ w st1 l1 any. more given st1 l1)
