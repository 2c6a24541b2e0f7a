-- What a call hands over stands in the parameters.
use Rattle.std.proofs.Common.{◌≡◌, ⊎_elim, ℕ, suc, ◌+◌, ◌<◌, ◌≤◌, true, false, List, [], ◌∷◌, length, Some, None, refl, sym, ap, ◌∙◌, subst, arith}
use Rattle.std.specs.Prelude.{slice_get, slice_index_or}
use Rattle.std.proofs.lemmas.Bool.{cases_eq, false≢true}
use Rattle.std.proofs.lemmas.Option.{same_Some}
use Rattle.meaning_semantics.specs.State as source
use Rattle.meaning_semantics.specs.declared.outcome.Flow.{Flow}
use Rattle.high_ir.specs.declared.object.Array.{Array}
use Rattle.high_ir.specs.declared.object.Base.{Base}
use Rattle.high_ir.specs.declared.object.Base.TheVariants.{Object, Parameter}
use Rattle.high_ir.specs.Meaning.{Variables, World}
use Rattle.high_ir.specs.Words.{converted}
use Rattle.plan_definition.specs.declared.home.Home.{Home}
use Rattle.plan_definition.specs.declared.home.Home.TheVariants.{Frame, Memory}
use Rattle.plan_definition.specs.Homes.{array_at}
use Rattle.plan_runs.specs.Cells.{Cells, cell, size, put_cell}
use Rattle.plan_runs.specs.Claims.{Handed}
use Rattle.plan_runs.specs.ExpressionFits.{Formal, OfWord, OfArray}
use Rattle.plan_runs.specs.Meets.{Layout, IsLayout, home, kind_at, is_own, is_passed, is_passed_base, IsArray, MeetsWorld, Untouched}
use Rattle.plan_runs.proofs.Cells.{cell-put_same, cell-put_other, cell_put, size-put}
use Rattle.plan_runs.proofs.Holding.{untouched_same, untouched_then}
use Rattle.plan_runs.proofs.Steps.{write_cases}
use Rattle.plan_runs.proofs.Stores.{no_array, untouched_put}
use Rattle.plan_runs.specs.Serves.{AreParameters}

below_itself : (n : ℕ) → n < n → ⊥
below_itself n lt = omega (arith, lt)

-- the variable of a home, and the parameter of one
abbrev variable_number : Home → ℕ
variable_number (Frame x) = x
variable_number (Memory array) = 0

abbrev parameter_number : Base → ℕ
parameter_number (Object n) = n
parameter_number (Parameter j) = j

-- a word in what is a function's own leaves the world as it is
module _ (layout : Layout) (st : source.State) (w : World) (trace : List ℕ) (m : MeetsWorld layout st w trace) (o v : ℕ) (own : is_own (home layout o) ≡ true) (lt : 0 < size st.objects o) (range : is_passed (home layout o) ≡ false → converted (kind_at layout o) v ≡ v) where
  apart : (p n : ℕ) (a : Array) → home layout p ≡ Memory a → a.base ≡ Object n → p ≡ o → ⊥
  apart p n a lives base same = false≢true (sym (ap is_own lives ∙ ap is_passed_base base) ∙ ap (λ q. is_own (home layout q)) same ∙ own)

  bound_ranged : (p i u : ℕ) → is_passed (home layout p) ≡ false → cell (put_cell st.objects o 0 v) p i ≡ Some u → converted (kind_at layout p) u ≡ u
  bound_ranged p i u plain holds = ⊎_elim
      (λ (e : (p ≡ o) × (u ≡ v)). ap (λ q. converted (kind_at layout q) u) e.0 ∙ ap (converted (kind_at layout o)) e.1 ∙ range (ap (λ q. is_passed (home layout q)) (sym e.0) ∙ plain) ∙ sym e.1)
      (λ (before : cell st.objects p i ≡ Some u). m.ranged p i u plain before)
      (cell_put st.objects o 0 v p i u lt holds)

  pub bound_world : MeetsWorld layout (source.with_objects st (put_cell st.objects o 0 v)) w trace
  bound_world = record {
    input = m.input;
    output = m.output;
    counts = m.counts;
    marks_are = m.marks_are;
    memory = λ p n a lives base.
        let h = m.memory p n a lives base in
        record {
          contents = h.contents;
          there = h.there;
          kind_is = h.kind_is;
          writable = h.writable;
          size_is = h.size_is ∙ sym (size-put st.objects o 0 v p lt);
          words = λ i u holds. h.words i u (sym (cell-put_other st.objects o 0 v p i (apart p n a lives base)) ∙ holds);
        };
    sizes_are = λ p n a lives base. size-put st.objects o 0 v p lt ∙ m.sizes_are p n a lives base;
    ranged = bound_ranged;
  }

-- a function's frame, and the arrays that are passed
module _ (layout : Layout) (placed : IsLayout layout) (number : ℕ) (w : World) (trace : List ℕ) (vars : Variables) (passed : List ℕ) where
  -- the parameters from one on are in the frame
  pub record Stand (first count : ℕ) (objects : Cells) : Type 0 where
    pub words : (o x u : ℕ) → first ≤ o → o < first + count → home layout o ≡ Frame x → cell objects o 0 ≡ Some u → slice_index_or vars x None ≡ Some u
    pub passes : (o j q : ℕ) (a : Array) → first ≤ o → o < first + count → home layout o ≡ Memory a → a.base ≡ Parameter j → cell objects o 0 ≡ Some q → IsArray layout q a.kind (layout.constant o) (slice_get passed j)

  -- what was bound from one parameter on
  pub record Bound (first count : ℕ) (st st1 : source.State) : Type 0 where
    pub world : MeetsWorld layout st1 w trace
    pub stand : Stand first count st1.objects
    pub untouched : Untouched layout (layout.rank number) st.objects st1.objects
    pub before : (o : ℕ) → o < first → cell st1.objects o 0 ≡ cell st.objects o 0

  abbrev pub Binds : (first count : ℕ) → source.State → source.Outcome Flow → Type 0
  Binds first count st (source.Stopped stop) = Unit {0}
  Binds first count st (source.Fine flow st1) = Bound first count st st1

  -- what is handed over has its place in the frame, from a variable and an array parameter on
  abbrev pub AreIn : (variable parameter : ℕ) → (vs ns : List ℕ) → Type 0
  AreIn variable parameter vs ns =
      ((i u : ℕ) → slice_get vs i ≡ Some u → slice_index_or vars (variable + i) None ≡ Some u) × ((i n : ℕ) → slice_get ns i ≡ Some n → slice_get passed (parameter + i) ≡ Some n)

  next_of : (a i : ℕ) → a + 1 + i ≡ a + suc i
  next_of a i = omega arith

  this_one : (a : ℕ) → a + 0 ≡ a
  this_one a = omega arith

  above : (a b : ℕ) → a ≤ b → (b ≡ a → ⊥) → a + 1 ≤ b
  above a b le other = omega (arith, le, other)

  behind : (a b n : ℕ) → b < a + suc n → b < a + 1 + n
  behind a b n lt = omega (arith, lt)

  nothing_there : (a b : ℕ) → a ≤ b → b < a + 0 → ⊥
  nothing_there a b le lt = omega (arith, le, lt)

  itself : (a : ℕ) → a ≤ a
  itself a = omega arith

  in_first : (a n : ℕ) → a < a + suc n
  in_first a n = omega arith

  up : (a b : ℕ) → a + 1 ≤ b → a ≤ b
  up a b le = omega (arith, le)

  down : (a n b : ℕ) → b < a + 1 + n → b < a + suc n
  down a n b lt = omega (arith, lt)

  one_before : (a : ℕ) → a < a + 1
  one_before a = omega arith

  still_before : (o a : ℕ) → o < a → o < a + 1
  still_before o a lt = omega (arith, lt)

  other_than : (o a : ℕ) → o < a → o ≡ a → ⊥
  other_than o a lt e = omega (arith, lt, e)

  -- one parameter, and those behind it
  module _ (first v count : ℕ) (own : is_own (home layout first) ≡ true) (owner : layout.owner first ≡ number) (st : source.State) (lt : 0 < size st.objects first)
      (word_stands : (x : ℕ) → home layout first ≡ Frame x → slice_index_or vars x None ≡ Some v) (array_stands : (j : ℕ) (a : Array) → home layout first ≡ Memory a → a.base ≡ Parameter j → IsArray layout v a.kind (layout.constant first) (slice_get passed j)) where
    abbrev here : source.State
    here = source.with_objects st (put_cell st.objects first 0 v)

    -- the object keeps its word
    kept_word : (st1 : source.State) (u : ℕ) → Bound (first + 1) count here st1 → cell st1.objects first 0 ≡ Some u → v ≡ u
    kept_word st1 u b holds = same_Some v u (sym (cell-put_same st.objects first 0 v lt) ∙ sym (b.before first (one_before first)) ∙ holds)

    both_stand : (st1 : source.State) → Bound (first + 1) count here st1 → Stand first (suc count) st1.objects
    both_stand st1 b = record {
      words = λ o x u le below lives holds. ⊎_elim
          (λ (same : o ≡ first). word_stands x (ap (home layout) (sym same) ∙ lives) ∙ ap Some (kept_word st1 u b (ap (λ p. cell st1.objects p 0) (sym same) ∙ holds)))
          (λ (other : o ≡ first → ⊥). b.stand.words o x u (above first o le other) (behind first o count below) lives holds)
          (cases_eq o first);
      passes = λ o j q a le below lives base holds. ⊎_elim
          (λ (same : o ≡ first).
          let array = array_stands j a (ap (home layout) (sym same) ∙ lives) base in
          let word : v ≡ q = kept_word st1 q b (ap (λ p. cell st1.objects p 0) (sym same) ∙ holds) in
          subst (λ p. IsArray layout q a.kind (layout.constant p) (slice_get passed j)) (sym same) (subst (λ n. IsArray layout n a.kind (layout.constant first) (slice_get passed j)) word array))
          (λ (other : o ≡ first → ⊥). b.stand.passes o j q a (above first o le other) (behind first o count below) lives base holds)
          (cases_eq o first);
    }

    free : is_own (home layout first) ≡ true → layout.rank number < layout.rank (layout.owner first) → ⊥
    free is rank = below_itself (layout.rank number) (subst (λ g. layout.rank number < layout.rank g) owner rank)

    pub binds_first : (o : source.Outcome Flow) → Binds (first + 1) count here o → Binds first (suc count) st o
    binds_first (source.Stopped stop) b = tt
    binds_first (source.Fine flow st1) b = record {
      world = b.world;
      stand = both_stand st1 b;
      untouched = untouched_then layout (layout.rank number) st.objects here.objects st1.objects (untouched_put layout (layout.rank number) st.objects first 0 v free) b.untouched;
      before = λ o below. b.before o (still_before o first below) ∙ cell-put_other st.objects first 0 v o 0 (other_than o first below);
    }

  -- a variable is its home's
  same_variable : (x y : ℕ) → Frame x ≡ Frame y → x ≡ y
  same_variable x y e = ap variable_number e

  same_parameter : (i j : ℕ) → Parameter i ≡ Parameter j → i ≡ j
  same_parameter i j e = ap parameter_number e

  -- the words that a call hands over are written into its parameters
  pub binds : (formals : List Formal) (first variable parameter at : ℕ) → AreParameters layout first variable parameter formals → ((o : ℕ) → first ≤ o → o < first + length formals → layout.owner o ≡ number) → (words vs ns : List ℕ) → Handed layout formals words vs ns → AreIn variable parameter vs ns →
      (st : source.State) → MeetsWorld layout st w trace → Binds first (length formals) st (source.bound first at words st)
  binds [] first variable parameter at are owned [] vs ns h are_in st m = record {
    world = m;
    stand = record {
      words = λ o x u le lt lives holds. absurd (nothing_there first o le lt);
      passes = λ o j q a le lt lives base holds. absurd (nothing_there first o le lt);
    };
    untouched = untouched_same layout (layout.rank number) st.objects;
    before = λ o lt. refl;
  }
  binds [] first variable parameter at are owned (v ∷ words) vs ns h are_in st m = absurd h
  binds (formal ∷ formals) first variable parameter at are owned [] vs ns h are_in st m = absurd h
  binds (OfWord kind ∷ formals) first variable parameter at are owned (v ∷ words) vs ns h are_in st m =
      write_cases (λ o. Binds first (suc (length formals)) st (source.then_do o (λ written st1. source.bound (first + 1) at words st1))) (record { object = first; index = 0; at = at }) st (λ stop. tt) v
      (λ lt.
      let own : is_own (home layout first) ≡ true = ap is_own are.0 in
      let here = source.with_objects st (put_cell st.objects first 0 v) in
      binds_first first v (length formals) own (owned first (itself first) (in_first first (length formals))) st lt
      (λ x lives. ap (λ y. slice_index_or vars y None) (same_variable x variable (sym lives ∙ are.0) ∙ sym (this_one variable)) ∙ are_in.0 0 v (ap (λ l. slice_get l 0) h.1))
      (λ j a lives base. absurd (no_array variable a (sym are.0 ∙ lives)))
      (source.bound (first + 1) at words here)
      (binds formals (first + 1) (variable + 1) parameter at are.2 (λ o le below. owned o (up first o le) (down first (length formals) o below)) words h.0 ns h.3
      ((λ i u is. ap (λ y. slice_index_or vars y None) (next_of variable i) ∙ are_in.0 (suc i) u (ap (λ l. slice_get l (suc i)) h.1 ∙ is)), are_in.1)
      here (bound_world layout st w trace m first v own lt (λ plain. ap (λ q. converted q v) are.1 ∙ h.2))))
  binds (OfArray kind constant ∷ formals) first variable parameter at are owned (v ∷ words) vs ns h are_in st m =
      write_cases (λ o. Binds first (suc (length formals)) st (source.then_do o (λ written st1. source.bound (first + 1) at words st1))) (record { object = first; index = 0; at = at }) st (λ stop. tt) v
      (λ lt.
      let own : is_own (home layout first) ≡ true = ap is_own are.0.lives ∙ ap is_passed_base are.0.base_is in
      let here = source.with_objects st (put_cell st.objects first 0 v) in
      binds_first first v (length formals) own (owned first (itself first) (in_first first (length formals))) st lt
      (λ x lives. absurd (no_array x are.0.array (sym lives ∙ are.0.lives)))
      (λ j a lives base. array_there j a lives base (are_in.1 0 h.0 (ap (λ l. slice_get l 0) h.2)))
      (source.bound (first + 1) at words here)
      (binds formals (first + 1) variable (parameter + 1) at are.3 (λ o le below. owned o (up first o le) (down first (length formals) o below)) words vs h.1 h.4
      (are_in.0, λ i n is. ap (slice_get passed) (next_of parameter i) ∙ are_in.1 (suc i) n (ap (λ l. slice_get l (suc i)) h.2 ∙ is))
      here (bound_world layout st w trace m first v own lt (λ plain. absurd (false≢true (sym plain ∙ ap is_passed are.0.lives ∙ ap is_passed_base are.0.base_is))))))
    where
      kind_of_array : (a : Array) → home layout first ≡ Memory a → kind ≡ a.kind
      kind_of_array a lives = sym are.1 ∙ sym (placed.kinds first a lives)

      array_there : (j : ℕ) (a : Array) → home layout first ≡ Memory a → a.base ≡ Parameter j → slice_get passed (parameter + 0) ≡ Some h.0 → IsArray layout v a.kind (layout.constant first) (slice_get passed j)
      array_there j a lives base is =
          let same : a ≡ are.0.array = ap array_at (sym lives ∙ are.0.lives) in
          let index : parameter + 0 ≡ j = this_one parameter ∙ same_parameter parameter j (sym are.0.base_is ∙ ap (λ b. b.base) (sym same) ∙ base) in
          let kinds : kind ≡ a.kind = kind_of_array a lives in
          subst (IsArray layout v a.kind (layout.constant first)) (sym is ∙ ap (slice_get passed) index)
          (subst (λ c. IsArray layout v a.kind c (Some h.0)) (sym are.2) (subst (λ k. IsArray layout v k constant (Some h.0)) kinds h.3))
