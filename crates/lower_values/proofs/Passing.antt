-- What a call is given: words, and pointers to arrays.
use Rattle.std.proofs.Common.{◌≡◌, ℕ, suc, ◌<◌, ◌≤◌, Bool, true, false, List, [], ◌∷◌, length, Option, Some, None, refl, sym, ap, ◌∙◌, subst, arith, get_or-set_same, get_or-set_other, length-set}
use Rattle.std.specs.Prelude.{slice_index_or, slice_set, nat_lt, if◌then◌else◌}
use Rattle.std.proofs.lemmas.Bool.Decides.{nat_tests}
use Rattle.std.proofs.lemmas.Option.{same_Some, slice_get_within}
use Rattle.high_ir.specs.declared.object.Base.{Base as HighBase}
use Rattle.high_ir.specs.declared.object.Base.TheVariants.{Object, Parameter}
use Rattle.high_ir.specs.Meaning as high
use Rattle.high_ir.specs.Tree.{Expr}
use Rattle.high_ir.specs.Whole.{AreWordy}
use Rattle.low_ir.specs.Code.{Address, Operand, Register, Constant, Fixed, Point, Do}
use Rattle.low_ir.specs.declared.run.Value.{Value}
use Rattle.low_ir.specs.declared.run.Value.TheVariants.{Word, Pointer}
use Rattle.low_ir.specs.Effects.{World, Did, there, resolved, gives}
use Rattle.low_ir.specs.Runs.{Bank, virtual, values, values_cons, operand_value, write_to}
use Rattle.lower_definition.specs.Operators.{only}
use Rattle.lower_definition.specs.Values.{Scope, Share, Valued, Passing, pointer, operand, then_passed, passed_array, arrays_passed, values_passed}
use Rattle.lower_values.specs.Computing.{after_instr, computed}
use Rattle.lower_values.proofs.Writing.{has_word, write_inside}
use Rattle.lower_values.specs.Meeting.{AreWords, IsBelow, MeetsWorld, Stands, array_value, array_values, passed_values}
use Rattle.lower_values.proofs.Elements.{from_value}
use Rattle.lower_values.proofs.Reading.{leads}
use Rattle.lower_values.proofs.Standing.{stands_after, computed_then}
use Rattle.lower_values.proofs.Values.{works, operand_found, operand_free}

-- a pointer to an array, or nothing
abbrev pointed : ℕ → ℕ → Valued
pointed n t = record { code = only (Do (Point t (record { base = Fixed n; offset = None; displacement = 0 }))); value = Register t; free = suc t }

abbrev unpointed : ℕ → Valued
unpointed t = record { code = []; value = Constant 0; free = t }

-- what a call is given leaves the registers from its end on free
module _ (scope : Scope) (shares : List Share) where
  array_free : (b : HighBase) (t : ℕ) → t ≤ (passed_array scope b t).free
  array_free (Object n) t = by_test (nat_lt n scope.objects)
    where
      by_test : (c : Bool) → t ≤ (if c then pointed n t else unpointed t).free
      by_test true = omega arith
      by_test false = omega arith
  array_free (Parameter j) t = omega arith

  arrays_free : (bs : List HighBase) (t : ℕ) → t ≤ (arrays_passed scope bs t).free
  arrays_free [] t = omega arith
  arrays_free (b ∷ bs) t = let a = array_free b t in let c = arrays_free bs (passed_array scope b t).free in omega (arith, a, c)

  pub values_free : (es : List Expr) (bs : List HighBase) (t : ℕ) → t ≤ (values_passed scope shares es bs t).free
  values_free [] bs t = arrays_free bs t
  values_free (e ∷ es) bs t = let a = operand_free scope shares e t in let c = values_free es bs (operand scope shares e t).free in omega (arith, a, c)

module _ (scope : Scope) (shares : List Share) (claims : List (List ℕ)) (u : World) (passed : List ℕ) (vars : high.Variables) (w : high.World) (meets : MeetsWorld scope w u) (words : AreWords vars) where
  -- code behind which an operand has a value, of any kind
  record Gets (x : Valued) (s : Bank) (t : ℕ) (v : Value) : Type 0 where
    store : Bank
    does : computed claims u x.code s ≡ Some store
    size : length store ≡ length s
    others : (q : ℕ) → q < t → slice_index_or store q None ≡ slice_index_or s q None
    value : operand_value virtual store x.value ≡ Some v
    below : IsBelow x.free x.value

  -- code behind which operands have values
  pub record Passes (p : Passing) (s : Bank) (t : ℕ) (xs : List Value) : Type 0 where
    pub store : Bank
    pub does : computed claims u p.code s ≡ Some store
    pub size : length store ≡ length s
    pub others : (q : ℕ) → q < t → slice_index_or store q None ≡ slice_index_or s q None
    pub values_are : values virtual store p.arguments ≡ Some xs

  still : (s s1 : Bank) (n : ℕ) (x : Operand ℕ) (v : Value) → IsBelow n x → ((q : ℕ) → q < n → slice_index_or s1 q None ≡ slice_index_or s q None) → operand_value virtual s x ≡ Some v → operand_value virtual s1 x ≡ Some v
  still s s1 n (Register r) v below same e = same r below ∙ e
  still s s1 n (Constant c) v below same e = e

  before : (x : Valued) (rest : ℕ → Passing) (s : Bank) (t : ℕ) (v : Value) (vs : List Value) → t ≤ x.free → (g : Gets x s t v) → Passes (rest x.free) g.store x.free vs → Passes (then_passed x rest) s t (v ∷ vs)
  before x rest s t v vs more g h = record {
    store = h.store;
    does = computed_then claims u x.code (rest x.free).code s g.store h.store g.does h.does;
    size = h.size ∙ g.size;
    others = λ q low. h.others q (omega (arith, low, more)) ∙ g.others q low;
    values_are =
        ap (λ o. values_cons o (values virtual h.store (rest x.free).arguments)) (still g.store h.store x.free x.value v g.below h.others g.value)
        ∙ ap (values_cons (Some v)) h.values_are;
  }

  point_after : (s : Bank) (t o : ℕ) → t < length s → after_instr claims u (Point t (record { base = Fixed o; offset = None; displacement = 0 })) s ≡ Some (slice_set s t (Some (Pointer o 0)))
  point_after s t o inside =
      let a : Address ℕ = record { base = Fixed o; offset = None; displacement = 0 } in
      let l = leads claims s (Fixed o) None 0 o 0 0 refl refl refl in
      let go : ℕ → ℕ → Option Did = λ q m. gives u (Pointer q m) in
      let write : Option Did → Option Bank = λ x. there x (λ f. write_to virtual s (Some t) f.value) in
      ap (λ xs. write (there xs (λ ys. resolved claims a ys go))) l.reads_are
      ∙ ap write (l.to go)
      ∙ write_inside s t (Pointer o 0) inside

  point_gets : (n : ℕ) (s : Bank) (t : ℕ) → Stands scope claims passed vars shares s t → (c : Bool) → nat_lt n scope.objects ≡ c → (if c then pointed n t else unpointed t).free ≤ length s → Gets (if c then pointed n t else unpointed t) s t (if c then Pointer n 0 else Word 0)
  point_gets n s t h false q room = record { store = s; does = refl; size = refl; others = λ q low. refl; value = refl; below = tt }
  point_gets n s t h true q room =
      let there_is : t < length s = omega (arith, room) in
      record {
        store = slice_set s t (Some (Pointer n 0));
        does = ap (λ x. there x (computed claims u [])) (point_after s t n there_is);
        size = length-set s t (Some (Pointer n 0));
        others = λ q low. get_or-set_other s t q (Some (Pointer n 0)) None (λ d. omega (arith, d, low));
        value = get_or-set_same s t (Some (Pointer n 0)) None there_is;
        below = omega arith;
      }

  array_gets : (b : HighBase) (o : ℕ) (s : Bank) (t : ℕ) → high.object_number passed b ≡ Some o → Stands scope claims passed vars shares s t → (passed_array scope b t).free ≤ length s → Gets (passed_array scope b t) s t (array_value scope.objects o)
  array_gets (Object n) o s t e h room =
      subst (λ m. Gets (passed_array scope (Object n) t) s t (array_value scope.objects m)) (same_Some n o e) (point_gets n s t h (nat_lt n scope.objects) refl room)
  array_gets (Parameter j) o s t e h room =
      let p = h.frame.pointers j o e in
      let within = slice_get_within passed j o e in
      let arrays = h.frame.arrays in
      let free = h.free in
      let test : nat_lt j (length scope.claims) ≡ true = grind (arith, nat_tests, within, arrays) in
      let is : (if nat_lt j (length scope.claims) then Register (pointer scope j) else Constant 0) ≡ Register (pointer scope j) = ap (λ c. if c then Register (pointer scope j) else Constant 0) test in
      record {
        store = s;
        does = refl;
        size = refl;
        others = λ q low. refl;
        value = ap (operand_value virtual s) is ∙ p.held;
        below = subst (IsBelow t) (sym is) (omega (arith, within, arrays, free));
      }

  pub arrays_pass : (bs : List HighBase) (ns : List ℕ) (s : Bank) (t : ℕ) → high.objects_of passed bs ≡ Some ns → Stands scope claims passed vars shares s t → (arrays_passed scope bs t).free ≤ length s → Passes (arrays_passed scope bs t) s t (array_values scope.objects ns)
  arrays_pass [] ns s t e h room =
      let same : [] ≡ ns = same_Some [] ns e in
      subst (λ ms. Passes (arrays_passed scope [] t) s t (array_values scope.objects ms)) same (record { store = s; does = refl; size = refl; others = λ q low. refl; values_are = refl })
  arrays_pass (b ∷ bs) ns s t e h room =
      let f = from_value (high.object_number passed b) (λ n. high.at_value (high.objects_of passed bs) (λ rest. Some (n ∷ rest))) ns e in
      let g = from_value (high.objects_of passed bs) (λ rest. Some (f.value ∷ rest)) ns f.then_is in
      let same : f.value ∷ g.value ≡ ns = same_Some (f.value ∷ g.value) ns g.then_is in
      let x = passed_array scope b t in
      let more = array_free scope shares b t in
      let further = arrays_free scope shares bs x.free in
      let a = array_gets b f.value s t f.is h (omega (arith, room, further)) in
      let size = a.size in
      subst (λ ms. Passes (arrays_passed scope (b ∷ bs) t) s t (array_values scope.objects ms)) same
      (before x (arrays_passed scope bs) s t (array_value scope.objects f.value) (array_values scope.objects g.value) more a
      (arrays_pass bs g.value a.store x.free g.is (stands_after scope claims passed vars shares s a.store t x.free h a.others more) (omega (arith, room, size))))

  pub values_pass : (es : List Expr) (bs : List HighBase) (vs ns : List ℕ) (s : Bank) (t : ℕ) → AreWordy es → high.values_of passed vars w es ≡ Some vs → high.objects_of passed bs ≡ Some ns → Stands scope claims passed vars shares s t → (values_passed scope shares es bs t).free ≤ length s → Passes (values_passed scope shares es bs t) s t (passed_values scope.objects vs ns)
  values_pass [] bs vs ns s t wordy e e2 h room =
      let same : [] ≡ vs = same_Some [] vs e in
      subst (λ ms. Passes (values_passed scope shares [] bs t) s t (passed_values scope.objects ms ns)) same (arrays_pass bs ns s t e2 h room)
  values_pass (x ∷ xs) bs vs ns s t wordy e e2 h room =
      let f = from_value (high.value_of passed vars w x) (λ v. high.at_value (high.values_of passed vars w xs) (λ rest. Some (v ∷ rest))) vs e in
      let g = from_value (high.values_of passed vars w xs) (λ rest. Some (f.value ∷ rest)) vs f.then_is in
      let same : f.value ∷ g.value ≡ vs = same_Some (f.value ∷ g.value) vs g.then_is in
      let y = operand scope shares x t in
      let more = operand_free scope shares x t in
      let further = values_free scope shares xs bs y.free in
      let k = works scope shares claims u passed vars w meets x wordy.0 f.value words f.is in
      let a = operand_found scope shares claims u passed vars w meets x f.value s t f.is k h (omega (arith, room, further)) in
      let s1 = a.finds.store in
      let size = a.finds.size in
      let got : Gets y s t (Word f.value) = record { store = s1; does = a.finds.does; size = size; others = a.finds.others; value = has_word s1 y.value f.value k.small a.finds.value; below = a.below } in
      subst (λ ms. Passes (values_passed scope shares (x ∷ xs) bs t) s t (passed_values scope.objects ms ns)) same
      (before y (values_passed scope shares xs bs) s t (Word f.value) (passed_values scope.objects g.value ns) more got
      (values_pass xs bs g.value ns s1 y.free wordy.1 g.is e2 (stands_after scope claims passed vars shares s s1 t y.free h a.finds.others more) (omega (arith, room, size))))
