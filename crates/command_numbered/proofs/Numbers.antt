-- The numbers of the names of a numbered source, and what is visible behind so many of its functions.
use Rattle.std.proofs.Common.{◌≡◌, ◌≢◌, ◌⊎◌, inl, inr, ℕ, zero, suc, ◌+◌, ◌<◌, ◌≤◌, ◌||◌, Bool, true, false, nat_eq, cond, List, [], ◌∷◌, ◌++◌, Option, Some, None, refl, sym, ap, ◌∙◌, arith}
use Rattle.std.specs.Prelude.{if◌then◌else◌}
use Rattle.std.specs.Map.{lookup}
use Rattle.std.proofs.lemmas.Bool.{ne_eqb, eq-eqb, eqb-true, true≢false}
use Rattle.types_tree.specs.declared.variable.Variable.{Variable}
use Rattle.types_tree.specs.declared.variable.Duration.TheVariants.{Automatic}
use Rattle.types_tree.specs.declared.variable.Extent.TheVariants.{Scalar}
use Rattle.types_value.specs.declared.kind.Kind.TheVariants.{Int}
use Rattle.types_rules.specs.Scope.{Around, Outline, Scope, bound, getchar_type, putchar_type, is_among}
use Rattle.types_rules.specs.declared.scope.Binding.{Binding}
use Rattle.types_rules.specs.declared.scope.Binding.TheVariants.{Function as Called}
use Rattle.types_rules.specs.declared.scope.Routine.{Routine}

-- the number of a function's name: the first stands first, and behind it the three names that each function has
abbrev pub number : ℕ → ℕ
number zero = 0
number (suc zero) = 0
number (suc (suc m)) = m + 4

-- different functions have different numbers
pub numbers_differ : (i j : ℕ) → i ≢ j → nat_eq (number (suc i)) (number (suc j)) ≡ false
numbers_differ zero zero h = absurd (h refl)
numbers_differ zero (suc j) h = ne_eqb _ _ (λ e. omega (arith, e))
numbers_differ (suc i) zero h = ne_eqb _ _ (λ e. omega (arith, e))
numbers_differ (suc i) (suc j) h = ne_eqb _ _ (λ e. h (omega (arith, e)))

-- and none has one of these
pub number_low : (i n : ℕ) → i < n → number (suc i) < n + 3
number_low zero n lt = omega (arith, lt)
number_low (suc i) n lt = omega (arith, lt)

pub number_s : (i : ℕ) → nat_eq (number (suc i)) 3 ≡ false
number_s zero = refl
number_s (suc i) = ne_eqb _ _ (λ e. omega (arith, e))

pub above : (a b : ℕ) → a < b → nat_eq a b ≡ false
above a b lt = ne_eqb a b (λ e. omega (arith, lt, e))

pub below : (a b : ℕ) → b < a → nat_eq a b ≡ false
below a b lt = ne_eqb a b (λ e. omega (arith, lt, e))

pub same : (a : ℕ) → nat_eq a a ≡ true
same a = eq-eqb a a refl

-- what is known of a source of so many functions as a whole
abbrev pub definitions_at : ℕ → List ℕ
definitions_at zero = []
definitions_at (suc m) = definitions_at m ++ number (suc m) ∷ []

abbrev pub outline : ℕ → Outline
outline n = record { definitions = definitions_at n ++ (n + 3) ∷ []; main = n + 3; getchar = n + 5; putchar = n + 4 }

-- of one int to int
abbrev pub own_type : Routine
own_type = record { result = Int; params = record { kind = Int; is_array = false; is_const = false } ∷ [] }

abbrev pub variable : ℕ → Variable
variable name = record { name = record { 0 = name }; kind = Int; extent = Scalar; duration = Automatic }

module _ (n : ℕ) where
  abbrev pub scope_at : ℕ → Scope
  scope_at zero = (n + 5, Called) ∷ (n + 4, Called) ∷ []
  scope_at (suc m) = bound (scope_at m) (number (suc m)) Called

  abbrev pub routines_at : ℕ → List (ℕ × Routine)
  routines_at zero = (n + 5, getchar_type) ∷ (n + 4, putchar_type) ∷ []
  routines_at (suc m) = routines_at m ++ (number (suc m), own_type) ∷ []

abbrev pub variables_at : ℕ → List Variable
variables_at zero = []
variables_at (suc m) = ((variables_at m ++ variable 1 ∷ []) ++ variable 2 ∷ []) ++ variable 3 ∷ []

abbrev pub loops_at : ℕ → ℕ
loops_at zero = 0
loops_at (suc m) = loops_at m + 1

-- at file level
abbrev pub around : Outline → Scope → List (ℕ × Routine) → List ℕ → List Variable → ℕ → Around
around o scope routines defined variables loops = record { outline = o; outer = []; scope = scope; routines = routines; defined = defined; variables = variables; loops = loops; markers = 0 }

abbrev pub around_at : (n m : ℕ) → Around
around_at n m = around (outline n) (scope_at n m) (routines_at n m) (definitions_at m) (variables_at m) (loops_at m)

-- lookups

lookup_cons : {X : Type 0} (t : Bool) (v : X) (o : Option X) → t ≡ false → cond t (Some v) o ≡ o
lookup_cons true v o h = absurd (true≢false h)
lookup_cons false v o h = refl

pub lookup_bound : (x f : ℕ) (b : Binding) (scope : Scope) → nat_eq x f ≡ false → lookup (nat_eq x) (bound scope f b) ≡ lookup (nat_eq x) scope
lookup_bound x f b [] h = lookup_cons (nat_eq x f) b None h
lookup_bound x f b (entry ∷ rest) h = by_test (lookup_bound x f b rest h) (nat_eq f entry.0) refl
  where
    by_test : lookup (nat_eq x) (bound rest f b) ≡ lookup (nat_eq x) rest → (t : Bool) → nat_eq f entry.0 ≡ t → lookup (nat_eq x) (if t then (entry.0, b) ∷ rest else entry ∷ bound rest f b) ≡ lookup (nat_eq x) (entry ∷ rest)
    by_test more true e =
        let other : nat_eq x entry.0 ≡ false = ap (nat_eq x) (sym (eqb-true f entry.0 e)) ∙ h in
        lookup_cons (nat_eq x entry.0) b (lookup (nat_eq x) rest) other ∙ sym (lookup_cons (nat_eq x entry.0) entry.1 (lookup (nat_eq x) rest) other)
    by_test more false e = ap (λ o. cond (nat_eq x entry.0) (Some entry.1) o) more

pub lookup_same : (f : ℕ) (b : Binding) (scope : Scope) → lookup (nat_eq f) (bound scope f b) ≡ Some b
lookup_same f b [] = ap (λ t. cond t (Some b) None) (same f)
lookup_same f b (entry ∷ rest) = by_test (lookup_same f b rest) (nat_eq f entry.0) refl
  where
    by_test : lookup (nat_eq f) (bound rest f b) ≡ Some b → (t : Bool) → nat_eq f entry.0 ≡ t → lookup (nat_eq f) (if t then (entry.0, b) ∷ rest else entry ∷ bound rest f b) ≡ Some b
    by_test more true e = ap (λ t. cond t (Some b) (lookup (nat_eq f) rest)) e
    by_test more false e = lookup_cons (nat_eq f entry.0) entry.1 (lookup (nat_eq f) (bound rest f b)) e ∙ more

pub lookup_push : {X : Type 0} (x : ℕ) (xs : List (ℕ × X)) (f : ℕ) (v : X) → nat_eq x f ≡ false → lookup (nat_eq x) (xs ++ (f, v) ∷ []) ≡ lookup (nat_eq x) xs
lookup_push x [] f v h = lookup_cons (nat_eq x f) v None h
lookup_push x (entry ∷ rest) f v h = ap (λ o. cond (nat_eq x entry.0) (Some entry.1) o) (lookup_push x rest f v h)

pub lookup_last : {X : Type 0} (f : ℕ) (xs : List (ℕ × X)) (v : X) → lookup (nat_eq f) xs ≡ None → lookup (nat_eq f) (xs ++ (f, v) ∷ []) ≡ Some v
lookup_last f [] v h = ap (λ t. cond t (Some v) None) (same f)
lookup_last f (entry ∷ rest) v h = by_test (lookup_last f rest v) (nat_eq f entry.0) h
  where
    by_test : (lookup (nat_eq f) rest ≡ None → lookup (nat_eq f) (rest ++ (f, v) ∷ []) ≡ Some v) → (t : Bool) → cond t (Some entry.1) (lookup (nat_eq f) rest) ≡ None → cond t (Some entry.1) (lookup (nat_eq f) (rest ++ (f, v) ∷ [])) ≡ Some v
    by_test more true k = absurd (cc)
    by_test more false k = more k

pub among_push : (x f : ℕ) (xs : List ℕ) → nat_eq x f ≡ false → is_among x (xs ++ f ∷ []) ≡ is_among x xs
among_push x f [] h = ap (λ t. t || false) h
among_push x f (y ∷ xs) h = ap (λ t. nat_eq x y || t) (among_push x f xs h)

pub among_last : (f : ℕ) (xs : List ℕ) → is_among f (xs ++ f ∷ []) ≡ true
among_last f [] = ap (λ t. t || false) (same f)
among_last f (y ∷ xs) = by_test (among_last f xs) (nat_eq f y)
  where
    by_test : is_among f (xs ++ f ∷ []) ≡ true → (t : Bool) → (t || is_among f (xs ++ f ∷ [])) ≡ true
    by_test more true = refl
    by_test more false = more

pub among_more : (x f : ℕ) (xs : List ℕ) → is_among x xs ≡ true → is_among x (xs ++ f ∷ []) ≡ true
among_more x f [] h = absurd (true≢false (sym h))
among_more x f (y ∷ xs) h = by_test (among_more x f xs) (nat_eq x y) h
  where
    by_test : (is_among x xs ≡ true → is_among x (xs ++ f ∷ []) ≡ true) → (t : Bool) → (t || is_among x xs) ≡ true → (t || is_among x (xs ++ f ∷ [])) ≡ true
    by_test more true k = refl
    by_test more false k = more k

-- one that is none of the first functions

abbrev pub IsNone : (m x : ℕ) → Type 0
IsNone m x = (j : ℕ) → j < m → nat_eq x (number (suc j)) ≡ false

less : (m x : ℕ) → IsNone (suc m) x → IsNone m x
less m x h j lt = h j (omega (arith, lt))

module _ (n x : ℕ) (no_getchar : nat_eq x (n + 5) ≡ false) (no_putchar : nat_eq x (n + 4) ≡ false) where
  pub scope_none : (m : ℕ) → IsNone m x → lookup (nat_eq x) (scope_at n m) ≡ None
  scope_none zero h = rw no_getchar (rw no_putchar refl)
  scope_none (suc m) h = lookup_bound x (number (suc m)) Called (scope_at n m) (h m (omega arith)) ∙ scope_none m (less m x h)

  pub routines_none : (m : ℕ) → IsNone m x → lookup (nat_eq x) (routines_at n m) ≡ None
  routines_none zero h = rw no_getchar (rw no_putchar refl)
  routines_none (suc m) h = lookup_push x (routines_at n m) (number (suc m)) own_type (h m (omega arith)) ∙ routines_none m (less m x h)

pub definitions_none : (x m : ℕ) → IsNone m x → is_among x (definitions_at m) ≡ false
definitions_none x zero h = refl
definitions_none x (suc m) h = among_push x (number (suc m)) (definitions_at m) (h m (omega arith)) ∙ definitions_none x m (less m x h)

pub number_new : (m : ℕ) → IsNone m (number (suc m))
number_new m j lt = numbers_differ m j (λ e. omega (arith, lt, e))

-- one of the first functions

last_or : (j m : ℕ) → j < suc m → (j ≡ m) ⊎ (j < m)
last_or j m lt = grind arith

pub scope_some : (n j m : ℕ) → j < m → lookup (nat_eq (number (suc j))) (scope_at n m) ≡ Some Called
scope_some n j zero lt = absurd (omega (arith, lt))
scope_some n j (suc m) lt = elim (last_or j m lt) [
  | inl e ↦ ap (λ i. lookup (nat_eq (number (suc i))) (scope_at n (suc m))) e ∙ lookup_same (number (suc m)) Called (scope_at n m)
  | inr k ↦ lookup_bound (number (suc j)) (number (suc m)) Called (scope_at n m) (numbers_differ j m (λ e. omega (arith, k, e))) ∙ scope_some n j m k
]

pub definitions_some : (j m : ℕ) → j < m → is_among (number (suc j)) (definitions_at m) ≡ true
definitions_some j zero lt = absurd (omega (arith, lt))
definitions_some j (suc m) lt = elim (last_or j m lt) [
  | inl e ↦ ap (λ i. is_among (number (suc i)) (definitions_at (suc m))) e ∙ among_last (number (suc m)) (definitions_at m)
  | inr k ↦ among_more (number (suc j)) (number (suc m)) (definitions_at m) (definitions_some j m k)
]

no_library : (n j : ℕ) → j < n → (nat_eq (number (suc j)) (n + 5) ≡ false) × (nat_eq (number (suc j)) (n + 4) ≡ false)
no_library n j lt = let low = number_low j n lt in (above _ _ (omega (arith, low)), above _ _ (omega (arith, low)))

pub number_no_getchar : (n j : ℕ) → j < n → nat_eq (number (suc j)) (n + 5) ≡ false
number_no_getchar n j lt = (no_library n j lt).0

pub number_no_putchar : (n j : ℕ) → j < n → nat_eq (number (suc j)) (n + 4) ≡ false
number_no_putchar n j lt = (no_library n j lt).1

pub routines_some : (n j m : ℕ) → j < m → m ≤ n → lookup (nat_eq (number (suc j))) (routines_at n m) ≡ Some own_type
routines_some n j zero lt within = absurd (omega (arith, lt))
routines_some n j (suc m) lt within = elim (last_or j m lt) [
  | inl e ↦
      ap (λ i. lookup (nat_eq (number (suc i))) (routines_at n (suc m))) e
      ∙ lookup_last (number (suc m)) (routines_at n m) own_type (routines_none n (number (suc m)) (number_no_getchar n m (omega (arith, within))) (number_no_putchar n m (omega (arith, within))) m (number_new m))
  | inr k ↦ lookup_push (number (suc j)) (routines_at n m) (number (suc m)) own_type (numbers_differ j m (λ e. omega (arith, k, e))) ∙ routines_some n j m k (omega (arith, within))
]
