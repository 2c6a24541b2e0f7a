-- The typed program of a numbered source.
use Rattle.std.proofs.Common.{◌≡◌, ℕ, zero, suc, ◌+◌, ◌-◌, ◌*◌, ◌<◌, ◌≤◌, ◌||◌, not, Bool, true, false, nat_eq, cond, List, [], ◌∷◌, ◌++◌, length, Some, None, append_assoc, length-append, refl, sym, ap, ◌∙◌, arith}
use Rattle.std.specs.List.{position_or_len}
use Rattle.std.proofs.lemmas.Bool.{lt-ltb}
use Rattle.std.specs.Map.{lookup}
use Rattle.c_tree.specs.declared.expression.Specifier.TheVariants as words
use Rattle.types_tree.specs.Tree.{External, Defining, Defined, Function, Items, NoItem, Parameter, Program, Single}
use Rattle.types_tree.specs.declared.variable.Variable.{Variable}
use Rattle.types_value.specs.declared.kind.Kind.TheVariants.{Int}
use Rattle.types_rules.specs.Scope.{Outline, Scope, bound, index_of, is_among, or_zero, started}
use Rattle.types_rules.specs.Sights.{after_external}
use Rattle.types_rules.specs.Typing.{and_external, typed_function, typed_items, typed_row, typed_unit}
use Rattle.types_rules.specs.declared.scope.Binding.TheVariants.{Function as Called}
use Rattle.types_rules.specs.declared.scope.Routine.{Routine}
use Rattle.command_numbered.proofs.Trees as trees
use Rattle.command_numbered.proofs.Trees.{Places}
use Rattle.command_numbered.proofs.TypedFunctions.{numbers}
use Rattle.command_numbered.proofs.TypedMains.{before, main_type}
use Rattle.command_numbered.proofs.Numbers.{above, among_more, around, around_at, below, definitions_at, definitions_none, definitions_some, lookup_bound, lookup_push, loops_at, number, number_low, number_new, number_no_getchar, number_no_putchar, outline, routines_at, routines_none, routines_some, same, scope_at, scope_some, variable, variables_at}
use Rattle.command_numbered.proofs.Outlines.{variables_are}
use Rattle.command_numbered.proofs.Programs.{body_typed, definitions_long, functions_typed, main_body, main_function, typed_functions, variables_long}
use Rattle.command_numbered.proofs.Rows.{functions_after}
use Rattle.command_numbered.proofs.Units.{high, putchar_routine, putchar_scope}

-- what stands at file level: the functions by their numbers
abbrev pub defining : (from : ℕ) → ℕ → List External
defining from zero = []
defining from (suc m) = defining from m ++ Defining (from + m) ∷ []

-- the place of a number among definitions
place_first : (x : ℕ) (xs rest : List ℕ) → is_among x xs ≡ false → position_or_len (nat_eq x) (xs ++ x ∷ rest) ≡ length xs
place_first x [] rest none = ap (λ t. cond (not t) (1 + position_or_len (nat_eq x) rest) 0) (same x)
place_first x (y ∷ xs) rest none = by_test (place_first x xs rest) (nat_eq x y) none
  where
    by_test : (is_among x xs ≡ false → position_or_len (nat_eq x) (xs ++ x ∷ rest) ≡ length xs) → (t : Bool) → (t || is_among x xs) ≡ false → cond (not t) (1 + position_or_len (nat_eq x) (xs ++ x ∷ rest)) 0 ≡ suc (length xs)
    by_test more true k = absurd (cc)
    by_test more false k = let e = more k in omega (arith, e)

split_at : (j k : ℕ) (rest : List ℕ) → (m : ℕ) → m ≡ j + suc k → (after : List ℕ) × (definitions_at m ++ rest ≡ definitions_at j ++ number (suc j) ∷ after)
split_at j zero rest m e = let i : m ≡ suc j = omega (arith, e) in (rest, ap (λ i. definitions_at i ++ rest) i ∙ append_assoc (definitions_at j) (number (suc j) ∷ []) rest)
split_at j (suc k) rest zero e = absurd (omega (arith, e))
split_at j (suc k) rest (suc m) e =
    let inner = split_at j k (number (suc m) ∷ rest) m (omega (arith, e)) in
    (inner.0, append_assoc (definitions_at m) (number (suc m) ∷ []) rest ∙ inner.1)

found_at : (x i : ℕ) (xs : List ℕ) → position_or_len (nat_eq x) xs ≡ i → i < length xs → index_of x xs ≡ i
found_at x i xs e lt = rw e (ap (λ t. or_zero (cond t (Some i) None)) (lt-ltb i (length xs) lt))

pub place_of : (n j : ℕ) → j < n → index_of (number (suc j)) (outline n).definitions ≡ j
place_of n j lt =
    let parts = split_at j (n - suc j) ((n + 3) ∷ []) n (omega (arith, lt)) in
    let at : position_or_len (nat_eq (number (suc j))) (definitions_at n ++ (n + 3) ∷ []) ≡ j =
    ap (position_or_len (nat_eq (number (suc j)))) parts.1 ∙ place_first (number (suc j)) (definitions_at j) parts.0 (definitions_none (number (suc j)) j (number_new j)) ∙ definitions_long j in
    let long = length-append (definitions_at n) ((n + 3) ∷ []) in
    let own = definitions_long n in
    found_at (number (suc j)) j (definitions_at n ++ (n + 3) ∷ []) at (omega (arith, lt, long, own))

abbrev before_others : Function → List Function → List Function
before_others f fs = f ∷ fs

module _ (main putchar : ℕ) (o : Outline) (scope : Scope) (routines : List (ℕ × Routine)) (defined : List ℕ) (variables : List Variable) (loops n : ℕ) (p : Places) where
  main_shape : (rest : List Function) (b : Items) → lookup (nat_eq main) routines ≡ None → is_among main defined ≡ false
      → typed_items Int (trees.end (numbers main putchar) p.tail (trees.calls (numbers main putchar) number p.call (trees.start (numbers main putchar) p.head) n)) (before o (bound scope main Called) (routines ++ (main, main_type) ∷ []) (defined ++ main ∷ []) variables loops) NoItem ≡ b
      → typed_function (trees.main_of (numbers main putchar) number p n) (around o scope routines defined variables loops) rest
      ≡ Defined (words.Int ∷ []) main (p.head 1) (Parameter (words.Void ∷ []) None Single (p.head 3) ∷ []) (length variables) b (p.head 5) (p.head 0) ∷ rest
  main_shape rest b untyped undefined e = rw untyped (rw undefined (ap (λ items. before_others (Defined (words.Int ∷ []) main (p.head 1) (Parameter (words.Void ∷ []) None Single (p.head 3) ∷ []) (length variables) items (p.head 5) (p.head 0)) rest) e))

module _ (n : ℕ) (p : Places) where
  abbrev pub program : Program
  program = record {
    items = defining 0 n ++ Defining n ∷ [];
    functions = typed_functions p.function n ++ main_function (3 * n) (n + 3) p n ∷ [];
    variables = variables_at n ++ variable 3 ∷ [];
    at = p.function 1 0;
  }

  main_typed : (rest : List Function) → typed_function (trees.main_of (numbers (n + 3) (n + 4)) number p n) (around_at n n) rest ≡ main_function (3 * n) (n + 3) p n ∷ rest
  main_typed rest =
      let other : nat_eq (n + 4) (n + 3) ≡ false = below (n + 4) (n + 3) (omega arith) in
      let no_g : nat_eq (n + 3) (n + 5) ≡ false = above (n + 3) (n + 5) (omega arith) in
      let no_p : nat_eq (n + 3) (n + 4) ≡ false = above (n + 3) (n + 4) (omega arith) in
      let none = high n n (n + 3) (omega arith) (omega arith) in
      let body = body_typed (n + 3) (n + 4) (outline n) _ (routines_at n n ++ (n + 3, main_type) ∷ []) (definitions_at n ++ (n + 3) ∷ []) (variables_at n) (loops_at n) n
      (λ j lt. lookup_bound (number (suc j)) (n + 3) Called (scope_at n n) (above (number (suc j)) (n + 3) (number_low j n lt)) ∙ scope_some n j n lt)
      (λ j lt. lookup_push (number (suc j)) (routines_at n n) (n + 3) main_type (above (number (suc j)) (n + 3) (number_low j n lt)) ∙ routines_some n j n lt (omega arith))
      (λ j lt. among_more (number (suc j)) (n + 3) (definitions_at n) (definitions_some j n lt))
      (number_no_getchar n) (number_no_putchar n) (place_of n) p (below (n + 4) 3 (omega arith))
      (lookup_bound (n + 4) (n + 3) Called (scope_at n n) other ∙ putchar_scope n n (omega arith))
      (lookup_push (n + 4) (routines_at n n) (n + 3) main_type other ∙ putchar_routine n n (omega arith))
      (above (n + 4) (n + 5) (omega arith)) (same (n + 4)) in
      main_shape (n + 3) (n + 4) (outline n) (scope_at n n) (routines_at n n) (definitions_at n) (variables_at n) (loops_at n) n p rest (main_body (length (variables_at n)) p n)
      (routines_none n (n + 3) no_g no_p n none) (definitions_none (n + 3) n none) body
      ∙ ap (λ s. before_others (main_function s (n + 3) p n) rest) (variables_long n)

  externals_typed : (m : ℕ) → m ≤ n → (rest : List External) → typed_row after_external and_external (trees.functions (numbers (n + 3) (n + 4)) number p.function m) (started (outline n)) rest ≡ defining 0 m ++ rest
  externals_typed zero le rest = refl
  externals_typed (suc m) le rest =
      ap (λ a. typed_row after_external and_external (trees.functions (numbers (n + 3) (n + 4)) number p.function m) (started (outline n)) (Defining (length a.defined) ∷ rest)) (functions_after n p.function m (omega (arith, le)))
      ∙ ap (λ i. typed_row after_external and_external (trees.functions (numbers (n + 3) (n + 4)) number p.function m) (started (outline n)) (Defining i ∷ rest)) (definitions_long m ∙ omega arith)
      ∙ externals_typed m (omega (arith, le)) (Defining (0 + m) ∷ rest)
      ∙ sym (append_assoc (defining 0 m) (Defining (0 + m) ∷ []) rest)

  pub unit_typed : typed_unit (outline n) (trees.unit (numbers (n + 3) (n + 4)) number p n) ≡ program
  unit_typed = parts items functions (variables_are n p)
    where
      items : typed_row after_external and_external (trees.externals (numbers (n + 3) (n + 4)) number p n) (started (outline n)) [] ≡ defining 0 n ++ Defining n ∷ []
      items =
          ap (λ a. typed_row after_external and_external (trees.functions (numbers (n + 3) (n + 4)) number p.function n) (started (outline n)) (Defining (length a.defined) ∷ [])) (functions_after n p.function n (omega arith))
          ∙ ap (λ i. typed_row after_external and_external (trees.functions (numbers (n + 3) (n + 4)) number p.function n) (started (outline n)) (Defining i ∷ [])) (definitions_long n)
          ∙ externals_typed n (omega arith) (Defining n ∷ [])

      functions : typed_row after_external typed_function (trees.externals (numbers (n + 3) (n + 4)) number p n) (started (outline n)) [] ≡ typed_functions p.function n ++ main_function (3 * n) (n + 3) p n ∷ []
      functions =
          ap (λ a. typed_row after_external typed_function (trees.functions (numbers (n + 3) (n + 4)) number p.function n) (started (outline n)) (typed_function (trees.main_of (numbers (n + 3) (n + 4)) number p n) a [])) (functions_after n p.function n (omega arith))
          ∙ ap (λ fs. typed_row after_external typed_function (trees.functions (numbers (n + 3) (n + 4)) number p.function n) (started (outline n)) fs) (main_typed [])
          ∙ functions_typed n p.function n (omega arith) (main_function (3 * n) (n + 3) p n ∷ [])

      parts : {a b : List External} {c d : List Function} {e f : List Variable} → a ≡ b → c ≡ d → e ≡ f → ◌≡◌ {A = Program} (record { items = a; functions = c; variables = e; at = p.function 1 0 }) (record { items = b; functions = d; variables = f; at = p.function 1 0 })
      parts x y z = cc
