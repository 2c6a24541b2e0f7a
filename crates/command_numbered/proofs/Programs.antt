-- The typed form of a numbered source.
use Rattle.std.proofs.Common.{◌≡◌, ℕ, zero, suc, ◌+◌, ◌*◌, ◌<◌, ◌≤◌, true, false, nat_eq, List, [], ◌∷◌, ◌++◌, length, Some, None, append_assoc, length-append, refl, sym, ap, ◌∙◌, arith}
use Rattle.std.specs.Map.{lookup}
use Rattle.c_tree.specs.Tree as parsed
use Rattle.c_tree.specs.declared.expression.Specifier.TheVariants as words
use Rattle.c_tree.specs.declared.expression.PostfixOperator.TheVariants.{Increment}
use Rattle.types_tree.specs.Tree.{Scalar, Expr, Number, Read, Paren, Call, Step, Operate, Assign, NoExpr, WithExpr, Single, Absent, Value, Declared, Parameter, Objects, StartValue, Statement, Evaluate, For, Return, Items, NoItem, WithDeclaration, WithStatement, Function, Defined}
use Rattle.types_tree.specs.declared.expression.Callee.TheVariants.{Putchar, Function as Own}
use Rattle.types_tree.specs.declared.expression.Fix.TheVariants.{Postfix}
use Rattle.types_tree.specs.declared.variable.Variable.{Variable}
use Rattle.types_value.specs.declared.kind.Kind.TheVariants.{Int}
use Rattle.types_value.specs.declared.operator.Operator.TheVariants.{Multiply, Remainder, Add, Less}
use Rattle.types_rules.specs.Scope.{Outline, Scope, index_of, is_among, putchar_type, started}
use Rattle.types_rules.specs.Sights.{after_external}
use Rattle.types_rules.specs.StatementRules.{after_items}
use Rattle.types_rules.specs.Typing.{typed_function, typed_items, typed_row, typed_statement}
use Rattle.types_rules.specs.declared.scope.Binding.TheVariants.{Function as Called}
use Rattle.types_rules.specs.declared.scope.Routine.{Routine}
use Rattle.command_numbered.proofs.Trees as trees
use Rattle.command_numbered.proofs.Trees.{Places, bound_at, int}
use Rattle.command_numbered.proofs.TypedFunctions.{numbers}
use Rattle.command_numbered.proofs.TypedMains as of_main
use Rattle.command_numbered.proofs.TypedMains.{before, inside}
use Rattle.command_numbered.proofs.Numbers.{around, definitions_at, loops_at, number, number_s, outline, own_type, variable, variables_at}
use Rattle.command_numbered.proofs.Rows.{functions_after}

-- the objects of a function by their numbers, and the number of its loop
module _ (x k s l : ℕ) where
  abbrev pub step : (i : ℕ) → (q : ℕ → ℕ) → Expr
  step i q =
      Operate Remainder Int
      (Paren (Operate Add Int (Operate Multiply Int (Read (Scalar s (q 32))) (Number (int 5) (q 34)) (q 32)) (Number (int i) (q 36)) (q 32)) (q 31))
      (Number (int 1000) (q 39)) (q 31)

  abbrev pub loop : (i : ℕ) → (q : ℕ → ℕ) → Statement
  loop i q =
      For l (Some (bound_at (q 15)))
      (StartValue (Assign (Scalar k (q 18)) (Number (int 0) (q 20)) (q 18)))
      (Some (Operate Less Int (Read (Scalar k (q 22))) (Number (int 10) (q 24)) (q 22)))
      (Some (Step Postfix Increment Int (Scalar k (q 26)) (q 26)))
      (Evaluate (Assign (Scalar s (q 29)) (step i q) (q 29)) (q 29))
      (q 16)

  abbrev pub body : (i : ℕ) → (q : ℕ → ℕ) → Items
  body i q =
      WithDeclaration (Objects (words.Int ∷ []) (Declared k Single Absent (q 8) ∷ []) (q 7))
      (WithDeclaration (Objects (words.Int ∷ []) (Declared s Single (Value (Read (Scalar x (q 13)))) (q 11) ∷ []) (q 10))
      (WithStatement (loop i q)
      (WithStatement (Return (Some (Read (Scalar s (q 42)))) (q 41)) NoItem)))

  abbrev pub function : (f i : ℕ) → (q : ℕ → ℕ) → Function
  function f i q = Defined (words.Int ∷ []) f (q 1) (Parameter (words.Int ∷ []) (Some 1) Single (q 3) ∷ []) x (body i q) (q 6) (q 0)

pub same_function : {x y k l s t a b : ℕ} (f i : ℕ) (q : ℕ → ℕ) → x ≡ y → k ≡ l → s ≡ t → a ≡ b → function x k s a f i q ≡ function y l t b f i q
same_function f i q x k s a = cc

module _ (s : ℕ) where
  abbrev pub call : (j : ℕ) → (q : ℕ → ℕ) → Statement
  call j q = Evaluate (Assign (Scalar s (q 0)) (Call (Own (record { 0 = j })) (WithExpr (Read (Scalar s (q 4))) NoExpr) (q 2)) (q 0)) (q 0)

  -- calls of the first functions, before others
  abbrev pub calls : (q : ℕ → ℕ → ℕ) → (m : ℕ) → Items → Items
  calls q zero rest = rest
  calls q (suc m) rest = calls q m (WithStatement (call m (q (suc m))) rest)

  abbrev pub put : (q : ℕ → ℕ) → Statement
  put q = Evaluate (Call Putchar (WithExpr (Operate Add Int (Number (int 65) (q 2)) (Operate Remainder Int (Read (Scalar s (q 4))) (Number (int 26) (q 6)) (q 4)) (q 2)) NoExpr) (q 0)) (q 0)

  abbrev pub give : (q : ℕ → ℕ) → Statement
  give q = Return (Some (Operate Remainder Int (Read (Scalar s (q 10))) (Number (int 256) (q 12)) (q 10))) (q 9)

  abbrev pub main_body : Places → (n : ℕ) → Items
  main_body p n =
      WithDeclaration (Objects (words.Int ∷ []) (Declared s Single (Value (Number (int 1) (p.head 9))) (p.head 7) ∷ []) (p.head 6))
      (calls p.call n (WithStatement (put p.tail) (WithStatement (give p.tail) NoItem)))

  abbrev pub main_function : (main : ℕ) → Places → (n : ℕ) → Function
  main_function main p n = Defined (words.Int ∷ []) main (p.head 1) (Parameter (words.Void ∷ []) None Single (p.head 3) ∷ []) s (main_body p n) (p.head 5) (p.head 0)

module _ (main putchar : ℕ) (o : Outline) (scope : Scope) (routines : List (ℕ × Routine)) (defined : List ℕ) (variables : List Variable) (loops f i : ℕ) (q : ℕ → ℕ) where
  pub function_typed : (rest : List Function)
      → typed_function (trees.function (numbers main putchar) f i q) (around o scope routines defined variables loops) rest
      ≡ function (length variables) (length (variables ++ variable 1 ∷ [])) (length ((variables ++ variable 1 ∷ []) ++ variable 2 ∷ [])) (loops + 1) f i q ∷ rest
  function_typed rest = refl

module _ (main putchar : ℕ) (o : Outline) (scope : Scope) (routines : List (ℕ × Routine)) (defined : List ℕ) (variables : List Variable) (loops : ℕ) where
  call_typed : (f j : ℕ) (q : ℕ → ℕ) → nat_eq f 3 ≡ false → lookup (nat_eq f) scope ≡ Some Called → lookup (nat_eq f) routines ≡ Some own_type → is_among f o.definitions ≡ true
      → nat_eq f o.getchar ≡ false → nat_eq f o.putchar ≡ false → index_of f o.definitions ≡ j
      → typed_statement Int (trees.call (numbers main putchar) f q) (inside o scope routines defined variables loops) ≡ call (length variables) j q
  call_typed f j q other there typed known no_getchar no_putchar place = rw other (rw there (rw typed (rw no_getchar (rw no_putchar (rw place (rw known refl))))))

  put_typed : (q : ℕ → ℕ) → nat_eq putchar 3 ≡ false → lookup (nat_eq putchar) scope ≡ Some Called → lookup (nat_eq putchar) routines ≡ Some putchar_type → nat_eq putchar o.getchar ≡ false → nat_eq putchar o.putchar ≡ true
      → typed_statement Int (of_main.put main putchar q) (inside o scope routines defined variables loops) ≡ put (length variables) q
  put_typed q other there typed no_getchar is_putchar = rw other (rw there (rw typed (rw no_getchar (rw is_putchar refl))))

  abbrev items : (q : ℕ → ℕ) (p : ℕ → ℕ → ℕ) (m : ℕ) → parsed.Items ℕ
  items q p m = trees.calls (numbers main putchar) number p (trees.start (numbers main putchar) q) m

  calls_after : (q : ℕ → ℕ) (p : ℕ → ℕ → ℕ) (m : ℕ) → after_items (items q p m) (before o scope routines defined variables loops) ≡ inside o scope routines defined variables loops
  calls_after q p zero = refl
  calls_after q p (suc m) = calls_after q p m

  module _ (n : ℕ) (there : (j : ℕ) → j < n → lookup (nat_eq (number (suc j))) scope ≡ Some Called) (typed : (j : ℕ) → j < n → lookup (nat_eq (number (suc j))) routines ≡ Some own_type) (known : (j : ℕ) → j < n → is_among (number (suc j)) o.definitions ≡ true)
      (no_getchar : (j : ℕ) → j < n → nat_eq (number (suc j)) o.getchar ≡ false) (no_putchar : (j : ℕ) → j < n → nat_eq (number (suc j)) o.putchar ≡ false) (placed : (j : ℕ) → j < n → index_of (number (suc j)) o.definitions ≡ j) where
    calls_typed : (q : ℕ → ℕ) (p : ℕ → ℕ → ℕ) (m : ℕ) → m ≤ n → (rest : Items)
        → typed_items Int (items q p m) (before o scope routines defined variables loops) rest
        ≡ WithDeclaration (Objects (words.Int ∷ []) (Declared (length variables) Single (Value (Number (int 1) (q 9))) (q 7) ∷ []) (q 6)) (calls (length variables) p m rest)
    calls_typed q p zero le rest = refl
    calls_typed q p (suc m) le rest =
        let lt : m < n = omega (arith, le) in
        ap (λ a. typed_items Int (items q p m) (before o scope routines defined variables loops) (WithStatement (typed_statement Int (trees.call (numbers main putchar) (number (suc m)) (p (suc m))) a) rest)) (calls_after q p m)
        ∙ ap (λ st. typed_items Int (items q p m) (before o scope routines defined variables loops) (WithStatement st rest)) (call_typed (number (suc m)) m (p (suc m)) (number_s m) (there m lt) (typed m lt) (known m lt) (no_getchar m lt) (no_putchar m lt) (placed m lt))
        ∙ calls_typed q p m (omega (arith, le)) (WithStatement (call (length variables) m (p (suc m))) rest)

    pub body_typed : (p : Places) → nat_eq putchar 3 ≡ false → lookup (nat_eq putchar) scope ≡ Some Called → lookup (nat_eq putchar) routines ≡ Some putchar_type → nat_eq putchar o.getchar ≡ false → nat_eq putchar o.putchar ≡ true
        → typed_items Int (trees.end (numbers main putchar) p.tail (items p.head p.call n)) (before o scope routines defined variables loops) NoItem ≡ main_body (length variables) p n
    body_typed p other put_there put_is no_g is_p =
        ap (λ a. typed_items Int (items p.head p.call n) (before o scope routines defined variables loops) (WithStatement (typed_statement Int (of_main.put main putchar p.tail) a) (WithStatement (typed_statement Int (of_main.give main putchar p.tail) a) NoItem))) (calls_after p.head p.call n)
        ∙ ap (λ st. typed_items Int (items p.head p.call n) (before o scope routines defined variables loops) (WithStatement st (WithStatement (give (length variables) p.tail) NoItem))) (put_typed p.tail other put_there put_is no_g is_p)
        ∙ calls_typed p.head p.call n (omega arith) (WithStatement (put (length variables) p.tail) (WithStatement (give (length variables) p.tail) NoItem))

-- the numbers of functions, in the order of their definitions
pub definitions_long : (m : ℕ) → length (definitions_at m) ≡ m
definitions_long zero = refl
definitions_long (suc m) = length-append (definitions_at m) (number (suc m) ∷ []) ∙ (let rest = definitions_long m in omega (arith, rest))

pub variables_long : (m : ℕ) → length (variables_at m) ≡ 3 * m
variables_long zero = refl
variables_long (suc m) =
    let a = length-append (variables_at m) (variable 1 ∷ []) in
    let b = length-append (variables_at m ++ variable 1 ∷ []) (variable 2 ∷ []) in
    let c = length-append ((variables_at m ++ variable 1 ∷ []) ++ variable 2 ∷ []) (variable 3 ∷ []) in
    let rest = variables_long m in
    omega (arith, a, b, c, rest)

pub loops_are : (m : ℕ) → loops_at m ≡ m
loops_are zero = refl
loops_are (suc m) = let rest = loops_are m in omega (arith, rest)

-- the functions, by their numbers
abbrev pub typed_functions : (q : ℕ → ℕ → ℕ) → (m : ℕ) → List Function
typed_functions q zero = []
typed_functions q (suc m) = typed_functions q m ++ function (3 * m) (3 * m + 1) (3 * m + 2) (m + 1) (number (suc m)) (suc m) (q (suc m)) ∷ []

module _ (n : ℕ) (q : ℕ → ℕ → ℕ) where
  pub functions_typed : (m : ℕ) → m ≤ n → (rest : List Function) → typed_row after_external typed_function (trees.functions (numbers (n + 3) (n + 4)) number q m) (started (outline n)) rest ≡ typed_functions q m ++ rest
  functions_typed zero le rest = refl
  functions_typed (suc m) le rest =
      let one = function (3 * m) (3 * m + 1) (3 * m + 2) (m + 1) (number (suc m)) (suc m) (q (suc m)) in
      let x = variables_long m in
      let k = length-append (variables_at m) (variable 1 ∷ []) in
      let s = length-append (variables_at m ++ variable 1 ∷ []) (variable 2 ∷ []) in
      let l = loops_are m in
      ap (λ a. typed_row after_external typed_function (trees.functions (numbers (n + 3) (n + 4)) number q m) (started (outline n)) (typed_function (trees.function (numbers (n + 3) (n + 4)) (number (suc m)) (suc m) (q (suc m))) a rest)) (functions_after n q m (omega (arith, le)))
      ∙ ap (λ f. typed_row after_external typed_function (trees.functions (numbers (n + 3) (n + 4)) number q m) (started (outline n)) (f ∷ rest)) (same_function (number (suc m)) (suc m) (q (suc m)) x (omega (arith, x, k)) (omega (arith, x, k, s)) (omega (arith, l)))
      ∙ functions_typed m (omega (arith, le)) (one ∷ rest)
      ∙ sym (append_assoc (typed_functions q m) (one ∷ []) rest)
