-- The function `main` of a numbered source breaks no rule.
use Rattle.std.proofs.Common.{◌≡◌, ℕ, zero, suc, ◌<◌, ◌≤◌, true, false, nat_eq, List, [], ◌∷◌, ◌++◌, length, Some, None, refl, ap, ◌∙◌, arith}
use Rattle.std.specs.Map.{lookup}
use Rattle.c_tree.specs.declared.expression.BinaryOperator.TheVariants as binary
use Rattle.c_tree.specs.Tree.{Statement, Evaluate, Call, Binary, Number, Name, Return, NoExpr, AndExpr, AndStatement}
use Rattle.types_tree.specs.declared.variable.Variable.{Variable}
use Rattle.types_value.specs.declared.kind.Kind.TheVariants.{Int}
use Rattle.types_rules.specs.Scope.{Around, Outline, Scope, bound, is_among, putchar_type}
use Rattle.types_rules.specs.Sights.{external_nodes, first_fault, items_nodes, statement_nodes}
use Rattle.types_rules.specs.StatementRules.{after_items, in_function}
use Rattle.types_rules.specs.Types.{has_definition}
use Rattle.types_rules.specs.declared.scope.Binding.TheVariants.{Function as Called, Object}
use Rattle.types_rules.specs.declared.scope.Routine.{Routine}
use Rattle.command_numbered.proofs.Trees.{Places, call, calls, end, int, main_of, start}
use Rattle.command_numbered.proofs.TypedFunctions.{numbers}
use Rattle.command_numbered.proofs.Numbers.{around, number, number_s, own_type, variable}
use Rattle.command_numbered.proofs.Rows.{none_both}

-- of no parameter
abbrev pub main_type : Routine
main_type = record { result = Int; params = [] }

module _ (o : Outline) (scope : Scope) (routines : List (ℕ × Routine)) (defined : List ℕ) (variables : List Variable) (loops : ℕ) where
  -- within `main`, before its object
  abbrev pub before : Around
  before = record { outline = o; outer = scope ∷ []; scope = []; routines = routines; defined = defined; variables = variables; loops = loops; markers = 0 }

  -- and behind it
  abbrev pub inside : Around
  inside = record {
    outline = o;
    outer = scope ∷ [];
    scope = (3, Object (record { 0 = length variables }) Int false false) ∷ [];
    routines = routines;
    defined = defined;
    variables = variables ++ variable 3 ∷ [];
    loops = loops;
    markers = 0;
  }

module _ (main putchar : ℕ) where
  -- putchar(65 + s % 26)
  abbrev pub put : (q : ℕ → ℕ) → Statement ℕ
  put q = Evaluate (Call putchar (AndExpr NoExpr (Binary binary.Add (Number (int 65) (q 2)) (Binary binary.Remainder (Name 3 (q 4)) (Number (int 26) (q 6)) (q 4)) (q 2))) (q 0)) (q 0)

  abbrev pub give : (q : ℕ → ℕ) → Statement ℕ
  give q = Return (Some (Binary binary.Remainder (Name 3 (q 10)) (Number (int 256) (q 12)) (q 10))) (q 9)

  module _ (o : Outline) (scope : Scope) (routines : List (ℕ × Routine)) (defined : List ℕ) (variables : List Variable) (loops : ℕ) where
    -- a call of a function
    pub call_passes : (f : ℕ) (q : ℕ → ℕ) → nat_eq f 3 ≡ false → lookup (nat_eq f) scope ≡ Some Called → lookup (nat_eq f) routines ≡ Some own_type → has_definition f o ≡ true
        → first_fault (statement_nodes (call (numbers main putchar) f q) (inside o scope routines defined variables loops) (in_function Int)) ≡ None
    call_passes f q other there typed known = rw other (rw there (rw typed (rw known refl)))

    pub put_passes : (q : ℕ → ℕ) → nat_eq putchar 3 ≡ false → lookup (nat_eq putchar) scope ≡ Some Called → lookup (nat_eq putchar) routines ≡ Some putchar_type → has_definition putchar o ≡ true
        → first_fault (statement_nodes (put q) (inside o scope routines defined variables loops) (in_function Int)) ≡ None
    put_passes q other there typed known = rw other (rw there (rw typed (rw known refl)))

    calls_after : (q : ℕ → ℕ) (p : ℕ → ℕ → ℕ) (m : ℕ) → after_items (calls (numbers main putchar) number p (start (numbers main putchar) q) m) (before o scope routines defined variables loops) ≡ inside o scope routines defined variables loops
    calls_after q p zero = refl
    calls_after q p (suc m) = calls_after q p m

    module _ (n : ℕ) (there : (j : ℕ) → j < n → lookup (nat_eq (number (suc j))) scope ≡ Some Called) (typed : (j : ℕ) → j < n → lookup (nat_eq (number (suc j))) routines ≡ Some own_type) (known : (j : ℕ) → j < n → has_definition (number (suc j)) o ≡ true) where
      calls_pass : (q : ℕ → ℕ) (p : ℕ → ℕ → ℕ) (m : ℕ) → m ≤ n → first_fault (items_nodes (calls (numbers main putchar) number p (start (numbers main putchar) q) m) (before o scope routines defined variables loops) (in_function Int)) ≡ None
      calls_pass q p zero le = refl
      calls_pass q p (suc m) le =
          let lt : m < n = omega (arith, le) in
          let items = calls (numbers main putchar) number p (start (numbers main putchar) q) m in
          let one = call (numbers main putchar) (number (suc m)) (p (suc m)) in
          none_both (items_nodes items (before o scope routines defined variables loops) (in_function Int)) (statement_nodes one (after_items items (before o scope routines defined variables loops)) (in_function Int))
          (calls_pass q p m (omega (arith, le)))
          (ap (λ a. first_fault (statement_nodes one a (in_function Int))) (calls_after q p m) ∙ call_passes (number (suc m)) (p (suc m)) (number_s m) (there m lt) (typed m lt) (known m lt))

      pub body_passes : (q t : ℕ → ℕ) (p : ℕ → ℕ → ℕ) → nat_eq putchar 3 ≡ false → lookup (nat_eq putchar) scope ≡ Some Called → lookup (nat_eq putchar) routines ≡ Some putchar_type → has_definition putchar o ≡ true
          → first_fault (items_nodes (end (numbers main putchar) t (calls (numbers main putchar) number p (start (numbers main putchar) q) n)) (before o scope routines defined variables loops) (in_function Int)) ≡ None
      body_passes q t p other put_there put_typed put_known =
          let items = calls (numbers main putchar) number p (start (numbers main putchar) q) n in
          let b = before o scope routines defined variables loops in
          none_both (items_nodes (AndStatement items (put t)) b (in_function Int)) (statement_nodes (give t) (after_items (AndStatement items (put t)) b) (in_function Int))
          (none_both (items_nodes items b (in_function Int)) (statement_nodes (put t) (after_items items b) (in_function Int))
          (calls_pass q p n (omega arith))
          (ap (λ a. first_fault (statement_nodes (put t) a (in_function Int))) (calls_after q p n) ∙ put_passes t other put_there put_typed put_known))
          (ap (λ a. first_fault (statement_nodes (give t) a (in_function Int))) (calls_after q p n))

  -- `main` itself
  module _ (o : Outline) (scope : Scope) (routines : List (ℕ × Routine)) (defined : List ℕ) (variables : List Variable) (loops : ℕ)
      (new : lookup (nat_eq main) scope ≡ None) (untyped : lookup (nat_eq main) routines ≡ None) (undefined : is_among main defined ≡ false) where
    abbrev inner : Around
    inner = before o (bound scope main Called) (routines ++ (main, main_type) ∷ []) (defined ++ main ∷ []) variables loops

    pub main_passes : (p : Places) (n : ℕ) → nat_eq main o.getchar ≡ false → nat_eq main o.putchar ≡ false
        → first_fault (items_nodes (end (numbers main putchar) p.tail (calls (numbers main putchar) number p.call (start (numbers main putchar) p.head) n)) inner (in_function Int)) ≡ None
        → first_fault (external_nodes (main_of (numbers main putchar) number p n) (around o scope routines defined variables loops)) ≡ None
    main_passes p n no_getchar no_putchar body = rw new (rw untyped (rw undefined (rw no_getchar (rw no_putchar body))))
