-- What holds at nodes at which no rule fails.
use Rattle.std.proofs.Common.{◌≡◌, refl, ap, ◌∙◌, sym, ℕ, Bool, true, false, List, [], ◌∷◌, ◌++◌, Option, Some, None}
use Rattle.std.proofs.lemmas.Option.{none-some}
use Rattle.c_tree.specs.Tree.{Expr}
use Rattle.c_tree.specs.Formed.{place}
use Rattle.types_rules.specs.ExpressionRules.{calls_undefined, expr_rule, has_wrong_words, is_undeclared, misuses_array, misuses_function, uses_void, when, writes_no_place}
use Rattle.types_rules.specs.Scope.{Around, or_else}
use Rattle.types_rules.specs.Sights.{Node, SeenExpr, fault_at, first_fault, node_fault}
use Rattle.types_rules.specs.declared.fault.Rule.{Rule}
use Rattle.types_rules.specs.declared.fault.Rule.TheVariants as rules

pub none_first : {A : Type 0} (a b : Option A) → or_else a b ≡ None → a ≡ None
none_first None b h = refl
none_first (Some x) b h = h

pub none_second : {A : Type 0} (a b : Option A) → or_else a b ≡ None → b ≡ None
none_second None b h = h
none_second (Some x) b h = absurd (none-some x (sym h))

pub no_rule : (o : Option Rule) (at : ℕ) → fault_at o at ≡ None → o ≡ None
no_rule None at h = refl
no_rule (Some rule) at h = absurd (none-some (record { rule = rule; at = at }) (sym h))

pub not_when : (b : Bool) (rule : Rule) → when b rule ≡ None → b ≡ false
not_when true rule h = absurd (none-some rule (sym h))
not_when false rule h = refl

-- nodes at which no rule fails
abbrev pub NoFault : List Node → Type 0
NoFault nodes = first_fault nodes ≡ None

pub faultless_first : (xs ys : List Node) → NoFault (xs ++ ys) → NoFault xs
faultless_first [] ys h = refl
faultless_first (x ∷ xs) ys h =
    let own = none_first (node_fault x) (first_fault (xs ++ ys)) h in
    let rest = none_second (node_fault x) (first_fault (xs ++ ys)) h in
    ap (λ o. or_else o (first_fault xs)) own ∙ faultless_first xs ys rest

pub faultless_second : (xs ys : List Node) → NoFault (xs ++ ys) → NoFault ys
faultless_second [] ys h = h
faultless_second (x ∷ xs) ys h = faultless_second xs ys (none_second (node_fault x) (first_fault (xs ++ ys)) h)

-- no rule fails at an expression by itself
pub record KeepsRules (e : Expr ℕ) (x : Bool) (a : Around) : Type 0 where
  pub words : has_wrong_words e a ≡ false
  pub declared : is_undeclared e a ≡ false
  pub array : misuses_array e x a ≡ false
  pub call : misuses_function e a ≡ false
  pub void : uses_void e a ≡ false
  pub place : writes_no_place e a ≡ false
  pub defined : calls_undefined e a ≡ false

keeps : (e : Expr ℕ) (x : Bool) (a : Around) → expr_rule e x a ≡ None → KeepsRules e x a
keeps e x a h =
    let o7 = when (calls_undefined e a) rules.Undefined in
    let o6 = or_else (when (writes_no_place e a) rules.Assigned) o7 in
    let o5 = or_else (when (uses_void e a) rules.Void) o6 in
    let o4 = or_else (when (misuses_function e a) rules.Call) o5 in
    let o3 = or_else (when (misuses_array e x a) rules.Array) o4 in
    let o2 = or_else (when (is_undeclared e a) rules.Undeclared) o3 in
    let h2 = none_second (when (has_wrong_words e a) rules.Specifiers) o2 h in
    let h3 = none_second (when (is_undeclared e a) rules.Undeclared) o3 h2 in
    let h4 = none_second (when (misuses_array e x a) rules.Array) o4 h3 in
    let h5 = none_second (when (misuses_function e a) rules.Call) o5 h4 in
    let h6 = none_second (when (uses_void e a) rules.Void) o6 h5 in
    let h7 = none_second (when (writes_no_place e a) rules.Assigned) o7 h6 in
    record {
      words = not_when (has_wrong_words e a) rules.Specifiers (none_first (when (has_wrong_words e a) rules.Specifiers) o2 h);
      declared = not_when (is_undeclared e a) rules.Undeclared (none_first (when (is_undeclared e a) rules.Undeclared) o3 h2);
      array = not_when (misuses_array e x a) rules.Array (none_first (when (misuses_array e x a) rules.Array) o4 h3);
      call = not_when (misuses_function e a) rules.Call (none_first (when (misuses_function e a) rules.Call) o5 h4);
      void = not_when (uses_void e a) rules.Void (none_first (when (uses_void e a) rules.Void) o6 h5);
      place = not_when (writes_no_place e a) rules.Assigned (none_first (when (writes_no_place e a) rules.Assigned) o7 h6);
      defined = not_when (calls_undefined e a) rules.Undefined h7;
    }

pub keeps_rules : (e : Expr ℕ) (x : Bool) (a : Around) (rest : List Node) → NoFault (SeenExpr e x a ∷ rest) → KeepsRules e x a
keeps_rules e x a rest h = keeps e x a (no_rule (expr_rule e x a) (place e) (none_first (fault_at (expr_rule e x a) (place e)) (first_fault rest) h))

pub parts_keep : (node : Node) (rest : List Node) → NoFault (node ∷ rest) → NoFault rest
parts_keep node rest h = none_second (node_fault node) (first_fault rest) h
