-- The values of a list as the walk meets them.
use Rattle.std.proofs.Common.{◌≡◌, refl, ap, ◌∙◌, sym, ℕ, ◌+◌, ◌<◌, ◌≤◌, List, [], ◌∷◌, ◌++◌, length, get_or, drop, Option, Some, None, Bool, true, false, ◌||◌, arith}
use Rattle.std.specs.Prelude.{slice_get, is_none, Vec}
use Rattle.std.specs.Global.{Global}
use Rattle.std.proofs.lemmas.List.{drop_all}
use Rattle.std.proofs.lemmas.Option.{slice_get_past}
use Rattle.c_tree.specs.declared.expression.Expr as sources
use Rattle.c_tree.specs.Tree.{Exprs, NoExpr, AndExpr}
use Rattle.c_tree.specs.View.{expr_of as source_of, exprs_of as sources_of}
use Rattle.types_tree.specs.declared.expression.Expr as typed_code
use Rattle.types_tree.specs.Tree as typed
use Rattle.types_tree.specs.View.{expr_of}
use Rattle.types_value.specs.Kinds.{is_void}
use Rattle.types_value.specs.declared.kind.Kind.{Kind}
use Rattle.types_rules.specs.Constants.{constant_word}
use Rattle.types_rules.specs.DeclarationRules.{any_not_constant}
use Rattle.types_rules.specs.Scope.{Around, or_else}
use Rattle.types_rules.specs.Sights.{expr_nodes, first_fault, list_nodes}
use Rattle.types_rules.specs.Types.{count, kind_of, takes_array}
use Rattle.types_rules.specs.Typing.{value_at, values_at}
use Rattle.types_rules.specs.declared.fault.Fault.{Fault}
use Rattle.types_expression.proofs.Arguments.{any_void-exprs, before, before-none, before-push, drop_item, void_from}
use Rattle.types_expression.proofs.Choice.{or_else-assoc, or-assoc}
use Rattle.types_expression.proofs.FirstFault.{first_fault-append}
use Rattle.types_declaration.specs.Values.{AreValues}

abbrev pub typed_list : Kind → List sources.Expr → Around → typed.Exprs → typed.Exprs
typed_list kind [] a rest = rest
typed_list kind (e ∷ es) a rest = typed.WithExpr (value_at kind (source_of e) a) (typed_list kind es a rest)

abbrev pub fault_list : List sources.Expr → Around → Option Fault
fault_list [] a = None
fault_list (e ∷ es) a = or_else (first_fault (expr_nodes (source_of e) false a)) (fault_list es a)

abbrev pub not_constant_list : List sources.Expr → Bool
not_constant_list [] = false
not_constant_list (e ∷ es) = is_none (constant_word (source_of e)) || not_constant_list es

or-false : (b : Bool) → (b || false) ≡ b
or-false true = refl
or-false false = refl

or_else-none : {A : Type 0} (o : Option A) → or_else o None ≡ o
or_else-none (Some x) = refl
or_else-none None = refl

pub values_at-exprs : (kind : Kind) (front : Exprs ℕ) (es : List sources.Expr) (a : Around) (rest : typed.Exprs) → values_at kind (sources_of front es) a rest ≡ values_at kind front a (typed_list kind es a rest)
values_at-exprs kind front [] a rest = refl
values_at-exprs kind front (e ∷ es) a rest = values_at-exprs kind (AndExpr front (source_of e)) es a rest

pub any_not_constant-exprs : (front : Exprs ℕ) (es : List sources.Expr) → any_not_constant (sources_of front es) ≡ (any_not_constant front || not_constant_list es)
any_not_constant-exprs front [] = sym (or-false (any_not_constant front))
any_not_constant-exprs front (e ∷ es) = any_not_constant-exprs (AndExpr front (source_of e)) es ∙ or-assoc (any_not_constant front) (is_none (constant_word (source_of e))) (not_constant_list es)

no_param : (n : ℕ) → takes_array (slice_get [] n) ≡ false
no_param n = ap takes_array (slice_get_past [] n (omega arith))

pub list_fault-exprs : (front : Exprs ℕ) (es : List sources.Expr) (a : Around) → first_fault (list_nodes (sources_of front es) a) ≡ or_else (first_fault (list_nodes front a)) (fault_list es a)
list_fault-exprs front [] a = sym (or_else-none (first_fault (list_nodes front a)))
list_fault-exprs front (e ∷ es) a =
    list_fault-exprs (AndExpr front (source_of e)) es a
    ∙ ap (λ o. or_else o (fault_list es a)) (first_fault-append (list_nodes front a) (expr_nodes (source_of e) (takes_array (slice_get [] (count front))) a)
    ∙ ap (λ x. or_else (first_fault (list_nodes front a)) (first_fault (expr_nodes (source_of e) x a))) (no_param (count front)))
    ∙ or_else-assoc (first_fault (list_nodes front a)) (first_fault (expr_nodes (source_of e) false a)) (fault_list es a)

-- the loop over the values, behind those before i
pub record SoFar (kind : Kind) (given : List sources.Expr) (a : Around) (i : ℕ) (exprs : List typed_code.Expr) (void : Bool) (fault : Option Fault) : Type 0 where
  pub exprs_are : typed_list kind given a typed.NoExpr ≡ before exprs (typed_list kind (drop i given) a typed.NoExpr)
  pub void_is : void_from given a ≡ (void || void_from (drop i given) a)
  pub fault_is : fault_list given a ≡ or_else fault (fault_list (drop i given) a)

pub one_more : (kind : Kind) (given : List sources.Expr) (a : Around) (i : ℕ) (e : sources.Expr) (exprs : List typed_code.Expr) (expr : typed_code.Expr) (void void_now : Bool) (fault fault_now : Option Fault)
    → i < length given → e ≡ get_or given i e → SoFar kind given a i exprs void fault
    → expr_of expr ≡ value_at kind (source_of e) a → void_now ≡ is_void (kind_of (source_of e) a) → fault_now ≡ first_fault (expr_nodes (source_of e) false a)
    → SoFar kind given a (i + 1) (exprs ++ expr ∷ []) (void || void_now) (or_else fault fault_now)
one_more kind given a i e exprs expr void void_now fault fault_now h is s t v g =
    let split = drop_item given i e h is in
    let rest = drop (i + 1) given in
    record {
      exprs_are = s.exprs_are ∙ ap (λ es. before exprs (typed_list kind es a typed.NoExpr)) split
          ∙ ap (λ x. before exprs (typed.WithExpr x (typed_list kind rest a typed.NoExpr))) (sym t)
          ∙ sym (before-push exprs expr (typed_list kind rest a typed.NoExpr));
      void_is = s.void_is ∙ ap (λ es. void || void_from es a) split ∙ ap (λ b. void || (b || void_from rest a)) (sym v) ∙ sym (or-assoc void void_now (void_from rest a));
      fault_is = s.fault_is ∙ ap (λ es. or_else fault (fault_list es a)) split ∙ ap (λ o. or_else fault (or_else o (fault_list rest a))) (sym g) ∙ sym (or_else-assoc fault fault_now (fault_list rest a));
    }

pub all_so_far : (kind : Kind) (given : List sources.Expr) (a : Around) (i : ℕ) (exprs : Vec typed_code.Expr Global) (void : Bool) (fault : Option Fault)
    → length given ≤ i → SoFar kind given a i exprs.items void fault
    → AreValues (record { exprs = exprs; void = void; fault = fault }) kind (sources_of NoExpr given) a
all_so_far kind given a i exprs void fault all s =
    let end = drop_all i given all in
    record {
      exprs = sym (values_at-exprs kind NoExpr given a typed.NoExpr ∙ s.exprs_are ∙ ap (λ es. before exprs.items (typed_list kind es a typed.NoExpr)) end ∙ before-none exprs.items);
      void = sym (any_void-exprs NoExpr given a ∙ s.void_is ∙ ap (λ es. void || void_from es a) end ∙ or-false void);
      fault = sym (list_fault-exprs NoExpr given a ∙ s.fault_is ∙ ap (λ es. or_else fault (fault_list es a)) end ∙ or_else-none fault);
    }

pub none_left : (given : List sources.Expr) (i : ℕ) (found : Bool) → length given ≤ i → not_constant_list given ≡ (found || not_constant_list (drop i given)) → found ≡ any_not_constant (sources_of NoExpr given)
none_left given i found all s = sym (any_not_constant-exprs NoExpr given ∙ s ∙ ap (λ es. found || not_constant_list es) (drop_all i given all) ∙ or-false found)
