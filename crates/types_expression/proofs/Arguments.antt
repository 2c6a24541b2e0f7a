-- The arguments of a call as the walk meets them: from one number on.
use Rattle.std.proofs.Common.{◌≡◌, refl, ap, ◌∙◌, sym, subst, ℕ, suc, ◌+◌, ◌<◌, ◌≤◌, List, [], ◌∷◌, ◌++◌, length, get_or, drop, Option, Some, None, Bool, true, false, ◌||◌, ◌&&◌, nat_eq, arith}
use Rattle.std.specs.Prelude.{slice_get, Vec}
use Rattle.std.specs.Global.{Global}
use Rattle.std.proofs.Math.Seq.{drop-cons}
use Rattle.std.proofs.lemmas.List.{drop_all}
use Rattle.c_tree.specs.declared.expression.Expr as sources
use Rattle.c_tree.specs.declared.expression.NameId.{NameId}
use Rattle.c_tree.specs.Tree.{Expr, Exprs, NoExpr, AndExpr}
use Rattle.c_tree.specs.View.{expr_of as source_of, exprs_of as sources_of}
use Rattle.c_tree.proofs.Rows.{call_view}
use Rattle.types_tree.specs.declared.expression.Expr as typed_code
use Rattle.types_tree.specs.Tree as typed
use Rattle.types_tree.specs.View.{expr_of, exprs_of}
use Rattle.types_value.specs.Kinds.{is_void}
use Rattle.types_rules.specs.Scope.{Around, or_else, params_of, result_of}
use Rattle.types_rules.specs.Types.{any_void, argument_fits, arguments_fit, callee, count, kind_of, takes_array}
use Rattle.types_rules.specs.Typing.{argument_of, callee_of, typed_arguments, typed_expr}
use Rattle.types_rules.specs.declared.fault.Fault.{Fault}
use Rattle.types_rules.specs.declared.scope.ParamType.{ParamType}
use Rattle.types_expression.specs.Walk.{fault_among, fault_in}
use Rattle.types_expression.specs.Checked.{AreChecked, IsChecked}
use Rattle.types_expression.specs.Breaks.{broken_rule, call_breaks, call_kind}
use Rattle.types_rules.specs.Sights.{fault_at}
use Rattle.types_expression.specs.declared.checked.Checked.{Checked}
use Rattle.types_expression.specs.declared.checked.CheckedArguments.{CheckedArguments}
use Rattle.types_expression.proofs.Choice.{or_else-assoc, or-assoc, and-assoc}

-- an argument of this number
abbrev pub typed_at : ℕ → sources.Expr → List ParamType → Around → typed.Expr
typed_at i e params a = argument_of (slice_get params i) (kind_of (source_of e) a) (typed_expr (source_of e) (takes_array (slice_get params i)) a)

abbrev pub typed_from : ℕ → List sources.Expr → List ParamType → Around → typed.Exprs → typed.Exprs
typed_from i [] params a rest = rest
typed_from i (e ∷ es) params a rest = typed.WithExpr (typed_at i e params a) (typed_from (i + 1) es params a rest)

abbrev pub void_from : List sources.Expr → Around → Bool
void_from [] a = false
void_from (e ∷ es) a = is_void (kind_of (source_of e) a) || void_from es a

abbrev pub fits_from : ℕ → List sources.Expr → List ParamType → Around → Bool
fits_from i [] params a = true
fits_from i (e ∷ es) params a = argument_fits (source_of e) (slice_get params i) a && fits_from (i + 1) es params a

abbrev pub fault_from : ℕ → List sources.Expr → List ParamType → Around → Option Fault
fault_from i [] params a = None
fault_from i (e ∷ es) params a = or_else (fault_in (source_of e) (takes_array (slice_get params i)) a) (fault_from (i + 1) es params a)

or-false : (b : Bool) → (b || false) ≡ b
or-false true = refl
or-false false = refl

and-true : (b : Bool) → (b && true) ≡ b
and-true true = refl
and-true false = refl

or_else-none : {A : Type 0} (o : Option A) → or_else o None ≡ o
or_else-none (Some x) = refl
or_else-none None = refl

pub typed_arguments-exprs : (front : Exprs ℕ) (es : List sources.Expr) (params : List ParamType) (a : Around) (rest : typed.Exprs) → typed_arguments (sources_of front es) params a rest ≡ typed_arguments front params a (typed_from (count front) es params a rest)
typed_arguments-exprs front [] params a rest = refl
typed_arguments-exprs front (e ∷ es) params a rest = typed_arguments-exprs (AndExpr front (source_of e)) es params a rest

pub any_void-exprs : (front : Exprs ℕ) (es : List sources.Expr) (a : Around) → any_void (sources_of front es) a ≡ (any_void front a || void_from es a)
any_void-exprs front [] a = sym (or-false (any_void front a))
any_void-exprs front (e ∷ es) a = any_void-exprs (AndExpr front (source_of e)) es a ∙ or-assoc (any_void front a) (is_void (kind_of (source_of e) a)) (void_from es a)

pub arguments_fit-exprs : (front : Exprs ℕ) (es : List sources.Expr) (params : List ParamType) (a : Around) → arguments_fit (sources_of front es) params a ≡ (arguments_fit front params a && fits_from (count front) es params a)
arguments_fit-exprs front [] params a = sym (and-true (arguments_fit front params a))
arguments_fit-exprs front (e ∷ es) params a =
    arguments_fit-exprs (AndExpr front (source_of e)) es params a
    ∙ and-assoc (arguments_fit front params a) (argument_fits (source_of e) (slice_get params (count front)) a) (fits_from (count front + 1) es params a)

pub fault_among-exprs : (front : Exprs ℕ) (es : List sources.Expr) (params : List ParamType) (a : Around) → fault_among (sources_of front es) params a ≡ or_else (fault_among front params a) (fault_from (count front) es params a)
fault_among-exprs front [] params a = sym (or_else-none (fault_among front params a))
fault_among-exprs front (e ∷ es) params a =
    fault_among-exprs (AndExpr front (source_of e)) es params a
    ∙ or_else-assoc (fault_among front params a) (fault_in (source_of e) (takes_array (slice_get params (count front))) a) (fault_from (count front + 1) es params a)

pub count-exprs : (front : Exprs ℕ) (es : List sources.Expr) → count (sources_of front es) ≡ count front + length es
count-exprs front [] = omega arith
count-exprs front (e ∷ es) = let h = count-exprs (AndExpr front (source_of e)) es in omega (arith, h)

-- typed expressions before others
abbrev pub before : List typed_code.Expr → typed.Exprs → typed.Exprs
before [] rest = rest
before (e ∷ es) rest = typed.WithExpr (expr_of e) (before es rest)

pub before-push : (es : List typed_code.Expr) (e : typed_code.Expr) (rest : typed.Exprs) → before (es ++ e ∷ []) rest ≡ before es (typed.WithExpr (expr_of e) rest)
before-push [] e rest = refl
before-push (x ∷ es) e rest = ap (typed.WithExpr (expr_of x)) (before-push es e rest)

pub before-none : (es : List typed_code.Expr) → before es typed.NoExpr ≡ exprs_of es
before-none [] = refl
before-none (e ∷ es) = ap (typed.WithExpr (expr_of e)) (before-none es)

pub drop_item : {A : Type 0} (xs : List A) (i : ℕ) (x : A) → i < length xs → x ≡ get_or xs i x → drop i xs ≡ x ∷ drop (i + 1) xs
drop_item xs i x h is =
    let e : i + 1 ≡ suc i = omega arith in
    drop-cons xs i x h ∙ ap (λ y. y ∷ drop (suc i) xs) (sym is) ∙ ap (λ n. x ∷ drop n xs) (sym e)

-- the loop over the arguments, behind those of numbers below i
pub record SoFar (given : List sources.Expr) (params : List ParamType) (a : Around) (i : ℕ) (exprs : List typed_code.Expr) (void fit : Bool) (fault : Option Fault) : Type 0 where
  pub exprs_are : typed_from 0 given params a typed.NoExpr ≡ before exprs (typed_from i (drop i given) params a typed.NoExpr)
  pub void_is : void_from given a ≡ (void || void_from (drop i given) a)
  pub fit_is : fits_from 0 given params a ≡ (fit && fits_from i (drop i given) params a)
  pub fault_is : fault_from 0 given params a ≡ or_else fault (fault_from i (drop i given) params a)

pub so_far : (given : List sources.Expr) (params : List ParamType) (a : Around) → SoFar given params a 0 [] false true None
so_far given params a = record { exprs_are = refl; void_is = refl; fit_is = refl; fault_is = refl }

pub one_more : (given : List sources.Expr) (params : List ParamType) (a : Around) (i : ℕ) (e : sources.Expr) (exprs : List typed_code.Expr) (expr : typed_code.Expr) (void fit void_now fits_now : Bool) (fault fault_now : Option Fault)
    → i < length given → e ≡ get_or given i e → SoFar given params a i exprs void fit fault
    → expr_of expr ≡ typed_at i e params a → void_now ≡ is_void (kind_of (source_of e) a) → fits_now ≡ argument_fits (source_of e) (slice_get params i) a → fault_now ≡ fault_in (source_of e) (takes_array (slice_get params i)) a
    → SoFar given params a (i + 1) (exprs ++ expr ∷ []) (void || void_now) (fit && fits_now) (or_else fault fault_now)
one_more given params a i e exprs expr void fit void_now fits_now fault fault_now h is s t v f g =
    let split = drop_item given i e h is in
    let rest = drop (i + 1) given in
    record {
      exprs_are = s.exprs_are ∙ ap (λ es. before exprs (typed_from i es params a typed.NoExpr)) split
          ∙ ap (λ x. before exprs (typed.WithExpr x (typed_from (i + 1) rest params a typed.NoExpr))) (sym t)
          ∙ sym (before-push exprs expr (typed_from (i + 1) rest params a typed.NoExpr));
      void_is = s.void_is ∙ ap (λ es. void || void_from es a) split ∙ ap (λ b. void || (b || void_from rest a)) (sym v) ∙ sym (or-assoc void void_now (void_from rest a));
      fit_is = s.fit_is ∙ ap (λ es. fit && fits_from i es params a) split ∙ ap (λ b. fit && (b && fits_from (i + 1) rest params a)) (sym f) ∙ sym (and-assoc fit fits_now (fits_from (i + 1) rest params a));
      fault_is = s.fault_is ∙ ap (λ es. or_else fault (fault_from i es params a)) split ∙ ap (λ o. or_else fault (or_else o (fault_from (i + 1) rest params a))) (sym g) ∙ sym (or_else-assoc fault fault_now (fault_from (i + 1) rest params a));
    }

-- behind the last argument
pub all_so_far : (given : List sources.Expr) (params : List ParamType) (a : Around) (i : ℕ) (exprs : Vec typed_code.Expr Global) (void fit whole : Bool) (fault : Option Fault)
    → length given ≤ i → SoFar given params a i exprs.items void fit fault → whole ≡ (nat_eq (length given) (length params) && fit)
    → AreChecked (record { exprs = exprs; void = void; fit = whole; fault = fault }) (sources_of NoExpr given) params a
all_so_far given params a i exprs void fit whole fault all s w =
    let end = drop_all i given all in
    record {
      exprs = sym (typed_arguments-exprs NoExpr given params a typed.NoExpr ∙ s.exprs_are ∙ ap (λ es. before exprs.items (typed_from i es params a typed.NoExpr)) end ∙ before-none exprs.items);
      void = sym (any_void-exprs NoExpr given a ∙ s.void_is ∙ ap (λ es. void || void_from es a) end ∙ or-false void);
      fit = w ∙ sym (ap (λ n. nat_eq n (length params) && arguments_fit (sources_of NoExpr given) params a) (count-exprs NoExpr given ∙ zero-plus (length given))
          ∙ ap (λ b. nat_eq (length given) (length params) && b) (arguments_fit-exprs NoExpr given params a ∙ s.fit_is ∙ ap (λ es. fit && fits_from i es params a) end ∙ and-true fit));
      fault = sym (fault_among-exprs NoExpr given params a ∙ s.fault_is ∙ ap (λ es. or_else fault (fault_from i es params a)) end ∙ or_else-none fault);
    }
  where
    zero-plus : (n : ℕ) → 0 + n ≡ n
    zero-plus n = omega arith

-- a call, by what is known of its arguments
pub checked_call : (function : NameId) (given : Vec sources.Expr Global) (at : ℕ) (as_array : Bool) (a : Around) (params : List ParamType) (inner : CheckedArguments) (r : Checked)
    → params ≡ params_of (callee function.0 a) → AreChecked inner (sources_of NoExpr given.items) params a
    → expr_of r.value.expr.value ≡ typed.Call (callee_of function.0 a.outline) (exprs_of inner.exprs.items) at
    → r.value.kind ≡ call_kind (call_breaks function.0 inner.fit inner.void a) (result_of (callee function.0 a))
    → r.fault ≡ or_else (fault_at (broken_rule (call_breaks function.0 inner.fit inner.void a)) at) inner.fault
    → IsChecked r (source_of (sources.Call function given at)) as_array a
checked_call function given at as_array a params inner r p c e k f =
    let P : Expr ℕ → Type 0 = λ x. IsChecked r x as_array a in
    subst P (sym (call_view function given at)) (record {
      expr = e ∙ ap (λ es. typed.Call (callee_of function.0 a.outline) es at) (c.exprs ∙ ap (λ ps. typed_arguments (sources_of NoExpr given.items) ps a typed.NoExpr) p);
      kind = k
          ∙ ap (λ v. call_kind (call_breaks function.0 inner.fit v a) (result_of (callee function.0 a))) c.void
          ∙ ap (λ b. call_kind (call_breaks function.0 b (any_void (sources_of NoExpr given.items) a) a) (result_of (callee function.0 a)))
          (c.fit ∙ ap (λ ps. nat_eq (count (sources_of NoExpr given.items)) (length ps) && arguments_fit (sources_of NoExpr given.items) ps a) p);
      fault = f
          ∙ ap (λ v. or_else (fault_at (broken_rule (call_breaks function.0 inner.fit v a)) at) inner.fault) c.void
          ∙ ap (λ b. or_else (fault_at (broken_rule (call_breaks function.0 b (any_void (sources_of NoExpr given.items) a) a)) at) inner.fault)
          (c.fit ∙ ap (λ ps. nat_eq (count (sources_of NoExpr given.items)) (length ps) && arguments_fit (sources_of NoExpr given.items) ps a) p)
          ∙ ap (or_else (fault_at (broken_rule (call_breaks function.0 (nat_eq (count (sources_of NoExpr given.items)) (length (params_of (callee function.0 a))) && arguments_fit (sources_of NoExpr given.items) (params_of (callee function.0 a)) a) (any_void (sources_of NoExpr given.items) a) a)) at))
          (c.fault ∙ ap (λ ps. fault_among (sources_of NoExpr given.items) ps a) p);
    })
