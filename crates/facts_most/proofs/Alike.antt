-- Counts depend on those of the functions that are called alone: what is alike of these is alike of all.
use Rattle.std.proofs.Common.{refl, ℕ, ◌+◌, ◌*◌, List, [], ◌∷◌, ◌++◌, inl, inr, Bool, true, false}
use Rattle.std.specs.Prelude.{Option, Some, None, if◌then◌else◌}
use Rattle.types_calls.specs.Calls.{called, declaration_calls, expr_calls, exprs_calls, function_calls, initial_calls, items_calls, label_calls, object_calls, objects_calls, option_calls, param_calls, params_calls, place_calls, shape_calls, start_calls, statement_calls}
use Rattle.types_calls.specs.Chains.{Among}
use Rattle.facts_definitions.specs.Most.{bounds_at, call_most, declaration_most, expr_most, exprs_most, filling_most, function_most, initial_most, is_lone_void, items_most, label_most, list_most, object_most, objects_most, option_most, param_most, params_most, place_most, shape_most, start_most, statement_most, times}
use Rattle.facts_definitions.specs.Starts.{is_always, is_always_or_absent}
use Rattle.facts_definitions.specs.declared.facts.Bounds.{Bounds}
use Rattle.types_tree.specs.declared.expression.Callee.{Callee}
use Rattle.types_tree.specs.declared.expression.Callee.TheVariants.{Getchar, Putchar, Function as Own}
use Rattle.types_tree.specs.Tree.{Place, Scalar, Element, Within, Expr, Number, Character, Read, Array, Paren, Call, Step, Signed, Cast, Convert, Operate, And, Or, Comma, Conditional, Assign, Update, Exprs, NoExpr, WithExpr, Shape, Single, Unsized, Sized, Initial, Absent, Value, Listed, Object, Declared, Param, Parameter, Declaration, Objects, Prototype, Label, Case, Default, ForStart, NoStart, StartValue, StartDeclaration, Statement, Block, Empty, Evaluate, Marker, If, IfElse, While, Do, For, Switch, Break, Continue, Return, Items, NoItem, WithDeclaration, WithStatement, WithRestriction, WithLabel, Function, Defined}

-- a relation of numbers that sums and products keep
pub record Alike (R : ℕ → ℕ → Type 0) : Type 0 where
  pub same : (n : ℕ) → R n n
  pub sums : (a b c d : ℕ) → R a b → R c d → R (a + c) (b + d)
  pub products : (n a b : ℕ) → R a b → R (n * a) (n * b)

-- two counts of functions are alike at each of these
pub record Agree (R : ℕ → ℕ → Type 0) (s t : ℕ → ℕ) (gs : List ℕ) : Type 0 where
  pub here : (g : ℕ) → Among g gs → R (s g) (t g)

among_left : (g : ℕ) (xs ys : List ℕ) → Among g xs → Among g (xs ++ ys)
among_left g [] ys a = absurd a
among_left g (x ∷ xs) ys (inl e) = inl e
among_left g (x ∷ xs) ys (inr a) = inr (among_left g xs ys a)

among_right : (g : ℕ) (xs ys : List ℕ) → Among g ys → Among g (xs ++ ys)
among_right g [] ys a = a
among_right g (x ∷ xs) ys a = inr (among_right g xs ys a)

on_left : (R : ℕ → ℕ → Type 0) (s t : ℕ → ℕ) (xs ys : List ℕ) → Agree R s t (xs ++ ys) → Agree R s t xs
on_left R s t xs ys h = record { here = λ g a. h.here g (among_left g xs ys a) }

on_right : (R : ℕ → ℕ → Type 0) (s t : ℕ → ℕ) (xs ys : List ℕ) → Agree R s t (xs ++ ys) → Agree R s t ys
on_right R s t xs ys h = record { here = λ g a. h.here g (among_right g xs ys a) }

-- a count that depends on those of functions, whose calls are these
pub record Part (R : ℕ → ℕ → Type 0) (s t : ℕ → ℕ) (F : (ℕ → ℕ) → ℕ) (gs : List ℕ) : Type 0 where
  pub alike : Agree R s t gs → R (F s) (F t)

fixed : (R : ℕ → ℕ → Type 0) → Alike R → (s t : ℕ → ℕ) (n : ℕ) (gs : List ℕ) → Part R s t (λ c. n) gs
fixed R k s t n gs = record { alike = λ h. k.same n }

pair : (R : ℕ → ℕ → Type 0) → Alike R → (s t : ℕ → ℕ) (F G : (ℕ → ℕ) → ℕ) (xs ys : List ℕ) → Part R s t F xs → Part R s t G ys → Part R s t (λ c. F c + G c) (xs ++ ys)
pair R k s t F G xs ys p q = record { alike = λ h. k.sums (F s) (F t) (G s) (G t) (p.alike (on_left R s t xs ys h)) (q.alike (on_right R s t xs ys h)) }

swap : (R : ℕ → ℕ → Type 0) → Alike R → (s t : ℕ → ℕ) (F G : (ℕ → ℕ) → ℕ) (xs ys : List ℕ) → Part R s t F xs → Part R s t G ys → Part R s t (λ c. F c + G c) (ys ++ xs)
swap R k s t F G xs ys p q = record { alike = λ h. k.sums (F s) (F t) (G s) (G t) (p.alike (on_right R s t ys xs h)) (q.alike (on_left R s t ys xs h)) }

more : (R : ℕ → ℕ → Type 0) → Alike R → (s t : ℕ → ℕ) (F : (ℕ → ℕ) → ℕ) (xs : List ℕ) → Part R s t F xs → Part R s t (λ c. 1 + F c) xs
more R k s t F xs p = record { alike = λ h. k.sums 1 1 (F s) (F t) (k.same 1) (p.alike h) }

often : (R : ℕ → ℕ → Type 0) → Alike R → (s t : ℕ → ℕ) (n : ℕ) (F : (ℕ → ℕ) → ℕ) (xs : List ℕ) → Part R s t F xs → Part R s t (λ c. n * F c) xs
often R k s t n F xs p = record { alike = λ h. k.products n (F s) (F t) (p.alike h) }

call_part : (R : ℕ → ℕ → Type 0) → Alike R → (s t : ℕ → ℕ) (callee : Callee) → Part R s t (λ c. call_most c callee) (called callee)
call_part R k s t Getchar = fixed R k s t 0 []
call_part R k s t Putchar = fixed R k s t 0 []
call_part R k s t (Own function) = record { alike = λ h. h.here function.0 (inl refl) }

mutual
  pub place_part : (R : ℕ → ℕ → Type 0) → Alike R → (s t : ℕ → ℕ) (place : Place) → Part R s t (λ c. place_most c place) (place_calls place)
  place_part R k s t (Scalar object at) = fixed R k s t 1 []
  place_part R k s t (Element array index at) = more R k s t (λ c. expr_most c index) (expr_calls index) (expr_part R k s t index)
  place_part R k s t (Within inner at) = more R k s t (λ c. place_most c inner) (place_calls inner) (place_part R k s t inner)

  pub expr_part : (R : ℕ → ℕ → Type 0) → Alike R → (s t : ℕ → ℕ) (e : Expr) → Part R s t (λ c. expr_most c e) (expr_calls e)
  expr_part R k s t (Number constant at) = fixed R k s t 1 []
  expr_part R k s t (Character value at) = fixed R k s t 1 []
  expr_part R k s t (Read place) = place_part R k s t place
  expr_part R k s t (Array object at) = fixed R k s t 1 []
  expr_part R k s t (Paren inner at) = more R k s t (λ c. expr_most c inner) (expr_calls inner) (expr_part R k s t inner)
  expr_part R k s t (Call callee arguments at) =
      more R k s t (λ c. exprs_most c arguments + call_most c callee) (called callee ++ exprs_calls arguments)
      (swap R k s t (λ c. exprs_most c arguments) (λ c. call_most c callee) (exprs_calls arguments) (called callee) (exprs_part R k s t arguments) (call_part R k s t callee))
  expr_part R k s t (Step fix operator kind target at) = more R k s t (λ c. place_most c target) (place_calls target) (place_part R k s t target)
  expr_part R k s t (Signed operator kind operand at) = more R k s t (λ c. expr_most c operand) (expr_calls operand) (expr_part R k s t operand)
  expr_part R k s t (Cast specifiers to operand at) = more R k s t (λ c. expr_most c operand) (expr_calls operand) (expr_part R k s t operand)
  expr_part R k s t (Convert to operand) = expr_part R k s t operand
  expr_part R k s t (Operate operator kind left right at) = more R k s t (λ c. expr_most c left + expr_most c right) (expr_calls left ++ expr_calls right) (pair R k s t (λ c. expr_most c left) (λ c. expr_most c right) (expr_calls left) (expr_calls right) (expr_part R k s t left) (expr_part R k s t right))
  expr_part R k s t (And left right at) = more R k s t (λ c. expr_most c left + expr_most c right) (expr_calls left ++ expr_calls right) (pair R k s t (λ c. expr_most c left) (λ c. expr_most c right) (expr_calls left) (expr_calls right) (expr_part R k s t left) (expr_part R k s t right))
  expr_part R k s t (Or left right at) = more R k s t (λ c. expr_most c left + expr_most c right) (expr_calls left ++ expr_calls right) (pair R k s t (λ c. expr_most c left) (λ c. expr_most c right) (expr_calls left) (expr_calls right) (expr_part R k s t left) (expr_part R k s t right))
  expr_part R k s t (Comma left right at) = more R k s t (λ c. expr_most c left + expr_most c right) (expr_calls left ++ expr_calls right) (pair R k s t (λ c. expr_most c left) (λ c. expr_most c right) (expr_calls left) (expr_calls right) (expr_part R k s t left) (expr_part R k s t right))
  expr_part R k s t (Conditional test first second at) =
      more R k s t (λ c. expr_most c test + (expr_most c first + expr_most c second)) (expr_calls test ++ (expr_calls first ++ expr_calls second))
      (pair R k s t (λ c. expr_most c test) (λ c. expr_most c first + expr_most c second) (expr_calls test) (expr_calls first ++ expr_calls second) (expr_part R k s t test)
      (pair R k s t (λ c. expr_most c first) (λ c. expr_most c second) (expr_calls first) (expr_calls second) (expr_part R k s t first) (expr_part R k s t second)))
  expr_part R k s t (Assign target value at) = more R k s t (λ c. place_most c target + expr_most c value) (place_calls target ++ expr_calls value) (pair R k s t (λ c. place_most c target) (λ c. expr_most c value) (place_calls target) (expr_calls value) (place_part R k s t target) (expr_part R k s t value))
  expr_part R k s t (Update operator kind to target value at) = more R k s t (λ c. place_most c target + expr_most c value) (place_calls target ++ expr_calls value) (pair R k s t (λ c. place_most c target) (λ c. expr_most c value) (place_calls target) (expr_calls value) (place_part R k s t target) (expr_part R k s t value))

  pub exprs_part : (R : ℕ → ℕ → Type 0) → Alike R → (s t : ℕ → ℕ) (es : Exprs) → Part R s t (λ c. exprs_most c es) (exprs_calls es)
  exprs_part R k s t NoExpr = fixed R k s t 0 []
  exprs_part R k s t (WithExpr e rest) = pair R k s t (λ c. expr_most c e) (λ c. exprs_most c rest) (expr_calls e) (exprs_calls rest) (expr_part R k s t e) (exprs_part R k s t rest)

option_part : (R : ℕ → ℕ → Type 0) → Alike R → (s t : ℕ → ℕ) (e : Option Expr) → Part R s t (λ c. option_most c e) (option_calls e)
option_part R k s t None = fixed R k s t 0 []
option_part R k s t (Some e) = expr_part R k s t e

shape_part : (R : ℕ → ℕ → Type 0) → Alike R → (s t : ℕ → ℕ) (shape : Shape) → Part R s t (λ c. shape_most c shape) (shape_calls shape)
shape_part R k s t Single = fixed R k s t 0 []
shape_part R k s t Unsized = fixed R k s t 0 []
shape_part R k s t (Sized size) = expr_part R k s t size

-- a number more
plus : (R : ℕ → ℕ → Type 0) → Alike R → (s t : ℕ → ℕ) (n : ℕ) (F : (ℕ → ℕ) → ℕ) (xs : List ℕ) → Part R s t F xs → Part R s t (λ c. F c + n) xs
plus R k s t n F xs p = record { alike = λ h. k.sums (F s) (F t) n n (p.alike h) (k.same n) }

initial_part : (R : ℕ → ℕ → Type 0) → Alike R → (s t : ℕ → ℕ) (bounds : List Bounds) (initial : Initial) → Part R s t (λ c. initial_most bounds c initial) (initial_calls initial)
initial_part R k s t bounds Absent = fixed R k s t 0 []
initial_part R k s t bounds (Value value) = expr_part R k s t value
initial_part R k s t bounds (Listed values comma filling) = plus R k s t (filling_most bounds filling) (λ c. exprs_most c values) (exprs_calls values) (exprs_part R k s t values)

object_part : (R : ℕ → ℕ → Type 0) → Alike R → (s t : ℕ → ℕ) (bounds : List Bounds) (object : Object) → Part R s t (λ c. object_most bounds c object) (object_calls object)
object_part R k s t bounds (Declared object shape initial at) =
    more R k s t (λ c. shape_most c shape + initial_most bounds c initial) (shape_calls shape ++ initial_calls initial)
    (pair R k s t (λ c. shape_most c shape) (λ c. initial_most bounds c initial) (shape_calls shape) (initial_calls initial) (shape_part R k s t shape) (initial_part R k s t bounds initial))

objects_part : (R : ℕ → ℕ → Type 0) → Alike R → (s t : ℕ → ℕ) (bounds : List Bounds) (objects : List Object) → Part R s t (λ c. objects_most bounds c objects) (objects_calls objects)
objects_part R k s t bounds [] = fixed R k s t 0 []
objects_part R k s t bounds (object ∷ rest) =
    pair R k s t (λ c. object_most bounds c object) (λ c. objects_most bounds c rest) (object_calls object) (objects_calls rest) (object_part R k s t bounds object) (objects_part R k s t bounds rest)

param_part : (R : ℕ → ℕ → Type 0) → Alike R → (s t : ℕ → ℕ) (param : Param) → Part R s t (λ c. param_most c param) (param_calls param)
param_part R k s t (Parameter specifiers name shape at) = more R k s t (λ c. shape_most c shape) (shape_calls shape) (shape_part R k s t shape)

params_part : (R : ℕ → ℕ → Type 0) → Alike R → (s t : ℕ → ℕ) (params : List Param) → Part R s t (λ c. params_most c params) (params_calls params)
params_part R k s t [] = fixed R k s t 0 []
params_part R k s t (param ∷ rest) = pair R k s t (λ c. param_most c param) (λ c. params_most c rest) (param_calls param) (params_calls rest) (param_part R k s t param) (params_part R k s t rest)

unless : (R : ℕ → ℕ → Type 0) → Alike R → (s t : ℕ → ℕ) (b : Bool) (F : (ℕ → ℕ) → ℕ) (xs : List ℕ) → Part R s t F xs → Part R s t (λ c. if b then 0 else F c) xs
unless R k s t true F xs p = fixed R k s t 0 xs
unless R k s t false F xs p = p

list_part : (R : ℕ → ℕ → Type 0) → Alike R → (s t : ℕ → ℕ) (params : List Param) → Part R s t (λ c. list_most c params) (params_calls params)
list_part R k s t [] = fixed R k s t 0 []
list_part R k s t (param ∷ []) = unless R k s t (is_lone_void param) (λ c. params_most c (param ∷ [])) (params_calls (param ∷ [])) (params_part R k s t (param ∷ []))
list_part R k s t (first ∷ second ∷ rest) = params_part R k s t (first ∷ second ∷ rest)

declaration_part : (R : ℕ → ℕ → Type 0) → Alike R → (s t : ℕ → ℕ) (bounds : List Bounds) (declaration : Declaration) → Part R s t (λ c. declaration_most bounds c declaration) (declaration_calls declaration)
declaration_part R k s t bounds (Objects specifiers objects at) = more R k s t (λ c. objects_most bounds c objects) (objects_calls objects) (objects_part R k s t bounds objects)
declaration_part R k s t bounds (Prototype specifiers name params at) = more R k s t (λ c. list_most c params) (params_calls params) (list_part R k s t params)

label_part : (R : ℕ → ℕ → Type 0) → Alike R → (s t : ℕ → ℕ) (label : Label) → Part R s t (λ c. label_most c label) (label_calls label)
label_part R k s t (Case value word at) = more R k s t (λ c. expr_most c value) (expr_calls value) (expr_part R k s t value)
label_part R k s t (Default at) = fixed R k s t 1 []

start_part : (R : ℕ → ℕ → Type 0) → Alike R → (s t : ℕ → ℕ) (bounds : List Bounds) (start : ForStart) → Part R s t (λ c. start_most bounds c start) (start_calls start)
start_part R k s t bounds NoStart = fixed R k s t 0 []
start_part R k s t bounds (StartValue value) = expr_part R k s t value
start_part R k s t bounds (StartDeclaration declaration) = declaration_part R k s t bounds declaration

mutual
  pub statement_part : (R : ℕ → ℕ → Type 0) → Alike R → (s t : ℕ → ℕ) (bounds : List Bounds) (statement : Statement) → Part R s t (λ c. statement_most bounds c statement) (statement_calls statement)
  statement_part R k s t bounds (Block items at) = more R k s t (λ c. items_most bounds c items) (items_calls items) (items_part R k s t bounds items)
  statement_part R k s t bounds (Empty at) = fixed R k s t 1 []
  statement_part R k s t bounds (Evaluate value at) = more R k s t (λ c. expr_most c value) (expr_calls value) (expr_part R k s t value)
  statement_part R k s t bounds (Marker number pragma) = fixed R k s t 1 []
  statement_part R k s t bounds (If test first at) =
      more R k s t (λ c. expr_most c test + statement_most bounds c first) (expr_calls test ++ statement_calls first)
      (pair R k s t (λ c. expr_most c test) (λ c. statement_most bounds c first) (expr_calls test) (statement_calls first) (expr_part R k s t test) (statement_part R k s t bounds first))
  statement_part R k s t bounds (IfElse test first second at) =
      more R k s t (λ c. expr_most c test + (statement_most bounds c first + statement_most bounds c second)) (expr_calls test ++ (statement_calls first ++ statement_calls second))
      (pair R k s t (λ c. expr_most c test) (λ c. statement_most bounds c first + statement_most bounds c second) (expr_calls test) (statement_calls first ++ statement_calls second) (expr_part R k s t test)
      (pair R k s t (λ c. statement_most bounds c first) (λ c. statement_most bounds c second) (statement_calls first) (statement_calls second) (statement_part R k s t bounds first) (statement_part R k s t bounds second)))
  statement_part R k s t bounds (While number bound test body at) =
      let n = times (is_always test) (bounds_at bounds number) in
      more R k s t (λ c. n * (expr_most c test + statement_most bounds c body)) (expr_calls test ++ statement_calls body)
      (often R k s t n (λ c. expr_most c test + statement_most bounds c body) (expr_calls test ++ statement_calls body)
      (pair R k s t (λ c. expr_most c test) (λ c. statement_most bounds c body) (expr_calls test) (statement_calls body) (expr_part R k s t test) (statement_part R k s t bounds body)))
  statement_part R k s t bounds (Do number bound body test at) =
      let n = times true (bounds_at bounds number) in
      more R k s t (λ c. n * (expr_most c test + statement_most bounds c body)) (statement_calls body ++ expr_calls test)
      (often R k s t n (λ c. expr_most c test + statement_most bounds c body) (statement_calls body ++ expr_calls test)
      (swap R k s t (λ c. expr_most c test) (λ c. statement_most bounds c body) (expr_calls test) (statement_calls body) (expr_part R k s t test) (statement_part R k s t bounds body)))
  statement_part R k s t bounds (For number bound start test step body at) =
      let n = times (is_always_or_absent test) (bounds_at bounds number) in
      more R k s t (λ c. start_most bounds c start + n * (option_most c test + (option_most c step + statement_most bounds c body))) (start_calls start ++ (option_calls test ++ (option_calls step ++ statement_calls body)))
      (pair R k s t (λ c. start_most bounds c start) (λ c. n * (option_most c test + (option_most c step + statement_most bounds c body))) (start_calls start) (option_calls test ++ (option_calls step ++ statement_calls body)) (start_part R k s t bounds start)
      (often R k s t n (λ c. option_most c test + (option_most c step + statement_most bounds c body)) (option_calls test ++ (option_calls step ++ statement_calls body))
      (pair R k s t (λ c. option_most c test) (λ c. option_most c step + statement_most bounds c body) (option_calls test) (option_calls step ++ statement_calls body) (option_part R k s t test)
      (pair R k s t (λ c. option_most c step) (λ c. statement_most bounds c body) (option_calls step) (statement_calls body) (option_part R k s t step) (statement_part R k s t bounds body)))))
  statement_part R k s t bounds (Switch test items at) =
      more R k s t (λ c. expr_most c test + items_most bounds c items) (expr_calls test ++ items_calls items)
      (pair R k s t (λ c. expr_most c test) (λ c. items_most bounds c items) (expr_calls test) (items_calls items) (expr_part R k s t test) (items_part R k s t bounds items))
  statement_part R k s t bounds (Break at) = fixed R k s t 1 []
  statement_part R k s t bounds (Continue at) = fixed R k s t 1 []
  statement_part R k s t bounds (Return value at) = more R k s t (λ c. option_most c value) (option_calls value) (option_part R k s t value)

  pub items_part : (R : ℕ → ℕ → Type 0) → Alike R → (s t : ℕ → ℕ) (bounds : List Bounds) (items : Items) → Part R s t (λ c. items_most bounds c items) (items_calls items)
  items_part R k s t bounds NoItem = fixed R k s t 0 []
  items_part R k s t bounds (WithDeclaration declaration rest) = pair R k s t (λ c. declaration_most bounds c declaration) (λ c. items_most bounds c rest) (declaration_calls declaration) (items_calls rest) (declaration_part R k s t bounds declaration) (items_part R k s t bounds rest)
  items_part R k s t bounds (WithStatement statement rest) = pair R k s t (λ c. statement_most bounds c statement) (λ c. items_most bounds c rest) (statement_calls statement) (items_calls rest) (statement_part R k s t bounds statement) (items_part R k s t bounds rest)
  items_part R k s t bounds (WithRestriction pragma rest) = more R k s t (λ c. items_most bounds c rest) (items_calls rest) (items_part R k s t bounds rest)
  items_part R k s t bounds (WithLabel label rest) = pair R k s t (λ c. label_most c label) (λ c. items_most bounds c rest) (label_calls label) (items_calls rest) (label_part R k s t label) (items_part R k s t bounds rest)

pub function_part : (R : ℕ → ℕ → Type 0) → Alike R → (s t : ℕ → ℕ) (bounds : List Bounds) (f : Function) → Part R s t (λ c. function_most bounds c (Some f)) (function_calls f)
function_part R k s t bounds (Defined specifiers name name_at params first body body_at at) =
    more R k s t (λ c. list_most c params + (1 + items_most bounds c body)) (params_calls params ++ items_calls body)
    (pair R k s t (λ c. list_most c params) (λ c. 1 + items_most bounds c body) (params_calls params) (items_calls body) (list_part R k s t params)
    (more R k s t (λ c. items_most bounds c body) (items_calls body) (items_part R k s t bounds body)))
