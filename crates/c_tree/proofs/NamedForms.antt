-- A tree that is well formed with other names is well formed.
use Rattle.std.proofs.Common.{◌≡◌, ℕ, ◌≤◌, refl, sym, subst, ◌∙◌, Bool, false, true}
use Rattle.std.specs.Prelude.{Option, Some, None}
use Rattle.c_tree.specs.Formed.{level, AreFormed, AreSome, EachOf, IsFormed, IsFormedDeclaration, IsFormedExternal, IsFormedInitial, IsFormedLabel, IsFormedObject, IsFormedOption, IsFormedParam, IsFormedShape, IsFormedStart, IsFormedStatement, AreFormedItems, IsSomeRow, IsFirstPlace, ends_open, external_place}
use Rattle.c_tree.specs.Named.{named, named_all, named_shape, named_initial, named_object, named_param, named_declaration, named_label, named_start, named_statement, named_items, named_external, map_row, map_option}
use Rattle.c_tree.specs.Tree.{Row, Nothing, Then, Expr, Number, Character, Name, Paren, Index, Call, Postfix, Prefix, Cast, Binary, Conditional, Assign, Exprs, NoExpr, AndExpr, Shape, Scalar, Unsized, Sized, Initial, Absent, Value, Listed, Object, Declared, Param, Parameter, Declaration, Objects, Prototype, Label, Case, Default, ForStart, NoStart, StartValue, StartDeclaration, Statement, Block, Empty, Evaluate, Marker, If, IfElse, While, Do, For, Switch, Break, Continue, Return, Items, NoItem, AndDeclaration, AndStatement, AndRestriction, AndLabel, External, Restriction, Declaring, Function}
use Rattle.c_tree.proofs.NamedTrees.{level_named, place_named}

at_most : {M N : Type 0} (f : M → N) (t : Expr M) (n : ℕ) → level (named f t) ≤ n → level t ≤ n
at_most f t n h = subst (λ l. l ≤ n) (level_named f t) h

mutual
  formed : {M N : Type 0} (f : M → N) (t : Expr M) → IsFormed (named f t) → IsFormed t
  formed f (Number constant at) h = tt
  formed f (Character value at) h = tt
  formed f (Name name at) h = tt
  formed f (Paren inner at) h = formed f inner h
  formed f (Index array index at) h = formed f index h
  formed f (Call function arguments at) h = all_formed f arguments h
  formed f (Postfix operator operand at) h = (at_most f operand _ h.0, h.1 ∙ place_named f operand, formed f operand h.2)
  formed f (Prefix operator operand at) h = (at_most f operand _ h.0, formed f operand h.1)
  formed f (Cast specifiers operand at) h = (at_most f operand _ h.0, h.1, formed f operand h.2)
  formed f (Binary operator left right at) h = (at_most f left _ h.0, at_most f right _ h.1, h.2 ∙ place_named f left, formed f left h.3, formed f right h.4)
  formed f (Conditional test first second at) h = (at_most f test _ h.0, at_most f second _ h.1, h.2 ∙ place_named f test, formed f test h.3, formed f first h.4, formed f second h.5)
  formed f (Assign operator target value at) h = (at_most f target _ h.0, at_most f value _ h.1, h.2 ∙ place_named f target, formed f target h.3, formed f value h.4)

  all_formed : {M N : Type 0} (f : M → N) (ts : Exprs M) → AreFormed (named_all f ts) → AreFormed ts
  all_formed f NoExpr h = tt
  all_formed f (AndExpr front last) h = (all_formed f front h.0, at_most f last _ h.1, formed f last h.2)

each_formed : {A B : Type 0} (g : A → B) (P : A → Type 0) (Q : B → Type 0) → ((x : A) → Q (g x) → P x) → (row : Row A) → EachOf Q (map_row g row) → EachOf P row
each_formed g P Q k Nothing h = tt
each_formed g P Q k (Then front last) h = (each_formed g P Q k front h.0, k last h.1)

some_row : {A B : Type 0} (g : A → B) (row : Row A) → IsSomeRow (map_row g row) → IsSomeRow row
some_row g Nothing h = h
some_row g (Then front last) h = tt

some_all : {M N : Type 0} (f : M → N) (ts : Exprs M) → AreSome (named_all f ts) → AreSome ts
some_all f NoExpr h = h
some_all f (AndExpr front last) h = tt

option_formed : {M N : Type 0} (f : M → N) (t : Option (Expr M)) → IsFormedOption (map_option (named f) t) → IsFormedOption t
option_formed f None h = tt
option_formed f (Some t) h = formed f t h

shape_formed : {M N : Type 0} (f : M → N) (shape : Shape M) → IsFormedShape (named_shape f shape) → IsFormedShape shape
shape_formed f Scalar h = tt
shape_formed f Unsized h = tt
shape_formed f (Sized t) h = (at_most f t _ h.0, formed f t h.1)

initial_formed : {M N : Type 0} (f : M → N) (initial : Initial M) → IsFormedInitial (named_initial f initial) → IsFormedInitial initial
initial_formed f Absent h = tt
initial_formed f (Value t) h = (at_most f t _ h.0, formed f t h.1)
initial_formed f (Listed ts comma) h = (some_all f ts h.0, all_formed f ts h.1)

object_formed : {M N : Type 0} (f : M → N) (object : Object M) → IsFormedObject (named_object f object) → IsFormedObject object
object_formed f (Declared name shape initial at) h = (shape_formed f shape h.0, initial_formed f initial h.1)

param_formed : {M N : Type 0} (f : M → N) (param : Param M) → IsFormedParam (named_param f param) → IsFormedParam param
param_formed f (Parameter specifiers name shape at) h = (h.0, shape_formed f shape h.1)

declaration_formed : {M N : Type 0} (f : M → N) (declaration : Declaration M) → IsFormedDeclaration (named_declaration f declaration) → IsFormedDeclaration declaration
declaration_formed f (Objects specifiers objects at) h = (h.0, some_row (named_object f) objects h.1, each_formed (named_object f) IsFormedObject IsFormedObject (object_formed f) objects h.2)
declaration_formed f (Prototype specifiers name params at) h = (h.0, each_formed (named_param f) IsFormedParam IsFormedParam (param_formed f) params h.1)

label_formed : {M N : Type 0} (f : M → N) (label : Label M) → IsFormedLabel (named_label f label) → IsFormedLabel label
label_formed f (Case value at) h = (at_most f value _ h.0, formed f value h.1)
label_formed f (Default at) h = tt

start_formed : {M N : Type 0} (f : M → N) (start : ForStart M) → IsFormedStart (named_start f start) → IsFormedStart start
start_formed f NoStart h = tt
start_formed f (StartValue t) h = formed f t h
start_formed f (StartDeclaration declaration) h = declaration_formed f declaration h

open_named : {M N : Type 0} (f : M → N) (s : Statement M) → ends_open (named_statement f s) ≡ ends_open s
open_named f (Block items at) = refl
open_named f (Empty at) = refl
open_named f (Evaluate value at) = refl
open_named f (Marker pragma) = refl
open_named f (If test first at) = refl
open_named f (IfElse test first second at) = open_named f second
open_named f (While bound test body at) = open_named f body
open_named f (Do bound body test at) = refl
open_named f (For bound start test step body at) = open_named f body
open_named f (Switch test items at) = refl
open_named f (Break at) = refl
open_named f (Continue at) = refl
open_named f (Return value at) = refl

mutual
  statement_formed : {M N : Type 0} (f : M → N) (s : Statement M) → IsFormedStatement (named_statement f s) → IsFormedStatement s
  statement_formed f (Block items at) h = items_formed f false items h
  statement_formed f (Empty at) h = tt
  statement_formed f (Evaluate value at) h = (h.0 ∙ place_named f value, formed f value h.1)
  statement_formed f (Marker pragma) h = tt
  statement_formed f (If test first at) h = (formed f test h.0, statement_formed f first h.1)
  statement_formed f (IfElse test first second at) h = (sym (open_named f first) ∙ h.0, formed f test h.1, statement_formed f first h.2, statement_formed f second h.3)
  statement_formed f (While bound test body at) h = (formed f test h.0, statement_formed f body h.1)
  statement_formed f (Do bound body test at) h = (formed f test h.0, statement_formed f body h.1)
  statement_formed f (For bound start test step body at) h = (start_formed f start h.0, option_formed f test h.1, option_formed f step h.2, statement_formed f body h.3)
  statement_formed f (Switch test items at) h = (formed f test h.0, items_formed f true items h.1)
  statement_formed f (Break at) h = tt
  statement_formed f (Continue at) h = tt
  statement_formed f (Return value at) h = option_formed f value h

  items_formed : {M N : Type 0} (f : M → N) (labels : Bool) (items : Items M) → AreFormedItems labels (named_items f items) → AreFormedItems labels items
  items_formed f labels NoItem h = tt
  items_formed f labels (AndDeclaration front declaration) h = (items_formed f labels front h.0, declaration_formed f declaration h.1)
  items_formed f labels (AndStatement front statement) h = (items_formed f labels front h.0, statement_formed f statement h.1)
  items_formed f labels (AndRestriction front pragma) h = items_formed f labels front h
  items_formed f labels (AndLabel front label) h = (items_formed f labels front h.0, h.1, label_formed f label h.2)

external_formed : {M N : Type 0} (f : M → N) (external : External M) → IsFormedExternal (named_external f external) → IsFormedExternal external
external_formed f (Restriction pragma) h = tt
external_formed f (Declaring declaration) h = declaration_formed f declaration h
external_formed f (Function specifiers name name_at params body body_at at) h = (h.0, each_formed (named_param f) IsFormedParam IsFormedParam (param_formed f) params h.1, items_formed f false body h.2)

pub externals_formed : {M N : Type 0} (f : M → N) (row : Row (External M)) → EachOf IsFormedExternal (map_row (named_external f) row) → EachOf IsFormedExternal row
externals_formed f row h = each_formed (named_external f) IsFormedExternal IsFormedExternal (external_formed f) row h

place_kept : {M N : Type 0} (f : M → N) (external : External M) → external_place (named_external f external) ≡ external_place external
place_kept f (Restriction pragma) = refl
place_kept f (Declaring (Objects specifiers objects at)) = refl
place_kept f (Declaring (Prototype specifiers name params at)) = refl
place_kept f (Function specifiers name name_at params body body_at at) = refl

-- the first place is that of the items with their names
pub first_named : {M N : Type 0} (f : M → N) (at : ℕ) (row : Row (External M)) → IsFirstPlace at row → IsFirstPlace at (map_row (named_external f) row)
first_named f at Nothing h = h
first_named f at (Then Nothing last) h = h ∙ sym (place_kept f last)
first_named f at (Then (Then front middle) last) h = first_named f at (Then front middle) h
