-- What declarations and statements do (C11 6.7.9, 6.8).
use Rattle.std.specs.Prelude.{ℕ, zero, suc, ◌+◌, ◌-◌, ◌==◌, Bool, true, false, if◌then◌else◌, List, [], ◌∷◌, length, Option, Some, None}
use Rattle.facts_definitions.specs.Most.{bounds_at}
use Rattle.facts_definitions.specs.declared.facts.Bounds.{Bounds}
use Rattle.types_tree.specs.Tree.{Expr, Exprs, NoExpr, WithExpr, Initial, Absent, Value, Listed, Object, Declared, Declaration, Objects, Prototype, Label, Case, Default, ForStart, NoStart, StartValue, StartDeclaration, Statement, Block, Empty, Evaluate, Marker, If, IfElse, While, Do, For, Switch, Break as BreakOff, Continue as GoOn, Return as GiveBack, Items, NoItem, WithDeclaration, WithStatement, WithRestriction, WithLabel, Program}
use Rattle.meaning_semantics.specs.declared.outcome.Flow.{Flow}
use Rattle.meaning_semantics.specs.declared.outcome.Flow.TheVariants.{Onward, Break, Continue, Return}
use Rattle.meaning_semantics.specs.declared.outcome.Stop.TheVariants.{Broken}
use Rattle.meaning_semantics.specs.State.{State, Outcome, Fine, Stopped, then_do, write, counted, unwritten, zeros, choose}
use Rattle.meaning_semantics.specs.Values.{Calls, value}

-- a program, and the bounds of its loops
pub record Source : Type 0 where
  pub program : Program
  pub bounds : List Bounds

-- the objects that a declaration declares are unwritten
abbrev pub unwritten_all : List Object → State → State
unwritten_all [] st = st
unwritten_all (Declared object shape initial at ∷ rest) st = unwritten_all rest (unwritten object st)

abbrev pub begun : Declaration → State → State
begun (Objects specifiers objects at) st = unwritten_all objects st
begun (Prototype specifiers name params at) st = st

-- the objects of a block are unwritten each time that it is entered, wherever it is entered (C11 6.2.4, paragraph 6)
abbrev pub entered : Items → State → State
entered NoItem st = st
entered (WithDeclaration declaration rest) st = entered rest (begun declaration st)
entered (WithStatement statement rest) st = entered rest st
entered (WithRestriction pragma rest) st = entered rest st
entered (WithLabel label rest) st = entered rest st

-- a loop that is left while it owes body starts is broken
abbrev pub left_with : (owed at : ℕ) → Flow → State → Outcome Flow
left_with zero at flow st = Fine flow st
left_with (suc owed) at flow st = Stopped (Broken at)

-- a loop, by its place, its test, and one start of its body with what stands behind it
pub record Loop : Type 0 where
  pub at : ℕ
  pub test : State → Outcome ℕ
  pub round : State → Outcome Flow

-- how a loop is left, where it is left: a `break` of its own goes onward (C11 6.8.6.3)
abbrev pub leaving : Flow → Option Flow
leaving Onward = None
leaving Continue = None
leaving Break = Some Onward
leaving (Return word) = Some (Return word)

-- how a loop goes on from one start of its body
abbrev pub again_or : (owed at : ℕ) → (State → Outcome Flow) → Option Flow → State → Outcome Flow
again_or owed at next None st = next st
again_or owed at next (Some flow) st = left_with owed at flow st

abbrev pub again : (owed at : ℕ) → (State → Outcome Flow) → Flow → State → Outcome Flow
again owed at next flow st = again_or owed at next (leaving flow) st

-- a loop that may start its body so many times more, and owes so many starts
abbrev pub turns : Loop → (left owed : ℕ) → State → Outcome Flow
turns loop zero owed st = then_do (loop.test st) (λ word st1. choose word (Stopped (Broken loop.at)) (left_with owed loop.at Onward st1))
turns loop (suc left) owed st =
    then_do (loop.test st) (λ word st1. choose word
    (then_do (loop.round st1) (again (owed - 1) loop.at (turns loop left (owed - 1))))
    (left_with owed loop.at Onward st1))

abbrev pub looped : Bounds → Loop → State → Outcome Flow
looped bounds loop st = turns loop bounds.max bounds.min st

-- a `continue` goes on behind the body (C11 6.8.6.2)
abbrev pub behind : (State → Outcome Flow) → Flow → State → Outcome Flow
behind next Onward st = next st
behind next Continue st = next st
behind next Break st = Fine Break st
behind next (Return word) st = Fine (Return word) st

-- a `break` leaves the switch (C11 6.8.6.3)
abbrev pub out_of_switch : Flow → State → Outcome Flow
out_of_switch Onward st = Fine Onward st
out_of_switch Break st = Fine Onward st
out_of_switch Continue st = Fine Continue st
out_of_switch (Return word) st = Fine (Return word) st

-- goes on where a statement went on
abbrev pub if_onward : (State → Outcome Flow) → Flow → State → Outcome Flow
if_onward next Onward st = next st
if_onward next Break st = Fine Break st
if_onward next Continue st = Fine Continue st
if_onward next (Return word) st = Fine (Return word) st

-- whether a label stands for this word
abbrev pub is_case : ℕ → Label → Bool
is_case word (Case value own at) = own == word
is_case word (Default at) = false

abbrev pub is_default : Label → Bool
is_default (Case value own at) = false
is_default (Default at) = true

abbrev pub has_case : ℕ → Items → Bool
has_case word NoItem = false
has_case word (WithDeclaration declaration rest) = has_case word rest
has_case word (WithStatement statement rest) = has_case word rest
has_case word (WithRestriction pragma rest) = has_case word rest
has_case word (WithLabel label rest) = if is_case word label then true else has_case word rest

-- the label at which a switch goes on: that of its word, or else the default
abbrev pub is_chosen : (found : Bool) → (word : ℕ) → Label → Bool
is_chosen true word label = is_case word label
is_chosen false word label = is_default label

abbrev pub filled : (object : ℕ) → (count : ℕ) → State → Outcome Flow
filled object count st = Fine Onward (zeros object count st)

module _ (source : Source) (call : Calls) where
  abbrev pub evaluated : Expr → (used : Bool) → State → Outcome ℕ
  evaluated e used st = value source.program.variables call e used st

  -- an expression whose value is dropped
  abbrev pub dropped : Expr → State → Outcome Flow
  dropped e st = then_do (evaluated e false st) (λ word st1. Fine Onward st1)

  -- each value of a list is written when it is reached; gives the number of the elements that are written
  abbrev pub listed : Exprs → (object at index : ℕ) → State → Outcome ℕ
  listed NoExpr object at index st = Fine index st
  listed (WithExpr e rest) object at index st =
      then_do (evaluated e true st) (λ word st1.
      then_do (write (record { object = object; index = index; at = at }) word st1) (λ written st2. listed rest object at (index + 1) st2))

  -- an initial value is written when it is reached; a list leaves the rest of its array 0
  abbrev pub initialised : Initial → (object at : ℕ) → State → Outcome Flow
  initialised Absent object at st = Fine Onward st
  initialised (Value e) object at st =
      then_do (evaluated e true st) (λ word st1.
      then_do (write (record { object = object; index = 0; at = at }) word st1) (λ written st2. Fine Onward st2))
  initialised (Listed es comma filling) object at st = then_do (listed es object at 0 st) (filled object)

  abbrev pub object_declared : Object → State → Outcome Flow
  object_declared (Declared object shape initial at) st = initialised initial object at st

  abbrev pub all_declared : List Object → State → Outcome Flow
  all_declared [] st = Fine Onward st
  all_declared (object ∷ rest) st = then_do (object_declared object st) (λ flow st1. all_declared rest st1)

  abbrev pub declared : Declaration → State → Outcome Flow
  declared (Objects specifiers objects at) st = all_declared objects st
  declared (Prototype specifiers name params at) st = Fine Onward st

  -- what stands first in the head of a `for`
  abbrev pub started : ForStart → State → Outcome Flow
  started NoStart st = Fine Onward st
  started (StartValue e) st = dropped e st
  started (StartDeclaration declaration) st = declared declaration (begun declaration st)

  -- a `for` without a test has the test 1
  abbrev pub tested : Option Expr → State → Outcome ℕ
  tested None st = Fine 1 st
  tested (Some e) st = evaluated e true st

  abbrev pub stepped : Option Expr → State → Outcome Flow
  stepped None st = Fine Onward st
  stepped (Some e) st = dropped e st

  -- a `do` leaves its loop where its test is 0
  abbrev pub while_holds : Expr → State → Outcome Flow
  while_holds e st = then_do (evaluated e true st) (λ word st1. Fine (choose word Onward Break) st1)

  abbrev pub returned : Option Expr → State → Outcome Flow
  returned None st = Fine (Return None) st
  returned (Some e) st = then_do (evaluated e true st) (λ word st1. Fine (Return (Some word)) st1)

  abbrev mutual
    pub run : Statement → State → Outcome Flow
    run (Block items at) st = run_items items (entered items st)
    run (Empty at) st = Fine Onward st
    run (Evaluate e at) st = dropped e st
    run (Marker number pragma) st = Fine Onward (counted (length source.program.functions + number) st)
    run (If test first at) st = then_do (evaluated test true st) (λ word st1. choose word (run first st1) (Fine Onward st1))
    run (IfElse test first second at) st = then_do (evaluated test true st) (λ word st1. choose word (run first st1) (run second st1))
    run (While number bound test body at) st =
        looped (bounds_at source.bounds number) (record { at = at; test = evaluated test true; round = λ st1. then_do (run body st1) (behind (Fine Onward)) }) st
    run (Do number bound body test at) st =
        looped (bounds_at source.bounds number) (record { at = at; test = Fine 1; round = λ st1. then_do (run body st1) (behind (while_holds test)) }) st
    run (For number bound start test step body at) st =
        then_do (started start st) (λ flow st1.
        looped (bounds_at source.bounds number) (record { at = at; test = tested test; round = λ st2. then_do (run body st2) (behind (stepped step)) }) st1)
    run (Switch test items at) st =
        then_do (evaluated test true st) (λ word st1. then_do (run_from (has_case word items) word items (entered items st1)) out_of_switch)
    run (BreakOff at) st = Fine Break st
    run (GoOn at) st = Fine Continue st
    run (GiveBack e at) st = returned e st

    pub run_items : Items → State → Outcome Flow
    run_items NoItem st = Fine Onward st
    run_items (WithDeclaration declaration rest) st = then_do (declared declaration st) (if_onward (run_items rest))
    run_items (WithStatement statement rest) st = then_do (run statement st) (if_onward (run_items rest))
    run_items (WithRestriction pragma rest) st = run_items rest st
    run_items (WithLabel label rest) st = run_items rest st

    -- the items behind the label at which a switch goes on, or none of them
    pub run_from : (found : Bool) → (word : ℕ) → Items → State → Outcome Flow
    run_from found word NoItem st = Fine Onward st
    run_from found word (WithDeclaration declaration rest) st = run_from found word rest st
    run_from found word (WithStatement statement rest) st = run_from found word rest st
    run_from found word (WithRestriction pragma rest) st = run_from found word rest st
    run_from found word (WithLabel label rest) st = if is_chosen found word label then run_items rest st else run_from found word rest st

-- one run of the body of a loop
abbrev pub body_run : Source → Calls → Statement → State → Outcome Flow
body_run source call (While number bound test body at) st = run source call body st
body_run source call (Do number bound body test at) st = run source call body st
body_run source call (For number bound start test step body at) st = run source call body st
body_run source call other st = Fine Onward st

-- what stands behind the body of a loop
abbrev pub followed : Source → Calls → Statement → State → Outcome Flow
followed source call (Do number bound body test at) st = while_holds source call test st
followed source call (For number bound start test step body at) st = stepped source call step st
followed source call other st = Fine Onward st

abbrev pub loop_test : Source → Calls → Statement → State → Outcome ℕ
loop_test source call (While number bound test body at) st = evaluated source call test true st
loop_test source call (For number bound start test step body at) st = tested source call test st
loop_test source call other st = Fine 1 st

-- the loop that a statement at a place is, once it has begun
abbrev pub loop_of : Source → Calls → Statement → (at : ℕ) → Loop
loop_of source call of at =
    record { at = at; test = loop_test source call of; round = λ st. then_do (body_run source call of st) (behind (followed source call of)) }
