-- A statement without a `return`, and without a `break` of its own, ends onward or by a `continue`.
use Rattle.std.proofs.Common.{◌≡◌, ℕ, zero, suc, ◌-◌, Bool, true, false, List, [], ◌∷◌, Option, Some, None}
use Rattle.std.specs.Prelude.{if◌then◌else◌}
use Rattle.std.proofs.lemmas.Bool.{or_parts, true≢false}
use Rattle.facts_definitions.specs.Most.{bounds_at}
use Rattle.facts_definitions.specs.Starts.{leaves, items_leave}
use Rattle.meaning_semantics.specs.State.{State, Outcome, Fine, Stopped, then_do, write, choose}
use Rattle.meaning_semantics.specs.Statements.{Source, Loop, again, all_declared, begun, behind, declared, dropped, entered, evaluated, filled, has_case, if_onward, initialised, is_chosen, left_with, listed, looped, out_of_switch, run, run_from, run_items, started, stepped, tested, turns, while_holds}
use Rattle.meaning_semantics.specs.Values.{Calls}
use Rattle.meaning_semantics.specs.declared.outcome.Flow.{Flow}
use Rattle.meaning_semantics.specs.declared.outcome.Flow.TheVariants.{Onward, Break, Continue, Return}
use Rattle.meaning_semantics.specs.declared.outcome.Stop.{Stop}
use Rattle.meaning_semantics.specs.declared.outcome.Stop.TheVariants.{Broken}
use Rattle.types_tree.specs.Tree.{Expr, Initial, Absent, Value, Listed, Object, Declared, Declaration, Objects, Prototype, ForStart, NoStart, StartValue, StartDeclaration, Statement, Block, Empty, Evaluate, Marker, If, IfElse, While, Do, For, Switch, Break as BreakOff, Continue as GoOn, Return as GiveBack, Items, NoItem, WithDeclaration, WithStatement, WithRestriction, WithLabel}

-- it does not return, and where the loop is its own it does not break
abbrev pub Within : (own : Bool) → Outcome Flow → Type 0
Within own (Stopped stop) = Unit {0}
Within own (Fine Onward st) = Unit {0}
Within own (Fine Continue st) = Unit {0}
Within own (Fine (Return word) st) = ⊥
Within true (Fine Break st) = ⊥
Within false (Fine Break st) = Unit {0}

-- it goes on
abbrev pub Onwards : Outcome Flow → Type 0
Onwards (Stopped stop) = Unit {0}
Onwards (Fine Onward st) = Unit {0}
Onwards (Fine Continue st) = ⊥
Onwards (Fine Break st) = ⊥
Onwards (Fine (Return word) st) = ⊥

pub onwards_within : (own : Bool) (o : Outcome Flow) → Onwards o → Within own o
onwards_within own (Stopped stop) h = tt
onwards_within own (Fine Onward st) h = tt
onwards_within own (Fine Continue st) h = absurd h
onwards_within own (Fine Break st) h = absurd h
onwards_within own (Fine (Return word) st) h = absurd h

pub valued : {A : Type 0} (P : Outcome Flow → Type 0) (o : Outcome A) (go : A → State → Outcome Flow) → ((stop : Stop) → P (Stopped stop)) → ((a : A) (st : State) → P (go a st)) → P (then_do o go)
valued P (Fine a st) go stops next = next a st
valued P (Stopped stop) go stops next = stops stop

onwards_then : (o : Outcome Flow) (go : Flow → State → Outcome Flow) → ((flow : Flow) (st : State) → Onwards (go flow st)) → Onwards (then_do o go)
onwards_then (Fine flow st) go next = next flow st
onwards_then (Stopped stop) go next = tt

within_then : (own : Bool) (o : Outcome Flow) (go : State → Outcome Flow) → Within own o → ((st : State) → Within own (go st)) → Within own (then_do o (if_onward go))
within_then own (Stopped stop) go h next = tt
within_then own (Fine Onward st) go h next = next st
within_then own (Fine Continue st) go h next = tt
within_then own (Fine (Return word) st) go h next = absurd h
within_then true (Fine Break st) go h next = absurd h
within_then false (Fine Break st) go h next = tt

choose_within : (own : Bool) (x : ℕ) (first other : Outcome Flow) → Within own first → Within own other → Within own (choose x first other)
choose_within own zero first other h k = k
choose_within own (suc n) first other h k = h

left_onwards : (owed at : ℕ) (st : State) → Onwards (left_with owed at Onward st)
left_onwards zero at st = tt
left_onwards (suc owed) at st = tt

choose_onwards : (x : ℕ) (first other : Outcome Flow) → Onwards first → Onwards other → Onwards (choose x first other)
choose_onwards zero first other h k = k
choose_onwards (suc n) first other h k = h

again_onwards : (owed at : ℕ) (o : Outcome Flow) (next : State → Outcome Flow) → Within false o → ((st : State) → Onwards (next st)) → Onwards (then_do o (again owed at next))
again_onwards owed at (Stopped stop) next h goes = tt
again_onwards owed at (Fine Onward st) next h goes = goes st
again_onwards owed at (Fine Continue st) next h goes = goes st
again_onwards owed at (Fine Break st) next h goes = left_onwards owed at st
again_onwards owed at (Fine (Return word) st) next h goes = absurd h

-- a loop whose body does not return goes on
turns_onwards : (loop : Loop) → ((st : State) → Within false (loop.round st)) → (left owed : ℕ) (st : State) → Onwards (turns loop left owed st)
turns_onwards loop rounds zero owed st = of (loop.test st)
  where
    of : (o : Outcome ℕ) → Onwards (then_do o (λ word st1. choose word (Stopped (Broken loop.at)) (left_with owed loop.at Onward st1)))
    of (Stopped stop) = tt
    of (Fine word st1) = choose_onwards word (Stopped (Broken loop.at)) (left_with owed loop.at Onward st1) tt (left_onwards owed loop.at st1)
turns_onwards loop rounds (suc left) owed st = of (λ st1. turns_onwards loop rounds left (owed - 1) st1) (loop.test st)
  where
    of : ((st1 : State) → Onwards (turns loop left (owed - 1) st1)) → (o : Outcome ℕ) → Onwards (then_do o (λ word st1. choose word (then_do (loop.round st1) (again (owed - 1) loop.at (turns loop left (owed - 1)))) (left_with owed loop.at Onward st1)))
    of next (Stopped stop) = tt
    of next (Fine word st1) =
        choose_onwards word (then_do (loop.round st1) (again (owed - 1) loop.at (turns loop left (owed - 1)))) (left_with owed loop.at Onward st1)
        (again_onwards (owed - 1) loop.at (loop.round st1) (turns loop left (owed - 1)) (rounds st1) next) (left_onwards owed loop.at st1)

pub behind_within : (own : Bool) (o : Outcome Flow) (next : State → Outcome Flow) → Within own o → ((st : State) → Within own (next st)) → Within own (then_do o (behind next))
behind_within own (Stopped stop) next h goes = tt
behind_within own (Fine Onward st) next h goes = goes st
behind_within own (Fine Continue st) next h goes = goes st
behind_within own (Fine (Return word) st) next h goes = absurd h
behind_within true (Fine Break st) next h goes = absurd h
behind_within false (Fine Break st) next h goes = tt

switch_within : (own : Bool) (o : Outcome Flow) → Within false o → Within own (then_do o out_of_switch)
switch_within own (Stopped stop) h = tt
switch_within own (Fine Onward st) h = tt
switch_within own (Fine Continue st) h = tt
switch_within own (Fine Break st) h = tt
switch_within own (Fine (Return word) st) h = absurd h

module _ (source : Source) (call : Calls) where
  pub dropped_onwards : (e : Expr) (st : State) → Onwards (dropped source call e st)
  dropped_onwards e st = valued Onwards (evaluated source call e false st) (λ word st1. Fine Onward st1) (λ stop. tt) (λ word st1. tt)

  pub initialised_onwards : (initial : Initial) (object at : ℕ) (st : State) → Onwards (initialised source call initial object at st)
  initialised_onwards Absent object at st = tt
  initialised_onwards (Value e) object at st =
      valued Onwards (evaluated source call e true st) (λ word st1. then_do (write (record { object = object; index = 0; at = at }) word st1) (λ written st2. Fine Onward st2)) (λ stop. tt)
      (λ word st1. valued Onwards (write (record { object = object; index = 0; at = at }) word st1) (λ written st2. Fine Onward st2) (λ stop. tt) (λ written st2. tt))
  initialised_onwards (Listed es comma filling) object at st = valued Onwards (listed source call es object at 0 st) (filled object) (λ stop. tt) (λ count st1. tt)

  all_declared_onwards : (objects : List Object) (st : State) → Onwards (all_declared source call objects st)
  all_declared_onwards [] st = tt
  all_declared_onwards (Declared object shape initial at ∷ rest) st = onwards_then (initialised source call initial object at st) (λ flow st1. all_declared source call rest st1) (λ flow st1. all_declared_onwards rest st1)

  pub declared_onwards : (declaration : Declaration) (st : State) → Onwards (declared source call declaration st)
  declared_onwards (Objects specifiers objects at) st = all_declared_onwards objects st
  declared_onwards (Prototype specifiers name params at) st = tt

  pub stepped_onwards : (step : Option Expr) (st : State) → Onwards (stepped source call step st)
  stepped_onwards None st = tt
  stepped_onwards (Some e) st = dropped_onwards e st

  pub started_onwards : (start : ForStart) (st : State) → Onwards (started source call start st)
  started_onwards NoStart st = tt
  started_onwards (StartValue e) st = dropped_onwards e st
  started_onwards (StartDeclaration declaration) st = declared_onwards declaration (begun declaration st)

  while_within : (e : Expr) (st : State) → Within false (while_holds source call e st)
  while_within e st = valued (Within false) (evaluated source call e true st) (λ word st1. Fine (choose word Onward Break) st1) (λ stop. tt) of
    where
      of : (word : ℕ) (st1 : State) → Within false (Fine (choose word Onward Break) st1)
      of zero st1 = tt
      of (suc n) st1 = tt

  mutual
    pub within : (own : Bool) (s : Statement) → leaves own s ≡ false → (st : State) → Within own (run source call s st)
    within own (Block items at) h st = items_within own items h (entered items st)
    within own (Empty at) h st = tt
    within own (Evaluate e at) h st = onwards_within own (dropped source call e st) (dropped_onwards e st)
    within own (Marker number pragma) h st = tt
    within own (If test first at) h st =
        valued (Within own) (evaluated source call test true st) (λ word st1. choose word (run source call first st1) (Fine Onward st1)) (λ stop. tt)
        (λ word st1. choose_within own word (run source call first st1) (Fine Onward st1) (within own first h st1) tt)
    within own (IfElse test first second at) h st =
        let parts = or_parts (leaves own first) (leaves own second) h in
        valued (Within own) (evaluated source call test true st) (λ word st1. choose word (run source call first st1) (run source call second st1)) (λ stop. tt)
        (λ word st1. choose_within own word (run source call first st1) (run source call second st1) (within own first parts.0 st1) (within own second parts.1 st1))
    within own (While number bound test body at) h st =
        let loop : Loop = record { at = at; test = evaluated source call test true; round = λ st1. then_do (run source call body st1) (behind (Fine Onward)) } in
        onwards_within own (turns loop (bounds_at source.bounds number).max (bounds_at source.bounds number).min st)
        (turns_onwards loop (λ st1. behind_within false (run source call body st1) (Fine Onward) (within false body h st1) (λ st2. tt)) (bounds_at source.bounds number).max (bounds_at source.bounds number).min st)
    within own (Do number bound body test at) h st =
        let loop : Loop = record { at = at; test = Fine 1; round = λ st1. then_do (run source call body st1) (behind (while_holds source call test)) } in
        onwards_within own (turns loop (bounds_at source.bounds number).max (bounds_at source.bounds number).min st)
        (turns_onwards loop (λ st1. behind_within false (run source call body st1) (while_holds source call test) (within false body h st1) (while_within test)) (bounds_at source.bounds number).max (bounds_at source.bounds number).min st)
    within own (For number bound start test step body at) h st =
        let loop : Loop = record { at = at; test = tested source call test; round = λ st2. then_do (run source call body st2) (behind (stepped source call step)) } in
        onwards_within own (then_do (started source call start st) (λ flow st1. looped (bounds_at source.bounds number) loop st1))
        (onwards_then (started source call start st) (λ flow st1. looped (bounds_at source.bounds number) loop st1)
        (λ flow st1. turns_onwards loop (λ st2. behind_within false (run source call body st2) (stepped source call step) (within false body h st2) (λ st3. onwards_within false (stepped source call step st3) (stepped_onwards step st3)))
        (bounds_at source.bounds number).max (bounds_at source.bounds number).min st1))
    within own (Switch test items at) h st =
        valued (Within own) (evaluated source call test true st) (λ word st1. then_do (run_from source call (has_case word items) word items (entered items st1)) out_of_switch) (λ stop. tt)
        (λ word st1. switch_within own (run_from source call (has_case word items) word items (entered items st1)) (from_within (has_case word items) word items h (entered items st1)))
    within true (BreakOff at) h st = absurd (true≢false h)
    within false (BreakOff at) h st = tt
    within own (GoOn at) h st = tt
    within own (GiveBack value at) h st = absurd (true≢false h)

    items_within : (own : Bool) (items : Items) → items_leave own items ≡ false → (st : State) → Within own (run_items source call items st)
    items_within own NoItem h st = tt
    items_within own (WithDeclaration declaration rest) h st =
        within_then own (declared source call declaration st) (run_items source call rest) (onwards_within own (declared source call declaration st) (declared_onwards declaration st)) (λ st1. items_within own rest h st1)
    items_within own (WithStatement statement rest) h st =
        let parts = or_parts (leaves own statement) (items_leave own rest) h in
        within_then own (run source call statement st) (run_items source call rest) (within own statement parts.0 st) (λ st1. items_within own rest parts.1 st1)
    items_within own (WithRestriction pragma rest) h st = items_within own rest h st
    items_within own (WithLabel label rest) h st = items_within own rest h st

    from_within : (found : Bool) (word : ℕ) (items : Items) → items_leave false items ≡ false → (st : State) → Within false (run_from source call found word items st)
    from_within found word NoItem h st = tt
    from_within found word (WithDeclaration declaration rest) h st = from_within found word rest h st
    from_within found word (WithStatement statement rest) h st =
        let parts = or_parts (leaves false statement) (items_leave false rest) h in
        from_within found word rest parts.1 st
    from_within found word (WithRestriction pragma rest) h st = from_within found word rest h st
    from_within found word (WithLabel label rest) h st = of (is_chosen found word label) (items_within false rest h st) (from_within found word rest h st)
      where
        of : (b : Bool) → Within false (run_items source call rest st) → Within false (run_from source call found word rest st) → Within false (if b then run_items source call rest st else run_from source call found word rest st)
        of true a c = a
        of false a c = c
