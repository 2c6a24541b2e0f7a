-- A statement without a `continue` of its own never ends by one.
use Rattle.std.proofs.Common.{◌≡◌, ℕ, zero, suc, ◌-◌, Bool, true, false, Option, Some, None}
use Rattle.std.specs.Prelude.{if◌then◌else◌}
use Rattle.std.proofs.lemmas.Bool.{or_parts, true≢false}
use Rattle.facts_definitions.specs.Most.{bounds_at}
use Rattle.meaning_semantics.specs.State.{State, Outcome, Fine, Stopped, then_do, choose}
use Rattle.meaning_semantics.specs.Statements.{Source, Loop, again, behind, declared, dropped, entered, evaluated, has_case, if_onward, is_chosen, left_with, looped, out_of_switch, returned, run, run_from, run_items, started, stepped, tested, turns, while_holds}
use Rattle.meaning_semantics.specs.Values.{Calls}
use Rattle.meaning_semantics.specs.declared.outcome.Flow.{Flow}
use Rattle.meaning_semantics.specs.declared.outcome.Flow.TheVariants.{Onward, Break, Continue, Return}
use Rattle.meaning_semantics.specs.declared.outcome.Stop.TheVariants.{Broken}
use Rattle.types_tree.specs.Tree.{Expr, Statement, Block, Empty, Evaluate, Marker, If, IfElse, While, Do, For, Switch, Break as BreakOff, Continue as GoOn, Return as GiveBack, Items, NoItem, WithDeclaration, WithStatement, WithRestriction, WithLabel}
use Rattle.plan_definition.specs.Statements.{continues, items_continue}
use Rattle.plan_runs.proofs.Leaving.{Onwards, valued, dropped_onwards, declared_onwards}

abbrev pub NoContinue : Outcome Flow → Type 0
NoContinue (Stopped stop) = Unit {0}
NoContinue (Fine Onward st) = Unit {0}
NoContinue (Fine Break st) = Unit {0}
NoContinue (Fine Continue st) = ⊥
NoContinue (Fine (Return word) st) = Unit {0}

onwards_none : (o : Outcome Flow) → Onwards o → NoContinue o
onwards_none (Stopped stop) h = tt
onwards_none (Fine Onward st) h = tt
onwards_none (Fine Break st) h = tt
onwards_none (Fine Continue st) h = h
onwards_none (Fine (Return word) st) h = tt

none_then : (o : Outcome Flow) (go : State → Outcome Flow) → NoContinue o → ((st : State) → NoContinue (go st)) → NoContinue (then_do o (if_onward go))
none_then (Stopped stop) go h next = tt
none_then (Fine Onward st) go h next = next st
none_then (Fine Break st) go h next = tt
none_then (Fine Continue st) go h next = h
none_then (Fine (Return word) st) go h next = tt

choose_none : (x : ℕ) (first other : Outcome Flow) → NoContinue first → NoContinue other → NoContinue (choose x first other)
choose_none zero first other h k = k
choose_none (suc n) first other h k = h

left_none : (owed at : ℕ) (flow : Flow) (st : State) → NoContinue (Fine flow st) → NoContinue (left_with owed at flow st)
left_none zero at flow st h = h
left_none (suc owed) at flow st h = tt

again_none : (owed at : ℕ) (o : Outcome Flow) (next : State → Outcome Flow) → ((st : State) → NoContinue (next st)) → NoContinue (then_do o (again owed at next))
again_none owed at (Stopped stop) next goes = tt
again_none owed at (Fine Onward st) next goes = goes st
again_none owed at (Fine Continue st) next goes = goes st
again_none owed at (Fine Break st) next goes = left_none owed at Onward st tt
again_none owed at (Fine (Return word) st) next goes = left_none owed at (Return word) st tt

-- a loop keeps the continues of its body
turns_none : (loop : Loop) (left owed : ℕ) (st : State) → NoContinue (turns loop left owed st)
turns_none loop zero owed st =
    valued NoContinue (loop.test st) (λ word st1. choose word (Stopped (Broken loop.at)) (left_with owed loop.at Onward st1)) (λ stop. tt)
    (λ word st1. choose_none word (Stopped (Broken loop.at)) (left_with owed loop.at Onward st1) tt (left_none owed loop.at Onward st1 tt))
turns_none loop (suc left) owed st =
    let next : (st1 : State) → NoContinue (turns loop left (owed - 1) st1) = λ st1. turns_none loop left (owed - 1) st1 in
    valued NoContinue (loop.test st) (λ word st1. choose word (then_do (loop.round st1) (again (owed - 1) loop.at (turns loop left (owed - 1)))) (left_with owed loop.at Onward st1)) (λ stop. tt)
    (λ word st1. choose_none word (then_do (loop.round st1) (again (owed - 1) loop.at (turns loop left (owed - 1)))) (left_with owed loop.at Onward st1)
    (again_none (owed - 1) loop.at (loop.round st1) (turns loop left (owed - 1)) next) (left_none owed loop.at Onward st1 tt))

switch_none : (o : Outcome Flow) → NoContinue o → NoContinue (then_do o out_of_switch)
switch_none (Stopped stop) h = tt
switch_none (Fine Onward st) h = tt
switch_none (Fine Break st) h = tt
switch_none (Fine Continue st) h = h
switch_none (Fine (Return word) st) h = tt

module _ (source : Source) (call : Calls) where
  returned_none : (value : Option Expr) (st : State) → NoContinue (returned source call value st)
  returned_none None st = tt
  returned_none (Some e) st = valued NoContinue (evaluated source call e true st) (λ word st1. Fine (Return (Some word)) st1) (λ stop. tt) (λ word st1. tt)

  mutual
    pub never_continues : (s : Statement) → continues s ≡ false → (st : State) → NoContinue (run source call s st)
    never_continues (Block items at) h st = items_never_continue items h (entered items st)
    never_continues (Empty at) h st = tt
    never_continues (Evaluate e at) h st = onwards_none (dropped source call e st) (dropped_onwards source call e st)
    never_continues (Marker number pragma) h st = tt
    never_continues (If test first at) h st =
        valued NoContinue (evaluated source call test true st) (λ word st1. choose word (run source call first st1) (Fine Onward st1)) (λ stop. tt)
        (λ word st1. choose_none word (run source call first st1) (Fine Onward st1) (never_continues first h st1) tt)
    never_continues (IfElse test first second at) h st =
        let parts = or_parts (continues first) (continues second) h in
        valued NoContinue (evaluated source call test true st) (λ word st1. choose word (run source call first st1) (run source call second st1)) (λ stop. tt)
        (λ word st1. choose_none word (run source call first st1) (run source call second st1) (never_continues first parts.0 st1) (never_continues second parts.1 st1))
    never_continues (While number bound test body at) h st =
        turns_none (record { at = at; test = evaluated source call test true; round = λ st1. then_do (run source call body st1) (behind (Fine Onward)) }) (bounds_at source.bounds number).max (bounds_at source.bounds number).min st
    never_continues (Do number bound body test at) h st =
        turns_none (record { at = at; test = Fine 1; round = λ st1. then_do (run source call body st1) (behind (while_holds source call test)) }) (bounds_at source.bounds number).max (bounds_at source.bounds number).min st
    never_continues (For number bound start test step body at) h st =
        let loop : Loop = record { at = at; test = tested source call test; round = λ st2. then_do (run source call body st2) (behind (stepped source call step)) } in
        valued NoContinue (started source call start st) (λ flow st1. looped (bounds_at source.bounds number) loop st1) (λ stop. tt)
        (λ flow st1. turns_none loop (bounds_at source.bounds number).max (bounds_at source.bounds number).min st1)
    never_continues (Switch test items at) h st =
        valued NoContinue (evaluated source call test true st) (λ word st1. then_do (run_from source call (has_case word items) word items (entered items st1)) out_of_switch) (λ stop. tt)
        (λ word st1. switch_none (run_from source call (has_case word items) word items (entered items st1)) (from_never_continues (has_case word items) word items h (entered items st1)))
    never_continues (BreakOff at) h st = tt
    never_continues (GoOn at) h st = absurd (true≢false h)
    never_continues (GiveBack value at) h st = returned_none value st

    items_never_continue : (items : Items) → items_continue items ≡ false → (st : State) → NoContinue (run_items source call items st)
    items_never_continue NoItem h st = tt
    items_never_continue (WithDeclaration declaration rest) h st =
        none_then (declared source call declaration st) (run_items source call rest) (onwards_none (declared source call declaration st) (declared_onwards source call declaration st)) (λ st1. items_never_continue rest h st1)
    items_never_continue (WithStatement statement rest) h st =
        let parts = or_parts (continues statement) (items_continue rest) h in
        none_then (run source call statement st) (run_items source call rest) (never_continues statement parts.0 st) (λ st1. items_never_continue rest parts.1 st1)
    items_never_continue (WithRestriction pragma rest) h st = items_never_continue rest h st
    items_never_continue (WithLabel label rest) h st = items_never_continue rest h st

    from_never_continues : (found : Bool) (word : ℕ) (items : Items) → items_continue items ≡ false → (st : State) → NoContinue (run_from source call found word items st)
    from_never_continues found word NoItem h st = tt
    from_never_continues found word (WithDeclaration declaration rest) h st = from_never_continues found word rest h st
    from_never_continues found word (WithStatement statement rest) h st =
        let parts = or_parts (continues statement) (items_continue rest) h in
        from_never_continues found word rest parts.1 st
    from_never_continues found word (WithRestriction pragma rest) h st = from_never_continues found word rest h st
    from_never_continues found word (WithLabel label rest) h st = of (is_chosen found word label) (items_never_continue rest h st) (from_never_continues found word rest h st)
      where
        of : (b : Bool) → NoContinue (run_items source call rest st) → NoContinue (run_from source call found word rest st) → NoContinue (if b then run_items source call rest st else run_from source call found word rest st)
        of true a c = a
        of false a c = c
