-- Statements do the same under narrower and wider bounds, where they are wider at counting loops alone.
use Rattle.std.proofs.Common.{◌≡◌, refl, sym, subst, ℕ, ◌+◌, Bool, true, false, List, length, Option, Some, None}
use Rattle.std.specs.Prelude.{◌||◌, if◌then◌else◌, slice_get}
use Rattle.facts_definitions.specs.Most.{bounds_at}
use Rattle.facts_definitions.specs.declared.facts.Bounds.{Bounds}
use Rattle.meaning_semantics.specs.State.{State, Outcome, Fine, choose, counted, then_do}
use Rattle.meaning_semantics.specs.Statements.{Loop, Source, behind, declared, entered, evaluated, has_case, if_onward, is_chosen, looped, out_of_switch, returned, run, run_from, run_items, while_holds}
use Rattle.meaning_semantics.specs.Values.{Calls}
use Rattle.meaning_semantics.specs.declared.outcome.Flow.{Flow}
use Rattle.meaning_semantics.specs.declared.outcome.Flow.TheVariants.{Onward, Break, Continue, Return}
use Rattle.types_tree.specs.Tree.{Expr, Statement, Block, Empty, Evaluate, Marker, If, IfElse, While, Do, For, Switch, Break as BreakOff, Continue as GoOn, Return as GiveBack, Items, NoItem, WithDeclaration, WithStatement, WithRestriction, WithLabel}
use Rattle.types_tree.specs.declared.variable.Variable.{Variable}
use Rattle.plan_served.specs.Places.{IsHome}
use Rattle.plan_runs.specs.StatementFits.{FitItems, FitReturn, FitStatement, block_declares, start_declares, with_live}
use Rattle.plan_runs.specs.Flows.{Rest}
use Rattle.high_ir.specs.declared.object.Kind.{Kind}
use Rattle.plan_runs.specs.ExpressionFits.{Fit, Function, Signatures}
use Rattle.plan_runs.specs.Meets.{Layout, home}
use Rattle.facts_loops.specs.Changes.{declaration_changes, expr_changes, items_changes, option_changes, statement_changes}
use Rattle.facts_loops.specs.CountingLoops.{items_loops, statement_loops}
use Rattle.facts_loops.specs.declared.form.LoopForm.{LoopForm}
use Rattle.counting_laws.proofs.Declaring.{declaration_keeps, dropped_keeps}
use Rattle.counting_laws.proofs.Entering.{block_entered, block_owned, left_scope, scope_run}
use Rattle.counting_laws.proofs.Fors.{LoopBy, for_follows, ns, valued_keeps, ws}
use Rattle.plan_law.proofs.DerivedLists.{Each, each_first, each_second}
use Rattle.counting_laws.proofs.Looping.{behind_keeps, onward_keeps, out_keeps, turns_keep}
use Rattle.counting_laws.proofs.Objects.{Names}
use Rattle.counting_laws.proofs.Settings.{IsRun, Keeps, Spares, keeps_then, resumed, spares_first, spares_second}
use Rattle.counting_laws.proofs.Steps.{choose_keeps, keeps_fine, keeps_here}

-- the bounds of a loop, narrow and wide
abbrev pub LoopFits : (blamed : ℕ → Type 0) (narrow wide : List Bounds) → LoopForm → Type 0
LoopFits blamed narrow wide l = LoopBy blamed l.derived (bounds_at narrow l.number) (bounds_at wide l.number) l.at

module _ (layout : Layout) (signatures : Signatures) (result : Kind) (rest : Rest) (wide_bounds : List Bounds) (blamed : ℕ → Type 0) (homes : (o : ℕ) (v : Variable) → slice_get layout.variables o ≡ Some v → IsHome v.duration v.extent (home layout o)) (narrow wide : Calls) where
  abbrev n_source : Source
  n_source = ns layout signatures result rest wide_bounds blamed homes narrow wide

  abbrev w_source : Source
  w_source = ws layout signatures result rest wide_bounds blamed homes narrow wide

  abbrev Run : (kept : ℕ → Type 0) → Function → Type 0
  Run kept f = IsRun layout signatures blamed kept f narrow wide

  abbrev LoopsFit : List LoopForm → Type 0
  LoopsFit loops = Each (LoopFits blamed rest.bounds wide_bounds) loops

  -- a place of a function
  module _ (f : Function) (kept : ℕ → Type 0) (ok : Run kept f) where
    abbrev Named : State → Type 0
    Named st = Names layout f.live st.objects

    abbrev Both : {A : Type 0} → State → Outcome A → Outcome A → Type 0
    Both st a b = Keeps layout f.live kept blamed st a b

    abbrev Clear : (ℕ → Bool) → Type 0
    Clear changes = Spares layout kept f changes

    value_of : (e : Expr) → Fit layout signatures f e → Clear (λ o. expr_changes o e) → (st : State) → Named st → Both st (evaluated n_source narrow e true st) (evaluated w_source wide e true st)
    value_of e fit clear st n = valued_keeps layout signatures result rest wide_bounds blamed homes narrow wide f kept ok e fit clear st n

    go_on : {A B : Type 0} (st : State) (a b : Outcome A) (go other : A → State → Outcome B) → Both st a b → ((x : A) (st1 : State) → Named st1 → Both st1 (go x st1) (other x st1)) → Both st (then_do a go) (then_do b other)
    go_on st a b go other h more = keeps_then layout f.live kept blamed st a b go other h more

    here : (flow : Flow) (st : State) → Named st → Both st (Fine flow st) (Fine flow st)
    here flow st n = keeps_here layout f.live kept blamed flow st n

    -- a choice by a test
    chosen : (test : Expr) (first other wide_first wide_other : State → Outcome Flow) → Fit layout signatures f test → Clear (λ o. expr_changes o test) → ((st : State) → Named st → Both st (first st) (wide_first st)) → ((st : State) → Named st → Both st (other st) (wide_other st)) →
        (st : State) → Named st → Both st (then_do (evaluated n_source narrow test true st) (λ word st1. choose word (first st1) (other st1))) (then_do (evaluated w_source wide test true st) (λ word st1. choose word (wide_first st1) (wide_other st1)))
    chosen test first other wide_first wide_other fit clear a b st n =
        go_on st (evaluated n_source narrow test true st) (evaluated w_source wide test true st) (λ word st1. choose word (first st1) (other st1)) (λ word st1. choose word (wide_first st1) (wide_other st1)) (value_of test fit clear st n)
        (λ word st1 n1. choose_keeps layout f.live kept blamed word st1 (first st1) (wide_first st1) (other st1) (wide_other st1) (a st1 n1) (b st1 n1))

    -- a loop that is to blame, by its test and what stands behind its body
    plain : (number at : ℕ) (test other_test : State → Outcome ℕ) (body : Statement) (next other_next : State → Outcome Flow) → LoopBy blamed None (bounds_at rest.bounds number) (bounds_at wide_bounds number) at →
        ((st : State) → Named st → Both st (test st) (other_test st)) → ((st : State) → Named st → Both st (run n_source narrow body st) (run w_source wide body st)) → ((st : State) → Named st → Both st (next st) (other_next st)) → (st : State) → Named st →
        Both st (looped (bounds_at rest.bounds number) (record { at = at; test = test; round = λ st1. then_do (run n_source narrow body st1) (behind next) }) st)
        (looped (bounds_at wide_bounds number) (record { at = at; test = other_test; round = λ st1. then_do (run w_source wide body st1) (behind other_next) }) st)
    plain number at test other_test body next other_next loop_ok tests follows goes st n =
        subst (λ b. Both st (looped (bounds_at rest.bounds number) nl st) (looped b wl st)) (sym loop_ok.0)
        (turns_keep layout f.live kept blamed at loop_ok.1 test other_test (λ st1. then_do (run n_source narrow body st1) (behind next)) (λ st1. then_do (run w_source wide body st1) (behind other_next)) tests
        (λ st1 n1. go_on st1 (run n_source narrow body st1) (run w_source wide body st1) (behind next) (behind other_next) (follows st1 n1) (λ flow st2 n2. behind_keeps layout f.live kept blamed next other_next goes flow st2 n2))
        (bounds_at rest.bounds number).max (bounds_at rest.bounds number).min st n)
      where
        nl : Loop
        nl = record { at = at; test = test; round = λ st1. then_do (run n_source narrow body st1) (behind next) }

        wl : Loop
        wl = record { at = at; test = other_test; round = λ st1. then_do (run w_source wide body st1) (behind other_next) }

    while_keeps : (test : Expr) → Fit layout signatures f test → Clear (λ o. expr_changes o test) → (st : State) → Named st → Both st (while_holds n_source narrow test st) (while_holds w_source wide test st)
    while_keeps test fit clear st n =
        go_on st (evaluated n_source narrow test true st) (evaluated w_source wide test true st) (λ word st1. Fine (choose word Onward Break) st1) (λ word st1. Fine (choose word Onward Break) st1) (value_of test fit clear st n)
        (λ word st1 n1. here (choose word Onward Break) st1 n1)

    returned_keeps : (e : Option Expr) → FitReturn layout signatures result rest.bounds f e → Clear (λ o. option_changes o e) → (st : State) → Named st → Both st (returned n_source narrow e st) (returned w_source wide e st)
    returned_keeps None fit clear st n = here (Return None) st n
    returned_keeps (Some e) fit clear st n =
        go_on st (evaluated n_source narrow e true st) (evaluated w_source wide e true st) (λ word st1. Fine (Return (Some word)) st1) (λ word st1. Fine (Return (Some word)) st1) (value_of e fit.0 clear st n) (λ word st1 n1. here (Return (Some word)) st1 n1)

    -- a block, whose objects live in it
    block_keeps : (items : Items) (inner other : State → Outcome Flow) → FitItems layout signatures result rest.bounds (with_live f (block_declares items)) items → Clear (λ o. items_changes o items) →
        (Run kept (with_live f (block_declares items)) → (st : State) → Names layout (with_live f (block_declares items)).live st.objects → Keeps layout (with_live f (block_declares items)).live kept blamed st (inner st) (other st)) →
        (st : State) → Named st → Both st (inner (entered items st)) (other (entered items st))
    block_keeps items inner other fit clear follows st n =
        let f2 = with_live f (block_declares items) in
        let s = block_entered layout signatures blamed kept f narrow wide ok result rest.bounds items fit clear st n in
        let run2 = scope_run layout signatures blamed kept f narrow wide ok (block_declares items) (block_owned layout signatures blamed kept f narrow wide ok result rest.bounds items fit) in
        left_scope layout signatures blamed kept f narrow wide ok (block_declares items) st (inner (entered items st)) (other (entered items st))
        (resumed layout f2.live kept blamed st (entered items st) (inner (entered items st)) (other (entered items st)) s (follows run2 (entered items st) s.names))

    -- a switch, by what its items do
    switch_keeps : (test : Expr) (items : Items) → Fit layout signatures f test → Clear (λ o. expr_changes o test) → FitItems layout signatures result rest.bounds (with_live f (block_declares items)) items → Clear (λ o. items_changes o items) →
        (Run kept (with_live f (block_declares items)) → (found : Bool) (word : ℕ) (st : State) → Names layout (with_live f (block_declares items)).live st.objects →
        Keeps layout (with_live f (block_declares items)).live kept blamed st (run_from n_source narrow found word items st) (run_from w_source wide found word items st)) →
        (st : State) → Named st →
        Both st (then_do (evaluated n_source narrow test true st) (λ word st1. then_do (run_from n_source narrow (has_case word items) word items (entered items st1)) out_of_switch))
        (then_do (evaluated w_source wide test true st) (λ word st1. then_do (run_from w_source wide (has_case word items) word items (entered items st1)) out_of_switch))
    switch_keeps test items fit clear fits clears follows st n =
        go_on st (evaluated n_source narrow test true st) (evaluated w_source wide test true st)
        (λ word st1. then_do (run_from n_source narrow (has_case word items) word items (entered items st1)) out_of_switch) (λ word st1. then_do (run_from w_source wide (has_case word items) word items (entered items st1)) out_of_switch)
        (value_of test fit clear st n)
        (λ word st1 n1.
        go_on st1 (run_from n_source narrow (has_case word items) word items (entered items st1)) (run_from w_source wide (has_case word items) word items (entered items st1)) out_of_switch out_of_switch
        (block_keeps items (λ st2. run_from n_source narrow (has_case word items) word items st2) (λ st2. run_from w_source wide (has_case word items) word items st2) fits clears (λ r st2 n2. follows r (has_case word items) word st2 n2) st1 n1)
        (λ flow st2 n2. out_keeps layout f.live kept blamed flow st2 n2))

    -- one part before others
    in_front : (a b : Outcome Flow) (next other : State → Outcome Flow) (st : State) → Both st a b → ((st1 : State) → Named st1 → Both st1 (next st1) (other st1)) → Both st (then_do a (if_onward next)) (then_do b (if_onward other))
    in_front a b next other st h goes = go_on st a b (if_onward next) (if_onward other) h (λ flow st1 n1. onward_keeps layout f.live kept blamed next other goes flow st1 n1)

  -- a label at which a switch goes on, or doesn't
  by_label : (f : Function) (kept : ℕ → Type 0) (here : Bool) (st : State) (a b c d : Outcome Flow) → Keeps layout f.live kept blamed st a b → Keeps layout f.live kept blamed st c d →
      Keeps layout f.live kept blamed st (if here then a else c) (if here then b else d)
  by_label f kept true st a b c d h k = h
  by_label f kept false st a b c d h k = k

  mutual
    pub follows : (s : Statement) (f : Function) (kept : ℕ → Type 0) → Run kept f → FitStatement layout signatures result rest.bounds f s → Spares layout kept f (λ o. statement_changes o s) → LoopsFit (statement_loops layout.variables s) →
        (st : State) → Names layout f.live st.objects → Keeps layout f.live kept blamed st (run n_source narrow s st) (run w_source wide s st)
    follows (Block items at) f kept ok fit clear loops st n =
        block_keeps f kept ok items (run_items n_source narrow items) (run_items w_source wide items) fit clear (λ r st1 n1. items_follow items (with_live f (block_declares items)) kept r fit clear loops st1 n1) st n
    follows (Empty at) f kept ok fit clear loops st n = here f kept ok Onward st n
    follows (Evaluate e at) f kept ok fit clear loops st n = dropped_keeps layout signatures result rest wide_bounds blamed kept f narrow wide ok e fit clear st n
    follows (Marker number pragma) f kept ok fit clear loops st n =
        keeps_fine layout f.live kept blamed Onward st (counted (length rest.functions + number) st) (record { names = record { by = n.by }; same = λ o k. refl })
    follows (If test first at) f kept ok fit clear loops st n =
        let own = spares_first layout kept f (λ o. expr_changes o test) (λ o. statement_changes o first) clear in
        let inner = spares_second layout kept f (λ o. expr_changes o test) (λ o. statement_changes o first) clear in
        chosen f kept ok test (run n_source narrow first) (Fine Onward) (run w_source wide first) (Fine Onward) fit.0 own (λ st1 n1. follows first f kept ok fit.1 inner loops st1 n1) (λ st1 n1. here f kept ok Onward st1 n1) st n
    follows (IfElse test first second at) f kept ok fit clear loops st n =
        let own = spares_first layout kept f (λ o. expr_changes o test) (λ o. statement_changes o first || statement_changes o second) clear in
        let others = spares_second layout kept f (λ o. expr_changes o test) (λ o. statement_changes o first || statement_changes o second) clear in
        let a = spares_first layout kept f (λ o. statement_changes o first) (λ o. statement_changes o second) others in
        let b = spares_second layout kept f (λ o. statement_changes o first) (λ o. statement_changes o second) others in
        let one = each_first (LoopFits blamed rest.bounds wide_bounds) (statement_loops layout.variables first) (statement_loops layout.variables second) loops in
        let two = each_second (LoopFits blamed rest.bounds wide_bounds) (statement_loops layout.variables first) (statement_loops layout.variables second) loops in
        chosen f kept ok test (run n_source narrow first) (run n_source narrow second) (run w_source wide first) (run w_source wide second) fit.0 own (λ st1 n1. follows first f kept ok fit.1 a one st1 n1) (λ st1 n1. follows second f kept ok fit.2 b two st1 n1) st n
    follows (While number bound test body at) f kept ok fit clear loops st n =
        let own = spares_first layout kept f (λ o. expr_changes o test) (λ o. statement_changes o body) clear in
        let inner = spares_second layout kept f (λ o. expr_changes o test) (λ o. statement_changes o body) clear in
        plain f kept ok number at (evaluated n_source narrow test true) (evaluated w_source wide test true) body (Fine Onward) (Fine Onward) loops.0 (λ st1 n1. value_of f kept ok test fit.0 own st1 n1)
        (λ st1 n1. follows body f kept ok fit.1 inner loops.1 st1 n1) (λ st1 n1. here f kept ok Onward st1 n1) st n
    follows (Do number bound body test at) f kept ok fit clear loops st n =
        let inner = spares_first layout kept f (λ o. statement_changes o body) (λ o. expr_changes o test) clear in
        let own = spares_second layout kept f (λ o. statement_changes o body) (λ o. expr_changes o test) clear in
        plain f kept ok number at (Fine 1) (Fine 1) body (while_holds n_source narrow test) (while_holds w_source wide test) loops.0 (λ st1 n1. keeps_here layout f.live kept blamed 1 st1 n1)
        (λ st1 n1. follows body f kept ok fit.1 inner loops.1 st1 n1) (λ st1 n1. while_keeps f kept ok test fit.0 own st1 n1) st n
    follows (For number bound start test step body at) f kept ok fit clear loops st n =
        for_follows layout signatures result rest wide_bounds blamed homes narrow wide f kept ok number bound start test step body at fit clear
        (λ own inner spares st1 n1. follows body (with_live f (start_declares start)) own inner fit.3 spares loops.1 st1 n1) loops.0 st n
    follows (Switch test items at) f kept ok fit clear loops st n =
        let own = spares_first layout kept f (λ o. expr_changes o test) (λ o. items_changes o items) clear in
        let inner = spares_second layout kept f (λ o. expr_changes o test) (λ o. items_changes o items) clear in
        switch_keeps f kept ok test items fit.0 own fit.1 inner (λ r found word st1 n1. from_follows items (with_live f (block_declares items)) kept r fit.1 inner loops found word st1 n1) st n
    follows (BreakOff at) f kept ok fit clear loops st n = here f kept ok Break st n
    follows (GoOn at) f kept ok fit clear loops st n = here f kept ok Continue st n
    follows (GiveBack e at) f kept ok fit clear loops st n = returned_keeps f kept ok e fit clear st n

    pub items_follow : (items : Items) (f : Function) (kept : ℕ → Type 0) → Run kept f → FitItems layout signatures result rest.bounds f items → Spares layout kept f (λ o. items_changes o items) → LoopsFit (items_loops layout.variables items) →
        (st : State) → Names layout f.live st.objects → Keeps layout f.live kept blamed st (run_items n_source narrow items st) (run_items w_source wide items st)
    items_follow NoItem f kept ok fit clear loops st n = here f kept ok Onward st n
    items_follow (WithDeclaration declaration items) f kept ok fit clear loops st n =
        let own = spares_first layout kept f (λ o. declaration_changes o declaration) (λ o. items_changes o items) clear in
        let others = spares_second layout kept f (λ o. declaration_changes o declaration) (λ o. items_changes o items) clear in
        in_front f kept ok (declared n_source narrow declaration st) (declared w_source wide declaration st) (run_items n_source narrow items) (run_items w_source wide items) st
        (declaration_keeps layout signatures result rest wide_bounds blamed kept f narrow wide ok declaration fit.0 own st n) (λ st1 n1. items_follow items f kept ok fit.1 others loops st1 n1)
    items_follow (WithStatement statement items) f kept ok fit clear loops st n =
        let own = spares_first layout kept f (λ o. statement_changes o statement) (λ o. items_changes o items) clear in
        let others = spares_second layout kept f (λ o. statement_changes o statement) (λ o. items_changes o items) clear in
        let one = each_first (LoopFits blamed rest.bounds wide_bounds) (statement_loops layout.variables statement) (items_loops layout.variables items) loops in
        let two = each_second (LoopFits blamed rest.bounds wide_bounds) (statement_loops layout.variables statement) (items_loops layout.variables items) loops in
        in_front f kept ok (run n_source narrow statement st) (run w_source wide statement st) (run_items n_source narrow items) (run_items w_source wide items) st
        (follows statement f kept ok fit.0 own one st n) (λ st1 n1. items_follow items f kept ok fit.1 others two st1 n1)
    items_follow (WithRestriction pragma items) f kept ok fit clear loops st n = items_follow items f kept ok fit clear loops st n
    items_follow (WithLabel label items) f kept ok fit clear loops st n = items_follow items f kept ok fit clear loops st n

    from_follows : (items : Items) (f : Function) (kept : ℕ → Type 0) → Run kept f → FitItems layout signatures result rest.bounds f items → Spares layout kept f (λ o. items_changes o items) → LoopsFit (items_loops layout.variables items) →
        (found : Bool) (word : ℕ) (st : State) → Names layout f.live st.objects → Keeps layout f.live kept blamed st (run_from n_source narrow found word items st) (run_from w_source wide found word items st)
    from_follows NoItem f kept ok fit clear loops found word st n = here f kept ok Onward st n
    from_follows (WithDeclaration declaration items) f kept ok fit clear loops found word st n =
        from_follows items f kept ok fit.1 (spares_second layout kept f (λ o. declaration_changes o declaration) (λ o. items_changes o items) clear) loops found word st n
    from_follows (WithStatement statement items) f kept ok fit clear loops found word st n =
        from_follows items f kept ok fit.1 (spares_second layout kept f (λ o. statement_changes o statement) (λ o. items_changes o items) clear)
        (each_second (LoopFits blamed rest.bounds wide_bounds) (statement_loops layout.variables statement) (items_loops layout.variables items) loops) found word st n
    from_follows (WithRestriction pragma items) f kept ok fit clear loops found word st n = from_follows items f kept ok fit clear loops found word st n
    from_follows (WithLabel label items) f kept ok fit clear loops found word st n =
        by_label f kept (is_chosen found word label) st (run_items n_source narrow items st) (run_items w_source wide items st) (run_from n_source narrow found word items st) (run_from w_source wide found word items st)
        (items_follow items f kept ok fit clear loops st n) (from_follows items f kept ok fit clear loops found word st n)
