-- How many variables the code of statements needs.
use Rattle.std.proofs.Common.{ℕ, suc, ◌+◌, ◌-◌, ◌<◌, ◌≤◌, max, Bool, true, false, List, [], ◌∷◌, Option, Some, None, arith}
use Rattle.facts_definitions.specs.Most.{bounds_at, declaration_most, expr_most, exprs_most, initial_most, items_most, objects_most, option_most, start_most, statement_most}
use Rattle.facts_definitions.specs.Sites.{count_exprs}
use Rattle.facts_definitions.specs.Starts.{is_always, is_always_or_absent, starts}
use Rattle.facts_definitions.specs.declared.facts.Starts.{Starts}
use Rattle.types_tree.specs.Tree as c
use Rattle.high_ir.specs.declared.expression.BinaryOperator.TheVariants as binary
use Rattle.high_ir.specs.Tree.{Expr, Constant, Binary, Set, Seq, If, Leave, Return, Statements, End, Then}
use Rattle.high_code.specs.Code.{joined, alone, nothing, frame_needed, frame_needed_all}
use Rattle.plan_definition.specs.declared.home.Home.{Home}
use Rattle.plan_definition.specs.declared.home.Home.TheVariants.{Frame, Memory}
use Rattle.plan_definition.specs.declared.purpose.Purpose.TheVariants.{Value, Effect, Unless}
use Rattle.plan_definition.specs.Homes.{home_of}
use Rattle.plan_definition.specs.Statements.{Exits, Parts, Plan, all_declared, all_planned, body_planned, chosen_else, chosen_if, continues, declared, deeper, default_number, ends_in_block, filled, filling, guarded, in_loop, in_switch, initialised, label_tests, last_in_block, leaving_unless, listed, loops_before, looped, parts_planned, planned, returned, round_of, rounded, started, stepped, stored_at, switched, tested}
use Rattle.plan_definition.specs.Values.{Valued, firm, in_block, is_joint, made}
use Rattle.plan_forms.proofs.SizedStatements.{some_most}
use Rattle.plan_formed.proofs.SourceStatements.{once}
use Rattle.plan_formed.specs.Framed.{AllFramed, DeclarationFramed, Framed, InitialFramed, ItemsFramed, LivesBelow, ObjectsFramed, OptionFramed, StartFramed, StatementFramed}
use Rattle.plan_formed.proofs.FramedExpressions.{Needs, firm_needs, made_needs, needs_joined, needs_more, none}

module _ (plan : Plan) (n : ℕ) where
  value_needs : (e : c.Expr) (k b : ℕ) → Framed plan.homes n e → n ≤ k → k + 1 + expr_most none e ≤ b → Needs b (made plan.homes Value e k).code
  value_needs e k b may le room = needs_more (k + 1 + expr_most none e) b (made plan.homes Value e k).code room (made_needs plan.homes n Value e k may le)

  effect_needs : (e : c.Expr) (k b : ℕ) → Framed plan.homes n e → n ≤ k → k + 1 + expr_most none e ≤ b → Needs b (made plan.homes Effect e k).code
  effect_needs e k b may le room = needs_more (k + 1 + expr_most none e) b (made plan.homes Effect e k).code room (made_needs plan.homes n Effect e k may le)

  jumps_needs : (e : c.Expr) (k b : ℕ) → Framed plan.homes n e → n ≤ k → k + 1 + expr_most none e ≤ b → Needs b (made plan.homes (Unless 0) e k).code
  jumps_needs e k b may le room = needs_more (k + 1 + expr_most none e) b (made plan.homes (Unless 0) e k).code room (made_needs plan.homes n (Unless 0) e k may le)

  -- declarations
  stored_needs : (home : Home) (index value : Expr) (b : ℕ) → LivesBelow n home → n ≤ b → frame_needed (stored_at home index value) ≤ b
  stored_needs (Frame x) index value b h le = omega (arith, h, le)
  stored_needs (Memory array) index value b h le = omega arith

  listed_needs : (home : Home) (es : c.Exprs) (index k b : ℕ) → LivesBelow n home → AllFramed plan.homes n es → n ≤ k → k + 1 + exprs_most none es ≤ b → Needs b (listed plan home es index k)
  listed_needs home c.NoExpr index k b h may le room = omega arith
  listed_needs home (c.WithExpr e rest) index k b h may le room =
      let p = made plan.homes Value e k in
      needs_joined b p.code (Then (stored_at home (Constant index) p.value) (listed plan home rest (index + 1) k)) (value_needs e k b may.0 le (omega (arith, room)))
      (both (frame_needed (stored_at home (Constant index) p.value)) (frame_needed_all (listed plan home rest (index + 1) k)) (stored_needs home (Constant index) p.value b h (omega (arith, le, room))) (listed_needs home rest (index + 1) k b h may.1 le (omega (arith, room))))
    where
      both : (x y : ℕ) → x ≤ b → y ≤ b → max x y ≤ b
      both x y l m = omega (arith, l, m)

  filled_needs : (home : Home) (id from count k b : ℕ) → LivesBelow n home → n ≤ k → k + 1 ≤ b → Needs b (filled home id from count k)
  filled_needs (Frame x) id from count k b h le room = omega (arith, h, le, room)
  filled_needs (Memory array) id from count k b h le room = omega (arith, room)

  filling_needs : (home : Home) (shift : ℕ) (number : Option ℕ) (from k b : ℕ) → LivesBelow n home → n ≤ k → k + 1 ≤ b → Needs b (filling plan home shift number from k)
  filling_needs home shift None from k b h le room = omega arith
  filling_needs home shift (Some number) from k b h le room = filled_needs home (number - 1 - shift) from (bounds_at plan.bounds number).max k b h le room

  initial_needs : (home : Home) (initial : c.Initial) (shift k b : ℕ) → LivesBelow n home → InitialFramed plan.homes n initial → n ≤ k → k + 1 + initial_most [] none initial ≤ b → Needs b (initialised plan home initial shift k)
  initial_needs home c.Absent shift k b h may le room = omega arith
  initial_needs home (c.Value e) shift k b h may le room =
      let p = made plan.homes Value e k in
      needs_joined b p.code (alone (stored_at home (Constant 0) p.value)) (value_needs e k b may le room) (only (frame_needed (stored_at home (Constant 0) p.value)) (stored_needs home (Constant 0) p.value b h (omega (arith, le, room))))
    where
      only : (x : ℕ) → x ≤ b → max x 0 ≤ b
      only x l = omega (arith, l)
  initial_needs home (c.Listed es comma number) shift k b h may le room =
      needs_joined b (listed plan home es 0 k) (filling plan home shift number (count_exprs es) k) (listed_needs home es 0 k b h may le (omega (arith, room))) (filling_needs home shift number (count_exprs es) k b h le (omega (arith, room)))

  objects_need : (objects : List c.Object) (shift k b : ℕ) → ObjectsFramed plan.homes n objects → n ≤ k → k + 1 + objects_most [] none objects ≤ b → Needs b (all_declared plan objects shift k)
  objects_need [] shift k b may le room = omega arith
  objects_need (c.Declared object shape initial at ∷ rest) shift k b may le room =
      let home = home_of plan.homes object in
      needs_joined b (initialised plan home initial shift k) (all_declared plan rest shift k) (initial_needs home initial shift k b may.0 may.1 le (omega (arith, room))) (objects_need rest shift k b may.2 le (omega (arith, room)))

  declaration_needs : (declaration : c.Declaration) (shift k b : ℕ) → DeclarationFramed plan.homes n declaration → n ≤ k → k + 1 + declaration_most [] none declaration ≤ b → Needs b (declared plan declaration shift k)
  declaration_needs (c.Objects specifiers objects at) shift k b may le room = objects_need objects shift k b may le (omega (arith, room))
  declaration_needs (c.Prototype specifiers name params at) shift k b may le room = omega arith

  start_needs : (start : c.ForStart) (k b : ℕ) → StartFramed plan.homes n start → n ≤ k → k + 1 + start_most [] none start ≤ b → Needs b (started plan start k)
  start_needs c.NoStart k b may le room = omega arith
  start_needs (c.StartValue e) k b may le room = effect_needs e k b may le room
  start_needs (c.StartDeclaration declaration) k b may le room = declaration_needs declaration 1 k b may le room

  leaving_needs : (always : Bool) (b : ℕ) (jumps : Statements) → Needs b jumps → Needs b (leaving_unless always jumps)
  leaving_needs true b jumps h = omega arith
  leaving_needs false b jumps h = h

  tested_needs : (test : Option c.Expr) (k b : ℕ) → OptionFramed plan.homes n test → n ≤ k → k + 1 + option_most none test ≤ b → Needs b (tested plan test k)
  tested_needs None k b may le room = omega arith
  tested_needs (Some e) k b may le room = leaving_needs (is_always e) b (made plan.homes (Unless 0) e k).code (jumps_needs e k b may le room)

  stepped_needs : (step : Option c.Expr) (k b : ℕ) → OptionFramed plan.homes n step → n ≤ k → k + 1 + option_most none step ≤ b → Needs b (stepped plan step k)
  stepped_needs None k b may le room = omega arith
  stepped_needs (Some e) k b may le room = effect_needs e k b may le room

  returned_needs : (value : Option c.Expr) (k b : ℕ) → OptionFramed plan.homes n value → n ≤ k → k + 1 + option_most none value ≤ b → Needs b (returned plan value k)
  returned_needs None k b may le room = omega arith
  returned_needs (Some e) k b may le room = needs_joined b (made plan.homes Value e k).code (alone (Return (made plan.homes Value e k).value)) (value_needs e k b may le room) (omega arith)

  -- branches
  if_needs : (joint : Bool) (b : ℕ) (test : Valued) (jumps first within : Statements) → Needs b test.code → Needs b jumps → Needs b first → Needs b within → Needs b (chosen_if joint test jumps first within)
  if_needs false b test jumps first within t j f w = needs_joined b test.code (alone (If test.value (Seq first) (Seq End))) t (omega (arith, f))
  if_needs true b test jumps first within t j f w = let inner = needs_joined b jumps within j w in omega (arith, inner)

  else_needs : (joint : Bool) (b : ℕ) (test : Valued) (jumps first other first_within other_within : Statements) → Needs b test.code → Needs b jumps → Needs b first → Needs b other → Needs b first_within → Needs b other_within → Needs b (chosen_else joint test jumps first other first_within other_within)
  else_needs false b test jumps first other fw ow t j f o f1 o1 = needs_joined b test.code (alone (If test.value (Seq first) (Seq other))) t (omega (arith, f, o))
  else_needs true b test jumps first other fw ow t j f o f1 o1 =
      let inner = needs_joined b jumps (joined fw (alone (Leave 1))) j (needs_joined b fw (alone (Leave 1)) f1 (omega arith)) in
      omega (arith, inner, o1)

  -- loops
  last_needs : (b : ℕ) (code : Statements) → Needs b code → Needs b (last_in_block code)
  last_needs b End h = h
  last_needs b (Then first End) h = h
  last_needs b (Then first (Then second rest)) h = omega (arith, h, last_needs b (Then second rest) (omega (arith, h)))

  rounded_needs : (again ends : Bool) (b : ℕ) (code : Statements) → Needs b code → Needs b (rounded again ends code)
  rounded_needs false ends b code h = h
  rounded_needs true false b code h = omega (arith, h)
  rounded_needs true true b code h = last_needs b code h

  round_needs : (body : c.Statement) (b : ℕ) (code : Exits → Statements) → ((exits : Exits) → Needs b (code exits)) → Needs b (round_of body code)
  round_needs body b code h = rounded_needs (continues body) (ends_in_block body) b (code (in_loop (continues body))) (h (in_loop (continues body)))

  looped_needs : (id b : ℕ) (bounds : Starts) (round : Statements) → Needs b round → Needs b (looped id bounds round)
  looped_needs id b bounds round h = omega (arith, h)

  -- a switch
  tests_need : (word : Expr) (noted : ℕ) (items : c.Items) (number b : ℕ) → noted < b → Needs b (label_tests word noted items number)
  tests_need word noted c.NoItem number b lt = omega arith
  tests_need word noted (c.WithDeclaration declaration rest) number b lt = tests_need word noted rest number b lt
  tests_need word noted (c.WithStatement statement rest) number b lt = tests_need word noted rest number b lt
  tests_need word noted (c.WithRestriction pragma rest) number b lt = tests_need word noted rest number b lt
  tests_need word noted (c.WithLabel (c.Case value own at) rest) number b lt =
      needs_joined b (label_tests word noted rest (suc number)) (alone (If (Binary binary.Equal word (Constant own)) (Set noted (Constant number)) nothing)) (tests_need word noted rest (suc number) b lt) (omega (arith, lt))
  tests_need word noted (c.WithLabel (c.Default at) rest) number b lt = tests_need word noted rest (suc number) b lt

  guarded_needs : (noted number b : ℕ) (before behind : Statements) → Needs b before → Needs b behind → Needs b (guarded noted number before behind)
  guarded_needs noted number b End behind h k = k
  guarded_needs noted number b (Then first rest) behind h k = omega (arith, h, k)

  switch_needs : (word : Valued) (noted default b : ℕ) (tests : Statements) (parts : Parts) → noted < b → Needs b word.code → Needs b tests → Needs b parts.before → Needs b parts.behind → Needs b (switched word noted default tests parts)
  switch_needs word noted default b tests parts lt w t before behind =
      let block = guarded_needs noted 0 b parts.before parts.behind before behind in
      let all = needs_joined b tests (in_block (guarded noted 0 parts.before parts.behind)) t (omega (arith, block)) in
      needs_joined b word.code (Then (Set noted (Constant default)) (joined tests (in_block (guarded noted 0 parts.before parts.behind)))) w (omega (arith, lt, all))

  pub record PartsNeed (b : ℕ) (parts : Parts) : Type 0 where
    pub before : Needs b parts.before
    pub behind : Needs b parts.behind

  mutual
    pub statement_needs : (s : c.Statement) (k b : ℕ) (exits : Exits) → StatementFramed plan.homes n s → n ≤ k → k + 1 + statement_most [] none s ≤ b → Needs b (planned plan s k exits)
    statement_needs (c.Block items at) k b exits may le room = items_need items k b exits may le (omega (arith, room))
    statement_needs (c.Empty at) k b exits may le room = omega arith
    statement_needs (c.Evaluate e at) k b exits may le room = effect_needs e k b may le (omega (arith, room))
    statement_needs (c.Marker number pragma) k b exits may le room = omega arith
    statement_needs (c.If test first at) k b exits may le room =
        if_needs (is_joint test) b (made plan.homes Value test k) (made plan.homes (Unless 0) test k).code (planned plan first k exits) (planned plan first k (deeper exits))
        (value_needs test k b may.0 le (omega (arith, room))) (jumps_needs test k b may.0 le (omega (arith, room))) (statement_needs first k b exits may.1 le (omega (arith, room))) (statement_needs first k b (deeper exits) may.1 le (omega (arith, room)))
    statement_needs (c.IfElse test first second at) k b exits may le room =
        else_needs (is_joint test) b (made plan.homes Value test k) (made plan.homes (Unless 0) test k).code (planned plan first k exits) (planned plan second k exits) (planned plan first k (deeper (deeper exits))) (planned plan second k (deeper exits))
        (value_needs test k b may.0 le (omega (arith, room))) (jumps_needs test k b may.0 le (omega (arith, room))) (statement_needs first k b exits may.1 le (omega (arith, room))) (statement_needs second k b exits may.2 le (omega (arith, room)))
        (statement_needs first k b (deeper (deeper exits)) may.1 le (omega (arith, room))) (statement_needs second k b (deeper exits) may.2 le (omega (arith, room)))
    statement_needs (c.While number bound test body at) k b exits may le room =
        let round = round_of body (planned plan body k) in
        let one = once (is_always test) number (expr_most none test + statement_most [] none body) in
        looped_needs (number - 1) b (starts (c.While number bound test body at) (bounds_at plan.bounds number)) (joined (tested plan (Some test) k) round)
        (needs_joined b (tested plan (Some test) k) round (tested_needs (Some test) k b may.0 le (omega (arith, room, one))) (round_needs body b (planned plan body k) (λ inner. statement_needs body k b inner may.1 le (omega (arith, room, one)))))
    statement_needs (c.Do number bound body test at) k b exits may le room =
        let round = round_of body (planned plan body k) in
        let jumps = (made plan.homes (Unless 0) test k).code in
        let one = once true number (expr_most none test + statement_most [] none body) in
        looped_needs (number - 1) b (starts (c.Do number bound body test at) (bounds_at plan.bounds number)) (joined round jumps)
        (needs_joined b round jumps (round_needs body b (planned plan body k) (λ inner. statement_needs body k b inner may.0 le (omega (arith, room, one)))) (jumps_needs test k b may.1 le (omega (arith, room, one))))
    statement_needs (c.For number bound start test step body at) k b exits may le room =
        let round = round_of body (planned plan body k) in
        let turn = joined (tested plan test k) (joined round (stepped plan step k)) in
        let bounds = starts (c.For number bound start test step body at) (bounds_at plan.bounds number) in
        let one = once (is_always_or_absent test) number (option_most none test + (option_most none step + statement_most [] none body)) in
        needs_joined b (started plan start k) (looped (number - 1 + loops_before start) bounds turn) (start_needs start k b may.0 le (omega (arith, room)))
        (looped_needs (number - 1 + loops_before start) b bounds turn
        (needs_joined b (tested plan test k) (joined round (stepped plan step k)) (tested_needs test k b may.1 le (omega (arith, room, one)))
        (needs_joined b round (stepped plan step k) (round_needs body b (planned plan body k) (λ inner. statement_needs body k b inner may.3 le (omega (arith, room, one)))) (stepped_needs step k b may.2 le (omega (arith, room, one))))))
    statement_needs (c.Switch test items at) k b exits may le room =
        let p = made plan.homes Value test k in
        let word = firm k p End in
        let some = some_most none test in
        let parts = parts_need items (k + 1) 1 (k + 2) b (in_switch exits) may.1 (omega (arith, le)) (omega (arith, room, some)) in
        switch_needs word (k + 1) (default_number items 1) b (label_tests word.value (k + 1) items 1) (parts_planned plan items (k + 1) 1 (k + 2) (in_switch exits)) (omega (arith, room, some))
        (firm_needs k b p End (omega (arith, room)) (value_needs test k b may.0 le (omega (arith, room))) (omega arith)) (tests_need word.value (k + 1) items 1 b (omega (arith, room, some))) parts.before parts.behind
    statement_needs (c.Break at) k b exits may le room = omega arith
    statement_needs (c.Continue at) k b exits may le room = omega arith
    statement_needs (c.Return value at) k b exits may le room = returned_needs value k b may le (omega (arith, room))

    pub items_need : (items : c.Items) (k b : ℕ) (exits : Exits) → ItemsFramed plan.homes n items → n ≤ k → k + 1 + items_most [] none items ≤ b → Needs b (all_planned plan items k exits)
    items_need c.NoItem k b exits may le room = omega arith
    items_need (c.WithDeclaration declaration rest) k b exits may le room =
        needs_joined b (declared plan declaration 0 k) (all_planned plan rest k exits) (declaration_needs declaration 0 k b may.0 le (omega (arith, room))) (items_need rest k b exits may.1 le (omega (arith, room)))
    items_need (c.WithStatement statement rest) k b exits may le room =
        needs_joined b (planned plan statement k exits) (all_planned plan rest k exits) (statement_needs statement k b exits may.0 le (omega (arith, room))) (items_need rest k b exits may.1 le (omega (arith, room)))
    items_need (c.WithRestriction pragma rest) k b exits may le room = items_need rest k b exits may le (omega (arith, room))
    items_need (c.WithLabel label rest) k b exits may le room = items_need rest k b exits may le (omega (arith, room))

    parts_need : (items : c.Items) (noted number k b : ℕ) (exits : Exits) → ItemsFramed plan.homes n items → n ≤ k → k + 1 + items_most [] none items ≤ b → PartsNeed b (parts_planned plan items noted number k exits)
    parts_need c.NoItem noted number k b exits may le room = record { before = omega arith; behind = omega arith }
    parts_need (c.WithDeclaration declaration rest) noted number k b exits may le room =
        let inner = parts_need rest noted number k b exits may.1 le (omega (arith, room)) in
        record { before = needs_joined b (declared plan declaration 0 k) (parts_planned plan rest noted number k exits).before (declaration_needs declaration 0 k b may.0 le (omega (arith, room))) inner.before; behind = inner.behind }
    parts_need (c.WithStatement statement rest) noted number k b exits may le room =
        let inner = parts_need rest noted number k b exits may.1 le (omega (arith, room)) in
        record { before = needs_joined b (planned plan statement k exits) (parts_planned plan rest noted number k exits).before (statement_needs statement k b exits may.0 le (omega (arith, room))) inner.before; behind = inner.behind }
    parts_need (c.WithRestriction pragma rest) noted number k b exits may le room = parts_need rest noted number k b exits may le (omega (arith, room))
    parts_need (c.WithLabel label rest) noted number k b exits may le room =
        let inner = parts_need rest noted (suc number) k b exits may le (omega (arith, room)) in
        record { before = omega arith; behind = guarded_needs noted number b (parts_planned plan rest noted (suc number) k exits).before (parts_planned plan rest noted (suc number) k exits).behind inner.before inner.behind }

  -- of a function's body, behind the variables of its own
  pub body_needs : (items : c.Items) → ItemsFramed plan.homes n items → frame_needed (body_planned plan items n) ≤ n + 1 + items_most [] none items
  body_needs items may = omega (arith, items_need items n (n + 1 + items_most [] none items) (record { out = 0; next = 0 }) may (omega arith) (omega arith))
