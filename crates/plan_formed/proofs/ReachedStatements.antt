-- How often the code of a statement reaches a mark.
use Rattle.std.proofs.Common.{◌≡◌, ℕ, suc, ◌+◌, ◌-◌, ◌*◌, ◌≤◌, Bool, true, false, List, [], ◌∷◌, Option, Some, None, refl, ◌∙◌, arith}
use Rattle.std.specs.Prelude.{◌==◌, if◌then◌else◌}
use Rattle.std.proofs.Math.Nat.{mul-le-mul_left}
use Rattle.facts_definitions.specs.Most.{bounds_at, declaration_most, expr_most, exprs_most, initial_most, items_most, objects_most, option_most, start_most, statement_most}
use Rattle.facts_definitions.specs.Sites.{count_exprs}
use Rattle.facts_definitions.specs.Starts.{is_always, starts}
use Rattle.facts_definitions.specs.declared.facts.Starts.{Starts}
use Rattle.types_tree.specs.Tree as c
use Rattle.high_ir.specs.declared.expression.BinaryOperator.TheVariants as binary
use Rattle.high_ir.specs.Tree.{Expr, Constant, Binary, Set, Seq, If, Leave, Mark, Return, Statements, End, Then}
use Rattle.high_ir.specs.Weight.{most_starts, reach_of}
use Rattle.high_code.specs.Code.{joined, alone, nothing}
use Rattle.plan_definition.specs.declared.home.Home.{Home}
use Rattle.plan_definition.specs.declared.home.Home.TheVariants.{Frame, Memory}
use Rattle.plan_definition.specs.declared.purpose.Purpose.TheVariants.{Value, Effect, Unless}
use Rattle.plan_definition.specs.Homes.{home_of}
use Rattle.plan_definition.specs.Statements.{Exits, Parts, Plan, all_declared, all_planned, body_planned, chosen_else, chosen_if, continues, declared, deeper, default_number, ends_in_block, filled, filling, guarded, in_loop, in_switch, initialised, label_tests, last_in_block, leaving_unless, listed, loops_before, looped, parts_planned, planned, returned, round_of, rounded, started, stepped, stored_at, switched, tested}
use Rattle.plan_definition.specs.Values.{Valued, firm, in_block, is_joint, made}
use Rattle.plan_formed.proofs.ReachedExpressions.{firm_reached, made_reached, reached, reached-joined, then_none}

module _ (callee calls : ℕ → ℕ) (mark : ℕ) (fit : (f : ℕ) → callee f ≤ calls f) (plan : Plan) where
  abbrev reach_in : Statements → ℕ
  reach_in code = reached callee mark code

  -- declarations
  stored_reach : (home : Home) (index value : Expr) → reach_of callee mark (stored_at home index value) ≡ 0
  stored_reach (Frame x) index value = refl
  stored_reach (Memory array) index value = refl

  listed_reach : (home : Home) (es : c.Exprs) (index k : ℕ) → reach_in (listed plan home es index k) ≤ exprs_most calls es
  listed_reach home c.NoExpr index k = omega arith
  listed_reach home (c.WithExpr e rest) index k =
      let p = made plan.homes Value e k in
      omega (arith, reached-joined callee mark p.code (Then (stored_at home (Constant index) p.value) (listed plan home rest (index + 1) k)), stored_reach home (Constant index) p.value, made_reached callee mark calls fit plan.homes Value e k, listed_reach home rest (index + 1) k)

  filled_reach : (home : Home) (id from count k : ℕ) → reach_in (filled home id from count k) ≡ 0
  filled_reach (Frame x) id from count k = none (most_starts count)
    where
      none : (n : ℕ) → 0 + (n * (0 + (0 + (0 + 0 + 0))) + 0) ≡ 0
      none n = omega arith
  filled_reach (Memory array) id from count k = none (most_starts count)
    where
      none : (n : ℕ) → 0 + (n * (0 + (0 + (0 + 0 + 0))) + 0) ≡ 0
      none n = omega arith

  filling_reach : (home : Home) (shift : ℕ) (number : Option ℕ) (from k : ℕ) → reach_in (filling plan home shift number from k) ≡ 0
  filling_reach home shift None from k = refl
  filling_reach home shift (Some number) from k = filled_reach home (number - 1 - shift) from (bounds_at plan.bounds number).max k

  initial_reach : (home : Home) (initial : c.Initial) (shift k : ℕ) → reach_in (initialised plan home initial shift k) ≤ initial_most plan.bounds calls initial
  initial_reach home c.Absent shift k = omega arith
  initial_reach home (c.Value e) shift k =
      let p = made plan.homes Value e k in
      omega (arith, reached-joined callee mark p.code (alone (stored_at home (Constant 0) p.value)), stored_reach home (Constant 0) p.value, made_reached callee mark calls fit plan.homes Value e k)
  initial_reach home (c.Listed es comma number) shift k =
      omega (arith, then_none callee mark (listed plan home es 0 k) (filling plan home shift number (count_exprs es) k) (filling_reach home shift number (count_exprs es) k), listed_reach home es 0 k)

  objects_reach : (objects : List c.Object) (shift k : ℕ) → reach_in (all_declared plan objects shift k) ≤ objects_most plan.bounds calls objects
  objects_reach [] shift k = omega arith
  objects_reach (c.Declared object shape initial at ∷ rest) shift k =
      let home = home_of plan.homes object in
      omega (arith, reached-joined callee mark (initialised plan home initial shift k) (all_declared plan rest shift k), initial_reach home initial shift k, objects_reach rest shift k)

  declaration_reach : (declaration : c.Declaration) (shift k : ℕ) → reach_in (declared plan declaration shift k) ≤ declaration_most plan.bounds calls declaration
  declaration_reach (c.Objects specifiers objects at) shift k = omega (arith, objects_reach objects shift k)
  declaration_reach (c.Prototype specifiers name params at) shift k = omega arith

  start_reach : (start : c.ForStart) (k : ℕ) → reach_in (started plan start k) ≤ start_most plan.bounds calls start
  start_reach c.NoStart k = omega arith
  start_reach (c.StartValue e) k = made_reached callee mark calls fit plan.homes Effect e k
  start_reach (c.StartDeclaration declaration) k = declaration_reach declaration 1 k

  leaving_reach : (always : Bool) (jumps : Statements) → reach_in (leaving_unless always jumps) ≤ reach_in jumps
  leaving_reach true jumps = omega arith
  leaving_reach false jumps = omega arith

  tested_reach : (test : Option c.Expr) (k : ℕ) → reach_in (tested plan test k) ≤ option_most calls test
  tested_reach None k = omega arith
  tested_reach (Some e) k = omega (arith, leaving_reach (is_always e) (made plan.homes (Unless 0) e k).code, made_reached callee mark calls fit plan.homes (Unless 0) e k)

  stepped_reach : (step : Option c.Expr) (k : ℕ) → reach_in (stepped plan step k) ≤ option_most calls step
  stepped_reach None k = omega arith
  stepped_reach (Some e) k = made_reached callee mark calls fit plan.homes Effect e k

  returned_reach : (value : Option c.Expr) (k : ℕ) → reach_in (returned plan value k) ≤ 1 + option_most calls value
  returned_reach None k = omega arith
  returned_reach (Some e) k =
      let p = made plan.homes Value e k in
      omega (arith, then_none callee mark p.code (alone (Return p.value)) refl, made_reached callee mark calls fit plan.homes Value e k)

  -- branches
  if_reach : (joint : Bool) (test : Valued) (jumps first within : Statements) (t f : ℕ) → reach_in test.code ≤ t → reach_in jumps ≤ t → reach_in first ≤ f → reach_in within ≤ f → reach_in (chosen_if joint test jumps first within) ≤ t + f
  if_reach false test jumps first within t f v j x y = omega (arith, v, x, reached-joined callee mark test.code (alone (If test.value (Seq first) (Seq End))))
  if_reach true test jumps first within t f v j x y = omega (arith, j, y, reached-joined callee mark jumps within)

  else_reach : (joint : Bool) (test : Valued) (jumps first other first_within other_within : Statements) (t f s : ℕ) → reach_in test.code ≤ t → reach_in jumps ≤ t → reach_in first ≤ f → reach_in other ≤ s → reach_in first_within ≤ f → reach_in other_within ≤ s →
      reach_in (chosen_else joint test jumps first other first_within other_within) ≤ t + (f + s)
  else_reach false test jumps first other fw ow t f s v j x y x1 y1 = omega (arith, v, x, y, reached-joined callee mark test.code (alone (If test.value (Seq first) (Seq other))))
  else_reach true test jumps first other fw ow t f s v j x y x1 y1 = omega (arith, j, x1, y1, reached-joined callee mark jumps (joined fw (alone (Leave 1))), then_none callee mark fw (alone (Leave 1)) refl)

  -- loops
  last_reach : (code : Statements) → reach_in (last_in_block code) ≤ reach_in code
  last_reach End = omega arith
  last_reach (Then first End) = omega arith
  last_reach (Then first (Then second rest)) = omega (arith, last_reach (Then second rest))

  rounded_reach : (again ends : Bool) (code : Statements) → reach_in (rounded again ends code) ≤ reach_in code
  rounded_reach false ends code = omega arith
  rounded_reach true false code = omega arith
  rounded_reach true true code = last_reach code

  round_reach : (body : c.Statement) (code : Exits → Statements) (n : ℕ) → ((exits : Exits) → reach_in (code exits) ≤ n) → reach_in (round_of body code) ≤ n
  round_reach body code n h = omega (arith, h (in_loop (continues body)), rounded_reach (continues body) (ends_in_block body) (code (in_loop (continues body))))

  looped_reach : (id : ℕ) (bounds : Starts) (round : Statements) (m : ℕ) → reach_in round ≤ m → reach_in (looped id bounds round) ≤ 1 + most_starts bounds.most * m
  looped_reach id bounds round m h =
      let all : most_starts bounds.most * reach_in round ≤ most_starts bounds.most * m = mul-le-mul_left (most_starts bounds.most) h in
      omega (arith, all)

  -- a switch
  tests_reach : (word : Expr) (noted : ℕ) (items : c.Items) (number : ℕ) → reach_in (label_tests word noted items number) ≡ 0
  tests_reach word noted c.NoItem number = refl
  tests_reach word noted (c.WithDeclaration declaration rest) number = tests_reach word noted rest number
  tests_reach word noted (c.WithStatement statement rest) number = tests_reach word noted rest number
  tests_reach word noted (c.WithRestriction pragma rest) number = tests_reach word noted rest number
  tests_reach word noted (c.WithLabel (c.Case value own at) rest) number =
      then_none callee mark (label_tests word noted rest (suc number)) (alone (If (Binary binary.Equal word (Constant own)) (Set noted (Constant number)) nothing)) refl ∙ tests_reach word noted rest (suc number)
  tests_reach word noted (c.WithLabel (c.Default at) rest) number = tests_reach word noted rest (suc number)

  guarded_reach : (noted number : ℕ) (before behind : Statements) → reach_in (guarded noted number before behind) ≤ reach_in before + reach_in behind
  guarded_reach noted number End behind = omega arith
  guarded_reach noted number (Then first rest) behind = omega arith

  switch_reach : (word : Valued) (noted default : ℕ) (tests : Statements) (parts : Parts) (t m : ℕ) → reach_in word.code ≤ t → reach_in tests ≡ 0 → reach_in parts.before + reach_in parts.behind ≤ m → reach_in (switched word noted default tests parts) ≤ t + m
  switch_reach word noted default tests parts t m w none h =
      let block = in_block (guarded noted 0 parts.before parts.behind) in
      omega (arith, w, none, h, guarded_reach noted 0 parts.before parts.behind, reached-joined callee mark word.code (Then (Set noted (Constant default)) (joined tests block)), reached-joined callee mark tests block)

  marked : (m : ℕ) → reach_in (alone (Mark m)) ≤ 1
  marked m = of (m == mark)
    where
      of : (b : Bool) → (if b then 1 else 0) + 0 ≤ 1
      of true = omega arith
      of false = omega arith

  mutual
    pub statement_reach : (s : c.Statement) (k : ℕ) (exits : Exits) → reach_in (planned plan s k exits) ≤ statement_most plan.bounds calls s
    statement_reach (c.Block items at) k exits = omega (arith, items_reach items k exits)
    statement_reach (c.Empty at) k exits = omega arith
    statement_reach (c.Evaluate e at) k exits = omega (arith, made_reached callee mark calls fit plan.homes Effect e k)
    statement_reach (c.Marker number pragma) k exits = marked (plan.functions + number)
    statement_reach (c.If test first at) k exits =
        omega (
          arith,
          if_reach (is_joint test) (made plan.homes Value test k) (made plan.homes (Unless 0) test k).code (planned plan first k exits) (planned plan first k (deeper exits)) (expr_most calls test) (statement_most plan.bounds calls first)
              (made_reached callee mark calls fit plan.homes Value test k) (made_reached callee mark calls fit plan.homes (Unless 0) test k) (statement_reach first k exits) (statement_reach first k (deeper exits)),
        )
    statement_reach (c.IfElse test first second at) k exits =
        omega (
          arith,
          else_reach (is_joint test) (made plan.homes Value test k) (made plan.homes (Unless 0) test k).code (planned plan first k exits) (planned plan second k exits) (planned plan first k (deeper (deeper exits))) (planned plan second k (deeper exits))
              (expr_most calls test) (statement_most plan.bounds calls first) (statement_most plan.bounds calls second)
              (made_reached callee mark calls fit plan.homes Value test k) (made_reached callee mark calls fit plan.homes (Unless 0) test k) (statement_reach first k exits) (statement_reach second k exits) (statement_reach first k (deeper (deeper exits))) (statement_reach second k (deeper exits)),
        )
    statement_reach (c.While number bound test body at) k exits =
        let round = round_of body (planned plan body k) in
        looped_reach (number - 1) (starts (c.While number bound test body at) (bounds_at plan.bounds number)) (joined (tested plan (Some test) k) round) (expr_most calls test + statement_most plan.bounds calls body)
        (omega (arith, reached-joined callee mark (tested plan (Some test) k) round, tested_reach (Some test) k, round_reach body (planned plan body k) (statement_most plan.bounds calls body) (λ inner. statement_reach body k inner)))
    statement_reach (c.Do number bound body test at) k exits =
        let round = round_of body (planned plan body k) in
        let jumps = (made plan.homes (Unless 0) test k).code in
        looped_reach (number - 1) (starts (c.Do number bound body test at) (bounds_at plan.bounds number)) (joined round jumps) (expr_most calls test + statement_most plan.bounds calls body)
        (omega (arith, reached-joined callee mark round jumps, made_reached callee mark calls fit plan.homes (Unless 0) test k, round_reach body (planned plan body k) (statement_most plan.bounds calls body) (λ inner. statement_reach body k inner)))
    statement_reach (c.For number bound start test step body at) k exits =
        let round = round_of body (planned plan body k) in
        let turn = joined (tested plan test k) (joined round (stepped plan step k)) in
        let bounds = starts (c.For number bound start test step body at) (bounds_at plan.bounds number) in
        let loop = looped (number - 1 + loops_before start) bounds turn in
        let all = looped_reach (number - 1 + loops_before start) bounds turn (option_most calls test + (option_most calls step + statement_most plan.bounds calls body))
        (omega (arith, reached-joined callee mark (tested plan test k) (joined round (stepped plan step k)), reached-joined callee mark round (stepped plan step k), tested_reach test k, stepped_reach step k, round_reach body (planned plan body k) (statement_most plan.bounds calls body) (λ inner. statement_reach body k inner))) in
        omega (arith, all, start_reach start k, reached-joined callee mark (started plan start k) loop)
    statement_reach (c.Switch test items at) k exits =
        let p = made plan.homes Value test k in
        let word = firm k p End in
        omega (
          arith,
          switch_reach word (k + 1) (default_number items 1) (label_tests word.value (k + 1) items 1) (parts_planned plan items (k + 1) 1 (k + 2) (in_switch exits)) (expr_most calls test) (items_most plan.bounds calls items)
              (omega (arith, firm_reached callee mark k p End, made_reached callee mark calls fit plan.homes Value test k)) (tests_reach word.value (k + 1) items 1) (parts_reach items (k + 1) 1 (k + 2) (in_switch exits)),
        )
    statement_reach (c.Break at) k exits = omega arith
    statement_reach (c.Continue at) k exits = omega arith
    statement_reach (c.Return value at) k exits = returned_reach value k

    items_reach : (items : c.Items) (k : ℕ) (exits : Exits) → reach_in (all_planned plan items k exits) ≤ items_most plan.bounds calls items
    items_reach c.NoItem k exits = omega arith
    items_reach (c.WithDeclaration declaration rest) k exits = omega (arith, reached-joined callee mark (declared plan declaration 0 k) (all_planned plan rest k exits), declaration_reach declaration 0 k, items_reach rest k exits)
    items_reach (c.WithStatement statement rest) k exits = omega (arith, reached-joined callee mark (planned plan statement k exits) (all_planned plan rest k exits), statement_reach statement k exits, items_reach rest k exits)
    items_reach (c.WithRestriction pragma rest) k exits = omega (arith, items_reach rest k exits)
    items_reach (c.WithLabel label rest) k exits = omega (arith, items_reach rest k exits)

    parts_reach : (items : c.Items) (noted number k : ℕ) (exits : Exits) → reach_in (parts_planned plan items noted number k exits).before + reach_in (parts_planned plan items noted number k exits).behind ≤ items_most plan.bounds calls items
    parts_reach c.NoItem noted number k exits = omega arith
    parts_reach (c.WithDeclaration declaration rest) noted number k exits = omega (arith, reached-joined callee mark (declared plan declaration 0 k) (parts_planned plan rest noted number k exits).before, declaration_reach declaration 0 k, parts_reach rest noted number k exits)
    parts_reach (c.WithStatement statement rest) noted number k exits = omega (arith, reached-joined callee mark (planned plan statement k exits) (parts_planned plan rest noted number k exits).before, statement_reach statement k exits, parts_reach rest noted number k exits)
    parts_reach (c.WithRestriction pragma rest) noted number k exits = omega (arith, parts_reach rest noted number k exits)
    parts_reach (c.WithLabel label rest) noted number k exits =
        let parts = parts_planned plan rest noted (suc number) k exits in
        omega (arith, guarded_reach noted number parts.before parts.behind, parts_reach rest noted (suc number) k exits)

  pub body_reach : (items : c.Items) (variables : ℕ) → reach_of callee mark (body_planned plan items variables) ≤ items_most plan.bounds calls items
  body_reach items variables = omega (arith, items_reach items variables (record { out = 0; next = 0 }))
