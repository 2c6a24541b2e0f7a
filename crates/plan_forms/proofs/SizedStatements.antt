-- What the code of statements costs.
use Rattle.std.proofs.Common.{ℕ, suc, ◌+◌, ◌-◌, ◌*◌, ◌≤◌, Bool, true, false, not, List, [], ◌∷◌, Option, Some, None, arith}
use Rattle.std.specs.Prelude.{◌||◌}
use Rattle.std.proofs.Math.Nat.{mul-le-mul, mul-le-mul_left}
use Rattle.facts_definitions.specs.Most.{bounds_at, declaration_most, expr_most, exprs_most, initial_most, items_most, objects_most, option_most, place_most, shape_most, start_most, statement_most, times}
use Rattle.facts_definitions.specs.Sites.{count_exprs}
use Rattle.facts_definitions.specs.Starts.{is_always, is_always_or_absent, starts}
use Rattle.facts_definitions.specs.declared.facts.Bounds.{Bounds}
use Rattle.facts_definitions.specs.declared.facts.Starts.{Starts}
use Rattle.types_tree.specs.Tree as c
use Rattle.high_ir.specs.declared.expression.BinaryOperator.TheVariants as binary
use Rattle.high_ir.specs.Tree.{Expr, Constant, Binary, Set, Seq, If, Leave, Return, Statements, End, Then}
use Rattle.high_code.specs.Code.{joined, alone, nothing}
use Rattle.plan_definition.specs.declared.home.Home.{Home}
use Rattle.plan_definition.specs.declared.home.Home.TheVariants.{Frame, Memory}
use Rattle.plan_definition.specs.declared.purpose.Purpose.TheVariants.{Value, Effect, Unless}
use Rattle.plan_definition.specs.Homes.{home_of}
use Rattle.plan_definition.specs.Statements.{Exits, Parts, Plan, all_declared, all_planned, and_before, body_planned, chosen_else, chosen_if, continues, declared, deeper, default_number, ends_in_block, filled, guarded, in_loop, in_switch, initialised, label_tests, last_in_block, leaving_unless, listed, loops_before, looped, parts_planned, planned, returned, round_of, rounded, started, stepped, stored_at, switched, tested}
use Rattle.plan_definition.specs.Values.{Valued, chosen, chosen_by_jumps, firm, in_block, is_changed, is_joint, is_leaf, is_variable, made}
use Rattle.plan_forms.specs.Conversions.{AllSingle, DeclarationSingle, FillingSized, InitialSingle, ItemsSingle, ObjectsSingle, OptionSingle, Single, StartSingle, StatementSingle}
use Rattle.plan_forms.specs.Costs.{Rates, cost, cost_all, expr_cost}
use Rattle.plan_forms.specs.Covers.{Covers}
use Rattle.plan_forms.proofs.SizedPieces.{cost-joined, firm_value, held_cost}
use Rattle.plan_forms.proofs.SizedExpressions.{effect_fits, unless_fits, value_fits}

-- an expression is a node at least
mutual
  pub some_place : (calls : ℕ → ℕ) (place : c.Place) → 1 ≤ place_most calls place
  some_place calls (c.Scalar object at) = omega arith
  some_place calls (c.Element array index at) = omega arith
  some_place calls (c.Within inner at) = omega arith

  pub some_most : (calls : ℕ → ℕ) (e : c.Expr) → 1 ≤ expr_most calls e
  some_most calls (c.Number constant at) = omega arith
  some_most calls (c.Character word at) = omega arith
  some_most calls (c.Read place) = some_place calls place
  some_most calls (c.Array object at) = omega arith
  some_most calls (c.Paren inner at) = omega arith
  some_most calls (c.Call callee arguments at) = omega arith
  some_most calls (c.Step fix operator kind target at) = omega arith
  some_most calls (c.Signed operator kind operand at) = omega arith
  some_most calls (c.Cast specifiers to operand at) = omega arith
  some_most calls (c.Convert to operand) = some_most calls operand
  some_most calls (c.Operate operator kind left right at) = omega arith
  some_most calls (c.And left right at) = omega arith
  some_most calls (c.Or left right at) = omega arith
  some_most calls (c.Comma left right at) = omega arith
  some_most calls (c.Conditional test first second at) = omega arith
  some_most calls (c.Assign target value at) = omega arith
  some_most calls (c.Update operator kind to target value at) = omega arith

-- a filling is allowed two nodes more: its object and the size of that
abbrev extra : (node : ℕ) → c.Initial → ℕ
extra node c.Absent = 0
extra node (c.Value e) = 0
extra node (c.Listed values comma None) = 0
extra node (c.Listed values comma (Some number)) = 2 * node

module _ (rates : Rates) (callee calls : ℕ → ℕ) (plan : Plan) (bounds : List Bounds) (node spare : ℕ) (covers : Covers rates callee calls plan.bounds bounds node spare) where
  abbrev cost_of : Statements → ℕ
  cost_of code = cost_all rates callee code

  value_cost : (e : c.Expr) (k : ℕ) → Single e → cost_of (made plan.homes Value e k).code + expr_cost rates.leaf (made plan.homes Value e k).value + rates.leaf + 3 ≤ node * expr_most calls e
  value_cost e k may = value_fits rates callee calls plan.bounds bounds node spare covers plan.homes e k may

  effect_cost : (e : c.Expr) (k : ℕ) → Single e → cost_of (made plan.homes Effect e k).code + rates.leaf + 3 ≤ node * expr_most calls e
  effect_cost e k may = effect_fits rates callee calls plan.bounds bounds node spare covers plan.homes e k may

  jumps_cost : (e : c.Expr) (k : ℕ) → Single e → cost_of (made plan.homes (Unless 0) e k).code + rates.leaf ≤ node * expr_most calls e
  jumps_cost e k may = unless_fits rates callee calls plan.bounds bounds node spare covers plan.homes 0 e k may

  -- declarations
  stored_cost : (home : Home) (index value : Expr) → cost rates callee (stored_at home index value) ≤ 1 + expr_cost rates.leaf index + expr_cost rates.leaf value
  stored_cost (Frame x) index value = omega arith
  stored_cost (Memory array) index value = omega arith

  listed_cost : (home : Home) (es : c.Exprs) (index k : ℕ) → AllSingle es → cost_of (listed plan home es index k) ≤ node * exprs_most calls es
  listed_cost home c.NoExpr index k may = omega arith
  listed_cost home (c.WithExpr e rest) index k may =
      let p = made plan.homes Value e k in
      let others = listed plan home rest (index + 1) k in
      omega (arith, value_cost e k may.0, listed_cost home rest (index + 1) k may.1, stored_cost home (Constant index) p.value, cost-joined rates callee p.code (Then (stored_at home (Constant index) p.value) others))

  filled_cost : (home : Home) (id from count k : ℕ) → cost_of (filled home id from count k) ≤ 2 + rates.leaf + rates.loop + rates.turns count * (rates.turn + 8 + 6 * rates.leaf)
  filled_cost (Frame x) id from count k =
      let fewer : rates.turns count * (rates.turn + 8 + 5 * rates.leaf) ≤ rates.turns count * (rates.turn + 8 + 6 * rates.leaf) = mul-le-mul_left (rates.turns count) (omega arith) in
      omega (arith, fewer)
  filled_cost (Memory array) id from count k = omega arith

  initial_cost : (home : Home) (initial : c.Initial) (shift k : ℕ) → InitialSingle initial → cost_of (initialised plan home initial shift k) ≤ node * initial_most bounds calls initial + extra node initial
  initial_cost home c.Absent shift k may = omega arith
  initial_cost home (c.Value e) shift k may =
      let p = made plan.homes Value e k in
      omega (arith, value_cost e k may, stored_cost home (Constant 0) p.value, cost-joined rates callee p.code (alone (stored_at home (Constant 0) p.value)))
  initial_cost home (c.Listed es comma None) shift k may = omega (arith, listed_cost home es 0 k may, cost-joined rates callee (listed plan home es 0 k) End)
  initial_cost home (c.Listed es comma (Some number)) shift k may =
      let fill = filled home (number - 1 - shift) (count_exprs es) (bounds_at plan.bounds number).max k in
      omega (arith, listed_cost home es 0 k may, cost-joined rates callee (listed plan home es 0 k) fill, filled_cost home (number - 1 - shift) (count_exprs es) (bounds_at plan.bounds number).max k, covers.fillings number)

  room_of : (shape : c.Shape) (initial : c.Initial) → FillingSized shape initial → extra node initial ≤ node + node * shape_most calls shape
  room_of shape c.Absent may = omega arith
  room_of shape (c.Value e) may = omega arith
  room_of shape (c.Listed values comma None) may = omega arith
  room_of c.Single (c.Listed values comma (Some number)) may = absurd may
  room_of c.Unsized (c.Listed values comma (Some number)) may = absurd may
  room_of (c.Sized size) (c.Listed values comma (Some number)) may = of (expr_most calls size) (some_most calls size)
    where
      of : (m : ℕ) → 1 ≤ m → 2 * node ≤ node + node * m
      of m some =
          let more : node * 1 ≤ node * m = mul-le-mul_left node some in
          omega (arith, more)

  objects_cost : (objects : List c.Object) (shift k : ℕ) → ObjectsSingle objects → cost_of (all_declared plan objects shift k) ≤ node * objects_most bounds calls objects
  objects_cost [] shift k may = omega arith
  objects_cost (c.Declared object shape initial at ∷ rest) shift k may =
      let home = home_of plan.homes object in
      omega (arith, initial_cost home initial shift k may.0, objects_cost rest shift k may.1, room_of shape initial may.2, cost-joined rates callee (initialised plan home initial shift k) (all_declared plan rest shift k))

  declaration_cost : (declaration : c.Declaration) (shift k : ℕ) → DeclarationSingle declaration → cost_of (declared plan declaration shift k) + node ≤ node * declaration_most bounds calls declaration
  declaration_cost (c.Objects specifiers objects at) shift k may = omega (arith, objects_cost objects shift k may)
  declaration_cost (c.Prototype specifiers name params at) shift k may = omega arith

  start_cost : (start : c.ForStart) (k : ℕ) → StartSingle start → cost_of (started plan start k) ≤ node * start_most bounds calls start
  start_cost c.NoStart k may = omega arith
  start_cost (c.StartValue e) k may = omega (arith, effect_cost e k may)
  start_cost (c.StartDeclaration declaration) k may = omega (arith, declaration_cost declaration 1 k may)

  leaving_cost : (always : Bool) (jumps : Statements) → cost_of (leaving_unless always jumps) ≤ cost_of jumps
  leaving_cost true jumps = omega arith
  leaving_cost false jumps = omega arith

  tested_cost : (test : Option c.Expr) (k : ℕ) → OptionSingle test → cost_of (tested plan test k) ≤ node * option_most calls test
  tested_cost None k may = omega arith
  tested_cost (Some e) k may = omega (arith, jumps_cost e k may, leaving_cost (is_always e) (made plan.homes (Unless 0) e k).code)

  stepped_cost : (step : Option c.Expr) (k : ℕ) → OptionSingle step → cost_of (stepped plan step k) ≤ node * option_most calls step
  stepped_cost None k may = omega arith
  stepped_cost (Some e) k may = omega (arith, effect_cost e k may)

  returned_cost : (value : Option c.Expr) (k : ℕ) → OptionSingle value → cost_of (returned plan value k) + spare ≤ node * (1 + option_most calls value)
  returned_cost None k may = omega (arith, covers.exit)
  returned_cost (Some e) k may =
      let p = made plan.homes Value e k in
      omega (arith, value_cost e k may, covers.exit, cost-joined rates callee p.code (alone (Return p.value)))

  -- branches
  chosen_cost : (test : Valued) (first other : Statements) → cost_of (chosen test first other) ≤ cost_of test.code + expr_cost rates.leaf test.value + cost_of first + cost_of other + 3
  chosen_cost test first other = omega (arith, cost-joined rates callee test.code (alone (If test.value (Seq first) (Seq other))))

  by_jumps_cost : (jumps first other : Statements) → cost_of (chosen_by_jumps jumps first other) ≤ cost_of jumps + cost_of first + cost_of other + 5
  by_jumps_cost jumps first other = omega (arith, cost-joined rates callee jumps (joined first (alone (Leave 1))), cost-joined rates callee first (alone (Leave 1)))

  if_cost : (joint : Bool) (test : Valued) (jumps first within : Statements) (t f : ℕ) → cost_of test.code + expr_cost rates.leaf test.value + rates.leaf + 3 ≤ t → cost_of jumps + rates.leaf ≤ t → cost_of first + spare ≤ f → cost_of within + spare ≤ f → cost_of (chosen_if joint test jumps first within) + spare ≤ node + (t + f)
  if_cost false test jumps first within t f v j x y = omega (arith, v, x, covers.some, chosen_cost test first End)
  if_cost true test jumps first within t f v j x y = omega (arith, j, y, covers.some, cost-joined rates callee jumps within)

  else_cost : (joint : Bool) (test : Valued) (jumps first other first_within other_within : Statements) (t f s : ℕ) → cost_of test.code + expr_cost rates.leaf test.value + rates.leaf + 3 ≤ t → cost_of jumps + rates.leaf ≤ t → cost_of first + spare ≤ f → cost_of other + spare ≤ s → cost_of first_within + spare ≤ f → cost_of other_within + spare ≤ s →
      cost_of (chosen_else joint test jumps first other first_within other_within) + spare ≤ node + (t + (f + s))
  else_cost false test jumps first other fw ow t f s v j x y x1 y1 = omega (arith, v, x, y, covers.some, chosen_cost test first other)
  else_cost true test jumps first other fw ow t f s v j x y x1 y1 = omega (arith, j, x1, y1, covers.some, by_jumps_cost jumps fw ow)

  -- loops
  last_cost : (code : Statements) → cost_of (last_in_block code) ≤ cost_of code + 1
  last_cost End = omega arith
  last_cost (Then first End) = omega arith
  last_cost (Then first (Then second rest)) = omega (arith, last_cost (Then second rest))

  rounded_cost : (again ends : Bool) (code : Statements) → cost_of (rounded again ends code) ≤ cost_of code + 2
  rounded_cost false ends code = omega arith
  rounded_cost true false code = omega arith
  rounded_cost true true code = omega (arith, last_cost code)

  round_cost : (body : c.Statement) (code : Exits → Statements) (n : ℕ) → ((exits : Exits) → cost_of (code exits) + spare ≤ n) → cost_of (round_of body code) + spare ≤ n + 2
  round_cost body code n h = omega (arith, h (in_loop (continues body)), rounded_cost (continues body) (ends_in_block body) (code (in_loop (continues body))))

  looped_cost : (id : ℕ) (starts : Starts) (round : Statements) (t m : ℕ) → rates.turns starts.most ≤ t → cost_of round + rates.turn + 1 ≤ node * m → cost_of (looped id starts round) + spare ≤ node * (1 + t * m)
  looped_cost id starts round t m le h =
      let all : rates.turns starts.most * (rates.turn + (1 + cost_of round)) ≤ t * (node * m) = mul-le-mul le (omega (arith, h)) in
      omega (arith, all, covers.loop)

  -- a switch
  abbrev spared : Statements → ℕ
  spared End = 0
  spared (Then first rest) = spare

  spared_most : (code : Statements) → spared code ≤ spare
  spared_most End = omega arith
  spared_most (Then first rest) = omega arith

  spared_joined : (a b : Statements) → spared (joined a b) ≤ spared a + spared b
  spared_joined End b = omega arith
  spared_joined (Then first rest) b = omega arith

  -- what stands before a label is guarded by a test, for which its statements leave enough
  guarded_spares : (noted number : ℕ) (before behind : Statements) → cost_of (guarded noted number before behind) ≤ cost_of before + cost_of behind + spared before
  guarded_spares noted number End behind = omega arith
  guarded_spares noted number (Then first rest) behind = omega (arith, covers.guard)

  word_cost : (test : c.Expr) (k : ℕ) → Single test → cost_of (firm k (made plan.homes Value test k) End).code + 2 ≤ node * expr_most calls test
  word_cost test k may =
      let p = made plan.homes Value test k in
      omega (arith, value_cost test k may, held_cost rates callee (not (is_leaf p.value) || (is_changed p.value End || is_variable (k + 1) p.value)) k p End)

  -- the tests of labels and their parts
  abbrev PartsFit : (word : Expr) (noted : ℕ) (items : c.Items) (number : ℕ) → Parts → Type 0
  PartsFit word noted items number parts = cost_of (label_tests word noted items number) + cost_of parts.before + cost_of parts.behind + spared parts.before ≤ node * items_most bounds calls items

  and_before_fits : (code : Statements) (parts : Parts) (tests n m : ℕ) → cost_of code + spare ≤ n → tests + cost_of parts.before + cost_of parts.behind + spared parts.before ≤ m →
      tests + cost_of (and_before code parts).before + cost_of (and_before code parts).behind + spared (and_before code parts).before ≤ n + m
  and_before_fits code parts tests n m h p = omega (arith, h, p, cost-joined rates callee code parts.before, spared_joined code parts.before, spared_most code)

  spare_most : spare + 1 ≤ node
  spare_most = omega (arith, covers.loop)

  -- a label costs a test of its word, and a guard of what stands behind it
  case_fits : (word : Expr) (noted number own : ℕ) (tests : Statements) (parts : Parts) (v m : ℕ) → expr_cost rates.leaf word ≤ rates.leaf → cost_of tests + cost_of parts.before + cost_of parts.behind + spared parts.before ≤ m →
      cost_of (joined tests (alone (If (Binary binary.Equal word (Constant own)) (Set noted (Constant number)) nothing))) + 0 + cost_of (guarded noted number parts.before parts.behind) + 0 ≤ node * (1 + v) + m
  case_fits word noted number own tests parts v m leaf h =
      omega (arith, h, leaf, covers.some, guarded_spares noted number parts.before parts.behind, cost-joined rates callee tests (alone (If (Binary binary.Equal word (Constant own)) (Set noted (Constant number)) nothing)))

  switch_fits : (word : Valued) (noted default : ℕ) (tests : Statements) (parts : Parts) (t m : ℕ) → cost_of word.code + 2 ≤ t → cost_of tests + cost_of parts.before + cost_of parts.behind + spared parts.before ≤ m → cost_of (switched word noted default tests parts) + spare ≤ node + (t + m)
  switch_fits word noted default tests parts t m w h = of parts.before h
    where
      of : (before : Statements) → cost_of tests + cost_of before + cost_of parts.behind + spared before ≤ m → cost_of (joined word.code (Then (Set noted (Constant default)) (joined tests (in_block (guarded noted 0 before parts.behind))))) + spare ≤ node + (t + m)
      of End h = omega (arith, w, h, covers.exit, cost-joined rates callee word.code (Then (Set noted (Constant default)) (joined tests (in_block parts.behind))), cost-joined rates callee tests (in_block parts.behind))
      of (Then first rest) h =
          let block = in_block (guarded noted 0 (Then first rest) parts.behind) in
          omega (arith, w, h, covers.some, cost-joined rates callee word.code (Then (Set noted (Constant default)) (joined tests block)), cost-joined rates callee tests block)

  mutual
    pub statement_fits : (s : c.Statement) (k : ℕ) (exits : Exits) → StatementSingle s → cost_of (planned plan s k exits) + spare ≤ node * statement_most bounds calls s
    statement_fits (c.Block items at) k exits may = omega (arith, items_fit items k exits may, spare_most)
    statement_fits (c.Empty at) k exits may = omega (arith, spare_most)
    statement_fits (c.Evaluate e at) k exits may = omega (arith, effect_cost e k may, spare_most)
    statement_fits (c.Marker number pragma) k exits may = omega (arith, spare_most)
    statement_fits (c.If test first at) k exits may =
        let all = if_cost (is_joint test) (made plan.homes Value test k) (made plan.homes (Unless 0) test k).code (planned plan first k exits) (planned plan first k (deeper exits)) (node * expr_most calls test) (node * statement_most bounds calls first)
        (value_cost test k may.0) (jumps_cost test k may.0) (statement_fits first k exits may.1) (statement_fits first k (deeper exits) may.1) in
        omega (arith, all)
    statement_fits (c.IfElse test first second at) k exits may =
        let all = else_cost (is_joint test) (made plan.homes Value test k) (made plan.homes (Unless 0) test k).code (planned plan first k exits) (planned plan second k exits) (planned plan first k (deeper (deeper exits))) (planned plan second k (deeper exits))
        (node * expr_most calls test) (node * statement_most bounds calls first) (node * statement_most bounds calls second)
        (value_cost test k may.0) (jumps_cost test k may.0) (statement_fits first k exits may.1) (statement_fits second k exits may.2) (statement_fits first k (deeper (deeper exits)) may.1) (statement_fits second k (deeper exits) may.2) in
        omega (arith, all)
    statement_fits (c.While number bound test body at) k exits may =
        let round = round_of body (planned plan body k) in
        let b = round_cost body (planned plan body k) (node * statement_most bounds calls body) (λ inner. statement_fits body k inner may.1) in
        looped_cost (number - 1) (starts (c.While number bound test body at) (bounds_at plan.bounds number)) (joined (tested plan (Some test) k) round) (times (is_always test) (bounds_at bounds number)) (expr_most calls test + statement_most bounds calls body)
        (covers.turns number (is_always test)) (omega (arith, b, tested_cost (Some test) k may.0, covers.turn, cost-joined rates callee (tested plan (Some test) k) round))
    statement_fits (c.Do number bound body test at) k exits may =
        let round = round_of body (planned plan body k) in
        let jumps = (made plan.homes (Unless 0) test k).code in
        let b = round_cost body (planned plan body k) (node * statement_most bounds calls body) (λ inner. statement_fits body k inner may.0) in
        looped_cost (number - 1) (starts (c.Do number bound body test at) (bounds_at plan.bounds number)) (joined round jumps) (times true (bounds_at bounds number)) (expr_most calls test + statement_most bounds calls body)
        (covers.turns number true) (omega (arith, b, jumps_cost test k may.1, covers.turn, cost-joined rates callee round jumps))
    statement_fits (c.For number bound start test step body at) k exits may =
        let round = round_of body (planned plan body k) in
        let turn = joined (tested plan test k) (joined round (stepped plan step k)) in
        let bounds_are = starts (c.For number bound start test step body at) (bounds_at plan.bounds number) in
        let loop = looped (number - 1 + loops_before start) bounds_are turn in
        let b = round_cost body (planned plan body k) (node * statement_most bounds calls body) (λ inner. statement_fits body k inner may.3) in
        let all = looped_cost (number - 1 + loops_before start) bounds_are turn (times (is_always_or_absent test) (bounds_at bounds number)) (option_most calls test + (option_most calls step + statement_most bounds calls body)) (covers.turns number (is_always_or_absent test))
        (omega (arith, b, tested_cost test k may.1, stepped_cost step k may.2, covers.turn, cost-joined rates callee (tested plan test k) (joined round (stepped plan step k)), cost-joined rates callee round (stepped plan step k))) in
        omega (arith, all, start_cost start k may.0, cost-joined rates callee (started plan start k) loop)
    statement_fits (c.Switch test items at) k exits may =
        let word = firm k (made plan.homes Value test k) End in
        let parts = parts_planned plan items (k + 1) 1 (k + 2) (in_switch exits) in
        let p = made plan.homes Value test k in
        let leaf = firm_value rates.leaf (is_changed p.value End || is_variable (k + 1) p.value) k p End in
        let all = switch_fits word (k + 1) (default_number items 1) (label_tests word.value (k + 1) items 1) parts (node * expr_most calls test) (node * items_most bounds calls items) (word_cost test k may.0) (parts_fit items word.value (k + 1) 1 (k + 2) (in_switch exits) leaf may.1) in
        omega (arith, all)
    statement_fits (c.Break at) k exits may = omega (arith, spare_most)
    statement_fits (c.Continue at) k exits may = omega (arith, spare_most)
    statement_fits (c.Return value at) k exits may = returned_cost value k may

    pub items_fit : (items : c.Items) (k : ℕ) (exits : Exits) → ItemsSingle items → cost_of (all_planned plan items k exits) ≤ node * items_most bounds calls items
    items_fit c.NoItem k exits may = omega arith
    items_fit (c.WithDeclaration declaration rest) k exits may = omega (arith, declaration_cost declaration 0 k may.0, items_fit rest k exits may.1, cost-joined rates callee (declared plan declaration 0 k) (all_planned plan rest k exits))
    items_fit (c.WithStatement statement rest) k exits may = omega (arith, statement_fits statement k exits may.0, items_fit rest k exits may.1, cost-joined rates callee (planned plan statement k exits) (all_planned plan rest k exits))
    items_fit (c.WithRestriction pragma rest) k exits may = omega (arith, items_fit rest k exits may)
    items_fit (c.WithLabel label rest) k exits may = omega (arith, items_fit rest k exits may)

    parts_fit : (items : c.Items) (word : Expr) (noted number k : ℕ) (exits : Exits) → expr_cost rates.leaf word ≤ rates.leaf → ItemsSingle items → PartsFit word noted items number (parts_planned plan items noted number k exits)
    parts_fit c.NoItem word noted number k exits leaf may = omega arith
    parts_fit (c.WithDeclaration declaration rest) word noted number k exits leaf may =
        let all = and_before_fits (declared plan declaration 0 k) (parts_planned plan rest noted number k exits) (cost_of (label_tests word noted rest number)) (node * declaration_most bounds calls declaration) (node * items_most bounds calls rest)
        (omega (arith, declaration_cost declaration 0 k may.0, spare_most)) (parts_fit rest word noted number k exits leaf may.1) in
        omega (arith, all)
    parts_fit (c.WithStatement statement rest) word noted number k exits leaf may =
        let all = and_before_fits (planned plan statement k exits) (parts_planned plan rest noted number k exits) (cost_of (label_tests word noted rest number)) (node * statement_most bounds calls statement) (node * items_most bounds calls rest)
        (statement_fits statement k exits may.0) (parts_fit rest word noted number k exits leaf may.1) in
        omega (arith, all)
    parts_fit (c.WithRestriction pragma rest) word noted number k exits leaf may = omega (arith, parts_fit rest word noted number k exits leaf may)
    parts_fit (c.WithLabel (c.Case value own at) rest) word noted number k exits leaf may =
        let all = case_fits word noted number own (label_tests word noted rest (suc number)) (parts_planned plan rest noted (suc number) k exits) (expr_most calls value) (node * items_most bounds calls rest) leaf (parts_fit rest word noted (suc number) k exits leaf may) in
        omega (arith, all)
    parts_fit (c.WithLabel (c.Default at) rest) word noted number k exits leaf may =
        let parts = parts_planned plan rest noted (suc number) k exits in
        omega (arith, covers.some, guarded_spares noted number parts.before parts.behind, parts_fit rest word noted (suc number) k exits leaf may)

  -- of a function's body
  pub body_fits : (items : c.Items) (variables : ℕ) → ItemsSingle items → cost rates callee (body_planned plan items variables) ≤ node * items_most bounds calls items + rates.exit + 4
  body_fits items variables may = omega (arith, covers.leaf, items_fit items variables (record { out = 0; next = 0 }) may)
