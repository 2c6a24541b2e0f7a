-- How deep the code of statements and functions is.
use Rattle.std.proofs.Common.{◌≡◌, ℕ, suc, ◌+◌, ◌-◌, ◌*◌, ◌≤◌, max, Bool, true, false, not, List, [], ◌∷◌, Option, Some, None, refl, sym, ◌∙◌, arith}
use Rattle.std.specs.Prelude.{◌||◌}
use Rattle.std.proofs.lemmas.Bool.{true≢false, false≢true}
use Rattle.facts_definitions.specs.Most.{bounds_at}
use Rattle.facts_definitions.specs.Sites.{count_exprs}
use Rattle.facts_definitions.specs.Starts.{is_always, starts}
use Rattle.facts_definitions.specs.declared.facts.Starts.{Starts}
use Rattle.c_tree.specs.declared.pragma.Pragma.{Pragma}
use Rattle.types_tree.specs.Tree as c
use Rattle.high_ir.specs.declared.expression.BinaryOperator.TheVariants as binary
use Rattle.high_ir.specs.Size.{depth, depth_all, expr_depth}
use Rattle.high_ir.specs.Tree.{Expr, Constant, Variable, Binary, Set, Seq, If, Leave, Return, Statements, End, Then}
use Rattle.high_code.specs.Code.{joined, alone, nothing}
use Rattle.plan_definition.specs.declared.home.Home.{Home}
use Rattle.plan_definition.specs.declared.home.Home.TheVariants.{Frame, Memory}
use Rattle.plan_definition.specs.declared.purpose.Purpose.TheVariants.{Value, Effect, Unless}
use Rattle.plan_definition.specs.Homes.{home_of}
use Rattle.plan_definition.specs.Statements.{Exits, Parts, Plan, all_declared, all_planned, body_planned, chosen_else, chosen_if, continues, declared, deeper, default_number, ends_in_block, filled, filling, guarded, in_loop, in_switch, initialised, label_tests, leaving_unless, listed, loops_before, looped, parts_planned, planned, returned, round_of, rounded, started, stepped, stored_at, tested}
use Rattle.plan_definition.specs.Values.{Valued, chosen, firm, in_block, is_changed, is_joint, is_leaf, is_variable, made}
use Rattle.plan_forms.specs.Levels.{all_levels, code_levels, declaration_levels, initial_levels, items_levels, levels, objects_levels, option_levels, start_levels, statement_levels}
use Rattle.plan_forms.proofs.DeepParts.{Below, Sized, below_joined, below_more, held_below, held_value, last_below}
use Rattle.plan_forms.proofs.DeepExpressions.{loose, made_sized, some_levels}

-- a store, a test and a loop
stored_below : (home : Home) (index value : Expr) (n : ℕ) → expr_depth index + 1 ≤ n → expr_depth value + 1 ≤ n → depth (stored_at home index value) ≤ n
stored_below (Frame x) index value n a b = b
stored_below (Memory array) index value n a b = omega (arith, a, b)

filled_below : (home : Home) (id from count k n : ℕ) → 6 ≤ n → Below n (filled home id from count k)
filled_below home id from count k n six = of (depth (stored_at home (Variable k) (Constant 0))) (stored_below home (Variable k) (Constant 0) 2 two two)
  where
    two : 1 + 1 ≤ 2
    two = omega arith

    of : (d : ℕ) → d ≤ 2 → max 2 (max (max d (max 3 (max 3 0)) + 1 + 1 + 1) 0) ≤ n
    of d le = omega (arith, six, le)

looped_below : (id n : ℕ) (bounds : Starts) (round : Statements) → Below n round → Below (n + 3) (looped id bounds round)
looped_below id n bounds round h = omega (arith, h)

leaving_below : (always : Bool) (n : ℕ) (jumps : Statements) → Below n jumps → Below n (leaving_unless always jumps)
leaving_below true n jumps h = omega arith
leaving_below false n jumps h = h

-- branches
chosen_below : (n v : ℕ) (test : Valued) (first other : Statements) → Sized 1 v test → 2 * v ≤ n → v + 2 ≤ n → 2 ≤ n → Below n first → Below n other → Below (n + 2) (chosen test first other)
chosen_below n v test first other s twice room some f o =
    below_joined (n + 2) test.code (alone (If test.value (Seq first) (Seq other))) (below_more (2 * v) (n + 2) test.code (omega (arith, twice)) s.code) (ways (expr_depth test.value) (depth_all first) (depth_all other) s.value f o)
  where
    ways : (t a b : ℕ) → t ≤ 1 + v → a ≤ n → b ≤ n → max (max t (max (a + 1) (b + 1)) + 1) 0 ≤ n + 2
    ways t a b x y z = omega (arith, room, x, y, z)

block_below : (n : ℕ) (code : Statements) → Below n code → Below (n + 2) (in_block code)
block_below n code h = omega (arith, h)

chosen_if_below : (joint : Bool) (n v : ℕ) (test : Valued) (jumps first within : Statements) → Sized 1 v test → 2 * v ≤ n → v + 2 ≤ n → 2 ≤ n → Below n jumps → Below n first → Below n within → Below (n + 2) (chosen_if joint test jumps first within)
chosen_if_below false n v test jumps first within s twice room some j f w = chosen_below n v test first End s twice room some f (omega arith)
chosen_if_below true n v test jumps first within s twice room some j f w = block_below n (joined jumps within) (below_joined n jumps within j w)

chosen_else_below : (joint : Bool) (n v : ℕ) (test : Valued) (jumps first other first_within other_within : Statements) → Sized 1 v test → 2 * v ≤ n → v + 2 ≤ n → 2 ≤ n → Below n jumps → Below n first → Below n other → Below n first_within → Below n other_within →
    Below (n + 4) (chosen_else joint test jumps first other first_within other_within) × (joint ≡ false → Below (n + 2) (chosen_else joint test jumps first other first_within other_within))
chosen_else_below false n v test jumps first other fw ow s twice room some j f o f1 o1 =
    let both = chosen_below n v test first other s twice room some f o in
    (below_more (n + 2) (n + 4) (chosen test first other) (omega arith) both, λ e. both)
chosen_else_below true n v test jumps first other fw ow s twice room some j f o f1 o1 =
    let inner : Below n (joined jumps (joined fw (alone (Leave 1)))) = below_joined n jumps (joined fw (alone (Leave 1))) j (below_joined n fw (alone (Leave 1)) f1 (omega (arith, some))) in
    (blocks (depth_all (joined jumps (joined fw (alone (Leave 1))))) (depth_all ow) inner o1, λ e. absurd (true≢false e))
  where
    blocks : (a b : ℕ) → a ≤ n → b ≤ n → max (max (a + 1 + 1) b + 1 + 1) 0 ≤ n + 4
    blocks a b x y = omega (arith, x, y)

-- a switch
label_tests_below : (w : Expr) (noted n : ℕ) (items : c.Items) (number : ℕ) → expr_depth w + 2 ≤ n → 3 ≤ n → Below n (label_tests w noted items number)
label_tests_below w noted n c.NoItem number room three = omega arith
label_tests_below w noted n (c.WithDeclaration declaration rest) number room three = label_tests_below w noted n rest number room three
label_tests_below w noted n (c.WithStatement statement rest) number room three = label_tests_below w noted n rest number room three
label_tests_below w noted n (c.WithRestriction pragma rest) number room three = label_tests_below w noted n rest number room three
label_tests_below w noted n (c.WithLabel (c.Case value own at) rest) number room three =
    below_joined n (label_tests w noted rest (suc number)) (alone (If (Binary binary.Equal w (Constant own)) (Set noted (Constant number)) nothing)) (label_tests_below w noted n rest (suc number) room three) (test (expr_depth w) room)
  where
    test : (d : ℕ) → d + 2 ≤ n → max (max (max d 1 + 1) (max 2 1) + 1) 0 ≤ n
    test d le = omega (arith, le, three)
label_tests_below w noted n (c.WithLabel (c.Default at) rest) number room three = label_tests_below w noted n rest (suc number) room three

-- a part behind a label stands two levels deeper
guarded_below : (noted number n m : ℕ) (before behind : Statements) → Below n before → n + 2 ≤ m → 3 ≤ m → Below m behind → Below m (guarded noted number before behind)
guarded_below noted number n m End behind b room three h = h
guarded_below noted number n m (Then first rest) behind b room three h = test (depth_all (Then first rest)) (depth_all behind) b h
  where
    test : (x y : ℕ) → x ≤ n → y ≤ m → max (max 2 (max (x + 1) 1) + 1) y ≤ m
    test x y a c = omega (arith, room, three, a, c)

-- the parts of a switch: before its labels, and behind them
pub record PartsBelow (n m : ℕ) (parts : Parts) : Type 0 where
  pub before : Below n parts.before
  pub behind : Below m parts.behind

module _ (plan : Plan) where
  -- declarations
  listed_below : (home : Home) (es : c.Exprs) (index k n : ℕ) → 2 * all_levels es ≤ n → 2 ≤ n → Below n (listed plan home es index k)
  listed_below home c.NoExpr index k n le two = omega arith
  listed_below home (c.WithExpr e rest) index k n le two =
      let p = made plan.homes Value e k in
      let s = loose e (levels e) p (made_sized plan.homes Value e k) in
      below_joined n p.code (Then (stored_at home (Constant index) p.value) (listed plan home rest (index + 1) k)) (below_more (2 * levels e) n p.code (omega (arith, le)) s.code)
      (both (depth (stored_at home (Constant index) p.value)) (depth_all (listed plan home rest (index + 1) k)) (stored_below home (Constant index) p.value n two (store (expr_depth p.value) s.value)) (listed_below home rest (index + 1) k n (omega (arith, le)) two))
    where
      store : (d : ℕ) → d ≤ 1 + levels e → d + 1 ≤ n
      store d a = omega (arith, a, le, some_levels e)

      both : (x y : ℕ) → x ≤ n → y ≤ n → max x y ≤ n
      both x y a b = omega (arith, a, b)

  filling_below : (home : Home) (shift : ℕ) (number : Option ℕ) (from k n : ℕ) → 6 ≤ n → Below n (filling plan home shift number from k)
  filling_below home shift None from k n six = omega arith
  filling_below home shift (Some number) from k n six = filled_below home (number - 1 - shift) from (bounds_at plan.bounds number).max k n six

  initialised_below : (home : Home) (initial : c.Initial) (shift k n : ℕ) → initial_levels initial ≤ n → 6 ≤ n → Below n (initialised plan home initial shift k)
  initialised_below home c.Absent shift k n le six = omega arith
  initialised_below home (c.Value e) shift k n le six =
      let p = made plan.homes Value e k in
      let s = loose e (levels e) p (made_sized plan.homes Value e k) in
      below_joined n p.code (alone (stored_at home (Constant 0) p.value)) (below_more (2 * levels e) n p.code le s.code)
      (one (depth (stored_at home (Constant 0) p.value)) (stored_below home (Constant 0) p.value n (omega (arith, six)) (store (expr_depth p.value) s.value)))
    where
      store : (d : ℕ) → d ≤ 1 + levels e → d + 1 ≤ n
      store d a = omega (arith, a, le, some_levels e)

      one : (x : ℕ) → x ≤ n → max x 0 ≤ n
      one x a = omega (arith, a)
  initialised_below home (c.Listed es comma number) shift k n le six =
      below_joined n (listed plan home es 0 k) (filling plan home shift number (count_exprs es) k) (listed_below home es 0 k n le (omega (arith, six))) (filling_below home shift number (count_exprs es) k n six)

  all_declared_below : (objects : List c.Object) (shift k n : ℕ) → objects_levels objects ≤ n → 6 ≤ n → Below n (all_declared plan objects shift k)
  all_declared_below [] shift k n le six = omega arith
  all_declared_below (c.Declared object shape initial at ∷ rest) shift k n le six =
      below_joined n (initialised plan (home_of plan.homes object) initial shift k) (all_declared plan rest shift k)
      (initialised_below (home_of plan.homes object) initial shift k n (omega (arith, le)) six) (all_declared_below rest shift k n (omega (arith, le)) six)

  declared_below : (declaration : c.Declaration) (shift k n : ℕ) → declaration_levels declaration ≤ n → Below n (declared plan declaration shift k)
  declared_below (c.Objects specifiers [] at) shift k n le = omega arith
  declared_below (c.Objects specifiers (c.Declared object shape initial own ∷ rest) at) shift k n le =
      all_declared_below (c.Declared object shape initial own ∷ rest) shift k n (omega (arith, le)) (omega (arith, le))
  declared_below (c.Prototype specifiers name params at) shift k n le = omega arith

  started_below : (start : c.ForStart) (k n : ℕ) → start_levels start ≤ n → Below n (started plan start k)
  started_below c.NoStart k n le = omega arith
  started_below (c.StartValue e) k n le = below_more (code_levels e) n (made plan.homes Effect e k).code le (made_sized plan.homes Effect e k)
  started_below (c.StartDeclaration declaration) k n le = declared_below declaration 1 k n le

  tested_below : (test : Option c.Expr) (k n : ℕ) → option_levels test ≤ n → Below n (tested plan test k)
  tested_below None k n le = omega arith
  tested_below (Some e) k n le =
      leaving_below (is_always e) n (made plan.homes (Unless 0) e k).code (below_more (code_levels e) n (made plan.homes (Unless 0) e k).code le (made_sized plan.homes (Unless 0) e k))

  stepped_below : (step : Option c.Expr) (k n : ℕ) → option_levels step ≤ n → Below n (stepped plan step k)
  stepped_below None k n le = omega arith
  stepped_below (Some e) k n le = below_more (code_levels e) n (made plan.homes Effect e k).code le (made_sized plan.homes Effect e k)

  returned_below : (value : Option c.Expr) (k : ℕ) → Below (4 + option_levels value) (returned plan value k)
  returned_below None k = omega arith
  returned_below (Some e) k =
      let p = made plan.homes Value e k in
      let s = loose e (levels e) p (made_sized plan.homes Value e k) in
      below_joined (4 + code_levels e) p.code (alone (Return p.value)) (below_more (2 * levels e) (4 + code_levels e) p.code (omega arith) s.code) (one (expr_depth p.value) s.value)
    where
      one : (d : ℕ) → d ≤ 1 + levels e → max (d + 1) 0 ≤ 4 + 2 * levels e
      one d le = omega (arith, le)

  -- a statement, which leaves room for a block where a `continue` of its own leaves one
  pub record Deep (s : c.Statement) : Type 0 where
    pub by : (k : ℕ) (exits : Exits) → Below (statement_levels s) (planned plan s k exits)
    pub slack : continues s ≡ true → ends_in_block s ≡ false → (k : ℕ) (exits : Exits) → depth_all (planned plan s k exits) + 1 ≤ statement_levels s

  round_below : (s : c.Statement) → Deep s → (k : ℕ) → Below (statement_levels s + 1) (round_of s (planned plan s k))
  round_below s d k = of (continues s) refl (ends_in_block s) refl
    where
      of : (again : Bool) → continues s ≡ again → (ends : Bool) → ends_in_block s ≡ ends → Below (statement_levels s + 1) (rounded again ends (planned plan s k (in_loop again)))
      of false is ends ends_is = below_more (statement_levels s) (statement_levels s + 1) (planned plan s k (in_loop false)) (omega arith) (d.by k (in_loop false))
      of true is false ends_is = block (depth_all (planned plan s k (in_loop true))) (d.slack is ends_is k (in_loop true))
        where
          block : (x : ℕ) → x + 1 ≤ statement_levels s → max (x + 1 + 1) 0 ≤ statement_levels s + 1
          block x le = omega (arith, le)
      of true is true ends_is = last_below (statement_levels s) (planned plan s k (in_loop true)) (d.by k (in_loop true))

  -- a loop of which each part is so deep
  loop_below : (id n : ℕ) (bounds : Starts) (round : Statements) → Below (n + 1) round → Below (4 + n) (looped id bounds round)
  loop_below id n bounds round h = below_more (n + 1 + 3) (4 + n) (looped id bounds round) (omega arith) (looped_below id (n + 1) bounds round h)

  never : (s : c.Statement) → continues s ≡ false → continues s ≡ true → ⊥
  never s none some = false≢true (sym none ∙ some)

  plainly : (s : c.Statement) → continues s ≡ false → ((k : ℕ) (exits : Exits) → Below (statement_levels s) (planned plan s k exits)) → Deep s
  plainly s none by = record { by = by; slack = λ e ends k exits. absurd (never s none e) }

  if_deep : (test : c.Expr) (first : c.Statement) (at : ℕ) → Deep first → Deep (c.If test first at)
  if_deep test first at d = record {
    by = λ k exits. below_more (n + 2) (4 + n) (planned plan (c.If test first at) k exits) (omega arith) (two k exits);
    slack = λ e ends k exits. more (depth_all (planned plan (c.If test first at) k exits)) (two k exits);
  }
    where
      n : ℕ
      n = max (code_levels test) (statement_levels first)

      more : (x : ℕ) → x ≤ n + 2 → x + 1 ≤ 4 + n
      more x le = omega (arith, le)

      two : (k : ℕ) (exits : Exits) → Below (n + 2) (planned plan (c.If test first at) k exits)
      two k exits = chosen_if_below (is_joint test) n (levels test) (made plan.homes Value test k) (made plan.homes (Unless 0) test k).code (planned plan first k exits) (planned plan first k (deeper exits))
          (loose test (levels test) (made plan.homes Value test k) (made_sized plan.homes Value test k)) (omega arith) (omega (arith, some_levels test)) (omega (arith, some_levels test))
          (below_more (code_levels test) n (made plan.homes (Unless 0) test k).code (omega arith) (made_sized plan.homes (Unless 0) test k))
          (below_more (statement_levels first) n (planned plan first k exits) (omega arith) (d.by k exits)) (below_more (statement_levels first) n (planned plan first k (deeper exits)) (omega arith) (d.by k (deeper exits)))

  else_deep : (test : c.Expr) (first second : c.Statement) (at : ℕ) → Deep first → Deep second → Deep (c.IfElse test first second at)
  else_deep test first second at d e = record {
    by = λ k exits. below_more (n + 4) (4 + n) (planned plan (c.IfElse test first second at) k exits) (omega arith) (four k exits).0;
    slack = λ again ends k exits. more (depth_all (planned plan (c.IfElse test first second at) k exits)) ((four k exits).1 ends);
  }
    where
      n : ℕ
      n = max (code_levels test) (max (statement_levels first) (statement_levels second))

      more : (x : ℕ) → x ≤ n + 2 → x + 1 ≤ 4 + n
      more x le = omega (arith, le)

      one : (k : ℕ) (exits : Exits) → Below n (planned plan first k exits)
      one k exits = below_more (statement_levels first) n (planned plan first k exits) (omega arith) (d.by k exits)

      other : (k : ℕ) (exits : Exits) → Below n (planned plan second k exits)
      other k exits = below_more (statement_levels second) n (planned plan second k exits) (omega arith) (e.by k exits)

      four : (k : ℕ) (exits : Exits) → Below (n + 4) (planned plan (c.IfElse test first second at) k exits) × (is_joint test ≡ false → Below (n + 2) (planned plan (c.IfElse test first second at) k exits))
      four k exits = chosen_else_below (is_joint test) n (levels test) (made plan.homes Value test k) (made plan.homes (Unless 0) test k).code (planned plan first k exits) (planned plan second k exits) (planned plan first k (deeper (deeper exits))) (planned plan second k (deeper exits))
          (loose test (levels test) (made plan.homes Value test k) (made_sized plan.homes Value test k)) (omega arith) (omega (arith, some_levels test)) (omega (arith, some_levels test))
          (below_more (code_levels test) n (made plan.homes (Unless 0) test k).code (omega arith) (made_sized plan.homes (Unless 0) test k))
          (one k exits) (other k exits) (one k (deeper (deeper exits))) (other k (deeper exits))

  while_deep : (number : ℕ) (bound : Option Pragma) (test : c.Expr) (body : c.Statement) (at : ℕ) → Deep body → Deep (c.While number bound test body at)
  while_deep number bound test body at d = plainly (c.While number bound test body at) refl (λ k exits.
      let n = max (code_levels test) (statement_levels body) in
      let round = round_of body (planned plan body k) in
      loop_below (number - 1) n (starts (c.While number bound test body at) (bounds_at plan.bounds number)) (joined (tested plan (Some test) k) round)
      (below_joined (n + 1) (tested plan (Some test) k) round (tested_below (Some test) k (n + 1) (omega arith)) (below_more (statement_levels body + 1) (n + 1) round (omega arith) (round_below body d k))))

  do_deep : (number : ℕ) (bound : Option Pragma) (body : c.Statement) (test : c.Expr) (at : ℕ) → Deep body → Deep (c.Do number bound body test at)
  do_deep number bound body test at d = plainly (c.Do number bound body test at) refl (λ k exits.
      let n = max (statement_levels body) (code_levels test) in
      let round = round_of body (planned plan body k) in
      let jumps = (made plan.homes (Unless 0) test k).code in
      loop_below (number - 1) n (starts (c.Do number bound body test at) (bounds_at plan.bounds number)) (joined round jumps)
      (below_joined (n + 1) round jumps (below_more (statement_levels body + 1) (n + 1) round (omega arith) (round_below body d k)) (below_more (code_levels test) (n + 1) jumps (omega arith) (made_sized plan.homes (Unless 0) test k))))

  for_deep : (number : ℕ) (bound : Option Pragma) (start : c.ForStart) (test step : Option c.Expr) (body : c.Statement) (at : ℕ) → Deep body → Deep (c.For number bound start test step body at)
  for_deep number bound start test step body at d = plainly (c.For number bound start test step body at) refl (λ k exits.
      let n = max (start_levels start) (max (option_levels test) (max (option_levels step) (statement_levels body))) in
      let round = round_of body (planned plan body k) in
      let turns = joined (tested plan test k) (joined round (stepped plan step k)) in
      let bounds = starts (c.For number bound start test step body at) (bounds_at plan.bounds number) in
      below_joined (4 + n) (started plan start k) (looped (number - 1 + loops_before start) bounds turns) (started_below start k (4 + n) (omega arith))
      (loop_below (number - 1 + loops_before start) n bounds turns
      (below_joined (n + 1) (tested plan test k) (joined round (stepped plan step k)) (tested_below test k (n + 1) (omega arith))
      (below_joined (n + 1) round (stepped plan step k) (below_more (statement_levels body + 1) (n + 1) round (omega arith) (round_below body d k)) (stepped_below step k (n + 1) (omega arith))))))

  switch_deep : (test : c.Expr) (items : c.Items) (at : ℕ) → ((k : ℕ) (exits : Exits) → PartsBelow (items_levels items) (max 3 (items_levels items + 2)) (parts_planned plan items (k + 1) 1 (k + 2) exits)) → Deep (c.Switch test items at)
  switch_deep test items at inner = record { by = λ k exits. whole k exits; slack = λ again ends k exits. absurd (true≢false ends) }
    where
      n : ℕ
      n = max (code_levels test) (items_levels items)

      whole : (k : ℕ) (exits : Exits) → Below (4 + n) (planned plan (c.Switch test items at) k exits)
      whole k exits =
          let p = made plan.homes Value test k in
          let s = loose test (levels test) p (made_sized plan.homes Value test k) in
          let word = firm k p End in
          let needed = not (is_leaf p.value) || (is_changed p.value End || is_variable (k + 1) p.value) in
          let parts = parts_planned plan items (k + 1) 1 (k + 2) (in_switch exits) in
          let below = inner k (in_switch exits) in
          let tests = label_tests word.value (k + 1) items 1 in
          let block = in_block (guarded (k + 1) 0 parts.before parts.behind) in
          let code : Below (4 + n) word.code = held_below needed k (4 + n) p End (below_more (2 * levels test) (4 + n) p.code (omega arith) s.code) (store (expr_depth p.value) s.value) (omega arith) in
          let value : expr_depth word.value ≤ 1 + levels test = held_value needed k (1 + levels test) p End s.value in
          below_joined (4 + n) word.code (Then (Set (k + 1) (Constant (default_number items 1))) (joined tests block)) code
          (first (depth_all (joined tests block))
          (below_joined (4 + n) tests block (label_tests_below word.value (k + 1) (4 + n) items 1 (room (expr_depth word.value) value) (omega arith))
          (last (depth_all (guarded (k + 1) 0 parts.before parts.behind)) (guarded_below (k + 1) 0 (items_levels items) (max 3 (items_levels items + 2)) parts.before parts.behind below.before (omega arith) (omega arith) below.behind))))
        where
          store : (d : ℕ) → d ≤ 1 + levels test → d + 1 ≤ 4 + n
          store d le = omega (arith, le)

          room : (d : ℕ) → d ≤ 1 + levels test → d + 2 ≤ 4 + n
          room d le = omega (arith, le)

          first : (d : ℕ) → d ≤ 4 + n → max 2 d ≤ 4 + n
          first d le = omega (arith, le)

          last : (d : ℕ) → d ≤ max 3 (items_levels items + 2) → max (d + 1 + 1) 0 ≤ 4 + n
          last d le = omega (arith, le, some_levels test)

  mutual
    pub statement_below : (s : c.Statement) → Deep s
    statement_below (c.Block items at) = record {
      by = λ k exits. below_more (items_levels items) (4 + items_levels items) (all_planned plan items k exits) (omega arith) (items_below items k exits);
      slack = λ again ends k exits. more (depth_all (all_planned plan items k exits)) (items_levels items) (items_below items k exits);
    }
      where
        more : (x n : ℕ) → x ≤ n → x + 1 ≤ 4 + n
        more x n le = omega (arith, le)
    statement_below (c.Empty at) = plainly (c.Empty at) refl (λ k exits. omega arith)
    statement_below (c.Evaluate e at) = plainly (c.Evaluate e at) refl (λ k exits. below_more (code_levels e) (4 + code_levels e) (made plan.homes Effect e k).code (omega arith) (made_sized plan.homes Effect e k))
    statement_below (c.Marker number pragma) = plainly (c.Marker number pragma) refl (λ k exits. omega arith)
    statement_below (c.If test first at) = if_deep test first at (statement_below first)
    statement_below (c.IfElse test first second at) = else_deep test first second at (statement_below first) (statement_below second)
    statement_below (c.While number bound test body at) = while_deep number bound test body at (statement_below body)
    statement_below (c.Do number bound body test at) = do_deep number bound body test at (statement_below body)
    statement_below (c.For number bound start test step body at) = for_deep number bound start test step body at (statement_below body)
    statement_below (c.Switch test items at) = switch_deep test items at (λ k exits. parts_below items (k + 1) 1 (k + 2) (max 3 (items_levels items + 2)) exits (omega arith) (omega arith))
    statement_below (c.Break at) = plainly (c.Break at) refl (λ k exits. omega arith)
    statement_below (c.Continue at) = record { by = λ k exits. omega arith; slack = λ again ends k exits. omega arith }
    statement_below (c.Return value at) = plainly (c.Return value at) refl (λ k exits. returned_below value k)

    pub items_below : (items : c.Items) (k : ℕ) (exits : Exits) → Below (items_levels items) (all_planned plan items k exits)
    items_below c.NoItem k exits = omega arith
    items_below (c.WithDeclaration declaration rest) k exits =
        let n = max (declaration_levels declaration) (items_levels rest) in
        below_joined n (declared plan declaration 0 k) (all_planned plan rest k exits) (declared_below declaration 0 k n (omega arith)) (below_more (items_levels rest) n (all_planned plan rest k exits) (omega arith) (items_below rest k exits))
    items_below (c.WithStatement statement rest) k exits =
        let n = max (statement_levels statement) (items_levels rest) in
        let d = statement_below statement in
        below_joined n (planned plan statement k exits) (all_planned plan rest k exits) (below_more (statement_levels statement) n (planned plan statement k exits) (omega arith) (d.by k exits)) (below_more (items_levels rest) n (all_planned plan rest k exits) (omega arith) (items_below rest k exits))
    items_below (c.WithRestriction pragma rest) k exits = items_below rest k exits
    items_below (c.WithLabel label rest) k exits = items_below rest k exits

    parts_below : (items : c.Items) (noted number k m : ℕ) (exits : Exits) → items_levels items + 2 ≤ m → 3 ≤ m → PartsBelow (items_levels items) m (parts_planned plan items noted number k exits)
    parts_below c.NoItem noted number k m exits room three = record { before = omega arith; behind = omega arith }
    parts_below (c.WithDeclaration declaration rest) noted number k m exits room three =
        let n = max (declaration_levels declaration) (items_levels rest) in
        let parts = parts_planned plan rest noted number k exits in
        let inner = parts_below rest noted number k m exits (omega (arith, room)) three in
        record { before = below_joined n (declared plan declaration 0 k) parts.before (declared_below declaration 0 k n (omega arith)) (below_more (items_levels rest) n parts.before (omega arith) inner.before); behind = inner.behind }
    parts_below (c.WithStatement statement rest) noted number k m exits room three =
        let n = max (statement_levels statement) (items_levels rest) in
        let parts = parts_planned plan rest noted number k exits in
        let inner = parts_below rest noted number k m exits (omega (arith, room)) three in
        let d = statement_below statement in
        record { before = below_joined n (planned plan statement k exits) parts.before (below_more (statement_levels statement) n (planned plan statement k exits) (omega arith) (d.by k exits)) (below_more (items_levels rest) n parts.before (omega arith) inner.before); behind = inner.behind }
    parts_below (c.WithRestriction pragma rest) noted number k m exits room three = parts_below rest noted number k m exits room three
    parts_below (c.WithLabel label rest) noted number k m exits room three =
        let parts = parts_planned plan rest noted (suc number) k exits in
        let inner = parts_below rest noted (suc number) k m exits room three in
        record { before = omega arith; behind = guarded_below noted number (items_levels rest) m parts.before parts.behind inner.before room three inner.behind }

  -- a function's body
  pub body_below : (items : c.Items) (variables : ℕ) → depth (body_planned plan items variables) ≤ items_levels items + 3
  body_below items variables = whole (depth_all (all_planned plan items variables (record { out = 0; next = 0 }))) (items_below items variables (record { out = 0; next = 0 }))
    where
      whole : (d : ℕ) → d ≤ items_levels items → max (d + 1 + 1) (max 2 0) + 1 ≤ items_levels items + 3
      whole d le = omega (arith, le)
