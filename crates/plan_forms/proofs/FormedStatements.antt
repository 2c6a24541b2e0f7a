-- The code of statements and functions keeps to the form.
use Rattle.std.proofs.Common.{◌≡◌, ℕ, suc, ◌+◌, ◌-◌, ◌<◌, ◌≤◌, Bool, true, false, not, List, [], ◌∷◌, Option, Some, None, refl, sym, ap, ◌∙◌, subst, arith}
use Rattle.std.specs.Prelude.{◌||◌}
use Rattle.std.proofs.lemmas.Bool.{true≢false}
use Rattle.facts_definitions.specs.Most.{bounds_at}
use Rattle.facts_definitions.specs.Sites.{count_exprs}
use Rattle.facts_definitions.specs.Starts.{is_always, starts}
use Rattle.c_tree.specs.declared.pragma.Pragma.{Pragma}
use Rattle.types_tree.specs.Tree as c
use Rattle.high_ir.specs.declared.expression.BinaryOperator.TheVariants as binary
use Rattle.high_ir.specs.Tree.{Expr, Constant, Variable, Binary, Statement, Set, Seq, If, Block, Leave, Return, Statements, End, Then}
use Rattle.high_code.specs.Code.{joined, alone, nothing}
use Rattle.plan_definition.specs.declared.home.Home.{Home}
use Rattle.plan_definition.specs.declared.home.Home.TheVariants.{Frame, Memory}
use Rattle.plan_definition.specs.declared.purpose.Purpose.TheVariants.{Value, Effect, Unless}
use Rattle.plan_definition.specs.Homes.{home_of}
use Rattle.plan_definition.specs.Statements.{Exits, Parts, Plan, all_declared, all_planned, body_planned, chosen_else, chosen_if, continues, declared, deeper, default_number, ends_in_block, filled, filling, guarded, in_loop, in_switch, initialised, label_tests, last_in_block, leaving_unless, listed, loops_before, looped, parts_planned, planned, returned, round_of, rounded, started, stepped, stored_at, tested}
use Rattle.plan_definition.specs.Values.{Valued, firm, is_changed, is_joint, is_leaf, is_variable, made}
use Rattle.plan_forms.specs.Forms.{Limits, Formed, AllFormed, Allowed, AllAllowed, OptionAllowed, InitialAllowed, ObjectsAllowed, DeclarationAllowed, StartAllowed, StatementAllowed, ItemsAllowed}
use Rattle.plan_forms.proofs.FormedExpressions.{made_formed, none_left}
use Rattle.plan_forms.proofs.FormedPieces.{formed_joined, formed_held}

joined-joined : (a b d : Statements) → joined (joined a b) d ≡ joined a (joined b d)
joined-joined End b d = refl
joined-joined (Then first rest) b d = ap (Then first) (joined-joined rest b d)

last_in_block-joined : (a : Statements) (s : Statement) → last_in_block (joined a (alone s)) ≡ joined a (alone (Block s))
last_in_block-joined End s = refl
last_in_block-joined (Then first End) s = refl
last_in_block-joined (Then first (Then second rest)) s = ap (Then first) (last_in_block-joined (Then second rest) s)

-- among so many blocks an exit that is used has its block
pub record HasExits (out next : Bool) (exits : Exits) (n : ℕ) : Type 0 where
  pub out_in : out ≡ true → exits.out < n
  pub next_in : next ≡ true → exits.next < n

deeper_exits : (out next : Bool) (exits : Exits) (n : ℕ) → HasExits out next exits n → HasExits out next (deeper exits) (suc n)
deeper_exits out next exits n h = record { out_in = λ e. more exits.out (h.out_in e); next_in = λ e. more exits.next (h.next_in e) }
  where
    more : (x : ℕ) → x < n → suc x < suc n
    more x lt = omega (arith, lt)

switch_exits : (out next : Bool) (exits : Exits) (n : ℕ) → HasExits out next exits n → HasExits true next (in_switch exits) (suc n)
switch_exits out next exits n h = record { out_in = λ e. none_left n; next_in = λ e. more exits.next (h.next_in e) }
  where
    more : (x : ℕ) → x < n → suc x < suc n
    more x lt = omega (arith, lt)

-- within the block of a loop
spliced_exits : (n : ℕ) → HasExits true true (in_loop false) (suc n)
spliced_exits n = record { out_in = λ e. none_left n; next_in = λ e. none_left n }

round_exits : (n : ℕ) → HasExits true true (in_loop true) (suc (suc n))
round_exits n = record { out_in = λ e. one n; next_in = λ e. none_left (suc n) }
  where
    one : (n : ℕ) → 1 < suc (suc n)
    one n = omega arith

module _ (l : Limits) (loops : l.loops ≡ true) (plan : Plan) (first_is : plan.functions ≡ l.first) where
  stored_formed : (home : Home) (index value : Expr) (n : ℕ) → Formed l n (stored_at home index value)
  stored_formed (Frame x) index value n = tt
  stored_formed (Memory array) index value n = tt

  filled_formed : (home : Home) (id from count k n : ℕ) → AllFormed l n (filled home id from count k)
  filled_formed home id from count k n = (tt, ((loops, (stored_formed home (Variable k) (Constant 0) (suc n), (tt, ((tt, none_left n), tt)))), tt))

  filling_formed : (home : Home) (shift : ℕ) (number : Option ℕ) (from k n : ℕ) → AllFormed l n (filling plan home shift number from k)
  filling_formed home shift None from k n = tt
  filling_formed home shift (Some number) from k n = filled_formed home (number - 1 - shift) from (bounds_at plan.bounds number).max k n

  listed_formed : (home : Home) (es : c.Exprs) (index k n : ℕ) → AllAllowed l es → AllFormed l n (listed plan home es index k)
  listed_formed home c.NoExpr index k n may = tt
  listed_formed home (c.WithExpr e rest) index k n may =
      let p = made plan.homes Value e k in
      formed_joined l n p.code (Then (stored_at home (Constant index) p.value) (listed plan home rest (index + 1) k)) (made_formed l plan.homes Value e k n tt may.0)
      (stored_formed home (Constant index) p.value n, listed_formed home rest (index + 1) k n may.1)

  initialised_formed : (home : Home) (initial : c.Initial) (shift k n : ℕ) → InitialAllowed l initial → AllFormed l n (initialised plan home initial shift k)
  initialised_formed home c.Absent shift k n may = tt
  initialised_formed home (c.Value e) shift k n may =
      let p = made plan.homes Value e k in
      formed_joined l n p.code (alone (stored_at home (Constant 0) p.value)) (made_formed l plan.homes Value e k n tt may) (stored_formed home (Constant 0) p.value n, tt)
  initialised_formed home (c.Listed es comma number) shift k n may =
      formed_joined l n (listed plan home es 0 k) (filling plan home shift number (count_exprs es) k) (listed_formed home es 0 k n may) (filling_formed home shift number (count_exprs es) k n)

  all_declared_formed : (objects : List c.Object) (shift k n : ℕ) → ObjectsAllowed l objects → AllFormed l n (all_declared plan objects shift k)
  all_declared_formed [] shift k n may = tt
  all_declared_formed (c.Declared object shape initial at ∷ rest) shift k n may =
      formed_joined l n (initialised plan (home_of plan.homes object) initial shift k) (all_declared plan rest shift k) (initialised_formed (home_of plan.homes object) initial shift k n may.0) (all_declared_formed rest shift k n may.1)

  declared_formed : (declaration : c.Declaration) (shift k n : ℕ) → DeclarationAllowed l declaration → AllFormed l n (declared plan declaration shift k)
  declared_formed (c.Objects specifiers objects at) shift k n may = all_declared_formed objects shift k n may
  declared_formed (c.Prototype specifiers name params at) shift k n may = tt

  started_formed : (start : c.ForStart) (k n : ℕ) → StartAllowed l start → AllFormed l n (started plan start k)
  started_formed c.NoStart k n may = tt
  started_formed (c.StartValue e) k n may = made_formed l plan.homes Effect e k n tt may
  started_formed (c.StartDeclaration declaration) k n may = declared_formed declaration 1 k n may

  leaving_formed : (always : Bool) (n : ℕ) (jumps : Statements) → AllFormed l n jumps → AllFormed l n (leaving_unless always jumps)
  leaving_formed true n jumps h = tt
  leaving_formed false n jumps h = h

  tested_formed : (test : Option c.Expr) (k n : ℕ) → OptionAllowed l test → AllFormed l (suc n) (tested plan test k)
  tested_formed None k n may = tt
  tested_formed (Some e) k n may = leaving_formed (is_always e) (suc n) (made plan.homes (Unless 0) e k).code (made_formed l plan.homes (Unless 0) e k (suc n) (none_left n) may)

  stepped_formed : (step : Option c.Expr) (k n : ℕ) → OptionAllowed l step → AllFormed l n (stepped plan step k)
  stepped_formed None k n may = tt
  stepped_formed (Some e) k n may = made_formed l plan.homes Effect e k n tt may

  returned_formed : (value : Option c.Expr) (k n : ℕ) → OptionAllowed l value → AllFormed l n (returned plan value k)
  returned_formed None k n may = (tt, tt)
  returned_formed (Some e) k n may = let p = made plan.homes Value e k in formed_joined l n p.code (alone (Return p.value)) (made_formed l plan.homes Value e k n tt may) (tt, tt)

  chosen_if_formed : (joint : Bool) (n : ℕ) (test : Valued) (jumps first within : Statements) → AllFormed l n test.code → AllFormed l (suc n) jumps → AllFormed l n first → AllFormed l (suc n) within → AllFormed l n (chosen_if joint test jumps first within)
  chosen_if_formed false n test jumps first within t j f w = formed_joined l n test.code (alone (If test.value (Seq first) (Seq End))) t ((f, tt), tt)
  chosen_if_formed true n test jumps first within t j f w = (formed_joined l (suc n) jumps within j w, tt)

  chosen_else_formed : (joint : Bool) (n : ℕ) (test : Valued) (jumps first other first_within other_within : Statements) → AllFormed l n test.code → AllFormed l (suc (suc n)) jumps → AllFormed l n first → AllFormed l n other → AllFormed l (suc (suc n)) first_within → AllFormed l (suc n) other_within →
      AllFormed l n (chosen_else joint test jumps first other first_within other_within)
  chosen_else_formed false n test jumps first other fw ow t j f o f2 o1 = formed_joined l n test.code (alone (If test.value (Seq first) (Seq other))) t ((f, o), tt)
  chosen_else_formed true n test jumps first other fw ow t j f o f2 o1 =
      ((formed_joined l (suc (suc n)) jumps (joined fw (alone (Leave 1))) j (formed_joined l (suc (suc n)) fw (alone (Leave 1)) f2 (one n, tt)), o1), tt)
    where
      one : (n : ℕ) → 1 < suc (suc n)
      one n = omega arith

  label_tests_formed : (w : Expr) (noted n : ℕ) (items : c.Items) (number : ℕ) → AllFormed l n (label_tests w noted items number)
  label_tests_formed w noted n c.NoItem number = tt
  label_tests_formed w noted n (c.WithDeclaration declaration rest) number = label_tests_formed w noted n rest number
  label_tests_formed w noted n (c.WithStatement statement rest) number = label_tests_formed w noted n rest number
  label_tests_formed w noted n (c.WithRestriction pragma rest) number = label_tests_formed w noted n rest number
  label_tests_formed w noted n (c.WithLabel (c.Case value own at) rest) number =
      formed_joined l n (label_tests w noted rest (suc number)) (alone (If (Binary binary.Equal w (Constant own)) (Set noted (Constant number)) nothing)) (label_tests_formed w noted n rest (suc number)) ((tt, tt), tt)
  label_tests_formed w noted n (c.WithLabel (c.Default at) rest) number = label_tests_formed w noted n rest (suc number)

  guarded_formed : (noted number n : ℕ) (before behind : Statements) → AllFormed l n before → AllFormed l n behind → AllFormed l n (guarded noted number before behind)
  guarded_formed noted number n End behind b h = h
  guarded_formed noted number n (Then first rest) behind b h = ((b, tt), h)

  pub record PartsFormed (n : ℕ) (parts : Parts) : Type 0 where
    pub before : AllFormed l n parts.before
    pub behind : AllFormed l n parts.behind

  -- a statement among blocks, and as the body of a loop
  pub record Keeps (s : c.Statement) : Type 0 where
    pub by : (out next : Bool) → StatementAllowed l out next s → (k : ℕ) (exits : Exits) (n : ℕ) → HasExits out next exits n → AllFormed l n (planned plan s k exits)
    pub round : StatementAllowed l true true s → (k n : ℕ) → AllFormed l (suc n) (round_of s (planned plan s k))

  -- by its code among blocks, and by the code whose last statement is in a block
  keeps_by : (s : c.Statement) → ((out next : Bool) → StatementAllowed l out next s → (k : ℕ) (exits : Exits) (n : ℕ) → HasExits out next exits n → AllFormed l n (planned plan s k exits)) →
      (StatementAllowed l true true s → ends_in_block s ≡ true → (k n : ℕ) → AllFormed l (suc n) (last_in_block (planned plan s k (in_loop true)))) → Keeps s
  keeps_by s by last = record { by = by; round = λ may k n. of may k n (continues s) (ends_in_block s) refl }
    where
      of : StatementAllowed l true true s → (k n : ℕ) → (again ends : Bool) → ends_in_block s ≡ ends → AllFormed l (suc n) (rounded again ends (planned plan s k (in_loop again)))
      of may k n false ends is = by true true may k (in_loop false) (suc n) (spliced_exits n)
      of may k n true false is = (by true true may k (in_loop true) (suc (suc n)) (round_exits n), tt)
      of may k n true true is = last may is k n

  keeps_plain : (s : c.Statement) → ends_in_block s ≡ false → ((out next : Bool) → StatementAllowed l out next s → (k : ℕ) (exits : Exits) (n : ℕ) → HasExits out next exits n → AllFormed l n (planned plan s k exits)) → Keeps s
  keeps_plain s none by = keeps_by s by (λ may is k n. absurd (true≢false (sym is ∙ none)))

  -- of two ways by jumps only the second of their blocks is left
  last_way : (joint : Bool) (n : ℕ) (test : Valued) (jumps first other first_within other_within : Statements) → joint ≡ true → AllFormed l (suc n) (chosen_else joint test jumps first other first_within other_within) → AllFormed l n (last_in_block (chosen_else joint test jumps first other first_within other_within))
  last_way false n test jumps first other fw ow is h = absurd (true≢false (sym is))
  last_way true n test jumps first other fw ow is h = h

  if_keeps : (test : c.Expr) (first : c.Statement) (at : ℕ) → Keeps first → Keeps (c.If test first at)
  if_keeps test first at d = keeps_plain (c.If test first at) refl (λ out next may k exits n h.
      chosen_if_formed (is_joint test) n (made plan.homes Value test k) (made plan.homes (Unless 0) test k).code (planned plan first k exits) (planned plan first k (deeper exits))
      (made_formed l plan.homes Value test k n tt may.0) (made_formed l plan.homes (Unless 0) test k (suc n) (none_left n) may.0) (d.by out next may.1 k exits n h) (d.by out next may.1 k (deeper exits) (suc n) (deeper_exits out next exits n h)))

  else_keeps : (test : c.Expr) (first second : c.Statement) (at : ℕ) → Keeps first → Keeps second → Keeps (c.IfElse test first second at)
  else_keeps test first second at d e = keeps_by (c.IfElse test first second at) whole (λ may is k n.
      last_way (is_joint test) (suc n) (made plan.homes Value test k) (made plan.homes (Unless 0) test k).code (planned plan first k (in_loop true)) (planned plan second k (in_loop true)) (planned plan first k (deeper (deeper (in_loop true)))) (planned plan second k (deeper (in_loop true))) is
      (whole true true may k (in_loop true) (suc (suc n)) (round_exits n)))
    where
      whole : (out next : Bool) → StatementAllowed l out next (c.IfElse test first second at) → (k : ℕ) (exits : Exits) (n : ℕ) → HasExits out next exits n → AllFormed l n (planned plan (c.IfElse test first second at) k exits)
      whole out next may k exits n h =
          let h1 = deeper_exits out next exits n h in
          let h2 = deeper_exits out next (deeper exits) (suc n) h1 in
          chosen_else_formed (is_joint test) n (made plan.homes Value test k) (made plan.homes (Unless 0) test k).code (planned plan first k exits) (planned plan second k exits) (planned plan first k (deeper (deeper exits))) (planned plan second k (deeper exits))
          (made_formed l plan.homes Value test k n tt may.0) (made_formed l plan.homes (Unless 0) test k (suc (suc n)) (none_left (suc n)) may.0) (d.by out next may.1 k exits n h) (e.by out next may.2 k exits n h)
          (d.by out next may.1 k (deeper (deeper exits)) (suc (suc n)) h2) (e.by out next may.2 k (deeper exits) (suc n) h1)

  while_keeps : (number : ℕ) (bound : Option Pragma) (test : c.Expr) (body : c.Statement) (at : ℕ) → Keeps body → Keeps (c.While number bound test body at)
  while_keeps number bound test body at d = keeps_plain (c.While number bound test body at) refl (λ out next may k exits n h.
      ((loops, formed_joined l (suc n) (tested plan (Some test) k) (round_of body (planned plan body k)) (tested_formed (Some test) k n may.0) (d.round may.1 k n)), tt))

  do_keeps : (number : ℕ) (bound : Option Pragma) (body : c.Statement) (test : c.Expr) (at : ℕ) → Keeps body → Keeps (c.Do number bound body test at)
  do_keeps number bound body test at d = keeps_plain (c.Do number bound body test at) refl (λ out next may k exits n h.
      ((loops, formed_joined l (suc n) (round_of body (planned plan body k)) (made plan.homes (Unless 0) test k).code (d.round may.0 k n) (made_formed l plan.homes (Unless 0) test k (suc n) (none_left n) may.1)), tt))

  for_keeps : (number : ℕ) (bound : Option Pragma) (start : c.ForStart) (test step : Option c.Expr) (body : c.Statement) (at : ℕ) → Keeps body → Keeps (c.For number bound start test step body at)
  for_keeps number bound start test step body at d = keeps_plain (c.For number bound start test step body at) refl (λ out next may k exits n h.
      let round = round_of body (planned plan body k) in
      let turns = joined (tested plan test k) (joined round (stepped plan step k)) in
      formed_joined l n (started plan start k) (looped (number - 1 + loops_before start) (starts (c.For number bound start test step body at) (bounds_at plan.bounds number)) turns) (started_formed start k n may.0)
      ((loops, formed_joined l (suc n) (tested plan test k) (joined round (stepped plan step k)) (tested_formed test k n may.1) (formed_joined l (suc n) round (stepped plan step k) (d.round may.3 k n) (stepped_formed step k (suc n) may.2))), tt))

  -- a switch, whose parts keep to the form among one block more
  switch_keeps : (test : c.Expr) (items : c.Items) (at : ℕ) → ((out next : Bool) → ItemsAllowed l out next items → (k : ℕ) (exits : Exits) (n : ℕ) → HasExits out next exits n → PartsFormed n (parts_planned plan items (k + 1) 1 (k + 2) exits)) → Keeps (c.Switch test items at)
  switch_keeps test items at parts = keeps_by (c.Switch test items at) whole last
    where
      word : ℕ → Valued
      word k = firm k (made plan.homes Value test k) End

      before : ℕ → Statements
      before k = Then (Set (k + 1) (Constant (default_number items 1))) (label_tests (word k).value (k + 1) items 1)

      parts_block : ℕ → Exits → Statement
      parts_block k exits = Block (Seq (guarded (k + 1) 0 (parts_planned plan items (k + 1) 1 (k + 2) (in_switch exits)).before (parts_planned plan items (k + 1) 1 (k + 2) (in_switch exits)).behind))

      head : (k n : ℕ) → Allowed l test → AllFormed l n (joined (word k).code (before k))
      head k n may =
          let p = made plan.homes Value test k in
          formed_joined l n (word k).code (before k) (formed_held l (not (is_leaf p.value) || (is_changed p.value End || is_variable (k + 1) p.value)) k n p End (made_formed l plan.homes Value test k n tt may) tt) (tt, label_tests_formed (word k).value (k + 1) n items 1)

      tail : (next : Bool) → ItemsAllowed l true next items → (k : ℕ) (exits : Exits) (n : ℕ) → HasExits true next (in_switch exits) (suc n) → Formed l n (parts_block k exits)
      tail next may k exits n h =
          let p = parts true next may k (in_switch exits) (suc n) h in
          guarded_formed (k + 1) 0 (suc n) (parts_planned plan items (k + 1) 1 (k + 2) (in_switch exits)).before (parts_planned plan items (k + 1) 1 (k + 2) (in_switch exits)).behind p.before p.behind

      code_is : (k : ℕ) (exits : Exits) → planned plan (c.Switch test items at) k exits ≡ joined (joined (word k).code (before k)) (alone (parts_block k exits))
      code_is k exits = sym (joined-joined (word k).code (before k) (alone (parts_block k exits)))

      whole : (out next : Bool) → StatementAllowed l out next (c.Switch test items at) → (k : ℕ) (exits : Exits) (n : ℕ) → HasExits out next exits n → AllFormed l n (planned plan (c.Switch test items at) k exits)
      whole out next may k exits n h =
          subst (AllFormed l n) (sym (code_is k exits))
          (formed_joined l n (joined (word k).code (before k)) (alone (parts_block k exits)) (head k n may.0) (tail next may.1 k exits n (switch_exits out next exits n h), tt))

      last : StatementAllowed l true true (c.Switch test items at) → ends_in_block (c.Switch test items at) ≡ true → (k n : ℕ) → AllFormed l (suc n) (last_in_block (planned plan (c.Switch test items at) k (in_loop true)))
      last may is k n =
          subst (AllFormed l (suc n)) (sym (ap last_in_block (code_is k (in_loop true)) ∙ last_in_block-joined (joined (word k).code (before k)) (parts_block k (in_loop true))))
          (formed_joined l (suc n) (joined (word k).code (before k)) (alone (Block (parts_block k (in_loop true)))) (head k (suc n) may.0)
          (tail true may.1 k (in_loop true) (suc (suc n)) (switch_exits true true (in_loop true) (suc (suc n)) (round_exits n)), tt))

  marker_in : (number : ℕ) → l.first + number < l.marks → (l.first ≤ plan.functions + number) × (plan.functions + number < l.marks)
  marker_in number lt = (omega (arith, first_is), omega (arith, first_is, lt))

  mutual
    pub statement_formed : (s : c.Statement) → Keeps s
    statement_formed (c.Block items at) = keeps_plain (c.Block items at) refl (λ out next may k exits n h. items_formed items out next may k exits n h)
    statement_formed (c.Empty at) = keeps_plain (c.Empty at) refl (λ out next may k exits n h. tt)
    statement_formed (c.Evaluate e at) = keeps_plain (c.Evaluate e at) refl (λ out next may k exits n h. made_formed l plan.homes Effect e k n tt may)
    statement_formed (c.Marker number pragma) = keeps_plain (c.Marker number pragma) refl (λ out next may k exits n h. (marker_in number may, tt))
    statement_formed (c.If test first at) = if_keeps test first at (statement_formed first)
    statement_formed (c.IfElse test first second at) = else_keeps test first second at (statement_formed first) (statement_formed second)
    statement_formed (c.While number bound test body at) = while_keeps number bound test body at (statement_formed body)
    statement_formed (c.Do number bound body test at) = do_keeps number bound body test at (statement_formed body)
    statement_formed (c.For number bound start test step body at) = for_keeps number bound start test step body at (statement_formed body)
    statement_formed (c.Switch test items at) = switch_keeps test items at (λ out next may k exits n h. parts_formed items (k + 1) 1 (k + 2) out next may exits n h)
    statement_formed (c.Break at) = keeps_plain (c.Break at) refl (λ out next may k exits n h. (h.out_in may, tt))
    statement_formed (c.Continue at) = keeps_plain (c.Continue at) refl (λ out next may k exits n h. (h.next_in may, tt))
    statement_formed (c.Return value at) = keeps_plain (c.Return value at) refl (λ out next may k exits n h. returned_formed value k n may)

    pub items_formed : (items : c.Items) (out next : Bool) → ItemsAllowed l out next items → (k : ℕ) (exits : Exits) (n : ℕ) → HasExits out next exits n → AllFormed l n (all_planned plan items k exits)
    items_formed c.NoItem out next may k exits n h = tt
    items_formed (c.WithDeclaration declaration rest) out next may k exits n h = formed_joined l n (declared plan declaration 0 k) (all_planned plan rest k exits) (declared_formed declaration 0 k n may.0) (items_formed rest out next may.1 k exits n h)
    items_formed (c.WithStatement statement rest) out next may k exits n h =
        let d = statement_formed statement in
        formed_joined l n (planned plan statement k exits) (all_planned plan rest k exits) (d.by out next may.0 k exits n h) (items_formed rest out next may.1 k exits n h)
    items_formed (c.WithRestriction pragma rest) out next may k exits n h = items_formed rest out next may k exits n h
    items_formed (c.WithLabel label rest) out next may k exits n h = items_formed rest out next may k exits n h

    pub parts_formed : (items : c.Items) (noted number k : ℕ) (out next : Bool) → ItemsAllowed l out next items → (exits : Exits) (n : ℕ) → HasExits out next exits n → PartsFormed n (parts_planned plan items noted number k exits)
    parts_formed c.NoItem noted number k out next may exits n h = record { before = tt; behind = tt }
    parts_formed (c.WithDeclaration declaration rest) noted number k out next may exits n h =
        let inner = parts_formed rest noted number k out next may.1 exits n h in
        record { before = formed_joined l n (declared plan declaration 0 k) (parts_planned plan rest noted number k exits).before (declared_formed declaration 0 k n may.0) inner.before; behind = inner.behind }
    parts_formed (c.WithStatement statement rest) noted number k out next may exits n h =
        let d = statement_formed statement in
        let inner = parts_formed rest noted number k out next may.1 exits n h in
        record { before = formed_joined l n (planned plan statement k exits) (parts_planned plan rest noted number k exits).before (d.by out next may.0 k exits n h) inner.before; behind = inner.behind }
    parts_formed (c.WithRestriction pragma rest) noted number k out next may exits n h = parts_formed rest noted number k out next may exits n h
    parts_formed (c.WithLabel label rest) noted number k out next may exits n h =
        let inner = parts_formed rest noted (suc number) k out next may exits n h in
        record { before = tt; behind = guarded_formed noted number n (parts_planned plan rest noted (suc number) k exits).before (parts_planned plan rest noted (suc number) k exits).behind inner.before inner.behind }

  -- a function's body needs no block
  pub body_formed : (items : c.Items) (variables : ℕ) → ItemsAllowed l false false items → Formed l 0 (body_planned plan items variables)
  body_formed items variables may =
      (items_formed items false false may variables (record { out = 0; next = 0 }) 1 (record { out_in = λ e. none_left 0; next_in = λ e. none_left 0 }), (tt, tt))
