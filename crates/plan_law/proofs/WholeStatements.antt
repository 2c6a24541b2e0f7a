-- The constants of the code of statements and functions are words.
use Rattle.std.proofs.Common.{ℕ, suc, ◌+◌, ◌-◌, ◌<◌, ◌^◌, Bool, true, false, List, [], ◌∷◌, Option, Some, None, arith}
use Rattle.facts_definitions.specs.Most.{bounds_at}
use Rattle.facts_definitions.specs.Sites.{count_exprs}
use Rattle.facts_definitions.specs.Starts.{is_always, starts}
use Rattle.c_tree.specs.declared.pragma.Pragma.{Pragma}
use Rattle.types_tree.specs.Tree as c
use Rattle.high_ir.specs.declared.expression.BinaryOperator.TheVariants as binary
use Rattle.high_ir.specs.Tree.{Expr, Constant, Variable, Binary, Set, Seq, If, Block, Leave, Return, Statements, End, Then}
use Rattle.high_ir.specs.Whole.{AllHaveWords, HasWords, IsWordy}
use Rattle.high_code.specs.Code.{joined, alone, nothing}
use Rattle.plan_definition.specs.declared.home.Home.{Home}
use Rattle.plan_definition.specs.declared.home.Home.TheVariants.{Frame, Memory}
use Rattle.plan_definition.specs.declared.purpose.Purpose.TheVariants.{Value, Effect, Unless}
use Rattle.plan_definition.specs.Homes.{home_of}
use Rattle.plan_definition.specs.Statements.{Exits, Parts, Plan, all_declared, all_planned, and_before, body_planned, chosen_else, chosen_if, continues, declared, deeper, default_number, ends_in_block, filled, filling, guarded, in_loop, in_switch, initialised, label_count, label_tests, last_in_block, leaving_unless, listed, loops_before, looped, parts_planned, planned, returned, round_of, rounded, started, stepped, stored_at, switched, tested}
use Rattle.plan_definition.specs.Values.{Valued, firm, is_joint, made}
use Rattle.plan_law.specs.Counts.{DeclarationCounted, FillingCounted, InitialCounted, ItemsCounted, ObjectsCounted, StartCounted, StatementCounted}
use Rattle.plan_law.specs.Words.{DeclarationWords, ExprsWords, InitialWords, ItemsWords, ObjectsWords, OptionWords, StartWords, StatementWords}
use Rattle.plan_law.proofs.WholeExpressions.{Worded, firm_words, joined_words, made_words, one_small, zero_small}

-- what is stored
stored_words : (home : Home) (index value : Expr) → IsWordy index → IsWordy value → HasWords (stored_at home index value)
stored_words (Frame x) index value i v = v
stored_words (Memory array) index value i v = (i, v)

filled_words : (home : Home) (id from count k : ℕ) → from < 2 ^ 32 → from + count < 2 ^ 32 → AllHaveWords (filled home id from count k)
filled_words home id from count k f g = (f, ((stored_words home (Variable k) (Constant 0) tt zero_small, ((tt, one_small), (((tt, g), (tt, tt)), tt))), tt))

-- branches
chosen_if_words : (joint : Bool) (test : Valued) (jumps first within : Statements) → Worded test → AllHaveWords jumps → AllHaveWords first → AllHaveWords within → AllHaveWords (chosen_if joint test jumps first within)
chosen_if_words false test jumps first within t j f w = joined_words test.code (alone (If test.value (Seq first) (Seq End))) t.code ((t.value, (f, tt)), tt)
chosen_if_words true test jumps first within t j f w = (joined_words jumps within j w, tt)

chosen_else_words : (joint : Bool) (test : Valued) (jumps first other first_within other_within : Statements) → Worded test → AllHaveWords jumps → AllHaveWords first → AllHaveWords other → AllHaveWords first_within → AllHaveWords other_within →
    AllHaveWords (chosen_else joint test jumps first other first_within other_within)
chosen_else_words false test jumps first other fw ow t j f o f1 o1 = joined_words test.code (alone (If test.value (Seq first) (Seq other))) t.code ((t.value, (f, o)), tt)
chosen_else_words true test jumps first other fw ow t j f o f1 o1 = ((joined_words jumps (joined fw (alone (Leave 1))) j (joined_words fw (alone (Leave 1)) f1 (tt, tt)), o1), tt)

-- loops
last_words : (code : Statements) → AllHaveWords code → AllHaveWords (last_in_block code)
last_words End h = h
last_words (Then first End) h = h
last_words (Then first (Then second rest)) h = (h.0, last_words (Then second rest) h.1)

rounded_words : (again ends : Bool) (code : Statements) → AllHaveWords code → AllHaveWords (rounded again ends code)
rounded_words false ends code h = h
rounded_words true false code h = (h, tt)
rounded_words true true code h = last_words code h

round_words : (body : c.Statement) (code : Exits → Statements) → ((exits : Exits) → AllHaveWords (code exits)) → AllHaveWords (round_of body code)
round_words body code h = rounded_words (continues body) (ends_in_block body) (code (in_loop (continues body))) (h (in_loop (continues body)))

leaving_words : (always : Bool) (jumps : Statements) → AllHaveWords jumps → AllHaveWords (leaving_unless always jumps)
leaving_words true jumps h = tt
leaving_words false jumps h = h

-- labels, whose numbers are words
later : (number n : ℕ) → number + suc n < 2 ^ 32 → suc number + n < 2 ^ 32
later number n h = omega (arith, h)

this : (number n : ℕ) → number + n < 2 ^ 32 → number < 2 ^ 32
this number n h = omega (arith, h)

tests_words : (word : Expr) (noted : ℕ) (items : c.Items) (number : ℕ) → IsWordy word → ItemsWords items → number + label_count items < 2 ^ 32 → AllHaveWords (label_tests word noted items number)
tests_words word noted c.NoItem number w h n = tt
tests_words word noted (c.WithDeclaration declaration rest) number w h n = tests_words word noted rest number w h.1 n
tests_words word noted (c.WithStatement statement rest) number w h n = tests_words word noted rest number w h.1 n
tests_words word noted (c.WithRestriction pragma rest) number w h n = tests_words word noted rest number w h n
tests_words word noted (c.WithLabel (c.Case value own at) rest) number w h n =
    joined_words (label_tests word noted rest (suc number)) (alone (If (Binary binary.Equal word (Constant own)) (Set noted (Constant number)) nothing))
    (tests_words word noted rest (suc number) w h.1 (later number (label_count rest) n)) (((w, h.0), (this number (suc (label_count rest)) n, tt)), tt)
tests_words word noted (c.WithLabel (c.Default at) rest) number w h n = tests_words word noted rest (suc number) w h.1 (later number (label_count rest) n)

default_small : (items : c.Items) (number : ℕ) → number + label_count items < 2 ^ 32 → default_number items number < 2 ^ 32
default_small c.NoItem number n = this number 0 n
default_small (c.WithDeclaration declaration rest) number n = default_small rest number n
default_small (c.WithStatement statement rest) number n = default_small rest number n
default_small (c.WithRestriction pragma rest) number n = default_small rest number n
default_small (c.WithLabel (c.Case value own at) rest) number n = default_small rest (suc number) (later number (label_count rest) n)
default_small (c.WithLabel (c.Default at) rest) number n = this number (suc (label_count rest)) n

guarded_words : (noted number : ℕ) (before behind : Statements) → number < 2 ^ 32 → AllHaveWords before → AllHaveWords behind → AllHaveWords (guarded noted number before behind)
guarded_words noted number End behind n b h = h
guarded_words noted number (Then first rest) behind n b h = (((n, tt), (b, tt)), h)

record PartsWords (parts : Parts) : Type 0 where
  pub before : AllHaveWords parts.before
  pub behind : AllHaveWords parts.behind

and_before_words : (code : Statements) (parts : Parts) → AllHaveWords code → PartsWords parts → PartsWords (and_before code parts)
and_before_words code parts h p = record { before = joined_words code parts.before h p.before; behind = p.behind }

switched_words : (word : Valued) (noted default : ℕ) (tests : Statements) (parts : Parts) → Worded word → default < 2 ^ 32 → AllHaveWords tests → PartsWords parts → AllHaveWords (switched word noted default tests parts)
switched_words word noted default tests parts w d t p =
    let block = guarded noted 0 parts.before parts.behind in
    joined_words word.code (Then (Set noted (Constant default)) (joined tests (alone (Block (Seq block))))) w.code
    (d, joined_words tests (alone (Block (Seq block))) t (guarded_words noted 0 parts.before parts.behind zero_small p.before p.behind, tt))

module _ (plan : Plan) where
  one_more : (index n : ℕ) → index + (n + 1) < 2 ^ 32 → index + 1 + n < 2 ^ 32
  one_more index n h = omega (arith, h)

  from_zero : (n : ℕ) → n < 2 ^ 32 → 0 + n < 2 ^ 32
  from_zero n h = omega (arith, h)

  listed_words : (home : Home) (es : c.Exprs) (index k : ℕ) → ExprsWords es → index + count_exprs es < 2 ^ 32 → AllHaveWords (listed plan home es index k)
  listed_words home c.NoExpr index k h n = tt
  listed_words home (c.WithExpr e rest) index k h n =
      let p = made plan.homes Value e k in
      let w = made_words plan.homes Value e k h.0 in
      joined_words p.code (Then (stored_at home (Constant index) p.value) (listed plan home rest (index + 1) k)) w.code
      (stored_words home (Constant index) p.value (this index (count_exprs rest + 1) n) w.value, listed_words home rest (index + 1) k h.1 (one_more index (count_exprs rest) n))

  filling_words : (home : Home) (shift : ℕ) (number : Option ℕ) (from k : ℕ) → from < 2 ^ 32 → FillingCounted plan.bounds from number → AllHaveWords (filling plan home shift number from k)
  filling_words home shift None from k f n = tt
  filling_words home shift (Some number) from k f n = filled_words home (number - 1 - shift) from (bounds_at plan.bounds number).max k f n

  initialised_words : (home : Home) (initial : c.Initial) (shift k : ℕ) → InitialWords initial → InitialCounted plan.bounds initial → AllHaveWords (initialised plan home initial shift k)
  initialised_words home c.Absent shift k h n = tt
  initialised_words home (c.Value e) shift k h n =
      let p = made plan.homes Value e k in
      let w = made_words plan.homes Value e k h in
      joined_words p.code (alone (stored_at home (Constant 0) p.value)) w.code (stored_words home (Constant 0) p.value zero_small w.value, tt)
  initialised_words home (c.Listed es comma number) shift k h n =
      joined_words (listed plan home es 0 k) (filling plan home shift number (count_exprs es) k) (listed_words home es 0 k h (from_zero (count_exprs es) n.0)) (filling_words home shift number (count_exprs es) k n.0 n.1)

  all_declared_words : (objects : List c.Object) (shift k : ℕ) → ObjectsWords objects → ObjectsCounted plan.bounds objects → AllHaveWords (all_declared plan objects shift k)
  all_declared_words [] shift k h n = tt
  all_declared_words (c.Declared object shape initial at ∷ rest) shift k h n =
      joined_words (initialised plan (home_of plan.homes object) initial shift k) (all_declared plan rest shift k) (initialised_words (home_of plan.homes object) initial shift k h.0 n.0) (all_declared_words rest shift k h.1 n.1)

  declared_words : (declaration : c.Declaration) (shift k : ℕ) → DeclarationWords declaration → DeclarationCounted plan.bounds declaration → AllHaveWords (declared plan declaration shift k)
  declared_words (c.Objects specifiers objects at) shift k h n = all_declared_words objects shift k h n
  declared_words (c.Prototype specifiers name params at) shift k h n = tt

  started_words : (start : c.ForStart) (k : ℕ) → StartWords start → StartCounted plan.bounds start → AllHaveWords (started plan start k)
  started_words c.NoStart k h n = tt
  started_words (c.StartValue e) k h n = (made_words plan.homes Effect e k h).code
  started_words (c.StartDeclaration declaration) k h n = declared_words declaration 1 k h n

  tested_words : (test : Option c.Expr) (k : ℕ) → OptionWords test → AllHaveWords (tested plan test k)
  tested_words None k h = tt
  tested_words (Some e) k h = leaving_words (is_always e) (made plan.homes (Unless 0) e k).code (made_words plan.homes (Unless 0) e k h).code

  stepped_words : (step : Option c.Expr) (k : ℕ) → OptionWords step → AllHaveWords (stepped plan step k)
  stepped_words None k h = tt
  stepped_words (Some e) k h = (made_words plan.homes Effect e k h).code

  returned_words : (value : Option c.Expr) (k : ℕ) → OptionWords value → AllHaveWords (returned plan value k)
  returned_words None k h = (zero_small, tt)
  returned_words (Some e) k h =
      let p = made plan.homes Value e k in
      let w = made_words plan.homes Value e k h in
      joined_words p.code (alone (Return p.value)) w.code (w.value, tt)

  for_words : (number : ℕ) (bound : Option Pragma) (start : c.ForStart) (test step : Option c.Expr) (body : c.Statement) (at k : ℕ) (exits : Exits) → StartWords start → OptionWords test → OptionWords step → StartCounted plan.bounds start → ((inner : Exits) → AllHaveWords (planned plan body k inner)) →
      AllHaveWords (planned plan (c.For number bound start test step body at) k exits)
  for_words number bound start test step body at k exits s t u n code =
      let round = round_of body (planned plan body k) in
      let turns = joined (tested plan test k) (joined round (stepped plan step k)) in
      joined_words (started plan start k) (looped (number - 1 + loops_before start) (starts (c.For number bound start test step body at) (bounds_at plan.bounds number)) turns) (started_words start k s n)
      (joined_words (tested plan test k) (joined round (stepped plan step k)) (tested_words test k t) (joined_words round (stepped plan step k) (round_words body (planned plan body k) code) (stepped_words step k u)), tt)

  mutual
    statement_words : (s : c.Statement) (k : ℕ) (exits : Exits) → StatementWords s → StatementCounted plan.bounds s → AllHaveWords (planned plan s k exits)
    statement_words (c.Block items at) k exits h n = items_words items k exits h n
    statement_words (c.Empty at) k exits h n = tt
    statement_words (c.Evaluate e at) k exits h n = (made_words plan.homes Effect e k h).code
    statement_words (c.Marker number pragma) k exits h n = (tt, tt)
    statement_words (c.If test first at) k exits h n =
        chosen_if_words (is_joint test) (made plan.homes Value test k) (made plan.homes (Unless 0) test k).code (planned plan first k exits) (planned plan first k (deeper exits))
        (made_words plan.homes Value test k h.0) (made_words plan.homes (Unless 0) test k h.0).code (statement_words first k exits h.1 n) (statement_words first k (deeper exits) h.1 n)
    statement_words (c.IfElse test first second at) k exits h n =
        chosen_else_words (is_joint test) (made plan.homes Value test k) (made plan.homes (Unless 0) test k).code (planned plan first k exits) (planned plan second k exits) (planned plan first k (deeper (deeper exits))) (planned plan second k (deeper exits))
        (made_words plan.homes Value test k h.0) (made_words plan.homes (Unless 0) test k h.0).code (statement_words first k exits h.1 n.0) (statement_words second k exits h.2 n.1)
        (statement_words first k (deeper (deeper exits)) h.1 n.0) (statement_words second k (deeper exits) h.2 n.1)
    statement_words (c.While number bound test body at) k exits h n =
        (joined_words (tested plan (Some test) k) (round_of body (planned plan body k)) (tested_words (Some test) k h.0) (round_words body (planned plan body k) (λ inner. statement_words body k inner h.1 n)), tt)
    statement_words (c.Do number bound body test at) k exits h n =
        (joined_words (round_of body (planned plan body k)) (made plan.homes (Unless 0) test k).code (round_words body (planned plan body k) (λ inner. statement_words body k inner h.0 n)) (made_words plan.homes (Unless 0) test k h.1).code, tt)
    statement_words (c.For number bound start test step body at) k exits h n =
        for_words number bound start test step body at k exits h.0 h.1 h.2 n.0 (λ inner. statement_words body k inner h.3 n.1)
    statement_words (c.Switch test items at) k exits h n =
        let p = made plan.homes Value test k in
        let word = firm k p End in
        let w = firm_words k p End (made_words plan.homes Value test k h.0) tt in
        switched_words word (k + 1) (default_number items 1) (label_tests word.value (k + 1) items 1) (parts_planned plan items (k + 1) 1 (k + 2) (in_switch exits)) w (default_small items 1 n.0) (tests_words word.value (k + 1) items 1 w.value h.1 n.0)
        (parts_words items (k + 1) 1 (k + 2) (in_switch exits) h.1 n.1 n.0)
    statement_words (c.Break at) k exits h n = (tt, tt)
    statement_words (c.Continue at) k exits h n = (tt, tt)
    statement_words (c.Return value at) k exits h n = returned_words value k h

    items_words : (items : c.Items) (k : ℕ) (exits : Exits) → ItemsWords items → ItemsCounted plan.bounds items → AllHaveWords (all_planned plan items k exits)
    items_words c.NoItem k exits h n = tt
    items_words (c.WithDeclaration declaration rest) k exits h n = joined_words (declared plan declaration 0 k) (all_planned plan rest k exits) (declared_words declaration 0 k h.0 n.0) (items_words rest k exits h.1 n.1)
    items_words (c.WithStatement statement rest) k exits h n = joined_words (planned plan statement k exits) (all_planned plan rest k exits) (statement_words statement k exits h.0 n.0) (items_words rest k exits h.1 n.1)
    items_words (c.WithRestriction pragma rest) k exits h n = items_words rest k exits h n
    items_words (c.WithLabel label rest) k exits h n = items_words rest k exits h.1 n

    parts_words : (items : c.Items) (noted number k : ℕ) (exits : Exits) → ItemsWords items → ItemsCounted plan.bounds items → number + label_count items < 2 ^ 32 → PartsWords (parts_planned plan items noted number k exits)
    parts_words c.NoItem noted number k exits h n l = record { before = tt; behind = tt }
    parts_words (c.WithDeclaration declaration rest) noted number k exits h n l =
        and_before_words (declared plan declaration 0 k) (parts_planned plan rest noted number k exits) (declared_words declaration 0 k h.0 n.0) (parts_words rest noted number k exits h.1 n.1 l)
    parts_words (c.WithStatement statement rest) noted number k exits h n l =
        and_before_words (planned plan statement k exits) (parts_planned plan rest noted number k exits) (statement_words statement k exits h.0 n.0) (parts_words rest noted number k exits h.1 n.1 l)
    parts_words (c.WithRestriction pragma rest) noted number k exits h n l = parts_words rest noted number k exits h n l
    parts_words (c.WithLabel label rest) noted number k exits h n l =
        let parts = parts_planned plan rest noted (suc number) k exits in
        let inner = parts_words rest noted (suc number) k exits h.1 n (later number (label_count rest) l) in
        record { before = tt; behind = guarded_words noted number parts.before parts.behind (this number (suc (label_count rest)) l) inner.before inner.behind }

  -- of a function's body
  pub body_words : (items : c.Items) (variables : ℕ) → ItemsWords items → ItemsCounted plan.bounds items → HasWords (body_planned plan items variables)
  body_words items variables h n = (items_words items variables (record { out = 0; next = 0 }) h n, (zero_small, tt))
