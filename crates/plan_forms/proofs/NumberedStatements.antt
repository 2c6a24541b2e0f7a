-- The loops of a statement's code are numbered in their order, from the number of loops before it on.
use Rattle.std.proofs.Common.{◌≡◌, ℕ, suc, ◌+◌, ◌-◌, Bool, true, false, not, List, [], ◌∷◌, ◌++◌, map, Option, Some, None, refl, sym, ap, ◌∙◌, arith}
use Rattle.std.specs.Prelude.{◌||◌}
use Rattle.std.specs.List.{range_with_len}
use Rattle.std.proofs.lemmas.List.{map-append}
use Rattle.facts_definitions.specs.Most.{bounds_at}
use Rattle.facts_definitions.specs.Sites.{count_exprs}
use Rattle.facts_definitions.specs.Starts.{is_always, starts}
use Rattle.facts_definitions.specs.declared.facts.Starts.{Starts}
use Rattle.types_tree.specs.Tree as c
use Rattle.high_ir.specs.declared.expression.BinaryOperator.TheVariants as binary
use Rattle.high_ir.specs.Standing.{Bounded, loops_of, loops_of_all}
use Rattle.high_ir.specs.Tree.{Expr, Constant, Variable, Binary, Set, Seq, If, Block, Leave, Return, Statements, End, Then}
use Rattle.high_code.specs.Code.{joined, alone, nothing}
use Rattle.plan_definition.specs.declared.home.Home.{Home}
use Rattle.plan_definition.specs.declared.home.Home.TheVariants.{Frame, Memory}
use Rattle.plan_definition.specs.declared.purpose.Purpose.{Purpose}
use Rattle.plan_definition.specs.declared.purpose.Purpose.TheVariants.{Value, Effect, Unless}
use Rattle.plan_definition.specs.Homes.{home_of}
use Rattle.plan_definition.specs.Statements.{Exits, Parts, Plan, all_declared, all_planned, and_before, body_planned, chosen_else, chosen_if, continues, declared, deeper, default_number, ends_in_block, filled, fillings_in, fillings_of, guarded, in_loop, in_switch, initialised, label_tests, last_in_block, leaving_unless, listed, loops_before, looped, parts_planned, planned, returned, round_of, rounded, started, stepped, stored_at, tested}
use Rattle.plan_definition.specs.Values.{Valued, chosen, chosen_by_jumps, firm, held, in_block, is_changed, is_joint, is_leaf, is_variable, made}
use Rattle.plan_forms.specs.Numbers.{DeclarationNumbered, InitialNumbered, ItemsNumbered, ObjectsNumbered, StartNumbered, StatementNumbered, declaration_loops, items_loops, statement_loops}
use Rattle.plan_forms.proofs.Free.{no_loops}
use Rattle.plan_forms.proofs.Ids.{Counts, append_nil, counts-joined, counts-same, id_of, ids, ids-joined, ids-then, ids_of, range-append}

ids-nil : (ls : List Bounded) → map id_of (ls ++ []) ≡ map id_of ls
ids-nil ls = map-append id_of ls [] ∙ append_nil (map id_of ls)

-- code without loops before other code, or behind it
before_none : (a b : Statements) → loops_of_all a ≡ [] → ids_of (joined a b) ≡ ids_of b
before_none a b none = ids-joined a b ∙ ap (λ ls. map id_of ls ++ ids_of b) none

behind_none : (a b : Statements) → loops_of_all b ≡ [] → ids_of (joined a b) ≡ ids_of a
behind_none a b none = ids-joined a b ∙ (ap (λ ls. ids_of a ++ map id_of ls) none ∙ append_nil (ids_of a))

-- the fillings of declared objects
stored_none : (home : Home) (index value : Expr) (rest : Statements) → loops_of_all (Then (stored_at home index value) rest) ≡ loops_of_all rest
stored_none (Frame x) index value rest = refl
stored_none (Memory array) index value rest = refl

filled_ids : (home : Home) (id from count k : ℕ) → ids_of (filled home id from count k) ≡ id ∷ []
filled_ids (Frame x) id from count k = refl
filled_ids (Memory array) id from count k = refl

-- branches
chosen_ids : (test : Valued) (first other : Statements) → loops_of_all test.code ≡ [] → ids_of (chosen test first other) ≡ ids_of first ++ ids_of other
chosen_ids test first other none =
    before_none test.code (alone (If test.value (Seq first) (Seq other))) none
    ∙ (ids-nil (loops_of_all first ++ loops_of_all other) ∙ map-append id_of (loops_of_all first) (loops_of_all other))

block_ids : (code : Statements) → ids_of (in_block code) ≡ ids_of code
block_ids code = ids-nil (loops_of_all code)

jumps_ids : (jumps first other : Statements) → loops_of_all jumps ≡ [] → ids_of (chosen_by_jumps jumps first other) ≡ ids_of first ++ ids_of other
jumps_ids jumps first other none =
    let inner = joined jumps (joined first (alone (Leave 1))) in
    block_ids (Then (Block (Seq inner)) other)
    ∙ (ids-then (Block (Seq inner)) other
    ∙ ap (λ l. l ++ ids_of other) (before_none jumps (joined first (alone (Leave 1))) none ∙ behind_none first (alone (Leave 1)) refl))

if_counts : (joint : Bool) (test : Valued) (jumps first within : Statements) (from n : ℕ) → loops_of_all test.code ≡ [] → loops_of_all jumps ≡ [] → Counts first from n → Counts within from n → Counts (chosen_if joint test jumps first within) from n
if_counts false test jumps first within from n t j f w = chosen_ids test first End t ∙ (append_nil (ids_of first) ∙ f)
if_counts true test jumps first within from n t j f w = block_ids (joined jumps within) ∙ (before_none jumps within j ∙ w)

else_counts : (joint : Bool) (test : Valued) (jumps first other first_within other_within : Statements) (from m n : ℕ) → loops_of_all test.code ≡ [] → loops_of_all jumps ≡ [] → Counts first from m → Counts other (from + m) n → Counts first_within from m → Counts other_within (from + m) n →
    Counts (chosen_else joint test jumps first other first_within other_within) from (m + n)
else_counts false test jumps first other fw ow from m n t j f o f1 o1 =
    chosen_ids test first other t ∙ (ap (λ l. l ++ ids_of other) f ∙ (ap (λ l. range_with_len from m ++ l) o ∙ sym (range-append from m n)))
else_counts true test jumps first other fw ow from m n t j f o f1 o1 =
    jumps_ids jumps fw ow j ∙ (ap (λ l. l ++ ids_of ow) f1 ∙ (ap (λ l. range_with_len from m ++ l) o1 ∙ sym (range-append from m n)))

-- loops
last_ids : (code : Statements) → ids_of (last_in_block code) ≡ ids_of code
last_ids End = refl
last_ids (Then first End) = refl
last_ids (Then first (Then second rest)) =
    ids-then first (last_in_block (Then second rest)) ∙ (ap (λ l. ids first ++ l) (last_ids (Then second rest)) ∙ sym (ids-then first (Then second rest)))

rounded_ids : (again ends : Bool) (code : Statements) → ids_of (rounded again ends code) ≡ ids_of code
rounded_ids false ends code = refl
rounded_ids true false code = block_ids code
rounded_ids true true code = last_ids code

round_counts : (body : c.Statement) (code : Exits → Statements) (from n : ℕ) → ((exits : Exits) → Counts (code exits) from n) → Counts (round_of body code) from n
round_counts body code from n h = rounded_ids (continues body) (ends_in_block body) (code (in_loop (continues body))) ∙ h (in_loop (continues body))

looped_counts : (id from n : ℕ) (bounds : Starts) (round : Statements) → id ≡ from → Counts round (from + 1) n → Counts (looped id bounds round) from (1 + n)
looped_counts id from n bounds round e h =
    ap (λ l. id ∷ l) (ids-nil (loops_of_all round) ∙ h) ∙ (ap (λ x. x ∷ range_with_len (from + 1) n) e ∙ ap (λ m. range_with_len from m) (one_more n))
  where
    one_more : (n : ℕ) → suc n ≡ 1 + n
    one_more n = omega arith

leaving_none : (always : Bool) (jumps : Statements) → loops_of_all jumps ≡ [] → loops_of_all (leaving_unless always jumps) ≡ []
leaving_none true jumps none = refl
leaving_none false jumps none = none

-- a switch
tests_ids : (word : Expr) (noted : ℕ) (items : c.Items) (number : ℕ) → ids_of (label_tests word noted items number) ≡ []
tests_ids word noted c.NoItem number = refl
tests_ids word noted (c.WithDeclaration declaration rest) number = tests_ids word noted rest number
tests_ids word noted (c.WithStatement statement rest) number = tests_ids word noted rest number
tests_ids word noted (c.WithRestriction pragma rest) number = tests_ids word noted rest number
tests_ids word noted (c.WithLabel (c.Case value own at) rest) number =
    behind_none (label_tests word noted rest (suc number)) (alone (If (Binary binary.Equal word (Constant own)) (Set noted (Constant number)) nothing)) refl ∙ tests_ids word noted rest (suc number)
tests_ids word noted (c.WithLabel (c.Default at) rest) number = tests_ids word noted rest (suc number)

guarded_ids : (noted number : ℕ) (before behind : Statements) → ids_of (guarded noted number before behind) ≡ ids_of before ++ ids_of behind
guarded_ids noted number End behind = refl
guarded_ids noted number (Then first rest) behind =
    ids-then (If (Binary binary.AtLeastUnsigned (Constant number) (Variable noted)) (Seq (Then first rest)) nothing) behind
    ∙ ap (λ l. l ++ ids_of behind) (ids-nil (loops_of_all (Then first rest)))

held_none : (needed : Bool) (k : ℕ) (p : Valued) → loops_of_all p.code ≡ [] → loops_of_all (held needed k p End).code ≡ []
held_none false k p none = plain p.code none
  where
    plain : (code : Statements) → loops_of_all code ≡ [] → loops_of_all (joined code End) ≡ []
    plain End h = refl
    plain (Then first rest) h = parts (loops_of first) (loops_of_all rest) (loops_of_all (joined rest End)) h (plain rest)
      where
        parts : (xs ys zs : List Bounded) → xs ++ ys ≡ [] → (ys ≡ [] → zs ≡ []) → xs ++ zs ≡ []
        parts [] ys zs h f = f h
        parts (x ∷ xs) ys zs h f = absurd (cons_nil x (xs ++ ys) h)
          where
            cons_nil : (x : Bounded) (xs : List Bounded) → x ∷ xs ≡ [] → ⊥
            cons_nil x xs e = cc e
held_none true k p none = with_set p.code none
  where
    with_set : (code : Statements) → loops_of_all code ≡ [] → loops_of_all (joined code (alone (Set k p.value))) ≡ []
    with_set End h = refl
    with_set (Then first rest) h = parts (loops_of first) (loops_of_all rest) (loops_of_all (joined rest (alone (Set k p.value)))) h (with_set rest)
      where
        parts : (xs ys zs : List Bounded) → xs ++ ys ≡ [] → (ys ≡ [] → zs ≡ []) → xs ++ zs ≡ []
        parts [] ys zs h f = f h
        parts (x ∷ xs) ys zs h f = absurd (cons_nil x (xs ++ ys) h)
          where
            cons_nil : (x : Bounded) (xs : List Bounded) → x ∷ xs ≡ [] → ⊥
            cons_nil x xs e = cc e

-- the parts of a switch: those before its labels, and those behind them
abbrev pub PartsCount : Parts → (from loops : ℕ) → Type 0
PartsCount parts from loops = ids_of parts.before ++ ids_of parts.behind ≡ range_with_len from loops

assoc : (xs ys zs : List ℕ) → (xs ++ ys) ++ zs ≡ xs ++ (ys ++ zs)
assoc [] ys zs = refl
assoc (x ∷ xs) ys zs = ap (λ l. x ∷ l) (assoc xs ys zs)

parts_before : (code : Statements) (parts : Parts) (from m n : ℕ) → Counts code from m → PartsCount parts (from + m) n → PartsCount (and_before code parts) from (m + n)
parts_before code parts from m n h p =
    ap (λ l. l ++ ids_of parts.behind) (ids-joined code parts.before)
    ∙ (assoc (ids_of code) (ids_of parts.before) (ids_of parts.behind)
    ∙ (ap (λ l. l ++ (ids_of parts.before ++ ids_of parts.behind)) h
    ∙ (ap (λ l. range_with_len from m ++ l) p ∙ sym (range-append from m n))))

module _ (plan : Plan) where
  made_before : (purpose : Purpose) (e : c.Expr) (k : ℕ) (rest : Statements) → ids_of (joined (made plan.homes purpose e k).code rest) ≡ ids_of rest
  made_before purpose e k rest = before_none (made plan.homes purpose e k).code rest (no_loops plan.homes purpose e k)

  listed_ids : (home : Home) (es : c.Exprs) (index k : ℕ) → ids_of (listed plan home es index k) ≡ []
  listed_ids home c.NoExpr index k = refl
  listed_ids home (c.WithExpr e rest) index k =
      let p = made plan.homes Value e k in
      let others = listed plan home rest (index + 1) k in
      made_before Value e k (Then (stored_at home (Constant index) p.value) others)
      ∙ (ap (λ ls. map id_of ls) (stored_none home (Constant index) p.value others) ∙ listed_ids home rest (index + 1) k)

  initial_counts : (home : Home) (initial : c.Initial) (shift k before from : ℕ) → before ≡ from + shift → InitialNumbered before initial → Counts (initialised plan home initial shift k) from (fillings_of initial)
  initial_counts home c.Absent shift k before from e h = refl
  initial_counts home (c.Value value) shift k before from e h =
      let p = made plan.homes Value value k in
      made_before Value value k (alone (stored_at home (Constant 0) p.value)) ∙ ap (λ ls. map id_of ls) (stored_none home (Constant 0) p.value End)
  initial_counts home (c.Listed es comma None) shift k before from e h = behind_none (listed plan home es 0 k) End refl ∙ listed_ids home es 0 k
  initial_counts home (c.Listed es comma (Some number)) shift k before from e h =
      let fill = filled home (number - 1 - shift) (count_exprs es) (bounds_at plan.bounds number).max k in
      ids-joined (listed plan home es 0 k) fill
      ∙ (ap (λ l. l ++ ids_of fill) (listed_ids home es 0 k)
      ∙ (filled_ids home (number - 1 - shift) (count_exprs es) (bounds_at plan.bounds number).max k ∙ ap (λ x. x ∷ []) (own number shift before from e h)))
    where
      own : (number shift before from : ℕ) → before ≡ from + shift → number ≡ before + 1 → number - 1 - shift ≡ from
      own number shift before from e h = omega (arith, e, h)

  objects_count : (objects : List c.Object) (shift k before from : ℕ) → before ≡ from + shift → ObjectsNumbered before objects → Counts (all_declared plan objects shift k) from (fillings_in objects)
  objects_count [] shift k before from e h = refl
  objects_count (c.Declared object shape initial at ∷ rest) shift k before from e h =
      let home = home_of plan.homes object in
      counts-joined (initialised plan home initial shift k) (all_declared plan rest shift k) from (fillings_of initial) (fillings_in rest)
      (initial_counts home initial shift k before from e h.0)
      (objects_count rest shift k (before + fillings_of initial) (from + fillings_of initial) (moved before from shift (fillings_of initial) e) h.1)
    where
      moved : (a b s m : ℕ) → a ≡ b + s → a + m ≡ b + m + s
      moved a b s m e = omega (arith, e)

  declaration_counts : (declaration : c.Declaration) (k from : ℕ) → DeclarationNumbered from declaration → Counts (declared plan declaration 0 k) from (declaration_loops declaration)
  declaration_counts (c.Objects specifiers objects at) k from h = objects_count objects 0 k from from (none from) h
    where
      none : (n : ℕ) → n ≡ n + 0
      none n = omega arith
  declaration_counts (c.Prototype specifiers name params at) k from h = refl

  -- the fillings in the head of a `for` stand before its loop
  start_counts : (start : c.ForStart) (k from : ℕ) → StartNumbered (from + 1) start → Counts (started plan start k) from (loops_before start)
  start_counts c.NoStart k from h = refl
  start_counts (c.StartValue e) k from h = ap (λ ls. map id_of ls) (no_loops plan.homes Effect e k)
  start_counts (c.StartDeclaration (c.Objects specifiers objects at)) k from h = objects_count objects 1 k (from + 1) from refl h
  start_counts (c.StartDeclaration (c.Prototype specifiers name params at)) k from h = refl

  tested_none : (test : Option c.Expr) (k : ℕ) → loops_of_all (tested plan test k) ≡ []
  tested_none None k = refl
  tested_none (Some e) k = leaving_none (is_always e) (made plan.homes (Unless 0) e k).code (no_loops plan.homes (Unless 0) e k)

  stepped_none : (step : Option c.Expr) (k : ℕ) → loops_of_all (stepped plan step k) ≡ []
  stepped_none None k = refl
  stepped_none (Some e) k = no_loops plan.homes Effect e k

  returned_ids : (value : Option c.Expr) (k : ℕ) → ids_of (returned plan value k) ≡ []
  returned_ids None k = refl
  returned_ids (Some e) k = made_before Value e k (alone (Return (made plan.homes Value e k).value))

  word_none : (test : c.Expr) (k : ℕ) → loops_of_all (firm k (made plan.homes Value test k) End).code ≡ []
  word_none test k =
      let p = made plan.homes Value test k in
      held_none (not (is_leaf p.value) || (is_changed p.value End || is_variable (k + 1) p.value)) k p (no_loops plan.homes Value test k)

  switch_counts : (test : c.Expr) (items : c.Items) (k : ℕ) (exits : Exits) (from n : ℕ) → PartsCount (parts_planned plan items (k + 1) 1 (k + 2) (in_switch exits)) from n → Counts (planned plan (c.Switch test items 0) k exits) from n
  switch_counts test items k exits from n h =
      let word = firm k (made plan.homes Value test k) End in
      let parts = parts_planned plan items (k + 1) 1 (k + 2) (in_switch exits) in
      let tests = label_tests word.value (k + 1) items 1 in
      let block = in_block (guarded (k + 1) 0 parts.before parts.behind) in
      before_none word.code (Then (Set (k + 1) (Constant (default_number items 1))) (joined tests block)) (word_none test k)
      ∙ (ids-joined tests block
      ∙ (ap (λ l. l ++ ids_of block) (tests_ids word.value (k + 1) items 1)
      ∙ (block_ids (guarded (k + 1) 0 parts.before parts.behind)
      ∙ (guarded_ids (k + 1) 0 parts.before parts.behind ∙ h))))

  mutual
    pub statement_counts : (s : c.Statement) (k : ℕ) (exits : Exits) (from : ℕ) → StatementNumbered from s → Counts (planned plan s k exits) from (statement_loops s)
    statement_counts (c.Block items at) k exits from h = items_count items k exits from h
    statement_counts (c.Empty at) k exits from h = refl
    statement_counts (c.Evaluate e at) k exits from h = ap (λ ls. map id_of ls) (no_loops plan.homes Effect e k)
    statement_counts (c.Marker number pragma) k exits from h = refl
    statement_counts (c.If test first at) k exits from h =
        if_counts (is_joint test) (made plan.homes Value test k) (made plan.homes (Unless 0) test k).code (planned plan first k exits) (planned plan first k (deeper exits)) from (statement_loops first)
        (no_loops plan.homes Value test k) (no_loops plan.homes (Unless 0) test k) (statement_counts first k exits from h) (statement_counts first k (deeper exits) from h)
    statement_counts (c.IfElse test first second at) k exits from h =
        else_counts (is_joint test) (made plan.homes Value test k) (made plan.homes (Unless 0) test k).code (planned plan first k exits) (planned plan second k exits) (planned plan first k (deeper (deeper exits))) (planned plan second k (deeper exits)) from (statement_loops first) (statement_loops second)
        (no_loops plan.homes Value test k) (no_loops plan.homes (Unless 0) test k) (statement_counts first k exits from h.0) (statement_counts second k exits (from + statement_loops first) h.1)
        (statement_counts first k (deeper (deeper exits)) from h.0) (statement_counts second k (deeper exits) (from + statement_loops first) h.1)
    statement_counts (c.While number bound test body at) k exits from h =
        let round = round_of body (planned plan body k) in
        looped_counts (number - 1) from (statement_loops body) (starts (c.While number bound test body at) (bounds_at plan.bounds number)) (joined (tested plan (Some test) k) round) (own number from h.0)
        (before_none (tested plan (Some test) k) round (tested_none (Some test) k) ∙ round_counts body (planned plan body k) (from + 1) (statement_loops body) (λ inner. statement_counts body k inner (from + 1) h.1))
      where
        own : (number from : ℕ) → number ≡ from + 1 → number - 1 ≡ from
        own number from e = omega (arith, e)
    statement_counts (c.Do number bound body test at) k exits from h =
        let round = round_of body (planned plan body k) in
        let jumps = (made plan.homes (Unless 0) test k).code in
        looped_counts (number - 1) from (statement_loops body) (starts (c.Do number bound body test at) (bounds_at plan.bounds number)) (joined round jumps) (own number from h.0)
        (behind_none round jumps (no_loops plan.homes (Unless 0) test k) ∙ round_counts body (planned plan body k) (from + 1) (statement_loops body) (λ inner. statement_counts body k inner (from + 1) h.1))
      where
        own : (number from : ℕ) → number ≡ from + 1 → number - 1 ≡ from
        own number from e = omega (arith, e)
    statement_counts (c.For number bound start test step body at) k exits from h =
        let m = loops_before start in
        let n = statement_loops body in
        let round = round_of body (planned plan body k) in
        let turn = joined (tested plan test k) (joined round (stepped plan step k)) in
        let bounds = starts (c.For number bound start test step body at) (bounds_at plan.bounds number) in
        let inner : Counts turn (from + m + 1) n =
        before_none (tested plan test k) (joined round (stepped plan step k)) (tested_none test k)
        ∙ (behind_none round (stepped plan step k) (stepped_none step k)
        ∙ round_counts body (planned plan body k) (from + m + 1) n (λ inner. counts-same (planned plan body k inner) (from + 1 + m) (from + m + 1) n n (behind from m) refl (statement_counts body k inner (from + 1 + m) h.2))) in
        counts-same (joined (started plan start k) (looped (number - 1 + m) bounds turn)) from from (m + (1 + n)) (1 + m + n) refl (all m n)
        (counts-joined (started plan start k) (looped (number - 1 + m) bounds turn) from m (1 + n) (start_counts start k from h.1) (looped_counts (number - 1 + m) (from + m) n bounds turn (own number from m h.0) inner))
      where
        own : (number from m : ℕ) → number ≡ from + 1 → number - 1 + m ≡ from + m
        own number from m e = omega (arith, e)

        behind : (a m : ℕ) → a + 1 + m ≡ a + m + 1
        behind a m = omega arith

        all : (m n : ℕ) → m + (1 + n) ≡ 1 + m + n
        all m n = omega arith
    statement_counts (c.Switch test items at) k exits from h = switch_counts test items k exits from (items_loops items) (parts_count items (k + 1) 1 (k + 2) (in_switch exits) from h)
    statement_counts (c.Break at) k exits from h = refl
    statement_counts (c.Continue at) k exits from h = refl
    statement_counts (c.Return value at) k exits from h = returned_ids value k

    pub items_count : (items : c.Items) (k : ℕ) (exits : Exits) (from : ℕ) → ItemsNumbered from items → Counts (all_planned plan items k exits) from (items_loops items)
    items_count c.NoItem k exits from h = refl
    items_count (c.WithDeclaration declaration rest) k exits from h =
        counts-joined (declared plan declaration 0 k) (all_planned plan rest k exits) from (declaration_loops declaration) (items_loops rest) (declaration_counts declaration k from h.0) (items_count rest k exits (from + declaration_loops declaration) h.1)
    items_count (c.WithStatement statement rest) k exits from h =
        counts-joined (planned plan statement k exits) (all_planned plan rest k exits) from (statement_loops statement) (items_loops rest) (statement_counts statement k exits from h.0) (items_count rest k exits (from + statement_loops statement) h.1)
    items_count (c.WithRestriction pragma rest) k exits from h = items_count rest k exits from h
    items_count (c.WithLabel label rest) k exits from h = items_count rest k exits from h

    parts_count : (items : c.Items) (noted number k : ℕ) (exits : Exits) (from : ℕ) → ItemsNumbered from items → PartsCount (parts_planned plan items noted number k exits) from (items_loops items)
    parts_count c.NoItem noted number k exits from h = refl
    parts_count (c.WithDeclaration declaration rest) noted number k exits from h =
        parts_before (declared plan declaration 0 k) (parts_planned plan rest noted number k exits) from (declaration_loops declaration) (items_loops rest) (declaration_counts declaration k from h.0)
        (parts_count rest noted number k exits (from + declaration_loops declaration) h.1)
    parts_count (c.WithStatement statement rest) noted number k exits from h =
        parts_before (planned plan statement k exits) (parts_planned plan rest noted number k exits) from (statement_loops statement) (items_loops rest) (statement_counts statement k exits from h.0)
        (parts_count rest noted number k exits (from + statement_loops statement) h.1)
    parts_count (c.WithRestriction pragma rest) noted number k exits from h = parts_count rest noted number k exits from h
    parts_count (c.WithLabel label rest) noted number k exits from h =
        let parts = parts_planned plan rest noted (suc number) k exits in
        guarded_ids noted number parts.before parts.behind ∙ parts_count rest noted (suc number) k exits from h

  -- of a function's body
  pub body_counts : (items : c.Items) (variables from : ℕ) → ItemsNumbered from items → ids (body_planned plan items variables) ≡ range_with_len from (items_loops items)
  body_counts items variables from h = ids-nil (loops_of_all (all_planned plan items variables (record { out = 0; next = 0 }))) ∙ items_count items variables (record { out = 0; next = 0 }) from h
