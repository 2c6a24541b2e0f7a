-- How often a run may pass a mark.
use Rattle.std.proofs.Common.{◌≡◌, ℕ, zero, suc, ◌+◌, ◌*◌, ◌<◌, ◌≤◌, Bool, true, false, [], ◌∷◌, ◌++◌, length, Some, refl, ap, arith}
use Rattle.std.specs.Prelude.{◌==◌, if◌then◌else◌, slice_get}
use Rattle.std.proofs.Math.Nat.{mul-le-mul_left}
use Rattle.std.proofs.lemmas.Bool.{eq-eqb, eqb-true}
use Rattle.high_ir.specs.Formed.{IsHigh}
use Rattle.high_ir.specs.Runs.{rank_or}
use Rattle.high_ir.specs.Standing.{callees_of, callees_of_all}
use Rattle.high_ir.specs.Tree as high
use Rattle.high_ir.specs.Tree.{Function, Program}
use Rattle.high_ir.specs.Weight as heavy
use Rattle.high_ir.specs.Weight.{reach_of, reach_of_all}
use Rattle.low_ir.specs.Code.{Block, Call, Constant, Do, Note, Return}
use Rattle.low_ir.specs.Effects.{is_member}
use Rattle.low_ir.specs.Room.{called, marks_once, reach, reaches, repeated_in}
use Rattle.lower_definition.specs.Calls.{numbered, order, place_in}
use Rattle.lower_definition.specs.Operators.{Code}
use Rattle.lower_definition.specs.Values.{Scope, first_free}
use Rattle.lower_definition.specs.Statements.{block, call_code}
use Rattle.lower_definition.specs.Programs.{body_piece, lowered, lowered_function, scope_of}
use Rattle.lower_origins.proofs.Visits.{rank_is}
use Rattle.lower_origins.specs.Closed.{listed}
use Rattle.lower_nesting.specs.Blocks.{AllOf}
use Rattle.lower_nesting.proofs.Marks.{of_back, of_front}
use Rattle.lower_budget.specs.Costs.{code_worth}
use Rattle.lower_budget.proofs.Pieces.{Measure, cost, costs, pieces_cost}
use Rattle.lower_budget.proofs.Statements.{call_cost, get_cost, kept_cost, put_cost, return_cost, set_cost, test_cost}
use Rattle.lower_budget.proofs.Sums.{repeats_before, weighted}
use Rattle.lower_budget.proofs.Turned.{most, repeated-turned}
use Rattle.lower_budget.proofs.Weights.{function_inside, of_callees, order_is, placed, table, there}

pub called-append : (w : ℕ → ℕ) (xs ys : Code) → called w (xs ++ ys) ≡ called w xs + called w ys
called-append w [] ys = omega arith
called-append w (Do i ∷ xs) ys = called-append w xs ys
called-append w (Call into f args note ∷ xs) ys = let h = called-append w xs ys in omega (arith, h)

-- code that costs the same whatever calls are worth has none
called_none : (w : ℕ → ℕ) (c : Code) (limit : ℕ) → ((worth : ℕ → ℕ) → code_worth worth c ≤ limit) → called w c ≡ 0
called_none w [] limit h = refl
called_none w (Do i ∷ is) limit h = called_none w is limit (λ worth. let a = h worth in omega (arith, a))
called_none w (Call into f args note ∷ is) limit h = let a = h (λ x. suc limit) in absurd (omega (arith, a))

-- code that costs one call of a function more has no other
pub called_one : (w : ℕ → ℕ) (c : Code) (limit j : ℕ) → ((worth : ℕ → ℕ) → code_worth worth c ≤ limit + worth j) → called w c ≤ w j
called_one w [] limit j h = omega arith
called_one w (Do i ∷ is) limit j h = called_one w is limit j (λ worth. let a = h worth in omega (arith, a))
called_one w (Call into f args note ∷ is) limit j h = by_test (f == j) refl
  where
    by_test : (b : Bool) → (f == j) ≡ b → w f + called w is ≤ w j
    by_test true e =
        let same : f ≡ j = eqb-true f j e in
        let z = called_none w is limit (λ worth. let a = h worth in let k = ap worth same in omega (arith, a, k)) in
        let k = ap w same in
        omega (arith, z, k)
    by_test false e =
        let worth : ℕ → ℕ = λ x. if x == j then 0 else suc limit in
        let a = h worth in
        let at_f : worth f ≡ suc limit = ap (λ b. if b then 0 else suc limit) e in
        let at_j : worth j ≡ 0 = ap (λ b. if b then 0 else suc limit) (eq-eqb j j refl) in
        absurd (omega (arith, a, at_f, at_j))

module _ (w : ℕ → ℕ) (mark : ℕ) (scope : Scope) where
  abbrev pub basic : high.Statement → ℕ
  basic (high.Call g es bs into) = w (place_in scope.order g)
  basic (high.Set x e) = 0
  basic (high.Put e) = 0
  basic (high.Get x) = 0
  basic (high.Keep array i e) = 0
  basic (high.Mark m) = 0
  basic (high.Seq parts) = 0
  basic (high.If test first other) = 0
  basic (high.Loop id least starts body) = 0
  basic (high.Block body) = 0
  basic (high.Leave d) = 0
  basic (high.Return e) = 0

  abbrev pub of_block : Block ℕ Note → ℕ
  of_block b = marks_once b.mark mark + called w b.code

  pub still : (c : Code) (limit : ℕ) → ((worth : ℕ → ℕ) → code_worth worth c ≤ limit) → called w c ≤ 0
  still c limit h = let e = called_none w c limit h in omega (arith, e)

  abbrev pub passes : Measure scope
  passes = record {
    of_block = of_block;
    of_code = called w;
    jump = 0;
    branch = 0;
    return = 0;
    mark = λ m. marks_once (Some m) mark;
    of_statement = basic;
    of_test = λ e. 0;
    joined = λ code k e. let a = called-append w code k.code in omega (arith, a);
    jumping = λ code n. omega arith;
    bare = λ n. omega arith;
    marked = λ m k e. omega arith;
    marked_jump = λ m n. omega arith;
    branching = λ code c x y a b. omega arith;
    returning = λ code x. omega arith;
    set = λ x e t. still _ _ (λ worth. (set_cost worth scope x e t).room);
    put = λ e t. still _ _ (λ worth. (put_cost worth scope e t).room);
    get = λ x t. still _ _ (λ worth. (get_cost worth scope x t).room);
    keep = λ array i e t. still _ _ (λ worth. (kept_cost worth scope array i e t).room);
    call = λ f es bs into t. called_one w (call_code scope f es bs into t).code _ (place_in scope.order f) (λ worth. (call_cost worth scope f es bs into t).room);
    test = λ e t. still _ _ (λ worth. (test_cost worth scope e t).room);
    returned = λ e t. still _ _ (λ worth. (return_cost worth scope e t).0);
  }

  -- the code of a function
  body_reach : (f : ℕ) (body : high.Statement) → of_block (body_piece scope f body).first + weighted most of_block (body_piece scope f body).loops 0 (body_piece scope f body).new ≤ marks_once (Some f) mark + cost most scope passes body
  body_reach f body =
      let h = pieces_cost most scope passes (high.Then (high.Mark f) (high.Then body high.End)) [] 0 (first_free scope) (block [] (Return (Constant 0))) in
      omega (arith, h)

  function_reaches : (f : ℕ) (h : Function) → repeated_in (λ b. marks_once b.mark mark + called w b.code) (Some (lowered_function scope f h)) ≤ marks_once (Some f) mark + cost most scope passes h.body
  function_reaches f h =
      let p = body_piece scope f h.body in
      let last = length p.new in
      let inside = function_inside scope f h in
      let a = repeated-turned of_block of_block last p.loops inside (λ b. refl) (p.first ∷ p.new) 0 (omega arith) in
      let one = repeats_before most 0 last (0 + length p.new) p.loops inside (omega arith) in
      let r = ap (λ x. x * of_block p.first) one in
      let b = body_reach f h.body in
      omega (arith, a, r, b)

  module _ (callee : ℕ → ℕ) where
    abbrev Covered : ℕ → Type 0
    Covered g = w (place_in scope.order g) ≤ callee g

    loop_less : (m c r : ℕ) → c ≤ r → 0 + m * (c + 2 * 0) ≤ m * r
    loop_less m c r h = let a : m * (c + 2 * 0) ≤ m * r = mul-le-mul_left m (omega (arith, h)) in omega (arith, a)

    mutual
      pub cost_reach : (s : high.Statement) → AllOf (λ g. w (place_in scope.order g) ≤ callee g) (callees_of s) → cost most scope passes s ≤ reach_of callee mark s
      cost_reach (high.Set x e) h = omega arith
      cost_reach (high.Put e) h = omega arith
      cost_reach (high.Get x) h = omega arith
      cost_reach (high.Keep array i e) h = omega arith
      cost_reach (high.Mark m) h = omega arith
      cost_reach (high.Seq parts) h = costs_reach parts h
      cost_reach (high.If test first other) h =
          let a = cost_reach first (of_front Covered (callees_of first) (callees_of other) h) in
          let b = cost_reach other (of_back Covered (callees_of first) (callees_of other) h) in
          omega (arith, a, b)
      cost_reach (high.Loop id least starts body) h = loop_less (most starts) (cost most scope passes body) (reach_of callee mark body) (cost_reach body h)
      cost_reach (high.Block body) h = let k = cost_reach body h in omega (arith, k)
      cost_reach (high.Leave d) h = omega arith
      cost_reach (high.Call f values arrays into) h = h.0
      cost_reach (high.Return e) h = omega arith

      costs_reach : (ss : high.Statements) → AllOf (λ g. w (place_in scope.order g) ≤ callee g) (callees_of_all ss) → costs most scope passes ss ≤ reach_of_all callee mark ss
      costs_reach high.End h = omega arith
      costs_reach (high.Then first rest) h =
          let a = cost_reach first (of_front Covered (callees_of first) (callees_of_all rest) h) in
          let b = costs_reach rest (of_back Covered (callees_of first) (callees_of_all rest) h) in
          omega (arith, a, b)

module _ (p : Program) (is_high : IsHigh p) (mark : ℕ) where
  passed : (n f N : ℕ) (h : Function) → is_member (order p) f ≡ true → slice_get p.functions f ≡ Some h → h.rank < N → reaches (lowered p).functions mark n (place_in (order p) f) ≤ heavy.reaches p.functions mark N f
  passed zero f N h m e low = omega arith
  passed (suc n) f zero h m e low = absurd (omega (arith, low))
  passed (suc n) f (suc N) h m e low =
      let low_reaches = reaches (lowered p).functions mark n in
      let high_reaches = heavy.reaches p.functions mark N in
      let s = placed p is_high f h m e in
      let scope = scope_of p (table p is_high) h (numbered s.number (listed (table p is_high) f)) in
      let a = ap (repeated_in (λ b. marks_once b.mark mark + called low_reaches b.code)) s.is in
      let b = function_reaches low_reaches mark scope f h in
      let c = cost_reach low_reaches mark scope high_reaches h.body (of_callees p is_high (λ g. low_reaches (place_in (order p) g) ≤ high_reaches g) f h m e (λ g k m2 e2 lower. passed n g N k m2 e2 (omega (arith, lower, low)))) in
      let d = ap (λ o. heavy.body_reach mark f o high_reaches) e in
      omega (arith, a, b, c, d)

  pub reach_less : reach (lowered p) mark ≤ heavy.reach p mark
  reach_less =
      let order_has = order_is p is_high in
      let m = order_has.main in
      let k = there p is_high p.main m in
      let is = rank_is p.functions p.main 0 k.0 k.1 in
      passed (suc (lowered p).main) p.main (suc (rank_or p.functions p.main 0)) k.0 m k.1 (omega (arith, is))
