-- How much a run may execute.
use Rattle.std.proofs.Common.{◌≡◌, ℕ, zero, suc, ◌+◌, ◌*◌, ◌<◌, ◌≤◌, true, List, [], ◌∷◌, length, Some, refl, sym, ap, ◌∙◌, arith, length-append}
use Rattle.std.specs.Prelude.{All, slice_get}
use Rattle.std.proofs.Math.Nat.{mul-le-mul_left}
use Rattle.std.proofs.lemmas.List.Elements.{All-head, All-tail}
use Rattle.std.proofs.lemmas.Option.{same_Some}
use Rattle.high_ir.specs.Formed.{IsHigh}
use Rattle.high_ir.specs.Runs.{rank_or}
use Rattle.high_ir.specs.Standing.{callees_of, callees_of_all, loops_of, loops_of_all}
use Rattle.high_ir.specs.Tree as high
use Rattle.high_ir.specs.Tree.{Function, Program}
use Rattle.high_ir.specs.Weight as heavy
use Rattle.high_ir.specs.Weight.{weight_of, weight_of_all}
use Rattle.low_ir.specs.Code.{Block, Note}
use Rattle.low_ir.specs.Effects.{is_member}
use Rattle.low_ir.specs.Room.{block_room, called, repeated_in, weights}
use Rattle.low_ir.specs.Code as code
use Rattle.lower_definition.specs.Calls.{Passed, all_passed, numbered, order, place_in}
use Rattle.lower_definition.specs.Values.{Scope, first_free}
use Rattle.lower_definition.specs.Statements.{block}
use Rattle.lower_definition.specs.Programs.{body_piece, lowered, lowered_function, scope_of, turned}
use Rattle.lower_origins.specs.Orders.{IsOrdered}
use Rattle.lower_origins.proofs.Members.{member_first, member_more}
use Rattle.lower_origins.proofs.Visits.{callee_there, falls, ordered, rank_is}
use Rattle.lower_origins.specs.Closed.{listed}
use Rattle.lower_origins.proofs.Numbering.{all_there, stood}
use Rattle.lower_nesting.specs.Segments.{AllInside}
use Rattle.lower_nesting.specs.Blocks.{AllOf}
use Rattle.lower_nesting.proofs.Loops.{all_loops_inside}
use Rattle.lower_nesting.proofs.Marks.{of_back, of_front}
use Rattle.lower_budget.specs.Costs.{AreSpared, block_worth}
use Rattle.lower_budget.proofs.Amounts.{all_nodes_more, nodes_more}
use Rattle.lower_budget.proofs.Pieces.{cost, costs}
use Rattle.lower_budget.proofs.Programs.{loops_count}
use Rattle.lower_budget.proofs.Rooms.{body_cost, code_worth-is, end_same, rooms}
use Rattle.lower_budget.proofs.Sums.{repeats_before}
use Rattle.lower_budget.proofs.Turned.{most, repeated-turned}

-- what a statement costs, where calls cost at most 64 more than 16 times what they weigh
module _ (scope : Scope) (worth callee : ℕ → ℕ) where
  abbrev Covered : ℕ → Type 0
  Covered g = worth (place_in scope.order g) ≤ 64 + 16 * callee g

  loop_less : (m c l w : ℕ) → 1 ≤ m → c + 8 * l ≤ 16 * w → 2 + m * (c + 2 * 2) + 8 * suc l ≤ 16 * (4 + m * (3 + w))
  loop_less m c l w one h =
      let a : m * (c + 2 * 2 + 8 * l) ≤ m * (16 * w + 48) = mul-le-mul_left m (omega (arith, h)) in
      let b : m * (16 * w + 48) ≡ 16 * (m * (3 + w)) = omega arith in
      let d : m * (c + 2 * 2 + 8 * l) ≡ m * (c + 2 * 2) + 8 * l * m = omega arith in
      let e : 8 * l * 1 ≤ 8 * l * m = mul-le-mul_left (8 * l) one in
      omega (arith, a, b, d, e)

  at_least_one : (starts : ℕ) → 1 ≤ most starts
  at_least_one starts = omega arith

  mutual
    pub cost_light : (s : high.Statement) → AllOf (λ g. worth (place_in scope.order g) ≤ 64 + 16 * callee g) (callees_of s) → cost most scope (rooms worth scope) s + 8 * length (loops_of s) ≤ 16 * weight_of callee s
    cost_light (high.Set x e) h = let k = nodes_more scope.shifts e in omega (arith, k)
    cost_light (high.Put e) h = let k = nodes_more scope.shifts e in omega (arith, k)
    cost_light (high.Get x) h = omega arith
    cost_light (high.Keep array i e) h = let k = nodes_more scope.shifts i in let l = nodes_more scope.shifts e in omega (arith, k, l)
    cost_light (high.Mark m) h = omega arith
    cost_light (high.Seq parts) h = let k = costs_light parts h in omega (arith, k)
    cost_light (high.If test first other) h =
        let a = cost_light first (of_front Covered (callees_of first) (callees_of other) h) in
        let b = cost_light other (of_back Covered (callees_of first) (callees_of other) h) in
        let k = nodes_more scope.shifts test in
        let l = length-append (loops_of first) (loops_of other) in
        omega (arith, a, b, k, l)
    cost_light (high.Loop id least starts body) h = loop_less (most starts) (cost most scope (rooms worth scope) body) (length (loops_of body)) (weight_of callee body) (at_least_one starts) (cost_light body h)
    cost_light (high.Block body) h = let k = cost_light body h in omega (arith, k)
    cost_light (high.Leave d) h = omega arith
    cost_light (high.Call f values arrays into) h = let a = h.0 in let k = all_nodes_more scope.shifts values in omega (arith, a, k)
    cost_light (high.Return e) h = let k = nodes_more scope.shifts e in omega (arith, k)

    costs_light : (ss : high.Statements) → AllOf (λ g. worth (place_in scope.order g) ≤ 64 + 16 * callee g) (callees_of_all ss) → costs most scope (rooms worth scope) ss + 8 * length (loops_of_all ss) ≤ 16 * weight_of_all callee ss
    costs_light high.End h = omega arith
    costs_light (high.Then first rest) h =
        let a = cost_light first (of_front Covered (callees_of first) (callees_of_all rest) h) in
        let b = costs_light rest (of_back Covered (callees_of first) (callees_of_all rest) h) in
        let l = length-append (loops_of first) (loops_of_all rest) in
        omega (arith, a, b, l)

-- a function's blocks, as often as loops start them
pub function_inside : (scope : Scope) (f : ℕ) (h : Function) → AllInside 0 (length (body_piece scope f h.body).new) (body_piece scope f h.body).loops
function_inside scope f h = all_loops_inside scope (high.Then (high.Mark f) (high.Then h.body high.End)) [] 0 (first_free scope) (block [] (code.Return (code.Constant 0)))

function_weighs : (worth : ℕ → ℕ) (scope : Scope) (f : ℕ) (h : Function) → repeated_in (λ b. block_room b + called worth b.code) (Some (lowered_function scope f h)) ≤ 8 + cost most scope (rooms worth scope) h.body
function_weighs worth scope f h =
    let p = body_piece scope f h.body in
    let last = length p.new in
    let inside = function_inside scope f h in
    let W : Block ℕ Note → ℕ = λ b. block_worth worth b in
    let V : Block ℕ Note → ℕ = λ b. block_room b + called worth b.code in
    let same : (b : Block ℕ Note) → V (turned last b) ≡ W b = λ b. let a = code_worth-is worth b.code in let e = end_same last b.end in omega (arith, a, e) in
    let a = repeated-turned W V last p.loops inside same (p.first ∷ p.new) 0 (omega arith) in
    let one = repeats_before most 0 last (0 + length p.new) p.loops inside (omega arith) in
    let r = ap (λ x. x * W p.first) one in
    let b = body_cost worth scope most f h.body in
    omega (arith, a, r, b)

module _ (p : Program) (is_high : IsHigh p) where
  abbrev pub table : Passed
  table = all_passed p

  pub order_is : IsOrdered p
  order_is = ordered p is_high

  pub there : (f : ℕ) → is_member (order p) f ≡ true → (h : Function) × (slice_get p.functions f ≡ Some h)
  there f m = let a = order_is.places f m in (a.function, a.there)

  -- the function of the low program
  pub record Placed (f : ℕ) (h : Function) : Type 0 where
    pub number : ℕ
    pub is : slice_get (lowered p).functions (place_in (order p) f) ≡ Some (lowered_function (scope_of p table h (numbered number (listed table f))) f h)

  pub placed : (f : ℕ) (h : Function) → is_member (order p) f ≡ true → slice_get p.functions f ≡ Some h → Placed f h
  placed f h m e =
      let a = order_is.places f m in
      let s = stood p table (order p) [] 0 (place_in (order p) f) f h (all_there p table (order p) there) refl a.number e in
      record { number = s.number; is = s.function }

  -- a fact on functions of lower rank, for the callees of a function
  pub of_callees : (P : ℕ → Type 0) (f : ℕ) (h : Function) → is_member (order p) f ≡ true → slice_get p.functions f ≡ Some h → ((g : ℕ) (k : Function) → is_member (order p) g ≡ true → slice_get p.functions g ≡ Some k → k.rank < h.rank → P g) → AllOf P (callees_of h.body)
  of_callees P f h m e go =
      let a = order_is.places f m in
      let same : a.function ≡ h = same_Some a.function h (sym a.there ∙ e) in
      rows (callees_of h.body) (λ g c. (a.called g (ap (λ (x : Function). is_member (callees_of x.body) g) same ∙ c)).0) (falls p is_high f h e)
    where
      rows : (gs : List ℕ) → ((g : ℕ) → is_member gs g ≡ true → is_member (order p) g ≡ true) → All (λ g. rank_or p.functions g h.rank < h.rank) gs → AllOf P gs
      rows [] member ranks = tt
      rows (g ∷ gs) member ranks =
          let c = callee_there p.functions g h.rank (All-head (λ g. rank_or p.functions g h.rank < h.rank) g gs ranks) in
          (go g c.function (member g (member_first g gs)) c.there c.lower, rows gs (λ x y. member x (member_more g gs x y)) (All-tail (λ g. rank_or p.functions g h.rank < h.rank) g gs ranks))

  -- functions of which a call may execute somewhat more
  module _ (gs : List (code.Function ℕ Note)) (spared : AreSpared (lowered p).functions gs) where
    weighs : (n f N : ℕ) (h : Function) → is_member (order p) f ≡ true → slice_get p.functions f ≡ Some h → h.rank < N → weights gs n (place_in (order p) f) ≤ 64 + 16 * heavy.weights p.functions N f
    weighs zero f N h m e low = omega arith
    weighs (suc n) f zero h m e low = absurd (omega (arith, low))
    weighs (suc n) f (suc N) h m e low =
        let low_weights = weights gs n in
        let high_weights = heavy.weights p.functions N in
        let s = placed f h m e in
        let scope = scope_of p table h (numbered s.number (listed table f)) in
        let a = spared (place_in (order p) f) (lowered_function scope f h) low_weights s.is in
        let b = function_weighs low_weights scope f h in
        let c = cost_light scope low_weights high_weights h.body (of_callees (λ g. low_weights (place_in (order p) g) ≤ 64 + 16 * high_weights g) f h m e (λ g k m2 e2 lower. weighs n g N k m2 e2 (omega (arith, lower, low)))) in
        let d = ap (λ o. heavy.body_weight o high_weights) e in
        let l = loops_count scope f h in
        omega (arith, a, b, c, d, l)

    pub weight_less : weights gs (suc (lowered p).main) (lowered p).main ≤ 16 * heavy.weight p + 64
    weight_less =
        let m = order_is.main in
        let k = there p.main m in
        let is = rank_is p.functions p.main 0 k.0 k.1 in
        let a = weighs (suc (lowered p).main) p.main (suc (rank_or p.functions p.main 0)) k.0 m k.1 (omega (arith, is)) in
        omega (arith, a)
