-- The room of blocks as a measure.
use Rattle.std.proofs.Common.{◌≡◌, ℕ, ◌+◌, ◌*◌, ◌≤◌, Bool, true, false, List, [], ◌∷◌, length, map, refl, ap, arith, length-append}
use Rattle.std.specs.Prelude.{if◌then◌else◌, sum_by}
use Rattle.std.proofs.lemmas.List.Sums.{sum_by-cons}
use Rattle.high_ir.specs.Standing.{loops_of, loops_of_all}
use Rattle.high_ir.specs.Tree as high
use Rattle.low_ir.specs.Code.{Block, Call, Constant, Do, End, Jump, Branch, Return, Loop, Note}
use Rattle.low_ir.specs.Room.{block_room, called, end_room, instr_room}
use Rattle.lower_definition.specs.Calls.{place_in}
use Rattle.lower_definition.specs.Operators.{Code}
use Rattle.lower_definition.specs.Values.{Scope, first_free}
use Rattle.lower_definition.specs.Statements.{block}
use Rattle.lower_definition.specs.Programs.{body_piece, turned, turned_end}
use Rattle.lower_budget.specs.Costs.{block_worth, code_worth}
use Rattle.lower_budget.proofs.Amounts.{amount, amounts, amounts_all}
use Rattle.lower_budget.proofs.Operators.{code_worth-append}
use Rattle.lower_budget.proofs.Statements.{call_cost, get_cost, kept_cost, put_cost, return_cost, set_cost, test_cost}
use Rattle.lower_budget.proofs.Sums.{among, repeats, weighted}
use Rattle.lower_budget.proofs.Pieces.{Measure, cost, costs, pieces_cost}

module _ (worth : ℕ → ℕ) (scope : Scope) where
  -- what the code of single statements is worth at most
  abbrev pub basic : high.Statement → ℕ
  basic (high.Set x e) = 16 * (amount scope.shifts e + 1)
  basic (high.Put e) = 16 * (amount scope.shifts e + 1)
  basic (high.Get x) = 16
  basic (high.Keep array i e) = 16 * (amount scope.shifts i + amount scope.shifts e + 1)
  basic (high.Call g es bs into) = 16 * (sum_by (amount scope.shifts) es + length es + length bs + 1) + worth (place_in scope.order g)
  basic (high.Mark m) = 0
  basic (high.Seq parts) = 0
  basic (high.If test first other) = 0
  basic (high.Loop id least most body) = 0
  basic (high.Block body) = 0
  basic (high.Leave d) = 0
  basic (high.Return e) = 0

  abbrev pub rooms : Measure scope
  rooms = record {
    of_block = block_worth worth;
    of_code = code_worth worth;
    jump = 2;
    branch = 9;
    return = 4;
    mark = λ m. 0;
    of_statement = basic;
    of_test = λ e. 16 * amount scope.shifts e;
    joined = λ code k e. let a = code_worth-append worth code k.code in omega (arith, a);
    jumping = λ code n. omega arith;
    bare = λ n. omega arith;
    marked = λ m k e. omega arith;
    marked_jump = λ m n. omega arith;
    branching = λ code c x y a b. omega arith;
    returning = λ code x. omega arith;
    set = λ x e t. let c = set_cost worth scope x e t in let a = c.room in omega (arith, a);
    put = λ e t. let c = put_cost worth scope e t in let a = c.room in omega (arith, a);
    get = λ x t. let c = get_cost worth scope x t in let a = c.room in omega (arith, a);
    keep = λ array i e t. let c = kept_cost worth scope array i e t in let a = c.room in omega (arith, a);
    call = λ f es bs into t. let c = call_cost worth scope f es bs into t in let a = c.room in omega (arith, a);
    test = λ e t. let c = test_cost worth scope e t in c.room;
    returned = λ e t. (return_cost worth scope e t).0;
  }

  -- the code of a function
  pub body_cost : (mult : ℕ → ℕ) (f : ℕ) (body : high.Statement) → block_worth worth (body_piece scope f body).first + weighted mult (block_worth worth) (body_piece scope f body).loops 0 (body_piece scope f body).new ≤ 8 + cost mult scope rooms body
  body_cost mult f body =
      let h = pieces_cost mult scope rooms (high.Then (high.Mark f) (high.Then body high.End)) [] 0 (first_free scope) (block [] (Return (Constant 0))) in
      omega (arith, h)

-- instructions and their calls
pub code_worth-is : (worth : ℕ → ℕ) (c : Code) → code_worth worth c ≡ sum_by instr_room c + called worth c
code_worth-is worth [] = refl
code_worth-is worth (Do i ∷ is) = let h = code_worth-is worth is in let e = sum_by-cons instr_room (Do i) is in omega (arith, h, e)
code_worth-is worth (Call into f args note ∷ is) = let h = code_worth-is worth is in let e = sum_by-cons instr_room (Call into f args note) is in omega (arith, h, e)

pub called_nothing : (c : Code) → called (λ f. 0) c ≡ 0
called_nothing [] = refl
called_nothing (Do i ∷ is) = called_nothing is
called_nothing (Call into f args note ∷ is) = let h = called_nothing is in omega (arith, h)

pub end_same : (last : ℕ) (e : End ℕ) → end_room (turned_end last e) ≡ end_room e
end_same last (Jump b) = refl
end_same last (Branch c x y a b) = refl
end_same last (Return x) = refl

-- each block once, whatever loops it stands in
abbrev pub once : ℕ → ℕ
once m = 1

-- what pays for the code of a statement
module _ (scope : Scope) where
  abbrev nothing : ℕ → ℕ
  nothing f = 0

  abbrev pub plain : Measure scope
  plain = rooms nothing scope

  mutual
    pub cost_few : (s : high.Statement) → cost once scope plain s + 8 * length (loops_of s) ≤ 16 * amounts scope.shifts s
    cost_few (high.Set x e) = omega arith
    cost_few (high.Put e) = omega arith
    cost_few (high.Get x) = omega arith
    cost_few (high.Keep array i e) = omega arith
    cost_few (high.Mark m) = omega arith
    cost_few (high.Seq parts) = let h = costs_few parts in omega (arith, h)
    cost_few (high.If test first other) = let a = cost_few first in let b = cost_few other in let l = length-append (loops_of first) (loops_of other) in omega (arith, a, b, l)
    cost_few (high.Loop id least most body) = let h = cost_few body in omega (arith, h)
    cost_few (high.Block body) = let h = cost_few body in omega (arith, h)
    cost_few (high.Leave d) = omega arith
    cost_few (high.Call f values arrays into) = omega arith
    cost_few (high.Return e) = omega arith

    costs_few : (ss : high.Statements) → costs once scope plain ss + 8 * length (loops_of_all ss) ≤ 16 * amounts_all scope.shifts ss
    costs_few high.End = omega arith
    costs_few (high.Then first rest) = let a = cost_few first in let b = costs_few rest in let l = length-append (loops_of first) (loops_of_all rest) in omega (arith, a, b, l)

  pub repeats_once : (ls : List Loop) (i : ℕ) → repeats once ls i ≡ 1
  repeats_once [] i = refl
  repeats_once (l ∷ ls) i = by_test (among once l i) (repeats_once ls i)
    where
      by_test : (b : Bool) → repeats once ls i ≡ 1 → (if b then 1 else 1) * repeats once ls i ≡ 1
      by_test true h = omega (arith, h)
      by_test false h = omega (arith, h)

  blocks_room : (last : ℕ) (ls : List Loop) (n : ℕ) (bs : List (Block ℕ Note)) → sum_by block_room (map (turned last) bs) ≡ weighted once (block_worth nothing) ls n bs
  blocks_room last ls n [] = refl
  blocks_room last ls n (b ∷ bs) =
      let h = blocks_room last ls n bs in
      let c = sum_by-cons block_room (turned last b) (map (turned last) bs) in
      let w = code_worth-is nothing b.code in
      let z = called_nothing b.code in
      let e = end_same last b.end in
      let r : repeats once ls (n + length bs) * block_worth nothing b ≡ 1 * block_worth nothing b = ap (λ x. x * block_worth nothing b) (repeats_once ls (n + length bs)) in
      omega (arith, h, c, w, z, e, r)

  -- the room of a function's blocks
  pub function_few : (f : ℕ) (h : high.Function) → sum_by block_room (map (turned (length (body_piece scope f h.body).new)) ((body_piece scope f h.body).first ∷ (body_piece scope f h.body).new)) + 8 * length (loops_of h.body) ≤ 16 * (amounts scope.shifts h.body + 1)
  function_few f h =
      let p = body_piece scope f h.body in
      let last = length p.new in
      let a = body_cost nothing scope once f h.body in
      let b = cost_few h.body in
      let e = blocks_room last p.loops 0 (p.first ∷ p.new) in
      let r : repeats once p.loops (0 + length p.new) * block_worth nothing p.first ≡ 1 * block_worth nothing p.first = ap (λ x. x * block_worth nothing p.first) (repeats_once p.loops (0 + length p.new)) in
      omega (arith, a, b, e, r)
