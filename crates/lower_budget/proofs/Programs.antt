-- The budgets of programs.
use Rattle.std.proofs.Common.{◌≡◌, ◌≢◌, ℕ, zero, suc, ◌+◌, ◌*◌, ◌≤◌, Bool, true, false, List, [], ◌∷◌, ◌++◌, length, map, Some, refl, sym, ap, ◌∙◌, subst, arith, get_or-set_other, length-append}
use Rattle.std.specs.Prelude.{◌==◌, max, nat_le, if◌then◌else◌, slice_get, slice_index_or, slice_set, sum_by}
use Rattle.std.proofs.lemmas.Bool.Decides.{nat_tests}
use Rattle.std.proofs.lemmas.List.{get_or-map, length-map}
use Rattle.std.proofs.lemmas.List.Sums.{sum_by-cons}
use Rattle.std.proofs.lemmas.Option.{slice_get_within, get_or_from_slice_get}
use Rattle.wcc_base.specs.Budgets.{most_operations}
use Rattle.high_ir.specs.Formed.{IsHigh}
use Rattle.high_ir.specs.Size.{function_nodes, operations, program_nodes, program_operations}
use Rattle.high_ir.specs.Standing.{loops_of}
use Rattle.high_ir.specs.Tree.{Function, Program}
use Rattle.high_ir.specs.Tree as high
use Rattle.low_ir.specs.Effects.{is_member}
use Rattle.low_ir.specs.Room.{function_room, room}
use Rattle.lower_definition.specs.Calls.{Passed, all_passed, claims_among, numbered, order}
use Rattle.lower_definition.specs.Values.{Scope, first_free}
use Rattle.lower_definition.specs.Statements.{block, pieces}
use Rattle.lower_definition.specs.Programs.{is_small, lowered, lowered_function, lowered_functions, lowered_in, scope_of}
use Rattle.low_ir.specs.Code as code
use Rattle.low_ir.specs.Code.{Constant, Return}
use Rattle.lower_origins.specs.Orders.{IsOrdered}
use Rattle.lower_origins.proofs.Members.{member_first}
use Rattle.lower_origins.proofs.Visits.{ordered}
use Rattle.lower_origins.specs.Closed.{listed}
use Rattle.lower_origins.proofs.Numbering.{AllThere, all_there}
use Rattle.lower_nesting.proofs.Free.{marked_free}
use Rattle.lower_budget.proofs.Distinct.{Distinct, order_distinct}
use Rattle.lower_budget.proofs.Amounts.{amounts, statement_few, statement_nodes}
use Rattle.lower_budget.specs.Costs.{bounded, loops_in}
use Rattle.lower_budget.proofs.Loops.{loops_kept}
use Rattle.lower_budget.proofs.Narrow.{pieces_narrow}
use Rattle.lower_budget.proofs.Rooms.{function_few}

pub loops_count : (scope : Scope) (f : ℕ) (h : Function) → length (lowered_function scope f h).loops ≡ length (loops_of h.body)
loops_count scope f h = sym (length-map (lowered_function scope f h).loops bounded) ∙ ap length (loops_kept scope f h)

-- numbers at some places
abbrev pub total : List ℕ → ℕ
total [] = 0
total (w ∷ ws) = w + total ws

abbrev pub total_at : List ℕ → List ℕ → ℕ
total_at ws [] = 0
total_at ws (g ∷ gs) = slice_index_or ws g 0 + total_at ws gs

total-set : (ws : List ℕ) (g : ℕ) → total (slice_set ws g 0) + slice_index_or ws g 0 ≡ total ws
total-set [] g = refl
total-set (w ∷ ws) zero = omega arith
total-set (w ∷ ws) (suc g) = let h = total-set ws g in omega (arith, h)

at_others : (ws : List ℕ) (g : ℕ) (gs : List ℕ) → is_member gs g ≡ false → total_at (slice_set ws g 0) gs ≡ total_at ws gs
at_others ws g [] e = refl
at_others ws g (x ∷ gs) e =
    let other : x ≢ g = λ same. let yes : is_member (x ∷ gs) g ≡ true = subst (λ y. is_member (x ∷ gs) y ≡ true) same (member_first x gs) in let no : false ≡ true = sym e ∙ yes in cc in
    let a = get_or-set_other ws g x 0 0 other in
    let h = at_others ws g gs (rest e) in
    omega (arith, a, h)
  where
    rest : is_member (x ∷ gs) g ≡ false → is_member gs g ≡ false
    rest e = by_test (x == g) e
      where
        by_test : (b : Bool) → (if b then true else is_member gs g) ≡ false → is_member gs g ≡ false
        by_test true k = cc
        by_test false k = k

-- places that differ have no more than all
pub distinct_less : (ws gs : List ℕ) → Distinct gs → total_at ws gs ≤ total ws
distinct_less ws [] h = omega arith
distinct_less ws (g ∷ gs) h =
    let ws2 = slice_set ws g 0 in
    let a = distinct_less ws2 gs h.1 in
    let b = at_others ws g gs h.0 in
    let c = total-set ws g in
    omega (arith, a, b, c)

abbrev measure : Bool → Function → ℕ
measure shifts h = amounts shifts h.body + 1

total-sum : (shifts : Bool) (fs : List Function) → total (map (measure shifts) fs) ≡ sum_by (measure shifts) fs
total-sum shifts [] = refl
total-sum shifts (h ∷ fs) = let a = total-sum shifts fs in let e = sum_by-cons (measure shifts) h fs in omega (arith, a, e)

measures_few : (fs : List Function) → sum_by (measure false) fs ≤ sum_by (λ (f : Function). operations f.body + 1) fs
measures_few [] = omega arith
measures_few (h ∷ fs) =
    let a = measures_few fs in
    let b = statement_few h.body in
    let e = sum_by-cons (measure false) h fs in
    let c = sum_by-cons (λ (f : Function). operations f.body + 1) h fs in
    omega (arith, a, b, e, c)

measures_nodes : (fs : List Function) → sum_by (measure true) fs ≤ 2 * sum_by function_nodes fs
measures_nodes [] = omega arith
measures_nodes (h ∷ fs) =
    let a = measures_nodes fs in
    let b = statement_nodes h.body in
    let e = sum_by-cons (measure true) h fs in
    let c = sum_by-cons function_nodes h fs in
    omega (arith, a, b, e, c)

-- what pays for the code of a program: its operations, or what a program may have at most
pub program_few : (p : Program) → sum_by (measure (is_small p)) p.functions ≤ max (program_operations p) most_operations
unfolding is_small
program_few p = by_test (nat_le (program_nodes p) 49152) refl
  where
    by_test : (b : Bool) → nat_le (program_nodes p) 49152 ≡ b → sum_by (measure b) p.functions ≤ max (program_operations p) most_operations
    by_test false e = let a = measures_few p.functions in omega (arith, a)
    by_test true e = let a = measures_nodes p.functions in let b : program_nodes p ≤ 49152 = grind (arith, nat_tests, e) in omega (arith, a, b)

abbrev single : Function → ℕ
single h = 1

total-ones : (fs : List Function) → total (map single fs) ≡ length fs
total-ones [] = refl
total-ones (h ∷ fs) = let a = total-ones fs in omega (arith, a)

module _ (p : Program) (is_high : IsHigh p) where
  abbrev table : Passed
  table = all_passed p

  order_is : IsOrdered p
  order_is = ordered p is_high

  there : (f : ℕ) → is_member (order p) f ≡ true → (h : Function) × (slice_get p.functions f ≡ Some h)
  there f m = let a = order_is.places f m in (a.function, a.there)

  functions_room : (gs : List ℕ) (n : ℕ) → AllThere p table gs → sum_by function_room (lowered_functions p table n gs) + 8 * loops_in (lowered_functions p table n gs) ≤ 64 * length (lowered_functions p table n gs) + 16 * total_at (map (measure (is_small p)) p.functions) gs
  functions_room [] n all = omega arith
  functions_room (g ∷ gs) n all =
      let h = all.0.0 in
      let e = all.0.1 in
      let m = n + length (claims_among (listed table g)) in
      let rest = lowered_functions p table m gs in
      let scope = scope_of p table h (numbered n (listed table g)) in
      let fn = lowered_function scope g h in
      let same : lowered_functions p table n (g ∷ gs) ≡ fn ∷ rest = ap (λ o. lowered_in p table n g o ++ rest) e in
      let inside = slice_get_within p.functions g h e in
      let w : slice_index_or (map (measure (is_small p)) p.functions) g 0 ≡ measure (is_small p) h = get_or-map (measure (is_small p)) p.functions g h 0 inside ∙ ap (measure (is_small p)) (get_or_from_slice_get p.functions g h h e) in
      let a = functions_room gs m all.1 in
      let b = function_few scope g h in
      let c = sum_by-cons function_room fn rest in
      let d = sum_by-cons (λ (x : code.Function ℕ code.Note). length x.loops) fn rest in
      let l = loops_count scope g h in
      subst (λ fns. sum_by function_room fns + 8 * loops_in fns ≤ 64 * length fns + 16 * total_at (map (measure (is_small p)) p.functions) (g ∷ gs)) (sym same) (omega (arith, a, b, c, d, l, w))

  functions_there : (gs : List ℕ) (n : ℕ) → AllThere p table gs → length (lowered_functions p table n gs) ≡ total_at (map single p.functions) gs
  functions_there [] n all = refl
  functions_there (g ∷ gs) n all =
      let h = all.0.0 in
      let e = all.0.1 in
      let m = n + length (claims_among (listed table g)) in
      let same = ap (λ o. length (lowered_in p table n g o ++ lowered_functions p table m gs)) e in
      let inside = slice_get_within p.functions g h e in
      let one : slice_index_or (map single p.functions) g 0 ≡ 1 = get_or-map single p.functions g h 0 inside in
      let rest = functions_there gs m all.1 in
      omega (arith, same, one, rest)

  pub functions_few : length (lowered p).functions ≤ length p.functions
  functions_few =
      let a = functions_there (order p) 0 (all_there p table (order p) there) in
      let b = distinct_less (map single p.functions) (order p) (order_distinct p is_high) in
      let c = total-ones p.functions in
      omega (arith, a, b, c)

  pub room_few : room (lowered p) + 8 * loops_in (lowered p).functions ≤ 16 * max (program_operations p) most_operations + 64 * length (lowered p).functions
  room_few =
      let a = functions_room (order p) 0 (all_there p table (order p) there) in
      let b = distinct_less (map (measure (is_small p)) p.functions) (order p) (order_distinct p is_high) in
      let c = total-sum (is_small p) p.functions in
      let d = program_few p in
      omega (arith, a, b, c, d)

pub registers_few : (scope : Scope) (f : ℕ) (h : Function) → (lowered_function scope f h).size + 2 * length (lowered_function scope f h).loops ≤ first_free scope + 2 * operations h.body
registers_few scope f h =
    let behind = block [] (Return (Constant 0)) in
    let r = pieces scope (high.Then h.body high.End) [] 0 (first_free scope) behind in
    let a = pieces_narrow scope (high.Then h.body high.End) [] 0 (first_free scope) behind in
    let b = marked_free r.first.mark f (0 + length r.new) r.first r.free in
    let l = loops_count scope f h in
    let e = length-append (loops_of h.body) [] in
    omega (arith, a, b, l, e)
