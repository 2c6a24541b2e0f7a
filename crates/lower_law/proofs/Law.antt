-- The low program of a program keeps it with words in registers too.
use Rattle.std.proofs.Common.{◌≡◌, ℕ, suc, ◌+◌, ◌≤◌, List, [], ◌∷◌, ◌++◌, length, map, Option, Some, None, refl, sym, ap, ◌∙◌, subst, ⊎_elim, inl, inr, arith}
use Rattle.std.specs.Prelude.{All, ◌*◌, ◌^◌, option_to_list, slice_get, sum_by}
use Rattle.std.proofs.Math.Nat.{le-max_left}
use Rattle.std.proofs.lemmas.List.Concat.{flat_map-cons}
use Rattle.std.proofs.lemmas.List.Elements.{All-append, All-nil, All-weaker}
use Rattle.std.proofs.lemmas.List.Sums.{sum_by-cons}
use Rattle.std.proofs.lemmas.Option.{same_Some}
use Rattle.high_ir.specs.Formed.{IsHigh}
use Rattle.high_ir.specs.Runs.{Run, hrun}
use Rattle.high_ir.specs.Size.{operations}
use Rattle.high_ir.specs.Tree as high
use Rattle.high_ir.specs.Weight.{weight as high_weight}
use Rattle.low_ir.specs.Code.{Address, Base, Block, Fixed, Function, Instr, Low, Note, Through}
use Rattle.low_ir.specs.declared.run.Began.{Began}
use Rattle.low_ir.specs.Formed.{addresses, opening}
use Rattle.low_ir.specs.Places.{assignment, in_slots}
use Rattle.low_ir.specs.Turns.{mark_at, marks_passed}
use Rattle.low_ir.proofs.InSlots.{slots_assigned}
use Rattle.register_places.proofs.Follow.{carried as placed_carried}
use Rattle.register_places.proofs.Ways.{all_safe}
use Rattle.pass_constant_hoisting.specs.Holding.{fills, held_block, held_function, held_functions, held_instr, held_program, holding, opened, words_at, words_in}
use Rattle.pass_constant_hoisting.proofs.Follow.{carried}
use Rattle.pass_constant_hoisting.proofs.Tables.{held_at, of_function}
use Rattle.pass_constant_hoisting.proofs.Formed.{block_mark, blocks_all, code_all, fills_all, formed, length_held, mark_same}
use Rattle.pass_constant_hoisting.proofs.Instructions.{addresses_held}
use Rattle.pass_constant_hoisting.proofs.Costs.{loops_held, reach_held, rooms_held, spared_held, words_few}
use Rattle.lower_definition.specs.Values.{Scope}
use Rattle.lower_definition.specs.Programs.{lowered, lowered_function}
use Rattle.lower_budget.proofs.FormedPrograms.{is_low}
use Rattle.lower_program.specs.Kept.{IsKept}
use Rattle.lower_program.proofs.Programs.{kept}
use Rattle.lower_budget.specs.Costs.{marks_at}
use Rattle.lower_budget.proofs.Loops.{marks_few}
use Rattle.lower_budget.proofs.Programs.{room_few}
use Rattle.lower_budget.proofs.Reaches.{reach_less}
use Rattle.lower_budget.proofs.Weights.{weight_less}
use Rattle.lower_law.specs.Arrays.{IsAccess, IsOfOne, IsOfParameter}
use Rattle.lower_law.specs.Functions.{AccessesOf, ComesFrom, registers_of}
use Rattle.lower_law.specs.Programs.{KeepsProgram, SparesRegisters}
use Rattle.lower_law.proofs.Functions.{functions_come, main_there, marks_less, reached_there}
use Rattle.lower_law.proofs.Totals.{arrays_same, loops_few, total_less}

-- the marks that a run passes
marks_same : (wss : List (List ℕ)) (q : Low) (trace : List Began) → marks_passed (held_program wss q) trace ≡ marks_passed q trace
marks_same wss q [] = refl
marks_same wss q (e ∷ es) =
    let r = held_program wss q in
    flat_map-cons (λ (x : Began). option_to_list (mark_at r x)) e es
    ∙ ap (λ o. option_to_list o ++ marks_passed r es) (mark_same wss q e.function e.block)
    ∙ ap (λ xs. option_to_list (mark_at q e) ++ xs) (marks_same wss q es)
    ∙ sym (flat_map-cons (λ (x : Began). option_to_list (mark_at q x)) e es)

runs_held : (wss : List (List ℕ)) (q : Low) (input : List ℕ) (o : Option Run) → IsKept q input o → IsKept (held_program wss q) input o
runs_held wss q input None h = tt
runs_held wss q input (Some r) h =
    let a = carried wss q input h.steps r.value h.world h.good in
    record { steps = a.steps; world = h.world; good = a.good; output = h.output; marks = marks_same wss q h.world.trace ∙ h.marks }

-- the places of marks
marks_rest : (n : ℕ) (ws : List ℕ) (bs : List (Block ℕ Note)) → sum_by marks_at (map (held_block n ws) bs) ≡ sum_by marks_at bs
marks_rest n ws [] = refl
marks_rest n ws (b ∷ bs) =
    let h = marks_rest n ws bs in
    let a = sum_by-cons marks_at (held_block n ws b) (map (held_block n ws) bs) in
    let c = sum_by-cons marks_at b bs in
    omega (arith, h, a, c)

marks_opened : (n : ℕ) (ws : List ℕ) (bs : List (Block ℕ Note)) → sum_by marks_at (opened (fills n ws) (map (held_block n ws) bs)) ≡ sum_by marks_at bs
marks_opened n ws [] = refl
marks_opened n ws (b ∷ bs) =
    let h = marks_rest n ws bs in
    let a = sum_by-cons marks_at (held_at n ws 0 b) (map (held_block n ws) bs) in
    let c = sum_by-cons marks_at b bs in
    omega (arith, h, a, c)

all_marks : (wss : List (List ℕ)) (k : ℕ) (fns : List (Function ℕ Note)) → sum_by (λ (fn : Function ℕ Note). sum_by marks_at fn.blocks) (held_functions wss k fns) ≡ sum_by (λ (fn : Function ℕ Note). sum_by marks_at fn.blocks) fns
all_marks wss k [] = refl
all_marks wss k (fn ∷ fns) =
    let own : Function ℕ Note → ℕ = λ x. sum_by marks_at x.blocks in
    let ws = words_in (words_at wss k) fn in
    let h = all_marks wss (suc k) fns in
    let a = sum_by-cons own (held_function (words_at wss k) fn) (held_functions wss (suc k) fns) in
    let b = sum_by-cons own fn fns in
    let c = marks_opened fn.size ws fn.blocks in
    omega (arith, h, a, b, c)

-- they are no more than the operations
abbrev measure : high.Function → ℕ
measure f = operations f.body + 1

places_less : (scope : Scope) (f : ℕ) (h : high.Function) → sum_by marks_at (lowered_function scope f h).blocks ≤ measure h
places_less scope f h = let a = marks_few scope f h in let b = marks_less h.body in omega (arith, a, b)

-- accesses
module _ (p : high.Program) (q : Low) (wss : List (List ℕ)) (f : ℕ) (h : high.Function) (fn : Function ℕ Note) (ws : List ℕ) where
  abbrev r : Low
  r = held_program wss q

  abbrev g : Function ℕ Note
  g = holding ws fn

  access_held : (b : Base ℕ) → IsAccess p q f h b → IsAccess p r f h b
  access_held (Fixed o) k = k
  access_held (Through s claim) k =
      ⊎_elim
      (λ (x : IsOfParameter p q f h claim). inl (record { parameter = x.parameter; there = x.there; passed = x.passed; listed = x.listed }))
      (λ (x : IsOfOne p q claim). inr (record { object = x.object; there = x.there; is = x.is }))
      k

  abbrev Begins : Instr ℕ Note → Type 0
  Begins i = All (λ (a : Address ℕ). IsAccess p q f h a.base) (addresses i)

  abbrev Begins2 : Instr ℕ Note → Type 0
  Begins2 i = All (λ (a : Address ℕ). IsAccess p r f h a.base) (addresses i)

  instr_held : (i : Instr ℕ Note) → Begins i → Begins2 (held_instr fn.size ws i)
  instr_held i k =
      subst (λ ls. All (λ (a : Address ℕ). IsAccess p r f h a.base) ls) (sym (addresses_held fn.size ws i))
      (All-weaker (λ (a : Address ℕ). IsAccess p q f h a.base) (λ (a : Address ℕ). IsAccess p r f h a.base) (λ a x. access_held a.base x) (addresses i) k)

  accesses_held : All (AccessesOf p q f h) fn.blocks → All (AccessesOf p r f h) g.blocks
  accesses_held all =
      blocks_all fn.size ws (AccessesOf p q f h) (AccessesOf p r f h)
      (λ bl k. code_all fn.size ws Begins Begins2 instr_held bl.code k)
      (λ bl k. All-append Begins2 (fills fn.size ws) (map (held_instr fn.size ws) bl.code) (fills_all Begins2 fn.size ws (λ s w low. All-nil (λ (a : Address ℕ). IsAccess p r f h a.base))) (code_all fn.size ws Begins Begins2 instr_held bl.code k))
      fn.blocks all

module _ (p : high.Program) (is_high : IsHigh p) (wss : List (List ℕ)) where
  abbrev q : Low
  q = lowered p

  abbrev held : Low
  held = held_program wss q

  functions_held : (i : ℕ) (fn : Function ℕ Note) → slice_get held.functions i ≡ Some fn → ComesFrom p held fn
  functions_held i fn e =
      let o = of_function wss q i fn e in
      let ws = words_in (words_at wss i) o.fn in
      let both = functions_come p is_high i o.fn o.there in
      let c = both.comes in
      let spared = both.spared in
      let few = words_few (words_at wss i) o.fn in
      let marks = c.marks in
      let same = marks_opened o.fn.size ws o.fn.blocks in
      subst (ComesFrom p held) o.is (record {
        number = c.number;
        function = c.function;
        there = c.there;
        reached = c.reached;
        opens = block_mark ws o.fn 0 ∙ c.opens;
        loops = c.loops;
        registers = omega (arith, spared, few);
        marks = omega (arith, marks, same);
        accesses = accesses_held p q wss c.number c.function o.fn ws c.accesses;
      })

  -- the function of an opening mark is the one that it comes from
  pub spares : SparesRegisters p held
  spares i number fn h e opens there =
      let o = of_function wss q i fn e in
      let both = functions_come p is_high i o.fn o.there in
      let c = both.comes in
      let spared = both.spared in
      let few = words_few (words_at wss i) o.fn in
      let ws = words_in (words_at wss i) o.fn in
      let is : Some c.number ≡ Some number = sym (block_mark ws o.fn 0 ∙ c.opens) ∙ ap opening o.is ∙ opens in
      let same : c.number ≡ number = same_Some c.number number is in
      let one : c.function ≡ h = same_Some c.function h (sym c.there ∙ ap (slice_get p.functions) same ∙ there) in
      let size : fn.size ≡ o.fn.size + length ws = sym (ap (λ (x : Function ℕ Note). x.size) o.is) in
      subst (λ (x : high.Function). fn.size ≤ registers_of x) one (omega (arith, spared, few, size))

  pub keeps : KeepsProgram p held
  keeps =
      let low = is_low p is_high in
      let slots = assignment (map in_slots held.functions) in
      record {
        is_low = formed wss q low;
        runs = λ whole input bytes. runs_held wss q input (hrun p input) (kept p is_high whole input bytes);
        slots = placed_carried slots held (all_safe slots held (slots_assigned held));
        functions = functions_held;
        reached = λ f x. let h = reached_there p is_high f x in record { place = h.place; opens = mark_same wss q h.place 0 ∙ h.opens };
        main = mark_same wss q q.main 0 ∙ main_there p is_high;
        objects = refl;
        locals = arrays_same p.objects;
        loops = let a = loops_few p is_high in let b = loops_held wss 0 q.functions in omega (arith, a, b);
        marks = let a = total_less measure (λ fn. sum_by marks_at fn.blocks) places_less p is_high in let b = all_marks wss 0 q.functions in omega (arith, a, b);
        room = let a = room_few p is_high in let b = rooms_held wss 0 q.functions in let c = length_held wss 0 q.functions in omega (arith, a, b, c);
        weight = let a = weight_less p is_high held.functions (spared_held wss q low) in let b = le-max_left (16 * high_weight p + 64) (2 ^ 48) in omega (arith, a, b);
        reach = λ mark. let a = reach_held wss q low mark in let b = reach_less p is_high mark in omega (arith, a, b);
      }
