-- A low program with shorter ways keeps what it kept.
use Rattle.std.proofs.Common.{◌≡◌, ◌≤◌, ℕ, suc, List, [], ◌∷◌, length, map, Option, Some, None, refl, sym, ap, ◌∙◌, subst, ⊎_elim, arith, inl, inr}
use Rattle.std.specs.Prelude.{All, slice_get, slice_index_or, sum_by, true}
use Rattle.std.specs.List.{AllZip}
use Rattle.std.proofs.lemmas.List.Sums.{sum_by-cons}
use Rattle.high_ir.specs.Runs.{Run, hrun}
use Rattle.high_ir.specs.Tree as high
use Rattle.low_ir.specs.Code.{Address, Base, Block, Fixed, Function, Instr, Loop, Low, Note, Through}
use Rattle.low_ir.specs.Effects.{is_member}
use Rattle.low_ir.specs.Formed.{IsFunction, IsLow, addresses, mark_of}
use Rattle.low_ir.specs.Places.{assignment, in_slots}
use Rattle.low_ir.specs.Runs.{block_in}
use Rattle.low_ir.specs.Turns.{mark_in}
use Rattle.low_ir.proofs.InSlots.{slots_assigned}
use Rattle.register_places.proofs.Follow.{carried}
use Rattle.register_places.proofs.Ways.{all_safe}
use Rattle.pass_jump_threading_law.specs.Threads.{BlockThreaded, Blocks, FunctionThreaded, IsThreaded, LoopThreaded, MayBeThreaded, Names, Plan}
use Rattle.pass_jump_threading_law.proofs.Costs.{costs}
use Rattle.pass_jump_threading_law.proofs.Formed.{all_kept, formed, low_within, opening_same}
use Rattle.low_parts.proofs.Lists.{as_long, before, found}
use Rattle.pass_jump_threading_law.proofs.Numbers.{IsLeft, LeftOut}
use Rattle.pass_jump_threading_law.proofs.Serving.{served}
use Rattle.lower_budget.specs.Costs.{bounded, marks_at, marks_in}
use Rattle.lower_law.specs.Arrays.{IsAccess, IsOfOne, IsOfParameter, local_array_bytes}
use Rattle.lower_law.specs.Functions.{AccessesOf, ComesFrom}
use Rattle.lower_law.specs.Programs.{KeepsProgram}
use Rattle.lower_origins.specs.Passing.{IsPassed}
use Rattle.lower_program.specs.Kept.{IsKept}
use Rattle.low_parts.proofs.Runs.{LowFunction}

abbrev LowBlock : Type 0
LowBlock = Block ℕ Note

-- numbers of functions, none greater
module _ (f : LowFunction → ℕ) (less : (fn gn : LowFunction) → FunctionThreaded fn gn → f gn ≤ f fn) where
  functions_less : (fs gs : List LowFunction) → AllZip FunctionThreaded fs gs → sum_by f gs ≤ sum_by f fs
  functions_less [] [] h = omega arith
  functions_less [] (g ∷ gs) h = absurd h
  functions_less (x ∷ fs) [] h = absurd h
  functions_less (x ∷ fs) (g ∷ gs) h =
      let one = less x g h.0 in
      let more = functions_less fs gs h.1 in
      let e = sum_by-cons f g gs in
      let i = sum_by-cons f x fs in
      omega (arith, one, more, e, i)

marks_less : (fn : LowFunction) (plan : Plan) (bs : List LowBlock) (n m : ℕ) (cs : List LowBlock) → Blocks fn plan n m bs cs → sum_by marks_at cs ≤ sum_by marks_at bs
marks_less fn plan [] n m cs h =
    let e : sum_by marks_at cs ≡ 0 = ap (sum_by marks_at) h in
    omega (arith, e)
marks_less fn plan (b ∷ bs) n m [] h = omega arith
marks_less fn plan (b ∷ bs) n m (c ∷ cs) h =
    let e = sum_by-cons marks_at b bs in
    let i = sum_by-cons marks_at c cs in
    ⊎_elim
    (λ (out : LeftOut fn plan n m bs (c ∷ cs)). let more = marks_less fn plan bs (suc n) m (c ∷ cs) out.1 in omega (arith, more, e))
    (λ (kept : IsLeft fn plan n m b c bs cs).
    let more = marks_less fn plan bs (suc n) (suc m) cs kept.2 in
    let one : marks_at c ≡ marks_at b = ap marks_in kept.1.mark in
    omega (arith, more, one, e, i))
    h

loops_same : (name : Names) (ls ks : List Loop) → AllZip (LoopThreaded name) ls ks → map bounded ks ≡ map bounded ls
loops_same name [] [] h = refl
loops_same name [] (k ∷ ks) h = absurd h
loops_same name (l ∷ ls) [] h = absurd h
loops_same name (l ∷ ls) (k ∷ ks) h =
    ap (λ i. record { id = i; bounds = record { least = k.least; most = k.most } } ∷ map bounded ks) h.0.id
    ∙ ap (λ n. record { id = l.id; bounds = record { least = n; most = k.most } } ∷ map bounded ks) h.0.least
    ∙ ap (λ n. record { id = l.id; bounds = record { least = l.least; most = n } } ∷ map bounded ks) h.0.most
    ∙ ap (λ bs. bounded l ∷ bs) (loops_same name ls ks h.1)

module _ (p : high.Program) (q r : Low) (threaded : IsThreaded q r) (low : IsLow q) where
  run_kept : (input : List ℕ) (o : Option Run) → IsKept q input o → IsKept r input o
  run_kept input None k = tt
  run_kept input (Some x) k =
      let s = served q r threaded (low_within q low) input k.steps x.value k.world k.good in
      record { steps = s.steps; world = s.world; good = s.good; output = s.output ∙ k.output; marks = s.marks ∙ k.marks }

  -- an opening mark stays where it is
  opening_kept : (f m : ℕ) → mark_of q f 0 ≡ Some m → mark_of r f 0 ≡ Some m
  opening_kept f m e = by_function (slice_get q.functions f) refl e
    where
      by_function : (o : Option LowFunction) → slice_get q.functions f ≡ o → mark_in (block_in o 0) ≡ Some m → mark_of r f 0 ≡ Some m
      by_function None there mark = cc
      by_function (Some fn) there mark =
          let k = found FunctionThreaded q.functions r.functions f fn threaded.functions there in
          ap (λ o. mark_in (block_in o 0)) k.there ∙ opening_same fn k.it k.related (low.functions f fn there).opens ∙ mark

  module _ (f : ℕ) (h : high.Function) (fn gn : LowFunction) (same : FunctionThreaded fn gn) where
    base_kept : (base : Base ℕ) → IsAccess p q f h base → IsAccess p r f h base
    base_kept (Fixed o) a = a
    base_kept (Through x claim) a =
        ⊎_elim
        (λ (k : IsOfParameter p q f h claim).
        inl (record {
          parameter = k.parameter;
          there = k.there;
          passed = subst (λ cs. (o : ℕ) → is_member (slice_index_or cs claim []) o ≡ true → IsPassed p f k.parameter o) (sym threaded.claims) k.passed;
          listed = subst (λ cs. (o : ℕ) → IsPassed p f k.parameter o → is_member (slice_index_or cs claim []) o ≡ true) (sym threaded.claims) k.listed;
        }))
        (λ (k : IsOfOne p q claim). inr (record { object = k.object; there = k.there; is = ap (λ cs. slice_get cs claim) threaded.claims ∙ k.is }))
        a

    access_kept : (n : ℕ) (b c : LowBlock) → BlockThreaded fn same.plan n b c → AccessesOf p q f h b → AccessesOf p r f h c
    access_kept n b c k all =
        subst (λ is. All (λ (i : Instr ℕ Note). All (λ (a : Address ℕ). IsAccess p r f h a.base) (addresses i)) is) (sym k.code)
        (λ j d lt i e inside. base_kept (slice_index_or (addresses (slice_index_or b.code j d)) i e).base (all j d lt i e inside))

    accesses_kept : All (AccessesOf p q f h) fn.blocks → All (AccessesOf p r f h) gn.blocks
    accesses_kept all = all_kept fn same.plan (AccessesOf p q f h) (AccessesOf p r f h) access_kept fn.blocks 0 0 gn.blocks same.blocks all

  comes : (f : ℕ) (fn gn : LowFunction) → IsFunction q f fn → FunctionThreaded fn gn → ComesFrom p q fn → ComesFrom p r gn
  comes f fn gn formed_fn same k =
      record {
        number = k.number;
        function = k.function;
        there = k.there;
        reached = k.reached;
        opens = opening_same fn gn same formed_fn.opens ∙ k.opens;
        loops = loops_same same.plan.name fn.loops gn.loops same.loops ∙ k.loops;
        registers = let a = same.size in let b = k.registers in omega arith;
        marks = let a = marks_less fn same.plan fn.blocks 0 0 gn.blocks same.blocks in let b = k.marks in omega arith;
        accesses = accesses_kept k.number k.function fn gn same k.accesses;
      }

  threaded_keeps : KeepsProgram p q → KeepsProgram p r
  threaded_keeps k =
      let slots = assignment (map in_slots r.functions) in
      let less = costs q r threaded (low_within q low) in
      record {
        is_low = formed q r threaded low;
        runs = λ whole input bytes. run_kept input (hrun p input) (k.runs whole input bytes);
        slots = carried slots r (all_safe slots r (slots_assigned r));
        functions = λ i gn e.
            let b = before FunctionThreaded q.functions r.functions i gn threaded.functions e in
            comes i b.it gn (low.functions i b.it b.there) b.related (k.functions i b.it b.there);
        reached = λ f reached. let h = k.reached f reached in record { place = h.place; opens = opening_kept h.place f h.opens };
        main = subst (λ m. mark_of r m 0 ≡ Some p.main) (sym threaded.main) (opening_kept q.main p.main k.main);
        objects = threaded.objects ∙ k.objects;
        locals = ap (λ os. sum_by (λ o. local_array_bytes o.storage o) os) threaded.objects ∙ k.locals;
        loops = let a = functions_less (λ fn. length fn.loops) (λ fn gn h. let e = as_long (LoopThreaded h.plan.name) fn.loops gn.loops h.loops in omega arith) q.functions r.functions threaded.functions in let b = k.loops in omega arith;
        marks = let a = functions_less (λ fn. sum_by marks_at fn.blocks) (λ fn gn h. marks_less fn h.plan fn.blocks 0 0 gn.blocks h.blocks) q.functions r.functions threaded.functions in let b = k.marks in omega arith;
        room = let a = less.room in let b = k.room in let c = as_long FunctionThreaded q.functions r.functions threaded.functions in omega arith;
        weight = let a = less.weight in let b = k.weight in omega arith;
        reach = λ mark. let a = less.reach mark in let b = k.reach mark in omega arith;
      }

pub keeps : (p : high.Program) (q r : Low) → KeepsProgram p q → MayBeThreaded q r → KeepsProgram p r
keeps p q r k threaded =
    ⊎_elim (λ (same : r ≡ q). subst (KeepsProgram p) (sym same) k) (λ (h : IsThreaded q r). threaded_keeps p q r h k.is_low k) threaded
