-- A low program with copies in place of loads and operations keeps what it kept.
use Rattle.std.proofs.Common.{◌≡◌, ◌<◌, ◌+◌, ◌^◌, ℕ, List, [], ◌∷◌, ◌++◌, length, map, Option, Some, None, refl, sym, ap, ◌∙◌, subst, ⊎_elim, inl, inr, arith}
use Rattle.std.specs.Prelude.{All, option_to_list, slice_get, slice_index_or, sum_by, true}
use Rattle.std.specs.List.{AllZip, flat_map}
use Rattle.std.proofs.lemmas.List.Elements.{All-nil, All-weaker}
use Rattle.std.proofs.lemmas.List.Sums.{sum_by-cons}
use Rattle.high_ir.specs.Runs.{Run, hrun}
use Rattle.high_ir.specs.Tree as high
use Rattle.low_ir.specs.declared.run.Began.{Began}
use Rattle.low_ir.specs.Code.{Address, Base, Fixed, Function, Low, Note, Through}
use Rattle.low_ir.specs.Effects.{is_member}
use Rattle.low_ir.specs.Formed.{addresses, mark_of}
use Rattle.low_ir.specs.Places.{assignment, in_slots}
use Rattle.low_ir.specs.Turns.{mark_at, marks_passed}
use Rattle.low_ir.proofs.InSlots.{slots_assigned}
use Rattle.register_places.proofs.Follow.{carried}
use Rattle.register_places.proofs.Ways.{all_safe}
use Rattle.pass_common_subexpressions_law.specs.Reloads.{FunctionReloaded, IsReloaded, MayBeReloaded}
use Rattle.pass_common_subexpressions_law.proofs.Blocks.{SomeReloaded, reloaded_blocks}
use Rattle.pass_common_subexpressions_law.proofs.Costs.{costs}
use Rattle.pass_common_subexpressions_law.proofs.Formed.{blocks_keep, formed, mark_same, opening_same}
use Rattle.low_parts.proofs.Lists.{as_long, before}
use Rattle.pass_common_subexpressions_law.proofs.Serving.{served}
use Rattle.lower_budget.specs.Costs.{bounded, marks_at, marks_in}
use Rattle.lower_law.specs.Arrays.{IsAccess, IsOfOne, IsOfParameter, local_array_bytes}
use Rattle.lower_law.specs.Functions.{AccessesOf, ComesFrom}
use Rattle.lower_law.specs.Programs.{KeepsProgram}
use Rattle.lower_origins.specs.Passing.{IsPassed}
use Rattle.lower_program.specs.Kept.{IsKept}

-- numbers of what stands beside each other, each the same
sums_same : {A B : Type 0} (R : A → B → Type 0) (f : A → ℕ) (g : B → ℕ) → ((x : A) (y : B) → R x y → g y ≡ f x) → (xs : List A) (ys : List B) → AllZip R xs ys → sum_by g ys ≡ sum_by f xs
sums_same R f g same [] [] h = refl
sums_same R f g same [] (y ∷ ys) h = absurd h
sums_same R f g same (x ∷ xs) [] h = absurd h
sums_same R f g same (x ∷ xs) (y ∷ ys) h =
    sum_by-cons g y ys ∙ ap (λ n. n + sum_by g ys) (same x y h.0) ∙ ap (λ n. f x + n) (sums_same R f g same xs ys h.1) ∙ sym (sum_by-cons f x xs)

marks_same : (claims : List (List ℕ)) (fn gn : Function ℕ Note) → FunctionReloaded claims fn gn → sum_by marks_at gn.blocks ≡ sum_by marks_at fn.blocks
marks_same claims fn gn h = sums_same (SomeReloaded claims h.out) marks_at marks_at (λ b c r. ap marks_in r.reloaded.mark) fn.blocks gn.blocks (reloaded_blocks claims fn gn h)

module _ (p : high.Program) (q r : Low) (reloaded : IsReloaded q r) where
  passed_same : (trace : List Began) → marks_passed r trace ≡ marks_passed q trace
  passed_same [] = refl
  passed_same (e ∷ trace) =
      ap (λ m. option_to_list m ++ flat_map (λ x. option_to_list (mark_at r x)) trace) (mark_same q r reloaded e.function e.block)
      ∙ ap (λ ms. option_to_list (mark_at q e) ++ ms) (passed_same trace)

  run_kept : (input : List ℕ) (o : Option Run) → All (λ c. c < 2 ^ 8) input → IsKept q input o → IsKept r input o
  run_kept input None bytes k = tt
  run_kept input (Some x) bytes k =
      record { steps = k.steps; world = k.world; good = served q r reloaded input k.steps x.value k.world bytes k.good; output = k.output; marks = passed_same k.world.trace ∙ k.marks }

  module _ (f : ℕ) (h : high.Function) (fn gn : Function ℕ Note) (same : FunctionReloaded q.claims fn gn) where
    base_kept : (base : Base ℕ) → IsAccess p q f h base → IsAccess p r f h base
    base_kept (Fixed o) a = a
    base_kept (Through x claim) a =
        ⊎_elim
        (λ (k : IsOfParameter p q f h claim).
        inl (record {
          parameter = k.parameter;
          there = k.there;
          passed = subst (λ cs. (o : ℕ) → is_member (slice_index_or cs claim []) o ≡ true → IsPassed p f k.parameter o) (sym reloaded.claims) k.passed;
          listed = subst (λ cs. (o : ℕ) → IsPassed p f k.parameter o → is_member (slice_index_or cs claim []) o ≡ true) (sym reloaded.claims) k.listed;
        }))
        (λ (k : IsOfOne p q claim). inr (record { object = k.object; there = k.there; is = ap (λ cs. slice_get cs claim) reloaded.claims ∙ k.is }))
        a

    all_kept : (xs : List (Address ℕ)) → All (λ (a : Address ℕ). IsAccess p q f h a.base) xs → All (λ (a : Address ℕ). IsAccess p r f h a.base) xs
    all_kept = All-weaker (λ (a : Address ℕ). IsAccess p q f h a.base) (λ (a : Address ℕ). IsAccess p r f h a.base) (λ a k. base_kept a.base k)

    accesses_kept : All (AccessesOf p q f h) fn.blocks → All (AccessesOf p r f h) gn.blocks
    accesses_kept all =
        blocks_keep (λ i. All (λ (a : Address ℕ). IsAccess p q f h a.base) (addresses i)) (λ i. All (λ (a : Address ℕ). IsAccess p r f h a.base) (addresses i))
        (λ i. all_kept (addresses i)) (λ d x. All-nil (λ (a : Address ℕ). IsAccess p r f h a.base)) q.claims same.out fn.blocks gn.blocks (reloaded_blocks q.claims fn gn same) all

  comes : (fn gn : Function ℕ Note) → FunctionReloaded q.claims fn gn → ComesFrom p q fn → ComesFrom p r gn
  comes fn gn same k =
      record {
        number = k.number;
        function = k.function;
        there = k.there;
        reached = k.reached;
        opens = opening_same q.claims fn gn same ∙ k.opens;
        loops = ap (map bounded) same.loops ∙ k.loops;
        registers = let a = same.size in let b = k.registers in omega arith;
        marks = let a = marks_same q.claims fn gn same in let b = k.marks in omega arith;
        accesses = accesses_kept k.number k.function fn gn same k.accesses;
      }

  reloaded_keeps : KeepsProgram p q → KeepsProgram p r
  reloaded_keeps k =
      let slots = assignment (map in_slots r.functions) in
      let less = costs q r reloaded in
      record {
        is_low = formed q r reloaded k.is_low;
        runs = λ whole input bytes. run_kept input (hrun p input) bytes (k.runs whole input bytes);
        slots = carried slots r (all_safe slots r (slots_assigned r));
        functions = λ i gn e.
            let b = before (FunctionReloaded q.claims) q.functions r.functions i gn reloaded.functions e in
            comes b.it gn b.related (k.functions i b.it b.there);
        reached = λ f reached. let h = k.reached f reached in record { place = h.place; opens = mark_same q r reloaded h.place 0 ∙ h.opens };
        main = mark_same q r reloaded r.main 0 ∙ ap (λ m. mark_of q m 0) reloaded.main ∙ k.main;
        objects = reloaded.objects ∙ k.objects;
        locals = ap (λ os. sum_by (λ o. local_array_bytes o.storage o) os) reloaded.objects ∙ k.locals;
        loops = let a = sums_same (FunctionReloaded q.claims) (λ fn. length fn.loops) (λ gn. length gn.loops) (λ fn gn h. ap length h.loops) q.functions r.functions reloaded.functions in let b = k.loops in omega arith;
        marks = let a = sums_same (FunctionReloaded q.claims) (λ fn. sum_by marks_at fn.blocks) (λ gn. sum_by marks_at gn.blocks) (marks_same q.claims) q.functions r.functions reloaded.functions in let b = k.marks in omega arith;
        room = let a = less.room in let b = k.room in let c = as_long (FunctionReloaded q.claims) q.functions r.functions reloaded.functions in omega arith;
        weight = let a = less.weight in let b = k.weight in omega arith;
        reach = λ mark. let a = less.reach mark in let b = k.reach mark in omega arith;
      }

pub keeps : (p : high.Program) (q r : Low) → KeepsProgram p q → MayBeReloaded q r → KeepsProgram p r
keeps p q r k reloaded =
    ⊎_elim (λ (same : r ≡ q). subst (KeepsProgram p) (sym same) k) (λ (c : IsReloaded q r). reloaded_keeps p q r c k) reloaded
