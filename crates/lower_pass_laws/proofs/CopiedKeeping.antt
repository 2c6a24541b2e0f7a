-- A low program without its copies keeps what it kept.
use Rattle.std.proofs.Common.{◌≡◌, ◌≤◌, ◌+◌, ℕ, List, [], ◌∷◌, ◌++◌, length, map, Option, Some, None, refl, sym, ap, ◌∙◌, subst, ⊎_elim, inl, inr, arith}
use Rattle.std.specs.Prelude.{All, option_to_list, slice_get, slice_index_or, sum_by, true}
use Rattle.std.specs.List.{AllZip, flat_map}
use Rattle.std.proofs.lemmas.List.Elements.{All-cons, All-head, All-nil}
use Rattle.std.proofs.lemmas.List.Sums.{sum_by-cons}
use Rattle.high_ir.specs.Runs.{Run, hrun}
use Rattle.high_ir.specs.Tree as high
use Rattle.low_ir.specs.declared.run.Began.{Began}
use Rattle.low_ir.specs.Code.{Address, Base, Block, Call, Do, Fixed, Function, Get, Instr, Load, Low, Note, Operate, Point, Put, Set, Store, Through}
use Rattle.low_ir.specs.Effects.{is_member}
use Rattle.low_ir.specs.Formed.{addresses, mark_of}
use Rattle.low_ir.specs.Places.{assignment, in_slots}
use Rattle.low_ir.specs.Turns.{mark_at, marks_passed}
use Rattle.low_ir.proofs.InSlots.{slots_assigned}
use Rattle.register_places.proofs.Follow.{carried}
use Rattle.register_places.proofs.Ways.{all_safe}
use Rattle.pass_copy_propagation_law.specs.Copies.{FunctionCopied, Grows, IsCopied, free_registers, KeepsBase, KeepsBases, MayBeCopied}
use Rattle.pass_copy_propagation_law.specs.Renaming.{renamed_address, renamed_base, renamed_instr}
use Rattle.pass_copy_propagation_law.proofs.Blocks.{SomeCopied, copied_blocks}
use Rattle.pass_copy_propagation_law.proofs.Costs.{costs}
use Rattle.pass_copy_propagation_law.proofs.Formed.{blocks_keep, formed, mark_same, opening_same}
use Rattle.low_parts.proofs.Lists.{as_long, before}
use Rattle.pass_copy_propagation_law.proofs.Serving.{served}
use Rattle.lower_budget.specs.Costs.{bounded, marks_at, marks_in}
use Rattle.lower_law.specs.Arrays.{IsAccess, IsOfOne, IsOfParameter, local_array_bytes}
use Rattle.lower_law.specs.Functions.{AccessesOf, ComesFrom, registers_of, spare_registers}
use Rattle.lower_law.specs.Programs.{KeepsProgram}
use Rattle.lower_origins.specs.Passing.{IsPassed}
use Rattle.lower_program.specs.Kept.{IsKept}

-- numbers of functions, each the same
module _ (f : Function ℕ Note → ℕ) (same : (fn gn : Function ℕ Note) → FunctionCopied fn gn → f gn ≡ f fn) where
  functions_same : (fs gs : List (Function ℕ Note)) → AllZip FunctionCopied fs gs → sum_by f gs ≡ sum_by f fs
  functions_same [] [] h = refl
  functions_same [] (g ∷ gs) h = absurd h
  functions_same (x ∷ fs) [] h = absurd h
  functions_same (x ∷ fs) (g ∷ gs) h =
      sum_by-cons f g gs ∙ ap (λ n. n + sum_by f gs) (same x g h.0) ∙ ap (λ n. f x + n) (functions_same fs gs h.1) ∙ sym (sum_by-cons f x fs)

blocks_same : (R : Block ℕ Note → Block ℕ Note → Type 0) → ((b c : Block ℕ Note) → R b c → c.mark ≡ b.mark) → (bs cs : List (Block ℕ Note)) → AllZip R bs cs → sum_by marks_at cs ≡ sum_by marks_at bs
blocks_same R mark [] [] h = refl
blocks_same R mark [] (c ∷ cs) h = absurd h
blocks_same R mark (b ∷ bs) [] h = absurd h
blocks_same R mark (b ∷ bs) (c ∷ cs) h =
    sum_by-cons marks_at c cs
    ∙ ap (λ m. marks_in m + sum_by marks_at cs) (mark b c h.0)
    ∙ ap (λ n. marks_at b + n) (blocks_same R mark bs cs h.1)
    ∙ sym (sum_by-cons marks_at b bs)

marks_same : (fn gn : Function ℕ Note) → FunctionCopied fn gn → sum_by marks_at gn.blocks ≡ sum_by marks_at fn.blocks
marks_same fn gn h = blocks_same (SomeCopied gn.size h.out) (λ b c r. r.copied.mark) fn.blocks gn.blocks (copied_blocks fn gn h)

-- a function that grew has no more registers than it may have
grown_below : (size grown own : ℕ) → Grows size grown → size ≤ own + spare_registers → grown ≤ own + spare_registers
grown_below size grown own grows le = ⊎_elim (λ (no : grown ≤ size). omega arith) (λ (free : grown ≤ free_registers). omega arith) grows.most

module _ (p : high.Program) (q r : Low) (copied : IsCopied q r) where
  passed_same : (trace : List Began) → marks_passed r trace ≡ marks_passed q trace
  passed_same [] = refl
  passed_same (e ∷ trace) =
      ap (λ m. option_to_list m ++ flat_map (λ x. option_to_list (mark_at r x)) trace) (mark_same q r copied e.function e.block)
      ∙ ap (λ ms. option_to_list (mark_at q e) ++ ms) (passed_same trace)

  run_kept : (input : List ℕ) (o : Option Run) → IsKept q input o → IsKept r input o
  run_kept input None k = tt
  run_kept input (Some x) k =
      let s = served q r copied input k.steps x.value k.world k.good in
      record { steps = s.steps; world = k.world; good = s.good; output = k.output; marks = passed_same k.world.trace ∙ k.marks }

  module _ (f : ℕ) (h : high.Function) (fn gn : Function ℕ Note) (same : FunctionCopied fn gn) where
    base_kept : (name : ℕ → ℕ) (base : Base ℕ) → KeepsBase name base → IsAccess p q f h base → IsAccess p r f h (renamed_base name base)
    base_kept name (Fixed o) keeps a = a
    base_kept name (Through x claim) keeps a =
        ⊎_elim
        (λ (k : IsOfParameter p q f h claim).
        inl (record {
          parameter = k.parameter;
          there = k.there;
          passed = subst (λ cs. (o : ℕ) → is_member (slice_index_or cs claim []) o ≡ true → IsPassed p f k.parameter o) (sym copied.claims) k.passed;
          listed = subst (λ cs. (o : ℕ) → IsPassed p f k.parameter o → is_member (slice_index_or cs claim []) o ≡ true) (sym copied.claims) k.listed;
        }))
        (λ (k : IsOfOne p q claim). inr (record { object = k.object; there = k.there; is = ap (λ cs. slice_get cs claim) copied.claims ∙ k.is }))
        a

    abbrev Old : Instr ℕ Note → Type 0
    Old i = All (λ (a : Address ℕ). IsAccess p q f h a.base) (addresses i)

    abbrev New : Instr ℕ Note → Type 0
    New i = All (λ (a : Address ℕ). IsAccess p r f h a.base) (addresses i)

    one_kept : (name : ℕ → ℕ) (a : Address ℕ) → KeepsBase name a.base → All (λ (x : Address ℕ). IsAccess p q f h x.base) (a ∷ []) → All (λ (x : Address ℕ). IsAccess p r f h x.base) (renamed_address name a ∷ [])
    one_kept name a keeps all =
        All-cons (λ (x : Address ℕ). IsAccess p r f h x.base) (renamed_address name a) []
        (base_kept name a.base keeps (All-head (λ (x : Address ℕ). IsAccess p q f h x.base) a [] all))
        (All-nil (λ (x : Address ℕ). IsAccess p r f h x.base))

    none_there : All (λ (x : Address ℕ). IsAccess p r f h x.base) []
    none_there = All-nil (λ (x : Address ℕ). IsAccess p r f h x.base)

    access_kept : (name : ℕ → ℕ) (into : ℕ) (i : Instr ℕ Note) → KeepsBases name (addresses i) → Old i → New (renamed_instr name into i)
    access_kept name into (Do (Set d x)) keeps all = none_there
    access_kept name into (Do (Operate operator d x y)) keeps all = none_there
    access_kept name into (Do (Point d a)) keeps all = one_kept name a keeps.0 all
    access_kept name into (Do (Load kind d a)) keeps all = one_kept name a keeps.0 all
    access_kept name into (Do (Store kind a x)) keeps all = one_kept name a keeps.0 all
    access_kept name into (Do (Put x)) keeps all = none_there
    access_kept name into (Do (Get d)) keeps all = none_there
    access_kept name into (Call d g args note) keeps all = none_there

    accesses_kept : All (AccessesOf p q f h) fn.blocks → All (AccessesOf p r f h) gn.blocks
    accesses_kept all = blocks_keep Old New access_kept gn.size same.out fn.blocks gn.blocks (copied_blocks fn gn same) all

  comes : (fn gn : Function ℕ Note) → FunctionCopied fn gn → ComesFrom p q fn → ComesFrom p r gn
  comes fn gn same k =
      record {
        number = k.number;
        function = k.function;
        there = k.there;
        reached = k.reached;
        opens = opening_same fn gn same ∙ k.opens;
        loops = ap (map bounded) same.loops ∙ k.loops;
        registers = grown_below fn.size gn.size (registers_of k.function) same.size k.registers;
        marks = let a = marks_same fn gn same in let b = k.marks in omega arith;
        accesses = accesses_kept k.number k.function fn gn same k.accesses;
      }

  copied_keeps : KeepsProgram p q → KeepsProgram p r
  copied_keeps k =
      let slots = assignment (map in_slots r.functions) in
      let less = costs q r copied in
      record {
        is_low = formed q r copied k.is_low;
        runs = λ whole input bytes. run_kept input (hrun p input) (k.runs whole input bytes);
        slots = carried slots r (all_safe slots r (slots_assigned r));
        functions = λ i gn e.
            let b = before FunctionCopied q.functions r.functions i gn copied.functions e in
            comes b.it gn b.related (k.functions i b.it b.there);
        reached = λ f reached. let h = k.reached f reached in record { place = h.place; opens = mark_same q r copied h.place 0 ∙ h.opens };
        main = mark_same q r copied r.main 0 ∙ ap (λ m. mark_of q m 0) copied.main ∙ k.main;
        objects = copied.objects ∙ k.objects;
        locals = ap (λ os. sum_by (λ o. local_array_bytes o.storage o) os) copied.objects ∙ k.locals;
        loops = let a = functions_same (λ fn. length fn.loops) (λ fn gn h. ap length h.loops) q.functions r.functions copied.functions in let b = k.loops in omega arith;
        marks = let a = functions_same (λ fn. sum_by marks_at fn.blocks) marks_same q.functions r.functions copied.functions in let b = k.marks in omega arith;
        room = let a = less.room in let b = k.room in let c = as_long FunctionCopied q.functions r.functions copied.functions in omega arith;
        weight = let a = less.weight in let b = k.weight in omega arith;
        reach = λ mark. let a = less.reach mark in let b = k.reach mark in omega arith;
      }

pub keeps : (p : high.Program) (q r : Low) → KeepsProgram p q → MayBeCopied q r → KeepsProgram p r
keeps p q r k copied =
    ⊎_elim (λ (same : r ≡ q). subst (KeepsProgram p) (sym same) k) (λ (c : IsCopied q r). copied_keeps p q r c k) copied
