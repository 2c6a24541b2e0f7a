-- A low program with pointers that step keeps what it kept.
use Rattle.std.proofs.Common.{◌≡◌, ◌<◌, ◌+◌, ◌*◌, ◌^◌, ℕ, zero, suc, List, [], ◌∷◌, ◌++◌, length, map, Option, Some, None, refl, sym, ap, ◌∙◌, subst, ⊎_elim, inl, inr, arith}
use Rattle.std.specs.Prelude.{All, option_to_list, slice_get, slice_index_or, sum_by}
use Rattle.std.specs.List.{AllZip, flat_map}
use Rattle.std.proofs.Math.Nat.{le-max_right}
use Rattle.std.proofs.lemmas.List.{length-map}
use Rattle.std.proofs.lemmas.List.Elements.{All-contains, All-cons, All-head, All-nil, All-tail, All-weaker}
use Rattle.std.proofs.lemmas.List.Sums.{sum_by-cons}
use Rattle.wcc_base.specs.Budgets.{most_operations}
use Rattle.high_ir.specs.Runs.{Run, hrun}
use Rattle.high_ir.specs.Size.{program_operations}
use Rattle.high_ir.specs.Tree as high
use Rattle.high_ir.specs.Weight.{weight as high_weight}
use Rattle.low_ir.specs.declared.run.Began.{Began}
use Rattle.low_ir.specs.Code.{Address, Base, Block, Do, Fixed, Function, Instr, Low, Note, Object, Plain, Through}
use Rattle.low_ir.specs.Effects.{is_member}
use Rattle.low_ir.specs.Formed.{BlockNamesThere, IsClaim, IsLow, IsThere, NamesThere, addresses, base_claims, base_objects, mark_of}
use Rattle.low_ir.specs.Places.{assignment, in_slots}
use Rattle.low_ir.specs.Turns.{mark_at, marks_passed}
use Rattle.low_ir.proofs.InSlots.{slots_assigned}
use Rattle.register_places.proofs.Follow.{carried}
use Rattle.register_places.proofs.Ways.{all_safe}
use Rattle.pass_strength_reduction_law.specs.Steps.{Entries, FunctionStepped, IsOfOne as OfOne, IsPlaced, IsStepped, IsUsed, MayBegin, MayBeStepped, claims_of}
use Rattle.pass_strength_reduction_law.proofs.Blocks.{SomeFunction, SomeStepped, before_function, some_functions, stepped_blocks}
use Rattle.pass_strength_reduction_law.proofs.Formed.{blocks_keep, formed, mark_same, opening_same}
use Rattle.pass_strength_reduction_law.proofs.Reaches.{passed}
use Rattle.pass_strength_reduction_law.proofs.Serving.{served}
use Rattle.lower_budget.specs.Costs.{bounded, marks_at, marks_in}
use Rattle.lower_definition.specs.Objects.{object_of}
use Rattle.lower_law.specs.Arrays.{IsAccess, IsOfOne, IsOfParameter, local_array_bytes}
use Rattle.lower_law.specs.Functions.{AccessesOf, ComesFrom}
use Rattle.lower_law.specs.Programs.{KeepsProgram}
use Rattle.lower_program.specs.Kept.{IsKept}

-- numbers of what stands beside each other, each the same
sums_same : {A B : Type 0} (R : A → B → Type 0) (f : A → ℕ) (g : B → ℕ) → ((x : A) (y : B) → R x y → g y ≡ f x) → (xs : List A) (ys : List B) → AllZip R xs ys → sum_by g ys ≡ sum_by f xs
sums_same R f g same [] [] h = refl
sums_same R f g same [] (y ∷ ys) h = absurd h
sums_same R f g same (x ∷ xs) [] h = absurd h
sums_same R f g same (x ∷ xs) (y ∷ ys) h =
    sum_by-cons g y ys ∙ ap (λ n. n + sum_by g ys) (same x y h.0) ∙ ap (λ n. f x + n) (sums_same R f g same xs ys h.1) ∙ sym (sum_by-cons f x xs)

-- both hold of each
all_both : {A : Type 0} (P Q : A → Type 0) (xs : List A) → All P xs → All Q xs → All (λ x. P x × Q x) xs
all_both P Q [] ps qs = All-nil (λ x. P x × Q x)
all_both P Q (x ∷ xs) ps qs = All-cons (λ x. P x × Q x) x xs (All-head P x xs ps, All-head Q x xs qs) (all_both P Q xs (All-tail P x xs ps) (All-tail Q x xs qs))

-- what holds of all, holds of one
all_at : {A : Type 0} (P : A → Type 0) (xs : List A) (n : ℕ) (x : A) → All P xs → slice_get xs n ≡ Some x → P x
all_at P [] n x all e = cc
all_at P (y ∷ xs) zero x all e = let same : y ≡ x = cc in subst P same (All-head P y xs all)
all_at P (y ∷ xs) (suc n) x all e = all_at P xs n x (All-tail P y xs all) e

-- a claim that is there stands where it stood
index_still : (xs ys : List (List ℕ)) (n : ℕ) → n < length xs → slice_index_or (xs ++ ys) n [] ≡ slice_index_or xs n []
index_still [] ys n low = let none : ⊥ = omega (arith, low) in absurd none
index_still (x ∷ xs) ys zero low = refl
index_still (x ∷ xs) ys (suc n) low = index_still xs ys n (omega (arith, low))

get_still : (xs ys : List (List ℕ)) (n : ℕ) (x : List ℕ) → slice_get xs n ≡ Some x → slice_get (xs ++ ys) n ≡ Some x
get_still [] ys n x e = cc
get_still (x ∷ xs) ys zero y e = e
get_still (x ∷ xs) ys (suc n) y e = get_still xs ys n y e

module _ (p : high.Program) (q r : Low) (stepped : IsStepped q r) where
  abbrev entry : Entries
  entry = stepped.entry

  both : AllZip (SomeFunction q r entry) q.functions r.functions
  both = some_functions q r entry 0 q.functions r.functions stepped.functions

  marks_same : (n : ℕ) (fn gn : Function ℕ Note) → FunctionStepped q r entry n fn gn → sum_by marks_at gn.blocks ≡ sum_by marks_at fn.blocks
  marks_same n fn gn h = sums_same (SomeStepped q r entry h.spare h.out fn) marks_at marks_at (λ b c x. ap marks_in x.stepped.mark) fn.blocks gn.blocks (stepped_blocks q r entry n fn gn h)

  passed_same : (trace : List Began) → marks_passed r trace ≡ marks_passed q trace
  passed_same [] = refl
  passed_same (e ∷ trace) =
      ap (λ m. option_to_list m ++ flat_map (λ x. option_to_list (mark_at r x)) trace) (mark_same q r stepped e.function e.block)
      ∙ ap (λ ms. option_to_list (mark_at q e) ++ ms) (passed_same trace)

  run_kept : (input : List ℕ) (o : Option Run) → IsKept q input o → IsKept r input o
  run_kept input None k = tt
  run_kept input (Some x) k =
      let s = served q r stepped input k.steps x.value k.world k.good in
      record { steps = s.steps; world = k.world; good = s.good; output = k.output; marks = passed_same k.world.trace ∙ k.marks }

  -- claims of the program before are those of the new one
  claim_same : (c : ℕ) → c < length q.claims → slice_index_or r.claims c [] ≡ slice_index_or q.claims c []
  claim_same c low = ap (λ cs. slice_index_or cs c []) stepped.claims ∙ index_still q.claims (claims_of stepped.alone) c low

  module _ (low : IsLow r) (same_objects : length r.objects ≡ length p.objects) (f : ℕ) (h : high.Function) where
    base_kept : (base : Base ℕ) → All (λ c. c < length q.claims) (base_claims base) → IsAccess p q f h base → IsAccess p r f h base
    base_kept (Fixed o) there a = a
    base_kept (Through x claim) there a =
        let same = claim_same claim (All-head (λ c. c < length q.claims) claim [] there) in
        ⊎_elim
        (λ (k : IsOfParameter p q f h claim).
        inl (record {
          parameter = k.parameter;
          there = k.there;
          passed = λ o m. k.passed o (ap (λ l. is_member l o) (sym same) ∙ m);
          listed = λ o m. ap (λ l. is_member l o) same ∙ k.listed o m;
        }))
        (λ (k : IsOfOne p q claim). inr (record { object = k.object; there = k.there; is = ap (λ cs. slice_get cs claim) stepped.claims ∙ get_still q.claims (claims_of stepped.alone) claim (k.object ∷ []) k.is }))
        a

    abbrev Old : Instr ℕ Note → Type 0
    Old i = NamesThere q i × All (λ (a : Address ℕ). IsAccess p q f h a.base) (addresses i)

    abbrev New : Instr ℕ Note → Type 0
    New i = All (λ (a : Address ℕ). IsAccess p r f h a.base) (addresses i)

    old_kept : (i : Instr ℕ Note) → Old i → New i
    old_kept i k =
        All-weaker (λ (a : Address ℕ). IsThere q a × IsAccess p q f h a.base) (λ (a : Address ℕ). IsAccess p r f h a.base) (λ a x. base_kept a.base x.0.1 x.1) (addresses i)
        (all_both (IsThere q) (λ (a : Address ℕ). IsAccess p q f h a.base) (addresses i) k.0 k.1)

    module _ (fn : Function ℕ Note) (named : All (BlockNamesThere q) fn.blocks) (own : All (AccessesOf p q f h) fn.blocks) where
      -- what a claim is that the function accesses an array with
      used : (register claim : ℕ) → IsUsed fn claim → IsAccess p r f h (Through register claim)
      used register claim u =
          let names = All-contains (IsThere q) (addresses u.instr) u.address (All-contains (NamesThere q) u.block.code u.instr (All-contains (BlockNamesThere q) fn.blocks u.block named u.there) u.within) u.named in
          let access = All-contains (λ (a : Address ℕ). IsAccess p q f h a.base) (addresses u.instr) u.address (All-contains (λ (i : Instr ℕ Note). All (λ (a : Address ℕ). IsAccess p q f h a.base) (addresses i)) u.block.code u.instr (All-contains (AccessesOf p q f h) fn.blocks u.block own u.there) u.within) u.named in
          base_kept (Through u.register claim) (subst (λ b. All (λ c. c < length q.claims) (base_claims b)) u.is names.1) (subst (IsAccess p q f h) u.is access)

      alone : (register claim : ℕ) → OfOne r.claims claim → IsAccess p r f h (Through register claim)
      alone register claim k =
          let c = all_at (IsClaim r) r.claims claim (k.object ∷ []) low.claims k.is in
          let lt = All-head (λ o. o < length r.objects) k.object [] c.1 in
          inr (record { object = k.object; there = omega (arith, lt, same_objects); is = k.is })

      begins_kept : (b : Base ℕ) → All (λ o. o < length r.objects) (base_objects b) → MayBegin r.claims fn b → IsAccess p r f h b
      begins_kept (Fixed o) there may = let lt = All-head (λ o. o < length r.objects) o [] there in omega (arith, lt, same_objects)
      begins_kept (Through register claim) there may = ⊎_elim (λ (u : IsUsed fn claim). used register claim u) (λ (k : OfOne r.claims claim). alone register claim k) may

      new_kept : (i : Plain ℕ) → IsPlaced q r fn i → New (Do i)
      new_kept i placed =
          All-weaker (λ (a : Address ℕ). IsThere r a × MayBegin r.claims fn a.base) (λ (a : Address ℕ). IsAccess p r f h a.base) (λ a x. begins_kept a.base x.0.0 x.1) (addresses {R = ℕ} {K = Note} (Do i))
          (all_both (IsThere r) (λ (a : Address ℕ). MayBegin r.claims fn a.base) (addresses {R = ℕ} {K = Note} (Do i)) placed.names placed.begins)

      accesses_kept : (n : ℕ) (gn : Function ℕ Note) → FunctionStepped q r entry n fn gn → All (AccessesOf p r f h) gn.blocks
      accesses_kept n gn same =
          blocks_keep q r entry same.spare same.out fn Old New old_kept new_kept fn.blocks gn.blocks (stepped_blocks q r entry n fn gn same)
          (All-weaker (λ (b : Block ℕ Note). BlockNamesThere q b × AccessesOf p q f h b) (λ (b : Block ℕ Note). All Old b.code) (λ b x. all_both (NamesThere q) (λ (i : Instr ℕ Note). All (λ (a : Address ℕ). IsAccess p q f h a.base) (addresses i)) b.code x.0 x.1) fn.blocks
          (all_both (BlockNamesThere q) (AccessesOf p q f h) fn.blocks named own))

  comes : IsLow r → length r.objects ≡ length p.objects → (n : ℕ) (fn gn : Function ℕ Note) → All (BlockNamesThere q) fn.blocks → FunctionStepped q r entry n fn gn → ComesFrom p q fn → ComesFrom p r gn
  comes low objects n fn gn named same k =
      record {
        number = k.number;
        function = k.function;
        there = k.there;
        reached = k.reached;
        opens = opening_same q r entry n fn gn same ∙ k.opens;
        loops = ap (map bounded) same.loops ∙ k.loops;
        registers = let a = same.size in let b = k.registers in omega arith;
        marks = let a = marks_same n fn gn same in let b = k.marks in omega arith;
        accesses = accesses_kept low objects k.number k.function fn named k.accesses n gn same;
      }

  stepped_keeps : KeepsProgram p q → KeepsProgram p r
  stepped_keeps k =
      let slots = assignment (map in_slots r.functions) in
      let low = formed q r stepped k.is_low in
      let objects : length r.objects ≡ length p.objects = ap length (stepped.objects ∙ k.objects) ∙ length-map p.objects object_of in
      record {
        is_low = low;
        runs = λ whole input bytes. run_kept input (hrun p input) (k.runs whole input bytes);
        slots = carried slots r (all_safe slots r (slots_assigned r));
        functions = λ i gn e.
            let b = before_function q r entry q.functions r.functions stepped.functions i gn e in
            comes low objects i b.it gn (k.is_low.functions i b.it b.there).names b.stepped (k.functions i b.it b.there);
        reached = λ f reached. let h = k.reached f reached in record { place = h.place; opens = mark_same q r stepped h.place 0 ∙ h.opens };
        main = mark_same q r stepped r.main 0 ∙ ap (λ m. mark_of q m 0) stepped.main ∙ k.main;
        objects = stepped.objects ∙ k.objects;
        locals = ap (λ os. sum_by (λ (o : Object). local_array_bytes o.storage o) os) stepped.objects ∙ k.locals;
        loops = let a = sums_same (SomeFunction q r entry) (λ fn. length fn.loops) (λ gn. length gn.loops) (λ fn gn h. ap length h.stepped.loops) q.functions r.functions both in let b = k.loops in omega arith;
        marks = let a = sums_same (SomeFunction q r entry) (λ fn. sum_by marks_at fn.blocks) (λ gn. sum_by marks_at gn.blocks) (λ fn gn h. marks_same h.number fn gn h.stepped) q.functions r.functions both in let b = k.marks in omega arith;
        room = let a = stepped.room in let b = le-max_right (program_operations p) most_operations in omega (arith, a, b);
        weight = let a = stepped.weight in let b = le-max_right (16 * high_weight p + 64) (2 ^ 48) in omega (arith, a, b);
        reach = λ mark. let a = passed q r stepped mark in let b = k.reach mark in omega arith;
      }

pub keeps : (p : high.Program) (q r : Low) → KeepsProgram p q → MayBeStepped q r → KeepsProgram p r
keeps p q r k stepped =
    ⊎_elim (λ (same : r ≡ q). subst (KeepsProgram p) (sym same) k) (λ (s : IsStepped q r). stepped_keeps p q r s k) stepped
