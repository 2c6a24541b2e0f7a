-- A low program with scalars in registers keeps what it kept.
use Rattle.std.proofs.Common.{◌≡◌, ◌<◌, ◌+◌, ◌^◌, ℕ, suc, List, [], ◌∷◌, ◌++◌, length, map, Option, Some, None, refl, sym, ap, ◌∙◌, subst, ⊎_elim, arith, inl, inr}
use Rattle.std.specs.Prelude.{All, option_to_list, slice_get, sum_by}
use Rattle.std.specs.List.{flat_map}
use Rattle.std.proofs.lemmas.List.{length-map}
use Rattle.std.proofs.lemmas.List.Elements.{All-cons, All-head, All-nil}
use Rattle.std.proofs.lemmas.List.Sums.{sum_by-cons}
use Rattle.high_ir.specs.Runs.{Run, hrun}
use Rattle.high_ir.specs.Tree as high
use Rattle.rv_core.specs.declared.row.Alu.{Alu}
use Rattle.rv_core.specs.declared.row.Alu.TheVariants.{BitAnd, ShiftLeft, ShiftRight, ShiftRightSigned}
use Rattle.low_ir.specs.declared.object.Kind.{Kind}
use Rattle.low_ir.specs.declared.object.Kind.TheVariants.{Unsigned8, Signed8, Unsigned16, Signed16, Word}
use Rattle.low_ir.specs.Kinds.{converted}
use Rattle.low_ir.specs.declared.run.Began.{Began}
use Rattle.low_ir.specs.Code.{Address, Base, Block, Call, Constant, Do, Fixed, Function, Get, Instr, Load, Low, Note, Operand, Operate, Point, Put, Register, Set, Store, Through}
use Rattle.low_ir.specs.Formed.{addresses}
use Rattle.low_ir.specs.Places.{assignment, in_slots}
use Rattle.low_ir.specs.Room.{room}
use Rattle.low_ir.specs.Turns.{mark_at, marks_passed}
use Rattle.low_ir.proofs.InSlots.{slots_assigned}
use Rattle.register_places.proofs.Follow.{carried as placed_carried}
use Rattle.register_places.proofs.Ways.{all_safe}
use Rattle.pass_constant_hoisting.specs.Holding.{opened}
use Rattle.pass_register_promotion_law.specs.Paying.{IsPromoted, MayBePromoted}
use Rattle.pass_register_promotion_law.specs.Promoting.{Resident, kept_by, load_by, loads, promoted_block, promoted_function, promoted_functions, promoted_instr, promoted_program, resident_at, residents_at, scalar_address, shifted, store_by}
use Rattle.pass_register_promotion_law.specs.Suiting.{AreScalars}
use Rattle.pass_register_promotion_law.proofs.Costs.{reach_less, weight_less}
use Rattle.pass_register_promotion_law.proofs.Follow.{carried}
use Rattle.pass_register_promotion_law.proofs.Formed.{block_mark, codes_all, formed, mark_same}
use Rattle.pass_register_promotion_law.proofs.Tables.{of_function, promoted_at}
use Rattle.lower_budget.specs.Costs.{marks_at}
use Rattle.lower_definition.specs.Objects.{object_of}
use Rattle.lower_law.specs.Arrays.{IsAccess, IsOfOne, IsOfParameter}
use Rattle.lower_law.specs.Functions.{AccessesOf, ComesFrom}
use Rattle.lower_law.specs.Programs.{KeepsProgram, SparesRegisters}
use Rattle.lower_program.specs.Kept.{IsKept}

-- the places of marks
marks_rest : (n : ℕ) (hs : List Resident) (bs : List (Block ℕ Note)) → sum_by marks_at (map (promoted_block n hs) bs) ≡ sum_by marks_at bs
marks_rest n hs [] = refl
marks_rest n hs (b ∷ bs) =
    let h = marks_rest n hs bs in
    let a = sum_by-cons marks_at (promoted_block n hs b) (map (promoted_block n hs) bs) in
    let c = sum_by-cons marks_at b bs in
    omega (arith, h, a, c)

marks_opened : (n : ℕ) (hs : List Resident) (bs : List (Block ℕ Note)) → sum_by marks_at (opened (loads n hs) (map (promoted_block n hs) bs)) ≡ sum_by marks_at bs
marks_opened n hs [] = refl
marks_opened n hs (b ∷ bs) =
    let h = marks_rest n hs bs in
    let a = sum_by-cons marks_at (promoted_at n hs 0 b) (map (promoted_block n hs) bs) in
    let c = sum_by-cons marks_at b bs in
    omega (arith, h, a, c)

all_marks : (hss : List (List Resident)) (k : ℕ) (fns : List (Function ℕ Note)) → sum_by (λ (fn : Function ℕ Note). sum_by marks_at fn.blocks) (promoted_functions hss k fns) ≡ sum_by (λ (fn : Function ℕ Note). sum_by marks_at fn.blocks) fns
all_marks hss k [] = refl
all_marks hss k (fn ∷ fns) =
    let own : Function ℕ Note → ℕ = λ x. sum_by marks_at x.blocks in
    let h = all_marks hss (suc k) fns in
    let a = sum_by-cons own (promoted_function (residents_at hss k) fn) (promoted_functions hss (suc k) fns) in
    let b = sum_by-cons own fn fns in
    let c = marks_opened fn.size (residents_at hss k) fn.blocks in
    omega (arith, h, a, b, c)

all_loops : (hss : List (List Resident)) (k : ℕ) (fns : List (Function ℕ Note)) → sum_by (λ (fn : Function ℕ Note). length fn.loops) (promoted_functions hss k fns) ≡ sum_by (λ (fn : Function ℕ Note). length fn.loops) fns
all_loops hss k [] = refl
all_loops hss k (fn ∷ fns) =
    let h = all_loops hss (suc k) fns in
    let a = sum_by-cons (λ (x : Function ℕ Note). length x.loops) (promoted_function (residents_at hss k) fn) (promoted_functions hss (suc k) fns) in
    let b = sum_by-cons (λ (x : Function ℕ Note). length x.loops) fn fns in
    omega (arith, h, a, b)

module _ (p : high.Program) (q : Low) (hss : List (List Resident)) where
  abbrev r : Low
  r = promoted_program hss q

  passed_same : (trace : List Began) → marks_passed r trace ≡ marks_passed q trace
  passed_same [] = refl
  passed_same (e ∷ trace) =
      ap (λ m. option_to_list m ++ flat_map (λ x. option_to_list (mark_at r x)) trace) (mark_same hss q e.function e.block)
      ∙ ap (λ ms. option_to_list (mark_at q e) ++ ms) (passed_same trace)

  -- accesses
  module _ (f : ℕ) (h : high.Function) (fn : Function ℕ Note) (hs : List Resident) where
    abbrev g : Function ℕ Note
    g = promoted_function hs fn

    abbrev Begins : Address ℕ → Type 0
    Begins a = IsAccess p r f h a.base

    abbrev Old : Instr ℕ Note → Type 0
    Old i = All (λ (a : Address ℕ). IsAccess p q f h a.base) (addresses i)

    abbrev New : Instr ℕ Note → Type 0
    New i = All Begins (addresses i)

    base_kept : (b : Base ℕ) → IsAccess p q f h b → IsAccess p r f h b
    base_kept (Fixed o) k = k
    base_kept (Through s claim) k =
        ⊎_elim
        (λ (x : IsOfParameter p q f h claim). inl (record { parameter = x.parameter; there = x.there; passed = x.passed; listed = x.listed }))
        (λ (x : IsOfOne p q claim). inr (record { object = x.object; there = x.there; is = x.is }))
        k

    one_kept : (a : Address ℕ) → All (λ (x : Address ℕ). IsAccess p q f h x.base) (a ∷ []) → All Begins (a ∷ [])
    one_kept a all = All-cons Begins a [] (base_kept a.base (All-head (λ (x : Address ℕ). IsAccess p q f h x.base) a [] all)) (All-nil Begins)

    one_new : (i : Instr ℕ Note) → New i → All New (i ∷ [])
    one_new i h = All-cons New i [] h (All-nil New)

    -- an instruction without an address
    without : (i : Instr ℕ Note) → addresses i ≡ [] → All New (i ∷ [])
    without i e = one_new i (subst (All Begins) (sym e) (All-nil Begins))

    shifted_kept : (back : Alu) (s x k : ℕ) → All New (shifted back s x k)
    shifted_kept back s x k =
        All-cons New (Do (Operate ShiftLeft s (Register x) (Constant k))) (Do (Operate back s (Register s) (Constant k)) ∷ []) (All-nil Begins) (without (Do (Operate back s (Register s) (Constant k))) refl)

    kept_kept : (kind : Kind) (s x : ℕ) → All New (kept_by kind s x)
    kept_kept Unsigned8 s x = without (Do (Operate BitAnd s (Register x) (Constant 255))) refl
    kept_kept Signed8 s x = shifted_kept ShiftRightSigned s x 24
    kept_kept Unsigned16 s x = shifted_kept ShiftRight s x 16
    kept_kept Signed16 s x = shifted_kept ShiftRightSigned s x 16
    kept_kept Word s x = without (Do (Set s (Register x))) refl

    load_kept : (kind : Kind) (d : ℕ) (a : Address ℕ) (o : Option ℕ) → Old (Do (Load kind d a)) → All New (load_by o kind d a)
    load_kept kind d a None all = one_new (Do (Load kind d a)) (one_kept a all)
    load_kept kind d a (Some s) all = without (Do (Set d (Register s))) refl

    store_kept : (kind : Kind) (a : Address ℕ) (x : Operand ℕ) (o : Option ℕ) → Old (Do (Store kind a x)) → All New (store_by o kind a x)
    store_kept kind a x None all = one_new (Do (Store kind a x)) (one_kept a all)
    store_kept kind a (Register x) (Some s) all = kept_kept kind s x
    store_kept kind a (Constant w) (Some s) all = without (Do (Set s (Constant (converted kind w)))) refl

    instr_kept : (i : Instr ℕ Note) → Old i → All New (promoted_instr fn.size hs i)
    instr_kept (Do (Set d x)) all = without (Do (Set d x)) refl
    instr_kept (Do (Operate operator d x y)) all = without (Do (Operate operator d x y)) refl
    instr_kept (Do (Point d a)) all = one_new (Do (Point d a)) (one_kept a all)
    instr_kept (Do (Load kind d a)) all = load_kept kind d a (resident_at fn.size hs a.base) all
    instr_kept (Do (Store kind a x)) all = store_kept kind a x (resident_at fn.size hs a.base) all
    instr_kept (Do (Put x)) all = without (Do (Put x)) refl
    instr_kept (Do (Get d)) all = without (Do (Get d)) refl
    instr_kept (Call d c args note) all = without (Call d c args note) refl

    accesses_kept : AreScalars q.objects hs → length q.objects ≡ length p.objects → All (AccessesOf p q f h) fn.blocks → All (AccessesOf p r f h) g.blocks
    accesses_kept scalars count all =
        codes_all q.objects fn.size hs scalars Old New instr_kept
        (λ kind s o low there. All-cons Begins (scalar_address o) [] (omega (arith, there, count)) (All-nil Begins))
        (λ kind s o low there. All-cons Begins (scalar_address o) [] (omega (arith, there, count)) (All-nil Begins))
        fn.blocks all

module _ (p : high.Program) (q r : Low) (h : IsPromoted q r) (k : KeepsProgram p q) (spares : SparesRegisters p q) where
  abbrev hss : List (List Resident)
  hss = h.residents

  abbrev made : Low
  made = promoted_program hss q

  run_kept : (input : List ℕ) (o : Option Run) → All (λ c. c < 2 ^ 8) input → IsKept q input o → IsKept made input o
  run_kept input None bytes x = tt
  run_kept input (Some run) bytes x =
      let a = carried hss h.table q k.is_low h.may input x.steps run.value x.world bytes x.good in
      record { steps = a.steps; world = x.world; good = a.good; output = x.output; marks = passed_same p q hss x.world.trace ∙ x.marks }

  objects_count : length q.objects ≡ length p.objects
  objects_count = ap length k.objects ∙ length-map p.objects object_of

  comes : (i : ℕ) (gn : Function ℕ Note) → slice_get made.functions i ≡ Some gn → ComesFrom p made gn
  comes i gn e =
      let o = of_function hss q i gn e in
      let c = k.functions i o.fn o.there in
      let hs = residents_at hss i in
      let few = h.few i in
      let size = spares i c.number o.fn c.function o.there c.opens c.there in
      let marks = c.marks in
      let same = marks_opened o.fn.size hs o.fn.blocks in
      subst (ComesFrom p made) o.is (record {
        number = c.number;
        function = c.function;
        there = c.there;
        reached = c.reached;
        opens = block_mark hs o.fn 0 ∙ c.opens;
        loops = c.loops;
        registers = omega (arith, few, size);
        marks = omega (arith, marks, same);
        accesses = accesses_kept p q hss c.number c.function o.fn hs (h.may i o.fn o.there).scalars objects_count c.accesses;
      })

  promoted_keeps : KeepsProgram p made
  promoted_keeps =
      let slots = assignment (map in_slots made.functions) in
      record {
        is_low = formed hss h.table q h.may k.is_low;
        runs = λ whole input bytes. run_kept input (hrun p input) bytes (k.runs whole input bytes);
        slots = placed_carried slots made (all_safe slots made (slots_assigned made));
        functions = comes;
        reached = λ f x. let y = k.reached f x in record { place = y.place; opens = mark_same hss q y.place 0 ∙ y.opens };
        main = mark_same hss q q.main 0 ∙ k.main;
        objects = k.objects;
        locals = k.locals;
        loops = let a = k.loops in let b = all_loops hss 0 q.functions in omega (arith, a, b);
        marks = let a = k.marks in let b = all_marks hss 0 q.functions in omega (arith, a, b);
        room = let a = h.room in let b = ap room h.is in omega (arith, a, b);
        weight = let a = weight_less hss q h.paid in let b = k.weight in omega (arith, a, b);
        reach = λ mark. let a = reach_less hss q mark in let b = k.reach mark in omega (arith, a, b);
      }

pub keeps : (p : high.Program) (q r : Low) → KeepsProgram p q → SparesRegisters p q → MayBePromoted q r → KeepsProgram p r
keeps p q r k spares may =
    ⊎_elim (λ (same : r ≡ q). subst (KeepsProgram p) (sym same) k) (λ (h : IsPromoted q r). subst (KeepsProgram p) (sym h.is) (promoted_keeps p q r h k spares)) may
