-- The places of a program's registers are among those of the machine.
use Rattle.std.proofs.Common.{◌≡◌, ℕ, suc, ◌+◌, ◌<◌, true, List, [], ◌∷◌, ◌++◌, length, map, All, Option, Some, None, option_map, refl, sym, subst, arith, inl, inr}
use Rattle.std.specs.Prelude.{slice_get}
use Rattle.std.specs.Option.{option_to_list}
use Rattle.std.proofs.lemmas.Bool.{ltb-true}
use Rattle.std.proofs.lemmas.Bool.Decides.{nat_tests}
use Rattle.std.proofs.lemmas.List.Elements.{All-cons, All-head, All-nil, All-tail}
use Rattle.low_ir.specs.declared.places.Place.{Place}
use Rattle.low_ir.specs.declared.places.Place.TheVariants.{Register as InRegister, Slot}
use Rattle.low_ir.specs.Code.{Operand, Register, Constant, Base, Fixed, Through, Plain, Set, Operate, Point, Load, Store, Put, Get, Instr, Do, Call, End, Jump, Branch, Return, Block, Function, Note, Low}
use Rattle.low_ir.specs.Effects.{base_reads, offset_reads, address_reads, reads, dest}
use Rattle.low_ir.specs.Formed.{registers_in, end_reads, RegistersWithin, UsesRegisters, IsLow}
use Rattle.low_ir.specs.Live.{Has}
use Rattle.low_ir.specs.Places.{Assignment, is_lasting, machine_registers, place_operand, place_base, place_plain, place_end, place_instr, place_code, place_block, place_blocks, place_function, place_functions, placed}
use Rattle.low_ir.specs.Spacing.{is_inside, IsAssignment}
use Rattle.asm_program.specs.Ranges.{IsLasting, IsRegister, InOperand, InBase, InPlain, InInstr, InEnd, InBlock, InFunction, InProgram}

inside_is : (slots : ℕ) (p : Place) → is_inside slots p ≡ true → IsRegister p
inside_is slots (InRegister q) h = grind (arith, nat_tests)
inside_is slots (Slot k) h = tt

lasting_is : (p : Place) → is_lasting p ≡ true → IsLasting p
lasting_is (InRegister q) h = ltb-true q machine_registers h
lasting_is (Slot k) h = tt

-- parameters can hold values over calls
all_last : (pl : ℕ → Place) (size : ℕ) (vs : List ℕ) → All (λ v. v < size) vs → ((v : ℕ) → v < size → Has v vs → is_lasting (pl v) ≡ true) → All IsLasting (map pl vs)
all_last pl size [] h last = All-nil IsLasting
all_last pl size (v ∷ vs) h last =
    All-cons IsLasting (pl v) (map pl vs) (lasting_is (pl v) (last v (All-head (λ w. w < size) v vs h) (inl refl)))
    (all_last pl size vs (All-tail (λ w. w < size) v vs h) (λ w less has. last w less (inr has)))

module _ (pl : ℕ → Place) (size : ℕ) (there : (v : ℕ) → v < size → IsRegister (pl v)) where
  abbrev Below : ℕ → Type 0
  Below v = v < size

  some_place : (d : Option ℕ) → All Below (option_to_list d) → All IsRegister (option_to_list (option_map pl d))
  some_place None h = All-nil IsRegister
  some_place (Some v) h = All-cons IsRegister (pl v) [] (there v (All-head Below v [] h)) (All-nil IsRegister)

  all_operands : (xs : List (Operand ℕ)) → All Below (registers_in xs) → All InOperand (map (place_operand pl) xs)
  all_operands [] h = All-nil InOperand
  all_operands (Register r ∷ xs) h = All-cons InOperand (Register (pl r)) (map (place_operand pl) xs) (there r (All-head Below r (registers_in xs) h)) (all_operands xs (All-tail Below r (registers_in xs) h))
  all_operands (Constant w ∷ xs) h = All-cons InOperand (Constant w) (map (place_operand pl) xs) tt (all_operands xs h)

  one_operand : (x : Operand ℕ) → All Below (registers_in (x ∷ [])) → InOperand (place_operand pl x)
  one_operand x h = All-head InOperand (place_operand pl x) [] (all_operands (x ∷ []) h)

  two_operands : (x y : Operand ℕ) → All Below (registers_in (x ∷ y ∷ [])) → InOperand (place_operand pl x) × InOperand (place_operand pl y)
  two_operands x y h =
      let all = all_operands (x ∷ y ∷ []) h in
      (All-head InOperand (place_operand pl x) (place_operand pl y ∷ []) all, All-head InOperand (place_operand pl y) [] (All-tail InOperand (place_operand pl x) (place_operand pl y ∷ []) all))

  into : (d : ℕ) → All Below (option_to_list (Some d)) → IsRegister (pl d)
  into d h = there d (All-head Below d [] h)

  end_there : (end : End ℕ) → All Below (end_reads end) → InEnd (place_end pl end)
  end_there (Jump b) h = tt
  end_there (Branch c x y taken other) h = two_operands x y h
  end_there (Return x) h = one_operand x h

  address_there : (base : Base ℕ) (offset : Option ℕ) → All Below (registers_in (base_reads base ++ offset_reads offset)) → InBase (place_base pl base) × All IsRegister (option_to_list (option_map pl offset))
  address_there (Fixed o) None h = (tt, All-nil IsRegister)
  address_there (Fixed o) (Some r) h = (tt, some_place (Some r) h)
  address_there (Through p claim) None h = (there p (All-head Below p [] h), All-nil IsRegister)
  address_there (Through p claim) (Some r) h = (there p (All-head Below p (r ∷ []) h), some_place (Some r) (All-tail Below p (r ∷ []) h))

  stored_there : (x : Operand ℕ) (rest : List (Operand ℕ)) → All Below (registers_in (x ∷ rest)) → InOperand (place_operand pl x) × All Below (registers_in rest)
  stored_there (Register r) rest h = (there r (All-head Below r (registers_in rest) h), All-tail Below r (registers_in rest) h)
  stored_there (Constant w) rest h = (tt, h)

  plain_there : (i : Plain ℕ) → All Below (registers_in (reads i)) → All Below (option_to_list (dest i)) → InPlain (place_plain pl i)
  plain_there (Set d x) h k = (into d k, one_operand x h)
  plain_there (Operate operator d x y) h k = let both = two_operands x y h in (into d k, both.0, both.1)
  plain_there (Point d a) h k = (into d k, address_there a.base a.offset h)
  plain_there (Load kind d a) h k = (into d k, address_there a.base a.offset h)
  plain_there (Store kind a x) h k = let both = stored_there x (address_reads a) h in (address_there a.base a.offset both.1, both.0)
  plain_there (Put x) h k = one_operand x h
  plain_there (Get d) h k = into d k

  module _ (kept : ℕ → List ℕ) where
    instr_there : (p : ℕ) (i : Instr ℕ Note) → RegistersWithin size i → InInstr (place_instr pl kept p i)
    instr_there p (Do i) h = plain_there i h.0 h.1
    instr_there p (Call d f args note) h = (some_place d h.1, all_operands args h.0)

    code_there : (p : ℕ) (is : List (Instr ℕ Note)) → All (RegistersWithin size) is → All InInstr (place_code pl kept p is)
    code_there p [] h = All-nil InInstr
    code_there p (i ∷ is) h = All-cons InInstr (place_instr pl kept p i) (place_code pl kept (suc p) is) (instr_there p i (All-head (RegistersWithin size) i is h)) (code_there (suc p) is (All-tail (RegistersWithin size) i is h))

    blocks_there : (p : ℕ) (bs : List (Block ℕ Note)) → All (UsesRegisters size) bs → All InBlock (place_blocks pl kept p bs)
    blocks_there p [] h = All-nil InBlock
    blocks_there p (b ∷ bs) h =
        let one = All-head (UsesRegisters size) b bs h in
        All-cons InBlock (place_block pl kept p b) (place_blocks pl kept (p + suc (length b.code)) bs) (code_there p b.code one.0, end_there b.end one.1) (blocks_there (p + suc (length b.code)) bs (All-tail (UsesRegisters size) b bs h))

module _ (a : Assignment) where
  functions_there : (k : ℕ) (fns : List (Function ℕ Note)) → ((f : ℕ) (fn : Function ℕ Note) → slice_get fns f ≡ Some fn → InFunction (place_function a (k + f) fn)) → All InFunction (place_functions a k fns)
  functions_there k [] h = All-nil InFunction
  functions_there k (fn ∷ fns) h =
      let n : k + 0 ≡ k = omega arith in
      All-cons InFunction (place_function a k fn) (place_functions a (suc k) fns) (subst (λ i. InFunction (place_function a i fn)) n (h 0 fn refl))
      (functions_there (suc k) fns (λ f x e. let m : k + suc f ≡ suc k + f = omega arith in subst (λ i. InFunction (place_function a i x)) m (h (suc f) x e)))

  pub placed_there : (low : Low) → IsLow low → IsAssignment a low → InProgram (placed a low)
  placed_there low ok fits =
      functions_there 0 low.functions (λ f fn e.
      let n : 0 + f ≡ f = omega arith in
      let h = ok.functions f fn e in
      let k = fits f fn e in
      let there = λ (v : ℕ) (less : v < fn.size). inside_is (a.slots f) (a.place f v) (k.inside v less) in
      subst (λ i. InFunction (place_function a i fn)) (sym n) (all_last (a.place f) fn.size fn.parameters h.parameters k.passed, blocks_there (a.place f) fn.size there (a.kept f) 0 fn.blocks h.registers))
