-- Instructions that compute on words: what is set, operators, and bytes that are read and written.
use Rattle.std.proofs.Common.{◌≡◌, ◌≢◌, ℕ, ◌%◌, ◌^◌, ◌<◌, Bool, true, false, List, [], ◌∷◌, ◌++◌, length, Option, Some, None, ℤ, pos, refl, sym, ap, ◌∙◌, subst, arith}
use Rattle.std.specs.Prelude.{nat_lt, if◌then◌else◌, drop}
use Rattle.rv_core.specs.declared.op.Op.{Op}
use Rattle.rv_core.specs.declared.op.Op.TheVariants as ops
use Rattle.rv_core.specs.declared.row.Alu.{Alu}
use Rattle.rv_core.specs.declared.row.Alu.TheVariants.{Sum, Difference, ShiftLeft, IsLess, IsLessUnsigned, BitXor, ShiftRight, ShiftRightSigned, BitOr, BitAnd, Product, HighProduct, HighProductMixed, HighProductUnsigned, Quotient, QuotientUnsigned, Remainder, RemainderUnsigned}
use Rattle.rv_core.specs.declared.row.Effect.TheVariants.{WithImmediate, WithRegister}
use Rattle.rv_core.specs.Rows.{row_of}
use Rattle.rv_core.specs.Arithmetic.{word, alu_value}
use Rattle.rv_core.specs.Instructions.{instruction, addi, ecall}
use Rattle.rv_core.specs.Machine.{World, access_by, access_of, input_value, performed_by, sets, calls, register_of, with_register}
use Rattle.rv_core.specs.Code.{instruction_before}
use Rattle.rv_core.specs.Runs.{linkage_by}
use Rattle.rv_steps.specs.Steps.{Later}
use Rattle.rv_steps.proofs.StepLemmas.{register-written, register-other, length-written}
use Rattle.low_ir.specs.declared.places.Place.{Place}
use Rattle.low_ir.specs.declared.places.Place.TheVariants.{Register as InRegister, Slot}
use Rattle.low_ir.specs.declared.run.Value.{Value}
use Rattle.low_ir.specs.declared.run.Value.TheVariants.{Word}
use Rattle.low_ir.specs.Code.{Operand, Register, Constant}
use Rattle.low_ir.specs.Runs.{operand_value}
use Rattle.low_ir.specs.Places.{File, places}
use Rattle.asm_program.specs.Numbers.{base, base_address, result, service, first_free, second_free, machine_register, is_short, upper_of, lower_of}
use Rattle.asm_program.specs.Frames.{slot_at}
use Rattle.asm_program.specs.Operands.{place_register, operand_register, operand_code, into_code, result_code, store_code}
use Rattle.asm_program.specs.Emission.{register_op, with_number, with_amount, immediate_form, immediate_of, set_code, operate_by}
use Rattle.simulation_relation.specs.Noted.{Noted, single, singles}
use Rattle.simulation_relation.specs.Positions.{Course}
use Rattle.simulation_steps.proofs.Given.{Given, state, reg, At}
use Rattle.simulation_steps.proofs.Words.{word-lower, short-joined, test-zero}
use Rattle.simulation_steps.proofs.Places.{IsSteady, value_is}
use Rattle.simulation_steps.proofs.Touching.{touches_none}
use Rattle.simulation_steps.proofs.Stepping.{Wrote, go_on, set_one}
use Rattle.simulation_steps.proofs.Moving.{add_immediate}
use Rattle.simulation_steps.proofs.Operands.{frame, code, first_is_free, second_is_free, some_word, in_parts, Ready, ready_kept, operand, into, operand_apart, IsThere, IsOther, Gave, gave_behind, from_wrote, to_slot}
use Rattle.simulation_steps.proofs.Operands as operands

register_row : (operator : Alu) → (row_of (register_op operator)).effect ≡ WithRegister operator
register_row Sum = refl
register_row Difference = refl
register_row ShiftLeft = refl
register_row IsLess = refl
register_row IsLessUnsigned = refl
register_row BitXor = refl
register_row ShiftRight = refl
register_row ShiftRightSigned = refl
register_row BitOr = refl
register_row BitAnd = refl
register_row Product = refl
register_row HighProduct = refl
register_row HighProductMixed = refl
register_row HighProductUnsigned = refl
register_row Quotient = refl
register_row QuotientUnsigned = refl
register_row Remainder = refl
register_row RemainderUnsigned = refl

-- an operator with a number in its instruction
record IsForm (operator : Alu) (n : ℕ) (form : Op × ℤ) : Type 0 where
  effect : (row_of form.0).effect ≡ WithImmediate operator
  number : word form.1 ≡ n

number_form : (operator : Alu) (op : Op) (n : ℕ) (form : Op × ℤ) → (row_of op).effect ≡ WithImmediate operator → n < 2 ^ 32 → with_number op n ≡ Some form → IsForm operator n form
number_form operator op n form effect small e = by_size (is_short n) refl e
  where
    by_size : (b : Bool) → is_short n ≡ b → (if b then Some (op, lower_of n) else None) ≡ Some form → IsForm operator n form
    by_size true short e =
        let same : (op, lower_of n) ≡ form = cc in
        let low : word (lower_of n) ≡ n = let sum = short-joined n small (test-zero (upper_of n) short) in let part = word-lower n in omega arith in
        subst (IsForm operator n) same (record { effect = effect; number = low })
    by_size false short e = absurd cc

amount_form : (operator : Alu) (op : Op) (n : ℕ) (form : Op × ℤ) → (row_of op).effect ≡ WithImmediate operator → n < 2 ^ 32 → with_amount op n ≡ Some form → IsForm operator n form
amount_form operator op n form effect small e = by_size (nat_lt n 32) e
  where
    by_size : (b : Bool) → (if b then Some (op, pos n) else None) ≡ Some form → IsForm operator n form
    by_size true e =
        let same : (op, pos n) ≡ form = cc in
        subst (IsForm operator n) same (record { effect = effect; number = omega arith })
    by_size false e = absurd cc

form_is : (operator : Alu) (n : ℕ) (form : Op × ℤ) → n < 2 ^ 32 → immediate_form operator n ≡ Some form → IsForm operator n form
form_is Sum n form small e = number_form Sum ops.Addi n form refl small e
form_is Difference n form small e = absurd cc
form_is ShiftLeft n form small e = amount_form ShiftLeft ops.Slli n form refl small e
form_is IsLess n form small e = number_form IsLess ops.Slti n form refl small e
form_is IsLessUnsigned n form small e = number_form IsLessUnsigned ops.Sltiu n form refl small e
form_is BitXor n form small e = number_form BitXor ops.Xori n form refl small e
form_is ShiftRight n form small e = amount_form ShiftRight ops.Srli n form refl small e
form_is ShiftRightSigned n form small e = amount_form ShiftRightSigned ops.Srai n form refl small e
form_is BitOr n form small e = number_form BitOr ops.Ori n form refl small e
form_is BitAnd n form small e = number_form BitAnd ops.Andi n form refl small e
form_is Product n form small e = absurd cc
form_is HighProduct n form small e = absurd cc
form_is HighProductMixed n form small e = absurd cc
form_is HighProductUnsigned n form small e = absurd cc
form_is Quotient n form small e = absurd cc
form_is QuotientUnsigned n form small e = absurd cc
form_is Remainder n form small e = absurd cc
form_is RemainderUnsigned n form small e = absurd cc

module _ (g : Given) where
  -- a value is set
  pub set_lays : (k : Course) (P : ℕ → Type 0) (n f : ℕ) (file : File) (xs : List Noted) (d : Place) (x : Operand Place) (v : Value) → Ready g f file n → operand_value places file x ≡ Some v → IsThere g f d → code g v < 2 ^ 32
      → At g k n (singles (set_code (frame g f) d x) ++ xs) → ((m : ℕ) → Gave g k n m f d (code g v) xs → Later P m) → Later P n
  set_lays k P n f file xs (InRegister q) x v ready e inside small h go =
      let value = value_is q inside in
      into g k P n f (machine_register q) file xs x v value.some value.less ready e h (λ m a. go m (from_wrote g k n m f q (code g v) xs a))
  set_lays k P n f file xs (Slot j) x v ready e inside small h go =
      let r = operand_register (frame g f) first_free x in
      let rest = store_code second_free r (slot_at (frame g f) j) in
      operand g k P n f first_free file (singles rest ++ xs) x v first_is_free ready e (in_parts g k n (operand_code (frame g f) first_free x) rest xs h)
      (λ m a. to_slot g k P m f second_free r j (code g v) xs second_is_free (operand_apart g f n file x v ready e) ready.there inside small (ready_kept g f n m first_free file first_is_free ready a.world a.others).based a.value a.at
      (λ i b. go i (gave_behind g k n m i f (Slot j) (code g v) xs a.world (λ r s o. a.others r s.five) b)))

  -- the register of a place, or x5, is written
  pub target_some : (f : ℕ) (d : Place) → IsThere g f d → 0 < place_register (frame g f) first_free d
  target_some f (InRegister q) inside = (value_is q inside).some
  target_some f (Slot j) inside = omega arith

  pub target_less : (f : ℕ) (d : Place) → IsThere g f d → place_register (frame g f) first_free d < 32
  target_less f (InRegister q) inside = (value_is q inside).less
  target_less f (Slot j) inside = omega arith

  target_apart : (f : ℕ) (d : Place) (r : ℕ) → IsSteady r → IsOther g d r → r ≢ place_register (frame g f) first_free d
  target_apart f (InRegister q) r steady other = other
  target_apart f (Slot j) r steady other = steady.five

  target_based : (f : ℕ) (d : Place) → IsThere g f d → base ≢ place_register (frame g f) first_free d
  target_based f (InRegister q) inside = λ e. (value_is q inside).base_not (sym e)
  target_based f (Slot j) inside = λ e. omega (arith, e)

  -- what is computed into it goes to its place
  pub computed : (k : Course) (P : ℕ → Type 0) (n m f w : ℕ) (xs : List Noted) (d : Place) → f < length g.layout.program.functions → IsThere g f d → w < 2 ^ 32 → reg g n base ≡ base_address
      → Wrote g k n m (place_register (frame g f) first_free d) w (singles (result_code (frame g f) first_free second_free d) ++ xs) → ((j : ℕ) → Gave g k n j f d w xs → Later P j) → Later P m
  computed k P n m f w xs d there inside small based a go =
      operands.result g k P m f w xs d there inside small (a.others base (target_based f d inside) ∙ based) a.value a.at
      (λ j b. go j (gave_behind g k n m j f d w xs a.world (λ r s o. a.others r (target_apart f d r s o)) b))

  -- an operator of two operands, the right one in a register or in the instruction
  by_register : (k : Course) (P : ℕ → Type 0) (n f : ℕ) (file : File) (xs : List Noted) (operator : Alu) (d : Place) (x y : Operand Place) (a b : ℕ) → Ready g f file n → operand_value places file x ≡ Some (Word a) → operand_value places file y ≡ Some (Word b)
      → IsThere g f d → alu_value operator a b < 2 ^ 32 → At g k n (singles (operate_by (frame g f) None operator d x y) ++ xs) → ((m : ℕ) → Gave g k n m f d (alu_value operator a b) xs → Later P m) → Later P n
  by_register k P n f file xs operator d x y a b ready e1 e2 inside small h go =
      let fr = frame g f in
      let rx = operand_register fr first_free x in
      let ry = operand_register fr second_free y in
      let rd = place_register fr first_free d in
      let i = instruction (register_op operator) rd rx ry (pos 0) in
      let last = result_code fr first_free second_free d in
      let behind = operand_code fr second_free y ++ (i ∷ last) in
      operand g k P n f first_free file (singles behind ++ xs) x (Word a) first_is_free ready e1 (in_parts g k n (operand_code fr first_free x) behind xs h)
      (λ m p.
      let ready2 = ready_kept g f n m first_free file first_is_free ready p.world p.others in
      operand g k P m f second_free file (singles (i ∷ last) ++ xs) y (Word b) second_is_free ready2 e2 (in_parts g k m (operand_code fr second_free y) (i ∷ last) xs p.at)
      (λ j q.
      let ready3 = ready_kept g f m j second_free file second_is_free ready2 q.world q.others in
      let left : reg g j rx ≡ a = q.others rx (operand_apart g f n file x (Word a) ready e1) ∙ p.value in
      let s = state g j in
      set_one g k P j i (singles last ++ xs) rd (alu_value operator a b) (target_some f d inside) (target_less f d inside) q.at
      (touches_none g.layout s.pc (access_of i s) (ap (λ e. access_by e i s) (register_row operator)))
      (ap (λ e. linkage_by e (instruction_before s.world.memory s.pc) i) (register_row operator))
      (ap (λ e. performed_by e i s) (register_row operator) ∙ ap (λ u. sets rd (alu_value operator u (reg g j ry)) s) left ∙ ap (λ u. sets rd (alu_value operator a u) s) q.value)
      (λ t w. computed k P j t f (alu_value operator a b) xs d ready.there inside small ready3.based w
      (λ u z. go u (gave_behind g k n j u f d (alu_value operator a b) xs (q.world ∙ p.world) (λ r s o. q.others r s.six ∙ p.others r s.five) z)))))

  by_number : (k : Course) (P : ℕ → Type 0) (n f : ℕ) (file : File) (xs : List Noted) (operator : Alu) (d : Place) (x y : Operand Place) (a b : ℕ) (form : Op × ℤ) → Ready g f file n → operand_value places file x ≡ Some (Word a) → IsForm operator b form
      → IsThere g f d → alu_value operator a b < 2 ^ 32 → At g k n (singles (operate_by (frame g f) (Some form) operator d x y) ++ xs) → ((m : ℕ) → Gave g k n m f d (alu_value operator a b) xs → Later P m) → Later P n
  by_number k P n f file xs operator d x y a b form ready e1 is inside small h go =
      let fr = frame g f in
      let rx = operand_register fr first_free x in
      let rd = place_register fr first_free d in
      let i = instruction form.0 rd rx 0 form.1 in
      let last = result_code fr first_free second_free d in
      operand g k P n f first_free file (singles (i ∷ last) ++ xs) x (Word a) first_is_free ready e1 (in_parts g k n (operand_code fr first_free x) (i ∷ last) xs h)
      (λ m p.
      let ready2 = ready_kept g f n m first_free file first_is_free ready p.world p.others in
      let s = state g m in
      set_one g k P m i (singles last ++ xs) rd (alu_value operator a b) (target_some f d inside) (target_less f d inside) p.at
      (touches_none g.layout s.pc (access_of i s) (ap (λ e. access_by e i s) is.effect))
      (ap (λ e. linkage_by e (instruction_before s.world.memory s.pc) i) is.effect)
      (ap (λ e. performed_by e i s) is.effect ∙ ap (λ u. sets rd (alu_value operator u (word form.1)) s) p.value ∙ ap (λ u. sets rd (alu_value operator a u) s) is.number)
      (λ t w. computed k P m t f (alu_value operator a b) xs d ready.there inside small ready2.based w
      (λ u z. go u (gave_behind g k n m u f d (alu_value operator a b) xs p.world (λ r s o. p.others r s.five) z))))

  by_form : (k : Course) (P : ℕ → Type 0) (n f : ℕ) (file : File) (xs : List Noted) (operator : Alu) (d : Place) (x y : Operand Place) (a b : ℕ) (form : Option (Op × ℤ)) → Ready g f file n → operand_value places file x ≡ Some (Word a) → operand_value places file y ≡ Some (Word b)
      → immediate_of operator y ≡ form → IsThere g f d → alu_value operator a b < 2 ^ 32 → At g k n (singles (operate_by (frame g f) form operator d x y) ++ xs) → ((m : ℕ) → Gave g k n m f d (alu_value operator a b) xs → Later P m) → Later P n
  by_form k P n f file xs operator d x y a b None ready e1 e2 is inside small h go = by_register k P n f file xs operator d x y a b ready e1 e2 inside small h go
  by_form k P n f file xs operator d x (Register p) a b (Some form) ready e1 e2 is inside small h go = absurd cc
  by_form k P n f file xs operator d x (Constant c) a b (Some form) ready e1 e2 is inside small h go =
      let same : c % 2 ^ 32 ≡ b = ap (code g) (some_word (c % 2 ^ 32) (Word b) e2) in
      by_number k P n f file xs operator d x (Constant c) a b form ready e1 (subst (λ w. IsForm operator w form) same (form_is operator (c % 2 ^ 32) form (omega arith) is)) inside small h go

  pub operate_lays : (k : Course) (P : ℕ → Type 0) (n f : ℕ) (file : File) (xs : List Noted) (operator : Alu) (d : Place) (x y : Operand Place) (a b : ℕ) → Ready g f file n → operand_value places file x ≡ Some (Word a) → operand_value places file y ≡ Some (Word b)
      → IsThere g f d → alu_value operator a b < 2 ^ 32 → At g k n (singles (operate_by (frame g f) (immediate_of operator y) operator d x y) ++ xs) → ((m : ℕ) → Gave g k n m f d (alu_value operator a b) xs → Later P m) → Later P n
  operate_lays k P n f file xs operator d x y a b ready e1 e2 inside small h go = by_form k P n f file xs operator d x y a b (immediate_of operator y) ready e1 e2 refl inside small h go

  -- a byte was written: x10 and x17 alone have changed
  pub record Exchanged (k : Course) (n m : ℕ) (world : World) (xs : List Noted) : Type 0 where
    pub at : At g k m xs
    pub world_is : (state g m).world ≡ world
    pub others : (q : ℕ) → q ≢ result → q ≢ service → reg g m q ≡ reg g n q

  pub put_lays : (k : Course) (P : ℕ → Type 0) (n f : ℕ) (file : File) (xs : List Noted) (x : Operand Place) (w : ℕ) → Ready g f file n → operand_value places file x ≡ Some (Word w)
      → At g k n (singles (into_code (frame g f) result x ++ addi service 0 (pos 2) ∷ ecall ∷ []) ++ xs)
      → ((m : ℕ) → Exchanged k n m (record (state g n).world { output = (state g n).world.output ++ w % 2 ^ 8 ∷ [] }) xs → Later P m) → Later P n
  put_lays k P n f file xs x w ready e h go =
      let last = addi service 0 (pos 2) ∷ ecall ∷ [] in
      into g k P n f result file (singles last ++ xs) x (Word w) (omega arith) (omega arith) ready e (in_parts g k n (into_code (frame g f) result x) last xs h)
      (λ m p. add_immediate g k P m (single ecall ∷ xs) service 0 (pos 2) (omega arith) (omega arith) p.at
      (λ j q.
      let s = state g j in
      let two : reg g j service ≡ 2 = q.value ∙ omega arith in
      let byte : reg g j result ≡ w = q.others result (λ z. omega (arith, z)) ∙ p.value in
      let count = q.at.count in
      let b = reg g j result % 2 ^ 8 in
      let same : s.world ≡ (state g n).world = q.world ∙ p.world in
      go_on g k P j ecall xs (with_register s.registers result b) (record s.world { output = s.world.output ++ b ∷ [] }) q.at tt refl (ap (λ u. calls u s) two) (length-written s.registers result b ∙ count)
      (λ t a. go t
      (record {
        at = a.at;
        world_is = a.world_is ∙ ap (λ u. record s.world { output = s.world.output ++ u % 2 ^ 8 ∷ [] }) byte ∙ ap (λ (u : World). record u { output = u.output ++ w % 2 ^ 8 ∷ [] }) same;
        others = λ r ten seventeen. ap (λ v. register_of v r) a.registers_are ∙ register-other s.registers result b r ten ∙ q.others r seventeen ∙ p.others r ten;
      }))))

  -- a byte was read into x10
  pub record Took (k : Course) (n m : ℕ) (xs : List Noted) : Type 0 where
    pub at : At g k m xs
    pub world_is : (state g m).world ≡ record (state g n).world { input = drop 1 (state g n).world.input }
    pub value : reg g m result ≡ input_value (state g n).world.input
    pub others : (q : ℕ) → q ≢ result → q ≢ service → reg g m q ≡ reg g n q

  pub take_lays : (k : Course) (P : ℕ → Type 0) (n : ℕ) (xs : List Noted) → At g k n (single (addi service 0 (pos 1)) ∷ single ecall ∷ xs) → ((m : ℕ) → Took k n m xs → Later P m) → Later P n
  take_lays k P n xs h go =
      add_immediate g k P n (single ecall ∷ xs) service 0 (pos 1) (omega arith) (omega arith) h
      (λ j q.
      let s = state g j in
      let one : reg g j service ≡ 1 = q.value ∙ omega arith in
      let count = q.at.count in
      let byte = input_value s.world.input in
      go_on g k P j ecall xs (with_register s.registers result byte) (record s.world { input = drop 1 s.world.input }) q.at tt refl (ap (λ u. calls u s) one) (length-written s.registers result byte ∙ count)
      (λ t a. go t
      (record {
        at = a.at;
        world_is = a.world_is ∙ ap (λ (u : World). record u { input = drop 1 u.input }) q.world;
        value = ap (λ v. register_of v result) a.registers_are ∙ register-written s.registers result byte (omega arith) (omega arith) ∙ ap (λ (u : World). input_value u.input) q.world;
        others = λ r ten seventeen. ap (λ v. register_of v r) a.registers_are ∙ register-other s.registers result byte r ten ∙ q.others r seventeen;
      })))
