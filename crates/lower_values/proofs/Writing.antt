-- Single instructions over a bank.
use Rattle.std.proofs.Common.{◌≡◌, ℕ, ◌<◌, ◌%◌, ◌^◌, true, List, [], ◌∷◌, length, Some, None, refl, ap, ◌∙◌, arith, get_or-set_same, get_or-set_other, length-set}
use Rattle.std.specs.Prelude.{slice_set, nat_lt}
use Rattle.std.proofs.lemmas.Bool.Decides.{nat_tests}
use Rattle.rv_core.specs.declared.row.Alu.{Alu}
use Rattle.rv_core.specs.Arithmetic.{alu_value}
use Rattle.low_ir.specs.declared.run.Value.{Value}
use Rattle.low_ir.specs.declared.run.Value.TheVariants.{Word}
use Rattle.low_ir.specs.Code.{Operand, Register, Constant, Plain, Set, Operate, Do}
use Rattle.low_ir.specs.Effects.{World, there, effect}
use Rattle.low_ir.specs.Runs.{Bank, virtual, set_in, values_cons, operand_value, write_to}
use Rattle.lower_definition.specs.Operators.{Code, only, operate}
use Rattle.lower_values.specs.Computing.{after_instr, computed, Has, Puts}
use Rattle.lower_values.specs.Meeting.{IsBelow}

pub write_inside : (s : Bank) (d : ℕ) (x : Value) → d < length s → virtual.write s d x ≡ Some (slice_set s d (Some x))
write_inside s d x inside =
    let test : nat_lt d (length s) ≡ true = grind (arith, nat_tests, inside) in
    ap (set_in s d x) test

-- a word that an operand has
pub has_word : (s : Bank) (x : Operand ℕ) (v : ℕ) → v < 2 ^ 32 → Has s x v → operand_value virtual s x ≡ Some (Word v)
has_word s (Register r) v small h = h
has_word s (Constant w) v small h =
    let same : w % 2 ^ 32 ≡ v = omega (arith, h, small) in
    ap (λ n. Some (Word n)) same

-- a constant is itself
pub has_constant : (s : Bank) (w : ℕ) → w < 2 ^ 32 → operand_value virtual s (Constant w) ≡ Some (Word w)
has_constant s w small = has_word s (Constant w) w small refl

-- an operand is still there where a register above it is written
pub has_behind : (s : Bank) (t : ℕ) (x : Operand ℕ) (v : ℕ) (z : Value) → IsBelow t x → Has s x v → Has (slice_set s t (Some z)) x v
has_behind s t (Register r) v z below h = get_or-set_other s t r (Some z) None (λ e. omega (arith, e, below)) ∙ h
has_behind s t (Constant w) v z below h = h

module _ (claims : List (List ℕ)) (u : World) where
  pub operate_after : (s : Bank) (operator : Alu) (d : ℕ) (x y : Operand ℕ) (m n : ℕ) → d < length s → operand_value virtual s x ≡ Some (Word m) → operand_value virtual s y ≡ Some (Word n) → after_instr claims u (Operate operator d x y) s ≡ Some (slice_set s d (Some (Word (alu_value operator m n))))
  operate_after s operator d x y m n inside ex ey =
      ap (λ o. there (there (values_cons o (values_cons (operand_value virtual s y) (Some []))) (λ xs. effect claims (Operate operator d x y) xs u)) (λ e. write_to virtual s (Some d) e.value)) ex
      ∙ ap (λ o. there (there (values_cons (Some (Word m)) (values_cons o (Some []))) (λ xs. effect claims (Operate operator d x y) xs u)) (λ e. write_to virtual s (Some d) e.value)) ey
      ∙ write_inside s d (Word (alu_value operator m n)) inside

  pub set_after : (s : Bank) (d : ℕ) (x : Operand ℕ) (v : Value) → d < length s → operand_value virtual s x ≡ Some v → after_instr claims u (Set d x) s ≡ Some (slice_set s d (Some v))
  set_after s d x v inside ex =
      ap (λ o. there (there (values_cons o (Some [])) (λ xs. effect claims (Set d x) xs u)) (λ e. write_to virtual s (Some d) e.value)) ex
      ∙ write_inside s d v inside

  -- code of one instruction
  pub puts_one : (i : Plain ℕ) (s : Bank) (t d v : ℕ) → d < length s → after_instr claims u i s ≡ Some (slice_set s d (Some (Word v))) → Puts claims u (only (Do i)) s t d v
  puts_one i s t d v inside e = record {
    store = slice_set s d (Some (Word v));
    does = ap (λ o. there o (computed claims u [])) e;
    size = length-set s d (Some (Word v));
    value = get_or-set_same s d (Some (Word v)) None inside;
    others = λ q below other. get_or-set_other s d q (Some (Word v)) None other;
  }

  -- code behind an instruction that writes the register t
  pub puts_behind : (i : Plain ℕ) (code : Code) (s : Bank) (t d w v : ℕ) → after_instr claims u i s ≡ Some (slice_set s t (Some (Word w))) → Puts claims u code (slice_set s t (Some (Word w))) t d v → Puts claims u (Do i ∷ code) s t d v
  puts_behind i code s t d w v e p = record {
    store = p.store;
    does = ap (λ o. there o (computed claims u code)) e ∙ p.does;
    size = p.size ∙ length-set s t (Some (Word w));
    value = p.value;
    others = λ q below other. p.others q below other ∙ get_or-set_other s t q (Some (Word w)) None (λ e. omega (arith, e, below));
  }

  pub puts_two : (i j : Plain ℕ) (s : Bank) (t d w v : ℕ) → d < t → t < length s → after_instr claims u i s ≡ Some (slice_set s t (Some (Word w))) → after_instr claims u j (slice_set s t (Some (Word w))) ≡ Some (slice_set (slice_set s t (Some (Word w))) d (Some (Word v))) → Puts claims u (Do i ∷ only (Do j)) s t d v
  puts_two i j s t d w v low inside ei ej =
      let s1 = slice_set s t (Some (Word w)) in
      let same = length-set s t (Some (Word w)) in
      puts_behind i (only (Do j)) s t d w v ei (puts_one j s1 t d v (omega (arith, low, inside, same)) ej)

  -- an operator into the register t, and then code
  pub operate_behind : (code : Code) (s : Bank) (operator : Alu) (t d : ℕ) (x y : Operand ℕ) (m n w v : ℕ) → t < length s → operand_value virtual s x ≡ Some (Word m) → operand_value virtual s y ≡ Some (Word n) → alu_value operator m n ≡ w → Puts claims u code (slice_set s t (Some (Word w))) t d v → Puts claims u (operate operator t x y ∷ code) s t d v
  operate_behind code s operator t d x y m n w v inside ex ey is p =
      puts_behind (Operate operator t x y) code s t d w v (operate_after s operator t x y m n inside ex ey ∙ ap (λ z. Some (slice_set s t (Some (Word z)))) is) p

  pub puts_operate : (s : Bank) (operator : Alu) (t d : ℕ) (x y : Operand ℕ) (m n v : ℕ) → d < length s → operand_value virtual s x ≡ Some (Word m) → operand_value virtual s y ≡ Some (Word n) → alu_value operator m n ≡ v → Puts claims u (only (operate operator d x y)) s t d v
  puts_operate s operator t d x y m n v inside ex ey is =
      puts_one (Operate operator d x y) s t d v inside (operate_after s operator d x y m n inside ex ey ∙ ap (λ w. Some (slice_set s d (Some (Word w)))) is)

  -- an operator into the register t, and then one on t and a constant
  pub puts_operates : (s : Bank) (first second : Alu) (t d : ℕ) (x y : Operand ℕ) (m n c w v : ℕ) → d < t → t < length s → c < 2 ^ 32 → operand_value virtual s x ≡ Some (Word m) → operand_value virtual s y ≡ Some (Word n) → alu_value first m n ≡ w → alu_value second w c ≡ v → Puts claims u (operate first t x y ∷ only (operate second d (Register t) (Constant c))) s t d v
  puts_operates s first second t d x y m n c w v low inside small ex ey e1 e2 =
      let s1 = slice_set s t (Some (Word w)) in
      let same = length-set s t (Some (Word w)) in
      puts_two (Operate first t x y) (Operate second d (Register t) (Constant c)) s t d w v low inside
      (operate_after s first t x y m n inside ex ey ∙ ap (λ z. Some (slice_set s t (Some (Word z)))) e1)
      (operate_after s1 second d (Register t) (Constant c) w c (omega (arith, low, inside, same)) (get_or-set_same s t (Some (Word w)) None inside) (has_constant s1 c small)
      ∙ ap (λ z. Some (slice_set s1 d (Some (Word z)))) e2)

  pub puts_operates_right : (s : Bank) (first second : Alu) (t d : ℕ) (x y : Operand ℕ) (m n c w v : ℕ) → d < t → t < length s → c < 2 ^ 32 → operand_value virtual s x ≡ Some (Word m) → operand_value virtual s y ≡ Some (Word n) → alu_value first m n ≡ w → alu_value second c w ≡ v → Puts claims u (operate first t x y ∷ only (operate second d (Constant c) (Register t))) s t d v
  puts_operates_right s first second t d x y m n c w v low inside small ex ey e1 e2 =
      let s1 = slice_set s t (Some (Word w)) in
      let same = length-set s t (Some (Word w)) in
      puts_two (Operate first t x y) (Operate second d (Constant c) (Register t)) s t d w v low inside
      (operate_after s first t x y m n inside ex ey ∙ ap (λ z. Some (slice_set s t (Some (Word z)))) e1)
      (operate_after s1 second d (Constant c) (Register t) c w (omega (arith, low, inside, same)) (has_constant s1 c small) (get_or-set_same s t (Some (Word w)) None inside)
      ∙ ap (λ z. Some (slice_set s1 d (Some (Word z)))) e2)
