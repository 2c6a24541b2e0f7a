-- What instructions read, where words are in registers.
use Rattle.std.proofs.Common.{◌≡◌, ℕ, suc, Bool, true, false, List, [], ◌∷◌, Option, Some, None, refl, sym, ap, ◌∙◌}
use Rattle.std.specs.Prelude.{◌==◌, ◌%◌, ◌^◌, if◌then◌else◌}
use Rattle.std.proofs.lemmas.Bool.{eqb-true}
use Rattle.low_ir.specs.declared.run.Value.{Value}
use Rattle.low_ir.specs.declared.run.Value.TheVariants.{Word}
use Rattle.rv_core.specs.declared.row.Alu.{Alu}
use Rattle.low_ir.specs.Code.{Operand, Register, Constant, Plain, Set, Operate, Point, Load, Store, Put, Get, Instr, Do, Call, Note}
use Rattle.low_ir.specs.Effects.{World, reads, dest, effect, address_reads}
use Rattle.low_ir.specs.Formed.{addresses, callee, written_by}
use Rattle.low_ir.specs.Runs.{Bank, operand_value, values, values_cons, virtual}
use Rattle.pass_constant_hoisting.specs.Holding.{by_register, has_in_itself, held, held_instr, held_plain, held_right, register_of}
use Rattle.pass_constant_hoisting.proofs.Stores.{AllHold, Shows}

pub values_parts : (o : Option Value) (os : Option (List Value)) (xs : List Value) → values_cons o os ≡ Some xs → (x : Value) × (ys : List Value) × (o ≡ Some x) × (os ≡ Some ys) × (xs ≡ x ∷ ys)
values_parts None os xs e = cc
values_parts (Some x) None xs e = cc
values_parts (Some x) (Some ys) xs e = (x, ys, refl, refl, cc)

-- a word is read from its register, or stands in the instruction
word_held : (t : Bank) (r : ℕ) (ws : List ℕ) (w : ℕ) → AllHold t r ws → operand_value virtual t (by_register (register_of r ws w) w) ≡ Some (Word (w % 2 ^ 32))
word_held t r [] w h = refl
word_held t r (v ∷ vs) w h = by_test (v == w) refl (word_held t (suc r) vs w h.1)
  where
    by_test : (b : Bool) → (v == w) ≡ b → operand_value virtual t (by_register (register_of (suc r) vs w) w) ≡ Some (Word (w % 2 ^ 32)) → operand_value virtual t (by_register (if b then Some r else register_of (suc r) vs w) w) ≡ Some (Word (w % 2 ^ 32))
    by_test true g other = h.0 ∙ ap (λ m. Some (Word (m % 2 ^ 32))) (eqb-true v w g)
    by_test false g other = other

module _ (s t : Bank) where
  -- what is read of an operand is read of another one
  abbrev pub Stands : Operand ℕ → Operand ℕ → Type 0
  Stands x y = (v : Value) → operand_value virtual s x ≡ Some v → operand_value virtual t y ≡ Some v

  abbrev pub AllStand : List (Operand ℕ) → List (Operand ℕ) → Type 0
  AllStand [] [] = Unit {0}
  AllStand [] (y ∷ ys) = ⊥
  AllStand (x ∷ xs) [] = ⊥
  AllStand (x ∷ xs) (y ∷ ys) = Stands x y × AllStand xs ys

  pub values_stand : (xs ys : List (Operand ℕ)) (vs : List Value) → AllStand xs ys → values virtual s xs ≡ Some vs → values virtual t ys ≡ Some vs
  values_stand [] [] vs h e = e
  values_stand [] (y ∷ ys) vs h e = absurd h
  values_stand (x ∷ xs) [] vs h e = absurd h
  values_stand (x ∷ xs) (y ∷ ys) vs h e =
      let k = values_parts (operand_value virtual s x) (values virtual s xs) vs e in
      ap (λ o. values_cons o (values virtual t ys)) (h.0 k.0 k.2)
      ∙ ap (λ o. values_cons (Some k.0) o) (values_stand xs ys k.1 h.1 k.3)
      ∙ ap (λ l. Some l) (sym k.4)

  module _ (n k : ℕ) (shows : Shows n k s t) where
    pub plain_stands : (x : Operand ℕ) → Stands x x
    plain_stands (Register r) v e = shows.same r v e
    plain_stands (Constant w) v e = e

    pub all_stand : (xs : List (Operand ℕ)) → AllStand xs xs
    all_stand [] = tt
    all_stand (x ∷ xs) = (plain_stands x, all_stand xs)

    module _ (ws : List ℕ) (holds : AllHold t n ws) where
      pub held_stands : (x : Operand ℕ) → Stands x (held n ws x)
      held_stands (Register r) v e = shows.same r v e
      held_stands (Constant w) v e = word_held t n ws w holds ∙ e

      right_stands : (operator : Alu) (x : Operand ℕ) → Stands x (held_right n ws operator x)
      right_stands operator (Register r) v e = shows.same r v e
      right_stands operator (Constant w) v e = by_test (has_in_itself operator w)
        where
          by_test : (b : Bool) → operand_value virtual t (if b then Constant w else held n ws (Constant w)) ≡ Some v
          by_test true = e
          by_test false = held_stands (Constant w) v e

      pub reads_stand : (i : Plain ℕ) → AllStand (reads i) (reads (held_plain n ws i))
      reads_stand (Set d x) = (plain_stands x, tt)
      reads_stand (Operate operator d x y) = (held_stands x, (right_stands operator y, tt))
      reads_stand (Point d a) = all_stand (address_reads a)
      reads_stand (Load kind d a) = all_stand (address_reads a)
      reads_stand (Store kind a x) = (held_stands x, all_stand (address_reads a))
      reads_stand (Put x) = (plain_stands x, tt)
      reads_stand (Get d) = tt

module _ (n : ℕ) (ws : List ℕ) where
  pub dest_held : (i : Plain ℕ) → dest (held_plain n ws i) ≡ dest i
  dest_held (Set d x) = refl
  dest_held (Operate operator d x y) = refl
  dest_held (Point d a) = refl
  dest_held (Load kind d a) = refl
  dest_held (Store kind a x) = refl
  dest_held (Put x) = refl
  dest_held (Get d) = refl

  pub effect_held : (claims : List (List ℕ)) (i : Plain ℕ) (xs : List Value) (u : World) → effect claims (held_plain n ws i) xs u ≡ effect claims i xs u
  effect_held claims (Set d x) xs u = refl
  effect_held claims (Operate operator d x y) xs u = refl
  effect_held claims (Point d a) xs u = refl
  effect_held claims (Load kind d a) xs u = refl
  effect_held claims (Store kind a x) xs u = refl
  effect_held claims (Put x) xs u = refl
  effect_held claims (Get d) xs u = refl

  pub written_held : (i : Instr ℕ Note) → written_by (held_instr n ws i) ≡ written_by i
  written_held (Do i) = dest_held i
  written_held (Call d f args note) = refl

  pub callee_held : (i : Instr ℕ Note) → callee (held_instr n ws i) ≡ callee i
  callee_held (Do i) = refl
  callee_held (Call d f args note) = refl

  pub addresses_held : (i : Instr ℕ Note) → addresses (held_instr n ws i) ≡ addresses i
  addresses_held (Do (Set d x)) = refl
  addresses_held (Do (Operate operator d x y)) = refl
  addresses_held (Do (Point d a)) = refl
  addresses_held (Do (Load kind d a)) = refl
  addresses_held (Do (Store kind a x)) = refl
  addresses_held (Do (Put x)) = refl
  addresses_held (Do (Get d)) = refl
  addresses_held (Call d f args note) = refl
