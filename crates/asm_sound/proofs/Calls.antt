-- The code of calls keeps its ranges.
use Rattle.std.proofs.Common.{◌≡◌, ℕ, ◌<◌, Bool, true, false, List, [], ◌∷◌, ◌++◌, Option, Some, None, All, refl, arith, if◌then◌else◌}
use Rattle.std.specs.Option.{option_to_list}
use Rattle.std.proofs.lemmas.List.Elements.{All-cons, All-head, All-nil, All-tail}
use Rattle.asm_items.specs.Items.{in_rows}
use Rattle.asm_forms.proofs.FitLemmas.{rows-append}
use Rattle.low_ir.specs.declared.places.Place.{Place}
use Rattle.low_ir.specs.declared.places.Place.TheVariants.{Register as InRegister, Slot}
use Rattle.low_ir.specs.Code.{Operand}
use Rattle.low_ir.specs.Effects.{is_member}
use Rattle.asm_program.specs.Numbers.{result, first_free, second_free, machine_register}
use Rattle.asm_program.specs.Frames.{Frame, slot_at, home_at}
use Rattle.asm_program.specs.Operands.{load_code, store_code, operand_register, operand_code, into_code}
use Rattle.asm_program.specs.Emission.{is_direct, kept_among, home_code, return_code, store_argument, pass_code, late_code, value_code, before_call, behind_call}
use Rattle.asm_program.specs.Ranges.{IsLasting, IsRegister, InOperand}
use Rattle.asm_sound.proofs.Words.{rows_if}
use Rattle.asm_sound.proofs.Operands.{lasting_small, load_rows, store_rows, operand_small, operand_rows, into_rows, put_rows}

abbrev pub Below : ℕ → Type 0
Below q = q < 24

kept_by : (b : Bool) (q : ℕ) (qs : List ℕ) → q < 24 → All Below qs → All Below (if b then q ∷ qs else qs)
kept_by true q qs h k = All-cons Below q qs h k
kept_by false q qs h k = k

pub kept_below : (ps : List Place) (note : List ℕ) → All IsLasting ps → All Below (kept_among ps note)
kept_below [] note h = All-nil Below
kept_below (InRegister q ∷ ps) note h = kept_by (is_member note q) q (kept_among ps note) (All-head IsLasting (InRegister q) ps h) (kept_below ps note (All-tail IsLasting (InRegister q) ps h))
kept_below (Slot k ∷ ps) note h = kept_below ps note (All-tail IsLasting (Slot k) ps h)

module _ (fr : Frame) where
  home_rows : (qs : List ℕ) → All Below qs → in_rows (home_code fr qs) ≡ true
  home_rows [] h = refl
  home_rows (q ∷ qs) h = rows-append (store_code first_free (machine_register q) (home_at fr q)) (home_code fr qs) (store_rows first_free (machine_register q) (home_at fr q) (omega arith) (lasting_small q (All-head Below q qs h))) (home_rows qs (All-tail Below q qs h))

  return_rows : (qs : List ℕ) → All Below qs → in_rows (return_code fr qs) ≡ true
  return_rows [] h = refl
  return_rows (q ∷ qs) h = rows-append (load_code (machine_register q) (home_at fr q)) (return_code fr qs) (load_rows (machine_register q) (home_at fr q) (lasting_small q (All-head Below q qs h))) (return_rows qs (All-tail Below q qs h))

  module _ (callee : Frame) (all : List Place) where
    argument_rows : (x : Operand Place) (a : ℕ) → InOperand x → in_rows (store_argument fr callee all x a) ≡ true
    argument_rows x a h = rows-append (operand_code fr first_free x) (store_code second_free (operand_register fr first_free x) a) (operand_rows fr first_free x (omega arith)) (store_rows second_free (operand_register fr first_free x) a (omega arith) (operand_small fr first_free x (omega arith) h))

    pass_rows : (xs : List (Operand Place)) (ps : List Place) → All InOperand xs → All IsLasting ps → in_rows (pass_code fr callee all xs ps) ≡ true
    pass_rows [] ps h k = refl
    pass_rows (x ∷ xs) [] h k = refl
    pass_rows (x ∷ xs) (InRegister q ∷ ps) h k =
        let one = All-head InOperand x xs h in
        rows-append (if is_direct all q xs then into_code fr (machine_register q) x else store_argument fr callee all x (home_at callee q)) (pass_code fr callee all xs ps)
        (rows_if (is_direct all q xs) (into_code fr (machine_register q) x) (store_argument fr callee all x (home_at callee q)) (into_rows fr (machine_register q) x (lasting_small q (All-head IsLasting (InRegister q) ps k)) one) (argument_rows x (home_at callee q) one))
        (pass_rows xs ps (All-tail InOperand x xs h) (All-tail IsLasting (InRegister q) ps k))
    pass_rows (x ∷ xs) (Slot n ∷ ps) h k =
        rows-append (store_argument fr callee all x (slot_at callee n)) (pass_code fr callee all xs ps) (argument_rows x (slot_at callee n) (All-head InOperand x xs h)) (pass_rows xs ps (All-tail InOperand x xs h) (All-tail IsLasting (Slot n) ps k))

    late_rows : (xs : List (Operand Place)) (ps : List Place) → All IsLasting ps → in_rows (late_code fr callee all xs ps) ≡ true
    late_rows [] ps k = refl
    late_rows (x ∷ xs) [] k = refl
    late_rows (x ∷ xs) (InRegister q ∷ ps) k =
        rows-append (if is_direct all q xs then [] else load_code (machine_register q) (home_at callee q)) (late_code fr callee all xs ps)
        (rows_if (is_direct all q xs) [] (load_code (machine_register q) (home_at callee q)) refl (load_rows (machine_register q) (home_at callee q) (lasting_small q (All-head IsLasting (InRegister q) ps k)))) (late_rows xs ps (All-tail IsLasting (InRegister q) ps k))
    late_rows (x ∷ xs) (Slot n ∷ ps) k = late_rows xs ps (All-tail IsLasting (Slot n) ps k)

  value_rows : (d : Option Place) → All IsRegister (option_to_list d) → in_rows (value_code fr d) ≡ true
  value_rows None h = refl
  value_rows (Some d) h = put_rows fr result d (omega arith) (All-head IsRegister d [] h)

  pub before_rows : (callee : Frame) (ps : List Place) (note : List ℕ) (args : List (Operand Place)) → All IsLasting ps → All InOperand args → in_rows (before_call fr callee ps note args) ≡ true
  before_rows callee ps note args h k =
      rows-append (home_code fr (kept_among ps note)) (pass_code fr callee ps args ps ++ late_code fr callee ps args ps) (home_rows (kept_among ps note) (kept_below ps note h))
      (rows-append (pass_code fr callee ps args ps) (late_code fr callee ps args ps) (pass_rows callee ps args ps k h) (late_rows callee ps args ps h))

  pub behind_rows : (d : Option Place) (ps : List Place) (note : List ℕ) → All IsLasting ps → All IsRegister (option_to_list d) → in_rows (behind_call fr d ps note) ≡ true
  behind_rows d ps note h k = rows-append (return_code fr (kept_among ps note)) (value_code fr d) (return_rows (kept_among ps note) (kept_below ps note h)) (value_rows d k)
