-- The stores of a call: what the caller keeps, and the callee's places with the arguments.
use Rattle.std.proofs.Common.{◌≡◌, ◌≢◌, ⊎_elim, ℕ, zero, suc, ◌^◌, ◌<◌, ◌≤◌, true, List, [], ◌∷◌, length, Option, Some, None, refl, sym, ap, ◌∙◌, subst, arith, get_or-set_same, get_or-set_other, length-set}
use Rattle.std.specs.Prelude.{take, replicate, slice_index_or, slice_set}
use Rattle.std.proofs.lemmas.Bool.{cases_eq}
use Rattle.std.proofs.lemmas.List.{length-replicate}
use Rattle.low_ir.specs.declared.places.Place.{Place}
use Rattle.low_ir.specs.declared.places.Place.TheVariants.{Register as InRegister, Slot}
use Rattle.low_ir.specs.declared.run.Value.{Value}
use Rattle.low_ir.specs.Code.{Operand}
use Rattle.low_ir.specs.Effects.{is_member}
use Rattle.low_ir.specs.Runs.{Bank, operand_value, values, write_all}
use Rattle.low_ir.specs.Places.{File, read_place, write_place, with_registers, kept_of, result_register, places}
use Rattle.asm_program.specs.Frames.{Frame, Memory}
use Rattle.simulation_relation.specs.Views.{code_of, HasRoom}
use Rattle.simulation_steps.proofs.Places.{within}
use Rattle.simulation_steps.proofs.Homes.{member_head, member_tail}
use Rattle.simulation_law.proofs.Passing.{split}

none_there : (n q : ℕ) (x : Value) → slice_index_or (replicate n None) q None ≡ Some x → ⊥
none_there zero q x e = cc
none_there (suc n) zero x e = cc
none_there (suc n) (suc q) x e = none_there n q x e

-- a register that is kept
pub kept_value : (note : List ℕ) (s : Bank) (q : ℕ) (x : Value) → slice_index_or (kept_of note s) q None ≡ Some x → (is_member note q ≡ true) × (slice_index_or s q None ≡ Some x)
kept_value [] s q x e = absurd (none_there (length s) q x e)
kept_value (r ∷ note) s q x e =
    ⊎_elim
    (λ (same : q ≡ r).
    let own = slice_index_or s r None in
    let less : q < length (kept_of note s) = let l = within (slice_set (kept_of note s) r own) q x e in let long = length-set (kept_of note s) r own in omega arith in
    let at_r : slice_index_or (slice_set (kept_of note s) r own) r None ≡ Some x = subst (λ z. slice_index_or (slice_set (kept_of note s) r own) z None ≡ Some x) same e in
    let value : own ≡ Some x = sym (get_or-set_same (kept_of note s) r own None (subst (λ z. z < length (kept_of note s)) same less)) ∙ at_r in
    (subst (λ z. is_member (r ∷ note) z ≡ true) (sym same) (member_head r note), subst (λ z. slice_index_or s z None ≡ Some x) (sym same) value))
    (λ (other : q ≢ r).
    let h = kept_value note s q x (sym (get_or-set_other (kept_of note s) r q (slice_index_or s r None) None other) ∙ e) in
    (member_tail r q note h.0, h.1))
    (cases_eq q r)

kept_length : (note : List ℕ) (s : Bank) → length (kept_of note s) ≡ length s
kept_length [] s = length-replicate (length s) None
kept_length (q ∷ note) s = length-set (kept_of note s) q (slice_index_or s q None) ∙ kept_length note s

abbrev pub kept_file : List ℕ → File → File
kept_file note t = with_registers t (kept_of note t.registers)

pub kept_room : (m : Memory) (fr : Frame) (note : List ℕ) (t : File) → HasRoom m fr t → HasRoom m fr (kept_file note t)
kept_room m fr note t room = record { registers = kept_length note t.registers ∙ room.registers; slots = room.slots; words = words }
  where
    words : (p : Place) (x : Value) → read_place (kept_file note t) p ≡ Some x → code_of m x < 2 ^ 32
    words (InRegister q) x e = room.words (InRegister q) x (kept_value note t.registers q x e).1
    words (Slot k) x e = room.words (Slot k) x e

-- a callee's places have no values at first
abbrev pub empty_file : ℕ → File
empty_file n = record { registers = replicate (suc result_register) None; slots = replicate n None }

pub empty_reads : (n : ℕ) (p : Place) (x : Value) → read_place (empty_file n) p ≡ Some x → ⊥
empty_reads n (InRegister q) x e = none_there (suc result_register) q x e
empty_reads n (Slot k) x e = none_there n k x e

pub empty_room : (m : Memory) (fr : Frame) (n : ℕ) → n ≤ fr.slots → HasRoom m fr (empty_file n)
empty_room m fr n few =
    let none : Option Value = None in
    record {
      registers = length-replicate (suc result_register) none;
      slots = let long : length (empty_file n).slots ≡ n = length-replicate n none in omega arith;
      words = λ p x e. absurd (empty_reads n p x e);
    }

-- a good call has as many arguments as there are parameters
pub all_taken : (t w : File) (xs : List (Operand Place)) (ps : List Place) (vs : List Value) (o : Option File) → values places t xs ≡ Some vs → write_all places o ps vs ≡ Some w → take (length xs) ps ≡ ps
all_taken t w xs ps vs None e written = absurd cc
all_taken t w [] [] vs (Some u) e written = refl
all_taken t w [] (p ∷ ps) [] (Some u) e written = absurd cc
all_taken t w [] (p ∷ ps) (v ∷ vs) (Some u) e written = absurd cc
all_taken t w (x ∷ xs) [] vs (Some u) e written = refl
all_taken t w (x ∷ xs) (p ∷ ps) vs (Some u) e written =
    let s = split (operand_value places t x) (values places t xs) vs e in
    ap (λ qs. p ∷ qs) (all_taken t w xs ps s.rest (write_place u p s.head) s.others (subst (λ z. write_all places (Some u) (p ∷ ps) z ≡ Some w) s.are written))
