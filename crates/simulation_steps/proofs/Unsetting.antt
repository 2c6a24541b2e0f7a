-- What is left of an activation's places where the environment was called, and which registers are as they were then.
use Rattle.std.proofs.Common.{◌≡◌, ◌≢◌, ⊎_elim, ℕ, Bool, true, false, Some, None, sym, ap, ◌∙◌, arith, get_or-set_same, get_or-set_other, length-set}
use Rattle.std.specs.Prelude.{slice_index_or, slice_set}
use Rattle.std.proofs.lemmas.Bool.{cases_eq}
use Rattle.low_ir.specs.declared.places.Place.{Place}
use Rattle.low_ir.specs.declared.places.Place.TheVariants.{Register as InRegister, Slot}
use Rattle.low_ir.specs.declared.run.Value.{Value}
use Rattle.low_ir.specs.Places.{File, read_place, result_register, unset_if}
use Rattle.asm_program.specs.Numbers.{machine_register, result}
use Rattle.asm_program.specs.Frames.{Frame, Memory}
use Rattle.simulation_relation.specs.Views.{HasRoom}
use Rattle.simulation_steps.proofs.Places.{machine_register-same, within}

none_some : (x : Value) → None ≡ Some x → ⊥
none_some x e = cc

same_register : (q r : ℕ) → InRegister q ≡ InRegister r → q ≡ r
same_register q r e = cc

pub unset_read : (b : Bool) (t : File) (p : Place) (x : Value) → read_place (unset_if b t) p ≡ Some x → (read_place t p ≡ Some x) × (b ≡ true → p ≢ InRegister result_register)
unset_read false t p x e = (e, λ z s. cc)
unset_read true t (Slot k) x e = (e, λ z s. cc)
unset_read true t (InRegister q) x e =
    ⊎_elim
    (λ (same : q ≡ result_register).
    let less = within (slice_set t.registers result_register None) q x e in
    let long = length-set t.registers result_register None in
    let none : slice_index_or (slice_set t.registers result_register None) q None ≡ None =
    ap (λ n. slice_index_or (slice_set t.registers result_register None) n None) same ∙ get_or-set_same t.registers result_register None None (omega (arith, less, long, same)) in
    absurd (none_some x (sym none ∙ e)))
    (λ (other : q ≢ result_register). (sym (get_or-set_other t.registers result_register q None None other) ∙ e, λ z s. other (same_register q result_register s)))
    (cases_eq q result_register)

pub unset_room : (m : Memory) (fr : Frame) (b : Bool) (t : File) → HasRoom m fr t → HasRoom m fr (unset_if b t)
unset_room m fr false t room = room
unset_room m fr true t room =
    record { registers = length-set t.registers result_register None ∙ room.registers; slots = room.slots; words = λ p x e. room.words p x (unset_read true t p x e).0 }

-- a register that an instruction leaves as it was, where it calls the environment and where it doesn't
abbrev pub Spared : Bool → ℕ → Type 0
Spared b r = b ≡ true → r ≢ result

pub place_spared : (b : Bool) (q : ℕ) → (b ≡ true → InRegister q ≢ InRegister result_register) → Spared b (machine_register q)
place_spared b q h s e = h s (ap InRegister (machine_register-same q result_register e))
