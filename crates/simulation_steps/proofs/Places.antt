-- The machine registers that hold values, and the words of frames.
use Rattle.std.proofs.Common.{◌≡◌, ◌≢◌, ◌⊎◌, ⊎_elim, inl, inr, ℕ, zero, suc, ◌+◌, ◌*◌, ◌%◌, ◌^◌, ◌<◌, ◌≤◌, List, [], ◌∷◌, length, Option, Some, None, sym, ap, ◌∙◌, subst, arith}
use Rattle.std.specs.Prelude.{slice_index_or}
use Rattle.std.proofs.lemmas.Bool.{cases_eq}
use Rattle.std.proofs.lemmas.Bool.Decides.{nat_tests, leb_tells}
use Rattle.rv_core.specs.declared.regions.Region.TheVariants.{Ram}
use Rattle.rv_core.specs.Regions.{region_of}
use Rattle.rv_core.specs.Images.{Image}
use Rattle.rv_core.specs.Memory.{loaded}
use Rattle.rv_core.specs.Stores as stores
use Rattle.low_ir.specs.Places.{machine_registers, result_register}
use Rattle.asm_program.specs.Numbers.{machine_register, result}
use Rattle.asm_program.specs.Frames.{Frame, frame_of, slot_at}
use Rattle.simulation_relation.specs.Plans.{frame_size}
use Rattle.simulation_relation.specs.Layouts.{Layout, AreOpen, IsOpen, IsLaid}
use Rattle.simulation_steps.proofs.Touching.{region_of-part}

-- a register that only a value is written to, x10 where the environment isn't called: none of x5, x6 and x17
pub record IsSteady (r : ℕ) : Type 0 where
  pub five : r ≢ 5
  pub six : r ≢ 6
  pub seventeen : r ≢ 17

-- a register of a value
pub record IsValue (r : ℕ) : Type 0 where
  pub some : 0 < r
  pub less : r < 32
  pub link_not : r ≢ 1
  pub base_not : r ≢ 3
  pub second_not : r ≢ 7
  pub steady : IsSteady r

pub lt_or : (a b : ℕ) → (a < b) ⊎ (b ≤ a)
lt_or a b = ⊎_elim (λ h. inr h.1) (λ h. let k = h.1 in inl (omega arith)) (leb_tells b a)

abbrev Cases : ℕ → ℕ → Type 0
Cases q r =
    ((q < 2) × (r ≡ 2 * q + 2))
    ⊎ (((2 ≤ q) × (q < 4) × (r ≡ q + 6))
    ⊎ (((4 ≤ q) × (q < 10) × (r ≡ q + 7))
    ⊎ (((10 ≤ q) × (q ≢ result_register) × (r ≡ q + 8))
    ⊎ ((q ≡ result_register) × (r ≡ 10)))))

cases_of : (q : ℕ) → Cases q (machine_register q)
cases_of q =
    ⊎_elim
    (λ (a : q < 2). inl (a, grind (arith, nat_tests)))
    (λ (a : 2 ≤ q).
    inr
    (⊎_elim
    (λ (b : q < 4). inl (a, b, grind (arith, nat_tests)))
    (λ (b : 4 ≤ q).
    inr
    (⊎_elim
    (λ (c : q < 10). inl (b, c, grind (arith, nat_tests)))
    (λ (c : 10 ≤ q).
    inr
    (⊎_elim
    (λ (d : q ≡ result_register). inr (d, ap machine_register d))
    (λ (d : q ≢ result_register). inl (c, d, grind (arith, d, nat_tests)))
    (cases_eq q result_register)))
    (lt_or q 10)))
    (lt_or q 4)))
    (lt_or q 2)

value_by : (q r : ℕ) → q ≤ result_register → Cases q r → IsValue r
value_by q r h (inl (a, e)) = record { some = omega arith; less = omega arith; link_not = λ x. omega (arith, x); base_not = λ x. omega (arith, x); second_not = λ x. omega (arith, x); steady = record { five = λ x. omega (arith, x); six = λ x. omega (arith, x); seventeen = λ x. omega (arith, x) } }
value_by q r h (inr (inl (a, b, e))) = record { some = omega arith; less = omega arith; link_not = λ x. omega (arith, x); base_not = λ x. omega (arith, x); second_not = λ x. omega (arith, x); steady = record { five = λ x. omega (arith, x); six = λ x. omega (arith, x); seventeen = λ x. omega (arith, x) } }
value_by q r h (inr (inr (inl (a, b, e)))) = record { some = omega arith; less = omega arith; link_not = λ x. omega (arith, x); base_not = λ x. omega (arith, x); second_not = λ x. omega (arith, x); steady = record { five = λ x. omega (arith, x); six = λ x. omega (arith, x); seventeen = λ x. omega (arith, x) } }
value_by q r h (inr (inr (inr (inl (a, n, e))))) = record { some = omega arith; less = omega arith; link_not = λ x. omega (arith, x); base_not = λ x. omega (arith, x); second_not = λ x. omega (arith, x); steady = record { five = λ x. omega (arith, x); six = λ x. omega (arith, x); seventeen = λ x. omega (arith, x) } }
value_by q r h (inr (inr (inr (inr (a, e))))) = record { some = omega arith; less = omega arith; link_not = λ x. omega (arith, x); base_not = λ x. omega (arith, x); second_not = λ x. omega (arith, x); steady = record { five = λ x. omega (arith, x); six = λ x. omega (arith, x); seventeen = λ x. omega (arith, x) } }

pub value_is : (q : ℕ) → q ≤ result_register → IsValue (machine_register q)
value_is q h = value_by q (machine_register q) h (cases_of q)

steady_by : (q r : ℕ) → Cases q r → IsSteady r
steady_by q r (inl (a, e)) = record { five = λ x. omega (arith, x); six = λ x. omega (arith, x); seventeen = λ x. omega (arith, x) }
steady_by q r (inr (inl (a, b, e))) = record { five = λ x. omega (arith, x); six = λ x. omega (arith, x); seventeen = λ x. omega (arith, x) }
steady_by q r (inr (inr (inl (a, b, e)))) = record { five = λ x. omega (arith, x); six = λ x. omega (arith, x); seventeen = λ x. omega (arith, x) }
steady_by q r (inr (inr (inr (inl (a, n, e))))) = record { five = λ x. omega (arith, x); six = λ x. omega (arith, x); seventeen = λ x. omega (arith, x) }
steady_by q r (inr (inr (inr (inr (a, e))))) = record { five = λ x. omega (arith, x); six = λ x. omega (arith, x); seventeen = λ x. omega (arith, x) }

-- each register that could hold a value is steady
pub steady_is : (q : ℕ) → IsSteady (machine_register q)
steady_is q = steady_by q (machine_register q) (cases_of q)

same_by : (q p r : ℕ) → Cases q r → Cases p r → q ≡ p
same_by q p r (inl (a, e)) (inl (c, d)) = omega arith
same_by q p r (inl (a, e)) (inr (inl (c, x, d))) = omega arith
same_by q p r (inl (a, e)) (inr (inr (inl (c, x, d)))) = omega arith
same_by q p r (inl (a, e)) (inr (inr (inr (inl (c, m, d))))) = omega arith
same_by q p r (inl (a, e)) (inr (inr (inr (inr (c, d))))) = omega arith
same_by q p r (inr (inl (a, b, e))) (inl (c, d)) = omega arith
same_by q p r (inr (inl (a, b, e))) (inr (inl (c, x, d))) = omega arith
same_by q p r (inr (inl (a, b, e))) (inr (inr (inl (c, x, d)))) = omega arith
same_by q p r (inr (inl (a, b, e))) (inr (inr (inr (inl (c, m, d))))) = omega arith
same_by q p r (inr (inl (a, b, e))) (inr (inr (inr (inr (c, d))))) = omega arith
same_by q p r (inr (inr (inl (a, b, e)))) (inl (c, d)) = omega arith
same_by q p r (inr (inr (inl (a, b, e)))) (inr (inl (c, x, d))) = omega arith
same_by q p r (inr (inr (inl (a, b, e)))) (inr (inr (inl (c, x, d)))) = omega arith
same_by q p r (inr (inr (inl (a, b, e)))) (inr (inr (inr (inl (c, m, d))))) = omega arith
same_by q p r (inr (inr (inl (a, b, e)))) (inr (inr (inr (inr (c, d))))) = omega arith
same_by q p r (inr (inr (inr (inl (a, n, e))))) (inl (c, d)) = omega arith
same_by q p r (inr (inr (inr (inl (a, n, e))))) (inr (inl (c, x, d))) = omega arith
same_by q p r (inr (inr (inr (inl (a, n, e))))) (inr (inr (inl (c, x, d)))) = omega arith
same_by q p r (inr (inr (inr (inl (a, n, e))))) (inr (inr (inr (inl (c, m, d))))) = omega arith
same_by q p r (inr (inr (inr (inl (a, n, e))))) (inr (inr (inr (inr (c, d))))) = omega arith
same_by q p r (inr (inr (inr (inr (a, e))))) (inl (c, d)) = omega arith
same_by q p r (inr (inr (inr (inr (a, e))))) (inr (inl (c, x, d))) = omega arith
same_by q p r (inr (inr (inr (inr (a, e))))) (inr (inr (inl (c, x, d)))) = omega arith
same_by q p r (inr (inr (inr (inr (a, e))))) (inr (inr (inr (inl (c, m, d))))) = omega arith
same_by q p r (inr (inr (inr (inr (a, e))))) (inr (inr (inr (inr (c, d))))) = a ∙ sym c

-- different values have different registers
pub machine_register-same : (q p : ℕ) → machine_register q ≡ machine_register p → q ≡ p
machine_register-same q p e = same_by q p (machine_register q) (cases_of q) (subst (λ x. Cases p x) (sym e) (cases_of p))

pub lasts : (q : ℕ) → q < machine_registers → q ≤ result_register
lasts q small = omega (arith, small)

-- what can hold a value over calls isn't x10
pub lasting_apart : (q : ℕ) → q < machine_registers → machine_register q ≢ result
lasting_apart q small e = let same = machine_register-same q result_register e in omega (arith, small, same)

-- a part of what is open
pub open-part : (fs : List stores.Frame) (a n b k : ℕ) → a ≤ b → b + k ≤ a + n → AreOpen fs a n → AreOpen fs b k
open-part [] a n b k from to h = h
open-part (f ∷ fs) a n b k from to (inl h) =
    let low = h.from in
    let high = h.to in
    inl (record { read = h.read; write = h.write; from = omega arith; to = omega arith })
open-part (f ∷ fs) a n b k from to (inr h) = inr (open-part fs a n b k from to h)

-- a word of a frame
pub record IsFrameWord (image : Image) (fr : Frame) (a : ℕ) : Type 0 where
  pub small : a < 2 ^ 32
  pub aligned : a % 4 ≡ 0
  pub ram : region_of a ≡ Some Ram
  pub opens : IsOpen image a 4
  pub from : fr.at ≤ a
  pub to : a + 4 ≤ fr.at + frame_size fr

pub frame_word : (l : Layout) (image : Image) → IsLaid l image → (f j : ℕ) → f < length l.program.functions → 4 * j + 4 ≤ frame_size (frame_of l.memory f) → IsFrameWord image (frame_of l.memory f) ((frame_of l.memory f).at + 4 * j)
frame_word l image laid f j there within =
    let fr = frame_of l.memory f in
    let placed = laid.plan.frames f there in
    let top : fr.at + frame_size fr ≤ 0x2020_0000 = placed.in_ram.to in
    let even = placed.aligned in
    record {
      small = omega arith;
      aligned = omega arith;
      ram = region_of-part Ram fr.at (frame_size fr) (fr.at + 4 * j) placed.in_ram (omega arith) (omega arith);
      opens = open-part (stores.frames_of (loaded image.segments)) fr.at (frame_size fr) (fr.at + 4 * j) 4 (omega arith) (omega arith) (laid.opens.frames f there);
      from = omega arith;
      to = omega arith;
    }

pub within : {A : Type 0} (xs : List (Option A)) (v : ℕ) (x : A) → slice_index_or xs v None ≡ Some x → v < length xs
within [] v x e = cc
within (y ∷ xs) zero x e = omega arith
within (y ∷ xs) (suc v) x e = let h = within xs v x e in omega arith

-- a slot that has a value is a word of the frame
pub slot_word : (l : Layout) (image : Image) → IsLaid l image → (f k : ℕ) → f < length l.program.functions → k < (frame_of l.memory f).slots → IsFrameWord image (frame_of l.memory f) (slot_at (frame_of l.memory f) k)
slot_word l image laid f k there less = frame_word l image laid f (1 + length (frame_of l.memory f).saved + length (frame_of l.memory f).homes + k) there (omega arith)
