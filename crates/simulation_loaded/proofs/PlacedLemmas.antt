-- In a program over places, calls keep registers that hold values.
use Rattle.std.proofs.Common.{◌≡◌, ℕ, zero, suc, ◌+◌, ◌/◌, ◌%◌, ◌^◌, ◌<◌, Bool, true, false, List, [], ◌∷◌, length, sym, ap, subst, ⊎_elim, arith, if◌then◌else◌}
use Rattle.std.specs.Prelude.{Option, Contains, ◌==◌, slice_index_or}
use Rattle.std.proofs.lemmas.Bool.{false≢true}
use Rattle.low_ir.specs.declared.places.Place.{Place}
use Rattle.low_ir.specs.Code.{Operand, Instr, Do, Call, Block, Function, Note, Low}
use Rattle.low_ir.specs.Effects.{is_member}
use Rattle.low_ir.specs.Places.{machine_registers, Placing, assignment, no_placing, registers_of, kept_in, place_code, place_blocks, place_functions, placed}
use Rattle.asm_program.specs.Functions.{PlacedBlock, no_function}
use Rattle.image_frames.proofs.TableLemmas.{member_cases}
use Rattle.simulation_loaded.specs.MemoryLaws.{KeepsRegisters}
use Rattle.simulation_loaded.proofs.SiteLemmas.{site_by, is_call}

registers_small : (n mask q : ℕ) → is_member (registers_of n mask) q ≡ true → q < n
registers_small zero mask q h = absurd (false≢true h)
registers_small (suc n) mask q h = by (mask / 2 ^ n % 2 == 1) h (registers_small n mask q)
  where
    on : q < n → q < suc n
    on l = omega (arith, l)

    by : (b : Bool) → is_member (if b then n ∷ registers_of n mask else registers_of n mask) q ≡ true → (is_member (registers_of n mask) q ≡ true → q < n) → q < suc n
    by true k go = ⊎_elim (λ e. omega (arith, e)) (λ m. on (go m)) (member_cases n q (registers_of n mask) k)
    by false k go = on (go k)

-- each note is what the assignment keeps somewhere
module _ (ps : List Placing) (f : ℕ) where
  abbrev kept : ℕ → List ℕ
  kept at = kept_in (slice_index_or ps f no_placing) at

  abbrev place : ℕ → Place
  place v = (assignment ps).place f v

  code_keeps : (at k : ℕ) (is : List (Instr ℕ Note)) (d : Option Place) (g : ℕ) (args : List (Operand Place)) (note : List ℕ) (q : ℕ) → k < length (place_code place kept at is) → slice_index_or (place_code place kept at is) k (Call d g args note) ≡ Call d g args note → is_member note q ≡ true → q < machine_registers
  code_keeps at k [] d g args note q less e h = absurd (omega (arith, less))
  code_keeps at zero (Do i ∷ is) d g args note q less e h = absurd (false≢true (ap is_call e))
  code_keeps at zero (Call x y z n ∷ is) d g args note q less e h =
      registers_small machine_registers (slice_index_or (slice_index_or ps f no_placing).kept at 0) q (subst (λ (xs : List ℕ). is_member xs q ≡ true) (sym (ap (λ (i : Instr Place (List ℕ)). (site_by i).kept) e)) h)
  code_keeps at (suc k) (i ∷ is) d g args note q less e h = code_keeps (suc at) k is d g args note q (omega (arith, less)) e h

  blocks_keep : (at k : ℕ) (bs : List (Block ℕ Note)) (b : PlacedBlock) (d : Option Place) (g : ℕ) (args : List (Operand Place)) (note : List ℕ) (q : ℕ) → k < length (place_blocks place kept at bs) → slice_index_or (place_blocks place kept at bs) k b ≡ b → Contains b.code (Call d g args note) → is_member note q ≡ true → q < machine_registers
  blocks_keep at k [] b d g args note q less e c h = absurd (omega (arith, less))
  blocks_keep at zero (x ∷ bs) b d g args note q less e c h =
      let there = subst (λ (y : PlacedBlock). Contains y.code (Call d g args note)) (sym e) c in
      code_keeps at there.0 x.code d g args note q there.1 there.2 h
  blocks_keep at (suc k) (x ∷ bs) b d g args note q less e c h = blocks_keep (at + suc (length x.code)) k bs b d g args note q (omega (arith, less)) e c h

functions_keep : (ps : List Placing) (k f : ℕ) (fns : List (Function ℕ Note)) (b : PlacedBlock) (d : Option Place) (g : ℕ) (args : List (Operand Place)) (note : List ℕ) (q : ℕ)
    → Contains (slice_index_or (place_functions (assignment ps) k fns) f no_function).blocks b → Contains b.code (Call d g args note) → is_member note q ≡ true → q < machine_registers
functions_keep ps k f [] b d g args note q there inside h = let less = there.1 in absurd (omega (arith, less))
functions_keep ps k zero (fn ∷ fns) b d g args note q there inside h = blocks_keep ps k 0 there.0 fn.blocks b d g args note q there.1 there.2 inside h
functions_keep ps k (suc f) (fn ∷ fns) b d g args note q there inside h = functions_keep ps (suc k) f fns b d g args note q there inside h

pub placed_keeps : (ps : List Placing) (low : Low) → KeepsRegisters (placed (assignment ps) low)
placed_keeps ps low f g b d args note less there inside q h = functions_keep ps 0 f low.functions b d g args note q there inside h
