-- What a layout takes from the form of a program over places.
use Rattle.std.specs.Prelude.{◌≡◌, ℕ, ◌<◌, ◌≤◌, true, length, Some, All, AllPairs, Contains, slice_get}
use Rattle.low_ir.specs.Formed.{LeadsTo, IsLoop, AreNested, is_back}
use Rattle.low_ir.specs.Places.{Placed}
use Rattle.asm_program.specs.Functions.{PlacedFunction, callees_of}

pub record IsFunction (f : ℕ) (fn : PlacedFunction) : Type 0 where
  pub some : 0 < length fn.blocks
  pub calls : (g : ℕ) → Contains (callees_of fn) g → g < f
  pub stays : (b n : ℕ) → LeadsTo fn b n → n < length fn.blocks
  pub forward : (b n : ℕ) → LeadsTo fn b n → n ≤ b → is_back fn.loops b n ≡ true
  pub loops : All (IsLoop fn) fn.loops
  pub nested : AllPairs AreNested fn.loops

pub record IsProgram (p : Placed) : Type 0 where
  pub main : p.main < length p.functions
  pub functions : (f : ℕ) (fn : PlacedFunction) → slice_get p.functions f ≡ Some fn → IsFunction f fn
