-- A program that returns a word at once; for tests.
use Rattle.std.specs.Prelude.{ℕ, [], ◌∷◌}
use Rattle.high_ir.specs.Tree.{Constant, Program, Return}

abbrev pub returning : ℕ → Program
returning word = record { functions = (record { values = 0; arrays = 0; locals = 0; rank = 0; body = Return (Constant word) }) ∷ []; objects = []; main = 0; marks = 1; loops = 0 }
