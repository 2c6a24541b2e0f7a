-- What the calls of code come to.
use Rattle.std.proofs.Common.{◌≡◌, ℕ, ◌+◌, ◌≤◌, List, [], ◌∷◌, refl, ap, arith}
use Rattle.low_ir.specs.Code.{Instr, Do, Call, Note}
use Rattle.low_ir.specs.Room.{called}

pub called_cons : (f : ℕ → ℕ) (i : Instr ℕ Note) (is : List (Instr ℕ Note)) → called f (i ∷ is) ≡ called f (i ∷ []) + called f is
called_cons f (Do i) is = let e : called f is ≡ 0 + called f is = omega arith in e
called_cons f (Call d g args note) is = omega arith

pub called_le : (f g : ℕ → ℕ) → ((n : ℕ) → f n ≤ g n) → (i : Instr ℕ Note) → called f (i ∷ []) ≤ called g (i ∷ [])
called_le f g le (Do i) = omega arith
called_le f g le (Call d h args note) = let k = le h in omega arith

pub called_eq : (f g : ℕ → ℕ) → ((n : ℕ) → f n ≡ g n) → (i : Instr ℕ Note) → called f (i ∷ []) ≡ called g (i ∷ [])
called_eq f g eq (Do i) = refl
called_eq f g eq (Call d h args note) = ap (λ n. n + 0) (eq h)
