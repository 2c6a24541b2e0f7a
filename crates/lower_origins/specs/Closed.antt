-- What calls pass for array parameters is among what is listed of them.
use Rattle.std.specs.Prelude.{◌≡◌, ℕ, ◌<◌, true, List, [], ◌∷◌, length, Some, slice_get, slice_index_or}
use Rattle.high_ir.specs.declared.object.Base.{Base}
use Rattle.high_ir.specs.Formed.{IsHigh}
use Rattle.high_ir.specs.Tree.{Function, Program}
use Rattle.low_ir.specs.Effects.{is_member}
use Rattle.lower_definition.specs.Calls.{Passed, Site, all_passed, meant, order, sites_of}

-- what is listed of a function, and of one of its array parameters
abbrev pub listed : Passed → ℕ → List (List ℕ)
listed passed f = slice_index_or passed f []

abbrev pub listed_at : Passed → ℕ → ℕ → List ℕ
listed_at passed f j = slice_index_or (listed passed f) j []

-- a call in a function that was passed these arrays passes only what is listed of the function that it calls
abbrev pub IsCovered : (objects : ℕ) → List (List ℕ) → Passed → Site → Type 0
IsCovered objects own passed s =
    (j : ℕ) (b : Base) (o : ℕ) → slice_get s.arrays j ≡ Some b → j < length (listed passed s.function) → is_member (meant objects own b) o ≡ true → is_member (listed_at passed s.function j) o ≡ true

abbrev pub AreCovered : (objects : ℕ) → List (List ℕ) → Passed → List Site → Type 0
AreCovered objects own passed [] = Unit {0}
AreCovered objects own passed (s ∷ ss) = IsCovered objects own passed s × AreCovered objects own passed ss

-- each call in a function of the low program does
abbrev pub ClaimsAreClosed : Type 0
ClaimsAreClosed =
    (p : Program) → IsHigh p → (f : ℕ) (h : Function) → is_member (order p) f ≡ true → slice_get p.functions f ≡ Some h → AreCovered (length p.objects) (listed (all_passed p) f) (all_passed p) (sites_of h.body)
