-- Sums of multiples of the numbers of registers, modulo 2^32.
use Rattle.std.specs.Prelude.{◌≡◌, ℕ, ◌+◌, ◌*◌, ◌%◌, ◌^◌, ◌==◌, ◌&&◌, ◌||◌, Bool, false, not, if◌then◌else◌, List, [], ◌∷◌}
use Rattle.pass_dataflow_facts.specs.declared.forms.Term.{Term}
use Rattle.pass_dataflow_facts.specs.declared.forms.Form.{Form}

-- the numbers of registers
abbrev pub Numbers : Type 0
Numbers = ℕ → ℕ

abbrev pub terms_value : Numbers → List Term → ℕ
terms_value v [] = 0
terms_value v (t ∷ ts) = t.factor * v t.register + terms_value v ts

abbrev pub form_value : Numbers → Form → ℕ
form_value v f = f.constant + terms_value v f.terms

-- two numbers are the same modulo 2^32
abbrev pub Same : ℕ → ℕ → Type 0
Same x y = x % 2 ^ 32 ≡ y % 2 ^ 32

-- whether a term is of a register, but for the factor 0
abbrev pub is_of : ℕ → Term → Bool
is_of r t = (t.register == r) && not (t.factor == 0)

abbrev pub are_of : ℕ → List Term → Bool
are_of r [] = false
are_of r (t ∷ ts) = is_of r t || are_of r ts

-- how often a sum has a register
abbrev pub factor_in : ℕ → List Term → ℕ
factor_in r [] = 0
factor_in r (t ∷ ts) = (if t.register == r then t.factor else 0) + factor_in r ts
