-- Addresses behind other code.
use Rattle.std.proofs.Common.{◌≡◌, ℕ, zero, suc, List, ◌++◌, Option, Some, None, refl, sym, ap, ◌∙◌, append_assoc}
use Rattle.high_ir.specs.declared.object.Array.{Array}
use Rattle.rv_core.specs.declared.row.Alu.TheVariants as alu
use Rattle.low_ir.specs.Code.{Operand, Register, Constant, Base, Do, Load}
use Rattle.lower_definition.specs.Objects.{kind_of, scale_of}
use Rattle.lower_definition.specs.Operators.{Code, only, operate}
use Rattle.lower_definition.specs.Values.{Scope, Share, Coded, Index, Offset, address, base_of, bytes, element_into, load_into, offset_by, offset_of, scaled, scaled_by, shared}
use Rattle.lower_expression.specs.Behind.{after, after_index, after_offset}

scaled_by_after : (s : Option ℕ) (scale r : ℕ) (before : Code) (i : Index) → scaled_by s scale r (after_index before i) ≡ after_offset before (scaled_by s scale r i)
scaled_by_after (Some s) scale r before i = refl
scaled_by_after None scale r before i =
    ap (λ (code : Code). the_offset code) (append_assoc before i.part.code (only (operate alu.ShiftLeft i.part.free (Register r) (Constant scale))))
  where
    the_offset : Code → Offset
    the_offset code = record { code = code; register = Some i.part.free; displacement = bytes scale i.constant; free = suc i.part.free }

scaled_after : (shares : List Share) (scale r : ℕ) (before : Code) (i : Index) → scaled shares scale r (after_index before i) ≡ after_offset before (scaled shares scale r i)
scaled_after shares zero r before i = refl
scaled_after shares (suc k) r before i = scaled_by_after (shared shares r (suc k)) (suc k) r before i

offset_by_after : (shares : List Share) (scale : ℕ) (x : Operand ℕ) (before : Code) (i : Index) → offset_by shares scale x (after_index before i) ≡ after_offset before (offset_by shares scale x i)
offset_by_after shares scale (Constant w) before i = refl
offset_by_after shares scale (Register r) before i = scaled_after shares scale r before i

pub offset_after : (shares : List Share) (scale : ℕ) (before : Code) (i : Index) → offset_of shares scale (after_index before i) ≡ after_offset before (offset_of shares scale i)
offset_after shares scale before i = offset_by_after shares scale i.part.value before i

-- a load of an element, behind other code
pub element_loads : (scope : Scope) (shares : List Share) (array : Array) (d : ℕ) (before : Code) (i : Index) (b : Base ℕ) (o : Offset) (c : Coded) →
    base_of scope array.base ≡ Some b → o ≡ offset_of shares (scale_of array.kind) (after_index before i) →
    c ≡ record { code = o.code ++ only (Do (Load (kind_of array.kind) d (address b o))); free = o.free } → c ≡ after before (element_into scope shares array d i)
element_loads scope shares array d before i b o c eb eo ec =
    let from = offset_of shares (scale_of array.kind) i in
    let loaded = λ (p : Offset). load_into (kind_of array.kind) d (Some b) p in
    let behind : o ≡ after_offset before from = eo ∙ offset_after shares (scale_of array.kind) before i in
    let load = only (Do (Load (kind_of array.kind) d (address b from))) in
    ec
    ∙ ap loaded behind
    ∙ ap (λ (code : Code). coded code from.free) (append_assoc before from.code load)
    ∙ ap (λ (x : Option (Base ℕ)). after before (load_into (kind_of array.kind) d x from)) (sym eb)
  where
    coded : Code → ℕ → Coded
    coded code free = record { code = code; free = free }
