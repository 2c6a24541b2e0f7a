-- Stores behind other code.
use Rattle.std.proofs.Common.{◌≡◌, ℕ, List, ◌++◌, Some, ap, ◌∙◌, append_assoc}
use Rattle.high_ir.specs.declared.object.Kind.{Kind}
use Rattle.low_ir.specs.Code.{Base, Do, Store}
use Rattle.lower_definition.specs.Objects.{kind_of, scale_of}
use Rattle.lower_definition.specs.Operators.{Code, only}
use Rattle.lower_definition.specs.Statements.{store_at}
use Rattle.lower_definition.specs.Values.{Share, Coded, Valued, Index, Offset, address, offset_of}
use Rattle.lower_expression.specs.Behind.{after, after_index, after_valued}
use Rattle.lower_expression.proofs.Loads.{offset_after}

abbrev coded : Code → ℕ → Coded
coded code free = record { code = code; free = free }

pub element_stores : (shares : List Share) (kind : Kind) (i : Index) (before : Code) (b : Base ℕ) (t : ℕ) (o : Offset) (value : ℕ → Valued) (v : Valued) (c : Coded) →
    o ≡ offset_of shares (scale_of kind) (after_index before i) → v ≡ after_valued o.code (value o.free) → c ≡ record { code = v.code ++ only (Do (Store (kind_of kind) (address b o) v.value)); free = v.free } →
    c ≡ after before (store_at (Some b) kind t (offset_of shares (scale_of kind) i) value)
element_stores shares kind i before b t o value v c eo ev ec =
    let from = offset_of shares (scale_of kind) i in
    let w = value from.free in
    let last = only (Do (Store (kind_of kind) (address b from) w.value)) in
    ec
    ∙ ap (λ (x : Valued). coded (x.code ++ only (Do (Store (kind_of kind) (address b o) x.value))) x.free) ev
    ∙ ap (λ (p : Offset). coded ((p.code ++ (value p.free).code) ++ only (Do (Store (kind_of kind) (address b p) (value p.free).value))) (value p.free).free) (eo ∙ offset_after shares (scale_of kind) before i)
    ∙ ap (λ x. coded x w.free) (append_assoc (before ++ from.code) w.code last ∙ append_assoc before from.code (w.code ++ last))
