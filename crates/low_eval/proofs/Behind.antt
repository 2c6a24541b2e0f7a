-- A list of values that is made one by one, where one may be missing.
use Rattle.std.proofs.Common.{◌≡◌, ℕ, suc, ◌+◌, ◌<◌, List, [], ◌∷◌, ◌++◌, length, get_or, drop, drop-cons, Option, Some, None, refl, sym, ap, ◌∙◌, arith, map}
use Rattle.std.proofs.lemmas.List.{append_assoc}
use Rattle.low_ir.specs.declared.instruction.Operand.{Operand}
use Rattle.low_ir.specs.declared.run.Value.{Value}
use Rattle.low_ir.specs.Runs.{Bank, operand_value, values, values_cons, virtual}
use Rattle.low_ir.specs.View.{operand_of}

-- values behind those that are made already
abbrev pub behind : List Value → Option (List Value) → Option (List Value)
behind made None = None
behind made (Some xs) = Some (made ++ xs)

pub behind-nil : (o : Option (List Value)) → behind [] o ≡ o
behind-nil None = refl
behind-nil (Some xs) = refl

-- the values of operands from the i-th on
abbrev pub values_from : Bank → List Operand → ℕ → Option (List Value)
values_from s xs i = values virtual s (map operand_of (drop i xs))

-- one more is made
behind_more : (made : List Value) (x : Value) (o : Option (List Value)) → behind made (values_cons (Some x) o) ≡ behind (made ++ x ∷ []) o
behind_more made x None = refl
behind_more made x (Some xs) = ap Some (sym (append_assoc made (x ∷ []) xs))

drop_item : {A : Type 0} (xs : List A) (i : ℕ) (x : A) → i < length xs → x ≡ get_or xs i x → drop i xs ≡ x ∷ drop (i + 1) xs
drop_item xs i x lt read =
    let e : i + 1 ≡ suc i = omega arith in
    drop-cons xs i x lt ∙ ap (λ y. y ∷ drop (suc i) xs) (sym read) ∙ ap (λ n. x ∷ drop n xs) (sym e)

pub none_missing : (s : Bank) (xs : List Operand) (i : ℕ) (x : Operand) (made : List Value) (v : Value) → i < length xs → x ≡ get_or xs i x → operand_value virtual s (operand_of x) ≡ Some v → behind made (values_from s xs i) ≡ behind (made ++ v ∷ []) (values_from s xs (i + 1))
none_missing s xs i x made v lt read has =
    ap (λ l. behind made (values virtual s (map operand_of l))) (drop_item xs i x lt read)
    ∙ ap (λ o. behind made (values_cons o (values_from s xs (i + 1)))) has
    ∙ behind_more made v (values_from s xs (i + 1))

pub one_missing : (s : Bank) (xs : List Operand) (i : ℕ) (x : Operand) (made : List Value) → i < length xs → x ≡ get_or xs i x → operand_value virtual s (operand_of x) ≡ None → behind made (values_from s xs i) ≡ None
one_missing s xs i x made lt read lacks =
    ap (λ l. behind made (values virtual s (map operand_of l))) (drop_item xs i x lt read)
    ∙ ap (λ o. behind made (values_cons o (values_from s xs (i + 1)))) lacks
