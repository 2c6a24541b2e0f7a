-- A list of values that is made one by one, where one may be missing.
use Rattle.std.proofs.Common.{◌≡◌, ℕ, suc, ◌+◌, ◌<◌, List, [], ◌∷◌, ◌++◌, length, get_or, drop, drop-cons, Option, Some, None, refl, sym, ap, ◌∙◌, arith, map}
use Rattle.std.proofs.lemmas.List.{append_assoc}
use Rattle.low_eval.proofs.Behind.{behind}
use Rattle.low_ir.specs.declared.instruction.Operand.{Operand}
use Rattle.low_ir.specs.declared.run.Value.{Value}
use Rattle.low_ir.specs.Places.{File, Placing, place_in, place_operand, places}
use Rattle.low_ir.specs.Runs.{operand_value, values, values_cons}
use Rattle.low_ir.specs.View.{operand_of}

-- the value of an operand by a table, and those of the operands from the i-th on
abbrev pub value_by : Placing → File → Operand → Option Value
value_by t s x = operand_value places s (place_operand (place_in t) (operand_of x))

abbrev pub values_from : Placing → File → List Operand → ℕ → Option (List Value)
values_from t s xs i = values places s (map (place_operand (place_in t)) (map operand_of (drop i xs)))

-- one more is made
behind_more : (made : List Value) (x : Value) (o : Option (List Value)) → behind made (values_cons (Some x) o) ≡ behind (made ++ x ∷ []) o
behind_more made x None = refl
behind_more made x (Some xs) = ap Some (sym (append_assoc made (x ∷ []) xs))

drop_item : {A : Type 0} (xs : List A) (i : ℕ) (x : A) → i < length xs → x ≡ get_or xs i x → drop i xs ≡ x ∷ drop (i + 1) xs
drop_item xs i x lt read =
    let e : i + 1 ≡ suc i = omega arith in
    drop-cons xs i x lt ∙ ap (λ y. y ∷ drop (suc i) xs) (sym read) ∙ ap (λ n. x ∷ drop n xs) (sym e)

module _ (t : Placing) (s : File) (xs : List Operand) (i : ℕ) (x : Operand) (made : List Value) where
  pub none_missing : (v : Value) → i < length xs → x ≡ get_or xs i x → value_by t s x ≡ Some v → behind made (values_from t s xs i) ≡ behind (made ++ v ∷ []) (values_from t s xs (i + 1))
  none_missing v lt read has =
      ap (λ l. behind made (values places s (map (place_operand (place_in t)) (map operand_of l)))) (drop_item xs i x lt read)
      ∙ ap (λ o. behind made (values_cons o (values_from t s xs (i + 1)))) has
      ∙ behind_more made v (values_from t s xs (i + 1))

  pub one_missing : i < length xs → x ≡ get_or xs i x → value_by t s x ≡ None → behind made (values_from t s xs i) ≡ None
  one_missing lt read lacks =
      ap (λ l. behind made (values places s (map (place_operand (place_in t)) (map operand_of l)))) (drop_item xs i x lt read)
      ∙ ap (λ o. behind made (values_cons o (values_from t s xs (i + 1)))) lacks
