-- An array at first, element by element.
use Rattle.std.proofs.Common.{◌≡◌, ℕ, ◌-◌, ◌<◌, ◌≤◌, List, ◌++◌, length, get_or, map, take, replicate, Option, Some, None, sym, ap, ◌∙◌, subst, ⊎_elim, arith}
use Rattle.std.specs.List.{range_with_len}
use Rattle.std.proofs.lemmas.Bool.{cases_lt}
use Rattle.std.proofs.lemmas.List.{get_or-append_right, get_or-map, get_or-replicate, get_or-take, get_or_append_left, get_or_past, length-append, length-map, length-replicate, length-take-le}
use Rattle.std.proofs.lemmas.List.FromFn.{fill_by_all}
use Rattle.low_ir.specs.declared.object.Storage.{Storage}
use Rattle.low_ir.specs.declared.object.Storage.TheVariants.{Constant, Global, Local}
use Rattle.low_ir.specs.Effects.{first_elements}
use Rattle.low_ir.specs.Code.{Object}
use Rattle.low_ir.specs.Kinds.{converted}
use Rattle.low_eval.specs.First.{first_element, first_word}

-- the given values, with zeros behind them
abbrev with_zeros : Object → List (Option ℕ)
with_zeros o = map (λ v. Some (converted o.kind v)) o.values ++ replicate o.size (Some 0)

with_zeros_at : (o : Object) (i : ℕ) → i < o.size → get_or (with_zeros o) i None ≡ Some (first_word o i)
with_zeros_at o i lt = ⊎_elim
    (λ (given : i < length o.values).
    get_or_append_left (map (λ v. Some (converted o.kind v)) o.values) (replicate o.size (Some 0)) None i (subst (λ n. i < n) (sym (length-map o.values (λ v. Some (converted o.kind v)))) given)
    ∙ get_or-map (λ v. Some (converted o.kind v)) o.values i 0 None given
    ∙ ap Some (sym (get_or-map (converted o.kind) o.values i 0 0 given)))
    (λ (past : length o.values ≤ i).
    get_or-append_right (map (λ v. Some (converted o.kind v)) o.values) (replicate o.size (Some 0)) (length o.values) i None (length-map o.values (λ v. Some (converted o.kind v))) past
    ∙ get_or-replicate o.size (i - length o.values) (Some 0) None (omega (arith, lt))
    ∙ ap Some (sym (get_or_past (map (converted o.kind) o.values) i 0 (subst (λ n. n ≤ i) (sym (length-map o.values (converted o.kind))) past))))
    (cases_lt i (length o.values))

with_zeros_length : (o : Object) → length (take o.size (with_zeros o)) ≡ o.size
with_zeros_length o =
    length-take-le o.size (with_zeros o)
    (omega (arith, length-append (map (λ v. Some (converted o.kind v)) o.values) (replicate o.size (Some 0)), length-replicate {A = Option ℕ} o.size (Some 0)))

given_elements : (o : Object) → take o.size (with_zeros o) ≡ map (λ i. Some (first_word o i)) (range_with_len 0 o.size)
given_elements o = fill_by_all (λ i. Some (first_word o i)) (take o.size (with_zeros o)) o.size None (with_zeros_length o)
    (λ i lt. get_or-take o.size (with_zeros o) i None lt ∙ with_zeros_at o i lt)

pub first_elements-places : (storage : Storage) (o : Object) → first_elements storage o ≡ map (first_element storage o) (range_with_len 0 o.size)
first_elements-places Constant o = given_elements o
first_elements-places Global o = given_elements o
first_elements-places Local o = fill_by_all (λ i. None) (replicate o.size None) o.size None (length-replicate o.size None) (λ i lt. get_or-replicate o.size i None None lt)
