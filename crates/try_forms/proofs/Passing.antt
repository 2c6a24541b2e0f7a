-- The marks of a run, block by block.
use Rattle.std.proofs.Common.{◌≡◌, ℕ, ◌+◌, ◌<◌, List, [], ◌∷◌, ◌++◌, length, get_or, take, Some, None, sym, ap, append-nil, ◌∙◌}
use Rattle.std.specs.Option.{option_to_list}
use Rattle.std.proofs.lemmas.Grind.{flat_map-append}
use Rattle.std.proofs.lemmas.List.{take_more}
use Rattle.std.proofs.lemmas.List.Concat.{flat_map-cons}
use Rattle.low_ir.specs.declared.run.Began.{Began}
use Rattle.low_ir.specs.Code.{Low}
use Rattle.low_ir.specs.Turns.{mark_at, marks_passed}

module _ (p : Low) (trace : List Began) (i : ℕ) (e : Began) (marks : List ℕ) where
  -- one block more
  one_more : i < length trace → e ≡ get_or trace i e → marks_passed p (take (i + 1) trace) ≡ marks_passed p (take i trace) ++ option_to_list (mark_at p e)
  one_more lt read =
      ap (marks_passed p) (take_more trace i e lt ∙ ap (λ x. take i trace ++ x ∷ []) (sym read))
      ∙ flat_map-append (λ x. option_to_list (mark_at p x)) (take i trace) (e ∷ [])
      ∙ ap (λ ms. marks_passed p (take i trace) ++ ms) (flat_map-cons (λ x. option_to_list (mark_at p x)) e [] ∙ append-nil (option_to_list (mark_at p e)))

  -- it has no mark, or this one
  pub no_mark_passed : i < length trace → e ≡ get_or trace i e → mark_at p e ≡ None → marks ≡ marks_passed p (take i trace) → marks ≡ marks_passed p (take (i + 1) trace)
  no_mark_passed lt read none before =
      before
      ∙ sym (append-nil (marks_passed p (take i trace)))
      ∙ sym (ap (λ o. marks_passed p (take i trace) ++ option_to_list o) none)
      ∙ sym (one_more lt read)

  pub mark_passed : (m : ℕ) → i < length trace → e ≡ get_or trace i e → mark_at p e ≡ Some m → marks ≡ marks_passed p (take i trace) → marks ++ m ∷ [] ≡ marks_passed p (take (i + 1) trace)
  mark_passed m lt read some before =
      ap (λ ms. ms ++ m ∷ []) before
      ∙ sym (ap (λ o. marks_passed p (take i trace) ++ option_to_list o) some)
      ∙ sym (one_more lt read)
