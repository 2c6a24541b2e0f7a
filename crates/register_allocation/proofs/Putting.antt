-- The masks of one block more.
use Rattle.std.proofs.Common.{◌≡◌, ℕ, suc, ◌+◌, List, [], ◌∷◌, ◌++◌, length, refl, ap, ◌∙◌, append_assoc, length-append}
use Rattle.low_ir.specs.declared.places.Place.{Place}
use Rattle.low_ir.specs.Code.{Instr, Block, Note}
use Rattle.register_allocation.specs.Masks.{Sweep, blocks_masks, code_masks, code_swept, instr_swept}

pub length-code_masks : (places : List Place) (p : ℕ) (w : Sweep) (is : List (Instr ℕ Note)) → length (code_masks places p w is) ≡ suc (length is)
length-code_masks places p w [] = refl
length-code_masks places p w (i ∷ is) = ap suc (length-code_masks places (suc p) (instr_swept places p w i) is)

pub block_put : (places : List Place) (old new : List ℕ) (w v : Sweep) (b : Block ℕ Note) (bs : List (Block ℕ Note)) → new ≡ old ++ code_masks places (length old) w b.code → v ≡ code_swept places (length old) w b.code
    → new ++ blocks_masks places (length new) v bs ≡ old ++ blocks_masks places (length old) w (b ∷ bs)
block_put places old new w v b bs put swept =
    let code = code_masks places (length old) w b.code in
    let long : length new ≡ length old + suc (length b.code) = ap length put ∙ (length-append old code ∙ ap (λ n. length old + n) (length-code_masks places (length old) w b.code)) in
    ap (λ xs. xs ++ blocks_masks places (length new) v bs) put
    ∙ (ap (λ n. (old ++ code) ++ blocks_masks places n v bs) long
    ∙ (ap (λ u. (old ++ code) ++ blocks_masks places (length old + suc (length b.code)) u bs) swept
    ∙ append_assoc old code (blocks_masks places (length old + suc (length b.code)) (code_swept places (length old) w b.code) bs)))
