-- One function more of a row.
use Rattle.std.proofs.Common.{◌≡◌, ℕ, suc, Bool, true, false, List, ◌∷◌, ◌++◌, map, sym, ap, ◌∙◌, append_assoc, if◌then◌else◌}
use Rattle.std.specs.Prelude.{slice_index}
use Rattle.std.proofs.lemmas.List.{map-append}
use Rattle.rv_core.specs.Instructions.{Instruction}
use Rattle.rv_core.specs.Words.{word_of}
use Rattle.asm_items.specs.Items.{Starts}
use Rattle.asm_items.specs.Placings.{Blocks, blocks_words}
use Rattle.asm_placed.specs.Written.{row_words}

either : (b : Bool) (ws : List ℕ) (is rest : List Instruction) (c : Bool) → b ≡ c → ws ++ map word_of (if b then is ++ rest else rest) ≡ (if c then ws ++ map word_of is else ws) ++ map word_of rest
either b ws is rest true e = ap (λ t. ws ++ map word_of (if t then is ++ rest else rest)) e ∙ ap (λ l. ws ++ l) (map-append word_of is rest) ∙ sym (append_assoc ws (map word_of is) (map word_of rest))
either b ws is rest false e = ap (λ t. ws ++ map word_of (if t then is ++ rest else rest)) e

-- a function that lies in the row, and one that doesn't
pub in_row : (p : Starts) (bases : List ℕ) (here : ℕ → Bool) (f : ℕ) (fs : List Blocks) (bs : Blocks) (rest : List Blocks) (ws new all : List ℕ) → fs ≡ bs ∷ rest → here f ≡ true → new ≡ ws ++ map word_of (blocks_words p f (slice_index bases f) bs)
    → ws ++ map word_of (row_words p bases here f fs) ≡ all → new ++ map word_of (row_words p bases here (suc f) rest) ≡ all
in_row p bases here f fs bs rest ws new all e t n h =
    ap (λ l. l ++ map word_of (row_words p bases here (suc f) rest)) n
    ∙ sym (either (here f) ws (blocks_words p f (slice_index bases f) bs) (row_words p bases here (suc f) rest) true t)
    ∙ ap (λ l. ws ++ map word_of (row_words p bases here f l)) (sym e)
    ∙ h

pub out_of_row : (p : Starts) (bases : List ℕ) (here : ℕ → Bool) (f : ℕ) (fs : List Blocks) (bs : Blocks) (rest : List Blocks) (ws all : List ℕ) → fs ≡ bs ∷ rest → here f ≡ false
    → ws ++ map word_of (row_words p bases here f fs) ≡ all → ws ++ map word_of (row_words p bases here (suc f) rest) ≡ all
out_of_row p bases here f fs bs rest ws all e t h =
    sym (either (here f) ws (blocks_words p f (slice_index bases f) bs) (row_words p bases here (suc f) rest) false t)
    ∙ ap (λ l. ws ++ map word_of (row_words p bases here f l)) (sym e)
    ∙ h
