-- Each function stands at its base where the rows stand.
use Rattle.std.proofs.Common.{◌≡◌, ℕ, zero, suc, ◌+◌, ◌*◌, ◌<◌, Bool, true, false, not, List, [], ◌∷◌, ◌++◌, length, Some, refl, sym, ap, ◌∙◌, subst, arith, append_assoc, length-append, if◌then◌else◌}
use Rattle.std.specs.Prelude.{slice_get, slice_index, slice_index_or}
use Rattle.rv_core.specs.Instructions.{Instruction}
use Rattle.code_flow_system.specs.Moves.{Code}
use Rattle.asm_items.specs.Items.{Starts, total, all_words, in_rows}
use Rattle.asm_items.specs.Placings.{Blocks, blocks_size, blocks_words}
use Rattle.asm_items.specs.Standing.{HasWords}
use Rattle.asm_items.proofs.PlacedLemmas.{all_words_count, first_words, later_words}
use Rattle.asm_forms.specs.Layouts.{functions_fit}
use Rattle.asm_forms.specs.Regions.{bases_from}
use Rattle.asm_forms.proofs.FitLemmas.{rows-append}
use Rattle.asm_forms.proofs.RoomLemmas.{behind, more}
use Rattle.std.proofs.lemmas.Bool.{and_parts}
use Rattle.asm_placed.specs.Written.{row_words}

pub has_words : (c : Code) (at : ℕ) (is : List Instruction) → ((k : ℕ) (i : Instruction) → slice_get is k ≡ Some i → c.fetch (at + 4 * k) ≡ Some i) → HasWords c at is
has_words c at [] h = tt
has_words c at (i ∷ is) h = (
  (let e : at + 4 * 0 ≡ at = omega arith in subst (λ a. c.fetch a ≡ Some i) e (h 0 i refl)),
  has_words c (at + 4) is (λ k j g. let e : at + 4 * suc k ≡ at + 4 + 4 * k = omega arith in subst (λ a. c.fetch a ≡ Some j) e (h (suc k) j g)),
)

blocks_count : (p : Starts) (f a : ℕ) (bs : Blocks) → 4 * length (blocks_words p f a bs) ≡ blocks_size bs
blocks_count p f a [] = refl
blocks_count p f a (xs ∷ bs) =
    let one = all_words_count p f a xs in
    let rest = blocks_count p f (a + total xs) bs in
    let both = length-append (all_words p f a xs) (blocks_words p f (a + total xs) bs) in
    omega arith

abbrev pub EachStands : Code → Starts → List ℕ → ℕ → List Blocks → Type 0
EachStands c p bases f [] = Unit {0}
EachStands c p bases f (bs ∷ fs) = HasWords c (slice_index bases f) (blocks_words p f (slice_index bases f) bs) × EachStands c p bases (suc f) fs

module _ (c : Code) (p : Starts) (list : List Bool) (bases : List ℕ) where
  abbrev here : ℕ → Bool
  here f = slice_index_or list f false

  abbrev away : ℕ → Bool
  away f = not (slice_index_or list f false)

  abbrev Onward : ℕ → List Blocks → Type 0
  Onward f fs = (pre : List ℕ) (flash scratchpad : ℕ) → bases ≡ pre ++ bases_from list (suc f) flash scratchpad fs → length pre ≡ suc f → HasWords c flash (row_words p bases away (suc f) fs) → HasWords c scratchpad (row_words p bases here (suc f) fs) → EachStands c p bases (suc f) fs

  -- the function that is next in a row, and what is behind it there
  next : (pre rest : List ℕ) (f at : ℕ) (bs : Blocks) (later : List Instruction) → bases ≡ pre ++ at ∷ rest → length pre ≡ f → HasWords c at (blocks_words p f (slice_index bases f) bs ++ later)
      → HasWords c (slice_index bases f) (blocks_words p f (slice_index bases f) bs) × HasWords c (at + blocks_size bs) later
  next pre rest f at bs later e l h =
      let ws = blocks_words p f (slice_index bases f) bs in
      let is : slice_index bases f ≡ at = ap (λ k. slice_index bases k) (sym l) ∙ ap (λ b. slice_index b (length pre)) e ∙ behind pre rest at in
      let n : at + 4 * length ws ≡ at + blocks_size bs = ap (λ k. at + k) (blocks_count p f (slice_index bases f) bs) in
      (subst (λ a. HasWords c a ws) (sym is) (first_words c at ws later h), subst (λ a. HasWords c a later) n (later_words c at ws later h))

  moved : (pre rest : List ℕ) (at : ℕ) → bases ≡ pre ++ at ∷ rest → bases ≡ (pre ++ at ∷ []) ++ rest
  moved pre rest at e = e ∙ sym (append_assoc pre (at ∷ []) rest)

  stand_by : (pre : List ℕ) (f flash scratchpad : ℕ) (bs : Blocks) (fs : List Blocks) (b : Bool)
      → bases ≡ pre ++ (if b then scratchpad ∷ bases_from list (suc f) flash (scratchpad + blocks_size bs) fs else flash ∷ bases_from list (suc f) (flash + blocks_size bs) scratchpad fs) → length pre ≡ f
      → HasWords c flash (if not b then blocks_words p f (slice_index bases f) bs ++ row_words p bases away (suc f) fs else row_words p bases away (suc f) fs)
      → HasWords c scratchpad (if b then blocks_words p f (slice_index bases f) bs ++ row_words p bases here (suc f) fs else row_words p bases here (suc f) fs) → Onward f fs → EachStands c p bases f (bs ∷ fs)
  stand_by pre f flash scratchpad bs fs true e l h k go =
      let rest = bases_from list (suc f) flash (scratchpad + blocks_size bs) fs in
      let n = next pre rest f scratchpad bs (row_words p bases here (suc f) fs) e l k in
      (n.0, go (pre ++ scratchpad ∷ []) flash (scratchpad + blocks_size bs) (moved pre rest scratchpad e) (more pre f scratchpad l) h n.1)
  stand_by pre f flash scratchpad bs fs false e l h k go =
      let rest = bases_from list (suc f) (flash + blocks_size bs) scratchpad fs in
      let n = next pre rest f flash bs (row_words p bases away (suc f) fs) e l h in
      (n.0, go (pre ++ flash ∷ []) (flash + blocks_size bs) scratchpad (moved pre rest flash e) (more pre f flash l) n.1 k)

  pub stand_from : (pre : List ℕ) (f flash scratchpad : ℕ) (fs : List Blocks) → bases ≡ pre ++ bases_from list f flash scratchpad fs → length pre ≡ f → HasWords c flash (row_words p bases away f fs) → HasWords c scratchpad (row_words p bases here f fs) → EachStands c p bases f fs
  stand_from pre f flash scratchpad [] e l h k = tt
  stand_from pre f flash scratchpad (bs ∷ fs) e l h k =
      stand_by pre f flash scratchpad bs fs (slice_index_or list f false) e l h k (λ pre2 x y e2 l2 h2 k2. stand_from pre2 (suc f) x y fs e2 l2 h2 k2)

stands_at : (c : Code) (p : Starts) (bases : List ℕ) (k : ℕ) (fs : List Blocks) (f : ℕ) → f < length fs → EachStands c p bases k fs → HasWords c (slice_index bases (k + f)) (blocks_words p (k + f) (slice_index bases (k + f)) (slice_index_or fs f []))
stands_at c p bases k [] f less h = absurd (omega arith)
stands_at c p bases k (bs ∷ fs) zero less h = let e : k ≡ k + 0 = omega arith in subst (λ n. HasWords c (slice_index bases n) (blocks_words p n (slice_index bases n) bs)) e h.0
stands_at c p bases k (bs ∷ fs) (suc f) less h =
    let e : suc k + f ≡ k + suc f = omega arith in
    subst (λ n. HasWords c (slice_index bases n) (blocks_words p n (slice_index bases n) (slice_index_or fs f []))) e (stands_at c p bases (suc k) fs f (omega arith) h.1)

pub stands_there : (c : Code) (p : Starts) (bases : List ℕ) (fs : List Blocks) (f : ℕ) → f < length fs → EachStands c p bases 0 fs → HasWords c (slice_index bases f) (blocks_words p f (slice_index bases f) (slice_index_or fs f []))
stands_there c p bases fs f less h =
    let z : 0 + f ≡ f = omega arith in
    subst (λ n. HasWords c (slice_index bases n) (blocks_words p n (slice_index bases n) (slice_index_or fs f []))) z (stands_at c p bases 0 fs f less h)

-- the instructions of a row keep the ranges of their fields where those of all functions do
rows_either : (b : Bool) (ws rest : List Instruction) → in_rows ws ≡ true → in_rows rest ≡ true → in_rows (if b then ws ++ rest else rest) ≡ true
rows_either true ws rest h k = rows-append ws rest h k
rows_either false ws rest h k = k

pub row_rows : (p : Starts) (bases : List ℕ) (here : ℕ → Bool) (f : ℕ) (fs : List Blocks) → functions_fit p bases f fs ≡ true → in_rows (row_words p bases here f fs) ≡ true
row_rows p bases here f [] h = refl
row_rows p bases here f (bs ∷ fs) h =
    let b = and_parts (in_rows (blocks_words p f (slice_index bases f) bs)) (functions_fit p bases (suc f) fs) h in
    rows_either (here f) (blocks_words p f (slice_index bases f) bs) (row_words p bases here (suc f) fs) b.0 (row_rows p bases here (suc f) fs b.1)
