-- Each function has room where it lies, and no block begins at or past 2^30.
use Rattle.std.proofs.Common.{◌≡◌, ℕ, zero, suc, ◌+◌, ◌^◌, ◌<◌, Bool, true, false, List, [], ◌∷◌, ◌++◌, length, refl, sym, ◌∙◌, subst, arith, append_assoc, if◌then◌else◌}
use Rattle.std.specs.Prelude.{slice_index, slice_index_or}
use Rattle.std.proofs.lemmas.List.{length-append}
use Rattle.asm_items.specs.Items.{total}
use Rattle.asm_items.specs.Placings.{Blocks, blocks_size, starts_from}
use Rattle.asm_writing.specs.Targets.{AreLow}
use Rattle.asm_forms.specs.Regions.{Rows, bases_from, bases_of, tables_from, functions_size, RoomFrom}

pub behind : (pre rest : List ℕ) (x : ℕ) → slice_index (pre ++ x ∷ rest) (length pre) ≡ x
behind [] rest x = refl
behind (y ∷ pre) rest x = behind pre rest x

pub longer : (pre rest : List ℕ) (x : ℕ) → length pre < length (pre ++ x ∷ rest)
longer [] rest x = omega arith
longer (y ∷ pre) rest x = let h = longer pre rest x in omega arith

-- the function that is next begins at its base
placed : (pre rest : List ℕ) (f base : ℕ) (bs : Blocks) (fs : List Blocks) → length pre ≡ f → base + blocks_size bs < 2 ^ 30 → RoomFrom ((pre ++ base ∷ []) ++ rest) (suc f) fs → RoomFrom (pre ++ base ∷ rest) f (bs ∷ fs)
placed pre rest f base bs fs e h r =
    let at = subst (λ k. slice_index (pre ++ base ∷ rest) k ≡ base) e (behind pre rest base) in
    (subst (λ k. k < length (pre ++ base ∷ rest)) e (longer pre rest base), subst (λ b. b + blocks_size bs < 2 ^ 30) (sym at) h, subst (λ l. RoomFrom l (suc f) fs) (append_assoc pre (base ∷ []) rest) r)

pub more : (pre : List ℕ) (f base : ℕ) → length pre ≡ f → length (pre ++ base ∷ []) ≡ suc f
more pre f base e = length-append pre (base ∷ []) ∙ omega arith

-- the functions behind one have room wherever the rows go on
abbrev Behind : List Bool → ℕ → List Blocks → Type 0
Behind list f fs = (pre : List ℕ) (flash scratchpad : ℕ) → length pre ≡ suc f → flash + functions_size fs < 2 ^ 30 → scratchpad + functions_size fs < 2 ^ 30 → RoomFrom (pre ++ bases_from list (suc f) flash scratchpad fs) (suc f) fs

room_by : (list : List Bool) (pre : List ℕ) (f flash scratchpad : ℕ) (bs : Blocks) (fs : List Blocks) (b : Bool) → length pre ≡ f → flash + functions_size (bs ∷ fs) < 2 ^ 30 → scratchpad + functions_size (bs ∷ fs) < 2 ^ 30 → Behind list f fs
    → RoomFrom (pre ++ (if b then scratchpad ∷ bases_from list (suc f) flash (scratchpad + blocks_size bs) fs else flash ∷ bases_from list (suc f) (flash + blocks_size bs) scratchpad fs)) f (bs ∷ fs)
room_by list pre f flash scratchpad bs fs true e h k go =
    placed pre (bases_from list (suc f) flash (scratchpad + blocks_size bs) fs) f scratchpad bs fs e (omega arith)
    (go (pre ++ scratchpad ∷ []) flash (scratchpad + blocks_size bs) (more pre f scratchpad e) (omega arith) (omega arith))
room_by list pre f flash scratchpad bs fs false e h k go =
    placed pre (bases_from list (suc f) (flash + blocks_size bs) scratchpad fs) f flash bs fs e (omega arith)
    (go (pre ++ flash ∷ []) (flash + blocks_size bs) scratchpad (more pre f flash e) (omega arith) (omega arith))

room_from : (list : List Bool) (pre : List ℕ) (f flash scratchpad : ℕ) (fs : List Blocks) → length pre ≡ f → flash + functions_size fs < 2 ^ 30 → scratchpad + functions_size fs < 2 ^ 30
    → RoomFrom (pre ++ bases_from list f flash scratchpad fs) f fs
room_from list pre f flash scratchpad [] e h k = tt
room_from list pre f flash scratchpad (bs ∷ fs) e h k =
    room_by list pre f flash scratchpad bs fs (slice_index_or list f false) e h k (λ more_pre x y. room_from list more_pre (suc f) x y fs)

pub bases_room : (r : Rows) (fs : List Blocks) → r.flash + functions_size fs < 2 ^ 30 → r.scratchpad + functions_size fs < 2 ^ 30 → RoomFrom (bases_of r fs) 0 fs
bases_room r fs h k = room_from r.placed [] 0 r.flash r.scratchpad fs refl h k

-- blocks begin within their function
starts_low : (a : ℕ) (bs : Blocks) (b : ℕ) → a + blocks_size bs < 2 ^ 30 → slice_index (starts_from a bs) b < 2 ^ 30
starts_low a [] b h = omega arith
starts_low a (xs ∷ bs) zero h = omega arith
starts_low a (xs ∷ bs) (suc b) h = starts_low (a + total xs) bs b (omega arith)

low_from : (bases : List ℕ) (k : ℕ) (fs : List Blocks) (f b : ℕ) → RoomFrom bases k fs → slice_index (slice_index_or (tables_from bases k fs) f []) b < 2 ^ 30
low_from bases k [] f b r = omega arith
low_from bases k (bs ∷ fs) zero b r = starts_low (slice_index bases k) bs b r.1
low_from bases k (bs ∷ fs) (suc f) b r = low_from bases (suc k) fs f b r.2

pub tables_low : (bases : List ℕ) (fs : List Blocks) → RoomFrom bases 0 fs → AreLow (tables_from bases 0 fs)
tables_low bases fs r f b = low_from bases 0 fs f b r
