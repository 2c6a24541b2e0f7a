-- Functions in the order of their addresses: each begins behind the one before it.
use Rattle.std.proofs.Common.{◌≡◌, ℕ, suc, ◌+◌, ◌%◌, ◌≤◌, Bool, true, false, not, List, [], ◌∷◌, ◌++◌, length, refl, sym, ap, ◌∙◌, subst, arith, append_assoc, if◌then◌else◌}
use Rattle.std.specs.Prelude.{slice_index, slice_index_or}
use Rattle.asm_items.specs.Placings.{Blocks, blocks_size}
use Rattle.asm_forms.specs.Layouts.{formed}
use Rattle.asm_forms.specs.Regions.{Rows, bases_from, bases_of, functions_size}
use Rattle.asm_forms.specs.Shorter.{functions_longest}
use Rattle.asm_forms.proofs.Formed.{formed_longest}
use Rattle.asm_forms.proofs.RoomLemmas.{behind, more}
use Rattle.asm_forms.proofs.SizeLemmas.{functions_most}
use Rattle.asm_placed.specs.Written.{RowsApart, in_scratchpad}
use Rattle.asm_placed.proofs.Spread.{bases_fours}
use Rattle.claims_definition.specs.Orders.{in_order, lying}

module _ (r : Rows) (all : List Blocks) where
  abbrev bases : List ℕ
  bases = bases_of r all

  abbrev base : ℕ → ℕ
  base f = slice_index bases f

  abbrev room : ℕ → ℕ
  room f = blocks_size (slice_index_or all f [])

  -- these functions lie between two addresses, each behind the one before it
  abbrev pub Spaced : ℕ → List ℕ → ℕ → Type 0
  Spaced a [] end = a ≤ end
  Spaced a (f ∷ fs) end = (a ≤ base f) × ((base f % 4 ≡ 0) × Spaced (base f + room f) fs end)

  spaced_wider : (a b : ℕ) (fs : List ℕ) (end far : ℕ) → b ≤ a → end ≤ far → Spaced a fs end → Spaced b fs far
  spaced_wider a b [] end far low high h = omega (arith, low, high, h)
  spaced_wider a b (f ∷ fs) end far low high h = let k = h.0 in (omega (arith, low, k), (h.1.0, spaced_wider (base f + room f) (base f + room f) fs end far (omega arith) high h.1.1))

  spaced_append : (a : ℕ) (fs gs : List ℕ) (mid end : ℕ) → Spaced a fs mid → Spaced mid gs end → Spaced a (fs ++ gs) end
  spaced_append a [] gs mid end h k = spaced_wider mid a gs end end h (omega arith) k
  spaced_append a (f ∷ fs) gs mid end h k = (h.0, (h.1.0, spaced_append (base f + room f) fs gs mid end h.1.1 k))

  base_is : (pre rest : List ℕ) (f at : ℕ) → bases ≡ pre ++ at ∷ rest → length pre ≡ f → base f ≡ at
  base_is pre rest f at e l = ap (slice_index bases) (sym l) ∙ ap (λ b. slice_index b (length pre)) e ∙ behind pre rest at

  moved : (pre rest : List ℕ) (at : ℕ) → bases ≡ pre ++ at ∷ rest → bases ≡ (pre ++ at ∷ []) ++ rest
  moved pre rest at e = e ∙ sym (append_assoc pre (at ∷ []) rest)

  seam : (pre rest : List Blocks) (bs : Blocks) → slice_index_or (pre ++ bs ∷ rest) (length pre) [] ≡ bs
  seam [] rest bs = refl
  seam (x ∷ pre) rest bs = seam pre rest bs

  room_is : (pre rest : List Blocks) (f : ℕ) (bs : Blocks) → all ≡ pre ++ bs ∷ rest → length pre ≡ f → room f ≡ blocks_size bs
  room_is pre rest f bs e l = ap (λ k. blocks_size (slice_index_or all k [])) (sym l) ∙ ap (λ fs. blocks_size (slice_index_or fs (length pre) [])) e ∙ ap blocks_size (seam pre rest bs)

  onward : (pre rest : List Blocks) (bs : Blocks) → all ≡ pre ++ bs ∷ rest → all ≡ (pre ++ bs ∷ []) ++ rest
  onward pre rest bs e = e ∙ sym (append_assoc pre (bs ∷ []) rest)

  longer : (pre : List Blocks) (f : ℕ) (bs : Blocks) → length pre ≡ f → length (pre ++ bs ∷ []) ≡ suc f
  longer [] f bs l = ap suc l
  longer (x ∷ pre) f bs l = ap suc (longer pre (length pre) bs refl) ∙ ap suc l

  module _ (fours : (f : ℕ) → base f % 4 ≡ 0) where
    -- the functions from number f on, where both rows have come so far
    abbrev Row : Bool → (f x y : ℕ) → List Blocks → Type 0
    Row false f x y fs = (a : ℕ) → a ≤ x → Spaced a (lying (λ g. not (in_scratchpad r g)) f (length fs)) (x + functions_size fs)
    Row true f x y fs = (a : ℕ) → a ≤ y → Spaced a (lying (in_scratchpad r) f (length fs)) (y + functions_size fs)

    abbrev Onward : Bool → ℕ → List Blocks → Type 0
    Onward row f fs = (pre : List ℕ) (fpre : List Blocks) (x y : ℕ) → bases ≡ pre ++ bases_from r.placed f x y fs → length pre ≡ f → all ≡ fpre ++ fs → length fpre ≡ f → Row row f x y fs

    row_by : (row : Bool) (pre : List ℕ) (fpre : List Blocks) (f x y : ℕ) (bs : Blocks) (fs : List Blocks) (b : Bool) → in_scratchpad r f ≡ b → bases ≡ pre ++ (if b then y ∷ bases_from r.placed (suc f) x (y + blocks_size bs) fs else x ∷ bases_from r.placed (suc f) (x + blocks_size bs) y fs)
        → length pre ≡ f → all ≡ fpre ++ bs ∷ fs → length fpre ≡ f → Onward row (suc f) fs → Row row f x y (bs ∷ fs)
    row_by false pre fpre f x y bs fs true t e l g m go = λ a low.
        let next = go (pre ++ y ∷ []) (fpre ++ bs ∷ []) x (y + blocks_size bs) (moved pre (bases_from r.placed (suc f) x (y + blocks_size bs) fs) y e) (more pre f y l) (onward fpre fs bs g) (longer fpre f bs m) a low in
        let rest = lying (λ h. not (in_scratchpad r h)) (suc f) (length fs) in
        subst (λ b. Spaced a (if not b then f ∷ rest else rest) (x + functions_size (bs ∷ fs))) (sym t) (spaced_wider a a rest (x + functions_size fs) (x + functions_size (bs ∷ fs)) (omega arith) (omega arith) next)
    row_by false pre fpre f x y bs fs false t e l g m go = λ a low.
        let is = base_is pre (bases_from r.placed (suc f) (x + blocks_size bs) y fs) f x e l in
        let has = room_is fpre fs f bs g m in
        let next = go (pre ++ x ∷ []) (fpre ++ bs ∷ []) (x + blocks_size bs) y (moved pre (bases_from r.placed (suc f) (x + blocks_size bs) y fs) x e) (more pre f x l) (onward fpre fs bs g) (longer fpre f bs m) (base f + room f) (omega (arith, is, has)) in
        let rest = lying (λ h. not (in_scratchpad r h)) (suc f) (length fs) in
        subst (λ b. Spaced a (if not b then f ∷ rest else rest) (x + functions_size (bs ∷ fs))) (sym t)
        (omega (arith, low, is), (fours f, spaced_wider (base f + room f) (base f + room f) rest (x + blocks_size bs + functions_size fs) (x + functions_size (bs ∷ fs)) (omega arith) (omega arith) next))
    row_by true pre fpre f x y bs fs false t e l g m go = λ a low.
        let next = go (pre ++ x ∷ []) (fpre ++ bs ∷ []) (x + blocks_size bs) y (moved pre (bases_from r.placed (suc f) (x + blocks_size bs) y fs) x e) (more pre f x l) (onward fpre fs bs g) (longer fpre f bs m) a low in
        let rest = lying (in_scratchpad r) (suc f) (length fs) in
        subst (λ b. Spaced a (if b then f ∷ rest else rest) (y + functions_size (bs ∷ fs))) (sym t) (spaced_wider a a rest (y + functions_size fs) (y + functions_size (bs ∷ fs)) (omega arith) (omega arith) next)
    row_by true pre fpre f x y bs fs true t e l g m go = λ a low.
        let is = base_is pre (bases_from r.placed (suc f) x (y + blocks_size bs) fs) f y e l in
        let has = room_is fpre fs f bs g m in
        let next = go (pre ++ y ∷ []) (fpre ++ bs ∷ []) x (y + blocks_size bs) (moved pre (bases_from r.placed (suc f) x (y + blocks_size bs) fs) y e) (more pre f y l) (onward fpre fs bs g) (longer fpre f bs m) (base f + room f) (omega (arith, is, has)) in
        let rest = lying (in_scratchpad r) (suc f) (length fs) in
        subst (λ b. Spaced a (if b then f ∷ rest else rest) (y + functions_size (bs ∷ fs))) (sym t)
        (omega (arith, low, is), (fours f, spaced_wider (base f + room f) (base f + room f) rest (y + blocks_size bs + functions_size fs) (y + functions_size (bs ∷ fs)) (omega arith) (omega arith) next))

    row_spaced : (row : Bool) (f : ℕ) (fs : List Blocks) (pre : List ℕ) (fpre : List Blocks) (x y : ℕ) → bases ≡ pre ++ bases_from r.placed f x y fs → length pre ≡ f → all ≡ fpre ++ fs → length fpre ≡ f → Row row f x y fs
    row_spaced false f [] pre fpre x y e l g m = λ a low. omega (arith, low)
    row_spaced true f [] pre fpre x y e l g m = λ a low. omega (arith, low)
    row_spaced row f (bs ∷ fs) pre fpre x y e l g m = row_by row pre fpre f x y bs fs (in_scratchpad r f) refl e l g m (row_spaced row (suc f) fs)

    pub all_spaced : r.flash + functions_size all ≤ r.scratchpad → Spaced r.flash (in_order r (length all)) (r.scratchpad + functions_size all)
    all_spaced apart =
        let flash = row_spaced false 0 all [] [] r.flash r.scratchpad refl refl refl refl r.flash (omega arith) in
        let scratchpad = row_spaced true 0 all [] [] r.flash r.scratchpad refl refl refl refl (r.flash + functions_size all) apart in
        spaced_append r.flash (lying (λ f. not (in_scratchpad r f)) 0 (length all)) (lying (in_scratchpad r) 0 (length all)) (r.flash + functions_size all) (r.scratchpad + functions_size all) flash scratchpad

-- so do those in the forms that are chosen
pub formed_spaced : (r : Rows) (fs : List Blocks) → RowsApart r fs → Spaced r (formed r fs) r.flash (in_order r (length (formed r fs))) (r.scratchpad + functions_size (formed r fs))
formed_spaced r fs rows =
    let gs = formed r fs in
    let most : functions_size gs ≤ functions_size (functions_longest fs) = subst (λ l. functions_size gs ≤ functions_size l) (formed_longest r fs) (functions_most gs) in
    let apart = rows.apart in
    all_spaced r gs (λ f. bases_fours r.placed 0 r.flash r.scratchpad gs f rows.flash rows.scratchpad) (omega (arith, most, apart))
