-- Functions in rows are apart, and begin at multiples of 4.
use Rattle.std.proofs.Common.{◌≡◌, ◌⊎◌, inl, inr, ⊎_elim, ℕ, zero, suc, ◌+◌, ◌%◌, ◌^◌, ◌<◌, ◌≤◌, Bool, true, false, List, [], ◌∷◌, ◌++◌, length, refl, sym, ap, ◌∙◌, subst, arith, append_assoc, if◌then◌else◌}
use Rattle.std.specs.Prelude.{slice_index, slice_index_or}
use Rattle.asm_items.specs.declared.item.Item.{Item}
use Rattle.asm_items.specs.declared.item.Item.TheVariants.{Single, Jump, Call, Branch, Return, Exit}
use Rattle.asm_items.specs.declared.item.Form.TheVariants.{Short, Inverted, Far}
use Rattle.asm_items.specs.Items.{size, total}
use Rattle.asm_items.specs.Placings.{Blocks, blocks_size}
use Rattle.asm_forms.specs.Regions.{bases_from, functions_size, RoomFrom}
use Rattle.asm_forms.proofs.RoomLemmas.{behind, more}

item_fours : (x : Item) → size x % 4 ≡ 0
item_fours (Single i) = refl
item_fours (Jump false n) = refl
item_fours (Jump true n) = refl
item_fours (Call false g) = refl
item_fours (Call true g) = refl
item_fours (Branch Short c x y n) = refl
item_fours (Branch Inverted c x y n) = refl
item_fours (Branch Far c x y n) = refl
item_fours Return = refl
item_fours Exit = refl

items_fours : (xs : List Item) → total xs % 4 ≡ 0
items_fours [] = refl
items_fours (x ∷ xs) = let h = item_fours x in let k = items_fours xs in omega arith

blocks_fours : (bs : Blocks) → blocks_size bs % 4 ≡ 0
blocks_fours [] = refl
blocks_fours (xs ∷ bs) = let h = items_fours xs in let k = blocks_fours bs in omega arith

-- each base is a multiple of 4
bases_by : (list : List Bool) (f flash scratchpad : ℕ) (bs : Blocks) (fs : List Blocks) (j : ℕ) (b : Bool) → flash % 4 ≡ 0 → scratchpad % 4 ≡ 0
    → ((x y i : ℕ) → x % 4 ≡ 0 → y % 4 ≡ 0 → slice_index (bases_from list (suc f) x y fs) i % 4 ≡ 0)
    → slice_index (if b then scratchpad ∷ bases_from list (suc f) flash (scratchpad + blocks_size bs) fs else flash ∷ bases_from list (suc f) (flash + blocks_size bs) scratchpad fs) j % 4 ≡ 0
bases_by list f flash scratchpad bs fs zero true h k go = k
bases_by list f flash scratchpad bs fs zero false h k go = h
bases_by list f flash scratchpad bs fs (suc j) true h k go = let n = blocks_fours bs in go flash (scratchpad + blocks_size bs) j h (omega arith)
bases_by list f flash scratchpad bs fs (suc j) false h k go = let n = blocks_fours bs in go (flash + blocks_size bs) scratchpad j (omega arith) k

pub bases_fours : (list : List Bool) (f flash scratchpad : ℕ) (fs : List Blocks) (j : ℕ) → flash % 4 ≡ 0 → scratchpad % 4 ≡ 0 → slice_index (bases_from list f flash scratchpad fs) j % 4 ≡ 0
bases_fours list f flash scratchpad [] zero h k = refl
bases_fours list f flash scratchpad [] (suc j) h k = refl
bases_fours list f flash scratchpad (bs ∷ fs) j h k = bases_by list f flash scratchpad bs fs j (slice_index_or list f false) h k (λ x y i m n. bases_fours list (suc f) x y fs i m n)

room_at : (bases : List ℕ) (k : ℕ) (fs : List Blocks) (j : ℕ) → j < length fs → RoomFrom bases k fs → slice_index bases (k + j) + blocks_size (slice_index_or fs j []) < 2 ^ 30
room_at bases k [] j less r = absurd (omega arith)
room_at bases k (bs ∷ fs) zero less r = let e : k ≡ k + 0 = omega arith in subst (λ n. slice_index bases n + blocks_size bs < 2 ^ 30) e r.1
room_at bases k (bs ∷ fs) (suc j) less r = let e : suc k + j ≡ k + suc j = omega arith in subst (λ n. slice_index bases n + blocks_size (slice_index_or fs j []) < 2 ^ 30) e (room_at bases (suc k) fs j (omega arith) r.2)

pub ends_low : (bases : List ℕ) (fs : List Blocks) (f : ℕ) → f < length fs → RoomFrom bases 0 fs → slice_index bases f + blocks_size (slice_index_or fs f []) < 2 ^ 30
ends_low bases fs f less r = let z : 0 + f ≡ f = omega arith in subst (λ n. slice_index bases n + blocks_size (slice_index_or fs f []) < 2 ^ 30) z (room_at bases 0 fs f less r)

-- Each function behind a place lies behind what its row has reached there.

module _ (list : List Bool) (bases : List ℕ) where
  -- function f lies between the ends of its row
  record Lies (f lo_x lo_y hi_x hi_y : ℕ) (bs : Blocks) : Type 0 where
    pub flash : slice_index_or list f false ≡ false → (lo_x ≤ slice_index bases f) × (slice_index bases f + blocks_size bs ≤ hi_x)
    pub scratchpad : slice_index_or list f false ≡ true → (lo_y ≤ slice_index bases f) × (slice_index bases f + blocks_size bs ≤ hi_y)

  abbrev LieFrom : ℕ → ℕ → ℕ → ℕ → ℕ → List Blocks → Type 0
  LieFrom f lo_x lo_y hi_x hi_y [] = Unit {0}
  LieFrom f lo_x lo_y hi_x hi_y (bs ∷ fs) = Lies f lo_x lo_y hi_x hi_y bs × LieFrom (suc f) lo_x lo_y hi_x hi_y fs

  base_is : (pre rest : List ℕ) (f at : ℕ) → bases ≡ pre ++ at ∷ rest → length pre ≡ f → slice_index bases f ≡ at
  base_is pre rest f at e l = ap (λ k. slice_index bases k) (sym l) ∙ ap (λ b. slice_index b (length pre)) e ∙ behind pre rest at

  moved : (pre rest : List ℕ) (at : ℕ) → bases ≡ pre ++ at ∷ rest → bases ≡ (pre ++ at ∷ []) ++ rest
  moved pre rest at e = e ∙ sym (append_assoc pre (at ∷ []) rest)

  abbrev Go : ℕ → List Blocks → (ℕ → ℕ → Type 0) → Type 0
  Go f fs Q = (pre : List ℕ) (x y : ℕ) → bases ≡ pre ++ bases_from list (suc f) x y fs → length pre ≡ suc f → Q x y

  lie_by : (lo_x lo_y hi_x hi_y : ℕ) (pre : List ℕ) (f x y : ℕ) (bs : Blocks) (fs : List Blocks) (b : Bool) → slice_index_or list f false ≡ b
      → bases ≡ pre ++ (if b then y ∷ bases_from list (suc f) x (y + blocks_size bs) fs else x ∷ bases_from list (suc f) (x + blocks_size bs) y fs) → length pre ≡ f
      → lo_x ≤ x → lo_y ≤ y → x + functions_size (bs ∷ fs) ≤ hi_x → y + functions_size (bs ∷ fs) ≤ hi_y
      → Go f fs (λ u v. lo_x ≤ u → lo_y ≤ v → u + functions_size fs ≤ hi_x → v + functions_size fs ≤ hi_y → LieFrom (suc f) lo_x lo_y hi_x hi_y fs)
      → LieFrom f lo_x lo_y hi_x hi_y (bs ∷ fs)
  lie_by lo_x lo_y hi_x hi_y pre f x y bs fs true t e l a b c d go =
      let rest = bases_from list (suc f) x (y + blocks_size bs) fs in
      let is = base_is pre rest f y e l in (
        record { flash = λ n. absurd (let no : true ≡ false = sym t ∙ n in cc); scratchpad = λ n. (omega arith, omega arith) },
        go (pre ++ y ∷ []) x (y + blocks_size bs) (moved pre rest y e) (more pre f y l) a (omega arith) (omega arith) (omega arith),
      )
  lie_by lo_x lo_y hi_x hi_y pre f x y bs fs false t e l a b c d go =
      let rest = bases_from list (suc f) (x + blocks_size bs) y fs in
      let is = base_is pre rest f x e l in (
        record { flash = λ n. (omega arith, omega arith); scratchpad = λ n. absurd (let no : false ≡ true = sym t ∙ n in cc) },
        go (pre ++ x ∷ []) (x + blocks_size bs) y (moved pre rest x e) (more pre f x l) (omega arith) b (omega arith) (omega arith),
      )

  lie_from : (lo_x lo_y hi_x hi_y : ℕ) (pre : List ℕ) (f x y : ℕ) (fs : List Blocks) → bases ≡ pre ++ bases_from list f x y fs → length pre ≡ f
      → lo_x ≤ x → lo_y ≤ y → x + functions_size fs ≤ hi_x → y + functions_size fs ≤ hi_y → LieFrom f lo_x lo_y hi_x hi_y fs
  lie_from lo_x lo_y hi_x hi_y pre f x y [] e l a b c d = tt
  lie_from lo_x lo_y hi_x hi_y pre f x y (bs ∷ fs) e l a b c d =
      lie_by lo_x lo_y hi_x hi_y pre f x y bs fs (slice_index_or list f false) refl e l a b c d
      (λ pre2 u v e2 l2 a2 b2 c2 d2. lie_from lo_x lo_y hi_x hi_y pre2 (suc f) u v fs e2 l2 a2 b2 c2 d2)

  -- a function that ends where another begins, or later functions of the other row
  abbrev IsApart : ℕ → ℕ → ℕ → ℕ → Type 0
  IsApart a n b m = (a + n ≤ b) ⊎ (b + m ≤ a)

  abbrev ApartFrom : ℕ → ℕ → ℕ → List Blocks → Type 0
  ApartFrom a n f [] = Unit {0}
  ApartFrom a n f (bs ∷ fs) = IsApart a n (slice_index bases f) (blocks_size bs) × ApartFrom a n (suc f) fs

  one_apart : (a n f lo_x lo_y hi_x hi_y : ℕ) (bs : Blocks) (b : Bool) → slice_index_or list f false ≡ b → Lies f lo_x lo_y hi_x hi_y bs → (a + n ≤ lo_x) ⊎ (hi_x ≤ a) → (a + n ≤ lo_y) ⊎ (hi_y ≤ a) → IsApart a n (slice_index bases f) (blocks_size bs)
  one_apart a n f lo_x lo_y hi_x hi_y bs true t h p q =
      let k = h.scratchpad t in
      let k0 = k.0 in
      let k1 = k.1 in
      ⊎_elim (λ (r : a + n ≤ lo_y). inl (omega arith)) (λ (r : hi_y ≤ a). inr (omega arith)) q
  one_apart a n f lo_x lo_y hi_x hi_y bs false t h p q =
      let k = h.flash t in
      let k0 = k.0 in
      let k1 = k.1 in
      ⊎_elim (λ (r : a + n ≤ lo_x). inl (omega arith)) (λ (r : hi_x ≤ a). inr (omega arith)) p

  apart_from : (a n f lo_x lo_y hi_x hi_y : ℕ) (fs : List Blocks) → LieFrom f lo_x lo_y hi_x hi_y fs → (a + n ≤ lo_x) ⊎ (hi_x ≤ a) → (a + n ≤ lo_y) ⊎ (hi_y ≤ a) → ApartFrom a n f fs
  apart_from a n f lo_x lo_y hi_x hi_y [] h p q = tt
  apart_from a n f lo_x lo_y hi_x hi_y (bs ∷ fs) h p q = (one_apart a n f lo_x lo_y hi_x hi_y bs (slice_index_or list f false) refl h.0 p q, apart_from a n (suc f) lo_x lo_y hi_x hi_y fs h.1 p q)

  abbrev AllApart : ℕ → List Blocks → Type 0
  AllApart f [] = Unit {0}
  AllApart f (bs ∷ fs) = ApartFrom (slice_index bases f) (blocks_size bs) (suc f) fs × AllApart (suc f) fs

  all_by : (pre : List ℕ) (f x y : ℕ) (bs : Blocks) (fs : List Blocks) (b : Bool)
      → bases ≡ pre ++ (if b then y ∷ bases_from list (suc f) x (y + blocks_size bs) fs else x ∷ bases_from list (suc f) (x + blocks_size bs) y fs) → length pre ≡ f → x + functions_size (bs ∷ fs) ≤ y
      → Go f fs (λ u v. u + functions_size fs ≤ v → AllApart (suc f) fs) → AllApart f (bs ∷ fs)
  all_by pre f x y bs fs true e l h go =
      let rest = bases_from list (suc f) x (y + blocks_size bs) fs in
      let is = base_is pre rest f y e l in
      let later = lie_from x (y + blocks_size bs) (x + functions_size fs) (y + blocks_size bs + functions_size fs) (pre ++ y ∷ []) (suc f) x (y + blocks_size bs) fs (moved pre rest y e) (more pre f y l) (omega arith) (omega arith) (omega arith) (omega arith) in (
        apart_from (slice_index bases f) (blocks_size bs) (suc f) x (y + blocks_size bs) (x + functions_size fs) (y + blocks_size bs + functions_size fs) fs later (inr (omega arith)) (inl (omega arith)),
        go (pre ++ y ∷ []) x (y + blocks_size bs) (moved pre rest y e) (more pre f y l) (omega arith),
      )
  all_by pre f x y bs fs false e l h go =
      let rest = bases_from list (suc f) (x + blocks_size bs) y fs in
      let is = base_is pre rest f x e l in
      let later = lie_from (x + blocks_size bs) y (x + blocks_size bs + functions_size fs) (y + functions_size fs) (pre ++ x ∷ []) (suc f) (x + blocks_size bs) y fs (moved pre rest x e) (more pre f x l) (omega arith) (omega arith) (omega arith) (omega arith) in (
        apart_from (slice_index bases f) (blocks_size bs) (suc f) (x + blocks_size bs) y (x + blocks_size bs + functions_size fs) (y + functions_size fs) fs later (inl (omega arith)) (inl (omega arith)),
        go (pre ++ x ∷ []) (x + blocks_size bs) y (moved pre rest x e) (more pre f x l) (omega arith),
      )

  pub all_apart : (pre : List ℕ) (f x y : ℕ) (fs : List Blocks) → bases ≡ pre ++ bases_from list f x y fs → length pre ≡ f → x + functions_size fs ≤ y → AllApart f fs
  all_apart pre f x y [] e l h = tt
  all_apart pre f x y (bs ∷ fs) e l h = all_by pre f x y bs fs (slice_index_or list f false) e l h (λ pre2 u v e2 l2 h2. all_apart pre2 (suc f) u v fs e2 l2 h2)

  apart_behind : (a n k : ℕ) (fs : List Blocks) (j : ℕ) → j < length fs → ApartFrom a n k fs → IsApart a n (slice_index bases (k + j)) (blocks_size (slice_index_or fs j []))
  apart_behind a n k [] j less h = absurd (omega arith)
  apart_behind a n k (bs ∷ fs) zero less h = let e : k ≡ k + 0 = omega arith in subst (λ m. IsApart a n (slice_index bases m) (blocks_size bs)) e h.0
  apart_behind a n k (bs ∷ fs) (suc j) less h = let e : suc k + j ≡ k + suc j = omega arith in subst (λ m. IsApart a n (slice_index bases m) (blocks_size (slice_index_or fs j []))) e (apart_behind a n (suc k) fs j (omega arith) h.1)

  -- the earlier of two functions, and the later one
  apart_at : (k : ℕ) (fs : List Blocks) (i j : ℕ) → i < j → j < length fs → AllApart k fs → IsApart (slice_index bases (k + i)) (blocks_size (slice_index_or fs i [])) (slice_index bases (k + j)) (blocks_size (slice_index_or fs j []))
  apart_at k [] i j less there h = absurd (omega arith)
  apart_at k (bs ∷ fs) i zero less there h = absurd (omega arith)
  apart_at k (bs ∷ fs) zero (suc j) less there h =
      let e : suc k + j ≡ k + suc j = omega arith in
      let z : k ≡ k + 0 = omega arith in
      subst (λ m. IsApart (slice_index bases m) (blocks_size bs) (slice_index bases (k + suc j)) (blocks_size (slice_index_or fs j []))) z
      (subst (λ m. IsApart (slice_index bases k) (blocks_size bs) (slice_index bases m) (blocks_size (slice_index_or fs j []))) e (apart_behind (slice_index bases k) (blocks_size bs) (suc k) fs j (omega arith) h.0))
  apart_at k (bs ∷ fs) (suc i) (suc j) less there h =
      let e : suc k + j ≡ k + suc j = omega arith in
      let z : suc k + i ≡ k + suc i = omega arith in
      subst (λ m. IsApart (slice_index bases m) (blocks_size (slice_index_or fs i [])) (slice_index bases (k + suc j)) (blocks_size (slice_index_or fs j []))) z
      (subst (λ m. IsApart (slice_index bases (suc k + i)) (blocks_size (slice_index_or fs i [])) (slice_index bases m) (blocks_size (slice_index_or fs j []))) e (apart_at (suc k) fs i j (omega arith) (omega arith) h.1))

  pub two_apart : (fs : List Blocks) (i j : ℕ) → i < j → j < length fs → AllApart 0 fs → IsApart (slice_index bases i) (blocks_size (slice_index_or fs i [])) (slice_index bases j) (blocks_size (slice_index_or fs j []))
  two_apart fs i j less there h =
      let y : 0 + i ≡ i = omega arith in
      let z : 0 + j ≡ j = omega arith in
      subst (λ m. IsApart (slice_index bases i) (blocks_size (slice_index_or fs i [])) (slice_index bases m) (blocks_size (slice_index_or fs j []))) z
      (subst (λ m. IsApart (slice_index bases m) (blocks_size (slice_index_or fs i [])) (slice_index bases (0 + j)) (blocks_size (slice_index_or fs j []))) y (apart_at 0 fs i j less there h))
