-- Where everything has room in its region, it can be counted.
use Rattle.std.proofs.Common.{◌≡◌, ℕ, zero, suc, ◌+◌, ◌^◌, ◌<◌, Bool, true, false, List, [], ◌∷◌, length, refl, sym, ap, ◌∙◌, subst, arith}
use Rattle.std.specs.Prelude.{◌==◌, slice_index, slice_index_or}
use Rattle.std.proofs.lemmas.List.{length-set}
use Rattle.wcc_base.specs.Sizes.{rounded}
use Rattle.low_ir.specs.Arrays.{bytes_of}
use Rattle.low_ir.specs.Code.{Object}
use Rattle.image_segments.specs.Rows.{Spot, spot_of, spots, moved, row_room, HaveSizes, HaveRoom}
use Rattle.image_segments.specs.RowLaws.{AreRows}
use Rattle.image_segments.proofs.RowLemmas.{gain, gain_by, advanced}
use Rattle.image_segments.specs.Starts.{starts_behind, FitRegions}
use Rattle.image_segments.proofs.EvenLemmas.{spots_below}

-- rows end in the lower half of the addresses
abbrev End : List ℕ → List Spot → Type 0
End next ss = (r : ℕ) → r < 6 → slice_index next r + row_room r ss < 2 ^ 31

rows_end : (frames : ℕ) (ss : List Spot) → FitRegions frames ss → End (starts_behind frames ss) ss
rows_end frames ss fit zero h = let k = fit.constants in omega (arith, k)
rows_end frames ss fit (suc zero) h = let k = fit.scratchpad in omega (arith, k)
rows_end frames ss fit (suc (suc zero)) h = let k = fit.ram in omega (arith, k)
rows_end frames ss fit (suc (suc (suc zero))) h = let k = fit.ram in omega (arith, k)
rows_end frames ss fit (suc (suc (suc (suc zero)))) h = let k = fit.ram in omega (arith, k)
rows_end frames ss fit (suc (suc (suc (suc (suc zero))))) h = let k = fit.ram in omega (arith, k)
rows_end frames ss fit (suc (suc (suc (suc (suc (suc r)))))) h = absurd (omega (arith, h))

own_gain : (s : Spot) → gain s s.row ≡ s.room
own_gain s = let t : (s.row == s.row) ≡ true = grind arith in gain_by s s.row true t

ends_on : (next : List ℕ) (s : Spot) (ss : List Spot) → s.row < length next → End next (s ∷ ss) → End (moved next s) ss
ends_on next s ss within e r h =
    let on = advanced next s r within in
    let k = e r h in
    sum (slice_index (moved next s) r) (slice_index next r) (gain s r) (row_room r ss) on k
  where
    sum : (x y g n : ℕ) → x ≡ y + g → y + (g + n) < 2 ^ 31 → x + n < 2 ^ 31
    sum x y g n e k = omega (arith, e, k)

have_room : (next : List ℕ) (ss : List Spot) → 6 ≡ length next → AreRows 6 ss → End next ss → HaveRoom next ss
have_room next [] l rows e = tt
have_room next (s ∷ ss) l rows e = (
  first (slice_index next s.row) s.room (gain s s.row) (row_room s.row ss) (own_gain s) (e s.row rows.0),
  have_room (moved next s) ss (l ∙ sym (length-set next s.row (slice_index next s.row + s.room))) rows.1
      (ends_on next s ss (subst (λ n. s.row < n) l rows.0) e),
)
  where
    first : (x n g m : ℕ) → g ≡ n → x + (g + m) < 2 ^ 31 → x + n < 2 ^ 32
    first x n g m e k = omega (arith, e, k)

pub rows_have_room : (frames : ℕ) (placed : List Bool) (xs : List Object) → FitRegions frames (spots placed 0 xs) → HaveRoom (starts_behind frames (spots placed 0 xs)) (spots placed 0 xs)
rows_have_room frames placed xs fit = have_room (starts_behind frames (spots placed 0 xs)) (spots placed 0 xs) refl (spots_below placed 0 xs) (rows_end frames (spots placed 0 xs) fit)

-- the same, of lists that are these
pub addresses_have_room : (frames : ℕ) (placed : List Bool) (xs : List Object) (n : ℕ) (ps qs : List Bool) (ys zs : List Object) (starts : List ℕ) → n ≡ frames → ps ≡ placed → qs ≡ placed → ys ≡ xs → zs ≡ xs
    → starts ≡ starts_behind n (spots ps 0 ys) → FitRegions frames (spots placed 0 xs) → HaveRoom starts (spots qs 0 zs)
addresses_have_room frames placed xs n ps qs ys zs starts en ep eq ey ez e fit =
    subst (λ ss. HaveRoom starts ss) (sym (ap (λ l. spots l 0 zs) eq ∙ ap (λ l. spots placed 0 l) ez))
    (subst (λ l. HaveRoom l (spots placed 0 xs)) (sym (e ∙ (ap (λ m. starts_behind m (spots ps 0 ys)) en ∙ ap (λ ss. starts_behind frames ss) (ap (λ l. spots l 0 ys) ep ∙ ap (λ l. spots placed 0 l) ey))))
    (rows_have_room frames placed xs fit))

counted : (n : ℕ) → rounded n < 2 ^ 31 → n + 3 < 2 ^ 32
counted n h = omega (arith, h)

have_sizes : (placed : List Bool) (o : ℕ) (xs : List Object) → ((r : ℕ) → r < 6 → row_room r (spots placed o xs) < 2 ^ 31) → HaveSizes xs
have_sizes placed o [] h = tt
have_sizes placed o (x ∷ xs) h = (
  counted (bytes_of x) (first s.room (gain s s.row) (row_room s.row (spots placed (suc o) xs)) (own_gain s) (h s.row rows.0)),
  have_sizes placed (suc o) xs (λ r l. rest (gain s r) (row_room r (spots placed (suc o) xs)) (h r l)),
)
  where
    s : Spot
    s = spot_of (slice_index_or placed o false) x

    rows : AreRows 6 (spots placed o (x ∷ xs))
    rows = spots_below placed o (x ∷ xs)

    first : (n g m : ℕ) → g ≡ n → g + m < 2 ^ 31 → n < 2 ^ 31
    first n g m e k = omega (arith, e, k)

    rest : (g m : ℕ) → g + m < 2 ^ 31 → m < 2 ^ 31
    rest g m k = omega (arith, k)

pub arrays_have_sizes : (frames : ℕ) (placed : List Bool) (xs : List Object) → FitRegions frames (spots placed 0 xs) → HaveSizes xs
arrays_have_sizes frames placed xs fit = have_sizes placed 0 xs (λ r h. rest (slice_index (starts_behind frames (spots placed 0 xs)) r) (row_room r (spots placed 0 xs)) (rows_end frames (spots placed 0 xs) fit r h))
  where
    rest : (x n : ℕ) → x + n < 2 ^ 31 → n < 2 ^ 31
    rest x n k = omega (arith, k)
