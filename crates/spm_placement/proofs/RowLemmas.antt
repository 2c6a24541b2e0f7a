-- Rows, item by item.
use Rattle.std.proofs.Common.{◌≡◌, ℕ, pos, ◌+◌, ◌-◌, ◌^◌, ◌<◌, ◌≤◌, inl, inr, if◌then◌else◌, max, suc, List, ◌∷◌, ◌++◌, length, drop, take, get_or, All, sym, ap, subst, ◌∙◌, arith}
use Rattle.std.proofs.lemmas.Bool.{cases_lt, le-ltb, lt-ltb}
use Rattle.std.proofs.lemmas.List.{drop_more, get_or_default, length-drop}
use Rattle.std.proofs.lemmas.List.Elements.{All-drop}
use Rattle.spm_placement.specs.declared.item.Item.{Item}
use Rattle.spm_placement.specs.declared.rows.Cell.{Cell}
use Rattle.spm_placement.specs.Sets.{HasSmallGain}
use Rattle.spm_placement.specs.Tops.{top, words, worth}
use Rattle.spm_placement.specs.Rows.{HasTops, IsAdded, IsCell, IsRow, LeavesRoom, carried, cell_at, more, no_cell}
use Rattle.spm_placement.proofs.Tops.{beside_below, beside_with, beside_within, beside_without, top_small, whole_small}
use Rattle.spm_placement.proofs.Chosen.{part_cut}

-- the item is too large, or makes more, or doesn't
module _ (w g : ℕ) (f : ℕ → Cell) (c : ℕ) where
  carried_below : c < w → carried w g f c ≡ f c
  carried_below h = ap (λ b. if b then f c else more (f c) g (f (c - w))) (lt-ltb c w h)

  carried_within : w ≤ c → carried w g f c ≡ more (f c) g (f (c - w))
  carried_within h = ap (λ b. if b then f c else more (f c) g (f (c - w))) (le-ltb c w h)

  carried_taken : w ≤ c → (f c).worth < (f (c - w)).worth + g → carried w g f c ≡ record { worth = (f (c - w)).worth + g; left = (f (c - w)).left }
  carried_taken h gains = carried_within h ∙ ap (λ b. if b then (record { worth = (f (c - w)).worth + g; left = (f (c - w)).left }) else f c) (lt-ltb (f c).worth ((f (c - w)).worth + g) gains)

  carried_left : w ≤ c → (f (c - w)).worth + g ≤ (f c).worth → carried w g f c ≡ f c
  carried_left h none = carried_within h ∙ ap (λ b. if b then (record { worth = (f (c - w)).worth + g; left = (f (c - w)).left }) else f c) (le-ltb (f c).worth ((f (c - w)).worth + g) none)

-- one more item

module _ (x : Item) (xs ys : List Item) (f : ℕ → Cell) (c : ℕ) where
  unchanged : top (x ∷ xs ++ ys) c ≡ top (xs ++ ys) c → carried (words x) (worth x) f c ≡ f c → IsCell xs ys c (f c) → IsCell (x ∷ xs) ys c (carried (words x) (worth x) f c)
  unchanged same e h =
      let divided = h.divided in
      let without : top xs (c - (f c).left) ≤ top (x ∷ xs) (c - (f c).left) = beside_without (words x) (worth x) (top xs) (c - (f c).left) in
      subst (IsCell (x ∷ xs) ys c) (sym e) (record { is = h.is ∙ sym same; within = h.within; divided = omega (arith, same, divided, without) })

  taken : words x ≤ c → IsCell xs ys c (f c) → IsCell xs ys (c - words x) (f (c - words x)) → (f c).worth < (f (c - words x)).worth + worth x → IsCell (x ∷ xs) ys c (carried (words x) (worth x) f c)
  taken fits h back gains =
      let k = (f (c - words x)).left in
      let e : top (x ∷ xs ++ ys) c ≡ max (top (xs ++ ys) c) (top (xs ++ ys) (c - words x) + worth x) = beside_within (words x) (worth x) (top (xs ++ ys)) c fits in
      let own = h.is in
      let other = back.is in
      let within = back.within in
      let divided = back.divided in
      let n : (c - k) - words x ≡ (c - words x) - k = omega arith in
      let same = ap (top xs) n in
      let with_it : top xs ((c - k) - words x) + worth x ≤ top (x ∷ xs) (c - k) = beside_with (words x) (worth x) (top xs) (c - k) (omega (arith, fits, within)) in
      subst (IsCell (x ∷ xs) ys c) (sym (carried_taken (words x) (worth x) f c fits gains)) (record {
        is = omega (arith, e, own, other, gains);
        within = omega (arith, within);
        divided = omega (arith, e, own, other, gains, divided, same, with_it);
      })

  pub cell_next : IsCell xs ys c (f c) → IsCell xs ys (c - words x) (f (c - words x)) → IsCell (x ∷ xs) ys c (carried (words x) (worth x) f c)
  cell_next h back = elim (cases_lt c (words x)) [
    | inl large ↦ unchanged (beside_below (words x) (worth x) (top (xs ++ ys)) c large) (carried_below (words x) (worth x) f c large) h
    | inr fits ↦ elim (cases_lt (f c).worth ((f (c - words x)).worth + worth x)) [
      | inl gains ↦ taken fits h back gains
      | inr none ↦
          let e = beside_within (words x) (worth x) (top (xs ++ ys)) c fits in
          let own = h.is in
          let other = back.is in
          unchanged (omega (arith, e, own, other, none)) (carried_left (words x) (worth x) f c fits none) h
    ]
  ]

abbrev pub no_item : Item
no_item = record { id = 0; size = 0; gain = pos 0 }

-- the item that comes next, of those up to a place
abbrev pub item_at : List Item → ℕ → ℕ → Item
item_at items upto i = get_or items (upto - 1 - i) no_item

abbrev pub last : ℕ → ℕ → List Item → List Item
last upto i items = take i (drop (upto - i) items)

module _ (items : List Item) (upto i w g : ℕ) (lt : i < upto) (le : upto ≤ length items) (w_is : w ≡ words (item_at items upto i)) (g_is : g ≡ worth (item_at items upto i)) where
  abbrev x : Item
  x = item_at items upto i

  cut : last upto (i + 1) items ≡ x ∷ last upto i items
  cut =
      let here : upto - (i + 1) ≡ upto - 1 - i = omega (arith, lt) in
      let next : (upto - 1 - i) + 1 ≡ upto - i = omega (arith, lt) in
      ap (λ n. take (i + 1) (drop n items)) here
      ∙ (ap (take (i + 1)) (drop_more items (upto - 1 - i) no_item (omega (arith, lt, le)))
      ∙ (ap (λ n. take n (x ∷ drop ((upto - 1 - i) + 1) items)) (one_more i) ∙ ap (λ n. x ∷ take i (drop n items)) next))
    where
      one_more : (n : ℕ) → n + 1 ≡ suc n
      one_more n = omega arith

  pub row_next : (row new : List Cell) → IsRow (last upto i items) (drop upto items) row → IsAdded w g 0 row new → IsRow (last upto (i + 1) items) (drop upto items) new
  row_next row new h more c within =
      let same = more.same in
      let is : cell_at new c ≡ carried (words x) (worth x) (cell_at row) c =
      more.added c (omega arith) (omega (arith, within, same))
      ∙ (ap (λ n. carried n g (cell_at row) c) w_is ∙ ap (λ n. carried (words x) n (cell_at row) c) g_is) in
      subst (λ xs. IsCell xs (drop upto items) c (cell_at new c)) (sym cut)
      (subst (IsCell (x ∷ last upto i items) (drop upto items) c) (sym is)
      (cell_next x (last upto i items) (drop upto items) (cell_at row) c (h c (omega (arith, within, same))) (h (c - words x) (omega (arith, within, same)))))

  -- the item's gain is small, so it can be added
  pub row_room : (row : List Cell) → length items ≤ 131072 → All HasSmallGain items → IsRow (last upto i items) (drop upto items) row → LeavesRoom g row
  row_room row few small h c within =
      let n = upto - i in
      let e = (h c within).is in
      let k : upto - n ≡ i = omega (arith, lt) in
      let whole : last upto i items ++ drop upto items ≡ drop n items = ap (λ j. take j (drop n items) ++ drop upto items) (sym k) ∙ sym (part_cut items n upto (omega arith)) in
      let is = ap (λ zs. top zs c) whole in
      let most = top_small (drop n items) c (All-drop HasSmallGain n items small) in
      let long = length-drop n items in
      let own : HasSmallGain x = small (upto - 1 - i) no_item (omega (arith, lt, le)) in
      let one : worth x < 2 ^ 110 = whole_small x.gain (2 ^ 110) own in
      omega (arith, e, is, most, long, one, few, g_is)

-- what the items of a row are worth
pub row_tops : (items : List Item) (from upto : ℕ) (row : List Cell) → from ≤ upto → IsRow (take (upto - from) (drop from items)) (drop upto items) row → HasTops (drop from items) row
row_tops items from upto row le h c lt = (h c lt).is ∙ sym (ap (λ zs. top zs c) (part_cut items from upto le))

-- a cell that was read
pub cell_is : (xs ys : List Item) (row : List Cell) (c : ℕ) (cell : Cell) → c < length row → cell ≡ get_or row c cell → IsRow xs ys row → IsCell xs ys c cell
cell_is xs ys row c cell lt e h = subst (IsCell xs ys c) (sym (e ∙ get_or_default row c cell no_cell lt)) (h c lt)
