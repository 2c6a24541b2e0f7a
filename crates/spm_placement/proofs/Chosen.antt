-- Choices of all useful items, of parts of a list, and of items in bytes.
use Rattle.std.proofs.Common.{◌≡◌, ℕ, ◌+◌, ◌-◌, ◌*◌, ◌/◌, ◌≤◌, inl, inr, pos, ◌≤ℤ◌, List, [], ◌∷◌, ◌++◌, map, length, take, drop, All, refl, sym, ap, subst, ◌∙◌, append-nil, append_assoc, arith}
use Rattle.std.proofs.lemmas.Int.{ints}
use Rattle.std.proofs.lemmas.List.{drop_all, drop-drop, length-drop, length-take-le, map-append, take-append-drop, take_all}
use Rattle.std.proofs.lemmas.List.Elements.{All-append, All-head, All-nil, All-tail}
use Rattle.std.proofs.Math.Seq.{take-add}
use Rattle.spm_placement.specs.declared.item.Item.{Item}
use Rattle.spm_placement.specs.declared.rows.Cell.{Cell}
use Rattle.spm_placement.specs.Sets.{AreBest, Gains, HasWholeWords, IsBest, IsPartOf, bytes, gain, number}
use Rattle.spm_placement.specs.Tops.{HasChosen, HasChosenBefore, IsTop, all_words, all_worth, top, useful}
use Rattle.spm_placement.specs.Rows.{IsCell}
use Rattle.spm_placement.proofs.Tops.{top_all, whole_is, whole_most, worth_most}
use Rattle.spm_placement.proofs.Useful.{part_all, part_of_useful, useful_gains, useful_part, useful_top}

-- all that are useful
pub all_chosen : (c : ℕ) (xs kept : List Item) (ids behind : List ℕ) → kept ≡ useful c xs → all_words kept ≤ c → behind ≡ ids ++ map number kept → HasChosen xs c ids behind
all_chosen c xs kept ids behind e fits added =
    let takes = ap all_words e in
    let less = useful_top c xs c (omega arith) in
    let most = top_all (useful c xs) c in
    record {
      chosen = useful c xs;
      added = added ∙ ap (λ ys. ids ++ map number ys) e;
      tops = record { part = useful_part c xs; fits = omega (arith, takes, fits); most = omega (arith, less, most); useful = useful_gains c xs };
    }

-- those that were chosen before none are all
module _ (c k : ℕ) (xs kept : List Item) (ids behind : List ℕ) (e : kept ≡ useful c xs) (n d : ℕ) (all : length kept ≤ n) (is : d ≡ c) where
  pub useful_chosen : HasChosenBefore (take n kept) (drop n kept) d k ids behind → HasChosen xs c ids behind
  useful_chosen h =
      let own : take n kept ≡ useful c xs = take_all n kept all ∙ e in
      let whole = ap (λ ys. top ys d) (take-append-drop n kept ∙ e) in
      let wide = ap (top (useful c xs)) is in
      let nothing = ap (λ ys. top ys k) (drop_all n kept all) in
      let less = useful_top c xs c (omega arith) in
      let most = h.most in
      let fits = h.fits in
      record {
        chosen = h.chosen;
        added = h.added;
        tops = record {
          part = part_of_useful c h.chosen xs (subst (IsPartOf h.chosen) own h.part);
          fits = omega (arith, fits, is);
          most = omega (arith, less, whole, wide, most, nothing);
          useful = h.useful;
        };
      }

-- part by part

pub none_before : (xs : List Item) (upto c : ℕ) (ids : List ℕ) → upto ≡ 0 → HasChosenBefore (take upto xs) (drop upto xs) c c ids ids
none_before xs upto c ids e = subst (λ n. HasChosenBefore (take n xs) (drop n xs) c c ids ids) (sym e) (record {
  chosen = [];
  added = sym (append-nil ids);
  part = refl;
  fits = omega arith;
  most = omega arith;
  useful = All-nil Gains;
})

parts_join : (s t xs ys : List Item) → IsPartOf s xs → IsPartOf t ys → IsPartOf (s ++ t) (xs ++ ys)
parts_join s t [] ys p q = subst (λ u. IsPartOf (u ++ t) ys) (sym p) q
parts_join s t (x ∷ xs) ys (inl p) q = inl (parts_join s t xs ys p q)
parts_join s t (x ∷ xs) ys (inr p) q = inr (p.0 ++ t, ap (λ u. u ++ t) p.1, parts_join p.0 t xs ys p.2 q)

words_join : (s t : List Item) → all_words (s ++ t) ≡ all_words s + all_words t
words_join [] t = omega arith
words_join (x ∷ s) t = let h = words_join s t in omega (arith, h)

worth_join : (s t : List Item) → all_worth (s ++ t) ≡ all_worth s + all_worth t
worth_join [] t = omega arith
worth_join (x ∷ s) t = let h = worth_join s t in omega (arith, h)

module _ (xs part ys : List Item) (c share : ℕ) (cell : Cell) (divided : IsCell part ys share cell) (ids between behind : List ℕ) where
  join : HasChosenBefore xs (part ++ ys) c share ids between → HasChosen part (share - cell.left) between behind → HasChosenBefore (xs ++ part) ys c cell.left ids behind
  join p q =
      let s = p.chosen in
      let t = q.chosen in
      let takes = words_join s t in
      let is = worth_join s t in
      let first = p.fits in
      let second = q.tops.fits in
      let within = divided.within in
      let one = p.most in
      let other = q.tops.most in
      let both = divided.divided in
      let whole = ap (λ zs. top zs c) (append_assoc xs part ys) in
      record {
        chosen = s ++ t;
        added =
            q.added
            ∙ (ap (λ zs. zs ++ map number t) p.added
            ∙ (append_assoc ids (map number s) (map number t)
            ∙ ap (λ zs. ids ++ zs) (sym (map-append number s t))));
        part = parts_join s t xs part p.part q.tops.part;
        fits = omega (arith, takes, first, second, within);
        most = omega (arith, is, one, other, both, whole);
        useful = All-append Gains s t p.useful q.tops.useful;
      }

-- the items that were cut off

pub part_cut : (items : List Item) (from upto : ℕ) → from ≤ upto → drop from items ≡ take (upto - from) (drop from items) ++ drop upto items
part_cut items from upto le =
    let n : from + (upto - from) ≡ upto = omega (arith, le) in
    sym (take-append-drop (upto - from) (drop from items)) ∙ ap (λ ys. take (upto - from) (drop from items) ++ ys) (drop-drop (upto - from) from items ∙ ap (λ k. drop k items) n)

pub part_long : (items : List Item) (from upto : ℕ) → from ≤ upto → upto ≤ length items → length (take (upto - from) (drop from items)) ≡ upto - from
part_long items from upto le within =
    let long = length-drop from items in
    length-take-le (upto - from) (drop from items) (omega (arith, long, le, within))

first_cut : (items : List Item) (from upto : ℕ) → from ≤ upto → take upto items ≡ take from items ++ take (upto - from) (drop from items)
first_cut items from upto le =
    let n : from + (upto - from) ≡ upto = omega (arith, le) in
    sym (ap (λ k. take k items) n) ∙ take-add from (upto - from) items

module _ (items : List Item) (from upto c d share : ℕ) (le : from ≤ upto) (same : d ≡ c) (cell : Cell) (ids between behind : List ℕ) where
  pub part_chosen :
      HasChosenBefore (take from items) (drop from items) d share ids between →
      IsCell (take (upto - from) (drop from items)) (drop upto items) share cell →
      HasChosen (take (upto - from) (drop from items)) (share - cell.left) between behind →
      HasChosenBefore (take upto items) (drop upto items) c cell.left ids behind
  part_chosen p divided q =
      subst (λ zs. HasChosenBefore zs (drop upto items) c cell.left ids behind) (sym (first_cut items from upto le))
      (join (take from items) (take (upto - from) (drop from items)) (drop upto items) c share cell divided ids between behind
      (subst (λ zs. HasChosenBefore (take from items) zs c share ids between) (part_cut items from upto le)
      (subst (λ m. HasChosenBefore (take from items) (drop from items) m share ids between) same p))
      q)

-- in bytes

bytes_are : (s : List Item) → All HasWholeWords s → bytes s ≡ 4 * all_words s
bytes_are [] h = omega arith
bytes_are (x ∷ s) h =
    let one = All-head HasWholeWords x s h in
    let rest = bytes_are s (All-tail HasWholeWords x s h) in
    omega (arith, one, rest)

gain_most : (s : List Item) → gain s ≤ℤ pos (all_worth s)
gain_most [] = omega (arith, ints)
gain_most (x ∷ s) = let one = whole_most x.gain in let rest = gain_most s in omega (arith, ints, one, rest)

gain_is : (s : List Item) → All Gains s → gain s ≡ pos (all_worth s)
gain_is [] h = refl
gain_is (x ∷ s) h = let one = whole_is x.gain (All-head Gains x s h) in let rest = gain_is s (All-tail Gains x s h) in omega (arith, ints, one, rest)

best_by : (items : List Item) (capacity : ℕ) (s : List Item) → All HasWholeWords items → IsTop items (capacity / 4) s → IsBest items capacity s
best_by items capacity s whole p =
    let own = bytes_are s (part_all HasWholeWords s items p.part whole) in
    let fits = p.fits in
    let most = p.most in
    let gained = gain_is s p.useful in
    record {
      part = p.part;
      fits = omega (arith, own, fits);
      greatest = λ t part within.
          let takes = bytes_are t (part_all HasWholeWords t items part whole) in
          let less = worth_most items t (capacity / 4) part (omega (arith, takes, within)) in
          let other = gain_most t in
          omega (arith, ints, gained, other, less, most);
    }

pub best_chosen : (items : List Item) (capacity : ℕ) (before ids : List ℕ) → before ≡ [] → All HasWholeWords items → HasChosen items (capacity / 4) before ids → AreBest items capacity ids
best_chosen items capacity before ids none whole p = record {
  chosen = p.chosen;
  numbers = p.added ∙ ap (λ zs. zs ++ map number p.chosen) none;
  best = best_by items capacity p.chosen whole p.tops;
  useful = p.tops.useful;
}
