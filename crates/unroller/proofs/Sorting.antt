-- Copies in the entries of their marks.
use Rattle.std.proofs.Common.{◌≡◌, ℕ, zero, suc, ◌+◌, ◌<◌, ◌≤◌, ◌==◌, List, [], ◌∷◌, ◌++◌, map, length, get_or, set, drop, refl, sym, ap, ◌∙◌, arith, add-one, append_assoc}
use Rattle.std.specs.List.{range_with_len}
use Rattle.std.proofs.lemmas.Bool.{cond-false, cond-true, eq-eqb, ne_eqb}
use Rattle.std.proofs.lemmas.List.{append-nil, drop_all, drop_more}
use Rattle.high_ir.specs.declared.copies.MarkCopies.{MarkCopies}
use Rattle.high_ir.specs.declared.copies.NeverMark.{NeverMark}
use Rattle.high_parts.specs.Same.{same_mark, same_marks}
use Rattle.high_pass.specs.Listing.{MarkEntry, mark_entry}
use Rattle.high_unrolled.specs.declared.made.Made.{Made}
use Rattle.high_unrolled.specs.declared.made.Made.TheVariants.{CopyOf, Behind}
use Rattle.high_unrolled.specs.Programs.{copies_from, copies_of, nevers_from}
use Rattle.unroller.specs.Sorting.{with_copies, with_copy, with_made}

abbrev entry : ℕ → List ℕ → MarkEntry
entry old new = record { old = old; new = new }

own_copy : (n mark y : ℕ) (xs : List Made) → y ≡ mark → copies_from n (CopyOf y ∷ xs) mark ≡ n ∷ copies_from (n + 1) xs mark
own_copy n mark y xs e = cond-true (y == mark) (n ∷ copies_from (n + 1) xs mark) (copies_from (n + 1) xs mark) (eq-eqb y mark e)

other_copy : (n mark y : ℕ) (xs : List Made) → (y ≡ mark → ⊥) → copies_from n (CopyOf y ∷ xs) mark ≡ copies_from (n + 1) xs mark
other_copy n mark y xs e = cond-false (y == mark) (n ∷ copies_from (n + 1) xs mark) (copies_from (n + 1) xs mark) (ne_eqb y mark e)

-- a copy of a lower mark
past : (es : List MarkEntry) (mark n y : ℕ) (xs : List Made) → y < mark → with_copies mark es (n + 1) xs ≡ with_copies mark es n (CopyOf y ∷ xs)
past [] mark n y xs h = refl
past (e ∷ es) mark n y xs h =
    ap (λ l. entry e.old (e.new ++ l) ∷ with_copies (suc mark) es (n + 1) xs) (sym (other_copy n mark y xs (λ same. omega (arith, same, h))))
    ∙ ap (λ l. entry e.old (e.new ++ copies_from n (CopyOf y ∷ xs) mark) ∷ l) (past es (suc mark) n y xs (omega (arith, h)))

put_from : (es : List MarkEntry) (mark i n y : ℕ) (xs : List Made) → y ≡ mark + i → with_copies mark (with_copy es i n) (n + 1) xs ≡ with_copies mark es n (CopyOf y ∷ xs)
put_from [] mark i n y xs e = refl
put_from (x ∷ es) mark zero n y xs e =
    let here : y ≡ mark = omega (arith, e) in
    ap (λ l. entry x.old l ∷ with_copies (suc mark) es (n + 1) xs) (append_assoc x.new (n ∷ []) (copies_from (n + 1) xs mark) ∙ ap (λ l. x.new ++ l) (sym (own_copy n mark y xs here)))
    ∙ ap (λ l. entry x.old (x.new ++ copies_from n (CopyOf y ∷ xs) mark) ∷ l) (past es (suc mark) n y xs (omega (arith, here)))
put_from (x ∷ es) mark (suc i) n y xs e =
    let later : y ≡ suc mark + i = omega (arith, e) in
    ap (λ l. entry x.old (x.new ++ l) ∷ with_copies (suc mark) (with_copy es i n) (n + 1) xs) (sym (other_copy n mark y xs (λ same. omega (arith, e, same))))
    ∙ ap (λ l. entry x.old (x.new ++ copies_from n (CopyOf y ∷ xs) mark) ∷ l) (put_from es (suc mark) i n y xs later)

behind_same : (es : List MarkEntry) (mark n l : ℕ) (xs : List Made) → with_copies mark es (n + 1) xs ≡ with_copies mark es n (Behind l ∷ xs)
behind_same [] mark n l xs = refl
behind_same (e ∷ es) mark n l xs = ap (λ t. entry e.old (e.new ++ copies_from (n + 1) xs mark) ∷ t) (behind_same es (suc mark) n l xs)

-- one new mark more
put_made : (es : List MarkEntry) (n : ℕ) (x : Made) (xs : List Made) → with_copies 0 (with_made es x n) (n + 1) xs ≡ with_copies 0 es n (x ∷ xs)
put_made es n (CopyOf y) xs = let e : y ≡ 0 + y = omega arith in put_from es 0 y n y xs e
put_made es n (Behind l) xs = behind_same es 0 n l xs

none_left : (es : List MarkEntry) (mark n : ℕ) → with_copies mark es n [] ≡ es
none_left [] mark n = refl
none_left (e ∷ es) mark n = ap (λ l. entry e.old l ∷ with_copies (suc mark) es n []) (append-nil e.new) ∙ ap (λ l. e ∷ l) (none_left es (suc mark) n)

none_yet : (made : List Made) (from count n : ℕ) → with_copies from (map same_mark (range_with_len from count)) n made ≡ map (copies_of n made) (range_with_len from count)
none_yet made from zero n = refl
none_yet made from (suc count) n =
    ap (λ l. entry from (from ∷ copies_from n made from) ∷ l)
    (ap (λ k. with_copies k (map same_mark (range_with_len (from + 1) count)) n made) (sym (add-one from)) ∙ none_yet made (from + 1) count n)

-- all of them
pub sorted_is : (made : List Made) (n : ℕ) (es : List MarkEntry) → es ≡ same_marks n → with_copies 0 es n made ≡ map (copies_of n made) (range_with_len 0 n)
sorted_is made n es e = ap (λ l. with_copies 0 l n made) e ∙ none_yet made 0 n n

pub with_past : (es : List MarkEntry) (mark copy : ℕ) → length es ≤ mark → es ≡ with_copy es mark copy
with_past [] mark copy h = refl
with_past (e ∷ es) zero copy h = absurd (omega (arith, h))
with_past (e ∷ es) (suc mark) copy h = ap (λ l. e ∷ l) (with_past es mark copy (omega (arith, h)))

-- an entry is replaced, as the view has it
pub view_set : (xs : List MarkCopies) (mark : ℕ) (x new : MarkCopies) (copy : ℕ) → mark < length xs → x ≡ get_or xs mark x → mark_entry new ≡ entry x.old (x.new.items ++ copy ∷ []) → map mark_entry (set xs mark new) ≡ with_copy (map mark_entry xs) mark copy
view_set [] mark x new copy lt is made = absurd (omega (arith, lt))
view_set (y ∷ ys) zero x new copy lt is made = ap (λ e. e ∷ map mark_entry ys) (made ∙ ap (λ z. entry z.old (z.new.items ++ copy ∷ [])) is)
view_set (y ∷ ys) (suc mark) x new copy lt is made = ap (λ l. mark_entry y ∷ l) (view_set ys mark x new copy (omega (arith, lt)) is made)

nevers_more : (k n : ℕ) (x : Made) (xs : List Made) → nevers_from k n (x ∷ xs) ≡ nevers_from k n (x ∷ []) ++ nevers_from k (n + 1) xs
nevers_more k n (CopyOf y) xs = refl
nevers_more k n (Behind l) xs = refl

-- as a loop meets the new marks
pub made_at : (made : List Made) (i : ℕ) (d : Made) (number next : ℕ) (es more : List MarkEntry) → i < length made → next ≡ number + 1 → more ≡ with_made es (get_or made i d) number → with_copies 0 more next (drop (i + 1) made) ≡ with_copies 0 es number (drop i made)
made_at made i d number next es more lt one put =
    ap (λ l. with_copies 0 l next (drop (i + 1) made)) put
    ∙ ap (λ n. with_copies 0 (with_made es (get_or made i d) number) n (drop (i + 1) made)) one
    ∙ put_made es number (get_or made i d) (drop (i + 1) made)
    ∙ ap (with_copies 0 es number) (sym (drop_more made i d lt))

pub never_at : (k : ℕ) (made : List Made) (i : ℕ) (d : Made) (number next : ℕ) (done more : List NeverMark) → i < length made → next ≡ number + 1 → more ≡ done ++ nevers_from k number (get_or made i d ∷ []) →
    more ++ nevers_from k next (drop (i + 1) made) ≡ done ++ nevers_from k number (drop i made)
never_at k made i d number next done more lt one put =
    let x : Made = get_or made i d in
    ap (λ l. l ++ nevers_from k next (drop (i + 1) made)) put
    ∙ ap (λ n. (done ++ nevers_from k number (x ∷ [])) ++ nevers_from k n (drop (i + 1) made)) one
    ∙ append_assoc done (nevers_from k number (x ∷ [])) (nevers_from k (number + 1) (drop (i + 1) made))
    ∙ ap (λ l. done ++ l) (sym (nevers_more k number x (drop (i + 1) made)))
    ∙ ap (λ l. done ++ nevers_from k number l) (sym (drop_more made i d lt))

-- and none is left
pub sorted_all : (made : List Made) (i n : ℕ) (es : List MarkEntry) → length made ≤ i → es ≡ with_copies 0 es n (drop i made)
sorted_all made i n es le = sym (none_left es 0 n) ∙ ap (with_copies 0 es n) (sym (drop_all i made le))

pub nevers_all : (k : ℕ) (made : List Made) (i n : ℕ) (done : List NeverMark) → length made ≤ i → done ≡ done ++ nevers_from k n (drop i made)
nevers_all k made i n done le = sym (append-nil done) ∙ ap (λ l. done ++ nevers_from k n l) (sym (drop_all i made le))
