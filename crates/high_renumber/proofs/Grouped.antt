-- The copies of marks and loops, one new number more.
use Rattle.std.proofs.Common.{◌≡◌, ℕ, zero, suc, ◌+◌, ◌<◌, ◌≤◌, Bool, true, false, cond, List, [], ◌∷◌, ◌++◌, length, take, get_or, map, refl, sym, ap, ◌∙◌, add-one, arith, append-nil}
use Rattle.std.specs.Prelude.{slice_set, ◌==◌}
use Rattle.std.specs.List.{range_with_len}
use Rattle.std.proofs.lemmas.Bool.{eq-eqb, ne_eqb}
use Rattle.std.proofs.lemmas.List.{get_or-map, length-map, length-take-le, map-append, map-set}
use Rattle.std.proofs.lemmas.List.FromFn.{get_or-map-range_with_len, length-map-range_with_len}
use Rattle.high_pass.specs.Listing.{LoopEntry, MarkEntry, loop_entry, mark_entry}
use Rattle.high_ir.specs.declared.copies.MarkCopies.{MarkCopies}
use Rattle.high_ir.specs.declared.copies.LoopCopies.{LoopCopies}
use Rattle.high_ir.specs.declared.copies.LoopCopy.{LoopCopy}
use Rattle.high_renumber.specs.Numbered.{loop_at, mark_at, once, places}

-- an element before both of two lists, or before none
before_both : (b : Bool) (i : ℕ) (xs ys zs : List ℕ) → xs ≡ ys ++ zs → cond b (i ∷ xs) xs ≡ cond b (i ∷ ys) ys ++ zs
before_both true i xs ys zs e = ap (λ l. i ∷ l) e
before_both false i xs ys zs e = e

-- a list with an element more has its place more, where it is that number
pub places_more : (i : ℕ) (os : List ℕ) (o x : ℕ) → places i (os ++ o ∷ []) x ≡ places i os x ++ cond (o == x) ((i + length os) ∷ []) []
places_more i [] o x =
    let last : ℕ → List ℕ = λ k. cond (o == x) (k ∷ []) [] in
    let z : i ≡ i + 0 = omega arith in
    ap last z
places_more i (p ∷ os) o x =
    let last : ℕ → List ℕ = λ k. cond (o == x) (k ∷ []) [] in
    let z : i + 1 + length os ≡ i + suc (length os) = omega arith in
    before_both (p == x) i (places (i + 1) (os ++ o ∷ []) x) (places (i + 1) os x) (last (i + suc (length os)))
    (places_more (i + 1) os o x ∙ ap (λ k. places (i + 1) os x ++ last k) z)

-- how many there are of them
pub count_made : {A B : Type 0} (F : A → B) (G : ℕ → B) (xs : List A) (n : ℕ) → map F xs ≡ map G (range_with_len 0 n) → length xs ≡ n
count_made F G xs n made = sym (length-map xs F) ∙ ap length made ∙ length-map-range_with_len G 0 n

-- rows of things made in two ways that agree from a number on
rows_same : {A : Type 0} (F G : ℕ → A) (b n : ℕ) → ((j : ℕ) → b ≤ j → F j ≡ G j) → map F (range_with_len b n) ≡ map G (range_with_len b n)
rows_same F G b zero h = refl
rows_same F G b (suc n) h = ap (λ x. x ∷ map F (range_with_len (b + 1) n)) (h b (omega arith)) ∙ ap (λ l. G b ∷ l) (rows_same F G (b + 1) n (λ j le. h j (omega (arith, le))))

-- a row of made things, changed at one number
pub set_made : {A : Type 0} (F G : ℕ → A) (a n k : ℕ) → k < n → ((j : ℕ) → (j ≡ a + k → ⊥) → G j ≡ F j) → slice_set (map F (range_with_len a n)) k (G (a + k)) ≡ map G (range_with_len a n)
set_made F G a zero k lt same = absurd (omega (arith, lt))
set_made F G a (suc n) zero lt same =
    let z : a + zero ≡ a = omega arith in
    ap (λ x. x ∷ map F (range_with_len (a + 1) n)) (ap G z) ∙ ap (λ l. G a ∷ l) (rows_same F G (a + 1) n (λ j le. sym (same j (λ e. omega (arith, e, le)))))
set_made F G a (suc n) (suc k) lt same =
    let z : a + 1 + k ≡ a + suc k = omega arith in
    ap (λ x. x ∷ slice_set (map F (range_with_len (a + 1) n)) k (G (a + suc k))) (sym (same a (λ e. omega (arith, e))))
    ∙ ap (λ j. G a ∷ slice_set (map F (range_with_len (a + 1) n)) k (G j)) (sym z)
    ∙ ap (λ l. G a ∷ l) (set_made F G (a + 1) n k (omega (arith, lt)) (λ j apart. same j (λ e. apart (e ∙ sym z))))

other_mark : (os : List ℕ) (o j : ℕ) → (j ≡ o → ⊥) → mark_at (os ++ o ∷ []) j ≡ mark_at os j
other_mark os o j apart =
    let ne = ne_eqb o j (λ e. apart (sym e)) in
    ap (λ l. record { old = j; new = l }) (places_more 0 os o j ∙ ap (λ b. places 0 os j ++ cond b ((0 + length os) ∷ []) []) ne ∙ append-nil (places 0 os j))

-- one new mark more
pub marks_pushed : (os : List ℕ) (o n : ℕ) (copies after : List MarkCopies) (e : MarkEntry) → o < n → map mark_entry copies ≡ map (mark_at os) (range_with_len 0 n) → map mark_entry after ≡ slice_set (map mark_entry copies) o e → e ≡ mark_at (os ++ o ∷ []) o → map mark_entry after ≡ map (mark_at (os ++ o ∷ [])) (range_with_len 0 n)
marks_pushed os o n copies after e lt before made is =
    let z : 0 + o ≡ o = omega arith in
    made ∙ ap (λ l. slice_set l o e) before ∙ ap (λ x. slice_set (map (mark_at os) (range_with_len 0 n)) o x) (is ∙ ap (mark_at (os ++ o ∷ [])) (sym z))
    ∙ set_made (mark_at os) (mark_at (os ++ o ∷ [])) 0 n o lt (λ j apart. other_mark os o j (λ q. apart (q ∙ sym z)))

other_loop : (os : List ℕ) (o j : ℕ) → (j ≡ o → ⊥) → loop_at (os ++ o ∷ []) j ≡ loop_at os j
other_loop os o j apart =
    let ne = ne_eqb o j (λ e. apart (sym e)) in
    ap (λ l. record { old = j; new = map once l }) (places_more 0 os o j ∙ ap (λ b. places 0 os j ++ cond b ((0 + length os) ∷ []) []) ne ∙ append-nil (places 0 os j))

-- one new loop more
pub loops_pushed : (os : List ℕ) (o n : ℕ) (copies after : List LoopCopies) (e : LoopEntry) → o < n → map loop_entry copies ≡ map (loop_at os) (range_with_len 0 n) → map loop_entry after ≡ slice_set (map loop_entry copies) o e → e ≡ loop_at (os ++ o ∷ []) o → map loop_entry after ≡ map (loop_at (os ++ o ∷ [])) (range_with_len 0 n)
loops_pushed os o n copies after e lt before made is =
    let z : 0 + o ≡ o = omega arith in
    made ∙ ap (λ l. slice_set l o e) before ∙ ap (λ x. slice_set (map (loop_at os) (range_with_len 0 n)) o x) (is ∙ ap (loop_at (os ++ o ∷ [])) (sym z))
    ∙ set_made (loop_at os) (loop_at (os ++ o ∷ [])) 0 n o lt (λ j apart. other_loop os o j (λ q. apart (q ∙ sym z)))

-- what stands in a list up to a place and there
take_suc : (os : List ℕ) (i o : ℕ) → i < length os → o ≡ get_or os i o → take (suc i) os ≡ take i os ++ o ∷ []
take_suc [] i o lt is = absurd (omega (arith, lt))
take_suc (x ∷ os) zero o lt is = ap (λ y. y ∷ []) (sym is)
take_suc (x ∷ os) (suc i) o lt is = ap (λ l. x ∷ l) (take_suc os i o (omega (arith, lt)) is)

take_more : (os : List ℕ) (i o : ℕ) → i < length os → o ≡ get_or os i o → take (i + 1) os ≡ take i os ++ o ∷ []
take_more os i o lt is = ap (λ k. take k os) (add-one i) ∙ take_suc os i o lt is

-- the place behind the others is that of the new one
last_place : (os : List ℕ) (o : ℕ) → places 0 (os ++ o ∷ []) o ≡ places 0 os o ++ length os ∷ []
last_place os o =
    let same : (o == o) ≡ true = eq-eqb o o refl in
    let z : 0 + length os ≡ length os = omega arith in
    places_more 0 os o o ∙ ap (λ b. places 0 os o ++ cond b ((0 + length os) ∷ []) []) same ∙ ap (λ k. places 0 os o ++ k ∷ []) z

-- the same lists, as the code changes them
module _ (os : List ℕ) (i o n number : ℕ) (lt : i < length os) (at : o ≡ get_or os i o) (there : o < n) (is : number ≡ 0 + i) where
  next : places 0 (take i os) o ++ number ∷ [] ≡ places 0 (take (i + 1) os) o
  next =
      let count : length (take i os) ≡ i = length-take-le i os (omega (arith, lt)) in
      let same : number ≡ length (take i os) = omega (arith, is, count) in
      ap (λ k. places 0 (take i os) o ++ k ∷ []) same ∙ sym (last_place (take i os) o) ∙ ap (λ l. places 0 l o) (sym (take_more os i o lt at))

  -- what an entry is, and what it becomes
  entry_at : {A : Type 0} (F : ℕ → A) (es : List A) (d : A) → es ≡ map F (range_with_len 0 n) → get_or es o d ≡ F o
  entry_at F es d all = let z : 0 + o ≡ o = omega arith in ap (λ l. get_or l o d) all ∙ get_or-map-range_with_len F 0 n o o d there z

  pub mark_more : (copies : List MarkCopies) (e f : MarkCopies) → map mark_entry copies ≡ map (mark_at (take i os)) (range_with_len 0 n) → e ≡ get_or copies o e → o < length copies → f.old ≡ e.old → f.new.items ≡ e.new.items ++ number ∷ [] →
      map mark_entry (slice_set copies o f) ≡ map (mark_at (take (i + 1) os)) (range_with_len 0 n)
  mark_more copies e f before read within old new =
      let entry : mark_entry e ≡ mark_at (take i os) o =
      ap mark_entry read ∙ sym (get_or-map mark_entry copies o e (mark_entry e) within) ∙ entry_at (mark_at (take i os)) (map mark_entry copies) (mark_entry e) before in
      let whole : ℕ → List ℕ → MarkEntry = λ k l. record { old = k; new = l } in
      let made : mark_entry f ≡ mark_at (take (i + 1) os) o =
      ap (λ k. whole k f.new.items) (old ∙ ap (λ x. x.old) entry) ∙ ap (whole o) (new ∙ ap (λ x. x.new ++ number ∷ []) entry ∙ next) in
      marks_pushed_at (map-set mark_entry copies o f) made
    where
      marks_pushed_at : map mark_entry (slice_set copies o f) ≡ slice_set (map mark_entry copies) o (mark_entry f) → mark_entry f ≡ mark_at (take (i + 1) os) o → map mark_entry (slice_set copies o f) ≡ map (mark_at (take (i + 1) os)) (range_with_len 0 n)
      marks_pushed_at set made =
          let more = take_more os i o lt at in
          marks_pushed (take i os) o n copies (slice_set copies o f) (mark_entry f) there before set (made ∙ ap (λ l. mark_at l o) more)
          ∙ ap (λ l. map (mark_at l) (range_with_len 0 n)) (sym more)

  pub loop_more : (copies : List LoopCopies) (e f : LoopCopies) → map loop_entry copies ≡ map (loop_at (take i os)) (range_with_len 0 n) → e ≡ get_or copies o e → o < length copies → f.old ≡ e.old → f.new.items ≡ e.new.items ++ once number ∷ [] →
      map loop_entry (slice_set copies o f) ≡ map (loop_at (take (i + 1) os)) (range_with_len 0 n)
  loop_more copies e f before read within old new =
      let entry : loop_entry e ≡ loop_at (take i os) o =
      ap loop_entry read ∙ sym (get_or-map loop_entry copies o e (loop_entry e) within) ∙ entry_at (loop_at (take i os)) (map loop_entry copies) (loop_entry e) before in
      let whole : ℕ → List LoopCopy → LoopEntry = λ k l. record { old = k; new = l } in
      let made : loop_entry f ≡ loop_at (take (i + 1) os) o =
      ap (λ k. whole k f.new.items) (old ∙ ap (λ x. x.old) entry) ∙ ap (whole o) (new ∙ ap (λ x. x.new ++ once number ∷ []) entry ∙ sym (map-append once (places 0 (take i os) o) (number ∷ [])) ∙ ap (map once) next) in
      loops_pushed_at (map-set loop_entry copies o f) made
    where
      loops_pushed_at : map loop_entry (slice_set copies o f) ≡ slice_set (map loop_entry copies) o (loop_entry f) → loop_entry f ≡ loop_at (take (i + 1) os) o → map loop_entry (slice_set copies o f) ≡ map (loop_at (take (i + 1) os)) (range_with_len 0 n)
      loops_pushed_at set made =
          let more = take_more os i o lt at in
          loops_pushed (take i os) o n copies (slice_set copies o f) (loop_entry f) there before set (made ∙ ap (λ l. loop_at l o) more)
          ∙ ap (λ l. map (loop_at l) (range_with_len 0 n)) (sym more)
