-- The accesses of a register in the blocks of a function.
use Rattle.std.proofs.Common.{◌≡◌, ◌≢◌, ◌⊎◌, inl, inr, ℕ, zero, suc, ◌+◌, ◌<◌, ◌≤◌, Bool, true, false, not, List, [], ◌∷◌, length, Option, Some, None, refl, sym, ap, ◌∙◌, subst, arith}
use Rattle.std.specs.Prelude.{◌==◌, if◌then◌else◌, slice_get}
use Rattle.std.proofs.lemmas.Bool.{cases_eq}
use Rattle.std.proofs.lemmas.Bool.Decides.{eqb_tells}
use Rattle.low_ir.specs.Code.{Instr, End, Block, Note}
use Rattle.low_ir.specs.Formed.{read_by, written_by, end_reads}
use Rattle.low_ir.specs.Live.{Ahead, Behind, BehindEnd, Enters, Has, IsRest, Live, Parameter, Reaches, Spot, Written, place_of}
use Rattle.register_places.proofs.Ways.{spot_block}
use Rattle.register_live_ranges.specs.declared.accesses.Access.{Access}
use Rattle.register_live_ranges.specs.Accesses.{access_at, blocks_accesses, code_accesses, reads_among, write_among}
use Rattle.register_live_ranges.specs.Intervals.{LivesAt}
use Rattle.register_live_ranges.proofs.Passing.{There, differ, end_there, low_in, opens, other_from, other_to, reaches_there, rest_zero, same, skip, there_lives, touches, written_there}

-- whether a register is read or written
has_or_not : (v : ℕ) (rs : List ℕ) → Has v rs ⊎ (Has v rs → ⊥)
has_or_not v [] = inr (λ k. k)
has_or_not v (r ∷ rs) = by (cases_eq v r) (has_or_not v rs)
  where
    by : (v ≡ r) ⊎ (v ≢ r) → Has v rs ⊎ (Has v rs → ⊥) → Has v (r ∷ rs) ⊎ (Has v (r ∷ rs) → ⊥)
    by (inl e) h = inl (inl e)
    by (inr n) (inl h) = inl (inr h)
    by (inr n) (inr h) = inr (λ k. elim k [ inl z ↦ n z | inr z ↦ h z ])

written_or_not : (v : ℕ) (d : Option ℕ) → (d ≡ Some v) ⊎ (d ≢ Some v)
written_or_not v None = inr (λ k. none k)
  where
    none : None ≡ Some v → ⊥
    none k = cc
written_or_not v (Some r) = by (cases_eq r v)
  where
    by : (r ≡ v) ⊎ (r ≢ v) → (Some r ≡ Some v) ⊎ (Some r ≢ Some v)
    by (inl e) = inl (ap (λ m. Some m) e)
    by (inr n) = inr (λ k. let t : r ≡ v = cc in n t)

reads_none : (v : ℕ) (a : Access) (rs : List ℕ) (ls : List Access) → (Has v rs → ⊥) → reads_among v a rs ls ≡ ls
reads_none v a [] ls n = refl
reads_none v a (r ∷ rs) ls n =
    let t : (r == v) ≡ false = differ r v (λ e. n (inl (sym e))) in
    ap (λ c. if c then a ∷ reads_among v a rs ls else reads_among v a rs ls) t ∙ reads_none v a rs ls (λ k. n (inr k))

reads_first : (v : ℕ) (a : Access) (rs : List ℕ) (ls : List Access) → Has v rs → (ys : List Access) × (reads_among v a rs ls ≡ a ∷ ys)
reads_first v a [] ls h = absurd h
reads_first v a (r ∷ rs) ls h = by (eqb_tells r v) h (λ k. reads_first v a rs ls k)
  where
    by : (((r == v) ≡ true) × (r ≡ v)) ⊎ (((r == v) ≡ false) × (r ≢ v)) → (v ≡ r) ⊎ Has v rs → (Has v rs → (ys : List Access) × (reads_among v a rs ls ≡ a ∷ ys)) → (ys : List Access) × (reads_among v a (r ∷ rs) ls ≡ a ∷ ys)
    by (inl t) k go = (reads_among v a rs ls, ap (λ c. if c then a ∷ reads_among v a rs ls else reads_among v a rs ls) t.0)
    by (inr t) (inl k) go = absurd (t.1 (sym k))
    by (inr t) (inr k) go = let r1 = go k in (r1.0, ap (λ c. if c then a ∷ reads_among v a rs ls else reads_among v a rs ls) t.0 ∙ r1.1)

write_none : (v : ℕ) (a : Access) (d : Option ℕ) (ls : List Access) → d ≢ Some v → write_among v a d ls ≡ ls
write_none v a None ls n = refl
write_none v a (Some r) ls n = ap (λ c. if c then a ∷ ls else ls) (differ r v (λ e. n (ap (λ m. Some m) e)))

write_first : (v : ℕ) (a : Access) (d : Option ℕ) (ls : List Access) → d ≡ Some v → write_among v a d ls ≡ a ∷ ls
write_first v a None ls k = cc
write_first v a (Some r) ls k = let e : r ≡ v = cc in ap (λ c. if c then a ∷ ls else ls) (ap (λ m. m == v) e ∙ same v)

module _ (b : ℕ) where
  opens_here : (a : Access) (ls : List Access) → a.block ≡ b → opens b (a ∷ ls) ≡ not a.writes
  opens_here a ls e = ap (λ c. if c then not a.writes else opens b ls) (ap (λ m. m == b) e ∙ same b)

  touches_here : (a : Access) (ls : List Access) → a.block ≡ b → touches b (a ∷ ls) ≡ true
  touches_here a ls e = ap (λ c. if c then true else touches b ls) (ap (λ m. m == b) e ∙ same b)

  opens_other : (a : Access) (ls : List Access) → a.block ≢ b → opens b (a ∷ ls) ≡ opens b ls
  opens_other a ls n = ap (λ c. if c then not a.writes else opens b ls) (differ a.block b n)

  touches_other : (a : Access) (ls : List Access) → a.block ≢ b → touches b (a ∷ ls) ≡ touches b ls
  touches_other a ls n = ap (λ c. if c then true else touches b ls) (differ a.block b n)

  true_false : (x : Bool) → x ≡ true → x ≡ false → ⊥
  true_false x e f = let t : true ≡ false = sym e ∙ f in cc

  -- the code of this block
  module _ (v s : ℕ) (at : ℕ → Type 0) (end : End ℕ) (post : List Access) (closed : opens b post ≡ false) (clear : touches b post ≡ false) where
    abbrev Code : ℕ → List (Instr ℕ Note) → List Access
    Code p is = code_accesses v b s p is end post

    reads_open : (p : ℕ) (rs : List ℕ) (ls : List Access) → Has v rs → opens b (reads_among v (access_at b s p false) rs ls) ≡ true
    reads_open p rs ls h =
        let k = reads_first v (access_at b s p false) rs ls h in
        ap (opens b) k.1 ∙ opens_here (access_at b s p false) k.0 refl

    reads_touch : (p : ℕ) (rs : List ℕ) (ls : List Access) → Has v rs → touches b (reads_among v (access_at b s p false) rs ls) ≡ true
    reads_touch p rs ls h =
        let k = reads_first v (access_at b s p false) rs ls h in
        ap (touches b) k.1 ∙ touches_here (access_at b s p false) k.0 refl

    pub reaches_opens : (p : ℕ) (is : List (Instr ℕ Note)) → Reaches at is end v → (opens b (Code p is) ≡ true) ⊎ ((touches b (Code p is) ≡ false) × Ahead at end)
    reaches_opens p [] h = by (has_or_not v (end_reads end)) h
      where
        by : Has v (end_reads end) ⊎ (Has v (end_reads end) → ⊥) → Has v (end_reads end) ⊎ Ahead at end → (opens b (Code p []) ≡ true) ⊎ ((touches b (Code p []) ≡ false) × Ahead at end)
        by (inl r) k = inl (reads_open p (end_reads end) post r)
        by (inr n) (inl k) = absurd (n k)
        by (inr n) (inr k) = inr (ap (touches b) (reads_none v (access_at b s p false) (end_reads end) post n) ∙ clear, k)
    reaches_opens p (i ∷ is) h = by (has_or_not v (read_by i)) h (λ k. reaches_opens (suc p) is k)
      where
        by : Has v (read_by i) ⊎ (Has v (read_by i) → ⊥) → Has v (read_by i) ⊎ ((written_by i ≢ Some v) × Reaches at is end v) → (Reaches at is end v → (opens b (Code (suc p) is) ≡ true) ⊎ ((touches b (Code (suc p) is) ≡ false) × Ahead at end))
            → (opens b (Code p (i ∷ is)) ≡ true) ⊎ ((touches b (Code p (i ∷ is)) ≡ false) × Ahead at end)
        by (inl r) k go = inl (reads_open p (read_by i) (write_among v (access_at b s p true) (written_by i) (Code (suc p) is)) r)
        by (inr n) (inl k) go = absurd (n k)
        by (inr n) (inr k) go =
            let e = reads_none v (access_at b s p false) (read_by i) (write_among v (access_at b s p true) (written_by i) (Code (suc p) is)) n ∙ write_none v (access_at b s p true) (written_by i) (Code (suc p) is) k.0 in
            elim (go k.1) [ inl o ↦ inl (ap (opens b) e ∙ o) | inr o ↦ inr (ap (touches b) e ∙ o.0, o.1) ]

    pub opens_reaches : (p : ℕ) (is : List (Instr ℕ Note)) → opens b (Code p is) ≡ true → Reaches at is end v
    opens_reaches p [] o = by (has_or_not v (end_reads end))
      where
        by : Has v (end_reads end) ⊎ (Has v (end_reads end) → ⊥) → Has v (end_reads end) ⊎ Ahead at end
        by (inl r) = inl r
        by (inr n) = absurd (true_false (opens b (Code p [])) o (ap (opens b) (reads_none v (access_at b s p false) (end_reads end) post n) ∙ closed))
    opens_reaches p (i ∷ is) o = by (has_or_not v (read_by i)) (written_or_not v (written_by i)) (λ k. opens_reaches (suc p) is k)
      where
        by : Has v (read_by i) ⊎ (Has v (read_by i) → ⊥) → (written_by i ≡ Some v) ⊎ (written_by i ≢ Some v) → (opens b (Code (suc p) is) ≡ true → Reaches at is end v) → Has v (read_by i) ⊎ ((written_by i ≢ Some v) × Reaches at is end v)
        by (inl r) w go = inl r
        by (inr n) (inl w) go =
            let e = reads_none v (access_at b s p false) (read_by i) (write_among v (access_at b s p true) (written_by i) (Code (suc p) is)) n ∙ write_first v (access_at b s p true) (written_by i) (Code (suc p) is) w in
            absurd (true_false (opens b (Code p (i ∷ is))) o (ap (opens b) e ∙ opens_here (access_at b s p true) (Code (suc p) is) refl))
        by (inr n) (inr w) go =
            let e = reads_none v (access_at b s p false) (read_by i) (write_among v (access_at b s p true) (written_by i) (Code (suc p) is)) n ∙ write_none v (access_at b s p true) (written_by i) (Code (suc p) is) w in
            inr (w, go (sym (ap (opens b) e) ∙ o))

    pub passes : (p : ℕ) (is : List (Instr ℕ Note)) → touches b (Code p is) ≡ false → Ahead at end → Reaches at is end v
    passes p [] t h = inr h
    passes p (i ∷ is) t h = by (has_or_not v (read_by i)) (written_or_not v (written_by i)) (λ k. passes (suc p) is k h)
      where
        by : Has v (read_by i) ⊎ (Has v (read_by i) → ⊥) → (written_by i ≡ Some v) ⊎ (written_by i ≢ Some v) → (touches b (Code (suc p) is) ≡ false → Reaches at is end v) → Has v (read_by i) ⊎ ((written_by i ≢ Some v) × Reaches at is end v)
        by (inl r) w go = inl r
        by (inr n) (inl w) go =
            let e = reads_none v (access_at b s p false) (read_by i) (write_among v (access_at b s p true) (written_by i) (Code (suc p) is)) n ∙ write_first v (access_at b s p true) (written_by i) (Code (suc p) is) w in
            absurd (true_false (touches b (Code p (i ∷ is))) (ap (touches b) e ∙ touches_here (access_at b s p true) (Code (suc p) is) refl) t)
        by (inr n) (inr w) go =
            let e = reads_none v (access_at b s p false) (read_by i) (write_among v (access_at b s p true) (written_by i) (Code (suc p) is)) n ∙ write_none v (access_at b s p true) (written_by i) (Code (suc p) is) w in
            inr (w, go (sym (ap (touches b) e) ∙ t))

  -- the code of another block is nothing to this one
  module _ (v c s : ℕ) (other : c ≢ b) where
    reads_past_opens : (p : ℕ) (rs : List ℕ) (ls : List Access) → (opens b (reads_among v (access_at c s p false) rs ls) ≡ opens b ls) × (touches b (reads_among v (access_at c s p false) rs ls) ≡ touches b ls)
    reads_past_opens p [] ls = (refl, refl)
    reads_past_opens p (r ∷ rs) ls = by (r == v) (reads_past_opens p rs ls)
      where
        by : (t : Bool) → (opens b (reads_among v (access_at c s p false) rs ls) ≡ opens b ls) × (touches b (reads_among v (access_at c s p false) rs ls) ≡ touches b ls)
            → (opens b (if t then access_at c s p false ∷ reads_among v (access_at c s p false) rs ls else reads_among v (access_at c s p false) rs ls) ≡ opens b ls)
            × (touches b (if t then access_at c s p false ∷ reads_among v (access_at c s p false) rs ls else reads_among v (access_at c s p false) rs ls) ≡ touches b ls)
        by true h = (opens_other (access_at c s p false) (reads_among v (access_at c s p false) rs ls) other ∙ h.0, touches_other (access_at c s p false) (reads_among v (access_at c s p false) rs ls) other ∙ h.1)
        by false h = h

    write_past_opens : (p : ℕ) (d : Option ℕ) (ls : List Access) → (opens b (write_among v (access_at c s p true) d ls) ≡ opens b ls) × (touches b (write_among v (access_at c s p true) d ls) ≡ touches b ls)
    write_past_opens p None ls = (refl, refl)
    write_past_opens p (Some r) ls = by (r == v)
      where
        by : (t : Bool) → (opens b (if t then access_at c s p true ∷ ls else ls) ≡ opens b ls) × (touches b (if t then access_at c s p true ∷ ls else ls) ≡ touches b ls)
        by true = (opens_other (access_at c s p true) ls other, touches_other (access_at c s p true) ls other)
        by false = (refl, refl)

    code_past_opens : (p : ℕ) (is : List (Instr ℕ Note)) (end : End ℕ) (ls : List Access) → (opens b (code_accesses v c s p is end ls) ≡ opens b ls) × (touches b (code_accesses v c s p is end ls) ≡ touches b ls)
    code_past_opens p [] end ls = reads_past_opens p (end_reads end) ls
    code_past_opens p (i ∷ is) end ls =
        let x = reads_past_opens p (read_by i) (write_among v (access_at c s p true) (written_by i) (code_accesses v c s (suc p) is end ls)) in
        let y = write_past_opens p (written_by i) (code_accesses v c s (suc p) is end ls) in
        let z = code_past_opens (suc p) is end ls in
        (x.0 ∙ (y.0 ∙ z.0), x.1 ∙ (y.1 ∙ z.1))

    module _ (e : ℕ) (out : Type 0) (q : ℕ) where
      reads_past : (p : ℕ) (rs : List ℕ) (ls : List Access) (low : ℕ) → There b ls low e out q → There b (reads_among v (access_at c s p false) rs ls) low e out q
      reads_past p [] ls low x = x
      reads_past p (r ∷ rs) ls low x = by (r == v) (reads_past p rs ls low x)
        where
          by : (t : Bool) → There b (reads_among v (access_at c s p false) rs ls) low e out q → There b (if t then access_at c s p false ∷ reads_among v (access_at c s p false) rs ls else reads_among v (access_at c s p false) rs ls) low e out q
          by true y = other_to b e out q (access_at c s p false) (reads_among v (access_at c s p false) rs ls) low other y
          by false y = y

      reads_back : (p : ℕ) (rs : List ℕ) (ls : List Access) (low : ℕ) → There b (reads_among v (access_at c s p false) rs ls) low e out q → There b ls low e out q
      reads_back p [] ls low x = x
      reads_back p (r ∷ rs) ls low x = by (r == v) x (λ y. reads_back p rs ls low y)
        where
          by : (t : Bool) → There b (if t then access_at c s p false ∷ reads_among v (access_at c s p false) rs ls else reads_among v (access_at c s p false) rs ls) low e out q → (There b (reads_among v (access_at c s p false) rs ls) low e out q → There b ls low e out q) → There b ls low e out q
          by true y go = go (other_from b e out q (access_at c s p false) (reads_among v (access_at c s p false) rs ls) low other y)
          by false y go = go y

      write_past : (p : ℕ) (d : Option ℕ) (ls : List Access) (low : ℕ) → There b ls low e out q → There b (write_among v (access_at c s p true) d ls) low e out q
      write_past p None ls low x = x
      write_past p (Some r) ls low x = by (r == v)
        where
          by : (t : Bool) → There b (if t then access_at c s p true ∷ ls else ls) low e out q
          by true = other_to b e out q (access_at c s p true) ls low other x
          by false = x

      write_back : (p : ℕ) (d : Option ℕ) (ls : List Access) (low : ℕ) → There b (write_among v (access_at c s p true) d ls) low e out q → There b ls low e out q
      write_back p None ls low x = x
      write_back p (Some r) ls low x = by (r == v) x
        where
          by : (t : Bool) → There b (if t then access_at c s p true ∷ ls else ls) low e out q → There b ls low e out q
          by true y = other_from b e out q (access_at c s p true) ls low other y
          by false y = y

      code_past : (p : ℕ) (is : List (Instr ℕ Note)) (end : End ℕ) (ls : List Access) (low : ℕ) → There b ls low e out q → There b (code_accesses v c s p is end ls) low e out q
      code_past p [] end ls low x = reads_past p (end_reads end) ls low x
      code_past p (i ∷ is) end ls low x =
          reads_past p (read_by i) (write_among v (access_at c s p true) (written_by i) (code_accesses v c s (suc p) is end ls)) low
          (write_past p (written_by i) (code_accesses v c s (suc p) is end ls) low (code_past (suc p) is end ls low x))

      code_back : (p : ℕ) (is : List (Instr ℕ Note)) (end : End ℕ) (ls : List Access) (low : ℕ) → There b (code_accesses v c s p is end ls) low e out q → There b ls low e out q
      code_back p [] end ls low x = reads_back p (end_reads end) ls low x
      code_back p (i ∷ is) end ls low x =
          code_back (suc p) is end ls low
          (write_back p (written_by i) (code_accesses v c s (suc p) is end ls) low
          (reads_back p (read_by i) (write_among v (access_at c s p true) (written_by i) (code_accesses v c s (suc p) is end ls)) low x))

  -- the blocks behind this one
  module _ (v e : ℕ) (out : Type 0) (q : ℕ) where
    none_to : (c s : ℕ) (bs : List (Block ℕ Note)) (low : ℕ) → b < c → out × (low ≤ q) × (q ≤ e) → There b (blocks_accesses v c s bs) low e out q
    none_to c s [] low lt x = x
    none_to c s (y ∷ bs) low lt x =
        code_past v c s (λ k. omega (arith, lt, k)) e out q s y.code y.end (blocks_accesses v (suc c) (s + suc (length y.code)) bs) low
        (none_to (suc c) (s + suc (length y.code)) bs low (omega (arith, lt)) x)

    none_from : (c s : ℕ) (bs : List (Block ℕ Note)) (low : ℕ) → b < c → There b (blocks_accesses v c s bs) low e out q → out × (low ≤ q) × (q ≤ e)
    none_from c s [] low lt x = x
    none_from c s (y ∷ bs) low lt x =
        none_from (suc c) (s + suc (length y.code)) bs low (omega (arith, lt))
        (code_back v c s (λ k. omega (arith, lt, k)) e out q s y.code y.end (blocks_accesses v (suc c) (s + suc (length y.code)) bs) low x)

  none_opens : (v c s : ℕ) (bs : List (Block ℕ Note)) → b < c → (opens b (blocks_accesses v c s bs) ≡ false) × (touches b (blocks_accesses v c s bs) ≡ false)
  none_opens v c s [] lt = (refl, refl)
  none_opens v c s (y ∷ bs) lt =
      let x = code_past_opens v c s (λ k. omega (arith, lt, k)) s y.code y.end (blocks_accesses v (suc c) (s + suc (length y.code)) bs) in
      let z = none_opens v (suc c) (s + suc (length y.code)) bs (omega (arith, lt)) in
      (x.0 ∙ z.0, x.1 ∙ z.1)

-- among these accesses are those of block b, which begins at s: its code, and behind it none
pub record At (v b s : ℕ) (ls : List Access) (x : Block ℕ Note) (e : ℕ) (out : Type 0) (q : ℕ) : Type 0 where
  pub post : List Access
  pub tail_to : (low : ℕ) → out → low ≤ q → q ≤ e → There b post low e out q
  pub tail_from : (low : ℕ) → There b post low e out q → out × (low ≤ q) × (q ≤ e)
  pub into : (low : ℕ) → There b (code_accesses v b s s x.code x.end post) low e out q → There b ls low e out q
  pub out_of : (low : ℕ) → There b ls low e out q → There b (code_accesses v b s s x.code x.end post) low e out q
  pub opens_are : opens b ls ≡ opens b (code_accesses v b s s x.code x.end post)
  pub touches_are : touches b ls ≡ touches b (code_accesses v b s s x.code x.end post)
  pub opens_none : opens b post ≡ false
  pub touches_none : touches b post ≡ false

at_block : (v c s : ℕ) (bs : List (Block ℕ Note)) (m : ℕ) (x : Block ℕ Note) (e : ℕ) (out : Type 0) (q : ℕ) → slice_get bs m ≡ Some x → At v (c + m) (s + place_of bs m) (blocks_accesses v c s bs) x e out q
at_block v c s [] m x e out q h = cc
at_block v c s (y ∷ bs) zero x e out q h =
    let is : y ≡ x = cc in
    let zc : c ≡ c + 0 = omega arith in
    let zs : s ≡ s + 0 = omega arith in
    let post = blocks_accesses v (suc c) (s + suc (length y.code)) bs in
    let none = none_opens c v (suc c) (s + suc (length y.code)) bs (omega arith) in
    subst (λ (z : Block ℕ Note). At v (c + 0) (s + 0) (blocks_accesses v c s (y ∷ bs)) z e out q) is
    (subst (λ n. At v n (s + 0) (blocks_accesses v c s (y ∷ bs)) y e out q) zc
    (subst (λ n. At v c n (blocks_accesses v c s (y ∷ bs)) y e out q) zs (record {
      post = blocks_accesses v (suc c) (s + suc (length y.code)) bs;
      tail_to = λ low o l u. none_to c v e out q (suc c) (s + suc (length y.code)) bs low (omega arith) (o, l, u);
      tail_from = λ low k. none_from c v e out q (suc c) (s + suc (length y.code)) bs low (omega arith) k;
      into = λ low k. k;
      out_of = λ low k. k;
      opens_are = refl;
      touches_are = refl;
      opens_none = none.0;
      touches_none = none.1;
    })))
at_block v c s (y ∷ bs) (suc m) x e out q h =
    let zc : suc c + m ≡ c + suc m = omega arith in
    let zs : s + suc (length y.code) + place_of bs m ≡ s + (suc (length y.code) + place_of bs m) = omega arith in
    let t = at_block v (suc c) (s + suc (length y.code)) bs m x e out q h in
    let other : c ≢ suc c + m = λ k. omega (arith, k) in
    let past = code_past_opens (suc c + m) v c s other s y.code y.end (blocks_accesses v (suc c) (s + suc (length y.code)) bs) in
    subst (λ n. At v n (s + (suc (length y.code) + place_of bs m)) (blocks_accesses v c s (y ∷ bs)) x e out q) zc
    (subst (λ n. At v (suc c + m) n (blocks_accesses v c s (y ∷ bs)) x e out q) zs (record {
      post = t.post;
      tail_to = t.tail_to;
      tail_from = t.tail_from;
      into = λ low k. code_past (suc c + m) v c s other e out q s y.code y.end (blocks_accesses v (suc c) (s + suc (length y.code)) bs) low (t.into low k);
      out_of = λ low k. t.out_of low (code_back (suc c + m) v c s other e out q s y.code y.end (blocks_accesses v (suc c) (s + suc (length y.code)) bs) low k);
      opens_are = past.0 ∙ t.opens_are;
      touches_are = past.1 ∙ t.touches_are;
      opens_none = t.opens_none;
      touches_none = t.touches_none;
    }))

-- all blocks of a function
module _ (v : ℕ) (bs : List (Block ℕ Note)) where
  abbrev pub all : List Access
  all = blocks_accesses v 0 0 bs

  at : (b : ℕ) (x : Block ℕ Note) (e : ℕ) (out : Type 0) (q : ℕ) → slice_get bs b ≡ Some x → At v b (place_of bs b) all x e out q
  at b x e out q h =
      let zb : 0 + b ≡ b = omega arith in
      let zs : 0 + place_of bs b ≡ place_of bs b = omega arith in
      subst (λ n. At v n (place_of bs b) all x e out q) zb (subst (λ n. At v (0 + b) n all x e out q) zs (at_block v 0 0 bs b x e out q h))

  -- v is live behind a block
  abbrev pub OutOf : Block ℕ Note → Type 0
  OutOf x = (n : ℕ) × Ahead (Enters bs n v) x.end

  pub lives : (b : ℕ) (x : Block ℕ Note) (q : ℕ) → slice_get bs b ≡ Some x → There b all (place_of bs b) (place_of bs b + length x.code) (OutOf x) q → LivesAt bs q v
  lives b x q h t =
      let s = place_of bs b in
      let a = at b x (place_of bs b + length x.code) (OutOf x) q h in
      there_lives b v (place_of bs b) (place_of bs b + length x.code) bs x.end a.post q a.tail_to a.tail_from (place_of bs b) x.code (place_of bs b)
      (spot_at b x h) refl (λ r l u k. absurd (omega (arith, l, u))) (omega arith) (a.out_of (place_of bs b) t)
    where
      spot_at : (n : ℕ) (z : Block ℕ Note) → slice_get bs n ≡ Some z → Spot bs (place_of bs n) z.code z.end
      spot_at n z k = let e : 0 + place_of bs n ≡ place_of bs n = omega arith in subst (λ p. Spot bs p z.code z.end) e (spot_block bs n z k)

  -- the block of a place, and that the place is there by its accesses
  pub record InBlock (q : ℕ) : Type 0 where
    pub number : ℕ
    pub block : Block ℕ Note
    pub is : slice_get bs number ≡ Some block
    pub there : There number all (place_of bs number) (place_of bs number + length block.code) (OutOf block) q

  rest_length : (code is : List (Instr ℕ Note)) (k : ℕ) → IsRest code k is → k + length is ≡ length code
  rest_length code is zero r = let e = ap length (rest_zero code is r) in omega (arith, e)
  rest_length [] is (suc k) r = absurd r
  rest_length (i ∷ code) is (suc k) r = let h = rest_length code is k r in omega (arith, h)

  rest_next : (code is : List (Instr ℕ Note)) (i : Instr ℕ Note) (k : ℕ) → IsRest code k (i ∷ is) → IsRest code (suc k) is
  rest_next [] is i zero h = cc
  rest_next (j ∷ code) is i zero h = cc
  rest_next [] is i (suc k) h = absurd h
  rest_next (j ∷ code) is i (suc k) h = rest_next code is i k h

  pub in_block : (q : ℕ) → LivesAt bs q v → InBlock q
  in_block q (Written i is end spot w) =
      let b = spot.number in
      let x = spot.block in
      let at_q = spot.at in
      let a = at spot.number spot.block (place_of bs spot.number + length spot.block.code) (OutOf spot.block) q spot.there in
      record {
        number = spot.number;
        block = spot.block;
        is = spot.there;
        there = a.into (place_of bs spot.number)
            (skip spot.number v (place_of bs spot.number) (place_of bs spot.number + length spot.block.code) bs spot.block.end a.post q a.tail_to a.tail_from (place_of bs spot.number) spot.behind spot.block.code (i ∷ is) (place_of bs spot.number) spot.code
            (omega arith) (omega (arith, at_q)) (omega (arith, at_q))
            (written_there spot.number v (place_of bs spot.number) (place_of bs spot.number + length spot.block.code) bs spot.block.end a.post q a.tail_to a.tail_from (place_of bs spot.number + spot.behind) i is (sym spot.at) w));
      }
  in_block q (Behind i is end spot l) =
      let at_q = spot.at in
      let long = rest_length spot.block.code (i ∷ is) spot.behind spot.code in
      let a = at spot.number spot.block (place_of bs spot.number + length spot.block.code) (OutOf spot.block) q spot.there in
      let next = rest_next spot.block.code is i spot.behind spot.code in
      let z : place_of bs spot.number + suc spot.behind ≡ suc q = omega (arith, at_q) in
      let alive : Live bs is spot.block.end v = subst (λ n. Live bs is n v) (sym spot.ends) l in
      record {
        number = spot.number;
        block = spot.block;
        is = spot.there;
        there = a.into (place_of bs spot.number)
            (skip spot.number v (place_of bs spot.number) (place_of bs spot.number + length spot.block.code) bs spot.block.end a.post q a.tail_to a.tail_from (place_of bs spot.number) (suc spot.behind) spot.block.code is (place_of bs spot.number) next
            (omega arith) (omega (arith, at_q)) (omega (arith, z))
            (reaches_there spot.number v (place_of bs spot.number) (place_of bs spot.number + length spot.block.code) bs spot.block.end a.post q a.tail_to a.tail_from (place_of bs spot.number + suc spot.behind) is q
            (omega (arith, long)) (omega arith) (omega (arith, z)) alive));
      }
  in_block q (BehindEnd n end spot l) =
      let at_q = spot.at in
      let long = rest_length spot.block.code [] spot.behind spot.code in
      let a = at spot.number spot.block (place_of bs spot.number + length spot.block.code) (OutOf spot.block) q spot.there in
      let out : OutOf spot.block = (n, subst (λ z. Ahead (Enters bs n v) z) (sym spot.ends) l) in
      record {
        number = spot.number;
        block = spot.block;
        is = spot.there;
        there = a.into (place_of bs spot.number)
            (skip spot.number v (place_of bs spot.number) (place_of bs spot.number + length spot.block.code) bs spot.block.end a.post q a.tail_to a.tail_from (place_of bs spot.number) spot.behind spot.block.code [] (place_of bs spot.number) spot.code
            (omega arith) (omega (arith, at_q)) (omega (arith, at_q))
            (end_there spot.number v (place_of bs spot.number) (place_of bs spot.number + length spot.block.code) bs spot.block.end a.post q a.tail_to a.tail_from (place_of bs spot.number + spot.behind) (omega (arith, long)) (omega (arith, at_q, long)) out));
      }
  in_block q (Parameter e has) = absurd has

  -- whether v is live at the beginning of a block
  module _ (b : ℕ) (x : Block ℕ Note) (h : slice_get bs b ≡ Some x) (at' : ℕ → Type 0) where
    pub live_opens : Reaches at' x.code x.end v → (opens b all ≡ true) ⊎ ((touches b all ≡ false) × Ahead at' x.end)
    live_opens r =
        let a = at b x 0 (Unit {0}) 0 h in
        elim (reaches_opens b v (place_of bs b) at' x.end a.post a.opens_none a.touches_none (place_of bs b) x.code r) [
          | inl o ↦ inl (a.opens_are ∙ o)
          | inr o ↦ inr (a.touches_are ∙ o.0, o.1)
        ]

    pub open_live : opens b all ≡ true → Reaches at' x.code x.end v
    open_live o = let a = at b x 0 (Unit {0}) 0 h in opens_reaches b v (place_of bs b) at' x.end a.post a.opens_none a.touches_none (place_of bs b) x.code (sym a.opens_are ∙ o)

    pub passed_live : touches b all ≡ false → Ahead at' x.end → Reaches at' x.code x.end v
    passed_live t k = let a = at b x 0 (Unit {0}) 0 h in passes b v (place_of bs b) at' x.end a.post a.opens_none a.touches_none (place_of bs b) x.code (sym a.touches_are ∙ t) k

-- each access names its block
abbrev pub Each : (Access → Type 0) → List Access → Type 0
Each P [] = Unit {0}
Each P (a ∷ ls) = P a × Each P ls

-- it is the number of one of these blocks, and the access is between its first and its last place
pub record Named (c s : ℕ) (bs : List (Block ℕ Note)) (a : Access) : Type 0 where
  pub number : ℕ
  pub block : Block ℕ Note
  pub is : slice_get bs number ≡ Some block
  pub block_is : a.block ≡ c + number
  pub first_is : a.first ≡ s + place_of bs number
  pub within : a.at ≤ s + place_of bs number + length block.code

each_map : (P Q : Access → Type 0) → ((a : Access) → P a → Q a) → (ls : List Access) → Each P ls → Each Q ls
each_map P Q f [] h = tt
each_map P Q f (a ∷ ls) h = (f a h.0, each_map P Q f ls h.1)

module _ (P : Access → Type 0) (v c s e : ℕ) (holds : (p : ℕ) (w : Bool) → p ≤ e → P (access_at c s p w)) where
  each_reads : (p : ℕ) → p ≤ e → (rs : List ℕ) (ls : List Access) → Each P ls → Each P (reads_among v (access_at c s p false) rs ls)
  each_reads p le [] ls h = h
  each_reads p le (r ∷ rs) ls h = by (r == v) (each_reads p le rs ls h)
    where
      by : (t : Bool) → Each P (reads_among v (access_at c s p false) rs ls) → Each P (if t then access_at c s p false ∷ reads_among v (access_at c s p false) rs ls else reads_among v (access_at c s p false) rs ls)
      by true k = (holds p false le, k)
      by false k = k

  each_write : (p : ℕ) → p ≤ e → (d : Option ℕ) (ls : List Access) → Each P ls → Each P (write_among v (access_at c s p true) d ls)
  each_write p le None ls h = h
  each_write p le (Some r) ls h = by (r == v)
    where
      by : (t : Bool) → Each P (if t then access_at c s p true ∷ ls else ls)
      by true = (holds p true le, h)
      by false = h

  each_code : (p : ℕ) (is : List (Instr ℕ Note)) (end : End ℕ) (ls : List Access) → p + length is ≡ e → Each P ls → Each P (code_accesses v c s p is end ls)
  each_code p [] end ls at h = each_reads p (omega (arith, at)) (end_reads end) ls h
  each_code p (i ∷ is) end ls at h =
      each_reads p (omega (arith, at)) (read_by i) (write_among v (access_at c s p true) (written_by i) (code_accesses v c s (suc p) is end ls))
      (each_write p (omega (arith, at)) (written_by i) (code_accesses v c s (suc p) is end ls) (each_code (suc p) is end ls (omega (arith, at)) h))

named_next : (c s : ℕ) (y : Block ℕ Note) (bs : List (Block ℕ Note)) (a : Access) → Named (suc c) (s + suc (length y.code)) bs a → Named c s (y ∷ bs) a
named_next c s y bs a h =
    let b = h.block_is in
    let f = h.first_is in
    let l = h.within in
    record { number = suc h.number; block = h.block; is = h.is; block_is = omega (arith, b); first_is = omega (arith, f); within = omega (arith, l) }

named : (v c s : ℕ) (bs : List (Block ℕ Note)) → Each (Named c s bs) (blocks_accesses v c s bs)
named v c s [] = tt
named v c s (y ∷ bs) =
    each_code (Named c s (y ∷ bs)) v c s (s + length y.code) (λ p w le. record { number = 0; block = y; is = refl; block_is = omega arith; first_is = omega arith; within = omega (arith, le) }) s y.code y.end (blocks_accesses v (suc c) (s + suc (length y.code)) bs) refl
    (each_map (Named (suc c) (s + suc (length y.code)) bs) (Named c s (y ∷ bs)) (named_next c s y bs) (blocks_accesses v (suc c) (s + suc (length y.code)) bs) (named v (suc c) (s + suc (length y.code)) bs))

-- of all blocks: it is there, and begins where the access says
pub record Stands (bs : List (Block ℕ Note)) (a : Access) : Type 0 where
  pub block : Block ℕ Note
  pub is : slice_get bs a.block ≡ Some block
  pub first_is : a.first ≡ place_of bs a.block
  pub within : a.at ≤ place_of bs a.block + length block.code

pub all_stand : (v : ℕ) (bs : List (Block ℕ Note)) → Each (Stands bs) (blocks_accesses v 0 0 bs)
all_stand v bs = each_map (Named 0 0 bs) (Stands bs) stands (blocks_accesses v 0 0 bs) (named v 0 0 bs)
  where
    stands : (a : Access) → Named 0 0 bs a → Stands bs a
    stands a h =
        let b : a.block ≡ h.number = (let e = h.block_is in omega (arith, e)) in
        let f : a.first ≡ place_of bs h.number = (let e = h.first_is in omega (arith, e)) in
        let l : a.at ≤ place_of bs h.number + length h.block.code = (let e = h.within in omega (arith, e)) in
        record {
          block = h.block;
          is = ap (slice_get bs) b ∙ h.is;
          first_is = f ∙ ap (place_of bs) (sym b);
          within = subst (λ n. a.at ≤ place_of bs n + length h.block.code) (sym b) l;
        }

-- so the last one of a block is no further than its end
pub low_within : (v : ℕ) (bs : List (Block ℕ Note)) (b : ℕ) (x : Block ℕ Note) → slice_get bs b ≡ Some x → low_in b (blocks_accesses v 0 0 bs) (place_of bs b) ≤ place_of bs b + length x.code
low_within v bs b x h = go (blocks_accesses v 0 0 bs) (place_of bs b) (all_stand v bs) (omega arith)
  where
    go : (ls : List Access) (s : ℕ) → Each (Stands bs) ls → s ≤ place_of bs b + length x.code → low_in b ls s ≤ place_of bs b + length x.code
    go [] s each le = le
    go (a ∷ ls) s each le = by (eqb_tells a.block b) (λ t k. go ls t each.1 k)
      where
        by : (((a.block == b) ≡ true) × (a.block ≡ b)) ⊎ (((a.block == b) ≡ false) × (a.block ≢ b)) → ((t : ℕ) → t ≤ place_of bs b + length x.code → low_in b ls t ≤ place_of bs b + length x.code)
            → low_in b ls (if a.block == b then a.at else s) ≤ place_of bs b + length x.code
        by (inl t) f =
            let both : Some each.0.block ≡ Some x = sym each.0.is ∙ (ap (slice_get bs) t.1 ∙ h) in
            let same : each.0.block ≡ x = cc in
            let l = subst (λ (z : Block ℕ Note). a.at ≤ place_of bs a.block + length z.code) same each.0.within in
            f (if a.block == b then a.at else s) (subst (λ c. (if c then a.at else s) ≤ place_of bs b + length x.code) (sym t.0) (subst (λ n. a.at ≤ place_of bs n + length x.code) t.1 l))
        by (inr t) f = f (if a.block == b then a.at else s) (subst (λ c. (if c then a.at else s) ≤ place_of bs b + length x.code) (sym t.0) le)
