-- The places of a register in one block, by its accesses.
use Rattle.std.proofs.Common.{◌≡◌, ◌≢◌, ◌⊎◌, inl, inr, ℕ, zero, suc, ◌+◌, ◌<◌, ◌≤◌, Bool, true, false, not, List, [], ◌∷◌, length, Option, Some, None, refl, sym, ap, ◌∙◌, subst, arith}
use Rattle.std.specs.Prelude.{◌==◌, if◌then◌else◌}
use Rattle.std.proofs.lemmas.Bool.{cases_lt}
use Rattle.std.proofs.lemmas.Bool.Decides.{nat_tests, eqb_tells}
use Rattle.low_ir.specs.Code.{Instr, End, Block, Note}
use Rattle.low_ir.specs.Formed.{read_by, written_by, end_reads}
use Rattle.low_ir.specs.Live.{Ahead, Behind, BehindEnd, Enters, Has, IsRest, Live, Spot, Written}
use Rattle.register_places.proofs.Ways.{spot_next}
use Rattle.register_live_ranges.specs.declared.accesses.Access.{Access}
use Rattle.register_live_ranges.specs.Accesses.{access_at, code_accesses, reads_among, write_among}
use Rattle.register_live_ranges.specs.Intervals.{LivesAt}

pub same : (n : ℕ) → (n == n) ≡ true
same n = grind (arith, nat_tests)

pub differ : (n m : ℕ) → n ≢ m → (n == m) ≡ false
differ n m d = grind (arith, nat_tests, d)

none_some : (v : ℕ) → None ≡ Some v → ⊥
none_some v k = cc

pub rest_zero : (all is : List (Instr ℕ Note)) → IsRest all 0 is → all ≡ is
rest_zero [] is r = r
rest_zero (i ∷ all) is r = r

-- block b
module _ (b : ℕ) where
  -- a place from the last access before, at `low`, to the end e of the block: v lives to a read, is written, or lives behind the block
  abbrev pub ThereBy : Bool → Access → (ℕ → Type 0) → ℕ → ℕ → Type 0
  ThereBy true a rest low q = ((a.writes ≡ false) × (low ≤ q) × (q < a.at)) ⊎ (((a.writes ≡ true) × (q ≡ a.at)) ⊎ rest a.at)
  ThereBy false a rest low q = rest low

  abbrev pub There : List Access → ℕ → ℕ → Type 0 → ℕ → Type 0
  There [] low e out q = out × (low ≤ q) × (q ≤ e)
  There (a ∷ ls) low e out q = ThereBy (a.block == b) a (λ l. There ls l e out q) low q

  -- the first access of the block is a read
  abbrev pub opens : List Access → Bool
  opens [] = false
  opens (a ∷ ls) = if a.block == b then not a.writes else opens ls

  abbrev pub touches : List Access → Bool
  touches [] = false
  touches (a ∷ ls) = if a.block == b then true else touches ls

  -- the place of the last one
  abbrev pub low_in : List Access → ℕ → ℕ
  low_in [] s = s
  low_in (a ∷ ls) s = low_in ls (if a.block == b then a.at else s)

  module _ (e : ℕ) (out : Type 0) (q : ℕ) where
    by_lower : (t : Bool) (a : Access) (rest : ℕ → Type 0) (low high : ℕ) → low ≤ high → (rest high → rest low) → ThereBy t a rest high q → ThereBy t a rest low q
    by_lower true a rest low high h f (inl x) = let l = x.1 in inl (x.0, omega (arith, h, l), x.2)
    by_lower true a rest low high h f (inr x) = inr x
    by_lower false a rest low high h f x = f x

    pub lower : (ls : List Access) (low high : ℕ) → low ≤ high → There ls high e out q → There ls low e out q
    lower [] low high h x = let l = x.1 in (x.0, omega (arith, h, l), x.2)
    lower (a ∷ ls) low high h x = by_lower (a.block == b) a (λ l. There ls l e out q) low high h (λ y. lower ls low high h y) x

    -- an access of this block
    pub here_to : (a : Access) (ls : List Access) (low : ℕ) → a.block ≡ b → ThereBy true a (λ l. There ls l e out q) low q → There (a ∷ ls) low e out q
    here_to a ls low h x = subst (λ t. ThereBy t a (λ l. There ls l e out q) low q) (sym (ap (λ m. m == b) h ∙ same b)) x

    pub here_from : (a : Access) (ls : List Access) (low : ℕ) → a.block ≡ b → There (a ∷ ls) low e out q → ThereBy true a (λ l. There ls l e out q) low q
    here_from a ls low h x = subst (λ t. ThereBy t a (λ l. There ls l e out q) low q) (ap (λ m. m == b) h ∙ same b) x

    -- and of another one
    pub other_to : (a : Access) (ls : List Access) (low : ℕ) → a.block ≢ b → There ls low e out q → There (a ∷ ls) low e out q
    other_to a ls low h x = subst (λ t. ThereBy t a (λ l. There ls l e out q) low q) (sym (differ a.block b h)) x

    pub other_from : (a : Access) (ls : List Access) (low : ℕ) → a.block ≢ b → There (a ∷ ls) low e out q → There ls low e out q
    other_from a ls low h x = subst (λ t. ThereBy t a (λ l. There ls l e out q) low q) (differ a.block b h) x

    module _ (v s : ℕ) where
      -- reads at the place p of this block
      reads_pass : (p : ℕ) (rs : List ℕ) (ls : List Access) (low : ℕ) → low ≤ p → There ls p e out q → There (reads_among v (access_at b s p false) rs ls) low e out q
      reads_pass p [] ls low h x = lower ls low p h x
      reads_pass p (r ∷ rs) ls low h x = by (r == v) (reads_pass p rs ls p (omega arith) x) (reads_pass p rs ls low h x)
        where
          by : (t : Bool) → There (reads_among v (access_at b s p false) rs ls) p e out q → There (reads_among v (access_at b s p false) rs ls) low e out q
              → There (if t then access_at b s p false ∷ reads_among v (access_at b s p false) rs ls else reads_among v (access_at b s p false) rs ls) low e out q
          by true y z = here_to (access_at b s p false) (reads_among v (access_at b s p false) rs ls) low refl (inr (inr y))
          by false y z = z

      reads_has : (p : ℕ) (rs : List ℕ) (ls : List Access) (low : ℕ) → Has v rs → low ≤ q → q < p → There (reads_among v (access_at b s p false) rs ls) low e out q
      reads_has p [] ls low h l u = absurd h
      reads_has p (r ∷ rs) ls low h l u = by (r == v) refl h (λ k. reads_has p rs ls low k l u)
        where
          by : (t : Bool) → (r == v) ≡ t → (v ≡ r) ⊎ Has v rs → (Has v rs → There (reads_among v (access_at b s p false) rs ls) low e out q)
              → There (if t then access_at b s p false ∷ reads_among v (access_at b s p false) rs ls else reads_among v (access_at b s p false) rs ls) low e out q
          by true k y go = here_to (access_at b s p false) (reads_among v (access_at b s p false) rs ls) low refl (inl (refl, l, u))
          by false k (inl y) go = let t : true ≡ false = sym (ap (λ m. m == v) (sym y) ∙ same v) ∙ k in cc
          by false k (inr y) go = go y

      -- where v lives behind them from before
      reads_over : (p : ℕ) (rs : List ℕ) (ls : List Access) (low : ℕ) → low ≤ q → q < p → There ls low e out q → There (reads_among v (access_at b s p false) rs ls) low e out q
      reads_over p [] ls low l u x = x
      reads_over p (r ∷ rs) ls low l u x = by (r == v) (reads_over p rs ls low l u x)
        where
          by : (t : Bool) → There (reads_among v (access_at b s p false) rs ls) low e out q
              → There (if t then access_at b s p false ∷ reads_among v (access_at b s p false) rs ls else reads_among v (access_at b s p false) rs ls) low e out q
          by true y = here_to (access_at b s p false) (reads_among v (access_at b s p false) rs ls) low refl (inl (refl, l, u))
          by false y = y

      write_pass : (p : ℕ) (d : Option ℕ) (ls : List Access) (low : ℕ) → low ≤ p → There ls p e out q → There (write_among v (access_at b s p true) d ls) low e out q
      write_pass p None ls low h x = lower ls low p h x
      write_pass p (Some r) ls low h x = by (r == v)
        where
          by : (t : Bool) → There (if t then access_at b s p true ∷ ls else ls) low e out q
          by true = here_to (access_at b s p true) ls low refl (inr (inr x))
          by false = lower ls low p h x

      write_not : (p : ℕ) (d : Option ℕ) (ls : List Access) (low : ℕ) → d ≢ Some v → There ls low e out q → There (write_among v (access_at b s p true) d ls) low e out q
      write_not p None ls low n x = x
      write_not p (Some r) ls low n x = by (eqb_tells r v)
        where
          by : (((r == v) ≡ true) × (r ≡ v)) ⊎ (((r == v) ≡ false) × (r ≢ v)) → There (if r == v then access_at b s p true ∷ ls else ls) low e out q
          by (inl t) = absurd (n (ap (λ m. Some m) t.1))
          by (inr t) = subst (λ c. There (if c then access_at b s p true ∷ ls else ls) low e out q) (sym t.0) x

      -- what accesses at the place p leave: a place before a read, or what follows; the register was accessed or not
      abbrev Reading : ℕ → List ℕ → List Access → ℕ → Type 0
      Reading p rs ls low = (Has v rs × (low ≤ q) × (q < p)) ⊎ ((Has v rs × There ls p e out q) ⊎ ((Has v rs → ⊥) × There ls low e out q))

      reads_from : (p : ℕ) (rs : List ℕ) (ls : List Access) (low : ℕ) → There (reads_among v (access_at b s p false) rs ls) low e out q → Reading p rs ls low
      reads_from p [] ls low x = inr (inr (λ k. k, x))
      reads_from p (r ∷ rs) ls low x = by (eqb_tells r v) x (λ l y. reads_from p rs ls l y)
        where
          behind : v ≡ r → Reading p rs ls p → Reading p (r ∷ rs) ls low
          behind k (inl y) = let l = y.1 in let u = y.2 in absurd (omega (arith, l, u))
          behind k (inr (inl y)) = inr (inl (inl k, y.1))
          behind k (inr (inr y)) = inr (inl (inl k, y.1))

          past : r ≢ v → Reading p rs ls low → Reading p (r ∷ rs) ls low
          past n (inl y) = inl (inr y.0, y.1, y.2)
          past n (inr (inl y)) = inr (inl (inr y.0, y.1))
          past n (inr (inr y)) = inr (inr (λ k. elim k [ inl z ↦ n (sym z) | inr z ↦ y.0 z ], y.1))

          first : v ≡ r → ThereBy true (access_at b s p false) (λ l. There (reads_among v (access_at b s p false) rs ls) l e out q) low q
              → ((l : ℕ) → There (reads_among v (access_at b s p false) rs ls) l e out q → Reading p rs ls l) → Reading p (r ∷ rs) ls low
          first k (inl y) go = inl (inl k, y.1, y.2)
          first k (inr (inl y)) go = let t : false ≡ true = y.0 in cc
          first k (inr (inr y)) go = behind k (go p y)

          by : (((r == v) ≡ true) × (r ≡ v)) ⊎ (((r == v) ≡ false) × (r ≢ v))
              → There (if r == v then access_at b s p false ∷ reads_among v (access_at b s p false) rs ls else reads_among v (access_at b s p false) rs ls) low e out q
              → ((l : ℕ) → There (reads_among v (access_at b s p false) rs ls) l e out q → Reading p rs ls l) → Reading p (r ∷ rs) ls low
          by (inl t) y go =
              first (sym t.1)
              (here_from (access_at b s p false) (reads_among v (access_at b s p false) rs ls) low refl
              (subst (λ c. There (if c then access_at b s p false ∷ reads_among v (access_at b s p false) rs ls else reads_among v (access_at b s p false) rs ls) low e out q) t.0 y)) go
          by (inr t) y go = past t.1 (go low (subst (λ c. There (if c then access_at b s p false ∷ reads_among v (access_at b s p false) rs ls else reads_among v (access_at b s p false) rs ls) low e out q) t.0 y))

      abbrev Writing : ℕ → Option ℕ → List Access → ℕ → Type 0
      Writing p d ls low = ((d ≡ Some v) × (q ≡ p)) ⊎ (((d ≡ Some v) × There ls p e out q) ⊎ ((d ≢ Some v) × There ls low e out q))

      write_from : (p : ℕ) (d : Option ℕ) (ls : List Access) (low : ℕ) → There (write_among v (access_at b s p true) d ls) low e out q → Writing p d ls low
      write_from p None ls low x = inr (inr (λ k. none_some v k, x))
      write_from p (Some r) ls low x = by (eqb_tells r v) x
        where
          first : r ≡ v → ThereBy true (access_at b s p true) (λ l. There ls l e out q) low q → Writing p (Some r) ls low
          first k (inl y) = let t : true ≡ false = y.0 in cc
          first k (inr (inl y)) = inl (ap (λ m. Some m) k, y.1)
          first k (inr (inr y)) = inr (inl (ap (λ m. Some m) k, y))

          differs : r ≢ v → Some r ≢ Some v
          differs n k = let t : r ≡ v = cc in n t

          by : (((r == v) ≡ true) × (r ≡ v)) ⊎ (((r == v) ≡ false) × (r ≢ v)) → There (if r == v then access_at b s p true ∷ ls else ls) low e out q → Writing p (Some r) ls low
          by (inl t) y = first t.1 (here_from (access_at b s p true) ls low refl (subst (λ c. There (if c then access_at b s p true ∷ ls else ls) low e out q) t.0 y))
          by (inr t) y = inr (inr (differs t.1, subst (λ c. There (if c then access_at b s p true ∷ ls else ls) low e out q) t.0 y))

  -- the code of the block from the place p on, which ends at e; what follows has no access of the block
  module _ (v s e : ℕ) (bs : List (Block ℕ Note)) (end : End ℕ) (post : List Access) where
    -- v is live behind the block
    abbrev Out : Type 0
    Out = (n : ℕ) × Ahead (Enters bs n v) end

    abbrev Accesses : ℕ → List (Instr ℕ Note) → List Access
    Accesses p is = code_accesses v b s p is end post

    module _ (q : ℕ) (tail_to : (low : ℕ) → Out → low ≤ q → q ≤ e → There post low e Out q) (tail_from : (low : ℕ) → There post low e Out q → Out × (low ≤ q) × (q ≤ e)) where
      -- where v is live at these instructions, it lives at a place before
      pub reaches_there : (p : ℕ) (is : List (Instr ℕ Note)) (low : ℕ) → p + length is ≡ e → low ≤ q → q < p → Live bs is end v → There (Accesses p is) low e Out q
      reaches_there p [] low at l u (n, inl h) = reads_has e Out q v s p (end_reads end) post low h l u
      reaches_there p [] low at l u (n, inr h) = reads_over e Out q v s p (end_reads end) post low l u (tail_to low (n, h) l (omega (arith, at, u)))
      reaches_there p (i ∷ is) low at l u (n, inl h) = reads_has e Out q v s p (read_by i) (write_among v (access_at b s p true) (written_by i) (Accesses (suc p) is)) low h l u
      reaches_there p (i ∷ is) low at l u (n, inr h) =
          reads_over e Out q v s p (read_by i) (write_among v (access_at b s p true) (written_by i) (Accesses (suc p) is)) low l u
          (write_not e Out q v s p (written_by i) (Accesses (suc p) is) low h.0 (reaches_there (suc p) is low (omega (arith, at)) l (omega (arith, u)) (n, h.1)))

      pub written_there : (p : ℕ) (i : Instr ℕ Note) (is : List (Instr ℕ Note)) → p ≡ q → written_by i ≡ Some v → There (Accesses p (i ∷ is)) q e Out q
      written_there p i is at w =
          reads_pass e Out q v s p (read_by i) (write_among v (access_at b s p true) (written_by i) (Accesses (suc p) is)) q (omega (arith, at)) (by (written_by i) w)
        where
          by : (d : Option ℕ) → d ≡ Some v → There (write_among v (access_at b s p true) d (Accesses (suc p) is)) p e Out q
          by None k = cc
          by (Some r) k =
              let is_v : r ≡ v = cc in
              subst (λ c. There (if c then access_at b s p true ∷ Accesses (suc p) is else Accesses (suc p) is) p e Out q) (sym (ap (λ m. m == v) is_v ∙ same v))
              (here_to e Out q (access_at b s p true) (Accesses (suc p) is) p refl (inr (inl (refl, sym at))))

      pub end_there : (p : ℕ) → p ≡ e → q ≡ e → Out → There (Accesses p []) q e Out q
      end_there p at is_e o = reads_pass e Out q v s p (end_reads end) post q (omega (arith, at, is_e)) (tail_to p o (omega (arith, at, is_e)) (omega (arith, is_e)))

      -- from an earlier place of the block
      pub skip : (p k : ℕ) (all is : List (Instr ℕ Note)) (low : ℕ) → IsRest all k is → low ≤ p → low ≤ q → p + k ≤ suc q → There (Accesses (p + k) is) q e Out q → There (Accesses p all) low e Out q
      skip p zero all is low r a c f x =
          let z : p + 0 ≡ p = omega arith in
          lower e Out q (Accesses p all) low q c (subst (λ m. There (Accesses m all) q e Out q) z (subst (λ l. There (Accesses (p + 0) l) q e Out q) (sym (rest_zero all is r)) x))
      skip p (suc k) [] is low r a c f x = absurd r
      skip p (suc k) (j ∷ all) is low r a c f x =
          let z : p + suc k ≡ suc p + k = omega arith in
          let rest = skip (suc p) k all is p r (omega arith) (omega (arith, f)) (omega (arith, f)) (subst (λ m. There (Accesses m is) q e Out q) z x) in
          reads_pass e Out q v s p (read_by j) (write_among v (access_at b s p true) (written_by j) (Accesses (suc p) all)) low a
          (write_pass e Out q v s p (written_by j) (Accesses (suc p) all) p (omega arith) rest)

      -- what is known of the instructions behind the place p
      abbrev Rest : ℕ → List (Instr ℕ Note) → Type 0
      Rest p is = (l : ℕ) → ((r : ℕ) → l ≤ r → r < suc p → Live bs is end v → LivesAt bs r v) → l ≤ suc p → There (Accesses (suc p) is) l e Out q → LivesAt bs q v

      -- and each such place is one of the register
      pub there_lives : (p : ℕ) (is : List (Instr ℕ Note)) (low : ℕ) → Spot bs p is end → p + length is ≡ e → ((r : ℕ) → low ≤ r → r < p → Live bs is end v → LivesAt bs r v) → low ≤ p → There (Accesses p is) low e Out q → LivesAt bs q v
      there_lives p [] low spot at known le x = by (reads_from e Out q v s p (end_reads end) post low x)
        where
          behind : q ≡ p → Out → LivesAt bs q v
          behind is_p o = subst (λ m. LivesAt bs m v) (sym is_p) (BehindEnd o.0 end spot o.1)

          by : (Has v (end_reads end) × (low ≤ q) × (q < p)) ⊎ ((Has v (end_reads end) × There post p e Out q) ⊎ ((Has v (end_reads end) → ⊥) × There post low e Out q)) → LivesAt bs q v
          by (inl y) = known q y.1 y.2 (0, inl y.0)
          by (inr (inl y)) = let t = tail_from p y.1 in let l = t.1 in let u = t.2 in behind (omega (arith, at, l, u)) t.0
          by (inr (inr y)) =
              let t = tail_from low y.1 in
              let u = t.2 in
              elim (cases_lt q p) [
                | inl z ↦ known q t.1 z (t.0.0, inr t.0.1)
                | inr z ↦ behind (omega (arith, at, z, u)) t.0
              ]
      there_lives p (i ∷ is) low spot at known le x = by (reads_from e Out q v s p (read_by i) (write_among v (access_at b s p true) (written_by i) (Accesses (suc p) is)) low x)
          (λ l k z. there_lives (suc p) is l (spot_next bs p i is end spot) (omega (arith, at)) k z)
        where
          here : Live bs is end v → LivesAt bs p v
          here l = Behind i is end spot l

          at_p : (r : ℕ) → p ≤ r → r < suc p → Live bs is end v → LivesAt bs r v
          at_p r a c l = let z : p ≡ r = omega (arith, a, c) in subst (λ m. LivesAt bs m v) z (here l)

          before : written_by i ≢ Some v → (r : ℕ) → low ≤ r → r < suc p → Live bs is end v → LivesAt bs r v
          before n r a c l = elim (cases_lt r p) [
            | inl z ↦ known r a z (l.0, inr (n, l.1))
            | inr z ↦ at_p r z c l
          ]

          written : (d : written_by i ≡ Some v) → q ≡ p → LivesAt bs q v
          written d is_p = subst (λ m. LivesAt bs m v) (sym is_p) (Written i is end spot d)

          wrote : (l : ℕ) → (l ≡ low) ⊎ (l ≡ p) → Writing e Out q v s p (written_by i) (Accesses (suc p) is) l → Rest p is → LivesAt bs q v
          wrote l k (inl y) rest = written y.0 y.1
          wrote l k (inr (inl y)) rest = rest p at_p (omega arith) y.1
          wrote l (inl k) (inr (inr y)) rest = rest low (before y.0) (omega (arith, le)) (subst (λ m. There (Accesses (suc p) is) m e Out q) k y.1)
          wrote l (inr k) (inr (inr y)) rest = rest p at_p (omega arith) (subst (λ m. There (Accesses (suc p) is) m e Out q) k y.1)

          by : Reading e Out q v s p (read_by i) (write_among v (access_at b s p true) (written_by i) (Accesses (suc p) is)) low → Rest p is → LivesAt bs q v
          by (inl y) rest = known q y.1 y.2 (0, inl y.0)
          by (inr (inl y)) rest = wrote p (inr refl) (write_from e Out q v s p (written_by i) (Accesses (suc p) is) p y.1) rest
          by (inr (inr y)) rest = wrote low (inl refl) (write_from e Out q v s p (written_by i) (Accesses (suc p) is) low y.1) rest
