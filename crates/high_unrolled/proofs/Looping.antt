-- The loops of what statements become, and what became of those that they had.
use Rattle.std.proofs.Common.{◌≡◌, ℕ, zero, suc, ◌+◌, ◌*◌, ◌<◌, ◌≤◌, max, Bool, true, false, List, [], ◌∷◌, ◌++◌, map, refl, sym, ap, ◌∙◌, subst, arith, All}
use Rattle.std.specs.Prelude.{◌==◌, Contains}
use Rattle.std.specs.List.{flat_map, range_with_len}
use Rattle.std.proofs.lemmas.Bool.{cond-false, ltb-true, ne_eqb}
use Rattle.std.proofs.lemmas.List.{map-append}
use Rattle.std.proofs.lemmas.List.Concat.{flat_map-append, flat_map-cons}
use Rattle.std.proofs.lemmas.List.Elements.{All-append, All-cons, All-map, All-nil, All-weaker, Contains-append_left, Contains-append_right, Contains-get_or}
use Rattle.high_ir.specs.declared.copies.LoopCopy.{LoopCopy}
use Rattle.high_ir.specs.Splitting.{by_factor, split}
use Rattle.high_ir.specs.Standing.{Bounded, Bounds, loops_of, loops_of_all, marks_of, marks_of_all}
use Rattle.high_ir.specs.Tree.{Statement, Set, Put, Get, Keep, Mark, Seq, If, Loop, Block, Leave, Call, Return, Statements, End, Then}
use Rattle.high_parts.proofs.Numbers.{number_of}
use Rattle.high_pass.specs.Listing.{LoopEntry}
use Rattle.high_pass.proofs.Elements.{All-append_back, All-append_front}
use Rattle.high_unrolled.specs.declared.made.Made.{Made}
use Rattle.high_unrolled.specs.declared.made.Made.TheVariants.{CopyOf, Behind}
use Rattle.high_unrolled.specs.Factor.{Rolled, as_loop, ended, first_starts, grouped, is_short, is_taken, turned}
use Rattle.high_unrolled.specs.Starts.{mark_count, repeated}
use Rattle.high_unrolled.specs.Unrolling.{Place, Became, after, at_loop, inside, loop_copied, loop_gone, spread, spread_all, taken}
use Rattle.high_unrolled.proofs.Copies.{starts_are}
use Rattle.high_unrolled.proofs.Rising.{range-append}
use Rattle.high_unrolled.proofs.Sizes.{no_loops}
use Rattle.high_unrolled.proofs.Taking.{taken_innermost, taken_twice}

abbrev pub bounded : ℕ → Bounds → Bounded
bounded id b = record { id = id; bounds = b }

-- a copy of a loop has the bounds that its factor makes of the loop's
abbrev pub CopyFits : (k : ℕ) (olds news : List Bounded) → ℕ → LoopCopy → Type 0
CopyFits k olds news old l = (1 ≤ l.factor) × (l.factor ≤ max 1 k) × ((b : Bounds) × Contains olds (bounded old b) × Contains news (bounded l.id (by_factor b l.factor)))

abbrev pub EntryFits : (k : ℕ) (olds news : List Bounded) → LoopEntry → Type 0
EntryFits k olds news e = All (CopyFits k olds news e.old) e.new

-- a new mark is the copy of an old one, or stands behind a loop that makes fewer starts
abbrev pub MadeFits : (k n : ℕ) → List Bounded → Made → Type 0
MadeFits k n olds (CopyOf y) = y < n
MadeFits k n olds (Behind l) = (b : Bounds) × Contains olds (bounded l b) × (b.most < k)

abbrev pub old_of : LoopEntry → ℕ
old_of e = e.old

abbrev pub news_of : LoopEntry → List ℕ
news_of e = map (λ l. l.id) e.new

-- of a piece with these loops, which became these, so many, from a number on
pub record Looping (k n from : ℕ) (olds news : List Bounded) (loops : ℕ) (entries : List LoopEntry) (made : List Made) : Type 0 where
  pub numbers : map number_of news ≡ range_with_len from loops
  pub entered : map old_of entries ≡ map number_of olds
  pub copied : flat_map news_of entries ≡ range_with_len from loops
  pub fitting : All (EntryFits k olds news) entries
  pub placed : All (MadeFits k n olds) made

module _ (k n : ℕ) where
  wider_made : (olds wide : List Bounded) → ((l : Bounded) → Contains olds l → Contains wide l) → (x : Made) → MadeFits k n olds x → MadeFits k n wide x
  wider_made olds wide more (CopyOf y) h = h
  wider_made olds wide more (Behind l) h = (h.0, more (bounded l h.0) h.1, h.2)

  wider_entry : (olds wide news more : List Bounded) → ((l : Bounded) → Contains olds l → Contains wide l) → ((l : Bounded) → Contains news l → Contains more l) → (e : LoopEntry) → EntryFits k olds news e → EntryFits k wide more e
  wider_entry olds wide news more a b e h =
      All-weaker (CopyFits k olds news e.old) (CopyFits k wide more e.old) (λ l c. (c.0, c.1, (c.2.0, a (bounded e.old c.2.0) c.2.1, b (bounded l.id (by_factor c.2.0 l.factor)) c.2.2))) e.new h

  pub looping_none : (from : ℕ) → Looping k n from [] [] 0 [] []
  looping_none from = record { numbers = refl; entered = refl; copied = refl; fitting = All-nil (EntryFits k [] []); placed = All-nil (MadeFits k n []) }

  pub looping_both : (from : ℕ) (o1 o2 n1 n2 : List Bounded) (l1 l2 : ℕ) (e1 e2 : List LoopEntry) (m1 m2 : List Made) → Looping k n from o1 n1 l1 e1 m1 → Looping k n (from + l1) o2 n2 l2 e2 m2 →
      Looping k n from (o1 ++ o2) (n1 ++ n2) (l1 + l2) (e1 ++ e2) (m1 ++ m2)
  looping_both from o1 o2 n1 n2 l1 l2 e1 e2 m1 m2 a b = record {
    numbers = map-append number_of n1 n2 ∙ ap (λ l. l ++ map number_of n2) a.numbers ∙ ap (λ l. range_with_len from l1 ++ l) b.numbers ∙ sym (range-append from l1 l2);
    entered = map-append old_of e1 e2 ∙ ap (λ l. l ++ map old_of e2) a.entered ∙ ap (λ l. map number_of o1 ++ l) b.entered ∙ sym (map-append number_of o1 o2);
    copied = flat_map-append news_of e1 e2 ∙ ap (λ l. l ++ flat_map news_of e2) a.copied ∙ ap (λ l. range_with_len from l1 ++ l) b.copied ∙ sym (range-append from l1 l2);
    fitting = All-append (EntryFits k (o1 ++ o2) (n1 ++ n2)) e1 e2
        (All-weaker (EntryFits k o1 n1) (EntryFits k (o1 ++ o2) (n1 ++ n2)) (wider_entry o1 (o1 ++ o2) n1 (n1 ++ n2) (Contains-append_left o1 o2) (Contains-append_left n1 n2)) e1 a.fitting)
        (All-weaker (EntryFits k o2 n2) (EntryFits k (o1 ++ o2) (n1 ++ n2)) (wider_entry o2 (o1 ++ o2) n2 (n1 ++ n2) (Contains-append_right o1 o2) (Contains-append_right n1 n2)) e2 b.fitting);
    placed = All-append (MadeFits k n (o1 ++ o2)) m1 m2
        (All-weaker (MadeFits k n o1) (MadeFits k n (o1 ++ o2)) (wider_made o1 (o1 ++ o2) (Contains-append_left o1 o2)) m1 a.placed)
        (All-weaker (MadeFits k n o2) (MadeFits k n (o1 ++ o2)) (wider_made o2 (o1 ++ o2) (Contains-append_right o1 o2)) m2 b.placed);
  }

  contains_first : (l : Bounded) (ls : List Bounded) → Contains (l ∷ ls) l
  contains_first l ls = Contains-get_or (l ∷ ls) 0 l (omega arith)

  -- a loop that stays
  looping_kept : (from id : ℕ) (b : Bounds) (o ns : List Bounded) (loops : ℕ) (es : List LoopEntry) (ms : List Made) → Looping k n (from + 1) o ns loops es ms →
      Looping k n from (bounded id b ∷ o) (bounded from b ∷ ns) (suc loops) (loop_copied id from 1 ∷ es) ms
  looping_kept from id b o ns loops es ms a = record {
    numbers = ap (λ l. from ∷ l) a.numbers;
    entered = ap (λ l. id ∷ l) a.entered;
    copied = flat_map-cons news_of (loop_copied id from 1) es ∙ ap (λ l. from ∷ l) a.copied;
    fitting = All-cons (EntryFits k (bounded id b ∷ o) (bounded from b ∷ ns)) (loop_copied id from 1) es
        (All-cons (CopyFits k (bounded id b ∷ o) (bounded from b ∷ ns) id) (record { id = from; factor = 1 }) []
        (omega arith, omega arith, (b, contains_first (bounded id b) o, contains_first (bounded from b) ns))
        (All-nil (CopyFits k (bounded id b ∷ o) (bounded from b ∷ ns) id)))
        (All-weaker (EntryFits k o ns) (EntryFits k (bounded id b ∷ o) (bounded from b ∷ ns)) (wider_entry o (bounded id b ∷ o) ns (bounded from b ∷ ns) (Contains-append_right (bounded id b ∷ []) o) (Contains-append_right (bounded from b ∷ []) ns)) es a.fitting);
    placed = All-weaker (MadeFits k n o) (MadeFits k n (bounded id b ∷ o)) (wider_made o (bounded id b ∷ o) (Contains-append_right (bounded id b ∷ []) o)) ms a.placed;
  }

  repeated_below : (count : ℕ) (ms : List ℕ) → All (λ y. y < n) ms → All (λ y. y < n) (repeated count ms)
  repeated_below zero ms all = All-nil (λ y. y < n)
  repeated_below (suc c) ms all = All-append (λ y. y < n) ms (repeated c ms) all (repeated_below c ms all)

  copies_below : (olds : List Bounded) (count : ℕ) (ms : List ℕ) → All (λ y. y < n) ms → All (MadeFits k n olds) (map CopyOf (repeated count ms))
  copies_below olds count ms all = All-map (MadeFits k n olds) CopyOf (repeated count ms) (repeated_below count ms all)

  -- a loop of fewer starts than the factor
  looping_ended : (from m : ℕ) (x : Rolled) → x.bounds.most < k → loops_of x.body ≡ [] → All (λ y. y < n) (marks_of x.body) →
      Looping k n from (bounded x.id x.bounds ∷ loops_of x.body) (loops_of (ended m x)) 0 (loop_gone x.id ∷ []) (map CopyOf (repeated x.bounds.most (marks_of x.body)) ++ Behind x.id ∷ [])
  looping_ended from m x short none below = record {
    numbers = ap (map number_of) ((starts_are x.bounds.most m x.body (Then (Mark (m + x.bounds.most * mark_count x.body)) End)).turning none);
    entered = ap (λ l. x.id ∷ map number_of l) (sym none);
    copied = flat_map-cons news_of (loop_gone x.id) [];
    fitting = All-cons (EntryFits k (bounded x.id x.bounds ∷ loops_of x.body) (loops_of (ended m x))) (loop_gone x.id) []
        (All-nil (CopyFits k (bounded x.id x.bounds ∷ loops_of x.body) (loops_of (ended m x)) x.id))
        (All-nil (EntryFits k (bounded x.id x.bounds ∷ loops_of x.body) (loops_of (ended m x))));
    placed = All-append (MadeFits k n (bounded x.id x.bounds ∷ loops_of x.body)) (map CopyOf (repeated x.bounds.most (marks_of x.body))) (Behind x.id ∷ [])
        (copies_below (bounded x.id x.bounds ∷ loops_of x.body) x.bounds.most (marks_of x.body) below)
        (All-cons (MadeFits k n (bounded x.id x.bounds ∷ loops_of x.body)) (Behind x.id) [] (x.bounds, contains_first (bounded x.id x.bounds) (loops_of x.body), short) (All-nil (MadeFits k n (bounded x.id x.bounds ∷ loops_of x.body))));
  }

  turned_loops : (m number : ℕ) (x : Rolled) → loops_of x.body ≡ [] → loops_of (turned k m number x) ≡ bounded number (split x.bounds k) ∷ []
  turned_loops m number x none =
      (starts_are (first_starts k x) m x.body (Then (Loop number (split x.bounds k).least (split x.bounds k).most (grouped k (m + first_starts k x * mark_count x.body) x)) End)).turning none
      ∙ ap (λ l. (bounded number (split x.bounds k) ∷ l) ++ []) ((starts_are k (m + first_starts k x * mark_count x.body) x.body End).turning none)

  by_more : (b : Bounds) → 2 ≤ k → by_factor b k ≡ split b k
  by_more b two = cond-false (k == 1) b (split b k) (ne_eqb k 1 (λ e. absurd (omega (arith, two, e))))

  -- a loop of several starts at a time
  looping_turned : (from m : ℕ) (x : Rolled) → 2 ≤ k → loops_of x.body ≡ [] → All (λ y. y < n) (marks_of x.body) →
      Looping k n from (bounded x.id x.bounds ∷ loops_of x.body) (loops_of (turned k m from x)) 1 (loop_copied x.id from k ∷ []) (map CopyOf (repeated (first_starts k x) (marks_of x.body)) ++ map CopyOf (repeated k (marks_of x.body)))
  looping_turned from m x two none below =
      subst (λ news. Looping k n from olds news 1 (loop_copied x.id from k ∷ []) (map CopyOf (repeated (first_starts k x) (marks_of x.body)) ++ map CopyOf (repeated k (marks_of x.body)))) (sym (turned_loops m from x none))
      (record {
        numbers = refl;
        entered = ap (λ l. x.id ∷ map number_of l) (sym none);
        copied = flat_map-cons news_of (loop_copied x.id from k) [];
        fitting = All-cons (EntryFits k olds news) (loop_copied x.id from k) []
            (All-cons (CopyFits k olds news x.id) (record { id = from; factor = k }) []
            (omega (arith, two), omega arith, (x.bounds, contains_first (bounded x.id x.bounds) (loops_of x.body), subst (λ b. Contains news (bounded from b)) (sym (by_more x.bounds two)) (contains_first (bounded from (split x.bounds k)) [])))
            (All-nil (CopyFits k olds news x.id)))
            (All-nil (EntryFits k olds news));
        placed = All-append (MadeFits k n olds) (map CopyOf (repeated (first_starts k x) (marks_of x.body))) (map CopyOf (repeated k (marks_of x.body)))
            (copies_below olds (first_starts k x) (marks_of x.body) below) (copies_below olds k (marks_of x.body) below);
      })
    where
      olds : List Bounded
      olds = bounded x.id x.bounds ∷ loops_of x.body

      news : List Bounded
      news = bounded from (split x.bounds k) ∷ []

  looping_taken : (short : Bool) (z : Place) (x : Rolled) → is_short k x ≡ short → 2 ≤ k → loops_of x.body ≡ [] → All (λ y. y < n) (marks_of x.body) →
      Looping k n z.loops (bounded x.id x.bounds ∷ loops_of x.body) (loops_of (taken k short z x).code) (taken k short z x).loops (taken k short z x).entries (taken k short z x).made
  looping_taken true z x e two none below = looping_ended z.loops z.marks x (ltb-true x.bounds.most k e) none below
  looping_taken false z x e two none below = looping_turned z.loops z.marks x two none below

  looping_loop : (takes : Bool) (level : ℕ) (z : Place) (x : Rolled) (inner : Became Statement) → is_taken k z.room level x ≡ takes → All (λ y. y < n) (marks_of x.body) →
      Looping k n (z.loops + 1) (loops_of x.body) (loops_of inner.code) inner.loops inner.entries inner.made →
      Looping k n z.loops (bounded x.id x.bounds ∷ loops_of x.body) (loops_of (at_loop k takes level z x inner).code) (at_loop k takes level z x inner).loops (at_loop k takes level z x inner).entries (at_loop k takes level z x inner).made
  looping_loop true level z x inner e below h = looping_taken (is_short k x) z x refl (taken_twice k z.room level x e) (no_loops x.body (taken_innermost k z.room level x e)) below
  looping_loop false level z x inner e below h = looping_kept z.loops x.id x.bounds (loops_of x.body) (loops_of inner.code) inner.loops inner.entries inner.made h

  mutual
    pub loops_become : (level : ℕ) (z : Place) (s : Statement) → All (λ y. y < n) (marks_of s) → Looping k n z.loops (loops_of s) (loops_of (spread k level z s).code) (spread k level z s).loops (spread k level z s).entries (spread k level z s).made
    loops_become level z (Loop id least most body) below =
        looping_loop (is_taken k z.room level (as_loop id least most body)) level z (as_loop id least most body) (spread k (level + 1) (inside z) body) refl below (loops_become (level + 1) (inside z) body below)
    loops_become level z (Seq parts) below = loops_become_all (level + 1) z parts below
    loops_become level z (If test first other) below =
        let x = spread k (level + 1) z first in
        let y = spread k (level + 1) (after z x) other in
        looping_both z.loops (loops_of first) (loops_of other) (loops_of x.code) (loops_of y.code) x.loops y.loops x.entries y.entries x.made y.made
        (loops_become (level + 1) z first (All-append_front (λ y. y < n) (marks_of first) (marks_of other) below))
        (loops_become (level + 1) (after z x) other (All-append_back (λ y. y < n) (marks_of first) (marks_of other) below))
    loops_become level z (Block body) below = loops_become (level + 1) z body below
    loops_become level z (Set x e) below = looping_none z.loops
    loops_become level z (Put e) below = looping_none z.loops
    loops_become level z (Get x) below = looping_none z.loops
    loops_become level z (Keep array i e) below = looping_none z.loops
    loops_become level z (Mark m) below = looping_none z.loops
    loops_become level z (Leave d) below = looping_none z.loops
    loops_become level z (Call f values arrays into) below = looping_none z.loops
    loops_become level z (Return e) below = looping_none z.loops

    pub loops_become_all : (level : ℕ) (z : Place) (parts : Statements) → All (λ y. y < n) (marks_of_all parts) → Looping k n z.loops (loops_of_all parts) (loops_of_all (spread_all k level z parts).code) (spread_all k level z parts).loops (spread_all k level z parts).entries (spread_all k level z parts).made
    loops_become_all level z End below = looping_none z.loops
    loops_become_all level z (Then first rest) below =
        let x = spread k level z first in
        let y = spread_all k level (after z x) rest in
        looping_both z.loops (loops_of first) (loops_of_all rest) (loops_of x.code) (loops_of_all y.code) x.loops y.loops x.entries y.entries x.made y.made
        (loops_become level z first (All-append_front (λ y. y < n) (marks_of first) (marks_of_all rest) below))
        (loops_become_all level (after z x) rest (All-append_back (λ y. y < n) (marks_of first) (marks_of_all rest) below))
