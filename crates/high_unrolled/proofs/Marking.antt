-- The marks of what statements become: those that stay, and new ones.
use Rattle.std.proofs.Common.{ℕ, zero, suc, ◌+◌, ◌*◌, ◌<◌, ◌≤◌, Bool, true, false, List, [], ◌∷◌, ◌++◌, length, map, arith, All}
use Rattle.std.proofs.lemmas.List.Elements.{All-append, All-cons, All-nil}
use Rattle.high_ir.specs.Splitting.{split}
use Rattle.high_ir.specs.Standing.{marks_of, marks_of_all}
use Rattle.high_ir.specs.Tree.{Statement, Set, Put, Get, Keep, Mark, Seq, If, Loop, Block, Leave, Call, Return, Statements, End, Then}
use Rattle.high_pass.proofs.Elements.{All-append_back, All-append_front}
use Rattle.high_unrolled.specs.declared.made.Made.{Made}
use Rattle.high_unrolled.specs.declared.made.Made.TheVariants.{CopyOf, Behind}
use Rattle.high_unrolled.specs.Factor.{Rolled, as_loop, ended, first_starts, grouped, is_short, is_taken, turned}
use Rattle.high_unrolled.specs.Starts.{mark_count, remarked, remarked_all, repeated, starts}
use Rattle.high_unrolled.specs.Unrolling.{Place, Became, after, at_loop, inside, spread, spread_all, taken}
use Rattle.high_unrolled.proofs.Numbered.{Numbered, copies_back, copies_front, numbered_back, numbered_behind, numbered_front}

module _ (Q : ℕ → Type 0) where
  -- what holds of the numbers of new marks
  abbrev pub OfNumber : Made → ℕ → Type 0
  OfNumber x m = Q m

  mutual
    remarked_marks : (a : ℕ) (s : Statement) → Numbered OfNumber a (map CopyOf (marks_of s)) → All Q (marks_of (remarked a s))
    remarked_marks a (Mark m) h = All-cons Q a [] h.0 (All-nil Q)
    remarked_marks a (Seq parts) h = all_remarked_marks a parts h
    remarked_marks a (If test first other) h =
        All-append Q (marks_of (remarked a first)) (marks_of (remarked (a + mark_count first) other))
        (remarked_marks a first (copies_front OfNumber a (marks_of first) (marks_of other) h))
        (remarked_marks (a + mark_count first) other (copies_back OfNumber a (marks_of first) (marks_of other) h))
    remarked_marks a (Loop id least most body) h = remarked_marks a body h
    remarked_marks a (Block body) h = remarked_marks a body h
    remarked_marks a (Set x e) h = All-nil Q
    remarked_marks a (Put e) h = All-nil Q
    remarked_marks a (Get x) h = All-nil Q
    remarked_marks a (Keep array i e) h = All-nil Q
    remarked_marks a (Leave d) h = All-nil Q
    remarked_marks a (Call f values arrays into) h = All-nil Q
    remarked_marks a (Return e) h = All-nil Q

    all_remarked_marks : (a : ℕ) (parts : Statements) → Numbered OfNumber a (map CopyOf (marks_of_all parts)) → All Q (marks_of_all (remarked_all a parts))
    all_remarked_marks a End h = All-nil Q
    all_remarked_marks a (Then first rest) h =
        All-append Q (marks_of (remarked a first)) (marks_of_all (remarked_all (a + mark_count first) rest))
        (remarked_marks a first (copies_front OfNumber a (marks_of first) (marks_of_all rest) h))
        (all_remarked_marks (a + mark_count first) rest (copies_back OfNumber a (marks_of first) (marks_of_all rest) h))

  starts_marks : (n a : ℕ) (body : Statement) (behind : Statements) → Numbered OfNumber a (map CopyOf (repeated n (marks_of body))) → All Q (marks_of_all behind) → All Q (marks_of_all (starts n a body behind))
  starts_marks zero a body behind h all = all
  starts_marks (suc n) a body behind h all =
      All-append Q (marks_of (remarked a body)) (marks_of_all (starts n (a + mark_count body) body behind))
      (remarked_marks a body (copies_front OfNumber a (marks_of body) (repeated n (marks_of body)) h))
      (starts_marks n (a + mark_count body) body behind (copies_back OfNumber a (marks_of body) (repeated n (marks_of body)) h) all)

  ended_marks : (a : ℕ) (x : Rolled) → Numbered OfNumber a (map CopyOf (repeated x.bounds.most (marks_of x.body)) ++ Behind x.id ∷ []) → All Q (marks_of (ended a x))
  ended_marks a x h =
      starts_marks x.bounds.most a x.body (Then (Mark (a + x.bounds.most * mark_count x.body)) End)
      (numbered_front OfNumber a (map CopyOf (repeated x.bounds.most (marks_of x.body))) (Behind x.id ∷ []) h)
      (All-cons Q (a + x.bounds.most * mark_count x.body) [] (numbered_behind OfNumber a x.bounds.most (marks_of x.body) (Behind x.id ∷ []) h).0 (All-nil Q))

  turned_marks : (k a number : ℕ) (x : Rolled) → Numbered OfNumber a (map CopyOf (repeated (first_starts k x) (marks_of x.body)) ++ map CopyOf (repeated k (marks_of x.body))) → All Q (marks_of (turned k a number x))
  turned_marks k a number x h =
      let inner : Statement = grouped k (a + first_starts k x * mark_count x.body) x in
      starts_marks (first_starts k x) a x.body (Then (Loop number (split x.bounds k).least (split x.bounds k).most inner) End)
      (numbered_front OfNumber a (map CopyOf (repeated (first_starts k x) (marks_of x.body))) (map CopyOf (repeated k (marks_of x.body))) h)
      (All-append Q (marks_of inner) []
      (starts_marks k (a + first_starts k x * mark_count x.body) x.body End (numbered_behind OfNumber a (first_starts k x) (marks_of x.body) (map CopyOf (repeated k (marks_of x.body))) h) (All-nil Q))
      (All-nil Q))

  module _ (k : ℕ) where
    loop_marks : (takes : Bool) (level : ℕ) (z : Place) (x : Rolled) (inner : Became Statement) → (Numbered OfNumber z.marks inner.made → All Q (marks_of inner.code)) →
        Numbered OfNumber z.marks (at_loop k takes level z x inner).made → All Q (marks_of (at_loop k takes level z x inner).code)
    loop_marks true level z x inner ih h = of_taken (is_short k x) h
      where
        of_taken : (b : Bool) → Numbered OfNumber z.marks (taken k b z x).made → All Q (marks_of (taken k b z x).code)
        of_taken true h = ended_marks z.marks x h
        of_taken false h = turned_marks k z.marks z.loops x h
    loop_marks false level z x inner ih h = ih h

    mutual
      pub spread_marks : (level : ℕ) (z : Place) (s : Statement) → All Q (marks_of s) → Numbered OfNumber z.marks (spread k level z s).made → All Q (marks_of (spread k level z s).code)
      spread_marks level z (Loop id least most body) own h =
          loop_marks (is_taken k z.room level (as_loop id least most body)) level z (as_loop id least most body) (spread k (level + 1) (inside z) body) (spread_marks (level + 1) (inside z) body own) h
      spread_marks level z (Seq parts) own h = spread_all_marks (level + 1) z parts own h
      spread_marks level z (If test first other) own h =
          let x = spread k (level + 1) z first in
          let y = spread k (level + 1) (after z x) other in
          All-append Q (marks_of x.code) (marks_of y.code)
          (spread_marks (level + 1) z first (All-append_front Q (marks_of first) (marks_of other) own) (numbered_front OfNumber z.marks x.made y.made h))
          (spread_marks (level + 1) (after z x) other (All-append_back Q (marks_of first) (marks_of other) own) (numbered_back OfNumber z.marks x.made y.made h))
      spread_marks level z (Block body) own h = spread_marks (level + 1) z body own h
      spread_marks level z (Mark m) own h = own
      spread_marks level z (Set x e) own h = own
      spread_marks level z (Put e) own h = own
      spread_marks level z (Get x) own h = own
      spread_marks level z (Keep array i e) own h = own
      spread_marks level z (Leave d) own h = own
      spread_marks level z (Call f values arrays into) own h = own
      spread_marks level z (Return e) own h = own

      spread_all_marks : (level : ℕ) (z : Place) (parts : Statements) → All Q (marks_of_all parts) → Numbered OfNumber z.marks (spread_all k level z parts).made → All Q (marks_of_all (spread_all k level z parts).code)
      spread_all_marks level z End own h = own
      spread_all_marks level z (Then first rest) own h =
          let x = spread k level z first in
          let y = spread_all k level (after z x) rest in
          All-append Q (marks_of x.code) (marks_of_all y.code)
          (spread_marks level z first (All-append_front Q (marks_of first) (marks_of_all rest) own) (numbered_front OfNumber z.marks x.made y.made h))
          (spread_all_marks level (after z x) rest (All-append_back Q (marks_of first) (marks_of_all rest) own) (numbered_back OfNumber z.marks x.made y.made h))

-- numbers from n on
pub numbered_each : (Q : ℕ → Type 0) (n : ℕ) (xs : List Made) → ((m : ℕ) → n ≤ m → m < n + length xs → Q m) → Numbered (OfNumber Q) n xs
numbered_each Q n [] h = tt
numbered_each Q n (x ∷ xs) h = (h n (omega arith) (omega arith), numbered_each Q (n + 1) xs (λ m le lt. h m (omega (arith, le)) (omega (arith, lt))))
