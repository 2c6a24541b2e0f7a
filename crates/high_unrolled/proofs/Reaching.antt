-- How often what statements become may reach the copies of a mark, all together.
use Rattle.std.proofs.Common.{◌≡◌, ℕ, zero, suc, ◌+◌, ◌*◌, ◌≤◌, ◌==◌, Bool, true, false, cond, List, [], ◌∷◌, ◌++◌, map, refl, ap, ◌∙◌, arith, All}
use Rattle.std.specs.Prelude.{sum_by}
use Rattle.std.proofs.Math.Nat.{mul-le-mul_left}
use Rattle.std.proofs.lemmas.Bool.{ltb-false}
use Rattle.std.proofs.lemmas.List.Sums.{sum_by-cons}
use Rattle.high_ir.specs.Splitting.{split}
use Rattle.high_ir.specs.Standing.{marks_of, marks_of_all}
use Rattle.high_ir.specs.Tree.{Statement, Set, Put, Get, Keep, Mark, Seq, If, Loop, Block, Leave, Call, Return, Statements, End, Then}
use Rattle.high_ir.specs.Weight.{most_starts, reach_of, reach_of_all}
use Rattle.high_pass.proofs.Elements.{All-append_back, All-append_front}
use Rattle.high_unrolled.specs.declared.made.Made.{Made}
use Rattle.high_unrolled.specs.declared.made.Made.TheVariants.{CopyOf, Behind}
use Rattle.high_unrolled.specs.Factor.{Rolled, as_loop, ended, first_starts, grouped, is_short, is_taken, turned}
use Rattle.high_unrolled.specs.Starts.{mark_count, remarked, remarked_all, repeated, starts}
use Rattle.high_unrolled.specs.Unrolling.{Place, Became, after, at_loop, inside, spread, spread_all, taken}
use Rattle.high_unrolled.proofs.Growth.{reach_long, reach_short}
use Rattle.high_unrolled.proofs.Numbered.{Numbered, copies_back, copies_front, numbered_back, numbered_behind, numbered_front}
use Rattle.high_unrolled.proofs.Taking.{taken_twice}

-- how often a statement may reach marks, by what each mark counts
module _ (callee : ℕ → ℕ) (worth : ℕ → ℕ) where
  abbrev mutual
    pub reached : Statement → ℕ
    reached (Mark m) = worth m
    reached (Seq parts) = reached_all parts
    reached (If test first other) = reached first + reached other
    reached (Loop id least most body) = most_starts most * reached body
    reached (Block body) = reached body
    reached (Call f values arrays into) = callee f
    reached (Set x e) = 0
    reached (Put e) = 0
    reached (Get x) = 0
    reached (Keep array i e) = 0
    reached (Leave d) = 0
    reached (Return e) = 0

    pub reached_all : Statements → ℕ
    reached_all End = 0
    reached_all (Then first rest) = reached first + reached_all rest

sum_by-two : (f g h : ℕ → ℕ) (xs : List ℕ) → ((x : ℕ) → h x ≡ f x + g x) → sum_by h xs ≡ sum_by f xs + sum_by g xs
sum_by-two f g h [] e = refl
sum_by-two f g h (x ∷ xs) e =
    let a = sum_by-cons h x xs in let b = sum_by-cons f x xs in let c = sum_by-cons g x xs in let d = sum_by-two f g h xs e in let i = e x in
    omega (arith, a, b, c, d, i)

sum_by-times : (n : ℕ) (f : ℕ → ℕ) (xs : List ℕ) → sum_by (λ x. n * f x) xs ≡ n * sum_by f xs
sum_by-times n f [] = let e : 0 ≡ n * 0 = omega arith in e
sum_by-times n f (x ∷ xs) =
    let a = sum_by-cons (λ y. n * f y) x xs in
    let b : n * sum_by f (x ∷ xs) ≡ n * f x + n * sum_by f xs = ap (λ s. n * s) (sum_by-cons f x xs) ∙ omega arith in
    let c = sum_by-times n f xs in
    omega (arith, a, b, c)

sum_by-none : (xs : List ℕ) → sum_by (λ x. 0) xs ≡ 0
sum_by-none [] = refl
sum_by-none (x ∷ xs) = let a = sum_by-cons {X = ℕ} (λ y. 0) x xs in let b = sum_by-none xs in omega (arith, a, b)

-- several marks together
module _ (callee : ℕ → ℕ → ℕ) (ks : List ℕ) where
  abbrev pub calls_reach : ℕ → ℕ
  calls_reach f = sum_by (λ k. callee k f) ks

  abbrev pub marks_reach : ℕ → ℕ
  marks_reach m = sum_by (λ k. cond (m == k) 1 0) ks

  mutual
    pub sum_reached : (s : Statement) → sum_by (λ k. reach_of (callee k) k s) ks ≡ reached calls_reach marks_reach s
    sum_reached (Mark m) = refl
    sum_reached (Seq parts) = sum_all_reached parts
    sum_reached (If test first other) =
        sum_by-two (λ k. reach_of (callee k) k first) (λ k. reach_of (callee k) k other) (λ k. reach_of (callee k) k first + reach_of (callee k) k other) ks (λ k. refl)
        ∙ ap (λ n. n + sum_by (λ k. reach_of (callee k) k other) ks) (sum_reached first) ∙ ap (λ n. reached calls_reach marks_reach first + n) (sum_reached other)
    sum_reached (Loop id least most body) = sum_by-times (most_starts most) (λ k. reach_of (callee k) k body) ks ∙ ap (λ n. most_starts most * n) (sum_reached body)
    sum_reached (Block body) = sum_reached body
    sum_reached (Call f values arrays into) = refl
    sum_reached (Set x e) = sum_by-none ks
    sum_reached (Put e) = sum_by-none ks
    sum_reached (Get x) = sum_by-none ks
    sum_reached (Keep array i e) = sum_by-none ks
    sum_reached (Leave d) = sum_by-none ks
    sum_reached (Return e) = sum_by-none ks

    sum_all_reached : (parts : Statements) → sum_by (λ k. reach_of_all (callee k) k parts) ks ≡ reached_all calls_reach marks_reach parts
    sum_all_reached End = sum_by-none ks
    sum_all_reached (Then first rest) =
        sum_by-two (λ k. reach_of (callee k) k first) (λ k. reach_of_all (callee k) k rest) (λ k. reach_of (callee k) k first + reach_of_all (callee k) k rest) ks (λ k. refl)
        ∙ ap (λ n. n + sum_by (λ k. reach_of_all (callee k) k rest) ks) (sum_reached first) ∙ ap (λ n. reached calls_reach marks_reach first + n) (sum_all_reached rest)

-- one mark
mutual
  pub one_reached : (callee : ℕ → ℕ) (mark : ℕ) (s : Statement) → reach_of callee mark s ≡ reached callee (λ m. cond (m == mark) 1 0) s
  one_reached callee mark (Mark m) = refl
  one_reached callee mark (Seq parts) = one_all_reached callee mark parts
  one_reached callee mark (If test first other) = ap (λ n. n + reach_of callee mark other) (one_reached callee mark first) ∙ ap (λ n. reached callee (λ m. cond (m == mark) 1 0) first + n) (one_reached callee mark other)
  one_reached callee mark (Loop id least most body) = ap (λ n. most_starts most * n) (one_reached callee mark body)
  one_reached callee mark (Block body) = one_reached callee mark body
  one_reached callee mark (Call f values arrays into) = refl
  one_reached callee mark (Set x e) = refl
  one_reached callee mark (Put e) = refl
  one_reached callee mark (Get x) = refl
  one_reached callee mark (Keep array i e) = refl
  one_reached callee mark (Leave d) = refl
  one_reached callee mark (Return e) = refl

  one_all_reached : (callee : ℕ → ℕ) (mark : ℕ) (parts : Statements) → reach_of_all callee mark parts ≡ reached_all callee (λ m. cond (m == mark) 1 0) parts
  one_all_reached callee mark End = refl
  one_all_reached callee mark (Then first rest) = ap (λ n. n + reach_of_all callee mark rest) (one_reached callee mark first) ∙ ap (λ n. reached callee (λ m. cond (m == mark) 1 0) first + n) (one_all_reached callee mark rest)

-- what a new mark may count, where the old ones count so much
abbrev pub made_worth : (ℕ → ℕ) → Made → ℕ
made_worth v (CopyOf y) = v y
made_worth v (Behind l) = 0

abbrev pub CountsLess : (w v : ℕ → ℕ) → Made → ℕ → Type 0
CountsLess w v x k = w k ≤ made_worth v x

module _ (c d : ℕ → ℕ) (less : (f : ℕ) → d f ≤ c f) (v w : ℕ → ℕ) where
  mutual
    remarked_less : (a : ℕ) (s : Statement) → Numbered (CountsLess w v) a (map CopyOf (marks_of s)) → reached d w (remarked a s) ≤ reached c v s
    remarked_less a (Mark m) h = h.0
    remarked_less a (Seq parts) h = all_remarked_less a parts h
    remarked_less a (If test first other) h =
        let x = remarked_less a first (copies_front (CountsLess w v) a (marks_of first) (marks_of other) h) in
        let y = remarked_less (a + mark_count first) other (copies_back (CountsLess w v) a (marks_of first) (marks_of other) h) in
        omega (arith, x, y)
    remarked_less a (Loop id least most body) h = mul-le-mul_left (most_starts most) (remarked_less a body h)
    remarked_less a (Block body) h = remarked_less a body h
    remarked_less a (Call f values arrays into) h = less f
    remarked_less a (Set x e) h = omega arith
    remarked_less a (Put e) h = omega arith
    remarked_less a (Get x) h = omega arith
    remarked_less a (Keep array i e) h = omega arith
    remarked_less a (Leave depth) h = omega arith
    remarked_less a (Return e) h = omega arith

    all_remarked_less : (a : ℕ) (parts : Statements) → Numbered (CountsLess w v) a (map CopyOf (marks_of_all parts)) → reached_all d w (remarked_all a parts) ≤ reached_all c v parts
    all_remarked_less a End h = omega arith
    all_remarked_less a (Then first rest) h =
        let x = remarked_less a first (copies_front (CountsLess w v) a (marks_of first) (marks_of_all rest) h) in
        let y = all_remarked_less (a + mark_count first) rest (copies_back (CountsLess w v) a (marks_of first) (marks_of_all rest) h) in
        omega (arith, x, y)

  starts_less : (n a : ℕ) (body : Statement) (behind : Statements) → Numbered (CountsLess w v) a (map CopyOf (repeated n (marks_of body))) → reached_all d w (starts n a body behind) ≤ n * reached c v body + reached_all d w behind
  starts_less zero a body behind h = let e : zero * reached c v body ≡ 0 = omega arith in omega (arith, e)
  starts_less (suc n) a body behind h =
      let x = remarked_less a body (copies_front (CountsLess w v) a (marks_of body) (repeated n (marks_of body)) h) in
      let y = starts_less n (a + mark_count body) body behind (copies_back (CountsLess w v) a (marks_of body) (repeated n (marks_of body)) h) in
      let e : suc n * reached c v body ≡ reached c v body + n * reached c v body = omega arith in
      omega (arith, x, y, e)

  ended_less : (a : ℕ) (x : Rolled) → Numbered (CountsLess w v) a (map CopyOf (repeated x.bounds.most (marks_of x.body)) ++ Behind x.id ∷ []) → reached d w (ended a x) ≤ most_starts x.bounds.most * reached c v x.body
  ended_less a x h =
      let last : Statements = Then (Mark (a + x.bounds.most * mark_count x.body)) End in
      let s = starts_less x.bounds.most a x.body last (numbered_front (CountsLess w v) a (map CopyOf (repeated x.bounds.most (marks_of x.body))) (Behind x.id ∷ []) h) in
      let n = (numbered_behind (CountsLess w v) a x.bounds.most (marks_of x.body) (Behind x.id ∷ []) h).0 in
      let m = reach_short x.bounds.most (reached c v x.body) (reached c v x.body) (omega arith) in
      omega (arith, s, n, m)

  turned_less : (k a number : ℕ) (x : Rolled) → 2 ≤ k → k ≤ x.bounds.most → Numbered (CountsLess w v) a (map CopyOf (repeated (first_starts k x) (marks_of x.body)) ++ map CopyOf (repeated k (marks_of x.body))) →
      reached d w (turned k a number x) ≤ most_starts x.bounds.most * reached c v x.body
  turned_less k a number x two le h =
      let r : ℕ = reached c v x.body in
      let m : ℕ = a + first_starts k x * mark_count x.body in
      let inner : Statement = grouped k m x in
      let rolled : Statement = Loop number (split x.bounds k).least (split x.bounds k).most inner in
      let s = starts_less (first_starts k x) a x.body (Then rolled End) (numbered_front (CountsLess w v) a (map CopyOf (repeated (first_starts k x) (marks_of x.body))) (map CopyOf (repeated k (marks_of x.body))) h) in
      let t = starts_less k m x.body End (numbered_behind (CountsLess w v) a (first_starts k x) (marks_of x.body) (map CopyOf (repeated k (marks_of x.body))) h) in
      let u : reached d w inner ≤ k * r = omega (arith, t) in
      let i : most_starts (split x.bounds k).most * reached d w inner ≤ most_starts (split x.bounds k).most * (k * r) = mul-le-mul_left (most_starts (split x.bounds k).most) u in
      let l = reach_long x.bounds.most k r r two le (omega arith) in
      omega (arith, s, i, l)

  module _ (k : ℕ) where
    taken_less : (short : Bool) (z : Place) (x : Rolled) → is_short k x ≡ short → 2 ≤ k → Numbered (CountsLess w v) z.marks (taken k short z x).made → reached d w (taken k short z x).code ≤ most_starts x.bounds.most * reached c v x.body
    taken_less true z x e two h = ended_less z.marks x h
    taken_less false z x e two h = turned_less k z.marks z.loops x two (ltb-false x.bounds.most k e) h

    loop_less : (takes : Bool) (level : ℕ) (z : Place) (x : Rolled) (inner : Became Statement) → is_taken k z.room level x ≡ takes → (Numbered (CountsLess w v) z.marks inner.made → reached d w inner.code ≤ reached c v x.body) →
        Numbered (CountsLess w v) z.marks (at_loop k takes level z x inner).made → reached d w (at_loop k takes level z x inner).code ≤ most_starts x.bounds.most * reached c v x.body
    loop_less true level z x inner e ih h = taken_less (is_short k x) z x refl (taken_twice k z.room level x e) h
    loop_less false level z x inner e ih h = mul-le-mul_left (most_starts x.bounds.most) (ih h)

    mutual
      pub spread_less : (level : ℕ) (z : Place) (s : Statement) → All (λ y. w y ≤ v y) (marks_of s) → Numbered (CountsLess w v) z.marks (spread k level z s).made → reached d w (spread k level z s).code ≤ reached c v s
      spread_less level z (Loop id least most body) own h =
          loop_less (is_taken k z.room level (as_loop id least most body)) level z (as_loop id least most body) (spread k (level + 1) (inside z) body) refl (spread_less (level + 1) (inside z) body own) h
      spread_less level z (Seq parts) own h = spread_all_less (level + 1) z parts own h
      spread_less level z (If test first other) own h =
          let x = spread k (level + 1) z first in
          let y = spread k (level + 1) (after z x) other in
          let a = spread_less (level + 1) z first (All-append_front (λ n. w n ≤ v n) (marks_of first) (marks_of other) own) (numbered_front (CountsLess w v) z.marks x.made y.made h) in
          let b = spread_less (level + 1) (after z x) other (All-append_back (λ n. w n ≤ v n) (marks_of first) (marks_of other) own) (numbered_back (CountsLess w v) z.marks x.made y.made h) in
          omega (arith, a, b)
      spread_less level z (Block body) own h = spread_less (level + 1) z body own h
      spread_less level z (Mark m) own h = own 0 0 (omega arith)
      spread_less level z (Call f values arrays into) own h = less f
      spread_less level z (Set x e) own h = omega arith
      spread_less level z (Put e) own h = omega arith
      spread_less level z (Get x) own h = omega arith
      spread_less level z (Keep array i e) own h = omega arith
      spread_less level z (Leave depth) own h = omega arith
      spread_less level z (Return e) own h = omega arith

      spread_all_less : (level : ℕ) (z : Place) (parts : Statements) → All (λ y. w y ≤ v y) (marks_of_all parts) → Numbered (CountsLess w v) z.marks (spread_all k level z parts).made → reached_all d w (spread_all k level z parts).code ≤ reached_all c v parts
      spread_all_less level z End own h = omega arith
      spread_all_less level z (Then first rest) own h =
          let x = spread k level z first in
          let y = spread_all k level (after z x) rest in
          let a = spread_less level z first (All-append_front (λ n. w n ≤ v n) (marks_of first) (marks_of_all rest) own) (numbered_front (CountsLess w v) z.marks x.made y.made h) in
          let b = spread_all_less level (after z x) rest (All-append_back (λ n. w n ≤ v n) (marks_of first) (marks_of_all rest) own) (numbered_back (CountsLess w v) z.marks x.made y.made h) in
          omega (arith, a, b)
