-- A factor of 1 changes nothing.
use Rattle.std.proofs.Common.{◌≡◌, ℕ, zero, suc, ◌+◌, List, [], ◌∷◌, ◌++◌, length, map, refl, sym, ap, ◌∙◌, subst, arith, length-append}
use Rattle.std.specs.List.{range_with_len}
use Rattle.high_ir.specs.Standing.{Bounded, loops_of, loops_of_all}
use Rattle.high_ir.specs.Tree.{Statement, Set, Put, Get, Keep, Mark, Seq, If, Loop, Block, Leave, Call, Return, Statements, End, Then}
use Rattle.high_parts.proofs.Numbers.{number_of}
use Rattle.high_unrolled.specs.Unrolling.{Place, Became, after, inside, spread, spread_all}

-- loops that are numbered from a number on
abbrev pub AreNumbered : ℕ → List Bounded → Type 0
AreNumbered from [] = Unit {0}
AreNumbered from (l ∷ ls) = (l.id ≡ from) × AreNumbered (from + 1) ls

pub numbered_loops_front : (from : ℕ) (xs ys : List Bounded) → AreNumbered from (xs ++ ys) → AreNumbered from xs
numbered_loops_front from [] ys h = tt
numbered_loops_front from (x ∷ xs) ys h = (h.0, numbered_loops_front (from + 1) xs ys h.1)

pub numbered_loops_back : (from : ℕ) (xs ys : List Bounded) → AreNumbered from (xs ++ ys) → AreNumbered (from + length xs) ys
numbered_loops_back from [] ys h = let e : from ≡ from + 0 = omega arith in subst (λ n. AreNumbered n ys) e h
numbered_loops_back from (x ∷ xs) ys h =
    let e : from + 1 + length xs ≡ from + suc (length xs) = omega arith in
    subst (λ n. AreNumbered n ys) e (numbered_loops_back (from + 1) xs ys h.1)

abbrev first_or : ℕ → List ℕ → ℕ
first_or d [] = d
first_or d (x ∷ xs) = x

abbrev behind_first : List ℕ → List ℕ
behind_first [] = []
behind_first (x ∷ xs) = xs

none_more : (x : ℕ) (xs : List ℕ) → x ∷ xs ≡ [] → ⊥
none_more x xs e = cc e

pub numbered_range : (from n : ℕ) (ls : List Bounded) → map number_of ls ≡ range_with_len from n → AreNumbered from ls
numbered_range from n [] e = tt
numbered_range from zero (l ∷ ls) e = absurd (none_more l.id (map number_of ls) e)
numbered_range from (suc n) (l ∷ ls) e = (ap (first_or from) e, numbered_range (from + 1) n ls (ap behind_first e))

-- what is the same afterwards
pub record Unchanged (A : Type 0) (ls : List Bounded) (old : A) (r : Became A) : Type 0 where
  pub same_code : r.code ≡ old
  pub none_made : r.made ≡ []
  pub as_many : r.loops ≡ length ls

mutual
  pub one_leaves : (level : ℕ) (z : Place) (s : Statement) → AreNumbered z.loops (loops_of s) → Unchanged Statement (loops_of s) s (spread 1 level z s)
  one_leaves level z (Loop id least most body) h =
      let i = one_leaves (level + 1) (inside z) body h.1 in
      record {
        same_code = ap (λ b. Loop z.loops least most b) i.same_code ∙ ap (λ n. Loop n least most body) (sym h.0);
        none_made = i.none_made;
        as_many = ap suc i.as_many;
      }
  one_leaves level z (Seq parts) h = let i = all_unchanged (level + 1) z parts h in record { same_code = ap Seq i.same_code; none_made = i.none_made; as_many = i.as_many }
  one_leaves level z (If test first other) h =
      let x = spread 1 (level + 1) z first in
      let y = spread 1 (level + 1) (after z x) other in
      let i = one_leaves (level + 1) z first (numbered_loops_front z.loops (loops_of first) (loops_of other) h) in
      let j = one_leaves (level + 1) (after z x) other (subst (λ n. AreNumbered (z.loops + n) (loops_of other)) (sym i.as_many) (numbered_loops_back z.loops (loops_of first) (loops_of other) h)) in
      record {
        same_code = ap (λ a. If test a y.code) i.same_code ∙ ap (If test first) j.same_code;
        none_made = ap (λ l. l ++ y.made) i.none_made ∙ j.none_made;
        as_many = ap (λ n. n + y.loops) i.as_many ∙ ap (λ n. length (loops_of first) + n) j.as_many ∙ sym (length-append (loops_of first) (loops_of other));
      }
  one_leaves level z (Block body) h = let i = one_leaves (level + 1) z body h in record { same_code = ap Block i.same_code; none_made = i.none_made; as_many = i.as_many }
  one_leaves level z (Set x e) h = record { same_code = refl; none_made = refl; as_many = refl }
  one_leaves level z (Put e) h = record { same_code = refl; none_made = refl; as_many = refl }
  one_leaves level z (Get x) h = record { same_code = refl; none_made = refl; as_many = refl }
  one_leaves level z (Keep array i e) h = record { same_code = refl; none_made = refl; as_many = refl }
  one_leaves level z (Mark m) h = record { same_code = refl; none_made = refl; as_many = refl }
  one_leaves level z (Leave d) h = record { same_code = refl; none_made = refl; as_many = refl }
  one_leaves level z (Call f values arrays into) h = record { same_code = refl; none_made = refl; as_many = refl }
  one_leaves level z (Return e) h = record { same_code = refl; none_made = refl; as_many = refl }

  all_unchanged : (level : ℕ) (z : Place) (parts : Statements) → AreNumbered z.loops (loops_of_all parts) → Unchanged Statements (loops_of_all parts) parts (spread_all 1 level z parts)
  all_unchanged level z End h = record { same_code = refl; none_made = refl; as_many = refl }
  all_unchanged level z (Then first rest) h =
      let x = spread 1 level z first in
      let y = spread_all 1 level (after z x) rest in
      let i = one_leaves level z first (numbered_loops_front z.loops (loops_of first) (loops_of_all rest) h) in
      let j = all_unchanged level (after z x) rest (subst (λ n. AreNumbered (z.loops + n) (loops_of_all rest)) (sym i.as_many) (numbered_loops_back z.loops (loops_of first) (loops_of_all rest) h)) in
      record {
        same_code = ap (λ a. Then a y.code) i.same_code ∙ ap (Then first) j.same_code;
        none_made = ap (λ l. l ++ y.made) i.none_made ∙ j.none_made;
        as_many = ap (λ n. n + y.loops) i.as_many ∙ ap (λ n. length (loops_of first) + n) j.as_many ∙ sym (length-append (loops_of first) (loops_of_all rest));
      }
