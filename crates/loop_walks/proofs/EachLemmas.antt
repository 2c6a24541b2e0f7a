-- What is said of each step of a list, and of parts of the list.
use Rattle.std.proofs.Common.{◌≡◌, ℕ, zero, suc, ◌+◌, ◌-◌, ◌≤◌, arith, refl, sym, ap, ◌∙◌, subst, List, [], ◌∷◌, take, drop}
use Rattle.loop_walks.specs.declared.step.Step.{Step}
use Rattle.loop_walks.specs.Walks.{between}
use Rattle.loop_walks.specs.Rows.{IsStep, NotBefore, AreSteps, Each}

pub each_map : (P Q : Step → Type 0) (ms : List Step) → ((m : Step) → P m → Q m) → Each P ms → Each Q ms
each_map P Q [] f h = tt
each_map P Q (m ∷ ms) f h = (f m h.0, each_map P Q ms f h.1)

pub each_both : (P Q R : Step → Type 0) (ms : List Step) → ((m : Step) → P m → Q m → R m) → Each P ms → Each Q ms → Each R ms
each_both P Q R [] f h k = tt
each_both P Q R (m ∷ ms) f h k = (f m h.0 k.0, each_both P Q R ms f h.1 k.1)

pub each_take : (P : Step → Type 0) (k : ℕ) (ms : List Step) → Each P ms → Each P (take k ms)
each_take P zero ms h = tt
each_take P (suc k) [] h = tt
each_take P (suc k) (m ∷ ms) h = (h.0, each_take P k ms h.1)

pub each_drop : (P : Step → Type 0) (k : ℕ) (ms : List Step) → Each P ms → Each P (drop k ms)
each_drop P zero ms h = h
each_drop P (suc k) [] h = tt
each_drop P (suc k) (m ∷ ms) h = each_drop P k ms h.1

pub each_join : (P : Step → Type 0) (k : ℕ) (ms : List Step) → Each P (take k ms) → Each P (drop k ms) → Each P ms
each_join P zero ms h i = i
each_join P (suc k) [] h i = tt
each_join P (suc k) (m ∷ ms) h i = (h.0, each_join P k ms h.1 i)

pub each_between : (P : Step → Type 0) (from to : ℕ) (ms : List Step) → Each P ms → Each P (between from to ms)
each_between P from to ms h = each_take P (to - from) (drop from ms) (each_drop P from ms h)

drop_drop : (j k : ℕ) (ms : List Step) → drop j (drop k ms) ≡ drop (k + j) ms
drop_drop j zero ms = let e : 0 + j ≡ j = omega arith in rw e refl
drop_drop j (suc k) [] = let e : suc k + j ≡ suc (k + j) = omega arith in rw e (none j)
  where
    none : (j : ℕ) → drop {A = Step} j [] ≡ []
    none zero = refl
    none (suc j) = refl
drop_drop j (suc k) (m ∷ ms) = let e : suc k + j ≡ suc (k + j) = omega arith in rw e (drop_drop j k ms)

-- two parts side by side
pub each_beside : (P : Step → Type 0) (from mid to : ℕ) (ms : List Step) → from ≤ mid → mid ≤ to → Each P (between from mid ms) → Each P (between mid to ms) → Each P (between from to ms)
each_beside P from mid to ms h k a b = join (mid - from) (to - from) (drop from ms) (omega arith) a
    (subst (λ n. Each P (take n (drop (mid - from) (drop from ms)))) e (subst (λ ks. Each P (take (to - mid) ks)) (sym d) b))
  where
    e : to - mid ≡ (to - from) - (mid - from)
    e = omega arith

    d : drop (mid - from) (drop from ms) ≡ drop mid ms
    d = let f : from + (mid - from) ≡ mid = omega arith in drop_drop (mid - from) from ms ∙ ap (λ n. drop n ms) f

    join : (j k : ℕ) (ms : List Step) → j ≤ k → Each P (take j ms) → Each P (take (k - j) (drop j ms)) → Each P (take k ms)
    join zero k ms h a b = let f : k - 0 ≡ k = omega arith in subst (λ n. Each P (take n ms)) f b
    join (suc j) zero ms h a b = tt
    join (suc j) (suc k) [] h a b = tt
    join (suc j) (suc k) (m ∷ ms) h a b = let f : suc k - suc j ≡ k - j = omega arith in (a.0, join j k ms (omega arith) a.1 (subst (λ n. Each P (take n (drop j ms))) f b))

-- and apart
pub each_apart : (P : Step → Type 0) (from mid to : ℕ) (ms : List Step) → from ≤ mid → mid ≤ to → Each P (between from to ms) → Each P (between from mid ms) × Each P (between mid to ms)
each_apart P from mid to ms h k a =
    let s = split (mid - from) (to - from) (drop from ms) (omega arith) a in
    (s.0, subst (λ ks. Each P (take (to - mid) ks)) d (subst (λ n. Each P (take n (drop (mid - from) (drop from ms)))) e s.1))
  where
    e : (to - from) - (mid - from) ≡ to - mid
    e = omega arith

    d : drop (mid - from) (drop from ms) ≡ drop mid ms
    d = let f : from + (mid - from) ≡ mid = omega arith in drop_drop (mid - from) from ms ∙ ap (λ n. drop n ms) f

    split : (j k : ℕ) (ms : List Step) → j ≤ k → Each P (take k ms) → Each P (take j ms) × Each P (take (k - j) (drop j ms))
    split zero k ms h a = let f : k ≡ k - 0 = omega arith in (tt, subst (λ n. Each P (take n ms)) f a)
    split (suc j) zero ms h a = absurd (omega arith)
    split (suc j) (suc k) [] h a = (tt, each_take P (suc k - suc j) [] tt)
    split (suc j) (suc k) (m ∷ ms) h a = let f : k - j ≡ suc k - suc j = omega arith in let r = split j k ms (omega arith) a.1 in ((a.0, r.0), subst (λ n. Each P (take n (drop j ms))) f r.1)

-- a list before a part, the part, and the list behind it
pub each_whole : (P : Step → Type 0) (from to : ℕ) (ms : List Step) → from ≤ to → Each P (take from ms) → Each P (between from to ms) → Each P (drop to ms) → Each P ms
each_whole P from to ms h a b c = each_join P from ms a (each_join P (to - from) (drop from ms) b (subst (λ ks. Each P ks) (sym d) c))
  where
    d : drop (to - from) (drop from ms) ≡ drop to ms
    d = let f : from + (to - from) ≡ to = omega arith in drop_drop (to - from) from ms ∙ ap (λ n. drop n ms) f

-- parts of steps are steps

take_not_before : (a k : ℕ) (ms : List Step) → NotBefore a ms → NotBefore a (take k ms)
take_not_before a zero ms h = tt
take_not_before a (suc k) [] h = tt
take_not_before a (suc k) (m ∷ ms) h = (h.0, take_not_before a k ms h.1)

take_steps : (n k : ℕ) (ms : List Step) → AreSteps n ms → AreSteps n (take k ms)
take_steps n zero ms h = tt
take_steps n (suc k) [] h = tt
take_steps n (suc k) (m ∷ ms) h = (h.0, take_not_before m.at k ms h.1, take_steps n k ms h.2)

drop_steps : (n k : ℕ) (ms : List Step) → AreSteps n ms → AreSteps n (drop k ms)
drop_steps n zero ms h = h
drop_steps n (suc k) [] h = tt
drop_steps n (suc k) (m ∷ ms) h = drop_steps n k ms h.2

pub between_steps : (n from to : ℕ) (ms : List Step) → AreSteps n ms → AreSteps n (between from to ms)
between_steps n from to ms h = take_steps n (to - from) (drop from ms) (drop_steps n from ms h)

pub steps_are : (n : ℕ) (ms : List Step) → AreSteps n ms → Each (IsStep n) ms
steps_are n [] h = tt
steps_are n (m ∷ ms) h = (h.0, steps_are n ms h.2)
