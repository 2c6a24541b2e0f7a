-- The functions that begin at or before an object.
use Rattle.std.proofs.Common.{◌≡◌, ℕ, suc, ◌+◌, ◌<◌, ◌≤◌, List, [], ◌∷◌, ◌++◌, length, drop, get_or, map, refl, sym, ap, ◌∙◌, arith, append_assoc}
use Rattle.std.proofs.lemmas.List.{drop-drop, drop_more}
use Rattle.std.specs.List.{prefix_len}
use Rattle.std.specs.Prelude.{Bool, true, false, nat_le, ◌==◌, if◌then◌else◌}
use Rattle.types_tree.specs.View.{function_of}
use Rattle.types_tree.specs.declared.external.Function.{Function}
use Rattle.types_tree.specs.declared.variable.Variable.{Variable}
use Rattle.plan_definition.specs.declared.home.Home.{Home}
use Rattle.plan_definition.specs.Layouts.{Next, ahead, begun, firsts_of, home_by, homes_from, next_by}

abbrev pub firsts : List Function → List ℕ
firsts fs = firsts_of (map function_of fs)

-- how many begin at or before this object
abbrev pub begins : List Function → ℕ → ℕ
begins fs number = prefix_len (λ f. nat_le f.first.0 number) fs

ahead_drop : (fs : List Function) (number : ℕ) → firsts (drop (begins fs number) fs) ≡ ahead (firsts fs) number
ahead_drop [] number = refl
ahead_drop (f ∷ rest) number = by_test (ahead_drop rest number) (nat_le f.first.0 number)
  where
    by_test : firsts (drop (begins rest number) rest) ≡ ahead (firsts rest) number → (here : Bool) → firsts (drop (if here then 1 + begins rest number else 0) (f ∷ rest)) ≡ (if here then ahead (firsts rest) number else firsts (f ∷ rest))
    by_test same true = let one : 1 + begins rest number ≡ suc (begins rest number) = omega arith in ap (λ k. firsts (drop k (f ∷ rest))) one ∙ same
    by_test same false = refl

-- what is ahead is never longer
ahead_shorter : (firsts : List ℕ) (number : ℕ) → length (ahead firsts number) ≤ length firsts
ahead_shorter [] number = omega arith
ahead_shorter (first ∷ rest) number = by_test (ahead_shorter rest number) (nat_le first number)
  where
    by_test : length (ahead rest number) ≤ length rest → (here : Bool) → length (if here then ahead rest number else first ∷ rest) ≤ length (first ∷ rest)
    by_test shorter true = omega (arith, shorter)
    by_test shorter false = omega arith

none_begins : (fs : List Function) (number : ℕ) → (length (ahead (firsts fs) number) == length (firsts fs)) ≡ (begins fs number == 0)
none_begins [] number = refl
none_begins (f ∷ rest) number = by_test (nat_le f.first.0 number)
  where
    shorter : length (ahead (firsts rest) number) ≤ length (firsts rest)
    shorter = ahead_shorter (firsts rest) number

    by_test : (here : Bool) → (length (if here then ahead (firsts rest) number else firsts (f ∷ rest)) == length (firsts (f ∷ rest))) ≡ ((if here then 1 + begins rest number else 0) == 0)
    by_test true = grind (arith, shorter)
    by_test false = grind arith

-- the home of one object more
pub one_home : (fs : List Function) (vs : List Variable) (from i number passed : ℕ) (v : Variable) (next here after : Next) (home : Home) (before : List Home) →
    i < length vs → v ≡ get_or vs i v → number ≡ i → passed ≡ begins (drop from fs) number → here ≡ begun (passed == 0) next → home ≡ home_by v.duration v.extent v here → after ≡ next_by v.duration v.extent here →
    (before ++ home ∷ []) ++ homes_from (firsts (drop (from + passed) fs)) (drop (i + 1) vs) (i + 1) after ≡ before ++ homes_from (firsts (drop from fs)) (drop i vs) i next
one_home fs vs from i number passed v next here after home before lt is same count begin living behind =
    append_assoc before (home ∷ []) (homes_from (firsts (drop (from + passed) fs)) (drop (i + 1) vs) (i + 1) after)
    ∙ ap (λ xs. before ++ xs) (made ∙ sym (ap (λ xs. homes_from left xs i next) (drop_more vs i v lt ∙ ap (λ x. x ∷ drop (i + 1) vs) (sym is))))
  where
    left : List ℕ
    left = firsts (drop from fs)

    rest : List Variable
    rest = drop (i + 1) vs

    passes : passed ≡ begins (drop from fs) i
    passes = count ∙ ap (begins (drop from fs)) same

    ahead_left : firsts (drop (from + passed) fs) ≡ ahead left i
    ahead_left = ap firsts (sym (drop-drop passed from fs)) ∙ ap (λ n. firsts (drop n (drop from fs))) passes ∙ ahead_drop (drop from fs) i

    begun_left : here ≡ begun (length (ahead left i) == length left) next
    begun_left = begin ∙ ap (λ n. begun (n == 0) next) passes ∙ ap (λ b. begun b next) (sym (none_begins (drop from fs) i))

    made : home ∷ homes_from (firsts (drop (from + passed) fs)) rest (i + 1) after ≡ homes_from left (v ∷ rest) i next
    made =
        ap (λ h. h ∷ homes_from (firsts (drop (from + passed) fs)) rest (i + 1) after) living
        ∙ ap (λ n. home_by v.duration v.extent v here ∷ homes_from (firsts (drop (from + passed) fs)) rest (i + 1) n) behind
        ∙ ap (λ f. home_by v.duration v.extent v here ∷ homes_from f rest (i + 1) (next_by v.duration v.extent here)) ahead_left
        ∙ ap (λ h. home_by v.duration v.extent v h ∷ homes_from (ahead left i) rest (i + 1) (next_by v.duration v.extent h)) begun_left
