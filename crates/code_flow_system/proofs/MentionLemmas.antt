-- The mentions of the index at an address add up to what the limits hold there.
use Rattle.std.proofs.Common.{◌≡◌, ◌≢◌, ℕ, suc, ◌+◌, ◌*◌, ◌<◌, ◌⊎◌, inl, inr, ℤ, pos, neg_ℤ, ◌+ℤ◌, ◌-ℤ◌, ◌*ℤ◌, arith, refl, sym, ap, ◌∙◌, subst, List, [], ◌∷◌, ◌++◌, length, All, Bool, true, false, append_assoc, length-append}
use Rattle.std.specs.Prelude.{◌==◌, unsigned_abs, if◌then◌else◌}
use Rattle.std.specs.Ordering.{int_eq}
use Rattle.std.proofs.lemmas.Int.{ints}
use Rattle.std.proofs.lemmas.Bool.{cases_Bool}
use Rattle.std.proofs.lemmas.Bool.Decides.{nat_tests, eqb_tells}
use Rattle.std.proofs.lemmas.List.Elements.{All-head, All-tail, All-cons, All-nil, All-append}
use lib.IntN.{*ℤ-zero}
use Rattle.wcc_base.specs.declared.compare.Compare.TheVariants.{AtMost}
use Rattle.frac128.specs.Terms.{Terms, int_sum_by, coefficient, when_same}
use Rattle.frac128.specs.Sum.{IsSum, address_at}
use Rattle.frac128.proofs.SignedLemmas.{mul-add}
use Rattle.frac128.proofs.TermsLemmas.{int_sum_by-append, coefficient-append, when_same-here, when_same-elsewhere}
use Rattle.code_flow_system.specs.declared.claims.Never.{Never}
use Rattle.code_flow_system.specs.declared.claims.LoopClaim.{LoopClaim}
use Rattle.code_flow_system.specs.declared.claims.FactClaim.{FactClaim}
use Rattle.code_flow_system.specs.declared.index.Mention.{Mention}
use Rattle.code_flow_system.specs.declared.cert.Cert.{Cert}
use Rattle.code_flow_system.specs.Claims.{Claims, AreSums}
use Rattle.code_flow_system.specs.Certificates.{Limit, negated, never_limits, loop_limits, fact_limits, limits, held, size_by}
use Rattle.code_flow_system.specs.Indexes.{mention, never_mentions, pair_mentions, least_mentions, most_mentions, loop_mentions, left_mentions, right_mention, right_mentions, fact_mentions, mentions_of, AreMentions}
use Rattle.code_flow_system.specs.Lookups.{by_at, holding, sizes, HasMultipliers}
use Rattle.code_flow_system.proofs.PermutedSums.{int_sum_by-permutation, size_by-permutation}

-- what mentions say of an address
abbrev noted : List Mention → ℕ → ℤ
noted ms a = int_sum_by (λ m. when_same m.at a m.coefficient) ms

-- at most one mention is at the address
abbrev Elsewhere : ℕ → List Mention → Type 0
Elsewhere a ms = All (λ m. m.at ≢ a) ms

abbrev IsLoneAt : ℕ → List Mention → Type 0
IsLoneAt a [] = Unit {0}
IsLoneAt a (m ∷ ms) = ((m.at ≢ a) × IsLoneAt a ms) ⊎ Elsewhere a ms

lone_elsewhere : (a : ℕ) (ms : List Mention) → Elsewhere a ms → IsLoneAt a ms
lone_elsewhere a [] h = tt
lone_elsewhere a (m ∷ ms) h = inr (All-tail (λ m. m.at ≢ a) m ms h)

lone_left : (a : ℕ) (xs ys : List Mention) → IsLoneAt a xs → Elsewhere a ys → IsLoneAt a (xs ++ ys)
lone_left a [] ys h k = lone_elsewhere a ys k
lone_left a (x ∷ xs) ys (inl h) k = inl (h.0, lone_left a xs ys h.1 k)
lone_left a (x ∷ xs) ys (inr h) k = inr (All-append (λ m. m.at ≢ a) xs ys h k)

lone_right : (a : ℕ) (xs ys : List Mention) → Elsewhere a xs → IsLoneAt a ys → IsLoneAt a (xs ++ ys)
lone_right a [] ys h k = k
lone_right a (x ∷ xs) ys h k = inl (All-head (λ m. m.at ≢ a) x xs h, lone_right a xs ys (All-tail (λ m. m.at ≢ a) x xs h) k)

size_elsewhere : (a : ℕ) (w : ℤ) (ms : List Mention) → Elsewhere a ms → (size_by (λ m. w *ℤ when_same m.at a m.coefficient) ms ≡ 0) × (noted ms a ≡ pos 0)
size_elsewhere a w [] h = (refl, refl)
size_elsewhere a w (m ∷ ms) h =
    let r = size_elsewhere a w ms (All-tail (λ m. m.at ≢ a) m ms h) in
    let n = All-head (λ m. m.at ≢ a) m ms h in
    let e = when_same-elsewhere m.at a m.coefficient (λ s. n (sym s)) in
    let f : unsigned_abs (w *ℤ when_same m.at a m.coefficient) ≡ 0 = ap (λ z. unsigned_abs (w *ℤ z)) e ∙ ap unsigned_abs (*ℤ-zero w) in
    let p = r.0 in let q = r.1 in (omega arith, omega (arith, ints))

-- so their sizes are that of their sum
size_lone : (a : ℕ) (w : ℤ) (ms : List Mention) → IsLoneAt a ms → size_by (λ m. w *ℤ when_same m.at a m.coefficient) ms ≡ unsigned_abs (w *ℤ noted ms a)
size_lone a w [] h = sym (ap unsigned_abs (*ℤ-zero w))
size_lone a w (m ∷ ms) (inl h) =
    let e = when_same-elsewhere m.at a m.coefficient (λ s. h.0 (sym s)) in
    let f : unsigned_abs (w *ℤ when_same m.at a m.coefficient) ≡ 0 = ap (λ z. unsigned_abs (w *ℤ z)) e ∙ ap unsigned_abs (*ℤ-zero w) in
    let r = size_lone a w ms h.1 in
    let s : noted ms a ≡ noted (m ∷ ms) a = omega (arith, ints) in
    let t = ap (λ z. unsigned_abs (w *ℤ z)) s in omega arith
size_lone a w (m ∷ ms) (inr h) =
    let r = size_elsewhere a w ms h in
    let p = r.0 in
    let q = r.1 in
    let s : when_same m.at a m.coefficient ≡ noted (m ∷ ms) a = omega (arith, ints) in
    let t = ap (λ z. unsigned_abs (w *ℤ z)) s in omega arith

-- mentions of one limit
record Describes (n : ℕ) (l : Limit) (ms : List Mention) : Type 0 where
  numbers : All (λ m. m.limit ≡ n) ms
  lone : (a : ℕ) → IsLoneAt a ms
  sums : (a : ℕ) → noted ms a ≡ coefficient l.terms a

-- mentions of limits that are numbered from n on
abbrev DescribesAll : ℕ → List Limit → List Mention → Type 0
DescribesAll n [] ms = ms ≡ []
DescribesAll n (l ∷ ls) ms = (xs : List Mention) × (ys : List Mention) × (ms ≡ xs ++ ys) × Describes n l xs × DescribesAll (n + 1) ls ys

describes-append : (n : ℕ) (ls ks : List Limit) (xs ys : List Mention) → DescribesAll n ls xs → DescribesAll (n + length ls) ks ys → DescribesAll n (ls ++ ks) (xs ++ ys)
describes-append n [] ks xs ys h k =
    let z : n + 0 ≡ n = omega arith in
    let e : ys ≡ xs ++ ys = ap (λ zs. zs ++ ys) (sym h) in
    subst (DescribesAll n ks) e (subst (λ i. DescribesAll i ks ys) z k)
describes-append n (l ∷ ls) ks xs ys (us, vs, e, d, rest) k =
    let s : n + suc (length ls) ≡ n + 1 + length ls = omega arith in
    (us, vs ++ ys, ap (λ zs. zs ++ ys) e ∙ append_assoc us vs ys, d, describes-append (n + 1) ls ks vs ys rest (subst (λ i. DescribesAll i ks ys) s k))

-- what is held, by the mentions

by_at-behind : (pre : List Limit) (l : Limit) (ls : List Limit) → by_at (pre ++ l ∷ ls) (length pre) ≡ l.by
by_at-behind [] l ls = refl
by_at-behind (p ∷ pre) l ls = by_at-behind pre l ls

of_limit : (ls : List Limit) (n a : ℕ) (w : ℤ) (ms : List Mention) → by_at ls n ≡ w → All (λ m. m.limit ≡ n) ms → holding ls ms a ≡ w *ℤ noted ms a
of_limit ls n a w [] e h = sym (*ℤ-zero w)
of_limit ls n a w (m ∷ ms) e h =
    let r = of_limit ls n a w ms e (All-tail (λ m. m.limit ≡ n) m ms h) in
    let b : by_at ls m.limit ≡ w = ap (by_at ls) (All-head (λ m. m.limit ≡ n) m ms h) ∙ e in
    let f = ap (λ z. z *ℤ when_same m.at a m.coefficient) b in
    let g = mul-add w (when_same m.at a m.coefficient) (noted ms a) in omega (arith, ints)

held_by : (pre ls : List Limit) (ms : List Mention) (n a : ℕ) → n ≡ length pre → DescribesAll n ls ms → holding (pre ++ ls) ms a ≡ held ls a
held_by pre [] ms n a e h = ap (λ zs. holding (pre ++ []) zs a) h
held_by pre (l ∷ ls) ms n a e (xs, ys, s, d, rest) =
    let by : by_at (pre ++ l ∷ ls) n ≡ l.by = ap (by_at (pre ++ l ∷ ls)) e ∙ by_at-behind pre l ls in
    let one = of_limit (pre ++ l ∷ ls) n a l.by xs by d.numbers in
    let same = ap (λ z. l.by *ℤ z) (d.sums a) in
    let long : n + 1 ≡ length (pre ++ l ∷ []) = let k = length-append pre (l ∷ []) in omega arith in
    let cut : pre ++ l ∷ ls ≡ (pre ++ l ∷ []) ++ ls = sym (append_assoc pre (l ∷ []) ls) in
    let others : holding (pre ++ l ∷ ls) ys a ≡ held ls a = ap (λ k. holding k ys a) cut ∙ held_by (pre ++ l ∷ []) ls ys (n + 1) a long rest in
    let split = int_sum_by-append (λ (m : Mention). by_at (pre ++ l ∷ ls) m.limit *ℤ when_same m.at a m.coefficient) xs ys in
    let whole = ap (λ zs. holding (pre ++ l ∷ ls) zs a) s in
    omega (arith, ints)

-- and how large that is

sizes_of_limit : (ls : List Limit) (n a : ℕ) (w : ℤ) (ms : List Mention) → by_at ls n ≡ w → All (λ m. m.limit ≡ n) ms → size_by (λ m. by_at ls m.limit *ℤ when_same m.at a m.coefficient) ms ≡ size_by (λ m. w *ℤ when_same m.at a m.coefficient) ms
sizes_of_limit ls n a w [] e h = refl
sizes_of_limit ls n a w (m ∷ ms) e h =
    let r = sizes_of_limit ls n a w ms e (All-tail (λ m. m.limit ≡ n) m ms h) in
    let b : by_at ls m.limit ≡ w = ap (by_at ls) (All-head (λ m. m.limit ≡ n) m ms h) ∙ e in
    let f = ap (λ z. unsigned_abs (z *ℤ when_same m.at a m.coefficient)) b in omega arith

size_by-append : {X : Type 0} (f : X → ℤ) (xs ys : List X) → size_by f (xs ++ ys) ≡ size_by f xs + size_by f ys
size_by-append f [] ys = omega arith
size_by-append f (x ∷ xs) ys = let r = size_by-append f xs ys in omega arith

sized_by : (pre ls : List Limit) (ms : List Mention) (n a : ℕ) → n ≡ length pre → DescribesAll n ls ms → sizes (pre ++ ls) ms a ≡ size_by (λ l. l.by *ℤ coefficient l.terms a) ls
sized_by pre [] ms n a e h = ap (λ zs. sizes (pre ++ []) zs a) h
sized_by pre (l ∷ ls) ms n a e (xs, ys, s, d, rest) =
    let by : by_at (pre ++ l ∷ ls) n ≡ l.by = ap (by_at (pre ++ l ∷ ls)) e ∙ by_at-behind pre l ls in
    let one = sizes_of_limit (pre ++ l ∷ ls) n a l.by xs by d.numbers in
    let two = size_lone a l.by xs (d.lone a) in
    let same = ap (λ z. unsigned_abs (l.by *ℤ z)) (d.sums a) in
    let long : n + 1 ≡ length (pre ++ l ∷ []) = let k = length-append pre (l ∷ []) in omega arith in
    let cut : pre ++ l ∷ ls ≡ (pre ++ l ∷ []) ++ ls = sym (append_assoc pre (l ∷ []) ls) in
    let others : sizes (pre ++ l ∷ ls) ys a ≡ size_by (λ l. l.by *ℤ coefficient l.terms a) ls = ap (λ k. sizes k ys a) cut ∙ sized_by (pre ++ l ∷ []) ls ys (n + 1) a long rest in
    let split = size_by-append (λ (m : Mention). by_at (pre ++ l ∷ ls) m.limit *ℤ when_same m.at a m.coefficient) xs ys in
    let whole = ap (λ zs. sizes (pre ++ l ∷ ls) zs a) s in
    omega arith

-- the limits of claims

nevers_described : (n : ℕ) (cs : List Never) (ws : List ℤ) → length ws ≡ length cs → DescribesAll n (never_limits cs ws) (never_mentions n cs)
nevers_described n [] ws e = refl
nevers_described n (c ∷ cs) [] e = absurd (omega arith)
nevers_described n (c ∷ cs) (w ∷ ws) e =
    (mention c.at n (pos 1) ∷ [], never_mentions (n + 1) cs, refl, record { numbers = All-cons (λ m. m.limit ≡ n) _ [] refl (All-nil _); lone = λ a. inr (All-nil _); sums = λ a. refl }, nevers_described (n + 1) cs ws (omega arith))

pair_described : (n : ℕ) (c : LoopClaim) (w x y : ℤ) → Describes n (record { terms = (c.header, x) ∷ (c.back, y) ∷ []; op = AtMost; by = w }) (pair_mentions n c x y)
pair_described n c w x y = by_place (c.header == c.back) refl
  where
    same : (a b : ℕ) → (a == b) ≡ true → a ≡ b
    same a b e = grind (arith, nat_tests)

    apart : (a b : ℕ) → (a == b) ≡ false → a ≢ b
    apart a b e f = grind (arith, nat_tests)

    added : (h a : ℕ) (x y : ℤ) → when_same h a (x +ℤ y) ≡ when_same h a x +ℤ when_same h a y
    added h a x y = grind (arith, ints)

    by_place : (t : Bool) → (c.header == c.back) ≡ t → Describes n (record { terms = (c.header, x) ∷ (c.back, y) ∷ []; op = AtMost; by = w }) (if t then mention c.header n (x +ℤ y) ∷ [] else mention c.header n x ∷ mention c.back n y ∷ [])
    by_place true e = record {
      numbers = All-cons (λ m. m.limit ≡ n) (mention c.header n (x +ℤ y)) [] refl (All-nil _);
      lone = λ a. inr (All-nil _);
      sums = λ a. let f = added c.header a x y in let g = ap (λ h. when_same h a y) (same c.header c.back e) in omega (arith, ints);
    }
    by_place false e = record {
      numbers = All-cons (λ m. m.limit ≡ n) (mention c.header n x) (mention c.back n y ∷ []) refl (All-cons (λ m. m.limit ≡ n) (mention c.back n y) [] refl (All-nil _));
      lone = λ a. elim (eqb_tells c.header a) [
        | inl h ↦ inr (All-cons (λ m. m.at ≢ a) (mention c.back n y) [] (λ f. apart c.header c.back e (h.1 ∙ sym f)) (All-nil _))
        | inr h ↦ inl (h.1, inr (All-nil _))
      ];
      sums = λ a. refl;
    }

loops_described : (n : ℕ) (cs : List LoopClaim) (ws : List (ℤ × ℤ)) → length ws ≡ length cs → DescribesAll n (loop_limits cs ws) (loop_mentions n cs)
loops_described n [] ws e = refl
loops_described n (c ∷ cs) [] e = absurd (omega arith)
loops_described n (c ∷ cs) (w ∷ ws) e =
    let two : n + 1 + 1 ≡ n + 2 = omega arith in (
      least_mentions n c,
      most_mentions (n + 1) c ++ loop_mentions (n + 2) cs,
      refl,
      pair_described n c w.0 (pos c.min -ℤ pos 1) (neg_ℤ (pos c.min)),
      (most_mentions (n + 1) c, loop_mentions (n + 2) cs, refl, pair_described (n + 1) c w.1 (pos 1 -ℤ pos c.max) (pos c.max), subst (λ k. DescribesAll k (loop_limits cs ws) (loop_mentions (n + 2) cs)) (sym two) (loops_described (n + 2) cs ws (omega arith))),
    )

-- facts: their sums have each address once, and no number 0

abbrev Lacks : Terms → ℕ → Type 0
Lacks ts a = All (λ t. t.0 ≢ a) ts

abbrev AreLone : Terms → Type 0
AreLone [] = Unit {0}
AreLone (t ∷ ts) = Lacks ts t.0 × (t.1 ≢ pos 0) × AreLone ts

lacks_later : (ts : Terms) (a : ℕ) → ((j : ℕ) → j < length ts → address_at ts j ≢ a) → Lacks ts a
lacks_later [] a h = All-nil _
lacks_later (t ∷ ts) a h = All-cons (λ t. t.0 ≢ a) t ts (h 0 (omega arith)) (lacks_later ts a (λ j lt. h (suc j) (omega arith)))

lone_of : (ts : Terms) → IsSum ts → AreLone ts
lone_of [] h = tt
lone_of (t ∷ ts) h = (
  lacks_later ts t.0 (λ j lt e. let k = h.ascending 0 (suc j) (omega arith) (omega arith) in omega arith),
  All-head (λ t. t.1 ≢ pos 0) t ts h.no_zero,
  lone_of ts (record { ascending = λ i j lt below. h.ascending (suc i) (suc j) (omega arith) (omega arith); no_zero = All-tail (λ t. t.1 ≢ pos 0) t ts h.no_zero }),
)

lacks_sum : (f : (ℕ × ℤ) → ℤ) (ts : Terms) (a : ℕ) → Lacks ts a → int_sum_by (λ t. when_same t.0 a (f t)) ts ≡ pos 0
lacks_sum f [] a h = refl
lacks_sum f (t ∷ ts) a h =
    let r = lacks_sum f ts a (All-tail (λ t. t.0 ≢ a) t ts h) in
    let n = All-head (λ t. t.0 ≢ a) t ts h in
    let e = when_same-elsewhere t.0 a (f t) (λ s. n (sym s)) in omega (arith, ints)

-- what the left gives at an address: nothing where it lacks it, and else left less right
abbrev LeftAt : Terms → Terms → ℕ → Type 0
LeftAt left right a = ((coefficient left a ≡ pos 0) × (int_sum_by (λ t. when_same t.0 a (t.1 -ℤ coefficient right t.0)) left ≡ pos 0))
    ⊎ ((coefficient left a ≢ pos 0) × (int_sum_by (λ t. when_same t.0 a (t.1 -ℤ coefficient right t.0)) left ≡ coefficient left a -ℤ coefficient right a))

left_at : (left right : Terms) (a : ℕ) → AreLone left → LeftAt left right a
left_at [] right a h = inl (refl, refl)
left_at (t ∷ ts) right a h = elim (eqb_tells t.0 a) [
  | inl e ↦
      let lacks : Lacks ts a = subst (Lacks ts) e.1 h.0 in
      let c = lacks_sum (λ t. t.1) ts a lacks in
      let s = lacks_sum (λ t. t.1 -ℤ coefficient right t.0) ts a lacks in
      let x : when_same t.0 a t.1 ≡ t.1 = subst (λ b. when_same t.0 b t.1 ≡ t.1) e.1 (when_same-here t.0 t.1) in
      let y : when_same t.0 a (t.1 -ℤ coefficient right t.0) ≡ t.1 -ℤ coefficient right t.0 = subst (λ b. when_same t.0 b (t.1 -ℤ coefficient right t.0) ≡ t.1 -ℤ coefficient right t.0) e.1 (when_same-here t.0 (t.1 -ℤ coefficient right t.0)) in
      let z = ap (coefficient right) e.1 in
      inr ((λ n. h.1 (omega (arith, ints))), omega (arith, ints))
  | inr e ↦
      let x = when_same-elsewhere t.0 a t.1 (λ s. e.1 (sym s)) in
      let y = when_same-elsewhere t.0 a (t.1 -ℤ coefficient right t.0) (λ s. e.1 (sym s)) in
      elim (left_at ts right a h.2) [
        | inl r ↦ let p = r.0 in let q = r.1 in inl (omega (arith, ints), omega (arith, ints))
        | inr r ↦ let q = r.1 in inr ((λ n. r.0 (omega (arith, ints))), omega (arith, ints))
      ]
]

noted-left : (n : ℕ) (right left : Terms) (a : ℕ) → noted (left_mentions n right left) a ≡ int_sum_by (λ t. when_same t.0 a (t.1 -ℤ coefficient right t.0)) left
noted-left n right [] a = refl
noted-left n right (t ∷ ts) a = let r = noted-left n right ts a in omega (arith, ints)

noted-right_mention : (n : ℕ) (left : Terms) (t : ℕ × ℤ) (a : ℕ) (z : Bool) → int_eq (coefficient left a) (pos 0) ≡ z → noted (right_mention n left t) a ≡ (if z then neg_ℤ (when_same t.0 a t.1) else pos 0)
noted-right_mention n left t a z is = elim (eqb_tells t.0 a) [
  | inl e ↦ here (subst (λ b. int_eq (coefficient left b) (pos 0) ≡ z) (sym e.1) is) e.1 z refl
  | inr e ↦ elsewhere (int_eq (coefficient left t.0) (pos 0)) (when_same-elsewhere t.0 a (neg_ℤ t.1) (λ s. e.1 (sym s))) (when_same-elsewhere t.0 a t.1 (λ s. e.1 (sym s))) z
]
  where
    here : int_eq (coefficient left t.0) (pos 0) ≡ z → t.0 ≡ a → (b : Bool) → z ≡ b → noted (right_mention n left t) a ≡ (if z then neg_ℤ (when_same t.0 a t.1) else pos 0)
    here test e true f =
        let x : when_same t.0 a (neg_ℤ t.1) ≡ neg_ℤ t.1 = subst (λ b. when_same t.0 b (neg_ℤ t.1) ≡ neg_ℤ t.1) e (when_same-here t.0 (neg_ℤ t.1)) in
        let y : when_same t.0 a t.1 ≡ t.1 = subst (λ b. when_same t.0 b t.1 ≡ t.1) e (when_same-here t.0 t.1) in
        ap (λ (b : Bool). noted (if b then mention t.0 n (neg_ℤ t.1) ∷ [] else []) a) (test ∙ f)
        ∙ (single x y ∙ ap (λ (b : Bool). if b then neg_ℤ (when_same t.0 a t.1) else pos 0) (sym f))
      where
        single : when_same t.0 a (neg_ℤ t.1) ≡ neg_ℤ t.1 → when_same t.0 a t.1 ≡ t.1 → when_same t.0 a (neg_ℤ t.1) +ℤ pos 0 ≡ neg_ℤ (when_same t.0 a t.1)
        single x y = omega (arith, ints)
    here test e false f = ap (λ (b : Bool). noted (if b then mention t.0 n (neg_ℤ t.1) ∷ [] else []) a) (test ∙ f) ∙ ap (λ (b : Bool). if b then neg_ℤ (when_same t.0 a t.1) else pos 0) (sym f)

    elsewhere : (b : Bool) → when_same t.0 a (neg_ℤ t.1) ≡ pos 0 → when_same t.0 a t.1 ≡ pos 0 → (y : Bool) → noted (if b then mention t.0 n (neg_ℤ t.1) ∷ [] else []) a ≡ (if y then neg_ℤ (when_same t.0 a t.1) else pos 0)
    elsewhere true e f true = omega (arith, ints)
    elsewhere true e f false = omega (arith, ints)
    elsewhere false e f true = omega (arith, ints)
    elsewhere false e f false = refl

noted-right : (n : ℕ) (left right : Terms) (a : ℕ) (z : Bool) → int_eq (coefficient left a) (pos 0) ≡ z → noted (right_mentions n left right) a ≡ (if z then neg_ℤ (coefficient right a) else pos 0)
noted-right n left [] a true is = refl
noted-right n left [] a false is = refl
noted-right n left (t ∷ ts) a true is =
    let r = noted-right n left ts a true is in
    let e = noted-right_mention n left t a true is in
    let s = int_sum_by-append (λ (m : Mention). when_same m.at a m.coefficient) (right_mention n left t) (right_mentions n left ts) in omega (arith, ints)
noted-right n left (t ∷ ts) a false is =
    let r = noted-right n left ts a false is in
    let e = noted-right_mention n left t a false is in
    let s = int_sum_by-append (λ (m : Mention). when_same m.at a m.coefficient) (right_mention n left t) (right_mentions n left ts) in omega (arith, ints)

coefficient-negated : (ts : Terms) (a : ℕ) → coefficient (negated ts) a ≡ neg_ℤ (coefficient ts a)
coefficient-negated [] a = refl
coefficient-negated (t ∷ ts) a = let r = coefficient-negated ts a in let e = negates t.0 a t.1 in omega (arith, ints)
  where
    negates : (h a : ℕ) (n : ℤ) → when_same h a (neg_ℤ n) ≡ neg_ℤ (when_same h a n)
    negates h a n = grind (arith, ints)

zero_test : (z : ℤ) → z ≡ pos 0 → int_eq z (pos 0) ≡ true
zero_test z e = ap (λ x. int_eq x (pos 0)) e

other_test : (z : ℤ) → z ≢ pos 0 → int_eq z (pos 0) ≡ false
other_test z h = grind (arith, ints)

zero_of : (z : ℤ) → int_eq z (pos 0) ≡ true → z ≡ pos 0
zero_of z h = grind (arith, ints)

left_numbers : (n : ℕ) (right left : Terms) → All (λ m. m.limit ≡ n) (left_mentions n right left)
left_numbers n right [] = All-nil _
left_numbers n right (t ∷ ts) = All-cons (λ m. m.limit ≡ n) _ (left_mentions n right ts) refl (left_numbers n right ts)

right_number : (n : ℕ) (left : Terms) (t : ℕ × ℤ) → All (λ m. m.limit ≡ n) (right_mention n left t)
right_number n left t = by_test (int_eq (coefficient left t.0) (pos 0))
  where
    by_test : (b : Bool) → All (λ m. m.limit ≡ n) (if b then mention t.0 n (neg_ℤ t.1) ∷ [] else [])
    by_test true = All-cons (λ m. m.limit ≡ n) _ [] refl (All-nil _)
    by_test false = All-nil _

right_numbers : (n : ℕ) (left right : Terms) → All (λ m. m.limit ≡ n) (right_mentions n left right)
right_numbers n left [] = All-nil _
right_numbers n left (t ∷ ts) = All-append (λ m. m.limit ≡ n) (right_mention n left t) (right_mentions n left ts) (right_number n left t) (right_numbers n left ts)

-- no address is mentioned twice

lacks_of_zero : (ts : Terms) (a : ℕ) → AreLone ts → coefficient ts a ≡ pos 0 → Lacks ts a
lacks_of_zero [] a h e = All-nil _
lacks_of_zero (t ∷ ts) a h e = elim (eqb_tells t.0 a) [
  | inl s ↦ absurd (h.1 (
      let lacks : Lacks ts a = subst (Lacks ts) s.1 h.0 in
      let c = lacks_sum (λ t. t.1) ts a lacks in
      let x : when_same t.0 a t.1 ≡ t.1 = subst (λ b. when_same t.0 b t.1 ≡ t.1) s.1 (when_same-here t.0 t.1) in omega (arith, ints)))
  | inr s ↦
      let x = when_same-elsewhere t.0 a t.1 (λ f. s.1 (sym f)) in
      All-cons (λ t. t.0 ≢ a) t ts s.1 (lacks_of_zero ts a h.2 (omega (arith, ints)))
]

left_elsewhere : (n : ℕ) (right left : Terms) (a : ℕ) → Lacks left a → Elsewhere a (left_mentions n right left)
left_elsewhere n right [] a h = All-nil _
left_elsewhere n right (t ∷ ts) a h = All-cons (λ m. m.at ≢ a) _ (left_mentions n right ts) (All-head (λ t. t.0 ≢ a) t ts h) (left_elsewhere n right ts a (All-tail (λ t. t.0 ≢ a) t ts h))

left_lone : (n : ℕ) (right left : Terms) (a : ℕ) → AreLone left → IsLoneAt a (left_mentions n right left)
left_lone n right [] a h = tt
left_lone n right (t ∷ ts) a h = elim (eqb_tells t.0 a) [
  | inl e ↦ inr (left_elsewhere n right ts a (subst (Lacks ts) e.1 h.0))
  | inr e ↦ inl (e.1, left_lone n right ts a h.2)
]

one_elsewhere : (n : ℕ) (left : Terms) (t : ℕ × ℤ) (a : ℕ) → t.0 ≢ a → Elsewhere a (right_mention n left t)
one_elsewhere n left t a h = by_test (int_eq (coefficient left t.0) (pos 0))
  where
    by_test : (b : Bool) → Elsewhere a (if b then mention t.0 n (neg_ℤ t.1) ∷ [] else [])
    by_test true = All-cons (λ m. m.at ≢ a) _ [] h (All-nil _)
    by_test false = All-nil _

right_elsewhere : (n : ℕ) (left right : Terms) (a : ℕ) → int_eq (coefficient left a) (pos 0) ≡ false → Elsewhere a (right_mentions n left right)
right_elsewhere n left [] a h = All-nil _
right_elsewhere n left (t ∷ ts) a h = All-append (λ m. m.at ≢ a) (right_mention n left t) (right_mentions n left ts)
    (elim (eqb_tells t.0 a) [ inl e ↦ none (int_eq (coefficient left t.0) (pos 0)) (subst (λ b. int_eq (coefficient left b) (pos 0) ≡ false) (sym e.1) h) | inr e ↦ one_elsewhere n left t a e.1 ])
    (right_elsewhere n left ts a h)
  where
    none : (b : Bool) → b ≡ false → Elsewhere a (if b then mention t.0 n (neg_ℤ t.1) ∷ [] else [])
    none true e = cc
    none false e = All-nil _

right_lacks : (n : ℕ) (left right : Terms) (a : ℕ) → Lacks right a → Elsewhere a (right_mentions n left right)
right_lacks n left [] a h = All-nil _
right_lacks n left (t ∷ ts) a h = All-append (λ m. m.at ≢ a) (right_mention n left t) (right_mentions n left ts) (one_elsewhere n left t a (All-head (λ t. t.0 ≢ a) t ts h)) (right_lacks n left ts a (All-tail (λ t. t.0 ≢ a) t ts h))

one_lone : (n : ℕ) (left : Terms) (t : ℕ × ℤ) (a : ℕ) → IsLoneAt a (right_mention n left t)
one_lone n left t a = by_test (int_eq (coefficient left t.0) (pos 0))
  where
    by_test : (b : Bool) → IsLoneAt a (if b then mention t.0 n (neg_ℤ t.1) ∷ [] else [])
    by_test true = inr (All-nil _)
    by_test false = tt

right_lone : (n : ℕ) (left right : Terms) (a : ℕ) → AreLone right → IsLoneAt a (right_mentions n left right)
right_lone n left [] a h = tt
right_lone n left (t ∷ ts) a h = elim (eqb_tells t.0 a) [
  | inl e ↦ lone_left a (right_mention n left t) (right_mentions n left ts) (one_lone n left t a) (right_lacks n left ts a (subst (Lacks ts) e.1 h.0))
  | inr e ↦ lone_right a (right_mention n left t) (right_mentions n left ts) (one_elsewhere n left t a e.1) (right_lone n left ts a h.2)
]

fact_described : (n : ℕ) (c : FactClaim) (w : ℤ) → AreSums c → Describes n (record { terms = c.left ++ negated c.right; op = c.op; by = w }) (left_mentions n c.right c.left ++ right_mentions n c.left c.right)
fact_described n c w h = record {
  numbers = All-append (λ m. m.limit ≡ n) (left_mentions n c.right c.left) (right_mentions n c.left c.right) (left_numbers n c.right c.left) (right_numbers n c.left c.right);
  lone = λ a. elim (cases_Bool (int_eq (coefficient c.left a) (pos 0))) [
    | inl z ↦ lone_right a (left_mentions n c.right c.left) (right_mentions n c.left c.right) (left_elsewhere n c.right c.left a (lacks_of_zero c.left a (lone_of c.left h.left) (zero_of (coefficient c.left a) z))) (right_lone n c.left c.right a (lone_of c.right h.right))
    | inr z ↦ lone_left a (left_mentions n c.right c.left) (right_mentions n c.left c.right) (left_lone n c.right c.left a (lone_of c.left h.left)) (right_elsewhere n c.left c.right a z)
  ];
  sums = λ a.
      let split = int_sum_by-append (λ (m : Mention). when_same m.at a m.coefficient) (left_mentions n c.right c.left) (right_mentions n c.left c.right) in
      let l = noted-left n c.right c.left a in
      let both = coefficient-append c.left (negated c.right) a in
      let neg = coefficient-negated c.right a in
      elim (left_at c.left c.right a (lone_of c.left h.left)) [
        | inl k ↦ let p = k.0 in let q = k.1 in let r = noted-right n c.left c.right a true (zero_test (coefficient c.left a) k.0) in omega (arith, ints)
        | inr k ↦ let q = k.1 in let r = noted-right n c.left c.right a false (other_test (coefficient c.left a) k.0) in omega (arith, ints)
      ];
}

facts_described : (n : ℕ) (cs : List FactClaim) (ws : List ℤ) → length ws ≡ length cs → All AreSums cs → DescribesAll n (fact_limits cs ws) (fact_mentions n cs)
facts_described n [] ws e h = refl
facts_described n (c ∷ cs) [] e h = absurd (omega arith)
facts_described n (c ∷ cs) (w ∷ ws) e h = (
  left_mentions n c.right c.left ++ right_mentions n c.left c.right,
  fact_mentions (n + 1) cs,
  sym (append_assoc (left_mentions n c.right c.left) (right_mentions n c.left c.right) (fact_mentions (n + 1) cs)),
  fact_described n c w (All-head AreSums c cs h),
  facts_described (n + 1) cs ws (omega arith) (All-tail AreSums c cs h),
)

length-nevers : (cs : List Never) (ws : List ℤ) → length ws ≡ length cs → length (never_limits cs ws) ≡ length cs
length-nevers [] ws e = refl
length-nevers (c ∷ cs) [] e = absurd (omega arith)
length-nevers (c ∷ cs) (w ∷ ws) e = let r = length-nevers cs ws (omega arith) in omega arith

length-loops : (cs : List LoopClaim) (ws : List (ℤ × ℤ)) → length ws ≡ length cs → length (loop_limits cs ws) ≡ 2 * length cs
length-loops [] ws e = refl
length-loops (c ∷ cs) [] e = absurd (omega arith)
length-loops (c ∷ cs) (w ∷ ws) e = let r = length-loops cs ws (omega arith) in omega arith

all_described : (claims : Claims) (c : Cert) → HasMultipliers claims c → All AreSums claims.facts → DescribesAll 0 (limits claims c) (mentions_of claims)
all_described claims c h sums =
    let n = length-nevers claims.nevers c.nevers h.nevers in
    let l = length-loops claims.loops c.loops h.loops in
    let nevers = nevers_described 0 claims.nevers c.nevers h.nevers in
    let zero : 0 + length (never_limits claims.nevers c.nevers) ≡ length claims.nevers = omega arith in
    let next : length claims.nevers + length (loop_limits claims.loops c.loops) ≡ length claims.nevers + 2 * length claims.loops = omega arith in
    let loops = loops_described (length claims.nevers) claims.loops c.loops h.loops in
    let facts = facts_described (length claims.nevers + 2 * length claims.loops) claims.facts c.facts h.facts sums in
    let later = describes-append (length claims.nevers) (loop_limits claims.loops c.loops) (fact_limits claims.facts c.facts) (loop_mentions (length claims.nevers) claims.loops) (fact_mentions (length claims.nevers + 2 * length claims.loops) claims.facts) loops
    (subst (λ k. DescribesAll k (fact_limits claims.facts c.facts) (fact_mentions (length claims.nevers + 2 * length claims.loops) claims.facts)) (sym next) facts) in
    describes-append 0 (never_limits claims.nevers c.nevers) (loop_limits claims.loops c.loops ++ fact_limits claims.facts c.facts) (never_mentions 0 claims.nevers) (loop_mentions (length claims.nevers) claims.loops ++ fact_mentions (length claims.nevers + 2 * length claims.loops) claims.facts) nevers
    (subst (λ k. DescribesAll k (loop_limits claims.loops c.loops ++ fact_limits claims.facts c.facts) (loop_mentions (length claims.nevers) claims.loops ++ fact_mentions (length claims.nevers + 2 * length claims.loops) claims.facts)) (sym zero) later)

pub holding_is : (claims : Claims) (c : Cert) (index : List Mention) (a : ℕ) → HasMultipliers claims c → All AreSums claims.facts → AreMentions claims index → holding (limits claims c) index a ≡ held (limits claims c) a
holding_is claims c index a h sums are =
    int_sum_by-permutation (λ (m : Mention). by_at (limits claims c) m.limit *ℤ when_same m.at a m.coefficient) (mentions_of claims) index are.all
    ∙ held_by [] (limits claims c) (mentions_of claims) 0 a refl (all_described claims c h sums)

pub sizes_are : (claims : Claims) (c : Cert) (index : List Mention) (a : ℕ) → HasMultipliers claims c → All AreSums claims.facts → AreMentions claims index → sizes (limits claims c) index a ≡ size_by (λ l. l.by *ℤ coefficient l.terms a) (limits claims c)
sizes_are claims c index a h sums are =
    size_by-permutation (λ (m : Mention). by_at (limits claims c) m.limit *ℤ when_same m.at a m.coefficient) (mentions_of claims) index are.all
    ∙ sized_by [] (limits claims c) (mentions_of claims) 0 a refl (all_described claims c h sums)
