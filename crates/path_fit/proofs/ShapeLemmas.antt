-- Loops that fit a system, by the tests that find them.
use Rattle.std.proofs.Common.{◌≡◌, ℕ, zero, suc, ◌+◌, ◌-◌, ◌<◌, ◌≤◌, ltb, inl, inr, arith, refl, sym, ap, ◌∙◌, subst, List, [], ◌∷◌, ◌++◌, length, get_or, All, Bool, true, false, ◌⊎◌, Option, Some, None, add-one}
use Rattle.std.specs.Prelude.{◌&&◌, ◌||◌, ◌==◌, nat_le, not, Contains, filter}
use Rattle.std.specs.List.{Any}
use Rattle.std.specs.List.Sorted.{IsPartitionPoint, IsNonDecreasingBy}
use Rattle.std.specs.Option.{option_to_list}
use Rattle.std.proofs.lemmas.Bool.Decides.{nat_tests, eqb_tells}
use Rattle.std.proofs.lemmas.List.{get_or_default}
use Rattle.std.proofs.lemmas.List.Elements.{All-head, All-tail, All-cons, All-nil, All-append, All-weaker, All-contains, Contains-append_left, Contains-append_right}
use Rattle.std.proofs.lemmas.List.Sorted.{All-permutation, Contains-permutation}
use Rattle.code_flow_system.specs.declared.shapes.LoopShape.{LoopShape}
use Rattle.code_flow_system.specs.declared.claims.LoopClaim.{LoopClaim}
use Rattle.code_flow_system.specs.declared.moves.Move.{Move}
use Rattle.code_flow_system.specs.declared.index.Arrival.{Arrival}
use Rattle.code_flow_system.specs.Claims.{Claims, is_above, is_aligned, exit_flaws, never_flaws, region_flaws, loop_flaws, AreSound}
use Rattle.code_flow_system.specs.Moves.{destinations}
use Rattle.code_flow_system.specs.Systems.{System, IsSystem}
use Rattle.code_flow_system.specs.Indexes.{arrivals_by, arrivals_from, AreArrivals}
use Rattle.code_flow_system.specs.Shapes.{AreShapesOf, IsInLoop, IsLoop, EntersAtHeader, onward, onward_by, is_back, GoesUp}
use Rattle.path_fit.specs.Loops.{lies_in, goes_alone, arrives_in, EntersBy, HeadersAscend, IsBackOf, GoesBackTo, HeadsOwnLoop}
use Rattle.path_fit.specs.Nests.{IsFilled}
use Rattle.code_flow_lookup.specs.Runs.{those_at}
use Rattle.path_fit.proofs.PartLemmas.{filter_from, from_filter, those_from, from_those}

-- shapes and claims

abbrev pub AreAlikeUpTo : ℕ → List LoopClaim → List LoopShape → Type 0
AreAlikeUpTo n cs ls = (k : ℕ) (d : LoopClaim) (e : LoopShape) → k < n → ((get_or ls k e).header ≡ (get_or cs k d).header) × ((get_or ls k e).back ≡ (get_or cs k d).back)

pub shapes_from : (cs : List LoopClaim) (ls : List LoopShape) → length cs ≡ length ls → AreAlikeUpTo (length cs) cs ls → AreShapesOf cs ls
shapes_from [] [] e h = tt
shapes_from [] (l ∷ ls) e h = absurd (omega (arith, e))
shapes_from (c ∷ cs) [] e h = absurd (omega (arith, e))
shapes_from (c ∷ cs) (l ∷ ls) e h = let s = h zero c l (omega arith) in (s.0, s.1, shapes_from cs ls (omega (arith, e)) (λ k d f lt. h (suc k) d f (omega arith)))

pub shapes_long : (cs : List LoopClaim) (ls : List LoopShape) → AreShapesOf cs ls → length cs ≡ length ls
shapes_long [] [] h = refl
shapes_long [] (l ∷ ls) h = absurd h
shapes_long (c ∷ cs) [] h = absurd h
shapes_long (c ∷ cs) (l ∷ ls) h = let r = shapes_long cs ls h.2 in omega (arith, r)

pub from_shapes : (cs : List LoopClaim) (ls : List LoopShape) → AreShapesOf cs ls → AreAlikeUpTo (length cs) cs ls
from_shapes [] ls h k d e lt = absurd (omega arith)
from_shapes (c ∷ cs) [] h k d e lt = absurd h
from_shapes (c ∷ cs) (l ∷ ls) h zero d e lt = (h.0, h.1)
from_shapes (c ∷ cs) (l ∷ ls) h (suc k) d e lt = from_shapes cs ls h.2 k d e (omega arith)

and_parts : (p q : Bool) → (p && q) ≡ true → (p ≡ true) × (q ≡ true)
and_parts true q e = (refl, e)
and_parts false q e = cc

both : (p q : Bool) → p ≡ true → q ≡ true → (p && q) ≡ true
both true q e f = f
both false q e f = cc

pub is_eq : (a b : ℕ) → (a == b) ≡ true → a ≡ b
is_eq a b e = grind (arith, nat_tests)

pub eq_is : (a b : ℕ) → a ≡ b → (a == b) ≡ true
eq_is a b h = grind (arith, nat_tests)

is_le : (a b : ℕ) → nat_le a b ≡ true → a ≤ b
is_le a b e = grind (arith, nat_tests)

le_is : (a b : ℕ) → a ≤ b → nat_le a b ≡ true
le_is a b h = grind (arith, nat_tests)

pub alike_one : (a b c d : ℕ) → ((a == b) && (c == d)) ≡ true → (a ≡ b) × (c ≡ d)
alike_one a b c d e = let p = and_parts (a == b) (c == d) e in (is_eq a b p.0, is_eq c d p.1)

pub one_alike : (a b c d : ℕ) → a ≡ b → c ≡ d → ((a == b) && (c == d)) ≡ true
one_alike a b c d e f = both (a == b) (c == d) (eq_is a b e) (eq_is c d f)

-- a range as a test

pub in_loop : (l : LoopShape) (a : ℕ) → lies_in l a ≡ true → IsInLoop l a
in_loop l a e = let p = and_parts (nat_le l.first a) (nat_le a l.last) e in record { from = is_le l.first a p.0; to = is_le a l.last p.1 }

pub loop_in : (l : LoopShape) (a : ℕ) → IsInLoop l a → lies_in l a ≡ true
loop_in l a h = both (nat_le l.first a) (nat_le a l.last) (le_is l.first a h.from) (le_is a l.last h.to)

-- a loop's back jump

no_two : {X : Type 0} (x y z : X) → x ∷ y ∷ [] ≡ z ∷ [] → ⊥
no_two x y z e = differ 0 (ap (λ xs. length xs) e)
  where
    differ : (n : ℕ) → suc (suc n) ≡ suc n → ⊥
    differ n h = absurd (omega (arith, h))

pub alone_goes : (m : Move) (h : ℕ) → goes_alone m.to m.behind h ≡ true → destinations m ≡ h ∷ []
alone_goes m h e = by_parts m.to m.behind e
  where
    by_parts : (to back : Option ℕ) → goes_alone to back h ≡ true → option_to_list to ++ option_to_list back ≡ h ∷ []
    by_parts None None e = cc
    by_parts None (Some b) e = ap (λ n. n ∷ []) (is_eq b h e)
    by_parts (Some t) None e = ap (λ n. n ∷ []) (is_eq t h e)
    by_parts (Some t) (Some b) e = cc

abbrev first_of : List ℕ → ℕ → ℕ
first_of [] d = d
first_of (x ∷ xs) d = x

pub goes_is_alone : (m : Move) (h : ℕ) → destinations m ≡ h ∷ [] → goes_alone m.to m.behind h ≡ true
goes_is_alone m h e = by_parts m.to m.behind e
  where
    by_parts : (to back : Option ℕ) → option_to_list to ++ option_to_list back ≡ h ∷ [] → goes_alone to back h ≡ true
    by_parts None None e = cc
    by_parts None (Some b) e = eq_is b h (ap (λ xs. first_of xs b) e)
    by_parts (Some t) None e = eq_is t h (ap (λ xs. first_of xs t) e)
    by_parts (Some t) (Some b) e = absurd (no_two t b h e)

-- arrivals

by_contains : (place : ℕ) (ds : List ℕ) (n d : ℕ) → n < length ds → Contains (arrivals_by place ds) (record { to = get_or ds n d; place = place })
by_contains place [] n d lt = absurd (omega arith)
by_contains place (a ∷ ds) zero d lt = (0, omega arith, refl)
by_contains place (a ∷ ds) (suc n) d lt = let r = by_contains place ds n d (omega arith) in let l = r.1 in (suc r.0, omega arith, r.2)

from_contains : (ms : List Move) (place k n d : ℕ) (m : Move) → k < length ms → m ≡ get_or ms k m → n < length (destinations m)
    → Contains (arrivals_from place ms) (record { to = get_or (destinations m) n d; place = place + k })
from_contains [] place k n d m lt e long = absurd (omega arith)
from_contains (x ∷ ms) place zero n d m lt e long =
    Contains-append_left (arrivals_by place (destinations x)) (arrivals_from (place + 1) ms) _
    (subst (λ y. Contains (arrivals_by place (destinations x)) (record { to = get_or (destinations y) n d; place = place + 0 })) (sym e)
    (subst (λ p. Contains (arrivals_by place (destinations x)) (record { to = get_or (destinations x) n d; place = p })) (same place) (by_contains place (destinations x) n d (subst (λ y. n < length (destinations y)) e long))))
  where
    same : (p : ℕ) → p ≡ p + 0
    same p = omega arith
from_contains (x ∷ ms) place (suc k) n d m lt e long =
    Contains-append_right (arrivals_by place (destinations x)) (arrivals_from (place + 1) ms) _
    (subst (λ p. Contains (arrivals_from (place + 1) ms) (record { to = get_or (destinations m) n d; place = p })) (same place k) (from_contains ms (place + 1) k n d m (omega arith) e long))
  where
    same : (p k : ℕ) → p + 1 + k ≡ p + suc k
    same p k = omega arith

-- the arrival is that of a move of the list, which begins at a place
pub record IsOfMoves (place : ℕ) (ms : List Move) (r : Arrival) : Type 0 where
  pub from : place ≤ r.place
  pub below : r.place < place + length ms
  pub goes : (d : Move) → Contains (destinations (get_or ms (r.place - place) d)) r.to

by_of : (place : ℕ) (m : Move) (ms : List Move) (ds : List ℕ) → ((a : ℕ) → Contains ds a → Contains (destinations m) a) → All (IsOfMoves place (m ∷ ms)) (arrivals_by place ds)
by_of place m ms [] h = All-nil _
by_of place m ms (a ∷ ds) h =
    All-cons (IsOfMoves place (m ∷ ms)) (record { to = a; place = place }) (arrivals_by place ds)
    (record { from = omega arith; below = omega arith; goes = λ d. subst (λ n. Contains (destinations (get_or (m ∷ ms) n d)) a) (none place) (h a (0, omega arith, refl)) })
    (by_of place m ms ds (λ b c. let l = c.1 in h b (suc c.0, omega arith, c.2)))
  where
    none : (p : ℕ) → 0 ≡ p - p
    none p = omega arith

later : (place : ℕ) (m : Move) (ms : List Move) (r : Arrival) → IsOfMoves (place + 1) ms r → IsOfMoves place (m ∷ ms) r
later place m ms r h =
    let f = h.from in
    let b = h.below in
    record { from = omega arith; below = omega arith; goes = λ d. subst (λ n. Contains (destinations (get_or (m ∷ ms) n d)) r.to) (further r.place place f) (h.goes d) }
  where
    further : (a p : ℕ) → p + 1 ≤ a → suc (a - (p + 1)) ≡ a - p
    further a p h = omega arith

pub from_of : (place : ℕ) (ms : List Move) → All (IsOfMoves place ms) (arrivals_from place ms)
from_of place [] = All-nil _
from_of place (m ∷ ms) =
    All-append (IsOfMoves place (m ∷ ms)) (arrivals_by place (destinations m)) (arrivals_from (place + 1) ms)
    (by_of place m ms (destinations m) (λ a c. c))
    (All-weaker (IsOfMoves (place + 1) ms) (IsOfMoves place (m ∷ ms)) (λ r h. later place m ms r h) (arrivals_from (place + 1) ms) (from_of (place + 1) ms))

pub arrivals_of : (ms : List Move) (rs : List Arrival) → AreArrivals ms rs → All (IsOfMoves 0 ms) rs
arrivals_of ms rs h = All-permutation (IsOfMoves 0 ms) (arrivals_from 0 ms) rs h.all (from_of 0 ms)

-- each arrival is that of a move of the list
pub place_below : (ms : List Move) (rs : List Arrival) (test : Arrival → Bool) → AreArrivals ms rs → All (λ r. r.place < length ms) (filter test rs)
place_below ms rs test h = filter_from test (λ r. r.place < length ms) rs (All-weaker (IsOfMoves 0 ms) (λ r. test r ≡ true → r.place < length ms) (λ r o e. let b = o.below in omega arith) rs (arrivals_of ms rs h))

pub enters_from : (l : LoopShape) (ms : List Move) (rs : List Arrival) → AreArrivals ms rs → All (EntersBy l ms) (filter (arrives_in l.first l.last) rs) → All (EntersAtHeader l) ms
enters_from l ms rs h all k d lt out n e' long within =
    let c = from_contains ms 0 k n e' (get_or ms k d) lt (get_or_default ms k d (get_or ms k d) lt) long in
    let e : 0 + k ≡ k = omega arith in
    let r = Contains-permutation (arrivals_from 0 ms) rs (record { to = get_or (destinations (get_or ms k d)) n e'; place = k }) h.all (subst (λ (p : ℕ). Contains (arrivals_from 0 ms) (record { to = get_or (destinations (get_or ms k d)) n e'; place = p })) e c) in
    let b = All-contains (λ r. arrives_in l.first l.last r ≡ true → EntersBy l ms r) rs (record { to = get_or (destinations (get_or ms k d)) n e'; place = k }) (from_filter (arrives_in l.first l.last) (EntersBy l ms) rs all) r (loop_in l (get_or (destinations (get_or ms k d)) n e') within) in
    b d out

pub enters_by : (l : LoopShape) (ms : List Move) (rs : List Arrival) → AreArrivals ms rs → All (EntersAtHeader l) ms → All (EntersBy l ms) (filter (arrives_in l.first l.last) rs)
enters_by l ms rs h all =
    filter_from (arrives_in l.first l.last) (EntersBy l ms) rs
    (All-weaker (IsOfMoves 0 ms) (λ r. arrives_in l.first l.last r ≡ true → EntersBy l ms r)
    (λ r o e d out. All-contains (λ a. IsInLoop l a → a ≡ l.header) (destinations (get_or ms r.place d)) r.to (all r.place d (let b = o.below in omega arith) out) (subst (λ n. Contains (destinations (get_or ms n d)) r.to) (whole r.place) (o.goes d)) (in_loop l r.to e)) rs (arrivals_of ms rs h))
  where
    whole : (n : ℕ) → n - 0 ≡ n
    whole n = omega arith

-- headers ascend

append_right : {X : Type 0} (P : X → Type 0) (xs ys : List X) → All P (xs ++ ys) → All P ys
append_right P [] ys h = h
append_right P (x ∷ xs) ys h = append_right P xs ys (All-tail P x (xs ++ ys) h)

append_left : {X : Type 0} (P : X → Type 0) (xs ys : List X) → All P (xs ++ ys) → All P xs
append_left P [] ys h = All-nil P
append_left P (x ∷ xs) ys h = All-cons P x xs (All-head P x (xs ++ ys) h) (append_left P xs ys (All-tail P x (xs ++ ys) h))

not_false : (p : Bool) → not p ≡ false → p ≡ true
not_false true e = refl
not_false false e = cc

abbrev IsAbove : Option ℕ → ℕ → Type 0
IsAbove None a = Unit {0}
IsAbove (Some b) a = b < a

above : (o : Option ℕ) (a : ℕ) → is_above o a ≡ true → IsAbove o a
above None a e = tt
above (Some b) a e = is_lt b a e
  where
    is_lt : (a b : ℕ) → ltb a b ≡ true → a < b
    is_lt a b e = grind (arith, nat_tests)

-- each header is above the one before it
abbrev Ascend : Option ℕ → List LoopClaim → Type 0
Ascend o [] = Unit {0}
Ascend o (c ∷ cs) = IsAbove o c.header × Ascend (Some c.header) cs

claims_ascend : (o : Option ℕ) (cs : List LoopClaim) → All (λ flaw. flaw ≡ false) (loop_flaws o cs) → Ascend o cs
claims_ascend o [] h = tt
claims_ascend o (c ∷ cs) h =
    let f = not_false (is_aligned c.header && (is_aligned c.back && is_above o c.header)) (All-head (λ flaw. flaw ≡ false) (not (is_aligned c.header && (is_aligned c.back && is_above o c.header))) (loop_flaws (Some c.header) cs) h) in
    let p = and_parts (is_aligned c.header) (is_aligned c.back && is_above o c.header) f in
    let q = and_parts (is_aligned c.back) (is_above o c.header) p.1 in
    (above o c.header q.1, claims_ascend (Some c.header) cs (All-tail (λ flaw. flaw ≡ false) (not (is_aligned c.header && (is_aligned c.back && is_above o c.header))) (loop_flaws (Some c.header) cs) h))

sound_ascend : (c : Claims) → AreSound c → Ascend None c.loops
sound_ascend c sound =
    let a = append_right (λ flaw. flaw ≡ false) (exit_flaws None c.exits) _ sound in
    let b = append_right (λ flaw. flaw ≡ false) (never_flaws None c.nevers) _ a in
    let d = append_right (λ flaw. flaw ≡ false) (region_flaws None c.regions) _ b in
    claims_ascend None c.loops (append_left (λ flaw. flaw ≡ false) (loop_flaws None c.loops) _ d)

ascend_at : (o : Option ℕ) (cs : List LoopClaim) (ls : List LoopShape) → Ascend o cs → AreShapesOf cs ls → (k : ℕ) (d : LoopShape) → suc k < length ls → (get_or ls k d).header < (get_or ls (suc k) d).header
ascend_at o [] [] h s k d lt = absurd (omega arith)
ascend_at o [] (l ∷ ls) h s k d lt = absurd s
ascend_at o (c ∷ cs) [] h s k d lt = absurd s
ascend_at o (c ∷ []) (l ∷ []) h s k d lt = absurd (omega arith)
ascend_at o (c ∷ []) (l ∷ (m ∷ ls)) h s k d lt = absurd s.2
ascend_at o (c ∷ (e ∷ cs)) (l ∷ []) h s k d lt = absurd s.2
ascend_at o (c ∷ (e ∷ cs)) (l ∷ (m ∷ ls)) h s zero d lt = let a = h.1.0 in omega (arith, s.0, s.2.0)
ascend_at o (c ∷ (e ∷ cs)) (l ∷ (m ∷ ls)) h s (suc k) d lt = ascend_at (Some c.header) (e ∷ cs) (m ∷ ls) h.1 s.2 k d (omega arith)

pub headers_ascend : (s : System) (ls : List LoopShape) → IsSystem s → AreShapesOf s.claims.loops ls → HeadersAscend ls
headers_ascend s ls is shapes k d lt =
    subst (λ (n : ℕ). (get_or ls k d).header < (get_or ls n d).header) (sym (add-one k)) (ascend_at None s.claims.loops ls (sound_ascend s.claims is.sound) shapes k d (omega arith))

headers_rise : (ls : List LoopShape) → HeadersAscend ls → (i j : ℕ) (d : LoopShape) → i < j → j < length ls → (get_or ls i d).header < (get_or ls j d).header
headers_rise ls h i zero d lt long = absurd (omega arith)
headers_rise ls h i (suc j) d lt long = elim (eqb_tells i j) [
  | inl e ↦ let s = ap (λ (n : ℕ). (get_or ls n d).header) e.1 in let t = next_rises in omega arith
  | inr e ↦ let n = e.1 in let r = headers_rise ls h i j d (omega arith) (omega arith) in let t = next_rises in omega arith
]
  where
    next_rises : (get_or ls j d).header < (get_or ls (suc j) d).header
    next_rises = subst (λ (n : ℕ). (get_or ls j d).header < (get_or ls n d).header) (add-one j) (h j d (omega arith))

pub headers_order : (ls : List LoopShape) → HeadersAscend ls → IsNonDecreasingBy (λ l. l.header) ls
headers_order ls h i j d le long = elim (eqb_tells i j) [
  | inl e ↦ let s = ap (λ (n : ℕ). (get_or ls n d).header) e.1 in omega arith
  | inr e ↦ let n = e.1 in let r = headers_rise ls h i j d (omega arith) long in omega arith
]

ltb_lt : (a b : ℕ) → ltb a b ≡ true → a < b
ltb_lt a b h = grind (arith, nat_tests)

ltb_le : (a b : ℕ) → ltb a b ≡ false → b ≤ a
ltb_le a b h = grind (arith, nat_tests)

-- a header that is found nowhere but there
pub found_only : (ls : List LoopShape) (header a p : ℕ) → HeadersAscend ls → p ≤ length ls → IsPartitionPoint (λ l. ltb l.header header ≡ true) (λ l. ltb l.header header ≡ false) ls p
    → Any (IsBackOf header a) ls → (p < length ls) × ((d : LoopShape) → IsBackOf header a (get_or ls p d))
found_only ls header a p up most point (k, l, lt, is, back) = by_order (order k p)
  where
    order : (k p : ℕ) → (k < p) ⊎ ((k ≡ p) ⊎ (p < k))
    order k p = grind arith

    at_k : (get_or ls k l).header ≡ header
    at_k = ap (λ l. l.header) is ∙ back.0

    by_order : (k < p) ⊎ ((k ≡ p) ⊎ (p < k)) → (p < length ls) × ((d : LoopShape) → IsBackOf header a (get_or ls p d))
    by_order (inl before) = let f = ltb_lt _ _ (point.0 k l (omega arith) before) in let e = at_k in absurd (omega arith)
    by_order (inr (inl same)) = (omega (arith, same), λ d. subst (λ (n : ℕ). IsBackOf header a (get_or ls n d)) same (subst (IsBackOf header a) (sym is ∙ get_or_default ls k l d lt) back))
    by_order (inr (inr after)) =
        let f = ltb_le _ _ (point.1 p l (omega arith) (omega arith)) in
        let g = headers_rise ls up p k l after lt in let e = at_k in absurd (omega arith)

pub found_here : (ls : List LoopShape) (header a p : ℕ) (d : LoopShape) → p < length ls → (get_or ls p d).header ≡ header → (get_or ls p d).back ≡ a → Any (IsBackOf header a) ls
found_here ls header a p d lt e f = (p, get_or ls p d, lt, get_or_default ls p (get_or ls p d) d lt, (e, f))

-- a header that is an address is the one found there
pub heads_own : (ls : List LoopShape) (a p : ℕ) → HeadersAscend ls → p ≤ length ls → IsPartitionPoint (λ l. ltb l.header a ≡ true) (λ l. ltb l.header a ≡ false) ls p
    → (p < length ls → (d : LoopShape) → (get_or ls p d).header ≡ a → (get_or ls p d).back ≡ a) → HeadsOwnLoop ls a
heads_own ls a p up most point own k d lt e =
    let f = found_only ls a (get_or ls k d).back p up most point (k, get_or ls k d, lt, get_or_default ls k (get_or ls k d) d lt, (e, refl)) in
    let g = f.1 d in sym g.1 ∙ own f.0 d g.0

-- back jumps

pub is_back-any : (ls : List LoopShape) (header a : ℕ) → Any (IsBackOf header a) ls → is_back ls a ≡ true
is_back-any [] header a (k, l, lt, is, back) = absurd (omega arith)
is_back-any (x ∷ ls) header a (zero, l, lt, is, back) = left (x.back == a) (is_back ls a) (eq_is x.back a (ap (λ l. l.back) is ∙ back.1))
  where
    left : (p q : Bool) → p ≡ true → (p || q) ≡ true
    left true q e = refl
    left false q e = cc
is_back-any (x ∷ ls) header a (suc k, l, lt, is, back) = right (x.back == a) (is_back ls a) (is_back-any ls header a (k, l, omega arith, is, back))
  where
    right : (p q : Bool) → q ≡ true → (p || q) ≡ true
    right true q e = refl
    right false q e = e

-- the loop of which the address is the back jump
back_of : (ls : List LoopShape) (a : ℕ) → is_back ls a ≡ true → (k : ℕ) × (k < length ls) × ((d : LoopShape) → (get_or ls k d).back ≡ a)
back_of [] a e = cc
back_of (l ∷ ls) a e = by_test (back_of ls a) (l.back == a) refl e
  where
    by_test : (is_back ls a ≡ true → (k : ℕ) × (k < length ls) × ((d : LoopShape) → (get_or ls k d).back ≡ a)) → (b : Bool) → (l.back == a) ≡ b → (b || is_back ls a) ≡ true → (k : ℕ) × (k < length (l ∷ ls)) × ((d : LoopShape) → (get_or (l ∷ ls) k d).back ≡ a)
    by_test rest true f e = (0, omega arith, λ d. is_eq l.back a f)
    by_test rest false f e = let r = rest e in let lt = r.1 in (suc r.0, omega arith, r.2)

onward_alone : (m : Move) (h : ℕ) → destinations m ≡ h ∷ [] → onward m ≡ h ∷ []
onward_alone m h e = by_parts m.to m.behind e
  where
    by_parts : (to back : Option ℕ) → option_to_list to ++ option_to_list back ≡ h ∷ [] → onward_by to back ≡ h ∷ []
    by_parts None None e = e
    by_parts None (Some b) e = e
    by_parts (Some t) None e = e
    by_parts (Some t) (Some b) e = absurd (no_two t b h e)

-- a move that doesn't go to a higher address
pub up_by : (ls : List LoopShape) (m : Move) (to : ℕ) → Any (IsBackOf to m.at) ls → GoesUp ls m
up_by ls m to h none = let f : true ≡ false = sym (is_back-any ls to m.at h) ∙ none in cc

bool_cases : (b : Bool) → (b ≡ true) ⊎ (b ≡ false)
bool_cases true = inl refl
bool_cases false = inr refl

pub by_up : (ls : List LoopShape) (m : Move) (to : ℕ) → GoesBackTo ls m → to ∷ [] ≡ onward m → to ≤ m.at → GoesUp ls m → Any (IsBackOf to m.at) ls
by_up ls m to back goes down up = by_test (bool_cases (is_back ls m.at))
  where
    by_test : (is_back ls m.at ≡ true) ⊎ (is_back ls m.at ≡ false) → Any (IsBackOf to m.at) ls
    by_test (inl e) =
        let k = back_of ls m.at e in
        let d : LoopShape = record { header = 0; back = 0; parent = None; first = 0; last = 0 } in
        let o = onward_alone m (get_or ls k.0 d).header (back k.0 d k.1 (sym (k.2 d))) in
        found_here ls to m.at k.0 d k.1 (ap (λ xs. first_of xs 0) (sym (goes ∙ o))) (k.2 d)
    by_test (inr e) = let lt = All-head (λ a. m.at < a) to [] (subst (All (λ a. m.at < a)) (sym goes) (up e)) in absurd (omega arith)

pub goes_back_to : (s : System) (ls : List LoopShape) (k : ℕ) (m : Move) → All (IsLoop s) ls → k < length s.moves → m ≡ get_or s.moves k m → GoesBackTo ls m
goes_back_to s ls k m h lt is i d long at_back =
    subst (λ (x : Move). destinations x ≡ (get_or ls i d).header ∷ []) (sym is) ((h i d long).goes_back k m lt (ap (λ (x : Move). x.at) (sym is) ∙ at_back))

-- a range that holds its header is filled
pub filled : (l : LoopShape) → IsInLoop l l.header → IsFilled l
filled l h = let f = h.from in let t = h.to in omega arith

-- what the code reads, by the lists that calls gave it

pub back_goes : (ms ms' steps : List Move) (b h : ℕ) → ms' ≡ ms → steps ≡ those_at (λ m. m.at) b ms' → All (λ m. m.at ≡ b → destinations m ≡ h ∷ []) ms → All (λ m. goes_alone m.to m.behind h ≡ true) steps
back_goes ms ms' steps b h e f all =
    subst (λ xs. All (λ m. goes_alone m.to m.behind h ≡ true) xs) (sym (f ∙ ap (λ xs. those_at (λ m. m.at) b xs) e))
    (All-weaker (λ m. destinations m ≡ h ∷ []) (λ m. goes_alone m.to m.behind h ≡ true) (λ m g. goes_is_alone m h g) (those_at (λ m. m.at) b ms) (those_from (λ m. m.at) b (λ m. destinations m ≡ h ∷ []) ms all))

pub goes_from : (ms ms' steps : List Move) (b h : ℕ) → ms' ≡ ms → steps ≡ those_at (λ m. m.at) b ms' → All (λ m. goes_alone m.to m.behind h ≡ true) steps → All (λ m. m.at ≡ b → destinations m ≡ h ∷ []) ms
goes_from ms ms' steps b h e f all =
    let k = subst (λ xs. All (λ m. goes_alone m.to m.behind h ≡ true) xs) (f ∙ ap (λ xs. those_at (λ m. m.at) b xs) e) all in
    from_those (λ m. m.at) b (λ m. destinations m ≡ h ∷ []) ms
    (All-weaker (λ m. goes_alone m.to m.behind h ≡ true) (λ m. destinations m ≡ h ∷ []) (λ m g. alone_goes m h g) (those_at (λ m. m.at) b ms) k)

pub there_below : (l : LoopShape) (ms ms' : List Move) (rs there : List Arrival) → ms' ≡ ms → there ≡ filter (arrives_in l.first l.last) rs → AreArrivals ms rs → All (λ r. r.place < length ms') there
there_below l ms ms' rs there e f h =
    subst (λ xs. All (λ r. r.place < length xs) there) (sym e)
    (subst (λ xs. All (λ r. r.place < length ms) xs) (sym f) (place_below ms rs (arrives_in l.first l.last) h))

pub there_enters : (l : LoopShape) (ms ms' : List Move) (rs there : List Arrival) → ms' ≡ ms → there ≡ filter (arrives_in l.first l.last) rs → AreArrivals ms rs → All (EntersAtHeader l) ms → All (EntersBy l ms') there
there_enters l ms ms' rs there e f h all =
    subst (λ xs. All (EntersBy l xs) there) (sym e) (subst (λ xs. All (EntersBy l ms) xs) (sym f) (enters_by l ms rs h all))

pub enters_there : (l : LoopShape) (ms ms' : List Move) (rs there : List Arrival) → ms' ≡ ms → there ≡ filter (arrives_in l.first l.last) rs → AreArrivals ms rs → All (EntersBy l ms') there → All (EntersAtHeader l) ms
enters_there l ms ms' rs there e f h all =
    enters_from l ms rs h (subst (λ xs. All (EntersBy l ms) xs) f (subst (λ xs. All (EntersBy l xs) there) e all))
