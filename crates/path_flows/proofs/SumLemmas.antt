-- Sums of the amounts of moves: what a function adds to them.
use Rattle.std.proofs.Common.{◌≡◌, ℕ, zero, suc, ◌+◌, ◌^◌, ◌<◌, ℤ, pos, ◌*ℤ◌, ◌<ℤ◌, arith, refl, sym, ap, ◌∙◌, subst, List, [], ◌∷◌, ◌++◌, length, Contains, All, inl, inr, Bool, true, false, cond, Option, Some, None}
use Rattle.std.specs.Prelude.{◌==◌, slice_set}
use Rattle.std.specs.Option.{option_to_list}
use Rattle.std.proofs.lemmas.Int.{ints}
use Rattle.std.proofs.lemmas.Bool.Decides.{eqb_tells}
use Rattle.std.proofs.lemmas.List.Elements.{All-cons, All-nil}
use Rattle.std.proofs.Math.ListN.{length-set}
use Rattle.frac128.specs.Terms.{coefficient}
use Rattle.frac128.proofs.TermsLemmas.{coefficient-append}
use Rattle.code_flow_system.specs.declared.moves.Move.{Move}
use Rattle.code_flow_system.specs.Moves.{destinations}
use Rattle.code_flow_system.specs.Counts.{Amounts, amount, each_with, arrivals, count}
use Rattle.code_flow_system.specs.Shapes.{onward_by, onward}
use Rattle.loop_walks.specs.declared.step.Step.{Step}
use Rattle.loop_flows.specs.Passes.{amount_at, departed, arrived}
use Rattle.loop_flows.specs.Flows.{Turning, backs_from, backs_to}
use Rattle.loop_flows.proofs.SpreadLemmas.{set_at, set_other}
use Rattle.path_places.specs.Places.{place_of, on_place, step_of, steps_of}
use Rattle.path_flows.specs.Flows.{counted, turned_back, call_starts, called}

-- of all moves that pass a test
abbrev pub sum_if : (Move → Bool) → List Move → List ℕ → ℕ
sum_if t [] us = 0
sum_if t (m ∷ ms) [] = 0
sum_if t (m ∷ ms) (u ∷ us) = cond (t m) u 0 + sum_if t ms us

-- of the counts of those that are walked
abbrev pub walked_if : (Move → Bool) → (ℕ → Bool) → List Move → List ℕ → ℕ
walked_if t walked [] cs = 0
walked_if t walked (m ∷ ms) [] = 0
walked_if t walked (m ∷ ms) (c ∷ cs) = cond (walked m.at) (cond (t m) c 0 + walked_if t walked ms cs) (walked_if t walked ms (c ∷ cs))

abbrev pub backs_if : (Turning → Bool) → List Turning → List ℕ → ℕ
backs_if t [] bs = 0
backs_if t (x ∷ ts) [] = 0
backs_if t (x ∷ ts) (b ∷ bs) = cond (t x) b 0 + backs_if t ts bs

-- the moves that begin at an address, go on to it, and call it

abbrev pub begins_at : ℕ → Move → Bool
begins_at a m = m.at == a

abbrev pub is_first : List ℕ → ℕ → Bool
is_first [] a = false
is_first (d ∷ ds) a = d == a

abbrev pub goes_to : ℕ → Move → Bool
goes_to a m = is_first (onward m) a

abbrev pub calls_by : Option ℕ → Option ℕ → ℕ → Bool
calls_by None behind a = false
calls_by (Some to) None a = false
calls_by (Some to) (Some behind) a = to == a

abbrev pub calls_to : ℕ → Move → Bool
calls_to a m = calls_by m.to m.behind a

-- the same by places

abbrev pub begins_place : List Move → ℕ → Move → Bool
begins_place all k m = place_of all m.at == k

abbrev pub goes_place : List Move → ℕ → Move → Bool
goes_place all k m = on_place all (onward m) == k

abbrev pub calls_place_by : List Move → Option ℕ → Option ℕ → ℕ → Bool
calls_place_by all None behind k = false
calls_place_by all (Some to) None k = false
calls_place_by all (Some to) (Some behind) k = place_of all to == k

abbrev pub calls_place : List Move → ℕ → Move → Bool
calls_place all k m = calls_place_by all m.to m.behind k

pub one-add : (t : Bool) (x y : ℕ) → cond t (x + y) 0 ≡ cond t x 0 + cond t y 0
one-add true x y = omega arith
one-add false x y = omega arith

-- ---- counts of walked moves

walked_none : (t : Move → Bool) (walked : ℕ → Bool) (ms : List Move) → walked_if t walked ms [] ≡ 0
walked_none t walked [] = refl
walked_none t walked (m ∷ ms) = refl

pub counted-long : (walked : ℕ → Bool) (ms : List Move) (us cs : List ℕ) → length us ≡ length ms → length (counted walked ms us cs) ≡ length ms
counted-long walked [] us cs h = refl
counted-long walked (m ∷ ms) [] cs h = absurd (omega (arith, h))
counted-long walked (m ∷ ms) (u ∷ us) [] h = ap suc (counted-long walked ms us [] (omega (arith, h)))
counted-long walked (m ∷ ms) (u ∷ us) (c ∷ cs) h = by_test (walked m.at) (counted-long walked ms us cs (omega (arith, h))) (counted-long walked ms us (c ∷ cs) (omega (arith, h)))
  where
    by_test : (w : Bool) → length (counted walked ms us cs) ≡ length ms → length (counted walked ms us (c ∷ cs)) ≡ length ms → length (cond w ((u + c) ∷ counted walked ms us cs) (u ∷ counted walked ms us (c ∷ cs))) ≡ suc (length ms)
    by_test true r q = ap suc r
    by_test false r q = ap suc q

pub counted_sum : (t : Move → Bool) (walked : ℕ → Bool) (ms : List Move) (us cs : List ℕ) → length us ≡ length ms → sum_if t ms (counted walked ms us cs) ≡ sum_if t ms us + walked_if t walked ms cs
counted_sum t walked [] us cs h = refl
counted_sum t walked (m ∷ ms) [] cs h = absurd (omega (arith, h))
counted_sum t walked (m ∷ ms) (u ∷ us) [] h = let r = counted_sum t walked ms us [] (omega (arith, h)) in let z = walked_none t walked ms in omega (arith, r, z)
counted_sum t walked (m ∷ ms) (u ∷ us) (c ∷ cs) h = by_test (walked m.at) (counted_sum t walked ms us cs (omega (arith, h))) (counted_sum t walked ms us (c ∷ cs) (omega (arith, h)))
  where
    by_test : (w : Bool) → sum_if t ms (counted walked ms us cs) ≡ sum_if t ms us + walked_if t walked ms cs → sum_if t ms (counted walked ms us (c ∷ cs)) ≡ sum_if t ms us + walked_if t walked ms (c ∷ cs) →
        sum_if t (m ∷ ms) (cond w ((u + c) ∷ counted walked ms us cs) (u ∷ counted walked ms us (c ∷ cs))) ≡ (cond (t m) u 0 + sum_if t ms us) + cond w (cond (t m) c 0 + walked_if t walked ms cs) (walked_if t walked ms (c ∷ cs))
    by_test true r q = let o = one-add (t m) u c in omega (arith, r, o)
    by_test false r q = omega (arith, q)

departed_none : (xs : List Step) (k : ℕ) → departed xs [] k ≡ 0
departed_none [] k = refl
departed_none (x ∷ xs) k = refl

arrived_none : (xs : List Step) (k : ℕ) → arrived xs [] k ≡ 0
arrived_none [] k = refl
arrived_none (x ∷ xs) k = refl

-- what leaves a place by the steps of a function

pub departed_walked : (price : Move → ℤ) (all : List Move) (ws : List ℤ) (walked : ℕ → Bool) (ms : List Move) (cs : List ℕ) (k : ℕ) → departed (steps_of price all ws walked ms) cs k ≡ walked_if (begins_place all k) walked ms cs
departed_walked price all ws walked [] cs k = refl
departed_walked price all ws walked (m ∷ ms) [] k = departed_none (steps_of price all ws walked (m ∷ ms)) k
departed_walked price all ws walked (m ∷ ms) (c ∷ cs) k = by_test (walked m.at) (departed_walked price all ws walked ms cs k) (departed_walked price all ws walked ms (c ∷ cs) k)
  where
    by_test : (w : Bool) → departed (steps_of price all ws walked ms) cs k ≡ walked_if (begins_place all k) walked ms cs → departed (steps_of price all ws walked ms) (c ∷ cs) k ≡ walked_if (begins_place all k) walked ms (c ∷ cs) →
        departed (cond w (step_of price all ws m ∷ steps_of price all ws walked ms) (steps_of price all ws walked ms)) (c ∷ cs) k ≡ cond w (cond (begins_place all k m) c 0 + walked_if (begins_place all k) walked ms cs) (walked_if (begins_place all k) walked ms (c ∷ cs))
    by_test true r q = ap (λ n. cond (begins_place all k m) c 0 + n) r
    by_test false r q = q

pub arrived_walked : (price : Move → ℤ) (all : List Move) (ws : List ℤ) (walked : ℕ → Bool) (ms : List Move) (cs : List ℕ) (k : ℕ) → arrived (steps_of price all ws walked ms) cs k ≡ walked_if (goes_place all k) walked ms cs
arrived_walked price all ws walked [] cs k = refl
arrived_walked price all ws walked (m ∷ ms) [] k = arrived_none (steps_of price all ws walked (m ∷ ms)) k
arrived_walked price all ws walked (m ∷ ms) (c ∷ cs) k = by_test (walked m.at) (arrived_walked price all ws walked ms cs k) (arrived_walked price all ws walked ms (c ∷ cs) k)
  where
    by_test : (w : Bool) → arrived (steps_of price all ws walked ms) cs k ≡ walked_if (goes_place all k) walked ms cs → arrived (steps_of price all ws walked ms) (c ∷ cs) k ≡ walked_if (goes_place all k) walked ms (c ∷ cs) →
        arrived (cond w (step_of price all ws m ∷ steps_of price all ws walked ms) (steps_of price all ws walked ms)) (c ∷ cs) k ≡ cond w (cond (goes_place all k m) c 0 + walked_if (goes_place all k) walked ms cs) (walked_if (goes_place all k) walked ms (c ∷ cs))
    by_test true r q = ap (λ n. cond (goes_place all k m) c 0 + n) r
    by_test false r q = q

-- tests that tell the same of walked moves
pub walked_same : (t u : Move → Bool) (walked : ℕ → Bool) (ms : List Move) (cs : List ℕ) → ((m : Move) → Contains ms m → walked m.at ≡ true → t m ≡ u m) → walked_if t walked ms cs ≡ walked_if u walked ms cs
walked_same t u walked [] cs h = refl
walked_same t u walked (m ∷ ms) [] h = refl
walked_same t u walked (m ∷ ms) (c ∷ cs) h =
    by_test (walked m.at) refl (walked_same t u walked ms cs (λ x i w. h x (suc i.0, omega (arith, i.1), i.2) w)) (walked_same t u walked ms (c ∷ cs) (λ x i w. h x (suc i.0, omega (arith, i.1), i.2) w))
  where
    by_test : (w : Bool) → walked m.at ≡ w → walked_if t walked ms cs ≡ walked_if u walked ms cs → walked_if t walked ms (c ∷ cs) ≡ walked_if u walked ms (c ∷ cs) →
        cond w (cond (t m) c 0 + walked_if t walked ms cs) (walked_if t walked ms (c ∷ cs)) ≡ cond w (cond (u m) c 0 + walked_if u walked ms cs) (walked_if u walked ms (c ∷ cs))
    by_test true w r q = let e = ap (λ b. cond b c 0) (h m (zero, omega arith, refl) w) in omega (arith, e, r)
    by_test false w r q = q

-- and that no walked move passes
pub walked_no : (t : Move → Bool) (walked : ℕ → Bool) (ms : List Move) (cs : List ℕ) → ((m : Move) → Contains ms m → walked m.at ≡ true → t m ≡ false) → walked_if t walked ms cs ≡ 0
walked_no t walked ms cs h = walked_same t (λ m. false) walked ms cs h ∙ nothing ms cs
  where
    nothing : (ms : List Move) (cs : List ℕ) → walked_if (λ m. false) walked ms cs ≡ 0
    nothing [] cs = refl
    nothing (m ∷ ms) [] = refl
    nothing (m ∷ ms) (c ∷ cs) = by_test (walked m.at) (nothing ms cs) (nothing ms (c ∷ cs))
      where
        by_test : (w : Bool) → walked_if (λ m. false) walked ms cs ≡ 0 → walked_if (λ m. false) walked ms (c ∷ cs) ≡ 0 → cond w (0 + walked_if (λ m. false) walked ms cs) (walked_if (λ m. false) walked ms (c ∷ cs)) ≡ 0
        by_test true r q = omega (arith, r)
        by_test false r q = q

-- ---- turns

-- the move stands at a number of the list
abbrev pub At : List Move → ℕ → Move → Type 0
At [] i m = ⊥
At (x ∷ ms) zero m = x ≡ m
At (x ∷ ms) (suc i) m = At ms i m

set_sum : (t : Move → Bool) (ms : List Move) (us : List ℕ) (i b : ℕ) (m : Move) → length us ≡ length ms → At ms i m → sum_if t ms (slice_set us i (amount_at us i + b)) ≡ sum_if t ms us + cond (t m) b 0
set_sum t [] us i b m h at = absurd at
set_sum t (x ∷ ms) [] i b m h at = absurd (omega (arith, h))
set_sum t (x ∷ ms) (u ∷ us) zero b m h at =
    let o = one-add (t x) u b in let e : cond (t x) b 0 ≡ cond (t m) b 0 = ap (λ (y : Move). cond (t y) b 0) at in omega (arith, o, e)
set_sum t (x ∷ ms) (u ∷ us) (suc i) b m h at = let r = set_sum t ms us i b m (omega (arith, h)) at in omega (arith, r)

abbrev pub EachTurn : (Turning → Type 0) → List Turning → Type 0
EachTurn P [] = Unit {0}
EachTurn P (x ∷ ts) = P x × EachTurn P ts

pub turned_back-long : (us : List ℕ) (ts : List Turning) (bs : List ℕ) → length (turned_back us ts bs) ≡ length us
turned_back-long us [] bs = refl
turned_back-long us (x ∷ ts) [] = refl
turned_back-long us (x ∷ ts) (b ∷ bs) = turned_back-long (slice_set us x.back (amount_at us x.back + b)) ts bs ∙ length-set us x.back (amount_at us x.back + b)

pub back_sum : (t : Move → Bool) (t' : Turning → Bool) (ms : List Move) (us : List ℕ) (ts : List Turning) (bs : List ℕ) → length us ≡ length ms → EachTurn (λ x. (m : Move) × At ms x.back m × (t m ≡ t' x)) ts → sum_if t ms (turned_back us ts bs) ≡ sum_if t ms us + backs_if t' ts bs
back_sum t t' ms us [] bs h each = omega arith
back_sum t t' ms us (x ∷ ts) [] h each = omega arith
back_sum t t' ms us (x ∷ ts) (b ∷ bs) h each =
    let l = length-set us x.back (amount_at us x.back + b) in
    let r = back_sum t t' ms (slice_set us x.back (amount_at us x.back + b)) ts bs (l ∙ h) each.1 in
    let s = set_sum t ms us x.back b each.0.0 h each.0.1 in
    let e = ap (λ c. cond c b 0) each.0.2 in omega (arith, r, s, e)

pub backs_from-if : (ts : List Turning) (bs : List ℕ) (k : ℕ) → backs_from ts bs k ≡ backs_if (λ x. x.back == k) ts bs
backs_from-if [] bs k = refl
backs_from-if (x ∷ ts) [] k = refl
backs_from-if (x ∷ ts) (b ∷ bs) k = ap (λ n. cond (x.back == k) b 0 + n) (backs_from-if ts bs k)

pub backs_to-if : (ts : List Turning) (bs : List ℕ) (k : ℕ) → backs_to ts bs k ≡ backs_if (λ x. x.header == k) ts bs
backs_to-if [] bs k = refl
backs_to-if (x ∷ ts) [] k = refl
backs_to-if (x ∷ ts) (b ∷ bs) k = ap (λ n. cond (x.header == k) b 0 + n) (backs_to-if ts bs k)

pub backs_no : (t : Turning → Bool) (ts : List Turning) (bs : List ℕ) → EachTurn (λ x. t x ≡ false) ts → backs_if t ts bs ≡ 0
backs_no t [] bs h = refl
backs_no t (x ∷ ts) [] h = refl
backs_no t (x ∷ ts) (b ∷ bs) h = let r = backs_no t ts bs h.1 in let e = ap (λ c. cond c b 0) h.0 in omega (arith, r, e)

pub each_turn : (P Q : Turning → Type 0) → ((x : Turning) → P x → Q x) → (ts : List Turning) → EachTurn P ts → EachTurn Q ts
each_turn P Q f [] h = tt
each_turn P Q f (x ∷ ts) h = (f x h.0, each_turn P Q f ts h.1)

-- ---- what starts at a place by calls

call_starts-long : (all : List Move) (to back : Option ℕ) (c : ℕ) (us : List ℕ) → length (call_starts all to back c us) ≡ length us
call_starts-long all None back c us = refl
call_starts-long all (Some t) None c us = refl
call_starts-long all (Some t) (Some b) c us = length-set us (place_of all t) (amount_at us (place_of all t) + c)

call_starts_at : (all : List Move) (to back : Option ℕ) (c : ℕ) (us : List ℕ) (k : ℕ) → ((t b : ℕ) → to ≡ Some t → back ≡ Some b → place_of all t < length us) → amount_at (call_starts all to back c us) k ≡ amount_at us k + cond (calls_place_by all to back k) c 0
call_starts_at all None back c us k h = omega arith
call_starts_at all (Some t) None c us k h = omega arith
call_starts_at all (Some t) (Some b) c us k h = elim (eqb_tells (place_of all t) k) [
  | inl e ↦
      let s = set_at us (place_of all t) (amount_at us (place_of all t) + c) (h t b refl refl) in
      let f = ap (λ j. amount_at (slice_set us (place_of all t) (amount_at us (place_of all t) + c)) j) e.1 in
      let g = ap (λ j. amount_at us j) e.1 in
      rw e.0 (omega (arith, s, f, g))
  | inr e ↦
      let s = set_other us (place_of all t) k (amount_at us (place_of all t) + c) (λ q. e.1 (sym q)) in
      rw e.0 (omega (arith, s))
]

-- calls are at places of a list that is so long
abbrev pub CallsWithin : List Move → ℕ → Move → Type 0
CallsWithin all n m = (t b : ℕ) → m.to ≡ Some t → m.behind ≡ Some b → place_of all t < n

pub called-long : (all : List Move) (walked : ℕ → Bool) (ms : List Move) (cs us : List ℕ) → length (called all walked ms cs us) ≡ length us
called-long all walked [] cs us = refl
called-long all walked (m ∷ ms) [] us = refl
called-long all walked (m ∷ ms) (c ∷ cs) us = by_test (walked m.at) (called-long all walked ms cs (call_starts all m.to m.behind c us) ∙ call_starts-long all m.to m.behind c us) (called-long all walked ms (c ∷ cs) us)
  where
    by_test : (w : Bool) → length (called all walked ms cs (call_starts all m.to m.behind c us)) ≡ length us → length (called all walked ms (c ∷ cs) us) ≡ length us →
        length (cond w (called all walked ms cs (call_starts all m.to m.behind c us)) (called all walked ms (c ∷ cs) us)) ≡ length us
    by_test true r q = r
    by_test false r q = q

pub called_at : (all : List Move) (walked : ℕ → Bool) (ms : List Move) (cs us : List ℕ) (k : ℕ) → ((m : Move) → Contains ms m → CallsWithin all (length us) m) → amount_at (called all walked ms cs us) k ≡ amount_at us k + walked_if (calls_place all k) walked ms cs
called_at all walked [] cs us k h = omega arith
called_at all walked (m ∷ ms) [] us k h = omega arith
called_at all walked (m ∷ ms) (c ∷ cs) us k h =
    by_test (walked m.at)
    (called_at all walked ms cs (call_starts all m.to m.behind c us) k (λ x i. subst (λ n. CallsWithin all n x) (sym (call_starts-long all m.to m.behind c us)) (h x (suc i.0, omega (arith, i.1), i.2))))
    (called_at all walked ms (c ∷ cs) us k (λ x i. h x (suc i.0, omega (arith, i.1), i.2)))
  where
    by_test : (w : Bool) → amount_at (called all walked ms cs (call_starts all m.to m.behind c us)) k ≡ amount_at (call_starts all m.to m.behind c us) k + walked_if (calls_place all k) walked ms cs → amount_at (called all walked ms (c ∷ cs) us) k ≡ amount_at us k + walked_if (calls_place all k) walked ms (c ∷ cs) →
        amount_at (cond w (called all walked ms cs (call_starts all m.to m.behind c us)) (called all walked ms (c ∷ cs) us)) k ≡ amount_at us k + cond w (cond (calls_place all k m) c 0 + walked_if (calls_place all k) walked ms cs) (walked_if (calls_place all k) walked ms (c ∷ cs))
    by_test true r q = let s = call_starts_at all m.to m.behind c us k (h m (zero, omega arith, refl)) in omega (arith, r, s)
    by_test false r q = q

-- ---- counts of a list of amounts

-- the amounts of moves, by address and number, are those of the list
abbrev pub AreAmounts : Amounts → List Move → List ℕ → Type 0
AreAmounts x [] us = Unit {0}
AreAmounts x (m ∷ ms) [] = ⊥
AreAmounts x (m ∷ ms) (u ∷ us) = (x m.at m.number ≡ u) × AreAmounts x ms us

when : (t : Bool) (u : ℕ) → cond t (pos u) (pos 0) ≡ pos (cond t u 0)
when true u = refl
when false u = refl

pub count_sum : (x : Amounts) (ms : List Move) (us : List ℕ) (a : ℕ) → AreAmounts x ms us → count x ms a ≡ pos (sum_if (begins_at a) ms us)
count_sum x [] us a h = refl
count_sum x (m ∷ ms) [] a h = absurd h
count_sum x (m ∷ ms) (u ∷ us) a h =
    let r = count_sum x ms us a h.1 in
    let w = when (m.at == a) (x m.at m.number) in
    let e = ap (λ n. cond (m.at == a) n 0) h.0 in omega (arith, ints)

arrives_at : (to back : Option ℕ) (u a : ℕ) → coefficient (each_with (pos u) (option_to_list to ++ option_to_list back)) a ≡ pos (cond (is_first (onward_by to back) a) u 0 + cond (calls_by to back a) u 0)
arrives_at None None u a = refl
arrives_at (Some t) None u a = let w = when (t == a) u in omega (arith, ints)
arrives_at None (Some b) u a = let w = when (b == a) u in omega (arith, ints)
arrives_at (Some t) (Some b) u a = let w = when (t == a) u in let v = when (b == a) u in omega (arith, ints)

pub arrivals_sum : (x : Amounts) (ms : List Move) (us : List ℕ) (a : ℕ) → AreAmounts x ms us → coefficient (arrivals x ms) a ≡ pos (sum_if (goes_to a) ms us + sum_if (calls_to a) ms us)
arrivals_sum x [] us a h = refl
arrivals_sum x (m ∷ ms) [] a h = absurd h
arrivals_sum x (m ∷ ms) (u ∷ us) a h =
    let r = arrivals_sum x ms us a h.1 in
    let s = coefficient-append (each_with (amount x m) (destinations m)) (arrivals x ms) a in
    let d = arrives_at m.to m.behind (x m.at m.number) a in
    let e = ap (λ n. cond (is_first (onward m) a) n 0) h.0 in
    let f = ap (λ n. cond (calls_to a m) n 0) h.0 in omega (arith, ints)

pub one_unit : (z : ℤ) (k : ℕ) → z <ℤ (pos 1 *ℤ pos k) → z <ℤ pos k
one_unit z k h = omega (arith, ints)

-- listed amounts below 2^60
pub amounts_below : (x : Amounts) (ms : List Move) (us : List ℕ) → length us ≡ length ms → AreAmounts x ms us → ((m : Move) → Contains ms m → amount x m <ℤ pos (2 ^ 60)) → All (λ u. u < 2 ^ 60) us
amounts_below x [] [] long are h = All-nil (λ u. u < 2 ^ 60)
amounts_below x [] (u ∷ us) long are h = absurd (omega (arith, long))
amounts_below x (m ∷ ms) [] long are h = absurd (omega (arith, long))
amounts_below x (m ∷ ms) (u ∷ us) long are h = All-cons (λ u. u < 2 ^ 60) u us (below (h m (zero, omega arith, refl)) are.0) (amounts_below x ms us (omega (arith, long)) are.1 (λ k i. h k (suc i.0, omega (arith, i.1), i.2)))
  where
    below : pos (x m.at m.number) <ℤ pos (2 ^ 60) → x m.at m.number ≡ u → u < 2 ^ 60
    below a b = let c : x m.at m.number < 2 ^ 60 = omega (arith, ints) in omega (arith, c, b)
