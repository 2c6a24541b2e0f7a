-- The turnings of a function's loops can turn: along chosen steps each way goes on to the jump back.
use Rattle.std.proofs.Common.{◌≡◌, ◌≢◌, ℕ, zero, suc, ◌-◌, ◌≤◌, ◌<◌, ℤ, pos, arith, refl, sym, ap, ◌∙◌, subst, List, [], ◌∷◌, length, take, drop, inl, inr, ◌⊎◌, Bool, true, false, cond, Option, Some, None, get_or-set_other}
use Rattle.std.specs.Prelude.{◌==◌, ◌&&◌, nat_le, nat_lt, is_some}
use Rattle.std.specs.Int.RustNames.{int_le}
use Rattle.std.proofs.lemmas.Int.{ints}
use Rattle.std.proofs.lemmas.Bool.Decides.{eqb_tells, nat_tests}
use Rattle.std.proofs.Math.ListN.{replicate}
use Rattle.loop_walks.specs.declared.step.Step.{Step}
use Rattle.loop_walks.specs.declared.step.Loop.{Loop}
use Rattle.loop_walks.specs.Walks.{cost, between, range_steps, head_steps, body_steps}
use Rattle.loop_walks.specs.Turns.{greater, further, way_at, turned, with_back as start_back, turn_start, turn_ways}
use Rattle.loop_walks.specs.Levels.{weighed}
use Rattle.loop_walks.specs.Rows.{IsStep, NotBefore, AreSteps, Each, IsBack, IsLoopOf, HeadersAbove, AreLoops}
use Rattle.loop_walks.proofs.EachLemmas.{each_map, each_beside, between_steps, steps_are}
use Rattle.loop_walks.proofs.TurnLemmas.{IsInRange, turn_at, turn_other, turned-long, turn_start-long}
use Rattle.loop_flows.specs.Hands.{HasChosen, AreOpen}
use Rattle.loop_flows.specs.Flows.{Turning, CanTurn, HeadersBehind, CanAllTurn}
use Rattle.loop_flows.specs.Turns.{is_way, in_range, is_turn, turns_from, turning_of, with_way, with_back, turnings}

-- a step of the list is such
abbrev pub HasStep : (Step → Type 0) → List Step → Type 0
HasStep P [] = ⊥
HasStep P (m ∷ ms) = P m ⊎ HasStep P ms

has_map : (P Q R : Step → Type 0) (ms : List Step) → ((m : Step) → R m → P m → Q m) → Each R ms → HasStep P ms → HasStep Q ms
has_map P Q R [] f r h = absurd h
has_map P Q R (m ∷ ms) f r h = elim h [ inl k ↦ inl (f m r.0 k) | inr k ↦ inr (has_map P Q R ms f r.1 k) ]

greater_cases : (o p : Option ℤ) (x : ℤ) → greater o p ≡ Some x → (o ≡ Some x) ⊎ (p ≡ Some x)
greater_cases None p x h = inr h
greater_cases (Some y) None x h = inl h
greater_cases (Some y) (Some z) x h = by_test (int_le y z) h
  where
    by_test : (t : Bool) → Some (cond t z y) ≡ Some x → (Some y ≡ Some x) ⊎ (Some z ≡ Some x)
    by_test true h = inr h
    by_test false h = inl h

-- a step whose way is that of a place
abbrev pub GoesWay : ℤ → List ℤ → ℕ → List (Option ℤ) → ℕ → ℤ → Step → Type 0
GoesWay low weights first ts i x m = (m.at - first ≡ i) × (further low (cost weights m) (way_at ts (m.on - first)) ≡ Some x)

each_step : (n a : ℕ) (ms : List Step) → NotBefore a ms → AreSteps n ms → Each (λ m. (a ≤ m.at) × (m.at < m.on)) ms
each_step n a [] b o = tt
each_step n a (m ∷ ms) b o = ((b.0, o.0.0), each_step n a ms b.1 o.2)

-- a way is one from the beginning, or that of a step
pub turned_from : (low : ℤ) (weights : List ℤ) (first n : ℕ) (ts : List (Option ℤ)) (ms : List Step) → AreSteps n ms → Each (IsInRange first (length ts)) ms → (i : ℕ) (x : ℤ) → way_at (turned low weights first ts ms) i ≡ Some x →
    (way_at ts i ≡ Some x) ⊎ HasStep (GoesWay low weights first (turned low weights first ts ms) i x) ms
turned_from low weights first n ts [] o r i x h = inl h
turned_from low weights first n ts (m ∷ ms) o r i x h = elim (eqb_tells i (m.at - first)) [
  | inl e ↦
      let t = turn_at low weights first (turned low weights first ts ms) m i here e.1 in
      elim (greater_cases (way_at (turned low weights first ts ms) i) (further low (cost weights m) (way_at (turned low weights first ts ms) (m.on - first))) x (sym t ∙ h)) [
        | inl k ↦ onwards (turned_from low weights first n ts ms o.2 r.1 i x k)
        | inr k ↦ inr (inl (sym e.1, ap (further low (cost weights m)) on_same ∙ k))
      ]
  | inr e ↦ onwards (turned_from low weights first n ts ms o.2 r.1 i x (sym (turn_other low weights first (turned low weights first ts ms) m i e.1) ∙ h))
]
  where
    here : (m.at - first) < length (turned low weights first ts ms)
    here = let l = turned-long low weights first ts ms in let r1 = r.0.1 in omega (arith, l, r1)

    on_same : way_at (turned low weights first ts (m ∷ ms)) (m.on - first) ≡ way_at (turned low weights first ts ms) (m.on - first)
    on_same = turn_other low weights first (turned low weights first ts ms) m (m.on - first) (λ q. let o0 = o.0.0 in let r0 = r.0.0 in absurd (omega (arith, o0, r0, q)))

    onwards : (way_at ts i ≡ Some x) ⊎ HasStep (GoesWay low weights first (turned low weights first ts ms) i x) ms → (way_at ts i ≡ Some x) ⊎ HasStep (GoesWay low weights first (turned low weights first ts (m ∷ ms)) i x) (m ∷ ms)
    onwards h = elim h [
      | inl k ↦ inl k
      | inr k ↦ inr (inr (has_map (GoesWay low weights first (turned low weights first ts ms) i x) (GoesWay low weights first (turned low weights first ts (m ∷ ms)) i x) (λ k. (m.at ≤ k.at) × (k.at < k.on)) ms
          (λ k b g. (g.0, ap (further low (cost weights k)) (turn_other low weights first (turned low weights first ts ms) m (k.on - first) (λ q. let b0 = b.0 in let b1 = b.1 in let r0 = r.0.0 in absurd (omega (arith, b0, b1, r0, q)))) ∙ g.1)) (each_step n m.at ms o.1 o.2) k))
    ]

-- ---- chosen steps of a part of a list

chosen_take : (chosen : Step → Bool) (k : ℕ) (ms : List Step) (a : ℕ) → HasChosen chosen (take k ms) a → HasChosen chosen ms a
chosen_take chosen zero ms a h = absurd h
chosen_take chosen (suc k) [] a h = absurd h
chosen_take chosen (suc k) (m ∷ ms) a h = elim h [ inl e ↦ inl e | inr e ↦ inr (chosen_take chosen k ms a e) ]

chosen_drop : (chosen : Step → Bool) (k : ℕ) (ms : List Step) (a : ℕ) → HasChosen chosen (drop k ms) a → HasChosen chosen ms a
chosen_drop chosen zero ms a h = h
chosen_drop chosen (suc k) [] a h = absurd h
chosen_drop chosen (suc k) (m ∷ ms) a h = inr (chosen_drop chosen k ms a h)

chosen_between : (chosen : Step → Bool) (from to : ℕ) (ms : List Step) (a : ℕ) → HasChosen chosen (between from to ms) a → HasChosen chosen ms a
chosen_between chosen from to ms a h = chosen_drop chosen from ms a (chosen_take chosen (to - from) (drop from ms) a h)

pub both_first : (x y : Bool) → x && y ≡ true → (x ≡ true) × (y ≡ true)
both_first true y h = (refl, h)
both_first false y h = cc

pub both_true : (x y : Bool) → x ≡ true → y ≡ true → x && y ≡ true
both_true true y e f = f
both_true false y e f = cc

-- a test of ways tells
is_way_some : (o p : Option ℤ) → is_way o p ≡ true → is_some p ≡ true
is_way_some None p h = cc
is_way_some (Some x) None h = cc
is_way_some (Some x) (Some y) h = refl

further_some : (low c : ℤ) (o : Option ℤ) → is_some (further low c o) ≡ true → is_some o ≡ true
further_some low c None h = h
further_some low c (Some t) h = refl

same_way : (o p : Option ℤ) (x : ℤ) → o ≡ Some x → p ≡ Some x → is_way o p ≡ true
same_way o p x e f = rw (e, f) (self x)
  where
    self : (x : ℤ) → int_le x x ≡ true
    self x = grind (arith, ints, nat_tests)

pub some_of : (o : Option ℤ) → is_some o ≡ true → (x : ℤ) × (o ≡ Some x)
some_of None h = cc
some_of (Some x) h = (x, refl)

none_in : (k i : ℕ) (x : ℤ) → way_at (replicate k None) i ≡ Some x → ⊥
none_in zero zero x h = cc
none_in zero (suc i) x h = cc
none_in (suc k) zero x h = cc
none_in (suc k) (suc i) x h = none_in k i x h

pub le_of : (a b : ℕ) → nat_le a b ≡ true → a ≤ b
le_of a b h = grind (arith, nat_tests)

is_le : (a b : ℕ) → a ≤ b → nat_le a b ≡ true
is_le a b h = grind (arith, nat_tests)

is_lt : (a b : ℕ) → a < b → nat_lt a b ≡ true
is_lt a b h = grind (arith, nat_tests)

-- ---- one loop

module _ (low : ℤ) (n : ℕ) (ms : List Step) (steps : AreSteps n ms) (l : Loop) (fits : IsLoopOf n ms l) (weights : List ℤ) (b : ℕ) (is : l.back ≡ Some b) (apart : b ≢ l.header) where
  abbrev ways : List (Option ℤ)
  ways = turn_ways low weights l ms

  abbrev turning : Turning
  turning = turning_of low weights l ms (turn_ways low weights l ms) b

  back_in : (l.header ≤ b) × (b < l.end)
  back_in = let i : IsBack l ms (Some b) = subst (λ o. IsBack l ms o) is fits.back in (i.0, i.1)

  range_is : Each (IsInRange l.header (l.end - l.header)) (range_steps l ms)
  range_is =
      let r0 = fits.range.0 in
      each_beside (IsInRange l.header (l.end - l.header)) l.head l.body l.rest ms fits.order.0 fits.order.1
      (each_map (λ m. m.at ≡ l.header) (IsInRange l.header (l.end - l.header)) (head_steps l ms) (λ m e. (omega (arith, e), omega (arith, e, r0))) fits.heads)
      (each_map (λ m. (l.header < m.at) × (m.at < l.end)) (IsInRange l.header (l.end - l.header)) (body_steps l ms) (λ m h. (omega (arith, h.0), omega (arith, h.0, h.1))) fits.body)

  range_long : Each (IsInRange l.header (length (turn_start l))) (range_steps l ms)
  range_long = subst (λ k. Each (IsInRange l.header k) (range_steps l ms)) (sym (turn_start-long l)) range_is

  -- the beginning has a way at the jump back alone
  start_at : (i : ℕ) (x : ℤ) → way_at (turn_start l) i ≡ Some x → i ≡ b - l.header
  start_at i x h = elim (eqb_tells i (b - l.header)) [
    | inl e ↦ e.1
    | inr e ↦ absurd (none_in (l.end - l.header) i x (sym (get_or-set_other (replicate (l.end - l.header) None) (b - l.header) i (Some (pos 0)) None e.1) ∙ (ap (λ o. way_at (start_back o l.header (replicate (l.end - l.header) None)) i) (sym is) ∙ h)))
  ]

  chosen_is : (a : ℕ) (x : ℤ) (m : Step) → l.header ≤ a → way_at ways (a - l.header) ≡ Some x → IsInRange l.header (l.end - l.header) m → GoesWay low weights l.header ways (a - l.header) x m → (m.at ≡ a) × (is_turn low weights l ways m ≡ true)
  chosen_is a x m from way r g =
      let r0 = r.0 in let r1 = r.1 in let g0 = g.0 in
      let same : m.at ≡ a = omega (arith, r0, g0, from) in (
        same,
        both_true (in_range l m.at) (is_way (way_at ways (m.at - l.header)) (further low (cost weights m) (way_at ways (m.on - l.header))))
            (both_true (nat_le l.header m.at) (nat_lt m.at l.end) (is_le l.header m.at r0) (is_lt m.at l.end (omega (arith, r0, r1))))
            (same_way (way_at ways (m.at - l.header)) (further low (cost weights m) (way_at ways (m.on - l.header))) x (ap (λ i. way_at ways i) g0 ∙ way) g.1),
      )

  has_chosen : (a : ℕ) (x : ℤ) → l.header ≤ a → way_at ways (a - l.header) ≡ Some x → (ks : List Step) → Each (IsInRange l.header (l.end - l.header)) ks → HasStep (GoesWay low weights l.header ways (a - l.header) x) ks → HasChosen (is_turn low weights l ways) ks a
  has_chosen a x from way [] r h = absurd h
  has_chosen a x from way (m ∷ ks) r h = elim h [ inl g ↦ inl (chosen_is a x m from way r.0 g) | inr g ↦ inr (has_chosen a x from way ks r.1 g) ]

  goes_on : (m : Step) → IsStep n m → is_turn low weights l ways m ≡ true → turns_from l ways m.on ≡ true
  goes_on m step chosen =
      let c = both_first (in_range l m.at) (is_way (way_at ways (m.at - l.header)) (further low (cost weights m) (way_at ways (m.on - l.header)))) chosen in
      let r = le_of l.header m.at (both_first (nat_le l.header m.at) (nat_lt m.at l.end) c.0).0 in
      let s0 = step.0 in
      both_true (nat_le l.header m.on) (is_some (way_at ways (m.on - l.header))) (is_le l.header m.on (omega (arith, r, s0)))
      (further_some low (cost weights m) (way_at ways (m.on - l.header)) (is_way_some (way_at ways (m.at - l.header)) (further low (cost weights m) (way_at ways (m.on - l.header))) c.1))

  leads : AreOpen (is_turn low weights l ways) ms (λ a. turns_from l ways a ≡ true) b
  leads = record {
    goes = each_map (IsStep n) (λ m. turns_from l ways m.at ≡ true → is_turn low weights l ways m ≡ true → turns_from l ways m.on ≡ true) ms (λ m s o c. goes_on m s c) (steps_are n ms steps);
    has = λ a o.
        let t = both_first (nat_le l.header a) (is_some (way_at ways (a - l.header))) o in
        let from = le_of l.header a t.0 in
        let x = some_of (way_at ways (a - l.header)) t.1 in
        elim (turned_from low weights l.header n (turn_start l) (range_steps l ms) (between_steps n l.head l.rest ms steps) range_long (a - l.header) x.0 x.1) [
          | inl k ↦ let e = start_at (a - l.header) x.0 k in let r = back_in.0 in inl (omega (arith, e, from, r))
          | inr k ↦ inr (chosen_between (is_turn low weights l ways) l.head l.rest ms a (has_chosen a x.0 from x.1 (range_steps l ms) range_is k))
        ];
  }

  pub can_turn : (x : ℤ) → way_at (turn_ways low weights l ms) 0 ≡ Some x → CanTurn n ms (turning_of low weights l ms (turn_ways low weights l ms) b)
  can_turn x way = record {
    places = (let r = fits.range in let r0 = r.0 in let r1 = r.1 in omega (arith, r0, r1), let i = back_in.1 in let r1 = fits.range.1 in omega (arith, i, r1));
    apart = apart;
    leads = leads;
    starts = both_true (nat_le l.header l.header) (is_some (way_at ways (l.header - l.header))) (is_le l.header l.header (omega arith))
        (let z : l.header - l.header ≡ 0 = omega arith in ap (λ i. is_some (way_at ways i)) z ∙ ap is_some way);
    none_before = each_map (IsStep n) (λ m. is_turn low weights l ways m ≡ true → l.header ≤ m.at) ms
        (λ m s c. le_of l.header m.at (both_first (nat_le l.header m.at) (nat_lt m.at l.end) (both_first (in_range l m.at) (is_way (way_at ways (m.at - l.header)) (further low (cost weights m) (way_at ways (m.on - l.header)))) c).0).0) (steps_are n ms steps);
  }

-- ---- all loops

with_behind : (low : ℤ) (weights : List ℤ) (l : Loop) (ms : List Step) (o : Option ℕ) (ts : List Turning) (a : ℕ) → a < l.header → HeadersBehind a ts → HeadersBehind a (with_back low weights l ms o ts)
with_behind low weights l ms None ts a lt h = h
with_behind low weights l ms (Some b) ts a lt h = by_test (b == l.header)
  where
    by_way : (w : Option ℤ) → HeadersBehind a (with_way w (turning_of low weights l ms (turn_ways low weights l ms) b) ts)
    by_way None = h
    by_way (Some x) = (lt, h)

    by_test : (t : Bool) → HeadersBehind a (cond t ts (with_way (way_at (turn_ways low weights l ms) 0) (turning_of low weights l ms (turn_ways low weights l ms) b) ts))
    by_test true = h
    by_test false = by_way (way_at (turn_ways low weights l ms) 0)

pub turnings_behind : (low : ℤ) (ms : List Step) (weights : List ℤ) (ls : List Loop) (a : ℕ) → HeadersAbove a ls → HeadersBehind a (turnings low ms weights ls)
turnings_behind low ms weights [] a h = tt
turnings_behind low ms weights (l ∷ ls) a h = with_behind low (weighed low ms weights ls) l ms l.back (turnings low ms weights ls) a h.0 (turnings_behind low ms weights ls a h.1)

pub can_all_turn : (low : ℤ) (n : ℕ) (ms : List Step) (weights : List ℤ) (ls : List Loop) → AreSteps n ms → AreLoops n ms ls → CanAllTurn n ms (turnings low ms weights ls)
can_all_turn low n ms weights [] steps loops = tt
can_all_turn low n ms weights (l ∷ ls) steps loops = by_back l.back refl (can_all_turn low n ms weights ls steps loops.2)
  where
    by_back : (o : Option ℕ) → l.back ≡ o → CanAllTurn n ms (turnings low ms weights ls) → CanAllTurn n ms (with_back low (weighed low ms weights ls) l ms o (turnings low ms weights ls))
    by_back None is r = r
    by_back (Some b) is r = elim (eqb_tells b l.header) [ inl e ↦ rw e.0 r | inr e ↦ rw e.0 (by_way (way_at (turn_ways low (weighed low ms weights ls) l ms) 0) refl e.1) ]
      where
        by_way : (w : Option ℤ) → way_at (turn_ways low (weighed low ms weights ls) l ms) 0 ≡ w → b ≢ l.header →
            CanAllTurn n ms (with_way w (turning_of low (weighed low ms weights ls) l ms (turn_ways low (weighed low ms weights ls) l ms) b) (turnings low ms weights ls))
        by_way None e apart = r
        by_way (Some x) e apart = (can_turn low n ms steps l loops.0 (weighed low ms weights ls) b is apart x e, turnings_behind low ms weights ls l.header loops.1, r)
