-- What is made is made at open places: in the pass to the ends, and in each turn.
use Rattle.std.proofs.Common.{◌≡◌, ◌≢◌, ℕ, zero, suc, ◌+◌, ◌-◌, ◌*◌, ◌≤◌, ◌<◌, ℤ, pos, ◌+ℤ◌, ◌-ℤ◌, ◌*ℤ◌, ◌≤ℤ◌, ◌<ℤ◌, arith, refl, sym, ap, ◌∙◌, subst, List, [], ◌∷◌, length, inl, inr, ◌⊎◌, Bool, true, false, cond, Option, Some, None}
use Rattle.std.specs.Prelude.{◌==◌, nat_le}
use Rattle.std.specs.Int.RustNames.{int_le, int_lt}
use Rattle.std.proofs.lemmas.Int.{ints}
use Rattle.std.proofs.lemmas.Bool.Decides.{eqb_tells, nat_tests}
use Rattle.frac128.proofs.SignedLemmas.{mul-le}
use Rattle.loop_walks.specs.declared.step.Step.{Step}
use Rattle.loop_walks.specs.declared.step.Loop.{Loop}
use Rattle.loop_walks.specs.Walks.{larger, worth_at, cost}
use Rattle.loop_walks.specs.Turns.{further, way_at, turn_ways, gain_by, gain}
use Rattle.loop_walks.specs.Multipliers.{first_weight}
use Rattle.loop_walks.specs.Levels.{Level, weighed}
use Rattle.loop_walks.specs.Rows.{IsStep, AreSteps, Each, IsLoopOf, AreLoops}
use Rattle.loop_walks.proofs.EachLemmas.{each_map, each_both, steps_are}
use Rattle.loop_walks.proofs.LevelLemmas.{set_other, weighed-long, From, from_above}
use Rattle.std.proofs.lemmas.Grind.{get_or-set_at}
use Rattle.loop_flows.specs.Passes.{amount_at, made, handed, spread, departed}
use Rattle.loop_flows.specs.Hands.{StandsOpen}
use Rattle.loop_flows.specs.Flows.{only_at, together, turns_of, turn_counts, counts_of}
use Rattle.loop_flows.proofs.SpreadLemmas.{handed-long, handed_from, handed_to, handed_other}
use Rattle.loop_flows.proofs.TotalLemmas.{only-long, only_elsewhere, only_there}
use Rattle.loop_flows.specs.Turns.{is_tight, is_way, in_range, is_turn, further_turns, turning_of, with_way, with_back, turnings}
use Rattle.loop_flows.specs.Opens.{EachMade, HasOpenParts, HasOpenWay, TurnsOpenly, TurnAllOpenly}
use Rattle.loop_flows.proofs.TurnLemmas.{both_first}

-- along a chosen step from an open place, something holds, and it goes on to an open place
abbrev pub GoesOpenly : (Step → Bool) → (ℕ → Type 0) → (Step → Type 0) → Step → Type 0
GoesOpenly chosen Open P m = Open m.at → chosen m ≡ true → P m × Open m.on

positive : (u : ℕ) → u ≢ 0 → 0 < u
positive zero d = absurd (d refl)
positive (suc u) d = omega arith

pub hand_stands : (t : Bool) (chosen : Step → Bool) (n : ℕ) (us : List ℕ) (m : Step) (Open : ℕ → Type 0) (P : Step → Type 0) → chosen m ≡ t → IsStep n m → n < length us → GoesOpenly chosen Open P m → StandsOpen us Open →
    (0 < made t us m → P m) × StandsOpen (handed t us m) Open
hand_stands false chosen n us m Open P is i long goes stands = ((λ h. absurd (omega (arith, h))), stands)
hand_stands true chosen n us m Open P is i long goes stands = ((λ h. (goes (stands m.at h) is).0), on)
  where
    on : StandsOpen (handed true us m) Open
    on a h = elim (eqb_tells a m.at) [
      | inl e ↦
          let i0 = i.0 in let i1 = i.1 in
          let f = handed_from us m i0 (omega (arith, i0, i1, long)) in
          let z : amount_at (handed true us m) a ≡ 0 = ap (λ b. amount_at (handed true us m) b) e.1 ∙ f in absurd (omega (arith, z, h))
      | inr d ↦ elim (eqb_tells a m.on) [
        | inl e ↦ subst (λ b. Open b) (sym e.1) (at_on e.1)
        | inr e ↦ let f = handed_other us m a d.1 e.1 in stands a (omega (arith, f, h))
      ]
    ]
      where
        at_on : a ≡ m.on → Open m.on
        at_on e = elim (eqb_tells (amount_at us m.at) 0) [
          | inl k ↦
              let i1 = i.1 in let k1 = k.1 in
              let f = handed_to us m (omega (arith, i1, long)) in
              let z : amount_at (handed true us m) a ≡ amount_at us m.on + amount_at us m.at = ap (λ b. amount_at (handed true us m) b) e ∙ f in
              stands m.on (omega (arith, z, h, k1))
          | inr k ↦ (goes (stands m.at (positive (amount_at us m.at) k.1)) is).1
        ]

pub spread_made : (chosen : Step → Bool) (n : ℕ) (us : List ℕ) (ms : List Step) (Open : ℕ → Type 0) (P : Step → Type 0) → n < length us → Each (IsStep n) ms → Each (GoesOpenly chosen Open P) ms → StandsOpen us Open → EachMade P ms (spread chosen us ms)
spread_made chosen n us [] Open P long i goes stands = tt
spread_made chosen n us (m ∷ ms) Open P long i goes stands =
    let l = handed-long (chosen m) us m in
    let k = hand_stands (chosen m) chosen n us m Open P refl i.0 long goes.0 stands in
    (k.0, spread_made chosen n (handed (chosen m) us m) ms Open P (omega (arith, l, long)) i.1 goes.1 k.1)

pub together_made : (P : Step → Type 0) (ms : List Step) (xs ys : List ℕ) → EachMade P ms xs → EachMade P ms ys → EachMade P ms (together xs ys)
together_made P [] xs ys h k = tt
together_made P (m ∷ ms) [] ys h k = tt
together_made P (m ∷ ms) (x ∷ xs) [] h k = tt
together_made P (m ∷ ms) (x ∷ xs) (y ∷ ys) h k = (
  (λ lt. elim (eqb_tells x 0) [ inl e ↦ let e1 = e.1 in k.0 (omega (arith, lt, e1)) | inr e ↦ h.0 (positive x e.1) ]),
  together_made P ms xs ys h.1 k.1,
)

-- where something leaves a place, a step is made there
pub departed_made : (P : Step → Type 0) (ms : List Step) (us : List ℕ) (a : ℕ) → EachMade P ms us → 0 < departed ms us a → (m : Step) × (m.at ≡ a) × P m
departed_made P [] us a h lt = absurd (omega (arith, lt))
departed_made P (m ∷ ms) [] a h lt = absurd (omega (arith, lt))
departed_made P (m ∷ ms) (u ∷ us) a h lt = elim (eqb_tells m.at a) [
  | inl e ↦ elim (eqb_tells u 0) [
    | inl k ↦ departed_made P ms us a h.1 (rest (m.at == a) k.1 lt)
    | inr k ↦ (m, e.1, h.0 (positive u k.1))
  ]
  | inr e ↦ departed_made P ms us a h.1 (other (m.at == a) e.0 lt)
]
  where
    rest : (t : Bool) → u ≡ 0 → 0 < cond t u 0 + departed ms us a → 0 < departed ms us a
    rest true z h = omega (arith, z, h)
    rest false z h = omega (arith, h)

    other : (t : Bool) → t ≡ false → 0 < cond t u 0 + departed ms us a → 0 < departed ms us a
    other true e h = cc
    other false e h = omega (arith, h)

-- ---- openness

pub is_le : (a b : ℤ) → int_le a b ≡ true → a ≤ℤ b
is_le a b h = grind (arith, ints, nat_tests)

-- a maximum that isn't low is the other number
pub larger_open : (low least z : ℤ) → low <ℤ least → least ≤ℤ larger low z → (larger low z ≡ z) × (least ≤ℤ z)
larger_open low least z above h = by_test (int_le low z) h
  where
    by_test : (t : Bool) → least ≤ℤ cond t z low → (cond t z low ≡ z) × (least ≤ℤ z)
    by_test true h = (refl, h)
    by_test false h = absurd (omega (arith, ints))

tight_open : (least : ℤ) (calls : Step → Type 0) (g : Level) (m : Step) → HasOpenParts least calls g.weights g.worths m → GoesOpenly (is_tight g) (λ a. least ≤ℤ worth_at g.worths a) (λ k. (least ≤ℤ worth_at g.weights k.at) × calls k) m
tight_open least calls g m parts at chosen =
    let le = is_le (worth_at g.worths m.at) (cost g.weights m +ℤ worth_at g.worths m.on) chosen in
    let p = parts (omega (arith, ints)) in ((p.0, p.1), p.2)

-- the pass to the ends is made at open places
pub ends_made : (least : ℤ) (calls : Step → Type 0) (g : Level) (n : ℕ) (us : List ℕ) (ms : List Step) → n < length us → Each (IsStep n) ms → Each (HasOpenParts least calls g.weights g.worths) ms → StandsOpen us (λ a. least ≤ℤ worth_at g.worths a) →
    EachMade (λ k. (least ≤ℤ worth_at g.weights k.at) × calls k) ms (spread (is_tight g) us ms)
ends_made least calls g n us ms long i parts stands =
    spread_made (is_tight g) n us ms (λ a. least ≤ℤ worth_at g.worths a) (λ k. (least ≤ℤ worth_at g.weights k.at) × calls k) long i
    (each_map (HasOpenParts least calls g.weights g.worths) (GoesOpenly (is_tight g) (λ a. least ≤ℤ worth_at g.worths a) (λ k. (least ≤ℤ worth_at g.weights k.at) × calls k)) ms (λ m p. tight_open least calls g m p) parts) stands

-- ---- turns

-- a place of a loop with an open way
abbrev pub HasOpen : ℤ → Loop → List (Option ℤ) → ℕ → Type 0
HasOpen least l ways a = (l.header ≤ a) × (y : ℤ) × (way_at ways (a - l.header) ≡ Some y) × (least ≤ℤ y)

-- a way along a chosen step from an open way is an open sum
pub way_open : (low least c : ℤ) (p o : Option ℤ) (x : ℤ) → low <ℤ least → p ≡ Some x → least ≤ℤ x → is_way p (further low c o) ≡ true → (y : ℤ) × (o ≡ Some y) × (least ≤ℤ (c +ℤ y)) × (x ≤ℤ (c +ℤ y))
way_open low least c p o x above is wide h = by_way o (subst (λ q. is_way q (further low c o) ≡ true) is h)
  where
    by_way : (o : Option ℤ) → is_way (Some x) (further low c o) ≡ true → (y : ℤ) × (o ≡ Some y) × (least ≤ℤ (c +ℤ y)) × (x ≤ℤ (c +ℤ y))
    by_way None h = cc
    by_way (Some y) h =
        let le = is_le x (larger low (c +ℤ y)) h in
        let e = larger_open low least (c +ℤ y) above (omega (arith, ints)) in
        let e0 = e.0 in (y, refl, e.1, omega (arith, ints))

pub is_loss : (g : ℤ) → int_lt g (pos 0) ≡ true → g <ℤ pos 0
is_loss g t = grind (arith, ints, nat_tests)

pub is_no_loss : (g : ℤ) → int_lt g (pos 0) ≡ false → pos 0 ≤ℤ g
is_no_loss g t = grind (arith, ints, nat_tests)

-- a loss, so often as once at least
loses_more : (n : ℕ) (z : ℤ) → 0 < n → z <ℤ pos 0 → (z *ℤ pos n) ≤ℤ z
loses_more zero z h neg = absurd (omega arith)
loses_more (suc n) z h neg =
    let a = mul-le n z (pos 0) (omega (arith, ints)) in
    let b : (pos n *ℤ pos 0) ≡ pos 0 = omega (arith, ints) in
    let e : z *ℤ pos (suc n) ≡ (pos n *ℤ z) +ℤ z = split n z in omega (arith, ints)
  where
    split : (n : ℕ) (z : ℤ) → z *ℤ pos (suc n) ≡ (pos n *ℤ z) +ℤ z
    split n z = omega (arith, ints)

pub record Turns (least : ℤ) (low : ℤ) (weights : List ℤ) (ms : List Step) (l : Loop) : Type 0 where
  pub way : ℤ
  pub is : way_at (turn_ways low weights l ms) 0 ≡ Some way
  pub wide : least ≤ℤ way
  pub gains : least ≤ℤ gain low weights l ms
  pub gain_is : gain low weights l ms ≡ way +ℤ l.price
  pub back : least ≤ℤ l.price

-- an open first weight of a loop that loses and has to turn is what all its further turns lose
pub loss_weight : (low least : ℤ) (l : Loop) (g : ℤ) → low <ℤ least → g <ℤ pos 0 → 2 ≤ l.min → least ≤ℤ first_weight low l g → (first_weight low l g ≡ g *ℤ (pos l.min -ℤ pos 1)) × (least ≤ℤ (g *ℤ (pos l.min -ℤ pos 1)))
loss_weight low least l g above neg two wide = by_gain (int_lt g (pos 0)) refl (nat_le l.min 1) refl wide
  where
    by_gain : (t : Bool) → int_lt g (pos 0) ≡ t → (u : Bool) → nat_le l.min 1 ≡ u → least ≤ℤ cond t (cond u (pos 0) (larger low (g *ℤ (pos l.min -ℤ pos 1)))) (g *ℤ (pos l.max -ℤ pos 1)) →
        (cond t (cond u (pos 0) (larger low (g *ℤ (pos l.min -ℤ pos 1)))) (g *ℤ (pos l.max -ℤ pos 1)) ≡ g *ℤ (pos l.min -ℤ pos 1)) × (least ≤ℤ (g *ℤ (pos l.min -ℤ pos 1)))
    by_gain false t u e h = absurd (grind (arith, ints, nat_tests))
    by_gain true t true e h = absurd (grind (arith, nat_tests))
    by_gain true t false e h = larger_open low least (g *ℤ (pos l.min -ℤ pos 1)) above h

-- a loop with an open weight that has to turn, or may, turns by an open way
pub weight_turns : (least : ℤ) (calls : Step → Type 0) (low : ℤ) (weights : List ℤ) (ms : List Step) (l : Loop) → low <ℤ least → least ≤ℤ pos 0 → TurnsOpenly least calls low weights ms l → least ≤ℤ first_weight low l (gain low weights l ms) →
    (pos 0 ≤ℤ gain low weights l ms) ⊎ (2 ≤ l.min) → Turns least low weights ms l
weight_turns least calls low weights ms l above nothing turns wide why = by_way (way_at (turn_ways low weights l ms) 0) refl
  where
    gain_open : least ≤ℤ gain low weights l ms
    gain_open = elim why [
      | inl h ↦ omega (arith, ints)
      | inr two ↦ by_gain (int_lt (gain low weights l ms) (pos 0)) refl two
    ]
      where
        by_gain : (t : Bool) → int_lt (gain low weights l ms) (pos 0) ≡ t → 2 ≤ l.min → least ≤ℤ gain low weights l ms
        by_gain false t two = let p = is_no_loss (gain low weights l ms) t in omega (arith, ints)
        by_gain true t two =
            let neg = is_loss (gain low weights l ms) t in
            let z = loss_weight low least l (gain low weights l ms) above neg two wide in
            let z1 = z.1 in
            let n : pos l.min -ℤ pos 1 ≡ pos (l.min - 1) = omega (arith, ints) in
            let f : gain low weights l ms *ℤ (pos l.min -ℤ pos 1) ≡ gain low weights l ms *ℤ pos (l.min - 1) = ap (λ (y : ℤ). gain low weights l ms *ℤ y) n in
            let k = loses_more (l.min - 1) (gain low weights l ms) (omega (arith, two)) neg in
            omega (arith, ints)

    by_way : (w : Option ℤ) → way_at (turn_ways low weights l ms) 0 ≡ w → Turns least low weights ms l
    by_way None e =
        let z : gain low weights l ms ≡ low = ap (gain_by low l.price) e in
        let p = gain_open in absurd (omega (arith, ints))
    by_way (Some t) e =
        let z : gain low weights l ms ≡ larger low (t +ℤ l.price) = ap (gain_by low l.price) e in
        let p = gain_open in
        let k = larger_open low least (t +ℤ l.price) above (omega (arith, ints)) in
        let k0 = k.0 in
        record { way = t; is = e; wide = (turns.turn t e k.1).0; gains = p; gain_is = omega (arith, ints); back = (turns.turn t e k.1).1 }

pub may_turn : (l : Loop) (g : ℤ) → 0 < further_turns l g → (pos 0 ≤ℤ g) ⊎ (2 ≤ l.min)
may_turn l g h = by_test (int_lt g (pos 0)) refl (nat_le l.min 1) refl h
  where
    by_test : (t : Bool) → int_lt g (pos 0) ≡ t → (u : Bool) → nat_le l.min 1 ≡ u → 0 < cond t (cond u 0 (l.min - 1)) (l.max - 1) → (pos 0 ≤ℤ g) ⊎ (2 ≤ l.min)
    by_test false t u e h = inl (grind (arith, ints, nat_tests))
    by_test true t true e h = absurd (omega (arith, h))
    by_test true t false e h = inr (grind (arith, nat_tests))

pub positive_product : (a b : ℕ) → 0 < a * b → (0 < a) × (0 < b)
positive_product zero b h = absurd (omega (arith, h))
positive_product (suc a) zero h = absurd (omega (arith, h))
positive_product (suc a) (suc b) h = (omega arith, omega arith)

module _ (least : ℤ) (calls : Step → Type 0) (low : ℤ) (n : ℕ) (ms : List Step) (steps : AreSteps n ms) (weights gw : List ℤ) (long : n < length weights) (above : low <ℤ least) (nothing : least ≤ℤ pos 0) where
  -- the step's weight is open, and what it calls
  abbrev IsOpenStep : Step → Type 0
  IsOpenStep k = (least ≤ℤ worth_at gw k.at) × calls k

  turn_goes : (l : Loop) (ls : List Loop) → ((a : ℕ) → l.header < a → worth_at gw a ≡ worth_at (weighed low ms weights ls) a) → least ≤ℤ worth_at gw l.header → (m : Step) → m.at < m.on → HasOpenWay least calls (weighed low ms weights ls) l.header (turn_ways low (weighed low ms weights ls) l ms) m →
      GoesOpenly (is_turn low (weighed low ms weights ls) l (turn_ways low (weighed low ms weights ls) l ms)) (HasOpen least l (turn_ways low (weighed low ms weights ls) l ms)) IsOpenStep m
  turn_goes l ls inner head m up parts at chosen =
      let c = both_first (in_range l m.at) (is_way (way_at (turn_ways low (weighed low ms weights ls) l ms) (m.at - l.header)) (further low (cost (weighed low ms weights ls) m) (way_at (turn_ways low (weighed low ms weights ls) l ms) (m.on - l.header)))) chosen in
      let w = way_open low least (cost (weighed low ms weights ls) m) (way_at (turn_ways low (weighed low ms weights ls) l ms) (m.at - l.header)) (way_at (turn_ways low (weighed low ms weights ls) l ms) (m.on - l.header)) at.1 above at.2 at.3 c.1 in
      let p = parts w.0 w.1 w.2 in
      ((weight_at p.0, p.1), (let from = at.0 in omega (arith, from, up), w.0, w.1, p.2))
    where
      weight_at : least ≤ℤ worth_at (weighed low ms weights ls) m.at → least ≤ℤ worth_at gw m.at
      weight_at h = elim (eqb_tells m.at l.header) [
        | inl e ↦ subst (λ a. least ≤ℤ worth_at gw a) (sym e.1) head
        | inr e ↦ let from = at.0 in let e1 = e.1 in let s = inner m.at (behind l.header m.at from e1) in omega (arith, ints)
      ]
        where
          behind : (a b : ℕ) → a ≤ b → b ≢ a → a < b
          behind a b h d = elim (eqb_tells b a) [ inl e ↦ absurd (d e.1) | inr e ↦ strict a b h d ]
            where
              strict : (a b : ℕ) → a ≤ b → b ≢ a → a < b
              strict zero zero h d = absurd (d refl)
              strict zero (suc b) h d = omega arith
              strict (suc a) zero h d = absurd (omega (arith, h))
              strict (suc a) (suc b) h d = let r = strict a b (omega (arith, h)) (λ e. d (ap suc e)) in omega (arith, r)

  pub turn_made : (l : Loop) (ls : List Loop) → IsLoopOf n ms l → TurnsOpenly least calls low (weighed low ms weights ls) ms l → worth_at gw l.header ≡ first_weight low l (gain low (weighed low ms weights ls) l ms) → ((a : ℕ) → l.header < a → worth_at gw a ≡ worth_at (weighed low ms weights ls) a) →
      (b : ℕ) (counts : List ℕ) → EachMade IsOpenStep ms counts → EachMade IsOpenStep ms (turn_counts n ms counts (turning_of low (weighed low ms weights ls) l ms (turn_ways low (weighed low ms weights ls) l ms) b))
  turn_made l ls fits turns first inner b counts before =
      by_departed (turns_of ms counts (turning_of low (weighed low ms weights ls) l ms (turn_ways low (weighed low ms weights ls) l ms) b)) refl
    where
      long_only : (u : ℕ) → n < length (only_at n l.header u)
      long_only u = let e = only-long n l.header u in omega (arith, e)

      header_open : 0 < turns_of ms counts (turning_of low (weighed low ms weights ls) l ms (turn_ways low (weighed low ms weights ls) l ms) b) → (least ≤ℤ worth_at gw l.header) × HasOpen least l (turn_ways low (weighed low ms weights ls) l ms) l.header
      header_open h =
          let p = positive_product (further_turns l (gain low (weighed low ms weights ls) l ms)) (departed ms counts l.header) h in
          let d = departed_made IsOpenStep ms counts l.header before p.1 in
          let w : least ≤ℤ worth_at gw l.header = subst (λ a. least ≤ℤ worth_at gw a) d.1 d.2.0 in
          let t = weight_turns least calls low (weighed low ms weights ls) ms l above nothing turns (subst (λ (z : ℤ). least ≤ℤ z) first w) (may_turn l (gain low (weighed low ms weights ls) l ms) p.0) in
          let z : l.header - l.header ≡ 0 = omega arith in
          (w, (omega arith, t.way, subst (λ i. way_at (turn_ways low (weighed low ms weights ls) l ms) i ≡ Some t.way) (sym z) t.is, t.wide))

      by_departed : (u : ℕ) → turns_of ms counts (turning_of low (weighed low ms weights ls) l ms (turn_ways low (weighed low ms weights ls) l ms) b) ≡ u → EachMade IsOpenStep ms (spread (is_turn low (weighed low ms weights ls) l (turn_ways low (weighed low ms weights ls) l ms)) (only_at n l.header u) ms)
      by_departed zero e = spread_made (is_turn low (weighed low ms weights ls) l (turn_ways low (weighed low ms weights ls) l ms)) n (only_at n l.header 0) ms (λ a. ⊥) IsOpenStep (long_only 0) (steps_are n ms steps)
          (each_map (IsStep n) (GoesOpenly (is_turn low (weighed low ms weights ls) l (turn_ways low (weighed low ms weights ls) l ms)) (λ a. ⊥) IsOpenStep) ms (λ m i a. absurd a) (steps_are n ms steps))
          (λ a h. elim (eqb_tells a l.header) [
            | inl q ↦ let r = fits.range in let r0 = r.0 in let r1 = r.1 in let z = only_there n l.header 0 (omega (arith, r0, r1)) in let w = ap (λ c. amount_at (only_at n l.header 0) c) q.1 in absurd (omega (arith, h, z, w))
            | inr q ↦ let z = only_elsewhere n l.header 0 a q.1 in absurd (omega (arith, h, z))
          ])
      by_departed (suc u) e =
          let p = header_open (omega (arith, e)) in
          spread_made (is_turn low (weighed low ms weights ls) l (turn_ways low (weighed low ms weights ls) l ms)) n (only_at n l.header (suc u)) ms (HasOpen least l (turn_ways low (weighed low ms weights ls) l ms)) IsOpenStep (long_only (suc u)) (steps_are n ms steps)
          (each_both (IsStep n) (HasOpenWay least calls (weighed low ms weights ls) l.header (turn_ways low (weighed low ms weights ls) l ms)) (GoesOpenly (is_turn low (weighed low ms weights ls) l (turn_ways low (weighed low ms weights ls) l ms)) (HasOpen least l (turn_ways low (weighed low ms weights ls) l ms)) IsOpenStep) ms
          (λ m i w. turn_goes l ls inner p.0 m i.0 w) (steps_are n ms steps) turns.steps)
          (λ a h. elim (eqb_tells a l.header) [
            | inl q ↦ subst (HasOpen least l (turn_ways low (weighed low ms weights ls) l ms)) (sym q.1) p.1
            | inr q ↦ let z = only_elsewhere n l.header (suc u) a q.1 in absurd (omega (arith, h, z))
          ])

  -- weights at and behind a header are those of its loop and the later ones
  header_first : (l : Loop) (ls : List Loop) → l.header < length weights → worth_at (weighed low ms weights (l ∷ ls)) l.header ≡ first_weight low l (gain low (weighed low ms weights ls) l ms)
  header_first l ls lt = get_or-set_at (weighed low ms weights ls) l.header l.header (first_weight low l (gain low (weighed low ms weights ls) l ms)) (pos 0) refl (let e = weighed-long low ms weights ls in omega (arith, e, lt))

  -- all that is made is made at open places
  pub all_made : (ls : List Loop) → AreLoops n ms ls → TurnAllOpenly least calls low weights ms ls → ((a : ℕ) → From a ls → worth_at gw a ≡ worth_at (weighed low ms weights ls) a) → (counts : List ℕ) → EachMade IsOpenStep ms counts → EachMade IsOpenStep ms (counts_of n ms counts (turnings low ms weights ls))
  all_made [] loops turns same counts before = before
  all_made (l ∷ ls) loops turns same counts before = by_back l.back (λ cs h. all_made ls loops.2 turns.1 later cs h)
    where
      later : (a : ℕ) → From a ls → worth_at gw a ≡ worth_at (weighed low ms weights ls) a
      later a f =
          let b = from_above a l.header ls loops.1 f in
          same a (omega (arith, b)) ∙ set_other (weighed low ms weights ls) l.header a (first_weight low l (gain low (weighed low ms weights ls) l ms)) (λ e. absurd (omega (arith, e, b)))

      inner : (a : ℕ) → l.header < a → worth_at gw a ≡ worth_at (weighed low ms weights ls) a
      inner a lt = same a (omega (arith, lt)) ∙ set_other (weighed low ms weights ls) l.header a (first_weight low l (gain low (weighed low ms weights ls) l ms)) (λ e. absurd (omega (arith, e, lt)))

      first : worth_at gw l.header ≡ first_weight low l (gain low (weighed low ms weights ls) l ms)
      first = same l.header (omega arith) ∙ header_first l ls (let r = loops.0.range in let r0 = r.0 in let r1 = r.1 in omega (arith, r0, r1, long))

      by_back : (p : Option ℕ) → ((cs : List ℕ) → EachMade IsOpenStep ms cs → EachMade IsOpenStep ms (counts_of n ms cs (turnings low ms weights ls))) → EachMade IsOpenStep ms (counts_of n ms counts (with_back low (weighed low ms weights ls) l ms p (turnings low ms weights ls)))
      by_back None next = next counts before
      by_back (Some b) next = by_test (b == l.header)
        where
          by_way : (w : Option ℤ) → EachMade IsOpenStep ms (counts_of n ms counts (with_way w (turning_of low (weighed low ms weights ls) l ms (turn_ways low (weighed low ms weights ls) l ms) b) (turnings low ms weights ls)))
          by_way None = next counts before
          by_way (Some x) = next (together counts (turn_counts n ms counts (turning_of low (weighed low ms weights ls) l ms (turn_ways low (weighed low ms weights ls) l ms) b)))
              (together_made IsOpenStep ms counts (turn_counts n ms counts (turning_of low (weighed low ms weights ls) l ms (turn_ways low (weighed low ms weights ls) l ms) b)) before (turn_made l ls loops.0 turns.0 first inner b counts before))

          by_test : (t : Bool) → EachMade IsOpenStep ms (counts_of n ms counts (cond t (turnings low ms weights ls) (with_way (way_at (turn_ways low (weighed low ms weights ls) l ms) 0) (turning_of low (weighed low ms weights ls) l ms (turn_ways low (weighed low ms weights ls) l ms) b) (turnings low ms weights ls))))
          by_test true = next counts before
          by_test false = by_way (way_at (turn_ways low (weighed low ms weights ls) l ms) 0)
