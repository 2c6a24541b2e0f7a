-- The passes together: what comes to a place leaves it, and each loop turns as often as it has to.
use Rattle.std.proofs.Common.{◌≡◌, ℕ, suc, ◌+◌, ◌≤◌, ◌<◌, arith, refl, sym, ap, ◌∙◌, subst, List, [], ◌∷◌, length, inl, inr, Bool, true, false, cond, nat_eq}
use Rattle.std.proofs.lemmas.Bool.Decides.{eqb_tells}
use Rattle.loop_walks.specs.declared.step.Step.{Step}
use Rattle.loop_walks.specs.Rows.{IsStep, AreSteps, Each}
use Rattle.loop_walks.proofs.EachLemmas.{steps_are}
use Rattle.loop_flows.specs.Passes.{amount_at, made, handed, spread, remains, departed, arrived}
use Rattle.loop_flows.specs.Hands.{AreOpen, StandsOpen}
use Rattle.loop_flows.specs.FlowLaws.{FlowsOn}
use Rattle.loop_flows.specs.Flows.{Turning, only_at, together, turns_of, turn_counts, counts_of, backs_of, backs_from, backs_to, CanTurn, HeadersBehind, CanAllTurn, IsConservedAt, AreTurned}
use Rattle.loop_flows.proofs.SpreadLemmas.{spread_conserves, remains_at_target, here, elsewhere}
use Rattle.loop_flows.proofs.TotalLemmas.{only-long, only_there, only_elsewhere, all_at_target}

pub spread-long : (chosen : Step → Bool) (us : List ℕ) (ms : List Step) → length (spread chosen us ms) ≡ length ms
spread-long chosen us [] = refl
spread-long chosen us (m ∷ ms) = ap suc (spread-long chosen (handed (chosen m) us m) ms)

together-long : (xs ys : List ℕ) → length ys ≡ length xs → length (together xs ys) ≡ length xs
together-long [] ys h = refl
together-long (x ∷ xs) [] h = absurd (omega (arith, h))
together-long (x ∷ xs) (y ∷ ys) h = ap suc (together-long xs ys (omega (arith, h)))

one-add : (t : Bool) (x y : ℕ) → cond t (x + y) 0 ≡ cond t x 0 + cond t y 0
one-add true x y = omega arith
one-add false x y = omega arith

departed-add : (ms : List Step) (xs ys : List ℕ) (a : ℕ) → length xs ≡ length ms → length ys ≡ length ms → departed ms (together xs ys) a ≡ departed ms xs a + departed ms ys a
departed-add [] xs ys a h k = omega arith
departed-add (m ∷ ms) [] ys a h k = absurd (omega (arith, h))
departed-add (m ∷ ms) (x ∷ xs) [] a h k = absurd (omega (arith, k))
departed-add (m ∷ ms) (x ∷ xs) (y ∷ ys) a h k =
    let r = departed-add ms xs ys a (omega (arith, h)) (omega (arith, k)) in
    let o = one-add (nat_eq m.at a) x y in omega (arith, r, o)

arrived-add : (ms : List Step) (xs ys : List ℕ) (a : ℕ) → length xs ≡ length ms → length ys ≡ length ms → arrived ms (together xs ys) a ≡ arrived ms xs a + arrived ms ys a
arrived-add [] xs ys a h k = omega arith
arrived-add (m ∷ ms) [] ys a h k = absurd (omega (arith, h))
arrived-add (m ∷ ms) (x ∷ xs) [] a h k = absurd (omega (arith, k))
arrived-add (m ∷ ms) (x ∷ xs) (y ∷ ys) a h k =
    let r = arrived-add ms xs ys a (omega (arith, h)) (omega (arith, k)) in
    let o = one-add (nat_eq m.on a) x y in omega (arith, r, o)

-- no chosen step begins before a place, so nothing leaves what is before it
none_leave : (chosen : Step → Bool) (us : List ℕ) (ms : List Step) (h a : ℕ) → a < h → Each (λ m. chosen m ≡ true → h ≤ m.at) ms → departed ms (spread chosen us ms) a ≡ 0
none_leave chosen us [] h a lt none = refl
none_leave chosen us (m ∷ ms) h a lt none =
    let r = none_leave chosen (handed (chosen m) us m) ms h a lt none.1 in
    let o = one (chosen m) refl in omega (arith, r, o)
  where
    zero_if : (t : Bool) → ◌≡◌ {A = ℕ} (cond t 0 0) 0
    zero_if true = refl
    zero_if false = refl

    one : (t : Bool) → chosen m ≡ t → cond (nat_eq m.at a) (made t us m) 0 ≡ 0
    one true is = let k = none.0 is in elsewhere a m.at (amount_at us m.at) (λ e. absurd (omega (arith, e, k, lt)))
    one false is = zero_if (nat_eq m.at a)

-- and nothing comes to it
none_come : (chosen : Step → Bool) (h n : ℕ) (us : List ℕ) (ms : List Step) → Each (IsStep n) ms → Each (λ m. chosen m ≡ true → h ≤ m.at) ms → arrived ms (spread chosen us ms) h ≡ 0
none_come chosen h n us [] i none = refl
none_come chosen h n us (m ∷ ms) i none =
    let r = none_come chosen h n (handed (chosen m) us m) ms i.1 none.1 in
    let o = one (chosen m) refl in omega (arith, r, o)
  where
    zero_if : (t : Bool) → ◌≡◌ {A = ℕ} (cond t 0 0) 0
    zero_if true = refl
    zero_if false = refl

    one : (t : Bool) → chosen m ≡ t → cond (nat_eq m.on h) (made t us m) 0 ≡ 0
    one true is = let k = none.0 is in let i0 = i.0.0 in elsewhere h m.on (amount_at us m.at) (λ e. absurd (omega (arith, e, k, i0)))
    one false is = zero_if (nat_eq m.on h)

module _ (n : ℕ) (ms : List Step) (steps : AreSteps n ms) where
  -- a turn pass starts at the header and ends at the jump back
  turn_conserves : (t : Turning) → CanTurn n ms t → (counts : List ℕ) (a : ℕ) →
      departed ms (turn_counts n ms counts t) a + cond (nat_eq t.back a) (turns_of ms counts t) 0 ≡ arrived ms (turn_counts n ms counts t) a + cond (nat_eq t.header a) (turns_of ms counts t) 0
  turn_conserves t can counts a =
      let k = turns_of ms counts t in
      let c = spread_conserves t.chosen n (only_at n t.header (turns_of ms counts t)) ms a long (steps_are n ms steps) in
      let f = from_header (turns_of ms counts t) in
      let g = to_back (turns_of ms counts t) in
      omega (arith, c, f, g)
    where
      long : n < length (only_at n t.header (turns_of ms counts t))
      long = let l = only-long n t.header (turns_of ms counts t) in omega (arith, l)

      from_header : (k : ℕ) → amount_at (only_at n t.header k) a ≡ cond (nat_eq t.header a) k 0
      from_header k = elim (eqb_tells a t.header) [
        | inl e ↦ ap (λ b. amount_at (only_at n t.header k) b) e.1 ∙ (only_there n t.header k can.places.0 ∙ sym (here a t.header k (sym e.1)))
        | inr d ↦ only_elsewhere n t.header k a d.1 ∙ sym (elsewhere a t.header k d.1)
      ]

      to_back : (k : ℕ) → amount_at (remains t.chosen (only_at n t.header k) ms) a ≡ cond (nat_eq t.back a) k 0
      to_back k = elim (eqb_tells a t.back) [
        | inl e ↦ ap (λ b. amount_at (remains t.chosen (only_at n t.header k) ms) b) e.1
            ∙ (all_at_target t.chosen n ms (λ c. t.opened c ≡ true) t.back t.header k can.places.0 steps can.leads can.starts ∙ sym (here a t.back k (sym e.1)))
        | inr d ↦ remains_at_target t.chosen n (only_at n t.header k) ms (λ c. t.opened c ≡ true) t.back (let l = only-long n t.header k in omega (arith, l)) steps can.leads (stands k) a d.1 ∙ sym (elsewhere a t.back k d.1)
      ]
        where
          stands : (k b : ℕ) → 0 < amount_at (only_at n t.header k) b → t.opened b ≡ true
          stands k b p = elim (eqb_tells b t.header) [
            | inl e ↦ subst (λ c. t.opened c ≡ true) (sym e.1) can.starts
            | inr d ↦ let z = only_elsewhere n t.header k b d.1 in absurd (omega (arith, z, p))
          ]

  -- passes of turns keep what is conserved
  turns_conserve : (counts : List ℕ) (ts : List Turning) (a out come : ℕ) → length counts ≡ length ms → CanAllTurn n ms ts → departed ms counts a + out ≡ come + arrived ms counts a →
      departed ms (counts_of n ms counts ts) a + (out + backs_from ts (backs_of n ms counts ts) a) ≡ come + (arrived ms (counts_of n ms counts ts) a + backs_to ts (backs_of n ms counts ts) a)
  turns_conserve counts [] a out come long can h = omega (arith, h)
  turns_conserve counts (t ∷ ts) a out come long can h =
      let sl = spread-long t.chosen (only_at n t.header (turns_of ms counts t)) ms in
      let c = turn_conserves t can.0 counts a in
      let d = departed-add ms counts (turn_counts n ms counts t) a long sl in
      let e = arrived-add ms counts (turn_counts n ms counts t) a long sl in
      let r = turns_conserve (together counts (turn_counts n ms counts t)) ts a (out + cond (nat_eq t.back a) (turns_of ms counts t) 0) (come + cond (nat_eq t.header a) (turns_of ms counts t) 0)
      (together-long counts (turn_counts n ms counts t) (sl ∙ sym long) ∙ long) can.2 (omega (arith, c, d, e, h)) in
      omega (arith, r)

  -- later turns don't visit an earlier header
  turns_keep : (counts : List ℕ) (ts : List Turning) (a : ℕ) → length counts ≡ length ms → CanAllTurn n ms ts → HeadersBehind a ts → departed ms (counts_of n ms counts ts) a ≡ departed ms counts a
  turns_keep counts [] a long can h = refl
  turns_keep counts (t ∷ ts) a long can h =
      let sl = spread-long t.chosen (only_at n t.header (turns_of ms counts t)) ms in
      let d = departed-add ms counts (turn_counts n ms counts t) a long sl in
      let z = none_leave t.chosen (only_at n t.header (turns_of ms counts t)) ms t.header a h.0 can.0.none_before in
      let r = turns_keep (together counts (turn_counts n ms counts t)) ts a (together-long counts (turn_counts n ms counts t) (sl ∙ sym long) ∙ long) can.2 h.1 in
      omega (arith, d, z, r)

  -- the header's own turns leave it again
  header_turns : (t : Turning) → CanTurn n ms t → (counts : List ℕ) → departed ms (turn_counts n ms counts t) t.header ≡ turns_of ms counts t
  header_turns t can counts =
      let c = turn_conserves t can counts t.header in
      let x = here t.header t.header (turns_of ms counts t) refl in
      let y = elsewhere t.header t.back (turns_of ms counts t) (λ e. can.apart (sym e)) in
      let z = none_come t.chosen t.header n (only_at n t.header (turns_of ms counts t)) ms (steps_are n ms steps) can.none_before in
      omega (arith, c, x, y, z)

  -- each loop turns as often as it has to
  pub flow_turns : (counts : List ℕ) (ts : List Turning) → length counts ≡ length ms → CanAllTurn n ms ts → AreTurned ms (counts_of n ms counts ts) ts (backs_of n ms counts ts)
  flow_turns counts [] long can = tt
  flow_turns counts (t ∷ ts) long can =
      let sl = spread-long t.chosen (only_at n t.header (turns_of ms counts t)) ms in
      let later : length (together counts (turn_counts n ms counts t)) ≡ length ms = together-long counts (turn_counts n ms counts t) (sl ∙ sym long) ∙ long in
      let k = turns_keep (together counts (turn_counts n ms counts t)) ts t.header later can.2 can.1 in
      let d = departed-add ms counts (turn_counts n ms counts t) t.header long sl in
      let o = header_turns t can.0 counts in
      ((departed ms counts t.header, omega (arith, k, d, o), refl), flow_turns (together counts (turn_counts n ms counts t)) ts later can.2)

  pub flow_conserves : (starts counts : List ℕ) (ts : List Turning) (a : ℕ) → length counts ≡ length ms → CanAllTurn n ms ts → departed ms counts a ≡ amount_at starts a + arrived ms counts a → IsConservedAt ms ts starts (counts_of n ms counts ts) (backs_of n ms counts ts) a
  flow_conserves starts counts ts a long can h =
      let r = turns_conserve counts ts a 0 (amount_at starts a) long can (omega (arith, h)) in omega (arith, r)

-- both of a function whose pass to the ends leads on
pub flows_on : (n : ℕ) (ms : List Step) (chosen : Step → Bool) (opened : ℕ → Bool) (starts : List ℕ) (ts : List Turning) → AreSteps n ms → n < length starts → AreOpen chosen ms (λ a. opened a ≡ true) n → StandsOpen starts (λ a. opened a ≡ true) → CanAllTurn n ms ts → FlowsOn n ms starts ts (spread chosen starts ms)
flows_on n ms chosen opened starts ts steps long leads stands can = record {
  conserved = λ a d. flow_conserves n ms steps starts (spread chosen starts ms) ts a (spread-long chosen starts ms) can
      (let c = spread_conserves chosen n starts ms a long (steps_are n ms steps) in let z = remains_at_target chosen n starts ms (λ b. opened b ≡ true) n long steps leads stands a d in omega (arith, c, z));
  turned = flow_turns n ms steps (spread chosen starts ms) ts (spread-long chosen starts ms) can;
}
