-- The steps and loops of a function, and the multipliers of its loops, from the places between which they lie.
use Rattle.std.proofs.Common.{◌≡◌, ℕ, zero, suc, ◌+◌, ◌<◌, ◌≤◌, ℤ, ◌+ℤ◌, arith, refl, sym, ap, ◌∙◌, subst, List, [], ◌∷◌, ◌++◌, length, drop, get_or, Bool, true, false, cond, append_assoc, append-nil}
use Rattle.std.specs.Prelude.{◌&&◌, nat_lt, if◌then◌else◌}
use Rattle.std.proofs.Math.Seq.{drop-cons}
use Rattle.std.proofs.lemmas.Bool.Decides.{nat_tests}
use Rattle.std.proofs.lemmas.List.Elements.{All-head, All-tail}
use Rattle.code_flow_system.specs.declared.claims.LoopClaim.{LoopClaim}
use Rattle.code_flow_system.specs.declared.moves.Move.{Move}
use Rattle.code_flow_system.specs.declared.shapes.LoopShape.{LoopShape}
use Rattle.code_flow_system.specs.declared.shapes.Span.{Span}
use Rattle.code_flow_system.specs.Claims.{Claims}
use Rattle.code_flow_system.specs.Systems.{has_moves}
use Rattle.loop_walks.specs.declared.step.Step.{Step}
use Rattle.loop_walks.specs.declared.step.Loop.{Loop}
use Rattle.loop_worths.specs.Sizes.{IsSmall, HaveSmallPrices}
use Rattle.path_places.specs.Reached.{in_span}
use Rattle.path_places.specs.Places.{call_worth, step_of, is_walked, steps_of, loop_of, loops_of}
use Rattle.path_walks.specs.Opens.{is_open}

-- addresses before and behind a function

pub before_span : (p : Span) (a : ℕ) → nat_lt a p.first ≡ true → in_span p a ≡ false
before_span p a h = grind (arith, nat_tests)

pub behind_span : (p : Span) (a : ℕ) → nat_lt a p.end ≡ false → in_span p a ≡ false
behind_span p a h = grind (arith, nat_tests)

pub within_span : (p : Span) (a : ℕ) → nat_lt a p.first ≡ false → nat_lt a p.end ≡ true → in_span p a ≡ true
within_span p a h k = grind (arith, nat_tests)

pub outside : (p : Span) (c : Claims) (ls : List LoopShape) (a : ℕ) → in_span p a ≡ false → is_walked c ls p a ≡ false
outside p c ls a h = ap (λ (t : Bool). t && is_open c ls a) h

next : (i : ℕ) → suc i ≡ i + 1
next i = omega arith

-- ---- steps

module _ (price : Move → ℤ) (all : List Move) (ws : List ℤ) (walked : ℕ → Bool) where
  pub steps_skip : (ms : List Move) (n : ℕ) → ((k : ℕ) (d : Move) → k < n → k < length ms → walked (get_or ms k d).at ≡ false) → steps_of price all ws walked (drop n ms) ≡ steps_of price all ws walked ms
  steps_skip ms zero h = refl
  steps_skip [] (suc n) h = refl
  steps_skip (m ∷ ms) (suc n) h =
      steps_skip ms n (λ k d lt l. h (suc k) d (omega arith) (omega arith))
      ∙ sym (ap (λ (t : Bool). cond t (step_of price all ws m ∷ steps_of price all ws walked ms) (steps_of price all ws walked ms)) (h 0 m (omega arith) (omega arith)))

  pub steps_none : (ms : List Move) (n : ℕ) → ((k : ℕ) (d : Move) → n ≤ k → k < length ms → walked (get_or ms k d).at ≡ false) → steps_of price all ws walked (drop n ms) ≡ []
  steps_none [] zero h = refl
  steps_none (m ∷ ms) zero h =
      ap (λ (t : Bool). cond t (step_of price all ws m ∷ steps_of price all ws walked ms) (steps_of price all ws walked ms)) (h 0 m (omega arith) (omega arith))
      ∙ steps_none ms zero (λ k d le l. h (suc k) d (omega arith) (omega arith))
  steps_none [] (suc n) h = refl
  steps_none (m ∷ ms) (suc n) h = steps_none ms n (λ k d le l. h (suc k) d (omega arith) (omega arith))

  pub steps_next : (ms : List Move) (i : ℕ) (d : Move) → i < length ms → steps_of price all ws walked (drop i ms) ≡ (if walked (get_or ms i d).at then step_of price all ws (get_or ms i d) ∷ steps_of price all ws walked (drop (i + 1) ms) else steps_of price all ws walked (drop (i + 1) ms))
  steps_next ms i d lt = ap (steps_of price all ws walked) (drop-cons ms i d lt ∙ ap (λ j. get_or ms i d ∷ drop j ms) (next i))

-- what is left to add, and that its numbers are small
pub record Adds (out rest whole : List Step) : Type 0 where
  pub joined : out ++ rest ≡ whole
  pub small : HaveSmallPrices rest

pub adds_next : (out out' rest whole : List Step) (m : Step) (t : Bool) → Adds out (if t then m ∷ rest else rest) whole → out' ≡ out ++ (if t then m ∷ [] else []) → Adds out' rest whole
adds_next out out' rest whole m true a e = record {
  joined = ap (λ xs. xs ++ rest) e ∙ (append_assoc out (m ∷ []) rest ∙ a.joined);
  small = All-tail (λ (k : Step). IsSmall k.price) m rest a.small;
}
adds_next out out' rest whole m false a e = record {
  joined = ap (λ xs. xs ++ rest) (e ∙ append-nil out) ∙ a.joined;
  small = a.small;
}

pub adds_small : (out rest whole : List Step) (m : Step) (t : Bool) → Adds out (if t then m ∷ rest else rest) whole → t ≡ true → IsSmall m.price
adds_small out rest whole m true a e = All-head (λ (k : Step). IsSmall k.price) m rest a.small
adds_small out rest whole m false a e = cc

-- the step of the next move of a function, at its price
module _ (price : Move → ℤ) (all : List Move) (ws : List ℤ) (c : Claims) (ls : List LoopShape) (p : Span) (ms : List Move) (i : ℕ) (m : Move) (z : ℤ) (lt : i < length ms) (is : m ≡ get_or ms i m) (inside : in_span p m.at ≡ true) (at_price : price m ≡ z) where
  abbrev walked : ℕ → Bool
  walked = is_walked c ls p

  abbrev behind : List Step
  behind = steps_of price all ws walked (drop (i + 1) ms)

  steps_at : steps_of price all ws walked (drop i ms) ≡ (if is_open c ls m.at then step_of (λ k. z) all ws m ∷ behind else behind)
  steps_at =
      steps_next price all ws walked ms i m lt
      ∙ (ap (λ (x : Move). if walked x.at then step_of price all ws x ∷ behind else behind) (sym is)
      ∙ (ap (λ (t : Bool). if t && is_open c ls m.at then step_of price all ws m ∷ behind else behind) inside
      ∙ ap (λ (y : ℤ). if is_open c ls m.at then step_of (λ k. y) all ws m ∷ behind else behind) at_price))

  module _ (out whole : List Step) (a : Adds out (steps_of price all ws walked (drop i ms)) whole) where
    here : Adds out (if is_open c ls m.at then step_of (λ k. z) all ws m ∷ behind else behind) whole
    here = subst (λ (xs : List Step). Adds out xs whole) steps_at a

    pub step_small : is_open c ls m.at ≡ true → IsSmall (z +ℤ call_worth all ws m.to m.behind)
    step_small e = adds_small out behind whole (step_of (λ k. z) all ws m) (is_open c ls m.at) here e

    pub step_added : (out' : List Step) → out' ≡ out ++ (if is_open c ls m.at then step_of (λ k. z) all ws m ∷ [] else []) → Adds out' behind whole
    step_added out' e = adds_next out out' behind whole (step_of (λ k. z) all ws m) (is_open c ls m.at) here e

-- ---- loops

module _ (price : Move → ℤ) (low : ℤ) (all : List Move) (c : Claims) (p : Span) (ms : List Step) where
  pub loops_skip : (cs : List LoopClaim) (ls : List LoopShape) (n : ℕ) → length ls ≡ length cs → ((k : ℕ) (d : LoopShape) → k < n → k < length ls → in_span p (get_or ls k d).header ≡ false) → loops_of price low all c p ms (drop n cs) (drop n ls) ≡ loops_of price low all c p ms cs ls
  loops_skip cs ls zero e h = refl
  loops_skip [] [] (suc n) e h = refl
  loops_skip [] (l ∷ ls) (suc n) e h = refl
  loops_skip (claim ∷ cs) [] (suc n) e h = absurd (omega (arith, e))
  loops_skip (claim ∷ cs) (l ∷ ls) (suc n) e h =
      loops_skip cs ls n (omega (arith, e)) (λ k d lt j. h (suc k) d (omega arith) (omega arith))
      ∙ sym (ap (λ (t : Bool). cond (t && has_moves all l.header) (loop_of price low all c p ms claim l ∷ loops_of price low all c p ms cs ls) (loops_of price low all c p ms cs ls)) (h 0 l (omega arith) (omega arith)))

  pub loops_none : (cs : List LoopClaim) (ls : List LoopShape) (n : ℕ) → ((k : ℕ) (d : LoopShape) → n ≤ k → k < length ls → in_span p (get_or ls k d).header ≡ false) → loops_of price low all c p ms (drop n cs) (drop n ls) ≡ []
  loops_none [] ls zero h = refl
  loops_none (claim ∷ cs) [] zero h = refl
  loops_none (claim ∷ cs) (l ∷ ls) zero h =
      ap (λ (t : Bool). cond (t && has_moves all l.header) (loop_of price low all c p ms claim l ∷ loops_of price low all c p ms cs ls) (loops_of price low all c p ms cs ls)) (h 0 l (omega arith) (omega arith))
      ∙ loops_none cs ls zero (λ k d le lt. h (suc k) d (omega arith) (omega arith))
  loops_none [] ls (suc n) h = refl
  loops_none (claim ∷ cs) [] (suc n) h = none (drop n cs)
    where
      none : (ds : List LoopClaim) → loops_of price low all c p ms ds [] ≡ []
      none [] = refl
      none (d ∷ ds) = refl
  loops_none (claim ∷ cs) (l ∷ ls) (suc n) h = loops_none cs ls n (λ k d le lt. h (suc k) d (omega arith) (omega arith))

  pub loops_next : (cs : List LoopClaim) (ls : List LoopShape) (i : ℕ) (d : LoopClaim) (b : LoopShape) → i < length cs → i < length ls → in_span p (get_or ls i b).header ≡ true →
      loops_of price low all c p ms (drop i cs) (drop i ls) ≡ (if has_moves all (get_or ls i b).header then loop_of price low all c p ms (get_or cs i d) (get_or ls i b) ∷ loops_of price low all c p ms (drop (i + 1) cs) (drop (i + 1) ls) else loops_of price low all c p ms (drop (i + 1) cs) (drop (i + 1) ls))
  loops_next cs ls i d b lt lt' inside =
      ap (λ ds. loops_of price low all c p ms ds (drop i ls)) (drop-cons cs i d lt ∙ ap (λ j. get_or cs i d ∷ drop j cs) (next i))
      ∙ (ap (λ bs. loops_of price low all c p ms (get_or cs i d ∷ drop (i + 1) cs) bs) (drop-cons ls i b lt' ∙ ap (λ j. get_or ls i b ∷ drop j ls) (next i))
      ∙ ap (λ (t : Bool). cond (t && has_moves all (get_or ls i b).header) (loop_of price low all c p ms (get_or cs i d) (get_or ls i b) ∷ loops_of price low all c p ms (drop (i + 1) cs) (drop (i + 1) ls)) (loops_of price low all c p ms (drop (i + 1) cs) (drop (i + 1) ls))) inside)

pub loop_added : (out out' rest whole : List Loop) (l : Loop) (t : Bool) → out ++ (if t then l ∷ rest else rest) ≡ whole → out' ≡ out ++ (if t then l ∷ [] else []) → out' ++ rest ≡ whole
loop_added out out' rest whole l true a e = ap (λ xs. xs ++ rest) e ∙ (append_assoc out (l ∷ []) rest ∙ a)
loop_added out out' rest whole l false a e = ap (λ xs. xs ++ rest) (e ∙ append-nil out) ∙ a
