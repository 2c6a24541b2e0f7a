-- How often blocks begin, by the visits of their starts.
use Rattle.std.proofs.Common.{◌≡◌, ◌≢◌, ℕ, zero, suc, ◌+◌, ◌<◌, ◌≤◌, Bool, true, false, List, [], ◌∷◌, ◌++◌, length, pos, refl, sym, ap, ◌∙◌, ⊎_elim, subst, arith, if◌then◌else◌}
use Rattle.std.specs.Prelude.{◌==◌, ◌&&◌, ◌+ℤ◌}
use Rattle.std.proofs.Math.IntN.{pos-+ℤ-pos}
use Rattle.std.proofs.lemmas.Bool.{cases_eq, false≢true}
use Rattle.std.proofs.lemmas.Bool.Decides.{nat_tests}
use Rattle.rv_core.specs.Runs.{Visit, Setup, mrun}
use Rattle.code_flow_system.specs.KeptRuns.{visit_count, EndsAtExit}
use Rattle.asm_items.specs.Items.{Starts}
use Rattle.low_ir.specs.declared.run.Began.{Began}
use Rattle.low_ir.specs.Effects.{World}
use Rattle.low_ir.specs.Places.{Placed}
use Rattle.register_places.specs.Totals.{once, began_count}
use Rattle.asm_program.specs.Functions.{function_in}
use Rattle.simulation_relation.specs.Layouts.{Layout}
use Rattle.simulation_relation.specs.Positions.{seen}
use Rattle.simulation_relation.specs.Following.{Ends}
use Rattle.image_frames.specs.Memories.{Placement}
use Rattle.image_definition.specs.Images.{exits_in}
use Rattle.simulation_loaded.specs.Layouts.{blocks_begun, functions_begun, layout_of}

same_test : (a : ℕ) → (a == a) ≡ true
same_test a = grind (arith, nat_tests)

other_test : (a b : ℕ) → a ≢ b → (a == b) ≡ false
other_test a b h = grind (arith, nat_tests, h)

turned : (a b : ℕ) → (a == b) ≡ (b == a)
turned a b = ⊎_elim (λ (same : a ≡ b). ap (λ x. x == b) same ∙ ap (λ x. b == x) (sym same)) (λ (other : a ≢ b). other_test a b other ∙ sym (other_test b a (λ e. other (sym e)))) (cases_eq a b)

module _ (f b : ℕ) where
  began_append : (xs ys : List Began) → began_count f b (xs ++ ys) ≡ began_count f b xs + began_count f b ys
  began_append [] ys = omega arith
  began_append (x ∷ xs) ys = let h = began_append xs ys in omega (arith, h)

  module _ (s : Starts) (a : ℕ) where
    abbrev here : ℕ → ℕ → Bool → List Began
    here k n t = if t then record { function = k; block = n } ∷ [] else []

    abbrev own : ℕ → ℕ → ℕ
    own k n = began_count f b (blocks_begun s a k n)

    here_other : (k n : ℕ) (t : Bool) → ((k == f) && (n == b)) ≡ false → began_count f b (here k n t) ≡ 0
    here_other k n true e = ap (λ x. once x + 0) e
    here_other k n false e = refl

    here_same : (t : Bool) → began_count f b (here f b t) ≡ once t
    here_same true = ap (λ x. once (x && (b == b)) + 0) (same_test f) ∙ ap (λ x. once x + 0) (same_test b)
    here_same false = refl

    not_function : (k n : ℕ) → k ≢ f → ((k == f) && (n == b)) ≡ false
    not_function k n h = ap (λ x. x && (n == b)) (other_test k f h)

    not_block : (n : ℕ) → n ≢ b → ((f == f) && (n == b)) ≡ false
    not_block n h = ap (λ x. x && (n == b)) (same_test f) ∙ other_test n b h

    next : (k n : ℕ) → own k (suc n) ≡ own k n + began_count f b (here k n (s k n == a))
    next k n = began_append (blocks_begun s a k n) (here k n (s k n == a))

    in_others : (k n : ℕ) → k ≢ f → own k n ≡ 0
    in_others k zero h = refl
    in_others k (suc n) h = let x = next k n in let y = in_others k n h in let z = here_other k n (s k n == a) (not_function k n h) in omega (arith, x, y, z)

    before : (n : ℕ) → n ≤ b → own f n ≡ 0
    before zero h = refl
    before (suc n) h = let x = next f n in let y = before n (omega (arith, h)) in let z = here_other f n (s f n == a) (not_block n (λ e. omega (arith, e, h))) in omega (arith, x, y, z)

    in_own : (n : ℕ) → b < n → own f n ≡ once (s f b == a)
    in_own zero h = absurd (omega (arith, h))
    in_own (suc n) h =
        let x = next f n in
        ⊎_elim
        (λ (same : n ≡ b).
        let y = before n (omega (arith, same)) in
        let z : began_count f b (here f n (s f n == a)) ≡ once (s f b == a) = ap (λ m. began_count f b (here f m (s f m == a))) same ∙ here_same (s f b == a) in
        omega (arith, x, y, z))
        (λ (other : n ≢ b). let y = in_own n (omega (arith, h, other)) in let z = here_other f n (s f n == a) (not_block n other) in omega (arith, x, y, z))
        (cases_eq n b)

    module _ (p : Placed) where
      abbrev all : ℕ → ℕ
      all n = began_count f b (functions_begun s a p n)

      one_more : (n : ℕ) → all (suc n) ≡ all n + own n (length (function_in p n).blocks)
      one_more n = began_append (functions_begun s a p n) (blocks_begun s a n (length (function_in p n).blocks))

      before_it : (n : ℕ) → n ≤ f → all n ≡ 0
      before_it zero h = refl
      before_it (suc n) h = let x = one_more n in let y = before_it n (omega (arith, h)) in let z = in_others n (length (function_in p n).blocks) (λ e. omega (arith, e, h)) in omega (arith, x, y, z)

      -- a block begins at its start alone
      begun_once : (n : ℕ) → f < n → b < length (function_in p f).blocks → all n ≡ once (s f b == a)
      begun_once zero h less = absurd (omega (arith, h))
      begun_once (suc n) h less =
          let x = one_more n in
          ⊎_elim
          (λ (same : n ≡ f).
          let y = before_it n (omega (arith, same)) in
          let z : own n (length (function_in p n).blocks) ≡ once (s f b == a) = ap (λ k. own k (length (function_in p k).blocks)) same ∙ in_own (length (function_in p f).blocks) less in
          omega (arith, x, y, z))
          (λ (other : n ≢ f).
          let y = begun_once n (omega (arith, h, other)) less in
          let z = in_others n (length (function_in p n).blocks) other in
          omega (arith, x, y, z))
          (cases_eq n f)

  when_by : (t u : Bool) → t ≡ u → (if t then pos 1 else pos 0) ≡ pos (once u)
  when_by true true e = refl
  when_by true false e = absurd (false≢true (sym e))
  when_by false true e = absurd (false≢true e)
  when_by false false e = refl

  -- where a block begins at one address alone, that one's visits tell how often
  counted : (l : Layout) (a : ℕ) → ((x : ℕ) → began_count f b (l.begins x) ≡ once (a == x)) → (vs : List Visit) → visit_count vs a ≡ pos (began_count f b (seen l vs))
  counted l a begins [] = refl
  counted l a begins (v ∷ vs) =
      let here = begins v.at in
      let both = began_append (seen l vs) (l.begins v.at) in
      let all : once (a == v.at) + began_count f b (seen l vs) ≡ began_count f b (seen l vs ++ l.begins v.at) = omega (arith, here, both) in
      ap (λ z. z +ℤ visit_count vs a) (when_by (v.at == a) (a == v.at) (turned v.at a))
      ∙ ap (λ z. pos (once (a == v.at)) +ℤ z) (counted l a begins vs)
      ∙ pos-+ℤ-pos (once (a == v.at)) (began_count f b (seen l vs))
      ∙ ap pos all

pub starts_counted : (pl : Placement) (p : Placed) (s : Setup) (v : ℕ) (u : World) (n f b : ℕ) → Ends (layout_of pl p) s v u n → f < length p.functions → b < length (function_in p f).blocks
    → visit_count (mrun s n).visits ((layout_of pl p).starts f b) ≡ pos (began_count f b u.trace)
starts_counted pl p s v u n f b ends there less =
    counted f b (layout_of pl p) ((layout_of pl p).starts f b) (λ x. begun_once f b (layout_of pl p).starts x p (length p.functions) there less) (mrun s n).visits
    ∙ ap (λ es. pos (began_count f b es)) ends.events

pub ends_at_exit : (pl : Placement) (p : Placed) (s : Setup) (v : ℕ) (u : World) (n : ℕ) → Ends (layout_of pl p) s v u n → EndsAtExit (exits_in pl p) (mrun s n).visits
ends_at_exit pl p s v u n ends = subst (λ vs. EndsAtExit (exits_in pl p) vs) (sym ends.visits) (ends.exit, ends.inside)
