-- Loose worths and weights aren't negative, and jumps back are worth their prices.
use Rattle.std.proofs.Common.{◌≡◌, ◌≢◌, ℕ, ◌-◌, ◌≤◌, ◌<◌, ℤ, pos, ◌+ℤ◌, ◌-ℤ◌, ◌*ℤ◌, ◌≤ℤ◌, arith, refl, sym, ap, ◌∙◌, subst, List, [], ◌∷◌, length, inl, inr, Bool, true, false, cond, Option, Some, None, get_or-set_other}
use Rattle.std.specs.Prelude.{nat_le, slice_set}
use Rattle.std.specs.Int.RustNames.{int_le, int_lt}
use lib.IntN.{negsuc}
use Rattle.std.proofs.lemmas.Int.{ints}
use Rattle.std.proofs.lemmas.Grind.{get_or-set_at}
use Rattle.std.proofs.lemmas.Bool.Decides.{nat_tests, eqb_tells}
use Rattle.std.proofs.Math.ListN.{length-set}
use Rattle.loop_walks.specs.declared.step.Step.{Step}
use Rattle.loop_walks.specs.declared.step.Loop.{Loop}
use Rattle.loop_walks.specs.Walks.{larger, worth_at}
use Rattle.loop_walks.specs.Turns.{way_at, turn_ways, gain_by, gain}
use Rattle.loop_walks.specs.Multipliers.{first_weight}
use Rattle.loop_walks.specs.Levels.{weighed, Level}
use Rattle.loop_walks.specs.Rows.{Each, IsBack, IsLoopOf, AreLoops}
use Rattle.loop_walks.proofs.EachLemmas.{steps_are}
use Rattle.loop_walks.proofs.LargerLemmas.{larger_left, larger_right}
use Rattle.loop_walks.proofs.WalkLemmas.{relaxed_grows}
use Rattle.loop_walks.proofs.LevelLemmas.{weighed-long}
use Rattle.loop_ranges.specs.LooseWalk.{back_price, back_raised, backed, loose_level, AllMayTurn, IsLooseWalk}

-- numbers

pub turns_positive : (g : ℤ) (k : ℕ) → pos 0 ≤ℤ g → 0 < k → pos 0 ≤ℤ (g *ℤ (pos k -ℤ pos 1))
turns_positive (pos g) k h p =
    let e : pos k -ℤ pos 1 ≡ pos (k - 1) = omega (arith, ints) in
    let f : pos 0 ≤ℤ (pos g *ℤ pos (k - 1)) = omega (arith, ints) in
    subst (λ (z : ℤ). pos 0 ≤ℤ (pos g *ℤ z)) (sym e) f
turns_positive (negsuc g) k h p = absurd (omega (arith, ints))

pub times_positive : (k : ℕ) (z : ℤ) → pos 0 ≤ℤ z → pos 0 ≤ℤ (pos k *ℤ z)
times_positive k (pos z) h = omega (arith, ints)
times_positive k (negsuc z) h = absurd (omega (arith, ints))

-- the larger of 0 and a number that isn't negative
pub larger-zero : (z : ℤ) → pos 0 ≤ℤ z → larger (pos 0) z ≡ z
larger-zero z h = by_test (int_le (pos 0) z) refl
  where
    by_test : (t : Bool) → int_le (pos 0) z ≡ t → cond t z (pos 0) ≡ z
    by_test true e = refl
    by_test false e = absurd (grind (arith, ints, nat_tests))

pub gain_positive : (price : ℤ) (o : Option ℤ) → pos 0 ≤ℤ gain_by (pos 0) price o
gain_positive price None = omega (arith, ints)
gain_positive price (Some t) = larger_left (pos 0) (t +ℤ price)

-- a turn that doesn't lose has all its turns as weight
pub weight_is : (l : Loop) (g : ℤ) → pos 0 ≤ℤ g → first_weight (pos 0) l g ≡ g *ℤ (pos l.max -ℤ pos 1)
weight_is l g h = by_test (int_lt g (pos 0)) refl
  where
    by_test : (t : Bool) → int_lt g (pos 0) ≡ t → cond t (cond (nat_le l.min 1) (pos 0) (larger (pos 0) (g *ℤ (pos l.min -ℤ pos 1)))) (g *ℤ (pos l.max -ℤ pos 1)) ≡ g *ℤ (pos l.max -ℤ pos 1)
    by_test true e = absurd (grind (arith, ints, nat_tests))
    by_test false e = refl

pub weight_positive : (l : Loop) (g : ℤ) → 0 < l.max → pos 0 ≤ℤ g → pos 0 ≤ℤ first_weight (pos 0) l g
weight_positive l g often h = let e = weight_is l g h in rw e (turns_positive g l.max h often)

pub set_at : (ws : List ℤ) (a : ℕ) (z : ℤ) → a < length ws → worth_at (slice_set ws a z) a ≡ z
set_at ws a z h = get_or-set_at ws a a z (pos 0) refl h

pub set_other : (ws : List ℤ) (a b : ℕ) (z : ℤ) → b ≢ a → worth_at (slice_set ws a z) b ≡ worth_at ws b
set_other ws a b z d = get_or-set_other ws a b z (pos 0) d

set_positive : (ws : List ℤ) (h : ℕ) (z : ℤ) (a : ℕ) → h < length ws → pos 0 ≤ℤ z → pos 0 ≤ℤ worth_at ws a → pos 0 ≤ℤ worth_at (slice_set ws h z) a
set_positive ws h z a long pz pw = elim (eqb_tells a h) [
  | inl k ↦ let e : worth_at (slice_set ws h z) a ≡ z = ap (λ b. worth_at (slice_set ws h z) b) k.1 ∙ set_at ws h z long in rw e pz
  | inr k ↦ let e = set_other ws h a z k.1 in rw e pw
]

set_grows : (ws : List ℤ) (h : ℕ) (z : ℤ) (a : ℕ) → h < length ws → worth_at ws h ≤ℤ z → worth_at ws a ≤ℤ worth_at (slice_set ws h z) a
set_grows ws h z a long le = elim (eqb_tells a h) [
  | inl k ↦ subst (λ b. worth_at ws b ≤ℤ worth_at (slice_set ws h z) b) (sym k.1) (let e = set_at ws h z long in rw e le)
  | inr k ↦ let e = set_other ws h a z k.1 in rw e (omega (arith, ints))
]

-- weights

pub weighed_positive : (n : ℕ) (ms ks : List Step) (weights : List ℤ) (ls : List Loop) → n < length weights → AreLoops n ks ls → AllMayTurn ls → ((a : ℕ) → pos 0 ≤ℤ worth_at weights a) → (a : ℕ) → pos 0 ≤ℤ worth_at (weighed (pos 0) ms weights ls) a
weighed_positive n ms ks weights [] long loops turns h a = h a
weighed_positive n ms ks weights (l ∷ ls) long loops turns h a =
    let e = weighed-long (pos 0) ms weights ls in
    let r0 = loops.0.range.0 in let r1 = loops.0.range.1 in
    set_positive (weighed (pos 0) ms weights ls) l.header (first_weight (pos 0) l (gain (pos 0) (weighed (pos 0) ms weights ls) l ms)) a (omega (arith, e, r0, r1, long))
    (weight_positive l (gain (pos 0) (weighed (pos 0) ms weights ls) l ms) turns.0.often (gain_positive l.price (way_at (turn_ways (pos 0) (weighed (pos 0) ms weights ls) l ms) 0)))
    (weighed_positive n ms ks weights ls long loops.2 turns.1 h a)

-- jumps back

pub back_in : (n : ℕ) (ms : List Step) (l : Loop) → IsLoopOf n ms l → (b : ℕ) → l.back ≡ Some b → (l.header ≤ b) × (b < l.end) × Each (λ m. m.at ≢ b) ms
back_in n ms l fits b is = subst (λ o. IsBack l ms o) is fits.back

back_long : (n : ℕ) (ms : List Step) (l : Loop) → IsLoopOf n ms l → (b : ℕ) → l.back ≡ Some b → b ≤ n
back_long n ms l fits b is = let i = (back_in n ms l fits b is).1 in let r = fits.range.1 in omega (arith, i, r)

raised-long : (ws : List ℤ) (l : Loop) (o : Option ℕ) → length (back_raised ws l o) ≡ length ws
raised-long ws l None = refl
raised-long ws l (Some b) = length-set ws b (larger (worth_at ws b) (back_price l b))

pub backed-long : (ws : List ℤ) (ls : List Loop) → length (backed ws ls) ≡ length ws
backed-long ws [] = refl
backed-long ws (l ∷ ls) = raised-long (backed ws ls) l l.back ∙ backed-long ws ls

raised_grows : (ws : List ℤ) (l : Loop) (o : Option ℕ) (a : ℕ) → ((b : ℕ) → o ≡ Some b → b < length ws) → worth_at ws a ≤ℤ worth_at (back_raised ws l o) a
raised_grows ws l None a long = omega (arith, ints)
raised_grows ws l (Some b) a long = set_grows ws b (larger (worth_at ws b) (back_price l b)) a (long b refl) (larger_left (worth_at ws b) (back_price l b))

raised_back : (ws : List ℤ) (l : Loop) (o : Option ℕ) (b : ℕ) → o ≡ Some b → b < length ws → back_price l b ≤ℤ worth_at (back_raised ws l o) b
raised_back ws l None b is long = cc
raised_back ws l (Some c) b is long =
    let e : c ≡ b = cc in
    subst (λ d. back_price l b ≤ℤ worth_at (back_raised ws l (Some d)) b) (sym e) (let f = set_at ws b (larger (worth_at ws b) (back_price l b)) long in rw f (larger_right (worth_at ws b) (back_price l b)))

backed_fits : (n : ℕ) (ms : List Step) (ws : List ℤ) (l : Loop) (ls : List Loop) → n < length ws → IsLoopOf n ms l → (b : ℕ) → l.back ≡ Some b → b < length (backed ws ls)
backed_fits n ms ws l ls long fits b is = let e = backed-long ws ls in let f = back_long n ms l fits b is in omega (arith, e, f, long)

pub backed_grows : (n : ℕ) (ms : List Step) (ws : List ℤ) (ls : List Loop) (a : ℕ) → n < length ws → AreLoops n ms ls → worth_at ws a ≤ℤ worth_at (backed ws ls) a
backed_grows n ms ws [] a long loops = omega (arith, ints)
backed_grows n ms ws (l ∷ ls) a long loops =
    let r = backed_grows n ms ws ls a long loops.2 in
    let s = raised_grows (backed ws ls) l l.back a (backed_fits n ms ws l ls long loops.0) in omega (arith, ints)

-- each jump back is worth its price
abbrev pub AreBacked : (ℕ → ℤ) → List Loop → Type 0
AreBacked worth [] = Unit {0}
AreBacked worth (l ∷ ls) = ((b : ℕ) → l.back ≡ Some b → back_price l b ≤ℤ worth b) × AreBacked worth ls

pub backed_are : (n : ℕ) (ms : List Step) (worth : ℕ → ℤ) (ws : List ℤ) (ls : List Loop) → n < length ws → AreLoops n ms ls → ((a : ℕ) → worth_at (backed ws ls) a ≤ℤ worth a) → AreBacked worth ls
backed_are n ms worth ws [] long loops h = tt
backed_are n ms worth ws (l ∷ ls) long loops h = (
  λ b is. let r = raised_back (backed ws ls) l l.back b is (backed_fits n ms ws l ls long loops.0 b is) in let k = h b in omega (arith, ints),
  backed_are n ms worth ws ls long loops.2 (λ a. let s = raised_grows (backed ws ls) l l.back a (backed_fits n ms ws l ls long loops.0) in let k = h a in omega (arith, ints)),
)

-- the worths of the whole walk

module _ (n : ℕ) (ms : List Step) (v : Level) (ls : List Loop) (walk : IsLooseWalk n ms v ls) where
  pub start_long : n < length (backed v.worths ls)
  start_long = let e = backed-long v.worths ls in let h = walk.blank.worths_long in omega (arith, e, h)

  pub worths_grow : (a : ℕ) → worth_at (backed v.worths ls) a ≤ℤ worth_at (loose_level ms v ls).worths a
  worths_grow a = relaxed_grows (weighed (pos 0) ms v.weights ls) (backed v.worths ls) n ms a start_long (steps_are n ms walk.steps)

  pub worths_positive : (a : ℕ) → pos 0 ≤ℤ worth_at (loose_level ms v ls).worths a
  worths_positive a =
      let g = backed_grows n ms v.worths ls a walk.blank.worths_long walk.loops in
      let k = worths_grow a in
      let p = walk.worths a in omega (arith, ints)

  pub weights_positive : (a : ℕ) → pos 0 ≤ℤ worth_at (loose_level ms v ls).weights a
  weights_positive a = weighed_positive n ms ms v.weights ls walk.blank.weights_long walk.loops walk.turns walk.weights a

  pub backs_are : AreBacked (worth_at (loose_level ms v ls).worths) ls
  backs_are = backed_are n ms (worth_at (loose_level ms v ls).worths) v.worths ls walk.blank.worths_long walk.loops worths_grow
