-- Which arrays calls pass for an array parameter.
use Rattle.std.specs.Prelude.{◌≡◌, ℕ, ◌<◌, true, length, map, Some, slice_get, slice_index_or}
use Rattle.high_ir.specs.declared.object.Base.{Base}
use Rattle.high_ir.specs.declared.object.Base.TheVariants.{Object, Parameter}
use Rattle.high_ir.specs.Formed.{IsHigh}
use Rattle.high_ir.specs.Tree.{Function, Program}
use Rattle.low_ir.specs.Effects.{is_member}
use Rattle.lower_definition.specs.Calls.{Site, all_passed, sites_of}
use Rattle.lower_origins.specs.Closed.{listed_at}
use Rattle.lower_origins.specs.Reached.{IsReached}

-- how many arrays a function takes
abbrev pub arrays_taken : Program → ℕ → ℕ
arrays_taken p f = slice_index_or (map (λ h. h.arrays) p.functions) f 0

-- a call in function g, which is reached, passes an array for parameter j of function f
pub record Passes (p : Program) (g f j : ℕ) (b : Base) : Type 0 where
  pub reached : IsReached p g
  pub caller : Function
  pub there : slice_get p.functions g ≡ Some caller
  pub number : ℕ
  pub site : Site
  pub stands : slice_get (sites_of caller.body) number ≡ Some site
  pub calls : site.function ≡ f
  pub array : slice_get site.arrays j ≡ Some b
  pub taken : j < arrays_taken p f

-- a call passes an object of the program itself, or one that was passed to its own function
pub data IsPassed (p : Program) : ℕ → ℕ → ℕ → Type 0 where
  Itself : (g f j o : ℕ) (there : o < length p.objects) (passes : Passes p g f j (Object o)) → IsPassed p f j o
  Handed : (g f j i o : ℕ) (passes : Passes p g f j (Parameter i)) (before : IsPassed p g i o) → IsPassed p f j o

pub record ListsPassed (p : Program) : Type 0 where
  pub passed : (f j o : ℕ) → is_member (listed_at (all_passed p) f j) o ≡ true → IsPassed p f j o
  pub listed : (f j o : ℕ) → IsPassed p f j o → is_member (listed_at (all_passed p) f j) o ≡ true

abbrev pub ClaimsArePassed : Type 0
ClaimsArePassed = (p : Program) → IsHigh p → ListsPassed p
