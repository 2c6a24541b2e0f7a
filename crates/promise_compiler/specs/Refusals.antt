-- Why a source is not compiled.
use Rattle.std.specs.Prelude.{ℕ, Bool, List}
use Rattle.facts_front.specs.Fronts.{RefusesSource}
use Rattle.promise_compiler.specs.declared.refusal.Refusal.{Refusal}
use Rattle.promise_compiler.specs.declared.refusal.Refusal.TheVariants.{Front, Memory}

-- its front call refuses it; want of memory says nothing of it
abbrev pub Fails : (derive : Bool) → List ℕ → Refusal → Type 0
Fails derive source (Front refusal) = RefusesSource derive source refusal
Fails derive source Memory = Unit {0}
