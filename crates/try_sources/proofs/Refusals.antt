-- Why a source isn't read, where that isn't want of memory.
use Rattle.std.proofs.Common.{ℕ, false, List, refl}
use Rattle.std.specs.Prelude.{◌≢◌}
use Rattle.facts_front.specs.Fronts.{Fails, RefusesSource}
use Rattle.facts_front.specs.declared.refusal.Refusal.{Refusal}
use Rattle.facts_front.specs.declared.refusal.Refusal.TheVariants.{TooLong, Lex, Parse, Types, Calls, Flow, Memory}

pub refuses : (source : List ℕ) (refusal : Refusal) → refusal ≢ Memory → Fails false source refusal → RefusesSource false source refusal
refuses source TooLong other h = h
refuses source (Lex fault) other h = h
refuses source (Parse fault at) other h = h
refuses source (Types fault) other h = h
refuses source (Calls fault at) other h = h
refuses source (Flow fault) other h = h
refuses source Memory other h = absurd (other refl)
