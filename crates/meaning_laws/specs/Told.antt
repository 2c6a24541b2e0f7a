-- Runs of sources that are undefined, if at all, by one of the rules of the language.
use Rattle.std.specs.Prelude.{ℕ, ◌≤◌}
use Rattle.meaning_semantics.specs.declared.source_run.SourceRun.{SourceRun}
use Rattle.meaning_semantics.specs.declared.source_run.SourceRun.TheVariants.{Done, Undefined, Broken}

abbrev pub IsRule : ℕ → Type 0
IsRule rule = (1 ≤ rule) × (rule ≤ 8)

abbrev pub IsTold : SourceRun → Type 0
IsTold (Done output value counts) = Unit {0}
IsTold (Undefined rule at) = IsRule rule
IsTold (Broken what) = Unit {0}
