-- What a verdict says of a run and of what a source means on the same input.
use Rattle.std.specs.Prelude.{◌≡◌, ◌≢◌, ◌++◌, ℕ, ℤ, List, Option, Some, None, codes, decimal, slice_get, sum_by}
use Rattle.meaning_semantics.specs.declared.source_run.SourceRun.{SourceRun}
use Rattle.meaning_semantics.specs.declared.source_run.SourceRun.TheVariants.{Done, Undefined, Broken}
use Rattle.high_ir.specs.Runs.{count_of}
use Rattle.high_ir.specs.declared.copies.MarkCopies.{MarkCopies}
use Rattle.try_sources.specs.declared.comparing.Ended.{Ended}
use Rattle.try_sources.specs.declared.comparing.Verdict.{Verdict}
use Rattle.try_sources.specs.declared.comparing.Verdict.TheVariants.{Equal, OtherValue, OtherOutput, OtherCount, NotGood, NotKept}

-- how often the copies of a mark were passed in all
abbrev pub passed : (trace : List ℕ) → (copies : List ℕ) → ℕ
passed trace copies = sum_by (λ m. count_of m trace) copies

-- the copies of a mark were passed as often as the source counts
abbrev pub IsCounted : (trace : List ℕ) → Option MarkCopies → Option ℕ → Type 0
IsCounted trace None None = Unit {0}
IsCounted trace (Some mark) (Some count) = passed trace mark.new.items ≡ count
IsCounted trace None (Some count) = ⊥
IsCounted trace (Some mark) None = ⊥

-- the same for the mark of a number
abbrev pub CountsAlike : (trace : List ℕ) → List MarkCopies → List ℕ → ℕ → Type 0
CountsAlike trace marks counts k = IsCounted trace (slice_get marks k) (slice_get counts k)

-- the first number that is counted otherwise
abbrev pub CountsSay : Option ℕ → (trace : List ℕ) → List MarkCopies → List ℕ → Type 0
CountsSay None trace marks counts = (k : ℕ) → CountsAlike trace marks counts k
CountsSay (Some k) trace marks counts = CountsAlike trace marks counts k → ⊥

-- of a run that has ended and a kept one
abbrev pub EndsSay : Verdict → Ended → List MarkCopies → (output : List ℕ) → (value : ℤ) → (counts : List ℕ) → Type 0
EndsSay Equal run marks output value counts = (run.value ≡ value) × ((run.output.items ≡ output) × ((k : ℕ) → CountsAlike run.trace.items marks counts k))
EndsSay OtherValue run marks output value counts = run.value ≢ value
EndsSay OtherOutput run marks output value counts = run.output.items ≢ output
EndsSay (OtherCount k) run marks output value counts = CountsAlike run.trace.items marks counts k → ⊥
EndsSay NotGood run marks output value counts = ⊥
EndsSay NotKept run marks output value counts = ⊥

abbrev pub Says : Verdict → Option Ended → List MarkCopies → SourceRun → Type 0
Says verdict run marks (Undefined rule at) = verdict ≡ NotKept
Says verdict run marks (Broken what) = verdict ≡ NotKept
Says verdict None marks (Done output value counts) = verdict ≡ NotGood
Says verdict (Some run) marks (Done output value counts) = EndsSay verdict run marks output value counts

-- the line of a verdict
abbrev pub text_of : Verdict → List ℕ
text_of Equal = codes "equal"
text_of OtherValue = codes "other value"
text_of OtherOutput = codes "other output"
text_of (OtherCount number) = codes "other count " ++ decimal number
text_of NotGood = codes "not good"
text_of NotKept = codes "not kept"
