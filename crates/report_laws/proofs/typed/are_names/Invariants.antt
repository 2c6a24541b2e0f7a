use Rattle.std.proofs.Common.{All, take}
use Rattle.report_laws.specs.Typed.{IsWord}
use Rattle.report_laws.proofs.typed.are_names.Given as goal

abbrev pub invariant-loop-line : goal.invariant-loop-line
invariant-loop-line l = All (λ c. All IsWord c.places) (take l.line-index l.lines)
