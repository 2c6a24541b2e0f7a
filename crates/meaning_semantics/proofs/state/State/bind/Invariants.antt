use Rattle.std.proofs.Common.{◌≡◌, ◌+◌, drop}
use Rattle.meaning_semantics.specs.State.{bound}
use Rattle.meaning_semantics.proofs.state.State.bind.Given as goal

abbrev pub invariant-loop-word : goal.invariant-loop-word
invariant-loop-word l =
    (l.object ≡ l.first + l.word-index)
    × (bound l.object l.at (drop l.word-index l.words) l.self ≡ bound l.first l.at l.words l.fn.self)
