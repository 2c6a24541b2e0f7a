use Rattle.std.proofs.Common.{◌≡◌, ℕ, ◌+◌, ◌-◌, ◌*◌, ◌<◌, ◌≤◌, length, None, get_or}
use Rattle.std.specs.Prelude.{max}
use Rattle.rv_core.specs.declared.row.Width.TheVariants.{Word}
use Rattle.rv_core.specs.Words.{decode_of}
use Rattle.rv_core.specs.Memory.{number_at}
use Rattle.rv_sim.proofs.code.decoded.Given as goal

-- the words so far are decoded
abbrev pub invariant-loop-word : goal.invariant-loop-word
invariant-loop-word l = record {
  count : length l.code.items + l.first ≡ l.word;
  within : l.word ≤ max l.first l.end;
  each : (k : ℕ) → k < length l.code.items → get_or l.code.items k None ≡ decode_of (number_at Word l.bytes (4 * (l.first + k) - l.at));
}
