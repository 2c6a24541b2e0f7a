use Rattle.std.proofs.Common.{◌≡◌, drop, map}
use Rattle.command_words.specs.Requests.{has_twins}
use Rattle.command_words.proofs.names.has_twins.Given as goal

abbrev pub invariant-names : goal.invariant-names
invariant-names l = has_twins (map (λ s. s.now) (drop l.i l.names)) ≡ has_twins (map (λ s. s.now) l.names)
