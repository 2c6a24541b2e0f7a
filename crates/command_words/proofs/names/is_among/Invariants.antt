use Rattle.std.proofs.Common.{◌≡◌, drop, map}
use Rattle.std.specs.List.{list_any}
use Rattle.std.specs.Str.{bytes_eq}
use Rattle.command_words.proofs.names.is_among.Given as goal

abbrev pub invariant-others : goal.invariant-others
invariant-others l = list_any (λ o. bytes_eq l.name o) (map (λ s. s.now) (drop l.other-index l.others)) ≡ list_any (λ o. bytes_eq l.name o) (map (λ s. s.now) l.others)
