use Rattle.std.proofs.Common.{◌^◌, ap, sym, Bool, Some}
use Rattle.std.proofs.lemmas.Bool.{lt-ltb}
use Rattle.facts_loops.specs.Counting.{only_if}
use Rattle.bound_finder.proofs.counting.fitted.Goals as goal

pub returns : goal.returns
returns c = ap (λ (b : Bool). only_if b (Some c.args.word)) (sym (lt-ltb c.args.word (2 ^ 32) c.ranges.word.fits))
