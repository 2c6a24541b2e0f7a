use Rattle.std.proofs.Common.{rules}
use Rattle.std.proofs.lemmas.Result.{MatchResult-weaker}
use Rattle.types_tree.specs.View.{program_of}
use Rattle.flow_facts.proofs.Outcome.{faultless}
use Rattle.flow_facts.proofs.making.outcome.Goals as goal

pub returns : goal.returns
returns c =
    MatchResult-weaker c.sound.result c.sound.ensures (λ outcome made.
    faultless (program_of c.args.program.now) c.args.program.now.names.items c.args.ranks.now c.args.derived.now c.in_ok-known.known c.in_ok-sites.sites.items outcome
    c.in_ok-sites.ensures c.in_ok-known.ensures (search rules) made) (λ memory no_outcome. no_outcome)
