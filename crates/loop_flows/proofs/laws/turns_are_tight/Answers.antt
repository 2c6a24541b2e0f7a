use Rattle.std.proofs.Common.{refl}
use Rattle.loop_walks.specs.Levels.{weighed}
use Rattle.loop_flows.proofs.SlackLemmas.{all_tight}
use Rattle.loop_flows.proofs.laws.turns_are_tight.Goals as goal

pub returns : goal.returns
returns c least low n ms weights w ls ks counts steps loops long above nothing paid same turns none settled pairs made tight =
    all_tight least low (λ m. Unit {0}) n ms steps weights (weighed low ms weights ls) long above nothing w paid same ls ks counts loops turns none settled pairs (λ a f. refl) made tight
