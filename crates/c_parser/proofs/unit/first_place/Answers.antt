use Rattle.c_tree.proofs.FirstPlaces.{first_place}
use Rattle.c_parser.proofs.unit.first_place.Goals as goal

pub returns-in-Some-clause-some : goal.returns-in-Some-clause-some
returns-in-Some-clause-some c = first_place c.args.items.now c.in-Some.first.now c.place.result c.in-Some.ensures.value c.place.ensures
