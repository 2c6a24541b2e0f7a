use Rattle.image_segments.proofs.ContentLemmas.{element_stands}
use Rattle.image_segments.proofs.laws.elements_stand.Goals as goal

pub returns : goal.returns
returns c = λ next placed xs o x zs i rows e less. element_stands next placed xs o x zs i rows e less
