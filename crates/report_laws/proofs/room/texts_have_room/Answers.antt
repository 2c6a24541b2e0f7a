use Rattle.report_laws.proofs.Lengths.{short}
use Rattle.report_laws.proofs.room.texts_have_room.Goals as goal

pub returns : goal.returns
returns c = short
