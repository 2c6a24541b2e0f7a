use Rattle.std.proofs.Common.{sym, ◌∙◌}
use Rattle.pass_dataflow_facts.specs.Facts.{number_in}
use Rattle.pass_dataflow_facts.specs.Forms.{form_value}
use Rattle.pass_dataflow_transfer.proofs.Facts.{difference_none}
use Rattle.pass_dataflow_transfer.proofs.reading.agree.Goals as goal

pub returns-in-Some-plus : goal.returns-in-Some-plus
returns-in-Some-plus c = λ done s known.
    let v = number_in s in
    sym (c.in-Some.ensures s known)
    ∙ difference_none (form_value v c.in-Some.left) (form_value v c.in-Some-in_place.right) (form_value v c.in-Some-plus.difference) (c.vanishes.ensures done s known) (c.in-Some-plus.ensures v)
    ∙ c.in-Some-in_place.ensures s known
