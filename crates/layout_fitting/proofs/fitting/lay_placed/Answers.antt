use Rattle.layout_fitting.proofs.fitting.lay_placed.Goals as goal

pub returns : goal.returns
returns c = λ sizes.
    let has = c.has_sizes.ensures.exact sizes in
    let none = c.if-has_sizes.false in
    cc
