use Rattle.std.proofs.lemmas.Result.{IfOk-weaker}
use Rattle.layout_program.specs.Laid.{IsLaid}
use Rattle.compile_stages.specs.Made.{IsInMemory}
use Rattle.wcc_compile.proofs.making.image_of.Goals as goal

pub lay-requires : goal.lay-requires
lay-requires c = c.requires.sizes

pub returns : goal.returns
returns c =
    let code = c.args.code.now in
    let pl = c.args.placement.now in
    IfOk-weaker c.lay.result (IsLaid pl code) (IsInMemory pl code)
    (λ y exact. record { laid = exact; moves = c.requires.moves; keeps_low = c.lay.ensures.keeps })
    c.lay.ensures.exact
