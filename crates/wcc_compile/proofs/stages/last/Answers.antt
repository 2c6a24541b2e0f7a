use Rattle.std.proofs.Common.{sym, subst, ◌∙◌}
use Rattle.rv_core.specs.Table.{table_of}
use Rattle.low_ir.specs.Placings.{placed_of}
use Rattle.low_ir.specs.declared.places.LowReg.{LowReg}
use Rattle.compile_stages.specs.Placed.{CanBePlaced}
use Rattle.wcc_compile.proofs.Steps.{has_room, last_laid, last_made}
use Rattle.wcc_compile.proofs.stages.last.Goals as goal

pub laid-requires : goal.laid-requires
laid-requires c =
    let options = c.args.options.now in
    let b = c.args.first in
    subst (λ (code : LowReg). CanBePlaced c.args.chosen.now (placed_of code)) (sym c.unlaid.ensures.code)
    (c.choices_can_be_placed.ensures (table_of options.costs) b.report.cert.flow.parts b.made.placement (placed_of b.made.code) options.spm c.args.chosen.now (has_room options c.args.source.now b c.requires.first) options.room c.requires.best)

pub with_report-requires : goal.with_report-requires
with_report-requires c =
    let of = c.requires.first.made_of in
    record {
      text = of.text;
      is_source = of.is_source;
      is_made = last_made c.args.options.now c.args.source.now c.args.first c.requires.first c.in_ok-made.made (c.in_ok-made.ensures.stages ∙ c.unlaid.ensures.stages) (c.in_ok-made.ensures.code ∙ c.unlaid.ensures.code) c.in_ok-made.ensures.memory;
    }

pub returns-clause-laid : goal.returns-clause-laid
returns-clause-laid c =
    last_laid c.args.options.now c.args.source.now c.args.first c.requires.first c.in_ok-made.made (c.in_ok-made.ensures.stages ∙ c.unlaid.ensures.stages) (c.in_ok-made.ensures.code ∙ c.unlaid.ensures.code) c.in_ok-made.ensures.memory
    c.args.chosen.now c.requires.best c.in_ok-made.ensures.placed c.with_report.result c.with_report.ensures.made c.with_report.ensures.reported
