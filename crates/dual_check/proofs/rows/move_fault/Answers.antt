use Rattle.std.proofs.Common.{◌∙◌, ◌+ℤ◌}
use Rattle.rv_core.specs.Table.{table_of}
use Rattle.code_flow_system.specs.Certificates.{limits, held, fall, row_size, potential, scaled_price}
use Rattle.dual_check.specs.declared.row.Row.TheVariants.{Wide, Move}
use Rattle.dual_check.proofs.MoveLemmas.{row_by, narrow_of}
use Rattle.dual_check.proofs.rows.move_fault.Goals as goal

pub returns-in-Some : goal.returns-in-Some
returns-in-Some c =
    let narrow = narrow_of (row_size (scaled_price (table_of c.args.costs.now) c.args.system.now c.args.cert.now) (potential c.args.cert.now) (limits c.args.system.now.claims c.args.cert.now) c.args.step.now) (λ le. c.in-Some.ensures.none.1 le) in
    c.uncovered.ensures
    ∙ row_by (row_size (scaled_price (table_of c.args.costs.now) c.args.system.now c.args.cert.now) (potential c.args.cert.now) (limits c.args.system.now.claims c.args.cert.now) c.args.step.now) (scaled_price (table_of c.args.costs.now) c.args.system.now c.args.cert.now c.args.step.now) (fall (potential c.args.cert.now) c.args.step.now +ℤ held (limits c.args.system.now.claims c.args.cert.now) c.args.step.now.at) c.in-Some.left.total (Wide c.args.step.now.at) (Move c.args.step.now.at c.args.step.now.number) narrow c.in-Some.ensures.total
