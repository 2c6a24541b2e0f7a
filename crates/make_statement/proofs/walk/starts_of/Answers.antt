use Rattle.std.proofs.Common.{sym, subst}
use Rattle.make_statement.specs.Planned.{IsSmall}
use Rattle.make_statement.proofs.Small.{small_bounds}
use Rattle.make_statement.proofs.walk.starts_of.Goals as goal

pub starts-requires : goal.starts-requires
starts-requires c =
    let small = subst IsSmall (sym c.bounds_at.ensures) (small_bounds c.args.plan.now.bounds.now c.args.number c.requires) in
    record { min = small.min; max = small.max }
