use Rattle.std.proofs.Common.{subst, sym}
use Rattle.low_ir.specs.Formed.{IsLow}
use Rattle.low_ir.specs.Programs.{low_of}
use Rattle.pass_register_promotion_law.specs.Paying.{IsPromoted}
use Rattle.pass_register_promotion_law.proofs.Formed.{formed}
use Rattle.pass_register_promotion.proofs.program.made_of.Goals as goal

pub with_functions-requires : goal.with_functions-requires
with_functions-requires c =
    let h = c.requires in
    subst IsLow (sym h.is) (formed h.residents h.table (low_of c.args.low) h.may c.args.low.is_low)

pub returns : goal.returns
returns c = subst (IsPromoted (low_of c.args.low)) (sym c.with_functions.ensures) c.requires
