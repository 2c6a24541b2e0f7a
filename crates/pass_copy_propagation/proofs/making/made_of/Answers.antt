use Rattle.std.proofs.Common.{refl, subst, sym}
use Rattle.low_ir.specs.Programs.{low_of}
use Rattle.low_ir.specs.View.{program}
use Rattle.pass_copy_propagation_law.specs.Copies.{IsCopied}
use Rattle.pass_copy_propagation_law.proofs.Formed.{formed}
use Rattle.pass_copy_propagation.proofs.making.made_of.Goals as goal

pub with_functions-requires : goal.with_functions-requires
with_functions-requires c =
    let low = c.args.low in
    let made = program c.args.new.items low.claims.items low.objects.items low.main low.marks in
    formed (low_of low) made (record { functions = c.requires; claims = refl; objects = refl; main = refl; marks = refl }) low.is_low

pub returns : goal.returns
returns c = subst (IsCopied (low_of c.args.low)) (sym c.with_functions.ensures) (record { functions = c.requires; claims = refl; objects = refl; main = refl; marks = refl })
