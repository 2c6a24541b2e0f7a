use Rattle.std.proofs.Common.{inr, refl}
use Rattle.pass_common_subexpressions.specs.Making.{source_of}
use Rattle.pass_common_subexpressions.proofs.making.reload_of.Goals as goal

pub returns-in-Some-find : goal.returns-in-Some-find
returns-in-Some-find c =
    inr (record {
      fact = record { source = source_of c.in-Some.given.source; register = c.in-Some-find.register };
      into = c.in-Some.given.into;
      knows = c.in-Some-find.ensures;
      is = c.in-Some.ensures;
      becomes = refl;
    })
