use Rattle.std.proofs.lemmas.Nat.Gcd.{same_from_IsGcd}
use Rattle.simplex_tables.proofs.RowLemmas.{gcd_is}
use Rattle.simplex_tables.proofs.rows.gcd.Goals as goal

pub returns : goal.returns
returns c = same_from_IsGcd _ _ _ _ c.common.ensures (gcd_is c.args.a c.args.b)
