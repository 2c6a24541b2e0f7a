use Rattle.std.proofs.Common.{◌≤◌, arith, sym, subst}
use Rattle.response_analysis.proofs.Shares.{least_held}
use Rattle.response_analysis.proofs.lowest.least_with.Goals as goal

pub returns-then-shares-lt-WHOLE : goal.returns-then-shares-lt-WHOLE
returns-then-shares-lt-WHOLE c = λ other holds. subst (λ n. n ≤ other) (sym c.div_ceil.ensures) (least_held c.args.cycles c.args.shares other (omega arith) holds)
