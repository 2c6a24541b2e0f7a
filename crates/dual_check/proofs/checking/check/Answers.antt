use Rattle.std.proofs.Common.{refl}
use Rattle.rv_core.specs.Table.{table_of}
use Rattle.dual_check.proofs.VerdictLemmas.{refused, bounds_images}
use Rattle.dual_check.proofs.checking.check.Goals as goal

pub returns-in-Some-clause-yes : goal.returns-in-Some-clause-yes
returns-in-Some-clause-yes c = (λ e. cc, λ a. absurd (refused (table_of c.args.costs.now) c.args.system.now c.args.cert.now c.in-Some.row c.requires c.in-Some.ensures.some a))

pub returns-in-None-clause-within : goal.returns-in-None-clause-within
returns-in-None-clause-within c = λ e image loadable is. bounds_images (table_of c.args.costs.now) c.args.system.now c.args.cert.now c.requires (c.in-None.ensures.none refl) image loadable is
