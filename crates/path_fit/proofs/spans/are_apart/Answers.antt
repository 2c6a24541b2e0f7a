use Rattle.std.proofs.Common.{refl}
use Rattle.path_fit.proofs.ApartLemmas.{order_apart}
use Rattle.path_fit.proofs.spans.are_apart.Goals as goal

pub returns-then-in_order : goal.returns-then-in_order
returns-then-in_order c = (λ e. order_apart c.args.spans.now 0 (c.requires c.if-in_order.true), λ h. refl)
