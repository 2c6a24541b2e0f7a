use Rattle.std.proofs.Common.{sym, arith}
use Rattle.image_saving.proofs.KeptLemmas.{kept_below, kept_past}
use Rattle.image_saving.proofs.sites.Site.keeps.Goals as goal

pub returns-then-register-lt24 : goal.returns-then-register-lt24
returns-then-register-lt24 c = kept_below c.args.self.now c.self.inside.callee c.self.inside.kept c.args.register (sym c.self.view_is) c.if-register-lt24.true

pub returns-else-register-lt24 : goal.returns-else-register-lt24
returns-else-register-lt24 c = kept_past c.args.self.now c.self.inside.callee c.self.inside.kept c.args.register (sym c.self.view_is) (omega (arith, c.if-register-lt24.false))
