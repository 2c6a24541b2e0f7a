use Rattle.std.proofs.Common.{refl, sym}
use Rattle.code_flow.proofs.WalkLemmas.{sees_other}
use Rattle.code_flow.proofs.walk.Walk.see.Goals as goal

pub returns-in_ok-push-in-None : goal.returns-in_ok-push-in-None
returns-in_ok-push-in-None c = sees_other _ _ c.args.at (sym c.in-None.ensures.value) refl c.in_ok-push-in-None.ensures.items refl
