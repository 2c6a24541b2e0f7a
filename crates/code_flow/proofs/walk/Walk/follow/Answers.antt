use Rattle.code_flow.proofs.ListLemmas.{on_ok}
use Rattle.code_flow.proofs.WalkLemmas.{sees_both}
use Rattle.code_flow.proofs.walk.Walk.follow.Goals as goal

pub returns-in_ok-see-in-Branches : goal.returns-in_ok-see-in-Branches
returns-in_ok-see-in-Branches c =
    rw (c.in-Branches.is, ← c.behind-in-Branches.ensures) (on_ok _ c.see-in-Branches-2.ensures (λ h. sees_both _ _ _ _ _ c.in_ok-see-in-Branches.ensures h))

pub returns-in_ok-see-in-Calls : goal.returns-in_ok-see-in-Calls
returns-in_ok-see-in-Calls c =
    rw (c.in-Calls.is, ← c.behind-in-Calls.ensures) (on_ok _ c.see-in-Calls-2.ensures (λ h. sees_both _ _ _ _ _ c.in_ok-see-in-Calls.ensures h))
