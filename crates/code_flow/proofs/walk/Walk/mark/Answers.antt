use Rattle.std.proofs.Common.{◌≡◌, get_or, false, refl, sym, ◌∙◌}
use Rattle.std.proofs.lemmas.List.{get_or_default}
use Rattle.code_flow.proofs.WalkLemmas.{sees_new}
use Rattle.code_flow.proofs.walk.Walk.mark.Goals as goal

pub returns-in_ok-push : goal.returns-in_ok-push
returns-in_ok-push c =
    let new : get_or c.args.self.now.marks.items c.args.place false ≡ false = sym (get_or_default c.args.self.now.marks.items c.args.place c.index.result.now false c.requires.small) ∙ (sym c.index.ensures ∙ c.if-not-index.true) in
    sees_new _ _ c.args.at c.args.place c.requires.place c.requires.small new refl refl c.in_ok-push.ensures.items
