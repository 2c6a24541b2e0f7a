use Rattle.std.proofs.Common.{◌<◌, ℕ, List, subst, All}
use Rattle.code_flow_system.specs.declared.index.Mention.{Mention}
use Rattle.code_flow_lookup.specs.Runs.{those_at}
use Rattle.path_fact_walks.proofs.MentionLemmas.{unmentioned}
use Rattle.path_fact_walks.proofs.pricing.is_mentioned.Goals as goal

pub returns : goal.returns
returns c = λ none ys long.
    let ms = c.mentions.result.now in
    let here = subst (λ (xs : List Mention). All (λ (m : Mention). m.limit < c.first_fact-first.result) xs) c.mentions_at.ensures (c.any_from.ensures none) in
    let first = subst (λ (n : ℕ). All (λ (m : Mention). m.limit < n) (those_at (λ (m : Mention). m.at) c.args.at ms)) c.first_fact-first.ensures here in
    unmentioned c.args.system.now.claims ms ys c.args.at c.mentions.ensures.adds_up long first
