use Rattle.std.proofs.Common.{ℕ, Some, ◌≡◌, ◌⊎◌}
use Rattle.std.specs.Prelude.{Vec}
use Rattle.std.specs.Global.{Global}
use Rattle.std.proofs.lemmas.Result.{IfOk-weaker}
use Rattle.pass_jump_threading.specs.declared.facts.Fact.{Fact}
use Rattle.pass_jump_threading.specs.Facts.{Learns, lookup}
use Rattle.pass_jump_threading.proofs.Knowing.{facts_learn}
use Rattle.pass_jump_threading.proofs.facts.learned.Goals as goal

pub returns : goal.returns
returns c =
    let r = c.args.register in
    let o = c.args.word in
    let old = c.args.facts.now in
    let same = c.in_ok-same.same.items in
    IfOk-weaker c.with_fact.result
    (λ (made : Vec Fact Global). (q w : ℕ) → lookup made.items q ≡ Some w → (lookup same q ≡ Some w) ⊎ ((q ≡ r) × (o ≡ Some w)))
    (λ (made : Vec Fact Global). Learns r o old made.items)
    (λ made more. facts_learn r o old same made.items c.in_ok-same.ensures more)
    c.with_fact.ensures
