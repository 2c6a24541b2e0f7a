-- What a source becomes is light: its facts allow few nodes to be executed.
use Rattle.std.proofs.Common.{◌≡◌, ℕ, ◌*◌, ◌^◌, ◌<◌, ◌≤◌, Bool, true, false, List, refl, sym, subst, arith}
use Rattle.std.specs.Prelude.{◌+◌, if◌then◌else◌, max, nat_lt, Result, Ok, Err}
use Rattle.std.proofs.Math.Nat.{max-le}
use Rattle.std.proofs.lemmas.Bool.{ltb-true}
use Rattle.facts_definitions.specs.FlowFacts.{AreFacts, bounds_in, facts_of, most_main, unless_faulty, unless_too_often}
use Rattle.facts_definitions.specs.Most.{cut}
use Rattle.facts_definitions.specs.declared.facts.Facts.{Facts}
use Rattle.facts_definitions.specs.declared.facts.FlowFault.{FlowFault}
use Rattle.facts_definitions.specs.declared.facts.FlowFault.TheVariants.{TooOften}
use Rattle.types_tree.specs.Tree as c
use Rattle.high_ir.specs.Tree as high
use Rattle.high_ir.specs.Weight.{weight as high_weight}
use Rattle.plan_formed.proofs.Facts.{says}
use Rattle.low_ir.specs.Code.{Low}
use Rattle.low_ir.specs.Room.{weight}
use Rattle.lower_law.specs.Programs.{KeepsProgram}

abbrev ok : Facts → Result Facts FlowFault
ok x = Ok x

abbrev err : FlowFault → Result Facts FlowFault
err f = Err f

err_ok : (f : FlowFault) (x : Facts) → err f ≡ ok x → ⊥
err_ok f x e = cc e

limited : (most : ℕ) (f x : Facts) (fault : FlowFault) (t : Bool) → nat_lt most (2 ^ 40) ≡ t → (if t then ok f else err fault) ≡ ok x → most < 2 ^ 40
limited most f x fault true e h = ltb-true most (2 ^ 40) e
limited most f x fault false e h = absurd (err_ok fault x h)

pub most_limited : (source : c.Program) (names : List (List ℕ)) (facts : Facts) → AreFacts source names facts → facts.most < 2 ^ 40
most_limited source names facts are =
    let most = most_main source names (bounds_in source are.derived) facts.ranks in
    let own = facts_of source names facts.ranks are.derived in
    let said = says source names facts.ranks are.derived facts are.whole in
    let within = subst (λ o. unless_faulty o (unless_too_often most own) ≡ ok facts) said.passes are.whole in
    subst (λ (x : Facts). x.most < 2 ^ 40) (sym said.facts_are) (limited most own facts (TooOften (cut most)) (nat_lt most (2 ^ 40)) refl within)

pub source_light : (source : c.Program) (names : List (List ℕ)) (facts : Facts) (p : high.Program) (q : Low) → AreFacts source names facts → high_weight p ≤ 16 * facts.most → KeepsProgram p q → 4000 * weight q < 2 ^ 60
source_light source names facts p q are small keeps =
    let most = most_limited source names facts are in
    let least : 16 * high_weight p + 64 ≤ 2 ^ 48 + 64 = omega (arith, most, small) in
    let rest : 2 ^ 48 ≤ 2 ^ 48 + 64 = omega arith in
    let low = keeps.weight in
    let few : max (16 * high_weight p + 64) (2 ^ 48) ≤ 2 ^ 48 + 64 = max-le least rest in
    omega (arith, low, few)
