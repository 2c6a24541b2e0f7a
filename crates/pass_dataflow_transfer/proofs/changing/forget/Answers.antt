use Rattle.std.proofs.Common.{◌≡◌, ◌<◌, ◌+◌, suc, ap, arith, length, length-set, refl, subst, sym, ◌∙◌}
use Rattle.std.specs.Prelude.{slice_set}
use Rattle.pass_dataflow_transfer.specs.Learning.{Survives}
use Rattle.pass_dataflow_transfer.proofs.Tables.{Turned, turned_all, turned_more}
use Rattle.pass_dataflow_transfer.proofs.changing.forget.Goals as goal

pub loop-at-init : goal.loop-at-init
loop-at-init c = record { long = refl; turned = refl }

pub loop-at-preserved : goal.loop-at-preserved
loop-at-preserved c =
    let R = Survives c.args.register in
    let n = c.loop-at.at in
    let before = c.args.facts.now.items in
    let now = c.loop-at.facts.items in
    let new = c.survivor-new.result in
    let t = c.loop-at-test.true in
    let e = c.len-at-end.ensures in
    let o = c.args.facts.now.ok.0 in
    let l = c.loop-at.invariant.long in
    let lt : n < length now = omega arith in
    let next : suc n ≡ n + 1 = omega arith in
    record {
      long = ap length c.set_fact.ensures ∙ length-set now n new ∙ l;
      turned = subst (λ xs. Turned R (n + 1) before xs) (sym c.set_fact.ensures) (subst (λ k. Turned R k before (slice_set now n new)) next (turned_more R n before now c.index.result.now new lt c.index.ensures c.survivor-new.ensures c.loop-at.invariant.turned));
    }

pub returns : goal.returns
returns c =
    let t = c.loop-at-test.false in
    let e = c.len-at-end.ensures in
    let o = c.args.facts.now.ok.0 in
    let l = c.loop-at.invariant.long in
    turned_all (Survives c.args.register) c.loop-at.at c.args.facts.now.items c.loop-at.facts.items (omega arith) c.loop-at.invariant.turned
