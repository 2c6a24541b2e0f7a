use Rattle.std.proofs.Common.{rules, ◌≡◌, ◌<◌, ◌+◌, ◌^◌, ◌∙◌, arith, sym, ap, subst, ℤ, pos, ◌+ℤ◌, ◌≤ℤ◌, List, length, drop, get_or, FitsSigned}
use mir.Val.{to_z, of_z}
use Rattle.std.specs.Int.{w128}
use Rattle.std.proofs.lemmas.Int.{to_z-of_z}
use Rattle.rv_core.specs.Table.{table_of}
use Rattle.code_flow_system.specs.declared.moves.Move.{Move}
use Rattle.code_flow_system.specs.Counts.{total}
use Rattle.code_flow_system.specs.Flows.{price}
use Rattle.code_flow_system.specs.Certificates.{listed}
use Rattle.path_fact_columns.proofs.CountLemmas.{paid_next, next_fits, price_least}
use Rattle.path_fact_columns.proofs.columns.value.Goals as goal

pub loop-i-preserved : goal.loop-i-preserved
loop-i-preserved c =
    let t = table_of c.args.costs.now in
    let s = c.args.system.now in
    let x = listed c.args.parts.now in
    let i = c.loop-i.i in
    let m = c.index-moves-i.result in
    let p = c.paid-all.result in
    let all = to_z w128 c.loop-i.all-bits in
    let fp : FitsSigned w128 p = search rules in
    let ep = to_z-of_z w128 p fp in
    let is = subst (λ (ms : List Move). m ≡ get_or ms i m) c.moves-moves.ensures.value c.index-moves-i.is in
    let lt = subst (λ (ms : List Move). i < length ms) c.moves-moves.ensures.value c.loop-i-test.true in
    let inv = c.loop-i.invariant in
    let next = paid_next (2 ^ 60) (price t s) (price_least t s) x s.moves i m all p (total (price t s) x s.moves) is lt c.paid-all.ensures.value inv.0 inv.1 c.requires.small in
    let fits = next_fits (2 ^ 60) (all +ℤ p) (total (price t s) x (drop (i + 1) s.moves)) (total (price t s) x s.moves) (omega arith) next in
    let e : to_z w128 (of_z w128 (all +ℤ to_z w128 (of_z w128 p))) ≡ all +ℤ p = ap (λ (z : ℤ). to_z w128 (of_z w128 (all +ℤ z))) ep ∙ to_z-of_z w128 (all +ℤ p) fits in
    subst (λ (z : ℤ). ((z +ℤ total (price t s) x (drop (i + 1) s.moves)) ≡ total (price t s) x s.moves) × (pos 0 ≤ℤ z) × (z ≤ℤ pos (2 ^ 60))) (sym e) (next.sum, next.least, next.most)
