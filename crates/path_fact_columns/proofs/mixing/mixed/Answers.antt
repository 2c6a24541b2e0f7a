use Rattle.std.proofs.Common.{◌≡◌, ◌+◌, ◌∙◌, ◌++◌, arith, sym, ap, subst, ℕ, List, length, take, drop, get_or, Vec, Global}
use Rattle.std.proofs.Math.ListN.{replicate}
use Rattle.std.proofs.Math.Seq.{take-append_seam}
use Rattle.std.proofs.lemmas.List.{get_or_default}
use Rattle.std.proofs.lemmas.Result.{IfOk-weaker}
use Rattle.rv_core.specs.Table.{table_of}
use Rattle.code_flow_system.specs.declared.cert.Part.{Part}
use Rattle.code_flow_system.specs.declared.moves.Move.{Move}
use Rattle.code_flow_system.specs.Certificates.{listed}
use Rattle.path_flows.specs.Flows.{parts_of}
use Rattle.simplex_rounds.specs.declared.weighing.Weight.{Weight}
use Rattle.simplex_rounds.specs.Weighted.{numerator}
use Rattle.path_fact_columns.proofs.PartLemmas.{listed_below}
use Rattle.path_fact_columns.specs.Adding.{flow_of, raised, mixed_parts}
use Rattle.path_fact_columns.proofs.MixLemmas.{IsMixing, mixing_none, mixing_next, mixing_all}
use Rattle.path_fact_columns.proofs.mixing.mixed.Goals as goal

pub loop-k-init : goal.loop-k-init
loop-k-init c =
    let s = c.args.found.system.now in
    mixing_none (flow_of (table_of c.args.found.costs.now) s c.args.found.shapes.now c.args.found.spans.now c.args.found.asked.now) c.args.all c.args.weights.now s.moves c.in_ok-amounts.amounts.items
    (c.in_ok-amounts.ensures.items_if_clones_equal (λ y h. cc) ∙ ap (λ (ms : List Move). replicate (length ms) 0) c.moves-moves.ensures.value)

pub loop-k-preserved : goal.loop-k-preserved
loop-k-preserved c =
    let s = c.args.found.system.now in
    let flow = flow_of (table_of c.args.found.costs.now) s c.args.found.shapes.now c.args.found.spans.now c.args.found.asked.now in
    let ws = c.args.weights.now in
    let k = c.loop-k.k in
    let none : Weight = record { column = 0; top = 0; bottom = 0 } in
    let w = get_or ws k none in
    let new = c.add_flow.new.amounts in
    let rest = drop (length new) c.loop-k.amounts.items in
    let long : c.loop-k.amounts.len ≡ length new = (let a = c.add_flow.auto.amounts in let b = c.deref_mut.ensures.len in omega (arith, a, b)) in
    let items = ap (λ (j : ℕ). take j (new ++ rest)) long ∙ take-append_seam new rest in
    let parts = c.in_ok-answer.answer.parts in
    let is =
    c.add_flow.ensures
    ∙ (ap (λ (n : ℕ). raised n (listed c.as_slice.result.now) c.moves-moves.result.now c.deref_mut.result.now) c.often.ensures
    ∙ (ap (λ (us : List Part). raised (numerator c.args.all w) (listed us) c.moves-moves.result.now c.deref_mut.result.now) c.as_slice.ensures
    ∙ (ap (λ (ms : List Move). raised (numerator c.args.all w) (listed parts) ms c.deref_mut.result.now) c.moves-moves.ensures.value
    ∙ ap (λ (us : List ℕ). raised (numerator c.args.all w) (listed parts) s.moves us) c.deref_mut.ensures.value))) in
    subst (IsMixing flow c.args.all ws s.moves (k + 1)) (sym items)
    (mixing_next flow c.args.all ws s.moves k w (listed parts) c.loop-k.amounts.items new c.loop-k-test.true (get_or_default ws k w none c.loop-k-test.true) (ap listed c.in_ok-answer.ensures.value)
    (c.requires.weights.each k none c.loop-k-test.true).3 (listed_below parts c.in_ok-answer.ensures.parts) c.loop-k.invariant is)

pub returns : goal.returns
returns c =
    let t = table_of c.args.found.costs.now in
    let s = c.args.found.system.now in
    let ls = c.args.found.shapes.now in
    let ps = c.args.found.spans.now in
    let ys = c.args.found.asked.now in
    let ws = c.args.weights.now in
    let all = mixing_all (flow_of t s ls ps ys) c.args.all ws s.moves c.loop-k.k c.loop-k.amounts.items c.loop-k-test.false c.loop-k.invariant in
    let e = ap (λ (ms : List Move). parts_of ms c.deref.result.now) c.moves-moves.ensures.value ∙ ap (λ (us : List ℕ). parts_of s.moves us) (c.deref.ensures.value ∙ all) in
    IfOk-weaker c.parts_of.result (λ (v : Vec Part Global). v.items ≡ parts_of c.moves-moves.result.now c.deref.result.now) (λ (v : Vec Part Global). v.items ≡ mixed_parts t s ls ps ys c.args.all ws) (λ v h. h ∙ e) c.parts_of.ensures
