use Rattle.std.proofs.Common.{◌≡◌, ◌∙◌, arith, sym, ap, subst, List, length, All, vec_len}
use Rattle.std.proofs.lemmas.Result.{IfOk-weaker}
use Rattle.wcc_base.specs.declared.compare.Compare.{Compare}
use Rattle.rv_core.specs.Table.{table_of}
use Rattle.code_flow_system.specs.declared.cert.Cert.{Cert}
use Rattle.code_flow_answer.specs.declared.bounded.Column.{Column}
use Rattle.code_flow_answer.specs.declared.bounded.Kind.{Kind}
use Rattle.code_flow_answer.specs.declared.bounded.Kind.TheVariants as kinds
use Rattle.simplex_rounds.specs.Rounds.{IsColumnOf, round_over}
use Rattle.path_fact_kinds.specs.Columns.{ops_of}
use Rattle.path_enum.specs.Marks.{found}
use Rattle.path_enum.specs.Steps.{IsStep}
use Rattle.path_enum.specs.Least.{IsEnded}
use Rattle.path_enum.specs.States.{IsWithAnother, IsTurn}
use Rattle.path_enum.proofs.NextLemmas.{ops_few, ops_long}
use Rattle.path_enum.proofs.SearchLemmas.{turn_wide, turn_spent, turn_empty, turn_greatest, turn_another}
use Rattle.path_enum.proofs.searching.turned.Goals as goal

pub ended-requires-clause-columns : goal.ended-requires-clause-columns
ended-requires-clause-columns c =
    subst (λ (xs : List Column). All (IsColumnOf (length c.args.ops.now)) xs) (sym c.deref.ensures.value)
    (subst (λ n. All (IsColumnOf n) c.args.state.columns.items) (sym (ops_long c.args.searched.system.now.claims.facts c.args.ops.now c.requires.ops)) c.requires.going.0.each)

pub ended-requires-clause-few_ops : goal.ended-requires-clause-few_ops
ended-requires-clause-few_ops c = ops_few c.args.searched.system.now.claims.facts c.args.ops.now c.requires.ops c.requires.searchable.few

pub returns-in-Wide : goal.returns-in-Wide
returns-in-Wide c =
    let t = table_of c.args.searched.costs.now in
    let s = c.args.searched.system.now in
    let ls = c.args.searched.shapes.now in
    let ps = c.args.searched.spans.now in
    let g = c.args.state in
    let r = c.in_ok-round.round in
    let round : r ≡ round_over (ops_of s.claims.facts) g.made g.columns.items =
    c.in_ok-round.ensures.value ∙ (ap (λ (xs : List Column). round_over c.args.ops.now g.made xs) c.deref.ensures.value ∙ ap (λ (os : List Compare). round_over os g.made g.columns.items) c.requires.ops) in
    let so_far = subst (λ (xs : List Column). IsStep t s ls ps xs r.ending c.in_ok-other.field-0) c.deref-2.ensures.value c.in_ok-other.ensures in
    let is = subst (IsStep t s ls ps g.columns.items r.ending) c.in-Wide.is so_far in
    subst (IsEnded t s ls ps) (sym (c.found.ensures ∙ ap (λ (x : Cert). found x (kinds.Wide r.made) g.columns.items) c.least_of-cert.ensures)) (turn_wide t s ls ps c.requires.facts g.columns.items g.asked.items g.least g.made c.requires.going.0 g.tried.items c.requires.going.1 r round c.in-Wide.other is.0 is.1)

pub returns-in-Spent : goal.returns-in-Spent
returns-in-Spent c =
    let t = table_of c.args.searched.costs.now in
    let s = c.args.searched.system.now in
    let ls = c.args.searched.shapes.now in
    let ps = c.args.searched.spans.now in
    let g = c.args.state in
    let r = c.in_ok-round.round in
    let round : r ≡ round_over (ops_of s.claims.facts) g.made g.columns.items =
    c.in_ok-round.ensures.value ∙ (ap (λ (xs : List Column). round_over c.args.ops.now g.made xs) c.deref.ensures.value ∙ ap (λ (os : List Compare). round_over os g.made g.columns.items) c.requires.ops) in
    let so_far = subst (λ (xs : List Column). IsStep t s ls ps xs r.ending c.in_ok-other.field-0) c.deref-2.ensures.value c.in_ok-other.ensures in
    let is = subst (IsStep t s ls ps g.columns.items r.ending) c.in-Spent.is so_far in
    let long : vec_len g.columns ≡ length g.columns.items = omega (arith, g.columns.ok.0) in
    subst (IsEnded t s ls ps) (sym (c.found-in-Spent.ensures ∙ ap (λ (k : Kind). found g.least k g.columns.items) (c.spent-kind.ensures ∙ ap (λ n. kinds.Spent n r.made) (c.len.ensures ∙ long)))) (turn_spent t s ls ps c.requires.facts g.columns.items g.asked.items g.least g.made c.requires.going.0 g.tried.items c.requires.going.1 r round is)

pub returns-in-Empty : goal.returns-in-Empty
returns-in-Empty c =
    let t = table_of c.args.searched.costs.now in
    let s = c.args.searched.system.now in
    let ls = c.args.searched.shapes.now in
    let ps = c.args.searched.spans.now in
    let g = c.args.state in
    let r = c.in_ok-round.round in
    let round : r ≡ round_over (ops_of s.claims.facts) g.made g.columns.items =
    c.in_ok-round.ensures.value ∙ (ap (λ (xs : List Column). round_over c.args.ops.now g.made xs) c.deref.ensures.value ∙ ap (λ (os : List Compare). round_over os g.made g.columns.items) c.requires.ops) in
    let so_far = subst (λ (xs : List Column). IsStep t s ls ps xs r.ending c.in_ok-other.field-0) c.deref-2.ensures.value c.in_ok-other.ensures in
    let is = subst (IsStep t s ls ps g.columns.items r.ending) c.in-Empty.is so_far in
    subst (IsEnded t s ls ps) (sym c.found-in-Empty.ensures) (turn_empty t s ls ps c.requires.facts g.columns.items g.asked.items g.least g.made c.requires.going.0 g.tried.items c.requires.going.1 r round c.in-Empty.cert is.0 is.1)

pub returns-in-Greatest : goal.returns-in-Greatest
returns-in-Greatest c =
    let t = table_of c.args.searched.costs.now in
    let s = c.args.searched.system.now in
    let ls = c.args.searched.shapes.now in
    let ps = c.args.searched.spans.now in
    let g = c.args.state in
    let r = c.in_ok-round.round in
    let round : r ≡ round_over (ops_of s.claims.facts) g.made g.columns.items =
    c.in_ok-round.ensures.value ∙ (ap (λ (xs : List Column). round_over c.args.ops.now g.made xs) c.deref.ensures.value ∙ ap (λ (os : List Compare). round_over os g.made g.columns.items) c.requires.ops) in
    let so_far = subst (λ (xs : List Column). IsStep t s ls ps xs r.ending c.in_ok-other.field-0) c.deref-2.ensures.value c.in_ok-other.ensures in
    let is = subst (IsStep t s ls ps g.columns.items r.ending) c.in-Greatest.is so_far in
    subst (IsEnded t s ls ps) (sym c.found-in-Greatest.ensures) (turn_greatest t s ls ps c.requires.facts g.columns.items g.asked.items g.least g.made c.requires.going.0 g.tried.items c.requires.going.1 r round c.in-Greatest.cert is.0 is.1)

pub returns-in-Goes : goal.returns-in-Goes
returns-in-Goes c =
    let t = table_of c.args.searched.costs.now in
    let s = c.args.searched.system.now in
    let ls = c.args.searched.shapes.now in
    let ps = c.args.searched.spans.now in
    let g = c.args.state in
    let r = c.in_ok-round.round in
    let round : r ≡ round_over (ops_of s.claims.facts) g.made g.columns.items =
    c.in_ok-round.ensures.value ∙ (ap (λ (xs : List Column). round_over c.args.ops.now g.made xs) c.deref.ensures.value ∙ ap (λ (os : List Compare). round_over os g.made g.columns.items) c.requires.ops) in
    let so_far = subst (λ (xs : List Column). IsStep t s ls ps xs r.ending c.in_ok-other.field-0) c.deref-2.ensures.value c.in_ok-other.ensures in
    let is = subst (IsStep t s ls ps g.columns.items r.ending) c.in-Goes.is so_far in
    IfOk-weaker c.with_another.result (IsWithAnother g c.in-Goes.answer r.made) (IsTurn t s ls ps g) (turn_another t s ls ps c.requires.facts g c.requires.going r round c.in-Goes.answer is c.in_ok-round.ensures.made) c.with_another.ensures
