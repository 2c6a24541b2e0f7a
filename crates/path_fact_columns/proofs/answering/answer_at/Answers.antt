use Rattle.std.proofs.Common.{rules, ◌≡◌, [], ◌*◌, ◌^◌, ◌∙◌, sym, ap, subst, ℤ, pos, ◌≤ℤ◌, ◌<ℤ◌, FitsSigned}
use mir.Val.{to_z, of_z}
use Rattle.std.specs.Int.{w128}
use Rattle.std.proofs.lemmas.Int.{to_z-of_z}
use Rattle.rv_core.specs.Table.{table_of}
use Rattle.path_places.specs.Duals.{final_level, final_pairs}
use Rattle.path_flows.specs.Flows.{amounts_of, parts_of}
use Rattle.path_cert.specs.Priced.{fact_prices}
use Rattle.path_fact_columns.specs.Laws.{IsAnswer}
use Rattle.path_fact_columns.proofs.WalkLemmas.{walks_small, amounts_small}
use Rattle.path_fact_columns.proofs.AddableLemmas.{are_multiplied, found_long, found_worth, found_addable, found_certificate}
use Rattle.path_fact_columns.proofs.BestLemmas.{is_answer, answer_is, parts_none, parts_some}
use Rattle.path_fact_columns.proofs.answering.answer_at.Goals as goal

pub settle_facts-requires-clause-fits : goal.settle_facts-requires-clause-fits
settle_facts-requires-clause-fits c =
    let t = table_of c.args.multiplied.costs.now in
    let s = c.args.multiplied.system.now in
    let ls = c.args.multiplied.shapes.now in
    let ps = c.args.spans.now in
    let n = c.args.multiplied.scale in
    let ys = c.args.multiplied.facts.now in
    are_multiplied t s ls ps c.requires.searchable n ys c.requires.narrow c.requires.scale

pub settle_facts-requires-clause-small : goal.settle_facts-requires-clause-small
settle_facts-requires-clause-small c =
    let t = table_of c.args.multiplied.costs.now in
    let s = c.args.multiplied.system.now in
    let ls = c.args.multiplied.shapes.now in
    let ps = c.args.spans.now in
    let n = c.args.multiplied.scale in
    let ys = c.args.multiplied.facts.now in
    walks_small t s ls ps c.requires.searchable n ys c.requires.narrow c.args.multiplied.low c.requires.low

pub entry_worth-worth-requires : goal.entry_worth-worth-requires
entry_worth-worth-requires c =
    let t = table_of c.args.multiplied.costs.now in
    let s = c.args.multiplied.system.now in
    let ls = c.args.multiplied.shapes.now in
    let ps = c.args.spans.now in
    let n = c.args.multiplied.scale in
    let ys = c.args.multiplied.facts.now in
    let level = c.in_ok-settled.ensures.level ∙ ap (λ (z : ℤ). final_level s ls ps (fact_prices t s n ys z)) c.requires.low in
    let pairs = c.in_ok-settled.ensures.pairs ∙ ap (λ (z : ℤ). final_pairs s ls ps (fact_prices t s n ys z)) c.requires.low in
    found_long t s ls ps c.requires.searchable n ys c.requires.narrow c.requires.scale c.in_ok-settled.settled level pairs

pub certificate-requires : goal.certificate-requires
certificate-requires c =
    let t = table_of c.args.multiplied.costs.now in
    let s = c.args.multiplied.system.now in
    let ls = c.args.multiplied.shapes.now in
    let ps = c.args.spans.now in
    let n = c.args.multiplied.scale in
    let ys = c.args.multiplied.facts.now in
    let level = c.in_ok-settled.ensures.level ∙ ap (λ (z : ℤ). final_level s ls ps (fact_prices t s n ys z)) c.requires.low in
    let pairs = c.in_ok-settled.ensures.pairs ∙ ap (λ (z : ℤ). final_pairs s ls ps (fact_prices t s n ys z)) c.requires.low in
    let fits : FitsSigned w128 c.entry_worth-worth.result = search rules in
    let worth = to_z-of_z w128 c.entry_worth-worth.result fits ∙ c.entry_worth-worth.ensures ∙ found_worth t s ls ps c.requires.searchable n ys c.requires.narrow c.requires.scale c.in_ok-settled.settled level pairs in
    record { able = λ below. found_addable t s ls ps c.requires.searchable n ys c.requires.narrow c.requires.scale c.in_ok-settled.settled level pairs (subst (λ (z : ℤ). z <ℤ pos (n * 2 ^ 60)) worth below) }

pub returns-then-is_negative-clause-value : goal.returns-then-is_negative-clause-value
returns-then-is_negative-clause-value c =
    let t = table_of c.args.multiplied.costs.now in
    let s = c.args.multiplied.system.now in
    let ls = c.args.multiplied.shapes.now in
    let ps = c.args.spans.now in
    let n = c.args.multiplied.scale in
    let ys = c.args.multiplied.facts.now in
    let level = c.in_ok-settled.ensures.level ∙ ap (λ (z : ℤ). final_level s ls ps (fact_prices t s n ys z)) c.requires.low in
    let pairs = c.in_ok-settled.ensures.pairs ∙ ap (λ (z : ℤ). final_pairs s ls ps (fact_prices t s n ys z)) c.requires.low in
    let fits : FitsSigned w128 c.entry_worth-worth.result = search rules in
    let worth = to_z-of_z w128 c.entry_worth-worth.result fits ∙ c.entry_worth-worth.ensures ∙ found_worth t s ls ps c.requires.searchable n ys c.requires.narrow c.requires.scale c.in_ok-settled.settled level pairs in
    let cert = c.in_ok-cert.ensures ∙ found_certificate t s ls ps c.requires.searchable n ys c.requires.narrow c.requires.scale c.in_ok-settled.settled level pairs (to_z w128 (of_z w128 c.entry_worth-worth.result)) worth in
    let none = parts_none t s ls ps n ys (subst (λ (z : ℤ). z <ℤ pos 0) worth (c.is_negative.ensures.negative c.if-is_negative.true)) in
    let empty : c.new-then-is_negative.result ≡ [] = search rules in
    let is = answer_is t s ls ps n ys _ _ _ cert worth (empty ∙ none) in
    is

pub returns-then-is_negative-clause-best : goal.returns-then-is_negative-clause-best
returns-then-is_negative-clause-best c =
    let t = table_of c.args.multiplied.costs.now in
    let s = c.args.multiplied.system.now in
    let ls = c.args.multiplied.shapes.now in
    let ps = c.args.spans.now in
    let n = c.args.multiplied.scale in
    let ys = c.args.multiplied.facts.now in
    let level = c.in_ok-settled.ensures.level ∙ ap (λ (z : ℤ). final_level s ls ps (fact_prices t s n ys z)) c.requires.low in
    let pairs = c.in_ok-settled.ensures.pairs ∙ ap (λ (z : ℤ). final_pairs s ls ps (fact_prices t s n ys z)) c.requires.low in
    let fits : FitsSigned w128 c.entry_worth-worth.result = search rules in
    let worth = to_z-of_z w128 c.entry_worth-worth.result fits ∙ c.entry_worth-worth.ensures ∙ found_worth t s ls ps c.requires.searchable n ys c.requires.narrow c.requires.scale c.in_ok-settled.settled level pairs in
    let cert = c.in_ok-cert.ensures ∙ found_certificate t s ls ps c.requires.searchable n ys c.requires.narrow c.requires.scale c.in_ok-settled.settled level pairs (to_z w128 (of_z w128 c.entry_worth-worth.result)) worth in
    let none = parts_none t s ls ps n ys (subst (λ (z : ℤ). z <ℤ pos 0) worth (c.is_negative.ensures.negative c.if-is_negative.true)) in
    let empty : c.new-then-is_negative.result ≡ [] = search rules in
    let is = answer_is t s ls ps n ys _ _ _ cert worth (empty ∙ none) in
    subst (IsAnswer t s n ys) (sym is) (is_answer t s ls ps c.requires.searchable n ys c.requires.scale c.requires.narrow)

pub fact_flow-requires-clause-fits : goal.fact_flow-requires-clause-fits
fact_flow-requires-clause-fits c =
    let t = table_of c.args.multiplied.costs.now in
    let s = c.args.multiplied.system.now in
    let ls = c.args.multiplied.shapes.now in
    let ps = c.args.spans.now in
    let n = c.args.multiplied.scale in
    let ys = c.args.multiplied.facts.now in
    are_multiplied t s ls ps c.requires.searchable n ys c.requires.narrow c.requires.scale

pub fact_flow-requires-clause-small : goal.fact_flow-requires-clause-small
fact_flow-requires-clause-small c =
    let t = table_of c.args.multiplied.costs.now in
    let s = c.args.multiplied.system.now in
    let ls = c.args.multiplied.shapes.now in
    let ps = c.args.spans.now in
    let n = c.args.multiplied.scale in
    let ys = c.args.multiplied.facts.now in
    walks_small t s ls ps c.requires.searchable n ys c.requires.narrow c.args.multiplied.low c.requires.low

pub fact_flow-requires-clause-amounts : goal.fact_flow-requires-clause-amounts
fact_flow-requires-clause-amounts c =
    let t = table_of c.args.multiplied.costs.now in
    let s = c.args.multiplied.system.now in
    let ls = c.args.multiplied.shapes.now in
    let ps = c.args.spans.now in
    let n = c.args.multiplied.scale in
    let ys = c.args.multiplied.facts.now in
    let level = c.in_ok-settled.ensures.level ∙ ap (λ (z : ℤ). final_level s ls ps (fact_prices t s n ys z)) c.requires.low in
    let pairs = c.in_ok-settled.ensures.pairs ∙ ap (λ (z : ℤ). final_pairs s ls ps (fact_prices t s n ys z)) c.requires.low in
    let fits : FitsSigned w128 c.entry_worth-worth.result = search rules in
    let worth = to_z-of_z w128 c.entry_worth-worth.result fits ∙ c.entry_worth-worth.ensures ∙ found_worth t s ls ps c.requires.searchable n ys c.requires.narrow c.requires.scale c.in_ok-settled.settled level pairs in
    let positive = subst (λ (z : ℤ). pos 0 ≤ℤ z) worth (c.is_negative.ensures.other c.if-is_negative.false) in
    amounts_small t s ls ps c.requires.searchable n ys c.requires.narrow positive c.args.multiplied.low c.requires.low

pub returns-clause-value : goal.returns-clause-value
returns-clause-value c =
    let t = table_of c.args.multiplied.costs.now in
    let s = c.args.multiplied.system.now in
    let ls = c.args.multiplied.shapes.now in
    let ps = c.args.spans.now in
    let n = c.args.multiplied.scale in
    let ys = c.args.multiplied.facts.now in
    let level = c.in_ok-settled.ensures.level ∙ ap (λ (z : ℤ). final_level s ls ps (fact_prices t s n ys z)) c.requires.low in
    let pairs = c.in_ok-settled.ensures.pairs ∙ ap (λ (z : ℤ). final_pairs s ls ps (fact_prices t s n ys z)) c.requires.low in
    let fits : FitsSigned w128 c.entry_worth-worth.result = search rules in
    let worth = to_z-of_z w128 c.entry_worth-worth.result fits ∙ c.entry_worth-worth.ensures ∙ found_worth t s ls ps c.requires.searchable n ys c.requires.narrow c.requires.scale c.in_ok-settled.settled level pairs in
    let cert = c.in_ok-cert.ensures ∙ found_certificate t s ls ps c.requires.searchable n ys c.requires.narrow c.requires.scale c.in_ok-settled.settled level pairs (to_z w128 (of_z w128 c.entry_worth-worth.result)) worth in
    let positive = subst (λ (z : ℤ). pos 0 ≤ℤ z) worth (c.is_negative.ensures.other c.if-is_negative.false) in
    let listed = c.new-2.ensures ∙ c.in_ok-parts.ensures ∙ ap (λ (z : ℤ). parts_of s.moves (amounts_of s ls ps (fact_prices t s n ys z))) c.requires.low in
    let is = answer_is t s ls ps n ys _ _ _ cert worth (listed ∙ parts_some t s ls ps n ys positive) in
    is

pub returns-clause-best : goal.returns-clause-best
returns-clause-best c =
    let t = table_of c.args.multiplied.costs.now in
    let s = c.args.multiplied.system.now in
    let ls = c.args.multiplied.shapes.now in
    let ps = c.args.spans.now in
    let n = c.args.multiplied.scale in
    let ys = c.args.multiplied.facts.now in
    let level = c.in_ok-settled.ensures.level ∙ ap (λ (z : ℤ). final_level s ls ps (fact_prices t s n ys z)) c.requires.low in
    let pairs = c.in_ok-settled.ensures.pairs ∙ ap (λ (z : ℤ). final_pairs s ls ps (fact_prices t s n ys z)) c.requires.low in
    let fits : FitsSigned w128 c.entry_worth-worth.result = search rules in
    let worth = to_z-of_z w128 c.entry_worth-worth.result fits ∙ c.entry_worth-worth.ensures ∙ found_worth t s ls ps c.requires.searchable n ys c.requires.narrow c.requires.scale c.in_ok-settled.settled level pairs in
    let cert = c.in_ok-cert.ensures ∙ found_certificate t s ls ps c.requires.searchable n ys c.requires.narrow c.requires.scale c.in_ok-settled.settled level pairs (to_z w128 (of_z w128 c.entry_worth-worth.result)) worth in
    let positive = subst (λ (z : ℤ). pos 0 ≤ℤ z) worth (c.is_negative.ensures.other c.if-is_negative.false) in
    let listed = c.new-2.ensures ∙ c.in_ok-parts.ensures ∙ ap (λ (z : ℤ). parts_of s.moves (amounts_of s ls ps (fact_prices t s n ys z))) c.requires.low in
    let is = answer_is t s ls ps n ys _ _ _ cert worth (listed ∙ parts_some t s ls ps n ys positive) in
    subst (IsAnswer t s n ys) (sym is) (is_answer t s ls ps c.requires.searchable n ys c.requires.scale c.requires.narrow)
