use Rattle.std.proofs.Common.{◌≡◌, ◌<◌, ◌∙◌, sym, ap, subst, ℕ, List, length, All}
use Rattle.loop_walks.specs.Levels.{level_of}
use Rattle.loop_flow_counts.specs.declared.back.Back.{Back}
use Rattle.loop_flow_counts.specs.Wraps.{SameCounts}
use Rattle.path_places.specs.Places.{is_walked}
use Rattle.path_flows.specs.Flows.{counted, called, function_counts}
use Rattle.path_walks.specs.Prices.{prices_of}
use Rattle.path_flow_counts.proofs.FlowLemmas.{backs_are_in, flow_by}
use Rattle.path_flow_counts.proofs.function.add_function.Goals as goal

pub add_backs-requires : goal.add_backs-requires
add_backs-requires c =
    let s = c.args.priced.system.now in
    let q = prices_of s c.args.priced.prices.now c.args.priced.low in
    let v = level_of c.args.worths.now c.args.weights.now in
    let made = c.in_ok-made.ensures.made in
    let amounts : length c.add_counts.new.tally.amounts.now ≡ length s.moves = c.add_counts.ensures.long_amounts ∙ (ap length c.in_ok-made.ensures.amounts ∙ c.requires.amounts) in
    subst (λ (k : ℕ). All (λ (b : Back). b.place < k) c.deref-2.result.now) (sym amounts)
    (backs_are_in s c.args.priced.shapes.now q v c.args.span c.requires.function c.args.tally.now.starts.now c.deref-2.result.now (c.deref-2.ensures.value ∙ made.backs_are))

pub returns-clause-flow : goal.returns-clause-flow
returns-clause-flow c =
    let s = c.args.priced.system.now in
    let ls = c.args.priced.shapes.now in
    let q = prices_of s c.args.priced.prices.now c.args.priced.low in
    let v = level_of c.args.worths.now c.args.weights.now in
    let p = c.args.span in
    let starts = c.args.tally.now.starts.now in
    let counts = c.deref.result.now in
    let made = c.in_ok-made.ensures.made in
    let added = subst (λ (us : List ℕ). SameCounts c.add_counts.new.tally.amounts.now (counted (is_walked s.claims ls p) s.moves us counts)) c.in_ok-made.ensures.amounts c.add_counts.ensures.amounts in
    let started = subst (λ (us : List ℕ). SameCounts c.add_counts.new.tally.starts.now (called s.moves (is_walked s.claims ls p) s.moves counts us)) c.in_ok-made.ensures.starts c.add_counts.ensures.starts in
    flow_by s ls q v p c.requires.function starts c.add_counts.new.tally.starts.now c.args.tally.now.amounts.now c.add_counts.new.tally.amounts.now c.add_backs.new.amounts counts c.deref-2.result.now
    (subst (λ (us : List ℕ). SameCounts us (function_counts s ls q v p starts)) (sym c.deref.ensures.value) made.counts_are) (c.deref-2.ensures.value ∙ made.backs_are) added started c.add_backs.ensures
