use Rattle.std.proofs.Common.{◌≤◌, ◌+◌, ap, arith, length, refl, subst, sym, ◌∙◌}
use Rattle.c_tree.specs.Named.{map_row, named_external}
use Rattle.c_tree.specs.Names.{name_of}
use Rattle.c_tree.specs.Size.{size_unit}
use Rattle.c_tree.specs.Spelling.{spoken}
use Rattle.c_tree.specs.Units.{named_tree_of}
use Rattle.c_tree.specs.View.{external_of, row_of}
use Rattle.c_tree.specs.Tree.{Nothing}
use Rattle.parse_begun.specs.View.{state_of}
use Rattle.parse_begun.proofs.SameDepths.{state_same}
use Rattle.parse_grammar.specs.Depth.{deep}
use Rattle.parse_grammar.specs.Machine.{Goes}
use Rattle.c_parser.proofs.Finishing.{IsMade, at_end, count_of, each_fault, each_unit, empty_of, formed_of, led_listed, led_named, made_of, shallow_of, small_of, spelled_of}
use Rattle.c_parser.proofs.Listing.{in_order}
use Rattle.c_parser.specs.Refused.{Stops}
use Rattle.c_tree.specs.Formed.{IsTreeOf}
use Rattle.c_parser.proofs.unit.finish.Goals as goal

pub unit-requires-clause-formed : goal.unit-requires-clause-formed
unit-requires-clause-formed c = let f = name_of c.args.names.items in formed_of f _ (spoken c.args.tokens.now) (led_named _ _ _ c.requires.led ∙ ap Goes (c.in-Some.ensures.some f))

pub unit-requires-clause-small : goal.unit-requires-clause-small
unit-requires-clause-small c =
    let f = name_of c.args.names.items in
    let count = count_of c.args.tokens.now c.list.result.now c.list.ensures.listed in
    small_of f _ (spoken c.args.tokens.now) (led_named _ _ _ c.requires.led ∙ ap Goes (c.in-Some.ensures.some f)) (omega (arith, count, c.list.ensures.most))

pub unit-requires-clause-shallow : goal.unit-requires-clause-shallow
unit-requires-clause-shallow c =
    let f = name_of c.args.names.items in
    shallow_of f _ (subst (λ s. deep s ≤ 256) (c.in-Some.ensures.some f) (subst (λ d. d ≤ 256) (state_same f c.args.state) c.requires.shallow))

pub unit-requires-clause-listed : goal.unit-requires-clause-listed
unit-requires-clause-listed c = led_listed c.args.state c.args.names.items (spoken c.args.tokens.now) (row_of external_of Nothing c.in-Some.front.list.items) c.requires.led c.in-Some.ensures.some c.requires.in_order

pub unit-requires-clause-in_order : goal.unit-requires-clause-in_order
unit-requires-clause-in_order c = λ at.
    let f = name_of c.args.names.items in
    in_order c.args.names.items (map_row (named_external f) (row_of external_of Nothing c.in-Some.front.list.items)) (spoken c.args.tokens.now) (spelled_of f (row_of external_of Nothing c.in-Some.front.list.items) (spoken c.args.tokens.now) (led_named _ _ _ c.requires.led ∙ ap Goes (c.in-Some.ensures.some f))) c.requires.in_order

pub returns-in-Some-clause-tree : goal.returns-in-Some-clause-tree
returns-in-Some-clause-tree c =
    let f = name_of c.args.names.items in
    let led = led_named _ _ _ c.requires.led ∙ ap Goes (c.in-Some.ensures.some f) in
    let shallow = subst (λ s. deep s ≤ 256) (c.in-Some.ensures.some f) (subst (λ d. d ≤ 256) (state_same f c.args.state) c.requires.shallow) in
    let made = made_of c.unit.result c.in-Some.front.list c.args.names (spoken c.args.tokens.now) led shallow c.unit.ensures.items c.unit.ensures.names c.unit.ensures.first in
    each_unit c.unit.result (λ unit. IsMade unit (spoken c.args.tokens.now)) (λ unit. IsTreeOf (named_tree_of unit) (spoken c.args.tokens.now)) (λ unit m. m.tree) made

pub returns-in-Some-clause-shallow : goal.returns-in-Some-clause-shallow
returns-in-Some-clause-shallow c =
    let f = name_of c.args.names.items in
    let led = led_named _ _ _ c.requires.led ∙ ap Goes (c.in-Some.ensures.some f) in
    let shallow = subst (λ s. deep s ≤ 256) (c.in-Some.ensures.some f) (subst (λ d. d ≤ 256) (state_same f c.args.state) c.requires.shallow) in
    let made = made_of c.unit.result c.in-Some.front.list c.args.names (spoken c.args.tokens.now) led shallow c.unit.ensures.items c.unit.ensures.names c.unit.ensures.first in
    each_unit c.unit.result (λ unit. IsMade unit (spoken c.args.tokens.now)) (λ unit. (size_unit (named_tree_of unit)).depth ≤ 256) (λ unit m. m.shallow) made

pub returns-in-Some-clause-few : goal.returns-in-Some-clause-few
returns-in-Some-clause-few c =
    let f = name_of c.args.names.items in
    let led = led_named _ _ _ c.requires.led ∙ ap Goes (c.in-Some.ensures.some f) in
    let shallow = subst (λ s. deep s ≤ 256) (c.in-Some.ensures.some f) (subst (λ d. d ≤ 256) (state_same f c.args.state) c.requires.shallow) in
    let made = made_of c.unit.result c.in-Some.front.list c.args.names (spoken c.args.tokens.now) led shallow c.unit.ensures.items c.unit.ensures.names c.unit.ensures.first in
    each_unit c.unit.result (λ unit. IsMade unit (spoken c.args.tokens.now)) (λ unit. (size_unit (named_tree_of unit)).nodes ≤ length c.args.tokens.now.list + 1) (λ unit m. omega (arith, m.few, sym (count_of c.args.tokens.now c.args.tokens.now.list refl))) made

pub returns-in-Some-clause-err : goal.returns-in-Some-clause-err
returns-in-Some-clause-err c =
    let f = name_of c.args.names.items in
    let count = count_of c.args.tokens.now c.list.result.now c.list.ensures.listed in
    let shallow = subst (λ s. deep s ≤ 256) (c.in-Some.ensures.some f) (subst (λ d. d ≤ 256) (state_same f c.args.state) c.requires.shallow) in
    each_fault c.unit.result _ (λ fault. Stops fault (spoken c.args.tokens.now)) (λ x h. subst (λ fault. Stops fault (spoken c.args.tokens.now)) (sym h.0) (empty_of f c.in-Some.front.list.items (spoken c.args.tokens.now) (length c.list.result.now) count (led_named _ _ _ c.requires.led ∙ ap Goes (c.in-Some.ensures.some f)) h.1 shallow)) c.unit.ensures.none

pub returns-in-None-clause-err : goal.returns-in-None-clause-err
returns-in-None-clause-err c =
    let f = name_of c.args.names.items in
    let count = count_of c.args.tokens.now c.list.result.now c.list.ensures.listed in
    at_end (spoken c.args.tokens.now) (length c.list.result.now) (state_of f c.args.state) count (led_named _ _ _ c.requires.led) (λ items same. absurd (c.in-None.ensures.none f items same)) (subst (λ d. d ≤ 256) (state_same f c.args.state) c.requires.shallow)
