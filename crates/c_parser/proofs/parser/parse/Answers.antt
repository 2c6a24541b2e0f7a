use Rattle.std.proofs.Common.{◌≡◌, subst}
use Rattle.c_tree.specs.Names.{name_of}
use Rattle.c_tree.specs.Spelling.{spoken}
use Rattle.c_tree.specs.Units.{named_tree_of}
use Rattle.c_parser.proofs.Finishing.{each_fault, each_unit}
use Rattle.c_parser.proofs.Refusals.{one_tree, only_memory, refused}
use Rattle.c_parser.proofs.Words.{passed_on}
use Rattle.c_parser.specs.declared.fault.ParseFault.TheVariants.{Memory}
use Rattle.c_parser.specs.Refused.{IsRefused, Stops}
use Rattle.c_tree.specs.Formed.{IsTreeOf}
use Rattle.c_parser.proofs.parser.parse.Goals as goal

pub returns-in_err-state-clause-err : goal.returns-in_err-state-clause-err
returns-in_err-state-clause-err c =
    let fault = c.in_err-state.field-0.0 in
    let stops = subst (λ tokens. Stops fault tokens) c.in_ok-list.ensures.said (c.in_err-state.ensures.err (name_of c.in_ok-list.field-0.names.items)) in
    passed_on c.from_residual-in_err-state.result fault (λ fault. IsRefused fault (spoken c.args.tokens.now)) c.from_residual-in_err-state.ensures.1 (refused fault (spoken c.args.tokens.now) stops)

pub returns-in_err-state-clause-stops : goal.returns-in_err-state-clause-stops
returns-in_err-state-clause-stops c =
    let fault = c.in_err-state.field-0.0 in
    passed_on c.from_residual-in_err-state.result fault (λ fault. Stops fault (spoken c.args.tokens.now)) c.from_residual-in_err-state.ensures.1 (subst (λ tokens. Stops fault tokens) c.in_ok-list.ensures.said (c.in_err-state.ensures.err (name_of c.in_ok-list.field-0.names.items)))

pub returns-in_err-state-clause-accepts : goal.returns-in_err-state-clause-accepts
returns-in_err-state-clause-accepts c tree is depth =
    let fault = c.in_err-state.field-0.0 in
    let stops = subst (λ tokens. Stops fault tokens) c.in_ok-list.ensures.said (c.in_err-state.ensures.err (name_of c.in_ok-list.field-0.names.items)) in
    passed_on c.from_residual-in_err-state.result fault (λ fault. fault ≡ Memory) c.from_residual-in_err-state.ensures.1 (only_memory fault (spoken c.args.tokens.now) tree (refused fault (spoken c.args.tokens.now) stops) is depth)

pub finish-requires-clause-led : goal.finish-requires-clause-led
finish-requires-clause-led c = record {
  words = c.in_ok-list.field-0.list.items;
  leads = c.in_ok-state.ensures.ok;
  said = c.in_ok-list.ensures.said;
  numbered = c.in_ok-list.ensures.numbered;
}

pub returns-clause-err : goal.returns-clause-err
returns-clause-err c = each_fault c.finish.result (λ fault. Stops fault (spoken c.args.tokens.now)) (λ fault. IsRefused fault (spoken c.args.tokens.now)) (λ fault stops. refused fault (spoken c.args.tokens.now) stops) c.finish.ensures.err

pub returns-clause-one : goal.returns-clause-one
returns-clause-one c tree is = each_unit c.finish.result (λ unit. IsTreeOf (named_tree_of unit) (spoken c.args.tokens.now)) (λ unit. named_tree_of unit ≡ tree) (λ unit found. one_tree (named_tree_of unit) tree (spoken c.args.tokens.now) found is) c.finish.ensures.tree

pub returns-clause-accepts : goal.returns-clause-accepts
returns-clause-accepts c tree is depth = each_fault c.finish.result (λ fault. Stops fault (spoken c.args.tokens.now)) (λ fault. fault ≡ Memory) (λ fault stops. only_memory fault (spoken c.args.tokens.now) tree (refused fault (spoken c.args.tokens.now) stops) is depth) c.finish.ensures.err
