use Rattle.std.proofs.Common.{◌≡◌, Some, length, refl, ap, ◌∙◌}
use Rattle.std.specs.Prelude.{slice_get}
use Rattle.std.proofs.lemmas.Option.{slice_get_read}
use Rattle.std.proofs.lemmas.Result.{MatchResult-weaker}
use Rattle.high_ir.specs.View.{function_of}
use Rattle.inliner.specs.View.{site_of}
use Rattle.inliner.specs.Walking.{walked}
use Rattle.inliner.proofs.Counted.{at_call_absent, at_call_there, function_absent, function_there, sized_at}
use Rattle.inliner.proofs.walking.at_call.Goals as goal

pub returns-in-None : goal.returns-in-None
returns-in-None c =
    let scope = c.args.scope.now in
    MatchResult-weaker c.kept.result c.kept.ensures (λ call made.
    ap (λ s. walked s c.args.used.now) made
    ∙ at_call_absent scope.limit c.args.used.now c.args.around (site_of c.args.call.now) _ (function_absent scope.functions.now c.args.call.now.function c.in-None.ensures.lookup.3)) (λ memory no_call. no_call)

pub returns-in-Some : goal.returns-in-Some
returns-in-Some c =
    let scope = c.args.scope.now in
    let h = c.in-Some.function.now in
    let got : slice_get scope.functions.now c.args.call.now.function ≡ Some h = slice_get_read scope.functions.now (length scope.functions.now) c.args.call.now.function h refl c.in-Some.ensures.lookup.3.0 c.in-Some.ensures.lookup.1 in
    MatchResult-weaker c.opened_if.result c.opened_if.ensures (λ call made.
    made
    ∙ at_call_there scope.limit c.args.used.now c.args.around (site_of c.args.call.now) _ (function_of h) (function_there scope.functions.now c.args.call.now.function h got)) (λ memory no_call. no_call)

pub opened_if-requires : goal.opened_if-requires
opened_if-requires c =
    let scope = c.args.scope.now in
    let h = c.in-Some.function.now in
    let got : slice_get scope.functions.now c.args.call.now.function ≡ Some h = slice_get_read scope.functions.now (length scope.functions.now) c.args.call.now.function h refl c.in-Some.ensures.lookup.3.0 c.in-Some.ensures.lookup.1 in
    sized_at scope.functions.now scope.sizes.now c.args.call.now.function h _ c.requires got
