use Rattle.std.proofs.Common.{◌≡◌, Some, length, refl, sym, ap, ◌∙◌}
use Rattle.std.specs.Prelude.{slice_get}
use Rattle.std.proofs.lemmas.Option.{slice_get_read}
use Rattle.std.proofs.lemmas.Result.{MatchResult-weaker}
use Rattle.inliner.specs.Budgets.{fits_any}
use Rattle.inliner.specs.View.{site_of}
use Rattle.inliner.proofs.Counted.{function_absent, function_there, sized_at}
use Rattle.inliner.proofs.settling.may_open.Goals as goal

pub fits-requires : goal.fits-requires
fits-requires c =
    let scope = c.args.scope.now in
    let h = c.in-Some.function.now in
    let got : slice_get scope.functions.now c.args.call.now.function ≡ Some h = slice_get_read scope.functions.now (length scope.functions.now) c.args.call.now.function h refl c.in-Some.ensures.lookup.3.0 c.in-Some.ensures.lookup.1 in
    sized_at scope.functions.now scope.sizes.now c.args.call.now.function h _ c.requires got

pub returns-in-None : goal.returns-in-None
returns-in-None c =
    let scope = c.args.scope.now in
    sym (ap (fits_any scope.limit c.args.used c.args.around (site_of c.args.call.now)) (function_absent scope.functions.now c.args.call.now.function c.in-None.ensures.lookup.3))

pub returns-in-Some : goal.returns-in-Some
returns-in-Some c =
    let scope = c.args.scope.now in
    let h = c.in-Some.function.now in
    let got : slice_get scope.functions.now c.args.call.now.function ≡ Some h = slice_get_read scope.functions.now (length scope.functions.now) c.args.call.now.function h refl c.in-Some.ensures.lookup.3.0 c.in-Some.ensures.lookup.1 in
    MatchResult-weaker c.fits.result c.fits.ensures (λ fits same.
    same ∙ sym (ap (fits_any scope.limit c.args.used c.args.around (site_of c.args.call.now)) (function_there scope.functions.now c.args.call.now.function h got))) (λ memory no_answer. no_answer)
