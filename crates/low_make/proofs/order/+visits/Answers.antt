use Rattle.std.proofs.Common.{◌≡◌, ◌<◌, ◌++◌, Some, length, refl, ap, arith, sym, ◌∙◌}
use Rattle.std.specs.Prelude.{slice_get}
use Rattle.std.proofs.lemmas.Option.{slice_get_read}
use Rattle.high_ir.specs.Standing.{callees_of}
use Rattle.high_ir.specs.View.{statement_of}
use Rattle.low_ir.specs.Effects.{is_member}
use Rattle.low_make.proofs.Visiting.{visited_more}
use Rattle.low_make.proofs.order.+visits.Goals as goal

pub visit-returns-in_ok-push-in-Some : goal.visit-returns-in_ok-push-in-Some
visit-returns-in_ok-push-in-Some t c =
    let done = c.args.done.now.items in
    let function = c.in-Some.function.now in
    let some : 0 < c.args.depth = omega (arith, c.if-depth-eq0.false) in
    let got : slice_get c.args.functions.now c.args.f ≡ Some function = slice_get_read c.args.functions.now (length c.args.functions.now) c.args.f function refl c.in-Some.ensures.lookup.3.0 c.in-Some.ensures.lookup.1 in
    visited_more c.args.functions.now c.args.depth c.args.f done c.deref-in-Some.result.now c.visit_all.new.done.items c.push.new.self.items function some
    (ap (λ l. is_member l c.args.f) (sym c.deref.ensures.value) ∙ sym c.is_member.ensures ∙ c.if-is_member.false)
    got
    (c.deref-in-Some.ensures.value ∙ c.in_ok-callees-in-Some.ensures ∙ ap (λ l. l ++ callees_of (statement_of function.body)) c.new-found.ensures.items)
    c.in_ok-visit_all-in-Some.ensures
    c.in_ok-push-in-Some.ensures.items
