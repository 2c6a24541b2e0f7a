use Rattle.std.proofs.Common.{◌≡◌, length, All, sym, ap, ◌∙◌, subst, arith, Fits, w64, rules}
use Rattle.code_flow_system.specs.declared.shapes.Span.{Span}
use Rattle.code_flow_system.specs.Shapes.{IsInOne}
use Rattle.path_fit.proofs.ShapeLemmas.{is_eq, eq_is}
use Rattle.path_fit.proofs.CoverLemmas.{moves_held, held_more, held_none, held_below, held_cover, cover_held}
use Rattle.path_fit.proofs.spans.cover.Goals as goal

abbrev first_span : Span
first_span = record { first = 0; end = 0 }

pub overflow_add-held : goal.overflow_add-held
overflow_add-held c =
    let fits : Fits w64 (length c.moves-moves.result.now) = search rules in
    let more = held_more c.args.spans.now c.moves-moves.result.now c.loop-i.i (length c.moves_of.result.now) first_span c.loop-i-test.true (ap (λ xs. length xs) c.moves_of.ensures) in
    let below = held_below c.args.spans.now c.moves-moves.result.now c.requires in
    omega (arith, fits, more, below, c.loop-i.invariant)

pub loop-i-preserved : goal.loop-i-preserved
loop-i-preserved c =
    let more = held_more c.args.spans.now c.moves-moves.result.now c.loop-i.i (length c.moves_of.result.now) first_span c.loop-i-test.true (ap (λ xs. length xs) c.moves_of.ensures) in
    omega (arith, more, c.loop-i.invariant)

pub returns : goal.returns
returns c =
    let none = held_none c.args.spans.now c.moves-moves.result.now c.loop-i.i c.loop-i-test.false in
    let total : c.loop-i.held ≡ moves_held c.args.spans.now c.moves-moves.result.now = omega (arith, none, c.loop-i.invariant) in (
      λ e. subst (λ xs. All (λ m. IsInOne c.args.spans.now m.at) xs) c.moves-moves.ensures.value (held_cover c.args.spans.now c.moves-moves.result.now c.requires (sym total ∙ is_eq _ _ e)),
      λ all. eq_is _ _ (total ∙ cover_held c.args.spans.now c.moves-moves.result.now c.requires (subst (λ xs. All (λ m. IsInOne c.args.spans.now m.at) xs) (sym c.moves-moves.ensures.value) all)),
    )
