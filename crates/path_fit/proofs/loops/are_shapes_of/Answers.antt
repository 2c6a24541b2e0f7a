use Rattle.std.proofs.Common.{◌≡◌, false, refl, sym, ◌∙◌, arith, None, rules}
use Rattle.code_flow_system.specs.declared.shapes.LoopShape.{LoopShape}
use Rattle.code_flow_system.specs.declared.claims.LoopClaim.{LoopClaim}
use Rattle.path_fit.proofs.ShapeLemmas.{shapes_from, shapes_long, from_shapes, one_alike}
use Rattle.path_fit.proofs.loops.are_shapes_of.Goals as goal

abbrev first_shape : LoopShape
first_shape = record { header = 0; back = 0; parent = None; first = 0; last = 0 }

abbrev first_claim : LoopClaim
first_claim = record { source = 0; factor = 0; min = 0; max = 0; header = 0; back = 0 }

pub returns-then-claims-shapes : goal.returns-then-claims-shapes
returns-then-claims-shapes c = (λ e. cc, λ h. absurd (c.if-claims-shapes.true (shapes_long c.args.claims.now c.args.shapes.now h)))

pub returns-then-not-is_shape_of : goal.returns-then-not-is_shape_of
returns-then-not-is_shape_of c = (
  λ e. cc,
  λ h.
      let s = from_shapes c.args.claims.now c.args.shapes.now h c.loop-i.i first_claim first_shape c.loop-i-test.true in
      let f : c.is_shape_of.result ≡ false = search rules in
      sym f ∙ (c.is_shape_of.ensures ∙ one_alike _ _ _ _ s.0 s.1),
)

pub returns : goal.returns
returns c = (λ e. shapes_from c.args.claims.now c.args.shapes.now c.if-claims-shapes.false (λ k d e lt. c.loop-i.invariant k d e (omega (arith, lt, c.loop-i-test.false))), λ h. refl)
