use Rattle.std.specs.Prelude.{not}
use Rattle.std.proofs.Common.{◌≡◌, ap, sym, pos, false}
use Rattle.std.proofs.lemmas.List.Elements.{All-more}
use Rattle.code_flow_system.specs.Systems.{has_moves}
use Rattle.code_flow_lookup.proofs.RunLemmas.{terms_ascend}
use Rattle.dual_check.proofs.LeastLemmas.{first_bad, none_left}
use Rattle.dual_check.proofs.missing.first_unreached.Goals as goal

pub returns-then-not-has_moves : goal.returns-then-not-has_moves
returns-then-not-has_moves c = first_bad (λ t. t.0) (λ t. not (has_moves c.args.moves.now t.0)) c.args.potentials.now c.loop-i.i (0, pos 0) (terms_ascend _ c.requires.potentials) c.loop-i-test.true c.loop-i.invariant (ap not (sym c.if-not-has_moves.ensures))

pub loop-i-preserved : goal.loop-i-preserved
loop-i-preserved c = All-more (λ t. not (has_moves c.args.moves.now t.0) ≡ false) c.args.potentials.now c.loop-i.i (0, pos 0) c.loop-i-test.true c.loop-i.invariant (ap not (sym c.if-not-has_moves.ensures))

pub returns : goal.returns
returns c = none_left (λ t. t.0) (λ t. not (has_moves c.args.moves.now t.0)) c.args.potentials.now c.loop-i.i c.loop-i-test.false c.loop-i.invariant
