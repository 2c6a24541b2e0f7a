use Rattle.std.specs.Prelude.{not}
use Rattle.std.proofs.Common.{◌≡◌, ap, sym, pos, false}
use Rattle.std.proofs.lemmas.List.Elements.{All-more}
use Rattle.code_flow_system.specs.Certificates.{has_move}
use Rattle.code_flow_lookup.proofs.RunLemmas.{parts_ascend}
use Rattle.dual_check.proofs.LeastLemmas.{first_bad, none_left}
use Rattle.dual_check.proofs.flows.first_strange.Goals as goal

pub returns-then-not-has_move : goal.returns-then-not-has_move
returns-then-not-has_move c = first_bad (λ p. p.at) (λ p. not (has_move c.args.moves.now p.at p.number)) c.args.parts.now c.loop-i.i (record { at = 0; number = 0; part = pos 0 }) (parts_ascend _ c.requires.parts) c.loop-i-test.true c.loop-i.invariant (ap not (sym c.if-not-has_move.ensures))

pub loop-i-preserved : goal.loop-i-preserved
loop-i-preserved c = All-more (λ p. not (has_move c.args.moves.now p.at p.number) ≡ false) c.args.parts.now c.loop-i.i (record { at = 0; number = 0; part = pos 0 }) c.loop-i-test.true c.loop-i.invariant (ap not (sym c.if-not-has_move.ensures))

pub returns : goal.returns
returns c = none_left (λ p. p.at) (λ p. not (has_move c.args.moves.now p.at p.number)) c.args.parts.now c.loop-i.i c.loop-i-test.false c.loop-i.invariant
