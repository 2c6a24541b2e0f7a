use Rattle.std.specs.Prelude.{not}
use Rattle.std.proofs.Common.{◌≡◌, ◌∙◌, ap, sym, false}
use Rattle.std.proofs.lemmas.List.{get_or_default}
use Rattle.std.proofs.lemmas.List.Elements.{All-more}
use Rattle.dual_check.specs.Tests.{is_balanced_at}
use Rattle.code_flow_lookup.proofs.RunLemmas.{moves_ascend}
use Rattle.dual_check.proofs.LeastLemmas.{first_bad, none_left}
use Rattle.dual_check.proofs.flows.first_unbalanced.Goals as goal

pub returns-then-not-is_balanced_at : goal.returns-then-not-is_balanced_at
returns-then-not-is_balanced_at c = first_bad (λ m. m.at) (λ m. not (is_balanced_at c.args.system.now c.args.cert.now m.at)) c.args.moves.now c.loop-i.i c.index-moves-i-then-not-is_balanced_at.result (moves_ascend _ c.requires.ascending) c.loop-i-test.true c.loop-i.invariant (ap not (ap (λ m. is_balanced_at c.args.system.now c.args.cert.now m.at) (get_or_default c.args.moves.now c.loop-i.i c.index-moves-i-then-not-is_balanced_at.result c.index-moves-i.result c.loop-i-test.true) ∙ sym c.if-not-is_balanced_at.ensures))

pub loop-i-preserved : goal.loop-i-preserved
loop-i-preserved c = All-more (λ m. not (is_balanced_at c.args.system.now c.args.cert.now m.at) ≡ false) c.args.moves.now c.loop-i.i c.index-moves-i.result c.loop-i-test.true c.loop-i.invariant (ap not (sym c.if-not-is_balanced_at.ensures))

pub returns : goal.returns
returns c = none_left (λ m. m.at) (λ m. not (is_balanced_at c.args.system.now c.args.cert.now m.at)) c.args.moves.now c.loop-i.i c.loop-i-test.false c.loop-i.invariant
