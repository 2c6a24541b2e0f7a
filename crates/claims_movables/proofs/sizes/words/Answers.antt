use Rattle.std.proofs.Common.{refl}
use Rattle.claims_movables.proofs.RowLemmas.{words_step}
use Rattle.claims_movables.proofs.sizes.words.Goals as goal

pub loop-number-preserved : goal.loop-number-preserved
loop-number-preserved c =
    words_step c.args.at c.loop-number.number _ c.loop-number.words.items c.push.new.self.items c.in_ok-push.ensures.items refl c.loop-number.invariant
