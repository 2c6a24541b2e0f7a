use Rattle.std.proofs.Common.{◌<◌, All, ap, arith, length}
use Rattle.high_pass.specs.Listing.{loop_entry}
use Rattle.high_pass.proofs.Elements.{All-map_at}
use Rattle.high_pass.proofs.origin.origins_of.Goals as goal

pub note_origins-requires : goal.note_origins-requires
note_origins-requires c k d lt =
    let below = All-map_at (λ e. All (λ l. l.id < c.args.loops) e.new) loop_entry c.args.whole.now c.loop-entry.entry-index c.entry-item.result c.requires c.loop-entry-test.true c.entry-item.is k d lt in
    omega (arith, below, c.loop-entry.invariant.0, ap length c.deref_mut.ensures.value)
