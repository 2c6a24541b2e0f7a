use Rattle.asm_emission.proofs.Saving.{exit-length}
use Rattle.std.proofs.Common.{◌+◌, length, ap, ◌∙◌}
use Rattle.asm_emission.proofs.entries.exit_length.Goals as goal

pub returns : goal.returns
returns c =
    ap (λ l. c.frame_length.result + c.link_length.result + length l) c.saved.ensures.value
    ∙ exit-length c.args.leaf c.args.frame.now c.is_frame_near-near.result c.frame_length.result c.link_length.result c.if-saves_nothing.ensures c.is_frame_near-near.ensures c.frame_length.ensures.value c.link_length.ensures.value
