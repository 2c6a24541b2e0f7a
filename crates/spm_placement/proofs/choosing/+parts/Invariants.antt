use Rattle.std.proofs.Common.{◌+◌, ◌*◌, length}
use Rattle.spm_placement.proofs.choosing.+parts.Given as goal

abbrev pub decreases-choose_before : goal.decreases-choose_before
decreases-choose_before l = 131073 * length l.items.now + l.upto

abbrev pub decreases-choose_among : goal.decreases-choose_among
decreases-choose_among l = 131074 * length l.items.now + 1
