use Rattle.std.proofs.Common.{◌≡◌, arith, ap, length, refl, subst, sym}
use Rattle.high_ir.specs.Formed.{IsHigh}
use Rattle.high_renumber.specs.Numbered.{loop_origins, mark_origins}
use Rattle.high_renumber.specs.View.{loose_program}
use Rattle.high_renumber.proofs.Lawful.{renumbered_is_high}
use Rattle.high_renumber.proofs.Made.{program_made}
use Rattle.high_renumber.proofs.renumbering.high.Goals as goal

pub invariant_of-result : goal.invariant_of-result
invariant_of-result c =
    let p = loose_program c.args.loose in
    let marks : c.in_ok-marks.marks ≡ length (mark_origins p.functions) = omega (arith, c.in_ok-marks.ensures, c.len.ensures, ap length c.requires.marks) in
    let loops : c.in_ok-loops.loops ≡ length (loop_origins p.functions) = omega (arith, c.in_ok-loops.ensures, c.len-2.ensures, ap length c.requires.loops) in
    record { is_high = subst IsHigh (sym (program_made p _ _ _ c.in_ok-marks.marks c.in_ok-loops.loops c.requires.made refl refl marks loops)) (renumbered_is_high p c.requires.loose) }

pub returns : goal.returns
returns c =
    let p = loose_program c.args.loose in
    let marks : c.in_ok-marks.marks ≡ length (mark_origins p.functions) = omega (arith, c.in_ok-marks.ensures, c.len.ensures, ap length c.requires.marks) in
    let loops : c.in_ok-loops.loops ≡ length (loop_origins p.functions) = omega (arith, c.in_ok-loops.ensures, c.len-2.ensures, ap length c.requires.loops) in
    program_made p _ _ _ c.in_ok-marks.marks c.in_ok-loops.loops c.requires.made refl refl marks loops
