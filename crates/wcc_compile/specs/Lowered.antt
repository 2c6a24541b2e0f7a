-- The code of a program: its low form, what each pass makes of the code before it, in their order, and a place for each register.
use Rattle.std.specs.Prelude.{◌≤◌, ◌*◌}
use Rattle.high_ir.specs.Tree.{Program}
use Rattle.low_ir.specs.declared.places.LowReg.{LowReg}
use Rattle.low_ir.specs.Code.{Low}
use Rattle.low_ir.specs.Programs.{low_of}
use Rattle.low_ir.specs.Room.{room}
use Rattle.pass_common_subexpressions_law.specs.Reloads.{MayBeReloaded}
use Rattle.pass_copy_propagation_law.specs.Copies.{MayBeCopied}
use Rattle.pass_jump_threading_law.specs.Threads.{MayBeThreaded}
use Rattle.pass_register_promotion_law.specs.Paying.{MayBePromoted}
use Rattle.pass_strength_reduction.specs.Sizes.{IsSteppedWithin}
use Rattle.low_make.specs.Lowered.{IsLowered}

-- shorter ways, and then twice: nothing that is loaded or computed again, and no copies
pub record IsShortened (first last : Low) : Type 0 where
  pub short : Low
  pub loaded : Low
  pub brief : Low
  pub again : Low
  pub threads : MayBeThreaded first short
  pub reloads : MayBeReloaded short loaded
  pub copies : MayBeCopied loaded brief
  pub reloads_again : MayBeReloaded brief again
  pub copies_again : MayBeCopied again last

-- pointers that step, no copies, and shorter ways
pub record IsQuickened (first last : Low) : Type 0 where
  pub quick : Low
  pub bare : Low
  pub steps : IsSteppedWithin first quick
  pub copies : MayBeCopied quick bare
  pub threads : MayBeThreaded bare last

-- the low form, scalars in registers, and the passes above. They add little: the code takes at most 34 times as many machine instructions
-- as the low form, 17 times by the scalars that are loaded and stored, and twice by pointers
pub record IsCodeOf (program : Program) (code : LowReg) : Type 0 where
  pub plain : Low
  pub held : Low
  pub brief : Low
  pub lowers : IsLowered program plain
  pub promotes : MayBePromoted plain held
  pub shortens : IsShortened held brief
  pub quickens : IsQuickened brief (low_of code.low)
  pub room : room (low_of code.low) ≤ 34 * room plain
