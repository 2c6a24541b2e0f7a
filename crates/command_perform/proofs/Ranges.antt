-- The numbers that words ask for, once these are read.
use Rattle.std.proofs.Common.{◌≡◌, ◌⊎◌, List, ℕ, Option, Some, None, subst, inl, inr, ⊎_elim}
use Rattle.wcc_base.specs.Outside.{SinkState}
use Rattle.wcc_base.specs.declared.status.Status.{Status}
use Rattle.wcc_base.specs.declared.status.Status.TheVariants as status
use Rattle.command_perform.specs.declared.words.Asked.{Asked as HeldAsked}
use Rattle.command_perform.specs.declared.words.Asked.TheVariants as held
use Rattle.command_perform.specs.declared.words.Command.TheVariants as command
use Rattle.command_perform.specs.Words.{Asked, IsInRange}
use Rattle.command_perform.specs.Asked.{asked_of}
use Rattle.command_perform.specs.Finishing.{Reported}

-- what the program holds is in range
held_in_range : (asked : HeldAsked) → IsInRange (Some (asked_of asked))
held_in_range (held.Named (command.Compile r)) = tt
held_in_range (held.Named (command.Check r)) = tt
held_in_range (held.Named (command.Run r)) = tt
held_in_range (held.Named (command.Eval r)) = tt
held_in_range (held.Named (command.Report r)) = tt
held_in_range (held.Named (command.Make r)) = (r.least, r.most)
held_in_range (held.Respond r) = tt

pub in_range : (asked : Option Asked) (held : HeldAsked) (result : Status) → Some (asked_of held) ≡ asked → (result ≡ status.Memory) ⊎ IsInRange asked
in_range asked held result e = inr (subst IsInRange e (held_in_range held))

pub none_in_range : (asked : Option Asked) (result : Status) → None ≡ asked → (result ≡ status.Memory) ⊎ IsInRange asked
none_in_range asked result e = inr (subst IsInRange e tt)

-- or memory ran out in reading them
pub unread_in_range : (asked : Option Asked) (lines : List ℕ) (out out' : SinkState) (result : Status) → Reported status.Memory lines out out' result → (result ≡ status.Memory) ⊎ IsInRange asked
unread_in_range asked lines out out' result r = inl (⊎_elim (λ a. a.0) (⊎_elim (λ a. a.0) (λ a. a.0)) r)
