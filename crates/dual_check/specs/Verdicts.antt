-- The verdict on a certificate: yes, or the first row that fails.
use Rattle.std.specs.Prelude.{◌≡◌, ℕ, Bool, true, false, Option, Some}
use Rattle.rv_core.specs.Table.{Table}
use Rattle.code_flow_system.specs.declared.cert.Cert.{Cert}
use Rattle.code_flow_system.specs.declared.cert.Mark.{Mark}
use Rattle.code_flow_system.specs.declared.cert.Mark.TheVariants.{Greatest as MarkedGreatest, Empty as MarkedEmpty, Neither}
use Rattle.code_flow_system.specs.Reach.{IsLeast}
use Rattle.code_flow_system.specs.Systems.{System}
use Rattle.code_flow_system.specs.Certificates.{limits, potential, scaled_price, Accepts}
use Rattle.dual_check.specs.declared.row.Row.{Row}
use Rattle.dual_check.specs.declared.row.Row.TheVariants.{Missing, Sign, Wide, Move, Value, Flow, Unmet, Greatest, Empty}
use Rattle.dual_check.specs.declared.row.Verdict.{Verdict}
use Rattle.dual_check.specs.declared.row.Verdict.TheVariants.{Yes, No}
use Rattle.dual_check.specs.Rows.{AreGiven, FailsMissing, AreSigned, first_wrong_sign, AreCovered, first_move_fault, HasValue, IsFlowAt, FailsFlow, counts, first_unmet, AreMet, IsReached, IsBelowZero}

-- the first fault of the moves' rows
abbrev pub first_of_moves : Table → System → Cert → Option Row
first_of_moves t s c = first_move_fault (scaled_price t s c) (potential c) (limits s.claims c) s.moves

-- the rows that come before those on the mark
pub record IsBound (t : Table) (s : System) (c : Cert) : Type 0 where
  pub given : AreGiven s c
  pub signed : AreSigned s c
  pub covered : AreCovered t s c
  pub value : HasValue s c

-- the listed flow is balanced everywhere
abbrev pub IsFlowEverywhere : System → Cert → Type 0
IsFlowEverywhere s c = (a : ℕ) → IsFlowAt s c a

-- the row is the first that fails
abbrev pub IsFirst : Table → System → Cert → Row → Type 0
IsFirst t s c (Missing a) = IsLeast (FailsMissing s c) a
IsFirst t s c (Sign i) = AreGiven s c × (first_wrong_sign s.claims c ≡ Some i)
IsFirst t s c (Wide a) = AreGiven s c × AreSigned s c × (first_of_moves t s c ≡ Some (Wide a))
IsFirst t s c (Move a k) = AreGiven s c × AreSigned s c × (first_of_moves t s c ≡ Some (Move a k))
IsFirst t s c Value = AreGiven s c × AreSigned s c × AreCovered t s c × ¬ HasValue s c
IsFirst t s c (Flow a) = IsBound t s c × (c.mark ≡ MarkedGreatest) × IsLeast (FailsFlow s c) a
IsFirst t s c (Unmet i) = IsBound t s c × (c.mark ≡ MarkedGreatest) × IsFlowEverywhere s c × (first_unmet s.claims (counts s c) ≡ Some i)
IsFirst t s c Greatest = IsBound t s c × (c.mark ≡ MarkedGreatest) × IsFlowEverywhere s c × AreMet s c × ¬ IsReached t s c
IsFirst t s c Empty = IsBound t s c × (c.mark ≡ MarkedEmpty) × ¬ IsBelowZero s c

abbrev pub is_greatest : Mark → Bool
is_greatest MarkedGreatest = true
is_greatest MarkedEmpty = false
is_greatest Neither = false

-- yes, with the certificate's cycles and whether they are reached, where it is accepted; else the first row that fails
abbrev pub IsVerdict : Table → System → Cert → Verdict → Type 0
IsVerdict t s c (Yes cycles greatest) = Accepts t s c × (cycles ≡ c.cycles) × (greatest ≡ is_greatest c.mark)
IsVerdict t s c (No row) = IsFirst t s c row

abbrev pub is_yes : Verdict → Bool
is_yes (Yes cycles greatest) = true
is_yes (No row) = false
