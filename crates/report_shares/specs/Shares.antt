-- The shares of a listed flow: how much of its value the code of each function has.
use Rattle.std.specs.Prelude.{◌≡◌, ℕ, ◌+◌, ◌*◌, ◌==◌, ◌&&◌, ◌<◌, pos, ◌≤ℤ◌, nat_le, nat_lt, List, [], ◌∷◌, Bool, true, false, Option, Some, None, is_some, IfSome, All, if◌then◌else◌}
use Rattle.rv_core.specs.Table.{Table}
use Rattle.code_flow_system.specs.declared.moves.Move.{Move}
use Rattle.code_flow_system.specs.declared.cert.Part.{Part}
use Rattle.code_flow_system.specs.Systems.{System}
use Rattle.code_flow_system.specs.MoveCosts.{move_cost}
use Rattle.code_flow_system.specs.Certificates.{IsSmall, listed}
use Rattle.report_text.specs.declared.entries.Share.{Share}

-- a share's range isn't empty, and its part is small and not negative
pub record IsProper (h : Share) : Type 0 where
  pub filled : h.first < h.end
  pub least : pos 0 ≤ℤ h.part
  pub small : IsSmall h.part

-- the address lies in the share's range
abbrev pub lies_in : Share → ℕ → Bool
lies_in h a = nat_le h.first a && nat_lt a h.end

-- in how many shares' ranges the address lies
abbrev pub holders : List Share → ℕ → ℕ
holders [] a = 0
holders (h ∷ hs) a = (if lies_in h a then 1 else 0) + holders hs a

abbrev pub target_by : Option ℕ → Option ℕ → Option ℕ
target_by None to = None
target_by (Some behind) to = to

-- where a move goes that is a call, which also arrives behind itself
abbrev pub call_target : Move → Option ℕ
call_target m = target_by m.behind m.to

-- the address is the first of a share with a name, that of a function
abbrev pub begins : List Share → ℕ → Bool
begins [] a = false
begins (h ∷ hs) a = if (h.first == a) && is_some h.name then true else begins hs a

-- the moves of the addresses from the first up to the end
abbrev pub moves_between : ℕ → ℕ → List Move → List Move
moves_between first end [] = []
moves_between first end (m ∷ ms) = if nat_le first m.at && nat_lt m.at end then m ∷ moves_between first end ms else moves_between first end ms

-- the listed number of each move times its cost, added
abbrev pub spent : Table → System → List Part → List Move → ℕ
spent t s parts [] = 0
spent t s parts (m ∷ ms) = listed parts m.at m.number * move_cost t s m + spent t s parts ms

-- what the moves in the share's range cost
abbrev pub share_sum : Table → System → List Part → Share → ℕ
share_sum t s parts h = spent t s parts (moves_between h.first h.end s.moves)

-- each listed address lies in one range, each call goes to the beginning of a function, and each part is its sum
pub record SharesFit (t : Table) (s : System) (parts : List Part) (hs : List Share) : Type 0 where
  pub held : All (λ p. holders hs p.at ≡ 1) parts
  pub begun : All (λ m. IfSome (call_target m) (λ a. begins hs a ≡ true)) s.moves
  pub sums : All (λ h. h.part ≡ pos (share_sum t s parts h)) hs

-- the share with its sum as part
abbrev pub with_sum : Table → System → List Part → Share → Share
with_sum t s parts h = record h { part = pos (share_sum t s parts h) }
