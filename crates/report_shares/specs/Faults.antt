-- Where shares don't fit a flow: the first fault, in the order of the three rules.
use Rattle.std.specs.Prelude.{ℕ, ◌==◌, pos, min, List, [], ◌∷◌, Option, Some, None, if◌then◌else◌}
use Rattle.std.specs.Ordering.{int_eq}
use Rattle.rv_core.specs.Table.{Table}
use Rattle.code_flow_system.specs.declared.moves.Move.{Move}
use Rattle.code_flow_system.specs.declared.cert.Part.{Part}
use Rattle.code_flow_system.specs.Systems.{System}
use Rattle.report_text.specs.declared.entries.Share.{Share}
use Rattle.report_shares.specs.Shares.{holders, call_target, begins, share_sum}

-- the lesser of two addresses, where there are any
abbrev pub lesser : Option ℕ → Option ℕ → Option ℕ
lesser None b = b
lesser (Some a) None = Some a
lesser (Some a) (Some b) = Some (min a b)

-- the least of the addresses that a list's elements have
abbrev pub least_by : {X : Type 0} → (X → Option ℕ) → List X → Option ℕ
least_by f [] = None
least_by f (x ∷ xs) = lesser (f x) (least_by f xs)

abbrev pub or_else : Option ℕ → Option ℕ → Option ℕ
or_else None b = b
or_else (Some a) b = Some a

-- the address of the first of a list's elements that has one
abbrev pub first_by : {X : Type 0} → (X → Option ℕ) → List X → Option ℕ
first_by f [] = None
first_by f (x ∷ xs) = or_else (f x) (first_by f xs)

-- the address of a listed move that lies in no range
abbrev pub unheld : List Share → Part → Option ℕ
unheld hs p = if holders hs p.at == 0 then Some p.at else None

abbrev pub unless_begun : List Share → Option ℕ → Option ℕ
unless_begun hs None = None
unless_begun hs (Some a) = if begins hs a then None else Some a

-- the target of a call that is the first address of no share with a name
abbrev pub unbegun : List Share → Move → Option ℕ
unbegun hs m = unless_begun hs (call_target m)

-- the first address of a share whose part isn't its sum
abbrev pub unequal : Table → System → List Part → Share → Option ℕ
unequal t s parts h = if int_eq h.part (pos (share_sum t s parts h)) then None else Some h.first

-- the least listed address in no range; else the least target of a call where no function begins; else the first share whose part isn't its sum
abbrev pub share_fault : Table → System → List Part → List Share → Option ℕ
share_fault t s parts hs = or_else (least_by (unheld hs) parts) (or_else (least_by (unbegun hs) s.moves) (first_by (unequal t s parts) hs))
