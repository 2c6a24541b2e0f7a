-- The keys of a table of costs, by their numbers from 1 on.
use Rattle.std.specs.Prelude.{ℕ, Bool, true, false, List, [], ◌∷◌, codes}
use Rattle.std.specs.List.{list_any}
use Rattle.std.specs.Str.{bytes_eq}

-- the name of a key, the least cost that it takes, and whether a table may leave it out
pub record Key : Type 0 where
  pub name : List ℕ
  pub least : ℕ
  pub optional : Bool

-- the cost of a fetch, which is never 0
abbrev pub fetch : List ℕ → Key
fetch name = record { name = name; least = 1; optional = false }

-- any other part of a step's cost
abbrev pub part : List ℕ → Key
part name = record { name = name; least = 0; optional = false }

-- a cost that is 0 where a table leaves it out
abbrev pub extra : List ℕ → Key
extra name = record { name = name; least = 0; optional = true }

abbrev pub keys : List Key
keys =
    fetch (codes "fetch_flash") ∷ fetch (codes "fetch_spm")
    ∷ part (codes "alu") ∷ part (codes "mul") ∷ part (codes "div") ∷ part (codes "load") ∷ part (codes "store")
    ∷ part (codes "branch") ∷ part (codes "branch_taken") ∷ part (codes "jump") ∷ part (codes "ecall")
    ∷ part (codes "data_flash") ∷ part (codes "data_ram") ∷ part (codes "data_spm")
    ∷ extra (codes "stall") ∷ []

abbrev pub is_key : List Key → List ℕ → Bool
is_key ks name = list_any (λ k. bytes_eq k.name name) ks
