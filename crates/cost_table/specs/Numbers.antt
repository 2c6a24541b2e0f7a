-- What a document gives the keys.
use Rattle.std.specs.Prelude.{ℕ, ℤ, pos, negsuc, ◌&&◌, codes, Option, Some, None, if◌then◌else◌, nat_le, option_and_then, unwrap_or}
use Rattle.toml.specs.Data.{Data, Members, as_integer, get_member}
use Rattle.rv_core.specs.Table.{Table}
use Rattle.cost_table.specs.Keys.{Key, fetch, part, extra}

-- the number, where it is a cost from `least` to 1000
abbrev pub cost_from : ℕ → ℤ → Option ℕ
cost_from least (pos n) = if nat_le least n && nat_le n 1000 then Some n else None
cost_from least (negsuc n) = None

-- the cost of a key, by what stands at it
abbrev pub cost_by : Key → Option Data → Option ℕ
cost_by k (Some d) = option_and_then (cost_from k.least) (as_integer d)
cost_by k None = if k.optional then Some 0 else None

-- the cost that a document gives a key
abbrev pub cost_at : Members → Key → Option ℕ
cost_at ms k = cost_by k (get_member k.name ms)

-- that cost, and 0 where there is none
abbrev pub cost_of : Members → Key → ℕ
cost_of ms k = unwrap_or (cost_at ms k) 0

-- the costs of a document that gives each key one
abbrev pub table_in : Members → Table
table_in ms = record {
  fetch_flash = cost_of ms (fetch (codes "fetch_flash"));
  fetch_spm = cost_of ms (fetch (codes "fetch_spm"));
  alu = cost_of ms (part (codes "alu"));
  mul = cost_of ms (part (codes "mul"));
  div = cost_of ms (part (codes "div"));
  load = cost_of ms (part (codes "load"));
  store = cost_of ms (part (codes "store"));
  branch = cost_of ms (part (codes "branch"));
  branch_taken = cost_of ms (part (codes "branch_taken"));
  jump = cost_of ms (part (codes "jump"));
  ecall = cost_of ms (part (codes "ecall"));
  data_flash = cost_of ms (part (codes "data_flash"));
  data_ram = cost_of ms (part (codes "data_ram"));
  data_spm = cost_of ms (part (codes "data_spm"));
  stall = cost_of ms (extra (codes "stall"));
}
