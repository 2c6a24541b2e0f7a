-- The first fault of a document: a key that is missing, a key that is none, a number that is no cost.
use Rattle.std.specs.Prelude.{ℕ, ◌+◌, ◌||◌, Bool, true, false, not, List, [], ◌∷◌, Option, Some, None, is_some, if◌then◌else◌, option_map}
use Rattle.toml.specs.Data.{Members, no_members, member, get_member}
use Rattle.cost_table.specs.declared.faults.TableFault.{TableFault}
use Rattle.cost_table.specs.declared.faults.TableFault.TheVariants.{Key as KeyFault, Number as NumberFault}
use Rattle.cost_table.specs.Keys.{Key, keys, is_key}
use Rattle.cost_table.specs.Numbers.{cost_at}

-- the number of the first key of a list that fails a test, counted from n on
abbrev pub first_from : (Key → Bool) → ℕ → List Key → Option ℕ
first_from fails n [] = None
first_from fails n (k ∷ ks) = if fails k then Some n else first_from fails (n + 1) ks

-- a table may not leave the key out, and does
abbrev pub is_missing : Members → Key → Bool
is_missing ms k = not (k.optional || is_some (get_member k.name ms))

-- what stands at the key is no cost that it takes
abbrev pub is_wrong : Members → Key → Bool
is_wrong ms k = not (is_some (cost_at ms k))

-- a key of the document is none of these
abbrev pub has_other : List Key → Members → Bool
has_other ks no_members = false
has_other ks (member name d ms) = not (is_key ks name) || has_other ks ms

-- the fault, from the first missing key, whether there is another one, and the first wrong number
abbrev pub fault_by : Option ℕ → Bool → Option ℕ → Option TableFault
fault_by (Some n) other wrong = Some (KeyFault n)
fault_by None true wrong = Some (KeyFault 0)
fault_by None false wrong = option_map (λ n. NumberFault n) wrong

abbrev pub fault_of : Members → Option TableFault
fault_of ms = fault_by (first_from (is_missing ms) 1 keys) (has_other keys ms) (first_from (is_wrong ms) 1 keys)
