-- The first fault of a document.
use Rattle.std.proofs.Common.{◌≡◌, ◌+◌, ℕ, Bool, true, false, not, List, [], ◌∷◌, Option, Some, None, is_some, refl, codes}
use Rattle.std.specs.Prelude.{⊤}
use Rattle.toml.specs.Data.{Members}
use Rattle.cost_table.specs.declared.faults.TableFault.{TableFault}
use Rattle.cost_table.specs.declared.faults.TableFault.TheVariants as fault
use Rattle.cost_table.specs.Keys.{Key, fetch, keys}
use Rattle.cost_table.specs.Numbers.{cost_at}
use Rattle.cost_table.specs.Faults.{first_from, is_missing, is_wrong, has_other, fault_by, fault_of}
use Rattle.cost_table.specs.Tables.{IsDocument, IsRefused}

never_not_toml : (m : Option ℕ) (b : Bool) (w : Option ℕ) → fault_by m b w ≡ Some fault.NotToml → ⊥
never_not_toml (Some n) b w e = cc
never_not_toml None true w e = cc
never_not_toml None false (Some n) e = cc
never_not_toml None false None e = cc

never_memory : (m : Option ℕ) (b : Bool) (w : Option ℕ) → fault_by m b w ≡ Some fault.Memory → ⊥
never_memory (Some n) b w e = cc
never_memory None true w e = cc
never_memory None false (Some n) e = cc
never_memory None false None e = cc

-- a document with a fault is refused for its first one
pub refused : (bytes : List ℕ) (ms : Members) (f : TableFault) → IsDocument bytes ms → fault_of ms ≡ Some f → IsRefused bytes f
refused bytes ms fault.NotToml is first = absurd (never_not_toml (first_from (is_missing ms) 1 keys) (has_other keys ms) (first_from (is_wrong ms) 1 keys) first)
refused bytes ms (fault.Key n) is first = record { members = ms; document = is; first = first }
refused bytes ms (fault.Number n) is first = record { members = ms; document = is; first = first }
refused bytes ms fault.Memory is first = absurd (never_memory (first_from (is_missing ms) 1 keys) (has_other keys ms) (first_from (is_wrong ms) 1 keys) first)

no_wrong : (m : Option ℕ) (b : Bool) (w : Option ℕ) → fault_by m b w ≡ None → w ≡ None
no_wrong (Some n) b w e = cc
no_wrong None true w e = cc
no_wrong None false (Some n) e = cc
no_wrong None false None e = refl

-- no key of the list fails the test
abbrev pub AllPassTest : (Key → Bool) → List Key → Type 0
AllPassTest fails [] = ⊤
AllPassTest fails (k ∷ ks) = (fails k ≡ false) × AllPassTest fails ks

all_pass : (fails : Key → Bool) (n : ℕ) (ks : List Key) → first_from fails n ks ≡ None → AllPassTest fails ks
all_pass fails n [] none = tt
all_pass fails n (k ∷ ks) none = go (fails k) refl (all_pass fails (n + 1) ks)
  where
    go : (b : Bool) → fails k ≡ b → (first_from fails (n + 1) ks ≡ None → AllPassTest fails ks) → AllPassTest fails (k ∷ ks)
    go false e rest = (e, rest (rw e at none))
    go true e rest =
        let bad : Some n ≡ None = rw e at none in
        cc

some_of : (b : Bool) → not b ≡ false → b ≡ true
some_of true e = refl
some_of false e = cc

-- a document without a fault gives both fetches a cost
pub fetches : (ms : Members) → fault_of ms ≡ None
    → (is_some (cost_at ms (fetch (codes "fetch_flash"))) ≡ true) × (is_some (cost_at ms (fetch (codes "fetch_spm"))) ≡ true)
fetches ms none =
    let all : AllPassTest (is_wrong ms) keys = all_pass (is_wrong ms) 1 keys (no_wrong (first_from (is_missing ms) 1 keys) (has_other keys ms) (first_from (is_wrong ms) 1 keys) none) in
    (some_of (is_some (cost_at ms (fetch (codes "fetch_flash")))) all.0, some_of (is_some (cost_at ms (fetch (codes "fetch_spm")))) all.1.0)
