-- The first of what is there, and tests one after the other.
use Rattle.std.proofs.Common.{◌≡◌, refl, Option, Some, None, Bool, true, false, ◌||◌, ◌&&◌}
use Rattle.types_rules.specs.Scope.{or_else}

pub or_else-assoc : {A : Type 0} (a b c : Option A) → or_else (or_else a b) c ≡ or_else a (or_else b c)
or_else-assoc (Some x) b c = refl
or_else-assoc None b c = refl

pub or-assoc : (a b c : Bool) → ((a || b) || c) ≡ (a || (b || c))
or-assoc true b c = refl
or-assoc false b c = refl

pub and-assoc : (a b c : Bool) → ((a && b) && c) ≡ (a && (b && c))
and-assoc true b c = refl
and-assoc false b c = refl
