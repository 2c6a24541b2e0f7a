-- Where no rule fails at some nodes, none fails at any of them.
use Rattle.std.proofs.Common.{◌≡◌, ℕ, Bool, true, false, List, [], ◌∷◌, ◌++◌, Option, Some, None, refl, sym}
use Rattle.std.proofs.lemmas.Option.{none-some}
use Rattle.types_rules.specs.ExpressionRules.{when}
use Rattle.types_rules.specs.Scope.{or_else}
use Rattle.types_rules.specs.Sights.{Node, fault_at, first_fault, node_fault, node_place, node_rule}
use Rattle.types_rules.specs.declared.fault.Fault.{Fault}
use Rattle.types_rules.specs.declared.fault.Rule.{Rule}

pub no_first : {A : Type 0} (a b : Option A) → or_else a b ≡ None → a ≡ None
no_first None b h = refl
no_first (Some x) b h = h

pub no_second : {A : Type 0} (a b : Option A) → or_else a b ≡ None → b ≡ None
no_second None b h = h
no_second (Some x) b h = absurd (none-some x (sym h))

no_rule : (o : Option Rule) (at : ℕ) → fault_at o at ≡ None → o ≡ None
no_rule None at h = refl
no_rule (Some rule) at h = absurd (none-some (record { rule = rule; at = at }) (sym h))

pub rule_of : (node : Node) (rest : List Node) → first_fault (node ∷ rest) ≡ None → node_rule node ≡ None
rule_of node rest h = no_rule (node_rule node) (node_place node) (no_first (node_fault node) (first_fault rest) h)

pub rest_of : (node : Node) (rest : List Node) → first_fault (node ∷ rest) ≡ None → first_fault rest ≡ None
rest_of node rest h = no_second (node_fault node) (first_fault rest) h

pub front_passes : (xs ys : List Node) → first_fault (xs ++ ys) ≡ None → first_fault xs ≡ None
front_passes [] ys h = refl
front_passes (x ∷ xs) ys h = of (node_fault x) (front_passes xs ys (no_second (node_fault x) (first_fault (xs ++ ys)) h)) (no_first (node_fault x) (first_fault (xs ++ ys)) h)
  where
    of : (o : Option Fault) → first_fault xs ≡ None → o ≡ None → or_else o (first_fault xs) ≡ None
    of None f h = f
    of (Some fault) f h = h

pub behind_passes : (xs ys : List Node) → first_fault (xs ++ ys) ≡ None → first_fault ys ≡ None
behind_passes [] ys h = h
behind_passes (x ∷ xs) ys h = behind_passes xs ys (no_second (node_fault x) (first_fault (xs ++ ys)) h)

pub when_none : (b : Bool) (rule : Rule) → when b rule ≡ None → b ≡ false
when_none true rule h = absurd (none-some rule (sym h))
when_none false rule h = refl
