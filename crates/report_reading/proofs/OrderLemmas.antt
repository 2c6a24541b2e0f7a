-- An order is kept by one more line behind the bound.
use Rattle.std.proofs.Common.{◌≡◌, ℕ, ◌<◌, ◌≤◌, ◌⊎◌, List, [], ◌∷◌, ◌++◌, map, All}
use Rattle.std.proofs.lemmas.List.Elements.{All-nil, All-head, All-tail, All-push, All-weaker, All-map}
use Rattle.frac128.specs.Terms.{Terms}
use Rattle.code_flow_system.specs.Certificates.{AddressesAscend, PartsAscend}
use Rattle.code_flow_system.specs.declared.cert.Part.{Part}
use Rattle.code_flow_system.specs.declared.claims.Within.{Within}
use Rattle.report_text.specs.declared.entries.Share.{Share}
use Rattle.report_text.specs.Forms.{Ascend, AreApart, AreAllApart, SharesAscend}
use Rattle.report_reading.specs.Orders.{Pairs, IsOrdered}

pub nothing_ordered : {X : Type 0} → (R : X → X → Type 0) (B : X → Type 0) → IsOrdered R B []
nothing_ordered R B = record { pairs = tt; bound = All-nil B }

pairs_more : {X : Type 0} → (R : X → X → Type 0) (xs : List X) (x : X) → Pairs R xs → All (λ v. R v x) xs → Pairs R (xs ++ x ∷ [])
pairs_more R [] x p all = (All-nil (R x), tt)
pairs_more R (y ∷ ys) x p all = (All-push (R y) ys x p.0 (All-head (λ v. R v x) y ys all), pairs_more R ys x p.1 (All-tail (λ v. R v x) y ys all))

pub ordered_more : {X : Type 0} → (R : X → X → Type 0) (B C : X → Type 0) (xs : List X) (x : X) → IsOrdered R B xs → ((v : X) → B v → R v x) → ((v : X) → B v → C v) → C x → IsOrdered R C (xs ++ x ∷ [])
ordered_more R B C xs x o behind weaker last = record {
  pairs = pairs_more R xs x o.pairs (All-weaker B (λ v. R v x) behind xs o.bound);
  bound = All-push C xs x (All-weaker B C weaker xs o.bound) last;
}

-- the orders of a report are such orders

pub ascend : (xs : List ℕ) → Pairs (λ a b. a < b) xs → Ascend xs
ascend [] p = tt
ascend (x ∷ xs) p = (p.0, ascend xs p.1)

pub ascend_by : {X : Type 0} → (f : X → ℕ) (xs : List X) → Pairs (λ x y. f x < f y) xs → Ascend (map f xs)
ascend_by f [] p = tt
ascend_by f (x ∷ xs) p = (All-map (λ b. f x < b) f xs p.0, ascend_by f xs p.1)

pub addresses_ascend : (ts : Terms) → Pairs (λ t u. t.0 < u.0) ts → AddressesAscend ts
addresses_ascend [] p = tt
addresses_ascend (t ∷ ts) p = (p.0, addresses_ascend ts p.1)

pub parts_ascend : (ps : List Part) → Pairs (λ p q. (p.at < q.at) ⊎ ((p.at ≡ q.at) × (p.number < q.number))) ps → PartsAscend ps
parts_ascend [] p = tt
parts_ascend (x ∷ xs) p = (p.0, parts_ascend xs p.1)

pub shares_ascend : (ss : List Share) → Pairs (λ s t. s.end ≤ t.first) ss → SharesAscend ss
shares_ascend [] p = tt
shares_ascend (x ∷ xs) p = (p.0, shares_ascend xs p.1)

pub all_apart : (ws : List Within) → Pairs AreApart ws → AreAllApart ws
all_apart [] p = tt
all_apart (x ∷ xs) p = (p.0, all_apart xs p.1)
