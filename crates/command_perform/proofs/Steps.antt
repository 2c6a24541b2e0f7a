-- Files gathered and written one by one.
use Rattle.std.proofs.Common.{◌≡◌, ℕ, zero, suc, ◌+◌, ◌<◌, ◌≤◌, List, [], ◌∷◌, ◌++◌, length, map, drop, get_or, Option, Some, None, refl, sym, ap, subst, ◌∙◌, inl, inr, ⊎_elim, arith, append_assoc, append-nil, drop-cons, add-one}
use Rattle.std.proofs.lemmas.List.{length-append}
use Rattle.std.specs.Prelude.{IfSome}
use Rattle.wcc_base.specs.Outside.{Files, bytes_of, told_put}
use Rattle.wcc_base.specs.Limits.{greatest_of}
use Rattle.wcc_base.specs.declared.limits.Bound.{Bound}
use Rattle.wcc_base.specs.declared.status.Status.{Status}
use Rattle.wcc_base.specs.declared.status.Status.TheVariants as status
use Rattle.command_perform.specs.Gathering.{Wants, AreSome, contents_of, Overlong, Gathered, NotGathered}
use Rattle.command_perform.specs.Finishing.{all_put, IsPart, Partly}
use Rattle.command_perform.specs.Files.{HasGathered, HasPutFiles}

-- the rest of a list, mapped
pub cut : {A B : Type 0} (f : A → B) (xs : List A) (i : ℕ) (d : A) → i < length xs → map f (drop i xs) ≡ f (get_or xs i d) ∷ map f (drop (i + 1) xs)
cut f xs i d lt = ap (map f) (drop-cons xs i d lt ∙ ap (λ n. get_or xs i d ∷ drop n xs) (sym (add-one i)))

one_more : (ws : Wants) (w : List ℕ × Bound) (rest : Wants) (fs : Files) (contents : List (List ℕ)) (bytes : List ℕ) → HasGathered ws (w ∷ rest) fs contents → (bytes ≡ bytes_of fs w.0) × (length (bytes_of fs w.0) ≤ greatest_of w.1) → HasGathered ws rest fs (contents ++ bytes ∷ [])
one_more ws w rest fs contents bytes h r = record {
  so_far = append_assoc contents (bytes ∷ []) (contents_of rest fs) ∙ ap (λ b. contents ++ b ∷ contents_of rest fs) r.0 ∙ h.so_far;
  fit = λ f. h.fit (r.1, f);
  overlong = λ which o. h.overlong which (inr (r.1, o));
}

-- a further file was read
pub gather_more : (old mid : Option Files) (ws left : Wants) (w : List ℕ × Bound) (rest : Wants) (contents new : List (List ℕ)) (bytes : List ℕ) → mid ≡ old → left ≡ w ∷ rest → new ≡ contents ++ bytes ∷ [] → IfSome old (λ fs. HasGathered ws left fs contents) → IfSome mid (λ fs. (bytes ≡ bytes_of fs w.0) × (length (bytes_of fs w.0) ≤ greatest_of w.1)) → IfSome old (λ fs. HasGathered ws rest fs new)
gather_more None mid ws left w rest contents new bytes e l n h r = tt
gather_more (Some fs) mid ws left w rest contents new bytes e l n h r =
    let r' = subst (λ (o : Option Files). IfSome o (λ gs. (bytes ≡ bytes_of gs w.0) × (length (bytes_of gs w.0) ≤ greatest_of w.1))) e r in
    subst (λ c. HasGathered ws rest fs c) (sym n) (one_more ws w rest fs contents bytes (subst (λ k. HasGathered ws k fs contents) l h) r')

limited : (old : Option Files) (ws left : Wants) (w : List ℕ × Bound) (rest : Wants) (contents : List (List ℕ)) (which : Bound) → left ≡ w ∷ rest → IfSome old (λ fs. HasGathered ws left fs contents) → IfSome old (λ fs. Overlong (w ∷ []) fs which) → IfSome old (λ fs. Overlong ws fs which)
limited None ws left w rest contents which l h o = tt
limited (Some fs) ws left w rest contents which l h o =
    let h' = subst (λ k. HasGathered ws k fs contents) l h in
    h'.overlong which (⊎_elim (λ a. inl a) (λ b. absurd b.1) o)

pub count_more : {A : Type 0} (xs ys : List A) (x : A) (i : ℕ) → ys ≡ xs ++ x ∷ [] → length xs ≡ i → length ys ≡ i + 1
count_more xs ys x i e c = omega (arith, ap length e, length-append xs (x ∷ []), c)

-- a further file is there
one_there : (ws left : Wants) (w : List ℕ × Bound) (rest : Wants) → left ≡ w ∷ rest → (AreSome left → AreSome ws) → AreSome ws
one_there ws left w rest l a = a (subst AreSome (sym l) tt)

pub one_left : {A : Type 0} (f : A → List ℕ × Bound) (xs : List A) (i : ℕ) → i < length xs → AreSome (map f (drop i xs))
one_left f [] i lt = absurd (omega (arith, lt))
one_left f (x ∷ xs) zero lt = tt
one_left f (x ∷ xs) (suc i) lt = one_left f xs i (omega (arith, lt))

-- a further file wasn't read
pub gather_fails : (old mid : Option Files) (ws left : Wants) (w : List ℕ × Bound) (rest : Wants) (contents : List (List ℕ)) (s : Status) → mid ≡ old → left ≡ w ∷ rest → IfSome old (λ fs. HasGathered ws left fs contents) → (AreSome left → AreSome ws) → NotGathered (w ∷ []) mid s → NotGathered ws old s
gather_fails old mid ws left w rest contents status.ReadFault e l h a n = one_there ws left w rest l a
gather_fails old mid ws left w rest contents status.Memory e l h a n = tt
gather_fails old mid ws left w rest contents (status.Limit which found) e l h a n =
    (n.0, limited old ws left w rest contents which l h (subst (λ (k : Option Files). IfSome k (λ fs. Overlong (w ∷ []) fs which)) e n.1), one_there ws left w rest l a)
gather_fails old mid ws left w rest contents s e l h a n = absurd n

pub gather_none : (old : Option Files) (ws : Wants) → IfSome old (λ fs. HasGathered ws ws fs [])
gather_none None ws = tt
gather_none (Some fs) ws = record { so_far = refl; fit = λ f. f; overlong = λ which o. o }

pub gather_all : (old : Option Files) (ws left : Wants) (contents : List (List ℕ)) → left ≡ [] → IfSome old (λ fs. HasGathered ws left fs contents) → Gathered ws old contents
gather_all None ws left contents l h = tt
gather_all (Some fs) ws left contents l h =
    let h' = subst (λ k. HasGathered ws k fs contents) l h in
    (sym (append-nil contents) ∙ h'.so_far, h'.fit tt)

abbrev Puts : Type 0
Puts = List (List ℕ × List ℕ)

pub put_none : (fs : Puts) (old : Option Files) → HasPutFiles fs fs old old
put_none fs old = record { whole = refl; part = λ new p. p }

pub put_more : (fs left : Puts) (f : List ℕ × List ℕ) (rest : Puts) (old now new : Option Files) → left ≡ f ∷ rest → new ≡ told_put f.0 f.1 now → HasPutFiles fs left old now → HasPutFiles fs rest old new
put_more fs left f rest old now new l e h =
    let h' = subst (λ k. HasPutFiles fs k old now) l h in
    record {
      whole = ap (all_put rest) e ∙ h'.whole;
      part = λ last p. h'.part last (inr (inr (subst (λ o. Partly rest o last) e p)));
    }

pub put_fails : (fs left : Puts) (f : List ℕ × List ℕ) (rest : Puts) (old now new : Option Files) → left ≡ f ∷ rest → HasPutFiles fs left old now → IsPart f.0 f.1 now new → Partly fs old new
put_fails fs left f rest old now new l h p =
    let h' = subst (λ k. HasPutFiles fs k old now) l h in
    h'.part new (⊎_elim (λ a. inl a) (λ b. inr (inl b)) p)
