-- What stands where, as values are written.
use Rattle.std.proofs.Common.{◌≡◌, ◌≢◌, ◌⊎◌, ◌<◌, ◌≤◌, ℕ, zero, suc, Bool, true, false, List, [], ◌∷◌, Option, Some, None, length, refl, sym, ap, ◌∙◌, subst, ⊎_elim, inl, inr, arith, get_or-set_same, get_or-set_other, length-set}
use Rattle.std.specs.Prelude.{All, ◌==◌, ◌&&◌, if◌then◌else◌, nat_le, slice_index_or, slice_set}
use Rattle.std.proofs.lemmas.Bool.{and_from, and_parts, cases_eq, eq-eqb, eqb-false, eqb-true, le-leb, leb-true, ne_eqb}
use Rattle.std.proofs.lemmas.List.{length-replicate}
use Rattle.std.proofs.lemmas.List.Elements.{All-head, All-replicate, All-set, All-tail, All-weaker}
use Rattle.low_ir.specs.Code.{Register}
use Rattle.pass_copy_propagation_law.specs.Copies.{Copied, Fewer, Moves, Standing}
use Rattle.pass_copy_propagation.specs.Knowing.{IsKnown, Knowing, copied, delivered, forgotten, if_still, lasts, opened, parted, stands, stands_in, unknown}

-- a value that stands still where it was put
record Still (k : Knowing) (place time w : ℕ) : Type 0 where
  is : w ≡ place
  began : k.began ≤ time
  written : slice_index_or k.written place 0 ≤ time

still : (k : Knowing) (place time w : ℕ) → if_still k place time ≡ Some w → Still k place time w
still k place time w e = by_test (nat_le k.began time && nat_le (slice_index_or k.written place 0) time) refl e
  where
    by_test : (b : Bool) → (nat_le k.began time && nat_le (slice_index_or k.written place 0) time) ≡ b → (if b then Some place else None) ≡ Some w → Still k place time w
    by_test false t q = cc
    by_test true t q =
        let both = and_parts (nat_le k.began time) (nat_le (slice_index_or k.written place 0) time) t in
        record { is = cc; began = leb-true k.began time both.0; written = leb-true (slice_index_or k.written place 0) time both.1 }

stands_still : (k : Knowing) (place time : ℕ) → k.began ≤ time → slice_index_or k.written place 0 ≤ time → if_still k place time ≡ Some place
stands_still k place time a b =
    ap (λ t. if t then Some place else None) (and_from (nat_le k.began time) (nat_le (slice_index_or k.written place 0) time) (le-leb k.began time a) (le-leb (slice_index_or k.written place 0) time b))

-- a register that lasts stands in its own place
own_place : (k : Knowing) (v w : ℕ) → slice_index_or k.lasting v false ≡ true → stands k v ≡ Some w → w ≡ v
own_place k v w t e =
    let own : stands k v ≡ Some v = ap (λ b. stands_in k b v) t in
    let same : Some v ≡ Some w = sym own ∙ e in
    cc

time_before : (clock : ℕ) (times : List ℕ) (v : ℕ) → 0 < clock → All (λ time. time < clock) times → slice_index_or times v 0 < clock
time_before clock [] v h all = h
time_before clock (t ∷ times) zero h all = All-head (λ time. time < clock) t times all
time_before clock (t ∷ times) (suc v) h all = time_before clock times v h (All-tail (λ time. time < clock) t times all)

-- what is known at first
pub known_unknown : (lasting : List Bool) (size : ℕ) → IsKnown size lasting (unknown lasting size)
known_unknown lasting size =
    record {
      lasting = refl;
      places = length-replicate {A = ℕ} size 0;
      times = length-replicate {A = ℕ} size 0;
      written = length-replicate {A = ℕ} size 0;
      before = All-replicate (λ time. time < 1) size 0 (omega arith);
      begun = omega arith;
    }

pub known_opened : (size : ℕ) (lasting : List Bool) (k : Knowing) → IsKnown size lasting k → IsKnown size lasting (opened k)
known_opened size lasting k h = record { lasting = h.lasting; places = h.places; times = h.times; written = h.written; before = h.before; begun = h.begun }

later : (clock : ℕ) (times : List ℕ) → All (λ time. time < clock) times → All (λ time. time < suc clock) times
later clock times all = All-weaker (λ time. time < clock) (λ time. time < suc clock) (λ time lt. omega arith) times all

pub known_delivered : (size : ℕ) (lasting : List Bool) (k : Knowing) (r place : ℕ) → IsKnown size lasting k → IsKnown size lasting (delivered k r place)
known_delivered size lasting k r place h =
    let now : k.clock < suc k.clock = omega arith in
    record {
      lasting = h.lasting;
      places = length-set (slice_set k.places place place) r place ∙ length-set k.places place place ∙ h.places;
      times = length-set (slice_set k.times place k.clock) r k.clock ∙ length-set k.times place k.clock ∙ h.times;
      written = length-set k.written place k.clock ∙ h.written;
      before = All-set (λ time. time < suc k.clock) (slice_set k.times place k.clock) r k.clock now (All-set (λ time. time < suc k.clock) k.times place k.clock now (later k.clock k.times h.before));
      begun = omega arith;
    }

pub known_parted : (size : ℕ) (lasting : List Bool) (k : Knowing) (r place : ℕ) → IsKnown size lasting k → IsKnown size lasting (parted k r place)
known_parted size lasting k r place h =
    let now : k.clock < suc k.clock = omega arith in
    record {
      lasting = h.lasting;
      places = length-set k.places r place ∙ h.places;
      times = length-set k.times r k.clock ∙ h.times;
      written = length-set k.written place k.clock ∙ h.written;
      before = All-set (λ time. time < suc k.clock) k.times r k.clock now (later k.clock k.times h.before);
      begun = omega arith;
    }

pub known_copied : (size : ℕ) (lasting : List Bool) (k : Knowing) (r place : ℕ) → IsKnown size lasting k → IsKnown size lasting (copied k r place)
known_copied size lasting k r place h =
    let now : k.clock < suc k.clock = omega arith in
    record {
      lasting = h.lasting;
      places = length-set k.places r place ∙ h.places;
      times = length-set k.times r k.clock ∙ h.times;
      written = h.written;
      before = All-set (λ time. time < suc k.clock) k.times r k.clock now (later k.clock k.times h.before);
      begun = omega arith;
    }

-- as a block begins, what lasts stands, and nothing else
pub opened_lasts : (size : ℕ) (lasting : List Bool) (k : Knowing) → IsKnown size lasting k → Fewer (lasts lasting) (stands (opened k))
opened_lasts size lasting k h v w e = subst (λ ls. lasts ls v ≡ Some w) h.lasting (by_test (slice_index_or k.lasting v false) refl e)
  where
    by_test : (b : Bool) → slice_index_or k.lasting v false ≡ b → stands_in (opened k) b v ≡ Some w → lasts k.lasting v ≡ Some w
    by_test true t q = ap (λ b. if b then Some v else None) t ∙ q
    by_test false t q =
        let s = still (opened k) (slice_index_or k.places v 0) (slice_index_or k.times v 0) w q in
        let before = time_before k.clock k.times v h.begun h.before in
        let began = s.began in
        absurd (omega arith)

pub lasts_stands : (size : ℕ) (lasting : List Bool) (k : Knowing) → IsKnown size lasting k → Fewer (stands k) (lasts lasting)
lasts_stands size lasting k h v w e = by_test (slice_index_or k.lasting v false) refl (subst (λ ls. lasts ls v ≡ Some w) (sym h.lasting) e)
  where
    by_test : (b : Bool) → slice_index_or k.lasting v false ≡ b → lasts k.lasting v ≡ Some w → stands k v ≡ Some w
    by_test true t q = ap (λ b. stands_in k b v) t ∙ sym (ap (λ b. if b then Some v else None) t) ∙ q
    by_test false t q =
        let none : lasts k.lasting v ≡ None = ap (λ b. if b then Some v else None) t in
        let bad : None ≡ Some w = sym none ∙ q in
        cc

module _ (size : ℕ) (lasting : List Bool) (k : Knowing) (d e : ℕ) (known : IsKnown size lasting k) (place : e < size) where
  -- other values stand where they stood, and not in the register that was written
  pub others_stand : (v w : ℕ) → v ≢ d → v ≢ e → stands (delivered k d e) v ≡ Some w → (w ≢ e) × (stands k v ≡ Some w)
  others_stand v w nd ne q = by_test (slice_index_or k.lasting v false) refl q
    where
      by_test : (b : Bool) → slice_index_or k.lasting v false ≡ b → stands_in (delivered k d e) b v ≡ Some w → (w ≢ e) × (stands k v ≡ Some w)
      by_test true t q2 =
          let same : v ≡ w = cc in
          (λ w_e. ne (same ∙ w_e), ap (λ b. stands_in k b v) t ∙ q2)
      by_test false t q2 =
          let n = delivered k d e in
          let p : slice_index_or n.places v 0 ≡ slice_index_or k.places v 0 = get_or-set_other (slice_set k.places e e) d v e 0 nd ∙ get_or-set_other k.places e v e 0 ne in
          let m : slice_index_or n.times v 0 ≡ slice_index_or k.times v 0 = get_or-set_other (slice_set k.times e k.clock) d v k.clock 0 nd ∙ get_or-set_other k.times e v k.clock 0 ne in
          let s = still n (slice_index_or n.places v 0) (slice_index_or n.times v 0) w q2 in
          let before = time_before k.clock k.times v known.begun known.before in
          let there = s.is ∙ p in
          let long = known.written in
          let written : slice_index_or n.written w 0 ≤ slice_index_or k.times v 0 = subst (λ x. slice_index_or n.written x 0 ≤ slice_index_or k.times v 0) (sym s.is) (subst (λ x. slice_index_or n.written (slice_index_or n.places v 0) 0 ≤ x) m s.written) in
          let apart : w ≢ e = λ w_e.
          let now : slice_index_or n.written w 0 ≡ k.clock = ap (λ x. slice_index_or n.written x 0) w_e ∙ get_or-set_same k.written e k.clock 0 (omega arith) in
          omega arith in
          let old : slice_index_or n.written w 0 ≡ slice_index_or k.written w 0 = get_or-set_other k.written e w k.clock 0 apart in
          let began : k.began ≤ slice_index_or k.times v 0 = subst (λ x. k.began ≤ x) m s.began in
          let here : slice_index_or k.written (slice_index_or k.places v 0) 0 ≤ slice_index_or k.times v 0 = subst (λ x. slice_index_or k.written x 0 ≤ slice_index_or k.times v 0) there (omega arith) in
          (apart, ap (λ b. stands_in k b v) t ∙ stands_still k (slice_index_or k.places v 0) (slice_index_or k.times v 0) began here ∙ ap Some (sym there))

  -- the register that was written stands in its own place
  pub written_stands : (w : ℕ) → stands (delivered k d e) e ≡ Some w → w ≡ e
  written_stands w q = by_test (slice_index_or k.lasting e false) refl q
    where
      by_test : (b : Bool) → slice_index_or k.lasting e false ≡ b → stands_in (delivered k d e) b e ≡ Some w → w ≡ e
      by_test true t q2 = cc
      by_test false t q2 =
          let n = delivered k d e in
          let long = known.places in
          let s = still n (slice_index_or n.places e 0) (slice_index_or n.times e 0) w q2 in
          let first : slice_index_or (slice_set k.places e e) e 0 ≡ e = get_or-set_same k.places e e 0 (omega arith) in
          let there : slice_index_or n.places e 0 ≡ e =
          ⊎_elim
          (λ (same : e ≡ d).
          let long2 = length-set k.places e e in
          ap (λ x. slice_index_or (slice_set (slice_set k.places e e) d e) x 0) same ∙ get_or-set_same (slice_set k.places e e) d e 0 (let s2 = same in omega arith))
          (λ (other : e ≢ d). get_or-set_other (slice_set k.places e e) d e e 0 other ∙ first)
          (cases_eq e d) in
          s.is ∙ there

  -- and so does the one whose value it is
  pub source_stands : d < size → slice_index_or k.lasting d false ≡ false → (w : ℕ) → stands (delivered k d e) d ≡ Some w → w ≡ e
  source_stands few t w q =
      let n = delivered k d e in
      let q2 : if_still n (slice_index_or n.places d 0) (slice_index_or n.times d 0) ≡ Some w = sym (ap (λ b. stands_in n b d) t) ∙ q in
      let s = still n (slice_index_or n.places d 0) (slice_index_or n.times d 0) w q2 in
      let long = known.places in
      let long2 = length-set k.places e e in
      s.is ∙ get_or-set_same (slice_set k.places e e) d e 0 (omega arith)

-- an instruction wrote to its own register
pub kept_becomes : (size : ℕ) (lasting : List Bool) (k : Knowing) (d : ℕ) → IsKnown size lasting k → d < size → Moves d d (stands k) (stands (delivered k d d))
kept_becomes size lasting k d known few v w q =
    ⊎_elim
    (λ (same : v ≡ d). inl (same, written_stands size lasting k d d known few w (subst (λ x. stands (delivered k d d) x ≡ Some w) same q)))
    (λ (other : v ≢ d). let h = others_stand size lasting k d d known few v w other other q in inr (other, h.0, h.1))
    (cases_eq v d)

-- the value of t was written to x alone
module _ (size : ℕ) (lasting : List Bool) (k : Knowing) (t x : ℕ) (known : IsKnown size lasting k) (place : x < size) (source : t < size) (brief : slice_index_or k.lasting t false ≡ false) (free : slice_index_or k.lasting x false ≡ false) where
  others_parted : (v w : ℕ) → v ≢ t → stands (parted k t x) v ≡ Some w → (w ≢ x) × (stands k v ≡ Some w)
  others_parted v w nt q = by_test (slice_index_or k.lasting v false) refl q
    where
      by_test : (b : Bool) → slice_index_or k.lasting v false ≡ b → stands_in (parted k t x) b v ≡ Some w → (w ≢ x) × (stands k v ≡ Some w)
      by_test true r q2 =
          let same : v ≡ w = cc in
          (λ w_x. let bad : true ≡ false = sym r ∙ ap (λ y. slice_index_or k.lasting y false) (same ∙ w_x) ∙ free in cc, ap (λ b. stands_in k b v) r ∙ q2)
      by_test false r q2 =
          let n = parted k t x in
          let p : slice_index_or n.places v 0 ≡ slice_index_or k.places v 0 = get_or-set_other k.places t v x 0 nt in
          let m : slice_index_or n.times v 0 ≡ slice_index_or k.times v 0 = get_or-set_other k.times t v k.clock 0 nt in
          let s = still n (slice_index_or n.places v 0) (slice_index_or n.times v 0) w q2 in
          let before = time_before k.clock k.times v known.begun known.before in
          let there = s.is ∙ p in
          let long = known.written in
          let written : slice_index_or n.written w 0 ≤ slice_index_or k.times v 0 = subst (λ y. slice_index_or n.written y 0 ≤ slice_index_or k.times v 0) (sym s.is) (subst (λ y. slice_index_or n.written (slice_index_or n.places v 0) 0 ≤ y) m s.written) in
          let apart : w ≢ x = λ w_x.
          let now : slice_index_or n.written w 0 ≡ k.clock = ap (λ y. slice_index_or n.written y 0) w_x ∙ get_or-set_same k.written x k.clock 0 (omega arith) in
          omega arith in
          let old : slice_index_or n.written w 0 ≡ slice_index_or k.written w 0 = get_or-set_other k.written x w k.clock 0 apart in
          let began : k.began ≤ slice_index_or k.times v 0 = subst (λ y. k.began ≤ y) m s.began in
          let here : slice_index_or k.written (slice_index_or k.places v 0) 0 ≤ slice_index_or k.times v 0 = subst (λ y. slice_index_or k.written y 0 ≤ slice_index_or k.times v 0) there (omega arith) in
          (apart, ap (λ b. stands_in k b v) r ∙ stands_still k (slice_index_or k.places v 0) (slice_index_or k.times v 0) began here ∙ ap Some (sym there))

  parted_stands : (w : ℕ) → stands (parted k t x) t ≡ Some w → w ≡ x
  parted_stands w q =
      let n = parted k t x in
      let q2 : if_still n (slice_index_or n.places t 0) (slice_index_or n.times t 0) ≡ Some w = sym (ap (λ b. stands_in n b t) brief) ∙ q in
      let s = still n (slice_index_or n.places t 0) (slice_index_or n.times t 0) w q2 in
      let long = known.places in
      s.is ∙ get_or-set_same k.places t x 0 (omega arith)

  pub parts : Moves t x (stands k) (stands (parted k t x))
  parts v w q =
      ⊎_elim
      (λ (same : v ≡ t). inl (same, parted_stands w (subst (λ y. stands (parted k t x) y ≡ Some w) same q)))
      (λ (other : v ≢ t). let h = others_parted v w other q in inr (other, h.0, h.1))
      (cases_eq v t)

-- between an instruction that delivers its value and the copy behind it
abbrev between_in : Bool → Bool → ℕ → Option ℕ → Option ℕ
between_in true b x o = Some x
between_in false true x o = None
between_in false false x o = o

abbrev pub between : Knowing → ℕ → ℕ → Standing
between n t x v = between_in (v == t) (v == x) x (stands n v)

module _ (size : ℕ) (lasting : List Bool) (k : Knowing) (t x : ℕ) (known : IsKnown size lasting k) (place : x < size) (source : t < size) (brief : slice_index_or k.lasting t false ≡ false) (apart : x ≢ t) where
  pub delivers : Moves t x (stands k) (between (delivered k t x) t x)
  delivers v w q = by_test (v == t) (v == x) refl refl q
    where
      by_test : (a b : Bool) → (v == t) ≡ a → (v == x) ≡ b → between_in a b x (stands (delivered k t x) v) ≡ Some w → ((v ≡ t) × (w ≡ x)) ⊎ ((v ≢ t) × (w ≢ x) × (stands k v ≡ Some w))
      by_test true b e f q2 = inl (eqb-true v t e, cc)
      by_test false true e f q2 = cc
      by_test false false e f q2 =
          let h = others_stand size lasting k t x known place v w (eqb-false v t e) (eqb-false v x f) q2 in
          inr (eqb-false v t e, h.0, h.1)

  pub copy_delivered : Copied x (Register t) (between (delivered k t x) t x) (stands (delivered k t x))
  copy_delivered v w q =
      let n = delivered k t x in
      let at_source : between n t x t ≡ Some x = ap (λ a. between_in a (t == x) x (stands n t)) (eq-eqb t t refl) in
      ⊎_elim
      (λ (same : v ≡ x).
      let w_x = written_stands size lasting k t x known place w (subst (λ y. stands n y ≡ Some w) same q) in
      inl (same, at_source ∙ ap Some (sym w_x)))
      (λ (other : v ≢ x).
      ⊎_elim
      (λ (here : v ≡ t).
      let w_x = source_stands size lasting k t x known place source brief w (subst (λ y. stands n y ≡ Some w) here q) in
      inr (other, ap (between n t x) here ∙ at_source ∙ ap Some (sym w_x)))
      (λ (elsewhere : v ≢ t).
      inr (other, ap (λ a. between_in a (v == x) x (stands n v)) (ne_eqb v t elsewhere) ∙ ap (λ b. between_in false b x (stands n v)) (ne_eqb v x other) ∙ q))
      (cases_eq v t))
      (cases_eq v x)

-- what isn't a copy stands where it stood
pub others_copied : (k : Knowing) (d place v w : ℕ) → v ≢ d → stands (copied k d place) v ≡ Some w → stands k v ≡ Some w
others_copied k d place v w other q = by_test (slice_index_or k.lasting v false) refl q
  where
    by_test : (b : Bool) → slice_index_or k.lasting v false ≡ b → stands_in (copied k d place) b v ≡ Some w → stands k v ≡ Some w
    by_test true t q2 = ap (λ b. stands_in k b v) t ∙ q2
    by_test false t q2 =
        let n = copied k d place in
        let p : slice_index_or n.places v 0 ≡ slice_index_or k.places v 0 = get_or-set_other k.places d v place 0 other in
        let m : slice_index_or n.times v 0 ≡ slice_index_or k.times v 0 = get_or-set_other k.times d v k.clock 0 other in
        ap (λ b. stands_in k b v) t ∙ sym (ap (λ y. if_still k y (slice_index_or n.times v 0)) p ∙ ap (λ y. if_still k (slice_index_or k.places v 0) y) m) ∙ q2

pub known_forgotten : (size : ℕ) (lasting : List Bool) (k : Knowing) (r : ℕ) → IsKnown size lasting k → IsKnown size lasting (forgotten k r)
known_forgotten size lasting k r h =
    record {
      lasting = h.lasting;
      places = h.places;
      times = length-set k.times r 0 ∙ h.times;
      written = h.written;
      before = All-set (λ time. time < k.clock) k.times r 0 h.begun h.before;
      begun = h.begun;
    }

-- what isn't forgotten stands where it stood
pub others_forgotten : (k : Knowing) (d v w : ℕ) → v ≢ d → stands (forgotten k d) v ≡ Some w → stands k v ≡ Some w
others_forgotten k d v w other q = by_test (slice_index_or k.lasting v false) refl q
  where
    by_test : (b : Bool) → slice_index_or k.lasting v false ≡ b → stands_in (forgotten k d) b v ≡ Some w → stands k v ≡ Some w
    by_test true t q2 = ap (λ b. stands_in k b v) t ∙ q2
    by_test false t q2 =
        let m : slice_index_or (slice_set k.times d 0) v 0 ≡ slice_index_or k.times v 0 = get_or-set_other k.times d v 0 0 other in
        ap (λ b. stands_in k b v) t ∙ sym (ap (λ y. if_still k (slice_index_or k.places v 0) y) m) ∙ q2

-- a copy of itself stands in its own place
pub own_copied : (k : Knowing) (d w : ℕ) → d < length k.places → stands (copied k d d) d ≡ Some w → w ≡ d
own_copied k d w few q = by_test (slice_index_or k.lasting d false) refl q
  where
    by_test : (b : Bool) → slice_index_or k.lasting d false ≡ b → stands_in (copied k d d) b d ≡ Some w → w ≡ d
    by_test true t q2 = cc
    by_test false t q2 =
        let n = copied k d d in
        let s = still n (slice_index_or n.places d 0) (slice_index_or n.times d 0) w q2 in
        s.is ∙ get_or-set_same k.places d d 0 few

-- a copy that was left out
pub copy_left : (size : ℕ) (lasting : List Bool) (k : Knowing) (d x place : ℕ) → IsKnown size lasting k → d < size → slice_index_or k.lasting d false ≡ false → stands k x ≡ Some place → Copied d (Register x) (stands k) (stands (copied k d place))
copy_left size lasting k d x place known few brief found v w q =
    let n = copied k d place in
    ⊎_elim
    (λ (same : v ≡ d).
    let q1 : stands n d ≡ Some w = subst (λ y. stands n y ≡ Some w) same q in
    let q2 : if_still n (slice_index_or n.places d 0) (slice_index_or n.times d 0) ≡ Some w = sym (ap (λ b. stands_in n b d) brief) ∙ q1 in
    let s = still n (slice_index_or n.places d 0) (slice_index_or n.times d 0) w q2 in
    let long = known.places in
    let there = s.is ∙ get_or-set_same k.places d place 0 (omega arith) in
    inl (same, found ∙ ap Some (sym there)))
    (λ (other : v ≢ d). inr (other, others_copied k d place v w other q))
    (cases_eq v d)
