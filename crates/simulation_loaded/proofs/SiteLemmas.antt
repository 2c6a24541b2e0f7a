-- The calls of a program, as its functions have them.
use Rattle.std.proofs.Common.{◌≡◌, inl, inr, ℕ, zero, suc, ◌<◌, ◌≤◌, Bool, true, false, List, [], ◌∷◌, ◌++◌, map, length, refl, sym, ap, subst, ⊎_elim, arith, if◌then◌else◌}
use Rattle.std.specs.Prelude.{Option, All, Contains, slice_index_or}
use Rattle.std.proofs.lemmas.List.{get_or_past}
use Rattle.std.proofs.lemmas.List.Elements.{All-head, All-tail, All-contains, Contains-get_or, Contains-append_left, Contains-append_right}
use Rattle.std.proofs.lemmas.Option.{slice_get-get_or}
use Rattle.std.proofs.lemmas.Bool.{cases_lt, false≢true}
use Rattle.low_ir.specs.declared.places.Place.{Place}
use Rattle.low_ir.specs.declared.places.Place.TheVariants.{Register as InRegister, Slot}
use Rattle.low_ir.specs.Code.{Operand, Instr, Do, Call}
use Rattle.low_ir.specs.Effects.{is_member}
use Rattle.low_ir.specs.Places.{Placed, machine_registers}
use Rattle.asm_program.specs.Emission.{registers_among, kept_among}
use Rattle.asm_program.specs.Functions.{PlacedBlock, PlacedFunction, no_function, function_in, callees_in, all_callees}
use Rattle.asm_program.specs.Formed.{IsProgram}
use Rattle.asm_program.specs.Ranges.{IsLasting, InFunction, InProgram}
use Rattle.image_frames.specs.Needs.{parameters_of, Site, code_sites, blocks_sites, sites_homes, outline_of, outlines_of, outline_at, no_outline}
use Rattle.image_frames.proofs.TableLemmas.{member_cases, member_first, member_rest}
use Rattle.image_frames.proofs.NeedsLemmas.{HasSite, AreBelow}

has_left : (xs ys : List Site) (s : Site) → HasSite xs s → HasSite (xs ++ ys) s
has_left [] ys s h = absurd h
has_left (x ∷ xs) ys s (inl e) = inl e
has_left (x ∷ xs) ys s (inr h) = inr (has_left xs ys s h)

has_right : (xs ys : List Site) (s : Site) → HasSite ys s → HasSite (xs ++ ys) s
has_right [] ys s h = h
has_right (x ∷ xs) ys s h = inr (has_right xs ys s h)

abbrev pub site_by : Instr Place (List ℕ) → Site
site_by (Do i) = record { callee = 0; kept = [] }
site_by (Call d g args note) = record { callee = g; kept = note }

abbrev pub is_call : Instr Place (List ℕ) → Bool
is_call (Do i) = false
is_call (Call d g args note) = true

in_code : (is : List (Instr Place (List ℕ))) (k : ℕ) (d : Option Place) (g : ℕ) (args : List (Operand Place)) (note : List ℕ) → k < length is → slice_index_or is k (Call d g args note) ≡ Call d g args note → HasSite (code_sites is) (record { callee = g; kept = note })
in_code [] k d g args note less e = absurd (omega arith)
in_code (Do i ∷ is) zero d g args note less e = absurd (false≢true (ap is_call e))
in_code (Call a b c n ∷ is) zero d g args note less e = inl (ap site_by e)
in_code (Do i ∷ is) (suc k) d g args note less e = in_code is k d g args note (omega arith) e
in_code (Call a b c n ∷ is) (suc k) d g args note less e = inr (in_code is k d g args note (omega arith) e)

in_blocks : (bs : List PlacedBlock) (k : ℕ) (b : PlacedBlock) (s : Site) → k < length bs → slice_index_or bs k b ≡ b → HasSite (code_sites b.code) s → HasSite (blocks_sites bs) s
in_blocks [] k b s less e h = absurd (omega arith)
in_blocks (x ∷ bs) zero b s less e h = has_left (code_sites x.code) (blocks_sites bs) s (subst (λ (y : PlacedBlock). HasSite (code_sites y.code) s) (sym e) h)
in_blocks (x ∷ bs) (suc k) b s less e h = has_right (code_sites x.code) (blocks_sites bs) s (in_blocks bs k b s (omega arith) e h)

abbrev pub sites_of : Placed → ℕ → List Site
sites_of p f = blocks_sites (function_in p f).blocks

pub has_site : (p : Placed) (f g : ℕ) (b : PlacedBlock) (d : Option Place) (args : List (Operand Place)) (note : List ℕ) → Contains (function_in p f).blocks b → Contains b.code (Call d g args note) → HasSite (sites_of p f) (record { callee = g; kept = note })
has_site p f g b d args note in_function in_block =
    in_blocks (function_in p f).blocks in_function.0 b (record { callee = g; kept = note }) in_function.1 in_function.2 (in_code b.code in_block.0 d g args note in_block.1 in_block.2)

-- the outline of a function is that of its number
outline_in : (p : Placed) (fns : List PlacedFunction) (f : ℕ) → slice_index_or (map (outline_of p) fns) f no_outline ≡ outline_of p (slice_index_or fns f no_function)
outline_in p [] f = refl
outline_in p (fn ∷ fns) zero = refl
outline_in p (fn ∷ fns) (suc f) = outline_in p fns f

pub outline_is : (p : Placed) (f : ℕ) → outline_at (outlines_of p) f ≡ outline_of p (function_in p f)
outline_is p f = outline_in p p.functions f

-- calls go to lower numbers
here : (x : ℕ) (xs : List ℕ) → Contains (x ∷ xs) x
here x xs = (0, omega arith, refl)

below_left : (f : ℕ) (xs ys : List Site) → AreBelow f xs → AreBelow f ys → AreBelow f (xs ++ ys)
below_left f [] ys a b = b
below_left f (x ∷ xs) ys a b = (a.0, below_left f xs ys a.1 b)

below_code : (f : ℕ) (is : List (Instr Place (List ℕ))) → ((g : ℕ) → Contains (callees_in is) g → g < f) → AreBelow f (code_sites is)
below_code f [] h = tt
below_code f (Do i ∷ is) h = below_code f is h
below_code f (Call d g args note ∷ is) h = (h g (here g (callees_in is)), below_code f is (λ n c. h n (Contains-append_right (g ∷ []) (callees_in is) n c)))

below_blocks : (f : ℕ) (bs : List PlacedBlock) → ((g : ℕ) → Contains (all_callees bs) g → g < f) → AreBelow f (blocks_sites bs)
below_blocks f [] h = tt
below_blocks f (b ∷ bs) h =
    below_left f (code_sites b.code) (blocks_sites bs)
    (below_code f b.code (λ g c. h g (Contains-append_left (callees_in b.code) (all_callees bs) g c)))
    (below_blocks f bs (λ g c. h g (Contains-append_right (callees_in b.code) (all_callees bs) g c)))

pub sites_below : (p : Placed) → IsProgram p → (f : ℕ) → AreBelow f (sites_of p f)
sites_below p formed f = ⊎_elim inside past (cases_lt f (length p.functions))
  where
    inside : f < length p.functions → AreBelow f (sites_of p f)
    inside less = below_blocks f (function_in p f).blocks (formed.functions f (function_in p f) (slice_get-get_or p.functions f no_function less)).calls

    past : length p.functions ≤ f → AreBelow f (sites_of p f)
    past le = subst (λ (fn : PlacedFunction). AreBelow f (blocks_sites fn.blocks)) (sym (get_or_past p.functions f no_function le)) tt

-- registers of parameters hold values
registers_small : (ps : List Place) (q : ℕ) → All IsLasting ps → is_member (registers_among ps) q ≡ true → q < machine_registers
registers_small [] q a h = absurd (false≢true h)
registers_small (InRegister r ∷ ps) q a h = ⊎_elim first (λ k. registers_small ps q (All-tail IsLasting (InRegister r) ps a) k) (member_cases r q (registers_among ps) h)
  where
    first : r ≡ q → q < machine_registers
    first e = subst (λ y. y < machine_registers) e (All-head IsLasting (InRegister r) ps a)
registers_small (Slot k ∷ ps) q a h = registers_small ps q (All-tail IsLasting (Slot k) ps a) h

pub parameters_small : (p : Placed) (f q : ℕ) → InProgram p → f < length p.functions → is_member (registers_among (parameters_of p f)) q ≡ true → q < machine_registers
parameters_small p f q sound less h = registers_small (parameters_of p f) q (All-contains InFunction p.functions (function_in p f) sound (Contains-get_or p.functions f no_function less)).0 h

-- what a call keeps of its parameters' registers
pub kept_registers : (ps : List Place) (note : List ℕ) (q : ℕ) → is_member (kept_among ps note) q ≡ true → is_member (registers_among ps) q ≡ true
kept_registers [] note q h = h
kept_registers (InRegister r ∷ ps) note q h = by (is_member note r) h (kept_registers ps note q)
  where
    by : (b : Bool) → is_member (if b then r ∷ kept_among ps note else kept_among ps note) q ≡ true → (is_member (kept_among ps note) q ≡ true → is_member (registers_among ps) q ≡ true) → is_member (r ∷ registers_among ps) q ≡ true
    by true k go = ⊎_elim first (λ l. member_rest r q (registers_among ps) (go l)) (member_cases r q (kept_among ps note) k)
      where
        first : r ≡ q → is_member (r ∷ registers_among ps) q ≡ true
        first e = subst (λ y. is_member (r ∷ registers_among ps) y ≡ true) e (member_first r (registers_among ps))
    by false k go = member_rest r q (registers_among ps) (go k)
kept_registers (Slot k ∷ ps) note q h = kept_registers ps note q h

pub member_left : (xs ys : List ℕ) (q : ℕ) → is_member xs q ≡ true → is_member (xs ++ ys) q ≡ true
member_left [] ys q h = absurd (false≢true h)
member_left (x ∷ xs) ys q h = ⊎_elim first (λ k. member_rest x q (xs ++ ys) (member_left xs ys q k)) (member_cases x q xs h)
  where
    first : x ≡ q → is_member (x ∷ (xs ++ ys)) q ≡ true
    first e = subst (λ y. is_member (x ∷ (xs ++ ys)) y ≡ true) e (member_first x (xs ++ ys))

pub member_right : (xs ys : List ℕ) (q : ℕ) → is_member ys q ≡ true → is_member (xs ++ ys) q ≡ true
member_right [] ys q h = h
member_right (x ∷ xs) ys q h = member_rest x q (xs ++ ys) (member_right xs ys q h)

pub homes_hold : (p : Placed) (ss : List Site) (s : Site) (q : ℕ) → HasSite ss s → is_member (kept_among (parameters_of p s.callee) s.kept) q ≡ true → is_member (sites_homes p ss) q ≡ true
homes_hold p [] s q h k = absurd h
homes_hold p (x ∷ ss) s q (inl e) k =
    member_left (kept_among (parameters_of p x.callee) x.kept) (sites_homes p ss) q (subst (λ (y : Site). is_member (kept_among (parameters_of p y.callee) y.kept) q ≡ true) (sym e) k)
homes_hold p (x ∷ ss) s q (inr h) k = member_right (kept_among (parameters_of p x.callee) x.kept) (sites_homes p ss) q (homes_hold p ss s q h k)
