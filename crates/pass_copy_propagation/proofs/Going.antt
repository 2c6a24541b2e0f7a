-- Steps of the making of a block.
use Rattle.std.proofs.Common.{◌≡◌, ◌≢◌, ◌<◌, ℕ, zero, suc, ◌+◌, false, arith, List, [], ◌∷◌, ◌++◌, drop, length, map, Some, None, refl, sym, ap, ◌∙◌, subst, inl, inr}
use Rattle.std.specs.Prelude.{slice_get, slice_index_or}
use Rattle.std.proofs.lemmas.List.{append_assoc}
use Rattle.std.proofs.lemmas.Option.{none-some}
use Rattle.low_ir.specs.Code.{Do, End, Instr, Note, Operand, Register, Set}
use Rattle.low_ir.specs.Formed.{written_by}
use Rattle.pass_copy_propagation_law.specs.Copies.{Becomes, Beginnings, Code, Copied, Follows, Forgets, Standing, WritesOnly}
use Rattle.pass_copy_propagation.specs.Knowing.{Knowing, copied, delivered, forgotten, parted, stands}
use Rattle.pass_copy_propagation.specs.Making.{Continues, Goes, IsPut, IsRenamed, name_in}
use Rattle.pass_copy_propagation.proofs.Standing.{between, copy_delivered, copy_left, delivers, kept_becomes, known_copied, known_delivered, known_forgotten, known_parted, others_forgotten, parts}

get_below : (code : Code) (at : ℕ) (i : Instr ℕ Note) → slice_get code at ≡ Some i → at < length code
get_below [] at i e = cc
get_below (j ∷ code) zero i e = omega arith
get_below (j ∷ code) (suc at) i e = let h = get_below code at i e in omega arith

drop_there : (code : Code) (at : ℕ) (i : Instr ℕ Note) → slice_get code at ≡ Some i → drop at code ≡ i ∷ drop (at + 1) code
drop_there [] at i e = cc
drop_there (j ∷ code) zero i e =
    let same : j ≡ i = cc in
    let one : 1 ≡ 0 + 1 = omega arith in
    ap (λ x. x ∷ code) same ∙ ap (λ n. i ∷ drop n (j ∷ code)) one
drop_there (j ∷ code) (suc at) i e =
    let next : suc (at + 1) ≡ suc at + 1 = omega arith in
    drop_there code at i e ∙ ap (λ n. i ∷ drop n (j ∷ code)) next

pub goes_on : (a b c : Code) (k l m : Knowing) (x y z : Code) → Goes a k x b l y → Goes b l y c m z → Goes a k x c m z
goes_on a b c k l m x y z f g size lasting out first end whole made = g size lasting out first end whole (f size lasting out first end whole made)

-- an instruction that was put carries the old one
carried : (size : ℕ) (out : Beginnings) (end new : End ℕ) (k : Knowing) (into : ℕ) (i j : Instr ℕ Note) (rest js : Code) (now : Standing) → IsRenamed k into i j → Becomes size (written_by i) into (stands k) now → Follows size out end new rest now js → Follows size out end new (i ∷ rest) (stands k) (j ∷ js)
carried size out end new k into i j rest js now h becomes follows =
    inl (record {
      name = name_in k;
      into = into;
      now = now;
      behind = js;
      is = ap (λ z. z ∷ js) h.is;
      finds = h.finds;
      bases = h.bases;
      becomes = becomes;
      goes_on = follows;
    })

left_out : (size : ℕ) (out : Beginnings) (end new : End ℕ) (at : Standing) (d : ℕ) (x : Operand ℕ) (rest js : Code) (now : Standing) → Copied d x at now → Follows size out end new rest now js → Follows size out end new (Do (Set d x) ∷ rest) at js
left_out size out end new at d x rest js now copied follows = inr (inl (record { into = d; value = x; is = refl; now = now; copied = copied; goes_on = follows }))

-- an instruction behind what was made
behind : (made more js : Code) (j : Instr ℕ Note) → more ≡ made ++ j ∷ [] → made ++ j ∷ js ≡ more ++ js
behind made more js j e = sym (append_assoc made (j ∷ []) js) ∙ sym (ap (λ l. l ++ js) e)

-- an instruction that writes nothing
pub silent : (k : Knowing) (into : ℕ) (i : Instr ℕ Note) (rest made more : Code) → written_by i ≡ None → IsPut k into i made more → Goes (i ∷ rest) k made rest k more
silent k into i rest made more none put size lasting out first end whole m =
    record {
      known = m.known;
      follows = λ new js h.
          subst (Follows size out end new whole first) (behind made more js put.new put.is)
          (m.follows new (put.new ∷ js)
          (carried size out end new k into i put.new rest js (stands k) put.renamed
          (subst (λ o. Becomes size o into (stands k) (stands k)) (sym none) (λ v w q. q)) h));
    }

-- an instruction that writes its own register
pub kept : (k : Knowing) (d : ℕ) (i : Instr ℕ Note) (rest made more : Code) → written_by i ≡ Some d → d < length k.written → IsPut k d i made more → Goes (i ∷ rest) k made rest (delivered k d d) more
kept k d i rest made more writes few put size lasting out first end whole m =
    let inside : d < size = subst (λ n. d < n) m.known.written few in
    record {
      known = known_delivered size lasting k d d m.known;
      follows = λ new js h.
          subst (Follows size out end new whole first) (behind made more js put.new put.is)
          (m.follows new (put.new ∷ js)
          (carried size out end new k d i put.new rest js (stands (delivered k d d)) put.renamed
          (subst (λ o. Becomes size o d (stands k) (stands (delivered k d d))) (sym writes) (inside, kept_becomes size lasting k d m.known inside)) h));
    }

-- an instruction whose value goes to another register alone
pub parted_goes : (k : Knowing) (t x : ℕ) (i : Instr ℕ Note) (rest made more : Code) → written_by i ≡ Some t → slice_index_or k.lasting t false ≡ false → slice_index_or k.lasting x false ≡ false → x < length k.written → t < length k.places → IsPut k x i made more → Goes (i ∷ rest) k made rest (parted k t x) more
parted_goes k t x i rest made more writes brief free few own put size lasting out first end whole m =
    let inside : x < size = subst (λ n. x < n) m.known.written few in
    let source : t < size = subst (λ n. t < n) m.known.places own in
    let n = parted k t x in
    record {
      known = known_parted size lasting k t x m.known;
      follows = λ new js h.
          subst (Follows size out end new whole first) (behind made more js put.new put.is)
          (m.follows new (put.new ∷ js)
          (carried size out end new k x i put.new rest js (stands n) put.renamed
          (subst (λ o. Becomes size o x (stands k) (stands n)) (sym writes) (inside, parts size lasting k t x m.known inside source brief free)) h));
    }

-- an instruction that delivers its value, and the copy behind it
pub delivered_goes : (k : Knowing) (t x : ℕ) (i : Instr ℕ Note) (rest made more : Code) → written_by i ≡ Some t → x ≢ t → slice_index_or k.lasting t false ≡ false → x < length k.written → t < length k.places → IsPut k x i made more → Goes (i ∷ Do (Set x (Register t)) ∷ rest) k made rest (delivered k t x) more
delivered_goes k t x i rest made more writes apart brief few own put size lasting out first end whole m =
    let inside : x < size = subst (λ n. x < n) m.known.written few in
    let source : t < size = subst (λ n. t < n) m.known.places own in
    let n = delivered k t x in
    record {
      known = known_delivered size lasting k t x m.known;
      follows = λ new js h.
          subst (Follows size out end new whole first) (behind made more js put.new put.is)
          (m.follows new (put.new ∷ js)
          (carried size out end new k x i put.new (Do (Set x (Register t)) ∷ rest) js (between n t x) put.renamed
          (subst (λ o. Becomes size o x (stands k) (between n t x)) (sym writes) (inside, delivers size lasting k t x m.known inside source brief apart))
          (left_out size out end new (between n t x) x (Register t) rest js (stands n) (copy_delivered size lasting k t x m.known inside source brief apart) h)));
    }

-- a copy that is left out
pub left_goes : (k : Knowing) (d x place : ℕ) (rest made : Code) → slice_index_or k.lasting d false ≡ false → d < length k.places → stands k x ≡ Some place → Goes (Do (Set d (Register x)) ∷ rest) k made rest (copied k d place) made
left_goes k d x place rest made brief own found size lasting out first end whole m =
    let inside : d < size = subst (λ n. d < n) m.known.places own in
    record {
      known = known_copied size lasting k d place m.known;
      follows = λ new js h.
          m.follows new js
          (left_out size out end new (stands k) d (Register x) rest js (stands (copied k d place)) (copy_left size lasting k d x place m.known inside brief found) h);
    }

omitted : (size : ℕ) (out : Beginnings) (end new : End ℕ) (at : Standing) (d : ℕ) (i : Instr ℕ Note) (rest js : Code) (now : Standing) → WritesOnly i d → Forgets d at now → Follows size out end new rest now js → Follows size out end new (i ∷ rest) at js
omitted size out end new at d i rest js now only forgets follows = inr (inr (record { into = d; only = only; now = now; forgets = forgets; goes_on = follows }))

-- an instruction is left out that only writes a register, which stands nowhere then
pub unread_goes : (k : Knowing) (d : ℕ) (i : Instr ℕ Note) (rest made : Code) → WritesOnly i d → stands (forgotten k d) d ≡ None → Goes (i ∷ rest) k made rest (forgotten k d) made
unread_goes k d i rest made only nowhere size lasting out first end whole m =
    let n = forgotten k d in
    let apart : (v w : ℕ) → stands n v ≡ Some w → v ≢ d = λ v w e same. none-some w (sym nowhere ∙ subst (λ x. stands n x ≡ Some w) same e) in
    record {
      known = known_forgotten size lasting k d m.known;
      follows = λ new js h.
          m.follows new js
          (omitted size out end new (stands k) d i rest js (stands n) only
          (λ v w e. (apart v w e, others_forgotten k d v w (apart v w e) e)) h);
    }

-- one instruction is done, or two
pub one_done : (code : Code) (at : ℕ) (i : Instr ℕ Note) (k now : Knowing) (made more : Code) → slice_get code at ≡ Some i → ((rest : Code) → Goes (i ∷ rest) k made rest now more) → Continues code at k made now more (at + 1)
one_done code at i k now made more there goes =
    record {
      later = omega arith;
      inside = let h = get_below code at i there in omega arith;
      goes = subst (λ l. Goes l k made (drop (at + 1) code) now more) (sym (drop_there code at i there)) (goes (drop (at + 1) code));
    }

pub two_done : (code : Code) (at : ℕ) (i j : Instr ℕ Note) (k now : Knowing) (made more : Code) → slice_get code at ≡ Some i → slice_get code (at + 1) ≡ Some j → ((rest : Code) → Goes (i ∷ j ∷ rest) k made rest now more) → Continues code at k made now more (at + 2)
two_done code at i j k now made more there next goes =
    let two : at + 1 + 1 ≡ at + 2 = omega arith in
    let one : drop at code ≡ i ∷ j ∷ drop (at + 2) code = drop_there code at i there ∙ ap (λ l. i ∷ l) (drop_there code (at + 1) j next ∙ ap (λ n. j ∷ drop n code) two) in
    record {
      later = omega arith;
      inside = let h = get_below code (at + 1) j next in omega arith;
      goes = subst (λ l. Goes l k made (drop (at + 2) code) now more) (sym one) (goes (drop (at + 2) code));
    }

pub all_done : (code : Code) (at next : ℕ) (k l now : Knowing) (first made more : Code) → Goes code k first (drop at code) l made → Continues code at l made now more next → Goes code k first (drop next code) now more
all_done code at next k l now first made more before c = goes_on code (drop at code) (drop next code) k l now first made more before c.goes

-- what a slice has at a place
pub there_of : {X : Type 0} (f : X → Instr ℕ Note) (xs : List X) (i : ℕ) (x : X) → i < length xs → x ≡ slice_index_or xs i x → slice_get (map f xs) i ≡ Some (f x)
there_of f [] i x lt is = absurd (omega arith)
there_of f (y ∷ xs) zero x lt is = ap (λ z. Some (f z)) (sym is)
there_of f (y ∷ xs) (suc i) x lt is = there_of f xs i x (omega arith) is
