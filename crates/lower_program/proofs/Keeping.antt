-- Stores of elements.
use Rattle.std.proofs.Common.{◌≡◌, ℕ, ◌+◌, ◌%◌, ◌<◌, ◌≤◌, ◌^◌, Bool, true, false, List, ◌∷◌, ◌++◌, length, Option, Some, None, refl, sym, ap, ◌∙◌, subst, arith, append_assoc}
use Rattle.std.specs.Prelude.{slice_index_or, slice_set}
use Rattle.std.proofs.lemmas.Option.{same_Some}
use Rattle.high_ir.specs.declared.object.Kind.{Kind as HighKind}
use Rattle.high_ir.specs.declared.object.Array.{Array}
use Rattle.high_ir.specs.declared.expression.UnaryOperator.TheVariants.{Negate, Complement, IsZero, Convert}
use Rattle.high_ir.specs.Meaning as high
use Rattle.high_ir.specs.Tree.{Expr, Constant, Variable, Element, Unary, Binary}
use Rattle.high_ir.specs.Words as words
use Rattle.high_ir.specs.Words.{unary_word}
use Rattle.high_ir.specs.Whole.{IsWordy}
use Rattle.low_ir.specs.declared.run.Value.TheVariants.{Word}
use Rattle.low_ir.specs.Code.{Operand, Base, Store, Do, Low}
use Rattle.low_ir.specs.Effects.{Contents, Did, there, address_reads, effect_of, stored, changes, with_objects}
use Rattle.low_ir.specs.Runs.{Going, Bank, virtual, operand_value, values, values_cons, finish, at_code, step}
use Rattle.lower_definition.specs.Objects.{kind_of, scale_of}
use Rattle.lower_definition.specs.Operators.{Code, only}
use Rattle.lower_definition.specs.Values.{Coded, Offset, first_free, operand, index_of, offset_of, base_of, address, bytes, scaled_in, share_code}
use Rattle.lower_definition.specs.Statements.{sharing, shares_of, kept_value, unconverted, store_at, keep_code}
use Rattle.lower_values.proofs.Writing.{has_word}
use Rattle.lower_nesting.proofs.Quiets.{quiet_nothing}
use Rattle.lower_values.specs.Meeting.{contents_of}
use Rattle.lower_values.proofs.Elements.{from_value}
use Rattle.lower_values.proofs.Reading.{Means, IsOffset, OffsetBelow, leads}
use Rattle.lower_values.proofs.Standing.{stands_after, based, computed_then}
use Rattle.lower_values.proofs.Values.{works, grows, offset_grows, offset_placed, operand_found, operand_free}
use Rattle.lower_values.proofs.Shares.{begun, scaled_append, element_scaled, scaled_written}
use Rattle.lower_program.specs.Following.{Goer, Place, IsPlace, Activation, Onward}
use Rattle.lower_program.proofs.Steps.{now, step_to, steps_to, computed_runs}
use Rattle.lower_program.proofs.Steps as runs
use Rattle.lower_program.proofs.Stores.{Stores, with_stored, stored_is, world_stored, converted_twice, converted_same}
use Rattle.lower_program.proofs.Plain.{Passes}

-- the value that is stored in place of another one, which a kind keeps alike
pub record KeepsAlike (kind : HighKind) (passed : List ℕ) (vars : high.Variables) (w : high.World) (e : Expr) (v : ℕ) : Type 0 where
  pub value : ℕ
  pub is : high.value_of passed vars w e ≡ Some value
  pub alike : words.converted kind value ≡ words.converted kind v
  pub wordy : IsWordy e

convert_is : (to : HighKind) (a v : ℕ) → Some (unary_word (Convert to) a) ≡ Some v → words.converted to a ≡ v
unfolding unary_word
convert_is to a v e = same_Some (words.converted to a) v e

module _ (kind : HighKind) (passed : List ℕ) (vars : high.Variables) (w : high.World) where
  itself : (e : Expr) (v : ℕ) → IsWordy e → high.value_of passed vars w e ≡ Some v → KeepsAlike kind passed vars w e v
  itself e v wordy is = record { value = v; is = is; alike = refl; wordy = wordy }

  converted_alike : (to : HighKind) (e : Expr) (v : ℕ) (b : Bool) → words.same_kind to kind ≡ b → IsWordy e → high.value_of passed vars w (Unary (Convert to) e) ≡ Some v → KeepsAlike kind passed vars w (unconverted b (Unary (Convert to) e) e) v
  converted_alike to e v false t wordy is = itself (Unary (Convert to) e) v wordy is
  converted_alike to e v true t wordy is =
      let f = from_value (high.value_of passed vars w e) (λ a. Some (unary_word (Convert to) a)) v is in
      record {
        value = f.value;
        is = f.is;
        alike = sym (converted_twice kind f.value) ∙ ap (words.converted kind) (sym (converted_same to kind f.value t) ∙ convert_is to f.value v f.then_is);
        wordy = wordy;
      }

  pub kept_alike : (e : Expr) (v : ℕ) → IsWordy e → high.value_of passed vars w e ≡ Some v → KeepsAlike kind passed vars w (kept_value kind e) v
  kept_alike (Constant c) v wordy is = itself (Constant c) v wordy is
  kept_alike (Variable x) v wordy is = itself (Variable x) v wordy is
  kept_alike (Element array index) v wordy is = itself (Element array index) v wordy is
  kept_alike (Unary Negate e) v wordy is = itself (Unary Negate e) v wordy is
  kept_alike (Unary Complement e) v wordy is = itself (Unary Complement e) v wordy is
  kept_alike (Unary IsZero e) v wordy is = itself (Unary IsZero e) v wordy is
  kept_alike (Unary (Convert to) e) v wordy is = converted_alike to e v (words.same_kind to kind) refl wordy is
  kept_alike (Binary operator left right) v wordy is = itself (Binary operator left right) v wordy is

-- a step that stores
store_step : (q : Low) (z : Goer) (rest : Code) (array : Array) (b : Base ℕ) (o : Offset) (x : Operand ℕ) (v object n k : ℕ) (objects : List Contents) → z.top.code ≡ Do (Store (kind_of array.kind) (address b o) x) ∷ rest → operand_value virtual z.top.store x ≡ Some (Word v) → Means q.claims z.top.store b object → IsOffset z.top.store o.register n → (0 + n + o.displacement) % 2 ^ 32 ≡ k → stored z.world.objects (kind_of array.kind) object k v ≡ Some objects → step virtual q (Going z) ≡ Going (record z { top = record z.top { code = rest; store = z.top.store }; world = with_objects z.world objects })
store_step q z rest array b o x v object n k objects code ex means is sum e =
    let s = z.top.store in
    let l = leads q.claims s b o.register o.displacement object n k means is sum in
    let kind = kind_of array.kind in
    let go : ℕ → ℕ → Option Did = λ p m. there (stored z.world.objects kind p m v) (λ os. changes (with_objects z.world os)) in
    ap (at_code virtual q z) code
    ∙ ap (λ c. finish virtual z rest None (effect_of q.claims (Store kind (address b o) x) (values_cons c (values virtual s (address_reads (address b o)))) z.world)) ex
    ∙ ap (λ c. finish virtual z rest None (effect_of q.claims (Store kind (address b o) x) (values_cons (Some (Word v)) c) z.world)) l.reads_are
    ∙ ap (finish virtual z rest None) (l.to go)
    ∙ ap (λ c. finish virtual z rest None (there c (λ os. changes (with_objects z.world os)))) e

four : (a b c d rest : Code) → (a ++ (b ++ (c ++ d))) ++ rest ≡ (a ++ (b ++ c)) ++ (d ++ rest)
four a b c d rest =
    ap (λ x. (a ++ x) ++ rest) (sym (append_assoc b c d)) ∙ ap (λ x. x ++ rest) (sym (append_assoc a (b ++ c) d)) ∙ append_assoc (a ++ (b ++ c)) d rest

-- the bytes in a register are still there
offset_still : (s s1 : Bank) (n : ℕ) (o : Option ℕ) (m : ℕ) → OffsetBelow n o → ((r : ℕ) → r < n → slice_index_or s1 r None ≡ slice_index_or s r None) → IsOffset s o m → IsOffset s1 o m
offset_still s s1 n None m low same is = is
offset_still s s1 n (Some r) m low same is = same r low ∙ is

module _ (q : Low) (at : Place) (is_place : IsPlace q at) (act : Activation) where
  abbrev pub keep_state : high.State → high.World → high.State
  keep_state st w = record { variables = st.variables; world = w; trace = st.trace }

  abbrev pub keep_inner : Array → Option (Base ℕ) → Expr → Expr → ℕ → Coded
  keep_inner array b index e t =
      sharing at.scope t (shares_of at.scope (scaled_in at.scope (Element array index) ++ scaled_in at.scope e) t)
      (λ shares u. store_at b array.kind u (offset_of shares (scale_of array.kind) (index_of at.scope shares index u)) (operand at.scope shares e))

  -- the address, the value and the store of an array that is there
  store_there : (array : Array) (b : Base ℕ) (index e : Expr) (t n v x : ℕ) (st : high.State) (w2 : high.World) → base_of at.scope array.base ≡ Some b → IsWordy index → IsWordy e → first_free at.scope ≤ t → high.value_of act.passed st.variables st.world index ≡ Some n → high.value_of act.passed st.variables st.world e ≡ Some x → words.converted array.kind x ≡ words.converted array.kind v → v < 2 ^ 32 → Stores act.passed st.world array n v w2 → (keep_inner array (Some b) index e t).free ≤ at.code.size → Passes q at is_place act (keep_inner array (Some b) index e t).code st (keep_state st w2)
  store_there array b index e t n v x st w2 base wi we free is_n is_x alike small h2 room rest r h code =
      let scope = at.scope in
      let vars = st.variables in
      let shares = shares_of scope (scaled_in scope (Element array index) ++ scaled_in scope e) t in
      let u = t + length shares in
      let ix = index_of scope shares index u in
      let o = offset_of shares (scale_of array.kind) ix in
      let y = operand scope shares e o.free in
      let size = h.size in
      let g = grows scope shares index in
      let up = g.index u in
      let up2 = offset_grows scope shares (scale_of array.kind) ix.part.value ix in
      let up3 = operand_free scope shares e o.free in
      let scaled = scaled_append vars (scaled_in scope (Element array index)) (scaled_in scope e)
      (element_scaled scope act.passed vars st.world array index n is_n (scaled_written scope act.passed vars st.world index n is_n)) (scaled_written scope act.passed vars st.world e x is_x) in
      let bg = begun scope q.claims r.world act.passed vars (scaled_in scope (Element array index) ++ scaled_in scope e) r.top.store t h.frame free scaled (omega (arith, size, room, up, up2, up3)) in
      let s1 = bg.store in
      let size1 = bg.size in
      let vs = h.frame.words in
      let ki = works scope shares q.claims r.world act.passed vars st.world h.world index wi n vs is_n in
      let fi = ki.index s1 u bg.stands (omega (arith, size, size1, room, up2, up3)) in
      let p = offset_placed scope shares q.claims r.world act.passed vars st.world h.world array.kind ix.part.value ix s1 u n bg.stands up (omega (arith, size, size1, room, up3)) fi.part fi.found fi.small fi.little fi.sum in
      let s2 = p.store in
      let size2 = p.size in
      let stands2 = stands_after scope q.claims act.passed vars shares s1 s2 u o.free bg.stands p.others (omega (arith, up, up2)) in
      let ke = works scope shares q.claims r.world act.passed vars st.world h.world e we x vs is_x in
      let fe = operand_found scope shares q.claims r.world act.passed vars st.world h.world e x s2 o.free is_x ke stands2 (omega (arith, size, size1, size2, room)) in
      let s3 = fe.finds.store in
      let size3 = fe.finds.size in
      let stands3 = stands_after scope q.claims act.passed vars shares s2 s3 o.free o.free stands2 fe.finds.others (omega arith) in
      let bas = based scope q.claims act.passed vars st.world r.world s3 array.base h2.object h2.contents h.world stands3.frame h2.number h2.there_is in
      let same : bas.base ≡ b = same_Some bas.base b (sym bas.is ∙ base) in
      let store = Do (Store (kind_of array.kind) (address b o) y.value) in
      let z = runs.behind r (store ∷ rest) s3 in
      let objects = slice_set r.world.objects h2.object (contents_of (with_stored h2.contents n v)) in
      let final : Goer = record z { top = record z.top { code = rest; store = s3 }; world = with_objects r.world objects } in
      steps_to q (length (share_code shares ++ (o.code ++ y.code))) (Going r) (Going z) (Onward q at act (keep_state st w2) rest r)
      (computed_runs q (share_code shares ++ (o.code ++ y.code)) (store ∷ rest) r s3 (code ∙ four (share_code shares) o.code y.code (only store) rest)
      (computed_then q.claims r.world (share_code shares) (o.code ++ y.code) r.top.store s1 s3 bg.does (computed_then q.claims r.world o.code y.code s1 s2 s3 p.does fe.finds.does)))
      (step_to q (Going z) (Going final) (Onward q at act (keep_state st w2) rest r)
      (store_step q z rest array b o y.value x h2.object p.offset (bytes (scale_of array.kind) n) objects refl (has_word s3 y.value x ke.small fe.finds.value) (subst (λ m. Means q.claims s3 m h2.object) same bas.means)
      (offset_still s2 s3 o.free o.register p.offset p.low fe.finds.others p.is) p.sum (stored_is scope act.passed st.world r.world array n v x w2 h.world h2 ke.small alike))
      (now q final (Onward q at act (keep_state st w2) rest r) (record {
        meets = record {
          function = h.function;
          below = h.below;
          size = size3 ∙ size2 ∙ size1 ∙ h.size;
          world = world_stored scope act.passed st.world r.world array n v w2 h.world small h2;
          frame = stands3.frame;
          marks = h.marks;
        };
        code = refl;
        end = refl;
        quiet = quiet_nothing q at.number r.world.trace;
      })))

  pub store_passes : (array : Array) (index e : Expr) (t n v : ℕ) (st : high.State) (w2 : high.World) → IsWordy index → IsWordy e → first_free at.scope ≤ t → high.value_of act.passed st.variables st.world index ≡ Some n → high.value_of act.passed st.variables st.world e ≡ Some v → v < 2 ^ 32 → Stores act.passed st.world array n v w2 → (keep_code at.scope array index (kept_value array.kind e) t).free ≤ at.code.size → Passes q at is_place act (keep_code at.scope array index (kept_value array.kind e) t).code st (keep_state st w2)
  store_passes array index e t n v st w2 wi we free is_n is_v small h2 room rest r h code =
      let k = kept_alike array.kind act.passed st.variables st.world e v we is_v in
      let bas = based at.scope q.claims act.passed st.variables st.world r.world r.top.store array.base h2.object h2.contents h.world h.frame h2.number h2.there_is in
      store_there array bas.base index (kept_value array.kind e) t n v k.value st w2 bas.is wi k.wordy free is_n k.is k.alike small h2
      (subst (λ o. (keep_inner array o index (kept_value array.kind e) t).free ≤ at.code.size) bas.is room) rest r h
      (code ∙ ap (λ o. (keep_inner array o index (kept_value array.kind e) t).code ++ rest) bas.is)
