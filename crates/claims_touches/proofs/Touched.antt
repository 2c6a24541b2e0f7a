-- The names of what is touched stand for it.
use Rattle.std.proofs.Common.{◌≡◌, ℕ, Bool, true, false, List, [], ◌∷◌, ◌++◌, map, refl, sym, ap, ◌∙◌, append_assoc}
use Rattle.std.proofs.lemmas.List.{map-append}
use Rattle.rv_core.specs.Rows.{row_of}
use Rattle.rv_core.specs.Table.{accesses}
use Rattle.asm_items.specs.declared.item.Item.{Item}
use Rattle.asm_items.specs.declared.item.Item.TheVariants as items
use Rattle.asm_items.specs.Placings.{Blocks}
use Rattle.low_ir.specs.declared.places.Place.{Place}
use Rattle.low_ir.specs.Code.{Operand, Base, Fixed, Through, Address, Set, Operate, Point, Load, Store, Put, Get, Instr, Do, Call, End}
use Rattle.low_ir.specs.Places.{Placed}
use Rattle.asm_program.specs.Numbers.{first_free, second_free}
use Rattle.asm_program.specs.Frames.{Memory, frame_of}
use Rattle.asm_program.specs.Operands.{address_code, operand_code, result_code}
use Rattle.asm_program.specs.Functions.{end_items, instr_items, opening_items, singles}
use Rattle.claims_definition.specs.Touches.{Touch, OfArrays, body_touches, filled_touches, frame_touch, instr_touches, item_touch, named, touches}
use Rattle.claims_touches.specs.declared.touch.Touch as names
use Rattle.claims_touches.specs.Named.{base_name, frame_name, instr_names, item_name, item_names, load_names, store_names, touch_in}
use Rattle.claims_touches.specs.Bodies.{filled_names, instrs_touches}

module _ (claims : List (List ℕ)) where
  frame_is : (b : Bool) → touch_in claims (frame_name b) ≡ frame_touch b
  frame_is true = refl
  frame_is false = refl

  item_is : (x : Item) → touch_in claims (item_name x) ≡ item_touch x
  item_is (items.Single i) = frame_is (accesses (row_of i.op).class)
  item_is (items.Jump far b) = refl
  item_is (items.Call far f) = refl
  item_is (items.Branch form condition left right b) = refl
  item_is items.Return = refl
  item_is items.Exit = refl

  pub items_are : (xs : List Item) → map (touch_in claims) (item_names xs) ≡ touches xs
  items_are [] = refl
  items_are (x ∷ xs) = ap (λ t. t ∷ map (touch_in claims) (item_names xs)) (item_is x) ∙ ap (λ ts. item_touch x ∷ ts) (items_are xs)

  pub blocks_are : (bs : Blocks) → map (map (touch_in claims)) (map item_names bs) ≡ map touches bs
  blocks_are [] = refl
  blocks_are (b ∷ bs) = ap (λ t. t ∷ map (map (touch_in claims)) (map item_names bs)) (items_are b) ∙ ap (λ ts. touches b ∷ ts) (blocks_are bs)

  -- what items touch comes behind
  pub items_behind : (old new : List names.Touch) (xs : List Item) → new ≡ old ++ item_names xs → map (touch_in claims) new ≡ map (touch_in claims) old ++ touches xs
  items_behind old new xs e =
      ap (map (touch_in claims)) e
      ∙ map-append (touch_in claims) old (item_names xs)
      ∙ ap (λ ts. map (touch_in claims) old ++ ts) (items_are xs)

  filled_is : (m : Memory) (p : Placed) (f : ℕ) (ts : List names.Touch) → map (touch_in claims) (filled_names ts) ≡ filled_touches m p f (map (touch_in claims) ts)
  filled_is m p f [] = refl
  filled_is m p f (t ∷ ts) = refl

module _ (m : Memory) (p : Placed) (f : ℕ) where
  base_is : (b : Base Place) → touch_in p.claims (base_name b) ≡ OfArrays (named p b)
  base_is (Fixed o) = refl
  base_is (Through r claim) = refl

  load_is : (d : Place) (a : Address Place) → map (touch_in p.claims) (load_names (frame_of m f) m d a) ≡ touches (singles (address_code (frame_of m f) m a)) ++ (OfArrays (named p a.base) ∷ touches (singles (result_code (frame_of m f) first_free second_free d)))
  load_is d a =
      let before = item_names (singles (address_code (frame_of m f) m a)) in
      let behind = item_names (singles (result_code (frame_of m f) first_free second_free d)) in
      map-append (touch_in p.claims) before (base_name a.base ∷ behind)
      ∙ ap (λ l. l ++ (touch_in p.claims (base_name a.base) ∷ map (touch_in p.claims) behind)) (items_are p.claims (singles (address_code (frame_of m f) m a)))
      ∙ ap (λ x. touches (singles (address_code (frame_of m f) m a)) ++ (x ∷ map (touch_in p.claims) behind)) (base_is a.base)
      ∙ ap (λ l. touches (singles (address_code (frame_of m f) m a)) ++ (OfArrays (named p a.base) ∷ l)) (items_are p.claims (singles (result_code (frame_of m f) first_free second_free d)))

  store_is : (a : Address Place) (x : Operand Place) → map (touch_in p.claims) (store_names (frame_of m f) m a x) ≡ touches (singles (address_code (frame_of m f) m a)) ++ (touches (singles (operand_code (frame_of m f) second_free x)) ++ (OfArrays (named p a.base) ∷ []))
  store_is a x =
      let before = item_names (singles (address_code (frame_of m f) m a)) in
      let value = item_names (singles (operand_code (frame_of m f) second_free x)) in
      map-append (touch_in p.claims) before (value ++ (base_name a.base ∷ []))
      ∙ ap (λ l. l ++ map (touch_in p.claims) (value ++ (base_name a.base ∷ []))) (items_are p.claims (singles (address_code (frame_of m f) m a)))
      ∙ ap (λ l. touches (singles (address_code (frame_of m f) m a)) ++ l)
      (map-append (touch_in p.claims) value (base_name a.base ∷ [])
      ∙ ap (λ l. l ++ (touch_in p.claims (base_name a.base) ∷ [])) (items_are p.claims (singles (operand_code (frame_of m f) second_free x)))
      ∙ ap (λ y. touches (singles (operand_code (frame_of m f) second_free x)) ++ (y ∷ [])) (base_is a.base))

  pub instr_is : (i : Instr Place (List ℕ)) → map (touch_in p.claims) (instr_names m p f i) ≡ instr_touches m p f i
  instr_is (Do (Set d x)) = items_are p.claims (instr_items m p f (Do (Set d x)) [])
  instr_is (Do (Operate operator d x y)) = items_are p.claims (instr_items m p f (Do (Operate operator d x y)) [])
  instr_is (Do (Point d a)) = items_are p.claims (instr_items m p f (Do (Point d a)) [])
  instr_is (Do (Load kind d a)) = load_is d a
  instr_is (Do (Store kind a x)) = store_is a x
  instr_is (Do (Put x)) = items_are p.claims (instr_items m p f (Do (Put x)) [])
  instr_is (Do (Get d)) = items_are p.claims (instr_items m p f (Do (Get d)) [])
  instr_is (Call d callee args note) = items_are p.claims (instr_items m p f (Call d callee args note) [])

  body_parts : (b : ℕ) (is : List (Instr Place (List ℕ))) (end : End Place) → body_touches m p f b is end ≡ instrs_touches m p f is ++ touches (end_items m p f b end)
  body_parts b [] end = refl
  body_parts b (i ∷ is) end =
      ap (λ l. instr_touches m p f i ++ l) (body_parts b is end)
      ∙ sym (append_assoc (instr_touches m p f i) (instrs_touches m p f is) (touches (end_items m p f b end)))

  -- a block is its opening, its instructions and its end
  pub block_made : (b : ℕ) (is : List (Instr Place (List ℕ))) (end : End Place) (none opened coded ended made : List names.Touch) → none ≡ [] → opened ≡ none ++ item_names (opening_items m p f b) → map (touch_in p.claims) coded ≡ map (touch_in p.claims) opened ++ instrs_touches m p f is → ended ≡ coded ++ item_names (end_items m p f b end) → made ≡ filled_names ended → map (touch_in p.claims) made ≡ filled_touches m p f (touches (opening_items m p f b) ++ body_touches m p f b is end)
  block_made b is end none opened coded ended made e1 e2 e3 e4 e5 =
      let first = touches (opening_items m p f b) in
      let last = touches (end_items m p f b end) in
      let opening : map (touch_in p.claims) opened ≡ first = items_behind p.claims none opened (opening_items m p f b) e2 ∙ ap (λ l. map (touch_in p.claims) l ++ first) e1 in
      let all : map (touch_in p.claims) ended ≡ first ++ body_touches m p f b is end =
      items_behind p.claims coded ended (end_items m p f b end) e4
      ∙ ap (λ l. l ++ last) (e3 ∙ ap (λ l. l ++ instrs_touches m p f is) opening)
      ∙ append_assoc first (instrs_touches m p f is) last
      ∙ ap (λ l. first ++ l) (sym (body_parts b is end)) in
      ap (map (touch_in p.claims)) e5 ∙ filled_is p.claims m p f ended ∙ ap (filled_touches m p f) all
