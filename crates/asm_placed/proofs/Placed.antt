-- What an image holds of functions in the chosen forms is placed.
use Rattle.std.proofs.Common.{◌≡◌, ◌⊎◌, inl, inr, ⊎_elim, ℕ, ◌+◌, ◌*◌, ◌%◌, ◌^◌, ◌<◌, ◌≤◌, ◌==◌, Bool, true, false, not, List, [], length, Contains, refl, sym, ap, ◌∙◌, subst, arith, if◌then◌else◌}
use Rattle.std.specs.Prelude.{slice_index}
use Rattle.std.proofs.lemmas.Bool.Decides.{nat_tests}
use Rattle.rv_core.specs.Code.{instruction_in}
use Rattle.rv_core.specs.declared.image.Segment.{Segment}
use Rattle.rv_core.specs.Images.{Image, AreLoadable}
use Rattle.rv_core.specs.Instructions.{Instruction}
use Rattle.rv_core.specs.Runs.{sets_upper}
use Rattle.code_flow_system.specs.Moves.{Code}
use Rattle.asm_items.specs.Items.{in_rows}
use Rattle.asm_items.specs.Placings.{Blocks, start_of, blocks_size, blocks_words}
use Rattle.asm_items.specs.Promises.{Keeps}
use Rattle.asm_items.specs.Standing.{IsCodeOf, HasWords, ListsExits, links_none, IsAllCode}
use Rattle.asm_items.proofs.StandingLemmas.{stands, links_nothing}
use Rattle.asm_writing.proofs.FormLemmas.{forms-keep}
use Rattle.asm_forms.specs.Laid.{HasRoom, FunctionsLike}
use Rattle.asm_forms.specs.Layouts.{fit, formed, starts_of}
use Rattle.asm_forms.specs.Regions.{Rows, bases_of, functions_size, RoomFrom}
use Rattle.asm_forms.specs.Shorter.{functions_longest}
use Rattle.asm_forms.specs.Sound.{FunctionsSound}
use Rattle.asm_forms.proofs.Formed.{formed_fits, formed_longest, formed_room, room}
use Rattle.asm_forms.proofs.LikeLemmas.{formed_like}
use Rattle.asm_forms.proofs.SizeLemmas.{functions_most}
use Rattle.asm_graphs.specs.Graphs.{Graph}
use Rattle.asm_graphs.specs.Placed.{IsPlaced}
use Rattle.asm_graphs.specs.Promised.{Promised, blocks_in, block_in}
use Rattle.asm_placed.specs.Written.{IsWritten, Holds, HasSegment, RowsApart, placing_of, flash_words, scratchpad_words, in_scratchpad}
use Rattle.asm_placed.proofs.Alike.{functions_long, blocks_long, blocks_alike, block_alike, some_alike, jump_alike}
use Rattle.asm_placed.proofs.Linked.{BlocksKeep, row_links}
use Rattle.asm_placed.proofs.Spread.{all_apart, two_apart, bases_fours, ends_low}
use Rattle.asm_placed.proofs.Standing.{has_words, row_rows, stand_from, stands_there, EachStands}
use Rattle.asm_placed.proofs.Targets.{start_same, blocks_same}

module _ (image : Image) (loadable : AreLoadable image.segments) (g : Graph) (r : Rows) (fs : List Blocks) (c : Code) (promised : Promised g fs) (sound : FunctionsSound fs) (has_room : HasRoom r fs) (rows : RowsApart r fs)
    (written : IsWritten r (formed r fs) image) (fetch : (a : ℕ) → c.fetch a ≡ instruction_in image a) where
  abbrev gs : List Blocks
  gs = formed r fs

  like : FunctionsLike fs gs
  like = formed_like r fs

  fits : fit r gs ≡ true
  fits = formed_fits r fs sound has_room

  roomy : RoomFrom (bases_of r gs) 0 gs
  roomy = room r gs (formed_room r fs has_room)

  size_most : functions_size gs ≤ functions_size (functions_longest fs)
  size_most = subst (λ l. functions_size gs ≤ functions_size l) (formed_longest r fs) (functions_most gs)

  many : length gs ≡ g.functions
  many = functions_long fs gs like ∙ promised.functions

  blocks : (f : ℕ) → length (blocks_in gs f) ≡ g.blocks f
  blocks f = blocks_long (blocks_in fs f) (blocks_in gs f) (blocks_alike fs gs f like) ∙ promised.blocks f

  keeps : (f b : ℕ) → f < g.functions → b < g.blocks f → Keeps (g.follows f b) (g.calls f) b (block_in gs f b)
  keeps f b h k = forms-keep (g.follows f b) (g.calls f) b (block_in fs f b) (block_in gs f b) (block_alike fs gs f b like) (promised.keeps f b h k)

  keep_all : (f : ℕ) → f < length gs → BlocksKeep (blocks_in gs f)
  keep_all f h b k = (g.follows f b, g.calls f, b, keeps f b (subst (λ n. f < n) many h) (subst (λ n. b < n) (blocks f) k))

  -- the two rows as code
  code_of : (s : Segment) (at : ℕ) (is : List Instruction) → at % 4 ≡ 0 → at < 2 ^ 30 → s.exec ≡ true → in_rows is ≡ true → Holds s at is → IsCodeOf s at is
  code_of s at is fours low exec in_range h = record {
    begins = h.begins;
    aligned = record { low = low; aligned = fours };
    exec = exec;
    bytes = h.bytes;
    rows = in_range;
  }

  flash_code : (s : Segment) → s.exec ≡ true → Holds s r.flash (flash_words r gs) → IsCodeOf s r.flash (flash_words r gs)
  flash_code s exec h =
      let low = has_room.flash in
      code_of s r.flash (flash_words r gs) rows.flash (omega arith) exec (row_rows (starts_of r gs) (bases_of r gs) (λ f. not (in_scratchpad r f)) 0 gs fits) h

  scratchpad_code : (s : Segment) → s.exec ≡ true → Holds s r.scratchpad (scratchpad_words r gs) → IsCodeOf s r.scratchpad (scratchpad_words r gs)
  scratchpad_code s exec h =
      let low = has_room.scratchpad in
      code_of s r.scratchpad (scratchpad_words r gs) rows.scratchpad (omega arith) exec (row_rows (starts_of r gs) (bases_of r gs) (in_scratchpad r) 0 gs fits) h

  fetched : (s : Segment) (at : ℕ) (is : List Instruction) → Contains image.segments s → IsCodeOf s at is → HasWords c at is
  fetched s at is there code = has_words c at is (λ k i e. fetch (at + 4 * k) ∙ stands image loadable s at is k i there code e)

  no_words : (at : ℕ) (is : List Instruction) → is ≡ [] → HasWords c at is
  no_words at is e = subst (HasWords c at) (sym e) tt

  flash_stands : HasWords c r.flash (flash_words r gs)
  flash_stands =
      ⊎_elim (no_words r.flash (flash_words r gs))
      (λ (h : HasSegment image r.flash).
      ⊎_elim (λ k. fetched h.0 r.flash (flash_words r gs) h.1 (flash_code h.0 h.2 k))
      (λ (k : Holds h.0 r.scratchpad (scratchpad_words r gs)). let a = h.3 in let b = k.begins in let n = rows.before in absurd (omega arith)) (written.each h.0 h.1 h.2))
      written.flash

  scratchpad_stands : HasWords c r.scratchpad (scratchpad_words r gs)
  scratchpad_stands =
      ⊎_elim (no_words r.scratchpad (scratchpad_words r gs))
      (λ (h : HasSegment image r.scratchpad).
      ⊎_elim (λ (k : Holds h.0 r.flash (flash_words r gs)). let a = h.3 in let b = k.begins in let n = rows.before in absurd (omega arith))
      (λ k. fetched h.0 r.scratchpad (scratchpad_words r gs) h.1 (scratchpad_code h.0 h.2 k)) (written.each h.0 h.1 h.2))
      written.scratchpad

  each_stands : EachStands c (starts_of r gs) (bases_of r gs) 0 gs
  each_stands = stand_from c (starts_of r gs) r.placed (bases_of r gs) [] 0 r.flash r.scratchpad gs refl refl flash_stands scratchpad_stands

  words : (f : ℕ) → f < g.functions → HasWords c (slice_index (bases_of r gs) f) (blocks_words (start_of (placing_of r gs)) f (slice_index (bases_of r gs) f) (blocks_in gs f))
  words f h =
      let a = slice_index (bases_of r gs) f in
      subst (HasWords c a) (blocks_same (starts_of r gs) (start_of (placing_of r gs)) (start_same r gs) f a (blocks_in gs f)) (stands_there c (starts_of r gs) (bases_of r gs) gs f (subst (λ n. f < n) (sym many) h) each_stands)

  -- all that executes
  abbrev code_at : ℕ → List Instruction
  code_at at = if at == r.flash then flash_words r gs else scratchpad_words r gs

  at_flash : (a : ℕ) → a ≡ r.flash → code_at a ≡ flash_words r gs
  at_flash a e = let t : (a == r.flash) ≡ true = grind (arith, nat_tests) in ap (λ b. if b then flash_words r gs else scratchpad_words r gs) t

  at_scratchpad : (a : ℕ) → a ≡ r.scratchpad → code_at a ≡ scratchpad_words r gs
  at_scratchpad a e = let n = rows.before in let t : (a == r.flash) ≡ false = grind (arith, nat_tests) in ap (λ b. if b then flash_words r gs else scratchpad_words r gs) t

  unlinked : (b : Bool) → links_none (if b then flash_words r gs else scratchpad_words r gs) ≡ true
  unlinked true = row_links (starts_of r gs) (bases_of r gs) (λ f. not (in_scratchpad r f)) 0 gs keep_all
  unlinked false = row_links (starts_of r gs) (bases_of r gs) (in_scratchpad r) 0 gs keep_all

  all_code : IsAllCode image code_at
  all_code = record {
    is = λ s there exec.
        ⊎_elim (λ (k : Holds s r.flash (flash_words r gs)). subst (λ is. IsCodeOf s s.at is) (sym (at_flash s.at k.begins)) (subst (λ a. IsCodeOf s a (flash_words r gs)) (sym k.begins) (flash_code s exec k)))
        (λ (k : Holds s r.scratchpad (scratchpad_words r gs)). subst (λ is. IsCodeOf s s.at is) (sym (at_scratchpad s.at k.begins)) (subst (λ a. IsCodeOf s a (scratchpad_words r gs)) (sym k.begins) (scratchpad_code s exec k)))
        (written.each s there exec);
    full = λ s there exec. ⊎_elim (λ (k : Holds s r.flash (flash_words r gs)). k.full) (λ (k : Holds s r.scratchpad (scratchpad_words r gs)). k.full) (written.each s there exec);
    unlinked = λ s there exec. unlinked (s.at == r.flash);
  }

  no_link : (a : ℕ) → sets_upper (c.fetch a) 1 ≡ false
  no_link a = ap (λ i. sets_upper i 1) (fetch a) ∙ links_nothing image loadable code_at all_code a

  less_or : (m n : ℕ) → (m ≡ n → ⊥) → (m < n) ⊎ (n < m)
  less_or m n h = grind (arith, nat_tests)

  abbrev base : ℕ → ℕ
  base f = slice_index (bases_of r gs) f

  abbrev finish : ℕ → ℕ
  finish f = base f + blocks_size (blocks_in gs f)

  apart : (f h : ℕ) → (f ≡ h → ⊥) → f < g.functions → h < g.functions → (finish f ≤ base h) ⊎ (finish h ≤ base f)
  apart f h other a b =
      let most = size_most in
      let between = rows.apart in
      let all = all_apart r.placed (bases_of r gs) [] 0 r.flash r.scratchpad gs refl refl (omega arith) in
      let i = subst (λ n. f < n) (sym many) a in
      let j = subst (λ n. h < n) (sym many) b in
      ⊎_elim (λ (less : f < h). two_apart r.placed (bases_of r gs) gs f h less j all)
      (λ (less : h < f). ⊎_elim (λ (x : finish h ≤ base f). inr x) (λ (x : finish f ≤ base h). inl x) (two_apart r.placed (bases_of r gs) gs h f less i all)) (less_or f h other)

  pub is_placed : ((f b : ℕ) → f < g.functions → b < g.blocks f → ListsExits c (start_of (placing_of r gs) f b) (block_in gs f b)) → IsPlaced g (placing_of r gs) c
  is_placed exits = record {
    functions = many;
    blocks = blocks;
    words = words;
    exits = exits;
    keeps = keeps;
    some = λ f b h k. some_alike (block_in fs f b) (block_in gs f b) (block_alike fs gs f b like) (promised.some f b h k);
    latch = λ f k h there.
        let jump = promised.latch f k h there in
        jump_alike (block_in fs f k.latch) (block_in gs f k.latch) jump.0 k.header (block_alike fs gs f k.latch like) jump.1;
    aligned = λ f h. bases_fours r.placed 0 r.flash r.scratchpad gs f rows.flash rows.scratchpad;
    low = λ f h. ends_low (bases_of r gs) gs f (subst (λ n. f < n) (sym many) h) roomy;
    apart = apart;
    no_link = no_link;
  }
