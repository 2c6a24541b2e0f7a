-- The text of an image loads to that image.
use Rattle.std.proofs.Common.{◌≡◌, ℕ, zero, suc, ◌+◌, ◌*◌, ◌^◌, ◌≤◌, ◌<◌, List, [], ◌∷◌, ◌++◌, length, take, drop, get_or, Bool, refl, inr, ap, sym, ◌∙◌, subst, arith, append_assoc, length-append}
use Rattle.std.proofs.Math.Seq.{drop-append_seam, take-append_seam, take-length}
use Rattle.rv_core.specs.declared.image.Segment.{Segment}
use Rattle.rv_core.specs.Images.{Image, IsSegment, AreSegments, Apart, ApartFrom, AreApart, AreLoadable}
use Rattle.elf_image.specs.declared.headers.Header.{Header}
use Rattle.elf_image.specs.declared.headers.ProgramHeader.{ProgramHeader}
use Rattle.elf_image.specs.Text.{header, flags_of, program_header, program_headers, contents, text_of}
use Rattle.elf_image.specs.Addresses.{HaveAddresses}
use Rattle.elf_image.specs.Headers.{header_of, program_header_at, program_header_of}
use Rattle.elf_image.specs.Sorting.{sorted}
use Rattle.elf_image.specs.Loading.{Passes, IsBad, IsLoadable, segment_of, loaded_by, segments_of, image_of}
use Rattle.elf_image.proofs.Sizes.{size_most, contents_most, at_drop}
use Rattle.elf_image.proofs.SortingLemmas.{apart_turned, sorted-ascending}
use Rattle.elf_image.proofs.TextLemmas.{header_of-header, drop-add, program_header_at-program_header, has-read, has-write, has-exec, drop-program_headers, contents-append, length-program_headers}

-- a list around one of its segments
record SplitsAt (ss : List Segment) (n : ℕ) : Type 0 where
  pre : List Segment
  here : Segment
  suf : List Segment
  is : ss ≡ pre ++ here ∷ suf
  place : length pre ≡ n

split_at : (ss : List Segment) (n : ℕ) → n < length ss → SplitsAt ss n
split_at [] n lt = absurd (omega arith)
split_at (t ∷ ts) zero lt = record { pre = []; here = t; suf = ts; is = refl; place = refl }
split_at (t ∷ ts) (suc n) lt =
    let r : SplitsAt ts n = split_at ts n (omega (arith, lt)) in
    record { pre = t ∷ r.pre; here = r.here; suf = r.suf; is = ap (λ l. t ∷ l) r.is; place = ap suc r.place }

-- what holds of all of them holds of that one
segment_there : (pre : List Segment) (s : Segment) (suf : List Segment) → AreSegments (pre ++ s ∷ suf) → IsSegment s
segment_there [] s suf all = all.0
segment_there (t ∷ pre) s suf all = segment_there pre s suf all.1

address_there : (pre : List Segment) (s : Segment) (suf : List Segment) → HaveAddresses (pre ++ s ∷ suf) → s.at < 2 ^ 32
address_there [] s suf all = all.0
address_there (t ∷ pre) s suf all = address_there pre s suf all.1

apart_there : (t : Segment) (pre : List Segment) (s : Segment) (suf : List Segment) → ApartFrom t (pre ++ s ∷ suf) → Apart t s
apart_there t [] s suf all = all.0
apart_there t (u ∷ pre) s suf all = apart_there t pre s suf all.1

apart_before : (pre : List Segment) (s : Segment) (suf : List Segment) → AreApart (pre ++ s ∷ suf) → ApartFrom s pre
apart_before [] s suf all = tt
apart_before (t ∷ pre) s suf all = (apart_turned t s (apart_there t pre s suf all.0), apart_before pre s suf all.1)

pub more_addresses : (ss : List Segment) (i : ℕ) (s : Segment) → i < length ss → s ≡ get_or ss i s → s.at < 2 ^ 32 → HaveAddresses (drop (i + 1) ss) → HaveAddresses (drop i ss)
more_addresses ss i s lt is small rest = let P : List Segment → Type 0 = λ ss. HaveAddresses ss in subst P (sym (at_drop ss i s lt is)) (small, rest)

take_there : (pre : List Segment) (s : Segment) (suf : List Segment) → take (suc (length pre)) (pre ++ s ∷ suf) ≡ pre ++ s ∷ []
take_there [] s suf = refl
take_there (t ∷ pre) s suf = ap (λ l. t ∷ l) (take_there pre s suf)

-- the parts of a text: where its program headers and its bytes stand
pub record IsTextOf (text : List ℕ) (ss : List Segment) : Type 0 where
  pub table : (header_of text).table ≡ 52
  pub headers : drop 52 text ≡ program_headers (52 + 32 * length ss) ss ++ contents ss
  pub bytes : drop (52 + 32 * length ss) text ≡ contents ss
  pub size : length text ≡ 52 + 32 * length ss + length (contents ss)

-- the place of the bytes of a segment behind these
offset_behind : List Segment → List Segment → ℕ
offset_behind ss pre = 52 + 32 * length ss + length (contents pre)

-- the fields of the program header of a segment
fields_of : ℕ → Segment → ProgramHeader
fields_of offset s = record { kind = 1; offset = offset; address = s.at; file_size = length s.bytes; memory_size = s.size; flags = flags_of s.read s.write s.exec }

length-contents : (pre : List Segment) (s : Segment) (suf : List Segment) → length (contents (pre ++ s ∷ suf)) ≡ length (contents pre) + (length s.bytes + length (contents suf))
length-contents pre s suf = ap length (contents-append pre (s ∷ suf)) ∙ length-append (contents pre) (contents (s ∷ suf)) ∙ ap (λ n. length (contents pre) + n) (length-append s.bytes (contents suf))

program_header_of-text : (text : List ℕ) (pre : List Segment) (s : Segment) (suf : List Segment) → IsTextOf text (pre ++ s ∷ suf) → AreLoadable (pre ++ s ∷ suf) → HaveAddresses (pre ++ s ∷ suf) → program_header_of text (length pre) ≡ fields_of (offset_behind (pre ++ s ∷ suf) pre) s
unfolding fields_of offset_behind
program_header_of-text text pre s suf t l a =
    let ss : List Segment = pre ++ s ∷ suf in
    let off : ℕ = 52 + 32 * length ss + length (contents pre) in
    let here : drop (52 + 32 * length pre) text ≡ program_header off s ++ (program_headers (off + length s.bytes) suf ++ contents ss) =
    drop-add text 52 (32 * length pre) _ _ t.headers (drop-program_headers (52 + 32 * length ss) pre (s ∷ suf) (contents ss))
    ∙ append_assoc (program_header off s) (program_headers (off + length s.bytes) suf) (contents ss) in
    let most : length (contents ss) ≤ 0x80_0000 * length ss = contents_most ss l.each in
    let sizes : length (contents ss) ≡ length (contents pre) + (length s.bytes + length (contents suf)) = length-contents pre s suf in
    let small : s.size ≤ 0x80_0000 = size_most s (segment_there pre s suf l.each) in
    ap (λ table. program_header_at text (table + 32 * length pre)) t.table
    ∙ program_header_at-program_header text (52 + 32 * length pre) off s _ here (omega (arith, l.few)) (address_there pre s suf a) (omega (arith, l.few)) (omega arith)

segment_by : (s : Segment) (bytes : List ℕ) (read write exec : Bool) → bytes ≡ s.bytes → read ≡ s.read → write ≡ s.write → exec ≡ s.exec → (let t : Segment = record { at = s.at; bytes = bytes; size = s.size; read = read; write = write; exec = exec } in t ≡ s)
segment_by s bytes read write exec a b d e = rw (a, b, d, e) refl

segment_of-text : (text : List ℕ) (pre : List Segment) (s : Segment) (suf : List Segment) → IsTextOf text (pre ++ s ∷ suf) → segment_of text (fields_of (offset_behind (pre ++ s ∷ suf) pre) s) ≡ s
unfolding fields_of offset_behind
segment_of-text text pre s suf t =
    let ss : List Segment = pre ++ s ∷ suf in
    let rest : drop (length (contents pre)) (contents ss) ≡ s.bytes ++ contents suf = ap (drop (length (contents pre))) (contents-append pre (s ∷ suf)) ∙ drop-append_seam (contents pre) (s.bytes ++ contents suf) in
    let there : take (length s.bytes) (drop (52 + 32 * length ss + length (contents pre)) text) ≡ s.bytes =
    ap (take (length s.bytes)) (drop-add text (52 + 32 * length ss) (length (contents pre)) (contents ss) _ t.bytes rest) ∙ take-append_seam s.bytes (contents suf) in
    segment_by s _ _ _ _ there (has-read s.read s.write s.exec) (has-write s.read s.write s.exec) (has-exec s.read s.write s.exec)

passes-text : (text : List ℕ) (pre : List Segment) (s : Segment) (suf : List Segment) → IsTextOf text (pre ++ s ∷ suf) → AreLoadable (pre ++ s ∷ suf) → Passes text pre (fields_of (offset_behind (pre ++ s ∷ suf) pre) s)
unfolding fields_of offset_behind
passes-text text pre s suf t l =
    let sizes : length (contents (pre ++ s ∷ suf)) ≡ length (contents pre) + (length s.bytes + length (contents suf)) = length-contents pre s suf in
    let number : length (pre ++ s ∷ suf) ≡ length pre + length (s ∷ suf) = length-append pre (s ∷ suf) in
    record {
      within = inr (omega (arith, t.size));
      sound = subst IsSegment (sym (segment_of-text text pre s suf t)) (segment_there pre s suf l.each);
      apart = (let P : Segment → Type 0 = λ s. ApartFrom s pre in subst P (sym (segment_of-text text pre s suf t)) (apart_before pre s suf l.apart));
      few = omega (arith, l.few);
    }

loaded_by-text : (text : List ℕ) (pre : List Segment) (s : Segment) (suf : List Segment) → IsTextOf text (pre ++ s ∷ suf) → AreLoadable (pre ++ s ∷ suf) → HaveAddresses (pre ++ s ∷ suf) → loaded_by text (program_header_of text (length pre)) ≡ s ∷ []
unfolding fields_of
loaded_by-text text pre s suf t l a =
    ap (loaded_by text) (program_header_of-text text pre s suf t l a) ∙ ap (λ s. s ∷ []) (segment_of-text text pre s suf t)

-- the first segments of the text are the first ones of the image
segments_of-text : (text : List ℕ) (ss : List Segment) (n : ℕ) → IsTextOf text ss → AreLoadable ss → HaveAddresses ss → n ≤ length ss → segments_of text n ≡ take n ss
segments_of-text text ss zero t l a le = refl
segments_of-text text ss (suc n) t l a le = by (split_at ss n (omega arith)) (segments_of-text text ss n t l a (omega arith))
  where
    at_place : (n : ℕ) (ss pre : List Segment) (s : Segment) (suf : List Segment) → ss ≡ pre ++ s ∷ suf → length pre ≡ n → IsTextOf text ss → AreLoadable ss → HaveAddresses ss → segments_of text n ≡ take n ss → segments_of text (suc n) ≡ take (suc n) ss
    at_place n ss pre s suf is place t l a so_far =
        let t' : IsTextOf text (pre ++ s ∷ suf) = subst (IsTextOf text) is t in
        let l' : AreLoadable (pre ++ s ∷ suf) = subst AreLoadable is l in
        let P : List Segment → Type 0 = λ ss. HaveAddresses ss in
        let a' : HaveAddresses (pre ++ s ∷ suf) = subst P is a in
        let front : segments_of text n ≡ pre = so_far ∙ ap (take n) is ∙ ap (λ n. take n (pre ++ s ∷ suf)) (sym place) ∙ take-append_seam pre (s ∷ suf) in
        ap (λ l. l ++ loaded_by text (program_header_of text n)) front
        ∙ ap (λ n. pre ++ loaded_by text (program_header_of text n)) (sym place)
        ∙ ap (λ l. pre ++ l) (loaded_by-text text pre s suf t' l' a')
        ∙ sym (take_there pre s suf)
        ∙ ap (λ n. take (suc n) (pre ++ s ∷ suf)) place
        ∙ ap (take (suc n)) (sym is)

    by : SplitsAt ss n → segments_of text n ≡ take n ss → segments_of text (suc n) ≡ take (suc n) ss
    by r so_far = at_place n ss r.pre r.here r.suf r.is r.place t l a so_far

-- no program header of the text is bad
none_bad : (text : List ℕ) (ss : List Segment) (n : ℕ) → IsTextOf text ss → AreLoadable ss → HaveAddresses ss → n < length ss → IsBad text n → ⊥
none_bad text ss n t l a lt bad = by (split_at ss n lt) (segments_of-text text ss n t l a (omega (arith, lt)))
  where
    at_place : (pre : List Segment) (s : Segment) (suf : List Segment) → ss ≡ pre ++ s ∷ suf → length pre ≡ n → segments_of text n ≡ take n ss → ⊥
    at_place pre s suf is place so_far =
        let t' : IsTextOf text (pre ++ s ∷ suf) = subst (IsTextOf text) is t in
        let l' : AreLoadable (pre ++ s ∷ suf) = subst AreLoadable is l in
        let P : List Segment → Type 0 = λ ss. HaveAddresses ss in
        let a' : HaveAddresses (pre ++ s ∷ suf) = subst P is a in
        let front : segments_of text n ≡ pre = so_far ∙ ap (take n) is ∙ ap (λ n. take n (pre ++ s ∷ suf)) (sym place) ∙ take-append_seam pre (s ∷ suf) in
        let header : program_header_of text n ≡ fields_of (offset_behind (pre ++ s ∷ suf) pre) s = ap (program_header_of text) (sym place) ∙ program_header_of-text text pre s suf t' l' a' in
        let Q : List Segment → Type 0 = λ before. Passes text before (program_header_of text n) in
        let R : ProgramHeader → Type 0 = λ h. Passes text pre h in
        bad.fails (subst Q (sym front) (subst R (sym header) (passes-text text pre s suf t' l')))

    by : SplitsAt ss n → segments_of text n ≡ take n ss → ⊥
    by r so_far = at_place r.pre r.here r.suf r.is r.place so_far

-- the parts of the text of an image
is_text_of : (entry : ℕ) (ss : List Segment) → entry < 2 ^ 32 → AreLoadable ss → IsTextOf (header entry (length ss) ++ program_headers (52 + 32 * length ss) ss ++ contents ss) ss
is_text_of entry ss e l =
    let start : ℕ = 52 + 32 * length ss in
    let front : List ℕ = header entry (length ss) ++ program_headers start ss in
    let size : length front ≡ start = length-append (header entry (length ss)) (program_headers start ss) ∙ omega (arith, length-program_headers start ss) in
    let few : length ss < 2 ^ 16 = omega (arith, l.few) in
    record {
      table = ap (λ (h : Header). h.table) (header_of-header entry (length ss) (program_headers start ss ++ contents ss) e few);
      headers = refl;
      bytes = ap (λ n. drop n (front ++ contents ss)) (sym size) ∙ drop-append_seam front (contents ss);
      size = length-append front (contents ss) ∙ ap (λ n. n + length (contents ss)) size;
    }

header_of-text : (image : Image) → image.entry < 2 ^ 32 → AreLoadable image.segments → header_of (text_of image) ≡ record { kind = 2; machine = 243; entry = image.entry; table = 52; entry_size = 32; count = length image.segments }
header_of-text image e l = header_of-header image.entry (length image.segments) (program_headers (52 + 32 * length image.segments) image.segments ++ contents image.segments) e (omega (arith, l.few))

pub text_loads : (image : Image) → image.entry < 2 ^ 32 → AreLoadable image.segments → HaveAddresses image.segments → IsLoadable (text_of image)
text_loads image e l a =
    let h = header_of-text image e l in
    let t : IsTextOf (text_of image) image.segments = is_text_of image.entry image.segments e l in
    let count : (header_of (text_of image)).count ≡ length image.segments = ap (λ (h : Header). h.count) h in
    record {
      elf = record {
        long = omega (arith, t.size);
        begins = refl;
        table = λ some. record { entries = ap (λ (h : Header). h.entry_size) h; within = omega (arith, t.size, t.table, count) };
      };
      executable = record { kind = ap (λ (h : Header). h.kind) h; machine = ap (λ (h : Header). h.machine) h };
      good = λ k lt bad. none_bad (text_of image) image.segments k t l a (omega (arith, lt, count)) bad;
    }

pub image_of-text_of : (image : Image) → image.entry < 2 ^ 32 → AreLoadable image.segments → HaveAddresses image.segments → image_of (text_of image) ≡ image
image_of-text_of image e l a =
    let h = header_of-text image e l in
    let t : IsTextOf (text_of image) image.segments = is_text_of image.entry image.segments e l in
    let entry : (header_of (text_of image)).entry ≡ image.entry = ap (λ (h : Header). h.entry) h in
    let count : (header_of (text_of image)).count ≡ length image.segments = ap (λ (h : Header). h.count) h in
    let segments : sorted (segments_of (text_of image) (header_of (text_of image)).count) ≡ image.segments =
    ap (λ n. sorted (segments_of (text_of image) n)) count
    ∙ ap sorted (segments_of-text (text_of image) image.segments (length image.segments) t l a (omega arith) ∙ take-length image.segments)
    ∙ sorted-ascending image.segments l.ascending in
    image_by image _ _ entry segments
  where
    image_by : (image : Image) (entry : ℕ) (segments : List Segment) → entry ≡ image.entry → segments ≡ image.segments → (let i : Image = record { entry = entry; segments = segments } in i ≡ image)
    image_by image entry segments a b = rw (a, b) refl
