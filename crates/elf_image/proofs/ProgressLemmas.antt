-- One program header more: it has no segment to load, it passes, or it is the first bad one.
use Rattle.std.proofs.Common.{◌≡◌, ◌≢◌, ◌⊎◌, ℕ, ◌+◌, ◌*◌, ◌<◌, ◌==◌, List, [], ◌∷◌, ◌++◌, true, false, refl, ⊎_elim, ap, sym, ◌∙◌, subst, arith, add-one, append-nil}
use Rattle.std.proofs.lemmas.Bool.Decides.{nat_tests}
use Rattle.rv_core.specs.declared.image.Segment.{Segment}
use Rattle.rv_core.specs.Images.{AreLoadable}
use Rattle.elf_image.specs.declared.headers.Header.{Header}
use Rattle.elf_image.specs.declared.headers.ProgramHeader.{ProgramHeader}
use Rattle.elf_image.specs.Headers.{header_of, program_header_at, program_header_of}
use Rattle.elf_image.specs.Sorting.{sorted, put_last}
use Rattle.elf_image.specs.Loading.{Passes, IsBad, NoneBadBelow, IsFirstBad, segment_of, loaded_by, segments_of}
use Rattle.elf_image.specs.Progress.{HasLoaded}
use Rattle.elf_image.proofs.SortingLemmas.{sorted-snoc, length-sorted, length-put_last, apart_from-sorted, segments-put_last, ascending-put_last, apart-put_last}

-- a header passes behind the segments in the order of the file as behind the same in ascending order
passes_in_file : (bytes : List ℕ) (ss : List Segment) (h : ProgramHeader) → Passes bytes (sorted ss) h → Passes bytes ss h
passes_in_file bytes ss h p = record {
  within = p.within;
  sound = p.sound;
  apart = (apart_from-sorted (segment_of bytes h) ss).0 p.apart;
  few = omega (arith, p.few, length-sorted ss);
}

passes_in_order : (bytes : List ℕ) (ss : List Segment) (h : ProgramHeader) → Passes bytes ss h → Passes bytes (sorted ss) h
passes_in_order bytes ss h p = record {
  within = p.within;
  sound = p.sound;
  apart = (apart_from-sorted (segment_of bytes h) ss).1 p.apart;
  few = omega (arith, p.few, length-sorted ss);
}

passes_moved : (bytes : List ℕ) (before after : List Segment) (h k : ProgramHeader) → before ≡ after → h ≡ k → Passes bytes before h → Passes bytes after k
passes_moved bytes before after h k same is p =
    let P : List Segment → Type 0 = λ l. Passes bytes l k in
    let Q : ProgramHeader → Type 0 = λ h. Passes bytes before h in
    subst P same (subst Q is p)

-- none below, nor there
none_bad_more : (bytes : List ℕ) (n : ℕ) → NoneBadBelow bytes n → (IsBad bytes n → ⊥) → NoneBadBelow bytes (n + 1)
none_bad_more bytes n below here k lt bad = by k lt bad
  where
    at_n : (k : ℕ) → k ≡ n → IsBad bytes k → ⊥
    at_n k e bad = here (let P : ℕ → Type 0 = λ i. IsBad bytes i in subst P e bad)

    by : (k : ℕ) → k < n + 1 → IsBad bytes k → ⊥
    by k lt bad = ⊎_elim (λ l. below k l bad) (λ e. at_n k e bad) (let split : (k < n) ⊎ (k ≡ n) = grind (arith, nat_tests) in split)

loaded_by-load : (bytes : List ℕ) (h : ProgramHeader) → h.kind ≡ 1 → loaded_by bytes h ≡ segment_of bytes h ∷ []
loaded_by-load bytes h e = let t : (h.kind == 1) ≡ true = grind (arith, nat_tests) in rw t refl

loaded_by-other : (bytes : List ℕ) (h : ProgramHeader) → h.kind ≢ 1 → loaded_by bytes h ≡ []
loaded_by-other bytes h e = let t : (h.kind == 1) ≡ false = grind (arith, nat_tests) in rw t refl

-- the segment of a program header that passes, behind the others
loaded_by_header : (bytes : List ℕ) (n : ℕ) (ss new : List Segment) → HasLoaded bytes n ss → (program_header_of bytes n).kind ≡ 1 → Passes bytes ss (program_header_of bytes n) → new ≡ put_last (segment_of bytes (program_header_of bytes n)) ss → HasLoaded bytes (n + 1) new
loaded_by_header bytes n ss new l load p put =
    let h : ProgramHeader = program_header_of bytes n in
    let s : Segment = segment_of bytes (program_header_of bytes n) in
    let in_file : Passes bytes (segments_of bytes n) (program_header_of bytes n) = passes_in_file bytes (segments_of bytes n) h (passes_moved bytes ss (sorted (segments_of bytes n)) h h l.are refl p) in
    let loadable : AreLoadable (put_last (segment_of bytes (program_header_of bytes n)) ss) = record {
      few = omega (arith, p.few, length-put_last s ss);
      each = segments-put_last s ss p.sound l.loadable.each;
      ascending = ascending-put_last s ss l.loadable.ascending;
      apart = apart-put_last s ss p.apart l.loadable.apart;
    } in
    record {
      good = none_bad_more bytes n l.good (λ b. b.fails in_file);
      are = put ∙ ap (put_last s) l.are ∙ sym (sorted-snoc (segments_of bytes n) s)
          ∙ ap sorted (sym (ap (λ m. segments_of bytes m) (add-one n) ∙ ap (λ t. segments_of bytes n ++ t) (loaded_by-load bytes h load)));
      loadable = subst AreLoadable (sym put) loadable;
    }

-- a program header of another type
pub loaded_other : (bytes : List ℕ) (n : ℕ) (ss : List Segment) (h : ProgramHeader) → HasLoaded bytes n ss → h ≡ program_header_of bytes n → h.kind ≢ 1 → HasLoaded bytes (n + 1) ss
loaded_other bytes n ss h l is other =
    let kind : h.kind ≡ (program_header_of bytes n).kind = ap (λ (h : ProgramHeader). h.kind) is in
    let other' : (program_header_of bytes n).kind ≢ 1 = λ e. other (kind ∙ e) in
    record {
      good = none_bad_more bytes n l.good (λ b. other' b.loads);
      are = l.are ∙ ap sorted (sym (ap (λ m. segments_of bytes m) (add-one n) ∙ ap (λ t. segments_of bytes n ++ t) (loaded_by-other bytes (program_header_of bytes n) other') ∙ append-nil (segments_of bytes n)));
      loadable = l.loadable;
    }

-- a program header that passes
pub loaded_more : (bytes : List ℕ) (n : ℕ) (ss before new : List Segment) (h : ProgramHeader) (s : Segment) → HasLoaded bytes n ss → before ≡ ss → h ≡ program_header_of bytes n → h.kind ≡ 1 → (s ≡ segment_of bytes h) × Passes bytes before h → new ≡ put_last s ss → HasLoaded bytes (n + 1) new
loaded_more bytes n ss before new h s l same is load passes put =
    let t : Segment = segment_of bytes (program_header_of bytes n) in
    let load' : (program_header_of bytes n).kind ≡ 1 = ap (λ (h : ProgramHeader). h.kind) (sym is) ∙ load in
    let is' : s ≡ segment_of bytes (program_header_of bytes n) = passes.0 ∙ ap (segment_of bytes) is in
    let p : Passes bytes ss (program_header_of bytes n) = passes_moved bytes before ss h (program_header_of bytes n) same is passes.1 in
    loaded_by_header bytes n ss new l load' p (put ∙ ap (λ s. put_last s ss) is')

-- a program header that doesn't pass
pub first_bad : (bytes : List ℕ) (n : ℕ) (ss before : List Segment) (h : ProgramHeader) → HasLoaded bytes n ss → before ≡ ss → h ≡ program_header_of bytes n → n < (header_of bytes).count → h.kind ≡ 1 → (Passes bytes before h → ⊥) → IsFirstBad bytes n
first_bad bytes n ss before h l same is lt load fails = record {
  bad = record {
    there = lt;
    loads = ap (λ (h : ProgramHeader). h.kind) (sym is) ∙ load;
    fails = λ p. fails (passes_moved bytes (sorted (segments_of bytes n)) before (program_header_of bytes n) h (sym (same ∙ l.are)) (sym is) (passes_in_order bytes (segments_of bytes n) (program_header_of bytes n) p));
  };
  first = l.good;
}

-- the program header at that place of the table
pub nth_of_table : (bytes : List ℕ) (n : ℕ) (header : Header) (h : ProgramHeader) → header ≡ header_of bytes → h ≡ program_header_at bytes (header.table + 32 * n) → h ≡ program_header_of bytes n
nth_of_table bytes n header h same is = is ∙ ap (λ (header : Header). program_header_at bytes (header.table + 32 * n)) same
