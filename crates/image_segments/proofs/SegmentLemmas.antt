-- The segments of an image lie one behind the other.
use Rattle.std.proofs.Common.{◌≡◌, ◌⊎◌, inl, inr, ℕ, ◌-◌, ◌<◌, ◌≤◌, true, false, List, [], ◌++◌, length, sym, ap, ◌∙◌, subst, arith}
use Rattle.std.specs.Prelude.{slice_index}
use Rattle.std.proofs.lemmas.Bool.{false≢true}
use Rattle.rv_core.specs.declared.image.Segment.{Segment}
use Rattle.rv_core.specs.declared.regions.Region.TheVariants.{Flash, Spm, Ram}
use Rattle.rv_core.specs.Regions.{region_start, region_size}
use Rattle.rv_core.specs.Images.{LiesIn, IsSegment, AreLoadable}
use Rattle.image_segments.specs.Rows.{Spot, row_room}
use Rattle.image_segments.proofs.ContentLemmas.{row_length}
use Rattle.image_segments.specs.Starts.{starts_behind, placed_end}
use Rattle.image_segments.specs.Segments.{code_segment, data_segment, Data, spots_in, values_in, present, low_segments, ram_segments, all_segments, segments_of, FitSegments}
use Rattle.image_segments.proofs.AppendLemmas.{put_more}
use Rattle.image_segments.proofs.OrderLemmas.{AreOrdered, present_ordered, present_few, are_loadable}

-- code, in flash or in the scratchpad
code_is : (at : ℕ) (bytes : List ℕ) → LiesIn Flash (code_segment at bytes) ⊎ LiesIn Spm (code_segment at bytes) → at < region_start Ram → IsSegment (code_segment at bytes)
code_is at bytes region low = record {
  filled = omega arith;
  not_both = λ w x. absurd (false≢true w);
  placed = λ some. record { region = by region; exec = λ x r. let h = r.from in absurd (omega (arith, h, low)); write = λ w f. absurd (false≢true w) };
}
  where
    by : LiesIn Flash (code_segment at bytes) ⊎ LiesIn Spm (code_segment at bytes) → LiesIn Flash (code_segment at bytes) ⊎ (LiesIn Spm (code_segment at bytes) ⊎ LiesIn Ram (code_segment at bytes))
    by (inl f) = inl f
    by (inr s) = inr (inl s)

-- data that may be written, in the scratchpad or in RAM
data_is : (at : ℕ) (bytes : List ℕ) (size : ℕ) → length bytes ≤ size → LiesIn Spm (data_segment at bytes size true) ⊎ LiesIn Ram (data_segment at bytes size true) → region_size Flash ≤ at → IsSegment (data_segment at bytes size true)
data_is at bytes size fits region high = record {
  filled = fits;
  not_both = λ w x. absurd (false≢true x);
  placed = λ some. record { region = inr region; exec = λ x r. absurd (false≢true x); write = λ w f. let h = f.to in absurd (omega (arith, h, high, some)) };
}

constants_are : (at : ℕ) (bytes : List ℕ) (size : ℕ) → length bytes ≤ size → LiesIn Flash (data_segment at bytes size false) → IsSegment (data_segment at bytes size false)
constants_are at bytes size fits region = record {
  filled = fits;
  not_both = λ w x. absurd (false≢true x);
  placed = λ some. record { region = inl region; exec = λ x r. absurd (false≢true x); write = λ w f. absurd (false≢true w) };
}

module _ (d : Data) (flash scratchpad : List ℕ) (fits : FitSegments d flash scratchpad) where
  abbrev ss : List Spot
  ss = spots_in d

  full : (r : ℕ) → length (values_in d r) ≤ row_room r ss
  full r = let h = row_length d.placed r 0 d.objects in omega (arith, h)

  pub ordered : AreOrdered 0 (all_segments d flash scratchpad)
  ordered =
      let c = fits.rows.constants in
      let s = fits.rows.scratchpad in
      let b = fits.frames in
      let r = fits.rows.ram in
      let code = fits.flash_code in
      let fast = fits.scratchpad_code in (
        omega arith,
        code_is 0 flash (inl (record { from = omega arith; to = omega (arith, code) })) (omega arith),
        (
          omega (arith, code),
          constants_are (slice_index (starts_behind d.frames ss) 0) (values_in d 0) (row_room 0 ss) (full 0) (record { from = omega arith; to = omega (arith, c) }),
          (
            omega (arith, c),
            data_is (slice_index (starts_behind d.frames ss) 1) (values_in d 1) (row_room 1 ss) (full 1) (inl (record { from = omega arith; to = omega (arith, s) })) (omega arith),
            (
              omega arith,
              code_is (placed_end ss) scratchpad (inr (record { from = omega arith; to = omega (arith, fast) })) (omega (arith, fast)),
              (
                omega (arith, fast),
                data_is (region_start Ram) [] (d.frames - region_start Ram) (omega arith) (inr (record { from = omega arith; to = omega (arith, b, r) })) (omega arith),
                (
                  omega (arith, b),
                  data_is (slice_index (starts_behind d.frames ss) 2) [] (row_room 2 ss) (omega arith) (inr (record { from = omega (arith, b); to = omega (arith, r) })) (omega (arith, b)),
                  (
                    omega arith,
                    data_is (slice_index (starts_behind d.frames ss) 3) (values_in d 3) (row_room 3 ss) (full 3) (inr (record { from = omega (arith, b); to = omega (arith, r) })) (omega (arith, b)),
                    (
                      omega arith,
                      data_is (slice_index (starts_behind d.frames ss) 4) (values_in d 4) (row_room 4 ss) (full 4) (inr (record { from = omega (arith, b); to = omega (arith, r) })) (omega (arith, b)),
                      (
                        omega arith,
                        data_is (slice_index (starts_behind d.frames ss) 5) [] (row_room 5 ss) (omega arith) (inr (record { from = omega (arith, b); to = omega (arith, r) })) (omega (arith, b)),
                        tt,
                      ),
                    ),
                  ),
                ),
              ),
            ),
          ),
        ),
      )

  pub loadable : AreLoadable (segments_of d flash scratchpad)
  loadable =
      let few = present_few (all_segments d flash scratchpad) in
      are_loadable (segments_of d flash scratchpad) (omega (arith, few)) (present_ordered 0 (all_segments d flash scratchpad) ordered)

  -- what was put one behind the other
  pub put_loadable : (a b c : List Segment) → a ≡ [] → b ≡ a ++ present (low_segments d flash scratchpad) → c ≡ b ++ present (ram_segments d) → AreLoadable c
  put_loadable a b c none low high =
      subst AreLoadable (sym (put_more a b c (low_segments d flash scratchpad) (ram_segments d) low high ∙ ap (λ l. l ++ present (all_segments d flash scratchpad)) none)) loadable
