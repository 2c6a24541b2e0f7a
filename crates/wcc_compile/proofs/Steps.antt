-- A source before and after the choice of what lies in the scratchpad.
use Rattle.std.proofs.Common.{◌≡◌, ℕ, suc, ◌≤◌, Bool, true, false, List, [], ◌∷◌, length, Result, Ok, Err, refl, sym, ap, subst, ◌∙◌, arith}
use Rattle.std.specs.Prelude.{◌==◌, IfOk}
use Rattle.rv_core.specs.Table.{table_of}
use Rattle.facts_front.specs.declared.reading.Source.{Source}
use Rattle.wcc_base.specs.declared.memory.Memory.{Memory}
use Rattle.low_ir.specs.Placings.{assignment_of, placed_of}
use Rattle.image_definition.specs.Sizes.{HasRoom}
use Rattle.low_ir.specs.Programs.{low_of}
use Rattle.promise_compiler.specs.declared.built.Options.{Options}
use Rattle.spm_placement.specs.Sets.{AreBest}
use Rattle.low_ir.specs.declared.places.LowReg.{LowReg}
use Rattle.compile_placement.specs.Laws.{ChoicesFit}
use Rattle.compile_high_definitions.specs.Carried.{IsCarried}
use Rattle.high_ir.specs.Programs.{program_of}
use Rattle.high_pass.specs.Listing.{listing_of}
use Rattle.compile_stages.specs.declared.made.Made.{Made}
use Rattle.compile_stages.specs.declared.made.Stages.{Stages}
use Rattle.compile_stages.specs.Made.{IsInMemory, IsLowered, IsMade, high_of}
use Rattle.compile_stages.specs.Placed.{HasNumbers, IsPlacedBy, placed_bytes}
use Rattle.wcc_compile.specs.Lowered.{IsCodeOf}
use Rattle.wcc_compile.specs.Passes.{AreStages, passes, stages_of}
use Rattle.compile_report.specs.Sources.{IsOf, IsReportOn, names_of, tree_of}
use Rattle.compile_capacity.proofs.Sizes.{limited_fit}
use Rattle.wcc_compile.specs.declared.built.Built.{Built}
use Rattle.wcc_compile.specs.Built.{IsLaidOut, gains_of}
use Rattle.wcc_compile.specs.Steps.{IsFirst, IsLast}

-- a list that is empty
pub none_left : (n : ℕ) (xs : List ℕ) (b : Bool) → n ≡ length xs → b ≡ (n == 0) → b ≡ true → xs ≡ []
none_left n [] b long e t = refl
none_left n (x ∷ xs) b long e t = let f : false ≡ true = sym (e ∙ ap (λ (m : ℕ). m == 0) long ∙ some_left (length xs)) ∙ t in cc
  where
    some_left : (m : ℕ) → (suc m == 0) ≡ false
    some_left m = grind arith

module _ (options : Options) (s : Source) where
  -- what is made, with a report on it
  pub laid_out : (m : Made) → AreStages options (names_of s) (tree_of s) s.facts (stages_of m.stages) → length m.stages.before.items ≡ passes → IsCodeOf (high_of m) m.code → IsMade (names_of s) (tree_of s) s.facts m
      → (b : Built) → b.made ≡ m → IsReportOn (table_of options.costs) s b.made b.report → IsLaidOut options (names_of s) (tree_of s) s.facts b
  laid_out m stages all code made b same reported = record {
    stages = subst (λ (x : Made). AreStages options (names_of s) (tree_of s) s.facts (stages_of x.stages)) (sym same) stages;
    all = subst (λ (x : Made). length x.stages.before.items ≡ passes) (sym same) all;
    code = subst (λ (x : Made). IsCodeOf (high_of x) x.code) (sym same) code;
    made = subst (IsMade (names_of s) (tree_of s) s.facts) (sym same) made;
    reported = reported;
  }

  pub first_laid : (m : Made) → (text : List ℕ) × IsOf text s → AreStages options (names_of s) (tree_of s) s.facts (stages_of m.stages) → length m.stages.before.items ≡ passes → IsCodeOf (high_of m) m.code → IsMade (names_of s) (tree_of s) s.facts m → IsPlacedBy [] m
      → (r : Result Built Memory) → IfOk r (λ b. b.made ≡ m) → IfOk r (λ b. IsReportOn (table_of options.costs) s b.made b.report) → IfOk r (IsFirst options s)
  first_laid m is stages all code made none (Ok b) same reported = record {
    made_of = record { text = is.0; is_source = is.1; is_made = subst (IsMade (names_of s) (tree_of s) s.facts) (sym same) made };
    laid_out = laid_out m stages all code made b same reported;
    none = subst (IsPlacedBy []) (sym same) none;
  }
  first_laid m is stages all code made none (Err e) same reported = tt

  -- it has room
  pub has_room : (b : Built) → IsFirst options s b → HasRoom (placed_of b.made.code)
  has_room b first =
      let made = first.laid_out.made in
      limited_fit (high_of b.made) (low_of b.made.code.low) (assignment_of b.made.code) made.carried.limited made.lowered.keeps_program made.lowered.slots

  -- where nothing is chosen, the first layout is the last one
  pub stays : (b : Built) → IsFirst options s b → AreBest (gains_of (table_of options.costs) b) options.spm [] → IsLast options s b
  stays b first best = record {
    laid_out = first.laid_out;
    placed = record { first = b; is_first = first.laid_out; same = refl; none = first.none; chosen = []; best = best; placed = first.none };
  }

-- what is placed takes at most the capacity
pub fits : ChoicesFit → (options : Options) (s : Source) (b : Built) → IsLast options s b → placed_bytes b.made.placement (placed_of b.made.code) ≤ options.spm
fits law options s b last =
    let placed = last.placed in
    let first = placed.first in
    subst (λ (code : LowReg). placed_bytes b.made.placement (placed_of code) ≤ options.spm) placed.same
    (law (table_of options.costs) first.report.cert.flow.parts first.made.placement (placed_of first.made.code) options.spm placed.chosen b.made.placement placed.best
    (subst (λ (code : LowReg). HasNumbers placed.chosen (placed_of code) b.made.placement) (sym placed.same) placed.placed))

-- the same program, laid again
module _ (options : Options) (s : Source) (b : Built) (first : IsFirst options s b) (m : Made) (stages : m.stages ≡ b.made.stages) (code : m.code ≡ b.made.code) (memory : IsInMemory m.placement m.code m.laid) where
  pub last_made : IsMade (names_of s) (tree_of s) s.facts m
  last_made =
      let made = first.laid_out.made in
      record {
        carried = subst (λ (st : Stages). IsCarried (names_of s) (tree_of s) s.facts (length st.before.items) (program_of st.last.program) (listing_of st.last.copies)) (sym stages) made.carried;
        lowered = subst (λ (st : Stages). IsLowered (program_of st.last.program) m.code) (sym stages) (subst (λ (x : LowReg). IsLowered (high_of b.made) x) (sym code) made.lowered);
        in_memory = memory;
      }

  last_code : IsCodeOf (high_of m) m.code
  last_code = subst (λ (st : Stages). IsCodeOf (program_of st.last.program) m.code) (sym stages) (subst (λ (x : LowReg). IsCodeOf (high_of b.made) x) (sym code) first.laid_out.code)

  pub last_laid : (ids : List ℕ) → AreBest (gains_of (table_of options.costs) b) options.spm ids → IsPlacedBy ids m
      → (r : Result Built Memory) → IfOk r (λ x. x.made ≡ m) → IfOk r (λ x. IsReportOn (table_of options.costs) s x.made x.report) → IfOk r (IsLast options s)
  last_laid ids best by (Ok x) same reported = record {
    laid_out = laid_out options s m
        (subst (λ (st : Stages). AreStages options (names_of s) (tree_of s) s.facts (stages_of st)) (sym stages) first.laid_out.stages)
        (subst (λ (st : Stages). length st.before.items ≡ passes) (sym stages) first.laid_out.all)
        last_code last_made x same reported;
    placed = record {
      first = b;
      is_first = first.laid_out;
      same = sym code ∙ ap (λ (y : Made). y.code) (sym same);
      none = first.none;
      chosen = ids;
      best = best;
      placed = subst (IsPlacedBy ids) (sym same) by;
    };
  }
  last_laid ids best by (Err e) same reported = tt
