-- What was compiled and written, a check finds to hold.
use Rattle.std.proofs.Common.{◌≡◌, ◌⊎◌, ◌≤◌, ℕ, Bool, true, false, List, [], ◌∷◌, length, Option, Some, None, unwrap_or, refl, sym, ap, subst, ◌∙◌, ⊎_elim, arith}
use Rattle.std.specs.Prelude.{◌||◌, IsSome, if◌then◌else◌}
use Rattle.std.specs.Str.{bytes_eq}
use Rattle.std.proofs.lemmas.Bool.{false≢true}
use Rattle.std.proofs.lemmas.Slice.Eq.{bytes_eq-Decides}
use Rattle.wcc_base.specs.Outside.{Files, SinkState, StoreState, bytes_of, file_of, put_file}
use Rattle.wcc_base.specs.declared.status.Status.{Status}
use Rattle.wcc_base.specs.declared.status.Status.TheVariants as status
use Rattle.wcc_base.proofs.FilesLaws.{file_of-put_same}
use Rattle.rv_core.specs.Table.{Table, default_table}
use Rattle.rv_sim.specs.Simulation.{Simulation}
use Rattle.rv_sim.specs.declared.ending.Ending.{Ending}
use Rattle.rv_sim.specs.declared.ending.Ending.TheVariants.{Exit, Trap, CycleLimit, OutputFull}
use Rattle.clap.specs.Words.{Text}
use Rattle.report_check.specs.Checks.{IsAccepted}
use Rattle.command_numbered.specs.Text.{numbered_text}
use Rattle.command_numbered.proofs.Lengths.{short}
use Rattle.command_words.specs.Requests.{CompileRequest, CheckRequest, MakeRequest, Name, has_twins, scratchpad_of, with_table}
use Rattle.command_perform.specs.declared.compile.Texts.{Texts}
use Rattle.command_perform.specs.Words.{Asked, Command, Named, Respond, Check, Compile, Run, Eval, Report, Make, asked_by, IsInRange}
use Rattle.command_perform.specs.Commands.{CanAccept, Makes, wanted_of}
use Rattle.command_perform.specs.Compiling.{Compiles}
use Rattle.command_perform.specs.Ends.{EndsWith, MakesIn}
use Rattle.command_perform.specs.Finishing.{all_put}
use Rattle.command_perform.specs.Gathering.{Fit, contents_of}
use Rattle.command_perform.specs.Numbered.{MakesNumbered, numbered_outputs}
use Rattle.command_perform.specs.Outputs.{Outputs}
use Rattle.command_perform.specs.Checkable.{IsCheckable, check_of, check_of_made}
use Rattle.command_perform.specs.Promises.{CanEnd, IsDone}
use Rattle.command_perform.specs.Tables.{AreCosts, wanted_table}
use Rattle.command_perform.proofs.CheckRuns.{accept_ends}
use Rattle.command_perform.proofs.CompileRuns.{compiled_holds}
use Rattle.command_perform.proofs.Endings.{done_of}
use Rattle.command_perform.proofs.NamesApart.{IsApart, names_apart}

-- a file that isn't written stays as it is
file_of-put_other : (name other b : List ℕ) (fs : Files) → bytes_eq name other ≡ false → file_of (put_file name b fs) other ≡ file_of fs other
file_of-put_other name other b [] e = ap (λ t. if t then Some b else None) e
file_of-put_other name other b (f ∷ fs) e = by_test (bytes_eq f.0 name) refl (file_of-put_other name other b fs e)
  where
    by_test : (t : Bool) → bytes_eq f.0 name ≡ t → file_of (put_file name b fs) other ≡ file_of fs other → file_of (if t then (name, b) ∷ fs else f ∷ put_file name b fs) other ≡ file_of (f ∷ fs) other
    by_test true t rest =
        let same = (bytes_eq-Decides f.0 name).0 t in
        ap (λ t. if t then Some b else file_of fs other) e ∙ sym (ap (λ t. if t then Some f.1 else file_of fs other) (ap (λ n. bytes_eq n other) same ∙ e))
    by_test false t rest = ap (λ o. if bytes_eq f.0 other then Some f.1 else o) rest

bytes_other : (name other b : List ℕ) (fs : Files) → bytes_eq name other ≡ false → bytes_of (put_file name b fs) other ≡ bytes_of fs other
bytes_other name other b fs e = ap (λ o. unwrap_or o []) (file_of-put_other name other b fs e)

bytes_same : (name b : List ℕ) (fs : Files) → bytes_of (put_file name b fs) name ≡ b
bytes_same name b fs = ap (λ o. unwrap_or o []) (file_of-put_same name b fs)

-- names that differ
neither : (a b : Bool) → (a || b) ≡ false → (a ≡ false) × (b ≡ false)
neither true b h = cc
neither false b h = (refl, h)

turned : (a b : List ℕ) → bytes_eq a b ≡ false → bytes_eq b a ≡ false
turned a b e = of (bytes_eq b a) refl
  where
    of : (t : Bool) → bytes_eq b a ≡ t → t ≡ false
    of true t = sym ((bytes_eq-Decides a b).1 (sym ((bytes_eq-Decides b a).0 t))) ∙ e
    of false t = refl

-- the image and the report, and the table beside both
record AreApart (asked : CheckRequest) : Type 0 where
  texts : bytes_eq asked.image asked.report ≡ false
  tables : (name : Name) → asked.table ≡ Some name → (bytes_eq asked.image name ≡ false) × (bytes_eq asked.report name ≡ false)

three_apart : (source image report : Name) → has_twins (source ∷ image ∷ report ∷ []) ≡ false → bytes_eq image report ≡ false
three_apart source image report h =
    let behind = neither (bytes_eq source image || (bytes_eq source report || false)) (has_twins (image ∷ report ∷ [])) h in
    let own = neither (bytes_eq image report || false) (has_twins (report ∷ [])) behind.1 in
    (neither (bytes_eq image report) false own.0).0

none_named : (name : Name) → None ≡ Some name → ⊥
none_named name e = cc

same_name : (a b : Name) → Some a ≡ Some b → a ≡ b
same_name a b e = cc

compiled_apart : (asked : CompileRequest) → IsApart (Compile asked) → AreApart (check_of asked)
compiled_apart asked h = by_table asked.table refl h
  where
    by_table : (o : Option Name) → asked.table ≡ o → has_twins (with_table o (asked.source ∷ asked.image ∷ asked.report ∷ [])) ≡ false → AreApart (check_of asked)
    by_table None e h = record { texts = three_apart asked.source asked.image asked.report h; tables = λ name f. absurd (none_named name (sym e ∙ f)) }
    by_table (Some table) e h =
        let behind = neither (bytes_eq table asked.source || (bytes_eq table asked.image || (bytes_eq table asked.report || false))) (has_twins (asked.source ∷ asked.image ∷ asked.report ∷ [])) h in
        let image = neither (bytes_eq table asked.image) (bytes_eq table asked.report || false) (neither (bytes_eq table asked.source) (bytes_eq table asked.image || (bytes_eq table asked.report || false)) behind.0).1 in
        let report = neither (bytes_eq table asked.report) false image.1 in
        record {
          texts = three_apart asked.source asked.image asked.report behind.1;
          tables = λ name f. subst (λ n. (bytes_eq asked.image n ≡ false) × (bytes_eq asked.report n ≡ false)) (same_name table name (sym e ∙ f)) (turned table asked.image image.0, turned table asked.report report.0);
        }

made_apart : (asked : MakeRequest) → IsApart (Make asked) → AreApart (check_of_made asked)
made_apart asked h = record { texts = three_apart asked.source asked.image asked.report h; tables = λ name f. absurd (none_named name f) }

-- the texts are written beside what is read, and checked
module _ (asked : CheckRequest) (apart : AreApart asked) (fs : Files) (t : Texts) where
  abbrev written : Files
  written = put_file asked.report t.report (put_file asked.image t.image fs)

  image_is : bytes_of written asked.image ≡ t.image
  image_is = bytes_other asked.report asked.image t.report (put_file asked.image t.image fs) (turned asked.image asked.report apart.texts) ∙ bytes_same asked.image t.image fs

  report_is : bytes_of written asked.report ≡ t.report
  report_is = bytes_same asked.report t.report (put_file asked.image t.image fs)

  table_is : (name : Name) → asked.table ≡ Some name → bytes_of written name ≡ bytes_of fs name
  table_is name e =
      let other = apart.tables name e in
      bytes_other asked.report name t.report (put_file asked.image t.image fs) other.1 ∙ bytes_other asked.image name t.image fs other.0

  tables_are : (o : Option Name) → asked.table ≡ o → contents_of (wanted_table o) written ≡ contents_of (wanted_table o) fs
  tables_are None e = refl
  tables_are (Some name) e = ap (λ b. b ∷ []) (table_is name e)

  tables_fit : (o : Option Name) → asked.table ≡ o → Fit (wanted_table o) fs → Fit (wanted_table o) written
  tables_fit None e h = tt
  tables_fit (Some name) e h = let same = ap (λ (b : List ℕ). length b) (table_is name e) in let low = h.0 in (omega (arith, same, low), tt)

  module _ (derive : Bool) (spm : ℕ) (source : List ℕ) (costs : Table) (low : length source ≤ 1048576) (fit : Fit (wanted_table asked.table) fs) (are : AreCosts (contents_of (wanted_table asked.table) fs) costs) (compiles : Compiles derive spm costs source t) where
    texts_fit : Fit (wanted_of (Check asked)) written
    texts_fit =
        let lengths = compiles.short low in
        let image = ap (λ (b : List ℕ). length b) image_is in
        let report = ap (λ (b : List ℕ). length b) report_is in
        let image_low = lengths.image in
        let report_low = lengths.report in
        (omega (arith, image, image_low), (omega (arith, report, report_low), tables_fit asked.table refl fit))

    can_accept : CanAccept (contents_of (wanted_of (Check asked)) written)
    can_accept = (
      costs,
      subst (λ tables. AreCosts tables costs) (sym (tables_are asked.table refl)) are,
      subst (λ b. IsAccepted costs b (bytes_of written asked.report)) (sym image_is) (subst (λ b. IsAccepted costs t.image b) (sym report_is) (compiled_holds derive spm costs source t compiles)),
    )

    checks : (new : StoreState) → new.files ≡ Some written → CanEnd (Some (Named (Check asked))) new status.Done
    checks new e = accept_ends asked (Some written) new e (texts_fit, can_accept)

compiled_checks : (asked : CompileRequest) → AreApart (check_of asked) → (files : Option Files) (new : StoreState) (made : Outputs) → MakesIn (Named (Compile asked)) files made → new.files ≡ all_put made.files files → IsSome files → CanEnd (Some (Named (Check (check_of asked)))) new status.Done
compiled_checks asked apart None new made m e some = absurd (false≢true some)
compiled_checks asked apart (Some fs) new made m e some =
    let makes = subst (λ contents. Makes (Compile asked) contents made) m.1.0 m.2 in
    let texts = makes.2.texts in
    let put = e ∙ ap (λ (o : Outputs). all_put o.files (Some fs)) makes.2.made_is in
    checks (check_of asked) apart fs texts asked.derive (scratchpad_of asked) (bytes_of fs asked.source) makes.0 m.1.1.0 m.1.1.1 makes.1 makes.2.compiles new put

not_stopped : (kind code at cycles : ℕ) → status.Done ≡ status.Stopped kind code at cycles → ⊥
not_stopped kind code at cycles e = cc

-- what `make` writes, where its run exits
exited : (asked : MakeRequest) (t : Texts) (last : Simulation) (ending : Ending) (made : Outputs) → made ≡ numbered_outputs asked t last ending → made.status ≡ status.Done
    → made.files ≡ (asked.source, numbered_text asked.number) ∷ (asked.image, t.image) ∷ (asked.report, t.report) ∷ []
exited asked t last (Exit v) made e s = ap (λ (o : Outputs). o.files) e
exited asked t last (Trap at kind) made e s = absurd (not_stopped 1 kind at last.state.cycles (sym s ∙ ap (λ (o : Outputs). o.status) e))
exited asked t last CycleLimit made e s = absurd (not_stopped 2 0 last.state.pc last.state.cycles (sym s ∙ ap (λ (o : Outputs). o.status) e))
exited asked t last OutputFull made e s = absurd (not_stopped 3 0 last.state.pc last.state.cycles (sym s ∙ ap (λ (o : Outputs). o.status) e))

none_made : (asked : MakeRequest) (contents : List (List ℕ)) (made : Outputs) → Makes (Make asked) contents made → MakesNumbered asked made
none_made asked [] made m = m
none_made asked (b ∷ bs) made m = absurd m

made_checks : (asked : MakeRequest) → AreApart (check_of_made asked) → asked.number ≤ 100 → (files : Option Files) (new : StoreState) (made : Outputs) → MakesIn (Named (Make asked)) files made → made.status ≡ status.Done → new.files ≡ all_put made.files files → IsSome files → CanEnd (Some (Named (Check (check_of_made asked)))) new status.Done
made_checks asked apart few None new made m s e some = absurd (false≢true some)
made_checks asked apart few (Some fs) new made m s e some =
    let makes = none_made asked m.0 made m.2 in
    let put = e ∙ ap (λ (files : List (List ℕ × List ℕ)). all_put files (Some fs)) (exited asked makes.texts makes.last makes.ending made makes.made_is s) in
    checks (check_of_made asked) apart (put_file asked.source (numbered_text asked.number) fs) makes.texts false 0 (numbered_text asked.number) default_table (omega (arith, short asked.number few)) tt refl makes.compiles new put

-- what was written, by words whose files have different names
checkable : (c : Command) (words : List Text) (old new : StoreState) (out out' : SinkState) → asked_by words ≡ Some (Named c) → IsInRange (Some (Named c)) → IsDone (Some (Named c)) old new out out' → IsCheckable (Some (Named c)) old new
checkable (Compile asked) words old new out out' e r h = λ some. compiled_checks asked (compiled_apart asked (names_apart words (Compile asked) e)) old.files new h.0 h.1.makes h.1.files some
checkable (Make asked) words old new out out' e r h = λ some. made_checks asked (made_apart asked (names_apart words (Make asked) e)) r.1 old.files new h.0 h.1.makes h.1.status_is h.1.files some
checkable (Check asked) words old new out out' e r h = tt
checkable (Run asked) words old new out out' e r h = tt
checkable (Eval asked) words old new out out' e r h = tt
checkable (Report asked) words old new out out' e r h = tt

-- what words ask, by an equation
pub checkable_of : (asked : Option Asked) (words : List Text) (old new : StoreState) (out out' : SinkState) (result : Status) → asked ≡ asked_by words → EndsWith asked old new out out' result → (result ≡ status.Memory) ⊎ IsInRange asked → result ≡ status.Done → IsCheckable asked old new
checkable_of asked words old new out out' result e ends range done = of asked e (⊎_elim (λ m. absurd (not_memory (sym done ∙ m))) (λ r. r) range) (done_of asked old new out out' result ends done)
  where
    not_memory : status.Done ≡ status.Memory → ⊥
    not_memory m = cc

    of : (o : Option Asked) → o ≡ asked_by words → IsInRange o → IsDone o old new out out' → IsCheckable o old new
    of None e r h = tt
    of (Some (Named c)) e r h = checkable c words old new out out' (sym e) r h
    of (Some (Respond q)) e r h = tt
