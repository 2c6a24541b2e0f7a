-- What the steps of a check say together.
use Rattle.std.proofs.Common.{◌≡◌, ◌↔◌, ℕ, ◌≤◌, List, Option, Some, IsNone, true, sym, subst, All}
use Rattle.std.proofs.lemmas.List.Elements.{All-weaker}
use Rattle.rv_core.specs.Table.{Table}
use Rattle.rv_core.specs.Images.{Image, AreLoadable}
use Rattle.rv_core.specs.Runs.{setup, mrun}
use Rattle.elf_image.specs.Loading.{IsLoadable, image_of}
use Rattle.elf_image.specs.Faults.{StopsAs}
use Rattle.elf_image.specs.declared.fault.ElfFault.{ElfFault}
use Rattle.elf_image.specs.declared.fault.ElfFault.TheVariants as elf
use Rattle.code_flow.specs.CodeFaults.{IsFault}
use Rattle.code_flow.specs.declared.finding.CodeFault.{CodeFault}
use Rattle.code_flow.specs.declared.finding.CodeFault.TheVariants as code
use Rattle.code_flow_system.specs.declared.cert.Cert.{Cert}
use Rattle.code_flow_system.specs.Claims.{Claims}
use Rattle.code_flow_system.specs.Systems.{System, IsSystemOf, IsFirstBad, IsFirstNoCode}
use Rattle.code_flow_system.specs.Certificates.{IsInForm, Accepts}
use Rattle.code_flow_system.specs.KeptRuns.{KeepsClaims, BoundsRuns as BoundsSystem}
use Rattle.dual_check.specs.declared.row.Row.{Row}
use Rattle.dual_check.specs.declared.row.Verdict.{Verdict}
use Rattle.dual_check.specs.declared.row.Verdict.TheVariants.{No}
use Rattle.dual_check.specs.Verdicts.{IsFirst, is_greatest, is_yes}
use Rattle.report_text.specs.Reports.{Report}
use Rattle.report_text.specs.declared.entries.Share.{Share}
use Rattle.report_text.specs.Forms.{IsReport, IsShare}
use Rattle.report_reading.specs.declared.fault.ReportFault.{ReportFault}
use Rattle.report_reading.specs.declared.fault.ReportFault.TheVariants as reading
use Rattle.report_reading.specs.Reading.{StopsAt as StopsReading}
use Rattle.report_shares.specs.Shares.{IsProper, SharesFit}
use Rattle.report_shares.specs.Faults.{share_fault}
use Rattle.report_check.specs.declared.verdict.Cause.TheVariants.{FailedRow, FailedShare}
use Rattle.report_check.specs.declared.verdict.Checked.{Checked}
use Rattle.report_check.specs.Causes.{image_cause, report_cause, code_cause}
use Rattle.report_check.specs.Checks.{IsTextOf, AreRead, HaveSystem, TellsShares, BoundsRuns, IsChecked, StopsAt}

-- a certificate is in the form that its system's claims ask for
pub form_of : (r : Report) (s : System) → s.claims ≡ r.claims → IsReport r → IsInForm s.claims r.cert
form_of r s e h = subst (λ (c : Claims). IsInForm c r.cert) (sym e) h.certificate

pub proper : (ss : List Share) → All IsShare ss → All IsProper ss
proper ss h = All-weaker IsShare IsProper (λ s p. record { filled = p.filled; least = p.least; small = p.small }) ss h

pub stops_at_image : (t : Table) (bytes text : List ℕ) (fault : ElfFault) → StopsAs bytes fault → StopsAt t bytes text (image_cause fault)
stops_at_image t bytes text elf.NotElf h = h
stops_at_image t bytes text elf.WrongMachine h = h
stops_at_image t bytes text (elf.BadSegment index) h = h
stops_at_image t bytes text elf.Memory h = tt

pub stops_at_report : (t : Table) (bytes text : List ℕ) (fault : ReportFault) → IsLoadable bytes → StopsReading text fault → StopsAt t bytes text (report_cause fault)
stops_at_report t bytes text (reading.Line n) l h = (l, h)
stops_at_report t bytes text (reading.Number n) l h = (l, h)
stops_at_report t bytes text reading.Memory l h = tt

-- where there is no system
pub stops_at_code : (t : Table) (image : Image) (bytes text : List ℕ) (r : Report) (fault : CodeFault) → IsFault image r.claims fault → image ≡ image_of bytes → AreRead bytes text r → StopsAt t bytes text (code_cause fault)
stops_at_code t image bytes text r (code.BadClaim index) b e read = record { report = r; read = read; bad = subst (λ (i : Image). IsFirstBad i r.claims index) e b }
stops_at_code t image bytes text r (code.NotCode at) b e read = record { report = r; read = read; no_code = subst (λ (i : Image). IsFirstNoCode i r.claims at) e b }
stops_at_code t image bytes text r code.Memory b e read = tt

-- a share that doesn't fit
pub not_fit : {F : Type 0} (o : Option ℕ) (at : ℕ) → o ≡ Some at → (IsNone o ↔ F) → ¬ F
not_fit o at e fit f = let n : IsNone (Some at) = subst (λ (k : Option ℕ). IsNone k) e (fit.1 f) in cc

pub found_system : (image : Image) (bytes text : List ℕ) (r : Report) (s : System) → IsSystemOf image r.claims s → image ≡ image_of bytes → AreRead bytes text r → HaveSystem bytes text r s
found_system image bytes text r s h e read = record { read = read; system = subst (λ (i : Image). IsSystemOf i r.claims s) e h }

pub are_read : (bytes text : List ℕ) (r : Report) → IsLoadable bytes → IsTextOf text r → AreRead bytes text r
are_read bytes text r l h = record { loadable = l; is_text = h }

pub failed_row : (t : Table) (bytes text : List ℕ) (r : Report) (s : System) (row : Row) → IsFirst t s r.cert row → ¬ Accepts t s r.cert → HaveSystem bytes text r s → StopsAt t bytes text (FailedRow row)
failed_row t bytes text r s row f refused found = record { report = r; system = s; found = found; fails = f; refused = refused }

-- what is no yes isn't accepted
pub not_accepted : (t : Table) (s : System) (c : Cert) (v : Verdict) (row : Row) → v ≡ No row → (is_yes v ≡ true ↔ Accepts t s c) → ¬ Accepts t s c
not_accepted t s c v row e accepted a = let y : is_yes (No row) ≡ true = subst (λ (w : Verdict). is_yes w ≡ true) e (accepted.1 a) in cc

pub failed_share : (t : Table) (bytes text : List ℕ) (r : Report) (s : System) (at : ℕ) → Accepts t s r.cert → TellsShares r → share_fault t s r.cert.flow.parts r.shares ≡ Some at → ¬ SharesFit t s r.cert.flow.parts r.shares → HaveSystem bytes text r s → StopsAt t bytes text (FailedShare at)
failed_share t bytes text r s at a tells f unfit found = record { report = r; system = s; found = found; accepted = a; tells = tells; fails = f; unfit = unfit }

-- the bound of a system is that of the report's claims
bounds : (t : Table) (image : Image) (r : Report) (s : System) (cycles : ℕ) → s.claims ≡ r.claims → cycles ≡ r.cert.cycles → BoundsSystem image t s r.cert → BoundsRuns t image r.claims cycles
bounds t image r s cycles e f b = λ input n k.
    subst (λ m. (mrun (setup image t input) n).state.cycles ≤ m) (sym f) (b input n (subst (λ (c : Claims). KeepsClaims c (mrun (setup image t input) n)) (sym e) k))

checked : (t : Table) (image : Image) (bytes text : List ℕ) (r : Report) (s : System) (c : Checked)
    → Accepts t s r.cert → (TellsShares r → SharesFit t s r.cert.flow.parts r.shares)
    → c.cycles ≡ r.cert.cycles → c.greatest ≡ is_greatest r.cert.mark
    → ((i : Image) → AreLoadable i.segments → IsSystemOf i s.claims s → BoundsSystem i t s r.cert)
    → AreLoadable image.segments → image ≡ image_of bytes → HaveSystem bytes text r s
    → IsChecked t bytes text c
checked t image bytes text r s c a shares cycles greatest within loadable e found =
    let l : AreLoadable (image_of bytes).segments = subst (λ (i : Image). AreLoadable i.segments) e loadable in
    let is : IsSystemOf (image_of bytes) s.claims s = subst (λ (k : Claims). IsSystemOf (image_of bytes) k s) (sym found.system.same_claims) found.system in
    record {
      report = r;
      system = s;
      holds = record { found = found; accepted = a; shares = shares };
      cycles = cycles;
      greatest = greatest;
      runs = bounds t (image_of bytes) r s c.cycles found.system.same_claims cycles (within (image_of bytes) l is);
    }

-- the same of a certificate that is the report's
pub checked_by : (t : Table) (image : Image) (bytes text : List ℕ) (r : Report) (s : System) (cert : Cert) (c : Checked) → cert ≡ r.cert
    → Accepts t s cert × (c.cycles ≡ cert.cycles) × (c.greatest ≡ is_greatest cert.mark)
    → (TellsShares r → SharesFit t s r.cert.flow.parts r.shares)
    → ((i : Image) → AreLoadable i.segments → IsSystemOf i s.claims s → BoundsSystem i t s cert)
    → AreLoadable image.segments → image ≡ image_of bytes → HaveSystem bytes text r s
    → IsChecked t bytes text c
checked_by t image bytes text r s cert c same yes_is shares within loadable e found =
    let y : Accepts t s r.cert × (c.cycles ≡ r.cert.cycles) × (c.greatest ≡ is_greatest r.cert.mark) =
    subst (λ (k : Cert). Accepts t s k × (c.cycles ≡ k.cycles) × (c.greatest ≡ is_greatest k.mark)) same yes_is in
    let w : (i : Image) → AreLoadable i.segments → IsSystemOf i s.claims s → BoundsSystem i t s r.cert =
    subst (λ (k : Cert). (i : Image) → AreLoadable i.segments → IsSystemOf i s.claims s → BoundsSystem i t s k) same within in
    checked t image bytes text r s c y.0 shares y.1 y.2 w loadable e found

pub memory_stops : (text : List ℕ) (fault : ReportFault) → fault ≡ reading.Memory → StopsReading text fault
memory_stops text fault e = subst (StopsReading text) (sym e) tt
