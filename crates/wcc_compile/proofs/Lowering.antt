-- What the passes over the low form keep of a program, and how little they add.
use Rattle.std.proofs.Common.{◌≡◌, ◌≤◌, ◌*◌, ap, arith, ⊎_elim}
use Rattle.high_ir.specs.Tree.{Program}
use Rattle.low_ir.specs.Code.{Low}
use Rattle.low_ir.specs.Formed.{IsLow}
use Rattle.low_ir.specs.Room.{room}
use Rattle.pass_common_subexpressions_law.specs.Reloads.{IsReloaded, MayBeReloaded}
use Rattle.pass_common_subexpressions_law.proofs.Costs.{costs as costs_reloaded}
use Rattle.pass_copy_propagation_law.specs.Copies.{IsCopied, MayBeCopied}
use Rattle.pass_copy_propagation_law.proofs.Costs.{costs as costs_copied}
use Rattle.pass_jump_threading_law.specs.Threads.{IsThreaded, MayBeThreaded}
use Rattle.pass_jump_threading_law.proofs.Costs.{costs as costs_threaded}
use Rattle.pass_jump_threading_law.proofs.Formed.{low_within}
use Rattle.pass_register_promotion_law.specs.Paying.{IsPromoted, MayBePromoted}
use Rattle.lower_law.specs.Programs.{KeepsProgram, SparesRegisters}
use Rattle.lower_pass_laws.proofs.CopiedKeeping.{keeps as keeps_copied}
use Rattle.lower_pass_laws.proofs.PromotedKeeping.{keeps as keeps_promoted}
use Rattle.lower_pass_laws.proofs.ReloadedKeeping.{keeps as keeps_reloaded}
use Rattle.lower_pass_laws.proofs.SteppedKeeping.{keeps as keeps_stepped}
use Rattle.lower_pass_laws.proofs.ThreadedKeeping.{keeps as keeps_threaded}
use Rattle.wcc_compile.specs.Lowered.{IsQuickened, IsShortened}
use Rattle.wcc_compile.proofs.Promoted.{promoted_program_room}

-- how much code takes behind each pass
reloaded_room : (p q : Low) → MayBeReloaded p q → room q ≤ room p
reloaded_room p q may = ⊎_elim (λ (same : q ≡ p). let e : room q ≡ room p = ap room same in omega (arith, e)) (λ (h : IsReloaded p q). (costs_reloaded p q h).room) may

copied_room : (p q : Low) → MayBeCopied p q → room q ≤ room p
copied_room p q may = ⊎_elim (λ (same : q ≡ p). let e : room q ≡ room p = ap room same in omega (arith, e)) (λ (h : IsCopied p q). (costs_copied p q h).room) may

threaded_room : (p q : Low) → IsLow p → MayBeThreaded p q → room q ≤ room p
threaded_room p q low may =
    ⊎_elim (λ (same : q ≡ p). let e : room q ≡ room p = ap room same in omega (arith, e)) (λ (h : IsThreaded p q). (costs_threaded p q h (low_within p low)).room) may

promoted_room : (p q : Low) → MayBePromoted p q → room q ≤ 17 * room p
promoted_room p q may =
    ⊎_elim (λ (same : q ≡ p). let e : room q ≡ room p = ap room same in omega (arith, e)) (λ (h : IsPromoted p q). promoted_program_room p q h) may

module _ (p : Program) (first last : Low) (kept : KeepsProgram p first) where
  module _ (h : IsShortened first last) where
    pub shortened_keeps : KeepsProgram p last
    shortened_keeps =
        let short = keeps_threaded p first h.short kept h.threads in
        let loaded = keeps_reloaded p h.short h.loaded short h.reloads in
        let brief = keeps_copied p h.loaded h.brief loaded h.copies in
        let again = keeps_reloaded p h.brief h.again brief h.reloads_again in
        keeps_copied p h.again last again h.copies_again

    pub shortened_room : room last ≤ room first
    shortened_room =
        let a = threaded_room first h.short kept.is_low h.threads in
        let b = reloaded_room h.short h.loaded h.reloads in
        let c = copied_room h.loaded h.brief h.copies in
        let d = reloaded_room h.brief h.again h.reloads_again in
        let e = copied_room h.again last h.copies_again in
        omega (arith, a, b, c, d, e)

  module _ (h : IsQuickened first last) where
    bare_keeps : KeepsProgram p h.bare
    bare_keeps = keeps_copied p h.quick h.bare (keeps_stepped p first h.quick kept h.steps.steps) h.copies

    pub quickened_keeps : KeepsProgram p last
    quickened_keeps = keeps_threaded p h.bare last bare_keeps h.threads

    pub quickened_room : room last ≤ 2 * room first
    quickened_room =
        let a = h.steps.room in
        let b = copied_room h.quick h.bare h.copies in
        let c = threaded_room h.bare last bare_keeps.is_low h.threads in
        omega (arith, a, b, c)

module _ (p : Program) (plain held brief last : Low) (kept : KeepsProgram p plain) (spares : SparesRegisters p plain) (promotes : MayBePromoted plain held) (shortens : IsShortened held brief) (quickens : IsQuickened brief last) where
  held_keeps : KeepsProgram p held
  held_keeps = keeps_promoted p plain held kept spares promotes

  brief_keeps : KeepsProgram p brief
  brief_keeps = shortened_keeps p held brief held_keeps shortens

  pub code_keeps : KeepsProgram p last
  code_keeps = quickened_keeps p brief last brief_keeps quickens

  pub code_room : room last ≤ 34 * room plain
  code_room =
      let a = promoted_room plain held promotes in
      let b = shortened_room p held brief held_keeps shortens in
      let c = quickened_room p brief last brief_keeps quickens in
      omega (arith, a, b, c)
