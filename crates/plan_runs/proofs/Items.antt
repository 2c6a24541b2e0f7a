-- The items of a block, one after another.
use Rattle.std.proofs.Common.{ℕ, ◌≤◌, refl}
use Rattle.meaning_semantics.specs.State as source
use Rattle.meaning_semantics.specs.Statements as statements
use Rattle.meaning_semantics.specs.Statements.{run, run_items, entered}
use Rattle.types_tree.specs.Tree.{Declaration, Block, Items, NoItem, WithDeclaration, WithStatement, WithRestriction, WithLabel}
use Rattle.high_ir.specs.declared.object.Kind.{Kind}
use Rattle.high_ir.specs.Meaning.{State}
use Rattle.high_code.specs.Code.{AllWithin}
use Rattle.high_code.proofs.Joined.{AllWithin-joined}
use Rattle.plan_definition.specs.Statements.{Exits, declared, planned, all_planned}
use Rattle.plan_runs.specs.Claims.{Setting, IsSetting, MeetsIn}
use Rattle.plan_runs.specs.StatementFits.{FitItems, block_declares, with_live}
use Rattle.plan_runs.specs.Flows.{Rest, source_in, plan_in, in_scope, Does, Follows, FollowsAll}
use Rattle.plan_runs.proofs.Entering.{block_entered, block_own, does_out, scope_ok}
use Rattle.plan_runs.proofs.Sequences.{does_behind, joined_does, nothing_does}

module _ (s : Setting) (ok : IsSetting s) (result : Kind) (rest : Rest) where
  -- a declaration does what it declares; the loops before it are numbered less by `shift`
  pub record Declares (shift : ℕ) (declaration : Declaration) : Type 0 where
    pub by : (k : ℕ) (exits : Exits) → s.function.variables ≤ k → (st : source.State) (hs : State) → MeetsIn s st hs → AllWithin s.room (declared (plan_in s rest) declaration shift k) →
        Does s result exits (declared (plan_in s rest) declaration shift k) k st hs (statements.declared (source_in s rest) s.call declaration st)

  -- each item does what it is
  abbrev pub Each : Items → Type 0
  Each NoItem = Unit {0}
  Each (WithDeclaration declaration items) = Declares 0 declaration × Each items
  Each (WithStatement statement items) = Follows s result rest statement × Each items
  Each (WithRestriction pragma items) = Each items
  Each (WithLabel label items) = Each items

  pub all_follow : (items : Items) → Each items → FollowsAll s result rest items
  all_follow NoItem each = record { by = λ k exits le st hs m within. nothing_does s ok result exits k st hs m }
  all_follow (WithDeclaration declaration items) each =
      let more = all_follow items each.1 in
      record {
        by = λ k exits le st hs m within.
            let parts = AllWithin-joined s.room (declared (plan_in s rest) declaration 0 k) (all_planned (plan_in s rest) items k exits) within in
            joined_does s ok result exits k (declared (plan_in s rest) declaration 0 k) (all_planned (plan_in s rest) items k exits) st hs (statements.declared (source_in s rest) s.call declaration st) (run_items (source_in s rest) s.call items)
            (each.0.by k exits le st hs m parts.0) (λ st1 h r. more.by k exits le st1 h r.meets parts.1);
      }
  all_follow (WithStatement statement items) each =
      let more = all_follow items each.1 in
      record {
        by = λ k exits le st hs m within.
            let parts = AllWithin-joined s.room (planned (plan_in s rest) statement k exits) (all_planned (plan_in s rest) items k exits) within in
            joined_does s ok result exits k (planned (plan_in s rest) statement k exits) (all_planned (plan_in s rest) items k exits) st hs (run (source_in s rest) s.call statement st) (run_items (source_in s rest) s.call items)
            (each.0.by k exits le st hs m parts.0) (λ st1 h r. more.by k exits le st1 h r.meets parts.1);
      }
  all_follow (WithRestriction pragma items) each = let more = all_follow items each in record { by = λ k exits le st hs m within. more.by k exits le st hs m within }
  all_follow (WithLabel label items) each = let more = all_follow items each in record { by = λ k exits le st hs m within. more.by k exits le st hs m within }

  -- a block, whose objects are unwritten first
  pub of_Block : (items : Items) (at : ℕ) → FitItems s.layout s.signatures result rest.bounds (with_live s.function (block_declares items)) items → FollowsAll (in_scope s (block_declares items)) result rest items → Follows s result rest (Block items at)
  of_Block items at fit all =
      let more = block_declares items in
      let inner = scope_ok s ok more (block_own s.layout s.signatures result rest.bounds s.function more items fit) in
      record {
        by = λ k exits le st hs m within.
            let r = block_entered s ok result rest.bounds k hs items st fit m in
            let code = all_planned (plan_in s rest) items k exits in
            let o = run_items (source_in s rest) s.call items (entered items st) in
            does_out s more result exits k code st hs o (does_behind (in_scope s more) inner result exits k code code st hs (entered items st) hs r refl o (all.by k exits le (entered items st) hs r.meets within));
      }
