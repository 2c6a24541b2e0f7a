-- Names, operators and conversions: their code comes to their values.
use Rattle.std.proofs.Common.{◌≡◌, ℕ, zero, suc, ◌+◌, ◌≤◌, Bool, not, Some, refl, sym, ap, ◌∙◌, arith}
use Rattle.std.specs.Prelude.{◌&&◌}
use Rattle.std.proofs.lemmas.Bool.{eq-eqb, ne_eqb}
use Rattle.meaning_semantics.specs.State as source
use Rattle.meaning_semantics.specs.declared.outcome.Found.{Found}
use Rattle.meaning_semantics.specs.declared.outcome.Operands.{Operands}
use Rattle.types_value.specs.Kinds as c
use Rattle.types_value.specs.Operators.{computed, signed_by, word_of}
use Rattle.types_value.specs.declared.kind.Kind.{Kind as CType}
use Rattle.types_value.specs.declared.operator.Operator.{Operator}
use Rattle.types_value.specs.declared.operator.Sign.{Sign}
use Rattle.types_value.specs.declared.operator.Sign.TheVariants as signs
use Rattle.wcc_base.specs.Words.{equal_word, truth_word}
use Rattle.high_ir.specs.declared.object.Kind.{Kind}
use Rattle.high_ir.specs.declared.object.Kind.TheVariants.{Word}
use Rattle.high_ir.specs.Tree.{Constant, Statements}
use Rattle.high_ir.specs.Meaning.{State, Outcome, Goes, Leaves, choose, then_do, run_all}
use Rattle.high_ir.specs.Words.{converted}
use Rattle.high_code.specs.Code.{is_empty, AllWithin}
use Rattle.high_code.proofs.Joined.{run_all-joined}
use Rattle.plan_definition.specs.declared.purpose.Purpose.{Purpose}
use Rattle.plan_definition.specs.declared.purpose.Purpose.TheVariants.{Value, Effect, Unless, When}
use Rattle.plan_definition.specs.Homes.{loaded}
use Rattle.plan_definition.specs.Operators.{convert, kind_of, signed}
use Rattle.plan_definition.specs.Values.{Valued, Aimed, known, changed_by, finished, is_changed, kept, operated_on, for_operand, signed_for, plain, both}
use Rattle.plan_runs.specs.Claims.{Setting, IsSetting, MeetsIn, Went, HasValue, Ends, Gives, Finds}
use Rattle.plan_runs.proofs.Steps.{read_cases}
use Rattle.plan_runs.proofs.Operators.{converted-kind_of, converted-converted, converted-Word, computed_cases, sign_word, signed_cases, value_of-convert, value_of-signed, value_of-operated}
use Rattle.plan_runs.proofs.Holding.{reached_then, went_nothing, within_held, held_went, kept_stable}
use Rattle.plan_runs.proofs.Finishing.{went, finished_ends, value_gives}
use Rattle.plan_runs.proofs.Places.{loaded_value, points_range}

-- a word that was converted is of the kind
pub converted_range : (to : CType) (v : ℕ) → converted (kind_of to) (c.converted to v) ≡ c.converted to v
converted_range to v = ap (converted (kind_of to)) (sym (converted-kind_of to v)) ∙ converted-converted (kind_of to) v ∙ converted-kind_of to v

module _ (s : Setting) (ok : IsSetting s) (k : ℕ) (st : source.State) (hs : State) where
  pub known_gives : (purpose : Purpose) (w : ℕ) → MeetsIn s st hs → Ends s purpose (finished purpose (known w)) k st hs Word w st
  known_gives purpose w m = value_gives s k st hs Word purpose (known w) w st (went_nothing s ok k st hs (HasValue s (Constant w) w) m refl) (converted-Word w)

  -- what a target holds
  pub read_gives : (purpose : Purpose) (p : Aimed) (kind : Kind) (constant : Bool) (o : source.Outcome Found) → Finds s p k st hs kind constant o → Gives s purpose (finished purpose (record { code = p.code; value = loaded p.target })) k st hs kind (source.then_do o source.read)
  read_gives purpose p kind constant (source.Stopped stop) finds = tt
  read_gives purpose p kind constant (source.Fine found st1) finds =
      read_cases (Gives s purpose (finished purpose (record { code = p.code; value = loaded p.target })) k st hs kind) found st1 (λ stop. tt)
      (λ w holds.
      value_gives s k st hs kind purpose (record { code = p.code; value = loaded p.target }) w st1
      (record { behind = finds.behind; runs = finds.runs; reached = finds.reached; has = loaded_value s ok p.target kind constant found finds.behind st1 w finds.reached.meets finds.has holds })
      (points_range s ok p.target kind constant found finds.behind st1 w finds.reached.meets finds.has holds))

  -- a conversion
  pub convert_gives : (purpose : Purpose) (to : CType) (p : Valued) (range : Kind) (o : source.Outcome ℕ) → Gives s (plain purpose) p k st hs range o → Gives s purpose (finished purpose (changed_by (convert to) p)) k st hs (kind_of to) (source.then_do o (λ x st1. source.Fine (c.converted to x) st1))
  convert_gives purpose to p range (source.Stopped stop) g = tt
  convert_gives purpose to p range (source.Fine x st1) g = finished_ends s k st hs (kind_of to) purpose (changed_by (convert to) p) (c.converted to x) st1 (of purpose g)
    where
      of : (purpose : Purpose) → Ends s (plain purpose) p k st hs range x st1 → Ends s (plain purpose) (changed_by (convert to) p) k st hs (kind_of to) (c.converted to x) st1
      of Value e = record { behind = e.behind; runs = e.runs; reached = e.reached; value = value_of-convert s.passed e.behind.variables e.behind.world to p.value x e.value; range_is = converted_range to x }
      of Effect e = record { behind = e.behind; runs = e.runs; reached = e.reached; value = tt; range_is = converted_range to x }
      of (Unless depth) e = record { behind = e.behind; runs = e.runs; reached = e.reached; value = value_of-convert s.passed e.behind.variables e.behind.world to p.value x e.value; range_is = converted_range to x }
      of (When depth) e = record { behind = e.behind; runs = e.runs; reached = e.reached; value = value_of-convert s.passed e.behind.variables e.behind.world to p.value x e.value; range_is = converted_range to x }

  -- an operator before a value
  sign_gives : (purpose : Purpose) (operator : Sign) (kind : CType) (at : ℕ) (p : Valued) (range : Kind) (o : source.Outcome ℕ) → Gives s Value p k st hs range o → Gives s purpose (finished purpose (changed_by (signed operator) p)) k st hs Word (source.then_do o (λ x st1. source.settled (signed_by operator kind x) at st1))
  sign_gives purpose operator kind at p range (source.Stopped stop) g = tt
  sign_gives purpose operator kind at p range (source.Fine x st1) g =
      signed_cases (λ r. Gives s purpose (finished purpose (changed_by (signed operator) p)) k st hs Word (source.settled r at st1)) operator kind x (λ cause. tt)
      (value_gives s k st hs Word purpose (changed_by (signed operator) p) (sign_word operator x) st1
      (record { behind = g.behind; runs = g.runs; reached = g.reached; has = value_of-signed s.passed g.behind.variables g.behind.world operator p.value x g.value })
      (converted-Word (sign_word operator x)))

  -- a jump where the value is 0 is one where its negation is not
  negated : (x : ℕ) (a b : Outcome) → choose x a b ≡ choose (equal_word x 0) b a
  negated zero a b = sym (ap (λ t. choose (truth_word t) b a) (eq-eqb 0 0 refl))
  negated (suc n) a b = sym (ap (λ t. choose (truth_word t) b a) (ne_eqb (suc n) 0 (λ e. absurd (omega (arith, e)))))

  not_unless : (depth : ℕ) (kind : CType) (at : ℕ) (p : Valued) (range : Kind) (o : source.Outcome ℕ) → Gives s (When depth) p k st hs range o → Gives s (Unless depth) p k st hs Word (source.then_do o (λ x st1. source.settled (signed_by signs.Not kind x) at st1))
  unfolding signed_by
  not_unless depth kind at p range (source.Stopped stop) g = tt
  not_unless depth kind at p range (source.Fine x st1) g =
      record { behind = g.behind; runs = g.runs ∙ negated x (Leaves depth g.behind) (Goes g.behind); reached = g.reached; value = tt; range_is = converted-Word (equal_word x 0) }

  not_when : (depth : ℕ) (kind : CType) (at : ℕ) (p : Valued) (range : Kind) (o : source.Outcome ℕ) → Gives s (Unless depth) p k st hs range o → Gives s (When depth) p k st hs Word (source.then_do o (λ x st1. source.settled (signed_by signs.Not kind x) at st1))
  unfolding signed_by
  not_when depth kind at p range (source.Stopped stop) g = tt
  not_when depth kind at p range (source.Fine x st1) g =
      record { behind = g.behind; runs = g.runs ∙ negated x (Goes g.behind) (Leaves depth g.behind); reached = g.reached; value = tt; range_is = converted-Word (equal_word x 0) }

  pub signed_gives : (purpose : Purpose) (operator : Sign) (kind : CType) (at : ℕ) (p : Valued) (range : Kind) (o : source.Outcome ℕ) → Gives s (for_operand operator purpose) p k st hs range o → Gives s purpose (signed_for operator purpose p) k st hs Word (source.then_do o (λ x st1. source.settled (signed_by operator kind x) at st1))
  signed_gives Value signs.Not kind at p range o g = sign_gives Value signs.Not kind at p range o g
  signed_gives Effect signs.Not kind at p range o g = sign_gives Effect signs.Not kind at p range o g
  signed_gives (Unless depth) signs.Not kind at p range o g = not_unless depth kind at p range o g
  signed_gives (When depth) signs.Not kind at p range o g = not_when depth kind at p range o g
  signed_gives purpose signs.Negate kind at p range o g = sign_gives purpose signs.Negate kind at p range o g
  signed_gives purpose signs.Plus kind at p range o g = sign_gives purpose signs.Plus kind at p range o g
  signed_gives purpose signs.Complement kind at p range o g = sign_gives purpose signs.Complement kind at p range o g

  -- a value, and another behind it
  pub kept_went : (p right : Valued) (range range_right : Kind) (x y : ℕ) (st1 st2 : source.State) → s.function.variables ≤ k → AllWithin s.room (kept k p right.code).code → Ends s Value p k st hs range x st1 →
      ((h : State) → MeetsIn s st1 h → Ends s Value right (k + 1) st1 h range_right y st2) → Went s (kept k p right.code).code k st hs st2 (λ h. HasValue s (kept k p right.code).value x h × HasValue s right.value y h)
  kept_went p right range range_right x y st1 st2 le within left next =
      let needed = not (is_empty right.code) && is_changed p.value right.code in
      let parts = within_held s ok needed k p right.code within in
      held_went s ok needed k p right.code st hs st1 st2 x (HasValue s right.value y) le parts.2 (went s k st hs range p x st1 left)
      (λ h m. went s (k + 1) st1 h range_right right y st2 (next h m)) (kept_stable s ok k p x right.code)

  -- an operator between two values
  pub operate_gives : (purpose : Purpose) (operator : Operator) (kind : CType) (at : ℕ) (left right : Valued) (range range_right : Kind) (o : source.Outcome ℕ) (go : source.State → source.Outcome ℕ) → s.function.variables ≤ k → AllWithin s.room (operated_on operator kind k left right).code → Gives s Value left k st hs range o →
      ((st1 : source.State) (h : State) → MeetsIn s st1 h → Gives s Value right (k + 1) st1 h range_right (go st1)) →
      Gives s purpose (finished purpose (operated_on operator kind k left right)) k st hs Word (source.then_do {A = Operands} (source.then_do o (λ x st1. source.then_do (go st1) (λ y st2. source.Fine (record { left = x; right = y }) st2))) (λ x st1. source.settled (computed operator kind x.left x.right) at st1))
  operate_gives purpose operator kind at left right range range_right (source.Stopped stop) go le within g next = tt
  operate_gives purpose operator kind at left right range range_right (source.Fine x st1) go le within g next = of (go st1) (next st1)
    where
      of : (o : source.Outcome ℕ) → ((h : State) → MeetsIn s st1 h → Gives s Value right (k + 1) st1 h range_right o) → Gives s purpose (finished purpose (operated_on operator kind k left right)) k st hs Word (source.then_do {A = Operands} (source.then_do o (λ y st2. source.Fine (record { left = x; right = y }) st2)) (λ x st1. source.settled (computed operator kind x.left x.right) at st1))
      of (source.Stopped stop) second = tt
      of (source.Fine y st2) second =
          let w = kept_went left right range range_right x y st1 st2 le within g second in
          computed_cases (λ r. Gives s purpose (finished purpose (operated_on operator kind k left right)) k st hs Word (source.settled r at st2)) operator kind x y (λ cause. tt)
          (value_gives s k st hs Word purpose (operated_on operator kind k left right) (word_of operator (c.is_signed kind) x y) st2
          (record { behind = w.behind; runs = w.runs; reached = w.reached; has = value_of-operated s.passed w.behind.variables w.behind.world operator (c.is_signed kind) (kept k left right.code).value right.value x y w.has.0 w.has.1 })
          (converted-Word (word_of operator (c.is_signed kind) x y)))

  -- code, and then code for a purpose
  pub behind_ends : (purpose : Purpose) (code : Statements) (p : Valued) (P : State → Type 0) (range : Kind) (st1 : source.State) (v : ℕ) (st2 : source.State) → Went s code k st hs st1 P → ((h : State) → MeetsIn s st1 h → P h → Ends s purpose p k st1 h range v st2) → Ends s purpose (both code p) k st hs range v st2
  behind_ends purpose code p P range st1 v st2 w next =
      let e = next w.behind w.reached.meets w.has in
      record {
        behind = e.behind;
        runs = run_all-joined Some s.high_call s.passed code p.code hs ∙ ap (λ o. then_do o (run_all Some s.high_call s.passed p.code)) w.runs ∙ e.runs;
        reached = reached_then s ok k st hs st1 w.behind st2 e.behind w.reached e.reached;
        value = e.value;
        range_is = e.range_is;
      }

  pub comma_gives : (purpose : Purpose) (left right : Valued) (range range_right : Kind) (o : source.Outcome ℕ) (go : source.State → source.Outcome ℕ) → Gives s Effect left k st hs range o → ((st1 : source.State) (h : State) → MeetsIn s st1 h → Gives s purpose right k st1 h range_right (go st1)) →
      Gives s purpose (both left.code right) k st hs range_right (source.then_do o (λ x st1. go st1))
  comma_gives purpose left right range range_right (source.Stopped stop) go g next = tt
  comma_gives purpose left right range range_right (source.Fine x st1) go g next = of (go st1) (next st1)
    where
      of : (o : source.Outcome ℕ) → ((h : State) → MeetsIn s st1 h → Gives s purpose right k st1 h range_right o) → Gives s purpose (both left.code right) k st hs range_right o
      of (source.Stopped stop) second = tt
      of (source.Fine y st2) second =
          behind_ends purpose left.code right (λ h. Unit {0}) range_right st1 y st2 (record { behind = g.behind; runs = g.runs; reached = g.reached; has = tt }) (λ h m has. second h m)
