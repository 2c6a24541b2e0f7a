-- The rules that an expression breaks by itself, and the least of them.
use Rattle.std.specs.Prelude.{ℕ, Bool, false, not, ◌&&◌, ◌||◌, if◌then◌else◌, Option}
use Rattle.types_value.specs.Kinds.{is_void}
use Rattle.types_value.specs.declared.kind.Kind.{Kind}
use Rattle.types_value.specs.declared.kind.Kind.TheVariants.{Int}
use Rattle.types_rules.specs.ExpressionRules.{names_no_array, when}
use Rattle.types_rules.specs.Scope.{Around, found, or_else}
use Rattle.types_rules.specs.Types.{is_callable, is_undefined, is_unknown}
use Rattle.types_rules.specs.declared.fault.Rule.{Rule}
use Rattle.types_rules.specs.declared.fault.Rule.TheVariants as rules
use Rattle.types_rules.specs.declared.scope.Binding.{Binding}
use Rattle.types_expression.specs.declared.breaks.Breaks.{Breaks}

abbrev pub broken_rule : Breaks → Option Rule
broken_rule b =
    or_else (when b.words rules.Specifiers)
    (or_else (when b.undeclared rules.Undeclared)
    (or_else (when b.array rules.Array)
    (or_else (when b.call rules.Call)
    (or_else (when b.void rules.Void)
    (or_else (when b.place rules.Assigned)
    (when b.undefined rules.Undefined))))))

-- what a call breaks, by whether its arguments fit and whether one is void
abbrev pub call_breaks : ℕ → (fit void : Bool) → Around → Breaks
call_breaks name fit void a = record {
  words = false;
  undeclared = is_unknown (found name a);
  array = false;
  call = not (is_callable (found name a) && fit);
  void = void;
  place = false;
  undefined = is_undefined (found name a) name a.outline;
}

-- a call that breaks a rule counts as int
abbrev pub call_kind : Breaks → Kind → Kind
call_kind b kind = if b.undeclared || b.call || b.void || b.undefined then Int else kind

-- what an element of what a name stands for breaks, by the type of the index
abbrev pub index_breaks : Option Binding → Kind → Breaks
index_breaks binding kind = record {
  words = false;
  undeclared = is_unknown binding;
  array = names_no_array binding;
  call = false;
  void = is_void kind;
  place = false;
  undefined = false;
}

-- what a step or an assignment breaks, by whether something is void and whether a place is wrong
abbrev pub place_breaks : (void place : Bool) → Breaks
place_breaks void place = record { words = false; undeclared = false; array = false; call = false; void = void; place = place; undefined = false }

-- what a cast breaks, by whether its words are wrong and by the types of both sides
abbrev pub cast_breaks : (wrong : Bool) → (to from : Kind) → Breaks
cast_breaks wrong to from = record { words = wrong; undeclared = false; array = false; call = false; void = not (is_void to) && is_void from; place = false; undefined = false }

-- what an operator that uses values breaks
abbrev pub void_breaks : Bool → Breaks
void_breaks void = record { words = false; undeclared = false; array = false; call = false; void = void; place = false; undefined = false }
