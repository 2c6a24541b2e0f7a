-- Calls as statements.
use Rattle.std.proofs.Common.{◌≡◌, ℕ, ◌+◌, List, ◌++◌, length, Option, Some, None, refl}
use Rattle.high_ir.specs.declared.object.Base.{Base}
use Rattle.high_ir.specs.Meaning as high
use Rattle.high_ir.specs.Meaning.{Goes}
use Rattle.high_ir.specs.Tree.{Expr, Call}
use Rattle.high_ir.specs.Whole.{AreWordy}
use Rattle.low_ir.specs.Code.{Low}
use Rattle.low_ir.specs.Code as code
use Rattle.lower_definition.specs.Operators.{only}
use Rattle.lower_definition.specs.Values.{scaled_in_all, share_code, values_passed}
use Rattle.lower_definition.specs.Calls.{place_in}
use Rattle.lower_definition.specs.Statements.{before, call_code, into_there, shares_of}
use Rattle.lower_program.specs.Claims.{whole}
use Rattle.lower_program.specs.Following.{Place, IsPlace, Activation, Serves}
use Rattle.lower_program.proofs.Filled.{Filled, filled_behind}
use Rattle.lower_program.proofs.Calls.{call_passes, call_state}
use Rattle.lower_program.proofs.Ends.{Ends}
use Rattle.lower_program.proofs.Statements.{Followed, code_follows}

module _ (q : Low) (at : Place) (is_place : IsPlace q at) (act : Activation) (sem : high.Calls) where
  call_filled : (f : ℕ) (es : List Expr) (bs : List Base) (into : Option ℕ) (t : ℕ) → Filled (call_code at.scope f es bs into t).code
  call_filled f es bs into t =
      let shares = shares_of at.scope (scaled_in_all at.scope es) t in
      let p = values_passed at.scope shares es bs (t + length shares) in
      let own = only (code.Call (into_there at.scope into) (place_in at.scope.order f) p.arguments tt) in
      filled_behind (share_code shares) (p.code ++ own) (filled_behind p.code own tt)

  -- a call of a function that serves is followed
  pub call_follows : (f : ℕ) (es : List Expr) (bs : List Base) (into : Option ℕ) → Serves q at sem f bs → AreWordy es → Followed q at is_place act sem (Call f es bs into)
  call_follows f es bs into serves words exits n t k st so_far r around fits here = by_values (high.values_of act.passed st.variables st.world es) refl
    where
      by_taken : (vs ns : List ℕ) (given : high.Given) (o : Option high.Variables) → high.values_of act.passed st.variables st.world es ≡ Some vs → high.objects_of act.passed bs ≡ Some ns → sem f vs ns st.world st.trace ≡ Some given → high.taken st.variables into given.value ≡ o → Ends q at is_place act (whole n (before n k (call_code at.scope f es bs into t))) so_far r k exits (high.with_value o (λ vars. Goes (call_state q at is_place act vars given)))
      by_taken vs ns given None is_vs is_ns is_given taken = tt
      by_taken vs ns given (Some vars2) is_vs is_ns is_given taken =
          code_follows q at is_place act sem (call_code at.scope f es bs into t) n k st (call_state q at is_place act vars2 given) so_far r (call_filled f es bs into t)
          (λ enough. call_passes q at is_place act sem f es bs into t vs ns given vars2 st serves words around.free is_vs is_ns is_given taken enough) fits here

      by_given : (vs ns : List ℕ) (o : Option high.Given) → high.values_of act.passed st.variables st.world es ≡ Some vs → high.objects_of act.passed bs ≡ Some ns → sem f vs ns st.world st.trace ≡ o → Ends q at is_place act (whole n (before n k (call_code at.scope f es bs into t))) so_far r k exits (high.after_call st.variables into o)
      by_given vs ns None is_vs is_ns is_given = tt
      by_given vs ns (Some given) is_vs is_ns is_given = by_taken vs ns given (high.taken st.variables into given.value) is_vs is_ns is_given refl

      by_objects : (vs : List ℕ) (o : Option (List ℕ)) → high.values_of act.passed st.variables st.world es ≡ Some vs → high.objects_of act.passed bs ≡ o → Ends q at is_place act (whole n (before n k (call_code at.scope f es bs into t))) so_far r k exits (high.with_value o (λ ns. high.after_call st.variables into (sem f vs ns st.world st.trace)))
      by_objects vs None is_vs is_ns = tt
      by_objects vs (Some ns) is_vs is_ns = by_given vs ns (sem f vs ns st.world st.trace) is_vs is_ns refl

      by_values : (o : Option (List ℕ)) → high.values_of act.passed st.variables st.world es ≡ o → Ends q at is_place act (whole n (before n k (call_code at.scope f es bs into t))) so_far r k exits (high.with_value o (λ vs. high.with_value (high.objects_of act.passed bs) (λ ns. high.after_call st.variables into (sem f vs ns st.world st.trace))))
      by_values None is_vs = tt
      by_values (Some vs) is_vs = by_objects vs (high.objects_of act.passed bs) is_vs refl
