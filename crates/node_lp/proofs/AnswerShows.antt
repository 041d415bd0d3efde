-- What an answer shows, by what is found and by the walk of its cut.
use Rattle.std.proofs.Common.{◌≡◌, true, false, List, Some, None, Ok, Err, refl, sym, subst, ◌∙◌}
use Rattle.rationals.specs.Rational.{ℚ, zero_ℚ, ◌<ℚ◌}
use Rattle.rationals.specs.Sparse.{Entry}
use Rattle.cut_defs.specs.Stored.{Source, Stored, StoredUses, uses_of, constant_of, form_of, IsMadeFrom}
use Rattle.cut_defs.specs.declared.kinds.CutKind.{CutKind}
use Rattle.cut_defs.specs.declared.kinds.CutKind.TheVariants as cut_kind
use Rattle.cut_proof.specs.Conditions.{UsesChildren, MayBeMade}
use Rattle.std.specs.Prelude.{IfOk, Result}
use Rattle.std.proofs.lemmas.Result.{MatchResult-weaker}
use Rattle.frac128.specs.declared.memory.Memory.{Memory}
use Rattle.cut_proof.specs.Answers.{Makes}
use Rattle.cut_proof.specs.declared.fault.CutFault.{CutFault}
use Rattle.cut_proof.specs.declared.fault.CutFault.TheVariants as fault
use Rattle.node_lp.specs.declared.solved.Solved.{Solved}
use Rattle.node_lp.specs.Places.{OfRows}
use Rattle.node_lp.specs.ToldFaults.{StoppedInCut}
use Rattle.node_lp.proofs.GoodCuts.{always_made}
use Rattle.node_lp.proofs.StoredShows.{stored_records_hold}
use Rattle.node_lp.specs.declared.task.Task.{Task}
use Rattle.node_lp.specs.declared.found.Found.TheVariants as found
use Rattle.node_lp.specs.Weighed.{Weighed}
use Rattle.node_lp.specs.Problem.{IsProblem, is_priced, problem_of}
use Rattle.node_lp.specs.Records.{IsRecord, IsPointOf, ShowsNoPoint}
use Rattle.node_lp.specs.Stored.{IsStoredIn, stored_uses}
use Rattle.node_lp.specs.Shows.{IsSound}
use Rattle.node_lp.specs.Told.{stored_cuts, record_of, cut_made}
use Rattle.node_lp.specs.Answers.{IsCutOf, PointAnswer, RayAnswer, IsAnswer}
use Rattle.node_lp.proofs.CutAnswers.{cuts_same, made_parts, value_is, may_be_made}

module _ (t : Task) where
  abbrev cuts : List Stored
  cuts = stored_cuts (is_priced t.kind) t.children.items

  stored_in : IsStoredIn t.datum (problem_of t) (stored_cuts (is_priced t.kind) t.children.items)
  stored_in = record { rows = refl; cost = refl; bounds = refl; shares = refl; same = cuts_same (is_priced t.kind) 0 t.children.items }

  module _ (kind : CutKind) (m : Weighed) (cut : Stored)
      (may : MayBeMade t.datum (record_of t.datum kind m) (stored_uses m.weights (stored_cuts (is_priced t.kind) t.children.items)))
      (walk : cut_made t.datum kind (stored_cuts (is_priced t.kind) t.children.items) m ≡ Ok (Some cut))
      (from : IsMadeFrom t.datum (record_of t.datum kind m) (stored_uses m.weights (stored_cuts (is_priced t.kind) t.children.items)) (constant_of cut) (form_of cut)) where
    cut_is : IsCutOf t kind m cut
    cut_is =
        let parts = made_parts t.datum (record_of t.datum kind m) (stored_uses m.weights cuts) cut walk in
        record {
          source = parts.0;
          uses = parts.1;
          children = subst (λ (us : StoredUses). UsesChildren t.datum us) (sym parts.1) may.children;
          made = subst (λ (s : Source). IsMadeFrom t.datum s (uses_of cut) (constant_of cut) (form_of cut)) (sym parts.0)
              (subst (λ (us : StoredUses). IsMadeFrom t.datum (record_of t.datum kind m) us (constant_of cut) (form_of cut)) (sym parts.1) from);
        }

  pub point_with_cut : (x : List Entry) (v : ℚ) (m : Weighed) (cut : Stored) → IsProblem (problem_of t) → IsSound (problem_of t) (found.Point x v m) → is_priced t.kind ≡ true
      → cut_made t.datum cut_kind.Bound (stored_cuts (is_priced t.kind) t.children.items) m ≡ Ok (Some cut)
      → (MayBeMade t.datum (record_of t.datum cut_kind.Bound m) (stored_uses m.weights (stored_cuts (is_priced t.kind) t.children.items))
      → IsMadeFrom t.datum (record_of t.datum cut_kind.Bound m) (stored_uses m.weights (stored_cuts (is_priced t.kind) t.children.items)) (constant_of cut) (form_of cut))
      → PointAnswer t x v (Some cut)
  point_with_cut x v m cut h s priced walk make =
      let point : IsPointOf (problem_of t) x v m.rows m.weights = s.shows in
      let may : MayBeMade t.datum (record_of t.datum cut_kind.Bound m) (stored_uses m.weights cuts) =
      may_be_made t.datum (problem_of t) cuts cut_kind.Bound m stored_in h.cuts (point.good priced) s.places.1 in
      record {
        m = m;
        point = point;
        columns = s.places.0;
        has_cut = record {
          cut_of = cut_is cut_kind.Bound m cut may walk (make may);
          value_is = value_is t.datum (record_of t.datum cut_kind.Bound m) (problem_of t) cuts m.weights stored_in cut_kind.Bound refl (constant_of cut) (form_of cut) (make may) h.trial ∙ point.equal priced;
        };
      }

  pub point_alone : (x : List Entry) (v : ℚ) (m : Weighed) → IsSound (problem_of t) (found.Point x v m) → is_priced t.kind ≡ false → PointAnswer t x v None
  point_alone x v m s priced = record { m = m; point = s.shows; columns = s.places.0; has_cut = priced }

  pub no_point : (m : Weighed) (cut : Stored) → IsProblem (problem_of t) → IsSound (problem_of t) (found.NoPoint m)
      → cut_made t.datum cut_kind.Ray (stored_cuts (is_priced t.kind) t.children.items) m ≡ Ok (Some cut)
      → (MayBeMade t.datum (record_of t.datum cut_kind.Ray m) (stored_uses m.weights (stored_cuts (is_priced t.kind) t.children.items))
      → IsMadeFrom t.datum (record_of t.datum cut_kind.Ray m) (stored_uses m.weights (stored_cuts (is_priced t.kind) t.children.items)) (constant_of cut) (form_of cut))
      → RayAnswer t cut
  no_point m cut h s walk make =
      let none : ShowsNoPoint (problem_of t) m.rows m.weights = s.shows in
      let may : MayBeMade t.datum (record_of t.datum cut_kind.Ray m) (stored_uses m.weights cuts) =
      may_be_made t.datum (problem_of t) cuts cut_kind.Ray m stored_in h.cuts none.good s.places in
      record {
        m = m;
        cut_of = cut_is cut_kind.Ray m cut may walk (make may);
        above = subst (λ (q : ℚ). zero_ℚ <ℚ q) (sym (value_is t.datum (record_of t.datum cut_kind.Ray m) (problem_of t) cuts m.weights stored_in cut_kind.Ray refl (constant_of cut) (form_of cut) (make may) h.trial)) none.above;
      }

  -- where the making of the cut ends, an operation passes or memory is wanting
  stopped : (kind : CutKind) (m : Weighed) → IsProblem (problem_of t) → IsRecord (problem_of t) kind m.rows m.weights → OfRows t.datum.rows m.rows → (fault : CutFault)
      → Makes (cut_made t.datum kind (stored_cuts (is_priced t.kind) t.children.items) m) (Err fault) → (r : Result Solved Memory) → IfOk r (StoppedInCut fault) → IfOk r (IsAnswer t)
  stopped kind m h good rows fault.NotGood walk r k =
      let may : MayBeMade t.datum (record_of t.datum kind m) (stored_uses m.weights cuts) = may_be_made t.datum (problem_of t) cuts kind m stored_in h.cuts good rows in
      absurd (always_made t.datum (record_of t.datum kind m) (stored_uses m.weights cuts) may.on_rows may.weights
      (stored_records_hold t.datum (record_of t.datum kind m) (problem_of t) kind cuts m.weights refl stored_in good) walk)
  stopped kind m h good rows (fault.Passed o) walk r k = MatchResult-weaker r k (λ all e. subst (IsAnswer t) (sym e) tt) (λ f e. tt)
  stopped kind m h good rows fault.Memory walk (Ok all) k = absurd k
  stopped kind m h good rows fault.Memory walk (Err f) k = tt

  pub point_stopped : (x : List Entry) (v : ℚ) (m : Weighed) → IsProblem (problem_of t) → IsSound (problem_of t) (found.Point x v m) → is_priced t.kind ≡ true → (fault : CutFault)
      → Makes (cut_made t.datum cut_kind.Bound (stored_cuts (is_priced t.kind) t.children.items) m) (Err fault) → (r : Result Solved Memory) → IfOk r (StoppedInCut fault) → IfOk r (IsAnswer t)
  point_stopped x v m h s priced fault walk r k =
      let point : IsPointOf (problem_of t) x v m.rows m.weights = s.shows in
      stopped cut_kind.Bound m h (point.good priced) s.places.1 fault walk r k

  pub no_point_stopped : (m : Weighed) → IsProblem (problem_of t) → IsSound (problem_of t) (found.NoPoint m) → (fault : CutFault)
      → Makes (cut_made t.datum cut_kind.Ray (stored_cuts (is_priced t.kind) t.children.items) m) (Err fault) → (r : Result Solved Memory) → IfOk r (StoppedInCut fault) → IfOk r (IsAnswer t)
  no_point_stopped m h s fault walk r k =
      let none : ShowsNoPoint (problem_of t) m.rows m.weights = s.shows in
      stopped cut_kind.Ray m h none.good s.places fault walk r k
