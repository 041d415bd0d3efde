-- What holds of the records of the cuts about the children holds of those of a node's cut, where it holds of the cut's own record; so it is
-- with the cuts that solves give, and with those that runs begin with. The own record's multipliers are a form.
use Rattle.std.proofs.Common.{◌≡◌, ℕ, zero, suc, ◌+◌, ◌<◌, ◌≤◌, Bool, true, false, eqb, List, [], ◌∷◌, ◌++◌, map, Option, Some, None, Result, Ok, Err, IfSome, IfOk, get_or, length, slice_index_or, pos, take, drop, refl, sym, subst, ◌∙◌, arith}
use Rattle.std.specs.Cmp.{signed_Decides}
use Rattle.std.specs.Option.{option_to_list}
use Rattle.std.proofs.lemmas.List.{append-nil}
use Rattle.rationals.specs.Rational.{ℚ, zero_ℚ}
use Rattle.rationals.specs.Totals.{sum_walk}
use Rattle.rationals.specs.Passes.{Operation, div_walk, then_walk}
use Rattle.rationals.specs.Sparse.{Entry}
use Rattle.rationals.specs.Forms.{IsForm, EndsBelow, is_zero, put, put_unless}
use Rattle.rationals.proofs.Lowest.{num_zero}
use Rattle.rationals.proofs.WalkLaws.{pushed_is_form, ended}
use Rattle.rationals.specs.Choices.{pick}
use Rattle.lp_defs.specs.Solution.{Solution, Optimum, Nowhere, Endless, Cut_off, Passes, solution}
use Rattle.lp_defs.specs.Program as lp
use Rattle.lp_defs.specs.Walks.{Walk}
use Rattle.farkas_ray.specs.Sums.{ray_walk}
use Rattle.farkas_ray.specs.Halts.{or_passed}
use Rattle.slack_form.specs.declared.limits.Limit.{Limit}
use Rattle.slack_form.specs.Standard.{turned_back}
use Rattle.interval_form.specs.Spans.{limit_count}
use Rattle.scen_defs.specs.Lists.{Each, places}
use Rattle.scen_defs.specs.Program.{Program, node_at, is_live}
use Rattle.scen_defs.specs.Flat.{zero_row}
use Rattle.scen_defs.specs.Valid.{IsProgram, Lives}
use Rattle.scen_defs.specs.Values.{At, at}
use Rattle.scen_defs.specs.declared.program.NodeRow.{NodeRow}
use Rattle.scen_defs.specs.declared.program.Row.{Row}
use Rattle.scen_defs.specs.declared.report.Kind.{Kind}
use Rattle.scen_defs.specs.declared.report.Kind.TheVariants as run_kind
use Rattle.scen_defs.proofs.SumLaws.{each-map}
use Rattle.scen_tree.specs.Trees.{Tree}
use Rattle.cut_defs.specs.Data.{Datum, RowsRise}
use Rattle.cut_defs.specs.declared.kinds.CutKind.{CutKind}
use Rattle.cut_defs.specs.declared.kinds.CutKind.TheVariants as cut_kind
use Rattle.cut_defs.specs.declared.datum.Share.{Share}
use Rattle.cut_defs.specs.Stored.{Source, Stored, StoredUses, source_of, uses_of}
use Rattle.cut_defs.specs.Stored.Stored.{Stored_of}
use Rattle.cut_defs.specs.Stored.StoredUses.{No_stored, Use_stored}
use Rattle.cut_sums.specs.Walks.{made}
use Rattle.cut_proof.specs.Repairing.{snoc}
use Rattle.cut_proof.proofs.MadeFrom.{made_parts}
use Rattle.edit_defs.specs.Data.{view_in}
use Rattle.edit_defs.proofs.Lists.{each-append, passes-within}
use Rattle.dual_assemble.specs.Ground.{quotients_from, uses_of_children, ground_source, ground_walk}
use Rattle.cut_proof.specs.declared.child.ChildCuts.{ChildCuts}
use Rattle.node_lp.specs.declared.task.Task.{Task}
use Rattle.node_lp.specs.declared.found.Found.{Found}
use Rattle.node_lp.specs.declared.found.Found.TheVariants as found
use Rattle.node_lp.specs.declared.solved.Solved.{Solved}
use Rattle.node_lp.specs.declared.solved.Solved.TheVariants as solved
use Rattle.node_lp.specs.Weighed.{Weighed}
use Rattle.node_lp.specs.Problem.{Problem, IsProblem, is_priced, problem_of}
use Rattle.node_lp.specs.Points.{weights_of}
use Rattle.node_lp.specs.Stored.{stored_uses}
use Rattle.node_lp.specs.Told.{stored_cuts, record_of, cut_made, with_cut, told, told_of}
use Rattle.node_lp.specs.Tested.{IsTestable, HasOrigin, IsToldOf}
use Rattle.node_lp.specs.Tested.HasOrigin.{by_test, by_path}
use Rattle.node_lp.specs.Walk.{node_parts, rows_walk, standard_seen, point_from, cost_walk, multipliers_from, best_walk, nowhere_walk, end_walk, path_walk, solve_walk, found_in}
use Rattle.node_lp.proofs.EndLemmas.{ends_put, BeforeRows, rows_begin, rows_next}
use Rattle.node_data.specs.declared.versions.Version.{Version}
use Rattle.node_data.specs.Counts.{version_of}
use Rattle.node_data.specs.Frames.{frame_of, children_in}
use Rattle.pass_core.specs.Explained.{cut_given}
use Rattle.pass_core.specs.Made.{cuts_there}
use Rattle.pass_core.specs.Turns.{datum_in, IsFirstCut, AreFirstCuts}
use Rattle.pass_core.proofs.Making.{UsesHave, uses_have, children_after}
use Rattle.kept_cut_laws.specs.Kept.{EachRecord, EachUsed}

-- ---- numbers by row
-- one more behind those of earlier columns
put_is_form : (c : ℕ) (v : ℚ) (f : List Entry) → IsForm f → EndsBelow c f → IsForm (f ++ put c v [])
put_is_form c v f h b = go (is_zero v) refl
  where
    go : (z : Bool) → is_zero v ≡ z → IsForm (f ++ put_unless z c v [])
    go true e = subst IsForm (sym (append-nil f)) h
    go false e = pushed_is_form c v f (λ q. let r : false ≡ true = sym e ∙ (signed_Decides v.num (pos 0)).1 (num_zero v q) in absurd (cc)) h b

no_form : IsForm []
no_form = record { rises = tt; nonzero = tt }

next_rows : (r : NodeRow) (rs : List NodeRow) (v : ℚ) (f : List Entry) → BeforeRows f (r ∷ rs) → BeforeRows (f ++ put r.row v []) rs
next_rows r rs v f b = rows_next (suc r.row) (f ++ put r.row v []) rs (ends_put r.row v f (f ++ put r.row v []) refl b.0) b.1

multipliers_forms : (rows : List NodeRow) (duals : List ℚ) (f own : List Entry) → IsForm f → BeforeRows f rows
    → multipliers_from f rows duals ≡ Ok own → IsForm own
multipliers_forms [] duals f own h b e = let q : f ≡ own = cc in subst IsForm q h
multipliers_forms (r ∷ rs) duals f own h b e =
    let a = ended (sum_walk (take (limit_count r.low r.high) duals))
    (λ y. multipliers_from (f ++ put r.row y []) rs (drop (limit_count r.low r.high) duals)) own e in
    multipliers_forms rs (drop (limit_count r.low r.high) duals) (f ++ put r.row a.result []) own (put_is_form r.row a.result f h b.0)
    (next_rows r rs a.result f b) a.next_is

quotients_forms : (total : ℚ) (y : ℕ → ℚ) (rows : List NodeRow) (f own : List Entry) → IsForm f → BeforeRows f rows
    → quotients_from total y f rows ≡ Ok own → IsForm own
quotients_forms total y [] f own h b e = let q : f ≡ own = cc in subst IsForm q h
quotients_forms total y (r ∷ rs) f own h b e =
    let a = ended (div_walk (y r.row) total) (λ q. quotients_from total y (f ++ put r.row q []) rs) own e in
    quotients_forms total y rs (f ++ put r.row a.result []) own (put_is_form r.row a.result f h b.0) (next_rows r rs a.result f b) a.next_is

-- ---- what is told of what is found
then_if : {A B P : Type 0} (Q : B → Type 0) (w : Result A P) (go : A → Result B P) → ((x : A) → w ≡ Ok x → IfOk (go x) Q)
    → IfOk (then_walk w go) Q
then_if Q (Ok x) go f = f x refl
then_if Q (Err o) go f = tt

or_holds : {A : Type 0} (Q : A → Type 0) (w : Walk A) (tell : Operation → A) → IfOk w Q → ((o : Operation) → Q (tell o))
    → Q (or_passed tell w)
or_holds Q (Ok x) tell h k = h
or_holds Q (Err o) tell h k = k o

-- where each cut that is made with a form of multipliers has this, the cut that is told has it
module _ (Has : Stored → Type 0) (p : Problem) (rise : RowsRise 0 p.rows) (d : Datum) (b : Bool) (cuts : List Stored)
    (of_cut : (kind : CutKind) (m : Weighed) → IsForm m.rows → (cut : Stored) → cut_made d kind cuts m ≡ Ok (Some cut) → Has cut) where
  told_with : (tell : Stored → Solved) → ((c : Stored) → Has c → IfSome (cut_given (tell c)) Has) → (w : Result (Option Stored) Operation)
      → ((cut : Stored) → w ≡ Ok (Some cut) → Has cut) → IfSome (cut_given (with_cut tell w)) Has
  told_with tell f (Ok (Some cut)) k = f cut (k cut refl)
  told_with tell f (Ok None) k = tt
  told_with tell f (Err o) k = tt

  point_told : (z : Bool) (x : List Entry) (v : ℚ) (m : Weighed) → IsForm m.rows
      → IfSome (cut_given (pick z (with_cut (λ c. solved.Point x v (Some c)) (cut_made d cut_kind.Bound cuts m)) (solved.Point x v None))) Has
  point_told true x v m f = told_with (λ c. solved.Point x v (Some c)) (λ c k. k) (cut_made d cut_kind.Bound cuts m) (of_cut cut_kind.Bound m f)
  point_told false x v m f = tt

  own_forms : (limits : List Limit) (y : List ℚ) (own : List Entry) → multipliers_from [] p.rows (turned_back limits y) ≡ Ok own → IsForm own
  own_forms limits y own e = multipliers_forms p.rows (turned_back limits y) [] own no_form (rows_begin p.rows rise) e

  best_told : (limits : List Limit) (z : ℕ → ℚ) (y : List ℚ) → IfOk (best_walk p limits z y) (λ f. IfSome (cut_given (told d b cuts f)) Has)
  best_told limits z y =
      then_if (λ f. IfSome (cut_given (told d b cuts f)) Has) (multipliers_from [] p.rows (turned_back limits y)) _ (λ own e.
      then_if (λ f. IfSome (cut_given (told d b cuts f)) Has) (point_from z (node_parts p) [] 0 p.bounds) _ (λ x g.
      then_if (λ f. IfSome (cut_given (told d b cuts f)) Has) (cost_walk p z x) _ (λ v k.
      point_told b x v (record { rows = own; weights = weights_of p (turned_back limits y) }) (own_forms limits y own e))))

  nowhere_told : (limits : List Limit) (standard : lp.Program) (y : List ℚ) → IfOk (nowhere_walk p limits standard y) (λ f. IfSome (cut_given (told d b cuts f)) Has)
  nowhere_told limits standard y =
      then_if (λ f. IfSome (cut_given (told d b cuts f)) Has) (multipliers_from [] p.rows (turned_back limits y)) _ (λ own e.
      then_if (λ f. IfSome (cut_given (told d b cuts f)) Has) (ray_walk standard y) _ (λ shown k.
      let m : Weighed = record { rows = own; weights = weights_of p (turned_back limits y) } in
      told_with solved.NoPoint (λ c k. k) (cut_made d cut_kind.Ray cuts m) (of_cut cut_kind.Ray m (own_forms limits y own e))))

  end_told : (limits : List Limit) (standard : lp.Program) (s : Solution) → IfOk (end_walk p limits standard s) (λ f. IfSome (cut_given (told d b cuts f)) Has)
  end_told limits standard (Optimum x y) = best_told limits x y
  end_told limits standard (Nowhere y) = nowhere_told limits standard y
  end_told limits standard (Endless x d) = tt
  end_told limits standard Cut_off = tt
  end_told limits standard (Passes k o) = tt

  found_told : (pivots : ℕ) → IfSome (cut_given (told d b cuts (found_in p pivots))) Has
  found_told pivots = or_holds (λ f. IfSome (cut_given (told d b cuts f)) Has) (solve_walk p pivots) _
      (then_if (λ f. IfSome (cut_given (told d b cuts f)) Has) (rows_walk p) (path_walk p pivots)
      (λ limits e. end_told limits (standard_seen p limits) (solution (standard_seen p limits) pivots)))
      (λ o. tt)

-- ---- the rows of a node rise
places_rise : {A : Type 0} (test : A → Bool) (k j : ℕ) (xs : List A) (rows : List NodeRow) → k ≤ j
    → map (λ (r : NodeRow). r.row) rows ≡ places test j xs → RowsRise k rows
places_rise test k j xs [] less e = tt
places_rise test k j [] (r ∷ rows) less e = absurd (cc)
places_rise {A} test k j (x ∷ xs) (r ∷ rows) less e =
    go (test x) e (λ l f. places_rise test (suc r.row) (suc j) xs rows l f) (λ f. places_rise test k (suc j) xs (r ∷ rows) (omega (arith, less)) f)
  where
    go : (b : Bool) → r.row ∷ map (λ (r : NodeRow). r.row) rows ≡ elim b [ true ↦ j ∷ places test (suc j) xs | false ↦ places test (suc j) xs ]
        → (suc r.row ≤ suc j → map (λ (r : NodeRow). r.row) rows ≡ places test (suc j) xs → RowsRise (suc r.row) rows)
        → (r.row ∷ map (λ (r : NodeRow). r.row) rows ≡ places test (suc j) xs → RowsRise k (r ∷ rows)) → RowsRise k (r ∷ rows)
    go true e rest other =
        let at : r.row ≡ j = cc in
        let behind : map (λ (r : NodeRow). r.row) rows ≡ places test (suc j) xs = cc in
        (omega (arith, less, at), rest (omega (arith, at)) behind)
    go false e rest other = other e

zero_rows : (k : ℕ) (rows : List NodeRow) → RowsRise k rows → RowsRise k (map zero_row rows)
zero_rows k [] h = tt
zero_rows k (r ∷ rows) h = (h.0, zero_rows (suc r.row) rows h.1)

rows_rise : (kind : Kind) (p : Program) → IsProgram p → (n : ℕ) → Lives p n → RowsRise 0 ((view_in kind p).rows n)
rows_rise kind p i n l = go kind (places_rise (λ (r : Row). eqb r.stage (node_at p.nodes n).stage) 0 0 p.rows (node_at p.nodes n).rows (omega arith)
    (i.nodes n l).numbers)
  where
    go : (kind : Kind) → RowsRise 0 (node_at p.nodes n).rows → RowsRise 0 ((view_in kind p).rows n)
    go run_kind.Feasible h = h
    go run_kind.Recession h = zero_rows 0 (node_at p.nodes n).rows h
    go run_kind.Cost h = h

module _ (Has : Source → Type 0) where
  -- ---- a cut that is made
  of_parts : (cut : Stored) → Has (source_of cut) → EachUsed Has (uses_of cut) → EachRecord Has cut
  of_parts (Stored_of s uses constant form) h k = (h, k)

  made_records : (d : Datum) (s : Source) (uses : StoredUses) (cut : Stored) → Has s → EachUsed Has uses → made d s uses ≡ Ok (Some cut)
      → EachRecord Has cut
  made_records d s uses cut h k e =
      let q = made_parts d s uses cut e in
      of_parts cut (subst Has (sym q.0) h) (subst (EachUsed Has) (sym q.1) k)

  used_records : (uses : StoredUses) → UsesHave (EachRecord Has) uses → EachUsed Has uses
  used_records No_stored h = tt
  used_records (Use_stored w c uses) h = (h.0, used_records uses h.1)

  -- ---- where it holds of the cuts about the children, it holds of the cut that a solve gives
  pub solved_records : (t : Task) (all : Solved) → IsProblem (problem_of t) → IsToldOf t all → ((kind : CutKind) (m : Weighed) → IsForm m.rows → Has (record_of t.datum kind m))
      → Each (λ (c : ChildCuts). Each (EachRecord Has) c.cuts.items) t.children.items → IfSome (cut_given all) (EachRecord Has)
  solved_records t all fits told own h = subst (λ (s : Solved). IfSome (cut_given s) (EachRecord Has)) (sym told.told) (go told.origin told.comes)
    where
      made_of : (kind : CutKind) (m : Weighed) → IsForm m.rows → (cut : Stored)
          → cut_made t.datum kind (stored_cuts (is_priced t.kind) t.children.items) m ≡ Ok (Some cut) → EachRecord Has cut
      made_of kind m f cut e = made_records t.datum (record_of t.datum kind m)
          (stored_uses m.weights (stored_cuts (is_priced t.kind) t.children.items)) cut (own kind m f) (used_records _ (uses_have (EachRecord Has) t m h)) e

      kept : (f : Found) → IsTestable f → IfSome (cut_given (told_of t f)) (EachRecord Has)
      kept (found.Point x v m) k = point_told (EachRecord Has) (problem_of t) fits.rows_rise t.datum (is_priced t.kind)
          (stored_cuts (is_priced t.kind) t.children.items) made_of (is_priced t.kind) x v m k.1
      kept (found.NoPoint m) k = told_with (EachRecord Has) (problem_of t) fits.rows_rise t.datum (is_priced t.kind)
          (stored_cuts (is_priced t.kind) t.children.items) made_of solved.NoPoint (λ c k. k)
          (cut_made t.datum cut_kind.Ray (stored_cuts (is_priced t.kind) t.children.items) m) (made_of cut_kind.Ray m k)
      kept found.Loose k = absurd k
      kept found.PivotsEnded k = absurd k
      kept (found.Passed o) k = absurd k

      go : (f : Found) → HasOrigin (problem_of t) t.pivots f → IfSome (cut_given (told_of t f)) (EachRecord Has)
      go f (by_test k) = kept f k
      go f (by_path e) = subst (λ (f : Found). IfSome (cut_given (told_of t f)) (EachRecord Has)) (sym e)
          (found_told (EachRecord Has) (problem_of t) fits.rows_rise t.datum (is_priced t.kind)
          (stored_cuts (is_priced t.kind) t.children.items) made_of t.pivots)

  -- ---- the cuts that a run begins with
  snoc_records : (uses : StoredUses) (w : ℚ) (cut : Stored) → EachUsed Has uses → EachRecord Has cut → EachUsed Has (snoc uses w cut)
  snoc_records No_stored w cut h k = (k, tt)
  snoc_records (Use_stored v c uses) w cut h k = (h.0, snoc_records uses w cut h.1 k)

  children_records : (uses : StoredUses) (ss : List Share) (cuts : List Stored) → EachUsed Has uses → Each (EachRecord Has) cuts
      → EachUsed Has (uses_of_children uses ss cuts)
  children_records uses [] cuts h k = h
  children_records uses (s ∷ ss) [] h k = h
  children_records uses (s ∷ ss) (c ∷ cuts) h k = children_records (snoc uses s.share c) ss cuts (snoc_records uses s.share c h k.0) k.1

  ground_records : (d : Datum) (total : ℚ) (dual : List At) (cuts : List Stored) (cut : Stored) → RowsRise 0 d.rows
      → ((y : List Entry) → IsForm y → Has (ground_source d y)) → Each (EachRecord Has) cuts
      → ground_walk d total dual cuts ≡ Ok (Some cut) → EachRecord Has cut
  ground_records d total dual cuts cut rise own h e =
      let a = ended (quotients_from total (at dual d.node) [] d.rows)
      (λ y. made d (ground_source d y) (uses_of_children No_stored d.shares cuts)) (Some cut) e in
      made_records d (ground_source d a.result) (uses_of_children No_stored d.shares cuts) cut
      (own a.result (quotients_forms total (at dual d.node) d.rows [] a.result no_form (rows_begin d.rows rise) a.first_is))
      (children_records No_stored d.shares cuts tt h) a.next_is

  there_records : (cuts : List (Option Stored)) (ns : List ℕ) → Each (λ (c : ℕ). IfSome (slice_index_or cuts c None) (EachRecord Has)) ns
      → Each (EachRecord Has) (cuts_there cuts ns)
  there_records cuts [] h = tt
  there_records cuts (n ∷ ns) h = each-append (EachRecord Has) (option_to_list (slice_index_or cuts n None)) (cuts_there cuts ns)
      (go (slice_index_or cuts n None) h.0) (there_records cuts ns h.1)
    where
      go : (o : Option Stored) → IfSome o (EachRecord Has) → Each (EachRecord Has) (option_to_list o)
      go None h = tt
      go (Some cut) h = (h, tt)

  module _ (kind : Kind) (p : Program) (i : IsProgram p) (tree : Tree) (versions : List Version) (dual : List At) (cuts : List (Option Stored))
      (are : AreFirstCuts kind p tree versions dual cuts)
      (own : (n : ℕ) → Lives p n → (y : List Entry) → IsForm y → Has (ground_source (datum_in kind p n (version_of versions n)) y)) where
    cut_records : (n : ℕ) (cut : Stored) → Lives p n
        → (c : Stored) × ((slice_index_or cuts n None ≡ Some c) × IsFirstCut kind p tree versions dual cuts n c)
        → slice_index_or cuts n None ≡ Some cut → ((m : ℕ) → n < m → IfSome (slice_index_or cuts m None) (EachRecord Has)) → EachRecord Has cut
    cut_records n cut l (c, (f, walk)) e below =
        let same : c ≡ cut = (let q : Some c ≡ Some cut = sym f ∙ e in cc) in
        subst (EachRecord Has) same (ground_records (datum_in kind p n (version_of versions n)) (get_or tree.chances.totals n zero_ℚ) dual
        (cuts_there cuts (children_in (frame_of p) n)) c (rows_rise kind p i n l) (own n l) (there_records cuts (children_in (frame_of p) n)
        (each-map (λ m q. below m q.1) (children_in (frame_of p) n) (children_after p i n l))) walk)

    -- from the last nodes on
    first_from : (k n : ℕ) → length p.nodes ≤ n + k → IfSome (slice_index_or cuts n None) (EachRecord Has)
    first_from zero n less = go (slice_index_or cuts n None) refl
      where
        go : (o : Option Stored) → slice_index_or cuts n None ≡ o → IfSome o (EachRecord Has)
        go None e = tt
        go (Some cut) e = let q = passes-within is_live n p.nodes (are.only n cut e) in absurd (omega (arith, less, q))
    first_from (suc k) n less = go (slice_index_or cuts n None) refl (λ m low. first_from k m (omega (arith, less, low)))
      where
        go : (o : Option Stored) → slice_index_or cuts n None ≡ o → ((m : ℕ) → n < m → IfSome (slice_index_or cuts m None) (EachRecord Has))
            → IfSome o (EachRecord Has)
        go None e below = tt
        go (Some cut) e below = cut_records n cut (are.only n cut e) (are.there n (are.only n cut e)) e below

    pub first_records : (n : ℕ) → IfSome (slice_index_or cuts n None) (EachRecord Has)
    first_records n = first_from (length p.nodes) n (omega arith)
